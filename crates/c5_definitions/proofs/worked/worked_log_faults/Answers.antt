use Rattle.std.proofs.Common.{refl}
use Rattle.c5_definitions.specs.Numbers.{number_32, number_64, signed_64}
use Rattle.c5_definitions.specs.Frames.{key_at, text_at, int_at, cell_at, cells_at, row_at}
use Rattle.c5_definitions.specs.Frames.{change_at, table_numbered, write_at, mark_at, end_at}
use Rattle.c5_definitions.specs.Frames.{frame_at}
use Rattle.c5_definitions.specs.Items.{header_count, new_table_name, type_of_byte, types_of_bytes}
use Rattle.c5_definitions.specs.Items.{after_write, after_mark, after_end, after_frame, after_item}
use Rattle.c5_definitions.specs.Items.{after_whole, after_byte, after_bytes, whole_from, whole}
use Rattle.c5_definitions.specs.Items.{log_of, log_fault_of}
use Rattle.c5_definitions.proofs.worked.worked_log_faults.Goals as goal

pub returns-clause-of_headers : goal.returns-clause-of_headers
unfolding number_32 number_64 signed_64 key_at text_at int_at cell_at cells_at row_at change_at
    table_numbered write_at mark_at end_at frame_at header_count new_table_name type_of_byte
    types_of_bytes after_write after_mark after_end after_frame after_item after_whole after_byte
    after_bytes whole_from whole log_of log_fault_of
returns-clause-of_headers c =
    (refl, (refl, (refl, (refl, (refl, (refl, (refl, (refl, (refl, (refl, tt))))))))))

pub returns-clause-of_frames : goal.returns-clause-of_frames
unfolding number_32 number_64 signed_64 key_at text_at int_at cell_at cells_at row_at change_at
    table_numbered write_at mark_at end_at frame_at header_count new_table_name type_of_byte
    types_of_bytes after_write after_mark after_end after_frame after_item after_whole after_byte
    after_bytes whole_from whole log_of log_fault_of
returns-clause-of_frames c = (
  refl,
  (
    refl,
    (refl, (refl, (refl, (refl, (refl, (refl, (refl, (refl, (refl, (refl, (refl, tt))))))))))),
  ),
)

pub returns-clause-of_places : goal.returns-clause-of_places
unfolding number_32 number_64 signed_64 key_at text_at int_at cell_at cells_at row_at change_at
    table_numbered write_at mark_at end_at frame_at header_count new_table_name type_of_byte
    types_of_bytes after_write after_mark after_end after_frame after_item after_whole after_byte
    after_bytes whole_from whole log_of log_fault_of
returns-clause-of_places c =
    (refl, (refl, (refl, (refl, (refl, (refl, (refl, (refl, (refl, (refl, tt))))))))))

pub returns-clause-of_ends : goal.returns-clause-of_ends
unfolding number_32 number_64 signed_64 key_at text_at int_at cell_at cells_at row_at change_at
    table_numbered write_at mark_at end_at frame_at header_count new_table_name type_of_byte
    types_of_bytes after_write after_mark after_end after_frame after_item after_whole after_byte
    after_bytes whole_from whole log_of log_fault_of
returns-clause-of_ends c = (refl, (refl, (refl, (refl, (refl, (refl, (refl, tt)))))))
