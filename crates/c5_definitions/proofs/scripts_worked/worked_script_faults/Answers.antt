use Rattle.std.proofs.Common.{refl}
use Rattle.c5_definitions.specs.Numerals.{digits_after, magnitude_of, int_of_digits, turn_number_of}
use Rattle.c5_definitions.specs.Places.{new_name_in, type_in, table_in, key_in, row_name_in, int_in}
use Rattle.c5_definitions.specs.Places.{cell_in, int_column_of, column_in, rel_in, session_in}
use Rattle.c5_definitions.specs.Places.{turn_in, each_in, cells_in, row_in}
use Rattle.c5_definitions.specs.Statements.{new_table, table_words, table_line, heading_line}
use Rattle.c5_definitions.specs.Statements.{txn_words, read_words, read_line, turns_words}
use Rattle.c5_definitions.specs.Statements.{turns_line, later_line, outside_line, put_statement}
use Rattle.c5_definitions.specs.Statements.{put_words, del_words, need_words, add_words, copy_words}
use Rattle.c5_definitions.specs.Statements.{form_of, statement_words, statement_line, row_words}
use Rattle.c5_definitions.specs.Statements.{sum_words, question_line, end_line, inside_line}
use Rattle.c5_definitions.specs.Statements.{known_line, after_line, log_line, after_front_line}
use Rattle.c5_definitions.specs.ScriptSoFar.{is_closed}
use Rattle.c5_definitions.specs.Lines.{lines_of, after_lines, words_at, words_of}
use Rattle.c5_definitions.specs.Script.{script_from, script_of, front_from, front_of}
use Rattle.c5_definitions.proofs.scripts_worked.worked_script_faults.Goals as goal

pub returns : goal.returns
unfolding digits_after magnitude_of int_of_digits turn_number_of new_name_in type_in table_in key_in
    row_name_in int_in cell_in int_column_of column_in rel_in session_in turn_in each_in cells_in
    row_in new_table table_words table_line heading_line txn_words read_words read_line turns_words
    turns_line later_line outside_line put_statement put_words del_words need_words add_words
    copy_words form_of statement_words statement_line row_words sum_words question_line end_line
    inside_line known_line after_line log_line after_front_line is_closed lines_of after_lines
    words_at words_of script_from script_of front_from front_of
returns c =
    record {
      number = refl;
      wrong_type = refl;
      unclosed = refl;
      byte = refl;
      quote = refl;
      line_ends = refl;
      no_bytes = refl;
    }
