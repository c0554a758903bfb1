use Rattle.std.proofs.Common.{arith}
use Rattle.c5_frames.specs.DecoderStates.{tables_of}
use Rattle.c5_frames.proofs.Plain.{types-due, types-length, unread-end}
use Rattle.c5_frames.proofs.header.after_plain.Goals as goal

pub after_column_types-requires-clause-some : goal.after_column_types-requires-clause-some
after_column_types-requires-clause-some c =
    let due =
    types-due c.args.stage c.in-ColumnTypes.missing c.in-ColumnTypes.name c.in-ColumnTypes.size
    (tables_of c.args.schema.now) c.in-ColumnTypes.is c.requires.due in
    omega (
      arith,
      types-length c.args.stage c.in-ColumnTypes.missing c.in-ColumnTypes.name
          c.in-ColumnTypes.size c.args.item.now c.in-ColumnTypes.is c.requires.whole,
      due.2,
    )

pub after_column_types-requires-clause-few : goal.after_column_types-requires-clause-few
after_column_types-requires-clause-few c =
    let due =
    types-due c.args.stage c.in-ColumnTypes.missing c.in-ColumnTypes.name c.in-ColumnTypes.size
    (tables_of c.args.schema.now) c.in-ColumnTypes.is c.requires.due in
    omega (
      arith,
      types-length c.args.stage c.in-ColumnTypes.missing c.in-ColumnTypes.name
          c.in-ColumnTypes.size c.args.item.now c.in-ColumnTypes.is c.requires.whole,
      due.3,
    )

pub after_column_types-requires-clause-coming : goal.after_column_types-requires-clause-coming
after_column_types-requires-clause-coming c =
    (types-due c.args.stage c.in-ColumnTypes.missing c.in-ColumnTypes.name c.in-ColumnTypes.size
    (tables_of c.args.schema.now) c.in-ColumnTypes.is c.requires.due).0

pub after_column_types-requires-clause-new : goal.after_column_types-requires-clause-new
after_column_types-requires-clause-new c =
    (types-due c.args.stage c.in-ColumnTypes.missing c.in-ColumnTypes.name c.in-ColumnTypes.size
    (tables_of c.args.schema.now) c.in-ColumnTypes.is c.requires.due).1

pub returns-in-NothingMore : goal.returns-in-NothingMore
returns-in-NothingMore c = unread-end c.args.stage
    (tables_of c.args.schema.now) c.args.item.now c.in-NothingMore.is
