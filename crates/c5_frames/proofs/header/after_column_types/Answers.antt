use Rattle.std.proofs.Common.{◌≡◌, ◌∙◌, ◌-◌, ◌++◌, ◌∷◌, ℕ, eqb, List, [], Ok, sym, ap, cond, refl}
use Rattle.c5_rows.specs.declared.cells.CellType.{CellType}
use Rattle.c5_rows.specs.declared.tables.TableDef.{TableDef}
use Rattle.c5_definitions.specs.Items.{Item, column_types, frame_length, name_length}
use Rattle.c5_definitions.specs.Items.{types_of_bytes, after_item}
use Rattle.c5_frames.specs.Stages.{item_of}
use Rattle.c5_frames.specs.DecoderStates.{tables_of, tables_after}
use Rattle.c5_frames.proofs.header.after_column_types.Goals as goal

columns-taken : (missing size : ℕ) (name : List ℕ) (tables : List TableDef) (item : List ℕ)
    (columns : List CellType) → types_of_bytes item ≡ Ok columns
    → tables_after (column_types missing name size) tables item
    ≡ Ok (
      tables ++ record { name = name; columns = columns }
          ∷ [],
      cond (eqb missing 1) frame_length (name_length (missing - 1)),
    )
unfolding after_item
columns-taken missing size name tables item columns e = rw e refl

pub returns-in-Ok : goal.returns-in-Ok
returns-in-Ok c = λ size.
    columns-taken c.args.missing size c.args.name
    (tables_of c.args.schema.now) c.args.item.now c.in-Ok.columns (sym c.in-Ok.ensures)
    ∙ ap (λ (next : Item). Ok (
      tables_of c.args.schema.now
          ++ record { name = c.args.name; columns = c.in-Ok.columns } ∷ [],
      next,
    ))
    (sym c.stage_after_table.ensures)
    ∙ ap (λ (tables : List TableDef). Ok (tables, item_of c.stage_after_table.result))
    (sym c.add_table.ensures)
