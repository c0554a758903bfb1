-- The first two transfers of generated scripts, computed apart from these definitions.
use Rattle.std.specs.Prelude.{ℕ, pos, negsuc, codes, List, [], ◌∷◌}
use Rattle.c5_rows.specs.declared.writes.RowName.{RowName}
use Rattle.c5_definitions.specs.declared.script.Rel.TheVariants.{Ge}
use Rattle.c5_definitions.specs.declared.script.Statement.{Statement}
use Rattle.c5_definitions.specs.declared.script.Statement.TheVariants.{Need, Add}
use Rattle.c5_definitions.specs.Generated.{Transfer}

-- what the first two draws move
abbrev pub first_transfer : Transfer
first_transfer = record { from = 27; to = 9; amount = 96 }

abbrev pub second_transfer : Transfer
second_transfer = record { from = 32; to = 16; amount = 21 }

abbrev pub in_acct : List ℕ → RowName
in_acct key = record { table = 0; key = key }

-- the body of transaction 1
abbrev pub first_transfer_body : List Statement
first_transfer_body =
    Need (in_acct (codes "a27")) 0 Ge (pos 96)
    ∷ Add (in_acct (codes "a27")) 0 (negsuc 95)
    ∷ Add (in_acct (codes "a09")) 0 (pos 96)
    ∷ []
