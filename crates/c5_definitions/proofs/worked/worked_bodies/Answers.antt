use Rattle.std.proofs.Common.{◌≡◌, ◌∙◌, ◌∷◌, [], None, Some, Option, List, ap, refl}
use Rattle.std.specs.Prelude.{pos, negsuc, codes, ◌-◌}
use Rattle.std.specs.FinMap.{get, get-insert}
use Rattle.c5_rows.specs.declared.cells.Cell.{Cell}
use Rattle.c5_rows.specs.declared.writes.RowName.{RowName}
use Rattle.c5_rows.specs.Order.{row_name_cmp_total}
use Rattle.c5_rows.specs.declared.writes.Change.TheVariants as changes
use Rattle.c5_rows.specs.State.{State, after_change}
use Rattle.c5_definitions.specs.declared.script.Statement.{Statement}
use Rattle.c5_definitions.specs.declared.script.Statement.TheVariants.{Put, Del, Need, Add, Copy}
use Rattle.c5_definitions.specs.declared.script.Rel.TheVariants.{Lt, Le, Eq, Ge, Gt}
use Rattle.c5_definitions.specs.Eval.{write_of, eval}
use Rattle.c5_definitions.specs.WorkedRuns.{at, int_row, start, put_of, declined, wrote}
use Rattle.c5_definitions.proofs.Runs.{row_at_start, got, single, nothing, set_is, second, two_set}
use Rattle.c5_definitions.proofs.worked.worked_bodies.Goals as goal

pub returns-clause-statements : goal.returns-clause-statements
returns-clause-statements c = (
  nothing start,
  (
    single (Put (at (codes "c")) (int_row (pos 7))) start None refl,
    (
      single (Put (at (codes "a")) (int_row (pos 10))) start None refl,
      (
        single (Del (at (codes "a"))) start None refl,
        (
          single (Del (at (codes "z"))) start None refl,
          (
            single (Add (at (codes "a")) 0 (pos 5)) start (row_at_start (at (codes "a")))
                (got (at (codes "a"))),
            (
              single (Add (at (codes "b")) 0 (pos 3)) start (row_at_start (at (codes "b")))
                  (got (at (codes "b"))),
              (
                single (Add (at (codes "z")) 0 (pos 5)) start (row_at_start (at (codes "z")))
                    (got (at (codes "z"))),
                (
                  single (Add (at (codes "m")) 0 (pos 1)) start (row_at_start (at (codes "m")))
                      (got (at (codes "m"))),
                  (
                    single (Copy (at (codes "a")) (at (codes "c"))) start
                        (row_at_start (at (codes "a"))) (got (at (codes "a"))),
                    (
                      single (Copy (at (codes "z")) (at (codes "a"))) start
                          (row_at_start (at (codes "z"))) (got (at (codes "z"))),
                      tt,
                    ),
                  ),
                ),
              ),
            ),
          ),
        ),
      ),
    ),
  ),
)

pub returns-clause-needs : goal.returns-clause-needs
returns-clause-needs c = (
  single (Need (at (codes "a")) 0 Lt (pos 10)) start (row_at_start (at (codes "a")))
      (got (at (codes "a"))),
  (
    single (Need (at (codes "a")) 0 Lt (pos 11)) start (row_at_start (at (codes "a")))
        (got (at (codes "a"))),
    (
      single (Need (at (codes "a")) 0 Le (pos 9)) start (row_at_start (at (codes "a")))
          (got (at (codes "a"))),
      (
        single (Need (at (codes "a")) 0 Le (pos 10)) start (row_at_start (at (codes "a")))
            (got (at (codes "a"))),
        (
          single (Need (at (codes "a")) 0 Eq (pos 9)) start (row_at_start (at (codes "a")))
              (got (at (codes "a"))),
          (
            single (Need (at (codes "a")) 0 Eq (pos 10)) start (row_at_start (at (codes "a")))
                (got (at (codes "a"))),
            (
              single (Need (at (codes "b")) 0 Ge (negsuc 1)) start (row_at_start (at (codes "b")))
                  (got (at (codes "b"))),
              (
                single (Need (at (codes "b")) 0 Ge (negsuc 2)) start (row_at_start (at (codes "b")))
                    (got (at (codes "b"))),
                (
                  single (Need (at (codes "b")) 0 Gt (negsuc 2)) start
                      (row_at_start (at (codes "b"))) (got (at (codes "b"))),
                  (
                    single (Need (at (codes "b")) 0 Gt (negsuc 3)) start
                        (row_at_start (at (codes "b"))) (got (at (codes "b"))),
                    (
                      single (Need (at (codes "z")) 0 Le (pos 0)) start
                          (row_at_start (at (codes "z"))) (got (at (codes "z"))),
                      tt,
                    ),
                  ),
                ),
              ),
            ),
          ),
        ),
      ),
    ),
  ),
)

-- ---- two statements

abbrev row_a : RowName
row_a = at (codes "a")

abbrev row_c : RowName
row_c = at (codes "c")

abbrev put_c : Statement
put_c = Put row_c (int_row (pos 7))

abbrev put_1 : State
put_1 = after_change row_c (changes.Put (int_row (pos 1))) start

twice : eval (put_c ∷ Add row_c 0 (pos 1) ∷ []) start ≡ wrote (put_of (codes "c") (pos 8) ∷ [])
unfolding eval
twice =
    second (Add row_c 0 (pos 1)) start row_c (Some (int_row (pos 7))) (Some (int_row (pos 7)))
    (set_is start row_c (Some (int_row (pos 7))))
    ∙ (two_set start row_c (Some (int_row (pos 7))) row_c (Some (int_row (pos 8)))
    ∙ ap (λ (r : Option (List Cell)). wrote (write_of row_c r ∷ []))
    (set_is (after_change row_c (changes.Put (int_row (pos 7))) start) row_c
    (Some (int_row (pos 8)))))

taken_back : eval (put_c ∷ Add (at (codes "z")) 0 (pos 1) ∷ []) start ≡ declined
unfolding eval
taken_back =
    second (Add (at (codes "z")) 0 (pos 1)) start row_c (Some (int_row (pos 7))) None
    (get-insert row_name_cmp_total start row_c (int_row (pos 7)) (at (codes "z"))
    ∙ got (at (codes "z")))

ascending : eval (Put row_c (int_row (pos 1)) ∷ Put row_a (int_row (pos 2)) ∷ []) start
    ≡ wrote (put_of (codes "a") (pos 2) ∷ put_of (codes "c") (pos 1) ∷ [])
unfolding eval
ascending =
    two_set start row_c (Some (int_row (pos 1))) row_a (Some (int_row (pos 2)))
    ∙ (ap (λ (r : Option (List Cell)).
    wrote (write_of row_a r ∷ write_of row_c (get (after_change row_a
    (changes.Put (int_row (pos 2))) put_1) row_c) ∷ []))
    (set_is put_1 row_a (Some (int_row (pos 2))))
    ∙ ap (λ (r : Option (List Cell)).
    wrote (put_of (codes "a") (pos 2) ∷ write_of row_c r ∷ []))
    (get-insert row_name_cmp_total put_1 row_a (int_row (pos 2)) row_c
    ∙ set_is start row_c (Some (int_row (pos 1)))))

deleted : eval (Del row_a ∷ Need row_a 0 Eq (pos 10) ∷ []) start ≡ declined
unfolding eval
deleted = second (Need row_a 0 Eq (pos 10)) start row_a None None (set_is start row_a None)

pub returns-clause-sequences : goal.returns-clause-sequences
returns-clause-sequences c = (twice, (taken_back, (ascending, (deleted, tt))))
