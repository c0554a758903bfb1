use Rattle.std.proofs.Common.{◌≡◌, ℕ, suc, [], ◌∷◌, map, length, vec_capacity, ◌+◌}
use Rattle.std.specs.Prelude.{All}
use Rattle.c5_rows.specs.Numbers.{numbers_from}
use Rattle.turn_slot.specs.Views.{new_view}
use Rattle.turn_slot.specs.Passes.{numbers, origin_of, IsNew}
use Rattle.turn_slot.proofs.slot.TurnSlot.deal.Given as goal

abbrev pub invariant-loop-number : goal.invariant-loop-number
invariant-loop-number g l = record {
  table : l.seat.table_id ≡ l.initial.seat.table_id;
  left : (k : ℕ) × (l.number + k ≡ l.count)
      × (l.seat.me
      ≡ (new_view (origin_of g.V.Kept.base l.self) (numbers_from l.number (suc k)), []));
  new : All (IsNew l.self) l.list.items;
  alone : map numbers l.list.items ≡ map (λ n. n ∷ []) (numbers_from 1 (length l.list.items));
  long : length l.list.items + 1 ≡ l.number;
  room : vec_capacity l.list ≡ vec_capacity l.initial.list;
}
