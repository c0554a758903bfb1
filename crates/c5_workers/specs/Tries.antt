-- The numbers of a worker, and what tries make of them.
use Rattle.std.specs.Prelude.{◌≡◌, ◌≤◌, ◌<◌, ◌+◌, ◌++◌, ◌&&◌, ℕ, true, not, nat_lt}
use Rattle.std.specs.Prelude.{List, [], ◌∷◌, length, take, drop}
use Rattle.std.specs.List.{AllByRecursion}
use Rattle.c5_rows.specs.declared.writes.RowName.{RowName}
use Rattle.c5_definitions.specs.WriteNumbers.{owner_of, IsWrite}
use Rattle.c5_rows.specs.Numbers.{is_among}
use Rattle.c5_board.specs.Boards.{Pass, names}
use Rattle.c5_chains.specs.declared.install.Install.{Install}
use Rattle.c5_chains.specs.declared.install.Install.TheVariants.{Installed, PutOff}
use Rattle.c5_chains.specs.Tries.{after_try, head_found, IsCaused}

-- each number is below those after it
abbrev pub Ascends : List ℕ → Type 0
Ascends [] = Unit {0}
Ascends (n ∷ numbers) = AllByRecursion (λ m. n < m) numbers × Ascends numbers

-- a write that worker i has put off
pub record IsWaiting (workers : ℕ) (ns : List RowName) (scheduled i next w : ℕ) : Type 0 where
  pub write : IsWrite ns w
  pub owned : owner_of workers w ≡ i
  pub below : w < next
  pub scheduled_so : w ≤ scheduled

-- the role of worker i is among the roles, and its writes below the next number are installed but
-- for those of the list
pub record HasTried (workers : ℕ) (ns : List RowName) (roles installed : List ℕ)
    (scheduled i next : ℕ) (list : List ℕ) : Type 0 where
  pub role : is_among i roles ≡ true
  pub positive : 1 ≤ next
  pub owned : owner_of workers next ≡ i
  pub bound : next ≤ length ns + workers
  pub waiting : AllByRecursion (IsWaiting workers ns scheduled i next) list
  pub ascends : Ascends list
  pub done : (w : ℕ) → IsWrite ns w → owner_of workers w ≡ i
      → is_among w installed ≡ (nat_lt w next && not (is_among w list))

-- the same of a pass
abbrev pub FitsList : ℕ → ℕ → List ℕ → Pass → Type 0
FitsList i next list p = HasTried p.board.workers
    (names p.board) p.roles p.installed p.scheduled i next list

-- the first of the list, or the next number
abbrev pub least_of : List ℕ → ℕ → ℕ
least_of [] next = next
least_of (w ∷ list) next = w

-- ---- tries

-- the numbers were tried in order, and this is what became of each
abbrev pub Tries : Pass → Pass → List ℕ → List Install → Type 0
Tries p q [] [] = q ≡ p
Tries p q [] (result ∷ results) = ⊥
Tries p q (w ∷ list) [] = ⊥
Tries p q (w ∷ list) (result ∷ results) = IsCaused p w result
    × Tries (after_try p w (head_found (names p.board) w result)) q list results

-- those of the numbers that were put off
abbrev pub put_off_of : List ℕ → List Install → List ℕ
put_off_of [] results = []
put_off_of (w ∷ list) [] = []
put_off_of (w ∷ list) (Installed ∷ results) = put_off_of list results
put_off_of (w ∷ list) (PutOff seen ∷ results) = w ∷ put_off_of list results

-- the numbers of a list were tried in order, and these were put off
pub record Retries (old new : Pass) (list kept : List ℕ) : Type 0 where
  pub results : List Install
  pub tries : Tries old new list results
  pub put_off : kept ≡ put_off_of list results

-- so many of the numbers were tried, and those that were put off are at the beginning
pub record IsRetrying (old now : Pass) (i next : ℕ) (before list : List ℕ)
    (place kept : ℕ) : Type 0 where
  pub order : kept ≤ place
  pub count : length list ≡ length before
  pub fits : FitsList i next (take kept list ++ drop place list) now
  pub left : drop place list ≡ drop place before
  pub results : List Install
  pub tries : Tries old now (take place before) results
  pub put_off : take kept list ≡ put_off_of (take place before) results

-- the next number was tried, and the list with it if it was put off
abbrev pub with_next : List ℕ → ℕ → Install → List ℕ
with_next list next Installed = list
with_next list next (PutOff seen) = list ++ next ∷ []
