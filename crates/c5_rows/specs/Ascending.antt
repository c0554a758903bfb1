-- Lists whose elements strictly ascend by a name.
use Rattle.std.specs.Prelude.{List, [], ◌∷◌}

-- the first element, if there is one, has a name above this one
abbrev pub IsBelowFirstBy : {X K : Type 0} → (K → K → Type 0) → (X → K) → K → List X → Type 0
IsBelowFirstBy Below name bound [] = Unit {0}
IsBelowFirstBy Below name bound (x ∷ xs) = Below bound (name x)

-- the name of each element is above that of the one before it
abbrev pub IsAscendingBy : {X K : Type 0} → (K → K → Type 0) → (X → K) → List X → Type 0
IsAscendingBy Below name [] = Unit {0}
IsAscendingBy Below name (x ∷ xs) = IsBelowFirstBy Below name (name x) xs
    × IsAscendingBy Below name xs
