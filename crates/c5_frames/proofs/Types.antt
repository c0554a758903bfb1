-- The types of columns, read one after the other.
use Rattle.std.proofs.Common.{◌≡◌, ◌∙◌, ℕ, ◌+◌, ◌<◌, ◌≤◌, Bool, true, false, cond, Some, None, List}
use Rattle.std.proofs.Common.{[], ◌∷◌, ◌++◌, length, get_or, take, drop, set, Result, Ok, Err, refl}
use Rattle.std.proofs.Common.{sym, ap, append_assoc}
use Rattle.std.proofs.lemmas.List.{append-nil, take_more_set, drop_all, drop_more}
use Rattle.c5_rows.specs.declared.cells.CellType.{CellType}
use Rattle.c5_definitions.specs.declared.fault.LogKind.{LogKind}
use Rattle.c5_definitions.specs.Steps.{◌>>=◌}
use Rattle.c5_definitions.specs.Items.{type_of_byte, types_of_bytes}

pub is_chosen : {A : Type 0} (b : Bool) (x y : A) → Some y ≡ cond b (Some x) None → y ≡ x
is_chosen true x y e = cc
is_chosen false x y e = absurd cc

-- ---- the types of columns

-- the types that were read before, and those that are still read
abbrev pub with_types : List CellType → Result (List CellType) LogKind
    → Result (List CellType) LogKind
with_types front read = read >>= λ types. Ok (front ++ types)

one_type : (front : List CellType) (first : CellType) (read : Result (List CellType) LogKind)
    → with_types front (read >>= λ types. Ok (first ∷ types))
    ≡ with_types (front ++ first ∷ []) read
one_type front first (Ok types) =
    ap (λ (all : List CellType). Ok all) (sym (append_assoc front (first ∷ []) types))
one_type front first (Err fault) = refl

abbrev types_behind : List ℕ → Result CellType LogKind → Result (List CellType) LogKind
types_behind bytes read = read >>= λ first. types_of_bytes bytes >>= λ others. Ok (first ∷ others)

types-step : (bytes : List ℕ) (i d : ℕ) (read : Result CellType LogKind) → i < length bytes
    → type_of_byte (get_or bytes i d) ≡ read
    → types_of_bytes (drop i bytes) ≡ types_behind (drop (i + 1) bytes) read
unfolding types_of_bytes
types-step bytes i d read lt is =
    ap types_of_bytes (drop_more bytes i d lt) ∙ ap (types_behind (drop (i + 1) bytes)) is

pub types-more : (bytes : List ℕ) (i d : ℕ) (types : List CellType) (type : CellType)
    (total : Result (List CellType) LogKind)
    → i < length bytes → i < length types → type_of_byte (get_or bytes i d) ≡ Ok type
    → with_types (take i types) (types_of_bytes (drop i bytes)) ≡ total
    → with_types (take (i + 1) (set types i type)) (types_of_bytes (drop (i + 1) bytes)) ≡ total
types-more bytes i d types type total lt room read so_far =
    let others = types_of_bytes (drop (i + 1) bytes) in
    ap (λ (f : List CellType). with_types f others) (take_more_set types i type room)
    ∙ sym (one_type (take i types) type others)
    ∙ sym (ap (with_types (take i types)) (types-step bytes i d (Ok type) lt read))
    ∙ so_far

pub types-fail : (bytes : List ℕ) (i d : ℕ) (front : List CellType) (fault : LogKind)
    (total : Result (List CellType) LogKind)
    → i < length bytes → type_of_byte (get_or bytes i d) ≡ Err fault
    → with_types front (types_of_bytes (drop i bytes)) ≡ total → total ≡ Err fault
types-fail bytes i d front fault total lt read so_far =
    sym so_far ∙ ap (with_types front) (types-step bytes i d (Err fault) lt read)

pub types-all : (bytes : List ℕ) (i : ℕ) (front : List CellType)
    (total : Result (List CellType) LogKind) → length bytes ≤ i
    → with_types front (types_of_bytes (drop i bytes)) ≡ total → total ≡ Ok front
unfolding types_of_bytes
types-all bytes i front total le so_far =
    sym so_far ∙ ap (λ (bs : List ℕ). with_types front (types_of_bytes bs))
    (drop_all i bytes le) ∙ ap (λ (types : List CellType). Ok types) (append-nil front)
