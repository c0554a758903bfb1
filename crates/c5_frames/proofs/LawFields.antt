-- What a reader takes from the beginning of bytes, and numbers and checked bytes that are read.
use Rattle.std.proofs.Common.{◌≡◌, ◌∙◌, ℕ, zero, suc, ◌+◌, ◌^◌, ◌<◌, ◌≤◌, Bool, true, false, ◌&&◌}
use Rattle.std.proofs.Common.{cond, leb, List, [], ◌∷◌, ◌++◌, length, get_or, take, drop, Result}
use Rattle.std.proofs.Common.{Ok, Err, refl, sym, ap, subst, append_assoc, arith, inl, inr}
use Rattle.std.specs.Int.{w32, w64, to_be_bytes, cast_unsigned}
use Rattle.std.specs.Prelude.{FitsSigned}
use Rattle.std.specs.List.{list_all}
use Rattle.std.proofs.Math.Facts.{sfits_to_z}
use Rattle.std.proofs.lemmas.Bool.{cases_lt, leb-true}
use Rattle.std.proofs.lemmas.Int.{of_z-to_z}
use Rattle.std.proofs.lemmas.List.{take-append-drop, length-take, get_or-drop, get_or-take}
use Rattle.std.proofs.lemmas.List.{get_or_past}
use Rattle.std.proofs.lemmas.Nat.{be_bytes_4, be_bytes_8}
use Rattle.byteorder.specs.Endian.{big_number}
use Rattle.c5_rows.specs.declared.names.Bad.{Bad}
use Rattle.c5_rows.specs.declared.names.Bad.TheVariants.{Length, Byte}
use Rattle.c5_rows.specs.Bytes.{AreBytes, checked_bytes}
use Rattle.c5_definitions.specs.Spelling.{spelled_u32, spelled_u64}
use Rattle.c5_definitions.specs.declared.fault.LogKind.{LogKind}
use Rattle.c5_definitions.specs.Numbers.{number_32, number_64, signed_64}
use Rattle.c5_definitions.specs.Steps.{◌>>=◌, or_cause}

-- each place holds a byte; after the end 0 counts
abbrev pub IsBytes : List ℕ → Type 0
IsBytes bytes = (i : ℕ) → get_or bytes i 0 < 256

pub IsBytes-drop : (n : ℕ) (bytes : List ℕ) → IsBytes bytes → IsBytes (drop n bytes)
IsBytes-drop n bytes h i = rw get_or-drop (h (n + i))

pub IsBytes-take : (n : ℕ) (bytes : List ℕ) → IsBytes bytes → IsBytes (take n bytes)
IsBytes-take n bytes h i =
    elim (cases_lt i n) [
      | inl lt ↦ rw (get_or-take n bytes i 0 lt) (h i)
      | inr le ↦ rw (get_or_past (take n bytes) i 0 (omega (arith, length-take n bytes)))
          (omega arith)
    ]

pub IsBytes-rest : (byte : ℕ) (bytes : List ℕ) → IsBytes (byte ∷ bytes) → IsBytes bytes
IsBytes-rest byte bytes h i = h (suc i)

pub IsBytes-append : (front rest : List ℕ) → IsBytes front → IsBytes rest → IsBytes (front ++ rest)
IsBytes-append [] rest h k i = k i
IsBytes-append (byte ∷ front) rest h k zero = h 0
IsBytes-append (byte ∷ front) rest h k (suc i) =
    IsBytes-append front rest (IsBytes-rest byte front h) k i

-- what a reader took from the beginning
pub record Takes (bytes text rest : List ℕ) : Type 0 where
  pub parts : bytes ≡ text ++ rest
  pub rest_fits : IsBytes rest

pub Takes-then : (a x b y c : List ℕ) → Takes a x b → Takes b y c → Takes a (x ++ y) c
Takes-then a x b y c p q =
    record {
      parts = p.parts ∙ ap (λ (t : List ℕ). x ++ t) q.parts ∙ sym (append_assoc x y c);
      rest_fits = q.rest_fits;
    }

pub Takes-cons : (byte : ℕ) (b y c : List ℕ) → Takes b y c → Takes (byte ∷ b) (byte ∷ y) c
Takes-cons byte b y c q =
    record { parts = ap (λ (t : List ℕ). byte ∷ t) q.parts; rest_fits = q.rest_fits }

-- ---- tests that let something through

pub passed : {A E : Type 0} (b : Bool) (d : E) (r : Result A E) (y : A) → cond b (Err d) r ≡ Ok y
    → (b ≡ false) × (r ≡ Ok y)
passed true d r y e = absurd cc
passed false d r y e = (refl, e)

pub held : {A E : Type 0} (b : Bool) (d : E) (r : Result A E) (y : A) → cond b r (Err d) ≡ Ok y
    → (b ≡ true) × (r ≡ Ok y)
held true d r y e = (refl, e)
held false d r y e = absurd cc

pub both : (a b : Bool) → (a && b) ≡ true → (a ≡ true) × (b ≡ true)
both true b e = (refl, e)
both false b e = absurd cc

abbrev pub done : {A E : Type 0} → A → Result A E
done x = Ok x

pub ok_is : {A E : Type 0} (x y : A) → done {E = E} x ≡ done {E = E} y → x ≡ y
ok_is x y e = cc

pub or_cause-ok : {A : Type 0} (fault : LogKind) (r : Result A Bad) (x : A)
    → or_cause fault r ≡ Ok x → r ≡ Ok x
or_cause-ok fault (Ok y) x e = ap (λ (v : _). Ok v) (ok_is y x e)
or_cause-ok fault (Err bad) x e = absurd cc

pub checked-ok : (least most : ℕ) (allowed : ℕ → Bool) (bytes x : List ℕ)
    → checked_bytes least most allowed bytes ≡ Ok x → (x ≡ bytes) × AreBytes least most allowed x
checked-ok least most allowed bytes x e =
    let a = held (leb least (length bytes) && leb (length bytes) most) Length
    (cond (list_all allowed bytes) (Ok bytes) (Err Byte)) x e in
    let sizes = both (leb least (length bytes)) (leb (length bytes) most) a.0 in
    let b = held (list_all allowed bytes) Byte (Ok bytes) x a.1 in
    let same : bytes ≡ x = ok_is bytes x b.1 in
    let are : AreBytes least most allowed bytes =
    record {
      no_shorter = leb-true _ _ sizes.0;
      no_longer = leb-true _ _ sizes.1;
      each = b.0;
    } in
    (sym same, subst (AreBytes least most allowed) same are)

-- the value of a step that did not fail
pub bind_ok : {A B E : Type 0} (r : Result A E) (f : A → Result B E) (y : B) → (r >>= f) ≡ Ok y
    → (x : A) × (r ≡ Ok x) × (f x ≡ Ok y)
bind_ok (Ok x) f y e = (x, refl, e)
bind_ok (Err cause) f y e = absurd cc

-- ---- numbers

pub u32-takes : (bytes : List ℕ) → 4 ≤ length bytes → IsBytes bytes
    → Takes bytes (spelled_u32 (number_32 bytes)) (drop 4 bytes)
unfolding spelled_u32 number_32
u32-takes bytes long fits =
    let front : to_be_bytes w32 (big_number 4 bytes) ≡ take 4 bytes =
    be_bytes_4 (take 4 bytes) (big_number 4 bytes) (omega (arith, length-take 4 bytes))
    (IsBytes-take 4 bytes fits)
    (omega (
      arith,
      get_or-take 4 bytes 0 0 (omega arith),
      get_or-take 4 bytes 1 0 (omega arith),
      get_or-take 4 bytes 2 0 (omega arith),
      get_or-take 4 bytes 3 0 (omega arith),
    )) in
    record {
      parts = sym (take-append-drop 4 bytes) ∙ ap (λ (t : List ℕ). t ++ drop 4 bytes)
          (sym front);
      rest_fits = IsBytes-drop 4 bytes fits;
    }

pub u32-below : (bytes : List ℕ) → IsBytes bytes → number_32 bytes < 2 ^ 32
unfolding number_32
u32-below bytes fits = omega (arith, fits 0, fits 1, fits 2, fits 3)

pub u64-takes : (bytes : List ℕ) → 8 ≤ length bytes → IsBytes bytes
    → Takes bytes (spelled_u64 (number_64 bytes)) (drop 8 bytes)
unfolding spelled_u64 number_64
u64-takes bytes long fits =
    let front : to_be_bytes w64 (big_number 8 bytes) ≡ take 8 bytes =
    be_bytes_8 (take 8 bytes) (big_number 8 bytes) (omega (arith, length-take 8 bytes))
    (IsBytes-take 8 bytes fits)
    (omega (
      arith,
      get_or-take 8 bytes 0 0 (omega arith),
      get_or-take 8 bytes 1 0 (omega arith),
      get_or-take 8 bytes 2 0 (omega arith),
      get_or-take 8 bytes 3 0 (omega arith),
      get_or-take 8 bytes 4 0 (omega arith),
      get_or-take 8 bytes 5 0 (omega arith),
      get_or-take 8 bytes 6 0 (omega arith),
      get_or-take 8 bytes 7 0 (omega arith),
    )) in
    record {
      parts = sym (take-append-drop 8 bytes) ∙ ap (λ (t : List ℕ). t ++ drop 8 bytes)
          (sym front);
      rest_fits = IsBytes-drop 8 bytes fits;
    }

pub u64-below : (bytes : List ℕ) → IsBytes bytes → number_64 bytes < 2 ^ 64
unfolding number_64
u64-below bytes fits = omega (arith, fits 0, fits 1, fits 2, fits 3, fits 4, fits 5, fits 6, fits 7)

pub i64-takes : (bytes : List ℕ) → 8 ≤ length bytes → IsBytes bytes
    → Takes bytes (spelled_u64 (cast_unsigned w64 (signed_64 bytes))) (drop 8 bytes)
unfolding signed_64
i64-takes bytes long fits = rw (of_z-to_z w64 (number_64 bytes) (u64-below bytes fits))
    (u64-takes bytes long fits)

pub i64-fits : (bytes : List ℕ) → IsBytes bytes → FitsSigned w64 (signed_64 bytes)
unfolding signed_64
i64-fits bytes fits = sfits_to_z (record { fits = u64-below bytes fits })
