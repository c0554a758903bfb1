-- Steps that gave something.
use Rattle.std.proofs.Common.{◌≡◌, ℕ, Bool, true, false, ◌&&◌, cond, eqb, Option, Some, None, refl}
use Rattle.std.proofs.lemmas.Bool.{eqb-true}
use Rattle.c5_text.specs.Reading.{◌>>=◌}

pub some_is : {A : Type 0} (x y : A) → Some x ≡ Some y → x ≡ y
some_is x y e = cc

pub kept : {A : Type 0} (b : Bool) (r : Option A) (y : A) → cond b r None ≡ Some y → (b ≡ true)
    × (r ≡ Some y)
kept true r y e = (refl, e)
kept false r y e = absurd cc

pub both : (a b : Bool) → (a && b) ≡ true → (a ≡ true) × (b ≡ true)
both true b e = (refl, e)
both false b e = absurd cc

pub bind_some : {A B : Type 0} (r : Option A) (f : A → Option B) (y : B) → (r >>= f) ≡ Some y
    → (x : A) × (r ≡ Some x) × (f x ≡ Some y)
bind_some (Some x) f y e = (x, refl, e)
bind_some None f y e = absurd cc

not_true : (b : Bool) → (b ≡ true → ⊥) → b ≡ false
not_true true never = absurd (never refl)
not_true false never = refl

pub ne-eqb : (x y : ℕ) → (x ≡ y → ⊥) → eqb x y ≡ false
ne-eqb x y never = not_true (eqb x y) (λ e. never (eqb-true x y e))
