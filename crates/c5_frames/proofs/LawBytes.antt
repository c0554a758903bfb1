-- Bytes and items: reading goes on byte by byte, and a whole item at once is the same.
use Rattle.std.proofs.Common.{◌≡◌, ◌∙◌, ◌+◌, ◌<◌, ℕ, true, false, eqb, List, [], ◌∷◌, ◌++◌, length}
use Rattle.std.proofs.Common.{Result, Ok, Err, refl, sym, ap, append_assoc, arith}
use Rattle.std.proofs.lemmas.Bool.{eq-eqb, ne_eqb}
use Rattle.std.proofs.lemmas.List.{append-nil, length_push}
use Rattle.c5_definitions.specs.Steps.{◌>>=◌}
use Rattle.c5_definitions.specs.Items.{size_of, Reading, after_whole, after_byte, after_bytes}

-- one step after another, grouped either way
pub bind-assoc : {A B C E : Type 0} (r : Result A E) (f : A → Result B E) (g : B → Result C E)
    → ((r >>= f) >>= g) ≡ (r >>= λ x. f x >>= g)
bind-assoc (Ok x) f g = refl
bind-assoc (Err cause) f g = refl

-- the same next step
pub bind-same : {A B E : Type 0} (r : Result A E) (f g : A → Result B E) → ((x : A) → f x ≡ g x)
    → (r >>= f) ≡ (r >>= g)
bind-same (Ok x) f g same = same x
bind-same (Err cause) f g same = refl

-- the bytes of two pieces are read as those of one
pub after_bytes-append : (r : Reading) (a b : List ℕ)
    → after_bytes r (a ++ b) ≡ (after_bytes r a >>= λ next. after_bytes next b)
unfolding after_bytes
after_bytes-append r [] b = refl
after_bytes-append r (byte ∷ a) b =
    bind-same (after_byte r byte) (λ next. after_bytes next (a ++ b))
    (λ next. after_bytes next a >>= λ more. after_bytes more b)
    (λ next. after_bytes-append next a b) ∙ sym
    (bind-assoc (after_byte r byte) (λ next. after_bytes next a) (λ next. after_bytes next b))

-- a part of an item is kept
pub after_bytes-part : (r : Reading) (part : List ℕ)
    → length r.come + length part < size_of r.so_far.next
    → after_bytes r part
    ≡ Ok (record { so_far = r.so_far; offset = r.offset; come = r.come ++ part })
unfolding after_bytes after_byte
after_bytes-part r [] room = ap
    (λ (come : List ℕ). Ok (record { so_far = r.so_far; offset = r.offset; come = come }))
    (sym (append-nil r.come))
after_bytes-part r (byte ∷ part) room =
    let next : Reading =
    record { so_far = r.so_far; offset = r.offset; come = r.come ++ byte ∷ [] } in
    let not_whole : eqb (length r.come + 1) (size_of r.so_far.next) ≡ false =
    ne_eqb _ _ (λ same. omega (arith, same)) in
    let more = after_bytes-part next part (omega (arith, length_push r.come byte)) in
    rw not_whole
    (more ∙ ap
    (λ (come : List ℕ). Ok (record { so_far = r.so_far; offset = r.offset; come = come }))
    (append_assoc r.come (byte ∷ []) part))

-- nothing follows
bind-ok : {A E : Type 0} (r : Result A E) → (r >>= λ x. Ok x) ≡ r
bind-ok (Ok x) = refl
bind-ok (Err cause) = refl

-- the last bytes of an item make it whole
pub after_bytes-whole : (r : Reading) (item : List ℕ) → 0 < length item
    → length r.come + length item ≡ size_of r.so_far.next
    → after_bytes r item ≡ after_whole r (r.come ++ item)
unfolding after_bytes after_byte after_whole
after_bytes-whole r [] some sized = absurd (omega (arith, some))
after_bytes-whole r (byte ∷ []) some sized =
    let whole : eqb (length r.come + 1) (size_of r.so_far.next) ≡ true =
    eq-eqb _ _ (omega (arith, sized)) in
    rw whole (bind-ok _)
after_bytes-whole r (byte ∷ second ∷ item) some sized =
    let next : Reading =
    record { so_far = r.so_far; offset = r.offset; come = r.come ++ byte ∷ [] } in
    let not_whole : eqb (length r.come + 1) (size_of r.so_far.next) ≡ false =
    ne_eqb _ _ (λ same. omega (arith, same, sized)) in
    let more = after_bytes-whole next (second ∷ item) (omega arith)
    (omega (arith, length_push r.come byte, sized)) in
    rw not_whole (more ∙ ap (after_whole r) (append_assoc r.come (byte ∷ []) (second ∷ item)))
