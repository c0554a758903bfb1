-- What the loops of the generator add, one after the other.
use Rattle.std.proofs.Common.{◌≡◌, ℕ, zero, suc, ◌+◌, ◌-◌, ◌%◌, ◌≤◌, List, [], ◌∷◌, ◌++◌, map}
use Rattle.std.proofs.Common.{length, refl, sym, ap, ◌∙◌, arith}
use Rattle.std.specs.List.{range_with_len}
use Rattle.std.proofs.lemmas.List.FromFn.{map-range_with_len_more, length-map-range_with_len}
use Rattle.c5_definitions.specs.declared.script.Statement.{Statement}
use Rattle.c5_definitions.specs.declared.script.Statement.TheVariants.{Put}
use Rattle.c5_definitions.specs.Generated.{account, account_key, balance_row, opening_balance}
use Rattle.c5_definitions.specs.Generated.{next_draw, draw, transfer_of}
use Rattle.c5_definitions.specs.Generated.{transfer_body, generated_body, generated_bodies}
use Rattle.c5_definitions.specs.Generated.{read_all_by}
use Rattle.c5_definitions.specs.ScriptParts.{ReadParts}

-- so many keys of accounts from the first one on
abbrev pub keys_from : ℕ → ℕ → List (List ℕ)
keys_from first n = map account_key (range_with_len first n)

pub keys-more : (first n : ℕ) → keys_from first (n + 1)
    ≡ keys_from first n ++ account_key (first + n) ∷ []
keys-more first n = map-range_with_len_more account_key first n (first + n) refl

pub keys-length : (first n : ℕ) → length (keys_from first n) ≡ n
keys-length first n = length-map-range_with_len account_key first n

-- the first puts
abbrev pub opening_put : ℕ → Statement
opening_put number = Put (account number) (balance_row opening_balance)

abbrev pub some_puts : ℕ → List Statement
some_puts n = map opening_put (range_with_len 0 n)

pub puts-more : (n : ℕ) → some_puts (n + 1) ≡ some_puts n ++ opening_put n ∷ []
puts-more n = map-range_with_len_more opening_put 0 n n (omega arith)

pub puts-length : (n : ℕ) → length (some_puts n) ≡ n
puts-length n = length-map-range_with_len opening_put 0 n

-- the first reads
abbrev pub some_reads : ℕ → List ReadParts
some_reads n = map (λ block. read_all_by (1 + block % 4)) (range_with_len 0 n)

pub reads-more : (n : ℕ) → some_reads (n + 1) ≡ some_reads n ++ read_all_by (1 + n % 4) ∷ []
reads-more n = map-range_with_len_more (λ block. read_all_by (1 + block % 4)) 0 n n (omega arith)

pub reads-length : (n : ℕ) → length (some_reads n) ≡ n
reads-length n = length-map-range_with_len (λ block. read_all_by (1 + block % 4)) 0 n

-- a body after the first is the next draw's transfer
later-body : (n : ℕ) → 1 ≤ n → generated_body n ≡ transfer_body (transfer_of (draw n))
later-body zero some = absurd (omega arith)
later-body (suc n) some = refl

pub bodies-more : (n : ℕ) → 1 ≤ n
    → generated_bodies (n + 1) ≡ generated_bodies n ++ transfer_body (transfer_of (draw n)) ∷ []
bodies-more n some =
    map-range_with_len_more generated_body 0 n n (omega arith)
    ∙ ap (λ body. generated_bodies n ++ body ∷ []) (later-body n some)

pub draw-more : (n : ℕ) → 1 ≤ n → draw n ≡ next_draw (draw (n - 1))
unfolding draw
draw-more zero some = absurd (omega arith)
draw-more (suc n) some = ap (λ m. next_draw (draw m)) (omega arith)

pub moved-is : (f t a x n : ℕ) → f ≡ (transfer_of x).from → t ≡ (transfer_of x).to
    → a ≡ (transfer_of x).amount → x ≡ draw n
    → transfer_body (record { from = f; to = t; amount = a }) ≡ transfer_body (transfer_of (draw n))
moved-is f t a x n from to amount is =
    ap transfer_body (λ i. record { from = from i; to = to i; amount = amount i })
    ∙ ap (λ y. transfer_body (transfer_of y)) is

pub draw-next : (x y n : ℕ) → 1 ≤ n → x ≡ next_draw y → y ≡ draw (n - 1) → x ≡ draw n
draw-next x y n some is was = is ∙ ap next_draw was ∙ sym (draw-more n some)

pub draw-before : (n : ℕ) → draw n ≡ draw (n + 1 - 1)
draw-before n = ap draw (omega arith)
