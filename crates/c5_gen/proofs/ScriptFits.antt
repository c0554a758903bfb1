-- A generated script is a script.
use Rattle.std.proofs.Common.{◌≡◌, ◌&&◌, ◌==◌, ℕ, zero, suc, ◌+◌, ◌/◌, ◌%◌, ◌<◌, ◌≤◌, map, length}
use Rattle.std.proofs.Common.{true, not, refl, ap₂, ◌∙◌, arith, rules}
use Rattle.std.specs.List.{AllByRecursion, range_with_len}
use Rattle.std.proofs.lemmas.Bool.{le-leb}
use Rattle.std.proofs.lemmas.List.FromFn.{length-map-range_with_len}
use Rattle.c5_rows.specs.Bytes.{IsKey, is_key_byte}
use Rattle.c5_rows.specs.Tables.{IsSchema}
use Rattle.c5_definitions.specs.declared.script.Statement.TheVariants.{Put}
use Rattle.c5_definitions.specs.FitsScript.{IsStatement, IsBody, IsRead, IsReadLine, IsScript}
use Rattle.c5_definitions.specs.FitsScript.{BodyFits, ReadFits, StatementFits}
use Rattle.c5_definitions.specs.Generated.{account_key, account, account_count, balance_row}
use Rattle.c5_definitions.specs.Generated.{opening_balance}
use Rattle.c5_definitions.specs.Generated.{generated_tables, draw, Transfer, transfer_of}
use Rattle.c5_definitions.specs.Generated.{transfer_body, opening_body}
use Rattle.c5_definitions.specs.Generated.{generated_body, sum_from, read_all_by, generated_script}
use Rattle.c5_definitions.specs.Lawful.{IsLawfulTable}
use Rattle.c5_gen.proofs.Drawn.{draw-small, transfer-is}
use Rattle.c5_gen.proofs.Transfers.{IsTransfer}

-- what holds at each number of a range holds of each of its images
pub each-number : {X : Type 0} (P : X → Type 0) (f : ℕ → X) (n a : ℕ)
    → ((i : ℕ) → a ≤ i → i < a + n → P (f i)) → AllByRecursion P (map f (range_with_len a n))
each-number P f zero a holds = tt
each-number P f (suc n) a holds = (
  holds a (omega arith) (omega arith),
  each-number P f n (a + 1) (λ i least most. holds i (omega arith) (omega arith)),
)

-- ---- keys

digit-is : (d : ℕ) → d < 10 → is_key_byte (48 + d) ≡ true
digit-is d lt =
    ap₂ (λ a b. (a && b) && not ((48 + d) == 34)) (le-leb 33 (48 + d) (omega arith))
    (le-leb (48 + d) 126 (omega arith))
    ∙ grind arith

pub account-key : (n : ℕ) → n < 100 → IsKey (account_key n)
account-key n lt = record {
  no_shorter = omega arith;
  no_longer = omega arith;
  each = ap₂ (λ a b. a && (b && true)) (digit-is (n / 10) (omega arith))
      (digit-is (n % 10) (omega arith));
}

-- ---- bodies

opening-is : IsBody opening_body
opening-is = record {
  few = omega arith;
  each = each-number IsStatement (λ number. Put (account number) (balance_row opening_balance))
      account_count 0 (λ i least most. (account-key i (omega arith), (search rules, tt)));
}

transfer-body-is : (t : Transfer) → IsTransfer t → IsBody (transfer_body t)
transfer-body-is t is = record {
  few = omega arith;
  each = (
    account-key t.from (omega (arith, is.from)),
    (
      account-key t.from (omega (arith, is.from)),
      (account-key t.to (omega (arith, is.to)), tt),
    ),
  );
}

body-is : (n : ℕ) → IsBody (generated_body n)
body-is zero = opening-is
body-is (suc n) =
    transfer-body-is (transfer_of (draw (suc n))) (transfer-is (draw (suc n)) (draw-small (suc n)))

body-fits : (n : ℕ) → BodyFits generated_tables (generated_body n)
body-fits zero =
    each-number (StatementFits generated_tables)
    (λ number. Put (account number) (balance_row opening_balance)) account_count 0
    (λ i least most. refl)
body-fits (suc n) = (refl, (refl, (refl, tt)))

-- ---- reads

sum-is : (first : ℕ) → first ≤ 48 → IsReadLine (sum_from first)
sum-is first le =
    let many : length (map account_key (range_with_len first 16)) ≡ 16 =
    length-map-range_with_len account_key first 16 in (
      omega (arith, many),
      omega (arith, many),
      each-number IsKey account_key 16 first (λ i least most. account-key i (omega arith)),
    )

read-is : (session : ℕ) → 1 ≤ session → session ≤ 16 → IsRead (read_all_by session)
read-is session some few = record {
  session_some = some;
  session_few = few;
  some = omega arith;
  few = omega arith;
  each = (
    sum-is 0 (omega arith),
    (
      sum-is 16 (omega arith),
      (
        sum-is 32 (omega arith),
        (sum-is 48 (omega arith), tt),
      ),
    ),
  );
}

read-fits : (session : ℕ) → ReadFits generated_tables (read_all_by session)
read-fits session = (refl, (refl, (refl, (refl, tt))))

-- ---- the script

schema-is : IsSchema generated_tables
schema-is = record { some = omega arith; few = omega arith; names = (refl, tt) }

table-is : AllByRecursion IsLawfulTable generated_tables
table-is = (
  record {
    name = record { no_shorter = omega arith; no_longer = omega arith; each = refl };
    some = omega arith;
    few = omega arith;
  },
  tt,
)

pub script-is : (count : ℕ) → IsScript (generated_script count)
unfolding generated_script
script-is count = record {
  schema = schema-is;
  each_table = table-is;
  bodies = each-number IsBody generated_body count 0 (λ i least most. body-is i);
  bodies_fit = each-number (BodyFits generated_tables) generated_body count 0
      (λ i least most. body-fits i);
  reads = each-number IsRead (λ block. read_all_by (1 + block % 4)) 16 0
      (λ i least most. read-is (1 + i % 4) (omega arith) (omega arith));
  reads_fit = each-number (ReadFits generated_tables) (λ block. read_all_by (1 + block % 4)) 16 0
      (λ i least most. read-fits (1 + i % 4));
  few_reads = omega arith;
  turns = tt;
  few_turns = omega arith;
}
