-- The version that a stamp sees among commits.
use Rattle.std.proofs.Common.{◌≡◌, ◌<◌, ◌≤◌, ◌⊎◌, ℕ, zero, suc, Bool, true, false, cond, ◌&&◌, max}
use Rattle.std.proofs.Common.{eqb, ltb, true≢false, List, [], ◌∷◌, ◌++◌, Option, Some, None, inl}
use Rattle.std.proofs.Common.{inr, refl, ap, sym, subst, ◌∙◌, arith}
use Rattle.std.specs.List.{All, Contains}
use Rattle.std.specs.Map.{lookup}
use Rattle.std.proofs.lemmas.Bool.{cases_Bool, cases_lt, and_parts, and_cases, and_left, ltb-true}
use Rattle.std.proofs.lemmas.Bool.{ltb-false, lt-ltb, le-ltb, eqb-true, eq-eqb, ne_eqb, both_ways}
use Rattle.std.proofs.lemmas.List.Elements.{All-nil, All-cons, All-weaker, All-contains}
use Rattle.std.proofs.lemmas.List.Elements.{Contains-append_left, Contains-append_right}
use Rattle.std.proofs.lemmas.List.Elements.{Contains-push}
use Rattle.c5_rows.specs.declared.writes.RowName.{RowName}
use Rattle.c5_rows.specs.declared.writes.Write.{Write}
use Rattle.c5_definitions.specs.History.{writes_row, version_in}

-- a commit: its stamp and its writes
abbrev pub Commit : Type 0
Commit = ℕ × List Write

-- whether a commit is below the stamp and writes the row
abbrev pub seen : RowName → ℕ → Commit → Bool
seen name s c = ltb c.0 s && writes_row name c.1

pub version_in-yes : (name : RowName) (s : ℕ) (c : Commit) (cs : List Commit) → seen name s c ≡ true
    → version_in name s (c ∷ cs) ≡ max c.0 (version_in name s cs)
version_in-yes name s c cs e = rw e refl

pub version_in-no : (name : RowName) (s : ℕ) (c : Commit) (cs : List Commit) → seen name s c ≡ false
    → version_in name s (c ∷ cs) ≡ version_in name s cs
version_in-no name s c cs e = rw e refl

-- one more commit
pub version_in-push : (name : RowName) (s : ℕ) (cs : List Commit) (c : Commit)
    → version_in name s (cs ++ c ∷ [])
    ≡ cond (seen name s c) (max c.0 (version_in name s cs)) (version_in name s cs)
version_in-push name s [] c = refl
version_in-push name s (x ∷ cs) c =
    by (seen name s x) (seen name s c) (version_in name s cs) (version_in name s (cs ++ c ∷ []))
    (version_in-push name s cs c)
  where
    by : (bx bc : Bool) (v w : ℕ) → w ≡ cond bc (max c.0 v) v
        → cond bx (max x.0 w) w ≡ cond bc (max c.0 (cond bx (max x.0 v) v)) (cond bx (max x.0 v) v)
    by true true v w e = omega arith
    by true false v w e = ap (max x.0) e
    by false true v w e = e
    by false false v w e = e

pub version_in-push_no : (name : RowName) (s : ℕ) (cs : List Commit) (c : Commit)
    → seen name s c ≡ false → version_in name s (cs ++ c ∷ []) ≡ version_in name s cs
version_in-push_no name s cs c e =
    version_in-push name s cs c ∙ ap
    (λ b. cond b (max c.0 (version_in name s cs)) (version_in name s cs)) e

pub version_in-push_yes : (name : RowName) (s : ℕ) (cs : List Commit) (c : Commit)
    → seen name s c ≡ true → version_in name s (cs ++ c ∷ []) ≡ max c.0 (version_in name s cs)
version_in-push_yes name s cs c e =
    version_in-push name s cs c ∙ ap
    (λ b. cond b (max c.0 (version_in name s cs)) (version_in name s cs)) e

-- it is at least every commit that is seen
pub version_in-bounds : (name : RowName) (s : ℕ) (cs : List Commit)
    → All (λ c. seen name s c ≡ true → c.0 ≤ version_in name s cs) cs
version_in-bounds name s [] = All-nil (λ c. seen name s c ≡ true → c.0 ≤ 0)
version_in-bounds name s (x ∷ cs) =
    elim (cases_Bool (seen name s x)) [
      | inl e ↦
          let v : version_in name s (x ∷ cs) ≡ max x.0 (version_in name s cs) =
          version_in-yes name s x cs e in
          All-cons (λ c. seen name s c ≡ true → c.0 ≤ version_in name s (x ∷ cs)) x cs
          (λ _. omega arith)
          (All-weaker (λ c. seen name s c ≡ true → c.0 ≤ version_in name s cs)
          (λ c. seen name s c ≡ true → c.0 ≤ version_in name s (x ∷ cs))
          (λ c h i. let g : c.0 ≤ version_in name s cs = h i in omega arith) cs
          (version_in-bounds name s cs))
      | inr e ↦
          let v : version_in name s (x ∷ cs) ≡ version_in name s cs = version_in-no name s x cs e in
          All-cons (λ c. seen name s c ≡ true → c.0 ≤ version_in name s (x ∷ cs)) x cs
          (λ i. absurd (both_ways (seen name s x) e i))
          (All-weaker (λ c. seen name s c ≡ true → c.0 ≤ version_in name s cs)
          (λ c. seen name s c ≡ true → c.0 ≤ version_in name s (x ∷ cs))
          (λ c h i. let g : c.0 ≤ version_in name s cs = h i in omega arith) cs
          (version_in-bounds name s cs))
    ]

pub version_in-bound : (name : RowName) (s : ℕ) (cs : List Commit) (c : Commit) → Contains cs c
    → seen name s c ≡ true → c.0 ≤ version_in name s cs
version_in-bound name s cs c there =
    All-contains (λ c. seen name s c ≡ true → c.0 ≤ version_in name s cs) cs c
    (version_in-bounds name s cs) there

pub contains-tail : {X : Type 0} (x : X) (xs : List X) (y : X) → Contains xs y → Contains (x ∷ xs) y
contains-tail x xs y there = Contains-append_right (x ∷ []) xs y there

pub contains-head : {X : Type 0} (x : X) (xs : List X) → Contains (x ∷ xs) x
contains-head x xs = Contains-append_left (x ∷ []) xs x (Contains-push [] x)

-- a commit that has this version
pub record Attains (name : RowName) (s : ℕ) (cs : List Commit) (v : ℕ) : Type 0 where
  pub commit : Commit
  pub there : Contains cs commit
  pub is_seen : seen name s commit ≡ true
  pub is : commit.0 ≡ v

attained-tail : (name : RowName) (s v : ℕ) (x : Commit) (cs : List Commit) → Attains name s cs v
    → Attains name s (x ∷ cs) v
attained-tail name s v x cs a =
    record {
      commit = a.commit;
      there = contains-tail x cs a.commit a.there;
      is_seen = a.is_seen;
      is = a.is;
    }

-- it is 0, or some commit has it
pub version_in-attained : (name : RowName) (s : ℕ) (cs : List Commit) → (version_in name s cs ≡ 0)
    ⊎ Attains name s cs (version_in name s cs)
version_in-attained name s [] = inl refl
version_in-attained name s (x ∷ cs) =
    elim (cases_Bool (seen name s x)) [
      | inl e ↦
          let v : version_in name s (x ∷ cs) ≡ max x.0 (version_in name s cs) =
          version_in-yes name s x cs e in
          elim (cases_lt x.0 (version_in name s cs)) [
            | inl lt ↦
                let same : version_in name s cs ≡ version_in name s (x ∷ cs) = omega arith in
                elim (version_in-attained name s cs) [
                  | inl z ↦ absurd (omega arith)
                  | inr a ↦ inr
                      (attained-tail name s (version_in name s (x ∷ cs)) x cs
                      (subst (Attains name s cs) same a))
                ]
            | inr le ↦ inr
                (record { commit = x; there = contains-head x cs; is_seen = e; is = omega arith })
          ]
      | inr e ↦
          let same : version_in name s cs ≡ version_in name s (x ∷ cs) =
          sym (version_in-no name s x cs e) in
          elim (version_in-attained name s cs) [
            | inl z ↦ inl (sym same ∙ z)
            | inr a ↦ inr
                (attained-tail name s (version_in name s (x ∷ cs)) x cs
                (subst (Attains name s cs) same a))
          ]
    ]

-- it is below the stamp
pub version_in-below : (name : RowName) (s : ℕ) (cs : List Commit) → 1 ≤ s
    → version_in name s cs < s
version_in-below name s cs some = elim (version_in-attained name s cs) [
  | inl z ↦ omega arith
  | inr a ↦ let lt : a.commit.0 < s =
      ltb-true a.commit.0 s
      (and_parts (ltb a.commit.0 s) (writes_row name a.commit.1) a.is_seen).0 in omega (arith, a.is)
]

-- it is the one that has these two
pub version_in-is : (name : RowName) (s : ℕ) (cs : List Commit) (v : ℕ) → (v ≡ 0)
    ⊎ Attains name s cs v → ((c : Commit) → Contains cs c → seen name s c ≡ true → c.0 ≤ v)
    → version_in name s cs ≡ v
version_in-is name s cs v from most = elim (cases_lt (version_in name s cs) v) [
  | inl lt ↦ elim from [
    | inl z ↦ absurd (omega arith)
    | inr a ↦ absurd (omega (arith, a.is, version_in-bound name s cs a.commit a.there a.is_seen))
  ]
  | inr le ↦ elim (version_in-attained name s cs) [
    | inl z ↦ omega arith
    | inr a ↦ omega (arith, a.is, most a.commit a.there a.is_seen)
  ]
]

-- a version that is below an earlier stamp is seen by that one too
pub version_in-narrow : (name : RowName) (s r : ℕ) (cs : List Commit) → s ≤ r
    → version_in name r cs < s → version_in name s cs ≡ version_in name r cs
version_in-narrow name s r cs le below = version_in-is name s cs (version_in name r cs)
    (elim (version_in-attained name r cs) [
      | inl z ↦ inl z
      | inr a ↦ inr (record {
        commit = a.commit;
        there = a.there;
        is_seen = and_true (ltb a.commit.0 s) (writes_row name a.commit.1)
            (lt-ltb a.commit.0 s (omega (arith, a.is)))
            (and_parts (ltb a.commit.0 r) (writes_row name a.commit.1) a.is_seen).1;
        is = a.is;
      })
    ])
    (λ c there is. let p = and_parts (ltb c.0 s) (writes_row name c.1) is in
    version_in-bound name r cs c there
    (and_true (ltb c.0 r) (writes_row name c.1)
    (lt-ltb c.0 r (omega (arith, ltb-true c.0 s p.0))) p.1))
  where
    and_true : (a b : Bool) → a ≡ true → b ≡ true → (a && b) ≡ true
    and_true a b e f = rw (e, f) refl

-- ---- the writes of a version

pub lookup-contains : (v : ℕ) (cs : List Commit) (w : List Write)
    → lookup (λ stamp. eqb stamp v) cs ≡ Some w → Contains cs (v, w)
lookup-contains v [] w e = absurd cc
lookup-contains v (c ∷ cs) w e = by (lookup-contains v cs w) (eqb c.0 v) refl e
  where
    by : (lookup (λ stamp. eqb stamp v) cs ≡ Some w → Contains cs (v, w)) → (b : Bool)
        → eqb c.0 v ≡ b → cond b (Some c.1) (lookup (λ stamp. eqb stamp v) cs) ≡ Some w
        → Contains (c ∷ cs) (v, w)
    by rest true is e = subst (λ (x : Commit). Contains (c ∷ cs) x)
        (let same : c.0 ≡ v = eqb-true c.0 v is in let writes : c.1 ≡ w = cc in
        ap (λ n. (n, c.1)) same ∙ ap (λ ws. (v, ws)) writes) (contains-head c cs)
    by rest false is e = contains-tail c cs (v, w) (rest e)

-- what is found is found among more commits
pub lookup-more : (v : ℕ) (cs more : List Commit) (w : List Write)
    → lookup (λ stamp. eqb stamp v) cs ≡ Some w
    → lookup (λ stamp. eqb stamp v) (cs ++ more) ≡ Some w
lookup-more v [] more w e = absurd cc
lookup-more v (c ∷ cs) more w e = by (lookup-more v cs more w) (eqb c.0 v) e
  where
    by : (lookup (λ stamp. eqb stamp v) cs ≡ Some w
        → lookup (λ stamp. eqb stamp v) (cs ++ more) ≡ Some w) → (b : Bool)
        → cond b (Some c.1) (lookup (λ stamp. eqb stamp v) cs) ≡ Some w
        → cond b (Some c.1) (lookup (λ stamp. eqb stamp v) (cs ++ more)) ≡ Some w
    by rest true e = e
    by rest false e = rest e

pub lookup-push : (v : ℕ) (cs : List Commit) (c : Commit) → lookup (λ stamp. eqb stamp v) cs ≡ None
    → lookup (λ stamp. eqb stamp v) (cs ++ c ∷ []) ≡ cond (eqb c.0 v) (Some c.1) None
lookup-push v [] c e = refl
lookup-push v (x ∷ cs) c e = by (lookup-push v cs c) (eqb x.0 v) e
  where
    by : (lookup (λ stamp. eqb stamp v) cs ≡ None
        → lookup (λ stamp. eqb stamp v) (cs ++ c ∷ []) ≡ cond (eqb c.0 v) (Some c.1) None)
        → (b : Bool) → cond b (Some x.1) (lookup (λ stamp. eqb stamp v) cs) ≡ None
        → cond b (Some x.1) (lookup (λ stamp. eqb stamp v) (cs ++ c ∷ []))
        ≡ cond (eqb c.0 v) (Some c.1) None
    by rest true e = absurd cc
    by rest false e = rest e

-- if no commit has the stamp
pub lookup-none : (v : ℕ) (cs : List Commit) → All (λ c. c.0 ≡ v → ⊥) cs
    → lookup (λ stamp. eqb stamp v) cs ≡ None
lookup-none v cs others = by (lookup (λ stamp. eqb stamp v) cs) refl
  where
    by : (o : Option (List Write)) → lookup (λ stamp. eqb stamp v) cs ≡ o → o ≡ None
    by None e = refl
    by (Some w) e =
        absurd (All-contains (λ c. c.0 ≡ v → ⊥) cs (v, w) others (lookup-contains v cs w e) refl)

-- one more commit of another stamp
pub lookup-other : (v s : ℕ) (w : List Write) (cs : List Commit) → (v ≡ s → ⊥)
    → lookup (λ stamp. eqb stamp v) (cs ++ (s, w) ∷ []) ≡ lookup (λ stamp. eqb stamp v) cs
lookup-other v s w cs other = by (lookup (λ stamp. eqb stamp v) cs) refl
  where
    by : (o : Option (List Write)) → lookup (λ stamp. eqb stamp v) cs ≡ o
        → lookup (λ stamp. eqb stamp v) (cs ++ (s, w) ∷ []) ≡ o
    by None e = lookup-push v cs (s, w) e ∙ ap (λ t. cond t (Some w) None)
        (ne_eqb s v (λ same. other (sym same)))
    by (Some u) e = lookup-more v cs ((s, w) ∷ []) u e
