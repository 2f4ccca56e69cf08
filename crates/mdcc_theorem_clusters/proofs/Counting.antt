-- How many entries of each centre a ledger has, and how many steps each centre did.
use Rattle.std.proofs.Common.{List, [], ap, arith, false, inl, inr, length, refl, subst, suc, sym, true, zero, ℕ, ◌*◌, ◌+◌, ◌++◌, ◌<◌, ◌==◌, ◌∙◌, ◌∷◌, ◌≡◌, ◌≤◌}
use Rattle.mdcc_theorem_agreement.specs.Laws.{begins_in}
use Rattle.std.specs.Prelude.{if◌then◌else◌}
use Rattle.std.proofs.lemmas.Bool.{cases_Bool, eq-eqb, eqb-true}
use Rattle.mdcc_base.specs.Counts.{number_of}
use Rattle.mdcc_def_ledger.specs.Ledger.{Added, Entry, Valued}
use Rattle.mdcc_def_server_runs.specs.Acts.{Act, steps_by}
use Rattle.mdcc_theorem_trace_limits.proofs.Small.{is_begin}
use Rattle.mdcc_theorem_trace_states.specs.Invariant.{IsOf}
use Rattle.mdcc_theorem_trace_states.specs.Words.{Each}
use Rattle.mdcc_theorem_commit_groups.specs.Groups.{facts_added_in}
use Rattle.mdcc_theorem_clusters.specs.Limits.{steps_done}

-- ---- numbers in a list

abbrev pub count_in : ℕ → List ℕ → ℕ
count_in a [] = 0
count_in a (k ∷ ks) = if k == a then suc (count_in a ks) else count_in a ks

abbrev one_less : ℕ → List ℕ → List ℕ
one_less a [] = []
one_less a (k ∷ ks) = if k == a then ks else k ∷ one_less a ks

pub count-yes : (a k : ℕ) (ks : List ℕ) → (k == a) ≡ true → count_in a (k ∷ ks) ≡ suc (count_in a ks)
count-yes a k ks e = rw e refl

pub count-no : (a k : ℕ) (ks : List ℕ) → (k == a) ≡ false → count_in a (k ∷ ks) ≡ count_in a ks
count-no a k ks e = rw e refl

less-yes : (a k : ℕ) (ks : List ℕ) → (k == a) ≡ true → one_less a (k ∷ ks) ≡ ks
less-yes a k ks e = rw e refl

less-no : (a k : ℕ) (ks : List ℕ) → (k == a) ≡ false → one_less a (k ∷ ks) ≡ k ∷ one_less a ks
less-no a k ks e = rw e refl

less-long : (a : ℕ) (ks : List ℕ) → 0 < count_in a ks → length ks ≡ suc (length (one_less a ks))
less-long a [] h = absurd (omega (arith, h))
less-long a (k ∷ ks) h =
    elim (cases_Bool (k == a)) [
      | inl e ↦ ap (λ (xs : List ℕ). suc (length xs)) (sym (less-yes a k ks e))
      | inr e ↦
          let c = count-no a k ks e in
          ap suc (less-long a ks (omega (arith, h, c))) ∙ ap (λ (xs : List ℕ). suc (length xs)) (sym (less-no a k ks e))
    ]

less-own : (a : ℕ) (ks : List ℕ) → 0 < count_in a ks → count_in a ks ≡ suc (count_in a (one_less a ks))
less-own a [] h = absurd (omega (arith, h))
less-own a (k ∷ ks) h =
    elim (cases_Bool (k == a)) [
      | inl e ↦ count-yes a k ks e ∙ ap (λ (xs : List ℕ). suc (count_in a xs)) (sym (less-yes a k ks e))
      | inr e ↦
          let c = count-no a k ks e in
          c ∙ (less-own a ks (omega (arith, h, c)) ∙ ap suc (sym (ap (count_in a) (less-no a k ks e) ∙ count-no a k (one_less a ks) e)))
    ]

less-others : (a b : ℕ) (ks : List ℕ) → (a == b) ≡ false → count_in b (one_less a ks) ≡ count_in b ks
less-others a b [] o = refl
less-others a b (k ∷ ks) o =
    elim (cases_Bool (k == a)) [
      | inl e ↦ ap (count_in b) (less-yes a k ks e) ∙ sym (count-no b k ks (subst (λ (z : ℕ). (z == b) ≡ false) (sym (eqb-true k a e)) o))
      | inr e ↦ ap (count_in b) (less-no a k ks e) ∙ elim (cases_Bool (k == b)) [
        | inl f ↦ count-yes b k (one_less a ks) f ∙ (ap suc (less-others a b ks o) ∙ sym (count-yes b k ks f))
        | inr f ↦ count-no b k (one_less a ks) f ∙ (less-others a b ks o ∙ sym (count-no b k ks f))
      ]
    ]

-- where there are no more of each, there are no more
pub fewer : (xs ys : List ℕ) → ((a : ℕ) → count_in a xs ≤ count_in a ys) → length xs ≤ length ys
fewer [] ys h = omega arith
fewer (x ∷ xs) ys h =
    let most = h x in
    let yes = count-yes x x xs (eq-eqb x x refl) in
    let one : suc (count_in x xs) ≤ count_in x ys = omega (arith, most, yes) in
    let some : 0 < count_in x ys = omega (arith, one) in
    let long = less-long x ys some in
    let rest = fewer xs (one_less x ys) (λ a. less a some one) in
    omega (arith, long, rest)
  where
    less : (a : ℕ) → 0 < count_in x ys → suc (count_in x xs) ≤ count_in x ys → count_in a xs ≤ count_in a (one_less x ys)
    less a some one =
        elim (cases_Bool (x == a)) [
          | inl e ↦ subst (λ (z : ℕ). count_in z xs ≤ count_in z (one_less x ys)) (eqb-true x a e) (let own = less-own x ys some in omega (arith, one, own))
          | inr e ↦
              let all = h a in
              let no = count-no a x xs e in
              let same = less-others x a ys e in
              omega (arith, all, no, same)
        ]

pub count-both : (a : ℕ) (xs ys : List ℕ) → count_in a (xs ++ ys) ≡ count_in a xs + count_in a ys
count-both a [] ys = omega arith
count-both a (x ∷ xs) ys =
    let both = count-both a xs ys in
    elim (cases_Bool (x == a)) [
      | inl e ↦ let l = count-yes a x (xs ++ ys) e in let r = count-yes a x xs e in omega (arith, both, l, r)
      | inr e ↦ let l = count-no a x (xs ++ ys) e in let r = count-no a x xs e in omega (arith, both, l, r)
    ]

both-long : (xs ys : List ℕ) → length (xs ++ ys) ≡ length xs + length ys
both-long [] ys = omega arith
both-long (x ∷ xs) ys = let h = both-long xs ys in omega (arith, h)

-- so many times
abbrev pub times : ℕ → List ℕ → List ℕ
times zero ks = []
times (suc n) ks = ks ++ times n ks

pub times-count : (a n : ℕ) (ks : List ℕ) → count_in a (times n ks) ≡ n * count_in a ks
times-count a zero ks = zero-times (count_in a ks)
  where
    zero-times : (m : ℕ) → 0 ≡ 0 * m
    zero-times m = grind arith
times-count a (suc n) ks = count-both a ks (times n ks) ∙ more (count_in a ks) (count_in a (times n ks)) n (times-count a n ks)
  where
    one-more : (m n : ℕ) → m + n * m ≡ suc n * m
    one-more m n = grind arith

    more : (m c n : ℕ) → c ≡ n * m → m + c ≡ suc n * m
    more m c n e = ap (λ (z : ℕ). m + z) e ∙ one-more m n

pub times-long : (n : ℕ) (ks : List ℕ) → length (times n ks) ≡ n * length ks
times-long zero ks = zero-times (length ks)
  where
    zero-times : (m : ℕ) → 0 ≡ 0 * m
    zero-times m = grind arith
times-long (suc n) ks = both-long ks (times n ks) ∙ more (length ks) (length (times n ks)) n (times-long n ks)
  where
    one-more : (m n : ℕ) → m + n * m ≡ suc n * m
    one-more m n = grind arith

    more : (m c n : ℕ) → c ≡ n * m → m + c ≡ suc n * m
    more m c n e = ap (λ (z : ℕ). m + z) e ∙ one-more m n

-- ---- entries

-- the centres that began the transactions, and those of all entries that are no facts
abbrev pub begun_by : List Entry → List ℕ
begun_by [] = []
begun_by (Added a fact ∷ es) = begun_by es
begun_by (Entry.Begun a tx choices ∷ es) = a ∷ begun_by es
begun_by (Valued a key version ballot options ∷ es) = begun_by es

abbrev pub plain_by : List Entry → List ℕ
plain_by [] = []
plain_by (Added a fact ∷ es) = plain_by es
plain_by (Entry.Begun a tx choices ∷ es) = a ∷ plain_by es
plain_by (Valued a key version ballot options ∷ es) = a ∷ plain_by es

pub begun-both : (xs ys : List Entry) → begun_by (xs ++ ys) ≡ begun_by xs ++ begun_by ys
begun-both [] ys = refl
begun-both (Added a fact ∷ xs) ys = begun-both xs ys
begun-both (Entry.Begun a tx choices ∷ xs) ys = ap (λ (ks : List ℕ). a ∷ ks) (begun-both xs ys)
begun-both (Valued a key version ballot options ∷ xs) ys = begun-both xs ys

pub plain-both : (xs ys : List Entry) → plain_by (xs ++ ys) ≡ plain_by xs ++ plain_by ys
plain-both [] ys = refl
plain-both (Added a fact ∷ xs) ys = plain-both xs ys
plain-both (Entry.Begun a tx choices ∷ xs) ys = ap (λ (ks : List ℕ). a ∷ ks) (plain-both xs ys)
plain-both (Valued a key version ballot options ∷ xs) ys = ap (λ (ks : List ℕ). a ∷ ks) (plain-both xs ys)

pub begun-number : (es : List Entry) → number_of is_begin es ≡ length (begun_by es)
begun-number [] = refl
begun-number (Added a fact ∷ es) = let h = begun-number es in omega (arith, h)
begun-number (Entry.Begun a tx choices ∷ es) = let h = begun-number es in omega (arith, h)
begun-number (Valued a key version ballot options ∷ es) = let h = begun-number es in omega (arith, h)

pub begun-counted : (es : List Entry) → begins_in es ≡ length (begun_by es)
begun-counted [] = refl
begun-counted (Added a fact ∷ es) = let h = begun-counted es in omega (arith, h)
begun-counted (Entry.Begun a tx choices ∷ es) = let h = begun-counted es in omega (arith, h)
begun-counted (Valued a key version ballot options ∷ es) = let h = begun-counted es in omega (arith, h)

pub plain-long : (es : List Entry) → length (plain_by es) ≤ length es
plain-long [] = omega arith
plain-long (Added a fact ∷ es) = let h = plain-long es in omega (arith, h)
plain-long (Entry.Begun a tx choices ∷ es) = let h = plain-long es in omega (arith, h)
plain-long (Valued a key version ballot options ∷ es) = let h = plain-long es in omega (arith, h)

-- a ledger has its facts and the others
pub ledger-long : (es : List Entry) → length es ≡ length (facts_added_in es) + length (plain_by es)
ledger-long [] = refl
ledger-long (Added a fact ∷ es) = let h = ledger-long es in omega (arith, h)
ledger-long (Entry.Begun a tx choices ∷ es) = let h = ledger-long es in omega (arith, h)
ledger-long (Valued a key version ballot options ∷ es) = let h = ledger-long es in omega (arith, h)

abbrev IsAt : ℕ → List ℕ → Type 0
IsAt a ks = Each (λ (k : ℕ). k ≡ a) ks

begun-at : (a : ℕ) (es : List Entry) → Each (IsOf a) es → IsAt a (begun_by es)
begun-at a [] h = tt
begun-at a (Added b fact ∷ es) h = begun-at a es h.1
begun-at a (Entry.Begun b tx choices ∷ es) h = (h.0, begun-at a es h.1)
begun-at a (Valued b key version ballot options ∷ es) h = begun-at a es h.1

plain-at : (a : ℕ) (es : List Entry) → Each (IsOf a) es → IsAt a (plain_by es)
plain-at a [] h = tt
plain-at a (Added b fact ∷ es) h = plain-at a es h.1
plain-at a (Entry.Begun b tx choices ∷ es) h = (h.0, plain-at a es h.1)
plain-at a (Valued b key version ballot options ∷ es) h = (h.0, plain-at a es h.1)

count-at : (a : ℕ) (ks : List ℕ) → IsAt a ks → count_in a ks ≡ length ks
count-at a [] h = refl
count-at a (k ∷ ks) h = count-yes a k ks (eq-eqb k a h.0) ∙ ap suc (count-at a ks h.1)

count-none : (a b : ℕ) (ks : List ℕ) → (a == b) ≡ false → IsAt a ks → count_in b ks ≡ 0
count-none a b [] o h = refl
count-none a b (k ∷ ks) o h = count-no b k ks (subst (λ (z : ℕ). (z == b) ≡ false) (sym h.0) o) ∙ count-none a b ks o h.1

none-more : (n : ℕ) → 0 + n ≡ n
none-more n = omega arith

-- new entries of a centre are counted there alone
pub begun-own : (a : ℕ) (new es : List Entry) → Each (IsOf a) new → count_in a (begun_by (new ++ es)) ≡ length (begun_by new) + count_in a (begun_by es)
begun-own a new es own =
    let n = count-at a (begun_by new) (begun-at a new own) in
    ap (count_in a) (begun-both new es) ∙ (count-both a (begun_by new) (begun_by es) ∙ ap (λ (z : ℕ). z + count_in a (begun_by es)) n)

pub plain-own : (a : ℕ) (new es : List Entry) → Each (IsOf a) new → count_in a (plain_by (new ++ es)) ≡ length (plain_by new) + count_in a (plain_by es)
plain-own a new es own =
    let n = count-at a (plain_by new) (plain-at a new own) in
    ap (count_in a) (plain-both new es) ∙ (count-both a (plain_by new) (plain_by es) ∙ ap (λ (z : ℕ). z + count_in a (plain_by es)) n)

pub begun-others : (a b : ℕ) (new es : List Entry) → (a == b) ≡ false → Each (IsOf a) new → count_in b (begun_by (new ++ es)) ≡ count_in b (begun_by es)
begun-others a b new es o own =
    let n = count-none a b (begun_by new) o (begun-at a new own) in
    ap (count_in b) (begun-both new es) ∙ (count-both b (begun_by new) (begun_by es) ∙ (ap (λ (z : ℕ). z + count_in b (begun_by es)) n ∙ none-more (count_in b (begun_by es))))

pub plain-others : (a b : ℕ) (new es : List Entry) → (a == b) ≡ false → Each (IsOf a) new → count_in b (plain_by (new ++ es)) ≡ count_in b (plain_by es)
plain-others a b new es o own =
    let n = count-none a b (plain_by new) o (plain-at a new own) in
    ap (count_in b) (plain-both new es) ∙ (count-both b (plain_by new) (plain_by es) ∙ (ap (λ (z : ℕ). z + count_in b (plain_by es)) n ∙ none-more (count_in b (plain_by es))))

-- ---- steps

abbrev pub stepped_by : ℕ → Act → List ℕ
stepped_by a Act.Stepped = a ∷ []
stepped_by a act = []

-- the centres that did the steps
abbrev pub steps_at : List (ℕ × Act) → List ℕ
steps_at [] = []
steps_at (one ∷ done) = stepped_by one.0 one.1 ++ steps_at done

one-long : (a : ℕ) (act : Act) → length (stepped_by a act) ≡ steps_by act
one-long a Act.Stepped = refl
one-long a (Act.Bind at address) = refl
one-long a (Act.Receive at gave) = refl
one-long a (Act.Append centre facts) = refl
one-long a (Act.Send from to bytes answer) = refl
one-long a (Act.Print line) = refl
one-long a Act.Dropped = refl
one-long a Act.Unsent = refl

one-own : (a : ℕ) (act : Act) → count_in a (stepped_by a act) ≡ steps_by act
one-own a Act.Stepped = count-yes a a [] (eq-eqb a a refl)
one-own a (Act.Bind at address) = refl
one-own a (Act.Receive at gave) = refl
one-own a (Act.Append centre facts) = refl
one-own a (Act.Send from to bytes answer) = refl
one-own a (Act.Print line) = refl
one-own a Act.Dropped = refl
one-own a Act.Unsent = refl

pub steps-long : (done : List (ℕ × Act)) → length (steps_at done) ≡ steps_done done
steps-long [] = refl
steps-long (one ∷ done) =
    let first = one-long one.0 one.1 in
    let rest = steps-long done in
    both-long (stepped_by one.0 one.1) (steps_at done) ∙ sum (length (stepped_by one.0 one.1)) (steps_by one.1) (length (steps_at done)) (steps_done done) first rest
  where
    sum : (a b c d : ℕ) → a ≡ b → c ≡ d → a + c ≡ b + d
    sum a b c d e f = omega (arith, e, f)

pub steps-own : (a : ℕ) (act : Act) (done : List (ℕ × Act)) → count_in a (steps_at ((a, act) ∷ done)) ≡ steps_by act + count_in a (steps_at done)
steps-own a act done = count-both a (stepped_by a act) (steps_at done) ∙ ap (λ (z : ℕ). z + count_in a (steps_at done)) (one-own a act)

pub steps-more : (a : ℕ) (one : ℕ × Act) (done : List (ℕ × Act)) → count_in a (steps_at (one ∷ done)) ≡ count_in a (stepped_by one.0 one.1) + count_in a (steps_at done)
steps-more a one done = count-both a (stepped_by one.0 one.1) (steps_at done)
