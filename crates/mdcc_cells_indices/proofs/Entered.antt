-- A walk over the entries of an instance takes its steps at the facts that are of it.
use Rattle.std.proofs.Common.{◌≡◌, ◌<◌, ◌+◌, ℕ, Bool, true, false, List, [], ◌∷◌, ◌++◌, get_or, length, map, refl, sym, ap, ◌∙◌, arith, inl, inr}
use Rattle.std.specs.List.{filter, fold, list_all}
use Rattle.std.specs.Prelude.{◌==◌, ◌&&◌, if◌then◌else◌, unwrap_or}
use Rattle.std.specs.Cmp.Lexicographic.{nat_list_eq_equiv}
use Rattle.std.proofs.lemmas.Bool.{cases_Bool, eqb-true}
use Rattle.std.proofs.lemmas.Bool.Decides.{nat_tests}
use Rattle.std.proofs.lemmas.List.{get_or_append_left, get_or_at, length-append}
use Rattle.std.proofs.lemmas.List.Folds.{fold-map, list_all-map}
use Rattle.mdcc_base.specs.Key.{key_eq}
use Rattle.mdcc_base.specs.declared.key.Key.{Key}
use Rattle.mdcc_def_messages.specs.Spelling.{fact_bytes, encodings_of}
use Rattle.mdcc_def_messages.specs.WellFormed.{IsWellFormedFact}
use Rattle.mdcc_def_messages.specs.declared.facts.Fact.{Fact}
use Rattle.mdcc_cells_chains.specs.Keys.{instance_eq}
use Rattle.mdcc_cells_chains.specs.Walks.{entry_at}
use Rattle.mdcc_cells_chains.proofs.Filtered.{entry-skip}
use Rattle.mdcc_cells_facts.specs.Holding.{AreWellFormed, HoldsEncodings}
use Rattle.mdcc_theorem_fact_folds.specs.Chains.{is_of_instance}
use Rattle.mdcc_theorem_fact_folds.specs.Entered.{entered, indices_found, instances_in, is_instance}
use Rattle.mdcc_theorem_fact_folds.specs.Live.{is_ordered}
use Rattle.mdcc_theorem_fact_folds.proofs.Found.{found-chain, instance-found}
use Rattle.mdcc_theorem_fact_folds.proofs.Sorted.{well_formed-ordered}
use Rattle.mdcc_cells_indices.specs.Entries.{AreBelow, entries_in, entries_kept}
use Rattle.mdcc_cells_indices.proofs.Beside.{below-append, below-more, below-one}

-- ---- facts by their numbers

-- the fact of a number; where there is none, any
abbrev pub fact_at : List Fact → ℕ → Fact
fact_at facts number = unwrap_or (entry_at facts number) (Fact.Booted 0)

-- the numbers of the facts that pass a test
abbrev indices_of : (Fact → Bool) → List Fact → List ℕ
indices_of keep [] = []
indices_of keep (fact ∷ facts) = if keep fact then length facts ∷ indices_of keep facts else indices_of keep facts

-- the older facts of all have the numbers that they had
abbrev AreOlder : List Fact → List Fact → Type 0
AreOlder all facts = (number : ℕ) → number < length facts → fact_at all number ≡ fact_at facts number

at-skip : (fact : Fact) (facts : List Fact) (number : ℕ) → number < length facts → fact_at (fact ∷ facts) number ≡ fact_at facts number
at-skip fact facts number within = ap (λ f. unwrap_or f (Fact.Booted 0)) (entry-skip fact facts number within)

at-newest : (fact : Fact) (facts : List Fact) → fact_at (fact ∷ facts) (length facts) ≡ fact
at-newest fact facts = let same : (length facts == length facts) ≡ true = grind (arith, nat_tests) in rw same refl

older-tail : (all : List Fact) (fact : Fact) (facts : List Fact) → AreOlder all (fact ∷ facts) → AreOlder all facts
older-tail all fact facts older number within = older number (omega arith) ∙ at-skip fact facts number within

older-head : (all : List Fact) (fact : Fact) (facts : List Fact) → AreOlder all (fact ∷ facts) → fact_at all (length facts) ≡ fact
older-head all fact facts older = older (length facts) (omega arith) ∙ at-newest fact facts

facts-at : (keep : Fact → Bool) (all facts : List Fact) → AreOlder all facts → map (fact_at all) (indices_of keep facts) ≡ filter keep facts
facts-at keep all [] older = refl
facts-at keep all (fact ∷ facts) older =
    let head = older-head all fact facts older in
    let tail = facts-at keep all facts (older-tail all fact facts older) in
    elim (cases_Bool (keep fact)) [
      | inl kept ↦ rw kept (λ i. head i ∷ tail i)
      | inr left ↦ rw left tail
    ]

entries-entered : (keep : Fact → Bool) (all facts : List Fact) → AreOlder all facts → entries_kept keep facts ≡ entered instances_in (fact_at all) (indices_of keep facts)
entries-entered keep all [] older = refl
entries-entered keep all (fact ∷ facts) older =
    let head = older-head all fact facts older in
    let tail = entries-entered keep all facts (older-tail all fact facts older) in
    elim (cases_Bool (keep fact)) [
      | inl kept ↦ rw kept (λ i. entries_in (sym head i) (length facts) ++ tail i)
      | inr left ↦ rw left tail
    ]

-- ---- what is stored under a number

pub encodings-length : (facts : List Fact) → length (encodings_of facts) ≡ length facts
encodings-length [] = refl
encodings-length (fact ∷ facts) = omega (arith, length-append (encodings_of facts) (fact_bytes fact ∷ []), encodings-length facts)

encoding-at : (facts : List Fact) (number : ℕ) → number < length facts → get_or (encodings_of facts) number [] ≡ fact_bytes (fact_at facts number)
encoding-at [] number within = absurd (omega arith)
encoding-at (fact ∷ facts) number within = elim (cases_Bool (number == length facts)) [
  | inl here ↦
      let same : number ≡ length facts = eqb-true number (length facts) here in
      rw here (get_or_at (encodings_of facts) (fact_bytes fact) [] [] number (encodings-length facts ∙ sym same))
  | inr there ↦
      let older : number < length facts = below fact facts number within there in
      rw there (get_or_append_left (encodings_of facts) (fact_bytes fact ∷ []) [] number (omega (arith, older, encodings-length facts)) ∙ encoding-at facts number older)
]
  where
    below : (f : Fact) (fs : List Fact) (n : ℕ) → n < length (f ∷ fs) → (n == length fs) ≡ false → n < length fs
    below f fs n within there = let few : n < length fs + 1 = omega arith in grind (arith, nat_tests)

well-formed-at : (facts : List Fact) (number : ℕ) → AreWellFormed facts → number < length facts → IsWellFormedFact (fact_at facts number)
well-formed-at [] number fits within = absurd (omega arith)
well-formed-at (fact ∷ facts) number fits within = elim (cases_Bool (number == length facts)) [
  | inl here ↦ rw here fits.0
  | inr there ↦ rw there (well-formed-at facts number fits.1 (below fact facts number within there))
]
  where
    below : (f : Fact) (fs : List Fact) (n : ℕ) → n < length (f ∷ fs) → (n == length fs) ≡ false → n < length fs
    below f fs n within there = let few : n < length fs + 1 = omega arith in grind (arith, nat_tests)

pub held-length : (encodings : List (List ℕ)) (facts : List Fact) → HoldsEncodings encodings facts → length encodings ≡ length facts
held-length encodings facts holds = ap length holds.encodings_are ∙ encodings-length facts

-- what is stored under a number is the encoding of a well-formed fact
pub record IsStored (encodings : List (List ℕ)) (facts : List Fact) (number : ℕ) : Type 0 where
  pub well_formed : IsWellFormedFact (fact_at facts number)
  pub bytes : get_or encodings number [] ≡ fact_bytes (fact_at facts number)

pub stored-at : (encodings : List (List ℕ)) (facts : List Fact) (number : ℕ) → HoldsEncodings encodings facts → number < length encodings → IsStored encodings facts number
stored-at encodings facts number holds within =
    let below : number < length facts = omega (arith, within, held-length encodings facts holds) in
    record {
      well_formed = well-formed-at facts number holds.well_formed below;
      bytes = ap (λ es. get_or es number []) holds.encodings_are ∙ encoding-at facts number below;
    }

-- ---- the walk of an instance

found-alike : {K : Type 0} (p q : K → Bool) (entries : List (K × ℕ)) → ((k : K) → p k ≡ q k) → indices_found p entries ≡ indices_found q entries
found-alike p q [] h = refl
found-alike p q (e ∷ es) h = elim (cases_Bool (q e.0)) [
  | inl passes ↦ rw (h e.0, passes) (ap (λ ys. e.1 ∷ ys) (found-alike p q es h))
  | inr fails ↦ rw (h e.0, fails) (found-alike p q es h)
]

and-swap : (a b : Bool) → (a && b) ≡ (b && a)
and-swap true true = refl
and-swap true false = refl
and-swap false true = refl
and-swap false false = refl

number-sym : (a b : ℕ) → (a == b) ≡ (b == a)
number-sym a b = grind (arith, nat_tests)

pub same-instance : (key : Key) (version : ℕ) (i : Key × ℕ) → instance_eq (key, version) i ≡ is_instance key version i
same-instance key version i =
    ap (λ b. b && version == i.1) (nat_list_eq_equiv.symm key i.0)
    ∙ ap (λ b. key_eq i.0 key && b) (number-sym version i.1)
    ∙ and-swap (key_eq i.0 key) (i.1 == version)

all-ordered : (facts : List Fact) → AreWellFormed facts → list_all is_ordered facts ≡ true
all-ordered [] fits = refl
all-ordered (fact ∷ facts) fits = rw (well_formed-ordered fact fits.0) (all-ordered facts fits.1)

pub fits-filtered : (keep : Fact → Bool) (facts : List Fact) → AreWellFormed facts → AreWellFormed (filter keep facts)
fits-filtered keep [] fits = tt
fits-filtered keep (fact ∷ facts) fits = elim (cases_Bool (keep fact)) [
  | inl kept ↦ rw kept (fits.0, fits-filtered keep facts fits.1)
  | inr left ↦ rw left (fits-filtered keep facts fits.1)
]

pub found-facts : (keep : Fact → Bool) (facts : List Fact) (key : Key) (version : ℕ) → AreWellFormed facts
    → map (fact_at facts) (indices_found (instance_eq (key, version)) (entries_kept keep facts)) ≡ filter (is_of_instance key version) (filter keep facts)
found-facts keep facts key version fits =
    let whole : AreOlder facts facts = λ number within. refl in
    let ordered : list_all (λ index. is_ordered (fact_at facts index)) (indices_of keep facts) ≡ true =
    sym (list_all-map is_ordered (fact_at facts) (indices_of keep facts))
    ∙ ap (list_all is_ordered) (facts-at keep facts facts whole)
    ∙ all-ordered (filter keep facts) (fits-filtered keep facts fits) in
    ap (map (fact_at facts)) (
    ap (indices_found (instance_eq (key, version))) (entries-entered keep facts facts whole)
    ∙ found-alike (instance_eq (key, version)) (is_instance key version) (entered instances_in (fact_at facts) (indices_of keep facts)) (same-instance key version)
    ∙ instance-found (fact_at facts) (indices_of keep facts) key version ordered
    )
    ∙ found-chain (is_of_instance key version) (fact_at facts) (indices_of keep facts)
    ∙ ap (filter (is_of_instance key version)) (facts-at keep facts facts whole)

-- a step at the fact of an entry
abbrev pub step_at : {A : Type 0} → (A → Fact → A) → List Fact → A → (Key × ℕ) × ℕ → A
step_at step facts state entry = step state (fact_at facts entry.1)

abbrev pub is_entry_of : Key → ℕ → (Key × ℕ) × ℕ → Bool
is_entry_of key version entry = instance_eq (key, version) entry.0

pub walk-facts : {A : Type 0} (step : A → Fact → A) (start : A) (keep : Fact → Bool) (facts : List Fact) (key : Key) (version : ℕ) → AreWellFormed facts
    → fold (step_at step facts) start (filter (is_entry_of key version) (entries_kept keep facts)) ≡ fold step start (filter (is_of_instance key version) (filter keep facts))
walk-facts step start keep facts key version fits =
    let passing = filter (is_entry_of key version) (entries_kept keep facts) in
    sym (fold-map (λ state number. step state (fact_at facts number)) (λ (e : (Key × ℕ) × ℕ). e.1) start passing)
    ∙ sym (fold-map step (fact_at facts) start (indices_found (instance_eq (key, version)) (entries_kept keep facts)))
    ∙ ap (fold step start) (found-facts keep facts key version fits)

-- the numbers of entries are those of facts
pub entries-below : (keep : Fact → Bool) (facts : List Fact) → AreBelow (length facts) (entries_kept keep facts)
entries-below keep [] = tt
entries-below keep (fact ∷ facts) =
    let older = below-more (length facts) (length (fact ∷ facts)) (entries_kept keep facts) (omega arith) (entries-below keep facts) in
    elim (cases_Bool (keep fact)) [
      | inl kept ↦
          rw kept (
          below-append (length (fact ∷ facts)) (entries_in fact (length facts)) (entries_kept keep facts)
          (below-one (length (fact ∷ facts)) (length facts) (instances_in fact) (omega arith)) older
          )
      | inr left ↦ rw left older
    ]
