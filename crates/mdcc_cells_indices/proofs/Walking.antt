-- A walk through the index of instances comes by the facts of one of them.
use Rattle.std.proofs.Common.{◌≡◌, ◌<◌, ℕ, Bool, List, [], ◌∷◌, Option, Some, None, get_or, length, map, refl, sym, ap, ◌∙◌, subst, inl, inr}
use Rattle.std.specs.List.{filter, fold}
use Rattle.std.proofs.lemmas.Bool.{cases_Bool}
use Rattle.mdcc_base.specs.declared.key.Key.{Key}
use Rattle.mdcc_def_messages.specs.Spelling.{fact_bytes}
use Rattle.mdcc_def_messages.specs.WellFormed.{IsWellFormedFact}
use Rattle.mdcc_def_messages.specs.declared.facts.Fact.{Fact}
use Rattle.mdcc_cells_chains.specs.Keys.{instance_eq}
use Rattle.mdcc_cells_chains.specs.Walks.{entry_at, first_below, first_in, walk}
use Rattle.mdcc_cells_chains.proofs.Filtered.{walk-map}
use Rattle.mdcc_cells_facts.specs.Holding.{AreWellFormed, HoldsEncodings}
use Rattle.mdcc_theorem_fact_folds.specs.Chains.{is_of_instance}
use Rattle.mdcc_cells_delta_walk.specs.Chains.{AreOf, encoding_at, encodings_walked}
use Rattle.mdcc_cells_indices.specs.Entries.{AreBelow, beside, entries_kept}
use Rattle.mdcc_cells_indices.proofs.Beside.{beside-at, beside-keys, length-beside}
use Rattle.mdcc_cells_indices.proofs.Entered.{entries-below, fact_at, fits-filtered, found-facts, is_entry_of, step_at, stored-at, walk-facts, held-length}
use Rattle.mdcc_cells_indices.proofs.Folding.{folding-begins, folding-ends, folding-goes, IsFolding, Next}

-- a walk over keys is one over the entries that have them
walk-entries : (keys : List (Key × ℕ)) (numbers : List ℕ) (keep : Fact → Bool) (facts : List Fact) (instance : Key × ℕ) → beside keys numbers ≡ entries_kept keep facts
    → walk (instance_eq instance) keys ≡ walk (is_entry_of instance.0 instance.1) (entries_kept keep facts)
walk-entries keys numbers keep facts instance entries =
    ap (walk (instance_eq instance)) (sym (beside-keys keys numbers) ∙ ap (map (λ (e : (Key × ℕ) × ℕ). e.0)) entries)
    ∙ walk-map (λ (e : (Key × ℕ) × ℕ). e.0) (instance_eq instance) (entries_kept keep facts)

-- ---- steps at the facts of an instance

-- the steps that are left give the whole fold
abbrev pub IsWalking : {A : Type 0} → (A → Fact → A) → A → (Fact → Bool) → List Fact → Key × ℕ → Option ℕ → A → Type 0
IsWalking step start keep facts instance at state = IsFolding (step_at step facts) start (is_entry_of instance.0 instance.1) (entries_kept keep facts) at state

module _ {A : Type 0} (step : A → Fact → A) (start : A) (keep : Fact → Bool) (facts : List Fact) (keys : List (Key × ℕ)) (numbers : List ℕ) (instance : Key × ℕ) (entries : beside keys numbers ≡ entries_kept keep facts) where
  pub walking-begins : (at : Option ℕ) → at ≡ first_in (walk (instance_eq instance) keys) → IsWalking step start keep facts instance at start
  walking-begins at is =
      folding-begins (step_at step facts) start (is_entry_of instance.0 instance.1) (entries_kept keep facts) at (is ∙ ap first_in (walk-entries keys numbers keep facts instance entries))

  pub walking-ends : (state : A) → AreWellFormed facts → IsWalking step start keep facts instance None state → state ≡ fold step start (filter (is_of_instance instance.0 instance.1) (filter keep facts))
  walking-ends state fits walking =
      folding-ends (step_at step facts) start (is_entry_of instance.0 instance.1) (entries_kept keep facts) state walking ∙ walk-facts step start keep facts instance.0 instance.1 fits

  -- the fact of the next entry
  pub record AtEntry (encodings : List (List ℕ)) (entry : ℕ) (state : A) : Type 0 where
    pub fact : Fact
    pub well_formed : IsWellFormedFact fact
    pub bytes : get_or encodings (get_or numbers entry 0) [] ≡ fact_bytes fact
    pub goes : (next : Option ℕ) → next ≡ first_below entry (walk (instance_eq instance) keys) → IsWalking step start keep facts instance next (step state fact)

  pub walking-goes : (encodings : List (List ℕ)) (entry : ℕ) (state : A) → HoldsEncodings encodings facts → get_or numbers entry 0 < length encodings
      → IsWalking step start keep facts instance (Some entry) state → AtEntry encodings entry state
  walking-goes encodings entry state holds below walking =
      let passes = is_entry_of instance.0 instance.1 in
      let next : Next (step_at step facts) start passes (entries_kept keep facts) entry state = folding-goes (step_at step facts) start passes (entries_kept keep facts) entry state walking in
      let number-is : get_or numbers entry 0 ≡ next.entry.1 = beside-at keys numbers entry next.entry (ap (λ es. entry_at es entry) entries ∙ next.at) in
      let stored = stored-at encodings facts (get_or numbers entry 0) holds below in
      record {
        fact = fact_at facts (get_or numbers entry 0);
        well_formed = stored.well_formed;
        bytes = stored.bytes;
        goes = λ after is.
            subst (λ s. IsWalking step start keep facts instance after s) (ap (λ n. step state (fact_at facts n)) (sym number-is))
            (next.goes after (is ∙ ap (first_below entry) (walk-entries keys numbers keep facts instance entries)));
      }

-- ---- the encodings of these facts

texts-found : (encodings : List (List ℕ)) (test : (Key × ℕ) × ℕ → Bool) (keys : List (Key × ℕ)) (numbers : List ℕ)
    → map (encoding_at encodings numbers) (walk test (beside keys numbers)) ≡ map (λ e. get_or encodings e.1 []) (filter test (beside keys numbers))
texts-found encodings test [] numbers = refl
texts-found encodings test (key ∷ keys) numbers = elim (cases_Bool (test (key, get_or numbers (length keys) 0))) [
  | inl passes ↦
      let here : encoding_at encodings numbers (length (beside keys numbers)) ≡ get_or encodings (get_or numbers (length keys) 0) [] =
      ap (λ n. get_or encodings (get_or numbers n 0) []) (length-beside keys numbers) in
      let rest = texts-found encodings test keys numbers in
      rw passes (λ i. here i ∷ rest i)
  | inr fails ↦ rw fails (texts-found encodings test keys numbers)
]

bytes-found : (encodings : List (List ℕ)) (facts : List Fact) → HoldsEncodings encodings facts → (test : (Key × ℕ) × ℕ → Bool) (entries : List ((Key × ℕ) × ℕ)) → AreBelow (length encodings) entries
    → map (λ e. get_or encodings e.1 []) (filter test entries) ≡ map fact_bytes (map (fact_at facts) (map (λ e. e.1) (filter test entries)))
bytes-found encodings facts holds test [] below = refl
bytes-found encodings facts holds test (entry ∷ entries) below =
    let stored = stored-at encodings facts entry.1 holds below.0 in
    let rest = bytes-found encodings facts holds test entries below.1 in
    elim (cases_Bool (test entry)) [
      | inl passes ↦ rw passes (λ i. stored.bytes i ∷ rest i)
      | inr fails ↦ rw fails rest
    ]

pub texts-are : (encodings : List (List ℕ)) (keep : Fact → Bool) (facts : List Fact) (keys : List (Key × ℕ)) (numbers : List ℕ) (instance : Key × ℕ) → HoldsEncodings encodings facts → beside keys numbers ≡ entries_kept keep facts
    → AreOf (encodings_walked encodings keys numbers instance) (filter (is_of_instance instance.0 instance.1) (filter keep facts))
texts-are encodings keep facts keys numbers instance holds entries =
    let test = is_entry_of instance.0 instance.1 in
    let below : AreBelow (length encodings) (beside keys numbers) =
    subst (AreBelow (length encodings)) (sym entries) (subst (λ bound. AreBelow bound (entries_kept keep facts)) (sym (held-length encodings facts holds)) (entries-below keep facts)) in
    let walked : walk (instance_eq instance) keys ≡ walk test (beside keys numbers) =
    walk-entries keys numbers keep facts instance entries ∙ ap (walk test) (sym entries) in
    record {
      encodings_are = ap (map (encoding_at encodings numbers)) walked
          ∙ texts-found encodings test keys numbers
          ∙ bytes-found encodings facts holds test (beside keys numbers) below
          ∙ ap (λ es. map fact_bytes (map (fact_at facts) (map (λ (e : (Key × ℕ) × ℕ). e.1) (filter test es)))) entries
          ∙ ap (map fact_bytes) (found-facts keep facts instance.0 instance.1 holds.well_formed);
      well_formed = fits-filtered (is_of_instance instance.0 instance.1) (filter keep facts) (fits-filtered keep facts holds.well_formed);
    }
