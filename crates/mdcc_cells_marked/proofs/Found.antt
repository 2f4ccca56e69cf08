-- One of the entries of a transaction is shown where one of its facts is.
use Rattle.std.proofs.Common.{◌≡◌, ◌++◌, ◌∷◌, ℕ, Bool, true, false, List, [], Option, Some, None, get_or, is_some, refl, sym, subst, ap, ◌∙◌, inl, inr, arith}
use Rattle.std.specs.List.{filter, fold, list_any}
use Rattle.std.specs.Prelude.{◌<◌, ◌&&◌, ◌||◌, IfSome, if◌then◌else◌}
use Rattle.std.proofs.lemmas.Bool.{cases_Bool}
use Rattle.mdcc_base.specs.TxId.{tx_eq}
use Rattle.mdcc_base.specs.declared.identifiers.TxId.{TxId}
use Rattle.mdcc_base.specs.declared.key.Key.{Key}
use Rattle.mdcc_option.specs.declared.choices.Mark.{Mark}
use Rattle.mdcc_struct.specs.Maps.{value_of}
use Rattle.mdcc_struct.proofs.Order.{tx_eq-sym}
use Rattle.mdcc_def_messages.specs.declared.facts.Fact.{Fact}
use Rattle.mdcc_cells_chains.specs.Walks.{first_below, first_in, older, walk}
use Rattle.mdcc_cells_chains.proofs.Filtered.{walk-map}
use Rattle.mdcc_cells_indices.proofs.Folding.{IsFolding, Next, folding-begins, folding-ends, folding-goes}
use Rattle.mdcc_cells_marked.specs.Marks.{has_open_mark, is_open_entry, is_open_instance, is_open_mark, marks_beside, marks_of, marks_of_fact, no_instance, with_instances}
use Rattle.mdcc_cells_marked.proofs.Beside.{with_instances-at, with_instances-txs}

-- ---- the marks of facts

any-append : {A : Type 0} (test : A → Bool) (xs ys : List A) → list_any test (xs ++ ys) ≡ (list_any test xs || list_any test ys)
any-append test [] ys = refl
any-append test (x ∷ xs) ys = by (test x) (list_any test xs) (list_any test ys) (list_any test (xs ++ ys)) (any-append test xs ys)
  where
    by : (first a b all : Bool) → all ≡ (a || b) → (first || all) ≡ ((first || a) || b)
    by true a b all is = refl
    by false a b all is = is

voted : (all : List Fact) (tx : TxId) (instance : Key × ℕ) (options : List (TxId × Mark))
    → list_any (is_open_entry all tx) (marks_beside instance options) ≡ (is_some (value_of options tx) && is_open_instance all instance)
voted all tx instance [] = refl
voted all tx instance (e ∷ options) =
    by (tx_eq tx e.0) (tx_eq e.0 tx) (is_open_instance all instance) (value_of options tx) e.1 (list_any (is_open_entry all tx) (marks_beside instance options)) (tx_eq-sym tx e.0) (voted all tx instance options)
  where
    by : (same back shown : Bool) (found : Option Mark) (mark : Mark) (rest : Bool) → same ≡ back → rest ≡ (is_some found && shown)
        → (same && shown || rest) ≡ (is_some (if back then Some mark else found) && shown)
    by true true true found mark rest alike is = refl
    by true true false None mark rest alike is = is
    by true true false (Some m) mark rest alike is = is
    by false false shown found mark rest alike is = is
    by true false shown found mark rest alike is = absurd (cc)
    by false true shown found mark rest alike is = absurd (cc)

in-fact : (all : List Fact) (tx : TxId) (fact : Fact) → list_any (is_open_entry all tx) (marks_of_fact fact) ≡ is_open_mark all tx fact
in-fact all tx (Fact.Voted key version ballot options offered) = voted all tx (key, version) options
in-fact all tx (Fact.Booted epoch) = refl
in-fact all tx (Fact.Floor origin era upto) = refl
in-fact all tx (Fact.Promised key low high ballot) = refl
in-fact all tx (Fact.Heard t outcome) = refl
in-fact all tx (Fact.Adopted key version item adds) = refl

in-facts : (all : List Fact) (tx : TxId) (facts : List Fact) → list_any (is_open_entry all tx) (marks_of facts) ≡ list_any (is_open_mark all tx) facts
in-facts all tx [] = refl
in-facts all tx (fact ∷ facts) =
    let head = in-fact all tx fact in
    let tail = in-facts all tx facts in
    any-append (is_open_entry all tx) (marks_of_fact fact) (marks_of facts) ∙ (λ i. head i || tail i)

pub marked-known : (facts : List Fact) (tx : TxId) (entries : List (TxId × (Key × ℕ))) → entries ≡ marks_of facts → list_any (is_open_entry facts tx) entries ≡ has_open_mark facts tx
marked-known facts tx entries are = ap (list_any (is_open_entry facts tx)) are ∙ in-facts facts tx facts

-- ---- a walk that looks for one

-- what was found so far, or the entry
abbrev pub or_open : List Fact → Bool → TxId × (Key × ℕ) → Bool
or_open facts found entry = found || is_open_instance facts entry.1

pub found-stays : (facts : List Fact) (entries : List (TxId × (Key × ℕ))) → fold (or_open facts) true entries ≡ true
found-stays facts [] = refl
found-stays facts (entry ∷ entries) = found-stays facts entries

walked-here : (facts : List Fact) (tx : TxId) (entries : List (TxId × (Key × ℕ))) (found shown : Bool) → found ≡ shown
    → fold (or_open facts) false (filter (λ e. tx_eq tx e.0) entries) ≡ list_any (is_open_entry facts tx) entries
    → fold (or_open facts) found (filter (λ e. tx_eq tx e.0) entries) ≡ (found || list_any (is_open_entry facts tx) entries)
walked-here facts tx entries found true is rest =
    ap (λ b. fold (or_open facts) b (filter (λ e. tx_eq tx e.0) entries)) is
    ∙ found-stays facts (filter (λ e. tx_eq tx e.0) entries)
    ∙ ap (λ b. b || list_any (is_open_entry facts tx) entries) (sym is)
walked-here facts tx entries found false is rest =
    ap (λ b. fold (or_open facts) b (filter (λ e. tx_eq tx e.0) entries)) is
    ∙ rest
    ∙ ap (λ b. b || list_any (is_open_entry facts tx) entries) (sym is)

pub walked-any : (facts : List Fact) (tx : TxId) (entries : List (TxId × (Key × ℕ))) → fold (or_open facts) false (filter (λ e. tx_eq tx e.0) entries) ≡ list_any (is_open_entry facts tx) entries
walked-any facts tx [] = refl
walked-any facts tx (entry ∷ entries) = elim (cases_Bool (tx_eq tx entry.0)) [
  | inl same ↦ rw same (walked-here facts tx entries (is_open_instance facts entry.1) (is_open_instance facts entry.1) refl (walked-any facts tx entries))
  | inr other ↦ rw other (walked-any facts tx entries)
]

-- a walk over transactions is one over their entries
pub walk-entries : (txs : List TxId) (instances : List (Key × ℕ)) (tx : TxId) → walk (tx_eq tx) txs ≡ walk (λ (e : TxId × (Key × ℕ)). tx_eq tx e.0) (with_instances txs instances)
walk-entries txs instances tx = ap (walk (tx_eq tx)) (sym (with_instances-txs txs instances)) ∙ walk-map (λ (e : TxId × (Key × ℕ)). e.0) (tx_eq tx) (with_instances txs instances)

abbrev pub IsLooking : List Fact → TxId → List (TxId × (Key × ℕ)) → Option ℕ → Type 0
IsLooking facts tx entries at = IsFolding (or_open facts) false (λ e. tx_eq tx e.0) entries at false

module _ (facts : List Fact) (tx : TxId) (txs : List TxId) (instances : List (Key × ℕ)) where
  pub looking-begins : (at : Option ℕ) → at ≡ first_in (walk (tx_eq tx) txs) → IsLooking facts tx (with_instances txs instances) at
  looking-begins at is = folding-begins (or_open facts) false (λ e. tx_eq tx e.0) (with_instances txs instances) at (is ∙ ap first_in (walk-entries txs instances tx))

  next-entry : (i : ℕ) → IsLooking facts tx (with_instances txs instances) (Some i) → Next (or_open facts) false (λ e. tx_eq tx e.0) (with_instances txs instances) i false
  next-entry i looking = folding-goes (or_open facts) false (λ e. tx_eq tx e.0) (with_instances txs instances) i false looking

  pub looking-goes : (i : ℕ) (next : Option ℕ) → IsLooking facts tx (with_instances txs instances) (Some i) → is_open_instance facts (get_or instances i no_instance) ≡ false → next ≡ first_below i (walk (tx_eq tx) txs)
      → IsLooking facts tx (with_instances txs instances) next
  looking-goes i next looking closed is =
      let entry = next-entry i looking in
      let here : is_open_instance facts entry.entry.1 ≡ false = ap (is_open_instance facts) (sym (with_instances-at txs instances i entry.entry entry.at)) ∙ closed in
      subst (λ found. IsFolding (or_open facts) false (λ e. tx_eq tx e.0) (with_instances txs instances) next found) here (entry.goes next (is ∙ ap (first_below i) (walk-entries txs instances tx)))

  pub looking-finds : (i : ℕ) → IsLooking facts tx (with_instances txs instances) (Some i) → is_open_instance facts (get_or instances i no_instance) ≡ true → list_any (is_open_entry facts tx) (with_instances txs instances) ≡ true
  looking-finds i looking shown =
      let entry = next-entry i looking in
      let here : is_open_instance facts entry.entry.1 ≡ true = ap (is_open_instance facts) (sym (with_instances-at txs instances i entry.entry entry.at)) ∙ shown in
      let goes = subst (λ found. IsFolding (or_open facts) false (λ e. tx_eq tx e.0) (with_instances txs instances) (first_below i (walk (λ (e : TxId × (Key × ℕ)). tx_eq tx e.0) (with_instances txs instances))) found) here (entry.goes (first_below i (walk (λ (e : TxId × (Key × ℕ)). tx_eq tx e.0) (with_instances txs instances))) refl) in
      sym (walked-any facts tx (with_instances txs instances)) ∙ sym goes.2 ∙ found-stays facts (filter (λ e. tx_eq tx e.0) (older goes.0 (with_instances txs instances)))

  pub looking-ends : IsLooking facts tx (with_instances txs instances) None → list_any (is_open_entry facts tx) (with_instances txs instances) ≡ false
  looking-ends looking = sym (walked-any facts tx (with_instances txs instances)) ∙ sym (folding-ends (or_open facts) false (λ e. tx_eq tx e.0) (with_instances txs instances) false looking)

pub still-within : (n i : ℕ) (next : Option ℕ) → i < n → IfSome next (λ j. j < i) → IfSome next (λ j. j < n)
still-within n i None within lower = tt
still-within n i (Some j) within lower = omega (arith, within, lower)
