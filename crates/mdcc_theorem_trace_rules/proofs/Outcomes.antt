-- Outcomes come from marks and stay.
use Rattle.std.proofs.Common.{List, None, Option, Some, [], inl, inr, length, refl, subst, sym, true, ◌<◌, ◌∙◌, ◌∷◌, ◌≡◌}
use Rattle.std.specs.Prelude.{is_some, map, nat_lt, ⊤}
use Rattle.std.specs.List.{list_all, list_any}
use Rattle.std.proofs.lemmas.Bool.{and_parts, cases_Bool, lt-ltb, ltb-true, or_cases, or_left, or_right}
use Rattle.mdcc_base.specs.Sizes.{Sizes}
use Rattle.mdcc_base.specs.AreQuorums.{AreQuorums}
use Rattle.mdcc_base.specs.declared.identifiers.TxId.{TxId}
use Rattle.mdcc_option.specs.declared.choices.Outcome.TheVariants.{Abort}
use Rattle.mdcc_option.specs.declared.choices.Choice.{Choice}
use Rattle.mdcc_option.specs.declared.cluster.Cluster.{Cluster}
use Rattle.mdcc_option.specs.declared.choices.Mark.{Mark}
use Rattle.mdcc_option.specs.declared.choices.Outcome.{Outcome}
use Rattle.mdcc_option.specs.declared.choices.Mark.TheVariants.{Accept, Reject}
use Rattle.mdcc_def_protocol.specs.Marks.{is_reject_found, outcome_of_marks}
use Rattle.mdcc_def_ledger.specs.Ledger.{Entry, choices_begun, chosen_of, outcome_of}
use Rattle.mdcc_def_ledger.specs.AllowedLedgers.{IsAllowed}
use Rattle.mdcc_theorem_trace_states.specs.Words.{IsTail}
use Rattle.mdcc_theorem_trace_states.specs.Sound.{HasOneMark}
use Rattle.mdcc_theorem_trace_states.proofs.Maps.{is_some-some}
use Rattle.mdcc_theorem_trace_states.proofs.Ledgers.{begun-more}
use Rattle.mdcc_theorem_trace_rules.proofs.Chosen.{IsChosen-more, chosen-from, chosen-to}

-- each mark of the first list is the one at its place in the second
abbrev pub AreAmong : List (Option Mark) → List (Option Mark) → Type 0
AreAmong [] [] = ⊤
AreAmong [] (b ∷ bs) = ⊥
AreAmong (a ∷ as') [] = ⊥
AreAmong (a ∷ as') (b ∷ bs) = ((x : Mark) → a ≡ Some x → b ≡ Some x) × AreAmong as' bs

reject_found : (o : Option Mark) → is_reject_found o ≡ true → o ≡ Some Reject
reject_found None h = absurd (cc)
reject_found (Some (Accept c)) h = absurd (cc)
reject_found (Some Reject) h = refl

any-among : (xs ys : List (Option Mark)) → AreAmong xs ys → list_any is_reject_found xs ≡ true → list_any is_reject_found ys ≡ true
any-among [] [] h g = g
any-among [] (b ∷ bs) h g = absurd h
any-among (a ∷ as') [] h g = absurd h
any-among (a ∷ as') (b ∷ bs) h g =
    elim (or_cases (is_reject_found a) (list_any is_reject_found as') g) [
      | inl e ↦ let s : b ≡ Some Reject = h.0 Reject (reject_found a e) in or_left (is_reject_found b) (list_any is_reject_found bs) (rw s refl)
      | inr e ↦ or_right (is_reject_found b) _ (any-among as' bs h.1 e)
    ]

all-among : (xs ys : List (Option Mark)) → AreAmong xs ys → list_all is_some xs ≡ true → xs ≡ ys
all-among [] [] h g = refl
all-among [] (b ∷ bs) h g = absurd h
all-among (a ∷ as') [] h g = absurd h
all-among (a ∷ as') (b ∷ bs) h g =
    let parts = and_parts (is_some a) (list_all is_some as') g in
    let x = is_some-some a parts.0 in
    let s : b ≡ Some x.0 = h.0 x.0 x.1 in
    let r : as' ≡ bs = all-among as' bs h.1 parts.1 in
    let e : a ≡ b = x.1 ∙ sym s in cc

pub marks-among : (xs ys : List (Option Mark)) (o : Outcome) → AreAmong xs ys → outcome_of_marks xs ≡ Some o → outcome_of_marks ys ≡ Some o
marks-among xs ys o h g =
    elim (cases_Bool (list_any is_reject_found xs)) [
      | inl e ↦ let g' : Some Abort ≡ Some o = rw e at g in rw (any-among xs ys h e) g'
      | inr e ↦ elim (cases_Bool (list_all is_some xs)) [
        | inl f ↦ subst (λ z. outcome_of_marks z ≡ Some o) (all-among xs ys h f) g
        | inr f ↦ let bad : None ≡ Some o = rw f at (rw e at g) in absurd (cc)
      ]
    ]

-- from marks that are known for the choices of a begun transaction
pub outcome-from : (q : Sizes) (es : List Entry) (t : TxId) (o : Outcome) (marks : List (Option Mark)) → 0 < length (choices_begun es t) →
    AreAmong marks (map (λ (c : Choice). chosen_of q es c.key c.version t) (choices_begun es t)) → outcome_of_marks marks ≡ Some o → outcome_of q es t ≡ Some o
outcome-from q es t o marks some among h =
    let test : nat_lt 0 (length (choices_begun es t)) ≡ true = lt-ltb 0 _ some in rw test (marks-among marks _ o among h)

-- an outcome is of a begun transaction
pub outcome-begun : (q : Sizes) (es : List Entry) (t : TxId) (o : Outcome) → outcome_of q es t ≡ Some o →
    (0 < length (choices_begun es t)) × (outcome_of_marks (map (λ (c : Choice). chosen_of q es c.key c.version t) (choices_begun es t)) ≡ Some o)
outcome-begun q es t o h =
    elim (cases_Bool (nat_lt 0 (length (choices_begun es t)))) [
      | inl e ↦ let g : outcome_of_marks (map (λ (c : Choice). chosen_of q es c.key c.version t) (choices_begun es t)) ≡ Some o = rw e at h in (ltb-true 0 _ e, g)
      | inr e ↦ let bad : None ≡ Some o = rw e at h in absurd (cc)
    ]

among-map : (f g : Choice → Option Mark) (cs : List Choice) → ((c : Choice) (x : Mark) → f c ≡ Some x → g c ≡ Some x) → AreAmong (map f cs) (map g cs)
among-map f g [] h = tt
among-map f g (c ∷ cs) h = (h c, among-map f g cs h)

-- an outcome stays, where there is one mark
pub outcome-more : (cluster : Cluster) → AreQuorums cluster.quorums → (e : Entry) (es : List Entry) (t : TxId) (o : Outcome) → IsAllowed cluster (e ∷ es) → HasOneMark cluster.quorums (e ∷ es) →
    outcome_of cluster.quorums es t ≡ Some o → outcome_of cluster.quorums (e ∷ es) t ≡ Some o
outcome-more cluster sizes e es t o legal one h =
    let before = outcome-begun cluster.quorums es t o h in
    let same : choices_begun (e ∷ es) t ≡ choices_begun es t = begun-more cluster e es t legal before.0 in
    let some : 0 < length (choices_begun (e ∷ es) t) = rw same before.0 in
    outcome-from cluster.quorums (e ∷ es) t o (map (λ (c : Choice). chosen_of cluster.quorums es c.key c.version t) (choices_begun es t)) some
    (subst (λ z. AreAmong (map (λ (c : Choice). chosen_of cluster.quorums es c.key c.version t) (choices_begun es t)) (map (λ (c : Choice). chosen_of cluster.quorums (e ∷ es) c.key c.version t) z))
    (sym same)
    (among-map (λ (c : Choice). chosen_of cluster.quorums es c.key c.version t) (λ (c : Choice). chosen_of cluster.quorums (e ∷ es) c.key c.version t) (choices_begun es t)
    (λ c x k. chosen-from cluster.quorums sizes (e ∷ es) one c.key c.version t x (IsChosen-more cluster.quorums e es c.key c.version t x (chosen-to cluster.quorums es c.key c.version t x k)))))
    before.1

-- what is chosen below is chosen above, so one mark above is one mark below
pub HasOneMark-less : (q : Sizes) (e : Entry) (es : List Entry) → HasOneMark q (e ∷ es) → HasOneMark q es
HasOneMark-less q e es one k v t x y c d = one k v t x y (IsChosen-more q e es k v t x c) (IsChosen-more q e es k v t y d)

pub outcome-tail : (cluster : Cluster) → AreQuorums cluster.quorums → (old es : List Entry) (t : TxId) (o : Outcome) → IsTail old es → IsAllowed cluster es → HasOneMark cluster.quorums es →
    outcome_of cluster.quorums old t ≡ Some o → outcome_of cluster.quorums es t ≡ Some o
outcome-tail cluster sizes old [] t o tail legal one h = subst (λ z. outcome_of cluster.quorums z t ≡ Some o) tail h
outcome-tail cluster sizes old (e ∷ es) t o tail legal one h =
    elim tail [
      | inl same ↦ subst (λ z. outcome_of cluster.quorums z t ≡ Some o) same h
      | inr rest ↦ outcome-more cluster sizes e es t o legal one (outcome-tail cluster sizes old es t o rest legal.0 (HasOneMark-less cluster.quorums e es one) h)
    ]
