-- What reports force.
use Rattle.std.proofs.Common.{◌≡◌, ℕ, ◌+◌, ◌*◌, ◌<◌, ◌≤◌, ◌⊎◌, Bool, true, false, cond, List, [], ◌∷◌, length, refl, sym, ap, ◌∙◌, arith, inl, inr, Option, Some, None}
use Rattle.std.specs.Prelude.{nat_le, is_some}
use Rattle.std.specs.Option.{option_or}
use Rattle.std.specs.List.{filter_map, find, fold}
use Rattle.std.proofs.lemmas.Bool.{cases_Bool, false≢true, leb-true, le-leb}
use Rattle.mdcc_base.specs.Counts.{number_of}
use Rattle.mdcc_base.specs.declared.identifiers.TxId.{TxId}
use Rattle.mdcc_base.specs.TxId.{tx_eq}
use Rattle.mdcc_option.proofs.Equal.{Decides-mark}
use Rattle.mdcc_option.specs.declared.choices.Mark.{Mark}
use Rattle.mdcc_option.specs.Equality.{mark_eq}
use Rattle.mdcc_struct.specs.declared.report.Report.{Report}
use Rattle.mdcc_struct.specs.Forced.{reports_with, marks_reported, mark_with, marks_with}
use Rattle.mdcc_struct.specs.Maps.{value_of, union}
use Rattle.mdcc_struct.specs.Options.{Marks}
use Rattle.mdcc_struct.proofs.Order.{tx_eq-same}
use Rattle.mdcc_struct.proofs.Values.{value_of-union}
use Rattle.mdcc_struct.proofs.Walks.{picked_entry}

-- ---- the marks of all reports

-- the first mark that the reports have of a transaction
abbrev pub first_mark : List Report → TxId → Option Mark
first_mark [] tx = None
first_mark (r ∷ rs) tx = option_or (value_of r.votes tx) (first_mark rs tx)

pub cases_Option : {X : Type 0} (o : Option X) → (o ≡ None) ⊎ ((x : X) × (o ≡ Some x))
cases_Option None = inl refl
cases_Option (Some x) = inr (x, refl)

or_none : {X : Type 0} (o : Option X) → option_or o None ≡ o
or_none None = refl
or_none (Some x) = refl

or_assoc : {X : Type 0} (a b c : Option X) → option_or (option_or a b) c ≡ option_or a (option_or b c)
or_assoc None b c = refl
or_assoc (Some x) b c = refl

reported_from : (marks : Marks) (rs : List Report) (tx : TxId)
    → value_of (fold (λ marks report. union marks report.votes) marks rs) tx ≡ option_or (value_of marks tx) (first_mark rs tx)
reported_from marks [] tx = sym (or_none (value_of marks tx))
reported_from marks (r ∷ rs) tx =
    reported_from (union marks r.votes) rs tx ∙ ap (λ o. option_or o (first_mark rs tx)) (value_of-union marks r.votes tx)
    ∙ or_assoc (value_of marks tx) (value_of r.votes tx) (first_mark rs tx)

pub value_of-reported : (rs : List Report) (tx : TxId) → value_of (marks_reported rs) tx ≡ first_mark rs tx
value_of-reported rs tx = reported_from [] rs tx

-- ---- counts

-- the marks of one transaction that the reports have
abbrev pub marks_for : List Report → TxId → List Mark
marks_for rs tx = filter_map (λ report. value_of report.votes tx) rs

pub reports_with-number : (rs : List Report) (tx : TxId) (x : Mark) → reports_with rs tx x ≡ number_of (mark_eq x) (marks_for rs tx)
reports_with-number [] tx x = refl
reports_with-number (r ∷ rs) tx x =
    let rest = reports_with-number rs tx x in
    elim (cases_Option (value_of r.votes tx)) [
      | inl none ↦ rw none (omega arith)
      | inr some ↦ rw some.1 (omega arith)
    ]

length-marks_for : (rs : List Report) (tx : TxId) → length (marks_for rs tx) ≤ length rs
length-marks_for [] tx = omega arith
length-marks_for (r ∷ rs) tx =
    let rest = length-marks_for rs tx in
    elim (cases_Option (value_of r.votes tx)) [
      | inl none ↦ rw none (omega arith)
      | inr some ↦ rw some.1 (omega arith)
    ]

-- two marks are not both those of more than half
two_marks : (x y : Mark) (ms : List Mark) → (x ≡ y → ⊥) → number_of (mark_eq x) ms + number_of (mark_eq y) ms ≤ length ms
two_marks x y [] h = omega arith
two_marks x y (m ∷ ms) h =
    let rest = two_marks x y ms h in
    elim (cases_Bool (mark_eq x m)) [
      | inl e ↦ elim (cases_Bool (mark_eq y m)) [
        | inl f ↦ absurd (h ((Decides-mark x m).0 e ∙ sym ((Decides-mark y m).0 f)))
        | inr f ↦ rw (e, f) (omega arith)
      ]
      | inr e ↦ elim (cases_Bool (mark_eq y m)) [
        | inl f ↦ rw (e, f) (omega arith)
        | inr f ↦ rw (e, f) (omega arith)
      ]
    ]

-- the only mark that passes is found, where it is there
found_one : (p : Mark → Bool) (x : Mark) (ms : List Mark) → 0 < number_of (mark_eq x) ms → p x ≡ true → ((y : Mark) → p y ≡ true → y ≡ x) → find p ms ≡ Some x
found_one p x [] h px one = absurd (omega arith)
found_one p x (m ∷ ms) h px one =
    elim (cases_Bool (p m)) [
      | inl e ↦ rw e (ap Some (one m e))
      | inr e ↦ elim (cases_Bool (mark_eq x m)) [
        | inl f ↦ absurd (false≢true (sym e ∙ ap p (sym ((Decides-mark x m).0 f)) ∙ px))
        | inr f ↦
            let less : number_of (mark_eq x) (m ∷ ms) ≡ number_of (mark_eq x) ms = rw f (omega arith) in
            rw e (found_one p x ms (omega arith) px one)
      ]
    ]

found_passes : (p : Mark → Bool) (x : Mark) (ms : List Mark) → find p ms ≡ Some x → p x ≡ true
found_passes p x [] h = absurd (cc)
found_passes p x (m ∷ ms) h =
    elim (cases_Bool (p m)) [
      | inl e ↦ let is : Some m ≡ Some x = rw e at h in let same : m ≡ x = cc in ap p (sym same) ∙ e
      | inr e ↦ found_passes p x ms (rw e at h)
    ]

-- ---- what is picked of a map

both_none : {Y : Type 0} (b : Bool) → cond {A = Option Y} b None None ≡ None
both_none true = refl
both_none false = refl

pub picked_value : (f : TxId → Option Mark) (m : Marks) (tx : TxId) → value_of (filter_map (picked_entry f) m) tx ≡ cond (is_some (value_of m tx)) (f tx) None
picked_value f [] tx = refl
picked_value f (e ∷ es) tx =
    let rest : value_of (filter_map (picked_entry f) es) tx ≡ cond (is_some (value_of es tx)) (f tx) None = picked_value f es tx in
    elim (cases_Option (f e.0)) [
      | inl is ↦ rw is (elim (cases_Bool (tx_eq e.0 tx)) [
        | inl same ↦
            let here : f tx ≡ None = ap f (sym (tx_eq-same e.0 tx same)) ∙ is in
            let left : value_of (filter_map (picked_entry f) es) tx ≡ None =
            rest ∙ ap (λ o. cond (is_some (value_of es tx)) o None) here ∙ both_none (is_some (value_of es tx)) in
            rw same (left ∙ sym here)
        | inr other ↦ rw other rest
      ])
      | inr some ↦ rw some.1 (elim (cases_Bool (tx_eq e.0 tx)) [
        | inl same ↦ let here : f tx ≡ Some some.0 = ap f (sym (tx_eq-same e.0 tx same)) ∙ some.1 in rw (same, here) refl
        | inr other ↦ rw other rest
      ])
    ]

has_first : (rs : List Report) (tx : TxId) (x : Mark) → 0 < number_of (mark_eq x) (marks_for rs tx) → is_some (first_mark rs tx) ≡ true
has_first [] tx x h = absurd (omega arith)
has_first (r ∷ rs) tx x h =
    elim (cases_Option (value_of r.votes tx)) [
      | inl none ↦
          let left : 0 < number_of (mark_eq x) (marks_for rs tx) = rw none at h in
          rw none (has_first rs tx x left)
      | inr some ↦ rw some.1 refl
    ]

when_some : {X Y : Type 0} (o : Option X) (p : Option Y) → is_some o ≡ true → cond (is_some o) p None ≡ p
when_some o p h = rw h refl

-- ---- the marks that enough reports have

pub enough_forced : (rs : List Report) (least : ℕ) (tx : TxId) (x : Mark) → length rs < 2 * least → least ≤ reports_with rs tx x → value_of (marks_with rs least) tx ≡ Some x
enough_forced rs least tx x half h =
    let count = reports_with-number rs tx x in
    let some : 0 < number_of (mark_eq x) (marks_for rs tx) = omega arith in
    let p : Mark → Bool = λ mark. nat_le least (reports_with rs tx mark) in
    let one : (y : Mark) → p y ≡ true → y ≡ x = λ y g. elim (cases_Bool (mark_eq y x)) [
      | inl e ↦ (Decides-mark y x).0 e
      | inr e ↦
          let apart : y ≡ x → ⊥ = λ same. false≢true (sym e ∙ (Decides-mark y x).1 same) in
          absurd (omega (arith, two_marks y x (marks_for rs tx) apart, length-marks_for rs tx, reports_with-number rs tx y, leb-true least (reports_with rs tx y) g))
    ] in
    let found : mark_with rs least tx ≡ Some x = found_one p x (marks_for rs tx) some (le-leb least (reports_with rs tx x) h) one in
    let there : is_some (value_of (marks_reported rs) tx) ≡ true = rw (value_of-reported rs tx) (has_first rs tx x some) in
    picked_value (mark_with rs least) (marks_reported rs) tx ∙ when_some (value_of (marks_reported rs) tx) (mark_with rs least tx) there ∙ found

pub forced_enough : (rs : List Report) (least : ℕ) (tx : TxId) (x : Mark) → value_of (marks_with rs least) tx ≡ Some x → least ≤ reports_with rs tx x
forced_enough rs least tx x h =
    let value : cond (is_some (value_of (marks_reported rs) tx)) (mark_with rs least tx) None ≡ Some x = sym (picked_value (mark_with rs least) (marks_reported rs) tx) ∙ h in
    elim (cases_Bool (is_some (value_of (marks_reported rs) tx))) [
      | inl e ↦ leb-true least (reports_with rs tx x) (found_passes (λ mark. nat_le least (reports_with rs tx mark)) x (marks_for rs tx) (rw e at value))
      | inr e ↦ let bad : None ≡ Some x = rw e at value in absurd (cc)
    ]

pub when_fast : {X : Type 0} (b : Bool) (x y : X) → b ≡ true → cond b x y ≡ x
when_fast b x y h = rw h refl
