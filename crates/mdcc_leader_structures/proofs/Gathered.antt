-- Claims that are added report by report are those of all reports.
use Rattle.std.proofs.Common.{◌≡◌, true, false, cond, List, [], ◌∷◌, ◌++◌, Option, Some, None, refl, sym, ap, ◌∙◌, inl, inr, fold, append_assoc}
use Rattle.std.specs.Prelude.{is_some}
use Rattle.std.specs.Option.{option_or}
use Rattle.std.proofs.lemmas.Bool.{cases_Bool}
use Rattle.std.proofs.lemmas.List.{append-nil}
use Rattle.mdcc_base.specs.TxId.{tx_eq, tx_lt}
use Rattle.mdcc_base.specs.declared.identifiers.TxId.{TxId}
use Rattle.mdcc_option.specs.declared.choices.Choice.{Choice}
use Rattle.mdcc_option.specs.declared.choices.Mark.{Mark}
use Rattle.mdcc_struct.specs.Maps.{TxMap, are_ascending, inserted, union, value_of, with_entry}
use Rattle.mdcc_struct.specs.declared.options.Options.{Options}
use Rattle.mdcc_struct.specs.declared.report.Report.{Report}
use Rattle.mdcc_struct.proofs.Inclusion.{same_found}
use Rattle.mdcc_struct.proofs.Order.{tx_eq-same, tx_lt-apart_back, tx_lt-other}
use Rattle.mdcc_struct.proofs.Ordered.{IsBelow, IsBelow-trans, ascending-below, ascending-tail, value_of-below}
use Rattle.mdcc_struct.proofs.Values.{entry_value, value_of-union}
use Rattle.mdcc_def_protocol.specs.Structures.{all_claims, choices_reported, claims_reported, with_choice}
use Rattle.mdcc_leader_structures.specs.Marked.{claims_of}
use Rattle.mdcc_leader_structures.proofs.Filled.{ascending-with_choice}

-- ---- what is found in claims

-- what is found after another claim
abbrev combined : Option (Option Choice) → Option (Option Choice) → Option (Option Choice)
combined None p = p
combined (Some x) None = Some x
combined (Some x) (Some y) = Some (option_or x y)

combined_none : (o : Option (Option Choice)) → combined o None ≡ o
combined_none None = refl
combined_none (Some x) = refl

-- a choice that is known stays
combined_known : (o : Option (Option Choice)) (c : Choice) (p : Option (Option Choice)) → combined (combined o (Some (Some c))) p ≡ combined o (Some (Some c))
combined_known None c None = refl
combined_known None c (Some y) = refl
combined_known (Some None) c None = refl
combined_known (Some None) c (Some y) = refl
combined_known (Some (Some x)) c None = refl
combined_known (Some (Some x)) c (Some y) = refl

value_of-with_choice : (m : TxMap (Option Choice)) (e : TxId × Option Choice) (tx : TxId) → are_ascending m ≡ true
    → value_of (with_choice m e) tx ≡ combined (value_of m tx) (entry_value e tx)
value_of-with_choice [] e tx up = refl
value_of-with_choice (x ∷ xs) e tx up =
    elim (cases_Bool (tx_lt x.0 e.0)) [
      | inl less ↦ elim (cases_Bool (tx_eq x.0 tx)) [
        | inl here ↦
            let apart : tx_eq e.0 tx ≡ false = ap (tx_eq e.0) (sym (tx_eq-same x.0 tx here)) ∙ tx_lt-apart_back x.0 e.0 less in
            rw (less, here, apart) refl
        | inr away ↦ rw (less, away) (value_of-with_choice xs e tx (ascending-tail x xs up))
      ]
      | inr over ↦ elim (cases_Bool (tx_eq x.0 e.0)) [
        | inl same ↦
            let is : tx_eq x.0 tx ≡ tx_eq e.0 tx = ap (λ t. tx_eq t tx) (tx_eq-same x.0 e.0 same) in
            elim (cases_Bool (tx_eq e.0 tx)) [
              | inl here ↦ rw (over, same, is, here) refl
              | inr away ↦ rw (over, same, is, away) (sym (combined_none (value_of xs tx)))
            ]
        | inr other ↦
            let more : tx_lt e.0 x.0 ≡ true = tx_lt-other x.0 e.0 over other in
            elim (cases_Bool (tx_eq e.0 tx)) [
              | inl here ↦
                  let none : value_of (x ∷ xs) e.0 ≡ None = value_of-below e.0 (x ∷ xs) (more, IsBelow-trans e.0 x.0 xs more (ascending-below x xs up)) in
                  let at : value_of (x ∷ xs) tx ≡ None = ap (value_of (x ∷ xs)) (sym (tx_eq-same e.0 tx here)) ∙ none in
                  let right : combined (value_of (x ∷ xs) tx) (entry_value e tx) ≡ Some e.1 = ap (λ o. combined o (entry_value e tx)) at ∙ rw here refl in
                  let left : value_of (with_choice (x ∷ xs) e) tx ≡ Some e.1 = rw (over, other, here) refl in
                  left ∙ sym right
              | inr away ↦
                  let left : value_of (with_choice (x ∷ xs) e) tx ≡ value_of (x ∷ xs) tx = rw (over, other, away) refl in
                  let right : combined (value_of (x ∷ xs) tx) (entry_value e tx) ≡ value_of (x ∷ xs) tx = rw away (combined_none (value_of (x ∷ xs) tx)) in
                  left ∙ sym right
            ]
      ]
    ]

-- ---- claims whose choices are known

abbrev AreKnown : TxMap (Option Choice) → Type 0
AreKnown [] = Unit {0}
AreKnown (e ∷ es) = (is_some e.1 ≡ true) × AreKnown es

AreKnown-inserted : (m : TxMap (Option Choice)) (e : TxId × Option Choice) → AreKnown m → is_some e.1 ≡ true → AreKnown (inserted m e)
AreKnown-inserted [] e h k = (k, tt)
AreKnown-inserted (x ∷ xs) e h k = elim (cases_Bool (tx_lt x.0 e.0)) [
  | inl less ↦ rw less (h.0, AreKnown-inserted xs e h.1 k)
  | inr over ↦ rw over (k, h)
]

AreKnown-with_entry : (m : TxMap (Option Choice)) (e : TxId × Option Choice) → AreKnown m → is_some e.1 ≡ true → AreKnown (with_entry m e)
AreKnown-with_entry m e h k = elim (cases_Bool (is_some (value_of m e.0))) [
  | inl there ↦ rw there h
  | inr none ↦ rw none (AreKnown-inserted m e h k)
]

AreKnown-union : (a b : TxMap (Option Choice)) → AreKnown a → AreKnown b → AreKnown (union a b)
AreKnown-union a [] h k = h
AreKnown-union a (e ∷ es) h k = AreKnown-union (with_entry a e) es (AreKnown-with_entry a e h k.0) k.1

AreKnown-marks : (marks : Options) → AreKnown (claims_of marks)
AreKnown-marks [] = tt
AreKnown-marks ((tx, Mark.Accept choice) ∷ es) = (refl, AreKnown-marks es)
AreKnown-marks ((tx, Mark.Reject) ∷ es) = AreKnown-marks es

-- what is found in them has a choice
abbrev IsKnown : Option (Option Choice) → Type 0
IsKnown None = Unit {0}
IsKnown (Some o) = is_some o ≡ true

IsKnown-value : (m : TxMap (Option Choice)) (tx : TxId) → AreKnown m → IsKnown (value_of m tx)
IsKnown-value [] tx h = tt
IsKnown-value (e ∷ es) tx h = elim (cases_Bool (tx_eq e.0 tx)) [
  | inl same ↦ rw same h.0
  | inr other ↦ rw other (IsKnown-value es tx h.1)
]

combined_or : (o p q : Option (Option Choice)) → IsKnown p → combined o (option_or p q) ≡ combined (combined o p) q
combined_or o None q h = ap (λ r. combined r q) (sym (combined_none o))
combined_or o (Some None) q h = absurd (let bad : false ≡ true = h in cc)
combined_or o (Some (Some c)) q h = sym (combined_known o c q)

-- ---- many claims

ascending-claims : (m xs : TxMap (Option Choice)) → are_ascending m ≡ true → are_ascending (fold with_choice m xs) ≡ true
ascending-claims m [] up = up
ascending-claims m (x ∷ xs) up = ascending-claims (with_choice m x) xs (ascending-with_choice m x up)

combined_more : (o p : Option (Option Choice)) (x : TxId × Option Choice) (tx : TxId) → is_some x.1 ≡ true
    → combined (combined o (entry_value x tx)) p ≡ combined o (cond (tx_eq x.0 tx) (Some x.1) p)
combined_more o p (t, None) tx h = absurd (let bad : false ≡ true = h in cc)
combined_more o p (t, Some c) tx h = elim (cases_Bool (tx_eq t tx)) [
  | inl same ↦ rw same (combined_known o c p)
  | inr other ↦ rw other (ap (λ r. combined r p) (combined_none o))
]

value_of-claims : (m xs : TxMap (Option Choice)) (tx : TxId) → are_ascending m ≡ true → AreKnown xs
    → value_of (fold with_choice m xs) tx ≡ combined (value_of m tx) (value_of xs tx)
value_of-claims m [] tx up h = sym (combined_none (value_of m tx))
value_of-claims m (x ∷ xs) tx up h =
    value_of-claims (with_choice m x) xs tx (ascending-with_choice m x up) h.1
    ∙ ap (λ o. combined o (value_of xs tx)) (value_of-with_choice m x tx up)
    ∙ combined_more (value_of m tx) (value_of xs tx) x tx h.0

claims_joined : (m a b : TxMap (Option Choice)) → are_ascending m ≡ true → AreKnown a → AreKnown b
    → fold with_choice m (union a b) ≡ fold with_choice (fold with_choice m a) b
claims_joined m a b up h k =
    let up' = ascending-claims m a up in
    same_found (fold with_choice m (union a b)) (fold with_choice (fold with_choice m a) b) (ascending-claims m (union a b) up) (ascending-claims (fold with_choice m a) b up') (λ tx.
    value_of-claims m (union a b) tx up (AreKnown-union a b h k)
    ∙ ap (combined (value_of m tx)) (value_of-union a b tx)
    ∙ combined_or (value_of m tx) (value_of a tx) (value_of b tx) (IsKnown-value a tx h)
    ∙ ap (λ o. combined o (value_of b tx)) (sym (value_of-claims m a tx up h))
    ∙ sym (value_of-claims (fold with_choice m a) b tx up' k))

-- ---- reports

abbrev pub with_report : TxMap (Option Choice) → Report → TxMap (Option Choice)
with_report claims report = fold with_choice claims (claims_reported report)

reports_joined : (m a : TxMap (Option Choice)) (reports : List Report) → are_ascending m ≡ true → AreKnown a
    → fold with_choice m (fold (λ claims report. union claims (claims_reported report)) a reports) ≡ fold with_report (fold with_choice m a) reports
reports_joined m a [] up h = refl
reports_joined m a (report ∷ reports) up h =
    let more = claims_reported report in
    let known : AreKnown more = AreKnown-marks report.votes in
    reports_joined m (union a more) reports up (AreKnown-union a more h known)
    ∙ ap (λ c. fold with_report c reports) (claims_joined m a more up h known)

-- claims that ascend are added one behind the other
with_choice-behind : (m : TxMap (Option Choice)) (e : TxId × Option Choice) (rest : TxMap (Option Choice)) → are_ascending (m ++ e ∷ rest) ≡ true → with_choice m e ≡ m ++ e ∷ []
with_choice-behind [] e rest up = refl
with_choice-behind (x ∷ xs) e rest up =
    rw (below xs (ascending-below x (xs ++ e ∷ rest) up)) (ap (λ ys. x ∷ ys) (with_choice-behind xs e rest (ascending-tail x (xs ++ e ∷ rest) up)))
  where
    below : (xs : TxMap (Option Choice)) → IsBelow x.0 (xs ++ e ∷ rest) → tx_lt x.0 e.0 ≡ true
    below [] h = h.0
    below (y ∷ ys) h = below ys h.1

claims_behind : (m xs : TxMap (Option Choice)) → are_ascending (m ++ xs) ≡ true → fold with_choice m xs ≡ m ++ xs
claims_behind m [] up = sym (append-nil m)
claims_behind m (x ∷ xs) up =
    let same : (m ++ x ∷ []) ++ xs ≡ m ++ x ∷ xs = append_assoc m (x ∷ []) xs in
    ap (λ c. fold with_choice c xs) (with_choice-behind m x xs up) ∙ claims_behind (m ++ x ∷ []) xs (ap are_ascending same ∙ up) ∙ same

pub all_gathered : (pending : TxMap (Option Choice)) (reports : List Report) → are_ascending pending ≡ true
    → all_claims pending reports ≡ fold with_report pending reports
all_gathered pending reports up =
    ap (λ m. fold with_choice m (choices_reported reports)) (claims_behind [] pending up) ∙ reports_joined pending [] reports up tt
