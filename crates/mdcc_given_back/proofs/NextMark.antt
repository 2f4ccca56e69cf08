-- The next mark that is not forgotten is the next of those that are left, or the one after it.
use Rattle.std.proofs.Common.{◌≡◌, ℕ, Bool, true, false, List, [], ◌∷◌, Option, Some, None, refl, sym, ap, ◌∙◌, inl, inr}
use Rattle.std.specs.Option.{option_map}
use Rattle.std.specs.Prelude.{filter, find, if◌then◌else◌, not}
use Rattle.std.proofs.lemmas.Bool.{cases_Bool}
use Rattle.mdcc_base.specs.Ballot.{is_fast}
use Rattle.mdcc_base.specs.TxId.{tx_lt}
use Rattle.mdcc_base.specs.declared.identifiers.Ballot.{Ballot}
use Rattle.mdcc_base.specs.declared.identifiers.TxId.{TxId}
use Rattle.mdcc_base.specs.declared.key.Key.{Key}
use Rattle.mdcc_def_messages.specs.declared.facts.Fact.{Fact}
use Rattle.mdcc_option.specs.declared.choices.Mark.{Mark}
use Rattle.mdcc_struct.specs.Maps.{TxMap, are_ascending}
use Rattle.mdcc_struct.specs.declared.options.Options.{Options}
use Rattle.mdcc_struct.specs.declared.report.Report.{Report}
use Rattle.mdcc_struct.proofs.Order.{tx_lt-not_back, tx_lt-trans}
use Rattle.mdcc_struct.proofs.Ordered.{IsBelow, ascending-below, ascending-tail}
use Rattle.mdcc_def_protocol.specs.Facts.{is_forgotten, last_ballot, marks_voted, votes_of}
use Rattle.mdcc_def_protocol.specs.Plain.{plain_mark_after}
use Rattle.mdcc_def_protocol.specs.Stores.{is_above, mark_after}
use Rattle.mdcc_theorem_fact_folds.proofs.Joined.{joined-ascends, votes-joined}
use Rattle.mdcc_given_back.specs.Rest.{IsRest}
use Rattle.mdcc_given_back.specs.Marks.{NextMarkByRest, unless_forgotten}
use Rattle.mdcc_given_back.proofs.MarksLeft.{report-by-rest}

-- ---- in an ascending map

abbrev next : {X : Type 0} → Option TxId → TxMap X → Option (TxId × X)
next last m = find (λ e. is_above last e.0) m

abbrev only : {X : Type 0} → (TxId → Bool) → TxMap X → TxMap X
only keep m = filter (λ e. keep e.0) m

further : (last : Option TxId) (t s : TxId) → is_above last t ≡ true → tx_lt t s ≡ true → is_above last s ≡ true
further None t s h k = refl
further (Some l) t s h k = tx_lt-trans l t s h k

module _ {X : Type 0} (keep : TxId → Bool) where
  below-only : (t : TxId) (m : TxMap X) → IsBelow t m → IsBelow t (only keep m)
  below-only t [] h = tt
  below-only t (e ∷ es) h = elim (cases_Bool (keep e.0)) [
    | inl keeps ↦ rw keeps (h.0, below-only t es h.1)
    | inr leaves ↦ rw leaves (below-only t es h.1)
  ]

  first-next : (t : TxId) (last : Option TxId) (m : TxMap X) → IsBelow t m → is_above last t ≡ true → next last m ≡ next (Some t) m
  first-next t last [] h above = refl
  first-next t last (e ∷ es) h above = rw (further last t e.0 above h.0, h.0) refl

  found-above : (t : TxId) (last : Option TxId) (m : TxMap X) (e : TxId × X) → IsBelow t m → next last m ≡ Some e → tx_lt t e.0 ≡ true
  found-above t last [] e h found = absurd (cc)
  found-above t last (x ∷ xs) e h found = elim (cases_Bool (is_above last x.0)) [
    | inl above ↦
        let same : Some x ≡ Some e = rw above at found in
        let is : x ≡ e = cc in
        ap (λ (e : TxId × X). tx_lt t e.0) (sym is) ∙ h.0
    | inr below ↦ let rest : next last xs ≡ Some e = rw below at found in found-above t last xs e h.1 rest
  ]

  pub next-none : (last : Option TxId) (m : TxMap X) → next last m ≡ None → next last (only keep m) ≡ None
  next-none last [] found = refl
  next-none last (x ∷ xs) found = elim (cases_Bool (is_above last x.0)) [
    | inl above ↦ absurd (let bad : Some x ≡ None = rw above at found in cc)
    | inr below ↦
        let rest : next last xs ≡ None = rw below at found in
        elim (cases_Bool (keep x.0)) [
          | inl keeps ↦ rw (keeps, below) (next-none last xs rest)
          | inr leaves ↦ rw leaves (next-none last xs rest)
        ]
  ]

  pub next-kept : (last : Option TxId) (m : TxMap X) (e : TxId × X) → next last m ≡ Some e → keep e.0 ≡ true → next last (only keep m) ≡ Some e
  next-kept last [] e found kept = absurd (cc)
  next-kept last (x ∷ xs) e found kept = elim (cases_Bool (is_above last x.0)) [
    | inl above ↦
        let same : Some x ≡ Some e = rw above at found in
        let is : x ≡ e = cc in
        let keeps : keep x.0 ≡ true = ap (λ (e : TxId × X). keep e.0) is ∙ kept in
        rw (keeps, above) same
    | inr below ↦
        let rest : next last xs ≡ Some e = rw below at found in
        elim (cases_Bool (keep x.0)) [
          | inl keeps ↦ rw (keeps, below) (next-kept last xs e rest kept)
          | inr leaves ↦ rw leaves (next-kept last xs e rest kept)
        ]
  ]

  pub next-left : (last : Option TxId) (m : TxMap X) (e : TxId × X) → are_ascending m ≡ true → next last m ≡ Some e → keep e.0 ≡ false
      → next last (only keep m) ≡ next (Some e.0) (only keep m)
  next-left last [] e up found gone = absurd (cc)
  next-left last (x ∷ xs) e up found gone = elim (cases_Bool (is_above last x.0)) [
    | inl above ↦
        let same : Some x ≡ Some e = rw above at found in
        let is : x ≡ e = cc in
        let leaves : keep x.0 ≡ false = ap (λ (e : TxId × X). keep e.0) is ∙ gone in
        rw leaves
        (first-next x.0 last (only keep xs) (below-only x.0 xs (ascending-below x xs up)) above
        ∙ ap (λ (e : TxId × X). next (Some e.0) (only keep xs)) is)
    | inr below ↦
        let rest : next last xs ≡ Some e = rw below at found in
        let ih = next-left last xs e (ascending-tail x xs up) rest gone in
        let before : tx_lt e.0 x.0 ≡ false = tx_lt-not_back x.0 e.0 (found-above x.0 last xs e (ascending-below x xs up) rest) in
        elim (cases_Bool (keep x.0)) [
          | inl keeps ↦ rw (keeps, below, before) ih
          | inr leaves ↦ rw leaves ih
        ]
  ]

-- ---- of the marks that are left

module _ (rest facts : List Fact) (key : Key) (version : ℕ) (below : Ballot) (is : IsRest rest facts) where
  abbrev ballot : Ballot
  ballot = last_ballot rest key version below

  abbrev keep : TxId → Bool
  keep tx = not (is_forgotten facts key version tx)

  abbrev votes : Options
  votes = if is_fast below then [] else votes_of rest key version ballot

  abbrev told : TxId × Mark → Ballot × TxId × Mark
  told e = (ballot, e.0, e.1)

  within : (test : Bool) (m : Options) → (if test then [] else only keep m) ≡ only keep (if test then [] else m)
  within true m = refl
  within false m = refl

  up-if : (test : Bool) (m : Options) → are_ascending m ≡ true → are_ascending {X = Mark} (if test then [] else m) ≡ true
  up-if true m up = refl
  up-if false m up = up

  votes-up : are_ascending votes ≡ true
  votes-up =
      up-if (is_fast below) (votes_of rest key version ballot)
      (ap are_ascending (votes-joined key version ballot rest) ∙ joined-ascends (marks_voted key version ballot) rest)

  after-shown : (last : Option TxId) → mark_after facts key version below last ≡ option_map told (next last (only keep votes))
  after-shown last =
      ap (λ (r : Report). option_map (λ e. (r.ballot, e.0, e.1)) (find (λ e. is_above last e.0) r.votes)) (report-by-rest rest facts 0 key version below is)
      ∙ ap (λ (m : Options). option_map told (next last m)) (within (is_fast below) (votes_of rest key version ballot))

  by-next : (last : Option TxId) (o : Option (TxId × Mark)) → next last votes ≡ o
      → mark_after facts key version below last ≡ unless_forgotten facts key version below (option_map told o)
  by-next last None found = after-shown last ∙ ap (option_map told) (next-none keep last votes found)
  by-next last (Some e) found = elim (cases_Bool (is_forgotten facts key version e.0)) [
    | inl gone ↦
        rw gone (after-shown last ∙ ap (option_map told) (next-left keep last votes e votes-up found (ap not gone)) ∙ sym (after-shown (Some e.0)))
    | inr shown ↦ rw shown (after-shown last ∙ ap (option_map told) (next-kept keep last votes e found (ap not shown)))
  ]

  pub next-mark : (last : Option TxId) → mark_after facts key version below last ≡ unless_forgotten facts key version below (plain_mark_after rest key version below last)
  next-mark last = by-next last (next last votes) refl

pub next_mark-by-rest : NextMarkByRest
next_mark-by-rest rest facts key version below last is = next-mark rest facts key version below is last
