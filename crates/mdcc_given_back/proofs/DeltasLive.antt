-- No delta of the version held, or of a later one, is of an idle transaction, where no adopted one is.
use Rattle.std.proofs.Common.{◌≡◌, ◌==◌, ◌&&◌, ◌||◌, ◌≤◌, ℕ, Bool, true, false, List, [], ◌∷◌, Option, Some, None, is_some, refl, sym, ap, ◌∙◌, inl, inr, arith, filter_map, map}
use Rattle.std.specs.List.{AllByRecursion, cons_option, list_all, list_any}
use Rattle.std.specs.Option.{option_map}
use Rattle.std.specs.Prelude.{if◌then◌else◌, nat_lt, not}
use Rattle.std.proofs.lemmas.Bool.{and_from, and_parts, cases_Bool, eqb-true}
use Rattle.std.proofs.lemmas.Bool.Decides.{nat_tests}
use Rattle.mdcc_base.specs.Key.{key_eq}
use Rattle.mdcc_base.specs.TxId.{tx_eq, tx_lt}
use Rattle.mdcc_base.specs.declared.identifiers.TxId.{TxId}
use Rattle.mdcc_base.specs.declared.key.Key.{Key}
use Rattle.mdcc_option.proofs.Equal.{Decides-key}
use Rattle.mdcc_option.specs.declared.choices.Choice.{Choice}
use Rattle.mdcc_option.specs.declared.choices.Outcome.{Outcome}
use Rattle.mdcc_option.specs.declared.items.Delta.{Delta}
use Rattle.mdcc_struct.specs.Maps.{TxMap, inserted, union, value_of, with_entry}
use Rattle.mdcc_struct.proofs.Order.{tx_eq-refl, tx_eq-same}
use Rattle.mdcc_def_messages.specs.WellFormedParts.{IsWellFormedOf}
use Rattle.mdcc_def_messages.specs.declared.facts.Fact.{Fact}
use Rattle.mdcc_def_protocol.specs.Facts.{amounts_added, current_of, delta_given, deltas_at, deltas_from, is_idle, is_needed}
use Rattle.mdcc_def_protocol.specs.Marks.{Amounts}
use Rattle.mdcc_given_back.specs.Loads.{DeltasAreLive, WellFormedAreOwn, are_choices_own, is_adoption_live}
use Rattle.mdcc_given_back.proofs.FirstHeard.{IsFirst, first-heard, unneeded-choices}
use Rattle.mdcc_given_back.proofs.VersionsLeft.{no-delta}

-- ---- entries of a union are entries of one

abbrev AreBusy : {X : Type 0} → (TxId → Bool) → TxMap X → Bool
AreBusy idle m = list_all (λ e. not (idle e.0)) m

module _ {X : Type 0} (idle : TxId → Bool) where
  busy-inserted : (m : TxMap X) (e : TxId × X) → AreBusy idle m ≡ true → not (idle e.0) ≡ true → AreBusy idle (inserted m e) ≡ true
  busy-inserted [] e h k = and_from (not (idle e.0)) true k refl
  busy-inserted (x ∷ xs) e h k =
      let parts = and_parts (not (idle x.0)) (AreBusy idle xs) h in
      let rest : AreBusy idle (inserted xs e) ≡ true = busy-inserted xs e parts.1 k in
      elim (cases_Bool (tx_lt x.0 e.0)) [
        | inl less ↦ rw less (and_from (not (idle x.0)) (AreBusy idle (inserted xs e)) parts.0 rest)
        | inr over ↦ rw over (and_from (not (idle e.0)) (AreBusy idle (x ∷ xs)) k h)
      ]

  busy-entry : (m : TxMap X) (e : TxId × X) → AreBusy idle m ≡ true → not (idle e.0) ≡ true → AreBusy idle (with_entry m e) ≡ true
  busy-entry m e h k = elim (cases_Bool (is_some (value_of m e.0))) [
    | inl there ↦ rw there h
    | inr none ↦ rw none (busy-inserted m e h k)
  ]

  busy-union : (m es : TxMap X) → AreBusy idle m ≡ true → AreBusy idle es ≡ true → AreBusy idle (union m es) ≡ true
  busy-union m [] h k = h
  busy-union m (e ∷ es) h k =
      let parts = and_parts (not (idle e.0)) (AreBusy idle es) k in
      busy-union (with_entry m e) es (busy-entry m e h parts.0) parts.1

-- ---- what one fact brings

module _ (all : List Fact) (key : Key) (version : ℕ) (up : current_of all key ≤ version) where
  abbrev idle : TxId → Bool
  idle tx = is_idle all tx

  busy-step : (test : Bool) (t : TxId) (o : Option Amounts) (m : TxMap Amounts) → not (idle t) ≡ true → AreBusy idle m ≡ true
      → AreBusy idle (cons_option (if test then option_map (λ amounts. (t, amounts)) o else None) m) ≡ true
  busy-step false t o m h k = k
  busy-step true t None m h k = k
  busy-step true t (Some amounts) m h k = and_from (not (idle t)) (AreBusy idle m) h k

  -- a delta is of a choice that is needed
  busy-choices : (tx : TxId) (choices : List Choice) → list_all (λ c. tx_eq c.tx tx) choices ≡ true → (list_any (is_needed all) choices ≡ true → idle tx ≡ false)
      → AreBusy idle (filter_map (delta_given key version) choices) ≡ true
  busy-choices tx [] own needs = refl
  busy-choices tx (c ∷ cs) own needs =
      let parts = and_parts (tx_eq c.tx tx) (list_all (λ c. tx_eq c.tx tx) cs) own in
      let others : AreBusy idle (filter_map (delta_given key version) cs) ≡ true =
      busy-choices tx cs parts.1 (λ h. needs (or-later (is_needed all c) (list_any (is_needed all) cs) h)) in
      elim (cases_Bool (is_needed all c)) [
        | inr not_needed ↦ rw (no-delta all key version c up not_needed) others
        | inl needed ↦
            let not_idle : idle tx ≡ false = needs (rw needed refl) in
            busy-step (c.version == version && key_eq c.key key) c.tx (amounts_added c.update) (filter_map (delta_given key version) cs)
            (ap (λ t. not (idle t)) (tx_eq-same c.tx tx parts.0) ∙ ap not not_idle) others
      ]
    where
      or-later : (a b : Bool) → b ≡ true → (a || b) ≡ true
      or-later true b h = refl
      or-later false b h = h

  busy-adopted : (deltas : List Delta) → list_all (λ delta. not (idle delta.tx)) deltas ≡ true → AreBusy idle (map (λ delta. (delta.tx, delta.amounts)) deltas) ≡ true
  busy-adopted [] h = refl
  busy-adopted (delta ∷ deltas) h =
      let parts = and_parts (not (idle delta.tx)) (list_all (λ delta. not (idle delta.tx)) deltas) h in
      and_from (not (idle delta.tx)) (AreBusy idle (map (λ delta. (delta.tx, delta.amounts)) deltas)) parts.0 (busy-adopted deltas parts.1)

  not-low : (v current : ℕ) → current ≤ v → nat_lt v current ≡ false
  not-low v current h = grind (arith, nat_tests, h)

  or-second : (a b : Bool) → a ≡ false → (a || b) ≡ true → b ≡ true
  or-second true b none h = absurd (cc)
  or-second false b none h = h

  busy-from : (fact : Fact) → IsFirst all fact → are_choices_own fact ≡ true → is_adoption_live all fact ≡ true → AreBusy idle (deltas_from key version fact) ≡ true
  busy-from (Fact.Booted k) p own live = refl
  busy-from (Fact.Promised k low high b) p own live = refl
  busy-from (Fact.Voted k v b options offered) p own live = refl
  busy-from (Fact.Floor c e n) p own live = refl
  busy-from (Fact.Heard tx Outcome.Abort) p own live = refl
  busy-from (Fact.Heard tx (Outcome.Commit choices)) p own live = busy-choices tx choices own (λ needed. elim (cases_Bool (idle tx)) [
    | inl is ↦ absurd (let bad : true ≡ false = sym needed ∙ unneeded-choices all tx choices is p in cc)
    | inr not_so ↦ not_so
  ])
  busy-from (Fact.Adopted k v item deltas) p own live = elim (cases_Bool (v == version && key_eq k key)) [
    | inr other ↦ rw other refl
    | inl same ↦
        let parts = and_parts (v == version) (key_eq k key) same in
        let low : nat_lt v (current_of all k) ≡ false =
        ap (λ z. nat_lt v (current_of all z)) ((Decides-key k key).0 parts.1) ∙ (ap (λ z. nat_lt z (current_of all key)) (eqb-true v version parts.0)
        ∙ not-low version (current_of all key) up) in
        rw same (busy-adopted deltas (or-second (nat_lt v (current_of all k)) (list_all (λ delta. not (idle delta.tx)) deltas) low live))
  ]

  busy-facts : (facts : List Fact) → AllByRecursion (IsFirst all) facts → list_all are_choices_own facts ≡ true → list_all (is_adoption_live all) facts ≡ true
      → AreBusy idle (deltas_at facts key version) ≡ true
  busy-facts [] ps own live = refl
  busy-facts (fact ∷ facts) ps own live =
      let owns = and_parts (are_choices_own fact) (list_all are_choices_own facts) own in
      let lives = and_parts (is_adoption_live all fact) (list_all (is_adoption_live all) facts) live in
      busy-union idle (deltas_at facts key version) (deltas_from key version fact) (busy-facts facts ps.1 owns.1 lives.1) (busy-from fact ps.0 owns.0 lives.0)

pub deltas-live : DeltasAreLive
deltas-live facts key version once own live up = busy-facts facts key version up facts (first-heard facts once) own live

-- ---- well-formed facts

own-choices : (tx : TxId) (choices : List Choice) → AllByRecursion (IsWellFormedOf tx) choices → list_all (λ choice. tx_eq choice.tx tx) choices ≡ true
own-choices tx [] h = refl
own-choices tx (c ∷ cs) h =
    and_from (tx_eq c.tx tx) (list_all (λ choice. tx_eq choice.tx tx) cs) (ap (λ t. tx_eq t tx) h.0.same_tx ∙ tx_eq-refl tx) (own-choices tx cs h.1)

pub well_formed-own : WellFormedAreOwn
well_formed-own (Fact.Booted epoch) h = refl
well_formed-own (Fact.Floor centre epoch seq) h = refl
well_formed-own (Fact.Promised k low high b) h = refl
well_formed-own (Fact.Voted k v b options offered) h = refl
well_formed-own (Fact.Heard tx Outcome.Abort) h = refl
well_formed-own (Fact.Heard tx (Outcome.Commit choices)) h = own-choices tx choices h.outcome_itself.each
well_formed-own (Fact.Adopted k v item adds) h = refl
