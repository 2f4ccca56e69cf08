-- The choices that facts name were begun, and each mark that was voted is of a transaction with a choice in the instance.
use Rattle.std.proofs.Common.{◌≡◌, ℕ, ◌<◌, Bool, List, [], ◌∷◌, ◌==◌, ◌&&◌, Some, arith, cond, false, true, inl, inr, length, refl, sym, ap, ◌∙◌, subst}
use Rattle.std.proofs.lemmas.Bool.{and_parts, cases_Bool, eqb-true, or_cases}
use Rattle.std.specs.List.{list_any}
use Rattle.mdcc_base.specs.Ballot.{ballot_eq}
use Rattle.mdcc_base.specs.Key.{key_eq}
use Rattle.mdcc_base.specs.TxId.{tx_eq}
use Rattle.mdcc_base.specs.declared.identifiers.Ballot.{Ballot}
use Rattle.mdcc_base.specs.declared.identifiers.TxId.{TxId}
use Rattle.mdcc_base.specs.declared.key.Key.{Key}
use Rattle.mdcc_option.specs.Equality.{choice_eq}
use Rattle.mdcc_option.specs.declared.choices.Choice.{Choice}
use Rattle.mdcc_option.specs.declared.choices.Mark.{Mark}
use Rattle.mdcc_option.specs.declared.cluster.Cluster.{Cluster}
use Rattle.mdcc_struct.specs.Maps.{value_of}
use Rattle.mdcc_struct.specs.declared.options.Options.{Options}
use Rattle.mdcc_def_protocol.specs.Marks.{options_eq}
use Rattle.mdcc_def_messages.specs.declared.facts.Fact.{Fact}
use Rattle.mdcc_def_ledger.specs.AllowedLedgers.{IsAllowed, IsAllowedEntry, is_valued, is_valued_as}
use Rattle.mdcc_def_ledger.specs.AllowedStructures.{are_begun, is_begun, is_own_mark, is_placed}
use Rattle.mdcc_def_ledger.specs.Ledger.{Added, Begun, Entry, Valued, choices_begun, facts_of}
use Rattle.mdcc_theorem_agreement.proofs.BegunOnce.{WasBegun-more, begun_own}
use Rattle.mdcc_theorem_agreement.proofs.OutcomeToReduced.{begun_found}
use Rattle.mdcc_theorem_agreement.proofs.ReducedLedger.{Allowed, IsChoice, WasBegun}
use Rattle.mdcc_theorem_agreement.proofs.ReducedOptions.{In, Place, spot}
use Rattle.mdcc_theorem_agreement.proofs.Reduction.{reduced, reduced_entry, setup_of}
use Rattle.mdcc_theorem_agreement.proofs.TestsDecide.{Decides-choice, Decides-key, Decides-options, Decides-tx, same_place}
use Rattle.mdcc_audit.specs.Contradictions.{IsOneOf}

abbrev pub at : Key → ℕ → Place
at key version = record { key = key; version = version }

-- ---- choices that were begun

-- an accepted choice is the transaction's own in the instance; a rejected transaction has one there
abbrev pub IsOwn : List Entry → Place → TxId → Mark → Type 0
IsOwn es i t (Mark.Accept c) = IsChoice (reduced es) c × (c.tx ≡ t) × (spot c ≡ i)
IsOwn es i t Mark.Reject = (c : Choice) × IsChoice (reduced es) c × (c.tx ≡ t) × (spot c ≡ i)

pub choice-more : (e : Entry) (es : List Entry) (c : Choice) → IsChoice (reduced es) c → IsChoice (reduced (e ∷ es)) c
choice-more e es c h = (h.0, WasBegun-more (reduced_entry e) (reduced es) c.tx h.0 h.1, h.2)

pub own-more : (e : Entry) (es : List Entry) (i : Place) (t : TxId) (x : Mark) → IsOwn es i t x → IsOwn (e ∷ es) i t x
own-more e es i t (Mark.Accept c) h = (choice-more e es c h.0, h.1, h.2)
own-more e es i t Mark.Reject h = (h.0, choice-more e es h.0 h.1, h.2, h.3)

listed-some : {X : Type 0} (x : X) (xs : List X) → In x xs → 0 < length xs
listed-some x [] h = elim h [ ]
listed-some x (y ∷ ys) h = omega arith

any-listed : (c : Choice) (cs : List Choice) → list_any (choice_eq c) cs ≡ true → In c cs
any-listed c [] h = cc
any-listed c (d ∷ ds) h =
    elim (or_cases (choice_eq c d) (list_any (choice_eq c) ds) h) [
      | inl here ↦ inl (sym ((Decides-choice c d).0 here))
      | inr there ↦ inr (any-listed c ds there)
    ]

any-placed : (key : Key) (version : ℕ) (cs : List Choice) → list_any (λ choice. (choice.version == version) && key_eq choice.key key) cs ≡ true
    → (c : Choice) × In c cs × (spot c ≡ at key version)
any-placed key version [] h = cc
any-placed key version (d ∷ ds) h =
    elim (or_cases ((d.version == version) && key_eq d.key key) (list_any (λ choice. (choice.version == version) && key_eq choice.key key) ds) h) [
      | inl here ↦
          let parts : ((d.version == version) ≡ true) × (key_eq d.key key ≡ true) = and_parts (d.version == version) (key_eq d.key key) here in
          (d, inl refl, same_place (spot d) (at key version) ((Decides-key d.key key).0 parts.1, eqb-true d.version version parts.0))
      | inr there ↦ let k = any-placed key version ds there in (k.0, inr k.1, k.2)
    ]

pub begun-choice : (es : List Entry) (c : Choice) → is_begun es c ≡ true → IsChoice (reduced es) c
begun-choice es c h =
    let listed : In c (choices_begun es c.tx) = any-listed c (choices_begun es c.tx) h in
    (choices_begun es c.tx, begun_found es c.tx (listed-some c (choices_begun es c.tx) listed), listed)

module _ (cluster : Cluster) where
  abbrev pub Fine : List Entry → Type 0
  Fine es = Allowed (setup_of cluster) (reduced es)

  placed-choice : (es : List Entry) → Fine es → (key : Key) (version : ℕ) (t : TxId) → is_placed es key version t ≡ true
      → (c : Choice) × IsChoice (reduced es) c × (c.tx ≡ t) × (spot c ≡ at key version)
  placed-choice es fine key version t h =
      let one = any-placed key version (choices_begun es t) h in
      let begun : WasBegun (reduced es) t (choices_begun es t) = begun_found es t (listed-some one.0 (choices_begun es t) one.1) in
      let own : one.0.tx ≡ t = begun_own (setup_of cluster) (reduced es) t (choices_begun es t) fine begun one.0 one.1 in
      (one.0, (choices_begun es t, subst (λ (z : TxId). WasBegun (reduced es) z (choices_begun es t)) (sym own) begun, one.1), own, one.2)

  own-of : (es : List Entry) → Fine es → (key : Key) (version : ℕ) (t : TxId) (x : Mark) → is_own_mark es key version (t, x) ≡ true → IsOwn es (at key version) t x
  own-of es fine key version t Mark.Reject h = placed-choice es fine key version t h
  own-of es fine key version t (Mark.Accept c) h =
      let one : (((tx_eq c.tx t && (c.version == version)) && key_eq c.key key) ≡ true) × (is_begun es c ≡ true) =
      and_parts ((tx_eq c.tx t && (c.version == version)) && key_eq c.key key) (is_begun es c) h in
      let two : ((tx_eq c.tx t && (c.version == version)) ≡ true) × (key_eq c.key key ≡ true) = and_parts (tx_eq c.tx t && (c.version == version)) (key_eq c.key key) one.0 in
      let three : (tx_eq c.tx t ≡ true) × ((c.version == version) ≡ true) = and_parts (tx_eq c.tx t) (c.version == version) two.0 in (
        begun-choice es c one.1,
        (Decides-tx c.tx t).0 three.0,
        same_place (spot c) (at key version) ((Decides-key c.key key).0 two.1, eqb-true c.version version three.1),
      )

  pub all-own : (es : List Entry) → Fine es → (key : Key) (version : ℕ) (options : Options) → are_begun es key version options ≡ true → (t : TxId) (x : Mark) → In (t, x) options
      → IsOwn es (at key version) t x
  all-own es fine key version [] h t x there = elim there [ ]
  all-own es fine key version (e ∷ os) h t x there =
      let parts : (is_own_mark es key version e ≡ true) × (are_begun es key version os ≡ true) = and_parts (is_own_mark es key version e) (are_begun es key version os) h in
      elim there [
        | inl here ↦ own-of es fine key version t x (subst (λ (z : TxId × Mark). is_own_mark es key version z ≡ true) here parts.0)
        | inr more ↦ all-own es fine key version os parts.1 t x more
      ]

  -- ---- structures

  pub value-listed : (options : Options) (t : TxId) (x : Mark) → value_of options t ≡ Some x → In (t, x) options
  value-listed [] t x h = cc
  value-listed (e ∷ os) t x h =
      elim (cases_Bool (tx_eq e.0 t)) [
        | inl same ↦
            let found : Some e.1 ≡ Some x = rw same at h in
            let mark : e.1 ≡ x = cc in
            inl (pair e.0 t e.1 x ((Decides-tx e.0 t).0 same) mark)
        | inr other ↦ inr (value-listed os t x (rw other at h))
      ]
    where
      pair : (a b : TxId) (p q : Mark) → a ≡ b → p ≡ q → (let z : TxId × Mark = (a, p) in z) ≡ (let z : TxId × Mark = (b, q) in z)
      pair a b p q e f = ap (λ (s : TxId). let z : TxId × Mark = (s, p) in z) e ∙ ap (λ (m : Mark). let z : TxId × Mark = (b, m) in z) f

  pub valued-own : (es : List Entry) → IsAllowed cluster es → Fine es → (key : Key) (version : ℕ) (ballot : Ballot) (structure : Options)
      → is_valued es key version ballot structure ≡ true → (t : TxId) (x : Mark) → In (t, x) structure → IsOwn es (at key version) t x
  valued-own [] ok fine key version ballot structure h t x there = cc
  valued-own (Added a fact ∷ es) ok fine key version ballot structure h t x there =
      own-more (Added a fact) es (at key version) t x (valued-own es ok.0 fine.0 key version ballot structure h t x there)
  valued-own (Begun a u cs ∷ es) ok fine key version ballot structure h t x there =
      own-more (Begun a u cs) es (at key version) t x (valued-own es ok.0 fine.0 key version ballot structure h t x there)
  valued-own (Valued a k v b os ∷ es) ok fine key version ballot structure h t x there =
      own-more (Valued a k v b os) es (at key version) t x
      (elim (or_cases (is_valued_as key version ballot structure (Valued a k v b os)) (is_valued es key version ballot structure) h) [
        | inr before ↦ valued-own es ok.0 fine.0 key version ballot structure before t x there
        | inl here ↦
            let one : ((((v == version) && ballot_eq b ballot) && key_eq k key) ≡ true) × (options_eq os structure ≡ true) =
            and_parts (((v == version) && ballot_eq b ballot) && key_eq k key) (options_eq os structure) here in
            let two : (((v == version) && ballot_eq b ballot) ≡ true) × (key_eq k key ≡ true) = and_parts ((v == version) && ballot_eq b ballot) (key_eq k key) one.0 in
            let three : ((v == version) ≡ true) × (ballot_eq b ballot ≡ true) = and_parts (v == version) (ballot_eq b ballot) two.0 in
            let place : at k v ≡ at key version = same_place (at k v) (at key version) ((Decides-key k key).0 two.1, eqb-true v version three.0) in
            subst (λ (i : Place). IsOwn es i t x) place
            (all-own es fine.0 k v os ok.1.1.begun t x (subst (λ (z : Options). In (t, x) z) (sym ((Decides-options os structure).0 one.1)) there))
      ])

  -- ---- votes

  -- what one fact has is known where it was added
  module _ (fact : Fact) (Known : List Entry → Type 0) (more : (e : Entry) (es : List Entry) → Known es → Known (e ∷ es))
      (added : (a : ℕ) (es : List Entry) → IsAllowed cluster es → Fine es → IsAllowedEntry cluster es (Added a fact) → Known es) where
    pub at-its-entry : (a : ℕ) (es : List Entry) → IsAllowed cluster es → Fine es → IsOneOf fact (facts_of es a) → Known es
    at-its-entry a [] ok fine is = elim is [ ]
    at-its-entry a (Begun c u cs ∷ es) ok fine is = more (Begun c u cs) es (at-its-entry a es ok.0 fine.0 is)
    at-its-entry a (Valued c k v b os ∷ es) ok fine is = more (Valued c k v b os) es (at-its-entry a es ok.0 fine.0 is)
    at-its-entry a (Added c f ∷ es) ok fine is = more (Added c f) es (by_centre (λ before. at-its-entry a es ok.0 fine.0 before) (c == a) refl)
      where
        by_fact : (IsOneOf fact (facts_of es a) → Known es) → IsOneOf fact (f ∷ facts_of es a) → Known es
        by_fact next (inl same) = added c es ok.0 fine.0 (subst (λ g. IsAllowedEntry cluster es (Added c g)) (sym same) ok.1)
        by_fact next (inr before) = next before

        by_centre : (IsOneOf fact (facts_of es a) → Known es) → (here : Bool) → (c == a) ≡ here → Known es
        by_centre next true here = by_fact next (subst (λ b. IsOneOf fact (cond b (f ∷ facts_of es a) (facts_of es a))) here is)
        by_centre next false here = next (subst (λ b. IsOneOf fact (cond b (f ∷ facts_of es a) (facts_of es a))) here is)
