-- Where a floor is set, and what it says.
use Rattle.std.proofs.Common.{◌≡◌, ◌<◌, ◌≤◌, ◌+◌, ◌∷◌, ◌∙◌, ℕ, zero, suc, Bool, true, false, List, [], Option, Some, None, is_some, max, refl, sym, ap, zero-add, arith, inl, inr, ◌⊎◌}
use Rattle.std.specs.Option.{option_or}
use Rattle.std.specs.Prelude.{if◌then◌else◌, nat_le, nat_lt, ◌==◌, ◌&&◌, ◌||◌}
use Rattle.std.proofs.lemmas.Bool.{and_parts, cases_Bool}
use Rattle.std.proofs.lemmas.Bool.Decides.{nat_tests}
use Rattle.mdcc_base.specs.declared.identifiers.TxId.{TxId}
use Rattle.mdcc_option.specs.declared.choices.Outcome.{Outcome}
use Rattle.mdcc_def_messages.specs.declared.facts.Fact.{Fact}
use Rattle.mdcc_def_protocol.specs.Facts.{are_heard, floor_of, floor_set, has_floor, heard_of, is_finished, is_floor, is_heard, outcome_in}
use Rattle.mdcc_given_back.specs.Counted.{are_risen, is_risen, sets_first, top_floors}
use Rattle.mdcc_given_back.proofs.Tops.{top_floors_rise}
use Rattle.mdcc_facts_kept.specs.Adding.{is_floor_heard}

-- ---- a floor is set where one counts

floor-unset : (facts : List Fact) (centre epoch : ℕ) → has_floor facts ≡ false → floor_of facts centre epoch ≡ 0
floor-unset [] centre epoch none = refl
floor-unset (Fact.Floor c e n ∷ facts) centre epoch none = absurd (cc)
floor-unset (Fact.Booted n ∷ facts) centre epoch none = rw (floor-unset facts centre epoch none) refl
floor-unset (Fact.Promised k l g b ∷ facts) centre epoch none = rw (floor-unset facts centre epoch none) refl
floor-unset (Fact.Voted k v b os off ∷ facts) centre epoch none = rw (floor-unset facts centre epoch none) refl
floor-unset (Fact.Heard tx outcome ∷ facts) centre epoch none = rw (floor-unset facts centre epoch none) refl
floor-unset (Fact.Adopted k v item adds ∷ facts) centre epoch none = rw (floor-unset facts centre epoch none) refl

counts : (n : ℕ) → nat_lt 0 (1 + n) ≡ true
counts n = grind (arith, nat_tests)

none-added : (n : ℕ) → nat_lt 0 n ≡ nat_lt 0 (0 + n)
none-added n = ap (nat_lt 0) (sym (zero-add n))

set-with : (fact : Fact) (facts : List Fact) (first has : Bool) (n : ℕ) → (first ≡ false → is_floor fact ≡ true → has ≡ true) → (first ≡ true → is_floor fact ≡ true)
    → has ≡ nat_lt 0 n → (is_floor fact || has) ≡ nat_lt 0 ((if first then 1 else 0) + n)
set-with fact facts true has n old new is = ap (λ b. b || has) (new refl) ∙ sym (counts n)
set-with fact facts false has n old new is = elim (cases_Bool (is_floor fact)) [
  | inl floor ↦ rw floor (sym (old refl floor) ∙ is ∙ none-added n)
  | inr other ↦ rw other (is ∙ none-added n)
]

first-is : (facts : List Fact) (fact : Fact) → sets_first facts fact ≡ true → is_floor fact ≡ true
first-is facts (Fact.Floor centre epoch seq) h = refl
first-is facts (Fact.Booted n) h = absurd (cc)
first-is facts (Fact.Promised k l g b) h = absurd (cc)
first-is facts (Fact.Voted k v b os off) h = absurd (cc)
first-is facts (Fact.Heard tx outcome) h = absurd (cc)
first-is facts (Fact.Adopted k v item adds) h = absurd (cc)

later-has : (facts : List Fact) (fact : Fact) → sets_first facts fact ≡ false → is_floor fact ≡ true → has_floor facts ≡ true
later-has facts (Fact.Floor centre epoch seq) h floor = elim (cases_Bool (has_floor facts)) [
  | inl has ↦ has
  | inr none ↦
      let zero : floor_of facts centre epoch ≡ 0 = floor-unset facts centre epoch none in
      let bad : (0 == 0) ≡ false = rw zero at h in
      absurd (cc)
]
later-has facts (Fact.Booted n) h floor = absurd (cc)
later-has facts (Fact.Promised k l g b) h floor = absurd (cc)
later-has facts (Fact.Voted k v b os off) h floor = absurd (cc)
later-has facts (Fact.Heard tx outcome) h floor = absurd (cc)
later-has facts (Fact.Adopted k v item adds) h floor = absurd (cc)

pub has-set : (facts : List Fact) → are_risen facts ≡ true → has_floor facts ≡ nat_lt 0 (top_floors facts)
has-set [] risen = refl
has-set (fact ∷ facts) risen =
    let parts = and_parts (is_risen facts fact) (are_risen facts) risen in
    set-with fact facts (sets_first facts fact) (has_floor facts) (top_floors facts) (later-has facts fact) (first-is facts fact) (has-set facts parts.1)
    ∙ ap (nat_lt 0) (sym (top_floors_rise fact facts parts.0 parts.1))

pub other-first : (facts : List Fact) (fact : Fact) → is_floor fact ≡ false → sets_first facts fact ≡ false
other-first facts (Fact.Floor centre epoch seq) other = absurd (cc)
other-first facts (Fact.Booted n) other = refl
other-first facts (Fact.Promised k l g b) other = refl
other-first facts (Fact.Voted k v b os off) other = refl
other-first facts (Fact.Heard tx outcome) other = refl
other-first facts (Fact.Adopted k v item adds) other = refl

-- ---- each finished transaction was heard

-- each of those through a number
pub each-heard : (facts : List Fact) (centre epoch through seq : ℕ) → are_heard facts centre epoch through ≡ true → 0 < seq → seq ≤ through
    → is_heard facts (record { centre = centre; epoch = epoch; seq = seq }) ≡ true
each-heard facts centre epoch zero seq all some within = absurd (omega (arith, some, within))
each-heard facts centre epoch (suc n) seq all some within =
    let parts = and_parts (is_heard facts (record { centre = centre; epoch = epoch; seq = suc n })) (are_heard facts centre epoch n) all in
    by parts (λ less. each-heard facts centre epoch n seq parts.1 some less) (at-last seq n within)
  where
    at-last : (seq n : ℕ) → seq ≤ suc n → (seq ≡ suc n) ⊎ (seq ≤ n)
    at-last seq n within = elim (cases_Bool (nat_le seq n)) [
      | inl less ↦ inr (grind (arith, nat_tests))
      | inr last ↦ inl (grind (arith, nat_tests))
    ]

    by : (is_heard facts (record { centre = centre; epoch = epoch; seq = suc n }) ≡ true) × (are_heard facts centre epoch n ≡ true) → (seq ≤ n → is_heard facts (record { centre = centre; epoch = epoch; seq = seq }) ≡ true) → (seq ≡ suc n) ⊎ (seq ≤ n)
        → is_heard facts (record { centre = centre; epoch = epoch; seq = seq }) ≡ true
    by parts ih (inl last) = ap (λ (s : ℕ). is_heard facts (record { centre = centre; epoch = epoch; seq = s })) last ∙ parts.0
    by parts ih (inr less) = ih less

pub older-heard : (fact : Fact) (facts : List Fact) (tx : TxId) → is_heard facts tx ≡ true → is_heard (fact ∷ facts) tx ≡ true
older-heard fact facts tx heard = by (heard_of facts tx) refl
  where
    by : (o : Option Outcome) → heard_of facts tx ≡ o → is_heard (fact ∷ facts) tx ≡ true
    by None none = absurd (let bad : false ≡ true = sym (ap (λ (o : Option Outcome). is_some o) none) ∙ heard in cc)
    by (Some outcome) some = ap (λ (o : Option Outcome). is_some (option_or o (outcome_in tx fact))) some

same-floor : (facts : List Fact) (tx : TxId) (set : ℕ) → set ≡ 0 → (nat_lt 0 tx.seq && nat_le tx.seq (max (floor_of facts tx.centre tx.epoch) set)) ≡ true → is_finished facts tx ≡ true
same-floor facts tx set none finished =
    ap (λ n. nat_lt 0 tx.seq && nat_le tx.seq n) (let up : floor_of facts tx.centre tx.epoch ≡ max (floor_of facts tx.centre tx.epoch) set = omega (arith, none) in up) ∙ finished

finished-above : (seq floor set : ℕ) → (nat_lt 0 seq && nat_le seq (max floor set)) ≡ true → (nat_lt 0 seq && nat_le seq floor) ≡ false → (0 < seq) × (seq ≤ set)
finished-above seq floor set finished before = (grind (arith, nat_tests), grind (arith, nat_tests))

module _ (facts : List Fact) (told : (tx : TxId) → is_finished facts tx ≡ true → is_heard facts tx ≡ true) where
  pub told-more : (fact : Fact) → is_floor_heard facts fact ≡ true → (tx : TxId) → is_finished (fact ∷ facts) tx ≡ true → is_heard (fact ∷ facts) tx ≡ true
  told-more (Fact.Floor centre epoch seq) heard tx finished = older-heard (Fact.Floor centre epoch seq) facts tx (elim (cases_Bool (centre == tx.centre && epoch == tx.epoch)) [
    | inr other ↦ told tx (same-floor facts tx (floor_set tx.centre tx.epoch (Fact.Floor centre epoch seq)) (rw other refl) finished)
    | inl same ↦ elim (cases_Bool (is_finished facts tx)) [
      | inl before ↦ told tx before
      | inr above ↦
          let parts = and_parts (centre == tx.centre) (epoch == tx.epoch) same in
          let centre-is : centre ≡ tx.centre = grind (arith, nat_tests) in
          let epoch-is : epoch ≡ tx.epoch = grind (arith, nat_tests) in
          let at : floor_set tx.centre tx.epoch (Fact.Floor centre epoch seq) ≡ seq = rw same refl in
          let now : (nat_lt 0 tx.seq && nat_le tx.seq (max (floor_of facts tx.centre tx.epoch) seq)) ≡ true = rw same at finished in
          let within = finished-above tx.seq (floor_of facts tx.centre tx.epoch) seq now above in
          ap (λ (c : ℕ). is_heard facts (record { centre = c; epoch = tx.epoch; seq = tx.seq })) (sym centre-is)
          ∙ ap (λ (e : ℕ). is_heard facts (record { centre = centre; epoch = e; seq = tx.seq })) (sym epoch-is)
          ∙ each-heard facts centre epoch seq tx.seq heard within.0 within.1
    ]
  ])
  told-more (Fact.Booted n) heard tx finished = older-heard (Fact.Booted n) facts tx (told tx (same-floor facts tx 0 refl finished))
  told-more (Fact.Promised k l g b) heard tx finished = older-heard (Fact.Promised k l g b) facts tx (told tx (same-floor facts tx 0 refl finished))
  told-more (Fact.Voted k v b os off) heard tx finished = older-heard (Fact.Voted k v b os off) facts tx (told tx (same-floor facts tx 0 refl finished))
  told-more (Fact.Heard t outcome) heard tx finished = older-heard (Fact.Heard t outcome) facts tx (told tx (same-floor facts tx 0 refl finished))
  told-more (Fact.Adopted k v item adds) heard tx finished = older-heard (Fact.Adopted k v item adds) facts tx (told tx (same-floor facts tx 0 refl finished))
