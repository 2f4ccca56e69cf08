-- How far the transactions of an epoch are settled.
use Rattle.std.proofs.Common.{◌≡◌, ◌<◌, ◌≤◌, ◌+◌, ◌∷◌, ◌∙◌, ℕ, true, false, List, [], refl, sym, ap, arith, inl, inr, ◌⊎◌}
use Rattle.std.specs.Option.{option_or}
use Rattle.std.specs.Prelude.{is_some, nat_le, ◌||◌, ◌-◌, ◌^◌, Option, None}
use Rattle.std.proofs.lemmas.Bool.{cases_Bool}
use Rattle.std.proofs.lemmas.Bool.Decides.{nat_tests}
use Rattle.mdcc_base.specs.TxId.{tx_eq}
use Rattle.mdcc_base.specs.declared.identifiers.TxId.{TxId}
use Rattle.mdcc_option.specs.declared.choices.Outcome.{Outcome}
use Rattle.mdcc_struct.proofs.Order.{tx_eq-same}
use Rattle.mdcc_def_messages.specs.declared.facts.Fact.{Fact}
use Rattle.mdcc_def_messages.specs.WellFormed.{IsWellFormedFact}
use Rattle.mdcc_def_protocol.specs.Facts.{floor_of, heard_of, heard_through_of, is_finished, is_settled, outcome_in}
use Rattle.mdcc_cells_facts.specs.Holding.{AreWellFormed}
use Rattle.mdcc_given_back.specs.Counted.{without_floors}
use Rattle.mdcc_given_back.proofs.ThroughLeft.{through-ends}
use Rattle.mdcc_facts_kept.specs.Kept.{IsKept, KeptRest}
use Rattle.mdcc_facts_kept.proofs.Asked.{settled_asked}

abbrev numbered : ℕ → ℕ → ℕ → TxId
numbered centre epoch seq = record { centre = centre; epoch = epoch; seq = seq }

-- ---- no transaction has a number of 2^32

unheard-in : (fact : Fact) (tx : TxId) → IsWellFormedFact fact → 2 ^ 32 ≤ tx.seq → outcome_in tx fact ≡ None
unheard-in (Fact.Heard t outcome) tx well large = elim (cases_Bool (tx_eq t tx)) [
  | inl same ↦ absurd (let is : t.seq ≡ tx.seq = ap (λ (i : TxId). i.seq) (tx_eq-same t tx same) in let fits = well.tx_itself.seq in omega (arith, is, fits, large))
  | inr other ↦ rw other refl
]
unheard-in (Fact.Booted n) tx well large = refl
unheard-in (Fact.Promised k l g b) tx well large = refl
unheard-in (Fact.Voted k v b os off) tx well large = refl
unheard-in (Fact.Adopted k v item adds) tx well large = refl
unheard-in (Fact.Floor c e n) tx well large = refl

unheard : (facts : List Fact) (tx : TxId) → AreWellFormed facts → 2 ^ 32 ≤ tx.seq → heard_of facts tx ≡ None
unheard [] tx well large = refl
unheard (fact ∷ facts) tx well large =
    ap (λ (o : Option Outcome). option_or o (outcome_in tx fact)) (unheard facts tx well.1 large) ∙ unheard-in fact tx well.0 large

unfinished : (facts : List Fact) (tx : TxId) → floor_of facts tx.centre tx.epoch < tx.seq → is_finished facts tx ≡ false
unfinished facts tx above = grind (arith, nat_tests, above)

pub none-large : (store : KeptRest) (facts : List Fact) (kept : IsKept store facts) (centre epoch seq : ℕ) → floor_of facts centre epoch < seq → 2 ^ 32 ≤ seq
    → is_settled facts (numbered centre epoch seq) ≡ false
none-large store facts kept centre epoch seq above large =
    settled_asked store facts kept (numbered centre epoch seq)
    ∙ ap (λ (o : Option Outcome). is_some o || is_finished facts (numbered centre epoch seq)) (unheard (without_floors kept.rest) (numbered centre epoch seq) kept.inner.cells.well_formed large)
    ∙ unfinished facts (numbered centre epoch seq) above

-- ---- the first that is not settled

module _ (facts : List Fact) (centre epoch : ℕ) where
  -- each above the floor through this one is
  pub record AreSettled (seq : ℕ) : Type 0 where
    pub from : floor_of facts centre epoch ≤ seq
    pub each : (n : ℕ) → floor_of facts centre epoch < n → n ≤ seq → is_settled facts (numbered centre epoch n) ≡ true

  pub none-yet : AreSettled (floor_of facts centre epoch)
  none-yet = record {
    from = omega arith;
    each = λ n above within. absurd (omega (arith, above, within));
  }

  pub one-more : (seq : ℕ) → AreSettled seq → is_settled facts (numbered centre epoch (seq + 1)) ≡ true → AreSettled (seq + 1)
  one-more seq are settled = record {
    from = let before = are.from in omega (arith, before);
    each = λ n above within. by n above within (cases_Bool (nat_le n seq));
  }
    where
      by : (n : ℕ) → floor_of facts centre epoch < n → n ≤ seq + 1 → (nat_le n seq ≡ true) ⊎ (nat_le n seq ≡ false) → is_settled facts (numbered centre epoch n) ≡ true
      by n above within (inl before) = are.each n above (grind (arith, nat_tests))
      by n above within (inr last) =
          ap (λ (s : ℕ). is_settled facts (numbered centre epoch s)) (let is : n ≡ seq + 1 = grind (arith, nat_tests) in is) ∙ settled

  pub all-settled : (seq : ℕ) → AreSettled seq → is_settled facts (numbered centre epoch (seq + 1)) ≡ false → seq ≡ heard_through_of facts centre epoch
  all-settled seq are next =
      let floor = floor_of facts centre epoch in
      let sum : floor + (seq - floor) ≡ seq = (let from = are.from in omega (arith, from)) in
      sym
      (through-ends facts centre epoch (seq - floor)
      (λ k less. are.each (floor + k + 1) (omega arith) (let from = are.from in omega (arith, less, from)))
      (ap (λ (n : ℕ). is_settled facts (numbered centre epoch (n + 1))) sum ∙ next)
      ∙ sum)
