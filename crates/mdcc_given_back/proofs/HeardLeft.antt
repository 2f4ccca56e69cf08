-- What was heard of a transaction that is not idle is left, so the same transactions are settled.
use Rattle.std.proofs.Common.{◌≡◌, ◌||◌, Bool, true, false, List, [], ◌∷◌, None, is_some, refl, sym, ap, ◌∙◌, inl, inr}
use Rattle.std.specs.Option.{option_or}
use Rattle.std.proofs.lemmas.Bool.{cases_Bool}
use Rattle.mdcc_base.specs.TxId.{tx_eq}
use Rattle.mdcc_base.specs.declared.identifiers.TxId.{TxId}
use Rattle.mdcc_struct.proofs.Order.{tx_eq-same}
use Rattle.mdcc_def_messages.specs.declared.facts.Fact.{Fact}
use Rattle.mdcc_def_protocol.specs.Facts.{heard_of, is_finished, is_heard, is_idle, outcome_in}
use Rattle.mdcc_theorem_fact_folds.proofs.Chosen.{or_right}
use Rattle.mdcc_theorem_fact_folds.proofs.Folded.{gathered}
use Rattle.mdcc_given_back.specs.Endings.{HeardStays, KeptByRest}
use Rattle.mdcc_given_back.specs.Finished.{SettledByRest, SettledStays, UnfinishedHeardStays}
use Rattle.mdcc_given_back.specs.Rest.{bare, is_bared, is_dropped}
use Rattle.mdcc_given_back.proofs.Alike.{AnyFact, each, rest-says}
use Rattle.mdcc_given_back.proofs.FloorsLeft.{finished-stays}

pub outcomes : (facts : List Fact) (tx : TxId) → heard_of facts tx ≡ gathered option_or None (outcome_in tx) facts
outcomes [] tx = refl
outcomes (fact ∷ facts) tx = ap (λ o. option_or o (outcome_in tx fact)) (outcomes facts tx)

module _ (all : List Fact) (tx : TxId) (busy : is_idle all tx ≡ false) where
  no-outcome : (fact : Fact) → AnyFact fact → is_dropped all fact ≡ true → outcome_in tx fact ≡ None
  no-outcome (Fact.Booted k) p h = refl
  no-outcome (Fact.Promised k low high b) p h = refl
  no-outcome (Fact.Voted k v b options offered) p h = refl
  no-outcome (Fact.Adopted k v item adds) p h = refl
  no-outcome (Fact.Floor c e n) p h = refl
  no-outcome (Fact.Heard t outcome) p h = elim (cases_Bool (tx_eq t tx)) [
    | inl same ↦ absurd (let bad : true ≡ false = sym h ∙ ap (is_idle all) (tx_eq-same t tx same) ∙ busy in cc)
    | inr other ↦ rw other refl
  ]

  same-outcome : (fact : Fact) → AnyFact fact → is_bared all fact ≡ true → outcome_in tx (bare fact) ≡ outcome_in tx fact
  same-outcome (Fact.Booted k) p h = refl
  same-outcome (Fact.Promised k low high b) p h = refl
  same-outcome (Fact.Voted k v b options offered) p h = refl
  same-outcome (Fact.Heard t outcome) p h = refl
  same-outcome (Fact.Adopted k v item adds) p h = refl
  same-outcome (Fact.Floor c e n) p h = refl

pub heard-stays : HeardStays
heard-stays rest facts tx is busy =
    outcomes rest tx
    ∙ rest-says option_or None or_right (outcome_in tx) facts AnyFact (no-outcome facts tx busy) (same-outcome facts tx busy) rest facts (each AnyFact (λ fact. tt) facts) is
    ∙ sym (outcomes facts tx)

pub kept-by-rest : KeptByRest
kept-by-rest rest facts tx is =
    elim (cases_Bool (is_idle facts tx)) [
      | inl idle ↦ rw idle refl
      | inr busy ↦ rw busy (sym (heard-stays rest facts tx is busy))
    ]

-- ---- settled

pub not-idle : (facts : List Fact) (tx : TxId) → is_finished facts tx ≡ false → is_idle facts tx ≡ false
not-idle facts tx unfinished = rw unfinished refl

pub unfinished-stays : UnfinishedHeardStays
unfinished-stays rest facts tx is unfinished = ap (λ o. is_some o) (heard-stays rest facts tx is (not-idle facts tx unfinished))

or-true : (a : Bool) → (a || true) ≡ true
or-true true = refl
or-true false = refl

pub settled-stays : SettledStays
settled-stays rest facts tx is =
    elim (cases_Bool (is_finished facts tx)) [
      | inl finished ↦
          ap (λ b. is_heard rest tx || b) (finished-stays rest facts tx is ∙ finished) ∙ or-true (is_heard rest tx)
          ∙ sym (ap (λ b. is_heard facts tx || b) finished ∙ or-true (is_heard facts tx))
      | inr unfinished ↦
          ap (λ b. is_heard rest tx || b) (finished-stays rest facts tx is)
          ∙ ap (λ b. b || is_finished facts tx) (unfinished-stays rest facts tx is unfinished)
    ]

pub settled-by-rest : SettledByRest
settled-by-rest rest facts tx is =
    sym (settled-stays rest facts tx is) ∙ ap (λ b. is_heard rest tx || b) (finished-stays rest facts tx is)
