-- The live choices of an instance, and what they weigh, by the facts that are left: at the version held, and at later ones.
use Rattle.std.specs.List.{list_all}
use Rattle.std.specs.Prelude.{◌≡◌, ◌≤◌, Bool, List, nat_lt, not, true, ℕ, ◌||◌}
use Rattle.mdcc_base.specs.TxId.{tx_eq}
use Rattle.mdcc_base.specs.declared.identifiers.TxId.{TxId}
use Rattle.mdcc_base.specs.declared.key.Key.{Key}
use Rattle.mdcc_option.specs.declared.choices.Outcome.{Outcome}
use Rattle.mdcc_def_messages.specs.WellFormed.{IsWellFormedFact}
use Rattle.mdcc_def_messages.specs.declared.facts.Fact.{Fact}
use Rattle.mdcc_def_protocol.specs.Facts.{current_of, deltas_at, is_idle, live_of}
use Rattle.mdcc_def_protocol.specs.Plain.{plain_live_and_void, plain_live_of, plain_load_at}
use Rattle.mdcc_def_protocol.specs.Stores.{load_at}
use Rattle.mdcc_theorem_fact_folds.specs.Outcomes.{are_heard_once}
use Rattle.mdcc_given_back.specs.Rest.{IsRest}

-- no delta of the version is of an idle transaction. Of such a one all facts say that it is void, and those that are left may not: they may have
-- the delta, of an adopted version, and not the outcome by which the transaction is idle
abbrev pub are_deltas_live : List Fact → Key → ℕ → Bool
are_deltas_live facts key version = list_all (λ e. not (is_idle facts e.0)) (deltas_at facts key version)

-- those that are void among them
abbrev pub LiveAndVoidStay : Type 0
LiveAndVoidStay =
    (rest facts : List Fact) (key : Key) (version : ℕ)
    → IsRest rest facts → are_heard_once facts ≡ true → current_of facts key ≤ version
    → plain_live_and_void rest key version ≡ plain_live_and_void facts key version

-- without them, where none is idle. Below the version held adopted deltas count that are given back: there the answer does not stay
abbrev pub LiveByRest : Type 0
LiveByRest =
    (rest facts : List Fact) (key : Key) (version : ℕ)
    → IsRest rest facts → are_heard_once facts ≡ true → are_deltas_live facts key version ≡ true → current_of facts key ≤ version
    → live_of facts key version ≡ plain_live_of rest key version

abbrev pub LoadByRest : Type 0
LoadByRest =
    (rest facts : List Fact) (key : Key) (version : ℕ) (seen : List TxId)
    → IsRest rest facts → are_heard_once facts ≡ true → are_deltas_live facts key version ≡ true → current_of facts key ≤ version
    → load_at facts key version seen ≡ plain_load_at rest key version seen

-- ---- where no delta is of an idle transaction

-- each committed choice is of its transaction
abbrev pub are_choices_own : Fact → Bool
are_choices_own (Fact.Heard tx (Outcome.Commit choices)) = list_all (λ choice. tx_eq choice.tx tx) choices
are_choices_own _ = true

-- no delta that was adopted at the version held is of an idle transaction: one that is a committed choice of that version is needed
abbrev pub is_adoption_live : List Fact → Fact → Bool
is_adoption_live all (Fact.Adopted key version item adds) = nat_lt version (current_of all key) || list_all (λ delta. not (is_idle all delta.tx)) adds
is_adoption_live all _ = true

abbrev pub are_adoptions_live : List Fact → Bool
are_adoptions_live facts = list_all (is_adoption_live facts) facts

-- a committed delta of the version held is needed, so its transaction is not idle
abbrev pub DeltasAreLive : Type 0
DeltasAreLive =
    (facts : List Fact) (key : Key) (version : ℕ)
    → are_heard_once facts ≡ true → list_all are_choices_own facts ≡ true → are_adoptions_live facts ≡ true
    → current_of facts key ≤ version → are_deltas_live facts key version ≡ true

abbrev pub WellFormedAreOwn : Type 0
WellFormedAreOwn = (fact : Fact) → IsWellFormedFact fact → are_choices_own fact ≡ true
