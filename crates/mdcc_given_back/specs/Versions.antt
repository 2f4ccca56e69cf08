-- What a centre holds of a key, by the facts that are left.
--
-- Where a transaction was heard twice, with two outcomes, the first says whether it is idle, and the second may give the version held: it
-- would be dropped with the first. So each transaction was heard at most once.
use Rattle.std.specs.Prelude.{◌≡◌, ◌≤◌, List, true, ℕ}
use Rattle.mdcc_base.specs.declared.identifiers.TxId.{TxId}
use Rattle.mdcc_base.specs.declared.key.Key.{Key}
use Rattle.mdcc_def_messages.specs.declared.facts.Fact.{Fact}
use Rattle.mdcc_def_protocol.specs.Facts.{base_of, current_of, deltas_at, executed_of, is_forgotten, token_of}
use Rattle.mdcc_def_protocol.specs.News.{is_crowding}
use Rattle.mdcc_def_protocol.specs.Stores.{delta_of}
use Rattle.mdcc_theorem_fact_folds.specs.Outcomes.{are_heard_once}
use Rattle.mdcc_given_back.specs.Rest.{IsRest}

abbrev pub CurrentStays : Type 0
CurrentStays = (rest facts : List Fact) (key : Key) → IsRest rest facts → are_heard_once facts ≡ true → current_of rest key ≡ current_of facts key

-- so the same marks are forgotten
abbrev pub ForgottenStays : Type 0
ForgottenStays =
    (rest facts : List Fact) (key : Key) (version : ℕ) (tx : TxId)
    → IsRest rest facts → are_heard_once facts ≡ true → is_forgotten rest key version tx ≡ is_forgotten facts key version tx

abbrev pub BaseStays : Type 0
BaseStays = (rest facts : List Fact) (key : Key) → IsRest rest facts → are_heard_once facts ≡ true → base_of rest key ≡ base_of facts key

-- the deltas of the version held, and of later ones. Those of older versions are given back
abbrev pub DeltasStay : Type 0
DeltasStay =
    (rest facts : List Fact) (key : Key) (version : ℕ)
    → IsRest rest facts → are_heard_once facts ≡ true → current_of facts key ≤ version → deltas_at rest key version ≡ deltas_at facts key version

abbrev pub ExecutedStays : Type 0
ExecutedStays = (rest facts : List Fact) (key : Key) → IsRest rest facts → are_heard_once facts ≡ true → executed_of rest key ≡ executed_of facts key

abbrev pub DeltaStays : Type 0
DeltaStays =
    (rest facts : List Fact) (key : Key) (tx : TxId) → IsRest rest facts → are_heard_once facts ≡ true → delta_of rest key tx ≡ delta_of facts key tx

abbrev pub TokenStays : Type 0
TokenStays = (rest facts : List Fact) (key : Key) → IsRest rest facts → are_heard_once facts ≡ true → token_of rest key ≡ token_of facts key

-- of any fact, one that may be added or not
abbrev pub CrowdingStays : Type 0
CrowdingStays =
    (rest facts : List Fact) (fact : Fact) → IsRest rest facts → are_heard_once facts ≡ true → is_crowding rest fact ≡ is_crowding facts fact
