-- What was heard of a transaction, in one walk of its chain from the newest fact to the oldest.
use Rattle.std.specs.List.{fold, list_any}
use Rattle.std.specs.Option.{option_or}
use Rattle.std.specs.Prelude.{◌≡◌, Bool, List, None, Option, [], filter, not, option_map, true, ◌&&◌, ◌∷◌}
use Rattle.mdcc_base.specs.declared.identifiers.TxId.{TxId}
use Rattle.mdcc_option.specs.declared.choices.Outcome.{Outcome}
use Rattle.mdcc_def_protocol.specs.Facts.{heard_of, is_heard, outcome_in}
use Rattle.mdcc_def_protocol.specs.Plain.{plain_ended_of, plain_is_void}
use Rattle.mdcc_def_protocol.specs.Marks.{is_abort, is_commit}
use Rattle.mdcc_def_messages.specs.declared.facts.Fact.{Fact}
use Rattle.mdcc_facts.specs.Adding.{is_heard_before}
use Rattle.mdcc_theorem_fact_folds.specs.Chains.{Covers, is_heard_of}

-- an older fact of the transaction counts before a later one
abbrev pub older_outcome : TxId → Option Outcome → Fact → Option Outcome
older_outcome tx later fact = option_or (outcome_in tx fact) later

-- the same of whether it is a commit
abbrev pub older_ending : TxId → Option Bool → Fact → Option Bool
older_ending tx later fact = option_or (option_map is_commit (outcome_in tx fact)) later

abbrev pub HeardInChain : Type 0
HeardInChain =
    (keep : Fact → Bool) (tx : TxId) → Covers keep (is_heard_of tx)
    → (facts : List Fact) → heard_of facts tx ≡ heard_of (filter keep facts) tx

abbrev pub HeardByWalk : Type 0
HeardByWalk =
    (keep : Fact → Bool) (tx : TxId) → Covers keep (is_heard_of tx)
    → (facts : List Fact) → heard_of facts tx ≡ fold (older_outcome tx) None (filter keep facts)

abbrev pub EndedByWalk : Type 0
EndedByWalk =
    (keep : Fact → Bool) (tx : TxId) → Covers keep (is_heard_of tx)
    → (facts : List Fact) → plain_ended_of facts tx ≡ fold (older_ending tx) None (filter keep facts)

-- there is a fact of it
abbrev pub IsHeardByWalk : Type 0
IsHeardByWalk =
    (keep : Fact → Bool) (tx : TxId) → Covers keep (is_heard_of tx)
    → (facts : List Fact) → is_heard facts tx ≡ list_any (is_heard_of tx) (filter keep facts)

abbrev pub IsVoidByWalk : Type 0
IsVoidByWalk =
    (keep : Fact → Bool) (tx : TxId) → Covers keep (is_heard_of tx)
    → (facts : List Fact) → plain_is_void facts tx ≡ is_abort (fold (older_outcome tx) None (filter keep facts))

-- ---- where each transaction was heard at most once

abbrev pub are_heard_once : List Fact → Bool
are_heard_once [] = true
are_heard_once (fact ∷ facts) = not (is_heard_before facts fact) && are_heard_once facts

-- the first outcome that a walk meets
abbrev pub first_outcome : TxId → List Fact → Option Outcome
first_outcome tx [] = None
first_outcome tx (fact ∷ facts) = option_or (outcome_in tx fact) (first_outcome tx facts)

-- so a walk may end where it meets one
abbrev pub HeardAtFirst : Type 0
HeardAtFirst =
    (keep : Fact → Bool) (tx : TxId) → Covers keep (is_heard_of tx)
    → (facts : List Fact) → are_heard_once facts ≡ true → heard_of facts tx ≡ first_outcome tx (filter keep facts)
