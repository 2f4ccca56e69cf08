-- Outcomes that are kept, by the facts that are left.
use Rattle.std.specs.List.{list_any}
use Rattle.std.specs.Prelude.{◌≡◌, ◌&&◌, List, None, Some, false, if◌then◌else◌, not, true}
use Rattle.mdcc_base.specs.declared.identifiers.TxId.{TxId}
use Rattle.mdcc_option.specs.declared.choices.Outcome.{Outcome}
use Rattle.mdcc_def_messages.specs.declared.facts.Fact.{Fact}
use Rattle.mdcc_def_protocol.specs.Facts.{heard_of, is_finished, is_heard, is_idle, is_past, outcome_kept, shows_mark}
use Rattle.mdcc_def_protocol.specs.Stores.{ended_of}
use Rattle.mdcc_facts.specs.Adding.{is_heard_before, is_voted_before}
use Rattle.mdcc_theorem_fact_folds.specs.Outcomes.{are_heard_once}
use Rattle.mdcc_given_back.specs.Rest.{IsRest}

-- what was heard of a transaction that is not idle is kept
abbrev pub HeardStays : Type 0
HeardStays = (rest facts : List Fact) (tx : TxId) → IsRest rest facts → is_idle facts tx ≡ false → heard_of rest tx ≡ heard_of facts tx

abbrev pub KeptByRest : Type 0
KeptByRest = (rest facts : List Fact) (tx : TxId) → IsRest rest facts → outcome_kept facts tx ≡ (if is_idle facts tx then None else heard_of rest tx)

-- whether it is idle is asked of the outcome that is left and of the votes that are
abbrev pub KeptByShown : Type 0
KeptByShown =
    (rest facts : List Fact) (tx : TxId)
    → IsRest rest facts → are_heard_once facts ≡ true
    → outcome_kept facts tx
    ≡ (if is_finished facts tx && is_past facts (heard_of rest tx) && not (list_any (shows_mark facts tx) rest) then None else heard_of rest tx)

-- where an idle outcome was not dropped it is idle by what is left, since the same versions are held: each transaction was heard at most once
abbrev pub KeptStays : Type 0
KeptStays = (rest facts : List Fact) (tx : TxId) → IsRest rest facts → are_heard_once facts ≡ true → outcome_kept rest tx ≡ outcome_kept facts tx

abbrev pub EndedStays : Type 0
EndedStays = (rest facts : List Fact) (tx : TxId) → IsRest rest facts → are_heard_once facts ≡ true → ended_of rest tx ≡ ended_of facts tx

-- ---- what is left tells nothing else than all facts

abbrev pub HeardOfRest : Type 0
HeardOfRest =
    (rest facts : List Fact) (tx : TxId) (outcome : Outcome)
    → IsRest rest facts → are_heard_once facts ≡ true → heard_of rest tx ≡ Some outcome → heard_of facts tx ≡ Some outcome

-- of an outcome that is left it is asked of what is left whether it is idle
abbrev pub IdleOfHeard : Type 0
IdleOfHeard =
    (rest facts : List Fact) (tx : TxId)
    → IsRest rest facts → are_heard_once facts ≡ true → is_heard rest tx ≡ true → is_idle rest tx ≡ is_idle facts tx

-- what all facts do not tell those that are left do not
abbrev pub UnheardByRest : Type 0
UnheardByRest = (rest facts : List Fact) (fact : Fact) → IsRest rest facts → is_heard_before facts fact ≡ false → is_heard_before rest fact ≡ false

abbrev pub UnvotedByRest : Type 0
UnvotedByRest = (rest facts : List Fact) (fact : Fact) → IsRest rest facts → is_voted_before facts fact ≡ false → is_voted_before rest fact ≡ false
