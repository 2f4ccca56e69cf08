-- The facts of one centre, the newest first, and what they say: epochs, promises, votes, outcomes, and what the centre holds.
-- Each question is asked of one fact, and then of all. Where the first of several facts counts, the older ones stand on the left.
use Rattle.std.specs.Option.{option_or}
use Rattle.std.specs.List.{list_any}
use Rattle.std.specs.Prelude.{Bool, List, None, Option, Some, [], false, filter, filter_map, fold, if◌then◌else◌, is_some, length, map, max, nat_le, nat_lt, not, option_and_then, option_map, suc, true, zero, ℕ, ◌&&◌, ◌++◌, ◌+◌, ◌==◌, ◌||◌, ◌∷◌}
use Rattle.mdcc_base.specs.Ballot.{ballot_eq, ballot_lt, ballot_max, fast_ballot, is_fast}
use Rattle.mdcc_base.specs.Key.{key_eq}
use Rattle.mdcc_base.specs.TxId.{tx_eq}
use Rattle.mdcc_base.specs.declared.identifiers.Ballot.{Ballot}
use Rattle.mdcc_base.specs.declared.identifiers.TxId.{TxId}
use Rattle.mdcc_base.specs.declared.key.Key.{Key}
use Rattle.mdcc_option.specs.OneCopy.{next_version}
use Rattle.mdcc_option.specs.declared.choices.Choice.{Choice}
use Rattle.mdcc_option.specs.declared.choices.Mark.{Mark}
use Rattle.mdcc_option.specs.declared.choices.Outcome.{Outcome}
use Rattle.mdcc_option.specs.declared.items.Item.{Item}
use Rattle.mdcc_option.specs.declared.items.Token.{Token}
use Rattle.mdcc_option.specs.declared.items.Update.{Update}
use Rattle.mdcc_struct.specs.Maps.{TxMap, txs_of, union, value_of}
use Rattle.mdcc_struct.specs.declared.options.Options.{Options}
use Rattle.mdcc_struct.specs.declared.report.Report.{Report}
use Rattle.mdcc_def_protocol.specs.Marks.{Amounts, accepts_in, choice_in, is_abort, is_write, rejects_in}
use Rattle.mdcc_def_messages.specs.declared.facts.Fact.{Fact}

-- ---- epochs

-- the epoch of the last boot
abbrev pub epoch_of : List Fact → ℕ
epoch_of [] = 0
epoch_of (Fact.Booted epoch ∷ facts) = epoch
epoch_of (fact ∷ facts) = epoch_of facts

-- ---- promises

-- the ballot below which a fact bars votes in an instance; the fast one where it bars none
abbrev pub ballot_promised : Key → ℕ → Fact → Ballot
ballot_promised key version (Fact.Promised key' low high ballot) = if nat_le low version && nat_le version high && key_eq key' key then ballot else fast_ballot
ballot_promised key version (Fact.Voted key' version' ballot options offered) = if version' == version && key_eq key' key then ballot else fast_ballot
ballot_promised key version _ = fast_ballot

-- the promise: the greatest ballot that was promised for the instance, or voted at in it. (Fast Paxos.)
abbrev pub promise_of : List Fact → Key → ℕ → Ballot
promise_of [] key version = fast_ballot
promise_of (fact ∷ facts) key version = ballot_max (promise_of facts key version) (ballot_promised key version fact)

-- the high end of a promise of this ballot that begins at this version
abbrev pub range_promised : Key → ℕ → Ballot → Fact → Option ℕ
range_promised key version ballot (Fact.Promised key' low high ballot') = if low == version && ballot_eq ballot' ballot && key_eq key' key then Some high else None
range_promised key version ballot _ = None

-- the first such end
abbrev pub promised_through : List Fact → Key → ℕ → Ballot → Option ℕ
promised_through [] key version ballot = None
promised_through (fact ∷ facts) key version ballot = option_or (promised_through facts key version ballot) (range_promised key version ballot fact)

-- ---- outcomes that were heard

abbrev pub outcome_in : TxId → Fact → Option Outcome
outcome_in tx (Fact.Heard tx' outcome) = if tx_eq tx' tx then Some outcome else None
outcome_in tx _ = None

-- the outcome that was heard of a transaction
abbrev pub heard_of : List Fact → TxId → Option Outcome
heard_of [] tx = None
heard_of (fact ∷ facts) tx = option_or (heard_of facts tx) (outcome_in tx fact)

abbrev pub is_heard : List Fact → TxId → Bool
is_heard facts tx = is_some (heard_of facts tx)

-- ---- the version that the centre holds

-- the version that a committed choice gives a key; 0 where it gives none
abbrev pub version_given : Key → Choice → ℕ
version_given key choice = if is_write choice.update && key_eq choice.key key then next_version choice.version else 0

-- the version that a fact gives a key
abbrev pub version_from : Key → Fact → ℕ
version_from key (Fact.Heard tx (Outcome.Commit choices)) = fold (λ version choice. max version (version_given key choice)) 0 choices
version_from key (Fact.Adopted key' version item adds) = if key_eq key' key then version else 0
version_from key _ = 0

-- the version that is held
abbrev pub current_of : List Fact → Key → ℕ
current_of [] key = 0
current_of (fact ∷ facts) key = max (current_of facts key) (version_from key fact)

-- ---- what all centres have heard

-- the number that a fact sets as the floor of an epoch of a centre
abbrev pub floor_set : ℕ → ℕ → Fact → ℕ
floor_set centre epoch (Fact.Floor centre' epoch' seq) = if centre' == centre && epoch' == epoch then seq else 0
floor_set centre epoch _ = 0

-- the floor: all centres have heard the transactions of the epoch from the first through this one. (Our own rule.)
abbrev pub floor_of : List Fact → ℕ → ℕ → ℕ
floor_of [] centre epoch = 0
floor_of (fact ∷ facts) centre epoch = max (floor_of facts centre epoch) (floor_set centre epoch fact)

abbrev pub is_floor : Fact → Bool
is_floor (Fact.Floor centre epoch seq) = true
is_floor _ = false

-- whether the centre has set a floor
abbrev pub has_floor : List Fact → Bool
has_floor facts = list_any is_floor facts

-- a transaction through the floor is finished
abbrev pub is_finished : List Fact → TxId → Bool
is_finished facts tx = nat_lt 0 tx.seq && nat_le tx.seq (floor_of facts tx.centre tx.epoch)

-- it was heard, or is finished, so that its outcome is known everywhere
abbrev pub is_settled : List Fact → TxId → Bool
is_settled facts tx = is_heard facts tx || is_finished facts tx

-- whether each transaction of an epoch from the first through this number was heard
abbrev pub are_heard : List Fact → ℕ → ℕ → ℕ → Bool
are_heard facts centre epoch zero = true
are_heard facts centre epoch (suc n) = is_heard facts (record { centre = centre; epoch = epoch; seq = suc n }) && are_heard facts centre epoch n

-- from a number on, as far as each transaction is settled, and by at most so many
abbrev pub settled_after : List Fact → ℕ → ℕ → ℕ → ℕ → ℕ
settled_after facts centre epoch zero n = n
settled_after facts centre epoch (suc more) n =
    if is_settled facts (record { centre = centre; epoch = epoch; seq = n + 1 }) then settled_after facts centre epoch more (n + 1) else n

-- the greatest number through which each transaction of the epoch was heard or is finished; each one above the floor has a fact of its own
abbrev pub heard_through_of : List Fact → ℕ → ℕ → ℕ
heard_through_of facts centre epoch = settled_after facts centre epoch (length facts) (floor_of facts centre epoch)

-- ---- marks that are forgotten

-- the marks of a finished transaction in instances below the version held are forgotten. (Our own rule.)
abbrev pub is_forgotten : List Fact → Key → ℕ → TxId → Bool
is_forgotten facts key version tx = is_finished facts tx && nat_lt version (current_of facts key)

-- without them
abbrev pub without_forgotten : List Fact → Key → ℕ → Options → Options
without_forgotten facts key version options = filter (λ e. not (is_forgotten facts key version e.0)) options

-- ---- votes

-- the marks that a fact votes in an instance at a ballot
abbrev pub marks_voted : Key → ℕ → Ballot → Fact → Options
marks_voted key version ballot (Fact.Voted key' version' ballot' options offered) =
    if version' == version && ballot_eq ballot' ballot && key_eq key' key then options else []
marks_voted key version ballot _ = []

-- all marks that were voted there. (Generalized Paxos.)
abbrev pub votes_of : List Fact → Key → ℕ → Ballot → Options
votes_of [] key version ballot = []
votes_of (fact ∷ facts) key version ballot = union (votes_of facts key version ballot) (marks_voted key version ballot fact)

-- the votes at a ballot that are not forgotten
abbrev pub shown_of : List Fact → Key → ℕ → Ballot → Options
shown_of facts key version ballot = without_forgotten facts key version (votes_of facts key version ballot)

-- the ballot at which a fact votes in an instance, where it is below another one; else the fast one
abbrev pub ballot_voted : Key → ℕ → Ballot → Fact → Ballot
ballot_voted key version below (Fact.Voted key' version' ballot options offered) =
    if version' == version && ballot_lt ballot below && key_eq key' key then ballot else fast_ballot
ballot_voted key version below _ = fast_ballot

-- the greatest ballot below another one at which there is a vote in the instance
abbrev pub last_ballot : List Fact → Key → ℕ → Ballot → Ballot
last_ballot [] key version below = fast_ballot
last_ballot (fact ∷ facts) key version below = ballot_max (last_ballot facts key version below) (ballot_voted key version below fact)

-- what a centre reports to a leader: the greatest ballot below the leader's at which it voted, also where all its marks there are
-- forgotten, and the marks there that are not. Below the fast one there is none. (Fast Paxos; that marks are forgotten is our own rule.)
abbrev pub report_of : ℕ → List Fact → Key → ℕ → Ballot → Report
report_of centre facts key version below =
    let ballot = last_ballot facts key version below in
    record { centre = centre; ballot = ballot; votes = if is_fast below then [] else shown_of facts key version ballot }

-- the mark that a fact votes of a transaction in an instance, with its ballot
abbrev pub mark_voted : Key → ℕ → TxId → Fact → Option (Ballot × Mark)
mark_voted key version tx (Fact.Voted key' version' ballot options offered) =
    if version' == version && key_eq key' key then option_map (λ mark. (ballot, mark)) (value_of options tx) else None
mark_voted key version tx _ = None

-- the second vote where its ballot is greater, else the first
abbrev pub later_vote : Option (Ballot × Mark) → Option (Ballot × Mark) → Option (Ballot × Mark)
later_vote None b = b
later_vote (Some a) None = Some a
later_vote (Some a) (Some b) = if ballot_lt a.0 b.0 then Some b else Some a

-- the vote on a transaction in an instance at the greatest ballot at which it was voted
abbrev pub last_vote : List Fact → Key → ℕ → TxId → Option (Ballot × Mark)
last_vote [] key version tx = None
last_vote (fact ∷ facts) key version tx = later_vote (last_vote facts key version tx) (mark_voted key version tx fact)

-- the same, unless it is forgotten
abbrev pub vote_of : List Fact → Key → ℕ → TxId → Option (Ballot × Mark)
vote_of facts key version tx = if is_forgotten facts key version tx then None else last_vote facts key version tx

-- the choice where it is the transaction's
abbrev pub choice_of_tx : TxId → Choice → Option Choice
choice_of_tx tx choice = if tx_eq choice.tx tx then Some choice else None

-- the choice of a transaction that a fact has in an instance, accepted or offered
abbrev pub choice_voted : Key → ℕ → TxId → Fact → Option Choice
choice_voted key version tx (Fact.Voted key' version' ballot options offered) =
    if version' == version && key_eq key' key
    then option_or (option_and_then choice_in (value_of options tx)) (option_and_then (choice_of_tx tx) offered)
    else None
choice_voted key version tx _ = None

-- the first such choice
abbrev pub first_choice_voted : List Fact → Key → ℕ → TxId → Option Choice
first_choice_voted [] key version tx = None
first_choice_voted (fact ∷ facts) key version tx = option_or (first_choice_voted facts key version tx) (choice_voted key version tx fact)

-- the same, unless its mark is forgotten
abbrev pub choice_known : List Fact → Key → ℕ → TxId → Option Choice
choice_known facts key version tx = if is_forgotten facts key version tx then None else first_choice_voted facts key version tx

-- ---- what is void

-- whether a fact shows a mark of the transaction
abbrev pub shows_mark : List Fact → TxId → Fact → Bool
shows_mark facts tx (Fact.Voted key version ballot options offered) = is_some (value_of options tx) && not (is_forgotten facts key version tx)
shows_mark facts tx _ = false

-- a committed choice is needed where it is the Write that gave the version held, or an Add on that version or a later one
abbrev pub is_needed : List Fact → Choice → Bool
is_needed facts choice =
    if is_write choice.update then next_version choice.version == current_of facts choice.key
    else nat_le (current_of facts choice.key) choice.version

-- whether an outcome was heard of which no choice is needed
abbrev pub is_past : List Fact → Option Outcome → Bool
is_past facts None = false
is_past facts (Some Outcome.Abort) = true
is_past facts (Some (Outcome.Commit choices)) = not (list_any (is_needed facts) choices)

-- what was heard of a transaction is idle where the transaction is finished, no mark of it is shown, and none of its choices is needed. (Our own rule.)
abbrev pub is_idle : List Fact → TxId → Bool
is_idle facts tx =
    is_finished facts tx && is_past facts (heard_of facts tx) && not (list_any (shows_mark facts tx) facts)

-- the outcome that was heard, unless it is idle
abbrev pub outcome_kept : List Fact → TxId → Option Outcome
outcome_kept facts tx = if is_idle facts tx then None else heard_of facts tx

-- a transaction that was heard aborted is void, and one of which what was heard is idle
abbrev pub is_void : List Fact → TxId → Bool
is_void facts tx = is_abort (heard_of facts tx) || is_idle facts tx

-- ---- what the centre holds

abbrev pub item_written : Update → Option Item
item_written (Update.Write item seen) = Some item
item_written (Update.Add amounts) = None

-- the base that a committed choice gives a version of a key
abbrev pub base_given : Key → ℕ → Choice → Option Item
base_given key version choice = if next_version choice.version == version && key_eq choice.key key then item_written choice.update else None

-- the base that a fact gives it
abbrev pub base_from : Key → ℕ → Fact → Option Item
base_from key version (Fact.Heard tx (Outcome.Commit choices)) = fold (λ base choice. option_or base (base_given key version choice)) None choices
base_from key version (Fact.Adopted key' version' item adds) = if version' == version && key_eq key' key then Some item else None
base_from key version _ = None

-- the base of a version, by the first fact that gives one
abbrev pub base_at : List Fact → Key → ℕ → Option Item
base_at [] key version = None
base_at (fact ∷ facts) key version = option_or (base_at facts key version) (base_from key version fact)

-- the base of the version that is held; there is none at version 0
abbrev pub base_of : List Fact → Key → Option Item
base_of facts key =
    let version = current_of facts key in
    if version == 0 then None else base_at facts key version

abbrev pub amounts_added : Update → Option Amounts
amounts_added (Update.Write item seen) = None
amounts_added (Update.Add amounts) = Some amounts

-- the delta that a committed choice brings at a version of a key
abbrev pub delta_given : Key → ℕ → Choice → Option (TxId × Amounts)
delta_given key version choice =
    if choice.version == version && key_eq choice.key key then option_map (λ amounts. (choice.tx, amounts)) (amounts_added choice.update) else None

-- the deltas that a fact brings there
abbrev pub deltas_from : Key → ℕ → Fact → TxMap Amounts
deltas_from key version (Fact.Heard tx (Outcome.Commit choices)) = filter_map (delta_given key version) choices
deltas_from key version (Fact.Adopted key' version' item adds) =
    if version' == version && key_eq key' key then map (λ delta. (delta.tx, delta.amounts)) adds else []
deltas_from key version _ = []

-- the deltas of a version that were heard committed or adopted
abbrev pub deltas_at : List Fact → Key → ℕ → TxMap Amounts
deltas_at [] key version = []
deltas_at (fact ∷ facts) key version = union (deltas_at facts key version) (deltas_from key version fact)

-- the executed deltas: those of the version that is held
abbrev pub executed_of : List Fact → Key → TxMap Amounts
executed_of facts key = deltas_at facts key (current_of facts key)

-- what a reader sees of a key: the version held, and the transactions whose deltas are executed
abbrev pub token_of : List Fact → Key → Token
token_of facts key =
    let version = current_of facts key in
    record { version = version; seen = txs_of (deltas_at facts key version) }

-- ---- live choices

abbrev pub live_mark : TxId × Mark → Option (TxId × Update)
live_mark e = option_map (λ choice. (e.0, choice.update)) (choice_in e.1)

-- the updates that a fact makes live in an instance: accepted votes that are shown, and executed deltas
abbrev pub live_from : (TxId → Bool) → Key → ℕ → Fact → TxMap Update
live_from is_gone key version (Fact.Voted key' version' ballot options offered) =
    if version' == version && key_eq key' key then filter_map live_mark (filter (λ e. not (is_gone e.0)) options) else []
live_from is_gone key version fact = map (λ e. (e.0, Update.Add e.1)) (deltas_from key version fact)

abbrev pub live_and_void : (TxId → Bool) → List Fact → Key → ℕ → TxMap Update
live_and_void is_gone [] key version = []
live_and_void is_gone (fact ∷ facts) key version = union (live_and_void is_gone facts key version) (live_from is_gone key version fact)

-- the live choices of an instance, each transaction once: those that may still be in the item's value
abbrev pub live_of : List Fact → Key → ℕ → TxMap Update
live_of facts key version =
    filter (λ e. not (is_void facts e.0)) (live_and_void (is_forgotten facts key version) facts key version)

-- how many marks that are shown accept and how many reject in an instance at the fast ballot
abbrev pub entries_of : List Fact → Key → ℕ → ℕ × ℕ
entries_of facts key version =
    let votes = shown_of facts key version fast_ballot in
    (length (accepts_in votes), length (rejects_in votes))

-- ---- transactions that are not resolved

abbrev pub write_set_of_mark : TxId × Mark → Option (TxId × List (Key × ℕ))
write_set_of_mark e = option_map (λ choice. (e.0, choice.write_set)) (choice_in e.1)

-- the transactions of which a vote holds a choice, with their write sets
abbrev pub write_sets_from : Fact → TxMap (List (Key × ℕ))
write_sets_from (Fact.Voted key version ballot options None) = filter_map write_set_of_mark options
write_sets_from (Fact.Voted key version ballot options (Some choice)) = filter_map write_set_of_mark options ++ (choice.tx, choice.write_set) ∷ []
write_sets_from _ = []

abbrev pub write_sets_of : List Fact → TxMap (List (Key × ℕ))
write_sets_of [] = []
write_sets_of (fact ∷ facts) = union (write_sets_of facts) (write_sets_from fact)

-- those that were neither heard nor are finished, ascending. Of these no mark is forgotten
abbrev pub unresolved_of : List Fact → TxMap (List (Key × ℕ))
unresolved_of facts = filter (λ e. not (is_settled facts e.0)) (write_sets_of facts)
