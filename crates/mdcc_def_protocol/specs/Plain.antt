-- What the facts of a centre say where it has set no floor, so that nothing is finished, forgotten or idle (the laws of proofs/Plain).
use Rattle.std.specs.Prelude.{Bool, List, Option, [], filter, filter_map, find, if◌then◌else◌, length, map, min, not, option_map, slice_get, ℕ, ◌&&◌, ◌-◌, ◌==◌, ◌^◌, ◌∷◌}
use Rattle.mdcc_base.specs.Ballot.{fast_ballot, is_fast}
use Rattle.mdcc_base.specs.Key.{key_eq}
use Rattle.mdcc_base.specs.declared.identifiers.Ballot.{Ballot}
use Rattle.mdcc_base.specs.declared.identifiers.TxId.{TxId}
use Rattle.mdcc_base.specs.declared.key.Key.{Key}
use Rattle.mdcc_option.specs.declared.choices.Mark.{Mark}
use Rattle.mdcc_option.specs.declared.items.Update.{Update}
use Rattle.mdcc_struct.specs.Maps.{TxMap, union}
use Rattle.mdcc_struct.specs.declared.report.Report.{Report}
use Rattle.mdcc_def_protocol.specs.Facts.{deltas_from, heard_of, is_heard, last_ballot, live_mark, votes_of, write_sets_of}
use Rattle.mdcc_def_protocol.specs.Fit.{capped, load_of}
use Rattle.mdcc_def_protocol.specs.Marks.{accepts_in, is_abort, is_commit, rejects_in}
use Rattle.mdcc_def_protocol.specs.Stores.{is_above}
use Rattle.mdcc_def_messages.specs.declared.facts.Fact.{Fact}
use Rattle.mdcc_def_protocol.specs.declared.fit.Load.{Load}

-- what a centre reports: the votes at the greatest ballot below the leader's
abbrev pub plain_report_of : ℕ → List Fact → Key → ℕ → Ballot → Report
plain_report_of centre facts key version below =
    let ballot = last_ballot facts key version below in
    record { centre = centre; ballot = ballot; votes = if is_fast below then [] else votes_of facts key version ballot }

-- a transaction that was heard aborted is void
abbrev pub plain_is_void : List Fact → TxId → Bool
plain_is_void facts tx = is_abort (heard_of facts tx)

-- the updates that a fact makes live in an instance: accepted votes and executed deltas
abbrev pub plain_live_from : Key → ℕ → Fact → TxMap Update
plain_live_from key version (Fact.Voted key' version' ballot options offered) =
    if version' == version && key_eq key' key then filter_map live_mark options else []
plain_live_from key version fact = map (λ e. (e.0, Update.Add e.1)) (deltas_from key version fact)

abbrev pub plain_live_and_void : List Fact → Key → ℕ → TxMap Update
plain_live_and_void [] key version = []
plain_live_and_void (fact ∷ facts) key version = union (plain_live_and_void facts key version) (plain_live_from key version fact)

-- the live choices of an instance, each transaction once
abbrev pub plain_live_of : List Fact → Key → ℕ → TxMap Update
plain_live_of facts key version = filter (λ e. not (plain_is_void facts e.0)) (plain_live_and_void facts key version)

-- what they weigh beside a seen set
abbrev pub plain_load_at : List Fact → Key → ℕ → List TxId → Load
plain_load_at facts key version seen = capped (load_of (plain_live_of facts key version) seen)

-- how many marks accept and how many reject in an instance at the fast ballot
abbrev pub plain_entries_of : List Fact → Key → ℕ → ℕ × ℕ
plain_entries_of facts key version =
    let votes = votes_of facts key version fast_ballot in
    (length (accepts_in votes), length (rejects_in votes))

abbrev pub plain_entries_at : List Fact → Key → ℕ → ℕ × ℕ
plain_entries_at facts key version =
    let entries = plain_entries_of facts key version in
    (min entries.0 (2 ^ 32 - 1), min entries.1 (2 ^ 32 - 1))

-- the mark at a place of the votes at the greatest ballot below another one
abbrev pub plain_mark_below : List Fact → Key → ℕ → Ballot → ℕ → Option (Ballot × TxId × Mark)
plain_mark_below facts key version below place =
    let report = plain_report_of 0 facts key version below in
    option_map (λ e. (report.ballot, e.0, e.1)) (slice_get report.votes place)

-- the next mark above a transaction of these votes
abbrev pub plain_mark_after : List Fact → Key → ℕ → Ballot → Option TxId → Option (Ballot × TxId × Mark)
plain_mark_after facts key version below last =
    let report = plain_report_of 0 facts key version below in
    option_map (λ e. (report.ballot, e.0, e.1)) (find (λ e. is_above last e.0) report.votes)

-- whether the outcome that was heard of a transaction is a commit
abbrev pub plain_ended_of : List Fact → TxId → Option Bool
plain_ended_of facts tx = option_map is_commit (heard_of facts tx)

-- the transactions that were not heard, ascending, with their write sets
abbrev pub plain_unresolved_of : List Fact → TxMap (List (Key × ℕ))
plain_unresolved_of facts = filter (λ e. not (is_heard facts e.0)) (write_sets_of facts)

abbrev pub plain_unresolved_at : List Fact → ℕ → Option (TxId × List (Key × ℕ))
plain_unresolved_at facts place = slice_get (plain_unresolved_of facts) place
