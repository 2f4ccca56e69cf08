-- How a leader marks claims in its structures: with the forced marks first, and then by what fits exactly. (Fast Paxos; Generalized Paxos.)
use Rattle.std.specs.List.{list_any}
use Rattle.std.specs.Option.{option_or}
use Rattle.std.specs.Prelude.{Bool, List, None, Option, Some, [], false, filter, filter_map, fold, if◌then◌else◌, is_some, length, map, nat_le, nat_lt, not, option_map, ℕ, ◌&&◌, ◌==◌, ◌||◌, ◌∷◌}
use Rattle.mdcc_base.specs.TxId.{tx_eq, tx_lt}
use Rattle.mdcc_base.specs.declared.identifiers.TxId.{TxId}
use Rattle.mdcc_base.specs.declared.key.Key.{Key}
use Rattle.mdcc_option.specs.declared.choices.Choice.{Choice}
use Rattle.mdcc_option.specs.declared.choices.Mark.{Mark}
use Rattle.mdcc_option.specs.declared.cluster.Cluster.{Cluster}
use Rattle.mdcc_option.specs.declared.items.Update.{Update}
use Rattle.mdcc_struct.specs.Forced.{forced_of}
use Rattle.mdcc_struct.specs.Maps.{TxMap, union, value_of, with_entry}
use Rattle.mdcc_struct.specs.declared.options.Options.{Options}
use Rattle.mdcc_struct.specs.declared.report.Report.{Report}
use Rattle.mdcc_def_protocol.specs.Facts.{base_of, current_of, deltas_at, is_settled, is_void, live_mark}
use Rattle.mdcc_def_protocol.specs.Fit.{are_within_room, exact_fit, is_fitting, load_of, parts_of}
use Rattle.mdcc_def_protocol.specs.Marks.{accepts_in, choice_in, is_write, rejects_in, seen_in}
use Rattle.mdcc_def_messages.specs.declared.facts.Fact.{Fact}
use Rattle.mdcc_def_protocol.specs.declared.fit.Fit.{Fit}

-- most accepted marks of a structure, or of an instance at the fast ballot, before an Add or a Write is accepted
abbrev pub accept_room : Update → ℕ
accept_room (Update.Write item seen) = 512
accept_room (Update.Add amounts) = 500

-- most rejected marks before a rejection
abbrev pub reject_room : ℕ
reject_room = 16384

-- the live choices at a leader: its structure's accepted marks in place of votes, and the executed deltas
abbrev pub live_at_leader : List Fact → Key → ℕ → Options → TxMap Update
live_at_leader facts key version options =
    filter (λ e. not (is_void facts e.0)) (union (filter_map live_mark options) (map (λ e. (e.0, Update.Add e.1)) (deltas_at facts key version)))

-- how a choice fits beside them
abbrev pub fit_at_leader : Cluster → List Fact → Key → ℕ → Options → Choice → Fit
fit_at_leader cluster facts key version options choice =
    exact_fit cluster (base_of facts key) (load_of (live_at_leader facts key version options) (seen_in choice.update)) choice.update

-- whether a leader accepts a choice: it holds that very version, there is room, and the choice fits exactly
abbrev pub is_accepted : Cluster → List Fact → Key → ℕ → Options → Choice → Bool
is_accepted cluster facts key version options choice =
    current_of facts key == version
    && nat_lt (length (accepts_in options)) (accept_room choice.update)
    && is_fitting (fit_at_leader cluster facts key version options choice)

-- the mark of a claim; one whose choice nobody gave is rejected
abbrev pub mark_of_choice : Cluster → List Fact → Key → ℕ → Options → Option Choice → Mark
mark_of_choice cluster facts key version options None = Mark.Reject
mark_of_choice cluster facts key version options (Some choice) =
    if is_accepted cluster facts key version options choice then Mark.Accept choice else Mark.Reject

-- whether there is no room for one more mark, because it rejects
abbrev pub is_left_out : Options → Mark → Bool
is_left_out options (Mark.Accept choice) = false
is_left_out options Mark.Reject = nat_le reject_room (length (rejects_in options))

-- the structure with a claim marked. A claim that is in it stays as it is marked, and one whose transaction the leader heard, or
-- that is finished, is left out: all centres may have forgotten its mark (our own rule)
abbrev pub with_claim : Cluster → List Fact → Key → ℕ → Options → TxId × Option Choice → Options
with_claim cluster facts key version options (tx, choice) =
    if is_some (value_of options tx) || is_settled facts tx then options
    else (let mark = mark_of_choice cluster facts key version options choice in
    if is_left_out options mark then options else with_entry options (tx, mark))

-- the accepted choices of one report, as claims
abbrev pub claims_reported : Report → TxMap (Option Choice)
claims_reported report = filter_map (λ e. option_map (λ choice. (e.0, Some choice)) (choice_in e.1)) report.votes

-- those of all reports
abbrev pub choices_reported : List Report → TxMap (Option Choice)
choices_reported reports = fold (λ claims report. union claims (claims_reported report)) [] reports

-- claims by transaction, with the choice where one of two claims has it
abbrev pub with_choice : TxMap (Option Choice) → TxId × Option Choice → TxMap (Option Choice)
with_choice [] e = e ∷ []
with_choice (x ∷ xs) e =
    if tx_lt x.0 e.0 then x ∷ with_choice xs e
    else (if tx_eq x.0 e.0 then (x.0, option_or x.1 e.1) ∷ xs else e ∷ x ∷ xs)

-- the pending claims and the reported choices, ascending by transaction
abbrev pub all_claims : TxMap (Option Choice) → List Report → TxMap (Option Choice)
all_claims pending reports = fold with_choice (fold with_choice [] pending) (choices_reported reports)

-- the first structure of a ballot: the forced marks, and then the claims in order of transaction
abbrev pub first_structure : Cluster → List Fact → Key → ℕ → TxMap (Option Choice) → List Report → Options
first_structure cluster facts key version pending reports =
    fold (with_claim cluster facts key version) (forced_of cluster.quorums reports) (all_claims pending reports)

-- ---- from how many promises

abbrev pub is_add_accepted : TxId × Mark → Bool
is_add_accepted (tx, Mark.Accept choice) = not (is_write choice.update)
is_add_accepted (tx, Mark.Reject) = false

-- forced marks fit together where no Add is accepted among them, or where the leader holds that very version and at each
-- quantity the sum over what is live at it with them is within the room. (Our own rule.)
abbrev pub fit_together : Cluster → List Fact → Key → ℕ → Options → Bool
fit_together cluster facts key version marks =
    not (list_any is_add_accepted marks)
    || (current_of facts key == version && are_within_room cluster (base_of facts key) (load_of (live_at_leader facts key version marks) []))

-- the promises of a classic quorum are enough where what they force fits together, and others where they are so many that it
-- does by the votes' limit: under the safe limit as many as a classic quorum has, under the wider one those of all centres
abbrev pub is_enough : Cluster → List Fact → Key → ℕ → List Report → Bool
is_enough cluster facts key version reports =
    nat_le (parts_of cluster.limit cluster.quorums) (length reports)
    || (nat_le cluster.quorums.classic (length reports) && fit_together cluster facts key version (forced_of cluster.quorums reports))

-- a structure has at most 1,024 accepted and 32,768 rejected marks
abbrev pub is_crowded : Options → Bool
is_crowded options = nat_lt 1024 (length (accepts_in options)) || nat_lt 32768 (length (rejects_in options))
