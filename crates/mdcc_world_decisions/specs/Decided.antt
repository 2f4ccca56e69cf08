-- How transactions ended: true is commit.
use Rattle.std.specs.List.{list_all, list_any}
use Rattle.std.specs.Prelude.{Bool, List, None, Option, Some, [], false, filter_map, if◌then◌else◌, is_some, length, map, min, nat_lt, not, option_map, true, unwrap_or, ℕ, ◌+◌, ◌-◌, ◌^◌}
use Rattle.std.specs.declared.hash.BuildHasherDefault.{BuildHasherDefault}
use Rattle.std.specs.declared.hash.FoldHasher.{FoldHasher}
use Rattle.indexmap.specs.IndexMap.{IndexMap, get}
use Rattle.mdcc_base.specs.Counts.{number_of}
use Rattle.mdcc_base.specs.Sizes.{Sizes}
use Rattle.mdcc_base.specs.TxId.{tx_eq}
use Rattle.mdcc_base.specs.declared.identifiers.TxId.{TxId}
use Rattle.mdcc_base.specs.declared.key.Key.{Key}
use Rattle.mdcc_option.specs.declared.choices.Choice.{Choice}
use Rattle.mdcc_option.specs.declared.choices.Mark.{Mark}
use Rattle.mdcc_world_decisions.specs.Ballots.{BallotsByKey, ballots_at}
use Rattle.mdcc_world_decisions.specs.Casts.{chosen_cast}
use Rattle.mdcc_world_decisions.specs.declared.casts.Cast.{Cast}
use Rattle.mdcc_world_decisions.specs.declared.decisions.Totals.{Totals}
use Rattle.mdcc_def_ledger.specs.Ledger.{Entry, new_outcomes, outcome_of}
use Rattle.mdcc_def_protocol.specs.Marks.{is_commit, is_reject_found}

-- ---- the instances of begun transactions

abbrev pub Instances : Type 0
Instances = List (Key × ℕ)

abbrev pub InstancesByTx : Type 0
InstancesByTx = IndexMap TxId Instances (BuildHasherDefault FoldHasher)

abbrev pub instances_at : InstancesByTx → TxId → Instances
instances_at begun tx = unwrap_or (get tx_eq begun tx) []

abbrev pub instance_of_choice : Choice → Key × ℕ
instance_of_choice choice = (choice.key, choice.version)

-- ---- endings

-- a transaction aborted where a choice is rejected, and committed where all are accepted
abbrev pub decided_by : List (Option Mark) → Option Bool
decided_by marks = if list_any is_reject_found marks then Some false else (if list_all is_some marks then Some true else None)

-- the mark that is chosen in an instance, of those that were cast on one transaction
abbrev pub chosen_in : Sizes → BallotsByKey → List Cast → Key × ℕ → Option Mark
chosen_in quorums ballots casts instance = chosen_cast quorums casts instance.0 instance.1 (ballots_at ballots instance.0 instance.1)

-- how the votes end a transaction with these instances
abbrev pub decided_cast : Sizes → BallotsByKey → List Cast → Instances → Option Bool
decided_cast quorums ballots casts instances =
    if nat_lt 0 (length instances) then decided_by (map (chosen_in quorums ballots casts) instances) else None

-- how a transaction ended by a ledger
abbrev pub decided_of : Sizes → List Entry → TxId → Option Bool
decided_of quorums entries tx = option_map is_commit (outcome_of quorums entries tx)

-- an ending that is there now and was not before
abbrev pub newly_decided : TxId → Option Bool → Option Bool → Option (TxId × Bool)
newly_decided tx (Some is_commit) None = Some (tx, is_commit)
newly_decided tx _ _ = None

-- a transaction with its ending by a ledger
abbrev pub with_decided_of : Sizes → List Entry → TxId → TxId × Option Bool
with_decided_of quorums entries tx = (tx, decided_of quorums entries tx)

abbrev pub decided_since : Sizes → List Entry → TxId × Option Bool → Option (TxId × Bool)
decided_since quorums entries was = newly_decided was.0 (decided_of quorums entries was.0) was.1

-- of some transactions with their endings before, the endings that are there now and were not
abbrev pub all_newly_decided : Sizes → List Entry → List (TxId × Option Bool) → List (TxId × Bool)
all_newly_decided quorums entries before = filter_map (decided_since quorums entries) before

abbrev pub is_commit_decided : Option Bool → Bool
is_commit_decided (Some is_commit) = is_commit
is_commit_decided None = false

abbrev pub is_abort_decided : Option Bool → Bool
is_abort_decided (Some is_commit) = not is_commit
is_abort_decided None = false

-- a count that rises by one, and stands still at 2^32 - 1
abbrev pub next_decided_count : ℕ → ℕ
next_decided_count n = min (n + 1) (2 ^ 32 - 1)

-- one transaction more that ended so
abbrev pub with_decided : Totals → Option Bool → Totals
with_decided totals (Some true) = record totals { commits = next_decided_count totals.commits }
with_decided totals (Some false) = record totals { aborts = next_decided_count totals.aborts }
with_decided totals None = record totals { undecided = next_decided_count totals.undecided }

-- how many of these transactions ended in each way
abbrev pub totals_of : (TxId → Option Bool) → List TxId → Totals
totals_of ending txs = record {
  commits = number_of (λ tx. is_commit_decided (ending tx)) txs;
  aborts = number_of (λ tx. is_abort_decided (ending tx)) txs;
  undecided = number_of (λ tx. not (is_some (ending tx))) txs;
}

-- the endings that an entry brings
abbrev pub entry_decisions : Sizes → Entry → List Entry → List (TxId × Bool)
entry_decisions quorums entry before = map (λ e. (e.0, is_commit e.1)) (new_outcomes quorums entry before)
