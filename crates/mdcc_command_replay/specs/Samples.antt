-- A sample: the schedule of a shop is replayed, and the numbers of the replay are printed.
use Rattle.std.specs.Prelude.{List, None, Option, Some, [], codes, decimal, is_some, length, not, ℕ, ◌++◌, ◌≡◌}
use Rattle.std.specs.String.{string_bytes}
use Rattle.mdcc_base.specs.Counts.{number_of}
use Rattle.mdcc_def_language.specs.Errors.{ReplayFault}
use Rattle.mdcc_def_ledger.specs.Ledger.{txs_begun}
use Rattle.mdcc_def_protocol.specs.Marks.{is_abort}
use Rattle.mdcc_sample.specs.Texts.{sample_text}
use Rattle.mdcc_def_simulation.specs.Replay.{Replay, replay_of}
use Rattle.mdcc_def_simulation.specs.Runs.{is_commit_found, outcomes_of}
use Rattle.mdcc_def_simulation.specs.State.{World}
use Rattle.mdcc_command_replay.specs.Refusals.{fault_of}
use Rattle.mdcc_command_replay.specs.Writing.{StandsLast}
use Rattle.mdcc_command_replay.specs.declared.reports.Ended.{Ended}
use Rattle.mdcc_command_replay.specs.declared.reports.Ended.TheVariants.{Early, Whole}
use Rattle.mdcc_command_replay.specs.declared.samples.Numbers.{Numbers}
use Rattle.mdcc_command_replay.specs.declared.samples.Told.{Told}
use Rattle.mdcc_command_replay.specs.declared.samples.Told.TheVariants.{Lines, Refused}

-- how many transactions of a world were begun, how many of them committed, aborted and did neither, how many reads were made and how many
-- messages sent
abbrev pub numbers_of : World → Numbers
numbers_of w =
    let outcomes = outcomes_of w in
    record {
      begun = length (txs_begun w.ledger);
      commits = number_of is_commit_found outcomes;
      aborts = number_of is_abort outcomes;
      undecided = number_of (λ o. not (is_some o)) outcomes;
      reads = length w.reads;
      messages = length w.sent;
    }

-- how the transactions ended
abbrev pub endings_text : Numbers → List ℕ
endings_text n =
    codes "begun " ++ decimal n.begun ++ codes " commits " ++ decimal n.commits ++ codes " aborts " ++ decimal n.aborts
    ++ codes " open " ++ decimal n.undecided

-- what was read and sent
abbrev pub traffic_text : Numbers → List ℕ
traffic_text n = codes " reads " ++ decimal n.reads ++ codes " messages " ++ decimal n.messages ++ codes "\n"

abbrev pub sample_numbers_text : Numbers → List ℕ
sample_numbers_text n = endings_text n ++ traffic_text n

abbrev pub shop_text : ℕ → ℕ → ℕ → List ℕ
shop_text seed items orders = codes "sample " ++ decimal seed ++ codes " " ++ decimal items ++ codes " " ++ decimal orders ++ codes "\n"

-- the two lines, where the replay came to its end
abbrev pub sample_lines_by : List ℕ → Option ReplayFault → Option World → List ℕ
sample_lines_by first None (Some world) = first ++ sample_numbers_text (numbers_of world)
sample_lines_by first fault world = []

-- a replay of which the two lines are written in place of the report
abbrev pub told_in : ℕ → ℕ → ℕ → Replay → Replay
told_in seed items orders replay = record replay { text = sample_lines_by (shop_text seed items orders) replay.fault replay.world }

-- that of the schedule of this shop
unfoldable pub sample_of : ℕ → ℕ → ℕ → Replay
sample_of seed items orders = told_in seed items orders (replay_of (sample_text seed items orders))

-- how a replay of which nothing is kept ended
abbrev pub EndsAs : {W : Type 0} → (W → World → Type 0) → Replay → Ended W → Type 0
EndsAs stands whole (Whole world) = (whole.fault ≡ None) × StandsLast (stands world) whole
EndsAs stands whole (Early refusal) = whole.fault ≡ Some (fault_of refusal)

-- what is told of a replay
abbrev pub IsReplayTold : Replay → Told → Type 0
IsReplayTold whole (Lines text) = (whole.fault ≡ None) × (string_bytes text ≡ whole.text)
IsReplayTold whole (Refused refusal) = (whole.fault ≡ Some (fault_of refusal)) × (whole.text ≡ [])
