-- A history of one centre in two lives: in the first it commits what its client began, in the second it is killed as soon as it has booted.
use Rattle.std.specs.Prelude.{List, None, Some, [], false, map, suc, zero, ℕ, ◌++◌, ◌∷◌}
use Rattle.mdcc_def_messages.specs.declared.facts.Fact.{Fact}
use Rattle.mdcc_option.specs.declared.choices.Outcome.{Outcome}
use Rattle.mdcc_theorem_server_runs.specs.Told.{server_lines_in}
use Rattle.mdcc_def_server_runs.specs.Acts.{Act}
use Rattle.mdcc_def_server_runs.specs.Turns.{Given}
use Rattle.mdcc_def_server_runs.specs.declared.lines.ServerLine.{ServerLine}
use Rattle.mdcc_theorem_clusters.specs.Crash.{voted}
use Rattle.mdcc_theorem_clusters.specs.Example.{asked, asked_tx, config, inserting_choice, proposal_datagram, vote_datagram}
use Rattle.mdcc_theorem_clusters.specs.Traces.{acts_of}
use Rattle.mdcc_theorem_server_lives.specs.Histories.{Present, Step}
use Rattle.mdcc_theorem_server_lives.specs.Lives.{Life}

-- its client's request, its own proposal and its own vote
abbrev pub given : List Given
given =
    record { own = None; asked = Some asked; waits = false }
    ∷ record { own = Some proposal_datagram; asked = None; waits = false }
    ∷ record { own = Some vote_datagram; asked = None; waits = false } ∷ []

abbrev pub acts : List Act
acts = acts_of config (record { centre = 1; facts = [] }) given

-- it heard that the transaction committed, after its own vote and its boot
abbrev pub left_log : List Fact
left_log = Fact.Heard asked_tx (Outcome.Commit (inserting_choice ∷ [])) ∷ voted ∷ Fact.Booted 1 ∷ []

abbrev pub first_life : Life
first_life = record { centre = 1; log = []; acts = acts; kept = left_log }

-- it appended its boot, and was killed before its endpoints were bound
abbrev pub second_life : Life
second_life = record { centre = 1; log = left_log; acts = Act.Append 1 (Fact.Booted 2 ∷ []) ∷ []; kept = Fact.Booted 2 ∷ left_log }

-- its next acts, so many
abbrev pub does : ℕ → List Step
does zero = []
does (suc n) = Step.Does 1 ∷ does n

abbrev pub steps : List Step
steps = Step.Begins first_life ∷ (does 20 ++ (Step.Ends 1 ∷ Step.Begins second_life ∷ (does 1 ++ Step.Ends 1 ∷ [])))

-- the lines that were printed, the newest first
abbrev pub lines_printed : Present → List ServerLine
lines_printed present = server_lines_in (map (λ one. one.1) present.done)
