-- The laws are the lemmas.
use Rattle.mdcc_theorem_trace_states.specs.Sound.{IsSound}
use Rattle.mdcc_theorem_commit_groups.proofs.Booting.{boots}
use Rattle.mdcc_theorem_commit_groups.proofs.Durable.{durable}
use Rattle.mdcc_theorem_commit_groups.proofs.Lasts.{last}
use Rattle.mdcc_theorem_commit_groups.proofs.groups_stand.Goals as goal

pub returns : goal.returns
returns c = λ good. record { durable = durable IsSound good; last = last IsSound; boots = boots IsSound good }
