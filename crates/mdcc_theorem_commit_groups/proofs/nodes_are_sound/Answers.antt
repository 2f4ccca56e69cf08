-- The laws are the lemmas.
use Rattle.mdcc_theorem_trace_states.specs.Sound.{IsSound}
use Rattle.mdcc_theorem_commit_groups.proofs.Nodes.{events-sound, start-sound}
use Rattle.mdcc_theorem_commit_groups.specs.Nodes.{no_nodes}
use Rattle.mdcc_theorem_commit_groups.proofs.nodes_are_sound.Goals as goal

pub returns-clause-events : goal.returns-clause-events
returns-clause-events c = λ good cluster nodes events h g. events-sound IsSound cluster good nodes events h g

pub returns-clause-all : goal.returns-clause-all
returns-clause-all c = λ good cluster sizes events g. events-sound IsSound cluster good no_nodes events (start-sound IsSound cluster good sizes) g
