-- The laws are the lemmas.
use Rattle.mdcc_theorem_trace_states.specs.Sound.{IsSound}
use Rattle.mdcc_theorem_clusters.proofs.Answering.{turn-answers}
use Rattle.mdcc_theorem_clusters.proofs.Pending.{goes-out, turn-pends}
use Rattle.mdcc_theorem_clusters.proofs.turns_make_groups.Goals as goal
use Rattle.mdcc_theorem_clusters.specs.Asked.{WasReceived}

pub returns-clause-turns : goal.returns-clause-turns
returns-clause-turns c = λ config es a volatile inputs site given p. turn-pends config es a volatile inputs site given p

pub returns-clause-out : goal.returns-clause-out
returns-clause-out c = λ good config done es a volatile inputs site group p answers. goes-out IsSound good config (WasReceived done) es a volatile inputs site group p answers

pub returns-clause-answers : goal.returns-clause-answers
returns-clause-answers c = λ laws others config done es a node inputs site given come w h. turn-answers laws others config (WasReceived done) es a node inputs site given come w h
