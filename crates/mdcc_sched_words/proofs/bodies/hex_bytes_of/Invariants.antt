use Rattle.std.proofs.Common.{◌≡◌, ◌+◌, ◌*◌, length}
use Rattle.mdcc_def_language.specs.Words.{hex_bytes_of}
use Rattle.mdcc_sched_words.proofs.Onto.{onto_some}
use Rattle.mdcc_sched_words.proofs.bodies.hex_bytes_of.Given as goal

abbrev pub invariant-loop-rest : goal.invariant-loop-rest
invariant-loop-rest l = record {
  same : onto_some l.bytes (hex_bytes_of l.rest) ≡ hex_bytes_of l.word;
  size : 2 * length l.bytes + length l.rest ≡ length l.word;
}

abbrev pub decreases-loop-rest : goal.decreases-loop-rest
decreases-loop-rest l = length l.rest
