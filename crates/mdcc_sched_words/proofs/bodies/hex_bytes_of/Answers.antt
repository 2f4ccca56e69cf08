use Rattle.std.proofs.Common.{arith, rules, length-append, length-drop, ◌∷◌, []}
use Rattle.mdcc_sched_words.proofs.HexBodies.{hex_read}
use Rattle.mdcc_sched_words.proofs.bodies.hex_bytes_of.Goals as goal

pub loop-rest-preserved : goal.loop-rest-preserved
loop-rest-preserved c = record {
  same = rw (c.push.ensures, c.split_at.ensures.back) (hex_read _ c.loop-rest.bytes c.in_ok-hex_byte_of.field-0 c.loop-rest.rest.now c.loop-rest-test.true c.loop-rest.invariant.same (search rules));
  size = rw (c.push.ensures, c.split_at.ensures.back, length-append c.loop-rest.bytes (c.in_ok-hex_byte_of.field-0 ∷ []), length-drop 2 c.loop-rest.rest.now) (omega (arith, c.loop-rest.invariant.size, c.loop-rest-test.true));
}
