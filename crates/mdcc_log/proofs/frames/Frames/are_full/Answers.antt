use Rattle.std.proofs.Common.{IsTrue, subst, arith}
use Rattle.mdcc_log.specs.Frames.{OpenAreas}
use Rattle.mdcc_log.specs.Groups.{AreFull}
use Rattle.mdcc_log.proofs.Groups.{copy_full, count_within, within_limit}
use Rattle.mdcc_log.proofs.frames.Frames.are_full.Goals as goal

pub overflow_sub-frames : goal.overflow_sub-frames
overflow_sub-frames c =
    let within = within_limit c.self.inside.size c.size_of_frames-frames.result 0 c.passes_limit-2.result c.if-passes_limit-2.false c.passes_limit-2.ensures.1 in
    count_within c.args.payloads.now c.size_of_frames-frames.result c.size_of_frames-frames.ensures (omega (arith, within))

pub returns-else-self : goal.returns-else-self
returns-else-self c =
    let first = within_limit c.saturating_add.result c.size_of_frames-frames.result 9 c.passes_limit.result c.if-passes_limit.false c.passes_limit.ensures.1 in
    let second = within_limit c.self.inside.size c.size_of_frames-frames.result 0 c.passes_limit-2.result c.if-passes_limit-2.false c.passes_limit-2.ensures.1 in
    subst (λ (v : OpenAreas). (IsTrue c.passes_limit-else-self.result → AreFull v c.args.payloads.now) × (AreFull v c.args.payloads.now → IsTrue c.passes_limit-else-self.result)) c.self.view_is
    (copy_full (record {
      centre = c.self.inside.centre;
      area = c.self.inside.area;
      every = c.self.inside.every;
      generation = c.self.inside.generation;
      count = c.self.inside.count;
      start = c.self.inside.start;
      tail = c.self.inside.tail;
      body = c.self.inside.body;
      size = c.self.inside.size;
      spare = c.self.inside.spare;
    }) c.args.payloads.now c.size_of_frames-frames.result (IsTrue c.passes_limit-else-self.result) c.size_of_frames-frames.ensures (grind (arith, first, c.saturating_add.ensures)) (omega (arith, second)) (grind (arith, c.if-is_due.true, c.saturating_add-2.ensures)) c.if-self.false c.passes_limit-else-self.ensures)
