use Rattle.std.proofs.Common.{◌≡◌, sym, ◌∙◌}
use Rattle.mdcc_leader.proofs.Keeping.{Keeps-extended, Keeps-waiting}
use Rattle.mdcc_leader.proofs.led.Led.take.Goals as goal

pub returns-then-is_covered-clause-ok : goal.returns-then-is_covered-clause-ok
returns-then-is_covered-clause-ok g c facts leading holds kept =
    rw (c.in_ok-extend.ensures.ok facts holds)
    (Keeps-extended c.args.cluster.now c.args.centre c.args.epoch facts leading c.args.claim.now c.args.self.now kept
    (sym c.is_refused.ensures ∙ c.if-is_refused.false) (sym c.is_covered.ensures ∙ c.if-is_covered.true))

pub returns-then-is_waiting-clause-ok : goal.returns-then-is_waiting-clause-ok
returns-then-is_waiting-clause-ok g c facts leading holds kept =
    rw c.in_ok-await_claim.ensures.ok
    (Keeps-waiting c.args.cluster.now c.args.centre c.args.epoch facts leading c.args.claim.now c.args.self.now kept
    (sym c.is_refused.ensures ∙ c.if-is_refused.false) (sym c.is_covered.ensures ∙ c.if-is_covered.false) (sym c.is_waiting.ensures ∙ c.if-is_waiting.true))
