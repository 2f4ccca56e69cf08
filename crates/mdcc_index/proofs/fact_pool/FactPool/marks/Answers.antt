use Rattle.std.proofs.Common.{◌≡◌, suc, sym, ◌∙◌, arith}
use Rattle.std.specs.Prelude.{◌-◌}
use Rattle.mdcc_def_protocol.specs.Plain.{plain_mark_after}
use Rattle.mdcc_theorem_fact_folds.proofs.Present.{place-steps}
use Rattle.mdcc_index.proofs.Marked.{further-none, further-some}
use Rattle.mdcc_index.proofs.fact_pool.FactPool.marks.Goals as goal

pub loop-left-init : goal.loop-left-init
loop-left-init c facts kept = place-steps facts c.args.key.now c.args.version c.args.below c.args.place

pub loop-left-preserved : goal.loop-left-preserved
loop-left-preserved c facts kept =
    let less = c.loop-left.left - 1 in
    let more : c.loop-left.left ≡ suc less = omega arith in
    c.loop-left.invariant facts kept
    ∙ further-some (plain_mark_after facts c.args.key.now c.args.version c.args.below) c.loop-left.last c.loop-left.left less c.in-Some.tx more
    (sym (c.tx_after.ensures facts kept) ∙ c.in-Some.is)

pub returns-in-None : goal.returns-in-None
returns-in-None c facts kept =
    let less = c.loop-left.left - 1 in
    let more : c.loop-left.left ≡ suc less = omega arith in
    sym (c.loop-left.invariant facts kept
    ∙ further-none (plain_mark_after facts c.args.key.now c.args.version c.args.below) c.loop-left.last c.loop-left.left less more
    (sym (c.tx_after.ensures facts kept) ∙ c.in-None.is))
