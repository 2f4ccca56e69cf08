use Rattle.std.proofs.Common.{◌∙◌, sym}
use Rattle.mdcc_audit.specs.Sayings.{say_accepted}
use Rattle.mdcc_audit.proofs.Walks.{fold-next}
use Rattle.mdcc_audit.proofs.sayings.say_all_accepted.Goals as goal

pub loop-i-preserved : goal.loop-i-preserved
loop-i-preserved c =
    rw c.in_ok-say_accepted.ensures
    (sym (fold-next (say_accepted c.args.place.now) _ c.args.options.now c.loop-i.i _ c.at-tx.ensures) ∙ c.loop-i.invariant)
