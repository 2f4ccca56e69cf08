use Rattle.std.proofs.Common.{◌∙◌, sym}
use Rattle.mdcc_audit.specs.Sayings.{say_mark}
use Rattle.mdcc_audit.proofs.Walks.{fold-next}
use Rattle.mdcc_audit.proofs.sayings.say_marks.Goals as goal

pub loop-i-preserved : goal.loop-i-preserved
loop-i-preserved c =
    let one = say_mark c.args.place.now c.args.key.now c.args.version c.args.ballot.now in
    rw (c.in_ok-say_mark.ensures, c.in_vote-subject.ensures)
    (sym (fold-next one _ c.args.options.now c.loop-i.i _ c.at-tx.ensures) ∙ c.loop-i.invariant)
