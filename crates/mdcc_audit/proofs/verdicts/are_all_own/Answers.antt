use Rattle.std.proofs.Common.{arith}
use Rattle.std.proofs.lemmas.Bool.Decides.{nat_tests}
use Rattle.mdcc_audit.proofs.Own.{lengths-apart}
use Rattle.mdcc_audit.proofs.verdicts.are_all_own.Goals as goal

pub returns-then-places-choices : goal.returns-then-places-choices
returns-then-places-choices c =
    lengths-apart c.args.tx.now c.args.places.now c.args.choices.now (grind (arith, nat_tests, c.if-places-choices.true))
