use Rattle.std.proofs.Common.{refl}
use Rattle.mdcc_node.proofs.Ending.{propose-adds}
use Rattle.mdcc_node.proofs.node.Node.take.Goals as goal

pub returns-in_ok-propose-in-Propose-clause-plan : goal.returns-in_ok-propose-in-Propose-clause-plan
returns-in_ok-propose-in-Propose-clause-plan g c =
    let m = c.in-Propose in
    record {
      answer = λ cluster me facts volatile known.
          rw m.is (rw (c.in_ok-propose-in-Propose.ensures.plan facts volatile known.store, known.of, known.at, c.number.ensures.value) refl);
      left = λ cluster me facts volatile known. rw m.is (rw (propose-adds me facts volatile c.args.from cluster m.choice).keeps known);
      store = refl;
    }
