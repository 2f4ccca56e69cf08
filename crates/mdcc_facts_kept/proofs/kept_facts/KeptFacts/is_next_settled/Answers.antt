use Rattle.std.proofs.Common.{◌+◌, arith, sym}
use Rattle.mdcc_facts_kept.proofs.Through.{none-large}
use Rattle.mdcc_facts_kept.proofs.kept_facts.KeptFacts.is_next_settled.Goals as goal

pub returns-then-seq-eq4294967295-clause-value : goal.returns-then-seq-eq4294967295-clause-value
returns-then-seq-eq4294967295-clause-value c facts kept from =
    sym (none-large c.args.self.now facts kept c.args.centre c.args.epoch (c.args.seq + 1) (omega (arith, from)) (omega (arith, c.if-seq-eq4294967295.true)))
