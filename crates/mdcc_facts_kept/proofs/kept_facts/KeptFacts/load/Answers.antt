use Rattle.std.proofs.Common.{◌∙◌}
use Rattle.mdcc_given_back.specs.Counted.{without_floors}
use Rattle.mdcc_facts_kept.proofs.VoidLeft.{load-kept}
use Rattle.mdcc_facts_kept.proofs.kept_facts.KeptFacts.load.Goals as goal

pub returns : goal.returns
returns c facts kept held =
    c.load_by.ensures (without_floors kept.rest) (c.rest.ensures.rest facts kept) ∙ load-kept c.args.self.now facts kept c.args.key.now c.args.version c.args.seen.now held
