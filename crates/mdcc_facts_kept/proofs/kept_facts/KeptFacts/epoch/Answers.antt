use Rattle.std.proofs.Common.{◌∙◌}
use Rattle.mdcc_given_back.specs.Counted.{without_floors}
use Rattle.mdcc_facts_kept.proofs.Asked.{epoch_asked}
use Rattle.mdcc_facts_kept.proofs.kept_facts.KeptFacts.epoch.Goals as goal

pub returns : goal.returns
returns c facts kept = c.epoch.ensures (without_floors kept.rest) (c.rest.ensures.rest facts kept) ∙ epoch_asked c.args.self.now facts kept
