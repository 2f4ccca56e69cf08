use Rattle.std.proofs.Common.{◌∙◌}
use Rattle.mdcc_given_back.specs.Counted.{without_floors}
use Rattle.mdcc_facts_kept.proofs.Asked.{crowding_asked}
use Rattle.mdcc_facts_kept.proofs.kept_facts.KeptFacts.would_crowd.Goals as goal

pub returns : goal.returns
returns c facts kept = c.would_crowd.ensures (without_floors kept.rest) (c.rest.ensures.rest facts kept) ∙ crowding_asked c.args.self.now facts kept c.args.fact.now
