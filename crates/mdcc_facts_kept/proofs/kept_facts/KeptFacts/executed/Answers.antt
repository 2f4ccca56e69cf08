use Rattle.std.proofs.Common.{ap, ◌∙◌}
use Rattle.mdcc_given_back.specs.Counted.{without_floors}
use Rattle.mdcc_struct.specs.Maps.{txs_of}
use Rattle.mdcc_facts_kept.proofs.Asked.{executed_asked}
use Rattle.mdcc_facts_kept.proofs.kept_facts.KeptFacts.executed.Goals as goal

pub returns : goal.returns
returns c facts kept = c.executed.ensures (without_floors kept.rest) (c.rest.ensures.rest facts kept) ∙ ap txs_of (executed_asked c.args.self.now facts kept c.args.key.now)
