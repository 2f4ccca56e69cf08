use Rattle.std.proofs.Common.{sym, ◌∙◌}
use Rattle.mdcc_given_back.specs.Counted.{without_floors}
use Rattle.mdcc_facts_kept.proofs.Asked.{count_asked}
use Rattle.mdcc_facts_kept.proofs.kept_facts.KeptFacts.count_past.Goals as goal

pub returns-else-is_one_finished : goal.returns-else-is_one_finished
returns-else-is_one_finished c facts kept =
    c.count_voted.ensures (without_floors kept.rest) (c.rest.ensures.rest facts kept)
    ∙ count_asked c.args.self.now facts kept c.args.key.now c.args.version c.args.ballot c.args.options.now (sym (c.is_one_finished.ensures facts kept) ∙ c.if-is_one_finished.false)
