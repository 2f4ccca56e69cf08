use Rattle.std.proofs.Common.{◌≤◌, subst, ◌∙◌}
use Rattle.mdcc_given_back.specs.Counted.{without_floors}
use Rattle.mdcc_facts_kept.proofs.Asked.{entries_asked}
use Rattle.mdcc_facts_kept.proofs.kept_facts.KeptFacts.entries.Goals as goal

pub returns-else-version-current : goal.returns-else-version-current
returns-else-version-current c facts kept =
    c.entries.ensures (without_floors kept.rest) (c.rest.ensures.rest facts kept)
    ∙ entries_asked c.args.self.now facts kept c.args.key.now c.args.version (subst (λ n. n ≤ c.args.version) (c.current.ensures facts kept) c.if-version-current.false)
