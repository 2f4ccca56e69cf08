use Rattle.std.proofs.Common.{◌≡◌, ◌≤◌, IfOk, ap, subst, sym, ◌∙◌}
use Rattle.mdcc_struct.specs.declared.options.Options.{Options}
use Rattle.mdcc_def_protocol.specs.Facts.{without_forgotten}
use Rattle.mdcc_given_back.specs.Counted.{without_floors}
use Rattle.mdcc_facts_kept.proofs.Asked.{shown_asked}
use Rattle.mdcc_facts_kept.proofs.Gathered.{shown-held}
use Rattle.mdcc_facts_kept.proofs.kept_facts.KeptFacts.votes.Goals as goal

pub returns-then-version-current : goal.returns-then-version-current
returns-then-version-current c facts kept =
    subst (λ (m : Options). IfOk c.without_forgotten.result (λ (votes : Options). votes ≡ m))
    (ap (without_forgotten facts c.args.key.now c.args.version) (c.in_ok-votes.ensures (without_floors kept.rest) (c.rest.ensures.rest facts kept))
    ∙ sym (shown_asked c.args.self.now facts kept c.args.key.now c.args.version c.args.ballot))
    (c.without_forgotten.ensures facts kept)

pub returns-else-version-current : goal.returns-else-version-current
returns-else-version-current c facts kept =
    c.in_ok-votes.ensures (without_floors kept.rest) (c.rest.ensures.rest facts kept)
    ∙ shown-held c.args.self.now facts kept c.args.key.now c.args.version c.args.ballot (subst (λ n. n ≤ c.args.version) (c.current.ensures facts kept) c.if-version-current.false)
