use Rattle.std.proofs.Common.{None, ap, sym, ◌∙◌}
use Rattle.std.specs.Prelude.{if◌then◌else◌}
use Rattle.mdcc_def_protocol.specs.Facts.{first_choice_voted}
use Rattle.mdcc_given_back.specs.Counted.{without_floors}
use Rattle.mdcc_facts_kept.proofs.Asked.{choice_asked}
use Rattle.mdcc_facts_kept.proofs.kept_facts.KeptFacts.choice_of.Goals as goal

pub returns-then-is_forgotten : goal.returns-then-is_forgotten
returns-then-is_forgotten c facts kept =
    sym
    (choice_asked c.args.self.now facts kept c.args.key.now c.args.version c.args.tx
    ∙ ap (λ b. if b then None else first_choice_voted (without_floors kept.rest) c.args.key.now c.args.version c.args.tx) (sym (c.is_forgotten.ensures facts kept) ∙ c.if-is_forgotten.true))

pub returns-else-is_forgotten : goal.returns-else-is_forgotten
returns-else-is_forgotten c facts kept =
    c.choice_of.ensures (without_floors kept.rest) (c.rest.ensures.rest facts kept)
    ∙ sym
    (choice_asked c.args.self.now facts kept c.args.key.now c.args.version c.args.tx
    ∙ ap (λ b. if b then None else first_choice_voted (without_floors kept.rest) c.args.key.now c.args.version c.args.tx) (sym (c.is_forgotten.ensures facts kept) ∙ c.if-is_forgotten.false))
