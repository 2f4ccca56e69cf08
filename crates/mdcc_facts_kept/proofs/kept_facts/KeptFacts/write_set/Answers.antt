use Rattle.std.proofs.Common.{None, ap, sym, ◌∙◌}
use Rattle.std.specs.Prelude.{if◌then◌else◌}
use Rattle.mdcc_struct.specs.Maps.{value_of}
use Rattle.mdcc_def_protocol.specs.Plain.{plain_unresolved_of}
use Rattle.mdcc_given_back.specs.Counted.{without_floors}
use Rattle.mdcc_facts_kept.proofs.Asked.{write_set_asked}
use Rattle.mdcc_facts_kept.proofs.kept_facts.KeptFacts.write_set.Goals as goal

pub returns-then-finished : goal.returns-then-finished
returns-then-finished c facts kept =
    sym
    (write_set_asked c.args.self.now facts kept c.args.tx
    ∙ ap (λ b. if b then None else value_of (plain_unresolved_of (without_floors kept.rest)) c.args.tx) (sym (c.finished.ensures.value facts kept) ∙ c.if-finished.true))

pub returns-else-finished : goal.returns-else-finished
returns-else-finished c facts kept =
    c.write_set.ensures (without_floors kept.rest) (c.rest.ensures.rest facts kept)
    ∙ sym
    (write_set_asked c.args.self.now facts kept c.args.tx
    ∙ ap (λ b. if b then None else value_of (plain_unresolved_of (without_floors kept.rest)) c.args.tx) (sym (c.finished.ensures.value facts kept) ∙ c.if-finished.false))
