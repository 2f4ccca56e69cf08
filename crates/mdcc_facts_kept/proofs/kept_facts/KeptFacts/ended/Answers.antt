use Rattle.std.proofs.Common.{None, ap, sym, ◌∙◌}
use Rattle.std.specs.Prelude.{if◌then◌else◌}
use Rattle.mdcc_def_protocol.specs.Plain.{plain_ended_of}
use Rattle.mdcc_given_back.specs.Counted.{without_floors}
use Rattle.mdcc_facts_kept.proofs.Asked.{ended_asked}
use Rattle.mdcc_facts_kept.proofs.kept_facts.KeptFacts.ended.Goals as goal

pub returns-then-is_idle : goal.returns-then-is_idle
returns-then-is_idle c facts kept =
    sym
    (ended_asked c.args.self.now facts kept c.args.tx
    ∙ ap (λ b. if b then None else plain_ended_of (without_floors kept.rest) c.args.tx) (sym (c.is_idle.ensures facts kept) ∙ c.if-is_idle.true))

pub returns-else-is_idle : goal.returns-else-is_idle
returns-else-is_idle c facts kept =
    c.ended.ensures.ended (without_floors kept.rest) (c.rest.ensures.rest facts kept)
    ∙ sym
    (ended_asked c.args.self.now facts kept c.args.tx
    ∙ ap (λ b. if b then None else plain_ended_of (without_floors kept.rest) c.args.tx) (sym (c.is_idle.ensures facts kept) ∙ c.if-is_idle.false))
