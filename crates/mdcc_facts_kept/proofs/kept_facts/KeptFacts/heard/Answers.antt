use Rattle.std.proofs.Common.{None, ap, sym, ◌∙◌}
use Rattle.std.specs.Prelude.{if◌then◌else◌}
use Rattle.mdcc_def_protocol.specs.Facts.{heard_of}
use Rattle.mdcc_given_back.specs.Counted.{without_floors}
use Rattle.mdcc_facts_kept.proofs.Asked.{heard_asked}
use Rattle.mdcc_facts_kept.proofs.kept_facts.KeptFacts.heard.Goals as goal

pub returns-then-is_idle : goal.returns-then-is_idle
returns-then-is_idle c facts kept =
    sym
    (heard_asked c.args.self.now facts kept c.args.tx
    ∙ ap (λ b. if b then None else heard_of (without_floors kept.rest) c.args.tx) (sym (c.is_idle.ensures facts kept) ∙ c.if-is_idle.true))

pub returns-else-is_idle : goal.returns-else-is_idle
returns-else-is_idle c facts kept =
    c.heard.ensures (without_floors kept.rest) (c.rest.ensures.rest facts kept)
    ∙ sym
    (heard_asked c.args.self.now facts kept c.args.tx
    ∙ ap (λ b. if b then None else heard_of (without_floors kept.rest) c.args.tx) (sym (c.is_idle.ensures facts kept) ∙ c.if-is_idle.false))
