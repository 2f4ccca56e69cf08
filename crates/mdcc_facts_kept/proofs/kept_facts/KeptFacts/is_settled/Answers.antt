use Rattle.std.proofs.Common.{◌≡◌, ap, false, sym, true, ◌||◌, ◌∙◌}
use Rattle.mdcc_def_protocol.specs.Facts.{is_finished, is_heard}
use Rattle.mdcc_given_back.specs.Counted.{without_floors}
use Rattle.mdcc_facts_kept.proofs.Asked.{settled_asked}
use Rattle.mdcc_facts_kept.proofs.kept_facts.KeptFacts.is_settled.Goals as goal

pub returns-then-is_heard : goal.returns-then-is_heard
returns-then-is_heard c facts kept =
    let heard : is_heard (without_floors kept.rest) c.args.tx ≡ true = sym (c.is_heard.ensures (without_floors kept.rest) (c.rest.ensures.rest facts kept)) ∙ c.if-is_heard.true in
    c.if-is_heard.true ∙ ap (λ b. b || is_finished facts c.args.tx) (sym heard) ∙ sym (settled_asked c.args.self.now facts kept c.args.tx)

pub returns-else-is_heard : goal.returns-else-is_heard
returns-else-is_heard c facts kept =
    let unheard : is_heard (without_floors kept.rest) c.args.tx ≡ false = sym (c.is_heard.ensures (without_floors kept.rest) (c.rest.ensures.rest facts kept)) ∙ c.if-is_heard.false in
    c.finished.ensures.value facts kept ∙ ap (λ b. b || is_finished facts c.args.tx) (sym unheard) ∙ sym (settled_asked c.args.self.now facts kept c.args.tx)
