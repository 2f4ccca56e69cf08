use Rattle.std.proofs.Common.{◌≡◌, ap, false, not, sym, true, ◌&&◌, ◌∙◌}
use Rattle.mdcc_def_protocol.specs.Facts.{heard_of, is_finished, is_past}
use Rattle.mdcc_cells_marked.specs.Marks.{has_open_mark}
use Rattle.mdcc_given_back.specs.Counted.{without_floors}
use Rattle.mdcc_facts_kept.proofs.Asked.{idle_asked}
use Rattle.mdcc_facts_kept.proofs.kept_facts.KeptFacts.is_idle.Goals as goal

pub returns-then-finished : goal.returns-then-finished
returns-then-finished c facts kept =
    let finished : is_finished facts c.args.tx ≡ true = sym (c.finished.ensures.value facts kept) ∙ c.if-finished.true in
    c.is_unasked.ensures facts kept
    ∙ ap (λ b. b && (is_past facts (heard_of (without_floors kept.rest) c.args.tx) && not (has_open_mark (without_floors kept.rest) c.args.tx))) (sym finished)
    ∙ idle_asked c.args.self.now facts kept c.args.tx

pub returns-else-finished : goal.returns-else-finished
returns-else-finished c facts kept =
    let unfinished : is_finished facts c.args.tx ≡ false = sym (c.finished.ensures.value facts kept) ∙ c.if-finished.false in
    c.if-finished.false
    ∙ ap (λ b. b && (is_past facts (heard_of (without_floors kept.rest) c.args.tx) && not (has_open_mark (without_floors kept.rest) c.args.tx))) (sym unfinished)
    ∙ idle_asked c.args.self.now facts kept c.args.tx
