use Rattle.std.proofs.Common.{◌≡◌, ap, false, is_some, sym, true, ◌||◌, ◌∙◌}
use Rattle.mdcc_struct.specs.Maps.{value_of}
use Rattle.mdcc_def_protocol.specs.Facts.{is_finished, votes_of}
use Rattle.mdcc_given_back.specs.Counted.{without_floors}
use Rattle.mdcc_facts_kept.proofs.Asked.{past_asked}
use Rattle.mdcc_facts_kept.proofs.kept_facts.KeptFacts.is_past_mark.Goals as goal

pub returns-then-is_voted : goal.returns-then-is_voted
returns-then-is_voted c facts kept =
    let voted : is_some (value_of (votes_of (without_floors kept.rest) c.args.key.now c.args.version c.args.ballot) c.args.tx) ≡ true =
    sym (c.is_voted.ensures (without_floors kept.rest) (c.rest.ensures.rest facts kept)) ∙ c.if-is_voted.true in
    c.if-is_voted.true ∙ ap (λ b. b || is_finished facts c.args.tx) (sym voted) ∙ past_asked c.args.self.now facts kept c.args.key.now c.args.version c.args.ballot c.args.tx

pub returns-else-is_voted : goal.returns-else-is_voted
returns-else-is_voted c facts kept =
    let unvoted : is_some (value_of (votes_of (without_floors kept.rest) c.args.key.now c.args.version c.args.ballot) c.args.tx) ≡ false =
    sym (c.is_voted.ensures (without_floors kept.rest) (c.rest.ensures.rest facts kept)) ∙ c.if-is_voted.false in
    c.finished.ensures.value facts kept ∙ ap (λ b. b || is_finished facts c.args.tx) (sym unvoted)
    ∙ past_asked c.args.self.now facts kept c.args.key.now c.args.version c.args.ballot c.args.tx
