use Rattle.std.proofs.Common.{Option, ap, ◌∙◌}
use Rattle.std.specs.Option.{option_or}
use Rattle.mdcc_option.specs.declared.choices.Mark.{Mark}
use Rattle.mdcc_cells_vote_walk.specs.Older.{mark_in}
use Rattle.mdcc_cells_vote_walk.proofs.Answered.{mark-in-again}
use Rattle.mdcc_cells_vote_walk.proofs.older.OlderMarkFactStep.take.Goals as goal

pub returns : goal.returns
returns c =
    let s = c.args.self.now in
    λ fact fits is.
    ap (λ (found : Option Mark). record s { found = found })
    (c.keep_older.ensures
    ∙ ap (λ (older : Option Mark). option_or older s.found) (c.mark_in-mark.ensures ∙ ap (mark_in s.key s.version s.ballot s.tx) is ∙ mark-in-again s.key s.version s.ballot s.tx fact fits))
