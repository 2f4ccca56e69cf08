use Rattle.std.proofs.Common.{Option, ap, ◌∙◌}
use Rattle.std.specs.Option.{option_or}
use Rattle.mdcc_option.specs.declared.choices.Choice.{Choice}
use Rattle.mdcc_cells_vote_walk.specs.Older.{choice_in_bytes}
use Rattle.mdcc_cells_vote_walk.proofs.Answered.{choice-in-again}
use Rattle.mdcc_cells_vote_walk.proofs.older.OlderChoiceFactStep.take.Goals as goal

pub returns : goal.returns
returns c =
    let s = c.args.self.now in
    λ fact fits is.
    ap (λ (found : Option Choice). record s { found = found })
    (c.keep_older.ensures
    ∙ ap (λ (older : Option Choice). option_or older s.found) (c.choice_in-choice.ensures ∙ ap (choice_in_bytes s.key s.version s.tx) is ∙ choice-in-again s.key s.version s.tx fact fits))
