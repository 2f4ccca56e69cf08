use Rattle.std.proofs.Common.{ap, sym, ◌∙◌}
use Rattle.std.specs.Option.{option_or}
use Rattle.mdcc_cells_delta_walk.specs.Steps.{amounts_of}
use Rattle.mdcc_cells_delta_walk.proofs.Found.{amounts-are-found}
use Rattle.mdcc_cells_delta_walk.proofs.Noted.{older-none, older-some}
use Rattle.mdcc_cells_delta_walk.proofs.steps.OlderAmountsFactStep.take.Goals as goal

pub returns-then-is_some : goal.returns-then-is_some
returns-then-is_some c = λ fact fits is.
    let s = c.args.self.now in
    ap (λ found. record s { found = found })
    (older-some c.amounts_of-older.result s.found (sym c.is_some.ensures ∙ c.if-is_some.true)
    ∙ ap (λ older. option_or older s.found) (c.amounts_of-older.ensures ∙ ap (amounts_of s.key s.version s.tx) (c.start-cursor.ensures ∙ is) ∙ amounts-are-found s.key s.version s.tx fact fits))

pub returns-else-is_some : goal.returns-else-is_some
returns-else-is_some c = λ fact fits is.
    let s = c.args.self.now in
    ap (λ found. record s { found = found })
    (older-none c.amounts_of-older.result s.found (sym c.is_some.ensures ∙ c.if-is_some.false)
    ∙ ap (λ older. option_or older s.found) (c.amounts_of-older.ensures ∙ ap (amounts_of s.key s.version s.tx) (c.start-cursor.ensures ∙ is) ∙ amounts-are-found s.key s.version s.tx fact fits))
