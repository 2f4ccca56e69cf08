use Rattle.std.proofs.Common.{◌≡◌, ◌∷◌, true, false, ap, sym, ◌∙◌}
use Rattle.std.specs.List.{list_any}
use Rattle.std.specs.Prelude.{◌||◌}
use Rattle.mdcc_cells_delta_walk.specs.Steps.{has_live}
use Rattle.mdcc_cells_delta_walk.proofs.Summed.{read-first}
use Rattle.mdcc_cells_delta_walk.proofs.loads.is_live_in.Goals as goal

pub returns-then-has_live : goal.returns-then-has_live
returns-then-has_live c =
    let test = has_live c.args.instance.now.0 c.args.instance.now.1 c.args.tx.now in
    let whole : c.loop-cursor.walk ≡ c.in-Some.cursor ∷ c.read.new.self =
    read-first c.loop-cursor.walk c.in-Some.cursor c.in-Some.ensures.first ∙ ap (λ ts. c.in-Some.cursor ∷ ts) (sym c.read.ensures.rest) in
    let found : test c.in-Some.cursor ≡ true = sym c.has_live.ensures ∙ c.if-has_live.true in
    sym (ap (λ b. b || list_any test c.read.new.self) found) ∙ ap (list_any test) (sym whole) ∙ c.loop-cursor.invariant

pub loop-cursor-preserved : goal.loop-cursor-preserved
loop-cursor-preserved c =
    let test = has_live c.args.instance.now.0 c.args.instance.now.1 c.args.tx.now in
    let whole : c.loop-cursor.walk ≡ c.in-Some.cursor ∷ c.read.new.self =
    read-first c.loop-cursor.walk c.in-Some.cursor c.in-Some.ensures.first ∙ ap (λ ts. c.in-Some.cursor ∷ ts) (sym c.read.ensures.rest) in
    let other : test c.in-Some.cursor ≡ false = sym c.has_live.ensures ∙ c.if-has_live.false in
    sym (ap (λ b. b || list_any test c.read.new.self) other) ∙ ap (list_any test) (sym whole) ∙ c.loop-cursor.invariant
