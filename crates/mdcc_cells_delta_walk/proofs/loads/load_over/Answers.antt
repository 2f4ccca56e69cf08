use Rattle.std.proofs.Common.{◌≡◌, ◌∷◌, ap, sym, ◌∙◌}
use Rattle.mdcc_cells_delta_walk.specs.Entries.{left_in}
use Rattle.mdcc_cells_delta_walk.specs.Loads.{load_over, with_entries}
use Rattle.mdcc_cells_delta_walk.proofs.Summed.{read-first}
use Rattle.mdcc_cells_delta_walk.proofs.loads.load_over.Goals as goal

pub loop-cursor-preserved : goal.loop-cursor-preserved
loop-cursor-preserved g c =
    let seen = c.args.seen.now in
    let void = g.V.VoidTest.void c.args.void.now in
    let key = c.args.instance.now.0 in
    let version = c.args.instance.now.1 in
    let older = c.read.new.self in
    let whole : c.loop-cursor.walk ≡ c.in-Some.cursor ∷ older =
    read-first c.loop-cursor.walk c.in-Some.cursor c.in-Some.ensures.first ∙ ap (λ ts. c.in-Some.cursor ∷ ts) (sym c.read.ensures.rest) in
    ap (λ l. load_over seen void key version l older) (c.with_entries-load.ensures
    ∙ ap (λ e. with_entries seen void key version older c.loop-cursor.load (left_in e)) c.read_live-entries.ensures)
    ∙ sym (ap (load_over seen void key version c.loop-cursor.load) whole)
    ∙ c.loop-cursor.invariant
