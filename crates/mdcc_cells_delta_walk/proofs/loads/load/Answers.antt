use Rattle.std.proofs.Common.{◌∙◌}
use Rattle.mdcc_escrow.specs.Weights.{no_load}
use Rattle.mdcc_cells_delta_walk.proofs.Among.{among-is-summed}
use Rattle.mdcc_cells_delta_walk.proofs.Summed.{load-is-summed}
use Rattle.mdcc_cells_delta_walk.proofs.loads.load.Goals as goal

pub returns-in-Some : goal.returns-in-Some
returns-in-Some g c = λ facts of.
    c.in-Some.ensures
    ∙ among-is-summed c.args.seen.now (g.V.VoidTest.void c.args.void.now) c.args.instance.now.0 c.args.instance.now.1 no_load c.args.walk facts of

pub returns-in-None : goal.returns-in-None
returns-in-None g c = λ facts of.
    c.load_over.ensures
    ∙ load-is-summed c.args.seen.now (g.V.VoidTest.void c.args.void.now) c.args.instance.now.0 c.args.instance.now.1 no_load c.args.walk facts of
