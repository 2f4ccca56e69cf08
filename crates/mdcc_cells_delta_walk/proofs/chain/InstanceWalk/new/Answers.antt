use Rattle.mdcc_cells_delta_walk.proofs.WalksOn.{from-first}
use Rattle.mdcc_cells_delta_walk.proofs.chain.InstanceWalk.new.Goals as goal

pub returns : goal.returns
returns c = from-first c.args.cells.now.encodings c.args.numbers.now c.args.instance.now c.args.index.now.keys c.first.result c.first.ensures.value
