use Rattle.std.proofs.Common.{◌≡◌, drop}
use Rattle.mdcc_def_protocol.specs.Floors.{mark_told}
use Rattle.mdcc_sweeper.proofs.sweeper.number_told.Given as goal

abbrev pub invariant-loop-one : goal.invariant-loop-one
invariant-loop-one l = mark_told (drop l.one-index l.told) l.from l.centre l.epoch ≡ mark_told l.told l.from l.centre l.epoch
