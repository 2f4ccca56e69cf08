use Rattle.std.proofs.Common.{◌≡◌, ◌-◌, ◌≤◌, false, length, take}
use Rattle.std.specs.List.{list_any}
use Rattle.mdcc_def_protocol.specs.Floors.{is_of}
use Rattle.mdcc_sweeper.proofs.sweeper.place_of.Given as goal

abbrev pub invariant-loop-place : goal.invariant-loop-place
invariant-loop-place l = record {
  within : l.place ≤ length l.told;
  before : list_any (is_of l.from l.centre l.epoch) (take l.place l.told) ≡ false;
}

abbrev pub decreases-loop-place : goal.decreases-loop-place
decreases-loop-place l = length l.told - l.place
