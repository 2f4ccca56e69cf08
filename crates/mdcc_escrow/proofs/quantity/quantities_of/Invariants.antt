use Rattle.std.proofs.Common.{◌≡◌, ◌+◌, length, take}
use Rattle.mdcc_def_protocol.specs.Fit.{quantities_of}
use Rattle.mdcc_escrow.proofs.quantity.quantities_of.Given as goal

abbrev pub invariant-loop-named : goal.invariant-loop-named
invariant-loop-named l = record {
  made : length l.quantities ≡ l.named-index + 1;
  values : l.quantities ≡ quantities_of l.schema l.base l.load (take l.named-index l.amounts);
}
