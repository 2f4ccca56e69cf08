use Rattle.std.proofs.Common.{◌≡◌, drop}
use Rattle.std.specs.Prelude.{min}
use Rattle.mdcc_world_mail.specs.Waiting.{before_first, waits_among}
use Rattle.mdcc_world_mail.proofs.network.Network.first_waiting.Given as goal

abbrev pub invariant-loop-centre : goal.invariant-loop-centre
invariant-loop-centre l = record {
  kept : l.self ≡ l.initial.self;
  value : min l.least (before_first (waits_among (drop l.centre-index l.centres)) l.self) ≡ before_first (waits_among l.centres) l.self;
}
