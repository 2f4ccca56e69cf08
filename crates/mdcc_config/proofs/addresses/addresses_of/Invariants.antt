use Rattle.std.proofs.Common.{◌≡◌, ◌≤◌, [], drop, length}
use Rattle.mdcc_config.specs.Configuration.{each_address}
use Rattle.mdcc_config.specs.IsConfig.{ports_of, centre_ports}
use Rattle.mdcc_config.proofs.addresses.addresses_of.Given as goal

abbrev pub invariant-loop-host : goal.invariant-loop-host
invariant-loop-host l = record {
  rest : each_address l.centres l.port l.addresses (drop l.host-index l.hosts) ≡ each_address l.centres l.port [] l.hosts;
  ports : ports_of l.addresses ≡ centre_ports l.port (length l.addresses);
  few : length l.addresses ≤ l.centres;
}
