-- What is true of each configuration that is read.
use Rattle.std.specs.Prelude.{◌≡◌, ◌≤◌, ℕ, ◌+◌, ◌-◌, List, map, slice_get, Option, option_map}
use Rattle.std.specs.List.{range_with_len}
use Rattle.mdcc_base.specs.AreQuorums.{AreQuorums}
use Rattle.mdcc_base.specs.declared.outside.Address.{Address}
use Rattle.mdcc_option.specs.Bounds.{IsSchema}
use Rattle.mdcc_config.specs.declared.config.Config.{Config}
use Rattle.mdcc_config.specs.declared.settings.Settings.{Settings}

-- the numbers of members in their ranges
pub record AreInRange (settings : Settings) : Type 0 where
  pub gamma : settings.gamma ≤ 1000
  pub some_cells : 1 ≤ settings.cells
  pub cells : settings.cells ≤ 4194304
  pub some_port : 1 ≤ settings.port
  pub port : settings.port ≤ 65000
  pub some_wait : 1 ≤ settings.wait
  pub wait : settings.wait ≤ 60000
  pub some_checkpoint : 1 ≤ settings.checkpoint
  pub checkpoint : settings.checkpoint ≤ 4294967295

abbrev pub ports_of : List Address → List ℕ
ports_of addresses = map (λ address. address.port) addresses

-- the ports of the centres 1 to n
abbrev pub centre_ports : ℕ → ℕ → List ℕ
centre_ports port n = map (λ centre. port + centre) (range_with_len 1 n)

-- the cluster is one, and each of its centres has an address, on the port of its number
pub record IsConfig (config : Config) : Type 0 where
  pub quorums : AreQuorums config.cluster.quorums
  pub schema : IsSchema config.cluster.schema
  pub gamma : config.cluster.gamma ≤ 1000
  pub some_cells : 1 ≤ config.cluster.cells
  pub cells : config.cluster.cells ≤ 4194304
  pub some_port : 1 ≤ config.port
  pub port : config.port ≤ 65000
  pub some_wait : 1 ≤ config.wait
  pub wait : config.wait ≤ 60000
  pub some_checkpoint : 1 ≤ config.checkpoint
  pub checkpoint : config.checkpoint ≤ 4294967295
  pub addresses : ports_of config.addresses ≡ centre_ports config.port config.cluster.quorums.centres

-- at the host of a centre, on the port that is so far above that of the centre
abbrev pub address_above : Config → ℕ → ℕ → Option Address
address_above config above centre =
    option_map (λ address. record { host = address.host; port = config.port + above + centre }) (slice_get config.addresses (centre - 1))
