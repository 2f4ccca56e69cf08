-- The epochs of which something was heard, each with its floor.
use Rattle.std.specs.List.{list_all}
use Rattle.std.specs.Prelude.{◌≡◌, Bool, List, None, Option, Some, false, if◌then◌else◌, map, nat_le, nat_lt, true, ℕ, ◌&&◌, ◌==◌}
use Rattle.mdcc_base.specs.Counts.{number_of}
use Rattle.mdcc_base.specs.declared.identifiers.TxId.{TxId}
use Rattle.mdcc_struct.specs.Maps.{TxMap, are_ascending, value_of, with_entry}
use Rattle.mdcc_def_messages.specs.declared.facts.Fact.{Fact}
use Rattle.mdcc_def_protocol.specs.Facts.{floor_of}
use Rattle.mdcc_def_protocol.specs.Floors.{origins_of}
use Rattle.mdcc_cells_chains.specs.Unresolved.{without}

-- ---- what is stored: a floor under the number before the first of each epoch, ascending

abbrev pub epoch_key : ℕ → ℕ → TxId
epoch_key centre epoch = record { centre = centre; epoch = epoch; seq = 0 }

abbrev pub or_zero : Option ℕ → ℕ
or_zero None = 0
or_zero (Some floor) = floor

-- the floor of an epoch; 0 where none is set
abbrev pub floor_in : TxMap ℕ → ℕ → ℕ → ℕ
floor_in epochs centre epoch = or_zero (value_of epochs (epoch_key centre epoch))

-- whether a transaction is not above the floor of its epoch
abbrev pub is_through : TxMap ℕ → TxId → Bool
is_through epochs tx = nat_lt 0 tx.seq && nat_le tx.seq (floor_in epochs tx.centre tx.epoch)

abbrev pub is_set : TxId × ℕ → Bool
is_set e = nat_lt 0 e.1

-- how many epochs have a floor
abbrev pub floors_set : TxMap ℕ → ℕ
floors_set epochs = number_of is_set epochs

-- ---- one more fact

-- with an epoch, whose floor is the greater of two
abbrev pub with_floor_by : TxMap ℕ → TxId → ℕ → Option ℕ → TxMap ℕ
with_floor_by epochs key seq None = with_entry epochs (key, seq)
with_floor_by epochs key seq (Some floor) = if nat_lt floor seq then with_entry (without epochs key) (key, seq) else epochs

abbrev pub with_floor : TxMap ℕ → ℕ → ℕ → ℕ → TxMap ℕ
with_floor epochs centre epoch seq = with_floor_by epochs (epoch_key centre epoch) seq (value_of epochs (epoch_key centre epoch))

-- an outcome names the epoch of its transaction, and a floor its own
abbrev pub with_fact : TxMap ℕ → Fact → TxMap ℕ
with_fact epochs (Fact.Heard tx outcome) = with_floor epochs tx.centre tx.epoch 0
with_fact epochs (Fact.Floor centre epoch seq) = with_floor epochs centre epoch seq
with_fact epochs fact = epochs

-- whether a fact sets the first floor of its epoch
abbrev pub sets_first_in : TxMap ℕ → Fact → Bool
sets_first_in epochs (Fact.Floor centre epoch seq) = floor_in epochs centre epoch == 0 && nat_lt 0 seq
sets_first_in epochs fact = false

-- ---- what a table says of facts

abbrev pub origin_of : TxId × ℕ → ℕ × ℕ
origin_of e = (e.0.centre, e.0.epoch)

-- it has the floors, and the centres and epochs of what was heard or is finished, ascending
pub record HoldsEpochs (epochs : TxMap ℕ) (facts : List Fact) : Type 0 where
  pub keys : list_all (λ e. e.0.seq == 0) epochs ≡ true
  pub ascending : are_ascending epochs ≡ true
  pub floors : (centre epoch : ℕ) → floor_in epochs centre epoch ≡ floor_of facts centre epoch
  pub origins : map origin_of epochs ≡ origins_of facts

-- the floors that are set are counted
abbrev pub AreFloorsCounted : TxMap ℕ → ℕ → Type 0
AreFloorsCounted epochs set = (set ≡ floors_set epochs) × (are_ascending epochs ≡ true)
