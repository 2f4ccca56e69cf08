-- What a node keeps beside its facts, role by role, and loses in a crash.
use Rattle.std.specs.List.{list_any}
use Rattle.std.specs.Prelude.{Bool, List, None, Option, Some, [], filter, find, if◌then◌else◌, is_some, map, min, nat_le, not, unwrap_or, ℕ, ◌+◌, ◌-◌, ◌==◌, ◌^◌, ◌∷◌}
use Rattle.mdcc_base.specs.Key.{key_eq}
use Rattle.mdcc_base.specs.TxId.{tx_eq}
use Rattle.mdcc_base.specs.declared.identifiers.Ballot.{Ballot}
use Rattle.mdcc_base.specs.declared.identifiers.TxId.{TxId}
use Rattle.mdcc_base.specs.declared.key.Key.{Key}
use Rattle.mdcc_option.specs.declared.choices.Choice.{Choice}
use Rattle.mdcc_struct.specs.Maps.{TxMap, value_of, with_entry}
use Rattle.mdcc_struct.specs.declared.options.Options.{Options}
use Rattle.mdcc_def_protocol.specs.declared.votes.Vote.{Vote}

-- a count that rises by one, and stands still at 2^64 - 1
abbrev pub next_count : ℕ → ℕ
next_count n = min (n + 1) (2 ^ 64 - 1)

-- ---- the manager

-- a transaction that this node began and that is not decided here: its choices in key order, the keys whose choice is marked led, and its tick counter
pub record Undecided : Type 0 where
  pub tx : TxId
  pub choices : List Choice
  pub led : List Key
  pub ticks : ℕ

-- the manager: its last sequence number, its open transactions in their order, and the votes that were counted on them
pub record Managing : Type 0 where
  pub seq : ℕ
  pub opened : List Undecided
  pub votes : List Vote

-- the open transaction of this identifier
abbrev pub opened_of : Managing → TxId → Option Undecided
opened_of manager tx = find (λ t. tx_eq t.tx tx) manager.opened

abbrev pub is_opened : Managing → TxId → Bool
is_opened manager tx = is_some (opened_of manager tx)

abbrev pub txs_opened : Managing → List TxId
txs_opened manager = map (λ t. t.tx) manager.opened

-- the votes without those on a transaction
abbrev pub without_tx : List Vote → TxId → List Vote
without_tx votes tx = filter (λ vote. not (tx_eq vote.tx tx)) votes

-- the transaction and its votes are let go
abbrev pub manager_closed : Managing → TxId → Managing
manager_closed manager tx =
    record manager { opened = filter (λ t. not (tx_eq t.tx tx)) manager.opened; votes = without_tx manager.votes tx }

abbrev pub has_key : List Key → Key → Bool
has_key keys key = list_any (key_eq key) keys

-- a change to the open transaction of this identifier
abbrev pub with_opened : (Undecided → Undecided) → Managing → TxId → Managing
with_opened change manager tx = record manager { opened = map (λ t. if tx_eq t.tx tx then change t else t) manager.opened }

-- the choice of this key is marked led
abbrev pub with_led : Managing → TxId → Key → Managing
with_led manager tx key = with_opened (λ t. record t { led = key ∷ t.led }) manager tx

-- ---- the leader

-- a promise that was counted, with the high end of its range and what was reported
pub record CountedPromise : Type 0 where
  pub from : ℕ
  pub through : ℕ
  pub reported : Ballot
  pub votes : Options

-- a classic ballot that this node leads on a key, from its version through the end of its range: the claims that are pending, the promises in order of arrival, and the structures by version
pub record Lead : Type 0 where
  pub key : Key
  pub version : ℕ
  pub through : ℕ
  pub ballot : Ballot
  pub is_refused : Bool
  pub claims : TxMap (Option Choice)
  pub promises : List CountedPromise
  pub structures : List (ℕ × Options)

-- the leader: one lead for each key, and by key the greatest refused round and the round of the last lead
pub record Leading : Type 0 where
  pub leads : List Lead
  pub refused_rounds : List (Key × ℕ)
  pub last_rounds : List (Key × ℕ)

-- the number at a key, 0 where none is kept
abbrev pub number_kept_at : List (Key × ℕ) → Key → ℕ
number_kept_at [] key = 0
number_kept_at (e ∷ es) key = if key_eq e.0 key then e.1 else number_kept_at es key

abbrev pub with_number : List (Key × ℕ) → Key → ℕ → List (Key × ℕ)
with_number [] key n = (key, n) ∷ []
with_number (e ∷ es) key n = if key_eq e.0 key then (key, n) ∷ es else e ∷ with_number es key n

-- the lead of a key
abbrev pub lead_of : Leading → Key → Option Lead
lead_of leader key = find (λ lead. key_eq lead.key key) leader.leads

-- a lead takes the place of the one that its key had
abbrev pub with_lead : Leading → Lead → Leading
with_lead leader lead = record leader { leads = lead ∷ filter (λ other. not (key_eq other.key lead.key)) leader.leads }

-- the structure that was made at a version
abbrev pub structure_found : List (ℕ × Options) → ℕ → Option Options
structure_found [] version = None
structure_found (e ∷ es) version = if e.0 == version then Some e.1 else structure_found es version

-- the same, empty where none was made
abbrev pub structure_at : List (ℕ × Options) → ℕ → Options
structure_at structures version = unwrap_or (structure_found structures version) []

abbrev pub with_structure : List (ℕ × Options) → ℕ → Options → List (ℕ × Options)
with_structure [] version options = (version, options) ∷ []
with_structure (e ∷ es) version options = if e.0 == version then (version, options) ∷ es else e ∷ with_structure es version options

-- ---- the recovery

-- the recovery of transactions that are not open here: their tick counters, and the votes that were counted on those that are watched
pub record Recovering : Type 0 where
  pub counters : TxMap ℕ
  pub votes : List Vote

-- the tick counter of a transaction
abbrev pub counter_of : Recovering → TxId → ℕ
counter_of recovery tx = unwrap_or (value_of recovery.counters tx) 0

-- an unresolved transaction is watched from its second tick on
abbrev pub is_watched : Recovering → TxId → Bool
is_watched recovery tx = nat_le 2 (counter_of recovery tx)

abbrev pub with_counter : TxMap ℕ → TxId × ℕ → TxMap ℕ
with_counter counters e = with_entry (filter (λ other. not (tx_eq other.0 e.0)) counters) e

-- the transaction and its votes are let go
abbrev pub recovery_closed : Recovering → TxId → Recovering
recovery_closed recovery tx =
    record { counters = filter (λ e. not (tx_eq e.0 tx)) recovery.counters; votes = without_tx recovery.votes tx }

-- ---- floors

-- the greatest mark that a centre told of an epoch of a centre; it is lost in a crash
pub record Marked : Type 0 where
  pub from : ℕ
  pub centre : ℕ
  pub epoch : ℕ
  pub seq : ℕ

-- ---- all of it

pub record Volatile : Type 0 where
  pub manager : Managing
  pub leader : Leading
  pub recovery : Recovering
  pub told : List Marked

-- what a node keeps when it is booted
abbrev pub initial_volatile : Volatile
initial_volatile = record {
  manager = record { seq = 0; opened = []; votes = [] };
  leader = record { leads = []; refused_rounds = []; last_rounds = [] };
  recovery = record { counters = []; votes = [] };
  told = [];
}

abbrev pub with_manager : Volatile → Managing → Volatile
with_manager volatile manager = record volatile { manager = manager }

abbrev pub with_leader : Volatile → Leading → Volatile
with_leader volatile leader = record volatile { leader = leader }

abbrev pub with_recovery : Volatile → Recovering → Volatile
with_recovery volatile recovery = record volatile { recovery = recovery }

abbrev pub with_told : Volatile → List Marked → Volatile
with_told volatile told = record volatile { told = told }

-- the transaction is closed in both roles that may have it
abbrev pub closed : Volatile → TxId → Volatile
closed volatile tx =
    record volatile { manager = manager_closed volatile.manager tx; recovery = recovery_closed volatile.recovery tx }
