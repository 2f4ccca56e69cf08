-- Which ledger the counted votes stand for.
use Rattle.std.specs.Prelude.{◌≡◌, ◌≤◌, ◌-◌, ◌^◌, Bool, List, length, map, reverse, ℕ}
use Rattle.indexmap.specs.IndexMap.{keys}
use Rattle.mdcc_base.specs.Counts.{number_of}
use Rattle.mdcc_base.specs.Sizes.{Sizes}
use Rattle.mdcc_base.specs.declared.identifiers.TxId.{TxId}
use Rattle.mdcc_base.specs.declared.key.Key.{Key}
use Rattle.mdcc_world_decisions.specs.Ballots.{ballots_at}
use Rattle.mdcc_world_decisions.specs.Casts.{casts_at, casts_of}
use Rattle.mdcc_world_decisions.specs.Decided.{instance_of_choice, instances_at}
use Rattle.mdcc_world_decisions.specs.declared.decisions.Decisions.{Decisions}
use Rattle.mdcc_def_ledger.specs.Ledger.{Entry, ballots_voted, choices_begun, txs_begun}

-- in a cluster with these quorums they stand for this ledger: they have the instances of each transaction that was begun, the
-- votes that were cast on it, and the ballots at which each instance was voted, in their order; and just the begun transactions
pub record RepresentsLedger (decisions : Decisions) (quorums : Sizes) (entries : List Entry) : Type 0 where
  pub knows : decisions.quorums ≡ quorums
  pub begun : (tx : TxId) → instances_at decisions.begun tx ≡ map instance_of_choice (choices_begun entries tx)
  pub casts : (tx : TxId) → casts_at decisions.casts tx ≡ casts_of entries tx
  pub ballots : (key : Key) (version : ℕ) → ballots_at decisions.ballots key version ≡ reverse (ballots_voted entries key version)
  pub counts : (test : TxId → Bool) → number_of test (keys decisions.begun) ≡ number_of test (txs_begun entries)
  pub few : length (keys decisions.begun) ≤ 2 ^ 32 - 1
