-- Promises, in a store that finds them by their keys.
use Rattle.std.specs.Prelude.{List, Option, [], ◌∷◌, ◌++◌, ◌≡◌, ◌≤◌, ◌==◌, ◌&&◌, Some, Bool, ℕ, if◌then◌else◌, length, map, nat_le}
use Rattle.mdcc_base.specs.Ballot.{ballot_eq, ballot_max, fast_ballot}
use Rattle.mdcc_base.specs.Key.{key_eq}
use Rattle.mdcc_base.specs.declared.identifiers.Ballot.{Ballot}
use Rattle.mdcc_base.specs.declared.key.Key.{Key}
use Rattle.mdcc_def_messages.specs.declared.facts.Fact.{Fact}
use Rattle.mdcc_cells_chains.specs.Keyed.{Keyed}
use Rattle.mdcc_cells_indices.specs.declared.promises.Promise.{Promise}

-- the keys, the newest first, and at its index what was promised of each
pub record Kept : Type 0 where
  pub keys : Keyed Key
  pub ranges : List Promise

-- each key has a promise, and there is room for as many
pub record AreRanged (keys : Keyed Key) (ranges : List Promise) (capacity : ℕ) : Type 0 where
  pub alike : length ranges ≡ length keys.keys
  pub capacity_for : keys.room ≤ capacity

-- ---- what is promised

-- what a fact promises, and of which key
abbrev pub promised_by : Fact → List (Key × Promise)
promised_by (Fact.Promised key low high ballot) = (key, record { low = low; high = high; ballot = ballot }) ∷ []
promised_by _ = []

-- that of all facts, the newest first
abbrev pub promises_of : List Fact → List (Key × Promise)
promises_of [] = []
promises_of (fact ∷ facts) = promised_by fact ++ promises_of facts

-- the promises alone, the oldest first
abbrev pub ranges_in : List (Key × Promise) → List Promise
ranges_in [] = []
ranges_in (entry ∷ entries) = ranges_in entries ++ entry.1 ∷ []

-- these keys and ranges are those of the entries, the newest first
pub record ArePromisesListed (keys : List Key) (ranges : List Promise) (entries : List (Key × Promise)) : Type 0 where
  pub keys_of : keys ≡ map (λ entry. entry.0) entries
  pub ranges_of : ranges ≡ ranges_in entries

-- so they are what these facts promise
abbrev pub ArePromised : Kept → List Fact → Type 0
ArePromised promises facts = ArePromisesListed promises.keys.keys promises.ranges (promises_of facts)

-- ---- what is found

abbrev pub is_at : Key → Key × Promise → Bool
is_at key entry = key_eq key entry.0

-- the high end of a promise of this ballot that begins at this version, or that of a later one
abbrev pub older_end : ℕ → Ballot → Option ℕ → Promise → Option ℕ
older_end version ballot later promise = if promise.low == version && ballot_eq promise.ballot ballot then Some promise.high else later

abbrev pub older_end_at : ℕ → Ballot → Option ℕ → Key × Promise → Option ℕ
older_end_at version ballot later entry = older_end version ballot later entry.1

-- the greater of a ballot and that of a promise of this version
abbrev pub with_range : ℕ → Ballot → Promise → Ballot
with_range version ballot promise = ballot_max (if nat_le promise.low version && nat_le version promise.high then promise.ballot else fast_ballot) ballot

abbrev pub with_range_at : ℕ → Ballot → Key × Promise → Ballot
with_range_at version ballot entry = with_range version ballot entry.1
