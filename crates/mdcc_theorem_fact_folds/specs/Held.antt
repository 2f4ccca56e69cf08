-- What is held at a key: two values that each further fact changes, and the deltas of a version in one walk of its chain.
use Rattle.std.specs.List.{fold, list_all, list_any}
use Rattle.std.specs.Option.{option_or}
use Rattle.std.specs.Prelude.{◌≡◌, Bool, List, None, Option, [], false, filter, if◌then◌else◌, is_some, length, max, nat_lt, not, option_map, true, ℕ, ◌+◌, ◌∷◌}
use Rattle.mdcc_base.specs.Counts.{number_of}
use Rattle.mdcc_base.specs.declared.identifiers.TxId.{TxId}
use Rattle.mdcc_base.specs.declared.key.Key.{Key}
use Rattle.mdcc_option.specs.declared.items.Delta.{Delta}
use Rattle.mdcc_option.specs.declared.items.Item.{Item}
use Rattle.mdcc_struct.specs.Maps.{TxMap, txs_of, union, value_of}
use Rattle.mdcc_def_protocol.specs.Facts.{base_from, base_of, current_of, deltas_at, deltas_from, executed_of, version_from}
use Rattle.mdcc_def_protocol.specs.Marks.{Amounts}
use Rattle.mdcc_def_protocol.specs.News.{is_crowding, keys_in}
use Rattle.mdcc_def_protocol.specs.Stores.{delta_of}
use Rattle.mdcc_def_messages.specs.declared.facts.Fact.{Fact}
use Rattle.mdcc_theorem_fact_folds.specs.Chains.{Covers, is_delta_in, is_version_of}
use Rattle.mdcc_theorem_fact_folds.specs.Live.{is_ordered}
use Rattle.mdcc_theorem_fact_folds.specs.New.{new_entries}

-- ---- what stands at a key

-- the version that is held, and its base
abbrev pub version_and_base : List Fact → Key → ℕ × Option Item
version_and_base facts key = (current_of facts key, base_of facts key)

-- with one more fact: the fact that gives a higher version gives its base, and no other fact changes either
abbrev pub next_version_and_base : Key → Fact → ℕ × Option Item → ℕ × Option Item
next_version_and_base key fact held =
    let version = version_from key fact in
    if nat_lt held.0 version then (version, base_from key version fact) else held

abbrev pub HeldUpdates : Type 0
HeldUpdates = (key : Key) (facts : List Fact) (fact : Fact) → version_and_base (fact ∷ facts) key ≡ next_version_and_base key fact (version_and_base facts key)

abbrev pub HeldInChain : Type 0
HeldInChain =
    (keep : Fact → Bool) (key : Key) → Covers keep (is_version_of key)
    → (facts : List Fact) → version_and_base facts key ≡ version_and_base (filter keep facts) key

-- a fact that gives a key no version changes nothing that is held there
abbrev pub HeldElsewhere : Type 0
HeldElsewhere = (key : Key) (facts : List Fact) (fact : Fact) → is_version_of key fact ≡ false → version_and_base (fact ∷ facts) key ≡ version_and_base facts key

-- ---- deltas

-- the deltas of a fact, and beside them those that are later
abbrev pub with_older_deltas : Key → ℕ → TxMap Amounts → Fact → TxMap Amounts
with_older_deltas key version later fact = union (union [] (deltas_from key version fact)) later

-- an older delta of the transaction counts before a later one
abbrev pub older_amounts : Key → ℕ → TxId → Option Amounts → Fact → Option Amounts
older_amounts key version tx later fact = option_or (value_of (deltas_from key version fact) tx) later

abbrev pub DeltasInChain : Type 0
DeltasInChain =
    (keep : Fact → Bool) (key : Key) (version : ℕ) → Covers keep (is_delta_in key version)
    → (facts : List Fact) → deltas_at facts key version ≡ deltas_at (filter keep facts) key version

abbrev pub DeltasByWalk : Type 0
DeltasByWalk =
    (keep : Fact → Bool) (key : Key) (version : ℕ) → Covers keep (is_delta_in key version)
    → (facts : List Fact) → deltas_at facts key version ≡ fold (with_older_deltas key version) [] (filter keep facts)

-- the chain is that of the version held
abbrev pub ExecutedInChain : Type 0
ExecutedInChain =
    (keep : Fact → Bool) (key : Key) (facts : List Fact) → Covers keep (is_delta_in key (current_of facts key))
    → executed_of facts key ≡ deltas_at (filter keep facts) key (current_of facts key)

abbrev pub delta_by : TxId → Amounts → Delta
delta_by tx amounts = record { tx = tx; amounts = amounts }

abbrev pub DeltaByWalk : Type 0
DeltaByWalk =
    (keep : Fact → Bool) (key : Key) (tx : TxId) (facts : List Fact) → Covers keep (is_delta_in key (current_of facts key))
    → delta_of facts key tx ≡ option_map (delta_by tx) (fold (older_amounts key (current_of facts key) tx) None (filter keep facts))

-- the deltas so far, and beside them those of the fact
abbrev pub with_deltas : Key → ℕ → TxMap Amounts → Fact → TxMap Amounts
with_deltas key version later fact = union later (deltas_from key version fact)

-- which transactions there are does not depend on the order
abbrev pub ExecutedByJoin : Type 0
ExecutedByJoin =
    (keep : Fact → Bool) (key : Key) (version : ℕ) → Covers keep (is_delta_in key version)
    → (facts : List Fact) → txs_of (deltas_at facts key version) ≡ txs_of (fold (with_deltas key version) [] (filter keep facts))

-- the deltas of a fact that no older fact of the chain has
abbrev pub first_deltas : List Fact → Key → ℕ → Fact → TxMap Amounts
first_deltas older key version fact = new_entries (deltas_at older key version) (deltas_from key version fact)

-- how many deltas a version has, from the newest fact of the chain to the oldest
abbrev pub deltas_walk : Key → ℕ → ℕ → List Fact → ℕ
deltas_walk key version count [] = count
deltas_walk key version count (fact ∷ older) = deltas_walk key version (count + length (first_deltas older key version fact)) older

abbrev pub DeltasCounted : Type 0
DeltasCounted =
    (keep : Fact → Bool) (key : Key) (version : ℕ) → Covers keep (is_delta_in key version)
    → (facts : List Fact) → length (deltas_at facts key version) ≡ deltas_walk key version 0 (filter keep facts)

-- brings a delta of the transaction
abbrev pub is_delta_by : Key → ℕ → TxId → Fact → Bool
is_delta_by key version tx fact = is_some (value_of (deltas_from key version fact) tx)

-- of a fact whose entries stand in order, the deltas of transactions of which no older fact brings one
abbrev pub FirstDeltasOfOrdered : Type 0
FirstDeltasOfOrdered =
    (older : List Fact) (key : Key) (version : ℕ) (fact : Fact) → is_ordered fact ≡ true
    → first_deltas older key version fact ≡ filter (λ e. not (list_any (is_delta_by key version e.0) older)) (deltas_from key version fact)

-- ---- crowding

-- the version that is held with one more fact
abbrev pub next_version_of : List Fact → Key → Fact → ℕ
next_version_of facts key fact = max (current_of facts key) (version_from key fact)

-- the deltas that are executed with one more fact, from the chain of the version that is held then
abbrev pub next_executed : List Fact → Key → ℕ → Fact → TxMap Amounts
next_executed chain key version fact = union (deltas_at chain key version) (deltas_from key version fact)

-- one chain for each key of the fact
abbrev pub CrowdingByChains : Type 0
CrowdingByChains =
    (keep : Key → ℕ → Fact → Bool) → ((key : Key) (version : ℕ) → Covers (keep key version) (is_delta_in key version))
    → (facts : List Fact) (fact : Fact)
    → is_crowding facts fact ≡ list_any (λ key. nat_lt 64 (length (next_executed (filter (keep key (next_version_of facts key fact)) facts) key (next_version_of facts key fact) fact))) (keys_in fact)

-- so many as before, and those that are new
abbrev pub NextDeltasCounted : Type 0
NextDeltasCounted =
    (chain : List Fact) (key : Key) (version : ℕ) (fact : Fact)
    → length (next_executed chain key version fact) ≡ length (deltas_at chain key version) + length (first_deltas chain key version fact)

-- the deltas of a version, one at a time: each that no older fact of the chain brings
abbrev pub deltas_steps : Key → ℕ → ℕ → List Fact → ℕ
deltas_steps key version count [] = count
deltas_steps key version count (fact ∷ older) =
    deltas_steps key version (count + number_of (λ e. not (list_any (is_delta_by key version e.0) older)) (deltas_from key version fact)) older

-- the fact before the chain of the version that is held with it
abbrev pub CrowdingBySteps : Type 0
CrowdingBySteps =
    (keep : Key → ℕ → Fact → Bool) → ((key : Key) (version : ℕ) → Covers (keep key version) (is_delta_in key version))
    → (facts : List Fact) (fact : Fact) → is_ordered fact ≡ true → list_all is_ordered facts ≡ true
    → is_crowding facts fact
    ≡ list_any (λ key. nat_lt 64 (deltas_steps key (next_version_of facts key fact) 0 (fact ∷ filter (keep key (next_version_of facts key fact)) facts))) (keys_in fact)
