-- The transactions that are not resolved: a list in order that each further fact changes, and a table of write sets.
use Rattle.std.specs.List.{fold, list_all}
use Rattle.std.specs.Option.{option_or}
use Rattle.std.specs.Prelude.{◌≡◌, Bool, List, None, Option, false, filter, if◌then◌else◌, is_some, map, not, option_map, true, ℕ, ◌∷◌}
use Rattle.mdcc_base.specs.TxId.{tx_eq}
use Rattle.mdcc_base.specs.declared.identifiers.TxId.{TxId}
use Rattle.mdcc_base.specs.declared.key.Key.{Key}
use Rattle.mdcc_struct.specs.Maps.{TxMap, are_ascending, value_of, with_entry}
use Rattle.mdcc_def_protocol.specs.Facts.{is_heard, write_sets_from, write_sets_of}
use Rattle.mdcc_def_protocol.specs.Plain.{plain_unresolved_of}
use Rattle.mdcc_def_messages.specs.declared.facts.Fact.{Fact}
use Rattle.mdcc_theorem_fact_folds.specs.Chains.{Covers}

-- without the entry of a transaction
abbrev pub without_entry_of : {X : Type 0} → TxId → TxMap X → TxMap X
without_entry_of tx m = filter (λ e. not (tx_eq e.0 tx)) m

-- with the entry of a transaction that was not heard
abbrev pub with_unheard : {X : Type 0} → List Fact → TxMap X → TxId × X → TxMap X
with_unheard facts m e = if is_heard facts e.0 then m else with_entry m e

-- with one more fact: an outcome takes its transaction out, and a vote puts in those of its choices that were not heard
abbrev pub next_unresolved : List Fact → TxMap (List (Key × ℕ)) → Fact → TxMap (List (Key × ℕ))
next_unresolved facts m (Fact.Heard tx outcome) = without_entry_of tx m
next_unresolved facts m fact = fold (with_unheard facts) m (write_sets_from fact)

abbrev pub UnresolvedUpdates : Type 0
UnresolvedUpdates = (facts : List Fact) (fact : Fact) → plain_unresolved_of (fact ∷ facts) ≡ next_unresolved facts (plain_unresolved_of facts) fact

abbrev pub UnresolvedAscends : Type 0
UnresolvedAscends = (facts : List Fact) → are_ascending (plain_unresolved_of facts) ≡ true

-- holds a choice of the transaction, accepted or offered
abbrev pub is_choice_of : TxId → Fact → Bool
is_choice_of tx fact = is_some (value_of (write_sets_from fact) tx)

-- an older write set counts before a later one
abbrev pub older_write_set : TxId → Option (List (Key × ℕ)) → Fact → Option (List (Key × ℕ))
older_write_set tx later fact = option_or (value_of (write_sets_from fact) tx) later

-- a table that has the first write set of each transaction, with one more fact
abbrev pub WriteSetUpdates : Type 0
WriteSetUpdates =
    (facts : List Fact) (fact : Fact) (tx : TxId)
    → value_of (write_sets_of (fact ∷ facts)) tx ≡ option_or (value_of (write_sets_of facts) tx) (value_of (write_sets_from fact) tx)

-- the write set of a transaction that is not resolved stands in that table
abbrev pub WriteSetUnheard : Type 0
WriteSetUnheard =
    (facts : List Fact) (tx : TxId)
    → value_of (plain_unresolved_of facts) tx ≡ (if is_heard facts tx then None else value_of (write_sets_of facts) tx)

abbrev pub WriteSetByWalk : Type 0
WriteSetByWalk =
    (keep : Fact → Bool) (tx : TxId) → Covers keep (is_choice_of tx)
    → (facts : List Fact) → value_of (write_sets_of facts) tx ≡ fold (older_write_set tx) None (filter keep facts)

-- ---- facts that change nothing

-- a vote of whose choices all transactions stand in the table already
abbrev pub VoteOfKnown : Type 0
VoteOfKnown =
    (facts : List Fact) (fact : Fact) → list_all (λ e. is_some (value_of (write_sets_of facts) e.0)) (write_sets_from fact) ≡ true
    → fold (with_unheard facts) (plain_unresolved_of facts) (write_sets_from fact) ≡ plain_unresolved_of facts

-- an outcome of a transaction that does not stand there
abbrev pub OutcomeOfUnknown : Type 0
OutcomeOfUnknown =
    (facts : List Fact) (tx : TxId) → is_some (value_of (write_sets_of facts) tx) ≡ false
    → without_entry_of tx (plain_unresolved_of facts) ≡ plain_unresolved_of facts

-- ---- a list that has numbers in the place of write sets

-- what each number represents
abbrev pub listed_by : {X Y : Type 0} → (X → Y) → TxMap X → TxMap Y
listed_by represents m = map (λ e. (e.0, represents e.1)) m

abbrev pub PutByNumber : Type 0
PutByNumber =
    (write_set_at : ℕ → List (Key × ℕ)) (m : TxMap ℕ) (tx : TxId) (number : ℕ)
    → listed_by write_set_at (with_entry m (tx, number)) ≡ with_entry (listed_by write_set_at m) (tx, write_set_at number)

abbrev pub TakenByNumber : Type 0
TakenByNumber =
    (write_set_at : ℕ → List (Key × ℕ)) (m : TxMap ℕ) (tx : TxId)
    → listed_by write_set_at (without_entry_of tx m) ≡ without_entry_of tx (listed_by write_set_at m)

abbrev pub FoundByNumber : Type 0
FoundByNumber =
    (write_set_at : ℕ → List (Key × ℕ)) (m : TxMap ℕ) (tx : TxId)
    → value_of (listed_by write_set_at m) tx ≡ option_map write_set_at (value_of m tx)
