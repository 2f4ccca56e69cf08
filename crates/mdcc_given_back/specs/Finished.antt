-- What all centres have heard, of the facts that are left.
use Rattle.std.specs.Prelude.{◌≡◌, ◌+◌, ◌<◌, ◌≤◌, ◌||◌, false, length, List, true, ℕ}
use Rattle.mdcc_base.specs.declared.identifiers.TxId.{TxId}
use Rattle.mdcc_def_messages.specs.declared.facts.Fact.{Fact}
use Rattle.mdcc_def_protocol.specs.Facts.{floor_of, has_floor, heard_through_of, is_finished, is_heard, is_settled, settled_after}
use Rattle.mdcc_given_back.specs.Rest.{IsRest}

-- of each epoch the greatest floor is kept
abbrev pub FloorStays : Type 0
FloorStays = (rest facts : List Fact) (centre epoch : ℕ) → IsRest rest facts → floor_of rest centre epoch ≡ floor_of facts centre epoch

abbrev pub HasFloorStays : Type 0
HasFloorStays = (rest facts : List Fact) → IsRest rest facts → has_floor rest ≡ has_floor facts

abbrev pub FinishedStays : Type 0
FinishedStays = (rest facts : List Fact) (tx : TxId) → IsRest rest facts → is_finished rest tx ≡ is_finished facts tx

-- what is dropped of outcomes is of finished transactions
abbrev pub UnfinishedHeardStays : Type 0
UnfinishedHeardStays = (rest facts : List Fact) (tx : TxId) → IsRest rest facts → is_finished facts tx ≡ false → is_heard rest tx ≡ is_heard facts tx

-- so that a transaction is settled by the facts that are left where it is by all
abbrev pub SettledStays : Type 0
SettledStays = (rest facts : List Fact) (tx : TxId) → IsRest rest facts → is_settled rest tx ≡ is_settled facts tx

abbrev pub SettledByRest : Type 0
SettledByRest = (rest facts : List Fact) (tx : TxId) → IsRest rest facts → is_settled facts tx ≡ (is_heard rest tx || is_finished facts tx)

-- each settled transaction above the floor has an outcome of its own among the facts that are left, so that they are as many as the count needs
abbrev pub HeardThroughStays : Type 0
HeardThroughStays = (rest facts : List Fact) (centre epoch : ℕ) → IsRest rest facts → heard_through_of rest centre epoch ≡ heard_through_of facts centre epoch

abbrev pub HeardThroughByRest : Type 0
HeardThroughByRest =
    (rest facts : List Fact) (centre epoch more : ℕ)
    → IsRest rest facts → length rest ≤ more → heard_through_of facts centre epoch ≡ settled_after facts centre epoch more (floor_of facts centre epoch)

-- counted up from the floor it is the last before the first that is not settled
abbrev pub HeardThroughEnds : Type 0
HeardThroughEnds =
    (facts : List Fact) (centre epoch more : ℕ)
    → ((k : ℕ) → k < more → is_settled facts (record { centre = centre; epoch = epoch; seq = floor_of facts centre epoch + k + 1 }) ≡ true)
    → is_settled facts (record { centre = centre; epoch = epoch; seq = floor_of facts centre epoch + more + 1 }) ≡ false
    → heard_through_of facts centre epoch ≡ floor_of facts centre epoch + more
