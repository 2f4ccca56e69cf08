-- Which parts of messages and facts are well-formed: their fields meet the ranges and orders that their bytes have.
-- Each condition is a record, and beside it stands the test that computes.
use Rattle.std.specs.Prelude.{◌≡◌, ℕ, ◌-◌, ◌^◌, ◌<◌, ◌≤◌, ℤ, pos, negsuc, FitsSigned, ◌⊎◌, Bool, true, ◌&&◌, ◌||◌, not, IsTrue, nat_lt, nat_le, ◌==◌, ⊤, List, [], ◌∷◌, length}
use Rattle.std.specs.Int.{w64, IsInRange, is_in_range}
use Rattle.std.specs.List.{AllByRecursion, list_all, list_any}
use Rattle.mdcc_base.specs.declared.identifiers.Ballot.{Ballot}
use Rattle.mdcc_base.specs.declared.identifiers.TxId.{TxId}
use Rattle.mdcc_base.specs.Ballot.{fast_ballot, is_fast}
use Rattle.mdcc_base.specs.Key.{IsKey, is_key_byte, key_eq, key_lt}
use Rattle.mdcc_base.specs.TxId.{tx_eq, tx_lt}
use Rattle.mdcc_option.specs.Equality.{written_eq}
use Rattle.mdcc_option.specs.Transaction.{is_zero_amount}
use Rattle.mdcc_option.specs.declared.items.Item.{Item}
use Rattle.mdcc_option.specs.declared.items.Part.{Part}
use Rattle.mdcc_option.specs.declared.items.Delta.{Delta}
use Rattle.mdcc_option.specs.declared.items.Update.{Update}
use Rattle.mdcc_option.specs.declared.items.Update.TheVariants.{Write, Add}
use Rattle.mdcc_option.specs.declared.choices.Cause.{Cause}
use Rattle.mdcc_option.specs.declared.choices.Cause.TheVariants.{Behind, Classic, Limit, Full}
use Rattle.mdcc_option.specs.declared.choices.Choice.{Choice}
use Rattle.mdcc_option.specs.declared.choices.Mark.{Mark}
use Rattle.mdcc_option.specs.declared.choices.Mark.TheVariants.{Accept, Reject}
use Rattle.mdcc_option.specs.declared.choices.Outcome.{Outcome}
use Rattle.mdcc_option.specs.declared.choices.Outcome.TheVariants.{Commit, Abort}
use Rattle.mdcc_struct.specs.Maps.{are_ascending}
use Rattle.mdcc_struct.specs.Options.{Marks}

-- ---- numbers, and the order of lists

abbrev pub is_u8 : ℕ → Bool
is_u8 n = nat_lt n (2 ^ 8)

abbrev pub is_u32 : ℕ → Bool
is_u32 n = nat_lt n (2 ^ 32)

abbrev pub is_u64 : ℕ → Bool
is_u64 n = nat_lt n (2 ^ 64)

abbrev pub is_i64 : ℤ → Bool
is_i64 (pos n) = nat_lt n (2 ^ 63)
is_i64 (negsuc n) = nat_lt n (2 ^ 63)

-- each stands before the next
abbrev pub is_ascending_by : {X : Type 0} → (X → X → Bool) → List X → Bool
is_ascending_by lt [] = true
is_ascending_by lt (x ∷ []) = true
is_ascending_by lt (x ∷ y ∷ xs) = lt x y && is_ascending_by lt (y ∷ xs)

-- ---- keys, identifiers, ballots

-- 1 to 32 bytes of keys
abbrev pub is_well_formed_key : List ℕ → Bool
is_well_formed_key key = nat_le 1 (length key) && nat_le (length key) 32 && list_all is_key_byte key

-- a centre, and an epoch and a number from 1 on
pub record IsWellFormedTx (tx : TxId) : Type 0 where
  pub centre : IsInRange 1 9 tx.centre
  pub epoch : IsInRange 1 (2 ^ 32 - 1) tx.epoch
  pub seq : IsInRange 1 (2 ^ 32 - 1) tx.seq

abbrev pub is_well_formed_tx : TxId → Bool
is_well_formed_tx tx = is_in_range 1 9 tx.centre && is_in_range 1 (2 ^ 32 - 1) tx.epoch && is_in_range 1 (2 ^ 32 - 1) tx.seq

-- a ballot of a leader: a round and an epoch from 1 on, and a centre
pub record IsWellFormedClassic (ballot : Ballot) : Type 0 where
  pub round : IsInRange 1 (2 ^ 32 - 1) ballot.round
  pub epoch : IsInRange 1 (2 ^ 32 - 1) ballot.epoch
  pub centre : IsInRange 1 9 ballot.centre

abbrev pub is_well_formed_classic : Ballot → Bool
is_well_formed_classic ballot =
    is_in_range 1 (2 ^ 32 - 1) ballot.round && is_in_range 1 (2 ^ 32 - 1) ballot.epoch && is_in_range 1 9 ballot.centre

-- the fast ballot, or one of a leader
abbrev pub IsWellFormedBallot : Ballot → Type 0
IsWellFormedBallot ballot = (ballot ≡ fast_ballot) ⊎ IsWellFormedClassic ballot

abbrev pub is_well_formed_ballot : Ballot → Bool
is_well_formed_ballot ballot = is_fast ballot || is_well_formed_classic ballot

-- ---- items and what is done to them

-- a body of at most 128 bytes, and 1 to 4 values
pub record IsWellFormedItem (item : Item) : Type 0 where
  pub body_fits : length item.body ≤ 128
  pub bytes : AllByRecursion (λ b. b < 2 ^ 8) item.body
  pub count : IsInRange 1 4 (length item.values)
  pub values : AllByRecursion (FitsSigned w64) item.values

abbrev pub is_well_formed_item : Item → Bool
is_well_formed_item item =
    nat_le (length item.body) 128 && list_all is_u8 item.body
    && is_in_range 1 4 (length item.values) && list_all is_i64 item.values

-- at most 64 transactions, ascending
pub record IsWellFormedSeen (seen : List TxId) : Type 0 where
  pub few : length seen ≤ 64
  pub each : AllByRecursion IsWellFormedTx seen
  pub ascending : IsTrue (is_ascending_by tx_lt seen)

abbrev pub is_well_formed_seen : List TxId → Bool
is_well_formed_seen seen = nat_le (length seen) 64 && list_all is_well_formed_tx seen && is_ascending_by tx_lt seen

-- an attribute from 1 to 4, and an amount other than 0
pub record IsWellFormedAmount (amount : ℕ × ℤ) : Type 0 where
  pub attribute : IsInRange 1 4 amount.0
  pub fits : FitsSigned w64 amount.1
  pub not_zero : IsTrue (not (is_zero_amount amount))

abbrev pub is_well_formed_amount : ℕ × ℤ → Bool
is_well_formed_amount amount = is_in_range 1 4 amount.0 && is_i64 amount.1 && not (is_zero_amount amount)

abbrev pub attribute_lt : ℕ × ℤ → ℕ × ℤ → Bool
attribute_lt a b = nat_lt a.0 b.0

-- 1 to 4 amounts, ascending by attribute
pub record IsWellFormedAmounts (amounts : List (ℕ × ℤ)) : Type 0 where
  pub count : IsInRange 1 4 (length amounts)
  pub each : AllByRecursion IsWellFormedAmount amounts
  pub ascending : IsTrue (is_ascending_by attribute_lt amounts)

abbrev pub is_well_formed_amounts : List (ℕ × ℤ) → Bool
is_well_formed_amounts amounts =
    is_in_range 1 4 (length amounts) && list_all is_well_formed_amount amounts && is_ascending_by attribute_lt amounts

abbrev pub IsWellFormedUpdate : Update → Type 0
IsWellFormedUpdate (Write item seen) = IsWellFormedItem item × IsWellFormedSeen seen
IsWellFormedUpdate (Add amounts) = IsWellFormedAmounts amounts

abbrev pub is_well_formed_update : Update → Bool
is_well_formed_update (Write item seen) = is_well_formed_item item && is_well_formed_seen seen
is_well_formed_update (Add amounts) = is_well_formed_amounts amounts

pub record IsWellFormedPart (part : Part) : Type 0 where
  pub key : IsKey part.key
  pub version : part.version < 2 ^ 64
  pub update : IsWellFormedUpdate part.update

abbrev pub is_well_formed_part : Part → Bool
is_well_formed_part part = is_well_formed_key part.key && is_u64 part.version && is_well_formed_update part.update

pub record IsWellFormedDelta (delta : Delta) : Type 0 where
  pub tx : IsWellFormedTx delta.tx
  pub amounts : IsWellFormedAmounts delta.amounts

abbrev pub is_well_formed_delta : Delta → Bool
is_well_formed_delta delta = is_well_formed_tx delta.tx && is_well_formed_amounts delta.amounts

abbrev pub delta_lt : Delta → Delta → Bool
delta_lt a b = tx_lt a.tx b.tx

-- ---- choices

pub record IsWellFormedWritten (written : List ℕ × ℕ) : Type 0 where
  pub key : IsKey written.0
  pub version : written.1 < 2 ^ 64

abbrev pub is_well_formed_written : List ℕ × ℕ → Bool
is_well_formed_written written = is_well_formed_key written.0 && is_u64 written.1

abbrev pub written_lt : List ℕ × ℕ → List ℕ × ℕ → Bool
written_lt a b = key_lt a.0 b.0

-- 1 to 8 keys with their versions, ascending by key
pub record IsWellFormedWriteSet (write_set : List (List ℕ × ℕ)) : Type 0 where
  pub count : IsInRange 1 8 (length write_set)
  pub each : AllByRecursion IsWellFormedWritten write_set
  pub ascending : IsTrue (is_ascending_by written_lt write_set)

abbrev pub is_well_formed_write_set : List (List ℕ × ℕ) → Bool
is_well_formed_write_set write_set =
    is_in_range 1 8 (length write_set) && list_all is_well_formed_written write_set && is_ascending_by written_lt write_set

-- whether a key stands in a write set with this version
abbrev pub is_written : List (List ℕ × ℕ) → List ℕ → ℕ → Bool
is_written write_set key version = list_any (written_eq (key, version)) write_set

-- the write set has the choice's own key and version
pub record IsWellFormedChoice (choice : Choice) : Type 0 where
  pub tx : IsWellFormedTx choice.tx
  pub key : IsKey choice.key
  pub version : choice.version < 2 ^ 64
  pub update : IsWellFormedUpdate choice.update
  pub write_set : IsWellFormedWriteSet choice.write_set
  pub own : IsTrue (is_written choice.write_set choice.key choice.version)

abbrev pub is_well_formed_choice : Choice → Bool
is_well_formed_choice choice =
    is_well_formed_tx choice.tx && is_well_formed_key choice.key && is_u64 choice.version
    && is_well_formed_update choice.update && is_well_formed_write_set choice.write_set
    && is_written choice.write_set choice.key choice.version

-- ---- marks, structures, outcomes

-- a choice inside a part for this key, version and transaction
pub record IsWellFormedWithin (key : List ℕ) (version : ℕ) (tx : TxId) (choice : Choice) : Type 0 where
  pub choice_itself : IsWellFormedChoice choice
  pub same_tx : choice.tx ≡ tx
  pub same_key : choice.key ≡ key
  pub same_version : choice.version ≡ version

abbrev pub is_well_formed_within : List ℕ → ℕ → TxId → Choice → Bool
is_well_formed_within key version tx choice =
    is_well_formed_choice choice && tx_eq choice.tx tx && key_eq choice.key key && choice.version == version

-- a mark inside a part for this key, version and transaction
abbrev pub IsWellFormedEntry : List ℕ → ℕ → TxId → Mark → Type 0
IsWellFormedEntry key version tx Reject = IsWellFormedTx tx
IsWellFormedEntry key version tx (Accept choice) = IsWellFormedWithin key version tx choice

abbrev pub is_well_formed_entry : List ℕ → ℕ → TxId → Mark → Bool
is_well_formed_entry key version tx Reject = is_well_formed_tx tx
is_well_formed_entry key version tx (Accept choice) = is_well_formed_within key version tx choice

-- a structure inside a part for this key and version: marks, ascending by transaction
pub record IsWellFormedOptions (key : List ℕ) (version : ℕ) (options : Marks) : Type 0 where
  pub count : length options < 2 ^ 32
  pub each : AllByRecursion (λ e. IsWellFormedEntry key version e.0 e.1) options
  pub ascending : IsTrue (are_ascending options)

abbrev pub is_well_formed_options : List ℕ → ℕ → Marks → Bool
is_well_formed_options key version options =
    is_u32 (length options) && list_all (λ e. is_well_formed_entry key version e.0 e.1) options && are_ascending options

-- a choice of this transaction
pub record IsWellFormedOf (tx : TxId) (choice : Choice) : Type 0 where
  pub choice_itself : IsWellFormedChoice choice
  pub same_tx : choice.tx ≡ tx

abbrev pub is_well_formed_of : TxId → Choice → Bool
is_well_formed_of tx choice = is_well_formed_choice choice && tx_eq choice.tx tx

abbrev pub choice_lt : Choice → Choice → Bool
choice_lt a b = key_lt a.key b.key

-- 1 to 8 choices of the transaction, ascending by key
pub record IsWellFormedCommit (tx : TxId) (choices : List Choice) : Type 0 where
  pub count : IsInRange 1 8 (length choices)
  pub each : AllByRecursion (IsWellFormedOf tx) choices
  pub ascending : IsTrue (is_ascending_by choice_lt choices)

abbrev pub is_well_formed_commit : TxId → List Choice → Bool
is_well_formed_commit tx choices =
    is_in_range 1 8 (length choices) && list_all (is_well_formed_of tx) choices && is_ascending_by choice_lt choices

-- how a transaction ended
abbrev pub IsWellFormedOutcome : TxId → Outcome → Type 0
IsWellFormedOutcome tx Abort = ⊤
IsWellFormedOutcome tx (Commit choices) = IsWellFormedCommit tx choices

abbrev pub is_well_formed_outcome : TxId → Outcome → Bool
is_well_formed_outcome tx Abort = true
is_well_formed_outcome tx (Commit choices) = is_well_formed_commit tx choices

-- a transaction with how it ended
pub record IsWellFormedHeard (tx : TxId) (outcome : Outcome) : Type 0 where
  pub tx_itself : IsWellFormedTx tx
  pub outcome_itself : IsWellFormedOutcome tx outcome

abbrev pub is_well_formed_heard : TxId → Outcome → Bool
is_well_formed_heard tx outcome = is_well_formed_tx tx && is_well_formed_outcome tx outcome

-- why no vote was given: the ballot named is one of a leader
abbrev pub IsWellFormedCause : Cause → Type 0
IsWellFormedCause Behind = ⊤
IsWellFormedCause (Classic ballot) = IsWellFormedClassic ballot
IsWellFormedCause (Limit quantity) = quantity ≤ 4
IsWellFormedCause Full = ⊤

abbrev pub is_well_formed_cause : Cause → Bool
is_well_formed_cause Behind = true
is_well_formed_cause (Classic ballot) = is_well_formed_classic ballot
is_well_formed_cause (Limit quantity) = nat_le quantity 4
is_well_formed_cause Full = true

-- ---- instances, and what a centre gives another

-- a key and a version
pub record IsWellFormedInstance (key : List ℕ) (version : ℕ) : Type 0 where
  pub key_itself : IsKey key
  pub version_fits : version < 2 ^ 64

abbrev pub is_well_formed_instance : List ℕ → ℕ → Bool
is_well_formed_instance key version = is_well_formed_key key && is_u64 version

-- a version from 1 on, its base, and at most 64 deltas, ascending by transaction
pub record IsWellFormedGiven (key : List ℕ) (version : ℕ) (item : Item) (adds : List Delta) : Type 0 where
  pub instance : IsWellFormedInstance key version
  pub some_version : 1 ≤ version
  pub base : IsWellFormedItem item
  pub few : length adds ≤ 64
  pub each : AllByRecursion IsWellFormedDelta adds
  pub ascending : IsTrue (is_ascending_by delta_lt adds)

abbrev pub is_well_formed_given : List ℕ → ℕ → Item → List Delta → Bool
is_well_formed_given key version item adds =
    is_well_formed_instance key version && nat_le 1 version && is_well_formed_item item
    && nat_le (length adds) 64 && list_all is_well_formed_delta adds && is_ascending_by delta_lt adds
