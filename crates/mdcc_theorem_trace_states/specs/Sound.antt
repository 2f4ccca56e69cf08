-- Which marks are chosen, and which marks are on a transaction's own choice.
use Rattle.std.specs.Prelude.{List, Some, true, ℕ, ◌≡◌, ◌≤◌}
use Rattle.mdcc_base.specs.declared.identifiers.Ballot.{Ballot}
use Rattle.mdcc_base.specs.declared.key.Key.{Key}
use Rattle.mdcc_base.specs.Sizes.{Sizes}
use Rattle.mdcc_base.specs.declared.identifiers.TxId.{TxId}
use Rattle.mdcc_base.specs.Quorums.{all_centres, quorum_size}
use Rattle.mdcc_option.specs.declared.choices.Choice.{Choice}
use Rattle.mdcc_option.specs.declared.choices.Mark.{Mark}
use Rattle.mdcc_option.specs.declared.choices.Mark.TheVariants.{Accept}
use Rattle.mdcc_struct.specs.declared.options.Options.{Options}
use Rattle.mdcc_struct.specs.Options.{is_mark}
use Rattle.mdcc_struct.specs.Maps.{value_of}
use Rattle.mdcc_def_protocol.specs.Facts.{write_sets_of}
use Rattle.mdcc_def_ledger.specs.Ledger.{Entry, choices_begun, facts_of, mark_given}
use Rattle.mdcc_def_ledger.specs.AllowedLedgers.{is_valued}
use Rattle.mdcc_theorem_trace_states.specs.Words.{In, count_where}
use Rattle.mdcc_theorem_trace_states.specs.VolatileInvariant.{IsOwn, IsPlaced}

-- a mark is chosen in an instance: a quorum of some ballot gives it to the transaction
pub record IsChosen (quorums : Sizes) (es : List Entry) (key : Key) (version : ℕ) (tx : TxId) (mark : Mark) : Type 0 where
  pub ballot : Ballot
  pub enough : quorum_size quorums ballot ≤ count_where (λ a. is_mark mark (mark_given es key version ballot tx a)) (all_centres quorums)

-- one mark: no two marks of a transaction are chosen in an instance
abbrev pub HasOneMark : Sizes → List Entry → Type 0
HasOneMark quorums es =
    (key : Key) (version : ℕ) (tx : TxId) (x y : Mark) → IsChosen quorums es key version tx x → IsChosen quorums es key version tx y → x ≡ y

-- the mark is of a transaction with a choice in the instance; one that accepts, accepts that choice
pub record IsSoundMark (es : List Entry) (key : Key) (version : ℕ) (tx : TxId) (mark : Mark) : Type 0 where
  pub placed : IsPlaced es key version tx
  pub own : (choice : Choice) → mark ≡ Accept choice → IsOwn es key version tx choice

-- all marks of votes and of structures are such, and a write set that a centre knows is that of a choice with which its transaction was begun
pub record IsSound (es : List Entry) : Type 0 where
  pub votes : (key : Key) (version : ℕ) (ballot : Ballot) (tx : TxId) (a : ℕ) (mark : Mark) → mark_given es key version ballot tx a ≡ Some mark → IsSoundMark es key version tx mark
  pub structures : (key : Key) (version : ℕ) (ballot : Ballot) (options : Options) → is_valued es key version ballot options ≡ true → (tx : TxId) (mark : Mark) → value_of options tx ≡ Some mark → IsSoundMark es key version tx mark
  pub sets : (a : ℕ) (tx : TxId) (write_set : List (Key × ℕ)) → value_of (write_sets_of (facts_of es a)) tx ≡ Some write_set → (choice : Choice) × (In choice (choices_begun es tx)) × (write_set ≡ choice.write_set)
