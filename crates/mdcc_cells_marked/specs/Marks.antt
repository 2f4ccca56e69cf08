-- The instances in which the votes among facts mark a transaction.
use Rattle.std.specs.List.{list_any}
use Rattle.std.specs.Prelude.{◌≡◌, ◌≤◌, Bool, List, [], false, get_or, is_some, length, map, nat_lt, not, ℕ, ◌&&◌, ◌*◌, ◌++◌, ◌∷◌}
use Rattle.mdcc_base.specs.TxId.{tx_eq}
use Rattle.mdcc_base.specs.declared.identifiers.TxId.{TxId}
use Rattle.mdcc_base.specs.declared.key.Key.{Key}
use Rattle.mdcc_option.specs.declared.choices.Mark.{Mark}
use Rattle.mdcc_struct.specs.Maps.{value_of}
use Rattle.mdcc_def_messages.specs.Lengths.{cells_needed}
use Rattle.mdcc_def_messages.specs.declared.facts.Fact.{Fact}
use Rattle.mdcc_def_protocol.specs.Facts.{current_of}
use Rattle.mdcc_cells_chains.specs.Keyed.{Keyed}

-- ---- what is stored

-- how many entries there may be, and the entries, the newest first: a transaction with an instance in which a vote marks it
pub record MarkedTxs : Type 0 where
  pub room : ℕ
  pub entries : List (TxId × (Key × ℕ))

abbrev pub no_instance : Key × ℕ
no_instance = ([], 0)

-- each transaction with the instance at its index. The transactions stand the newest first, and the instances the oldest first
abbrev pub with_instances : List TxId → List (Key × ℕ) → List (TxId × (Key × ℕ))
with_instances [] instances = []
with_instances (tx ∷ txs) instances = (tx, get_or instances (length txs) no_instance) ∷ with_instances txs instances

-- each has an instance, and there is room for as many
pub record AreMarked (txs : Keyed TxId) (instances : List (Key × ℕ)) (capacity : ℕ) : Type 0 where
  pub alike : length instances ≡ length txs.keys
  pub capacity_for : txs.room ≤ capacity

-- ---- the marks of facts

abbrev pub marks_beside : Key × ℕ → List (TxId × Mark) → List (TxId × (Key × ℕ))
marks_beside instance options = map (λ e. (e.0, instance)) options

abbrev pub marks_of_fact : Fact → List (TxId × (Key × ℕ))
marks_of_fact (Fact.Voted key version ballot options offered) = marks_beside (key, version) options
marks_of_fact _ = []

abbrev pub marks_of : List Fact → List (TxId × (Key × ℕ))
marks_of [] = []
marks_of (fact ∷ facts) = marks_of_fact fact ++ marks_of facts

-- ---- what is found

-- whether an instance is not below the version that is held
abbrev pub is_open_instance : List Fact → Key × ℕ → Bool
is_open_instance facts instance = not (nat_lt instance.1 (current_of facts instance.0))

-- whether an entry marks a transaction in such an instance
abbrev pub is_open_entry : List Fact → TxId → TxId × (Key × ℕ) → Bool
is_open_entry facts tx entry = tx_eq tx entry.0 && is_open_instance facts entry.1

-- whether a fact does
abbrev pub is_open_mark : List Fact → TxId → Fact → Bool
is_open_mark all tx (Fact.Voted key version ballot options offered) = is_some (value_of options tx) && is_open_instance all (key, version)
is_open_mark all tx _ = false

-- whether one of the facts does
abbrev pub has_open_mark : List Fact → TxId → Bool
has_open_mark facts tx = list_any (is_open_mark facts tx) facts

-- ---- how many there are

-- a mark has at least 10 bytes, and a cell 60
abbrev pub MarksInCells : Type 0
MarksInCells = (fact : Fact) → length (marks_of_fact fact) ≤ 6 * cells_needed fact
