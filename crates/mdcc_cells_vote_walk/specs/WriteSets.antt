-- The write set of a transaction's choice, in the bytes of a fact.
use Rattle.std.specs.Option.{option_map}
use Rattle.std.specs.Prelude.{List, Option, ℕ}
use Rattle.mdcc_base.specs.declared.identifiers.TxId.{TxId}
use Rattle.mdcc_option.specs.declared.choices.Choice.{Choice}
use Rattle.mdcc_cells_vote_walk.specs.Heads.{head_any}
use Rattle.mdcc_cells_vote_walk.specs.Older.{choice_by_head}

abbrev pub choice_write_set : Choice → List (List ℕ × ℕ)
choice_write_set choice = choice.write_set

-- the choice of a transaction that a fact has in any instance
abbrev pub choice_any : TxId → List ℕ → Option Choice
choice_any tx bytes = choice_by_head tx bytes (head_any bytes)

-- its write set
abbrev pub write_set_in : TxId → List ℕ → Option (List (List ℕ × ℕ))
write_set_in tx bytes = option_map choice_write_set (choice_any tx bytes)
