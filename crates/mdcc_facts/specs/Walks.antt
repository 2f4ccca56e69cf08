-- How the transactions of a map are gone over in ascending order, each time by the least one above the last.
use Rattle.std.specs.Prelude.{Bool, List, None, Option, Some, [], filter, if◌then◌else◌, map, not, true, ◌&&◌, ◌∷◌}
use Rattle.mdcc_base.specs.TxId.{tx_lt}
use Rattle.mdcc_base.specs.declared.identifiers.TxId.{TxId}
use Rattle.mdcc_option.specs.declared.items.Delta.{Delta}
use Rattle.mdcc_option.specs.declared.items.Update.{Update}
use Rattle.mdcc_struct.specs.Maps.{TxMap}
use Rattle.mdcc_struct.specs.declared.options.Options.{Options}
use Rattle.mdcc_def_protocol.specs.Facts.{is_heard}
use Rattle.mdcc_def_protocol.specs.Plain.{plain_is_void}
use Rattle.mdcc_def_protocol.specs.Marks.{Amounts}
use Rattle.mdcc_def_protocol.specs.Stores.{is_above}
use Rattle.mdcc_def_messages.specs.declared.facts.Fact.{Fact}

-- below the one that was found; each is where none was
abbrev pub is_lower : Option TxId → TxId → Bool
is_lower None tx = true
is_lower (Some found) tx = tx_lt tx found

-- the lower of two transactions, where the second passes
abbrev pub lower_passing : (TxId → Bool) → Option TxId → TxId → Option TxId
lower_passing test found tx = if test tx && is_lower found tx then Some tx else found

-- the least of one transaction and those of a map that pass
abbrev pub least_from : {X : Type 0} → (TxId → Bool) → Option TxId → TxMap X → Option TxId
least_from test found [] = found
least_from test found (e ∷ es) = least_from test (lower_passing test found e.0) es

-- kept, and above the last one
abbrev pub is_next_tx : (TxId → Bool) → Option TxId → TxId → Bool
is_next_tx keep last tx = is_above last tx && keep tx

-- the least kept transaction above the last one
abbrev pub next_tx : {X : Type 0} → (TxId → Bool) → Option TxId → TxMap X → Option TxId
next_tx keep last m = least_from (is_next_tx keep last) None m

-- the kept entries above the last transaction
abbrev pub rest_of : {X : Type 0} → (TxId → Bool) → Option TxId → TxMap X → TxMap X
rest_of keep last m = filter (λ e. is_next_tx keep last e.0) m

-- the entry of a transaction, where it has a value
abbrev pub entry_list : {X : Type 0} → TxId → Option X → TxMap X
entry_list tx (Some x) = (tx, x) ∷ []
entry_list tx None = []

-- ---- deltas as live updates

abbrev pub pairs_of : List Delta → TxMap Amounts
pairs_of deltas = map (λ delta. (delta.tx, delta.amounts)) deltas

abbrev pub adds_of : TxMap Amounts → TxMap Update
adds_of deltas = map (λ e. (e.0, Update.Add e.1)) deltas

-- ---- which transactions are kept

abbrev pub each_kept : TxId → Bool
each_kept tx = true

abbrev pub is_not_void : List Fact → TxId → Bool
is_not_void facts tx = not (plain_is_void facts tx)

abbrev pub is_not_heard : List Fact → TxId → Bool
is_not_heard facts tx = not (is_heard facts tx)

-- ---- votes

-- the marks of a structure, where there is one
abbrev pub options_or_none : Option Options → Options
options_or_none (Some options) = options
options_or_none None = []
