-- What a begin and a refused step tell beside messages.
use Rattle.std.specs.Prelude.{List, None, Option, Some, [], ℕ, ◌∷◌}
use Rattle.mdcc_base.specs.declared.identifiers.TxId.{TxId}
use Rattle.mdcc_option.specs.Transaction.{choices_of}
use Rattle.mdcc_option.specs.declared.items.Part.{Part}
use Rattle.mdcc_def_ledger.specs.Ledger.{Begun, Entry}
use Rattle.mdcc_def_language.specs.declared.lines.Line.{Line}
use Rattle.mdcc_def_rules.specs.declared.node.Answer.{Answer}
use Rattle.mdcc_def_rules.specs.declared.node.StepFault.{StepFault}

-- the transaction that was begun
abbrev pub begun_tx : Option Answer → Option TxId
begun_tx (Some (Answer.Begun tx)) = Some tx
begun_tx _ = None

-- the entry of the ledger, where a centre began one
abbrev pub begun_entries : ℕ → List Part → Option TxId → List Entry
begun_entries a parts (Some tx) = Begun a tx (choices_of tx parts) ∷ []
begun_entries a parts None = []

-- the line, before the message of the next number
abbrev pub lines_begun : Option Answer → ℕ → List Line
lines_begun (Some (Answer.Begun tx)) next = Line.Begun tx next ∷ []
lines_begun (Some (Answer.Refused key fault)) next = Line.Refused key fault ∷ []
lines_begun _ next = []

-- the line of a refusal for want of room
abbrev pub dropped_lines : ℕ → StepFault → List Line
dropped_lines a (StepFault.NoRoom needed spare) = Line.Dropped a needed spare ∷ []
dropped_lines a _ = []
