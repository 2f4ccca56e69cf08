-- What a client prints.
use Rattle.std.specs.Prelude.{Bool, List, codes, ℕ, ◌++◌}
use Rattle.mdcc_base.specs.TxId.{tx_text}
use Rattle.mdcc_base.specs.declared.identifiers.TxId.{TxId}
use Rattle.mdcc_def_language.specs.Errors.{draft_fault_text}
use Rattle.mdcc_def_language.specs.Report.{line_text}
use Rattle.mdcc_def_language.specs.declared.lines.Line.{Line}
use Rattle.mdcc_option.specs.declared.faults.BeginFault.{BeginFault}
use Rattle.mdcc_option.specs.declared.faults.DraftFault.{DraftFault}
use Rattle.mdcc_option.specs.declared.items.Known.{Known}

-- the read of this number showed this
abbrev pub read_line : ℕ → ℕ → Known → List ℕ
read_line number centre known = line_text (Line.Read number centre known)

-- a transaction was begun
abbrev pub begin_line : TxId → List ℕ
begin_line tx = codes "begin " ++ tx_text tx ++ codes "\n"

-- it ended: true is commit
abbrev pub heard_line : ℕ → TxId → Bool → List ℕ
heard_line centre tx is_commit = line_text (Line.Heard centre tx is_commit)

-- none was begun, because of this key
abbrev pub refused_line : List ℕ → BeginFault → List ℕ
refused_line key fault = line_text (Line.Refused key fault)

-- none was begun, since the parts make none
abbrev pub draft_line : DraftFault → List ℕ
draft_line fault = codes "begin refused " ++ draft_fault_text fault ++ codes "\n"

-- the turns were over first
abbrev pub unanswered_line : List ℕ
unanswered_line = codes "unanswered\n"
