-- What is printed of an audit.
use Rattle.std.specs.List.{flat_map}
use Rattle.std.specs.Prelude.{Bool, List, codes, decimal, false, length, true, ℕ, ◌++◌}
use Rattle.mdcc_audit.specs.declared.audited.AuditCause.{AuditCause}
use Rattle.mdcc_audit.specs.declared.audited.Place.{Place}
use Rattle.mdcc_audit.specs.declared.audited.Verdict3.{Verdict3}
use Rattle.mdcc_base.specs.Counts.{number_of}
use Rattle.mdcc_base.specs.TxId.{tx_text}
use Rattle.mdcc_base.specs.declared.identifiers.TxId.{TxId}
use Rattle.mdcc_struct.specs.Maps.{TxMap}

-- ---- verdicts

abbrev pub verdict_text : Verdict3 → List ℕ
verdict_text Verdict3.Commit = codes "commit"
verdict_text Verdict3.Abort = codes "abort"
verdict_text Verdict3.Open = codes "open"

-- the line of a transaction
abbrev pub verdict_line : TxId × Verdict3 → List ℕ
verdict_line e = tx_text e.0 ++ codes " " ++ verdict_text e.1 ++ codes "\n"

abbrev pub verdict_eq : Verdict3 → Verdict3 → Bool
verdict_eq Verdict3.Commit Verdict3.Commit = true
verdict_eq Verdict3.Abort Verdict3.Abort = true
verdict_eq Verdict3.Open Verdict3.Open = true
verdict_eq _ _ = false

-- how many transactions have this verdict
abbrev pub number_with : Verdict3 → TxMap Verdict3 → ℕ
number_with verdict verdicts = number_of (λ e. verdict_eq verdict e.1) verdicts

abbrev pub committed_text : ℕ → ℕ → List ℕ
committed_text all commits = decimal all ++ codes " commits " ++ decimal commits

abbrev pub others_text : ℕ → ℕ → List ℕ
others_text aborts undecided = codes " aborts " ++ decimal aborts ++ codes " open " ++ decimal undecided ++ codes "\n"

-- how many transactions there are, and how many of them have each verdict
abbrev pub totals_line : TxMap Verdict3 → List ℕ
totals_line verdicts =
    codes "audit transactions " ++ committed_text (length verdicts) (number_with Verdict3.Commit verdicts)
    ++ others_text (number_with Verdict3.Abort verdicts) (number_with Verdict3.Open verdicts)

abbrev pub audit_text : TxMap Verdict3 → List ℕ
audit_text verdicts = flat_map verdict_line verdicts ++ totals_line verdicts

-- ---- contradictions

abbrev pub cause_text : AuditCause → List ℕ
cause_text AuditCause.Outcomes = codes "Outcomes"
cause_text AuditCause.Marks = codes "Marks"
cause_text AuditCause.Choices = codes "Choices"
cause_text AuditCause.Undecided = codes "Undecided"

-- the centre and the number of a fact
abbrev pub place_text : Place → List ℕ
place_text place = decimal place.centre ++ codes " " ++ decimal place.number

abbrev pub contradiction_text : AuditCause → Place → Place → List ℕ
contradiction_text cause a b = codes "audit " ++ cause_text cause ++ codes " " ++ place_text a ++ codes " " ++ place_text b
