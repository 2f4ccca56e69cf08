-- What the command that checks a history prints and answers.
use Rattle.std.specs.Bool.{OnFalse}
use Rattle.std.specs.List.{list_any}
use Rattle.std.specs.Io.KnownBytes.{Appends}
use Rattle.std.specs.Prelude.{Bool, Err, List, Ok, Option, Result, Some, [], codes, decimal, ℕ, ℤ, ◌++◌, ◌==◌, ◌∷◌, ◌≡◌}
use Rattle.mdcc_check.specs.Histories.{IsRightHistory}
use Rattle.mdcc_check.specs.declared.history.HistoryCause.{HistoryCause}
use Rattle.mdcc_check_histories.specs.Texts.{NumberedLine, history_lines, history_of, text_verdict_of}
use Rattle.mdcc_check_histories.specs.declared.lines.LineFault.{LineFault}
use Rattle.mdcc_check_histories.specs.declared.texts.HistoryFault.{HistoryFault}
use Rattle.mdcc_check_histories.specs.declared.texts.TextVerdict.{TextVerdict}
use Rattle.mdcc_def_language.specs.Errors.{ReplayFault, error_text, status_of}
use Rattle.mdcc_def_language.specs.declared.world.EventFault.{EventFault}
use Rattle.mdcc_command_replay.specs.Runs.{is_own_status}
use Rattle.mdcc_command_replay.specs.Writing.{Front, Tells}

-- ---- the verdict

abbrev pub cause_text : HistoryCause → List ℕ
cause_text HistoryCause.Repeated = codes "Repeated"
cause_text HistoryCause.Apply = codes "Apply"
cause_text HistoryCause.Version = codes "Version"
cause_text HistoryCause.Seen = codes "Seen"
cause_text HistoryCause.Value = codes "Value"

abbrev pub history_verdict_text : TextVerdict → List ℕ
history_verdict_text (TextVerdict.Yes commits reads) = codes "yes commits " ++ decimal commits ++ codes " reads " ++ decimal reads ++ codes "\n"
history_verdict_text (TextVerdict.No line cause) = codes "no line " ++ decimal line ++ codes " " ++ cause_text cause ++ codes "\n"

abbrev pub verdict_status : TextVerdict → ℕ
verdict_status (TextVerdict.Yes commits reads) = 0
verdict_status (TextVerdict.No line cause) = 13

-- ---- a text that is no history is refused as a schedule is

abbrev pub line_fault_of : ℕ → LineFault → ReplayFault
line_fault_of line (LineFault.Text fault) = ReplayFault.AtLine line fault
line_fault_of line (LineFault.Begin fault) = ReplayFault.AtEvent line (EventFault.Begin fault)

abbrev pub history_fault_of : HistoryFault → ReplayFault
history_fault_of HistoryFault.TooLong = ReplayFault.TooLong
history_fault_of (HistoryFault.Header fault) = ReplayFault.AtHeader fault
history_fault_of (HistoryFault.Line line fault) = line_fault_of line fault
history_fault_of HistoryFault.Memory = ReplayFault.AtEvent 0 EventFault.Memory

-- ---- what is printed and answered, and written on the error stream

pub record Answer : Type 0 where
  pub text : List ℕ
  pub status : ℕ
  pub error : List ℕ

abbrev pub checked_answer : Result TextVerdict HistoryFault → Answer
checked_answer (Ok verdict) = record { text = history_verdict_text verdict; status = verdict_status verdict; error = [] }
checked_answer (Err fault) = record { text = []; status = status_of (Some (history_fault_of fault)); error = error_text (Some (history_fault_of fault)) }

-- that to an input
abbrev pub answer_to_input : List ℕ → Answer
answer_to_input input = checked_answer (text_verdict_of input)

-- The answer was given, all of it, unless a read, a write or memory failed; then a prefix of its text was printed.
pub record Answers (answer : Answer) (status : ℕ) (before after err_before err_after : Option (List ℕ)) (faults_before faults_after : ℕ) : Type 0 where
  pub whole : OnFalse (is_own_status status) ((status ≡ answer.status) × Appends before after answer.text × Tells err_before err_after faults_before faults_after answer.error)
  pub front : Front before after answer.text

-- ---- what that means

-- the text is a history for which this holds
abbrev pub IsHistoryText : List ℕ → (List (ℤ × ℤ) → List NumberedLine → Type 0) → Type 0
IsHistoryText input P = (history : List (ℤ × ℤ) × List NumberedLine) × (history_of input ≡ Ok history) × P history.0 history.1

-- its commits are a run of the one-copy store with identifiers of their own, and each of its reads is right
abbrev pub IsRightText : List ℕ → Type 0
IsRightText input = IsHistoryText input (λ schema lines. IsRightHistory schema (history_lines lines))

abbrev pub IsWrongText : List ℕ → Type 0
IsWrongText input = IsHistoryText input (λ schema lines. IsRightHistory schema (history_lines lines) → ⊥)

-- The answer to the input was given: status 0 is that of a right history, and 13 that of one that is not right.
pub record DoesCheck (input : List ℕ) (status : ℕ) (before after err_before err_after : Option (List ℕ)) (faults_before faults_after : ℕ) : Type 0 where
  pub answers : Answers (answer_to_input input) status before after err_before err_after faults_before faults_after
  pub right : status ≡ 0 → IsRightText input
  pub wrong : status ≡ 13 → IsWrongText input

-- the statuses that there are
abbrev pub is_check_status : ℕ → Bool
is_check_status status = list_any (λ s. s == status) (0 ∷ 3 ∷ 4 ∷ 5 ∷ 6 ∷ 10 ∷ 11 ∷ 13 ∷ [])
