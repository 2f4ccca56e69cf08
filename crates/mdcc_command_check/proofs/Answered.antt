-- What the answer to an input means.
use Rattle.std.proofs.Common.{◌≡◌, ◌<◌, ◌∙◌, ◌⊎◌, Bool, Err, IfSome, List, None, Ok, Option, Result, Some, ap, arith, cond, false, inl, inr, length, nat_lt, refl, subst, sym, true, ℕ, ℤ}
use Rattle.std.proofs.lemmas.Bool.{ltb-false}
use Rattle.std.proofs.lemmas.Bool.Decides.{nat_tests}
use Rattle.std.specs.Bool.{OnFalse}
use Rattle.std.specs.Io.KnownBytes.{Appends}
use Rattle.mdcc_check.specs.Histories.{IsRightHistory}
use Rattle.mdcc_check.specs.Verdicts.{verdict_of}
use Rattle.mdcc_check.specs.declared.history.HistoryCause.{HistoryCause}
use Rattle.mdcc_command_check.specs.Checks.{Answer, Answers, DoesCheck, IsWrongText, answer_to_input, checked_answer}
use Rattle.mdcc_check_histories.proofs.TextLaws.{right-text, yes-text}
use Rattle.mdcc_check_histories.specs.Tallies.{is_memory}
use Rattle.mdcc_check_histories.specs.Texts.{NumberedLine, history_lines, history_of, text_verdict_of, verdict_numbered}
use Rattle.mdcc_check_histories.specs.declared.lines.LineFault.{LineFault}
use Rattle.mdcc_check_histories.specs.declared.texts.HistoryFault.{HistoryFault}
use Rattle.mdcc_check_histories.specs.declared.texts.TextVerdict.{TextVerdict}
use Rattle.mdcc_def_language.specs.Errors.{most_input, status_at_line}
use Rattle.mdcc_def_language.specs.Words.{◌>>=◌}
use Rattle.mdcc_def_language.specs.declared.schedule.SchedCause.{SchedCause}
use Rattle.mdcc_command_replay.proofs.Fronts.{all_written, nothing_written}
use Rattle.mdcc_command_replay.specs.Runs.{is_own_status}
use Rattle.mdcc_command_replay.specs.Writing.{Front, Tells}

-- ---- the verdict by the status

-- a refusal has another status
four_or_ten : (cause : SchedCause) → (status_at_line cause ≡ 4) ⊎ (status_at_line cause ≡ 10)
four_or_ten SchedCause.Word = inl refl
four_or_ten SchedCause.Number = inl refl
four_or_ten SchedCause.Key = inl refl
four_or_ten SchedCause.Range = inl refl
four_or_ten SchedCause.Order = inl refl
four_or_ten SchedCause.Memory = inr refl

not_at : (cause : SchedCause) (n : ℕ) → status_at_line cause ≡ n → (n ≡ 4 → ⊥) → (n ≡ 10 → ⊥) → ⊥
not_at cause n is four ten = elim (four_or_ten cause) [
  | inl e ↦ four (sym is ∙ e)
  | inr e ↦ ten (sym is ∙ e)
]

yes_at : (r : Result TextVerdict HistoryFault) → (checked_answer r).status ≡ 0 → (commits : ℕ) × (reads : ℕ) × (r ≡ Ok (TextVerdict.Yes commits reads))
yes_at (Ok (TextVerdict.Yes commits reads)) is = (commits, reads, refl)
yes_at (Ok (TextVerdict.No line cause)) is = absurd (omega (is, arith))
yes_at (Err HistoryFault.TooLong) is = absurd (omega (is, arith))
yes_at (Err (HistoryFault.Header fault)) is = absurd (omega (is, arith))
yes_at (Err (HistoryFault.Line line (LineFault.Text fault))) is = absurd (not_at fault.cause 0 is (λ h. absurd (omega (h, arith))) (λ h. absurd (omega (h, arith))))
yes_at (Err (HistoryFault.Line line (LineFault.Begin fault))) is = absurd (omega (is, arith))
yes_at (Err HistoryFault.Memory) is = absurd (omega (is, arith))

no_at : (r : Result TextVerdict HistoryFault) → (checked_answer r).status ≡ 13 → (line : ℕ) × (cause : HistoryCause) × (r ≡ Ok (TextVerdict.No line cause))
no_at (Ok (TextVerdict.Yes commits reads)) is = absurd (omega (is, arith))
no_at (Ok (TextVerdict.No line cause)) is = (line, cause, refl)
no_at (Err HistoryFault.TooLong) is = absurd (omega (is, arith))
no_at (Err (HistoryFault.Header fault)) is = absurd (omega (is, arith))
no_at (Err (HistoryFault.Line line (LineFault.Text fault))) is = absurd (not_at fault.cause 13 is (λ h. absurd (omega (h, arith))) (λ h. absurd (omega (h, arith))))
no_at (Err (HistoryFault.Line line (LineFault.Begin fault))) is = absurd (omega (is, arith))
no_at (Err HistoryFault.Memory) is = absurd (omega (is, arith))

-- ---- what a verdict says

abbrev History : Type 0
History = List (ℤ × ℤ) × List NumberedLine

abbrev judged : Result History HistoryFault → Result TextVerdict HistoryFault
judged read = read >>= λ history. Ok (verdict_numbered history.1 (verdict_of history.0 (history_lines history.1)))

no_text : (text : List ℕ) (line : ℕ) (cause : HistoryCause) → text_verdict_of text ≡ Ok (TextVerdict.No line cause) → IsWrongText text
no_text text line cause e = by (nat_lt most_input (length text)) (history_of text) refl refl e
  where
    by : (long : Bool) (read : Result History HistoryFault) → nat_lt most_input (length text) ≡ long → history_of text ≡ read
        → cond long (Err HistoryFault.TooLong) (judged read) ≡ Ok (TextVerdict.No line cause) → IsWrongText text
    by true read l is h = absurd (cc)
    by false (Err fault) l is h = absurd (cc)
    by false (Ok history) l is h = (history, is, wrong)
      where
        wrong : IsRightHistory history.0 (history_lines history.1) → ⊥
        wrong right = (let yes = right-text text history (ltb-false most_input (length text) l) is right in absurd (cc (yes, e)))

-- ---- of a status that is no own one the answer is known

at_status : (P : ℕ → Type 0) (n status : ℕ) → is_own_status n ≡ false → status ≡ n → OnFalse (is_own_status status) (P status) → P n
at_status P n status none is h = subst (λ (b : Bool). OnFalse b (P n)) none (subst (λ (s : ℕ). OnFalse (is_own_status s) (P s)) is h)

pub does_check : (input : List ℕ) (status : ℕ) (before after err_before err_after : Option (List ℕ)) (faults_before faults_after : ℕ)
    → Answers (answer_to_input input) status before after err_before err_after faults_before faults_after → DoesCheck input status before after err_before err_after faults_before faults_after
does_check input status before after err_before err_after faults_before faults_after answers = record {
  answers = answers;
  right = λ is.
      let found = yes_at (text_verdict_of input) (sym (at_status Whole 0 status refl is answers.whole).0) in
      yes-text input found.0 found.1 found.2;
  wrong = λ is.
      let found = no_at (text_verdict_of input) (sym (at_status Whole 13 status refl is answers.whole).0) in
      no_text input found.0 found.1 found.2;
}
  where
    Whole : ℕ → Type 0
    Whole n = (n ≡ (answer_to_input input).status) × Appends before after (answer_to_input input).text × Tells err_before err_after faults_before faults_after (answer_to_input input).error

-- ---- how an answer is given

always : {P : Type 0} (test : Bool) → P → OnFalse test P
always true p = tt
always false p = p

-- all of it
pub given : (answer : Answer) (status : ℕ) (before after err_before err_after : Option (List ℕ)) (faults_before faults_after : ℕ) → status ≡ answer.status
    → Appends before after answer.text → Tells err_before err_after faults_before faults_after answer.error → Answers answer status before after err_before err_after faults_before faults_after
given answer status before after err_before err_after faults_before faults_after is wrote told =
    record { whole = always (is_own_status status) (is, wrote, told); front = all_written before after answer.text wrote }

-- where a read, a write or memory failed a prefix of its text
pub failed : (answer : Answer) (status own : ℕ) (before after err_before err_after : Option (List ℕ)) (faults_before faults_after : ℕ) → is_own_status own ≡ true → status ≡ own
    → Front before after answer.text → Answers answer status before after err_before err_after faults_before faults_after
failed answer status own before after err_before err_after faults_before faults_after is e front = record {
  whole =
      let P : Type 0 = (status ≡ answer.status) × Appends before after answer.text × Tells err_before err_after faults_before faults_after answer.error in
      subst (λ (s : ℕ). OnFalse (is_own_status s) P) (sym e) (subst (λ (b : Bool). OnFalse b P) (sym is) tt);
  front = front;
}

-- which may be nothing
pub unanswered : (answer : Answer) (status own : ℕ) (held err_before err_after : Option (List ℕ)) (faults_before faults_after : ℕ) → is_own_status own ≡ true → status ≡ own
    → Answers answer status held held err_before err_after faults_before faults_after
unanswered answer status own held err_before err_after faults_before faults_after is e =
    failed answer status own held held err_before err_after faults_before faults_after is e (nothing_written held answer.text)

-- of a text that is refused, where memory may have lacked
pub refused : (expected : Result TextVerdict HistoryFault) (fault : HistoryFault) (status : ℕ) (held err_before err_after : Option (List ℕ)) (faults_before faults_after : ℕ)
    → OnFalse (is_memory fault) (Err fault ≡ expected) → (fault ≡ HistoryFault.Memory → status ≡ 10) → Answers (checked_answer (Err fault)) status held held err_before err_after faults_before faults_after
    → Answers (checked_answer expected) status held held err_before err_after faults_before faults_after
refused expected HistoryFault.TooLong status held err_before err_after faults_before faults_after is ten answers = subst (λ (r : Result TextVerdict HistoryFault). Answers (checked_answer r) status held held err_before err_after faults_before faults_after) is answers
refused expected (HistoryFault.Header fault) status held err_before err_after faults_before faults_after is ten answers = subst (λ (r : Result TextVerdict HistoryFault). Answers (checked_answer r) status held held err_before err_after faults_before faults_after) is answers
refused expected (HistoryFault.Line line fault) status held err_before err_after faults_before faults_after is ten answers = subst (λ (r : Result TextVerdict HistoryFault). Answers (checked_answer r) status held held err_before err_after faults_before faults_after) is answers
refused expected HistoryFault.Memory status held err_before err_after faults_before faults_after is ten answers = unanswered (checked_answer expected) status 10 held err_before err_after faults_before faults_after refl (ten refl)

-- a text that is too long
pub too_long : (text : List ℕ) → most_input < length text → text_verdict_of text ≡ Err HistoryFault.TooLong
too_long text h =
    let long : nat_lt most_input (length text) ≡ true = grind (arith, nat_tests, h) in
    ap (λ (b : Bool). cond b (Err HistoryFault.TooLong) (judged (history_of text))) long

-- ---- of each input

pub for_each : (left : Option (List ℕ)) (P : List ℕ → Type 0) → ((input : List ℕ) → P input) → IfSome left P
for_each None P h = tt
for_each (Some input) P h = h input

pub for_such : (left : Option (List ℕ)) (P Q : List ℕ → Type 0) → ((input : List ℕ) → P input → Q input) → IfSome left P → IfSome left Q
for_such None P Q h p = tt
for_such (Some input) P Q h p = h input p
