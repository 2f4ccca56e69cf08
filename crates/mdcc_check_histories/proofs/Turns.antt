-- The next line of a text that is tallied.
use Rattle.std.proofs.Common.{◌≡◌, ◌+◌, Bool, true, false, not, List, [], ◌∷◌, ℤ, ℕ, Option, Some, None, Result, Ok, Err, refl, sym, ap, subst, ◌∙◌}
use Rattle.std.specs.Prelude.{is_some}
use Rattle.std.specs.Bool.{OnFalse}
use Rattle.mdcc_base.specs.Unless.{GivesUnless}
use Rattle.mdcc_def_language.specs.Words.{◌>>=◌}
use Rattle.mdcc_def_language.specs.declared.schedule.SchedFault.{SchedFault}
use Rattle.mdcc_check.specs.Verdicts.{line_cause}
use Rattle.mdcc_check.specs.declared.history.HistoryCause.{HistoryCause}
use Rattle.mdcc_check.specs.declared.history.HistoryLine.{HistoryLine}
use Rattle.mdcc_check_histories.specs.Grammar.{drafted, drafted_or_none, in_text, spelled_in}
use Rattle.mdcc_check_histories.specs.Tallies.{Takes, Tallies, Tally, found_first, is_memory, lines_tallied, numbered_next, tally_any, tally_line, tally_spelled, verdict_in, with_line, with_line_or_none}
use Rattle.mdcc_check_histories.specs.Texts.{at_line}
use Rattle.mdcc_check_histories.specs.declared.lines.LineFault.{LineFault}
use Rattle.mdcc_check_histories.specs.declared.lines.Spelled.{Spelled}
use Rattle.mdcc_check_histories.specs.declared.texts.Tallier.{Tallier}
use Rattle.mdcc_check_histories.specs.declared.texts.HistoryFault.{HistoryFault}
use Rattle.mdcc_check_histories.specs.declared.texts.TextVerdict.{TextVerdict}

-- ---- one line

-- nothing that fails was found before
pub none-by : {X : Type 0} (found : Option X) (b : Bool) → is_some found ≡ not b → b ≡ true → found ≡ None
none-by None b e t = refl
none-by (Some x) true e t = absurd (cc)
none-by (Some x) false e t = absurd (cc)

no-cause : (number : ℕ) (cause : Option HistoryCause) → found_first None number cause ≡ None → cause ≡ None
no-cause number None e = refl
no-cause number (Some cause) e = absurd (cc)

-- a line that is judged
module _ (schema : List (ℤ × ℤ)) (t : Tally) (line : HistoryLine) (cause : Option HistoryCause) (none : t.found ≡ None) (is : cause ≡ line_cause schema t.progress line) where
  pub now-found : found_first None t.number cause ≡ (with_line schema t line).found
  now-found = ap (found_first None t.number) is ∙ ap (λ f. found_first f t.number (line_cause schema t.progress line)) (sym none)

  pub no-cause-found : (with_line schema t line).found ≡ None → cause ≡ None
  no-cause-found e = no-cause t.number cause (now-found ∙ e)

-- what is spelled in a slot
pub any-spelled : (schema : List (ℤ × ℤ)) (t : Tally) (spelled : Spelled) → tally_any schema t (Some spelled) ≡ tally_spelled schema t spelled
any-spelled schema t spelled = by (drafted schema spelled)
  where
    by : (r : Result HistoryLine LineFault)
        → (let told : Result Tally HistoryFault = at_line t.number (r >>= λ line. Ok (Some line)) >>= λ line. Ok (with_line_or_none schema t line) in told)
        ≡ (at_line t.number r >>= λ line. Ok (with_line schema t line))
    by (Ok line) = refl
    by (Err fault) = refl

module _ (schema : List (ℤ × ℤ)) (t : Tally) (text : List ℕ) where
  line-any : (spelled : Option Spelled) → spelled_in text ≡ Ok spelled → tally_line schema t text ≡ (tally_any schema t spelled >>= λ next. Ok (numbered_next next))
  line-any spelled e = ap (λ r. at_line t.number (in_text r >>= drafted_or_none schema) >>= λ line. let told : Result Tally HistoryFault = Ok (numbered_next (with_line_or_none schema t line)) in told) e ∙ by (drafted_or_none schema spelled)
    where
      by : (r : Result (Option HistoryLine) LineFault)
          → (let told : Result Tally HistoryFault = at_line t.number r >>= λ line. Ok (numbered_next (with_line_or_none schema t line)) in told)
          ≡ ((at_line t.number r >>= λ line. Ok (with_line_or_none schema t line)) >>= λ next. Ok (numbered_next next))
      by (Ok line) = refl
      by (Err fault) = refl

  pub takes-refused : (tallies : Tally → Type 0) (number : ℕ) (fault : SchedFault) → number ≡ t.number → spelled_in text ≡ Err fault
      → Takes tallies (Err (HistoryFault.Line number (LineFault.Text fault))) (tally_line schema t text)
  takes-refused tallies number fault same e =
      ap (λ n. let told : Result Tally HistoryFault = Err (HistoryFault.Line n (LineFault.Text fault)) in told) same
      ∙ sym (ap (λ r. at_line t.number (in_text r >>= drafted_or_none schema) >>= λ line. let told : Result Tally HistoryFault = Ok (numbered_next (with_line_or_none schema t line)) in told) e)

  pub takes-fault : (before after : Tally → Type 0) (spelled : Option Spelled) (fault : HistoryFault) → spelled_in text ≡ Ok spelled
      → Takes before (Err fault) (tally_any schema t spelled) → Takes after (Err fault) (tally_line schema t text)
  takes-fault before after spelled fault e h = by (is_memory fault) h
    where
      told : (let r : Result Tally HistoryFault = Err fault in r) ≡ tally_any schema t spelled → Err fault ≡ tally_line schema t text
      told k = ap (λ r. r >>= λ next. let told : Result Tally HistoryFault = Ok (numbered_next next) in told) k ∙ sym (line-any spelled e)

      by : (b : Bool) → OnFalse b ((let r : Result Tally HistoryFault = Err fault in r) ≡ tally_any schema t spelled) → OnFalse b ((let r : Result Tally HistoryFault = Err fault in r) ≡ tally_line schema t text)
      by true h = tt
      by false h = told h

  pub takes-next : (mid : Tallier) (done : Unit {0}) (spelled : Option Spelled) → spelled_in text ≡ Ok spelled → Takes (Tallies mid) (Ok done) (tally_any schema t spelled)
      → Takes (Tallies (record mid { number = mid.number + 1 })) (Ok done) (tally_line schema t text)
  takes-next mid done spelled e h = subst (Takes (Tallies (record mid { number = mid.number + 1 })) (Ok done)) (sym (line-any spelled e)) (by (tally_any schema t spelled) h)
    where
      by : (r : Result Tally HistoryFault) → Takes (Tallies mid) (Ok done) r → Takes (Tallies (record mid { number = mid.number + 1 })) (Ok done) (r >>= λ next. Ok (numbered_next next))
      by (Ok next) h = record { number = ap (λ n. n + 1) h.number; commits = h.commits; reads = h.reads; found = h.found; checker = h.checker }
      by (Err fault) h = absurd h

-- ---- lines in turn

-- a line that was taken
pub took : (tallies : Tally → Type 0) (done : Unit {0}) (expected : Result Tally HistoryFault) → Takes tallies (Ok done) expected
    → (next : Tally) × (expected ≡ Ok next) × tallies next
took tallies done (Ok t) h = (t, refl, h)
took tallies done (Err fault) h = absurd h

module _ (schema : List (ℤ × ℤ)) (t : Tally) (text : List ℕ) (texts : List (List ℕ)) (all : Result Tally HistoryFault) (lines : List (List ℕ))
    (split : lines ≡ text ∷ texts) (same : lines_tallied schema t lines ≡ all) where
  whole : (tally_line schema t text >>= λ next. lines_tallied schema next texts) ≡ all
  whole = ap (lines_tallied schema t) (sym split) ∙ same

  pub goes-on : (next : Tally) → tally_line schema t text ≡ Ok next → lines_tallied schema next texts ≡ all
  goes-on next e = sym (ap (λ r. r >>= λ next. lines_tallied schema next texts) e) ∙ whole

  -- a line that was not taken
  pub stops : (tallies : Tally → Type 0) (fault : HistoryFault) → Takes tallies (Err fault) (tally_line schema t text)
      → GivesUnless is_memory (Err fault) (all >>= λ t. Ok (verdict_in t))
  stops tallies fault h = by (is_memory fault) h
    where
      told : (let r : Result Tally HistoryFault = Err fault in r) ≡ tally_line schema t text
          → (let r : Result TextVerdict HistoryFault = Err fault in r) ≡ (all >>= λ t. Ok (verdict_in t))
      told e = ap (λ r. (r >>= λ next. lines_tallied schema next texts) >>= λ t. Ok (verdict_in t)) e ∙ ap (λ r. r >>= λ t. Ok (verdict_in t)) whole

      by : (b : Bool) → OnFalse b ((let r : Result Tally HistoryFault = Err fault in r) ≡ tally_line schema t text)
          → OnFalse b ((let r : Result TextVerdict HistoryFault = Err fault in r) ≡ (all >>= λ t. Ok (verdict_in t)))
      by true h = tt
      by false h = told h

-- the end of the text
pub ends : (schema : List (ℤ × ℤ)) (t : Tally) (lines : List (List ℕ)) (all : Result Tally HistoryFault) (verdict : TextVerdict) → lines ≡ [] → lines_tallied schema t lines ≡ all
    → verdict ≡ verdict_in t → (let r : Result TextVerdict HistoryFault = Ok verdict in r) ≡ (all >>= λ t. Ok (verdict_in t))
ends schema t lines all verdict none same is =
    ap (λ v. let r : Result TextVerdict HistoryFault = Ok v in r) is
    ∙ ap (λ r. r >>= λ t. Ok (verdict_in t)) (sym (ap (lines_tallied schema t) none))
    ∙ ap (λ r. r >>= λ t. Ok (verdict_in t)) same
