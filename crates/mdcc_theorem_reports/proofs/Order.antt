-- A run prints its outcomes in the order in which they come.
use Rattle.std.proofs.Common.{Bool, List, None, Option, Some, [], ap, false, refl, sym, true, ℕ, ◌++◌, ◌∙◌, ◌∷◌, ◌≡◌}
use Rattle.std.specs.Prelude.{Err, IsTrue, Ok, Result, map}
use Rattle.std.proofs.lemmas.List.{append-nil}
use Rattle.mdcc_base.specs.Sizes.{Sizes}
use Rattle.mdcc_base.specs.declared.identifiers.TxId.{TxId}
use Rattle.mdcc_base.specs.declared.outside.Image.{Image}
use Rattle.mdcc_option.specs.declared.choices.Outcome.{Outcome}
use Rattle.mdcc_def_ledger.specs.Ledger.{Added, Entry, facts_of, new_outcomes}
use Rattle.mdcc_def_protocol.specs.Marks.{is_commit}
use Rattle.mdcc_def_rules.specs.Steps.{NodeStep}
use Rattle.mdcc_def_rules.specs.declared.node.StepFault.{StepFault}
use Rattle.mdcc_def_simulation.specs.State.{World, centre_at}
use Rattle.mdcc_def_simulation.specs.AppliedSteps.{chosen_lines, fact_happened, heard_lines, input_happened, step_at, step_happened_by, step_stopped}
use Rattle.mdcc_def_simulation.specs.Checkpoints.{is_frame_kept, striking_at}
use Rattle.mdcc_def_simulation.specs.Runs.{run_of}
use Rattle.mdcc_def_language.specs.declared.events.Event.{Event}
use Rattle.mdcc_def_language.specs.declared.lines.Line.{Line}
use Rattle.mdcc_def_messages.specs.declared.facts.Fact.{Fact}
use Rattle.mdcc_theorem_reports.specs.Order.{decided_by_line, decided_in, decided_in_lines}
use Rattle.mdcc_theorem_reports.proofs.Entries.{BringsNoFacts, NoFacts, step-entries}
use Rattle.mdcc_theorem_reports.proofs.Lists.{together}
use Rattle.mdcc_theorem_reports.proofs.Walk.{IsKept, counted_with, is_silent, runs-keep}

-- ---- lines

chosen-append : (ls ks : List Line) → decided_in_lines (ls ++ ks) ≡ decided_in_lines ls ++ decided_in_lines ks
chosen-append [] ks = refl
chosen-append (line ∷ ls) ks = ap (λ z. decided_by_line line ++ z) (chosen-append ls ks) ∙ sym (together (decided_by_line line) (decided_in_lines ls) (decided_in_lines ks))

chosen-news : (news : List (TxId × Outcome)) → decided_in_lines (map (λ (e : TxId × Outcome). Line.Chosen e.0 (is_commit e.1)) news) ≡ map (λ (e : TxId × Outcome). (e.0, is_commit e.1)) news
chosen-news [] = refl
chosen-news (e ∷ news) = ap (λ z. (e.0, is_commit e.1) ∷ z) (chosen-news news)

heard-none : (a : ℕ) (fact : Fact) → decided_in_lines (heard_lines a fact) ≡ []
heard-none a (Fact.Heard tx outcome) = refl
heard-none a (Fact.Booted epoch) = refl
heard-none a (Fact.Floor centre era seq) = refl
heard-none a (Fact.Promised key low high ballot) = refl
heard-none a (Fact.Voted key version ballot options offered) = refl
heard-none a (Fact.Adopted key version item adds) = refl

silent-none : (line : Line) → IsTrue (is_silent line) → decided_in_lines (line ∷ []) ≡ []
silent-none (Line.Chosen tx is_committed) h = absurd (cc)
silent-none (Line.Heard a tx is_committed) h = refl
silent-none (Line.Read number a known) h = refl
silent-none (Line.Begun tx next) h = refl
silent-none (Line.Refused key fault) h = refl
silent-none (Line.Deliver number next) h = refl
silent-none (Line.Settle listed) h = refl
silent-none (Line.Settled deliveries next) h = refl
silent-none (Line.Tick a next) h = refl
silent-none (Line.Sweep a next) h = refl
silent-none (Line.Crash a) h = refl
silent-none (Line.Stop a call image) h = refl
silent-none (Line.Restart a epoch) h = refl
silent-none (Line.Stopped a) h = refl
silent-none (Line.Dropped a needed spare) h = refl
silent-none (Line.End events messages commits aborts undecided) h = refl

-- ---- entries

-- entries without a fact bring no outcome
nothing-new : (quorums : Sizes) (entries before : List Entry) → NoFacts entries → decided_in quorums (entries ++ before) ≡ decided_in quorums before
nothing-new quorums [] before h = refl
nothing-new quorums (Added a fact ∷ entries) before h = absurd h.0
nothing-new quorums (Entry.Begun a tx choices ∷ entries) before h = append-nil (decided_in quorums (entries ++ before)) ∙ nothing-new quorums entries before h.1
nothing-new quorums (Entry.Valued a key version ballot options ∷ entries) before h = append-nil (decided_in quorums (entries ++ before)) ∙ nothing-new quorums entries before h.1

-- ---- what an input tells

-- the outcomes of the later world are those of the first and the ones that the lines tell
abbrev pub InOrder : World → World → List Line → Type 0
InOrder w x lines = decided_in x.cluster.quorums x.ledger ≡ decided_in w.cluster.quorums w.ledger ++ decided_in_lines lines

none-told : (w : World) → InOrder w w []
none-told w = sym (append-nil (decided_in w.cluster.quorums w.ledger))

both-told : (v w x : World) (ls ks : List Line) → InOrder v w ls → InOrder w x ks → InOrder v x (ls ++ ks)
both-told v w x ls ks g h =
    h ∙ ap (λ z. z ++ decided_in_lines ks) g ∙ together (decided_in v.cluster.quorums v.ledger) (decided_in_lines ls) (decided_in_lines ks)
    ∙ ap (λ z. decided_in v.cluster.quorums v.ledger ++ z) (sym (chosen-append ls ks))

order-input : (w : World) (a : ℕ) (r : Result NodeStep StepFault) → BringsNoFacts r → InOrder w (input_happened w a r).world (input_happened w a r).lines
order-input w a (Err (StepFault.NoRoom needed spare)) h = none-told w
order-input w a (Err StepFault.Foreign) h = none-told w
order-input w a (Err StepFault.Crowded) h = none-told w
order-input w a (Err StepFault.Exhausted) h = none-told w
order-input w a (Err StepFault.Memory) h = none-told w
order-input w a (Ok step) h = by_fact step.fact
  where
    stopped : (fact : Fact) (stop : ℕ × Image) (b : Bool) → is_frame_kept stop.0 stop.1 ≡ b → InOrder w (step_stopped w a fact stop).world (step_stopped w a fact stop).lines
    stopped fact stop true e = rw e (ap (λ z. decided_in w.cluster.quorums w.ledger ++ z) (sym (chosen-news (new_outcomes w.cluster.quorums (Added a fact) w.ledger))))
    stopped fact stop false e = rw e (none-told w)

    by_stop : (fact : Fact) (o : Option (ℕ × Image)) → InOrder w (fact_happened w a step fact o).world (fact_happened w a step fact o).lines
    by_stop fact None =
        let news : List (TxId × Outcome) = new_outcomes w.cluster.quorums (Added a fact) (step.entries ++ w.ledger) in
        let lines : decided_in_lines (chosen_lines w.cluster.quorums (Added a fact) (step.entries ++ w.ledger) ++ heard_lines a fact) ≡ map (λ (e : TxId × Outcome). (e.0, is_commit e.1)) news =
        chosen-append (chosen_lines w.cluster.quorums (Added a fact) (step.entries ++ w.ledger)) (heard_lines a fact)
        ∙ ap (λ z. decided_in_lines (chosen_lines w.cluster.quorums (Added a fact) (step.entries ++ w.ledger)) ++ z) (heard-none a fact)
        ∙ append-nil (decided_in_lines (chosen_lines w.cluster.quorums (Added a fact) (step.entries ++ w.ledger)))
        ∙ chosen-news news in
        ap (λ z. z ++ map (λ (e : TxId × Outcome). (e.0, is_commit e.1)) news) (nothing-new w.cluster.quorums step.entries w.ledger h)
        ∙ ap (λ z. decided_in w.cluster.quorums w.ledger ++ z) (sym lines)
    by_stop fact (Some stop) = stopped fact stop (is_frame_kept stop.0 stop.1) refl

    by_fact : (o : Option Fact) → InOrder w (step_happened_by w a step o).world (step_happened_by w a step o).lines
    by_fact None = nothing-new w.cluster.quorums step.entries w.ledger h ∙ none-told w
    by_fact (Some fact) = by_stop fact (striking_at w a)

order-kept : IsKept InOrder
order-kept = record {
  none = none-told;
  join = both-told;
  silent = λ w line s. none-told w ∙ ap (λ z. decided_in w.cluster.quorums w.ledger ++ z) (sym (silent-none line s));
  count = λ w free. none-told w;
  input = λ w sent a input free up. order-input (counted_with w sent) a (step_at (counted_with w sent) a input) (step-entries w.cluster a (facts_of w.ledger a) (centre_at (counted_with w sent) a).volatile input);
  read = λ w a key free. none-told w;
  boot = λ w a epoch free. refl;
  site = λ w a site free. none-told w;
}

pub outcomes-in-order : (w : World) (events : List Event) → InOrder w (run_of w events).world (run_of w events).lines
outcomes-in-order w events = runs-keep InOrder (order-kept) w events
