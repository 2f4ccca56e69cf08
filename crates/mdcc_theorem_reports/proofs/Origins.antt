-- Each line of a run has its origin in the ledger, which only grows.
use Rattle.std.proofs.Common.{Bool, List, None, Option, Some, [], ap, false, refl, subst, sym, true, ℕ, ◌++◌, ◌∙◌, ◌∷◌, ◌≡◌}
use Rattle.std.specs.List.{AllByRecursion}
use Rattle.std.specs.Prelude.{Contains, Err, IsTrue, Ok, Result, map}
use Rattle.std.proofs.lemmas.List.Elements.{All-contains_itself, recursion_from_All}
use Rattle.mdcc_base.specs.Sizes.{Sizes}
use Rattle.mdcc_base.specs.declared.identifiers.TxId.{TxId}
use Rattle.mdcc_base.specs.declared.outside.Image.{Image}
use Rattle.mdcc_option.specs.declared.choices.Outcome.{Outcome}
use Rattle.mdcc_def_ledger.specs.Ledger.{Added, Entry, new_outcomes}
use Rattle.mdcc_def_protocol.specs.Marks.{is_commit}
use Rattle.mdcc_def_rules.specs.Steps.{NodeStep}
use Rattle.mdcc_def_simulation.specs.State.{World}
use Rattle.mdcc_def_simulation.specs.AppliedSteps.{chosen_lines, fact_happened, heard_lines, input_happened, step_happened_by, step_stopped}
use Rattle.mdcc_def_simulation.specs.Checkpoints.{is_frame_kept, striking_at}
use Rattle.mdcc_def_simulation.specs.Runs.{run_of}
use Rattle.mdcc_def_language.specs.declared.events.Event.{Event}
use Rattle.mdcc_def_messages.specs.declared.facts.Fact.{Fact}
use Rattle.mdcc_def_language.specs.declared.lines.Line.{Line}
use Rattle.mdcc_def_rules.specs.declared.node.StepFault.{StepFault}
use Rattle.mdcc_theorem_reports.specs.Growth.{Grows}
use Rattle.mdcc_theorem_reports.specs.Origins.{HasOrigin}
use Rattle.mdcc_theorem_reports.proofs.Lists.{each-append, each-weaker, together}
use Rattle.mdcc_theorem_reports.proofs.Walk.{IsKept, is_silent, runs-keep}

-- ---- growth

grows-none : (w : World) → Grows w w
grows-none w = record { same = refl; later = []; parts = refl }

grows-both : (v w x : World) → Grows v w → Grows w x → Grows v x
grows-both v w x g h = record {
  same = h.same ∙ g.same;
  later = h.later ++ g.later;
  parts = h.parts ∙ ap (λ es. h.later ++ es) g.parts ∙ sym (together h.later g.later v.ledger);
}

-- an origin stays one as the ledger grows
origin-stays : (quorums : Sizes) (ledger later whole : List Entry) → whole ≡ later ++ ledger → (line : Line) → HasOrigin quorums ledger line → HasOrigin quorums whole line
origin-stays quorums ledger later whole e (Line.Chosen tx is_committed) h =
    let c = h.2 in
    (h.0, h.1, record { later = later ++ c.later; entry = c.entry; before = c.before; parts = e ∙ ap (λ es. later ++ es) c.parts ∙ sym (together later c.later (c.entry ∷ c.before)); is_new = c.is_new })
origin-stays quorums ledger later whole e (Line.Heard a tx is_committed) h =
    let c = h.2 in
    (h.0, h.1, record { later = later ++ c.later; before = c.before; parts = e ∙ ap (λ es. later ++ es) c.parts ∙ sym (together later c.later (Added a (Fact.Heard tx h.0) ∷ c.before)) })
origin-stays quorums ledger later whole e (Line.Read number a known) h =
    record { later = later ++ h.later; before = h.before; parts = e ∙ ap (λ es. later ++ es) h.parts ∙ sym (together later h.later h.before); shown = h.shown }
origin-stays quorums ledger later whole e (Line.Begun tx next) h = tt
origin-stays quorums ledger later whole e (Line.Refused key fault) h = tt
origin-stays quorums ledger later whole e (Line.Deliver number next) h = tt
origin-stays quorums ledger later whole e (Line.Settle listed) h = tt
origin-stays quorums ledger later whole e (Line.Settled deliveries next) h = tt
origin-stays quorums ledger later whole e (Line.Tick a next) h = tt
origin-stays quorums ledger later whole e (Line.Sweep a next) h = tt
origin-stays quorums ledger later whole e (Line.Crash a) h = tt
origin-stays quorums ledger later whole e (Line.Stop a call image) h = tt
origin-stays quorums ledger later whole e (Line.Restart a epoch) h = tt
origin-stays quorums ledger later whole e (Line.Stopped a) h = tt
origin-stays quorums ledger later whole e (Line.Dropped a needed spare) h = tt
origin-stays quorums ledger later whole e (Line.End events messages commits aborts undecided) h = tt

silent-origin : (quorums : Sizes) (ledger : List Entry) (line : Line) → IsTrue (is_silent line) → HasOrigin quorums ledger line
silent-origin quorums ledger (Line.Chosen tx is_committed) h = absurd (cc)
silent-origin quorums ledger (Line.Heard a tx is_committed) h = absurd (cc)
silent-origin quorums ledger (Line.Read number a known) h = absurd (cc)
silent-origin quorums ledger (Line.Begun tx next) h = tt
silent-origin quorums ledger (Line.Refused key fault) h = tt
silent-origin quorums ledger (Line.Deliver number next) h = tt
silent-origin quorums ledger (Line.Settle listed) h = tt
silent-origin quorums ledger (Line.Settled deliveries next) h = tt
silent-origin quorums ledger (Line.Tick a next) h = tt
silent-origin quorums ledger (Line.Sweep a next) h = tt
silent-origin quorums ledger (Line.Crash a) h = tt
silent-origin quorums ledger (Line.Stop a call image) h = tt
silent-origin quorums ledger (Line.Restart a epoch) h = tt
silent-origin quorums ledger (Line.Stopped a) h = tt
silent-origin quorums ledger (Line.Dropped a needed spare) h = tt
silent-origin quorums ledger (Line.End events messages commits aborts undecided) h = tt

-- ---- what an input tells

chosen-origins : (quorums : Sizes) (entry : Entry) (before : List Entry) → AllByRecursion (HasOrigin quorums (entry ∷ before)) (chosen_lines quorums entry before)
chosen-origins quorums entry before =
    told (new_outcomes quorums entry before) (recursion_from_All (Contains (new_outcomes quorums entry before)) (new_outcomes quorums entry before) (All-contains_itself (new_outcomes quorums entry before)))
  where
    told : (news : List (TxId × Outcome)) → AllByRecursion (Contains (new_outcomes quorums entry before)) news → AllByRecursion (HasOrigin quorums (entry ∷ before)) (map (λ (e : TxId × Outcome). Line.Chosen e.0 (is_commit e.1)) news)
    told [] h = tt
    told (e ∷ news) h = ((e.1, refl, record { later = []; entry = entry; before = before; parts = refl; is_new = h.0 }), told news h.1)

heard-origins : (quorums : Sizes) (a : ℕ) (fact : Fact) (before : List Entry) → AllByRecursion (HasOrigin quorums (Added a fact ∷ before)) (heard_lines a fact)
heard-origins quorums a (Fact.Heard tx outcome) before = ((outcome, refl, record { later = []; before = before; parts = refl }), tt)
heard-origins quorums a (Fact.Booted epoch) before = tt
heard-origins quorums a (Fact.Floor centre era seq) before = tt
heard-origins quorums a (Fact.Promised key low high ballot) before = tt
heard-origins quorums a (Fact.Voted key version ballot options offered) before = tt
heard-origins quorums a (Fact.Adopted key version item adds) before = tt

-- the ledger grew, and the lines have their origins in it
abbrev pub Told : World → World → List Line → Type 0
Told w x lines = Grows w x × AllByRecursion (HasOrigin w.cluster.quorums x.ledger) lines

told-input : (w : World) (a : ℕ) (r : Result NodeStep StepFault) → Told w (input_happened w a r).world (input_happened w a r).lines
told-input w a (Err (StepFault.NoRoom needed spare)) = (grows-none w, (tt, tt))
told-input w a (Err StepFault.Foreign) = (grows-none w, tt)
told-input w a (Err StepFault.Crowded) = (grows-none w, tt)
told-input w a (Err StepFault.Exhausted) = (grows-none w, tt)
told-input w a (Err StepFault.Memory) = (grows-none w, tt)
told-input w a (Ok step) = by_fact step.fact
  where
    stopped : (fact : Fact) (stop : ℕ × Image) (b : Bool) → is_frame_kept stop.0 stop.1 ≡ b → Told w (step_stopped w a fact stop).world (step_stopped w a fact stop).lines
    stopped fact stop true e = rw e (record { same = refl; later = Added a fact ∷ []; parts = refl }, (tt, chosen-origins w.cluster.quorums (Added a fact) w.ledger))
    stopped fact stop false e = rw e (record { same = refl; later = []; parts = refl }, (tt, tt))

    by_stop : (fact : Fact) (o : Option (ℕ × Image)) → Told w (fact_happened w a step fact o).world (fact_happened w a step fact o).lines
    by_stop fact None = (
      record { same = refl; later = Added a fact ∷ step.entries; parts = refl },
      each-append (HasOrigin w.cluster.quorums (Added a fact ∷ (step.entries ++ w.ledger))) (chosen_lines w.cluster.quorums (Added a fact) (step.entries ++ w.ledger)) (heard_lines a fact)
          (chosen-origins w.cluster.quorums (Added a fact) (step.entries ++ w.ledger)) (heard-origins w.cluster.quorums a fact (step.entries ++ w.ledger)),
    )
    by_stop fact (Some stop) = stopped fact stop (is_frame_kept stop.0 stop.1) refl

    by_fact : (o : Option Fact) → Told w (step_happened_by w a step o).world (step_happened_by w a step o).lines
    by_fact None = (record { same = refl; later = step.entries; parts = refl }, tt)
    by_fact (Some fact) = by_stop fact (striking_at w a)

told-both : (v w x : World) (ls ks : List Line) → Told v w ls → Told w x ks → Told v x (ls ++ ks)
told-both v w x ls ks g h = (
  grows-both v w x g.0 h.0,
  each-append (HasOrigin v.cluster.quorums x.ledger) ls ks
      (each-weaker (HasOrigin v.cluster.quorums w.ledger) (HasOrigin v.cluster.quorums x.ledger) ls (origin-stays v.cluster.quorums w.ledger h.0.later x.ledger h.0.parts) g.1)
      (subst (λ cluster. AllByRecursion (HasOrigin cluster.quorums x.ledger) ks) g.0.same h.1),
)

told-kept : IsKept Told
told-kept = record {
  none = λ w. (grows-none w, tt);
  join = told-both;
  silent = λ w line s. (grows-none w, (silent-origin w.cluster.quorums w.ledger line s, tt));
  count = λ w free. (record { same = refl; later = []; parts = refl }, tt);
  input = λ w sent a input free up. let t = told-input _ a _ in (record { same = t.0.same; later = t.0.later; parts = t.0.parts }, t.1);
  read = λ w a key free. (record { same = refl; later = []; parts = refl }, (record { later = []; before = w.ledger; parts = refl; shown = refl }, tt));
  boot = λ w a epoch free. (record { same = refl; later = Added a (Fact.Booted epoch) ∷ []; parts = refl }, tt);
  site = λ w a site free. (record { same = refl; later = []; parts = refl }, tt);
}

pub runs-tell : (w : World) (events : List Event) → Told w (run_of w events).world (run_of w events).lines
runs-tell w events = runs-keep Told (told-kept) w events
