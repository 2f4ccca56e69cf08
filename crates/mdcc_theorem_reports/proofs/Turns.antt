-- Each line of a run is told at the entry from which it is so, one after the other.
use Rattle.std.proofs.Common.{Bool, List, None, Option, Some, [], ap, false, refl, subst, sym, true, ℕ, ◌++◌, ◌∙◌, ◌∷◌, ◌≡◌}
use Rattle.std.specs.List.{AllByRecursion}
use Rattle.std.specs.Prelude.{Contains, Err, IsTrue, Ok, Result, map}
use Rattle.std.proofs.lemmas.List.Elements.{All-contains_itself, recursion_from_All}
use Rattle.mdcc_base.specs.Sizes.{Sizes}
use Rattle.mdcc_base.specs.declared.identifiers.TxId.{TxId}
use Rattle.mdcc_base.specs.declared.outside.Image.{Image}
use Rattle.mdcc_option.specs.declared.choices.Outcome.{Outcome}
use Rattle.mdcc_def_ledger.specs.Ledger.{Added, Entry, new_outcomes}
use Rattle.mdcc_def_protocol.specs.Marks.{is_commit}
use Rattle.mdcc_def_rules.specs.Steps.{NodeStep}
use Rattle.mdcc_def_rules.specs.declared.node.StepFault.{StepFault}
use Rattle.mdcc_def_simulation.specs.State.{World}
use Rattle.mdcc_def_simulation.specs.AppliedSteps.{chosen_lines, fact_happened, heard_lines, input_happened, step_at, step_happened_by, step_stopped}
use Rattle.mdcc_def_simulation.specs.Checkpoints.{is_frame_kept, striking_at}
use Rattle.mdcc_def_simulation.specs.Runs.{run_of}
use Rattle.mdcc_def_language.specs.declared.events.Event.{Event}
use Rattle.mdcc_def_language.specs.declared.lines.Line.{Line}
use Rattle.mdcc_def_messages.specs.declared.facts.Fact.{Fact}
use Rattle.mdcc_theorem_reports.specs.Origins.{AreInTurn, BeginsAt, IsLater}
use Rattle.mdcc_theorem_reports.proofs.Lists.{together}
use Rattle.mdcc_theorem_reports.proofs.Walk.{IsKept, counted_with, is_silent, runs-keep}

-- ---- growth

later-none : (es : List Entry) → IsLater es es
later-none es = ([], refl)

pub later-both : (first now last : List Entry) → IsLater first now → IsLater now last → IsLater first last
later-both first now last g h = (h.0 ++ g.0, h.1 ∙ ap (λ es. h.0 ++ es) g.1 ∙ sym (together h.0 g.0 first))

module _ (quorums : Sizes) where
  -- lines may be told from an earlier ledger on
  pub turn-from : (first now last : List Entry) (lines : List Line) → IsLater first now → AreInTurn quorums now last lines → AreInTurn quorums first last lines
  turn-from first now last [] g h = later-both first now last g h
  turn-from first now last (line ∷ lines) g h = (h.0, later-both first now h.0 g h.1, h.2, h.3)

  turn-both : (first now last : List Entry) (ls ks : List Line) → AreInTurn quorums first now ls → AreInTurn quorums now last ks → AreInTurn quorums first last (ls ++ ks)
  turn-both first now last [] ks g h = turn-from first now last ks g h
  turn-both first now last (line ∷ ls) ks g h = (g.0, g.1, g.2, turn-both g.0 now last ls ks g.3 h)

  -- the last ledger is one of those that grew
  pub turn-grows : (first last : List Entry) (lines : List Line) → AreInTurn quorums first last lines → IsLater first last
  turn-grows first last [] h = h
  turn-grows first last (line ∷ lines) h = later-both first h.0 last h.1 (turn-grows h.0 last lines h.3)

  -- lines that are all told at one ledger
  turn-here : (first last : List Entry) (lines : List Line) → IsLater first last → AllByRecursion (BeginsAt quorums last) lines → AreInTurn quorums first last lines
  turn-here first last [] g h = g
  turn-here first last (line ∷ lines) g h = (last, g, h.0, turn-here last last lines (later-none last) h.1)

  silent-turn : (es : List Entry) (line : Line) → IsTrue (is_silent line) → BeginsAt quorums es line
  silent-turn es (Line.Chosen tx is_committed) h = absurd (cc)
  silent-turn es (Line.Heard a tx is_committed) h = absurd (cc)
  silent-turn es (Line.Read number a known) h = absurd (cc)
  silent-turn es (Line.Begun tx next) h = tt
  silent-turn es (Line.Refused key fault) h = tt
  silent-turn es (Line.Deliver number next) h = tt
  silent-turn es (Line.Settle listed) h = tt
  silent-turn es (Line.Settled deliveries next) h = tt
  silent-turn es (Line.Tick a next) h = tt
  silent-turn es (Line.Sweep a next) h = tt
  silent-turn es (Line.Crash a) h = tt
  silent-turn es (Line.Stop a call image) h = tt
  silent-turn es (Line.Restart a epoch) h = tt
  silent-turn es (Line.Stopped a) h = tt
  silent-turn es (Line.Dropped a needed spare) h = tt
  silent-turn es (Line.End events messages commits aborts undecided) h = tt

  -- ---- what an input tells

  chosen-turn : (entry : Entry) (before : List Entry) → AllByRecursion (BeginsAt quorums (entry ∷ before)) (chosen_lines quorums entry before)
  chosen-turn entry before =
      told (new_outcomes quorums entry before) (recursion_from_All (Contains (new_outcomes quorums entry before)) (new_outcomes quorums entry before) (All-contains_itself (new_outcomes quorums entry before)))
    where
      told : (news : List (TxId × Outcome)) → AllByRecursion (Contains (new_outcomes quorums entry before)) news → AllByRecursion (BeginsAt quorums (entry ∷ before)) (map (λ (e : TxId × Outcome). Line.Chosen e.0 (is_commit e.1)) news)
      told [] h = tt
      told (e ∷ news) h = ((e.1, refl, entry, before, refl, h.0), told news h.1)

  heard-turn : (a : ℕ) (fact : Fact) (before : List Entry) → AllByRecursion (BeginsAt quorums (Added a fact ∷ before)) (heard_lines a fact)
  heard-turn a (Fact.Heard tx outcome) before = ((outcome, refl, before, refl), tt)
  heard-turn a (Fact.Booted epoch) before = tt
  heard-turn a (Fact.Floor centre era seq) before = tt
  heard-turn a (Fact.Promised key low high ballot) before = tt
  heard-turn a (Fact.Voted key version ballot options offered) before = tt
  heard-turn a (Fact.Adopted key version item adds) before = tt

-- the cluster stays, and the lines are told in turn between the ledgers
abbrev pub Turns : World → World → List Line → Type 0
Turns w x lines = (x.cluster ≡ w.cluster) × AreInTurn w.cluster.quorums w.ledger x.ledger lines

none-turn : (w : World) → Turns w w []
none-turn w = (refl, later-none w.ledger)

both-turn : (v w x : World) (ls ks : List Line) → Turns v w ls → Turns w x ks → Turns v x (ls ++ ks)
both-turn v w x ls ks g h = (
  h.0 ∙ g.0,
  turn-both v.cluster.quorums v.ledger w.ledger x.ledger ls ks g.1 (subst (λ cluster. AreInTurn cluster.quorums w.ledger x.ledger ks) g.0 h.1),
)

turn-input : (w : World) (a : ℕ) (r : Result NodeStep StepFault) → Turns w (input_happened w a r).world (input_happened w a r).lines
turn-input w a (Err (StepFault.NoRoom needed spare)) = (refl, (w.ledger, later-none w.ledger, tt, later-none w.ledger))
turn-input w a (Err StepFault.Foreign) = none-turn w
turn-input w a (Err StepFault.Crowded) = none-turn w
turn-input w a (Err StepFault.Exhausted) = none-turn w
turn-input w a (Err StepFault.Memory) = none-turn w
turn-input w a (Ok step) = by_fact step.fact
  where
    stopped : (fact : Fact) (stop : ℕ × Image) (b : Bool) → is_frame_kept stop.0 stop.1 ≡ b → Turns w (step_stopped w a fact stop).world (step_stopped w a fact stop).lines
    stopped fact stop true e =
        rw e (
          refl,
          (w.ledger, later-none w.ledger, tt, turn-here w.cluster.quorums w.ledger (Added a fact ∷ w.ledger) (chosen_lines w.cluster.quorums (Added a fact) w.ledger) (Added a fact ∷ [], refl) (chosen-turn w.cluster.quorums (Added a fact) w.ledger)),
        )
    stopped fact stop false e = rw e (refl, (w.ledger, later-none w.ledger, tt, later-none w.ledger))

    by_stop : (fact : Fact) (o : Option (ℕ × Image)) → Turns w (fact_happened w a step fact o).world (fact_happened w a step fact o).lines
    by_stop fact None =
        let before : List Entry = step.entries ++ w.ledger in
        let now : List Entry = Added a fact ∷ before in (
          refl,
          turn-both w.cluster.quorums w.ledger now now (chosen_lines w.cluster.quorums (Added a fact) before) (heard_lines a fact)
              (turn-here w.cluster.quorums w.ledger now (chosen_lines w.cluster.quorums (Added a fact) before) (Added a fact ∷ step.entries, refl) (chosen-turn w.cluster.quorums (Added a fact) before))
              (turn-here w.cluster.quorums now now (heard_lines a fact) (later-none now) (heard-turn w.cluster.quorums a fact before)),
        )
    by_stop fact (Some stop) = stopped fact stop (is_frame_kept stop.0 stop.1) refl

    by_fact : (o : Option Fact) → Turns w (step_happened_by w a step o).world (step_happened_by w a step o).lines
    by_fact None = (refl, (step.entries, refl))
    by_fact (Some fact) = by_stop fact (striking_at w a)

turn-kept : IsKept Turns
turn-kept = record {
  none = none-turn;
  join = both-turn;
  silent = λ w line s. (refl, (w.ledger, later-none w.ledger, silent-turn w.cluster.quorums w.ledger line s, later-none w.ledger));
  count = λ w free. none-turn w;
  input = λ w sent a input free up. turn-input (counted_with w sent) a (step_at (counted_with w sent) a input);
  read = λ w a key free. (refl, (w.ledger, later-none w.ledger, refl, later-none w.ledger));
  boot = λ w a epoch free. (refl, (Added a (Fact.Booted epoch) ∷ [], refl));
  site = λ w a site free. none-turn w;
}

pub runs-turn : (w : World) (events : List Event) → Turns w (run_of w events).world (run_of w events).lines
runs-turn w events = runs-keep Turns (turn-kept) w events
