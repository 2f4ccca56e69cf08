-- A step stops at its fact, and its centre goes down.
use Rattle.std.proofs.Common.{◌≡◌, ℕ, ◌+◌, ◌-◌, ◌<◌, ◌≤◌, Bool, true, false, List, [], ◌∷◌, ◌++◌, refl, sym, ap, ◌∙◌, subst, inl, inr, Option, Some, None, Result, Ok, Err, arith, length, get_or, nat_le, if◌then◌else◌, append-nil, append_assoc}
use Rattle.std.specs.Bool.{OnFalse}
use Rattle.std.specs.Prelude.{set}
use Rattle.std.proofs.lemmas.Bool.{cases_Bool, le-leb, leb-true, lt-leb}
use Rattle.mdcc_base.specs.Sizes.{Sizes}
use Rattle.mdcc_base.specs.declared.outside.Image.{Image}
use Rattle.mdcc_def_ledger.specs.Ledger.{Added, Entry, facts_of}
use Rattle.mdcc_world_logs.specs.Tails.{HasTail, tail_at}
use Rattle.mdcc_world_logs.specs.Represents.{LogsRepresent, with_fact_at, with_up}
use Rattle.mdcc_def_messages.specs.declared.facts.Fact.{Fact}
use Rattle.mdcc_def_language.specs.declared.lines.Line.{Line}
use Rattle.mdcc_def_language.specs.declared.world.EventFault.{EventFault}
use Rattle.mdcc_option.specs.declared.faults.BeginFault.{BeginFault}
use Rattle.mdcc_option.specs.declared.items.Part.{Part}
use Rattle.mdcc_base.specs.declared.identifiers.TxId.{TxId}
use Rattle.mdcc_def_protocol.specs.Facts.{epoch_of}
use Rattle.mdcc_def_protocol.specs.Volatile.{Managing, Volatile}
use Rattle.mdcc_option.specs.declared.cluster.Cluster.{Cluster}
use Rattle.mdcc_world_decisions.specs.Represents.{RepresentsLedger}
use Rattle.mdcc_def_rules.specs.ManagerRules.{begin_step, begin_step_by}
use Rattle.mdcc_def_protocol.specs.Manager as Manager
use Rattle.mdcc_def_rules.specs.Steps.{NodeStep, step_given}
use Rattle.mdcc_def_rules.specs.declared.node.Input.{Input}
use Rattle.mdcc_def_rules.specs.declared.node.Step.{Step}
use Rattle.mdcc_def_rules.specs.declared.node.StepFault.{StepFault}
use Rattle.mdcc_def_simulation.specs.State.{Happened, World, centre_at, down, is_up_at, with_centre}
use Rattle.mdcc_def_simulation.specs.Limits.{input_limited, passed_log_limit, unless_limit, is_out_of_memory}
use Rattle.mdcc_def_simulation.specs.AppliedSteps.{chosen_lines, fact_happened, input_happened, step_at, step_happened_by, step_stopped}
use Rattle.mdcc_theorem_worlds.proofs.Events.{input-is}
use Rattle.mdcc_theorem_worlds.proofs.Staying.{limited-stays}
use Rattle.mdcc_theorem_worlds.proofs.Within.{made-quiet}
use Rattle.mdcc_theorem_worlds.specs.StepSends.{is_begin_input}
use Rattle.mdcc_theorem_worlds.specs.WorldInvariant.{IsWorld}
use Rattle.mdcc_theorem_worlds.specs.StepEffects.{step_reported, reported_by, reported_stopped, ledger_with_fact}
use Rattle.mdcc_world.proofs.Crashed.{open-set, stops-set, tails-set, ups-set}
use Rattle.mdcc_world.proofs.Happened.{any-fault, limited, may_be}
use Rattle.mdcc_world.proofs.Took.{logs-same, ok-given, valued-uncounted}
use Rattle.mdcc_world.specs.StepOutputs.{facts_with}
use Rattle.mdcc_world.specs.NodeRuns.{HasRun}
use Rattle.mdcc_world.specs.Nodes.{NodesRepresent}
use Rattle.mdcc_world.specs.Represents.{Happens, HasHappened, IsLike, entries_of_step}
use Rattle.mdcc_world.specs.StoppedAppend.{kept_entries, kept_lines}
use Rattle.mdcc_world.specs.declared.world.World.{World as TheWorld}
use Rattle.mdcc_world_logs.specs.Stopping.{stopped_facts}
use Rattle.mdcc_def_rules.specs.Here.{here}
use Rattle.mdcc_def_simulation.specs.Checkpoints.{is_checkpoint_kept, is_due_after, is_frame_kept, striking, striking_at, tail_stopped}

-- ---- what a stop strikes

-- from the fifth call on, a checkpoint that is due
pub struck-due : (tail : ℕ) (armed : Option (ℕ × Image)) (call : ℕ) (image : Image) → striking tail armed ≡ Some (call, image) → 5 ≤ call → is_due_after tail ≡ true
struck-due tail None call image e late = absurd (cc)
struck-due tail (Some stop) call image e late = elim (cases_Bool (nat_le stop.0 4)) [
  | inl early ↦
      let same : Some stop ≡ Some (call, image) = rw early at e in
      let is : stop ≡ (call, image) = cc in
      let few = leb-true stop.0 4 early in
      absurd (omega (ap (λ (s : ℕ × Image). s.0) is, few, late, arith))
  | inr other ↦ elim (cases_Bool (is_due_after tail)) [
    | inl due ↦ due
    | inr not ↦
        let none : striking tail (Some stop) ≡ None = rw (other, not) refl in
        let clash : ◌≡◌ {A = Option (ℕ × Image)} None (Some (call, image)) = sym none ∙ e in
        absurd (cc)
  ]
]

-- inside an append each armed stop does
pub strikes-early : (tail : ℕ) (stop : ℕ × Image) → stop.0 ≤ 4 → striking tail (Some stop) ≡ Some stop
strikes-early tail stop few = let early : nat_le stop.0 4 ≡ true = le-leb stop.0 4 few in rw early refl

pub strikes-due : (tail : ℕ) (stop : ℕ × Image) → is_due_after tail ≡ true → striking tail (Some stop) ≡ Some stop
strikes-due tail stop due = elim (cases_Bool (nat_le stop.0 4)) [
  | inl early ↦ rw early refl
  | inr other ↦ rw (other, due) refl
]

pub strikes-not : (tail : ℕ) (stop : ℕ × Image) → 4 < stop.0 → is_due_after tail ≡ false → striking tail (Some stop) ≡ None
strikes-not tail stop late not = let other : nat_le stop.0 4 ≡ false = lt-leb stop.0 4 late in rw (other, not) refl

-- what the world says of it
pub strikes-as : (world : TheWorld) (w : World) (a : ℕ) (input : Input) (made : Result Step StepFault) → HasRun world w a input made
    → (armed result : Option (ℕ × Image)) → armed ≡ get_or world.stops (a - 1) None → striking (tail_at world.logs a) armed ≡ result → result ≡ striking_at w a
strikes-as world w a input made run armed result is strikes =
    sym (ap (λ (n : ℕ). striking n (centre_at w a).stop) (sym (run.before.tails a run.before.centre))
    ∙ ap (striking (tail_at world.logs a)) (sym (run.before.records.stops a run.before.centre) ∙ sym is) ∙ strikes)

-- ---- the logs say the same

pub kept-tail : (tail place call : ℕ) (image : Image) → is_frame_kept place image ≡ is_frame_kept call image → is_checkpoint_kept place image ≡ is_checkpoint_kept call image
    → tail_stopped tail place image ≡ tail_stopped tail call image
kept-tail tail place call image kept copied =
    ap (λ (b : Bool). if b then 0 else (if is_frame_kept place image then tail + 1 else tail)) copied
    ∙ ap (λ (b : Bool). if is_checkpoint_kept call image then 0 else (if b then tail + 1 else tail)) kept

pub kept-facts : (facts : ℕ → List Fact) (a : ℕ) (fact : Fact) (place call : ℕ) (image : Image) → is_frame_kept place image ≡ is_frame_kept call image
    → stopped_facts facts a fact place image ≡ stopped_facts facts a fact call image
kept-facts facts a fact place call image same = ap (λ (b : Bool). if b then with_fact_at facts a fact else facts) same

-- ---- a begin adds no fact

no-fact : (cluster : Cluster) (me : ℕ) (facts : List Fact) (volatile : Volatile) (parts : List Part) (r : Result (TxId × Managing) BeginFault)
    → (begin_step_by (here cluster me facts) volatile parts r).fact ≡ None
no-fact cluster me facts volatile parts (Err fault) = refl
no-fact cluster me facts volatile parts (Ok (tx, manager)) = refl

begin-adds_none : (cluster : Cluster) (me : ℕ) (facts : List Fact) (volatile : Volatile) (parts : List Part) → (begin_step (here cluster me facts) volatile parts).fact ≡ None
begin-adds_none cluster me facts volatile parts = no-fact cluster me facts volatile parts (Manager.begin me (epoch_of facts) facts volatile.manager parts)

-- ---- what a step stands on

module _ (world : TheWorld) (w : World) (a : ℕ) (input : Input) (step : Step) (made : HasRun world w a input (Ok step)) (fact : Fact) (has : step.fact ≡ Some fact) where
  abbrev result : Result NodeStep StepFault
  result = step_at w a input

  abbrev gave : (s : NodeStep) × (result ≡ Ok s) × (step ≡ step_given s)
  gave = ok-given step result made.before.step_itself

  abbrev s : NodeStep
  s = gave.0

  fact-is : s.fact ≡ Some fact
  fact-is = sym (ap (λ (x : Step). x.fact) gave.2) ∙ has

  -- it is no begin
  other : is_begin_input input ≡ false
  other = by_input input refl gave.1
    where
      by_input : (i : Input) → input ≡ i → step_at w a i ≡ Ok s → is_begin_input i ≡ false
      by_input Input.Tick e k = refl
      by_input Input.Sweep e k = refl
      by_input (Input.Message envelope) e k = refl
      by_input (Input.Read key) e k = refl
      by_input (Input.Begin parts) e k =
          let same : begin_step (here w.cluster a (facts_of w.ledger a)) (centre_at w a).volatile parts ≡ s = cc in
          let none : s.fact ≡ None = ap (λ (x : NodeStep). x.fact) (sym same) ∙ begin-adds_none w.cluster a (facts_of w.ledger a) (centre_at w a).volatile parts in
          let bad : Some fact ≡ None = sym fact-is ∙ none in
          absurd (cc)

  -- so no entry but its fact was counted
  uncounted : RepresentsLedger world.decisions w.cluster.quorums w.ledger
  uncounted =
      let here : RepresentsLedger world.decisions w.cluster.quorums (s.entries ++ w.ledger) =
      subst (λ (r : Result NodeStep StepFault). RepresentsLedger world.decisions w.cluster.quorums (entries_of_step r ++ w.ledger)) gave.1 made.before.decisions in
      valued-uncounted world.decisions w.cluster.quorums a s.entries w.ledger
      (made-quiet w.cluster a (facts_of w.ledger a) (centre_at w a).volatile input s made.before.records.itself.cluster_itself.quorums made.before.well_formed other gave.1) here

  module _ (call : ℕ) (image : Image) (strikes : striking_at w a ≡ Some (call, image)) where
    happens : input_happened w a result ≡ step_stopped w a fact (call, image)
    happens =
        ap (input_happened w a) gave.1 ∙ ap (step_happened_by w a s) fact-is ∙ ap (fact_happened w a s fact) strikes

    comes : input_limited w a result ≡ reported_stopped w a fact (call, image)
    comes =
        input-is w a result ∙ ap (step_reported w a) gave.1 ∙ ap (λ (o : Option Fact). reported_by w a s o (striking_at w a)) fact-is
        ∙ ap (reported_by w a s (Some fact)) strikes

    -- the limit of the log refuses it
    pub stop-refused : (fault : EventFault) → Err fault ≡ may_be (passed_log_limit w a fact)
        → OnFalse (is_out_of_memory fault) (input_limited w a (step_at w a input) ≡ Err fault)
    stop-refused fault closed =
        any-fault (is_out_of_memory fault)
        (comes ∙ ap (λ (o : Option EventFault). unless_limit o (step_stopped w a fact (call, image))) (limited (passed_log_limit w a fact) fault closed))

    module _ (new : TheWorld)
        (rest : new ≡ record world { up = set world.up (a - 1) false; stops = set world.stops (a - 1) None; logs = new.logs; decisions = new.decisions })
        (many : length world.up ≡ 9) (armable : length world.stops ≡ 9) (nine : a ≤ 9) where
      abbrev tail : ℕ
      tail = tail_stopped (centre_at w a).tail call image

      -- the world is down at the centre, with this fact of it or without
      down-like : (o : Option Fact) → IsWorld (record (with_centre w a (down tail)) { ledger = ledger_with_fact a o w.ledger })
          → NodesRepresent world.nodes.items (record (with_centre w a (down tail)) { ledger = ledger_with_fact a o w.ledger })
          → LogsRepresent new.logs w.cluster.quorums.centres (with_up (is_up_at w) a false) (facts_with (facts_of w.ledger) a o)
          → HasTail world.logs new.logs a (tail_stopped (tail_at world.logs a) call image)
          → RepresentsLedger new.decisions w.cluster.quorums (ledger_with_fact a o w.ledger)
          → IsLike new (record (with_centre w a (down tail)) { ledger = ledger_with_fact a o w.ledger })
      down-like o itself nodes logs has decisions =
          let records = made.before.records in
          record {
            records = record {
              itself = itself;
              cluster = ap (λ (x : TheWorld). x.cluster) rest ∙ records.cluster;
              network = ap (λ (x : TheWorld). x.network) rest ∙ records.network;
              bytes = ap (λ (x : TheWorld). x.bytes) rest ∙ records.bytes;
              reads = ap (λ (x : TheWorld). x.reads) rest ∙ records.reads;
              few_reads = records.few_reads;
              events = ap (λ (x : TheWorld). x.events) rest ∙ records.events;
              ups = rw (ap (λ (x : TheWorld). x.up) rest) (ups-set w a (down tail) records.itself made.before.centre world.up false many nine refl records.ups);
              stops = rw (ap (λ (x : TheWorld). x.stops) rest)
                  (stops-set w a (down tail) records.itself made.before.centre world.stops None (omega (armable, nine, arith)) refl records.stops);
            };
            decisions = decisions;
            nodes = rw (ap (λ (x : TheWorld). x.nodes) rest) nodes;
            logs = logs-same new.logs w.cluster.quorums.centres (with_up (is_up_at w) a false) (is_up_at (with_centre w a (down tail)))
                (facts_with (facts_of w.ledger) a o) (facts_of (ledger_with_fact a o w.ledger))
                (λ b some within. open-set w a (down tail) records.itself made.before.centre false refl b some) (λ b some within. facts-down o b) logs;
            tails = tails-set w a (down tail) records.itself made.before.centre world.logs new.logs (tail_stopped (tail_at world.logs a) call image) has
                (ap (λ (n : ℕ). tail_stopped n call image) (made.before.tails a made.before.centre)) made.before.tails;
          }
        where
          facts-down : (o : Option Fact) (b : ℕ) → facts_with (facts_of w.ledger) a o b ≡ facts_of (ledger_with_fact a o w.ledger) b
          facts-down None b = refl
          facts-down (Some new) b = refl

      -- its frame is there, or not
      abbrev left : Bool → Happened
      left kept =
          if kept
          then record {
            world = record (with_centre w a (down tail)) { ledger = Added a fact ∷ w.ledger };
            lines = Line.Stopped a ∷ chosen_lines w.cluster.quorums (Added a fact) w.ledger;
          }
          else record { world = with_centre w a (down tail); lines = Line.Stopped a ∷ [] }

      by-frame : (kept : Bool) (before lines : List Line) → IsWorld (left kept).world → NodesRepresent world.nodes.items (left kept).world
          → LogsRepresent new.logs w.cluster.quorums.centres (with_up (is_up_at w) a false) (if kept then with_fact_at (facts_of w.ledger) a fact else facts_of w.ledger)
          → HasTail world.logs new.logs a (tail_stopped (tail_at world.logs a) call image)
          → RepresentsLedger new.decisions w.cluster.quorums (if kept then Added a fact ∷ w.ledger else w.ledger)
          → lines ≡ (before ++ Line.Stopped a ∷ []) ++ (if kept then chosen_lines w.cluster.quorums (Added a fact) w.ledger else [])
          → HasHappened new before lines (left kept)
      by-frame true before lines itself nodes logs has counted reported = record {
        like = down-like (Some fact) itself nodes logs has counted;
        lines = reported ∙ append_assoc before (Line.Stopped a ∷ []) (chosen_lines w.cluster.quorums (Added a fact) w.ledger);
      }
      by-frame false before lines itself nodes logs has counted reported = record {
        like = down-like None itself nodes logs has counted;
        lines = reported ∙ append-nil (before ++ Line.Stopped a ∷ []);
      }

      pub step-stops : (before lines : List Line) → passed_log_limit w a fact ≡ None
          → LogsRepresent new.logs w.cluster.quorums.centres (with_up (is_up_at w) a false) (stopped_facts (facts_of w.ledger) a fact call image)
          → HasTail world.logs new.logs a (tail_stopped (tail_at world.logs a) call image)
          → ((quorums : Sizes) (entries : List Entry) → RepresentsLedger world.decisions quorums entries → RepresentsLedger new.decisions quorums (kept_entries a fact call image entries))
          → ((quorums : Sizes) (entries : List Entry) → RepresentsLedger world.decisions quorums entries
          → lines ≡ (before ++ Line.Stopped a ∷ []) ++ kept_lines quorums a fact call image entries)
          → Happens {T = Unit {0}} new before lines (Ok tt) (input_limited w a (step_at w a input))
      step-stops before lines within logs has ledger reported =
          let is : input_limited w a result ≡ Ok (step_stopped w a fact (call, image)) =
          comes ∙ ap (λ (o : Option EventFault). unless_limit o (step_stopped w a fact (call, image))) within in
          let itself : IsWorld (step_stopped w a fact (call, image)).world =
          limited-stays w a input (step_stopped w a fact (call, image)) made.before.records.itself made.before.centre made.before.well_formed is in
          let nodes : NodesRepresent world.nodes.items (step_stopped w a fact (call, image)).world =
          subst (λ (h : Happened). NodesRepresent world.nodes.items h.world) happens made.nodes in
          let counted = ledger w.cluster.quorums w.ledger uncounted in
          let lines-are = reported w.cluster.quorums w.ledger uncounted in
          subst (λ (r : Result Happened EventFault). Happens {T = Unit {0}} new before lines (Ok tt) r) (sym is)
          (by-frame (is_frame_kept call image) before lines itself nodes logs has counted lines-are)
