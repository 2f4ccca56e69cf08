-- What a step brings is taken.
use Rattle.std.proofs.Common.{◌≡◌, ℕ, zero, suc, ◌+◌, ◌≢◌, ◌≤◌, ◌==◌, ◌&&◌, Bool, true, false, List, [], ◌∷◌, ◌++◌, refl, sym, ap, ◌∙◌, subst, inl, inr, Option, Some, None, Result, Ok, Err, map, append-nil, arith}
use Rattle.std.specs.Bool.{OnFalse}
use Rattle.std.specs.List.{AllByRecursion}
use Rattle.std.proofs.lemmas.Bool.{cases_Bool, eq-eqb, eqb-true}
use Rattle.mdcc_base.specs.Sizes.{Sizes}
use Rattle.mdcc_base.specs.declared.faults.Memory.{Memory}
use Rattle.mdcc_base.specs.declared.outside.Image.{Image}
use Rattle.mdcc_world_logs.specs.Represents.{IsLogOf, LogsRepresent}
use Rattle.mdcc_world_logs.specs.Tails.{HasTail, tail_at}
use Rattle.mdcc_world_logs.specs.declared.logs.Logs.{Logs}
use Rattle.mdcc_node.specs.StepAnswers.{step_result}
use Rattle.mdcc_world_decisions.specs.Decided.{entry_decisions}
use Rattle.mdcc_world_decisions.specs.Represents.{RepresentsLedger}
use Rattle.mdcc_world_decisions.specs.declared.decisions.Decisions.{Decisions}
use Rattle.mdcc_option.specs.declared.choices.Outcome.{Outcome}
use Rattle.mdcc_def_protocol.specs.Belongs.{is_centre}
use Rattle.mdcc_def_ledger.specs.Ledger.{Added, Begun, Entry, Valued, facts_of, new_outcomes}
use Rattle.mdcc_def_messages.specs.Lengths.{messages_length}
use Rattle.mdcc_def_protocol.specs.Marks.{is_commit}
use Rattle.mdcc_def_rules.specs.Steps.{NodeStep, step_given}
use Rattle.mdcc_def_simulation.specs.State.{Happened, SimulatedSite, World, booted_to, centre_at, is_up_at}
use Rattle.mdcc_def_messages.specs.Mailbox.{Sent, unsent}
use Rattle.mdcc_def_simulation.specs.AppliedSteps.{chosen_lines, input_happened, step_at, step_happened, step_happened_by}
use Rattle.mdcc_def_simulation.specs.Checkpoints.{striking_at}
use Rattle.mdcc_def_simulation.specs.Limits.{input_limited, unless_limit, is_out_of_memory}
use Rattle.mdcc_def_messages.specs.declared.facts.Fact.{Fact}
use Rattle.mdcc_def_language.specs.declared.lines.Line.{Line}
use Rattle.mdcc_def_messages.specs.declared.messages.Envelope.{Envelope}
use Rattle.mdcc_def_rules.specs.declared.node.Input.{Input}
use Rattle.mdcc_def_rules.specs.declared.node.Step.{Step}
use Rattle.mdcc_def_rules.specs.declared.node.StepFault.{StepFault}
use Rattle.mdcc_def_language.specs.declared.world.EventFault.{EventFault}
use Rattle.mdcc_struct.specs.Maps.{TxMap}
use Rattle.mdcc_theorem_node_steps.specs.Inputs.{IsWellFormedInput}
use Rattle.mdcc_theorem_worlds.proofs.Events.{input-is}
use Rattle.mdcc_theorem_worlds.proofs.Staying.{limited-stays}
use Rattle.mdcc_theorem_worlds.proofs.Stays.{by-none, by-some, refused-same, site-here, site-there, some-centre}
use Rattle.mdcc_theorem_worlds.proofs.Within.{made-quiet, made-stays}
use Rattle.mdcc_theorem_worlds.specs.StepSends.{IsValuedBy, StaysWithin, is_begin_input}
use Rattle.mdcc_theorem_worlds.specs.WorldInvariant.{IsWorld}
use Rattle.mdcc_theorem_worlds.specs.StepEffects.{chosen_line, limit_passed, step_lines, step_reported, after_whole_step, reported_by, reported_whole, ledger_with_fact, tail_with_fact, world_after_step}
use Rattle.mdcc_world.proofs.Happened.{any-fault, limited, may_be}
use Rattle.mdcc_world.specs.StepOutputs.{facts_with, tail_with_new_fact}
use Rattle.mdcc_world.specs.NodeRuns.{HasRun}
use Rattle.mdcc_world.specs.Nodes.{NodesRepresent, StopsRepresent, TailsRepresent, UpsRepresent}
use Rattle.mdcc_world.specs.Represents.{Happens, entries_of_step}
use Rattle.mdcc_world.specs.StoppedAppend.{IsWholeStep}
use Rattle.mdcc_world.specs.Report.{dropped_lines}
use Rattle.mdcc_world.specs.declared.world.World.{World as TheWorld}

pub value-of : (x y : List Sent) → ◌≡◌ {A = Result (List Sent) Memory} (Ok x) (Ok y) → x ≡ y
value-of x y e = cc

-- ---- the lines of endings

endings-lines : (decisions : TxMap Outcome) → map chosen_line (map (λ e. (e.0, is_commit e.1)) decisions) ≡ map (λ e. Line.Chosen e.0 (is_commit e.1)) decisions
endings-lines [] = refl
endings-lines (e ∷ es) = ap (λ (lines : List Line). Line.Chosen e.0 (is_commit e.1) ∷ lines) (endings-lines es)

pub chosen-is : (quorums : Sizes) (entry : Entry) (before : List Entry) → map chosen_line (entry_decisions quorums entry before) ≡ chosen_lines quorums entry before
chosen-is quorums entry before = endings-lines (new_outcomes quorums entry before)

-- ---- structures and boots count for no outcome

valued-counted : (decisions : Decisions) (quorums : Sizes) (me : ℕ) (entries ledger : List Entry) → AllByRecursion (IsValuedBy me) entries
    → RepresentsLedger decisions quorums ledger → RepresentsLedger decisions quorums (entries ++ ledger)
valued-counted decisions quorums me [] ledger h stands = stands
valued-counted decisions quorums me (Added centre fact ∷ entries) ledger h stands = absurd h.0
valued-counted decisions quorums me (Begun centre tx choices ∷ entries) ledger h stands = absurd h.0
valued-counted decisions quorums me (Valued centre key version ballot options ∷ entries) ledger h stands =
    let rest = valued-counted decisions quorums me entries ledger h.1 stands in
    record {
      knows = rest.knows;
      begun = rest.begun;
      casts = λ tx. rest.casts tx ∙ sym (append-nil _);
      ballots = rest.ballots;
      counts = rest.counts;
      few = rest.few;
    }

-- nor without them
pub valued-uncounted : (decisions : Decisions) (quorums : Sizes) (me : ℕ) (entries ledger : List Entry) → AllByRecursion (IsValuedBy me) entries
    → RepresentsLedger decisions quorums (entries ++ ledger) → RepresentsLedger decisions quorums ledger
valued-uncounted decisions quorums me [] ledger h stands = stands
valued-uncounted decisions quorums me (Added centre fact ∷ entries) ledger h stands = absurd h.0
valued-uncounted decisions quorums me (Begun centre tx choices ∷ entries) ledger h stands = absurd h.0
valued-uncounted decisions quorums me (Valued centre key version ballot options ∷ entries) ledger h stands =
    valued-uncounted decisions quorums me entries ledger h.1
    (record {
      knows = stands.knows;
      begun = stands.begun;
      casts = λ tx. stands.casts tx ∙ append-nil _;
      ballots = stands.ballots;
      counts = stands.counts;
      few = stands.few;
    })

-- what an input tells beside its fact, but a begin
pub input-counted : (decisions : Decisions) (w : World) (a : ℕ) (input : Input) → IsWorld w → IsWellFormedInput input → is_begin_input input ≡ false
    → RepresentsLedger decisions w.cluster.quorums w.ledger → RepresentsLedger decisions w.cluster.quorums (entries_of_step (step_at w a input) ++ w.ledger)
input-counted decisions w a input stands formed other counted = by_result (step_at w a input) refl
  where
    by_result : (r : Result NodeStep StepFault) → step_at w a input ≡ r → RepresentsLedger decisions w.cluster.quorums (entries_of_step r ++ w.ledger)
    by_result (Err fault) e = counted
    by_result (Ok step) e =
        valued-counted decisions w.cluster.quorums a step.entries w.ledger
        (made-quiet w.cluster a (facts_of w.ledger a) (centre_at w a).volatile input step stands.cluster_itself.quorums formed other e) counted

pub booted-counted : (decisions : Decisions) (quorums : Sizes) (entries : List Entry) (a epoch : ℕ) → RepresentsLedger decisions quorums entries
    → RepresentsLedger decisions quorums (Added a (Fact.Booted epoch) ∷ entries)
booted-counted decisions quorums entries a epoch stands = record {
  knows = stands.knows;
  begun = stands.begun;
  casts = λ tx. stands.casts tx ∙ sym (append-nil _);
  ballots = stands.ballots;
  counts = stands.counts;
  few = stands.few;
}

pub first-counted : (decisions : Decisions) (quorums : Sizes) (n : ℕ) → RepresentsLedger decisions quorums [] → RepresentsLedger decisions quorums (booted_to n)
first-counted decisions quorums zero stands = stands
first-counted decisions quorums (suc n) stands = booted-counted decisions quorums (booted_to n) (suc n) 1 (first-counted decisions quorums n stands)

-- ---- what a node gave

pub ok-given : (step : Step) (r : Result NodeStep StepFault) → Ok step ≡ step_result r → (s : NodeStep) × (r ≡ Ok s) × (step ≡ step_given s)
ok-given step (Ok s) h = let same : step ≡ step_given s = cc in (s, refl, same)
ok-given step (Err fault) h = absurd (cc)

pub err-given : (fault : StepFault) (r : Result NodeStep StepFault) → Err fault ≡ step_result r → r ≡ Err fault
err-given fault (Ok s) h = absurd (cc)
err-given fault (Err other) h = let same : fault ≡ other = cc in rw same refl

pub refused-lines : (w : World) (a : ℕ) (fault : StepFault) → (input_happened w a (Err fault)).lines ≡ dropped_lines a fault
refused-lines w a StepFault.Foreign = refl
refused-lines w a (StepFault.NoRoom needed spare) = refl
refused-lines w a StepFault.Crowded = refl
refused-lines w a StepFault.Exhausted = refl
refused-lines w a StepFault.Memory = refl

-- ---- what stands of the centres after a step

-- logs stand for the same facts, of centres of which the same are up
pub logs-same : (logs : Logs) (centres : ℕ) (up ups : ℕ → Bool) (facts others : ℕ → List Fact) → ((a : ℕ) → 1 ≤ a → a ≤ centres → up a ≡ ups a)
    → ((a : ℕ) → 1 ≤ a → a ≤ centres → facts a ≡ others a) → LogsRepresent logs centres up facts → LogsRepresent logs centres ups others
logs-same logs centres up ups facts others alike same stand = record {
  as_many = stand.as_many;
  each = λ a some within.
      subst (λ (b : Bool). IsLogOf logs a b (others a)) (alike a some within) (subst (λ (x : List Fact). IsLogOf logs a (up a) x) (same a some within) (stand.each a some within));
}

module _ (w : World) (a : ℕ) (step : NodeStep) (world : IsWorld w) (centre : is_centre w.cluster a ≡ true) (stays : StaysWithin w.cluster step) where
  facts-here : (o : Option Fact) (b : ℕ) → facts_with (facts_of w.ledger) a o b ≡ facts_of (ledger_with_fact a o (step.entries ++ w.ledger)) b
  facts-here None b = sym (stays.entries w.ledger b)
  facts-here (Some fact) b = elim (cases_Bool (a == b)) [
    | inl e ↦ rw (e, stays.entries w.ledger b) refl
    | inr e ↦ rw (e, stays.entries w.ledger b) refl
  ]

  pub facts-taken : (b : ℕ) → facts_with (facts_of w.ledger) a step.fact b ≡ facts_of (world_after_step w a step).ledger b
  facts-taken b = facts-here step.fact b

  up-same : (b : ℕ) → 1 ≤ b → (centre_at (world_after_step w a step) b).is_up ≡ (centre_at w b).is_up
  up-same b some = elim (cases_Bool (a == b)) [
    | inl e ↦
        let same : a ≡ b = eqb-true a b e in
        subst (λ (n : ℕ). (centre_at (world_after_step w a step) n).is_up ≡ (centre_at w n).is_up) same (ap (λ (s : SimulatedSite). s.is_up) (site-here w a step world centre stays))
    | inr e ↦ ap (λ (s : SimulatedSite). s.is_up) (site-there w a step world centre stays b some e)
  ]

  pub up-taken : (b : ℕ) → 1 ≤ b → is_up_at w b ≡ is_up_at (world_after_step w a step) b
  up-taken b some = ap (λ (x : Bool). is_centre w.cluster b && x) (sym (up-same b some))

  pub ups-taken : (ups : List Bool) → UpsRepresent ups w → UpsRepresent ups (world_after_step w a step)
  ups-taken ups stand b some few = stand b some few ∙ up-taken b some

  pub stops-taken : (stops : List (Option (ℕ × Image))) → StopsRepresent stops w → StopsRepresent stops (world_after_step w a step)
  stops-taken stops stand b here = stand b here ∙ elim (cases_Bool (a == b)) [
    | inl e ↦
        let same : a ≡ b = eqb-true a b e in
        subst (λ (n : ℕ). (centre_at w n).stop ≡ (centre_at (world_after_step w a step) n).stop) same (ap (λ (s : SimulatedSite). s.stop) (sym (site-here w a step world centre stays)))
    | inr e ↦ ap (λ (s : SimulatedSite). s.stop) (sym (site-there w a step world centre stays b (some-centre w.cluster b here).0 e))
  ]

  -- how long the tails are
  pub tails-taken : (old new : Logs) → HasTail old new a (tail_with_new_fact (tail_at old a) step.fact) → TailsRepresent old w → TailsRepresent new (world_after_step w a step)
  tails-taken old new has stand b here = elim (cases_Bool (a == b)) [
    | inl e ↦
        let same : a ≡ b = eqb-true a b e in
        subst (λ (n : ℕ). tail_at new n ≡ (centre_at (world_after_step w a step) n).tail) same
        (has.here ∙ ap (λ (n : ℕ). tail_with_new_fact n step.fact) (stand a centre) ∙ tail-is step.fact ∙ ap (λ (s : SimulatedSite). s.tail) (sym (site-here w a step world centre stays)))
    | inr e ↦
        let both = some-centre w.cluster b here in
        let nine = world.cluster_itself.quorums.nine_centres in
        let low : b ≤ 9 = omega (both.1, nine, arith) in
        let apart : b ≢ a = λ f. (let clash : true ≡ false = sym (eq-eqb a b (sym f)) ∙ e in absurd (cc)) in
        has.others b low apart ∙ stand b here ∙ ap (λ (s : SimulatedSite). s.tail) (sym (site-there w a step world centre stays b both.0 e))
  ]
    where
      tail-is : (o : Option Fact) → tail_with_new_fact (centre_at w a).tail o ≡ tail_with_fact w a o
      tail-is None = refl
      tail-is (Some fact) = refl

-- ---- what is taken

-- a step that no stop strikes
pub whole-happened : (w : World) (a : ℕ) (step : NodeStep) → IsWholeStep w a step.fact → step_happened w a step ≡ after_whole_step w a step
whole-happened w a step (inl none) = ap (step_happened_by w a step) none ∙ by-none w a step none
whole-happened w a step (inr unstopped) = by_fact step.fact refl
  where
    by_fact : (o : Option Fact) → step.fact ≡ o → step_happened_by w a step o ≡ after_whole_step w a step
    by_fact None e = by-none w a step e
    by_fact (Some fact) e = by-some w a step fact e unstopped

pub whole-reported : (w : World) (a : ℕ) (step : NodeStep) → IsWholeStep w a step.fact → reported_by w a step step.fact (striking_at w a) ≡ reported_whole w a step
whole-reported w a step (inl none) = ap (λ (o : Option Fact). reported_by w a step o (striking_at w a)) none
whole-reported w a step (inr unstopped) = ap (reported_by w a step step.fact) unstopped ∙ by_fact step.fact
  where
    by_fact : (o : Option Fact) → reported_by w a step o None ≡ reported_whole w a step
    by_fact None = refl
    by_fact (Some fact) = refl

module _ (world : TheWorld) (w : World) (a : ℕ) (input : Input) (step : Step) (made : HasRun world w a input (Ok step)) (whole : IsWholeStep w a step.fact) where
  abbrev result : Result NodeStep StepFault
  result = step_at w a input

  abbrev gave : (s : NodeStep) × (result ≡ Ok s) × (step ≡ step_given s)
  gave = ok-given step result made.before.step_itself

  abbrev pub s : NodeStep
  s = gave.0

  fact-is : step.fact ≡ s.fact
  fact-is = ap (λ (x : Step). x.fact) gave.2

  sends-are : step.sends ≡ s.sends
  sends-are = ap (λ (x : Step). x.sends) gave.2

  world-is : IsWorld w
  world-is = made.before.records.itself

  pub step-stays : StaysWithin w.cluster s
  step-stays = made-stays w.cluster a (facts_of w.ledger a) (centre_at w a).volatile input s world-is.cluster_itself.quorums made.before.well_formed gave.1

  whole-is : IsWholeStep w a s.fact
  whole-is = subst (IsWholeStep w a) fact-is whole

  happens : input_happened w a result ≡ after_whole_step w a s
  happens = ap (input_happened w a) gave.1 ∙ whole-happened w a s whole-is

  comes : input_limited w a result ≡ unless_limit (limit_passed w a s.fact s.sends) (after_whole_step w a s)
  comes = input-is w a result ∙ ap (step_reported w a) gave.1 ∙ whole-reported w a s whole-is

  limit-is : limit_passed w a step.fact step.sends ≡ limit_passed w a s.fact s.sends
  limit-is = ap (λ (o : Option Fact). limit_passed w a o step.sends) fact-is ∙ ap (λ (xs : List Envelope). limit_passed w a s.fact xs) sends-are

  -- a limit that would be passed refuses it
  pub step-refused : (fault : EventFault) → Err fault ≡ may_be (limit_passed w a step.fact step.sends)
      → OnFalse (is_out_of_memory fault) (input_limited w a (step_at w a input) ≡ Err fault)
  step-refused fault stopped =
      let passed : limit_passed w a s.fact s.sends ≡ Some fault = sym limit-is ∙ limited (limit_passed w a step.fact step.sends) fault stopped in
      any-fault (is_out_of_memory fault) (comes ∙ ap (λ (o : Option EventFault). unless_limit o (after_whole_step w a s)) passed)

  pub step-taken : (new : TheWorld) (before lines : List Line)
      → new ≡ record world { logs = new.logs; network = new.network; bytes = new.bytes; decisions = new.decisions }
      → limit_passed w a step.fact step.sends ≡ None
      → new.network ≡ world.network ++ map unsent step.sends → new.bytes ≡ world.bytes + messages_length step.sends
      → LogsRepresent new.logs w.cluster.quorums.centres (is_up_at w) (facts_with (facts_of w.ledger) a step.fact)
      → HasTail world.logs new.logs a (tail_with_new_fact (tail_at world.logs a) step.fact)
      → ((quorums : Sizes) (entries : List Entry) → RepresentsLedger world.decisions quorums entries → RepresentsLedger new.decisions quorums (ledger_with_fact a step.fact entries))
      → ((quorums : Sizes) (entries : List Entry) → RepresentsLedger world.decisions quorums entries → lines ≡ before ++ step_lines quorums a step.fact entries)
      → Happens {T = Unit {0}} new before lines (Ok tt) (input_limited w a (step_at w a input))
  step-taken new before lines rest within network bytes logs tail ledger reported =
      let records = made.before.records in
      let clear : limit_passed w a s.fact s.sends ≡ None = sym limit-is ∙ within in
      let is : input_limited w a result ≡ Ok (after_whole_step w a s) = comes ∙ ap (λ (o : Option EventFault). unless_limit o (after_whole_step w a s)) clear in
      let here : RepresentsLedger world.decisions w.cluster.quorums (s.entries ++ w.ledger) =
      subst (λ (r : Result NodeStep StepFault). RepresentsLedger world.decisions w.cluster.quorums (entries_of_step r ++ w.ledger)) gave.1 made.before.decisions in
      let kept : LogsRepresent new.logs w.cluster.quorums.centres (is_up_at w) (facts_with (facts_of w.ledger) a s.fact) =
      subst (λ (o : Option Fact). LogsRepresent new.logs w.cluster.quorums.centres (is_up_at w) (facts_with (facts_of w.ledger) a o)) fact-is logs in
      let nodes : NodesRepresent new.nodes.items (after_whole_step w a s).world =
      rw rest (subst (λ (h : Happened). NodesRepresent world.nodes.items h.world) happens made.nodes) in
      subst (λ (r : Result Happened EventFault). Happens {T = Unit {0}} new before lines (Ok tt) r) (sym is) (record {
        like = record {
          records = record {
            itself = limited-stays w a input (after_whole_step w a s) world-is made.before.centre made.before.well_formed is;
            cluster = ap (λ (x : TheWorld). x.cluster) rest ∙ records.cluster;
            network = network ∙ ap (λ (xs : List Envelope). world.network ++ map unsent xs) sends-are ∙ ap (λ (sent : List Sent). sent ++ map unsent s.sends) records.network;
            bytes = bytes ∙ ap (λ (xs : List Envelope). world.bytes + messages_length xs) sends-are ∙ ap (λ (n : ℕ). n + messages_length s.sends) records.bytes;
            reads = ap (λ (x : TheWorld). x.reads) rest ∙ records.reads;
            few_reads = records.few_reads;
            events = ap (λ (x : TheWorld). x.events) rest ∙ records.events;
            ups = ups-taken w a s world-is made.before.centre step-stays new.up (rw rest records.ups);
            stops = stops-taken w a s world-is made.before.centre step-stays new.stops (rw rest records.stops);
          };
          decisions = subst (λ (o : Option Fact). RepresentsLedger new.decisions w.cluster.quorums (ledger_with_fact a o (s.entries ++ w.ledger))) fact-is (ledger w.cluster.quorums (s.entries ++ w.ledger) here);
          nodes = nodes;
          logs = logs-same new.logs w.cluster.quorums.centres (is_up_at w) (is_up_at (world_after_step w a s)) (facts_with (facts_of w.ledger) a s.fact) (facts_of (world_after_step w a s).ledger)
              (λ b some within. up-taken w a s world-is made.before.centre step-stays b some) (λ b some within. facts-taken w a s world-is made.before.centre step-stays b) kept;
          tails = tails-taken w a s world-is made.before.centre step-stays world.logs new.logs
              (subst (λ (o : Option Fact). HasTail world.logs new.logs a (tail_with_new_fact (tail_at world.logs a) o)) fact-is tail) made.before.tails;
        };
        lines = reported w.cluster.quorums (s.entries ++ w.ledger) here ∙ ap (λ (o : Option Fact). before ++ step_lines w.cluster.quorums a o (s.entries ++ w.ledger)) fact-is;
      })

-- a step that its node refuses changes nothing
pub step-left : (world : TheWorld) (w : World) (a : ℕ) (input : Input) (fault : StepFault) (made : HasRun world w a input (Err fault)) (before lines : List Line)
    → lines ≡ before ++ dropped_lines a fault
    → Happens {T = Unit {0}} world before lines (Ok tt) (input_limited w a (step_at w a input))
step-left world w a input fault made before lines reported =
    let records = made.before.records in
    let result = step_at w a input in
    let e : result ≡ Err fault = err-given fault result made.before.step_itself in
    let same : (input_happened w a result).world ≡ w = ap (λ (r : Result NodeStep StepFault). (input_happened w a r).world) e ∙ refused-same w a fault in
    let is : input_limited w a result ≡ Ok (input_happened w a (Err fault)) = input-is w a result ∙ ap (step_reported w a) e in
    let here : RepresentsLedger world.decisions w.cluster.quorums w.ledger =
    subst (λ (r : Result NodeStep StepFault). RepresentsLedger world.decisions w.cluster.quorums (entries_of_step r ++ w.ledger)) e made.before.decisions in
    subst (λ (r : Result Happened EventFault). Happens {T = Unit {0}} world before lines (Ok tt) r) (sym is) (record {
      like = rw (refused-same w a fault) (record {
        records = records;
        decisions = here;
        nodes = subst (λ (x : World). NodesRepresent world.nodes.items x) same made.nodes;
        logs = made.before.logs;
        tails = made.before.tails;
      });
      lines = reported ∙ ap (λ (more : List Line). before ++ more) (sym (refused-lines w a fault));
    })
