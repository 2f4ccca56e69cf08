-- The nodes of a world after a step of one of them.
use Rattle.std.proofs.Common.{◌≡◌, ℕ, zero, suc, ◌+◌, ◌-◌, ◌≤◌, ◌<◌, ◌==◌, ◌⊎◌, Bool, true, false, List, [], ◌∷◌, refl, sym, ap, ◌∙◌, subst, inl, inr, Option, Some, None, Result, Ok, Err, arith, length, get_or, nat_le}
use Rattle.std.specs.Bool.{OnFalse}
use Rattle.std.specs.Prelude.{IfOk, OnOk, set, slice_get}
use Rattle.std.proofs.lemmas.Bool.{and_from, and_parts, cases_Bool, eq-eqb, eqb-true, le-leb}
use Rattle.std.proofs.lemmas.List.{length-set}
use Rattle.std.proofs.lemmas.Option.{slice_get-get_or}
use Rattle.mdcc_base.specs.Unless.{GivesUnless}
use Rattle.mdcc_base.specs.declared.faults.Memory.{Memory}
use Rattle.mdcc_base.specs.declared.key.Key.{Key}
use Rattle.mdcc_base.specs.declared.outside.Image.{Image}
use Rattle.mdcc_node.specs.StepPlans.{unless_refused}
use Rattle.mdcc_node.specs.NodeHistory.{IsRunning}
use Rattle.mdcc_node.specs.StepAnswers.{UnlessMemory, facts_left, is_step_memory, volatile_left}
use Rattle.mdcc_node.specs.declared.node.Node.{Node}
use Rattle.mdcc_option.specs.declared.cluster.Cluster.{Cluster}
use Rattle.mdcc_def_protocol.specs.Belongs.{is_centre}
use Rattle.mdcc_def_protocol.specs.Volatile.{Volatile}
use Rattle.mdcc_def_ledger.specs.Ledger.{facts_of}
use Rattle.mdcc_def_rules.specs.Steps.{NodeStep, with_new}
use Rattle.mdcc_def_simulation.specs.State.{Happened, SimulatedSite, World, booted, centre_at, down, first_world, is_up_at, with_centre}
use Rattle.mdcc_def_simulation.specs.AppliedSteps.{input_happened, step_at, step_happened_by, step_stopped}
use Rattle.mdcc_def_messages.specs.declared.facts.Fact.{Fact}
use Rattle.mdcc_def_protocol.specs.declared.visible.Reading.{Reading}
use Rattle.mdcc_def_rules.specs.declared.node.Answer.{Answer}
use Rattle.mdcc_def_rules.specs.declared.node.Input.{Input}
use Rattle.mdcc_def_rules.specs.declared.node.Step.{Step}
use Rattle.mdcc_def_rules.specs.declared.node.StepFault.{StepFault}
use Rattle.mdcc_theorem_node_steps.specs.Inputs.{IsWellFormedInput}
use Rattle.mdcc_theorem_worlds.proofs.Begins.{first-facts, first-site}
use Rattle.mdcc_theorem_worlds.proofs.Stays.{by-none, by-some, each-put, facts-here, facts-there, facts-with, refused-same, site-here, site-other, site-same, site-there}
use Rattle.mdcc_theorem_worlds.proofs.Within.{made-stays}
use Rattle.mdcc_world_logs.specs.Nodes.{AreStarted}
use Rattle.mdcc_node_log.specs.Nodes.{CentreStore, IsNodeOf, are_stored}
use Rattle.mdcc_world.specs.Nodes.{NodesRepresent, RunsAt, is_memory_run}
use Rattle.mdcc_theorem_worlds.specs.StepSends.{StaysWithin}
use Rattle.mdcc_theorem_worlds.specs.WorldInvariant.{IsWorld}
use Rattle.mdcc_theorem_worlds.specs.StepEffects.{ledger_with_fact, world_after_step}
use Rattle.mdcc_def_simulation.specs.Checkpoints.{is_frame_kept, striking_at}

-- ---- places

pub set-get : {X : Type 0} (xs : List X) (i j : ℕ) (v x : X) → slice_get (set xs i v) j ≡ Some x
    → ((j ≡ i) × (v ≡ x)) ⊎ (((i == j) ≡ false) × (slice_get xs j ≡ Some x))
set-get [] i j v x at = absurd (cc)
set-get (y ∷ ys) zero zero v x at = let same : v ≡ x = cc in inl (refl, same)
set-get (y ∷ ys) zero (suc j) v x at = let other : (zero == suc j) ≡ false = grind arith in inr (other, at)
set-get (y ∷ ys) (suc i) zero v x at = let other : (suc i == zero) ≡ false = grind arith in inr (other, at)
set-get (y ∷ ys) (suc i) (suc j) v x at = elim (set-get ys i j v x at) [
  | inl here ↦ inl (ap (λ (n : ℕ). suc n) here.0, here.1)
  | inr there ↦ inr (grind (there.0, arith), there.1)
]

pub got-within : {X : Type 0} (xs : List X) (i : ℕ) (x : X) → slice_get xs i ≡ Some x → i < length xs
got-within [] i x at = absurd (cc)
got-within (y ∷ ys) zero x at = omega arith
got-within (y ∷ ys) (suc i) x at = let ih = got-within ys i x at in omega (ih, arith)

pub node-there : {X : Type 0} (xs : List X) (i : ℕ) (x : X) → i < length xs → x ≡ get_or xs i x → slice_get xs i ≡ Some x
node-there {X = X} xs i x within is = slice_get-get_or xs i x within ∙ ap (λ (y : X). Some y) (sym is)

pub centre-there : (cluster : Cluster) (place : ℕ) → place < cluster.quorums.centres → is_centre cluster (place + 1) ≡ true
centre-there cluster place within =
    and_from (nat_le 1 (place + 1)) (nat_le (place + 1) cluster.quorums.centres) (le-leb 1 (place + 1) (omega arith)) (le-leb (place + 1) cluster.quorums.centres (omega (within, arith)))

other-next : (i j : ℕ) → (i == j) ≡ false → ((i + 1) == (j + 1)) ≡ false
other-next i j other = elim (cases_Bool ((i + 1) == (j + 1))) [
  | inl e ↦
      let same = eqb-true (i + 1) (j + 1) e in
      let place : i ≡ j = omega (same, arith) in
      let clash : true ≡ false = sym (eq-eqb i j place) ∙ other in
      absurd (cc)
  | inr e ↦ e
]

-- ---- unless there was no memory

on_false : (b : Bool) {P Q : Type 0} → (P → Q) → OnFalse b P → OnFalse b Q
on_false true f h = h
on_false false f h = f h

pub unless-weaker : {T P Q : Type 0} (r : Result T StepFault) → (P → Q) → UnlessMemory r P → UnlessMemory r Q
unless-weaker (Ok x) f h = f h
unless-weaker (Err fault) f h = on_false (is_step_memory fault) f h

-- ---- a step

module _ (nodes : List (Node CentreStore)) (w : World) (place : ℕ) (node : Node CentreStore)
    (standing : NodesRepresent nodes w) (world : IsWorld w) (within : place < length nodes) where
  pub centre-here : is_centre w.cluster (place + 1) ≡ true
  centre-here = centre-there w.cluster place (omega (within, standing.as_many, arith))

  refused : IsNodeOf node w.cluster (place + 1) (facts_of w.ledger (place + 1)) (centre_at w (place + 1)).volatile
      → NodesRepresent (set nodes place node) w
  refused after = record {
    as_many = length-set nodes place node ∙ standing.as_many;
    each = λ j x at up. elim (set-get nodes place j node x at) [
      | inl here ↦ rw (here.0, ← here.1) after
      | inr there ↦ standing.each j x there.1 up
    ];
  }

  made : (step : NodeStep) → StaysWithin w.cluster step
      → IsNodeOf node w.cluster (place + 1) (with_new (facts_of w.ledger (place + 1)) step.fact) step.after
      → NodesRepresent (set nodes place node) (world_after_step w (place + 1) step)
  made step stays after = record {
    as_many = length-set nodes place node ∙ standing.as_many;
    each = λ j x at up. elim (set-get nodes place j node x at) [
      | inl here ↦
          rw (here.0, ← here.1, facts-here w (place + 1) step world centre-here stays, site-here w (place + 1) step world centre-here stays)
          after
      | inr there ↦
          let other = other-next place j there.0 in
          let site = site-there w (place + 1) step world centre-here stays (j + 1) (omega arith) other in
          let was : (centre_at w (j + 1)).is_up ≡ true = ap (λ (s : SimulatedSite). s.is_up) (sym site) ∙ up in
          rw (facts-there w (place + 1) step world centre-here stays (j + 1) other, site)
          (standing.each j x there.1 was)
    ];
  }

  -- its centre is down, and its node counts for nothing
  gone : (tail : ℕ) (o : Option Fact) → NodesRepresent (set nodes place node) (record (with_centre w (place + 1) (down tail)) { ledger = ledger_with_fact (place + 1) o w.ledger })
  gone tail o = record {
    as_many = length-set nodes place node ∙ standing.as_many;
    each = λ j x at up. elim (set-get nodes place j node x at) [
      | inl here ↦
          let few : place + 1 ≤ length w.centres = omega (within, standing.as_many, world.sites, arith) in
          let here_down : get_or (set w.centres (place + 1 - 1) (down tail)) (place + 1 - 1) booted ≡ down tail = site-same w.centres (place + 1) (down tail) (omega arith) few in
          let there : (get_or (set w.centres (place + 1 - 1) (down tail)) (place + 1 - 1) booted).is_up ≡ true =
          subst (λ (n : ℕ). (get_or (set w.centres (place + 1 - 1) (down tail)) (n + 1 - 1) booted).is_up ≡ true) here.0 up in
          let bad : false ≡ true = ap (λ (s : SimulatedSite). s.is_up) (sym here_down) ∙ there in
          absurd (cc)
      | inr there ↦
          let other = other-next place j there.0 in
          let site = site-other w.centres (place + 1) (j + 1) (down tail) (omega arith) (omega arith) other in
          let facts : facts_of (ledger_with_fact (place + 1) o w.ledger) (j + 1) ≡ facts_of w.ledger (j + 1) = facts-with (place + 1) (j + 1) o w.ledger ∙ rw other refl in
          rw (facts, site) (standing.each j x there.1 (ap (λ (s : SimulatedSite). s.is_up) (sym site) ∙ up))
    ];
  }

  stopped : (fact : Fact) (stop : ℕ × Image) → NodesRepresent (set nodes place node) (step_stopped w (place + 1) fact stop).world
  stopped fact stop = elim (cases_Bool (is_frame_kept stop.0 stop.1)) [
    | inl e ↦ rw e (gone _ (Some fact))
    | inr e ↦ rw e (gone _ None)
  ]

  pub nodes-stay : (input : Input) → IsWellFormedInput input → (r : Result NodeStep StepFault) → step_at w (place + 1) input ≡ r
      → IsNodeOf node w.cluster (place + 1) (facts_left (facts_of w.ledger (place + 1)) r) (volatile_left (centre_at w (place + 1)).volatile r)
      → NodesRepresent (set nodes place node) (input_happened w (place + 1) r).world
  nodes-stay input formed (Err fault) e after = rw (refused-same w (place + 1) fault) (refused after)
  nodes-stay input formed (Ok step) e after =
      by_fact step
      (made step (made-stays w.cluster (place + 1) (facts_of w.ledger (place + 1)) (centre_at w (place + 1)).volatile input step world.cluster_itself.quorums formed e) after)
      step.fact refl (striking_at w (place + 1)) refl
    where
      by_fact : (step : NodeStep) → NodesRepresent (set nodes place node) (world_after_step w (place + 1) step) → (o : Option Fact) → step.fact ≡ o
          → (stop : Option (ℕ × Image)) → striking_at w (place + 1) ≡ stop → NodesRepresent (set nodes place node) (step_happened_by w (place + 1) step o).world
      by_fact step whole None e stop k = subst (λ (x : Happened). NodesRepresent (set nodes place node) x.world) (sym (by-none w (place + 1) step e)) whole
      by_fact step whole (Some fact) e None k = subst (λ (x : Happened). NodesRepresent (set nodes place node) x.world) (sym (by-some w (place + 1) step fact e k)) whole
      by_fact step whole (Some fact) e (Some stop) k = rw k (stopped fact stop)

-- ---- the first nodes

pub first-nodes : (nodes : List (Node CentreStore)) (cluster : Cluster)
    → AreStarted nodes cluster cluster.quorums.centres → NodesRepresent nodes (first_world cluster)
first-nodes nodes cluster are = record {
  as_many = are.as_many;
  each = λ place node at up.
      let within : place < cluster.quorums.centres = omega (got-within nodes place node at, are.as_many, arith) in
      rw (first-site cluster (place + 1) (centre-there cluster place within), first-facts cluster.quorums.centres (place + 1) (omega arith) (omega (within, arith)))
      (are.each place node at);
}

-- ---- what a node made of an input, want of memory apart

pub exact : (r expected : Result Step StepFault) → GivesUnless is_step_memory r expected → is_memory_run r ≡ false → r ≡ expected
exact (Ok step) expected gives some = gives
exact (Err fault) expected gives some = rw some at gives

pub kept : (r : Result Step StepFault) {P : Type 0} → UnlessMemory r P → is_memory_run r ≡ false → P
kept (Ok step) h some = h
kept (Err fault) h some = rw some at h

-- ---- the node of a centre

pub node-at : (nodes : List (Node CentreStore)) (w : World) (a : ℕ) (node : Node CentreStore) → NodesRepresent nodes w → is_up_at w a ≡ true → 1 ≤ a → a ≤ length nodes
    → node ≡ get_or nodes (a - 1) node → IsNodeOf node w.cluster a (facts_of w.ledger a) (centre_at w a).volatile
node-at nodes w a node standing up some few is =
    let back : a - 1 + 1 ≡ a = omega (some, arith) in
    let within : a - 1 < length nodes = omega (some, few, arith) in
    let there : (centre_at w a).is_up ≡ true = (and_parts (is_centre w.cluster a) (centre_at w a).is_up up).1 in
    subst (λ (b : ℕ). (centre_at w b).is_up ≡ true → IsNodeOf node w.cluster b (facts_of w.ledger b) (centre_at w b).volatile) back
    (standing.each (a - 1) node (node-there nodes (a - 1) node within is)) there

pub after-step : (nodes : List (Node CentreStore)) (w : World) (a : ℕ) (node : Node CentreStore) (input : Input) → NodesRepresent nodes w → IsWorld w
    → 1 ≤ a → a ≤ length nodes → IsWellFormedInput input
    → IsNodeOf node w.cluster a (facts_left (facts_of w.ledger a) (step_at w a input)) (volatile_left (centre_at w a).volatile (step_at w a input))
    → NodesRepresent (set nodes (a - 1) node) (input_happened w a (step_at w a input)).world
after-step nodes w a node input standing world some few formed =
    let back : a - 1 + 1 ≡ a = omega (some, arith) in
    let within : a - 1 < length nodes = omega (some, few, arith) in
    subst (λ (b : ℕ).
    IsNodeOf node w.cluster b (facts_left (facts_of w.ledger b) (step_at w b input)) (volatile_left (centre_at w b).volatile (step_at w b input))
    → NodesRepresent (set nodes (a - 1) node) (input_happened w b (step_at w b input)).world) back
    (λ after. nodes-stay nodes w (a - 1) node standing world within input formed (step_at w (a - 1 + 1) input) refl after)

-- ---- what is made of an input

-- a read leaves the nodes as they were
pub read-left : (nodes : List (Node CentreStore)) (w : World) (a : ℕ) (key : Key) → IsWorld w → is_centre w.cluster a ≡ true
    → NodesRepresent nodes (input_happened w a (step_at w a (Input.Read key))).world → NodesRepresent nodes w
read-left nodes w a key world centre stand = record {
  as_many = stand.as_many;
  each = λ place node at up.
      let same = each-put w a (record (centre_at w a) { volatile = (centre_at w a).volatile }) None
      (λ n facts s. (s.is_up ≡ (centre_at w n).is_up) × (s.volatile ≡ (centre_at w n).volatile)) world centre (λ n. (refl, refl)) (refl, refl) (place + 1) (omega arith) in
      subst (λ (volatile : Volatile). IsNodeOf node w.cluster (place + 1) (facts_of w.ledger (place + 1)) volatile) same.1 (stand.each place node at (same.0 ∙ up));
}

-- what a read was answered
abbrev pub done : Step → Result Step StepFault
done step = Ok step

pub shown-as : (x y : Step) (answer : Answer) (reading other : Reading) → done x ≡ done y → x.answer ≡ Some answer → answer ≡ Answer.Read reading
    → y.answer ≡ Some (Answer.Read other) → reading ≡ other
shown-as x y answer reading other same here is there =
    let steps : x ≡ y = cc in
    let answers : Some (Answer.Read reading) ≡ Some (Answer.Read other) =
    ap (λ (a : Answer). Some a) (sym is) ∙ sym here ∙ ap (λ (s : Step). s.answer) steps ∙ there in
    cc

some-written : (r : Result (Unit {0}) StepFault) (step : Step) → is_memory_run r ≡ false → is_memory_run (unless_refused r step) ≡ false
some-written (Ok done) step some = refl
some-written (Err fault) step some = some

pub made-is : (result : Result (Result (Unit {0}) StepFault) Memory) (r : Result (Unit {0}) StepFault) (step : Step) (expected : Result Step StepFault)
    → IfOk result (λ made. made ≡ r) → OnOk result (is_memory_run r ≡ false) → GivesUnless is_step_memory (unless_refused r step) expected
    → IfOk result (λ made. unless_refused made step ≡ expected)
made-is (Ok x) r step expected same some gives =
    ap (λ (m : Result (Unit {0}) StepFault). unless_refused m step) same ∙ exact (unless_refused r step) expected gives (some-written r step some)
made-is (Err fault) r step expected same some gives = tt

pub made-kept : (result : Result (Result (Unit {0}) StepFault) Memory) (r : Result (Unit {0}) StepFault) (step : Step) (P : Type 0)
    → OnOk result (is_memory_run r ≡ false) → UnlessMemory (unless_refused r step) P → OnOk result P
made-kept (Ok x) r step P some left = kept (unless_refused r step) left (some-written r step some)
made-kept (Err fault) r step P some left = tt

-- the nodes after a step that is as the definition's
pub stepped : (nodes : List (Node CentreStore)) (w : World) (a place : ℕ) (node : Node CentreStore) (input : Input) → NodesRepresent nodes w → IsWorld w
    → 1 ≤ a → a ≤ length nodes → place ≡ a → IsWellFormedInput input → (expected : Result NodeStep StepFault) → expected ≡ step_at w a input
    → {T : Type 0} (step : Result T StepFault)
    → UnlessMemory step (IsNodeOf node w.cluster a (facts_left (facts_of w.ledger a) expected) (volatile_left (centre_at w a).volatile expected))
    → UnlessMemory step (NodesRepresent (set nodes (place - 1) node) (input_happened w a (step_at w a input)).world)
stepped nodes w a place node input standing world some few there formed expected is step left =
    unless-weaker step (λ after.
    subst (λ (n : ℕ). NodesRepresent (set nodes (n - 1) node) (input_happened w a (step_at w a input)).world) (sym there)
    (after-step nodes w a node input standing world some few formed
    (subst (λ (r : Result NodeStep StepFault). IsNodeOf node w.cluster a (facts_left (facts_of w.ledger a) r) (volatile_left (centre_at w a).volatile r)) is after)))
    left

pub node-in : (nodes : List (Node CentreStore)) (w : World) (a place : ℕ) (node : Node CentreStore) → NodesRepresent nodes w → is_up_at w a ≡ true → 1 ≤ a → a ≤ length nodes → place ≡ a
    → node ≡ get_or nodes (place - 1) node → IsNodeOf node w.cluster a (facts_of w.ledger a) (centre_at w a).volatile
node-in nodes w a place node standing up some few there is =
    node-at nodes w a node standing up some few (subst (λ (n : ℕ). node ≡ get_or nodes (n - 1) node) there is)

-- as it stands in the list
pub node-under : (nodes : List (Node CentreStore)) (w : World) (a place : ℕ) (node : Node CentreStore) → NodesRepresent nodes w → is_up_at w a ≡ true → 1 ≤ a → a ≤ length nodes → place ≡ a
    → node ≡ get_or nodes (place - 1) node → IsNodeOf (get_or nodes (place - 1) node) w.cluster a (facts_of w.ledger a) (centre_at w a).volatile
node-under nodes w a place node standing up some few there is =
    subst (λ (n : Node CentreStore). IsNodeOf n w.cluster a (facts_of w.ledger a) (centre_at w a).volatile) is
    (node-in nodes w a place node standing up some few there is)

-- a node of a centre that is up has facts and a state as steps bring them about
pub runs-at : (nodes : List (Node CentreStore)) (a place : ℕ) (node : Node CentreStore) → RunsAt nodes a → 1 ≤ a → a ≤ length nodes → place ≡ a
    → node ≡ get_or nodes (place - 1) node → IsRunning are_stored (get_or nodes (place - 1) node)
runs-at nodes a place node runs some few there is = record {
  cluster = runs.world.cluster;
  me = a;
  facts = facts_of runs.world.ledger a;
  volatile = (centre_at runs.world a).volatile;
  itself = (node-under nodes runs.world a place node runs.standing runs.up some few there is).itself;
  kept = runs.itself.nodes a (and_parts (is_centre runs.world.cluster a) (centre_at runs.world a).is_up runs.up).0;
}

-- a centre that is up in a world has such a node
pub runs-in : (nodes : List (Node CentreStore)) (w : World) (a : ℕ) → IsWorld w → NodesRepresent nodes w → is_up_at w a ≡ true → RunsAt nodes a
runs-in nodes w a itself standing up = record { world = w; itself = itself; standing = standing; up = up }
