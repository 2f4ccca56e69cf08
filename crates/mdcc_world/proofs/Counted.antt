-- Events at one centre.
use Rattle.std.proofs.Common.{◌≡◌, ℕ, ◌+◌, ◌≤◌, true, List, [], ◌∷◌, ◌++◌, sym, ap, ◌∙◌, subst, Option, Some, Result, arith, length, map}
use Rattle.std.proofs.lemmas.Bool.{and_parts}
use Rattle.std.proofs.lemmas.List.{length-append, length-map, map-append}
use Rattle.mdcc_base.specs.Key.{IsKey}
use Rattle.mdcc_base.specs.declared.key.Key.{Key}
use Rattle.mdcc_node_log.specs.Nodes.{CentreStore}
use Rattle.mdcc_node.specs.StepAnswers.{step_result}
use Rattle.mdcc_node.specs.declared.node.Node.{Node}
use Rattle.mdcc_option.specs.declared.items.Known.{Known}
use Rattle.mdcc_world_decisions.specs.Represents.{RepresentsLedger}
use Rattle.mdcc_def_protocol.specs.Belongs.{is_centre}
use Rattle.mdcc_def_ledger.specs.Ledger.{facts_of}
use Rattle.mdcc_def_protocol.specs.Visible
use Rattle.mdcc_def_simulation.specs.State.{World, centre_at, counted_event, is_up_at}
use Rattle.mdcc_def_simulation.specs.AppliedSteps.{input_happened, step_at}
use Rattle.mdcc_def_simulation.specs.Clients.{known_of_reading, read_happened}
use Rattle.mdcc_def_language.specs.declared.lines.Line.{Line}
use Rattle.mdcc_def_rules.specs.declared.node.Input.{Input}
use Rattle.mdcc_def_rules.specs.declared.node.Step.{Step}
use Rattle.mdcc_def_rules.specs.declared.node.StepFault.{StepFault}
use Rattle.mdcc_theorem_node_steps.specs.NodeInvariant.{accept_length_in}
use Rattle.mdcc_theorem_node_steps.specs.Inputs.{IsWellFormedInput}
use Rattle.mdcc_world.specs.NodeRuns.{HasRun}
use Rattle.mdcc_world.specs.Nodes.{NodesRepresent}
use Rattle.mdcc_world.specs.Represents.{HasHappened, IsLike, entries_of_step}
use Rattle.mdcc_world.specs.declared.world.World.{World as TheWorld}
use Rattle.mdcc_theorem_worlds.proofs.Stays.{counted-stays, read-stays, some-centre}

-- a centre that is up is one of the cluster
pub up-centre : (w : World) (a : ℕ) → is_up_at w a ≡ true → is_centre w.cluster a ≡ true
up-centre w a up = (and_parts (is_centre w.cluster a) (centre_at w a).is_up up).0

-- and has a node
pub up-within : (nodes : List (Node CentreStore)) (w : World) (a : ℕ) → NodesRepresent nodes w → is_up_at w a ≡ true → a ≤ length nodes
up-within nodes w a stand up =
    let few = (some-centre w.cluster a (up-centre w a up)).1 in
    let many = stand.as_many in
    omega (few, many, arith)

pub counted-nodes : (nodes : List (Node CentreStore)) (w : World) → NodesRepresent nodes w → NodesRepresent nodes (counted_event w)
counted-nodes nodes w standing = record { as_many = standing.as_many; each = standing.each }

-- ---- reads

pub has-read : (world new : TheWorld) (w : World) (a : ℕ) (key : Key) (known : Known) (before lines : List Line) → IsLike world w → is_up_at w a ≡ true → IsKey key
    → known ≡ known_of_reading key (Visible.read (facts_of w.ledger a) key)
    → NodesRepresent new.nodes.items w
    → new ≡ record world { nodes = new.nodes; reads = new.reads; events = world.events + 1 }
    → new.reads ≡ world.reads ++ Some known ∷ []
    → lines ≡ before ++ Line.Read (length new.reads) a known ∷ []
    → HasHappened new before lines (read_happened (counted_event w) a key)
has-read world new w a key known before lines like up key_itself shown nodes rest reads reported =
    let all : new.reads ≡ map (λ (k : Known). Some k) (w.reads ++ known ∷ []) =
    reads ∙ ap (λ (xs : List (Option Known)). xs ++ Some known ∷ []) like.records.reads ∙ sym (map-append (λ (k : Known). Some k) w.reads (known ∷ [])) in
    let many : length (w.reads ++ known ∷ []) ≡ length w.reads + 1 = length-append w.reads (known ∷ []) in
    let number : length new.reads ≡ length w.reads + 1 =
    ap (λ (xs : List (Option Known)). length xs) all ∙ length-map (w.reads ++ known ∷ []) (λ (k : Known). Some k) ∙ many in
    let few = like.records.few_reads in
    let stays = read-stays (counted_event w) a key (counted-stays w like.records.itself) (up-centre w a up) key_itself in
    record {
      like = record {
        records = record {
          itself = stays;
          cluster = ap (λ (x : TheWorld). x.cluster) rest ∙ like.records.cluster;
          network = ap (λ (x : TheWorld). x.network) rest ∙ like.records.network;
          bytes = ap (λ (x : TheWorld). x.bytes) rest ∙ like.records.bytes;
          reads = all ∙ ap (λ (k : Known). map (λ (k : Known). Some k) (w.reads ++ k ∷ [])) shown;
          few_reads = subst (λ (k : Known). length (w.reads ++ k ∷ []) ≤ w.events + 1) shown (omega (many, few, arith));
          events = ap (λ (x : TheWorld). x.events) rest ∙ ap (λ (n : ℕ). n + 1) like.records.events;
          ups = rw rest like.records.ups;
          stops = rw rest like.records.stops;
        };
        decisions = rw rest like.decisions;
        nodes = record { as_many = nodes.as_many; each = nodes.each };
        logs = rw rest like.logs;
        tails = rw rest like.tails;
      };
      lines = reported ∙ ap (λ (n : ℕ). before ++ Line.Read n a known ∷ []) number ∙ ap (λ (k : Known). before ++ Line.Read (length w.reads + 1) a k ∷ []) shown;
    }

-- ---- inputs of one centre

-- its node has taken an input, which is an event
pub made-counted : (world new : TheWorld) (w : World) (a : ℕ) (input : Input) (made : Result Step StepFault) → IsLike world w → is_up_at w a ≡ true → IsWellFormedInput input → accept_length_in input ≤ 2097152
    → new ≡ record world { nodes = new.nodes; decisions = new.decisions; events = world.events + 1 }
    → RepresentsLedger new.decisions w.cluster.quorums (entries_of_step (step_at (counted_event w) a input) ++ w.ledger)
    → made ≡ step_result (step_at (counted_event w) a input)
    → NodesRepresent new.nodes.items (input_happened (counted_event w) a (step_at (counted_event w) a input)).world
    → HasRun new (counted_event w) a input made
made-counted world new w a input made like up formed short rest decisions itself nodes = record {
  before = record {
    records = record {
      itself = counted-stays w like.records.itself;
      cluster = ap (λ (x : TheWorld). x.cluster) rest ∙ like.records.cluster;
      network = ap (λ (x : TheWorld). x.network) rest ∙ like.records.network;
      bytes = ap (λ (x : TheWorld). x.bytes) rest ∙ like.records.bytes;
      reads = ap (λ (x : TheWorld). x.reads) rest ∙ like.records.reads;
      few_reads = (let few = like.records.few_reads in omega (few, arith));
      events = ap (λ (x : TheWorld). x.events) rest ∙ ap (λ (n : ℕ). n + 1) like.records.events;
      ups = rw rest like.records.ups;
      stops = rw rest like.records.stops;
    };
    centre = up-centre w a up;
    up = up;
    well_formed = formed;
    short = short;
    decisions = decisions;
    logs = rw rest like.logs;
    tails = rw rest like.tails;
    step_itself = itself;
  };
  nodes = nodes;
}
