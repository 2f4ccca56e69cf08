-- Which executions of a cluster are spoken of, and what is said of them.
use Rattle.std.specs.List.{AllByRecursion}
use Rattle.mdcc_theorem_agreement.specs.Laws.{begins_in}
use Rattle.std.specs.Prelude.{List, None, Ok, Option, Result, Some, [], length, ⊤, ℕ, ℤ, ◌+◌, ◌++◌, ◌<◌, ◌^◌, ◌∷◌, ◌≡◌, ◌≤◌}
use Rattle.mdcc_theorem_clusters.specs.Asked.{AreAskedFor, WasReceived}
use Rattle.mdcc_base.specs.declared.faults.Failed.{Failed}
use Rattle.mdcc_base.specs.declared.outside.Address.{Address}
use Rattle.mdcc_config.specs.IsConfig.{IsConfig}
use Rattle.mdcc_config.specs.declared.config.Config.{Config}
use Rattle.mdcc_def_ledger.specs.Ledger.{Entry}
use Rattle.mdcc_def_messages.specs.declared.facts.Fact.{Fact}
use Rattle.mdcc_def_messages.specs.declared.messages.Envelope.{Envelope}
use Rattle.mdcc_def_messages.specs.declared.messages.Message.{Message}
use Rattle.mdcc_def_messages.specs.WellFormedParts.{IsWellFormedPart}
use Rattle.mdcc_option.specs.Transaction.{transaction_of}
use Rattle.mdcc_option.specs.declared.items.Part.{Part}
use Rattle.mdcc_def_server_runs.specs.Acts.{Act}
use Rattle.mdcc_def_server_runs.specs.Runs.{listed}
use Rattle.mdcc_def_server_runs.specs.Turns.{Given}
use Rattle.mdcc_def_server_runs.specs.declared.lines.ServerLine.{ServerLine}
use Rattle.mdcc_theorem_encoding.specs.Laws.{AreBytes}
use Rattle.mdcc_theorem_node_steps.specs.Inputs.{AreWellFormedParts}
use Rattle.mdcc_theorem_node_steps.specs.NodeInvariant.{HasRoom}
use Rattle.mdcc_theorem_trace_states.specs.MessageMeaning.{TrueWhenSent}
use Rattle.mdcc_theorem_trace_states.specs.Sound.{IsSound}
use Rattle.mdcc_theorem_trace_states.specs.Steps.{AreGood}
use Rattle.mdcc_theorem_trace_states.specs.Words.{Each, In}
use Rattle.mdcc_theorem_worlds.specs.StepSends.{OthersBeginNothing}
use Rattle.mdcc_theorem_clusters.specs.Answers.{IsTrueAnswer}
use Rattle.mdcc_theorem_clusters.specs.Clusters.{Deployment, Move, Process, after_move, after_moves, not_started}
use Rattle.mdcc_theorem_clusters.specs.Formed.{StepLaws}
use Rattle.mdcc_theorem_commit_groups.specs.Groups.{IsHeardIn, IsSoundLedger, facts_added_in}
use Rattle.mdcc_theorem_clusters.specs.Limits.{most_beside, steps_done}
use Rattle.mdcc_theorem_clusters.specs.Mail.{AreMail, IsPieceIn, Mail}

-- ---- the network and the limits

-- A centre of the cluster sent these bytes before, wherever to, and whatever its link answered.
pub record WasSent (done : List (ℕ × Act)) (bytes : List ℕ) : Type 0 where
  pub centre : ℕ
  pub from : ℕ
  pub to : Address
  pub answer : Result (Unit {0}) Failed
  pub one_of : In (centre, Act.Send from to bytes answer) done

abbrev pub CameFromCentres : List (ℕ × Act) → Option (List ℕ) → Type 0
CameFromCentres done None = ⊤
CameFromCentres done (Some bytes) = WasSent done bytes

-- What its receives may give in a turn: at its own endpoint only what a centre sent before, and this may be lost, or come again, late, in another
-- order and in a later life; at its client's endpoint any bytes.
pub record MayDeliver (done : List (ℕ × Act)) (given : Given) : Type 0 where
  pub own : CameFromCentres done given.own
  pub own_bytes : AllByRecursion AreBytes (listed given.own)
  pub asked_bytes : AllByRecursion AreBytes (listed given.asked)

abbrev pub MayMove : Deployment → Move → Type 0
MayMove state (Move.Turn a given) = MayDeliver state.done given
MayMove state (Move.Cut a given few) = AllByRecursion (MayDeliver state.done) (listed given)
MayMove state move = ⊤

-- No centre comes past the last serial of its epoch (a turn in which it would is cut before it), and its facts have fewer than 2^32 bytes, as they have
-- wherever they lie in the cells that a node may have.
pub record IsWithinLimits (process : Process) : Type 0 where
  pub serials : process.site_then.sent < 2 ^ 32
  pub room : HasRoom process.site_then.node.facts

abbrev pub AreWithinLimits : Deployment → Type 0
AreWithinLimits state = (a : ℕ) (process : Process) → state.process a ≡ Some process → IsWithinLimits process

-- An execution: each move is one that the network may give, and each state is within the limits.
abbrev pub IsExecution : Config → Deployment → List Move → Type 0
IsExecution config state [] = AreWithinLimits state
IsExecution config state (move ∷ moves) = AreWithinLimits state × MayMove state move × IsExecution config (after_move config state move) moves

-- The first moves of an execution are one: so what is said of executions is so at every moment, and nothing is sent or printed that rests on facts
-- which become durable only later.
abbrev pub FrontsAreExecutions : Type 0
FrontsAreExecutions = (config : Config) (state : Deployment) (first more : List Move) → IsExecution config state (first ++ more) → IsExecution config state first

-- ---- what is sent and printed

-- a message that goes out in the life of this epoch is an answer that is true, or told the truth when it was sent
abbrev pub IsTrueMessage : Config → List (ℕ × Act) → List Entry → ℕ → Envelope → Message → Type 0
IsTrueMessage config done es epoch envelope (Message.ClientAnswer serial answer) = IsTrueAnswer config (WasReceived done) es envelope.from epoch serial answer
IsTrueMessage config done es epoch envelope message = TrueWhenSent config.cluster es envelope

-- a datagram is a piece of such a message, under a head of this sender
pub record IsTrueDatagram (config : Config) (done : List (ℕ × Act)) (es : List Entry) (mail : List Mail) (a : ℕ) (bytes : List ℕ) : Type 0 where
  pub piece : IsPieceIn mail bytes
  pub sender : piece.one.0.sender ≡ a
  pub told : IsTrueMessage config done es piece.one.0.epoch piece.one.1 piece.one.1.message

-- what is done is true of the ledger: each datagram is such a piece, and each outcome that is printed was heard there
abbrev pub IsTrueBy : Config → List (ℕ × Act) → List Entry → List Mail → ℕ → Act → Type 0
IsTrueBy config done es mail a (Act.Send from to bytes answer) = IsTrueDatagram config done es mail a bytes
IsTrueBy config done es mail a (Act.Print (ServerLine.Heard centre tx is_commit)) = (centre ≡ a) × IsHeardIn es a (tx, is_commit)
IsTrueBy config done es mail a act = ⊤

abbrev pub IsTrueAct : Config → List (ℕ × Act) → List Entry → List Mail → ℕ × Act → Type 0
IsTrueAct config done es mail one = IsTrueBy config done es mail one.0 one.1

-- The ledger has the facts that are durable, in the order in which they became so, with the begun transactions and the structures of the steps
-- between them; it is as it is to be; and all that was sent and printed is true of it. All datagrams are pieces of some messages, of which no two
-- have one head, over all centres and all their lives. And it begins no more transactions, and is no longer, than what was done allows.
pub record IsTrueExecution (config : Config) (done : List (ℕ × Act)) (durable : List (ℕ × Fact)) (ledger : List Entry) : Type 0 where
  pub mail : List Mail
  pub facts : facts_added_in ledger ≡ durable
  pub sound : IsSoundLedger IsSound config.cluster ledger
  pub heads : AreMail mail
  pub begun : begins_in ledger ≤ steps_done done
  pub few : length ledger ≤ length durable + most_beside (steps_done done)
  pub acts : Each (IsTrueAct config done ledger mail) done

-- what is proved below: of a node's steps, and of the parts that clients ask for
pub record Laws : Type 0 where
  pub good : AreGood IsSound
  pub steps : StepLaws
  pub others : OthersBeginNothing
  pub drafts : (schema : List (ℤ × ℤ)) (parts made : List Part) → AllByRecursion IsWellFormedPart parts → transaction_of schema parts ≡ Ok made → AreWellFormedParts made

-- every execution has such a ledger, in which each transaction was asked for
abbrev pub TruthFromLaws : Type 0
TruthFromLaws =
    Laws → (config : Config) → IsConfig config → (moves : List Move) → IsExecution config not_started moves
    → (ledger : List Entry) × IsTrueExecution config (after_moves config not_started moves).done (after_moves config not_started moves).durable ledger
    × AreAskedFor config (after_moves config not_started moves).done ledger
