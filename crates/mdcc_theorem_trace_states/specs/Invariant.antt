-- Which steps keep the invariant, and what holds of every world of a trace. `also` stands for what else is known of its ledgers.
use Rattle.std.specs.Prelude.{Err, List, None, Ok, Option, Result, Some, [], false, length, true, ℕ, ⊤, ◌++◌, ◌∷◌, ◌≡◌}
use Rattle.mdcc_base.specs.AreQuorums.{AreQuorums}
use Rattle.mdcc_base.specs.Ballot.{is_fast}
use Rattle.mdcc_option.specs.declared.cluster.Cluster.{Cluster}
use Rattle.mdcc_def_messages.specs.declared.facts.Fact.{Fact}
use Rattle.mdcc_def_ledger.specs.Ledger.{Added, Entry, Valued, facts_of}
use Rattle.mdcc_def_ledger.specs.AllowedLedgers.{IsAllowed, IsBacked}
use Rattle.mdcc_def_protocol.specs.Belongs.{is_centre}
use Rattle.mdcc_def_messages.specs.declared.messages.Envelope.{Envelope}
use Rattle.mdcc_def_protocol.specs.Volatile.{Volatile}
use Rattle.mdcc_def_rules.specs.Steps.{NodeStep}
use Rattle.mdcc_def_rules.specs.declared.node.StepFault.{StepFault}
use Rattle.mdcc_def_protocol.specs.News.{is_crowding}
use Rattle.mdcc_def_messages.specs.Mailbox.{Sent}
use Rattle.mdcc_def_simulation.specs.State.{World, centre_at}
use Rattle.mdcc_theorem_trace_states.specs.Words.{Each}
use Rattle.mdcc_theorem_trace_states.specs.MessageMeaning.{TrueWhenSent}
use Rattle.mdcc_theorem_trace_states.specs.VolatileInvariant.{ArePlaced, IsCentre, Keeps}

-- the entry is made by the centre
abbrev pub IsOf : ℕ → Entry → Type 0
IsOf a (Added b fact) = b ≡ a
IsOf a (Entry.Begun b tx choices) = b ≡ a
IsOf a (Valued b key version ballot options) = b ≡ a

-- centre a may make the new entries, send these messages and keep this afterwards: the entries are its own; the ledger with them is
-- allowed, its votes are placed, and what else is known of it holds; the messages tell the truth of it; and it shows what the centre keeps
pub record IsGoodStep (cluster : Cluster) (also : List Entry → Type 0) (es : List Entry) (a : ℕ) (new : List Entry) (sends : List Envelope) (after : Volatile) : Type 0 where
  pub own : Each (IsOf a) new
  pub legal : IsAllowed cluster (new ++ es)
  pub placed : ArePlaced (new ++ es)
  pub more : also (new ++ es)
  pub stand : Each (TrueWhenSent cluster (new ++ es)) sends
  pub keeps : Keeps cluster (new ++ es) a after

-- a step makes either ledger entries that no log keeps or one fact
abbrev pub IsGoodBy : Cluster → (List Entry → Type 0) → List Entry → ℕ → NodeStep → Option Fact → Type 0
IsGoodBy cluster also es a step None = IsGoodStep cluster also es a step.entries step.sends step.after
IsGoodBy cluster also es a step (Some fact) = (step.entries ≡ []) × IsGoodStep cluster also es a (Added a fact ∷ []) step.sends step.after

-- a step that is refused changes nothing
abbrev pub IsGood : Cluster → (List Entry → Type 0) → List Entry → ℕ → Result NodeStep StepFault → Type 0
IsGood cluster also es a (Ok step) = IsGoodBy cluster also es a step step.fact
IsGood cluster also es a (Err fault) = ⊤

-- the same where its fact, which is backed, crowds no version
abbrev pub IsGoodRoomy : Cluster → (List Entry → Type 0) → List Entry → ℕ → Result NodeStep StepFault → Type 0
IsGoodRoomy cluster also es a (Ok step) = ((fact : Fact) → step.fact ≡ Some fact → IsBacked cluster es a fact → is_crowding (facts_of es a) fact ≡ false) → IsGoodBy cluster also es a step step.fact
IsGoodRoomy cluster also es a (Err fault) = ⊤

-- the invariant of a world: it is of the cluster, whose quorums meet; its ledger is allowed, its votes are placed, and what else is known
-- holds; each message that was sent told the truth; and there are as many centres as the cluster has, each as it is to be
pub record Holds (also : List Entry → Type 0) (cluster : Cluster) (w : World) : Type 0 where
  pub same : w.cluster ≡ cluster
  pub sizes : AreQuorums w.cluster.quorums
  pub legal : IsAllowed w.cluster w.ledger
  pub placed : ArePlaced w.ledger
  pub more : also w.ledger
  pub sent : Each (λ (s : Sent). TrueWhenSent w.cluster w.ledger s.envelope) w.sent
  pub size : length w.centres ≡ w.cluster.quorums.centres
  pub centres : (a : ℕ) → is_centre w.cluster a ≡ true → IsCentre w.cluster w.ledger a (centre_at w a)

-- an entry that is neither a structure nor a vote at a classic ballot
abbrev pub IsPlainEntry : Entry → Type 0
IsPlainEntry (Added a (Fact.Voted key version ballot options offered)) = is_fast ballot ≡ true
IsPlainEntry (Valued a key version ballot options) = ⊥
IsPlainEntry _ = ⊤
