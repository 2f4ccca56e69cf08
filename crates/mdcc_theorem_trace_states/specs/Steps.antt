-- What the inputs of a node are in a trace, and what has to be shown of its steps.
use Rattle.std.specs.Prelude.{List, Ok, [], length, true, ℕ, ⊤, ◌<◌, ◌∷◌, ◌≡◌}
use Rattle.mdcc_base.specs.AreQuorums.{AreQuorums}
use Rattle.mdcc_option.specs.Parts.{are_parts_ascending}
use Rattle.mdcc_option.specs.Transaction.{transaction_of}
use Rattle.mdcc_option.specs.declared.cluster.Cluster.{Cluster}
use Rattle.mdcc_option.specs.declared.items.Part.{Part}
use Rattle.mdcc_option.specs.declared.schema.Schema.{Schema}
use Rattle.mdcc_def_ledger.specs.AllowedLedgers.{IsAllowed}
use Rattle.mdcc_def_protocol.specs.Belongs.{is_centre}
use Rattle.mdcc_def_protocol.specs.Facts.{epoch_of}
use Rattle.mdcc_def_ledger.specs.Ledger.{Added, Entry, facts_of}
use Rattle.mdcc_def_rules.specs.Node.{step_of}
use Rattle.mdcc_def_protocol.specs.Volatile.{Volatile}
use Rattle.mdcc_def_messages.specs.declared.facts.Fact.{Fact}
use Rattle.mdcc_def_rules.specs.declared.node.Input.{Input}
use Rattle.mdcc_theorem_trace_states.specs.Invariant.{IsGood}
use Rattle.mdcc_theorem_trace_states.specs.VolatileInvariant.{ArePlaced, Keeps}
use Rattle.mdcc_theorem_trace_states.specs.MessageMeaning.{TrueWhenSent}
use Rattle.mdcc_def_rules.specs.Here.{here}

-- parts in key order that a schema takes as they stand
pub record IsTransaction (schema : Schema) (ps : List Part) : Type 0 where
  pub some_part : 0 < length ps
  pub ascending : are_parts_ascending ps ≡ true
  pub again : transaction_of schema ps ≡ Ok ps

-- what a node is given: a message that stands, parts that make a transaction, a tick, a sweep, or a key to read
abbrev pub IsFair : Cluster → List Entry → Input → Type 0
IsFair cluster es (Input.Message envelope) = TrueWhenSent cluster es envelope
IsFair cluster es Input.Tick = ⊤
IsFair cluster es Input.Sweep = ⊤
IsFair cluster es (Input.Begin parts) = IsTransaction cluster.schema parts
IsFair cluster es (Input.Read key) = ⊤

-- a centre that is up, and the ledger that shows what it keeps
pub record IsUp (also : List Entry → Type 0) (cluster : Cluster) (es : List Entry) (a : ℕ) (volatile : Volatile) : Type 0 where
  pub sizes : AreQuorums cluster.quorums
  pub legal : IsAllowed cluster es
  pub placed : ArePlaced es
  pub more : also es
  pub centre : is_centre cluster a ≡ true
  pub booted : 0 < epoch_of (facts_of es a)
  pub keeps : Keeps cluster es a volatile

-- what has to be shown of the nodes: each step on a fair input is good; and what else is known holds of the empty ledger and stays at a boot
pub record AreGood (also : List Entry → Type 0) : Type 0 where
  pub step : (cluster : Cluster) (es : List Entry) (a : ℕ) (volatile : Volatile) (input : Input) → IsUp also cluster es a volatile → IsFair cluster es input →
      IsGood cluster also es a (step_of (here cluster a (facts_of es a)) volatile input)
  pub none : also []
  pub boot : (cluster : Cluster) (es : List Entry) (a n : ℕ) → IsAllowed cluster (Added a (Fact.Booted n) ∷ es) → also es → also (Added a (Fact.Booted n) ∷ es)
