-- What is seen of a centre's acts, and when they are those of a run of its node.
use Rattle.std.specs.Prelude.{Bool, List, Result, [], filter, flat_map, fold, length, map, not, ℕ, ◌++◌, ◌∷◌, ◌≡◌, ◌≢◌, ◌⊎◌}
use Rattle.std.specs.List.{AllByRecursion}
use Rattle.mdcc_base.specs.declared.identifiers.TxId.{TxId}
use Rattle.mdcc_config.specs.declared.config.Config.{Config}
use Rattle.mdcc_def_messages.specs.declared.facts.Fact.{Fact}
use Rattle.mdcc_def_messages.specs.declared.messages.ClientAnswer.{ClientAnswer}
use Rattle.mdcc_def_messages.specs.declared.messages.Envelope.{Envelope}
use Rattle.mdcc_def_protocol.specs.Facts.{epoch_of}
use Rattle.mdcc_def_rules.specs.Steps.{NodeStep}
use Rattle.mdcc_def_rules.specs.declared.node.StepFault.{StepFault}
use Rattle.mdcc_def_server_runs.specs.Acts.{Act, facts_appended, steps_in}
use Rattle.mdcc_def_server_runs.specs.Arrivals.{is_for_client}
use Rattle.mdcc_def_server_runs.specs.Runs.{NodeState, after_step, facts_added, in_steps, outcomes_heard}
use Rattle.mdcc_def_server_runs.specs.Runs
use Rattle.mdcc_def_server_runs.specs.Sending.{answer_to, envelopes_sent}
use Rattle.mdcc_def_server_runs.specs.Sites.{Doing, Site, nothing_pending}
use Rattle.mdcc_def_server_runs.specs.declared.lines.ServerLine.{ServerLine}

-- ---- of acts

-- the lines
abbrev pub line_by : Act → List ServerLine
line_by (Act.Print line) = line ∷ []
line_by _ = []

abbrev pub server_lines_in : List Act → List ServerLine
server_lines_in acts = flat_map line_by acts

-- the datagrams, and the messages that cannot be sent
abbrev pub send_by : Act → List Act
send_by (Act.Send from to bytes answer) = Act.Send from to bytes answer ∷ []
send_by Act.Unsent = Act.Unsent ∷ []
send_by _ = []

abbrev pub sends_in : List Act → List Act
sends_in acts = flat_map send_by acts

-- What is seen of the acts of a centre: the facts that are appended to its log and no other, the lines that are printed, what is sent,
-- and how many steps there were.
pub record Shows (centre : ℕ) (acts : List Act) (facts : List Fact) (lines : List ServerLine) (sends : List Act) (steps : ℕ) : Type 0 where
  pub facts_are : facts_appended centre acts ≡ facts
  pub others : (other : ℕ) → other ≢ centre → facts_appended other acts ≡ []
  pub lines_are : server_lines_in acts ≡ lines
  pub sends_are : sends_in acts ≡ sends
  pub steps_are : steps_in acts ≡ steps

-- ---- of messages

-- those that do not go between a node and its client
abbrev pub is_for_centre : Envelope → Bool
is_for_centre envelope = not (is_for_client envelope.message)

abbrev pub between_centres : List Envelope → List Envelope
between_centres envelopes = filter is_for_centre envelopes

-- it is one of these
abbrev pub IsEnvelopeOf : List Envelope → Envelope → Type 0
IsEnvelopeOf [] envelope = ⊥
IsEnvelopeOf (one ∷ envelopes) envelope = (envelope ≡ one) ⊎ IsEnvelopeOf envelopes envelope

-- an answer to the client of a centre
pub record IsAnswerOf (centre : ℕ) (envelope : Envelope) : Type 0 where
  pub serial : ℕ
  pub answer : ClientAnswer
  pub is : envelope ≡ answer_to centre serial answer

-- it is one of these, or an answer to the client
abbrev pub IsOwed : ℕ → List Envelope → Envelope → Type 0
IsOwed centre envelopes envelope = IsEnvelopeOf envelopes envelope ⊎ IsAnswerOf centre envelope

-- ---- of runs

abbrev pub node_after : NodeState → List (Result NodeStep StepFault) → NodeState
node_after node made = fold after_step node made

abbrev pub steps_made : List (Result NodeStep StepFault) → List NodeStep
steps_made made = in_steps (λ step. step ∷ []) made

abbrev pub server_heard_line : ℕ → (TxId × Bool) → ServerLine
server_heard_line centre heard = ServerLine.Heard centre heard.0 heard.1

-- A centre did what its node made of inputs, after what was pending before them: it appended the facts, printed the outcomes, counted the
-- steps, and sent the messages in order, under its next serials and in its one epoch, with answers to its client among them. Nothing is
-- pending then.
pub record TellsMade (config : Config) (site : Site) (made : List (Result NodeStep StepFault)) (did : Doing) : Type 0 where
  pub mail : List Envelope
  pub shows : Shows site.centre did.acts
      (site.pending.facts ++ facts_added made)
      (map (server_heard_line site.centre) (site.pending.heard ++ outcomes_heard made))
      (envelopes_sent config site (site.pending.envelopes ++ mail)).acts
      (length (steps_made made))
  pub messages : between_centres mail ≡ between_centres (Runs.messages_sent made)
  pub owed : AllByRecursion (IsOwed site.centre (Runs.messages_sent made)) mail
  pub centre_is : did.site.centre ≡ site.centre
  pub node_is : did.site.node ≡ node_after site.node made
  pub epoch_is : epoch_of did.site.node.facts ≡ epoch_of site.node.facts
  pub sent_is : did.site.sent ≡ (envelopes_sent config site (site.pending.envelopes ++ mail)).site.sent
  pub logged_is : did.site.logged ≡ did.site.node.facts
  pub pending_is : did.site.pending ≡ nothing_pending
