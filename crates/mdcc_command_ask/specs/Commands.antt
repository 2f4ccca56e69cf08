-- What the command that asks a centre does.
use Rattle.std.specs.Prelude.{Err, IfSome, List, MatchBool, Ok, Option, Result, Some, true, ℕ, ◌≡◌}
use Rattle.mdcc_command_ask.specs.Asking.{whole_asking}
use Rattle.mdcc_command_ask.specs.Effects.{Asks}
use Rattle.mdcc_command_ask.specs.declared.fault.AskFault.{AskFault}
use Rattle.mdcc_command_ask.specs.declared.order.Order.{Order}
use Rattle.mdcc_command_words.specs.declared.question.Question.{Question}
use Rattle.mdcc_config.specs.declared.config.Config.{Config}
use Rattle.mdcc_command_endings.specs.Completions.{CompletesAs}
use Rattle.mdcc_command_endings.specs.Endings.{EndsWithStatus}
use Rattle.mdcc_command_endings.specs.Readings.{GivesConfig, IsConfigRead}
use Rattle.mdcc_command_endings.specs.declared.fault.Failure.{Failure}
use Rattle.mdcc_link.specs.Link.{LinkCall}
use Rattle.mdcc_def_protocol.specs.Belongs.{is_centre}

-- a fault as a command has it
abbrev pub of_ask : AskFault → Failure
of_ask AskFault.Link = Failure.Link
of_ask AskFault.Output = Failure.Output
of_ask AskFault.Memory = Failure.Memory

abbrev pub as_done : Result (Unit {0}) AskFault → Result (Unit {0}) Failure
as_done (Ok done) = Ok tt
as_done (Err fault) = Err (of_ask fault)

-- what is asked of the centre of a question
abbrev pub order_of : Question → Order
order_of question = record { centre = question.centre; serial = question.serial; keys = question.keys; updates = question.updates }

-- nothing was done at the link, and nothing printed
pub record Untouched {L O : Type 0} (link_old link_new : L) (out_old out_new : O) : Type 0 where
  pub link : link_new ≡ link_old
  pub output : out_new ≡ out_old

module _ {L O : Type 0} (calls : L → Option (List LinkCall)) (held : O → Option (List ℕ)) (link_old link_new : L) (out_old out_new : O) where
  -- what a client of this centre did
  pub record AsksOne (config : Config) (question : Question) (done : Result (Unit {0}) Failure) : Type 0 where
    pub result : Result (Unit {0}) AskFault
    pub is : done ≡ as_done result
    pub asks : Asks calls held (whole_asking config (order_of question) question.turns) question.turns result link_old link_new out_old out_new

  -- it ended before anything was done
  abbrev pub IsEarlyAt : Failure → Result (Unit {0}) Failure → Type 0
  IsEarlyAt failure done = (done ≡ Err failure) × Untouched link_old link_new out_old out_new

  -- by what the input was read as
  abbrev pub AsksBy : Result Config Failure → Question → Result (Unit {0}) Failure → Type 0
  AsksBy (Ok config) question done = MatchBool (is_centre config.cluster question.centre) (AsksOne config question done) (IsEarlyAt Failure.Centre done)
  AsksBy (Err failure) question done = IsEarlyAt failure done

  -- `ask K TURNS SERIAL WORD..`
  pub record RunsAsk (input : List ℕ) (question : Question) (done : Result (Unit {0}) Failure) : Type 0 where
    pub read : Result Config Failure
    pub gives : GivesConfig input read
    pub asks : AsksBy read question done

  -- The command ended as its client did.
  pub record DoesAsk (left : Option (List ℕ)) (question : Question) (status : ℕ) (err_before err_after : Option (List ℕ)) (faults_before faults_after : ℕ) : Type 0 where
    pub done : Result (Unit {0}) Failure
    pub ends : EndsWithStatus done status err_before err_after faults_before faults_after
    pub runs : IfSome left (λ input. RunsAsk input question done)

  -- Over an accepted configuration with its centre: it asked all, and said so where the turns were over first. It has no limit.
  abbrev pub AskCompletes : Option (List ℕ) → Question → ℕ → Type 0
  AskCompletes left question status =
      (input : List ℕ) (config : Config) → left ≡ Some input → IsConfigRead input (Ok config) → is_centre config.cluster question.centre ≡ true
      → CompletesAs status (Asks calls held (whole_asking config (order_of question) question.turns) question.turns (Ok tt) link_old link_new out_old out_new) ⊥
