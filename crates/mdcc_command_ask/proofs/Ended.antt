-- How the command ends, by what its client did.
use Rattle.std.proofs.Common.{◌≡◌, Bool, Err, IfErr, IfSome, IsErrOf, List, None, Ok, Option, Result, Some, false, refl, subst, sym, true, ℕ}
use Rattle.std.specs.Prelude.{MatchBool}
use Rattle.mdcc_log_file.specs.declared.fault.LogFault.{LogFault}
use Rattle.mdcc_command_ask.specs.Asking.{whole_asking}
use Rattle.mdcc_command_ask.specs.Commands.{AsksOne, RunsAsk, Untouched, as_done, order_of}
use Rattle.mdcc_command_ask.specs.Effects.{Asks}
use Rattle.mdcc_command_ask.specs.declared.fault.AskFault.{AskFault}
use Rattle.mdcc_command_ask.specs.declared.order.Order.{Order}
use Rattle.mdcc_base.specs.declared.source.ReadAllFault.{ReadAllFault}
use Rattle.mdcc_command_words.specs.declared.question.Question.{Question}
use Rattle.mdcc_config.specs.declared.config.Config.{Config}
use Rattle.mdcc_command_endings.specs.Readings.{GivesConfig, IsEarly}
use Rattle.mdcc_command_endings.specs.declared.fault.Failure.{Failure}
use Rattle.mdcc_link.specs.Link.{LinkCall}
use Rattle.mdcc_def_protocol.specs.Belongs.{is_centre}

-- ---- what a client did

-- it is not refused before the link is asked
none_early : (P : Type 0) (result : Result (Unit {0}) AskFault) → IfErr (as_done result) (λ failure. IsEarly failure → P)
none_early P (Ok done) = tt
none_early P (Err AskFault.Link) = λ h. absurd h
none_early P (Err AskFault.Output) = λ h. absurd h
none_early P (Err AskFault.Memory) = λ h. absurd h

pub not_early : (P : Type 0) (result : Result (Unit {0}) AskFault) (done : Result (Unit {0}) Failure) → done ≡ as_done result → IfErr done (λ failure. IsEarly failure → P)
not_early P result done is = subst (λ (r : Result (Unit {0}) Failure). IfErr r (λ failure. IsEarly failure → P)) (sym is) (none_early P result)

pub no_disk : (a : ℕ) (result : Result (Unit {0}) AskFault) → as_done result ≡ Err (Failure.Log a LogFault.DiskFault) → ⊥
no_disk a (Ok done) e = absurd (cc)
no_disk a (Err AskFault.Link) e = absurd (cc)
no_disk a (Err AskFault.Output) e = absurd (cc)
no_disk a (Err AskFault.Memory) e = absurd (cc)

pub no_input : (result : Result (Unit {0}) AskFault) → as_done result ≡ Err (Failure.Input ReadAllFault.Failed) → ⊥
no_input (Ok done) e = absurd (cc)
no_input (Err AskFault.Link) e = absurd (cc)
no_input (Err AskFault.Output) e = absurd (cc)
no_input (Err AskFault.Memory) e = absurd (cc)

pub link_asked : (result : Result (Unit {0}) AskFault) → as_done result ≡ Err Failure.Link → IsErrOf result AskFault.Link
link_asked (Ok done) e = absurd (cc)
link_asked (Err AskFault.Link) e = refl
link_asked (Err AskFault.Output) e = absurd (cc)
link_asked (Err AskFault.Memory) e = absurd (cc)

pub output_asked : (result : Result (Unit {0}) AskFault) → as_done result ≡ Err Failure.Output → IsErrOf result AskFault.Output
output_asked (Ok done) e = absurd (cc)
output_asked (Err AskFault.Link) e = absurd (cc)
output_asked (Err AskFault.Output) e = refl
output_asked (Err AskFault.Memory) e = absurd (cc)

-- ---- what the command did

at_true : (b : Bool) (P Q : Type 0) → b ≡ true → P → MatchBool b P Q
at_true true P Q e p = p
at_true false P Q e p = absurd (cc)

at_false : (b : Bool) (P Q : Type 0) → b ≡ false → Q → MatchBool b P Q
at_false true P Q e q = absurd (cc)
at_false false P Q e q = q

module _ {L O : Type 0} (calls : L → Option (List LinkCall)) (held : O → Option (List ℕ)) (link_old link_new : L) (out_old out_new : O) where
  -- its input is no configuration
  pub unread_runs : (left : Option (List ℕ)) (question : Question) (failure : Failure) (done : Result (Unit {0}) Failure) → done ≡ Err failure → Untouched link_old link_new out_old out_new → IfSome left (λ input. GivesConfig input (Err failure))
      → IfSome left (λ input. RunsAsk calls held link_old link_new out_old out_new input question done)
  unread_runs None question failure done is untouched gives = tt
  unread_runs (Some input) question failure done is untouched gives = record { read = Err failure; gives = gives; asks = (is, untouched) }

  -- the configuration has no such centre
  pub no_centre_runs : (left : Option (List ℕ)) (question : Question) (config : Config) → is_centre config.cluster question.centre ≡ false → Untouched link_old link_new out_old out_new → IfSome left (λ input. GivesConfig input (Ok config))
      → IfSome left (λ input. RunsAsk calls held link_old link_new out_old out_new input question (Err Failure.Centre))
  no_centre_runs None question config none untouched gives = tt
  no_centre_runs (Some input) question config none untouched gives =
      record { read = Ok config; gives = gives; asks = at_false (is_centre config.cluster question.centre) (AsksOne calls held link_old link_new out_old out_new config question (Err Failure.Centre)) _ none (refl, untouched) }

  -- its centre was asked
  pub asked_runs : (left : Option (List ℕ)) (question : Question) (config : Config) (order : Order) (result : Result (Unit {0}) AskFault) (done : Result (Unit {0}) Failure) → order ≡ order_of question
      → is_centre config.cluster question.centre ≡ true → done ≡ as_done result → Asks calls held (whole_asking config order question.turns) question.turns result link_old link_new out_old out_new
      → IfSome left (λ input. GivesConfig input (Ok config)) → IfSome left (λ input. RunsAsk calls held link_old link_new out_old out_new input question done)
  asked_runs None question config order result done same there is asks gives = tt
  asked_runs (Some input) question config order result done same there is asks gives =
      let its = subst (λ (o : Order). Asks calls held (whole_asking config o question.turns) question.turns result link_old link_new out_old out_new) same asks in
      record {
        read = Ok config;
        gives = gives;
        asks = at_true (is_centre config.cluster question.centre) (AsksOne calls held link_old link_new out_old out_new config question done) _ there (record { result = result; is = is; asks = its });
      }

-- ---- the end of the command

pub input_early : (failure : Failure) → failure ≡ Failure.Input ReadAllFault.Failed → IsEarly failure
input_early failure e = subst (λ (f : Failure). IsEarly f) (sym e) tt
