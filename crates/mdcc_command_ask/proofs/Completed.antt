-- How the command ends over an accepted configuration where nothing failed.
use Rattle.std.proofs.Common.{◌≡◌, ◌⊎◌, ◌&&◌, ◌==◌, ◌∙◌, Err, IfSome, IsTrue, List, Ok, Option, Result, ap, inl, inr, subst, ℕ}
use Rattle.std.specs.Prelude.{is_err}
use Rattle.mdcc_command_ask.specs.Asking.{whole_asking}
use Rattle.mdcc_command_ask.specs.Commands.{AskCompletes, AsksBy, AsksOne, RunsAsk, as_done, order_of}
use Rattle.mdcc_command_ask.specs.Effects.{Asks}
use Rattle.mdcc_command_ask.specs.declared.fault.AskFault.{AskFault}
use Rattle.mdcc_base.specs.declared.source.ReadAllFault.{ReadAllFault}
use Rattle.mdcc_command_words.specs.declared.question.Question.{Question}
use Rattle.mdcc_config.specs.declared.config.Config.{Config}
use Rattle.mdcc_command_endings.proofs.Accepted.{IsUnlucky, accepted, from_true, status_done, status_failed}
use Rattle.mdcc_command_endings.specs.Completions.{CompletesAs}
use Rattle.mdcc_command_endings.specs.Endings.{status_after}
use Rattle.mdcc_command_endings.specs.declared.fault.Failure.{Failure}
use Rattle.mdcc_link.specs.Link.{LinkCall}
use Rattle.mdcc_def_protocol.specs.Belongs.{is_centre}

module _ {L O : Type 0} (calls : L → Option (List LinkCall)) (held : O → Option (List ℕ)) (link_old link_new : L) (out_old out_new : O)
    (done : Result (Unit {0}) Failure) (status : ℕ) (status_is : (status ≡ status_after done) ⊎ IsTrue (is_err done && status == 10))
    (input_still : done ≡ Err (Failure.Input ReadAllFault.Failed) → ⊥) (link_still : done ≡ Err Failure.Link → ⊥) (output_still : done ≡ Err Failure.Output → ⊥)
  where
    unlucky_ends : (failure : Failure) (whole : Type 0) → done ≡ Err failure → IsUnlucky failure → CompletesAs status whole ⊥
    unlucky_ends failure whole is unlucky = elim (status_failed done failure status is status_is) [
      | inl e ↦ elim unlucky.why [
        | inl failed ↦ absurd (input_still (is ∙ ap (λ (f : Failure). let err : Result (Unit {0}) Failure = Err f in err) failed))
        | inr ten ↦ inr (inl (e ∙ ten))
      ]
      | inr ten ↦ inr (inl ten)
    ]

    client_ends : (config : Config) (question : Question) (result : Result (Unit {0}) AskFault) → done ≡ as_done result
        → Asks calls held (whole_asking config (order_of question) question.turns) question.turns result link_old link_new out_old out_new
        → CompletesAs status (Asks calls held (whole_asking config (order_of question) question.turns) question.turns (Ok tt) link_old link_new out_old out_new) ⊥
    client_ends config question (Ok done_it) is asks =
        inl (status_done done_it status (subst (λ (r : Result (Unit {0}) Failure). (status ≡ status_after r) ⊎ IsTrue (is_err r && status == 10)) is status_is), asks)
    client_ends config question (Err AskFault.Link) is asks = absurd (link_still is)
    client_ends config question (Err AskFault.Output) is asks = absurd (output_still is)
    client_ends config question (Err AskFault.Memory) is asks = elim (status_failed done Failure.Memory status is status_is) [
      | inl e ↦ inr (inl e)
      | inr ten ↦ inr (inl ten)
    ]

    pub ask_completes : (left : Option (List ℕ)) (question : Question) → IfSome left (λ input. RunsAsk calls held link_old link_new out_old out_new input question done)
        → AskCompletes calls held link_old link_new out_old out_new left question status
    ask_completes left question runs input config known is there = by_read run (accepted input config run.read is run.gives)
      where
        run : RunsAsk calls held link_old link_new out_old out_new input question done
        run = subst (λ (l : Option (List ℕ)). IfSome l (λ input. RunsAsk calls held link_old link_new out_old out_new input question done)) known runs

        by_read : (run : RunsAsk calls held link_old link_new out_old out_new input question done) → (run.read ≡ Ok config) ⊎ ((failure : Failure) × (run.read ≡ Err failure) × IsUnlucky failure)
            → CompletesAs status (Asks calls held (whole_asking config (order_of question) question.turns) question.turns (Ok tt) link_old link_new out_old out_new) ⊥
        by_read run (inl e) =
            let one : AsksOne calls held link_old link_new out_old out_new config question done =
            from_true (is_centre config.cluster question.centre) _ _ there (subst (λ (r : Result Config Failure). AsksBy calls held link_old link_new out_old out_new r question done) e run.asks) in
            client_ends config question one.result one.is one.asks
        by_read run (inr it) =
            let same : done ≡ Err it.0 = (subst (λ (r : Result Config Failure). AsksBy calls held link_old link_new out_old out_new r question done) it.1 run.asks).0 in
            unlucky_ends it.0 (Asks calls held (whole_asking config (order_of question) question.turns) question.turns (Ok tt) link_old link_new out_old out_new) same it.2
