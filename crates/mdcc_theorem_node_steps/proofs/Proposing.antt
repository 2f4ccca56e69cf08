-- A proposal: the vote that it adds is allowed.
use Rattle.std.proofs.Common.{◌≡◌, ℕ, true, false, List, refl, sym, inl, inr, subst, Option, Some, None, nat_lt, ap, cond, not, is_some, ◌∙◌, Bool, ◌&&◌}
use Rattle.std.proofs.lemmas.Bool.{and_from, and_parts, eq-eqb, cases_Bool, le-leb, ltb-false, cond_both, true≢false}
use Rattle.mdcc_base.specs.Ballot.{is_fast}
use Rattle.mdcc_base.specs.declared.identifiers.Ballot.{Ballot}
use Rattle.mdcc_option.specs.declared.choices.Cause.{Cause}
use Rattle.mdcc_option.specs.declared.choices.Choice.{Choice}
use Rattle.mdcc_option.specs.declared.choices.Mark.{Mark}
use Rattle.mdcc_option.specs.declared.choices.Outcome.{Outcome}
use Rattle.mdcc_option.specs.declared.cluster.Cluster.{Cluster}
use Rattle.mdcc_option.proofs.Equal.{Decides-key, Decides-mark, Decides-tx}
use Rattle.mdcc_def_protocol.specs.Acceptor.{answer_after, answer_to_new, fit_of, vote_by_fit, vote_on, vote_to_accept, vote_to_reject, answer_by_vote}
use Rattle.mdcc_def_rules.specs.AcceptorRules.{propose_step, proposed_step}
use Rattle.mdcc_def_ledger.specs.BootTest.{is_allowed_mark, is_answer}
use Rattle.mdcc_def_protocol.specs.Belongs.{choice_belongs, tx_belongs, update_belongs}
use Rattle.mdcc_def_protocol.specs.Facts.{current_of, entries_of, epoch_of, heard_of, promise_of, vote_of, is_finished, is_idle, is_past, outcome_kept, shows_mark}
use Rattle.mdcc_def_protocol.specs.Structures.{accept_room, reject_room}
use Rattle.mdcc_def_protocol.specs.Volatile.{Volatile}
use Rattle.mdcc_def_protocol.specs.declared.acceptor.ProposeAnswer.{ProposeAnswer}
use Rattle.mdcc_def_messages.specs.declared.facts.Fact.{Fact}
use Rattle.mdcc_def_protocol.specs.declared.fit.Fit.{Fit}
use Rattle.mdcc_theorem_node_steps.proofs.Allowing.{IsAllowedIf}
use Rattle.mdcc_def_rules.specs.Here.{here}
use Rattle.std.specs.List.{list_any}

-- a mark that is voted accepts this choice, or rejects
abbrev pub IsOwn : Choice → ProposeAnswer → Type 0
IsOwn choice (ProposeAnswer.Vote (Mark.Accept other)) = other ≡ choice
IsOwn choice _ = Unit {0}

pub own-vote_to_accept : (facts : List Fact) (choice : Choice) → IsOwn choice (vote_to_accept facts choice)
own-vote_to_accept facts choice =
    elim (cases_Bool (nat_lt (entries_of facts choice.key choice.version).0 (accept_room choice.update))) [ inl e ↦ rw e refl | inr e ↦ rw e tt ]

pub own-vote_to_reject : (facts : List Fact) (choice : Choice) → IsOwn choice (vote_to_reject facts choice)
own-vote_to_reject facts choice =
    elim (cases_Bool (nat_lt (entries_of facts choice.key choice.version).1 reject_room)) [ inl e ↦ rw e tt | inr e ↦ rw e tt ]

pub own-vote_by_fit : (facts : List Fact) (choice : Choice) (fit : Fit) → IsOwn choice (vote_by_fit facts choice fit)
own-vote_by_fit facts choice Fit.Fits = own-vote_to_accept facts choice
own-vote_by_fit facts choice Fit.Conflict = own-vote_to_reject facts choice
own-vote_by_fit facts choice (Fit.Limit quantity) = tt
own-vote_by_fit facts choice (Fit.Breaks quantity) = own-vote_to_reject facts choice

pub own-vote_on : (cluster : Cluster) (facts : List Fact) (choice : Choice) → IsOwn choice (vote_on cluster facts choice)
own-vote_on cluster facts choice =
    cond_both (nat_lt choice.version (current_of facts choice.key)) (vote_to_reject facts choice) (vote_by_fit facts choice (fit_of cluster facts choice)) (IsOwn choice)
    (λ e. own-vote_to_reject facts choice) (λ e. own-vote_by_fit facts choice (fit_of cluster facts choice))

module _ (cluster : Cluster) (me : ℕ) (facts : List Fact) (volatile : Volatile) (s : ℕ) (choice : Choice)
    (booted : nat_lt 0 (epoch_of facts) ≡ true) (belongs : choice_belongs cluster choice ≡ true) where
  abbrev pub IsFair : ProposeAnswer → Type 0
  IsFair answer = IsAllowedIf cluster facts (proposed_step me volatile s choice answer).fact

  parts : (tx_belongs cluster choice.tx ≡ true) × (update_belongs cluster choice.update ≡ true)
  parts = and_parts _ _ belongs

  allowed-mark : (mark : Mark) → heard_of facts choice.tx ≡ None → is_finished facts choice.tx ≡ false → vote_of facts choice.key choice.version choice.tx ≡ None
      → nat_lt (current_of facts choice.key) choice.version ≡ false → is_fast (promise_of facts choice.key choice.version) ≡ true
      → vote_on cluster facts choice ≡ ProposeAnswer.Vote mark
      → is_allowed_mark cluster facts choice.key choice.version choice.tx mark choice ≡ true
  allowed-mark mark heard unfinished none within fast vote =
      and_from _ _ (and_from _ _ (and_from _ _ (and_from _ _ (and_from _ _ (and_from _ _ (and_from _ _ (and_from _ _
      ((Decides-tx choice.tx choice.tx).1 refl) (eq-eqb choice.version choice.version refl)) ((Decides-key choice.key choice.key).1 refl))
      (le-leb choice.version _ (ltb-false _ _ within))) fast) (ap (λ (o : Option (Ballot × Mark)). not (is_some o)) none)) (ap (λ (o : Option Outcome). not (is_some o)) heard)) (ap not unfinished))
      (ap (is_answer mark) vote ∙ (Decides-mark mark mark).1 refl)

  fair-vote : (answer : ProposeAnswer) → vote_on cluster facts choice ≡ answer → IsOwn choice answer
      → ((mark : Mark) → vote_on cluster facts choice ≡ ProposeAnswer.Vote mark → is_allowed_mark cluster facts choice.key choice.version choice.tx mark choice ≡ true)
      → IsFair answer
  fair-vote (ProposeAnswer.Known outcome) e own allowed = tt
  fair-vote ProposeAnswer.Finished e own allowed = tt
  fair-vote (ProposeAnswer.Again ballot mark) e own allowed = tt
  fair-vote (ProposeAnswer.Escalate cause) e own allowed = tt
  fair-vote (ProposeAnswer.Vote (Mark.Accept other)) e own allowed = λ room.
      let mark : is_allowed_mark cluster facts choice.key choice.version choice.tx (Mark.Accept choice) choice ≡ true = rw own at (allowed (Mark.Accept other) e) in
      rw own (and_from _ _ (and_from _ _ (and_from _ _ (and_from _ _ refl (and_from _ _ (and_from _ _ parts.0 belongs) refl)) refl) booted) mark)
  fair-vote (ProposeAnswer.Vote Mark.Reject) e own allowed = λ room.
      and_from _ _ (and_from _ _ (and_from _ _ (and_from _ _ refl (and_from _ _ (and_from _ _ parts.0 refl) refl)) belongs) booted) (allowed Mark.Reject e)

  fair-new : heard_of facts choice.tx ≡ None → is_finished facts choice.tx ≡ false → vote_of facts choice.key choice.version choice.tx ≡ None → IsFair (answer_to_new cluster facts choice)
  fair-new heard unfinished none =
      elim (cases_Bool (nat_lt (current_of facts choice.key) choice.version)) [
        | inl e ↦ rw e tt
        | inr e ↦ elim (cases_Bool (is_fast (promise_of facts choice.key choice.version))) [
          | inl f ↦ subst IsFair (sym (voting e f))
              (fair-vote (vote_on cluster facts choice) refl (own-vote_on cluster facts choice) (λ mark vote. allowed-mark mark heard unfinished none e f vote))
          | inr f ↦ subst IsFair (sym (classic e f)) tt
        ]
      ]
    where
      voting : nat_lt (current_of facts choice.key) choice.version ≡ false → is_fast (promise_of facts choice.key choice.version) ≡ true
          → answer_to_new cluster facts choice ≡ vote_on cluster facts choice
      voting e f = rw (e, f) refl

      classic : nat_lt (current_of facts choice.key) choice.version ≡ false → is_fast (promise_of facts choice.key choice.version) ≡ false
          → answer_to_new cluster facts choice ≡ ProposeAnswer.Escalate (Cause.Classic (promise_of facts choice.key choice.version))
      classic e f = rw (e, f) refl

  pub propose-allowed : IsAllowedIf cluster facts (propose_step (here cluster me facts) volatile s choice).fact
  propose-allowed = by_answer (outcome_kept facts choice.tx) refl
    where
      -- what is not finished is not idle
      unheard : is_finished facts choice.tx ≡ false → outcome_kept facts choice.tx ≡ None → heard_of facts choice.tx ≡ None
      unheard u h =
          elim (cases_Bool (is_idle facts choice.tx)) [
            | inl e ↦
                let p = and_parts (is_finished facts choice.tx) (is_past facts (heard_of facts choice.tx)) (and_parts (is_finished facts choice.tx && is_past facts (heard_of facts choice.tx)) (not (list_any (shows_mark facts choice.tx) facts)) e).0 in
                absurd (true≢false (sym p.0 ∙ u))
            | inr e ↦ sym (kept-heard (is_idle facts choice.tx) (heard_of facts choice.tx) e) ∙ h
          ]
        where
          kept-heard : (b : Bool) (o : Option Outcome) → b ≡ false → cond b None o ≡ o
          kept-heard true o k = absurd (true≢false k)
          kept-heard false o k = refl

      by_vote : (x : Option (Ballot × Mark)) → vote_of facts choice.key choice.version choice.tx ≡ x → is_finished facts choice.tx ≡ false → outcome_kept facts choice.tx ≡ None → IsFair (answer_by_vote cluster facts choice x)
      by_vote (Some x) f u h = tt
      by_vote None f u h = fair-new (unheard u h) u f

      by_answer : (o : Option Outcome) → outcome_kept facts choice.tx ≡ o → IsFair (answer_after cluster facts choice o)
      by_answer (Some outcome) e = tt
      by_answer None e =
          cond_both (is_finished facts choice.tx) ProposeAnswer.Finished (answer_by_vote cluster facts choice (vote_of facts choice.key choice.version choice.tx)) IsFair (λ u. tt)
          (λ u. by_vote (vote_of facts choice.key choice.version choice.tx) refl u e)
