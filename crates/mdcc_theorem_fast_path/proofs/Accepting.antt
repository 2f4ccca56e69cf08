-- Just where an acceptor gives its vote to accept a choice.
use Rattle.std.proofs.Common.{Bool, List, None, Option, Some, arith, cond, false, refl, sym, true, ℕ, ◌<◌, ◌≡◌, subst, inl, inr, ◌&&◌}
use Rattle.std.specs.Prelude.{nat_lt}
use Rattle.std.proofs.lemmas.Bool.{lt-ltb, ltb-false, ltb-true, and_left, cases_Bool}
use Rattle.mdcc_base.specs.Ballot.{is_fast}
use Rattle.mdcc_base.specs.declared.identifiers.Ballot.{Ballot}
use Rattle.mdcc_option.specs.declared.choices.Cause.{Cause}
use Rattle.mdcc_option.specs.declared.choices.Choice.{Choice}
use Rattle.mdcc_option.specs.declared.choices.Mark.{Mark}
use Rattle.mdcc_option.specs.declared.choices.Outcome.{Outcome}
use Rattle.mdcc_option.specs.declared.cluster.Cluster.{Cluster}
use Rattle.mdcc_def_messages.specs.declared.facts.Fact.{Fact}
use Rattle.mdcc_def_protocol.specs.Acceptor.{answer_to_new, fit_of, vote_by_fit, vote_to_accept, vote_to_reject, answer_by_vote, answer_after}
use Rattle.mdcc_def_protocol.specs.Facts.{current_of, entries_of, heard_of, promise_of, vote_of, is_finished, is_idle, is_past, outcome_kept}
use Rattle.mdcc_def_protocol.specs.Structures.{accept_room, reject_room}
use Rattle.mdcc_def_protocol.specs.declared.acceptor.ProposeAnswer.{ProposeAnswer}
use Rattle.mdcc_def_protocol.specs.declared.fit.Fit.{Fit}
use Rattle.mdcc_theorem_round_trip.specs.Accepting.{IsAccepted}
use Rattle.mdcc_theorem_fast_path.specs.Accepting.{MayAccept}

below-not : (m n : ℕ) → m ≡ n → nat_lt m n ≡ false
below-not m n e = by (nat_lt m n) refl
  where
    by : (b : Bool) → nat_lt m n ≡ b → nat_lt m n ≡ false
    by true t = absurd (let l = ltb-true m n t in omega (arith, l, e))
    by false t = t

module _ (cluster : Cluster) (facts : List Fact) (choice : Choice) where
  pub accepts : MayAccept cluster facts choice → IsAccepted cluster facts choice
  accepts h =
      let behind = below-not (current_of facts choice.key) choice.version h.held in
      let older = below-not choice.version (current_of facts choice.key) (sym h.held) in
      let room = lt-ltb (entries_of facts choice.key choice.version).0 (accept_room choice.update) h.room in
      let kept : outcome_kept facts choice.tx ≡ None = elim (cases_Bool (is_idle facts choice.tx)) [ inl e ↦ rw e refl | inr e ↦ rw e h.unheard ] in
      subst (λ o. answer_after cluster facts choice o ≡ ProposeAnswer.Vote (Mark.Accept choice)) (sym kept)
      (subst (λ f. cond f ProposeAnswer.Finished (answer_by_vote cluster facts choice (vote_of facts choice.key choice.version choice.tx)) ≡ ProposeAnswer.Vote (Mark.Accept choice)) (sym h.unfinished)
      (subst (λ v. answer_by_vote cluster facts choice v ≡ ProposeAnswer.Vote (Mark.Accept choice)) (sym h.unvoted) (rw (behind, h.unpromised, older, h.fits, room) refl)))

  abbrev accepting : ProposeAnswer
  accepting = ProposeAnswer.Vote (Mark.Accept choice)

  never-rejects : vote_to_reject facts choice ≡ accepting → ⊥
  never-rejects h = by (nat_lt (entries_of facts choice.key choice.version).1 reject_room) h
    where
      by : (b : Bool) → cond b (ProposeAnswer.Vote Mark.Reject) (ProposeAnswer.Escalate Cause.Full) ≡ ProposeAnswer.Vote (Mark.Accept choice) → ⊥
      by true e = let m : Mark.Reject ≡ Mark.Accept choice = cc in cc
      by false e = cc

  to-accept : vote_to_accept facts choice ≡ accepting → (entries_of facts choice.key choice.version).0 < accept_room choice.update
  to-accept h = by (nat_lt (entries_of facts choice.key choice.version).0 (accept_room choice.update)) refl h
    where
      by : (b : Bool) → nat_lt (entries_of facts choice.key choice.version).0 (accept_room choice.update) ≡ b → cond b (ProposeAnswer.Vote (Mark.Accept choice)) (ProposeAnswer.Escalate Cause.Full) ≡ ProposeAnswer.Vote (Mark.Accept choice)
          → (entries_of facts choice.key choice.version).0 < accept_room choice.update
      by true e g = ltb-true (entries_of facts choice.key choice.version).0 (accept_room choice.update) e
      by false e g = absurd (cc)

  by-fit : (fit : Fit) → vote_by_fit facts choice fit ≡ accepting → (fit ≡ Fit.Fits) × ((entries_of facts choice.key choice.version).0 < accept_room choice.update)
  by-fit Fit.Fits h = (refl, to-accept h)
  by-fit Fit.Conflict h = absurd (never-rejects h)
  by-fit (Fit.Limit quantity) h = absurd (cc)
  by-fit (Fit.Breaks quantity) h = absurd (never-rejects h)

  -- what the vote of a proposal that is neither heard nor voted shows
  record IsNew : Type 0 where
    held : current_of facts choice.key ≡ choice.version
    unpromised : is_fast (promise_of facts choice.key choice.version) ≡ true
    fits : fit_of cluster facts choice ≡ Fit.Fits
    room : (entries_of facts choice.key choice.version).0 < accept_room choice.update

  new : answer_to_new cluster facts choice ≡ accepting → IsNew
  new h = by (nat_lt (current_of facts choice.key) choice.version) (is_fast (promise_of facts choice.key choice.version)) (nat_lt choice.version (current_of facts choice.key)) refl refl refl h
    where
      same : (m n : ℕ) → nat_lt m n ≡ false → nat_lt n m ≡ false → m ≡ n
      same m n a b = let x = ltb-false m n a in let y = ltb-false n m b in omega (arith, x, y)

      by : (x y z : Bool) → nat_lt (current_of facts choice.key) choice.version ≡ x → is_fast (promise_of facts choice.key choice.version) ≡ y → nat_lt choice.version (current_of facts choice.key) ≡ z
          → cond x (ProposeAnswer.Escalate Cause.Behind) (cond y (cond z (vote_to_reject facts choice) (vote_by_fit facts choice (fit_of cluster facts choice))) (ProposeAnswer.Escalate (Cause.Classic (promise_of facts choice.key choice.version)))) ≡ accepting
          → IsNew
      by true y z ex ey ez g = absurd (cc)
      by false false z ex ey ez g = absurd (cc)
      by false true true ex ey ez g = absurd (never-rejects g)
      by false true false ex ey ez g =
          let k = by-fit (fit_of cluster facts choice) g in
          record { held = same (current_of facts choice.key) choice.version ex ez; unpromised = ey; fits = k.0; room = k.1 }

  pub may : IsAccepted cluster facts choice → MayAccept cluster facts choice
  may h = by_kept (outcome_kept facts choice.tx) refl h
    where
      by_vote : (f : Bool) (v : Option (Ballot × Mark)) → outcome_kept facts choice.tx ≡ None → is_finished facts choice.tx ≡ f → vote_of facts choice.key choice.version choice.tx ≡ v
          → cond f ProposeAnswer.Finished (answer_by_vote cluster facts choice v) ≡ accepting → MayAccept cluster facts choice
      by_vote true v eo ef ev g = absurd (cc)
      by_vote false (Some vote) eo ef ev g = absurd (cc)
      by_vote false None eo ef ev g =
          let k = new g in
          let busy : is_idle facts choice.tx ≡ false = and_left (is_finished facts choice.tx && is_past facts (heard_of facts choice.tx)) _ (and_left (is_finished facts choice.tx) _ ef) in
          let unheard : heard_of facts choice.tx ≡ None = subst (λ z. cond z None (heard_of facts choice.tx) ≡ None) busy eo in
          record { held = k.held; unpromised = k.unpromised; unfinished = ef; unheard = unheard; unvoted = ev; fits = k.fits; room = k.room }

      by_kept : (o : Option Outcome) → outcome_kept facts choice.tx ≡ o → answer_after cluster facts choice o ≡ accepting → MayAccept cluster facts choice
      by_kept (Some outcome) eo g = absurd (cc)
      by_kept None eo g = by_vote (is_finished facts choice.tx) (vote_of facts choice.key choice.version choice.tx) eo refl refl g
