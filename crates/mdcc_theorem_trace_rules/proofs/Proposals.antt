-- The answer to a proposal is good.
use Rattle.std.proofs.Common.{Bool, List, None, Option, Some, [], cond, false, inl, inr, refl, subst, sym, true, ℕ, ◌&&◌, ◌==◌, ◌∙◌, ◌∷◌, ◌≡◌, ◌⊎◌}
use Rattle.std.specs.Prelude.{length, nat_le, nat_lt}
use Rattle.std.proofs.lemmas.Bool.{and_from, and_parts, cases_Bool, eq-eqb, eqb-true, le-leb, lt-ltb, ltb-false}
use Rattle.mdcc_base.specs.declared.identifiers.Ballot.{Ballot}
use Rattle.mdcc_base.specs.declared.key.Key.{Key}
use Rattle.mdcc_base.specs.declared.identifiers.TxId.{TxId}
use Rattle.mdcc_base.specs.Ballot.{ballot_eq, fast_ballot, is_fast}
use Rattle.mdcc_base.specs.Key.{key_eq}
use Rattle.mdcc_base.specs.TxId.{tx_eq}
use Rattle.mdcc_option.specs.declared.choices.Mark.TheVariants.{Accept, Reject}
use Rattle.mdcc_option.specs.declared.choices.Cause.{Cause}
use Rattle.mdcc_option.specs.declared.choices.Choice.{Choice}
use Rattle.mdcc_option.specs.declared.cluster.Cluster.{Cluster}
use Rattle.mdcc_option.specs.declared.choices.Mark.{Mark}
use Rattle.mdcc_option.specs.declared.choices.Outcome.{Outcome}
use Rattle.mdcc_struct.specs.Maps.{value_of}
use Rattle.mdcc_def_protocol.specs.declared.fit.Fit.{Fit}
use Rattle.mdcc_def_protocol.specs.declared.fit.Fit.TheVariants.{Breaks, Conflict, Fits}
use Rattle.mdcc_def_messages.specs.declared.facts.Fact.{Fact}
use Rattle.mdcc_def_protocol.specs.Facts.{base_of, current_of, entries_of, heard_of, is_finished, last_vote, live_of, marks_voted, outcome_kept, promise_of, vote_of, votes_of}
use Rattle.mdcc_def_protocol.specs.Structures.{accept_room, reject_room}
use Rattle.mdcc_def_protocol.specs.declared.acceptor.ProposeAnswer.{ProposeAnswer}
use Rattle.mdcc_def_protocol.specs.Acceptor.{answer_after, answer_by_vote, answer_to_new, fit_of, vote_by_fit, vote_on, vote_to_accept, vote_to_reject}
use Rattle.mdcc_def_rules.specs.AcceptorRules.{propose_step, proposed_step}
use Rattle.mdcc_def_ledger.specs.Ledger.{Added, Entry, choices_begun, facts_of, mark_given}
use Rattle.mdcc_def_ledger.specs.AllowedLedgers.{IsAllowed}
use Rattle.mdcc_def_ledger.specs.AllowedStructures.{is_begun, is_own_mark}
use Rattle.mdcc_def_ledger.specs.BootTest.{is_allowed_mark}
use Rattle.mdcc_def_protocol.specs.Belongs.{cause_belongs, choice_belongs, tx_belongs, update_belongs}
use Rattle.mdcc_def_protocol.specs.Fit.{load_of}
use Rattle.mdcc_def_protocol.specs.Marks.{seen_in}
use Rattle.mdcc_def_messages.specs.declared.messages.Message.{Message}
use Rattle.mdcc_def_rules.specs.Messages.{to_one}
use Rattle.mdcc_def_protocol.specs.Volatile.{Volatile}
use Rattle.mdcc_theorem_trace_states.specs.Invariant.{IsGoodBy, IsGoodStep}
use Rattle.mdcc_theorem_trace_states.specs.VolatileInvariant.{IsPlaced}
use Rattle.mdcc_theorem_trace_states.proofs.Tests.{Decides-key, Decides-mark, may-add}
use Rattle.mdcc_theorem_trace_states.proofs.Lists.{IsTail-same}
use Rattle.mdcc_theorem_trace_states.proofs.Maps.{tx-refl, tx-true, value_of-union}
use Rattle.mdcc_theorem_trace_states.proofs.Ledgers.{any-In}
use Rattle.mdcc_theorem_trace_states.proofs.Kept.{ArePlaced-fact, Keeps-more, quiet-fact}
use Rattle.mdcc_theorem_trace_states.proofs.Belonging.{facts-belong, promise-belongs}
use Rattle.mdcc_theorem_trace_rules.proofs.Limits.{limit-belongs}
use Rattle.mdcc_theorem_trace_rules.proofs.Begins.{sends-good}
use Rattle.mdcc_theorem_trace_rules.proofs.Votings.{kept-heard, unforgotten, unvoted, vote-given, was-outcome}
use Rattle.mdcc_theorem_trace_rules.specs.Closed.{IsClosed}
use Rattle.mdcc_theorem_trace_states.specs.Steps.{IsUp}
use Rattle.mdcc_def_rules.specs.Here.{here}

-- ---- what a vote can be

to-reject : (cluster : Cluster) (facts : List Fact) (c : Choice) → ((cause : Cause) × (cause_belongs cluster cause ≡ true) × (vote_to_reject facts c ≡ ProposeAnswer.Escalate cause)) ⊎ (vote_to_reject facts c ≡ ProposeAnswer.Vote Reject)
to-reject cluster facts c = elim (cases_Bool (nat_lt (entries_of facts c.key c.version).1 reject_room)) [ inl e ↦ rw e (inr refl) | inr e ↦ rw e (inl (Cause.Full, refl, refl)) ]

to-accept : (cluster : Cluster) (facts : List Fact) (c : Choice) → ((cause : Cause) × (cause_belongs cluster cause ≡ true) × (vote_to_accept facts c ≡ ProposeAnswer.Escalate cause)) ⊎ (vote_to_accept facts c ≡ ProposeAnswer.Vote (Accept c))
to-accept cluster facts c = elim (cases_Bool (nat_lt (entries_of facts c.key c.version).0 (accept_room c.update))) [ inl e ↦ rw e (inr refl) | inr e ↦ rw e (inl (Cause.Full, refl, refl)) ]

-- a vote, or a cause of the cluster
abbrev pub IsVoteOr : Cluster → ProposeAnswer → Choice → Type 0
IsVoteOr cluster answer c = ((cause : Cause) × (cause_belongs cluster cause ≡ true) × (answer ≡ ProposeAnswer.Escalate cause)) ⊎ ((answer ≡ ProposeAnswer.Vote (Accept c)) ⊎ (answer ≡ ProposeAnswer.Vote Reject))

by-fit : (cluster : Cluster) (facts : List Fact) (c : Choice) (fit : Fit) → ((n : ℕ) → fit ≡ Fit.Limit n → nat_le n (length cluster.schema) ≡ true) → IsVoteOr cluster (vote_by_fit facts c fit) c
by-fit cluster facts c Fits h = elim (to-accept cluster facts c) [ inl e ↦ inl e | inr e ↦ inr (inl e) ]
by-fit cluster facts c Conflict h = elim (to-reject cluster facts c) [ inl e ↦ inl e | inr e ↦ inr (inr e) ]
by-fit cluster facts c (Fit.Limit n) h = inl (Cause.Limit n, h n refl, refl)
by-fit cluster facts c (Breaks n) h = elim (to-reject cluster facts c) [ inl e ↦ inl e | inr e ↦ inr (inr e) ]

vote-on : (cluster : Cluster) (facts : List Fact) (c : Choice) → update_belongs cluster c.update ≡ true → IsVoteOr cluster (vote_on cluster facts c) c
vote-on cluster facts c of =
    pick (nat_lt c.version (current_of facts c.key)) _ _ (elim (to-reject cluster facts c) [ inl g ↦ inl g | inr g ↦ inr (inr g) ])
    (by-fit cluster facts c (fit_of cluster facts c) (λ n g. limit-belongs cluster (base_of facts c.key) (load_of (live_of facts c.key c.version) (seen_in c.update)) c.update n of g))
  where
    pick : (test : Bool) (x y : ProposeAnswer) → IsVoteOr cluster x c → IsVoteOr cluster y c → IsVoteOr cluster (cond test x y) c
    pick true x y h g = h
    pick false x y h g = g

-- ---- the rule

module _ (also : List Entry → Type 0) (closed : IsClosed also) (cluster : Cluster) (es : List Entry) (a : ℕ) (volatile : Volatile) (up : IsUp also cluster es a volatile) (s : ℕ) (choice : Choice)
    (begun : is_begun es choice ≡ true) (belongs : choice_belongs cluster choice ≡ true) where
  abbrev pub voted_fact : Mark → Option Choice → Fact
  voted_fact mark off = Fact.Voted choice.key choice.version fast_ballot ((choice.tx, mark) ∷ []) off

  placed-one : IsPlaced es choice.key choice.version choice.tx
  placed-one = record { choice = choice; begun = any-In choice (choices_begun es choice.tx) begun; key_is = refl; version_is = refl }

  placed-by : (mark : Mark) (off : Option Choice) (k : Key) (v : ℕ) (b : Ballot) (t : TxId) (x : Mark) → value_of (marks_voted k v b (voted_fact mark off)) t ≡ Some x → IsPlaced es k v t
  placed-by mark off k v b t x h =
      elim (cases_Bool (choice.version == v && ballot_eq fast_ballot b && key_eq choice.key k)) [
        | inl e ↦
            let both = and_parts (choice.version == v && ballot_eq fast_ballot b) (key_eq choice.key k) e in
            let first = and_parts (choice.version == v) (ballot_eq fast_ballot b) both.0 in
            let g : cond (tx_eq choice.tx t) (Some mark) None ≡ Some x = rw e at h in
            elim (cases_Bool (tx_eq choice.tx t)) [
              | inl f ↦
                  subst (λ z. IsPlaced es k v z) (tx-true choice.tx t f)
                  (subst (λ z. IsPlaced es k z choice.tx) (eqb-true choice.version v first.0)
                  (subst (λ z. IsPlaced es z choice.version choice.tx) ((Decides-key choice.key k).0 both.1) placed-one))
              | inr f ↦ let bad : None ≡ Some x = rw f at g in absurd (cc)
            ]
        | inr e ↦ let bad : None ≡ Some x = rw e at h in absurd (cc)
      ]

  -- a vote that is allowed is good
  voted-good : (mark : Mark) (off : Option Choice) → IsAllowed cluster (Added a (voted_fact mark off) ∷ es) → last_vote (facts_of es a) choice.key choice.version choice.tx ≡ None →
      IsGoodStep cluster also es a (Added a (voted_fact mark off) ∷ []) (to_one a s (Message.Voted choice.key choice.version fast_ballot choice.tx mark)) volatile
  voted-good mark off legal none = record {
    own = (refl, tt);
    legal = legal;
    placed = ArePlaced-fact cluster a (voted_fact mark off) es legal up.placed (placed-by mark off);
    more = closed.more cluster (Added a (voted_fact mark off)) es legal refl up.more;
    stand = (record { from = up.centre; old = Added a (voted_fact mark off) ∷ es; tail = inl refl; says = given }, tt);
    keeps = Keeps-more cluster (Added a (voted_fact mark off)) es a volatile legal (quiet-fact a a (voted_fact mark off) es refl) up.keeps;
  }
    where
      test : (choice.version == choice.version && ballot_eq fast_ballot fast_ballot && key_eq choice.key choice.key) ≡ true
      test = and_from _ _ (and_from _ _ (eq-eqb choice.version choice.version refl) refl) ((Decides-key choice.key choice.key).1 refl)

      given : mark_given (Added a (voted_fact mark off) ∷ es) choice.key choice.version fast_ballot choice.tx a ≡ Some mark
      given =
          rw (eq-eqb a a refl)
          (value_of-union (votes_of (facts_of es a) choice.key choice.version fast_ballot) (marks_voted choice.key choice.version fast_ballot (voted_fact mark off)) choice.tx ∙
          (rw (unvoted (facts_of es a) choice.key choice.version choice.tx fast_ballot none) (rw test (rw (tx-refl choice.tx) refl))))

  abbrev pub GoodAnswer : ProposeAnswer → Type 0
  GoodAnswer answer = IsGoodBy cluster also es a (proposed_step a volatile s choice answer) (proposed_step a volatile s choice answer).fact

  parts : (tx_belongs cluster choice.tx ≡ true) × (update_belongs cluster choice.update ≡ true)
  parts = and_parts (tx_belongs cluster choice.tx) (update_belongs cluster choice.update) belongs

  escalate-good : (cause : Cause) → cause_belongs cluster cause ≡ true → GoodAnswer (ProposeAnswer.Escalate cause)
  escalate-good cause in-cause = sends-good also cluster es a volatile volatile _ up up.keeps (record { from = up.centre; old = es; tail = IsTail-same es; says = (parts.0, in-cause) }, tt)

  -- what holds where the instance is open for a vote at the fast ballot
  is-mark : (mark : Mark) → heard_of (facts_of es a) choice.tx ≡ None → is_finished (facts_of es a) choice.tx ≡ false → vote_of (facts_of es a) choice.key choice.version choice.tx ≡ None → nat_lt (current_of (facts_of es a) choice.key) choice.version ≡ false →
      is_fast (promise_of (facts_of es a) choice.key choice.version) ≡ true → vote_on cluster (facts_of es a) choice ≡ ProposeAnswer.Vote mark →
      is_allowed_mark cluster (facts_of es a) choice.key choice.version choice.tx mark choice ≡ true
  is-mark mark heard left_open none within fast vote =
      and_from _ _ (and_from _ _ (and_from _ _ (and_from _ _ (and_from _ _ (and_from _ _ (and_from _ _ (and_from _ _ (tx-refl choice.tx) (eq-eqb choice.version choice.version refl)) ((Decides-key choice.key choice.key).1 refl))
      (le-leb choice.version _ (ltb-false _ _ within))) fast) (rw none refl)) (rw heard refl)) (rw left_open refl)) (rw vote ((Decides-mark mark mark).1 refl))

  accept-legal : is_allowed_mark cluster (facts_of es a) choice.key choice.version choice.tx (Accept choice) choice ≡ true → IsAllowed cluster (Added a (voted_fact (Accept choice) None) ∷ es)
  accept-legal mark = (
    up.legal,
    (
      up.centre,
      may-add cluster (facts_of es a) (voted_fact (Accept choice) None)
          (and_from _ _ (and_from _ _ (and_from _ _ (and_from _ _ refl (and_from _ _ (and_from _ _ parts.0 belongs) refl)) refl) (lt-ltb 0 _ up.booted)) mark),
      and_from (is_own_mark es choice.key choice.version (choice.tx, Accept choice)) true own refl,
    ),
  )
    where
      own : is_own_mark es choice.key choice.version (choice.tx, Accept choice) ≡ true
      own = and_from _ _ (and_from _ _ (and_from _ _ (tx-refl choice.tx) (eq-eqb choice.version choice.version refl)) ((Decides-key choice.key choice.key).1 refl)) begun

  reject-legal : is_allowed_mark cluster (facts_of es a) choice.key choice.version choice.tx Reject choice ≡ true → IsAllowed cluster (Added a (voted_fact Reject (Some choice)) ∷ es)
  reject-legal mark = (
    up.legal,
    (
      up.centre,
      may-add cluster (facts_of es a) (voted_fact Reject (Some choice))
          (and_from _ _ (and_from _ _ (and_from _ _ (and_from _ _ refl (and_from _ _ (and_from _ _ parts.0 refl) refl)) belongs) (lt-ltb 0 _ up.booted)) mark),
      begun,
    ),
  )

  new-good : heard_of (facts_of es a) choice.tx ≡ None → is_finished (facts_of es a) choice.tx ≡ false → vote_of (facts_of es a) choice.key choice.version choice.tx ≡ None → GoodAnswer (answer_to_new cluster (facts_of es a) choice)
  new-good heard left_open none =
      elim (cases_Bool (nat_lt (current_of (facts_of es a) choice.key) choice.version)) [
        | inl e ↦ subst GoodAnswer (sym (behind e)) (escalate-good Cause.Behind refl)
        | inr e ↦ elim (cases_Bool (is_fast (promise_of (facts_of es a) choice.key choice.version))) [
          | inl f ↦ subst GoodAnswer (sym (voting e f)) (elim (vote-on cluster (facts_of es a) choice parts.1) [
            | inl g ↦ subst GoodAnswer (sym g.2) (escalate-good g.0 g.1)
            | inr g ↦ elim g [
              | inl k ↦ subst GoodAnswer (sym k) (refl, voted-good (Accept choice) None (accept-legal (is-mark (Accept choice) heard left_open none e f k)) (unforgotten (facts_of es a) choice.key choice.version choice.tx left_open none))
              | inr k ↦ subst GoodAnswer (sym k) (refl, voted-good Reject (Some choice) (reject-legal (is-mark Reject heard left_open none e f k)) (unforgotten (facts_of es a) choice.key choice.version choice.tx left_open none))
            ]
          ])
          | inr f ↦ subst GoodAnswer (sym (classic e f)) (escalate-good _ (promise-belongs cluster (facts_of es a) choice.key choice.version (facts-belong cluster es a up.legal)))
        ]
      ]
    where
      behind : nat_lt (current_of (facts_of es a) choice.key) choice.version ≡ true → answer_to_new cluster (facts_of es a) choice ≡ ProposeAnswer.Escalate Cause.Behind
      behind e = rw e refl

      voting : nat_lt (current_of (facts_of es a) choice.key) choice.version ≡ false → is_fast (promise_of (facts_of es a) choice.key choice.version) ≡ true → answer_to_new cluster (facts_of es a) choice ≡ vote_on cluster (facts_of es a) choice
      voting e f = rw e (rw f refl)

      classic : nat_lt (current_of (facts_of es a) choice.key) choice.version ≡ false → is_fast (promise_of (facts_of es a) choice.key choice.version) ≡ false →
          answer_to_new cluster (facts_of es a) choice ≡ ProposeAnswer.Escalate (Cause.Classic (promise_of (facts_of es a) choice.key choice.version))
      classic e f = rw e (rw f refl)

  pub propose-good : IsGoodBy cluster also es a (propose_step (here cluster a (facts_of es a)) volatile s choice) (propose_step (here cluster a (facts_of es a)) volatile s choice).fact
  propose-good = by_case (outcome_kept (facts_of es a) choice.tx) refl
    where
      by_vote : is_finished (facts_of es a) choice.tx ≡ false → heard_of (facts_of es a) choice.tx ≡ None → (x : Option (Ballot × Mark)) → vote_of (facts_of es a) choice.key choice.version choice.tx ≡ x → GoodAnswer (answer_by_vote cluster (facts_of es a) choice x)
      by_vote u e (Some x) f = sends-good also cluster es a volatile volatile _ up up.keeps (record { from = up.centre; old = es; tail = IsTail-same es; says = vote-given cluster es a choice.key choice.version choice.tx x up.legal f }, tt)
      by_vote u e None f = new-good e u f

      by_case : (o : Option Outcome) → outcome_kept (facts_of es a) choice.tx ≡ o → GoodAnswer (answer_after cluster (facts_of es a) choice o)
      by_case (Some o) e =
          let w = was-outcome cluster es a choice.tx o up.legal (kept-heard (facts_of es a) choice.tx o e) in
          sends-good also cluster es a volatile volatile _ up up.keeps (record { from = up.centre; old = w.old; tail = w.tail; says = w.outcome }, tt)
      by_case None e =
          elim (cases_Bool (is_finished (facts_of es a) choice.tx)) [
            | inl u ↦ subst GoodAnswer (sym (finished u)) (sends-good also cluster es a volatile volatile _ up up.keeps (record { from = up.centre; old = es; tail = IsTail-same es; says = u }, tt))
            | inr u ↦ subst GoodAnswer (sym (left_open u)) (by_vote u (unheard u e) (vote_of (facts_of es a) choice.key choice.version choice.tx) refl)
          ]
        where
          unheard : is_finished (facts_of es a) choice.tx ≡ false → outcome_kept (facts_of es a) choice.tx ≡ None → heard_of (facts_of es a) choice.tx ≡ None
          unheard u h = let g : heard_of (facts_of es a) choice.tx ≡ None = rw u at h in g

          finished : is_finished (facts_of es a) choice.tx ≡ true → answer_after cluster (facts_of es a) choice None ≡ ProposeAnswer.Finished
          finished u = rw u refl

          left_open : is_finished (facts_of es a) choice.tx ≡ false → answer_after cluster (facts_of es a) choice None ≡ answer_by_vote cluster (facts_of es a) choice (vote_of (facts_of es a) choice.key choice.version choice.tx)
          left_open u = if-not (is_finished (facts_of es a) choice.tx) u _ _
            where
              if-not : (x : Bool) → x ≡ false → (p q : ProposeAnswer) → cond x p q ≡ q
              if-not true h p q = absurd (cc)
              if-not false h p q = refl
