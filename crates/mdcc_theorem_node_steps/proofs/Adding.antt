-- Facts that are heard, adopted, promised or voted for a leader: each is allowed.
use Rattle.std.proofs.Common.{◌≡◌, ℕ, ◌==◌, ◌||◌, ◌&&◌, ◌≤◌, Bool, true, false, List, [], ◌∷◌, length, refl, ap, inl, inr, Option, Some, None, nat_lt, nat_le, not, is_some, filter, arith}
use Rattle.std.proofs.lemmas.Bool.{and_from, cases_Bool, eq-eqb, le-leb, ltb-false, lt-ltb, not_from_false, or_left, or_right, or_parts}
use Rattle.std.proofs.lemmas.Bool.Decides.{nat_tests}
use Rattle.mdcc_base.specs.Ballot.{ballot_lt, is_fast}
use Rattle.mdcc_base.specs.declared.identifiers.Ballot.{Ballot}
use Rattle.mdcc_base.specs.declared.identifiers.TxId.{TxId}
use Rattle.mdcc_base.specs.declared.key.Key.{Key}
use Rattle.mdcc_option.specs.declared.choices.Mark.{Mark}
use Rattle.mdcc_option.specs.declared.choices.Outcome.{Outcome}
use Rattle.mdcc_option.specs.declared.cluster.Cluster.{Cluster}
use Rattle.mdcc_struct.specs.Maps.{are_ascending, value_of}
use Rattle.mdcc_struct.specs.declared.options.Options.{Options}
use Rattle.mdcc_struct.proofs.Ordered.{ascending-below, ascending-tail, value_of-below}
use Rattle.mdcc_struct.proofs.Walks.{ascending-filter}
use Rattle.mdcc_def_protocol.specs.Acceptor.{answer_to_marks, new_marks, promise_answer, range_end}
use Rattle.mdcc_def_rules.specs.AcceptorRules.{accept_step, accepted_step, prepare_step, prepared_step}
use Rattle.mdcc_def_ledger.specs.AllowedFacts.{are_apart}
use Rattle.mdcc_def_ledger.specs.BootTest.{is_allowed_classic_vote, is_allowed_fact, is_allowed_promise}
use Rattle.mdcc_def_protocol.specs.Belongs.{adds_belong, ballot_belongs, item_belongs, mark_belongs, options_belong, outcome_belongs, tx_belongs}
use Rattle.mdcc_def_protocol.specs.Facts.{current_of, epoch_of, is_heard, promise_of, promised_through, votes_of, is_finished, is_settled}
use Rattle.mdcc_def_protocol.specs.News.{is_crowding, is_news}
use Rattle.mdcc_def_rules.specs.SyncRules.{outcome_step, sync_give_step}
use Rattle.mdcc_def_protocol.specs.Volatile.{Volatile}
use Rattle.mdcc_def_messages.specs.WellFormedParts.{IsWellFormedClassic}
use Rattle.mdcc_def_messages.specs.declared.facts.Fact.{Fact}
use Rattle.mdcc_def_protocol.specs.declared.visible.Give.{Give}
use Rattle.mdcc_theorem_node_steps.proofs.Allowing.{IsAllowedIf}
use Rattle.mdcc_theorem_node_steps.proofs.Each.{all-filter}

-- a leader's ballot is not the fast one
pub classic-not_fast : (ballot : Ballot) → IsWellFormedClassic ballot → is_fast ballot ≡ false
classic-not_fast ballot h = let some : 1 ≤ ballot.round = h.round.0 in grind (arith, nat_tests, some)

-- ---- outcomes

pub heard-allowed : (cluster : Cluster) (facts : List Fact) (tx : TxId) (outcome : Outcome) → nat_lt 0 (epoch_of facts) ≡ true
    → tx_belongs cluster tx ≡ true → outcome_belongs cluster outcome ≡ true → is_settled facts tx ≡ false
    → IsAllowedIf cluster facts (Some (Fact.Heard tx outcome))
heard-allowed cluster facts tx outcome booted of_tx of_outcome unsettled room =
    let neither = or_parts (is_heard facts tx) (is_finished facts tx) unsettled in
    and_from _ _ (and_from _ _ (and_from _ _ of_tx of_outcome) booted)
    (and_from _ _ (and_from _ _ (not_from_false (is_heard facts tx) neither.0) (not_from_false (is_finished facts tx) neither.1)) (not_from_false (is_crowding facts (Fact.Heard tx outcome)) room))

pub outcome-allowed : (cluster : Cluster) (facts : List Fact) (volatile : Volatile) (tx : TxId) (outcome : Outcome) → nat_lt 0 (epoch_of facts) ≡ true
    → tx_belongs cluster tx ≡ true → outcome_belongs cluster outcome ≡ true
    → IsAllowedIf cluster facts (outcome_step facts volatile tx outcome).fact
outcome-allowed cluster facts volatile tx outcome booted of_tx of_outcome =
    elim (cases_Bool (is_settled facts tx)) [
      | inl e ↦ rw e tt
      | inr e ↦ rw e (heard-allowed cluster facts tx outcome booted of_tx of_outcome e)
    ]

-- ---- data of a key

pub give-allowed : (cluster : Cluster) (facts : List Fact) (volatile : Volatile) (give : Give) → nat_lt 0 (epoch_of facts) ≡ true
    → item_belongs cluster give.item ≡ true → adds_belong cluster give.adds ≡ true
    → IsAllowedIf cluster facts (sync_give_step facts volatile give).fact
give-allowed cluster facts volatile give booted of_item of_adds =
    elim (cases_Bool (is_news facts give.key give.version give.adds)) [
      | inl e ↦ rw e (λ room. and_from _ _ (and_from _ _ (and_from _ _ of_item of_adds) booted)
          (and_from _ _ e (not_from_false (is_crowding facts (Fact.Adopted give.key give.version give.item give.adds)) room)))
      | inr e ↦ rw e tt
    ]

-- ---- promises

promise-range : (facts : List Fact) (key : Key) (version through : ℕ) → version ≤ through
    → (range_end facts key version through == version || (nat_le version (range_end facts key version through) && nat_le (current_of facts key) version)) ≡ true
promise-range facts key version through h =
    elim (cases_Bool (nat_le (current_of facts key) version)) [
      | inl e ↦ rw e (or_right (through == version) _ (and_from _ _ (le-leb version through h) refl))
      | inr e ↦ rw e (or_left _ _ (eq-eqb version version refl))
    ]

pub prepare-allowed : (cluster : Cluster) (me : ℕ) (facts : List Fact) (volatile : Volatile) (l : ℕ) (key : Key) (version through : ℕ) (ballot : Ballot)
    → nat_lt 0 (epoch_of facts) ≡ true → ballot_belongs cluster ballot ≡ true → IsWellFormedClassic ballot → version ≤ through
    → IsAllowedIf cluster facts (prepare_step me facts volatile l key version through ballot).fact
prepare-allowed cluster me facts volatile l key version through ballot booted belongs classic up =
    elim (cases_Bool (ballot_lt ballot (promise_of facts key version))) [
      | inl e ↦ rw e tt
      | inr e ↦ rw e (by_promise (promised_through facts key version ballot) refl e)
    ]
  where
    by_promise : (o : Option ℕ) → promised_through facts key version ballot ≡ o → ballot_lt ballot (promise_of facts key version) ≡ false
        → IsAllowedIf cluster facts (prepared_step me facts volatile l key version ballot (promise_answer o (range_end facts key version through))).fact
    by_promise (Some high) e below = tt
    by_promise None e below = λ room.
        let kind : is_allowed_promise facts key version (range_end facts key version through) ballot ≡ true =
        and_from _ _ (and_from _ _ (and_from _ _ (not_from_false (is_fast ballot) (classic-not_fast ballot classic)) (not_from_false (ballot_lt ballot (promise_of facts key version)) below)) (rw e refl))
        (promise-range facts key version through up) in
        and_from _ _ (and_from _ _ belongs booted) kind

-- ---- votes for a leader

pub ascending-apart : (options : Options) → are_ascending options ≡ true → are_apart options ≡ true
ascending-apart [] h = refl
ascending-apart (e ∷ es) h = rw (value_of-below e.0 es (ascending-below e es h)) (ascending-apart es (ascending-tail e es h))

filter-again : {X : Type 0} (test : X → Bool) (xs : List X) → filter test (filter test xs) ≡ filter test xs
filter-again test [] = refl
filter-again {X = X} test (x ∷ xs) =
    elim (cases_Bool (test x)) [
      | inl e ↦ rw (e, e) (ap (λ (ys : List X). x ∷ ys) (filter-again test xs))
      | inr e ↦ rw e (filter-again test xs)
    ]

module _ (cluster : Cluster) (me : ℕ) (facts : List Fact) (volatile : Volatile) (l : ℕ) (key : Key) (version : ℕ) (ballot : Ballot) (options : Options)
    (booted : nat_lt 0 (epoch_of facts) ≡ true) (classic : is_fast ballot ≡ false)
    (of_ballot : ballot_belongs cluster ballot ≡ true) (of_options : options_belong cluster options ≡ true) (ascending : are_ascending options ≡ true) where
  abbrev is_new : TxId × Mark → Bool
  is_new e = not (is_some (value_of (votes_of facts key version ballot) e.0) || is_finished facts e.0)

  marks-allowed : (e : TxId × Mark) (es : Options) → new_marks facts key version ballot options ≡ e ∷ es
      → ballot_lt ballot (promise_of facts key version) ≡ false → nat_lt (current_of facts key) version ≡ false
      → is_allowed_fact cluster facts (Fact.Voted key version ballot (e ∷ es) None) ≡ true
  marks-allowed e es same below held =
      let belongs : options_belong cluster (e ∷ es) ≡ true = rw same at (all-filter (λ e. tx_belongs cluster e.0 && mark_belongs cluster e.1) is_new options of_options) in
      let order : are_ascending (e ∷ es) ≡ true = rw same at (ascending-filter is_new options ascending) in
      let again : filter is_new (e ∷ es) ≡ e ∷ es = rw same at (filter-again is_new options) in
      let kind : is_allowed_classic_vote facts key version ballot (e ∷ es) None ≡ true = and_from _ _ (and_from _ _ (and_from _ _ (and_from _ _ (and_from _ _
      (not_from_false (ballot_lt ballot (promise_of facts key version)) below) (le-leb version _ (ltb-false _ _ held)))
      (lt-ltb 0 (length (e ∷ es)) (omega arith))) (ascending-apart (e ∷ es) order)) (eq-eqb _ _ (ap length again))) refl in
      and_from _ _ (and_from _ _ (and_from _ _ (and_from _ _ of_ballot belongs) refl) booted) (rw classic kind)

  pub accept-allowed : IsAllowedIf cluster facts (accept_step me facts volatile l key version ballot options).fact
  accept-allowed =
      elim (cases_Bool (ballot_lt ballot (promise_of facts key version))) [
        | inl e ↦ rw e tt
        | inr e ↦ elim (cases_Bool (nat_lt (current_of facts key) version)) [
          | inl f ↦ rw (e, f) tt
          | inr f ↦ rw (e, f) (by_marks (new_marks facts key version ballot options) refl e f)
        ]
      ]
    where
      by_marks : (marks : Options) → new_marks facts key version ballot options ≡ marks
          → ballot_lt ballot (promise_of facts key version) ≡ false → nat_lt (current_of facts key) version ≡ false
          → IsAllowedIf cluster facts (accepted_step me facts volatile l key version ballot options (answer_to_marks marks)).fact
      by_marks [] same below held = tt
      by_marks (e ∷ es) same below held = λ room. rw same (marks-allowed e es same below held)
