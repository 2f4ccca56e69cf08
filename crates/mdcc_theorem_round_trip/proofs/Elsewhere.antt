-- A vote on another key changes nothing that an acceptor asks about a proposal.
use Rattle.std.proofs.Common.{◌≡◌, ℕ, ◌==◌, ◌&&◌, false, cond, not, List, [], ◌∷◌, ◌++◌, refl, ap, ◌∙◌, arith, Option, Some, None, map, filter, Bool, true, inl, inr, is_some, length, subst, sym, filter_map, ◌+◌, ◌≤◌, ◌||◌}
use Rattle.std.specs.List.{AllByRecursion, list_all, list_any}
use Rattle.std.specs.Option.{option_or}
use Rattle.std.specs.Prelude.{nat_lt, nat_le}
use Rattle.std.proofs.Math.Nat.{max-zero}
use Rattle.std.proofs.lemmas.Bool.{and_right, cases_Bool, cond_both, true≢false}
use Rattle.mdcc_base.specs.Ballot.{ballot_eq, ballot_lt, ballot_max, fast_ballot, is_fast}
use Rattle.mdcc_base.specs.Key.{key_eq}
use Rattle.mdcc_base.specs.declared.identifiers.Ballot.{Ballot}
use Rattle.mdcc_base.specs.declared.identifiers.TxId.{TxId}
use Rattle.mdcc_base.specs.declared.key.Key.{Key}
use Rattle.mdcc_option.specs.declared.choices.Choice.{Choice}
use Rattle.mdcc_option.specs.declared.choices.Mark.{Mark}
use Rattle.mdcc_option.specs.declared.choices.Outcome.{Outcome}
use Rattle.mdcc_option.specs.declared.cluster.Cluster.{Cluster}
use Rattle.mdcc_struct.specs.declared.options.Options.{Options}
use Rattle.mdcc_def_messages.specs.declared.facts.Fact.{Fact}
use Rattle.mdcc_option.specs.declared.choices.Cause.{Cause}
use Rattle.mdcc_def_protocol.specs.Acceptor.{answer_after, answer_by_promise, answer_to_new, fit_of, on_propose, vote_by_fit, vote_on, vote_to_accept, vote_to_reject, answer_by_vote}
use Rattle.mdcc_def_protocol.specs.Fit.{fast_fit, load_of}
use Rattle.mdcc_def_protocol.specs.Marks.{seen_in, accepts_in, is_abort, is_write, rejects_in}
use Rattle.mdcc_def_protocol.specs.declared.acceptor.ProposeAnswer.{ProposeAnswer}
use Rattle.mdcc_def_protocol.specs.declared.fit.Fit.{Fit}
use Rattle.mdcc_def_protocol.specs.Facts.{base_at, base_of, current_of, deltas_at, executed_of, has_floor, heard_of, is_void, later_vote, live_and_void, live_of, promise_of, vote_of, votes_of, floor_of, is_finished, is_forgotten, is_idle, is_needed, is_past, last_vote, live_from, live_mark, outcome_kept, shown_of, shows_mark}
use Rattle.mdcc_theorem_round_trip.specs.Messages.{accepting_fact}
use Rattle.mdcc_theorem_round_trip.proofs.Lists.{filter-alike}
use Rattle.mdcc_def_protocol.specs.Cells.{cells_held, cells_kept, cells_left}
use Rattle.mdcc_def_messages.specs.Lengths.{cells_needed}
use Rattle.mdcc_def_protocol.specs.Structures.{accept_room, reject_room}
use Rattle.mdcc_option.specs.OneCopy.{next_version}
use Rattle.mdcc_base.specs.Counts.{sum_over}
use Rattle.mdcc_base.specs.TxId.{tx_eq}
use Rattle.mdcc_struct.specs.Maps.{TxMap, union, value_of}
use Rattle.mdcc_option.specs.declared.items.Update.{Update}
use Rattle.mdcc_option.proofs.Equal.{Decides-tx}

-- what two lists of facts answer alike about a key
pub record AreAlike (facts others : List Fact) (key : Key) : Type 0 where
  pub kept : (tx : TxId) → outcome_kept facts tx ≡ outcome_kept others tx
  pub finished : (tx : TxId) → is_finished facts tx ≡ is_finished others tx
  pub void : (tx : TxId) → is_void facts tx ≡ is_void others tx
  pub vote : (version : ℕ) (tx : TxId) → vote_of facts key version tx ≡ vote_of others key version tx
  pub current : current_of facts key ≡ current_of others key
  pub base : (version : ℕ) → base_at facts key version ≡ base_at others key version
  pub live : (version : ℕ) → live_and_void (is_forgotten facts key version) facts key version ≡ live_and_void (is_forgotten others key version) others key version
  pub promise : (version : ℕ) → promise_of facts key version ≡ promise_of others key version
  pub shown : (version : ℕ) (ballot : Ballot) → shown_of facts key version ballot ≡ shown_of others key version ballot

live-alike : (facts others : List Fact) (key : Key) (version : ℕ) → AreAlike facts others key → live_of facts key version ≡ live_of others key version
live-alike facts others key version h =
    ap (filter (λ e. not (is_void facts e.0))) (h.live version)
    ∙ filter-alike (λ e. not (is_void facts e.0)) (λ e. not (is_void others e.0)) (live_and_void (is_forgotten others key version) others key version) (λ e. ap not (h.void e.0))

module _ (cluster : Cluster) (facts others : List Fact) (choice : Choice) (h : AreAlike facts others choice.key) where
  accept-alike : vote_to_accept facts choice ≡ vote_to_accept others choice
  accept-alike =
      ap (λ (shown : Options). cond (nat_lt (length (accepts_in shown)) (accept_room choice.update)) (ProposeAnswer.Vote (Mark.Accept choice)) (ProposeAnswer.Escalate Cause.Full)) (h.shown choice.version fast_ballot)

  reject-alike : vote_to_reject facts choice ≡ vote_to_reject others choice
  reject-alike =
      ap (λ (shown : Options). cond (nat_lt (length (rejects_in shown)) reject_room) (ProposeAnswer.Vote Mark.Reject) (ProposeAnswer.Escalate Cause.Full)) (h.shown choice.version fast_ballot)

  by_fit-alike : (fit : Fit) → vote_by_fit facts choice fit ≡ vote_by_fit others choice fit
  by_fit-alike Fit.Fits = accept-alike
  by_fit-alike Fit.Conflict = reject-alike
  by_fit-alike (Fit.Limit quantity) = refl
  by_fit-alike (Fit.Breaks quantity) = reject-alike

  base-alike : base_of facts choice.key ≡ base_of others choice.key
  base-alike = rw (h.current, h.base (current_of others choice.key)) refl

  fit-alike : fit_of cluster facts choice ≡ fit_of cluster others choice
  fit-alike =
      ap (λ live. fast_fit cluster (base_of facts choice.key) (load_of live (seen_in choice.update)) choice.update) (live-alike facts others choice.key choice.version h)
      ∙ ap (λ base. fast_fit cluster base (load_of (live_of others choice.key choice.version) (seen_in choice.update)) choice.update) base-alike

  fits-alike : vote_by_fit facts choice (fit_of cluster facts choice) ≡ vote_by_fit others choice (fit_of cluster others choice)
  fits-alike = by_fit-alike (fit_of cluster facts choice) ∙ ap (vote_by_fit others choice) fit-alike

  on-alike : vote_on cluster facts choice ≡ vote_on cluster others choice
  on-alike =
      ap (λ n. cond (nat_lt choice.version n) (vote_to_reject facts choice) (vote_by_fit facts choice (fit_of cluster facts choice))) h.current
      ∙ ap (λ no. cond (nat_lt choice.version (current_of others choice.key)) no (vote_by_fit facts choice (fit_of cluster facts choice))) reject-alike
      ∙ ap (λ by. cond (nat_lt choice.version (current_of others choice.key)) (vote_to_reject others choice) by) fits-alike

  promise-alike : answer_by_promise cluster facts choice (promise_of facts choice.key choice.version) ≡ answer_by_promise cluster others choice (promise_of others choice.key choice.version)
  promise-alike =
      ap (answer_by_promise cluster facts choice) (h.promise choice.version)
      ∙ ap (λ answer. cond (is_fast (promise_of others choice.key choice.version)) answer (ProposeAnswer.Escalate (Cause.Classic (promise_of others choice.key choice.version)))) on-alike

  new-alike : answer_to_new cluster facts choice ≡ answer_to_new cluster others choice
  new-alike =
      ap (λ n. cond (nat_lt n choice.version) (ProposeAnswer.Escalate Cause.Behind) (answer_by_promise cluster facts choice (promise_of facts choice.key choice.version))) h.current
      ∙ ap (λ answer. cond (nat_lt (current_of others choice.key) choice.version) (ProposeAnswer.Escalate Cause.Behind) answer) promise-alike

  by_vote-alike : (v : Option (Ballot × Mark)) → answer_by_vote cluster facts choice v ≡ answer_by_vote cluster others choice v
  by_vote-alike (Some vote) = refl
  by_vote-alike None = new-alike

  after-alike : (o : Option Outcome) → answer_after cluster facts choice o ≡ answer_after cluster others choice o
  after-alike (Some outcome) = refl
  after-alike None =
      ap (λ b. cond b ProposeAnswer.Finished (answer_by_vote cluster facts choice (vote_of facts choice.key choice.version choice.tx))) (h.finished choice.tx)
      ∙ ap (λ answer. cond (is_finished others choice.tx) ProposeAnswer.Finished answer)
      (by_vote-alike (vote_of facts choice.key choice.version choice.tx) ∙ ap (answer_by_vote cluster others choice) (h.vote choice.version choice.tx))

  pub answers-alike : on_propose cluster facts choice ≡ on_propose cluster others choice
  answers-alike = after-alike (outcome_kept facts choice.tx) ∙ ap (answer_after cluster others choice) (h.kept choice.tx)

-- what is accepted is not finished
pub accepted-unfinished : (cluster : Cluster) (facts : List Fact) (choice : Choice) (mark : Mark) → on_propose cluster facts choice ≡ ProposeAnswer.Vote mark → is_finished facts choice.tx ≡ false
accepted-unfinished cluster facts choice mark h = by_kept (outcome_kept facts choice.tx) h
  where
    by_test : (b : Bool) (answer : ProposeAnswer) → cond b ProposeAnswer.Finished answer ≡ ProposeAnswer.Vote mark → b ≡ false
    by_test true answer e = absurd (cc)
    by_test false answer e = refl

    by_kept : (o : Option Outcome) → answer_after cluster facts choice o ≡ ProposeAnswer.Vote mark → is_finished facts choice.tx ≡ false
    by_kept (Some outcome) e = absurd (cc)
    by_kept None e = by_test (is_finished facts choice.tx) (answer_by_vote cluster facts choice (vote_of facts choice.key choice.version choice.tx)) e

-- ---- one vote more

pub or-none : {X : Type 0} (o : Option X) → option_or o None ≡ o
or-none None = refl
or-none (Some x) = refl

later-none : (o : Option (Ballot × Mark)) → later_vote o None ≡ o
later-none None = refl
later-none (Some x) = refl

not_below-fast : (ballot : Ballot) → ballot_lt ballot fast_ballot ≡ false
not_below-fast ballot = grind arith

max-fast : (ballot : Ballot) → ballot_max ballot fast_ballot ≡ ballot
max-fast ballot = rw (not_below-fast ballot) refl

pub any-alike : {X : Type 0} (p q : X → Bool) (xs : List X) → ((x : X) → p x ≡ q x) → list_any p xs ≡ list_any q xs
any-alike p q [] h = refl
any-alike p q (x ∷ xs) h = rw (h x, any-alike p q xs h) refl

all-alike : {X : Type 0} (p q : X → Bool) (xs : List X) → ((x : X) → p x ≡ q x) → list_all p xs ≡ list_all q xs
all-alike p q [] h = refl
all-alike p q (x ∷ xs) h = rw (h x, all-alike p q xs h) refl

sum-alike : {X : Type 0} (f g : X → ℕ) (xs : List X) → ((x : X) → f x ≡ g x) → sum_over f xs ≡ sum_over g xs
sum-alike f g [] h = refl
sum-alike f g (x ∷ xs) h = rw (h x, sum-alike f g xs h) refl

-- where the same marks are gone the same is live
from-alike : (p q : TxId → Bool) (key : Key) (version : ℕ) (fact : Fact) → ((t : TxId) → p t ≡ q t) → live_from p key version fact ≡ live_from q key version fact
from-alike p q key version (Fact.Voted key' version' ballot options offered) h =
    ap (λ (m : Options). cond (version' == version && key_eq key' key) (filter_map live_mark m) []) (filter-alike (λ (e : TxId × Mark). not (p e.0)) (λ e. not (q e.0)) options (λ e. ap not (h e.0)))
from-alike p q key version (Fact.Booted epoch) h = refl
from-alike p q key version (Fact.Promised key' low high ballot) h = refl
from-alike p q key version (Fact.Heard tx outcome) h = refl
from-alike p q key version (Fact.Adopted key' version' item adds) h = refl
from-alike p q key version (Fact.Floor origin era upto) h = refl

gone-alike : (p q : TxId → Bool) (facts : List Fact) (key : Key) (version : ℕ) → ((t : TxId) → p t ≡ q t) → live_and_void p facts key version ≡ live_and_void q facts key version
gone-alike p q [] key version h = refl
gone-alike p q (fact ∷ facts) key version h =
    ap (λ (m : TxMap Update). union m (live_from p key version fact)) (gone-alike p q facts key version h)
    ∙ ap (λ (m : TxMap Update). union (live_and_void q facts key version) m) (from-alike p q key version fact h)

-- ---- what a vote on transactions that are not finished leaves

module _ (facts : List Fact) (other : Key) (version : ℕ) (options : Options) (offered : Option Choice) (unfinished : (t : TxId) → is_finished facts t ≡ true → value_of options t ≡ None) where
  abbrev pub more : List Fact
  more = Fact.Voted other version fast_ballot options offered ∷ facts

  pub finished-same : (t : TxId) → is_finished more t ≡ is_finished facts t
  finished-same t = ap (λ n. nat_lt 0 t.seq && nat_le t.seq n) (max-zero (floor_of facts t.centre t.epoch))

  current-same : (key : Key) → current_of more key ≡ current_of facts key
  current-same key = max-zero (current_of facts key)

  forgotten-same : (key : Key) (n : ℕ) (t : TxId) → is_forgotten more key n t ≡ is_forgotten facts key n t
  forgotten-same key n t = ap (λ b. b && nat_lt n (current_of more key)) (finished-same t) ∙ ap (λ c. is_finished facts t && nat_lt n c) (current-same key)

  needed-same : (choice : Choice) → is_needed more choice ≡ is_needed facts choice
  needed-same choice = ap (λ c. cond (is_write choice.update) (next_version choice.version == c) (nat_le c choice.version)) (current-same choice.key)

  past-same : (o : Option Outcome) → is_past more o ≡ is_past facts o
  past-same None = refl
  past-same (Some Outcome.Abort) = refl
  past-same (Some (Outcome.Commit choices)) = ap not (any-alike (is_needed more) (is_needed facts) choices needed-same)

  shows-same : (t : TxId) (fact : Fact) → shows_mark more t fact ≡ shows_mark facts t fact
  shows-same t (Fact.Voted key n ballot marks offer) = ap (λ b. is_some (value_of marks t) && not b) (forgotten-same key n t)
  shows-same t (Fact.Booted epoch) = refl
  shows-same t (Fact.Promised key low high ballot) = refl
  shows-same t (Fact.Heard tx outcome) = refl
  shows-same t (Fact.Adopted key n item adds) = refl
  shows-same t (Fact.Floor origin era upto) = refl

  heard-same : (t : TxId) → heard_of more t ≡ heard_of facts t
  heard-same t = or-none (heard_of facts t)

  -- a vote on a transaction that is not finished makes nothing less idle
  idle-same : (t : TxId) → is_idle more t ≡ is_idle facts t
  idle-same t =
      three (is_finished facts t) (is_finished more t) (is_past facts (heard_of facts t)) (is_past more (heard_of more t)) (list_any (shows_mark facts t) facts) (list_any (shows_mark more t) more)
      (finished-same t) (past-same (heard_of more t) ∙ ap (is_past facts) (heard-same t)) (λ f. rest (unfinished t f))
    where
      three : (a a' b b' c c' : Bool) → a' ≡ a → b' ≡ b → (a ≡ true → c' ≡ c) → (a' && b' && not c') ≡ (a && b && not c)
      three true a' b b' c c' x y z = rw (x, y, z refl) refl
      three false a' b b' c c' x y z = rw x refl

      rest : value_of options t ≡ None → list_any (shows_mark more t) more ≡ list_any (shows_mark facts t) facts
      rest none = ap (λ (o : Option Mark). (is_some o && not (is_forgotten more other version t)) || list_any (shows_mark more t) facts) none ∙ any-alike (shows_mark more t) (shows_mark facts t) facts (shows-same t)

  void-same : (t : TxId) → is_void more t ≡ is_void facts t
  void-same t = ap (λ (o : Option Outcome). is_abort o || is_idle more t) (heard-same t) ∙ ap (λ b. is_abort (heard_of facts t) || b) (idle-same t)

  kept-same : (t : TxId) → outcome_kept more t ≡ outcome_kept facts t
  kept-same t = ap (λ b. cond {A = Option Outcome} b None (heard_of more t)) (idle-same t) ∙ ap (λ (o : Option Outcome). cond {A = Option Outcome} (is_idle facts t) None o) (heard-same t)

  -- ---- cells

  one-left : (fact : Fact) → cells_left more fact ≡ cells_left facts fact
  one-left (Fact.Voted key n ballot marks offer) =
      ap (λ b. cond b (cond (is_fast ballot) 0 1) (cells_needed (Fact.Voted key n ballot marks offer))) (all-alike (λ (e : TxId × Mark). is_forgotten more key n e.0) (λ e. is_forgotten facts key n e.0) marks (λ e. forgotten-same key n e.0))
  one-left (Fact.Booted epoch) = refl
  one-left (Fact.Promised key low high ballot) = refl
  one-left (Fact.Heard tx outcome) = ap (λ b. cond b 0 (cells_needed (Fact.Heard tx outcome))) (idle-same tx)
  one-left (Fact.Adopted key n item adds) = ap (λ c. cond (nat_lt n c) 0 (cells_needed (Fact.Adopted key n item adds))) (current-same key)
  one-left (Fact.Floor origin era upto) = ap (λ n. cond (nat_lt upto n) 0 (cells_needed (Fact.Floor origin era upto))) (max-zero (floor_of facts origin era))

  one-cells : (fact : Fact) → cells_kept more fact ≡ cells_kept facts fact
  one-cells fact = ap (λ n. cond (has_floor facts) n (cells_needed fact)) (one-left fact)

  -- it holds no more cells than it needs
  pub voted-cells : cells_held more ≤ cells_needed (Fact.Voted other version fast_ballot options offered) + cells_held facts
  voted-cells =
      let rest : sum_over (cells_kept more) facts ≡ cells_held facts = sum-alike (cells_kept more) (cells_kept facts) facts one-cells in
      let left : cells_left more (Fact.Voted other version fast_ballot options offered) ≤ cells_needed (Fact.Voted other version fast_ballot options offered) =
      cond_both (list_all (λ (e : TxId × Mark). is_forgotten more other version e.0) options) 0 (cells_needed (Fact.Voted other version fast_ballot options offered)) (λ n. n ≤ cells_needed (Fact.Voted other version fast_ballot options offered)) (λ e. omega arith) (λ e. omega arith) in
      let own : cells_kept more (Fact.Voted other version fast_ballot options offered) ≤ cells_needed (Fact.Voted other version fast_ballot options offered) =
      cond_both (has_floor facts) (cells_left more (Fact.Voted other version fast_ballot options offered)) (cells_needed (Fact.Voted other version fast_ballot options offered)) (λ n. n ≤ cells_needed (Fact.Voted other version fast_ballot options offered)) (λ e. left) (λ e. omega arith) in
      both (cells_kept more (Fact.Voted other version fast_ballot options offered)) (sum_over (cells_kept more) facts) (cells_needed (Fact.Voted other version fast_ballot options offered)) (cells_held facts) own rest
    where
      both : (a b c d : ℕ) → a ≤ c → b ≡ d → a + b ≤ c + d
      both a b c d h e = omega (arith, h, e)

-- a vote at the fast ballot on another key, which has this version
module _ (facts : List Fact) (key other : Key) (version : ℕ) (options : Options) (offered : Option Choice) (apart : key_eq other key ≡ false) (unfinished : (t : TxId) → is_finished facts t ≡ true → value_of options t ≡ None) where
  apart-at : (n : ℕ) → (version == n && key_eq other key) ≡ false
  apart-at n = and_right (version == n) (key_eq other key) apart

  apart-ballot : (n : ℕ) (ballot : Ballot) → (version == n && ballot_eq fast_ballot ballot && key_eq other key) ≡ false
  apart-ballot n ballot = and_right (version == n && ballot_eq fast_ballot ballot) (key_eq other key) apart

  abbrev with_vote : List Fact
  with_vote = Fact.Voted other version fast_ballot options offered ∷ facts

  last-same : (n : ℕ) (tx : TxId) → last_vote with_vote key n tx ≡ last_vote facts key n tx
  last-same n tx = rw (apart-at n) (later-none (last_vote facts key n tx))

  votes-same : (n : ℕ) (ballot : Ballot) → votes_of with_vote key n ballot ≡ votes_of facts key n ballot
  votes-same n ballot = rw (apart-ballot n ballot) refl

  live-same : (p : TxId → Bool) (n : ℕ) → live_and_void p with_vote key n ≡ live_and_void p facts key n
  live-same p n = rw (apart-at n) refl

  pub voted-alike : AreAlike (Fact.Voted other version fast_ballot options offered ∷ facts) facts key
  voted-alike = record {
    kept = kept-same facts other version options offered unfinished;
    finished = finished-same facts other version options offered unfinished;
    void = void-same facts other version options offered unfinished;
    vote = λ n tx.
        ap (λ b. cond {A = Option (Ballot × Mark)} b None (last_vote with_vote key n tx)) (forgotten-same facts other version options offered unfinished key n tx)
        ∙ ap (λ (o : Option (Ballot × Mark)). cond {A = Option (Ballot × Mark)} (is_forgotten facts key n tx) None o) (last-same n tx);
    current = max-zero (current_of facts key);
    base = λ n. or-none (base_at facts key n);
    live = λ n. live-same (is_forgotten with_vote key n) n ∙ gone-alike (is_forgotten with_vote key n) (is_forgotten facts key n) facts key n (forgotten-same facts other version options offered unfinished key n);
    promise = λ n. rw (apart-at n) (max-fast (promise_of facts key n));
    shown = λ n ballot.
        ap (λ (m : Options). filter (λ (e : TxId × Mark). not (is_forgotten with_vote key n e.0)) m) (votes-same n ballot)
        ∙ filter-alike (λ (e : TxId × Mark). not (is_forgotten with_vote key n e.0)) (λ e. not (is_forgotten facts key n e.0)) (votes_of facts key n ballot) (λ e. ap not (forgotten-same facts other version options offered unfinished key n e.0));
  }

-- marks on one transaction that is not finished
pub one-unfinished : (facts : List Fact) (tx : TxId) (mark : Mark) → is_finished facts tx ≡ false → (t : TxId) → is_finished facts t ≡ true → value_of ((tx, mark) ∷ []) t ≡ None
one-unfinished facts tx mark open' t h =
    elim (cases_Bool (tx_eq tx t)) [
      | inl e ↦ absurd (true≢false (sym h ∙ subst (λ z. is_finished facts z ≡ false) ((Decides-tx tx t).0 e) open'))
      | inr e ↦ rw e refl
    ]

-- a vote brings nothing that is executed, of whatever key
pub voted-executed : (facts : List Fact) (key other : Key) (version : ℕ) (ballot : Ballot) (options : Options) (offered : Option Choice)
    → executed_of (Fact.Voted other version ballot options offered ∷ facts) key ≡ executed_of facts key
voted-executed facts key other version ballot options offered = ap (deltas_at facts key) (max-zero (current_of facts key))

-- none of some votes on transactions that are not finished sets a floor
finished-more : (facts : List Fact) (others : List Choice) (t : TxId) → is_finished (map accepting_fact others ++ facts) t ≡ is_finished facts t
finished-more facts [] t = refl
finished-more facts (other ∷ others) t =
    ap (λ n. nat_lt 0 t.seq && nat_le t.seq n) (max-zero (floor_of (map accepting_fact others ++ facts) t.centre t.epoch)) ∙ finished-more facts others t

-- votes to accept choices of other keys
pub others-change-nothing : (cluster : Cluster) (facts : List Fact) (choice : Choice) (others : List Choice)
    → AllByRecursion (λ other. (key_eq other.key choice.key ≡ false) × (is_finished facts other.tx ≡ false)) others
    → on_propose cluster (map accepting_fact others ++ facts) choice ≡ on_propose cluster facts choice
others-change-nothing cluster facts choice [] h = refl
others-change-nothing cluster facts choice (other ∷ others) h =
    answers-alike cluster (accepting_fact other ∷ (map accepting_fact others ++ facts)) (map accepting_fact others ++ facts) choice
    (voted-alike (map accepting_fact others ++ facts) choice.key other.key other.version ((other.tx, Mark.Accept other) ∷ []) None h.0.0
    (one-unfinished (map accepting_fact others ++ facts) other.tx (Mark.Accept other) (finished-more facts others other.tx ∙ h.0.1)))
    ∙ others-change-nothing cluster facts choice others h.1
