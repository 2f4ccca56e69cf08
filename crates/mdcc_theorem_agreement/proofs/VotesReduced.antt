-- A vote that is allowed may happen in the reduced ledger.
use Rattle.std.proofs.Common.{cond, ◌≡◌, ℕ, suc, ◌+◌, ◌-◌, ◌<◌, ◌≤◌, ◌==◌, Bool, true, false, ◌&&◌, List, [], ◌∷◌, length, refl, sym, ap, ◌∙◌, subst, arith, inl, inr, ◌⊎◌, Option, Some, None}
use Rattle.std.proofs.lemmas.Bool.{cases_Bool, and_parts, or_cases, ltb-true, ltb-false, eqb-true, false≢true}
use Rattle.std.specs.List.{list_any, filter}
use Rattle.std.specs.Option.{option_or, option_map}
use Rattle.std.specs.Prelude.{is_some, nat_lt, not, ◌||◌}
use Rattle.mdcc_base.specs.Ballot.{ballot_eq, ballot_lt, is_fast}
use Rattle.mdcc_base.specs.Key.{key_eq}
use Rattle.mdcc_base.specs.TxId.{tx_eq}
use Rattle.mdcc_base.specs.declared.identifiers.Ballot.{Ballot}
use Rattle.mdcc_base.specs.declared.identifiers.TxId.{TxId}
use Rattle.mdcc_base.specs.declared.key.Key.{Key}
use Rattle.mdcc_option.specs.Equality.{choice_eq}
use Rattle.mdcc_option.specs.declared.choices.Choice.{Choice}
use Rattle.mdcc_option.specs.declared.choices.Mark.{Mark}
use Rattle.mdcc_option.specs.declared.choices.Mark.TheVariants.{Accept, Reject}
use Rattle.mdcc_option.specs.declared.cluster.Cluster.{Cluster}
use Rattle.mdcc_option.specs.declared.items.Update.{Update}
use Rattle.mdcc_option.specs.declared.items.Update.TheVariants.{Write, Add}
use Rattle.mdcc_struct.specs.Maps.{value_of, union}
use Rattle.mdcc_struct.specs.declared.options.Options.{Options}
use Rattle.mdcc_def_protocol.specs.Fit.{parts_of}
use Rattle.mdcc_def_protocol.specs.Acceptor as acceptor
use Rattle.mdcc_def_protocol.specs.declared.acceptor.ProposeAnswer.{ProposeAnswer}
use Rattle.mdcc_def_ledger.specs.AllowedFacts.{MayVoteFast, MayVoteClassic, are_apart}
use Rattle.mdcc_def_ledger.specs.BootTest.{is_answer}
use Rattle.mdcc_def_ledger.specs.AllowedLedgers.{is_fast_vote_begun, is_valued, is_valued_as}
use Rattle.mdcc_def_ledger.specs.AllowedStructures.{is_begun, is_own_mark}
use Rattle.mdcc_def_ledger.specs.AllowedFacts as facts_allowed
use Rattle.mdcc_def_ledger.specs.AllowedLedgers as full_allowed
use Rattle.mdcc_def_protocol.specs.Facts as full
use Rattle.mdcc_def_ledger.specs.Ledger as ledger
use Rattle.mdcc_def_protocol.specs.Marks.{options_eq, accepts_in, rejects_in}
use Rattle.mdcc_def_protocol.specs.Structures.{accept_room, reject_room}
use Rattle.mdcc_def_messages.specs.declared.facts.Fact.{Fact}
use Rattle.mdcc_def_protocol.specs.declared.fit.Fit.{Fit}
use Rattle.mdcc_struct.proofs.Values.{value_of-union}
use Rattle.mdcc_theorem_agreement.proofs.BallotOrder.{Below-irrefl}
use Rattle.mdcc_theorem_agreement.proofs.Ballots.{fast, Below}
use Rattle.mdcc_theorem_agreement.proofs.MarksAreFew.{count_listed}
use Rattle.mdcc_theorem_agreement.proofs.OutcomeToReduced.{begun_found}
use Rattle.mdcc_theorem_agreement.proofs.Reduction.{setup_of, reduced, facts_same, mark_of-or}
use Rattle.mdcc_theorem_agreement.proofs.FitsBound.{FitsFast}
use Rattle.mdcc_theorem_agreement.proofs.HeldReduced.{AllFine}
use Rattle.mdcc_theorem_agreement.proofs.LiveAtAcceptor.{acceptor_fit}
use Rattle.mdcc_theorem_agreement.proofs.MapValues.{mark_value, tx_true}
use Rattle.mdcc_theorem_agreement.proofs.BegunReduced.{map_none}
use Rattle.mdcc_theorem_agreement.proofs.Setups.{IsSetup, count}
use Rattle.mdcc_theorem_agreement.proofs.ReducedFacts.{ReducedFact, Voted, votes, shown, finished, promise, IsAcceptedVote}
use Rattle.mdcc_theorem_agreement.proofs.ReducedLedger.{facts_of, WasSent, IsChoice, IsFit, Kind, is_accepted, is_rejected, OfKind, HasPlace, MayVote, Allowed}
use Rattle.mdcc_theorem_agreement.proofs.ReducedOptions.{In, Place, spot, mark_of}
use Rattle.mdcc_theorem_agreement.proofs.TestsDecide.{Decides-ballot_lt, Decides-options, same_place, Decides-tx, Decides-key, Decides-ballot, Decides-mark, Decides-choice}
use Rattle.mdcc_theorem_agreement.proofs.ViewsReduced.{votes_same, promise_same}
use Rattle.mdcc_theorem_agreement.proofs.FloorsReduced.{shown_told, finished_same}

-- ---- begun choices

any_choice_In : (c : Choice) (cs : List Choice) → list_any (choice_eq c) cs ≡ true → In c cs
any_choice_In c [] h = absurd (cc)
any_choice_In c (d ∷ cs) h = elim (or_cases (choice_eq c d) (list_any (choice_eq c) cs) h) [ inl e ↦ inl (sym ((Decides-choice c d).0 e)) | inr e ↦ inr (any_choice_In c cs e) ]

In-some : {X : Type 0} (x : X) (xs : List X) → In x xs → 0 < length xs
In-some x [] h = absurd h
In-some x (y ∷ ys) h = omega arith

pub begun_choice : (es : List ledger.Entry) (c : Choice) → is_begun es c ≡ true → IsChoice (reduced es) c
begun_choice es c h =
    let listed : In c (ledger.choices_begun es c.tx) = any_choice_In c (ledger.choices_begun es c.tx) h in
    (ledger.choices_begun es c.tx, begun_found es c.tx (In-some c (ledger.choices_begun es c.tx) listed), listed)

-- ---- counts of marks

count-accepted : (os : Options) → count (λ (e : TxId × Mark). is_accepted e.1) os ≡ length (accepts_in os)
count-accepted [] = refl
count-accepted ((t, Accept c) ∷ os) = omega (arith, count-accepted os)
count-accepted ((t, Reject) ∷ os) = omega (arith, count-accepted os)

count-rejected : (os : Options) → count (λ (e : TxId × Mark). is_rejected e.1) os ≡ length (rejects_in os)
count-rejected [] = refl
count-rejected ((t, Accept c) ∷ os) = omega (arith, count-rejected os)
count-rejected ((t, Reject) ∷ os) = omega (arith, count-rejected os)

same_kind : (test : Mark → Bool) (ps os : List (TxId × Mark)) → ((t : TxId) → mark_of t ps ≡ mark_of t os) → (t : TxId) → OfKind test ps t → OfKind test os t
same_kind test ps os same t h = (h.0, h.1, sym (same t) ∙ h.2)

room_for : (u : Update) → accept_room u ≤ 512
room_for (Write item seen) = omega arith
room_for (Add m) = omega arith

-- a mark has a place where the counts leave it one
pub place_for : (ps os : List (TxId × Mark)) (x : Mark) → ((t : TxId) → mark_of t ps ≡ mark_of t os) →
    ((c : Choice) → x ≡ Accept c → length (accepts_in os) < 512) → (x ≡ Reject → length (rejects_in os) < 16384) → HasPlace ps x
place_for ps os x same accepted rejected k listed test ts apart of_it =
    elim listed [
      | inl first ↦ subst (λ (z : Kind). length ts < z.limit) first
          (let many : length ts ≤ count (λ (p : TxId × Mark). is_accepted p.1) os =
          count_listed is_accepted ts os apart (λ t h. same_kind is_accepted ps os same t (subst (λ (z : Kind). OfKind z.test ps t) (sym first) (of_it t h))) in
          accepted_case x (subst (λ (z : Kind). z.test x ≡ true) (sym first) test) accepted many)
      | inr more ↦ elim more [
        | inl second ↦ subst (λ (z : Kind). length ts < z.limit) second
            (let many : length ts ≤ count (λ (p : TxId × Mark). is_rejected p.1) os =
            count_listed is_rejected ts os apart (λ t h. same_kind is_rejected ps os same t (subst (λ (z : Kind). OfKind z.test ps t) (sym second) (of_it t h))) in
            rejected_case x (subst (λ (z : Kind). z.test x ≡ true) (sym second) test) rejected many)
        | inr none ↦ absurd none
      ]
    ]
  where
    accepted_case : (x : Mark) → is_accepted x ≡ true → ((c : Choice) → x ≡ Accept c → length (accepts_in os) < 512) → length ts ≤ count (λ (p : TxId × Mark). is_accepted p.1) os → length ts < 512
    accepted_case (Accept c) h room many = omega (arith, room c refl, count-accepted os)
    accepted_case Reject h room many = absurd (cc)

    rejected_case : (x : Mark) → is_rejected x ≡ true → (x ≡ Reject → length (rejects_in os) < 16384) → length ts ≤ count (λ (p : TxId × Mark). is_rejected p.1) os → length ts < 16384
    rejected_case (Accept c) h room many = absurd (cc)
    rejected_case Reject h room many = omega (arith, room refl, count-rejected os)

-- ---- what the acceptor's answer says

abbrev AcceptRoom : List Fact → Choice → Type 0
AcceptRoom fs c = length (accepts_in (full.shown_of fs c.key c.version fast)) < accept_room c.update

abbrev RejectRoom : List Fact → Choice → Type 0
RejectRoom fs c = length (rejects_in (full.shown_of fs c.key c.version fast)) < reject_room

reject_answer : (fs : List Fact) (c : Choice) (x : Mark) → is_answer x (acceptor.vote_to_reject fs c) ≡ true → (x ≡ Reject) × RejectRoom fs c
reject_answer fs c x h =
    elim (cases_Bool (nat_lt (full.entries_of fs c.key c.version).1 reject_room)) [
      | inl e ↦ ((Decides-mark x Reject).0 (rw e at h), ltb-true _ _ e)
      | inr e ↦ (let bad : false ≡ true = rw e at h in absurd (false≢true bad))
    ]

accept_answer : (fs : List Fact) (c : Choice) (x : Mark) → is_answer x (acceptor.vote_to_accept fs c) ≡ true → (x ≡ Accept c) × AcceptRoom fs c
accept_answer fs c x h =
    elim (cases_Bool (nat_lt (full.entries_of fs c.key c.version).0 (accept_room c.update))) [
      | inl e ↦ ((Decides-mark x (Accept c)).0 (rw e at h), ltb-true _ _ e)
      | inr e ↦ (let bad : false ≡ true = rw e at h in absurd (false≢true bad))
    ]

abbrev Answered : Cluster → List Fact → Choice → Mark → Type 0
Answered cluster fs c x =
    ((x ≡ Accept c) × AcceptRoom fs c × (acceptor.fit_of cluster fs c ≡ Fit.Fits) × (full.current_of fs c.key ≤ c.version))
    ⊎ ((x ≡ Reject) × RejectRoom fs c)

fit_answer : (cluster : Cluster) (fs : List Fact) (c : Choice) (x : Mark) (f : Fit) → acceptor.fit_of cluster fs c ≡ f → full.current_of fs c.key ≤ c.version →
    is_answer x (acceptor.vote_by_fit fs c f) ≡ true → Answered cluster fs c x
fit_answer cluster fs c x Fit.Fits is low h = (let a = accept_answer fs c x h in inl (a.0, a.1, is, low))
fit_answer cluster fs c x Fit.Conflict is low h = inr (reject_answer fs c x h)
fit_answer cluster fs c x (Fit.Limit n) is low h = absurd (false≢true h)
fit_answer cluster fs c x (Fit.Breaks n) is low h = inr (reject_answer fs c x h)

if_yes : (b : Bool) (p q : ProposeAnswer) → b ≡ true → cond b p q ≡ p
if_yes true p q h = refl
if_yes false p q h = absurd (false≢true h)

if_no : (b : Bool) (p q : ProposeAnswer) → b ≡ false → cond b p q ≡ q
if_no true p q h = absurd (false≢true (sym h))
if_no false p q h = refl

answered : (cluster : Cluster) (fs : List Fact) (c : Choice) (x : Mark) → is_answer x (acceptor.vote_on cluster fs c) ≡ true → Answered cluster fs c x
answered cluster fs c x h =
    elim (cases_Bool (nat_lt c.version (full.current_of fs c.key))) [
      | inl e ↦ inr (reject_answer fs c x (ap (is_answer x) (sym (if_yes (nat_lt c.version (full.current_of fs c.key)) (acceptor.vote_to_reject fs c) (acceptor.vote_by_fit fs c (acceptor.fit_of cluster fs c)) e)) ∙ h))
      | inr e ↦ fit_answer cluster fs c x (acceptor.fit_of cluster fs c) refl (ltb-false _ _ e)
          (ap (is_answer x) (sym (if_no (nat_lt c.version (full.current_of fs c.key)) (acceptor.vote_to_reject fs c) (acceptor.vote_by_fit fs c (acceptor.fit_of cluster fs c)) e)) ∙ h)
    ]

-- ---- a transaction without a vote has none at any ballot

later_none : (a b : Option (Ballot × Mark)) → full.later_vote a b ≡ None → (a ≡ None) × (b ≡ None)
later_none None b h = (refl, h)
later_none (Some a) None h = absurd (cc)
later_none (Some a) (Some b) h =
    elim (cases_Bool (ballot_lt a.0 b.0)) [
      | inl e ↦ (let bad : Some b ≡ None = rw e at h in absurd (cc))
      | inr e ↦ (let bad : Some a ≡ None = rw e at h in absurd (cc))
    ]

vote_none : (f : Fact) (key : Key) (version : ℕ) (k : Ballot) (t : TxId) → full.mark_voted key version t f ≡ None → value_of (full.marks_voted key version k f) t ≡ None
vote_none (Fact.Booted epoch) key version k t h = refl
vote_none (Fact.Floor centre epoch seq) key version k t h = refl
vote_none (Fact.Promised k' low high b) key version k t h = refl
vote_none (Fact.Heard u o) key version k t h = refl
vote_none (Fact.Adopted k' v item adds) key version k t h = refl
vote_none (Fact.Voted k' v b os offered) key version k t h =
    elim (cases_Bool (((v == version) && ballot_eq b k) && key_eq k' key)) [
      | inr e ↦ rw e refl
      | inl e ↦
          let one : (((v == version) && ballot_eq b k) ≡ true) × (key_eq k' key ≡ true) = and_parts _ _ e in
          let two : ((v == version) ≡ true) × (ballot_eq b k ≡ true) = and_parts _ _ one.0 in
          let test : ((v == version) && key_eq k' key) ≡ true = Rattle.std.proofs.lemmas.Bool.and_from _ _ two.0 one.1 in
          let none : option_map (λ mark. (b, mark)) (value_of os t) ≡ None = rw test at h in
          rw e (map_none (λ mark. (b, mark)) (value_of os t) none)
    ]

votes_none : (fs : List Fact) (key : Key) (version : ℕ) (t : TxId) → full.last_vote fs key version t ≡ None → (k : Ballot) → value_of (full.votes_of fs key version k) t ≡ None
votes_none [] key version t h k = refl
votes_none (f ∷ fs) key version t h k =
    let both : (full.last_vote fs key version t ≡ None) × (full.mark_voted key version t f ≡ None) = later_none (full.last_vote fs key version t) (full.mark_voted key version t f) h in
    value_of-union (full.votes_of fs key version k) (full.marks_voted key version k f) t
    ∙ ap (λ o. option_or o (value_of (full.marks_voted key version k f) t)) (votes_none fs key version t both.0 k)
    ∙ vote_none f key version k t both.1

not_first : (p q : Bool) → not (p || q) ≡ true → not p ≡ true
not_first true q h = h
not_first false q h = refl

none_if_not : {X : Type 0} (o : Option X) → not (is_some o) ≡ true → o ≡ None
none_if_not None h = refl
none_if_not (Some x) h = absurd (false≢true h)

module _ (cluster : Cluster) (sizes : IsSetup (setup_of cluster)) (four : length cluster.schema ≤ 4) (es : List ledger.Entry) (allowed : Allowed (setup_of cluster) (reduced es))
    (a : ℕ) (fine : AllFine (ledger.facts_of es a)) where
  abbrev own_facts : List Fact
  own_facts = ledger.facts_of es a

  abbrev reduced_facts : List ReducedFact
  reduced_facts = facts_of a (reduced es)

  voted_same : (i : Place) (k : Ballot) (t : TxId) → mark_of t (votes reduced_facts i k) ≡ value_of (full.votes_of own_facts i.key i.version k) t
  voted_same i k t = ap (λ fs. mark_of t (votes fs i k)) (facts_same a es) ∙ votes_same own_facts i k t

  -- ---- at the fast ballot
  fast_vote : (i : Place) (t : TxId) (x : Mark) (c : Choice) → MayVoteFast cluster own_facts i.key i.version t x c → is_begun es c ≡ true →
      MayVote (setup_of cluster) (reduced es) a i fast ((t, x) ∷ [])
  fast_vote i t x c h begun =
      let own : c.tx ≡ t = h.of_tx in
      let here : spot c ≡ i = same_place (spot c) i (h.of_key, h.of_version) in
      let low : i.version ≤ full.current_of own_facts i.key = h.held in
      let free : full.promise_of own_facts i.key i.version ≡ fast = h.unpromised in
      let fresh : full.is_forgotten own_facts i.key i.version t ≡ false = rw h.unfinished refl in
      let none : full.last_vote own_facts i.key i.version t ≡ None = (let unvoted : full.vote_of own_facts i.key i.version t ≡ None = h.unvoted in rw fresh at unvoted) in
      let answer : Answered cluster own_facts c x = answered cluster own_facts c x (ap (is_answer x) h.answer ∙ (Decides-mark x x).1 refl) in
      let new : (k : Ballot) → mark_of t (votes reduced_facts i k) ≡ None = λ k. voted_same i k t ∙ votes_none own_facts i.key i.version t none k in
      let now : promise reduced_facts i ≡ fast = ap (λ fs. promise fs i) (facts_same a es) ∙ promise_same own_facts i ∙ free in
      let same : (u : TxId) → mark_of u (shown reduced_facts i fast) ≡ mark_of u (full.shown_of own_facts i.key i.version fast) =
      λ u. ap (λ fs. mark_of u (shown fs i fast)) (facts_same a es) ∙ shown_told own_facts fine i fast u ∙ sym (mark_value u (full.shown_of own_facts i.key i.version fast)) in
      record {
        promise_held = λ below. Below-irrefl fast (subst (Below fast) now below);
        fast_vote = λ is. record {
          tx = t;
          mark = x;
          single = refl;
          new = new;
          has_place = place_for (shown reduced_facts i fast) (full.shown_of own_facts i.key i.version fast) x same
              (λ d is_d. elim answer [
                | inl yes' ↦
                    let count_at : length (accepts_in (full.shown_of own_facts i.key i.version fast)) < accept_room c.update =
                    subst (λ (z : Place). length (accepts_in (full.shown_of own_facts z.key z.version fast)) < accept_room c.update) here yes'.1 in
                    omega (arith, room_for c.update)
                | inr no' ↦ absurd (let bad : Accept d ≡ Reject = sym is_d ∙ no'.0 in cc)
              ])
              (λ is_r. elim answer [
                | inl yes' ↦ absurd (let bad : Reject ≡ Accept c = sym is_r ∙ yes'.0 in cc)
                | inr no' ↦ subst (λ (z : Place). length (rejects_in (full.shown_of own_facts z.key z.version fast)) < reject_room) here no'.1
              ]);
          fits = λ d is_d. elim answer [
            | inr no' ↦ absurd (let bad : Accept d ≡ Reject = sym is_d ∙ no'.0 in cc)
            | inl yes' ↦
                let accepted : Accept c ≡ Accept d = sym yes'.0 ∙ is_d in
                let same_choice : c ≡ d = cc in
                let at_most : full.current_of own_facts i.key ≤ i.version = subst (λ (z : Place). full.current_of own_facts z.key ≤ z.version) here yes'.3 in
                let fits : FitsFast cluster (full.base_of own_facts i.key) (full.live_of own_facts i.key i.version) c.update =
                subst (λ (z : Place). FitsFast cluster (full.base_of own_facts z.key) (full.live_of own_facts z.key z.version) c.update) here yes'.2 in
                subst (λ z. IsFit (setup_of cluster) (parts_of cluster.limit cluster.quorums) (cluster.quorums.fast + parts_of cluster.limit cluster.quorums - cluster.quorums.centres) (reduced es) reduced_facts (IsAcceptedVote reduced_facts i) (IsAcceptedVote reduced_facts i) i t z) same_choice
                (acceptor_fit cluster sizes four es allowed a fine i t c own here (begun_choice es c begun) (omega arith) fits)
          ];
        };
        each_new = λ p g. elim g [
          | inl is_p ↦ (
            ap (λ (z : TxId × Mark). mark_of z.0 (votes reduced_facts i fast)) (sym is_p) ∙ new fast,
            (let found : mark_of t ((t, x) ∷ []) ≡ Some x = rw (tx_true t t refl) refl in
                subst (λ (z : TxId × Mark). mark_of z.0 ((t, x) ∷ []) ≡ Some z.1) is_p found),
          )
          | inr impossible ↦ absurd impossible
        ];
        backed = λ classic. absurd (Below-irrefl fast classic);
      }

  -- the two forms of a vote at the fast ballot
  pub fast_may : (i : Place) (options : Options) (offered : Option Choice) → facts_allowed.IsFastVote cluster own_facts i.key i.version options offered →
      is_fast_vote_begun es i.key i.version options offered ≡ true → MayVote (setup_of cluster) (reduced es) a i fast options
  fast_may i [] None h begun = absurd h
  fast_may i [] (Some c) h begun = absurd h
  fast_may i ((t, Accept c) ∷ []) None h begun =
      let own : is_own_mark es i.key i.version (t, Accept c) ≡ true = (and_parts _ _ begun).0 in
      fast_vote i t (Accept c) c h (and_parts _ _ own).1
  fast_may i ((t, Accept c) ∷ []) (Some d) h begun = absurd h
  fast_may i ((t, Accept c) ∷ (e ∷ es')) None h begun = absurd h
  fast_may i ((t, Accept c) ∷ (e ∷ es')) (Some d) h begun = absurd h
  fast_may i ((t, Reject) ∷ []) None h begun = absurd h
  fast_may i ((t, Reject) ∷ []) (Some c) h begun = fast_vote i t Reject c h begun
  fast_may i ((t, Reject) ∷ (e ∷ es')) None h begun = absurd h
  fast_may i ((t, Reject) ∷ (e ∷ es')) (Some d) h begun = absurd h

  -- ---- at a classic ballot
  all_pass : (p : TxId × Mark → Bool) (xs : Options) → length (filter p xs) ≡ length xs → (x : TxId × Mark) → In x xs → p x ≡ true
  all_pass p [] h x g = absurd g
  all_pass p (y ∷ ys) h x g =
      elim (cases_Bool (p y)) [
        | inl e ↦
            let more : length (filter p (y ∷ ys)) ≡ suc (length (filter p ys)) = rw e refl in
            elim g [ inl here ↦ ap p (sym here) ∙ e | inr there ↦ all_pass p ys (omega arith) x there ]
        | inr e ↦ absurd (let less : length (filter p (y ∷ ys)) ≡ length (filter p ys) = rw e refl in omega (arith, filter_less p ys))
      ]
    where
      filter_less : (p : TxId × Mark → Bool) (xs : Options) → length (filter p xs) ≤ length xs
      filter_less p [] = omega arith
      filter_less p (x ∷ xs) = elim (cases_Bool (p x)) [ inl e ↦ rw e (omega (arith, filter_less p xs)) | inr e ↦ rw e (omega (arith, filter_less p xs)) ]

  apart_value : (os : Options) → are_apart os ≡ true → (p : TxId × Mark) → In p os → value_of os p.0 ≡ Some p.1
  apart_value [] h p g = absurd g
  apart_value (e ∷ es') h p g =
      let parts : (not (is_some (value_of es' e.0)) ≡ true) × (are_apart es' ≡ true) = and_parts _ _ h in
      elim g [
        | inl here ↦ subst (λ (z : TxId × Mark). value_of (e ∷ es') z.0 ≡ Some z.1) here (rw (tx_true e.0 e.0 refl) refl)
        | inr there ↦
            let rest : value_of es' p.0 ≡ Some p.1 = apart_value es' parts.1 p there in
            elim (cases_Bool (tx_eq e.0 p.0)) [
              | inl same ↦ absurd (let none : value_of es' p.0 ≡ None = ap (value_of es') (sym ((Decides-tx e.0 p.0).0 same)) ∙ none_if_not (value_of es' e.0) parts.0 in
                  let bad : None ≡ Some p.1 = sym none ∙ rest in cc)
              | inr other ↦ rw other rest
            ]
      ]

  pub sent_valued : (bs : List ledger.Entry) (i : Place) (k : Ballot) (os : Options) → is_valued bs i.key i.version k os ≡ true → WasSent (reduced bs) i k os
  sent_valued [] i k os h = absurd (cc)
  sent_valued (ledger.Added b f ∷ bs) i k os h = sent_valued bs i k os h
  sent_valued (ledger.Begun b t cs ∷ bs) i k os h = sent_valued bs i k os h
  sent_valued (ledger.Valued b key v l sent ∷ bs) i k os h =
      elim (or_cases (is_valued_as i.key i.version k os (ledger.Valued b key v l sent)) (is_valued bs i.key i.version k os) h) [
        | inl here ↦
            let p3 : ((((v == i.version) && ballot_eq l k) && key_eq key i.key) ≡ true) × (options_eq sent os ≡ true) = and_parts _ _ here in
            let p2 : (((v == i.version) && ballot_eq l k) ≡ true) × (key_eq key i.key ≡ true) = and_parts _ _ p3.0 in
            let p1 : ((v == i.version) ≡ true) × (ballot_eq l k ≡ true) = and_parts _ _ p2.0 in
            inl (
              same_place (record { key = key; version = v }) i ((Decides-key key i.key).0 p2.1, eqb-true v i.version p1.0),
              (Decides-ballot l k).0 p1.1,
              (Decides-options sent os).0 p3.1,
            )
        | inr there ↦ inr (sent_valued bs i k os there)
      ]

  marks_here : (i : Place) (k : Ballot) (os : Options) → Rattle.mdcc_theorem_agreement.proofs.ReducedFacts.marks_at (Voted i k os) i k ≡ os
  marks_here i k os = rw ((Rattle.mdcc_theorem_agreement.proofs.TestsDecide.Decides-place i i).1 refl, (Decides-ballot k k).1 refl) refl

  pub classic_may : (i : Place) (k : Ballot) (options : Options) (offered : Option Choice) → is_fast k ≡ false → MayVoteClassic own_facts i.key i.version k options offered →
      full_allowed.IsSent es own_facts i.key i.version k (union (full.votes_of own_facts i.key i.version k) options) → MayVote (setup_of cluster) (reduced es) a i k options
  classic_may i k options offered classic h valued =
      let above : ballot_lt k (full.promise_of own_facts i.key i.version) ≡ false = h.not_below in
      let pass : (x : TxId × Mark) → In x options → not (is_some (value_of (full.votes_of own_facts i.key i.version k) x.0) || full.is_finished own_facts x.0) ≡ true =
      all_pass (λ e. not (is_some (value_of (full.votes_of own_facts i.key i.version k) e.0) || full.is_finished own_facts e.0)) options (ap length h.each_new) in
      let after : (t : TxId) → mark_of t (votes (Voted i k options ∷ reduced_facts) i k) ≡ value_of (union (full.votes_of own_facts i.key i.version k) options) t =
      λ t. mark_of-or t (votes reduced_facts i k) (Rattle.mdcc_theorem_agreement.proofs.ReducedFacts.marks_at (Voted i k options) i k)
      ∙ ap (λ o. option_or o (mark_of t (Rattle.mdcc_theorem_agreement.proofs.ReducedFacts.marks_at (Voted i k options) i k))) (voted_same i k t)
      ∙ ap (λ (ms : List (TxId × Mark)). option_or (value_of (full.votes_of own_facts i.key i.version k) t) (mark_of t ms)) (marks_here i k options)
      ∙ ap (option_or (value_of (full.votes_of own_facts i.key i.version k) t)) (mark_value t options)
      ∙ sym (value_of-union (full.votes_of own_facts i.key i.version k) options t) in
      record {
        promise_held = λ below. false≢true (sym above ∙ (Decides-ballot_lt k (full.promise_of own_facts i.key i.version)).1
            (subst (Below k) (ap (λ fs. promise fs i) (facts_same a es) ∙ promise_same own_facts i) below));
        fast_vote = λ is. absurd (false≢true (sym classic ∙ (Decides-ballot k fast).1 is));
        each_new = λ p g. (
          voted_same i k p.0 ∙ none_if_not (value_of (full.votes_of own_facts i.key i.version k) p.0) (not_first _ (full.is_finished own_facts p.0) (pass p g)),
          mark_value p.0 options ∙ apart_value options h.apart p g,
        );
        backed = λ above_fast. record {
          marks = valued.structure;
          sent = sent_valued es i k valued.structure valued.was;
          within = λ t x g.
              elim (valued.same t) [
                | inl e ↦ mark_value t valued.structure ∙ sym e ∙ sym (after t) ∙ g
                | inr gone ↦ absurd (let bad : None ≡ Some x = sym gone.0 ∙ sym (after t) ∙ g in cc)
              ];
          whole = λ t x fresh g.
              elim (valued.same t) [
                | inl e ↦ after t ∙ e ∙ sym (mark_value t valued.structure) ∙ g
                | inr gone ↦ absurd (false≢true (sym fresh ∙ (ap (λ fs. finished fs t) (facts_same a es) ∙ finished_same own_facts t ∙ gone.1)))
              ];
        };
      }
