-- Choices that are accepted together agree, where their transactions are not aborted.
use Rattle.std.proofs.Common.{◌≡◌, ℕ, ◌+◌, ◌-◌, ◌≤◌, ◌==◌, Bool, true, false, List, [], ◌∷◌, length, refl, sym, ap, ◌∙◌, subst, arith, inl, inr, ◌⊎◌, Some}
use Rattle.std.proofs.lemmas.Bool.{cases_Bool, eqb-true}
use Rattle.mdcc_base.specs.TxId.{tx_eq}
use Rattle.mdcc_base.specs.declared.identifiers.Ballot.{Ballot}
use Rattle.mdcc_base.specs.declared.identifiers.TxId.{TxId}
use Rattle.mdcc_option.specs.declared.choices.Choice.{Choice}
use Rattle.mdcc_option.specs.declared.choices.Mark.{Mark}
use Rattle.mdcc_option.specs.declared.choices.Mark.TheVariants.{Accept}
use Rattle.mdcc_option.specs.declared.items.Item.{Item}
use Rattle.mdcc_option.specs.declared.items.Update.{Update}
use Rattle.mdcc_option.specs.declared.items.Update.TheVariants.{Write, Add}
use Rattle.mdcc_theorem_agreement.proofs.BallotOrder.{Below-cases, Below-fast, Below-classic}
use Rattle.mdcc_theorem_agreement.proofs.Ballots.{fast, Below}
use Rattle.mdcc_theorem_agreement.proofs.BegunOnce.{IsChoice-tail, one_choice, HasSeen, seen_adds}
use Rattle.mdcc_theorem_agreement.proofs.StructuresExtend.{backed, marks_at-cases, append-none}
use Rattle.mdcc_theorem_agreement.proofs.ReportsCounted.{some_counted, some_common, length-reports, reports-of, all_fast}
use Rattle.mdcc_theorem_agreement.proofs.BothCounted.{length-centres}
use Rattle.mdcc_theorem_agreement.proofs.EveryStructure.{every, every_sent, reports_for}
use Rattle.mdcc_theorem_agreement.proofs.LedgersGrow.{IsTail-same, IsTail-drop, Allowed-tail, IsTail-trans, last-sent, sent_tail, shown-voted}
use Rattle.mdcc_theorem_agreement.proofs.OneMark.{size-classic, in_structures}
use Rattle.mdcc_theorem_agreement.proofs.Setups.{Setup, IsSetup, centres_to, count}
use Rattle.mdcc_theorem_agreement.proofs.ReducedFacts.{ReducedFact, Voted, votes, marks_at, voted_below, ReducedReport, report, IsAcceptedVote, HasHeard, current, shown}
use Rattle.mdcc_theorem_agreement.proofs.ReducedForced.{top}
use Rattle.mdcc_theorem_agreement.proofs.ReducedLedger.{IsTail, Entry, Happened, Begun, Valued, facts_of, WasSent, IsChosen, IsChoice, IsAborted, IsFit, IsAcceptedIn, reports_of, members, MayAdd, IsFastVote, MayVote, MayHappen, IsFirst, IsBacked, Allowed, Executes, Grown, IsLive, Step, last_sent}
use Rattle.mdcc_theorem_agreement.proofs.ReducedOptions.{spot, In, Place, is_add, mark_of, gives, Extends, agree, Agrees, allows, Distinct, allows_delta}
use Rattle.mdcc_theorem_agreement.proofs.TestsDecide.{Decides-is_mark, Decides-tx}
use Rattle.mdcc_theorem_agreement.proofs.VotesOfFacts.{mark_of-append_cases, marks_at-shows, HasVoted-mark}
use Rattle.mdcc_theorem_agreement.proofs.ChosenBelow.{Grown-less, chosen_last, chosen_not_over, fast_meet}
use Rattle.mdcc_theorem_agreement.proofs.HeardHere.{cases_heard, heard_here, may_count}

-- agreement with a delta that a new choice allows
delta-agrees : (x y : Update) (t u : TxId) → is_add x ≡ true → allows_delta y t → agree t x u y
delta-agrees (Write b s) y t u add h = let bad : false ≡ true = add in cc
delta-agrees (Add m) (Write b s) t u add h = h
delta-agrees (Add m) (Add m') t u add h = tt

-- agreement, from what a new choice asks of a live one
allows-agree : (x y : Update) (t u : TxId) → allows x u y → ((s : List TxId) (b : Item) → x ≡ Write b s → In u s → is_add y ≡ true) → agree t x u y
allows-agree (Write b s) (Write b' s') t u h g = let bad : false ≡ true = g s b refl h in cc
allows-agree (Write b s) (Add m) t u h g = h
allows-agree (Add m) (Write b s) t u h g = absurd h
allows-agree (Add m) (Add m') t u h g = tt

agree-sym : (x y : Update) (t u : TxId) → agree t x u y → agree u y t x
agree-sym (Write b s) (Write b' s') t u h = h
agree-sym (Write b s) (Add m) t u h = h
agree-sym (Add m) (Write b s) t u h = h
agree-sym (Add m) (Add m') t u h = tt

pub voted_same : (i : Place) (xs ys : List (TxId × Mark)) → Voted i fast xs ≡ Voted i fast ys → xs ≡ ys
voted_same i xs ys h = cc

module _ (s : Setup) (all : List Entry) (legal : Allowed s all) (i : Place) where
  -- accepted choices are those of transactions at the instance, and agree where they are not aborted
  pub record Sound (marks : List (TxId × Mark)) : Type 0 where
    pub choices : (t : TxId) (c : Choice) → mark_of t marks ≡ Some (Accept c) → (c.tx ≡ t) × IsChoice all c × ((spot c) ≡ i)
    pub agreed : (c d : Choice) → IsAcceptedIn marks c → IsAcceptedIn marks d → (c.tx ≡ d.tx → ⊥) →
        (IsAborted s all c.tx → ⊥) → (IsAborted s all d.tx → ⊥) → Agrees c d

  pub Sound-part : (less more : List (TxId × Mark)) → Distinct less → Extends more less → Sound more → Sound less
  Sound-part less more apart ext h = record {
    choices = λ t c g. h.choices t c (ext t (Accept c) g);
    agreed = λ c d g k. h.agreed c d (ext c.tx (Accept c) g) (ext d.tx (Accept d) k);
  }

  -- a new choice agrees with a live one
  new_agrees : (c d : Choice) → IsChoice all c → IsChoice all d → (spot c) ≡ i → (spot d) ≡ i → allows c.update d.tx d.update → Agrees c d
  new_agrees c d g h p q clear =
      allows-agree c.update d.update c.tx d.tx clear (λ seen b is listed.
      let add : HasSeen all d.tx (spot c) = seen_adds s all legal c.tx g.0 g.1 c g.2 seen b is d.tx listed in
      let same : add.1.0 ≡ d = one_choice s all add.1.0 d legal add.1.1 h add.1.2 (add.1.3 ∙ p ∙ sym q) in
      let is_one : is_add add.1.0.update ≡ true = rw add.1.4 refl in
      subst (λ z. is_add z.update ≡ true) same is_one)

  -- one more mark
  Sound-add : (less more : List (TxId × Mark)) (t : TxId) (x : Mark) →
      ((u : TxId) (y : Mark) → mark_of u more ≡ Some y → (mark_of u less ≡ Some y) ⊎ ((u ≡ t) × (y ≡ x))) →
      ((c : Choice) → x ≡ Accept c → (c.tx ≡ t) × IsChoice all c × ((spot c) ≡ i) × ((d : Choice) → IsAcceptedIn less d → (IsAborted s all d.tx → ⊥) → allows c.update d.tx d.update)) →
      Sound less → Sound more
  Sound-add less more t x cases fit h = record {
    choices = λ u c g. elim (cases u (Accept c) g) [
      | inl old ↦ h.choices u c old
      | inr new ↦ ((fit c (sym new.1)).0 ∙ sym new.0, (fit c (sym new.1)).1, (fit c (sym new.1)).2)
    ];
    agreed = λ c d g k other free_c free_d. elim (cases c.tx (Accept c) g) [
      | inl old_c ↦ elim (cases d.tx (Accept d) k) [
        | inl old_d ↦ h.agreed c d old_c old_d other free_c free_d
        | inr new_d ↦ agree-sym d.update c.update d.tx c.tx
            (new_agrees d c (fit d (sym new_d.1)).1 (h.choices c.tx c old_c).1 (fit d (sym new_d.1)).2 (h.choices c.tx c old_c).2
            ((fit d (sym new_d.1)).3 c old_c free_c))
      ]
      | inr new_c ↦ elim (cases d.tx (Accept d) k) [
        | inl old_d ↦ new_agrees c d (fit c (sym new_c.1)).1 (h.choices d.tx d old_d).1 (fit c (sym new_c.1)).2 (h.choices d.tx d old_d).2
            ((fit c (sym new_c.1)).3 d old_d free_d)
        | inr new_d ↦ absurd (other (new_c.0 ∙ sym new_d.0))
      ]
    ];
  }

  -- what fits may stand
  fit_stands : (weight share : ℕ) (old : List Entry) (a : ℕ) (accepted counted : Choice → Type 0) (t : TxId) (c : Choice) → IsTail old all → Allowed s old →
      IsFit s weight share old (facts_of a old) accepted counted i t c →
      (c.tx ≡ t) × IsChoice all c × ((spot c) ≡ i) × ((d : Choice) → accepted d → IsChoice all d → (spot d) ≡ i → (IsAborted s all d.tx → ⊥) → allows c.update d.tx d.update)
  fit_stands weight share old a accepted counted t c tail allowed fit =
      (fit.own, IsChoice-tail c old all tail fit.begun, fit.here, (λ d g choice here free. fit.clear.chosen d g (may_count s all legal old tail i d choice here free)))

  -- what a leader adds
  pub mark_of-cons : (t u : TxId) (x y : Mark) (ps : List (TxId × Mark)) → mark_of u ((t, x) ∷ ps) ≡ Some y → (mark_of u ps ≡ Some y) ⊎ ((u ≡ t) × (y ≡ x))
  mark_of-cons t u x y ps h =
      elim (cases_Bool (tx_eq u t)) [
        | inl e ↦ let is : Some x ≡ Some y = rw e at h in inr ((Decides-tx u t).0 e, cc)
        | inr e ↦ inl (rw e at h)
      ]

  Sound-added : (old : List Entry) → IsTail old all → Allowed s old → (z : ℕ) (ps : List (TxId × Mark)) (t : TxId) (x : Mark) →
      MayAdd s old z i ps t x → Sound ps → Sound ((t, x) ∷ ps)
  Sound-added old tail allowed z ps t x may h =
      Sound-add ps ((t, x) ∷ ps) t x (λ u y g. mark_of-cons t u x y ps g)
      (λ c is.
      let stands : (c.tx ≡ t) × IsChoice all c × ((spot c) ≡ i) × ((d : Choice) → IsAcceptedIn ps d → IsChoice all d → (spot d) ≡ i → (IsAborted s all d.tx → ⊥) → allows c.update d.tx d.update) =
      fit_stands 1 1 old z (IsAcceptedIn ps) (IsLive (facts_of z old) i ps) t c tail allowed (may.fits c is) in
      (stands.0, stands.1, stands.2, (λ d g free. stands.3 d g (h.choices d.tx d g).1 (h.choices d.tx d g).2 free)))
      h

  -- what one more vote at the fast ballot adds
  pub new_vote : (a : ℕ) (f : ReducedFact) (old : List Entry) (marks : List (TxId × Mark)) → f ≡ Voted i fast marks → (vote : IsFastVote s old (facts_of a old) i marks) →
      (u : TxId) (y : Mark) → mark_of u (votes (f ∷ facts_of a old) i fast) ≡ Some y → (mark_of u (votes (facts_of a old) i fast) ≡ Some y) ⊎ ((u ≡ vote.tx) × (y ≡ vote.mark))
  new_vote a f old marks is vote u y g =
      elim (mark_of-append_cases u y (votes (facts_of a old) i fast) (marks_at f i fast) g) [
        | inl before ↦ inl before
        | inr now ↦
            let shown : (ms : List (TxId × Mark)) × (f ≡ Voted i fast ms) × (mark_of u ms ≡ Some y) = marks_at-shows f i fast u y now in
            let facts : Voted i fast shown.0 ≡ Voted i fast marks = sym shown.1 ∙ is in
            let same : shown.0 ≡ (vote.tx, vote.mark) ∷ [] = voted_same i shown.0 marks facts ∙ vote.single in
            let given : mark_of u ((vote.tx, vote.mark) ∷ []) ≡ Some y = subst (λ z. mark_of u z ≡ Some y) same shown.2 in
            elim (mark_of-cons vote.tx u vote.mark y [] given) [ inl none ↦ absurd (cc) | inr new ↦ inr new ]
      ]

  -- one more vote at the fast ballot
  Sound-vote : (a : ℕ) (f : ReducedFact) (old : List Entry) (marks : List (TxId × Mark)) → IsTail old all → Allowed s old → f ≡ Voted i fast marks → MayVote s old a i fast marks →
      Sound (votes (facts_of a old) i fast) → Sound (votes (f ∷ facts_of a old) i fast)
  Sound-vote a f old marks tail allowed is may h =
      let vote : IsFastVote s old (facts_of a old) i marks = may.fast_vote refl in
      Sound-add (votes (facts_of a old) i fast) (votes (f ∷ facts_of a old) i fast) vote.tx vote.mark
      (λ u y g. new_vote a f old marks is vote u y g)
      (λ c new.
      let stands : (c.tx ≡ vote.tx) × IsChoice all c × ((spot c) ≡ i) × ((d : Choice) → IsAcceptedVote (facts_of a old) i d → IsChoice all d → (spot d) ≡ i → (IsAborted s all d.tx → ⊥) → allows c.update d.tx d.update) =
      fit_stands s.parts (s.fast + s.parts - s.centres) old a (IsAcceptedVote (facts_of a old) i) (IsAcceptedVote (facts_of a old) i) vote.tx c tail allowed (vote.fits c new) in
      (stands.0, stands.1, stands.2, (λ d g free. stands.3 d (fast, g) (h.choices d.tx d g).1 (h.choices d.tx d g).2 free)))
      h

  -- the votes of a centre at the fast ballot
  pub Sound-votes : (a : ℕ) (old : List Entry) → IsTail old all → Sound (votes (facts_of a old) i fast)
  Sound-votes a [] tail = record { choices = λ t c g. absurd (cc); agreed = λ c d g k other free_c free_d. absurd (cc) }
  Sound-votes a (Begun b t cs ∷ old) tail = Sound-votes a old (IsTail-drop (Begun b t cs) old all tail)
  Sound-votes a (Valued b j l sent ∷ old) tail = Sound-votes a old (IsTail-drop (Valued b j l sent) old all tail)
  Sound-votes a (Happened b f ∷ old) tail =
      let older : IsTail old all = IsTail-drop (Happened b f) old all tail in
      let before : Sound (votes (facts_of a old) i fast) = Sound-votes a old older in
      let allowed : Allowed s (Happened b f ∷ old) = Allowed-tail s (Happened b f ∷ old) all tail legal in
      elim (cases_Bool (b == a)) [
        | inl e ↦ rw e (elim (marks_at-cases f i fast) [
          | inl here ↦ Sound-vote a f old here.0 older allowed.0 here.1
              (subst (λ z. MayVote s old z i fast here.0) (eqb-true b a e) (subst (MayHappen s old b) here.1 allowed.1)) before
          | inr other ↦ rw (other, append-none (votes (facts_of a old) i fast)) before
        ])
        | inr e ↦ rw e before
      ]

  -- what a report gives at the fast ballot, a centre shows there, and so it voted there
  pub fast_shown : (at_time : ℕ → List Entry) (q : ℕ → Bool) (m : Ballot) (r : ReducedReport) → In r (reports_of at_time i m (members q (centres_to s.centres))) →
      top (reports_of at_time i m (members q (centres_to s.centres))) ≡ fast →
      (a : ℕ) × (q a ≡ true) × (r.marks ≡ shown (facts_of a (at_time a)) i fast)
  fast_shown at_time q m r listed is =
      let member : (a : ℕ) × (q a ≡ true) × (report (facts_of a (at_time a)) i m ≡ r) = reports-of at_time i m q r (centres_to s.centres) listed in
      let ballot : voted_below (facts_of member.0 (at_time member.0)) i m ≡ fast =
      ap (λ (z : ReducedReport). z.ballot) member.2 ∙ all_fast r (reports_of at_time i m (members q (centres_to s.centres))) listed is in
      (member.0, member.1, sym (ap (λ (z : ReducedReport). z.marks) member.2) ∙ ap (λ z. shown (facts_of member.0 (at_time member.0)) i z) ballot)

  pub fast_voter : (at_time : ℕ → List Entry) (q : ℕ → Bool) (m : Ballot) (r : ReducedReport) → In r (reports_of at_time i m (members q (centres_to s.centres))) →
      top (reports_of at_time i m (members q (centres_to s.centres))) ≡ fast →
      (a : ℕ) × (q a ≡ true) × ((t : TxId) (x : Mark) → gives r.marks t x ≡ true → mark_of t (votes (facts_of a (at_time a)) i fast) ≡ Some x)
  fast_voter at_time q m r listed is =
      let member : (a : ℕ) × (q a ≡ true) × (r.marks ≡ shown (facts_of a (at_time a)) i fast) = fast_shown at_time q m r listed is in (
        member.0,
        member.1,
        (λ t x g. shown-voted (facts_of member.0 (at_time member.0)) i t x (votes (facts_of member.0 (at_time member.0)) i fast)
            (subst (λ z. mark_of t z ≡ Some x) member.2 ((Decides-is_mark (mark_of t r.marks) x).0 g))),
      )

  -- the forced marks of the fast ballot
  Sound-fast : (sizes : IsSetup s) (old : List Entry) → IsTail old all → Allowed s old → (z : ℕ) (m : Ballot) (marks : List (TxId × Mark)) (first : IsFirst s old z i m marks) →
      top (reports_for s old z i m marks first) ≡ fast → Sound first.base
  Sound-fast sizes old tail allowed z m marks first is =
      let rs : List ReducedReport = reports_for s old z i m marks first in
      let many : length rs ≡ count first.quorum (centres_to s.centres) = length-reports first.at_time i m first.quorum (centres_to s.centres) in
      let holders : (t : TxId) (c : Choice) → mark_of t first.base ≡ Some (Accept c) → s.fast + length rs ≤ s.centres + count (λ r. gives r.marks t (Accept c)) rs =
      λ t c g. elim (first.forced_only t (Accept c) g) [
        | inl by_count ↦ by_count.1
        | inr by_union ↦ absurd (Below-fast fast (rw is at by_union.0))
      ] in
      record {
        choices = λ t c g.
            let enough : s.fast + length rs ≤ s.centres + count (λ r. gives r.marks t (Accept c)) rs = holders t c g in
            let some : (r : ReducedReport) × In r rs × (gives r.marks t (Accept c) ≡ true) =
            some_counted (λ r. gives r.marks t (Accept c)) rs (omega (arith, first.enough, sizes.two_fast, sizes.fast_within)) in
            let voter : (a : ℕ) × (first.quorum a ≡ true) × ((t : TxId) (x : Mark) → gives some.0.marks t x ≡ true → mark_of t (votes (facts_of a (first.at_time a)) i fast) ≡ Some x) =
            fast_voter first.at_time first.quorum m some.0 some.1 is in
            (Sound-votes voter.0 (first.at_time voter.0) (IsTail-trans (first.at_time voter.0) old all (first.before voter.0 voter.1) tail)).choices t c (voter.2 t (Accept c) some.2);
        agreed = λ c d g k other free_c free_d.
            let enough_c : s.fast + length rs ≤ s.centres + count (λ r. gives r.marks c.tx (Accept c)) rs = holders c.tx c g in
            let enough_d : s.fast + length rs ≤ s.centres + count (λ r. gives r.marks d.tx (Accept d)) rs = holders d.tx d k in
            let some : (r : ReducedReport) × In r rs × (gives r.marks c.tx (Accept c) ≡ true) × (gives r.marks d.tx (Accept d) ≡ true) =
            some_common (λ r. gives r.marks c.tx (Accept c)) (λ r. gives r.marks d.tx (Accept d)) rs (omega (arith, first.enough, sizes.two_fast)) in
            let voter : (a : ℕ) × (first.quorum a ≡ true) × ((t : TxId) (x : Mark) → gives some.0.marks t x ≡ true → mark_of t (votes (facts_of a (first.at_time a)) i fast) ≡ Some x) =
            fast_voter first.at_time first.quorum m some.0 some.1 is in
            (Sound-votes voter.0 (first.at_time voter.0) (IsTail-trans (first.at_time voter.0) old all (first.before voter.0 voter.1) tail)).agreed c d (voter.2 c.tx (Accept c) some.2) (voter.2 d.tx (Accept d) some.3) other free_c free_d;
      }

  pub Sound-structures : IsSetup s → (m : Ballot) (marks : List (TxId × Mark)) → WasSent all i m marks → Sound marks
  Sound-structures sizes m marks sent =
      every s all legal i Sound Sound-part (Sound-fast sizes) Sound-added all (IsTail-same all) m marks sent

  -- the votes of a centre at one ballot
  Sound-at : IsSetup s → (a : ℕ) (k : Ballot) (c d : Choice) → mark_of c.tx (votes (facts_of a all) i k) ≡ Some (Accept c) → mark_of d.tx (votes (facts_of a all) i k) ≡ Some (Accept d) →
      (c.tx ≡ d.tx → ⊥) → (IsAborted s all c.tx → ⊥) → (IsAborted s all d.tx → ⊥) → Agrees c d
  Sound-at sizes a k c d g h other free_c free_d =
      elim (Below-cases fast k) [
        | inl classic ↦
            let b : IsBacked all (facts_of a all) i k = backed s all a i k classic legal (HasVoted-mark (facts_of a all) i k c.tx (Accept c) g) in
            (Sound-structures sizes k b.marks b.sent).agreed c d (b.within c.tx (Accept c) g) (b.within d.tx (Accept d) h) other free_c free_d
        | inr rest ↦ elim rest [
          | inl same ↦ (Sound-votes a all (IsTail-same all)).agreed c d
              (subst (λ z. mark_of c.tx (votes (facts_of a all) i z) ≡ Some (Accept c)) (sym same) g)
              (subst (λ z. mark_of d.tx (votes (facts_of a all) i z) ≡ Some (Accept d)) (sym same) h) other free_c free_d
          | inr below ↦ absurd (Below-fast k below)
        ]
      ]

  -- an accepted choice of a structure agrees with what is chosen below it
  module _ (sizes : IsSetup s) (k : Ballot) (c : Choice) (chosen : IsChosen s all i k c.tx (Accept c)) (free_c : IsAborted s all c.tx → ⊥) where
    abbrev Among : Ballot → List (TxId × Mark) → Type 0
    Among m marks = Below k m → (d : Choice) → IsAcceptedIn marks d → (c.tx ≡ d.tx → ⊥) → (IsAborted s all d.tx → ⊥) → Agrees c d

    is_choice : IsChoice all c × ((spot c) ≡ i)
    is_choice =
        let some : (a : ℕ) × In a (centres_to s.centres) × (gives (votes (facts_of a all) i k) c.tx (Accept c) ≡ true) =
        some_counted (λ a. gives (votes (facts_of a all) i k) c.tx (Accept c)) (centres_to s.centres) (omega (arith, size-classic s sizes k, sizes.two_classic)) in
        let vote : mark_of c.tx (votes (facts_of some.0 all) i k) ≡ Some (Accept c) = (Decides-is_mark (mark_of c.tx (votes (facts_of some.0 all) i k)) (Accept c)).0 some.2 in
        elim (Below-cases fast k) [
          | inl classic ↦
              let b : IsBacked all (facts_of some.0 all) i k = backed s all some.0 i k classic legal (HasVoted-mark (facts_of some.0 all) i k c.tx (Accept c) vote) in
              (let r : (c.tx ≡ c.tx) × IsChoice all c × ((spot c) ≡ i) = (Sound-structures sizes k b.marks b.sent).choices c.tx c (b.within c.tx (Accept c) vote) in (r.1, r.2))
          | inr rest ↦ elim rest [
            | inl same ↦ (let r : (c.tx ≡ c.tx) × IsChoice all c × ((spot c) ≡ i) = (Sound-votes some.0 all (IsTail-same all)).choices c.tx c (subst (λ z. mark_of c.tx (votes (facts_of some.0 all) i z) ≡ Some (Accept c)) (sym same) vote) in (r.1, r.2))
            | inr below ↦ absurd (Below-fast k below)
          ]
        ]

    -- what is chosen below stands in the last structure of the greatest reported ballot, or below it
    Among-part : (old : List Entry) → IsTail old all → (allowed : Allowed s old) (z : ℕ) (m : Ballot) (marks : List (TxId × Mark)) (first : IsFirst s old z i m marks) →
        Below fast (top (reports_for s old z i m marks first)) → (last : List (TxId × Mark)) →
        last_sent old i (top (reports_for s old z i m marks first)) ≡ Some last → Extends last first.base → Among (top (reports_for s old z i m marks first)) last → Among m first.base
    Among-part old tail allowed z m marks first classic last is extends known below d g other free_d =
        let l : Ballot = top (reports_for s old z i m marks first) in
        elim (Below-cases k (top (reports_for s old z i m marks first))) [
          | inl under ↦ known under d (extends d.tx (Accept d) g) other free_d
          | inr rest ↦
              let there : k ≡ top (reports_for s old z i m marks first) =
              elim rest [ inl same ↦ same | inr over ↦ absurd (chosen_not_over s sizes all legal i k c.tx (Accept c) chosen old z m marks tail allowed below first over) ] in
              let stands : mark_of c.tx last ≡ Some (Accept c) = chosen_last s sizes all legal i k c.tx (Accept c) chosen old z m marks tail allowed below first classic there last is in
              (Sound-structures sizes (top (reports_for s old z i m marks first)) last (sent_tail i (top (reports_for s old z i m marks first)) last old all tail
              (last-sent old i (top (reports_for s old z i m marks first)) last is))).agreed c d stands (extends d.tx (Accept d) g) other free_c free_d
        ]

    Among-fast : (old : List Entry) → IsTail old all → Allowed s old → (z : ℕ) (m : Ballot) (marks : List (TxId × Mark)) (first : IsFirst s old z i m marks) →
        top (reports_for s old z i m marks first) ≡ fast → Among m first.base
    Among-fast old tail allowed z m marks first is below d g other free_d =
        let met : (a : ℕ) × (mark_of c.tx (votes (facts_of a (first.at_time a)) i fast) ≡ Some (Accept c)) × (mark_of d.tx (votes (facts_of a (first.at_time a)) i fast) ≡ Some (Accept d)) × (first.quorum a ≡ true) =
        fast_meet s sizes all legal i k c.tx (Accept c) chosen old z m marks tail allowed below first is d.tx (Accept d) g in
        (Sound-votes met.0 (first.at_time met.0) (IsTail-trans (first.at_time met.0) old all (first.before met.0 met.3) tail)).agreed c d met.1 met.2 other free_c free_d

    -- what a leader adds that has heard it
    heard_agrees : (old : List Entry) → IsTail old all → Allowed s old → (z : ℕ) → HasHeard (facts_of z old) c.tx → (t : TxId) (x : Mark) (ps : List (TxId × Mark)) → MayAdd s old z i ps t x →
        (d : Choice) → x ≡ Accept d → Agrees c d
    heard_agrees old tail allowed z heard t x ps may d is =
        let fit : IsFit s 1 1 old (facts_of z old) (IsAcceptedIn ps) (IsLive (facts_of z old) i ps) i t d = may.fits d is in
        let held : current (facts_of z old) c.key ≡ c.version = subst (λ y. current (facts_of z old) y.key ≡ y.version) (sym is_choice.1) fit.held in
        let done : Executes (facts_of z old) (spot c) c = heard_here s all legal old tail allowed z c is_choice.0 free_c heard held in
        let executes : Executes (facts_of z old) i c = subst (λ y. Executes (facts_of z old) y c) is_choice.1 done in
        let add : is_add c.update ≡ true = rw done.1 refl in
        delta-agrees c.update d.update c.tx d.tx add (fit.clear.deltas c executes (may_count s all legal old tail i c is_choice.0 is_choice.1 free_c))

    grown_agrees : (old : List Entry) → IsTail old all → Allowed s old → (z : ℕ) → HasHeard (facts_of z old) c.tx → (m : Ballot) (less : List (TxId × Mark)) (steps : List Step) (more : List (TxId × Mark)) →
        Grown s old z i less steps more → Among m less → Among m more
    grown_agrees old tail allowed z heard m less [] more g known below d h other free_d = subst (Among m) g known below d h other free_d
    grown_agrees old tail allowed z heard m less (p ∷ ps) more g known below d h other free_d =
        elim (mark_of-cons p.tx d.tx p.mark (Accept d) p.before (sym (g.2.same d.tx) ∙ h)) [
          | inl before ↦ grown_agrees old tail allowed z heard m less ps p.before g.0 known below d before other free_d
          | inr new ↦ heard_agrees old tail allowed z heard p.tx p.mark p.before g.1 d (sym new.1)
        ]

    Among-sent : (old : List Entry) → Allowed s old → (z : ℕ) (m : Ballot) (less more : List (TxId × Mark)) → IsTail (Valued z i m more ∷ old) all →
        (steps : List Step) → Grown s old z i less steps more → Among m less → Among m more
    Among-sent old allowed z m less more tail steps g known below d h other free_d =
        elim (cases_heard (facts_of z old) c.tx) [
          | inl heard ↦ grown_agrees old (IsTail-drop (Valued z i m more) old all tail) allowed z heard m less steps more g known below d h other free_d
          | inr unheard ↦
              elim (Grown-less s old z i less steps more g) [
                | inl same ↦ known below d (rw same h) other free_d
                | inr centre ↦
                    let stands : mark_of c.tx more ≡ Some (Accept c) =
                    (in_structures s sizes all legal i k m c.tx (Accept c) (Valued z i m more ∷ old) more chosen below tail (inl (refl, refl, refl))).0 (λ every. unheard (every z centre)) in
                    (Sound-structures sizes m more (sent_tail i m more (Valued z i m more ∷ old) all tail (inl (refl, refl, refl)))).agreed c d stands h other free_c free_d
              ]
        ]

    pub agrees_above : (m : Ballot) (marks : List (TxId × Mark)) → WasSent all i m marks → Among m marks
    agrees_above m marks sent =
        every_sent s all legal i Among Among-part Among-fast Among-sent all (IsTail-same all) m marks sent

  consistent_below : IsSetup s → (k l : Ballot) (c d : Choice) → Below k l → IsChosen s all i k c.tx (Accept c) → IsChosen s all i l d.tx (Accept d) →
      (c.tx ≡ d.tx → ⊥) → (IsAborted s all c.tx → ⊥) → (IsAborted s all d.tx → ⊥) → Agrees c d
  consistent_below sizes k l c d below g h other free_c free_d =
      let some : (a : ℕ) × In a (centres_to s.centres) × (gives (votes (facts_of a all) i l) d.tx (Accept d) ≡ true) =
      some_counted (λ a. gives (votes (facts_of a all) i l) d.tx (Accept d)) (centres_to s.centres)
      (omega (arith, size-classic s sizes l, sizes.two_classic)) in
      let vote : mark_of d.tx (votes (facts_of some.0 all) i l) ≡ Some (Accept d) = (Decides-is_mark (mark_of d.tx (votes (facts_of some.0 all) i l)) (Accept d)).0 some.2 in
      let b : IsBacked all (facts_of some.0 all) i l =
      backed s all some.0 i l (Below-classic k l below) legal (HasVoted-mark (facts_of some.0 all) i l d.tx (Accept d) vote) in
      agrees_above sizes k c g free_c l b.marks b.sent below d (b.within d.tx (Accept d) vote) other free_d

  pub consistent : IsSetup s → (k l : Ballot) (c d : Choice) → IsChosen s all i k c.tx (Accept c) → IsChosen s all i l d.tx (Accept d) →
      (c.tx ≡ d.tx → ⊥) → (IsAborted s all c.tx → ⊥) → (IsAborted s all d.tx → ⊥) → Agrees c d
  consistent sizes k l c d g h other free_c free_d =
      elim (Below-cases k l) [
        | inl below ↦ consistent_below sizes k l c d below g h other free_c free_d
        | inr rest ↦ elim rest [
          | inl same ↦
              let h' : IsChosen s all i k d.tx (Accept d) = subst (λ z. IsChosen s all i z d.tx (Accept d)) (sym same) h in
              let some : (a : ℕ) × In a (centres_to s.centres) × (gives (votes (facts_of a all) i k) c.tx (Accept c) ≡ true) × (gives (votes (facts_of a all) i k) d.tx (Accept d) ≡ true) =
              some_common (λ a. gives (votes (facts_of a all) i k) c.tx (Accept c)) (λ a. gives (votes (facts_of a all) i k) d.tx (Accept d)) (centres_to s.centres)
              (omega (arith, length-centres s.centres, size-classic s sizes k, sizes.two_classic)) in
              Sound-at sizes some.0 k c d
              ((Decides-is_mark (mark_of c.tx (votes (facts_of some.0 all) i k)) (Accept c)).0 some.2)
              ((Decides-is_mark (mark_of d.tx (votes (facts_of some.0 all) i k)) (Accept d)).0 some.3) other free_c free_d
          | inr above ↦ agree-sym d.update c.update d.tx c.tx (consistent_below sizes l k d c above h g (λ e. other (sym e)) free_d free_c)
        ]
      ]
