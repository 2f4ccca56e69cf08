-- Sums within the room: by the votes of each centre, by double counting over the reports, and by what a leader adds.
use Rattle.std.proofs.Common.{◌≡◌, ℕ, ◌+◌, ◌-◌, ◌*◌, ◌≤◌, ◌<◌, ◌==◌, Bool, true, cond, List, [], ◌∷◌, ◌++◌, length, refl, sym, ap, ◌∙◌, subst, arith, inl, inr, ◌⊎◌, Option, Some, None, false}
use Rattle.std.proofs.lemmas.Bool.{cases_Bool, cases_eq, eqb-true, eq-eqb, false≢true}
use Rattle.mdcc_base.specs.TxId.{tx_eq}
use Rattle.mdcc_base.specs.declared.identifiers.Ballot.{Ballot}
use Rattle.mdcc_base.specs.declared.identifiers.TxId.{TxId}
use Rattle.mdcc_option.specs.declared.choices.Choice.{Choice}
use Rattle.mdcc_option.specs.declared.choices.Mark.{Mark}
use Rattle.mdcc_option.specs.declared.choices.Mark.TheVariants.{Accept}
use Rattle.mdcc_option.specs.declared.items.Item.{Item}
use Rattle.mdcc_theorem_agreement.proofs.AcceptedAgree.{Sound-votes, Sound-structures, mark_of-cons, new_vote}
use Rattle.mdcc_theorem_agreement.proofs.BallotOrder.{Below-cases, Below-fast}
use Rattle.mdcc_theorem_agreement.proofs.Ballots.{fast, Below}
use Rattle.mdcc_theorem_agreement.proofs.StructuresExtend.{backed, marks_at-cases, append-none}
use Rattle.mdcc_theorem_agreement.proofs.ReportsCounted.{length-members, members-in}
use Rattle.mdcc_theorem_agreement.proofs.DoubleCounting.{held_totals, room_left}
use Rattle.mdcc_theorem_agreement.proofs.EveryStructure.{every_sent, reports_for}
use Rattle.mdcc_theorem_agreement.proofs.LedgersGrow.{IsTail-same, IsTail-drop, Allowed-tail, IsTail-trans}
use Rattle.mdcc_theorem_agreement.proofs.LiveTotals.{take_tx, kept, In-kept, Apart-kept, total-kept, Each-from, total_bound}
use Rattle.mdcc_theorem_agreement.proofs.Setups.{Setup, IsSetup, centres_to, count}
use Rattle.mdcc_theorem_agreement.proofs.ReducedFacts.{ReducedFact, Voted, votes, marks_at, base, current, Quantity, IsAcceptedVote, HasHeard}
use Rattle.mdcc_theorem_agreement.proofs.ReducedForced.{top}
use Rattle.mdcc_theorem_agreement.proofs.ReducedLedger.{IsTail, Entry, Happened, Begun, Valued, facts_of, WasSent, IsChoice, IsAborted, IsFit, IsAcceptedIn, IsQuantity, members, MayAdd, IsFastVote, MayVote, MayHappen, IsFirst, IsBacked, Allowed, Executes, FitsTogether, Grown, IsChosen, IsLive, Step, given, last_sent}
use Rattle.mdcc_theorem_agreement.proofs.ReducedOptions.{spot, In, Apart, Place, mark_of, gives, Extends, is_add}
use Rattle.mdcc_theorem_agreement.proofs.TestsDecide.{Decides-place, Decides-is_mark, Decides-ballot}
use Rattle.mdcc_theorem_agreement.proofs.Totals.{total}
use Rattle.mdcc_theorem_agreement.proofs.VotesOfFacts.{HasVoted-mark}
use Rattle.mdcc_option.specs.declared.items.Update.TheVariants.{Add, Write}
use Rattle.mdcc_option.proofs.Equal.{Decides-tx}
use Rattle.mdcc_theorem_agreement.proofs.ChosenBelow.{Grown-less, at_fast_ballot, chosen_last, chosen_not_over, chosen_votes, forced_votes}
use Rattle.mdcc_theorem_agreement.proofs.OneMark.{Safe, in_structures, only_base, safe, safe_base}
use Rattle.mdcc_option.specs.declared.items.Update.{Update}
use Rattle.mdcc_struct.proofs.Reports.{cases_Option}
use Rattle.mdcc_theorem_agreement.proofs.HeardHere.{cases_heard, heard_here, may_count, votes_tail}
use Rattle.mdcc_theorem_agreement.proofs.BothCounted.{length-centres}

mark_of-append_none : (t : TxId) (ps qs : List (TxId × Mark)) → mark_of t ps ≡ None → mark_of t (ps ++ qs) ≡ mark_of t qs
mark_of-append_none t [] qs h = refl
mark_of-append_none t (p ∷ ps) qs h =
    elim (cases_Bool (tx_eq t p.0)) [
      | inl e ↦ let bad : Some p.1 ≡ None = rw e at h in absurd (cc)
      | inr e ↦ let more : mark_of t ps ≡ None = rw e at h in rw e (mark_of-append_none t ps qs more)
    ]

marks_at-here : (i : Place) (k : Ballot) (marks : List (TxId × Mark)) → marks_at (Voted i k marks) i k ≡ marks
marks_at-here i k marks = rw ((Decides-place i i).1 refl, (Decides-ballot k k).1 refl) refl

-- a new vote is counted
vote_counted : (fs : List ReducedFact) (i : Place) (k : Ballot) (marks : List (TxId × Mark)) (t : TxId) (x : Mark) →
    mark_of t (votes fs i k) ≡ None → mark_of t marks ≡ Some x → mark_of t (votes (Voted i k marks ∷ fs) i k) ≡ Some x
vote_counted fs i k marks t x none given =
    mark_of-append_none t (votes fs i k) (marks_at (Voted i k marks) i k) none ∙ ap (mark_of t) (marks_at-here i k marks) ∙ given

module _ (s : Setup) (sizes : IsSetup s) (all : List Entry) (legal : Allowed s all) (i : Place) where
  -- an accepted vote of any ballot is of a choice that was begun
  pub any_choice : (a : ℕ) (k : Ballot) (t : TxId) (c : Choice) → mark_of t (votes (facts_of a all) i k) ≡ Some (Accept c) →
      (c.tx ≡ t) × IsChoice all c × ((spot c) ≡ i)
  any_choice a k t c h =
      elim (Below-cases fast k) [
        | inl classic ↦
            let b : IsBacked all (facts_of a all) i k = backed s all a i k classic legal (HasVoted-mark (facts_of a all) i k t (Accept c) h) in
            (Sound-structures s all legal i sizes k b.marks b.sent).choices t c (b.within t (Accept c) h)
        | inr rest ↦ elim rest [
          | inl same ↦ (Sound-votes s all legal i a all (IsTail-same all)).choices t c
              (subst (λ z. mark_of t (votes (facts_of a all) i z) ≡ Some (Accept c)) (sym same) h)
          | inr below ↦ absurd (Below-fast k below)
        ]
      ]

-- what a centre voted, in any ballot, is of choices that were begun
module _ (s : Setup) (sizes : IsSetup s) (all : List Entry) (legal : Allowed s all) where
  listed_here : (a : ℕ) (j : Place) (k : Ballot) (marks : List (TxId × Mark)) (old : List Entry) → MayVote s old a j k marks → IsTail (Happened a (Voted j k marks) ∷ old) all →
      (t : TxId) (c : Choice) → In (t, Accept c) marks → (c.tx ≡ t) × IsChoice all c × (spot c ≡ j)
  listed_here a j k marks old may tail t c h =
      let new : (mark_of t (votes (facts_of a old) j k) ≡ None) × (mark_of t marks ≡ Some (Accept c)) = may.each_new (t, Accept c) h in
      let vote : mark_of t (votes (Voted j k marks ∷ facts_of a old) j k) ≡ Some (Accept c) =
      vote_counted (facts_of a old) j k marks t (Accept c) new.0 new.1 in
      let own_facts : facts_of a (Happened a (Voted j k marks) ∷ old) ≡ Voted j k marks ∷ facts_of a old = rw (eq-eqb a a refl) refl in
      let vote_now : mark_of t (votes (facts_of a (Happened a (Voted j k marks) ∷ old)) j k) ≡ Some (Accept c) =
      subst (λ z. mark_of t (votes z j k) ≡ Some (Accept c)) (sym own_facts) vote in
      any_choice s sizes all legal j a k t c (votes_tail a j k t (Accept c) (Happened a (Voted j k marks) ∷ old) all tail vote_now)

  listed_by : (a b : ℕ) (f : ReducedFact) (j : Place) (k : Ballot) (marks : List (TxId × Mark)) (old : List Entry) → f ≡ Voted j k marks → MayHappen s old b f →
      IsTail (Happened b f ∷ old) all → (t : TxId) (c : Choice) → In (t, Accept c) marks → (c.tx ≡ t) × IsChoice all c × (spot c ≡ j)
  listed_by a b f j k marks old is may tail t c h =
      listed_here b j k marks old (subst (MayHappen s old b) is may) (subst (λ z. IsTail (Happened b z ∷ old) all) is tail) t c h

  pub listed_fact : (a : ℕ) (old : List Entry) → IsTail old all → (j : Place) (k : Ballot) (marks : List (TxId × Mark)) → In (Voted j k marks) (facts_of a old) →
      (t : TxId) (c : Choice) → In (t, Accept c) marks → (c.tx ≡ t) × IsChoice all c × (spot c ≡ j)
  listed_fact a [] tail j k marks there t c h = absurd there
  listed_fact a (Begun b w cs ∷ old) tail j k marks there t c h = listed_fact a old (IsTail-drop (Begun b w cs) old all tail) j k marks there t c h
  listed_fact a (Valued b y l sent ∷ old) tail j k marks there t c h = listed_fact a old (IsTail-drop (Valued b y l sent) old all tail) j k marks there t c h
  listed_fact a (Happened b f ∷ old) tail j k marks there t c h =
      let older : IsTail old all = IsTail-drop (Happened b f) old all tail in
      let allowed : Allowed s (Happened b f ∷ old) = Allowed-tail s (Happened b f ∷ old) all tail legal in
      elim (cases_Bool (b == a)) [
        | inl e ↦
            let listed : (f ≡ Voted j k marks) ⊎ In (Voted j k marks) (facts_of a old) = rw e at there in
            elim listed [
              | inl here ↦ listed_by a b f j k marks old here allowed.1 tail t c h
              | inr before ↦ listed_fact a old older j k marks before t c h
            ]
        | inr e ↦ listed_fact a old older j k marks (rw e at there) t c h
      ]

module _ (s : Setup) (sizes : IsSetup s) (all : List Entry) (legal : Allowed s all) (i : Place)
    (q : Quantity) (listed_q : IsQuantity s q) (item : Option Item)
    (held : (a : ℕ) (old : List Entry) → IsTail old all → current (facts_of a old) i.key ≡ i.version → base (facts_of a old) i.key ≡ item) where
  abbrev taken : List Choice → ℕ
  taken cs = total (λ c. q.amount c.update) cs

  -- distinct choices that are counted, of transactions that are not aborted
  abbrev pub Among : (Choice → Type 0) → List Choice → Type 0
  Among counted cs = (c : Choice) → In c cs → counted c × (IsChoice all c × ((spot c) ≡ i)) × (IsAborted s all c.tx → ⊥)

  pub record Bounded (weight share : ℕ) (counted : Choice → Type 0) : Type 0 where
    pub bound : (cs : List Choice) → Apart cs → Among counted cs → weight * taken cs ≤ share * q.room item

  Bounded-less : (weight share : ℕ) (less more : Choice → Type 0) →
      ((c : Choice) → IsChoice all c → (spot c) ≡ i → (IsAborted s all c.tx → ⊥) → less c → more c) → Bounded weight share more → Bounded weight share less
  Bounded-less weight share less more ext h = record {
    bound = λ cs distinct among. h.bound cs distinct (λ c listed. (ext c (among c listed).1.0 (among c listed).1.1 (among c listed).2 (among c listed).0, (among c listed).1, (among c listed).2));
  }

  -- one more mark
  Bounded-add : (weight share : ℕ) (less more : Choice → Type 0) (t : TxId) (x : Mark) → ((c : Choice) → less c → c.tx ≡ t → ⊥) →
      ((c : Choice) → more c → less c ⊎ ((c.tx ≡ t) × (x ≡ Accept c))) →
      ((c : Choice) (cs : List Choice) → x ≡ Accept c → 0 < q.amount c.update → Apart cs → Among less cs → weight * (taken cs + q.amount c.update) ≤ share * q.room item) →
      Bounded weight share less → Bounded weight share more
  Bounded-add weight share less more t x new cases fit h = record {
    bound = λ cs distinct among. elim (take_tx q.amount t cs distinct) [
      | inl r ↦
          let rest_among : Among less r.1 = λ d listed. (
            elim (cases d (among d (r.6 d listed).0).0) [
              | inl old ↦ old
              | inr now ↦ absurd ((r.6 d listed).1 now.0)
            ],
            (among d (r.6 d listed).0).1,
            (among d (r.6 d listed).0).2,
          ) in
          let is : x ≡ Accept r.0 = elim (cases r.0 (among r.0 r.2).0) [
            | inl old ↦ absurd (new r.0 old r.3)
            | inr now ↦ now.1
          ] in
          elim (cases_eq (q.amount r.0.update) 0) [
            | inl nothing ↦ (let rest : weight * taken r.1 ≤ share * q.room item = h.bound r.1 r.5 rest_among in
                let sum : taken cs ≡ taken r.1 = omega (arith, r.4) in rw sum rest)
            | inr some ↦ (let all_of_it : weight * (taken r.1 + q.amount r.0.update) ≤ share * q.room item = fit r.0 r.1 is (omega arith) r.5 rest_among in
                let sum : taken cs ≡ taken r.1 + q.amount r.0.update = omega (arith, r.4) in rw sum all_of_it)
          ]
      | inr none ↦ h.bound cs distinct (λ c listed. (
        elim (cases c (among c listed).0) [
          | inl old ↦ old
          | inr now ↦ absurd (none c listed now.0)
        ],
        (among c listed).1,
        (among c listed).2,
      ))
    ];
  }

  abbrev share : ℕ
  share = s.fast + s.parts - s.centres

  -- one more vote at the fast ballot
  Bounded-vote : (a : ℕ) (f : ReducedFact) (old : List Entry) (marks : List (TxId × Mark)) → IsTail old all → Allowed s old → f ≡ Voted i fast marks → MayVote s old a i fast marks →
      Bounded s.parts share (IsAcceptedIn (votes (facts_of a old) i fast)) → Bounded s.parts share (IsAcceptedIn (votes (f ∷ facts_of a old) i fast))
  Bounded-vote a f old marks tail allowed is may h =
      let vote : IsFastVote s old (facts_of a old) i marks = may.fast_vote refl in
      Bounded-add s.parts share (IsAcceptedIn (votes (facts_of a old) i fast)) (IsAcceptedIn (votes (f ∷ facts_of a old) i fast)) vote.tx vote.mark
      (λ d g same. (let none : mark_of d.tx (votes (facts_of a old) i fast) ≡ None = ap (λ z. mark_of z (votes (facts_of a old) i fast)) same ∙ vote.new fast in absurd (cc)))
      (λ d g. elim (new_vote s all legal i a f old marks is vote d.tx (Accept d) g) [ inl before ↦ inl before | inr now ↦ inr (now.0, sym now.1) ])
      (λ c cs now some distinct among.
      let fit : IsFit s s.parts share old (facts_of a old) (IsAcceptedVote (facts_of a old) i) (IsAcceptedVote (facts_of a old) i) i vote.tx c = vote.fits c now in
      let within : s.parts * (taken cs + q.amount c.update) ≤ share * q.room (base (facts_of a old) i.key) =
      fit.within q listed_q some cs distinct (λ d listed. ((fast, (among d listed).0), may_count s all legal old tail i d (among d listed).1.0 (among d listed).1.1 (among d listed).2)) in
      let room : q.room (base (facts_of a old) i.key) ≡ q.room item = ap q.room (held a old tail fit.held) in
      let all_room : share * q.room (base (facts_of a old) i.key) ≡ share * q.room item = ap (λ z. share * z) room in
      omega arith)
      h

  pub Bounded-votes : (a : ℕ) (old : List Entry) → IsTail old all → Bounded s.parts share (IsAcceptedIn (votes (facts_of a old) i fast))
  Bounded-votes a [] tail = record { bound = λ cs distinct among. nothing_taken cs among }
    where
      nothing_taken : (cs : List Choice) → Among (IsAcceptedIn []) cs → s.parts * taken cs ≤ share * q.room item
      nothing_taken [] among = omega arith
      nothing_taken (c ∷ cs) among = let bad : None ≡ Some (Accept c) = (among c (inl refl)).0 in absurd (cc)
  Bounded-votes a (Begun b t cs ∷ old) tail = Bounded-votes a old (IsTail-drop (Begun b t cs) old all tail)
  Bounded-votes a (Valued b j l sent ∷ old) tail = Bounded-votes a old (IsTail-drop (Valued b j l sent) old all tail)
  Bounded-votes a (Happened b f ∷ old) tail =
      let older : IsTail old all = IsTail-drop (Happened b f) old all tail in
      let before : Bounded s.parts share (IsAcceptedIn (votes (facts_of a old) i fast)) = Bounded-votes a old older in
      let allowed : Allowed s (Happened b f ∷ old) = Allowed-tail s (Happened b f ∷ old) all tail legal in
      elim (cases_Bool (b == a)) [
        | inl e ↦ rw e (elim (marks_at-cases f i fast) [
          | inl here ↦ Bounded-vote a f old here.0 older allowed.0 here.1
              (subst (λ z. MayVote s old z i fast here.0) (eqb-true b a e) (subst (MayHappen s old b) here.1 allowed.1)) before
          | inr other ↦ rw (other, append-none (votes (facts_of a old) i fast)) before
        ])
        | inr e ↦ rw e before
      ]

  -- what is counted of a structure: what it accepts, and what is chosen below its ballot
  abbrev pub Chosen : Ballot → Choice → Type 0
  Chosen m c = (k : Ballot) × Below k m × IsChosen s all i k c.tx (Accept c)

  abbrev pub Counted : Ballot → List (TxId × Mark) → Choice → Type 0
  Counted m marks c = IsAcceptedIn marks c ⊎ Chosen m c

  -- the forced marks of the fast ballot and what is chosen there, by double counting over the votes of all centres
  Counted-all : (old : List Entry) → IsTail old all → Allowed s old → (z : ℕ) (m : Ballot) (marks : List (TxId × Mark)) (first : IsFirst s old z i m marks) →
      top (reports_for s old z i m marks first) ≡ fast →
      s.parts ≤ count first.quorum (centres_to s.centres) → Bounded 1 1 (Counted m first.base)
  Counted-all old tail allowed z m marks first is whole_set = record {
    bound = λ cs distinct among.
        let bs : List ℕ = members first.quorum (centres_to s.centres) in
        let many : length bs ≡ count first.quorum (centres_to s.centres) = length-members first.quorum (centres_to s.centres) in
        let has : ℕ → Choice → Bool = λ a c. gives (votes (facts_of a (first.at_time a)) i fast) c.tx (Accept c) in
        let amount : Choice → ℕ = λ c. q.amount c.update in
        let n : ℕ = s.fast + length bs - s.centres in
        let whole : ℕ = total (λ a. total (λ c. cond (has a c) (amount c) 0) cs) bs in
        -- each of them has so many votes among the members
        let rows : n * taken cs ≤ whole =
        held_totals n amount has cs bs (Each-from (λ c. n ≤ count (λ a. has a c) bs) cs (λ c listed.
        elim (among c listed).0 [
          | inl forced ↦ (let votes_there : s.fast + length bs ≤ s.centres + count (λ a. gives (votes (facts_of a (first.at_time a)) i fast) c.tx (Accept c)) bs =
              forced_votes s old z i m marks first is c.tx (Accept c) forced in omega arith)
          | inr below ↦ (let votes_there : s.fast + length bs ≤ s.centres + count (λ a. gives (votes (facts_of a (first.at_time a)) i fast) c.tx (Accept c)) bs =
              chosen_votes s sizes all legal i below.0 c.tx (Accept c) below.2 old z m marks tail allowed below.1 first is in omega arith)
        ])) in
        -- and each member keeps within its share
        let columns : s.parts * whole ≤ length bs * (share * q.room item) =
        total_bound (λ a. total (λ c. cond (has a c) (amount c) 0) cs) s.parts (share * q.room item) bs (λ a listed.
        let from : IsTail (first.at_time a) all = IsTail-trans (first.at_time a) old all (first.before a (members-in first.quorum a (centres_to s.centres) listed).0) tail in
        let kept_bound : s.parts * taken (kept (has a) cs) ≤ share * q.room item =
        (Bounded-votes a (first.at_time a) from).bound (kept (has a) cs) (Apart-kept (has a) cs distinct)
        (λ c l. (
          (Decides-is_mark (mark_of c.tx (votes (facts_of a (first.at_time a)) i fast)) (Accept c)).0 (In-kept (has a) c cs l).1,
          (among c (In-kept (has a) c cs l).0).1,
          (among c (In-kept (has a) c cs l).0).2,
        )) in
        rw (total-kept amount (has a) cs) kept_bound) in
        let result : taken cs ≤ q.room item =
        room_left s.parts (length bs) share n (s.centres - s.fast) (q.room item) (taken cs) whole
        (omega (arith, whole_set, many))
        (omega (arith, sizes.fast_within, sizes.two_fast, sizes.classic_parts))
        (omega (arith, sizes.fast_within, sizes.two_fast, sizes.classic_parts, whole_set, many))
        (omega (arith, sizes.fast_within, sizes.two_fast, sizes.classic_parts))
        (omega (arith, sizes.two_classic, sizes.classic_parts)) rows columns in
        omega arith;
  }

  -- what is chosen at the fast ballot, by double counting over all centres
  pub chosen_fast : (cs : List Choice) → Apart cs → Among (λ c. IsChosen s all i fast c.tx (Accept c)) cs → taken cs ≤ q.room item
  chosen_fast cs distinct among =
      let as' : List ℕ = centres_to s.centres in
      let has : ℕ → Choice → Bool = λ a c. gives (votes (facts_of a all) i fast) c.tx (Accept c) in
      let amount : Choice → ℕ = λ c. q.amount c.update in
      let whole : ℕ = total (λ a. total (λ c. cond (has a c) (amount c) 0) cs) as' in
      let rows : s.fast * total amount cs ≤ whole =
      held_totals s.fast amount has cs as' (Each-from (λ c. s.fast ≤ count (λ a. has a c) as') cs (λ c listed. (among c listed).0)) in
      let columns : s.parts * whole ≤ length as' * (share * q.room item) =
      total_bound (λ a. total (λ c. cond (has a c) (amount c) 0) cs) s.parts (share * q.room item) as' (λ a listed.
      let kept_bound : s.parts * total amount (kept (has a) cs) ≤ share * q.room item =
      (Bounded-votes a all (IsTail-same all)).bound (kept (has a) cs) (Apart-kept (has a) cs distinct)
      (λ c l. (
        (Decides-is_mark (mark_of c.tx (votes (facts_of a all) i fast)) (Accept c)).0 (In-kept (has a) c cs l).1,
        (among c (In-kept (has a) c cs l).0).1,
        (among c (In-kept (has a) c cs l).0).2,
      )) in
      rw (total-kept amount (has a) cs) kept_bound) in
      room_left s.parts (length as') share s.fast (s.centres - s.fast) (q.room item) (total amount cs) whole
      (omega (arith, length-centres s.centres, sizes.parts_within))
      (omega (arith, sizes.fast_within, sizes.two_fast, sizes.classic_parts))
      (omega (arith, length-centres s.centres, sizes.fast_within))
      (omega (arith, sizes.fast_within, sizes.two_fast, sizes.classic_parts))
      (omega (arith, sizes.two_classic, sizes.classic_parts)) rows columns

  -- a Write takes nothing
  write_takes : (u : Update) → is_add u ≡ false → q.amount u ≡ 0
  write_takes (Write body seen) h = elim listed_q [
    | inl count_them ↦ subst (λ (z : Quantity). z.amount (Write body seen) ≡ 0) (sym count_them) refl
    | inr some ↦ elim some.3 [
      | inl down ↦ subst (λ (z : Quantity). z.amount (Write body seen) ≡ 0) (sym down) refl
      | inr up ↦ subst (λ (z : Quantity). z.amount (Write body seen) ≡ 0) (sym up) refl
    ]
  ]
  write_takes (Add m) h = let bad : true ≡ false = h in absurd (cc)

  adds_only : (cs : List Choice) → taken cs ≡ taken (kept (λ c. is_add c.update) cs)
  adds_only [] = refl
  adds_only (c ∷ cs) =
      elim (cases_Bool (is_add c.update)) [
        | inl e ↦ rw e (omega (arith, adds_only cs))
        | inr e ↦ rw e (omega (arith, adds_only cs, write_takes c.update e))
      ]

  Counted-none : (old : List Entry) → IsTail old all → Allowed s old → (z : ℕ) (m : Ballot) (marks : List (TxId × Mark)) (first : IsFirst s old z i m marks) →
      top (reports_for s old z i m marks first) ≡ fast → ((c : Choice) → IsAcceptedIn first.base c → is_add c.update ≡ false) → Bounded 1 1 (Counted m first.base)
  Counted-none old tail allowed z m marks first is writes = record {
    bound = λ cs distinct among.
        let adds : List Choice = kept (λ c. is_add c.update) cs in
        let less : taken (kept (λ c. is_add c.update) cs) ≤ q.room item =
        chosen_fast (kept (λ c. is_add c.update) cs) (Apart-kept (λ c. is_add c.update) cs distinct) (λ c l.
        let there : In c cs × (is_add c.update ≡ true) = In-kept (λ d. is_add d.update) c cs l in (
          elim (among c there.0).0 [
            | inl forced ↦ absurd (false≢true (sym (writes c forced) ∙ there.1))
            | inr below ↦ subst (λ k. IsChosen s all i k c.tx (Accept c))
                (at_fast_ballot s sizes all legal i below.0 c.tx (Accept c) below.2 old z m marks tail allowed below.1 first is) below.2
          ],
          (among c there.0).1,
          (among c there.0).2,
        )) in
        omega (arith, adds_only cs);
  }

  -- at a leader at which the forced marks fit together: what is chosen is forced, or the leader has executed it
  base_live : (old : List Entry) → IsTail old all → Allowed s old → (z : ℕ) (m : Ballot) (marks : List (TxId × Mark)) (first : IsFirst s old z i m marks) → current (facts_of z old) i.key ≡ i.version →
      (d : Choice) → IsChoice all d → (spot d) ≡ i → (IsAborted s all d.tx → ⊥) → Counted m first.base d → IsLive (facts_of z old) i first.base d
  base_live old tail allowed z m marks first is_held d choice here free counted =
      elim counted [
        | inl accepted ↦ inl accepted
        | inr below ↦
            let known : Safe s sizes all legal i below.0 d.tx (Accept d) below.2 old = safe s sizes all legal i below.0 d.tx (Accept d) below.2 old tail in
            elim (cases_Option (mark_of d.tx first.base)) [
              | inr some ↦
                  let is : some.0 ≡ Accept d = only_base s sizes all legal i below.0 d.tx (Accept d) below.2 old z m marks tail allowed below.1 first known some.0 some.1 in
                  inl (some.1 ∙ ap Some is)
              | inl none ↦ elim (cases_heard (facts_of z old) d.tx) [
                | inr unheard ↦ inl (safe_base s sizes all legal i below.0 d.tx (Accept d) below.2 old z m marks tail allowed below.1 first known (λ every_one. unheard (every_one z first.centre)))
                | inl heard ↦ inr (
                  subst (λ y. Executes (facts_of z old) y d) here (heard_here s all legal old tail allowed z d choice free heard
                      (subst (λ y. current (facts_of z old) y.key ≡ y.version) (sym here) is_held)),
                  (λ x some. let bad : None ≡ Some (Accept x) = sym none ∙ some in cc),
                )
              ]
            ]
      ]

  Counted-fits : (old : List Entry) → IsTail old all → Allowed s old → (z : ℕ) (m : Ballot) (marks : List (TxId × Mark)) (first : IsFirst s old z i m marks) →
      FitsTogether s old z i first.base → Bounded 1 1 (Counted m first.base)
  Counted-fits old tail allowed z m marks first fits = record {
    bound = λ cs distinct among.
        let within : taken cs ≤ q.room (base (facts_of z old) i.key) =
        fits.within q listed_q cs distinct (λ d listed. (
          base_live old tail allowed z m marks first fits.held d (among d listed).1.0 (among d listed).1.1 (among d listed).2 (among d listed).0,
          may_count s all legal old tail i d (among d listed).1.0 (among d listed).1.1 (among d listed).2,
        )) in
        let room : q.room (base (facts_of z old) i.key) ≡ q.room item = ap q.room (held z old tail fits.held) in
        omega arith;
  }

  Counted-fast : (old : List Entry) → IsTail old all → Allowed s old → (z : ℕ) (m : Ballot) (marks : List (TxId × Mark)) (first : IsFirst s old z i m marks) →
      top (reports_for s old z i m marks first) ≡ fast → Bounded 1 1 (Counted m first.base)
  Counted-fast old tail allowed z m marks first is =
      elim first.together [
        | inl every_one ↦ Counted-all old tail allowed z m marks first is every_one
        | inr rest ↦ elim rest [
          | inl writes ↦ Counted-none old tail allowed z m marks first is writes
          | inr fits ↦ Counted-fits old tail allowed z m marks first fits
        ]
      ]

  -- what is counted of the forced marks of a classic ballot is counted there
  Counted-part : (old : List Entry) → IsTail old all → (allowed : Allowed s old) (z : ℕ) (m : Ballot) (marks : List (TxId × Mark)) (first : IsFirst s old z i m marks) →
      Below fast (top (reports_for s old z i m marks first)) → (last : List (TxId × Mark)) →
      last_sent old i (top (reports_for s old z i m marks first)) ≡ Some last → Extends last first.base →
      Bounded 1 1 (Counted (top (reports_for s old z i m marks first)) last) → Bounded 1 1 (Counted m first.base)
  Counted-part old tail allowed z m marks first classic last is extends known =
      Bounded-less 1 1 (Counted m first.base) (Counted (top (reports_for s old z i m marks first)) last)
      (λ c choice here free g. elim g [
        | inl forced ↦ inl (extends c.tx (Accept c) forced)
        | inr below ↦ elim (Below-cases below.0 (top (reports_for s old z i m marks first))) [
          | inl under ↦ inr (below.0, under, below.2)
          | inr rest ↦ elim rest [
            | inl same ↦ inl (chosen_last s sizes all legal i below.0 c.tx (Accept c) below.2 old z m marks tail allowed below.1 first classic same last is)
            | inr over ↦ absurd (chosen_not_over s sizes all legal i below.0 c.tx (Accept c) below.2 old z m marks tail allowed below.1 first over)
          ]
        ]
      ])
      known

  -- while a leader adds marks: what it accepts, and what is chosen below and it has heard
  abbrev Known : List Entry → ℕ → Ballot → List (TxId × Mark) → Choice → Type 0
  Known old z m marks c = IsAcceptedIn marks c ⊎ (HasHeard (facts_of z old) c.tx × Chosen m c)

  -- these are all live at the leader
  known_live : (old : List Entry) → IsTail old all → Allowed s old → (z : ℕ) (m : Ballot) (ps more : List (TxId × Mark)) → IsTail (Valued z i m more ∷ old) all → Extends more ps →
      current (facts_of z old) i.key ≡ i.version → (d : Choice) → IsChoice all d → (spot d) ≡ i → (IsAborted s all d.tx → ⊥) → Known old z m ps d →
      IsLive (facts_of z old) i ps d
  known_live old tail allowed z m ps more sent extends is_held d choice here free known =
      elim known [
        | inl accepted ↦ inl accepted
        | inr heard ↦ elim (cases_Option (mark_of d.tx ps)) [
          | inl none ↦ inr (
            subst (λ y. Executes (facts_of z old) y d) here (heard_here s all legal old tail allowed z d choice free heard.0
                (subst (λ y. current (facts_of z old) y.key ≡ y.version) (sym here) is_held)),
            (λ x some. let bad : None ≡ Some (Accept x) = sym none ∙ some in cc),
          )
          | inr some ↦
              let is : some.0 ≡ Accept d =
              (in_structures s sizes all legal i heard.1.0 m d.tx (Accept d) (Valued z i m more ∷ old) more heard.1.2 heard.1.1 sent (inl (refl, refl, refl))).1 some.0
              (extends d.tx some.0 some.1) in
              inl (some.1 ∙ ap Some is)
        ]
      ]

  step-extends : (p : TxId × Mark) (ps : List (TxId × Mark)) → mark_of p.0 ps ≡ None → Extends (p ∷ ps) ps
  step-extends p ps new t x h =
      elim (cases_Bool (tx_eq t p.0)) [
        | inl e ↦ (let same : t ≡ p.0 = (Decides-tx t p.0).0 e in let some : mark_of p.0 ps ≡ Some x = rw same at h in absurd (cc))
        | inr e ↦ rw e h
      ]

  Known-added : (old : List Entry) → IsTail old all → Allowed s old → (z : ℕ) (m : Ballot) (ps more : List (TxId × Mark)) (t : TxId) (x : Mark) → IsTail (Valued z i m more ∷ old) all → Extends more ps →
      MayAdd s old z i ps t x → Bounded 1 1 (Known old z m ps) → Bounded 1 1 (Known old z m ((t, x) ∷ ps))
  Known-added old tail allowed z m ps more t x sent extends may h =
      Bounded-add 1 1 (Known old z m ps) (Known old z m ((t, x) ∷ ps)) t x
      (λ d known same. elim known [
        | inl accepted ↦ (let none : mark_of d.tx ps ≡ None = ap (λ z. mark_of z ps) same ∙ may.new in absurd (cc))
        | inr heard ↦ may.unheard (subst (λ y. HasHeard (facts_of z old) y) same heard.0)
      ])
      (λ d known. elim known [
        | inl accepted ↦ elim (mark_of-cons s all legal i t d.tx x (Accept d) ps accepted) [ inl before ↦ inl (inl before) | inr now ↦ inr (now.0, sym now.1) ]
        | inr heard ↦ inl (inr heard)
      ])
      (λ c cs is some distinct among.
      let fit : IsFit s 1 1 old (facts_of z old) (IsAcceptedIn ps) (IsLive (facts_of z old) i ps) i t c = may.fits c is in
      let within : 1 * (taken cs + q.amount c.update) ≤ 1 * q.room (base (facts_of z old) i.key) =
      fit.within q listed_q some cs distinct (λ d listed. (
        known_live old tail allowed z m ps more sent extends fit.held d (among d listed).1.0 (among d listed).1.1 (among d listed).2 (among d listed).0,
        may_count s all legal old tail i d (among d listed).1.0 (among d listed).1.1 (among d listed).2,
      )) in
      let room : q.room (base (facts_of z old) i.key) ≡ q.room item = ap q.room (held z old tail fit.held) in
      omega arith)
      h

  Known-same : (old : List Entry) (z : ℕ) (m : Ballot) (less more : List (TxId × Mark)) → ((t : TxId) → mark_of t more ≡ mark_of t less) →
      Bounded 1 1 (Known old z m less) → Bounded 1 1 (Known old z m more)
  Known-same old z m less more same h =
      Bounded-less 1 1 (Known old z m more) (Known old z m less)
      (λ c choice here free known. elim known [ inl accepted ↦ inl (sym (same c.tx) ∙ accepted) | inr heard ↦ inr heard ]) h

  Known-grown : (old : List Entry) → IsTail old all → Allowed s old → (z : ℕ) (m : Ballot) (less : List (TxId × Mark)) (steps : List Step) (ps more : List (TxId × Mark)) →
      IsTail (Valued z i m more ∷ old) all → Extends more ps → Grown s old z i less steps ps → Bounded 1 1 (Known old z m less) → Bounded 1 1 (Known old z m ps)
  Known-grown old tail allowed z m less [] ps more sent extends g h = subst (λ y. Bounded 1 1 (Known old z m y)) g h
  Known-grown old tail allowed z m less (p ∷ steps) ps more sent extends g h =
      let part : Extends more p.before =
      λ t x k. extends t x (g.2.same t ∙ step-extends (p.tx, p.mark) p.before g.1.new t x k) in
      Known-same old z m ((p.tx, p.mark) ∷ p.before) ps g.2.same
      (Known-added old tail allowed z m p.before more p.tx p.mark sent part g.1 (Known-grown old tail allowed z m less steps p.before more sent part g.0 h))

  Counted-sent : (old : List Entry) → Allowed s old → (z : ℕ) (m : Ballot) (less more : List (TxId × Mark)) → IsTail (Valued z i m more ∷ old) all →
      (steps : List Step) → Grown s old z i less steps more → Bounded 1 1 (Counted m less) → Bounded 1 1 (Counted m more)
  Counted-sent old allowed z m less more sent steps g h =
      elim (Grown-less s old z i less steps more g) [
        | inl same ↦ subst (λ y. Bounded 1 1 (Counted m y)) same h
        | inr centre ↦
            let tail : IsTail old all = IsTail-drop (Valued z i m more) old all sent in
            let start : Bounded 1 1 (Known old z m less) = Bounded-less 1 1 (Known old z m less) (Counted m less)
            (λ d choice here free known. elim known [ inl accepted ↦ inl accepted | inr heard ↦ inr heard.1 ]) h in
            let grown : Bounded 1 1 (Known old z m more) = Known-grown old tail allowed z m less steps more more sent (λ t x k. k) g start in
            Bounded-less 1 1 (Counted m more) (Known old z m more)
            (λ d choice here free counted. elim counted [
              | inl accepted ↦ inl accepted
              | inr below ↦ elim (cases_heard (facts_of z old) d.tx) [
                | inl heard ↦ inr (heard, below)
                | inr unheard ↦ inl ((in_structures s sizes all legal i below.0 m d.tx (Accept d) (Valued z i m more ∷ old) more below.2 below.1 sent (inl (refl, refl, refl))).0
                    (λ every_one. unheard (every_one z centre)))
              ]
            ])
            grown
      ]

  pub Counted-structures : (m : Ballot) (marks : List (TxId × Mark)) → WasSent all i m marks → Bounded 1 1 (Counted m marks)
  Counted-structures m marks sent =
      every_sent s all legal i (λ k ps. Bounded 1 1 (Counted k ps)) Counted-part Counted-fast Counted-sent all (IsTail-same all) m marks sent
