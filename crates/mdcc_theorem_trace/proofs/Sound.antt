-- Ledgers with classic ballots keep sound marks.
use Rattle.std.proofs.Common.{List, None, Option, Some, [], ap, inl, inr, not, refl, subst, sym, true, ℕ, ◌&&◌, ◌==◌, ◌||◌, ◌∙◌, ◌∷◌, ◌≡◌}
use Rattle.std.specs.Prelude.{filter_map, is_some}
use Rattle.std.specs.Option.{option_or}
use Rattle.std.proofs.lemmas.Bool.{MatchBool-at_true, and_parts, cases_Bool, or_cases}
use Rattle.mdcc_base.specs.declared.identifiers.Ballot.{Ballot}
use Rattle.mdcc_base.specs.declared.key.Key.{Key}
use Rattle.mdcc_base.specs.AreQuorums.{AreQuorums}
use Rattle.mdcc_base.specs.declared.identifiers.TxId.{TxId}
use Rattle.mdcc_base.specs.Ballot.{ballot_eq, is_fast}
use Rattle.mdcc_base.specs.Key.{key_eq}
use Rattle.mdcc_base.specs.TxId.{tx_eq}
use Rattle.mdcc_option.specs.declared.choices.Mark.TheVariants.{Accept, Reject}
use Rattle.mdcc_option.specs.declared.choices.Choice.{Choice}
use Rattle.mdcc_option.specs.declared.cluster.Cluster.{Cluster}
use Rattle.mdcc_option.specs.declared.choices.Mark.{Mark}
use Rattle.mdcc_struct.specs.declared.options.Options.{Options}
use Rattle.mdcc_struct.specs.Maps.{TxMap, union, value_of}
use Rattle.mdcc_def_protocol.specs.Marks.{options_eq}
use Rattle.mdcc_def_messages.specs.declared.facts.Fact.{Fact}
use Rattle.mdcc_def_protocol.specs.Facts.{is_finished, marks_voted, votes_of, write_set_of_mark, write_sets_from, write_sets_of}
use Rattle.mdcc_def_protocol.specs.Acceptor.{new_marks}
use Rattle.mdcc_def_ledger.specs.Ledger.{Added, Entry, Valued, choices_begun, facts_of}
use Rattle.mdcc_def_ledger.specs.AllowedLedgers.{IsAllowed, is_fast_vote_begun, is_valued, is_valued_as}
use Rattle.mdcc_def_ledger.specs.AllowedStructures.{is_begun, is_own_mark}
use Rattle.mdcc_def_ledger.specs.BootTest.{is_allowed_fast_vote}
use Rattle.mdcc_theorem_trace_states.specs.Words.{In}
use Rattle.mdcc_theorem_trace_states.specs.Sound.{HasOneMark, IsSound, IsSoundMark}
use Rattle.mdcc_theorem_trace_states.specs.VolatileInvariant.{IsOwn}
use Rattle.mdcc_theorem_trace_states.specs.Invariant.{IsPlainEntry}
use Rattle.mdcc_theorem_trace_states.proofs.Lists.{In-filter, In-filter_map}
use Rattle.mdcc_theorem_trace_states.proofs.Maps.{tx-true, value_of-union}
use Rattle.mdcc_theorem_trace_states.proofs.Ledgers.{any-In}
use Rattle.mdcc_theorem_trace_states.proofs.Boots.{kind}
use Rattle.mdcc_theorem_trace_states.proofs.Led.{In-begun-more, IsOwn-more, IsPlaced-more}
use Rattle.mdcc_theorem_trace_states.proofs.Kept.{mark-cases}
use Rattle.mdcc_theorem_trace_rules.proofs.Chains.{HasOnce, is-here, once-at}
use Rattle.mdcc_theorem_trace.proofs.Making.{AllSound}
use Rattle.mdcc_theorem_trace.proofs.Structuring.{IsWell}
use Rattle.mdcc_theorem_trace_rules.proofs.Votings.{IsFastVoteOf, IsMarkOf, fast-parts, mark-parts}
use Rattle.mdcc_theorem_trace_states.proofs.Tests.{Decides-options}
use Rattle.mdcc_theorem_trace_rules.specs.Closed.{HasSet}

pub IsSoundMark-more : (cluster : Cluster) (e : Entry) (es : List Entry) (k : Key) (v : ℕ) (t : TxId) (m : Mark) → IsAllowed cluster (e ∷ es) → IsSoundMark es k v t m → IsSoundMark (e ∷ es) k v t m
IsSoundMark-more cluster e es k v t m legal h = record { placed = IsPlaced-more cluster e es k v t legal h.placed; own = λ c g. IsOwn-more cluster e es k v t c legal (h.own c g) }

abbrev pub SetOf : List Entry → TxId → List (Key × ℕ) → Type 0
SetOf es t ws = (choice : Choice) × (In choice (choices_begun es t)) × (ws ≡ choice.write_set)

SetOf-more : (cluster : Cluster) (e : Entry) (es : List Entry) (t : TxId) (ws : List (Key × ℕ)) → IsAllowed cluster (e ∷ es) → SetOf es t ws → SetOf (e ∷ es) t ws
SetOf-more cluster e es t ws legal h = (h.0, In-begun-more cluster e es t h.0 legal h.1, h.2)

-- a mark that accepts, of a vote that is begun
own-begun : (es : List Entry) (k : Key) (v : ℕ) (t : TxId) (c : Choice) → is_fast_vote_begun es k v ((t, Accept c) ∷ []) None ≡ true → is_begun es c ≡ true
own-begun es k v t c h = (and_parts (tx_eq c.tx t && c.version == v && key_eq c.key k) (is_begun es c) (and_parts (is_own_mark es k v (t, Accept c)) true h).0).1

set-one : (es : List Entry) (u t : TxId) (c : Choice) (ws : List (Key × ℕ)) → is_begun es c ≡ true → c.tx ≡ u → value_of ((u, c.write_set) ∷ []) t ≡ Some ws → HasSet es t ws
set-one es u t c ws begun own h =
    elim (cases_Bool (tx_eq u t)) [
      | inl e ↦ let s : Some c.write_set ≡ Some ws = rw e at h in
          record { choice = c; begun = subst (λ z. In c (choices_begun es z)) (own ∙ tx-true u t e) (any-In c (choices_begun es c.tx) begun); same = cc }
      | inr e ↦ let bad : None ≡ Some ws = rw e at h in absurd (cc)
    ]

pub set-voted : (cluster : Cluster) (es : List Entry) (facts : List Fact) (k : Key) (v : ℕ) (b : Ballot) (os : Options) (off : Option Choice) (t : TxId) (ws : List (Key × ℕ)) → IsFastVoteOf cluster facts k v os off → is_fast_vote_begun es k v os off ≡ true →
    value_of (write_sets_from (Fact.Voted k v b os off)) t ≡ Some ws → HasSet es t ws
set-voted cluster es facts k v b os off t ws r begun h =
    let p = mark-parts cluster facts k v r.tx r.mark r.choice r.allowed in
    elim r.on [
      | inl g ↦
          let s : os ≡ (r.tx, Accept r.choice) ∷ [] = r.only ∙ ap (λ (z : Mark). (r.tx, z) ∷ []) g.0 in
          let h1 : value_of (write_sets_from (Fact.Voted k v b ((r.tx, Accept r.choice) ∷ []) None)) t ≡ Some ws =
          subst (λ z. value_of (write_sets_from (Fact.Voted k v b z None)) t ≡ Some ws) s (subst (λ z. value_of (write_sets_from (Fact.Voted k v b os z)) t ≡ Some ws) g.1 h) in
          let b1 : is_fast_vote_begun es k v ((r.tx, Accept r.choice) ∷ []) None ≡ true = subst (λ z. is_fast_vote_begun es k v z None ≡ true) s (subst (λ z. is_fast_vote_begun es k v os z ≡ true) g.1 begun) in
          set-one es r.tx t r.choice ws (own-begun es k v r.tx r.choice b1) p.tx h1
      | inr g ↦
          let s : os ≡ (r.tx, Reject) ∷ [] = r.only ∙ ap (λ (z : Mark). (r.tx, z) ∷ []) g.0 in
          let h1 : value_of (write_sets_from (Fact.Voted k v b ((r.tx, Reject) ∷ []) (Some r.choice))) t ≡ Some ws =
          subst (λ z. value_of (write_sets_from (Fact.Voted k v b z (Some r.choice))) t ≡ Some ws) s (subst (λ z. value_of (write_sets_from (Fact.Voted k v b os z)) t ≡ Some ws) g.1 h) in
          let b1 : is_fast_vote_begun es k v os (Some r.choice) ≡ true = subst (λ z. is_fast_vote_begun es k v os z ≡ true) g.1 begun in
          set-one es r.choice.tx t r.choice ws b1 refl h1
    ]

-- a fact that is added, with sound marks and write sets
fact-sound : (cluster : Cluster) (c : ℕ) (f : Fact) (es : List Entry) → IsAllowed cluster (Added c f ∷ es) → IsSound es → ((k : Key) (v : ℕ) (b : Ballot) (t : TxId) (m : Mark) → value_of (marks_voted k v b f) t ≡ Some m → IsSoundMark es k v t m) →
    ((t : TxId) (ws : List (Key × ℕ)) → value_of (write_sets_from f) t ≡ Some ws → SetOf es t ws) → IsSound (Added c f ∷ es)
fact-sound cluster c f es legal h new sets = record {
  votes = λ k v b t a m g. elim (mark-cases c f es k v b t a m g) [
    | inl old ↦ IsSoundMark-more cluster (Added c f) es k v t m legal (h.votes k v b t a m old)
    | inr own ↦ IsSoundMark-more cluster (Added c f) es k v t m legal (new k v b t m own.1)
  ];
  structures = λ k v b os g t m i. IsSoundMark-more cluster (Added c f) es k v t m legal (h.structures k v b os g t m i);
  sets = λ a t ws g. set a t ws g;
}
  where
    set : (a : ℕ) (t : TxId) (ws : List (Key × ℕ)) → value_of (write_sets_of (facts_of (Added c f ∷ es) a)) t ≡ Some ws → SetOf (Added c f ∷ es) t ws
    set a t ws g =
        elim (cases_Bool (c == a)) [
          | inl e ↦ let i : value_of (union (write_sets_of (facts_of es a)) (write_sets_from f)) t ≡ Some ws = rw e at g in
              by_case (value_of (write_sets_of (facts_of es a)) t) refl (sym (value_of-union (write_sets_of (facts_of es a)) (write_sets_from f) t) ∙ i)
          | inr e ↦ let i : value_of (write_sets_of (facts_of es a)) t ≡ Some ws = rw e at g in SetOf-more cluster (Added c f) es t ws legal (h.sets a t ws i)
        ]
      where
        by_case : (o : Option (List (Key × ℕ))) → value_of (write_sets_of (facts_of es a)) t ≡ o → option_or (value_of (write_sets_of (facts_of es a)) t) (value_of (write_sets_from f) t) ≡ Some ws → SetOf (Added c f ∷ es) t ws
        by_case None e i = let j : value_of (write_sets_from f) t ≡ Some ws = rw e at i in SetOf-more cluster (Added c f) es t ws legal (sets t ws j)
        by_case (Some y) e i = let j : Some y ≡ Some ws = rw e at i in SetOf-more cluster (Added c f) es t ws legal (h.sets a t ws (e ∙ j))

-- the marks of a vote, element by element
voted-marks : (es : List Entry) (j : Key) (w : ℕ) (n : Ballot) (os : Options) (off : Option Choice) → ((t : TxId) (m : Mark) → value_of os t ≡ Some m → IsSoundMark es j w t m) →
    (k : Key) (v : ℕ) (b : Ballot) (t : TxId) (m : Mark) → value_of (marks_voted k v b (Fact.Voted j w n os off)) t ≡ Some m → IsSoundMark es k v t m
voted-marks es j w n os off h k v b t m g =
    elim (cases_Bool (w == v && ballot_eq n b && key_eq j k)) [
      | inl e ↦
          let p = is-here k v b j w n e in
          let i : value_of os t ≡ Some m = rw e at g in
          subst (λ z. IsSoundMark es z v t m) p.key (subst (λ z. IsSoundMark es j z t m) p.version (h t m i))
      | inr e ↦ let bad : None ≡ Some m = rw e at g in absurd (cc)
    ]

value-in : {X : Type 0} (os : TxMap X) (t : TxId) (x : X) → value_of os t ≡ Some x → (e : TxId × X) × (In e os) × (e.0 ≡ t) × (e.1 ≡ x)
value-in [] t x g = absurd (cc)
value-in (e ∷ os) t x g =
    elim (cases_Bool (tx_eq e.0 t)) [
      | inl n ↦ let s : Some e.1 ≡ Some x = rw n at g in (e, inl refl, tx-true e.0 t n, cc)
      | inr n ↦ let i : value_of os t ≡ Some x = rw n at g in let r = value-in os t x i in (r.0, inr r.1, r.2, r.3)
    ]

fast-sound : (cluster : Cluster) (c : ℕ) (k : Key) (v : ℕ) (b : Ballot) (os : Options) (off : Option Choice) (es : List Entry) → IsAllowed cluster (Added c (Fact.Voted k v b os off) ∷ es) → is_fast b ≡ true → IsSound es → IsSound (Added c (Fact.Voted k v b os off) ∷ es)
fast-sound cluster c k v b os off es legal fast h =
    fact-sound cluster c (Fact.Voted k v b os off) es legal h (voted-marks es k v b os off mark) (λ t ws g. let s = set-voted cluster es (facts_of es c) k v b os off t ws r begun g in (s.choice, s.begun, s.same))
  where
    test : is_allowed_fast_vote cluster (facts_of es c) k v os off ≡ true
    test = let t = kind cluster es c (Fact.Voted k v b os off) legal in rw fast at t

    r : IsFastVoteOf cluster (facts_of es c) k v os off
    r = fast-parts cluster (facts_of es c) k v os off test

    begun : is_fast_vote_begun es k v os off ≡ true
    begun = MatchBool-at_true _ _ fast legal.1.2

    p : IsMarkOf cluster (facts_of es c) k v r.tx r.mark r.choice
    p = mark-parts cluster (facts_of es c) k v r.tx r.mark r.choice r.allowed

    is : is_begun es r.choice ≡ true
    is = elim r.on [
      | inl g ↦ let x : is_fast_vote_begun es k v ((r.tx, Accept r.choice) ∷ []) None ≡ true =
          subst (λ z. is_fast_vote_begun es k v z None ≡ true) (r.only ∙ ap (λ (z : Mark). (r.tx, z) ∷ []) g.0) (subst (λ z. is_fast_vote_begun es k v os z ≡ true) g.1 begun) in own-begun es k v r.tx r.choice x
      | inr g ↦ subst (λ z. is_fast_vote_begun es k v os z ≡ true) g.1 begun
    ]

    in-begun : In r.choice (choices_begun es r.tx)
    in-begun = subst (λ z. In r.choice (choices_begun es z)) p.tx (any-In r.choice (choices_begun es r.choice.tx) is)

    one : IsSoundMark es k v r.tx r.mark
    one = record {
      placed = record { choice = r.choice; begun = in-begun; key_is = p.key; version_is = p.version };
      own = λ d g. elim r.on [
        | inl q ↦ let s : Accept r.choice ≡ Accept d = sym q.0 ∙ g in
            let e : r.choice ≡ d = cc in subst (λ z. IsOwn es k v r.tx z) e (record { begun = in-begun; key_is = p.key; version_is = p.version })
        | inr q ↦ let bad : Reject ≡ Accept d = sym q.0 ∙ g in absurd (cc)
      ];
    }

    mark : (t : TxId) (m : Mark) → value_of os t ≡ Some m → IsSoundMark es k v t m
    mark t m g =
        let i : value_of ((r.tx, r.mark) ∷ []) t ≡ Some m = subst (λ z. value_of z t ≡ Some m) r.only g in
        elim (cases_Bool (tx_eq r.tx t)) [
          | inl e ↦ let s : Some r.mark ≡ Some m = rw e at i in
              let n : r.mark ≡ m = cc in subst (λ z. IsSoundMark es k v z m) (tx-true r.tx t e) (subst (λ z. IsSoundMark es k v r.tx z) n one)
          | inr e ↦ let bad : None ≡ Some m = rw e at i in absurd (cc)
        ]

-- a classic vote on the new marks of a sound structure
pub classic-sound : (cluster : Cluster) (c : ℕ) (k : Key) (v : ℕ) (b : Ballot) (xs : Options) (es : List Entry) → IsAllowed cluster (Added c (Fact.Voted k v b (new_marks (facts_of es c) k v b xs) None) ∷ es) → HasOnce xs → AllSound es k v xs → IsSound es →
    IsSound (Added c (Fact.Voted k v b (new_marks (facts_of es c) k v b xs) None) ∷ es)
classic-sound cluster c k v b xs es legal once sound h =
    fact-sound cluster c (Fact.Voted k v b (new_marks (facts_of es c) k v b xs) None) es legal h (voted-marks es k v b (new_marks (facts_of es c) k v b xs) None mark) set
  where
    each : (e : TxId × Mark) → In e (new_marks (facts_of es c) k v b xs) → IsSoundMark es k v e.0 e.1
    each e i = sound e.0 e.1 (once-at xs e once (In-filter (λ (e : TxId × Mark). not (is_some (value_of (votes_of (facts_of es c) k v b) e.0) || is_finished (facts_of es c) e.0)) xs e i).0)

    mark : (t : TxId) (m : Mark) → value_of (new_marks (facts_of es c) k v b xs) t ≡ Some m → IsSoundMark es k v t m
    mark t m g = let r = value-in (new_marks (facts_of es c) k v b xs) t m g in subst (λ z. IsSoundMark es k v z m) r.2 (subst (λ z. IsSoundMark es k v r.0.0 z) r.3 (each r.0 r.1))

    set : (t : TxId) (ws : List (Key × ℕ)) → value_of (filter_map write_set_of_mark (new_marks (facts_of es c) k v b xs)) t ≡ Some ws → SetOf es t ws
    set t ws g =
        let r = value-in (filter_map write_set_of_mark (new_marks (facts_of es c) k v b xs)) t ws g in
        let x = In-filter_map write_set_of_mark (new_marks (facts_of es c) k v b xs) r.0 r.1 in
        by_mark x.0 (each x.0 x.1) x.0.1 refl r.0 x.2 r.2 r.3
      where
        by_mark : (e : TxId × Mark) → IsSoundMark es k v e.0 e.1 → (m : Mark) → e.1 ≡ m → (y : TxId × List (Key × ℕ)) → write_set_of_mark e ≡ Some y → y.0 ≡ t → y.1 ≡ ws → SetOf es t ws
        by_mark e s Reject q y i p w = let bad : ◌≡◌ {A = Option (TxId × List (Key × ℕ))} None (Some y) = rw q at i in absurd (cc)
        by_mark e s (Accept d) q y i p w =
            let j : ◌≡◌ {A = Option (TxId × List (Key × ℕ))} (Some (e.0, d.write_set)) (Some y) = rw q at i in
            let l : ◌≡◌ {A = TxId × List (Key × ℕ)} (e.0, d.write_set) y = cc in
            let u : e.0 ≡ t = ap (λ (z : TxId × List (Key × ℕ)). z.0) l ∙ p in
            let n : d.write_set ≡ ws = ap (λ (z : TxId × List (Key × ℕ)). z.1) l ∙ w in
            (d, subst (λ z. In d (choices_begun es z)) u (s.own d q).begun, sym n)

plain-sound : (cluster : Cluster) (e : Entry) (es : List Entry) → IsAllowed cluster (e ∷ es) → IsPlainEntry e → IsSound es → IsSound (e ∷ es)
plain-sound cluster (Valued c k v b os) es legal p h = absurd p
plain-sound cluster (Entry.Begun c u cs) es legal p h = record {
  votes = λ k v b t a m g. IsSoundMark-more cluster (Entry.Begun c u cs) es k v t m legal (h.votes k v b t a m g);
  structures = λ k v b os g t m i. IsSoundMark-more cluster (Entry.Begun c u cs) es k v t m legal (h.structures k v b os g t m i);
  sets = λ a t ws g. SetOf-more cluster (Entry.Begun c u cs) es t ws legal (h.sets a t ws g);
}
plain-sound cluster (Added c (Fact.Booted n)) es legal p h = fact-sound cluster c (Fact.Booted n) es legal h (λ k v b t m g. absurd (cc)) (λ t ws g. absurd (cc))
plain-sound cluster (Added c (Fact.Promised j lo hi m)) es legal p h = fact-sound cluster c (Fact.Promised j lo hi m) es legal h (λ k v b t m g. absurd (cc)) (λ t ws g. absurd (cc))
plain-sound cluster (Added c (Fact.Heard u o)) es legal p h = fact-sound cluster c (Fact.Heard u o) es legal h (λ k v b t m g. absurd (cc)) (λ t ws g. absurd (cc))
plain-sound cluster (Added c (Fact.Floor origin era upto)) es legal p h = fact-sound cluster c (Fact.Floor origin era upto) es legal h (λ k v b t m g. absurd (cc)) (λ t ws g. absurd (cc))
plain-sound cluster (Added c (Fact.Adopted j w it ds)) es legal p h = fact-sound cluster c (Fact.Adopted j w it ds) es legal h (λ k v b t m g. absurd (cc)) (λ t ws g. absurd (cc))
plain-sound cluster (Added c (Fact.Voted k v b os off)) es legal p h = fast-sound cluster c k v b os off es legal p h

valued-sound : (cluster : Cluster) (es : List Entry) (c : ℕ) (k : Key) (v : ℕ) (b : Ballot) (os : Options) → IsAllowed cluster (Valued c k v b os ∷ es) → AllSound es k v os → IsSound es → IsSound (Valued c k v b os ∷ es)
valued-sound cluster es c j w n os legal sound h = record {
  votes = λ k v b t a m g. IsSoundMark-more cluster (Valued c j w n os) es k v t m legal (h.votes k v b t a m g);
  structures = λ k v b xs g t m i. IsSoundMark-more cluster (Valued c j w n os) es k v t m legal (elim (or_cases (is_valued_as k v b xs (Valued c j w n os)) (is_valued es k v b xs) g) [
    | inl e ↦
        let q = and_parts (w == v && ballot_eq n b && key_eq j k) (options_eq os xs) e in
        let p = is-here k v b j w n q.0 in
        let s : os ≡ xs = (Decides-options os xs).0 q.1 in
        subst (λ z. IsSoundMark es z v t m) p.key (subst (λ z. IsSoundMark es j z t m) p.version (sound t m (subst (λ z. value_of z t ≡ Some m) (sym s) i)))
    | inr e ↦ h.structures k v b xs e t m i
  ]);
  sets = λ a t ws g. SetOf-more cluster (Valued c j w n os) es t ws legal (h.sets a t ws g);
}

-- where ledgers with sound marks have one mark, they are well
pub sound-well : ((cluster : Cluster) (es : List Entry) → AreQuorums cluster.quorums → IsAllowed cluster es → IsSound es → HasOneMark cluster.quorums es) → IsWell IsSound
sound-well law = record {
  shut = record {
    none = record { votes = λ k v b t a m g. absurd (cc); structures = λ k v b os g t m i. absurd (cc); sets = λ a t ws g. absurd (cc) };
    more = plain-sound;
    sets = λ cluster es a t ws legal h g. let s = h.sets a t ws g in record { choice = s.0; begun = s.1; same = s.2 };
    one = law;
  };
  sound = λ es h. h;
  valued = valued-sound;
}
