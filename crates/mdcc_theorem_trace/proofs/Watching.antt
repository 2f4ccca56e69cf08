-- The second half of a tick is good with classic ballots: the claims of watched transactions.
use Rattle.std.proofs.Common.{List, None, Option, Some, [], ap, cond, false, inl, inr, not, refl, subst, sym, true, ℕ, ◌&&◌, ◌==◌, ◌∙◌, ◌∷◌, ◌≡◌, ◌⊎◌}
use Rattle.std.specs.Prelude.{filter_map, fold, is_some, map, option_and_then}
use Rattle.std.specs.List.{reduce}
use Rattle.std.specs.Option.{option_or}
use Rattle.std.proofs.lemmas.Bool.{MatchBool-at_true, and_from, and_parts, cases_Bool, eq-eqb, eqb-true}
use Rattle.mdcc_base.specs.declared.identifiers.Ballot.{Ballot}
use Rattle.mdcc_base.specs.declared.key.Key.{Key}
use Rattle.mdcc_base.specs.declared.identifiers.TxId.{TxId}
use Rattle.mdcc_base.specs.Ballot.{ballot_eq, is_fast}
use Rattle.mdcc_base.specs.Key.{key_eq}
use Rattle.mdcc_base.specs.TxId.{tx_eq}
use Rattle.mdcc_option.specs.declared.choices.Mark.TheVariants.{Accept, Reject}
use Rattle.mdcc_option.specs.declared.choices.Choice.{Choice}
use Rattle.mdcc_option.specs.declared.cluster.Cluster.{Cluster}
use Rattle.mdcc_option.specs.declared.choices.Mark.{Mark}
use Rattle.mdcc_option.specs.declared.items.Part.{Part}
use Rattle.mdcc_option.specs.Transaction.{choice_of_part, choices_of}
use Rattle.mdcc_struct.specs.Maps.{value_of}
use Rattle.mdcc_def_protocol.specs.Marks.{choice_in}
use Rattle.mdcc_def_messages.specs.declared.facts.Fact.{Fact}
use Rattle.mdcc_def_protocol.specs.Facts.{choice_known, choice_of_tx, choice_voted, first_choice_voted, is_forgotten, marks_voted, votes_of}
use Rattle.mdcc_def_ledger.specs.Ledger.{Added, Entry, Valued, choices_begun, facts_of, mark_given}
use Rattle.mdcc_def_ledger.specs.AllowedLedgers.{IsAllowed, is_fast_vote_begun, part_in}
use Rattle.mdcc_def_ledger.specs.AllowedStructures.{is_begun}
use Rattle.mdcc_def_ledger.specs.BootTest.{is_allowed_classic_vote, is_allowed_fast_vote, is_allowed_kind}
use Rattle.mdcc_def_protocol.specs.Learner.{votes_on}
use Rattle.mdcc_def_protocol.specs.Recover.{choice_accepted, choice_received}
use Rattle.mdcc_def_protocol.specs.declared.votes.Vote.{Vote}
use Rattle.mdcc_theorem_trace_states.specs.Words.{In}
use Rattle.mdcc_theorem_trace_states.specs.VolatileInvariant.{AreVotes, IsGiven, IsOwn, IsPlaced}
use Rattle.mdcc_theorem_trace_states.specs.Sound.{IsSound}
use Rattle.mdcc_theorem_trace_states.proofs.Tests.{Decides-ballot, Decides-key}
use Rattle.mdcc_theorem_trace_states.proofs.Lists.{Each-at, In-filter, In-filter_map}
use Rattle.mdcc_theorem_trace_states.proofs.Maps.{tx-true, value_of-union}
use Rattle.mdcc_theorem_trace_states.proofs.Boots.{kind}
use Rattle.mdcc_theorem_trace_states.proofs.Ledgers.{any-In, mark-more}
use Rattle.mdcc_theorem_trace_states.proofs.Led.{IsOwn-more}
use Rattle.mdcc_theorem_trace_rules.proofs.Deciding.{begun-made}
use Rattle.mdcc_theorem_trace_rules.proofs.Votings.{fast-parts, mark-parts, votes-new}
use Rattle.mdcc_theorem_trace_rules.specs.Closed.{HasSet}

-- ---- the key of a write set has a choice

set-place : (t : TxId) (ps : List Part) (ws : List (Key × ℕ)) (e : Key × ℕ) → In e (map (λ (part : Part). (part.key, part.version)) ps) →
    (c : Choice) × (In c (map (choice_of_part t ws) ps)) × (c.key ≡ e.0) × (c.version ≡ e.1)
set-place t [] ws e i = absurd i
set-place t (p ∷ ps) ws e i =
    elim i [
      | inl s ↦ (record { tx = t; key = p.key; version = p.version; update = p.update; write_set = ws }, inl refl, ap (λ (z : Key × ℕ). z.0) (sym s), ap (λ (z : Key × ℕ). z.1) (sym s))
      | inr r ↦ let x = set-place t ps ws e r in (x.0, inr x.1, x.2, x.3)
    ]

set-write : (t : TxId) (ps : List Part) (ws : List (Key × ℕ)) (c : Choice) → In c (map (choice_of_part t ws) ps) → c.write_set ≡ ws
set-write t [] ws c i = absurd i
set-write t (p ∷ ps) ws c i = elim i [ inl s ↦ ap (λ (z : Choice). z.write_set) s | inr r ↦ set-write t ps ws c r ]

pub placed-key : (cluster : Cluster) (es : List Entry) (t : TxId) (ws : List (Key × ℕ)) (e : Key × ℕ) → IsAllowed cluster es → HasSet es t ws → In e ws → IsPlaced es e.0 e.1 t
placed-key cluster es t ws e legal h i =
    record { choice = r.0; begun = subst (λ z. In r.0 z) (sym same) r.1; key_is = r.2; version_is = r.3 }
  where
    same : choices_begun es t ≡ choices_of t (map part_in (choices_begun es t))
    same = begun-made cluster es t legal

    set : List (Key × ℕ)
    set = map (λ (part : Part). (part.key, part.version)) (map part_in (choices_begun es t))

    is : ws ≡ set
    is = h.same ∙ set-write t (map part_in (choices_begun es t)) set h.choice (subst (λ z. In h.choice z) same h.begun)

    r : (c : Choice) × (In c (choices_of t (map part_in (choices_begun es t)))) × (c.key ≡ e.0) × (c.version ≡ e.1)
    r = set-place t (map part_in (choices_begun es t)) set e (subst (λ z. In e z) is i)

-- ---- the choice of a claim

-- by its own votes: a mark that is given, or an offered choice
choice-first : (cluster : Cluster) (es : List Entry) (a : ℕ) (k : Key) (v : ℕ) (t : TxId) (c : Choice) → IsAllowed cluster es → first_choice_voted (facts_of es a) k v t ≡ Some c →
    ((b : Ballot) × (mark_given es k v b t a ≡ Some (Accept c))) ⊎ IsOwn es k v t c
choice-first cluster [] a k v t c legal h = absurd (cc)
choice-first cluster (Entry.Begun d u cs ∷ es) a k v t c legal h = elim (choice-first cluster es a k v t c legal.0 h) [ inl g ↦ inl g | inr g ↦ inr (IsOwn-more cluster (Entry.Begun d u cs) es k v t c legal g) ]
choice-first cluster (Valued d j w m os ∷ es) a k v t c legal h = elim (choice-first cluster es a k v t c legal.0 h) [ inl g ↦ inl g | inr g ↦ inr (IsOwn-more cluster (Valued d j w m os) es k v t c legal g) ]
choice-first cluster (Added d f ∷ es) a k v t c legal h =
    elim (cases_Bool (d == a)) [
      | inl e ↦ let g : option_or (first_choice_voted (facts_of es a) k v t) (choice_voted k v t f) ≡ Some c = rw e at h in by_case (eqb-true d a e) (λ i. older (choice-first cluster es a k v t c legal.0 i)) (first_choice_voted (facts_of es a) k v t) refl g
      | inr e ↦ older (choice-first cluster es a k v t c legal.0 (rw e at h))
    ]
  where
    older : ((b : Ballot) × (mark_given es k v b t a ≡ Some (Accept c))) ⊎ IsOwn es k v t c → ((b : Ballot) × (mark_given (Added d f ∷ es) k v b t a ≡ Some (Accept c))) ⊎ IsOwn (Added d f ∷ es) k v t c
    older r = elim r [ inl g ↦ inl (g.0, mark-more (Added d f) es k v g.0 t a (Accept c) g.1) | inr g ↦ inr (IsOwn-more cluster (Added d f) es k v t c legal g) ]

    new : (f : Fact) → IsAllowed cluster (Added d f ∷ es) → d ≡ a → choice_voted k v t f ≡ Some c → ((b : Ballot) × (mark_given (Added d f ∷ es) k v b t a ≡ Some (Accept c))) ⊎ IsOwn (Added d f ∷ es) k v t c
    new (Fact.Booted n) l s g = absurd (cc)
    new (Fact.Promised j lo hi m) l s g = absurd (cc)
    new (Fact.Heard u o) l s g = absurd (cc)
    new (Fact.Floor origin era upto) l s g = absurd (cc)
    new (Fact.Adopted j w it ds) l s g = absurd (cc)
    new (Fact.Voted j w m os off) l s g =
        elim (cases_Bool (w == v && key_eq j k)) [
          | inl e ↦
              let p = and_parts (w == v) (key_eq j k) e in
              let i : option_or (option_and_then choice_in (value_of os t)) (option_and_then (choice_of_tx t) off) ≡ Some c = rw e at g in
              voted (value_of os t) refl off refl (eqb-true w v p.0) ((Decides-key j k).0 p.1) i
          | inr e ↦ let bad : None ≡ Some c = rw e at g in absurd (cc)
        ]
      where
        given : value_of os t ≡ Some (Accept c) → w ≡ v → j ≡ k → mark_given (Added d (Fact.Voted j w m os off) ∷ es) k v m t a ≡ Some (Accept c)
        given o p q =
            let fresh = votes-new cluster es d j w m os off t (Accept c) l o in
            let none : value_of (votes_of (facts_of es a) k v m) t ≡ None =
            subst (λ z. value_of (votes_of (facts_of es a) k z m) t ≡ None) p (subst (λ z. value_of (votes_of (facts_of es a) z w m) t ≡ None) q (subst (λ z. value_of (votes_of (facts_of es z) j w m) t ≡ None) s fresh)) in
            let here : (d == a) ≡ true = eq-eqb d a s in
            let test : (w == v && ballot_eq m m && key_eq j k) ≡ true = and_from _ _ (and_from _ _ (eq-eqb w v p) ((Decides-ballot m m).1 refl)) ((Decides-key j k).1 q) in
            rw here (value_of-union (votes_of (facts_of es a) k v m) (marks_voted k v m (Fact.Voted j w m os off)) t ∙ (rw none (rw test o)))

        offered : (x : Choice) → off ≡ Some x → tx_eq x.tx t ≡ true → x ≡ c → w ≡ v → j ≡ k → IsOwn (Added d (Fact.Voted j w m os off) ∷ es) k v t c
        offered x o y e p q =
            IsOwn-more cluster (Added d (Fact.Voted j w m os off)) es k v t c l
            (elim (cases_Bool (is_fast m)) [
              | inl n ↦
                  let test = kind cluster es d (Fact.Voted j w m os off) l in
                  let fast : is_allowed_fast_vote cluster (facts_of es d) j w os off ≡ true = rw n at test in
                  let r = fast-parts cluster (facts_of es d) j w os off fast in
                  let begun : is_fast_vote_begun es j w os off ≡ true = MatchBool-at_true _ _ n l.1.2 in
                  let z = mark-parts cluster (facts_of es d) j w r.tx r.mark r.choice r.allowed in
                  elim r.on [
                    | inl u ↦ let bad : None ≡ Some x = sym u.1 ∙ o in absurd (cc)
                    | inr u ↦
                        let same : Some r.choice ≡ Some x = sym u.1 ∙ o in
                        let rx : r.choice ≡ x = cc in
                        let b : is_begun es x ≡ true = subst (λ q. is_fast_vote_begun es j w os q ≡ true) o begun in
                        let xk : x.key ≡ k = ap (λ (q : Choice). q.key) (sym rx) ∙ (z.key ∙ q) in
                        let xv : x.version ≡ v = ap (λ (q : Choice). q.version) (sym rx) ∙ (z.version ∙ p) in
                        let xi : In x (choices_begun es t) = subst (λ q. In x (choices_begun es q)) (tx-true x.tx t y) (any-In x (choices_begun es x.tx) b) in
                        subst (λ q. IsOwn es k v t q) e (record { begun = xi; key_is = xk; version_is = xv })
                  ]
              | inr n ↦
                  let test = kind cluster es d (Fact.Voted j w m os off) l in
                  absurd (classic n test x o)
            ])
          where
            classic : is_fast m ≡ false → is_allowed_kind cluster (facts_of es d) (Fact.Voted j w m os off) ≡ true → (x : Choice) → off ≡ Some x → ⊥
            classic n test x o =
                let g : is_allowed_classic_vote (facts_of es d) j w m os off ≡ true = rw n at test in
                let r = (and_parts _ (not (is_some off)) g).1 in
                let bad : not (is_some (Some x)) ≡ true = subst (λ z. not (is_some z) ≡ true) o r in cc

        voted : (o : Option Mark) → value_of os t ≡ o → (n : Option Choice) → off ≡ n → w ≡ v → j ≡ k → option_or (option_and_then choice_in o) (option_and_then (choice_of_tx t) n) ≡ Some c →
            ((b : Ballot) × (mark_given (Added d (Fact.Voted j w m os off) ∷ es) k v b t a ≡ Some (Accept c))) ⊎ IsOwn (Added d (Fact.Voted j w m os off) ∷ es) k v t c
        voted (Some (Accept x)) o n y p q i = let e : x ≡ c = cc in inl (m, given (o ∙ ap (λ z. Some (Accept z)) e) p q)
        voted (Some Reject) o (Some x) y p q i = inr (off-choice x y p q i)
          where
            off-choice : (x : Choice) → off ≡ Some x → w ≡ v → j ≡ k → cond (tx_eq x.tx t) (Some x) None ≡ Some c → IsOwn (Added d (Fact.Voted j w m os off) ∷ es) k v t c
            off-choice x y p q i = elim (cases_Bool (tx_eq x.tx t)) [ inl u ↦ let s : Some x ≡ Some c = rw u at i in offered x y u (cc) p q | inr u ↦ let bad : None ≡ Some c = rw u at i in absurd (cc) ]
        voted (Some Reject) o None y p q i = absurd (cc)
        voted None o (Some x) y p q i = inr (elim (cases_Bool (tx_eq x.tx t)) [ inl u ↦ let s : Some x ≡ Some c = rw u at i in offered x y u (cc) p q | inr u ↦ let bad : None ≡ Some c = rw u at i in absurd (cc) ])
        voted None o None y p q i = absurd (cc)

    by_case : d ≡ a → (first_choice_voted (facts_of es a) k v t ≡ Some c → ((b : Ballot) × (mark_given (Added d f ∷ es) k v b t a ≡ Some (Accept c))) ⊎ IsOwn (Added d f ∷ es) k v t c) → (o : Option Choice) → first_choice_voted (facts_of es a) k v t ≡ o →
        option_or o (choice_voted k v t f) ≡ Some c → ((b : Ballot) × (mark_given (Added d f ∷ es) k v b t a ≡ Some (Accept c))) ⊎ IsOwn (Added d f ∷ es) k v t c
    by_case s rest None e g = new f legal s g
    by_case s rest (Some x) e g = rest (e ∙ g)

known-first : (fs : List Fact) (k : Key) (v : ℕ) (t : TxId) (c : Choice) → choice_known fs k v t ≡ Some c → first_choice_voted fs k v t ≡ Some c
known-first fs k v t c h =
    elim (cases_Bool (is_forgotten fs k v t)) [
      | inl e ↦ let bad : None ≡ Some c = rw e at h in absurd (cc)
      | inr e ↦ let is : first_choice_voted fs k v t ≡ Some c = rw e at h in is
    ]

pub own-choice : (cluster : Cluster) (es : List Entry) (a : ℕ) (k : Key) (v : ℕ) (t : TxId) (c : Choice) → IsAllowed cluster es → IsSound es → choice_known (facts_of es a) k v t ≡ Some c → IsOwn es k v t c
own-choice cluster es a k v t c legal sound h = elim (choice-first cluster es a k v t c legal (known-first (facts_of es a) k v t c h)) [ inl g ↦ (sound.votes k v g.0 t a (Accept c) g.1).own c refl | inr g ↦ g ]

-- by a vote that was received
received-in : (xs : List Choice) (c : Choice) → reduce (λ (x y : Choice). x) xs ≡ Some c → In c xs
received-in [] c h = absurd (cc)
received-in (x ∷ xs) c h = let s : fold (λ (x y : Choice). x) x xs ≡ c = cc in inl (sym s ∙ first xs)
  where
    first : (ys : List Choice) → fold (λ (x y : Choice). x) x ys ≡ x
    first [] = refl
    first (y ∷ ys) = first ys

pub received-choice : (cluster : Cluster) (es : List Entry) (votes : List Vote) (k : Key) (v : ℕ) (t : TxId) (c : Choice) → IsAllowed cluster es → IsSound es → AreVotes cluster es votes → choice_received votes t k v ≡ Some c → IsOwn es k v t c
received-choice cluster es votes k v t c legal sound h e =
    let i = received-in (filter_map (choice_accepted v) (votes_on votes t k)) c e in
    let f = In-filter_map (choice_accepted v) (votes_on votes t k) c i in
    let j = In-filter (λ (u : Vote). tx_eq u.tx t && key_eq u.key k) votes f.0 f.1 in
    by_version f.0 (Each-at (IsGiven cluster es) votes f.0 h.each j.0) (and_parts (tx_eq f.0.tx t) (key_eq f.0.key k) j.1) f.2
  where
    by_mark : (u : Vote) → IsGiven cluster es u → (tx_eq u.tx t ≡ true) × (key_eq u.key k ≡ true) → u.version ≡ v → (m : Mark) → u.mark ≡ m → choice_in u.mark ≡ Some c → IsOwn es k v t c
    by_mark u g p w Reject q x = let bad : ◌≡◌ {A = Option Choice} None (Some c) = rw q at x in absurd (cc)
    by_mark u g p w (Accept d) q x =
        let s : Some d ≡ Some c = rw q at x in
        let n : d ≡ c = cc in
        let o = (sound.votes u.key u.version u.ballot u.tx u.from u.mark g.given).own c (q ∙ ap Accept n) in
        let b : In c (choices_begun es t) = subst (λ z. In c (choices_begun es z)) (tx-true u.tx t p.0) o.begun in
        record { begun = b; key_is = o.key_is ∙ (Decides-key u.key k).0 p.1; version_is = o.version_is ∙ w }

    by_version : (u : Vote) → IsGiven cluster es u → (tx_eq u.tx t ≡ true) × (key_eq u.key k ≡ true) → choice_accepted v u ≡ Some c → IsOwn es k v t c
    by_version u g p x =
        elim (cases_Bool (u.version == v)) [
          | inl w ↦ let y : choice_in u.mark ≡ Some c = rw w at x in by_mark u g p (eqb-true u.version v w) u.mark refl y
          | inr w ↦ let bad : ◌≡◌ {A = Option Choice} None (Some c) = rw w at x in absurd (cc)
        ]
