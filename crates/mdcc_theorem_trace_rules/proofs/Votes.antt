-- What the learner learns of counted votes is chosen.
use Rattle.std.proofs.Common.{Bool, List, None, Option, Some, [], ap, arith, cond, false, inl, inr, length, not, refl, subst, suc, sym, true, zero, ℕ, ◌&&◌, ◌++◌, ◌+◌, ◌<◌, ◌==◌, ◌||◌, ◌∙◌, ◌∷◌, ◌≡◌, ◌≤◌, ◌⊎◌}
use Rattle.std.specs.Prelude.{filter, fold, map, nat_le, option_map, ⊤}
use Rattle.std.specs.List.{list_any, range_with_len, reduce}
use Rattle.std.proofs.lemmas.Bool.{and_from, and_parts, cases_Bool, eq-eqb, eqb-true, leb-true, or_parts, true≢false}
use Rattle.mdcc_base.specs.declared.key.Key.{Key}
use Rattle.mdcc_base.specs.AreQuorums.{AreQuorums}
use Rattle.mdcc_base.specs.declared.identifiers.TxId.{TxId}
use Rattle.mdcc_base.specs.Ballot.{ballot_eq, ballot_lt}
use Rattle.mdcc_base.specs.Key.{key_eq}
use Rattle.mdcc_base.specs.TxId.{tx_eq}
use Rattle.mdcc_base.specs.Quorums.{all_centres, quorum_size}
use Rattle.mdcc_option.specs.declared.choices.Choice.{Choice}
use Rattle.mdcc_option.specs.declared.cluster.Cluster.{Cluster}
use Rattle.mdcc_option.specs.declared.choices.Mark.{Mark}
use Rattle.mdcc_option.specs.declared.choices.Outcome.{Outcome}
use Rattle.mdcc_option.specs.Equality.{mark_eq}
use Rattle.mdcc_struct.specs.Options.{is_mark}
use Rattle.mdcc_def_protocol.specs.declared.votes.Vote.{Vote}
use Rattle.mdcc_def_protocol.specs.Learner.{decision_of, has_quorum, is_barred_by, is_counted, learned, lower_vote, votes_on, with_counted_vote}
use Rattle.mdcc_def_ledger.specs.Ledger.{Entry, choices_begun, chosen_of, mark_given, outcome_of}
use Rattle.mdcc_def_ledger.specs.AllowedLedgers.{IsAllowed}
use Rattle.mdcc_def_protocol.specs.Manager.{keys_of_choices}
use Rattle.mdcc_theorem_trace_states.specs.Words.{Each, In, count_where}
use Rattle.mdcc_theorem_trace_states.specs.VolatileInvariant.{AllApart, AreApart, ArePlaced, AreVotes, IsGiven}
use Rattle.mdcc_theorem_trace_states.specs.Sound.{HasOneMark, IsChosen}
use Rattle.mdcc_theorem_trace_states.proofs.Tests.{Decides-ballot, Decides-is_mark, Decides-key, Decides-mark, Decides-tx}
use Rattle.mdcc_theorem_trace_states.proofs.Lists.{Each-append, Each-at, Each-filter, Each-from, Each-like, In-filter}
use Rattle.mdcc_theorem_trace_states.proofs.Keys.{one_choice}
use Rattle.mdcc_theorem_trace_rules.proofs.Chosen.{chosen-from}
use Rattle.mdcc_theorem_trace_rules.proofs.Outcomes.{AreAmong, outcome-from}

-- ---- items at distinct places

abbrev pub AllDiffer : {A : Type 0} → (A → Bool) → (A → ℕ) → List A → Type 0
AllDiffer p place [] = ⊤
AllDiffer p place (x ∷ xs) = Each (λ y. p x ≡ true → p y ≡ true → place x ≡ place y → ⊥) xs × AllDiffer p place xs

count-none : {A : Type 0} (p : A → Bool) (xs : List A) → ((x : A) → In x xs → p x ≡ true → ⊥) → count_where p xs ≡ 0
count-none p [] h = refl
count-none p (x ∷ xs) h =
    elim (cases_Bool (p x)) [
      | inl e ↦ absurd (h x (inl refl) e)
      | inr e ↦ rw e (omega (arith, count-none p xs (λ y i. h y (inr i))))
    ]

count-split : {A : Type 0} (p r : A → Bool) (xs : List A) → count_where p xs ≡ count_where (λ x. p x && not (r x)) xs + count_where (λ x. p x && r x) xs
count-split p r [] = refl
count-split p r (x ∷ xs) = by_case (p x) (r x) (count-split p r xs)
  where
    by_case : (b c : Bool) → count_where p xs ≡ count_where (λ x. p x && not (r x)) xs + count_where (λ x. p x && r x) xs →
        cond b 1 0 + count_where p xs ≡ (cond (b && not c) 1 0 + count_where (λ x. p x && not (r x)) xs) + (cond (b && c) 1 0 + count_where (λ x. p x && r x) xs)
    by_case true true h = omega (arith, h)
    by_case true false h = omega (arith, h)
    by_case false true h = omega (arith, h)
    by_case false false h = omega (arith, h)

count-once : {A : Type 0} (p : A → Bool) (place : A → ℕ) (s : ℕ) (xs : List A) → AllDiffer p place xs → count_where (λ x. p x && place x == s) xs ≤ 1
count-once p place s [] h = omega arith
count-once {A = A} p place s (x ∷ xs) h =
    elim (cases_Bool (p x && place x == s)) [
      | inl e ↦ rw e (omega (arith, count-none (λ x. p x && place x == s) xs (none e)))
      | inr e ↦ rw e (omega (arith, count-once p place s xs h.1))
    ]
  where
    none : (p x && place x == s) ≡ true → (y : A) → In y xs → (p y && place y == s) ≡ true → ⊥
    none e y i g =
        let a = and_parts (p x) (place x == s) e in
        let b = and_parts (p y) (place y == s) g in
        Each-at (λ y. p x ≡ true → p y ≡ true → place x ≡ place y → ⊥) xs y h.0 i a.0 b.0 (eqb-true _ _ a.1 ∙ sym (eqb-true _ _ b.1))

differ-less : {A : Type 0} (p r : A → Bool) (place : A → ℕ) (xs : List A) → ((x : A) → r x ≡ true → p x ≡ true) → AllDiffer p place xs → AllDiffer r place xs
differ-less p r place [] f h = tt
differ-less p r place (x ∷ xs) f h =
    (Each-like (λ y. p x ≡ true → p y ≡ true → place x ≡ place y → ⊥) (λ y. r x ≡ true → r y ≡ true → place x ≡ place y → ⊥) xs (λ y g a b. g (f x a) (f y b)) h.0, differ-less p r place xs f h.1)

-- at most as many items as places
pub at_places : {A : Type 0} (n s : ℕ) (p : A → Bool) (place : A → ℕ) (q : ℕ → Bool) (xs : List A) →
    ((x : A) → In x xs → p x ≡ true → (s ≤ place x) × (place x < s + n) × (q (place x) ≡ true)) → AllDiffer p place xs → count_where p xs ≤ count_where q (range_with_len s n)
at_places zero s p place q xs h d = omega (arith, count-none p xs (λ x i e. let g = h x i e in omega (arith, g.0, g.1)))
at_places {A = A} (suc n) s p place q xs h d =
    let split = count-split p (λ x. place x == s) xs in
    let rest = at_places n (s + 1) (λ x. p x && not (place x == s)) place q xs below (differ-less p (λ x. p x && not (place x == s)) place xs (λ x e. (and_parts (p x) (not (place x == s)) e).0) d) in
    elim (cases_Bool (q s)) [
      | inl e ↦ rw e (omega (arith, split, rest, count-once p place s xs d))
      | inr e ↦ rw e (omega (arith, split, rest, count-none (λ x. p x && place x == s) xs (none e)))
    ]
  where
    below : (x : A) → In x xs → (p x && not (place x == s)) ≡ true → (s + 1 ≤ place x) × (place x < s + 1 + n) × (q (place x) ≡ true)
    below x i e =
        let a = and_parts (p x) (not (place x == s)) e in
        let g = h x i a.0 in
        let other : place x ≡ s → ⊥ = λ k. let t : (place x == s) ≡ true = eq-eqb _ _ k in let bad : not true ≡ true = rw t at a.1 in cc in
        let above : s + 1 ≤ place x = elim (cases_Bool (place x == s)) [ inl k ↦ absurd (other (eqb-true _ _ k)) | inr k ↦ let ne : place x ≡ s → ⊥ = other in omega (arith, g.0, ne) ] in
        (above, omega (arith, g.1), g.2)

    none : q s ≡ false → (x : A) → In x xs → (p x && place x == s) ≡ true → ⊥
    none e x i g =
        let a = and_parts (p x) (place x == s) g in
        let k : q s ≡ true = subst (λ z. q z ≡ true) (eqb-true _ _ a.1) (h x i a.0).2 in
        true≢false (sym k ∙ e)

-- ---- counted votes

pub apart-filter : (p : Vote → Bool) (vs : List Vote) → AllApart vs → AllApart (filter p vs)
apart-filter p [] h = tt
apart-filter p (v ∷ vs) h =
    elim (cases_Bool (p v)) [
      | inl e ↦ rw e (Each-filter (AreApart v) p vs h.0, apart-filter p vs h.1)
      | inr e ↦ rw e (apart-filter p vs h.1)
    ]

pub AreVotes-filter : (cluster : Cluster) (es : List Entry) (p : Vote → Bool) (vs : List Vote) → AreVotes cluster es vs → AreVotes cluster es (filter p vs)
AreVotes-filter cluster es p vs h = record { each = Each-filter (IsGiven cluster es) p vs h.each; apart = apart-filter p vs h.apart }

apart-push : (vs : List Vote) (v : Vote) → AllApart vs → Each (λ u. AreApart u v) vs → AllApart (vs ++ v ∷ [])
apart-push [] v h g = (tt, tt)
apart-push (u ∷ vs) v h g = (Each-append (AreApart u) vs (v ∷ []) h.0 (g.0, tt), apart-push vs v h.1 g.1)

-- a vote that counts is apart from those before it
counted-apart : (vs : List Vote) (v : Vote) →
    list_any (is_barred_by v) vs ≡ false → Each (λ u. AreApart u v) vs
counted-apart [] v h = tt
counted-apart (u ∷ vs) v h =
    let parts = or_parts (tx_eq u.tx v.tx && key_eq u.key v.key && (not (u.version == v.version) || (ballot_eq u.ballot v.ballot && u.from == v.from))) _ h in (
      λ e. let g : (not (u.version == v.version) || (ballot_eq u.ballot v.ballot && u.from == v.from)) ≡ false = rw e at parts.0 in
          let both = or_parts (not (u.version == v.version)) (ballot_eq u.ballot v.ballot && u.from == v.from) g in (not-not (u.version == v.version) both.0, both.1),
      counted-apart vs v parts.1,
    )
  where
    not-not : (b : Bool) → not b ≡ false → b ≡ true
    not-not true h = refl
    not-not false h = absurd (cc)

not-true' : (b : Bool) → not b ≡ true → b ≡ false
not-true' true h = absurd (cc)
not-true' false h = refl

pub AreVotes-push : (cluster : Cluster) (es : List Entry) (vs : List Vote) (v : Vote) → AreVotes cluster es vs → IsGiven cluster es v → AreVotes cluster es (with_counted_vote cluster.quorums vs v)
AreVotes-push cluster es vs v h g =
    elim (cases_Bool (is_counted cluster.quorums vs v)) [
      | inl e ↦
          rw e (record {
            each = Each-append (IsGiven cluster es) vs (v ∷ []) h.each (g, tt);
            apart = apart-push vs v h.apart (counted-apart vs v (not-true' _ (and_parts (nat_le v.from cluster.quorums.centres) _ e).1));
          })
      | inr e ↦ rw e h
    ]

-- ---- what is learned

pub reduce-in : (f : Vote → Vote → Vote) (vs : List Vote) (v : Vote) → ((a b : Vote) → (f a b ≡ a) ⊎ (f a b ≡ b)) → reduce f vs ≡ Some v → In v vs
reduce-in f [] v h e = absurd (cc)
reduce-in f (u ∷ vs) v h e = let s : fold f u vs ≡ v = cc in subst (λ z. In z (u ∷ vs)) s (fold-in vs u)
  where
    fold-in : (ws : List Vote) (w : Vote) → In (fold f w ws) (w ∷ ws)
    fold-in [] w = inl refl
    fold-in (x ∷ ws) w =
        elim (fold-in ws (f w x)) [
          | inl s ↦ elim (h w x) [ inl a ↦ inl (s ∙ a) | inr b ↦ inr (inl (s ∙ b)) ]
          | inr r ↦ inr (inr r)
        ]

pub lower-one : (a b : Vote) → (lower_vote a b ≡ a) ⊎ (lower_vote a b ≡ b)
lower-one a b = elim (cases_Bool (ballot_lt b.ballot a.ballot)) [ inl e ↦ rw e (inr refl) | inr e ↦ rw e (inl refl) ]

differ-from : (w : Vote) (t : TxId) (k : Key) (vs : List Vote) → AllApart vs → Each (λ (v : Vote). (tx_eq v.tx t && key_eq v.key k) ≡ true) vs →
    AllDiffer (λ (v : Vote). ballot_eq v.ballot w.ballot && mark_eq v.mark w.mark) (λ (v : Vote). v.from) vs
differ-from w t k [] h on = tt
differ-from w t k (v ∷ vs) h on = (each vs h.0 on.1, differ-from w t k vs h.1 on.1)
  where
    alike : (u : Vote) → (tx_eq u.tx t && key_eq u.key k) ≡ true → (tx_eq v.tx u.tx && key_eq v.key u.key) ≡ true
    alike u e =
        let a = and_parts (tx_eq v.tx t) (key_eq v.key k) on.0 in
        let b = and_parts (tx_eq u.tx t) (key_eq u.key k) e in
        and_from _ _ ((Decides-tx v.tx u.tx).1 ((Decides-tx v.tx t).0 a.0 ∙ sym ((Decides-tx u.tx t).0 b.0)))
        ((Decides-key v.key u.key).1 ((Decides-key v.key k).0 a.1 ∙ sym ((Decides-key u.key k).0 b.1)))

    each : (us : List Vote) → Each (AreApart v) us → Each (λ (u : Vote). (tx_eq u.tx t && key_eq u.key k) ≡ true) us →
        Each (λ (u : Vote). (ballot_eq v.ballot w.ballot && mark_eq v.mark w.mark) ≡ true → (ballot_eq u.ballot w.ballot && mark_eq u.mark w.mark) ≡ true → v.from ≡ u.from → ⊥) us
    each [] a b = tt
    each (u ∷ us) a b = (
      λ p q e.
          let x = and_parts (ballot_eq v.ballot w.ballot) (mark_eq v.mark w.mark) p in
          let y = and_parts (ballot_eq u.ballot w.ballot) (mark_eq u.mark w.mark) q in
          let same : (ballot_eq v.ballot u.ballot && v.from == u.from) ≡ true =
          and_from _ _ ((Decides-ballot v.ballot u.ballot).1 ((Decides-ballot v.ballot w.ballot).0 x.0 ∙ sym ((Decides-ballot u.ballot w.ballot).0 y.0))) (eq-eqb _ _ e) in
          true≢false (sym same ∙ (a.0 (alike u b.0)).1),
      each us a.1 b.1,
    )

pub learned-chosen : (cluster : Cluster) (es : List Entry) (votes : List Vote) (t : TxId) (c : Choice) (x : Mark) → IsAllowed cluster es → ArePlaced es → AreVotes cluster es votes → In c (choices_begun es t) →
    learned cluster.quorums votes t c.key ≡ Some x → IsChosen cluster.quorums es c.key c.version t x
learned-chosen cluster es votes t c x legal placed h i learned =
    by_case (reduce lower_vote (filter (has_quorum cluster.quorums on) on)) refl learned
  where
    on : List Vote
    on = votes_on votes t c.key

    given : (v : Vote) → In v on → IsGiven cluster es v × ((tx_eq v.tx t && key_eq v.key c.key) ≡ true)
    given v j = let r = In-filter (λ (v : Vote). tx_eq v.tx t && key_eq v.key c.key) votes v j in (Each-at (IsGiven cluster es) votes v h.each r.0, r.1)

    at-version : (v : Vote) → In v on → v.version ≡ c.version
    at-version v j =
        let g = given v j in
        let parts = and_parts (tx_eq v.tx t) (key_eq v.key c.key) g.1 in
        let p = placed v.key v.version v.ballot v.tx v.from v.mark g.0.given in
        let b : In p.choice (choices_begun es t) = subst (λ z. In p.choice (choices_begun es z)) ((Decides-tx v.tx t).0 parts.0) p.begun in
        let s : p.choice ≡ c = one_choice cluster es t p.choice c legal b i (p.key_is ∙ (Decides-key v.key c.key).0 parts.1) in
        sym p.version_is ∙ ap (λ (z : Choice). z.version) s

    marks : (v : Vote) → In v on → mark_given es c.key c.version v.ballot t v.from ≡ Some v.mark
    marks v j =
        let g = given v j in
        let parts = and_parts (tx_eq v.tx t) (key_eq v.key c.key) g.1 in
        subst (λ z. mark_given es c.key z v.ballot t v.from ≡ Some v.mark) (at-version v j)
        (subst (λ z. mark_given es z v.version v.ballot t v.from ≡ Some v.mark) ((Decides-key v.key c.key).0 parts.1)
        (subst (λ z. mark_given es v.key v.version v.ballot z v.from ≡ Some v.mark) ((Decides-tx v.tx t).0 parts.0) g.0.given))

    by_quorum : (w : Vote) → In w (filter (has_quorum cluster.quorums on) on) → IsChosen cluster.quorums es c.key c.version t w.mark
    by_quorum w j = record { ballot = w.ballot; enough = omega (arith, least, most) }
      where
        found : In w on × (has_quorum cluster.quorums on w ≡ true)
        found = In-filter (has_quorum cluster.quorums on) on w j

        like : Vote → Bool
        like v = ballot_eq v.ballot w.ballot && mark_eq v.mark w.mark

        least : quorum_size cluster.quorums w.ballot ≤ count_where like on
        least = leb-true _ _ found.1

        at : (v : Vote) → In v on → like v ≡ true → (1 ≤ v.from) × (v.from < 1 + cluster.quorums.centres) × (is_mark w.mark (mark_given es c.key c.version w.ballot t v.from) ≡ true)
        at v k e =
            let parts = and_parts (ballot_eq v.ballot w.ballot) (mark_eq v.mark w.mark) e in
            let centre = and_parts (nat_le 1 v.from) (nat_le v.from cluster.quorums.centres) (given v k).0.centre in
            let m : mark_given es c.key c.version w.ballot t v.from ≡ Some v.mark = subst (λ z. mark_given es c.key c.version z t v.from ≡ Some v.mark) ((Decides-ballot v.ballot w.ballot).0 parts.0) (marks v k) in
            (leb-true _ _ centre.0, omega (arith, leb-true _ _ centre.1), (Decides-is_mark w.mark _).1 (m ∙ ap Some ((Decides-mark v.mark w.mark).0 parts.1)))

        most : count_where like on ≤ count_where (λ a. is_mark w.mark (mark_given es c.key c.version w.ballot t a)) (all_centres cluster.quorums)
        most = at_places cluster.quorums.centres 1 like (λ (v : Vote). v.from) (λ a. is_mark w.mark (mark_given es c.key c.version w.ballot t a)) on at
            (differ-from w t c.key on (apart-filter _ votes h.apart) (Each-from (λ (v : Vote). (tx_eq v.tx t && key_eq v.key c.key) ≡ true) on (λ v k. (given v k).1)))

    by_case : (o : Option Vote) → reduce lower_vote (filter (has_quorum cluster.quorums on) on) ≡ o → option_map (λ (v : Vote). v.mark) o ≡ Some x → IsChosen cluster.quorums es c.key c.version t x
    by_case None e g = absurd (cc)
    by_case (Some w) e g =
        let s : w.mark ≡ x = cc in
        subst (λ z. IsChosen cluster.quorums es c.key c.version t z) s (by_quorum w (reduce-in lower_vote (filter (has_quorum cluster.quorums on) on) w lower-one e))

-- what the votes decide of a begun transaction is its outcome
pub decided : (cluster : Cluster) → AreQuorums cluster.quorums → (es : List Entry) (votes : List Vote) (t : TxId) (o : Outcome) → IsAllowed cluster es → ArePlaced es → HasOneMark cluster.quorums es →
    AreVotes cluster es votes → 0 < length (choices_begun es t) → decision_of cluster.quorums votes t (keys_of_choices (choices_begun es t)) ≡ Some o → outcome_of cluster.quorums es t ≡ Some o
decided cluster sizes es votes t o legal placed one h some d =
    outcome-from cluster.quorums es t o (map (learned cluster.quorums votes t) (keys_of_choices (choices_begun es t))) some (among (choices_begun es t) (λ c i. i)) d
  where
    among : (cs : List Choice) → ((c : Choice) → In c cs → In c (choices_begun es t)) →
        AreAmong (map (learned cluster.quorums votes t) (keys_of_choices cs)) (map (λ (c : Choice). chosen_of cluster.quorums es c.key c.version t) cs)
    among [] f = tt
    among (c ∷ cs) f =
        (λ x e. chosen-from cluster.quorums sizes es one c.key c.version t x (learned-chosen cluster es votes t c x legal placed h (f c (inl refl)) e), among cs (λ d i. f d (inr i)))
