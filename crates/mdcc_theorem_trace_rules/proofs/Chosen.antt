-- What is chosen by computation is what a quorum gives, and outcomes stay.
use Rattle.std.proofs.Common.{List, None, Option, Some, [], ap, arith, inl, inr, refl, subst, sym, true, ℕ, ◌&&◌, ◌<◌, ◌==◌, ◌∙◌, ◌∷◌, ◌≡◌, ◌≤◌, ◌⊎◌}
use Rattle.std.specs.Prelude.{filter_map, fold}
use Rattle.std.specs.Option.{option_or}
use Rattle.std.specs.List.{list_any}
use Rattle.std.proofs.lemmas.Bool.{and_parts, cases_Bool, le-leb, leb-true}
use Rattle.mdcc_base.specs.declared.key.Key.{Key}
use Rattle.mdcc_base.specs.declared.identifiers.TxId.{TxId}
use Rattle.mdcc_base.specs.declared.identifiers.Ballot.{Ballot}
use Rattle.mdcc_base.specs.Sizes.{Sizes}
use Rattle.mdcc_base.specs.AreQuorums.{AreQuorums}
use Rattle.mdcc_base.specs.Ballot.{ballot_eq, is_fast}
use Rattle.mdcc_base.specs.Key.{key_eq}
use Rattle.mdcc_base.specs.Quorums.{all_centres, quorum_size}
use Rattle.mdcc_option.specs.declared.choices.Mark.{Mark}
use Rattle.mdcc_option.specs.Equality.{mark_eq}
use Rattle.mdcc_struct.specs.Options.{is_mark}
use Rattle.mdcc_struct.specs.Maps.{union, value_of}
use Rattle.mdcc_def_messages.specs.declared.facts.Fact.{Fact}
use Rattle.mdcc_def_protocol.specs.Facts.{marks_voted, votes_of}
use Rattle.mdcc_def_ledger.specs.Ledger.{Added, Entry, Valued, ballots_voted, chosen_at, chosen_of, facts_of, is_mark_of_quorum, mark_given, marks_given, with_ballot}
use Rattle.mdcc_theorem_trace_states.specs.Words.{In, count_where}
use Rattle.mdcc_theorem_trace_states.specs.Sound.{HasOneMark, IsChosen}
use Rattle.mdcc_theorem_trace_states.proofs.Tests.{Decides-ballot, Decides-is_mark}
use Rattle.mdcc_theorem_trace_states.proofs.Lists.{count_filter_map, count_more, count_some, find_some, find_there}
use Rattle.mdcc_theorem_trace_states.proofs.Maps.{value_of-union}
use Rattle.mdcc_theorem_trace_states.proofs.Ledgers.{mark-more}

pub quorum_some : (q : Sizes) → AreQuorums q → (b : Ballot) → 0 < quorum_size q b
quorum_some q h b =
    elim (cases_Bool (is_fast b)) [
      | inl e ↦ rw e (omega (arith, h.classic_meet, h.classic_within))
      | inr e ↦ rw e (omega (arith, h.classic_meet))
    ]

-- the marks that are counted are the centres that give it
pub counted : (q : Sizes) (es : List Entry) (k : Key) (v : ℕ) (b : Ballot) (t : TxId) (x : Mark) →
    count_where (mark_eq x) (marks_given q es k v b t) ≡ count_where (λ a. is_mark x (mark_given es k v b t a)) (all_centres q)
counted q es k v b t x =
    count_filter_map (mark_eq x) (λ a. is_mark x (mark_given es k v b t a)) (mark_given es k v b t) (all_centres q)
    (λ a y e. ap (is_mark x) e) (λ a e. ap (is_mark x) e)

at-chosen : (q : Sizes) (es : List Entry) (k : Key) (v : ℕ) (b : Ballot) (t : TxId) (x : Mark) → chosen_at q es k v t b ≡ Some x → IsChosen q es k v t x
at-chosen q es k v b t x h =
    let found = find_some (is_mark_of_quorum q b (marks_given q es k v b t)) (marks_given q es k v b t) x h in
    let least : quorum_size q b ≤ count_where (mark_eq x) (marks_given q es k v b t) = leb-true _ _ found.1 in
    record { ballot = b; enough = subst (λ n. quorum_size q b ≤ n) (counted q es k v b t x) least }

-- a mark that a quorum gives is given by some centre
pub chosen-given : (q : Sizes) → AreQuorums q → (es : List Entry) (k : Key) (v : ℕ) (b : Ballot) (t : TxId) (x : Mark) →
    quorum_size q b ≤ count_where (λ a. is_mark x (mark_given es k v b t a)) (all_centres q) → (a : ℕ) × (In a (all_centres q)) × (mark_given es k v b t a ≡ Some x)
chosen-given q sizes es k v b t x enough =
    let r = count_some (λ a. is_mark x (mark_given es k v b t a)) (all_centres q) (omega (arith, quorum_some q sizes b, enough)) in
    (r.0, r.1, (Decides-is_mark x (mark_given es k v b t r.0)).0 r.2)

In-filter_map_there : {A B : Type 0} (f : A → Option B) (xs : List A) (x : A) (y : B) → In x xs → f x ≡ Some y → In y (filter_map f xs)
In-filter_map_there f [] x y i h = absurd i
In-filter_map_there {A = A} {B = B} f (z ∷ zs) x y i h = by_case (λ j. In-filter_map_there f zs x y j h) (f z) refl i
  where
    by_case : (In x zs → In y (filter_map f zs)) → (o : Option B) → f z ≡ o → (x ≡ z) ⊎ In x zs → In y (filter_map f (z ∷ zs))
    by_case rest None e (inl s) = let bad : None ≡ Some y = sym e ∙ (ap f (sym s) ∙ h) in absurd (cc)
    by_case rest None e (inr j) = rw e (rest j)
    by_case rest (Some w) e (inl s) = let same : Some w ≡ Some y = sym e ∙ (ap f (sym s) ∙ h) in rw e (inl cc)
    by_case rest (Some w) e (inr j) = rw e (inr (rest j))

chosen-at : (q : Sizes) → AreQuorums q → (es : List Entry) → HasOneMark q es → (k : Key) (v : ℕ) (t : TxId) (x : Mark) (c : IsChosen q es k v t x) → chosen_at q es k v t c.ballot ≡ Some x
chosen-at q sizes es one k v t x c =
    let b = c.ballot in
    let given = chosen-given q sizes es k v c.ballot t x c.enough in
    let there : In x (marks_given q es k v c.ballot t) = In-filter_map_there (mark_given es k v c.ballot t) (all_centres q) given.0 x given.1 given.2 in
    let least : quorum_size q c.ballot ≤ count_where (mark_eq x) (marks_given q es k v c.ballot t) = subst (λ n. quorum_size q c.ballot ≤ n) (sym (counted q es k v c.ballot t x)) c.enough in
    let found = find_there (is_mark_of_quorum q c.ballot (marks_given q es k v c.ballot t)) (marks_given q es k v c.ballot t) x there (le-leb _ _ least) in
    let same : found.0 ≡ x = one k v t found.0 x (at-chosen q es k v c.ballot t found.0 found.1) c in
    found.1 ∙ ap Some same

-- ---- the first of several options

fold_some : {A X : Type 0} (g : A → Option X) (bs : List A) (x : X) → fold (λ found b. option_or found (g b)) (Some x) bs ≡ Some x
fold_some g [] x = refl
fold_some g (b ∷ bs) x = fold_some g bs x

fold_found : {A X : Type 0} (g : A → Option X) (bs : List A) (x : X) → fold (λ found b. option_or found (g b)) None bs ≡ Some x → (b : A) × (g b ≡ Some x)
fold_found g [] x h = absurd (cc)
fold_found {A = A} {X = X} g (b ∷ bs) x h = by_case (λ j. fold_found g bs x j) (g b) refl
  where
    by_case : (fold (λ found b. option_or found (g b)) None bs ≡ Some x → (b : A) × (g b ≡ Some x)) → (o : Option X) → g b ≡ o → (b : A) × (g b ≡ Some x)
    by_case rest None e = let j : fold (λ found b. option_or found (g b)) None bs ≡ Some x = rw e at h in rest j
    by_case rest (Some y) e =
        let j : fold (λ found b. option_or found (g b)) (Some y) bs ≡ Some x = rw e at h in
        (b, e ∙ (sym (fold_some g bs y) ∙ j))

fold_there : {A X : Type 0} (g : A → Option X) (bs : List A) (x : X) (b : A) → In b bs → g b ≡ Some x → ((c : A) (y : X) → g c ≡ Some y → y ≡ x) → fold (λ found b. option_or found (g b)) None bs ≡ Some x
fold_there g [] x b i h one = absurd i
fold_there {A = A} {X = X} g (c ∷ bs) x b i h one = by_case (λ j. fold_there g bs x b j h one) (g c) refl i
  where
    by_case : (In b bs → fold (λ found b. option_or found (g b)) None bs ≡ Some x) → (o : Option X) → g c ≡ o → (b ≡ c) ⊎ In b bs → fold (λ found b. option_or found (g b)) None (c ∷ bs) ≡ Some x
    by_case rest None e (inl s) = let bad : None ≡ Some x = sym e ∙ (ap g (sym s) ∙ h) in absurd (cc)
    by_case rest None e (inr j) = rw e (rest j)
    by_case rest (Some y) e i = rw e (fold_some g bs y ∙ ap Some (one c y e))

-- ---- the ballots that were voted

with_ballot-new : (bs : List Ballot) (b : Ballot) → In b (with_ballot bs b)
with_ballot-new bs b =
    elim (cases_Bool (list_any (ballot_eq b) bs)) [ inl e ↦ rw e (there bs e) | inr e ↦ rw e (inl refl) ]
  where
    there : (bs : List Ballot) → list_any (ballot_eq b) bs ≡ true → In b bs
    there [] h = absurd (cc)
    there (c ∷ cs) h =
        elim (cases_Bool (ballot_eq b c)) [
          | inl e ↦ inl ((Decides-ballot b c).0 e)
          | inr e ↦ let g : list_any (ballot_eq b) cs ≡ true = rw e at h in inr (there cs g)
        ]

with_ballot-old : (bs : List Ballot) (b c : Ballot) → In c bs → In c (with_ballot bs b)
with_ballot-old bs b c i = elim (cases_Bool (list_any (ballot_eq b) bs)) [ inl e ↦ rw e i | inr e ↦ rw e (inr i) ]

ballots-more : (e : Entry) (es : List Entry) (k : Key) (v : ℕ) (b : Ballot) → In b (ballots_voted es k v) → In b (ballots_voted (e ∷ es) k v)
ballots-more (Entry.Begun c u cs) es k v b i = i
ballots-more (Valued c j w m os) es k v b i = i
ballots-more (Added c (Fact.Booted n)) es k v b i = i
ballots-more (Added c (Fact.Floor centre era upto)) es k v b i = i
ballots-more (Added c (Fact.Promised j lo hi m)) es k v b i = i
ballots-more (Added c (Fact.Heard u o)) es k v b i = i
ballots-more (Added c (Fact.Adopted j w it ds)) es k v b i = i
ballots-more (Added c (Fact.Voted j w m os off)) es k v b i =
    elim (cases_Bool (w == v && key_eq j k)) [ inl e ↦ rw e (with_ballot-old (ballots_voted es k v) m b i) | inr e ↦ rw e i ]

vote-ballot : (c : ℕ) (f : Fact) (es : List Entry) (k : Key) (v : ℕ) (b : Ballot) (t : TxId) (x : Mark) → value_of (marks_voted k v b f) t ≡ Some x → In b (ballots_voted (Added c f ∷ es) k v)
vote-ballot c (Fact.Booted n) es k v b t x h = absurd (cc)
vote-ballot c (Fact.Floor centre era upto) es k v b t x h = absurd (cc)
vote-ballot c (Fact.Promised j lo hi m) es k v b t x h = absurd (cc)
vote-ballot c (Fact.Heard u o) es k v b t x h = absurd (cc)
vote-ballot c (Fact.Adopted j w it ds) es k v b t x h = absurd (cc)
vote-ballot c (Fact.Voted j w m os off) es k v b t x h =
    elim (cases_Bool (w == v && ballot_eq m b && key_eq j k)) [
      | inl e ↦
          let both = and_parts (w == v && ballot_eq m b) (key_eq j k) e in
          let first = and_parts (w == v) (ballot_eq m b) both.0 in
          let same : m ≡ b = (Decides-ballot m b).0 first.1 in
          let test : (w == v && key_eq j k) ≡ true = rw first.0 (rw both.1 refl) in
          rw test (subst (λ z. In z (with_ballot (ballots_voted es k v) m)) same (with_ballot-new (ballots_voted es k v) m))
      | inr e ↦ let bad : None ≡ Some x = rw e at h in absurd (cc)
    ]

given-ballot : (es : List Entry) (k : Key) (v : ℕ) (b : Ballot) (t : TxId) (a : ℕ) (x : Mark) → mark_given es k v b t a ≡ Some x → In b (ballots_voted es k v)
given-ballot [] k v b t a x h = absurd (cc)
given-ballot (Entry.Begun c u cs ∷ es) k v b t a x h = given-ballot es k v b t a x h
given-ballot (Valued c j w m os ∷ es) k v b t a x h = given-ballot es k v b t a x h
given-ballot (Added c f ∷ es) k v b t a x h =
    elim (cases_Bool (c == a)) [
      | inl e ↦ let g : value_of (union (votes_of (facts_of es a) k v b) (marks_voted k v b f)) t ≡ Some x = rw e at h in
          by_case (λ j. given-ballot es k v b t a x j) (mark_given es k v b t a) refl (sym (value_of-union (votes_of (facts_of es a) k v b) (marks_voted k v b f) t) ∙ g)
      | inr e ↦ let g : mark_given es k v b t a ≡ Some x = rw e at h in ballots-more (Added c f) es k v b (given-ballot es k v b t a x g)
    ]
  where
    by_case : (mark_given es k v b t a ≡ Some x → In b (ballots_voted es k v)) → (o : Option Mark) → mark_given es k v b t a ≡ o →
        option_or (mark_given es k v b t a) (value_of (marks_voted k v b f) t) ≡ Some x → In b (ballots_voted (Added c f ∷ es) k v)
    by_case rest None e g = let j : value_of (marks_voted k v b f) t ≡ Some x = rw e at g in vote-ballot c f es k v b t x j
    by_case rest (Some y) e g = let j : Some y ≡ Some x = rw e at g in ballots-more (Added c f) es k v b (rest (e ∙ j))

-- ---- chosen

pub chosen-to : (q : Sizes) (es : List Entry) (k : Key) (v : ℕ) (t : TxId) (x : Mark) → chosen_of q es k v t ≡ Some x → IsChosen q es k v t x
chosen-to q es k v t x h = let r = fold_found (chosen_at q es k v t) (ballots_voted es k v) x h in at-chosen q es k v r.0 t x r.1

pub chosen-from : (q : Sizes) → AreQuorums q → (es : List Entry) → HasOneMark q es → (k : Key) (v : ℕ) (t : TxId) (x : Mark) → IsChosen q es k v t x → chosen_of q es k v t ≡ Some x
chosen-from q sizes es one k v t x c =
    let given = chosen-given q sizes es k v c.ballot t x c.enough in
    fold_there (chosen_at q es k v t) (ballots_voted es k v) x c.ballot (given-ballot es k v c.ballot t given.0 x given.2)
    (chosen-at q sizes es one k v t x c) (λ b y e. one k v t y x (at-chosen q es k v b t y e) c)

pub IsChosen-more : (q : Sizes) (e : Entry) (es : List Entry) (k : Key) (v : ℕ) (t : TxId) (x : Mark) → IsChosen q es k v t x → IsChosen q (e ∷ es) k v t x
IsChosen-more q e es k v t x c = record {
  ballot = c.ballot;
  enough = omega (
    arith,
    c.enough,
    count_more (λ a. is_mark x (mark_given es k v c.ballot t a)) (λ a. is_mark x (mark_given (e ∷ es) k v c.ballot t a)) (all_centres q)
        (λ a h. (Decides-is_mark x _).1 (mark-more e es k v c.ballot t a x ((Decides-is_mark x _).0 h))),
  );
}
