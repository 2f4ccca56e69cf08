-- A pair is found exactly where different things are said of one subject.
use Rattle.std.proofs.Common.{◌≡◌, Bool, IsTrue, List, [], ◌∷◌, ◌++◌, None, Option, Some, cond, false, true, inl, inr, refl, sym, ap, ◌∙◌, ◌⊎◌, fold, subst}
use Rattle.std.proofs.lemmas.Bool.{cases_Bool}
use Rattle.mdcc_audit.specs.Contradictions.{IsOneOf, Saying}
use Rattle.mdcc_audit.specs.Firsts.{Pair, Said, Table, earlier, first_at, nothing_said, place_lt, say}
use Rattle.mdcc_audit.specs.Subjects.{subject_eq}
use Rattle.mdcc_audit.specs.Values.{value_eq}
use Rattle.mdcc_audit.specs.declared.firsts.First.{First}
use Rattle.mdcc_audit.specs.declared.subjects.Subject.{Subject}
use Rattle.mdcc_audit.proofs.Tests.{Decides-subject, value_eq-itself, value_eq-same}

-- ---- a table with one subject more

pub apart : true ≡ false → ⊥
apart e = cc

next-some : {found : Option First} {test : Bool} (first f : First) → Some f ≡ cond test (Some first) found → test ≡ false → Some f ≡ found
next-some first f is other = cc

here-some : (found : Option First) {test : Bool} (first f : First) → Some f ≡ cond test (Some first) found → test ≡ true → first ≡ f
here-some found first f is same = cc

next-none : {found : Option First} {test : Bool} (first : First) → None ≡ cond test (Some first) found → test ≡ false → None ≡ found
next-none first is other = cc

here-none : (found : Option First) {test : Bool} (first : First) → None ≡ cond test (Some first) found → test ≡ true → ⊥
here-none found first is same = cc

some-more : (table more : Table) (subject : Subject) (f : First) → Some f ≡ first_at table subject → Some f ≡ first_at (table ++ more) subject
some-more [] more subject f is = cc
some-more (e ∷ es) more subject f is =
    let ih = some-more es more subject f in
    elim (cases_Bool (subject_eq subject e.0)) [
      | inl same ↦ rw same (ap Some (sym (here-some _ e.1 f is same)))
      | inr other ↦ rw other (ih (next-some e.1 f is other))
    ]

last-some : (table : Table) (subject : Subject) (first : First) → None ≡ first_at table subject → Some first ≡ first_at (table ++ (subject, first) ∷ []) subject
last-some [] subject first none = rw ((Decides-subject subject subject).1 refl) refl
last-some (e ∷ es) subject first none =
    let ih = last-some es subject first in
    elim (cases_Bool (subject_eq subject e.0)) [
      | inl same ↦ elim (here-none _ e.1 none same) [ ]
      | inr other ↦ rw other (ih (next-none e.1 none other))
    ]

pub more-cases : (table : Table) (subject other : Subject) (first f : First) → Some f ≡ first_at (table ++ (subject, first) ∷ []) other
    → (Some f ≡ first_at table other) ⊎ ((subject_eq other subject ≡ true) × (first ≡ f))
more-cases [] subject other first f is =
    elim (cases_Bool (subject_eq other subject)) [
      | inl same ↦ inr (same, here-some _ first f is same)
      | inr apart ↦ inl (next-some first f is apart)
    ]
more-cases (e ∷ es) subject other first f is =
    let ih = more-cases es subject other first f in
    elim (cases_Bool (subject_eq other e.0)) [
      | inl same ↦ inl (rw same (ap Some (sym (here-some _ e.1 f is same))))
      | inr apart ↦ rw apart (ih (next-some e.1 f is apart))
    ]

-- ---- what is known of what was said

module _ (There : Saying → Type 0) where
  abbrev pub Alike : Type 0
  Alike = (a b : Saying) → There a → There b → IsTrue (subject_eq a.0 b.0) → a.1.value ≡ b.1.value

  pub record Knows (said : Said) : Type 0 where
    pub known : (e : Saying) → There e → (f : First) × (Some f ≡ first_at said.table e.0) × (said.found ≡ None → f.value ≡ e.1.value)
    pub from : (subject : Subject) (f : First) → Some f ≡ first_at said.table subject → (e : Saying) × There e × (subject_eq subject e.0 ≡ true) × (e.1 ≡ f)
    pub clean : Alike → said.found ≡ None

-- the same of other words for what was said
Knows-change : (A B : Saying → Type 0) (said : Said) → ((e : Saying) → A e → B e) → ((e : Saying) → B e → A e) → Knows A said → Knows B said
Knows-change A B said to back k = record {
  known = λ e there. k.known e (back e there);
  from = λ subject f is. let h = k.from subject f is in (h.0, to h.0 h.1, h.2, h.3);
  clean = λ alike. k.clean (λ a b x y same. alike a b (to a x) (to b y) same);
}

abbrev pub With : (Saying → Type 0) → Saying → Saying → Type 0
With There new e = There e ⊎ (e ≡ new)

abbrev pub said_with : Table → Option Pair → Said
said_with table found = record { table = table; found = found }

module _ (There : Saying → Type 0) (said : Said) (k : Knows There said) (subject : Subject) (first : First) where
  abbrev pub new : Saying
  new = (subject, first)

  alike-before : Alike (With There new) → Alike There
  alike-before alike a b x y same = alike a b (inl x) (inl y) same

  -- nothing was said of the subject
  when-none : None ≡ first_at said.table subject → Knows (With There new) (said_with (said.table ++ (subject, first) ∷ []) said.found)
  when-none none = record {
    known = known;
    from = from;
    clean = λ alike. k.clean (alike-before alike);
  }
    where
      known : (e : Saying) → With There new e → (f : First) × (Some f ≡ first_at (said.table ++ (subject, first) ∷ []) e.0) × (said.found ≡ None → f.value ≡ e.1.value)
      known e (inl there) =
          let h = k.known e there in
          (h.0, some-more said.table ((subject, first) ∷ []) e.0 h.0 h.1, h.2)
      known e (inr is) =
          (first, subst (λ (x : Saying). Some first ≡ first_at (said.table ++ (subject, first) ∷ []) x.0) (sym is) (last-some said.table subject first none), λ none. ap (λ (x : Saying). x.1.value) (sym is))

      from : (other : Subject) (f : First) → Some f ≡ first_at (said.table ++ (subject, first) ∷ []) other → (e : Saying) × With There new e × (subject_eq other e.0 ≡ true) × (e.1 ≡ f)
      from other f is =
          elim (more-cases said.table subject other first f is) [
            | inl before ↦ let h = k.from other f before in (h.0, inl h.1, h.2, h.3)
            | inr now ↦ (new, inr refl, now.0, now.1)
          ]

  -- what was said first stands, and what is said now is the same
  when-same : (f : First) → Some f ≡ first_at said.table subject → value_eq f.value first.value ≡ true → Knows (With There new) said
  when-same f is same = record {
    known = known;
    from = λ other g at. let h = k.from other g at in (h.0, inl h.1, h.2, h.3);
    clean = λ alike. k.clean (alike-before alike);
  }
    where
      known : (e : Saying) → With There new e → (g : First) × (Some g ≡ first_at said.table e.0) × (said.found ≡ None → g.value ≡ e.1.value)
      known e (inl there) = k.known e there
      known e (inr now) = (
        f,
        subst (λ (x : Saying). Some f ≡ first_at said.table x.0) (sym now) is,
        λ none. value_eq-same f.value first.value same ∙ ap (λ (x : Saying). x.1.value) (sym now),
      )

  earlier-some : (found : Option Pair) (pair : Pair) → earlier found (Some pair) ≡ None → ⊥
  earlier-some None pair e = cc
  earlier-some (Some was) pair e = never (place_lt pair.0 was.0) e
    where
      never : (b : Bool) → cond b (Some pair) (Some was) ≡ None → ⊥
      never true e = cc
      never false e = cc

  -- and where it is another, a pair is found
  when-other : (f : First) → Some f ≡ first_at said.table subject → value_eq f.value first.value ≡ false
      → Knows (With There new) (said_with said.table (earlier said.found (Some (f.place, first.place))))
  when-other f is other = record {
    known = known;
    from = λ s g at. let h = k.from s g at in (h.0, inl h.1, h.2, h.3);
    clean = λ alike. elim (contradiction alike) [ ];
  }
    where
      known : (e : Saying) → With There new e → (g : First) × (Some g ≡ first_at said.table e.0) × (earlier said.found (Some (f.place, first.place)) ≡ None → g.value ≡ e.1.value)
      known e (inl there) =
          let h = k.known e there in
          (h.0, h.1, λ none. elim (earlier-some said.found (f.place, first.place) none) [ ])
      known e (inr now) =
          (f, subst (λ (x : Saying). Some f ≡ first_at said.table x.0) (sym now) is, λ none. elim (earlier-some said.found (f.place, first.place) none) [ ])

      contradiction : Alike (With There new) → ⊥
      contradiction alike =
          let h = k.from subject f is in
          let same : first.value ≡ h.0.1.value = alike new h.0 (inr refl) (inl h.1) h.2 in
          let equal : f.value ≡ first.value = ap (λ (x : First). x.value) (sym h.3) ∙ sym same in
          apart (sym (value_eq-itself f.value) ∙ ap (λ v. value_eq f.value v) equal ∙ other)

  pub say-none : None ≡ first_at said.table subject → say said subject first ≡ said_with (said.table ++ (subject, first) ∷ []) said.found
  say-none none = rw (← none) refl

  pub say-same : (f : First) → Some f ≡ first_at said.table subject → value_eq f.value first.value ≡ true → say said subject first ≡ said
  say-same f is same = rw (← is, same) refl

  pub say-other : (f : First) → Some f ≡ first_at said.table subject → value_eq f.value first.value ≡ false
      → say said subject first ≡ said_with said.table (earlier said.found (Some (f.place, first.place)))
  say-other f is other = rw (← is, other) refl

  by_first : (found : Option First) → found ≡ first_at said.table subject → Knows (With There new) (say said subject first)
  by_first None none = subst (Knows (With There new)) (sym (say-none none)) (when-none none)
  by_first (Some f) is =
      elim (cases_Bool (value_eq f.value first.value)) [
        | inl same ↦ subst (Knows (With There new)) (sym (say-same f is same)) (when-same f is same)
        | inr other ↦ subst (Knows (With There new)) (sym (say-other f is other)) (when-other f is other)
      ]

  pub knows-more : Knows (With There new) (say said subject first)
  knows-more = by_first (first_at said.table subject) refl

-- ---- everything that was said

abbrev pub say_one : Said → Saying → Said
say_one said e = say said e.0 e.1

abbrev pub Also : (Saying → Type 0) → List Saying → Saying → Type 0
Also There sayings e = There e ⊎ IsOneOf e sayings

pub knows-all : (There : Saying → Type 0) (said : Said) → Knows There said → (sayings : List Saying) → Knows (Also There sayings) (fold say_one said sayings)
knows-all There said k [] =
    Knows-change There (Also There []) said (λ e there. inl there) back k
  where
    back : (e : Saying) → Also There [] e → There e
    back e (inl there) = there
    back e (inr none) = elim none [ ]
knows-all There said k (x ∷ xs) =
    let next = knows-more There said k x.0 x.1 in
    Knows-change (Also (With There x) xs) (Also There (x ∷ xs)) _ to back (knows-all (With There x) (say_one said x) next xs)
  where
    to : (e : Saying) → Also (With There x) xs e → Also There (x ∷ xs) e
    to e (inl (inl there)) = inl there
    to e (inl (inr is)) = inr (inl is)
    to e (inr more) = inr (inr more)

    back : (e : Saying) → Also There (x ∷ xs) e → Also (With There x) xs e
    back e (inl there) = inl (inl there)
    back e (inr (inl is)) = inl (inr is)
    back e (inr (inr more)) = inr more

abbrev pub None_said : Saying → Type 0
None_said e = ⊥

pub knows-nothing : Knows None_said nothing_said
knows-nothing = record {
  known = λ e there. elim there [ ];
  from = λ subject f is. elim (none f is) [ ];
  clean = λ alike. refl;
}
  where
    none : (f : First) → Some f ≡ None → ⊥
    none f is = cc

pub same-first : (f g : First) (found : Option First) → Some f ≡ found → Some g ≡ found → f ≡ g
same-first f g found a b = cc

-- a pair is found unless all that was said is alike
pub found-none : (sayings : List Saying) → ((fold say_one nothing_said sayings).found ≡ None → Alike (λ e. IsOneOf e sayings))
    × (Alike (λ e. IsOneOf e sayings) → (fold say_one nothing_said sayings).found ≡ None)
found-none sayings = (to, back)
  where
    all : Knows (Also None_said sayings) (fold say_one nothing_said sayings)
    all = knows-all None_said nothing_said knows-nothing sayings

    to : (fold say_one nothing_said sayings).found ≡ None → Alike (λ e. IsOneOf e sayings)
    to none a b x y same =
        let h = all.known a (inr x) in
        let g = all.known b (inr y) in
        let subjects : a.0 ≡ b.0 = (Decides-subject a.0 b.0).0 same in
        let one : h.0 ≡ g.0 = same-first h.0 g.0 (first_at (fold say_one nothing_said sayings).table b.0) (subst (λ s. Some h.0 ≡ first_at (fold say_one nothing_said sayings).table s) subjects h.1) g.1 in
        sym (h.2 none) ∙ ap (λ (f : First). f.value) one ∙ g.2 none

    back : Alike (λ e. IsOneOf e sayings) → (fold say_one nothing_said sayings).found ≡ None
    back alike = all.clean (λ a b x y same. alike a b (there a x) (there b y) same)
      where
        there : (e : Saying) → Also None_said sayings e → IsOneOf e sayings
        there e (inl none) = elim none [ ]
        there e (inr is) = is
