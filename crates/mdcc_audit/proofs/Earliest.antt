-- The pair that is found is the first of all.
use Rattle.std.proofs.Common.{◌≡◌, List, [], ◌∷◌, ◌++◌, None, Option, Some, arith, false, true, inl, inr, refl, sym, ap, ◌∙◌, fold, subst}
use Rattle.std.proofs.lemmas.Bool.{cases_Bool}
use Rattle.std.proofs.lemmas.Bool.Decides.{nat_tests}
use Rattle.mdcc_audit.specs.Contradictions.{AreInOrder, Differ, IsFirstPair, IsOneOf, NotBefore, Saying}
use Rattle.mdcc_audit.specs.Firsts.{Pair, Said, earlier, first_at, nothing_said, place_lt, say}
use Rattle.mdcc_audit.specs.Values.{value_eq}
use Rattle.mdcc_audit.specs.declared.audited.Place.{Place}
use Rattle.mdcc_audit.specs.declared.firsts.First.{First}
use Rattle.mdcc_audit.specs.declared.subjects.Subject.{Subject}
use Rattle.mdcc_audit.proofs.Alike.{Also, Knows, None_said, With, apart, knows-more, knows-nothing, more-cases, said_with, say-none, say-other, say-same, say_one, same-first}
use Rattle.mdcc_audit.proofs.Tests.{Decides-subject, value_eq-itself, value_eq-same}

-- ---- the order of places

lt-back : (a b c : Place) → place_lt a b ≡ false → place_lt b c ≡ false → place_lt a c ≡ false
lt-back a b c h k = grind (arith, nat_tests)

lt-not : (a b : Place) → place_lt a b ≡ true → place_lt b a ≡ false
lt-not a b h = grind (arith, nat_tests)

pub lt-itself : (a : Place) → place_lt a a ≡ false
lt-itself a = grind (arith, nat_tests)

same-thing : (f a x w v : Place) → place_lt a f ≡ false → place_lt x a ≡ false → NotBefore f a w v → NotBefore a x w v
same-thing f a x w v af xa h =
    (lt-back a f w af h.0, λ wa. lt-back x a v xa (h.1 (lt-back w a f wa af)))

from-first : (f a x : Place) → place_lt a f ≡ false → NotBefore a x f x
from-first f a x af = (af, λ fa. lt-itself x)

behind-earlier : (f p a b w v : Place) → place_lt f w ≡ true → NotBefore a b w v → NotBefore a b f p
behind-earlier f p a b w v fw h =
    (lt-back a w f h.0 (lt-not f w fw), λ fa. elim (apart (sym fw ∙ lt-back f a w fa h.0)) [ ])

behind-found : (f a x w v : Place) → place_lt f w ≡ false → place_lt a f ≡ false → place_lt x v ≡ false → NotBefore a x w v
behind-found f a x w v fw af xv = (lt-back a f w af fw, λ wa. xv)

turned : (b x w v : Place) → place_lt x b ≡ false → place_lt b x ≡ false → NotBefore b x w v → NotBefore x b w v
turned b x w v xb bx h = (lt-back x b w xb h.0, λ wx. lt-back b x v bx (h.1 (lt-back w x b wx xb)))

-- ---- what leads

flip : (a b : Saying) → Differ a b → Differ b a
flip a b d = (sym d.0, λ e. d.1 (sym e))

abbrev pub LaterThan : Pair → Saying → Saying → Type 0
LaterThan pair a b = Differ a b → place_lt b.1.place a.1.place ≡ false → NotBefore a.1.place b.1.place pair.0 pair.1

module _ (There : Saying → Type 0) where
  abbrev pub Shown : Pair → Type 0
  Shown pair = (a : Saying) × (b : Saying) × There a × There b × Differ a b × (a.1.place ≡ pair.0) × (b.1.place ≡ pair.1)

  pub record Leads (said : Said) : Type 0 where
    pub first : (subject : Subject) (f : First) → Some f ≡ first_at said.table subject → (e : Saying) → There e → subject ≡ e.0 → place_lt e.1.place f.place ≡ false
    pub sound : (pair : Pair) → said.found ≡ Some pair → Shown pair
    pub least : (pair : Pair) → said.found ≡ Some pair → (a b : Saying) → There a → There b → LaterThan pair a b

Leads-change : (A B : Saying → Type 0) (said : Said) → ((e : Saying) → A e → B e) → ((e : Saying) → B e → A e) → Leads A said → Leads B said
Leads-change A B said to back l = record {
  first = λ s f is e there same. l.first s f is e (back e there) same;
  sound = λ pair at. let h = l.sound pair at in (h.0, h.1, to h.0 h.2, to h.1 h.3, h.4, h.5, h.6);
  least = λ pair at a b x y. l.least pair at a b (back a x) (back b y);
}

some-none : (f : First) (found : Option First) → Some f ≡ found → None ≡ found → ⊥
some-none f found a b = cc

pair-is : (p q : Pair) → Some p ≡ Some q → p ≡ q
pair-is p q e = cc

module _ (There : Saying → Type 0) (said : Said) (k : Knows There said) (l : Leads There said) (subject : Subject) (first : First)
    (order : (e : Saying) → There e → place_lt first.place e.1.place ≡ false) where
  abbrev new : Saying
  new = (subject, first)

  new-new : (pair : Pair) → LaterThan pair new new
  new-new pair d o = elim (d.1 refl) [ ]

  all-apart : (pair : Pair) → ((a b : Saying) → There a → There b → LaterThan pair a b) → ((a : Saying) → There a → LaterThan pair a new) → (a b : Saying)
      → With There new a → With There new b → LaterThan pair a b
  all-apart pair old with_new a b (inl x) (inl y) = old a b x y
  all-apart pair old with_new a b (inl x) (inr is) = subst (λ e. LaterThan pair a e) (sym is) (with_new a x)
  all-apart pair old with_new a b (inr is) (inl y) =
      subst (λ e. LaterThan pair e b) (sym is)
      (λ d o. turned b.1.place first.place pair.0 pair.1 (order b y) o (with_new b y (flip new b d) (order b y)))
  all-apart pair old with_new a b (inr is) (inr at) =
      subst (λ e. LaterThan pair e b) (sym is) (subst (λ e. LaterThan pair new e) (sym at) (new-new pair))

  shown-before : (pair : Pair) → Shown There pair → Shown (With There new) pair
  shown-before pair h = (h.0, h.1, inl h.2, inl h.3, h.4, h.5, h.6)

  -- nothing was said of the subject
  none-there : None ≡ first_at said.table subject → (e : Saying) → There e → subject ≡ e.0 → ⊥
  none-there none e there same =
      let h = k.known e there in
      some-none h.0 (first_at said.table subject) (subst (λ s. Some h.0 ≡ first_at said.table s) (sym same) h.1) none

  leads-none : None ≡ first_at said.table subject → Leads (With There new) (said_with (said.table ++ (subject, first) ∷ []) said.found)
  leads-none none = record {
    first = at_first;
    sound = λ pair at. shown-before pair (l.sound pair at);
    least = λ pair at. all-apart pair (l.least pair at) (λ a x d o. elim (none-there none a x (sym d.0)) [ ]);
  }
    where
      at_first : (s : Subject) (f : First) → Some f ≡ first_at (said.table ++ (subject, first) ∷ []) s → (e : Saying) → With There new e → s ≡ e.0
          → place_lt e.1.place f.place ≡ false
      at_first s f is e there same =
          elim (more-cases said.table subject s first f is) [
            | inl before ↦ earlier_said before there
            | inr now ↦ said_now ((Decides-subject s subject).0 now.0) now.1 there
          ]
        where
          earlier_said : Some f ≡ first_at said.table s → With There new e → place_lt e.1.place f.place ≡ false
          earlier_said before (inl x) = l.first s f before e x same
          earlier_said before (inr at) =
              let here : s ≡ subject = same ∙ ap (λ (e : Saying). e.0) at in
              elim (some-none f (first_at said.table subject) (subst (λ s. Some f ≡ first_at said.table s) here before) none) [ ]

          said_now : s ≡ subject → first ≡ f → With There new e → place_lt e.1.place f.place ≡ false
          said_now here now (inl x) = elim (none-there none e x (sym here ∙ same)) [ ]
          said_now here now (inr at) =
              subst (λ (g : First). place_lt e.1.place g.place ≡ false) now
              (subst (λ (x : Saying). place_lt x.1.place first.place ≡ false) (sym at) (lt-itself first.place))

  -- something was
  module _ (f : First) (is : Some f ≡ first_at said.table subject) where
    first-stays : (s : Subject) (g : First) → Some g ≡ first_at said.table s → (e : Saying) → With There new e → s ≡ e.0 → place_lt e.1.place g.place ≡ false
    first-stays s g at e (inl x) same = l.first s g at e x same
    first-stays s g at e (inr now) same =
        let h = k.from s g at in
        subst (λ (x : Saying). place_lt x.1.place g.place ≡ false) (sym now)
        (subst (λ (x : First). place_lt first.place x.place ≡ false) h.3 (order h.0 h.1))

    behind-first : (a : Saying) → There a → a.0 ≡ subject → place_lt a.1.place f.place ≡ false
    behind-first a x same = l.first subject f is a x (sym same)

    -- what was said first, as something that was said
    of-first : (e : Saying) × There e × (subject ≡ e.0) × (e.1 ≡ f)
    of-first = let h = k.from subject f is in (h.0, h.1, (Decides-subject subject h.0.0).0 h.2, h.3)

    with-same : f.value ≡ first.value → (pair : Pair) → said.found ≡ Some pair → (a : Saying) → There a → LaterThan pair a new
    with-same same pair at a x d o =
        let h = of-first in
        let af = behind-first a x d.0 in
        let differ : Differ h.0 a = (sym h.2 ∙ sym d.0, λ e. d.1 (sym e ∙ ap (λ (g : First). g.value) h.3 ∙ same)) in
        let before = l.least pair at h.0 a h.1 x differ (subst (λ (g : First). place_lt a.1.place g.place ≡ false) (sym h.3) af) in
        same-thing f.place a.1.place first.place pair.0 pair.1 af (order a x)
        (subst (λ (g : First). NotBefore g.place a.1.place pair.0 pair.1) h.3 before)

    leads-same : f.value ≡ first.value → Leads (With There new) said
    leads-same same = record {
      first = first-stays;
      sound = λ pair at. shown-before pair (l.sound pair at);
      least = λ pair at. all-apart pair (l.least pair at) (with-same same pair at);
    }

    new-shown : (f.value ≡ first.value → ⊥) → Shown (With There new) (f.place, first.place)
    new-shown other =
        let h = of-first in
        (h.0, new, inl h.1, inr refl, (sym h.2, λ e. other (sym (ap (λ (g : First). g.value) h.3) ∙ e)), ap (λ (g : First). g.place) h.3, refl)

    alike-now : said.found ≡ None → (a b : Saying) → There a → There b → Differ a b → ⊥
    alike-now none a b x y d =
        let h = k.known a x in
        let g = k.known b y in
        let one : h.0 ≡ g.0 = same-first h.0 g.0 (first_at said.table b.0) (subst (λ s. Some h.0 ≡ first_at said.table s) d.0 h.1) g.1 in
        d.1 (sym (h.2 none) ∙ ap (λ (e : First). e.value) one ∙ g.2 none)

    the-new-first : (other : f.value ≡ first.value → ⊥) → (old : (a b : Saying) → There a → There b → LaterThan (f.place, first.place) a b)
        → Leads (With There new) (said_with said.table (Some (f.place, first.place)))
    the-new-first other old = record {
      first = first-stays;
      sound = λ pair at. subst (Shown (With There new)) (pair-is (f.place, first.place) pair at) (new-shown other);
      least = λ pair at.
          subst (λ (p : Pair). (a b : Saying) → With There new a → With There new b → LaterThan p a b) (pair-is (f.place, first.place) pair at)
          (all-apart (f.place, first.place) old (λ a x d o. from-first f.place a.1.place first.place (behind-first a x d.0)));
    }

    the-old-first : (was : Pair) → said.found ≡ Some was → place_lt f.place was.0 ≡ false → Leads (With There new) (said_with said.table (Some was))
    the-old-first was at later = record {
      first = first-stays;
      sound = λ pair is. shown-before pair (l.sound pair (at ∙ is));
      least = λ pair is. all-apart pair (l.least pair (at ∙ is)) (λ a x d o. with_old pair (at ∙ is) (pair-is was pair is) a x d.0);
    }
      where
        with_old : (pair : Pair) → said.found ≡ Some pair → was ≡ pair → (a : Saying) → There a → a.0 ≡ subject → NotBefore a.1.place first.place pair.0 pair.1
        with_old pair found is a x same =
            let h = l.sound pair found in
            behind-found f.place a.1.place first.place pair.0 pair.1 (subst (λ (p : Pair). place_lt f.place p.0 ≡ false) is later) (behind-first a x same)
            (subst (λ p. place_lt first.place p ≡ false) h.6 (order h.1 h.3))

    leads-other : (f.value ≡ first.value → ⊥) → (found : Option Pair) → said.found ≡ found
        → Leads (With There new) (said_with said.table (earlier found (Some (f.place, first.place))))
    leads-other other None none = the-new-first other (λ a b x y d o. elim (alike-now none a b x y d) [ ])
    leads-other other (Some was) at =
        elim (cases_Bool (place_lt f.place was.0)) [
          | inl sooner ↦
              rw sooner
              (the-new-first other (λ a b x y d o. behind-earlier f.place first.place a.1.place b.1.place was.0 was.1 sooner (l.least was at a b x y d o)))
          | inr later ↦ rw later (the-old-first was at later)
        ]

  by_first : (found : Option First) → found ≡ first_at said.table subject → Leads (With There new) (say said subject first)
  by_first None none = subst (Leads (With There new)) (sym (say-none There said k subject first none)) (leads-none none)
  by_first (Some f) is =
      elim (cases_Bool (value_eq f.value first.value)) [
        | inl same ↦ subst (Leads (With There new)) (sym (say-same There said k subject first f is same)) (leads-same f is (value_eq-same f.value first.value same))
        | inr other ↦
            subst (Leads (With There new)) (sym (say-other There said k subject first f is other))
            (leads-other f is (λ e. apart (sym (value_eq-itself f.value) ∙ ap (λ v. value_eq f.value v) e ∙ other)) said.found refl)
      ]

  pub leads-more : Leads (With There new) (say said subject first)
  leads-more = by_first (first_at said.table subject) refl

-- ---- everything that was said, in order

abbrev Behind : (Saying → Type 0) → List Saying → Type 0
Behind There sayings = (e x : Saying) → There e → IsOneOf x sayings → place_lt x.1.place e.1.place ≡ false

leads-all : (There : Saying → Type 0) (said : Said) → Knows There said → Leads There said → (sayings : List Saying) → Behind There sayings → AreInOrder sayings
    → Leads (Also There sayings) (fold say_one said sayings)
leads-all There said k l [] behind order = Leads-change There (Also There []) said (λ e there. inl there) back l
  where
    back : (e : Saying) → Also There [] e → There e
    back e (inl there) = there
    back e (inr none) = elim none [ ]
leads-all There said k l (x ∷ xs) behind order =
    let next = knows-more There said k x.0 x.1 in
    let leads = leads-more There said k l x.0 x.1 (λ e there. behind e x there (inl refl)) in
    Leads-change (Also (With There x) xs) (Also There (x ∷ xs)) _ to back (leads-all (With There x) (say_one said x) next leads xs still order.1)
  where
    still : Behind (With There x) xs
    still e y (inl there) more = behind e y there (inr more)
    still e y (inr is) more = subst (λ (z : Saying). place_lt y.1.place z.1.place ≡ false) (sym is) (order.0 y more)

    to : (e : Saying) → Also (With There x) xs e → Also There (x ∷ xs) e
    to e (inl (inl there)) = inl there
    to e (inl (inr is)) = inr (inl is)
    to e (inr more) = inr (inr more)

    back : (e : Saying) → Also There (x ∷ xs) e → Also (With There x) xs e
    back e (inl there) = inl (inl there)
    back e (inr (inl is)) = inl (inr is)
    back e (inr (inr more)) = inr more

leads-nothing : Leads None_said nothing_said
leads-nothing = record {
  first = λ s f is e there same. elim there [ ];
  sound = λ pair at. elim (none pair at) [ ];
  least = λ pair at a b x y. elim x [ ];
}
  where
    none : (pair : Pair) → None ≡ Some pair → ⊥
    none pair at = cc

-- the pair that is found is the first
pub found-first : (sayings : List Saying) (pair : Pair) → AreInOrder sayings → (fold say_one nothing_said sayings).found ≡ Some pair → IsFirstPair sayings pair
found-first sayings pair order at =
    let all = leads-all None_said nothing_said knows-nothing leads-nothing sayings (λ e x there more. elim there [ ]) order in
    let h = all.sound pair at in
    record {
      contradict = (h.0, h.1, there h.0 h.2, there h.1 h.3, h.4, h.5, h.6);
      first = λ a b x y. all.least pair at a b (inr x) (inr y);
    }
  where
    there : (e : Saying) → Also None_said sayings e → IsOneOf e sayings
    there e (inl none) = elim none [ ]
    there e (inr is) = is
