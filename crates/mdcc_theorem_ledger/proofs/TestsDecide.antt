-- Tests that decide what they say.
use Rattle.std.proofs.Common.{◌≡◌, ℕ, ◌≤◌, Bool, true, false, cond, not, ◌==◌, nat_le, List, [], ◌∷◌, length, refl, ap, arith, inl, inr, Option, Some, None, is_some, Decides, MatchBool, filter, leb-true, le-leb}
use Rattle.std.proofs.lemmas.Bool.{cases_Bool, eqb-true, eq-eqb}
use Rattle.std.proofs.lemmas.Bool.Decides.{Decides-eqb, Decides-and, Decides-like}
use Rattle.mdcc_base.specs.declared.identifiers.Ballot.{Ballot}
use Rattle.mdcc_base.specs.Ballot.{ballot_eq, fast_ballot, is_fast}

pub Decides-true : (b : Bool) → Decides b (b ≡ true)
Decides-true b = (λ e. e, λ e. e)

pub Decides-false : (b : Bool) → Decides (not b) (b ≡ false)
Decides-false true = (λ e. cc, λ e. cc)
Decides-false false = (λ e. refl, λ e. refl)

pub Decides-none : {X : Type 0} (o : Option X) → Decides (not (is_some o)) (o ≡ None)
Decides-none None = (λ e. refl, λ e. refl)
Decides-none (Some x) = (λ e. cc, λ e. cc)

pub Decides-leb : (a b : ℕ) → Decides (nat_le a b) (a ≤ b)
Decides-leb a b = (leb-true a b, le-leb a b)

-- by the one test or by the other
pub Decides-if : {P Q : Type 0} (b x y : Bool) → Decides x P → Decides y Q → Decides (cond b x y) (MatchBool b P Q)
Decides-if true x y d k = d
Decides-if false x y d k = k

pub Decides-ballot : (a b : Ballot) → Decides (ballot_eq a b) (a ≡ b)
Decides-ballot a b =
    Decides-like (ballot_eq a b) (λ h i. record { round = h.0 i; epoch = h.1.0 i; centre = h.1.1 i })
    (λ e. (ap (λ (k : Ballot). k.round) e, (ap (λ (k : Ballot). k.epoch) e, ap (λ (k : Ballot). k.centre) e)))
    (Decides-and _ _ (Decides-eqb _ _) (Decides-and _ _ (Decides-eqb _ _) (Decides-eqb _ _)))

pub Decides-fast : (ballot : Ballot) → Decides (is_fast ballot) (ballot ≡ fast_ballot)
Decides-fast ballot = Decides-ballot ballot fast_ballot

-- ---- a filter that keeps as many keeps all

kept-few : {X : Type 0} (test : X → Bool) (xs : List X) → length (filter test xs) ≤ length xs
kept-few test [] = omega arith
kept-few test (x ∷ xs) =
    elim (cases_Bool (test x)) [
      | inl e ↦ rw e (omega (arith, kept-few test xs))
      | inr e ↦ rw e (omega (arith, kept-few test xs))
    ]

kept-all : {X : Type 0} (test : X → Bool) (xs : List X) → length (filter test xs) ≡ length xs → filter test xs ≡ xs
kept-all test [] h = refl
kept-all {X = X} test (x ∷ xs) h =
    elim (cases_Bool (test x)) [
      | inl e ↦
          let more : length (x ∷ filter test xs) ≡ length (x ∷ xs) = rw e at h in
          let rest : length (filter test xs) ≡ length xs = omega arith in
          rw e (ap (λ (ys : List X). x ∷ ys) (kept-all test xs rest))
      | inr e ↦
          let less : length (filter test xs) ≡ length (x ∷ xs) = rw e at h in
          absurd (omega (arith, kept-few test xs))
    ]

pub Decides-kept_all : {X : Type 0} (test : X → Bool) (xs : List X) → Decides (length (filter test xs) == length xs) (filter test xs ≡ xs)
Decides-kept_all test xs = (λ e. kept-all test xs (eqb-true _ _ e), λ e. eq-eqb _ _ (ap length e))
