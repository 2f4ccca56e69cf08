-- The order of ballots.
use Rattle.std.proofs.Common.{arith, false, inl, inr, refl, subst, sym, true, ◌<◌, ◌∙◌, ◌≡◌, ◌⊎◌}
use Rattle.std.specs.Bool.{Decides}
use Rattle.std.proofs.lemmas.Bool.{cases_Bool, false_from_ne_true, true≢false}
use Rattle.std.proofs.lemmas.Bool.Decides.{Decides-and, Decides-eqb, Decides-ltb, Decides-or}
use Rattle.mdcc_base.specs.declared.identifiers.Ballot.{Ballot}
use Rattle.mdcc_base.specs.Ballot.{ballot_eq, ballot_lt, ballot_max, fast_ballot, is_fast}
use Rattle.mdcc_theorem_trace_states.proofs.Tests.{Decides-ballot, same_ballot}

abbrev pub Below : Ballot → Ballot → Type 0
Below k m =
    (k.round < m.round)
    ⊎ ((k.round ≡ m.round) × ((k.epoch < m.epoch) ⊎ ((k.epoch ≡ m.epoch) × (k.centre < m.centre))))

pub Decides-below : (k m : Ballot) → Decides (ballot_lt k m) (Below k m)
Decides-below k m =
    Decides-or _ _ (Decides-ltb _ _) (Decides-and _ _ (Decides-eqb _ _)
    (Decides-or _ _ (Decides-ltb _ _) (Decides-and _ _ (Decides-eqb _ _) (Decides-ltb _ _))))

pub lt-trans : (a b c : Ballot) → ballot_lt a b ≡ true → ballot_lt b c ≡ true → ballot_lt a c ≡ true
lt-trans a b c h g =
    let x = (Decides-below a b).0 h in
    let y = (Decides-below b c).0 g in
    (Decides-below a c).1 (trans a b c x y)
  where
    trans : (a b c : Ballot) → Below a b → Below b c → Below a c
    trans a b c x y = grind arith

pub lt-irrefl : (a : Ballot) → ballot_lt a a ≡ false
lt-irrefl a = false_from_ne_true _ (λ e. not-below ((Decides-below a a).0 e))
  where
    not-below : Below a a → ⊥
    not-below x = grind arith

pub lt-cases : (a b : Ballot) → ballot_lt a b ≡ false → (a ≡ b) ⊎ (ballot_lt b a ≡ true)
lt-cases a b h =
    elim (cases_Bool (ballot_eq a b)) [
      | inl e ↦ inl ((Decides-ballot a b).0 e)
      | inr e ↦ inr ((Decides-below b a).1 (total (λ x. true≢false (sym ((Decides-below a b).1 x) ∙ h)) (λ x. true≢false (sym ((Decides-ballot a b).1 (same_ballot a b x)) ∙ e))))
    ]
  where
    total : (Below a b → ⊥) → ((a.round ≡ b.round) × ((a.epoch ≡ b.epoch) × (a.centre ≡ b.centre)) → ⊥) → Below b a
    total n m = grind arith

-- not below, twice
pub ge-trans : (a b c : Ballot) → ballot_lt a b ≡ false → ballot_lt b c ≡ false → ballot_lt a c ≡ false
ge-trans a b c h g =
    elim (lt-cases a b h) [
      | inl s ↦ subst (λ z. ballot_lt z c ≡ false) (sym s) g
      | inr l ↦ elim (lt-cases b c g) [
        | inl s ↦ subst (λ z. ballot_lt a z ≡ false) s h
        | inr m ↦ let k = lt-trans c b a m l in not-both a c k
      ]
    ]
  where
    not-both : (a c : Ballot) → ballot_lt c a ≡ true → ballot_lt a c ≡ false
    not-both a c k = elim (cases_Bool (ballot_lt a c)) [ inl e ↦ absurd (true≢false (sym (lt-trans a c a e k) ∙ lt-irrefl a)) | inr e ↦ e ]

pub fast-least : (m : Ballot) → ballot_lt m fast_ballot ≡ false
fast-least m = false_from_ne_true _ (λ e. none ((Decides-below m fast_ballot).0 e))
  where
    none : Below m fast_ballot → ⊥
    none x = grind arith

pub fast-below : (m : Ballot) → is_fast m ≡ false → ballot_lt fast_ballot m ≡ true
fast-below m h = elim (lt-cases m fast_ballot (fast-least m)) [ inl s ↦ absurd (true≢false (sym ((Decides-ballot m fast_ballot).1 s) ∙ h)) | inr l ↦ l ]

pub max-fast : (m : Ballot) → ballot_max m fast_ballot ≡ m
max-fast m = let e = fast-least m in rw e refl

-- the greater of two is not below either
pub max-left : (a b m : Ballot) → ballot_lt a m ≡ false → ballot_lt (ballot_max a b) m ≡ false
max-left a b m h =
    elim (cases_Bool (ballot_lt a b)) [
      | inl e ↦ rw e (ge-trans b a m (back a b e) h)
      | inr e ↦ rw e h
    ]
  where
    back : (a b : Ballot) → ballot_lt a b ≡ true → ballot_lt b a ≡ false
    back a b k = elim (cases_Bool (ballot_lt b a)) [ inl e ↦ absurd (true≢false (sym (lt-trans b a b e k) ∙ lt-irrefl b)) | inr e ↦ e ]

pub max-right : (a b m : Ballot) → ballot_lt b m ≡ false → ballot_lt (ballot_max a b) m ≡ false
max-right a b m h =
    elim (cases_Bool (ballot_lt a b)) [
      | inl e ↦ rw e h
      | inr e ↦ rw e (ge-trans a b m e h)
    ]
