-- How what two facts say is put together: the first that says something, the greater ballot, the later vote.
use Rattle.std.proofs.Common.{◌≡◌, true, false, Option, Some, None, refl, sym, ap, ◌∙◌, arith, inl, inr}
use Rattle.std.specs.Option.{option_or}
use Rattle.std.proofs.lemmas.Bool.{cases_Bool}
use Rattle.std.proofs.lemmas.Bool.Decides.{nat_tests}
use Rattle.mdcc_base.specs.Ballot.{ballot_lt, ballot_max, fast_ballot}
use Rattle.mdcc_base.specs.declared.identifiers.Ballot.{Ballot}
use Rattle.mdcc_option.specs.declared.choices.Mark.{Mark}
use Rattle.mdcc_def_protocol.specs.Facts.{later_vote}

-- ---- the first

pub or_left : {X : Type 0} (o : Option X) → option_or None o ≡ o
or_left o = refl

pub or_right : {X : Type 0} (o : Option X) → option_or o None ≡ o
or_right None = refl
or_right (Some x) = refl

pub or_assoc : {X : Type 0} (a b c : Option X) → option_or (option_or a b) c ≡ option_or a (option_or b c)
or_assoc None b c = refl
or_assoc (Some x) b c = refl

-- ---- the greater ballot

pub lt-trans : (a b c : Ballot) → ballot_lt a b ≡ true → ballot_lt b c ≡ true → ballot_lt a c ≡ true
lt-trans a b c h k = grind (arith, nat_tests)

pub lt-back : (a b : Ballot) → ballot_lt a b ≡ true → ballot_lt b a ≡ false
lt-back a b h = grind (arith, nat_tests)

-- where neither step goes up, the two together do not
pub not_lt-trans : (a b c : Ballot) → ballot_lt a b ≡ false → ballot_lt b c ≡ false → ballot_lt a c ≡ false
not_lt-trans a b c h k = grind (arith, nat_tests)

pub not_below_fast : (b : Ballot) → ballot_lt b fast_ballot ≡ false
not_below_fast b = grind (arith, nat_tests)

pub fast_or_above : (b : Ballot) → ballot_lt fast_ballot b ≡ false → b ≡ fast_ballot
fast_or_above b h = grind (arith, nat_tests)

pub one_ballot : (a b : Ballot) → ballot_lt a b ≡ false → ballot_lt b a ≡ false → a ≡ b
one_ballot a b h k = grind (arith, nat_tests)

pub max_left : (b : Ballot) → ballot_max fast_ballot b ≡ b
max_left b =
    elim (cases_Bool (ballot_lt fast_ballot b)) [
      | inl above ↦ rw above refl
      | inr is ↦ rw is (sym (fast_or_above b is))
    ]

pub max_right : (b : Ballot) → ballot_max b fast_ballot ≡ b
max_right b = rw (not_below_fast b) refl

pub max_assoc : (a b c : Ballot) → ballot_max (ballot_max a b) c ≡ ballot_max a (ballot_max b c)
max_assoc a b c =
    elim (cases_Bool (ballot_lt a b)) [
      | inl ab ↦ elim (cases_Bool (ballot_lt b c)) [
        | inl bc ↦ rw (ab, bc, lt-trans a b c ab bc) refl
        | inr bc ↦ rw (ab, bc, ab) refl
      ]
      | inr ab ↦ elim (cases_Bool (ballot_lt b c)) [
        | inl bc ↦ rw (ab, bc) refl
        | inr bc ↦ rw (ab, bc, ab, not_lt-trans a b c ab bc) refl
      ]
    ]

pub max_comm : (a b : Ballot) → ballot_max a b ≡ ballot_max b a
max_comm a b =
    elim (cases_Bool (ballot_lt a b)) [
      | inl ab ↦ rw (ab, lt-back a b ab) refl
      | inr ab ↦ elim (cases_Bool (ballot_lt b a)) [
        | inl ba ↦ rw (ab, ba) refl
        | inr ba ↦ rw (ab, ba) (one_ballot a b ab ba)
      ]
    ]

pub max_self : (a : Ballot) → ballot_max a a ≡ a
max_self a =
    elim (cases_Bool (ballot_lt a a)) [
      | inl above ↦ rw above refl
      | inr not ↦ rw not refl
    ]

pub max_first : (a b c : Ballot) → ballot_max (ballot_max a c) b ≡ ballot_max (ballot_max a b) c
max_first a b c = max_assoc a c b ∙ ap (ballot_max a) (max_comm c b) ∙ sym (max_assoc a b c)

pub max_both : (a b c : Ballot) → ballot_max (ballot_max a c) (ballot_max b c) ≡ ballot_max (ballot_max a b) c
max_both a b c =
    max_first a (ballot_max b c) c
    ∙ ap (λ m. ballot_max m c) (sym (max_assoc a b c))
    ∙ max_assoc (ballot_max a b) c c
    ∙ ap (ballot_max (ballot_max a b)) (max_self c)

-- ---- the later vote

pub later_left : (v : Option (Ballot × Mark)) → later_vote None v ≡ v
later_left v = refl

pub later_right : (v : Option (Ballot × Mark)) → later_vote v None ≡ v
later_right None = refl
later_right (Some v) = refl

pub later_assoc : (a b c : Option (Ballot × Mark)) → later_vote (later_vote a b) c ≡ later_vote a (later_vote b c)
later_assoc None b c = refl
later_assoc (Some a) None c = refl
later_assoc (Some a) (Some b) None =
    elim (cases_Bool (ballot_lt a.0 b.0)) [
      | inl ab ↦ rw ab refl
      | inr ab ↦ rw ab refl
    ]
later_assoc (Some a) (Some b) (Some c) =
    elim (cases_Bool (ballot_lt a.0 b.0)) [
      | inl ab ↦ elim (cases_Bool (ballot_lt b.0 c.0)) [
        | inl bc ↦ rw (ab, bc, lt-trans a.0 b.0 c.0 ab bc) refl
        | inr bc ↦ rw (ab, bc, ab) refl
      ]
      | inr ab ↦ elim (cases_Bool (ballot_lt b.0 c.0)) [
        | inl bc ↦ rw (ab, bc) refl
        | inr bc ↦ rw (ab, bc, ab, not_lt-trans a.0 b.0 c.0 ab bc) refl
      ]
    ]
