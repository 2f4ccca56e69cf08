-- The tests of subjects and of values are exact.
use Rattle.std.proofs.Common.{◌≡◌, Bool, Decides, false, refl, ap, true}
use Rattle.std.specs.Bool.{beq}
use Rattle.std.proofs.lemmas.Bool.Decides.{Decides-and, Decides-eqb, Decides-like}
use Rattle.mdcc_base.specs.Ballot.{ballot_eq}
use Rattle.mdcc_base.specs.declared.identifiers.Ballot.{Ballot}
use Rattle.mdcc_option.proofs.Equal.{Decides-choices, Decides-key, Decides-tx, Decides-write_set}
use Rattle.mdcc_audit.specs.Subjects.{subject_eq}
use Rattle.mdcc_audit.specs.Values.{value_eq}
use Rattle.mdcc_audit.specs.declared.subjects.Subject.{Subject}
use Rattle.mdcc_audit.specs.declared.values.Value.{Value}

pub value_eq-same : (a b : Value) → value_eq a b ≡ true → a ≡ b
value_eq-same (Value.Choices a) (Value.Choices b) e = ap Value.Choices ((Decides-choices a b).0 e)
value_eq-same (Value.Places a) (Value.Places b) e = ap Value.Places ((Decides-write_set a b).0 e)
value_eq-same Value.Refusal Value.Refusal e = refl
value_eq-same (Value.Choices a) (Value.Places b) e = cc
value_eq-same (Value.Choices a) Value.Refusal e = cc
value_eq-same (Value.Places a) (Value.Choices b) e = cc
value_eq-same (Value.Places a) Value.Refusal e = cc
value_eq-same Value.Refusal (Value.Choices b) e = cc
value_eq-same Value.Refusal (Value.Places b) e = cc

pub value_eq-itself : (a : Value) → value_eq a a ≡ true
value_eq-itself (Value.Choices a) = (Decides-choices a a).1 refl
value_eq-itself (Value.Places a) = (Decides-write_set a a).1 refl
value_eq-itself Value.Refusal = refl

Decides-bool : (a b : Bool) → Decides (beq a b) (a ≡ b)
Decides-bool true true = (λ e. refl, λ e. refl)
Decides-bool false false = (λ e. refl, λ e. refl)
Decides-bool true false = (λ e. cc, λ e. cc)
Decides-bool false true = (λ e. cc, λ e. cc)

Decides-ballot : (a b : Ballot) → Decides (ballot_eq a b) (a ≡ b)
Decides-ballot a b =
    Decides-like (ballot_eq a b) (λ h i. record { round = h.0 i; epoch = h.1.0 i; centre = h.1.1 i })
    (λ e. (ap (λ (t : Ballot). t.round) e, (ap (λ (t : Ballot). t.epoch) e, ap (λ (t : Ballot). t.centre) e)))
    (Decides-and _ _ (Decides-eqb _ _) (Decides-and _ _ (Decides-eqb _ _) (Decides-eqb _ _)))

pub Decides-subject : (a b : Subject) → Decides (subject_eq a b) (a ≡ b)
Decides-subject a b =
    Decides-like (subject_eq a b)
    (λ h i. record { tx = h.0 i; whole = h.1.0 i; key = h.1.1.0 i; version = h.1.1.1.0 i; ballot = h.1.1.1.1 i })
    (λ e. (ap (λ (s : Subject). s.tx) e, (ap (λ (s : Subject). s.whole) e, (ap (λ (s : Subject). s.key) e, (ap (λ (s : Subject). s.version) e, ap (λ (s : Subject). s.ballot) e)))))
    (Decides-and _ _ (Decides-tx _ _) (Decides-and _ _ (Decides-bool _ _) (Decides-and _ _ (Decides-key _ _) (Decides-and _ _ (Decides-eqb _ _) (Decides-ballot _ _)))))
