-- The tests of the protocol decide equality.
use Rattle.std.proofs.Common.{List, None, Option, Some, [], ap, refl, sym, true, ◌∙◌, ◌∷◌, ◌≡◌}
use Rattle.std.specs.Bool.{Decides}
use Rattle.std.proofs.lemmas.Bool.Decides.{Decides-and, Decides-like}
use Rattle.mdcc_base.specs.declared.identifiers.Ballot.{Ballot}
use Rattle.mdcc_option.specs.Equality.{mark_eq}
use Rattle.mdcc_option.specs.declared.choices.Mark.{Mark}
use Rattle.mdcc_struct.specs.Options.{is_mark}
use Rattle.mdcc_struct.specs.declared.options.Options.{Options}
use Rattle.mdcc_option.specs.declared.cluster.Cluster.{Cluster}
use Rattle.mdcc_def_ledger.specs.AllowedFacts.{MayAdd}
use Rattle.mdcc_def_ledger.specs.BootTest.{is_allowed_fact}
use Rattle.mdcc_def_protocol.specs.Marks.{options_eq}
use Rattle.mdcc_def_messages.specs.declared.facts.Fact.{Fact}
use Rattle.mdcc_theorem_ledger.proofs.MayAddDecided.{Decides-fact}
pub use Rattle.mdcc_option.proofs.Equal.{Decides-tx, Decides-key, Decides-txs, Decides-item, Decides-update, Decides-choice, Decides-mark}
pub use Rattle.mdcc_theorem_ledger.proofs.TestsDecide.{Decides-ballot}

pub same_ballot : (k m : Ballot) → (k.round ≡ m.round) × ((k.epoch ≡ m.epoch) × (k.centre ≡ m.centre)) → k ≡ m
same_ballot k m h z = record { round = h.0 z; epoch = h.1.0 z; centre = h.1.1 z }

-- the first mark is tested against the second
pub Decides-is_mark : (x : Mark) (o : Option Mark) → Decides (is_mark x o) (o ≡ Some x)
Decides-is_mark x None = ((λ e. cc), (λ e. cc))
Decides-is_mark x (Some y) = Decides-like (mark_eq x y) (λ e. ap Some (sym e)) (λ e. cc) (Decides-mark x y)

pub same_pair : {A B : Type 0} (p q : A × B) → (p.0 ≡ q.0) × (p.1 ≡ q.1) → p ≡ q
same_pair {A = A} {B = B} p q h =
    let first : A × B = (p.0, p.1) in
    let second : A × B = (q.0, p.1) in
    let one : p ≡ second = ap (λ (z : A). let w : A × B = (z, p.1) in w) h.0 in
    let other : second ≡ q = ap (λ (z : B). let w : A × B = (q.0, z) in w) h.1 in
    one ∙ other

pub Decides-options : (a b : Options) → Decides (options_eq a b) (a ≡ b)
Decides-options [] [] = ((λ e. refl), (λ e. refl))
Decides-options [] (b ∷ bs) = ((λ e. cc), (λ e. cc))
Decides-options (a ∷ as') [] = ((λ e. cc), (λ e. cc))
Decides-options (a ∷ as') (b ∷ bs) =
    Decides-like (options_eq (a ∷ as') (b ∷ bs)) (λ h. let p : a ≡ b = same_pair a b (h.0, h.1.0) in let q : as' ≡ bs = h.1.1 in cc)
    (λ e. let p : a ≡ b = cc in (ap (λ z. z.0) p, (ap (λ z. z.1) p, cc)))
    (Decides-and _ _ (Decides-tx _ _) (Decides-and _ _ (Decides-mark _ _) (Decides-options as' bs)))

-- the test of a fact shows that it may be added, and the other way round
pub may-add : (cluster : Cluster) (facts : List Fact) (fact : Fact) → is_allowed_fact cluster facts fact ≡ true → MayAdd cluster facts fact
may-add cluster facts fact h = (Decides-fact cluster facts fact).0 h

pub add-test : (cluster : Cluster) (facts : List Fact) (fact : Fact) → MayAdd cluster facts fact → is_allowed_fact cluster facts fact ≡ true
add-test cluster facts fact h = (Decides-fact cluster facts fact).1 h
