-- The tests decide equality, and the order of ballots.
use Rattle.std.proofs.Common.{◌≡◌, [], ◌∷◌, refl, sym, ap, ◌∙◌, Option, Some, None, Decides}
use Rattle.std.proofs.lemmas.Bool.Decides.{Decides-eqb, Decides-and, Decides-or, Decides-ltb, Decides-like}
use Rattle.mdcc_base.specs.Ballot.{ballot_lt}
use Rattle.mdcc_base.specs.declared.identifiers.Ballot.{Ballot}
use Rattle.mdcc_option.specs.declared.choices.Mark.{Mark}
use Rattle.mdcc_option.specs.Equality.{mark_eq}
pub use Rattle.mdcc_option.proofs.Equal.{Decides-tx, Decides-key, Decides-txs, Decides-item, Decides-update, Decides-choice, Decides-mark}
use Rattle.mdcc_struct.specs.Options.{is_mark}
use Rattle.mdcc_struct.specs.declared.options.Options.{Options}
use Rattle.mdcc_def_protocol.specs.Marks.{options_eq}
pub use Rattle.mdcc_theorem_ledger.proofs.TestsDecide.{Decides-ballot}
use Rattle.mdcc_theorem_agreement.proofs.Ballots.{Below}
use Rattle.mdcc_theorem_agreement.proofs.ReducedOptions.{Place, place_eq}

pub Decides-ballot_lt : (k m : Ballot) → Decides (ballot_lt k m) (Below k m)
Decides-ballot_lt k m =
    Decides-or _ _ (Decides-ltb _ _) (Decides-and _ _ (Decides-eqb _ _)
    (Decides-or _ _ (Decides-ltb _ _) (Decides-and _ _ (Decides-eqb _ _) (Decides-ltb _ _))))

pub same_pair : {A B : Type 0} (p q : A × B) → (p.0 ≡ q.0) × (p.1 ≡ q.1) → p ≡ q
same_pair {A = A} {B = B} p q h =
    let first : A × B = (p.0, p.1) in
    let second : A × B = (q.0, p.1) in
    let one : p ≡ second = ap (λ (z : A). let w : A × B = (z, p.1) in w) h.0 in
    let other : second ≡ q = ap (λ (z : B). let w : A × B = (q.0, z) in w) h.1 in
    one ∙ other

pub same_place : (i j : Place) → (i.key ≡ j.key) × (i.version ≡ j.version) → i ≡ j
same_place i j h k = record { key = h.0 k; version = h.1 k }

pub Decides-place : (i j : Place) → Decides (place_eq i j) (i ≡ j)
Decides-place i j =
    Decides-like (place_eq i j) (same_place i j) (λ e. (ap (λ (x : Place). x.key) e, ap (λ (x : Place). x.version) e))
    (Decides-and _ _ (Decides-key _ _) (Decides-eqb _ _))

pub Decides-options : (a b : Options) → Decides (options_eq a b) (a ≡ b)
Decides-options [] [] = ((λ e. refl), (λ e. refl))
Decides-options [] (b ∷ bs) = ((λ e. cc), (λ e. cc))
Decides-options (a ∷ as') [] = ((λ e. cc), (λ e. cc))
Decides-options (a ∷ as') (b ∷ bs) =
    Decides-like (options_eq (a ∷ as') (b ∷ bs)) (λ h. let p : a ≡ b = same_pair a b (h.0, h.1.0) in let q : as' ≡ bs = h.1.1 in cc)
    (λ e. let p : a ≡ b = cc in (ap (λ z. z.0) p, (ap (λ z. z.1) p, cc)))
    (Decides-and _ _ (Decides-tx _ _) (Decides-and _ _ (Decides-mark _ _) (Decides-options as' bs)))

pub Decides-is_mark : (o : Option Mark) (x : Mark) → Decides (is_mark x o) (o ≡ Some x)
Decides-is_mark None x = ((λ e. cc), (λ e. cc))
Decides-is_mark (Some y) x = Decides-like (mark_eq x y) (λ e. ap Some (sym e)) (λ e. cc) (Decides-mark x y)
