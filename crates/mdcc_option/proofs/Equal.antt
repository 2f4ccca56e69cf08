-- The tests of equality decide it.
use Rattle.std.proofs.Common.{◌≡◌, ℕ, ℤ, Bool, ◌&&◌, List, [], ◌∷◌, refl, ap, Decides}
use Rattle.std.specs.Ordering.{int_eq}
use Rattle.std.specs.Cmp.Lexicographic.{pointwise, bytes_decides}
use Rattle.std.proofs.lemmas.Bool.Decides.{Decides-eqb, Decides-and, Decides-int_eq, Decides-like}
use Rattle.mdcc_base.specs.declared.identifiers.TxId.{TxId}
use Rattle.mdcc_base.specs.TxId.{tx_eq}
use Rattle.mdcc_base.specs.Key.{key_eq}
use Rattle.mdcc_option.specs.declared.items.Item.{Item}
use Rattle.mdcc_option.specs.declared.items.Token.{Token}
use Rattle.mdcc_option.specs.declared.items.Update.{Update}
use Rattle.mdcc_option.specs.declared.items.Update.TheVariants.{Write, Add}
use Rattle.mdcc_option.specs.declared.choices.Choice.{Choice}
use Rattle.mdcc_option.specs.declared.choices.Mark.{Mark}
use Rattle.mdcc_option.specs.declared.choices.Mark.TheVariants.{Accept, Reject}
use Rattle.mdcc_option.specs.declared.choices.Outcome.{Outcome}
use Rattle.mdcc_option.specs.declared.choices.Outcome.TheVariants.{Commit, Abort}
use Rattle.mdcc_option.specs.Equality.{txs_eq, ints_eq, amount_eq, amounts_eq, written_eq, write_set_eq, item_eq, token_eq, update_eq, choice_eq, choices_eq, mark_eq, outcome_eq}

-- a test of each element decides equality of lists
pub Decides-pointwise : {X : Type 0} (same : X → X → Bool) (each : (a b : X) → Decides (same a b) (a ≡ b)) (as' bs : List X) → Decides (pointwise same as' bs) (as' ≡ bs)
Decides-pointwise same each [] [] = (λ e. refl, λ e. refl)
Decides-pointwise same each [] (b ∷ bs) = (λ e. cc, λ e. cc)
Decides-pointwise same each (a ∷ as') [] = (λ e. cc, λ e. cc)
Decides-pointwise same each (a ∷ as') (b ∷ bs) =
    Decides-like (same a b && pointwise same as' bs) (λ h. cc) (λ e. (cc, cc)) (Decides-and _ _ (each a b) (Decides-pointwise same each as' bs))

pub Decides-key : (a b : List ℕ) → Decides (key_eq a b) (a ≡ b)
Decides-key a b = bytes_decides a b

pub Decides-tx : (a b : TxId) → Decides (tx_eq a b) (a ≡ b)
Decides-tx a b =
    Decides-like (tx_eq a b) (λ h i. record { centre = h.0 i; epoch = h.1.0 i; seq = h.1.1 i })
    (λ e. (ap (λ (t : TxId). t.centre) e, (ap (λ (t : TxId). t.epoch) e, ap (λ (t : TxId). t.seq) e)))
    (Decides-and _ _ (Decides-eqb _ _) (Decides-and _ _ (Decides-eqb _ _) (Decides-eqb _ _)))

pub Decides-txs : (as' bs : List TxId) → Decides (txs_eq as' bs) (as' ≡ bs)
Decides-txs = Decides-pointwise tx_eq Decides-tx

pub Decides-ints : (as' bs : List ℤ) → Decides (ints_eq as' bs) (as' ≡ bs)
Decides-ints = Decides-pointwise int_eq Decides-int_eq

Decides-amount : (a b : ℕ × ℤ) → Decides (amount_eq a b) (a ≡ b)
Decides-amount a b =
    Decides-like (amount_eq a b) (λ h i. (h.0 i, h.1 i)) (λ e. (ap (λ (p : ℕ × ℤ). p.0) e, ap (λ (p : ℕ × ℤ). p.1) e))
    (Decides-and _ _ (Decides-eqb _ _) (Decides-int_eq _ _))

pub Decides-amounts : (as' bs : List (ℕ × ℤ)) → Decides (amounts_eq as' bs) (as' ≡ bs)
Decides-amounts = Decides-pointwise amount_eq Decides-amount

Decides-written : (a b : List ℕ × ℕ) → Decides (written_eq a b) (a ≡ b)
Decides-written a b =
    Decides-like (written_eq a b) (λ h i. (h.0 i, h.1 i)) (λ e. (ap (λ (p : List ℕ × ℕ). p.0) e, ap (λ (p : List ℕ × ℕ). p.1) e))
    (Decides-and _ _ (Decides-key _ _) (Decides-eqb _ _))

pub Decides-write_set : (as' bs : List (List ℕ × ℕ)) → Decides (write_set_eq as' bs) (as' ≡ bs)
Decides-write_set = Decides-pointwise written_eq Decides-written

pub Decides-item : (a b : Item) → Decides (item_eq a b) (a ≡ b)
Decides-item a b =
    Decides-like (item_eq a b) (λ h i. record { body = h.0 i; values = h.1 i })
    (λ e. (ap (λ (x : Item). x.body) e, ap (λ (x : Item). x.values) e))
    (Decides-and _ _ (Decides-key _ _) (Decides-ints _ _))

pub Decides-token : (a b : Token) → Decides (token_eq a b) (a ≡ b)
Decides-token a b =
    Decides-like (token_eq a b) (λ h i. record { version = h.0 i; seen = h.1 i })
    (λ e. (ap (λ (x : Token). x.version) e, ap (λ (x : Token). x.seen) e))
    (Decides-and _ _ (Decides-eqb _ _) (Decides-txs _ _))

pub Decides-update : (a b : Update) → Decides (update_eq a b) (a ≡ b)
Decides-update (Write item seen) (Write item' seen') =
    Decides-like (item_eq item item' && txs_eq seen seen') (λ h i. Write (h.0 i) (h.1 i)) (λ e. (cc, cc))
    (Decides-and _ _ (Decides-item _ _) (Decides-txs _ _))
Decides-update (Write item seen) (Add amounts) = (λ e. cc, λ e. cc)
Decides-update (Add amounts) (Write item seen) = (λ e. cc, λ e. cc)
Decides-update (Add amounts) (Add amounts') =
    Decides-like (amounts_eq amounts amounts') (λ e. ap Add e) (λ e. cc) (Decides-amounts _ _)

pub Decides-choice : (a b : Choice) → Decides (choice_eq a b) (a ≡ b)
Decides-choice a b =
    Decides-like (choice_eq a b)
    (λ h i. record { tx = h.0 i; key = h.1.0 i; version = h.1.1.0 i; update = h.1.1.1.0 i; write_set = h.1.1.1.1 i })
    (λ e. (
      ap (λ (x : Choice). x.tx) e,
      (
        ap (λ (x : Choice). x.key) e,
        (
          ap (λ (x : Choice). x.version) e,
          (ap (λ (x : Choice). x.update) e, ap (λ (x : Choice). x.write_set) e),
        ),
      ),
    ))
    (Decides-and _ _ (Decides-tx _ _) (Decides-and _ _ (Decides-key _ _) (Decides-and _ _ (Decides-eqb _ _)
    (Decides-and _ _ (Decides-update _ _) (Decides-write_set _ _)))))

pub Decides-choices : (as' bs : List Choice) → Decides (choices_eq as' bs) (as' ≡ bs)
Decides-choices = Decides-pointwise choice_eq Decides-choice

pub Decides-mark : (a b : Mark) → Decides (mark_eq a b) (a ≡ b)
Decides-mark (Accept a) (Accept b) = Decides-like (choice_eq a b) (λ e. ap Accept e) (λ e. cc) (Decides-choice a b)
Decides-mark (Accept a) Reject = (λ e. cc, λ e. cc)
Decides-mark Reject (Accept b) = (λ e. cc, λ e. cc)
Decides-mark Reject Reject = (λ e. refl, λ e. refl)

pub Decides-outcome : (a b : Outcome) → Decides (outcome_eq a b) (a ≡ b)
Decides-outcome (Commit a) (Commit b) = Decides-like (choices_eq a b) (λ e. ap Commit e) (λ e. cc) (Decides-choices a b)
Decides-outcome (Commit a) Abort = (λ e. cc, λ e. cc)
Decides-outcome Abort (Commit b) = (λ e. cc, λ e. cc)
Decides-outcome Abort Abort = (λ e. refl, λ e. refl)
