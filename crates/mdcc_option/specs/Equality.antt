-- Tests that two values are equal.
use Rattle.std.specs.Prelude.{ℕ, ℤ, ◌≡◌, ◌↔◌, Bool, true, false, ◌&&◌, ◌==◌, nat_eq, List}
use Rattle.std.specs.Ordering.{int_eq}
use Rattle.std.specs.Cmp.Lexicographic.{pointwise}
use Rattle.mdcc_base.specs.declared.identifiers.TxId.{TxId}
use Rattle.mdcc_base.specs.TxId.{tx_eq}
use Rattle.mdcc_base.specs.Key.{key_eq}
use Rattle.mdcc_option.specs.declared.items.Item.{Item}
use Rattle.mdcc_option.specs.declared.items.Token.{Token}
use Rattle.mdcc_option.specs.declared.items.Update.{Update}
use Rattle.mdcc_option.specs.declared.items.Update.TheVariants.{Write, Add}
use Rattle.mdcc_option.specs.declared.choices.Choice.{Choice}
use Rattle.mdcc_option.specs.declared.choices.Mark.{Mark}
use Rattle.mdcc_option.specs.declared.choices.Mark.TheVariants.{Accept, Reject}
use Rattle.mdcc_option.specs.declared.choices.Outcome.{Outcome}
use Rattle.mdcc_option.specs.declared.choices.Outcome.TheVariants.{Commit, Abort}

-- the test passes at equal values, and at no others
abbrev pub IsExact : {X : Type 0} → (X → X → Bool) → Type 0
IsExact {X = X} same = (a b : X) → (same a b ≡ true) ↔ (a ≡ b)

-- ---- lists

abbrev pub txs_eq : List TxId → List TxId → Bool
txs_eq = pointwise tx_eq

abbrev pub ints_eq : List ℤ → List ℤ → Bool
ints_eq = pointwise int_eq

-- an attribute and its amount
abbrev pub amount_eq : ℕ × ℤ → ℕ × ℤ → Bool
amount_eq a b = a.0 == b.0 && int_eq a.1 b.1

abbrev pub amounts_eq : List (ℕ × ℤ) → List (ℕ × ℤ) → Bool
amounts_eq = pointwise amount_eq

-- a key and its version
abbrev pub written_eq : List ℕ × ℕ → List ℕ × ℕ → Bool
written_eq a b = key_eq a.0 b.0 && a.1 == b.1

abbrev pub write_set_eq : List (List ℕ × ℕ) → List (List ℕ × ℕ) → Bool
write_set_eq = pointwise written_eq

-- ---- items and what is done to them

abbrev pub item_eq : Item → Item → Bool
item_eq a b = pointwise nat_eq a.body b.body && ints_eq a.values b.values

abbrev pub token_eq : Token → Token → Bool
token_eq a b = a.version == b.version && txs_eq a.seen b.seen

abbrev pub update_eq : Update → Update → Bool
update_eq (Write item seen) (Write item' seen') = item_eq item item' && txs_eq seen seen'
update_eq (Add amounts) (Add amounts') = amounts_eq amounts amounts'
update_eq _ _ = false

-- ---- choices and what becomes of them

abbrev pub choice_eq : Choice → Choice → Bool
choice_eq a b =
    tx_eq a.tx b.tx
    && (key_eq a.key b.key && (a.version == b.version && (update_eq a.update b.update && write_set_eq a.write_set b.write_set)))

abbrev pub choices_eq : List Choice → List Choice → Bool
choices_eq = pointwise choice_eq

abbrev pub mark_eq : Mark → Mark → Bool
mark_eq (Accept a) (Accept b) = choice_eq a b
mark_eq Reject Reject = true
mark_eq _ _ = false

abbrev pub outcome_eq : Outcome → Outcome → Bool
outcome_eq (Commit a) (Commit b) = choices_eq a b
outcome_eq Abort Abort = true
outcome_eq _ _ = false
