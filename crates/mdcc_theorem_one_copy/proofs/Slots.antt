-- What a list of transactions leaves of each key, the newest transaction first, and the order of commits of a reduced ledger.
use Rattle.std.specs.Prelude.{◌≡◌, ℕ, suc, ◌+◌, ◌≤◌, cond, List, [], ◌∷◌, ◌++◌, Option, Some, None}
use Rattle.mdcc_base.specs.Key.{key_eq}
use Rattle.mdcc_base.specs.declared.identifiers.TxId.{TxId}
use Rattle.mdcc_base.specs.declared.key.Key.{Key}
use Rattle.mdcc_option.specs.declared.choices.Choice.{Choice}
use Rattle.mdcc_option.specs.declared.items.Item.{Item}
use Rattle.mdcc_option.specs.declared.items.Update.{Update}
use Rattle.mdcc_option.specs.declared.items.Update.TheVariants.{Write, Add}
use Rattle.mdcc_theorem_agreement.proofs.Setups.{Setup}
use Rattle.mdcc_theorem_agreement.proofs.ReducedFacts.{Quantity}
use Rattle.mdcc_theorem_agreement.proofs.ReducedLedger.{Entry, IsCommitted, IsQuantity}
use Rattle.mdcc_theorem_agreement.proofs.ReducedOptions.{In}
use Rattle.mdcc_theorem_agreement.proofs.Totals.{total}

-- what the store has of a key
pub record Slot : Type 0 where
  pub version : ℕ
  pub item : Option Item
  pub deltas : List Choice

abbrev pub on_key : List Choice → Key → Option Choice
on_key [] key = None
on_key (c ∷ cs) key = cond (key_eq c.key key) (Some c) (on_key cs key)

abbrev pub updated : Slot → Choice → Update → Slot
updated sl c (Write b s) = record { version = suc sl.version; item = Some b; deltas = [] }
updated sl c (Add m) = record { version = sl.version; item = sl.item; deltas = c ∷ sl.deltas }

abbrev pub after : Slot → Option Choice → Slot
after sl None = sl
after sl (Some c) = updated sl c c.update

-- what these transactions leave of a key
abbrev pub slot : List (TxId × List Choice) → Key → Slot
slot [] key = record { version = 0; item = None; deltas = [] }
slot (x ∷ done) key = after (slot done key) (on_key x.1 key)

-- a choice suits the store
abbrev pub suits : Setup → Slot → Choice → Update → Type 0
suits z sl c (Write b s) = ((d : Choice) → In d sl.deltas → In d.tx s) × ((u : TxId) → In u s → (d : Choice) × In d sl.deltas × (d.tx ≡ u))
suits s sl c (Add m) =
    ((b : Item) × (sl.item ≡ Some b))
    × ((q : Quantity) → IsQuantity s q → total (λ d. q.amount d.update) sl.deltas + q.amount c.update ≤ q.room sl.item)

abbrev pub Suits : Setup → Slot → Choice → Type 0
Suits s sl c = (sl.version ≡ c.version) × suits s sl c c.update

abbrev pub Applies : Setup → List (TxId × List Choice) → TxId × List Choice → Type 0
Applies s done x = (c : Choice) → In c x.1 → Suits s (slot done c.key) c

-- each transaction applies to what the earlier ones left
abbrev pub IsRun : Setup → List (TxId × List Choice) → Type 0
IsRun s [] = Unit {0}
IsRun s (x ∷ done) = IsRun s done × Applies s done x

-- those that an entry commits, each once
abbrev pub IsBatch : Setup → Entry → List Entry → List (TxId × List Choice) → Type 0
IsBatch s e es [] = Unit {0}
IsBatch s e es (x ∷ xs) =
    IsCommitted s (e ∷ es) x.0 x.1 × (IsCommitted s es x.0 x.1 → ⊥) × ((y : TxId × List Choice) → In y xs → y.0 ≡ x.0 → ⊥) × IsBatch s e es xs

-- the committed transactions in the order in which they became so, the newest first
abbrev pub IsOrder : Setup → List Entry → List (TxId × List Choice) → Type 0
IsOrder s [] done = done ≡ []
IsOrder s (e ∷ es) done =
    (batch : List (TxId × List Choice)) × (older : List (TxId × List Choice)) × (done ≡ batch ++ older) × IsOrder s es older × IsBatch s e es batch
    × ((t : TxId) (cs : List Choice) → IsCommitted s (e ∷ es) t cs → In (t, cs) done)
