-- The one-copy store of versioned, bounded items: what the protocol is for. No centre, ballot or message stands in it.
use Rattle.std.specs.Prelude.{ℕ, ◌+◌, ◌-◌, ◌^◌, ℤ, pos, negsuc, ◌+ℤ◌, Bool, ◌&&◌, IsTrue, ◌==◌, nat_le, int_lt, min, if◌then◌else◌, is_some, fold, List, [], ◌∷◌, length, map, Option, Some, None, option_and_then, unwrap_or}
use Rattle.std.specs.List.{enumerate_from, list_all}
use Rattle.mdcc_base.specs.declared.identifiers.TxId.{TxId}
use Rattle.mdcc_base.specs.TxId.{tx_lt}
use Rattle.mdcc_base.specs.Key.{key_eq, key_lt}
use Rattle.mdcc_option.specs.Bounds.{are_within}
use Rattle.mdcc_option.specs.Equality.{txs_eq}
use Rattle.mdcc_option.specs.Held.{Held}
use Rattle.mdcc_option.specs.declared.items.Item.{Item}
use Rattle.mdcc_option.specs.declared.items.Delta.{Delta}
use Rattle.mdcc_option.specs.declared.items.Token.{Token}
use Rattle.mdcc_option.specs.declared.items.Update.{Update}
use Rattle.mdcc_option.specs.declared.items.Update.TheVariants.{Write, Add}
use Rattle.mdcc_option.specs.declared.choices.Choice.{Choice}
use Rattle.mdcc_option.specs.declared.one_copy.Applied.{Applied}
use Rattle.mdcc_option.specs.declared.one_copy.Applied.TheVariants.{Done, Refused}

-- what is held of each key; a key that was never written has version 0 and no item
abbrev pub OneCopyStore : Type 0
OneCopyStore = List ℕ → Option Held

abbrev pub empty_store : OneCopyStore
empty_store key = None

abbrev pub version_held : Option Held → ℕ
version_held None = 0
version_held (Some held) = held.version

abbrev pub deltas_in : Option Held → List Delta
deltas_in None = []
deltas_in (Some held) = held.deltas

-- ---- item versions

-- the amount that is added at an attribute, 0 where it is not named
abbrev pub amount_at : ℕ → List (ℕ × ℤ) → ℤ
amount_at attribute [] = pos 0
amount_at attribute (a ∷ as') = if a.0 == attribute then a.1 else amount_at attribute as'

-- the value of the attribute at a place: the base value plus the amounts of the deltas
abbrev pub value_after : List Delta → ℕ × ℤ → ℤ
value_after deltas base = fold (λ value delta. value +ℤ amount_at (base.0 + 1) delta.amounts) base.1 deltas

abbrev pub values_after : Held → List ℤ
values_after held = map (value_after held.deltas) (enumerate_from 0 held.base.values)

-- each value within its bounds, and at most 64 deltas
abbrev pub is_in_bounds : List (ℤ × ℤ) → Held → Bool
is_in_bounds schema held = are_within schema (values_after held) && nat_le (length held.deltas) 64

-- ---- one choice

-- a version plus one stops at 2^64 - 1
abbrev pub next_version : ℕ → ℕ
next_version version = min (version + 1) (2 ^ 64 - 1)

-- the transactions of the deltas
abbrev pub seen_of : List Delta → List TxId
seen_of deltas = map (λ delta. delta.tx) deltas

-- a Write's token equals the present version and the set of the present deltas; it gives the next version
abbrev pub written : ℕ → Item → List TxId → Option Held → Option Held
written version item seen held =
    if version_held held == version && txs_eq (seen_of (deltas_in held)) seen
    then Some (record { version = next_version version; base = item; deltas = [] })
    else None

-- the delta put before the first of a later transaction
abbrev pub with_delta : List Delta → Delta → List Delta
with_delta [] delta = delta ∷ []
with_delta (d ∷ ds) delta = if tx_lt delta.tx d.tx then delta ∷ d ∷ ds else d ∷ with_delta ds delta

-- an Add names the present version of an item, and adds its delta
abbrev pub added : ℕ → Delta → Option Held → Option Held
added version delta None = None
added version delta (Some held) =
    if held.version == version then Some (record held { deltas = with_delta held.deltas delta }) else None

-- what an update makes of what is held, where its reader saw that
abbrev pub updated : TxId → ℕ → Update → Option Held → Option Held
updated tx version (Write item seen) held = written version item seen held
updated tx version (Add amounts) held = added version (record { tx = tx; amounts = amounts }) held

abbrev pub if_in_bounds : List (ℤ × ℤ) → Option Held → Option Held
if_in_bounds schema None = None
if_in_bounds schema (Some held) = if is_in_bounds schema held then Some held else None

-- what a choice makes of its key, where it may be applied
abbrev pub held_after : List (ℤ × ℤ) → OneCopyStore → Choice → Option Held
held_after schema store choice =
    if_in_bounds schema (updated choice.tx choice.version choice.update (store choice.key))

-- ---- one transaction

abbrev pub with_held : OneCopyStore → List ℕ → Option Held → OneCopyStore
with_held store key None = store
with_held store key (Some held) = λ other. if key_eq key other then Some held else store other

-- the store with what each choice makes of its key in the store before
abbrev pub stored : List (ℤ × ℤ) → OneCopyStore → OneCopyStore → List Choice → OneCopyStore
stored schema before store [] = store
stored schema before store (choice ∷ choices) =
    stored schema before (with_held store choice.key (held_after schema before choice)) choices

abbrev pub may_apply : List (ℤ × ℤ) → OneCopyStore → Choice → Bool
may_apply schema store choice = is_some (held_after schema store choice)

-- the store after a transaction, which changes all its keys; there is none where one of its choices may not be applied
abbrev pub applied : List (ℤ × ℤ) → OneCopyStore → List Choice → Option OneCopyStore
applied schema store choices =
    if list_all (may_apply schema store) choices then Some (stored schema store store choices) else None

-- the lesser of a key and one that there may be
abbrev pub least_key : Option (List ℕ) → List ℕ → Option (List ℕ)
least_key None key = Some key
least_key (Some least) key = if key_lt key least then Some key else Some least

-- the least key at which a choice may not be applied
abbrev pub key_failed : List (ℤ × ℤ) → OneCopyStore → Option (List ℕ) → List Choice → Option (List ℕ)
key_failed schema store least [] = least
key_failed schema store least (choice ∷ choices) =
    if may_apply schema store choice then key_failed schema store least choices
    else key_failed schema store (least_key least choice.key) choices

abbrev pub applied_by : Option (List ℕ) → Applied
applied_by None = Done
applied_by (Some key) = Refused key

-- done, or refused with the least key that fails
abbrev pub applied_answer : List (ℤ × ℤ) → OneCopyStore → List Choice → Applied
applied_answer schema store choices = applied_by (key_failed schema store None choices)

-- the store after a transaction that is asked for: changed as a whole, or as it was
abbrev pub store_after : List (ℤ × ℤ) → OneCopyStore → List Choice → OneCopyStore
store_after schema store choices = unwrap_or (applied schema store choices) store

-- ---- what a reader sees

-- a value that is read stops at the ends of 64 bits
abbrev pub read_value : ℤ → ℤ
read_value value =
    if int_lt value (negsuc (2 ^ 63 - 1)) then negsuc (2 ^ 63 - 1)
    else (if int_lt (pos (2 ^ 63 - 1)) value then pos (2 ^ 63 - 1) else value)

abbrev pub shown : Held → Item × Token
shown held = (
  record { body = held.base.body; values = map read_value (values_after held) },
  record { version = held.version; seen = seen_of held.deltas },
)

-- ---- runs

-- the store after transactions in turn, where each may be applied
abbrev pub store_run : List (ℤ × ℤ) → OneCopyStore → List (List Choice) → Option OneCopyStore
store_run schema store [] = Some store
store_run schema store (choices ∷ rest) = option_and_then (λ next. store_run schema next rest) (applied schema store choices)

-- a list of transactions is a run when each in turn may be applied, from the empty store
abbrev pub IsRun : List (ℤ × ℤ) → List (List Choice) → Type 0
IsRun schema transactions = IsTrue (is_some (store_run schema empty_store transactions))
