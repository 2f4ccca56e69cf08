-- What is heard, read and passed on: outcomes, reads, and catching up.
use Rattle.std.specs.List.{enumerate_from}
use Rattle.std.specs.Prelude.{Bool, List, None, Option, Some, fold, if◌then◌else◌, length, map, nat_le, option_map, ℕ, ℤ, ◌+ℤ◌, ◌+◌}
use Rattle.mdcc_base.specs.declared.identifiers.TxId.{TxId}
use Rattle.mdcc_base.specs.declared.key.Key.{Key}
use Rattle.mdcc_option.specs.OneCopy.{amount_at, read_value}
use Rattle.mdcc_option.specs.declared.choices.Outcome.{Outcome}
use Rattle.mdcc_option.specs.declared.items.Item.{Item}
use Rattle.mdcc_struct.specs.Maps.{TxMap}
use Rattle.mdcc_def_protocol.specs.Facts.{base_of, current_of, executed_of, is_settled, token_of}
use Rattle.mdcc_def_protocol.specs.Marks.{Amounts}
use Rattle.mdcc_def_protocol.specs.News.{is_news}
use Rattle.mdcc_def_messages.specs.declared.facts.Fact.{Fact}
use Rattle.mdcc_def_protocol.specs.declared.visible.Give.{Give}
use Rattle.mdcc_def_protocol.specs.declared.visible.Reading.{Reading}

-- ---- outcomes

-- the fact of an outcome that was not heard before, of a transaction that is not finished
abbrev pub on_outcome : List Fact → TxId → Outcome → Option Fact
on_outcome facts tx outcome = if is_settled facts tx then None else Some (Fact.Heard tx outcome)

-- ---- reads

-- the value of the attribute at a place: the base value and the amounts that were executed
abbrev pub value_read : TxMap Amounts → ℕ × ℤ → ℤ
value_read deltas base = read_value (fold (λ value e. value +ℤ amount_at (base.0 + 1) e.1) base.1 deltas)

abbrev pub item_read : TxMap Amounts → Item → Item
item_read deltas item = record item { values = map (value_read deltas) (enumerate_from 0 item.values) }

-- whether the value should be written anew: 32 or more deltas of the version held are executed
abbrev pub rebase_due : List Fact → Key → Bool
rebase_due facts key = nat_le 32 (length (executed_of facts key))

-- what a read shows: the base with the executed deltas in it, and what was seen
abbrev pub read : List Fact → Key → Reading
read facts key = record {
  token = token_of facts key;
  item = option_map (item_read (executed_of facts key)) (base_of facts key);
  due = rebase_due facts key;
}

-- ---- catching up

-- a key's version, base and executed deltas, where there is a version
abbrev pub on_sync_ask : List Fact → Key → Option Give
on_sync_ask facts key =
    option_map
    (λ item. record {
      key = key;
      version = current_of facts key;
      item = item;
      adds = map (λ e. record { tx = e.0; amounts = e.1 }) (executed_of facts key);
    })
    (base_of facts key)

-- the fact of data that bring something new
abbrev pub on_sync_give : List Fact → Give → Option Fact
on_sync_give facts give =
    if is_news facts give.key give.version give.adds then Some (Fact.Adopted give.key give.version give.item give.adds) else None
