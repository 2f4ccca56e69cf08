-- What is live beside a structure at a leader, one choice after the other.
use Rattle.std.specs.Prelude.{Bool, List, None, Option, Some, [], filter, filter_map, if◌then◌else◌, is_some, not, option_and_then, ℕ, ◌&&◌, ◌+◌, ◌≡◌, ◌∷◌}
use Rattle.mdcc_base.specs.declared.identifiers.TxId.{TxId}
use Rattle.mdcc_base.specs.declared.key.Key.{Key}
use Rattle.mdcc_option.specs.declared.items.Update.{Update}
use Rattle.mdcc_struct.specs.Maps.{TxMap, value_of}
use Rattle.mdcc_struct.specs.declared.options.Options.{Options}
use Rattle.mdcc_def_messages.specs.declared.facts.Fact.{Fact}
use Rattle.mdcc_def_protocol.specs.Facts.{current_of, executed_of, is_void, live_mark}
use Rattle.mdcc_def_protocol.specs.Fit.{capped, has_tx, load_of}
use Rattle.mdcc_def_protocol.specs.Marks.{Amounts, choice_in}
use Rattle.mdcc_def_protocol.specs.Structures.{live_at_leader}
use Rattle.mdcc_def_protocol.specs.declared.fit.Load.{Load}
use Rattle.mdcc_escrow.specs.Weights.{with_live}

-- the load with one more update, where its transaction is not void
abbrev pub with_update : List Fact → Load → TxId → Update → Load
with_update facts load tx update = if is_void facts tx then load else with_live [] load (tx, update)

-- the accepted choices among marks, without the void ones
abbrev pub live_marks : List Fact → Options → TxMap Update
live_marks facts marks = filter (λ e. not (is_void facts e.0)) (filter_map live_mark marks)

-- whether a structure accepts a choice of the transaction
abbrev pub has_accept : Options → TxId → Bool
has_accept options tx = is_some (option_and_then choice_in (value_of options tx))

-- the load with a delta that there may be
abbrev pub with_amounts : List Fact → Load → TxId → Option Amounts → Load
with_amounts facts load tx None = load
with_amounts facts load tx (Some amounts) = with_update facts load tx (Update.Add amounts)

-- the load with the executed delta of a transaction, which counts where the structure has no choice of it
abbrev pub with_delta : List Fact → Key → Options → Load → TxId → Load
with_delta facts key options load tx =
    if has_accept options tx then load else with_amounts facts load tx (value_of (executed_of facts key) tx)

-- a load is that of all that is live beside a structure, at the version that is held
abbrev pub IsWeighed : List Fact → Key → Options → Load → Type 0
IsWeighed facts key options load = load ≡ capped (load_of (live_at_leader facts key (current_of facts key) options) [])

-- how many of these transactions are live
abbrev pub number_live : TxMap Update → List TxId → ℕ
number_live live [] = 0
number_live live (tx ∷ txs) = (if not (has_tx txs tx) && is_some (value_of live tx) then 1 else 0) + number_live live txs
