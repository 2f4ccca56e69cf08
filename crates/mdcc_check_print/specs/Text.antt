-- The text of a history.
use Rattle.std.specs.Fmt.{signed_decimal}
use Rattle.std.specs.List.{join_with_byte}
use Rattle.std.specs.Prelude.{List, None, Option, Some, [], codes, decimal, flat_map, map, ℕ, ℤ, ◌++◌, ◌∷◌}
use Rattle.mdcc_base.specs.TxId.{tx_text}
use Rattle.mdcc_base.specs.declared.identifiers.TxId.{TxId}
use Rattle.mdcc_option.specs.declared.items.Item.{Item}
use Rattle.mdcc_option.specs.declared.items.Known.{Known}
use Rattle.mdcc_option.specs.declared.items.Part.{Part}
use Rattle.mdcc_option.specs.declared.items.Update.{Update}
use Rattle.mdcc_check.specs.declared.history.HistoryLine.{HistoryLine}
use Rattle.mdcc_def_language.specs.Report.{body_text, values_text}
use Rattle.mdcc_sched_words.specs.Spelled.{amount_text}

-- ---- words

-- identifiers, each behind a comma
abbrev pub more_txs_text : List TxId → List ℕ
more_txs_text txs = flat_map (λ tx. 44 ∷ tx_text tx) txs

abbrev pub seen_text : List TxId → List ℕ
seen_text [] = codes "-"
seen_text (tx ∷ txs) = tx_text tx ++ more_txs_text txs

abbrev pub amounts_text : List (ℕ × ℤ) → List ℕ
amounts_text amounts = join_with_byte 44 (map amount_text amounts)

-- a key and a version, each before a colon
abbrev pub key_version_text : List ℕ → ℕ → List ℕ
key_version_text key version = key ++ codes ":" ++ decimal version ++ codes ":"

-- an item behind what its writer saw
abbrev pub written_text : Item → List TxId → List ℕ
written_text item seen = seen_text seen ++ codes ":" ++ body_text item.body ++ codes ":" ++ values_text item.values

-- an update word
abbrev pub history_update_text : List ℕ → ℕ → Update → List ℕ
history_update_text key version (Update.Write item seen) = codes "write:" ++ key_version_text key version ++ written_text item seen
history_update_text key version (Update.Add amounts) = codes "add:" ++ key_version_text key version ++ amounts_text amounts

-- the same, behind a space
abbrev pub part_text : Part → List ℕ
part_text part = 32 ∷ history_update_text part.key part.version part.update

-- ---- lines

-- a transaction that committed, its parts in key order
abbrev pub commit_text : TxId → List Part → List ℕ
commit_text tx parts = codes "commit " ++ tx_text tx ++ flat_map part_text parts

abbrev pub history_shown_text : ℕ → List TxId → Option Item → List ℕ
history_shown_text version seen None = codes " 0"
history_shown_text version seen (Some item) =
    codes " " ++ decimal version ++ codes " " ++ seen_text seen ++ codes " " ++ body_text item.body ++ codes " " ++ values_text item.values

abbrev pub read_text : Known → List ℕ
read_text known = codes "read " ++ known.key ++ history_shown_text known.token.version known.token.seen known.item

abbrev pub history_words_text : HistoryLine → List ℕ
history_words_text (HistoryLine.Commit tx parts) = commit_text tx parts
history_words_text (HistoryLine.Read known) = read_text known

-- a line with its line end
abbrev pub history_line_text : HistoryLine → List ℕ
history_line_text line = history_words_text line ++ codes "\n"

abbrev pub bound_text : ℤ × ℤ → List ℕ
bound_text bounds = codes "bound " ++ signed_decimal bounds.0 ++ codes " " ++ signed_decimal bounds.1 ++ codes "\n"

abbrev pub history_header_text : List (ℤ × ℤ) → List ℕ
history_header_text schema = codes "mdcc-history 1\n" ++ flat_map bound_text schema ++ codes "start\n"

-- a whole history
abbrev pub history_text : List (ℤ × ℤ) → List HistoryLine → List ℕ
history_text schema lines = history_header_text schema ++ flat_map history_line_text lines
