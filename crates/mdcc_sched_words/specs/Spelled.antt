-- How update words are spelled.
use Rattle.std.specs.Prelude.{ℕ, ℤ, ◌≡◌, List, ◌∷◌, ◌++◌, map, codes, decimal, Ok}
use Rattle.std.specs.Fmt.{signed_decimal}
use Rattle.std.specs.List.{join_with_byte}
use Rattle.mdcc_option.specs.declared.items.Item.{Item}
use Rattle.mdcc_def_language.specs.declared.events.UpdateWord.{UpdateWord}
use Rattle.mdcc_def_language.specs.declared.events.UpdateWord.TheVariants.{New, Set, Keep}
use Rattle.mdcc_def_language.specs.Report.{body_text, values_text}
use Rattle.mdcc_def_language.specs.Updates.{update_of}

-- a body and values, each behind a colon
abbrev pub item_text : Item → List ℕ
item_text item = 58 ∷ (body_text item.body ++ (58 ∷ values_text item.values))

-- an attribute and its amount
abbrev pub amount_text : ℕ × ℤ → List ℕ
amount_text amount = decimal amount.0 ++ (61 ∷ signed_decimal amount.1)

abbrev pub update_text : UpdateWord → List ℕ
update_text (New key item) = codes "new:" ++ (key ++ item_text item)
update_text (Set number item) = codes "set:" ++ (decimal number ++ item_text item)
update_text (UpdateWord.Add number amounts) = codes "add:" ++ (decimal number ++ (58 ∷ join_with_byte 44 (map amount_text amounts)))
update_text (Keep number) = codes "keep:" ++ decimal number

-- a word that is read is the text of what is read
abbrev pub UpdatesAreSpelled : Type 0
UpdatesAreSpelled = (word : List ℕ) (column : ℕ) (update : UpdateWord) → update_of word column ≡ Ok update → word ≡ update_text update
