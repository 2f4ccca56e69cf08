-- Marks one after the other, by their tags.
use Rattle.std.proofs.Common.{◌≡◌, ℕ, zero, suc, ◌-◌, ◌<◌, Bool, true, false, List, ◌∷◌, Option, Some, None, refl, ap, ◌∙◌, arith}
use Rattle.std.specs.Option.{option_map}
use Rattle.mdcc_base.specs.TxId.{tx_eq}
use Rattle.mdcc_base.specs.declared.identifiers.TxId.{TxId}
use Rattle.mdcc_cells_vote_walk.specs.Marks.{first_tag, found_here, found_in, tag_before, tags_in}
use Rattle.mdcc_cells_vote_walk.specs.Passing.{after_mark}

tags-step : (n : ℕ) (bytes : List ℕ) → 0 < n → tags_in n bytes ≡ tag_before (first_tag bytes) (tags_in (n - 1) (after_mark bytes))
tags-step zero bytes some = absurd (omega arith)
tags-step (suc n) bytes some = let same : n ≡ suc n - 1 = omega arith in ap (λ k. tag_before (first_tag bytes) (tags_in k (after_mark bytes))) same

pub tags_next : (n : ℕ) (bytes : List ℕ) (tag : TxId × Bool) → 0 < n → first_tag bytes ≡ Some tag → tags_in n bytes ≡ tag ∷ tags_in (n - 1) (after_mark bytes)
tags_next n bytes tag some is = tags-step n bytes some ∙ ap (λ t. tag_before t (tags_in (n - 1) (after_mark bytes))) is

abbrev names : TxId → Option (TxId × Bool) → Option Bool
names tx tag = option_map (λ t. tx_eq t.0 tx) tag

found-step : (tx : TxId) (n : ℕ) (bytes : List ℕ) → 0 < n
    → found_in tx n bytes ≡ found_here tx (first_tag bytes) bytes (found_in tx (n - 1) (after_mark bytes))
found-step tx zero bytes some = absurd (omega arith)
found-step tx (suc n) bytes some = let same : n ≡ suc n - 1 = omega arith in ap (λ k. found_here tx (first_tag bytes) bytes (found_in tx k (after_mark bytes))) same

here : (tx : TxId) (tag : Option (TxId × Bool)) (bytes : List ℕ) (later : Option (List ℕ)) → names tx tag ≡ Some true → found_here tx tag bytes later ≡ Some bytes
here tx None bytes later is = absurd (cc)
here tx (Some tag) bytes later is = let same : tx_eq tag.0 tx ≡ true = cc in rw same refl

later-one : (tx : TxId) (tag : Option (TxId × Bool)) (bytes : List ℕ) (later : Option (List ℕ)) → names tx tag ≡ Some false → found_here tx tag bytes later ≡ later
later-one tx None bytes later is = absurd (cc)
later-one tx (Some tag) bytes later is = let other : tx_eq tag.0 tx ≡ false = cc in rw other refl

no-one : (tx : TxId) (tag : Option (TxId × Bool)) (bytes : List ℕ) (later : Option (List ℕ)) → names tx tag ≡ None → found_here tx tag bytes later ≡ None
no-one tx None bytes later is = refl
no-one tx (Some tag) bytes later is = absurd (cc)

pub found_first : (tx : TxId) (n : ℕ) (bytes : List ℕ) → 0 < n → names tx (first_tag bytes) ≡ Some true → found_in tx n bytes ≡ Some bytes
found_first tx n bytes some is = found-step tx n bytes some ∙ here tx (first_tag bytes) bytes (found_in tx (n - 1) (after_mark bytes)) is

pub found_later : (tx : TxId) (n : ℕ) (bytes : List ℕ) → 0 < n → names tx (first_tag bytes) ≡ Some false → found_in tx n bytes ≡ found_in tx (n - 1) (after_mark bytes)
found_later tx n bytes some is = found-step tx n bytes some ∙ later-one tx (first_tag bytes) bytes (found_in tx (n - 1) (after_mark bytes)) is

pub found_none : (tx : TxId) (n : ℕ) (bytes : List ℕ) → 0 < n → names tx (first_tag bytes) ≡ None → found_in tx n bytes ≡ None
found_none tx n bytes some is = found-step tx n bytes some ∙ no-one tx (first_tag bytes) bytes (found_in tx (n - 1) (after_mark bytes)) is
