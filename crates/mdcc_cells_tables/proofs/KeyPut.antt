-- What is held of each key, once one key is set.
use Rattle.std.proofs.Common.{◌≡◌, ℕ, ◌+◌, ◌-◌, ◌<◌, ◌≤◌, ◌≢◌, true, false, List, [], ◌∷◌, ◌++◌, Some, None, get_or, set, length, refl, sym, ap, ◌∙◌, arith, inl, inr, get_or-set_other, get_or-set_same, length-append}
use Rattle.std.proofs.Math.ListN.{get_or-append}
use Rattle.std.proofs.Math.Seq.{get_or-append_right}
use Rattle.std.proofs.lemmas.Bool.{cases_Bool}
use Rattle.mdcc_base.specs.Key.{key_eq}
use Rattle.mdcc_base.specs.declared.key.Key.{Key}
use Rattle.mdcc_option.proofs.Equal.{Decides-key}
use Rattle.mdcc_struct.proofs.Reports.{cases_Option}
use Rattle.mdcc_cells_chains.specs.KeyTables.{index_of, index_then, with_key}
use Rattle.mdcc_cells_chains.specs.Walks.{entry_at}
use Rattle.mdcc_cells_chains.proofs.Filtered.{walk-found}
use Rattle.mdcc_cells_tables.specs.HeldVersions.{Versions, held_at, held_of, held_with, never_held}
use Rattle.mdcc_cells_tables.specs.declared.held_table.HeldVersion.{HeldVersion}

-- ---- keys and their indices

pub key_eq-refl : (key : Key) → key_eq key key ≡ true
key_eq-refl key = (Decides-key key key).1 refl

pub key_eq-same : (a b : Key) → key_eq a b ≡ true → a ≡ b
key_eq-same a b same = (Decides-key a b).0 same

key_eq-sym : (a b : Key) → key_eq a b ≡ false → key_eq b a ≡ false
key_eq-sym a b other =
    elim (cases_Bool (key_eq b a)) [
      | inl same ↦ absurd (let bad : true ≡ false = sym (key_eq-refl a) ∙ ap (key_eq a) (sym (key_eq-same b a same)) ∙ other in cc)
      | inr apart ↦ apart
    ]

-- an index leads to its key
index-key : (keys : List Key) (key : Key) (i : ℕ) → index_of keys key ≡ Some i → entry_at keys i ≡ Some key
index-key keys key i at =
    let found = walk-found (key_eq key) keys i at in
    found.at ∙ ap (λ k. Some k) (sym (key_eq-same key found.entry found.passing))

index-within : (keys : List Key) (key : Key) (i : ℕ) → index_of keys key ≡ Some i → i < length keys
index-within keys key i at = let found = walk-found (key_eq key) keys i at in found.within

index-apart : (keys : List Key) (key other : Key) (i j : ℕ) → index_of keys key ≡ Some i → index_of keys other ≡ Some j → key_eq key other ≡ false → j ≢ i
index-apart keys key other i j at there apart same =
    let one : Some other ≡ Some key = sym (index-key keys other j there) ∙ ap (entry_at keys) same ∙ index-key keys key i at in
    let is : other ≡ key = cc in
    let bad : true ≡ false = sym (key_eq-refl key) ∙ ap (key_eq key) (sym is) ∙ apart in
    cc

pub none-past : (keys : List Key) (key : Key) (index : ℕ) → index ≡ index_then keys key → length keys ≤ index → index_of keys key ≡ None
none-past keys key index is past =
    elim (cases_Option (index_of keys key)) [
      | inl none ↦ none
      | inr found ↦
          let same : index ≡ found.0 = rw found.1 at is in
          let within : found.0 < length keys = index-within keys key found.0 found.1 in
          absurd (omega arith)
    ]

-- ---- one key is set

-- a key that has an index
pub put-there : (keys : List Key) (held : List HeldVersion) (key other : Key) (entry : HeldVersion) (index : ℕ) → length held ≡ length keys → index ≡ index_then keys key → index < length held
    → held_at (set held index entry) (index_of (with_key keys key) other) ≡ held_with key entry other (held_at held (index_of keys other))
put-there keys held key other entry index alike is within =
    elim (cases_Option (index_of keys key)) [
      | inl none ↦
          let past : index ≡ length keys = rw none at is in
          absurd (omega arith)
      | inr found ↦
          let same : index ≡ found.0 = rw found.1 at is in
          elim (cases_Bool (key_eq key other)) [
            | inl equal ↦
                let at : index_of keys other ≡ Some index = ap (index_of keys) (sym (key_eq-same key other equal)) ∙ found.1 ∙ ap (λ i. Some i) (sym same) in
                rw (found.1, equal, at) (get_or-set_same held index entry never_held within)
            | inr apart ↦ elim (cases_Option (index_of keys other)) [
              | inl none ↦ rw (found.1, apart, none) refl
              | inr there ↦
                  let away : there.0 ≢ found.0 = index-apart keys key other found.0 there.0 found.1 there.1 apart in
                  let away2 : there.0 ≢ index = omega arith in
                  rw (found.1, apart, there.1) (get_or-set_other held index there.0 entry never_held away2)
            ]
          ]
    ]

-- a key that has none
pub put-new : (keys : List Key) (held : List HeldVersion) (key other : Key) (entry : HeldVersion) (index : ℕ) → length held ≡ length keys → index ≡ index_then keys key → length held ≤ index
    → held_at (held ++ entry ∷ []) (index_of (with_key keys key) other) ≡ held_with key entry other (held_at held (index_of keys other))
put-new keys held key other entry index alike is past =
    let none : index_of keys key ≡ None = none-past keys key index is (omega arith) in
    let last : get_or (held ++ entry ∷ []) (length keys) never_held ≡ entry =
    ap (λ i. get_or (held ++ entry ∷ []) i never_held) (sym alike) ∙ get_or-append_right held (entry ∷ []) (length held) never_held (omega arith)
    ∙ ap (λ i. get_or (entry ∷ []) i never_held) (let zero : length held - length held ≡ 0 = omega arith in zero) in
    elim (cases_Bool (key_eq key other)) [
      | inl equal ↦
          let back : key_eq other key ≡ true = ap (key_eq other) (key_eq-same key other equal) ∙ key_eq-refl other in
          rw (none, back, equal) last
      | inr apart ↦
          let back : key_eq other key ≡ false = key_eq-sym key other apart in
          elim (cases_Option (index_of keys other)) [
            | inl nowhere ↦ rw (none, back, apart, nowhere) refl
            | inr there ↦
                let within : there.0 < length keys = index-within keys other there.0 there.1 in
                rw (none, back, apart, there.1) (get_or-append held (entry ∷ []) never_held there.0 (omega arith))
          ]
    ]

-- one more key at most
pub length-with_key : (keys : List Key) (key : Key) → length (with_key keys key) ≤ length keys + 1
length-with_key keys key =
    elim (cases_Option (index_of keys key)) [
      | inl none ↦ rw none (omega arith)
      | inr found ↦ rw found.1 (omega arith)
    ]

-- ---- the same of a whole table

pub table-there : (old new : Versions) (now : Versions) (key other : Key) (entry : HeldVersion) (index : ℕ) → old ≡ now → length old.held ≡ length old.keys.keys → index ≡ index_then old.keys.keys key → index < length old.held
    → new.keys.keys ≡ with_key old.keys.keys key → new.held ≡ set old.held index entry → held_of new other ≡ held_with key entry other (held_of now other)
table-there old new now key other entry index is alike at within keys held =
    ap (λ ks. held_at new.held (index_of ks other)) keys ∙ ap (λ hs. held_at hs (index_of (with_key old.keys.keys key) other)) held
    ∙ put-there old.keys.keys old.held key other entry index alike at within ∙ ap (λ table. held_with key entry other (held_of table other)) is

pub table-new : (old new : Versions) (now : Versions) (key other : Key) (entry : HeldVersion) (index : ℕ) → old ≡ now → length old.held ≡ length old.keys.keys → index ≡ index_then old.keys.keys key → length old.held ≤ index
    → new.keys.keys ≡ with_key old.keys.keys key → new.held ≡ old.held ++ entry ∷ [] → held_of new other ≡ held_with key entry other (held_of now other)
table-new old new now key other entry index is alike at past keys held =
    ap (λ ks. held_at new.held (index_of ks other)) keys ∙ ap (λ hs. held_at hs (index_of (with_key old.keys.keys key) other)) held
    ∙ put-new old.keys.keys old.held key other entry index alike at past ∙ ap (λ table. held_with key entry other (held_of table other)) is

pub length-new : (keys more : List Key) (held longer : List HeldVersion) (key : Key) (entry : HeldVersion) (index : ℕ) → length held ≡ length keys → index ≡ index_then keys key → length held ≤ index
    → more ≡ with_key keys key → longer ≡ held ++ entry ∷ [] → length longer ≡ length more
length-new keys more held longer key entry index alike at past is_more is_longer =
    let none : index_of keys key ≡ None = none-past keys key index at (omega arith) in
    let one : length more ≡ length keys + 1 = ap length is_more ∙ rw none (omega arith) in
    omega (arith, one, ap length is_longer, length-append held (entry ∷ []))
