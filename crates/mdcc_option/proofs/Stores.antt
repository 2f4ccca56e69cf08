-- Stores as functions from keys.
use Rattle.std.proofs.Common.{◌≡◌, ℕ, ℤ, cond, false, Some, None, List, [], ◌∷◌, refl, ap, sym, ◌∙◌, inl, inr}
use Rattle.std.proofs.lemmas.Bool.{cases_Bool}
use Rattle.std.specs.Cmp.Lexicographic.{slice_cmp, nat_list_cmp_total, texts_ties}
use Rattle.std.specs.FinMap.{find, from_entries, get-from_entries}
use Rattle.std.specs.List.{list_all}
use Rattle.std.specs.Map.{lookup}
use Rattle.std.specs.Option.{is_none}
use Rattle.std.specs.Ordering.{nat_cmp}
use Rattle.mdcc_base.specs.Key.{key_eq, key_lt}
use Rattle.mdcc_option.specs.Held.{Held}
use Rattle.mdcc_option.specs.OneCopy.{OneCopyStore, may_apply, stored, key_failed, store_after}
use Rattle.mdcc_option.specs.StoreMap.{StoreMap, one_copy_of}
use Rattle.mdcc_option.specs.declared.choices.Choice.{Choice}

find-lookup : (key : List ℕ) (es : List (List ℕ × Held)) → find (slice_cmp nat_cmp) key es ≡ lookup (key_eq key) es
find-lookup key [] = refl
find-lookup key (e ∷ es) =
    ap (λ b. cond b (Some e.1) (find (slice_cmp nat_cmp) key es)) (sym (texts_ties key e.0))
    ∙ ap (λ rest. cond (key_eq key e.0) (Some e.1) rest) (find-lookup key es)

-- the store that a list of entries is
pub store_of-from_entries : (es : List (List ℕ × Held)) → one_copy_of (from_entries es) ≡ (λ key. lookup (key_eq key) es)
store_of-from_entries es = λ i key. (get-from_entries nat_list_cmp_total es key ∙ find-lookup key es) i

-- the same of a value that is made of such a list
pub store_of-entries : (map : StoreMap) (es : List (List ℕ × Held)) → from_entries es ≡ map → one_copy_of map ≡ (λ key. lookup (key_eq key) es)
store_of-entries map es made = ap one_copy_of (sym made) ∙ store_of-from_entries es

module _ (schema : List (ℤ × ℤ)) (store : OneCopyStore) where
  -- a key that fails leaves one that fails
  key_failed-some : (least : List ℕ) (choices : List Choice) → is_none (key_failed schema store (Some least) choices) ≡ false
  key_failed-some least [] = refl
  key_failed-some least (c ∷ cs) =
      elim (cases_Bool (may_apply schema store c)) [
        | inl e ↦ rw e (key_failed-some least cs)
        | inr e ↦ elim (cases_Bool (key_lt c.key least)) [
          | inl f ↦ rw (e, f) (key_failed-some c.key cs)
          | inr f ↦ rw (e, f) (key_failed-some least cs)
        ]
      ]

  -- no key fails where each choice may be applied
  all_may_apply : (choices : List Choice) → list_all (may_apply schema store) choices ≡ is_none (key_failed schema store None choices)
  all_may_apply [] = refl
  all_may_apply (c ∷ cs) =
      elim (cases_Bool (may_apply schema store c)) [
        | inl e ↦ rw e (all_may_apply cs)
        | inr e ↦ rw e (sym (key_failed-some c.key cs))
      ]

  pub store_after-done : (choices : List Choice) → key_failed schema store None choices ≡ None → store_after schema store choices ≡ stored schema store store choices
  store_after-done choices none = rw (all_may_apply choices, none) refl

  pub store_after-refused : (choices : List Choice) (key : List ℕ) → key_failed schema store None choices ≡ Some key → store_after schema store choices ≡ store
  store_after-refused choices key failed = rw (all_may_apply choices, failed) refl
