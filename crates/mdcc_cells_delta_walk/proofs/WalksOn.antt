-- A walk goes on to the next index of its instance.
use Rattle.std.proofs.Common.{◌≡◌, ◌∷◌, ℕ, List, [], Option, Some, None, get_or, length, ap, sym, ◌∙◌, arith, eq-eqb, inl, inr, refl}
use Rattle.std.specs.Prelude.{map}
use Rattle.std.proofs.lemmas.Bool.{cases_Bool}
use Rattle.std.proofs.lemmas.List.{length-map}
use Rattle.mdcc_base.specs.declared.key.Key.{Key}
use Rattle.mdcc_cells_chains.specs.Keys.{instance_eq}
use Rattle.mdcc_cells_chains.specs.Walks.{IsFound, entry_at, first_below, first_in, older, walk}
use Rattle.mdcc_cells_chains.proofs.Filtered.{entry-skip, entry-within, length-older, older-older, walk-end, walk-found, walk-next}
use Rattle.mdcc_theorem_fact_folds.specs.Entered.{indices_found}
use Rattle.mdcc_theorem_fact_folds.specs.IndexWalks.{keys_of}
use Rattle.mdcc_cells_delta_walk.specs.Chains.{EncodingsAreFound, encoding_at, encodings_from, encodings_walked}

module _ (encodings : List (List ℕ)) (numbers : List ℕ) (instance : Key × ℕ) where
  -- from the first index on it is the whole walk
  pub from-first : (keys : List (Key × ℕ)) (at : Option ℕ) → at ≡ first_in (walk (instance_eq instance) keys)
      → encodings_from encodings keys numbers instance at ≡ encodings_walked encodings keys numbers instance
  from-first keys None is = sym (ap (map (encoding_at encodings numbers)) (walk-end (instance_eq instance) keys (sym is)))
  from-first keys (Some index) is =
      let found : IsFound (instance_eq instance) keys index = walk-found (instance_eq instance) keys index (sym is) in
      sym (ap (map (encoding_at encodings numbers)) found.walked)

  -- and from the one after an index on that of the older entries
  pub from-next : (keys : List (Key × ℕ)) (index : ℕ) (at : Option ℕ) → at ≡ first_below index (walk (instance_eq instance) keys)
      → encodings_from encodings keys numbers instance at ≡ encodings_walked encodings (older index keys) numbers instance
  from-next keys index None is = from-first (older index keys) None (is ∙ sym (walk-next (instance_eq instance) index keys))
  from-next keys index (Some next) is =
      let first : first_in (walk (instance_eq instance) (older index keys)) ≡ Some next = walk-next (instance_eq instance) index keys ∙ sym is in
      let found : IsFound (instance_eq instance) (older index keys) next = walk-found (instance_eq instance) (older index keys) next first in
      let same : older next (older index keys) ≡ older next keys = older-older next index keys (omega (arith, found.within, length-older index keys)) in
      ap (λ ks. encoding_at encodings numbers next ∷ encodings_walked encodings ks numbers instance) (sym same)
      ∙ from-first (older index keys) (Some next) (sym first)

-- what it comes by is stored under the numbers of the entries that are found
pub encodings-found : EncodingsAreFound
encodings-found encodings [] numbers instance at = refl
encodings-found encodings (e ∷ es) numbers instance at =
    let long : length (keys_of es) ≡ length es = length-map es (λ x. x.0) in
    let here : entry_at (e ∷ es) (length es) ≡ Some e = rw (eq-eqb (length es) (length es) refl) refl in
    let number : get_or numbers (length (keys_of es)) 0 ≡ e.1 = ap (λ n. get_or numbers n 0) long ∙ at (length es) e here in
    let rest : encodings_walked encodings (keys_of es) numbers instance ≡ map (λ n. get_or encodings n []) (indices_found (instance_eq instance) es) =
    encodings-found encodings es numbers instance (λ index entry is. at index entry (entry-skip e es index (entry-within es index entry is) ∙ is)) in
    elim (cases_Bool (instance_eq instance e.0)) [
      | inl same ↦ rw same (ap (λ n. get_or encodings n [] ∷ encodings_walked encodings (keys_of es) numbers instance) number ∙ ap (λ ts. get_or encodings e.1 [] ∷ ts) rest)
      | inr other ↦ rw other rest
    ]
