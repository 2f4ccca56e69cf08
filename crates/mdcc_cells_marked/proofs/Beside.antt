-- Transactions with their instances with_instances them.
use Rattle.std.proofs.Common.{◌≡◌, ◌<◌, ◌≤◌, ◌+◌, ◌-◌, ℕ, List, [], ◌∷◌, ◌++◌, Some, drop, get_or, length, map, refl, ap, ◌∙◌, arith, inl, inr}
use Rattle.std.specs.Prelude.{◌==◌, slice_get}
use Rattle.std.proofs.lemmas.Bool.{cases_Bool, eqb-true}
use Rattle.std.proofs.lemmas.List.{get_or_append_left, get_or_at}
use Rattle.std.proofs.lemmas.Option.{get_or_from_slice_get, slice_get_read}
use Rattle.mdcc_base.specs.declared.identifiers.TxId.{TxId}
use Rattle.mdcc_base.specs.declared.key.Key.{Key}
use Rattle.mdcc_option.specs.declared.choices.Mark.{Mark}
use Rattle.mdcc_facts.proofs.Walking.{drop_next}
use Rattle.mdcc_cells_chains.specs.Walks.{entry_at}
use Rattle.mdcc_cells_marked.specs.Marks.{marks_beside, no_instance, with_instances}

pub with_instances-txs : (txs : List TxId) (instances : List (Key × ℕ)) → map (λ e. e.0) (with_instances txs instances) ≡ txs
with_instances-txs [] instances = refl
with_instances-txs (tx ∷ txs) instances = ap (λ ts. tx ∷ ts) (with_instances-txs txs instances)

pub length-with_instances : (txs : List TxId) (instances : List (Key × ℕ)) → length (with_instances txs instances) ≡ length txs
length-with_instances [] instances = refl
length-with_instances (tx ∷ txs) instances = omega (arith, length-with_instances txs instances)

with_instances-more : (txs : List TxId) (instances : List (Key × ℕ)) (instance : Key × ℕ) → length txs ≤ length instances → with_instances txs (instances ++ instance ∷ []) ≡ with_instances txs instances
with_instances-more [] instances instance few = refl
with_instances-more (tx ∷ txs) instances instance few =
    let at : get_or (instances ++ instance ∷ []) (length txs) no_instance ≡ get_or instances (length txs) no_instance = get_or_append_left instances (instance ∷ []) no_instance (length txs) (omega arith) in
    let rest = with_instances-more txs instances instance (omega arith) in
    λ i. (tx, at i) ∷ rest i

pub with_instances-push : (tx : TxId) (txs : List TxId) (instances : List (Key × ℕ)) (instance : Key × ℕ) → length instances ≡ length txs
    → with_instances (tx ∷ txs) (instances ++ instance ∷ []) ≡ (tx, instance) ∷ with_instances txs instances
with_instances-push tx txs instances instance alike =
    let at : get_or (instances ++ instance ∷ []) (length txs) no_instance ≡ instance = get_or_at instances instance [] no_instance (length txs) alike in
    let rest = with_instances-more txs instances instance (omega arith) in
    λ i. (tx, at i) ∷ rest i

pub with_instances-at : (txs : List TxId) (instances : List (Key × ℕ)) (i : ℕ) (e : TxId × (Key × ℕ)) → entry_at (with_instances txs instances) i ≡ Some e → get_or instances i no_instance ≡ e.1
with_instances-at [] instances i e at = absurd (cc)
with_instances-at (tx ∷ txs) instances i e at = elim (cases_Bool (i == length (with_instances txs instances))) [
  | inl here ↦
      let same : i ≡ length (with_instances txs instances) = eqb-true i (length (with_instances txs instances)) here in
      let one : Some (tx, get_or instances (length txs) no_instance) ≡ Some e = rw here at at in
      let is : (tx, get_or instances (length txs) no_instance) ≡ e = cc in
      ap (λ n. get_or instances n no_instance) (same ∙ length-with_instances txs instances) ∙ ap (λ (x : TxId × (Key × ℕ)). x.1) is
  | inr there ↦ with_instances-at txs instances i e (rw there at at)
]

-- what is read at an index that is there
pub read-at : {X : Type 0} (xs : List X) (i : ℕ) (x d : X) → i < length xs → x ≡ get_or xs i x → get_or xs i d ≡ x
read-at xs i x d within is = get_or_from_slice_get xs i x d (slice_get_read xs (length xs) i x refl within is)

-- the marks from a place on
pub marks-next : (options : List (TxId × Mark)) (left : ℕ) (e : TxId × Mark) (instance : Key × ℕ) → 0 < left → slice_get options (left - 1) ≡ Some e
    → marks_beside instance (drop (left - 1) options) ≡ (e.0, instance) ∷ marks_beside instance (drop left options)
marks-next options left e instance some at =
    let next = drop_next options (left - 1) e at in
    let same : left - 1 + 1 ≡ left = omega (arith, some) in
    ap (marks_beside instance) (next ∙ ap (λ n. e ∷ drop n options) same)
