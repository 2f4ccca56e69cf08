-- A map by transaction that has numbers in the place of what they represent.
use Rattle.std.proofs.Common.{◌≡◌, [], ◌∷◌, Option, Some, None, is_some, refl, ap, ◌∙◌, inl, inr}
use Rattle.std.specs.Option.{option_map}
use Rattle.std.proofs.lemmas.Bool.{cases_Bool}
use Rattle.mdcc_base.specs.TxId.{tx_eq, tx_lt}
use Rattle.mdcc_base.specs.declared.identifiers.TxId.{TxId}
use Rattle.mdcc_struct.specs.Maps.{TxMap, inserted, value_of, with_entry}
use Rattle.mdcc_theorem_fact_folds.specs.Unresolved.{FoundByNumber, PutByNumber, TakenByNumber, listed_by, without_entry_of}

value-listed : {X Y : Type 0} (f : X → Y) (m : TxMap X) (tx : TxId) → value_of (listed_by f m) tx ≡ option_map f (value_of m tx)
value-listed f [] tx = refl
value-listed f (e ∷ es) tx =
    let ih = value-listed f es tx in
    elim (cases_Bool (tx_eq e.0 tx)) [
      | inl same ↦ rw same refl
      | inr other ↦ rw other ih
    ]

some-mapped : {X Y : Type 0} (f : X → Y) (o : Option X) → is_some (option_map f o) ≡ is_some o
some-mapped f None = refl
some-mapped f (Some x) = refl

inserted-listed : {X Y : Type 0} (f : X → Y) (m : TxMap X) (e : TxId × X) → listed_by f (inserted m e) ≡ inserted (listed_by f m) (e.0, f e.1)
inserted-listed f [] e = refl
inserted-listed f (x ∷ xs) e =
    let ih = inserted-listed f xs e in
    elim (cases_Bool (tx_lt x.0 e.0)) [
      | inl less ↦ rw less (ap (λ ys. (x.0, f x.1) ∷ ys) ih)
      | inr over ↦ rw over refl
    ]

with_entry-listed : {X Y : Type 0} (f : X → Y) (m : TxMap X) (e : TxId × X) → listed_by f (with_entry m e) ≡ with_entry (listed_by f m) (e.0, f e.1)
with_entry-listed f m e =
    let there : is_some (value_of (listed_by f m) e.0) ≡ is_some (value_of m e.0) =
    ap (λ o. is_some o) (value-listed f m e.0) ∙ some-mapped f (value_of m e.0) in
    elim (cases_Bool (is_some (value_of m e.0))) [
      | inl has ↦ let also = there ∙ has in rw (has, also) refl
      | inr lacks ↦ let also = there ∙ lacks in rw (lacks, also) (inserted-listed f m e)
    ]

without-listed : {X Y : Type 0} (f : X → Y) (m : TxMap X) (tx : TxId) → listed_by f (without_entry_of tx m) ≡ without_entry_of tx (listed_by f m)
without-listed f [] tx = refl
without-listed f (e ∷ es) tx =
    let ih = without-listed f es tx in
    elim (cases_Bool (tx_eq e.0 tx)) [
      | inl same ↦ rw same ih
      | inr other ↦ rw other (ap (λ ys. (e.0, f e.1) ∷ ys) ih)
    ]

pub put-number : PutByNumber
put-number write_set_at m tx number = with_entry-listed write_set_at m (tx, number)

pub taken-number : TakenByNumber
taken-number write_set_at m tx = without-listed write_set_at m tx

pub found-number : FoundByNumber
found-number write_set_at m tx = value-listed write_set_at m tx
