-- What a reader of facts by their numbers answers from the entries of a table.
use Rattle.std.proofs.Common.{◌≡◌, ℕ, zero, suc, ◌∷◌, true, false, List, [], Option, Some, None, refl, sym, ap, ◌∙◌, inl, inr}
use Rattle.std.specs.Option.{option_and_then, option_map}
use Rattle.std.specs.Prelude.{filter_map, slice_get}
use Rattle.std.proofs.lemmas.Bool.{cases_Bool}
use Rattle.mdcc_base.specs.TxId.{tx_eq}
use Rattle.mdcc_base.specs.declared.identifiers.TxId.{TxId}
use Rattle.mdcc_struct.specs.Maps.{TxMap, are_ascending, txs_of, value_of}
use Rattle.mdcc_struct.proofs.Order.{tx_eq-refl, tx_eq-same}
use Rattle.mdcc_struct.proofs.Ordered.{ascending-below, ascending-tail, value_of-below}
use Rattle.mdcc_def_protocol.specs.Plain.{plain_unresolved_of}
use Rattle.mdcc_def_messages.specs.declared.facts.Fact.{Fact}
use Rattle.mdcc_theorem_fact_folds.proofs.Unheard.{unresolved-ascends}
use Rattle.mdcc_cells_tables.specs.UnresolvedNumbers.{AllUnresolvedAreRead, ListsUnresolved, UnresolvedIsRead, WriteSetIsRead, with_write_set, write_set_numbered}
use Rattle.mdcc_cells_tables.proofs.UnresolvedMore.{ascending-alike}

-- each entry of one map gives that of the other
abbrev AreGiven : {X Y : Type 0} → (TxId × X → Option (TxId × Y)) → TxMap X → TxMap Y → Type 0
AreGiven f [] [] = Unit {0}
AreGiven f [] (w ∷ ws) = ⊥
AreGiven f (e ∷ es) [] = ⊥
AreGiven f (e ∷ es) (w ∷ ws) = (f e ≡ Some w) × AreGiven f es ws

abbrev entry_by : {X Y : Type 0} → (TxId → X → Option Y) → TxId × X → Option (TxId × Y)
entry_by read e = option_map (λ y. (e.0, y)) (read e.0 e.1)

entry-given : {X Y : Type 0} (read : TxId → X → Option Y) (e : TxId × X) (w : TxId × Y) → e.0 ≡ w.0 → Some w.1 ≡ read e.0 e.1 → entry_by read e ≡ Some w
entry-given read e w same here = ap (option_map (λ y. (e.0, y))) (sym here) ∙ ap (λ tx. Some (tx, w.1)) same

given-all : {X Y : Type 0} (read : TxId → X → Option Y) (m : TxMap X) (u : TxMap Y) → txs_of m ≡ txs_of u → are_ascending u ≡ true
    → ((tx : TxId) → value_of u tx ≡ option_and_then (λ x. read tx x) (value_of m tx)) → AreGiven (entry_by read) m u
given-all read [] [] txs up given = tt
given-all read [] (w ∷ ws) txs up given = absurd (cc)
given-all read (e ∷ es) [] txs up given = absurd (cc)
given-all read (e ∷ es) (w ∷ ws) txs up given =
    let same : e.0 ≡ w.0 = cc in
    let rest : txs_of es ≡ txs_of ws = cc in
    let up_e : are_ascending (e ∷ es) ≡ true = ascending-alike (e ∷ es) (w ∷ ws) txs up in
    let own : tx_eq e.0 e.0 ≡ true = tx_eq-refl e.0 in
    let theirs : tx_eq w.0 e.0 ≡ true = ap (λ t. tx_eq t e.0) (sym same) ∙ own in
    let here : Some w.1 ≡ read e.0 e.1 = rw (theirs, own) at (given e.0) in (
      entry-given read e w same here,
      given-all read es ws rest (ascending-tail w ws up)
          (λ tx. elim (cases_Bool (tx_eq e.0 tx)) [
            | inl equal ↦
                let is : e.0 ≡ tx = tx_eq-same e.0 tx equal in
                let none_e : value_of es tx ≡ None = ap (value_of es) (sym is) ∙ value_of-below e.0 es (ascending-below e es up_e) in
                let none_w : value_of ws tx ≡ None = ap (value_of ws) (sym is ∙ same) ∙ value_of-below w.0 ws (ascending-below w ws up) in
                rw (none_e, none_w) refl
            | inr other ↦
                let apart : tx_eq w.0 tx ≡ false = ap (λ t. tx_eq t tx) (sym same) ∙ other in
                rw (apart, other) at (given tx)
          ]),
    )

all-given : {X Y : Type 0} (f : TxId × X → Option (TxId × Y)) (m : TxMap X) (u : TxMap Y) → AreGiven f m u → u ≡ filter_map f m
all-given f [] [] given = refl
all-given f [] (w ∷ ws) given = absurd given
all-given f (e ∷ es) [] given = absurd given
all-given f (e ∷ es) (w ∷ ws) given = let ih = all-given f es ws given.1 in let first = given.0 in rw first (ap (λ ys. w ∷ ys) ih)

place-given : {X Y : Type 0} (f : TxId × X → Option (TxId × Y)) (m : TxMap X) (u : TxMap Y) (place : ℕ) → AreGiven f m u → slice_get u place ≡ option_and_then f (slice_get m place)
place-given f [] [] place given = refl
place-given f [] (w ∷ ws) place given = absurd given
place-given f (e ∷ es) [] place given = absurd given
place-given f (e ∷ es) (w ∷ ws) zero given = sym given.0
place-given f (e ∷ es) (w ∷ ws) (suc place) given = place-given f es ws place given.1

lists-given : (entries : TxMap ℕ) (facts : List Fact) → ListsUnresolved entries facts → AreGiven (with_write_set facts) entries (plain_unresolved_of facts)
lists-given entries facts lists = given-all (λ tx number. write_set_numbered facts number tx) entries (plain_unresolved_of facts) lists.txs (unresolved-ascends facts) lists.write_sets

pub unresolved-read : UnresolvedIsRead
unresolved-read entries facts place lists = place-given (with_write_set facts) entries (plain_unresolved_of facts) place (lists-given entries facts lists)

pub all-read : AllUnresolvedAreRead
all-read entries facts lists = all-given (with_write_set facts) entries (plain_unresolved_of facts) (lists-given entries facts lists)

pub write_set-read : WriteSetIsRead
write_set-read facts number fact tx at = rw at refl
