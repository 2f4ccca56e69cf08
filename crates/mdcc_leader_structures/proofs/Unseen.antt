-- How many live transactions a write has not seen, by how many of those that it saw are live.
use Rattle.std.proofs.Common.{◌≡◌, ℕ, ◌+◌, ◌-◌, ◌^◌, ◌<◌, ◌≤◌, min, true, false, List, [], ◌∷◌, Option, Some, None, length, refl, sym, ap, ◌∙◌, arith, inl, inr}
use Rattle.std.specs.Prelude.{if◌then◌else◌, is_some, nat_lt, not, ◌&&◌}
use Rattle.std.proofs.lemmas.Bool.{cases_Bool}
use Rattle.std.proofs.lemmas.Bool.Decides.{nat_tests}
use Rattle.mdcc_base.specs.Counts.{number_of}
use Rattle.mdcc_base.specs.TxId.{tx_eq}
use Rattle.mdcc_base.specs.declared.identifiers.TxId.{TxId}
use Rattle.mdcc_option.specs.declared.cluster.Cluster.{Cluster}
use Rattle.mdcc_option.specs.declared.items.Item.{Item}
use Rattle.mdcc_option.specs.declared.items.Update.{Update}
use Rattle.mdcc_struct.specs.Maps.{TxMap, are_ascending, value_of}
use Rattle.mdcc_struct.proofs.Order.{tx_eq-same}
use Rattle.mdcc_struct.proofs.Ordered.{ascending-below, ascending-tail, value_of-below}
use Rattle.mdcc_def_protocol.specs.Fit.{exact_fit, has_tx, load_of}
use Rattle.mdcc_def_protocol.specs.Marks.{seen_in}
use Rattle.mdcc_def_protocol.specs.declared.fit.Fit.{Fit}
use Rattle.mdcc_leader_structures.specs.Live.{number_live}

abbrev unseen : TxMap Update → List TxId → ℕ
unseen live seen = number_of (λ e. not (has_tx seen e.0)) live

-- a transaction that is not among these, and is none of the map, makes no difference
seen_apart : (live : TxMap Update) (tx : TxId) (txs : List TxId) → value_of live tx ≡ None → unseen live (tx ∷ txs) ≡ unseen live txs
seen_apart [] tx txs none = refl
seen_apart (e ∷ es) tx txs none =
    elim (cases_Bool (tx_eq e.0 tx)) [
      | inl same ↦ absurd (let bad : Some e.1 ≡ None = rw same at none in cc)
      | inr other ↦
          let rest = seen_apart es tx txs (rw other at none) in
          rw (other, rest) refl
    ]

seen_once : (live : TxMap Update) (tx : TxId) (txs : List TxId) → are_ascending live ≡ true
    → unseen live (tx ∷ txs) + (if not (has_tx txs tx) && is_some (value_of live tx) then 1 else 0) ≡ unseen live txs
seen_once [] tx txs up = elim (cases_Bool (has_tx txs tx)) [ inl has ↦ rw has refl | inr new ↦ rw new refl ]
seen_once (e ∷ es) tx txs up =
    elim (cases_Bool (tx_eq e.0 tx)) [
      | inl same ↦
          let is : e.0 ≡ tx = tx_eq-same e.0 tx same in
          let none : value_of es tx ≡ None = ap (value_of es) (sym is) ∙ value_of-below e.0 es (ascending-below e es up) in
          let rest : unseen es (tx ∷ txs) ≡ unseen es txs = seen_apart es tx txs none in
          let at : has_tx txs e.0 ≡ has_tx txs tx = ap (has_tx txs) is in
          elim (cases_Bool (has_tx txs tx)) [
            | inl has ↦ rw (same, at, has, rest) (omega arith)
            | inr new ↦ rw (same, at, new, rest) (omega arith)
          ]
      | inr other ↦
          let rest = seen_once es tx txs (ascending-tail e es up) in
          rw other (omega arith)
    ]

pub seen_counted : (live : TxMap Update) (seen : List TxId) → are_ascending live ≡ true → unseen live seen + number_live live seen ≡ unseen live []
seen_counted live [] up = omega arith
seen_counted live (tx ∷ txs) up =
    let one = seen_once live tx txs up in
    let rest = seen_counted live txs up in
    omega arith

pub number_live-few : (live : TxMap Update) (seen : List TxId) → number_live live seen ≤ length seen
number_live-few live [] = omega arith
number_live-few live (tx ∷ txs) =
    let rest = number_live-few live txs in
    elim (cases_Bool (not (has_tx txs tx) && is_some (value_of live tx))) [
      | inl more ↦ rw more (omega arith)
      | inr same ↦ rw same (omega arith)
    ]

-- a write has not seen all that is live where fewer of what it saw are live than there are
pub some_unseen : (live : TxMap Update) (seen : List TxId) → are_ascending live ≡ true → length seen ≤ 64
    → number_live live seen < min (unseen live []) (2 ^ 32 - 1) → nat_lt 0 (unseen live seen) ≡ true
some_unseen live seen up few less =
    let all = seen_counted live seen up in
    let some : 0 < unseen live seen = omega arith in
    grind (arith, nat_tests)

pub none_unseen : (live : TxMap Update) (seen : List TxId) → are_ascending live ≡ true → length seen ≤ 64
    → min (unseen live []) (2 ^ 32 - 1) ≤ number_live live seen → nat_lt 0 (unseen live seen) ≡ false
none_unseen live seen up few most =
    let all = seen_counted live seen up in
    let within = number_live-few live seen in
    let none : unseen live seen ≡ 0 = omega arith in
    rw none refl

-- ---- the fit of a write

module _ (cluster : Cluster) (base : Option Item) (live : TxMap Update) (update : Update) (item : Item) (seen : List TxId) (k : ℕ)
    (is : update ≡ Update.Write item seen) (up : are_ascending live ≡ true) (few : length seen ≤ 64) (number : k ≡ number_live live seen) where
  pub write_conflicts : k < min (unseen live []) (2 ^ 32 - 1) → Fit.Conflict ≡ exact_fit cluster base (load_of live (seen_in update)) update
  write_conflicts less =
      let some : nat_lt 0 (unseen live seen) ≡ true = some_unseen live seen up few (omega arith) in
      rw is (rw some refl)

  pub write_fits : min (unseen live []) (2 ^ 32 - 1) ≤ k → Fit.Fits ≡ exact_fit cluster base (load_of live (seen_in update)) update
  write_fits most =
      let none : nat_lt 0 (unseen live seen) ≡ false = none_unseen live seen up few (omega arith) in
      rw is (rw none refl)
