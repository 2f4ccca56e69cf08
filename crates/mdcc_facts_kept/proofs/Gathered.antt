-- Marks that are gathered in their order.
use Rattle.std.proofs.Common.{◌≡◌, ◌++◌, ◌≤◌, ◌∷◌, ◌∙◌, ℕ, Bool, true, List, [], None, refl, sym, ap}
use Rattle.std.specs.Prelude.{filter, not}
use Rattle.mdcc_base.specs.TxId.{tx_lt}
use Rattle.mdcc_base.specs.declared.identifiers.Ballot.{Ballot}
use Rattle.mdcc_base.specs.declared.identifiers.TxId.{TxId}
use Rattle.mdcc_base.specs.declared.key.Key.{Key}
use Rattle.mdcc_struct.specs.Maps.{TxMap, are_ascending, inserted, value_of}
use Rattle.mdcc_struct.proofs.Order.{tx_lt-apart}
use Rattle.mdcc_struct.proofs.Ordered.{IsBelow, ascending-below, ascending-cons, ascending-tail}
use Rattle.mdcc_def_messages.specs.declared.facts.Fact.{Fact}
use Rattle.mdcc_def_protocol.specs.Facts.{current_of, shown_of, votes_of}
use Rattle.mdcc_given_back.specs.Counted.{without_floors}
use Rattle.mdcc_given_back.proofs.MarksLeft.{filter-all, none-forgotten}
use Rattle.mdcc_facts_kept.specs.Kept.{IsKept, KeptRest}
use Rattle.mdcc_facts_kept.proofs.Asked.{shown_asked}

below-at : {X : Type 0} (t : TxId) (xs ys : TxMap X) (e : TxId × X) → IsBelow t (xs ++ e ∷ ys) → tx_lt t e.0 ≡ true
below-at t [] ys e h = h.0
below-at t (x ∷ xs) ys e h = below-at t xs ys e h.1

below-without : {X : Type 0} (t : TxId) (xs ys : TxMap X) (e : TxId × X) → IsBelow t (xs ++ e ∷ ys) → IsBelow t (xs ++ ys)
below-without t [] ys e h = h.1
below-without t (x ∷ xs) ys e h = (h.0, below-without t xs ys e h.1)

-- one that stands behind others is not among them
pub fresh : {X : Type 0} (xs ys : TxMap X) (e : TxId × X) → are_ascending (xs ++ e ∷ ys) ≡ true → value_of xs e.0 ≡ None
fresh [] ys e up = refl
fresh (x ∷ xs) ys e up =
    rw (tx_lt-apart x.0 e.0 (below-at x.0 xs ys e (ascending-below x (xs ++ e ∷ ys) up))) (fresh xs ys e (ascending-tail x (xs ++ e ∷ ys) up))

pub inserted-last : {X : Type 0} (xs ys : TxMap X) (e : TxId × X) → are_ascending (xs ++ e ∷ ys) ≡ true → inserted xs e ≡ xs ++ e ∷ []
inserted-last [] ys e up = refl
inserted-last {X = X} (x ∷ xs) ys e up =
    rw (below-at x.0 xs ys e (ascending-below x (xs ++ e ∷ ys) up)) (ap (λ (es : TxMap X). x ∷ es) (inserted-last xs ys e (ascending-tail x (xs ++ e ∷ ys) up)))

pub ascending-without : {X : Type 0} (xs ys : TxMap X) (e : TxId × X) → are_ascending (xs ++ e ∷ ys) ≡ true → are_ascending (xs ++ ys) ≡ true
ascending-without [] ys e up = ascending-tail e ys up
ascending-without (x ∷ xs) ys e up =
    ascending-cons x (xs ++ ys) (below-without x.0 xs ys e (ascending-below x (xs ++ e ∷ ys) up)) (ascending-without xs ys e (ascending-tail x (xs ++ e ∷ ys) up))

-- at the version held, and at later ones, no mark is forgotten
pub shown-held : (store : KeptRest) (facts : List Fact) (kept : IsKept store facts) (key : Key) (version : ℕ) (ballot : Ballot) → current_of facts key ≤ version
    → votes_of (without_floors kept.rest) key version ballot ≡ shown_of facts key version ballot
shown-held store facts kept key version ballot held =
    sym
    (shown_asked store facts kept key version ballot
    ∙ ap (λ (gone : TxId → Bool). filter (λ e. not (gone e.0)) (votes_of (without_floors kept.rest) key version ballot)) (none-forgotten facts key version held)
    ∙ filter-all (votes_of (without_floors kept.rest) key version ballot))
