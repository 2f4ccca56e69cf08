-- The last line of a report counts the committed transactions.
use Rattle.std.proofs.Common.{Bool, List, None, Option, Some, [], ap, arith, false, inl, inr, length, refl, subst, suc, sym, true, ℕ, ◌++◌, ◌+◌, ◌∙◌, ◌∷◌, ◌≡◌, ◌≤◌}
use Rattle.std.proofs.lemmas.Bool.{cases_Bool}
use Rattle.std.specs.List.{filter_map}
use Rattle.std.specs.Prelude.{filter, is_some, map, not}
use Rattle.mdcc_base.specs.Counts.{number_of}
use Rattle.mdcc_base.specs.declared.identifiers.TxId.{TxId}
use Rattle.mdcc_option.specs.declared.choices.Choice.{Choice}
use Rattle.mdcc_option.specs.declared.choices.Outcome.{Outcome}
use Rattle.mdcc_option.specs.declared.choices.Outcome.TheVariants.{Abort, Commit}
use Rattle.mdcc_option.specs.declared.cluster.Cluster.{Cluster}
use Rattle.mdcc_def_ledger.specs.Ledger.{Entry, choices_committed, committed_of, new_outcomes, outcome_of, txs_begun}
use Rattle.mdcc_def_protocol.specs.Marks.{is_abort}
use Rattle.mdcc_def_simulation.specs.Runs.{end_line, is_commit_found}
use Rattle.mdcc_def_simulation.specs.State.{World}
use Rattle.mdcc_theorem_headline.specs.Truth.{IsTrueEnd}
use Rattle.mdcc_theorem_agreement.specs.Laws.{IsLedger}
use Rattle.mdcc_theorem_agreement.proofs.LawsTold.{allowed, setup_fine}
use Rattle.mdcc_theorem_agreement.proofs.OutcomeFromReduced.{begun_some, outcome_committed}
use Rattle.mdcc_theorem_agreement.proofs.OutcomeToReduced.{decided}
use Rattle.mdcc_theorem_agreement.proofs.ReducedLedger.{ApartTx, IsCommitted, WasBegun}
use Rattle.mdcc_theorem_agreement.proofs.ReducedOptions.{In}
use Rattle.mdcc_theorem_agreement.proofs.Reduction.{reduced, setup_of}
use Rattle.mdcc_theorem_one_copy.proofs.CommitsFit.{order_complete, run_order}
use Rattle.mdcc_theorem_one_copy.proofs.CommitsListed.{commit_pair, done, news, onto}
use Rattle.mdcc_theorem_one_copy.proofs.CommitsOrdered.{ordered}
use Rattle.mdcc_theorem_one_copy.proofs.SlotsLeft.{OnceEach}
use Rattle.mdcc_theorem_one_copy.proofs.Sorted.{Ascending, In-fold, ascending_apart, ascending_fold}

-- ---- lists with each item once

-- a list out of another one, taken at an item
record Split (x : TxId) (ys : List TxId) : Type 0 where
  front : List TxId
  rest : List TxId
  whole : ys ≡ front ++ (x ∷ rest)

split-at : (x : TxId) (ys : List TxId) → In x ys → Split x ys
split-at x [] h = absurd h
split-at x (y ∷ ys) h =
    elim h [
      | inl here ↦ record { front = []; rest = ys; whole = ap (λ z. z ∷ ys) here }
      | inr there ↦ (let s = split-at x ys there in record { front = y ∷ s.front; rest = s.rest; whole = ap (λ z. y ∷ z) s.whole })
    ]

without : (x t : TxId) (front rest : List TxId) → In t (front ++ (x ∷ rest)) → (t ≡ x → ⊥) → In t (front ++ rest)
without x t [] rest h other = elim h [ inl here ↦ absurd (other (sym here)) | inr there ↦ there ]
without x t (y ∷ front) rest h other = elim h [ inl here ↦ inl here | inr there ↦ inr (without x t front rest there other) ]

length-without : (x : TxId) (front rest : List TxId) → length (front ++ (x ∷ rest)) ≡ suc (length (front ++ rest))
length-without x [] rest = refl
length-without x (y ∷ front) rest = ap suc (length-without x front rest)

-- a list with each item once that lies in another one is no longer
fewer : (xs ys : List TxId) → ApartTx xs → ((t : TxId) → In t xs → In t ys) → length xs ≤ length ys
fewer [] ys apart inside = omega arith
fewer (x ∷ xs) ys apart inside =
    let s = split-at x ys (inside x (inl refl)) in
    let rest : length xs ≤ length (s.front ++ s.rest) =
    fewer xs (s.front ++ s.rest) apart.1 (λ t g. without x t s.front s.rest (subst (In t) s.whole (inside t (inr g))) (λ same. apart.0 t g same)) in
    let long : length ys ≡ suc (length (s.front ++ s.rest)) = ap (λ (z : List TxId). length z) s.whole ∙ length-without x s.front s.rest in
    longer (length xs) (length ys) (length (s.front ++ s.rest)) (length (x ∷ xs)) rest long refl
  where
    longer : (a b c d : ℕ) → a ≤ c → b ≡ suc c → d ≡ suc a → d ≤ b
    longer a b c d h k l = omega arith

-- ---- what a test keeps

kept-in : (test : TxId → Bool) (ts : List TxId) (t : TxId) → In t (filter test ts) → In t ts × (test t ≡ true)
kept-in test [] t h = absurd h
kept-in test (u ∷ ts) t h =
    elim (cases_Bool (test u)) [
      | inl e ↦ elim (let k : In t (u ∷ filter test ts) = rw e at h in k) [
        | inl here ↦ (inl here, ap test (sym here) ∙ e)
        | inr there ↦ (let k = kept-in test ts t there in (inr k.0, k.1))
      ]
      | inr e ↦ (let k = kept-in test ts t (rw e at h) in (inr k.0, k.1))
    ]

in-kept : (test : TxId → Bool) (ts : List TxId) (t : TxId) → In t ts → test t ≡ true → In t (filter test ts)
in-kept test [] t h e = absurd h
in-kept test (u ∷ ts) t h e =
    elim (cases_Bool (test u)) [
      | inl f ↦ rw f (elim h [ inl here ↦ inl here | inr there ↦ inr (in-kept test ts t there e) ])
      | inr f ↦ rw f (elim h [ inl here ↦ (let bad : true ≡ false = sym e ∙ ap test (sym here) ∙ f in absurd (cc)) | inr there ↦ in-kept test ts t there e ])
    ]

kept-apart : (test : TxId → Bool) (ts : List TxId) → ApartTx ts → ApartTx (filter test ts)
kept-apart test [] h = tt
kept-apart test (u ∷ ts) h =
    elim (cases_Bool (test u)) [
      | inl e ↦ rw e (λ t g same. h.0 t (kept-in test ts t g).0 same, kept-apart test ts h.1)
      | inr e ↦ rw e (kept-apart test ts h.1)
    ]

pub number-kept : (test : Option Outcome → Bool) (found : TxId → Option Outcome) (ts : List TxId) → number_of test (map found ts) ≡ length (filter (λ t. test (found t)) ts)
number-kept test found [] = refl
number-kept test found (t ∷ ts) =
    elim (cases_Bool (test (found t))) [
      | inl e ↦ rw e (one-more (number_of test (map found ts)) (length (filter (λ u. test (found u)) ts)) (number-kept test found ts))
      | inr e ↦ rw e (none-more (number_of test (map found ts)) (length (filter (λ u. test (found u)) ts)) (number-kept test found ts))
    ]
  where
    none-more : (a b : ℕ) → a ≡ b → 0 + a ≡ b
    none-more a b h = omega arith

    one-more : (a b : ℕ) → a ≡ b → 1 + a ≡ suc b
    one-more a b h = omega arith

-- ---- begun transactions

begun-apart : (es : List Entry) → Ascending (txs_begun es)
begun-apart [] = tt
begun-apart (Entry.Begun a tx choices ∷ es) = ascending_fold (tx ∷ []) (txs_begun es) (begun-apart es)
begun-apart (Entry.Added a fact ∷ es) = begun-apart es
begun-apart (Entry.Valued a key version ballot options ∷ es) = begun-apart es

in-begun : (es : List Entry) (t : TxId) (choices : List Choice) → WasBegun (reduced es) t choices → In t (txs_begun es)
in-begun [] t choices h = absurd h
in-begun (Entry.Added a fact ∷ es) t choices h = in-begun es t choices h
in-begun (Entry.Valued a key version ballot options ∷ es) t choices h = in-begun es t choices h
in-begun (Entry.Begun a tx ds ∷ es) t choices h =
    elim h [
      | inl here ↦ In-fold (tx ∷ []) (txs_begun es) t (inr (inl here.0))
      | inr there ↦ In-fold (tx ∷ []) (txs_begun es) t (inl (in-begun es t choices there))
    ]

-- ---- the list of commits has each transaction once

txs-apart : (xs : List (TxId × List Choice)) → OnceEach xs → ApartTx (map (λ (x : TxId × List Choice). x.0) xs)
txs-apart [] h = tt
txs-apart (x ∷ xs) h = (λ t g same. away t xs h.0 g same, txs-apart xs h.1)
  where
    away : (t : TxId) (ys : List (TxId × List Choice)) → ((y : TxId × List Choice) → In y ys → y.0 ≡ x.0 → ⊥) → In t (map (λ (y : TxId × List Choice). y.0) ys) → t ≡ x.0 → ⊥
    away t [] f g same = g
    away t (y ∷ ys) f g same = elim g [ inl here ↦ f y (inl refl) (here ∙ same) | inr there ↦ away t ys (λ z k. f z (inr k)) there same ]

in-txs : (t : TxId) (choices : List Choice) (xs : List (TxId × List Choice)) → In (t, choices) xs → In t (map (λ (x : TxId × List Choice). x.0) xs)
in-txs t choices [] h = h
in-txs t choices (x ∷ xs) h = elim h [ inl here ↦ inl (ap (λ (z : TxId × List Choice). z.0) here) | inr there ↦ inr (in-txs t choices xs there) ]

txs-in : (t : TxId) (xs : List (TxId × List Choice)) → In t (map (λ (x : TxId × List Choice). x.0) xs) → (choices : List Choice) × In (t, choices) xs
txs-in t [] h = absurd h
txs-in t (x ∷ xs) h =
    elim h [
      | inl here ↦ (x.1, inl (ap (λ (z : TxId). (z, x.1)) here))
      | inr there ↦ (let k = txs-in t xs there in (k.0, inr k.1))
    ]

length-map : {X Y : Type 0} (f : X → Y) (xs : List X) → length (map f xs) ≡ length xs
length-map f [] = refl
length-map f (x ∷ xs) = ap suc (length-map f xs)

length-both : {X : Type 0} (xs ys : List X) → length (xs ++ ys) ≡ length xs + length ys
length-both [] ys = omega arith
length-both (x ∷ xs) ys = let k = length-both xs ys in omega arith

length-onto : {X : Type 0} (xs acc : List X) → length (onto xs acc) ≡ length acc + length xs
length-onto [] acc = omega arith
length-onto (x ∷ xs) acc = let k = length-onto xs (x ∷ acc) in omega arith

committed-news : (os : List (TxId × Outcome)) → length (filter_map choices_committed os) ≡ length (filter_map commit_pair os)
committed-news [] = refl
committed-news ((t, Commit choices) ∷ os) = ap suc (committed-news os)
committed-news ((t, Abort) ∷ os) = committed-news os

committed-length : (cluster : Cluster) (es : List Entry) → length (committed_of cluster.quorums es) ≡ length (done cluster es)
committed-length cluster [] = refl
committed-length cluster (e ∷ es) =
    let old = committed-length cluster es in
    let new = committed-news (new_outcomes cluster.quorums e es) in
    length-both (committed_of cluster.quorums es) (filter_map choices_committed (new_outcomes cluster.quorums e es))
    ∙ sums (length (committed_of cluster.quorums es)) (length (done cluster es)) (length (filter_map choices_committed (new_outcomes cluster.quorums e es))) (length (news cluster e es)) old new
    ∙ sym (length-onto (news cluster e es) (done cluster es))
  where
    sums : (a b c d : ℕ) → a ≡ b → c ≡ d → a + c ≡ b + d
    sums a b c d h k = omega arith

-- the commits of the last line are as many as the committed transactions
pub commits-counted : (cluster : Cluster) (es : List Entry) → IsLedger cluster es → number_of is_commit_found (map (outcome_of cluster.quorums es) (txs_begun es)) ≡ length (committed_of cluster.quorums es)
commits-counted cluster es h =
    number-kept is_commit_found (outcome_of cluster.quorums es) (txs_begun es)
    ∙ both (length found) (length listed) (fewer found listed found-apart found-listed) (fewer listed found listed-apart listed-found)
    ∙ length-map (λ (x : TxId × List Choice). x.0) (done cluster es)
    ∙ sym (committed-length cluster es)
  where
    found : List TxId
    found = filter (λ t. is_commit_found (outcome_of cluster.quorums es t)) (txs_begun es)

    listed : List TxId
    listed = map (λ (x : TxId × List Choice). x.0) (done cluster es)

    order : OnceEach (done cluster es) × ((x : TxId × List Choice) → In x (done cluster es) → IsCommitted (setup_of cluster) (reduced es) x.0 x.1)
    order = let k = run_order (setup_of cluster) (setup_fine cluster es h) (reduced es) (allowed cluster es h) (done cluster es) (ordered cluster es h) in (k.1, k.2)

    found-apart : ApartTx found
    found-apart = kept-apart (λ t. is_commit_found (outcome_of cluster.quorums es t)) (txs_begun es) (ascending_apart (txs_begun es) (begun-apart es))

    listed-apart : ApartTx listed
    listed-apart = txs-apart (done cluster es) order.0

    commit-of : (o : Option Outcome) → is_commit_found o ≡ true → (choices : List Choice) × (o ≡ Some (Commit choices))
    commit-of None e = absurd (cc)
    commit-of (Some Abort) e = absurd (cc)
    commit-of (Some (Commit choices)) e = (choices, refl)

    found-listed : (t : TxId) → In t found → In t listed
    found-listed t g =
        let k = kept-in (λ u. is_commit_found (outcome_of cluster.quorums es u)) (txs_begun es) t g in
        let c = commit-of (outcome_of cluster.quorums es t) k.1 in
        in-txs t c.0 (done cluster es)
        (order_complete (setup_of cluster) (reduced es) (done cluster es) (ordered cluster es h) t c.0 (decided cluster (setup_fine cluster es h) es (allowed cluster es h) t (Commit c.0) c.1))

    listed-found : (t : TxId) → In t listed → In t found
    listed-found t g =
        let k = txs-in t (done cluster es) g in
        let c = order.1 (t, k.0) k.1 in
        let o = outcome_committed cluster (setup_fine cluster es h) es (allowed cluster es h) t k.0 (begun_some cluster es h.allowed t k.0 c.0) c in
        in-kept (λ u. is_commit_found (outcome_of cluster.quorums es u)) (txs_begun es) t (in-begun es t k.0 c.0) (rw o refl)

    both : (a b : ℕ) → a ≤ b → b ≤ a → a ≡ b
    both a b i k = omega arith

-- so are the other outcomes
pub end-true : (cluster : Cluster) (w : World) → IsLedger cluster w.ledger → w.cluster ≡ cluster → IsTrueEnd cluster w.ledger (end_line w)
end-true cluster w h same =
    subst (λ (c : Cluster). IsTrueEnd c w.ledger (end_line w)) same
    (let g : IsLedger w.cluster w.ledger = subst (λ (c : Cluster). IsLedger c w.ledger) (sym same) h in (
      commits-counted w.cluster w.ledger g,
      number-kept is_abort (outcome_of w.cluster.quorums w.ledger) (txs_begun w.ledger),
      number-kept (λ o. not (is_some o)) (outcome_of w.cluster.quorums w.ledger) (txs_begun w.ledger),
    ))
