-- How many transactions ended in each way.
use Rattle.std.proofs.Common.{◌≡◌, ◌≤◌, ℕ, ◌+◌, ◌-◌, ◌^◌, Bool, true, false, List, [], ◌∷◌, Option, None, Some, refl, ◌∙◌, arith, drop, fold, length}
use Rattle.std.specs.Prelude.{is_some, not, slice_get}
use Rattle.std.specs.Map.{keys_of}
use Rattle.mdcc_base.specs.Counts.{number_of}
use Rattle.mdcc_base.specs.declared.identifiers.TxId.{TxId}
use Rattle.mdcc_world_decisions.specs.Decided.{is_abort_decided, is_commit_decided, next_decided_count, totals_of, with_decided}
use Rattle.mdcc_struct.proofs.Walks.{drop-get}
use Rattle.mdcc_world_decisions.specs.declared.decisions.Totals.{Totals}

-- the totals with those of more transactions
abbrev added_to : Totals → Totals → Totals
added_to t u = record { commits = t.commits + u.commits; aborts = t.aborts + u.aborts; undecided = t.undecided + u.undecided }

abbrev pub none_ended : Totals
none_ended = record { commits = 0; aborts = 0; undecided = 0 }

abbrev pub counted_on : (TxId → Option Bool) → Totals → List TxId → Totals
counted_on ending totals txs = fold (λ t tx. with_decided t (ending tx)) totals txs

next-small : (n : ℕ) → n + 1 ≤ 2 ^ 32 - 1 → next_decided_count n ≡ n + 1
next-small n h = omega (h, arith)

counted-by : (t : Totals) (o : Option Bool) (ending : TxId → Option Bool) (tx : TxId) (txs : List TxId) → ending tx ≡ o
    → t.commits + t.aborts + t.undecided + (1 + length txs) ≤ 2 ^ 32 - 1
    → ((u : Totals) → u.commits + u.aborts + u.undecided + length txs ≤ 2 ^ 32 - 1 → counted_on ending u txs ≡ added_to u (totals_of ending txs))
    → counted_on ending t (tx ∷ txs) ≡ added_to t (totals_of ending (tx ∷ txs))
counted-by t (Some true) ending tx txs e h rest =
    let up : next_decided_count t.commits ≡ t.commits + 1 = next-small t.commits (omega (h, arith)) in
    rw (e, up) (rest (record t { commits = t.commits + 1 }) (omega (h, arith)) ∙ grind arith)
counted-by t (Some false) ending tx txs e h rest =
    let up : next_decided_count t.aborts ≡ t.aborts + 1 = next-small t.aborts (omega (h, arith)) in
    rw (e, up) (rest (record t { aborts = t.aborts + 1 }) (omega (h, arith)) ∙ grind arith)
counted-by t None ending tx txs e h rest =
    let up : next_decided_count t.undecided ≡ t.undecided + 1 = next-small t.undecided (omega (h, arith)) in
    rw (e, up) (rest (record t { undecided = t.undecided + 1 }) (omega (h, arith)) ∙ grind arith)

pub counted : (ending : TxId → Option Bool) (t : Totals) (txs : List TxId) → t.commits + t.aborts + t.undecided + length txs ≤ 2 ^ 32 - 1
    → counted_on ending t txs ≡ added_to t (totals_of ending txs)
counted ending t [] h = grind arith
counted ending t (tx ∷ txs) h = counted-by t (ending tx) ending tx txs refl (omega (h, arith)) (λ u k. counted ending u txs k)

-- one entry more
pub counted-next : {X : Type 0} (ending : TxId → Option Bool) (t : Totals) (es : List (TxId × X)) (i : ℕ) (e : TxId × X) → slice_get es i ≡ Some e
    → counted_on ending t (keys_of (drop i es)) ≡ counted_on ending (with_decided t (ending e.0)) (keys_of (drop (i + 1) es))
counted-next ending t es i e at = rw (drop-get es i e at) refl

-- from none on
pub counted-all : (ending : TxId → Option Bool) (txs : List TxId) → length txs ≤ 2 ^ 32 - 1 → counted_on ending none_ended txs ≡ totals_of ending txs
counted-all ending txs h = counted ending none_ended txs (omega (h, arith)) ∙ grind arith

-- totals are the same of two lists in which as many pass each test
pub totals-same : (ending : TxId → Option Bool) (xs ys : List TxId) → ((test : TxId → Bool) → number_of test xs ≡ number_of test ys)
    → totals_of ending xs ≡ totals_of ending ys
totals-same ending xs ys same = rw (same (λ tx. is_commit_decided (ending tx)), same (λ tx. is_abort_decided (ending tx)), same (λ tx. not (is_some (ending tx)))) refl
