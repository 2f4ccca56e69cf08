-- The list of committed transactions, the newest first, and what an entry adds to it.
use Rattle.std.proofs.Common.{◌≡◌, ℕ, suc, ◌+◌, ◌<◌, ◌≤◌, ◌==◌, Bool, true, false, cond, ◌&&◌, ◌||◌, List, [], ◌∷◌, ◌++◌, length, refl, sym, ap, ◌∙◌, subst, arith, inl, inr, ◌⊎◌, Option, Some, None, map}
use Rattle.std.specs.List.{filter_map, cons_option}
use Rattle.mdcc_base.specs.declared.identifiers.TxId.{TxId}
use Rattle.mdcc_option.specs.declared.choices.Choice.{Choice}
use Rattle.mdcc_option.specs.declared.choices.Outcome.{Outcome}
use Rattle.mdcc_option.specs.declared.choices.Outcome.TheVariants.{Commit, Abort}
use Rattle.mdcc_option.specs.declared.cluster.Cluster.{Cluster}
use Rattle.mdcc_def_ledger.specs.Ledger as ledger
use Rattle.mdcc_struct.proofs.Reports.{cases_Option}
use Rattle.mdcc_theorem_agreement.proofs.ReducedLedger.{ApartTx}
use Rattle.mdcc_theorem_agreement.proofs.ReducedOptions.{In}
use Rattle.mdcc_theorem_agreement.proofs.TestsDecide.{same_pair}
use Rattle.mdcc_theorem_one_copy.proofs.SlotsLeft.{OnceEach}

-- a list put on another one, its first at the bottom
abbrev pub onto : {A : Type 0} → List A → List A → List A
onto [] acc = acc
onto (x ∷ xs) acc = onto xs (x ∷ acc)

pub onto-append : {A : Type 0} (xs acc : List A) → onto xs acc ≡ onto xs [] ++ acc
onto-append [] acc = refl
onto-append (x ∷ xs) acc = onto-append xs (x ∷ acc) ∙ move xs x acc ∙ ap (λ z. z ++ acc) (sym (onto-append xs (x ∷ [])))
  where
    move : {A : Type 0} (xs : List A) (x : A) (acc : List A) → onto xs [] ++ (x ∷ acc) ≡ (onto xs [] ++ (x ∷ [])) ++ acc
    move xs x acc = sym (Rattle.std.proofs.Common.append_assoc (onto xs []) (x ∷ []) acc)

pub In-onto : {A : Type 0} (xs acc : List A) (y : A) → In y acc → In y (onto xs acc)
In-onto [] acc y h = h
In-onto (x ∷ xs) acc y h = In-onto xs (x ∷ acc) y (inr h)

pub onto-In : {A : Type 0} (xs acc : List A) (y : A) → In y xs → In y (onto xs acc)
onto-In [] acc y h = absurd h
onto-In (x ∷ xs) acc y h = elim h [ inl here ↦ In-onto xs (x ∷ acc) y (inl here) | inr there ↦ onto-In xs (x ∷ acc) y there ]

-- the commits that came at an entry
abbrev pub commit_pair : TxId × Outcome → Option (TxId × List Choice)
commit_pair (t, Commit cs) = Some (t, cs)
commit_pair (t, Abort) = None

module _ (cluster : Cluster) where
  abbrev pub news : ledger.Entry → List ledger.Entry → List (TxId × List Choice)
  news e es = filter_map commit_pair (ledger.new_outcomes cluster.quorums e es)

  -- the committed transactions, the newest first
  abbrev pub done : List ledger.Entry → List (TxId × List Choice)
  done [] = []
  done (e ∷ es) = onto (news e es) (done es)

  -- what is new
  abbrev pub IsNew : ledger.Entry → List ledger.Entry → TxId × List Choice → Type 0
  IsNew e es x = In x.0 (ledger.txs_voted e) × (ledger.outcome_of cluster.quorums (e ∷ es) x.0 ≡ Some (Commit x.1)) × (ledger.outcome_of cluster.quorums es x.0 ≡ None)

  pub listed_new : (e : ledger.Entry) (es : List ledger.Entry) (ts : List TxId) (x : TxId × List Choice) →
      In x (filter_map commit_pair (filter_map (ledger.new_outcome cluster.quorums e es) ts)) →
      In x.0 ts × (ledger.outcome_of cluster.quorums (e ∷ es) x.0 ≡ Some (Commit x.1)) × (ledger.outcome_of cluster.quorums es x.0 ≡ None)
  listed_new e es [] x h = absurd h
  listed_new e es (t ∷ ts) x h =
      let later : In x (filter_map commit_pair (filter_map (ledger.new_outcome cluster.quorums e es) ts)) →
      In x.0 (t ∷ ts) × (ledger.outcome_of cluster.quorums (e ∷ es) x.0 ≡ Some (Commit x.1)) × (ledger.outcome_of cluster.quorums es x.0 ≡ None) =
      λ g. let k : In x.0 ts × (ledger.outcome_of cluster.quorums (e ∷ es) x.0 ≡ Some (Commit x.1)) × (ledger.outcome_of cluster.quorums es x.0 ≡ None) = listed_new e es ts x g in (inr k.0, k.1, k.2) in
      elim (cases_Option (ledger.outcome_of cluster.quorums (e ∷ es) t)) [
        | inl none ↦ later (rw none at h)
        | inr now ↦ elim (cases_Option (ledger.outcome_of cluster.quorums es t)) [
          | inr before ↦ later (rw (now.1, before.1) at h)
          | inl none ↦ by_outcome now.0 now.1 none later (rw (now.1, none) at h)
        ]
      ]
    where
      by_outcome : (o : Outcome) → ledger.outcome_of cluster.quorums (e ∷ es) t ≡ Some o → ledger.outcome_of cluster.quorums es t ≡ None →
          (In x (filter_map commit_pair (filter_map (ledger.new_outcome cluster.quorums e es) ts)) →
          In x.0 (t ∷ ts) × (ledger.outcome_of cluster.quorums (e ∷ es) x.0 ≡ Some (Commit x.1)) × (ledger.outcome_of cluster.quorums es x.0 ≡ None)) →
          In x (filter_map commit_pair ((t, o) ∷ filter_map (ledger.new_outcome cluster.quorums e es) ts)) →
          In x.0 (t ∷ ts) × (ledger.outcome_of cluster.quorums (e ∷ es) x.0 ≡ Some (Commit x.1)) × (ledger.outcome_of cluster.quorums es x.0 ≡ None)
      by_outcome Abort now none later g = later g
      by_outcome (Commit cs) now none later g = elim g [
        | inl here ↦ subst (λ (z : TxId × List Choice). In z.0 (t ∷ ts) × (ledger.outcome_of cluster.quorums (e ∷ es) z.0 ≡ Some (Commit z.1)) × (ledger.outcome_of cluster.quorums es z.0 ≡ None)) here (inl refl, now, none)
        | inr there ↦ later there
      ]

  pub news_shows : (e : ledger.Entry) (es : List ledger.Entry) (x : TxId × List Choice) → In x (news e es) → IsNew e es x
  news_shows e es x h = listed_new e es (ledger.txs_voted e) x h

  pub news_there : (e : ledger.Entry) (es : List ledger.Entry) (ts : List TxId) (t : TxId) (cs : List Choice) → In t ts → ledger.outcome_of cluster.quorums (e ∷ es) t ≡ Some (Commit cs) →
      ledger.outcome_of cluster.quorums es t ≡ None → In (t, cs) (filter_map commit_pair (filter_map (ledger.new_outcome cluster.quorums e es) ts))
  news_there e es [] t cs h now none = absurd h
  news_there e es (u ∷ ts) t cs h now none =
      elim h [
        | inl here ↦
            let now_u : ledger.outcome_of cluster.quorums (e ∷ es) u ≡ Some (Commit cs) = ap (ledger.outcome_of cluster.quorums (e ∷ es)) here ∙ now in
            let none_u : ledger.outcome_of cluster.quorums es u ≡ None = ap (ledger.outcome_of cluster.quorums es) here ∙ none in
            rw (now_u, none_u) (inl (same_pair {A = TxId} {B = List Choice} (u, cs) (t, cs) (here, refl)))
        | inr there ↦ past (ledger.new_outcome cluster.quorums e es u) (filter_map (ledger.new_outcome cluster.quorums e es) ts) (news_there e es ts t cs there now none)
      ]
    where
      past : (o : Option (TxId × Outcome)) (xs : List (TxId × Outcome)) → In (t, cs) (filter_map commit_pair xs) → In (t, cs) (filter_map commit_pair (cons_option o xs))
      past None xs g = g
      past (Some (w, Commit ds)) xs g = inr g
      past (Some (w, Abort)) xs g = g

  -- distinct transactions give distinct commits
  pub news_apart : (e : ledger.Entry) (es : List ledger.Entry) (ts : List TxId) → ApartTx ts → OnceEach (filter_map commit_pair (filter_map (ledger.new_outcome cluster.quorums e es) ts))
  news_apart e es [] h = tt
  news_apart e es (t ∷ ts) h =
      let rest : OnceEach (filter_map commit_pair (filter_map (ledger.new_outcome cluster.quorums e es) ts)) = news_apart e es ts h.1 in
      let away : (y : TxId × List Choice) → In y (filter_map commit_pair (filter_map (ledger.new_outcome cluster.quorums e es) ts)) → y.0 ≡ t → ⊥ =
      λ y g same. h.0 y.0 (listed_new e es ts y g).0 same in
      elim (cases_Option (ledger.outcome_of cluster.quorums (e ∷ es) t)) [
        | inl none ↦ rw none rest
        | inr now ↦ elim (cases_Option (ledger.outcome_of cluster.quorums es t)) [
          | inr before ↦ rw (now.1, before.1) rest
          | inl none ↦ rw (now.1, none) (by_outcome now.0 rest away)
        ]
      ]
    where
      by_outcome : (o : Outcome) → OnceEach (filter_map commit_pair (filter_map (ledger.new_outcome cluster.quorums e es) ts)) →
          ((y : TxId × List Choice) → In y (filter_map commit_pair (filter_map (ledger.new_outcome cluster.quorums e es) ts)) → y.0 ≡ t → ⊥) →
          OnceEach (filter_map commit_pair ((t, o) ∷ filter_map (ledger.new_outcome cluster.quorums e es) ts))
      by_outcome Abort rest away = rest
      by_outcome (Commit cs) rest away = (away, rest)
