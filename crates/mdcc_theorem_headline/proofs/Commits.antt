-- The commits that are chosen, one after the other, are the committed transactions.
use Rattle.std.proofs.Common.{List, Some, [], ap, false, inl, inr, refl, subst, suc, sym, true, zero, ℕ, ◌++◌, ◌∙◌, ◌∷◌, ◌≡◌}
use Rattle.std.specs.List.{filter_map}
use Rattle.std.specs.Prelude.{map}
use Rattle.std.proofs.lemmas.List.{append-nil}
use Rattle.mdcc_base.specs.Sizes.{Sizes}
use Rattle.mdcc_base.specs.declared.identifiers.TxId.{TxId}
use Rattle.mdcc_option.specs.declared.choices.Outcome.{Outcome}
use Rattle.mdcc_option.specs.declared.cluster.Cluster.{Cluster}
use Rattle.mdcc_def_ledger.specs.Ledger.{Entry, choices_begun, choices_committed, committed_of, new_outcomes, outcome_of, txs_voted}
use Rattle.mdcc_def_protocol.specs.Marks.{is_commit}
use Rattle.mdcc_def_simulation.specs.State.{booted_to}
use Rattle.mdcc_theorem_agreement.specs.Laws.{IsLedger}
use Rattle.mdcc_theorem_agreement.proofs.LawsTold.{commit_begun, outcome_kept}
use Rattle.mdcc_theorem_agreement.proofs.ReducedOptions.{In}
use Rattle.mdcc_theorem_reports.specs.Order.{Decided, decided_in}
use Rattle.mdcc_theorem_headline.specs.Truth.{commits_in}
use Rattle.mdcc_theorem_headline.proofs.Lines.{in-news}

-- a boot decides nothing
pub none-first : (quorums : Sizes) (n : ℕ) → decided_in quorums (booted_to n) ≡ []
none-first quorums zero = refl
none-first quorums (suc n) = append-nil (decided_in quorums (booted_to n)) ∙ none-first quorums n

commits-append : (xs ys : List Decided) → commits_in (xs ++ ys) ≡ commits_in xs ++ commits_in ys
commits-append [] ys = refl
commits-append ((tx, true) ∷ xs) ys = ap (λ l. tx ∷ l) (commits-append xs ys)
commits-append ((tx, false) ∷ xs) ys = commits-append xs ys

map-append : {A B : Type 0} (f : A → B) (xs ys : List A) → map f (xs ++ ys) ≡ map f xs ++ map f ys
map-append f [] ys = refl
map-append f (x ∷ xs) ys = ap (λ l. f x ∷ l) (map-append f xs ys)

module _ (cluster : Cluster) (whole : List Entry) (h : IsLedger cluster whole) where
  -- outcomes that the ledger has
  news-listed : (os : List (TxId × Outcome)) → ((x : TxId × Outcome) → In x os → outcome_of cluster.quorums whole x.0 ≡ Some x.1) →
      map (choices_begun whole) (commits_in (map (λ (e : TxId × Outcome). (e.0, is_commit e.1)) os)) ≡ filter_map choices_committed os
  news-listed [] f = refl
  news-listed ((tx, Outcome.Commit choices) ∷ os) f =
      ap (λ cs. cs ∷ map (choices_begun whole) (commits_in (map (λ (e : TxId × Outcome). (e.0, is_commit e.1)) os))) (commit_begun cluster whole h tx choices (f (tx, Outcome.Commit choices) (inl refl)))
      ∙ ap (λ l. choices ∷ l) (news-listed os (λ x g. f x (inr g)))
  news-listed ((tx, Outcome.Abort) ∷ os) f = news-listed os (λ x g. f x (inr g))

  -- the same up to an earlier entry
  listed-to : (later es : List Entry) → whole ≡ later ++ es → map (choices_begun whole) (commits_in (decided_in cluster.quorums es)) ≡ committed_of cluster.quorums es
  listed-to later [] parts = refl
  listed-to later (entry ∷ before) parts =
      ap (map (choices_begun whole)) (commits-append (decided_in cluster.quorums before) news)
      ∙ map-append (choices_begun whole) (commits_in (decided_in cluster.quorums before)) (commits_in news)
      ∙ ap (λ l. l ++ map (choices_begun whole) (commits_in news)) (listed-to (later ++ (entry ∷ [])) before (parts ∙ sym (moved later)))
      ∙ ap (λ l. committed_of cluster.quorums before ++ l) (news-listed (new_outcomes cluster.quorums entry before) known)
    where
      news : List Decided
      news = map (λ (e : TxId × Outcome). (e.0, is_commit e.1)) (new_outcomes cluster.quorums entry before)

      moved : (later : List Entry) → (later ++ (entry ∷ [])) ++ before ≡ later ++ (entry ∷ before)
      moved [] = refl
      moved (x ∷ later) = ap (λ l. x ∷ l) (moved later)

      known : (x : TxId × Outcome) → In x (new_outcomes cluster.quorums entry before) → outcome_of cluster.quorums whole x.0 ≡ Some x.1
      known x g =
          subst (λ l. outcome_of cluster.quorums l x.0 ≡ Some x.1) (sym parts)
          (outcome_kept cluster later (entry ∷ before) (subst (IsLedger cluster) parts h) x.0 x.1 (in-news cluster entry before (txs_voted entry) x g))

  -- in the order in which they were chosen
  pub commits-listed : map (choices_begun whole) (commits_in (decided_in cluster.quorums whole)) ≡ committed_of cluster.quorums whole
  commits-listed = listed-to [] whole refl
