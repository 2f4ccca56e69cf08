-- The counts of a report's last line.
use Rattle.std.proofs.Common.{◌≡◌, ℕ, ◌+◌, Bool, List, [], ◌∷◌, refl, ap, ◌∙◌, Option, Some, None, map, if◌then◌else◌, not}
use Rattle.std.specs.Prelude.{is_some, option_map}
use Rattle.mdcc_base.specs.Counts.{number_of}
use Rattle.mdcc_base.specs.Sizes.{Sizes}
use Rattle.mdcc_option.specs.declared.choices.Outcome.{Outcome}
use Rattle.mdcc_world_decisions.specs.Decided.{decided_of, is_abort_decided, is_commit_decided, totals_of}
use Rattle.mdcc_def_ledger.specs.Ledger.{Entry, outcome_of, txs_begun}
use Rattle.mdcc_def_protocol.specs.Marks.{is_abort, is_commit}
use Rattle.mdcc_def_simulation.specs.Runs.{is_commit_found}

counted-by : {X Y : Type 0} (f : Y → Bool) (g : X → Y) (h : X → Bool) (xs : List X) → ((x : X) → f (g x) ≡ h x) → number_of f (map g xs) ≡ number_of h xs
counted-by f g h [] same = refl
counted-by f g h (x ∷ xs) same =
    ap (λ (b : Bool). (if b then 1 else 0) + number_of f (map g xs)) (same x) ∙ ap (λ (n : ℕ). (if h x then 1 else 0) + n) (counted-by f g h xs same)

commit-is : (o : Option Outcome) → is_commit_found o ≡ is_commit_decided (option_map is_commit o)
commit-is None = refl
commit-is (Some (Outcome.Commit choices)) = refl
commit-is (Some Outcome.Abort) = refl

abort-is : (o : Option Outcome) → is_abort o ≡ is_abort_decided (option_map is_commit o)
abort-is None = refl
abort-is (Some (Outcome.Commit choices)) = refl
abort-is (Some Outcome.Abort) = refl

open-is : (o : Option Outcome) → not (is_some o) ≡ not (is_some (option_map is_commit o))
open-is None = refl
open-is (Some outcome) = refl

module _ (quorums : Sizes) (entries : List Entry) where
  pub commits-are : number_of is_commit_found (map (outcome_of quorums entries) (txs_begun entries)) ≡ (totals_of (decided_of quorums entries) (txs_begun entries)).commits
  commits-are = counted-by is_commit_found (outcome_of quorums entries) (λ tx. is_commit_decided (decided_of quorums entries tx)) (txs_begun entries)
      (λ tx. commit-is (outcome_of quorums entries tx))

  pub aborts-are : number_of is_abort (map (outcome_of quorums entries) (txs_begun entries)) ≡ (totals_of (decided_of quorums entries) (txs_begun entries)).aborts
  aborts-are = counted-by is_abort (outcome_of quorums entries) (λ tx. is_abort_decided (decided_of quorums entries tx)) (txs_begun entries)
      (λ tx. abort-is (outcome_of quorums entries tx))

  pub undecided-are : number_of (λ o. not (is_some o)) (map (outcome_of quorums entries) (txs_begun entries)) ≡ (totals_of (decided_of quorums entries) (txs_begun entries)).undecided
  undecided-are = counted-by (λ (o : Option Outcome). not (is_some o)) (outcome_of quorums entries) (λ tx. not (is_some (decided_of quorums entries tx))) (txs_begun entries)
      (λ tx. open-is (outcome_of quorums entries tx))
