-- The test of a begun transaction decides whether it is allowed.
use Rattle.std.proofs.Common.{◌≡◌, ℕ, ◌+◌, Bool, true, false, cond, List, map, refl, ap, ◌∙◌, Option, Some, None, Ok, Err, is_ok, ◌==◌, length, nat_lt, Decides}
use Rattle.std.proofs.lemmas.Bool.{and_parts, and_from}
use Rattle.std.proofs.lemmas.Bool.Decides.{Decides-eqb, Decides-ltb, Decides-and, Decides-like}
use Rattle.mdcc_base.specs.declared.identifiers.TxId.{TxId}
use Rattle.mdcc_option.specs.Parts.{are_parts_ascending, is_key_repeated, sorted_parts}
use Rattle.mdcc_option.specs.Transaction.{checked_by, choices_of, parts_fault, transaction_of}
use Rattle.mdcc_option.specs.declared.choices.Choice.{Choice}
use Rattle.mdcc_option.specs.declared.cluster.Cluster.{Cluster}
use Rattle.mdcc_option.specs.declared.faults.DraftFault.{DraftFault}
use Rattle.mdcc_option.specs.declared.faults.DraftFault.TheVariants.{Empty, TooMany, RepeatedKey}
use Rattle.mdcc_option.specs.declared.items.Part.{Part}
use Rattle.mdcc_option.specs.declared.schema.Schema.{Schema}
use Rattle.mdcc_option.proofs.Equal.{Decides-choices}
use Rattle.mdcc_def_ledger.specs.AllowedLedgers.{IsAllowedBegun, part_in, seqs_begun}
use Rattle.mdcc_theorem_ledger.specs.LedgerTest.{is_begun_allowed, is_draft}
use Rattle.mdcc_def_protocol.specs.Facts.{epoch_of}
use Rattle.mdcc_def_ledger.specs.Ledger.{Entry, facts_of}
use Rattle.mdcc_def_protocol.specs.Manager.{parts_begin_fault}
use Rattle.mdcc_theorem_ledger.proofs.SortedParts.{sorted_parts-ascending}
use Rattle.mdcc_theorem_ledger.proofs.TestsDecide.{Decides-none}

-- what is a draft at all is the parts that were sorted
drafted : (is_empty is_long is_repeated : Bool) (fault : Option DraftFault) (parts : List Part)
    → is_ok (cond is_empty (Err Empty) (cond is_long (Err TooMany) (cond is_repeated (Err RepeatedKey) (checked_by fault parts)))) ≡ true
    → cond is_empty (Err Empty) (cond is_long (Err TooMany) (cond is_repeated (Err RepeatedKey) (checked_by fault parts))) ≡ Ok parts
drafted true is_long is_repeated fault parts h = absurd cc
drafted false true is_repeated fault parts h = absurd cc
drafted false false true fault parts h = absurd cc
drafted false false false (Some fault) parts h = absurd cc
drafted false false false None parts h = refl

Decides-draft : (schema : Schema) (parts : List Part) → Decides (is_draft schema parts) ((are_parts_ascending parts ≡ true) × (transaction_of schema parts ≡ Ok parts))
Decides-draft schema parts = (
  λ h.
      let both : (are_parts_ascending parts ≡ true) × (is_ok (transaction_of schema parts) ≡ true) = and_parts _ _ h in
      let given : transaction_of schema parts ≡ Ok (sorted_parts parts) =
      drafted (length parts == 0) (nat_lt 8 (length parts)) (is_key_repeated parts) (parts_fault schema (sorted_parts parts)) (sorted_parts parts) both.1 in
      (both.0, given ∙ ap Ok (sorted_parts-ascending parts both.0)),
  λ e. and_from _ _ e.0 (ap is_ok e.1),
)

pub Decides-begun : (cluster : Cluster) (before : List Entry) (a : ℕ) (tx : TxId) (choices : List Choice)
    → Decides (is_begun_allowed cluster before a tx choices) (IsAllowedBegun cluster before a tx choices)
Decides-begun cluster before a tx choices =
    Decides-like (is_begun_allowed cluster before a tx choices)
    (λ h. record {
      centre = h.0.0.0.0.0.0;
      booted = h.0.0.0.0.0.1;
      epoch = h.0.0.0.0.1;
      seq = h.0.0.0.1;
      made = h.0.0.1;
      ascending = h.0.1.0;
      draft = h.0.1.1;
      held = h.1;
    })
    (λ b. ((((((b.centre, b.booted), b.epoch), b.seq), b.made), (b.ascending, b.draft)), b.held))
    (Decides-and _ _ (Decides-and _ _ (Decides-and _ _ (Decides-and _ _ (Decides-and _ _ (Decides-and _ _
    (Decides-eqb tx.centre a)
    (Decides-ltb 0 (epoch_of (facts_of before a))))
    (Decides-eqb tx.epoch (epoch_of (facts_of before a))))
    (Decides-eqb tx.seq (seqs_begun before a tx.epoch + 1)))
    (Decides-choices choices (choices_of tx (map part_in choices))))
    (Decides-draft cluster.schema (map part_in choices)))
    (Decides-none (parts_begin_fault (facts_of before a) (map part_in choices))))
