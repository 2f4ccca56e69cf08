-- The marks of a structure, one after the other.
use Rattle.std.proofs.Common.{◌≡◌, ℕ, ◌+◌, Bool, true, false, List, [], ◌∷◌, Some, drop, not, slice_get, refl, arith, inl, inr, zero-add, ◌&&◌, ◌==◌}
use Rattle.std.specs.List.{list_all}
use Rattle.std.proofs.lemmas.Bool.{cases_Bool}
use Rattle.std.proofs.lemmas.Bool.Decides.{nat_tests}
use Rattle.mdcc_node_boot.specs.Admission.{are_new}
use Rattle.mdcc_base.specs.Counts.{number_of}
use Rattle.mdcc_base.specs.declared.identifiers.Ballot.{Ballot}
use Rattle.mdcc_base.specs.declared.identifiers.TxId.{TxId}
use Rattle.mdcc_base.specs.declared.key.Key.{Key}
use Rattle.mdcc_option.specs.declared.choices.Mark.{Mark}
use Rattle.mdcc_facts.specs.Past.{count_past, is_past_mark}
use Rattle.mdcc_option.specs.declared.cluster.Cluster.{Cluster}
use Rattle.mdcc_def_protocol.specs.Belongs.{mark_belongs, options_belong, tx_belongs}
use Rattle.mdcc_def_messages.specs.declared.facts.Fact.{Fact}
use Rattle.mdcc_struct.specs.declared.options.Options.{Options}
use Rattle.mdcc_struct.proofs.Walks.{drop-get}

module _ (cluster : Cluster) (options : Options) (i : ℕ) (tx : TxId) (mark : Mark) (at : slice_get options i ≡ Some (tx, mark)) where
  pub one-belongs : (tx_belongs cluster tx && mark_belongs cluster mark) ≡ true
      → options_belong cluster (drop i options) ≡ options_belong cluster (drop (i + 1) options)
  one-belongs e = rw (drop-get options i (tx, mark) at, e) refl

  pub one-apart : (tx_belongs cluster tx && mark_belongs cluster mark) ≡ false → options_belong cluster (drop i options) ≡ false
  one-apart e = rw (drop-get options i (tx, mark) at, e) refl

-- ---- none is past

none_pass : {X : Type 0} (p : X → Bool) (xs : List X) → (number_of p xs == 0) ≡ list_all (λ x. not (p x)) xs
none_pass p [] = refl
none_pass p (x ∷ xs) =
    elim (cases_Bool (p x)) [
      | inl passes ↦ rw passes (more (number_of p xs))
      | inr fails ↦ rw (fails, zero-add (number_of p xs)) (none_pass p xs)
    ]
  where
    more : (n : ℕ) → (1 + n == 0) ≡ false
    more n = grind (arith, nat_tests)

pub none_voted : (facts : List Fact) (key : Key) (version : ℕ) (ballot : Ballot) (options : Options)
    → (count_past facts key version ballot options == 0) ≡ are_new facts key version ballot options
none_voted facts key version ballot options = none_pass (λ e. is_past_mark facts key version ballot e.0) options
