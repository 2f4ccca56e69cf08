-- The delta of a transaction in a version of a key is found in one walk.
use Rattle.std.proofs.Common.{◌≡◌, ℕ, Bool, List, [], ◌∷◌, None, refl, ap, ◌∙◌}
use Rattle.std.specs.List.{filter, fold}
use Rattle.std.specs.Option.{option_or}
use Rattle.mdcc_base.specs.declared.identifiers.TxId.{TxId}
use Rattle.mdcc_base.specs.declared.key.Key.{Key}
use Rattle.mdcc_def_messages.specs.declared.facts.Fact.{Fact}
use Rattle.mdcc_def_protocol.specs.Facts.{deltas_at, deltas_from}
use Rattle.mdcc_struct.proofs.Values.{value_of-union}
use Rattle.mdcc_struct.specs.Maps.{value_of}
use Rattle.mdcc_theorem_fact_folds.specs.Chains.{Covers, is_delta_in}
use Rattle.mdcc_theorem_fact_folds.specs.Held.{older_amounts}
use Rattle.mdcc_theorem_fact_folds.proofs.Chosen.{or_assoc, or_left, or_right}
use Rattle.mdcc_theorem_fact_folds.proofs.Deltas.{no_deltas}
use Rattle.mdcc_theorem_fact_folds.proofs.Folded.{gathered, gathered-walk}
use Rattle.mdcc_theorem_fact_folds.proofs.Ignored.{left_out}

amounts-gathered : (key : Key) (version : ℕ) (tx : TxId) (facts : List Fact)
    → value_of (deltas_at facts key version) tx ≡ gathered option_or None (λ fact. value_of (deltas_from key version fact) tx) facts
amounts-gathered key version tx [] = refl
amounts-gathered key version tx (fact ∷ facts) =
    value_of-union (deltas_at facts key version) (deltas_from key version fact) tx
    ∙ ap (λ o. option_or o (value_of (deltas_from key version fact) tx)) (amounts-gathered key version tx facts)

pub amounts-walk : (keep : Fact → Bool) (key : Key) (version : ℕ) (tx : TxId) (facts : List Fact) → Covers keep (is_delta_in key version)
    → value_of (deltas_at facts key version) tx ≡ fold (older_amounts key version tx) None (filter keep facts)
amounts-walk keep key version tx facts covers =
    amounts-gathered key version tx facts
    ∙ gathered-walk option_or None (λ fact. value_of (deltas_from key version fact) tx) or_left or_right or_assoc keep
    (λ fact left. ap (λ m. value_of m tx) (no_deltas key version fact (left_out keep (is_delta_in key version) covers fact left))) facts
