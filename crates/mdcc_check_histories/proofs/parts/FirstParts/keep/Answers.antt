use Rattle.std.proofs.Common.{List, [], subst, sym, take, ◌++◌, ◌∷◌, ◌≡◌}
use Rattle.mdcc_option.specs.declared.items.Part.{Part}
use Rattle.mdcc_check_histories.proofs.NineParts.{taken_full}
use Rattle.mdcc_check_histories.proofs.parts.FirstParts.keep.Goals as goal

pub returns-else-not-is_full-clause-value : goal.returns-else-not-is_full-clause-value
returns-else-not-is_full-clause-value c =
    subst (λ (parts : List Part). parts ≡ take 9 (parts ++ c.args.part ∷ [])) c.self.view_is
    (sym (taken_full 9 c.self.inside.parts.items (c.args.part ∷ []) (sym c.if-not-is_full.ensures.value)))
