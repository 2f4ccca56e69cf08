use Rattle.std.proofs.Common.{◌≡◌, None, drop}
use Rattle.std.specs.HashMap.{get}
use Rattle.mdcc_base.specs.Key.{key_eq}
use Rattle.mdcc_option.specs.OneCopy.{key_failed}
use Rattle.mdcc_option.proofs.one_copy.key_failed.Given as goal

abbrev pub invariant-loop-choice : goal.invariant-loop-choice
invariant-loop-choice l =
    key_failed l.schema (get key_eq l.items) l.least (drop l.choice-index l.choices)
    ≡ key_failed l.schema (get key_eq l.items) None l.choices
