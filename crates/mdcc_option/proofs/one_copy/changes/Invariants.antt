use Rattle.std.proofs.Common.{◌≡◌, drop}
use Rattle.std.specs.HashMap.{get}
use Rattle.std.specs.Map.{update_all}
use Rattle.mdcc_base.specs.Key.{key_eq}
use Rattle.mdcc_option.specs.OneCopy.{stored}
use Rattle.mdcc_option.proofs.one_copy.changes.Given as goal

abbrev pub invariant-loop-choice : goal.invariant-loop-choice
invariant-loop-choice l =
    let before = get key_eq l.items in
    stored l.schema before (update_all key_eq before l.list.items) (drop l.choice-index l.choices)
    ≡ stored l.schema before before l.choices
