use Rattle.std.proofs.Common.{◌≡◌, length, take}
use Rattle.mdcc_manager.specs.Opened.{open_choices}
use Rattle.mdcc_manager.proofs.opened.OpenChoices.new.Given as goal

abbrev pub invariant-loop-choice : goal.invariant-loop-choice
invariant-loop-choice l = record {
  copied : l.choices.items ≡ open_choices (take l.choice-index l.choice-items);
  fits : length l.choices.items ≡ l.choice-index;
}
