use Rattle.std.proofs.Common.{◌≡◌, drop, fold}
use Rattle.mdcc_audit.specs.Represents.{said_in}
use Rattle.mdcc_audit.specs.Sayings.{say_choice}
use Rattle.mdcc_audit.proofs.sayings.say_choices.Given as goal

abbrev pub invariant-loop-choice : goal.invariant-loop-choice
invariant-loop-choice l =
    fold (say_choice l.place) (said_in l.choices) (drop l.choice-index l.named) ≡ fold (say_choice l.place) (said_in l.initial.choices) l.named
