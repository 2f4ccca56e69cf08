use Rattle.std.proofs.Common.{◌≡◌, drop, fold}
use Rattle.mdcc_audit.specs.Represents.{said_in}
use Rattle.mdcc_audit.specs.Sayings.{say_accepted}
use Rattle.mdcc_audit.proofs.sayings.say_all_accepted.Given as goal

abbrev pub invariant-loop-i : goal.invariant-loop-i
invariant-loop-i l =
    fold (say_accepted l.place) (said_in l.choices) (drop l.i l.options) ≡ fold (say_accepted l.place) (said_in l.initial.choices) l.options
