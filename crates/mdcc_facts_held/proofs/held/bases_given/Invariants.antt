use Rattle.std.proofs.Common.{◌≡◌, take}
use Rattle.std.specs.Prelude.{None, fold}
use Rattle.std.specs.Option.{option_or}
use Rattle.mdcc_def_protocol.specs.Facts.{base_given}
use Rattle.mdcc_facts_held.proofs.held.bases_given.Given as goal

abbrev pub invariant-loop-choice : goal.invariant-loop-choice
invariant-loop-choice l = l.base ≡ fold (λ base choice. option_or base (base_given l.key l.version choice)) None (take l.choice-index l.choices)
