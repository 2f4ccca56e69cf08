use Rattle.std.proofs.Common.{◌≡◌, take}
use Rattle.std.specs.Prelude.{fold, max}
use Rattle.mdcc_def_protocol.specs.Facts.{version_given}
use Rattle.mdcc_facts_held.proofs.held.versions_given.Given as goal

abbrev pub invariant-loop-choice : goal.invariant-loop-choice
invariant-loop-choice l = l.version ≡ fold (λ version choice. max version (version_given l.key choice)) 0 (take l.choice-index l.choices)
