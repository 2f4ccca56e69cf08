use Rattle.std.proofs.Common.{◌≡◌, drop}
use Rattle.mdcc_def_language.specs.Resolve.{first_missing}
use Rattle.mdcc_sched.proofs.parts.first_missing.Given as goal

abbrev pub invariant-loop-word : goal.invariant-loop-word
invariant-loop-word l = first_missing l.reads (drop l.word-index l.words) ≡ first_missing l.reads l.words
