use Rattle.std.proofs.Common.{take}
use Rattle.std.specs.List.{AllByRecursion}
use Rattle.mdcc_theorem_worlds.specs.Words.{IsGivenWord}
use Rattle.mdcc_world.proofs.given.words_given.Given as goal

abbrev pub invariant-loop-word : goal.invariant-loop-word
invariant-loop-word l = AllByRecursion IsGivenWord (take l.word-index l.words)
