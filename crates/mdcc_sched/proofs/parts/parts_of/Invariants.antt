use Rattle.std.proofs.Common.{◌≡◌, drop}
use Rattle.mdcc_def_language.specs.Resolve.{parts_of}
use Rattle.mdcc_sched_words.proofs.Onto.{onto}
use Rattle.mdcc_sched.proofs.parts.parts_of.Given as goal

abbrev pub invariant-loop-word : goal.invariant-loop-word
invariant-loop-word l = onto l.parts (parts_of l.reads (drop l.word-index l.words)) ≡ parts_of l.reads l.words
