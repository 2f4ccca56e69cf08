use Rattle.std.proofs.Common.{◌≡◌, ◌++◌, drop, map}
use Rattle.mdcc_theorem_worlds.specs.StepEffects.{chosen_line}
use Rattle.mdcc_world.proofs.commits.push_chosen.Given as goal

abbrev pub invariant-loop-ending : goal.invariant-loop-ending
invariant-loop-ending l = l.lines ++ map chosen_line (drop l.ending-index l.endings) ≡ l.fn.lines ++ map chosen_line l.endings
