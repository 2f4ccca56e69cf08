use Rattle.std.proofs.Common.{◌≡◌, ◌+◌, ◌≤◌, ℕ, arith, nat_le, true, ◌∙◌, sym}
use Rattle.std.proofs.lemmas.Bool.{and_from, le-leb}
use Rattle.mdcc_disks.specs.Memory.{AllMemory, is_there}
use Rattle.mdcc_command_tests.proofs.runs.run_over.Goals as goal

there : (disks : AllMemory) (p : ℕ) → disks.count ≡ 25 → 1 ≤ p → p ≤ 25 → is_there disks p ≡ true
there disks p counted some few = and_from (nat_le 1 p) (nat_le p disks.count) (le-leb 1 p some) (le-leb p disks.count (omega (few, counted, arith)))

pub run-requires : goal.run-requires
run-requires g c a some few =
    there c.args.disks.now (a + 16) c.requires (omega arith) (omega (few, arith)) ∙ sym (there c.args.disks.now a c.requires some (omega (few, arith)))
