-- Numbers that are drawn, by the generator PCG-XSH-RR.
use Rattle.std.specs.Prelude.{ℕ, ◌%◌}
use Rattle.rand_core.specs.Pcg32Seed.{pcg32_seed}
use Rattle.rand_pcg.specs.Lcg.{Lcg}
use Rattle.rand_pcg.specs.Pcg.{pcg32, pcg32_of_seed}

-- the generator of a seed of 64 bits
unfoldable pub generator_of : ℕ → Lcg
generator_of seed = pcg32_of_seed (pcg32_seed 16 seed)

-- the next word of 32 bits, modulo a bound, and the generator after it
unfoldable pub drawn : ℕ → Lcg → ℕ × Lcg
drawn bound generator = ((pcg32 generator).0 % bound, (pcg32 generator).1)
