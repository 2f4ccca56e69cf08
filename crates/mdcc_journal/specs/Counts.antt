-- Facts whose lists are no longer than their counts can say.
use Rattle.std.specs.Prelude.{◌<◌, ◌^◌, ⊤, length}
use Rattle.mdcc_def_messages.specs.declared.facts.Fact.{Fact}
use Rattle.mdcc_def_messages.specs.declared.facts.Fact.TheVariants as facts

-- a structure is counted with four bytes, deltas with one. Each well-formed fact is so
abbrev pub HasCounts : Fact → Type 0
HasCounts (facts.Voted key version ballot options offered) = length options < 2 ^ 32
HasCounts (facts.Adopted key version item adds) = length adds < 2 ^ 8
HasCounts _ = ⊤
