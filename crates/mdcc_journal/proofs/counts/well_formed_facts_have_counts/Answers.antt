use Rattle.std.proofs.Common.{arith}
use Rattle.mdcc_def_messages.specs.declared.facts.Fact.{Fact}
use Rattle.mdcc_def_messages.specs.declared.facts.Fact.TheVariants as facts
use Rattle.mdcc_def_messages.specs.WellFormed.{IsWellFormedFact}
use Rattle.mdcc_journal.specs.Counts.{HasCounts}
use Rattle.mdcc_journal.proofs.counts.well_formed_facts_have_counts.Goals as goal

has_counts : (fact : Fact) → IsWellFormedFact fact → HasCounts fact
has_counts (facts.Booted epoch) w = tt
has_counts (facts.Floor origin era upto) w = tt
has_counts (facts.Promised key low high ballot) w = tt
has_counts (facts.Voted key version ballot options offered) w = w.options_itself.count
has_counts (facts.Heard tx outcome) w = tt
has_counts (facts.Adopted key version item adds) w = omega (arith, w.few)

pub returns : goal.returns
returns c = has_counts
