use Rattle.std.proofs.Common.{◌∷◌, refl, sym, ap, ◌∙◌, arith, subst}
use Rattle.std.specs.Prelude.{if◌then◌else◌}
use Rattle.mdcc_facts.specs.Adding.{MayBeAdded}
use Rattle.mdcc_cells_chains.specs.Keys.{instance_eq}
use Rattle.mdcc_cells_indices.specs.Tallies.{HoldsTallies, tally_in, with_vote}
use Rattle.mdcc_cells_indices.proofs.Tallying.{tallies-adopted, tallies-kept, tallies-more}
use Rattle.mdcc_cells_indices.proofs.tallies.Tallies.add.Goals as goal

pub returns-in-Voted-clause-tallies : goal.returns-in-Voted-clause-tallies
returns-in-Voted-clause-tallies c facts holds may =
    let old = c.args.self.now in
    let vote = c.in-Voted in
    subst (λ fact. HoldsTallies c.push.new.self (fact ∷ facts)) (sym vote.is)
    (tallies-more old c.push.new.self facts vote.key vote.version vote.ballot vote.options vote.offered
    (λ other. c.push.ensures.tallies other
    ∙ ap (λ tally. if instance_eq other (vote.key, vote.version) then tally else tally_in old other)
    (c.with_vote-tally.ensures ∙ ap (λ tally. with_vote tally vote.ballot vote.options vote.offered) c.tally.ensures))
    holds (subst (MayBeAdded facts) vote.is may))

pub returns-in-Adopted-clause-tallies : goal.returns-in-Adopted-clause-tallies
returns-in-Adopted-clause-tallies c facts holds may =
    let old = c.args.self.now in
    let fact = c.in-Adopted in
    subst (λ fact. HoldsTallies c.push_adopted.new.self (fact ∷ facts)) (sym fact.is)
    (tallies-adopted old c.push_adopted.new.self facts fact.key fact.version fact.item fact.adds c.push_adopted.ensures.tallies holds (subst (MayBeAdded facts) fact.is may))

pub returns-in_default-fact : goal.returns-in_default-fact
returns-in_default-fact c = record {
  tallies = λ facts holds may. tallies-kept c.args.self.now facts c.args.fact.now c.in_default.not-Voted c.in_default-fact.not-Adopted holds may;
  few = omega arith;
  room = refl;
}
