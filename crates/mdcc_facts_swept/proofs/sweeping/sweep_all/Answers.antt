use Rattle.std.proofs.Common.{◌+◌, ap, refl, subst, sym, ◌∙◌, arith}
use Rattle.mdcc_cells_chains.proofs.Filtered.{older-all}
use Rattle.mdcc_cells_indices.proofs.Entered.{held-length}
use Rattle.mdcc_given_back.specs.Compact.{compacted}
use Rattle.mdcc_given_back.specs.Counted.{without_floors}
use Rattle.mdcc_facts_swept.specs.Swept.{HasHalf}
use Rattle.mdcc_facts_swept.proofs.Steps.{IsWritten}
use Rattle.mdcc_facts_swept.proofs.Writing.{older-none}
use Rattle.mdcc_facts_swept.proofs.sweeping.sweep_all.Goals as goal

pub loop-number-init : goal.loop-number-init
loop-number-init c = record {
  same = refl;
  size = refl;
  written = λ facts is. subst (HasHalf c.clear.new.self) (sym (ap (compacted facts) (older-none (without_floors is.rest)))) c.clear.ensures.empty;
}

pub loop-number-preserved : goal.loop-number-preserved
loop-number-preserved c = record {
  same = c.in_ok-sweep_one.ensures.same ∙ c.loop-number.invariant.same;
  size = c.in_ok-sweep_one.ensures.size ∙ c.loop-number.invariant.size;
  written = subst (IsWritten c.sweep_one.new.next (c.loop-number.number + 1)) (sym c.in_ok-sweep_one.ensures.same) c.in_ok-sweep_one.ensures.written;
}

pub returns-clause-written : goal.returns-clause-written
returns-clause-written c facts is =
    let many = held-length c.args.kept.now.inner.cells.encodings (without_floors is.rest) is.inner.cells in
    let all = older-all c.loop-number.number (without_floors is.rest) (omega (arith, many, c.len-number-end.ensures.value, c.loop-number-test.false)) in
    subst (HasHalf c.loop-number.next) (ap (compacted facts) all) (subst (IsWritten c.loop-number.next c.loop-number.number) c.loop-number.invariant.same c.loop-number.invariant.written facts is)
