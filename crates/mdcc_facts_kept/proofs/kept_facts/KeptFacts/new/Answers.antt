use Rattle.std.proofs.Common.{◌≡◌, ◌≤◌, ◌+◌, ◌*◌, [], ap, arith, length, ℕ}
use Rattle.mdcc_cells_chains.specs.Unresolved.{Numbered}
use Rattle.mdcc_cells_marked.specs.Marks.{MarkedTxs}
use Rattle.mdcc_facts_kept.specs.Kept.{IsKept}
use Rattle.mdcc_facts_kept.proofs.More.{none-kept}
use Rattle.mdcc_facts_kept.proofs.kept_facts.KeptFacts.new.Goals as goal

empty : (c : goal.In_ok-new-2)
    → IsKept (record { inner = c.in_ok-new.field-0; marked = c.in_ok-no_marks.field-0; floors = c.in_ok-new-2.field-0; cells = c.args.cells }) []
empty c =
    none-kept (record { inner = c.in_ok-new.field-0; marked = c.in_ok-no_marks.field-0; floors = c.in_ok-new-2.field-0; cells = c.args.cells }) c.in_ok-new.ensures.empty
    (ap (λ (m : MarkedTxs). m.entries) c.in_ok-no_marks.ensures) c.in_ok-new-2.ensures.holds (ap (λ (f : Numbered). f.entries) c.in_ok-new-2.ensures.value)

marks-room : (long spare room cells : ℕ) → long ≡ 0 → spare ≡ cells → room ≡ cells * 6 → long + 6 * spare ≤ room
marks-room long spare room cells a b d = omega (arith, a, b, d)

all-room : (room cells : ℕ) → room ≡ cells * 6 → 6 * cells ≤ room
all-room room cells a = omega (arith, a)

pub invariant_of-result : goal.invariant_of-result
invariant_of-result c = record {
  facts = [];
  kept = empty c;
  size = c.in_ok-new.ensures.cells;
  marks =
      marks-room (length c.in_ok-no_marks.field-0.entries) c.in_ok-new.field-0.cells.spare c.in_ok-no_marks.field-0.room c.args.cells
      (ap (λ (m : MarkedTxs). length m.entries) c.in_ok-no_marks.ensures) c.in_ok-new.ensures.spare (ap (λ (m : MarkedTxs). m.room) c.in_ok-no_marks.ensures);
  all_marks = all-room c.in_ok-no_marks.field-0.room c.args.cells (ap (λ (m : MarkedTxs). m.room) c.in_ok-no_marks.ensures);
}

pub returns-clause-empty : goal.returns-clause-empty
returns-clause-empty c = empty c
