use Rattle.std.proofs.Common.{ℕ, false, replicate, ◌∙◌, ap}
use Rattle.mdcc_frag.proofs.Taken.{none_are}
use Rattle.mdcc_frag.proofs.partial.Partial.new.Goals as goal

pub invariant_of-result : goal.invariant_of-result
invariant_of-result c =
    none_are (record { total = c.args.total; pieces = c.new.result; arrivals = c.new-2.result; held = c.in_ok-held.held }) c.requires
    c.new.ensures.items c.new-2.ensures.items
    (c.in_ok-held.ensures.items_if_clones_equal (λ y same. same) ∙ ap (λ (n : ℕ). replicate n false) c.count.ensures)
