use Rattle.std.proofs.Common.{sym, ◌∙◌}
use Rattle.mdcc_facts.specs.Past.{is_past_mark}
use Rattle.mdcc_node.specs.StepParts.{is_unknown}
use Rattle.mdcc_node.proofs.Rest.{all_left}
use Rattle.mdcc_node.proofs.Shown.{new_given}
use Rattle.mdcc_node.proofs.votes.unvoted_marks.Goals as goal

pub returns-then-are_unvoted : goal.returns-then-are_unvoted
returns-then-are_unvoted g c = λ facts store.
    all_left (λ e. is_unknown facts e.0) (λ e. is_past_mark facts c.args.key.now c.args.version c.args.ballot e.0) c.args.options.now _
    (c.in_ok-marks.ensures facts store) (sym (c.are_unvoted.ensures facts store) ∙ c.if-are_unvoted.true)

pub returns : goal.returns
returns g c = λ facts store.
    new_given facts c.args.key.now c.args.version c.args.ballot c.args.options.now _ c.new_marks.result (c.in_ok-votes.ensures facts store) (c.new_marks.ensures facts store)
