use Rattle.std.proofs.Common.{ap, sym, ◌∙◌, ◌+◌, length, take, drop, take_all, length-take-le, arith}
use Rattle.mdcc_def_language.specs.Lines.{lines_in, bytes_of_line}
use Rattle.mdcc_sched.proofs.FirstLines.{front_line, other_lines, ended, unended}
use Rattle.mdcc_check_histories.proofs.places.first_line.Goals as goal

pub returns-then-len-text-clause-line : goal.returns-then-len-text-clause-line
returns-then-len-text-clause-line c =
    let text = c.args.text.now in
    let bytes = c.bytes_of_line-len.ensures.bytes in
    let less = rw bytes at c.if-len-text.true in
    rw bytes (ap (λ n. take n text) (sym (ended text less)) ∙ sym (front_line text))

pub returns-then-len-text-clause-others : goal.returns-then-len-text-clause-others
returns-then-len-text-clause-others c =
    let text = c.args.text.now in
    let bytes = c.bytes_of_line-len.ensures.bytes in
    let less = rw bytes at c.if-len-text.true in
    rw (bytes, length-take-le (length (bytes_of_line text) + 1) text (omega (arith, less))) (ap (λ n. lines_in (drop n text)) (sym (ended text less)) ∙ other_lines text)

pub returns-else-len-text-clause-line : goal.returns-else-len-text-clause-line
returns-else-len-text-clause-line c =
    let text = c.args.text.now in
    let more = rw c.bytes_of_line-len.ensures.bytes at c.if-len-text.false in
    sym (front_line text ∙ ap (λ n. take n text) (unended text more) ∙ take_all (length text) text (omega arith))

pub returns-else-len-text-clause-others : goal.returns-else-len-text-clause-others
returns-else-len-text-clause-others c =
    let text = c.args.text.now in
    let more = rw c.bytes_of_line-len.ensures.bytes at c.if-len-text.false in
    ap (λ n. lines_in (drop n text)) (sym (unended text more)) ∙ other_lines text
