use Rattle.std.proofs.Common.{◌≡◌, ◌++◌, ap, sym, ◌∙◌, append_assoc}
use Rattle.std.specs.Fmt.{signed_decimal}
use Rattle.std.specs.String.{string_bytes}
use Rattle.mdcc_sched.specs.Texts.{more_values_text}
use Rattle.mdcc_sched.proofs.ValueTexts.{values_first}
use Rattle.mdcc_check_print.proofs.print.write_values.Goals as goal

pub returns-in_ok-write_more_values : goal.returns-in_ok-write_more_values
returns-in_ok-write_more_values c =
    let text = string_bytes c.args.text.now in
    let first = signed_decimal c.in-Some.first.now in
    let others = more_values_text c.in-Some.others.now in
    let whole : (text ++ first) ++ others ≡ text ++ (first ++ others) = append_assoc text first others in
    rw (c.in_ok-write_more_values.ensures, c.in_ok-write.ensures.bytes, c.in-Some.ensures.cases.0)
    (whole ∙ ap (λ t. text ++ t) (sym (values_first c.in-Some.first.now c.in-Some.others.now)))
