use Rattle.std.proofs.Common.{◌≡◌, ◌++◌, ap, sym, ◌∙◌, append_assoc}
use Rattle.std.specs.String.{string_bytes}
use Rattle.mdcc_sched_words.specs.Spelled.{amount_text}
use Rattle.mdcc_check_print.specs.Writing.{more_amounts_text}
use Rattle.mdcc_check_print.proofs.Amounts.{amounts_first}
use Rattle.mdcc_check_print.proofs.print.write_amounts.Goals as goal

pub returns-in_ok-write_more_amounts : goal.returns-in_ok-write_more_amounts
returns-in_ok-write_more_amounts c =
    let text = string_bytes c.args.text.now in
    let first = amount_text c.in-Some.first.now in
    let others = more_amounts_text c.in-Some.others.now in
    let whole : (text ++ first) ++ others ≡ text ++ (first ++ others) = append_assoc text first others in
    rw (c.in_ok-write_more_amounts.ensures, c.in_ok-write_amount.ensures, c.in-Some.ensures.cases.0)
    (whole ∙ ap (λ t. text ++ t) (sym (amounts_first c.in-Some.first.now c.in-Some.others.now)))
