use Rattle.std.proofs.Common.{◌∙◌, Option, ap, is_some, map, sym}
use Rattle.std.specs.String.{string_bytes}
use Rattle.mdcc_command_words.proofs.Taken.{commands_are_taken}
use Rattle.mdcc_command_words.specs.declared.words.Command.{Command}
use Rattle.mdcc_command_words.proofs.words.command_of.Goals as goal

-- the parser takes the words of each command
pub returns-else-branch-clause-value : goal.returns-else-branch-clause-value
returns-else-branch-clause-value c =
    let words = map string_bytes c.args.words.now in
    let some = ap (λ (command : Option Command). is_some command) (sym c.in_ok-command.ensures.value ∙ c.in-Some.is) in
    let taken = commands_are_taken words (sym c.is_refused.ensures ∙ c.if-is_refused.false) some in
    let yes = c.in_ok-has_form.ensures.1 taken in
    absurd (cc (yes, c.if-branch.false))
