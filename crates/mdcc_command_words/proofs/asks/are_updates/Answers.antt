use Rattle.std.proofs.Common.{sym, ◌∙◌}
use Rattle.std.specs.String.{string_bytes}
use Rattle.mdcc_command_words.proofs.Each.{all_are}
use Rattle.mdcc_command_words.specs.Asks.{update_in}
use Rattle.mdcc_command_words.proofs.asks.are_updates.Goals as goal

pub returns : goal.returns
returns c = c.has_updates.ensures ∙ sym (all_are string_bytes (update_in c.args.reads) c.args.words.now)
