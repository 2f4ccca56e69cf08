use Rattle.std.proofs.Common.{sym, ◌∙◌}
use Rattle.std.specs.String.{string_bytes}
use Rattle.mdcc_command_words.proofs.Each.{all_are}
use Rattle.mdcc_command_words.specs.Asks.{key_in}
use Rattle.mdcc_command_words.proofs.asks.are_keys.Goals as goal

pub returns : goal.returns
returns c = c.has_keys.ensures ∙ sym (all_are string_bytes key_in c.args.words.now)
