use Rattle.std.proofs.Common.{◌≡◌, ◌+◌, drop, map}
use Rattle.std.specs.List.{prefix_len}
use Rattle.std.specs.String.{string_bytes}
use Rattle.mdcc_command_words.specs.Asks.{is_read}
use Rattle.mdcc_command_words.proofs.asks.reads_first.Given as goal

abbrev pub invariant-loop-index : goal.invariant-loop-index
invariant-loop-index l = l.index + prefix_len is_read (map string_bytes (drop l.index l.words)) ≡ prefix_len is_read (map string_bytes l.words)
