use Rattle.std.proofs.Common.{◌≡◌, drop, map}
use Rattle.std.specs.String.{string_bytes}
use Rattle.mdcc_command_words.specs.Asks.{each, key_in}
use Rattle.mdcc_command_words.proofs.Each.{behind}
use Rattle.mdcc_command_words.proofs.asks.keys_in.Given as goal

-- these, and what is left
abbrev pub invariant-loop-word : goal.invariant-loop-word
invariant-loop-word l = behind l.keys (each key_in (map string_bytes (drop l.word-index l.words))) ≡ each key_in (map string_bytes l.words)
