use Rattle.std.proofs.Common.{◌≡◌, drop, map}
use Rattle.std.specs.String.{string_bytes}
use Rattle.mdcc_command_words.specs.Asks.{each, update_in}
use Rattle.mdcc_command_words.proofs.Each.{behind}
use Rattle.mdcc_command_words.proofs.asks.updates_in.Given as goal

-- these, and what is left
abbrev pub invariant-loop-word : goal.invariant-loop-word
invariant-loop-word l = behind l.updates (each (update_in l.reads) (map string_bytes (drop l.word-index l.words))) ≡ each (update_in l.reads) (map string_bytes l.words)
