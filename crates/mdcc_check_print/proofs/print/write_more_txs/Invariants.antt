use Rattle.std.proofs.Common.{◌≡◌, ◌++◌, drop}
use Rattle.std.specs.String.{string_bytes}
use Rattle.mdcc_check_print.specs.Text.{more_txs_text}
use Rattle.mdcc_check_print.proofs.print.write_more_txs.Given as goal

abbrev pub invariant-loop-tx : goal.invariant-loop-tx
invariant-loop-tx l = string_bytes l.text ++ more_txs_text (drop l.tx-index l.txs) ≡ string_bytes l.initial.text ++ more_txs_text l.txs
