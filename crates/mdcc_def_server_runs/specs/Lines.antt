-- The text of the lines that a server prints.
use Rattle.std.specs.Prelude.{List, codes, decimal, ℕ, ◌++◌}
use Rattle.mdcc_base.specs.TxId.{tx_text}
use Rattle.mdcc_def_language.specs.Report.{outcome_text}
use Rattle.mdcc_def_server_runs.specs.declared.lines.ServerLine.{ServerLine}

abbrev pub server_words_text : ServerLine → List ℕ
server_words_text (ServerLine.Booted centre epoch) = codes "boot " ++ decimal centre ++ codes " epoch " ++ decimal epoch
server_words_text (ServerLine.Heard centre tx is_commit) = codes "heard " ++ decimal centre ++ codes " " ++ tx_text tx ++ codes " " ++ outcome_text is_commit
server_words_text (ServerLine.Done turns steps dropped lost) =
    codes "done turns " ++ decimal turns ++ codes " steps " ++ decimal steps ++ codes " dropped " ++ decimal dropped ++ codes " lost " ++ decimal lost

abbrev pub server_line_text : ServerLine → List ℕ
server_line_text line = server_words_text line ++ codes "\n"
