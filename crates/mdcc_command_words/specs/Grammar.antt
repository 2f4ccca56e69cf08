-- The words that the program takes, as the parser of words keeps them.
use Rattle.std.specs.Prelude.{Some, codes, true}
use Rattle.clap.specs.Words.{App, Rule, Text, new_app, new_rule, with_rule, with_subcommand}
use Rattle.clap.specs.declared.builder.ArgAction.TheVariants.{Append, Set}

-- a word that has to be there
abbrev pub positional : Text → Rule
positional name = record (new_rule name) { required = true; action = Some Set }

-- a command without options
abbrev pub bare : Text → App
bare name = let app = new_app name in record app { top = record app.top { disable_help_flag = true } }

abbrev pub replay : App
replay = bare (codes "replay")

abbrev pub sample : App
sample = with_rule (with_rule (with_rule (bare (codes "sample")) (positional (codes "seed"))) (positional (codes "items"))) (positional (codes "orders"))

abbrev pub node : App
node = with_rule (with_rule (bare (codes "node")) (positional (codes "centre"))) (positional (codes "turns"))

abbrev pub cluster : App
cluster = with_rule (bare (codes "cluster")) (positional (codes "turns"))

abbrev pub dump : App
dump = with_rule (bare (codes "dump")) (positional (codes "centre"))

abbrev pub check : App
check = bare (codes "check")

abbrev pub audit : App
audit = bare (codes "audit")

-- one to sixteen words
abbrev pub words_rule : Rule
words_rule = record (positional (codes "words")) { action = Some Append; range = Some (record { start_inclusive = 1; end_inclusive = 16 }) }

abbrev pub ask : App
ask = with_rule (with_rule (with_rule (with_rule (bare (codes "ask")) (positional (codes "centre"))) (positional (codes "turns"))) (positional (codes "serial"))) words_rule

-- a command with one of these commands inside, and nothing else
abbrev pub program : App
program = let app = new_app (codes "mdcc") in record app {
  top = record app.top {
    no_binary_name = true;
    disable_help_flag = true;
    disable_help_subcommand = true;
    subcommand_required = true;
  };
}

abbrev pub grammar : App
grammar =
    with_subcommand (with_subcommand (with_subcommand (with_subcommand (with_subcommand (with_subcommand (with_subcommand (with_subcommand program replay.top) sample.top) node.top) cluster.top)
    ask.top) dump.top) check.top) audit.top
