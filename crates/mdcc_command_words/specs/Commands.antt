-- What the words of the program ask for.
use Rattle.std.specs.Result.{result_ok}
use Rattle.std.specs.List.{list_any}
use Rattle.std.specs.Option.{option_or}
use Rattle.std.specs.Prelude.{Bool, List, None, Option, Some, [], codes, false, if◌then◌else◌, length, nat_le, option_map, ⊤, ℕ, ◌&&◌, ◌-◌, ◌==◌, ◌^◌, ◌||◌, ◌∷◌}
use Rattle.mdcc_def_language.specs.Words.{natural_of, text_eq}
use Rattle.mdcc_sample.specs.Shop.{IsShop, is_shop}
use Rattle.mdcc_command_words.specs.Asks.{IsQuestion, question_in}
use Rattle.mdcc_command_words.specs.declared.words.Command.{Command}
use Rattle.mdcc_command_words.specs.declared.words.Command.TheVariants.{Ask, Audit, Check, Cluster, Dump, Node, Replay, Sample}

-- ---- numbers

-- digits without a leading zero, of a number that is at most this one
abbrev pub number_in : List ℕ → ℕ → Option ℕ
number_in word most = result_ok (natural_of word 1 0 most)

-- the same, of a number of 32 bits
abbrev pub short_number_in : List ℕ → Option ℕ
short_number_in word = number_in word (2 ^ 32 - 1)

-- ---- commands

-- `replay`
abbrev pub replay_in : List ℕ → Option Command
replay_in word = if text_eq word (codes "replay") then Some Replay else None

-- `check`
abbrev pub check_in : List ℕ → Option Command
check_in word = if text_eq word (codes "check") then Some Check else None

-- `audit`
abbrev pub audit_in : List ℕ → Option Command
audit_in word = if text_eq word (codes "audit") then Some Audit else None

-- `check` or `audit`
abbrev pub judging_in : List ℕ → Option Command
judging_in word = option_or (check_in word) (audit_in word)

-- `replay`, `check` or `audit`
abbrev pub one_in : List ℕ → Option Command
one_in word = option_or (replay_in word) (judging_in word)

abbrev pub cluster_by : Option ℕ → Option Command
cluster_by turns = option_map (λ t. Cluster t) turns

-- `cluster TURNS`
abbrev pub cluster_in : List ℕ → List ℕ → Option Command
cluster_in word turns = if text_eq word (codes "cluster") then cluster_by (short_number_in turns) else None

abbrev pub node_by : Option ℕ → Option ℕ → Option Command
node_by (Some centre) (Some turns) = Some (Node centre turns)
node_by centre turns = None

-- `node K TURNS`
abbrev pub node_in : List ℕ → List ℕ → List ℕ → Option Command
node_in word centre turns = if text_eq word (codes "node") then node_by (short_number_in centre) (short_number_in turns) else None

abbrev pub sample_by : Option ℕ → Option ℕ → Option ℕ → Option Command
sample_by (Some seed) (Some items) (Some orders) = if is_shop items orders then Some (Sample seed items orders) else None
sample_by seed items orders = None

-- `sample SEED ITEMS ORDERS`
abbrev pub sample_in : List ℕ → List ℕ → List ℕ → List ℕ → Option Command
sample_in word seed items orders =
    if text_eq word (codes "sample") then sample_by (number_in seed (2 ^ 64 - 1)) (short_number_in items) (short_number_in orders) else None

-- `dump K`
abbrev pub dump_in : List ℕ → List ℕ → Option Command
dump_in word centre = if text_eq word (codes "dump") then option_map (λ k. Dump k) (short_number_in centre) else None

-- `cluster TURNS` or `dump K`
abbrev pub two_in : List ℕ → List ℕ → Option Command
two_in word number = option_or (cluster_in word number) (dump_in word number)

-- turns of a question can be counted up to their end
abbrev pub turns_in : List ℕ → Option ℕ
turns_in word = number_in word (2 ^ 32 - 2)

abbrev pub ask_by : Option ℕ → Option ℕ → Option ℕ → List (List ℕ) → Option Command
ask_by (Some centre) (Some turns) (Some serial) words = option_map (λ question. Ask question) (question_in centre turns serial words)
ask_by centre turns serial words = None

-- `ask K TURNS SERIAL WORD..`, of one to sixteen words
abbrev pub ask_in : List ℕ → List ℕ → List ℕ → List ℕ → List (List ℕ) → Option Command
ask_in word centre turns serial words =
    if text_eq word (codes "ask") && nat_le (length words) 16
    then ask_by (short_number_in centre) (turns_in turns) (short_number_in serial) words else None

-- one of them, by how many words there are
abbrev pub read_words : List (List ℕ) → Option Command
read_words (word ∷ []) = one_in word
read_words (word ∷ number ∷ []) = two_in word number
read_words (word ∷ centre ∷ turns ∷ []) = node_in word centre turns
read_words (word ∷ seed ∷ items ∷ orders ∷ []) = sample_in word seed items orders
read_words (word ∷ centre ∷ turns ∷ serial ∷ words) = ask_in word centre turns serial words
read_words words = None

-- ---- words of no command

-- a word that begins with a hyphen
abbrev pub is_hyphened : List ℕ → Bool
is_hyphened (byte ∷ bytes) = byte == 45
is_hyphened [] = false

-- `help` in front
abbrev pub asks_for_help : List (List ℕ) → Bool
asks_for_help (word ∷ words) = text_eq word (codes "help")
asks_for_help [] = false

abbrev pub is_refused : List (List ℕ) → Bool
is_refused words = asks_for_help words || list_any is_hyphened words

-- what the words ask for
abbrev pub command_of : List (List ℕ) → Option Command
command_of words = if is_refused words then None else read_words words

-- a shop's numbers are in their ranges, and a question can be asked
abbrev pub IsCommand : Command → Type 0
IsCommand (Sample seed items orders) = IsShop items orders
IsCommand (Ask question) = IsQuestion question
IsCommand command = ⊤
