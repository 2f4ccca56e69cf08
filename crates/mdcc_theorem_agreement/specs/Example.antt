-- An allowed ledger of three centres with one transaction. Two centres accept it at the fast ballot, too few to choose
-- it there. They promise a ballot of centre 2, whose first structure has the mark that their votes force, and vote it
-- there. One of them hears the commit, and the third centre adopts what it then holds. Then all hear it.
use Rattle.std.specs.Prelude.{List, None, [], pos, ◌∷◌}
use Rattle.mdcc_base.specs.Ballot.{fast_ballot}
use Rattle.mdcc_base.specs.declared.identifiers.Ballot.{Ballot}
use Rattle.mdcc_base.specs.declared.identifiers.TxId.{TxId}
use Rattle.mdcc_base.specs.declared.key.Key.{Key}
use Rattle.mdcc_option.specs.declared.choices.Choice.{Choice}
use Rattle.mdcc_option.specs.declared.choices.Mark.{Mark}
use Rattle.mdcc_option.specs.declared.choices.Outcome.{Outcome}
use Rattle.mdcc_option.specs.declared.cluster.Cluster.{Cluster}
use Rattle.mdcc_option.specs.declared.cluster.FastLimit.{FastLimit}
use Rattle.mdcc_option.specs.declared.items.Item.{Item}
use Rattle.mdcc_option.specs.declared.items.Update.{Update}
use Rattle.mdcc_struct.specs.declared.options.Options.{Options}
use Rattle.mdcc_def_ledger.specs.Ledger.{Added, Entry, Valued}
use Rattle.mdcc_def_messages.specs.declared.facts.Fact.{Fact}

-- three centres, one attribute from 0 to 100
abbrev pub three : Cluster
three = record { quorums = record { centres = 3; classic = 2; fast = 3 }; schema = (pos 0, pos 100) ∷ []; gamma = 0; cells = 1000; limit = FastLimit.Safe }

-- the key a
abbrev pub key : Key
key = 97 ∷ []

abbrev pub item : Item
item = record { body = []; values = pos 10 ∷ [] }

abbrev pub tx : TxId
tx = record { centre = 1; epoch = 1; seq = 1 }

-- it writes the first version of the key
abbrev pub choice : Choice
choice = record { tx = tx; key = key; version = 0; update = Update.Write item []; write_set = (key, 0) ∷ [] }

abbrev pub marks : Options
marks = (tx, Mark.Accept choice) ∷ []

-- the ballot of centre 2
abbrev pub ballot : Ballot
ballot = record { round = 1; epoch = 1; centre = 2 }

abbrev pub began : List Entry
began =
    Entry.Begun 1 tx (choice ∷ [])
    ∷ Added 3 (Fact.Booted 1)
    ∷ Added 2 (Fact.Booted 1)
    ∷ Added 1 (Fact.Booted 1)
    ∷ []

-- the newest entry first
abbrev pub ledger : List Entry
ledger =
    Added 3 (Fact.Heard tx (Outcome.Commit (choice ∷ [])))
    ∷ Added 2 (Fact.Heard tx (Outcome.Commit (choice ∷ [])))
    ∷ Added 3 (Fact.Adopted key 1 item [])
    ∷ Added 1 (Fact.Heard tx (Outcome.Commit (choice ∷ [])))
    ∷ Added 2 (Fact.Voted key 0 ballot marks None)
    ∷ Added 1 (Fact.Voted key 0 ballot marks None)
    ∷ Valued 2 key 0 ballot marks
    ∷ Added 2 (Fact.Promised key 0 0 ballot)
    ∷ Added 1 (Fact.Promised key 0 0 ballot)
    ∷ Added 2 (Fact.Voted key 0 fast_ballot marks None)
    ∷ Added 1 (Fact.Voted key 0 fast_ballot marks None)
    ∷ began
