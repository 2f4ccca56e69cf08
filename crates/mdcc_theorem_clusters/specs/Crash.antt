-- An execution of a cluster of three centres: one is killed while its vote is on the way to its log, and is started again; a client sends what is
-- no message; and a datagram comes again in the next life.
use Rattle.std.specs.Prelude.{Bool, List, None, Some, [], false, pos, suc, zero, ℕ, ◌∷◌}
use Rattle.mdcc_base.specs.Ballot.{fast_ballot}
use Rattle.mdcc_config.specs.declared.config.Config.{Config}
use Rattle.mdcc_frag.specs.Datagrams.{datagram}
use Rattle.mdcc_def_messages.specs.Spelling.{message_bytes}
use Rattle.mdcc_def_messages.specs.declared.facts.Fact.{Fact}
use Rattle.mdcc_def_messages.specs.declared.messages.Message.{Message}
use Rattle.mdcc_option.specs.declared.choices.Mark.{Mark}
use Rattle.mdcc_option.specs.declared.cluster.FastLimit.{FastLimit}
use Rattle.mdcc_theorem_clusters.specs.Clusters.{Move}
use Rattle.mdcc_theorem_clusters.specs.Example.{asked_tx, inserting_choice, part}

-- three centres, of which any two are a classic quorum and all a fast one
abbrev pub three_centres : Config
three_centres = record {
  cluster = record { quorums = record { centres = 3; classic = 2; fast = 3 }; schema = (pos 0, pos 100) ∷ []; gamma = 0; cells = 1000; limit = FastLimit.Safe };
  addresses =
      record { host = 127 ∷ 0 ∷ 0 ∷ 1 ∷ []; port = 7001 } ∷ record { host = 127 ∷ 0 ∷ 0 ∷ 1 ∷ []; port = 7002 }
      ∷ record { host = 127 ∷ 0 ∷ 0 ∷ 1 ∷ []; port = 7003 } ∷ [];
  port = 7000;
  wait = 20;
  checkpoint = 1024;
}

-- ---- datagrams

abbrev pub garbage : List ℕ
garbage = 7 ∷ 0 ∷ 255 ∷ []

-- the request at centre 1, its proposals, each to one centre, and the votes of the centres
abbrev pub request : List ℕ
request = datagram (record { sender = 17; epoch = 1; serial = 1 }) 0 (message_bytes (record { from = 17; to = 1; message = Message.ClientBegin 1 (part ∷ []) }))

abbrev pub proposal_to : ℕ → List ℕ
proposal_to to = datagram (record { sender = 1; epoch = 1; serial = to }) 0 (message_bytes (record { from = 1; to = to; message = Message.Propose inserting_choice }))

abbrev pub vote_datagram_of : ℕ → ℕ → ℕ → List ℕ
vote_datagram_of from epoch serial =
    datagram (record { sender = from; epoch = epoch; serial = serial }) 0
    (message_bytes (record { from = from; to = 1; message = Message.Voted (97 ∷ []) 0 fast_ballot asked_tx (Mark.Accept inserting_choice) }))

abbrev pub voted : Fact
voted = Fact.Voted (97 ∷ []) 0 fast_ballot ((asked_tx, Mark.Accept inserting_choice) ∷ []) None

-- ---- moves

-- so many acts of a centre, and then these moves
abbrev pub does_then : ℕ → ℕ → List Move → List Move
does_then a zero moves = moves
does_then a (suc n) moves = Move.Do a ∷ does_then a n moves

abbrev pub starts_then : ℕ → List Move → List Move
starts_then a moves = Move.Start a ∷ does_then a 4 moves

-- a turn in which this comes at its own endpoint, with as many acts as it may have
abbrev pub takes_then : ℕ → List ℕ → List Move → List Move
takes_then a bytes moves = Move.Turn a (record { own = Some bytes; asked = None; waits = false }) ∷ does_then a 8 moves

abbrev pub asks_then : List ℕ → List Move → List Move
asks_then bytes moves = Move.Turn 1 (record { own = None; asked = Some bytes; waits = false }) ∷ does_then 1 8 moves

-- Centre 2 is killed before its vote is appended, or once it is in the log and before it is told; in its next life the proposal comes again. Its
-- vote then comes to centre 1 under the head of this epoch.
abbrev pub crash_by : ℕ → Bool → List Move
crash_by epoch logged =
    starts_then 1 (starts_then 2 (starts_then 3 (asks_then garbage (asks_then request (
    Move.Turn 2 (record { own = Some (proposal_to 2); asked = None; waits = false }) ∷ does_then 2 3 (Move.Stop 2 logged ∷ starts_then 2 (
    takes_then 2 (proposal_to 2) (takes_then 3 (proposal_to 3) (takes_then 1 (proposal_to 1) (
    takes_then 1 (vote_datagram_of 1 1 5) (takes_then 1 (vote_datagram_of 2 epoch 1) (takes_then 1 (vote_datagram_of 3 1 1) []))))))))))))

abbrev pub crash : Bool → List Move
crash logged = crash_by 2 logged

-- no execution: centre 1 takes a vote of centre 2 that is to be appended yet
abbrev pub too_early : List Move
too_early =
    starts_then 1 (starts_then 2 (asks_then request (
    Move.Turn 2 (record { own = Some (proposal_to 2); asked = None; waits = false }) ∷ does_then 2 3 (takes_then 1 (vote_datagram_of 2 1 1) []))))
