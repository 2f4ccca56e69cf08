-- An execution of a cluster of one centre that commits a transaction: its client begins it, and its proposal and its vote go over the network.
use Rattle.std.specs.Prelude.{List, None, Some, [], false, flat_map, map, pos, suc, zero, ℕ, ◌∷◌}
use Rattle.mdcc_base.specs.Ballot.{fast_ballot}
use Rattle.mdcc_base.specs.declared.identifiers.TxId.{TxId}
use Rattle.mdcc_config.specs.declared.config.Config.{Config}
use Rattle.mdcc_frag.specs.Datagrams.{datagram}
use Rattle.mdcc_def_messages.specs.Spelling.{message_bytes}
use Rattle.mdcc_def_messages.specs.declared.messages.ClientAnswer.{ClientAnswer}
use Rattle.mdcc_def_messages.specs.declared.messages.Message.{Message}
use Rattle.mdcc_option.specs.declared.choices.Choice.{Choice}
use Rattle.mdcc_option.specs.declared.choices.Mark.{Mark}
use Rattle.mdcc_option.specs.declared.cluster.FastLimit.{FastLimit}
use Rattle.mdcc_option.specs.declared.items.Item.{Item}
use Rattle.mdcc_option.specs.declared.items.Part.{Part}
use Rattle.mdcc_option.specs.declared.items.Update.{Update}
use Rattle.mdcc_def_server_runs.specs.Acts.{Act}
use Rattle.mdcc_def_server_runs.specs.declared.lines.ServerLine.{ServerLine}
use Rattle.mdcc_theorem_server_runs.specs.Told.{server_lines_in}
use Rattle.mdcc_theorem_clusters.specs.Clusters.{Deployment, Move}

-- one centre, one attribute from 0 to 100
abbrev pub config : Config
config = record {
  cluster = record { quorums = record { centres = 1; classic = 1; fast = 1 }; schema = (pos 0, pos 100) ∷ []; gamma = 0; cells = 1000; limit = FastLimit.Safe };
  addresses = record { host = 127 ∷ 0 ∷ 0 ∷ 1 ∷ []; port = 7001 } ∷ [];
  port = 7000;
  wait = 20;
  checkpoint = 1024;
}

abbrev pub inserted_item : Item
inserted_item = record { body = []; values = pos 10 ∷ [] }

abbrev pub asked_tx : TxId
asked_tx = record { centre = 1; epoch = 1; seq = 1 }

abbrev pub inserting_choice : Choice
inserting_choice = record { tx = asked_tx; key = 97 ∷ []; version = 0; update = Update.Write inserted_item []; write_set = (97 ∷ [], 0) ∷ [] }

abbrev pub part : Part
part = record { key = 97 ∷ []; version = 0; update = Update.Write inserted_item [] }

-- the request, and the datagrams of the proposal and of the vote
abbrev pub asked : List ℕ
asked = datagram (record { sender = 17; epoch = 1; serial = 1 }) 0 (message_bytes (record { from = 17; to = 1; message = Message.ClientBegin 1 (part ∷ []) }))

abbrev pub proposal_datagram : List ℕ
proposal_datagram = datagram (record { sender = 1; epoch = 1; serial = 1 }) 0 (message_bytes (record { from = 1; to = 1; message = Message.Propose inserting_choice }))

abbrev pub vote_datagram : List ℕ
vote_datagram = datagram (record { sender = 1; epoch = 1; serial = 3 }) 0 (message_bytes (record { from = 1; to = 1; message = Message.Voted (97 ∷ []) 0 fast_ballot asked_tx (Mark.Accept inserting_choice) }))

-- so many acts, and then these moves
abbrev pub acts_then : ℕ → List Move → List Move
acts_then zero moves = moves
acts_then (suc n) moves = Move.Do 1 ∷ acts_then n moves

abbrev pub moves : List Move
moves =
    Move.Start 1 ∷ acts_then 4
    (Move.Turn 1 (record { own = None; asked = Some asked; waits = false }) ∷ acts_then 5
    (Move.Turn 1 (record { own = Some proposal_datagram; asked = None; waits = false }) ∷ acts_then 5
    (Move.Turn 1 (record { own = Some vote_datagram; asked = None; waits = false }) ∷ acts_then 6 [])))

abbrev pub lines_of : Deployment → List ServerLine
lines_of state = server_lines_in (map (λ one. one.1) state.done)

abbrev pub sent_by : Act → List (List ℕ)
sent_by (Act.Send from to bytes answer) = bytes ∷ []
sent_by act = []

-- the datagrams that were sent, the newest first
abbrev pub datagrams_sent_in : Deployment → List (List ℕ)
datagrams_sent_in state = flat_map (λ one. sent_by one.1) state.done

-- the datagrams of the answers: that it was begun, and that it committed
abbrev pub answer_datagram : ℕ → ClientAnswer → List ℕ
answer_datagram serial answer = datagram (record { sender = 1; epoch = 1; serial = serial }) 0 (message_bytes (record { from = 1; to = 17; message = Message.ClientAnswer 1 answer }))
