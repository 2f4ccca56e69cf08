-- Three states of traces in which all but one member of a fast quorum would accept a transaction, and what the deliveries of its
-- proposals and of all that they gave report there.
use Rattle.std.specs.List.{AllByRecursion}
use Rattle.std.specs.Prelude.{List, None, [], negsuc, pos, true, ℕ, ◌++◌, ◌∷◌, ◌≡◌}
use Rattle.mdcc_theorem_agreement.specs.Example.{ballot}
use Rattle.mdcc_base.specs.declared.identifiers.Ballot.{Ballot}
use Rattle.mdcc_base.specs.declared.identifiers.TxId.{TxId}
use Rattle.mdcc_option.specs.declared.choices.Cause.{Cause}
use Rattle.mdcc_option.specs.declared.choices.Choice.{Choice}
use Rattle.mdcc_option.specs.declared.cluster.Cluster.{Cluster}
use Rattle.mdcc_option.specs.declared.cluster.FastLimit.{FastLimit}
use Rattle.mdcc_option.specs.declared.items.Update.{Update}
use Rattle.mdcc_def_language.specs.declared.events.Event.{Event}
use Rattle.mdcc_def_language.specs.declared.events.UpdateWord.{UpdateWord}
use Rattle.mdcc_def_language.specs.declared.lines.Line.{Line}
use Rattle.mdcc_def_ledger.specs.Ledger.{facts_of}
use Rattle.mdcc_def_protocol.specs.Acceptor.{on_propose}
use Rattle.mdcc_def_protocol.specs.Volatile.{Undecided}
use Rattle.mdcc_def_protocol.specs.declared.acceptor.ProposeAnswer.{ProposeAnswer}
use Rattle.mdcc_def_simulation.specs.State.{World, centre_at, is_up_at}
use Rattle.mdcc_theorem_round_trip.specs.Example.{cluster_of_three, first_item_key, line_happened, written_item}
use Rattle.mdcc_theorem_fast_path.specs.FastPaths.{AcceptsAll, IsUntaken}
use Rattle.mdcc_theorem_fast_path.specs.States.{state_after}

-- the fast path is open but for one member, which is up and has no armed stop: it gives no vote, for this cause
pub record LacksOne (w : World) (a : ℕ) (t : Undecided) (others : List ℕ) (member : ℕ) (cause : Cause) : Type 0 where
  pub untaken : IsUntaken w a t
  pub others_accept : AllByRecursion (AcceptsAll w t) others
  pub up : is_up_at w member ≡ true
  pub unstopped : (centre_at w member).stop ≡ None
  pub none : AllByRecursion (λ (choice : Choice). on_propose w.cluster (facts_of w.ledger member) choice ≡ ProposeAnswer.Escalate cause) t.choices

-- what two lines of deliveries report
abbrev pub two_lines : World → List ℕ → List ℕ → List Line
two_lines w first second =
    let asked = line_happened w (Event.Deliver first) in
    asked.lines ++ (line_happened asked.world (Event.Deliver second)).lines

abbrev pub open_with : TxId → Choice → Undecided
open_with tx choice = record { tx = tx; choices = choice ∷ []; led = []; ticks = 0 }

-- ---- an older version

-- the third centre has not heard that the first version was written
abbrev pub first_version_unheard : World
first_version_unheard = state_after cluster_of_three (
    Event.Begin 1 (UpdateWord.New first_item_key written_item ∷ []) ∷ Event.Deliver (1 ∷ 2 ∷ 3 ∷ 4 ∷ 5 ∷ 6 ∷ 7 ∷ [])
    ∷ Event.Read 1 first_item_key ∷ Event.Begin 1 (UpdateWord.Set 1 written_item ∷ []) ∷ []
    )

abbrev pub second_begun_tx : TxId
second_begun_tx = record { centre = 1; epoch = 1; seq = 2 }

abbrev pub second_write : Undecided
second_write = open_with second_begun_tx (record { tx = second_begun_tx; key = first_item_key; version = 1; update = Update.Write written_item []; write_set = (first_item_key, 1) ∷ [] })

abbrev pub older_lines : List Line
older_lines = Line.Deliver 9 13 ∷ Line.Deliver 10 14 ∷ Line.Deliver 11 15 ∷ Line.Deliver 12 15 ∷ Line.Deliver 13 15 ∷ Line.Deliver 14 16 ∷ []

-- ---- a promise

-- the third centre promised a ballot of the second one
abbrev pub promised : World
promised = state_after cluster_of_three (
    Event.Begin 2 (UpdateWord.New first_item_key written_item ∷ []) ∷ Event.Tick 2 ∷ Event.Tick 2 ∷ Event.Deliver (9 ∷ [])
    ∷ Event.Begin 1 (UpdateWord.New first_item_key written_item ∷ []) ∷ []
    )

abbrev pub first_begun_tx : TxId
first_begun_tx = record { centre = 1; epoch = 1; seq = 1 }

abbrev pub first_write : Undecided
first_write = open_with first_begun_tx (record { tx = first_begun_tx; key = first_item_key; version = 0; update = Update.Write written_item []; write_set = (first_item_key, 0) ∷ [] })

abbrev pub promised_lines : List Line
promised_lines = Line.Deliver 11 15 ∷ Line.Deliver 12 16 ∷ Line.Deliver 13 17 ∷ Line.Deliver 14 17 ∷ Line.Deliver 15 17 ∷ Line.Deliver 16 18 ∷ []

-- ---- a share of the room

-- four centres, of which three are a quorum of either kind, so that an acceptor's share is two thirds of the room
abbrev pub four : Cluster
four = record { quorums = record { centres = 4; classic = 3; fast = 3 }; schema = (pos 0, pos 100) ∷ []; gamma = 0; cells = 1000; limit = FastLimit.Safe }

-- the item has the room 10 for decreases, of which the third centre has accepted 4
abbrev pub room_taken : World
room_taken = state_after four (
    Event.Begin 1 (UpdateWord.New first_item_key written_item ∷ []) ∷ Event.Deliver (1 ∷ 2 ∷ 3 ∷ 5 ∷ 6 ∷ 7 ∷ 8 ∷ 9 ∷ 10 ∷ [])
    ∷ Event.Read 1 first_item_key ∷ Event.Begin 1 (UpdateWord.Add 1 ((1, negsuc 3) ∷ []) ∷ []) ∷ Event.Deliver (13 ∷ [])
    ∷ Event.Read 2 first_item_key ∷ Event.Begin 2 (UpdateWord.Add 2 ((1, negsuc 3) ∷ []) ∷ []) ∷ []
    )

abbrev pub decrease_tx : TxId
decrease_tx = record { centre = 2; epoch = 1; seq = 1 }

abbrev pub open_decrease : Undecided
open_decrease = open_with decrease_tx (record { tx = decrease_tx; key = first_item_key; version = 1; update = Update.Add ((1, negsuc 3) ∷ []); write_set = (first_item_key, 1) ∷ [] })

abbrev pub taken_lines : List Line
taken_lines = Line.Deliver 16 21 ∷ Line.Deliver 17 22 ∷ Line.Deliver 18 23 ∷ Line.Deliver 20 23 ∷ Line.Deliver 21 23 ∷ Line.Deliver 22 24 ∷ []
