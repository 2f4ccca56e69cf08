-- Messages under their heads: what is made whole of their pieces is one of them.
use Rattle.std.specs.List.{AllByRecursion}
use Rattle.std.specs.Prelude.{List, Some, [], false, length, true, ℕ, ◌<◌, ◌≡◌, ◌≤◌}
use Rattle.mdcc_frag.specs.Datagrams.{count, datagram, message_limit}
use Rattle.mdcc_frag.specs.Joining.{join, same_head}
use Rattle.mdcc_frag.specs.declared.datagrams.FragHead.{FragHead}
use Rattle.mdcc_frag.specs.declared.joined.Joined.TheVariants.{Whole}
use Rattle.mdcc_theorem_datagrams.specs.Laws.{IsFragHead, table_after}
use Rattle.mdcc_def_messages.specs.Spelling.{message_bytes}
use Rattle.mdcc_def_messages.specs.WellFormed.{IsWellFormedEnvelope}
use Rattle.mdcc_def_messages.specs.declared.messages.Envelope.{Envelope}
use Rattle.mdcc_def_rules.specs.declared.node.Input.{Input}
use Rattle.mdcc_theorem_server_runs.specs.Brought.{HoldsBytes}
use Rattle.mdcc_theorem_server_runs.specs.Inputs.{own_inputs}
use Rattle.mdcc_def_server_runs.specs.Arrivals.{is_not_taken}
use Rattle.mdcc_def_server_runs.specs.Sites.{Site}
use Rattle.mdcc_theorem_encoding.specs.Laws.{AreBytes}
use Rattle.mdcc_theorem_trace_states.specs.Words.{Each, In}

-- a message and the head of its pieces
abbrev pub Mail : Type 0
Mail = FragHead × Envelope

-- a well-formed message that may be sent, under a head whose numbers have four bytes
pub record IsMail (one : Mail) : Type 0 where
  pub head : IsFragHead one.0
  pub short : length (message_bytes one.1) ≤ message_limit
  pub formed : IsWellFormedEnvelope one.1

-- messages, of which no two have one head
pub record AreMail (mail : List Mail) : Type 0 where
  pub each : Each IsMail mail
  pub once : (one other : Mail) → In one mail → In other mail → same_head one.0 other.0 ≡ true → one.1 ≡ other.1

-- a piece of one of them
pub record IsPieceIn (mail : List Mail) (bytes : List ℕ) : Type 0 where
  pub one : Mail
  pub one_of : In one mail
  pub index : ℕ
  pub within : index < count (length (message_bytes one.1))
  pub is : bytes ≡ datagram one.0 index (message_bytes one.1)

-- Pieces of them, whichever came before in whatever order and number, make whole only the message of the last piece.
abbrev pub WholeIsOfLast : Type 0
WholeIsOfLast =
    (mail : List Mail) (before : List (List ℕ)) (last bytes : List ℕ) → AreMail mail → AllByRecursion (IsPieceIn mail) before → (piece : IsPieceIn mail last)
    → (join last (table_after before [])).answer ≡ Whole bytes → bytes ≡ message_bytes piece.one.1

-- an input that is this message, well-formed and between centres
abbrev pub IsMessageOf : Envelope → Input → Type 0
IsMessageOf envelope input = (input ≡ Input.Message envelope) × IsWellFormedEnvelope envelope × (is_not_taken envelope.message ≡ false)

-- what comes at a centre's own endpoint where only such pieces came in this life
abbrev pub OwnInputsAreOfLast : Type 0
OwnInputsAreOfLast =
    (mail : List Mail) (before : List (List ℕ)) (last : List ℕ) (site : Site) → AreMail mail → AllByRecursion (IsPieceIn mail) before → (piece : IsPieceIn mail last)
    → site.own ≡ table_after before [] → HoldsBytes site.own → AreBytes last → Each (IsMessageOf piece.one.1) (own_inputs site (Some last))
