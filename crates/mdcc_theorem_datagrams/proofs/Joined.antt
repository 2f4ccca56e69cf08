-- What comes whole is the message.
use Rattle.std.proofs.Common.{◌≡◌, ℕ, ◌<◌, Bool, true, false, List, ◌∷◌, length, replicate, if◌then◌else◌, Option, Some, None, refl, sym, ◌∙◌, ap}
use Rattle.std.proofs.lemmas.List.{length-replicate, length-set}
use Rattle.std.specs.Prelude.{slice_set}
use Rattle.std.specs.List.{list_all}
use Rattle.mdcc_frag.specs.declared.datagrams.FragHead.{FragHead}
use Rattle.mdcc_frag.specs.declared.reading.Piece.{Piece}
use Rattle.mdcc_frag.specs.declared.reading.DropCause.TheVariants.{Disagrees}
use Rattle.mdcc_frag.specs.declared.joined.Joined.TheVariants.{Whole, Kept, Repeated, Dropped}
use Rattle.mdcc_frag.specs.Datagrams.{count, piece_of, datagram}
use Rattle.mdcc_frag.specs.Reading.{payload}
use Rattle.mdcc_frag.specs.Partial.{PartialMessage, nothing_of, with_piece, is_whole}
use Rattle.mdcc_frag.specs.Joining.{JoinEntry, join_step, piece_arrived, entry_of, others, take_piece, take_read, join}
use Rattle.mdcc_theorem_datagrams.specs.Laws.{IsFragHead, IsMessage, IsPartly, HoldsOnly, partly}
use Rattle.mdcc_theorem_datagrams.proofs.Pieces.{taken_bytes, nothing_bytes, whole_bytes}
use Rattle.mdcc_theorem_datagrams.proofs.ReadBack.{datagram_read}

arrived_as : (message : PartialMessage) (without with : List JoinEntry) (bytes : List ℕ) (whole : Bool) →
    (if whole then join_step (Whole message.bytes) without else join_step Kept with).answer ≡ Whole bytes → (whole ≡ true) × (message.bytes ≡ bytes)
arrived_as message without with bytes true h = (refl, cc)
arrived_as message without with bytes false h = cc

-- one more piece of a message of which some came
pub with_one_more : (index : ℕ) (message : List ℕ) (there : PartialMessage) → index < count (length message) → IsPartly message there →
    IsPartly message (with_piece index (piece_of index message) there)
with_one_more index message there within p =
    let held = p.0 in
    let within' : index < length held = rw p.1 within in (
      slice_set held index true,
      length-set held index true ∙ p.1,
      ap (with_piece index (piece_of index message)) p.2
          ∙ ap (λ b. record { bytes = b; held = slice_set held index true }) (taken_bytes index held message p.1 within'),
    )

one_more : (index : ℕ) (message : List ℕ) (there : PartialMessage) (without with : List JoinEntry) (bytes : List ℕ) →
    index < count (length message) → IsPartly message there →
    (piece_arrived (with_piece index (piece_of index message) there) without with).answer ≡ Whole bytes → bytes ≡ message
one_more index message there without with bytes within p h =
    let held = p.0 in
    let within' : index < length held = rw p.1 within in
    let now : with_piece index (piece_of index message) there ≡ partly (slice_set held index true) message =
    ap (with_piece index (piece_of index message)) p.2
    ∙ ap (λ b. record { bytes = b; held = slice_set held index true }) (taken_bytes index held message p.1 within') in
    let came = arrived_as (with_piece index (piece_of index message) there) without with bytes (is_whole (with_piece index (piece_of index message) there)) h in
    let all : list_all (λ c. c) (slice_set held index true) ≡ true = sym (ap is_whole now) ∙ came.0 in
    let size : length (slice_set held index true) ≡ count (length message) = length-set held index true ∙ p.1 in
    sym came.1 ∙ ap (λ m. m.bytes) now ∙ whole_bytes (slice_set held index true) message size all

pub nothing_came : (message : List ℕ) → IsPartly message (nothing_of (length message))
nothing_came message = (
  replicate (count (length message)) false,
  length-replicate (count (length message)) false,
  ap (λ b. record { bytes = b; held = replicate (count (length message)) false }) (nothing_bytes (count (length message)) message refl),
)

known : (piece : Piece) (message : List ℕ) (entry : JoinEntry) (entries : List JoinEntry) (bytes : List ℕ) (same held : Bool) →
    piece.index < count (length message) → IsPartly message entry.1 →
    (if same then (if held then join_step Repeated (entry ∷ others piece entries)
    else piece_arrived (with_piece piece.index (piece_of piece.index message) entry.1) (others piece entries)
    ((entry.0, with_piece piece.index (piece_of piece.index message) entry.1) ∷ others piece entries))
    else join_step (Dropped Disagrees) entries).answer ≡ Whole bytes → bytes ≡ message
known piece message entry entries bytes true true within p h = cc
known piece message entry entries bytes true false within p h = one_more piece.index message entry.1 _ _ bytes within p h
known piece message entry entries bytes false held within p h = cc

by_entry : (piece : Piece) (message : List ℕ) (entries : List JoinEntry) (bytes : List ℕ) (o : Option JoinEntry) → piece.total ≡ length message →
    piece.index < count (length message) → ((entry : JoinEntry) → o ≡ Some entry → IsPartly message entry.1) →
    (take_piece piece (piece_of piece.index message) entries o).answer ≡ Whole bytes → bytes ≡ message
by_entry piece message entries bytes None total within only h =
    one_more piece.index message (nothing_of piece.total) _ _ bytes within (rw total (nothing_came message)) h
by_entry piece message entries bytes (Some entry) total within only h =
    known piece message entry entries bytes _ _ within (only entry refl) h

pub joined_whole : (head : FragHead) (index : ℕ) (message : List ℕ) (entries : List JoinEntry) → IsFragHead head → IsMessage message →
    index < count (length message) → HoldsOnly head message entries →
    (bytes : List ℕ) → (join (datagram head index message) entries).answer ≡ Whole bytes → bytes ≡ message
joined_whole head index message entries h m within only bytes whole =
    let piece : Piece = record { head = head; total = length message; index = index } in
    let read = datagram_read head index message h m within in
    let joins : join (datagram head index message) entries ≡ take_piece piece (piece_of index message) entries (entry_of piece entries) =
    ap (λ r. take_read r (payload (datagram head index message)) entries) read.piece in
    by_entry piece message entries bytes (entry_of piece entries) refl within only (sym (ap (λ s. s.answer) joins) ∙ whole)
