-- What is made whole of pieces is the message of the last piece.
use Rattle.std.proofs.Common.{List, Ok, Result, Err, Some, [], ap, arith, inl, inr, length, refl, subst, sym, true, ℕ, ◌<◌, ◌∙◌, ◌∷◌, ◌≡◌, ◌≤◌}
use Rattle.std.specs.List.{AllByRecursion}
use Rattle.std.proofs.lemmas.Bool.{cases_Bool}
use Rattle.mdcc_frag.specs.Datagrams.{count, piece_of}
use Rattle.mdcc_frag.specs.Joining.{JoinEntry, join, same_head}
use Rattle.mdcc_frag.specs.Reading.{payload, piece_in}
use Rattle.mdcc_frag.specs.declared.joined.Joined.{Joined}
use Rattle.mdcc_frag.specs.declared.joined.Joined.TheVariants as joined
use Rattle.mdcc_frag.specs.declared.reading.DropCause.{DropCause}
use Rattle.mdcc_frag.specs.declared.reading.Piece.{Piece}
use Rattle.mdcc_theorem_datagrams.proofs.ReadBack.{datagram_read}
use Rattle.mdcc_theorem_datagrams.proofs.Runs.{joined_after}
use Rattle.mdcc_theorem_datagrams.specs.Laws.{IsHonest, IsMessage, IsPieceOf, table_after}
use Rattle.mdcc_def_messages.specs.Reading.{view_of}
use Rattle.mdcc_def_messages.specs.Spelling.{message_bytes}
use Rattle.mdcc_def_messages.specs.WellFormed.{IsWellFormedEnvelope}
use Rattle.mdcc_def_messages.specs.declared.messages.Envelope.{Envelope}
use Rattle.mdcc_def_messages.specs.declared.wire.WireFault.{WireFault}
use Rattle.mdcc_theorem_server_runs.proofs.Joining.{bytes_keep}
use Rattle.mdcc_theorem_server_runs.specs.Brought.{HoldsBytes}
use Rattle.mdcc_theorem_server_runs.specs.Inputs.{own_input, own_inputs, own_message_input}
use Rattle.mdcc_def_server_runs.specs.Arrivals.{arrival_of, is_not_taken, message_in}
use Rattle.mdcc_def_server_runs.specs.Sites.{Site}
use Rattle.mdcc_theorem_encoding.proofs.Whole.{message_again}
use Rattle.mdcc_theorem_encoding.specs.Laws.{AreBytes}
use Rattle.mdcc_theorem_trace_states.specs.Words.{Each, In}
use Rattle.mdcc_theorem_trace_states.proofs.Lists.{Each-at}
use Rattle.mdcc_theorem_clusters.specs.Mail.{AreMail, IsMail, IsMessageOf, IsPieceIn, Mail}

all-like : {X : Type 0} (P Q : X → Type 0) (xs : List X) → ((x : X) → P x → Q x) → AllByRecursion P xs → AllByRecursion Q xs
all-like P Q [] f h = tt
all-like P Q (x ∷ xs) f h = (f x h.0, all-like P Q xs f h.1)

can-be-sent : (one : Mail) → IsMail one → IsMessage (message_bytes one.1)
can-be-sent one h = record { some = omega arith; short = h.short }

read-same : (read : Result Piece DropCause) (p q : Piece) → read ≡ Ok p → read ≡ Ok q → p ≡ q
read-same read p q h k = let both : Ok p ≡ Ok q = sym h ∙ k in cc

-- ---- messages between a node and its client

-- bytes that come whole are bytes
pub whole-bytes : (table : List JoinEntry) (last bytes : List ℕ) → HoldsBytes table → AreBytes last → (join last table).answer ≡ joined.Whole bytes → AreBytes bytes
whole-bytes table last bytes holds small whole =
    let comes = (bytes_keep last table small holds).whole bytes whole in
    (subst (λ (xs : List ℕ). AreBytes xs × (length xs ≤ 2097152)) comes.are comes.keeps).0

module _ (mail : List Mail) (are : AreMail mail) where
  -- of a message of this head no other message has pieces
  honest : (one : Mail) → In one mail → (bytes : List ℕ) → IsPieceIn mail bytes → IsHonest one.0 (message_bytes one.1) bytes
  honest one there bytes piece found is same =
      let other = Each-at IsMail mail piece.one are.each piece.one_of in
      let text : List ℕ = message_bytes piece.one.1 in
      let back = datagram_read piece.one.0 piece.index text other.head (can-be-sent piece.one other) piece.within in
      let read : piece_in bytes ≡ Ok (record { head = piece.one.0; total = length text; index = piece.index }) = ap piece_in piece.is ∙ back.piece in
      let it : found ≡ record { head = piece.one.0; total = length text; index = piece.index } = read-same (piece_in bytes) found _ is read in
      let head_is : same_head one.0 piece.one.0 ≡ true = subst (λ (z : Piece). same_head one.0 z.head ≡ true) it same in
      let message : one.1 ≡ piece.one.1 = are.once one piece.one there piece.one_of head_is in
      let told : IsPieceOf text found (payload bytes) = record {
        total = ap (λ (z : Piece). z.total) it;
        index = subst (λ (z : Piece). z.index < count (length text)) (sym it) piece.within;
        bytes = ap payload piece.is ∙ (back.bytes ∙ ap (λ (z : Piece). piece_of z.index text) (sym it));
      } in
      subst (λ (z : Envelope). IsPieceOf (message_bytes z) found (payload bytes)) (sym message) told

  pub whole-of-last : (before : List (List ℕ)) (last bytes : List ℕ) → AllByRecursion (IsPieceIn mail) before → (piece : IsPieceIn mail last)
      → (join last (table_after before [])).answer ≡ joined.Whole bytes → bytes ≡ message_bytes piece.one.1
  whole-of-last before last bytes came piece whole =
      let sent = Each-at IsMail mail piece.one are.each piece.one_of in
      let text : List ℕ = message_bytes piece.one.1 in
      let all = all-like (IsPieceIn mail) (IsHonest piece.one.0 text) before (λ b p. honest piece.one piece.one_of b p) came in
      joined_after piece.one.0 text piece.index before sent.head (can-be-sent piece.one sent) piece.within all bytes
      (subst (λ (z : List ℕ). (join z (table_after before [])).answer ≡ joined.Whole bytes) piece.is whole)

  formed-input : (envelope : Envelope) (read : Result Envelope WireFault) → read ≡ Ok envelope → IsWellFormedEnvelope envelope → Each (IsMessageOf envelope) (own_input (message_in read))
  formed-input envelope (Err fault) is w = absurd (cc)
  formed-input envelope (Ok other) is w =
      let s : other ≡ envelope = cc in
      subst (λ (z : Envelope). Each (IsMessageOf envelope) (own_message_input z)) (sym s)
      (elim (cases_Bool (is_not_taken envelope.message)) [ inl e ↦ rw e tt | inr e ↦ rw e ((refl, w, e), tt) ])

  message-input : (one : Mail) → IsMail one → (bytes : List ℕ) → bytes ≡ message_bytes one.1 → Each (IsMessageOf one.1) (own_input (message_in (view_of bytes)))
  message-input one sent bytes is = formed-input one.1 (view_of bytes) (ap view_of is ∙ message_again one.1 sent.formed) sent.formed

  pub inputs-of-last : (before : List (List ℕ)) (last : List ℕ) (site : Site) → AllByRecursion (IsPieceIn mail) before → (piece : IsPieceIn mail last)
      → site.own ≡ table_after before [] → HoldsBytes site.own → AreBytes last → Each (IsMessageOf piece.one.1) (own_inputs site (Some last))
  inputs-of-last before last site came piece table holds small =
      subst (λ (entries : List JoinEntry). Each (IsMessageOf piece.one.1) (own_input (arrival_of (join last entries).answer))) (sym table)
      (by-answer (join last (table_after before [])).answer refl)
    where
      by-answer : (answer : Joined) → (join last (table_after before [])).answer ≡ answer → Each (IsMessageOf piece.one.1) (own_input (arrival_of answer))
      by-answer joined.Kept is = tt
      by-answer joined.Repeated is = tt
      by-answer (joined.Dropped cause) is = tt
      by-answer (joined.Whole bytes) is =
          message-input piece.one (Each-at IsMail mail piece.one are.each piece.one_of) bytes (whole-of-last before last bytes came piece is)
