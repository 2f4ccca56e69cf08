-- A table has nothing but pieces of the message under its head, whatever datagrams came.
use Rattle.std.proofs.Common.{◌≡◌, ℕ, ◌<◌, Bool, true, false, ◌&&◌, nat_eq, List, [], ◌∷◌, length, take, if◌then◌else◌, Option, Some, None, Result, Ok, Err, refl, sym, ◌∙◌, ap, subst, inl, inr}
use Rattle.std.proofs.lemmas.Bool.{eqb-true}
use Rattle.std.specs.List.{AllByRecursion}
use Rattle.lru.proofs.Splits.{Contains-cons, Contains-nil}
use Rattle.lru.proofs.CallerLemmas.{Contains-lookup_entry, Contains-remove_entry, Contains-take}
use Rattle.mdcc_frag.specs.declared.datagrams.FragHead.{FragHead}
use Rattle.mdcc_frag.specs.declared.reading.Piece.{Piece}
use Rattle.mdcc_frag.specs.declared.reading.DropCause.{DropCause}
use Rattle.mdcc_frag.specs.declared.reading.DropCause.TheVariants.{Disagrees}
use Rattle.mdcc_frag.specs.declared.joined.Joined.TheVariants.{Whole, Kept, Repeated, Dropped}
use Rattle.mdcc_frag.specs.Datagrams.{count, datagram}
use Rattle.mdcc_frag.specs.Reading.{payload, piece_in}
use Rattle.mdcc_frag.specs.Partial.{PartialMessage, nothing_of, with_piece, is_whole}
use Rattle.mdcc_frag.specs.Joining.{JoinEntry, join_step, piece_arrived, same_head, entry_of, others, take_piece, take_read, join}
use Rattle.mdcc_theorem_datagrams.specs.Laws.{IsFragHead, IsMessage, IsPartly, IsPieceOf, IsHonest, AllHoldOnly, table_after}
use Rattle.mdcc_theorem_datagrams.proofs.Joined.{with_one_more, nothing_came, joined_whole}

left : (a b : Bool) → (a && b) ≡ true → a ≡ true
left true b h = refl
left false b h = cc

right : (a b : Bool) → (a && b) ≡ true → b ≡ true
right true b h = h
right false b h = cc

heads_of : (s s' e e' n n' : ℕ) → s ≡ s' → e ≡ e' → n ≡ n' →
    (let H : FragHead = record { sender = s; epoch = e; serial = n } in H) ≡ record { sender = s'; epoch = e'; serial = n' }
heads_of s s' e e' n n' a b c = cc

same_heads : (a b : FragHead) → same_head a b ≡ true → a ≡ b
same_heads a b h =
    let sender = eqb-true a.sender b.sender (left _ _ h) in
    let rest = right (nat_eq a.sender b.sender) _ h in
    let epoch = eqb-true a.epoch b.epoch (left _ _ rest) in
    let serial = eqb-true a.serial b.serial (right (nat_eq a.epoch b.epoch) _ rest) in
    heads_of a.sender b.sender a.epoch b.epoch a.serial b.serial sender epoch serial

module _ (head : FragHead) (message : List ℕ) where
  in_front : (first : JoinEntry) (rest : List JoinEntry) → (same_head head first.0 ≡ true → IsPartly message first.1) → AllHoldOnly head message rest →
      AllHoldOnly head message (first ∷ rest)
  in_front first rest own only entry c same = elim (Contains-cons first rest entry c) [
    | inl e ↦ (let P : JoinEntry → Type 0 = λ x. same_head head x.0 ≡ true → IsPartly message x.1 in subst P e own) same
    | inr d ↦ only entry d same
  ]

  either : (there : PartialMessage) (without with : List JoinEntry) (whole : Bool) → AllHoldOnly head message without → AllHoldOnly head message with →
      AllHoldOnly head message (if whole then join_step (Whole there.bytes) without else join_step Kept with).entries
  either there without with true a b = a
  either there without with false a b = b

  -- the piece in a message that has only such pieces
  one_more : (piece : Piece) (bytes : List ℕ) (there : PartialMessage) → IsPieceOf message piece bytes → IsPartly message there →
      IsPartly message (with_piece piece.index bytes there)
  one_more piece bytes there is only =
      let P : List ℕ → Type 0 = λ b. IsPartly message (with_piece piece.index b there) in
      subst P (sym is.bytes) (with_one_more piece.index message there is.index only)

  first_holds : (piece : Piece) (bytes : List ℕ) (entries : List JoinEntry) → (same_head head piece.head ≡ true → IsPieceOf message piece bytes) →
      AllHoldOnly head message entries → AllHoldOnly head message (take_piece piece bytes entries None).entries
  first_holds piece bytes entries honest only =
      either (with_piece piece.index bytes (nothing_of piece.total)) entries _ (is_whole (with_piece piece.index bytes (nothing_of piece.total))) only
      (in_front (piece.head, with_piece piece.index bytes (nothing_of piece.total)) (take 63 entries)
      (λ same. let is = honest same in
      one_more piece bytes (nothing_of piece.total) is (let Q : ℕ → Type 0 = λ n. IsPartly message (nothing_of n) in subst Q (sym is.total) (nothing_came message)))
      (λ entry c same. only entry (Contains-take 63 entries entry c) same))

  known_holds : (piece : Piece) (bytes : List ℕ) (entry : JoinEntry) (entries : List JoinEntry) (same held : Bool) →
      (same_head head entry.0 ≡ true → IsPieceOf message piece bytes) → (same_head head entry.0 ≡ true → IsPartly message entry.1) →
      AllHoldOnly head message entries → AllHoldOnly head message (others piece entries) →
      AllHoldOnly head message (if same then (if held then join_step Repeated (entry ∷ others piece entries)
      else piece_arrived (with_piece piece.index bytes entry.1) (others piece entries) ((entry.0, with_piece piece.index bytes entry.1) ∷ others piece entries))
      else join_step (Dropped Disagrees) entries).entries
  known_holds piece bytes entry entries true true honest own only rest = in_front entry (others piece entries) own rest
  known_holds piece bytes entry entries true false honest own only rest =
      either (with_piece piece.index bytes entry.1) (others piece entries) _ (is_whole (with_piece piece.index bytes entry.1)) rest
      (in_front (entry.0, with_piece piece.index bytes entry.1) (others piece entries)
      (λ same. one_more piece bytes entry.1 (honest same) (own same)) rest)
  known_holds piece bytes entry entries false held honest own only rest = only

  piece_holds : (piece : Piece) (bytes : List ℕ) (entries : List JoinEntry) (o : Option JoinEntry) → entry_of piece entries ≡ o →
      (same_head head piece.head ≡ true → IsPieceOf message piece bytes) →
      AllHoldOnly head message entries → AllHoldOnly head message (take_piece piece bytes entries o).entries
  piece_holds piece bytes entries None found honest only = first_holds piece bytes entries honest only
  piece_holds piece bytes entries (Some entry) found honest only =
      let there = Contains-lookup_entry (same_head piece.head) entries entry found in
      let key : piece.head ≡ entry.0 = same_heads piece.head entry.0 there.1 in
      known_holds piece bytes entry entries _ _
      (λ same. honest (ap (same_head head) key ∙ same))
      (only entry there.0) only
      (λ e c same. only e (Contains-remove_entry (same_head piece.head) entries e c) same)

  read_holds : (bytes : List ℕ) (entries : List JoinEntry) (read : Result Piece DropCause) → piece_in bytes ≡ read → IsHonest head message bytes →
      AllHoldOnly head message entries → AllHoldOnly head message (take_read read (payload bytes) entries).entries
  read_holds bytes entries (Ok piece) is honest only = piece_holds piece (payload bytes) entries (entry_of piece entries) refl (honest piece is) only
  read_holds bytes entries (Err cause) is honest only = only

  run_holds : (before : List (List ℕ)) (entries : List JoinEntry) → AllByRecursion (IsHonest head message) before →
      AllHoldOnly head message entries → AllHoldOnly head message (table_after before entries)
  run_holds [] entries honest only = only
  run_holds (bytes ∷ before) entries honest only =
      run_holds before (join bytes entries).entries honest.1 (read_holds bytes entries (piece_in bytes) refl honest.0 only)

  pub joined_after : (index : ℕ) (before : List (List ℕ)) → IsFragHead head → IsMessage message → index < count (length message) →
      AllByRecursion (IsHonest head message) before → (bytes : List ℕ) →
      (join (datagram head index message) (table_after before [])).answer ≡ Whole bytes → bytes ≡ message
  joined_after index before h m within honest bytes whole =
      let table = table_after before [] in
      let only = run_holds before [] honest (λ entry c same. absurd (Contains-nil entry c)) in
      joined_whole head index message table h m within
      (λ entry found. let there = Contains-lookup_entry (same_head head) table entry found in only entry there.0 there.1)
      bytes whole
