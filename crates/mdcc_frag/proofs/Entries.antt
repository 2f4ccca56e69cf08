-- The entry of a message, and what is asked of it.
use Rattle.std.proofs.Common.{◌≡◌, ℕ, ◌+◌, ◌*◌, ◌==◌, arith, append-nil, length, take, drop, replicate, slice_set, ◌++◌, Bool, true, false, List, [], ◌∷◌, if◌then◌else◌, Option, Some, None, option_map, refl, sym, ◌∙◌, ap, subst}
use Rattle.std.specs.Prelude.{Result, Ok, Err, OnErr}
use Rattle.std.specs.List.{list_all}
use Rattle.std.specs.Option.{option_map_or}
use Rattle.std.proofs.lemmas.Map.Steps.{set_value_same}
use Rattle.std.specs.Map.{lookup, lookup_entry, remove_entry, set_value}
use Rattle.std.proofs.lemmas.List.{drop_all, length-replicate}
use Rattle.lru.specs.LruCache.{LruCache, lru_cache, put_entries, promoted}
use Rattle.lru.proofs.CallerLemmas.{Contains-lookup_entry}
use Rattle.mdcc_frag.specs.declared.datagrams.FragHead.{FragHead}
use Rattle.mdcc_frag.specs.declared.reading.Piece.{Piece}
use Rattle.mdcc_frag.specs.declared.joined.NextStep.TheVariants.{Begin, Disagree, Repeat, Advance}
use Rattle.mdcc_frag.specs.declared.joined.Joined.TheVariants.{Whole, Kept, Repeated, Dropped}
use Rattle.mdcc_frag.specs.declared.reading.DropCause.TheVariants.{Disagrees}
use Rattle.mdcc_frag.specs.Datagrams.{count}
use Rattle.mdcc_frag.specs.Reading.{FitsIn}
use Rattle.mdcc_frag.specs.Partial.{PartialMessage, nothing_of, with_piece_bytes, with_piece, is_piece_held, is_whole}
use Rattle.mdcc_frag.specs.Joining.{JoinEntry, JoinStep, IsPieceTaken, same_head, piece_arrived, join_step, entry_of, message_of, others, take_piece, known_step, next_step, first_piece, missing_piece, is_taken}

-- the value that is found is that of the entry that is found
pub value_of_entry : {K V : Type 0} (test : K → Bool) (entries : List (K × V)) → lookup test entries ≡ option_map (λ e. e.1) (lookup_entry test entries)
value_of_entry test [] = refl
value_of_entry test (e ∷ entries) = (elim (test e.0) as (λ b. test e.0 ≡ b → lookup test (e ∷ entries) ≡ option_map (λ f. f.1) (lookup_entry test (e ∷ entries))) [
  | true ↦ λ t. rw t refl
  | false ↦ λ t. rw t (value_of_entry test entries)
]) refl

pub message_of_entry : (piece : Piece) (entries : List JoinEntry) → message_of piece entries ≡ option_map (λ e. e.1) (entry_of piece entries)
message_of_entry piece entries = value_of_entry _ entries

repeat_chosen : (same held : Bool) (x y z : JoinStep) → (if same then (if held then Repeat else Advance) else Disagree) ≡ Repeat →
    (if same then (if held then x else y) else z) ≡ x
repeat_chosen true true x y z h = refl
repeat_chosen true false x y z h = cc
repeat_chosen false held x y z h = cc

advance_chosen : (same held : Bool) (x y z : JoinStep) → (if same then (if held then Repeat else Advance) else Disagree) ≡ Advance →
    (if same then (if held then x else y) else z) ≡ y
advance_chosen true true x y z h = cc
advance_chosen true false x y z h = refl
advance_chosen false held x y z h = cc

disagree_chosen : (same held : Bool) (x y z : JoinStep) → (if same then (if held then Repeat else Advance) else Disagree) ≡ Disagree →
    (if same then (if held then x else y) else z) ≡ z
disagree_chosen true true x y z h = cc
disagree_chosen true false x y z h = cc
disagree_chosen false held x y z h = refl

arrived_whole : (message : PartialMessage) (without with : List JoinEntry) → is_whole message ≡ true → piece_arrived message without with ≡ join_step (Whole message.bytes) without
arrived_whole message without with h = rw h refl

arrived_part : (message : PartialMessage) (without with : List JoinEntry) → is_whole message ≡ false → piece_arrived message without with ≡ join_step Kept with
arrived_part message without with h = rw h refl

-- memory is asked for only where a piece is taken
pub on_err : {A E P : Type 0} (result : Result A E) → P → OnErr result P
on_err (Ok a) p = tt
on_err (Err e) p = p

arrived_taken : (message : PartialMessage) (without with : List JoinEntry) → is_taken (piece_arrived message without with).answer ≡ true
arrived_taken message without with =
    (elim (is_whole message) as (λ b. is_whole message ≡ b → is_taken (piece_arrived message without with).answer ≡ true) [
      | true ↦ λ t. rw t refl
      | false ↦ λ t. rw t refl
    ]) refl

-- ---- a first piece

none_there : (o : Option JoinEntry) → option_map (λ e. e.1) o ≡ None → o ≡ None
none_there None h = refl
none_there (Some e) h = cc

pub no_entry : (piece : Piece) (entries : List JoinEntry) → message_of piece entries ≡ None → entry_of piece entries ≡ None
no_entry piece entries h = none_there (entry_of piece entries) (sym (message_of_entry piece entries) ∙ h)

known_begins : {P : Type 0} (same held : Bool) → Begin ≡ (if same then (if held then Repeat else Advance) else Disagree) → P
known_begins true true h = cc
known_begins true false h = cc
known_begins false held h = cc

absent_at : (piece : Piece) (o : Option PartialMessage) → Begin ≡ next_step piece o → o ≡ None
absent_at piece None h = refl
absent_at piece (Some message) h = known_begins (length message.bytes == piece.total) (is_piece_held piece.index message) h

first_taken : (piece : Piece) (bytes : List ℕ) (entries : List JoinEntry) → message_of piece entries ≡ None →
    first_piece piece bytes entries ≡ take_piece piece bytes entries (entry_of piece entries)
first_taken piece bytes entries absent = ap (take_piece piece bytes entries) (sym (no_entry piece entries absent))

pub begin_taken : (piece : Piece) (bytes : List ℕ) (entries : List JoinEntry) → Begin ≡ next_step piece (message_of piece entries) →
    is_taken (take_piece piece bytes entries (entry_of piece entries)).answer ≡ true
begin_taken piece bytes entries begins =
    let none : message_of piece entries ≡ None = absent_at piece (message_of piece entries) begins in
    let message = with_piece piece.index bytes (nothing_of piece.total) in
    ap (λ (s : JoinStep). is_taken s.answer) (sym (first_taken piece bytes entries none))
    ∙ arrived_taken message entries ((piece.head, message) ∷ take 63 entries)

pub first_whole : (piece : Piece) (bytes : List ℕ) (entries : List JoinEntry) (message : PartialMessage) →
    message_of piece entries ≡ None → message ≡ with_piece piece.index bytes (nothing_of piece.total) → is_whole message ≡ true →
    join_step (Whole message.bytes) entries ≡ take_piece piece bytes entries (entry_of piece entries)
first_whole piece bytes entries message absent is whole =
    let P : PartialMessage → Type 0 = λ m. join_step (Whole message.bytes) entries ≡ piece_arrived m entries ((piece.head, m) ∷ take 63 entries) in
    subst P is (sym (arrived_whole message entries ((piece.head, message) ∷ take 63 entries) whole)) ∙ first_taken piece bytes entries absent

pub first_kept : (piece : Piece) (bytes : List ℕ) (table new : LruCache FragHead PartialMessage) (message : PartialMessage) →
    table.cap ≡ 64 → message_of piece table.entries ≡ None → message ≡ with_piece piece.index bytes (nothing_of piece.total) →
    is_whole message ≡ false → new ≡ lru_cache (put_entries same_head table piece.head message) table.cap →
    join_step Kept new.entries ≡ take_piece piece bytes table.entries (entry_of piece table.entries)
first_kept piece bytes table new message full absent is part put =
    let P : PartialMessage → Type 0 = λ m. join_step Kept ((piece.head, message) ∷ take 63 table.entries) ≡ piece_arrived m table.entries ((piece.head, m) ∷ take 63 table.entries) in
    let kept = subst P is (sym (arrived_part message table.entries ((piece.head, message) ∷ take 63 table.entries) part)) ∙ first_taken piece bytes table.entries absent in
    let there : new.entries ≡ (piece.head, message) ∷ take 63 table.entries = rw put (rw (no_entry piece table.entries absent) (rw full refl)) in
    ap (join_step Kept) there ∙ kept

-- ---- a piece that was missing

-- the entry that is found when another value is written, and the others
set_found : {K V : Type 0} (test : K → Bool) (entries : List (K × V)) (entry : K × V) (value : V) → lookup_entry test entries ≡ Some entry →
    (lookup_entry test (set_value test entries value) ≡ Some (entry.0, value)) × (remove_entry test (set_value test entries value) ≡ remove_entry test entries)
set_found {K = K} {V = V} test [] entry value there = cc
set_found {K = K} {V = V} test (e ∷ entries) entry value there =
    (elim (test e.0) as (λ b. test e.0 ≡ b → (lookup_entry test (set_value test (e ∷ entries) value) ≡ Some (entry.0, value)) × (remove_entry test (set_value test (e ∷ entries) value) ≡ remove_entry test (e ∷ entries))) [
      | true ↦ λ t. let found : Some e ≡ Some entry = rw t at there in
          let same : e ≡ entry = cc in
          (rw t (rw t (ap (λ (f : K × V). Some (f.0, value)) same)), rw t (rw t refl))
      | false ↦ λ t. let on = set_found test entries entry value (rw t at there) in
          (rw t (rw t on.0), rw t (rw t (ap (λ rest. e ∷ rest) on.1)))
    ]) refl

some_there : (piece : Piece) (o : Option JoinEntry) → next_step piece (option_map (λ e. e.1) o) ≡ Advance → (e : JoinEntry) × (o ≡ Some e)
some_there piece None h = cc
some_there piece (Some e) h = (e, refl)

pub entry_there : (piece : Piece) (entries : List JoinEntry) → next_step piece (message_of piece entries) ≡ Advance → (e : JoinEntry) × (entry_of piece entries ≡ Some e)
entry_there piece entries h = some_there piece (entry_of piece entries) (rw (← message_of_entry piece entries) h)

-- a value that is written back as it was changes nothing
pub unchanged : (piece : Piece) (table : LruCache FragHead PartialMessage) (old new : PartialMessage) →
    Some old ≡ message_of piece table.entries → new ≡ old → lru_cache (set_value (same_head piece.head) table.entries new) table.cap ≡ table
unchanged piece table old new there same =
    ap (λ (entries : List JoinEntry). lru_cache entries table.cap) (set_value_same (same_head piece.head) table.entries new (sym there ∙ ap Some (sym same)))

-- an entry with another value, brought to the front
promoted_set : (piece : Piece) (entries : List JoinEntry) (entry : JoinEntry) (message : PartialMessage) → entry_of piece entries ≡ Some entry →
    promoted (same_head piece.head) (set_value (same_head piece.head) entries message) ≡ (entry.0, message) ∷ others piece entries
promoted_set piece entries entry message there =
    let changed = set_found (same_head piece.head) entries entry message there in
    rw changed.0 (ap (λ (rest : List JoinEntry). (entry.0, message) ∷ rest) changed.1)

pub taken : (piece : Piece) (bytes : List ℕ) (entries : List JoinEntry) (new : LruCache FragHead PartialMessage) (cap : ℕ) (old message : PartialMessage) (complete : Bool) →
    Some old ≡ message_of piece entries → next_step piece (message_of piece entries) ≡ Advance →
    message ≡ with_piece piece.index bytes old → complete ≡ is_whole message →
    new ≡ lru_cache (promoted (same_head piece.head) (set_value (same_head piece.head) entries message)) cap →
    IsPieceTaken piece bytes entries complete new.entries
taken piece bytes entries new cap old message complete there missing is whole front =
    let found = entry_there piece entries missing in
    let value : Some old ≡ option_map (λ e. e.1) (Some found.0) = there ∙ message_of_entry piece entries ∙ ap (option_map (λ e. e.1)) found.1 in
    let same : old ≡ found.0.1 = cc in
    let now : message ≡ with_piece piece.index bytes found.0.1 = is ∙ ap (with_piece piece.index bytes) same in
    record {
      entry = found.0;
      was = found.1;
      whole = whole ∙ ap is_whole now;
      is = ap (λ (table : LruCache FragHead PartialMessage). table.entries) front ∙ promoted_set piece entries found.0 message found.1 ∙ ap (λ m. (found.0.0, m) ∷ others piece entries) now;
    }

-- the entry of a missing piece is that of the definition
advance_is : (piece : Piece) (bytes : List ℕ) (old : List JoinEntry) (entry : JoinEntry) → next_step piece (message_of piece old) ≡ Advance →
    entry_of piece old ≡ Some entry → missing_piece piece bytes entry (others piece old) ≡ take_piece piece bytes old (entry_of piece old)
advance_is piece bytes old entry missing was =
    let value : message_of piece old ≡ Some entry.1 = message_of_entry piece old ∙ ap (option_map (λ e. e.1)) was in
    let known : known_step piece entry.1 ≡ Advance = sym (ap (next_step piece) value) ∙ missing in
    sym (advance_chosen _ _ _ _ _ known) ∙ ap (take_piece piece bytes old) (sym was)

pub advance_kept : (piece : Piece) (bytes : List ℕ) (old new : List JoinEntry) (complete : Bool) →
    next_step piece (message_of piece old) ≡ Advance → IsPieceTaken piece bytes old complete new → complete ≡ false →
    join_step Kept new ≡ take_piece piece bytes old (entry_of piece old)
advance_kept piece bytes old new complete missing taken part =
    ap (join_step Kept) taken.is
    ∙ sym (arrived_part (with_piece piece.index bytes taken.entry.1) (others piece old) _ (sym taken.whole ∙ part))
    ∙ advance_is piece bytes old taken.entry missing taken.was

in_front : (piece : Piece) (bytes : List ℕ) (old new : List JoinEntry) (complete : Bool)
    (t : IsPieceTaken piece bytes old complete new) → (message_of piece new ≡ Some (with_piece piece.index bytes t.entry.1)) × (others piece new ≡ others piece old)
in_front piece bytes old new complete t =
    let passes = (Contains-lookup_entry (same_head piece.head) old t.entry t.was).1 in
    (rw t.is (rw passes refl), rw t.is (rw passes refl))

pub is_there : (piece : Piece) (bytes : List ℕ) (old new : List JoinEntry) (complete : Bool) → IsPieceTaken piece bytes old complete new →
    None ≡ message_of piece new → ⊥
is_there piece bytes old new complete t none = let there = (in_front piece bytes old new complete t).0 in cc

-- what is taken out again where all pieces came
pub advance_full : (piece : Piece) (bytes : List ℕ) (old new : List JoinEntry) (complete : Bool) (message : PartialMessage) →
    IsPieceTaken piece bytes old complete new → complete ≡ true → Some message ≡ message_of piece new → is_whole message ≡ true
advance_full piece bytes old new complete message taken all out =
    let front = in_front piece bytes old new complete taken in
    let some : Some message ≡ Some (with_piece piece.index bytes taken.entry.1) = out ∙ front.0 in
    let same : message ≡ with_piece piece.index bytes taken.entry.1 = cc in
    ap is_whole same ∙ sym taken.whole ∙ all

pub advance_whole : (piece : Piece) (bytes : List ℕ) (old new : List JoinEntry) (complete : Bool) (message : PartialMessage) →
    next_step piece (message_of piece old) ≡ Advance → IsPieceTaken piece bytes old complete new → complete ≡ true →
    Some message ≡ message_of piece new →
    join_step (Whole message.bytes) (others piece new) ≡ take_piece piece bytes old (entry_of piece old)
advance_whole piece bytes old new complete message missing taken all out =
    let front = in_front piece bytes old new complete taken in
    let whole = with_piece piece.index bytes taken.entry.1 in
    let some : Some message ≡ Some whole = out ∙ front.0 in
    let same : message ≡ whole = cc in
    ap (λ m. join_step (Whole m.bytes) (others piece new)) same
    ∙ ap (join_step (Whole whole.bytes)) front.1
    ∙ sym (arrived_whole whole (others piece old) _ (sym taken.whole ∙ all))
    ∙ advance_is piece bytes old taken.entry missing taken.was

pub advance_taken : (piece : Piece) (bytes : List ℕ) (entries : List JoinEntry) → Advance ≡ next_step piece (message_of piece entries) →
    is_taken (take_piece piece bytes entries (entry_of piece entries)).answer ≡ true
advance_taken piece bytes entries missing =
    let found = entry_there piece entries (sym missing) in
    ap (λ (s : JoinStep). is_taken s.answer) (sym (advance_is piece bytes entries found.0 (sym missing) found.1))
    ∙ arrived_taken (with_piece piece.index bytes found.0.1) (others piece entries) ((found.0.0, with_piece piece.index bytes found.0.1) ∷ others piece entries)

-- ---- a piece that came before, and one of another message

repeat_is : (piece : Piece) (bytes : List ℕ) (entries : List JoinEntry) (o : Option JoinEntry) → next_step piece (option_map (λ e. e.1) o) ≡ Repeat →
    join_step Repeated (option_map_or (λ e. e ∷ others piece entries) o entries) ≡ take_piece piece bytes entries o
repeat_is piece bytes entries None h = cc
repeat_is piece bytes entries (Some e) h = sym (repeat_chosen _ _ _ _ _ h)

pub repeated : (piece : Piece) (bytes : List ℕ) (entries : List JoinEntry) → next_step piece (message_of piece entries) ≡ Repeat →
    join_step Repeated (promoted (same_head piece.head) entries) ≡ take_piece piece bytes entries (entry_of piece entries)
repeated piece bytes entries h = repeat_is piece bytes entries (entry_of piece entries) (rw (← message_of_entry piece entries) h)

disagree_is : (piece : Piece) (bytes : List ℕ) (entries : List JoinEntry) (o : Option JoinEntry) → next_step piece (option_map (λ e. e.1) o) ≡ Disagree →
    join_step (Dropped Disagrees) entries ≡ take_piece piece bytes entries o
disagree_is piece bytes entries None h = cc
disagree_is piece bytes entries (Some e) h = sym (disagree_chosen _ _ _ _ _ h)

pub disagreed : (piece : Piece) (bytes : List ℕ) (entries : List JoinEntry) → next_step piece (message_of piece entries) ≡ Disagree →
    join_step (Dropped Disagrees) entries ≡ take_piece piece bytes entries (entry_of piece entries)
disagreed piece bytes entries h = disagree_is piece bytes entries (entry_of piece entries) (rw (← message_of_entry piece entries) h)

-- ---- a piece that is a whole message

over_all : (offset total : ℕ) (piece : List ℕ) → offset ≡ 0 → length piece ≡ total → with_piece_bytes offset piece (replicate total 0) ≡ piece
over_all offset total piece first all =
    let behind : drop (0 + length piece) (replicate total 0) ≡ [] = drop_all (0 + length piece) (replicate total 0) (omega (arith, length-replicate {A = ℕ} total 0, all)) in
    rw first (ap (λ (rest : List ℕ). piece ++ rest) behind ∙ append-nil piece)

all_of_one : (count index : ℕ) → count ≡ 1 → index ≡ 0 → list_all (λ came. came) (slice_set (replicate count false) index true) ≡ true
all_of_one count index one first = rw one (rw first refl)

pub first_alone : (piece : Piece) (bytes : List ℕ) (entries : List JoinEntry) → message_of piece entries ≡ None → FitsIn piece (length bytes) →
    length bytes ≡ piece.total → join_step (Whole bytes) entries ≡ take_piece piece bytes entries (entry_of piece entries)
first_alone piece bytes entries absent fits all =
    let message = with_piece piece.index bytes (nothing_of piece.total) in
    let first : piece.index ≡ 0 = omega (arith, fits.within, fits.some, all) in
    let one : count piece.total ≡ 1 = omega (arith, fits.most, fits.some, all) in
    let is : message.bytes ≡ bytes = over_all (1383 * piece.index) piece.total bytes (omega (arith, first)) all in
    ap (λ (b : List ℕ). join_step (Whole b) entries) (sym is)
    ∙ first_whole piece bytes entries message absent refl (all_of_one (count piece.total) piece.index one first)
