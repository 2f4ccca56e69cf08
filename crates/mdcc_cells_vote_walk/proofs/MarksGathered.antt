-- Marks that are gathered one after the other.
use Rattle.std.proofs.Common.{◌≡◌, ℕ, zero, suc, ◌+◌, ◌-◌, ◌<◌, ◌≤◌, Bool, true, false, List, [], ◌∷◌, ◌++◌, Some, None, length, drop, refl, ap, ◌∙◌, append_assoc, arith}
use Rattle.std.specs.List.{flat_map}
use Rattle.std.specs.Prelude.{if◌then◌else◌, ◌&&◌, ◌==◌}
use Rattle.std.proofs.lemmas.List.{map-append}
use Rattle.std.proofs.lemmas.List.Elements.{All-head, All-tail}
use Rattle.mdcc_base.specs.Ballot.{ballot_eq}
use Rattle.mdcc_base.specs.Key.{key_eq}
use Rattle.mdcc_base.specs.declared.identifiers.Ballot.{Ballot}
use Rattle.mdcc_base.specs.declared.identifiers.TxId.{TxId}
use Rattle.mdcc_option.specs.declared.choices.Mark.{Mark}
use Rattle.mdcc_struct.specs.Fields.{kept, kept_place, mark_in}
use Rattle.mdcc_struct.specs.Maps.{TxMap}
use Rattle.mdcc_struct.specs.Options.{Marks, is_accept}
use Rattle.mdcc_struct.proofs.Entries.{mark_in-kept, mark_in-kept_place}
use Rattle.mdcc_def_messages.specs.Spelling.{fact_bytes, offered_bytes}
use Rattle.mdcc_def_messages.specs.WellFormed.{IsWellFormedFact}
use Rattle.mdcc_def_messages.specs.declared.facts.Fact.{Fact}
use Rattle.mdcc_def_protocol.specs.Facts.{marks_voted}
use Rattle.mdcc_theorem_encoding.proofs.Choices.{entry_spelled}
use Rattle.mdcc_cells_vote_walk.specs.Gathered.{AreWithin, entry_before, first_entry, marks_at, marks_listed, marks_of_ballot, marks_read, named}
use Rattle.mdcc_cells_vote_walk.specs.Marks.{first_mark}
use Rattle.mdcc_cells_vote_walk.specs.Passing.{after_mark}
use Rattle.mdcc_cells_vote_walk.proofs.Headed.{head-again, head_from, marks-begin}
use Rattle.mdcc_cells_vote_walk.proofs.Marked.{AreFit, encoding, head_itself, mark-first, tag-first}
use Rattle.mdcc_cells_vote_walk.proofs.Passed.{after-mark}

-- ---- one more mark

listed-kept : (accepted : List Mark) (mark : Mark) (places : TxMap ℕ) → AreWithin accepted places → marks_listed (kept accepted mark) places ≡ marks_listed accepted places
listed-kept accepted mark [] h = refl
listed-kept accepted mark (e ∷ es) h =
    let here : e.1 ≤ length accepted = All-head (λ (e : TxId × ℕ). e.1 ≤ length accepted) e es h in
    rw (mark_in-kept accepted mark e.1 here, listed-kept accepted mark es (All-tail (λ (e : TxId × ℕ). e.1 ≤ length accepted) e es h)) refl

pub listed-more : (accepted : List Mark) (mark : Mark) (places : TxMap ℕ) (tx : TxId) → AreWithin accepted places
    → marks_listed (kept accepted mark) (places ++ (tx, kept_place accepted mark) ∷ []) ≡ marks_listed accepted places ++ (tx, mark) ∷ []
listed-more accepted mark places tx h =
    map-append (λ (e : TxId × ℕ). (e.0, mark_in (kept accepted mark) e.1)) places ((tx, kept_place accepted mark) ∷ [])
    ∙ ap (λ marks. marks ++ (tx, mark_in (kept accepted mark) (kept_place accepted mark)) ∷ []) (listed-kept accepted mark places h)
    ∙ ap (λ m. marks_listed accepted places ++ (tx, m) ∷ []) (mark_in-kept_place accepted mark)

-- ---- the marks of a fact

read-step : (n : ℕ) (bytes : List ℕ) → 0 < n → marks_read n bytes ≡ entry_before (first_entry bytes) (marks_read (n - 1) (after_mark bytes))
read-step zero bytes some = absurd (omega arith)
read-step (suc n) bytes some = let same : n ≡ suc n - 1 = omega arith in ap (λ k. entry_before (first_entry bytes) (marks_read k (after_mark bytes))) same

pub read_next : (n : ℕ) (bytes : List ℕ) (e : TxId × Mark) → 0 < n → first_entry bytes ≡ Some e → marks_read n bytes ≡ e ∷ marks_read (n - 1) (after_mark bytes)
read_next n bytes e some is = read-step n bytes some ∙ ap (λ t. entry_before t (marks_read (n - 1) (after_mark bytes))) is

pub read_none : (n : ℕ) (bytes : List ℕ) → 0 < n → first_entry bytes ≡ None → marks_read n bytes ≡ []
read_none n bytes some is = read-step n bytes some ∙ ap (λ t. entry_before t (marks_read (n - 1) (after_mark bytes))) is

read-again : (key : List ℕ) (version : ℕ) (options : Marks) (rest : List ℕ) → AreFit key version options
    → marks_read (length options) (flat_map entry_spelled options ++ rest) ≡ options
read-again key version [] rest w = refl
read-again key version (e ∷ es) rest w =
    let others = flat_map entry_spelled es ++ rest in
    let all = entry_spelled e ++ others in
    ap (λ bytes. entry_before (first_entry bytes) (marks_read (length es) (after_mark bytes))) (append_assoc (entry_spelled e) (flat_map entry_spelled es) rest)
    ∙ ap (λ tag. entry_before (named tag (first_mark all)) (marks_read (length es) (after_mark all))) (tag-first key version e.0 e.1 others w.0)
    ∙ ap (λ mark. entry_before (named (Some (e.0, is_accept e.1)) mark) (marks_read (length es) (after_mark all))) (mark-first key version e.0 e.1 others w.0)
    ∙ ap (λ bytes. e ∷ marks_read (length es) bytes) (after-mark e.0 e.1 others)
    ∙ ap (λ marks. e ∷ marks) (read-again key version es rest w.1)

marks-by : (key : List ℕ) (version : ℕ) (ballot : Ballot) (fact : Fact) → IsWellFormedFact fact
    → marks_of_ballot ballot (fact_bytes fact) (head_from key version fact) ≡ marks_voted key version ballot fact
marks-by key version ballot (Fact.Booted epoch) w = refl
marks-by key version ballot (Fact.Floor origin era upto) w = refl
marks-by key version ballot (Fact.Promised k low high b) w = refl
marks-by key version ballot (Fact.Heard t outcome) w = refl
marks-by key version ballot (Fact.Adopted k v item adds) w = refl
marks-by key version ballot (Fact.Voted k v b options offered) w = by (v == version) (ballot_eq b ballot) (key_eq k key) refl
  where
    by : (same_version same_ballot same_key : Bool) → ballot_eq b ballot ≡ same_ballot
        → marks_of_ballot ballot (encoding k v b options offered w) (if same_version && same_key then Some (head_itself k v b options offered w) else None)
        ≡ (if same_version && same_ballot && same_key then options else [])
    by true true true is =
        ap (λ test. if test then marks_read (length options) (drop (23 + length k) (encoding k v b options offered w)) else []) is
        ∙ ap (marks_read (length options)) (marks-begin k v b options offered)
        ∙ read-again k v options (offered_bytes offered) w.options_itself.each
    by true false true is = ap (λ test. if test then marks_read (length options) (drop (23 + length k) (encoding k v b options offered w)) else []) is
    by true true false is = refl
    by true false false is = refl
    by false same_ballot same_key is = refl

pub marks-at-again : (key : List ℕ) (version : ℕ) (ballot : Ballot) (fact : Fact) → IsWellFormedFact fact
    → marks_at key version ballot (fact_bytes fact) ≡ marks_voted key version ballot fact
marks-at-again key version ballot fact w = ap (marks_of_ballot ballot (fact_bytes fact)) (head-again key version fact w) ∙ marks-by key version ballot fact w
