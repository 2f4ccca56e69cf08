-- The marks of a vote, as they are read in its bytes.
use Rattle.std.proofs.Common.{◌≡◌, ℕ, ◌+◌, ◌≤◌, Bool, true, false, List, [], ◌∷◌, ◌++◌, Option, Some, None, Ok, length, take, drop, map, refl, sym, ap, ◌∙◌, append_assoc, append-nil, arith}
use Rattle.std.specs.List.{AllByRecursion, flat_map}
use Rattle.std.specs.Option.{option_and_then, option_map, option_or}
use Rattle.std.specs.Prelude.{if◌then◌else◌, ◌&&◌}
use Rattle.mdcc_base.specs.declared.identifiers.Ballot.{Ballot}
use Rattle.mdcc_base.specs.TxId.{tx_eq}
use Rattle.mdcc_base.specs.declared.identifiers.TxId.{TxId}
use Rattle.mdcc_option.specs.declared.choices.Choice.{Choice}
use Rattle.mdcc_option.specs.declared.choices.Mark.{Mark}
use Rattle.mdcc_option.specs.declared.choices.Mark.TheVariants.{Accept, Reject}
use Rattle.mdcc_struct.specs.Maps.{value_of}
use Rattle.mdcc_struct.specs.Options.{Marks, is_accept}
use Rattle.mdcc_def_messages.specs.Bytes.{u8_bytes}
use Rattle.mdcc_def_messages.specs.SpelledParts.{choice_bytes, entry_bytes, tx_bytes}
use Rattle.mdcc_def_messages.specs.Spelling.{fact_bytes, offered_bytes}
use Rattle.mdcc_def_messages.specs.WellFormed.{IsWellFormedFact, IsWellFormedOffered}
use Rattle.mdcc_def_messages.specs.declared.facts.Fact.{Fact}
use Rattle.mdcc_def_protocol.specs.Facts.{choice_of_tx}
use Rattle.mdcc_def_protocol.specs.Marks.{choice_in}
use Rattle.mdcc_def_messages.specs.WellFormedParts.{IsWellFormedChoice, IsWellFormedEntry, IsWellFormedTx}
use Rattle.mdcc_theorem_encoding.proofs.Choices.{choice_again, entry_spelled}
use Rattle.mdcc_theorem_encoding.proofs.Identifiers.{tx_again}
use Rattle.mdcc_theorem_encoding.proofs.Lengths.{length-choice}
use Rattle.mdcc_theorem_encoding.proofs.Longest.{longest_choice}
use Rattle.mdcc_theorem_encoding.proofs.Numbers.{u8_within_again}
use Rattle.mdcc_theorem_encoding.proofs.Places.{apart-2}
use Rattle.mdcc_cells_vote_walk.specs.Marks.{accepted, choice_of, choice_read, first_choice, first_mark, first_tag, found_here, found_in, is_offered, mark_of, offered_of, offered_to, tag_at, tag_before, tagged, tags_in}
use Rattle.mdcc_cells_vote_walk.specs.Passing.{after_mark, after_marks}
use Rattle.mdcc_cells_vote_walk.specs.declared.heads.Head.{Head}
use Rattle.mdcc_cells_vote_walk.proofs.Fronts.{front-at}
use Rattle.mdcc_cells_vote_walk.proofs.Headed.{marks-begin}
use Rattle.mdcc_cells_vote_walk.proofs.Passed.{after-mark, after-marks}

-- ---- one mark

tag-again : (n : ℕ) (tx : TxId) (rest : List ℕ) → n ≤ 1 → IsWellFormedTx tx → tag_at (take 10 ((u8_bytes n ++ tx_bytes tx) ++ rest)) ≡ Ok ((tx, n), 10)
tag-again n tx rest one fits =
    let bytes = take 10 ((u8_bytes n ++ tx_bytes tx) ++ rest) in
    let p = apart-2 bytes 0 (u8_bytes n) (tx_bytes tx) (front-at ((u8_bytes n ++ tx_bytes tx) ++ rest) (u8_bytes n ++ tx_bytes tx) rest 10 refl (omega arith)) in
    let tag = u8_within_again 0 0 1 bytes 0 n (omega arith) (omega arith, one) p.0 in
    let read = tx_again bytes 1 tx fits p.1 in
    rw (tag, read) refl

abbrev pub tag_of : TxId × Mark → TxId × Bool
tag_of e = (e.0, is_accept e.1)

pub tag-first : (key : List ℕ) (version : ℕ) (tx : TxId) (mark : Mark) (rest : List ℕ) → IsWellFormedEntry key version tx mark → first_tag (entry_bytes tx mark ++ rest) ≡ Some (tag_of (tx, mark))
tag-first key version tx Reject rest w = ap tagged (tag-again 0 tx rest (omega arith) w)
tag-first key version tx (Accept choice) rest w =
    ap tagged (tag-again 1 choice.tx (drop 10 (entry_bytes tx (Accept choice) ++ rest)) (omega arith) w.choice_itself.tx)
    ∙ ap (λ (t : TxId). Some (t, true)) w.same_tx

pub choice-first : (n : ℕ) (choice : Choice) (rest : List ℕ) → IsWellFormedChoice choice → first_choice ((u8_bytes n ++ choice_bytes choice) ++ rest) ≡ Some choice
choice-first n choice rest w =
    let bytes = take 1120 ((u8_bytes n ++ choice_bytes choice) ++ rest) in
    let short : length (u8_bytes n ++ choice_bytes choice) ≤ 1120 = omega (arith, length-choice choice, longest_choice choice w) in
    let p = apart-2 bytes 0 (u8_bytes n) (choice_bytes choice) (front-at ((u8_bytes n ++ choice_bytes choice) ++ rest) (u8_bytes n ++ choice_bytes choice) rest 1120 refl short) in
    ap choice_read (choice_again bytes 1 choice w p.1)

pub mark-first : (key : List ℕ) (version : ℕ) (tx : TxId) (mark : Mark) (rest : List ℕ) → IsWellFormedEntry key version tx mark → first_mark (entry_bytes tx mark ++ rest) ≡ Some mark
mark-first key version tx Reject rest w = refl
mark-first key version tx (Accept choice) rest w = ap (option_map accepted) (choice-first 1 choice rest w.choice_itself)

-- ---- all marks

abbrev pub AreFit : List ℕ → ℕ → Marks → Type 0
AreFit key version options = AllByRecursion (λ e. IsWellFormedEntry key version e.0 e.1) options

pub tags-again : (key : List ℕ) (version : ℕ) (options : Marks) (rest : List ℕ) → AreFit key version options
    → tags_in (length options) (flat_map entry_spelled options ++ rest) ≡ map tag_of options
tags-again key version [] rest w = refl
tags-again key version (e ∷ es) rest w =
    let others = flat_map entry_spelled es ++ rest in
    ap (λ bytes. tag_before (first_tag bytes) (tags_in (length es) (after_mark bytes))) (append_assoc (entry_spelled e) (flat_map entry_spelled es) rest)
    ∙ ap (λ tag. tag_before tag (tags_in (length es) (after_mark (entry_spelled e ++ others)))) (tag-first key version e.0 e.1 others w.0)
    ∙ ap (λ bytes. tag_of e ∷ tags_in (length es) bytes) (after-mark e.0 e.1 others)
    ∙ ap (λ tags. tag_of e ∷ tags) (tags-again key version es rest w.1)

pub mark-again : (key : List ℕ) (version : ℕ) (tx : TxId) (options : Marks) (rest : List ℕ) → AreFit key version options
    → option_and_then first_mark (found_in tx (length options) (flat_map entry_spelled options ++ rest)) ≡ value_of options tx
mark-again key version tx [] rest w = refl
mark-again key version tx (e ∷ es) rest w =
    ap (λ bytes. option_and_then first_mark (found_here tx (first_tag bytes) bytes (found_in tx (length es) (after_mark bytes)))) (append_assoc (entry_spelled e) (flat_map entry_spelled es) rest)
    ∙ ap (λ tag. option_and_then first_mark (found_here tx tag all (found_in tx (length es) (after_mark all)))) (tag-first key version e.0 e.1 others w.0)
    ∙ by (tx_eq e.0 tx) (mark-again key version tx es rest w.1)
  where
    others : List ℕ
    others = flat_map entry_spelled es ++ rest

    all : List ℕ
    all = entry_spelled e ++ others

    by : (same : Bool) → option_and_then first_mark (found_in tx (length es) others) ≡ value_of es tx → option_and_then first_mark (if same then Some all else found_in tx (length es) (after_mark all)) ≡ (if same then Some e.1 else value_of es tx)
    by true others-are = mark-first key version e.0 e.1 others w.0
    by false others-are = ap (λ bytes. option_and_then first_mark (found_in tx (length es) bytes)) (after-mark e.0 e.1 others) ∙ others-are

-- ---- the choice after the marks

pub offered-again : (key : List ℕ) (version : ℕ) (tx : TxId) (offered : Option Choice) → IsWellFormedOffered key version offered
    → offered_to tx (offered_bytes offered) ≡ option_and_then (choice_of_tx tx) offered
offered-again key version tx None w = refl
offered-again key version tx (Some choice) w =
    ap (λ tag. if is_offered tx (tagged tag) then first_choice (offered_bytes (Some choice)) else None) (tag-again 1 choice.tx (drop 10 (offered_bytes (Some choice))) (omega arith) w.choice_itself.tx)
    ∙ by (tx_eq choice.tx tx)
  where
    by : (same : Bool) → (if true && same then first_choice (offered_bytes (Some choice)) else None) ≡ (if same then Some choice else None)
    by true = ap first_choice (sym (append-nil (offered_bytes (Some choice)))) ∙ choice-first 1 choice [] w.choice_itself
    by false = refl

-- ---- of a vote

module _ (key : List ℕ) (version : ℕ) (ballot : Ballot) (options : Marks) (offered : Option Choice) (w : IsWellFormedFact (Fact.Voted key version ballot options offered)) where
  abbrev pub head_itself : Head
  head_itself = record { ballot = ballot; count = length options; begin = 23 + length key }

  abbrev pub encoding : List ℕ
  encoding = fact_bytes (Fact.Voted key version ballot options offered)

  pub tags-of : tags_in (length options) (drop (23 + length key) encoding) ≡ map tag_of options
  tags-of = ap (tags_in (length options)) (marks-begin key version ballot options offered) ∙ tags-again key version options (offered_bytes offered) w.options_itself.each

  pub mark-of : (tx : TxId) → mark_of tx head_itself encoding ≡ value_of options tx
  mark-of tx =
      ap (λ bytes. option_and_then first_mark (found_in tx (length options) bytes)) (marks-begin key version ballot options offered)
      ∙ mark-again key version tx options (offered_bytes offered) w.options_itself.each

  pub choice-of : (tx : TxId) → choice_of tx head_itself encoding ≡ option_or (option_and_then choice_in (value_of options tx)) (option_and_then (choice_of_tx tx) offered)
  choice-of tx =
      ap (λ mark. option_or (option_and_then choice_in mark) (offered_of tx head_itself encoding)) (mark-of tx)
      ∙ ap (λ bytes. option_or (option_and_then choice_in (value_of options tx)) (offered_to tx (after_marks (length options) bytes))) (marks-begin key version ballot options offered)
      ∙ ap (λ bytes. option_or (option_and_then choice_in (value_of options tx)) (offered_to tx bytes)) (after-marks options (offered_bytes offered))
      ∙ ap (option_or (option_and_then choice_in (value_of options tx))) (offered-again key version tx offered w.offered_itself)
