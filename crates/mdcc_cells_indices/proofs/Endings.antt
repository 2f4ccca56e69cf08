-- What is found by transaction is how it ended.
use Rattle.std.proofs.Common.{◌≡◌, ℕ, zero, suc, ◌+◌, ◌<◌, ◌≤◌, ◌⊎◌, Bool, true, false, List, [], ◌∷◌, ◌++◌, Option, Some, None, is_some, length, get_or, take, drop, min, option_map, inl, inr, refl, sym, ap, ◌∙◌, arith, append-nil, length-append}
use Rattle.std.specs.Option.{option_or}
use Rattle.std.specs.Prelude.{if◌then◌else◌}
use Rattle.std.proofs.lemmas.Bool.{cases_Bool, cases_lt}
use Rattle.std.proofs.lemmas.List.{get_or_append_left, get_or_at}
use Rattle.mdcc_base.specs.TxId.{tx_eq}
use Rattle.mdcc_base.specs.declared.identifiers.TxId.{TxId}
use Rattle.mdcc_base.specs.declared.key.Key.{Key}
use Rattle.mdcc_option.specs.declared.choices.Outcome.{Outcome}
use Rattle.mdcc_struct.proofs.Order.{tx_eq-sym}
use Rattle.mdcc_struct.specs.Maps.{value_of}
use Rattle.mdcc_def_messages.specs.Lengths.{fact_length}
use Rattle.mdcc_def_messages.specs.SpelledParts.{heard_bytes}
use Rattle.mdcc_def_messages.specs.Spelling.{fact_bytes, encodings_of}
use Rattle.mdcc_def_messages.specs.WellFormed.{IsWellFormedFact}
use Rattle.mdcc_def_messages.specs.declared.facts.Fact.{Fact}
use Rattle.mdcc_def_protocol.specs.Facts.{deltas_from, heard_of, is_heard, outcome_in}
use Rattle.mdcc_def_protocol.specs.Marks.{Amounts, is_commit}
use Rattle.mdcc_def_protocol.specs.Plain.{plain_ended_of}
use Rattle.mdcc_theorem_encoding.proofs.Common.{heard_again}
use Rattle.mdcc_theorem_encoding.proofs.Lengths.{length-fact}
use Rattle.mdcc_cells_chains.specs.Walks.{last_in, walk}
use Rattle.mdcc_cells_facts.specs.Holding.{AreWellFormed, HoldsEncodings}
use Rattle.mdcc_cells_indices.specs.Heard.{deltas_given, heard_numbers, heard_txs, is_commit_spelled, number_found, fact_number_in, numbers_by, outcome_read, outcome_spelled, AreHeard, AreNumbersBelow, HeardTxs}
use Rattle.mdcc_cells_tables.specs.UnresolvedNumbers.{TellsHeard}
use Rattle.mdcc_cells_indices.proofs.Entered.{encodings-length}
use Rattle.mdcc_cells_indices.proofs.Short.{heard-short}
use Rattle.mdcc_theorem_fact_folds.specs.Entered.{heard_in}

-- ---- lengths

length-numbers_by : (fact : Fact) (number : ℕ) → length (numbers_by fact number) ≡ length (heard_in fact)
length-numbers_by (Fact.Heard tx outcome) number = refl
length-numbers_by (Fact.Booted epoch) number = refl
length-numbers_by (Fact.Floor origin era upto) number = refl
length-numbers_by (Fact.Promised key low high ballot) number = refl
length-numbers_by (Fact.Voted key version ballot options offered) number = refl
length-numbers_by (Fact.Adopted key version item adds) number = refl

numbers-alike : (facts : List Fact) → length (heard_numbers facts) ≡ length (heard_txs facts)
numbers-alike [] = refl
numbers-alike (fact ∷ facts) =
    omega (
      arith,
      length-append (heard_numbers facts) (numbers_by fact (length facts)),
      length-append (heard_in fact) (heard_txs facts),
      length-numbers_by fact (length facts),
      numbers-alike facts,
    )

-- ---- walks

-- the oldest of a walk is its newest one, where there is no older one
last-cases : (b : Bool) (n i : ℕ) (w : List ℕ) → last_in (if b then n ∷ w else w) ≡ Some i → ((b ≡ true) × (last_in w ≡ None) × (n ≡ i)) ⊎ (last_in w ≡ Some i)
last-cases true n i [] is = inl (refl, refl, cc)
last-cases true n i (j ∷ js) is = inr is
last-cases false n i w is = inr is

-- the oldest that passes is among those that are there
pub last-within : {X : Type 0} (passes : X → Bool) (xs : List X) (i : ℕ) → last_in (walk passes xs) ≡ Some i → i < length xs
last-within passes [] i is = absurd (cc)
last-within passes (x ∷ xs) i is =
    elim (last-cases (passes x) (length xs) i (walk passes xs) is) [
      | inl newest ↦ omega (arith, newest.2)
      | inr older ↦ omega (arith, last-within passes xs i older)
    ]

-- ---- what is found

or-none : {X : Type 0} (a : Option X) → option_or a None ≡ a
or-none None = refl
or-none (Some x) = refl

or-first : {X : Type 0} (a b : Option X) (x : X) → a ≡ Some x → option_or a b ≡ Some x
or-first None b x is = absurd (cc)
or-first (Some y) b x is = is

-- the fact of an index in the list of outcomes says how the transaction ended
record Found (tx : TxId) (facts : List Fact) (i : ℕ) : Type 0 where
  other : TxId
  outcome : Outcome
  within : i < length (heard_numbers facts)
  below : get_or (heard_numbers facts) i 0 < length facts
  bytes : get_or (encodings_of facts) (get_or (heard_numbers facts) i 0) [] ≡ fact_bytes (Fact.Heard other outcome)
  fits : IsWellFormedFact (Fact.Heard other outcome)
  short : fact_length (Fact.Heard other outcome) ≤ 8964
  heard : heard_of facts tx ≡ Some outcome

found-more : (tx : TxId) (facts : List Fact) (fact : Fact) (i : ℕ) → Found tx facts i → Found tx (fact ∷ facts) i
found-more tx facts fact i found =
    let number : ℕ = get_or (heard_numbers facts) i 0 in
    let same : get_or (heard_numbers facts ++ numbers_by fact (length facts)) i 0 ≡ number = get_or_append_left (heard_numbers facts) (numbers_by fact (length facts)) 0 i found.within in
    record {
      other = found.other;
      outcome = found.outcome;
      within = omega (arith, found.within, length-append (heard_numbers facts) (numbers_by fact (length facts)));
      below = omega (arith, same, found.below);
      bytes = ap (λ n. get_or (encodings_of facts ++ fact_bytes fact ∷ []) n []) same
          ∙ get_or_append_left (encodings_of facts) (fact_bytes fact ∷ []) [] number (omega (arith, found.below, encodings-length facts))
          ∙ found.bytes;
      fits = found.fits;
      short = found.short;
      heard = or-first (heard_of facts tx) (outcome_in tx fact) found.outcome found.heard;
    }

missing : (tx : TxId) (facts : List Fact) → last_in (walk (tx_eq tx) (heard_txs facts)) ≡ None → heard_of facts tx ≡ None
missing tx [] is = refl
missing tx (Fact.Heard t outcome ∷ facts) is =
    elim (cases_Bool (tx_eq tx t)) [
      | inl same ↦
          let no : last_in (length (heard_txs facts) ∷ walk (tx_eq tx) (heard_txs facts)) ≡ None =
          ap (λ b. last_in (if b then length (heard_txs facts) ∷ walk (tx_eq tx) (heard_txs facts) else walk (tx_eq tx) (heard_txs facts))) (sym same) ∙ is in
          absurd (cc)
      | inr other ↦
          let older : last_in (walk (tx_eq tx) (heard_txs facts)) ≡ None =
          ap (λ b. last_in (if b then length (heard_txs facts) ∷ walk (tx_eq tx) (heard_txs facts) else walk (tx_eq tx) (heard_txs facts))) (sym other) ∙ is in
          ap (λ h. option_or h (if tx_eq t tx then Some outcome else None)) (missing tx facts older)
          ∙ ap (λ b. if b then Some outcome else None) (tx_eq-sym t tx ∙ other)
    ]
missing tx (Fact.Booted epoch ∷ facts) is = or-none (heard_of facts tx) ∙ missing tx facts is
missing tx (Fact.Floor origin era upto ∷ facts) is = or-none (heard_of facts tx) ∙ missing tx facts is
missing tx (Fact.Promised key low high ballot ∷ facts) is = or-none (heard_of facts tx) ∙ missing tx facts is
missing tx (Fact.Voted key version ballot options offered ∷ facts) is = or-none (heard_of facts tx) ∙ missing tx facts is
missing tx (Fact.Adopted key version item adds ∷ facts) is = or-none (heard_of facts tx) ∙ missing tx facts is

found-newest : (tx t : TxId) (outcome : Outcome) (facts : List Fact) (i : ℕ) → AreWellFormed (Fact.Heard t outcome ∷ facts) → length (heard_txs facts) ≡ i → tx_eq tx t ≡ true
    → heard_of facts tx ≡ None → Found tx (Fact.Heard t outcome ∷ facts) i
found-newest tx t outcome facts i readable e same none =
    let number : get_or (heard_numbers facts ++ length facts ∷ []) i 0 ≡ length facts = get_or_at (heard_numbers facts) (length facts) [] 0 i (numbers-alike facts ∙ e) in
    record {
      other = t;
      outcome = outcome;
      within = omega (arith, e, numbers-alike facts, length-append (heard_numbers facts) (length facts ∷ []));
      below = omega (arith, number);
      bytes = ap (λ n. get_or (encodings_of facts ++ fact_bytes (Fact.Heard t outcome) ∷ []) n []) number
          ∙ get_or_at (encodings_of facts) (fact_bytes (Fact.Heard t outcome)) [] [] (length facts) (encodings-length facts);
      fits = readable.0;
      short = heard-short t outcome readable.0;
      heard = ap (λ h. option_or h (if tx_eq t tx then Some outcome else None)) none
          ∙ ap (λ b. if b then Some outcome else None) (tx_eq-sym t tx ∙ same);
    }

present : (tx : TxId) (facts : List Fact) (i : ℕ) → AreWellFormed facts → last_in (walk (tx_eq tx) (heard_txs facts)) ≡ Some i → Found tx facts i
present tx [] i readable is = absurd (cc)
present tx (Fact.Heard t outcome ∷ facts) i readable is =
    elim (last-cases (tx_eq tx t) (length (heard_txs facts)) i (walk (tx_eq tx) (heard_txs facts)) is) [
      | inl newest ↦ found-newest tx t outcome facts i readable newest.2 newest.0 (missing tx facts newest.1)
      | inr older ↦ found-more tx facts (Fact.Heard t outcome) i (present tx facts i readable.1 older)
    ]
present tx (Fact.Booted epoch ∷ facts) i readable is = found-more tx facts (Fact.Booted epoch) i (present tx facts i readable.1 is)
present tx (Fact.Floor origin era upto ∷ facts) i readable is = found-more tx facts (Fact.Floor origin era upto) i (present tx facts i readable.1 is)
present tx (Fact.Promised key low high ballot ∷ facts) i readable is = found-more tx facts (Fact.Promised key low high ballot) i (present tx facts i readable.1 is)
present tx (Fact.Voted key version ballot options offered ∷ facts) i readable is = found-more tx facts (Fact.Voted key version ballot options offered) i (present tx facts i readable.1 is)
present tx (Fact.Adopted key version item adds ∷ facts) i readable is = found-more tx facts (Fact.Adopted key version item adds) i (present tx facts i readable.1 is)

-- ---- what is read

none-left : (bytes : List ℕ) → drop (length bytes) bytes ≡ []
none-left [] = refl
none-left (b ∷ bytes) = none-left bytes

-- how a transaction ended is read back from the bytes of the fact that says so
outcome-again : (tx : TxId) (outcome : Outcome) → IsWellFormedFact (Fact.Heard tx outcome) → outcome_spelled (fact_bytes (Fact.Heard tx outcome)) ≡ Some outcome
outcome-again tx outcome fits =
    let text : List ℕ = heard_bytes tx outcome in
    let one : 1 + length text ≡ suc (length text) = omega arith in
    let none : drop (1 + length text) (4 ∷ text) ≡ [] = ap (λ k. drop k (4 ∷ text)) one ∙ none-left text in
    ap outcome_read (heard_again (4 ∷ text) 1 tx outcome fits (record { is = sym (append-nil text) ∙ ap (λ rest. text ++ rest) (sym none) }))

commit-again : (tx : TxId) (outcome : Outcome) → is_commit_spelled (fact_bytes (Fact.Heard tx outcome)) ≡ is_commit outcome
commit-again tx Outcome.Abort = refl
commit-again tx (Outcome.Commit choices) = refl

-- ---- one byte

pub byte-after : (n : ℕ) (bytes : List ℕ) → get_or (drop n bytes) 0 0 ≡ get_or bytes n 0
byte-after zero bytes = refl
byte-after (suc n) [] = refl
byte-after (suc n) (b ∷ bytes) = byte-after n bytes

pub first-byte : (rest tag : List ℕ) (count : ℕ) → count ≡ min (length rest) 1 → tag ≡ take count rest ++ drop count (0 ∷ []) → get_or tag 0 0 ≡ get_or rest 0 0
first-byte [] tag count count-is tag-is =
    let none : count ≡ 0 = omega arith in
    ap (λ t. get_or t 0 0) tag-is ∙ ap (λ k. get_or (take k [] ++ drop k (0 ∷ [])) 0 0) none
first-byte (b ∷ rest) tag count count-is tag-is =
    let one : count ≡ 1 = omega arith in
    ap (λ t. get_or t 0 0) tag-is ∙ ap (λ k. get_or (take k (b ∷ rest) ++ drop k (0 ∷ [])) 0 0) one

-- ---- the answers

some-number : (numbers : List ℕ) (index : Option ℕ) (number : ℕ) → fact_number_in numbers index ≡ Some number → (i : ℕ) × (index ≡ Some i) × (get_or numbers i 0 ≡ number)
some-number numbers None number is = absurd (cc)
some-number numbers (Some i) number is = (i, refl, cc)

no-number : (numbers : List ℕ) (index : Option ℕ) → fact_number_in numbers index ≡ None → index ≡ None
no-number numbers None is = refl
no-number numbers (Some i) is = absurd (cc)

-- the fact of a number that was found says how the transaction ended
record Answer (encodings : List (List ℕ)) (facts : List Fact) (tx : TxId) (number : ℕ) : Type 0 where
  other : TxId
  outcome : Outcome
  bytes : get_or encodings number [] ≡ fact_bytes (Fact.Heard other outcome)
  fits : IsWellFormedFact (Fact.Heard other outcome)
  short : fact_length (Fact.Heard other outcome) ≤ 8964
  heard : heard_of facts tx ≡ Some outcome

answered : (encodings : List (List ℕ)) (index : HeardTxs) (facts : List Fact) (tx : TxId) (number : ℕ) → HoldsEncodings encodings facts → AreHeard index facts → number_found index tx ≡ Some number
    → Answer encodings facts tx number
answered encodings index facts tx number holds kept is =
    let at = some-number index.numbers (last_in (walk (tx_eq tx) index.txs.keys)) number is in
    let found : Found tx facts at.0 = present tx facts at.0 holds.well_formed (ap (λ keys. last_in (walk (tx_eq tx) keys)) (sym kept.txs_are) ∙ at.1) in
    record {
      other = found.other;
      outcome = found.outcome;
      bytes = ap (λ n. get_or encodings n []) (sym at.2 ∙ ap (λ ns. get_or ns at.0 0) kept.numbers_are)
          ∙ ap (λ es. get_or es (get_or (heard_numbers facts) at.0 0) []) holds.encodings_are ∙ found.bytes;
      fits = found.fits;
      short = found.short;
      heard = found.heard;
    }

pub answer-some : (encodings : List (List ℕ)) (index : HeardTxs) (facts : List Fact) (tx : TxId) (number room : ℕ) (result : Option Outcome) → HoldsEncodings encodings facts → AreHeard index facts
    → number_found index tx ≡ Some number → 8964 ≤ room
    → (length (get_or encodings number []) ≤ room → result ≡ outcome_spelled (get_or encodings number []))
    → result ≡ heard_of facts tx
answer-some encodings index facts tx number room result holds kept is long read =
    let a : Answer encodings facts tx number = answered encodings index facts tx number holds kept is in
    read (omega (arith, ap length a.bytes, long, a.short, length-fact (Fact.Heard a.other a.outcome)))
    ∙ ap outcome_spelled a.bytes ∙ outcome-again a.other a.outcome a.fits ∙ sym a.heard

pub answer-commit : (encodings : List (List ℕ)) (index : HeardTxs) (facts : List Fact) (tx : TxId) (number : ℕ) (result : Bool) → HoldsEncodings encodings facts → AreHeard index facts
    → number_found index tx ≡ Some number
    → result ≡ is_commit_spelled (get_or encodings number []) → Some result ≡ plain_ended_of facts tx
answer-commit encodings index facts tx number result holds kept is read =
    let a : Answer encodings facts tx number = answered encodings index facts tx number holds kept is in
    ap Some (read ∙ ap is_commit_spelled a.bytes ∙ commit-again a.other a.outcome) ∙ ap (option_map is_commit) (sym a.heard)

pub answer-none : (index : HeardTxs) (facts : List Fact) (tx : TxId) → AreHeard index facts → number_found index tx ≡ None → heard_of facts tx ≡ None
answer-none index facts tx kept is =
    missing tx facts (ap (λ keys. last_in (walk (tx_eq tx) keys)) (sym kept.txs_are) ∙ no-number index.numbers (last_in (walk (tx_eq tx) index.txs.keys)) is)

pub heard-known : (index : HeardTxs) (facts : List Fact) (tx : TxId) → AreWellFormed facts → AreHeard index facts → is_some (number_found index tx) ≡ is_heard facts tx
heard-known index facts tx fits kept = by_found (number_found index tx) refl
  where
    by_found : (found : Option ℕ) → number_found index tx ≡ found → is_some (number_found index tx) ≡ is_heard facts tx
    by_found None is = ap is_some is ∙ sym (ap is_some (answer-none index facts tx kept is))
    by_found (Some number) is =
        ap is_some is ∙ sym (ap is_some (answered (encodings_of facts) index facts tx number (record { encodings_are = refl; well_formed = fits }) kept is).heard)

-- what an outcome gives is what its fact brings
pub given-is : (key : Key) (version : ℕ) (tx t : TxId) (outcome : Outcome) → value_of (deltas_from key version (Fact.Heard t outcome)) tx ≡ value_of (deltas_given key version (Some outcome)) tx
given-is key version tx t Outcome.Abort = refl
given-is key version tx t (Outcome.Commit choices) = refl

pub answer-added : (encodings : List (List ℕ)) (index : HeardTxs) (facts : List Fact) (key : Key) (version : ℕ) (tx : TxId) (number : ℕ) (result : Option Amounts)
    → HoldsEncodings encodings facts → AreHeard index facts → number_found index tx ≡ Some number
    → ((fact : Fact) → IsWellFormedFact fact → get_or encodings number [] ≡ fact_bytes fact → result ≡ value_of (deltas_from key version fact) tx)
    → result ≡ value_of (deltas_given key version (heard_of facts tx)) tx
answer-added encodings index facts key version tx number result holds kept is read =
    let a : Answer encodings facts tx number = answered encodings index facts tx number holds kept is in
    read (Fact.Heard a.other a.outcome) a.fits a.bytes ∙ given-is key version tx a.other a.outcome ∙ ap (λ heard. value_of (deltas_given key version heard) tx) (sym a.heard)

-- ---- one more fact

pub heard-more : (old new : HeardTxs) (facts : List Fact) (fact : Fact) (number : ℕ) → new.txs.keys ≡ heard_in fact ++ old.txs.keys → new.numbers ≡ old.numbers ++ numbers_by fact number
    → AreHeard old facts → number ≡ length facts → AreHeard new (fact ∷ facts)
heard-more old new facts fact number txs numbers kept number-is = record {
  txs_are = txs ∙ ap (λ keys. heard_in fact ++ keys) kept.txs_are;
  numbers_are = numbers ∙ ap (λ ns. ns ++ numbers_by fact number) kept.numbers_are ∙ ap (λ n. heard_numbers facts ++ numbers_by fact n) number-is;
}

pub length-heard : (fact : Fact) → length (heard_in fact) ≤ 1
length-heard (Fact.Heard tx outcome) = omega arith
length-heard (Fact.Booted epoch) = omega arith
length-heard (Fact.Floor origin era upto) = omega arith
length-heard (Fact.Promised key low high ballot) = omega arith
length-heard (Fact.Voted key version ballot options offered) = omega arith
length-heard (Fact.Adopted key version item adds) = omega arith

one-below : (numbers : List ℕ) (number : ℕ) → AreNumbersBelow number numbers → AreNumbersBelow (number + 1) (numbers ++ number ∷ [])
one-below numbers number below i within = elim (cases_lt i (length numbers)) [
  | inl older ↦ omega (arith, get_or_append_left numbers (number ∷ []) 0 i older, below i older)
  | inr newest ↦
      let same : length numbers ≡ i = omega (arith, length-append numbers (number ∷ [])) in
      omega (arith, get_or_at numbers number [] 0 i same)
]

none-below : (numbers : List ℕ) (number : ℕ) → AreNumbersBelow number numbers → AreNumbersBelow (number + 1) (numbers ++ [])
none-below numbers number below i within =
    let same : numbers ++ [] ≡ numbers = append-nil numbers in
    omega (arith, ap (λ ns. get_or ns i 0) same, below i (omega (arith, ap length same)))

pub below-by : (fact : Fact) (numbers : List ℕ) (number : ℕ) → AreNumbersBelow number numbers → AreNumbersBelow (number + 1) (numbers ++ numbers_by fact number)
below-by (Fact.Heard tx outcome) numbers number below = one-below numbers number below
below-by (Fact.Booted epoch) numbers number below = none-below numbers number below
below-by (Fact.Floor origin era upto) numbers number below = none-below numbers number below
below-by (Fact.Promised key low high ballot) numbers number below = none-below numbers number below
below-by (Fact.Voted key version ballot options offered) numbers number below = none-below numbers number below
below-by (Fact.Adopted key version item adds) numbers number below = none-below numbers number below

-- a transaction was heard where it is found
pub tells-heard : (index : HeardTxs) (facts : List Fact) → AreWellFormed facts → AreHeard index facts → TellsHeard (λ tx. is_some (number_found index tx)) facts
tells-heard index facts fits kept tx = heard-known index facts tx fits kept
