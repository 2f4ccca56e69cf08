-- What was read of an area, as its log.
use Rattle.std.proofs.Common.{◌≡◌, inl, inr, ℕ, ◌+◌, ◌^◌, ◌<◌, ◌≤◌, ◌==◌, nat_lt, Bool, cond, true, false, List, [], ◌∷◌, ◌++◌, length, get_or, take, drop, Ok, Err, Result, sym, ◌∙◌, ap, refl, arith, append_assoc, length-append}
use Rattle.std.specs.Cmp.Lexicographic.{same_text}
use Rattle.std.proofs.lemmas.Bool.{and_parts, false≢true}
use Rattle.std.proofs.lemmas.Bool.Decides.{nat_tests}
use Rattle.std.proofs.lemmas.List.{take-append-drop, drop-drop, drop_more, drop_at, length-take-le, length-drop}
use Rattle.std.specs.Int.{w64, to_le_bytes}
use Rattle.std.specs.List.{flat_map}
use Rattle.mdcc_log_file.specs.Log.{log_mark, frame_bytes, frames_from}
use Rattle.mdcc_log_file.specs.Area.{AreaLog, area_mark, counts_bytes, records_bytes, front_of, is_first, is_second, is_copy, area_gate, copy_generation, count_in, with_tail, tail_from, log_from, fresh, read_copy, read_area}
use Rattle.mdcc_log_file.specs.Area.Head.{Version1, Version2}
use Rattle.mdcc_log.specs.Reading.{AreaIs}
use Rattle.mdcc_log_file.specs.Records.{AreRecords}
use Rattle.mdcc_log_file.specs.Frames.{AreFrames}
use Rattle.mdcc_log.proofs.AreaRead.{long_test, unmarked_no_copy, first_not_second, second_not_first, short_no_copy, area_is_read, read_is_by}
use Rattle.mdcc_log_file.proofs.Records.{records_are_read}
use Rattle.mdcc_log.proofs.Choice.{fresh_is_read}

some_left : (gate : ℕ) (bytes : List ℕ) → gate < length bytes → 0 < length (drop gate bytes)
some_left gate bytes within = omega (arith, length-drop gate bytes)

-- ---- version 1

pub log_stands : (all : List (List ℕ)) (count gate : ℕ) (bytes : List ℕ) → 9 < length bytes → is_first bytes ≡ true → AreFrames 8 [] all count gate bytes → AreaIs 0 all 8 count gate bytes
log_stands all count gate bytes long first frames =
    let log : AreaLog = record { head = Version1; tail = frames.tail } in
    let mark : take 8 bytes ≡ log_mark = same_text (take 8 bytes) log_mark (sym first) in
    let front : bytes ≡ front_of log ++ drop gate bytes = frames.front ∙ ap (λ (l : List ℕ). l ++ flat_map frame_bytes frames.tail ++ drop gate bytes) mark in
    record {
      log = log;
      read = area_is_read 0 log (drop gate bytes) bytes (record { head = refl; short = frames.short }) (some_left gate bytes frames.within) frames.shut long front;
      valid = λ area from. record { head = from (unmarked_no_copy bytes (first_not_second bytes first)); short = frames.short };
      numbered = λ copy. absurd (false≢true (sym (unmarked_no_copy bytes (first_not_second bytes first)) ∙ copy));
      generation_is = refl;
      payloads_are = frames.added;
      starts = refl;
      counted = frames.counted;
      gate_is = omega (arith, frames.ends);
      stands = inr (long, record { front = front; within = frames.within; shut = frames.shut });
    }

-- a log that was never begun
pub fresh_stands : (bytes : List ℕ) → length bytes ≤ 9 → AreaIs 0 [] 8 0 8 bytes
fresh_stands bytes short = record {
  log = fresh;
  read = fresh_is_read bytes short;
  valid = λ area from. record { head = from (short_no_copy bytes short); short = tt };
  numbered = λ copy. absurd (false≢true (sym (short_no_copy bytes short) ∙ copy));
  generation_is = refl;
  payloads_are = refl;
  starts = refl;
  counted = refl;
  gate_is = refl;
  stands = inl (short, refl);
}

-- ---- version 2

-- the mark, the area gate, two numbers, and the rest
split_numbers : (bytes : List ℕ) → 25 ≤ length bytes → bytes ≡ take 8 bytes ++ get_or bytes 8 0 ∷ (take 8 (drop 9 bytes) ++ (take 8 (drop 17 bytes) ++ drop 25 bytes))
split_numbers bytes long =
    let gate : drop 8 bytes ≡ get_or bytes 8 0 ∷ drop 9 bytes = drop_more bytes 8 0 (omega arith) in
    let one : drop 9 bytes ≡ take 8 (drop 9 bytes) ++ drop 17 bytes = sym (take-append-drop 8 (drop 9 bytes)) ∙ ap (λ (l : List ℕ). take 8 (drop 9 bytes) ++ l) (drop-drop 8 9 bytes) in
    let two : drop 17 bytes ≡ take 8 (drop 17 bytes) ++ drop 25 bytes = sym (take-append-drop 8 (drop 17 bytes)) ∙ ap (λ (l : List ℕ). take 8 (drop 17 bytes) ++ l) (drop-drop 8 17 bytes) in
    sym (take-append-drop 8 bytes)
    ∙ ap (λ (l : List ℕ). take 8 bytes ++ l) (gate ∙ ap (λ (l : List ℕ). get_or bytes 8 0 ∷ l) (one ∙ ap (λ (l : List ℕ). take 8 (drop 9 bytes) ++ l) two))

one_is : (n : ℕ) → (n == 1) ≡ true → n ≡ 1
one_is n is = grind (arith, nat_tests)

pub long_is : (bytes : List ℕ) → nat_lt 9 (length bytes) ≡ true → 9 < length bytes
long_is bytes is = grind (arith, nat_tests)

pub copy_parts : (bytes : List ℕ) → is_copy bytes ≡ true → (9 < length bytes) × ((is_second bytes ≡ true) × (area_gate bytes ≡ 1))
copy_parts bytes copy =
    let parts = and_parts (nat_lt 9 (length bytes)) _ copy in
    let marks = and_parts (is_second bytes) (area_gate bytes == 1) parts.1 in
    (long_is bytes parts.0, (marks.0, one_is (area_gate bytes) marks.1))

numbers_stand : (g count : ℕ) (rest bytes : List ℕ) → 25 ≤ length bytes → is_copy bytes ≡ true → take 8 (drop 9 bytes) ≡ to_le_bytes w64 g → take 8 (drop 17 bytes) ≡ to_le_bytes w64 count → drop 25 bytes ≡ rest → bytes ≡ area_mark ++ 1 ∷ (counts_bytes g count ++ rest)
numbers_stand g count rest bytes long copy one two behind =
    let parts = copy_parts bytes copy in
    let mark : take 8 bytes ≡ area_mark = same_text (take 8 bytes) area_mark (sym parts.1.0) in
    split_numbers bytes long
    ∙ ap (λ (l : List ℕ). l ++ get_or bytes 8 0 ∷ (take 8 (drop 9 bytes) ++ (take 8 (drop 17 bytes) ++ drop 25 bytes))) mark
    ∙ ap (λ (n : ℕ). area_mark ++ n ∷ (take 8 (drop 9 bytes) ++ (take 8 (drop 17 bytes) ++ drop 25 bytes))) parts.1.1
    ∙ ap (λ (l : List ℕ). area_mark ++ 1 ∷ (l ++ (take 8 (drop 17 bytes) ++ drop 25 bytes))) one
    ∙ ap (λ (l : List ℕ). area_mark ++ 1 ∷ (to_le_bytes w64 g ++ (l ++ drop 25 bytes))) two
    ∙ ap (λ (l : List ℕ). area_mark ++ 1 ∷ (to_le_bytes w64 g ++ (to_le_bytes w64 count ++ l))) behind

behind_front : (start : ℕ) (rest bytes : List ℕ) → start ≤ length bytes → bytes ≡ take start bytes ++ rest → drop start bytes ≡ rest
behind_front start rest bytes within is = ap (λ (l : List ℕ). drop start l) is ∙ drop_at (take start bytes) rest start (length-take-le start bytes within)

pub copy_stands : (g count : ℕ) (rs all : List (List ℕ)) (start tail gate : ℕ) (bytes : List ℕ) → is_copy bytes ≡ true → copy_generation bytes ≡ Ok g → 0 < g → g < 2 ^ 64 → take 8 (drop 9 bytes) ≡ to_le_bytes w64 g → 25 ≤ length bytes → count ≡ count_in bytes → count < 2 ^ 64 → take 8 (drop 17 bytes) ≡ to_le_bytes w64 count
    → AreRecords count rs start bytes → AreFrames start rs all tail gate bytes → AreaIs g all start tail gate bytes
copy_stands g count rs all start tail gate bytes copy generation some fits spelled numbers counted count_fits count_spelled records frames =
    let log : AreaLog = record { head = Version2 g rs; tail = frames.tail } in
    let x = flat_map frame_bytes frames.tail in
    let e = drop gate bytes in
    let parts = copy_parts bytes copy in
    let behind_records : drop start bytes ≡ x ++ e = behind_front start (x ++ e) bytes records.within (frames.front ∙ append_assoc (take start bytes) x e) in
    let behind_numbers : drop 25 bytes ≡ records_bytes rs ++ (x ++ e) =
    behind_front 25 (records_bytes rs ++ drop start bytes) bytes numbers (records.front ∙ append_assoc (take 25 bytes) (records_bytes rs) (drop start bytes)) ∙ ap (λ (l : List ℕ). records_bytes rs ++ l) behind_records in
    let file : bytes ≡ area_mark ++ 1 ∷ (counts_bytes g count ++ (records_bytes rs ++ (x ++ e))) = numbers_stand g count (records_bytes rs ++ (x ++ e)) bytes numbers copy spelled count_spelled behind_numbers in
    let front : bytes ≡ front_of log ++ e =
    file ∙ ap (λ (n : ℕ). area_mark ++ 1 ∷ (counts_bytes g n ++ (records_bytes rs ++ (x ++ e)))) records.counted
    ∙ ap (λ (l : List ℕ). area_mark ++ 1 ∷ l) (sym (append_assoc (counts_bytes g (length rs)) (records_bytes rs) (x ++ e)) ∙ sym (append_assoc (counts_bytes g (length rs) ++ records_bytes rs) x e)) in
    record {
      log = log;
      read = area_is_read 1 log e bytes (record { head = (some, (fits, (omega (arith, records.counted, count_fits), records.short))); short = frames.short }) (some_left gate bytes frames.within) frames.shut parts.0 front;
      valid = λ area from. record { head = (some, (fits, (omega (arith, records.counted, count_fits), records.short))); short = frames.short };
      numbered = λ _. generation;
      generation_is = refl;
      payloads_are = frames.added;
      starts = omega (arith, records.ends);
      counted = frames.counted;
      gate_is = omega (arith, frames.ends, records.ends, length-append (records_bytes rs) x);
      stands = inr (parts.0, record { front = front; within = frames.within; shut = frames.shut });
    }

-- a copy whose records end with it
pub gate_missing : (g count n : ℕ) (rs : List (List ℕ)) (start : ℕ) (bytes : List ℕ) → is_copy bytes ≡ true → copy_generation bytes ≡ Ok g → 25 ≤ length bytes → count ≡ count_in bytes → AreRecords count rs start bytes → start ≡ length bytes → start ≡ n → read_area bytes ≡ Err n
gate_missing g count n rs start bytes copy generation numbers counted records ended same =
    let parts = copy_parts bytes copy in
    let none : drop start bytes ≡ [] = nothing (drop start bytes) (omega (arith, length-drop start bytes, ended)) in
    let behind_numbers : drop 25 bytes ≡ records_bytes rs ++ [] =
    behind_front 25 (records_bytes rs ++ drop start bytes) bytes numbers (records.front ∙ append_assoc (take 25 bytes) (records_bytes rs) (drop start bytes)) ∙ ap (λ (l : List ℕ). records_bytes rs ++ l) none in
    let at : 25 + length (records_bytes rs) ≡ n = omega (arith, records.ends, same) in
    read_is_by bytes false false true (long_test bytes parts.0) (second_not_first bytes parts.1.0) copy
    ∙ ap (λ (r : Result ℕ ℕ). read_copy r bytes) generation
    ∙ ap (λ (l : List ℕ). log_from g [] (count_in bytes) 25 l) behind_numbers
    ∙ records_are_read g (count_in bytes) 0 25 [] rs [] records.short (omega (arith, records.counted, counted))
    ∙ ap (λ (k : ℕ). let refused : Result AreaLog ℕ = Err k in refused) at
  where
    nothing : (l : List ℕ) → length l ≡ 0 → l ≡ []
    nothing [] is = refl
    nothing (x ∷ xs) is = absurd (omega arith)

-- what is no log in a copy
pub copy_broken : (g n : ℕ) (bytes : List ℕ) → is_copy bytes ≡ true → copy_generation bytes ≡ Ok g → log_from g [] (count_in bytes) 25 (drop 25 bytes) ≡ Err n → read_area bytes ≡ Err n
copy_broken g n bytes copy generation broken =
    let parts = copy_parts bytes copy in
    read_is_by bytes false false true (long_test bytes parts.0) (second_not_first bytes parts.1.0) copy ∙ ap (λ (r : Result ℕ ℕ). read_copy r bytes) generation ∙ broken

pub tail_broken : (g count n : ℕ) (rs : List (List ℕ)) (start : ℕ) (bytes : List ℕ) → is_copy bytes ≡ true → copy_generation bytes ≡ Ok g → 25 ≤ length bytes → count ≡ count_in bytes → AreRecords count rs start bytes → start < length bytes → frames_from (length (drop start bytes)) start (drop start bytes) ≡ Err n → read_area bytes ≡ Err n
tail_broken g count n rs start bytes copy generation numbers counted records more broken =
    let behind_numbers : drop 25 bytes ≡ records_bytes rs ++ drop start bytes = behind_front 25 (records_bytes rs ++ drop start bytes) bytes numbers (records.front ∙ append_assoc (take 25 bytes) (records_bytes rs) (drop start bytes)) in
    let some : nat_lt 0 (length (drop start bytes)) ≡ true = positive (drop start bytes) (some_left start bytes more) in
    copy_broken g n bytes copy generation
    (ap (λ (l : List ℕ). log_from g [] (count_in bytes) 25 l) behind_numbers
    ∙ records_are_read g (count_in bytes) 0 25 [] rs (drop start bytes) records.short (omega (arith, records.counted, counted))
    ∙ ap (λ (k : ℕ). with_tail (Version2 g rs) (tail_from k (drop start bytes))) (sym records.ends)
    ∙ ap (λ (b : Bool). with_tail (Version2 g rs) (cond b (frames_from (length (drop start bytes)) start (drop start bytes)) (Err start))) some
    ∙ ap (with_tail (Version2 g rs)) broken)
  where
    positive : (l : List ℕ) → 0 < length l → nat_lt 0 (length l) ≡ true
    positive l some = grind (arith, nat_tests)

pub log_broken : (n : ℕ) (bytes : List ℕ) → 9 < length bytes → is_first bytes ≡ true → frames_from (length bytes) 8 (drop 8 bytes) ≡ Err n → read_area bytes ≡ Err n
log_broken n bytes long first broken = read_is_by bytes false true (is_copy bytes) (long_test bytes long) first refl ∙ ap (with_tail Version1) broken

pub other_broken : (n : ℕ) (bytes : List ℕ) → 9 < length bytes → is_first bytes ≡ false → is_copy bytes ≡ false → 0 ≡ n → read_area bytes ≡ Err n
other_broken n bytes long first copy is = read_is_by bytes false false false (long_test bytes long) first copy ∙ ap (λ (k : ℕ). let refused : Result AreaLog ℕ = Err k in refused) is

pub generation_broken : (n : ℕ) (bytes : List ℕ) → is_copy bytes ≡ true → copy_generation bytes ≡ Err n → read_area bytes ≡ Err n
generation_broken n bytes copy broken =
    let parts = copy_parts bytes copy in
    read_is_by bytes false false true (long_test bytes parts.0) (second_not_first bytes parts.1.0) copy ∙ ap (λ (r : Result ℕ ℕ). read_copy r bytes) broken
