-- What is read of an area that was written.
use Rattle.std.proofs.Common.{◌≡◌, ◌≢◌, ℕ, zero, suc, ◌+◌, ◌-◌, ◌^◌, ◌<◌, ◌≤◌, ◌==◌, ◌&&◌, nat_le, nat_lt, nat_eq, Bool, cond, true, false, List, [], ◌∷◌, ◌++◌, length, take, drop, Ok, Err, Result, sym, ◌∙◌, ap, refl, arith, append_assoc, length-append}
use Rattle.std.specs.Cmp.Lexicographic.{pointwise, same_text}
use Rattle.std.proofs.lemmas.Bool.{and_left, and_right}
use Rattle.std.proofs.lemmas.Bool.Decides.{nat_tests}
use Rattle.std.proofs.lemmas.Nat.{from_le_bytes-to_le_bytes_8}
use Rattle.std.proofs.lemmas.List.{append-nil}
use Rattle.std.specs.List.{flat_map}
use Rattle.mdcc_log_file.specs.Log.{log_mark, frame_bytes, is_open, frames_from, behind}
use Rattle.mdcc_log_file.specs.Crash.{AreShort}
use Rattle.mdcc_log_file.proofs.LogRead.{frames_are_read, frames_are_long}
use Rattle.mdcc_log_file.specs.Area.{Head, AreaLog, area_mark, records_bytes, copy_body, head_bytes, front_of, is_first, is_second, area_gate, is_copy, is_log, generation_in, count_in, copy_generation, with_tail, tail_from, log_from, fresh, read_copy, read_area}
use Rattle.mdcc_log_file.specs.Area.Head.{Version1, Version2}
use Rattle.mdcc_log.specs.Crash.{IsHead, IsLog}
use Rattle.mdcc_log_file.proofs.Records.{records_are_read}

-- ---- tests

pub long_test : (bytes : List ℕ) → 9 < length bytes → nat_le (length bytes) 9 ≡ false
long_test bytes long = grind (arith, nat_tests)

pub longer_test : (bytes : List ℕ) → 9 < length bytes → nat_lt 9 (length bytes) ≡ true
longer_test bytes long = grind (arith, nat_tests)

pub short_test : (bytes : List ℕ) → length bytes ≤ 9 → nat_lt 9 (length bytes) ≡ false
short_test bytes short = grind (arith, nat_tests)

pub shorter_test : (bytes : List ℕ) → length bytes ≤ 9 → nat_le (length bytes) 9 ≡ true
shorter_test bytes short = grind (arith, nat_tests)

-- an area has one mark
pub second_not_first : (bytes : List ℕ) → is_second bytes ≡ true → is_first bytes ≡ false
second_not_first bytes marked = ap (λ (l : List ℕ). pointwise nat_eq l log_mark) (same_text (take 8 bytes) area_mark (sym marked))

pub first_not_second : (bytes : List ℕ) → is_first bytes ≡ true → is_second bytes ≡ false
first_not_second bytes marked = ap (λ (l : List ℕ). pointwise nat_eq l area_mark) (same_text (take 8 bytes) log_mark (sym marked))

pub is_copy_from : (bytes : List ℕ) → 9 < length bytes → is_second bytes ≡ true → area_gate bytes ≡ 1 → is_copy bytes ≡ true
is_copy_from bytes long marked opened = rw (longer_test bytes long, marked, opened) refl

pub is_log_from : (bytes : List ℕ) → 9 < length bytes → is_first bytes ≡ true → is_log bytes ≡ true
is_log_from bytes long marked = rw (longer_test bytes long, marked) refl

pub unmarked_no_copy : (bytes : List ℕ) → is_second bytes ≡ false → is_copy bytes ≡ false
unmarked_no_copy bytes unmarked = and_right (nat_lt 9 (length bytes)) (is_second bytes && area_gate bytes == 1) (and_left (is_second bytes) (area_gate bytes == 1) unmarked)

pub short_no_copy : (bytes : List ℕ) → length bytes ≤ 9 → is_copy bytes ≡ false
short_no_copy bytes short = rw (short_test bytes short) refl

pub short_no_log : (bytes : List ℕ) → length bytes ≤ 9 → is_log bytes ≡ false
short_no_log bytes short = rw (short_test bytes short) refl

pub second_no_log : (bytes : List ℕ) → is_second bytes ≡ true → is_log bytes ≡ false
second_no_log bytes marked = and_right (nat_lt 9 (length bytes)) (is_first bytes) (second_not_first bytes marked)

pub shut_no_copy : (bytes : List ℕ) → area_gate bytes ≢ 1 → is_copy bytes ≡ false
shut_no_copy bytes other = and_right (nat_lt 9 (length bytes)) (is_second bytes && area_gate bytes == 1) (and_right (is_second bytes) (area_gate bytes == 1) (not_one (area_gate bytes) other))
  where
    not_one : (n : ℕ) → n ≢ 1 → (n == 1) ≡ false
    not_one n other = grind (arith, nat_tests)

-- the generation of a copy
pub generation_is : (bytes : List ℕ) (g : ℕ) → 25 ≤ length bytes → generation_in bytes ≡ g → 0 < g → copy_generation bytes ≡ Ok g
generation_is bytes g long is some =
    let one : nat_lt (length bytes) 17 ≡ false = grind (arith, nat_tests) in
    let two : nat_lt (length bytes) 25 ≡ false = grind (arith, nat_tests) in
    let three : (g == 0) ≡ false = grind (arith, nat_tests) in
    rw (one, two, is, three) refl

-- ---- frames and records

end_is_read : (most offset : ℕ) (e : List ℕ) → is_open e ≡ false → frames_from most offset e ≡ Ok []
end_is_read zero offset e shut = refl
end_is_read (suc most) offset e shut = rw shut refl

pub tail_is_read : (tail : List (List ℕ)) (e : List ℕ) (most offset : ℕ) → AreShort tail → 0 < length e → is_open e ≡ false → length (flat_map frame_bytes tail ++ e) ≤ most → frames_from most offset (flat_map frame_bytes tail ++ e) ≡ Ok tail
tail_is_read tail e most offset short more shut enough =
    let left = most - length tail in
    frames_are_read tail e most left offset short more (omega (arith, enough, frames_are_long tail, length-append (flat_map frame_bytes tail) e))
    ∙ ap (behind tail) (end_is_read left (offset + length (flat_map frame_bytes tail)) e shut)
    ∙ ap (λ (l : List (List ℕ)). Ok l) (append-nil tail)

pub tail_stands : (tail : List (List ℕ)) (e : List ℕ) (offset : ℕ) → AreShort tail → 0 < length e → is_open e ≡ false → tail_from offset (flat_map frame_bytes tail ++ e) ≡ Ok tail
tail_stands tail e offset short more shut =
    let rest = flat_map frame_bytes tail ++ e in
    let some : nat_lt 0 (length rest) ≡ true = positive rest (omega (arith, more, length-append (flat_map frame_bytes tail) e)) in
    ap (λ (b : Bool). cond b (frames_from (length rest) offset rest) (Err offset)) some ∙ tail_is_read tail e (length rest) offset short more shut (omega arith)
  where
    positive : (l : List ℕ) → 0 < length l → nat_lt 0 (length l) ≡ true
    positive l some = grind (arith, nat_tests)

-- ---- the numbers of a copy

module _ (gate g : ℕ) (rs : List (List ℕ)) (e : List ℕ) where
  abbrev copied : List ℕ
  copied = area_mark ++ gate ∷ (copy_body g rs ++ e)

  pub copy_marked : is_second copied ≡ true
  copy_marked = refl

  pub copy_numbered : g < 2 ^ 64 → generation_in copied ≡ g
  copy_numbered fits = from_le_bytes-to_le_bytes_8 g fits

  pub copy_counted : length rs < 2 ^ 64 → count_in copied ≡ length rs
  copy_counted fits = from_le_bytes-to_le_bytes_8 (length rs) fits

  pub copy_long : 25 ≤ length copied
  copy_long = omega (arith, length-append (records_bytes rs) e)

  pub copy_rest : drop 25 copied ≡ records_bytes rs ++ e
  copy_rest = refl

-- by what the tests answer
abbrev pub read_by : Bool → Bool → Bool → List ℕ → Result AreaLog ℕ
read_by short first copy bytes =
    cond short (Ok fresh) (cond first (with_tail Version1 (frames_from (length bytes) 8 (drop 8 bytes))) (cond copy (read_copy (copy_generation bytes) bytes) (Err 0)))

pub read_is_by : (bytes : List ℕ) (short first copy : Bool) → nat_le (length bytes) 9 ≡ short → is_first bytes ≡ first → is_copy bytes ≡ copy → read_area bytes ≡ read_by short first copy bytes
read_is_by bytes short first copy a b c =
    ap (λ (x : Bool). read_by x (is_first bytes) (is_copy bytes) bytes) a ∙ ap (λ (x : Bool). read_by short x (is_copy bytes) bytes) b ∙ ap (λ (x : Bool). read_by short first x bytes) c

-- a log that was written is read
pub area_is_read : (area : ℕ) (log : AreaLog) (e bytes : List ℕ) → IsLog area log → 0 < length e → is_open e ≡ false → 9 < length bytes → bytes ≡ front_of log ++ e → read_area bytes ≡ Ok log
area_is_read area log e bytes valid more shut long is = by_head log.head log.tail valid.head valid.short is
  where
    first_read : (tail : List (List ℕ)) → AreShort tail → bytes ≡ log_mark ++ (flat_map frame_bytes tail ++ e) → read_area bytes ≡ Ok (record { head = Version1; tail = tail })
    first_read tail short stands =
        let rest : drop 8 bytes ≡ flat_map frame_bytes tail ++ e = ap (λ (l : List ℕ). drop 8 l) stands in
        read_is_by bytes false true (is_copy bytes) (long_test bytes long) (ap is_first stands) refl
        ∙ ap (λ (l : List ℕ). with_tail Version1 (frames_from (length bytes) 8 l)) rest
        ∙ ap (with_tail Version1) (tail_is_read tail e (length bytes) 8 short more shut (omega (arith, ap (λ (l : List ℕ). length l) stands)))

    second_read : (g : ℕ) (rs tail : List (List ℕ)) → 0 < g → g < 2 ^ 64 → length rs < 2 ^ 64 → AreShort rs → AreShort tail → bytes ≡ area_mark ++ 1 ∷ (copy_body g rs ++ (flat_map frame_bytes tail ++ e)) → read_area bytes ≡ Ok (record { head = Version2 g rs; tail = tail })
    second_read g rs tail some fits counted short_rs short stands =
        let x = flat_map frame_bytes tail ++ e in
        let numbers : 25 ≤ length bytes = omega (arith, ap (λ (l : List ℕ). length l) stands, copy_long 1 g rs x) in
        read_is_by bytes false false true (long_test bytes long) (ap is_first stands) (is_copy_from bytes long (ap is_second stands) (ap area_gate stands))
        ∙ ap (λ (r : Result ℕ ℕ). read_copy r bytes) (generation_is bytes g numbers (ap generation_in stands ∙ copy_numbered 1 g rs x fits) some)
        ∙ ap (λ (l : List ℕ). log_from g [] (count_in l) 25 (drop 25 l)) stands
        ∙ ap (λ (n : ℕ). log_from g [] n 25 (records_bytes rs ++ x)) (copy_counted 1 g rs x counted)
        ∙ records_are_read g (length rs) 0 25 [] rs x short_rs (omega arith)
        ∙ ap (with_tail (Version2 g rs)) (tail_stands tail e (25 + length (records_bytes rs)) short more shut)

    by_head : (head : Head) (tail : List (List ℕ)) → IsHead area head → AreShort tail → bytes ≡ (head_bytes head ++ flat_map frame_bytes tail) ++ e → read_area bytes ≡ Ok (record { head = head; tail = tail })
    by_head Version1 tail ok short stands = first_read tail short stands
    by_head (Version2 g rs) tail ok short stands =
        second_read g rs tail ok.0 ok.1.0 ok.1.1.0 ok.1.1.1 short (stands ∙ ap (λ (l : List ℕ). area_mark ++ 1 ∷ l) (append_assoc (copy_body g rs) (flat_map frame_bytes tail) e))
