-- Where the records and the frames of a log stand that is copied.
use Rattle.std.proofs.Common.{◌≡◌, ℕ, ◌+◌, ◌-◌, ◌<◌, ◌≤◌, ◌==◌, Bool, cond, false, Option, List, [], ◌∷◌, ◌++◌, length, drop, sym, ◌∙◌, ap, subst, arith, append_assoc, length-append}
use Rattle.std.proofs.lemmas.Bool.Decides.{nat_tests}
use Rattle.std.proofs.lemmas.List.{drop_at}
use Rattle.std.proofs.lemmas.Grind.{flat_map-append}
use Rattle.std.specs.List.{flat_map}
use Rattle.mdcc_log_file.specs.Log.{frame_body, frame_bytes}
use Rattle.mdcc_disks.specs.Disks.{DiskCall}
use Rattle.mdcc_disks.specs.Disks.DiskCall.{Write}
use Rattle.mdcc_log_file.specs.Crash.{AreShort}
use Rattle.mdcc_log_file.specs.Calls.{MadeSome, with_calls}
use Rattle.mdcc_log.specs.declared.checkpoint.Whole.{Whole}
use Rattle.mdcc_log_file.specs.Area.{Head, AreaLog, generation_of, records_of, payloads_of, records_bytes, counts_bytes, copy_body, head_bytes}
use Rattle.mdcc_log_file.specs.Area.Head.{Version1, Version2}
use Rattle.mdcc_log_file.specs.Copying.{IsSource, record_calls}
use Rattle.mdcc_log.specs.Crash.{IsHead, IsLog}
use Rattle.mdcc_log.specs.Checkpoint.{StandsAs}
use Rattle.mdcc_log.specs.Frames.{body_calls}
use Rattle.mdcc_log_file.proofs.Calls.{made_both, made_first}
use Rattle.mdcc_log_file.proofs.ReadCalls.{all_both}

records_short : (area : ℕ) (head : Head) → IsHead area head → AreShort (records_of head)
records_short area Version1 ok = tt
records_short area (Version2 g rs) ok = ok.1.1.1

pub both_short : (xs ys : List (List ℕ)) → AreShort xs → AreShort ys → AreShort (xs ++ ys)
both_short [] ys first second = second
both_short (x ∷ xs) ys first second = (first.0, both_short xs ys first.1 second)

pub payloads_short : (area : ℕ) (log : AreaLog) → IsLog area log → AreShort (payloads_of log)
payloads_short area log valid = both_short (records_of log.head) log.tail (records_short area log.head valid.head) valid.short

pub bodies_both : (xs ys : List (List ℕ)) → records_bytes (xs ++ ys) ≡ records_bytes xs ++ records_bytes ys
bodies_both xs ys = flat_map-append frame_body xs ys

pub sizes_both : (xs ys : List (List ℕ)) → length (records_bytes (xs ++ ys)) ≡ length (records_bytes xs) + length (records_bytes ys)
sizes_both xs ys = ap (λ (l : List ℕ). length l) (bodies_both xs ys) ∙ length-append (records_bytes xs) (records_bytes ys)

-- what stands behind the head's own numbers
record HeadAt (head_at : ℕ) (head : Head) (e bytes : List ℕ) : Type 0 where
  pub stands : drop head_at bytes ≡ records_bytes (records_of head) ++ e
  pub ends : head_at + length (records_bytes (records_of head)) ≡ length (head_bytes head)

head_stands : (area : ℕ) (head : Head) (e bytes : List ℕ) (at : ℕ) → IsHead area head → at ≡ cond (generation_of head == 0) 8 25 → bytes ≡ head_bytes head ++ e → HeadAt at head e bytes
head_stands area Version1 e bytes at ok is stands = record {
  stands = ap (λ (n : ℕ). drop n bytes) is ∙ ap (λ (l : List ℕ). drop 8 l) stands;
  ends = ap (λ (n : ℕ). n + 0) is;
}
head_stands area (Version2 g rs) e bytes at ok is stands =
    let at_25 : at ≡ 25 = is ∙ ap (λ (b : Bool). cond b 8 25) (not_zero g ok.0) in
    record {
      stands = ap (λ (n : ℕ). drop n bytes) at_25 ∙ ap (λ (l : List ℕ). drop 25 l) stands;
      ends = omega (arith, at_25);
    }
  where
    not_zero : (n : ℕ) → 0 < n → (n == 0) ≡ false
    not_zero n some = grind (arith, nat_tests)

module _ {whole : Whole} {log : AreaLog} {bytes : List ℕ} (stands : StandsAs whole log bytes) where
  behind_head : List ℕ
  behind_head = flat_map frame_bytes log.tail ++ 0 ∷ []

  whole_file : bytes ≡ head_bytes log.head ++ (flat_map frame_bytes log.tail ++ 0 ∷ [])
  whole_file = stands.file ∙ append_assoc (head_bytes log.head) (flat_map frame_bytes log.tail) (0 ∷ [])

  head_at : HeadAt whole.head log.head (flat_map frame_bytes log.tail ++ 0 ∷ []) bytes
  head_at = head_stands stands.area log.head (flat_map frame_bytes log.tail ++ 0 ∷ []) bytes whole.head stands.valid.head stands.head_is whole_file

  pub records_source : IsSource 0 whole.head whole.start (25 + whole.body - 25) (whole.count - whole.tail) (records_of log.head) bytes
  records_source = record {
    rest = flat_map frame_bytes log.tail ++ 0 ∷ [];
    stand = head_at.stands;
    counted = omega (arith, stands.count_is, stands.tail_is, length-append (records_of log.head) log.tail);
    short = records_short stands.area log.head stands.valid.head;
    ends = at_start (length (records_bytes (records_of log.head))) (length (head_bytes log.head)) head_at.ends stands.start_is;
    fits = in_room (length (records_bytes (records_of log.head))) (length (records_bytes log.tail)) (stands.body_is ∙ sizes_both (records_of log.head) log.tail);
  }
    where
      at_start : (n m : ℕ) → whole.head + n ≡ m → whole.start ≡ m → whole.head + n ≤ whole.start
      at_start n m is same = omega arith

      in_room : (n m : ℕ) → whole.body ≡ n + m → n ≤ 25 + whole.body - 25
      in_room n m is = omega arith

  pub frames_source : (middle : ℕ) → middle ≡ 25 + length (records_bytes (records_of log.head)) → IsSource 1 whole.start whole.end (25 + whole.body - middle) whole.tail log.tail bytes
  frames_source middle is = record {
    rest = 0 ∷ [];
    stand = ap (λ (l : List ℕ). drop whole.start l) whole_file ∙ drop_at (head_bytes log.head) (flat_map frame_bytes log.tail ++ 0 ∷ []) whole.start (sym stands.start_is);
    counted = stands.tail_is;
    short = stands.valid.short;
    ends = at_end (length (flat_map frame_bytes log.tail)) (length (head_bytes log.head)) (stands.end_is ∙ length-append (head_bytes log.head) (flat_map frame_bytes log.tail)) stands.start_is;
    fits = in_room (length (records_bytes (records_of log.head))) (length (records_bytes log.tail)) (stands.body_is ∙ sizes_both (records_of log.head) log.tail) is;
  }
    where
      at_end : (n m : ℕ) → whole.end ≡ m + n → whole.start ≡ m → whole.start + n ≤ whole.end
      at_end n m is' same = omega arith

      in_room : (n m : ℕ) → whole.body ≡ n + m → middle ≡ 25 + n → m ≤ 25 + whole.body - middle
      in_room n m all at = omega arith

  pub size_of_all : (middle end : ℕ) → middle ≡ 25 + length (records_bytes (records_of log.head)) → end ≡ middle + length (records_bytes log.tail) → end ≡ 25 + length (records_bytes (payloads_of log))
  size_of_all middle end first second = omega (arith, first, second, sizes_both (records_of log.head) log.tail)

-- first the records and then the frames' payloads
pub copied_both : (log : AreaLog) (old mid new : List ℕ) → mid ≡ old ++ records_bytes (records_of log.head) → new ≡ mid ++ records_bytes log.tail → new ≡ old ++ records_bytes (payloads_of log)
copied_both log old mid new first second =
    second ∙ ap (λ (l : List ℕ). l ++ records_bytes log.tail) first ∙ append_assoc old (records_bytes (records_of log.head)) (records_bytes log.tail)
    ∙ ap (λ (l : List ℕ). old ++ l) (sym (bodies_both (records_of log.head) log.tail))

-- the body of a copy in three parts
pub body_written : (generation count : ℕ) (ps : List (List ℕ)) (old one two new : List ℕ) → count ≡ length ps → one ≡ old ++ counts_bytes generation count → two ≡ one ++ records_bytes ps → new ≡ two ++ 0 ∷ [] → new ≡ old ++ (copy_body generation ps ++ 0 ∷ [])
body_written generation count ps old one two new counted first second third =
    third ∙ ap (λ (l : List ℕ). l ++ 0 ∷ []) (second ∙ ap (λ (l : List ℕ). l ++ records_bytes ps) (first ∙ ap (λ (n : ℕ). old ++ counts_bytes generation n) counted) ∙ append_assoc old (counts_bytes generation (length ps)) (records_bytes ps))
    ∙ append_assoc old (copy_body generation ps) (0 ∷ [])

-- ---- the calls that write a body

module _ (generation : ℕ) (ps : List (List ℕ)) (written : List ℕ) (is : written ≡ counts_bytes generation (length ps)) (old : Option (List DiskCall)) where
  abbrev behind_counts : List DiskCall
  behind_counts = record_calls 25 ps ++ Write (25 + length (records_bytes ps)) (0 ∷ []) ∷ []

  pub body_begun : (new : Option (List DiskCall)) → MadeSome (Write 9 written ∷ []) old new → MadeSome (body_calls generation ps) old new
  body_begun new some = subst (λ (b : List ℕ). MadeSome (Write 9 b ∷ behind_counts) old new) is (made_first (Write 9 written ∷ []) behind_counts old new some)

  body_after : (one new : Option (List DiskCall)) → one ≡ with_calls (Write 9 written ∷ []) old → MadeSome behind_counts one new → MadeSome (body_calls generation ps) old new
  body_after one new first some = subst (λ (b : List ℕ). MadeSome (Write 9 b ∷ behind_counts) old new) is (made_both (Write 9 written ∷ []) behind_counts old one new first some)

  pub body_middle : (one new : Option (List DiskCall)) → one ≡ with_calls (Write 9 written ∷ []) old → MadeSome (record_calls 25 ps) one new → MadeSome (body_calls generation ps) old new
  body_middle one new first some = body_after one new first (made_first (record_calls 25 ps) (Write (25 + length (records_bytes ps)) (0 ∷ []) ∷ []) one new some)

  pub body_ending : (end : ℕ) (one two new : Option (List DiskCall)) → end ≡ 25 + length (records_bytes ps) → one ≡ with_calls (Write 9 written ∷ []) old → two ≡ with_calls (record_calls 25 ps) one → MadeSome (Write end (0 ∷ []) ∷ []) two new → MadeSome (body_calls generation ps) old new
  body_ending end one two new at first second some =
      body_after one new first (made_both (record_calls 25 ps) (Write (25 + length (records_bytes ps)) (0 ∷ []) ∷ []) one two new second (subst (λ (n : ℕ). MadeSome (Write n (0 ∷ []) ∷ []) two new) at some))

  pub body_ended : (end : ℕ) (one two new : Option (List DiskCall)) → end ≡ 25 + length (records_bytes ps) → one ≡ with_calls (Write 9 written ∷ []) old → two ≡ with_calls (record_calls 25 ps) one → new ≡ with_calls (Write end (0 ∷ []) ∷ []) two → new ≡ with_calls (body_calls generation ps) old
  body_ended end one two new at first second third =
      all_both (Write 9 written ∷ []) behind_counts old one new first (all_both (record_calls 25 ps) (Write (25 + length (records_bytes ps)) (0 ∷ []) ∷ []) one two new second (third ∙ ap (λ (n : ℕ). with_calls (Write n (0 ∷ []) ∷ []) two) at))
      ∙ ap (λ (b : List ℕ). with_calls (Write 9 b ∷ behind_counts) old) is
