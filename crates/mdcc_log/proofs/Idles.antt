-- What opening keeps of the area that is not in use.
use Rattle.std.proofs.Common.{◌≡◌, inl, inr, ℕ, ◌<◌, ◌≤◌, nat_lt, nat_eq, true, false, List, [], ◌∷◌, ◌++◌, length, take, drop, sym, ◌∙◌, ap, subst, arith, append_assoc, length-append}
use Rattle.std.specs.Cmp.Lexicographic.{pointwise}
use Rattle.std.specs.Int.{w64, from_le_bytes}
use Rattle.std.proofs.lemmas.Bool.{and_parts, and_right, false≢true}
use Rattle.std.proofs.lemmas.List.{take_at, drop_at, length-take-le, length-drop}
use Rattle.mdcc_log_file.specs.Area.{AreaLog, area_mark, generation_of, area_gate, generation_in, is_second, is_torn, with_gate}
use Rattle.mdcc_log.specs.Crash.{IsDead, IsOlder, IsCopy, IsIdle}
use Rattle.mdcc_log.specs.Frames.{packed}
use Rattle.mdcc_log.specs.Repair.{MayClose}
use Rattle.mdcc_log.specs.Opening.{MayTake}
use Rattle.mdcc_log.proofs.Stands.{long_is}
use Rattle.mdcc_log.proofs.Choice.{TakenCopy}
use Rattle.mdcc_log.proofs.Keeps.{not_torn, short_not_torn, end_stays}

pub torn_is_long : (bytes : List ℕ) → is_torn bytes ≡ true → 9 < length bytes
torn_is_long bytes torn = long_is bytes (and_parts (nat_lt 9 (length bytes)) _ torn).0

shut_not_torn : (bytes : List ℕ) → area_gate bytes ≡ 0 → is_torn bytes ≡ false
shut_not_torn bytes shut = and_right (nat_lt 9 (length bytes)) _ (and_right (is_second bytes) _ (ap (λ (n : ℕ). nat_lt 1 n) shut))

-- another area gate leaves all else
pub gate_mark : (gate : ℕ) (bytes : List ℕ) → 8 ≤ length bytes → take 8 (with_gate gate bytes) ≡ take 8 bytes
gate_mark gate bytes long = take_at (take 8 bytes) (gate ∷ drop 9 bytes) 8 (length-take-le 8 bytes long)

gate_behind : (gate : ℕ) (bytes : List ℕ) → 8 ≤ length bytes → drop 9 (with_gate gate bytes) ≡ drop 9 bytes
gate_behind gate bytes long =
    ap (λ (l : List ℕ). drop 9 l) (sym (append_assoc (take 8 bytes) (gate ∷ []) (drop 9 bytes)))
    ∙ drop_at (take 8 bytes ++ gate ∷ []) (drop 9 bytes) 9 (omega (arith, length-append (take 8 bytes) (gate ∷ []), length-take-le 8 bytes long))

gate_size : (gate : ℕ) (bytes : List ℕ) → 9 ≤ length bytes → length (with_gate gate bytes) ≡ length bytes
gate_size gate bytes long = omega (arith, length-append (take 8 bytes) (gate ∷ drop 9 bytes), length-take-le 8 bytes (omega arith), length-drop 9 bytes)

pub older_gate : (g gate : ℕ) (bytes : List ℕ) → IsOlder g bytes → IsOlder g (with_gate gate bytes)
older_gate g gate bytes older =
    let long : 25 ≤ length bytes = older.long in
    let numbers : generation_in (with_gate gate bytes) ≡ generation_in bytes = ap (λ (l : List ℕ). from_le_bytes w64 (take 8 l)) (gate_behind gate bytes (omega arith)) in
    record {
      marked = ap (λ (l : List ℕ). pointwise nat_eq l area_mark) (gate_mark gate bytes (omega arith)) ∙ older.marked;
      long = omega (arith, gate_size gate bytes (omega arith));
      some = omega (arith, numbers, older.some);
      older = omega (arith, numbers, older.older);
    }

pub copy_gate : (log : AreaLog) (gate : ℕ) (bytes : List ℕ) → IsCopy log bytes → IsCopy log (with_gate gate bytes)
copy_gate log gate bytes copy = record {
  generation = copy.generation;
  count = copy.count;
  short = copy.short;
  gate = gate;
  file = ap (λ (l : List ℕ). with_gate gate l) copy.file;
}

pub dead_stays : (bytes : List ℕ) (Q : Type 0) → IsDead bytes → is_torn bytes ≡ true → Q
dead_stays bytes Q (inl few) torn = absurd (false≢true (sym (short_not_torn bytes few) ∙ torn))
dead_stays bytes Q (inr (inl unmarked)) torn = absurd (false≢true (sym (not_torn bytes unmarked) ∙ torn))
dead_stays bytes Q (inr (inr shut)) torn = absurd (false≢true (sym (shut_not_torn bytes shut) ∙ torn))

gate_idle : (log : AreaLog) (gate : ℕ) (bytes : List ℕ) → is_torn bytes ≡ true → IsIdle log bytes → IsIdle log (with_gate gate bytes)
gate_idle log gate bytes torn (inl dead) = dead_stays bytes (IsIdle log (with_gate gate bytes)) dead torn
gate_idle log gate bytes torn (inr (inl older)) = inr (inl (older_gate (generation_of log.head) gate bytes older))
gate_idle log gate bytes torn (inr (inr copy)) = inr (inr (copy_gate log gate bytes copy))

pub idle_closed_stays : {tears : ℕ → Type 0} (log : AreaLog) (bytes c : List ℕ) → IsIdle log bytes → MayClose tears bytes c → IsIdle log c
idle_closed_stays log bytes c idle (inl same) = subst (IsIdle log) (sym same) idle
idle_closed_stays log bytes c idle (inr change) = subst (IsIdle log) (sym change.is) (gate_idle log change.becomes bytes change.torn idle)

-- a copy that is taken ends with its last gate
pub copy_taken_stays : {tears : ℕ → Type 0} (log : AreaLog) (bytes c : List ℕ) → TakenCopy log bytes → MayTake tears bytes c → c ≡ bytes
copy_taken_stays log bytes c copy may = end_stays (packed log) bytes c copy.read copy.stands may copy.long
