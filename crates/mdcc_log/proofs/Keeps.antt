-- What opening keeps of what a crash left.
use Rattle.std.proofs.Common.{◌≡◌, inl, inr, ℕ, ◌+◌, ◌<◌, ◌≤◌, ◌&&◌, nat_lt, Bool, false, List, [], ◌∷◌, ◌++◌, length, get_or, take, drop, Ok, sym, ◌∙◌, ap, refl, subst, arith, append_assoc, length-append}
use Rattle.std.proofs.Math.Seq.{take-append_seam, get_or-append_seam}
use Rattle.std.proofs.lemmas.Bool.{cases_eq, and_right, false≢true}
use Rattle.std.proofs.lemmas.List.{drop_at}
use Rattle.std.specs.List.{flat_map}
use Rattle.mdcc_log_file.specs.Log.{frame_body, frame_bytes}
use Rattle.mdcc_log_file.specs.Crash.{MayRepair}
use Rattle.mdcc_log_file.proofs.LogRead.{short_more}
use Rattle.mdcc_log_file.specs.Area.{Head, AreaLog, head_bytes, front_of, area_gate, is_second, is_torn, read_area}
use Rattle.mdcc_log_file.specs.Area.Head.{Version1, Version2}
use Rattle.mdcc_log.specs.Crash.{IsLog, IsCurrent, IsUndecided, IsBetween}
use Rattle.mdcc_log.specs.Frames.{appended}
use Rattle.mdcc_log.specs.Repair.{MaySettle, MayClose}
use Rattle.mdcc_log.specs.Opening.{MayTake}
use Rattle.mdcc_log.proofs.AreaRead.{short_test}
use Rattle.mdcc_log.proofs.Choice.{few_bytes, front_is_read, current_read, appended_front}

pub same_log : (one two : AreaLog) (bytes : List ℕ) → read_area bytes ≡ Ok one → read_area bytes ≡ Ok two → one ≡ two
same_log one two bytes first second = cc

-- ---- where the last gate stands

record Gated (front : List ℕ) (gate : ℕ) (bytes : List ℕ) (at_gate : ℕ) (rest : List ℕ) : Type 0 where
  pub before : take gate bytes ≡ front
  pub at : get_or bytes gate 0 ≡ at_gate
  pub behind : drop (gate + 1) bytes ≡ rest
  pub size : length bytes ≡ gate + 1 + length rest

gated : (front : List ℕ) (gate : ℕ) (bytes : List ℕ) (x : ℕ) (xs : List ℕ) → bytes ≡ front ++ x ∷ xs → gate ≡ length front → Gated front gate bytes x xs
gated front gate bytes x xs e m = record {
  before = ap (λ (k : ℕ). take k bytes) m ∙ ap (λ (l : List ℕ). take (length front) l) e ∙ take-append_seam front (x ∷ xs);
  at = ap (λ (k : ℕ). get_or bytes k 0) m ∙ ap (λ (l : List ℕ). get_or l (length front) 0) e ∙ get_or-append_seam front x xs 0;
  behind = ap (λ (k : ℕ). drop (k + 1) bytes) m ∙ ap (λ (l : List ℕ). drop (length front + 1) l) e ∙ past front;
  size = omega (arith, ap (λ (l : List ℕ). length l) e, length-append front (x ∷ xs), m);
}
  where
    past : (l : List ℕ) → drop (length l + 1) (l ++ x ∷ xs) ≡ xs
    past l = ap (λ (k : List ℕ). drop (length l + 1) k) (sym (append_assoc l (x ∷ []) xs)) ∙ drop_at (l ++ x ∷ []) xs (length l + 1) (length-append l (x ∷ []))

-- ---- the area in use

short_current : (area : ℕ) (log : AreaLog) (bytes c : List ℕ) → IsCurrent area log bytes → length bytes ≤ 9 → length c ≤ 9 → IsCurrent area log c
short_current area log bytes c is few short = elim is.file [
  | inl begun ↦ record { valid = is.valid; file = inl (begun.0, (begun.1.0, short)) }
  | inr shut ↦
      let begun = few_bytes log (0 ∷ shut.0) (omega arith) (subst (λ (l : List ℕ). length l ≤ 9) shut.1 few) in
      record { valid = is.valid; file = inl (begun.0, (begun.1, short)) }
]

shut_repaired : {tears : ℕ → Type 0} (area : ℕ) (log : AreaLog) (gate : ℕ) (bytes rest c : List ℕ) → IsCurrent area log bytes → Gated (front_of log) gate bytes 0 rest → MayRepair tears gate bytes c → IsCurrent area log c
shut_repaired area log gate bytes rest c is there (inl same) = subst (IsCurrent area log) (sym same) is
shut_repaired area log gate bytes rest c is there (inr (inl change)) = absurd (change.was there.at)
shut_repaired area log gate bytes rest c is there (inr (inr change)) =
    record { valid = is.valid; file = inr (change.rest, change.is ∙ ap (λ (l : List ℕ). l ++ 0 ∷ change.rest) there.before) }

current_settled : {tears : ℕ → Type 0} (area : ℕ) (log : AreaLog) (bytes c : List ℕ) → IsCurrent area log bytes → MaySettle tears (length (front_of log)) bytes c → IsCurrent area log c
current_settled area log bytes c is (inl short) = short_current area log bytes c is short.0 short.1
current_settled area log bytes c is (inr long) = elim is.file [
  | inl begun ↦ absurd (omega (arith, begun.1.1, long.0))
  | inr shut ↦ shut_repaired area log (length (front_of log)) bytes shut.0 c is (gated (front_of log) (length (front_of log)) bytes 0 shut.0 shut.1 refl) long.1
]

pub current_taken_stays : {tears : ℕ → Type 0} (area : ℕ) (log : AreaLog) (bytes c : List ℕ) → IsCurrent area log bytes → MayTake tears bytes c → IsCurrent area log c
current_taken_stays area log bytes c is (inl same) = subst (IsCurrent area log) (sym same) is
current_taken_stays {tears} area log bytes c is (inr change) =
    current_settled area log bytes c is (subst (λ (l : AreaLog). MaySettle tears (length (front_of l)) bytes c) (same_log change.0 log bytes change.1.0 (current_read area log bytes is)) change.1.1)

-- with its gate open, it is a log of one more
open_is_more : (area : ℕ) (log : AreaLog) (p bytes : List ℕ) (u : IsUndecided area log p bytes) → u.gate ≡ 1 → bytes ≡ front_of (appended log p) ++ 0 ∷ []
open_is_more area log p bytes u opened = u.file ∙ ap (λ (n : ℕ). front_of log ++ n ∷ (frame_body p ++ 0 ∷ [])) opened ∙ sym (appended_front log p (0 ∷ []))

pub more_valid : (area : ℕ) (log : AreaLog) (p : List ℕ) → IsLog area log → length p ≤ 2097152 → IsLog area (appended log p)
more_valid area log p valid fits = record { head = valid.head; short = short_more log.tail p valid.short fits }

undecided_long : (area : ℕ) (log : AreaLog) (p bytes : List ℕ) → IsUndecided area log p bytes → 9 < length bytes
undecided_long area log p bytes u = by_head log.head (ap (λ (l : List ℕ). length l) u.file)
  where
    by_head : (head : Head) → length bytes ≡ length ((head_bytes head ++ flat_map frame_bytes log.tail) ++ u.gate ∷ (frame_body p ++ 0 ∷ [])) → 9 < length bytes
    by_head Version1 is = omega (arith, is, length-append (flat_map frame_bytes log.tail) (u.gate ∷ (frame_body p ++ 0 ∷ [])), length-append (frame_body p) (0 ∷ []))
    by_head (Version2 g rs) is = omega (arith, is, length-append (flat_map frame_body rs ++ flat_map frame_bytes log.tail) (u.gate ∷ (frame_body p ++ 0 ∷ [])), length-append (frame_body p) (0 ∷ []))

opened_repaired : {tears : ℕ → Type 0} (area : ℕ) (log : AreaLog) (p : List ℕ) (gate : ℕ) (bytes c : List ℕ) → IsUndecided area log p bytes → Gated (front_of (appended log p)) gate bytes 0 [] → MayRepair tears gate bytes c → IsBetween area log p c
opened_repaired area log p gate bytes c u there (inl same) = inr (subst (IsUndecided area log p) (sym same) u)
opened_repaired area log p gate bytes c u there (inr (inl change)) = absurd (change.was there.at)
opened_repaired area log p gate bytes c u there (inr (inr change)) = absurd (omega (arith, change.longer, there.size))

undecided_repaired : {tears : ℕ → Type 0} (area : ℕ) (log : AreaLog) (p : List ℕ) (gate : ℕ) (bytes c : List ℕ) (u : IsUndecided area log p bytes) → Gated (front_of log) gate bytes u.gate (frame_body p ++ 0 ∷ []) → MayRepair tears gate bytes c → IsBetween area log p c
undecided_repaired area log p gate bytes c u there (inl same) = inr (subst (IsUndecided area log p) (sym same) u)
undecided_repaired area log p gate bytes c u there (inr (inl change)) = inr (record {
  valid = u.valid;
  fits = u.fits;
  gate = change.becomes;
  file = change.is ∙ ap (λ (l : List ℕ). l ++ change.becomes ∷ drop (gate + 1) bytes) there.before ∙ ap (λ (l : List ℕ). front_of log ++ change.becomes ∷ l) there.behind;
})
undecided_repaired area log p gate bytes c u there (inr (inr change)) =
    inl (record { valid = u.valid; file = inr (change.rest, change.is ∙ ap (λ (l : List ℕ). l ++ 0 ∷ change.rest) there.before) })

repair_of : {tears : ℕ → Type 0} (gate : ℕ) (bytes c : List ℕ) → 9 < length bytes → MaySettle tears gate bytes c → MayRepair tears gate bytes c
repair_of gate bytes c long (inl short) = absurd (omega (arith, long, short.0))
repair_of gate bytes c long (inr may) = may.1

undecided_settled : {tears : ℕ → Type 0} (area : ℕ) (log : AreaLog) (p bytes c : List ℕ) (found : AreaLog) → IsUndecided area log p bytes → read_area bytes ≡ Ok found → MaySettle tears (length (front_of found)) bytes c → IsBetween area log p c
undecided_settled {tears} area log p bytes c found u read may = elim (cases_eq u.gate 1) [
  | inl opened ↦
      let stands = open_is_more area log p bytes u opened in
      let more = appended log p in
      let is : found ≡ more = same_log found more bytes read (front_is_read area more 0 [] bytes (more_valid area log p u.valid u.fits) (omega arith) stands) in
      opened_repaired area log p (length (front_of more)) bytes c u (gated (front_of more) (length (front_of more)) bytes 0 [] stands refl)
      (repair_of (length (front_of more)) bytes c (undecided_long area log p bytes u) (subst (λ (l : AreaLog). MaySettle tears (length (front_of l)) bytes c) is may))
  | inr shut ↦
      let is : found ≡ log = same_log found log bytes read (front_is_read area log u.gate (frame_body p ++ 0 ∷ []) bytes u.valid shut u.file) in
      undecided_repaired area log p (length (front_of log)) bytes c u (gated (front_of log) (length (front_of log)) bytes u.gate (frame_body p ++ 0 ∷ []) u.file refl)
      (repair_of (length (front_of log)) bytes c (undecided_long area log p bytes u) (subst (λ (l : AreaLog). MaySettle tears (length (front_of l)) bytes c) is may))
]

pub between_taken_stays : {tears : ℕ → Type 0} (area : ℕ) (log : AreaLog) (p bytes c : List ℕ) → IsBetween area log p bytes → MayTake tears bytes c → IsBetween area log p c
between_taken_stays area log p bytes c (inl is) may = inl (current_taken_stays area log bytes c is may)
between_taken_stays area log p bytes c (inr u) (inl same) = inr (subst (IsUndecided area log p) (sym same) u)
between_taken_stays area log p bytes c (inr u) (inr change) = undecided_settled area log p bytes c change.0 u change.1.0 change.1.1

-- ---- an area gate that is not torn

pub not_torn : (bytes : List ℕ) → is_second bytes ≡ false → is_torn bytes ≡ false
not_torn bytes unmarked = and_right (nat_lt 9 (length bytes)) _ (ap (λ (b : Bool). b && nat_lt 1 (area_gate bytes)) unmarked)

front_not_torn : (area : ℕ) (log : AreaLog) (e bytes : List ℕ) → bytes ≡ front_of log ++ e → is_torn bytes ≡ false
front_not_torn area log e bytes stands = by_head log.head stands
  where
    by_head : (head : Head) → bytes ≡ (head_bytes head ++ flat_map frame_bytes log.tail) ++ e → is_torn bytes ≡ false
    by_head Version1 is = not_torn bytes (ap is_second is)
    by_head (Version2 g rs) is = and_right (nat_lt 9 (length bytes)) _ (and_right (is_second bytes) _ (ap (λ (l : List ℕ). nat_lt 1 (area_gate l)) is))

pub short_not_torn : (bytes : List ℕ) → length bytes ≤ 9 → is_torn bytes ≡ false
short_not_torn bytes short = rw (short_test bytes short) refl

pub nothing_closed : {tears : ℕ → Type 0} (bytes c : List ℕ) → is_torn bytes ≡ false → MayClose tears bytes c → c ≡ bytes
nothing_closed bytes c whole (inl same) = same
nothing_closed bytes c whole (inr change) = absurd (false≢true (sym whole ∙ change.torn))

current_not_torn : (area : ℕ) (log : AreaLog) (bytes : List ℕ) → IsCurrent area log bytes → is_torn bytes ≡ false
current_not_torn area log bytes is = elim is.file [
  | inl begun ↦ short_not_torn bytes begun.1.1
  | inr shut ↦ front_not_torn area log (0 ∷ shut.0) bytes shut.1
]

pub current_closed_stays : {tears : ℕ → Type 0} (area : ℕ) (log : AreaLog) (bytes c : List ℕ) → IsCurrent area log bytes → MayClose tears bytes c → IsCurrent area log c
current_closed_stays area log bytes c is may = subst (IsCurrent area log) (sym (nothing_closed bytes c (current_not_torn area log bytes is) may)) is

pub between_closed_stays : {tears : ℕ → Type 0} (area : ℕ) (log : AreaLog) (p bytes c : List ℕ) → IsBetween area log p bytes → MayClose tears bytes c → IsBetween area log p c
between_closed_stays area log p bytes c (inl is) may = inl (current_closed_stays area log bytes c is may)
between_closed_stays area log p bytes c (inr u) may =
    inr (subst (IsUndecided area log p) (sym (nothing_closed bytes c (front_not_torn area log (u.gate ∷ (frame_body p ++ 0 ∷ [])) bytes u.file) may)) u)

-- an area that ends with its last gate is left as it is
pub end_stays : {tears : ℕ → Type 0} (log : AreaLog) (bytes c : List ℕ) → read_area bytes ≡ Ok log → bytes ≡ front_of log ++ 0 ∷ [] → MayTake tears bytes c → (9 < length bytes) → c ≡ bytes
end_stays log bytes c read stands (inl same) long = same
end_stays {tears} log bytes c read stands (inr change) long =
    let gate = length (front_of log) in
    by_repair gate (gated (front_of log) gate bytes 0 [] stands refl)
    (repair_of gate bytes c long (subst (λ (l : AreaLog). MaySettle tears (length (front_of l)) bytes c) (same_log change.0 log bytes change.1.0 read) change.1.1))
  where
    by_repair : (gate : ℕ) → Gated (front_of log) gate bytes 0 [] → MayRepair tears gate bytes c → c ≡ bytes
    by_repair gate there (inl same) = same
    by_repair gate there (inr (inl change')) = absurd (change'.was there.at)
    by_repair gate there (inr (inr change')) = absurd (omega (arith, change'.longer, there.size))
