-- What is read of the records of an area and of its frames.
use Rattle.std.proofs.Common.{◌≡◌, ℕ, zero, suc, ◌+◌, ◌-◌, ◌<◌, ◌≤◌, true, false, List, [], ◌∷◌, ◌++◌, length, take, drop, Err, Result, sym, ◌∙◌, ap, refl, arith, append_assoc, length-append}
use Rattle.std.proofs.Math.Seq.{take-append_seam, drop-append_seam}
use Rattle.std.proofs.lemmas.Bool.Decides.{nat_tests}
use Rattle.std.proofs.lemmas.Nat.{from_le_bytes-to_le_bytes_4}
use Rattle.std.proofs.lemmas.List.{append-nil, take-append-drop}
use Rattle.std.proofs.lemmas.Grind.{flat_map-append}
use Rattle.std.specs.List.{flat_map}
use Rattle.mdcc_log_file.specs.Log.{frame_body, payload_limit}
use Rattle.mdcc_log_file.specs.Crash.{AreShort}
use Rattle.mdcc_log_file.proofs.FrameRead.{rest_stands}
use Rattle.mdcc_log_file.specs.Area.{record_length, is_record, record_of, next_record, log_from, records_bytes, AreaLog}
use Rattle.mdcc_log_file.specs.Records.{AreRecords}

-- ---- records

pub length_of_record : (p e : List ℕ) → length p ≤ payload_limit → record_length (frame_body p ++ e) ≡ length p
length_of_record p e short = from_le_bytes-to_le_bytes_4 (length p) (omega arith)

record_stands : (rest : List ℕ) (n : ℕ) → record_length rest ≡ n → n ≤ payload_limit → 4 + n ≤ length rest → is_record rest ≡ true
record_stands rest n is short within = let long : 4 ≤ length rest = omega arith in rw is (grind (arith, nat_tests))

record_step : (g left offset n : ℕ) (done : List (List ℕ)) (rest p e : List ℕ) → is_record rest ≡ true → record_length rest ≡ n → record_of rest ≡ p → next_record rest ≡ e
    → log_from g done (suc left) offset rest ≡ log_from g (done ++ p ∷ []) left (offset + (4 + n)) e
record_step g left offset n done rest p e whole len payload next = rw (whole, payload, next, len) refl

one_record : (g left offset : ℕ) (done : List (List ℕ)) (p e : List ℕ) → length p ≤ payload_limit
    → log_from g done (suc left) offset (frame_body p ++ e) ≡ log_from g (done ++ p ∷ []) left (offset + (4 + length p)) e
one_record g left offset done p e short =
    let len = length_of_record p e short in
    record_step g left offset (length p) done (frame_body p ++ e) p e
    (record_stands (frame_body p ++ e) (length p) len short (omega (arith, length-append p e)))
    len
    (ap (λ (n : ℕ). take n (p ++ e)) len ∙ take-append_seam p e)
    (ap (λ (n : ℕ). drop n (p ++ e)) len ∙ drop-append_seam p e)

pub records_are_read : (g most left offset : ℕ) (done rs : List (List ℕ)) (e : List ℕ) → AreShort rs → most ≡ length rs + left
    → log_from g done most offset (records_bytes rs ++ e) ≡ log_from g (done ++ rs) left (offset + length (records_bytes rs)) e
records_are_read g most left offset done [] e short is =
    let same : most ≡ left = omega arith in
    let there : offset ≡ offset + 0 = omega arith in
    ap (λ (n : ℕ). log_from g done n offset e) same ∙ ap (λ (n : ℕ). log_from g done left n e) there ∙ ap (λ (l : List (List ℕ)). log_from g l left (offset + 0) e) (sym (append-nil done))
records_are_read g zero left offset done (r ∷ rs) e short is = absurd (omega arith)
records_are_read g (suc most) left offset done (r ∷ rs) e short is =
    let end : offset + (4 + length r) + length (records_bytes rs) ≡ offset + length (frame_body r ++ records_bytes rs) = omega (arith, length-append r (records_bytes rs)) in
    ap (λ (l : List ℕ). log_from g done (suc most) offset l) (append_assoc (frame_body r) (records_bytes rs) e)
    ∙ one_record g most offset done r (records_bytes rs ++ e) short.0
    ∙ records_are_read g most left (offset + (4 + length r)) (done ++ r ∷ []) rs e short.1 (omega arith)
    ∙ ap (λ (l : List (List ℕ)). log_from g l left (offset + (4 + length r) + length (records_bytes rs)) e) (append_assoc done (r ∷ []) rs)
    ∙ ap (λ (n : ℕ). log_from g (done ++ r ∷ rs) left n e) end

broken_record : (g left offset : ℕ) (done : List (List ℕ)) (e : List ℕ) → 0 < left → is_record e ≡ false → log_from g done left offset e ≡ Err offset
broken_record g zero offset done e some broken = absurd (omega arith)
broken_record g (suc left) offset done e some broken = rw broken refl

-- a record that does not stand where one should
pub record_break : (g count offset n : ℕ) (rs : List (List ℕ)) (rest bytes : List ℕ) → drop 25 bytes ≡ records_bytes rs ++ rest → AreShort rs → length rs < count → offset ≡ 25 + length (records_bytes rs) → is_record rest ≡ false → offset ≡ n
    → log_from g [] count 25 (drop 25 bytes) ≡ Err n
record_break g count offset n rs rest bytes front short more ends broken same =
    let left = count - length rs in
    let at : 25 + length (records_bytes rs) ≡ n = omega arith in
    ap (λ (l : List ℕ). log_from g [] count 25 l) front
    ∙ records_are_read g count left 25 [] rs rest short (omega arith)
    ∙ broken_record g left (25 + length (records_bytes rs)) rs rest (omega arith) broken
    ∙ ap (λ (k : ℕ). let refused : Result AreaLog ℕ = Err k in refused) at

-- one record more was read
pub records_more : (rs qs : List (List ℕ)) (p rest next bytes : List ℕ) → qs ≡ rs ++ p ∷ [] → drop 25 bytes ≡ records_bytes rs ++ rest → rest ≡ frame_body p ++ next → drop 25 bytes ≡ records_bytes qs ++ next
records_more rs qs p rest next bytes more front split =
    front ∙ ap (λ (l : List ℕ). records_bytes rs ++ l) split ∙ sym (append_assoc (records_bytes rs) (frame_body p) next)
    ∙ ap (λ (l : List ℕ). l ++ next) (ap (λ (l : List ℕ). records_bytes rs ++ l) (sym (append-nil (frame_body p))) ∙ sym (flat_map-append frame_body rs (p ∷ [])))
    ∙ ap (λ (l : List (List ℕ)). records_bytes l ++ next) (sym more)

pub size_more : (rs qs : List (List ℕ)) (p : List ℕ) → qs ≡ rs ++ p ∷ [] → length (records_bytes qs) ≡ length (records_bytes rs) + (4 + length p)
size_more rs qs p more =
    let sizes : length (records_bytes qs) ≡ length (records_bytes rs ++ (frame_body p ++ [])) = ap (λ (l : List (List ℕ)). length (records_bytes l)) more ∙ ap (λ (l : List ℕ). length l) (flat_map-append frame_body rs (p ∷ [])) in
    omega (arith, sizes, length-append (records_bytes rs) (frame_body p ++ []), length-append p [])

pub records_read : (count end : ℕ) (rs : List (List ℕ)) (rest bytes : List ℕ) → drop 25 bytes ≡ records_bytes rs ++ rest → end ≡ 25 + length (records_bytes rs) → end + length rest ≡ length bytes → count ≡ length rs → AreShort rs → AreRecords count rs end bytes
records_read count end rs rest bytes front ends size counted short =
    let here : rest ≡ drop end bytes = rest_stands 25 end (records_bytes rs) rest bytes front ends in
    record {
      front = sym (take-append-drop 25 bytes) ∙ ap (λ (l : List ℕ). take 25 bytes ++ l) (front ∙ ap (λ (l : List ℕ). records_bytes rs ++ l) here) ∙ sym (append_assoc (take 25 bytes) (records_bytes rs) (drop end bytes));
      ends = ends;
      within = omega (arith, size);
      counted = counted;
      short = short;
    }
