-- What opening does to two areas, by which one is taken.
use Rattle.std.proofs.Common.{◌≡◌, ◌⊎◌, inl, inr, ℕ, ◌+◌, ◌^◌, ◌<◌, IsTrue, List, length, Ok, Err, Result, sym, ◌∙◌, ap, refl, subst, arith}
use Rattle.std.proofs.lemmas.Bool.{false≢true}
use Rattle.mdcc_disks.specs.Disks.{Disk, DiskCall}
use Rattle.mdcc_log_file.specs.Calls.{MadeSome, with_calls}
use Rattle.mdcc_log_file.proofs.Moments.{both, weakened}
use Rattle.mdcc_log_file.specs.declared.area.Spare.{Spare}
use Rattle.mdcc_log_file.specs.Area.{AreaLog, front_of, read_area, read_areas, read_area_taken, taken, spare_of}
use Rattle.mdcc_log.specs.Reading.{AreaIs}
use Rattle.mdcc_log.specs.Frames.{change_calls, other_calls, settle_calls, spare_calls}
use Rattle.mdcc_log.specs.Repair.{MayClose, with_closed_gate}
use Rattle.mdcc_log.specs.Opening.{IsTaken, LoadsOne, MayOpenAs, MaySettleAs, OpensOne, opened_bytes, taken_bytes}
use Rattle.mdcc_log.specs.Settling.{SettlesOne}
use Rattle.mdcc_log.proofs.Loads.{load_calls}
use Rattle.mdcc_log.proofs.Outcomes.{on_ok}
use Rattle.mdcc_log_file.proofs.ReadCalls.{all_before, made_before, some_before}
use Rattle.mdcc_log.proofs.Takes.{first_idle, second_idle, second_is_copy}

-- what is changed of the other area, where a log was read
pub other_calls_are : (bytes other : List ℕ) (log : AreaLog) → read_area bytes ≡ Ok log → spare_calls other ≡ other_calls (read_area bytes) other
other_calls_are bytes other log read = sym (ap (λ (r : Result AreaLog ℕ). other_calls r other) read)

-- ---- the first area is taken

module _ (first second : List ℕ) (is : taken first second ≡ Ok 0) where
  pub first_calls : settle_calls first ≡ change_calls 0 (taken first second) (read_areas first second) first
  first_calls = sym (ap (λ (t : Result ℕ ℕ). change_calls 0 t (read_area_taken t first second) first) is)

  pub first_bytes : taken_bytes (read_area first) ≡ opened_bytes 0 (taken first second) (read_areas first second) first
  first_bytes = sym (ap (λ (t : Result ℕ ℕ). opened_bytes 0 t (read_area_taken t first second) first) is)

  pub first_may : {tears : ℕ → Type 0} (c : List ℕ) → MaySettleAs tears first c → MayOpenAs tears 0 (taken first second) first c
  first_may c may = inr (inl (is, may))

  pub second_calls_then : other_calls (read_area first) second ≡ change_calls 1 (taken first second) (read_areas first second) second
  second_calls_then = sym (ap (λ (t : Result ℕ ℕ). change_calls 1 t (read_area_taken t first second) second) is)

  pub second_bytes_then : with_closed_gate second ≡ opened_bytes 1 (taken first second) (read_areas first second) second
  second_bytes_then = sym (ap (λ (t : Result ℕ ℕ). opened_bytes 1 t (read_area_taken t first second) second) is)

  pub second_may_then : {tears : ℕ → Type 0} (c : List ℕ) → MayClose tears second c → MayOpenAs tears 1 (taken first second) second c
  second_may_then c may = inr (inr (0, (is, ((λ same. omega (arith, same)), may))))

-- ---- the second one is

module _ (first second : List ℕ) (is : taken first second ≡ Ok 1) where
  pub second_calls : settle_calls second ≡ change_calls 1 (taken first second) (read_areas first second) second
  second_calls = sym (ap (λ (t : Result ℕ ℕ). change_calls 1 t (read_area_taken t first second) second) is)

  pub second_bytes : taken_bytes (read_area second) ≡ opened_bytes 1 (taken first second) (read_areas first second) second
  second_bytes = sym (ap (λ (t : Result ℕ ℕ). opened_bytes 1 t (read_area_taken t first second) second) is)

  pub second_may : {tears : ℕ → Type 0} (c : List ℕ) → MaySettleAs tears second c → MayOpenAs tears 1 (taken first second) second c
  second_may c may = inr (inl (is, may))

  pub first_calls_then : other_calls (read_area second) first ≡ change_calls 0 (taken first second) (read_areas first second) first
  first_calls_then = sym (ap (λ (t : Result ℕ ℕ). change_calls 0 t (read_area_taken t first second) first) is)

  pub first_bytes_then : with_closed_gate first ≡ opened_bytes 0 (taken first second) (read_areas first second) first
  first_bytes_then = sym (ap (λ (t : Result ℕ ℕ). opened_bytes 0 t (read_area_taken t first second) first) is)

  pub first_may_then : {tears : ℕ → Type 0} (c : List ℕ) → MayClose tears first c → MayOpenAs tears 0 (taken first second) first c
  first_may_then c may = inr (inr (1, (is, ((λ same. omega (arith, same)), may))))

-- ---- what was read then

module _ {g : ℕ} {all : List (List ℕ)} {start tail gate : ℕ} where
  gate_fits : (bytes : List ℕ) → length bytes < 2 ^ 63 → AreaIs g all start tail gate bytes → gate + 1 < 2 ^ 63
  gate_fits bytes fits is = elim is.stands [
    | inl short ↦ let at : gate ≡ 8 = is.gate_is ∙ ap (λ (l : AreaLog). length (front_of l)) short.1 in omega (arith, at)
    | inr long ↦ omega (arith, fits, long.1.within)
  ]

  pub takes_first : (first second : List ℕ) (spare : Spare) → taken first second ≡ Ok 0 → length first < 2 ^ 63 → AreaIs g all start tail gate first → spare ≡ spare_of (with_closed_gate second) → IsTaken first second 0 g all start tail gate spare
  takes_first first second spare choice fits is known = record {
    log = is.log;
    choice = choice;
    range = omega arith;
    valid = is.valid 0 (λ other. refl);
    read = is.read;
    generation_is = is.generation_is;
    payloads_are = is.payloads_are;
    starts = is.starts;
    counted = is.counted;
    gate_is = is.gate_is;
    fits = gate_fits first fits is;
    idle = second_idle first second g choice is.numbered;
    spare_is = known;
  }

  pub takes_second : (first second : List ℕ) (spare : Spare) → taken first second ≡ Ok 1 → length second < 2 ^ 63 → AreaIs g all start tail gate second → spare ≡ spare_of (with_closed_gate first) → IsTaken first second 1 g all start tail gate spare
  takes_second first second spare choice fits is known = record {
    log = is.log;
    choice = choice;
    range = omega arith;
    valid = is.valid 1 (λ other. absurd (false≢true (sym other ∙ second_is_copy first second choice)));
    read = is.read;
    generation_is = is.generation_is;
    payloads_are = is.payloads_are;
    starts = is.starts;
    counted = is.counted;
    gate_is = is.gate_is;
    fits = gate_fits second fits is;
    idle = first_idle first second g choice is.numbered;
    spare_is = known;
  }

-- ---- at one of both places

module _ {D : Type 0} (disk : D → ℕ → Disk) (may_leave : D → ℕ → List ℕ → Type 0) (moment : D → ℕ) (left_since : D → ℕ → ℕ → List ℕ → Type 0) (tears : ℕ → Type 0) (which : ℕ) (first second : List ℕ) where
  abbrev changes : List ℕ → List DiskCall
  changes bytes = change_calls which (taken first second) (read_areas first second) bytes

  -- a place was not loaded
  pub opens_not : {T E X Y : Type 0} (old new : D) (place : ℕ) (part : Result X Y) (result : Result T E) (e : E) → result ≡ Err e → IsTrue (disk old place).told
      → LoadsOne disk may_leave moment left_since old new place part → OpensOne disk may_leave moment left_since tears old new place which first second result
  opens_not {T} {E} old new place part result e failed told loads =
      let file = (disk old place).bytes in
      subst (λ (r : Result T E). OpensOne disk may_leave moment left_since tears old new place which first second r) (sym failed)
      (record {
        any_moment = weakened (λ (c : List ℕ). may_leave old place c ⊎ MayOpenAs tears which (taken first second) file c) loads.any_moment (λ c left. inl left);
        some_calls = some_before (length file) (load_calls (length file)) (changes file) _ _ (loads.some_calls told);
        all_calls = tt;
      })

  -- it was loaded, and then settled
  pub opens_with : {T E X Y : Type 0} (old mid new : D) (place : ℕ) (x : X) (result : Result T E) (bytes after : List ℕ) → IsTrue (disk old place).told → bytes ≡ (disk old place).bytes
      → LoadsOne disk may_leave moment left_since {T = X} {E = Y} old mid place (Ok x)
      → SettlesOne disk may_leave moment left_since mid new place after (MayOpenAs tears which (taken first second) bytes) (changes bytes) result
      → OpensOne disk may_leave moment left_since tears old new place which first second result
  opens_with {T} {E} old mid new place x result bytes after told is loads settles =
      let file = (disk old place).bytes in
      let told_mid = loads.told ∙ told in
      let may = λ (c : List ℕ). may_leave old place c ⊎ MayOpenAs tears which (taken first second) file c in
      let same = ap changes is in
      record {
        any_moment = both
            (weakened may loads.any_moment (λ c left. inl left))
            (weakened may (settles.any_moment told_mid) (λ c change. inr (subst (λ (l : List ℕ). MayOpenAs tears which (taken first second) l c) is change)));
        some_calls = made_before (length file) (load_calls (length file)) (changes file) _ _ _ (loads.all_calls told)
            (subst (λ (l : List DiskCall). MadeSome l (disk mid place).calls (disk new place).calls) same settles.some_calls);
        all_calls = on_ok _ _ result
            (λ (all : (disk new place).calls ≡ with_calls (changes bytes) (disk mid place).calls).
            all_before (length file) (load_calls (length file)) (changes file) _ _ _ (loads.all_calls told) (all ∙ ap (λ (l : List DiskCall). with_calls l (disk mid place).calls) same))
            settles.all_calls;
      }
