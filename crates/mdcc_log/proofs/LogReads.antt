-- Which log is read of the two areas.
use Rattle.std.proofs.Common.{◌≡◌, ◌≢◌, inl, inr, ℕ, ◌+◌, ◌<◌, ◌==◌, Bool, cond, false, List, [], ◌∷◌, Result, ◌∙◌, ap, refl, subst, arith}
use Rattle.std.proofs.lemmas.Bool.{cases_eq}
use Rattle.std.proofs.lemmas.Bool.Decides.{nat_tests}
use Rattle.mdcc_log_file.specs.Area.{generation_of, payloads_of, read_area, read_area_taken, read_areas}
use Rattle.mdcc_log.specs.Frames.{packed}
use Rattle.mdcc_log.specs.Tails.{CopyIsRead, IsPassedOver, LogIsRead, read_by}
use Rattle.mdcc_log.proofs.AreaRead.{shut_no_copy}
use Rattle.mdcc_log.proofs.Choice.{Other, Seen, SeenCopy, copy_valid, current_read, current_seen, dead_other, first_passed, first_taken, front_is_read, older_other, packed_payloads, second_passed, second_seen, second_taken}
use Rattle.mdcc_log.proofs.Packs.{payloads_short}
use Rattle.mdcc_log.proofs.Uses.{packed_file}

read_apart : (area : ℕ) (current other : List ℕ) → area ≢ 0 → read_by area current other ≡ read_areas other current
read_apart area current other apart = let test : (area == 0) ≡ false = grind (arith, nat_tests) in ap (λ (b : Bool). cond b (read_areas current other) (read_areas other current)) test

pub current_is_taken : (area g : ℕ) (current other : List ℕ) → Seen area g current → Other g other → read_by area current other ≡ read_area current
current_is_taken area g current other seen loses = elim (cases_eq area 0) [
  | inl is ↦ ap (λ (n : ℕ). read_by n current other) is ∙ ap (λ (t : Result ℕ ℕ). read_area_taken t current other) (first_taken current other g (subst (λ (n : ℕ). Seen n g current) is seen) loses)
  | inr apart ↦ read_apart area current other apart ∙ ap (λ (t : Result ℕ ℕ). read_area_taken t other current) (second_taken other current area g (omega (arith, apart)) seen loses)
]

pub other_is_taken : (area g h : ℕ) (current other : List ℕ) → Seen area g current → g < h → SeenCopy h other → read_by area current other ≡ read_area other
other_is_taken area g h current other seen more copy = elim (cases_eq area 0) [
  | inl is ↦ ap (λ (n : ℕ). read_by n current other) is ∙ ap (λ (t : Result ℕ ℕ). read_area_taken t current other) (first_passed current other g h (subst (λ (n : ℕ). Seen n g current) is seen) more copy)
  | inr apart ↦ read_apart area current other apart ∙ ap (λ (t : Result ℕ ℕ). read_area_taken t other current) (second_passed other current area g h (omega (arith, apart)) seen more copy)
]

passed_other : (g : ℕ) (bytes : List ℕ) → IsPassedOver g bytes → Other g bytes
passed_other g bytes (inl dead) = dead_other g bytes dead
passed_other g bytes (inr (inl older)) = older_other g bytes older
passed_other g bytes (inr (inr shut)) = Other.None (shut_no_copy bytes shut)

pub log_is_read : LogIsRead
log_is_read area log current other is passed =
    current_is_taken area (generation_of log.head) current other (current_seen area log current is) (passed_other (generation_of log.head) other passed)
    ∙ current_read area log current is

pub copy_is_read : CopyIsRead
copy_is_read area log current other is fits counted copied =
    let next = generation_of log.head + 1 in
    let seen : SeenCopy next other = second_seen 0 1 next (payloads_of log) (0 ∷ []) other refl (omega arith) fits copied in
    let valid = copy_valid 0 log other (record { generation = fits; count = counted; short = payloads_short area log is.valid; gate = 1; file = copied }) in (
      other_is_taken area (generation_of log.head) next current other (current_seen area log current is) (omega arith) seen
          ∙ front_is_read 0 (packed log) 0 [] other valid (omega arith) (copied ∙ packed_file log),
      packed_payloads log,
    )
