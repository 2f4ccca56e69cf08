-- What a start leaves of all other places, and which faults it counts.
use Rattle.std.proofs.Common.{◌≡◌, inl, inr, ⊎_elim, ℕ, ◌+◌, ◌≤◌, List, ◌∙◌, arith}
use Rattle.mdcc_disks.specs.Disks.{Disk}
use Rattle.mdcc_log_file.specs.Both.{KeepsBut, RoseAtOne}
use Rattle.mdcc_log.specs.Frames.{other_of, place_of}
use Rattle.mdcc_node_log.proofs.Named.{rose-later}
use Rattle.mdcc_node_log.proofs.Places.{swapped_back}

module _ {D : Type 0} (disk : D → ℕ → Disk) (may_leave : D → ℕ → List ℕ → Type 0) (moment : D → ℕ) (left_since : D → ℕ → ℕ → List ℕ → Type 0) where
  but_swapped : (old new : D) (one two : ℕ) → KeepsBut disk may_leave moment left_since old new one two → KeepsBut disk may_leave moment left_since old new two one
  but_swapped old new one two keeps = record {
    told_one = keeps.told_two;
    told_two = keeps.told_one;
    others = λ p a b. keeps.others p b a;
    crash = λ p a b. keeps.crash p b a;
    crash_back = λ p a b. keeps.crash_back p b a;
    later = keeps.later;
    time = λ p t c a b. keeps.time p t c b a;
    faults_one = keeps.faults_two;
    faults_two = keeps.faults_one;
  }

  -- an append at the areas of the centre
  pub but_areas : (old new : D) (centre named area : ℕ) → named ≡ centre → area ≤ 1 → KeepsBut disk may_leave moment left_since old new (place_of named area) (place_of named (other_of area))
      → KeepsBut disk may_leave moment left_since old new centre (centre + 16)
  but_areas old new centre named area is range keeps = swapped_back (KeepsBut disk may_leave moment left_since old new) (but_swapped old new) centre named area is range keeps

  pub but_joined : (old mid new : D) (one two : ℕ) → KeepsBut disk may_leave moment left_since old mid one two → KeepsBut disk may_leave moment left_since mid new one two → KeepsBut disk may_leave moment left_since old new one two
  but_joined old mid new one two first second = record {
    told_one = second.told_one ∙ first.told_one;
    told_two = second.told_two ∙ first.told_two;
    others = λ p a b. second.others p a b ∙ first.others p a b;
    crash = λ p a b c now. first.crash p a b c (second.crash p a b c now);
    crash_back = λ p a b c was. second.crash_back p a b c (first.crash_back p a b c was);
    later = omega (arith, first.later, second.later);
    time = λ p t c a b le left. ⊎_elim (first.time p t c a b le) (λ now. inr (first.crash p a b c now)) (second.time p t c a b (omega (arith, le, first.later)) left);
    faults_one = omega (arith, first.faults_one, second.faults_one);
    faults_two = omega (arith, first.faults_two, second.faults_two);
  }

  rose_swapped : (old new : D) (one two : ℕ) → RoseAtOne (disk old one) (disk new one) (disk old two) (disk new two) → RoseAtOne (disk old two) (disk new two) (disk old one) (disk new one)
  rose_swapped old new one two (inl rose) = inr rose
  rose_swapped old new one two (inr rose) = inl rose

  -- a fault counted since
  pub rose_areas : (old mid new : D) (centre named area : ℕ) → named ≡ centre → area ≤ 1 → KeepsBut disk may_leave moment left_since old mid centre (centre + 16)
      → RoseAtOne (disk mid (place_of named area)) (disk new (place_of named area)) (disk mid (place_of named (other_of area))) (disk new (place_of named (other_of area)))
      → RoseAtOne (disk old centre) (disk new centre) (disk old (centre + 16)) (disk new (centre + 16))
  rose_areas old mid new centre named area is range keeps rose =
      ⊎_elim
      (λ at. inl (rose-later (disk old centre).faults (disk mid centre).faults (disk new centre).faults keeps.faults_one at))
      (λ at. inr (rose-later (disk old (centre + 16)).faults (disk mid (centre + 16)).faults (disk new (centre + 16)).faults keeps.faults_two at))
      (swapped_back (λ p q. RoseAtOne (disk mid p) (disk new p) (disk mid q) (disk new q)) (rose_swapped mid new) centre named area is range rose)
