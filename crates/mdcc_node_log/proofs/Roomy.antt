-- Whether the next boot lies within the limit of its log.
use Rattle.std.proofs.Common.{arith, ◌≡◌, ℕ, ◌+◌, ◌<◌, ◌≤◌, List, Ok, Result, length, sym, ◌∙◌, subst}
use Rattle.mdcc_disks.specs.Disks.{Disk}
use Rattle.mdcc_log.proofs.Rooms.{full_by_length, roomy_grows}
use Rattle.mdcc_log_file.specs.Area.{AreaLog, payloads_of, read_areas}
use Rattle.mdcc_log.specs.Frames.{IsInUse, OpenAreas}
use Rattle.mdcc_log.specs.Room.{HasGrown, IsFull, IsRoomy, IsRoomyLog}
use Rattle.mdcc_log_file.specs.Log.{log_bytes, log_limit}
use Rattle.mdcc_def_messages.specs.declared.facts.Fact.{Fact}
use Rattle.mdcc_node_log.proofs.Starts.{lies-past, lies-within}
use Rattle.mdcc_node_log.specs.Starting.{HasLogRoom, size_with_boot}
use Rattle.mdcc_def_messages.specs.Spelling.{encodings_of}

pub same_log : (one two : AreaLog) → (let ok : Result AreaLog ℕ = Ok one in ok) ≡ Ok two → one ≡ two
same_log one two e = cc

-- the log that is read
pub roomy_log : (every : ℕ) (first second : Disk) (log : AreaLog) → read_areas first.bytes second.bytes ≡ Ok log → HasLogRoom every first second → IsRoomyLog log
roomy_log every first second log read room = subst IsRoomyLog (same_log room.log log (sym room.read ∙ read)) room.roomy

module _ (frames : OpenAreas) (log : AreaLog) (bytes : List ℕ) (may_leave : List ℕ → Type 0) (used : IsInUse frames log bytes may_leave) where
  pub roomy_frames : IsRoomyLog log → IsRoomy frames.generation frames.tail frames.count
  roomy_frames roomy =
      subst (λ (n : ℕ). IsRoomy frames.generation frames.tail n) (sym used.count)
      (subst (λ (n : ℕ). IsRoomy frames.generation n (length (payloads_of log))) (sym used.tail)
      (subst (λ (n : ℕ). IsRoomy n (length log.tail) (length (payloads_of log))) (sym used.generation) roomy))

  pub roomy_read : IsRoomy frames.generation frames.tail frames.count → IsRoomyLog log
  roomy_read roomy =
      subst (λ (n : ℕ). IsRoomy n (length log.tail) (length (payloads_of log))) used.generation
      (subst (λ (n : ℕ). IsRoomy frames.generation n (length (payloads_of log))) used.tail
      (subst (λ (n : ℕ). IsRoomy frames.generation frames.tail n) used.count roomy))

  pub roomy_more : (new : OpenAreas) → IsRoomyLog log → 17 ≤ frames.every → HasGrown 1 frames new → IsRoomy new.generation new.tail new.count
  roomy_more new roomy often grown = roomy_grows 1 frames new (omega arith) (roomy_frames roomy) often grown

  module _ (facts : List Fact) (all : List (List ℕ)) (five : ℕ) (are : all ≡ payloads_of log) (is : all ≡ encodings_of facts) (five_is : five ≡ 5) where
    pub past_limit : IsRoomyLog log → 17 ≤ frames.every → IsFull frames five → log_limit < size_with_boot facts
    past_limit roomy often full =
        lies-past facts all five is five_is
        (subst (λ (ps : List (List ℕ)). log_limit < length (log_bytes ps) + (five + 5)) (sym are) ((full_by_length frames log bytes may_leave five used).1 roomy often full))

    pub within_limit : (IsFull frames five → ⊥) → size_with_boot facts ≤ log_limit
    within_limit room =
        lies-within facts all five is five_is
        (λ past. room ((full_by_length frames log bytes may_leave five used).0 (subst (λ (ps : List (List ℕ)). log_limit < length (log_bytes ps) + (five + 5)) are past)))
