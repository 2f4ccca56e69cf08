-- What a crash may leave of the two areas of a centre.
use Rattle.std.specs.Prelude.{◌≡◌, ◌⊎◌, ◌∷◌, ℕ, ◌≤◌, List}
use Rattle.mdcc_log_file.specs.Area.{AreaLog, generation_of, payloads_of}
use Rattle.mdcc_log.specs.AtRest.{MayBeDue}
use Rattle.mdcc_log.specs.Crash.{IsCurrent, IsDead, IsIdle, IsOlder}
use Rattle.mdcc_log.specs.Frames.{appended, other_of, place_of}
use Rattle.mdcc_disks.specs.Disks.{LeavesOnly, Within}
use Rattle.mdcc_def_messages.specs.Spelling.{fact_bytes, encodings_of}
use Rattle.mdcc_def_messages.specs.declared.facts.Fact.{Fact}
use Rattle.mdcc_def_rules.specs.Boot.{next_boot}

-- ---- a crash now

-- The area in use has this log, and the other is of a smaller generation, or none that is whole.
pub record IsLeft (may_leave : ℕ → List ℕ → Type 0) (centre area : ℕ) (log : AreaLog) : Type 0 where
  pub range : area ≤ 1
  pub current : Within (IsCurrent area log) (may_leave (place_of centre area))
  pub other : Within (λ c. IsDead c ⊎ IsOlder (generation_of log.head) c) (may_leave (place_of centre (other_of area)))

-- This payload was being appended to this log, or all copied to the other area then.
pub record IsStruck (may_leave : ℕ → List ℕ → Type 0) (centre area : ℕ) (log : AreaLog) (payload : List ℕ) : Type 0 where
  pub range : area ≤ 1
  pub current : Within (MayBeDue area log payload) (may_leave (place_of centre area))
  pub other : Within (IsIdle (appended log payload)) (may_leave (place_of centre (other_of area)))

-- ---- a crash at any moment of some calls

module _ {D : Type 0} (moment : D → ℕ) (left_since : D → ℕ → ℕ → List ℕ → Type 0) where
  -- so it leaves them, each area at a moment of its own
  pub record LeavesStruck (old new : D) (centre area : ℕ) (log : AreaLog) (payload : List ℕ) : Type 0 where
    pub current : LeavesOnly moment left_since old new (place_of centre area) (MayBeDue area log payload)
    pub other : LeavesOnly moment left_since old new (place_of centre (other_of area)) (IsIdle (appended log payload))

  -- so it does where the next boot is appended to a log of these facts
  pub record LeavesBoot (old new : D) (centre : ℕ) (facts : List Fact) : Type 0 where
    pub area : ℕ
    pub log : AreaLog
    pub range : area ≤ 1
    pub payloads_are : payloads_of log ≡ encodings_of facts
    pub struck : LeavesStruck old new centre area log (fact_bytes (next_boot facts))

  -- The disks were so in between: up to then the log was opened, and from then on the next boot was appended to it, with this fact
  -- or without.
  pub record LeavesInTurn (old new : D) (centre area : ℕ) (log : AreaLog) (facts : List Fact) (fact : Fact) : Type 0 where
    pub opened : D
    pub opening : LeavesStruck old opened centre area log (fact_bytes fact)
    pub booting : LeavesBoot opened new centre facts ⊎ LeavesBoot opened new centre (fact ∷ facts)

  -- or it was opened at most
  abbrev pub LeavesFactAndBoot : D → D → ℕ → ℕ → AreaLog → List Fact → Fact → Type 0
  LeavesFactAndBoot old new centre area log facts fact =
      LeavesStruck old new centre area log (fact_bytes fact) ⊎ LeavesInTurn old new centre area log facts fact
