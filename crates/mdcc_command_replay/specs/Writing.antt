-- What was written of the text of a replay.
use Rattle.std.specs.Prelude.{◌≡◌, ◌⊎◌, ◌++◌, List, Option, Some, None, Result, Ok, Err, ⊤, ℕ}
use Rattle.std.specs.Io.KnownBytes.{Appends}
use Rattle.mdcc_base.specs.Causes.{Rose}
use Rattle.mdcc_def_simulation.specs.Replay.{Replay, after_text}
use Rattle.mdcc_def_simulation.specs.State.{World}
use Rattle.mdcc_command_replay.specs.Refusals.{faults_of}
use Rattle.mdcc_command_replay.specs.declared.refusals.Refusal.{Refusal}
use Rattle.mdcc_command_replay.specs.declared.reports.Ended.{Ended}
use Rattle.mdcc_command_replay.specs.declared.reports.Ended.TheVariants.{Early, Whole}
use Rattle.mdcc_command_replay.specs.declared.writing.Failure.{Failure}

-- a front of a text was written, which may be all of it
pub record Front (before after : Option (List ℕ)) (text : List ℕ) : Type 0 where
  pub part : List ℕ
  pub behind : List ℕ
  pub wrote : Appends before after part
  pub whole : text ≡ part ++ behind

-- a part of a replay was written, and this replay is left behind it
pub record ReplayProgress (before after : Option (List ℕ)) (whole left : Replay) : Type 0 where
  pub part : List ℕ
  pub wrote : Appends before after part
  pub same : whole ≡ after_text part left

-- a replay was written whole, and this is why it ended early
pub record Ends (before after : Option (List ℕ)) (whole : Replay) (refusal : Option Refusal) : Type 0 where
  pub wrote : Appends before after whole.text
  pub fault : whole.fault ≡ faults_of refusal

-- a replay was written, or a front of it where a write or memory failed
abbrev pub Replayed : Option (List ℕ) → Option (List ℕ) → Replay → Result (Option Refusal) Failure → Type 0
Replayed before after whole (Ok refusal) = Ends before after whole refusal
Replayed before after whole (Err failure) = Front before after whole.text

-- a part of a replay was written, and what is left of it begins in the world that is now
pub record Reached (is_now : World → Type 0) (before after : Option (List ℕ)) (whole : Replay) (left : World → Replay) : Type 0 where
  pub world : World
  pub stands : is_now world
  pub progress : ReplayProgress before after whole (left world)

-- the same, or the replay ended
abbrev pub ReplayedTo : (World → Type 0) → Option (List ℕ) → Option (List ℕ) → Replay → (World → Replay) → Result (Option Refusal) Failure → Type 0
ReplayedTo is_now before after whole left (Ok None) = Reached is_now before after whole left
ReplayedTo is_now before after whole left (Ok (Some refusal)) = Ends before after whole (Some refusal)
ReplayedTo is_now before after whole left (Err failure) = Front before after whole.text

-- a text was written, or a front of it where its count of faults rose
abbrev pub Tells : Option (List ℕ) → Option (List ℕ) → ℕ → ℕ → List ℕ → Type 0
Tells before after faults_before faults_after text = Appends before after text ⊎ (Front before after text × Rose faults_before faults_after)

-- ---- what a replay leaves

-- why a replay ended early
abbrev pub refusal_in : {W : Type 0} → Result (Ended W) Failure → Result (Option Refusal) Failure
refusal_in (Ok (Whole world)) = Ok None
refusal_in (Ok (Early refusal)) = Ok (Some refusal)
refusal_in (Err failure) = Err failure

-- the last world of a replay is now
pub record StandsLast (is_now : World → Type 0) (whole : Replay) : Type 0 where
  pub world : World
  pub last : whole.world ≡ Some world
  pub stands : is_now world

-- a replay that came to the end of its input leaves its last world
abbrev pub LeavesLast : {W : Type 0} → (W → World → Type 0) → Replay → Result (Ended W) Failure → Type 0
LeavesLast stands whole (Ok (Whole world)) = StandsLast (stands world) whole
LeavesLast stands whole _ = ⊤

-- this world is left where these lines were replayed to their end
abbrev pub IsLeftBy : {W : Type 0} → Result (Option Refusal) Failure → W → Result (Ended W) Failure → Type 0
IsLeftBy replayed world (Ok (Whole left)) = (replayed ≡ Ok None) × (left ≡ world)
IsLeftBy replayed world (Ok (Early refusal)) = replayed ≡ Ok (Some refusal)
IsLeftBy replayed world (Err failure) = replayed ≡ Err failure
