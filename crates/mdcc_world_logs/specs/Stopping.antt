-- An append that stops inside one of its device calls.
use Rattle.std.specs.Prelude.{List, [], ◌∷◌, ◌≡◌, ◌≢◌, false, if◌then◌else◌, length, suc, true, zero, ℕ}
use Rattle.mdcc_base.specs.declared.outside.Image.{Image}
use Rattle.mdcc_disks.specs.Contents.{Contents, done, durable, image_of}
use Rattle.mdcc_disks.specs.Disks.{DiskCall}
use Rattle.mdcc_disks.specs.Memory.{AllMemory, at_place, standing}
use Rattle.mdcc_log_file.specs.Calls.{append_calls}
use Rattle.mdcc_world_logs.specs.Represents.{with_fact_at}
use Rattle.mdcc_def_messages.specs.Spelling.{fact_bytes}
use Rattle.mdcc_def_messages.specs.declared.facts.Fact.{Fact}
use Rattle.mdcc_def_simulation.specs.Checkpoints.{is_frame_kept}

-- the facts after it
abbrev pub stopped_facts : (ℕ → List Fact) → ℕ → Fact → ℕ → Image → ℕ → List Fact
stopped_facts facts a fact call image = if is_frame_kept call image then with_fact_at facts a fact else facts

-- what a disk holds when the call of this number of these stops: those before it were made, and it failed
abbrev pub stopped_at : ℕ → List DiskCall → Contents → Contents
stopped_at zero calls contents = contents
stopped_at (suc n) [] contents = contents
stopped_at (suc zero) (call ∷ calls) contents = done call true contents
stopped_at (suc (suc n)) (call ∷ calls) contents = stopped_at (suc n) calls (done call false contents)

-- these bytes are left of the area in use, of which these stood there, where the append of a fact stops and then the disk crashes
abbrev pub IsImageStruck : Fact → ℕ → Image → List ℕ → List ℕ → Type 0
IsImageStruck fact call image old bytes = bytes ≡ image_of image (stopped_at call (append_calls (length old) (fact_bytes fact)) (durable old))

-- the disks hold what they held, but at these two places
pub record HoldBut (one two : ℕ) (old new : AllMemory) : Type 0 where
  pub counted : new.count ≡ old.count
  pub contents : (p : ℕ) → p ≢ one → p ≢ two → standing (at_place new p) ≡ standing (at_place old p)
