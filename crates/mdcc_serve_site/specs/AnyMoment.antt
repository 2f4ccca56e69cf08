-- What a crash at any moment of a call leaves of the log of a centre.
use Rattle.std.specs.Prelude.{IsTrue, List, Ok, ℕ, ◌+◌, ◌≡◌, ◌⊎◌}
use Rattle.mdcc_disks.specs.Disks.{Disk}
use Rattle.mdcc_log_file.specs.Area.{payloads}
use Rattle.mdcc_def_messages.specs.Spelling.{encodings_of}
use Rattle.mdcc_def_messages.specs.declared.facts.Fact.{Fact}

module _ {D : Type 0} (disk : D → ℕ → Disk) (moment : D → ℕ) (left_since : D → ℕ → ℕ → List ℕ → Type 0) where
  -- Of what a crash at any moment since old left of the two areas of a centre, each as at a moment of its own, all facts from before are
  -- read, or all facts from after.
  abbrev pub LeavesEither : ℕ → List Fact → List Fact → D → D → Type 0
  LeavesEither centre before after old new =
      (first second : List ℕ) → IsTrue (disk old centre).told → left_since new centre (moment old) first → left_since new (centre + 16) (moment old) second
      → (payloads first second ≡ Ok (encodings_of before)) ⊎ (payloads first second ≡ Ok (encodings_of after))
