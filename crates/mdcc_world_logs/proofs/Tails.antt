-- How many frames the tails of the logs have.
use Rattle.std.proofs.Common.{◌≡◌, ◌≢◌, inl, inr, ◌+◌, ◌≤◌, ◌<◌, Bool, List, Ok, ap, arith, false, length, nat_le, nat_lt, refl, sym, true, ℕ, ◌∙◌}
use Rattle.std.proofs.lemmas.Bool.{cases_Bool, le-leb, leb-true}
use Rattle.std.proofs.lemmas.Bool.Decides.{nat_tests}
use Rattle.mdcc_base.specs.declared.outside.Image.{Image}
use Rattle.mdcc_base.specs.declared.outside.Image.TheVariants.{Kept, Lost, Torn}
use Rattle.mdcc_log_file.specs.Area.{AreaLog, read_areas}
use Rattle.mdcc_log.specs.Frames.{OpenAreas}
use Rattle.mdcc_log.specs.Room.{HasGrown}
use Rattle.mdcc_log.specs.Tails.{tail_after as area_tail_after}
use Rattle.mdcc_disks.specs.Memory.{disk_of, may_leave_of}
use Rattle.mdcc_world_logs.proofs.Standing.{AreSame}
use Rattle.mdcc_world_logs.specs.Represents.{IsOpenLogOf, log_at}
use Rattle.mdcc_world_logs.specs.Tails.{HasTail, tail_at, tail_of}
use Rattle.mdcc_world_logs.specs.declared.logs.Logs.{Logs}
use Rattle.mdcc_def_messages.specs.Spelling.{encodings_of}
use Rattle.mdcc_def_messages.specs.declared.facts.Fact.{Fact}
use Rattle.mdcc_node_log.proofs.Struck.{rest_areas}
use Rattle.mdcc_def_simulation.specs.Checkpoints.{checkpoint_every, is_checkpoint_kept, is_due_after, tail_after_append}

-- ---- of what is read

pub tail-read : (logs : Logs) (a : ℕ) (log : AreaLog) → read_areas (disk_of logs.disks a).bytes (disk_of logs.disks (a + 16)).bytes ≡ Ok log → tail_at logs a ≡ length log.tail
tail-read logs a log read = ap tail_of read

pub tail-same : (old new : Logs) (a : ℕ) → AreSame old.disks new.disks a → tail_at new a ≡ tail_at old a
tail-same old new a same =
    ap (λ (bytes : List ℕ). tail_of (read_areas bytes (disk_of new.disks (a + 16)).bytes)) same.first.bytes
    ∙ ap (λ (bytes : List ℕ). tail_of (read_areas (disk_of old.disks a).bytes bytes)) same.second.bytes

-- an open log tells it
pub tail-open : (logs : Logs) (a : ℕ) (facts : List Fact) → IsOpenLogOf logs a facts → tail_at logs a ≡ (log_at logs a).tail
tail-open logs a facts is =
    let rest = is.at_rest in
    tail-read logs a rest.log (rest_areas disk_of may_leave_of logs.disks (log_at logs a) a (encodings_of facts) is.centre rest).log_is ∙ sym rest.in_use.tail

pub has-tail : (old new : Logs) (a tail : ℕ) → ((b : ℕ) → b ≤ 9 → b ≢ a → AreSame old.disks new.disks b) → tail_at new a ≡ tail → HasTail old new a tail
has-tail old new a tail same here = record { here = here; others = λ b low other. tail-same old new b (same b low other) }

-- ---- after an append

due-tail : (tail : ℕ) → checkpoint_every ≤ tail + 1 → tail_after_append tail ≡ 0
due-tail tail due = let yes : nat_le checkpoint_every (tail + 1) ≡ true = le-leb checkpoint_every (tail + 1) due in rw yes refl

more-tail : (tail : ℕ) → tail + 1 < checkpoint_every → tail_after_append tail ≡ tail + 1
more-tail tail few = let no : nat_le checkpoint_every (tail + 1) ≡ false = grind (arith, nat_tests) in rw no refl

pub tail-grown : (old new : OpenAreas) → HasGrown 1 old new → old.every ≡ checkpoint_every → new.every ≡ old.every → new.tail < new.every → new.tail ≡ tail_after_append old.tail
tail-grown old new grown every every_is few = elim grown.tail [
  | inl more ↦ more.1 ∙ sym (more-tail old.tail (omega (more.1, few, every, every_is, arith)))
  | inr due ↦ due.1.1 ∙ sym (due-tail old.tail (omega (due.0, every, arith)))
]

-- the rule of an open log, with checkpoints made so often
pub tail-alike : (tail : ℕ) → area_tail_after checkpoint_every tail ≡ tail_after_append tail
tail-alike tail = elim (cases_Bool (is_due_after tail)) [
  | inl due ↦
      let late = leb-true checkpoint_every (tail + 1) due in
      let no : nat_lt (tail + 1) checkpoint_every ≡ false = grind (late, arith, nat_tests) in
      rw (due, no) refl
  | inr not ↦
      let yes : nat_lt (tail + 1) checkpoint_every ≡ true = grind (not, arith, nat_tests) in
      rw (not, yes) refl
]

-- whether a checkpoint is due then
pub due-next : (b : Bool) (every tail : ℕ) → every ≡ checkpoint_every → (b ≡ true → every ≤ tail + 1) → (every ≤ tail + 1 → b ≡ true) → b ≡ is_due_after tail
due-next true every tail is to from = sym (le-leb checkpoint_every (tail + 1) (omega (to refl, is, arith)))
due-next false every tail is to from =
    let no : every ≤ tail + 1 → ⊥ = λ due. clash (from due) in
    let few : tail + 1 < checkpoint_every = omega (no, is, arith) in
    grind (few, arith, nat_tests)
  where
    clash : false ≡ true → ⊥
    clash e = absurd (cc)

-- ---- after a stop

-- in an append no checkpoint counts
pub early-copy : (call : ℕ) (image : Image) → call ≤ 4 → is_checkpoint_kept call image ≡ false
early-copy call Kept few = grind (few, arith, nat_tests)
early-copy call Lost few = refl
early-copy call Torn few = refl
