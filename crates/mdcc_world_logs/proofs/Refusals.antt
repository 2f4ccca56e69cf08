-- What stands of the logs where a fact was perhaps not appended.
use Rattle.std.proofs.Common.{◌≡◌, ◌≢◌, ◌+◌, ◌≤◌, Bool, List, OnErr, Result, Ok, Err, ap, arith, inl, length, ℕ, ◌∙◌}
use Rattle.mdcc_log_file.specs.Area.{AreaLog, payloads, payloads_in, payloads_of, read_areas}
use Rattle.mdcc_log.specs.Crash.{ReadsAsEither}
use Rattle.mdcc_disks.specs.Memory.{disk_of, is_there, may_leave_of}
use Rattle.mdcc_world_logs.proofs.Standing.{IsSame, log-same, log-stays, others-same}
use Rattle.mdcc_world_logs.specs.Represents.{IsLogOf, LogsRepresent, MayHave, log_at}
use Rattle.mdcc_world_logs.specs.declared.logs.Logs.{Logs}
use Rattle.mdcc_def_messages.specs.Spelling.{fact_bytes, encodings_of}
use Rattle.mdcc_def_messages.specs.declared.facts.Fact.{Fact}

pub on-err : {T E : Type 0} {P : Type 0} (result : Result T E) → P → OnErr result P
on-err (Ok x) p = tt
on-err (Err e) p = p

ok_of : List (List ℕ) → Result (List (List ℕ)) ℕ
ok_of l = Ok l

-- the payloads that a log gives
pub its-payloads : (first second : List ℕ) (log : AreaLog) (all : List (List ℕ)) → read_areas first second ≡ Ok log → payloads_of log ≡ all → payloads first second ≡ Ok all
its-payloads first second log all read are = ap payloads_in read ∙ ap (λ (l : List (List ℕ)). Ok l) are

pub log-payloads : (logs : Logs) (a : ℕ) (is_up : Bool) (facts : List Fact) → IsLogOf logs a is_up facts → payloads (disk_of logs.disks a).bytes (disk_of logs.disks (a + 16)).bytes ≡ Ok (encodings_of facts)
log-payloads logs a is_up facts its = its-payloads (disk_of logs.disks a).bytes (disk_of logs.disks (a + 16)).bytes its.log (encodings_of facts) its.read its.payloads_are

module _ (old new : Logs) (a centres : ℕ) (up : ℕ → Bool) (facts : ℕ → List Fact) (stand : LogsRepresent old centres up facts) (some : 1 ≤ a) (few : a ≤ length old.open.items) where
  pub one : IsLogOf old a (up a) (facts a)
  one = stand.each a some (omega (few, stand.as_many, arith))

  -- calls at its areas left these facts, with the new one or without
  pub leaves-here : (fact : Fact) → is_there new.disks a ≡ is_there old.disks a → is_there new.disks (a + 16) ≡ is_there old.disks (a + 16)
      → ((p : ℕ) → p ≢ a → p ≢ a + 16 → IsSame old.disks new.disks p)
      → ((b : ℕ) → 1 ≤ b → b ≢ a → log_at new b ≡ log_at old b)
      → ((first second : List ℕ) → may_leave_of new.disks a first → may_leave_of new.disks (a + 16) second → ReadsAsEither (encodings_of (facts a)) (fact_bytes fact) (payloads first second))
      → MayHave new centres up a facts fact
  leaves-here fact there there_other same logs left = record {
    there = there ∙ one.there;
    there_other = there_other ∙ one.there_other;
    left = left;
    others = λ b first most other.
        let was = stand.each b first most in
        log-stays old new b (up b) (facts b) (logs b first other) (others-same old.disks new.disks a one.range same b was.range other) was;
  }

  -- nothing was written
  pub same-may-have : (fact : Fact) → new.open.items ≡ old.open.items → ((p : ℕ) → IsSame old.disks new.disks p) → MayHave new centres up a facts fact
  same-may-have fact items same =
      leaves-here fact (same a).there (same (a + 16)).there (λ p first second. same p) (λ b first other. log-same old new items b)
      (λ first second now now_other. inl (
      ap (λ (bytes : List ℕ). payloads bytes second) (one.durable first ((same a).leaves first now))
      ∙ ap (λ (bytes : List ℕ). payloads (disk_of old.disks a).bytes bytes) (one.durable_other second ((same (a + 16)).leaves second now_other))
      ∙ log-payloads old a (up a) (facts a) one))
