-- The log of a centre before its start, and where nothing was done.
use Rattle.std.proofs.Common.{◌≡◌, ℕ, ◌+◌, ◌≤◌, List, [], Result, Ok, refl, sym, ◌∙◌, ap, subst, inl, inr, arith, IsTrue}
use Rattle.std.proofs.lemmas.Bool.{cases_eq}
use Rattle.mdcc_log_file.specs.Area.{payloads}
use Rattle.mdcc_log_file.specs.Both.{KeepsBut}
use Rattle.mdcc_disks.specs.Disks.{Disk, Within}
use Rattle.mdcc_command_endings.specs.Logs.{AreAreasTold}
use Rattle.mdcc_def_messages.specs.Spelling.{encodings_of}
use Rattle.mdcc_def_messages.specs.declared.facts.Fact.{Fact}
use Rattle.mdcc_option.specs.declared.cluster.Cluster.{Cluster}
use Rattle.mdcc_def_server_runs.specs.Servers.{Log}
use Rattle.mdcc_serve.specs.Serving.{IsDurable}
use Rattle.mdcc_serve.specs.Starts.{FailsToStart}
use Rattle.mdcc_serve.specs.Stays.{LogStays, MayHaveBoot}
use Rattle.mdcc_serve_site.proofs.Logged.{disks_same, others_same}
use Rattle.mdcc_serve_site.specs.Logs.{MayHaveFacts}
use Rattle.mdcc_serve_site.specs.Moments.{DiskPasses, KeepsOthers}
use Rattle.mdcc_serve_site.specs.declared.fault.ServeFault.{ServeFault}

-- ---- the areas of a centre by its number

pub its_payloads : {D : Type 0} (disk : D → ℕ → Disk) (disks : D) (log : Log) (centre : ℕ) → log.centre ≡ centre
    → payloads (disk disks log.centre).bytes (disk disks (log.centre + 16)).bytes ≡ Ok (encodings_of log.facts) → payloads (disk disks centre).bytes (disk disks (centre + 16)).bytes ≡ Ok (encodings_of log.facts)
its_payloads disk disks log centre of read = subst (λ (n : ℕ). payloads (disk disks n).bytes (disk disks (n + 16)).bytes ≡ Ok (encodings_of log.facts)) of read

pub same_lists : (r : Result (List (List ℕ)) ℕ) (all more : List (List ℕ)) → r ≡ Ok all → r ≡ Ok more → all ≡ more
same_lists r all more one two = let both : Ok all ≡ Ok more = sym one ∙ two in cc

-- ---- a log to whose disks nothing was done

pub log_stood : {D : Type 0} (disk : D → ℕ → Disk) (may_leave : D → ℕ → List ℕ → Type 0) (tears : ℕ → Type 0) (cluster : Cluster) (old new : D) (a : ℕ) → disk new a ≡ disk old a → disk new (a + 16) ≡ disk old (a + 16)
    → Within (may_leave old a) (may_leave new a) → Within (may_leave old (a + 16)) (may_leave new (a + 16)) → LogStays disk may_leave tears cluster old new a
log_stood disk may_leave tears cluster old new a here there crash crash_other = record {
  read = λ all told is. inl (ap (λ (d : Disk). payloads d.bytes (disk new (a + 16)).bytes) here ∙ (ap (λ (d : Disk). payloads (disk old a).bytes d.bytes) there ∙ is));
  crash = λ all first second never told only only_other is left left_second.
      inl (ap (λ (bytes : List ℕ). payloads bytes second) (only first (crash first left)) ∙ (ap (λ (bytes : List ℕ). payloads (disk old a).bytes bytes) (only_other second (crash_other second left_second)) ∙ is));
  unread = λ offset told is. (ap (λ (d : Disk). d.bytes) here, ap (λ (d : Disk). d.bytes) there);
}

-- it stands where it stood before
pub log_stays_on : {D : Type 0} (disk : D → ℕ → Disk) (may_leave : D → ℕ → List ℕ → Type 0) (tears : ℕ → Type 0) (cluster : Cluster) (old mid new : D) (a : ℕ) → disk new a ≡ disk mid a → disk new (a + 16) ≡ disk mid (a + 16)
    → Within (may_leave mid a) (may_leave new a) → Within (may_leave mid (a + 16)) (may_leave new (a + 16)) → LogStays disk may_leave tears cluster old mid a → LogStays disk may_leave tears cluster old new a
log_stays_on disk may_leave tears cluster old mid new a here there crash crash_other stays = record {
  read = λ all told is. subst (MayHaveBoot cluster all) (sym same) (stays.read all told is);
  crash = λ all first second never told only only_other is left left_second. stays.crash all first second never told only only_other is (crash first left) (crash_other second left_second);
  unread = λ offset told is. (let was = stays.unread offset told is in (ap (λ (d : Disk). d.bytes) here ∙ was.0, ap (λ (d : Disk). d.bytes) there ∙ was.1));
}
  where
    same : payloads (disk new a).bytes (disk new (a + 16)).bytes ≡ payloads (disk mid a).bytes (disk mid (a + 16)).bytes
    same = ap (λ (d : Disk). payloads d.bytes (disk new (a + 16)).bytes) here ∙ ap (λ (d : Disk). payloads (disk mid a).bytes d.bytes) there

-- of a log to which nothing was done yet it is the same to speak of what stands now
pub log_stays_since : {D : Type 0} (disk : D → ℕ → Disk) (may_leave : D → ℕ → List ℕ → Type 0) (tears : ℕ → Type 0) (cluster : Cluster) (old mid new : D) (a : ℕ) → disk mid a ≡ disk old a → disk mid (a + 16) ≡ disk old (a + 16)
    → Within (may_leave old a) (may_leave mid a) → Within (may_leave old (a + 16)) (may_leave mid (a + 16)) → LogStays disk may_leave tears cluster mid new a → LogStays disk may_leave tears cluster old new a
log_stays_since disk may_leave tears cluster old mid new a here there crash crash_other stays = record {
  read = λ all told is. stays.read all (told_still told) (same ∙ is);
  crash = λ all first second never told only only_other is left left_second.
      stays.crash all first second never (told_still told) (λ c before. only c (crash c before) ∙ sym (ap (λ (d : Disk). d.bytes) here))
      (λ c before. only_other c (crash_other c before) ∙ sym (ap (λ (d : Disk). d.bytes) there)) (same ∙ is) left left_second;
  unread = λ offset told is. (let now = stays.unread offset (told_still told) (same ∙ is) in (now.0 ∙ ap (λ (d : Disk). d.bytes) here, now.1 ∙ ap (λ (d : Disk). d.bytes) there));
}
  where
    same : payloads (disk mid a).bytes (disk mid (a + 16)).bytes ≡ payloads (disk old a).bytes (disk old (a + 16)).bytes
    same = ap (λ (d : Disk). payloads d.bytes (disk mid (a + 16)).bytes) here ∙ ap (λ (d : Disk). payloads (disk old a).bytes d.bytes) there

    told_still : AreAreasTold disk old a → AreAreasTold disk mid a
    told_still told = record { first = subst (λ (d : Disk). IsTrue d.told) (sym here) told.first; second = subst (λ (d : Disk). IsTrue d.told) (sym there) told.second }

-- ---- calls at the two places of a centre

module _ {D : Type 0} (disk : D → ℕ → Disk) (may_leave : D → ℕ → List ℕ → Type 0) (moment : D → ℕ) (left_since : D → ℕ → ℕ → List ℕ → Type 0) (old new : D) (one two : ℕ)
    (keeps : KeepsBut disk may_leave moment left_since old new one two)
  where
    told_at : (p : ℕ) → (disk new p).told ≡ (disk old p).told
    told_at p = elim (cases_eq p one) [
      | inl is ↦ rw is keeps.told_one
      | inr isnt ↦ elim (cases_eq p two) [
        | inl is ↦ rw is keeps.told_two
        | inr isnt_two ↦ ap (λ (d : Disk). d.told) (keeps.others p isnt isnt_two)
      ]
    ]

    faults_at : (p : ℕ) → (disk old p).faults ≤ (disk new p).faults
    faults_at p = elim (cases_eq p one) [
      | inl is ↦ rw is keeps.faults_one
      | inr isnt ↦ elim (cases_eq p two) [
        | inl is ↦ rw is keeps.faults_two
        | inr isnt_two ↦ (let same = ap (λ (d : Disk). d.faults) (keeps.others p isnt isnt_two) in omega (same, arith))
      ]
    ]

    pub but_passes : DiskPasses disk may_leave old new
    but_passes = record { told = told_at; faults = faults_at }

pub but_others : {D : Type 0} (disk : D → ℕ → Disk) (may_leave : D → ℕ → List ℕ → Type 0) (moment : D → ℕ) (left_since : D → ℕ → ℕ → List ℕ → Type 0) (old new : D) (centre : ℕ)
    → KeepsBut disk may_leave moment left_since old new centre (centre + 16) → KeepsOthers disk may_leave centre old new
but_others disk may_leave moment left_since old new centre keeps = record { others = keeps.others; crash = keeps.crash }

module _ {D : Type 0} (disk : D → ℕ → Disk) (may_leave : D → ℕ → List ℕ → Type 0) where
  -- a log that is durable has its facts after a crash
  pub durable_has : (disks : D) (log : Log) (next : List Fact) → IsDurable disk may_leave disks log
      → payloads (disk disks log.centre).bytes (disk disks (log.centre + 16)).bytes ≡ Ok (encodings_of log.facts) → MayHaveFacts disk may_leave disks log.centre log.facts next
  durable_has disks log next durable read first second left left_second =
      inl (ap (λ (bytes : List ℕ). payloads bytes second) (durable.first first left)
      ∙ (ap (λ (bytes : List ℕ). payloads (disk disks log.centre).bytes bytes) (durable.second second left_second) ∙ read))

  module _ (tears : ℕ → Type 0) where
    -- ---- nothing was done

    pub start_lacks : (every : ℕ) (cluster : Cluster) (centre : ℕ) (disks : D) → FailsToStart disk may_leave every tears cluster centre ServeFault.Memory disks disks
    start_lacks every cluster centre disks = record {
      of = tt;
      cause = tt;
      passes = disks_same disk may_leave disks;
      others = others_same disk may_leave centre disks;
      stays = log_stood disk may_leave tears cluster disks disks centre refl refl (λ c left. left) (λ c left. left);
      over = λ log of is. record { comes = tt; boots = tt; full = tt; kept = λ durable safe. durable_has disks log [] durable is.has };
    }
