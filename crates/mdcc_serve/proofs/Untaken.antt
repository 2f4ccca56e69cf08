-- Where a log is refused nothing else was done.
use Rattle.std.proofs.Common.{◌≡◌, ℕ, ◌+◌, List, Option, Result, Ok, Err, IsTrue, refl, subst, inl, inr, arith}
use Rattle.std.specs.Prelude.{IfErr, is_ok}
use Rattle.mdcc_disks.specs.Disks.{Disk}
use Rattle.mdcc_command_endings.specs.Logs.{AreAreasTold, LogRefusal, node_booted_at}
use Rattle.mdcc_link.specs.Link.{LinkCall}
use Rattle.mdcc_log_file.specs.declared.fault.LogFault.{LogFault}
use Rattle.mdcc_def_messages.specs.declared.facts.Fact.{Fact}
use Rattle.mdcc_option.specs.declared.cluster.Cluster.{Cluster}
use Rattle.mdcc_def_rules.specs.declared.node.BootFault.{BootFault}
use Rattle.mdcc_def_server_runs.specs.Acts.{Act}
use Rattle.mdcc_serve.specs.Openings.{BindsSome, LinesSome}
use Rattle.mdcc_serve.specs.Refusals.{AllBoot, AreTold, MayFollow, SaysAt, SaysOfLogs}
use Rattle.mdcc_serve.specs.Stays.{AllStay, HasRefused, IsLogRefused, UnlessDiskFault}
use Rattle.mdcc_serve_site.specs.declared.fault.ServeFault.{ServeFault}

-- ---- once all are started no log is refused

pub bind_refuses : {L : Type 0} (calls : L → Option (List LinkCall)) (lost faults : L → ℕ) (acts : List Act) (fault : ServeFault) (old new : L) → BindsSome calls lost faults acts fault old new → IsLogRefused fault → ⊥
bind_refuses calls lost faults acts fault old new stop refused = subst IsLogRefused stop.is refused

pub line_refuses : {O : Type 0} (held : O → Option (List ℕ)) (faults : O → ℕ) (acts : List Act) (fault : ServeFault) (old new : O) → LinesSome held faults acts fault old new → IsLogRefused fault → ⊥
line_refuses held faults acts fault old new stop refused = elim stop.comes [
  | inl is ↦ subst IsLogRefused is refused
  | inr failed ↦ subst IsLogRefused failed.0 refused
]

-- ---- before

pub start_refuses : {D L O : Type 0} (disk : D → ℕ → Disk) (may_leave : D → ℕ → List ℕ → Type 0) (tears : ℕ → Type 0) (cluster : Cluster) (calls : L → Option (List LinkCall)) (lost : L → ℕ) (first end : ℕ) (old new : D) (link : L) (out : O) (fault : ServeFault)
    → UnlessDiskFault fault (AllStay disk may_leave tears cluster old new first end) → IsLogRefused fault → HasRefused disk may_leave tears calls lost cluster first end old new link link out out
start_refuses disk may_leave tears cluster calls lost first end old new link out (ServeFault.Disk a) stay refused = absurd refused
start_refuses disk may_leave tears cluster calls lost first end old new link out (ServeFault.Log a fault) stay refused = record { link = refl; sends = refl; output = refl; logs = stay }
start_refuses disk may_leave tears cluster calls lost first end old new link out (ServeFault.Boot a why) stay refused = record { link = refl; sends = refl; output = refl; logs = stay }
start_refuses disk may_leave tears cluster calls lost first end old new link out ServeFault.Link stay refused = absurd refused
start_refuses disk may_leave tears cluster calls lost first end old new link out ServeFault.Output stay refused = absurd refused
start_refuses disk may_leave tears cluster calls lost first end old new link out ServeFault.Serial stay refused = absurd refused
start_refuses disk may_leave tears cluster calls lost first end old new link out ServeFault.Memory stay refused = absurd refused

-- ---- after

-- from what gives no node none boots
pub not_ok : (r : Result (List Fact) LogRefusal) (why : LogRefusal) → r ≡ Err why → IsTrue (is_ok r) → ⊥
not_ok (Ok facts) why is ok = absurd (cc)
not_ok (Err other) why is ok = absurd (cc)

module _ {D : Type 0} (disk : D → ℕ → Disk) (cluster : Cluster) where
  says_no : (disks : D) (first end at : ℕ) (fault : ServeFault) → IsTrue (is_ok (node_booted_at disk cluster disks at)) → SaysAt disk cluster disks at fault → (AreTold disk cluster disks first end → AreAreasTold disk disks at) → IsLogRefused fault → AreTold disk cluster disks first end → ⊥
  says_no disks first end at (ServeFault.Disk a) ok says known refused told = refused
  says_no disks first end at (ServeFault.Log a (LogFault.NotALog offset)) ok says known refused told = not_ok (node_booted_at disk cluster disks at) (LogRefusal.NotALog offset) (says (known told)).1 ok
  says_no disks first end at (ServeFault.Log a LogFault.LogFull) ok says known refused told = refused
  says_no disks first end at (ServeFault.Log a LogFault.DiskFault) ok says known refused told = refused
  says_no disks first end at (ServeFault.Log a LogFault.Memory) ok says known refused told = refused
  says_no disks first end at (ServeFault.Boot a BootFault.Memory) ok says known refused told = says
  says_no disks first end at (ServeFault.Boot a BootFault.Epochs) ok says known refused told = not_ok (node_booted_at disk cluster disks at) (LogRefusal.NoNode BootFault.Epochs) (says.1 (known told)) ok
  says_no disks first end at (ServeFault.Boot a (BootFault.NotARun n)) ok says known refused told = not_ok (node_booted_at disk cluster disks at) (LogRefusal.NoNode (BootFault.NotARun n)) (says.1 (known told)) ok
  says_no disks first end at (ServeFault.Boot a (BootFault.Room needed cells)) ok says known refused told = not_ok (node_booted_at disk cluster disks at) (LogRefusal.NoNode (BootFault.Room needed cells)) (says.1 (known told)) ok
  says_no disks first end at ServeFault.Link ok says known refused told = refused
  says_no disks first end at ServeFault.Output ok says known refused told = refused
  says_no disks first end at ServeFault.Serial ok says known refused told = refused
  says_no disks first end at ServeFault.Memory ok says known refused told = refused

  follows_no : (disks : D) (first end : ℕ) (fault : ServeFault) → MayFollow disk cluster disks first end fault → IsLogRefused fault → AreTold disk cluster disks first end → ⊥
  follows_no disks first end (ServeFault.Disk a) may refused told = refused
  follows_no disks first end (ServeFault.Log a (LogFault.NotALog offset)) may refused told = may told
  follows_no disks first end (ServeFault.Log a LogFault.LogFull) may refused told = refused
  follows_no disks first end (ServeFault.Log a LogFault.DiskFault) may refused told = refused
  follows_no disks first end (ServeFault.Log a LogFault.Memory) may refused told = refused
  follows_no disks first end (ServeFault.Boot a why) may refused told = may
  follows_no disks first end ServeFault.Link may refused told = refused
  follows_no disks first end ServeFault.Output may refused told = refused
  follows_no disks first end ServeFault.Serial may refused told = refused
  follows_no disks first end ServeFault.Memory may refused told = refused

  pub none_refuses : {T : Type 0} (disks : D) (first end : ℕ) (result : Result T ServeFault) (X : Type 0) → AllBoot disk cluster disks first end → SaysOfLogs disk cluster disks first end result
      → IfErr result (λ fault. IsLogRefused fault → AreTold disk cluster disks first end → X)
  none_refuses disks first end (Ok done) X all says = tt
  none_refuses disks first end (Err fault) X all (inl ends) = λ refused told.
      absurd (says_no disks first end ends.at fault (all ends.at ends.from ends.to (told ends.at ends.from ends.to)) ends.says (λ known. known ends.at ends.from ends.to) refused told)
  none_refuses disks first end (Err fault) X all (inr ends) = λ refused told. absurd (follows_no disks first end fault ends.may refused told)

-- ---- of one centre

pub one_refuses : {D L O T : Type 0} (disk : D → ℕ → Disk) (may_leave : D → ℕ → List ℕ → Type 0) (tears : ℕ → Type 0) (calls : L → Option (List LinkCall)) (lost : L → ℕ) (cluster : Cluster) (first centre : ℕ) (old new : D) (link link_new : L) (out out_new : O) (result : Result T ServeFault) → first ≡ centre
    → IfErr result (λ fault. IsLogRefused fault → AreTold disk cluster old first (first + 1) → HasRefused disk may_leave tears calls lost cluster first (first + 1) old new link link_new out out_new)
    → IfErr result (λ fault. IsLogRefused fault → AreAreasTold disk old centre → HasRefused disk may_leave tears calls lost cluster centre (centre + 1) old new link link_new out out_new)
one_refuses disk may_leave tears calls lost cluster first centre old new link link_new out out_new (Ok done) is h = tt
one_refuses disk may_leave tears calls lost cluster first centre old new link link_new out out_new (Err fault) is h = λ refused told.
    subst (λ (n : ℕ). HasRefused disk may_leave tears calls lost cluster n (n + 1) old new link link_new out out_new) is
    (h refused (λ a low high. (let same : centre ≡ a = omega (is, low, high, arith) in subst (AreAreasTold disk old) same told)))
