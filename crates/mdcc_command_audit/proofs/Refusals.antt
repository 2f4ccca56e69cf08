-- Which log is said to be refused.
use Rattle.std.proofs.Common.{◌≡◌, ◌∙◌, ◌+◌, ◌<◌, ◌≤◌, Bool, Err, IsTrue, List, Ok, Result, ap, arith, false, inl, inr, nat_lt, refl, subst, sym, true, ℕ}
use Rattle.std.proofs.lemmas.Bool.{ltb-false, ltb-true}
use Rattle.std.specs.Prelude.{IfErr, is_ok}
use Rattle.mdcc_command_audit.proofs.Facts.{log_is}
use Rattle.mdcc_command_audit.specs.Audits.{BootsAt, IsCentreUpTo, SaysAt, UnlessDisk, facts_in, log_on, of_start}
use Rattle.mdcc_node_log.specs.Nodes.{facts_at_boot}
use Rattle.mdcc_node_log.specs.Opening.{HasBooted, IsOpeningFault, IsUnbooted, StandsUnlessDisk}
use Rattle.mdcc_node_log.specs.Starting.{IsUnread}
use Rattle.mdcc_node_log.specs.declared.fault.StartFault.{StartFault}
use Rattle.mdcc_disks.specs.Disks.{Disk}
use Rattle.mdcc_command_endings.specs.Logs.{AreAreasTold, IsFirstRefused, LogRefusal, SaysLogs, SaysRefused, node_booted_at, node_from, node_of, refusal_failure}
use Rattle.mdcc_command_endings.specs.declared.fault.Failure.{Failure}
use Rattle.mdcc_log_file.specs.Area.{payloads}
use Rattle.mdcc_log_file.specs.declared.fault.LogFault.{LogFault}
use Rattle.mdcc_def_messages.specs.declared.facts.Fact.{Fact}
use Rattle.mdcc_option.specs.declared.cluster.Cluster.{Cluster}
use Rattle.mdcc_def_rules.specs.declared.node.BootFault.{BootFault}

no_node : (r : Result (List Fact) LogRefusal) (why : LogRefusal) → r ≡ Err why → IsTrue (is_ok r) → ⊥
no_node (Ok facts) why is ok = absurd (cc)
no_node (Err other) why is ok = absurd (cc)

-- ---- one log

node_ok : (r : Result (List Fact) BootFault) (facts : List Fact) → r ≡ Ok facts → IsTrue (is_ok (node_of r))
node_ok r facts is = rw is refl

module _ {D : Type 0} (disk : D → ℕ → Disk) (cluster : Cluster) (disks new : D) (a : ℕ) where
  abbrev read : Result (List (List ℕ)) ℕ
  read = payloads (disk disks a).bytes (disk disks (a + 16)).bytes

  pub boots_at : (all : List (List ℕ)) → read ≡ Ok all → HasBooted cluster all → IsTrue (is_ok (node_booted_at disk cluster disks a))
  boots_at all is boots =
      subst (λ (r : Result (List Fact) LogRefusal). IsTrue (is_ok r)) (sym (ap (node_from cluster) is)) (node_ok (facts_at_boot cluster all) boots.0 boots.1)

  -- what its opening says, by what is read there
  pub log_at : (all : List (List ℕ)) (fault : StartFault) → read ≡ Ok all → IsUnbooted cluster all fault → SaysAt disk cluster disks a (of_start a fault)
  log_at all (StartFault.Log LogFault.DiskFault) is none = refl
  log_at all (StartFault.Log (LogFault.NotALog n)) is none = absurd none
  log_at all (StartFault.Log LogFault.LogFull) is none = absurd none
  log_at all (StartFault.Log LogFault.Memory) is none = absurd none
  log_at all (StartFault.Boot BootFault.Memory) is none = absurd none
  log_at all (StartFault.Boot BootFault.Epochs) is none = (refl, λ told. ap (node_from cluster) is ∙ ap node_of none)
  log_at all (StartFault.Boot (BootFault.NotARun n)) is none = (refl, λ told. ap (node_from cluster) is ∙ ap node_of none)
  log_at all (StartFault.Boot (BootFault.Room needed cells)) is none = (refl, λ told. ap (node_from cluster) is ∙ ap node_of none)
  log_at all StartFault.Memory is none = tt

  pub none_at : (n : ℕ) (fault : StartFault) → read ≡ Err n → IsUnread n fault a disk disks new → SaysAt disk cluster disks a (of_start a fault)
  none_at n (StartFault.Log LogFault.DiskFault) is none = refl
  none_at n (StartFault.Log (LogFault.NotALog m)) is none =
      (refl, λ told. ap (node_from cluster) is ∙ ap (λ (k : ℕ). let err : Result (List Fact) LogRefusal = Err (LogRefusal.NotALog k) in err) (sym none.0))
  none_at n (StartFault.Log LogFault.LogFull) is none = absurd none
  none_at n (StartFault.Log LogFault.Memory) is none = absurd none
  none_at n (StartFault.Boot why) is none = absurd none
  none_at n StartFault.Memory is none = tt

  -- and where nothing is known of it
  unknown_at : (fault : StartFault) → IsOpeningFault fault → (AreAreasTold disk disks a → ⊥) → SaysAt disk cluster disks a (of_start a fault)
  unknown_at (StartFault.Log LogFault.DiskFault) may none = refl
  unknown_at (StartFault.Log (LogFault.NotALog n)) may none = (refl, λ told. absurd (none told))
  unknown_at (StartFault.Log LogFault.LogFull) may none = absurd may
  unknown_at (StartFault.Log LogFault.Memory) may none = absurd may
  unknown_at (StartFault.Boot BootFault.Memory) may none = absurd may
  unknown_at (StartFault.Boot BootFault.Epochs) may none = (refl, λ told. absurd (none told))
  unknown_at (StartFault.Boot (BootFault.NotARun n)) may none = (refl, λ told. absurd (none told))
  unknown_at (StartFault.Boot (BootFault.Room needed cells)) may none = (refl, λ told. absurd (none told))
  unknown_at StartFault.Memory may none = tt

  pub opening_says : (fault : StartFault) → IsOpeningFault fault
      → ((all : List (List ℕ)) → IsTrue (disk disks a).told → IsTrue (disk disks (a + 16)).told → read ≡ Ok all → IsUnbooted cluster all fault)
      → ((n : ℕ) → IsTrue (disk disks a).told → IsTrue (disk disks (a + 16)).told → read ≡ Err n → IsUnread n fault a disk disks new)
      → SaysAt disk cluster disks a (of_start a fault)
  opening_says fault may refused unread = by_told (disk disks a).told (disk disks (a + 16)).told refl refl
    where
      by : AreAreasTold disk disks a → (r : Result (List (List ℕ)) ℕ) → read ≡ r → SaysAt disk cluster disks a (of_start a fault)
      by told (Ok all) is = log_at all fault is (refused all told.first told.second is)
      by told (Err n) is = none_at n fault is (unread n told.first told.second is)

      not_both : (b : Bool) → b ≡ false → IsTrue b → ⊥
      not_both true is h = absurd (cc)
      not_both false is h = absurd (cc)

      by_told : (one two : Bool) → (disk disks a).told ≡ one → (disk disks (a + 16)).told ≡ two → SaysAt disk cluster disks a (of_start a fault)
      by_told true true e f = by (record { first = e; second = f }) read refl
      by_told true false e f = unknown_at fault may (λ told. not_both (disk disks (a + 16)).told f told.second)
      by_told false two e f = unknown_at fault may (λ told. not_both (disk disks a).told e told.first)

  pub booting_says : (found : List (List ℕ)) → ((all : List (List ℕ)) → IsTrue (disk disks a).told → IsTrue (disk disks (a + 16)).told → read ≡ Ok all → (found ≡ all) × HasBooted cluster all)
      → ((n : ℕ) → IsTrue (disk disks a).told → IsTrue (disk disks (a + 16)).told → read ≡ Err n → ⊥) → BootsAt disk cluster disks a
  booting_says found is unread told = by read refl
    where
      by : (r : Result (List (List ℕ)) ℕ) → read ≡ r → IsTrue (is_ok (node_booted_at disk cluster disks a))
      by (Ok all) e = boots_at all e (is all told.first told.second e).1
      by (Err n) e = absurd (unread n told.first told.second e)

  -- and its facts are those that were found
  pub facts_found : (found : List (List ℕ)) → ((all : List (List ℕ)) → IsTrue (disk disks a).told → IsTrue (disk disks (a + 16)).told → read ≡ Ok all → (found ≡ all) × HasBooted cluster all)
      → ((n : ℕ) → IsTrue (disk disks a).told → IsTrue (disk disks (a + 16)).told → read ≡ Err n → ⊥) → AreAreasTold disk disks a → log_on disk disks a ≡ facts_in found
  facts_found found is unread told = by read refl
    where
      by : (r : Result (List (List ℕ)) ℕ) → read ≡ r → log_on disk disks a ≡ facts_in found
      by (Ok all) e = log_is disk disks a all e ∙ ap facts_in (sym (is all told.first told.second e).0)
      by (Err n) e = absurd (unread n told.first told.second e)

-- its failure by that of its opening
pub disk_started : (centre a : ℕ) (fault : StartFault) → of_start centre fault ≡ Failure.Log a LogFault.DiskFault → (centre ≡ a) × (fault ≡ StartFault.Log LogFault.DiskFault)
disk_started centre a (StartFault.Log fault) e =
    let same : Failure.Log centre fault ≡ Failure.Log a LogFault.DiskFault = cc in
    let failed : fault ≡ LogFault.DiskFault = cc in
    (cc, rw failed refl)
disk_started centre a (StartFault.Boot fault) e = absurd (cc)
disk_started centre a StartFault.Memory e = absurd (cc)

keeps_at : (T U : Type 0) (centre : ℕ) (fault : StartFault) (P : Type 0) → StandsUnlessDisk {T = T} (Err fault) P → UnlessDisk {T = U} (Err (of_start centre fault)) P
keeps_at T U centre (StartFault.Log LogFault.DiskFault) P h = tt
keeps_at T U centre (StartFault.Log (LogFault.NotALog n)) P h = h
keeps_at T U centre (StartFault.Log LogFault.LogFull) P h = h
keeps_at T U centre (StartFault.Log LogFault.Memory) P h = h
keeps_at T U centre (StartFault.Boot fault) P h = h
keeps_at T U centre StartFault.Memory P h = h

pub keeps_started : {T U : Type 0} (opened : Result T StartFault) (result : Result U Failure) (centre : ℕ) (fault : StartFault) (P : Type 0) → opened ≡ Err fault → result ≡ Err (of_start centre fault)
    → StandsUnlessDisk opened P → UnlessDisk result P
keeps_started {T} {U} opened result centre fault P was is h =
    subst (λ (r : Result U Failure). UnlessDisk r P) (sym is) (keeps_at T U centre fault P (subst (λ (r : Result T StartFault). StandsUnlessDisk r P) was h))

-- ---- at disks that are as they were

module _ {D : Type 0} (disk : D → ℕ → Disk) (cluster : Cluster) (old mid : D) (a : ℕ) (one : disk mid a ≡ disk old a) (two : disk mid (a + 16) ≡ disk old (a + 16)) where
  pub told_still : AreAreasTold disk old a → AreAreasTold disk mid a
  told_still told = record {
    first = subst (λ (d : Disk). IsTrue d.told) (sym one) told.first;
    second = subst (λ (d : Disk). IsTrue d.told) (sym two) told.second;
  }

  pub read_still : payloads (disk mid a).bytes (disk mid (a + 16)).bytes ≡ payloads (disk old a).bytes (disk old (a + 16)).bytes
  read_still =
      ap (λ (d : Disk). payloads d.bytes (disk mid (a + 16)).bytes) one
      ∙ ap (λ (d : Disk). payloads (disk old a).bytes d.bytes) two

  node_still : node_booted_at disk cluster mid a ≡ node_booted_at disk cluster old a
  node_still = ap (node_from cluster) read_still

  pub boots_still : BootsAt disk cluster mid a → BootsAt disk cluster old a
  boots_still boots told = subst (λ (r : Result (List Fact) LogRefusal). IsTrue (is_ok r)) node_still (boots (told_still told))

  pub says_still : (failure : Failure) → SaysAt disk cluster mid a failure → SaysAt disk cluster old a failure
  says_still (Failure.Log b LogFault.DiskFault) says = says
  says_still (Failure.Log b (LogFault.NotALog n)) says = (says.0, λ told. sym node_still ∙ says.1 (told_still told))
  says_still (Failure.Log b LogFault.LogFull) says = says
  says_still (Failure.Log b LogFault.Memory) says = says
  says_still (Failure.Boot b BootFault.Memory) says = says
  says_still (Failure.Boot b BootFault.Epochs) says = (says.0, λ told. sym node_still ∙ says.1 (told_still told))
  says_still (Failure.Boot b (BootFault.NotARun n)) says = (says.0, λ told. sym node_still ∙ says.1 (told_still told))
  says_still (Failure.Boot b (BootFault.Room needed cells)) says = (says.0, λ told. sym node_still ∙ says.1 (told_still told))
  says_still Failure.Memory says = says
  says_still (Failure.Input fault) says = says
  says_still (Failure.Config fault) says = says
  says_still Failure.Centre says = says
  says_still Failure.Link says = says
  says_still Failure.Serial says = says
  says_still Failure.Output says = says

-- ---- all logs

module _ (node : ℕ → Result (List Fact) LogRefusal) (last : ℕ) where
  -- nodes boot from all of them
  none_refused : (a : ℕ) (why : LogRefusal) → ((b : ℕ) → IsCentreUpTo last b → IsTrue (is_ok (node b))) → IsFirstRefused node 1 last a why → ⊥
  none_refused a why boots refused = no_node (node a) why refused.is (boots a (refused.from, refused.to))

  pub all_says : {T : Type 0} (done : Result T Failure) → IfErr done (SaysRefused node 1 last) → ((b : ℕ) → IsCentreUpTo last b → IsTrue (is_ok (node b))) → SaysLogs node 1 last done
  all_says done says boots = record { says = says; refused = λ a why refused. absurd (none_refused a why boots refused) }

  -- memory may lack at any time
  pub memory_says : {T : Type 0} → SaysLogs {T = T} node 1 last (Err Failure.Memory)
  memory_says = record { says = tt; refused = λ a why refused. inr tt }

  module _ (n : ℕ) (low : 1 ≤ n) (high : n ≤ last) (before : (b : ℕ) → 1 ≤ b → b < n → IsTrue (is_ok (node b))) where
    -- the one that is refused is no earlier
    no_earlier : (a : ℕ) (why : LogRefusal) → IsFirstRefused node 1 last a why → n ≤ a
    no_earlier a why refused = by (nat_lt a n) refl
      where
        by : (b : Bool) → nat_lt a n ≡ b → n ≤ a
        by true is = absurd (no_node (node a) why refused.is (before a refused.from (ltb-true a n is)))
        by false is = ltb-false a n is

    only : (a : ℕ) (why other : LogRefusal) → node n ≡ Err other → IsFirstRefused node 1 last a why → (a ≡ n) × (why ≡ other)
    only a why other is refused = by (nat_lt n a) refl
      where
        same : (b : ℕ) → b ≡ n → node b ≡ Err why → why ≡ other
        same b e its = let both : Err why ≡ Err other = sym its ∙ ap node e ∙ is in cc

        by : (b : Bool) → nat_lt n a ≡ b → (a ≡ n) × (why ≡ other)
        by true later = absurd (no_node (node n) other is (refused.before n low (ltb-true n a later)))
        by false later =
            let le : a ≤ n = ltb-false n a later in
            let ge = no_earlier a why refused in
            let e : a ≡ n = omega (le, ge, arith) in
            (e, same a e refused.is)

    first : (why : LogRefusal) → node n ≡ Err why → IsFirstRefused node 1 last n why
    first why is = record { from = low; to = high; before = before; is = is }

    -- it is refused
    refused_says : {T : Type 0} (why : LogRefusal) → node n ≡ Err why → SaysRefused node 1 last (refusal_failure n why) → SaysLogs {T = T} node 1 last (Err (refusal_failure n why))
    refused_says why is says = record {
      says = says;
      refused = λ a other refused. let same = only a other why is refused in inl (sym (ap (λ (w : LogRefusal). refusal_failure n w) same.1) ∙ sym (ap (λ (k : ℕ). refusal_failure k other) same.0));
    }

    -- one of its disks failed
    disk_says : {T : Type 0} → SaysLogs {T = T} node 1 last (Err (Failure.Log n LogFault.DiskFault))
    disk_says = record { says = tt; refused = λ a why refused. inr (low, no_earlier a why refused) }

    abbrev Its : LogRefusal → Type 0
    Its why = node n ≡ Err why

    pub failed_says : {T : Type 0} {D : Type 0} (disk : D → ℕ → Disk) (cluster : Cluster) (disks : D) → node ≡ node_booted_at disk cluster disks → AreAreasTold disk disks n → (failure : Failure) → SaysAt disk cluster disks n failure → SaysLogs {T = T} node 1 last (Err failure)
    failed_says {T} disk cluster disks is told failure says = by failure says
      where
        its : (why : LogRefusal) → node_booted_at disk cluster disks n ≡ Err why → node n ≡ Err why
        its why e = ap (λ (f : ℕ → Result (List Fact) LogRefusal). f n) is ∙ e

        at : (b : ℕ) (of : ℕ → Failure) → b ≡ n → SaysLogs {T = T} node 1 last (Err (of n)) → SaysLogs {T = T} node 1 last (Err (of b))
        at b of e says = subst (λ (k : ℕ). SaysLogs {T = T} node 1 last (Err (of k))) (sym e) says

        by : (failure : Failure) → SaysAt disk cluster disks n failure → SaysLogs {T = T} node 1 last (Err failure)
        by (Failure.Log b LogFault.DiskFault) says = at b (λ k. Failure.Log k LogFault.DiskFault) says disk_says
        by (Failure.Log b (LogFault.NotALog m)) says =
            let e = its (LogRefusal.NotALog m) (says.1 told) in
            at b (λ k. Failure.Log k (LogFault.NotALog m)) says.0 (refused_says (LogRefusal.NotALog m) e (first (LogRefusal.NotALog m) e))
        by (Failure.Log b LogFault.LogFull) says = absurd says
        by (Failure.Log b LogFault.Memory) says = absurd says
        by (Failure.Boot b BootFault.Memory) says = absurd says
        by (Failure.Boot b BootFault.Epochs) says =
            let e = its (LogRefusal.NoNode BootFault.Epochs) (says.1 told) in
            at b (λ k. Failure.Boot k BootFault.Epochs) says.0 (refused_says (LogRefusal.NoNode BootFault.Epochs) e (first (LogRefusal.NoNode BootFault.Epochs) e))
        by (Failure.Boot b (BootFault.NotARun m)) says =
            let e = its (LogRefusal.NoNode (BootFault.NotARun m)) (says.1 told) in
            at b (λ k. Failure.Boot k (BootFault.NotARun m)) says.0 (refused_says (LogRefusal.NoNode (BootFault.NotARun m)) e (first (LogRefusal.NoNode (BootFault.NotARun m)) e))
        by (Failure.Boot b (BootFault.Room needed cells)) says =
            let e = its (LogRefusal.NoNode (BootFault.Room needed cells)) (says.1 told) in
            at b (λ k. Failure.Boot k (BootFault.Room needed cells)) says.0 (refused_says (LogRefusal.NoNode (BootFault.Room needed cells)) e (first (LogRefusal.NoNode (BootFault.Room needed cells)) e))
        by Failure.Memory says = memory_says
        by (Failure.Input fault) says = absurd says
        by (Failure.Config fault) says = absurd says
        by Failure.Centre says = absurd says
        by Failure.Link says = absurd says
        by Failure.Serial says = absurd says
        by Failure.Output says = absurd says
