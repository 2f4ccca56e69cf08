-- Which log a server refuses, as a command has it.
use Rattle.std.proofs.Common.{◌≡◌, ℕ, ◌+◌, ◌≤◌, ◌<◌, Result, Ok, Err, IsTrue, List, sym, ◌∙◌, ap, subst, inl, inr, arith, ◌⊎◌}
use Rattle.std.proofs.lemmas.Bool.{cases_order}
use Rattle.std.specs.Prelude.{is_ok}
use Rattle.mdcc_log_file.specs.declared.fault.LogFault.{LogFault}
use Rattle.mdcc_disks.specs.Disks.{Disk}
use Rattle.mdcc_command_endings.specs.Logs.{AreAreasTold, ComesBefore, IsFirstRefused, LogRefusal, SaysLogs, SaysRefused, node_booted_at, refusal_failure}
use Rattle.mdcc_command_endings.specs.declared.fault.Failure.{Failure}
use Rattle.mdcc_def_messages.specs.declared.facts.Fact.{Fact}
use Rattle.mdcc_option.specs.declared.cluster.Cluster.{Cluster}
use Rattle.mdcc_def_rules.specs.declared.node.BootFault.{BootFault}
use Rattle.mdcc_serve.proofs.Untaken.{not_ok}
use Rattle.mdcc_serve.specs.Refusals.{AllBoot, EndsStarted, SaysAt, SaysOfLogs, StartEnds}
use Rattle.mdcc_serve.specs.declared.served.Served.{Served}
use Rattle.mdcc_command_serve.specs.Commands.{as_served, failure_of}
use Rattle.mdcc_serve_site.specs.declared.fault.ServeFault.{ServeFault}

-- ---- one node

same_why : (r : Result (List Fact) LogRefusal) (why other : LogRefusal) → r ≡ Err why → r ≡ Err other → other ≡ why
same_why r why other is also = let both : Err other ≡ Err why = sym also ∙ is in cc

module _ {D : Type 0} (disk : D → ℕ → Disk) (cluster : Cluster) (disks : D) (first last : ℕ) (told : (a : ℕ) → first ≤ a → a ≤ last → AreAreasTold disk disks a) where
  abbrev node : ℕ → Result (List Fact) LogRefusal
  node = node_booted_at disk cluster disks

  -- ---- what a failure says

  at_start : (a : ℕ) (why : LogRefusal) (ends : (fault : ServeFault) × StartEnds disk cluster disks first (last + 1) fault) → a ≡ ends.1.at → node ends.1.at ≡ Err why → IsFirstRefused node first last a why
  at_start a why ends same is =
      let start = ends.1 in
      subst (λ (n : ℕ). IsFirstRefused node first last n why) (sym same) (record {
        from = start.from;
        to = (let high = start.to in omega (high, arith));
        before = λ b low high. start.before b low high (told b low (let less = start.to in omega (high, less, arith)));
        is = is;
      })

  told_at : {fault : ServeFault} (start : StartEnds disk cluster disks first (last + 1) fault) → AreAreasTold disk disks start.at
  told_at start = told start.at start.from (let high = start.to in omega (high, arith))

  start_says : (fault : ServeFault) → StartEnds disk cluster disks first (last + 1) fault → SaysRefused node first last (failure_of fault)
  start_says (ServeFault.Disk b) start = tt
  start_says (ServeFault.Log b (LogFault.NotALog n)) start = let says = start.says (told_at start) in at_start b (LogRefusal.NotALog n) (_, start) says.0 says.1
  start_says (ServeFault.Log b LogFault.LogFull) start = tt
  start_says (ServeFault.Log b LogFault.DiskFault) start = tt
  start_says (ServeFault.Log b LogFault.Memory) start = tt
  start_says (ServeFault.Boot b BootFault.Epochs) start = at_start b (LogRefusal.NoNode BootFault.Epochs) (_, start) start.says.0 (start.says.1 (told_at start))
  start_says (ServeFault.Boot b (BootFault.NotARun n)) start = at_start b (LogRefusal.NoNode (BootFault.NotARun n)) (_, start) start.says.0 (start.says.1 (told_at start))
  start_says (ServeFault.Boot b (BootFault.Room needed cells)) start = at_start b (LogRefusal.NoNode (BootFault.Room needed cells)) (_, start) start.says.0 (start.says.1 (told_at start))
  start_says (ServeFault.Boot b BootFault.Memory) start = absurd start.says
  start_says ServeFault.Link start = tt
  start_says ServeFault.Output start = tt
  start_says ServeFault.Serial start = tt
  start_says ServeFault.Memory start = tt

  later_says : (fault : ServeFault) → EndsStarted disk cluster disks first (last + 1) fault → SaysRefused node first last (failure_of fault)
  later_says (ServeFault.Disk b) ends = tt
  later_says (ServeFault.Log b (LogFault.NotALog n)) ends = absurd (ends.may (λ a low high. told a low (omega (high, arith))))
  later_says (ServeFault.Log b LogFault.LogFull) ends = tt
  later_says (ServeFault.Log b LogFault.DiskFault) ends = tt
  later_says (ServeFault.Log b LogFault.Memory) ends = tt
  later_says (ServeFault.Boot b why) ends = absurd ends.may
  later_says ServeFault.Link ends = tt
  later_says ServeFault.Output ends = tt
  later_says ServeFault.Serial ends = tt
  later_says ServeFault.Memory ends = tt

  -- ---- what is said of a log that is refused

  module _ (a : ℕ) (why : LogRefusal) (refused : IsFirstRefused node first last a why) where
    none_boots : AllBoot disk cluster disks first (last + 1) → ⊥
    none_boots all = let high = refused.to in not_ok (node a) why refused.is (all a refused.from (omega (high, arith)) (told a refused.from refused.to))

    -- a start before it
    before_it : (b : ℕ) (fault : ServeFault) → first ≤ b → b < a → SaysAt disk cluster disks b fault → ComesBefore first a (failure_of fault)
    before_it b fault low high says = by fault says
      where
        ok : IsTrue (is_ok (node b))
        ok = refused.before b low high

        known : AreAreasTold disk disks b
        known = told b low (let to = refused.to in omega (high, to, arith))

        by : (fault : ServeFault) → SaysAt disk cluster disks b fault → ComesBefore first a (failure_of fault)
        by (ServeFault.Disk c) says = (omega (low, says, arith), omega (high, says, arith))
        by (ServeFault.Log c (LogFault.NotALog n)) says = absurd (not_ok (node b) _ (says known).1 ok)
        by (ServeFault.Log c LogFault.LogFull) says = (let same = says.0 in (omega (low, same, arith), omega (high, same, arith)))
        by (ServeFault.Log c LogFault.DiskFault) says = absurd says
        by (ServeFault.Log c LogFault.Memory) says = absurd says
        by (ServeFault.Boot c BootFault.Epochs) says = absurd (not_ok (node b) _ (says.1 known) ok)
        by (ServeFault.Boot c (BootFault.NotARun n)) says = absurd (not_ok (node b) _ (says.1 known) ok)
        by (ServeFault.Boot c (BootFault.Room needed cells)) says = absurd (not_ok (node b) _ (says.1 known) ok)
        by (ServeFault.Boot c BootFault.Memory) says = absurd says
        by ServeFault.Link says = absurd says
        by ServeFault.Output says = absurd says
        by ServeFault.Serial says = absurd says
        by ServeFault.Memory says = tt

    -- its own
    abbrev Refuses : ServeFault → Type 0
    Refuses fault = (failure_of fault ≡ refusal_failure a why) ⊎ ComesBefore first a (failure_of fault)

    refuses_none : (b n : ℕ) → b ≡ a → node a ≡ Err (LogRefusal.NotALog n) → Refuses (ServeFault.Log b (LogFault.NotALog n))
    refuses_none b n same is =
        let e : LogRefusal.NotALog n ≡ why = same_why (node a) why (LogRefusal.NotALog n) refused.is is in
        inl (ap (λ (m : ℕ). Failure.Log m (LogFault.NotALog n)) same ∙ ap (refusal_failure a) e)

    refuses_node : (b : ℕ) (fault : BootFault) → b ≡ a → node a ≡ Err (LogRefusal.NoNode fault) → Refuses (ServeFault.Boot b fault)
    refuses_node b fault same is =
        let e : LogRefusal.NoNode fault ≡ why = same_why (node a) why (LogRefusal.NoNode fault) refused.is is in
        inl (ap (λ (m : ℕ). Failure.Boot m fault) same ∙ ap (refusal_failure a) e)

    own : (fault : ServeFault) → SaysAt disk cluster disks a fault → Refuses fault
    own (ServeFault.Disk c) says = inr (let low = refused.from in (omega (low, says, arith), omega (says, arith)))
    own (ServeFault.Log c (LogFault.NotALog n)) says = let is = says (told a refused.from refused.to) in refuses_none c n is.0 is.1
    own (ServeFault.Log c LogFault.LogFull) says = absurd (not_ok (node a) why refused.is (says.1 (told a refused.from refused.to)))
    own (ServeFault.Log c LogFault.DiskFault) says = absurd says
    own (ServeFault.Log c LogFault.Memory) says = absurd says
    own (ServeFault.Boot c BootFault.Epochs) says = refuses_node c BootFault.Epochs says.0 (says.1 (told a refused.from refused.to))
    own (ServeFault.Boot c (BootFault.NotARun n)) says = refuses_node c (BootFault.NotARun n) says.0 (says.1 (told a refused.from refused.to))
    own (ServeFault.Boot c (BootFault.Room needed cells)) says = refuses_node c (BootFault.Room needed cells) says.0 (says.1 (told a refused.from refused.to))
    own (ServeFault.Boot c BootFault.Memory) says = absurd says
    own ServeFault.Link says = absurd says
    own ServeFault.Output says = absurd says
    own ServeFault.Serial says = absurd says
    own ServeFault.Memory says = inr tt

    at_place : (fault : ServeFault) (start : StartEnds disk cluster disks first (last + 1) fault) → (start.at ≡ a) ⊎ ((start.at < a) ⊎ (a < start.at)) → Refuses fault
    at_place fault start (inl same) = own fault (subst (λ (n : ℕ). SaysAt disk cluster disks n fault) same start.says)
    at_place fault start (inr (inl before)) = inr (before_it start.at fault start.from before start.says)
    at_place fault start (inr (inr after)) = absurd (not_ok (node a) why refused.is (start.before a refused.from after (told a refused.from refused.to)))

    refuses : (fault : ServeFault) → StartEnds disk cluster disks first (last + 1) fault ⊎ EndsStarted disk cluster disks first (last + 1) fault → Refuses fault
    refuses fault (inl start) = at_place fault start (cases_order start.at a)
    refuses fault (inr ends) = absurd (none_boots ends.boots)

  -- ---- all of it

  pub says_logs : (result : Result Served ServeFault) → SaysOfLogs disk cluster disks first (last + 1) result → SaysLogs node first last (as_served result)
  says_logs (Ok served) all = record { says = tt; refused = λ a why refused. absurd (none_boots a why refused all) }
  says_logs (Err fault) ends = record { says = said ends; refused = λ a why refused. refuses a why refused fault ends }
    where
      said : StartEnds disk cluster disks first (last + 1) fault ⊎ EndsStarted disk cluster disks first (last + 1) fault → SaysRefused node first last (failure_of fault)
      said (inl start) = start_says fault start
      said (inr later) = later_says fault later

  -- what the command did is what its server did
  pub says_served : (result : Result Served ServeFault) (served : Result Served Failure) → served ≡ as_served result → SaysOfLogs disk cluster disks first (last + 1) result → SaysLogs node first last served
  says_served result served is ends = subst (λ (r : Result Served Failure). SaysLogs node first last r) (sym is) (says_logs result ends)

-- the centre alone
pub told_alone : {D : Type 0} (disk : D → ℕ → Disk) (disks : D) (centre : ℕ) → AreAreasTold disk disks centre → (a : ℕ) → centre ≤ a → a ≤ centre → AreAreasTold disk disks a
told_alone disk disks centre told a low high = let same : centre ≡ a = omega (low, high, arith) in subst (AreAreasTold disk disks) same told
