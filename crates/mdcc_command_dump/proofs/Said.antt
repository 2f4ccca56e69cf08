-- Which log a dump refuses.
use Rattle.std.proofs.Common.{◌≡◌, ◌+◌, ◌∙◌, Err, IsTrue, List, Ok, Option, Result, ap, arith, inl, inr, refl, subst, sym, ℕ}
use Rattle.std.specs.Prelude.{IsErrAnd, is_ok}
use Rattle.mdcc_log_file.specs.Area.{payloads}
use Rattle.mdcc_log_file.specs.declared.fault.LogFault.{LogFault}
use Rattle.mdcc_disks.specs.Disks.{Disk}
use Rattle.mdcc_command_dump.specs.Commands.{as_done, of_dump}
use Rattle.mdcc_command_dump.specs.Dumps.{IsDumped, IsUndumped, IsUnopened}
use Rattle.mdcc_command_dump.specs.declared.fault.DumpFault.{DumpFault}
use Rattle.mdcc_command_endings.specs.Logs.{AreAreasTold, ComesBefore, IsFirstRefused, LogRefusal, SaysLogs, SaysRefused, node_booted_at, node_from, node_of, refusal_failure}
use Rattle.mdcc_node_log.specs.Nodes.{facts_at_boot}
use Rattle.mdcc_command_endings.specs.declared.fault.Failure.{Failure}
use Rattle.mdcc_def_messages.specs.declared.facts.Fact.{Fact}
use Rattle.mdcc_option.specs.declared.cluster.Cluster.{Cluster}
use Rattle.mdcc_node_log.specs.declared.fault.StartFault.{StartFault}
use Rattle.mdcc_def_rules.specs.declared.node.BootFault.{BootFault}

no_node : (r : Result (List Fact) LogRefusal) (why : LogRefusal) → r ≡ Err why → IsTrue (is_ok r) → ⊥
no_node (Ok facts) why is ok = absurd (cc)
no_node (Err other) why is ok = absurd (cc)

same_why : (r : Result (List Fact) LogRefusal) (why other : LogRefusal) → r ≡ Err why → r ≡ Err other → other ≡ why
same_why r why other is also = let both : Err other ≡ Err why = sym also ∙ is in cc

node_ok : (r : Result (List Fact) BootFault) (facts : List Fact) → r ≡ Ok facts → IsTrue (is_ok (node_of r))
node_ok r facts is = rw is refl

module _ (node : ℕ → Result (List Fact) LogRefusal) (centre : ℕ) where
  -- it is the only log
  alone : (a : ℕ) (why : LogRefusal) → IsFirstRefused node centre centre a why → a ≡ centre
  alone a why refused = let low = refused.from in let high = refused.to in omega (low, high, arith)

  its : (a : ℕ) (why : LogRefusal) → IsFirstRefused node centre centre a why → node centre ≡ Err why
  its a why refused = subst (λ (n : ℕ). node n ≡ Err why) (alone a why refused) refused.is

  first : (why : LogRefusal) → node centre ≡ Err why → IsFirstRefused node centre centre centre why
  first why is = record { from = omega arith; to = omega arith; before = λ b low high. absurd (omega (low, high, arith)); is = is }

  -- ---- what the dump ended in

  done_says : (done : Unit {0}) → IsTrue (is_ok (node centre)) → SaysLogs node centre centre (as_done centre (Ok done))
  done_says done ok = record { says = tt; refused = λ a why refused. absurd (no_node (node centre) why (its a why refused) ok) }

  -- its own refusal
  refused_says : (fault : DumpFault) (why : LogRefusal) → of_dump centre fault ≡ refusal_failure centre why → SaysRefused node centre centre (refusal_failure centre why) → node centre ≡ Err why
      → SaysLogs node centre centre (as_done centre (Err fault))
  refused_says fault why is says node_is = record {
    says = subst (λ (f : Failure). SaysRefused node centre centre f) (sym is) says;
    refused = λ a other refused.
        let same : why ≡ other = same_why (node centre) other why (its a other refused) node_is in
        inl (is ∙ (ap (refusal_failure centre) same ∙ ap (λ (n : ℕ). refusal_failure n other) (sym (alone a other refused))));
  }

  -- a disk failed
  disk_says : SaysLogs node centre centre (as_done centre (Err (DumpFault.Log (StartFault.Log LogFault.DiskFault))))
  disk_says = record { says = tt; refused = λ a why refused. inr (let same = alone a why refused in (omega arith, omega (same, arith))) }

  -- there was no memory
  memory_says : (fault : DumpFault) → of_dump centre fault ≡ Failure.Memory → SaysLogs node centre centre (as_done centre (Err fault))
  memory_says fault is = record {
    says = subst (λ (f : Failure). SaysRefused node centre centre f) (sym is) tt;
    refused = λ a why refused. inr (subst (λ (f : Failure). ComesBefore centre a f) (sym is) tt);
  }

  output_says : IsTrue (is_ok (node centre)) → SaysLogs node centre centre (as_done centre (Err DumpFault.Output))
  output_says ok = record { says = tt; refused = λ a why refused. absurd (no_node (node centre) why (its a why refused) ok) }

module _ {D : Type 0} (disk : D → ℕ → Disk) (cluster : Cluster) (disks new : D) (centre : ℕ) where
  abbrev node : ℕ → Result (List Fact) LogRefusal
  node = node_booted_at disk cluster disks

  abbrev read : Result (List (List ℕ)) ℕ
  read = payloads (disk disks centre).bytes (disk disks (centre + 16)).bytes

  -- it is a log
  log_says : (all : List (List ℕ)) (result : Result (Unit {0}) DumpFault) (before after : Option (List ℕ)) → read ≡ Ok all → IsDumped cluster all result before after → SaysLogs node centre centre (as_done centre result)
  log_says all result before after is dumped = by result dumped
    where
      node_is : node centre ≡ node_of (facts_at_boot cluster all)
      node_is = ap (node_from cluster) is

      ok : (facts : List Fact) → facts_at_boot cluster all ≡ Ok facts → IsTrue (is_ok (node centre))
      ok facts boots = subst (λ (r : Result (List Fact) LogRefusal). IsTrue (is_ok r)) (sym node_is) (node_ok (facts_at_boot cluster all) facts boots)

      none : (why : BootFault) → facts_at_boot cluster all ≡ Err why → node centre ≡ Err (LogRefusal.NoNode why)
      none why refused = node_is ∙ ap node_of refused

      by : (result : Result (Unit {0}) DumpFault) → IsDumped cluster all result before after → SaysLogs node centre centre (as_done centre result)
      by (Ok done) dumped = done_says node centre done (ok dumped.0.0 dumped.0.1)
      by (Err (DumpFault.Log (StartFault.Log LogFault.DiskFault))) dumped = disk_says node centre
      by (Err (DumpFault.Log (StartFault.Log (LogFault.NotALog n)))) dumped = absurd dumped.0
      by (Err (DumpFault.Log (StartFault.Log LogFault.LogFull))) dumped = absurd dumped.0
      by (Err (DumpFault.Log (StartFault.Log LogFault.Memory))) dumped = absurd dumped.0
      by (Err (DumpFault.Log (StartFault.Boot BootFault.Memory))) dumped = absurd dumped.0
      by (Err (DumpFault.Log (StartFault.Boot BootFault.Epochs))) dumped =
          refused_says node centre (DumpFault.Log (StartFault.Boot BootFault.Epochs)) (LogRefusal.NoNode BootFault.Epochs) refl (first node centre (LogRefusal.NoNode BootFault.Epochs) (none BootFault.Epochs dumped.0)) (none BootFault.Epochs dumped.0)
      by (Err (DumpFault.Log (StartFault.Boot (BootFault.NotARun n)))) dumped =
          refused_says node centre (DumpFault.Log (StartFault.Boot (BootFault.NotARun n))) (LogRefusal.NoNode (BootFault.NotARun n)) refl (first node centre (LogRefusal.NoNode (BootFault.NotARun n)) (none (BootFault.NotARun n) dumped.0)) (none (BootFault.NotARun n) dumped.0)
      by (Err (DumpFault.Log (StartFault.Boot (BootFault.Room needed cells)))) dumped =
          refused_says node centre (DumpFault.Log (StartFault.Boot (BootFault.Room needed cells))) (LogRefusal.NoNode (BootFault.Room needed cells)) refl (first node centre (LogRefusal.NoNode (BootFault.Room needed cells)) (none (BootFault.Room needed cells) dumped.0)) (none (BootFault.Room needed cells) dumped.0)
      by (Err (DumpFault.Log StartFault.Memory)) dumped = memory_says node centre (DumpFault.Log StartFault.Memory) refl
      by (Err DumpFault.Output) dumped = output_says node centre (ok dumped.0.0 dumped.0.1)
      by (Err DumpFault.Memory) dumped = memory_says node centre DumpFault.Memory refl

  -- it is none
  none_says : (n : ℕ) (result : Result (Unit {0}) DumpFault) → read ≡ Err n → IsErrAnd result (λ fault. IsUndumped n fault centre disk disks new) → SaysLogs node centre centre (as_done centre result)
  none_says n result is undumped = by result undumped
    where
      node_is : node centre ≡ Err (LogRefusal.NotALog n)
      node_is = ap (node_from cluster) is

      by : (result : Result (Unit {0}) DumpFault) → IsErrAnd result (λ fault. IsUndumped n fault centre disk disks new) → SaysLogs node centre centre (as_done centre result)
      by (Ok done) undumped = absurd undumped
      by (Err (DumpFault.Log (StartFault.Log LogFault.DiskFault))) undumped = disk_says node centre
      by (Err (DumpFault.Log (StartFault.Log (LogFault.NotALog m)))) undumped =
          let its_node : node centre ≡ Err (LogRefusal.NotALog m) = node_is ∙ ap (λ (k : ℕ). let err : Result (List Fact) LogRefusal = Err (LogRefusal.NotALog k) in err) (sym undumped.0) in
          refused_says node centre (DumpFault.Log (StartFault.Log (LogFault.NotALog m))) (LogRefusal.NotALog m) refl (first node centre (LogRefusal.NotALog m) its_node) its_node
      by (Err (DumpFault.Log (StartFault.Log LogFault.LogFull))) undumped = absurd undumped
      by (Err (DumpFault.Log (StartFault.Log LogFault.Memory))) undumped = absurd undumped
      by (Err (DumpFault.Log (StartFault.Boot why))) undumped = absurd undumped
      by (Err (DumpFault.Log StartFault.Memory)) undumped = memory_says node centre (DumpFault.Log StartFault.Memory) refl
      by (Err DumpFault.Output) undumped = absurd undumped
      by (Err DumpFault.Memory) undumped = memory_says node centre DumpFault.Memory refl

  pub dump_says : (result : Result (Unit {0}) DumpFault) (done : Result (Unit {0}) Failure) (before after : Option (List ℕ)) → done ≡ as_done centre result
      → ((all : List (List ℕ)) → IsTrue (disk disks centre).told → IsTrue (disk disks (centre + 16)).told → read ≡ Ok all → IsDumped cluster all result before after)
      → ((n : ℕ) → IsTrue (disk disks centre).told → IsTrue (disk disks (centre + 16)).told → read ≡ Err n → IsUnopened n centre disk disks new result before after)
      → AreAreasTold disk disks centre → SaysLogs node centre centre done
  dump_says result done before after is dumps unread told =
      subst (λ (r : Result (Unit {0}) Failure). SaysLogs node centre centre r) (sym is) (by read refl)
    where
      by : (r : Result (List (List ℕ)) ℕ) → read ≡ r → SaysLogs node centre centre (as_done centre result)
      by (Ok all) e = log_says all result before after e (dumps all told.first told.second e)
      by (Err n) e = none_says n result e (unread n told.first told.second e).fault
