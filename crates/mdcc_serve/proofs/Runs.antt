-- A centre that runs over its log, or why none does.
use Rattle.std.proofs.Common.{◌≡◌, ℕ, ◌+◌, ◌++◌, ◌∷◌, ◌<◌, [], List, IsTrue, Result, Ok, Err, refl, sym, ◌∙◌, ap, subst, inl, inr, true}
use Rattle.std.specs.Prelude.{is_ok}
use Rattle.mdcc_node_boot.specs.Boots.{BootsWithinCells}
use Rattle.mdcc_node_log.proofs.Kept.{rest_read}
use Rattle.mdcc_node_log.specs.Logged.{AreLogged}
use Rattle.mdcc_node_log.specs.Nodes.{CentreStore, are_stored, facts_at_boot, store_cells}
use Rattle.mdcc_node_log.specs.Payloads.{GivesNoNode, HasNoRoomForBoot, StartEnds, StartsFrom}
use Rattle.mdcc_node_log.specs.Starting.{AreasStand, HasLogRoom, IsAsBefore, IsLogOnDisks as IsLogRead, IsRefused, IsUnread, KeepsLog, KeepsUnlessDisk}
use Rattle.mdcc_node_log.specs.declared.fault.StartFault.{StartFault}
use Rattle.mdcc_node_log.specs.declared.starting.Running.{Running}
use Rattle.mdcc_disks.specs.Disks.{Disk, Only}
use Rattle.mdcc_command_endings.specs.Logs.{AreAreasTold, LogRefusal, node_booted_at, node_from, node_of}
use Rattle.mdcc_log.proofs.Groups.{full_one}
use Rattle.mdcc_log_file.specs.Area.{payloads}
use Rattle.mdcc_log.specs.AtRest.{IsAtRest}
use Rattle.mdcc_log_file.specs.Both.{RoseAtOne}
use Rattle.mdcc_log.specs.Crash.{CurrentIsRead, ReadsAsEither}
use Rattle.mdcc_log.specs.Frames.{OpenAreas}
use Rattle.mdcc_log.specs.Groups.{AreFull}
use Rattle.mdcc_log_file.specs.declared.fault.LogFault.{LogFault}
use Rattle.mdcc_def_messages.specs.Spelling.{encodings_of, fact_bytes}
use Rattle.mdcc_def_messages.specs.declared.facts.Fact.{Fact}
use Rattle.mdcc_option.specs.declared.cluster.Cluster.{Cluster}
use Rattle.mdcc_def_protocol.specs.Belongs.{is_centre}
use Rattle.mdcc_def_protocol.specs.IsCluster.{IsCluster}
use Rattle.mdcc_def_rules.specs.Boot.{next_boot}
use Rattle.mdcc_def_rules.specs.declared.node.BootFault.{BootFault}
use Rattle.mdcc_def_server_runs.specs.Servers.{Log}
use Rattle.mdcc_serve.proofs.Booted.{gives_node, gives_none}
use Rattle.mdcc_serve.proofs.Opened.{its_payloads, same_lists}
use Rattle.mdcc_serve.proofs.Refused.{node_read, none_read}
use Rattle.mdcc_serve.specs.Refusals.{BootsAt, SaysAt}
use Rattle.mdcc_serve.specs.Serving.{IsDurable, IsServedLog}
use Rattle.mdcc_serve.specs.Starts.{FailsToStart, GivesNoServer, GivesNode, IsRunning, boot_fault_of, start_fault_of, starting}
use Rattle.mdcc_serve.specs.Stays.{LogStays}
use Rattle.mdcc_serve_site.proofs.Logged.{next_are, rested}
use Rattle.mdcc_serve_site.specs.Causes.{IsBootRefused, in_flight}
use Rattle.mdcc_serve_site.specs.Logs.{MayHaveFacts}
use Rattle.mdcc_serve_site.specs.Moments.{DiskPasses, KeepsOthers}
use Rattle.mdcc_serve_site.specs.Room.{HasNoRoom}
use Rattle.mdcc_serve_site.specs.declared.fault.ServeFault.{ServeFault}
use Rattle.mdcc_theorem_encoding.specs.Laws.{FactsHaveOneSpelling, FactsReadAreWellFormed}
use Rattle.mdcc_theorem_node_steps.specs.NodeInvariant.{BootGivesNode}

-- ---- the node of a log

node_given : (cluster : Cluster) (read : Result (List (List ℕ)) ℕ) (all : List (List ℕ)) (facts : List Fact) → read ≡ Ok all → facts_at_boot cluster all ≡ Ok facts → IsTrue (is_ok (node_from cluster read))
node_given cluster read all facts is boots =
    subst (λ (r : Result (List (List ℕ)) ℕ). IsTrue (is_ok (node_from cluster r))) (sym is) (subst (λ (r : Result (List Fact) BootFault). IsTrue (is_ok (node_of r))) (sym boots) refl)

-- ---- the log of a centre, by its number

module _ {D : Type 0} (disk : D → ℕ → Disk) (may_leave : D → ℕ → List ℕ → Type 0) (every : ℕ) (cluster : Cluster) (centre : ℕ) (old new : D) where
  abbrev Read : List (List ℕ) → Type 0
  Read all = payloads (disk old centre).bytes (disk old (centre + 16)).bytes ≡ Ok all

  told_at : (log : Log) → log.centre ≡ centre → IsServedLog disk cluster old log → AreAreasTold disk old centre
  told_at log of is = record { first = subst (λ (n : ℕ). IsTrue (disk old n).told) of is.told; second = subst (λ (n : ℕ). IsTrue (disk old (n + 16)).told) of is.told_other }

  read_at : (log : Log) → log.centre ≡ centre → IsServedLog disk cluster old log → Read (encodings_of log.facts)
  read_at log of is = its_payloads disk old log centre of is.has

  log_read : (log : Log) → log.centre ≡ centre → IsServedLog disk cluster old log → IsLogRead log.facts (disk old centre) (disk old (centre + 16))
  log_read log of is = let told = told_at log of is in record { told_first = told.first; told_second = told.second; read = read_at log of is }

  only_at : (log : Log) → log.centre ≡ centre → IsDurable disk may_leave old log → Only (disk old centre).bytes (may_leave old centre) × Only (disk old (centre + 16)).bytes (may_leave old (centre + 16))
  only_at log of durable = (subst (λ (n : ℕ). Only (disk old n).bytes (may_leave old n)) of durable.first, subst (λ (n : ℕ). Only (disk old (n + 16)).bytes (may_leave old (n + 16))) of durable.second)

  -- ---- it runs

  module _ (current_is_read : CurrentIsRead) (one : FactsHaveOneSpelling) (well : FactsReadAreWellFormed) (within : BootsWithinCells) (gives : BootGivesNode)
      (is_cluster : IsCluster cluster) (among : is_centre cluster centre ≡ true) (passes : DiskPasses disk may_leave old new) (others : KeepsOthers disk may_leave centre old new)
      (alike : (disk old (centre + 16)).told ≡ (disk old centre).told) (tears : ℕ → Type 0)
    where
      abbrev Starts : Running CentreStore → Type 0
      Starts running = StartsFrom disk may_leave centre every old new are_stored store_cells cluster.cells cluster running

      -- where one area tells its bytes both did
      told_before : IsTrue (disk new centre).told → AreAreasTold disk old centre
      told_before told = let here = subst IsTrue (passes.told centre) told in record { first = here; second = subst IsTrue (sym alike) here }

      pub runs : (running : Running CentreStore) → Starts running → running.log.centre ≡ centre → running.log.every ≡ every → running.log.tail < every
          → IsRunning disk may_leave every tears cluster centre running old new
      runs running starts of often few = record {
        facts = given.facts;
        itself = given.itself;
        kept = given.kept;
        epoch = starts.epoch (next_boot given.facts ∷ given.facts) given.itself.itself;
        holds = record {
          open_log = record {
            of = of;
            often = often;
            alike = passes.told (centre + 16) ∙ (alike ∙ sym (passes.told centre));
            at_rest = at_rest;
            left = λ told first second left left_second. inl (rested disk may_leave current_is_read new running.log centre (encodings_of (next_boot given.facts ∷ given.facts)) (at_rest told).range of (at_rest told) first second left left_second);
          };
          few = few;
        };
        passes = passes;
        others = others;
        stays = record {
          read = λ all told is. inr (starts.boot, starts.boots.0, node_is all told is, now_read all told is);
          crash = λ all first second never told only only_other is left left_second. inr (starts.boot, starts.boots.0, node_is all told is, crash_read all told is first second left left_second);
          unread = λ offset told none. (let bad : Err offset ≡ Ok starts.all = sym none ∙ starts.read told.first told.second in absurd (cc));
        };
        over = λ before before_of is. given.over before.facts is.allowed (let told = told_at before before_of is in same_lists (payloads (disk old centre).bytes (disk old (centre + 16)).bytes) starts.all (encodings_of before.facts) (starts.read told.first told.second) (read_at before before_of is));
      }
        where
          given : GivesNode cluster centre starts.all running.node starts.boot
          given = gives_node one well within gives cluster is_cluster centre among starts.all starts.bytes starts.short (running.node, starts.boot) starts.boots

          are : starts.all ++ fact_bytes starts.boot ∷ [] ≡ encodings_of (next_boot given.facts ∷ given.facts)
          are = ap (λ (ps : List (List ℕ)). ps ++ fact_bytes starts.boot ∷ []) given.payloads_are ∙ ap (λ (fact : Fact). encodings_of given.facts ++ fact_bytes fact ∷ []) given.boot_is

          at_rest : IsTrue (disk new centre).told → IsAtRest disk may_leave new running.log (encodings_of (next_boot given.facts ∷ given.facts))
          at_rest told = let before = told_before told in subst (λ (ps : List (List ℕ)). IsAtRest disk may_leave new running.log ps) are (starts.open_log before.first before.second)

          same : (all : List (List ℕ)) → AreAreasTold disk old centre → Read all → starts.all ≡ all
          same all told is = same_lists (payloads (disk old centre).bytes (disk old (centre + 16)).bytes) starts.all all (starts.read told.first told.second) is

          node_is : (all : List (List ℕ)) → AreAreasTold disk old centre → Read all → facts_at_boot cluster all ≡ Ok (starts.boot ∷ starts.boots.0)
          node_is all told is = subst (λ (ps : List (List ℕ)). facts_at_boot cluster ps ≡ Ok (starts.boot ∷ starts.boots.0)) (same all told is) starts.boots.1

          now_read : (all : List (List ℕ)) → AreAreasTold disk old centre → Read all → payloads (disk new centre).bytes (disk new (centre + 16)).bytes ≡ Ok (all ++ fact_bytes starts.boot ∷ [])
          now_read all told is =
              subst (λ (ps : List (List ℕ)). payloads (disk new centre).bytes (disk new (centre + 16)).bytes ≡ Ok (ps ++ fact_bytes starts.boot ∷ [])) (same all told is)
              (rest_read disk may_leave new (starts.all ++ fact_bytes starts.boot ∷ []) running.log centre of (starts.open_log told.first told.second))

          crash_read : (all : List (List ℕ)) → AreAreasTold disk old centre → Read all → (first second : List ℕ) → may_leave new centre first → may_leave new (centre + 16) second
              → payloads first second ≡ Ok (all ++ fact_bytes starts.boot ∷ [])
          crash_read all told is first second left left_second =
              let rest = starts.open_log told.first told.second in
              subst (λ (ps : List (List ℕ)). payloads first second ≡ Ok (ps ++ fact_bytes starts.boot ∷ [])) (same all told is)
              (rested disk may_leave current_is_read new running.log centre (starts.all ++ fact_bytes starts.boot ∷ []) rest.range of rest first second left left_second)

  -- a node boots from its log
  pub runs_boot : (running : Running CentreStore) → StartsFrom disk may_leave centre every old new are_stored store_cells cluster.cells cluster running → BootsAt disk cluster old centre
  runs_boot running starts told = node_given cluster (payloads (disk old centre).bytes (disk old (centre + 16)).bytes) starts.all (starts.boot ∷ starts.boots.0) (starts.read told.first told.second) starts.boots.1

  -- ---- it does not

  -- what is known of the end of its start, but for what it says of its own log
  pub record Ends (tears : ℕ → Type 0) (fault : StartFault) : Type 0 where
    pub passes : DiskPasses disk may_leave old new
    pub others : KeepsOthers disk may_leave centre old new
    pub refused : (facts : List Fact) → AreLogged cluster facts → IsLogRead facts (disk old centre) (disk old (centre + 16))
        → IsRefused cluster.cells cluster facts (HasLogRoom every (disk old centre) (disk old (centre + 16))) fault
    pub over_any : StartEnds disk may_leave centre every old new are_stored store_cells cluster.cells cluster fault
    pub kept : (all : List (List ℕ)) → IsTrue (disk old centre).told → IsTrue (disk old (centre + 16)).told → Read all → KeepsLog all fault centre every disk may_leave old new
    pub unread : (n : ℕ) → IsTrue (disk old centre).told → IsTrue (disk old (centre + 16)).told → payloads (disk old centre).bytes (disk old (centre + 16)).bytes ≡ Err n → IsUnread n fault centre disk old new
    pub no_log : (n : ℕ) → fault ≡ StartFault.Log (LogFault.NotALog n) → IsTrue (disk old centre).told → IsTrue (disk old (centre + 16)).told → payloads (disk old centre).bytes (disk old (centre + 16)).bytes ≡ Err n
    pub reads : (all : List (List ℕ)) (current other : List ℕ) → (tears 1 → ⊥) → IsTrue (disk old centre).told → IsTrue (disk old (centre + 16)).told
        → Only (disk old centre).bytes (may_leave old centre) → Only (disk old (centre + 16)).bytes (may_leave old (centre + 16)) → Read all
        → may_leave new centre current → may_leave new (centre + 16) other → KeepsUnlessDisk fault (payloads current other ≡ Ok all)
    pub reads_either : (facts : List Fact) (current other : List ℕ) → (tears 1 → ⊥) → AreLogged cluster facts → IsLogRead facts (disk old centre) (disk old (centre + 16))
        → Only (disk old centre).bytes (may_leave old centre) → Only (disk old (centre + 16)).bytes (may_leave old (centre + 16))
        → may_leave new centre current → may_leave new (centre + 16) other → ReadsAsEither (encodings_of facts) (fact_bytes (next_boot facts)) (payloads current other)
    pub rose : fault ≡ StartFault.Log LogFault.DiskFault → RoseAtOne (disk old centre) (disk new centre) (disk old (centre + 16)) (disk new (centre + 16))
    pub no_log_memory : fault ≡ StartFault.Log LogFault.Memory → ⊥
    pub no_boot_memory : fault ≡ StartFault.Boot BootFault.Memory → ⊥

  module _ (current_is_read : CurrentIsRead) (one : FactsHaveOneSpelling) (well : FactsReadAreWellFormed) (within : BootsWithinCells) (gives : BootGivesNode)
      (is_cluster : IsCluster cluster) (among : is_centre cluster centre ≡ true) (tears : ℕ → Type 0)
    where
      -- a log that is read as it was read before
      same_stays : ((all : List (List ℕ)) → AreAreasTold disk old centre → Read all → payloads (disk new centre).bytes (disk new (centre + 16)).bytes ≡ Ok all)
          → ((all : List (List ℕ)) (current other : List ℕ) → (tears 1 → ⊥) → IsTrue (disk old centre).told → IsTrue (disk old (centre + 16)).told
          → Only (disk old centre).bytes (may_leave old centre) → Only (disk old (centre + 16)).bytes (may_leave old (centre + 16)) → Read all
          → may_leave new centre current → may_leave new (centre + 16) other → payloads current other ≡ Ok all)
          → ((n : ℕ) → AreAreasTold disk old centre → payloads (disk old centre).bytes (disk old (centre + 16)).bytes ≡ Err n → AreasStand centre disk old new)
          → LogStays disk may_leave tears cluster old new centre
      same_stays read crash unread = record {
        read = λ all told is. inl (read all told is);
        crash = λ all first second never told only only_other is left left_second. inl (crash all first second never told.first told.second only only_other is left left_second);
        unread = unread;
      }

      -- so is one that was at rest before
      was_read : (all : List (List ℕ)) → IsAsBefore all centre every disk may_leave old new → payloads (disk new centre).bytes (disk new (centre + 16)).bytes ≡ Ok all
      was_read all was = rest_read disk may_leave new all was.frames centre was.place was.at_rest

      -- what is at rest has its facts whatever a crash leaves
      was_kept : (log : Log) → log.centre ≡ centre → IsAsBefore (encodings_of log.facts) centre every disk may_leave old new → MayHaveFacts disk may_leave new log.centre log.facts []
      was_kept log of was =
          subst (λ (n : ℕ). MayHaveFacts disk may_leave new n log.facts []) (sym of)
          (λ first second left left_second. inl (rested disk may_leave current_is_read new was.frames centre (encodings_of log.facts) was.at_rest.range was.place was.at_rest first second left left_second))

      -- ---- no node boots from its payloads

      refused_by : (why : BootFault) (log : Log) (all : List (List ℕ)) → GivesNoServer cluster centre all (ServeFault.Boot centre why) → AreLogged cluster log.facts → all ≡ encodings_of log.facts → IsBootRefused cluster log.facts why
      refused_by why log all (inl bad) are same = absurd (cc)
      refused_by why log all (inr (other, is, refuses)) are same = let reason : other ≡ why = cc in subst (IsBootRefused cluster log.facts) reason (refuses log.facts are same)

      boot_fails : (why : BootFault) (all : List (List ℕ)) → GivesNoServer cluster centre all (ServeFault.Boot centre why) → (AreAreasTold disk old centre → Read all) → Ends tears (StartFault.Boot why)
          → FailsToStart disk may_leave every tears cluster centre (ServeFault.Boot centre why) old new
      boot_fails why all none read e = record {
        of = refl;
        cause = tt;
        passes = e.passes;
        others = e.others;
        stays = same_stays (λ all told is. was_read all (e.kept all told.first told.second is)) e.reads (λ n told is. absurd (e.unread n told.first told.second is));
        over = λ log of is.
            let told = told_at log of is in
            let its = read_at log of is in
            record {
              comes = of;
              boots = (λ same. refused_by why log all none is.allowed (same_lists (payloads (disk old centre).bytes (disk old (centre + 16)).bytes) all (encodings_of log.facts) (read told) its), tt);
              full = tt;
              kept = λ durable safe. was_kept log of (e.kept (encodings_of log.facts) told.first told.second its);
            };
      }

      none_of : (why : BootFault) (given : GivesNoNode disk may_leave centre every old new are_stored store_cells cluster.cells cluster why) → GivesNoServer cluster centre given.all (boot_fault_of centre why)
      none_of why given = gives_none one well within gives cluster is_cluster centre among given.all given.opened.bytes given.opened.short why given.boots

      -- ---- its boot has no room

      full_fails : HasNoRoomForBoot disk may_leave centre every old new are_stored store_cells cluster.cells cluster → Ends tears (StartFault.Log LogFault.LogFull)
          → FailsToStart disk may_leave every tears cluster centre (ServeFault.Log centre LogFault.LogFull) old new
      full_fails lacks e = record {
        of = tt;
        cause = tt;
        passes = e.passes;
        others = e.others;
        stays = same_stays (λ all told is. was_read all (e.kept all told.first told.second is)) e.reads (λ n told is. absurd (e.unread n told.first told.second is));
        over = λ log of is.
            let told = told_at log of is in
            let its = read_at log of is in
            record {
              comes = of;
              boots = tt;
              full = λ now. no_room log of is;
              kept = λ durable safe. was_kept log of (e.kept (encodings_of log.facts) told.first told.second its);
            };
      }
        where
          no_room : (log : Log) → log.centre ≡ centre → IsServedLog disk cluster old log → HasNoRoom disk may_leave every new log.centre (next_boot log.facts ∷ [])
          no_room log of is =
              let told = told_at log of is in
              let same = same_lists (payloads (disk old centre).bytes (disk old (centre + 16)).bytes) lacks.all (encodings_of log.facts) (lacks.opened.read told.first told.second) (read_at log of is) in
              let given = gives_node one well within gives cluster is_cluster centre among lacks.all lacks.opened.bytes lacks.opened.short lacks.booted lacks.boots in
              let boot : lacks.booted.1 ≡ next_boot log.facts = given.boot_is ∙ ap next_boot (given.over log.facts is.allowed same) in
              record {
                facts = log.facts;
                log = lacks.opened.log;
                of = lacks.opened.of ∙ sym of;
                often = lacks.opened.every_is;
                at_rest = subst (λ (ps : List (List ℕ)). IsAtRest disk may_leave new lacks.opened.log ps) same (lacks.opened.open_log told.first told.second);
                full = subst (λ (fact : Fact). AreFull lacks.opened.log (fact_bytes fact ∷ [])) boot (full_one lacks.opened.log (fact_bytes lacks.booted.1) lacks.full);
              }

      -- ---- whatever the fault is

      pub fails : (fault : StartFault) → Ends tears fault → FailsToStart disk may_leave every tears cluster centre (start_fault_of centre fault) old new
      fails (StartFault.Log LogFault.DiskFault) e = record {
        of = tt;
        cause = e.rose refl;
        passes = e.passes;
        others = e.others;
        stays = tt;
        over = λ log of is. record { comes = of; boots = tt; full = tt; kept = λ durable safe. either log of is durable safe };
      }
        where
          either : (log : Log) → log.centre ≡ centre → IsServedLog disk cluster old log → IsDurable disk may_leave old log → (tears 1 → ⊥)
              → MayHaveFacts disk may_leave new log.centre log.facts (in_flight (ServeFault.Disk centre) log.centre (starting log))
          either log of is durable safe =
              let only = only_at log of durable in
              subst (λ (fs : List Fact). MayHaveFacts disk may_leave new log.centre log.facts fs) (sym (next_are log.centre (next_boot log.facts ∷ [])))
              (subst (λ (n : ℕ). MayHaveFacts disk may_leave new n log.facts (next_boot log.facts ∷ [])) (sym of)
              (λ first second left left_second. e.reads_either log.facts first second safe is.allowed (log_read log of is) only.0 only.1 left left_second))
      fails (StartFault.Log (LogFault.NotALog n)) e = record {
        of = tt;
        cause = tt;
        passes = e.passes;
        others = e.others;
        stays = record {
          read = λ all told is. (let bad : Err n ≡ Ok all = sym (e.no_log n refl told.first told.second) ∙ is in absurd (cc));
          crash = λ all first second never told only only_other is left left_second. (let bad : Err n ≡ Ok all = sym (e.no_log n refl told.first told.second) ∙ is in absurd (cc));
          unread = λ m told is. (e.unread m told.first told.second is).1;
        };
        over = λ log of is. absurd (e.refused log.facts is.allowed (log_read log of is));
      }
      fails (StartFault.Log LogFault.LogFull) e = full_fails e.over_any e
      fails (StartFault.Log LogFault.Memory) e = absurd (e.no_log_memory refl)
      fails (StartFault.Boot BootFault.Memory) e = absurd (e.no_boot_memory refl)
      fails (StartFault.Boot BootFault.Epochs) e = boot_fails BootFault.Epochs e.over_any.all (none_of BootFault.Epochs e.over_any) (λ told. e.over_any.opened.read told.first told.second) e
      fails (StartFault.Boot (BootFault.NotARun n)) e = boot_fails (BootFault.NotARun n) e.over_any.all (none_of (BootFault.NotARun n) e.over_any) (λ told. e.over_any.opened.read told.first told.second) e
      fails (StartFault.Boot (BootFault.Room needed cells)) e = boot_fails (BootFault.Room needed cells) e.over_any.all (none_of (BootFault.Room needed cells) e.over_any) (λ told. e.over_any.opened.read told.first told.second) e
      fails StartFault.Memory e = record {
        of = tt;
        cause = tt;
        passes = e.passes;
        others = e.others;
        stays = same_stays (λ all told is. e.kept all told.first told.second is) e.reads (λ n told is. e.unread n told.first told.second is);
        over = λ log of is. record { comes = tt; boots = tt; full = tt; kept = λ durable safe. just log of is durable safe };
      }
        where
          just : (log : Log) → log.centre ≡ centre → IsServedLog disk cluster old log → IsDurable disk may_leave old log → (tears 1 → ⊥) → MayHaveFacts disk may_leave new log.centre log.facts []
          just log of is durable safe =
              let only = only_at log of durable in
              let told = told_at log of is in
              subst (λ (n : ℕ). MayHaveFacts disk may_leave new n log.facts []) (sym of)
              (λ first second left left_second. inl (e.reads (encodings_of log.facts) first second safe told.first told.second only.0 only.1 (read_at log of is) left left_second))

  -- ---- what is said of its log

  none_says : (why : BootFault) (all : List (List ℕ)) → (IsTrue (disk old centre).told → IsTrue (disk old (centre + 16)).told → Read all) → facts_at_boot cluster all ≡ Err why
      → AreAreasTold disk old centre → node_booted_at disk cluster old centre ≡ Err (LogRefusal.NoNode why)
  none_says why all read is told = node_read cluster (payloads (disk old centre).bytes (disk old (centre + 16)).bytes) all (read told.first told.second) ∙ ap node_of is

  pub says : (fault : StartFault) → StartEnds disk may_leave centre every old new are_stored store_cells cluster.cells cluster fault
      → ((n : ℕ) → fault ≡ StartFault.Log (LogFault.NotALog n) → IsTrue (disk old centre).told → IsTrue (disk old (centre + 16)).told → payloads (disk old centre).bytes (disk old (centre + 16)).bytes ≡ Err n)
      → (fault ≡ StartFault.Log LogFault.Memory → ⊥) → (fault ≡ StartFault.Boot BootFault.Memory → ⊥) → SaysAt disk cluster old centre (start_fault_of centre fault)
  says (StartFault.Log LogFault.DiskFault) over no_log no_log_memory no_boot_memory = refl
  says (StartFault.Log (LogFault.NotALog n)) over no_log no_log_memory no_boot_memory = λ told. (refl, none_read cluster (payloads (disk old centre).bytes (disk old (centre + 16)).bytes) n (no_log n refl told.first told.second))
  says (StartFault.Log LogFault.LogFull) over no_log no_log_memory no_boot_memory =
      (refl, λ told. node_given cluster (payloads (disk old centre).bytes (disk old (centre + 16)).bytes) over.all (over.booted.1 ∷ over.boots.0) (over.opened.read told.first told.second) over.boots.1)
  says (StartFault.Log LogFault.Memory) over no_log no_log_memory no_boot_memory = absurd (no_log_memory refl)
  says (StartFault.Boot BootFault.Memory) over no_log no_log_memory no_boot_memory = absurd (no_boot_memory refl)
  says (StartFault.Boot BootFault.Epochs) over no_log no_log_memory no_boot_memory = (refl, none_says BootFault.Epochs over.all over.opened.read over.boots)
  says (StartFault.Boot (BootFault.NotARun n)) over no_log no_log_memory no_boot_memory = (refl, none_says (BootFault.NotARun n) over.all over.opened.read over.boots)
  says (StartFault.Boot (BootFault.Room needed cells)) over no_log no_log_memory no_boot_memory = (refl, none_says (BootFault.Room needed cells) over.all over.opened.read over.boots)
  says StartFault.Memory over no_log no_log_memory no_boot_memory = tt
