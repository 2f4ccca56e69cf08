-- Centres that run, with their endpoints bound and their boots told, or not.
use Rattle.std.proofs.Common.{◌≡◌, ℕ, ◌+◌, ◌-◌, ◌≤◌, ◌<◌, List, [], ◌∷◌, ◌++◌, length, take, refl, sym, ◌∙◌, ap, subst, inl, inr, arith, append-nil, append_assoc, length-append}
use Rattle.std.specs.Io.KnownBytes.{Appends}
use Rattle.std.specs.List.{AllByRecursion}
use Rattle.std.specs.Prelude.{flat_map, ⊤}
use Rattle.mdcc_log_file.specs.declared.fault.LogFault.{LogFault}
use Rattle.mdcc_base.specs.Counts.{sum_over}
use Rattle.mdcc_config.specs.declared.config.Config.{Config}
use Rattle.mdcc_disks.specs.Disks.{Disk}
use Rattle.mdcc_link.specs.Link.{LinkCall}
use Rattle.mdcc_def_messages.specs.declared.facts.Fact.{Fact}
use Rattle.mdcc_option.specs.declared.cluster.Cluster.{Cluster}
use Rattle.mdcc_serve_outbox.proofs.Recorded.{none_recorded}
use Rattle.mdcc_serve_outbox.specs.Shows.{Records, calls_of}
use Rattle.mdcc_def_protocol.specs.Facts.{epoch_of}
use Rattle.mdcc_def_rules.specs.Boot.{next_boot}
use Rattle.mdcc_def_server_runs.specs.Acts.{Act, but_answers, facts_appended, printed}
use Rattle.mdcc_def_server_runs.specs.Servers.{Log, boot_line, endpoints_of, opened, starts}
use Rattle.mdcc_def_server_runs.specs.declared.lines.ServerLine.{ServerLine}
use Rattle.mdcc_serve.proofs.Kept.{facts_or_more}
use Rattle.mdcc_serve.proofs.Others.{keeps_fewer, unserved_logs}
use Rattle.mdcc_serve.proofs.Quiet.{AreBinds, AreLines, IsBind, IsPlain, IsPrint, acts_front, all_bind, all_print, are_binds, are_boots, are_lines}
use Rattle.mdcc_serve.proofs.Started.{none_refused}
use Rattle.mdcc_serve.proofs.Together.{boots_append, each_both, each_by, follow_front}
use Rattle.mdcc_serve.specs.Centres.{Ascend, HoldSites, all_seen, places}
use Rattle.mdcc_serve.specs.Openings.{BindsAll, BindsSome, FailsToOpen, HasOpened, KeepLogs, LinesSome, StopsOpening, binds_of, binds_of_all, boots_told}
use Rattle.mdcc_serve.specs.Others.{IsNoDiskOfSites, IsUnserved, KeepsUnserved}
use Rattle.mdcc_serve.specs.Serving.{AreLogsOf}
use Rattle.mdcc_serve.specs.Starts.{AreHeld, FailToStart, Follow, HaveStarted, IsOfStart}
use Rattle.mdcc_serve_site.proofs.Joined.{broke_more, comes_more, did_broke, did_then, facts_expected, facts_then, flight_more, full_more, none_added, none_written}
use Rattle.mdcc_serve_site.specs.Causes.{ComesAt, IsNoBoot, IsSafeAt, IsSafeIn, failed_by, failed_next, in_flight, text_begun}
use Rattle.mdcc_serve_site.specs.LogEffects.{CausedOn}
use Rattle.mdcc_serve_site.specs.Logs.{MayHaveFacts, facts_after, with_facts}
use Rattle.mdcc_serve_site.specs.Moments.{Adds, Broke, Caused, Did, DiskPasses, Leaves, MayComeAt, Moment, Outside, Passes}
use Rattle.mdcc_serve_site.specs.Room.{OnFull}
use Rattle.mdcc_serve_site.specs.SiteState.{OnSerial, PrintsAll}
use Rattle.mdcc_serve_site.specs.declared.fault.ServeFault.{ServeFault}
use Rattle.mdcc_serve_site.specs.declared.site.Site.{Site as TheSite}

-- ---- where a fault comes, with more after it

may_come : (fault : ServeFault) (rest : List Act) → ComesAt fault rest → MayComeAt ⊤ fault rest
may_come (ServeFault.Disk a) rest comes = comes
may_come (ServeFault.Log a (LogFault.NotALog offset)) rest comes = absurd comes
may_come (ServeFault.Log a LogFault.LogFull) rest comes = comes
may_come (ServeFault.Log a LogFault.DiskFault) rest comes = comes
may_come (ServeFault.Log a LogFault.Memory) rest comes = comes
may_come (ServeFault.Boot a fault) rest comes = comes
may_come ServeFault.Link rest comes = comes
may_come ServeFault.Output rest comes = comes
may_come ServeFault.Serial rest comes = comes
may_come ServeFault.Memory rest comes = tt

safe_in : (tears : ℕ → Type 0) (rest more : List Act) → IsSafeIn tears (rest ++ more) → IsSafeIn tears rest
safe_in tears (Act.Append centre (Fact.Booted epoch ∷ facts) ∷ rest) more safe = safe
safe_in tears (act ∷ rest) more safe = tt
safe_in tears [] more safe = tt

pub safe_more : (tears : ℕ → Type 0) (fault : ServeFault) (rest more : List Act) → IsSafeAt tears fault (rest ++ more) → IsSafeAt tears fault rest
safe_more tears (ServeFault.Disk a) rest more safe = safe_in tears rest more safe
safe_more tears (ServeFault.Log a fault) rest more safe = tt
safe_more tears (ServeFault.Boot a fault) rest more safe = tt
safe_more tears ServeFault.Link rest more safe = tt
safe_more tears ServeFault.Output rest more safe = tt
safe_more tears ServeFault.Serial rest more safe = tt
safe_more tears ServeFault.Memory rest more safe = safe_in tears rest more safe

-- a start ends in none of these
start_serials : (fault : ServeFault) (at : ℕ) → IsOfStart at fault → OnSerial fault 0
start_serials (ServeFault.Disk a) at of = tt
start_serials (ServeFault.Log a fault) at of = tt
start_serials (ServeFault.Boot a fault) at of = tt
start_serials ServeFault.Link at of = absurd of
start_serials ServeFault.Output at of = absurd of
start_serials ServeFault.Serial at of = absurd of
start_serials ServeFault.Memory at of = tt

start_calls : (fault : ServeFault) (at : ℕ) → IsOfStart at fault → (rest : List Act) → failed_by fault rest ≡ []
start_calls (ServeFault.Disk a) at of rest = refl
start_calls (ServeFault.Log a fault) at of rest = refl
start_calls (ServeFault.Boot a fault) at of rest = refl
start_calls ServeFault.Link at of rest = absurd of
start_calls ServeFault.Output at of rest = absurd of
start_calls ServeFault.Serial at of rest = absurd of
start_calls ServeFault.Memory at of rest = refl

-- ---- numbers that follow one another ascend

ascends : (low first : ℕ) (logs : List Log) → low < first → first + length logs ≤ 10 → Follow first logs → Ascend low (starts logs).sites
ascends low first [] later most f = tt
ascends low first (log ∷ logs) later most f =
    let e = f.0 in
    (omega (e, later, arith), omega (e, most, arith), ascends log.centre (first + 1) logs (omega (e, arith)) (omega (most, arith)) f.1)

no_more : (xs ys zs : List Log) → xs ≡ ys ++ zs → length xs ≡ length ys → ys ≡ xs
no_more xs ys [] is long = sym (is ∙ append-nil ys)
no_more xs ys (z ∷ zs) is long =
    let e = ap (λ (logs : List Log). length logs) is in
    let f = length-append ys (z ∷ zs) in
    absurd (omega (e, f, long, arith))

-- ---- what is held

module _ {D : Type 0} (disk : D → ℕ → Disk) (may_leave : D → ℕ → List ℕ → Type 0) (every : ℕ) where
  pub held_among : (cluster : Cluster) (disks : D) (n centres : ℕ) (held : List TheSite) (logs : List Log) → AreHeld disk may_leave every cluster disks held logs → Follow n logs → n + length held ≤ centres + 1
      → AllByRecursion (λ site. site.centre ≤ centres) held
  held_among cluster disks n centres [] [] are f few = tt
  held_among cluster disks n centres (h ∷ held) (log ∷ logs) are f few =
      let e = f.0 in
      let same = are.0.0.centre in
      (omega (e, same, few, arith), held_among cluster disks (n + 1) centres held logs are.1 f.1 (omega (few, arith)))
  held_among cluster disks n centres [] (log ∷ logs) are f few = absurd are
  held_among cluster disks n centres (h ∷ held) [] are f few = absurd are

  held_bind : (config : Config) (disks : D) (held : List TheSite) (logs : List Log) → AreHeld disk may_leave every config.cluster disks held logs → binds_of_all config held ≡ flat_map (endpoints_of config) (starts logs).sites
  held_bind config disks [] [] are = refl
  held_bind config disks (h ∷ held) (log ∷ logs) are =
      ap (λ (n : ℕ). binds_of config n ++ binds_of_all config held) are.0.0.centre ∙ ap (λ (acts : List Act). binds_of config log.centre ++ acts) (held_bind config disks held logs are.1)
  held_bind config disks [] (log ∷ logs) are = absurd are
  held_bind config disks (h ∷ held) [] are = absurd are

  held_tell : (cluster : Cluster) (disks : D) (held : List TheSite) (logs : List Log) → AreHeld disk may_leave every cluster disks held logs → boots_told held ≡ flat_map boot_line (starts logs).sites
  held_tell cluster disks [] [] are = refl
  held_tell cluster disks (h ∷ held) (log ∷ logs) are =
      ap (λ (n : ℕ). Act.Print (ServerLine.Booted n h.sender.epoch) ∷ boots_told held) are.0.0.centre
      ∙ (ap (λ (n : ℕ). Act.Print (ServerLine.Booted log.centre n) ∷ boots_told held) are.0.0.sender.epoch
      ∙ ap (λ (acts : List Act). Act.Print (ServerLine.Booted log.centre (epoch_of (next_boot log.facts ∷ log.facts))) ∷ acts) (held_tell cluster disks held logs are.1))
  held_tell cluster disks [] (log ∷ logs) are = absurd are
  held_tell cluster disks (h ∷ held) [] are = absurd are

  none_counted : (cluster : Cluster) (disks : D) (held : List TheSite) (logs : List Log) → AreHeld disk may_leave every cluster disks held logs
      → (sum_over (λ h. h.steps) held ≡ 0) × (sum_over (λ h. h.dropped) held ≡ 0) × (sum_over (λ h. h.sender.lost) held ≡ 0)
  none_counted cluster disks [] [] are = (refl, refl, refl)
  none_counted cluster disks (h ∷ held) (log ∷ logs) are =
      let rest = none_counted cluster disks held logs are.1 in
      let fresh = are.0.2 in (
        (let a = rest.0 in let b = fresh.steps in omega (a, b, arith)),
        (let a = rest.1 in let b = fresh.dropped in omega (a, b, arith)),
        (let a = rest.2 in let b = fresh.lost in omega (a, b, arith)),
      )
  none_counted cluster disks [] (log ∷ logs) are = absurd are
  none_counted cluster disks (h ∷ held) [] are = absurd are

module _ {D L O : Type 0} (w : Outside D L O) where
  held_stand : (cluster : Cluster) (disks : D) (held : List TheSite) (logs : List Log) → AreHeld w.disk w.may_leave w.every cluster disks held logs → HoldSites w cluster disks held (starts logs).sites
  held_stand cluster disks [] [] are = tt
  held_stand cluster disks (h ∷ held) (log ∷ logs) are = (record { itself = are.0.0; log = are.0.1 }, held_stand cluster disks held logs are.1)
  held_stand cluster disks [] (log ∷ logs) are = absurd are
  held_stand cluster disks (h ∷ held) [] are = absurd are

  -- ---- acts that were done, while nothing is counted

  abbrev bare : D → L → O → Moment D L O
  bare disks link out = all_seen (places disks [] link out)

  -- nothing is counted of those that just started
  fresh_seen : (cluster : Cluster) (disks : D) (held : List TheSite) (logs : List Log) (link : L) (out : O) → AreHeld w.disk w.may_leave w.every cluster disks held logs → bare disks link out ≡ all_seen (places disks held link out)
  fresh_seen cluster disks held logs link out are = counts (sum_over (λ h. h.steps) held) (sum_over (λ h. h.dropped) held) (sum_over (λ h. h.sender.lost) held) none.0 none.1 none.2
    where
      none : (sum_over (λ h. h.steps) held ≡ 0) × (sum_over (λ h. h.dropped) held ≡ 0) × (sum_over (λ h. h.sender.lost) held ≡ 0)
      none = none_counted w.disk w.may_leave w.every cluster disks held logs are

      counts : (a b c : ℕ) → a ≡ 0 → b ≡ 0 → c ≡ 0
          → (let m : Moment D L O = record { disks = disks; link = link; out = out; steps = 0; dropped = 0; lost = 0 } in m) ≡ record { disks = disks; link = link; out = out; steps = a; dropped = b; lost = c }
      counts a b c one two three =
          sym (ap (λ (n : ℕ). let m : Moment D L O = record { disks = disks; link = link; out = out; steps = n; dropped = b; lost = c } in m) one
          ∙ (ap (λ (n : ℕ). let m : Moment D L O = record { disks = disks; link = link; out = out; steps = 0; dropped = n; lost = c } in m) two
          ∙ ap (λ (n : ℕ). let m : Moment D L O = record { disks = disks; link = link; out = out; steps = 0; dropped = 0; lost = n } in m) three))

  plain_leaves : (acts : List Act) (failed : List LinkCall) (text : List ℕ) (old new : D) (link new_link : L) (out new_out : O) → IsPlain acts
      → Records (calls_of acts ++ failed) (w.calls link) (w.calls new_link) → Appends (w.held out) (w.held new_out) (printed acts ++ text) → Leaves w acts failed text (bare old link out) (bare new new_link new_out)
  plain_leaves acts failed text old new link new_link out new_out plain recorded written = record {
    link = recorded;
    output = written;
    failed_sends = λ some. (let e = plain.failed in absurd (omega (some, e, arith)));
    steps = subst (λ (n : ℕ). Adds n 0 0) (sym plain.steps) (none_added 0);
    dropped = subst (λ (n : ℕ). Adds n 0 0) (sym plain.dropped) (none_added 0);
    lost_told = subst (λ (n : ℕ). Adds n 0 0) (sym plain.lost) (none_added 0);
  }

  none_called : (link : L) (calls failed : List LinkCall) → calls ≡ [] → failed ≡ [] → Records (calls ++ failed) (w.calls link) (w.calls link)
  none_called link calls failed one two =
      subst (λ (cs : List LinkCall). Records (cs ++ failed) (w.calls link) (w.calls link)) (sym one) (subst (λ (cs : List LinkCall). Records cs (w.calls link) (w.calls link)) (sym two) (none_recorded (w.calls link)))

  none_printed : (out : O) (text : List ℕ) → text ≡ [] → Appends (w.held out) (w.held out) (text ++ [])
  none_printed out text is = subst (λ (bytes : List ℕ). Appends (w.held out) (w.held out) (bytes ++ [])) (sym is) (none_written (w.held out))

  disks_passed : (old new : D) (link : L) (out : O) → DiskPasses w.disk w.may_leave old new → Passes w (bare old link out) (bare new link out)
  disks_passed old new link out passes = record { told = passes.told; faults = passes.faults; sends = omega arith; receives = omega arith; writes = omega arith }

  link_passed : (disks : D) (link new_link : L) (out : O) → w.lost new_link ≡ w.lost link → w.faults link ≤ w.faults new_link → Passes w (bare disks link out) (bare disks new_link out)
  link_passed disks link new_link out sends later = record { told = λ p. refl; faults = λ p. omega arith; sends = omega (sends, arith); receives = later; writes = omega arith }

  out_passed : (disks : D) (link : L) (out new_out : O) → w.out_faults out ≤ w.out_faults new_out → Passes w (bare disks link out) (bare disks link new_out)
  out_passed disks link out new_out later = record { told = λ p. refl; faults = λ p. omega arith; sends = omega arith; receives = omega arith; writes = later }

  did_start : (logs : List Log) (old new : D) (link : L) (out : O) → DiskPasses w.disk w.may_leave old new → Did w (starts logs).acts (bare old link out) (bare new link out)
  did_start logs old new link out passes =
      let boots = are_boots logs in
      record {
        acts = (starts logs).acts;
        are = boots.plain.answers;
        left = plain_leaves (starts logs).acts [] [] old new link link out out boots.plain (none_called link (calls_of (starts logs).acts) [] boots.calls refl) (none_printed out (printed (starts logs).acts) boots.prints);
        passes = disks_passed old new link out passes;
      }

  did_bind : (acts : List Act) (disks : D) (link new_link : L) (out : O) → AllByRecursion IsBind acts → BindsAll w.calls w.lost w.faults acts link new_link → Did w acts (bare disks link out) (bare disks new_link out)
  did_bind acts disks link new_link out each bound =
      let binds = are_binds acts each in
      record {
        acts = acts;
        are = binds.plain.answers;
        left = plain_leaves acts [] [] disks disks link new_link out out binds.plain
            (subst (λ (cs : List LinkCall). Records cs (w.calls link) (w.calls new_link)) (sym (append-nil (calls_of acts))) bound.recorded) (none_printed out (printed acts) binds.prints);
        passes = link_passed disks link new_link out bound.sends bound.later;
      }

  did_print : (acts : List Act) (disks : D) (link : L) (out new_out : O) → AllByRecursion IsPrint acts → PrintsAll w.held w.out_faults acts out new_out → Did w acts (bare disks link out) (bare disks link new_out)
  did_print acts disks link out new_out each told =
      let lines = are_lines acts each in
      record {
        acts = acts;
        are = lines.plain.answers;
        left = plain_leaves acts [] [] disks disks link link out new_out lines.plain (none_called link (calls_of acts) [] lines.calls refl)
            (subst (λ (bytes : List ℕ). Appends (w.held out) (w.held new_out) bytes) (sym (append-nil (printed acts))) told.printed_all);
        passes = out_passed disks link out new_out told.later;
      }

  -- ---- acts of which a prefix was done

  -- it appended nothing
  abbrev Silent : List Act → List Act → Type 0
  Silent acts rest = (c : ℕ) → facts_appended c acts ≡ []

  broke_binding : (acts : List Act) (fault : ServeFault) (disks : D) (link new_link : L) (out : O) → AllByRecursion IsBind acts → BindsSome w.calls w.lost w.faults acts fault link new_link
      → Broke w ⊤ Silent acts fault (bare disks link out) (bare disks new_link out)
  broke_binding acts fault disks link new_link out each stop = subst (λ (f : ServeFault). Broke w ⊤ Silent acts f (bare disks link out) (bare disks new_link out)) (sym stop.is) (record {
    acts = stop.done;
    rest = stop.rest;
    are = ap (λ (xs : List Act). xs ++ stop.rest) done.plain.answers ∙ sym stop.are;
    comes = stop.next;
    printed_more = 0;
    left = plain_leaves stop.done (failed_next stop.rest) [] disks disks link new_link out out done.plain stop.recorded (none_printed out (printed stop.done) done.prints);
    passes = link_passed disks link new_link out stop.sends stop.later;
    cause = stop.rose;
    full = tt;
    logs = done.appends;
  })
    where
      done : AreBinds stop.done
      done = are_binds stop.done (acts_front IsBind stop.done stop.rest (subst (λ (xs : List Act). AllByRecursion IsBind xs) stop.are each))

  broke_printing : (acts : List Act) (fault : ServeFault) (disks : D) (link : L) (out new_out : O) → AllByRecursion IsPrint acts → LinesSome w.held w.out_faults acts fault out new_out
      → Broke w ⊤ Silent acts fault (bare disks link out) (bare disks link new_out)
  broke_printing acts fault disks link out new_out each stop = record {
    acts = stop.done;
    rest = stop.rest;
    are = ap (λ (xs : List Act). xs ++ stop.rest) done.plain.answers ∙ sym stop.are;
    comes = comes;
    printed_more = stop.more;
    left = plain_leaves stop.done (failed_by fault stop.rest) (take stop.more (text_begun fault stop.rest)) disks disks link link out new_out done.plain
        (none_called link (calls_of stop.done) (failed_by fault stop.rest) done.calls none_failed) stop.printed_some;
    passes = out_passed disks link out new_out stop.later;
    cause = cause;
    full = full;
    logs = done.appends;
  }
    where
      done : AreLines stop.done
      done = are_lines stop.done (acts_front IsPrint stop.done stop.rest (subst (λ (xs : List Act). AllByRecursion IsPrint xs) stop.are each))

      comes : MayComeAt ⊤ fault stop.rest
      comes = elim stop.comes [
        | inl is ↦ subst (λ (f : ServeFault). MayComeAt ⊤ f stop.rest) (sym is) tt
        | inr failed ↦ subst (λ (f : ServeFault). MayComeAt ⊤ f stop.rest) (sym failed.0) failed.1
      ]

      full : OnFull w.disk w.may_leave w.every disks fault stop.rest
      full = elim stop.comes [
        | inl is ↦ subst (λ (f : ServeFault). OnFull w.disk w.may_leave w.every disks f stop.rest) (sym is) tt
        | inr failed ↦ subst (λ (f : ServeFault). OnFull w.disk w.may_leave w.every disks f stop.rest) (sym failed.0) tt
      ]

      none_failed : failed_by fault stop.rest ≡ []
      none_failed = elim stop.comes [
        | inl is ↦ ap (λ (f : ServeFault). failed_by f stop.rest) is
        | inr failed ↦ ap (λ (f : ServeFault). failed_by f stop.rest) failed.0
      ]

      cause : Caused w fault (bare disks link out) (bare disks link new_out)
      cause = elim stop.comes [
        | inl is ↦ subst (λ (f : ServeFault). Caused w f (bare disks link out) (bare disks link new_out)) (sym is) tt
        | inr failed ↦ subst (λ (f : ServeFault). Caused w f (bare disks link out) (bare disks link new_out)) (sym failed.0) failed.2
      ]

  -- ---- what the logs keep

  pub keep_more : (tears : ℕ → Type 0) (logs : List Log) (fault : ServeFault) (old new : D) (acts rest more : List Act) → MayComeAt ⊤ fault rest → KeepLogs w tears logs fault old new acts rest
      → KeepLogs w tears logs fault old new acts (rest ++ more)
  keep_more tears logs fault old new acts rest more comes keep durable safe =
      each_by _ _ logs (keep durable (safe_more tears fault rest more safe))
      (λ log has. subst (λ (o : List Fact). MayHaveFacts w.disk w.may_leave new log.centre (facts_after log.centre log.facts acts) o) (sym (flight_more ⊤ fault log.centre rest more comes)) has)

  -- ---- no centre runs, or not all of them

  start_caused : (fault : ServeFault) (at : ℕ) (old new : D) (link : L) (out : O) → IsOfStart at fault → CausedOn w.disk w.may_leave fault old new → Caused w fault (bare old link out) (bare new link out)
  start_caused (ServeFault.Disk a) at old new link out of cause = cause
  start_caused (ServeFault.Log a fault) at old new link out of cause = tt
  start_caused (ServeFault.Boot a fault) at old new link out of cause = tt
  start_caused ServeFault.Link at old new link out of cause = absurd of
  start_caused ServeFault.Output at old new link out of cause = absurd of
  start_caused ServeFault.Serial at old new link out of cause = absurd of
  start_caused ServeFault.Memory at old new link out of cause = tt

  pub start_fails : (tears : ℕ → Type 0) (config : Config) (first last : ℕ) (fault : ServeFault) (old new : D) (link : L) (out : O) → first ≤ last
      → FailToStart w.disk w.may_leave w.every tears config.cluster first (last + 1 - first) fault old new → FailsToOpen w tears config first last fault (places old [] link out) (places new [] link out)
  start_fails tears config first last fault old new link out order fails = record {
    cause = start_caused fault fails.at old new link out fails.of fails.cause;
    serials = start_serials fault fails.at fails.of;
    others = subst (λ (end : ℕ). KeepsUnserved w.disk w.may_leave first end old new) (let whole : first + (last + 1 - first) ≡ last + 1 = omega (order, arith) in whole) fails.others;
    over = λ logs follow long are.
        let stop = fails.over logs follow (omega (long, order, arith)) are in
        let more : List Act = flat_map (endpoints_of config) (starts logs).sites ++ flat_map boot_line (starts logs).sites in
        let boots = are_boots stop.done in
        let comes = may_come fault (starts stop.left).acts stop.comes in
        record {
          broke = record {
            acts = (starts stop.done).acts;
            rest = (starts stop.left).acts ++ more;
            are =
                ap (λ (xs : List Act). xs ++ ((starts stop.left).acts ++ more)) boots.plain.answers
                ∙ (sym (append_assoc (starts stop.done).acts (starts stop.left).acts more)
                ∙ ap (λ (xs : List Act). xs ++ more) (sym (boots_append stop.done stop.left) ∙ ap (λ (ls : List Log). (starts ls).acts) (sym stop.are)));
            comes = comes_more ⊤ fault (starts stop.left).acts more comes;
            printed_more = 0;
            left = plain_leaves (starts stop.done).acts (failed_by fault ((starts stop.left).acts ++ more)) [] old new link link out out boots.plain
                (none_called link (calls_of (starts stop.done).acts) (failed_by fault ((starts stop.left).acts ++ more)) boots.calls (start_calls fault fails.at fails.of ((starts stop.left).acts ++ more)))
                (none_printed out (printed (starts stop.done).acts) boots.prints);
            passes = disks_passed old new link out fails.passes;
            cause = start_caused fault fails.at old new link out fails.of fails.cause;
            full = full_more w.disk w.may_leave w.every new ⊤ fault (starts stop.left).acts more comes stop.full;
            logs = keep_more tears logs fault old new (starts stop.done).acts (starts stop.left).acts more comes stop.kept;
          };
          boots = stop.boots;
        };
  }

  -- ---- all of them run

  module _ (tears : ℕ → Type 0) (config : Config) (first last : ℕ) (held : List TheSite) (old new : D) (link : L) (out : O)
      (started : HaveStarted w.disk w.may_leave w.every config.cluster first held old new) (many : length held + first ≡ last + 1) (some : 1 ≤ first) (most : last ≤ 9)
    where
      abbrev boots : List Act
      boots = (starts started.logs).acts

      abbrev binds : List Act
      binds = binds_of_all config held

      abbrev lines : List Act
      lines = boots_told held

      opened_are : boots ++ (binds ++ lines) ≡ (opened config started.logs).acts
      opened_are =
          ap (λ (acts : List Act). boots ++ (acts ++ lines)) (held_bind w.disk w.may_leave w.every config new held started.logs started.each)
          ∙ ap (λ (acts : List Act). boots ++ (flat_map (endpoints_of config) (starts started.logs).sites ++ acts)) (held_tell w.disk w.may_leave w.every config.cluster new held started.logs started.each)

      booted : Did w boots (bare old link out) (bare new link out)
      booted = did_start started.logs old new link out started.passes

      silent_binds : (c : ℕ) → facts_appended c binds ≡ []
      silent_binds = (are_binds binds (all_bind config held)).appends

      same_logs : (logs : List Log) → Follow first logs → length logs + first ≡ last + 1 → AreLogsOf w.disk config.cluster old logs → started.logs ≡ logs
      same_logs logs follow long are =
          let front = started.over logs follow are (omega (long, many, arith)) in
          no_more logs started.logs front.0 front.1 (let e = started.as_many in omega (e, long, many, arith))

      -- no more was appended than the boots
      abbrev SameFacts : List Act → List Act → Type 0
      SameFacts acts rest = (c : ℕ) (facts : List Fact) → facts_after c facts acts ≡ facts_after c facts boots

      kept : (fault : ServeFault) (acts rest : List Act) → SameFacts acts rest → AreLogsOf w.disk config.cluster old started.logs → KeepLogs w tears started.logs fault old new acts rest
      kept fault acts rest same are durable safe =
          each_by _ _ started.logs (each_both _ _ started.logs (each_both _ _ started.logs are durable) (follow_front first started.logs [] (subst (λ (logs : List Log). Follow first logs) (sym (append-nil started.logs)) started.follow)))
          (λ log h. subst (λ (fs : List Fact). MayHaveFacts w.disk w.may_leave new log.centre fs (in_flight fault log.centre rest)) (sym (same log.centre log.facts))
          (facts_or_more w.disk w.may_leave new log.centre (facts_after log.centre log.facts boots) (in_flight fault log.centre rest)
          (started.kept log (let high = h.1 in let e = started.as_many in omega (high, e, many, most, arith)) h.0.0 h.0.1)))

      fails_after : (fault : ServeFault) (new_link : L) (new_out : O) → IsNoBoot fault → OnSerial fault 0
          → Broke w ⊤ SameFacts (opened config started.logs).acts fault (bare old link out) (bare new new_link new_out)
          → FailsToOpen w tears config first last fault (places old [] link out) (places new [] new_link new_out)
      fails_after fault new_link new_out no_boot serials broke = record {
        cause = broke.cause;
        serials = serials;
        others = keeps_fewer w.disk w.may_leave (IsNoDiskOfSites (starts started.logs).sites) (IsUnserved first (last + 1)) old new
            (λ p is. unserved_logs first (last + 1) p started.logs started.follow (let e = started.as_many in omega (e, many, arith)) is) started.others;
        over = λ logs follow long are.
            let same = same_logs logs follow long are in
            subst (λ (ls : List Log). StopsOpening w tears config ls fault (places old [] link out) (places new [] new_link new_out)) same (record {
              broke = record {
                acts = broke.acts;
                rest = broke.rest;
                are = broke.are;
                comes = broke.comes;
                printed_more = broke.printed_more;
                left = broke.left;
                passes = broke.passes;
                cause = broke.cause;
                full = broke.full;
                logs = kept fault broke.acts broke.rest broke.logs (subst (λ (ls : List Log). AreLogsOf w.disk config.cluster old ls) (sym same) are);
              };
              boots = none_refused config.cluster started.logs fault no_boot;
            });
      }

      -- an endpoint is not bound
      pub bind_fails : (fault : ServeFault) (new_link : L) → BindsSome w.calls w.lost w.faults binds fault link new_link → FailsToOpen w tears config first last fault (places old [] link out) (places new [] new_link out)
      bind_fails fault new_link stop =
          fails_after fault new_link out (subst IsNoBoot (sym stop.is) tt) (subst (λ (f : ServeFault). OnSerial f 0) (sym stop.is) tt)
          (subst (λ (acts : List Act). Broke w ⊤ SameFacts acts fault (bare old link out) (bare new new_link out)) opened_are
          (did_broke w {Here = ⊤} {There = ⊤} {P = SameFacts} {Q = Silent} (λ rest comes. comes) facts_same booted
          (broke_more w {Told = ⊤} {P = Silent} lines (λ acts rest comes silent. silent) (broke_binding binds fault new link new_link out (all_bind config held) stop))))
        where
          facts_same : (before acts rest : List Act) → but_answers before ≡ boots → Silent acts rest → SameFacts (before ++ acts) rest
          facts_same before acts rest are silent c facts =
              facts_then c facts before acts ∙ (ap (with_facts (facts_after c facts before)) (silent c) ∙ facts_expected c facts before boots are)

      -- a boot is not told
      pub tell_fails : (fault : ServeFault) (new_link : L) (new_out : O) → BindsAll w.calls w.lost w.faults binds link new_link → LinesSome w.held w.out_faults lines fault out new_out
          → FailsToOpen w tears config first last fault (places old [] link out) (places new [] new_link new_out)
      tell_fails fault new_link new_out bound stop =
          fails_after fault new_link new_out no_boot serials
          (subst (λ (acts : List Act). Broke w ⊤ SameFacts acts fault (bare old link out) (bare new new_link new_out)) (append_assoc boots binds lines ∙ opened_are)
          (did_broke w {Here = ⊤} {There = ⊤} {P = SameFacts} {Q = Silent} (λ rest comes. comes) facts_same (did_then w booted (did_bind binds new link new_link out (all_bind config held) bound))
          (broke_printing lines fault new new_link out new_out (all_print held) stop)))
        where
          no_boot : IsNoBoot fault
          no_boot = elim stop.comes [
            | inl is ↦ subst IsNoBoot (sym is) tt
            | inr failed ↦ subst IsNoBoot (sym failed.0) tt
          ]

          serials : OnSerial fault 0
          serials = elim stop.comes [
            | inl is ↦ subst (λ (f : ServeFault). OnSerial f 0) (sym is) tt
            | inr failed ↦ subst (λ (f : ServeFault). OnSerial f 0) (sym failed.0) tt
          ]

          facts_same : (before acts rest : List Act) → but_answers before ≡ boots ++ binds → Silent acts rest → SameFacts (before ++ acts) rest
          facts_same before acts rest are silent c facts =
              facts_then c facts before acts
              ∙ (ap (with_facts (facts_after c facts before)) (silent c)
              ∙ (facts_expected c facts before (boots ++ binds) are ∙ (facts_then c facts boots binds ∙ ap (with_facts (facts_after c facts boots)) (silent_binds c))))

      -- all is open
      pub opens_all : (new_link : L) (new_out : O) → BindsAll w.calls w.lost w.faults binds link new_link → PrintsAll w.held w.out_faults lines out new_out
          → HasOpened w config first last (places old [] link out) (places new held new_link new_out)
      opens_all new_link new_out bound told = record {
        logs = started.logs;
        follow = started.follow;
        many = (let e = started.as_many in omega (e, many, arith));
        finish = record {
          did = subst (λ (m : Moment D L O). Did w (opened config started.logs).acts (bare old link out) m) (fresh_seen config.cluster new held started.logs new_link new_out started.each)
              (subst (λ (acts : List Act). Did w acts (bare old link out) (bare new new_link new_out)) (append_assoc boots binds lines ∙ opened_are)
              (did_then w (did_then w booted (did_bind binds new link new_link out (all_bind config held) bound)) (did_print lines new new_link out new_out (all_print held) told)));
          stand = held_stand config.cluster new held started.logs started.each;
          others = started.others;
        };
        ascend = ascends 0 first started.logs (omega (some, arith)) (let e = started.as_many in omega (e, many, most, arith)) started.follow;
        over = same_logs;
      }
