-- What a server did, from its start to its end.
use Rattle.std.proofs.Common.{◌≡◌, ℕ, zero, suc, ◌+◌, ◌≤◌, ◌<◌, ◌^◌, List, [], ◌∷◌, ◌++◌, Option, Some, None, Result, Ok, Err, length, map, take, refl, sym, ◌∙◌, ap, subst, inl, inr, arith, IsTrue, append-nil, append_assoc, zero-add}
use Rattle.std.specs.Io.KnownBytes.{Appends}
use Rattle.std.specs.List.{AllByRecursion, range_with_len}
use Rattle.std.specs.Prelude.{IfErr, flat_map, fold, ⊤}
use Rattle.mdcc_base.specs.Counts.{sum_over}
use Rattle.mdcc_base.specs.declared.outside.Address.{Address}
use Rattle.mdcc_config.specs.IsConfig.{address_above}
use Rattle.mdcc_config.specs.declared.config.Config.{Config}
use Rattle.mdcc_disks.specs.Disks.{Disk, Only}
use Rattle.mdcc_log.specs.Frames.{OpenAreas}
use Rattle.mdcc_link.specs.Link.{LinkCall}
use Rattle.mdcc_def_messages.specs.Spelling.{encodings_of}
use Rattle.mdcc_def_messages.specs.declared.facts.Fact.{Fact}
use Rattle.mdcc_option.specs.declared.cluster.Cluster.{Cluster}
use Rattle.mdcc_serve_outbox.proofs.Recorded.{answers_append, none_recorded}
use Rattle.mdcc_serve_outbox.specs.Shows.{Records, count_limited}
use Rattle.mdcc_node_log.proofs.Places.{from_both}
use Rattle.mdcc_node_log.proofs.Struck.{rest_areas}
use Rattle.mdcc_def_rules.specs.Boot.{next_boot}
use Rattle.mdcc_def_server_runs.specs.Acts.{Act, but_answers, dropped_in, lost_in, printed, steps_in}
use Rattle.mdcc_def_server_runs.specs.Sending.{persist_then_send}
use Rattle.mdcc_def_server_runs.specs.Servers.{Log, Server, after_last, after_turn, boot_line, bound_at, endpoints_of, opened, persist_all_then_send, served, site_of, starts, turns_of}
use Rattle.mdcc_def_server_runs.specs.Sites.{Doing, Site}
use Rattle.mdcc_def_server_runs.specs.Turns.{Given, turn_of}
use Rattle.mdcc_def_server_runs.specs.declared.lines.ServerLine.{ServerLine}
use Rattle.mdcc_serve.proofs.Doings.{AllWhole}
use Rattle.mdcc_serve.proofs.Kept.{facts_or_more}
use Rattle.mdcc_serve.proofs.Last.{last_grew, last_logs, last_told}
use Rattle.mdcc_serve.proofs.Others.{keeps_fewer, keeps_then, unserved_logs}
use Rattle.mdcc_serve.proofs.Quiet.{opened_facts}
use Rattle.mdcc_serve.proofs.Repeated.{Grew, ascend_on, begun, grew_on, whole_on}
use Rattle.mdcc_serve.proofs.Rounds.{part_then}
use Rattle.mdcc_serve.proofs.Started.{comes_told, none_refused}
use Rattle.mdcc_serve.specs.Centres.{AllFinish, AllLogs, AllStop, AllTold, Ascend, HoldSites, Places, TurnsStop, all_seen, places}
use Rattle.mdcc_serve.specs.Ends.{AllButEnd, AllEnd, AllMade, SerialsFit, last_act}
use Rattle.mdcc_serve.specs.Openings.{FailsToOpen, HasOpened}
use Rattle.mdcc_serve.specs.Others.{IsNoDiskOfSites, IsUnserved, KeepsElsewhere, KeepsUnserved}
use Rattle.mdcc_serve.specs.Serving.{AreLogsOf, BreaksOff, HasSerials, IsDurable, Serves, ServesOrBreaksOff, WhileOpening}
use Rattle.mdcc_serve.specs.Stages.{InPart, StopsAt, after_turns, done_line}
use Rattle.mdcc_serve.specs.Starts.{Follow}
use Rattle.mdcc_serve.specs.Totals.{counts_of, done_of}
use Rattle.mdcc_serve.specs.declared.served.Served.{Served}
use Rattle.mdcc_serve_site.proofs.Going.{comes_under}
use Rattle.mdcc_serve_site.proofs.Joined.{caused_later, did_broke, did_then, facts_expected, facts_then, leaves_then, none_added, passes_then}
use Rattle.mdcc_serve_site.proofs.Owns.{turn_owns}
use Rattle.mdcc_serve_site.specs.Causes.{BootsRefused, ComesAt, IsNoBoot, IsSafeAt, failed_by, in_flight, text_begun}
use Rattle.mdcc_serve_site.specs.Logs.{KeepsFacts, MayHaveFacts, facts_after}
use Rattle.mdcc_serve_site.specs.Moments.{Adds, Broke, Caused, Did, Leaves, Moment, Outside, Passes}
use Rattle.mdcc_serve_site.specs.Room.{OnFull}
use Rattle.mdcc_serve_site.specs.SiteState.{HoldsLog, OnSerial, PrintsAll, PrintsSome}
use Rattle.mdcc_serve_site.specs.declared.fault.ServeFault.{ServeFault}
use Rattle.mdcc_serve_site.specs.declared.site.Site.{Site as TheSite}

-- ---- acts that no link has answered

plain_then : (xs ys : List Act) → but_answers xs ≡ xs → but_answers ys ≡ ys → but_answers (xs ++ ys) ≡ xs ++ ys
plain_then xs ys one two = answers_append xs ys ∙ (ap (λ (zs : List Act). zs ++ but_answers ys) one ∙ ap (λ (zs : List Act). xs ++ zs) two)

starts_plain : (logs : List Log) → but_answers (starts logs).acts ≡ (starts logs).acts
starts_plain [] = refl
starts_plain (log ∷ logs) = ap (λ (zs : List Act). Act.Append log.centre (next_boot log.facts ∷ []) ∷ zs) (starts_plain logs)

bound_plain : (at : ℕ) (to : Option Address) → but_answers (bound_at at to) ≡ bound_at at to
bound_plain at None = refl
bound_plain at (Some to) = refl

flat_plain : (f : Site → List Act) (sites : List Site) → ((site : Site) → but_answers (f site) ≡ f site) → but_answers (flat_map f sites) ≡ flat_map f sites
flat_plain f [] plain = refl
flat_plain f (site ∷ sites) plain = plain_then (f site) (flat_map f sites) (plain site) (flat_plain f sites plain)

endpoints_plain : (config : Config) (site : Site) → but_answers (endpoints_of config site) ≡ endpoints_of config site
endpoints_plain config site =
    plain_then (bound_at site.centre (address_above config 0 site.centre)) (bound_at (site.centre + 16) (address_above config 16 site.centre))
    (bound_plain site.centre (address_above config 0 site.centre)) (bound_plain (site.centre + 16) (address_above config 16 site.centre))

opened_plain : (config : Config) (logs : List Log) → but_answers (opened config logs).acts ≡ (opened config logs).acts
opened_plain config logs =
    let sites = (starts logs).sites in
    plain_then (starts logs).acts (flat_map (endpoints_of config) sites ++ flat_map boot_line sites) (starts_plain logs)
    (plain_then (flat_map (endpoints_of config) sites) (flat_map boot_line sites) (flat_plain (endpoints_of config) sites (endpoints_plain config)) (flat_plain boot_line sites (λ site. refl)))

-- ---- the logs of a cluster

abbrev first_of : ℕ → List ℕ → ℕ
first_of n [] = n
first_of n (x ∷ xs) = x

abbrev rest_of : List ℕ → List ℕ
rest_of [] = []
rest_of (x ∷ xs) = xs

pub follow_range : (n k : ℕ) (logs : List Log) → map (λ log. log.centre) logs ≡ range_with_len n k → Follow n logs
follow_range n k [] is = tt
follow_range n zero (log ∷ logs) is = absurd (cc)
follow_range n (suc k) (log ∷ logs) is = (ap (first_of n) is, follow_range (n + 1) k logs (ap rest_of is))

pub many_range : (n k : ℕ) (logs : List Log) → map (λ log. log.centre) logs ≡ range_with_len n k → length logs ≡ k
many_range n zero [] is = refl
many_range n (suc k) [] is = absurd (cc)
many_range n zero (log ∷ logs) is = absurd (cc)
many_range n (suc k) (log ∷ logs) is = let e = many_range (n + 1) k logs (ap rest_of is) in omega (e, arith)

-- ---- the turns after a start

turns_after : (config : Config) (acts : List Act) (sites : List Site) (given : List (List Given))
    → fold (after_turn config) (record { acts = acts; sites = sites }) given
    ≡ record { acts = acts ++ (fold (after_turn config) (begun sites) given).acts; sites = (fold (after_turn config) (begun sites) given).sites }
turns_after config acts sites [] = ap (λ (xs : List Act). let server : Server = record { acts = xs; sites = sites } in server) (sym (append-nil acts))
turns_after config acts sites (turn ∷ more) =
    let first = turns_of config sites turn in
    let rest = fold (after_turn config) (begun first.sites) more in
    turns_after config (acts ++ first.acts) first.sites more
    ∙ (ap (λ (xs : List Act). let server : Server = record { acts = xs; sites = rest.sites } in server) (append_assoc acts first.acts rest.acts)
    ∙ sym (ap (λ (server : Server). let next : Server = record { acts = acts ++ server.acts; sites = server.sites } in next) (turns_after config first.acts first.sites more)))

-- the turns of these centres
abbrev pub turned : Config → List Log → List (List Given) → Server
turned config logs given = fold (after_turn config) (begun (map site_of logs)) given

turned_are : (config : Config) (logs : List Log) (given : List (List Given))
    → after_turns config logs given ≡ record { acts = (opened config logs).acts ++ (turned config logs given).acts; sites = (turned config logs given).sites }
turned_are config logs given = turns_after config (opened config logs).acts (map site_of logs) given

turned_acts : (config : Config) (logs : List Log) (given : List (List Given)) → (after_turns config logs given).acts ≡ (opened config logs).acts ++ (turned config logs given).acts
turned_acts config logs given = ap (λ (server : Server). server.acts) (turned_are config logs given)

turned_sites : (config : Config) (logs : List Log) (given : List (List Given)) → (after_turns config logs given).sites ≡ (turned config logs given).sites
turned_sites config logs given = ap (λ (server : Server). server.sites) (turned_are config logs given)

-- and what goes out after them
abbrev pub ended : Config → List Log → List (List Given) → Server
ended config logs given = after_last config (turned config logs given)

served_is : (config : Config) (logs : List Log) (given : List (List Given))
    → served config logs given ≡ record { acts = (opened config logs).acts ++ (ended config logs given).acts; sites = (ended config logs given).sites }
served_is config logs given =
    let turns = turned config logs given in
    let last = persist_all_then_send config turns.sites in
    ap (after_last config) (turns_after config (opened config logs).acts (map site_of logs) given)
    ∙ ap (λ (xs : List Act). let server : Server = record { acts = xs; sites = last.sites } in server) (append_assoc (opened config logs).acts turns.acts last.acts)

acts_are : (config : Config) (logs : List Log) (given : List (List Given)) → (served config logs given).acts ≡ (opened config logs).acts ++ (ended config logs given).acts
acts_are config logs given = ap (λ (server : Server). server.acts) (served_is config logs given)

sites_are : (config : Config) (logs : List Log) (given : List (List Given)) → (served config logs given).sites ≡ (ended config logs given).sites
sites_are config logs given = ap (λ (server : Server). server.sites) (served_is config logs given)

as_many : (logs : List Log) → length (map site_of logs) ≡ length logs
as_many [] = refl
as_many (log ∷ logs) = let e = as_many logs in omega (e, arith)

-- nothing is pending when they start
sites_whole : (logs : List Log) → AllWhole (map site_of logs)
sites_whole [] = tt
sites_whole (log ∷ logs) = (refl, sites_whole logs)

given_each : (logs : List Log) (given : List (List Given)) → AllByRecursion (λ turn. length turn ≡ length (map site_of logs)) given → AllByRecursion (λ turn. length turn ≡ length logs) given
given_each logs given each = subst (λ (n : ℕ). AllByRecursion (λ turn. length turn ≡ n) given) (as_many logs) each

-- ---- the log of a centre

pub keeps_facts : {D : Type 0} (disk : D → ℕ → Disk) (may_leave : D → ℕ → List ℕ → Type 0) (every : ℕ) (disks : D) (log : OpenAreas) (centre : ℕ) (facts : List Fact)
    → HoldsLog disk may_leave every disks log centre facts → IsTrue (disk disks centre).told → KeepsFacts disk may_leave every disks centre facts
keeps_facts disk may_leave every disks log centre facts holds told =
    let rest = holds.open_log.at_rest told in
    let durable = from_both (λ (p : ℕ). Only (disk disks p).bytes (may_leave disks p)) centre log.centre log.area holds.open_log.of rest.range rest.in_use.durable rest.spare.durable in
    record {
      log = rest.log;
      read = (rest_areas disk may_leave disks log centre (encodings_of facts) holds.open_log.of rest).log_is;
      facts_themselves = sym rest.payloads_are;
      short = subst (λ (n : ℕ). n < every) rest.in_use.tail holds.few;
      durable = durable.0;
      durable_other = durable.1;
    }

module _ {D L O : Type 0} (w : Outside D L O) where
  -- ---- centres whose disks tell their bytes

  told_turned : (disks : D) (config : Config) (sites : List Site) (given : List Given) → AllTold w disks sites → AllTold w disks (turns_of config sites given).sites
  told_turned disks config [] [] told = told
  told_turned disks config [] (g ∷ given) told = told
  told_turned disks config (site ∷ sites) [] told = told
  told_turned disks config (site ∷ sites) (g ∷ given) told = (
    subst (λ (n : ℕ). IsTrue (w.disk disks n).told) (sym (turn_owns config site g).centre) told.0,
    told_turned disks config sites given told.1,
  )

  told_on : (disks : D) (config : Config) (server : Server) (given : List (List Given)) → AllTold w disks server.sites → AllTold w disks (fold (after_turn config) server given).sites
  told_on disks config server [] told = told
  told_on disks config server (turn ∷ more) told = told_on disks config (after_turn config server turn) more (told_turned disks config server.sites turn told)

  told_logs : (cluster : Cluster) (old mid : D) → ((p : ℕ) → (w.disk mid p).told ≡ (w.disk old p).told) → (logs : List Log) → AreLogsOf w.disk cluster old logs → AllTold w mid (map site_of logs)
  told_logs cluster old mid same [] are = tt
  told_logs cluster old mid same (log ∷ logs) are = (subst IsTrue (sym (same log.centre)) are.0.told, told_logs cluster old mid same logs are.1)

  -- ---- what their logs keep

  logs_keep : (cluster : Cluster) (disks : D) (held : List TheSite) (sites : List Site) → HoldSites w cluster disks held sites → AllTold w disks sites → AllByRecursion (λ site. site.logged ≡ site.node.facts) sites
      → AllByRecursion (λ site. KeepsFacts w.disk w.may_leave w.every disks site.centre site.node.facts) sites
  logs_keep cluster disks [] [] hold told all = tt
  logs_keep cluster disks (h ∷ held) (site ∷ sites) hold told all = (
    subst (λ (fs : List Fact). KeepsFacts w.disk w.may_leave w.every disks site.centre fs) all.0 (keeps_facts w.disk w.may_leave w.every disks h.log site.centre site.logged hold.0.log told.0),
    logs_keep cluster disks held sites hold.1 told.1 all.1,
  )
  logs_keep cluster disks [] (site ∷ sites) hold told all = absurd hold
  logs_keep cluster disks (h ∷ held) [] hold told all = absurd hold

  serials_keep : (cluster : Cluster) (disks : D) (held : List TheSite) (sites : List Site) → HoldSites w cluster disks held sites → SerialsFit held → AllByRecursion HasSerials sites
  serials_keep cluster disks [] [] hold fit = tt
  serials_keep cluster disks (h ∷ held) (site ∷ sites) hold fit =
      (subst (λ (n : ℕ). n < 2 ^ 32) hold.0.itself.sender.sent fit.0, serials_keep cluster disks held sites hold.1 fit.1)
  serials_keep cluster disks [] (site ∷ sites) hold fit = absurd hold
  serials_keep cluster disks (h ∷ held) [] hold fit = absurd hold

  -- what is appended after a start is appended after its boot
  facts_since : (c : ℕ) (facts now : List Fact) (first before acts : List Act) → but_answers before ≡ first → facts_after c facts first ≡ now → facts_after c now acts ≡ facts_after c facts (before ++ acts)
  facts_since c facts now first before acts are is =
      ap (λ (fs : List Fact). facts_after c fs acts) (sym (facts_expected c facts before first are ∙ is)) ∙ sym (facts_then c facts before acts)

  -- where a turn ended
  logs_since : (fault : ServeFault) (mid new : D) (first before acts rest : List Act) → but_answers before ≡ first → (logs : List Log)
      → AllByRecursion (λ log. facts_after log.centre log.facts first ≡ next_boot log.facts ∷ log.facts) logs → AllTold w mid (map site_of logs) → AllLogs w (map site_of logs) fault mid new acts rest
      → AllByRecursion (λ log. MayHaveFacts w.disk w.may_leave new log.centre (facts_after log.centre log.facts (before ++ acts)) (in_flight fault log.centre rest)) logs
  logs_since fault mid new first before acts rest are [] facts told all = tt
  logs_since fault mid new first before acts rest are (log ∷ logs) facts told all = (
    subst (λ (fs : List Fact). MayHaveFacts w.disk w.may_leave new log.centre fs (in_flight fault log.centre rest))
        (facts_since log.centre log.facts (next_boot log.facts ∷ log.facts) first before acts are facts.0) (all.0 told.0),
    logs_since fault mid new first before acts rest are logs facts.1 told.1 all.1,
  )

  -- where all turns were made
  logs_end : (fault : ServeFault) (cluster : Cluster) (new : D) (first more acts rest : List Act) → but_answers first ≡ first → but_answers acts ≡ first ++ more → (logs : List Log) (held : List TheSite) (sites : List Site)
      → AllByRecursion (λ log. facts_after log.centre log.facts first ≡ next_boot log.facts ∷ log.facts) logs → AllTold w new (map site_of logs) → Grew more (map site_of logs) sites → HoldSites w cluster new held sites
      → AllByRecursion (λ log. MayHaveFacts w.disk w.may_leave new log.centre (facts_after log.centre log.facts acts) (in_flight fault log.centre rest)) logs
  logs_end fault cluster new first more acts rest plain are [] held sites facts told grew hold = tt
  logs_end fault cluster new first more acts rest plain are (log ∷ logs) (h ∷ held) (site ∷ sites) facts told grew hold = (
    (let now : List Fact = next_boot log.facts ∷ log.facts in
        let same : site.logged ≡ facts_after log.centre log.facts acts =
        grew.1 ∙ (facts_since log.centre log.facts now first first more plain facts.0 ∙ sym (facts_expected log.centre log.facts acts (first ++ more) are)) in
        facts_or_more w.disk w.may_leave new log.centre (facts_after log.centre log.facts acts) (in_flight fault log.centre rest)
        (subst (λ (fs : List Fact). MayHaveFacts w.disk w.may_leave new log.centre fs []) same
        (subst (λ (n : ℕ). MayHaveFacts w.disk w.may_leave new n site.logged []) grew.0
        (hold.0.log.open_log.left (subst (λ (n : ℕ). IsTrue (w.disk new n).told) (sym grew.0) told.0))))),
    logs_end fault cluster new first more acts rest plain are logs held sites facts.1 told.1 grew.2 hold.1,
  )
  logs_end fault cluster new first more acts rest plain are (log ∷ logs) [] [] facts told grew hold = absurd grew
  logs_end fault cluster new first more acts rest plain are (log ∷ logs) [] (site ∷ sites) facts told grew hold = absurd hold
  logs_end fault cluster new first more acts rest plain are (log ∷ logs) (h ∷ held) [] facts told grew hold = absurd grew

  -- ---- the last line

  -- nothing but the output
  out_passes : (disks : D) (held : List TheSite) (link : L) (out new_out : O) → w.out_faults out ≤ w.out_faults new_out → Passes w (all_seen (places disks held link out)) (all_seen (places disks held link new_out))
  out_passes disks held link out new_out later = record { told = λ p. refl; faults = λ p. omega arith; sends = omega arith; receives = omega arith; writes = later }

  line_left : (line : ServerLine) (disks : D) (held : List TheSite) (link : L) (out new_out : O) → PrintsAll w.held w.out_faults (Act.Print line ∷ []) out new_out
      → Leaves w (Act.Print line ∷ []) [] [] (all_seen (places disks held link out)) (all_seen (places disks held link new_out))
  line_left line disks held link out new_out prints = record {
    link = none_recorded (w.calls link);
    output = subst (λ (text : List ℕ). Appends (w.held out) (w.held new_out) text) (sym (append-nil (printed (Act.Print line ∷ [])))) prints.printed_all;
    failed_sends = λ some. absurd (omega (some, arith));
    steps = none_added (sum_over (λ h. h.steps) held);
    dropped = none_added (sum_over (λ h. h.dropped) held);
    lost_told = none_added (sum_over (λ h. h.sender.lost) held);
  }

  line_calls : (line : ServerLine) (fault : ServeFault) (out new_out : O) → PrintsSome w.held w.out_faults (Act.Print line ∷ []) fault out new_out → failed_by fault (Act.Print line ∷ []) ≡ []
  line_calls line fault out new_out prints = elim prints.comes [
    | inl none ↦ ap (λ (f : ServeFault). failed_by f (Act.Print line ∷ [])) none.0
    | inr failed ↦ ap (λ (f : ServeFault). failed_by f (Act.Print line ∷ [])) failed.0
  ]

  line_begun : (line : ServerLine) (fault : ServeFault) (disks : D) (held : List TheSite) (link : L) (out new_out : O) → (prints : PrintsSome w.held w.out_faults (Act.Print line ∷ []) fault out new_out)
      → Leaves w [] (failed_by fault (Act.Print line ∷ [])) (take prints.more (text_begun fault (Act.Print line ∷ []))) (all_seen (places disks held link out)) (all_seen (places disks held link new_out))
  line_begun line fault disks held link out new_out prints = record {
    link = subst (λ (cs : List LinkCall). Records cs (w.calls link) (w.calls link)) (sym (line_calls line fault out new_out prints)) (none_recorded (w.calls link));
    output = prints.front;
    failed_sends = λ some. absurd (omega (some, arith));
    steps = none_added (sum_over (λ h. h.steps) held);
    dropped = none_added (sum_over (λ h. h.dropped) held);
    lost_told = none_added (sum_over (λ h. h.sender.lost) held);
  }

  -- it says what was counted
  from_none : (n more : ℕ) → Adds n 0 more → count_limited more ≡ count_limited n
  from_none n more adds = adds ∙ ap count_limited (zero-add n)

  line_is : (turns : ℕ) (held : List TheSite) (acts : List Act) → count_limited (sum_over (λ h. h.steps) held) ≡ count_limited (steps_in acts) → count_limited (sum_over (λ h. h.dropped) held) ≡ count_limited (dropped_in acts)
      → count_limited (sum_over (λ h. h.sender.lost) held) ≡ count_limited (lost_in acts) → done_of (counts_of turns held) ≡ done_line turns acts
  line_is turns held acts steps dropped lost =
      ap (λ (n : ℕ). ServerLine.Done turns n (count_limited (sum_over (λ h. h.dropped) held)) (count_limited (sum_over (λ h. h.sender.lost) held))) steps
      ∙ (ap (λ (n : ℕ). ServerLine.Done turns (count_limited (steps_in acts)) n (count_limited (sum_over (λ h. h.sender.lost) held))) dropped
      ∙ ap (λ (n : ℕ). ServerLine.Done turns (count_limited (steps_in acts)) (count_limited (dropped_in acts)) n) lost)

  -- ---- a prefix of the acts was done

  -- each log has its facts and those that were appended, or perhaps those that were being appended too
  abbrev AllKeep : List Log → ServeFault → D → List Act → List Act → Type 0
  AllKeep logs fault new acts rest =
      AllByRecursion (λ log. MayHaveFacts w.disk w.may_leave new log.centre (facts_after log.centre log.facts acts) (in_flight fault log.centre rest)) logs

  breaks : (tears : ℕ → Type 0) (config : Config) (due : w.every ≡ config.checkpoint) (logs : List Log) (turns : ℕ) (fault : ServeFault) (old new : Places D L O) {P : List Act → List Act → Type 0} {expected : List Act}
      → (broke : Broke w ⊤ P expected fault (all_seen old) (all_seen new)) → BootsRefused config.cluster logs fault → (stops : StopsAt config logs turns fault broke.acts broke.rest)
      → (WhileOpening stops (AllByRecursion (IsDurable w.disk w.may_leave old.disks) logs × IsSafeAt tears fault broke.rest) → AllKeep logs fault new.disks broke.acts broke.rest)
      → BreaksOff w.disk w.may_leave tears w.calls w.lost w.held config logs turns fault old.disks new.disks old.link new.link old.out new.out
  breaks tears config due logs turns fault old new broke boots stops kept = record {
    acts = broke.acts;
    rest = broke.rest;
    stops = stops;
    comes = comes_told ⊤ fault broke.rest tt broke.comes;
    boots = boots;
    full = subst (λ (every : ℕ). OnFull w.disk w.may_leave every new.disks fault broke.rest) due broke.full;
    printed_more = broke.printed_more;
    left = record { link = broke.left.link; output = broke.left.output; failed_sends = broke.left.failed_sends };
    kept = kept;
  }

  pub start_breaks : (tears : ℕ → Type 0) (config : Config) (due : w.every ≡ config.checkpoint) (first last turns : ℕ) (fault : ServeFault) (old new : Places D L O) → FailsToOpen w tears config first last fault old new
      → (logs : List Log) → Follow first logs → length logs + first ≡ last + 1 → AreLogsOf w.disk config.cluster old.disks logs
      → BreaksOff w.disk w.may_leave tears w.calls w.lost w.held config logs turns fault old.disks new.disks old.link new.link old.out new.out
  start_breaks tears config due first last turns fault old new fails logs follow long are =
      let stop = fails.over logs follow long are in
      breaks tears config due logs turns fault old new stop.broke stop.boots (inl (record { runs = stop.broke.are; serials = fails.serials })) (λ asked. stop.broke.logs asked.0 asked.1)

  -- ---- centres that ran

  -- what becomes of centres that run
  abbrev pub EndsFrom : Config → ℕ → Result Served ServeFault → Places D L O → Places D L O → Type 0
  EndsFrom config turns result mid new =
      (sites : List Site) → HoldSites w config.cluster mid.disks mid.held sites → Ascend 0 sites → AllEnd w config sites turns result mid new

  module _ (tears : ℕ → Type 0) (config : Config) (due : w.every ≡ config.checkpoint) (first turns : ℕ) (logs : List Log) (follow : Follow first logs) (ascend : Ascend 0 (map site_of logs)) (old_disks : D) (old_link : L) (old_out : O) (mid new : Places D L O)
      (are : AreLogsOf w.disk config.cluster old_disks logs) (finish : AllFinish w config.cluster (opened config logs).sites (opened config logs) (places old_disks [] old_link old_out) mid)
    where
      abbrev first_place : Places D L O
      first_place = places old_disks [] old_link old_out

      told_mid : AllTold w mid.disks (map site_of logs)
      told_mid = told_logs config.cluster old_disks mid.disks finish.did.passes.told logs are

      -- one ended in its part
      module _ (fault : ServeFault) (before : List Act) (doing : Doing) (stop : AllStop w (map site_of logs) before doing fault mid new) where
        -- its log, and what was done
        abbrev Left : List Act → List Act → Type 0
        Left acts rest = AllKeep logs fault new.disks acts rest × InPart ((opened config logs).acts ++ before) doing.acts acts rest

        part_left : (earlier acts rest : List Act) → but_answers earlier ≡ (opened config logs).acts → AllLogs w (map site_of logs) fault mid.disks new.disks acts rest × InPart before doing.acts acts rest → Left (earlier ++ acts) rest
        part_left earlier acts rest is q = (
          logs_since fault mid.disks new.disks (opened config logs).acts earlier acts rest is logs (opened_facts config first logs follow) told_mid q.0,
          part_then (opened config logs).acts before doing.acts earlier acts rest is q.1,
        )

        part_broke : Broke w ⊤ Left ((opened config logs).acts ++ (before ++ doing.acts)) fault (all_seen first_place) (all_seen new)
        part_broke =
            did_broke w {Here = ⊤} {There = AllTold w mid.disks (map site_of logs)} {P = Left}
            (λ rest comes. comes_under {Here = ⊤} {There = AllTold w mid.disks (map site_of logs)} fault rest (λ here. told_mid) comes)
            part_left finish.did stop.broke

        -- after these turns
        part_of : (given : List (List Given)) (own acts rest : List Act) → before ≡ (turned config logs given).acts ++ own → InPart ((opened config logs).acts ++ before) doing.acts acts rest
            → InPart ((after_turns config logs given).acts ++ own) doing.acts acts rest
        part_of given own acts rest is part =
            subst (λ (xs : List Act). InPart xs doing.acts acts rest)
            (ap (λ (xs : List Act). (opened config logs).acts ++ xs) is
            ∙ (sym (append_assoc (opened config logs).acts (turned config logs given).acts own) ∙ ap (λ (xs : List Act). xs ++ own) (sym (turned_acts config logs given)))) part

        part_breaks : (stops : StopsAt config logs turns fault part_broke.acts part_broke.rest) → BreaksOff w.disk w.may_leave tears w.calls w.lost w.held config logs turns fault old_disks new.disks old_link new.link old_out new.out
        part_breaks stops = breaks tears config due logs turns fault first_place new part_broke (none_refused config.cluster logs fault stop.no_boot) stops (λ asked. part_broke.logs.0)

      -- in a turn
      turn_breaks : (fault : ServeFault) → TurnsStop w config (map site_of logs) turns fault mid new
          → BreaksOff w.disk w.may_leave tears w.calls w.lost w.held config logs turns fault old_disks new.disks old_link new.link old_out new.out
      turn_breaks fault it =
          let at = it.at in
          let own = (turns_of config at.front at.earlier).acts in
          let before = (turned config logs it.given).acts ++ own in
          let doing = turn_of config at.site at.given in
          let broke = part_broke fault before doing it.stop in
          part_breaks fault before doing it.stop (inr (inl (record {
            given = it.given;
            fewer = it.fewer;
            each = given_each logs it.given it.each;
            at = record { front = at.front; site = at.site; back = at.back; are = turned_sites config logs it.given ∙ at.are; earlier = at.earlier; as_many = at.as_many; given = at.given };
            runs = part_of fault before doing it.stop it.given own broke.acts broke.rest refl broke.logs.1;
            serials = it.stop.serials;
          })))

      -- after the last turn
      end_breaks : (fault : ServeFault) → AllButEnd w config (map site_of logs) turns fault mid new
          → BreaksOff w.disk w.may_leave tears w.calls w.lost w.held config logs turns fault old_disks new.disks old_link new.link old_out new.out
      end_breaks fault it =
          let at = it.at in
          let own = (persist_all_then_send config at.front).acts in
          let before = (turned config logs it.given).acts ++ own in
          let doing = persist_then_send config at.site in
          let broke = part_broke fault before doing it.stop in
          part_breaks fault before doing it.stop (inr (inr (inl (record {
            given = it.given;
            turns_made = it.turns_made;
            each = given_each logs it.given it.each;
            at = record { front = at.front; site = at.site; back = at.back; are = turned_sites config logs it.given ∙ at.are };
            runs = part_of fault before doing it.stop it.given own broke.acts broke.rest refl broke.logs.1;
            serials = it.stop.serials;
          }))))

      -- all turns were made, and nothing is pending
      module _ (out : O) (all : AllMade w config (map site_of logs) turns mid new out) where
        abbrev given : List (List Given)
        given = all.given

        abbrev last_place : Places D L O
        last_place = places new.disks new.held new.link out

        ran : Did w (served config logs given).acts (all_seen first_place) (all_seen last_place)
        ran = subst (λ (acts : List Act). Did w acts (all_seen first_place) (all_seen last_place)) (sym (acts_are config logs given)) (did_then w finish.did all.finish.did)

        told_new : AllTold w new.disks (map site_of logs)
        told_new = told_logs config.cluster old_disks new.disks ran.passes.told logs are

        told_last : AllTold w new.disks (ended config logs given).sites
        told_last = last_told w new.disks config (turned config logs given).sites (told_on new.disks config (begun (map site_of logs)) given told_new)

        grew : Grew (ended config logs given).acts (map site_of logs) (ended config logs given).sites
        grew =
            last_grew w config (map site_of logs) (turned config logs given) (ascend_on config (begun (map site_of logs)) given ascend)
            (whole_on config (begun (map site_of logs)) given (sites_whole logs)) (grew_on w config (map site_of logs) given ascend (sites_whole logs) all.each)

        line : done_of (counts_of turns new.held) ≡ done_line turns ran.acts
        line = line_is turns new.held ran.acts
            (from_none (steps_in ran.acts) (sum_over (λ h. h.steps) new.held) ran.left.steps)
            (from_none (dropped_in ran.acts) (sum_over (λ h. h.dropped) new.held) ran.left.dropped)
            (from_none (lost_in ran.acts) (sum_over (λ h. h.sender.lost) new.held) ran.left.lost_told)

        -- the last line was printed too
        run_serves : (result : Served) → result ≡ counts_of turns new.held → PrintsAll w.held w.out_faults (last_act turns new.held) out new.out
            → Serves w.disk w.may_leave tears w.calls w.lost w.held config logs turns result new.disks old_link new.link old_out new.out
        run_serves result counts tells =
            let prints = subst (λ (l : ServerLine). PrintsAll w.held w.out_faults (Act.Print l ∷ []) out new.out) line tells in
            let left : Leaves w (ran.acts ++ Act.Print (done_line turns ran.acts) ∷ []) [] [] (all_seen first_place) (all_seen new) =
            leaves_then w ran.left ran.passes (line_left (done_line turns ran.acts) new.disks new.held new.link out new.out prints) (out_passes new.disks new.held new.link out new.out prints.later) in
            record {
              acts = ran.acts ++ Act.Print (done_line turns ran.acts) ∷ [];
              run = record { given = given; turns_made = all.turns_made; each = given_each logs given all.each; ran = ran.acts; runs = ran.are; whole = refl };
              left = record { link = left.link; output = left.output; failed_sends = left.failed_sends };
              kept = subst (λ (sites : List Site). AllByRecursion (λ site. KeepsFacts w.disk w.may_leave config.checkpoint new.disks site.centre site.node.facts) sites) (sym (sites_are config logs given))
                  (subst (λ (every : ℕ). AllByRecursion (λ site. KeepsFacts w.disk w.may_leave every new.disks site.centre site.node.facts) (ended config logs given).sites) due
                  (logs_keep config.cluster new.disks new.held (ended config logs given).sites all.finish.stand told_last (last_logs config (turned config logs given).sites)));
              serials = subst (λ (sites : List Site). AllByRecursion HasSerials sites) (sym (sites_are config logs given))
                  (serials_keep config.cluster new.disks new.held (ended config logs given).sites all.finish.stand all.serials);
              turns_told = ap (λ (s : Served). s.turns) counts;
              steps_told = ap (λ (s : Served). s.steps) counts ∙ from_none (steps_in (ran.acts ++ Act.Print (done_line turns ran.acts) ∷ [])) (sum_over (λ h. h.steps) new.held) left.steps;
              dropped_told = ap (λ (s : Served). s.dropped) counts ∙ from_none (dropped_in (ran.acts ++ Act.Print (done_line turns ran.acts) ∷ [])) (sum_over (λ h. h.dropped) new.held) left.dropped;
              lost_told = ap (λ (s : Served). s.lost) counts ∙ from_none (lost_in (ran.acts ++ Act.Print (done_line turns ran.acts) ∷ [])) (sum_over (λ h. h.sender.lost) new.held) left.lost_told;
            }

        -- the last line was not printed
        line_breaks : (fault : ServeFault) → PrintsSome w.held w.out_faults (last_act turns new.held) fault out new.out
            → BreaksOff w.disk w.may_leave tears w.calls w.lost w.held config logs turns fault old_disks new.disks old_link new.link old_out new.out
        line_breaks fault tells =
            let prints : PrintsSome w.held w.out_faults (Act.Print (done_line turns ran.acts) ∷ []) fault out new.out =
            subst (λ (l : ServerLine). PrintsSome w.held w.out_faults (Act.Print l ∷ []) fault out new.out) line tells in
            let left : Leaves w (ran.acts ++ []) (failed_by fault (Act.Print (done_line turns ran.acts) ∷ [])) (take prints.more (text_begun fault (Act.Print (done_line turns ran.acts) ∷ []))) (all_seen first_place) (all_seen new) =
            leaves_then w ran.left ran.passes (line_begun (done_line turns ran.acts) fault new.disks new.held new.link out new.out prints) (out_passes new.disks new.held new.link out new.out prints.later) in
            let done : Leaves w ran.acts (failed_by fault (Act.Print (done_line turns ran.acts) ∷ [])) (take prints.more (text_begun fault (Act.Print (done_line turns ran.acts) ∷ []))) (all_seen first_place) (all_seen new) =
            subst (λ (acts : List Act). Leaves w acts (failed_by fault (Act.Print (done_line turns ran.acts) ∷ [])) (take prints.more (text_begun fault (Act.Print (done_line turns ran.acts) ∷ []))) (all_seen first_place) (all_seen new)) (append-nil ran.acts) left in
            record {
              acts = ran.acts;
              rest = Act.Print (done_line turns ran.acts) ∷ [];
              stops = inr (inr (inr (record {
                given = given;
                turns_made = all.turns_made;
                each = given_each logs given all.each;
                runs = ran.are;
                line = refl;
                serials = elim prints.comes [
                  | inl none ↦ subst (λ (f : ServeFault). OnSerial f 0) (sym none.0) tt
                  | inr failed ↦ subst (λ (f : ServeFault). OnSerial f 0) (sym failed.0) tt
                ];
              })));
              comes = elim prints.comes [
                | inl none ↦ subst (λ (f : ServeFault). ComesAt f (Act.Print (done_line turns ran.acts) ∷ [])) (sym none.0) tt
                | inr failed ↦ subst (λ (f : ServeFault). ComesAt f (Act.Print (done_line turns ran.acts) ∷ [])) (sym failed.0) tt
              ];
              boots = none_refused config.cluster logs fault (elim prints.comes [
                | inl none ↦ subst IsNoBoot (sym none.0) tt
                | inr failed ↦ subst IsNoBoot (sym failed.0) tt
              ]);
              full = elim prints.comes [
                | inl none ↦ subst (λ (f : ServeFault). OnFull w.disk w.may_leave config.checkpoint new.disks f (Act.Print (done_line turns ran.acts) ∷ [])) (sym none.0) tt
                | inr failed ↦ subst (λ (f : ServeFault). OnFull w.disk w.may_leave config.checkpoint new.disks f (Act.Print (done_line turns ran.acts) ∷ [])) (sym failed.0) tt
              ];
              printed_more = prints.more;
              left = record { link = done.link; output = done.output; failed_sends = done.failed_sends };
              kept = λ asked.
                  logs_end fault config.cluster new.disks (opened config logs).acts (ended config logs given).acts ran.acts (Act.Print (done_line turns ran.acts) ∷ []) (opened_plain config logs) (ran.are ∙ acts_are config logs given)
                  logs new.held (ended config logs given).sites (opened_facts config first logs follow) told_new grew all.finish.stand;
            }

      ends : (result : Result Served ServeFault) → AllEnd w config (map site_of logs) turns result mid new
          → ServesOrBreaksOff w.disk w.may_leave tears w.calls w.lost w.held config logs turns result old_disks new.disks old_link new.link old_out new.out
      ends (Ok result) tell = run_serves tell.out tell.made result tell.counts tell.tells
      ends (Err fault) (inl it) = turn_breaks fault it
      ends (Err fault) (inr (inl it)) = end_breaks fault it
      ends (Err fault) (inr (inr but)) = line_breaks but.out but.made fault but.tells

  -- a server over these logs
  pub serves : (tears : ℕ → Type 0) (config : Config) (due : w.every ≡ config.checkpoint) (first last turns : ℕ) (result : Result Served ServeFault) (old_disks : D) (old_link : L) (old_out : O) (mid new : Places D L O)
      → HasOpened w config first last (places old_disks [] old_link old_out) mid → EndsFrom config turns result mid new
      → (logs : List Log) → Follow first logs → length logs + first ≡ last + 1 → AreLogsOf w.disk config.cluster old_disks logs
      → ServesOrBreaksOff w.disk w.may_leave tears w.calls w.lost w.held config logs turns result old_disks new.disks old_link new.link old_out new.out
  serves tears config due first last turns result old_disks old_link old_out mid new has end logs follow long are =
      let same : has.logs ≡ logs = has.over logs follow long are in
      subst (λ (ls : List Log). ServesOrBreaksOff w.disk w.may_leave tears w.calls w.lost w.held config ls turns result old_disks new.disks old_link new.link old_out new.out) same
      (ends tears config due first turns has.logs has.follow has.ascend old_disks old_link old_out mid new
      (subst (λ (ls : List Log). AreLogsOf w.disk config.cluster old_disks ls) (sym same) are) has.finish result (end (map site_of has.logs) has.finish.stand has.ascend))

  -- ---- what stays

  end_others : (config : Config) (sites : List Site) (turns : ℕ) (result : Result Served ServeFault) (old new : Places D L O) → AllEnd w config sites turns result old new → KeepsElsewhere w.disk w.may_leave sites old.disks new.disks
  end_others config sites turns (Ok result) old new tell = tell.made.finish.others
  end_others config sites turns (Err fault) old new (inl it) = it.stop.others
  end_others config sites turns (Err fault) old new (inr (inl it)) = it.stop.others
  end_others config sites turns (Err fault) old new (inr (inr but)) = but.made.finish.others

  pub serve_others : (config : Config) (first last turns : ℕ) (result : Result Served ServeFault) (old mid new : Places D L O) → HasOpened w config first last old mid → EndsFrom config turns result mid new
      → KeepsUnserved w.disk w.may_leave first (last + 1) old.disks new.disks
  serve_others config first last turns result old mid new has end =
      let sites = map site_of has.logs in
      let each = end sites has.finish.stand has.ascend in
      keeps_fewer w.disk w.may_leave (IsNoDiskOfSites sites) (IsUnserved first (last + 1)) old.disks new.disks
      (λ p is. unserved_logs first (last + 1) p has.logs has.follow (let many = has.many in omega (many, arith)) is)
      (keeps_then w.disk w.may_leave (IsNoDiskOfSites sites) old.disks mid.disks new.disks has.finish.others (end_others config sites turns result mid new each))

  -- ---- why it ended

  caused_seen : (fault : ServeFault) (old : Moment D L O) (new : Places D L O) → Caused w fault old (all_seen new) → Caused w fault old (all_seen (places new.disks [] new.link new.out))
  caused_seen (ServeFault.Disk a) old new cause = cause
  caused_seen (ServeFault.Log a why) old new cause = tt
  caused_seen (ServeFault.Boot a why) old new cause = tt
  caused_seen ServeFault.Link old new cause = cause
  caused_seen ServeFault.Output old new cause = cause
  caused_seen ServeFault.Serial old new cause = tt
  caused_seen ServeFault.Memory old new cause = tt

  line_caused : (acts : List Act) (fault : ServeFault) (disks : D) (held : List TheSite) (link : L) (out new_out : O) → PrintsSome w.held w.out_faults acts fault out new_out
      → Caused w fault (all_seen (places disks held link out)) (all_seen (places disks held link new_out))
  line_caused acts fault disks held link out new_out prints = elim prints.comes [
    | inl none ↦ subst (λ (f : ServeFault). Caused w f (all_seen (places disks held link out)) (all_seen (places disks held link new_out))) (sym none.0) tt
    | inr failed ↦ subst (λ (f : ServeFault). Caused w f (all_seen (places disks held link out)) (all_seen (places disks held link new_out))) (sym failed.0) failed.2
  ]

  stop_caused : (fault : ServeFault) {sites : List Site} {before : List Act} {doing : Doing} (old : Moment D L O) (mid new : Places D L O) → Passes w old (all_seen mid) → AllStop w sites before doing fault mid new
      → Caused w fault old (all_seen (places new.disks [] new.link new.out))
  stop_caused fault old mid new passes stop = caused_seen fault old new (caused_later w fault old (all_seen mid) (all_seen new) passes stop.broke.cause)

  end_caused : (config : Config) (sites : List Site) (turns : ℕ) (result : Result Served ServeFault) (old : Moment D L O) (mid new : Places D L O) → Passes w old (all_seen mid) → AllEnd w config sites turns result mid new
      → IfErr result (λ fault. Caused w fault old (all_seen (places new.disks [] new.link new.out)))
  end_caused config sites turns (Ok result) old mid new passes tell = tt
  end_caused config sites turns (Err fault) old mid new passes (inl it) = stop_caused fault old mid new passes it.stop
  end_caused config sites turns (Err fault) old mid new passes (inr (inl it)) = stop_caused fault old mid new passes it.stop
  end_caused config sites turns (Err fault) old mid new passes (inr (inr but)) =
      caused_seen fault old new
      (caused_later w fault old (all_seen (places new.disks new.held new.link but.out)) (all_seen new) (passes_then w passes but.made.finish.did.passes)
      (line_caused (last_act turns new.held) fault new.disks new.held new.link but.out new.out but.tells))

  pub serve_caused : (config : Config) (first last turns : ℕ) (result : Result Served ServeFault) (old mid new : Places D L O) → HasOpened w config first last old mid → EndsFrom config turns result mid new
      → IfErr result (λ fault. Caused w fault (all_seen old) (all_seen (places new.disks [] new.link new.out)))
  serve_caused config first last turns result old mid new has end =
      end_caused config (map site_of has.logs) turns result (all_seen old) mid new has.finish.did.passes (end (map site_of has.logs) has.finish.stand has.ascend)
