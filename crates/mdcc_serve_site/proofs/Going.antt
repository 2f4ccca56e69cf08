-- What a centre does, one part after another.
use Rattle.std.proofs.Common.{◌≡◌, ℕ, ◌≤◌, List, ◌++◌, Result, Ok, Err, sym, ◌∙◌, ap, subst, arith, IsTrue}
use Rattle.mdcc_log_file.specs.declared.fault.LogFault.{LogFault}
use Rattle.mdcc_def_messages.specs.declared.facts.Fact.{Fact}
use Rattle.mdcc_option.specs.declared.cluster.Cluster.{Cluster}
use Rattle.mdcc_def_server_runs.specs.Acts.{Act, but_answers}
use Rattle.mdcc_def_server_runs.specs.Sites.{Doing, Site, after_acts}
use Rattle.mdcc_serve_site.proofs.Joined.{broke_more, did_broke, did_then, facts_expected, facts_then, flight_more, others_then}
use Rattle.mdcc_serve_site.proofs.Owns.{IsWhole, Owns}
use Rattle.mdcc_serve_site.specs.Causes.{in_flight}
use Rattle.mdcc_serve_site.specs.Logs.{MayHaveFacts, facts_after}
use Rattle.mdcc_serve_site.specs.Moments.{Did, KeepsOthers, MayComeAt, Outside}
use Rattle.mdcc_serve_site.specs.SiteState.{Finishes, Goes, OnSerial, SiteLog, SiteOutside, Stops, seen}
use Rattle.mdcc_serve_site.specs.declared.fault.ServeFault.{ServeFault}

pub comes_under : {Here There : Type 0} (fault : ServeFault) (rest : List Act) → (Here → There) → MayComeAt There fault rest → MayComeAt Here fault rest
comes_under (ServeFault.Disk a) rest told comes = comes
comes_under (ServeFault.Log a (LogFault.NotALog offset)) rest told comes = λ here. comes (told here)
comes_under (ServeFault.Log a LogFault.LogFull) rest told comes = comes
comes_under (ServeFault.Log a LogFault.DiskFault) rest told comes = comes
comes_under (ServeFault.Log a LogFault.Memory) rest told comes = comes
comes_under (ServeFault.Boot a fault) rest told comes = comes
comes_under ServeFault.Link rest told comes = comes
comes_under ServeFault.Output rest told comes = comes
comes_under ServeFault.Serial rest told comes = comes
comes_under ServeFault.Memory rest told comes = comes

serial_later : (fault : ServeFault) (sent more : ℕ) → sent ≤ more → OnSerial fault sent → OnSerial fault more
serial_later (ServeFault.Disk a) sent more later is = tt
serial_later (ServeFault.Log a fault) sent more later is = tt
serial_later (ServeFault.Boot a fault) sent more later is = tt
serial_later ServeFault.Link sent more later is = tt
serial_later ServeFault.Output sent more later is = tt
serial_later ServeFault.Serial sent more later is = omega (later, is, arith)
serial_later ServeFault.Memory sent more later is = tt

module _ {D L O : Type 0} (w : Outside D L O) where
  -- acts that were done, and then what comes of the centre with the facts that these appended
  pub acts_then : {T : Type 0} (cluster : Cluster) (site next : Site) (acts : List Act) (second : Doing) (a b c : SiteOutside D L O) (r : Result T ServeFault)
      → next.centre ≡ site.centre → next.logged ≡ facts_after site.centre site.logged acts
      → Did w acts (seen a) (seen b) → KeepsOthers w.disk w.may_leave site.centre a.disks b.disks
      → Goes w cluster next second r b c → Goes w cluster site (after_acts acts second) r a c
  acts_then cluster site next acts second a b c (Ok x) centre logged one others two = record {
    did = did_then w one two.did;
    others = others_then w others (subst (λ (n : ℕ). KeepsOthers w.disk w.may_leave n b.disks c.disks) centre two.others);
    stands = two.stands;
  }
  acts_then cluster site next acts second a b c (Err fault) centre logged one others two = record {
    broke = did_broke w (λ rest comes. comes_under fault rest told comes) logs one two.broke;
    others = others_then w others (subst (λ (n : ℕ). KeepsOthers w.disk w.may_leave n b.disks c.disks) centre two.others);
    serials = two.serials;
    no_boot = two.no_boot;
  }
    where
      told : IsTrue (w.disk a.disks site.centre).told → IsTrue (w.disk b.disks next.centre).told
      told here = subst (λ (n : ℕ). IsTrue (w.disk b.disks n).told) (sym centre) (subst IsTrue (sym (one.passes.told site.centre)) here)

      logs : (before done rest : List Act) → but_answers before ≡ acts → SiteLog w next fault b.disks c.disks done rest → SiteLog w site fault a.disks c.disks (before ++ done) rest
      logs before done rest are log here =
          let e : facts_after next.centre next.logged done ≡ facts_after site.centre site.logged (before ++ done) =
          ap (λ (n : ℕ). facts_after n next.logged done) centre
          ∙ (ap (λ (fs : List Fact). facts_after site.centre fs done) (logged ∙ sym (facts_expected site.centre site.logged before acts are))
          ∙ sym (facts_then site.centre site.logged before done)) in
          subst (λ (n : ℕ). MayHaveFacts w.disk w.may_leave c.disks n (facts_after site.centre site.logged (before ++ done)) (in_flight fault n rest)) centre
          (subst (λ (fs : List Fact). MayHaveFacts w.disk w.may_leave c.disks next.centre fs (in_flight fault next.centre rest)) e (log (told here)))

  -- what it did, and then what it does
  pub goes_then : {T : Type 0} {cluster : Cluster} {site : Site} {first : Doing} {a b : SiteOutside D L O} (second : Doing) (c : SiteOutside D L O) (r : Result T ServeFault)
      → IsWhole site → Owns site first → Finishes w cluster site first a b → Goes w cluster first.site second r b c → Goes w cluster site (after_acts first.acts second) r a c
  goes_then {cluster = cluster} {site = site} {first = first} {a = a} {b = b} second c r whole owns one two =
      acts_then cluster site first.site first.acts second a b c r owns.centre (owns.logged whole) one.did one.others two

  -- what it ended in, with more to come
  pub stops_then : {site : Site} {first : Doing} {fault : ServeFault} {a b : SiteOutside D L O} (second : Doing) → first.site.sent ≤ second.site.sent
      → Stops w site first fault a b → Stops w site (after_acts first.acts second) fault a b
  stops_then {site = site} {first = first} {fault = fault} {a = a} {b = b} second later one = record {
    broke = broke_more w second.acts logs one.broke;
    others = one.others;
    serials = serial_later fault first.site.sent second.site.sent later one.serials;
    no_boot = one.no_boot;
  }
    where
      logs : (acts rest : List Act) → MayComeAt (IsTrue (w.disk a.disks site.centre).told) fault rest → SiteLog w site fault a.disks b.disks acts rest → SiteLog w site fault a.disks b.disks acts (rest ++ second.acts)
      logs acts rest comes log told =
          subst (λ (fs : List Fact). MayHaveFacts w.disk w.may_leave b.disks site.centre (facts_after site.centre site.logged acts) fs)
          (sym (flight_more (IsTrue (w.disk a.disks site.centre).told) fault site.centre rest second.acts comes)) (log told)
