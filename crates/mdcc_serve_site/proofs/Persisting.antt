-- What is pending at a centre goes out: its facts, its messages, and its lines.
use Rattle.std.proofs.Common.{◌≡◌, ℕ, ◌≤◌, List, Ok, Err, refl, sym, ◌∙◌, ap, subst, arith}
use Rattle.std.specs.List.{AllByRecursion}
use Rattle.mdcc_config.specs.declared.config.Config.{Config}
use Rattle.mdcc_def_messages.specs.declared.facts.Fact.{Fact}
use Rattle.mdcc_def_messages.specs.declared.messages.Envelope.{Envelope}
use Rattle.mdcc_option.specs.declared.cluster.Cluster.{Cluster}
use Rattle.mdcc_serve_outbox.proofs.Bytes.{all_go}
use Rattle.mdcc_serve_outbox.proofs.Messages.{messages_later}
use Rattle.mdcc_serve_outbox.specs.Outgoing.{CanGo}
use Rattle.mdcc_serve_outbox.specs.declared.outgoing.Outgoing.{Outgoing}
use Rattle.mdcc_def_server_runs.specs.Sending.{envelopes_sent, facts_logged, heard_printed, persist_then_send, persisted}
use Rattle.mdcc_def_server_runs.specs.Sites.{Doing, Site, after_acts, doing, nothing_pending}
use Rattle.mdcc_serve_site.proofs.Going.{goes_then, stops_then}
use Rattle.mdcc_serve_site.proofs.Owns.{IsWhole, logged_owns, messages_own}
use Rattle.mdcc_serve_site.proofs.Parts.{log_goes, log_stops, logged}
use Rattle.mdcc_serve_site.proofs.Sent.{messages_only, sent_goes, sent_stops}
use Rattle.mdcc_serve_site.specs.AnyMoment.{LeavesEither}
use Rattle.mdcc_serve_site.specs.LogEffects.{FailsToLog, HasLogged}
use Rattle.mdcc_serve_site.specs.Logs.{with_facts}
use Rattle.mdcc_serve_site.specs.Moments.{Outside}
use Rattle.mdcc_serve_site.specs.PendingBytes.{PendingBytes, pending_bytes}
use Rattle.mdcc_serve_site.specs.SiteState.{Finishes, HoldsLog, HoldsSite, SendsAll, SendsSome, SiteOutside, Stops, Waits, place}
use Rattle.mdcc_serve_site.specs.declared.fault.ServeFault.{ServeFault}
use Rattle.mdcc_serve_site.specs.declared.site.Site.{Site as TheSite}

module _ {D L O : Type 0} (w : Outside D L O) (cluster : Cluster) (config : Config) (site : Site) (whole : IsWhole site) where
  abbrev pub logs : Doing
  logs = doing (facts_logged site.centre site.pending.facts) (persisted site)

  abbrev pub sends : Doing
  sends = envelopes_sent config (persisted site) site.pending.envelopes

  abbrev pub tells : Doing
  tells = doing (heard_printed site.centre site.pending.heard) sends.site

  sent_later : (persisted site).sent ≤ sends.site.sent
  sent_later = messages_later config (persisted site) site.pending.envelopes

  same_later : sends.site.sent ≤ sends.site.sent
  same_later = omega arith

  pub persist_goes : {a b c d : SiteOutside D L O} → Finishes w cluster site logs a b → Finishes w cluster (persisted site) sends b c → Finishes w cluster sends.site tells c d
      → Finishes w cluster site (persist_then_send config site) a d
  persist_goes one two three =
      goes_then w {T = Unit {0}} _ _ (Ok tt) whole (logged_owns site site.pending.facts refl) one
      (goes_then w {T = Unit {0}} _ _ (Ok tt) refl (messages_own config (persisted site) site.pending.envelopes) two three)

  pub persist_unlogged : {fault : ServeFault} {a b : SiteOutside D L O} → Stops w site logs fault a b → Stops w site (persist_then_send config site) fault a b
  persist_unlogged one = stops_then w (after_acts sends.acts tells) sent_later one

  pub persist_unsent : {fault : ServeFault} {a b c : SiteOutside D L O} → Finishes w cluster site logs a b → Stops w (persisted site) sends fault b c → Stops w site (persist_then_send config site) fault a c
  persist_unsent {fault = fault} one two =
      goes_then w {T = Unit {0}} _ _ (Err fault) whole (logged_owns site site.pending.facts refl) one (stops_then w tells same_later two)

  pub persist_untold : {fault : ServeFault} {a b c d : SiteOutside D L O} → Finishes w cluster site logs a b → Finishes w cluster (persisted site) sends b c → Stops w sends.site tells fault c d
      → Stops w site (persist_then_send config site) fault a d
  persist_untold {fault = fault} one two three =
      goes_then w {T = Unit {0}} _ _ (Err fault) whole (logged_owns site site.pending.facts refl) one
      (goes_then w {T = Unit {0}} _ _ (Err fault) refl (messages_own config (persisted site) site.pending.envelopes) two three)

-- ---- its messages, as the code has them

module _ {D L O : Type 0} (w : Outside D L O) (cluster : Cluster) (config : Config) (disks : D) (held new : TheSite) (site : Site) (link new_link : L) (out : O) (xs : List Envelope)
    (sends_only : new ≡ record held { sender = new.sender })
  where
    pub part_sent : HoldsSite w cluster disks held site → SendsAll w.calls w.lost w.faults config site xs link new_link held.sender new.sender
        → Finishes w cluster site (envelopes_sent config site xs) (place disks held link out) (place disks new new_link out)
    part_sent stands all = subst (λ (h : TheSite). Finishes w cluster site (envelopes_sent config site xs) (place disks held link out) (place disks h new_link out)) (sym sends_only)
        (sent_goes w cluster config disks held site link new_link out new.sender xs stands all)

    pub part_unsent : (fault : ServeFault) → HoldsSite w cluster disks held site → SendsSome w.calls w.lost w.faults config site xs fault link new_link held.sender new.sender
        → Stops w site (envelopes_sent config site xs) fault (place disks held link out) (place disks new new_link out)
    part_unsent fault stands some = subst (λ (h : TheSite). Stops w site (envelopes_sent config site xs) fault (place disks held link out) (place disks h new_link out)) (sym sends_only)
        (sent_stops w cluster config disks held site link new_link out new.sender xs fault stands.log.open_log.left some)

-- they fit into datagrams
pub pending_go : (held : TheSite) (site : Site) (messages : List Outgoing) → Waits held site → messages ≡ held.pending.messages → AllByRecursion CanGo messages
pending_go held site messages waits are =
    subst (λ (ms : List Outgoing). AllByRecursion CanGo ms) (sym (are ∙ ap (λ (p : PendingBytes). p.messages) waits.pending)) (all_go site.pending.envelopes)

-- ---- its facts, as the code has them

module _ {D L O : Type 0} (w : Outside D L O) (cluster : Cluster) (site : Site) (disks : D) (held emptied : TheSite)
    (stands : HoldsSite w cluster disks held site) (empties : emptied ≡ record held { pending = pending_bytes nothing_pending })
  where
    pub centre_there : emptied.centre ≡ site.centre
    centre_there = ap (λ (h : TheSite). h.centre) empties ∙ stands.itself.centre

    -- the log is the same where nothing is pending any more
    pub log_there : HoldsLog w.disk w.may_leave w.every disks emptied.log emptied.centre site.logged
    log_there = subst (λ (n : ℕ). HoldsLog w.disk w.may_leave w.every disks emptied.log n site.logged) (sym centre_there)
        (subst (λ (h : TheSite). HoldsLog w.disk w.may_leave w.every disks h.log site.centre site.logged) (sym empties) stands.log)

    -- at any moment of logging them
    pub logged_either : (config : Config) (moment : D → ℕ) (left_since : D → ℕ → ℕ → List ℕ → Type 0) (new_disks : D)
        → LeavesEither w.disk moment left_since emptied.centre site.logged (with_facts site.logged site.pending.facts) disks new_disks
        → LeavesEither w.disk moment left_since site.centre site.logged (persist_then_send config site).site.logged disks new_disks
    logged_either config moment left_since new_disks either =
        let facts_are : with_facts site.logged site.pending.facts ≡ (persist_then_send config site).site.logged = sym ((messages_only config (persisted site) site.pending.envelopes).logged ∙ stands.itself.waits.all) in
        subst (λ (fs : List Fact). LeavesEither w.disk moment left_since site.centre site.logged fs disks new_disks) facts_are
        (subst (λ (n : ℕ). LeavesEither w.disk moment left_since n site.logged (with_facts site.logged site.pending.facts) disks new_disks) centre_there either)

    module _ (new_disks : D) (new : TheSite) (link : L) (out : O) (only : new ≡ record emptied { log = new.log }) where
      pub same_there : new ≡ record held { log = new.log; pending = pending_bytes nothing_pending }
      same_there = only ∙ ap (λ (h : TheSite). record h { log = new.log }) empties

      pub log_done : HasLogged w.disk w.may_leave w.every emptied.centre site.logged site.pending.facts disks new_disks new.log
          → Finishes w cluster site (logged w cluster site disks new_disks held new link out same_there) (place disks held link out) (place new_disks new link out)
      log_done has = log_goes w cluster site disks new_disks held new link out same_there stands.itself
          (subst (λ (n : ℕ). HasLogged w.disk w.may_leave w.every n site.logged site.pending.facts disks new_disks new.log) centre_there has)

      pub log_broken : (fault : ServeFault) → FailsToLog w.disk w.may_leave w.every emptied.centre site.logged site.pending.facts fault disks new_disks
          → Stops w site (logged w cluster site disks new_disks held new link out same_there) fault (place disks held link out) (place new_disks new link out)
      log_broken fault fails = log_stops w cluster site disks new_disks held new link out same_there fault
          (subst (λ (n : ℕ). FailsToLog w.disk w.may_leave w.every n site.logged site.pending.facts fault disks new_disks) centre_there fails)
