-- What a centre prints and logs, as parts of what it does.
use Rattle.std.proofs.Common.{◌≡◌, ℕ, ◌⊎◌, inl, inr, Bool, List, [], ◌∷◌, ◌++◌, refl, sym, ◌∙◌, ap, subst, arith, append-nil, IsTrue}
use Rattle.std.specs.List.{AllByRecursion}
use Rattle.std.specs.Prelude.{⊤}
use Rattle.mdcc_base.specs.Causes.{Rose}
use Rattle.mdcc_base.specs.declared.identifiers.TxId.{TxId}
use Rattle.mdcc_def_messages.specs.declared.facts.Fact.{Fact}
use Rattle.mdcc_option.specs.declared.cluster.Cluster.{Cluster}
use Rattle.mdcc_serve_outbox.proofs.Recorded.{none_recorded}
use Rattle.mdcc_serve_outbox.specs.Shows.{calls_of, failed_in}
use Rattle.mdcc_def_server_runs.specs.Acts.{Act, but_answers, dropped_in, facts_appended, lost_in, printed, steps_in}
use Rattle.mdcc_def_server_runs.specs.Sending.{facts_logged, heard_printed, persisted}
use Rattle.mdcc_def_server_runs.specs.Sites.{Doing, Site, doing, nothing_pending}
use Rattle.mdcc_def_server_runs.specs.declared.lines.ServerLine.{ServerLine}
use Rattle.mdcc_serve_site.proofs.Joined.{none_added, none_written, others_none}
use Rattle.mdcc_serve_site.specs.Causes.{IsAtLink, IsNoBoot, IsPrinting, failed_by, in_flight, text_begun}
use Rattle.mdcc_serve_site.specs.LogEffects.{CausedOn, FailsToLog, HasLogged}
use Rattle.mdcc_serve_site.specs.Logs.{MayHaveFacts}
use Rattle.mdcc_serve_site.specs.Moments.{Caused, DiskPasses, Leaves, MayComeAt, Outside, Passes}
use Rattle.mdcc_serve_site.specs.PendingBytes.{pending_bytes}
use Rattle.mdcc_serve_site.specs.Printing.{PrintsFront}
use Rattle.mdcc_serve_site.specs.Room.{OnFull}
use Rattle.mdcc_serve_site.specs.SiteState.{Finishes, HoldsLog, HoldsSite, IsSite, OnSerial, PrintsAll, Stops, place, seen}
use Rattle.mdcc_serve_site.specs.declared.fault.ServeFault.{ServeFault}
use Rattle.mdcc_serve_site.specs.declared.site.Site.{Site as TheSite}

-- ---- acts of which the link and the counts know nothing

pub record Still (acts : List Act) : Type 0 where
  pub plain : but_answers acts ≡ acts
  pub calls : calls_of acts ≡ []
  pub failed : failed_in acts ≡ 0
  pub steps : steps_in acts ≡ 0
  pub dropped : dropped_in acts ≡ 0
  pub lost : lost_in acts ≡ 0

still_none : Still []
still_none = record { plain = refl; calls = refl; failed = refl; steps = refl; dropped = refl; lost = refl }

pub heard_still : (a : ℕ) (heard : List (TxId × Bool)) → Still (heard_printed a heard)
heard_still a [] = still_none
heard_still a (h ∷ heard) =
    let ih = heard_still a heard in
    record {
      plain = ap (λ (xs : List Act). Act.Print (ServerLine.Heard a h.0 h.1) ∷ xs) ih.plain;
      calls = ih.calls;
      failed = (let e = ih.failed in omega (e, arith));
      steps = (let e = ih.steps in omega (e, arith));
      dropped = (let e = ih.dropped in omega (e, arith));
      lost = (let e = ih.lost in omega (e, arith));
    }

pub logged_still : (a : ℕ) (facts : List Fact) → Still (facts_logged a facts)
logged_still a [] = still_none
logged_still a (fact ∷ facts) = record { plain = refl; calls = refl; failed = refl; steps = refl; dropped = refl; lost = refl }

logged_prints : (a : ℕ) (facts : List Fact) → printed (facts_logged a facts) ≡ []
logged_prints a [] = refl
logged_prints a (fact ∷ facts) = refl

-- acts that are lines
abbrev pub IsLine : Act → Type 0
IsLine (Act.Print line) = ⊤
IsLine _ = ⊥

lines_still : (acts : List Act) → AllByRecursion IsLine acts → Still acts
lines_still [] lines = still_none
lines_still (Act.Print line ∷ acts) lines =
    let ih = lines_still acts lines.1 in
    record {
      plain = ap (λ (xs : List Act). Act.Print line ∷ xs) ih.plain;
      calls = ih.calls;
      failed = (let e = ih.failed in omega (e, arith));
      steps = (let e = ih.steps in omega (e, arith));
      dropped = (let e = ih.dropped in omega (e, arith));
      lost = (let e = ih.lost in omega (e, arith));
    }
lines_still (Act.Bind at address ∷ acts) lines = absurd lines.0
lines_still (Act.Receive at gave ∷ acts) lines = absurd lines.0
lines_still (Act.Append centre facts ∷ acts) lines = absurd lines.0
lines_still (Act.Send from to bytes answer ∷ acts) lines = absurd lines.0
lines_still (Act.Stepped ∷ acts) lines = absurd lines.0
lines_still (Act.Dropped ∷ acts) lines = absurd lines.0
lines_still (Act.Unsent ∷ acts) lines = absurd lines.0

lines_append : (b : ℕ) (acts : List Act) → AllByRecursion IsLine acts → facts_appended b acts ≡ []
lines_append b [] lines = refl
lines_append b (Act.Print line ∷ acts) lines = lines_append b acts lines.1
lines_append b (Act.Bind at address ∷ acts) lines = absurd lines.0
lines_append b (Act.Receive at gave ∷ acts) lines = absurd lines.0
lines_append b (Act.Append centre facts ∷ acts) lines = absurd lines.0
lines_append b (Act.Send from to bytes answer ∷ acts) lines = absurd lines.0
lines_append b (Act.Stepped ∷ acts) lines = absurd lines.0
lines_append b (Act.Dropped ∷ acts) lines = absurd lines.0
lines_append b (Act.Unsent ∷ acts) lines = absurd lines.0

front_lines : (done rest : List Act) → AllByRecursion IsLine (done ++ rest) → AllByRecursion IsLine done
front_lines [] rest lines = tt
front_lines (x ∷ done) rest lines = (lines.0, front_lines done rest lines.1)

pub heard_lines : (a : ℕ) (heard : List (TxId × Bool)) → AllByRecursion IsLine (heard_printed a heard)
heard_lines a [] = tt
heard_lines a (h ∷ heard) = (tt, heard_lines a heard)

-- no fault of the link or the output comes where facts are logged
logging_fault : (Told : Type 0) (fault : ServeFault) (a : ℕ) (facts : List Fact) → MayComeAt Told fault (facts_logged a facts)
    → (failed_by fault (facts_logged a facts) ≡ []) × (text_begun fault (facts_logged a facts) ≡ [])
logging_fault Told (ServeFault.Disk b) a facts comes = (refl, refl)
logging_fault Told (ServeFault.Log b fault) a facts comes = (refl, refl)
logging_fault Told (ServeFault.Boot b fault) a facts comes = (refl, refl)
logging_fault Told ServeFault.Link a [] comes = absurd comes
logging_fault Told ServeFault.Link a (fact ∷ facts) comes = absurd comes
logging_fault Told ServeFault.Output a [] comes = absurd comes
logging_fault Told ServeFault.Output a (fact ∷ facts) comes = absurd comes
logging_fault Told ServeFault.Serial a facts comes = (refl, refl)
logging_fault Told ServeFault.Memory a facts comes = (refl, refl)

no_serial : (Told : Type 0) (fault : ServeFault) (a sent : ℕ) (facts : List Fact) → MayComeAt Told fault (facts_logged a facts) → OnSerial fault sent
no_serial Told (ServeFault.Disk b) a sent facts comes = tt
no_serial Told (ServeFault.Log b fault) a sent facts comes = tt
no_serial Told (ServeFault.Boot b fault) a sent facts comes = tt
no_serial Told ServeFault.Link a sent facts comes = tt
no_serial Told ServeFault.Output a sent facts comes = tt
no_serial Told ServeFault.Serial a sent [] comes = absurd comes
no_serial Told ServeFault.Serial a sent (fact ∷ facts) comes = absurd comes
no_serial Told ServeFault.Memory a sent facts comes = tt

module _ {D L O : Type 0} (w : Outside D L O) where
  -- ---- nothing is done

  leaves_nothing : (disks : D) (held new : TheSite) (link : L) (out : O) → new.steps ≡ held.steps → new.dropped ≡ held.dropped → new.sender.lost ≡ held.sender.lost
      → Leaves w [] [] [] (seen (place disks held link out)) (seen (place disks new link out))
  leaves_nothing disks held new link out steps dropped lost = record {
    link = none_recorded (w.calls link);
    output = none_written (w.held out);
    failed_sends = λ some. absurd (omega (some, arith));
    steps = rw steps (none_added held.steps);
    dropped = rw dropped (none_added held.dropped);
    lost_told = rw lost (none_added held.sender.lost);
  }

  passes_here : (disks : D) (held new : TheSite) (link : L) (out : O) → Passes w (seen (place disks held link out)) (seen (place disks new link out))
  passes_here disks held new link out = record { told = λ p. refl; faults = λ p. omega arith; sends = omega arith; receives = omega arith; writes = omega arith }

  -- there was no memory
  pub stops_memory : (site : Site) (did : Doing) (disks : D) (held new : TheSite) (link : L) (out : O) → new.steps ≡ held.steps → new.dropped ≡ held.dropped → new.sender.lost ≡ held.sender.lost
      → (IsTrue (w.disk disks site.centre).told → MayHaveFacts w.disk w.may_leave disks site.centre site.logged [])
      → Stops w site did ServeFault.Memory (place disks held link out) (place disks new link out)
  stops_memory site did disks held new link out steps dropped lost left = record {
    broke = record {
      acts = [];
      rest = did.acts;
      are = refl;
      comes = tt;
      printed_more = 0;
      left = leaves_nothing disks held new link out steps dropped lost;
      passes = passes_here disks held new link out;
      cause = tt;
      full = tt;
      logs = left;
    };
    others = others_none w site.centre disks;
    serials = tt;
    no_boot = tt;
  }

  -- ---- lines

  pub printed_goes : (cluster : Cluster) (site : Site) (disks : D) (held : TheSite) (link : L) (out new_out : O) (acts : List Act) → Still acts → HoldsSite w cluster disks held site
      → PrintsAll w.held w.out_faults acts out new_out → Finishes w cluster site (doing acts site) (place disks held link out) (place disks held link new_out)
  printed_goes cluster site disks held link out new_out acts still stands prints = record {
    did = record {
      acts = acts;
      are = still.plain;
      left = record {
        link = rw still.calls (none_recorded (w.calls link));
        output = rw (append-nil (printed acts)) prints.printed_all;
        failed_sends = λ some. (let none = still.failed in absurd (omega (some, none, arith)));
        steps = rw still.steps (none_added held.steps);
        dropped = rw still.dropped (none_added held.dropped);
        lost_told = rw still.lost (none_added held.sender.lost);
      };
      passes = record { told = λ p. refl; faults = λ p. omega arith; sends = omega arith; receives = omega arith; writes = prints.later };
    };
    others = others_none w site.centre disks;
    stands = stands;
  }

  pub printed_stops : (site : Site) (disks : D) (held : TheSite) (link : L) (out new_out : O) (acts : List Act) (fault : ServeFault) → AllByRecursion IsLine acts
      → (IsTrue (w.disk disks site.centre).told → MayHaveFacts w.disk w.may_leave disks site.centre site.logged [])
      → PrintsFront w.held w.out_faults acts fault out new_out → Stops w site (doing acts site) fault (place disks held link out) (place disks held link new_out)
  printed_stops site disks held link out new_out acts fault lines left prints = record {
    broke = record {
      acts = prints.done;
      rest = prints.rest;
      are = ap (λ (xs : List Act). xs ++ prints.rest) still.plain ∙ prints.are;
      comes = comes prints.comes;
      printed_more = prints.more;
      left = record {
        link = rw (still.calls, failed prints.comes) (none_recorded (w.calls link));
        output = prints.front;
        failed_sends = λ some. (let none = still.failed in absurd (omega (some, none, arith)));
        steps = rw still.steps (none_added held.steps);
        dropped = rw still.dropped (none_added held.dropped);
        lost_told = rw still.lost (none_added held.sender.lost);
      };
      passes = record { told = λ p. refl; faults = λ p. omega arith; sends = omega arith; receives = omega arith; writes = prints.later };
      cause = caused prints.comes;
      full = full prints.comes;
      logs = λ told. rw (in_none prints.comes, lines_append site.centre prints.done done_lines) (left told);
    };
    others = others_none w site.centre disks;
    serials = serials prints.comes;
    no_boot = no_boot prints.comes;
  }
    where
      Cause : Type 0
      Cause = (fault ≡ ServeFault.Memory) ⊎ ((fault ≡ ServeFault.Output) × IsPrinting prints.rest × Rose (w.out_faults out) (w.out_faults new_out))

      done_lines : AllByRecursion IsLine prints.done
      done_lines = front_lines prints.done prints.rest (subst (λ (xs : List Act). AllByRecursion IsLine xs) (sym prints.are) lines)

      still : Still prints.done
      still = lines_still prints.done done_lines

      comes : Cause → MayComeAt (IsTrue (w.disk disks site.centre).told) fault prints.rest
      comes (inl is) = rw is tt
      comes (inr is) = rw is.0 is.1

      failed : Cause → failed_by fault prints.rest ≡ []
      failed (inl is) = rw is refl
      failed (inr is) = rw is.0 refl

      caused : Cause → Caused w fault (seen (place disks held link out)) (seen (place disks held link new_out))
      caused (inl is) = rw is tt
      caused (inr is) = rw is.0 is.2

      full : Cause → OnFull w.disk w.may_leave w.every disks fault prints.rest
      full (inl is) = rw is tt
      full (inr is) = rw is.0 tt

      in_none : Cause → in_flight fault site.centre prints.rest ≡ []
      in_none (inl is) = rw is refl
      in_none (inr is) = rw is.0 refl

      serials : Cause → OnSerial fault site.sent
      serials (inl is) = rw is tt
      serials (inr is) = rw is.0 tt

      no_boot : Cause → IsNoBoot fault
      no_boot (inl is) = rw is tt
      no_boot (inr is) = rw is.0 tt

  -- ---- pending facts

  module _ (cluster : Cluster) (site : Site) (disks new_disks : D) (held new : TheSite) (link : L) (out : O)
      (same : new ≡ record held { log = new.log; pending = pending_bytes nothing_pending })
    where
      abbrev pub logged : Doing
      logged = doing (facts_logged site.centre site.pending.facts) (persisted site)

      passes_logged : DiskPasses w.disk w.may_leave disks new_disks → Passes w (seen (place disks held link out)) (seen (place new_disks new link out))
      passes_logged passes = record { told = passes.told; faults = passes.faults; sends = omega arith; receives = omega arith; writes = omega arith }

      persisted_is : IsSite cluster held site → IsSite cluster (record held { log = new.log; pending = pending_bytes nothing_pending }) (persisted site)
      persisted_is is = record {
        node = is.node;
        kept = is.kept;
        centre = is.centre;
        sender = record { centre = is.sender.centre; epoch = is.sender.epoch; sent = is.sender.sent };
        clients = is.clients;
        own = is.own;
        asked = is.asked;
        waits = record { pending = refl; all = refl; facts = tt; envelopes = tt };
      }

      pub log_goes : IsSite cluster held site → HasLogged w.disk w.may_leave w.every site.centre site.logged site.pending.facts disks new_disks new.log
          → Finishes w cluster site logged (place disks held link out) (place new_disks new link out)
      log_goes is has =
          let still = logged_still site.centre site.pending.facts in
          let steps = ap (λ (h : TheSite). h.steps) same in
          let dropped = ap (λ (h : TheSite). h.dropped) same in
          let lost = ap (λ (h : TheSite). h.sender.lost) same in
          record {
            did = record {
              acts = facts_logged site.centre site.pending.facts;
              are = still.plain;
              left = record {
                link = rw still.calls (none_recorded (w.calls link));
                output = rw (logged_prints site.centre site.pending.facts) (none_written (w.held out));
                failed_sends = λ some. (let none = still.failed in absurd (omega (some, none, arith)));
                steps = rw (still.steps, steps) (none_added held.steps);
                dropped = rw (still.dropped, dropped) (none_added held.dropped);
                lost_told = rw (still.lost, lost) (none_added held.sender.lost);
              };
              passes = passes_logged has.passes;
            };
            others = has.others;
            stands = record {
              itself = subst (λ (h : TheSite). IsSite cluster h (persisted site)) (sym same) (persisted_is is);
              log = subst (λ (fs : List Fact). HoldsLog w.disk w.may_leave w.every new_disks new.log site.centre fs) (sym is.waits.all) has.stands;
            };
          }

      caused_logging : (Told : Type 0) (fault : ServeFault) → MayComeAt Told fault (facts_logged site.centre site.pending.facts) → CausedOn w.disk w.may_leave fault disks new_disks
          → Caused w fault (seen (place disks held link out)) (seen (place new_disks new link out))
      caused_logging Told (ServeFault.Disk a) comes cause = cause
      caused_logging Told (ServeFault.Log a fault) comes cause = tt
      caused_logging Told (ServeFault.Boot a fault) comes cause = tt
      caused_logging Told ServeFault.Link comes cause = absurd (not_link site.pending.facts comes)
        where
          not_link : (facts : List Fact) → IsAtLink (facts_logged site.centre facts) → ⊥
          not_link [] comes = comes
          not_link (fact ∷ facts) comes = comes
      caused_logging Told ServeFault.Output comes cause = absurd (not_printing site.pending.facts comes)
        where
          not_printing : (facts : List Fact) → IsPrinting (facts_logged site.centre facts) → ⊥
          not_printing [] comes = comes
          not_printing (fact ∷ facts) comes = comes
      caused_logging Told ServeFault.Serial comes cause = tt
      caused_logging Told ServeFault.Memory comes cause = tt

      pub log_stops : (fault : ServeFault) → FailsToLog w.disk w.may_leave w.every site.centre site.logged site.pending.facts fault disks new_disks
          → Stops w site logged fault (place disks held link out) (place new_disks new link out)
      log_stops fault fails =
          let quiet = logging_fault (IsTrue (w.disk disks site.centre).told) fault site.centre site.pending.facts fails.comes in
          let steps = ap (λ (h : TheSite). h.steps) same in
          let dropped = ap (λ (h : TheSite). h.dropped) same in
          let lost = ap (λ (h : TheSite). h.sender.lost) same in
          record {
            broke = record {
              acts = [];
              rest = facts_logged site.centre site.pending.facts;
              are = refl;
              comes = fails.comes;
              printed_more = 0;
              left = record {
                link = rw quiet.0 (none_recorded (w.calls link));
                output = none_written (w.held out);
                failed_sends = λ some. absurd (omega (some, arith));
                steps = rw steps (none_added held.steps);
                dropped = rw dropped (none_added held.dropped);
                lost_told = rw lost (none_added held.sender.lost);
              };
              passes = passes_logged fails.passes;
              cause = caused_logging (IsTrue (w.disk disks site.centre).told) fault fails.comes fails.cause;
              full = fails.full;
              logs = fails.log;
            };
            others = fails.others;
            serials = no_serial (IsTrue (w.disk disks site.centre).told) fault site.centre site.sent site.pending.facts fails.comes;
            no_boot = fails.no_boot;
          }
