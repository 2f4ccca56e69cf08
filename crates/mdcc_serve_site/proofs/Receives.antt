-- What needs no disk, link or output, and what is received, as parts of what a centre does.
use Rattle.std.proofs.Common.{◌≡◌, ◌⊎◌, ℕ, Bool, List, [], ◌∷◌, Option, None, Result, Ok, Err, refl, sym, ap, subst, inl, inr, arith}
use Rattle.std.specs.List.{AllByRecursion}
use Rattle.std.specs.Prelude.{IfOk, is_some}
use Rattle.mdcc_option.specs.declared.cluster.Cluster.{Cluster}
use Rattle.mdcc_serve_outbox.proofs.Recorded.{none_recorded}
use Rattle.mdcc_serve_outbox.specs.Shows.{calls_of, failed_in}
use Rattle.mdcc_def_server_runs.specs.Acts.{Act, but_answers, lost_in, printed}
use Rattle.mdcc_def_server_runs.specs.Sites.{Doing, Site, after_acts, idle_site}
use Rattle.mdcc_serve_site.proofs.Joined.{none_added, none_written, others_none}
use Rattle.mdcc_serve_site.proofs.Parts.{stops_memory}
use Rattle.mdcc_serve_site.proofs.Turned.{receive_fails, received_goes}
use Rattle.mdcc_serve_site.specs.Moments.{Outside}
use Rattle.mdcc_serve_site.specs.SiteState.{Becomes, FailsToReceive, Goes, HoldsSite, IsCount, Receives, Stops, Takes, place}
use Rattle.mdcc_serve_site.specs.declared.fault.ServeFault.{ServeFault}
use Rattle.mdcc_serve_site.specs.declared.site.Site.{Site as TheSite}

-- ---- acts that are counts alone

pub record Counts (acts : List Act) : Type 0 where
  pub plain : but_answers acts ≡ acts
  pub calls : calls_of acts ≡ []
  pub failed : failed_in acts ≡ 0
  pub lost : lost_in acts ≡ 0
  pub prints : printed acts ≡ []

pub only_counts : (acts : List Act) → AllByRecursion IsCount acts → Counts acts
only_counts [] quiet = record { plain = refl; calls = refl; failed = refl; lost = refl; prints = refl }
only_counts (Act.Stepped ∷ acts) quiet =
    let ih = only_counts acts quiet.1 in
    record { plain = ap (λ (xs : List Act). Act.Stepped ∷ xs) ih.plain; calls = ih.calls; failed = (let e = ih.failed in omega (e, arith)); lost = (let e = ih.lost in omega (e, arith)); prints = ih.prints }
only_counts (Act.Dropped ∷ acts) quiet =
    let ih = only_counts acts quiet.1 in
    record { plain = ap (λ (xs : List Act). Act.Dropped ∷ xs) ih.plain; calls = ih.calls; failed = (let e = ih.failed in omega (e, arith)); lost = (let e = ih.lost in omega (e, arith)); prints = ih.prints }
only_counts (Act.Bind at address ∷ acts) quiet = absurd quiet.0
only_counts (Act.Receive at gave ∷ acts) quiet = absurd quiet.0
only_counts (Act.Append centre facts ∷ acts) quiet = absurd quiet.0
only_counts (Act.Send from to bytes answer ∷ acts) quiet = absurd quiet.0
only_counts (Act.Print line ∷ acts) quiet = absurd quiet.0
only_counts (Act.Unsent ∷ acts) quiet = absurd quiet.0

-- ---- what it becomes

module _ {D L O : Type 0} (w : Outside D L O) where
  pub becomes_goes : {T : Type 0} (cluster : Cluster) (site : Site) (did : Doing) (r : Result T ServeFault) (disks : D) (held new : TheSite) (link : L) (out : O)
      → HoldsSite w cluster disks held site → Becomes cluster site did r held new → Goes w cluster site did r (place disks held link out) (place disks new link out)
  becomes_goes cluster site did (Ok done) disks held new link out stands made =
      let counts = only_counts did.acts made.quiet in
      record {
        did = record {
          acts = did.acts;
          are = counts.plain;
          left = record {
            link = rw counts.calls (none_recorded (w.calls link));
            output = rw counts.prints (none_written (w.held out));
            failed_sends = λ some. (let none = counts.failed in absurd (omega (some, none, arith)));
            steps = made.steps;
            dropped = made.dropped;
            lost_told = rw (counts.lost, made.lost) (none_added held.sender.lost);
          };
          passes = record { told = λ p. refl; faults = λ p. omega arith; sends = omega arith; receives = omega arith; writes = omega arith };
        };
        others = others_none w site.centre disks;
        stands = record { itself = made.itself; log = rw (made.log, made.centre, made.logged) stands.log };
      }
  becomes_goes cluster site did (Err fault) disks held new link out stands none =
      subst (λ (f : ServeFault). Stops w site did f (place disks held link out) (place disks new link out)) (sym none.memory)
      (stops_memory w site did disks held new link out none.steps none.dropped none.lost stands.log.open_log.left)

  -- ---- what it receives

  pub receives_goes : (cluster : Cluster) (site : Site) (at : ℕ) (taken : Option (List ℕ) → Doing) (r : Result Bool ServeFault) (disks : D) (held new : TheSite) (link new_link : L) (out : O)
      → HoldsSite w cluster disks held site → taken None ≡ idle_site site → Receives w.calls w.lost w.faults cluster site at taken r link new_link held new
      → (gave : Option (List ℕ)) × Goes w cluster site (after_acts (Act.Receive at gave ∷ []) (taken gave)) r (place disks held link out) (place disks new new_link out) × IfOk r (λ came. came ≡ is_some gave)
  receives_goes cluster site at taken r disks held new link new_link out stands nothing received = by_does received.does
    where
      failed : FailsToReceive w.calls w.lost w.faults at r link new_link held new → Stops w site (after_acts (Act.Receive at None ∷ []) (taken None)) ServeFault.Link (place disks held link out) (place disks new new_link out)
          → (gave : Option (List ℕ)) × Goes w cluster site (after_acts (Act.Receive at gave ∷ []) (taken gave)) r (place disks held link out) (place disks new new_link out) × IfOk r (λ came. came ≡ is_some gave)
      failed fails stops = (
        None,
        subst (λ (x : Result Bool ServeFault). Goes w cluster site (after_acts (Act.Receive at None ∷ []) (taken None)) x (place disks held link out) (place disks new new_link out)) (sym fails.fault) stops,
        subst (λ (x : Result Bool ServeFault). IfOk x (λ came. came ≡ is_some (let none : Option (List ℕ) = None in none))) (sym fails.fault) tt,
      )

      by_does : Takes w.calls w.lost w.faults cluster site at taken r link new_link held new ⊎ FailsToReceive w.calls w.lost w.faults at r link new_link held new
          → (gave : Option (List ℕ)) × Goes w cluster site (after_acts (Act.Receive at gave ∷ []) (taken gave)) r (place disks held link out) (place disks new new_link out) × IfOk r (λ came. came ≡ is_some gave)
      by_does (inl takes) = (
        takes.gave,
        received_goes w disks held link new_link out received.later received.sends cluster site (taken takes.gave) (place disks new new_link out) r at takes.gave takes.recorded
            (becomes_goes cluster site (taken takes.gave) r disks held new new_link out stands takes.becomes),
        takes.came,
      )
      by_does (inr fails) = failed fails
          (subst (λ (h : TheSite). Stops w site (after_acts (Act.Receive at None ∷ []) (taken None)) ServeFault.Link (place disks held link out) (place disks h new_link out)) (sym fails.same)
          (subst (λ (d : Doing). Stops w site (after_acts (Act.Receive at None ∷ []) d) ServeFault.Link (place disks held link out) (place disks held new_link out)) (sym nothing)
          (receive_fails w disks held link new_link out received.later received.sends site at stands.log.open_log.left fails.recorded fails.cause)))
