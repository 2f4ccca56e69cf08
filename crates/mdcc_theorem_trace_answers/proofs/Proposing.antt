-- A leader that has enough promises has proposed.
use Rattle.std.proofs.Common.{Bool, List, Ok, [], ap, cond, false, length, refl, sym, true, ℕ, ◌<◌, ◌≡◌, ◌≤◌, ◌∙◌, ◌||◌}
use Rattle.std.proofs.lemmas.Bool.{false≢true, le-leb, or_left}
use Rattle.std.specs.Prelude.{nat_le, ◌&&◌}
use Rattle.mdcc_base.specs.declared.key.Key.{Key}
use Rattle.mdcc_option.specs.declared.cluster.Cluster.{Cluster}
use Rattle.mdcc_option.specs.declared.cluster.FastLimit.{FastLimit}
use Rattle.mdcc_struct.specs.Forced.{forced_of}
use Rattle.mdcc_struct.specs.declared.report.Report.{Report}
use Rattle.mdcc_def_language.specs.declared.events.Event.{Event}
use Rattle.mdcc_def_messages.specs.declared.facts.Fact.{Fact}
use Rattle.mdcc_def_protocol.specs.Fit.{parts_of}
use Rattle.mdcc_def_protocol.specs.IsCluster.{IsCluster}
use Rattle.mdcc_def_protocol.specs.Leader.{has_proposed, on_promise, promise_taken, with_promise}
use Rattle.mdcc_def_protocol.specs.Structures.{first_structure, fit_together, is_crowded, is_enough}
use Rattle.mdcc_def_protocol.specs.Volatile.{Lead, Leading, with_lead, with_structure}
use Rattle.mdcc_def_protocol.specs.declared.leader.Promise.{Promise}
use Rattle.mdcc_def_protocol.specs.declared.leader.PromiseAnswer.{PromiseAnswer}
use Rattle.mdcc_def_simulation.specs.Runs.{run_of}
use Rattle.mdcc_def_simulation.specs.State.{World, centre_at, first_world}
use Rattle.mdcc_theorem_trace_states.specs.VolatileInvariant.{IsLead}
use Rattle.mdcc_theorem_trace_states.specs.Sound.{IsSound}
use Rattle.mdcc_theorem_trace_states.proofs.Events.{is-up}
use Rattle.mdcc_theorem_trace_states.proofs.Lists.{Each-like}
use Rattle.mdcc_theorem_trace.proofs.Laws.{holds}
use Rattle.mdcc_theorem_trace_answers.specs.Proposing.{DoNotWait, IsCountedBefore, reports_with_promise}

taken : {A : Type 0} (b : Bool) (x y : A) → b ≡ true → cond b x y ≡ x
taken true x y h = refl
taken false x y h = absurd (false≢true h)

left : {A : Type 0} (b : Bool) (x y : A) → b ≡ false → cond b x y ≡ y
left false x y h = refl
left true x y h = absurd (false≢true (sym h))

module _ (cluster : Cluster) (facts : List Fact) (leader : Leading) (lead : Lead) (from : ℕ) (promise : Promise) (h : IsCountedBefore leader lead from promise) where
  pub proposed : is_enough cluster facts lead.key lead.version (reports_with_promise lead from promise) ≡ true
      → is_crowded (first_structure cluster facts lead.key lead.version lead.claims (reports_with_promise lead from promise)) ≡ false
      → (after : Leading) × (on_promise cluster facts leader from promise ≡ Ok (PromiseAnswer.Accept lead.version lead.ballot (first_structure cluster facts lead.key lead.version lead.claims (reports_with_promise lead from promise)), after))
  proposed enough few =
      let options = first_structure cluster facts lead.key lead.version lead.claims (reports_with_promise lead from promise) in (
        with_lead leader (record (with_promise lead from promise) { claims = []; structures = with_structure lead.structures lead.version options }),
        ap (promise_taken cluster facts leader from promise) h.found ∙ taken _ _ _ h.counted ∙ left _ _ _ h.waits ∙ taken _ _ _ enough ∙ left _ _ _ few,
      )

  pub waited : is_enough cluster facts lead.key lead.version (reports_with_promise lead from promise) ≡ false
      → (after : Leading) × (on_promise cluster facts leader from promise ≡ Ok (PromiseAnswer.Waiting (length (with_promise lead from promise).promises), after))
  waited few = (
    with_lead leader (with_promise lead from promise),
    ap (promise_taken cluster facts leader from promise) h.found ∙ taken _ _ _ h.counted ∙ left _ _ _ h.waits ∙ left _ _ _ few,
  )

-- ---- how many are enough

pub enough-parts : (cluster : Cluster) (facts : List Fact) (key : Key) (version : ℕ) (reports : List Report) → parts_of cluster.limit cluster.quorums ≤ length reports
    → is_enough cluster facts key version reports ≡ true
enough-parts cluster facts key version reports h =
    or_left (nat_le (parts_of cluster.limit cluster.quorums) (length reports))
    (nat_le cluster.quorums.classic (length reports) && fit_together cluster facts key version (forced_of cluster.quorums reports))
    (le-leb (parts_of cluster.limit cluster.quorums) (length reports) h)

absorbed : (a b : Bool) → (a || (a && b)) ≡ a
absorbed true b = refl
absorbed false b = refl

pub enough-safe : (cluster : Cluster) (facts : List Fact) (key : Key) (version : ℕ) (reports : List Report) → cluster.limit ≡ FastLimit.Safe
    → is_enough cluster facts key version reports ≡ nat_le cluster.quorums.classic (length reports)
enough-safe cluster facts key version reports h =
    rw h (absorbed (nat_le cluster.quorums.classic (length reports)) (fit_together cluster facts key version (forced_of cluster.quorums reports)))

-- ---- in a trace

pub not-waiting : (cluster : Cluster) → IsCluster cluster → (events : List Event) (a : ℕ) → DoNotWait (run_of (first_world cluster) events).world a
not-waiting cluster is events a up =
    let u = is-up IsSound cluster w a (holds cluster is events) up in
    Each-like (IsLead w.cluster w.ledger a (centre_at w a).volatile.leader.last_rounds)
    (λ (x : Lead). has_proposed x ≡ false → length x.promises < parts_of w.cluster.limit w.cluster.quorums)
    (centre_at w a).volatile.leader.leads (λ x led. led.waits) u.keeps.leader.leads
  where
    w : World
    w = (run_of (first_world cluster) events).world
