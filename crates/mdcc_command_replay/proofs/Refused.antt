-- Nothing is written where a header is refused.
use Rattle.std.proofs.Common.{◌≡◌, ◌+◌, ◌∷◌, List, [], ℕ, Bool, true, false, cond, length, Option, Some, None, Result, Ok, Err, inl, inr, refl, sym, ap, ◌∙◌, subst, arith}
use Rattle.std.specs.Prelude.{nat_lt}
use Rattle.std.specs.Io.KnownBytes.{Appends}
use Rattle.mdcc_option.specs.declared.cluster.Cluster.{Cluster}
use Rattle.mdcc_def_language.specs.Errors.{TooLong, most_input, status_at_event, status_at_line, status_of}
use Rattle.mdcc_def_language.specs.Header.{UnreadLines, all_of, header_lines}
use Rattle.mdcc_def_language.specs.Schedule.{line_of}
use Rattle.mdcc_def_language.specs.declared.events.Event.{Event}
use Rattle.mdcc_def_language.specs.declared.schedule.HeaderFault.{HeaderFault}
use Rattle.mdcc_def_language.specs.declared.schedule.SchedCause.{SchedCause}
use Rattle.mdcc_def_language.specs.declared.schedule.SchedFault.{SchedFault}
use Rattle.mdcc_def_language.specs.declared.world.EventFault.{EventFault}
use Rattle.mdcc_def_simulation.specs.Events.{after_event}
use Rattle.mdcc_def_simulation.specs.Replay.{lines_replayed, replay_after_header, replay_ended, replay_of}
use Rattle.mdcc_def_simulation.specs.State.{Happened, World, first_world}
use Rattle.mdcc_command_replay.specs.Runs.{IsStatus}
use Rattle.mdcc_command_replay.specs.Writing.{Replayed}
use Rattle.mdcc_command_replay.specs.declared.refusals.Refusal.{Refusal}
use Rattle.mdcc_command_replay.specs.declared.writing.Failure.{Failure}
use Rattle.mdcc_command_replay.specs.declared.writing.Failure.TheVariants.{Output, Memory}

-- ---- the lines behind a header

at_line : (cause : SchedCause) → status_at_line cause ≡ 3 → ⊥
at_line SchedCause.Word h = omega (arith, h)
at_line SchedCause.Number h = omega (arith, h)
at_line SchedCause.Key h = omega (arith, h)
at_line SchedCause.Range h = omega (arith, h)
at_line SchedCause.Order h = omega (arith, h)
at_line SchedCause.Memory h = omega (arith, h)

at_event : (fault : EventFault) → status_at_event fault ≡ 3 → ⊥
at_event (EventFault.NoMessage number) h = omega (arith, h)
at_event (EventFault.Down centre) h = omega (arith, h)
at_event (EventFault.Up centre) h = omega (arith, h)
at_event (EventFault.NoRead number) h = omega (arith, h)
at_event (EventFault.Begin fault) h = omega (arith, h)
at_event (EventFault.Limit name value) h = omega (arith, h)
at_event EventFault.Memory h = omega (arith, h)

abbrev NeverRefused : Cluster → List (List ℕ) → Type 0
NeverRefused cluster lines = (number : ℕ) (w : World) → status_of (lines_replayed cluster number w lines).fault ≡ 3 → ⊥

never_refused : (cluster : Cluster) (lines : List (List ℕ)) → NeverRefused cluster lines
never_refused cluster [] number w h = omega (arith, h)
never_refused cluster (line ∷ lines) number w h = by_line (line_of cluster line) refl (never_refused cluster lines)
  where
    by_event : (event : Event) (r : Result Happened EventFault) → line_of cluster line ≡ Ok (Some event) → after_event w event ≡ r → NeverRefused cluster lines → ⊥
    by_event event (Err fault) e f rest = at_event fault (rw (e, f, lines_replayed) at h)
    by_event event (Ok happened) e f rest = rest (number + 1) happened.world (rw (e, f, lines_replayed) at h)

    by_line : (r : Result (Option Event) SchedFault) → line_of cluster line ≡ r → NeverRefused cluster lines → ⊥
    by_line (Err fault) e rest = at_line fault.cause (rw (e, lines_replayed) at h)
    by_line (Ok None) e rest = rest (number + 1) w (rw (e, lines_replayed) at h)
    by_line (Ok (Some event)) e rest = by_event event (after_event w event) e refl rest

-- ---- whole inputs

no_text : (input : List ℕ) → status_of (replay_of input).fault ≡ 3 → (replay_of input).text ≡ []
no_text input = pick (nat_lt most_input (length input)) (header_lines (all_of input))
  where
    pick : (long : Bool) (header : Result (Cluster × UnreadLines) HeaderFault) → status_of (cond long (replay_ended None [] (Some TooLong)) (replay_after_header input header)).fault ≡ 3 → (cond long (replay_ended None [] (Some TooLong)) (replay_after_header input header)).text ≡ []
    pick true header h = refl
    pick false (Err fault) h = refl
    pick false (Ok header) h = absurd (never_refused header.0 header.1.lines header.1.number (first_world header.0) h)

pub nothing_refused : (a b : Option (List ℕ)) (input : List ℕ) (r : Result (Option Refusal) Failure) (status : ℕ) → Replayed a b (replay_of input) r → IsStatus r status → status ≡ 3 → Appends a b []
nothing_refused a b input (Ok refusal) status h (inl e) is =
    subst (Appends a b) (no_text input (ap status_of h.fault ∙ sym e ∙ is)) h.wrote
nothing_refused a b input (Ok refusal) status h (inr e) is = absurd (omega (arith, e, is))
nothing_refused a b input (Err Output) status h e is = absurd (omega (arith, e, is))
nothing_refused a b input (Err Memory) status h e is = absurd (omega (arith, e, is))
