-- The lines behind a header are a run of their events.
use Rattle.std.proofs.Common.{Err, List, None, Ok, Option, Result, Some, [], ap, arith, refl, subst, sym, ℕ, ◌++◌, ◌+◌, ◌∙◌, ◌∷◌, ◌≡◌}
use Rattle.std.specs.Prelude.{false, length, nat_lt, ◌≤◌}
use Rattle.std.proofs.lemmas.List.{append-nil}
use Rattle.mdcc_option.specs.declared.cluster.Cluster.{Cluster}
use Rattle.mdcc_def_language.specs.Errors.{AtEvent, AtLine, ReplayFault, most_input}
use Rattle.mdcc_def_language.specs.Header.{UnreadLines}
use Rattle.mdcc_def_simulation.specs.Replay.{Replay, after_text, lines_replayed, replay_ended, replay_of}
use Rattle.mdcc_def_language.specs.Report.{header_text, line_text, lines_text}
use Rattle.mdcc_def_language.specs.Schedule.{line_of}
use Rattle.mdcc_def_language.specs.Words.{◌>>=◌}
use Rattle.mdcc_def_simulation.specs.State.{Happened, World, first_world}
use Rattle.mdcc_def_simulation.specs.Runs.{Run, end_line, run_from, run_of}
use Rattle.mdcc_def_simulation.specs.Events.{after_event}
use Rattle.mdcc_def_language.specs.declared.events.Event.{Event}
use Rattle.mdcc_def_language.specs.declared.lines.Line.{Line}
use Rattle.mdcc_def_language.specs.declared.schedule.SchedFault.{SchedFault}
use Rattle.mdcc_def_language.specs.declared.world.EventFault.{EventFault}
use Rattle.mdcc_theorem_reports.specs.Replays.{IsHeaderAccepted, IsReplayed, IsRestOfLines, end_reported, event_listed, events_read}
use Rattle.mdcc_theorem_reports.specs.Growth.{told_before}
use Rattle.mdcc_theorem_reports.proofs.Lists.{together}
use Rattle.mdcc_theorem_reports.proofs.Prefixes.{run-before}

texts-append : (ls ks : List Line) → lines_text (ls ++ ks) ≡ lines_text ls ++ lines_text ks
texts-append [] ks = refl
texts-append (l ∷ ls) ks = ap (λ zs. line_text l ++ zs) (texts-append ls ks) ∙ sym (together (line_text l) (lines_text ls) (lines_text ks))

-- ---- lines in turn

record IsRun (cluster : Cluster) (number : ℕ) (w : World) (lines : List (List ℕ)) (replay : Replay) (events : List Event) : Type 0 where
  taken : List (List ℕ)
  rest : List (List ℕ)
  parts : lines ≡ taken ++ rest
  left : IsRestOfLines (number + length taken) replay.fault rest
  read : events_read cluster taken ≡ Ok events
  whole : (run_of w events).fault ≡ None
  text : replay.text ≡ lines_text ((run_of w events).lines ++ end_reported replay.fault (run_of w events).world)
  world : replay.world ≡ Some (run_of w events).world

some-line : (line : List ℕ) (lines : List (List ℕ)) → line ∷ lines ≡ [] → ⊥
some-line line lines e = cc

from-here : (number : ℕ) → number ≡ number + 0
from-here number = omega arith

one-later : (line : List ℕ) (lines : List (List ℕ)) (number : ℕ) → (number + 1) + length lines ≡ number + length (line ∷ lines)
one-later line lines number = omega arith

read-more : (cluster : Cluster) (line : List ℕ) (lines : List (List ℕ)) (event : Option Event) (events : List Event) →
    line_of cluster line ≡ Ok event → events_read cluster lines ≡ Ok events → events_read cluster (line ∷ lines) ≡ Ok (event_listed event ++ events)
read-more cluster line lines event events e f =
    ap (λ (r : Result (Option Event) SchedFault). r >>= (λ o. events_read cluster lines >>= (λ es. Ok (event_listed o ++ es)))) e
    ∙ ap (λ (r : Result (List Event) SchedFault). r >>= (λ es. Ok (event_listed event ++ es))) f

-- none is taken, since the first line is refused
stopped : (cluster : Cluster) (number : ℕ) (w : World) (line : List ℕ) (lines : List (List ℕ)) (fault : ReplayFault) → IsRestOfLines (number + 0) (Some fault) (line ∷ lines) →
    (events : List Event) × IsRun cluster number w (line ∷ lines) (replay_ended (Some w) [] (Some fault)) events
stopped cluster number w line lines fault left = ([], record { taken = []; rest = line ∷ lines; parts = refl; left = left; read = refl; whole = refl; text = refl; world = refl })

lines-run : (cluster : Cluster) (number : ℕ) (w : World) (lines : List (List ℕ)) → (events : List Event) × IsRun cluster number w lines (lines_replayed cluster number w lines) events
lines-run cluster number w [] =
    ([], record { taken = []; rest = []; parts = refl; left = refl; read = refl; whole = refl; text = sym (append-nil (line_text (end_line w))); world = refl })
lines-run cluster number w (line ∷ lines) = by_line (λ n x. lines-run cluster n x lines) (line_of cluster line) refl
  where
    first : (event : Event) (next : Happened) (events : List Event) → after_event w event ≡ Ok next → run_of w (event ∷ events) ≡ told_before next.lines (run_of next.world events)
    first event next events e =
        rw (e, run_from)
        (ap (λ zs. run_from events (record { world = next.world; lines = zs })) (sym (append-nil next.lines)) ∙ run-before events next.world next.lines [])

    by_event : ((n : ℕ) (x : World) → (events : List Event) × IsRun cluster n x lines (lines_replayed cluster n x lines) events) → (event : Event) → line_of cluster line ≡ Ok (Some event) → (r : Result Happened EventFault) → after_event w event ≡ r →
        (events : List Event) × IsRun cluster number w (line ∷ lines) (lines_replayed cluster number w (line ∷ lines)) events
    by_event later event e (Err fault) f = rw (e, lines_replayed) (rw f (stopped cluster number w line lines (AtEvent number fault) (from-here number, some-line line lines)))
    by_event later event e (Ok next) f =
        let rest = later (number + 1) next.world in
        let same = first event next rest.0 f in
        let tail = lines_replayed cluster (number + 1) next.world lines in
        rw (e, lines_replayed) (rw f (
          event ∷ rest.0,
          record {
            taken = line ∷ rest.1.taken;
            rest = rest.1.rest;
            parts = ap (λ zs. line ∷ zs) rest.1.parts;
            left = subst (λ n. IsRestOfLines n tail.fault rest.1.rest) (one-later line rest.1.taken number) rest.1.left;
            read = read-more cluster line rest.1.taken (Some event) rest.0 e rest.1.read;
            whole = ap (λ (z : Run). z.fault) same ∙ rest.1.whole;
            text = ap (λ zs. lines_text next.lines ++ zs) rest.1.text
                ∙ sym (texts-append next.lines ((run_of next.world rest.0).lines ++ end_reported tail.fault (run_of next.world rest.0).world))
                ∙ ap lines_text (sym (together next.lines (run_of next.world rest.0).lines (end_reported tail.fault (run_of next.world rest.0).world)))
                ∙ ap (λ (z : Run). lines_text (z.lines ++ end_reported tail.fault z.world)) (sym same);
            world = rest.1.world ∙ ap (λ (z : Run). Some z.world) (sym same);
          },
        ))

    by_line : ((n : ℕ) (x : World) → (events : List Event) × IsRun cluster n x lines (lines_replayed cluster n x lines) events) → (r : Result (Option Event) SchedFault) → line_of cluster line ≡ r → (events : List Event) × IsRun cluster number w (line ∷ lines) (lines_replayed cluster number w (line ∷ lines)) events
    by_line later (Err fault) e = rw (e, lines_replayed) (stopped cluster number w line lines (AtLine number fault) (from-here number, some-line line lines))
    by_line later (Ok None) e =
        let rest = later (number + 1) w in
        let tail = lines_replayed cluster (number + 1) w lines in
        rw (e, lines_replayed) (
          rest.0,
          record {
            taken = line ∷ rest.1.taken;
            rest = rest.1.rest;
            parts = ap (λ zs. line ∷ zs) rest.1.parts;
            left = subst (λ n. IsRestOfLines n tail.fault rest.1.rest) (one-later line rest.1.taken number) rest.1.left;
            read = read-more cluster line rest.1.taken None rest.0 e rest.1.read;
            whole = rest.1.whole;
            text = rest.1.text;
            world = rest.1.world;
          },
        )
    by_line later (Ok (Some event)) e = by_event later event e (after_event w event) refl

-- ---- whole inputs

not-long : (most long : ℕ) → long ≤ most → nat_lt most long ≡ false
not-long most long h = grind (arith)

pub replayed : (input : List ℕ) (header : Cluster × UnreadLines) → IsHeaderAccepted input header → (events : List Event) × IsReplayed input header events
replayed input header accepted =
    let rest = lines-run header.0 header.1.number (first_world header.0) header.1.lines in
    (rest.0, printed rest.0 rest.1)
  where
    printed : (events : List Event) →
        IsRun header.0 header.1.number (first_world header.0) header.1.lines (lines_replayed header.0 header.1.number (first_world header.0) header.1.lines) events → IsReplayed input header events
    printed events r =
        let tail = lines_replayed header.0 header.1.number (first_world header.0) header.1.lines in
        let same : replay_of input ≡ after_text (header_text header.1.at input) tail =
        rw (not-long most_input (length input) accepted.within) (rw accepted.header_itself refl) in
        record {
          taken = r.taken;
          rest = r.rest;
          parts = r.parts;
          left = rw same r.left;
          read = r.read;
          whole = r.whole;
          text = rw same (ap (λ zs. header_text header.1.at input ++ zs) r.text);
          world = rw same r.world;
        }
