-- No message of a trace is too long.
use Rattle.std.proofs.Common.{Err, List, Ok, Result, [], ap, arith, refl, subst, sym, ℕ, ◌∙◌, ◌∷◌, ◌≡◌, ◌≤◌}
use Rattle.std.specs.List.{AllByRecursion}
use Rattle.mdcc_base.specs.declared.identifiers.Ballot.{Ballot}
use Rattle.mdcc_base.specs.declared.identifiers.TxId.{TxId}
use Rattle.mdcc_base.specs.declared.key.Key.{Key}
use Rattle.mdcc_option.specs.declared.choices.Cause.{Cause}
use Rattle.mdcc_option.specs.declared.choices.Outcome.{Outcome}
use Rattle.mdcc_option.specs.declared.cluster.Cluster.{Cluster}
use Rattle.mdcc_struct.specs.declared.options.Options.{Options}
use Rattle.mdcc_struct.specs.declared.report.Report.{Report}
use Rattle.mdcc_def_messages.specs.Lengths.{body_length, cause_length, heard_length, message_length, options_length}
use Rattle.mdcc_def_messages.specs.Mailbox.{Sent}
use Rattle.mdcc_def_messages.specs.WellFormed.{IsWellFormedMessage}
use Rattle.mdcc_def_messages.specs.WellFormedParts.{IsWellFormedHeard, IsWellFormedOptions}
use Rattle.mdcc_def_messages.specs.declared.messages.Message.{Message}
use Rattle.mdcc_def_protocol.specs.Facts.{last_ballot, shown_of}
use Rattle.mdcc_def_protocol.specs.IsCluster.{IsCluster}
use Rattle.mdcc_def_ledger.specs.Ledger.{Entry, facts_of}
use Rattle.mdcc_def_language.specs.declared.events.Event.{Event}
use Rattle.mdcc_def_language.specs.declared.world.EventFault.{EventFault}
use Rattle.mdcc_def_simulation.specs.Events.{after_event}
use Rattle.mdcc_def_simulation.specs.Runs.{run_from, run_of}
use Rattle.mdcc_def_simulation.specs.State.{Happened, World, after_lines, first_world}
use Rattle.mdcc_theorem_encoding.proofs.Longest.{longest_choice}
use Rattle.mdcc_theorem_agreement.specs.Laws.{IsLedger}
use Rattle.mdcc_theorem_bounds.proofs.RoomTold.{room_sent}
use Rattle.mdcc_theorem_node_steps.proofs.Shortness.{entries-long, longest-choices, longest-deltas, longest-entry}
use Rattle.mdcc_theorem_trace_states.specs.MessageMeaning.{IsBackedMessage, Says}
use Rattle.mdcc_theorem_trace_states.specs.Words.{Each}
use Rattle.mdcc_theorem_trace_states.proofs.Lists.{Each-like}
use Rattle.mdcc_theorem_trace.proofs.Laws.{all_sent, allowed}
use Rattle.mdcc_theorem_trace.proofs.Safety.{votes-told}
use Rattle.mdcc_theorem_trace_limits.proofs.Short.{ledger-short}
use Rattle.mdcc_theorem_worlds.proofs.Begins.{first-stands}
use Rattle.mdcc_theorem_worlds.proofs.Staying.{event-between}
use Rattle.mdcc_theorem_worlds.specs.Words.{IsGivenEvent}
use Rattle.mdcc_theorem_worlds.specs.Events.{IsBetweenEvents}
use Rattle.mdcc_theorem_worlds.specs.WorldInvariant.{IsSentWithin}
use Rattle.mdcc_theorem_trace_answers.proofs.VotesAreFew.{AreFew, votes-few}
use Rattle.mdcc_theorem_trace_answers.proofs.Committed.{ledger-tail}
use Rattle.mdcc_theorem_agreement.proofs.VersionsLow.{few-begun}

-- ---- one message

-- so many bytes follow a key, a version and what else a message has of a fixed length
marks-short : (key : Key) (version : ℕ) (options : Options) → IsWellFormedOptions key version options → AreFew 1023 32767 options → options_length options ≤ 1473434
marks-short key version options w few = omega (arith, entries-long key version options w.each, few.accepted, few.rejected)

cause-short : (cause : Cause) → cause_length cause ≤ 10
cause-short Cause.Behind = omega arith
cause-short (Cause.Classic ballot) = omega arith
cause-short (Cause.Limit quantity) = omega arith
cause-short Cause.Full = omega arith

heard-short : (tx : TxId) (outcome : Outcome) → IsWellFormedHeard tx outcome → heard_length outcome ≤ 8963
heard-short tx Outcome.Abort w = omega arith
heard-short tx (Outcome.Commit choices) w = omega (arith, longest-choices tx choices w.outcome_itself.each, w.outcome_itself.count.1)

module _ (cluster : Cluster) (es : List Entry) (ledger : IsLedger cluster es) (from : ℕ) where
  promise-short : (key : Key) (version through : ℕ) (ballot reported : Ballot) (votes : Options) → Says cluster es from (Message.Promise key version through ballot reported votes) → AreFew 1023 32767 votes
  promise-short key version through ballot reported votes h =
      let facts = facts_of es from in
      let is : shown_of facts key version (last_ballot facts key version ballot) ≡ votes = sym (votes-told 0 facts key version ballot h.3) ∙ ap (λ (z : Report). z.votes) h.2 in
      subst (AreFew 1023 32767) is (votes-few cluster es from key version (last_ballot facts key version ballot) ledger)

  accept-short : (key : Key) (version : ℕ) (ballot : Ballot) (options : Options) → Says cluster es from (Message.Accept key version ballot options) → AreFew 1023 32767 options
  accept-short key version ballot options h =
      let few = room_sent cluster es ledger key version ballot options h.1 in
      record { accepted = omega (arith, few.0); rejected = omega (arith, few.1) }

  body-short : (message : Message) → IsWellFormedMessage message → Says cluster es from message → body_length message ≤ 1473501
  body-short (Message.Propose choice) w h = omega (arith, longest_choice choice w)
  body-short (Message.Lead choice) w h = omega (arith, longest_choice choice w)
  body-short (Message.Voted key version ballot tx mark) w h = omega (arith, w.instance.key_itself.fits, longest-entry key version tx mark w.entry)
  body-short (Message.Escalate key version tx cause) w h = omega (arith, w.instance.key_itself.fits, cause-short cause)
  body-short (Message.Prepare key version through ballot) w h = omega (arith, w.instance.key_itself.fits)
  body-short (Message.Promise key version through ballot reported votes) w h =
      omega (arith, w.prepare.instance.key_itself.fits, marks-short key version votes w.votes_itself (promise-short key version through ballot reported votes h))
  body-short (Message.Accept key version ballot options) w h =
      omega (arith, w.instance.key_itself.fits, marks-short key version options w.options_itself (accept-short key version ballot options h))
  body-short (Message.Refused key version ballot promised) w h = omega (arith, w.instance.key_itself.fits)
  body-short (Message.Outcome tx outcome) w h = omega (arith, heard-short tx outcome w)
  body-short (Message.Ask tx key version) w h = omega (arith, w.1.key_itself.fits)
  body-short (Message.SyncAsk key) w h = omega (arith, w.fits)
  body-short (Message.SyncGive key version item adds) w h =
      omega (arith, w.instance.key_itself.fits, w.base.body_fits, w.base.count.1, longest-deltas adds w.each, w.few)
  body-short (Message.Mark centre epoch seq) w h = omega arith
  body-short (Message.Finished tx) w h = omega arith
  body-short (Message.ClientRead serial key) w h = absurd h
  body-short (Message.ClientBegin serial parts) w h = absurd h
  body-short (Message.ClientAnswer serial answer) w h = absurd h

-- ---- all messages of a trace

abbrev trace : Cluster → List Event → World
trace cluster events = (run_of (first_world cluster) events).world

trace-ledger : (cluster : Cluster) → IsCluster cluster → (events : List Event) → IsLedger cluster (trace cluster events).ledger
trace-ledger cluster is events =
    record { of_cluster = is; allowed = allowed cluster is events; few = few-begun (trace cluster events).ledger (ledger-short cluster is events) }

pub well_formed-short : (cluster : Cluster) → IsCluster cluster → (events : List Event)
    → Each (λ (s : Sent). IsWellFormedMessage s.envelope.message → message_length s.envelope ≤ 1473505) (trace cluster events).sent
well_formed-short cluster is events =
    Each-like (λ (s : Sent). IsBackedMessage cluster es s.envelope) (λ (s : Sent). IsWellFormedMessage s.envelope.message → message_length s.envelope ≤ 1473505) (trace cluster events).sent
    (λ s h w. let short = body-short cluster h.sent.old (ledger-tail cluster h.sent.old es h.sent.tail (trace-ledger cluster is events)) s.envelope.from s.envelope.message w h.sent.says in omega (arith, short)) (all_sent cluster is events)
  where
    es : List Entry
    es = (trace cluster events).ledger

-- ---- which are well-formed

next-between : (event : Event) (events : List Event) (h : Happened) → ((next : Happened) → after_event h.world event ≡ Ok next → IsBetweenEvents (run_from events (after_lines h.lines next)).world)
    → IsBetweenEvents h.world → IsBetweenEvents (run_from (event ∷ events) h).world
next-between event events h go between = by_answer (after_event h.world event) refl
  where
    by_answer : (r : Result Happened EventFault) → after_event h.world event ≡ r → IsBetweenEvents (run_from (event ∷ events) h).world
    by_answer (Err fault) e = rw (e, run_from) between
    by_answer (Ok next) e = rw (e, run_from) (go next e)

run-between : (events : List Event) (h : Happened) → AllByRecursion IsGivenEvent events → IsBetweenEvents h.world → IsBetweenEvents (run_from events h).world
run-between [] h may between = between
run-between (event ∷ events) h may between =
    next-between event events h
    (λ next e. run-between events (after_lines h.lines next) may.1 (let stays = event-between h.world event next between may.0 e in record { itself = stays.itself; few = stays.few })) between

both-each : (cluster : Cluster) (sent : List Sent) → Each (λ (s : Sent). IsWellFormedMessage s.envelope.message → message_length s.envelope ≤ 1473505) sent → AllByRecursion (IsSentWithin cluster) sent
    → Each (λ (s : Sent). message_length s.envelope ≤ 1473505) sent
both-each cluster [] h w = tt
both-each cluster (s ∷ ss) h w = (h.0 w.0.envelope_itself.message, both-each cluster ss h.1 w.1)

pub messages-short : (cluster : Cluster) → IsCluster cluster → (events : List Event) → AllByRecursion IsGivenEvent events
    → Each (λ (s : Sent). message_length s.envelope ≤ 1473505) (trace cluster events).sent
messages-short cluster is events may =
    let between = run-between events (record { world = first_world cluster; lines = [] }) may (record { itself = first-stands cluster is; few = omega arith }) in
    both-each (trace cluster events).cluster (trace cluster events).sent (well_formed-short cluster is events) between.itself.sent
