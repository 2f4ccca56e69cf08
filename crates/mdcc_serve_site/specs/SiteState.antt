-- A centre that is served, as the code holds it, and what its methods do.
use Rattle.std.specs.List.{AllByRecursion}
use Rattle.std.specs.Prelude.{Bool, Err, IfOk, IfSome, IsTrue, List, None, Ok, Option, Some, Result, [], is_some, take, ⊤, ℕ, ◌+◌, ◌<◌, ◌^◌, ◌≡◌, ◌≤◌, ◌⊎◌}
use Rattle.std.specs.Io.KnownBytes.{Appends}
use Rattle.mdcc_log.specs.AtRest.{IsAtRest}
use Rattle.mdcc_log.specs.Frames.{OpenAreas}
use Rattle.mdcc_base.specs.Causes.{Rose}
use Rattle.mdcc_base.specs.declared.identifiers.TxId.{TxId}
use Rattle.mdcc_base.specs.declared.key.Key.{Key}
use Rattle.mdcc_config.specs.declared.config.Config.{Config}
use Rattle.mdcc_disks.specs.Disks.{Disk}
use Rattle.mdcc_journal.specs.Counts.{HasCounts as FactHasCounts}
use Rattle.mdcc_link.specs.Link.{LinkCall}
use Rattle.mdcc_node_log.specs.Nodes.{IsNodeOf}
use Rattle.mdcc_def_messages.specs.Lengths.{fact_length}
use Rattle.mdcc_def_messages.specs.declared.facts.Fact.{Fact}
use Rattle.mdcc_def_messages.specs.declared.messages.Envelope.{Envelope}
use Rattle.mdcc_option.specs.declared.cluster.Cluster.{Cluster}
use Rattle.mdcc_option.specs.declared.faults.BeginFault.{BeginFault}
use Rattle.mdcc_serve_outbox.specs.Sends.{IsPast, IsSenderOf, IsSending, Sends}
use Rattle.mdcc_serve_outbox.specs.Shows.{Records, call_of, count_limited, failed_call}
use Rattle.mdcc_serve_outbox.specs.declared.sending.Sender.{Sender}
use Rattle.mdcc_def_rules.specs.Steps.{NodeStep, step_given, with_new}
use Rattle.mdcc_def_rules.specs.declared.node.Answer.{Answer}
use Rattle.mdcc_def_rules.specs.declared.node.Step.{Step}
use Rattle.mdcc_def_rules.specs.declared.node.StepFault.{StepFault}
use Rattle.mdcc_def_server_runs.specs.Acts.{Act, dropped_in, printed, steps_in}
use Rattle.mdcc_def_server_runs.specs.Sending.{envelopes_sent}
use Rattle.mdcc_def_server_runs.specs.Sites.{Doing, Site}
use Rattle.mdcc_serve_site.specs.Causes.{IsNoBoot, IsPrinting, in_flight, text_begun}
use Rattle.mdcc_serve_site.specs.Logs.{MayHaveFacts, facts_after, with_facts}
use Rattle.mdcc_serve_site.specs.Moments.{Adds, Broke, Did, KeepsOthers, Moment, Outside}
use Rattle.mdcc_serve_site.specs.PendingBytes.{pending_bytes}
use Rattle.mdcc_serve_site.specs.declared.fault.ServeFault.{ServeFault}
use Rattle.mdcc_serve_site.specs.declared.site.Site.{Site as TheSite}
use Rattle.mdcc_theorem_node_steps.specs.NodeInvariant.{IsNode}
use Rattle.mdcc_wire.specs.Counts.{HasMessageCounts}
use Rattle.mdcc_def_messages.specs.Spelling.{encodings_of}

-- ---- its log

module _ {D : Type 0} (disk : D → ℕ → Disk) (may_leave : D → ℕ → List ℕ → Type 0) (every : ℕ) where
  -- The open log of a centre, which has these facts where its disks tell their bytes: both do or none. After so many frames a checkpoint
  -- of it is due.
  pub record OpenLog (disks : D) (log : OpenAreas) (centre : ℕ) (facts : List Fact) : Type 0 where
    pub of : log.centre ≡ centre
    pub often : log.every ≡ every
    pub alike : (disk disks (centre + 16)).told ≡ (disk disks centre).told
    pub at_rest : IsTrue (disk disks centre).told → IsAtRest disk may_leave disks log (encodings_of facts)
    -- whatever a crash leaves of it
    pub left : IsTrue (disk disks centre).told → MayHaveFacts disk may_leave disks centre facts []

  -- and no checkpoint is due
  pub record HoldsLog (disks : D) (log : OpenAreas) (centre : ℕ) (facts : List Fact) : Type 0 where
    pub open_log : OpenLog disks log centre facts
    pub few : log.tail < every

-- ---- the rest of it

-- the fact fits into a log
abbrev pub IsShortFact : Fact → Type 0
IsShortFact fact = FactHasCounts fact × (fact_length fact ≤ 2097152)

abbrev pub CanBeSent : Envelope → Type 0
CanBeSent envelope = HasMessageCounts envelope.message

-- what is pending at this centre is held as bytes: its facts are those of the node that its log has not, and all of it can go out
pub record Waits (held : TheSite) (site : Site) : Type 0 where
  pub pending : held.pending ≡ pending_bytes site.pending
  pub all : site.node.facts ≡ with_facts site.logged site.pending.facts
  pub facts : AllByRecursion IsShortFact site.pending.facts
  pub envelopes : AllByRecursion CanBeSent site.pending.envelopes

-- what is held beside the log is this centre of the cluster
pub record IsSite (cluster : Cluster) (held : TheSite) (site : Site) : Type 0 where
  pub node : IsNodeOf held.node cluster site.centre site.node.facts site.node.volatile
  pub kept : IsNode cluster site.centre site.node.facts site.node.volatile
  pub centre : held.centre ≡ site.centre
  pub sender : IsSenderOf held.sender site
  pub clients : held.clients ≡ site.clients
  pub own : held.own ≡ site.own
  pub asked : held.asked ≡ site.asked
  pub waits : Waits held site

-- Its node made this step: it has the new fact, which is not among the pending ones yet.
pub record HasStepped (cluster : Cluster) (held : TheSite) (site : Site) (step : NodeStep) : Type 0 where
  pub node : IsNodeOf held.node cluster site.centre (with_new site.node.facts step.fact) step.after
  pub kept : IsNode cluster site.centre (with_new site.node.facts step.fact) step.after
  pub centre : held.centre ≡ site.centre
  pub sender : IsSenderOf held.sender site
  pub clients : held.clients ≡ site.clients
  pub own : held.own ≡ site.own
  pub asked : held.asked ≡ site.asked
  pub waits : Waits held site
  pub fact : IfSome step.fact IsShortFact
  pub sends : AllByRecursion CanBeSent step.sends

-- what its node made of an input: a step, or a refusal that leaves all as it was
abbrev pub Acted : Cluster → TheSite → Site → Result NodeStep StepFault → Result (Unit {0}) StepFault → Step → Type 0
Acted cluster held site expected (Ok done) made = (step : NodeStep) × (expected ≡ Ok step) × (made ≡ step_given step) × HasStepped cluster held site step
Acted cluster held site expected (Err StepFault.Memory) made = ⊤
Acted cluster held site expected (Err fault) made = (expected ≡ Err fault) × IsSite cluster held site

-- ---- all of it

-- a centre, with the disks, the link and the output
pub record SiteOutside (D L O : Type 0) : Type 0 where
  pub disks : D
  pub held : TheSite
  pub link : L
  pub out : O

abbrev pub place : {D L O : Type 0} → D → TheSite → L → O → SiteOutside D L O
place disks held link out = record { disks = disks; held = held; link = link; out = out }

-- what is seen of it
abbrev pub seen : {D L O : Type 0} → SiteOutside D L O → Moment D L O
seen at = record { disks = at.disks; link = at.link; out = at.out; steps = at.held.steps; dropped = at.held.dropped; lost = at.held.sender.lost }

-- where the serials are used up
abbrev pub OnSerial : ServeFault → ℕ → Type 0
OnSerial ServeFault.Serial sent = 2 ^ 32 ≤ sent
OnSerial fault sent = ⊤

module _ {D L O : Type 0} (w : Outside D L O) where
  pub record HoldsSite (cluster : Cluster) (disks : D) (held : TheSite) (site : Site) : Type 0 where
    pub itself : IsSite cluster held site
    pub log : HoldsLog w.disk w.may_leave w.every disks held.log site.centre site.logged

  -- it is some centre of the cluster
  pub record IsServed (cluster : Cluster) (disks : D) (held : TheSite) : Type 0 where
    pub site : Site
    pub stands : HoldsSite cluster disks held site

  -- its log has its facts and those that were appended, or where a call of the disk failed perhaps those that were being appended too
  abbrev pub SiteLog : Site → ServeFault → D → D → List Act → List Act → Type 0
  SiteLog site fault old new acts rest =
      IsTrue (w.disk old site.centre).told
      → MayHaveFacts w.disk w.may_leave new site.centre (facts_after site.centre site.logged acts) (in_flight fault site.centre rest)

  -- it did all that it was to do
  pub record Finishes (cluster : Cluster) (site : Site) (doing : Doing) (old new : SiteOutside D L O) : Type 0 where
    pub did : Did w doing.acts (seen old) (seen new)
    pub others : KeepsOthers w.disk w.may_leave site.centre old.disks new.disks
    pub stands : HoldsSite cluster new.disks new.held doing.site

  -- it ended before
  pub record Stops (site : Site) (doing : Doing) (fault : ServeFault) (old new : SiteOutside D L O) : Type 0 where
    pub broke : Broke w (IsTrue (w.disk old.disks site.centre).told) (SiteLog site fault old.disks new.disks) doing.acts fault (seen old) (seen new)
    pub others : KeepsOthers w.disk w.may_leave site.centre old.disks new.disks
    pub serials : OnSerial fault doing.site.sent
    pub no_boot : IsNoBoot fault

  abbrev pub Goes : {T : Type 0} → Cluster → Site → Doing → Result T ServeFault → SiteOutside D L O → SiteOutside D L O → Type 0
  Goes cluster site doing (Ok done) old new = Finishes cluster site doing old new
  Goes cluster site doing (Err fault) old new = Stops site doing fault old new

-- ---- what needs no disk, link or output

-- a step is counted, or what is dropped
abbrev pub IsCount : Act → Type 0
IsCount Act.Stepped = ⊤
IsCount Act.Dropped = ⊤
IsCount _ = ⊥

-- This was done and counted, and its log is as it was.
pub record Makes (cluster : Cluster) (site : Site) (doing : Doing) (old new : TheSite) : Type 0 where
  pub itself : IsSite cluster new doing.site
  pub centre : doing.site.centre ≡ site.centre
  pub logged : doing.site.logged ≡ site.logged
  pub log : new.log ≡ old.log
  pub quiet : AllByRecursion IsCount doing.acts
  pub steps : Adds (steps_in doing.acts) old.steps new.steps
  pub dropped : Adds (dropped_in doing.acts) old.dropped new.dropped
  pub lost : new.sender.lost ≡ old.sender.lost

-- There was no memory, and nothing was counted.
pub record MakesNone (fault : ServeFault) (old new : TheSite) : Type 0 where
  pub memory : fault ≡ ServeFault.Memory
  pub steps : new.steps ≡ old.steps
  pub dropped : new.dropped ≡ old.dropped
  pub lost : new.sender.lost ≡ old.sender.lost

abbrev pub Becomes : {T : Type 0} → Cluster → Site → Doing → Result T ServeFault → TheSite → TheSite → Type 0
Becomes cluster site doing (Ok done) old new = Makes cluster site doing old new
Becomes cluster site doing (Err fault) old new = MakesNone fault old new

-- ---- for its methods

-- the transaction that an answer says was begun
abbrev pub begun_in : Option Answer → Option TxId
begun_in (Some (Answer.Begun tx)) = Some tx
begun_in _ = None

-- the key because of which it says that none was, and why
abbrev pub refused_key : Option Answer → Option Key
refused_key (Some (Answer.Refused key fault)) = Some key
refused_key _ = None

abbrev pub refused_fault : Option Answer → Option BeginFault
refused_fault (Some (Answer.Refused key fault)) = Some fault
refused_fault _ = None

-- a refusal of the node is told, or it is dropped
abbrev pub Refuses : StepFault → Result (Unit {0}) ServeFault → TheSite → TheSite → Type 0
Refuses StepFault.Memory result old new = (result ≡ Err ServeFault.Memory) × (new ≡ old)
Refuses fault result old new = (result ≡ Ok tt) × (new ≡ record old { dropped = count_limited (old.dropped + 1) })

-- ---- what it receives

module _ {L : Type 0} (calls : L → Option (List LinkCall)) (lost faults : L → ℕ) where
  -- a receive at an endpoint gave something, or nothing, and this is made of it
  pub record Takes (cluster : Cluster) (site : Site) (at : ℕ) (taken : Option (List ℕ) → Doing) (result : Result Bool ServeFault) (link new_link : L) (old new : TheSite) : Type 0 where
    pub gave : Option (List ℕ)
    pub recorded : Records (call_of (Act.Receive at gave)) (calls link) (calls new_link)
    pub came : IfOk result (λ came. came ≡ is_some gave)
    pub becomes : Becomes cluster site (taken gave) result old new

  -- the receive failed
  pub record FailsToReceive (at : ℕ) (result : Result Bool ServeFault) (link new_link : L) (old new : TheSite) : Type 0 where
    pub fault : result ≡ Err ServeFault.Link
    pub recorded : Records (failed_call (Act.Receive at None)) (calls link) (calls new_link)
    pub cause : Rose (faults link) (faults new_link)
    pub same : new ≡ old

  -- it received once, and sent nothing
  pub record Receives (cluster : Cluster) (site : Site) (at : ℕ) (taken : Option (List ℕ) → Doing) (result : Result Bool ServeFault) (link new_link : L) (old new : TheSite) : Type 0 where
    pub later : faults link ≤ faults new_link
    pub sends : lost new_link ≡ lost link
    pub does : Takes cluster site at taken result link new_link old new ⊎ FailsToReceive at result link new_link old new

-- ---- what it sends and prints

module _ {L : Type 0} (calls : L → Option (List LinkCall)) (lost faults : L → ℕ) where
  -- A front of the messages was sent, and before the rest the serials were used up.
  pub record SendsSome (config : Config) (site : Site) (envelopes : List Envelope) (fault : ServeFault) (old new : L) (before after : Sender) : Type 0 where
    pub rest : List Act
    pub sent : Sends calls lost faults (envelopes_sent config site envelopes).acts rest old new before.lost after.lost
    pub serial : fault ≡ ServeFault.Serial
    pub comes : IsSending rest
    pub past : IsPast (envelopes_sent config site envelopes).site

  pub record SendsAll (config : Config) (site : Site) (envelopes : List Envelope) (old new : L) (before after : Sender) : Type 0 where
    pub sent : Sends calls lost faults (envelopes_sent config site envelopes).acts [] old new before.lost after.lost
    pub next : IsSenderOf after (envelopes_sent config site envelopes).site

  abbrev pub SendsOut : Config → Site → List Envelope → Result (Unit {0}) ServeFault → L → L → Sender → Sender → Type 0
  SendsOut config site envelopes (Ok done) old new before after = SendsAll config site envelopes old new before after
  SendsOut config site envelopes (Err fault) old new before after = SendsSome config site envelopes fault old new before after

module _ {O : Type 0} (held : O → Option (List ℕ)) (faults : O → ℕ) where
  -- the lines of these acts were printed
  pub record PrintsAll (acts : List Act) (old new : O) : Type 0 where
    pub printed_all : Appends (held old) (held new) (printed acts)
    pub later : faults old ≤ faults new

  -- a front of the next line was printed, or there was no memory
  pub record PrintsSome (acts : List Act) (fault : ServeFault) (old new : O) : Type 0 where
    pub comes : ((fault ≡ ServeFault.Memory) × (new ≡ old)) ⊎ ((fault ≡ ServeFault.Output) × IsPrinting acts × Rose (faults old) (faults new))
    pub more : ℕ
    pub front : Appends (held old) (held new) (take more (text_begun fault acts))
    pub later : faults old ≤ faults new

  abbrev pub PrintsOut : List Act → Result (Unit {0}) ServeFault → O → O → Type 0
  PrintsOut acts (Ok done) old new = PrintsAll acts old new
  PrintsOut acts (Err fault) old new = PrintsSome acts fault old new
