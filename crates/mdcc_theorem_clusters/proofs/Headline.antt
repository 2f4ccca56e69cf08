-- The headline for a deployed cluster.
use Rattle.std.proofs.Common.{Bool, List, Some, [], ap, arith, false, inl, inr, refl, sym, true, ℕ, ◌∙◌, ◌∷◌, ◌≡◌}
use Rattle.std.specs.List.{AllByRecursion}
use Rattle.mdcc_theorem_agreement.specs.Laws.{IsLedger}
use Rattle.mdcc_base.specs.declared.identifiers.TxId.{TxId}
use Rattle.mdcc_config.specs.declared.config.Config.{Config}
use Rattle.mdcc_theorem_headline.specs.Truth.{IsReportedAbort, IsReportedCommit, IsReportedRead, IsTrueLine}
use Rattle.mdcc_def_language.specs.declared.lines.Line.{Line}
use Rattle.mdcc_def_ledger.specs.Ledger.{Added, Entry}
use Rattle.mdcc_def_messages.specs.Reading.{view_of}
use Rattle.mdcc_def_messages.specs.declared.facts.Fact.{Fact}
use Rattle.mdcc_theorem_encoding.proofs.Whole.{message_again}
use Rattle.mdcc_def_messages.specs.declared.messages.ClientAnswer.{ClientAnswer}
use Rattle.mdcc_def_messages.specs.declared.messages.Envelope.{Envelope}
use Rattle.mdcc_def_messages.specs.declared.messages.Message.{Message}
use Rattle.mdcc_option.specs.declared.choices.Outcome.{Outcome}
use Rattle.mdcc_option.specs.declared.cluster.Cluster.{Cluster}
use Rattle.mdcc_option.specs.declared.items.Known.{Known}
use Rattle.mdcc_def_protocol.specs.IsCluster.{IsCluster}
use Rattle.mdcc_theorem_reports.specs.Origins.{HasOrigin, WasHeard, WasRead}
use Rattle.mdcc_def_server_runs.specs.Acts.{Act}
use Rattle.mdcc_def_server_runs.specs.declared.lines.ServerLine.{ServerLine}
use Rattle.mdcc_theorem_trace_states.specs.Words.{Each, In}
use Rattle.mdcc_theorem_trace_states.proofs.Lists.{Each-at, Each-like}
use Rattle.mdcc_theorem_clusters.proofs.Mail.{whole-of-last}
use Rattle.mdcc_theorem_clusters.specs.Answers.{IsTrueAnswer}
use Rattle.mdcc_theorem_clusters.specs.Asked.{WasReceived}
use Rattle.mdcc_theorem_clusters.specs.Clusters.{Deployment, after_moves, not_started}
use Rattle.mdcc_theorem_clusters.specs.Executions.{IsTrueAct, IsTrueBy, IsTrueDatagram, IsTrueExecution, IsTrueMessage, TruthFromLaws, WasSent}
use Rattle.mdcc_theorem_commit_groups.specs.Groups.{IsHeardIn}
use Rattle.mdcc_theorem_clusters.specs.Headline.{ActsTellTruth, HeadlineFromLaws, IsReported, IsReportedAnswer, IsReportedBy, IsReportedMessage, JoinsTruth, LedgerLaws}
use Rattle.mdcc_theorem_clusters.specs.Mail.{AreMail, IsMail, IsPieceIn, Mail}

-- what is in a list has entries before it and after it
was-heard : (es : List Entry) (a : ℕ) (tx : TxId) (outcome : Outcome) → In (Added a (Fact.Heard tx outcome)) es → WasHeard es a tx outcome
was-heard [] a tx outcome i = absurd i
was-heard (e ∷ es) a tx outcome i =
    elim i [
      | inl s ↦ record { later = []; before = es; parts = ap (λ (z : Entry). z ∷ es) (sym s) }
      | inr r ↦ let w = was-heard es a tx outcome r in record { later = e ∷ w.later; before = w.before; parts = ap (λ (z : List Entry). e ∷ z) w.parts }
    ]

reported-as : (cluster : Cluster) (ledger : List Entry) (a : ℕ) (tx : TxId) (commits : Bool) → IsTrueLine cluster ledger (Line.Heard a tx commits) → IsReported cluster ledger tx commits
reported-as cluster ledger a tx true h = h
reported-as cluster ledger a tx false h = h

module _ (laws : LedgerLaws) (config : Config) (ledger : List Entry) (is : IsLedger config.cluster ledger) (mail : List Mail) (done : List (ℕ × Act)) where
  reported : (a : ℕ) (tx : TxId) (commits : Bool) → IsHeardIn ledger a (tx, commits) → IsReported config.cluster ledger tx commits
  reported a tx commits h =
      let origin : HasOrigin config.cluster.quorums ledger (Line.Heard a tx commits) = (h.outcome, sym h.same, was-heard ledger a tx h.outcome h.added) in
      reported-as config.cluster ledger a tx commits (laws.told config.cluster ledger is (Line.Heard a tx commits ∷ []) (origin, tt)).0

  line-reported : (a : ℕ) (line : ServerLine) → IsTrueBy config done ledger mail a (Act.Print line) → IsReportedBy config done ledger (Act.Print line)
  line-reported a (ServerLine.Heard centre tx commits) h = reported a tx commits h.1
  line-reported a (ServerLine.Booted centre epoch) h = tt
  line-reported a (ServerLine.Done turns steps dropped lost) h = tt

  read-reported : (a : ℕ) (known : Known) → WasRead ledger a known → IsReportedRead config.cluster ledger known
  read-reported a known h = (laws.told config.cluster ledger is (Line.Read 0 a known ∷ []) (h, tt)).0

  answer-reported : (a epoch serial : ℕ) (answer : ClientAnswer) → IsTrueAnswer config (WasReceived done) ledger a epoch serial answer → IsReportedAnswer config done ledger a serial answer
  answer-reported a epoch serial (ClientAnswer.Heard tx commits) h = (reported a tx commits h.0, h.1)
  answer-reported a epoch serial (ClientAnswer.Read key token item due) h = (read-reported a (record { key = key; token = token; item = item }) h.0.read, h.1)
  answer-reported a epoch serial (ClientAnswer.Begun tx) h = h
  answer-reported a epoch serial (ClientAnswer.Refused key fault) h = h
  answer-reported a epoch serial (ClientAnswer.Draft fault) h = h

  mail-reported : (epoch : ℕ) (envelope : Envelope) (message : Message) → IsTrueMessage config done ledger epoch envelope message → IsReportedMessage config done ledger envelope message
  mail-reported epoch envelope (Message.ClientAnswer serial answer) h = answer-reported envelope.from epoch serial answer h
  mail-reported epoch envelope (Message.ClientRead serial key) h = tt
  mail-reported epoch envelope (Message.ClientBegin serial parts) h = tt
  mail-reported epoch envelope (Message.Propose choice) h = tt
  mail-reported epoch envelope (Message.Lead choice) h = tt
  mail-reported epoch envelope (Message.Voted key version ballot tx mark) h = tt
  mail-reported epoch envelope (Message.Outcome tx outcome) h = tt
  mail-reported epoch envelope (Message.Prepare key version through ballot) h = tt
  mail-reported epoch envelope (Message.Promise key version through ballot reported votes) h = tt
  mail-reported epoch envelope (Message.Accept key version ballot options) h = tt
  mail-reported epoch envelope (Message.SyncGive key version item adds) h = tt
  mail-reported epoch envelope (Message.Refused key version ballot promised) h = tt
  mail-reported epoch envelope (Message.Escalate key version tx cause) h = tt
  mail-reported epoch envelope (Message.Ask tx key version) h = tt
  mail-reported epoch envelope (Message.SyncAsk key) h = tt
  mail-reported epoch envelope (Message.Mark origin era upto) h = tt
  mail-reported epoch envelope (Message.Finished ended) h = tt

  act-reported : (a : ℕ) (act : Act) → IsTrueBy config done ledger mail a act → IsReportedBy config done ledger act
  act-reported a (Act.Print line) h = line-reported a line h
  act-reported a (Act.Send from to bytes answer) h = record {
    envelope = h.piece.one.1;
    head = h.piece.one.0;
    index = h.piece.index;
    piece = h.piece.within;
    is = h.piece.is;
    told = mail-reported h.piece.one.0.epoch h.piece.one.1 h.piece.one.1.message h.told;
  }
  act-reported a (Act.Bind at address) h = tt
  act-reported a (Act.Receive at gave) h = tt
  act-reported a (Act.Append centre facts) h = tt
  act-reported a Act.Stepped h = tt
  act-reported a Act.Dropped h = tt
  act-reported a Act.Unsent h = tt

  not-both : (tx : TxId) → IsReportedCommit config.cluster ledger tx → IsReportedAbort config.cluster ledger tx → ⊥
  not-both tx c d = let bad : Some (Outcome.Commit c.choices) ≡ Some Outcome.Abort = sym c.outcome ∙ d.outcome in absurd (cc)

  same-report : (tx : TxId) (one other : Bool) → IsReported config.cluster ledger tx one → IsReported config.cluster ledger tx other → one ≡ other
  same-report tx true true h k = refl
  same-report tx true false h k = absurd (not-both tx h k)
  same-report tx false true h k = absurd (not-both tx k h)
  same-report tx false false h k = refl

  -- ---- what is joined

  module _ (heads : AreMail mail) (acts : Each (IsTrueAct config done ledger mail) done) where
    sent-true : (bytes : List ℕ) → (sent : WasSent done bytes) → IsTrueDatagram config done ledger mail sent.centre bytes
    sent-true bytes sent = Each-at (IsTrueAct config done ledger mail) done (sent.centre, Act.Send sent.from sent.to bytes sent.answer) acts sent.one_of

    all-pieces : (datagrams : List (List ℕ)) → AllByRecursion (WasSent done) datagrams → AllByRecursion (IsPieceIn mail) datagrams
    all-pieces [] h = tt
    all-pieces (bytes ∷ datagrams) h = ((sent-true bytes h.0).piece, all-pieces datagrams h.1)

    joins-truth : JoinsTruth config done ledger
    joins-truth before last bytes sent now whole =
        let one = sent-true last now in
        let text = whole-of-last mail heads before last bytes (all-pieces before sent) one.piece whole in
        let formed = (Each-at IsMail mail one.piece.one heads.each one.piece.one_of).formed in
        record {
          envelope = one.piece.one.1;
          is = text;
          read = ap view_of text ∙ message_again one.piece.one.1 formed;
          told = mail-reported one.piece.one.0.epoch one.piece.one.1 one.piece.one.1.message one.told;
        }

    pub tells-truth : ActsTellTruth config done ledger
    tells-truth =
        let all : Each (λ (one : ℕ × Act). IsReportedBy config done ledger one.1) done =
        Each-like (IsTrueAct config done ledger mail) (λ (one : ℕ × Act). IsReportedBy config done ledger one.1) done (λ one h. act-reported one.0 one.1 h) acts in
        record {
          committed_run = laws.run config.cluster ledger is;
          whole = laws.whole config.cluster ledger is;
          reported = all;
          joined = joins-truth;
          alike = λ a b c d tx one other i j.
              same-report tx one other (Each-at (λ (x : ℕ × Act). IsReportedBy config done ledger x.1) done (a, Act.Print (ServerLine.Heard c tx one)) all i)
              (Each-at (λ (x : ℕ × Act). IsReportedBy config done ledger x.1) done (b, Act.Print (ServerLine.Heard d tx other)) all j);
        }

pub tells : (laws : LedgerLaws) (config : Config) (ledger : List Entry) → IsLedger config.cluster ledger → (done : List (ℕ × Act)) (durable : List (ℕ × Fact)) → IsTrueExecution config done durable ledger → ActsTellTruth config done ledger
tells laws config ledger is done durable t = tells-truth laws config ledger is t.mail done t.heads t.acts

pub headline : TruthFromLaws → HeadlineFromLaws
headline every laws ledger_laws config is moves h =
    let found = every laws config is moves h in
    let state : Deployment = after_moves config not_started moves in
    let cluster : IsCluster config.cluster = record { quorums = is.quorums; schema = is.schema; range = is.gamma; some_cells = is.some_cells; cells = is.cells } in
    record {
      ledger = found.0;
      true_of = found.1;
      asked_for = found.2;
      headline = λ short. tells ledger_laws config found.0 (record { of_cluster = cluster; allowed = found.1.sound.legal; few = omega (arith, short.steps, found.1.begun) }) state.done state.durable found.1;
    }
