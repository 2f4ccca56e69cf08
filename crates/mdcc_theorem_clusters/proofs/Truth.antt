-- Every execution has a ledger of which all is true.
use Rattle.std.proofs.Common.{List, [], ap, arith, inl, inr, refl, subst, sym, ℕ, ◌∙◌, ◌∷◌, ◌≡◌}
use Rattle.mdcc_theorem_clusters.specs.Asked.{AreAskedFor, WasReceived}
use Rattle.mdcc_config.specs.IsConfig.{IsConfig}
use Rattle.mdcc_config.specs.declared.config.Config.{Config}
use Rattle.mdcc_def_ledger.specs.Ledger.{Entry, facts_of}
use Rattle.mdcc_def_messages.specs.declared.facts.Fact.{Fact}
use Rattle.mdcc_def_messages.specs.declared.messages.Envelope.{Envelope}
use Rattle.mdcc_def_messages.specs.declared.messages.Message.{Message}
use Rattle.mdcc_def_protocol.specs.IsCluster.{IsCluster}
use Rattle.mdcc_def_server_runs.specs.Acts.{Act}
use Rattle.mdcc_def_server_runs.specs.declared.lines.ServerLine.{ServerLine}
use Rattle.mdcc_theorem_trace_states.specs.MessageMeaning.{Says, TrueWhenSent}
use Rattle.mdcc_theorem_trace_states.proofs.Lists.{Each-like}
use Rattle.mdcc_theorem_clusters.proofs.Acting.{do-goes, start-goes, stop-goes}
use Rattle.mdcc_theorem_clusters.proofs.Moves.{Goes}
use Rattle.mdcc_theorem_clusters.proofs.Paid.{begun-within-steps, ledger-few}
use Rattle.mdcc_theorem_clusters.proofs.Standing.{IsLogged, IsRight, IsRightDone, log-facts}
use Rattle.mdcc_theorem_clusters.proofs.Turning.{cut-goes, last-goes, turn-goes}
use Rattle.mdcc_theorem_clusters.specs.Answers.{IsAnswered}
use Rattle.mdcc_theorem_clusters.specs.Clusters.{Deployment, Move, after_move, after_moves, log_of, not_started}
use Rattle.mdcc_theorem_clusters.specs.Executions.{AreWithinLimits, IsExecution, MayMove, IsTrueAct, IsTrueBy, IsTrueExecution, IsTrueMessage, Laws}
use Rattle.mdcc_theorem_clusters.specs.Mail.{Mail}

-- ---- moves

module _ (laws : Laws) (config : Config) (cluster : IsCluster config.cluster) where
  move-goes : (state : Deployment) (move : Move) → Goes config state → AreWithinLimits state → MayMove state move → AreWithinLimits (after_move config state move) → Goes config (after_move config state move)
  move-goes state (Move.Start a) g within came next = start-goes laws config cluster state a within g.es g.mail g.stands (state.process a)
  move-goes state (Move.Turn a given) g within came next = turn-goes laws config state a g.es g.mail g.stands given came (state.process a) refl next
  move-goes state (Move.Flush a) g within came next = last-goes laws config state a g.es g.mail g.stands (state.process a) refl next
  move-goes state (Move.Cut a given few) g within came next = cut-goes laws config state a g.es g.mail g.stands few given came (state.process a) refl next
  move-goes state (Move.Do a) g within came next = do-goes laws config cluster state a within g.es g.mail g.stands (state.process a) refl
  move-goes state (Move.Stop a logged) g within came next = stop-goes laws config cluster state a within g.es g.mail g.stands logged (state.process a) refl

  within-first : (state : Deployment) (moves : List Move) → IsExecution config state moves → AreWithinLimits state
  within-first state [] h = h
  within-first state (move ∷ moves) h = h.0

  moves-go : (state : Deployment) (moves : List Move) → Goes config state → IsExecution config state moves → Goes config (after_moves config state moves)
  moves-go state [] g h = g
  moves-go state (move ∷ moves) g h =
      let next : Deployment = after_move config state move in
      moves-go next moves (move-goes state move g h.0 h.1 (within-first next moves h.2)) h.2

  start : Goes config not_started
  start = record {
    es = [];
    mail = [];
    stands = record {
      sound = record { sizes = cluster.quorums; legal = tt; placed = λ k v b t a x g. absurd (cc); more = laws.good.none };
      durable = refl;
      done = tt;
      mail_stands = record { are = record { each = tt; once = λ one other i j s. absurd i }; come = tt };
      begun = record { named = []; each = λ a tx choices i. absurd i; once = λ tx other serial i j c e. absurd i };
      known = λ a p is. absurd (cc);
      old = tt;
      paid = λ a. record { begun = omega arith; plain = omega arith };
      logs = λ a. record { allowed = refl; formed = tt };
      processes = λ a p is. absurd (cc);
    };
  }

-- ---- what is said of it

-- no centre's own message is an answer to a client
told-mail : (config : Config) (done : List (ℕ × Act)) (es old : List Entry) (epoch : ℕ) (envelope : Envelope) (message : Message) → TrueWhenSent config.cluster es envelope → Says config.cluster old envelope.from message → IsTrueMessage config done es epoch envelope message
told-mail config done es old epoch envelope (Message.ClientAnswer serial answer) t s = absurd s
told-mail config done es old epoch envelope (Message.ClientRead serial key) t s = t
told-mail config done es old epoch envelope (Message.ClientBegin serial parts) t s = t
told-mail config done es old epoch envelope (Message.Propose choice) t s = t
told-mail config done es old epoch envelope (Message.Lead choice) t s = t
told-mail config done es old epoch envelope (Message.Voted key version ballot tx mark) t s = t
told-mail config done es old epoch envelope (Message.Outcome tx outcome) t s = t
told-mail config done es old epoch envelope (Message.Prepare key version through ballot) t s = t
told-mail config done es old epoch envelope (Message.Promise key version through ballot reported votes) t s = t
told-mail config done es old epoch envelope (Message.Accept key version ballot options) t s = t
told-mail config done es old epoch envelope (Message.SyncGive key version item adds) t s = t
told-mail config done es old epoch envelope (Message.Refused key version ballot promised) t s = t
told-mail config done es old epoch envelope (Message.Escalate key version tx cause) t s = t
told-mail config done es old epoch envelope (Message.Ask tx key version) t s = t
told-mail config done es old epoch envelope (Message.SyncAsk key) t s = t
told-mail config done es old epoch envelope (Message.Mark origin era upto) t s = t
told-mail config done es old epoch envelope (Message.Finished ended) t s = t

answer-mail : (config : Config) (done : List (ℕ × Act)) (es : List Entry) (a epoch : ℕ) (envelope : Envelope) → IsAnswered config (WasReceived done) es a epoch envelope → IsTrueMessage config done es epoch envelope envelope.message
answer-mail config done es a epoch envelope answer = subst (λ (z : Envelope). IsTrueMessage config done es epoch z z.message) (sym answer.is) answer.told

true-line : (config : Config) (done : List (ℕ × Act)) (es : List Entry) (mail : List Mail) (a : ℕ) (line : ServerLine) → IsRight config (WasReceived done) es mail a (Act.Print line) → IsTrueBy config done es mail a (Act.Print line)
true-line config done es mail a (ServerLine.Heard centre tx is_commit) h = h
true-line config done es mail a (ServerLine.Booted centre epoch) h = tt
true-line config done es mail a (ServerLine.Done turns steps dropped lost) h = tt

true-act : (config : Config) (done : List (ℕ × Act)) (es : List Entry) (mail : List Mail) (a : ℕ) (act : Act) → IsRight config (WasReceived done) es mail a act → IsTrueBy config done es mail a act
true-act config done es mail a (Act.Send from to bytes answer) h = record {
  piece = h.piece;
  sender = h.sender;
  told = elim h.told [ inl t ↦ told-mail config done es t.old h.piece.one.0.epoch h.piece.one.1 h.piece.one.1.message t t.says | inr answer ↦ answer-mail config done es a h.piece.one.0.epoch h.piece.one.1 answer ];
}
true-act config done es mail a (Act.Print line) h = true-line config done es mail a line h
true-act config done es mail a (Act.Bind at address) h = tt
true-act config done es mail a (Act.Receive at gave) h = tt
true-act config done es mail a (Act.Append centre facts) h = tt
true-act config done es mail a Act.Stepped h = tt
true-act config done es mail a Act.Dropped h = tt
true-act config done es mail a Act.Unsent h = tt

pub execution-true : Laws → (config : Config) → IsConfig config → (moves : List Move) → IsExecution config not_started moves
    → (ledger : List Entry) × IsTrueExecution config (after_moves config not_started moves).done (after_moves config not_started moves).durable ledger
    × AreAskedFor config (after_moves config not_started moves).done ledger
execution-true laws config is moves h =
    let cluster : IsCluster config.cluster = record { quorums = is.quorums; schema = is.schema; range = is.gamma; some_cells = is.some_cells; cells = is.cells } in
    let g = moves-go laws config cluster not_started moves (start laws config cluster) h in
    let state : Deployment = after_moves config not_started moves in (
      g.es,
      record {
        mail = g.mail;
        facts = g.stands.durable;
        sound = g.stands.sound;
        heads = g.stands.mail_stands.are;
        begun = begun-within-steps g.es state.done g.stands.paid;
        few = ledger-few g.es state.durable state.done g.stands.durable g.stands.paid;
        acts = Each-like (IsRightDone config (WasReceived state.done) g.es g.mail) (IsTrueAct config state.done g.es g.mail) state.done (λ one r. true-act config state.done g.es g.mail one.0 one.1 r) g.stands.done;
      },
      g.stands.begun,
    )

-- a log in an execution has facts that its centre may have added
pub execution-logged : Laws → (config : Config) → IsConfig config → (moves : List Move) → IsExecution config not_started moves → (a : ℕ) → IsLogged config.cluster (log_of (after_moves config not_started moves).durable a)
execution-logged laws config is moves h a =
    let cluster : IsCluster config.cluster = record { quorums = is.quorums; schema = is.schema; range = is.gamma; some_cells = is.some_cells; cells = is.cells } in
    let g = moves-go laws config cluster not_started moves (start laws config cluster) h in
    let here : facts_of g.es a ≡ log_of (after_moves config not_started moves).durable a = sym (log-facts g.es a) ∙ ap (λ (durable : List (ℕ × Fact)). log_of durable a) g.stands.durable in
    subst (IsLogged config.cluster) here (g.stands.logs a)
