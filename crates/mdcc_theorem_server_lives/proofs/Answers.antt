-- What is true of acts is true of them whatever the link answered to sends.
use Rattle.std.proofs.Common.{List, Some, [], ap, inl, inr, refl, sym, ℕ, ◌+◌, ◌∙◌, ◌∷◌, ◌≡◌}
use Rattle.std.specs.List.{AllByRecursion}
use Rattle.mdcc_config.specs.declared.config.Config.{Config}
use Rattle.mdcc_def_ledger.specs.Ledger.{Entry}
use Rattle.mdcc_def_messages.specs.declared.facts.Fact.{Fact}
use Rattle.mdcc_def_messages.specs.declared.messages.ClientAnswer.{ClientAnswer}
use Rattle.mdcc_def_messages.specs.declared.messages.Envelope.{Envelope}
use Rattle.mdcc_def_messages.specs.declared.messages.Message.{Message}
use Rattle.mdcc_def_server_runs.specs.Acts.{Act, but_answer, steps_by}
use Rattle.mdcc_def_server_runs.specs.declared.lines.ServerLine.{ServerLine}
use Rattle.mdcc_theorem_trace_states.specs.Words.{Each}
use Rattle.mdcc_theorem_clusters.specs.Answers.{IsTrueAnswer}
use Rattle.mdcc_theorem_clusters.specs.Asked.{AreAskedFor, CameAsked, WasReceived}
use Rattle.mdcc_theorem_clusters.specs.Executions.{IsTrueAct, IsTrueBy, IsTrueExecution, IsTrueMessage}
use Rattle.mdcc_theorem_clusters.specs.Limits.{steps_done}
use Rattle.mdcc_theorem_clusters.specs.Mail.{Mail}
use Rattle.mdcc_theorem_clusters.proofs.Answered.{under-more}
use Rattle.mdcc_theorem_server_lives.specs.Histories.{but_all_answers}

-- ---- what was received

receive-is : (at : ℕ) (bytes : List ℕ) (act : Act) → Act.Receive at (Some bytes) ≡ but_answer act → act ≡ Act.Receive at (Some bytes)
receive-is at bytes (Act.Receive there gave) e = sym e
receive-is at bytes (Act.Bind there address) e = absurd (cc)
receive-is at bytes (Act.Append centre facts) e = absurd (cc)
receive-is at bytes (Act.Send from to sent answer) e = absurd (cc)
receive-is at bytes (Act.Print line) e = absurd (cc)
receive-is at bytes Act.Stepped e = absurd (cc)
receive-is at bytes Act.Dropped e = absurd (cc)
receive-is at bytes Act.Unsent e = absurd (cc)

received-back : (done : List (ℕ × Act)) (a : ℕ) (bytes : List ℕ) → WasReceived (but_all_answers done) a bytes → WasReceived done a bytes
received-back [] a bytes i = i
received-back (one ∷ done) a bytes i =
    elim i [
      | inl e ↦
          let centre : a ≡ one.0 = ap (λ (z : ℕ × Act). z.0) e in
          let act : Act.Receive (a + 16) (Some bytes) ≡ but_answer one.1 = ap (λ (z : ℕ × Act). z.1) e in
          let receive : Act = Act.Receive (a + 16) (Some bytes) in
          inl (ap (λ (z : ℕ). (z, receive)) centre ∙ ap (λ (z : Act). (one.0, z)) (sym (receive-is (a + 16) bytes one.1 act)))
      | inr r ↦ inr (received-back done a bytes r)
    ]

all-back : {X : Type 0} (P Q : X → Type 0) (xs : List X) → ((x : X) → P x → Q x) → AllByRecursion P xs → AllByRecursion Q xs
all-back P Q [] f h = tt
all-back P Q (x ∷ xs) f h = (f x h.0, all-back P Q xs f h.1)

-- ---- answers

module _ (config : Config) (G H : ℕ → List ℕ → Type 0) (a : ℕ) (into : (bytes : List ℕ) → G a bytes → H a bytes) where
  came-then : (message : Message) → CameAsked G a message → CameAsked H a message
  came-then message h = record { datagrams = h.datagrams; received = all-back (G a) (H a) h.datagrams into h.received; envelope = h.envelope; is = h.is; formed = h.formed; came = h.came }

  answer-then : (es : List Entry) (epoch serial : ℕ) (answer : ClientAnswer) → IsTrueAnswer config G es a epoch serial answer → IsTrueAnswer config H es a epoch serial answer
  answer-then es epoch serial (ClientAnswer.Heard tx is_commit) h = (h.0, record { parts = h.1.parts; asked = under-more config G H a into serial h.1.parts h.1.asked; begun = h.1.begun })
  answer-then es epoch serial (ClientAnswer.Read key token item due) h = (h.0, came-then (Message.ClientRead serial key) h.1)
  answer-then es epoch serial (ClientAnswer.Begun tx) h = record { parts = h.parts; asked = under-more config G H a into serial h.parts h.asked; begun = h.begun }
  answer-then es epoch serial (ClientAnswer.Refused key fault) h = record { parts = h.parts; asked = under-more config G H a into serial h.parts h.asked }
  answer-then es epoch serial (ClientAnswer.Draft fault) h = record { asked = h.asked; request = came-then (Message.ClientBegin serial h.asked) h.request; makes = h.makes }

-- ---- acts

module _ (config : Config) (done : List (ℕ × Act)) (es : List Entry) where
  message-back : (epoch : ℕ) (envelope : Envelope) (message : Message) → IsTrueMessage config (but_all_answers done) es epoch envelope message → IsTrueMessage config done es epoch envelope message
  message-back epoch envelope (Message.ClientAnswer serial answer) h =
      answer-then config (WasReceived (but_all_answers done)) (WasReceived done) envelope.from (λ bytes r. received-back done envelope.from bytes r) es epoch serial answer h
  message-back epoch envelope (Message.ClientRead serial key) h = h
  message-back epoch envelope (Message.ClientBegin serial parts) h = h
  message-back epoch envelope (Message.Propose choice) h = h
  message-back epoch envelope (Message.Lead choice) h = h
  message-back epoch envelope (Message.Voted key version ballot tx mark) h = h
  message-back epoch envelope (Message.Outcome tx outcome) h = h
  message-back epoch envelope (Message.Prepare key version through ballot) h = h
  message-back epoch envelope (Message.Promise key version through ballot reported votes) h = h
  message-back epoch envelope (Message.Accept key version ballot options) h = h
  message-back epoch envelope (Message.SyncGive key version item adds) h = h
  message-back epoch envelope (Message.Refused key version ballot promised) h = h
  message-back epoch envelope (Message.Escalate key version tx cause) h = h
  message-back epoch envelope (Message.Ask tx key version) h = h
  message-back epoch envelope (Message.SyncAsk key) h = h
  message-back epoch envelope (Message.Mark origin era upto) h = h
  message-back epoch envelope (Message.Finished ended) h = h

  line-back : (mail : List Mail) (a : ℕ) (line : ServerLine) → IsTrueBy config (but_all_answers done) es mail a (Act.Print line) → IsTrueBy config done es mail a (Act.Print line)
  line-back mail a (ServerLine.Heard centre tx is_commit) h = h
  line-back mail a (ServerLine.Booted centre epoch) h = tt
  line-back mail a (ServerLine.Done turns steps dropped lost) h = tt

  act-back : (mail : List Mail) (a : ℕ) (act : Act) → IsTrueBy config (but_all_answers done) es mail a (but_answer act) → IsTrueBy config done es mail a act
  act-back mail a (Act.Send from to bytes answer) h = record {
    piece = h.piece;
    sender = h.sender;
    told = message-back h.piece.one.0.epoch h.piece.one.1 h.piece.one.1.message h.told;
  }
  act-back mail a (Act.Print line) h = line-back mail a line h
  act-back mail a (Act.Bind at address) h = tt
  act-back mail a (Act.Receive at gave) h = tt
  act-back mail a (Act.Append centre facts) h = tt
  act-back mail a Act.Stepped h = tt
  act-back mail a Act.Dropped h = tt
  act-back mail a Act.Unsent h = tt

  acts-back : (mail : List Mail) (acts : List (ℕ × Act)) → Each (IsTrueAct config (but_all_answers done) es mail) (but_all_answers acts) → Each (IsTrueAct config done es mail) acts
  acts-back mail [] h = tt
  acts-back mail (one ∷ acts) h = (act-back mail one.0 one.1 h.0, acts-back mail acts h.1)

-- ---- steps

same-steps : (act : Act) → steps_by (but_answer act) ≡ steps_by act
same-steps (Act.Send from to bytes answer) = refl
same-steps (Act.Print line) = refl
same-steps (Act.Bind at address) = refl
same-steps (Act.Receive at gave) = refl
same-steps (Act.Append centre facts) = refl
same-steps Act.Stepped = refl
same-steps Act.Dropped = refl
same-steps Act.Unsent = refl

steps-back : (done : List (ℕ × Act)) → steps_done (but_all_answers done) ≡ steps_done done
steps-back [] = refl
steps-back (one ∷ done) = ap (λ (n : ℕ). n + steps_done (but_all_answers done)) (same-steps one.1) ∙ ap (λ (n : ℕ). steps_by one.1 + n) (steps-back done)

-- ---- all

pub true-back : (config : Config) (done : List (ℕ × Act)) (durable : List (ℕ × Fact)) (ledger : List Entry) → IsTrueExecution config (but_all_answers done) durable ledger → IsTrueExecution config done durable ledger
true-back config done durable ledger h = record {
  mail = h.mail;
  facts = h.facts;
  sound = h.sound;
  heads = h.heads;
  begun = rw (sym (steps-back done)) h.begun;
  few = rw (sym (steps-back done)) h.few;
  acts = acts-back config done ledger h.mail done h.acts;
}

pub asked-back : (config : Config) (done : List (ℕ × Act)) (ledger : List Entry) → AreAskedFor config (but_all_answers done) ledger → AreAskedFor config done ledger
asked-back config done ledger h = record {
  named = h.named;
  each = λ a tx choices i.
      let one = h.each a tx choices i in
      record {
        serial = one.serial;
        name = one.name;
        parts = one.parts;
        asked = under-more config (WasReceived (but_all_answers done)) (WasReceived done) a (λ bytes r. received-back done a bytes r) one.serial one.parts one.asked;
        are = one.are;
      };
  once = h.once;
}
