-- Answers that are pending are true when the group is in the ledger, and lasts while other centres' entries come.
use Rattle.std.proofs.Common.{List, Result, [], ap, inl, inr, refl, sym, ℕ, ◌++◌, ◌==◌, ◌∙◌, ◌∷◌, ◌≡◌}
use Rattle.std.specs.List.{AllByRecursion}
use Rattle.std.proofs.lemmas.Bool.{cases_Bool, eqb-true}
use Rattle.mdcc_base.specs.declared.identifiers.TxId.{TxId}
use Rattle.mdcc_config.specs.declared.config.Config.{Config}
use Rattle.mdcc_def_ledger.specs.Ledger.{Added, Entry, Valued, facts_of}
use Rattle.mdcc_def_messages.specs.declared.facts.Fact.{Fact}
use Rattle.mdcc_def_messages.specs.declared.messages.ClientAnswer.{ClientAnswer}
use Rattle.mdcc_def_messages.specs.declared.messages.Envelope.{Envelope}
use Rattle.mdcc_def_messages.specs.declared.messages.Message.{Message}
use Rattle.mdcc_option.specs.declared.faults.DraftFault.{DraftFault}
use Rattle.mdcc_option.specs.declared.items.Known.{Known}
use Rattle.mdcc_option.specs.declared.items.Part.{Part}
use Rattle.mdcc_def_protocol.specs.Facts.{epoch_of}
use Rattle.mdcc_def_protocol.specs.Visible
use Rattle.mdcc_def_rules.specs.Steps.{NodeStep}
use Rattle.mdcc_def_rules.specs.declared.node.Input.{Input}
use Rattle.mdcc_def_rules.specs.declared.node.StepFault.{StepFault}
use Rattle.mdcc_def_server_runs.specs.Runs.{NodeState, run_of_inputs}
use Rattle.mdcc_def_server_runs.specs.Sites.{Site}
use Rattle.mdcc_def_simulation.specs.Clients.{known_of_reading}
use Rattle.mdcc_theorem_trace_states.specs.Words.{In, IsTail}
use Rattle.mdcc_theorem_clusters.specs.Asked.{CameAsked, WasAskedUnder}
use Rattle.mdcc_theorem_clusters.specs.Answers.{AnswersAt, IsAnswered, IsAskedUnder, IsBegunFor, IsBegunOnceDurable, IsNoDraft, IsOwedOnceDurable, IsTrueAnswer, IsTrueOnceDurable, WasReadInLife, WasShown}
use Rattle.mdcc_theorem_commit_groups.specs.Groups.{entries_made}

In-before : {A : Type 0} (x : A) (xs ys : List A) → In x xs → In x (xs ++ ys)
In-before x [] ys h = absurd h
In-before x (z ∷ xs) ys h = elim h [ inl e ↦ inl e | inr r ↦ inr (In-before x xs ys r) ]

In-after : {A : Type 0} (x : A) (xs ys : List A) → In x ys → In x (xs ++ ys)
In-after x [] ys h = h
In-after x (z ∷ xs) ys h = inr (In-after x xs ys h)

all-like : {X : Type 0} (P Q : X → Type 0) (xs : List X) → ((x : X) → P x → Q x) → AllByRecursion P xs → AllByRecursion Q xs
all-like P Q [] f h = tt
all-like P Q (x ∷ xs) f h = (f x h.0, all-like P Q xs f h.1)

-- ---- later entries, and more that was received

module _ (config : Config) (G H : ℕ → List ℕ → Type 0) (a : ℕ) (into : (bytes : List ℕ) → G a bytes → H a bytes) where
  came-more : (message : Message) → CameAsked G a message → CameAsked H a message
  came-more message h = record { datagrams = h.datagrams; received = all-like (G a) (H a) h.datagrams into h.received; envelope = h.envelope; is = h.is; formed = h.formed; came = h.came }

  pub under-more : (serial : ℕ) (parts : List Part) → WasAskedUnder config G a serial parts → WasAskedUnder config H a serial parts
  under-more serial parts h = record { asked = h.asked; makes = h.makes; request = came-more (Message.ClientBegin serial h.asked) h.request }

  asked-more : (serial : ℕ) → IsAskedUnder config G a serial → IsAskedUnder config H a serial
  asked-more serial h = record { parts = h.parts; asked = under-more serial h.parts h.asked }

  draft-more : (serial : ℕ) (fault : DraftFault) → IsNoDraft config G a serial fault → IsNoDraft config H a serial fault
  draft-more serial fault h = record { asked = h.asked; request = came-more (Message.ClientBegin serial h.asked) h.request; makes = h.makes }

  module _ (new es : List Entry) where
    begun-for-more : (serial : ℕ) (tx : TxId) → IsBegunFor config G es a serial tx → IsBegunFor config H (new ++ es) a serial tx
    begun-for-more serial tx h = record { parts = h.parts; asked = under-more serial h.parts h.asked; begun = In-after _ new es h.begun }

    true-later : (epoch serial : ℕ) (answer : ClientAnswer) → IsTrueAnswer config G es a epoch serial answer → IsTrueAnswer config H (new ++ es) a epoch serial answer
    true-later epoch serial (ClientAnswer.Heard tx is_commit) h = (record { outcome = h.0.outcome; added = In-after _ new es h.0.added; same = h.0.same }, begun-for-more serial tx h.1)
    true-later epoch serial (ClientAnswer.Read key token item due) h =
        let read = h.0.read in (
          record {
            read = record { later = new ++ read.later; before = read.before; parts = ap (λ (xs : List Entry). new ++ xs) read.parts ∙ sym (assoc new read.later read.before); shown = read.shown };
            life = h.0.life;
          },
          came-more (Message.ClientRead serial key) h.1,
        )
      where
        assoc : (xs ys zs : List Entry) → (xs ++ ys) ++ zs ≡ xs ++ (ys ++ zs)
        assoc [] ys zs = refl
        assoc (x ∷ xs) ys zs = ap (λ (l : List Entry). x ∷ l) (assoc xs ys zs)
    true-later epoch serial (ClientAnswer.Begun tx) h = begun-for-more serial tx h
    true-later epoch serial (ClientAnswer.Refused key fault) h = asked-more serial h
    true-later epoch serial (ClientAnswer.Draft fault) h = draft-more serial fault h

    pub answered-later : (epoch : ℕ) (m : Envelope) → IsAnswered config G es a epoch m → IsAnswered config H (new ++ es) a epoch m
    answered-later epoch m h = record { serial = h.serial; answer = h.answer; is = h.is; told = true-later epoch h.serial h.answer h.told }

    begun-later : (made : List (Result NodeStep StepFault)) (serial : ℕ) (tx : TxId) → IsBegunOnceDurable config G es a made serial tx → IsBegunOnceDurable config H (new ++ es) a made serial tx
    begun-later made serial tx h = record {
      parts = h.parts;
      asked = under-more serial h.parts h.asked;
      formed = h.formed;
      begun = elim h.begun [ inl now ↦ inl (In-after _ new es now) | inr soon ↦ inr soon ];
    }

    soon-later : (made : List (Result NodeStep StepFault)) (facts : List Fact) (serial : ℕ) (answer : ClientAnswer) → IsTrueOnceDurable config G es a made facts serial answer → IsTrueOnceDurable config H (new ++ es) a made facts serial answer
    soon-later made facts serial (ClientAnswer.Heard tx is_commit) h = (h.0, begun-later made serial tx h.1)
    soon-later made facts serial (ClientAnswer.Read key token item due) h = (h.0, came-more (Message.ClientRead serial key) h.1)
    soon-later made facts serial (ClientAnswer.Begun tx) h = begun-later made serial tx h
    soon-later made facts serial (ClientAnswer.Refused key fault) h = asked-more serial h
    soon-later made facts serial (ClientAnswer.Draft fault) h = draft-more serial fault h

    owed-later : (made : List (Result NodeStep StepFault)) (facts : List Fact) (m : Envelope) → IsOwedOnceDurable config G es a made facts m → IsOwedOnceDurable config H (new ++ es) a made facts m
    owed-later made facts m h =
        elim h [
          | inl one ↦ inl one
          | inr answer ↦ inr (record { serial = answer.serial; answer = answer.answer; is = answer.is; soon = soon-later made facts answer.serial answer.answer answer.soon; formed = answer.formed })
        ]

    pub answers-later : (node : NodeState) (inputs : List Input) (site : Site) → AnswersAt config G es a node inputs site → AnswersAt config H (new ++ es) a node inputs site
    answers-later node inputs site h = record {
      centre_is = h.centre_is;
      node_is = h.node_is;
      node_formed = h.node_formed;
      mail = all-like (IsOwedOnceDurable config G es a (run_of_inputs config.cluster a node inputs) site.node.facts) (IsOwedOnceDurable config H (new ++ es) a (run_of_inputs config.cluster a node inputs) site.node.facts) site.pending.envelopes
          (λ m o. owed-later (run_of_inputs config.cluster a node inputs) site.node.facts m o) h.mail;
      begun = λ serial tx f. begun-later (run_of_inputs config.cluster a node inputs) serial tx (h.begun serial tx f);
      made_for = λ b tx choices i.
          let m = h.made_for b tx choices i in
          let f = m.1 in
          (m.0, record { serial = f.serial; parts = f.parts; asked = under-more f.serial f.parts f.asked; are = f.are; found = f.found; centre = f.centre; epoch = f.epoch });
      noted = λ tx one k. begun-later (run_of_inputs config.cluster a node inputs) one.serial tx (h.noted tx one k);
      ended = h.ended;
    }

-- ---- when the group is in the ledger

-- a fact of a centre is an entry
fact-entry : (es : List Entry) (a : ℕ) (fact : Fact) → In fact (facts_of es a) → In (Added a fact) es
fact-entry [] a fact i = absurd i
fact-entry (Added c f ∷ es) a fact i =
    elim (cases_Bool (c == a)) [
      | inl e ↦ let j : In fact (f ∷ facts_of es a) = rw e at i in
          elim j [
            | inl s ↦ inl (ap (λ (z : ℕ). Added z fact) (sym (eqb-true c a e)) ∙ ap (Added c) s)
            | inr r ↦ inr (fact-entry es a fact r)
          ]
      | inr e ↦ let j : In fact (facts_of es a) = rw e at i in inr (fact-entry es a fact j)
    ]
fact-entry (Entry.Begun c t cs ∷ es) a fact i = inr (fact-entry es a fact i)
fact-entry (Valued c k v m os ∷ es) a fact i = inr (fact-entry es a fact i)

-- the facts that a centre had once are those of the ledger at some entry
record Once (es : List Entry) (a : ℕ) (old : List Fact) : Type 0 where
  later : List Entry
  before : List Entry
  parts : es ≡ later ++ before
  facts : facts_of before a ≡ old

once-more : (e : Entry) (es : List Entry) (a : ℕ) (old : List Fact) → Once es a old → Once (e ∷ es) a old
once-more e es a old h = record { later = e ∷ h.later; before = h.before; parts = ap (λ (xs : List Entry). e ∷ xs) h.parts; facts = h.facts }

once : (es : List Entry) (a : ℕ) (old : List Fact) → IsTail old (facts_of es a) → Once es a old
once [] a old h = record { later = []; before = []; parts = refl; facts = sym h }
once (Added c f ∷ es) a old h =
    elim (cases_Bool (c == a)) [
      | inl e ↦ let g : IsTail old (f ∷ facts_of es a) = rw e at h in
          elim g [
            | inl s ↦ record { later = []; before = Added c f ∷ es; parts = refl; facts = rw e (sym s) }
            | inr r ↦ once-more (Added c f) es a old (once es a old r)
          ]
      | inr e ↦ let g : IsTail old (facts_of es a) = rw e at h in once-more (Added c f) es a old (once es a old g)
    ]
once (Entry.Begun c t cs ∷ es) a old h = once-more (Entry.Begun c t cs) es a old (once es a old h)
once (Valued c k v m os ∷ es) a old h = once-more (Valued c k v m os) es a old (once es a old h)

was-read : (es : List Entry) (a : ℕ) (known : Known) → WasShown (facts_of es a) known → WasReadInLife es a (epoch_of (facts_of es a)) known
was-read es a known h =
    let o = once es a h.old h.tail in
    record {
      read = record { later = o.later; before = o.before; parts = o.parts; shown = h.shown ∙ ap (λ (fs : List Fact). known_of_reading known.key (Visible.read fs known.key)) (sym o.facts) };
      life = ap epoch_of o.facts ∙ h.life;
    }

module _ (config : Config) (G : ℕ → List ℕ → Type 0) (es : List Entry) (a : ℕ) (made : List (Result NodeStep StepFault)) where
  for-now : (serial : ℕ) (tx : TxId) → IsBegunOnceDurable config G es a made serial tx → IsBegunFor config G (entries_made a made ++ es) a serial tx
  for-now serial tx h = record {
    parts = h.parts;
    asked = h.asked;
    begun = elim h.begun [ inl now ↦ In-after _ (entries_made a made) es now | inr soon ↦ In-before _ (entries_made a made) es soon ];
  }

  pub soon-now : (serial : ℕ) (answer : ClientAnswer) → IsTrueOnceDurable config G es a made (facts_of (entries_made a made ++ es) a) serial answer
      → IsTrueAnswer config G (entries_made a made ++ es) a (epoch_of (facts_of (entries_made a made ++ es) a)) serial answer
  soon-now serial (ClientAnswer.Heard tx is_commit) h =
      (record { outcome = h.0.outcome; added = fact-entry (entries_made a made ++ es) a (Fact.Heard tx h.0.outcome) h.0.one_of; same = h.0.same }, for-now serial tx h.1)
  soon-now serial (ClientAnswer.Read key token item due) h = (was-read (entries_made a made ++ es) a (record { key = key; token = token; item = item }) h.0, h.1)
  soon-now serial (ClientAnswer.Begun tx) h = for-now serial tx h
  soon-now serial (ClientAnswer.Refused key fault) h = h
  soon-now serial (ClientAnswer.Draft fault) h = h

  pub begun-now : (serial : ℕ) (tx : TxId) → IsBegunOnceDurable config G es a made serial tx → IsBegunOnceDurable config G (entries_made a made ++ es) a [] serial tx
  begun-now serial tx h = let now = for-now serial tx h in record { parts = now.parts; asked = now.asked; formed = h.formed; begun = inl now.begun }
