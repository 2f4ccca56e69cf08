-- What is pending for clients lasts while a centre makes more.
use Rattle.std.proofs.Common.{Bool, List, None, Ok, Option, Result, Some, [], ap, append-nil, append_assoc, inl, inr, refl, subst, sym, true, ℕ, ◌++◌, ◌∙◌, ◌∷◌, ◌≡◌, ◌⊎◌}
use Rattle.std.specs.List.{AllByRecursion}
use Rattle.std.specs.Map.{lookup}
use Rattle.indexmap.specs.IndexMap.{insert_entry}
use Rattle.std.proofs.lemmas.Bool.{cases_Bool}
use Rattle.mdcc_base.specs.declared.identifiers.TxId.{TxId}
use Rattle.mdcc_base.specs.declared.key.Key.{Key}
use Rattle.mdcc_config.specs.declared.config.Config.{Config}
use Rattle.mdcc_def_ledger.specs.Ledger.{Entry}
use Rattle.mdcc_def_messages.specs.declared.facts.Fact.{Fact}
use Rattle.mdcc_def_messages.specs.declared.messages.ClientAnswer.{ClientAnswer}
use Rattle.mdcc_def_messages.specs.declared.messages.Envelope.{Envelope}
use Rattle.mdcc_option.specs.Transaction.{choices_of}
use Rattle.mdcc_option.specs.declared.choices.Choice.{Choice}
use Rattle.mdcc_option.specs.declared.cluster.Cluster.{Cluster}
use Rattle.mdcc_option.specs.declared.faults.BeginFault.{BeginFault}
use Rattle.mdcc_option.specs.declared.items.Part.{Part}
use Rattle.mdcc_def_protocol.specs.Facts.{epoch_of}
use Rattle.mdcc_option.specs.declared.items.Known.{Known}
use Rattle.mdcc_def_protocol.specs.Manager
use Rattle.mdcc_def_protocol.specs.Marks.{is_commit}
use Rattle.mdcc_def_protocol.specs.Volatile.{Managing}
use Rattle.mdcc_def_rules.specs.Steps.{NodeStep, heard_by, with_new}
use Rattle.mdcc_def_rules.specs.declared.node.Input.{Input}
use Rattle.mdcc_def_rules.specs.declared.node.StepFault.{StepFault}
use Rattle.mdcc_theorem_server_runs.proofs.Epoch.{run_keeps}
use Rattle.mdcc_theorem_server_runs.specs.Told.{IsEnvelopeOf}
use Rattle.mdcc_def_server_runs.specs.Runs.{NodeState, after_run, after_step, messages_sent, step_on}
use Rattle.mdcc_def_server_runs.specs.Sites.{Site}
use Rattle.mdcc_theorem_trace_states.specs.Words.{In}
use Rattle.mdcc_theorem_clusters.proofs.Clients.{Kept}
use Rattle.mdcc_theorem_commit_groups.proofs.Durable.{steps-cons}
use Rattle.mdcc_theorem_clusters.specs.Answers.{HasHeard, IsBegunOnceDurable, IsOwedOnceDurable, IsMadeFor, IsTrueOnceDurable, WasShown}
use Rattle.mdcc_theorem_commit_groups.specs.Groups.{entries_made, entries_made_by}

-- ---- lists

pub In-before : {A : Type 0} (x : A) (xs ys : List A) → In x xs → In x (xs ++ ys)
In-before x [] ys h = absurd h
In-before x (z ∷ xs) ys h = elim h [ inl e ↦ inl e | inr r ↦ inr (In-before x xs ys r) ]

pub In-after : {A : Type 0} (x : A) (xs ys : List A) → In x ys → In x (xs ++ ys)
In-after x [] ys h = h
In-after x (z ∷ xs) ys h = inr (In-after x xs ys h)

pub all-like : {X : Type 0} (P Q : X → Type 0) (xs : List X) → ((x : X) → P x → Q x) → AllByRecursion P xs → AllByRecursion Q xs
all-like P Q [] f h = tt
all-like P Q (x ∷ xs) f h = (f x h.0, all-like P Q xs f h.1)

pub all-both : {X : Type 0} (P : X → Type 0) (xs ys : List X) → AllByRecursion P xs → AllByRecursion P ys → AllByRecursion P (xs ++ ys)
all-both P [] ys h k = k
all-both P (x ∷ xs) ys h k = (h.0, all-both P xs ys h.1 k)

pub one-left : (xs ys : List Envelope) (m : Envelope) → IsEnvelopeOf xs m → IsEnvelopeOf (xs ++ ys) m
one-left [] ys m h = absurd h
one-left (x ∷ xs) ys m h = elim h [ inl e ↦ inl e | inr r ↦ inr (one-left xs ys m r) ]

pub one-right : (xs ys : List Envelope) (m : Envelope) → IsEnvelopeOf ys m → IsEnvelopeOf (xs ++ ys) m
one-right [] ys m h = h
one-right (x ∷ xs) ys m h = inr (one-right xs ys m h)

pub each-one : (xs : List Envelope) → AllByRecursion (IsEnvelopeOf xs) xs
each-one [] = tt
each-one (x ∷ xs) = (inl refl, all-like (IsEnvelopeOf xs) (IsEnvelopeOf (x ∷ xs)) xs (λ m h. inr h) (each-one xs))

-- what is found after an insert is the new value at its key, or was there
pub found-insert : {K V : Type 0} (eq : K → K → Bool) → ((x y : K) → eq x y ≡ true → x ≡ y) → (es : List (K × V)) (k : K) (v : V) (t : K) (one : V)
    → lookup (eq t) (insert_entry eq es k v) ≡ Some one → ((t ≡ k) × (one ≡ v)) ⊎ (lookup (eq t) es ≡ Some one)
found-insert eq sound [] k v t one h =
    elim (cases_Bool (eq t k)) [
      | inl e ↦ let g : Some v ≡ Some one = rw e at h in let s : one ≡ v = cc in inl (sound t k e, s)
      | inr e ↦ let g : None ≡ Some one = rw e at h in absurd (cc)
    ]
found-insert {K = K} {V = V} eq sound (x ∷ es) k v t one h =
    elim (cases_Bool (eq k x.0)) [
      | inl e ↦ let g : lookup (eq t) ((x.0, v) ∷ es) ≡ Some one = rw e at h in
          elim (cases_Bool (eq t x.0)) [
            | inl f ↦ let i : Some v ≡ Some one = rw f at g in let s : one ≡ v = cc in inl (sound t x.0 f ∙ sym (sound k x.0 e), s)
            | inr f ↦ let i : lookup (eq t) es ≡ Some one = rw f at g in inr (rw f i)
          ]
      | inr e ↦ let g : lookup (eq t) (x ∷ insert_entry eq es k v) ≡ Some one = rw e at h in
          elim (cases_Bool (eq t x.0)) [
            | inl f ↦ let i : Some x.1 ≡ Some one = rw f at g in inr (rw f i)
            | inr f ↦ let i : lookup (eq t) (insert_entry eq es k v) ≡ Some one = rw f at g in
                elim (found-insert eq sound es k v t one i) [ inl new ↦ inl new | inr old ↦ inr (rw f old) ]
          ]
    ]

-- ---- one more step

pub messages-more : (xs ys : List (Result NodeStep StepFault)) → messages_sent (xs ++ ys) ≡ messages_sent xs ++ messages_sent ys
messages-more [] ys = refl
messages-more (x ∷ xs) ys =
    steps-cons (λ step. step.sends) x (xs ++ ys)
    ∙ (ap (λ (zs : List Envelope). messages_sent (x ∷ []) ++ zs) (messages-more xs ys)
    ∙ (sym (append_assoc (messages_sent (x ∷ [])) (messages_sent xs) (messages_sent ys))
    ∙ ap (λ (zs : List Envelope). zs ++ messages_sent ys) (sym (steps-cons (λ step. step.sends) x xs))))

pub entries-more : (a : ℕ) (xs ys : List (Result NodeStep StepFault)) → entries_made a (xs ++ ys) ≡ entries_made a ys ++ entries_made a xs
entries-more a [] ys = sym (append-nil (entries_made a ys))
entries-more a (x ∷ xs) ys =
    ap (λ (es : List Entry). es ++ entries_made_by a x) (entries-more a xs ys) ∙ append_assoc (entries_made a ys) (entries_made a xs) (entries_made_by a x)

pub after-more : (cluster : Cluster) (a : ℕ) (node : NodeState) (xs ys : List Input) → after_run cluster a node (xs ++ ys) ≡ after_run cluster a (after_run cluster a node xs) ys
after-more cluster a node [] ys = refl
after-more cluster a node (x ∷ xs) ys = after-more cluster a (after_step node (step_on cluster a node x)) xs ys

-- what was heard and shown by these facts was so by those
pub record Grows (facts more : List Fact) : Type 0 where
  pub heard : (tx : TxId) (commits : Bool) → HasHeard facts tx commits → HasHeard more tx commits
  pub shown : (known : Known) → WasShown facts known → WasShown more known

pub grows-same : (facts : List Fact) → Grows facts facts
grows-same facts = record { heard = λ tx c h. h; shown = λ known h. h }

pub grows-new : (facts : List Fact) (o : Option Fact) → epoch_of (with_new facts o) ≡ epoch_of facts → Grows facts (with_new facts o)
grows-new facts None keeps = grows-same facts
grows-new facts (Some fact) keeps = record {
  heard = λ tx c h. record { outcome = h.outcome; one_of = inr h.one_of; same = h.same };
  shown = λ known h. record { old = h.old; tail = inr h.tail; shown = h.shown; life = h.life ∙ sym keeps };
}

-- a step begins no epoch
pub step-keeps : (cluster : Cluster) (a : ℕ) (node : NodeState) (input : Input) (step : NodeStep) → step_on cluster a node input ≡ Ok step → epoch_of (with_new node.facts step.fact) ≡ epoch_of node.facts
step-keeps cluster a node input step e = ap (λ (r : Result NodeStep StepFault). epoch_of (after_step node r).facts) (sym e) ∙ run_keeps cluster a node (input ∷ [])

-- an outcome that a new fact tells is heard
pub heard-new : (o : Option Fact) (facts : List Fact) (tx : TxId) (commits : Bool) → heard_by o ≡ Some (tx, commits) → HasHeard (with_new facts o) tx commits
heard-new None facts tx commits e = absurd (cc)
heard-new (Some (Fact.Heard t outcome)) facts tx commits e =
    let both : (tx, commits) ≡ (t, is_commit outcome) = cc in
    let s : tx ≡ t = ap (λ (z : TxId × Bool). z.0) both in
    let c : commits ≡ is_commit outcome = ap (λ (z : TxId × Bool). z.1) both in
    record { outcome = outcome; one_of = inl (ap (λ (z : TxId). Fact.Heard z outcome) s); same = c }
heard-new (Some (Fact.Booted n)) facts tx commits e = absurd (cc)
heard-new (Some (Fact.Floor origin era upto)) facts tx commits e = absurd (cc)
heard-new (Some (Fact.Promised k lo hi m)) facts tx commits e = absurd (cc)
heard-new (Some (Fact.Voted k v m os off)) facts tx commits e = absurd (cc)
heard-new (Some (Fact.Adopted k v it ds)) facts tx commits e = absurd (cc)

module _ (config : Config) (G : ℕ → List ℕ → Type 0) (es : List Entry) (a : ℕ) where
  pub begun-more : (made more : List (Result NodeStep StepFault)) (serial : ℕ) (tx : TxId) → IsBegunOnceDurable config G es a made serial tx → IsBegunOnceDurable config G es a (made ++ more) serial tx
  begun-more made more serial tx h = record {
    parts = h.parts;
    asked = h.asked;
    formed = h.formed;
    begun = elim h.begun [
      | inl now ↦ inl now
      | inr soon ↦ inr (subst (λ (xs : List Entry). In (Entry.Begun a tx (choices_of tx h.parts)) xs) (sym (entries-more a made more)) (In-after _ (entries_made a more) (entries_made a made) soon))
    ];
  }

  pub soon-more : (made more : List (Result NodeStep StepFault)) (facts later : List Fact) → Grows facts later → (serial : ℕ) (answer : ClientAnswer) → IsTrueOnceDurable config G es a made facts serial answer
      → IsTrueOnceDurable config G es a (made ++ more) later serial answer
  soon-more made more facts later grows serial (ClientAnswer.Heard tx is_commit) h = (grows.heard tx is_commit h.0, begun-more made more serial tx h.1)
  soon-more made more facts later grows serial (ClientAnswer.Read key token item due) h = (grows.shown (record { key = key; token = token; item = item }) h.0, h.1)
  soon-more made more facts later grows serial (ClientAnswer.Begun tx) h = begun-more made more serial tx h
  soon-more made more facts later grows serial (ClientAnswer.Refused key fault) h = h
  soon-more made more facts later grows serial (ClientAnswer.Draft fault) h = h

  pub owed-more : (made more : List (Result NodeStep StepFault)) (facts later : List Fact) → Grows facts later → (m : Envelope) → IsOwedOnceDurable config G es a made facts m → IsOwedOnceDurable config G es a (made ++ more) later m
  owed-more made more facts later grows m h =
      elim h [
        | inl one ↦ inl (subst (λ (xs : List Envelope). IsEnvelopeOf xs m) (sym (messages-more made more)) (one-left (messages_sent made) (messages_sent more) m one))
        | inr answer ↦ inr (record { serial = answer.serial; answer = answer.answer; is = answer.is; soon = soon-more made more facts later grows answer.serial answer.answer answer.soon; formed = answer.formed })
      ]

  pub sends-owed : (made : List (Result NodeStep StepFault)) (step : NodeStep) (facts : List Fact) → AllByRecursion (IsOwedOnceDurable config G es a (made ++ Ok step ∷ []) facts) step.sends
  sends-owed made step facts =
      all-like (IsEnvelopeOf step.sends) (IsOwedOnceDurable config G es a (made ++ Ok step ∷ []) facts) step.sends
      (λ m h. inl (subst (λ (xs : List Envelope). IsEnvelopeOf xs m) (sym (messages-more made (Ok step ∷ [])))
      (one-right (messages_sent made) (step.sends ++ []) m (one-left step.sends [] m h)))) (each-one step.sends)

-- ---- what is begun

-- by the manager in its epoch
pub begin-names : (me epoch : ℕ) (facts : List Fact) (manager : Managing) (parts : List Part) (tx : TxId) (after : Managing) → Manager.begin me epoch facts manager parts ≡ Ok (tx, after) → (tx.centre ≡ me) × (tx.epoch ≡ epoch)
begin-names me epoch facts manager parts tx after e = by-fault (Manager.begin_fault facts manager parts) e
  where
    by-fault : (o : Option (Key × BeginFault)) → Manager.begin_with me epoch manager parts o ≡ Ok (tx, after) → (tx.centre ≡ me) × (tx.epoch ≡ epoch)
    by-fault None f =
        let both : Manager.begun_transaction me epoch manager parts ≡ (tx, after) = cc in
        let name : (Manager.begun_transaction me epoch manager parts).0 ≡ tx = ap (λ (z : TxId × Managing). z.0) both in
        (ap (λ (z : TxId). z.centre) (sym name), ap (λ (z : TxId). z.epoch) (sym name))
    by-fault (Some fault) f = absurd (cc)

-- and it is still found then
pub made-later : (config : Config) (G : ℕ → List ℕ → Type 0) (a : ℕ) (site next : Site) → Kept site next → epoch_of next.node.facts ≡ epoch_of site.node.facts
    → (tx : TxId) (choices : List Choice) → IsMadeFor config G a site tx choices → IsMadeFor config G a next tx choices
made-later config G a site next kept same tx choices h = record {
  serial = h.serial;
  parts = h.parts;
  asked = h.asked;
  are = h.are;
  found = kept h.serial tx h.found;
  centre = h.centre;
  epoch = h.epoch ∙ sym same;
}
