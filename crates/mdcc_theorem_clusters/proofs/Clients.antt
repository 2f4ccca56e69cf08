-- What was begun for a serial stays so in a life.
use Rattle.std.proofs.Common.{Bool, Err, List, None, Ok, Option, Result, Some, [], ap, cond, false, inl, inr, refl, subst, sym, true, ℕ, ◌∙◌, ◌∷◌, ◌≡◌}
use Rattle.std.specs.Map.{lookup}
use Rattle.std.specs.Prelude.{nat_eq}
use Rattle.std.proofs.lemmas.Bool.{cases_Bool, eq-eqb, eqb-true}
use Rattle.indexmap.specs.IndexMap.{insert_entry}
use Rattle.mdcc_base.specs.declared.identifiers.TxId.{TxId}
use Rattle.mdcc_config.specs.declared.config.Config.{Config}
use Rattle.mdcc_frag.specs.Joining.{join}
use Rattle.mdcc_def_messages.specs.declared.messages.Envelope.{Envelope}
use Rattle.mdcc_def_messages.specs.declared.messages.Message.{Message}
use Rattle.mdcc_option.specs.Transaction.{transaction_of}
use Rattle.mdcc_option.specs.declared.faults.DraftFault.{DraftFault}
use Rattle.mdcc_option.specs.declared.items.Part.{Part}
use Rattle.mdcc_def_rules.specs.Steps.{NodeStep, heard_by}
use Rattle.mdcc_def_rules.specs.declared.node.Answer.{Answer}
use Rattle.mdcc_def_rules.specs.declared.node.Input.{Input}
use Rattle.mdcc_def_rules.specs.declared.node.StepFault.{StepFault}
use Rattle.mdcc_def_server_runs.specs.Arrivals.{Arrival, arrival_of, is_not_taken}
use Rattle.mdcc_def_server_runs.specs.Clients.{Clients, begun_for, known_of, with_begun, with_end, with_end_by}
use Rattle.mdcc_def_server_runs.specs.Runs.{step_on}
use Rattle.mdcc_def_server_runs.specs.Sites.{Site, idle_site}
use Rattle.mdcc_def_server_runs.specs.Steps.{begin_made, begin_noted, begin_taken_by, draft_taken, dropped, input_made, input_taken, read_made}
use Rattle.mdcc_def_server_runs.specs.Turns.{Given, asked_arrived, asked_message, asked_received, is_silent, own_arrived, own_message, own_received, ticked, turn_inputs_taken}
use Rattle.mdcc_def_server_runs.specs.declared.clients.Begun.{Begun}

-- ---- one more

abbrev Table : Type 0
Table = List (ℕ × TxId)

insert-same : (x : ℕ × TxId) (es : Table) (k : ℕ) (v : TxId) → nat_eq k x.0 ≡ true → insert_entry nat_eq (x ∷ es) k v ≡ (x.0, v) ∷ es
insert-same x es k v e = rw e refl

insert-later : (x : ℕ × TxId) (es : Table) (k : ℕ) (v : TxId) → nat_eq k x.0 ≡ false → insert_entry nat_eq (x ∷ es) k v ≡ x ∷ insert_entry nat_eq es k v
insert-later x es k v e = rw e refl

look-here : (k : ℕ) (x : ℕ × TxId) (es : Table) → nat_eq k x.0 ≡ true → lookup (nat_eq k) (x ∷ es) ≡ Some x.1
look-here k x es e = rw e refl

look-later : (k : ℕ) (x : ℕ × TxId) (es : Table) → nat_eq k x.0 ≡ false → lookup (nat_eq k) (x ∷ es) ≡ lookup (nat_eq k) es
look-later k x es e = rw e refl

-- it is found
pub inserted-own : (es : Table) (k : ℕ) (v : TxId) → lookup (nat_eq k) (insert_entry nat_eq es k v) ≡ Some v
inserted-own [] k v = look-here k (k, v) [] (eq-eqb k k refl)
inserted-own (x ∷ es) k v =
    elim (cases_Bool (nat_eq k x.0)) [
      | inl e ↦ ap (lookup (nat_eq k)) (insert-same x es k v e) ∙ look-here k (x.0, v) es e
      | inr e ↦ ap (lookup (nat_eq k)) (insert-later x es k v e) ∙ (look-later k x (insert_entry nat_eq es k v) e ∙ inserted-own es k v)
    ]

-- and so is what was found for others
inserted-others : (es : Table) (k : ℕ) (v : TxId) (s : ℕ) → nat_eq s k ≡ false → lookup (nat_eq s) (insert_entry nat_eq es k v) ≡ lookup (nat_eq s) es
inserted-others [] k v s o = look-later s (k, v) [] o
inserted-others (x ∷ es) k v s o =
    elim (cases_Bool (nat_eq k x.0)) [
      | inl e ↦
          let other : nat_eq s x.0 ≡ false = subst (λ (z : ℕ). nat_eq s z ≡ false) (eqb-true k x.0 e) o in
          ap (lookup (nat_eq s)) (insert-same x es k v e) ∙ (look-later s (x.0, v) es other ∙ sym (look-later s x es other))
      | inr e ↦ ap (lookup (nat_eq s)) (insert-later x es k v e) ∙ elim (cases_Bool (nat_eq s x.0)) [
        | inl f ↦ look-here s x (insert_entry nat_eq es k v) f ∙ sym (look-here s x es f)
        | inr f ↦ look-later s x (insert_entry nat_eq es k v) f ∙ (inserted-others es k v s o ∙ sym (look-later s x es f))
      ]
    ]

-- where there was none for this serial
pub inserted-keeps : (clients : Clients) (serial : ℕ) (tx : TxId) → begun_for clients serial ≡ None → (s : ℕ) (t : TxId) → begun_for clients s ≡ Some t → begun_for (with_begun clients serial tx) s ≡ Some t
inserted-keeps clients serial tx free s t f =
    elim (cases_Bool (nat_eq s serial)) [
      | inl e ↦
          let same : begun_for clients serial ≡ Some t = subst (λ (z : ℕ). begun_for clients z ≡ Some t) (eqb-true s serial e) f in
          let bad : None ≡ Some t = sym free ∙ same in
          absurd (cc)
      | inr e ↦ inserted-others clients.begun serial tx s e ∙ f
    ]

pub end-begun : (clients : Clients) (heard : Option (TxId × Bool)) (serial : ℕ) → begun_for (with_end clients heard) serial ≡ begun_for clients serial
end-begun clients None serial = refl
end-begun clients (Some (tx, commits)) serial = by-known (known_of clients tx)
  where
    by-known : (o : Option Begun) → begun_for (with_end_by clients tx commits o) serial ≡ begun_for clients serial
    by-known None = refl
    by-known (Some one) = refl

-- ---- a turn

abbrev pub Kept : Site → Site → Type 0
Kept site next = (serial : ℕ) (tx : TxId) → begun_for site.clients serial ≡ Some tx → begun_for next.clients serial ≡ Some tx

kept-then : (site mid next : Site) → Kept site mid → Kept mid next → Kept site next
kept-then site mid next h k serial tx f = k serial tx (h serial tx f)

module _ (config : Config) where
  made-kept : (site : Site) (r : Result NodeStep StepFault) → Kept site (input_made site r).site
  made-kept site (Err fault) serial tx f = f
  made-kept site (Ok step) serial tx f = end-begun site.clients (heard_by step.fact) serial ∙ f

  input-kept : (site : Site) (input : Input) → Kept site (input_taken config site input).site
  input-kept site input = made-kept site (step_on config.cluster site.centre site.node input)

  own-message-kept : (site : Site) (x : Envelope) → Kept site (own_message config site x).site
  own-message-kept site x = by-kind (is_not_taken x.message)
    where
      by-kind : (b : Bool) → Kept site (cond b (dropped site) (input_taken config site (Input.Message x))).site
      by-kind true = λ serial tx f. f
      by-kind false = input-kept site (Input.Message x)

  own-arrived-kept : (site : Site) (arrival : Arrival) → Kept site (own_arrived config site arrival).site
  own-arrived-kept site Arrival.Piece = λ serial tx f. f
  own-arrived-kept site Arrival.Refused = λ serial tx f. f
  own-arrived-kept site (Arrival.Whole x) = own-message-kept site x

  own-kept : (site : Site) (gave : Option (List ℕ)) → Kept site (own_received config site gave).site
  own-kept site None serial tx f = f
  own-kept site (Some bytes) serial tx f = own-arrived-kept (record site { own = (join bytes site.own).entries }) (arrival_of (join bytes site.own).answer) serial tx f

  read-kept : (site : Site) (r : Result NodeStep StepFault) (number : ℕ) (key : List ℕ) → Kept site (read_made site number key r).site
  read-kept site (Err fault) number key serial tx f = f
  read-kept site (Ok step) number key serial tx f = f

  noted-kept : (site : Site) (number : ℕ) → begun_for site.clients number ≡ None → (answer : Option Answer) → Kept site (begin_noted site number answer)
  noted-kept site number free None serial tx f = f
  noted-kept site number free (Some (Answer.Begun new)) serial tx f = inserted-keeps site.clients number new free serial tx f
  noted-kept site number free (Some (Answer.Refused key fault)) serial tx f = f
  noted-kept site number free (Some (Answer.Read reading)) serial tx f = f

  begun-kept : (site : Site) (number : ℕ) → begun_for site.clients number ≡ None → (r : Result NodeStep StepFault) → Kept site (begin_made site number r).site
  begun-kept site number free (Err fault) serial tx f = f
  begun-kept site number free (Ok step) serial tx f = noted-kept site number free step.answer serial tx f

  draft-kept : (site : Site) (number : ℕ) → begun_for site.clients number ≡ None → (made : Result (List Part) DraftFault) → Kept site (draft_taken config site number made).site
  draft-kept site number free (Err fault) = λ serial tx f. f
  draft-kept site number free (Ok parts) = begun-kept site number free (step_on config.cluster site.centre site.node (Input.Begin parts))

  begin-kept : (site : Site) (number : ℕ) (parts : List Part) (known : Option TxId) → begun_for site.clients number ≡ known → Kept site (begin_taken_by config site number parts known).site
  begin-kept site number parts (Some old) is = λ serial tx f. f
  begin-kept site number parts None is = draft-kept site number is (transaction_of config.cluster.schema parts)

  asked-message-kept : (site : Site) (message : Message) → Kept site (asked_message config site message).site
  asked-message-kept site (Message.ClientRead serial key) = read-kept site (step_on config.cluster site.centre site.node (Input.Read key)) serial key
  asked-message-kept site (Message.ClientBegin serial parts) = begin-kept site serial parts (begun_for site.clients serial) refl
  asked-message-kept site (Message.ClientAnswer serial answer) = λ s tx f. f
  asked-message-kept site (Message.Propose choice) = λ s tx f. f
  asked-message-kept site (Message.Lead choice) = λ s tx f. f
  asked-message-kept site (Message.Voted key version ballot t mark) = λ s tx f. f
  asked-message-kept site (Message.Outcome t outcome) = λ s tx f. f
  asked-message-kept site (Message.Prepare key version through ballot) = λ s tx f. f
  asked-message-kept site (Message.Promise key version through ballot reported votes) = λ s tx f. f
  asked-message-kept site (Message.Accept key version ballot options) = λ s tx f. f
  asked-message-kept site (Message.SyncGive key version item adds) = λ s tx f. f
  asked-message-kept site (Message.Refused key version ballot promised) = λ s tx f. f
  asked-message-kept site (Message.Escalate key version t cause) = λ s tx f. f
  asked-message-kept site (Message.Ask t key version) = λ s tx f. f
  asked-message-kept site (Message.SyncAsk key) = λ s tx f. f
  asked-message-kept site (Message.Mark origin era upto) = λ s tx f. f
  asked-message-kept site (Message.Finished ended) = λ s tx f. f

  asked-arrived-kept : (site : Site) (arrival : Arrival) → Kept site (asked_arrived config site arrival).site
  asked-arrived-kept site Arrival.Piece = λ serial tx f. f
  asked-arrived-kept site Arrival.Refused = λ serial tx f. f
  asked-arrived-kept site (Arrival.Whole x) = asked-message-kept site x.message

  asked-kept : (site : Site) (gave : Option (List ℕ)) → Kept site (asked_received config site gave).site
  asked-kept site None serial tx f = f
  asked-kept site (Some bytes) serial tx f = asked-arrived-kept (record site { asked = (join bytes site.asked).entries }) (arrival_of (join bytes site.asked).answer) serial tx f

  tick-kept : (site : Site) (given : Given) → Kept site (ticked config given site).site
  tick-kept site given = by-silence (is_silent given)
    where
      by-silence : (b : Bool) → Kept site (cond b (input_taken config site Input.Tick) (idle_site site)).site
      by-silence true = input-kept site Input.Tick
      by-silence false = λ serial tx f. f

  pub turn-kept : (site : Site) (given : Given) → Kept site (turn_inputs_taken config site given).site
  turn-kept site given =
      let next : Site = (own_received config site given.own).site in
      let last : Site = (asked_received config next given.asked).site in
      kept-then site next (turn_inputs_taken config site given).site (own-kept site given.own)
      (kept-then next last (turn_inputs_taken config site given).site (asked-kept next given.asked) (tick-kept last given))
