-- What a centre does is its own: its log gets what it appends, its node's facts are those of its log and the pending ones, and the serials
-- that it uses rise.
use Rattle.std.proofs.Common.{◌≡◌, ◌≢◌, ℕ, ◌+◌, ◌≤◌, ◌==◌, Bool, true, false, cond, nat_lt, not, length, List, [], ◌∷◌, ◌++◌, Option, Some, None, Result, Ok, Err, refl, sym, ◌∙◌, ap, inl, inr, append-nil, arith, map}
use Rattle.std.proofs.lemmas.Bool.{cases_Bool, eqb-true}
use Rattle.std.proofs.lemmas.Bool.Decides.{nat_tests}
use Rattle.std.specs.List.{range_with_len}
use Rattle.mdcc_base.specs.declared.identifiers.TxId.{TxId}
use Rattle.mdcc_base.specs.declared.key.Key.{Key}
use Rattle.mdcc_base.specs.declared.outside.Address.{Address}
use Rattle.mdcc_config.specs.declared.config.Config.{Config}
use Rattle.mdcc_frag.specs.Datagrams.{count, datagram, message_limit}
use Rattle.mdcc_frag.specs.Joining.{join}
use Rattle.mdcc_frag.specs.declared.datagrams.FragHead.{FragHead}
use Rattle.mdcc_def_messages.specs.Lengths.{message_length}
use Rattle.mdcc_def_messages.specs.Spelling.{message_bytes}
use Rattle.mdcc_def_messages.specs.declared.facts.Fact.{Fact}
use Rattle.mdcc_def_messages.specs.declared.messages.ClientAnswer.{ClientAnswer}
use Rattle.mdcc_def_messages.specs.declared.messages.Envelope.{Envelope}
use Rattle.mdcc_def_messages.specs.declared.messages.Message.{Message}
use Rattle.mdcc_option.specs.declared.faults.DraftFault.{DraftFault}
use Rattle.mdcc_option.specs.declared.items.Part.{Part}
use Rattle.mdcc_option.specs.Transaction.{transaction_of}
use Rattle.mdcc_serve_outbox.proofs.Recorded.{answers_append}
use Rattle.mdcc_def_rules.specs.Steps.{NodeStep, heard_by, with_new}
use Rattle.mdcc_def_rules.specs.declared.node.Answer.{Answer}
use Rattle.mdcc_def_rules.specs.declared.node.Input.{Input}
use Rattle.mdcc_def_rules.specs.declared.node.StepFault.{StepFault}
use Rattle.mdcc_def_server_runs.specs.Acts.{Act, but_answers, facts_appended}
use Rattle.mdcc_def_server_runs.specs.Arrivals.{Arrival, arrival_of, is_not_taken}
use Rattle.mdcc_def_server_runs.specs.Clients.{begun_for, known_of, with_end}
use Rattle.mdcc_def_server_runs.specs.Runs.{NodeState, listed, step_on}
use Rattle.mdcc_def_server_runs.specs.Sending.{address_to, datagrams_sent, envelopes_sent, facts_logged, heard_printed, message_sent, message_sent_to, next_head, persist_then_send, persisted}
use Rattle.mdcc_def_server_runs.specs.Sites.{Doing, Site, after_acts, doing, idle_site}
use Rattle.mdcc_def_server_runs.specs.Steps.{answer_queued, begin_made, begin_noted, begin_taken, begin_taken_by, begin_told, draft_taken, dropped, end_of_begun, ends_told, input_made, input_taken, known_told, read_made, read_taken, reading_told, step_queued, stepped}
use Rattle.mdcc_def_server_runs.specs.Turns.{Given, asked_arrived, asked_message, asked_received, asked_taken, is_held, is_silent, own_arrived, own_message, own_received, own_taken, released, ticked, turn_inputs_taken, turn_of}
use Rattle.mdcc_def_server_runs.specs.declared.lines.ServerLine.{ServerLine}
use Rattle.mdcc_serve_site.proofs.Joined.{appended_append, facts_joined}
use Rattle.mdcc_serve_site.specs.Logs.{facts_after, with_facts}

-- the facts of its node that its log has not are the pending ones
abbrev pub IsWhole : Site → Type 0
IsWhole site = site.node.facts ≡ with_facts site.logged site.pending.facts

pub record Owns (site : Site) (did : Doing) : Type 0 where
  pub centre : did.site.centre ≡ site.centre
  pub logged : IsWhole site → did.site.logged ≡ facts_after site.centre site.logged did.acts
  pub whole : IsWhole site → IsWhole did.site
  pub others : (b : ℕ) → b ≢ site.centre → facts_appended b did.acts ≡ []
  pub sent : site.sent ≤ did.site.sent
  pub plain : but_answers did.acts ≡ did.acts

-- acts that append nothing
pub record Quiet (acts : List Act) : Type 0 where
  pub appends : (b : ℕ) → facts_appended b acts ≡ []
  pub plain : but_answers acts ≡ acts

pub quiet_none : Quiet []
quiet_none = record { appends = λ b. refl; plain = refl }

-- nothing is appended, and the log of the centre is the same
pub quiet_owns : {acts : List Act} {site after : Site} → Quiet acts → after.centre ≡ site.centre → after.logged ≡ site.logged → (IsWhole site → IsWhole after) → site.sent ≤ after.sent → Owns site (doing acts after)
quiet_owns {acts = acts} {site = site} {after = after} quiet centre logged whole sent = record {
  centre = centre;
  logged = λ is. logged ∙ sym (ap (with_facts site.logged) (quiet.appends site.centre));
  whole = whole;
  others = λ b other. quiet.appends b;
  sent = sent;
  plain = quiet.plain;
}

pub owns_then : {site : Site} {first second : Doing} → Owns site first → Owns first.site second → Owns site (after_acts first.acts second)
owns_then {site = site} {first = first} {second = second} one two = record {
  centre = two.centre ∙ one.centre;
  logged = λ is.
      two.logged (one.whole is)
      ∙ (ap (λ (a : ℕ). facts_after a first.site.logged second.acts) one.centre
      ∙ (ap (λ (fs : List Fact). facts_after site.centre fs second.acts) (one.logged is)
      ∙ sym (ap (with_facts site.logged) (appended_append site.centre first.acts second.acts) ∙ facts_joined site.logged (facts_appended site.centre first.acts) (facts_appended site.centre second.acts))));
  whole = λ is. two.whole (one.whole is);
  others = λ b other. appended_append b first.acts second.acts
      ∙ (ap (λ (fs : List Fact). fs ++ facts_appended b second.acts) (one.others b other) ∙ two.others b (λ same. other (same ∙ one.centre)));
  sent = (let a = one.sent in let b = two.sent in omega (a, b, arith));
  plain = answers_append first.acts second.acts ∙ (ap (λ (zs : List Act). zs ++ but_answers second.acts) one.plain ∙ ap (λ (zs : List Act). first.acts ++ zs) two.plain);
}

-- the site may differ where a log does not look
pub record IsAlike (site other : Site) : Type 0 where
  pub centre : other.centre ≡ site.centre
  pub logged : other.logged ≡ site.logged
  pub whole : IsWhole site → IsWhole other
  pub sent : other.sent ≡ site.sent

pub owns_from : {site other : Site} {did : Doing} → IsAlike site other → Owns other did → Owns site did
owns_from {site = site} {other = other} {did = did} alike one = record {
  centre = one.centre ∙ alike.centre;
  logged = λ is.
      one.logged (alike.whole is)
      ∙ (ap (λ (a : ℕ). facts_after a other.logged did.acts) alike.centre ∙ ap (λ (fs : List Fact). facts_after site.centre fs did.acts) alike.logged);
  whole = λ is. one.whole (alike.whole is);
  others = λ b apart. one.others b (λ same. apart (same ∙ alike.centre));
  sent = (let a = one.sent in let b = alike.sent in omega (a, b, arith));
  plain = one.plain;
}

pub after_quiet : {site : Site} {acts : List Act} {second : Doing} → Quiet acts → Owns site second → Owns site (after_acts acts second)
after_quiet {site = site} {acts = acts} {second = second} quiet owns =
    owns_then {site = site} {first = doing acts site} {second = second} (quiet_owns quiet refl refl (λ is. is) (omega arith)) owns

pub idle_owns : (site : Site) → Owns site (idle_site site)
idle_owns site = quiet_owns quiet_none refl refl (λ is. is) (omega arith)

-- ---- sending

datagrams_quiet : (head : FragHead) (to : Address) (bytes : List ℕ) (indices : List ℕ) → Quiet (map (λ index. Act.Send head.sender to (datagram head index bytes) (Ok tt)) indices)
datagrams_quiet head to bytes [] = quiet_none
datagrams_quiet head to bytes (index ∷ indices) =
    let ih = datagrams_quiet head to bytes indices in
    record { appends = ih.appends; plain = ap (λ (xs : List Act). Act.Send head.sender to (datagram head index bytes) (Ok tt) ∷ xs) ih.plain }

unsent_quiet : Quiet (Act.Unsent ∷ [])
unsent_quiet = record { appends = λ b. refl; plain = refl }

sent_to_owns : (site : Site) (x : Envelope) (to : Option Address) → Owns site (message_sent_to site x to)
sent_to_owns site x None = quiet_owns unsent_quiet refl refl (λ is. is) (omega arith)
sent_to_owns site x (Some to) = by_length (nat_lt message_limit (message_length x))
  where
    by_length : (long : Bool) → Owns site (cond long (doing (Act.Unsent ∷ []) site) (doing (datagrams_sent (next_head site) to (message_bytes x)) (record site { sent = site.sent + 1 })))
    by_length true = quiet_owns unsent_quiet refl refl (λ is. is) (omega arith)
    by_length false = quiet_owns (datagrams_quiet (next_head site) to (message_bytes x) (range_with_len 0 (count (length (message_bytes x))))) refl refl (λ is. is) (omega arith)

pub message_owns : (config : Config) (site : Site) (x : Envelope) → Owns site (message_sent config site x)
message_owns config site x = sent_to_owns site x (address_to config x.to)

pub messages_own : (config : Config) (site : Site) (xs : List Envelope) → Owns site (envelopes_sent config site xs)
messages_own config site [] = idle_owns site
messages_own config site (x ∷ xs) = owns_then (message_owns config site x) (messages_own config (message_sent config site x).site xs)

-- ---- steps

pub dropped_quiet : Quiet (Act.Dropped ∷ [])
dropped_quiet = record { appends = λ b. refl; plain = refl }

pub stepped_quiet : Quiet (Act.Stepped ∷ [])
stepped_quiet = record { appends = λ b. refl; plain = refl }

pub dropped_owns : (site : Site) → Owns site (dropped site)
dropped_owns site = quiet_owns dropped_quiet refl refl (λ is. is) (omega arith)

-- what a step leaves is pending
whole_more : (site : Site) (step : NodeStep) (xs : List Envelope) (heard : List (TxId × Bool)) → (fact : Option Fact) → step.fact ≡ fact → IsWhole site
    → with_new site.node.facts fact ≡ with_facts site.logged (site.pending.facts ++ listed fact)
whole_more site step xs heard None is whole = whole ∙ ap (with_facts site.logged) (sym (append-nil site.pending.facts))
whole_more site step xs heard (Some fact) is whole =
    ap (λ (fs : List Fact). fact ∷ fs) whole ∙ sym (facts_joined site.logged site.pending.facts (fact ∷ []))

pub queued_owns : (site : Site) (step : NodeStep) (xs : List Envelope) → Owns site (step_queued site step xs)
queued_owns site step xs =
    quiet_owns quiet_none refl refl (λ is. whole_more site step xs (listed (heard_by step.fact)) step.fact refl is) (omega arith)

pub answer_owns : (site : Site) (serial : ℕ) (answer : ClientAnswer) → Owns site (answer_queued site serial answer)
answer_owns site serial answer =
    quiet_owns quiet_none refl refl (λ is. is ∙ ap (with_facts site.logged) (sym (append-nil site.pending.facts))) (omega arith)

pub stepped_owns : {site : Site} {did : Doing} → Owns site did → Owns site (stepped did)
stepped_owns owns = after_quiet stepped_quiet owns

made_owns : (site : Site) (made : Result NodeStep StepFault) → Owns site (input_made site made)
made_owns site (Err fault) = dropped_owns site
made_owns site (Ok step) =
    let heard = heard_by step.fact in
    let ended = record site { clients = with_end site.clients heard } in
    stepped_owns (owns_from {site = site} {other = ended} (record { centre = refl; logged = refl; whole = λ is. is; sent = refl })
    (queued_owns ended step (listed (ends_told site heard) ++ step.sends)))

pub input_owns : (config : Config) (site : Site) (input : Input) → Owns site (input_taken config site input)
input_owns config site input = made_owns site (step_on config.cluster site.centre site.node input)

read_made_owns : (site : Site) (serial : ℕ) (key : Key) (made : Result NodeStep StepFault) → Owns site (read_made site serial key made)
read_made_owns site serial key (Err fault) = dropped_owns site
read_made_owns site serial key (Ok step) = stepped_owns (queued_owns site step (step.sends ++ listed (reading_told site.centre serial key step.answer)))

pub read_owns : (config : Config) (site : Site) (serial : ℕ) (key : Key) → Owns site (read_taken config site serial key)
read_owns config site serial key = read_made_owns site serial key (step_on config.cluster site.centre site.node (Input.Read key))

-- noting a begin changes the clients alone
pub noted_is : (site : Site) (serial : ℕ) (answer : Option Answer) → IsAlike site (begin_noted site serial answer)
noted_is site serial None = record { centre = refl; logged = refl; whole = λ is. is; sent = refl }
noted_is site serial (Some (Answer.Begun tx)) = record { centre = refl; logged = refl; whole = λ is. is; sent = refl }
noted_is site serial (Some (Answer.Refused key fault)) = record { centre = refl; logged = refl; whole = λ is. is; sent = refl }
noted_is site serial (Some (Answer.Read reading)) = record { centre = refl; logged = refl; whole = λ is. is; sent = refl }

begin_made_owns : (site : Site) (serial : ℕ) (made : Result NodeStep StepFault) → Owns site (begin_made site serial made)
begin_made_owns site serial (Err fault) = dropped_owns site
begin_made_owns site serial (Ok step) =
    stepped_owns (owns_from (noted_is site serial step.answer)
    (queued_owns (begin_noted site serial step.answer) step (step.sends ++ listed (begin_told site.centre serial step.answer))))

draft_owns : (config : Config) (site : Site) (serial : ℕ) (draft : Result (List Part) DraftFault) → Owns site (draft_taken config site serial draft)
draft_owns config site serial (Err fault) = answer_owns site serial (ClientAnswer.Draft fault)
draft_owns config site serial (Ok parts) = begin_made_owns site serial (step_on config.cluster site.centre site.node (Input.Begin parts))

begin_by_owns : (config : Config) (site : Site) (serial : ℕ) (parts : List Part) (known : Option TxId) → Owns site (begin_taken_by config site serial parts known)
begin_by_owns config site serial parts (Some tx) = answer_owns site serial (known_told tx (end_of_begun (known_of site.clients tx)))
begin_by_owns config site serial parts None = draft_owns config site serial (transaction_of config.cluster.schema parts)

pub begin_owns : (config : Config) (site : Site) (serial : ℕ) (parts : List Part) → Owns site (begin_taken config site serial parts)
begin_owns config site serial parts = begin_by_owns config site serial parts (begun_for site.clients serial)

-- ---- what is pending goes out

heard_quiet : (a : ℕ) (heard : List (TxId × Bool)) → Quiet (heard_printed a heard)
heard_quiet a [] = quiet_none
heard_quiet a (h ∷ heard) =
    let ih = heard_quiet a heard in
    record { appends = ih.appends; plain = ap (λ (xs : List Act). Act.Print (ServerLine.Heard a h.0 h.1) ∷ xs) ih.plain }

-- the pending facts are appended
pub logged_owns : (site : Site) (facts : List Fact) → site.pending.facts ≡ facts → Owns site (doing (facts_logged site.centre facts) (persisted site))
logged_owns site [] is = record {
  centre = refl;
  logged = λ whole. whole ∙ ap (with_facts site.logged) is;
  whole = λ whole. refl;
  others = λ b other. refl;
  sent = omega arith;
  plain = refl;
}
logged_owns site (fact ∷ facts) is = record {
  centre = refl;
  logged = λ whole. whole ∙ (ap (with_facts site.logged) is ∙ ap (with_facts site.logged) (sym shown));
  whole = λ whole. refl;
  others = λ b other. rw (there b other) refl;
  sent = omega arith;
  plain = refl;
}
  where
    here : (site.centre == site.centre) ≡ true
    here = grind (arith, nat_tests)

    shown : facts_appended site.centre (facts_logged site.centre (fact ∷ facts)) ≡ fact ∷ facts
    shown = rw here (append-nil (fact ∷ facts))

    there : (b : ℕ) → b ≢ site.centre → (site.centre == b) ≡ false
    there b other = elim (cases_Bool (site.centre == b)) [
      | inl e ↦ absurd (other (sym (eqb-true site.centre b e)))
      | inr e ↦ e
    ]

pub sends_own : (config : Config) (site : Site) (sends : List Envelope) (heard : List (TxId × Bool))
    → Owns site (after_acts (envelopes_sent config site sends).acts (doing (heard_printed site.centre heard) (envelopes_sent config site sends).site))
sends_own config site sends heard =
    owns_then (messages_own config site sends) (quiet_owns (heard_quiet site.centre heard) refl refl (λ is. is) (omega arith))

pub persist_owns : (config : Config) (site : Site) → Owns site (persist_then_send config site)
persist_owns config site = owns_then (logged_owns site site.pending.facts refl) (sends_own config (persisted site) site.pending.envelopes site.pending.heard)

pub released_owns : (config : Config) (held : Bool) (site : Site) → Owns site (released config held site)
released_owns config true site = idle_owns site
released_owns config false site = persist_owns config site

-- messages that are sent change nothing of it but the serials
pub record IsSent (site next : Site) : Type 0 where
  pub node : next.node ≡ site.node
  pub logged : next.logged ≡ site.logged
  pub pending : next.pending ≡ site.pending

sent_to : (site : Site) (x : Envelope) (to : Option Address) → IsSent site (message_sent_to site x to).site
sent_to site x None = record { node = refl; logged = refl; pending = refl }
sent_to site x (Some to) = by_length (nat_lt message_limit (message_length x))
  where
    by_length : (long : Bool) → IsSent site (cond long (doing (Act.Unsent ∷ []) site) (doing (datagrams_sent (next_head site) to (message_bytes x)) (record site { sent = site.sent + 1 }))).site
    by_length true = record { node = refl; logged = refl; pending = refl }
    by_length false = record { node = refl; logged = refl; pending = refl }

pub messages_keep : (config : Config) (site : Site) (xs : List Envelope) → IsSent site (envelopes_sent config site xs).site
messages_keep config site [] = record { node = refl; logged = refl; pending = refl }
messages_keep config site (x ∷ xs) =
    let one = sent_to site x (address_to config x.to) in
    let rest = messages_keep config (message_sent config site x).site xs in
    record { node = rest.node ∙ one.node; logged = rest.logged ∙ one.logged; pending = rest.pending ∙ one.pending }

-- then its log has all facts of its node
pub persist_logs : (config : Config) (site : Site) → (persist_then_send config site).site.logged ≡ (persist_then_send config site).site.node.facts
persist_logs config site =
    let keeps = messages_keep config (persisted site) site.pending.envelopes in
    keeps.logged ∙ sym (ap (λ (n : NodeState). n.facts) keeps.node)

-- ---- turns

pub received_quiet : (at : ℕ) (gave : Option (List ℕ)) → Quiet (Act.Receive at gave ∷ [])
received_quiet at gave = record { appends = λ b. refl; plain = refl }

own_message_owns : (config : Config) (site : Site) (x : Envelope) → Owns site (own_message config site x)
own_message_owns config site x = by_kind (is_not_taken x.message)
  where
    by_kind : (b : Bool) → Owns site (cond b (dropped site) (input_taken config site (Input.Message x)))
    by_kind true = dropped_owns site
    by_kind false = input_owns config site (Input.Message x)

own_arrived_owns : (config : Config) (site : Site) (arrival : Arrival) → Owns site (own_arrived config site arrival)
own_arrived_owns config site Arrival.Piece = idle_owns site
own_arrived_owns config site Arrival.Refused = dropped_owns site
own_arrived_owns config site (Arrival.Whole x) = own_message_owns config site x

own_taken_owns : (config : Config) (site : Site) (gave : Option (List ℕ)) → Owns site (own_taken config site gave)
own_taken_owns config site None = idle_owns site
own_taken_owns config site (Some bytes) =
    owns_from {site = site} {other = record site { own = (join bytes site.own).entries }} (record { centre = refl; logged = refl; whole = λ is. is; sent = refl })
    (own_arrived_owns config (record site { own = (join bytes site.own).entries }) (arrival_of (join bytes site.own).answer))

pub own_owns : (config : Config) (site : Site) (gave : Option (List ℕ)) → Owns site (own_received config site gave)
own_owns config site gave = after_quiet (received_quiet site.centre gave) (own_taken_owns config site gave)

asked_message_owns : (config : Config) (site : Site) (message : Message) → Owns site (asked_message config site message)
asked_message_owns config site (Message.ClientRead serial key) = read_owns config site serial key
asked_message_owns config site (Message.ClientBegin serial parts) = begin_owns config site serial parts
asked_message_owns config site message = dropped_owns site

asked_arrived_owns : (config : Config) (site : Site) (arrival : Arrival) → Owns site (asked_arrived config site arrival)
asked_arrived_owns config site Arrival.Piece = idle_owns site
asked_arrived_owns config site Arrival.Refused = dropped_owns site
asked_arrived_owns config site (Arrival.Whole x) = asked_message_owns config site x.message

asked_taken_owns : (config : Config) (site : Site) (gave : Option (List ℕ)) → Owns site (asked_taken config site gave)
asked_taken_owns config site None = idle_owns site
asked_taken_owns config site (Some bytes) =
    owns_from {site = site} {other = record site { asked = (join bytes site.asked).entries }} (record { centre = refl; logged = refl; whole = λ is. is; sent = refl })
    (asked_arrived_owns config (record site { asked = (join bytes site.asked).entries }) (arrival_of (join bytes site.asked).answer))

pub asked_owns : (config : Config) (site : Site) (gave : Option (List ℕ)) → Owns site (asked_received config site gave)
asked_owns config site gave = after_quiet (received_quiet (site.centre + 16) gave) (asked_taken_owns config site gave)

pub ticked_owns : (config : Config) (given : Given) (site : Site) → Owns site (ticked config given site)
ticked_owns config given site = by_silence (is_silent given)
  where
    by_silence : (b : Bool) → Owns site (cond b (input_taken config site Input.Tick) (idle_site site))
    by_silence true = input_owns config site Input.Tick
    by_silence false = idle_owns site

pub inputs_own : (config : Config) (site : Site) (given : Given) → Owns site (turn_inputs_taken config site given)
inputs_own config site given =
    let own = own_received config site given.own in
    let asked = asked_received config own.site given.asked in
    owns_then (owns_then (own_owns config site given.own) (asked_owns config own.site given.asked)) (ticked_owns config given asked.site)

pub turn_owns : (config : Config) (site : Site) (given : Given) → Owns site (turn_of config site given)
turn_owns config site given =
    owns_then (inputs_own config site given) (released_owns config (is_held given (turn_inputs_taken config site given)) (turn_inputs_taken config site given).site)
