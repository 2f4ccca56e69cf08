-- Turns without the datagrams that are dropped are as good.
use Rattle.std.proofs.Common.{◌≡◌, ℕ, ◌+◌, Bool, true, false, cond, not, ◌&&◌, is_none, List, [], ◌∷◌, ◌++◌, if◌then◌else◌, Option, Some, None, Result, Ok, Err, refl, sym, ◌∙◌, ap, ap₂, arith, subst, ◌==◌, length}
use Rattle.mdcc_config.specs.declared.config.Config.{Config}
use Rattle.mdcc_frag.specs.Joining.{JoinEntry, JoinStep, entry_of, join, join_step, missing_piece, others, take_piece, take_read}
use Rattle.mdcc_frag.specs.Partial.{PartialMessage, is_piece_held, is_whole, nothing_of, with_piece}
use Rattle.mdcc_frag.specs.Reading.{payload, piece_in}
use Rattle.mdcc_frag.specs.declared.joined.Joined.{Joined}
use Rattle.mdcc_frag.specs.declared.joined.Joined.TheVariants as joined
use Rattle.mdcc_frag.specs.declared.joined.Joined.TheVariants.{Dropped, Kept, Repeated, Whole}
use Rattle.mdcc_frag.specs.declared.reading.DropCause.{DropCause}
use Rattle.mdcc_frag.specs.declared.reading.DropCause.TheVariants.{Disagrees}
use Rattle.mdcc_frag.specs.declared.reading.Piece.{Piece}
use Rattle.mdcc_def_messages.specs.Reading.{view_of}
use Rattle.mdcc_def_messages.specs.declared.messages.Message.{Message}
use Rattle.mdcc_def_rules.specs.declared.node.Input.{Input}
use Rattle.mdcc_theorem_server_runs.proofs.Grouped.{grouped, inputs_quiet, seen_back, seen_by, seen_joined, turned_bare}
use Rattle.mdcc_theorem_server_runs.proofs.Outgoing.{out_sees}
use Rattle.mdcc_theorem_server_runs.proofs.Queued.{bare, quiet}
use Rattle.mdcc_theorem_server_runs.proofs.Seen.{sees_then, steps_append}
use Rattle.mdcc_theorem_server_runs.proofs.Tables.{own_holds}
use Rattle.mdcc_theorem_server_runs.proofs.Turned.{quiet_inputs, quiet_runs}
use Rattle.mdcc_theorem_server_runs.specs.Inputs.{asked_input, asked_inputs, asked_message_input, own_input, own_inputs, turn_inputs}
use Rattle.mdcc_theorem_server_runs.specs.Without.{AreAsGood, AreSeenAlike, datagram_kept, datagram_kept_by, given_kept, is_new_message, is_request, is_unasked, is_unfit, turn_kept, without_dropped}
use Rattle.mdcc_def_server_runs.specs.Acts.{Act, steps_in}
use Rattle.mdcc_def_server_runs.specs.Arrivals.{Arrival, arrival_of, message_in}
use Rattle.mdcc_def_server_runs.specs.Sending.{persist_then_send}
use Rattle.mdcc_def_server_runs.specs.Sites.{Doing, Site, after_acts, and_then, idle_site}
use Rattle.mdcc_def_server_runs.specs.Steps.{dropped, input_taken}
use Rattle.mdcc_def_server_runs.specs.Turns.{Given, asked_arrived, asked_message, asked_received, asked_taken, is_silent, own_arrived, own_received, own_taken, turn_inputs_taken, turn_of}

-- ---- what is dropped leaves the table

abbrev Leaves : List JoinEntry → JoinStep → Type 0
Leaves entries made = (cause : DropCause) → made.answer ≡ Dropped cause → made.entries ≡ entries

arrived_leaves : (message : PartialMessage) (without rest entries : List JoinEntry) (all : Bool) → Leaves entries (if all then join_step (Whole message.bytes) without else join_step Kept rest)
arrived_leaves message without rest entries true cause is = absurd (cc)
arrived_leaves message without rest entries false cause is = absurd (cc)

known_leaves : (piece : Piece) (found : List ℕ) (entry : JoinEntry) (entries : List JoinEntry) (same held : Bool)
    → Leaves entries (if same then (if held then join_step Repeated (entry ∷ others piece entries) else missing_piece piece found entry (others piece entries)) else join_step (Dropped Disagrees) entries)
known_leaves piece found entry entries true true cause is = absurd (cc)
known_leaves piece found entry entries true false cause is =
    arrived_leaves (with_piece piece.index found entry.1) (others piece entries) ((entry.0, with_piece piece.index found entry.1) ∷ others piece entries) entries
    (is_whole (with_piece piece.index found entry.1)) cause is
known_leaves piece found entry entries false held cause is = refl

taken_leaves : (piece : Piece) (found : List ℕ) (entries : List JoinEntry) (o : Option JoinEntry) → Leaves entries (take_piece piece found entries o)
taken_leaves piece found entries None cause is = arrived_leaves (with_piece piece.index found (nothing_of piece.total)) entries _ entries _ cause is
taken_leaves piece found entries (Some entry) cause is =
    known_leaves piece found entry entries (length (entry.1).bytes == piece.total) (is_piece_held piece.index entry.1) cause is

read_leaves : (found : List ℕ) (entries : List JoinEntry) (read : Result Piece DropCause) → Leaves entries (take_read read found entries)
read_leaves found entries (Ok piece) cause is = taken_leaves piece found entries (entry_of piece entries) cause is
read_leaves found entries (Err fault) cause is = refl

pub dropped_leaves : (datagram : List ℕ) (entries : List JoinEntry) → Leaves entries (join datagram entries)
dropped_leaves datagram entries = read_leaves (payload datagram) entries (piece_in datagram)

-- Nor does a datagram that alone makes bytes whole.
abbrev WholeLeaves : List JoinEntry → Bool → JoinStep → Type 0
WholeLeaves entries new made = (whole : List ℕ) → new ≡ true → made.answer ≡ Whole whole → made.entries ≡ entries

first_leaves : (message : PartialMessage) (rest entries : List JoinEntry) (all : Bool) → WholeLeaves entries true (if all then join_step (Whole message.bytes) entries else join_step Kept rest)
first_leaves message rest entries true whole new is = refl
first_leaves message rest entries false whole new is = absurd (cc)

new_leaves : (piece : Piece) (found : List ℕ) (entries : List JoinEntry) (o : Option JoinEntry) → WholeLeaves entries (is_none o) (take_piece piece found entries o)
new_leaves piece found entries None whole new is = first_leaves (with_piece piece.index found (nothing_of piece.total)) _ entries (is_whole (with_piece piece.index found (nothing_of piece.total))) whole new is
new_leaves piece found entries (Some entry) whole new is = absurd (cc)

whole_read_leaves : (found : List ℕ) (entries : List JoinEntry) (read : Result Piece DropCause) → WholeLeaves entries (is_new_message entries read) (take_read read found entries)
whole_read_leaves found entries (Ok piece) whole new is = new_leaves piece found entries (entry_of piece entries) whole new is
whole_read_leaves found entries (Err fault) whole new is = absurd (cc)

whole_leaves : (datagram : List ℕ) (entries : List JoinEntry) → WholeLeaves entries (is_new_message entries (piece_in datagram)) (join datagram entries)
whole_leaves datagram entries = whole_read_leaves (payload datagram) entries (piece_in datagram)

-- ---- one receive

-- both make as many steps, come to the same centre, and bring the same inputs
record Alike (one other : Doing) (inputs others : List Input) : Type 0 where
  site : one.site ≡ other.site
  steps : steps_in one.acts ≡ steps_in other.acts
  inputs_are : inputs ≡ others

own_dropped : (config : Config) (site : Site) (bytes : List ℕ) (cause : DropCause) → (join bytes site.own).answer ≡ Dropped cause → own_taken config site (Some bytes) ≡ dropped site
own_dropped config site bytes cause is =
    ap (λ (answer : Joined). own_arrived config (record site { own = (join bytes site.own).entries }) (arrival_of answer)) is
    ∙ ap (λ (table : List JoinEntry). dropped (record site { own = table })) (dropped_leaves bytes site.own cause is)

-- what is unfit is dropped, and is no input
unfit_dropped : (config : Config) (site : Site) (arrival : Arrival) → is_unfit arrival ≡ true → (own_arrived config site arrival ≡ dropped site) × (own_input arrival ≡ [])
unfit_dropped config site Arrival.Piece is = absurd (cc)
unfit_dropped config site Arrival.Refused is = (refl, refl)
unfit_dropped config site (Arrival.Whole envelope) is = rw is (refl, refl)

-- what comes of nothing
own_alike_none : (config : Config) (site : Site) (bytes : List ℕ) → own_taken config site (Some bytes) ≡ dropped site → own_inputs site (Some bytes) ≡ []
    → Alike (own_received config site None) (own_received config site (Some bytes)) (own_inputs site None) (own_inputs site (Some bytes))
own_alike_none config site bytes same none = record {
  site = sym (ap (λ (did : Doing). did.site) same);
  steps = sym (ap (λ (did : Doing). steps_in (Act.Receive site.centre (Some bytes) ∷ did.acts)) same);
  inputs_are = sym none;
}

own_unfit : (config : Config) (site : Site) (bytes whole : List ℕ) → is_new_message site.own (piece_in bytes) ≡ true → is_unfit (message_in (view_of whole)) ≡ true → (join bytes site.own).answer ≡ Whole whole
    → Alike (own_received config site None) (own_received config site (Some bytes)) (own_inputs site None) (own_inputs site (Some bytes))
own_unfit config site bytes whole new unfit is =
    let drops = unfit_dropped config (record site { own = (join bytes site.own).entries }) (message_in (view_of whole)) unfit in
    own_alike_none config site bytes
    (ap (λ (answer : Joined). own_arrived config (record site { own = (join bytes site.own).entries }) (arrival_of answer)) is
    ∙ (drops.0 ∙ ap (λ (table : List JoinEntry). dropped (record site { own = table })) (whole_leaves bytes site.own whole new is)))
    (ap (λ (answer : Joined). own_input (arrival_of answer)) is ∙ drops.1)

own_alike : (config : Config) (site : Site) (gave : Option (List ℕ))
    → Alike (own_received config site (datagram_kept is_unfit site.own gave)) (own_received config site gave) (own_inputs site (datagram_kept is_unfit site.own gave)) (own_inputs site gave)
own_alike config site None = record { site = refl; steps = refl; inputs_are = refl }
own_alike config site (Some bytes) = by_answer (is_new_message site.own (piece_in bytes)) (join bytes site.own).answer refl refl
  where
    by_answer : (new : Bool) (answer : Joined) → is_new_message site.own (piece_in bytes) ≡ new → (join bytes site.own).answer ≡ answer
        → Alike (own_received config site (datagram_kept_by is_unfit new answer bytes)) (own_received config site (Some bytes)) (own_inputs site (datagram_kept_by is_unfit new answer bytes)) (own_inputs site (Some bytes))
    by_answer true (joined.Whole whole) new is = by_fit (is_unfit (message_in (view_of whole))) refl
      where
        by_fit : (unfit : Bool) → is_unfit (message_in (view_of whole)) ≡ unfit
            → (let left : Option (List ℕ) = if unfit then None else Some bytes in Alike (own_received config site left) (own_received config site (Some bytes)) (own_inputs site left) (own_inputs site (Some bytes)))
        by_fit true unfit = own_unfit config site bytes whole new unfit is
        by_fit false unfit = record { site = refl; steps = refl; inputs_are = refl }
    by_answer false (joined.Whole whole) new is = record { site = refl; steps = refl; inputs_are = refl }
    by_answer new joined.Kept was is = record { site = refl; steps = refl; inputs_are = refl }
    by_answer new joined.Repeated was is = record { site = refl; steps = refl; inputs_are = refl }
    by_answer new (joined.Dropped cause) was is =
        own_alike_none config site bytes (own_dropped config site bytes cause is) (ap (λ (answer : Joined). own_input (arrival_of answer)) is)

asked_dropped : (config : Config) (site : Site) (bytes : List ℕ) (cause : DropCause) → (join bytes site.asked).answer ≡ Dropped cause → asked_taken config site (Some bytes) ≡ dropped site
asked_dropped config site bytes cause is =
    ap (λ (answer : Joined). asked_arrived config (record site { asked = (join bytes site.asked).entries }) (arrival_of answer)) is
    ∙ ap (λ (table : List JoinEntry). dropped (record site { asked = table })) (dropped_leaves bytes site.asked cause is)

-- what is no request is dropped, and is no input
unasked_message : (config : Config) (site : Site) (message : Message) → is_request message ≡ false → (asked_message config site message ≡ dropped site) × (asked_message_input config site message ≡ [])
unasked_message config site (Message.Propose choice) is = (refl, refl)
unasked_message config site (Message.Voted key version ballot tx mark) is = (refl, refl)
unasked_message config site (Message.Escalate key version tx cause) is = (refl, refl)
unasked_message config site (Message.Lead choice) is = (refl, refl)
unasked_message config site (Message.Prepare key version through ballot) is = (refl, refl)
unasked_message config site (Message.Promise key version through ballot reported votes) is = (refl, refl)
unasked_message config site (Message.Accept key version ballot options) is = (refl, refl)
unasked_message config site (Message.Refused key version ballot promised) is = (refl, refl)
unasked_message config site (Message.Outcome tx outcome) is = (refl, refl)
unasked_message config site (Message.Ask tx key version) is = (refl, refl)
unasked_message config site (Message.SyncAsk key) is = (refl, refl)
unasked_message config site (Message.SyncGive key version item adds) is = (refl, refl)
unasked_message config site (Message.Mark centre epoch seq) is = (refl, refl)
unasked_message config site (Message.Finished tx) is = (refl, refl)
unasked_message config site (Message.ClientAnswer serial answer) is = (refl, refl)
unasked_message config site (Message.ClientRead serial key) is = absurd (cc)
unasked_message config site (Message.ClientBegin serial parts) is = absurd (cc)

no_request : (request : Bool) → not request ≡ true → request ≡ false
no_request true is = absurd (cc)
no_request false is = refl

unasked_dropped : (config : Config) (site : Site) (arrival : Arrival) → is_unasked arrival ≡ true → (asked_arrived config site arrival ≡ dropped site) × (asked_input config site arrival ≡ [])
unasked_dropped config site Arrival.Piece is = absurd (cc)
unasked_dropped config site Arrival.Refused is = (refl, refl)
unasked_dropped config site (Arrival.Whole envelope) is = unasked_message config site envelope.message (no_request (is_request envelope.message) is)

asked_alike_none : (config : Config) (site : Site) (bytes : List ℕ) → asked_taken config site (Some bytes) ≡ dropped site → asked_inputs config site (Some bytes) ≡ []
    → Alike (asked_received config site None) (asked_received config site (Some bytes)) (asked_inputs config site None) (asked_inputs config site (Some bytes))
asked_alike_none config site bytes same none = record {
  site = sym (ap (λ (did : Doing). did.site) same);
  steps = sym (ap (λ (did : Doing). steps_in (Act.Receive (site.centre + 16) (Some bytes) ∷ did.acts)) same);
  inputs_are = sym none;
}

asked_unfit : (config : Config) (site : Site) (bytes whole : List ℕ) → is_new_message site.asked (piece_in bytes) ≡ true → is_unasked (message_in (view_of whole)) ≡ true → (join bytes site.asked).answer ≡ Whole whole
    → Alike (asked_received config site None) (asked_received config site (Some bytes)) (asked_inputs config site None) (asked_inputs config site (Some bytes))
asked_unfit config site bytes whole new unfit is =
    let drops = unasked_dropped config (record site { asked = (join bytes site.asked).entries }) (message_in (view_of whole)) unfit in
    let none = unasked_dropped config site (message_in (view_of whole)) unfit in
    asked_alike_none config site bytes
    (ap (λ (answer : Joined). asked_arrived config (record site { asked = (join bytes site.asked).entries }) (arrival_of answer)) is
    ∙ (drops.0 ∙ ap (λ (table : List JoinEntry). dropped (record site { asked = table })) (whole_leaves bytes site.asked whole new is)))
    (ap (λ (answer : Joined). asked_input config site (arrival_of answer)) is ∙ none.1)

asked_alike : (config : Config) (site : Site) (gave : Option (List ℕ))
    → Alike (asked_received config site (datagram_kept is_unasked site.asked gave)) (asked_received config site gave) (asked_inputs config site (datagram_kept is_unasked site.asked gave)) (asked_inputs config site gave)
asked_alike config site None = record { site = refl; steps = refl; inputs_are = refl }
asked_alike config site (Some bytes) = by_answer (is_new_message site.asked (piece_in bytes)) (join bytes site.asked).answer refl refl
  where
    by_answer : (new : Bool) (answer : Joined) → is_new_message site.asked (piece_in bytes) ≡ new → (join bytes site.asked).answer ≡ answer
        → Alike (asked_received config site (datagram_kept_by is_unasked new answer bytes)) (asked_received config site (Some bytes)) (asked_inputs config site (datagram_kept_by is_unasked new answer bytes)) (asked_inputs config site (Some bytes))
    by_answer true (joined.Whole whole) new is = by_fit (is_unasked (message_in (view_of whole))) refl
      where
        by_fit : (unfit : Bool) → is_unasked (message_in (view_of whole)) ≡ unfit
            → (let left : Option (List ℕ) = if unfit then None else Some bytes in Alike (asked_received config site left) (asked_received config site (Some bytes)) (asked_inputs config site left) (asked_inputs config site (Some bytes)))
        by_fit true unfit = asked_unfit config site bytes whole new unfit is
        by_fit false unfit = record { site = refl; steps = refl; inputs_are = refl }
    by_answer false (joined.Whole whole) new is = record { site = refl; steps = refl; inputs_are = refl }
    by_answer new joined.Kept was is = record { site = refl; steps = refl; inputs_are = refl }
    by_answer new joined.Repeated was is = record { site = refl; steps = refl; inputs_are = refl }
    by_answer new (joined.Dropped cause) was is =
        asked_alike_none config site bytes (asked_dropped config site bytes cause is) (ap (λ (answer : Joined). asked_input config site (arrival_of answer)) is)

-- ---- one after the other

alike_then : (first other : Doing) (second third : Doing) (xs xs' ys ys' : List Input) → Alike first other xs xs' → Alike second third ys ys'
    → Alike (after_acts first.acts second) (after_acts other.acts third) (xs ++ ys) (xs' ++ ys')
alike_then first other second third xs xs' ys ys' one two = record {
  site = two.site;
  steps = steps_append first.acts second.acts ∙ (ap₂ (λ (x y : ℕ). x + y) one.steps two.steps ∙ sym (steps_append other.acts third.acts));
  inputs_are = ap₂ (λ (x y : List Input). x ++ y) one.inputs_are two.inputs_are;
}

-- both receives of a turn, and their inputs
abbrev both : Config → Site → Given → Doing
both config site given = and_then (own_received config site given.own) (λ next. asked_received config next given.asked)

abbrev both_inputs : Config → Site → Given → List Input
both_inputs config site given = own_inputs site given.own ++ asked_inputs config (own_received config site given.own).site given.asked

both_alike : (config : Config) (site : Site) (given : Given)
    → Alike (both config site (given_kept site given)) (both config site given) (both_inputs config site (given_kept site given)) (both_inputs config site given)
both_alike config site given =
    let left = given_kept site given in
    let first = own_received config site left.own in
    let other = own_received config site given.own in
    let own = own_alike config site given.own in
    let goal : Site → List JoinEntry → Type 0 = λ s t. Alike (asked_received config s (datagram_kept is_unasked t given.asked)) (asked_received config other.site given.asked)
    (asked_inputs config s (datagram_kept is_unasked t given.asked)) (asked_inputs config other.site given.asked) in
    let asked : goal first.site site.asked =
    subst (λ (s : Site). goal s site.asked) (sym own.site)
    (subst (goal other.site) (own_holds config site given.own).asked_is (asked_alike config other.site given.asked)) in
    alike_then first other (asked_received config first.site left.asked) (asked_received config other.site given.asked)
    (own_inputs site left.own) (own_inputs site given.own) (asked_inputs config first.site left.asked) (asked_inputs config other.site given.asked) own asked

-- ---- turns

abbrev tick_by : Config → Bool → Site → Doing
tick_by config silent site = cond silent (input_taken config site Input.Tick) (idle_site site)

abbrev tick_inputs : Bool → List Input
tick_inputs silent = cond silent (Input.Tick ∷ []) []

-- both turns are silent or none is
turn_alike : (config : Config) (site : Site) (given : Given) (silent : Bool)
    → (let left = given_kept site given in
    Alike (and_then (both config site left) (tick_by config silent)) (and_then (both config site given) (tick_by config silent))
    (both_inputs config site left ++ tick_inputs silent) (both_inputs config site given ++ tick_inputs silent))
turn_alike config site given silent =
    let left = given_kept site given in
    let receives = both_alike config site given in
    let first = both config site left in
    let other = both config site given in
    let ticks : Alike (tick_by config silent first.site) (tick_by config silent other.site) (tick_inputs silent) (tick_inputs silent) =
    subst (λ (s : Site). Alike (tick_by config silent first.site) (tick_by config silent s) (tick_inputs silent) (tick_inputs silent)) receives.site
    (record { site = refl; steps = refl; inputs_are = refl }) in
    alike_then first other (tick_by config silent first.site) (tick_by config silent other.site)
    (both_inputs config site left) (both_inputs config site given) (tick_inputs silent) (tick_inputs silent) receives ticks

-- a turn in which nothing came is silent without what was dropped too
silent_kept : (site : Site) (own asked : Option (List ℕ)) → (is_none own && is_none asked) ≡ true
    → (is_none (datagram_kept is_unfit site.own own) && is_none (datagram_kept is_unasked site.asked asked)) ≡ true
silent_kept site None None is = refl
silent_kept site None (Some bytes) is = absurd (cc)
silent_kept site (Some bytes) asked is = absurd (cc)

-- a silent turn does no work before time passes
silent_both : (config : Config) (site : Site) (own asked : Option (List ℕ)) → (is_none own && is_none asked) ≡ true
    → Alike (and_then (own_received config site own) (λ next. asked_received config next asked)) (idle_site site)
    (own_inputs site own ++ asked_inputs config (own_received config site own).site asked) []
silent_both config site None None is = record { site = refl; steps = refl; inputs_are = refl }
silent_both config site None (Some bytes) is = absurd (cc)
silent_both config site (Some bytes) asked is = absurd (cc)

-- The inputs are the same, and so are the steps and the centre afterwards, where nothing goes out.
record AreQuietlyAsGood (config : Config) (site : Site) (given left : List Given) : Type 0 where
  inputs : quiet_inputs config site left ≡ quiet_inputs config site given
  steps : steps_in (quiet config site left).acts ≡ steps_in (quiet config site given).acts
  end : (quiet config site left).site ≡ (quiet config site given).site

-- a turn that stays
kept_good : (config : Config) (site : Site) (given left : Given) (more without : List Given)
    → Alike (turn_inputs_taken config site left) (turn_inputs_taken config site given) (turn_inputs config site left) (turn_inputs config site given)
    → AreQuietlyAsGood config (turn_inputs_taken config site given).site more without → AreQuietlyAsGood config site (given ∷ more) (left ∷ without)
kept_good config site given left more without turn rest =
    let next = (turn_inputs_taken config site given).site in
    let after = (turn_inputs_taken config site left).site in
    record {
      inputs = ap₂ (λ (x y : List Input). x ++ y) turn.inputs_are (ap (λ (s : Site). quiet_inputs config s without) turn.site ∙ rest.inputs);
      steps = steps_append (turn_inputs_taken config site left).acts (quiet config after without).acts
          ∙ (ap₂ (λ (x y : ℕ). x + y) turn.steps (ap (λ (s : Site). steps_in (quiet config s without).acts) turn.site ∙ rest.steps)
          ∙ sym (steps_append (turn_inputs_taken config site given).acts (quiet config next more).acts));
      end = ap (λ (s : Site). (quiet config s without).site) turn.site ∙ rest.end;
    }

left_out : (xs ys : List Act) → steps_in xs ≡ 0 → steps_in ys ≡ steps_in (xs ++ ys)
left_out xs ys none = let sum = steps_append xs ys in omega (none, sum, arith)

-- a turn that is left out
left_good : (config : Config) (site : Site) (given : Given) (more without : List Given)
    → Alike (turn_inputs_taken config site given) (idle_site site) (turn_inputs config site given) []
    → AreQuietlyAsGood config (turn_inputs_taken config site given).site more without → AreQuietlyAsGood config site (given ∷ more) without
left_good config site given more without turn rest =
    let next = (turn_inputs_taken config site given).site in
    record {
      inputs = ap (λ (s : Site). quiet_inputs config s without) (sym turn.site)
          ∙ (rest.inputs ∙ ap (λ (x : List Input). x ++ quiet_inputs config next more) (sym turn.inputs_are));
      steps = ap (λ (s : Site). steps_in (quiet config s without).acts) (sym turn.site)
          ∙ (rest.steps ∙ left_out (turn_inputs_taken config site given).acts (quiet config next more).acts turn.steps);
      end = ap (λ (s : Site). (quiet config s without).site) (sym turn.site) ∙ rest.end;
    }

alike_joined : (one other third : Doing) (xs ys zs : List Input) → Alike one other xs ys → Alike other third ys zs → Alike one third xs zs
alike_joined one other third xs ys zs a b =
    record { site = a.site ∙ b.site; steps = a.steps ∙ b.steps; inputs_are = a.inputs_are ∙ b.inputs_are }

alike_back : (one other : Doing) (xs ys : List Input) → Alike one other xs ys → Alike other one ys xs
alike_back one other xs ys a = record { site = sym a.site; steps = sym a.steps; inputs_are = sym a.inputs_are }

module _ (config : Config) (site : Site) (given : Given) (more without : List Given) (rest : AreQuietlyAsGood config (turn_inputs_taken config site given).site more without) where
  abbrev left : Given
  left = given_kept site given

  -- the turn, by whether it is silent
  abbrev turned : Given → Bool → Doing
  turned one silent = and_then (both config site one) (tick_by config silent)

  abbrev brought : Given → Bool → List Input
  brought one silent = both_inputs config site one ++ tick_inputs silent

  stays : (silent : Bool) → is_silent given ≡ silent → is_silent left ≡ silent → AreQuietlyAsGood config site (given ∷ more) (left ∷ without)
  stays silent here there =
      let same : Alike (turned left (is_silent left)) (turned given (is_silent given)) (brought left (is_silent left)) (brought given (is_silent given)) =
      subst (λ (b : Bool). Alike (turned left b) (turned given (is_silent given)) (brought left b) (brought given (is_silent given))) (sym there)
      (subst (λ (b : Bool). Alike (turned left silent) (turned given b) (brought left silent) (brought given b)) (sym here) (turn_alike config site given silent)) in
      kept_good config site given left more without same rest

  goes : is_silent given ≡ false → is_silent left ≡ true → AreQuietlyAsGood config site (given ∷ more) without
  goes here there =
      let none : Alike (both config site left) (idle_site site) (both_inputs config site left) [] = silent_both config site left.own left.asked there in
      let receives : Alike (both config site given) (idle_site site) (both_inputs config site given) [] =
      alike_joined (both config site given) (both config site left) (idle_site site) (both_inputs config site given) (both_inputs config site left) []
      (alike_back (both config site left) (both config site given) (both_inputs config site left) (both_inputs config site given) (both_alike config site given)) none in
      let first = both config site given in
      let whole : Alike (turned given false) (idle_site site) (brought given false) [] =
      alike_then first (idle_site site) (idle_site first.site) (idle_site site) (both_inputs config site given) [] [] [] receives
      (record { site = receives.site; steps = refl; inputs_are = refl }) in
      let same : Alike (turned given (is_silent given)) (idle_site site) (brought given (is_silent given)) [] =
      subst (λ (b : Bool). Alike (turned given b) (idle_site site) (brought given b) []) (sym here) whole in
      left_good config site given more without same rest

  by_silence : (s k : Bool) → is_silent given ≡ s → is_silent left ≡ k → AreQuietlyAsGood config site (given ∷ more) (if k && not s then without else (left ∷ without))
  by_silence true true here there = stays true here there
  by_silence false false here there = stays false here there
  by_silence false true here there = goes here there
  by_silence true false here there = let no = silent_kept site given.own given.asked here in absurd (cc)

  turn_good : AreQuietlyAsGood config site (given ∷ more) (turn_kept given (given_kept site given) without)
  turn_good = by_silence (is_silent given) (is_silent left) refl refl

-- the same, by the centre where nothing goes out
abbrev quiet_without : Config → Site → List Given → List Given
quiet_without config site [] = []
quiet_without config site (given ∷ more) =
    turn_kept given (given_kept site given) (quiet_without config (turn_inputs_taken config site given).site more)

without_quiet : (config : Config) (given : List Given) (one other : Site) → bare one ≡ bare other → without_dropped config one given ≡ quiet_without config other given
without_quiet config [] one other same = refl
without_quiet config (turn ∷ given) one other same =
    ap₂ (λ (left : Given) (more : List Given). turn_kept turn left more) (ap (λ (s : Site). given_kept s turn) same)
    (without_quiet config given (turn_of config one turn).site (turn_inputs_taken config other turn).site (turned_bare config one other turn same))

quiet_as_good : (config : Config) (site : Site) (given : List Given) → AreQuietlyAsGood config site given (quiet_without config site given)
quiet_as_good config site [] = record { inputs = refl; steps = refl; end = refl }
quiet_as_good config site (one ∷ given) =
    let next = (turn_inputs_taken config site one).site in
    turn_good config site one given (quiet_without config next given) (quiet_as_good config next given)

-- what goes out is the same
good_by_quiet : (config : Config) (site : Site) (given left : List Given) → AreQuietlyAsGood config site given left → AreAsGood config site given left
good_by_quiet config site given left good =
    let one = quiet_runs config site left in
    let other = quiet_runs config site given in
    let out : Site → Doing = λ s. persist_then_send config s in
    let first = (quiet config site left).site in
    let last = (quiet config site given).site in
    let steps = one.inward.steps_are in
    let many = other.inward.steps_are in
    let ends : AreSeenAlike (and_then (quiet config site left) out) (and_then (quiet config site given) out) =
    subst (λ (s : Site). AreSeenAlike (after_acts (quiet config site left).acts (out first)) (after_acts (quiet config site given).acts (out s))) good.end
    (seen_by (sees_then one.inward (out_sees config first)) (sees_then other.inward (out_sees config first)) (λ c. refl) refl refl
    (let same = good.steps in omega (same, steps, many, arith)) refl) in
    record {
      inputs = inputs_quiet config left site site refl ∙ (good.inputs ∙ sym (inputs_quiet config given site site refl));
      seen = seen_joined (grouped config left site) (seen_joined ends (seen_back (grouped config given site)));
    }

pub turns_as_good : (config : Config) (site : Site) (given : List Given) → AreAsGood config site given (without_dropped config site given)
turns_as_good config site given =
    subst (AreAsGood config site given) (sym (without_quiet config given site site refl))
    (good_by_quiet config site given (quiet_without config site given) (quiet_as_good config site given))
