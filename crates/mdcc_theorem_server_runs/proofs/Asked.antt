-- From which datagrams the requests of a client come.
use Rattle.std.proofs.Common.{◌≡◌, ℕ, Bool, true, false, cond, List, [], ◌∷◌, ◌++◌, Option, Some, None, Result, Ok, Err, refl, sym, subst}
use Rattle.std.specs.List.{AllByRecursion}
use Rattle.std.specs.Prelude.{ℤ}
use Rattle.mdcc_base.specs.declared.identifiers.TxId.{TxId}
use Rattle.mdcc_config.specs.declared.config.Config.{Config}
use Rattle.mdcc_frag.specs.Joining.{JoinEntry, join}
use Rattle.mdcc_frag.specs.declared.joined.Joined.{Joined}
use Rattle.mdcc_frag.specs.declared.joined.Joined.TheVariants as joined
use Rattle.mdcc_theorem_datagrams.specs.Laws.{table_after}
use Rattle.mdcc_def_messages.specs.Reading.{view_of}
use Rattle.mdcc_def_messages.specs.declared.messages.Envelope.{Envelope}
use Rattle.mdcc_def_messages.specs.declared.messages.Message.{Message}
use Rattle.mdcc_def_messages.specs.declared.wire.WireFault.{WireFault}
use Rattle.mdcc_option.specs.Transaction.{transaction_of}
use Rattle.mdcc_option.specs.declared.faults.DraftFault.{DraftFault}
use Rattle.mdcc_option.specs.declared.items.Part.{Part}
use Rattle.mdcc_def_rules.specs.declared.node.Input.{Input}
use Rattle.mdcc_theorem_server_runs.proofs.Came.{all_back, all_by, all_front, all_joined, message_came, message_later, table_bytes}
use Rattle.mdcc_theorem_server_runs.proofs.Tables.{own_holds, turn_holds}
use Rattle.mdcc_theorem_server_runs.specs.Brought.{BringsRequest, HoldsBytes, IsMessageIn, asked_datagrams}
use Rattle.mdcc_theorem_server_runs.specs.Inputs.{asked_input, asked_inputs, asked_message_input, begin_input, inputs_in, own_input, own_inputs, own_message_input, tick_input, turn_inputs}
use Rattle.mdcc_def_server_runs.specs.Arrivals.{Arrival, arrival_of, is_not_taken, message_in}
use Rattle.mdcc_def_server_runs.specs.Clients.{begun_for}
use Rattle.mdcc_def_server_runs.specs.Runs.{listed}
use Rattle.mdcc_def_server_runs.specs.Sites.{Site}
use Rattle.mdcc_def_server_runs.specs.Turns.{Given, is_silent, own_received, turn_of}
use Rattle.mdcc_theorem_encoding.specs.Laws.{AreBytes}

requests_later : (schema : List (ℤ × ℤ)) (table : List JoinEntry) (gave : Option (List ℕ)) (more : List (List ℕ)) (input : Input)
    → BringsRequest schema (table_after (listed gave) table) more input → BringsRequest schema table (listed gave ++ more) input
requests_later schema table gave more (Input.Message envelope) is = tt
requests_later schema table gave more Input.Tick is = tt
requests_later schema table gave more Input.Sweep is = tt
requests_later schema table gave more (Input.Read key) is =
    record { envelope = is.envelope; serial = is.serial; is = is.is; came = message_later table gave more is.envelope is.came }
requests_later schema table gave more (Input.Begin parts) is =
    record { envelope = is.envelope; serial = is.serial; asked = is.asked; is = is.is; makes = is.makes; came = message_later table gave more is.envelope is.came }

-- ---- at its client's endpoint

module _ (config : Config) (site : Site) (table : List JoinEntry) (datagrams : List (List ℕ)) (envelope : Envelope) (came : IsMessageIn table datagrams envelope) where
  begin_asked : (serial : ℕ) (asked : List Part) (known : Option TxId) (draft : Result (List Part) DraftFault) → envelope.message ≡ Message.ClientBegin serial asked
      → transaction_of config.cluster.schema asked ≡ draft → AllByRecursion (BringsRequest config.cluster.schema table datagrams) (begin_input known draft)
  begin_asked serial asked (Some tx) draft is makes = tt
  begin_asked serial asked None (Err fault) is makes = tt
  begin_asked serial asked None (Ok parts) is makes = (record { envelope = envelope; serial = serial; asked = asked; is = is; makes = makes; came = came }, tt)

  message_asked : (message : Message) → envelope.message ≡ message → AllByRecursion (BringsRequest config.cluster.schema table datagrams) (asked_message_input config site message)
  message_asked (Message.ClientRead serial key) is = (record { envelope = envelope; serial = serial; is = is; came = came }, tt)
  message_asked (Message.ClientBegin serial parts) is =
      begin_asked serial parts (begun_for site.clients serial) (transaction_of config.cluster.schema parts) is refl
  message_asked message is = tt

asked_brings : (config : Config) (site : Site) (last : List ℕ) (more : List (List ℕ)) (answer : Joined) → (join last site.asked).answer ≡ answer → HoldsBytes site.asked → AreBytes last
    → AllByRecursion (BringsRequest config.cluster.schema site.asked (last ∷ more)) (asked_input config site (arrival_of answer))
asked_brings config site last more joined.Kept is holds came = tt
asked_brings config site last more joined.Repeated is holds came = tt
asked_brings config site last more (joined.Dropped cause) is holds came = tt
asked_brings config site last more (joined.Whole bytes) is holds came = by_view (view_of bytes) refl
  where
    by_view : (r : Result Envelope WireFault) → view_of bytes ≡ r
        → AllByRecursion (BringsRequest config.cluster.schema site.asked (last ∷ more)) (asked_input config site (message_in r))
    by_view (Err fault) read = tt
    by_view (Ok envelope) read =
        message_asked config site site.asked (last ∷ more) envelope (message_came site.asked last more bytes envelope holds came is read) envelope.message refl

asked_bring : (config : Config) (site : Site) (gave : Option (List ℕ)) (more : List (List ℕ)) → HoldsBytes site.asked → AllByRecursion AreBytes (listed gave)
    → AllByRecursion (BringsRequest config.cluster.schema site.asked (listed gave ++ more)) (asked_inputs config site gave)
asked_bring config site None more holds came = tt
asked_bring config site (Some bytes) more holds came = asked_brings config site bytes more (join bytes site.asked).answer refl holds came.0

-- what comes at its own endpoint is no request
module _ (schema : List (ℤ × ℤ)) (table : List JoinEntry) (datagrams : List (List ℕ)) where
  own_message_none : (envelope : Envelope) → AllByRecursion (BringsRequest schema table datagrams) (own_message_input envelope)
  own_message_none envelope = by_kind (is_not_taken envelope.message)
    where
      by_kind : (b : Bool) → AllByRecursion (BringsRequest schema table datagrams) (cond b [] (Input.Message envelope ∷ []))
      by_kind true = tt
      by_kind false = (tt, tt)

  own_arrived_none : (arrival : Arrival) → AllByRecursion (BringsRequest schema table datagrams) (own_input arrival)
  own_arrived_none Arrival.Piece = tt
  own_arrived_none Arrival.Refused = tt
  own_arrived_none (Arrival.Whole envelope) = own_message_none envelope

  own_none : (site : Site) (gave : Option (List ℕ)) → AllByRecursion (BringsRequest schema table datagrams) (own_inputs site gave)
  own_none site None = tt
  own_none site (Some bytes) = own_arrived_none (arrival_of (join bytes site.own).answer)

  tick_none : (given : Given) → AllByRecursion (BringsRequest schema table datagrams) (tick_input given)
  tick_none given = by_silence (is_silent given)
    where
      by_silence : (b : Bool) → AllByRecursion (BringsRequest schema table datagrams) (cond b (Input.Tick ∷ []) [])
      by_silence true = (tt, tt)
      by_silence false = tt

pub requests_come : (config : Config) (site : Site) (given : List Given) → HoldsBytes site.asked → AllByRecursion AreBytes (asked_datagrams given)
    → AllByRecursion (BringsRequest config.cluster.schema site.asked (asked_datagrams given)) (inputs_in config site given)
requests_come config site [] holds came = tt
requests_come config site (one ∷ given) holds came =
    let schema = config.cluster.schema in
    let more = asked_datagrams given in
    let all = listed one.asked ++ more in
    let now = all_front AreBytes (listed one.asked) more came in
    let later = all_back AreBytes (listed one.asked) more came in
    let at = (own_received config site one.own).site in
    let before = own_holds config site one.own in
    let next = (turn_of config site one).site in
    let after = turn_holds config site one in
    let P : Input → Type 0 = BringsRequest schema site.asked all in
    let asked : AllByRecursion P (asked_inputs config at one.asked) =
    subst (λ (table : List JoinEntry). AllByRecursion (BringsRequest schema table all) (asked_inputs config at one.asked)) before.asked_is
    (asked_bring config at one.asked more (subst HoldsBytes (sym before.asked_is) holds) now) in
    let rest : AllByRecursion (BringsRequest schema (table_after (listed one.asked) site.asked) more) (inputs_in config next given) =
    subst (λ (table : List JoinEntry). AllByRecursion (BringsRequest schema table more) (inputs_in config next given)) after.asked_is
    (requests_come config next given (subst HoldsBytes (sym after.asked_is) (table_bytes site.asked one.asked now holds)) later) in
    all_joined P (turn_inputs config site one) (inputs_in config next given)
    (all_joined P (own_inputs site one.own ++ asked_inputs config at one.asked) (tick_input one)
    (all_joined P (own_inputs site one.own) (asked_inputs config at one.asked) (own_none schema site.asked all site one.own) asked)
    (tick_none schema site.asked all one))
    (all_by (BringsRequest schema (table_after (listed one.asked) site.asked) more) P (inputs_in config next given) (requests_later schema site.asked one.asked more) rest)
