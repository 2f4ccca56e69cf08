-- From which datagrams the inputs of a centre's node come.
use Rattle.std.proofs.Common.{◌≡◌, ℕ, ◌≤◌, Bool, true, false, cond, List, [], ◌∷◌, ◌++◌, length, Option, Some, None, Result, Ok, Err, refl, sym, ◌∙◌, ap, subst, arith}
use Rattle.std.specs.List.{AllByRecursion}
use Rattle.mdcc_base.specs.declared.identifiers.TxId.{TxId}
use Rattle.mdcc_config.specs.declared.config.Config.{Config}
use Rattle.mdcc_frag.specs.Joining.{JoinEntry, join}
use Rattle.mdcc_frag.specs.declared.joined.Joined.{Joined}
use Rattle.mdcc_frag.specs.declared.joined.Joined.TheVariants as joined
use Rattle.mdcc_theorem_datagrams.specs.Laws.{table_after}
use Rattle.mdcc_def_messages.specs.Reading.{view_of}
use Rattle.mdcc_def_messages.specs.Spelling.{message_bytes}
use Rattle.mdcc_def_messages.specs.declared.messages.Envelope.{Envelope}
use Rattle.mdcc_def_messages.specs.declared.messages.Message.{Message}
use Rattle.mdcc_def_messages.specs.declared.wire.WireFault.{WireFault}
use Rattle.mdcc_option.specs.Transaction.{transaction_of}
use Rattle.mdcc_option.specs.declared.faults.DraftFault.{DraftFault}
use Rattle.mdcc_option.specs.declared.items.Part.{Part}
use Rattle.mdcc_def_rules.specs.declared.node.Input.{Input}
use Rattle.mdcc_theorem_server_runs.proofs.Joining.{bytes_keep}
use Rattle.mdcc_theorem_server_runs.proofs.Tables.{turn_holds}
use Rattle.mdcc_theorem_server_runs.specs.Brought.{BringsMessage, HoldsBytes, IsJoined, IsMessageIn, own_datagrams}
use Rattle.mdcc_theorem_server_runs.specs.Inputs.{asked_input, asked_inputs, asked_message_input, begin_input, inputs_in, own_input, own_inputs, tick_input, turn_inputs}
use Rattle.mdcc_def_server_runs.specs.Arrivals.{Arrival, arrival_of, is_not_taken, message_in}
use Rattle.mdcc_def_server_runs.specs.Clients.{begun_for}
use Rattle.mdcc_def_server_runs.specs.Runs.{listed}
use Rattle.mdcc_def_server_runs.specs.Sites.{Site}
use Rattle.mdcc_def_server_runs.specs.Turns.{Given, is_silent, own_received, turn_of}
use Rattle.mdcc_theorem_encoding.proofs.Lengths.{length-message}
use Rattle.mdcc_theorem_encoding.proofs.Whole.{are_bytes, message_takes}
use Rattle.mdcc_theorem_encoding.specs.Laws.{AreBytes}

-- ---- lists

pub all_joined : {X : Type 0} (P : X → Type 0) (xs ys : List X) → AllByRecursion P xs → AllByRecursion P ys → AllByRecursion P (xs ++ ys)
all_joined P [] ys one two = two
all_joined P (x ∷ xs) ys one two = (one.0, all_joined P xs ys one.1 two)

pub all_front : {X : Type 0} (P : X → Type 0) (xs ys : List X) → AllByRecursion P (xs ++ ys) → AllByRecursion P xs
all_front P [] ys all = tt
all_front P (x ∷ xs) ys all = (all.0, all_front P xs ys all.1)

pub all_back : {X : Type 0} (P : X → Type 0) (xs ys : List X) → AllByRecursion P (xs ++ ys) → AllByRecursion P ys
all_back P [] ys all = all
all_back P (x ∷ xs) ys all = all_back P xs ys all.1

pub all_by : {X : Type 0} (P Q : X → Type 0) (xs : List X) → ((x : X) → P x → Q x) → AllByRecursion P xs → AllByRecursion Q xs
all_by P Q [] so all = tt
all_by P Q (x ∷ xs) so all = (so x all.0, all_by P Q xs so all.1)

-- ---- one message

-- bytes that come whole are spelled by a well-formed message, if they are read as one
pub message_came : (table : List JoinEntry) (last : List ℕ) (more : List (List ℕ)) (bytes : List ℕ) (envelope : Envelope) → HoldsBytes table → AreBytes last
    → (join last table).answer ≡ joined.Whole bytes → view_of bytes ≡ Ok envelope → IsMessageIn table (last ∷ more) envelope
message_came table last more bytes envelope holds came whole read =
    let comes = (bytes_keep last table came holds).whole bytes whole in
    let sound = subst (λ (xs : List ℕ). AreBytes xs × (length xs ≤ 2097152)) comes.are comes.keeps in
    let takes = message_takes bytes envelope (are_bytes bytes sound.0) read in
    let as_many : length bytes ≡ length (message_bytes envelope) = ap length takes.1 in
    let short = sound.1 in
    record {
      well_formed = takes.0;
      short = omega (length-message envelope, as_many, short, arith);
      joined = record { before = []; last = last; after = more; are = refl; whole = whole ∙ ap joined.Whole takes.1 };
    }

-- ---- tables

pub table_bytes : (table : List JoinEntry) (gave : Option (List ℕ)) → AllByRecursion AreBytes (listed gave) → HoldsBytes table → HoldsBytes (table_after (listed gave) table)
table_bytes table None came holds = holds
table_bytes table (Some bytes) came holds = (bytes_keep bytes table came.0 holds).entries

-- what is joined later
joined_later : (table : List JoinEntry) (gave : Option (List ℕ)) (more : List (List ℕ)) (bytes : List ℕ)
    → IsJoined (table_after (listed gave) table) more bytes → IsJoined table (listed gave ++ more) bytes
joined_later table None more bytes is = is
joined_later table (Some first) more bytes is = record {
  before = first ∷ is.before;
  last = is.last;
  after = is.after;
  are = ap (λ (xs : List (List ℕ)). first ∷ xs) is.are;
  whole = is.whole;
}

pub message_later : (table : List JoinEntry) (gave : Option (List ℕ)) (more : List (List ℕ)) (envelope : Envelope)
    → IsMessageIn (table_after (listed gave) table) more envelope → IsMessageIn table (listed gave ++ more) envelope
message_later table gave more envelope is =
    record { well_formed = is.well_formed; short = is.short; joined = joined_later table gave more (message_bytes envelope) is.joined }

-- ---- messages

brings_later : (table : List JoinEntry) (gave : Option (List ℕ)) (more : List (List ℕ)) (input : Input)
    → BringsMessage (table_after (listed gave) table) more input → BringsMessage table (listed gave ++ more) input
brings_later table gave more (Input.Message envelope) is = (message_later table gave more envelope is.0, is.1)
brings_later table gave more Input.Tick is = tt
brings_later table gave more Input.Sweep is = tt
brings_later table gave more (Input.Read key) is = tt
brings_later table gave more (Input.Begin parts) is = tt

own_brings : (site : Site) (last : List ℕ) (more : List (List ℕ)) (answer : Joined) → (join last site.own).answer ≡ answer → HoldsBytes site.own → AreBytes last
    → AllByRecursion (BringsMessage site.own (last ∷ more)) (own_input (arrival_of answer))
own_brings site last more joined.Kept is holds came = tt
own_brings site last more joined.Repeated is holds came = tt
own_brings site last more (joined.Dropped cause) is holds came = tt
own_brings site last more (joined.Whole bytes) is holds came = by_view (view_of bytes) refl
  where
    by_kind : (envelope : Envelope) (b : Bool) → view_of bytes ≡ Ok envelope → is_not_taken envelope.message ≡ b
        → AllByRecursion (BringsMessage site.own (last ∷ more)) (cond b [] (Input.Message envelope ∷ []))
    by_kind envelope true read kind = tt
    by_kind envelope false read kind = ((message_came site.own last more bytes envelope holds came is read, kind), tt)

    by_view : (r : Result Envelope WireFault) → view_of bytes ≡ r → AllByRecursion (BringsMessage site.own (last ∷ more)) (own_input (message_in r))
    by_view (Err fault) read = tt
    by_view (Ok envelope) read = by_kind envelope (is_not_taken envelope.message) read refl

own_bring : (site : Site) (gave : Option (List ℕ)) (more : List (List ℕ)) → HoldsBytes site.own → AllByRecursion AreBytes (listed gave)
    → AllByRecursion (BringsMessage site.own (listed gave ++ more)) (own_inputs site gave)
own_bring site None more holds came = tt
own_bring site (Some bytes) more holds came = own_brings site bytes more (join bytes site.own).answer refl holds came.0

-- what comes at the client's endpoint is no message
module _ (config : Config) (site : Site) (table : List JoinEntry) (datagrams : List (List ℕ)) where
  begin_brings_none : (known : Option TxId) (draft : Result (List Part) DraftFault) → AllByRecursion (BringsMessage table datagrams) (begin_input known draft)
  begin_brings_none (Some tx) draft = tt
  begin_brings_none None (Err fault) = tt
  begin_brings_none None (Ok parts) = (tt, tt)

  asked_message_brings_none : (message : Message) → AllByRecursion (BringsMessage table datagrams) (asked_message_input config site message)
  asked_message_brings_none (Message.ClientRead serial key) = (tt, tt)
  asked_message_brings_none (Message.ClientBegin serial parts) = begin_brings_none (begun_for site.clients serial) (transaction_of config.cluster.schema parts)
  asked_message_brings_none message = tt

  asked_brings_none : (arrival : Arrival) → AllByRecursion (BringsMessage table datagrams) (asked_input config site arrival)
  asked_brings_none Arrival.Piece = tt
  asked_brings_none Arrival.Refused = tt
  asked_brings_none (Arrival.Whole envelope) = asked_message_brings_none envelope.message

  asked_bring_none : (gave : Option (List ℕ)) → AllByRecursion (BringsMessage table datagrams) (asked_inputs config site gave)
  asked_bring_none None = tt
  asked_bring_none (Some bytes) = asked_brings_none (arrival_of (join bytes site.asked).answer)

tick_brings_none : (given : Given) (table : List JoinEntry) (datagrams : List (List ℕ)) → AllByRecursion (BringsMessage table datagrams) (tick_input given)
tick_brings_none given table datagrams = by_silence (is_silent given)
  where
    by_silence : (b : Bool) → AllByRecursion (BringsMessage table datagrams) (cond b (Input.Tick ∷ []) [])
    by_silence true = (tt, tt)
    by_silence false = tt

pub messages_come : (config : Config) (site : Site) (given : List Given) → HoldsBytes site.own → AllByRecursion AreBytes (own_datagrams given)
    → AllByRecursion (BringsMessage site.own (own_datagrams given)) (inputs_in config site given)
messages_come config site [] holds came = tt
messages_come config site (one ∷ given) holds came =
    let more = own_datagrams given in
    let all = listed one.own ++ more in
    let now = all_front AreBytes (listed one.own) more came in
    let later = all_back AreBytes (listed one.own) more came in
    let asked_at = (own_received config site one.own).site in
    let next = (turn_of config site one).site in
    let own = turn_holds config site one in
    let P : Input → Type 0 = BringsMessage site.own all in
    let rest : AllByRecursion (BringsMessage (table_after (listed one.own) site.own) more) (inputs_in config next given) =
    subst (λ (table : List JoinEntry). AllByRecursion (BringsMessage table more) (inputs_in config next given)) own.own_is
    (messages_come config next given (subst HoldsBytes (sym own.own_is) (table_bytes site.own one.own now holds)) later) in
    all_joined P (turn_inputs config site one) (inputs_in config next given)
    (all_joined P (own_inputs site one.own ++ asked_inputs config asked_at one.asked) (tick_input one)
    (all_joined P (own_inputs site one.own) (asked_inputs config asked_at one.asked)
    (own_bring site one.own more holds now) (asked_bring_none config asked_at site.own all one.asked))
    (tick_brings_none one site.own all))
    (all_by (BringsMessage (table_after (listed one.own) site.own) more) P (inputs_in config next given) (brings_later site.own one.own more) rest)
