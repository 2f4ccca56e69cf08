-- What a turn's receives bring: inputs that are fair and well-formed.
use Rattle.std.proofs.Common.{Err, List, None, Ok, Option, Result, Some, [], ap, inl, inr, refl, subst, sym, ℕ, ◌++◌, ◌∙◌, ◌∷◌, ◌≡◌}
use Rattle.std.specs.List.{AllByRecursion}
use Rattle.std.specs.Prelude.{⊤}
use Rattle.std.proofs.lemmas.Bool.{cases_Bool, true≢false}
use Rattle.mdcc_base.specs.declared.identifiers.TxId.{TxId}
use Rattle.mdcc_config.specs.declared.config.Config.{Config}
use Rattle.mdcc_frag.specs.Joining
use Rattle.mdcc_frag.specs.Joining.{join}
use Rattle.mdcc_frag.specs.declared.joined.Joined.{Joined}
use Rattle.mdcc_frag.specs.declared.joined.Joined.TheVariants as joined
use Rattle.mdcc_theorem_datagrams.specs.Laws.{table_after}
use Rattle.mdcc_def_ledger.specs.Ledger.{Entry}
use Rattle.mdcc_def_messages.specs.Reading.{view_of}
use Rattle.mdcc_def_messages.specs.Spelling.{message_bytes}
use Rattle.mdcc_def_messages.specs.WellFormed.{IsWellFormedMessage}
use Rattle.mdcc_def_messages.specs.declared.messages.Envelope.{Envelope}
use Rattle.mdcc_def_messages.specs.declared.messages.Message.{Message}
use Rattle.mdcc_def_messages.specs.declared.wire.WireFault.{WireFault}
use Rattle.mdcc_option.specs.Transaction.{transaction_of}
use Rattle.mdcc_option.specs.declared.cluster.Cluster.{Cluster}
use Rattle.mdcc_option.specs.declared.faults.DraftFault.{DraftFault}
use Rattle.mdcc_option.specs.declared.items.Part.{Part}
use Rattle.mdcc_def_rules.specs.declared.node.Input.{Input}
use Rattle.mdcc_theorem_server_runs.proofs.Asked.{requests_come}
use Rattle.mdcc_theorem_server_runs.proofs.Pieces.{whole_came}
use Rattle.mdcc_theorem_server_runs.proofs.Came.{all_joined, all_back, all_front}
use Rattle.mdcc_theorem_server_runs.proofs.Tables.{own_holds}
use Rattle.mdcc_theorem_server_runs.specs.Brought.{BringsRequest, HoldsBytes, asked_datagrams}
use Rattle.mdcc_theorem_server_runs.specs.Inputs.{asked_input, asked_inputs, asked_message_input, begin_input, own_inputs, tick_input, turn_inputs}
use Rattle.mdcc_def_server_runs.specs.Acts.{Act}
use Rattle.mdcc_def_server_runs.specs.Arrivals.{Arrival, arrival_of, is_not_taken, message_in}
use Rattle.mdcc_def_server_runs.specs.Clients.{begun_for}
use Rattle.mdcc_def_server_runs.specs.Runs.{listed}
use Rattle.mdcc_def_server_runs.specs.Sites.{Site}
use Rattle.mdcc_def_server_runs.specs.Turns.{Given, is_silent, own_received}
use Rattle.mdcc_theorem_encoding.proofs.Whole.{are_bytes, message_takes}
use Rattle.mdcc_theorem_encoding.specs.Laws.{AreBytes}
use Rattle.mdcc_theorem_node_steps.specs.Inputs.{IsWellFormedInput}
use Rattle.mdcc_theorem_trace_states.specs.Steps.{IsFair, IsTransaction}
use Rattle.mdcc_theorem_trace_states.specs.Words.{Each}
use Rattle.mdcc_theorem_trace_states.proofs.Lists.{Each-append, Each-at, Each-like}
use Rattle.mdcc_theorem_trace_states.proofs.Sorting.{made-transaction}
use Rattle.mdcc_theorem_clusters.proofs.Mail.{inputs-of-last, whole-bytes}
use Rattle.mdcc_theorem_clusters.proofs.Standing.{IsLive, IsRightDone, MailStands, RightPiece}
use Rattle.mdcc_theorem_clusters.specs.Asked.{CameAsked, WasReceived}
use Rattle.mdcc_theorem_clusters.specs.Executions.{CameFromCentres, MayDeliver, Laws, WasSent}
use Rattle.mdcc_theorem_clusters.specs.Mail.{IsMessageOf, IsPieceIn, Mail}
use Rattle.mdcc_theorem_clusters.specs.Pending.{IsToldTrue, RequestsCome}

-- fair, and well-formed
pub record IsFine (cluster : Cluster) (es : List Entry) (input : Input) : Type 0 where
  pub fair : IsFair cluster es input
  pub formed : IsWellFormedInput input

-- ---- at its own endpoint

-- what was sent is a piece that is right
piece-sent : (config : Config) (es : List Entry) (mail : List Mail) (done : List (ℕ × Act)) (bytes : List ℕ) → Each (IsRightDone config (WasReceived done) es mail) done → (sent : WasSent done bytes) → RightPiece config (WasReceived done) es mail sent.centre bytes
piece-sent config es mail done bytes h sent = Each-at (IsRightDone config (WasReceived done) es mail) done (sent.centre, Act.Send sent.from sent.to bytes sent.answer) h sent.one_of

message-fine : (config : Config) (G : ℕ → List ℕ → Type 0) (es : List Entry) (a epoch : ℕ) (envelope : Envelope) (input : Input) → IsToldTrue config G es a epoch envelope → IsMessageOf envelope input → IsFine config.cluster es input
message-fine config G es a epoch envelope input told is =
    subst (IsFine config.cluster es) (sym is.0)
    (elim told [
      | inl t ↦ record { fair = t; formed = is.1 }
      | inr answer ↦ absurd (true≢false (sym (ap (λ (z : Envelope). is_not_taken z.message) answer.is) ∙ is.2))
    ])

own-fine : Laws → (config : Config) (G : ℕ → List ℕ → Type 0) (es : List Entry) (mail : List Mail) (done : List (ℕ × Act)) (a : ℕ) (site : Site) (gave : Option (List ℕ)) → IsLive config G mail a site → MailStands es mail
    → Each (IsRightDone config (WasReceived done) es mail) done → CameFromCentres done gave → AllByRecursion AreBytes (listed gave) → Each (IsFine config.cluster es) (own_inputs site gave)
own-fine laws config G es mail done a site None live stands right came small = tt
own-fine laws config G es mail done a site (Some bytes) live stands right sent small =
    let piece = piece-sent config es mail done bytes right sent in
    Each-like (IsMessageOf piece.piece.one.1) (IsFine config.cluster es) (own_inputs site (Some bytes)) (λ input is. message-fine config (WasReceived done) es sent.centre piece.piece.one.0.epoch piece.piece.one.1 input piece.told is)
    (inputs-of-last mail stands.are live.came bytes site live.pieces piece.piece live.own_is live.held small.0)

-- the pieces that came, with this one
pub pieces-came : (config : Config) (G : ℕ → List ℕ → Type 0) (es : List Entry) (mail : List Mail) (done : List (ℕ × Act)) (gave : Option (List ℕ))
    → Each (IsRightDone config (WasReceived done) es mail) done → CameFromCentres done gave → AllByRecursion (IsPieceIn mail) (listed gave)
pieces-came config G es mail done None right came = tt
pieces-came config G es mail done (Some bytes) right sent = ((piece-sent config es mail done bytes right sent).piece, tt)

-- ---- at its client's

-- a read, or parts that make a transaction
abbrev IsAsked : Cluster → Input → Type 0
IsAsked cluster (Input.Message envelope) = ⊥
IsAsked cluster Input.Tick = ⊥
IsAsked cluster Input.Sweep = ⊥
IsAsked cluster (Input.Read key) = ⊤
IsAsked cluster (Input.Begin parts) = IsTransaction cluster.schema parts

begin-asked : (cluster : Cluster) (asked : List Part) (known : Option TxId) (made : Result (List Part) DraftFault) → transaction_of cluster.schema asked ≡ made → Each (IsAsked cluster) (begin_input known made)
begin-asked cluster asked (Some tx) made is = tt
begin-asked cluster asked None (Err fault) is = tt
begin-asked cluster asked None (Ok parts) is = (made-transaction cluster.schema asked parts is, tt)

message-asked : (config : Config) (site : Site) (message : Message) → Each (IsAsked config.cluster) (asked_message_input config site message)
message-asked config site (Message.ClientRead serial key) = (tt, tt)
message-asked config site (Message.ClientBegin serial parts) = begin-asked config.cluster parts (begun_for site.clients serial) (transaction_of config.cluster.schema parts) refl
message-asked config site (Message.ClientAnswer serial answer) = tt
message-asked config site (Message.Propose choice) = tt
message-asked config site (Message.Lead choice) = tt
message-asked config site (Message.Voted key version ballot tx mark) = tt
message-asked config site (Message.Outcome tx outcome) = tt
message-asked config site (Message.Prepare key version through ballot) = tt
message-asked config site (Message.Promise key version through ballot reported votes) = tt
message-asked config site (Message.Accept key version ballot options) = tt
message-asked config site (Message.SyncGive key version item adds) = tt
message-asked config site (Message.Refused key version ballot promised) = tt
message-asked config site (Message.Escalate key version tx cause) = tt
message-asked config site (Message.Ask tx key version) = tt
message-asked config site (Message.SyncAsk key) = tt
message-asked config site (Message.Mark origin era upto) = tt
message-asked config site (Message.Finished ended) = tt

arrival-asked : (config : Config) (site : Site) (arrival : Arrival) → Each (IsAsked config.cluster) (asked_input config site arrival)
arrival-asked config site Arrival.Piece = tt
arrival-asked config site Arrival.Refused = tt
arrival-asked config site (Arrival.Whole envelope) = message-asked config site envelope.message

inputs-asked : (config : Config) (site : Site) (gave : Option (List ℕ)) → Each (IsAsked config.cluster) (asked_inputs config site gave)
inputs-asked config site None = tt
inputs-asked config site (Some bytes) = arrival-asked config site (arrival_of (join bytes site.asked).answer)

asked-fine : Laws → (cluster : Cluster) (es : List Entry) (table : List Joining.JoinEntry) (datagrams : List (List ℕ)) (input : Input) → IsAsked cluster input → BringsRequest cluster.schema table datagrams input → IsFine cluster es input
asked-fine laws cluster es table datagrams (Input.Message envelope) asked brings = absurd asked
asked-fine laws cluster es table datagrams Input.Tick asked brings = absurd asked
asked-fine laws cluster es table datagrams Input.Sweep asked brings = absurd asked
asked-fine laws cluster es table datagrams (Input.Read key) asked brings = record {
  fair = tt;
  formed = (subst (λ (m : Message). IsWellFormedMessage m) brings.is brings.came.well_formed.message).1;
}
asked-fine laws cluster es table datagrams (Input.Begin parts) asked brings = record {
  fair = asked;
  formed = laws.drafts cluster.schema brings.asked parts (subst (λ (m : Message). IsWellFormedMessage m) brings.is brings.came.well_formed.message).each brings.makes;
}

both-each : {X : Type 0} (P Q R : X → Type 0) (xs : List X) → ((x : X) → P x → Q x → R x) → Each P xs → AllByRecursion Q xs → Each R xs
both-each P Q R [] f h k = tt
both-each P Q R (x ∷ xs) f h k = (f x h.0 k.0, both-each P Q R xs f h.1 k.1)

all-nil : {X : Type 0} (Q : X → Type 0) (xs : List X) → AllByRecursion Q xs → AllByRecursion Q (xs ++ [])
all-nil Q [] h = tt
all-nil Q (x ∷ xs) h = (h.0, all-nil Q xs h.1)

-- ---- requests

-- a message that comes whole came in pieces
whole-request : (G : ℕ → List ℕ → Type 0) (a : ℕ) (before : List (List ℕ)) (table : List Joining.JoinEntry) (last : List ℕ) → table ≡ table_after before [] → AllByRecursion (G a) before → G a last → HoldsBytes table → AreBytes last
    → (answer : Joined) → (join last table).answer ≡ answer → (envelope : Envelope) → arrival_of answer ≡ Arrival.Whole envelope → CameAsked G a envelope.message
whole-request G a before table last is old new holds small (joined.Whole bytes) e envelope arrives = by-view (view_of bytes) refl arrives
  where
    by-view : (r : Result Envelope WireFault) → view_of bytes ≡ r → message_in r ≡ Arrival.Whole envelope → CameAsked G a envelope.message
    by-view (Ok x) v f =
        let same : x ≡ envelope = cc in
        let small_whole = whole-bytes table last bytes holds small e in
        let takes = message_takes bytes envelope (are_bytes bytes small_whole) (v ∙ ap (λ (z : Envelope). Ok z) same) in
        let whole : (join last (table_after before [])).answer ≡ joined.Whole (message_bytes envelope) = ap (λ (t : List Joining.JoinEntry). (join last t).answer) (sym is) ∙ (e ∙ ap joined.Whole takes.1) in
        record {
          datagrams = before ++ (last ∷ []);
          received = all_joined (G a) before (last ∷ []) old (new, tt);
          envelope = envelope;
          is = refl;
          formed = takes.0.message;
          came = whole_came before last (message_bytes envelope) whole;
        }
    by-view (Err fault) v f = absurd (cc)
whole-request G a before table last is old new holds small joined.Kept e envelope arrives = absurd (cc)
whole-request G a before table last is old new holds small joined.Repeated e envelope arrives = absurd (cc)
whole-request G a before table last is old new holds small (joined.Dropped cause) e envelope arrives = absurd (cc)

pub requests-come : (config : Config) (G : ℕ → List ℕ → Type 0) (mail : List Mail) (a : ℕ) (site : Site) (given : Given) → IsLive config G mail a site → AllByRecursion AreBytes (listed given.asked) → AllByRecursion (G a) (listed given.asked)
    → RequestsCome config G a site given
requests-come config G mail a site given live bytes known = λ text gave envelope arrives.
    let at = (own_received config site given.own).site in
    let same : at.asked ≡ site.asked = (own_holds config site given.own).asked_is in
    let small = (subst (λ (g : Option (List ℕ)). AllByRecursion AreBytes (listed g)) gave bytes).0 in
    let new = (subst (λ (g : Option (List ℕ)). AllByRecursion (G a) (listed g)) gave known).0 in
    whole-request G a live.came_asked at.asked text (same ∙ live.asked_is) live.asked_given new (subst HoldsBytes (sym same) live.asked) small (join text at.asked).answer refl envelope arrives

-- ---- turns

tick-fine : (cluster : Cluster) (es : List Entry) (given : Given) → Each (IsFine cluster es) (tick_input given)
tick-fine cluster es given = elim (cases_Bool (is_silent given)) [ inl e ↦ rw e (record { fair = tt; formed = tt }, tt) | inr e ↦ rw e tt ]

pub turn-fine : Laws → (config : Config) (G : ℕ → List ℕ → Type 0) (es : List Entry) (mail : List Mail) (done : List (ℕ × Act)) (a : ℕ) (site : Site) (given : Given) → IsLive config G mail a site → MailStands es mail
    → Each (IsRightDone config (WasReceived done) es mail) done → MayDeliver done given → Each (IsFine config.cluster es) (turn_inputs config site given)
turn-fine laws config G es mail done a site given live stands right came =
    let at = (own_received config site given.own).site in
    let own = own_inputs site given.own in
    let asked = asked_inputs config at given.asked in
    let schema = config.cluster.schema in
    let datagrams = asked_datagrams (given ∷ []) in
    let P : Input → Type 0 = BringsRequest schema site.asked datagrams in
    let bytes : AllByRecursion AreBytes datagrams = all-nil AreBytes (listed given.asked) came.asked_bytes in
    let all = all_front P (turn_inputs config site given) [] (requests_come config site (given ∷ []) live.asked bytes) in
    let brings = all_back P own asked (all_front P (own ++ asked) (tick_input given) all) in
    Each-append (IsFine config.cluster es) (own ++ asked) (tick_input given)
    (Each-append (IsFine config.cluster es) own asked (own-fine laws config G es mail done a site given.own live stands right came.own came.own_bytes)
    (both-each (IsAsked config.cluster) P (IsFine config.cluster es) asked (λ input h k. asked-fine laws config.cluster es site.asked datagrams input h k) (inputs-asked config at given.asked) brings))
    (tick-fine config.cluster es given)
