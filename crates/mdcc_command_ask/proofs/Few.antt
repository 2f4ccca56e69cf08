-- A client has no more reads than there are keys.
use Rattle.std.proofs.Common.{◌≡◌, ◌≤◌, ◌<◌, ◌+◌, ◌++◌, ◌∷◌, [], Bool, Err, List, None, Ok, Option, Result, Some, arith, cond, false, length, refl, subst, suc, sym, true, zero, ℕ}
use Rattle.std.specs.Option.{option_map_or}
use Rattle.std.specs.Prelude.{slice_get}
use Rattle.std.proofs.lemmas.List.{length_push}
use Rattle.mdcc_command_ask.specs.Answers.{begin_answer_taken, begins, begins_parts, client_answer_by, end_by, end_in, goes_on, is_asked, maybe_taken, next_by, next_key, read_answer_by, shown_in, shows_read, taken_at, unresolved, with_known}
use Rattle.mdcc_command_ask.specs.Asking.{arrival_taken, bytes_taken, with_joiner}
use Rattle.mdcc_command_ask.specs.Requests.{Reaction, idle}
use Rattle.mdcc_command_ask.specs.declared.client.Client.{Client}
use Rattle.mdcc_command_ask.specs.declared.client.Phase.{Phase}
use Rattle.mdcc_command_ask.specs.declared.order.Order.{Order}
use Rattle.mdcc_base.specs.Key.{key_eq}
use Rattle.mdcc_base.specs.declared.identifiers.TxId.{TxId}
use Rattle.mdcc_frag.specs.Joining.{join}
use Rattle.mdcc_def_language.specs.Resolve.{resolve}
use Rattle.mdcc_def_language.specs.declared.schedule.ResolveFault.{ResolveFault}
use Rattle.mdcc_def_messages.specs.declared.messages.ClientAnswer.{ClientAnswer}
use Rattle.mdcc_option.specs.Transaction.{transaction_of}
use Rattle.mdcc_option.specs.declared.faults.DraftFault.{DraftFault}
use Rattle.mdcc_option.specs.declared.items.Known.{Known}
use Rattle.mdcc_option.specs.declared.items.Part.{Part}
use Rattle.mdcc_option.specs.declared.schema.Schema.{Schema}
use Rattle.mdcc_def_server_runs.specs.Arrivals.{Arrival, arrival_of}

-- it knows what it knew
abbrev pub IsSame : Client → Reaction → Type 0
IsSame client reaction = reaction.client.known ≡ client.known

-- ---- a request adds no read

same_begin : (order : Order) (client : Client) (made : Result (List Part) DraftFault) → IsSame client (begins_parts order client made)
same_begin order client (Ok parts) = refl
same_begin order client (Err fault) = refl

same_unresolved : (client : Client) (fault : ResolveFault) → IsSame client (unresolved client fault)
same_unresolved client (ResolveFault.NoItem key) = refl
same_unresolved client (ResolveFault.NoRead number) = refl
same_unresolved client ResolveFault.Memory = refl

same_begins : (schema : Schema) (order : Order) (client : Client) (parts : Result (List Part) ResolveFault) → IsSame client (begins schema order client parts)
same_begins schema order client (Ok parts) = same_begin order client (transaction_of schema parts)
same_begins schema order client (Err fault) = same_unresolved client fault

same_if : (client : Client) (b : Bool) (x y : Reaction) → IsSame client x → IsSame client y → IsSame client (cond b x y)
same_if client true x y p q = p
same_if client false x y p q = q

same_next : (schema : Schema) (order : Order) (client : Client) (key : Option (List ℕ)) → IsSame client (next_by schema order client key)
same_next schema order client (Some key) = refl
same_next schema order client None = same_if client _ _ _ refl (same_begins schema order client (resolve order.updates client.known))

pub same_on : (schema : Schema) (order : Order) (client : Client) → IsSame client (goes_on schema order client)
same_on schema order client = same_next schema order client (next_key order client)

-- ---- a read that is answered was asked for

abbrev pub IsFew : Order → Reaction → Type 0
IsFew order reaction = length reaction.client.known ≤ length order.keys

some_key : {A : Type 0} (keys : List A) (n : ℕ) (key : A) → slice_get keys n ≡ Some key → n < length keys
some_key [] n key e = absurd (cc)
some_key (k ∷ keys) zero key e = omega arith
some_key (k ∷ keys) (suc n) key e = let later = some_key keys n key e in omega (later, arith)

asked_key : (about : List ℕ) (key : Option (List ℕ)) → option_map_or (λ k. key_eq about k) key false ≡ true → (k : List ℕ) × (key ≡ Some k)
asked_key about (Some k) e = (k, refl)
asked_key about None e = absurd (cc)

asked_below : (order : Order) (client : Client) (about : List ℕ) → is_asked order client about ≡ true → length client.known < length order.keys
asked_below order client about asked = let it = asked_key about (next_key order client) asked in some_key order.keys (length client.known) it.0 it.1

few_shown : (schema : Schema) (order : Order) (client : Client) (known : Known) → length client.known < length order.keys → IsFew order (shows_read schema order client known)
few_shown schema order client known below =
    let same = same_on schema order (with_known client known) in
    let more : length (client.known ++ Some known ∷ []) ≡ length client.known + 1 = length_push client.known (Some known) in
    subst (λ (reads : List (Option Known)). length reads ≤ length order.keys) (sym same) (omega (more, below, arith))

few_if : (order : Order) (b : Bool) (x y : Reaction) → (b ≡ true → IsFew order x) → IsFew order y → IsFew order (cond b x y)
few_if order true x y p q = p refl
few_if order false x y p q = q

few_read : (schema : Schema) (order : Order) (client : Client) (known : Option Known) → length client.known ≤ length order.keys → IsFew order (read_answer_by schema order client known)
few_read schema order client (Some known) few =
    few_if order (is_asked order client known.key) (shows_read schema order client known) (idle client) (λ asked. few_shown schema order client known (asked_below order client known.key asked)) few
few_read schema order client None few = few

few_begin : (order : Order) (client : Client) (answer : ClientAnswer) → length client.known ≤ length order.keys → IsFew order (begin_answer_taken order client answer)
few_begin order client (ClientAnswer.Read about token item due) few = few
few_begin order client (ClientAnswer.Begun tx) few = few
few_begin order client (ClientAnswer.Refused key fault) few = few
few_begin order client (ClientAnswer.Heard tx is_commit) few = few
few_begin order client (ClientAnswer.Draft fault) few = few

few_end : (order : Order) (client : Client) (tx : TxId) (ended : Option Bool) → length client.known ≤ length order.keys → IsFew order (end_by order client tx ended)
few_end order client tx (Some is_commit) few = few
few_end order client tx None few = few

few_at : (phase : Phase) (schema : Schema) (order : Order) (client : Client) (answer : ClientAnswer) → length client.known ≤ length order.keys → IsFew order (taken_at phase schema order client answer)
few_at Phase.Reading schema order client answer few = few_read schema order client (shown_in answer) few
few_at Phase.Beginning schema order client answer few = few_begin order client answer few
few_at (Phase.Waiting tx) schema order client answer few = few_end order client tx (end_in tx answer) few
few_at Phase.Answered schema order client answer few = few

few_maybe : (schema : Schema) (order : Order) (client : Client) (answer : Option ClientAnswer) → length client.known ≤ length order.keys → IsFew order (maybe_taken schema order client answer)
few_maybe schema order client (Some answer) few = few_at client.phase schema order client answer few
few_maybe schema order client None few = few

few_arrived : (schema : Schema) (order : Order) (client : Client) (arrival : Arrival) → length client.known ≤ length order.keys → IsFew order (arrival_taken schema order client arrival)
few_arrived schema order client (Arrival.Whole envelope) few = few_maybe schema order client (client_answer_by order envelope envelope.message) few
few_arrived schema order client Arrival.Piece few = few
few_arrived schema order client Arrival.Refused few = few

-- whatever datagram comes
pub few_taken : (schema : Schema) (order : Order) (client : Client) (bytes : List ℕ) → length client.known ≤ length order.keys → IsFew order (bytes_taken schema order client bytes)
few_taken schema order client bytes few =
    let step = join bytes client.joiner in
    few_arrived schema order (with_joiner client step.entries) (arrival_of step.answer) few
