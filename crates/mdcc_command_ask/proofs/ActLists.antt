-- Lists of acts of a client: of several, and of those at the link alone.
use Rattle.std.proofs.Common.{◌≡◌, ◌∙◌, ◌++◌, ◌+◌, ◌∷◌, [], List, None, Ok, Option, Some, ap, append_assoc, refl, sym, ℕ}
use Rattle.std.proofs.lemmas.Grind.{flat_map-append}
use Rattle.std.proofs.lemmas.List.{map-append}
use Rattle.std.specs.List.{range_with_len}
use Rattle.std.specs.Prelude.{Bool, false, length, map, true}
use Rattle.mdcc_command_ask.specs.Acts.{ClientAct, at_link, call_by, calls_in, client_printed, client_printed_by, received, received_by, without_answer, without_answers}
use Rattle.mdcc_command_ask.specs.Asking.{bound_for}
use Rattle.mdcc_command_ask.specs.Effects.{NoneLater}
use Rattle.mdcc_command_ask.specs.Requests.{request_head, request_sent_to, sends_if}
use Rattle.mdcc_command_ask.specs.declared.client.Client.{Client}
use Rattle.mdcc_command_ask.specs.declared.order.Order.{Order}
use Rattle.mdcc_base.specs.declared.outside.Address.{Address}
use Rattle.mdcc_config.specs.IsConfig.{address_above}
use Rattle.mdcc_config.specs.declared.config.Config.{Config}
use Rattle.mdcc_frag.specs.Datagrams.{count, datagram}
use Rattle.mdcc_frag.specs.declared.datagrams.FragHead.{FragHead}
use Rattle.mdcc_link.specs.Link.{LinkCall}
use Rattle.mdcc_serve_outbox.specs.Shows.{call_of, calls_of}
use Rattle.mdcc_def_server_runs.specs.Acts.{Act, but_answer, but_answers}
use Rattle.mdcc_def_server_runs.specs.Servers.{bound_at}

-- ---- one list after the other

pub without_append : (xs ys : List ClientAct) → without_answers (xs ++ ys) ≡ without_answers xs ++ without_answers ys
without_append xs ys = map-append without_answer xs ys

pub calls_append : (xs ys : List ClientAct) → calls_in (xs ++ ys) ≡ calls_in xs ++ calls_in ys
calls_append xs ys = flat_map-append call_by xs ys

pub printed_append : (xs ys : List ClientAct) → client_printed (xs ++ ys) ≡ client_printed xs ++ client_printed ys
printed_append xs ys = flat_map-append client_printed_by xs ys

pub received_append : (xs ys : List ClientAct) → received (xs ++ ys) ≡ received xs ++ received ys
received_append xs ys = flat_map-append received_by xs ys

-- two, and what is left of the next act
pub with_more : {A : Type 0} (all one two more : List A) → all ≡ one ++ two → one ++ (two ++ more) ≡ all ++ more
with_more all one two more e = sym (append_assoc one two more) ∙ ap (λ xs. xs ++ more) (sym e)

-- ---- those at the link

pub link_without : (acts : List Act) → without_answers (at_link acts) ≡ at_link (but_answers acts)
link_without [] = refl
link_without (act ∷ acts) = ap (λ (xs : List ClientAct). ClientAct.AtLink (but_answer act) ∷ xs) (link_without acts)

pub link_calls : (acts : List Act) → calls_in (at_link acts) ≡ calls_of acts
link_calls [] = refl
link_calls (act ∷ acts) = ap (λ (cs : List LinkCall). call_of act ++ cs) (link_calls acts)

pub link_prints : (acts : List Act) → client_printed (at_link acts) ≡ []
link_prints [] = refl
link_prints (act ∷ acts) = link_prints acts

-- ---- receives

datagrams_receive : (from : ℕ) (head : FragHead) (to : Address) (bytes indices : List ℕ) → received (at_link (map (λ index. Act.Send from to (datagram head index bytes) (Ok tt)) indices)) ≡ []
datagrams_receive from head to bytes [] = refl
datagrams_receive from head to bytes (index ∷ indices) = datagrams_receive from head to bytes indices

sent_receives : (order : Order) (client : Client) (address : Option Address) → received (at_link (request_sent_to order client address)) ≡ []
sent_receives order client None = refl
sent_receives order client (Some address) =
    datagrams_receive (request_head order client).sender (request_head order client) address client.request (range_with_len 0 (count (length client.request)))

-- no send is a receive
pub sends_receive : (config : Config) (order : Order) (wanted : Bool) (client : Client) → received (at_link (sends_if config order wanted client)) ≡ []
sends_receive config order true client = sent_receives order client (address_above config 16 order.centre)
sends_receive config order false client = refl

bound_receives : (at : ℕ) (address : Option Address) → received (at_link (bound_at at address)) ≡ []
bound_receives at None = refl
bound_receives at (Some address) = refl

-- nor is a bind
pub binds_receive : (config : Config) (order : Order) → received (at_link (bound_for config order)) ≡ []
binds_receive config order = bound_receives (order.centre + 16) (address_above config 32 order.centre)

-- ---- none later

none_in : {A : Type 0} (xs ys : List A) → xs ++ ys ≡ [] → ys ≡ []
none_in [] ys e = e
none_in (x ∷ xs) ys e = absurd (cc)

-- none is received at all
pub none_at_all : (acts : List ClientAct) → received acts ≡ [] → NoneLater acts
none_at_all [] e = tt
none_at_all (act ∷ acts) e = none_in (received_by act) (received acts) e

-- none is received behind them
pub none_behind : (rest more : List ClientAct) → NoneLater rest → received more ≡ [] → NoneLater (rest ++ more)
none_behind [] more later none = none_at_all more none
none_behind (act ∷ acts) more later none =
    received_append acts more ∙ (ap (λ (given : List (Option (List ℕ))). given ++ received more) later ∙ none)
