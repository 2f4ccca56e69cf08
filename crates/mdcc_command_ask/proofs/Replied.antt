-- What a client replies.
use Rattle.std.proofs.Common.{◌≡◌, ◌∙◌, ◌+◌, ◌++◌, ◌==◌, ◌<◌, ◌∷◌, [], Bool, Err, List, Result, ap, arith, cond, false, length, refl, sym, true, ℕ}
use Rattle.std.proofs.lemmas.Bool.Decides.{nat_tests}
use Rattle.std.specs.Bool.{OnFalse}
use Rattle.mdcc_command_ask.specs.Answers.{answered, asked_shown, begins, begins_any, begun, goes_on, is_asked, printing_first, shows_read, with_known}
use Rattle.mdcc_command_ask.specs.Requests.{Reaction, idle, reaction_of}
use Rattle.mdcc_command_ask.specs.Texts.{begin_line, read_line}
use Rattle.mdcc_command_ask.specs.declared.client.Client.{Client}
use Rattle.mdcc_command_ask.specs.declared.client.Phase.{Phase}
use Rattle.mdcc_command_ask.specs.declared.order.Order.{Order}
use Rattle.mdcc_command_ask.specs.declared.reply.Reply.{Reply}
use Rattle.mdcc_base.specs.declared.identifiers.TxId.{TxId}
use Rattle.mdcc_def_language.specs.Resolve.{resolve}
use Rattle.mdcc_def_language.specs.declared.events.UpdateWord.{UpdateWord}
use Rattle.mdcc_def_language.specs.declared.schedule.ResolveFault.{ResolveFault}
use Rattle.mdcc_option.specs.declared.items.Known.{Known}
use Rattle.mdcc_option.specs.declared.items.Part.{Part}
use Rattle.mdcc_option.specs.declared.schema.Schema.{Schema}
use Rattle.mdcc_sched.specs.Free.{is_resolve_memory}

on_false : (b : Bool) (P : Type 0) → b ≡ false → OnFalse b P → P
on_false true P e h = absurd (cc)
on_false false P e h = h

-- a fault that is not want of memory is the expected one
pub resolved : (fault : ResolveFault) (expected : Result (List Part) ResolveFault) → is_resolve_memory fault ≡ false → OnFalse (is_resolve_memory fault) (Err fault ≡ expected) → Err fault ≡ expected
resolved fault expected e h = on_false (is_resolve_memory fault) (Err fault ≡ expected) e h

-- there are no updates
pub none_begun : (schema : Schema) (order : Order) (client : Client) → order.updates ≡ [] → answered [] client ≡ begins_any schema order client
none_begun schema order client e =
    ap (λ (b : Bool). cond b (answered [] client) (begins schema order client (resolve order.updates client.known))) (some_or_none order.updates e)
  where
    some_or_none : (updates : List UpdateWord) → updates ≡ [] → true ≡ (length updates == 0)
    some_or_none [] same = refl
    some_or_none (update ∷ more) same = absurd (cc)

-- there are some
pub some_begun : (schema : Schema) (order : Order) (client : Client) → (order.updates ≡ [] → ⊥) → begins schema order client (resolve order.updates client.known) ≡ begins_any schema order client
some_begun schema order client some =
    ap (λ (b : Bool). cond b (answered [] client) (begins schema order client (resolve order.updates client.known))) (not_none order.updates some)
  where
    not_zero : (n : ℕ) → 0 < n → (n == 0) ≡ false
    not_zero n some_there = grind (arith, nat_tests)

    not_none : (updates : List UpdateWord) → (updates ≡ [] → ⊥) → false ≡ (length updates == 0)
    not_none [] other = absurd (other refl)
    not_none (update ∷ more) other = sym (not_zero (length (update ∷ more)) (omega arith))

-- a read was answered, and what came next was requested
pub shown_by : (schema : Schema) (order : Order) (client : Client) (known : Known) (line text : List ℕ) (next : Reply) (mid new : Client) → mid ≡ with_known client known
    → reaction_of next new ≡ goes_on schema order mid → line ≡ read_line (length client.known + 1) order.centre known → text ≡ line ++ next.text
    → let reply : Reply = record { text = text; sends = next.sends } in reaction_of reply new ≡ shows_read schema order client known
shown_by schema order client known line text next mid new mid_is next_is line_is text_is =
    ap (λ (t : List ℕ). let reaction : Reaction = record { text = t; sends = next.sends; client = new } in reaction) text_is
    ∙ ap (λ (r : Reaction). printing_first line r) next_is
    ∙ ap (λ (l : List ℕ). printing_first l (goes_on schema order mid)) line_is
    ∙ ap (λ (c : Client). printing_first (read_line (length client.known + 1) order.centre known) (goes_on schema order c)) mid_is

-- a transaction was begun
pub begun_by : (client : Client) (tx : TxId) (text : List ℕ) → text ≡ begin_line tx
    → let reaction : Reaction = record { text = text; sends = false; client = record client { phase = Phase.Waiting tx } } in reaction ≡ begun client tx
begun_by client tx text e = ap (λ (t : List ℕ). let reaction : Reaction = record { text = t; sends = false; client = record client { phase = Phase.Waiting tx } } in reaction) e

-- nothing is replied
pub idle_by : (client : Client) (reply : Reply) → (let none : Reply = record { text = []; sends = false } in reply ≡ none) → reaction_of reply client ≡ idle client
idle_by client reply e = ap (λ (r : Reply). reaction_of r client) e

-- whether its key was asked for
pub not_asked : (schema : Schema) (order : Order) (client : Client) (known : Known) (asked : Bool) → asked ≡ is_asked order client known.key → asked ≡ false → idle client ≡ asked_shown schema order client known
not_asked schema order client known asked is other = ap (λ (b : Bool). cond b (shows_read schema order client known) (idle client)) (sym other ∙ is)

pub asked_in : (schema : Schema) (order : Order) (client : Client) (known : Known) (asked : Bool) → asked ≡ is_asked order client known.key → asked ≡ true → shows_read schema order client known ≡ asked_shown schema order client known
asked_in schema order client known asked is same = ap (λ (b : Bool). cond b (shows_read schema order client known) (idle client)) (sym same ∙ is)
