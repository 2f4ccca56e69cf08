-- What is seen of doings one after another.
use Rattle.std.proofs.Common.{◌≡◌, ◌∙◌, ◌++◌, ◌∷◌, ◌+◌, [], Err, List, None, Ok, Option, Result, Some, ap, append-nil, refl, subst, sym, take, ℕ}
use Rattle.std.specs.Io.KnownBytes.{Appends}
use Rattle.std.proofs.KnownBytes.{Appends-nil, Appends-trans}
use Rattle.mdcc_command_ask.proofs.ActLists.{calls_append, link_calls, link_prints, link_without, none_at_all, none_behind, printed_append, with_more, without_append}
use Rattle.mdcc_command_ask.specs.Acts.{ClientAct, at_link, calls_in, client_printed, received, without_answers}
use Rattle.mdcc_command_ask.specs.Asking.{ClientDoing, acts_only, client_and_then, joined_to}
use Rattle.mdcc_command_ask.specs.Effects.{AskFaultComesAt, BrokeOff, Did, Does, NoneLater, Prints, client_failed_next, client_text_begun, failed_with}
use Rattle.mdcc_command_ask.specs.declared.client.Client.{Client}
use Rattle.mdcc_command_ask.specs.declared.fault.AskFault.{AskFault}
use Rattle.mdcc_base.specs.declared.faults.Failed.{Failed}
use Rattle.mdcc_base.specs.declared.outside.Address.{Address}
use Rattle.mdcc_link.specs.Link.{AddsLinkCall, LinkCall}
use Rattle.mdcc_serve_outbox.proofs.Recorded.{call_recorded, none_recorded, recorded_joined}
use Rattle.mdcc_serve_outbox.specs.Sends.{Hands}
use Rattle.mdcc_serve_outbox.specs.Shows.{Records, call_of, calls_of}
use Rattle.mdcc_def_server_runs.specs.Acts.{Act}
use Rattle.mdcc_def_server_runs.specs.Servers.{bound_at}

-- ---- faults

-- what is left behind the act at which it ended does not matter
comes_before : (fault : AskFault) (rest more : List ClientAct) → AskFaultComesAt fault rest → AskFaultComesAt fault (rest ++ more)
comes_before AskFault.Memory rest more h = tt
comes_before AskFault.Output [] more h = absurd h
comes_before AskFault.Output (ClientAct.Print text ∷ acts) more h = tt
comes_before AskFault.Output (ClientAct.AtLink act ∷ acts) more h = absurd h
comes_before AskFault.Link [] more h = absurd h
comes_before AskFault.Link (ClientAct.Print text ∷ acts) more h = absurd h
comes_before AskFault.Link (ClientAct.AtLink (Act.Bind at address) ∷ acts) more h = tt
comes_before AskFault.Link (ClientAct.AtLink (Act.Receive at gave) ∷ acts) more h = tt
comes_before AskFault.Link (ClientAct.AtLink (Act.Send from to bytes answer) ∷ acts) more h = absurd h
comes_before AskFault.Link (ClientAct.AtLink (Act.Append centre fact) ∷ acts) more h = absurd h
comes_before AskFault.Link (ClientAct.AtLink (Act.Print line) ∷ acts) more h = absurd h
comes_before AskFault.Link (ClientAct.AtLink Act.Stepped ∷ acts) more h = absurd h
comes_before AskFault.Link (ClientAct.AtLink Act.Dropped ∷ acts) more h = absurd h
comes_before AskFault.Link (ClientAct.AtLink Act.Unsent ∷ acts) more h = absurd h

failed_before : (fault : AskFault) (rest more : List ClientAct) → AskFaultComesAt fault rest → failed_with fault (rest ++ more) ≡ failed_with fault rest
failed_before AskFault.Output rest more h = refl
failed_before AskFault.Memory rest more h = refl
failed_before AskFault.Link [] more h = absurd h
failed_before AskFault.Link (ClientAct.Print text ∷ acts) more h = refl
failed_before AskFault.Link (ClientAct.AtLink act ∷ acts) more h = refl

begun_before : (fault : AskFault) (rest more : List ClientAct) → AskFaultComesAt fault rest → client_text_begun fault (rest ++ more) ≡ client_text_begun fault rest
begun_before AskFault.Link rest more h = refl
begun_before AskFault.Memory rest more h = refl
begun_before AskFault.Output [] more h = absurd h
begun_before AskFault.Output (ClientAct.Print text ∷ acts) more h = refl
begun_before AskFault.Output (ClientAct.AtLink act ∷ acts) more h = refl

module _ {L O : Type 0} (calls : L → Option (List LinkCall)) (held : O → Option (List ℕ)) where
  -- ---- one after the other

  pub joined_did : (first second : ClientDoing) (l0 l1 l2 : L) (o0 o1 o2 : O) (c1 c2 : Client) → Did calls held first l0 l1 o0 o1 c1 → Did calls held second l1 l2 o1 o2 c2
      → Did calls held (joined_to first second) l0 l2 o0 o2 c2
  joined_did first second l0 l1 l2 o0 o1 o2 c1 c2 one two = record {
    acts = one.acts ++ two.acts;
    are = without_append one.acts two.acts ∙ (ap (λ (xs : List ClientAct). xs ++ without_answers two.acts) one.are ∙ ap (λ (ys : List ClientAct). first.acts ++ ys) two.are);
    recorded = subst (λ (cs : List LinkCall). Records cs (calls l0) (calls l2)) (sym (calls_append one.acts two.acts))
        (recorded_joined (calls_in one.acts) (calls_in two.acts) (calls l0) (calls l1) (calls l2) one.recorded two.recorded);
    output = subst (λ (text : List ℕ). Appends (held o0) (held o2) text) (sym (printed_append one.acts two.acts))
        (Appends-trans (held o0) (held o1) (held o2) (client_printed one.acts) (client_printed two.acts) one.output two.output);
    client_is = two.client_is;
  }

  pub broke_later : (first second : ClientDoing) (fault : AskFault) (l0 l1 l2 : L) (o0 o1 o2 : O) (c1 : Client) → Did calls held first l0 l1 o0 o1 c1 → BrokeOff calls held second fault l1 l2 o1 o2
      → BrokeOff calls held (joined_to first second) fault l0 l2 o0 o2
  broke_later first second fault l0 l1 l2 o0 o1 o2 c1 one two =
      let failed = failed_with fault two.rest in
      let begun = take two.printed_more (client_text_begun fault two.rest) in
      record {
        acts = one.acts ++ two.acts;
        rest = two.rest;
        are =
            sym (with_more (without_answers (one.acts ++ two.acts)) (without_answers one.acts) (without_answers two.acts) two.rest (without_append one.acts two.acts))
            ∙ (ap (λ (xs : List ClientAct). xs ++ (without_answers two.acts ++ two.rest)) one.are ∙ ap (λ (ys : List ClientAct). first.acts ++ ys) two.are);
        comes = two.comes;
        none_later = two.none_later;
        recorded = subst (λ (cs : List LinkCall). Records cs (calls l0) (calls l2))
            (with_more (calls_in (one.acts ++ two.acts)) (calls_in one.acts) (calls_in two.acts) failed (calls_append one.acts two.acts))
            (recorded_joined (calls_in one.acts) (calls_in two.acts ++ failed) (calls l0) (calls l1) (calls l2) one.recorded two.recorded);
        printed_more = two.printed_more;
        output = subst (λ (text : List ℕ). Appends (held o0) (held o2) text)
            (with_more (client_printed (one.acts ++ two.acts)) (client_printed one.acts) (client_printed two.acts) begun (printed_append one.acts two.acts))
            (Appends-trans (held o0) (held o1) (held o2) (client_printed one.acts) (client_printed two.acts ++ begun) one.output two.output);
      }

  -- where no receive is behind it
  pub broke_first : (first second : ClientDoing) (fault : AskFault) (l0 l1 : L) (o0 o1 : O) → received second.acts ≡ [] → BrokeOff calls held first fault l0 l1 o0 o1
      → BrokeOff calls held (joined_to first second) fault l0 l1 o0 o1
  broke_first first second fault l0 l1 o0 o1 none broke =
      let failed = failed_before fault broke.rest second.acts broke.comes in
      let begun = begun_before fault broke.rest second.acts broke.comes in
      record {
        acts = broke.acts;
        rest = broke.rest ++ second.acts;
        are = with_more first.acts (without_answers broke.acts) broke.rest second.acts (sym broke.are);
        comes = comes_before fault broke.rest second.acts broke.comes;
        none_later = none_behind broke.rest second.acts broke.none_later none;
        recorded = subst (λ (cs : List LinkCall). Records (calls_in broke.acts ++ cs) (calls l0) (calls l1)) (sym failed) broke.recorded;
        printed_more = broke.printed_more;
        output = subst (λ (text : List ℕ). Appends (held o0) (held o1) (client_printed broke.acts ++ take broke.printed_more text)) (sym begun) broke.output;
      }

  by_result : (first second : ClientDoing) (result : Result (Unit {0}) AskFault) (l0 l1 l2 : L) (o0 o1 o2 : O) (c1 c2 : Client) → Did calls held first l0 l1 o0 o1 c1 → Does calls held second result l1 l2 o1 o2 c2
      → Does calls held (joined_to first second) result l0 l2 o0 o2 c2
  by_result first second (Ok done) l0 l1 l2 o0 o1 o2 c1 c2 one two = joined_did first second l0 l1 l2 o0 o1 o2 c1 c2 one two
  by_result first second (Err fault) l0 l1 l2 o0 o1 o2 c1 c2 one two = broke_later first second fault l0 l1 l2 o0 o1 o2 c1 one two

  pub then_does : (first : ClientDoing) (next : Client → ClientDoing) (result : Result (Unit {0}) AskFault) (l0 l1 l2 : L) (o0 o1 o2 : O) (c1 c2 : Client) → Did calls held first l0 l1 o0 o1 c1
      → Does calls held (next c1) result l1 l2 o1 o2 c2 → Does calls held (client_and_then first next) result l0 l2 o0 o2 c2
  then_does first next result l0 l1 l2 o0 o1 o2 c1 c2 one two =
      by_result first (next first.client) result l0 l1 l2 o0 o1 o2 c1 c2 one (subst (λ (c : Client). Does calls held (next c) result l1 l2 o1 o2 c2) one.client_is two)

  -- ---- alone

  -- nothing was done, and nothing is left of it
  pub did_nothing : (client : Client) (l : L) (o : O) → Did calls held (acts_only [] client) l l o o client
  did_nothing client l o = record { acts = []; are = refl; recorded = none_recorded (calls l); output = Appends-nil (held o); client_is = refl }

  -- one act at the link, whose calls are recorded
  pub did_one : (act : Act) (client : Client) (l0 l1 : L) (o : O) → without_answers (ClientAct.AtLink act ∷ []) ≡ ClientAct.AtLink act ∷ [] → Records (call_of act) (calls l0) (calls l1)
      → Did calls held (acts_only (ClientAct.AtLink act ∷ []) client) l0 l1 o o client
  did_one act client l0 l1 o are recorded = record {
    acts = ClientAct.AtLink act ∷ [];
    are = are;
    recorded = subst (λ (cs : List LinkCall). Records cs (calls l0) (calls l1)) (sym (append-nil (call_of act))) recorded;
    output = Appends-nil (held o);
    client_is = refl;
  }

  -- a text is printed
  did_print : (text : List ℕ) (client : Client) (l : L) (o0 o1 : O) → Appends (held o0) (held o1) text → Did calls held (acts_only (ClientAct.Print text ∷ []) client) l l o0 o1 client
  did_print text client l o0 o1 wrote = record {
    acts = ClientAct.Print text ∷ [];
    are = refl;
    recorded = none_recorded (calls l);
    output = subst (λ (t : List ℕ). Appends (held o0) (held o1) t) (sym (append-nil text)) wrote;
    client_is = refl;
  }

  -- a request is handed to the link
  pub did_send : (lost faults : L → ℕ) (acts : List Act) (client : Client) (failed : ℕ) (l0 l1 : L) (o : O) → Hands calls lost faults acts l0 l1 failed → Did calls held (acts_only (at_link acts) client) l0 l1 o o client
  did_send lost faults acts client failed l0 l1 o hands = record {
    acts = at_link hands.acts;
    are = link_without hands.acts ∙ ap (λ (xs : List Act). at_link xs) hands.are;
    recorded = subst (λ (cs : List LinkCall). Records cs (calls l0) (calls l1)) (sym (link_calls hands.acts)) hands.recorded;
    output = subst (λ (text : List ℕ). Appends (held o) (held o) text) (sym (link_prints hands.acts)) (Appends-nil (held o));
    client_is = refl;
  }

  -- after a text
  pub did_make : (lost faults : L → ℕ) (text : List ℕ) (acts : List Act) (client : Client) (failed : ℕ) (l0 l1 : L) (o0 o1 : O) → Appends (held o0) (held o1) text → Hands calls lost faults acts l0 l1 failed
      → Did calls held (acts_only (ClientAct.Print text ∷ at_link acts) client) l0 l1 o0 o1 client
  did_make lost faults text acts client failed l0 l1 o0 o1 wrote hands =
      joined_did (acts_only (ClientAct.Print text ∷ []) client) (acts_only (at_link acts) client) l0 l0 l1 o0 o1 o1 client client (did_print text client l0 o0 o1 wrote) (did_send lost faults acts client failed l0 l1 o1 hands)

  -- the call of the first act failed, and nothing came behind it
  pub failed_acts : (acts : List ClientAct) (client : Client) (l0 l1 : L) (o : O) → AskFaultComesAt AskFault.Link acts → NoneLater acts → Records (client_failed_next acts) (calls l0) (calls l1)
      → BrokeOff calls held (acts_only acts client) AskFault.Link l0 l1 o o
  failed_acts acts client l0 l1 o comes later recorded =
      record { acts = []; rest = acts; are = refl; comes = comes; none_later = later; recorded = recorded; printed_more = 0; output = Appends-nil (held o) }

  -- memory lacked before anything was done of what has no receive
  pub not_begun : (doing : ClientDoing) (l : L) (o : O) → received doing.acts ≡ [] → BrokeOff calls held doing AskFault.Memory l l o o
  not_begun doing l o none = record {
    acts = [];
    rest = doing.acts;
    are = refl;
    comes = tt;
    none_later = none_at_all doing.acts none;
    recorded = none_recorded (calls l);
    printed_more = 0;
    output = Appends-nil (held o);
  }

  -- ---- a text

  -- some of it was written, and nothing behind it was done, which has no receive
  pub not_printed : (text : List ℕ) (acts : List ClientAct) (client : Client) (fault : AskFault) (l : L) (o0 o1 : O) → fault ≡ AskFault.Output → received acts ≡ [] → (n : ℕ) × Appends (held o0) (held o1) (take n text)
      → BrokeOff calls held (acts_only (ClientAct.Print text ∷ acts) client) fault l l o0 o1
  not_printed text acts client fault l o0 o1 output none begun =
      subst (λ (f : AskFault). BrokeOff calls held (acts_only (ClientAct.Print text ∷ acts) client) f l l o0 o1) (sym output) (record {
        acts = [];
        rest = ClientAct.Print text ∷ acts;
        are = refl;
        comes = tt;
        none_later = none;
        recorded = none_recorded (calls l);
        printed_more = begun.0;
        output = begun.1;
      })

  pub prints_alone : (faults : O → ℕ) (text : List ℕ) (client : Client) (result : Result (Unit {0}) AskFault) (l : L) (o0 o1 : O) → Prints held faults text result o0 o1
      → Does calls held (acts_only (ClientAct.Print text ∷ []) client) result l l o0 o1 client
  prints_alone faults text client (Ok done) l o0 o1 prints = did_print text client l o0 o1 prints.all
  prints_alone faults text client (Err fault) l o0 o1 prints = not_printed text [] client fault l o0 o1 prints.fault refl prints.begun

-- ---- a bind

pub bound_did : {L O : Type 0} (calls : L → Option (List LinkCall)) (held : O → Option (List ℕ)) (at : ℕ) (address : Option Address) (client : Client) (l0 l1 : L) (o : O)
    → Records (calls_of (bound_at at address)) (calls l0) (calls l1) → Did calls held (acts_only (at_link (bound_at at address)) client) l0 l1 o o client
bound_did calls held at None client l0 l1 o recorded = record { acts = []; are = refl; recorded = recorded; output = Appends-nil (held o); client_is = refl }
bound_did calls held at (Some address) client l0 l1 o recorded = record { acts = ClientAct.AtLink (Act.Bind at address) ∷ []; are = refl; recorded = recorded; output = Appends-nil (held o); client_is = refl }

-- what its call leaves
pub bound_recorded : (n centre : ℕ) (address : Address) (there : Option Address) (x : Unit {0}) (old new : Option (List LinkCall)) → n ≡ centre → Some address ≡ there
    → AddsLinkCall (LinkCall.Bind (n + 16) address (Ok x)) old new (Ok x) → Records (calls_of (bound_at (centre + 16) there)) old new
bound_recorded n centre address there x old new same is adds =
    subst (λ (o : Option Address). Records (calls_of (bound_at (centre + 16) o)) old new) is
    (subst (λ (m : ℕ). Records (LinkCall.Bind (m + 16) address (Ok x) ∷ []) old new) same (call_recorded (LinkCall.Bind (n + 16) address (Ok x)) old new (Ok x) adds))

pub failed_recorded : (n centre : ℕ) (address : Address) (there : Option Address) (fault : Failed) (old new : Option (List LinkCall)) → n ≡ centre → Some address ≡ there
    → AddsLinkCall {T = Unit {0}} (LinkCall.Bind (n + 16) address (Err fault)) old new (Err fault) → Records (client_failed_next (at_link (bound_at (centre + 16) there))) old new
failed_recorded n centre address there fault old new same is adds =
    subst (λ (o : Option Address). Records (client_failed_next (at_link (bound_at (centre + 16) o))) old new) is
    (subst (λ (m : ℕ). Records (LinkCall.Bind (m + 16) address (Err fault) ∷ []) old new) same (call_recorded {T = Unit {0}} (LinkCall.Bind (n + 16) address (Err fault)) old new (Err fault) adds))

pub bind_comes : (at : ℕ) (address : Address) (there : Option Address) → Some address ≡ there → AskFaultComesAt AskFault.Link (at_link (bound_at at there))
bind_comes at address there is = subst (λ (o : Option Address). AskFaultComesAt AskFault.Link (at_link (bound_at at o))) is tt
