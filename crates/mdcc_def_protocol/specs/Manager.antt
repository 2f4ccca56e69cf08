-- The manager: it begins transactions, and decides them by the votes that it takes. (MDCC; at which ticks what is done is our own rule.)
use Rattle.std.specs.Option.{option_or}
use Rattle.std.specs.Prelude.{Bool, Err, List, None, Ok, Option, Result, Some, [], filter, find, flat_map, fold, if◌then◌else◌, length, map, nat_le, not, option_and_then, option_map, unwrap_or, ℕ, ◌%◌, ◌&&◌, ◌++◌, ◌+◌, ◌-◌, ◌==◌, ◌^◌, ◌∷◌}
use Rattle.mdcc_base.specs.Key.{key_eq}
use Rattle.mdcc_base.specs.Quorums.{home_of}
use Rattle.mdcc_base.specs.Sizes.{Sizes}
use Rattle.mdcc_base.specs.declared.identifiers.TxId.{TxId}
use Rattle.mdcc_base.specs.declared.key.Key.{Key}
use Rattle.mdcc_option.specs.Equality.{txs_eq}
use Rattle.mdcc_option.specs.Transaction.{choices_of}
use Rattle.mdcc_option.specs.declared.choices.Cause.{Cause}
use Rattle.mdcc_option.specs.declared.choices.Choice.{Choice}
use Rattle.mdcc_option.specs.declared.choices.Outcome.{Outcome}
use Rattle.mdcc_option.specs.declared.faults.BeginFault.{BeginFault}
use Rattle.mdcc_option.specs.declared.items.Part.{Part}
use Rattle.mdcc_option.specs.declared.items.Token.{Token}
use Rattle.mdcc_option.specs.declared.items.Update.{Update}
use Rattle.mdcc_def_protocol.specs.Facts.{current_of, token_of}
use Rattle.mdcc_def_protocol.specs.Learner.{collided, decision_of, is_learned, with_counted_vote}
use Rattle.mdcc_def_protocol.specs.Volatile.{Managing, Undecided, has_key, is_opened, next_count, opened_of, with_led}
use Rattle.mdcc_def_messages.specs.declared.facts.Fact.{Fact}
use Rattle.mdcc_def_protocol.specs.declared.manager.ManagerAct.{ManagerAct}
use Rattle.mdcc_def_protocol.specs.declared.votes.Vote.{Vote}

-- ---- begin

-- a Write saw just what is held now
abbrev pub write_fault : Token → ℕ → List TxId → Option BeginFault
write_fault token version seen = if token.version == version && txs_eq token.seen seen then None else Some (BeginFault.Stale token)

-- an Add names the version that is held, which has an item
abbrev pub add_fault : ℕ → ℕ → Option BeginFault
add_fault current version = if current == version then (if current == 0 then Some BeginFault.NoItem else None) else Some (BeginFault.Unseen current)

abbrev pub update_begin_fault : List Fact → Key → ℕ → Update → Option BeginFault
update_begin_fault facts key version (Update.Write item seen) = write_fault (token_of facts key) version seen
update_begin_fault facts key version (Update.Add amounts) = add_fault (current_of facts key) version

-- why a part cannot be begun here
abbrev pub part_begin_fault : List Fact → Part → Option BeginFault
part_begin_fault facts part = update_begin_fault facts part.key part.version part.update

-- the first part that cannot, with its key
abbrev pub parts_begin_fault : List Fact → List Part → Option (Key × BeginFault)
parts_begin_fault facts [] = None
parts_begin_fault facts (part ∷ parts) =
    option_or (option_map (λ fault. (part.key, fault)) (part_begin_fault facts part)) (parts_begin_fault facts parts)

abbrev pub first_key : List Part → Key
first_key [] = []
first_key (part ∷ parts) = part.key

-- the key that is named for a refusal: that of the first part that cannot be begun, else the first
abbrev pub key_refused : List Fact → List Part → Key
key_refused facts parts = unwrap_or (option_map (λ fault. fault.0) (parts_begin_fault facts parts)) (first_key parts)

-- why parts in key order begin no transaction, with the key that is named for it
abbrev pub begin_fault : List Fact → Managing → List Part → Option (Key × BeginFault)
begin_fault facts manager parts =
    option_or (parts_begin_fault facts parts)
    (if nat_le (2 ^ 32 - 1) manager.seq then Some (first_key parts, BeginFault.Sequence)
    else (if nat_le 256 (length manager.opened) then Some (first_key parts, BeginFault.Busy) else None))

-- the transaction has the next sequence number of the epoch, and is open
abbrev pub begun_transaction : ℕ → ℕ → Managing → List Part → TxId × Managing
begun_transaction me epoch manager parts =
    let seq = manager.seq + 1 in
    let tx : TxId = record { centre = me; epoch = epoch; seq = seq } in (
      tx,
      record manager {
        seq = seq;
        opened = manager.opened ++ record { tx = tx; choices = choices_of tx parts; led = []; ticks = 0 } ∷ [];
      },
    )

abbrev pub begin_with : ℕ → ℕ → Managing → List Part → Option (Key × BeginFault) → Result (TxId × Managing) BeginFault
begin_with me epoch manager parts (Some fault) = Err fault.1
begin_with me epoch manager parts None = Ok (begun_transaction me epoch manager parts)

-- what the manager of a centre answers in its epoch to parts in key order, and leaves
abbrev pub begin : ℕ → ℕ → List Fact → Managing → List Part → Result (TxId × Managing) BeginFault
begin me epoch facts manager parts = begin_with me epoch manager parts (begin_fault facts manager parts)

-- ---- decisions

abbrev pub keys_of_choices : List Choice → List Key
keys_of_choices choices = map (λ choice. choice.key) choices

-- what the votes decide of an open transaction
abbrev pub decision : Sizes → Managing → TxId → Option Outcome
decision quorums manager tx =
    option_and_then (λ t. decision_of quorums manager.votes tx (keys_of_choices t.choices)) (opened_of manager tx)

-- a vote on an open transaction is taken
abbrev pub vote_taken : Sizes → Managing → Vote → Managing
vote_taken quorums manager vote =
    if is_opened manager vote.tx then record manager { votes = with_counted_vote quorums manager.votes vote } else manager

-- what a vote would decide
abbrev pub would_decide : Sizes → Managing → Vote → Option Outcome
would_decide quorums manager vote = decision quorums (vote_taken quorums manager vote) vote.tx

-- ---- leaders are asked

abbrev pub choice_on_key : List Choice → Key → Option Choice
choice_on_key choices key = find (λ choice. key_eq choice.key key) choices

-- the choice of a key of an open transaction, where it is not marked led
abbrev pub choice_unled : Managing → TxId → Key → Option Choice
choice_unled manager tx key =
    option_and_then (λ t. if has_key t.led key then None else choice_on_key t.choices key) (opened_of manager tx)

abbrev pub lead_act : ℕ → Option Choice → Option ManagerAct
lead_act leader choice = option_map (λ c. ManagerAct.Lead leader c) choice

-- a choice that goes to a leader is marked led
abbrev pub after_act : Managing → Option ManagerAct → Managing
after_act manager (Some (ManagerAct.Lead leader choice)) = with_led manager choice.tx choice.key
after_act manager act = manager

abbrev pub acted : Managing → Option ManagerAct → Option ManagerAct × Managing
acted manager act = (act, after_act manager act)

-- ---- votes

-- the decision, or else a choice that has collided goes to the home of its key
abbrev pub act_on_vote : Sizes → Managing → Vote → Option Outcome → Option ManagerAct
act_on_vote quorums manager vote (Some outcome) = Some (ManagerAct.Decide vote.tx outcome)
act_on_vote quorums manager vote None =
    if collided quorums manager.votes vote.tx vote.key
    then lead_act (home_of quorums vote.key) (choice_unled manager vote.tx vote.key) else None

-- what the manager does at a vote, and leaves
abbrev pub on_voted : Sizes → Managing → Vote → Option ManagerAct × Managing
on_voted quorums manager vote =
    let taken = vote_taken quorums manager vote in
    acted taken (act_on_vote quorums taken vote (decision quorums taken vote.tx))

-- ---- acceptors that give no vote

abbrev pub escalated_to : Sizes → Key → Cause → ℕ
escalated_to quorums key (Cause.Classic ballot) = ballot.centre
escalated_to quorums key cause = home_of quorums key

-- data for a centre that is behind, else the choice for a leader
abbrev pub act_on_cause : Sizes → Managing → ℕ → TxId → Key → Cause → Option ManagerAct
act_on_cause quorums manager from tx key Cause.Behind = Some (ManagerAct.Give from key)
act_on_cause quorums manager from tx key cause = lead_act (escalated_to quorums key cause) (choice_unled manager tx key)

-- what the manager does where a centre gives no vote, and leaves: nothing for what is not open or is learned
abbrev pub on_escalate : Sizes → Managing → ℕ → TxId → Key → Cause → Option ManagerAct × Managing
on_escalate quorums manager from tx key cause =
    if is_opened manager tx && not (is_learned quorums manager.votes tx key)
    then acted manager (act_on_cause quorums manager from tx key cause) else (None, manager)

-- ---- the tick

-- the choices of an open transaction that are not learned, in key order
abbrev pub choices_unlearned : Sizes → List Vote → Undecided → List Choice
choices_unlearned quorums votes t = filter (λ choice. not (is_learned quorums votes t.tx choice.key)) t.choices

abbrev pub is_odd : ℕ → Bool
is_odd n = n % 2 == 1

-- at an odd counter a choice is proposed again, at an even one it is led here
abbrev pub act_at : ℕ → Choice → ManagerAct
act_at n choice = if is_odd n then ManagerAct.Propose choice else ManagerAct.LeadHere choice

abbrev pub acts_at : Sizes → List Vote → Undecided → List ManagerAct
acts_at quorums votes t = map (act_at (next_count t.ticks)) (choices_unlearned quorums votes t)

-- the keys that are marked led with those of these choices
abbrev pub led_with : List Key → List Choice → List Key
led_with led choices = fold (λ keys choice. choice.key ∷ keys) led choices

-- the counter rises, and what is led here is marked led
abbrev pub ticked_transaction : Sizes → List Vote → Undecided → Undecided
ticked_transaction quorums votes t =
    let n = next_count t.ticks in
    record t { led = if is_odd n then t.led else led_with t.led (choices_unlearned quorums votes t); ticks = n }

-- what the manager does at a tick for each open transaction in order, and leaves
abbrev pub tick : Sizes → Managing → List ManagerAct × Managing
tick quorums manager = (
  flat_map (acts_at quorums manager.votes) manager.opened,
  record manager { opened = map (ticked_transaction quorums manager.votes) manager.opened },
)
