-- What a tick does with the open transactions that a manager keeps.
use Rattle.std.specs.Prelude.{List, filter, if◌then◌else◌, map, not, ◌||◌}
use Rattle.mdcc_base.specs.Sizes.{Sizes}
use Rattle.mdcc_base.specs.declared.identifiers.TxId.{TxId}
use Rattle.mdcc_manager.specs.declared.opened.OpenChoice.{OpenChoice}
use Rattle.mdcc_manager.specs.declared.opened.OpenTransaction.{OpenTransaction}
use Rattle.mdcc_option.specs.declared.choices.Choice.{Choice}
use Rattle.mdcc_def_protocol.specs.Learner.{is_learned}
use Rattle.mdcc_def_protocol.specs.Manager.{act_at, is_odd}
use Rattle.mdcc_def_protocol.specs.Volatile.{next_count}
use Rattle.mdcc_def_protocol.specs.declared.manager.ManagerAct.{ManagerAct}
use Rattle.mdcc_def_protocol.specs.declared.votes.Vote.{Vote}

-- the choices that are not learned
abbrev pub unlearned_in : Sizes → List Vote → TxId → List OpenChoice → List Choice
unlearned_in quorums votes tx choices =
    filter (λ choice. not (is_learned quorums votes tx choice.key)) (map (λ entry. entry.choice) choices)

abbrev pub acts_in : Sizes → List Vote → OpenTransaction → List ManagerAct
acts_in quorums votes t = map (act_at (next_count t.ticks)) (unlearned_in quorums votes t.tx t.choices)

-- a choice that is not learned is marked led
abbrev pub led_unlearned : Sizes → List Vote → TxId → OpenChoice → OpenChoice
led_unlearned quorums votes tx entry = record entry { led = entry.led || not (is_learned quorums votes tx entry.choice.key) }

-- the counter rises, and at an even one each choice that is not learned is marked led
abbrev pub ticked_in : Sizes → List Vote → OpenTransaction → OpenTransaction
ticked_in quorums votes t = record t {
  choices = if is_odd (next_count t.ticks) then t.choices else map (led_unlearned quorums votes t.tx) t.choices;
  ticks = next_count t.ticks;
}
