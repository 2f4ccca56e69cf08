-- What the manager does, by what it was asked.
use Rattle.std.proofs.Common.{◌≡◌, true, false, None, Option, Some, refl, not, ◌&&◌}
use Rattle.std.specs.Prelude.{is_some, option_map, ℕ}
use Rattle.mdcc_base.specs.Quorums.{home_of}
use Rattle.mdcc_base.specs.Sizes.{Sizes}
use Rattle.mdcc_base.specs.declared.identifiers.TxId.{TxId}
use Rattle.mdcc_base.specs.declared.key.Key.{Key}
use Rattle.mdcc_option.specs.declared.choices.Cause.{Cause}
use Rattle.mdcc_option.specs.declared.choices.Outcome.{Outcome}
use Rattle.mdcc_def_protocol.specs.Learner.{collided, is_learned}
use Rattle.mdcc_def_protocol.specs.Manager.{act_on_cause, act_on_vote, acted, after_act, choice_unled, decision, lead_act, on_escalate}
use Rattle.mdcc_def_protocol.specs.Volatile.{Managing, is_opened}
use Rattle.mdcc_def_protocol.specs.declared.manager.ManagerAct.{ManagerAct}
use Rattle.mdcc_def_protocol.specs.declared.votes.Vote.{Vote}

-- a collision that decides nothing leads the choice
pub act-collided : (quorums : Sizes) (managing : Managing) (vote : Vote)
    → None ≡ decision quorums managing vote.tx → true ≡ collided quorums managing.votes vote.tx vote.key
    → act_on_vote quorums managing vote (decision quorums managing vote.tx)
    ≡ lead_act (home_of quorums vote.key) (choice_unled managing vote.tx vote.key)
act-collided quorums managing vote none e = rw (← none, ← e) refl

pub act-decided : (quorums : Sizes) (managing : Managing) (vote : Vote) (outcome : Option Outcome) → true ≡ is_some outcome
    → act_on_vote quorums managing vote outcome ≡ option_map (λ o. ManagerAct.Decide vote.tx o) outcome
act-decided quorums managing vote None e = absurd (cc)
act-decided quorums managing vote (Some outcome) e = refl

pub left-decided : (quorums : Sizes) (managing : Managing) (vote : Vote) (outcome : Option Outcome) → true ≡ is_some outcome
    → after_act managing (act_on_vote quorums managing vote outcome) ≡ managing
left-decided quorums managing vote None e = absurd (cc)
left-decided quorums managing vote (Some outcome) e = refl

pub undecided-none : (outcome : Option Outcome) → false ≡ is_some outcome → None ≡ outcome
undecided-none None e = refl
undecided-none (Some outcome) e = absurd (cc)

-- what decides nothing and does not collide does nothing
pub act-quiet : (quorums : Sizes) (managing : Managing) (vote : Vote) (outcome : Option Outcome)
    → None ≡ outcome → false ≡ collided quorums managing.votes vote.tx vote.key → act_on_vote quorums managing vote outcome ≡ None
act-quiet quorums managing vote outcome none e = rw (← none, ← e) refl

-- what is open and not learned is acted on
pub escalate-awaited : (quorums : Sizes) (managing : Managing) (from : ℕ) (tx : TxId) (key : Key) (cause : Cause)
    → true ≡ (is_opened managing tx && not (is_learned quorums managing.votes tx key))
    → on_escalate quorums managing from tx key cause ≡ acted managing (act_on_cause quorums managing from tx key cause)
escalate-awaited quorums managing from tx key cause e = rw (← e) refl

pub escalate-closed : (quorums : Sizes) (managing : Managing) (from : ℕ) (tx : TxId) (key : Key) (cause : Cause)
    → false ≡ (is_opened managing tx && not (is_learned quorums managing.votes tx key))
    → on_escalate quorums managing from tx key cause ≡ (None, managing)
escalate-closed quorums managing from tx key cause e = rw (← e) refl
