-- The history of a cluster: the lives of its centres, and all their acts in one order.
use Rattle.std.specs.Prelude.{List, None, Option, Some, [], if◌then◌else◌, map, ⊤, ℕ, ◌==◌, ◌∷◌, ◌≡◌}
use Rattle.mdcc_config.specs.IsConfig.{IsConfig}
use Rattle.mdcc_config.specs.declared.config.Config.{Config}
use Rattle.mdcc_def_messages.specs.declared.facts.Fact.{Fact}
use Rattle.mdcc_def_server_runs.specs.Acts.{Act, appended_by, but_answer}
use Rattle.mdcc_theorem_clusters.specs.Clusters.{Move, after_moves, log_of, not_started}
use Rattle.mdcc_theorem_clusters.specs.Executions.{IsExecution}
use Rattle.mdcc_theorem_clusters.specs.Traces.{MayDoNext}
use Rattle.mdcc_theorem_server_lives.specs.Lives.{IsLifeOf, Life, onto}

-- ---- steps

pub data Step : Type 0 where
  -- a life begins
  Begins : (life : Life) → Step
  -- the centre does the next act of its life
  Does : (centre : ℕ) → Step
  -- its life is over
  Ends : (centre : ℕ) → Step

-- a life, and the acts of it that are left
pub record Underway : Type 0 where
  pub life : Life
  pub left : List Act

-- all acts that were done, each with its centre, the newest first; the facts in the log of each centre, the newest first; and the life that it
-- lives now
pub record Present : Type 0 where
  pub done : List (ℕ × Act)
  pub log : ℕ → List Fact
  pub now : ℕ → Option Underway

-- at first all logs are empty
abbrev pub at_first : Present
at_first = record { done = []; log = λ a. []; now = λ a. None }

-- at this centre another life, or none, and another log
abbrev pub with_life : List (ℕ × Act) → Present → ℕ → Option Underway → List Fact → Present
with_life done present a life log =
    record { done = done; log = λ b. if a == b then log else present.log b; now = λ b. if a == b then life else present.now b }

abbrev pub after_left : Present → ℕ → Life → List Act → Present
after_left present a life [] = present
after_left present a life (act ∷ left) =
    with_life ((a, act) ∷ present.done) present a (Some (record { life = life; left = left })) (onto (present.log a) (appended_by a act))

abbrev pub after_act_at : Present → ℕ → Option Underway → Present
after_act_at present a None = present
after_act_at present a (Some one) = after_left present a one.life one.left

-- its log is that which it left
abbrev pub after_end_at : Present → ℕ → Option Underway → Present
after_end_at present a None = present
after_end_at present a (Some one) = with_life present.done present a None one.life.kept

abbrev pub after_life_step : Present → Step → Present
after_life_step present (Step.Begins life) = with_life present.done present life.centre (Some (record { life = life; left = life.acts })) life.log
after_life_step present (Step.Does a) = after_act_at present a (present.now a)
after_life_step present (Step.Ends a) = after_end_at present a (present.now a)

abbrev pub after_life_steps : Present → List Step → Present
after_life_steps present [] = present
after_life_steps present (step ∷ steps) = after_life_steps (after_life_step present step) steps

-- ---- which histories are spoken of

abbrev pub life_left_of : Option Underway → Option (List Act)
life_left_of None = None
life_left_of (Some one) = Some one.left

abbrev pub MayEnd : Option Underway → Type 0
MayEnd None = ⊤
MayEnd (Some one) = one.left ≡ []

-- One life of a centre begins when none is on, over the log that the one before left.
pub record MayBeginLife (config : Config) (present : Present) (life : Life) : Type 0 where
  pub alone : present.now life.centre ≡ None
  pub log : life.log ≡ present.log life.centre
  pub is : IsLifeOf config life

-- what a receive at a centre's own endpoint gives was sent before by a centre of the cluster, and a life is over once all its acts are done
abbrev pub MayBeNext : Config → Present → Step → Type 0
MayBeNext config present (Step.Begins life) = MayBeginLife config present life
MayBeNext config present (Step.Does a) = MayDoNext present.done a (life_left_of (present.now a))
MayBeNext config present (Step.Ends a) = MayEnd (present.now a)

abbrev pub IsHistory : Config → Present → List Step → Type 0
IsHistory config present [] = ⊤
IsHistory config present (step ∷ steps) = MayBeNext config present step × IsHistory config (after_life_step present step) steps

-- ---- what is proved of them

-- all acts, but for what the link answered to sends
abbrev pub but_all_answers : List (ℕ × Act) → List (ℕ × Act)
but_all_answers done = map (λ (one : ℕ × Act). (one.0, but_answer one.1)) done

-- The acts are those of an execution, but for what the link answered, and the logs have what is durable in it.
pub record HasExecution (config : Config) (present : Present) : Type 0 where
  pub moves : List Move
  pub executed : IsExecution config not_started moves
  pub done : but_all_answers present.done ≡ (after_moves config not_started moves).done
  pub logs : (a : ℕ) → present.log a ≡ log_of (after_moves config not_started moves).durable a

abbrev pub HistoriesAreExecutions : Type 0
HistoriesAreExecutions = (config : Config) → IsConfig config → (steps : List Step) → IsHistory config at_first steps → HasExecution config (after_life_steps at_first steps)
