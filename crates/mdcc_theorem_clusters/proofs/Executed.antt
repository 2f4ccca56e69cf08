-- Where the test passes, the moves are an execution.
use Rattle.std.proofs.Common.{Bool, List, None, Option, Some, [], ap, false, inl, inr, refl, subst, sym, true, ℕ, ◌&&◌, ◌==◌, ◌^◌, ◌∙◌, ◌∷◌, ◌≡◌}
use Rattle.std.specs.List.{AllByRecursion}
use Rattle.std.specs.Prelude.{nat_eq, nat_lt}
use Rattle.std.proofs.lemmas.Bool.{and_parts, cases_Bool, eqb-true, ltb-true}
use Rattle.mdcc_base.specs.Counts.{sum_over}
use Rattle.mdcc_config.specs.declared.config.Config.{Config}
use Rattle.mdcc_def_messages.specs.Lengths.{fact_length}
use Rattle.mdcc_def_protocol.specs.Belongs.{is_centre}
use Rattle.mdcc_def_server_runs.specs.Acts.{Act}
use Rattle.mdcc_def_server_runs.specs.Runs.{listed}
use Rattle.mdcc_def_server_runs.specs.Sites.{Doing, Site}
use Rattle.mdcc_def_server_runs.specs.Turns.{Given}
use Rattle.mdcc_theorem_clusters.specs.Clusters.{Deployment, Move, Process, after_do_at, after_move, after_process_act, after_start_at, after_stop_at, after_turn_at}
use Rattle.mdcc_theorem_clusters.specs.Executions.{AreWithinLimits, CameFromCentres, IsExecution, IsWithinLimits, MayDeliver, MayMove, WasSent}
use Rattle.mdcc_theorem_clusters.specs.ExecutionTest.{are_bytes, centre_of, is_execution, is_within_limits, may_cut, may_deliver, may_move, may_receive_asked, may_receive_own, same_bytes, sends_these, was_sent}
use Rattle.mdcc_theorem_encoding.specs.Laws.{AreBytes}

-- ---- what receives give

same-bytes : (bytes others : List ℕ) → same_bytes bytes others ≡ true → bytes ≡ others
same-bytes [] [] h = refl
same-bytes [] (c ∷ others) h = absurd (cc)
same-bytes (b ∷ bytes) [] h = absurd (cc)
same-bytes (b ∷ bytes) (c ∷ others) h =
    let both = and_parts (nat_eq b c) (same_bytes bytes others) h in
    let first : b ≡ c = eqb-true b c both.0 in
    let rest : bytes ≡ others = same-bytes bytes others both.1 in
    cc

sent-more : (one : ℕ × Act) (done : List (ℕ × Act)) (bytes : List ℕ) → WasSent done bytes → WasSent (one ∷ done) bytes
sent-more one done bytes h = record { centre = h.centre; from = h.from; to = h.to; answer = h.answer; one_of = inr h.one_of }

sent-here : (a : ℕ) (act : Act) (done : List (ℕ × Act)) (bytes : List ℕ) → sends_these bytes act ≡ true → WasSent ((a, act) ∷ done) bytes
sent-here a (Act.Send from to sent answer) done bytes h =
    record { centre = a; from = from; to = to; answer = answer; one_of = inl (ap (λ (z : List ℕ). (a, Act.Send from to z answer)) (same-bytes bytes sent h)) }
sent-here a (Act.Bind at address) done bytes h = absurd (cc)
sent-here a (Act.Receive at gave) done bytes h = absurd (cc)
sent-here a (Act.Append centre facts) done bytes h = absurd (cc)
sent-here a (Act.Print line) done bytes h = absurd (cc)
sent-here a Act.Stepped done bytes h = absurd (cc)
sent-here a Act.Dropped done bytes h = absurd (cc)
sent-here a Act.Unsent done bytes h = absurd (cc)

pub was-sent : (done : List (ℕ × Act)) (bytes : List ℕ) → was_sent done bytes ≡ true → WasSent done bytes
was-sent [] bytes h = absurd (cc)
was-sent ((a, act) ∷ done) bytes h =
    elim (cases_Bool (sends_these bytes act)) [
      | inl e ↦ sent-here a act done bytes e
      | inr e ↦ let later : was_sent done bytes ≡ true = rw e at h in sent-more (a, act) done bytes (was-sent done bytes later)
    ]

all-bytes : (bytes : List ℕ) → are_bytes bytes ≡ true → AreBytes bytes
all-bytes [] h = tt
all-bytes (b ∷ bytes) h =
    let both = and_parts (nat_lt b (2 ^ 8)) (are_bytes bytes) h in
    (ltb-true b (2 ^ 8) both.0, all-bytes bytes both.1)

pub own-came : (done : List (ℕ × Act)) (gave : Option (List ℕ)) → may_receive_own done gave ≡ true → CameFromCentres done gave × AllByRecursion AreBytes (listed gave)
own-came done None h = (tt, tt)
own-came done (Some bytes) h =
    let both = and_parts (was_sent done bytes) (are_bytes bytes) h in
    (was-sent done bytes both.0, (all-bytes bytes both.1, tt))

pub asked-bytes : (gave : Option (List ℕ)) → may_receive_asked gave ≡ true → AllByRecursion AreBytes (listed gave)
asked-bytes None h = tt
asked-bytes (Some bytes) h = (all-bytes bytes h, tt)

may-deliver : (done : List (ℕ × Act)) (given : Given) → may_deliver done given ≡ true → MayDeliver done given
may-deliver done given h =
    let both = and_parts (may_receive_own done given.own) (may_receive_asked given.asked) h in
    let own = own-came done given.own both.0 in
    record { own = own.0; own_bytes = own.1; asked_bytes = asked-bytes given.asked both.1 }

may-cut : (done : List (ℕ × Act)) (given : Option Given) → may_cut done given ≡ true → AllByRecursion (MayDeliver done) (listed given)
may-cut done None h = tt
may-cut done (Some given) h = (may-deliver done given h, tt)

may-move : (state : Deployment) (move : Move) → may_move state move ≡ true → MayMove state move
may-move state (Move.Turn a given) h = may-deliver state.done given h
may-move state (Move.Cut a given few) h = may-cut state.done given h
may-move state (Move.Start a) h = tt
may-move state (Move.Flush a) h = tt
may-move state (Move.Do a) h = tt
may-move state (Move.Stop a logged) h = tt

-- ---- limits

within-limits : (process : Process) → is_within_limits (Some process) ≡ true → IsWithinLimits process
within-limits process h =
    let both = and_parts (nat_lt process.site_then.sent (2 ^ 32)) (nat_lt (sum_over fact_length process.site_then.node.facts) (2 ^ 32)) h in
    record { serials = ltb-true process.site_then.sent (2 ^ 32) both.0; room = ltb-true (sum_over fact_length process.site_then.node.facts) (2 ^ 32) both.1 }

-- ---- other centres

abbrev IsSame : Deployment → Deployment → ℕ → Type 0
IsSame next state b = next.process b ≡ state.process b

start-others : (config : Config) (state : Deployment) (a b : ℕ) (o : Option Process) → (a == b) ≡ false → IsSame (after_start_at config state a o) state b
start-others config state a b (Some process) e = refl
start-others config state a b None e = elim (cases_Bool (is_centre config.cluster a)) [ inl here ↦ rw here (rw e refl) | inr none ↦ rw none refl ]

turn-others : (next : Site → Doing) (state : Deployment) (a b : ℕ) (o : Option Process) → (a == b) ≡ false → IsSame (after_turn_at next state a o) state b
turn-others next state a b None e = refl
turn-others next state a b (Some process) e = rw e refl

act-others : (state : Deployment) (a b : ℕ) (process : Process) (acts : List Act) → (a == b) ≡ false → IsSame (after_process_act state a process acts) state b
act-others state a b process [] e = refl
act-others state a b process (act ∷ acts) e = rw e refl

do-others : (state : Deployment) (a b : ℕ) (o : Option Process) → (a == b) ≡ false → IsSame (after_do_at state a o) state b
do-others state a b None e = refl
do-others state a b (Some process) e = act-others state a b process process.left e

stop-others : (state : Deployment) (a b : ℕ) (logged : Bool) (o : Option Process) → (a == b) ≡ false → IsSame (after_stop_at state a logged o) state b
stop-others state a b logged None e = refl
stop-others state a b logged (Some process) e = rw e refl

move-others : (config : Config) (state : Deployment) (move : Move) (b : ℕ) → (centre_of move == b) ≡ false → IsSame (after_move config state move) state b
move-others config state (Move.Start a) b e = start-others config state a b (state.process a) e
move-others config state (Move.Turn a given) b e = turn-others _ state a b (state.process a) e
move-others config state (Move.Flush a) b e = turn-others _ state a b (state.process a) e
move-others config state (Move.Cut a given few) b e = turn-others _ state a b (state.process a) e
move-others config state (Move.Do a) b e = do-others state a b (state.process a) e
move-others config state (Move.Stop a logged) b e = stop-others state a b logged (state.process a) e

-- ---- move by move

next-within : (config : Config) (state : Deployment) (move : Move) → AreWithinLimits state → is_within_limits ((after_move config state move).process (centre_of move)) ≡ true → AreWithinLimits (after_move config state move)
next-within config state move within h b process is =
    elim (cases_Bool (centre_of move == b)) [
      | inl e ↦
          let there : (after_move config state move).process (centre_of move) ≡ Some process = subst (λ (z : ℕ). (after_move config state move).process z ≡ Some process) (sym (eqb-true (centre_of move) b e)) is in
          within-limits process (subst (λ (o : Option Process). is_within_limits o ≡ true) there h)
      | inr e ↦ within b process (sym (move-others config state move b e) ∙ is)
    ]

pub executed-by : (config : Config) (state : Deployment) (moves : List Move) → AreWithinLimits state → is_execution config state moves ≡ true → IsExecution config state moves
executed-by config state [] within h = within
executed-by config state (move ∷ moves) within h =
    let next : Deployment = after_move config state move in
    let first = and_parts (may_move state move) (is_within_limits (next.process (centre_of move)) && is_execution config next moves) h in
    let rest = and_parts (is_within_limits (next.process (centre_of move))) (is_execution config next moves) first.1 in
    (within, may-move state move first.0, executed-by config next moves (next-within config state move within rest.0) rest.1)
