-- Every trace has the acts of an execution.
use Rattle.std.proofs.Common.{Bool, Err, List, None, Ok, Option, Result, Some, [], ap, append-nil, append_assoc, cond, false, fold, inl, inr, map, refl, subst, sym, true, ℕ, ◌++◌, ◌==◌, ◌∙◌, ◌∷◌, ◌≡◌, ◌⊎◌}
use Rattle.std.specs.List.{AllByRecursion}
use Rattle.std.specs.Prelude.{⊤}
use Rattle.std.proofs.lemmas.Bool.{cases_Bool, eq-eqb, eqb-true}
use Rattle.mdcc_config.specs.declared.config.Config.{Config}
use Rattle.mdcc_def_messages.specs.declared.facts.Fact.{Fact}
use Rattle.mdcc_def_protocol.specs.Belongs.{is_centre}
use Rattle.mdcc_def_rules.specs.Boot.{booted_by}
use Rattle.mdcc_def_rules.specs.declared.node.BootFault.{BootFault}
use Rattle.mdcc_theorem_server_runs.proofs.Outgoing.{out_site}
use Rattle.mdcc_theorem_server_runs.proofs.Turned.{inputs_run}
use Rattle.mdcc_theorem_server_runs.specs.Inputs.{turns_alone}
use Rattle.mdcc_def_server_runs.specs.Acts.{Act, appended_by}
use Rattle.mdcc_def_server_runs.specs.Sending.{persist_then_send}
use Rattle.mdcc_def_server_runs.specs.Servers.{Log, after_last, after_turn, opened, site_of}
use Rattle.mdcc_def_server_runs.specs.Sites.{Doing, Site, idle_site}
use Rattle.mdcc_def_server_runs.specs.Turns.{Given, is_held, turn_inputs_taken, turn_of}
use Rattle.mdcc_theorem_clusters.specs.Clusters.{Deployment, Move, Process, after_move, after_moves, after_process_act, after_do_at, cut_turn, facts_in_flight, after_stop_at, log_of, not_started, process_of, after_start_at, process_started, after_turn_at, process_turned, with_process}
use Rattle.mdcc_theorem_clusters.specs.Executions.{AreWithinLimits, CameFromCentres, IsExecution, MayMove, IsWithinLimits, WasSent}
use Rattle.mdcc_theorem_commit_groups.specs.Groups.{facts_onto}
use Rattle.mdcc_theorem_clusters.specs.Traces.{Ending, LifeEvent, GivesBytes, MayOccur, IsExecuted, IsLife, MayDoNext, MayReceive, IsTrace, IsWithinTurns, Traced, acts_of, acts_to, traced_after_event, traced_after_events, after_next_at, traced_after_end_at, life_of, nothing_yet, after_begin_at, ending_of, last_given, with_left}

-- ---- the acts of a server of one centre

-- its turns, and what it does at their end
abbrev pub rest_to : Config → Ending → Site → List Given → List Act
rest_to config ending site [] = (ending_of config ending site).acts
rest_to config ending site (given ∷ more) = (turn_of config site given).acts ++ rest_to config ending (turn_of config site given).site more

abbrev pub rest : Config → Site → List Given → List Act
rest config site given = rest_to config Ending.Whole site given

served-acts : (config : Config) (acts : List Act) (site : Site) (given : List Given)
    → (after_last config (fold (after_turn config) (record { acts = acts; sites = site ∷ [] }) (map (λ turn. turn ∷ []) given))).acts ≡ acts ++ rest config site given
served-acts config acts site [] = ap (λ (xs : List Act). acts ++ xs) (append-nil (persist_then_send config site).acts)
served-acts config acts site (given ∷ more) =
    let turn = (turn_of config site given).acts in
    let next = (turn_of config site given).site in
    served-acts config (acts ++ (turn ++ [])) next more
    ∙ (ap (λ (xs : List Act). (acts ++ xs) ++ rest config next more) (append-nil turn) ∙ append_assoc acts turn (rest config next more))

pub acts-are : (config : Config) (log : Log) (given : List Given) → acts_of config log given ≡ (opened config (log ∷ [])).acts ++ rest config (site_of log) given
acts-are config log given = served-acts config (opened config (log ∷ [])).acts (site_of log) given

rest-alone : (config : Config) (ending : Ending) (site : Site) (given : List Given)
    → rest_to config ending site given ≡ (turns_alone config site given).acts ++ (ending_of config ending (turns_alone config site given).site).acts
rest-alone config ending site [] = refl
rest-alone config ending site (given ∷ more) =
    let turn = (turn_of config site given).acts in
    let next = (turn_of config site given).site in
    ap (λ (xs : List Act). turn ++ xs) (rest-alone config ending next more)
    ∙ sym (append_assoc turn (turns_alone config next more).acts (ending_of config ending (turns_alone config next more).site).acts)

pub acts-to-are : (config : Config) (log : Log) (given : List Given) (ending : Ending) → acts_to config log given ending ≡ (opened config (log ∷ [])).acts ++ rest_to config ending (site_of log) given
acts-to-are config log given Ending.Whole = acts-are config log given
acts-to-are config log given (Ending.Short last few) = ap (λ (xs : List Act). (opened config (log ∷ [])).acts ++ xs) (sym (rest-alone config (Ending.Short last few) (site_of log) given))

abbrev head_of : List Act → Option Act
head_of [] = None
head_of (x ∷ xs) = Some x

held-centre : (config : Config) (site : Site) (held : Bool) → (cond held (idle_site site) (persist_then_send config site)).site.centre ≡ site.centre
held-centre config site true = refl
held-centre config site false = ap (λ (s : Site). s.centre) (out_site config site)

pub turn-centre : (config : Config) (site : Site) (given : Given) → (turn_of config site given).site.centre ≡ site.centre
turn-centre config site given =
    let inputs = turn_inputs_taken config site given in
    held-centre config inputs.site (is_held given inputs) ∙ (inputs_run config site given).centre_is

-- ---- a trace and a deployed cluster

record IsGoing (config : Config) (a : ℕ) (left : List Act) (p : Process) : Type 0 where
  given : List Given
  ending : Ending
  acts_are : left ≡ p.left ++ rest_to config ending p.site_then given
  centre : p.site_then.centre ≡ a
  bytes : AllByRecursion GivesBytes given
  last_bytes : AllByRecursion GivesBytes (last_given ending)
  within : IsWithinTurns config p.site_then given ending

abbrev Matches : Config → ℕ → Option (List Act) → Option Process → Type 0
Matches config a None None = ⊤
Matches config a (Some left) (Some p) = IsGoing config a left p ⊎ (left ≡ p.left)
Matches config a left p = ⊥

record Follows (config : Config) (trace : Traced) (state : Deployment) : Type 0 where
  done : trace.done ≡ state.done
  durable : trace.durable ≡ state.durable
  each : (a : ℕ) → Matches config a (trace.left a) (state.process a)

record Goes (config : Config) (state : Deployment) (trace : Traced) : Type 0 where
  moves : List Move
  executed : IsExecution config state moves
  follows : Follows config trace (after_moves config state moves)

module _ (config : Config) where
  follows-with : (trace : Traced) (state : Deployment) (a : ℕ) (tdone sdone : List (ℕ × Act)) (tdurable sdurable : List (ℕ × Fact)) (left : Option (List Act)) (p : Option Process) (process : ℕ → Option Process)
      → Follows config trace state → tdone ≡ sdone → tdurable ≡ sdurable → ((b : ℕ) → (a == b) ≡ false → process b ≡ state.process b) → Matches config a left p
      → Follows config (with_left (record { done = tdone; durable = tdurable; left = trace.left }) a left) (with_process (record { done = sdone; durable = sdurable; process = process }) a p)
  follows-with trace state a tdone sdone tdurable sdurable left p process f done durable same m = record { done = done; durable = durable; each = each }
    where
      each : (b : ℕ) → Matches config b (cond (a == b) left (trace.left b)) (cond (a == b) p (process b))
      each b =
          elim (cases_Bool (a == b)) [
            | inl e ↦ rw e (subst (λ (z : ℕ). Matches config z left p) (eqb-true a b e) m)
            | inr e ↦ rw e (subst (Matches config b (trace.left b)) (sym (same b e)) (f.each b))
          ]

  within-with : (state : Deployment) (a : ℕ) (done : List (ℕ × Act)) (durable : List (ℕ × Fact)) (p : Option Process) → AreWithinLimits state → ((q : Process) → p ≡ Some q → IsWithinLimits q)
      → AreWithinLimits (with_process (record { done = done; durable = durable; process = state.process }) a p)
  within-with state a done durable p within new b q is =
      elim (cases_Bool (a == b)) [
        | inl e ↦ let it : p ≡ Some q = rw e at is in new q it
        | inr e ↦ let it : state.process b ≡ Some q = rw e at is in within b q it
      ]

  some-within : (p q : Process) → IsWithinLimits p → Some p ≡ Some q → IsWithinLimits q
  some-within p q h e = let s : p ≡ q = cc in subst IsWithinLimits s h

  module _ (trace : Traced) (state : Deployment) (a : ℕ) (f : Follows config trace state) (within : AreWithinLimits state) where
    stays : Goes config state trace
    stays = record { moves = []; executed = within; follows = f }

    here : (p : Process) → (with_process state a (Some p)).process a ≡ Some p
    here p = rw (eq-eqb a a refl) refl

    others : (p : Option Process) (b : ℕ) → (a == b) ≡ false → (with_process state a p).process b ≡ state.process b
    others p b e = rw e refl

    -- ---- an act

    do-is : (s : Deployment) (p : Process) (act : Act) (acts : List Act) → s.process a ≡ Some p → p.left ≡ act ∷ acts
        → after_move config s (Move.Do a) ≡ with_process (record { done = (a, act) ∷ s.done; durable = facts_onto a (appended_by a act) s.durable; process = s.process }) a (Some (record { left = acts; site_then = p.site_then }))
    do-is s p act acts is e = ap (after_do_at s a) is ∙ ap (after_process_act s a p) e

    turn-is : (next : Site → Doing) (p : Process) → state.process a ≡ Some p → p.left ≡ [] → after_turn_at next state a (state.process a) ≡ with_process state a (Some (process_of (next p.site_then)))
    turn-is next p is e = ap (after_turn_at next state a) is ∙ ap (λ (acts : List Act). with_process state a (Some (process_turned next p acts))) e

    did-follows : (s : Deployment) (p : Process) (act : Act) (acts more : List Act) → s.done ≡ state.done → s.durable ≡ state.durable → ((b : ℕ) → (a == b) ≡ false → s.process b ≡ state.process b)
        → Matches config a (Some acts) (Some (record { left = more; site_then = p.site_then }))
        → Follows config (with_left (record { done = (a, act) ∷ trace.done; durable = facts_onto a (appended_by a act) trace.durable; left = trace.left }) a (Some acts))
        (with_process (record { done = (a, act) ∷ s.done; durable = facts_onto a (appended_by a act) s.durable; process = s.process }) a (Some (record { left = more; site_then = p.site_then })))
    did-follows s p act acts more done durable same m =
        follows-with trace state a ((a, act) ∷ trace.done) ((a, act) ∷ s.done) (facts_onto a (appended_by a act) trace.durable) (facts_onto a (appended_by a act) s.durable) (Some acts)
        (Some (record { left = more; site_then = p.site_then })) s.process f (ap (λ (xs : List (ℕ × Act)). (a, act) ∷ xs) (f.done ∙ sym done))
        (ap (facts_onto a (appended_by a act)) (f.durable ∙ sym durable)) same m

    -- its next act, where its turn is not over
    do-one : (p : Process) (act : Act) (acts more : List Act) → state.process a ≡ Some p → p.left ≡ act ∷ more → Matches config a (Some acts) (Some (record { left = more; site_then = p.site_then }))
        → Goes config state (with_left (record { done = (a, act) ∷ trace.done; durable = facts_onto a (appended_by a act) trace.durable; left = trace.left }) a (Some acts))
    do-one p act acts more is e m =
        let it = do-is state p act more is e in
        let old = within a p is in
        record {
          moves = Move.Do a ∷ [];
          executed = (
            within,
            tt,
            subst AreWithinLimits (sym it) (within-with state a ((a, act) ∷ state.done) (facts_onto a (appended_by a act) state.durable) (Some (record { left = more; site_then = p.site_then })) within
                (λ q s. some-within (record { left = more; site_then = p.site_then }) q (record { serials = old.serials; room = old.room }) s)),
          );
          follows = subst (Follows config (with_left (record { done = (a, act) ∷ trace.done; durable = facts_onto a (appended_by a act) trace.durable; left = trace.left }) a (Some acts))) (sym it)
              (did-follows state p act acts more refl refl (λ b s. refl) m);
        }

    -- and where it begins another by this move
    then-one : (move : Move) (next : Process) (act : Act) (acts more : List Act) → after_move config state move ≡ with_process state a (Some next) → MayMove state move → IsWithinLimits next → next.left ≡ act ∷ more
        → Matches config a (Some acts) (Some (record { left = more; site_then = next.site_then }))
        → Goes config state (with_left (record { done = (a, act) ∷ trace.done; durable = facts_onto a (appended_by a act) trace.durable; left = trace.left }) a (Some acts))
    then-one move next act acts more moved came low e m =
        let s : Deployment = with_process state a (Some next) in
        let it = do-is s next act more (here next) e in
        let first : AreWithinLimits s = within-with state a state.done state.durable (Some next) within (λ q i. some-within next q low i) in
        let last : AreWithinLimits (after_move config s (Move.Do a)) = subst AreWithinLimits (sym it) (within-with s a ((a, act) ∷ s.done) (facts_onto a (appended_by a act) s.durable) (Some (record { left = more; site_then = next.site_then })) first
        (λ q i. some-within (record { left = more; site_then = next.site_then }) q (record { serials = low.serials; room = low.room }) i)) in
        record {
          moves = move ∷ (Move.Do a ∷ []);
          executed = (within, came, subst (λ (z : Deployment). IsExecution config z (Move.Do a ∷ [])) (sym moved) (first, tt, last));
          follows = subst (λ (z : Deployment). Follows config (with_left (record { done = (a, act) ∷ trace.done; durable = facts_onto a (appended_by a act) trace.durable; left = trace.left }) a (Some acts)) (after_move config z (Move.Do a))) (sym moved)
              (subst (Follows config (with_left (record { done = (a, act) ∷ trace.done; durable = facts_onto a (appended_by a act) trace.durable; left = trace.left }) a (Some acts))) (sym it)
              (did-follows s next act acts more refl refl (others (Some next)) m));
        }

    came-own : (at : ℕ) (act : Act) (own : Option (List ℕ)) → act ≡ Act.Receive at own → at ≡ a → MayReceive trace.done a act → CameFromCentres state.done own
    came-own at act None e s h = tt
    came-own at act (Some bytes) e s h =
        let it : MayReceive trace.done a (Act.Receive at (Some bytes)) = subst (MayReceive trace.done a) e h in
        subst (λ (done : List (ℕ × Act)). WasSent done bytes) f.done (it s)

    abbrev AfterOne : Act → List Act → Traced
    AfterOne act acts = with_left (record { done = (a, act) ∷ trace.done; durable = facts_onto a (appended_by a act) trace.durable; left = trace.left }) a (Some acts)

    -- where no turn is left but its end
    ending-on : (p : Process) (act : Act) (acts : List Act) → state.process a ≡ Some p → MayReceive trace.done a act → p.left ≡ [] → p.site_then.centre ≡ a → (ending : Ending) → act ∷ acts ≡ (ending_of config ending p.site_then).acts
        → AllByRecursion GivesBytes (last_given ending) → IsWithinLimits (process_of (ending_of config ending p.site_then)) → Goes config state (AfterOne act acts)
    ending-on p act acts is h e centre Ending.Whole all bytes low =
        then-one (Move.Flush a) (process_of (persist_then_send config p.site_then)) act acts acts (turn-is (persist_then_send config) p is e) tt low (sym all) (inr refl)
    ending-on p act acts is h e centre (Ending.Short None few) all bytes low =
        then-one (Move.Cut a None few) (process_of (cut_turn config few None p.site_then)) act acts acts (turn-is (cut_turn config few None) p is e) tt low (sym all) (inr refl)
    ending-on p act acts is h e centre (Ending.Short (Some given) few) all bytes low =
        let head : Some act ≡ Some (Act.Receive p.site_then.centre given.own) = ap head_of all in
        let first : act ≡ Act.Receive p.site_then.centre given.own = cc in
        then-one (Move.Cut a (Some given) few) (process_of (cut_turn config few (Some given) p.site_then)) act acts acts (turn-is (cut_turn config few (Some given)) p is e)
        (record { own = came-own p.site_then.centre act given.own first centre h; own_bytes = bytes.0.own; asked_bytes = bytes.0.asked }, tt) low (sym all) (inr refl)

    going-on : (p : Process) (act : Act) (acts : List Act) → state.process a ≡ Some p → MayReceive trace.done a act → (g : IsGoing config a (act ∷ acts) p) → (mine : List Act) → p.left ≡ mine → Goes config state (AfterOne act acts)
    going-on p act acts is h g (x ∷ xs) e =
        let both : act ∷ acts ≡ x ∷ (xs ++ rest_to config g.ending p.site_then g.given) = g.acts_are ∙ ap (λ (ys : List Act). ys ++ rest_to config g.ending p.site_then g.given) e in
        let first : act ≡ x = cc in
        let later : acts ≡ xs ++ rest_to config g.ending p.site_then g.given = cc in
        do-one p act acts xs is (e ∙ ap (λ (z : Act). z ∷ xs) (sym first))
        (inl (record { given = g.given; ending = g.ending; acts_are = later; centre = g.centre; bytes = g.bytes; last_bytes = g.last_bytes; within = g.within }))
    going-on p act acts is h g [] e =
        by-given g.given (g.acts_are ∙ ap (λ (ys : List Act). ys ++ rest_to config g.ending p.site_then g.given) e) g.bytes g.within
      where
        by-given : (given : List Given) → act ∷ acts ≡ rest_to config g.ending p.site_then given → AllByRecursion GivesBytes given → IsWithinTurns config p.site_then given g.ending → Goes config state (AfterOne act acts)
        by-given [] all bytes low = ending-on p act acts is h e g.centre g.ending all g.last_bytes low
        by-given (given ∷ more) all bytes low = turns (turn_of config p.site_then given).acts refl
          where
            turns : (mine : List Act) → (turn_of config p.site_then given).acts ≡ mine → Goes config state (AfterOne act acts)
            turns [] none = let bad : Some (Act.Receive p.site_then.centre given.own) ≡ None = ap head_of none in absurd (cc)
            turns (x ∷ xs) some =
                let next : Process = process_of (turn_of config p.site_then given) in
                let head : Some (Act.Receive p.site_then.centre given.own) ≡ Some x = ap head_of some in
                let receive : x ≡ Act.Receive p.site_then.centre given.own = cc in
                let both : act ∷ acts ≡ x ∷ (xs ++ rest_to config g.ending next.site_then more) = all ∙ ap (λ (ys : List Act). ys ++ rest_to config g.ending next.site_then more) some in
                let first : act ≡ x = cc in
                let later : acts ≡ xs ++ rest_to config g.ending next.site_then more = cc in
                then-one (Move.Turn a given) next act acts xs (turn-is (λ site. turn_of config site given) p is e)
                (record { own = came-own p.site_then.centre act given.own (first ∙ receive) g.centre h; own_bytes = bytes.0.own; asked_bytes = bytes.0.asked }) low.0
                (some ∙ ap (λ (z : Act). z ∷ xs) (sym first))
                (inl (record { given = more; ending = g.ending; acts_are = later; centre = turn-centre config p.site_then given ∙ g.centre; bytes = bytes.1; last_bytes = g.last_bytes; within = low.1 }))

    does-by-process : (act : Act) (acts : List Act) → MayReceive trace.done a act → (q : Option Process) → state.process a ≡ q → Matches config a (Some (act ∷ acts)) q
        → Goes config state (with_left (record { done = (a, act) ∷ trace.done; durable = facts_onto a (appended_by a act) trace.durable; left = trace.left }) a (Some acts))
    does-by-process act acts h None is m = absurd m
    does-by-process act acts h (Some p) is m =
        elim m [
          | inl g ↦ going-on p act acts is h g p.left refl
          | inr over ↦ do-one p act acts acts is (sym over) (inr refl)
        ]

    does-goes : (o : Option (List Act)) → trace.left a ≡ o → MayDoNext trace.done a o → Goes config state (after_next_at trace a o)
    does-goes None e h = stays
    does-goes (Some []) e h = stays
    does-goes (Some (act ∷ acts)) e h = does-by-process act acts h (state.process a) refl (subst (λ (z : Option (List Act)). Matches config a z (state.process a)) e (f.each a))

    -- ---- an end

    abbrev ended-trace : Bool → List Act → Traced
    ended-trace logged left = with_left (record { done = trace.done; durable = cond logged (facts_onto a (facts_in_flight a left) trace.durable) trace.durable; left = trace.left }) a None

    kill-is : (s : Deployment) (p : Process) (logged : Bool) → s.process a ≡ Some p
        → after_move config s (Move.Stop a logged) ≡ with_process (record { done = s.done; durable = cond logged (facts_onto a (facts_in_flight a p.left) s.durable) s.durable; process = s.process }) a None
    kill-is s p logged is = ap (after_stop_at s a logged) is

    killed-durable : (s : Deployment) (logged : Bool) (left acts : List Act) → s.durable ≡ state.durable → facts_in_flight a left ≡ facts_in_flight a acts
        → cond logged (facts_onto a (facts_in_flight a left) trace.durable) trace.durable ≡ cond logged (facts_onto a (facts_in_flight a acts) s.durable) s.durable
    killed-durable s true left acts e same = ap (λ (fs : List Fact). facts_onto a fs trace.durable) same ∙ ap (facts_onto a (facts_in_flight a acts)) (f.durable ∙ sym e)
    killed-durable s false left acts e same = f.durable ∙ sym e

    killed-follows : (s : Deployment) (p : Process) (logged : Bool) (left : List Act) → s.done ≡ state.done → s.durable ≡ state.durable → ((b : ℕ) → (a == b) ≡ false → s.process b ≡ state.process b)
        → facts_in_flight a left ≡ facts_in_flight a p.left
        → Follows config (ended-trace logged left) (with_process (record { done = s.done; durable = cond logged (facts_onto a (facts_in_flight a p.left) s.durable) s.durable; process = s.process }) a None)
    killed-follows s p logged left done durable others_same same =
        follows-with trace state a trace.done s.done (cond logged (facts_onto a (facts_in_flight a left) trace.durable) trace.durable) (cond logged (facts_onto a (facts_in_flight a p.left) s.durable) s.durable) None None s.process f
        (f.done ∙ sym done) (killed-durable s logged left p.left durable same) others_same tt

    kill-one : (p : Process) (logged : Bool) (left : List Act) → state.process a ≡ Some p → facts_in_flight a left ≡ facts_in_flight a p.left → Goes config state (ended-trace logged left)
    kill-one p logged left is same =
        let it = kill-is state p logged is in
        record {
          moves = Move.Stop a logged ∷ [];
          executed = (within, tt, subst AreWithinLimits (sym it) (within-with state a state.done (cond logged (facts_onto a (facts_in_flight a p.left) state.durable) state.durable) None within (λ q i. absurd (cc))));
          follows = subst (Follows config (ended-trace logged left)) (sym it) (killed-follows state p logged left refl refl (λ b e. refl) same);
        }

    last-kill : (move : Move) (next : Process) (logged : Bool) (left : List Act) → after_move config state move ≡ with_process state a (Some next) → MayMove state move → IsWithinLimits next → left ≡ next.left
        → Goes config state (ended-trace logged left)
    last-kill move next logged left moved may low all =
        let s : Deployment = with_process state a (Some next) in
        let it = kill-is s next logged (here next) in
        let first : AreWithinLimits s = within-with state a state.done state.durable (Some next) within (λ q i. some-within next q low i) in
        let last : AreWithinLimits (after_move config s (Move.Stop a logged)) = subst AreWithinLimits (sym it) (within-with s a s.done (cond logged (facts_onto a (facts_in_flight a next.left) s.durable) s.durable) None first (λ q i. absurd (cc))) in
        record {
          moves = move ∷ (Move.Stop a logged ∷ []);
          executed = (within, may, subst (λ (z : Deployment). IsExecution config z (Move.Stop a logged ∷ [])) (sym moved) (first, tt, last));
          follows = subst (λ (z : Deployment). Follows config (ended-trace logged left) (after_move config z (Move.Stop a logged))) (sym moved)
              (subst (Follows config (ended-trace logged left)) (sym it) (killed-follows s next logged left refl refl (others (Some next)) (ap (facts_in_flight a) all)));
        }

    -- an append comes next only where its end has no more inputs
    ending-kill : (p : Process) (logged : Bool) (left : List Act) → state.process a ≡ Some p → p.left ≡ [] → (ending : Ending) → left ≡ (ending_of config ending p.site_then).acts → IsWithinLimits (process_of (ending_of config ending p.site_then))
        → Goes config state (ended-trace logged left)
    ending-kill p logged left is e Ending.Whole all low = last-kill (Move.Flush a) (process_of (persist_then_send config p.site_then)) logged left (turn-is (persist_then_send config) p is e) tt low all
    ending-kill p logged left is e (Ending.Short None few) all low = last-kill (Move.Cut a None few) (process_of (cut_turn config few None p.site_then)) logged left (turn-is (cut_turn config few None) p is e) tt low all
    ending-kill p logged left is e (Ending.Short (Some given) few) all low = kill-one p logged left is (ap (facts_in_flight a) all ∙ sym (ap (facts_in_flight a) e))

    ends-going : (p : Process) (logged : Bool) (left : List Act) → state.process a ≡ Some p → IsGoing config a left p → (mine : List Act) → p.left ≡ mine → Goes config state (ended-trace logged left)
    ends-going p logged left is g (x ∷ xs) e =
        let all : left ≡ x ∷ (xs ++ rest_to config g.ending p.site_then g.given) = g.acts_are ∙ ap (λ (ys : List Act). ys ++ rest_to config g.ending p.site_then g.given) e in
        kill-one p logged left is (ap (facts_in_flight a) all ∙ sym (ap (facts_in_flight a) e))
    ends-going p logged left is g [] e = by-given g.given (g.acts_are ∙ ap (λ (ys : List Act). ys ++ rest_to config g.ending p.site_then g.given) e) g.within
      where
        by-given : (given : List Given) → left ≡ rest_to config g.ending p.site_then given → IsWithinTurns config p.site_then given g.ending → Goes config state (ended-trace logged left)
        by-given [] all low = ending-kill p logged left is e g.ending all low
        by-given (given ∷ more) all low = kill-one p logged left is (ap (facts_in_flight a) all ∙ sym (ap (facts_in_flight a) e))

    ends-by-process : (logged : Bool) (left : List Act) (q : Option Process) → state.process a ≡ q → Matches config a (Some left) q → Goes config state (ended-trace logged left)
    ends-by-process logged left None is m = absurd m
    ends-by-process logged left (Some p) is m =
        elim m [
          | inl g ↦ ends-going p logged left is g p.left refl
          | inr over ↦ kill-one p logged left is (ap (facts_in_flight a) over)
        ]

    ends-goes : (logged : Bool) (o : Option (List Act)) → trace.left a ≡ o → Goes config state (traced_after_end_at trace a logged o)
    ends-goes logged None e = stays
    ends-goes logged (Some left) e = ends-by-process logged left (state.process a) refl (subst (λ (z : Option (List Act)). Matches config a z (state.process a)) e (f.each a))

    -- ---- a start

    no-process : (q : Option Process) → Matches config a None q → q ≡ None
    no-process None m = refl
    no-process (Some p) m = absurd m

    started-goes : (given : List Given) (ending : Ending) → is_centre config.cluster a ≡ true → trace.left a ≡ None → IsLife config (record { centre = a; facts = log_of state.durable a }) given ending
        → (r : Result (List Fact) BootFault) → booted_by config.cluster (Ok (log_of state.durable a)) ≡ r → Goes config state (with_left trace a (life_of config a (log_of state.durable a) given ending r))
    started-goes given ending centre none life r e =
        let log : List Fact = log_of state.durable a in
        let alone = no-process (state.process a) (subst (λ (z : Option (List Act)). Matches config a z (state.process a)) none (f.each a)) in
        let first : after_start_at config state a None ≡ with_process state a (process_started config a log (booted_by config.cluster (Ok log))) = rw centre refl in
        let it : after_move config state (Move.Start a) ≡ with_process state a (process_started config a log r) =
        ap (after_start_at config state a) alone ∙ (first ∙ ap (λ (z : Result (List Fact) BootFault). with_process state a (process_started config a log z)) e) in
        by-result r it
      where
        by-result : (r : Result (List Fact) BootFault) → after_move config state (Move.Start a) ≡ with_process state a (process_started config a (log_of state.durable a) r)
            → Goes config state (with_left trace a (life_of config a (log_of state.durable a) given ending r))
        by-result (Err fault) it = record {
          moves = Move.Start a ∷ [];
          executed = (within, tt, subst AreWithinLimits (sym it) (within-with state a state.done state.durable None within (λ q i. absurd (cc))));
          follows = subst (Follows config (with_left trace a None)) (sym it) (follows-with trace state a trace.done state.done trace.durable state.durable None None state.process f f.done f.durable (λ b g. refl) tt);
        }
        by-result (Ok facts) it =
            let log : Log = record { centre = a; facts = log_of state.durable a } in
            let p : Process = record { left = (opened config (log ∷ [])).acts; site_then = site_of log } in
            let acts : List Act = acts_to config log given ending in
            let going : IsGoing config a acts p = record {
              given = given;
              ending = ending;
              acts_are = acts-to-are config log given ending;
              centre = refl;
              bytes = life.bytes;
              last_bytes = life.last_bytes;
              within = life.turns;
            } in
            record {
              moves = Move.Start a ∷ [];
              executed = (
                within,
                tt,
                subst AreWithinLimits (sym it) (within-with state a state.done state.durable (Some p) within
                    (λ q i. some-within p q (record { serials = life.booted.serials; room = life.booted.room }) i)),
              );
              follows = subst (Follows config (with_left trace a (Some acts))) (sym it)
                  (follows-with trace state a trace.done state.done trace.durable state.durable (Some acts) (Some p) state.process f f.done f.durable (λ b g. refl) (inl going));
            }

    starts-goes : (given : List Given) (ending : Ending) → IsLife config (record { centre = a; facts = log_of trace.durable a }) given ending → (o : Option (List Act)) → trace.left a ≡ o
        → Goes config state (after_begin_at config trace a given ending o)
    starts-goes given ending life (Some left) e = stays
    starts-goes given ending life None e =
        let same : log_of trace.durable a ≡ log_of state.durable a = ap (λ (xs : List (ℕ × Fact)). log_of xs a) f.durable in
        elim (cases_Bool (is_centre config.cluster a)) [
          | inl c ↦ rw c (subst (λ (log : List Fact). Goes config state (with_left trace a (life_of config a log given ending (booted_by config.cluster (Ok log))))) (sym same)
              (started-goes given ending c e (subst (λ (log : List Fact). IsLife config (record { centre = a; facts = log }) given ending) same life) (booted_by config.cluster (Ok (log_of state.durable a))) refl))
          | inr c ↦ rw c stays
        ]

  -- ---- all of them

  execution-first : (state : Deployment) (moves : List Move) → IsExecution config state moves → AreWithinLimits state
  execution-first state [] h = h
  execution-first state (move ∷ moves) h = h.0

  execution-last : (state : Deployment) (moves : List Move) → IsExecution config state moves → AreWithinLimits (after_moves config state moves)
  execution-last state [] h = h
  execution-last state (move ∷ moves) h = execution-last (after_move config state move) moves h.2

  moves-more : (state : Deployment) (xs ys : List Move) → after_moves config state (xs ++ ys) ≡ after_moves config (after_moves config state xs) ys
  moves-more state [] ys = refl
  moves-more state (x ∷ xs) ys = moves-more (after_move config state x) xs ys

  execution-more : (state : Deployment) (xs ys : List Move) → IsExecution config state xs → IsExecution config (after_moves config state xs) ys → IsExecution config state (xs ++ ys)
  execution-more state [] ys h k = k
  execution-more state (x ∷ xs) ys h k = (h.0, h.1, execution-more (after_move config state x) xs ys h.2 k)

  event-goes : (trace : Traced) (state : Deployment) (event : LifeEvent) → Follows config trace state → AreWithinLimits state → MayOccur config trace event → Goes config state (traced_after_event config trace event)
  event-goes trace state (LifeEvent.Starts a given ending) f within h = starts-goes trace state a f within given ending h (trace.left a) refl
  event-goes trace state (LifeEvent.Does a) f within h = does-goes trace state a f within (trace.left a) refl h
  event-goes trace state (LifeEvent.Ends a logged) f within h = ends-goes trace state a f within logged (trace.left a) refl

  events-go : (trace : Traced) (state : Deployment) (events : List LifeEvent) → Follows config trace state → AreWithinLimits state → IsTrace config trace events → Goes config state (traced_after_events config trace events)
  events-go trace state [] f within h = record { moves = []; executed = within; follows = f }
  events-go trace state (event ∷ events) f within h =
      let first = event-goes trace state event f within h.0 in
      let next : Deployment = after_moves config state first.moves in
      let more = events-go (traced_after_event config trace event) next events first.follows (execution-last state first.moves first.executed) h.1 in
      record {
        moves = first.moves ++ more.moves;
        executed = execution-more state first.moves more.moves first.executed more.executed;
        follows = subst (Follows config (traced_after_events config (traced_after_event config trace event) events)) (sym (moves-more state first.moves more.moves)) more.follows;
      }

  pub traces-executed : (events : List LifeEvent) → IsTrace config nothing_yet events → IsExecuted config (traced_after_events config nothing_yet events)
  traces-executed events h =
      let g = events-go nothing_yet not_started events (record { done = refl; durable = refl; each = λ a. tt }) (λ a p is. absurd (cc)) h in
      record { moves = g.moves; executed = g.executed; done = g.follows.done; durable = g.follows.durable }
