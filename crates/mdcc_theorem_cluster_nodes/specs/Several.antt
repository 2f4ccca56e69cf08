-- A call of `serve_cluster`, by what its contract says of it, and the lives of its centres that it was.
use Rattle.std.proofs.Common.{inl, inr}
use Rattle.std.specs.List.{AllByRecursion}
use Rattle.std.specs.Prelude.{Err, List, None, Ok, Option, Result, [], false, is_ok, length, map, true, ⊤, ℕ, ◌+◌, ◌++◌, ◌∷◌, ◌≡◌, ◌⊎◌}
use Rattle.mdcc_config.specs.declared.config.Config.{Config}
use Rattle.mdcc_disks.specs.Disks.{Disk}
use Rattle.mdcc_link.specs.Link.{LinkCall}
use Rattle.mdcc_def_protocol.specs.Belongs.{is_centre}
use Rattle.mdcc_def_rules.specs.Boot.{booted_by}
use Rattle.mdcc_theorem_server_runs.specs.Centres.{given_at}
use Rattle.mdcc_def_server_runs.specs.Acts.{Act}
use Rattle.mdcc_def_server_runs.specs.Servers.{Log}
use Rattle.mdcc_def_server_runs.specs.Sites.{Site}
use Rattle.mdcc_def_server_runs.specs.Turns.{Given}
use Rattle.mdcc_serve.specs.Serving.{IsDurable, ServesOrBreaksOff, WhileOpening}
use Rattle.mdcc_serve.specs.Stages.{StopsAt}
use Rattle.mdcc_serve.specs.declared.served.Served.{Served}
use Rattle.mdcc_serve_site.specs.Causes.{IsSafeAt, in_flight}
use Rattle.mdcc_serve_site.specs.declared.fault.ServeFault.{ServeFault}
use Rattle.mdcc_theorem_clusters.specs.Several.{AreOthers, acts_by}
use Rattle.mdcc_theorem_clusters.specs.Traces.{GivesBytes}
use Rattle.mdcc_theorem_cluster_nodes.specs.Areas.{Areas}
use Rattle.mdcc_theorem_cluster_nodes.specs.Calls.{FitsShort, FitsWhole, Setting}
use Rattle.mdcc_theorem_cluster_nodes.specs.Clusters.{LivesOver}

-- ---- its turns

abbrev pub nothing_given : Given
nothing_given = record { own = None; asked = None; waits = false }

-- of one that ended before its end; in the turn in which it ended the centres after the one that it was at got nothing
abbrev pub turns_before : (config : Config) (logs : List Log) (turns : ℕ) (fault : ServeFault) (acts rest : List Act) → StopsAt config logs turns fault acts rest → List (List Given)
turns_before config logs turns fault acts rest (inl opening) = []
turns_before config logs turns fault acts rest (inr (inl turn)) =
    turn.given ++ (turn.at.earlier ++ turn.at.given ∷ map (λ (site : Site). nothing_given) turn.at.back) ∷ []
turns_before config logs turns fault acts rest (inr (inr (inl end))) = end.given
turns_before config logs turns fault acts rest (inr (inr (inr line))) = line.given

-- this log stands among them, and no other has its number
pub record Among (logs : List Log) (log : Log) : Type 0 where
  pub before : List Log
  pub after : List Log
  pub are : logs ≡ before ++ log ∷ after
  pub others_before : AreOthers log.centre before
  pub others_after : AreOthers log.centre after

-- ---- the call

module _ {D L O : Type 0} (disk : D → ℕ → Disk) (may_leave : D → ℕ → List ℕ → Type 0) (tears : ℕ → Type 0) (calls : L → Option (List LinkCall)) (lost : L → ℕ) (held : O → Option (List ℕ)) where
  -- the clause `serves` of the contract of `serve_cluster`
  abbrev pub ClauseOfAll : Config → List Log → Setting disk may_leave tears calls lost held → Result Served ServeFault → Type 0
  ClauseOfAll config logs at result =
      ServesOrBreaksOff disk may_leave tears calls lost held config logs at.turns result at.disks_before at.disks_after at.link_before at.link_after at.out_before at.out_after

  pub record CallOfAll (config : Config) : Type 0 where
    pub logs : List Log
    pub at : Setting disk may_leave tears calls lost held
    pub result : Result Served ServeFault
    pub serves : ClauseOfAll config logs at result

  -- its acts, but for the last line
  abbrev pub acts_of_all : (config : Config) (logs : List Log) (at : Setting disk may_leave tears calls lost held) (result : Result Served ServeFault) → ClauseOfAll config logs at result → List Act
  acts_of_all config logs at (Ok served) s = s.run.ran
  acts_of_all config logs at (Err fault) s = s.acts

  -- where it ended as it opened the logs, all of them were durable as it began, and at a boot no byte is torn to 1
  abbrev pub AreKeptBy : (config : Config) (logs : List Log) (at : Setting disk may_leave tears calls lost held) (result : Result Served ServeFault) → ClauseOfAll config logs at result → Type 0
  AreKeptBy config logs at (Ok served) s = ⊤
  AreKeptBy config logs at (Err fault) s = WhileOpening s.stops (AllByRecursion (IsDurable disk may_leave at.disks_before) logs × IsSafeAt tears fault s.rest)

  -- of one of its centres, which did these acts: receives gave bytes, and where the call ended before its end the turns of this centre take fewer than
  -- 2^32 serials, or it ended before a message that would have had a serial above the last one
  abbrev pub FitsOne : (config : Config) (logs : List Log) (at : Setting disk may_leave tears calls lost held) (result : Result Served ServeFault) → ClauseOfAll config logs at result → Log → ℕ → List Act → Type 0
  FitsOne config logs at (Ok served) s log place own = AllByRecursion GivesBytes (given_at place s.run.given)
  FitsOne config logs at (Err fault) s log place own =
      FitsWhole config log (given_at place (turns_before config logs at.turns fault s.acts s.rest s.stops)) ⊎ FitsShort config log own (in_flight fault log.centre s.rest)

  -- What is taken for granted of one of its centres, which did these acts.
  pub record IsGrantedOne (config : Config) (call : CallOfAll config) (log : Log) (among : Among call.logs log) (own : List Act) : Type 0 where
    pub centre : is_centre config.cluster log.centre ≡ true
    pub boots : is_ok (booted_by config.cluster (Ok log.facts)) ≡ true
    pub fits : FitsOne config call.logs call.at call.result call.serves log (length among.before) own

  -- Its acts, each with the centre that does it: those of each centre are a life of it over its log, and its areas have later the log that this life left.
  pub record AreLives (config : Config) (call : CallOfAll config) : Type 0 where
    pub tagged : List (ℕ × Act)
    pub are : map (λ (one : ℕ × Act). one.1) tagged ≡ acts_of_all config call.logs call.at call.result call.serves
    pub each : (log : Log) (among : Among call.logs log) → IsGrantedOne config call log among (acts_by log.centre tagged)
        → (left : Areas) → may_leave call.at.disks_after log.centre left.first → may_leave call.at.disks_after (log.centre + 16) left.second
        → LivesOver config log (acts_by log.centre tagged) left

  abbrev pub AllCentresLive : Type 0
  AllCentresLive = (config : Config) (call : CallOfAll config) → AreKeptBy config call.logs call.at call.result call.serves → AreLives config call
