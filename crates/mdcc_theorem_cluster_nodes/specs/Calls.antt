-- A call of `serve_node`, by what its contract says of it, and the life of the centre that it was.
use Rattle.std.specs.List.{AllByRecursion}
use Rattle.std.specs.Prelude.{Err, List, Ok, Option, Result, [], is_ok, true, ⊤, ℕ, ◌+◌, ◌++◌, ◌<◌, ◌^◌, ◌∷◌, ◌≡◌, ◌⊎◌}
use Rattle.mdcc_config.specs.declared.config.Config.{Config}
use Rattle.mdcc_disks.specs.Disks.{Disk}
use Rattle.mdcc_link.specs.Link.{LinkCall}
use Rattle.mdcc_log_file.specs.Area.{payloads}
use Rattle.mdcc_def_messages.specs.Spelling.{encodings_of}
use Rattle.mdcc_def_messages.specs.declared.facts.Fact.{Fact}
use Rattle.mdcc_def_protocol.specs.Belongs.{is_centre}
use Rattle.mdcc_def_rules.specs.Boot.{booted_by}
use Rattle.mdcc_theorem_server_runs.specs.Centres.{given_at}
use Rattle.mdcc_def_server_runs.specs.Acts.{Act, but_answers}
use Rattle.mdcc_def_server_runs.specs.Runs.{listed}
use Rattle.mdcc_def_server_runs.specs.Servers.{Log}
use Rattle.mdcc_def_server_runs.specs.Turns.{Given}
use Rattle.mdcc_serve.specs.Serving.{IsDurable, Leaves, ServesOrBreaksOff, WhileOpening}
use Rattle.mdcc_serve.specs.declared.served.Served.{Served}
use Rattle.mdcc_serve_site.specs.Causes.{IsSafeAt, in_flight}
use Rattle.mdcc_serve_site.specs.declared.fault.ServeFault.{ServeFault}
use Rattle.mdcc_theorem_clusters.specs.Traces.{Ending, GivesBytes, acts_to}
use Rattle.mdcc_theorem_server_lives.specs.Lives.{IsLifeOf, Life, messages_sent_by}
use Rattle.mdcc_theorem_cluster_nodes.specs.Turns.{given_before}

-- ---- turns that take few serials

-- receives gave bytes, and the turns, with that in which it ended, take fewer than 2^32 serials
pub record FitsWhole (config : Config) (log : Log) (given : List Given) : Type 0 where
  pub bytes : AllByRecursion GivesBytes given
  pub serials : messages_sent_by config log given Ending.Whole < 2 ^ 32

-- or it ended before a message that would have had a serial above the last one: of its last turn it did only what comes before all but the first few
-- messages, and no append came next
pub record FitsShort (config : Config) (log : Log) (acts : List Act) (appending : List Fact) : Type 0 where
  pub given : List Given
  pub last : Option Given
  pub few : ℕ
  pub rest : List Act
  pub are : but_answers acts ++ rest ≡ acts_to config log given (Ending.Short last few)
  pub none : appending ≡ []
  pub bytes : AllByRecursion GivesBytes given
  pub last_bytes : AllByRecursion GivesBytes (listed last)
  pub serials : messages_sent_by config log given (Ending.Short last few) < 2 ^ 32

module _ {D L O : Type 0} (disk : D → ℕ → Disk) (may_leave : D → ℕ → List ℕ → Type 0) (tears : ℕ → Type 0) (calls : L → Option (List LinkCall)) (lost : L → ℕ) (held : O → Option (List ℕ)) where
  -- ---- a call

  -- how many turns it was to make, and the disks, the link and the output before and after it
  pub record Setting : Type 0 where
    pub turns : ℕ
    pub disks_before : D
    pub disks_after : D
    pub link_before : L
    pub link_after : L
    pub out_before : O
    pub out_after : O

  -- the clause `serves` of the contract of `serve_node`, over a log of its centre
  abbrev pub Clause : Config → Log → Setting → Result Served ServeFault → Type 0
  Clause config log at result =
      ServesOrBreaksOff disk may_leave tears calls lost held config (log ∷ []) at.turns result at.disks_before at.disks_after at.link_before at.link_after at.out_before at.out_after

  pub record Call (config : Config) : Type 0 where
    pub log : Log
    pub at : Setting
    pub result : Result Served ServeFault
    pub serves : Clause config log at result

  -- ---- what the clause says that it did

  -- its acts, but for the last line
  abbrev pub acts_done : (config : Config) (log : Log) (at : Setting) (result : Result Served ServeFault) → Clause config log at result → List Act
  acts_done config log at (Ok served) s = s.run.ran
  acts_done config log at (Err fault) s = s.acts

  -- ---- what is taken for granted of it

  -- where it ended as it opened its log, this was durable as it began, and at a boot no byte is torn to 1
  abbrev pub IsKeptBy : (config : Config) (log : Log) (at : Setting) (result : Result Served ServeFault) → Clause config log at result → Type 0
  IsKeptBy config log at (Ok served) s = ⊤
  IsKeptBy config log at (Err fault) s = WhileOpening s.stops (IsDurable disk may_leave at.disks_before log × IsSafeAt tears fault s.rest)

  -- where it came to its end, receives gave bytes: that there were serials enough its contract says
  abbrev pub Fits : (config : Config) (log : Log) (at : Setting) (result : Result Served ServeFault) → Clause config log at result → Type 0
  Fits config log at (Ok served) s = AllByRecursion GivesBytes (given_at 0 s.run.given)
  Fits config log at (Err fault) s =
      FitsWhole config log (given_before config (log ∷ []) at.turns fault s.acts s.rest s.stops) ⊎ FitsShort config log s.acts (in_flight fault log.centre s.rest)

  -- What is taken for granted of a call: it served a centre of the cluster, over a log from which a node boots; it came to the last serial at most;
  -- and its disks kept its log.
  pub record IsGranted (config : Config) (call : Call config) : Type 0 where
    pub centre : is_centre config.cluster call.log.centre ≡ true
    pub boots : is_ok (booted_by config.cluster (Ok call.log.facts)) ≡ true
    pub fits : Fits config call.log call.at call.result call.serves
    pub kept : IsKeptBy config call.log call.at call.result call.serves

  -- ---- the life that it was

  -- Its acts are those that the clause names, which are seen at the link and the output, with the last line where it came to it; and what is read of
  -- its two areas later, where these bytes stand there, after a crash or without one, is the log that the life left.
  pub record IsLifeOfCall (config : Config) (call : Call config) (first second : List ℕ) (life : Life) : Type 0 where
    pub of : IsLifeOf config life
    pub centre : life.centre ≡ call.log.centre
    pub log : life.log ≡ call.log.facts
    pub acts : life.acts ≡ acts_done config call.log call.at call.result call.serves
    pub line : List Act
    pub failed : List LinkCall
    pub text : List ℕ
    pub left : Leaves disk may_leave tears calls lost held (life.acts ++ line) failed text call.at.link_before call.at.link_after call.at.out_before call.at.out_after
    pub kept : payloads first second ≡ Ok (encodings_of life.kept)

  abbrev pub CallsAreLives : Type 0
  CallsAreLives =
      (config : Config) (call : Call config) → IsGranted config call
      → (first second : List ℕ) → may_leave call.at.disks_after call.log.centre first → may_leave call.at.disks_after (call.log.centre + 16) second
      → (life : Life) × IsLifeOfCall config call first second life
