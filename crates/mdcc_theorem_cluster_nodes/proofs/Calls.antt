-- A call is a life.
use Rattle.std.proofs.Common.{Err, List, Ok, Option, Result, [], ap, append-nil, inl, inr, refl, subst, sym, ℕ, ◌+◌, ◌++◌, ◌∙◌, ◌∷◌, ◌≡◌, ◌⊎◌}
use Rattle.std.specs.List.{AllByRecursion}
use Rattle.std.specs.Prelude.{take}
use Rattle.mdcc_node_log.specs.Logged.{AreLogged}
use Rattle.mdcc_config.specs.declared.config.Config.{Config}
use Rattle.mdcc_disks.specs.Disks.{Disk}
use Rattle.mdcc_link.specs.Link.{LinkCall}
use Rattle.mdcc_log_file.specs.Area.{payloads}
use Rattle.mdcc_def_messages.specs.Spelling.{encodings_of}
use Rattle.mdcc_def_messages.specs.declared.facts.Fact.{Fact}
use Rattle.mdcc_theorem_server_runs.specs.Centres.{given_at}
use Rattle.mdcc_def_server_runs.specs.Acts.{Act, but_answers, facts_appended}
use Rattle.mdcc_def_server_runs.specs.Servers.{Log}
use Rattle.mdcc_def_server_runs.specs.Sites.{Site}
use Rattle.mdcc_def_server_runs.specs.Turns.{Given}
use Rattle.mdcc_serve.specs.Serving.{HasSerials, IsServedLog, Leaves, WhileOpening}
use Rattle.mdcc_serve.specs.Stages.{done_line}
use Rattle.mdcc_serve.specs.declared.served.Served.{Served}
use Rattle.mdcc_serve_site.specs.Causes.{failed_by, in_flight, text_begun}
use Rattle.mdcc_serve_site.specs.Logs.{KeepsFacts}
use Rattle.mdcc_serve_site.specs.declared.fault.ServeFault.{ServeFault}
use Rattle.mdcc_theorem_clusters.specs.Traces.{Ending}
use Rattle.mdcc_theorem_server_lives.specs.Lives.{Life, MayKeep, Serves as Serving, log_after, onto}
use Rattle.mdcc_theorem_cluster_nodes.proofs.Ends.{kept-read, last, last-centre, leaves, same-all}
use Rattle.mdcc_theorem_cluster_nodes.proofs.Single.{served-acts, served-site}
use Rattle.mdcc_theorem_cluster_nodes.proofs.Stops.{stops-left}
use Rattle.mdcc_theorem_cluster_nodes.specs.Areas.{Areas}
use Rattle.mdcc_theorem_cluster_nodes.specs.Calls.{Call, CallsAreLives, Clause, IsGranted, Setting, acts_done}
use Rattle.mdcc_theorem_cluster_nodes.specs.Clusters.{IsCalled, Lives, LivesOver}
use Rattle.mdcc_theorem_cluster_nodes.specs.Turns.{given_before}

-- what is asked while it opened gives this
asked-then : {Opening Later P Q : Type 0} (stops : Opening ⊎ Later) → (P → Q) → WhileOpening stops P → WhileOpening stops Q
asked-then (inl opening) gives asked = gives asked
asked-then (inr later) gives asked = tt

module _ {D L O : Type 0} (disk : D → ℕ → Disk) (may_leave : D → ℕ → List ℕ → Type 0) (tears : ℕ → Type 0) (calls : L → Option (List LinkCall)) (lost : L → ℕ) (held : O → Option (List ℕ)) where
  abbrev ClauseOf : Config → Log → Setting disk may_leave tears calls lost held → Result Served ServeFault → Type 0
  ClauseOf config log at result = Clause disk may_leave tears calls lost held config log at result

  abbrev Granted : (config : Config) (log : Log) (at : Setting disk may_leave tears calls lost held) (result : Result Served ServeFault) → ClauseOf config log at result → Type 0
  Granted config log at result s = IsGranted disk may_leave tears calls lost held config (record { log = log; at = at; result = result; serves = s })

  abbrev life_of : (config : Config) (log : Log) (at : Setting disk may_leave tears calls lost held) (result : Result Served ServeFault) → ClauseOf config log at result → List Fact → Life
  life_of config log at result s kept = record { centre = log.centre; log = log.facts; acts = acts_done disk may_leave tears calls lost held config log at result s; kept = kept }

  -- the call is a life that leaves this log
  record Becomes (config : Config) (log : Log) (at : Setting disk may_leave tears calls lost held) (result : Result Served ServeFault) (s : ClauseOf config log at result) (first second : List ℕ) : Type 0 where
    kept : List Fact
    serves : Serving config (life_of config log at result s kept)
    line : List Act
    failed : List LinkCall
    text : List ℕ
    left : Leaves disk may_leave tears calls lost held (acts_done disk may_leave tears calls lost held config log at result s ++ line) failed text at.link_before at.link_after at.out_before at.out_after
    read : payloads first second ≡ Ok (encodings_of kept)

  -- ---- one that came to its end

  ended : (config : Config) (log : Log) (at : Setting disk may_leave tears calls lost held) (served : Served) (s : ClauseOf config log at (Ok served)) → Granted config log at (Ok served) s
      → (first second : List ℕ) → may_leave at.disks_after log.centre first → may_leave at.disks_after (log.centre + 16) second → Becomes config log at (Ok served) s first second
  ended config log at served s granted first second one two =
      let given : List (List Given) = s.run.given in
      let site : Site = last config [] log [] given s.run.each in
      let same : site.node.facts ≡ log_after log.centre log.facts s.run.ran =
      leaves config [] log [] given s.run.each tt tt (facts_appended log.centre s.run.ran) (sym (same-all log.centre s.run.ran) ∙ ap (facts_appended log.centre) s.run.runs) in
      let sites = served-site config log given s.run.each in
      let keeps : KeepsFacts disk may_leave config.checkpoint at.disks_after log.centre site.node.facts =
      subst (λ (c : ℕ). KeepsFacts disk may_leave config.checkpoint at.disks_after c site.node.facts) (last-centre config [] log [] given s.run.each)
      (subst (AllByRecursion (λ (x : Site). KeepsFacts disk may_leave config.checkpoint at.disks_after x.centre x.node.facts)) sites s.kept).0 in
      record {
        kept = site.node.facts;
        serves = record {
          given = given_at 0 given;
          ending = Ending.Whole;
          rest = [];
          acts = append-nil (but_answers s.run.ran) ∙ (s.run.runs ∙ served-acts config log given s.run.each);
          kept = inl same;
          boots = granted.boots;
          bytes = granted.fits;
          last_bytes = tt;
          serials = (subst (AllByRecursion HasSerials) sites s.serials).0;
        };
        line = Act.Print (done_line at.turns s.run.ran) ∷ [];
        failed = [];
        text = [];
        left = subst (λ (acts : List Act). Leaves disk may_leave tears calls lost held acts [] [] at.link_before at.link_after at.out_before at.out_after) s.run.whole s.left;
        read = kept-read disk may_leave at.disks_after log.centre site.node.facts keeps first second one two;
      }

  -- ---- one that ended before

  broke : (config : Config) (log : Log) (at : Setting disk may_leave tears calls lost held) (fault : ServeFault) (s : ClauseOf config log at (Err fault)) → Granted config log at (Err fault) s
      → (first second : List ℕ) → may_leave at.disks_after log.centre first → may_leave at.disks_after (log.centre + 16) second → Becomes config log at (Err fault) s first second
  broke config log at fault s granted first second one two =
      let stop = stops-left config log at.turns fault s.acts s.rest s.stops in
      let facts : List Fact = log_after log.centre log.facts s.acts in
      let flight : List Fact = in_flight fault log.centre s.rest in
      let becomes : (kept : List Fact) → MayKeep log.centre facts stop.left kept → (flight ≡ [] → kept ≡ facts) → payloads first second ≡ Ok (encodings_of kept) → Becomes config log at (Err fault) s first second = λ kept m none read.
      record {
        kept = kept;
        serves = elim granted.fits [
          | inl w ↦ record {
            given = given_before config (log ∷ []) at.turns fault s.acts s.rest s.stops;
            ending = Ending.Whole;
            rest = stop.left;
            acts = stop.is;
            kept = m;
            boots = granted.boots;
            bytes = w.bytes;
            last_bytes = tt;
            serials = w.serials;
          }
          | inr f ↦ record {
            given = f.given;
            ending = Ending.Short f.last f.few;
            rest = f.rest;
            acts = f.are;
            kept = inl (none f.none);
            boots = granted.boots;
            bytes = f.bytes;
            last_bytes = f.last_bytes;
            serials = f.serials;
          }
        ];
        line = [];
        failed = failed_by fault s.rest;
        text = take s.printed_more (text_begun fault s.rest);
        left = subst (λ (acts : List Act). Leaves disk may_leave tears calls lost held acts (failed_by fault s.rest) (take s.printed_more (text_begun fault s.rest)) at.link_before at.link_after at.out_before at.out_after)
            (sym (append-nil s.acts)) s.left;
        read = read;
      } in
      elim ((s.kept (asked-then s.stops (λ asked. ((asked.0, tt), asked.1)) granted.kept)).0 first second one two) [
        | inl read ↦ becomes facts (inl refl) (λ none. refl) read
        | inr read ↦ elim (stop.next log.centre) [
          | inl none ↦ becomes facts (inl refl) (λ e. refl) (read ∙ ap (λ (more : List Fact). Ok (encodings_of (onto facts more))) none)
          | inr some ↦ becomes (onto facts flight) (inr (ap (onto facts) some)) (λ none. ap (onto facts) none) read
        ]
      ]

  by-result : (config : Config) (log : Log) (at : Setting disk may_leave tears calls lost held) (result : Result Served ServeFault) (s : ClauseOf config log at result) → Granted config log at result s
      → (first second : List ℕ) → may_leave at.disks_after log.centre first → may_leave at.disks_after (log.centre + 16) second → Becomes config log at result s first second
  by-result config log at (Ok served) s granted first second one two = ended config log at served s granted first second one two
  by-result config log at (Err fault) s granted first second one two = broke config log at fault s granted first second one two

  pub calls-are-lives : CallsAreLives disk may_leave tears calls lost held
  calls-are-lives config call granted first second one two =
      let b = by-result config call.log call.at call.result call.serves granted first second one two in (
        life_of config call.log call.at call.result call.serves b.kept,
        record {
          of = record { centre = granted.centre; lived = inl b.serves };
          centre = refl;
          log = refl;
          acts = refl;
          line = b.line;
          failed = b.failed;
          text = b.text;
          left = b.left;
          kept = b.read;
        },
      )

  -- ---- over the areas that it finds

  abbrev log-of : ℕ → List Fact → Log
  log-of a facts = record { centre = a; facts = facts }

  same-log : (a b : ℕ) (one other : List Fact) → a ≡ b → one ≡ other → log-of a one ≡ log-of b other
  same-log a b one other e f = cc

  called-at : (config : Config) (a : ℕ) (found : Areas) (acts : List Act) (left : Areas) → IsCalled disk may_leave tears calls lost held config a found acts left → (facts : List Fact)
      → payloads found.first found.second ≡ Ok (encodings_of facts) → AreLogged config.cluster facts → LivesOver config (record { centre = a; facts = facts }) acts left
  called-at config a found acts left c facts read allowed =
      let log : Log = record { centre = a; facts = facts } in
      let has : IsServedLog disk config.cluster c.at.disks_before log = record {
        told = c.told.first;
        told_other = c.told.second;
        has = ap (λ (bytes : List ℕ). payloads bytes (disk c.at.disks_before (a + 16)).bytes) c.first ∙ (ap (payloads found.first) c.second ∙ read);
        allowed = allowed;
      } in
      let call : Call disk may_leave tears calls lost held config = record { log = log; at = c.at; result = c.result; serves = c.serves log refl has } in
      let lived = calls-are-lives config call (c.granted log refl has) left.first left.second c.left_first c.left_second in
      let life : Life = lived.0 in
      let l = lived.1 in
      record {
        life = life;
        is = l.of;
        log_is = same-log life.centre a life.log facts l.centre l.log;
        acts_are = l.acts ∙ sym (c.acts_are log refl has);
        read = l.kept;
      }

  pub called-lives : (config : Config) (a : ℕ) (found : Areas) (acts : List Act) (left : Areas) → IsCalled disk may_leave tears calls lost held config a found acts left → Lives config a found acts left
  called-lives config a found acts left c log own read allowed =
      let same : record { centre = a; facts = log.facts } ≡ log = ap (λ (n : ℕ). record { centre = n; facts = log.facts }) (sym own) in
      subst (λ (l : Log). LivesOver config l acts left) same (called-at config a found acts left c log.facts read allowed)
