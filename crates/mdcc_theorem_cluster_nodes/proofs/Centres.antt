-- Each centre of a call of `serve_cluster` lives a life.
use Rattle.std.proofs.Common.{Err, List, Ok, Option, Result, [], ap, append-nil, inl, inr, length, refl, subst, sym, ℕ, ◌++◌, ◌∙◌, ◌∷◌, ◌≡◌, ◌≢◌, ◌⊎◌}
use Rattle.std.specs.List.{AllByRecursion}
use Rattle.std.proofs.lemmas.Bool.{eqb-false}
use Rattle.mdcc_config.specs.declared.config.Config.{Config}
use Rattle.mdcc_disks.specs.Disks.{Disk}
use Rattle.mdcc_link.specs.Link.{LinkCall}
use Rattle.mdcc_log_file.specs.Area.{payloads}
use Rattle.mdcc_def_messages.specs.Spelling.{encodings_of}
use Rattle.mdcc_def_messages.specs.declared.facts.Fact.{Fact}
use Rattle.mdcc_theorem_server_runs.specs.Centres.{given_at}
use Rattle.mdcc_def_server_runs.specs.Acts.{Act, but_answers, facts_appended}
use Rattle.mdcc_def_server_runs.specs.Servers.{Log, served}
use Rattle.mdcc_def_server_runs.specs.Sites.{Site}
use Rattle.mdcc_def_server_runs.specs.Turns.{Given}
use Rattle.mdcc_serve.specs.Serving.{HasSerials}
use Rattle.mdcc_serve.specs.declared.served.Served.{Served}
use Rattle.mdcc_serve_site.specs.Causes.{in_flight}
use Rattle.mdcc_serve_site.specs.Logs.{KeepsFacts, MayHaveFacts, facts_after}
use Rattle.mdcc_serve_site.specs.declared.fault.ServeFault.{ServeFault}
use Rattle.mdcc_theorem_trace_states.specs.Words.{Each}
use Rattle.mdcc_theorem_clusters.proofs.Several.{all-acts, centre-acts}
use Rattle.mdcc_theorem_clusters.specs.Clusters.{facts_in_flight as in_flight_of}
use Rattle.mdcc_theorem_clusters.specs.Several.{AreOthers, acts_by, acts_served_by}
use Rattle.mdcc_theorem_clusters.specs.Traces.{Ending, acts_of}
use Rattle.mdcc_theorem_server_lives.specs.Histories.{but_all_answers}
use Rattle.mdcc_theorem_server_lives.specs.Lives.{MayKeep, log_after, onto}
use Rattle.mdcc_theorem_cluster_nodes.proofs.Ends.{kept-read, last, last-centre, leaves, same-all, stands}
use Rattle.mdcc_theorem_cluster_nodes.proofs.Several.{all-left}
use Rattle.mdcc_theorem_cluster_nodes.proofs.Tags.{IsOwn, IsTagged, all-own, own-answers, own-appended, own-both, own-first, own-flight, own-later, tag-them}
use Rattle.mdcc_theorem_cluster_nodes.specs.Calls.{Setting}
use Rattle.mdcc_theorem_cluster_nodes.specs.Clusters.{LivesOver}
use Rattle.mdcc_theorem_cluster_nodes.specs.Several.{AllCentresLive, Among, AreKeptBy, AreLives, ClauseOfAll, turns_before}

all-at : {A : Type 0} (P : A → Type 0) (xs : List A) (x : A) (ys : List A) → AllByRecursion P (xs ++ x ∷ ys) → P x
all-at P [] x ys h = h.0
all-at P (y ∷ xs) x ys h = all-at P xs x ys h.1

apart-all : (c : ℕ) (logs : List Log) → AreOthers c logs → AllByRecursion (λ (other : Log). other.centre ≢ c) logs
apart-all c [] h = tt
apart-all c (log ∷ logs) h = (λ same. eqb-false log.centre c h.0 same, apart-all c logs h.1)

module _ (config : Config) (logs : List Log) (turns : List (List Given)) (each : AllByRecursion (λ (turn : List Given). length turn ≡ length logs) turns) (acts left : List Act) (t : IsTagged acts left (acts_served_by config logs turns)) where
  owned : Each IsOwn (but_all_answers t.own ++ t.others)
  owned = subst (Each IsOwn) (sym t.both) (all-own config logs turns)

  -- what one of them did, and what it has left to do, are the acts of a server of it alone
  own-acts : (log : Log) (among : Among logs log) → but_answers (acts_by log.centre t.own) ++ acts_by log.centre t.others ≡ acts_of config log (given_at (length among.before) turns)
  own-acts log among =
      let c : ℕ = log.centre in
      let counted : AllByRecursion (λ (turn : List Given). length turn ≡ length (among.before ++ log ∷ among.after)) turns =
      subst (λ (xs : List Log). AllByRecursion (λ (turn : List Given). length turn ≡ length xs) turns) among.are each in
      ap (λ (xs : List Act). xs ++ acts_by c t.others) (sym (own-answers c t.own))
      ∙ (sym (own-both c (but_all_answers t.own) t.others)
      ∙ (ap (acts_by c) t.both
      ∙ (ap (λ (xs : List Log). acts_by c (acts_served_by config xs turns)) among.are ∙ centre-acts config among.before log among.after turns among.others_before among.others_after counted)))

  -- what it appended is what all acts append to its log
  own-facts : (c : ℕ) → facts_appended c acts ≡ facts_appended c (acts_by c t.own)
  own-facts c = ap (facts_appended c) (sym t.are) ∙ own-appended c t.own (own-first t.own t.others owned)

  flight : (c : ℕ) → (in_flight_of c left ≡ []) ⊎ (in_flight_of c left ≡ in_flight_of c (acts_by c t.others))
  flight c = subst (λ (xs : List Act). (in_flight_of c xs ≡ []) ⊎ (in_flight_of c xs ≡ in_flight_of c (acts_by c t.others))) t.rest (own-flight c t.others (own-later t.own t.others owned))

module _ {D L O : Type 0} (disk : D → ℕ → Disk) (may_leave : D → ℕ → List ℕ → Type 0) (tears : ℕ → Type 0) (calls : L → Option (List LinkCall)) (lost : L → ℕ) (held : O → Option (List ℕ)) (config : Config) where
  abbrev ClauseHere : List Log → Setting disk may_leave tears calls lost held → Result Served ServeFault → Type 0
  ClauseHere logs at result = ClauseOfAll disk may_leave tears calls lost held config logs at result

  -- ---- all that came to their end

  ended : (logs : List Log) (at : Setting disk may_leave tears calls lost held) (served_all : Served) (s : ClauseHere logs at (Ok served_all))
      → AreLives disk may_leave tears calls lost held config (record { logs = logs; at = at; result = Ok served_all; serves = s })
  ended logs at served_all s =
      let turns : List (List Given) = s.run.given in
      let t = tag-them s.run.ran [] (acts_served_by config logs turns) (append-nil (but_answers s.run.ran) ∙ (s.run.runs ∙ sym (all-acts config logs turns))) in
      record {
        tagged = t.own;
        are = t.are;
        each = λ log among granted found one two.
            let c : ℕ = log.centre in
            let own : List Act = acts_by c t.own in
            let counted : AllByRecursion (λ (turn : List Given). length turn ≡ length (among.before ++ log ∷ among.after)) turns =
            subst (λ (xs : List Log). AllByRecursion (λ (turn : List Given). length turn ≡ length xs) turns) among.are s.run.each in
            let before = apart-all c among.before among.others_before in
            let after = apart-all c among.after among.others_after in
            let site : Site = last config among.before log among.after turns counted in
            let did : facts_appended c own ≡ facts_appended c (served config (among.before ++ log ∷ among.after) turns).acts =
            sym (own-facts config logs turns s.run.each s.run.ran [] t c) ∙ (sym (same-all c s.run.ran) ∙ (ap (facts_appended c) s.run.runs ∙ ap (λ (xs : List Log). facts_appended c (served config xs turns).acts) among.are)) in
            let same : site.node.facts ≡ log_after c log.facts own = leaves config among.before log among.after turns counted before after (facts_appended c own) did in
            let there = (stands config among.before log among.after turns counted before after).stands in
            let sites : (served config logs turns).sites ≡ there.before ++ site ∷ there.after = ap (λ (xs : List Log). (served config xs turns).sites) among.are ∙ there.are in
            let keeps : KeepsFacts disk may_leave config.checkpoint at.disks_after c site.node.facts =
            subst (λ (z : ℕ). KeepsFacts disk may_leave config.checkpoint at.disks_after z site.node.facts) (last-centre config among.before log among.after turns counted)
            (all-at (λ (x : Site). KeepsFacts disk may_leave config.checkpoint at.disks_after x.centre x.node.facts) there.before site there.after
            (subst (AllByRecursion (λ (x : Site). KeepsFacts disk may_leave config.checkpoint at.disks_after x.centre x.node.facts)) sites s.kept)) in
            record {
              life = record { centre = c; log = log.facts; acts = own; kept = site.node.facts };
              is = record {
                centre = granted.centre;
                lived = inl (record {
                  given = given_at (length among.before) turns;
                  ending = Ending.Whole;
                  rest = acts_by c t.others;
                  acts = own-acts config logs turns s.run.each s.run.ran [] t log among;
                  kept = inl same;
                  boots = granted.boots;
                  bytes = granted.fits;
                  last_bytes = tt;
                  serials = all-at HasSerials there.before site there.after (subst (AllByRecursion HasSerials) sites s.serials);
                });
              };
              log_is = refl;
              acts_are = refl;
              read = kept-read disk may_leave at.disks_after c site.node.facts keeps found.first found.second one two;
            };
      }

  -- ---- all that ended before

  broke : (logs : List Log) (at : Setting disk may_leave tears calls lost held) (fault : ServeFault) (s : ClauseHere logs at (Err fault)) → AreKeptBy disk may_leave tears calls lost held config logs at (Err fault) s
      → AreLives disk may_leave tears calls lost held config (record { logs = logs; at = at; result = Err fault; serves = s })
  broke logs at fault s safe =
      let l = all-left config logs at.turns fault s.acts s.rest s.stops in
      let turns : List (List Given) = turns_before config logs at.turns fault s.acts s.rest s.stops in
      let t = tag-them s.acts l.left (acts_served_by config logs turns) (l.is ∙ sym (all-acts config logs turns)) in
      record {
        tagged = t.own;
        are = t.are;
        each = λ log among granted found one two.
            let c : ℕ = log.centre in
            let own : List Act = acts_by c t.own in
            let facts : List Fact = log_after c log.facts own in
            let same : facts_after c log.facts s.acts ≡ facts = ap (onto log.facts) (own-facts config logs turns l.each s.acts l.left t c) in
            let flight_of : List Fact = in_flight fault c s.rest in
            let lived : (kept : List Fact) → MayKeep c facts (acts_by c t.others) kept → (flight_of ≡ [] → kept ≡ facts) → payloads found.first found.second ≡ Ok (encodings_of kept) → LivesOver config log own found = λ kept m none read.
            record {
              life = record { centre = c; log = log.facts; acts = own; kept = kept };
              is = record {
                centre = granted.centre;
                lived = inl (elim granted.fits [
                  | inl w ↦ record {
                    given = given_at (length among.before) turns;
                    ending = Ending.Whole;
                    rest = acts_by c t.others;
                    acts = own-acts config logs turns l.each s.acts l.left t log among;
                    kept = m;
                    boots = granted.boots;
                    bytes = w.bytes;
                    last_bytes = tt;
                    serials = w.serials;
                  }
                  | inr f ↦ record {
                    given = f.given;
                    ending = Ending.Short f.last f.few;
                    rest = f.rest;
                    acts = f.are;
                    kept = inl (none f.none);
                    boots = granted.boots;
                    bytes = f.bytes;
                    last_bytes = f.last_bytes;
                    serials = f.serials;
                  }
                ]);
              };
              log_is = refl;
              acts_are = refl;
              read = read;
            } in
            let may = all-at (λ (x : Log). MayHaveFacts disk may_leave at.disks_after x.centre (facts_after x.centre x.facts s.acts) (in_flight fault x.centre s.rest)) among.before log among.after
            (subst (AllByRecursion (λ (x : Log). MayHaveFacts disk may_leave at.disks_after x.centre (facts_after x.centre x.facts s.acts) (in_flight fault x.centre s.rest))) among.are (s.kept safe)) found.first found.second one two in
            let plain : (more : List Fact) → more ≡ [] → payloads found.first found.second ≡ Ok (encodings_of (onto (facts_after c log.facts s.acts) more)) → LivesOver config log own found = λ more none read.
            lived facts (inl refl) (λ e. refl) (read ∙ (ap (λ (xs : List Fact). Ok (encodings_of (onto (facts_after c log.facts s.acts) xs))) none ∙ ap (λ (xs : List Fact). Ok (encodings_of xs)) same)) in
            elim may [
              | inl read ↦ plain [] refl read
              | inr read ↦ elim (l.next c) [
                | inl none ↦ plain (in_flight fault c s.rest) none read
                | inr some ↦ elim (flight config logs turns l.each s.acts l.left t c) [
                  | inl none ↦ plain (in_flight fault c s.rest) (some ∙ none) read
                  | inr more ↦ lived (onto facts (in_flight_of c (acts_by c t.others))) (inr refl) (λ e. ap (onto facts) (sym more ∙ (sym some ∙ e)))
                      (read ∙ (ap (λ (xs : List Fact). Ok (encodings_of (onto (facts_after c log.facts s.acts) xs))) (some ∙ more)
                      ∙ ap (λ (xs : List Fact). Ok (encodings_of (onto xs (in_flight_of c (acts_by c t.others))))) same))
                ]
              ]
            ];
      }

  by-result : (logs : List Log) (at : Setting disk may_leave tears calls lost held) (result : Result Served ServeFault) (s : ClauseHere logs at result) → AreKeptBy disk may_leave tears calls lost held config logs at result s
      → AreLives disk may_leave tears calls lost held config (record { logs = logs; at = at; result = result; serves = s })
  by-result logs at (Ok served_all) s safe = ended logs at served_all s
  by-result logs at (Err fault) s safe = broke logs at fault s safe

pub all-centres-live : {D L O : Type 0} (disk : D → ℕ → Disk) (may_leave : D → ℕ → List ℕ → Type 0) (tears : ℕ → Type 0) (calls : L → Option (List LinkCall)) (lost : L → ℕ) (held : O → Option (List ℕ))
    → AllCentresLive disk may_leave tears calls lost held
all-centres-live disk may_leave tears calls lost held config call safe = by-result disk may_leave tears calls lost held config call.logs call.at call.result call.serves safe
