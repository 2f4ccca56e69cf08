-- A server of one centre that ended before its end did the first acts of what it does by what its receives gave.
use Rattle.std.proofs.Common.{List, [], ap, append-nil, append_assoc, inl, inr, refl, sym, ℕ, ◌++◌, ◌∙◌, ◌∷◌, ◌≡◌, ◌⊎◌}
use Rattle.mdcc_config.specs.declared.config.Config.{Config}
use Rattle.mdcc_theorem_server_runs.specs.Centres.{given_at}
use Rattle.mdcc_theorem_server_runs.specs.Inputs.{turns, turns_alone}
use Rattle.mdcc_def_server_runs.specs.Acts.{Act, but_answers}
use Rattle.mdcc_def_server_runs.specs.Sending.{persist_then_send}
use Rattle.mdcc_def_server_runs.specs.Servers.{Log, Server, opened, persist_all_then_send, site_of, turns_of}
use Rattle.mdcc_def_server_runs.specs.Sites.{Site}
use Rattle.mdcc_def_server_runs.specs.Turns.{Given, turn_of}
use Rattle.mdcc_serve.specs.Stages.{StopsAt, StopsAtLine, StopsInEnd, StopsInOpening, StopsInTurn, done_line}
use Rattle.mdcc_serve_site.specs.Causes.{in_flight, next_facts}
use Rattle.mdcc_serve_site.specs.declared.fault.ServeFault.{ServeFault}
use Rattle.mdcc_theorem_clusters.proofs.Tracing.{acts-are, rest}
use Rattle.mdcc_theorem_clusters.specs.Clusters.{facts_in_flight as in_flight_of}
use Rattle.mdcc_theorem_clusters.specs.Traces.{acts_of}
use Rattle.mdcc_theorem_cluster_nodes.proofs.Single.{after-turns, all-acts, only-one, rest-more, served-acts}
use Rattle.mdcc_theorem_cluster_nodes.specs.Turns.{given_before}

-- these acts are left, and of an append that comes next there may be all facts in the log
pub record LeftOf (config : Config) (log : Log) (fault : ServeFault) (acts rest : List Act) (given : List Given) : Type 0 where
  pub left : List Act
  pub is : but_answers acts ++ left ≡ acts_of config log given
  pub next : (c : ℕ) → (in_flight fault c rest ≡ []) ⊎ (in_flight fault c rest ≡ in_flight_of c left)

next-is : (c : ℕ) (rest more : List Act) → (next_facts c rest ≡ []) ⊎ (next_facts c rest ≡ in_flight_of c (rest ++ more))
next-is c [] more = inl refl
next-is c (Act.Append centre facts ∷ rest) more = inr refl
next-is c (Act.Bind at address ∷ rest) more = inl refl
next-is c (Act.Receive at gave ∷ rest) more = inl refl
next-is c (Act.Send from to bytes answer ∷ rest) more = inl refl
next-is c (Act.Print line ∷ rest) more = inl refl
next-is c (Act.Stepped ∷ rest) more = inl refl
next-is c (Act.Dropped ∷ rest) more = inl refl
next-is c (Act.Unsent ∷ rest) more = inl refl

pub flight-is : (fault : ServeFault) (c : ℕ) (rest more : List Act) → (in_flight fault c rest ≡ []) ⊎ (in_flight fault c rest ≡ in_flight_of c (rest ++ more))
flight-is (ServeFault.Disk a) c rest more = next-is c rest more
flight-is ServeFault.Link c rest more = inl refl
flight-is ServeFault.Output c rest more = inl refl
flight-is (ServeFault.Log a fault) c rest more = inl refl
flight-is (ServeFault.Boot a fault) c rest more = inl refl
flight-is ServeFault.Serial c rest more = inl refl
flight-is ServeFault.Memory c rest more = inl refl

pub line-none : (fault : ServeFault) (c turns : ℕ) (acts : List Act) → in_flight fault c (Act.Print (done_line turns acts) ∷ []) ≡ []
line-none (ServeFault.Disk a) c turns acts = refl
line-none ServeFault.Link c turns acts = refl
line-none ServeFault.Output c turns acts = refl
line-none (ServeFault.Log a fault) c turns acts = refl
line-none (ServeFault.Boot a fault) c turns acts = refl
line-none ServeFault.Serial c turns acts = refl
line-none ServeFault.Memory c turns acts = refl

none-turned : (config : Config) (front : List Site) (earlier : List Given) → front ≡ [] → (turns_of config front earlier).acts ≡ []
none-turned config [] [] e = refl
none-turned config [] (g ∷ earlier) e = refl
none-turned config (s ∷ front) earlier e = absurd (cc)

none-ended : (config : Config) (front : List Site) → front ≡ [] → (persist_all_then_send config front).acts ≡ []
none-ended config [] e = refl
none-ended config (s ∷ front) e = absurd (cc)

-- plain lists: what was done of a part, and what comes after it
parts-are : (done before nothing some rest part more whole : List Act) → done ≡ (before ++ nothing) ++ some → nothing ≡ [] → some ++ rest ≡ part → before ++ (part ++ more) ≡ whole → done ++ (rest ++ more) ≡ whole
parts-are done before nothing some rest part more whole d n p w =
    ap (λ (xs : List Act). xs ++ (rest ++ more)) (d ∙ ap (λ (xs : List Act). (before ++ xs) ++ some) n ∙ ap (λ (xs : List Act). xs ++ some) (append-nil before))
    ∙ (append_assoc before some (rest ++ more) ∙ (ap (λ (xs : List Act). before ++ xs) (sym (append_assoc some rest more) ∙ ap (λ (xs : List Act). xs ++ more) p) ∙ w))

module _ (config : Config) (log : Log) (turns_asked : ℕ) (fault : ServeFault) (acts rest_left : List Act) where
  in-opening : (s : StopsInOpening config (log ∷ []) fault acts rest_left) → LeftOf config log fault acts rest_left []
  in-opening s =
      let more : List Act = (persist_then_send config (site_of log)).acts in
      record {
        left = rest_left ++ more;
        is = sym (append_assoc (but_answers acts) rest_left more) ∙ (ap (λ (xs : List Act). xs ++ more) s.runs ∙ sym (acts-are config log []));
        next = λ c. flight-is fault c rest_left more;
      }

  in-turn : (s : StopsInTurn config (log ∷ []) turns_asked fault acts rest_left) → LeftOf config log fault acts rest_left (given_at 0 s.given ++ s.at.given ∷ [])
  in-turn s =
      let given : List Given = given_at 0 s.given in
      let site : Site = (turns_alone config (site_of log) given).site in
      let server = after-turns config log s.given s.each in
      let sites : site ∷ [] ≡ s.at.front ++ s.at.site ∷ s.at.back = sym (ap (λ (x : Server). x.sites) server) ∙ s.at.are in
      let one = only-one site s.at.front s.at.site s.at.back sites in
      let part : List Act = (turn_of config site s.at.given).acts in
      let more : List Act = (persist_then_send config (turn_of config site s.at.given).site).acts in
      let start : List Act = (opened config (log ∷ [])).acts in
      let before : List Act = start ++ (turns_alone config (site_of log) given).acts in
      let nothing : List Act = (turns_of config s.at.front s.at.earlier).acts in
      let whole : before ++ (part ++ more) ≡ acts_of config log (given ++ s.at.given ∷ []) =
      append_assoc start (turns_alone config (site_of log) given).acts (part ++ more)
      ∙ (ap (λ (xs : List Act). start ++ xs) (sym (rest-more config (site_of log) given s.at.given)) ∙ sym (acts-are config log (given ++ s.at.given ∷ []))) in
      record {
        left = rest_left ++ more;
        is = parts-are (but_answers acts) before nothing s.runs.some rest_left part more (acts_of config log (given ++ s.at.given ∷ []))
            (s.runs.done ∙ ap (λ (x : Server). (x.acts ++ nothing) ++ s.runs.some) server) (none-turned config s.at.front s.at.earlier one.none)
            (s.runs.are ∙ ap (λ (x : Site). (turn_of config x s.at.given).acts) one.same) whole;
        next = λ c. flight-is fault c rest_left more;
      }

  in-end : (s : StopsInEnd config (log ∷ []) turns_asked fault acts rest_left) → LeftOf config log fault acts rest_left (given_at 0 s.given)
  in-end s =
      let given : List Given = given_at 0 s.given in
      let site : Site = (turns_alone config (site_of log) given).site in
      let server = after-turns config log s.given s.each in
      let sites : site ∷ [] ≡ s.at.front ++ s.at.site ∷ s.at.back = sym (ap (λ (x : Server). x.sites) server) ∙ s.at.are in
      let one = only-one site s.at.front s.at.site s.at.back sites in
      let part : List Act = (persist_then_send config site).acts in
      let start : List Act = (opened config (log ∷ [])).acts in
      let before : List Act = start ++ (turns_alone config (site_of log) given).acts in
      let nothing : List Act = (persist_all_then_send config s.at.front).acts in
      let whole : before ++ (part ++ []) ≡ acts_of config log given =
      append_assoc start (turns_alone config (site_of log) given).acts (part ++ [])
      ∙ (ap (λ (xs : List Act). start ++ ((turns_alone config (site_of log) given).acts ++ xs)) (append-nil part) ∙ sym (all-acts config log given)) in
      record {
        left = rest_left ++ [];
        is = parts-are (but_answers acts) before nothing s.runs.some rest_left part [] (acts_of config log given)
            (s.runs.done ∙ ap (λ (x : Server). (x.acts ++ nothing) ++ s.runs.some) server) (none-ended config s.at.front one.none)
            (s.runs.are ∙ ap (λ (x : Site). (persist_then_send config x).acts) one.same) whole;
        next = λ c. flight-is fault c rest_left [];
      }

  at-line : (s : StopsAtLine config (log ∷ []) turns_asked fault acts rest_left) → LeftOf config log fault acts rest_left (given_at 0 s.given)
  at-line s = record {
    left = [];
    is = append-nil (but_answers acts) ∙ (s.runs ∙ served-acts config log s.given s.each);
    next = λ c. inl (ap (in_flight fault c) s.line ∙ line-none fault c turns_asked acts);
  }

  pub stops-left : (s : StopsAt config (log ∷ []) turns_asked fault acts rest_left) → LeftOf config log fault acts rest_left (given_before config (log ∷ []) turns_asked fault acts rest_left s)
  stops-left (inl s) = in-opening s
  stops-left (inr (inl s)) = in-turn s
  stops-left (inr (inr (inl s))) = in-end s
  stops-left (inr (inr (inr s))) = at-line s
