-- A call of `serve_cluster` is a life of each of its centres.
use Rattle.std.proofs.Common.{List, [], ap, append-nil, append_assoc, arith, fold, inl, inr, length, map, refl, suc, sym, ℕ, ◌++◌, ◌∙◌, ◌∷◌, ◌≡◌, ◌⊎◌}
use Rattle.std.specs.List.{AllByRecursion}
use Rattle.mdcc_config.specs.declared.config.Config.{Config}
use Rattle.mdcc_def_server_runs.specs.Acts.{Act, but_answers}
use Rattle.mdcc_def_server_runs.specs.Sending.{persist_then_send}
use Rattle.mdcc_def_server_runs.specs.Servers.{Log, Server, after_last, after_turn, opened, persist_all_then_send, served, site_of, turns_of}
use Rattle.mdcc_def_server_runs.specs.Sites.{Site}
use Rattle.mdcc_def_server_runs.specs.Turns.{Given, turn_of}
use Rattle.mdcc_serve.specs.Stages.{StopsAt, StopsAtLine, StopsInEnd, StopsInOpening, StopsInTurn, after_turns}
use Rattle.mdcc_serve_site.specs.Causes.{in_flight}
use Rattle.mdcc_serve_site.specs.declared.fault.ServeFault.{ServeFault}
use Rattle.mdcc_theorem_clusters.specs.Clusters.{facts_in_flight as in_flight_of}
use Rattle.mdcc_theorem_cluster_nodes.proofs.Stops.{flight-is, line-none}
use Rattle.mdcc_theorem_cluster_nodes.specs.Several.{nothing_given, turns_before}

-- ---- turns of several centres

turns-long : (config : Config) (sites : List Site) (given : List Given) → length (turns_of config sites given).sites ≡ length sites
turns-long config [] [] = refl
turns-long config [] (g ∷ given) = refl
turns-long config (site ∷ sites) [] = refl
turns-long config (site ∷ sites) (g ∷ given) = ap suc (turns-long config sites given)

fold-long : (config : Config) (server : Server) (turns : List (List Given)) → length (fold (after_turn config) server turns).sites ≡ length server.sites
fold-long config server [] = refl
fold-long config server (turn ∷ turns) = fold-long config (after_turn config server turn) turns ∙ turns-long config server.sites turn

map-long : (logs : List Log) → length (map site_of logs) ≡ length logs
map-long [] = refl
map-long (log ∷ logs) = ap suc (map-long logs)

-- there are as many centres as logs
all-long : (config : Config) (logs : List Log) (turns : List (List Given)) → length (after_turns config logs turns).sites ≡ length logs
all-long config logs turns = fold-long config (opened config logs) turns ∙ map-long logs

fold-more : (config : Config) (server : Server) (turns : List (List Given)) (turn : List Given) → fold (after_turn config) server (turns ++ turn ∷ []) ≡ after_turn config (fold (after_turn config) server turns) turn
fold-more config server [] turn = refl
fold-more config server (t ∷ turns) turn = fold-more config (after_turn config server t) turns turn

-- the turn of one centre stands between those of the others
turns-split : (config : Config) (front : List Site) (site : Site) (back : List Site) (earlier : List Given) (g : Given) (more : List Given) → length earlier ≡ length front
    → (turns_of config (front ++ site ∷ back) (earlier ++ g ∷ more)).acts ≡ (turns_of config front earlier).acts ++ ((turn_of config site g).acts ++ (turns_of config back more).acts)
turns-split config [] site back [] g more e = refl
turns-split config [] site back (k ∷ earlier) g more e = absurd (omega (arith, e))
turns-split config (s ∷ front) site back [] g more e = absurd (omega (arith, e))
turns-split config (s ∷ front) site back (k ∷ earlier) g more e =
    ap (λ (xs : List Act). (turn_of config s k).acts ++ xs) (turns-split config front site back earlier g more (omega (arith, e)))
    ∙ sym (append_assoc (turn_of config s k).acts (turns_of config front earlier).acts ((turn_of config site g).acts ++ (turns_of config back more).acts))

end-split : (config : Config) (front : List Site) (site : Site) (back : List Site)
    → (persist_all_then_send config (front ++ site ∷ back)).acts ≡ (persist_all_then_send config front).acts ++ ((persist_then_send config site).acts ++ (persist_all_then_send config back).acts)
end-split config [] site back = refl
end-split config (s ∷ front) site back =
    ap (λ (xs : List Act). (persist_then_send config s).acts ++ xs) (end-split config front site back)
    ∙ sym (append_assoc (persist_then_send config s).acts (persist_all_then_send config front).acts ((persist_then_send config site).acts ++ (persist_all_then_send config back).acts))

-- ---- plain lists

mid-are : (done before first some rest part later end : List Act) → done ≡ (before ++ first) ++ some → some ++ rest ≡ part → done ++ (rest ++ (later ++ end)) ≡ (before ++ (first ++ (part ++ later))) ++ end
mid-are done before first some rest part later end d p =
    ap (λ (xs : List Act). xs ++ (rest ++ (later ++ end))) d
    ∙ (append_assoc (before ++ first) some (rest ++ (later ++ end))
    ∙ (ap (λ (xs : List Act). (before ++ first) ++ xs) (sym (append_assoc some rest (later ++ end)) ∙ ap (λ (xs : List Act). xs ++ (later ++ end)) p)
    ∙ (append_assoc before first (part ++ (later ++ end))
    ∙ (ap (λ (xs : List Act). before ++ (first ++ xs)) (sym (append_assoc part later end))
    ∙ (ap (λ (xs : List Act). before ++ xs) (sym (append_assoc first (part ++ later) end)) ∙ sym (append_assoc before (first ++ (part ++ later)) end))))))

end-are : (done before first some rest part later : List Act) → done ≡ (before ++ first) ++ some → some ++ rest ≡ part → done ++ (rest ++ later) ≡ before ++ (first ++ (part ++ later))
end-are done before first some rest part later d p =
    ap (λ (xs : List Act). xs ++ (rest ++ later)) d
    ∙ (append_assoc (before ++ first) some (rest ++ later)
    ∙ (ap (λ (xs : List Act). (before ++ first) ++ xs) (sym (append_assoc some rest later) ∙ ap (λ (xs : List Act). xs ++ later) p) ∙ append_assoc before first (part ++ later)))

silent-long : (back : List Site) → length (map (λ (site : Site). nothing_given) back) ≡ length back
silent-long [] = refl
silent-long (site ∷ back) = ap suc (silent-long back)

split-long : (earlier : List Given) (g : Given) (front : List Site) (site : Site) (back : List Site) → length earlier ≡ length front
    → length (earlier ++ g ∷ map (λ (site : Site). nothing_given) back) ≡ length (front ++ site ∷ back)
split-long [] g [] site back e = ap suc (silent-long back)
split-long [] g (s ∷ front) site back e = absurd (omega (arith, e))
split-long (k ∷ earlier) g [] site back e = absurd (omega (arith, e))
split-long (k ∷ earlier) g (s ∷ front) site back e = ap suc (split-long earlier g front site back (omega (arith, e)))

one-after : (n : ℕ) (turns : List (List Given)) (turn : List Given) → AllByRecursion (λ (t : List Given). length t ≡ n) turns → length turn ≡ n → AllByRecursion (λ (t : List Given). length t ≡ n) (turns ++ turn ∷ [])
one-after n [] turn h e = (e, tt)
one-after n (t ∷ turns) turn h e = (h.0, one-after n turns turn h.1 e)

-- ---- the acts that are left

pub record LeftOfAll (config : Config) (logs : List Log) (fault : ServeFault) (acts rest : List Act) (turns : List (List Given)) : Type 0 where
  pub left : List Act
  pub each : AllByRecursion (λ (turn : List Given). length turn ≡ length logs) turns
  pub is : but_answers acts ++ left ≡ (served config logs turns).acts
  pub next : (c : ℕ) → (in_flight fault c rest ≡ []) ⊎ (in_flight fault c rest ≡ in_flight_of c left)

module _ (config : Config) (logs : List Log) (asked : ℕ) (fault : ServeFault) (acts rest : List Act) where
  opening-left : StopsInOpening config logs fault acts rest → LeftOfAll config logs fault acts rest []
  opening-left s =
      let end : List Act = (persist_all_then_send config (opened config logs).sites).acts in
      record {
        left = rest ++ end;
        each = tt;
        is = sym (append_assoc (but_answers acts) rest end) ∙ ap (λ (xs : List Act). xs ++ end) s.runs;
        next = λ c. flight-is fault c rest end;
      }

  turn-left : (s : StopsInTurn config logs asked fault acts rest) → LeftOfAll config logs fault acts rest (s.given ++ (s.at.earlier ++ s.at.given ∷ map (λ (site : Site). nothing_given) s.at.back) ∷ [])
  turn-left s =
      let server : Server = after_turns config logs s.given in
      let silent : List Given = map (λ (site : Site). nothing_given) s.at.back in
      let turn : List Given = s.at.earlier ++ s.at.given ∷ silent in
      let first : List Act = (turns_of config s.at.front s.at.earlier).acts in
      let part : List Act = (turn_of config s.at.site s.at.given).acts in
      let later : List Act = (turns_of config s.at.back silent).acts in
      let next : Server = after_turn config server turn in
      let end : List Act = (persist_all_then_send config next.sites).acts in
      let split : (turns_of config server.sites turn).acts ≡ first ++ (part ++ later) =
      ap (λ (sites : List Site). (turns_of config sites turn).acts) s.at.are ∙ turns-split config s.at.front s.at.site s.at.back s.at.earlier s.at.given silent s.at.as_many in
      let long : length turn ≡ length logs = split-long s.at.earlier s.at.given s.at.front s.at.site s.at.back s.at.as_many ∙ (ap (λ (sites : List Site). length sites) (sym s.at.are) ∙ all-long config logs s.given) in
      record {
        left = rest ++ (later ++ end);
        each = one-after (length logs) s.given turn s.each long;
        is = mid-are (but_answers acts) server.acts first s.runs.some rest part later end s.runs.done s.runs.are
            ∙ (ap (λ (xs : List Act). (server.acts ++ xs) ++ end) (sym split) ∙ ap (λ (x : Server). (after_last config x).acts) (sym (fold-more config (opened config logs) s.given turn)));
        next = λ c. flight-is fault c rest (later ++ end);
      }

  end-left : (s : StopsInEnd config logs asked fault acts rest) → LeftOfAll config logs fault acts rest s.given
  end-left s =
      let server : Server = after_turns config logs s.given in
      let first : List Act = (persist_all_then_send config s.at.front).acts in
      let part : List Act = (persist_then_send config s.at.site).acts in
      let later : List Act = (persist_all_then_send config s.at.back).acts in
      record {
        left = rest ++ later;
        each = s.each;
        is = end-are (but_answers acts) server.acts first s.runs.some rest part later s.runs.done s.runs.are
            ∙ ap (λ (xs : List Act). server.acts ++ xs) (sym (ap (λ (sites : List Site). (persist_all_then_send config sites).acts) s.at.are ∙ end-split config s.at.front s.at.site s.at.back));
        next = λ c. flight-is fault c rest later;
      }

  line-left : (s : StopsAtLine config logs asked fault acts rest) → LeftOfAll config logs fault acts rest s.given
  line-left s = record {
    left = [];
    each = s.each;
    is = append-nil (but_answers acts) ∙ s.runs;
    next = λ c. inl (ap (in_flight fault c) s.line ∙ line-none fault c asked acts);
  }

  pub all-left : (s : StopsAt config logs asked fault acts rest) → LeftOfAll config logs fault acts rest (turns_before config logs asked fault acts rest s)
  all-left (inl s) = opening-left s
  all-left (inr (inl s)) = turn-left s
  all-left (inr (inr (inl s))) = end-left s
  all-left (inr (inr (inr s))) = line-left s
