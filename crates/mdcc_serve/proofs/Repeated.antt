-- Turns of all centres, one after another.
use Rattle.std.proofs.Common.{◌≡◌, ◌≢◌, ℕ, ◌+◌, ◌<◌, List, [], ◌∷◌, ◌++◌, length, refl, sym, ◌∙◌, ap, subst, arith, IsTrue, append_assoc, length-append}
use Rattle.std.proofs.lemmas.List.Sums.{fold-append}
use Rattle.std.specs.List.{AllByRecursion}
use Rattle.std.specs.Prelude.{fold, ⊤}
use Rattle.mdcc_config.specs.declared.config.Config.{Config}
use Rattle.mdcc_def_messages.specs.declared.facts.Fact.{Fact}
use Rattle.mdcc_option.specs.declared.cluster.Cluster.{Cluster}
use Rattle.mdcc_def_server_runs.specs.Acts.{Act, but_answers, facts_appended}
use Rattle.mdcc_def_server_runs.specs.Servers.{Server, after_turn, turns_of}
use Rattle.mdcc_def_server_runs.specs.Sites.{Doing, Site}
use Rattle.mdcc_def_server_runs.specs.Turns.{Given, turn_of}
use Rattle.mdcc_serve.proofs.Doings.{AllOwn, AllWhole, each_ascend, each_does, each_long, each_whole, turns_are, turns_own}
use Rattle.mdcc_serve.proofs.Others.{keeps_fewer, keeps_none, keeps_then}
use Rattle.mdcc_serve.proofs.Rounds.{Elsewhere, ascend_later, each_quiet, hold_whole, part_then}
use Rattle.mdcc_serve.specs.Centres.{AllFinish, AllLogs, AllStop, AllTold, Ascend, HoldSites, Places, TurnStops, TurnsStop, all_seen}
use Rattle.mdcc_serve.specs.Others.{IsNoDiskOf, IsNoDiskOfSites, KeepsElsewhere}
use Rattle.mdcc_serve.specs.Stages.{InPart}
use Rattle.mdcc_serve_site.proofs.Going.{comes_under}
use Rattle.mdcc_serve_site.proofs.Joined.{did_broke, did_nothing, did_then, facts_expected, facts_then}
use Rattle.mdcc_serve_site.specs.Causes.{in_flight}
use Rattle.mdcc_serve_site.specs.Logs.{MayHaveFacts, facts_after, with_facts}
use Rattle.mdcc_serve_site.specs.Moments.{Broke, MayComeAt, Outside}
use Rattle.mdcc_serve_site.specs.declared.fault.ServeFault.{ServeFault}
use Rattle.mdcc_theorem_node_steps.proofs.Each.{each-append}

-- before the first turn
abbrev pub begun : List Site → Server
begun sites = record { acts = []; sites = sites }

-- ---- what the acts append to the log of each

-- the centres that these are after acts
abbrev pub Grew : List Act → List Site → List Site → Type 0
Grew acts [] [] = ⊤
Grew acts (old ∷ olds) (new ∷ news) = (new.centre ≡ old.centre) × (new.logged ≡ facts_after old.centre old.logged acts) × Grew acts olds news
Grew acts _ _ = ⊥

grew_none : (sites : List Site) → Grew [] sites sites
grew_none [] = tt
grew_none (site ∷ sites) = (refl, refl, grew_none sites)

grew_then : (xs ys : List Act) (olds mids news : List Site) → Grew xs olds mids → Grew ys mids news → Grew (xs ++ ys) olds news
grew_then xs ys [] [] [] one two = tt
grew_then xs ys (old ∷ olds) (mid ∷ mids) (new ∷ news) one two = (
  two.0 ∙ one.0,
  two.1 ∙ (ap (λ (n : ℕ). facts_after n mid.logged ys) one.0 ∙ (ap (λ (fs : List Fact). facts_after old.centre fs ys) one.1 ∙ sym (facts_then old.centre old.logged xs ys))),
  grew_then xs ys olds mids news one.2 two.2,
)
grew_then xs ys [] [] (new ∷ news) one two = absurd two
grew_then xs ys [] (mid ∷ mids) news one two = absurd one
grew_then xs ys (old ∷ olds) [] news one two = absurd one
grew_then xs ys (old ∷ olds) (mid ∷ mids) [] one two = absurd two

-- they have the same disks
pub grew_elsewhere : (acts : List Act) (olds news : List Site) (p : ℕ) → Grew acts olds news → IsNoDiskOfSites olds p → IsNoDiskOfSites news p
grew_elsewhere acts [] [] p grew is = tt
grew_elsewhere acts (old ∷ olds) (new ∷ news) p grew is = (subst (λ (n : ℕ). IsNoDiskOf p n) (sym grew.0) is.0, grew_elsewhere acts olds news p grew.2 is.1)
grew_elsewhere acts [] (new ∷ news) p grew is = absurd grew
grew_elsewhere acts (old ∷ olds) [] p grew is = absurd grew

-- ---- one turn of all

ascend_turned : (config : Config) (sites : List Site) (given : List Given) → Ascend 0 sites → Ascend 0 (turns_of config sites given).sites
ascend_turned config sites given ascend =
    subst (λ (server : Server). Ascend 0 server.sites) (sym (turns_are config sites given)) (each_ascend (turn_of config) (turns_own config) 0 sites given ascend)

turned_long : (config : Config) (sites : List Site) (given : List Given) → length (turns_of config sites given).sites ≡ length sites
turned_long config sites given = ap (λ (server : Server). length server.sites) (turns_are config sites given) ∙ each_long (turn_of config) sites given

turned_whole : (config : Config) (sites : List Site) (given : List Given) → AllWhole sites → AllWhole (turns_of config sites given).sites
turned_whole config sites given whole =
    subst (λ (server : Server). AllWhole server.sites) (sym (turns_are config sites given)) (each_whole (turn_of config) (turns_own config) sites given whole)

pub ascend_on : (config : Config) (server : Server) (given : List (List Given)) → Ascend 0 server.sites → Ascend 0 (fold (after_turn config) server given).sites
ascend_on config server [] ascend = ascend
ascend_on config server (turn ∷ more) ascend = ascend_on config (after_turn config server turn) more (ascend_turned config server.sites turn ascend)

pub whole_on : (config : Config) (server : Server) (given : List (List Given)) → AllWhole server.sites → AllWhole (fold (after_turn config) server given).sites
whole_on config server [] whole = whole
whole_on config server (turn ∷ more) whole = whole_on config (after_turn config server turn) more (turned_whole config server.sites turn whole)

module _ {D L O : Type 0} (w : Outside D L O) where
  grew_before : (b : ℕ) (xs ys : List Act) (olds news : List Site) → ((c : ℕ) → c ≢ b → facts_appended c xs ≡ []) → Elsewhere w b olds → Grew ys olds news → Grew (xs ++ ys) olds news
  grew_before b xs ys [] [] silent other grew = tt
  grew_before b xs ys (old ∷ olds) (new ∷ news) silent other grew = (
    grew.0,
    grew.1 ∙ sym (facts_then old.centre old.logged xs ys ∙ ap (λ (fs : List Fact). facts_after old.centre (with_facts old.logged fs) ys) (silent old.centre other.0.1)),
    grew_before b xs ys olds news silent other.1 grew.2,
  )
  grew_before b xs ys [] (new ∷ news) silent other grew = absurd grew
  grew_before b xs ys (old ∷ olds) [] silent other grew = absurd grew

  pub each_grew : {G : Type 0} (does : Site → G → Doing) → AllOwn does → (n : ℕ) (sites : List Site) (given : List G) → length sites ≡ length given → Ascend n sites → AllWhole sites
      → Grew (each_does does sites given).acts sites (each_does does sites given).sites
  each_grew does own n [] [] same ascend whole = tt
  each_grew does own n (site ∷ sites) (g ∷ given) same ascend whole =
      let owns = own site g in
      let later = ascend_later w site.centre site.centre sites (omega arith) ascend.2 in
      let first = (does site g).acts in
      let rest = each_does does sites given in (
        owns.centre,
        owns.logged whole.0 ∙ sym (facts_then site.centre site.logged first rest.acts ∙ ap (λ (fs : List Fact). with_facts (facts_after site.centre site.logged first) fs) (each_quiet w does own site.centre sites given (omega (same, arith)) later)),
        grew_before site.centre first rest.acts sites rest.sites owns.others later (each_grew does own site.centre sites given (omega (same, arith)) ascend.2 whole.1),
      )
  each_grew does own n [] (g ∷ given) same ascend whole = absurd (omega (same, arith))
  each_grew does own n (site ∷ sites) [] same ascend whole = absurd (omega (same, arith))

  turns_grew : (config : Config) (sites : List Site) (given : List Given) → length sites ≡ length given → Ascend 0 sites → AllWhole sites → Grew (turns_of config sites given).acts sites (turns_of config sites given).sites
  turns_grew config sites given same ascend whole =
      subst (λ (server : Server). Grew server.acts sites server.sites) (sym (turns_are config sites given)) (each_grew (turn_of config) (turns_own config) 0 sites given same ascend whole)

  -- what is done after acts
  pub grew_more : (first next : Server) (start : List Site) → Grew first.acts start first.sites → Grew next.acts first.sites next.sites → Grew (first.acts ++ next.acts) start next.sites
  grew_more first next start one two = grew_then first.acts next.acts start first.sites next.sites one two

  grew_from : (config : Config) (start : List Site) (server : Server) (given : List (List Given)) → Ascend 0 server.sites → AllWhole server.sites → AllByRecursion (λ turn. length turn ≡ length server.sites) given → Grew server.acts start server.sites
      → Grew (fold (after_turn config) server given).acts start (fold (after_turn config) server given).sites
  grew_from config start server [] ascend whole each grew = grew
  grew_from config start server (turn ∷ more) ascend whole each grew =
      let next = turns_of config server.sites turn in
      grew_from config start (after_turn config server turn) more (ascend_turned config server.sites turn ascend) (turned_whole config server.sites turn whole)
      (subst (λ (n : ℕ). AllByRecursion (λ t. length t ≡ n) more) (sym (turned_long config server.sites turn)) each.1)
      (grew_more server next start grew (turns_grew config server.sites turn (sym each.0) ascend whole))

  -- the log of each has what the turns appended
  pub grew_on : (config : Config) (sites : List Site) (given : List (List Given)) → Ascend 0 sites → AllWhole sites → AllByRecursion (λ turn. length turn ≡ length sites) given
      → Grew (fold (after_turn config) (begun sites) given).acts sites (fold (after_turn config) (begun sites) given).sites
  grew_on config sites given ascend whole each = grew_from config sites (begun sites) given ascend whole each (grew_none sites)

  -- ---- after acts that were done

  -- what stays of other disks, and is kept on
  pub others_on : (cluster : Cluster) (served : List Site) (server : Server) (start now new : Places D L O) → Grew server.acts served server.sites → AllFinish w cluster served server start now
      → KeepsElsewhere w.disk w.may_leave server.sites now.disks new.disks → KeepsElsewhere w.disk w.may_leave served start.disks new.disks
  others_on cluster served server start now new grew finish keeps =
      keeps_then w.disk w.may_leave (IsNoDiskOfSites served) start.disks now.disks new.disks finish.others
      (keeps_fewer w.disk w.may_leave (IsNoDiskOfSites server.sites) (IsNoDiskOfSites served) now.disks new.disks (λ p is. grew_elsewhere server.acts served server.sites p grew is) keeps)

  -- others are not
  module _ (cluster : Cluster) (start now new : Places D L O) (served : List Site) (first : Server) (earlier : List Act) (doing : Doing) (fault : ServeFault) (finish : AllFinish w cluster served first start now)
      (grew : Grew first.acts served first.sites) (stop : AllStop w first.sites earlier doing fault now new)
    where
      told : (olds news : List Site) → Grew first.acts olds news → AllTold w start.disks olds → AllTold w now.disks news
      told [] [] grew all = tt
      told (s ∷ ss) (t ∷ ts) grew all = (
        subst (λ (c : ℕ). IsTrue (w.disk now.disks c).told) (sym grew.0) (subst IsTrue (sym (finish.did.passes.told s.centre)) all.0),
        told ss ts grew.2 all.1,
      )
      told [] (t ∷ ts) grew all = absurd grew
      told (s ∷ ss) [] grew all = absurd grew

      logs : (before acts rest : List Act) → but_answers before ≡ first.acts → (olds news : List Site) → Grew first.acts olds news → AllLogs w news fault now.disks new.disks acts rest → AllLogs w olds fault start.disks new.disks (before ++ acts) rest
      logs before acts rest are [] [] grew all = tt
      logs before acts rest are (s ∷ ss) (t ∷ ts) grew all = (one, logs before acts rest are ss ts grew.2 all.1)
        where
          facts_are : facts_after s.centre t.logged acts ≡ facts_after s.centre s.logged (before ++ acts)
          facts_are =
              ap (λ (fs : List Fact). facts_after s.centre fs acts) (grew.1 ∙ sym (facts_expected s.centre s.logged before first.acts are))
              ∙ sym (facts_then s.centre s.logged before acts)

          one : IsTrue (w.disk start.disks s.centre).told → MayHaveFacts w.disk w.may_leave new.disks s.centre (facts_after s.centre s.logged (before ++ acts)) (in_flight fault s.centre rest)
          one known =
              let there = subst (λ (c : ℕ). IsTrue (w.disk now.disks c).told → MayHaveFacts w.disk w.may_leave new.disks c (facts_after c t.logged acts) (in_flight fault c rest)) grew.0 all.0 in
              subst (λ (fs : List Fact). MayHaveFacts w.disk w.may_leave new.disks s.centre fs (in_flight fault s.centre rest)) facts_are
              (there (subst IsTrue (sym (finish.did.passes.told s.centre)) known))
      logs before acts rest are [] (t ∷ ts) grew all = absurd grew
      logs before acts rest are (s ∷ ss) [] grew all = absurd grew

      here : (rest : List Act) → MayComeAt (AllTold w now.disks first.sites) fault rest → MayComeAt (AllTold w start.disks served) fault rest
      here rest comes = comes_under fault rest (λ (all : AllTold w start.disks served). told served first.sites grew all) comes

      -- of its part a prefix was done after all of them
      parts : (before acts rest : List Act) → but_answers before ≡ first.acts → AllLogs w first.sites fault now.disks new.disks acts rest × InPart earlier doing.acts acts rest
          → AllLogs w served fault start.disks new.disks (before ++ acts) rest × InPart (first.acts ++ earlier) doing.acts (before ++ acts) rest
      parts before acts rest are q = (logs before acts rest are served first.sites grew q.0, part_then first.acts earlier doing.acts before acts rest are q.1)

      pub stop_then : AllStop w served (first.acts ++ earlier) doing fault start new
      stop_then = record {
        broke = subst (λ (acts : List Act). Broke w (AllTold w start.disks served) (λ acts rest. AllLogs w served fault start.disks new.disks acts rest × InPart (first.acts ++ earlier) doing.acts acts rest) acts fault (all_seen start) (all_seen new))
            (sym (append_assoc first.acts earlier doing.acts)) (did_broke w here parts finish.did stop.broke);
        serials = stop.serials;
        no_boot = stop.no_boot;
        others = others_on cluster served first start now new grew finish stop.others;
      }

  -- ---- so many turns

  pub record HaveRun (config : Config) (cluster : Cluster) (start now : Places D L O) (served : List Site) (turns : ℕ) : Type 0 where
    pub given : List (List Given)
    pub made : length given ≡ turns
    pub each : AllByRecursion (λ turn. length turn ≡ length served) given
    pub finish : AllFinish w cluster served (fold (after_turn config) (begun served) given) start now
    pub ascend : Ascend 0 (fold (after_turn config) (begun served) given).sites
    pub grew : Grew (fold (after_turn config) (begun served) given).acts served (fold (after_turn config) (begun served) given).sites
    pub many : length (fold (after_turn config) (begun served) given).sites ≡ length served

  pub none_run : (config : Config) (cluster : Cluster) (start : Places D L O) (served : List Site) → HoldSites w cluster start.disks start.held served → Ascend 0 served → HaveRun config cluster start start served 0
  none_run config cluster start served hold ascend = record {
    given = [];
    made = refl;
    each = tt;
    finish = record { did = did_nothing w (all_seen start); stand = hold; others = keeps_none w.disk w.may_leave (IsNoDiskOfSites served) start.disks };
    ascend = ascend;
    grew = grew_none served;
    many = refl;
  }

  module _ (config : Config) (cluster : Cluster) (start now new : Places D L O) (served : List Site) (n : ℕ) (run : HaveRun config cluster start now served n) (turn : List Given) where
    -- the server after the turns so far
    abbrev pub server_then : Server
    server_then = fold (after_turn config) (begun served) run.given

    then_is : (more : List (List Given)) → fold (after_turn config) (begun served) (run.given ++ turn ∷ more) ≡ fold (after_turn config) (after_turn config server_then turn) more
    then_is more = fold-append (after_turn config) (begun served) run.given (turn ∷ more)

    pub one_run : length turn ≡ length server_then.sites → AllFinish w cluster server_then.sites (turns_of config server_then.sites turn) now new → HaveRun config cluster start new served (n + 1)
    one_run long next = record {
      given = run.given ++ turn ∷ [];
      made = (let e = length-append run.given (turn ∷ []) in let f = run.made in omega (e, f, arith));
      each = each-append (λ (t : List Given). length t ≡ length served) run.given (turn ∷ []) run.each (long ∙ run.many, tt);
      finish = subst (λ (server : Server). AllFinish w cluster served server start new) (sym (then_is []))
          (record { did = did_then w run.finish.did next.did; stand = next.stand; others = others_on cluster served server_then start now new run.grew run.finish next.others });
      ascend = subst (λ (server : Server). Ascend 0 server.sites) (sym (then_is [])) (ascend_turned config server_then.sites turn run.ascend);
      grew = subst (λ (server : Server). Grew server.acts served server.sites) (sym (then_is []))
          (grew_more server_then (turns_of config server_then.sites turn) served run.grew
          (turns_grew config server_then.sites turn (sym long) run.ascend (hold_whole w cluster now.disks now.held server_then.sites run.finish.stand)));
      many = subst (λ (server : Server). length server.sites ≡ length served) (sym (then_is [])) (turned_long config server_then.sites turn ∙ run.many);
    }

  -- one ended in the next turn
  pub run_stops : (config : Config) (cluster : Cluster) (start now new : Places D L O) (served : List Site) (n turns : ℕ) (fault : ServeFault) → (run : HaveRun config cluster start now served n) → n < turns
      → TurnStops w config (fold (after_turn config) (begun served) run.given).sites fault now new → TurnsStop w config served turns fault start new
  run_stops config cluster start now new served n turns fault run fewer stops =
      let server : Server = fold (after_turn config) (begun served) run.given in
      let at = stops.at in
      record {
        given = run.given;
        fewer = (let made = run.made in omega (made, fewer, arith));
        each = run.each;
        at = at;
        stop = stop_then cluster start now new served server (turns_of config at.front at.earlier).acts (turn_of config at.site at.given) fault run.finish run.grew stops.stop;
      }
