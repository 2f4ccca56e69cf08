-- The end of a server: after its last turn what is pending at each centre goes out.
use Rattle.std.proofs.Common.{◌≡◌, ℕ, List, [], ◌∷◌, ◌++◌, length, replicate, sym, subst, IsTrue}
use Rattle.std.proofs.lemmas.List.{length-replicate}
use Rattle.std.specs.List.{AllByRecursion}
use Rattle.mdcc_config.specs.declared.config.Config.{Config}
use Rattle.mdcc_option.specs.declared.cluster.Cluster.{Cluster}
use Rattle.mdcc_def_server_runs.specs.Sending.{persist_then_send}
use Rattle.mdcc_def_server_runs.specs.Servers.{Server, after_last, persist_all_then_send}
use Rattle.mdcc_def_server_runs.specs.Sites.{Site}
use Rattle.mdcc_serve.proofs.Doings.{AllWhole, each_does, end_of, ends_are, ends_own}
use Rattle.mdcc_serve.proofs.Repeated.{Grew, each_grew, grew_more, others_on, stop_then}
use Rattle.mdcc_serve.specs.Centres.{AllFinish, AllStop, AllTold, Ascend, EndStops, Places}
use Rattle.mdcc_serve_site.proofs.Joined.{did_then}
use Rattle.mdcc_serve_site.proofs.Owns.{persist_logs}
use Rattle.mdcc_serve_site.specs.Moments.{Outside}
use Rattle.mdcc_serve_site.specs.declared.fault.ServeFault.{ServeFault}

-- one for each
abbrev units : List Site → List (Unit {0})
units sites = replicate (length sites) tt

many_units : (sites : List Site) → length (units sites) ≡ length sites
many_units sites = length-replicate (length sites) tt

end_is : (config : Config) (sites : List Site) → persist_all_then_send config sites ≡ each_does (end_of config) sites (units sites)
end_is config sites = ends_are config sites (units sites) (many_units sites)

-- the log of each has all facts of its node then
pub last_logs : (config : Config) (sites : List Site) → AllByRecursion (λ site. site.logged ≡ site.node.facts) (persist_all_then_send config sites).sites
last_logs config [] = tt
last_logs config (site ∷ sites) = (persist_logs config site, last_logs config sites)

module _ {D L O : Type 0} (w : Outside D L O) where
  pub last_told : (disks : D) (config : Config) (sites : List Site) → AllTold w disks sites → AllTold w disks (persist_all_then_send config sites).sites
  last_told disks config [] told = tt
  last_told disks config (site ∷ sites) told = (
    subst (λ (n : ℕ). IsTrue (w.disk disks n).told) (sym (ends_own config site tt).centre) told.0,
    last_told disks config sites told.1,
  )

  -- the log of each has what the turns and the end appended
  pub last_grew : (config : Config) (start : List Site) (server : Server) → Ascend 0 server.sites → AllWhole server.sites → Grew server.acts start server.sites → Grew (after_last config server).acts start (after_last config server).sites
  last_grew config start server ascend whole grew =
      let end = persist_all_then_send config server.sites in
      grew_more w server end start grew
      (subst (λ (last : Server). Grew last.acts server.sites last.sites) (sym (end_is config server.sites))
      (each_grew w (end_of config) (ends_own config) 0 server.sites (units server.sites) (sym (many_units server.sites)) ascend whole))

  -- all went out
  pub last_made : (cluster : Cluster) (config : Config) (served : List Site) (server : Server) (start now new : Places D L O) → Grew server.acts served server.sites → AllFinish w cluster served server start now
      → AllFinish w cluster server.sites (persist_all_then_send config server.sites) now new → AllFinish w cluster served (after_last config server) start new
  last_made cluster config served server start now new grew turns end =
      record { did = did_then w turns.did end.did; stand = end.stand; others = others_on w cluster served server start now new grew turns end.others }

  -- not all went out
  pub last_stops : (cluster : Cluster) (config : Config) (served : List Site) (server : Server) (fault : ServeFault) (start now new : Places D L O) → Grew server.acts served server.sites → AllFinish w cluster served server start now
      → (ends : EndStops w config server.sites fault now new) → AllStop w served (server.acts ++ (persist_all_then_send config ends.at.front).acts) (persist_then_send config ends.at.site) fault start new
  last_stops cluster config served server fault start now new grew turns ends =
      stop_then w cluster start now new served server (persist_all_then_send config ends.at.front).acts (persist_then_send config ends.at.site) fault turns grew ends.stop
