-- What a server does over a link that was told how long to wait it does over the link as it was before.
use Rattle.std.proofs.Common.{◌≡◌, ◌++◌, Err, List, Ok, Option, Result, subst, ℕ}
use Rattle.mdcc_base.specs.Causes.{Rose}
use Rattle.mdcc_config.specs.declared.config.Config.{Config}
use Rattle.mdcc_disks.specs.Disks.{Disk}
use Rattle.mdcc_link.specs.Link.{LinkCall}
use Rattle.mdcc_serve_outbox.specs.Shows.{Records, calls_of}
use Rattle.mdcc_def_server_runs.specs.Acts.{Act}
use Rattle.mdcc_def_server_runs.specs.Servers.{Log}
use Rattle.mdcc_serve.specs.Serving.{Leaves, ServesOrBreaksOff}
use Rattle.mdcc_serve.specs.declared.served.Served.{Served}
use Rattle.mdcc_serve_site.specs.declared.fault.ServeFault.{ServeFault}

module _ {D L O : Type 0} (disk : D → ℕ → Disk) (may_leave : D → ℕ → List ℕ → Type 0) (tears : ℕ → Type 0) (calls : L → Option (List LinkCall)) (lost : L → ℕ) (held : O → Option (List ℕ)) (link_old waiting : L) (same : calls waiting ≡ calls link_old) (still : lost waiting ≡ lost link_old) where
  leaves_there : (acts : List Act) (failed : List LinkCall) (text : List ℕ) (link_new : L) (out_old out_new : O)
      → Leaves disk may_leave tears calls lost held acts failed text waiting link_new out_old out_new
      → Leaves disk may_leave tears calls lost held acts failed text link_old link_new out_old out_new
  leaves_there acts failed text link_new out_old out_new left = record {
    link = subst (λ c. Records (calls_of acts ++ failed) c (calls link_new)) same left.link;
    output = left.output;
    failed_sends = λ some. subst (λ n. Rose n (lost link_new)) still (left.failed_sends some);
  }

  pub serves_there : (config : Config) (logs : List Log) (turns : ℕ) (result : Result Served ServeFault) (disks_old disks : D) (link_new : L) (out_old out_new : O)
      → ServesOrBreaksOff disk may_leave tears calls lost held config logs turns result disks_old disks waiting link_new out_old out_new
      → ServesOrBreaksOff disk may_leave tears calls lost held config logs turns result disks_old disks link_old link_new out_old out_new
  serves_there config logs turns (Ok served) disks_old disks link_new out_old out_new it = record {
    acts = it.acts;
    run = it.run;
    left = leaves_there _ _ _ link_new out_old out_new it.left;
    kept = it.kept;
    serials = it.serials;
    turns_told = it.turns_told;
    steps_told = it.steps_told;
    dropped_told = it.dropped_told;
    lost_told = it.lost_told;
  }
  serves_there config logs turns (Err fault) disks_old disks link_new out_old out_new it = record {
    acts = it.acts;
    rest = it.rest;
    stops = it.stops;
    comes = it.comes;
    boots = it.boots;
    full = it.full;
    printed_more = it.printed_more;
    left = leaves_there _ _ _ link_new out_old out_new it.left;
    kept = it.kept;
  }
