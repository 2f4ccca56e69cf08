use Rattle.std.proofs.Common.{subst, sym}
use Rattle.mdcc_def_server_runs.specs.Sites.{Doing}
use Rattle.mdcc_serve_site.proofs.Becoming.{drops}
use Rattle.mdcc_serve_site.proofs.Received.{asked_other}
use Rattle.mdcc_serve_site.specs.SiteState.{Makes}
use Rattle.mdcc_serve_site.proofs.site.Site.asked_message.Goals as goal

pub returns-in_default : goal.returns-in_default
returns-in_default c site stands =
    let cluster = c.args.config.now.cluster in
    subst (λ (d : Doing). Makes cluster site d c.args.self.now c.drop_one.new.self)
    (sym (asked_other c.args.config.now site c.args.message.now c.in_default.not-ClientRead c.in_default.not-ClientBegin))
    (drops cluster site c.args.self.now c.drop_one.new.self c.drop_one.ensures stands)
