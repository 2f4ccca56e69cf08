use Rattle.std.proofs.Common.{List, Result, subst, sym}
use Rattle.mdcc_option.specs.declared.faults.DraftFault.{DraftFault}
use Rattle.mdcc_option.specs.declared.items.Part.{Part}
use Rattle.mdcc_def_server_runs.specs.Steps.{draft_taken}
use Rattle.mdcc_serve_site.proofs.Drafted.{drafted_formed}
use Rattle.mdcc_serve_site.specs.SiteState.{Becomes}
use Rattle.mdcc_serve_site.proofs.site.Site.begin_draft.Goals as goal

pub begin-requires-clause-parts : goal.begin-requires-clause-parts
begin-requires-clause-parts c = drafted_formed c.args.config.now.cluster.schema c.args.parts.now c.in-Ok.transaction c.requires.parts.each (sym c.in-Ok.ensures.exact)

pub returns-in-Ok : goal.returns-in-Ok
returns-in-Ok c site stands =
    let config = c.args.config.now in
    subst (λ (d : Result (List Part) DraftFault). Becomes config.cluster site (draft_taken config site c.args.serial d) c.begin.result c.args.self.now c.begin.new.self)
    c.in-Ok.ensures.exact (c.begin.ensures config.cluster site stands)

pub returns-in-Err : goal.returns-in-Err
returns-in-Err c site stands =
    let config = c.args.config.now in
    subst (λ (d : Result (List Part) DraftFault). Becomes config.cluster site (draft_taken config site c.args.serial d) c.queue_answer.result c.args.self.now c.queue_answer.new.self)
    c.in-Err.ensures.exact (c.queue_answer.ensures config.cluster site stands)
