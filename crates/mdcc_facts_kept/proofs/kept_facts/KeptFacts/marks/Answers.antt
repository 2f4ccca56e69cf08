use Rattle.std.proofs.Common.{◌≡◌, ap, arith, option_map, sym, ◌∙◌}
use Rattle.std.specs.Prelude.{slice_get}
use Rattle.mdcc_def_protocol.specs.Facts.{report_of}
use Rattle.mdcc_facts.proofs.Walking.{each-filter, mark-found}
use Rattle.mdcc_facts_kept.proofs.Shown.{none-further, report-ascends, step-further}
use Rattle.mdcc_facts_kept.proofs.kept_facts.KeptFacts.marks.Goals as goal

pub loop-at-init : goal.loop-at-init
loop-at-init c facts kept = sym (each-filter (report_of 0 facts c.args.key.now c.args.version c.args.below).votes)

pub loop-at-preserved : goal.loop-at-preserved
loop-at-preserved c facts kept =
    let report = report_of 0 facts c.args.key.now c.args.version c.args.below in
    step-further report.votes report.ballot c.loop-at.last c.loop-at._at c.in-Some.tx (report-ascends facts c.args.key.now c.args.version c.args.below) (c.loop-at.invariant facts kept)
    (sym (c.tx_after.ensures facts kept) ∙ c.in-Some.is)

pub returns-in-None : goal.returns-in-None
returns-in-None c facts kept =
    let report = report_of 0 facts c.args.key.now c.args.version c.args.below in
    sym
    (ap (option_map (λ e. (report.ballot, e.0, e.1)))
    (none-further report.votes report.ballot c.loop-at.last c.loop-at._at c.args.place (c.loop-at.invariant facts kept) (sym (c.tx_after.ensures facts kept) ∙ c.in-None.is) (omega arith)))

pub returns : goal.returns
returns c facts kept =
    let report = report_of 0 facts c.args.key.now c.args.version c.args.below in
    let all : c.loop-at._at ≡ c.args.place = omega arith in
    c.mark_after.ensures facts kept
    ∙ ap (option_map (λ e. (report.ballot, e.0, e.1)))
    (mark-found c.loop-at.last report.votes c.loop-at._at (c.loop-at.invariant facts kept) ∙ ap (λ n. slice_get report.votes n) all)
