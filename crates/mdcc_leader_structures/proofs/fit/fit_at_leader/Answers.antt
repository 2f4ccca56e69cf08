use Rattle.std.proofs.Common.{◌∙◌, ap, arith}
use Rattle.mdcc_def_protocol.specs.Facts.{base_of, current_of}
use Rattle.mdcc_def_protocol.specs.Structures.{live_at_leader}
use Rattle.mdcc_def_protocol.specs.declared.fit.Load.{Load}
use Rattle.mdcc_leader_structures.specs.Live.{number_live}
use Rattle.mdcc_leader_structures.proofs.Beside.{ascending-live}
use Rattle.mdcc_leader_structures.proofs.Unseen.{write_conflicts, write_fits}
use Rattle.mdcc_leader_structures.proofs.fit.fit_at_leader.Goals as goal

pub returns-then-number_live-load : goal.returns-then-number_live-load
returns-then-number_live-load g c facts h =
    let key = c.args.key.now in
    let live = live_at_leader facts key (current_of facts key) c.args.options.now in
    let weighed = ap (λ (load : Load). load.unseen) (c.requires.weighed facts h) in
    let number = c.number_live.ensures.value facts h ∙ ap (number_live live) c.as_slice.ensures.value in
    write_conflicts c.args.cluster.now (base_of facts key) live c.args.choice.now.update c.in-Write.field-0 c.in-Write.seen c.number_live.result
    c.in-Write.is (ascending-live facts key c.args.options.now c.number_live.ensures.ascending) (search arith) number (omega (arith, weighed))

pub returns-else-number_live-load : goal.returns-else-number_live-load
returns-else-number_live-load g c facts h =
    let key = c.args.key.now in
    let live = live_at_leader facts key (current_of facts key) c.args.options.now in
    let weighed = ap (λ (load : Load). load.unseen) (c.requires.weighed facts h) in
    let number = c.number_live.ensures.value facts h ∙ ap (number_live live) c.as_slice.ensures.value in
    write_fits c.args.cluster.now (base_of facts key) live c.args.choice.now.update c.in-Write.field-0 c.in-Write.seen c.number_live.result
    c.in-Write.is (ascending-live facts key c.args.options.now c.number_live.ensures.ascending) (search arith) number (omega (arith, weighed))
