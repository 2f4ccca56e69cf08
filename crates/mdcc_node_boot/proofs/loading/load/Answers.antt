use Rattle.std.proofs.Common.{◌∙◌, ◌∷◌, ap, map, refl, sym, []}
use Rattle.std.proofs.lemmas.List.{drop_all}
use Rattle.mdcc_node_boot.proofs.Taking.{load_ends, load_on, on_false}
use Rattle.mdcc_node_boot.proofs.Within.{loaded_within, none_within}
use Rattle.mdcc_node_boot.specs.Loading.{fact_read, is_boot_memory, loaded_by}
use Rattle.mdcc_node_boot.proofs.loading.load.Goals as goal

pub loop-place-init : goal.loop-place-init
loop-place-init g c total held = ([], refl, held, none_within total)

pub loop-place-preserved : goal.loop-place-preserved
loop-place-preserved g c total held =
    let before = c.loop-place.invariant total held in
    let took = c.in-Ok.ensures total before.0 before.2 before.3.within in (
      took.0,
      sym (load_on total c.args.cluster.now before.0 c.args.payloads.now c.loop-place.place c.payload_at-payload.result.now c.payload_at-payload.ensures.value took.0 took.1) ∙ before.1,
      took.2,
      loaded_within total c.args.cluster.now before.0 took.0 c.loop-place.place (fact_read c.payload_at-payload.result.now ∷ []) before.3 took.1,
    )

pub returns-in-Err : goal.returns-in-Err
returns-in-Err g c total held =
    let before = c.loop-place.invariant total held in
    let took = c.in-Err.ensures total before.0 before.2 before.3.within in
    on_false (is_boot_memory c.in-Err.fault) _ _
    (λ is.
    sym before.1
    ∙ load_ends total c.args.cluster.now before.0 c.args.payloads.now c.loop-place.place c.payload_at-payload.result.now c.payload_at-payload.ensures.value c.in-Err.fault is)
    took

pub returns : goal.returns
returns g c total held =
    let before = c.loop-place.invariant total held in (
      before.0,
      sym before.1 ∙ ap (λ rest. loaded_by total c.args.cluster.now before.0 c.loop-place.place (map fact_read rest)) (drop_all c.loop-place.place c.args.payloads.now c.loop-place-test.false),
      before.2,
    )
