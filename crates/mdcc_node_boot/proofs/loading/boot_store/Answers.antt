use Rattle.std.proofs.Common.{[], ap, map}
use Rattle.mdcc_node_boot.proofs.Taking.{on_false}
use Rattle.mdcc_node_boot.proofs.Within.{loaded_within, none_within}
use Rattle.mdcc_node_boot.specs.Loading.{fact_read, is_boot_memory, with_next_boot}
use Rattle.mdcc_node_boot.proofs.loading.boot_store.Goals as goal

pub returns-in-Ok : goal.returns-in-Ok
returns-in-Ok g c total held =
    let loaded = c.in-Ok.ensures total held in
    let within = loaded_within total c.args.cluster.now [] loaded.0 0 (map fact_read c.args.payloads.now) (none_within total) loaded.1 in
    rw loaded.1 (c.begin_epoch.ensures total loaded.0 loaded.2 within.within)

pub returns-in-Err : goal.returns-in-Err
returns-in-Err g c total held = on_false (is_boot_memory c.in-Err.fault) _ _ (λ is. ap (with_next_boot total) is) (c.in-Err.ensures total held)
