-- What an event leaves.
use Rattle.std.proofs.Common.{◌≡◌, ◌≤◌, ◌++◌, List, Result, Ok, Err, arith}
use Rattle.std.specs.Bool.{OnFalse}
use Rattle.std.specs.Prelude.{IfErr, IsOkAnd, OnOk}
use Rattle.mdcc_def_simulation.specs.State.{Happened}
use Rattle.mdcc_def_language.specs.declared.lines.Line.{Line}
use Rattle.mdcc_def_language.specs.declared.world.EventFault.{EventFault}
use Rattle.mdcc_world.specs.Represents.{Happens, RepresentsWorld}
use Rattle.mdcc_world.specs.declared.world.World.{World as TheWorld}
use Rattle.mdcc_def_simulation.specs.Limits.{is_out_of_memory}

pub happened-ok : (result : Result (Unit {0}) EventFault) (expected : Result Happened EventFault) (world : TheWorld) (before after : List Line)
    → Happens world before after result expected → OnOk result (world.events ≤ 100000)
    → OnOk result (IsOkAnd expected (λ h. (after ≡ before ++ h.lines) × RepresentsWorld world h.world))
happened-ok (Ok x) (Ok h) world before after happens few =
    let events = happens.like.records.events in
    (happens.lines, record { like = happens.like; few = omega (events, few, arith) })
happened-ok (Ok x) (Err fault) world before after happens few = absurd happens
happened-ok (Err fault) expected world before after happens few = tt

pub happened-err : (result : Result (Unit {0}) EventFault) (expected : Result Happened EventFault) (world : TheWorld) (before after : List Line)
    → Happens world before after result expected → IfErr result (λ fault. OnFalse (is_out_of_memory fault) (expected ≡ Err fault))
happened-err (Ok x) expected world before after happens = tt
happened-err (Err fault) expected world before after happens = happens
