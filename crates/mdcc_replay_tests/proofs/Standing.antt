-- What a world stands for behind an event.
use Rattle.std.proofs.Common.{◌≡◌, ◌++◌, List, Result, Ok, Err}
use Rattle.std.specs.Prelude.{IsOkAnd, OnOk}
use Rattle.mdcc_def_simulation.specs.State.{Happened, World}
use Rattle.mdcc_def_language.specs.declared.lines.Line.{Line}
use Rattle.mdcc_def_language.specs.declared.world.EventFault.{EventFault}
use Rattle.mdcc_world.specs.Represents.{RepresentsWorld}
use Rattle.mdcc_world.specs.declared.world.World.{World as TheWorld}

pub stands-behind : (result : Result (Unit {0}) EventFault) (expected : Result Happened EventFault) (world : TheWorld) (before after : List Line)
    → OnOk result (IsOkAnd expected (λ h. (after ≡ before ++ h.lines) × RepresentsWorld world h.world)) → OnOk result ((w : World) × RepresentsWorld world w)
stands-behind (Ok x) (Ok h) world before after p = (h.world, p.1)
stands-behind (Ok x) (Err fault) world before after p = absurd p
stands-behind (Err fault) expected world before after p = tt
