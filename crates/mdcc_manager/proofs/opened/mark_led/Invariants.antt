use Rattle.std.proofs.Common.{◌≡◌, ◌++◌, drop, map, take}
use Rattle.mdcc_manager.specs.Opened.{led_in}
use Rattle.mdcc_manager.proofs.opened.mark_led.Given as goal

abbrev pub invariant-loop-open : goal.invariant-loop-open
invariant-loop-open l =
    l.open-items ≡ map (led_in l.tx l.key) (take l.open-index l.initial.open-items) ++ drop l.open-index l.initial.open-items
