-- What stands of the lines where a limit would be passed.
use Rattle.std.proofs.Common.{◌≡◌, ◌++◌, [], Bool, true, false, List, Result, Ok, Err, append-nil, sym, ◌∙◌}
use Rattle.std.specs.Prelude.{OnErr}
use Rattle.std.specs.Bool.{OnFalse, OnTrue}
use Rattle.mdcc_def_simulation.specs.Limits.{is_limit, is_out_of_memory}
use Rattle.mdcc_def_language.specs.declared.lines.Line.{Line}
use Rattle.mdcc_def_language.specs.declared.world.EventFault.{EventFault}
use Rattle.mdcc_world.specs.Limited.{OnLimit}

-- a limit is no want of memory
pub limit-with : (fault : EventFault) {P Q : Type 0} → (P → Q) → OnFalse (is_out_of_memory fault) P → OnTrue (is_limit fault) Q
limit-with (EventFault.NoMessage n) f p = tt
limit-with (EventFault.Down a) f p = tt
limit-with (EventFault.Up a) f p = tt
limit-with (EventFault.NoRead n) f p = tt
limit-with (EventFault.Begin fault) f p = tt
limit-with (EventFault.Limit name n) f p = f p
limit-with EventFault.Memory f p = tt

-- no lines
pub limited-none : {T : Type 0} (r : Result T EventFault) (before after : List Line) → OnErr r (after ≡ before) → OnLimit r (after ≡ before ++ [])
limited-none (Ok x) before after h = tt
limited-none (Err fault) before after h = at-limit (is_limit fault) (h ∙ sym (append-nil before))
  where
    at-limit : (b : Bool) {P : Type 0} → P → OnTrue b P
    at-limit true p = p
    at-limit false p = tt
