-- Which refusals may come at any time.
use Rattle.std.specs.Bool.{OnFalse, OnTrue}
use Rattle.std.specs.Prelude.{Bool, IfErr, Result, ◌||◌}
use Rattle.mdcc_def_simulation.specs.Limits.{is_limit, is_out_of_memory}
use Rattle.mdcc_def_language.specs.declared.world.EventFault.{EventFault}

-- want of memory, or a limit: such a refusal may come in the middle of a line
abbrev pub is_free : EventFault → Bool
is_free fault = is_out_of_memory fault || is_limit fault

-- where there was no memory
abbrev pub OnEventMemory : {T : Type 0} → Result T EventFault → Type 0 → Type 0
OnEventMemory result P = IfErr result (λ fault. OnTrue (is_out_of_memory fault) P)

-- where an answer is a refusal of another kind
abbrev pub OnRefusal : {T : Type 0} → Result T EventFault → Type 0 → Type 0
OnRefusal result P = IfErr result (λ fault. OnFalse (is_free fault) P)
