-- What is answered of a leader's result, and what the leader is afterwards.
use Rattle.std.specs.Prelude.{Bool, Err, Ok, Result, false, true}
use Rattle.mdcc_def_protocol.specs.Volatile.{Leading}
use Rattle.mdcc_def_protocol.specs.declared.leader.LeadFault.{LeadFault}

abbrev pub is_lead_memory : LeadFault → Bool
is_lead_memory LeadFault.Memory = true
is_lead_memory _ = false

-- the answer, without what the leader keeps
abbrev pub answer_alone : {A : Type 0} → Result (A × Leading) LeadFault → Result A LeadFault
answer_alone (Ok next) = Ok next.0
answer_alone (Err fault) = Err fault

-- what the leader keeps afterwards: after a refusal what it kept before
abbrev pub left : {A : Type 0} → Leading → Result (A × Leading) LeadFault → Leading
left leading (Ok next) = next.1
left leading (Err fault) = leading
