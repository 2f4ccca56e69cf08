-- Why a client ended, over several calls.
use Rattle.std.proofs.Common.{◌≡◌, ◌≤◌, Err, List, Ok, Option, Result, arith, ℕ}
use Rattle.mdcc_command_ask.specs.Effects.{HasCauses, Prints}
use Rattle.mdcc_command_ask.specs.declared.fault.AskFault.{AskFault}
use Rattle.mdcc_base.specs.Causes.{Rose}
use Rattle.mdcc_serve_outbox.proofs.Handed.{rose_before}

module _ {L O : Type 0} (link_faults : L → ℕ) (out_faults : O → ℕ) where
  -- what came before counts no fault away
  pub causes_later : (result : Result (Unit {0}) AskFault) (l0 l1 l2 : L) (o0 o1 o2 : O) → link_faults l0 ≤ link_faults l1 → out_faults o0 ≤ out_faults o1
      → HasCauses link_faults out_faults result l1 l2 o1 o2 → HasCauses link_faults out_faults result l0 l2 o0 o2
  causes_later result l0 l1 l2 o0 o1 o2 link out causes = record {
    link = λ h. rose_before (link_faults l0) (link_faults l1) (link_faults l2) link (causes.link h);
    output = λ h. rose_before (out_faults o0) (out_faults o1) (out_faults o2) out (causes.output h);
    link_later = omega (link, causes.link_later, arith);
    output_later = omega (out, causes.output_later, arith);
  }

  pub causes_none : (l0 l1 : L) (o0 o1 : O) → link_faults l0 ≤ link_faults l1 → out_faults o0 ≤ out_faults o1 → HasCauses link_faults out_faults (Ok tt) l0 l1 o0 o1
  causes_none l0 l1 o0 o1 link out = record { link = λ h. absurd (cc); output = λ h. absurd (cc); link_later = link; output_later = out }

  pub causes_memory : (l0 l1 : L) (o0 o1 : O) → link_faults l0 ≤ link_faults l1 → out_faults o0 ≤ out_faults o1 → HasCauses link_faults out_faults (Err AskFault.Memory) l0 l1 o0 o1
  causes_memory l0 l1 o0 o1 link out = record { link = λ h. absurd (cc); output = λ h. absurd (cc); link_later = link; output_later = out }

  pub causes_link : (l0 l1 : L) (o0 o1 : O) → link_faults l0 ≤ link_faults l1 → Rose (link_faults l0) (link_faults l1) → out_faults o0 ≤ out_faults o1 → HasCauses link_faults out_faults (Err AskFault.Link) l0 l1 o0 o1
  causes_link l0 l1 o0 o1 link rose out = record { link = λ h. rose; output = λ h. absurd (cc); link_later = link; output_later = out }

  -- a text was printed, or not all of it
  pub causes_print : (held : O → Option (List ℕ)) (text : List ℕ) (result : Result (Unit {0}) AskFault) (l : L) (o0 o1 : O) → Prints held out_faults text result o0 o1 → HasCauses link_faults out_faults result l l o0 o1
  causes_print held text (Ok done) l o0 o1 prints = record { link = λ h. absurd (cc); output = λ h. absurd (cc); link_later = omega arith; output_later = prints.cause.later }
  causes_print held text (Err fault) l o0 o1 prints = record {
    link = λ h. (let same : AskFault.Output ≡ AskFault.Link = cc (prints.fault, h) in absurd (cc));
    output = λ h. prints.cause.failed;
    link_later = omega arith;
    output_later = prints.cause.later;
  }
