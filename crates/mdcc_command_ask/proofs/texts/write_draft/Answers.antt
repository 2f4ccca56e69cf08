use Rattle.std.proofs.Common.{◌++◌, ◌∙◌, List, ap, codes, ℕ}
use Rattle.std.proofs.lemmas.Result.{on_ok_weaker}
use Rattle.std.specs.String.{string_bytes}
use Rattle.mdcc_command_ask.proofs.texts.write_draft.Goals as goal

pub returns : goal.returns
returns c =
    let cause = ap (λ (w : List ℕ). string_bytes c.args.text.now ++ (codes "begin refused " ++ w ++ codes "\n")) c.draft_fault_text-cause.ensures in
    on_ok_weaker c.write.result (λ h. h ∙ cause) c.write.ensures.bytes
