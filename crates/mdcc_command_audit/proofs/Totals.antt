-- The line of how many transactions there are, in three parts.
use Rattle.std.proofs.Common.{◌≡◌, ◌∙◌, ◌++◌, List, ap, append_assoc, codes, length, ℕ}
use Rattle.mdcc_audit.specs.declared.audited.Verdict3.{Verdict3}
use Rattle.mdcc_command_audit.specs.Texts.{committed_text, number_with, others_text, totals_line}
use Rattle.mdcc_struct.specs.Maps.{TxMap}

pub totals_written : (verdicts : TxMap Verdict3) (commits aborts undecided : ℕ) (old one two new : List ℕ) → commits ≡ number_with Verdict3.Commit verdicts → aborts ≡ number_with Verdict3.Abort verdicts → undecided ≡ number_with Verdict3.Open verdicts
    → one ≡ old ++ codes "audit transactions " → two ≡ one ++ committed_text (length verdicts) commits → new ≡ two ++ others_text aborts undecided → new ≡ old ++ totals_line verdicts
totals_written verdicts commits aborts undecided old one two new ec ea eu first second third =
    let head : List ℕ = codes "audit transactions " in
    let mid : ℕ → List ℕ = λ n. committed_text (length verdicts) n in
    let tail : List ℕ = others_text aborts undecided in
    third
    ∙ ap (λ (l : List ℕ). l ++ tail) (second ∙ ap (λ (l : List ℕ). l ++ mid commits) first ∙ append_assoc old head (mid commits))
    ∙ append_assoc old (head ++ mid commits) tail
    ∙ ap (λ (n : ℕ). old ++ (head ++ mid n ++ others_text aborts undecided)) ec
    ∙ ap (λ (n : ℕ). old ++ (head ++ mid (number_with Verdict3.Commit verdicts) ++ others_text n undecided)) ea
    ∙ ap (λ (n : ℕ). old ++ (head ++ mid (number_with Verdict3.Commit verdicts) ++ others_text (number_with Verdict3.Abort verdicts) n)) eu
