use Rattle.std.proofs.Common.{◌≡◌, ◌+◌, ◌≤◌, ◌∙◌, Some, arith, length, map, subst, sym, ℕ}
use Rattle.std.proofs.lemmas.List.{length-map}
use Rattle.std.specs.String.{string_bytes}
use Rattle.mdcc_command_words.proofs.Each.{are_asked}
use Rattle.mdcc_command_words.specs.Asks.{each, update_in}
use Rattle.mdcc_command_words.proofs.asks.question_in.Goals as goal

pub returns-clause-meets : goal.returns-clause-meets
returns-clause-meets c =
    let asked = map string_bytes c.split_at.result.0.now in
    let begun = map string_bytes c.split_at.result.1.now in
    let few : length asked + length begun ≤ 16 = omega (arith, length-map c.split_at.result.0.now string_bytes, length-map c.split_at.result.1.now string_bytes, c.split_at.ensures.front_len, c.split_at.ensures.back_len, c.requires.few, c.reads_first-reads.ensures.within) in
    let reads : c.reads_first-reads.result ≡ length asked = omega (arith, length-map c.split_at.result.0.now string_bytes, c.split_at.ensures.front_len) in
    are_asked _ asked begun c.requires.turns few (sym c.in_ok-keys.ensures ∙ c.in-Some-Some.is-0)
    (subst (λ (n : ℕ). each (update_in n) begun ≡ Some c.in-Some-Some.updates) reads (sym c.in_ok-updates.ensures ∙ c.in-Some-Some.is-1))
