use Rattle.std.proofs.Common.{◌≡◌, ◌∷◌, drop, length}
use Rattle.std.specs.List.{list_any}
use Rattle.std.specs.Prelude.{map, nat_lt, reverse}
use Rattle.mdcc_def_protocol.specs.Facts.{executed_of}
use Rattle.mdcc_facts_held.proofs.deltas.is_one_crowded.Given as goal

abbrev pub invariant-loop-choice : goal.invariant-loop-choice
invariant-loop-choice l =
    list_any (λ key. nat_lt 64 (length (executed_of (l.fact ∷ reverse l.facts) key))) (map (λ choice. choice.key) (drop l.choice-index l.choices))
    ≡ list_any (λ key. nat_lt 64 (length (executed_of (l.fact ∷ reverse l.facts) key))) (map (λ choice. choice.key) l.choices)
