use Rattle.std.proofs.Common.{◌≡◌, List, drop, not}
use Rattle.std.specs.Prelude.{filter, slice_get}
use Rattle.mdcc_def_messages.specs.declared.facts.Fact.{Fact}
use Rattle.mdcc_def_protocol.specs.Facts.{is_finished}
use Rattle.mdcc_def_protocol.specs.Plain.{plain_unresolved_of}
use Rattle.mdcc_given_back.specs.Counted.{without_floors}
use Rattle.mdcc_def_protocol.specs.Stores.{unresolved_at}
use Rattle.mdcc_facts_kept.specs.Kept.{IsKept}
use Rattle.mdcc_facts_kept.proofs.kept_facts.KeptFacts.unresolved.Given as goal

abbrev pub invariant-loop-at : goal.invariant-loop-at
invariant-loop-at l =
    (facts : List Fact) (kept : IsKept l.self facts)
    → slice_get (filter (λ e. not (is_finished facts e.0)) (drop l.at (plain_unresolved_of (without_floors kept.rest)))) l.left ≡ unresolved_at facts l.place
