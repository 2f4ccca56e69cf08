-- The cells of a store that its facts do not hold are its spare ones.
use Rattle.std.proofs.Common.{◌≡◌, ◌∷◌, ◌∙◌, List, [], refl, sym, ap, arith}
use Rattle.std.proofs.lemmas.Bool.{OnFalse_from}
use Rattle.std.specs.Prelude.{◌-◌, Err, Ok, Result}
use Rattle.mdcc_base.specs.Unless.{GivesUnless}
use Rattle.mdcc_def_messages.specs.Lengths.{cells_needed, cells_used}
use Rattle.mdcc_def_messages.specs.Spelling.{encodings_of, fact_bytes}
use Rattle.mdcc_def_messages.specs.declared.facts.Fact.{Fact}
use Rattle.mdcc_def_protocol.specs.Cells.{cells_held}
use Rattle.mdcc_def_protocol.specs.declared.stores.StoreFault.{StoreFault}
use Rattle.mdcc_def_protocol.proofs.Plain.{cells_plain}
use Rattle.mdcc_cells_facts.specs.Stored.{cells_taken}
use Rattle.mdcc_cells_facts.proofs.Ticketed.{cells-alike, taken-more}
use Rattle.mdcc_facts.specs.Adding.{add_result, is_store_memory}
use Rattle.mdcc_index.specs.Stores.{HasFactsInCells, Represents, Store, cells_in_all}
use Rattle.mdcc_index.proofs.Adding.{facts_in_cells}

encodings-taken : (facts : List Fact) → cells_taken (encodings_of facts) ≡ cells_used facts
encodings-taken [] = refl
encodings-taken (fact ∷ facts) = omega (arith, taken-more (encodings_of facts) (fact_bytes fact), cells-alike fact, encodings-taken facts)

-- those that are not spare are the cells that the facts need
pub taken_used : (store : Store) (facts : List Fact) → HasFactsInCells store facts → cells_taken store.cells.encodings ≡ cells_used facts
taken_used store facts has = ap cells_taken has.cells.encodings_are ∙ encodings-taken facts

-- no floor is set, so the facts hold what they need
pub spare_left : (store : Store) (facts : List Fact) → Represents store facts → cells_in_all store - cells_held facts ≡ store.cells.spare
spare_left store facts kept =
    omega (arith, cells_plain facts kept.added.no_floor, taken_used store facts (facts_in_cells store facts kept))

-- ---- what a store answers that takes no memory

given : {T : Type 0} (result expected : Result T StoreFault) → result ≡ expected → GivesUnless is_store_memory result expected
given (Ok x) expected is = is
given (Err fault) expected is = OnFalse_from (is_store_memory fault) (Err fault ≡ expected) (λ told. is)

-- the answer by the cells that are spare is that by those that the facts hold
pub answer_held : (store : Store) (facts : List Fact) (fact : Fact) (result : Result (Unit {0}) StoreFault) → Represents store facts
    → result ≡ add_result store.cells.spare (cells_needed fact) facts fact
    → GivesUnless is_store_memory result (add_result (cells_in_all store - cells_held facts) (cells_needed fact) facts fact)
answer_held store facts fact result kept is =
    given result (add_result (cells_in_all store - cells_held facts) (cells_needed fact) facts fact)
    (is ∙ ap (λ spare. add_result spare (cells_needed fact) facts fact) (sym (spare_left store facts kept)))
