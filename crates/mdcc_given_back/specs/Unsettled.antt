-- The transactions that are not settled, with their write sets, by the facts that are left.
--
-- A vote that is dropped has only marks of finished transactions, and an offered choice of one of them: so each offer is of a marked transaction.
use Rattle.std.specs.List.{list_any}
use Rattle.std.specs.Prelude.{◌≡◌, List, None, false, filter, if◌then◌else◌, not, ℕ}
use Rattle.mdcc_base.specs.declared.identifiers.TxId.{TxId}
use Rattle.mdcc_struct.specs.Maps.{value_of}
use Rattle.mdcc_def_messages.specs.declared.facts.Fact.{Fact}
use Rattle.mdcc_def_protocol.specs.Facts.{is_finished, unresolved_of}
use Rattle.mdcc_def_protocol.specs.Plain.{plain_unresolved_of}
use Rattle.mdcc_def_protocol.specs.Stores.{unresolved_at}
use Rattle.mdcc_given_back.specs.Offers.{offers_unmarked}
use Rattle.mdcc_given_back.specs.Rest.{IsRest}

abbrev pub UnresolvedStays : Type 0
UnresolvedStays = (rest facts : List Fact) → IsRest rest facts → list_any offers_unmarked facts ≡ false → unresolved_of rest ≡ unresolved_of facts

-- those that were not heard by what is left, without finished ones
abbrev pub UnresolvedByRest : Type 0
UnresolvedByRest =
    (rest facts : List Fact)
    → IsRest rest facts → list_any offers_unmarked facts ≡ false
    → unresolved_of facts ≡ filter (λ e. not (is_finished facts e.0)) (plain_unresolved_of rest)

abbrev pub UnresolvedAtStays : Type 0
UnresolvedAtStays =
    (rest facts : List Fact) (place : ℕ) → IsRest rest facts → list_any offers_unmarked facts ≡ false → unresolved_at rest place ≡ unresolved_at facts place

abbrev pub WriteSetByRest : Type 0
WriteSetByRest =
    (rest facts : List Fact) (tx : TxId)
    → IsRest rest facts → list_any offers_unmarked facts ≡ false
    → value_of (unresolved_of facts) tx ≡ (if is_finished facts tx then None else value_of (plain_unresolved_of rest) tx)
