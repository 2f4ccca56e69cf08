-- Words on updates, marks and outcomes.
use Rattle.std.specs.List.{list_all, list_any}
use Rattle.std.specs.Prelude.{Bool, List, None, Option, Some, [], false, filter_map, if◌then◌else◌, is_some, option_and_then, true, ℕ, ℤ, ◌&&◌, ◌∷◌}
use Rattle.mdcc_base.specs.TxId.{tx_eq}
use Rattle.mdcc_base.specs.declared.identifiers.TxId.{TxId}
use Rattle.mdcc_option.specs.Equality.{mark_eq}
use Rattle.mdcc_option.specs.declared.choices.Choice.{Choice}
use Rattle.mdcc_option.specs.declared.choices.Mark.{Mark}
use Rattle.mdcc_option.specs.declared.choices.Outcome.{Outcome}
use Rattle.mdcc_option.specs.declared.items.Update.{Update}
use Rattle.mdcc_struct.specs.declared.options.Options.{Options}
pub use Rattle.mdcc_struct.specs.Options.{is_accept, accepts_in, rejects_in}

-- attributes, ascending from 1, with the amounts that are added to them
abbrev pub Amounts : Type 0
Amounts = List (ℕ × ℤ)

abbrev pub is_write : Update → Bool
is_write (Update.Write item seen) = true
is_write (Update.Add amounts) = false

-- the transactions that a Write saw; an Add has none
abbrev pub seen_in : Update → List TxId
seen_in (Update.Write item seen) = seen
seen_in (Update.Add amounts) = []

-- the choice that a mark accepts
abbrev pub choice_in : Mark → Option Choice
choice_in (Mark.Accept choice) = Some choice
choice_in Mark.Reject = None

-- whether they are one structure
abbrev pub options_eq : Options → Options → Bool
options_eq [] [] = true
options_eq (a ∷ as') (b ∷ bs) = tx_eq a.0 b.0 && (mark_eq a.1 b.1 && options_eq as' bs)
options_eq _ _ = false

abbrev pub is_commit : Outcome → Bool
is_commit (Outcome.Commit choices) = true
is_commit Outcome.Abort = false

abbrev pub is_abort : Option Outcome → Bool
is_abort (Some Outcome.Abort) = true
is_abort _ = false

abbrev pub is_reject_found : Option Mark → Bool
is_reject_found (Some Mark.Reject) = true
is_reject_found _ = false

-- the outcome by the marks of all choices: Abort where one is rejected, else Commit where all are accepted. (MDCC.)
abbrev pub outcome_of_marks : List (Option Mark) → Option Outcome
outcome_of_marks marks =
    if list_any is_reject_found marks then Some Outcome.Abort
    else (if list_all is_some marks then Some (Outcome.Commit (filter_map (λ mark. option_and_then choice_in mark) marks)) else None)
