use Rattle.mdcc_option.proofs.Equal.{Decides-txs, Decides-ints, Decides-amounts, Decides-write_set, Decides-item, Decides-token, Decides-update, Decides-choice, Decides-choices, Decides-mark, Decides-outcome}
use Rattle.mdcc_option.proofs.equality.equality_is_exact.Goals as goal

pub returns-clause-transactions : goal.returns-clause-transactions
returns-clause-transactions c = Decides-txs

pub returns-clause-numbers : goal.returns-clause-numbers
returns-clause-numbers c = Decides-ints

pub returns-clause-amounts : goal.returns-clause-amounts
returns-clause-amounts c = Decides-amounts

pub returns-clause-write_sets : goal.returns-clause-write_sets
returns-clause-write_sets c = Decides-write_set

pub returns-clause-items : goal.returns-clause-items
returns-clause-items c = Decides-item

pub returns-clause-tokens : goal.returns-clause-tokens
returns-clause-tokens c = Decides-token

pub returns-clause-updates : goal.returns-clause-updates
returns-clause-updates c = Decides-update

pub returns-clause-choices : goal.returns-clause-choices
returns-clause-choices c = Decides-choice

pub returns-clause-lists_of_choices : goal.returns-clause-lists_of_choices
returns-clause-lists_of_choices c = Decides-choices

pub returns-clause-marks : goal.returns-clause-marks
returns-clause-marks c = Decides-mark

pub returns-clause-outcomes : goal.returns-clause-outcomes
returns-clause-outcomes c = Decides-outcome
