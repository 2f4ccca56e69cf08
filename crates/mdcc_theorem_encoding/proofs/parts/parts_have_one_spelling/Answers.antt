use Rattle.mdcc_theorem_encoding.proofs.Identifiers.{key_takes, tx_takes, ballot_takes}
use Rattle.mdcc_theorem_encoding.proofs.Items.{item_takes, seen_takes, amounts_take, update_takes, write_set_takes}
use Rattle.mdcc_theorem_encoding.proofs.Choices.{choice_takes, options_take}
use Rattle.mdcc_theorem_encoding.proofs.PartsRead.{takes_anywhere, delta_takes_alone}
use Rattle.mdcc_theorem_encoding.proofs.parts.parts_have_one_spelling.Goals as goal

pub returns-clause-keys : goal.returns-clause-keys
returns-clause-keys c = takes_anywhere key_takes

pub returns-clause-identifiers : goal.returns-clause-identifiers
returns-clause-identifiers c = takes_anywhere tx_takes

pub returns-clause-ballots : goal.returns-clause-ballots
returns-clause-ballots c = takes_anywhere ballot_takes

pub returns-clause-items : goal.returns-clause-items
returns-clause-items c = takes_anywhere item_takes

pub returns-clause-seen : goal.returns-clause-seen
returns-clause-seen c = takes_anywhere seen_takes

pub returns-clause-amounts : goal.returns-clause-amounts
returns-clause-amounts c = takes_anywhere amounts_take

pub returns-clause-updates : goal.returns-clause-updates
returns-clause-updates c = takes_anywhere update_takes

pub returns-clause-write_sets : goal.returns-clause-write_sets
returns-clause-write_sets c = takes_anywhere write_set_takes

pub returns-clause-choices : goal.returns-clause-choices
returns-clause-choices c = takes_anywhere choice_takes

pub returns-clause-deltas : goal.returns-clause-deltas
returns-clause-deltas c = takes_anywhere delta_takes_alone

pub returns-clause-structures : goal.returns-clause-structures
returns-clause-structures c = λ key version. takes_anywhere (λ bytes at x h e. options_take bytes at key version x h e)
