use Rattle.mdcc_theorem_encoding.proofs.Identifiers.{key_again, tx_again, ballot_again}
use Rattle.mdcc_theorem_encoding.proofs.Items.{item_again, seen_again, amounts_again, update_again, write_set_again}
use Rattle.mdcc_theorem_encoding.proofs.Choices.{choice_again, options_again}
use Rattle.mdcc_theorem_encoding.proofs.PartsRead.{again_anywhere, delta_again_alone}
use Rattle.mdcc_theorem_encoding.proofs.parts.parts_are_read_back.Goals as goal

pub returns-clause-keys : goal.returns-clause-keys
returns-clause-keys c = again_anywhere key_again

pub returns-clause-identifiers : goal.returns-clause-identifiers
returns-clause-identifiers c = again_anywhere tx_again

pub returns-clause-ballots : goal.returns-clause-ballots
returns-clause-ballots c = again_anywhere ballot_again

pub returns-clause-items : goal.returns-clause-items
returns-clause-items c = again_anywhere item_again

pub returns-clause-seen : goal.returns-clause-seen
returns-clause-seen c = again_anywhere seen_again

pub returns-clause-amounts : goal.returns-clause-amounts
returns-clause-amounts c = again_anywhere amounts_again

pub returns-clause-updates : goal.returns-clause-updates
returns-clause-updates c = again_anywhere update_again

pub returns-clause-write_sets : goal.returns-clause-write_sets
returns-clause-write_sets c = again_anywhere write_set_again

pub returns-clause-choices : goal.returns-clause-choices
returns-clause-choices c = again_anywhere choice_again

pub returns-clause-deltas : goal.returns-clause-deltas
returns-clause-deltas c = again_anywhere delta_again_alone

pub returns-clause-structures : goal.returns-clause-structures
returns-clause-structures c = λ key version. again_anywhere (λ bytes at options w h. options_again bytes at key version options w h)
