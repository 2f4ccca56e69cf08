use Rattle.mdcc_check_histories.proofs.Typed.{read-is-line}
use Rattle.mdcc_check_histories.proofs.laws.read_is_line.Goals as goal

pub returns : goal.returns
returns c = read-is-line
