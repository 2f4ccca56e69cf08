use Rattle.mdcc_theorem_datagrams.proofs.ReadBack.{datagram_read}
use Rattle.mdcc_theorem_datagrams.proofs.laws.datagram_is_read.Goals as goal

pub returns : goal.returns
returns c = λ head index message h m i. datagram_read head index message h m i
