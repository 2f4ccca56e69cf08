use Rattle.mdcc_theorem_datagrams.proofs.Pieces.{whole_bytes}
use Rattle.mdcc_theorem_datagrams.proofs.laws.all_pieces_are_the_message.Goals as goal

pub returns : goal.returns
returns c = λ message held size all. whole_bytes held message size all
