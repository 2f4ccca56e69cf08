use Rattle.mdcc_frag.proofs.LaidOut.{laid_out}
use Rattle.mdcc_frag.proofs.datagrams.lay_out.Goals as goal

pub returns : goal.returns
returns c = let same = laid_out c.args.header.now c.args.piece.now c.args.out.now c.requires.header in cc
