use Rattle.mdcc_frag.specs.Datagrams.{header, piece_of}
use Rattle.std.proofs.Common.{length}
use Rattle.mdcc_frag.proofs.LaidOut.{as_laid_out}
use Rattle.mdcc_frag.proofs.datagrams.split.Goals as goal

pub returns-clause-written : goal.returns-clause-written
returns-clause-written c =
    as_laid_out c.header-header.result (header c.args.head (length c.args.message.now) c.args.index) c.piece_of-piece.result.now
    (piece_of c.args.index c.args.message.now) c.args.out.now c.lay_out.new.out
    c.header-header.ensures c.piece_of-piece.ensures.piece c.lay_out.ensures
