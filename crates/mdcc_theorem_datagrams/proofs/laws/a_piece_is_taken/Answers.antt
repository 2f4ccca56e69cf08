use Rattle.std.proofs.Common.{ap, true}
use Rattle.std.specs.Prelude.{slice_set}
use Rattle.mdcc_theorem_datagrams.proofs.Pieces.{taken_bytes}
use Rattle.mdcc_theorem_datagrams.proofs.laws.a_piece_is_taken.Goals as goal

pub returns : goal.returns
returns c = λ message held index size within.
    ap (λ bytes. record { bytes = bytes; held = slice_set held index true }) (taken_bytes index held message size within)
