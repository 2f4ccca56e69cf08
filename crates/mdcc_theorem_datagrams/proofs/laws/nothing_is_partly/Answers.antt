use Rattle.std.proofs.Common.{refl, ap, length, replicate, false}
use Rattle.mdcc_frag.specs.Datagrams.{count}
use Rattle.mdcc_theorem_datagrams.proofs.Pieces.{nothing_bytes}
use Rattle.mdcc_theorem_datagrams.proofs.laws.nothing_is_partly.Goals as goal

pub returns : goal.returns
returns c = λ message. let same = nothing_bytes (count (length message)) message refl in
    ap (λ bytes. record { bytes = bytes; held = replicate (count (length message)) false }) same
