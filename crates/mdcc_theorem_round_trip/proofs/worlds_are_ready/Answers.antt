use Rattle.mdcc_theorem_round_trip.proofs.Worlds.{worlds-ready}
use Rattle.mdcc_theorem_round_trip.proofs.worlds_are_ready.Goals as goal

pub returns : goal.returns
returns c = worlds-ready
