use Rattle.mdcc_theorem_datagrams.proofs.Runs.{joined_after}
use Rattle.mdcc_theorem_datagrams.proofs.laws.joined_from_anything.Goals as goal

pub returns : goal.returns
returns c = λ head index message before h m within honest bytes whole. joined_after head message index before h m within honest bytes whole
