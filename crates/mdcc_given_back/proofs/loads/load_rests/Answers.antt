use Rattle.mdcc_given_back.proofs.LoadsLeft.{live-by-rest, live_and_void-stay, load-by-rest}
use Rattle.mdcc_given_back.proofs.loads.load_rests.Goals as goal

pub returns-clause-all : goal.returns-clause-all
returns-clause-all c = live_and_void-stay

pub returns-clause-live : goal.returns-clause-live
returns-clause-live c = live-by-rest

pub returns-clause-load : goal.returns-clause-load
returns-clause-load c = load-by-rest
