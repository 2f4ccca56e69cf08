use Rattle.mdcc_theorem_worlds.proofs.Begins.{first-stands}
use Rattle.mdcc_theorem_worlds.proofs.Staying.{limited-stays, restarted-stays}
use Rattle.mdcc_theorem_worlds.proofs.Stays.{counted-stays, crash-stays, delivered-stays, read-stays, stop-stays}
use Rattle.mdcc_theorem_worlds.proofs.laws.worlds_stay.Goals as goal

pub returns-clause-first : goal.returns-clause-first
returns-clause-first c = first-stands

pub returns-clause-input : goal.returns-clause-input
returns-clause-input c = limited-stays

pub returns-clause-delivered : goal.returns-clause-delivered
returns-clause-delivered c = delivered-stays

pub returns-clause-counted : goal.returns-clause-counted
returns-clause-counted c = counted-stays

pub returns-clause-read : goal.returns-clause-read
returns-clause-read c = read-stays

pub returns-clause-crash : goal.returns-clause-crash
returns-clause-crash c = crash-stays

pub returns-clause-restart : goal.returns-clause-restart
returns-clause-restart c = restarted-stays

pub returns-clause-stop : goal.returns-clause-stop
returns-clause-stop c = stop-stays
