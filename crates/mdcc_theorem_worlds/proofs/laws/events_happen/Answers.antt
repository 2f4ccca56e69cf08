use Rattle.mdcc_theorem_worlds.proofs.Events.{begin-is, crash-is, delivery-is, input-is, read-is, restart-is, stop-is, sweep-is, tick-is}
use Rattle.mdcc_theorem_worlds.proofs.laws.events_happen.Goals as goal

pub returns-clause-read : goal.returns-clause-read
returns-clause-read c = read-is

pub returns-clause-tick : goal.returns-clause-tick
returns-clause-tick c = tick-is

pub returns-clause-sweep : goal.returns-clause-sweep
returns-clause-sweep c = sweep-is

pub returns-clause-crash : goal.returns-clause-crash
returns-clause-crash c = crash-is

pub returns-clause-restart : goal.returns-clause-restart
returns-clause-restart c = restart-is

pub returns-clause-delivery : goal.returns-clause-delivery
returns-clause-delivery c = delivery-is

pub returns-clause-begin : goal.returns-clause-begin
returns-clause-begin c = begin-is

pub returns-clause-input : goal.returns-clause-input
returns-clause-input c = input-is

pub returns-clause-stop : goal.returns-clause-stop
returns-clause-stop c = stop-is
