-- The node's rules around floors. A rule that is not built yet does nothing. (Our own rules.)
use Rattle.std.specs.Prelude.{ℕ}
use Rattle.mdcc_base.specs.declared.identifiers.TxId.{TxId}
use Rattle.mdcc_def_protocol.specs.Volatile.{Volatile, closed}
use Rattle.mdcc_def_rules.specs.Here.{Here}
use Rattle.mdcc_def_rules.specs.Steps.{NodeStep, nothing_done}

-- a centre is to tell all how far it has heard: not built yet
abbrev pub sweep_step : Here → Volatile → NodeStep
sweep_step here volatile = nothing_done volatile

-- a centre s told how far it has heard: not built yet
abbrev pub mark_step : Here → Volatile → ℕ → ℕ → ℕ → ℕ → NodeStep
mark_step here volatile s centre epoch seq = nothing_done volatile

-- a transaction is finished elsewhere: it is closed here
abbrev pub finished_step : Volatile → TxId → NodeStep
finished_step volatile tx = nothing_done (closed volatile tx)
