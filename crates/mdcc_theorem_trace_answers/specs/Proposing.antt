-- When a leader proposes, and until when it waits.
use Rattle.std.specs.Prelude.{List, Some, false, length, true, ℕ, ◌<◌, ◌≡◌}
use Rattle.mdcc_struct.specs.declared.report.Report.{Report}
use Rattle.mdcc_def_protocol.specs.Fit.{parts_of}
use Rattle.mdcc_def_protocol.specs.Leader.{has_proposed, is_promise_counted, reports_of, with_promise}
use Rattle.mdcc_def_protocol.specs.Volatile.{Lead, Leading, lead_of}
use Rattle.mdcc_def_protocol.specs.declared.leader.Promise.{Promise}
use Rattle.mdcc_def_simulation.specs.State.{World, centre_at, is_up_at}
use Rattle.mdcc_theorem_trace_states.specs.Words.{Each}

-- a promise that counts, at the lead of its key, which has not proposed
pub record IsCountedBefore (leader : Leading) (lead : Lead) (from : ℕ) (promise : Promise) : Type 0 where
  pub found : lead_of leader promise.key ≡ Some lead
  pub counted : is_promise_counted lead from promise ≡ true
  pub waits : has_proposed lead ≡ false

-- what the promises report that are counted with this one
abbrev pub reports_with_promise : Lead → ℕ → Promise → List Report
reports_with_promise lead from promise = reports_of (with_promise lead from promise).promises

-- each lead of a centre that is up has proposed, or has fewer promises than an acceptor's room has parts
abbrev pub DoNotWait : World → ℕ → Type 0
DoNotWait w a =
    is_up_at w a ≡ true
    → Each (λ (lead : Lead). has_proposed lead ≡ false → length lead.promises < parts_of w.cluster.limit w.cluster.quorums) (centre_at w a).volatile.leader.leads
