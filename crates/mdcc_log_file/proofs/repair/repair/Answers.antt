use Rattle.std.proofs.Common.{◌∙◌}
use Rattle.mdcc_log_file.specs.Calls.{close_calls, cut_calls}
use Rattle.mdcc_log_file.proofs.Calls.{made_both}
use Rattle.mdcc_log_file.proofs.ReadCalls.{all_where}
use Rattle.mdcc_log_file.proofs.Moments.{both}
use Rattle.mdcc_log_file.proofs.repair.repair.Goals as goal

pub returns-clause-any_moment : goal.returns-clause-any_moment
returns-clause-any_moment g c told = both (c.close_gate.ensures.any_moment told) (c.cut_end.ensures.any_moment (c.close_gate.ensures.others.told ∙ told))

pub returns-clause-calls : goal.returns-clause-calls
returns-clause-calls g c = made_both (close_calls c.args.gate c.args.bytes.now) (cut_calls c.args.gate c.args.bytes.now) _ _ _ c.in_ok-close_gate.ensures.all_calls c.cut_end.ensures.calls

pub returns-clause-all_calls : goal.returns-clause-all_calls
returns-clause-all_calls g c = all_where (close_calls c.args.gate c.args.bytes.now) (cut_calls c.args.gate c.args.bytes.now) _ _ _ c.cut_end.result c.in_ok-close_gate.ensures.all_calls c.cut_end.ensures.all_calls
