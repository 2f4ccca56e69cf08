use Rattle.std.proofs.Common.{◌≡◌, ◌≤◌, ◌++◌, take, vec_capacity}
use Rattle.std.specs.List.{flat_map}
use Rattle.mdcc_log_file.specs.Log.{frame_body, frame_bytes}
use Rattle.mdcc_log_file.proofs.append.lay_out.Given as goal

abbrev pub invariant-loop-payload : goal.invariant-loop-payload
invariant-loop-payload l = record {
  items : l.buffer.items ≡ frame_body l.first ++ flat_map frame_bytes (take l.payload-index l.others);
  room : 2097157 ≤ vec_capacity l.buffer;
}
