use Rattle.std.proofs.Common.{◌≡◌, ◌+◌, ◌<◌, ◌++◌, List, ℕ, length, drop}
use Rattle.std.specs.List.{flat_map}
use Rattle.mdcc_log_file.specs.Log.{frame_bytes}
use Rattle.mdcc_log_file.specs.Crash.{AreShort}
use Rattle.mdcc_log_file.proofs.frames.read_tail.Given as goal

abbrev pub invariant-loop-rest : goal.invariant-loop-rest
invariant-loop-rest l = record {
  tail : List (List ℕ);
  added : l.payloads.items ≡ l.fn.records.items ++ tail;
  counted : l.count ≡ length tail;
  front : drop l.start l.bytes ≡ flat_map frame_bytes tail ++ l.rest;
  ends : l.gate ≡ l.start + length (flat_map frame_bytes tail);
  size : l.gate + length l.rest ≡ length l.bytes;
  more : 0 < length l.rest;
  short : AreShort tail;
}

abbrev pub decreases-loop-rest : goal.decreases-loop-rest
decreases-loop-rest l = length l.rest
