use Rattle.std.proofs.Common.{◌≡◌, ◌+◌, ◌++◌, length, drop}
use Rattle.mdcc_log_file.specs.Crash.{AreShort}
use Rattle.mdcc_log_file.specs.Area.{records_bytes}
use Rattle.mdcc_log_file.proofs.area.read_records.Given as goal

abbrev pub invariant-loop-turn : goal.invariant-loop-turn
invariant-loop-turn l = record {
  front : drop 25 l.bytes ≡ records_bytes l.records.items ++ l.rest;
  ends : l.offset ≡ 25 + length (records_bytes l.records.items);
  size : l.offset + length l.rest ≡ length l.bytes;
  counted : l.turn ≡ length l.records.items;
  short : AreShort l.records.items;
}
