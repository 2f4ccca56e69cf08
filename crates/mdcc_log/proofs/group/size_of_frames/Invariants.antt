use Rattle.std.proofs.Common.{◌≡◌, ◌-◌, ◌^◌, min, take}
use Rattle.mdcc_log.specs.Groups.{frames_size}
use Rattle.mdcc_log.proofs.group.size_of_frames.Given as goal

abbrev pub invariant-loop-payload : goal.invariant-loop-payload
invariant-loop-payload l = l.size ≡ min (frames_size (take l.payload-index l.payloads)) (2 ^ 64 - 1)
