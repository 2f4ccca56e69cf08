use Rattle.std.proofs.Common.{◌≡◌, ◌+◌, ◌-◌, length, map}
use Rattle.std.specs.Prelude.{not}
use Rattle.std.specs.List.{list_all, range_with_len}
use Rattle.mdcc_def_protocol.specs.Fit.{decreases_at, is_past_room}
use Rattle.mdcc_escrow.proofs.taken.are_decreases_within.Given as goal

abbrev pub invariant-loop-place : goal.invariant-loop-place
invariant-loop-place l =
    list_all (λ q. not (is_past_room q)) (map (decreases_at l.schema l.base l.load) (range_with_len (l.place + 1) (length l.schema - l.place)))
    ≡ list_all (λ q. not (is_past_room q)) (map (decreases_at l.schema l.base l.load) (range_with_len 1 (length l.schema)))
