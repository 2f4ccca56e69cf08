use Rattle.std.proofs.Common.{◌≡◌, ℕ, ◌+◌, ◌<◌, ◌∙◌, Bool, false, length, ap, sym, arith}
use Rattle.std.specs.Prelude.{not}
use Rattle.mdcc_def_protocol.specs.Fit.{Quantity, increases_at, is_past_room}
use Rattle.mdcc_escrow.proofs.WithinRoom.{rest_passes}
use Rattle.mdcc_escrow.proofs.taken.are_increases_within.Goals as goal

pub loop-place-preserved : goal.loop-place-preserved
loop-place-preserved c =
    let p : Quantity → Bool = λ q. not (is_past_room q) in
    let f : ℕ → Quantity = increases_at c.args.schema.now c.args.base.now c.args.load.now in
    let i = c.loop-place.place in
    let less : i < length c.args.schema.now = omega (arith, ap length c.bounds-place-end.ensures.value) in
    let within : is_past_room (f (i + 1)) ≡ false = ap is_past_room (sym c.increases_at.ensures) ∙ sym c.is_past_room.ensures ∙ c.if-is_past_room.false in
    sym (rest_passes p f i (length c.args.schema.now) less (ap not within)) ∙ c.loop-place.invariant
