use Rattle.std.proofs.Common.{◌≡◌, [], ℕ, true, length, replicate, arith, sym, ◌∙◌, ap}
use Rattle.std.proofs.lemmas.Grind.{common_steps}
use Rattle.std.proofs.lemmas.List.{length-replicate}
use Rattle.mdcc_frag.specs.Arrivals.{pieces_placed, are_contiguous}
use Rattle.mdcc_frag.specs.Partial.{PartialMessage}
use Rattle.mdcc_frag.proofs.Arrived.{placed_in_order}
use Rattle.mdcc_frag.proofs.Taken.{length_in, all_there}
use Rattle.mdcc_frag.proofs.partial.Partial.into_bytes.Goals as goal

pub returns-clause-bytes : goal.returns-clause-bytes
returns-clause-bytes c =
    let full : length c.self.inside.pieces.items ≡ c.self.inside.total = all_there c.self.inside c.args.self c.self.invariant (sym c.self.view_is) c.requires.whole in
    let cleared = c.resize.ensures.succeeds (omega (arith, c.self.invariant.short, c.requires.room, c.clear.ensures.capacity)) in
    let zeros : c.resize.new.self.items ≡ replicate c.self.inside.total 0 =
    grind (arith, common_steps, cleared, c.resize.ensures.items, c.clear.ensures.items, c.clear.ensures.len) in
    let whole : c.place.new.bytes.items ≡ pieces_placed c.self.inside.arrivals.items c.self.inside.pieces.items (replicate c.self.inside.total 0) =
    cc (c.place.ensures.items, c.deref-2.ensures.value, c.deref-3.ensures.value, zeros) in
    let size : length c.place.new.bytes.items ≡ c.self.inside.total = ap length whole ∙ length_in c.self.inside c.self.invariant in
    let from : c.deref-4.result.now ≡ c.place.new.bytes.items = cc (c.deref-4.ensures.value) in
    let copied = c.extend_from_slice.ensures.succeeds
    (omega (arith, full, c.self.inside.pieces.ok, c.clear-2.ensures.capacity, c.clear-2.ensures.len, size, ap length from)) in
    let same : c.extend_from_slice.new.self.items ≡ c.place.new.bytes.items =
    grind (arith, common_steps, copied, c.extend_from_slice.ensures.items, c.clear-2.ensures.items, from) in
    c.from_vec-2.ensures ∙ same ∙ whole ∙ ap (λ (m : PartialMessage). m.bytes) c.self.view_is

pub returns-then-are_in_order-clause-bytes : goal.returns-then-are_in_order-clause-bytes
returns-then-are_in_order-clause-bytes c =
    let ordered : are_contiguous 0 c.self.inside.arrivals.items ≡ true = cc (c.are_in_order.ensures, c.deref.ensures.value, c.if-are_in_order.true) in
    let full : length c.self.inside.pieces.items ≡ c.self.inside.total = all_there c.self.inside c.args.self c.self.invariant (sym c.self.view_is) c.requires.whole in
    let whole : pieces_placed c.self.inside.arrivals.items c.self.inside.pieces.items (replicate c.self.inside.total 0) ≡ c.self.inside.pieces.items =
    placed_in_order c.self.inside.total c.self.inside.arrivals.items c.self.inside.pieces.items [] (replicate c.self.inside.total 0) ordered c.self.invariant.laid
    (length-replicate {A = ℕ} c.self.inside.total 0 ∙ sym full) in
    c.from_vec.ensures ∙ sym whole ∙ ap (λ (m : PartialMessage). m.bytes) c.self.view_is
