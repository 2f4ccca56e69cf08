use Rattle.std.proofs.Common.{◌≡◌, ◌<◌, false, length, sym, ◌∙◌, arith}
use Rattle.std.specs.Prelude.{is_some}
use Rattle.mdcc_struct.specs.Maps.{value_of}
use Rattle.mdcc_struct.proofs.Ordered.{place_of-within}
use Rattle.mdcc_facts_held.proofs.Sizes.{with_entry-put, with_entry-full, with_entry-room, below_64}
use Rattle.mdcc_facts_held.proofs.deltas.put.Goals as goal

pub returns-then-is_full-clause-few : goal.returns-then-is_full-clause-few
returns-then-is_full-clause-few c =
    let none : is_some (value_of c.args.deltas.now c.args.tx) ≡ false =
    rw (← c.as_slice.ensures.value, ← c.amounts_of.ensures, ← c.is_some.ensures) c.if-is_some.false in
    let full : length c.args.deltas.now ≡ 64 = c.is_full.ensures.full.0 c.if-is_full.true in
    sym (with_entry-full c.args.deltas.now (c.args.tx, c.args.amounts.now) none full)

pub insert-requires : goal.insert-requires
insert-requires c =
    let room : length c.args.deltas.now < 64 =
    below_64 _ _ c.if-is_full.false c.is_full.ensures.full.1 c.is_full.ensures.fits in
    (omega arith, (room, rw (c.place_of-place.ensures, c.as_slice-2.ensures.value) (place_of-within c.args.deltas.now c.args.tx)))

pub returns-clause-few : goal.returns-clause-few
returns-clause-few c =
    let none : is_some (value_of c.args.deltas.now c.args.tx) ≡ false =
    rw (← c.as_slice.ensures.value, ← c.amounts_of.ensures, ← c.is_some.ensures) c.if-is_some.false in
    let room : length c.args.deltas.now < 64 =
    below_64 _ _ c.if-is_full.false c.is_full.ensures.full.1 c.is_full.ensures.fits in
    sym (with_entry-room c.args.deltas.now (c.args.tx, c.args.amounts.now) none room)

pub returns-clause-value : goal.returns-clause-value
returns-clause-value c =
    let none : is_some (value_of c.args.deltas.now c.args.tx) ≡ false =
    rw (← c.as_slice.ensures.value, ← c.amounts_of.ensures, ← c.is_some.ensures) c.if-is_some.false in
    c.insert.ensures ∙ rw (c.place_of-place.ensures, c.as_slice-2.ensures.value, c.copy.ensures) (with_entry-put c.args.deltas.now (c.args.tx, c.args.amounts.now) none)
