use Rattle.std.proofs.Common.{List, [], ◌∷◌, ◌++◌, length, true, arith, sym, refl, ap, ◌∙◌}
use Rattle.std.specs.Vec.{with_item}
use Rattle.std.proofs.lemmas.Grind.{common_steps}
use Rattle.mdcc_frag.proofs.Taken.{is_missing, room_for, pieces_with, message_with}
use Rattle.mdcc_frag.specs.declared.partial.Arrival.{Arrival}
use Rattle.mdcc_frag.proofs.partial.Partial.take.Goals as goal

pub make_room-requires-clause-within : goal.make_room-requires-clause-within
make_room-requires-clause-within c =
    let fits = room_for c.self.inside c.args.self.now c.args.index c.args.piece.now c.self.invariant (sym c.self.view_is) c.requires.index c.requires.missing c.requires.size in
    omega (arith, fits, c.self.inside.pieces.ok.0)

pub index_mut-requires : goal.index_mut-requires
index_mut-requires c =
    let there = is_missing c.self.inside c.args.self.now c.args.index c.self.invariant (sym c.self.view_is) c.requires.index c.requires.missing in
    omega (arith, there.within, c.self.inside.held.ok.0)

pub invariant_of-self-2 : goal.invariant_of-self-2
invariant_of-self-2 c =
    let arrival : Arrival = record { index = c.args.index; size = length c.args.piece.now } in
    pieces_with c.self.inside (record { total = c.self.inside.total; pieces = c.extend_from_slice.new.self; arrivals = c.push_reserved.new.self; held = with_item c.self.inside.held c.args.index true })
    c.args.self.now arrival c.args.piece.now c.self.invariant (sym c.self.view_is) (record {
      total = refl;
      arrivals = c.push_reserved.ensures.items ∙ ap (λ (arrivals : List Arrival). arrivals ++ arrival ∷ []) c.in_ok-reserve.ensures.items;
      pieces = grind (arith, common_steps, c.in_ok-extend_from_slice.ensures.items, c.in_ok-make_room.ensures.items);
      held = refl;
      size = refl;
      exact = c.requires.size;
      inside = c.requires.index;
      absent = c.requires.missing;
    })

pub returns-clause-taken : goal.returns-clause-taken
returns-clause-taken c =
    let arrival : Arrival = record { index = c.args.index; size = length c.args.piece.now } in
    message_with c.self.inside (record { total = c.self.inside.total; pieces = c.extend_from_slice.new.self; arrivals = c.push_reserved.new.self; held = with_item c.self.inside.held c.args.index true })
    c.args.self.now arrival c.args.piece.now c.self.invariant (sym c.self.view_is) (record {
      total = refl;
      arrivals = c.push_reserved.ensures.items ∙ ap (λ (arrivals : List Arrival). arrivals ++ arrival ∷ []) c.in_ok-reserve.ensures.items;
      pieces = grind (arith, common_steps, c.in_ok-extend_from_slice.ensures.items, c.in_ok-make_room.ensures.items);
      held = refl;
      size = refl;
      exact = c.requires.size;
      inside = c.requires.index;
      absent = c.requires.missing;
    })
