use Rattle.std.proofs.Common.{◌≡◌, None, arith, length}
use Rattle.std.specs.Option.{option_copied}
use Rattle.std.proofs.lemmas.List.{length-map}
use Rattle.mdcc_struct.specs.Maps.{value_of}
use Rattle.mdcc_struct.proofs.Ordered.{place_of-within}
use Rattle.mdcc_leader_structures.proofs.Filled.{AreEntries-inserted, claims_in-inserted, no_value}
use Rattle.mdcc_leader_structures.proofs.claims.Claims.insert_at.Goals as goal

pub insert-requires : goal.insert-requires
insert-requires c =
    let claims : length c.args.self.now ≡ length c.self.inside.entries.items = rw (← c.self.view_is) (length-map c.self.inside.entries.items _) in
    omega (arith, place_of-within c.args.self.now c.args.tx, claims, c.self.inside.entries.ok.0, c.requires.place)

pub invariant_of-self-2 : goal.invariant_of-self-2
invariant_of-self-2 c =
    let choices = c.self.inside.choices.items in
    let entries = c.self.inside.entries.items in
    let none : value_of c.args.self.now c.args.tx ≡ None = no_value (value_of c.args.self.now c.args.tx) c.requires.new in
    rw (c.in_ok-insert.ensures.items, c.in_ok-place.ensures.ok, c.in_ok-place.ensures.place, c.try_reserve.ensures.items, c.requires.place, ← c.self.view_is)
    (AreEntries-inserted choices entries c.args.tx (option_copied c.args.choice) c.self.invariant (rw c.self.view_is none))

pub returns-clause-ok : goal.returns-clause-ok
returns-clause-ok c =
    let choices = c.self.inside.choices.items in
    let entries = c.self.inside.entries.items in
    let none : value_of c.args.self.now c.args.tx ≡ None = no_value (value_of c.args.self.now c.args.tx) c.requires.new in
    rw (c.in_ok-insert.ensures.items, c.in_ok-place.ensures.ok, c.in_ok-place.ensures.place, c.try_reserve.ensures.items, c.requires.place, ← c.self.view_is)
    (claims_in-inserted choices entries c.args.tx (option_copied c.args.choice) c.self.invariant (rw c.self.view_is none))
