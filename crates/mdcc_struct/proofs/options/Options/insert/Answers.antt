use Rattle.std.proofs.Common.{◌≡◌, length, arith}
use Rattle.std.proofs.lemmas.List.{length-map}
use Rattle.mdcc_struct.proofs.Entries.{AreEntries-inserted, marks_in-inserted}
use Rattle.mdcc_struct.proofs.Ordered.{place_of-within}
use Rattle.mdcc_struct.proofs.options.Options.insert.Goals as goal

pub insert-requires : goal.insert-requires
insert-requires c =
    let marks : length c.args.self.now ≡ length c.self.inside.entries.items = rw (← c.self.view_is) (length-map c.self.inside.entries.items _) in
    omega (arith, place_of-within c.args.self.now c.args.tx, marks, c.self.inside.entries.ok.0)

pub invariant_of-self-2 : goal.invariant_of-self-2
invariant_of-self-2 c =
    let accepted = c.self.inside.accepted.items in
    let entries = c.self.inside.entries.items in
    rw (c.in_ok-insert.ensures.items, c.in_ok-place.ensures.ok, c.in_ok-place.ensures.place, c.try_reserve.ensures.items, c.place_of-at.ensures, ← c.self.view_is)
    (AreEntries-inserted accepted entries c.args.tx c.args.mark c.self.invariant.0 (rw c.self.view_is c.requires), c.self.invariant.1)

pub returns-clause-ok : goal.returns-clause-ok
returns-clause-ok c =
    let accepted = c.self.inside.accepted.items in
    let entries = c.self.inside.entries.items in
    rw (c.in_ok-insert.ensures.items, c.in_ok-place.ensures.ok, c.in_ok-place.ensures.place, c.try_reserve.ensures.items, c.place_of-at.ensures, ← c.self.view_is)
    (marks_in-inserted accepted entries c.args.tx c.args.mark c.self.invariant.0)
