use Rattle.std.proofs.Common.{◌≡◌, ◌<◌, length, arith}
use Rattle.std.proofs.lemmas.List.{length-map}
use Rattle.mdcc_struct.specs.Fields.{marks_in}
use Rattle.mdcc_struct.proofs.Entries.{entry-at}
use Rattle.mdcc_struct.proofs.Ordered.{place_of-above, place_of-stops, place_of-within}
use Rattle.mdcc_struct.proofs.options.Options.next_place.Goals as goal

pub loop-place-preserved : goal.loop-place-preserved
loop-place-preserved c =
    let accepted = c.self.inside.accepted.items in
    let entries = c.self.inside.entries.items in
    let within : c.loop-place.place < length entries = omega (arith, c.self.inside.entries.ok.0) in
    let at = entry-at accepted entries c.loop-place.place c.index.result.now within c.index.ensures in
    omega (arith, place_of-above (marks_in accepted entries) c.args.tx.now c.loop-place.place _ c.self.invariant.0.ascending at (cc))

pub returns-else-is_below : goal.returns-else-is_below
returns-else-is_below c =
    let accepted = c.self.inside.accepted.items in
    let entries = c.self.inside.entries.items in
    let within : c.loop-place.place < length entries = omega (arith, c.self.inside.entries.ok.0) in
    let at = entry-at accepted entries c.loop-place.place c.index.result.now within c.index.ensures in
    rw (← c.self.view_is) (omega (arith, place_of-stops (marks_in accepted entries) c.args.tx.now c.loop-place.place _ at (cc)))

pub returns-after-loop-place : goal.returns-after-loop-place
returns-after-loop-place c =
    let entries = c.self.inside.entries.items in
    let marks = marks_in c.self.inside.accepted.items entries in
    let same : length marks ≡ length entries = length-map entries _ in
    rw (← c.self.view_is) (omega (arith, place_of-within marks c.args.tx.now, same, c.self.inside.entries.ok.0))
