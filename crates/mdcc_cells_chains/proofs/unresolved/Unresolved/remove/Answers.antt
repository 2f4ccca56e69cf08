use Rattle.std.proofs.Common.{◌≡◌, true, false, sym, ◌∙◌, ap, arith, vec_capacity}
use Rattle.std.specs.Prelude.{is_some}
use Rattle.mdcc_struct.specs.Maps.{value_of}
use Rattle.mdcc_struct.specs.Places.{place_of}
use Rattle.mdcc_cells_chains.specs.Unresolved.{without}
use Rattle.mdcc_cells_chains.proofs.Ascending.{place-within, removed-at, absent-at, numbered-without}
use Rattle.mdcc_cells_chains.proofs.unresolved.Unresolved.remove.Goals as goal

pub remove-requires : goal.remove-requires
remove-requires c =
    let entries = c.self.inside.entries.items in
    let tx = c.args.tx.now in
    let place : c.place_of-place.result ≡ place_of c.self.inside.entries.items c.args.tx.now = c.place_of-place.ensures.value ∙ ap (λ es. place_of es tx) c.deref.ensures.value in
    let some : is_some (value_of c.self.inside.entries.items c.args.tx.now) ≡ true = sym (ap (λ es. is_some (value_of es tx)) c.deref-2.ensures.value) ∙ sym c.has_at.ensures ∙ c.if-has_at.true in
    omega (arith, place, place-within entries tx c.self.invariant.ascending some, c.self.inside.entries.ok.0)

pub invariant_of-self : goal.invariant_of-self
invariant_of-self c =
    let entries = c.self.inside.entries.items in
    let tx = c.args.tx.now in
    let place : c.place_of-place.result ≡ place_of c.self.inside.entries.items c.args.tx.now = c.place_of-place.ensures.value ∙ ap (λ es. place_of es tx) c.deref.ensures.value in
    let some : is_some (value_of c.self.inside.entries.items c.args.tx.now) ≡ true = sym (ap (λ es. is_some (value_of es tx)) c.deref-2.ensures.value) ∙ sym c.has_at.ensures ∙ c.if-has_at.true in
    let removed = c.remove.ensures.by_index.2 ∙ removed-at entries tx c.place_of-place.result c.self.invariant.ascending place some in
    rw (removed, c.remove.ensures.capacity) (numbered-without entries c.self.inside.room (vec_capacity c.self.inside.entries) tx c.self.invariant)

pub returns-then-has_at-clause-entries : goal.returns-then-has_at-clause-entries
returns-then-has_at-clause-entries c =
    let entries = c.self.inside.entries.items in
    let tx = c.args.tx.now in
    let place : c.place_of-place.result ≡ place_of c.self.inside.entries.items c.args.tx.now = c.place_of-place.ensures.value ∙ ap (λ es. place_of es tx) c.deref.ensures.value in
    let some : is_some (value_of c.self.inside.entries.items c.args.tx.now) ≡ true = sym (ap (λ es. is_some (value_of es tx)) c.deref-2.ensures.value) ∙ sym c.has_at.ensures ∙ c.if-has_at.true in
    c.remove.ensures.by_index.2 ∙ removed-at entries tx c.place_of-place.result c.self.invariant.ascending place some ∙ ap (λ u. without u.entries tx) c.self.view_is

pub returns-else-has_at-clause-entries : goal.returns-else-has_at-clause-entries
returns-else-has_at-clause-entries c =
    let entries = c.self.inside.entries.items in
    let tx = c.args.tx.now in
    let none : is_some (value_of c.self.inside.entries.items c.args.tx.now) ≡ false = sym (ap (λ es. is_some (value_of es tx)) c.deref-2.ensures.value) ∙ sym c.has_at.ensures ∙ c.if-has_at.false in
    let same = ap (λ u. u.entries) c.self.view_is in
    sym same ∙ absent-at entries tx none ∙ ap (λ es. without es tx) same
