use Rattle.std.proofs.Common.{◌≡◌, ◌<◌, ◌≤◌, ℕ, None, true, false, length, sym, ◌∙◌, ap, arith, vec_capacity, rules}
use Rattle.std.specs.Prelude.{is_ok, is_some}
use Rattle.mdcc_base.specs.declared.identifiers.TxId.{TxId}
use Rattle.mdcc_struct.specs.Maps.{value_of, with_entry}
use Rattle.mdcc_struct.specs.Places.{place_of}
use Rattle.mdcc_cells_chains.proofs.Ascending.{none-value, inserted-at, numbered-insert}
use Rattle.mdcc_cells_chains.proofs.unresolved.Unresolved.insert.Goals as goal

pub invariant_of-self : goal.invariant_of-self
invariant_of-self c =
    let entries = c.self.inside.entries.items in
    let tx = c.args.tx in
    let e : TxId × ℕ = (c.args.tx, c.args.number) in
    let place : c.place_of-place.result ≡ place_of c.self.inside.entries.items c.args.tx = c.place_of-place.ensures.value ∙ ap (λ es. place_of es tx) c.deref.ensures.value in
    let within : c.place_of-place.result ≤ length c.self.inside.entries.items = omega (arith, c.place_of-place.ensures.within, ap length c.deref.ensures.value) in
    let none : is_some (value_of c.self.inside.entries.items c.args.tx) ≡ false = sym (ap (λ es. is_some (value_of es tx)) c.deref-2.ensures.value) ∙ sym c.has_at.ensures ∙ c.if-not-has_at.true in
    let absent : value_of c.args.self.now.entries c.args.tx ≡ None = sym (ap (λ u. value_of u.entries tx) c.self.view_is) ∙ none-value (value_of entries tx) none in
    let free : length c.self.inside.entries.items < c.self.inside.room = omega (arith, c.requires absent, ap (λ u. length u.entries) c.self.view_is, ap (λ u. u.room) c.self.view_is) in
    let ok : is_ok c.insert.result ≡ true = search rules in
    rw (c.insert.ensures.items, ok)
    (numbered-insert entries c.self.inside.room (vec_capacity c.self.inside.entries) (vec_capacity c.insert.new.self) e c.place_of-place.result c.self.invariant place within none free c.insert.ensures.capacity)

pub returns-then-not-has_at-clause-entries : goal.returns-then-not-has_at-clause-entries
returns-then-not-has_at-clause-entries c =
    let entries = c.self.inside.entries.items in
    let tx = c.args.tx in
    let e : TxId × ℕ = (c.args.tx, c.args.number) in
    let place : c.place_of-place.result ≡ place_of c.self.inside.entries.items c.args.tx = c.place_of-place.ensures.value ∙ ap (λ es. place_of es tx) c.deref.ensures.value in
    let none : is_some (value_of c.self.inside.entries.items c.args.tx) ≡ false = sym (ap (λ es. is_some (value_of es tx)) c.deref-2.ensures.value) ∙ sym c.has_at.ensures ∙ c.if-not-has_at.true in
    let ok : is_ok c.insert.result ≡ true = search rules in
    rw (c.insert.ensures.items, ok) (inserted-at entries e c.place_of-place.result place none ∙ ap (λ u. with_entry u.entries e) c.self.view_is)
