use Rattle.std.proofs.Common.{◌≡◌, ◌++◌, ◌∷◌, ◌+◌, ◌<◌, [], Some, None, set, length, ap, ◌∙◌, arith, refl, subst, sym, vec_capacity}
use Rattle.std.specs.Prelude.{IfOk, OnOk}
use Rattle.mdcc_def_messages.specs.Spelling.{fact_bytes}
use Rattle.mdcc_pool.specs.Held.{bytes_held_at}
use Rattle.mdcc_pool.specs.Sizes.{cells_for}
use Rattle.mdcc_cells_facts.specs.Stored.{AreTicketed, encodings_in}
use Rattle.mdcc_cells_facts.proofs.Ticketed.{encoded, encoded-cells, some-cells, stored-more, ticketed-more}
use Rattle.mdcc_cells_facts.proofs.fact_cells.FactCells.add.Goals as goal

pub unwrap-ticket-requires : goal.unwrap-ticket-requires
unwrap-ticket-requires c =
    let text : c.encode_fact.new.out.items ≡ c.clear.new.self.items ++ fact_bytes c.args.fact.now =
    subst (λ r. OnOk r (c.encode_fact.new.out.items ≡ c.clear.new.self.items ++ fact_bytes c.args.fact.now)) c.unwrap.ensures c.encode_fact.ensures.ok in
    let cells = encoded-cells c.args.fact.now _ _ _ c.deref.ensures.value text c.clear.ensures.items in
    c.put.ensures.exact.1 (omega (arith, cells, c.requires.room, ap (λ s. s.spare) c.self.view_is))

pub returns-clause-used : goal.returns-clause-used
returns-clause-used c =
    let text : c.encode_fact.new.out.items ≡ c.clear.new.self.items ++ fact_bytes c.args.fact.now =
    subst (λ r. OnOk r (c.encode_fact.new.out.items ≡ c.clear.new.self.items ++ fact_bytes c.args.fact.now)) c.unwrap.ensures c.encode_fact.ensures.ok in
    let cells = encoded-cells c.args.fact.now _ _ _ c.deref.ensures.value text c.clear.ensures.items in
    let used : c.put.new.self.spare + cells_for (length c.deref.result.now) ≡ c.self.inside.pool.spare =
    subst (λ r. OnOk r (c.put.new.self.spare + cells_for (length c.deref.result.now) ≡ c.self.inside.pool.spare)) c.unwrap-ticket.ensures c.put.ensures.used in
    omega (arith, used, cells, ap (λ s. s.spare) c.self.view_is)

pub returns-clause-encodings : goal.returns-clause-encodings
returns-clause-encodings c =
    let text : c.encode_fact.new.out.items ≡ c.clear.new.self.items ++ fact_bytes c.args.fact.now =
    subst (λ r. OnOk r (c.encode_fact.new.out.items ≡ c.clear.new.self.items ++ fact_bytes c.args.fact.now)) c.unwrap.ensures c.encode_fact.ensures.ok in
    let ticket = c.unwrap-ticket.result in
    let bytes = encoded c.args.fact.now _ _ _ c.deref.ensures.value text c.clear.ensures.items in
    let unused : bytes_held_at c.self.inside.pool ticket.first ≡ None =
    subst (λ r. IfOk r (λ t. bytes_held_at c.self.inside.pool t.first ≡ None)) c.unwrap-ticket.ensures c.put.ensures.unused in
    let within : ticket.first < length c.self.inside.pool.held =
    subst (λ r. IfOk r (λ t. t.first < length c.self.inside.pool.held)) c.unwrap-ticket.ensures c.put.ensures.within in
    let put : c.put.new.self.held ≡ set c.self.inside.pool.held ticket.first (Some c.deref.result.now) =
    subst (λ r. IfOk r (λ t. c.put.new.self.held ≡ set c.self.inside.pool.held t.first (Some c.deref.result.now))) c.unwrap-ticket.ensures c.put.ensures.held in
    ap (encodings_in c.put.new.self.held) c.push_reserved.ensures.items
    ∙ stored-more c.self.inside.pool c.put.new.self c.self.inside.tickets.items ticket c.deref.result.now c.self.invariant.0.held unused within put
    ∙ ap (λ b. encodings_in c.self.inside.pool.held c.self.inside.tickets.items ++ b ∷ []) bytes
    ∙ ap (λ s. s.encodings ++ fact_bytes c.args.fact.now ∷ []) c.self.view_is

pub invariant_of-self : goal.invariant_of-self
invariant_of-self c =
    let text : c.encode_fact.new.out.items ≡ c.clear.new.self.items ++ fact_bytes c.args.fact.now =
    subst (λ r. OnOk r (c.encode_fact.new.out.items ≡ c.clear.new.self.items ++ fact_bytes c.args.fact.now)) c.unwrap.ensures c.encode_fact.ensures.ok in
    let ticket = c.unwrap-ticket.result in
    let bytes = c.deref.result.now in
    let cells = encoded-cells c.args.fact.now _ _ _ c.deref.ensures.value text c.clear.ensures.items in
    let unused : bytes_held_at c.self.inside.pool ticket.first ≡ None =
    subst (λ r. IfOk r (λ t. bytes_held_at c.self.inside.pool t.first ≡ None)) c.unwrap-ticket.ensures c.put.ensures.unused in
    let within : ticket.first < length c.self.inside.pool.held =
    subst (λ r. IfOk r (λ t. t.first < length c.self.inside.pool.held)) c.unwrap-ticket.ensures c.put.ensures.within in
    let put : c.put.new.self.held ≡ set c.self.inside.pool.held ticket.first (Some c.deref.result.now) =
    subst (λ r. IfOk r (λ t. c.put.new.self.held ≡ set c.self.inside.pool.held t.first (Some c.deref.result.now))) c.unwrap-ticket.ensures c.put.ensures.held in
    let used : c.put.new.self.spare + cells_for (length c.deref.result.now) ≡ c.self.inside.pool.spare =
    subst (λ r. OnOk r (c.put.new.self.spare + cells_for (length c.deref.result.now) ≡ c.self.inside.pool.spare)) c.unwrap-ticket.ensures c.put.ensures.used in (
      subst (λ ts. AreTicketed c.put.new.self ts (vec_capacity c.push_reserved.new.self)) (sym c.push_reserved.ensures.items)
          (ticketed-more c.self.inside.pool c.put.new.self c.self.inside.tickets.items ticket bytes (vec_capacity c.self.inside.tickets) (vec_capacity c.push_reserved.new.self) (cells_for (length bytes)) c.self.invariant.0
          unused within put used (omega (arith, cells, some-cells c.args.fact.now)) refl (omega (arith, c.push_reserved.ensures.capacity))),
      omega (arith, c.self.invariant.1, c.clear.ensures.capacity, c.encode_fact.ensures.capacity),
    )
