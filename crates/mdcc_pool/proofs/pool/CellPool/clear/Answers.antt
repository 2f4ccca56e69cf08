use Rattle.std.proofs.Common.{◌≡◌, None, ap, length, replicate, subst, sym, ◌∙◌}
use Rattle.mdcc_pool.specs.Chains.{fresh_cells}
use Rattle.mdcc_pool.specs.Pool.{AreKept, held_from}
use Rattle.mdcc_pool.proofs.Fresh.{fresh-length, kept-fresh, no_length, none-held}
use Rattle.mdcc_pool.proofs.Held.{held-length}
use Rattle.mdcc_pool.proofs.pool.CellPool.clear.Goals as goal

pub invariant_of-self : goal.invariant_of-self
invariant_of-self c =
    let n = length c.self.inside.cells in
    let lens : c.clear-2.new.self ≡ replicate (length c.self.inside.cells) no_length = c.clear-2.ensures ∙ ap (λ k. replicate k no_length) c.self.invariant.alike in
    let size : c.size-self-inside.result ≡ length c.self.inside.cells = c.size-self-inside.ensures ∙ ap length c.clear.ensures ∙ fresh-length 0 n in
    subst (λ k. AreKept c.clear.new.self c.clear-2.new.self 0 k) (sym size) (rw (c.clear.ensures, lens) (kept-fresh n c.self.invariant.small))

pub returns : goal.returns
returns c =
    let n = length c.self.inside.cells in
    let long : length c.self.inside.cells ≡ length c.args.self.now.held =
    sym c.self.invariant.alike ∙ sym (held-length c.self.inside.cells 0 c.self.inside.lens) ∙ ap (λ p. length p.held) c.self.view_is in
    let lens : c.clear-2.new.self ≡ replicate (length c.self.inside.cells) no_length = c.clear-2.ensures ∙ ap (λ k. replicate k no_length) c.self.invariant.alike in
    let size : c.size-self-inside.result ≡ length c.args.self.now.held = c.size-self-inside.ensures ∙ ap length c.clear.ensures ∙ fresh-length 0 n ∙ long in
    let held : held_from c.clear.new.self 0 c.clear-2.new.self ≡ replicate (length c.args.self.now.held) None =
    ap (held_from c.clear.new.self 0) lens ∙ none-held c.clear.new.self 0 n ∙ ap (λ k. replicate k None) long in
    λ i. record { spare = size i; held = held i }
