use Rattle.std.proofs.Common.{◌<◌, None, length, sym, ap, ◌∙◌, arith, subst}
use Rattle.std.specs.Prelude.{IfSome, get_or}
use Rattle.mdcc_base.specs.Ballot.{fast_ballot}
use Rattle.mdcc_base.specs.Key.{key_eq}
use Rattle.mdcc_base.specs.declared.key.Key.{Key}
use Rattle.mdcc_cells_chains.specs.Walks.{first_below, first_in, walk}
use Rattle.mdcc_cells_chains.proofs.Filtered.{walk-map}
use Rattle.mdcc_cells_indices.specs.Promises.{is_at, older_end, older_end_at}
use Rattle.mdcc_cells_indices.specs.declared.promises.Promise.{Promise}
use Rattle.mdcc_cells_indices.proofs.Folding.{folding-begins, folding-ends, folding-goes, IsFolding, Next}
use Rattle.mdcc_cells_indices.proofs.Promised.{range-at, still-within}
use Rattle.mdcc_cells_indices.proofs.promises.oldest_end.Goals as goal

pub loop-at-init : goal.loop-at-init
loop-at-init c = (
  c.first-at.ensures.within,
  λ entries listed. folding-begins (older_end_at c.args.version c.args.ballot) None (is_at c.args.key.now) entries c.first-at.result
      (c.first-at.ensures.value ∙ ap (λ keys. first_in (walk (key_eq c.args.key.now) keys)) listed.keys_of
      ∙ ap first_in (walk-map (λ (entry : Key × Promise). entry.0) (key_eq c.args.key.now) entries)),
)

pub bounds-ranges-index : goal.bounds-ranges-index
bounds-ranges-index c =
    let within : c.in-Some.index < length c.args.keys.now.keys = subst (λ at. IfSome at (λ index. index < length c.args.keys.now.keys)) c.in-Some.is c.loop-at.invariant.0 in
    omega (arith, within, c.requires)

pub offset_bounds-ranges-index : goal.offset_bounds-ranges-index
offset_bounds-ranges-index c =
    let within : c.in-Some.index < length c.args.keys.now.keys = subst (λ at. IfSome at (λ index. index < length c.args.keys.now.keys)) c.in-Some.is c.loop-at.invariant.0 in
    omega (arith, within, c.requires)

pub loop-at-preserved : goal.loop-at-preserved
loop-at-preserved c =
    let within : c.in-Some.index < length c.args.keys.now.keys = subst (λ at. IfSome at (λ index. index < length c.args.keys.now.keys)) c.in-Some.is c.loop-at.invariant.0 in (
      still-within (length c.args.keys.now.keys) c.in-Some.index c.next-at.result within c.next-at.ensures.lower,
      λ entries listed.
          let folding = subst (λ at. IsFolding (older_end_at c.args.version c.args.ballot) None (is_at c.args.key.now) entries at c.loop-at.found) c.in-Some.is (c.loop-at.invariant.1 entries listed) in
          let next : Next (older_end_at c.args.version c.args.ballot) None (is_at c.args.key.now) entries c.in-Some.index c.loop-at.found =
          folding-goes (older_end_at c.args.version c.args.ballot) None (is_at c.args.key.now) entries c.in-Some.index c.loop-at.found folding in
          subst (λ found. IsFolding (older_end_at c.args.version c.args.ballot) None (is_at c.args.key.now) entries c.next-at.result found)
          (ap (older_end c.args.version c.args.ballot c.loop-at.found)
          (sym (range-at entries c.in-Some.index next.entry (record { low = 0; high = 0; ballot = fast_ballot }) next.at)
          ∙ ap (λ ranges. get_or ranges c.in-Some.index (record { low = 0; high = 0; ballot = fast_ballot })) (sym listed.ranges_of))
          ∙ sym c.older_end-found.ensures)
          (next.goes c.next-at.result (c.next-at.ensures.value ∙ ap (λ keys. first_below c.in-Some.index (walk (key_eq c.args.key.now) keys)) listed.keys_of
          ∙ ap (first_below c.in-Some.index) (walk-map (λ (entry : Key × Promise). entry.0) (key_eq c.args.key.now) entries))),
    )

pub returns : goal.returns
returns c entries listed =
    folding-ends (older_end_at c.args.version c.args.ballot) None (is_at c.args.key.now) entries c.loop-at.found
    (subst (λ at. IsFolding (older_end_at c.args.version c.args.ballot) None (is_at c.args.key.now) entries at c.loop-at.found) c.in_default.is (c.loop-at.invariant.1 entries listed))
