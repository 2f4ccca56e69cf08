use Rattle.std.proofs.Common.{◌<◌, length, reverse, sym, ◌∙◌, subst, arith}
use Rattle.std.proofs.lemmas.List.{length-reverse}
use Rattle.mdcc_cells_chains.specs.Keyed.{IsOnWay}
use Rattle.mdcc_cells_chains.proofs.Indexed.{entry-read, way-link, chain-implied}
use Rattle.mdcc_cells_chains.proofs.OnWay.{way-within, way-here, way-other, way-past, way-end}
use Rattle.mdcc_cells_chains.proofs.index.first_from.Goals as goal
use Rattle.mdcc_cells_chains.proofs.index.first_from.Goals.{else-index-limit-via-then-index-limit+else-is_same, else-index-limit-via-else-index-limit}

pub bounds-keys-index : goal.bounds-keys-index
bounds-keys-index g c =
    let way = subst (IsOnWay _ _ c.args.limit (reverse c.args.keys.now)) c.in-Some.is c.loop-at.invariant in
    omega (arith, way-within _ _ c.args.limit (reverse c.args.keys.now) c.in-Some.index way, length-reverse c.args.keys.now)

pub offset_bounds-keys-index : goal.offset_bounds-keys-index
offset_bounds-keys-index g c =
    let way = subst (IsOnWay _ _ c.args.limit (reverse c.args.keys.now)) c.in-Some.is c.loop-at.invariant in
    omega (arith, way-within _ _ c.args.limit (reverse c.args.keys.now) c.in-Some.index way, length-reverse c.args.keys.now)

pub returns-then-is_same : goal.returns-then-is_same
returns-then-is_same g c =
    let way = subst (IsOnWay _ _ c.args.limit (reverse c.args.keys.now)) c.in-Some.is c.loop-at.invariant in
    let within : c.in-Some.index < length c.args.keys.now = omega (arith, way-within _ _ c.args.limit (reverse c.args.keys.now) c.in-Some.index way, length-reverse c.args.keys.now) in
    way-here _ (g.K.IndexKey.same c.args.key.now) c.args.limit (reverse c.args.keys.now) c.in-Some.index c.index-keys-index.result
    (chain-implied g.K.IndexKey.hash_code (length c.args.chains.now.heads) g.K.IndexKey.same c.args.key.now g.met.K.IndexKey.one) way
    (entry-read c.args.keys.now c.in-Some.index c.index-keys-index.result within c.index-keys-index.is) c.if-index-limit.true (sym c.is_same.ensures ∙ c.if-is_same.true)

pub next-at-requires : goal.next-at-requires
next-at-requires g c =
    let way = subst (IsOnWay _ _ c.args.limit (reverse c.args.keys.now)) c.in-Some.is c.loop-at.invariant in
    omega (arith, way-within _ _ c.args.limit (reverse c.args.keys.now) c.in-Some.index way, length-reverse c.args.keys.now, c.requires.indexed.long)

pub loop-at-preserved : goal.loop-at-preserved
loop-at-preserved g c =
    let way = subst (IsOnWay _ _ c.args.limit (reverse c.args.keys.now)) c.in-Some.is c.loop-at.invariant in
    let within : c.in-Some.index < length c.args.keys.now = omega (arith, way-within _ _ c.args.limit (reverse c.args.keys.now) c.in-Some.index way, length-reverse c.args.keys.now) in
    let implies = chain-implied g.K.IndexKey.hash_code (length c.args.chains.now.heads) g.K.IndexKey.same c.args.key.now g.met.K.IndexKey.one in
    let link = way-link g.K.IndexKey.hash_code (length c.args.chains.now.heads) c.args.key.now (g.K.IndexKey.same c.args.key.now) c.args.limit c.args.chains.now.links (reverse c.args.keys.now) c.in-Some.index c.requires.indexed.links way in
    elim c.else-index-limit.branch [
      | else-index-limit-via-then-index-limit+else-is_same w ↦
          way-other _ (g.K.IndexKey.same c.args.key.now) c.args.limit (reverse c.args.keys.now) c.in-Some.index w.index-keys-index.result c.next-at.result implies way
          (entry-read c.args.keys.now c.in-Some.index w.index-keys-index.result within w.index-keys-index.is) (sym w.is_same.ensures ∙ w.if-is_same.false) (c.next-at.ensures.value ∙ link)
      | else-index-limit-via-else-index-limit w ↦
          way-past _ (g.K.IndexKey.same c.args.key.now) c.args.limit (reverse c.args.keys.now) c.in-Some.index c.next-at.result implies way w.if-index-limit.false (c.next-at.ensures.value ∙ link)
    ]

pub returns : goal.returns
returns g c =
    let way = subst (IsOnWay _ _ c.args.limit (reverse c.args.keys.now)) c.in_default.is c.loop-at.invariant in
    way-end _ (g.K.IndexKey.same c.args.key.now) c.args.limit (reverse c.args.keys.now)
    (chain-implied g.K.IndexKey.hash_code (length c.args.chains.now.heads) g.K.IndexKey.same c.args.key.now g.met.K.IndexKey.one) way
