use Rattle.std.proofs.Common.{◌≡◌, false, ◌∙◌, refl, reverse}
use Rattle.std.specs.Prelude.{max}
use Rattle.mdcc_def_protocol.specs.Facts.{current_of, deltas_at, deltas_from, version_from}
use Rattle.mdcc_facts_held.specs.Few.{is_few}
use Rattle.mdcc_facts_held.proofs.Sizes.{few_none, over_union}
use Rattle.mdcc_facts_held.proofs.deltas.is_crowded.Goals as goal

pub returns-in-None : goal.returns-in-None
returns-in-None c =
    let facts = reverse c.args.facts.now in
    let key = c.args.key.now in
    let next = max (current_of facts key) (version_from key c.args.fact.now) in
    let version : c.max-version.result ≡ next =
    c.max-version.ensures ∙ rw (c.current_of.ensures, c.version_from.ensures) refl in
    let over : is_few (deltas_at facts key c.max-version.result) ≡ false = few_none _ c.in-None.ensures in
    let now : is_few (deltas_at facts key next) ≡ false = rw (← version) over in
    over_union (deltas_at facts key next) (deltas_from key next c.args.fact.now) now
