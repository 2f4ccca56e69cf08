use Rattle.std.proofs.Common.{rules, ◌≡◌, ◌<◌, length, get_or, pos, take, sym, ◌∙◌}
use Rattle.std.proofs.lemmas.List.{take_all}
use Rattle.std.proofs.lemmas.List.Elements.{All-more, All-same}
use Rattle.mdcc_escrow.specs.Capped.{IsShort}
use Rattle.mdcc_escrow.proofs.declared.has_short_values.Goals as goal

pub loop-value-preserved : goal.loop-value-preserved
loop-value-preserved c =
    let values = c.as_slice-value-items.result.now in
    let i = c.loop-value.value-index in
    let within : i < length values = search rules in
    let short : IsShort (get_or values i (pos 0)) = record { low = search rules; high = search rules } in
    All-more IsShort values i (pos 0) within c.loop-value.invariant short

pub returns : goal.returns
returns c =
    let values = c.as_slice-value-items.result.now in
    let i = c.loop-value.value-index in
    let all : take i values ≡ values = take_all i values c.loop-value-test.false in
    let same : c.args.item.now.values ≡ take i values = sym c.as_slice-value-items.ensures.value ∙ sym all in
    All-same IsShort c.args.item.now.values (take i values) same c.loop-value.invariant
