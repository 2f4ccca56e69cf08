use Rattle.std.proofs.Common.{◌≡◌, ◌+◌, false, ap, sym, ◌∙◌, reverse, take}
use Rattle.std.proofs.lemmas.List.{take_all}
use Rattle.mdcc_struct.specs.Maps.{union}
use Rattle.mdcc_def_protocol.specs.Facts.{deltas_at, deltas_from}
use Rattle.mdcc_facts_held.specs.Few.{is_few, if_few}
use Rattle.mdcc_facts_held.proofs.Sizes.{deltas_at_full, deltas_at_next, if_few_none, if_few_some}
use Rattle.mdcc_facts_held.proofs.deltas.deltas_at.Goals as goal

pub returns-then-not-put_from : goal.returns-then-not-put_from
returns-then-not-put_from c =
    let facts = c.args.facts.now in
    let key = c.args.key.now in
    let i = c.loop-fact.fact-index in
    let next : deltas_at (reverse (take (i + 1) facts)) key c.args.version ≡ union (deltas_at (reverse (take i facts)) key c.args.version) (deltas_from key c.args.version c.fact-item.result) =
    deltas_at_next facts i c.fact-item.result key c.args.version c.loop-fact-test.true c.fact-item.is in
    let over : is_few (deltas_at (reverse (take (i + 1) facts)) key c.args.version) ≡ false =
    rw (next, ← c.loop-fact.invariant.value) (sym c.if-not-put_from.ensures.few) in
    if_few_none (deltas_at (reverse facts) key c.args.version) (deltas_at_full facts (i + 1) key c.args.version over)

pub loop-fact-preserved : goal.loop-fact-preserved
loop-fact-preserved c =
    let facts = c.args.facts.now in
    let key = c.args.key.now in
    let i = c.loop-fact.fact-index in
    let next : deltas_at (reverse (take (i + 1) facts)) key c.args.version ≡ union (deltas_at (reverse (take i facts)) key c.args.version) (deltas_from key c.args.version c.fact-item.result) =
    deltas_at_next facts i c.fact-item.result key c.args.version c.loop-fact-test.true c.fact-item.is in
    let put : c.put_from.new.deltas ≡ union c.loop-fact.deltas (deltas_from key c.args.version c.fact-item.result) = c.if-not-put_from.ensures.value in
    record {
      value = put ∙ ap (λ deltas. union deltas (deltas_from key c.args.version c.fact-item.result)) c.loop-fact.invariant.value ∙ sym next;
      few = ap is_few put ∙ sym c.if-not-put_from.ensures.few;
    }

pub returns : goal.returns
returns c =
    let facts = c.args.facts.now in
    let key = c.args.key.now in
    let all : take c.loop-fact.fact-index facts ≡ facts = take_all c.loop-fact.fact-index facts c.loop-fact-test.false in
    let whole : c.loop-fact.deltas ≡ deltas_at (reverse facts) key c.args.version =
    c.loop-fact.invariant.value ∙ ap (λ xs. deltas_at (reverse xs) key c.args.version) all in
    if_few_some c.loop-fact.deltas c.loop-fact.invariant.few ∙ ap if_few whole
