use Rattle.std.proofs.Common.{◌≡◌, ap, fold, sym, ◌∙◌}
use Rattle.std.proofs.Common.{None, Option, Some, subst, ◌<◌}
use Rattle.mdcc_base.specs.declared.identifiers.Ballot.{Ballot}
use Rattle.mdcc_base.specs.declared.identifiers.TxId.{TxId}
use Rattle.mdcc_option.specs.declared.choices.Mark.{Mark}
use Rattle.mdcc_base.specs.Ballot.{fast_ballot}
use Rattle.mdcc_struct.specs.declared.options.Options.{Options}
use Rattle.mdcc_def_protocol.specs.Facts.{shown_of}
use Rattle.mdcc_facts.specs.Weights.{with_mark}
use Rattle.mdcc_facts.specs.Walks.{each_kept, rest_of}
use Rattle.mdcc_facts.proofs.Walking.{each-filter}
use Rattle.mdcc_facts.proofs.Weighing.{marks_counted}
use Rattle.mdcc_facts_kept.specs.Next.{IsRanked, marks_onward, next_shown, places_from}
use Rattle.mdcc_facts_kept.proofs.Ranks.{places-fall}
use Rattle.mdcc_facts_kept.proofs.Shown.{marks-from, shown-ascends}
use Rattle.mdcc_facts_kept.proofs.kept_facts.KeptFacts.count_shown.Goals as goal

pub loop-next-init : goal.loop-next-init
loop-next-init c facts kept =
    let shown = shown_of facts c.args.key.now c.args.version fast_ballot in
    ap (λ (m : Options). fold with_mark (0, 0) m)
    (ap (marks_onward shown) (c.next_shown-next.ensures facts kept)
    ∙ marks-from shown fast_ballot None (shown-ascends facts c.args.key.now c.args.version fast_ballot)
    ∙ each-filter shown)

pub loop-next-preserved : goal.loop-next-preserved
loop-next-preserved c facts kept =
    let shown = shown_of facts c.args.key.now c.args.version fast_ballot in
    let is : c.loop-next.next ≡ Some c.in-Some.mark = c.in-Some.is in
    let found : c.next_shown-next-in-Some.result ≡ next_shown facts c.args.key.now c.args.version fast_ballot (Some c.in-Some.mark.1) = c.next_shown-next-in-Some.ensures facts kept in
    let counts : c.with_mark-counts.result ≡ with_mark c.loop-next.counts (c.in-Some.mark.1, c.in-Some.mark.2) = c.with_mark-counts.ensures in
    ap (λ (m : Options). fold with_mark c.with_mark-counts.result m)
    (ap (marks_onward shown) found
    ∙ marks-from shown fast_ballot (Some c.in-Some.mark.1) (shown-ascends facts c.args.key.now c.args.version fast_ballot))
    ∙ ap (λ counts. fold with_mark counts (rest_of each_kept (Some c.in-Some.mark.1) shown)) counts
    ∙ sym (ap (λ next. fold with_mark c.loop-next.counts (marks_onward shown next)) is)
    ∙ c.loop-next.invariant facts kept

pub loop-next-smaller : goal.loop-next-smaller
loop-next-smaller c =
    let store = c.len-facts.ensures.store in
    let is : c.loop-next.next ≡ Some c.in-Some.mark = c.in-Some.is in
    let ranked : IsRanked c.in-Some.mark.1 = c.tx_is_ranked.ensures in
    let found : c.next_shown-next-in-Some.result ≡ next_shown store.facts c.args.key.now c.args.version fast_ballot (Some c.in-Some.mark.1) = c.next_shown-next-in-Some.ensures store.facts store.kept in
    subst (λ (next : Option (Ballot × TxId × Mark)). places_from c.next_shown-next-in-Some.result < places_from next) (sym is)
    (places-fall (shown_of store.facts c.args.key.now c.args.version fast_ballot) fast_ballot c.in-Some.mark c.next_shown-next-in-Some.result ranked found)

pub returns : goal.returns
returns c facts kept =
    let shown = shown_of facts c.args.key.now c.args.version fast_ballot in
    sym (ap (λ next. fold with_mark c.loop-next.counts (marks_onward shown next)) c.in_default.is)
    ∙ c.loop-next.invariant facts kept ∙ marks_counted shown
