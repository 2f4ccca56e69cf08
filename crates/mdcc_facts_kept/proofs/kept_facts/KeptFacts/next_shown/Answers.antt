use Rattle.std.proofs.Common.{◌≡◌, ◌<◌, false, true, Option, Some, ap, subst, sym, ◌∙◌}
use Rattle.std.specs.Option.{option_map}
use Rattle.std.specs.Prelude.{find, if◌then◌else◌}
use Rattle.mdcc_base.specs.declared.identifiers.Ballot.{Ballot}
use Rattle.mdcc_base.specs.declared.identifiers.TxId.{TxId}
use Rattle.mdcc_option.specs.declared.choices.Mark.{Mark}
use Rattle.mdcc_def_protocol.specs.Facts.{is_forgotten, votes_of}
use Rattle.mdcc_def_protocol.specs.Stores.{is_above}
use Rattle.mdcc_given_back.specs.Counted.{without_floors}
use Rattle.mdcc_facts_kept.specs.Next.{IsRanked, next_shown, places_from, shown_from}
use Rattle.mdcc_facts_kept.proofs.Ranks.{places-fall}
use Rattle.mdcc_facts_kept.proofs.Shown.{next-asked}
use Rattle.mdcc_facts_kept.proofs.kept_facts.KeptFacts.next_shown.Goals as goal

pub loop-next-init : goal.loop-next-init
loop-next-init c facts kept =
    next-asked c.args.self.now facts kept c.args.key.now c.args.version c.args.ballot c.args.last
    ∙ ap (shown_from facts c.args.key.now c.args.version c.args.ballot) (sym (c.next_mark-next.ensures (without_floors kept.rest) (c.rest.ensures.rest facts kept)))

pub returns-then-not-is_forgotten : goal.returns-then-not-is_forgotten
returns-then-not-is_forgotten c facts kept =
    let is : c.loop-next.next ≡ Some c.in-Some.mark = c.in-Some.is in
    let shown : is_forgotten facts c.args.key.now c.args.version c.in-Some.mark.1 ≡ false = sym (c.is_forgotten.ensures facts kept) ∙ c.if-not-is_forgotten.true in
    sym
    (c.loop-next.invariant facts kept
    ∙ ap (shown_from facts c.args.key.now c.args.version c.args.ballot) is
    ∙ ap (λ b. if b then next_shown facts c.args.key.now c.args.version c.args.ballot (Some c.in-Some.mark.1) else Some c.in-Some.mark)
    shown)

pub loop-next-smaller : goal.loop-next-smaller
loop-next-smaller c =
    let store = c.len-facts.ensures.store in
    let is : c.loop-next.next ≡ Some c.in-Some.mark = c.in-Some.is in
    let ranked : IsRanked c.in-Some.mark.1 = c.tx_is_ranked.ensures in
    let found : c.next_mark-next-in-Some.result ≡ option_map (λ (e : TxId × Mark). (c.args.ballot, e.0, e.1)) (find (λ e. is_above (Some c.in-Some.mark.1) e.0) (votes_of (without_floors store.kept.rest) c.args.key.now c.args.version c.args.ballot)) =
    c.next_mark-next-in-Some.ensures (without_floors store.kept.rest) (c.rest-in-Some.ensures.rest store.facts store.kept) in
    subst (λ (next : Option (Ballot × TxId × Mark)). places_from c.next_mark-next-in-Some.result < places_from next) (sym is)
    (places-fall (votes_of (without_floors store.kept.rest) c.args.key.now c.args.version c.args.ballot) c.args.ballot c.in-Some.mark c.next_mark-next-in-Some.result
    ranked found)

pub loop-next-preserved : goal.loop-next-preserved
loop-next-preserved c facts kept =
    let is : c.loop-next.next ≡ Some c.in-Some.mark = c.in-Some.is in
    let gone : is_forgotten facts c.args.key.now c.args.version c.in-Some.mark.1 ≡ true = sym (c.is_forgotten.ensures facts kept) ∙ c.if-not-is_forgotten.false in
    let found : c.next_mark-next-in-Some.result ≡ option_map (λ (e : TxId × Mark). (c.args.ballot, e.0, e.1)) (find (λ e. is_above (Some c.in-Some.mark.1) e.0) (votes_of (without_floors kept.rest) c.args.key.now c.args.version c.args.ballot)) =
    c.next_mark-next-in-Some.ensures (without_floors kept.rest) (c.rest-in-Some.ensures.rest facts kept) in
    c.loop-next.invariant facts kept
    ∙ ap (shown_from facts c.args.key.now c.args.version c.args.ballot) is
    ∙ ap (λ b. if b then next_shown facts c.args.key.now c.args.version c.args.ballot (Some c.in-Some.mark.1) else Some c.in-Some.mark)
    gone
    ∙ next-asked c.args.self.now facts kept c.args.key.now c.args.version c.args.ballot (Some c.in-Some.mark.1)
    ∙ ap (shown_from facts c.args.key.now c.args.version c.args.ballot) (sym found)

pub returns : goal.returns
returns c facts kept = sym (c.loop-next.invariant facts kept ∙ ap (shown_from facts c.args.key.now c.args.version c.args.ballot) c.in_default.is)
