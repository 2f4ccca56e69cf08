use Rattle.std.proofs.Common.{◌≡◌, ◌≤◌, arith, ap, length, subst, sym, ◌∙◌}
use Rattle.mdcc_base.specs.Unless.{GivesUnless}
use Rattle.mdcc_def_language.specs.Lines.{lines_in}
use Rattle.mdcc_check_histories.proofs.TextLaws.{text-judged}
use Rattle.mdcc_check_histories.proofs.TextVerdicts.{tallied-verdict}
use Rattle.mdcc_check_histories.specs.Tallies.{first_tally, is_memory, lines_tallied, verdict_on}
use Rattle.mdcc_check_histories.proofs.texts.check_text.Goals as goal

pub check_rest-requires : goal.check_rest-requires
check_rest-requires c = omega (arith, c.number.ensures, c.in_ok-schema.ensures.few, c.rest.ensures.few)

pub returns : goal.returns
returns c =
    let schema = c.in_ok-schema.schema in
    let unread = c.in_ok-schema.unread in
    let few : length c.args.text.now ≤ 67108864 = omega (arith, c.if-text-gt-MOST_BYTES.false) in
    let header = sym c.parse_header.ensures.value ∙ c.in_ok-schema.was in
    let same = ap (λ n. verdict_on (lines_tallied schema (first_tally n) (lines_in c.rest.result.now))) c.number.ensures
    ∙ ap (λ lines. verdict_on (lines_tallied schema (first_tally unread.number) lines)) c.rest.ensures.lines
    ∙ tallied-verdict schema unread.number unread.lines ∙ text-judged c.args.text.now (schema, unread) few header in
    subst (GivesUnless is_memory c.check_rest.result) same c.check_rest.ensures
