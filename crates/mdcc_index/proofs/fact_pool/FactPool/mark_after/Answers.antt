use Rattle.std.proofs.Common.{◌≡◌, [], false, sym, ap, ◌∙◌, option_map}
use Rattle.std.specs.Prelude.{find, if◌then◌else◌}
use Rattle.mdcc_base.specs.Ballot.{is_fast}
use Rattle.mdcc_def_protocol.specs.Facts.{last_ballot, votes_of}
use Rattle.mdcc_def_protocol.specs.Stores.{is_above}
use Rattle.mdcc_index.specs.Marks.{next_voted}
use Rattle.mdcc_index.proofs.fact_pool.FactPool.mark_after.Goals as goal

pub returns-else-is : goal.returns-else-is
returns-else-is c facts kept =
    let key = c.args.key.now in
    let version = c.args.version in
    let ballot = last_ballot facts key version c.args.below in
    let slow : is_fast c.args.below ≡ false = sym c.is.ensures ∙ c.if-is.false in
    c.next_mark.ensures facts kept
    ∙ ap (λ b. next_voted facts key version b c.args.last) (c.voted_below.ensures facts kept)
    ∙ sym (ap (λ fast. option_map (λ e. (ballot, e.0, e.1)) (find (λ e. is_above c.args.last e.0) (if fast then [] else votes_of facts key version ballot))) slow)
