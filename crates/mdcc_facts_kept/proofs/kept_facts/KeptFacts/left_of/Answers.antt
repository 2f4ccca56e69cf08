use Rattle.std.proofs.Common.{◌≡◌, Some, ap, false, sym, true, ◌∙◌}
use Rattle.std.specs.Prelude.{if◌then◌else◌}
use Rattle.mdcc_facts_kept.specs.Kept.{left_by}
use Rattle.mdcc_facts_kept.specs.declared.forgotten.Left.{Left}
use Rattle.mdcc_given_back.specs.Counted.{without_floors}
use Rattle.mdcc_facts_kept.proofs.WhatIsLeft.{idle-there, no-floor-there}
use Rattle.mdcc_facts_kept.proofs.kept_facts.KeptFacts.left_of.Goals as goal

pub returns-in-Heard : goal.returns-in-Heard
returns-in-Heard c facts kept number seen =
    c.dropped_if-in-Heard.ensures
    ∙ ap (λ b. if b then Left.Dropped else Left.Whole)
    (c.is_idle.ensures facts kept ∙ idle-there c.args.self.now facts kept number c.in-Heard.tx c.in-Heard.outcome (seen ∙ ap (λ f. Some f) c.in-Heard.is))
    ∙ ap (left_by facts) (sym c.in-Heard.is)

pub returns-in-Floor : goal.returns-in-Floor
returns-in-Floor c facts kept number seen =
    absurd
    (let bad : true ≡ false =
    no-floor-there (without_floors kept.rest) number c.in-Floor.centre c.in-Floor.epoch c.in-Floor.seq kept.inner.added.no_floor (seen ∙ ap (λ f. Some f) c.in-Floor.is) in
    cc)
