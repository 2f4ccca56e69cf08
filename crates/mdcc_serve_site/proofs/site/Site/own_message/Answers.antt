use Rattle.std.proofs.Common.{◌≡◌, ◌∙◌, refl, subst, sym}
use Rattle.mdcc_def_rules.specs.declared.node.Input.{Input}
use Rattle.mdcc_def_server_runs.specs.Sites.{Doing}
use Rattle.mdcc_def_server_runs.specs.Steps.{dropped, input_taken}
use Rattle.mdcc_def_server_runs.specs.Turns.{own_message}
use Rattle.mdcc_serve_site.proofs.Becoming.{drops}
use Rattle.mdcc_serve_site.specs.SiteState.{Becomes, Makes}
use Rattle.mdcc_serve_site.proofs.site.Site.own_message.Goals as goal

pub returns-then-is_not_taken : goal.returns-then-is_not_taken
returns-then-is_not_taken c config site stands =
    let e : own_message config site c.args.envelope.now ≡ dropped site = rw (sym c.is_not_taken.ensures ∙ c.if-is_not_taken.true) refl in
    subst (λ (d : Doing). Makes config.cluster site d c.args.self.now c.drop_one.new.self) (sym e)
    (drops config.cluster site c.args.self.now c.drop_one.new.self c.drop_one.ensures stands)

pub returns : goal.returns
returns c config site stands =
    let e : own_message config site c.args.envelope.now ≡ input_taken config site (Input.Message c.args.envelope.now) = rw (sym c.is_not_taken.ensures ∙ c.if-is_not_taken.false) refl in
    subst (λ (d : Doing). Becomes config.cluster site d c.take_message.result c.args.self.now c.take_message.new.self) (sym e)
    (c.take_message.ensures config site stands)
