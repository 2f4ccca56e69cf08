use Rattle.std.proofs.Common.{not, is_some, is_none, ap, ◌∙◌}
use Rattle.serde_json.specs.Find.{get_member}
use Rattle.serde_json.specs.View.{view, members_view}
use Rattle.serde_json.proofs.Views.{view-lookup}
use Rattle.mdcc_config.proofs.Missing.{is_some-map}
use Rattle.mdcc_config.proofs.names.is_missing.Goals as goal

pub returns : goal.returns
returns c =
    ap not (c.contains_key.ensures ∙ (is_some-map view _ ∙ ap is_some (view-lookup c.text.result.now c.args.members.now.entries)))
    ∙ ap (λ name. is_none (get_member name (members_view c.args.members.now.entries))) c.text.ensures
