use Rattle.std.proofs.Common.{option_map, sym, ap, ◌∙◌}
use Rattle.mdcc_option.specs.OneCopy.{shown}
use Rattle.mdcc_option.proofs.Stores.{store_of-entries}
use Rattle.mdcc_option.proofs.one_copy.OneCopy.held.Goals as goal

pub returns : goal.returns
returns c =
    c.shown_at.ensures
    ∙ ap (λ store. option_map shown (store c.args.key.now)) (sym (store_of-entries _ c.self.inside.items.entries c.self.view_is))
