use Rattle.std.proofs.Common.{refl, ◌∙◌}
use Rattle.mdcc_option.proofs.Stores.{store_of-from_entries}
use Rattle.mdcc_option.proofs.one_copy.OneCopy.new.Goals as goal

pub returns : goal.returns
returns c = store_of-from_entries c.new.result.entries ∙ rw c.new.ensures.empty refl
