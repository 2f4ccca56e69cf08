use Rattle.mdcc_option.proofs.Stores.{store_of-from_entries, store_of-entries}
use Rattle.mdcc_option.proofs.one_copy.OneCopy.apply.Goals as goal

pub returns-clause-answer : goal.returns-clause-answer
returns-clause-answer c =
    rw (store_of-entries c.args.self.now c.self.inside.items.entries c.self.view_is, ← c.bounds.ensures.value) c.apply_to.ensures.answer

pub returns-clause-ok : goal.returns-clause-ok
returns-clause-ok c =
    rw (store_of-from_entries c.apply_to.new.items.entries, store_of-entries c.args.self.now c.self.inside.items.entries c.self.view_is, ← c.bounds.ensures.value)
    c.apply_to.ensures.ok
