use Rattle.std.proofs.Common.{sym, ap, ◌∙◌}
use Rattle.std.specs.Map.{update_all}
use Rattle.mdcc_base.specs.Key.{key_eq}
use Rattle.mdcc_option.proofs.Stores.{store_after-done, store_after-refused}
use Rattle.mdcc_option.proofs.one_copy.apply_to.Goals as goal

pub returns-in-Some-clause-ok : goal.returns-in-Some-clause-ok
returns-in-Some-clause-ok c = sym (store_after-refused c.args.schema.now _ c.args.choices.now c.in-Some.key (sym c.in-Some.ensures))

pub returns-clause-ok : goal.returns-clause-ok
returns-clause-ok c =
    c.put_all.ensures
    ∙ ap (λ before. update_all key_eq before c.in_ok-list.list.items) (λ i key. c.in_ok-try_reserve.ensures.entries.2 key i)
    ∙ c.in_ok-list.ensures
    ∙ sym (store_after-done c.args.schema.now _ c.args.choices.now (sym c.in_default.ensures))
