use Rattle.std.proofs.Common.{◌≡◌, ◌==◌, position, Some, None, sym, ◌∙◌, rules}
use Rattle.mdcc_link.specs.declared.stored.Pending.{Pending}
use Rattle.mdcc_link.proofs.Firsts.{found_first, left_first, none_first}
use Rattle.mdcc_link.proofs.stored.take_first.Goals as goal

pub returns-in-Some-clause-first : goal.returns-in-Some-clause-first
returns-in-Some-clause-first c =
    let is : position (λ (p : Pending). p.at == c.args.at) c.args.queue.now.items ≡ Some c.in-Some.index = search rules in
    sym (found_first (λ (p : Pending). p.at == c.args.at) c.args.queue.now.items c.in-Some.index c.remove.result is c.remove.ensures.value)

pub returns-in-Some-clause-left : goal.returns-in-Some-clause-left
returns-in-Some-clause-left c =
    let is : position (λ (p : Pending). p.at == c.args.at) c.args.queue.now.items ≡ Some c.in-Some.index = search rules in
    c.remove.ensures.items ∙ left_first (λ (p : Pending). p.at == c.args.at) c.args.queue.now.items c.in-Some.index is

pub returns-in-None-clause-first : goal.returns-in-None-clause-first
returns-in-None-clause-first c =
    let is : position (λ (p : Pending). p.at == c.args.at) c.args.queue.now.items ≡ None = search rules in
    sym (none_first (λ (p : Pending). p.at == c.args.at) c.args.queue.now.items is).0

pub returns-in-None-clause-left : goal.returns-in-None-clause-left
returns-in-None-clause-left c =
    let is : position (λ (p : Pending). p.at == c.args.at) c.args.queue.now.items ≡ None = search rules in
    sym (none_first (λ (p : Pending). p.at == c.args.at) c.args.queue.now.items is).1
