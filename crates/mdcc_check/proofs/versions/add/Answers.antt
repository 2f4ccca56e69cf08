use Rattle.std.proofs.Common.{Some, is_some, true, ◌&&◌, ◌==◌, ◌≡◌}
use Rattle.mdcc_base.specs.Key.{key_eq}
use Rattle.mdcc_check.proofs.Kept.{added-there, on-ok, same-version}
use Rattle.mdcc_check.proofs.versions.add.Goals as goal
use Rattle.mdcc_check.specs.Versions.{version_at}

pub returns-in-Some : goal.returns-in-Some
returns-in-Some c other at =
    let there : Some c.in-Some.held.now ≡ version_at c.args.table.now c.args.key.now c.args.version = c.in-Some.ensures.value in
    let some : is_some (version_at c.args.table.now c.args.key.now c.args.version) ≡ true = rw (← there) in
    let updates = (c.get_mut.follows.holds c.add.new.self).3 some in
    on-ok c.add.result _ _
    (λ is. added-there (key_eq c.args.key.now other && c.args.version == at) (version_at c.args.table.now other at)
    (version_at (c.get_mut.follows.lender c.add.new.self) other at) c.args.delta c.in-Some.held.now c.add.new.self
    (same-version c.args.table.now c.args.key.now other c.args.version at c.in-Some.held.now there) is (updates.0 (record { key = other; version = at })))
    c.add.ensures
