use Rattle.std.proofs.Common.{◌≡◌, [], List, ℕ, sym, subst, rules}
use Rattle.mdcc_log.specs.Reading.{AreaIs}
use Rattle.mdcc_log.proofs.Stands.{fresh_stands}
use Rattle.mdcc_log.proofs.opening.read_area.Goals as goal

pub returns-then-bytes-le9-clause-read : goal.returns-then-bytes-le9-clause-read
returns-then-bytes-le9-clause-read c =
    let none : c.new.result.items ≡ [] = search rules in
    subst (λ (l : List (List ℕ)). AreaIs 0 l 8 0 8 c.args.bytes.now) (sym none) (fresh_stands c.args.bytes.now c.if-bytes-le9.true)
