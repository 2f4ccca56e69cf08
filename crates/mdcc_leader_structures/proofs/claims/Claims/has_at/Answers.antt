use Rattle.std.proofs.Common.{◌≡◌, ◌∙◌, None, ap, arith, false, sym}
use Rattle.std.specs.Prelude.{is_some, nat_lt}
use Rattle.std.proofs.lemmas.Bool.Decides.{nat_tests}
use Rattle.mdcc_struct.specs.Maps.{value_of}
use Rattle.mdcc_struct.proofs.Ordered.{place_of-within, value_of-past}
use Rattle.mdcc_leader_structures.proofs.Filled.{some_at}
use Rattle.mdcc_leader_structures.proofs.claims.Claims.has_at.Goals as goal

pub returns-then-place-len-clause-value : goal.returns-then-place-len-clause-value
returns-then-place-len-clause-value c =
    c.is.ensures ∙ sym (some_at c.args.self.now c.args.tx.now _ _ c.args.place c.len.ensures.ascending c.requires c.at.ensures)

pub returns-else-place-len-clause-value : goal.returns-else-place-len-clause-value
returns-else-place-len-clause-value c =
    let none : value_of c.args.self.now c.args.tx.now ≡ None =
    value_of-past c.args.self.now c.args.tx.now c.args.place c.len.ensures.ascending c.requires (omega (arith, place_of-within c.args.self.now c.args.tx.now))
    in
    let over : nat_lt c.args.place c.len.result ≡ false = grind (arith, nat_tests) in
    over ∙ sym (ap is_some none)
