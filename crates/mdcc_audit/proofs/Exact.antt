-- A call that says when its arguments are equal answers as a test that decides it.
use Rattle.std.specs.Bool.{one_answer}
use Rattle.std.proofs.Common.{◌≡◌, ◌↔◌, Bool, IsTrue, Decides}

pub same-test : {P : Type 0} (result test : Bool) → (IsTrue result ↔ P) → Decides test P → result ≡ test
same-test result test says decides = one_answer result test says decides
