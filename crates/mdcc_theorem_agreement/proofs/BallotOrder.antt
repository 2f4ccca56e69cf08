-- The order of ballots is total.
use Rattle.std.proofs.Common.{◌≡◌, ℕ, arith, ◌⊎◌}
use Rattle.mdcc_base.specs.declared.identifiers.Ballot.{Ballot}
use Rattle.mdcc_theorem_agreement.proofs.Ballots.{fast, Below}

pub Below-trans : (j k m : Ballot) → Below j k → Below k m → Below j m
Below-trans j k m a b = grind arith

pub Below-irrefl : (k : Ballot) → Below k k → ⊥
Below-irrefl k a = grind arith

pub Below-fast : (k : Ballot) → Below k fast → ⊥
Below-fast k a = grind arith

made : ℕ → ℕ → ℕ → Ballot
made r e c = record { round = r; epoch = e; centre = c }

same_made : (r e c r' e' c' : ℕ) → r ≡ r' → e ≡ e' → c ≡ c' → made r e c ≡ made r' e' c'
same_made r e c r' e' c' p q w = cc

pub same_ballot : (k m : Ballot) → k.round ≡ m.round → k.epoch ≡ m.epoch → k.centre ≡ m.centre → k ≡ m
unfolding made
same_ballot k m p q w = same_made k.round k.epoch k.centre m.round m.epoch m.centre p q w

pub Below-cases : (k m : Ballot) → Below k m ⊎ ((k ≡ m) ⊎ Below m k)
Below-cases k m = grind (arith, same_ballot k m)

pub Below-classic : (k m : Ballot) → Below k m → Below fast m
Below-classic k m a = grind arith
