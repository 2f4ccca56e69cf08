-- Ballots in their order.
use Rattle.std.specs.Prelude.{◌≡◌, ◌<◌, ◌⊎◌}
use Rattle.mdcc_base.specs.declared.identifiers.Ballot.{Ballot}

-- the fast ballot
abbrev pub fast : Ballot
fast = record { round = 0; epoch = 0; centre = 0 }

-- the order of ballots
abbrev pub Below : Ballot → Ballot → Type 0
Below k m =
    (k.round < m.round)
    ⊎ ((k.round ≡ m.round) × ((k.epoch < m.epoch) ⊎ ((k.epoch ≡ m.epoch) × (k.centre < m.centre))))
