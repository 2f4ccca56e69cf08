-- What facts say something of: a transaction, or one of its options.
use Rattle.std.specs.Prelude.{Bool, [], false, true, ℕ, ◌&&◌, ◌==◌, ◌∷◌}
use Rattle.std.specs.Bool.{beq}
use Rattle.mdcc_base.specs.Ballot.{ballot_eq, fast_ballot}
use Rattle.mdcc_base.specs.Key.{key_eq}
use Rattle.mdcc_base.specs.TxId.{tx_eq}
use Rattle.mdcc_base.specs.declared.identifiers.Ballot.{Ballot}
use Rattle.mdcc_base.specs.declared.identifiers.TxId.{TxId}
use Rattle.mdcc_base.specs.declared.key.Key.{Key}
use Rattle.mdcc_audit.specs.declared.subjects.Subject.{Subject}

-- an option in an instance at a ballot
abbrev pub in_vote : TxId → Key → ℕ → Ballot → Subject
in_vote tx key version ballot = record { tx = tx; whole = false; key = key; version = version; ballot = ballot }

-- an option in an instance
abbrev pub at_instance : TxId → Key → ℕ → Subject
at_instance tx key version = in_vote tx key version fast_ballot

-- an option for a key
abbrev pub of_key : TxId → Key → Subject
of_key tx key = at_instance tx key 0

-- a transaction; the key `-` stands for none
abbrev pub of_tx : TxId → Subject
of_tx tx = record { tx = tx; whole = true; key = 45 ∷ []; version = 0; ballot = fast_ballot }

-- whether they are one
abbrev pub subject_eq : Subject → Subject → Bool
subject_eq a b =
    tx_eq a.tx b.tx && (beq a.whole b.whole && (key_eq a.key b.key && (a.version == b.version && ballot_eq a.ballot b.ballot)))
