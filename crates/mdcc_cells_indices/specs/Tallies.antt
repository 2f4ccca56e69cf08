-- What the votes of each instance come to, in numbers that each further vote changes.
use Rattle.std.specs.Prelude.{Bool, List, [], ◌∷◌, None, Option, Some, ◌&&◌, ◌+◌, ◌-◌, ◌==◌, ◌^◌, ◌||◌, ◌≡◌, ◌≤◌, false, get_or, if◌then◌else◌, is_some, length, min, nat_lt, not, true, ℕ}
use Rattle.mdcc_base.specs.Ballot.{ballot_eq, ballot_max, fast_ballot}
use Rattle.mdcc_base.specs.Key.{key_eq}
use Rattle.mdcc_base.specs.declared.identifiers.Ballot.{Ballot}
use Rattle.mdcc_base.specs.declared.identifiers.TxId.{TxId}
use Rattle.mdcc_base.specs.declared.key.Key.{Key}
use Rattle.mdcc_option.specs.declared.choices.Choice.{Choice}
use Rattle.mdcc_struct.specs.Maps.{value_of}
use Rattle.mdcc_struct.specs.Options.{accepts_in, rejects_in}
use Rattle.mdcc_struct.specs.declared.options.Options.{Options}
use Rattle.mdcc_def_messages.specs.declared.facts.Fact.{Fact}
use Rattle.mdcc_def_protocol.specs.Facts.{deltas_at, heard_of, last_vote, write_sets_of}
use Rattle.mdcc_def_protocol.specs.Plain.{plain_entries_at}
use Rattle.mdcc_cells_chains.specs.Keyed.{Keyed}
use Rattle.mdcc_cells_chains.specs.Keys.{instance_eq}
use Rattle.mdcc_cells_chains.specs.Walks.{first_in, walk}
use Rattle.mdcc_cells_indices.specs.Heard.{deltas_given}
use Rattle.mdcc_cells_indices.specs.declared.tallies.Tally.{Tally}

-- ---- what is stored

-- the instances of votes and adoptions, the newest first, and at the index of each its tally from that fact on
pub record Tallied : Type 0 where
  pub instances : Keyed (Key × ℕ)
  pub tallies : List Tally

-- each has a tally, and there is room for as many
pub record AreTallied (instances : Keyed (Key × ℕ)) (tallies : List Tally) (capacity : ℕ) : Type 0 where
  pub alike : length tallies ≡ length instances.keys
  pub capacity_for : instances.room ≤ capacity

abbrev pub no_tally : Tally
no_tally = record { accepts = 0; rejects = 0; bare = false; adopted = false; ballot = fast_ballot }

abbrev pub tally_indexed : List Tally → Option ℕ → Tally
tally_indexed tallies None = no_tally
tally_indexed tallies (Some index) = get_or tallies index no_tally

-- the tally of an instance
abbrev pub tally_in : Tallied → Key × ℕ → Tally
tally_in t instance = tally_indexed t.tallies (first_in (walk (instance_eq instance) t.instances.keys))

-- ---- one more vote

-- so many more, up to 2^32 - 1
abbrev pub limited : ℕ → ℕ → ℕ
limited count more = min (count + more) (2 ^ 32 - 1)

-- whether marks reject a transaction of which the vote has no choice: all but the one mark of a choice that is offered
abbrev pub is_bare : Options → Option Choice → Bool
is_bare options None = nat_lt 0 (length (rejects_in options))
is_bare options (Some choice) = nat_lt 0 (length (rejects_in options)) && not (length options == 1 && is_some (value_of options choice.tx))

-- the marks of a vote that count as entries
abbrev pub counted_at : Ballot → ℕ → ℕ
counted_at ballot count = if ballot_eq ballot fast_ballot then count else 0

abbrev pub with_vote : Tally → Ballot → Options → Option Choice → Tally
with_vote tally ballot options offered = record {
  accepts = limited tally.accepts (counted_at ballot (length (accepts_in options)));
  rejects = limited tally.rejects (counted_at ballot (length (rejects_in options)));
  bare = tally.bare || is_bare options offered;
  adopted = tally.adopted;
  ballot = ballot_max tally.ballot ballot;
}

-- ---- one more adoption

abbrev pub with_adopted : Tally → Tally
with_adopted tally = record { accepts = tally.accepts; rejects = tally.rejects; bare = tally.bare; adopted = true; ballot = tally.ballot }

-- ---- what it says of facts

-- the ballot of a vote in the instance; the fast one for any other fact
abbrev pub ballot_of_vote : Key → ℕ → Fact → Ballot
ballot_of_vote key version (Fact.Voted k v ballot options offered) = if v == version && key_eq k key then ballot else fast_ballot
ballot_of_vote key version _ = fast_ballot

-- the greatest ballot of the votes in the instance; the fast one where there is none
abbrev pub greatest_voted : List Fact → Key → ℕ → Ballot
greatest_voted [] key version = fast_ballot
greatest_voted (fact ∷ facts) key version = ballot_max (greatest_voted facts key version) (ballot_of_vote key version fact)

-- the delta of each transaction in the instance is that of its outcome
abbrev pub AreGivenByOutcomes : List Fact → Key → ℕ → Type 0
AreGivenByOutcomes facts key version = (tx : TxId) → value_of (deltas_at facts key version) tx ≡ value_of (deltas_given key version (heard_of facts tx)) tx

-- its counts are the entries, and its ballot is the greatest voted one. Where it is not bare, no transaction was voted in the instance of which no fact has a choice. Where nothing was adopted, each delta is that of an outcome
pub record IsTally (tally : Tally) (facts : List Fact) (key : Key) (version : ℕ) : Type 0 where
  pub entries : (tally.accepts, tally.rejects) ≡ plain_entries_at facts key version
  pub given : tally.adopted ≡ false → AreGivenByOutcomes facts key version
  pub ballot : tally.ballot ≡ greatest_voted facts key version
  pub known : tally.bare ≡ false → (tx : TxId) → value_of (write_sets_of facts) tx ≡ None → last_vote facts key version tx ≡ None

abbrev pub HoldsTallies : Tallied → List Fact → Type 0
HoldsTallies t facts = (key : Key) (version : ℕ) → IsTally (tally_in t (key, version)) facts key version
