-- What is left of the facts of a centre once those of which nothing is asked any more are given back.
use Rattle.std.specs.List.{list_all}
use Rattle.std.specs.Prelude.{◌≡◌, Bool, List, None, [], false, if◌then◌else◌, nat_lt, not, true, ⊤, ℕ, ◌&&◌, ◌∷◌, ◌⊎◌}
use Rattle.mdcc_base.specs.Ballot.{is_fast}
use Rattle.mdcc_base.specs.declared.identifiers.Ballot.{Ballot}
use Rattle.mdcc_base.specs.declared.key.Key.{Key}
use Rattle.mdcc_struct.specs.declared.options.Options.{Options}
use Rattle.mdcc_def_messages.specs.Lengths.{cells_needed}
use Rattle.mdcc_def_messages.specs.declared.facts.Fact.{Fact}
use Rattle.mdcc_def_protocol.specs.Cells.{cells_left}
use Rattle.mdcc_def_protocol.specs.Facts.{current_of, epoch_of, floor_of, is_forgotten, is_idle, last_ballot, promise_of, promised_through}

-- whether all marks that a vote has are forgotten
abbrev pub is_vote_past : List Fact → Key → ℕ → Options → Bool
is_vote_past all key version options = list_all (λ e. is_forgotten all key version e.0) options

-- whether nothing is asked of a fact any more, by all facts of the centre
abbrev pub is_dropped : List Fact → Fact → Bool
is_dropped all (Fact.Voted key version ballot options offered) = is_vote_past all key version options && is_fast ballot
is_dropped all (Fact.Adopted key version item adds) = nat_lt version (current_of all key)
is_dropped all (Fact.Floor centre epoch seq) = nat_lt seq (floor_of all centre epoch)
is_dropped all (Fact.Heard tx outcome) = is_idle all tx
is_dropped all fact = false

-- whether only its ballot is
abbrev pub is_bared : List Fact → Fact → Bool
is_bared all (Fact.Voted key version ballot options offered) = is_vote_past all key version options && not (is_fast ballot)
is_bared all fact = false

-- a vote without its marks, which lies in one cell
abbrev pub bare : Fact → Fact
bare (Fact.Voted key version ballot options offered) = Fact.Voted key version ballot [] None
bare fact = fact

-- a fact is left as it is, or as a vote without marks
abbrev pub IsLeft : List Fact → Fact → Fact → Type 0
IsLeft all fact left = (left ≡ fact) ⊎ ((is_bared all fact ≡ true) × (left ≡ bare fact))

-- some of these facts are given back, all of which the centre has. Those that are left stand in their order
abbrev pub AreRest : List Fact → List Fact → List Fact → Type 0
AreRest all [] [] = ⊤
AreRest all (left ∷ rest) [] = ⊥
AreRest all [] (fact ∷ facts) = (is_dropped all fact ≡ true) × AreRest all [] facts
AreRest all (left ∷ rest) (fact ∷ facts) =
    ((is_dropped all fact ≡ true) × AreRest all (left ∷ rest) facts) ⊎ (IsLeft all fact left × AreRest all rest facts)

abbrev pub IsRest : List Fact → List Fact → Type 0
IsRest rest facts = AreRest facts rest facts

-- ---- the cells that are left

-- a fact of which nothing is asked holds no cell, and a vote of which only the ballot is asked holds one
abbrev pub CellsAreLeft : Type 0
CellsAreLeft =
    (all : List Fact) (fact : Fact)
    → cells_left all fact ≡ (if is_dropped all fact then 0 else (if is_bared all fact then 1 else cells_needed fact))

-- ---- what is asked of the rest

abbrev pub PromiseStays : Type 0
PromiseStays = (rest facts : List Fact) (key : Key) (version : ℕ) → IsRest rest facts → promise_of rest key version ≡ promise_of facts key version

abbrev pub RangeStays : Type 0
RangeStays =
    (rest facts : List Fact) (key : Key) (version : ℕ) (ballot : Ballot)
    → IsRest rest facts → promised_through rest key version ballot ≡ promised_through facts key version ballot

abbrev pub BallotStays : Type 0
BallotStays =
    (rest facts : List Fact) (key : Key) (version : ℕ) (below : Ballot)
    → IsRest rest facts → last_ballot rest key version below ≡ last_ballot facts key version below

abbrev pub EpochStays : Type 0
EpochStays = (rest facts : List Fact) → IsRest rest facts → epoch_of rest ≡ epoch_of facts
