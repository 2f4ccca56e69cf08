-- What of an allowed ledger lasts, and in what order its structures stand.
use Rattle.std.specs.Prelude.{List, Some, false, true, ℕ, ◌-◌, ◌^◌, if◌then◌else◌, [], ◌≡◌, ◌≤◌, ◌⊎◌}
use Rattle.mdcc_base.specs.Ballot.{ballot_lt, is_fast}
use Rattle.mdcc_base.specs.declared.identifiers.Ballot.{Ballot}
use Rattle.mdcc_base.specs.declared.identifiers.TxId.{TxId}
use Rattle.mdcc_base.specs.declared.key.Key.{Key}
use Rattle.mdcc_option.specs.declared.choices.Mark.{Mark}
use Rattle.mdcc_option.specs.declared.cluster.Cluster.{Cluster}
use Rattle.mdcc_struct.specs.Maps.{value_of}
use Rattle.mdcc_struct.specs.declared.options.Options.{Options}
use Rattle.mdcc_struct.specs.declared.report.Report.{Report}
use Rattle.mdcc_def_messages.specs.declared.facts.Fact.{Fact}
use Rattle.mdcc_def_ledger.specs.AllowedLedgers.{IsAllowed, is_valued}
use Rattle.mdcc_def_protocol.specs.Facts.{current_of, last_ballot, promise_of, votes_of}
use Rattle.mdcc_def_ledger.specs.Ledger.{Entry, facts_of}
use Rattle.mdcc_theorem_trace_states.specs.Words.{IsTail}

-- each mark of the first structure stands in the second
abbrev pub HasEachMark : Options → Options → Type 0
HasEachMark less more = (t : TxId) (x : Mark) → value_of less t ≡ Some x → value_of more t ≡ Some x

-- the greatest ballot below another one at which a centre voted, and all that it voted there, shown or forgotten
abbrev pub last_report : List Fact → Key → ℕ → Ballot → Report
last_report facts key version below =
    let ballot = last_ballot facts key version below in
    record { centre = 0; ballot = ballot; votes = if is_fast below then [] else votes_of facts key version ballot }

-- a promise bars votes below its ballot: what the centre voted there stays what it was when it promised
abbrev pub ReportsLast : Type 0
ReportsLast =
    (cluster : Cluster) (old es : List Entry) (a : ℕ) (key : Key) (version : ℕ) (ballot : Ballot)
    → IsAllowed cluster es → IsTail old es
    → ballot_lt (promise_of (facts_of old a) key version) ballot ≡ false
    → (last_report (facts_of es a) key version ballot ≡ last_report (facts_of old a) key version ballot)
    × (ballot_lt (promise_of (facts_of es a) key version) ballot ≡ false)

-- of two structures that were sent for one instance at one ballot, one extends the other
abbrev pub StructuresAreChains : Type 0
StructuresAreChains =
    (cluster : Cluster) (es : List Entry) (key : Key) (version : ℕ) (ballot : Ballot) (xs ys : Options)
    → IsAllowed cluster es → is_valued es key version ballot xs ≡ true → is_valued es key version ballot ys ≡ true
    → HasEachMark xs ys ⊎ HasEachMark ys xs

-- no centre holds a version above 2^64 - 1
abbrev pub VersionsEnd : Type 0
VersionsEnd = (cluster : Cluster) (es : List Entry) (a : ℕ) (key : Key) → IsAllowed cluster es → current_of (facts_of es a) key ≤ 2 ^ 64 - 1
