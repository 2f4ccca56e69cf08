-- The reduced facts of one centre, the newest first, and what they say.
use Rattle.std.specs.Prelude.{◌≡◌, ℕ, ◌≤◌, ◌⊎◌, Bool, false, cond, suc, max, ◌&&◌, ◌||◌, ◌==◌, nat_le, nat_lt, List, [], ◌∷◌, ◌++◌, Option, Some, None}
use Rattle.mdcc_base.specs.Ballot.{ballot_lt, ballot_eq}
use Rattle.mdcc_base.specs.Key.{key_eq}
use Rattle.mdcc_base.specs.declared.identifiers.Ballot.{Ballot}
use Rattle.mdcc_base.specs.declared.identifiers.TxId.{TxId}
use Rattle.mdcc_base.specs.declared.key.Key.{Key}
use Rattle.mdcc_option.specs.declared.choices.Choice.{Choice}
use Rattle.mdcc_option.specs.declared.choices.Mark.{Mark}
use Rattle.mdcc_option.specs.declared.choices.Mark.TheVariants.{Accept}
use Rattle.mdcc_option.specs.declared.choices.Outcome.{Outcome}
use Rattle.mdcc_option.specs.declared.choices.Outcome.TheVariants.{Commit, Abort}
use Rattle.mdcc_option.specs.declared.items.Item.{Item}
use Rattle.mdcc_option.specs.declared.items.Update.{Update}
use Rattle.mdcc_option.specs.declared.items.Update.TheVariants.{Write, Add}
use Rattle.mdcc_def_protocol.specs.Marks.{Amounts}
use Rattle.mdcc_theorem_agreement.proofs.Ballots.{fast}
use Rattle.mdcc_theorem_agreement.proofs.ReducedOptions.{Place, place_eq, spot, mark_of}

pub data ReducedFact : Type 0 where
  Booted : (epoch : ℕ) → ReducedFact
  Promised : (key : Key) (low high : ℕ) (ballot : Ballot) → ReducedFact
  Voted : (place : Place) (ballot : Ballot) (marks : List (TxId × Mark)) → ReducedFact
  Heard : (tx : TxId) (outcome : Outcome) → ReducedFact
  Adopted : (key : Key) (version : ℕ) (base : Item) (deltas : List (TxId × Amounts)) → ReducedFact
  Floor : (origin era upto : ℕ) → ReducedFact

abbrev pub greater : Ballot → Ballot → Ballot
greater k m = cond (ballot_lt k m) m k

-- what one fact promises at an instance
abbrev pub promised_by : ReducedFact → Place → Ballot
promised_by (Booted e) i = fast
promised_by (Floor origin era upto) i = fast
promised_by (Promised key low high m) i = cond (key_eq key i.key && (nat_le low i.version && nat_le i.version high)) m fast
promised_by (Voted j k marks) i = cond (place_eq j i) k fast
promised_by (Heard t o) i = fast
promised_by (Adopted key version base deltas) i = fast

-- the promise
abbrev pub promise : List ReducedFact → Place → Ballot
promise [] i = fast
promise (f ∷ fs) i = greater (promised_by f i) (promise fs i)

-- the marks of one fact
abbrev pub marks_at : ReducedFact → Place → Ballot → List (TxId × Mark)
marks_at (Voted j l marks) i k = cond (place_eq j i && ballot_eq l k) marks []
marks_at (Booted e) i k = []
marks_at (Floor origin era upto) i k = []
marks_at (Promised key low high m) i k = []
marks_at (Heard t o) i k = []
marks_at (Adopted key version base deltas) i k = []

-- the votes at a ballot, in the order in which they were given
abbrev pub votes : List ReducedFact → Place → Ballot → List (TxId × Mark)
votes [] i k = []
votes (f ∷ fs) i k = votes fs i k ++ marks_at f i k

-- a ballot of a vote below m
abbrev pub voted_by : ReducedFact → Place → Ballot → Ballot
voted_by (Voted j l marks) i m = cond (place_eq j i && ballot_lt l m) l fast
voted_by (Booted e) i m = fast
voted_by (Floor origin era upto) i m = fast
voted_by (Promised key low high l) i m = fast
voted_by (Heard t o) i m = fast
voted_by (Adopted key version base deltas) i m = fast

-- the greatest ballot below m with a vote
abbrev pub voted_below : List ReducedFact → Place → Ballot → Ballot
voted_below [] i m = fast
voted_below (f ∷ fs) i m = greater (voted_by f i m) (voted_below fs i m)

-- a Promised fact with this ballot whose range holds the instance
abbrev pub HasPromised : List ReducedFact → Place → Ballot → Type 0
HasPromised [] i m = ⊥
HasPromised (Promised key low high l ∷ fs) i m =
    ((key ≡ i.key) × (low ≤ i.version) × (i.version ≤ high) × (l ≡ m)) ⊎ HasPromised fs i m
HasPromised (Booted e ∷ fs) i m = HasPromised fs i m
HasPromised (Floor origin era upto ∷ fs) i m = HasPromised fs i m
HasPromised (Voted j l marks ∷ fs) i m = HasPromised fs i m
HasPromised (Heard t o ∷ fs) i m = HasPromised fs i m
HasPromised (Adopted key version base deltas ∷ fs) i m = HasPromised fs i m

abbrev pub amounts_of : TxId → Update → List (TxId × Amounts)
amounts_of t (Write b s) = []
amounts_of t (Add m) = (t, m) ∷ []

-- the deltas of these choices at the instance
abbrev pub adds_at : List Choice → Place → List (TxId × Amounts)
adds_at [] i = []
adds_at (c ∷ cs) i = cond (place_eq (spot c) i) (amounts_of c.tx c.update) [] ++ adds_at cs i

-- the deltas at the instance that one fact executes
abbrev pub executed_by : ReducedFact → Place → List (TxId × Amounts)
executed_by (Heard t (Commit cs)) i = adds_at cs i
executed_by (Heard t Abort) i = []
executed_by (Adopted key version base deltas) i = cond (key_eq key i.key && (version == i.version)) deltas []
executed_by (Booted e) i = []
executed_by (Floor origin era upto) i = []
executed_by (Promised key low high l) i = []
executed_by (Voted j l marks) i = []

abbrev pub executed : List ReducedFact → Place → List (TxId × Amounts)
executed [] i = []
executed (f ∷ fs) i = executed_by f i ++ executed fs i

-- the version that the Write on the key among these gives
abbrev pub raised_to : Update → ℕ → ℕ
raised_to (Write b s) version = suc version
raised_to (Add m) version = 0

abbrev pub raised : List Choice → Key → ℕ
raised [] key = 0
raised (c ∷ cs) key = cond (key_eq c.key key) (raised_to c.update c.version) (raised cs key)

abbrev pub current_by : ReducedFact → Key → ℕ
current_by (Heard t (Commit cs)) key = raised cs key
current_by (Heard t Abort) key = 0
current_by (Adopted k version base deltas) key = cond (key_eq k key) version 0
current_by (Booted e) key = 0
current_by (Floor origin era upto) key = 0
current_by (Promised k low high l) key = 0
current_by (Voted j l marks) key = 0

-- the version that is held
abbrev pub current : List ReducedFact → Key → ℕ
current [] key = 0
current (f ∷ fs) key = max (current_by f key) (current fs key)

-- an accepted vote at the instance, of any ballot
abbrev pub IsAcceptedVote : List ReducedFact → Place → Choice → Type 0
IsAcceptedVote fs i d = (k : Ballot) × (mark_of d.tx (votes fs i k) ≡ Some (Accept d))

-- a transaction was heard
abbrev pub HasHeard : List ReducedFact → TxId → Type 0
HasHeard [] t = ⊥
HasHeard (Heard u o ∷ fs) t = (u ≡ t) ⊎ HasHeard fs t
HasHeard (Booted e ∷ fs) t = HasHeard fs t
HasHeard (Floor origin era upto ∷ fs) t = HasHeard fs t
HasHeard (Promised key low high m ∷ fs) t = HasHeard fs t
HasHeard (Voted j l marks ∷ fs) t = HasHeard fs t
HasHeard (Adopted key version base deltas ∷ fs) t = HasHeard fs t

-- a transaction is finished here: all have heard it
abbrev pub finished : List ReducedFact → TxId → Bool
finished [] t = false
finished (Floor origin era upto ∷ fs) t =
    ((origin == t.centre) && ((era == t.epoch) && (nat_lt 0 t.seq && nat_le t.seq upto))) || finished fs t
finished (Booted e ∷ fs) t = finished fs t
finished (Promised key low high m ∷ fs) t = finished fs t
finished (Voted j l marks ∷ fs) t = finished fs t
finished (Heard u o ∷ fs) t = finished fs t
finished (Adopted key version base deltas ∷ fs) t = finished fs t

-- a mark that is no longer shown
abbrev pub forgotten : List ReducedFact → Place → TxId → Bool
forgotten fs i t = finished fs t && nat_lt i.version (current fs i.key)

abbrev pub without_forgotten : List ReducedFact → Place → List (TxId × Mark) → List (TxId × Mark)
without_forgotten fs i [] = []
without_forgotten fs i (p ∷ ps) = cond (forgotten fs i p.0) (without_forgotten fs i ps) (p ∷ without_forgotten fs i ps)

abbrev pub shown : List ReducedFact → Place → Ballot → List (TxId × Mark)
shown fs i k = without_forgotten fs i (votes fs i k)

pub record ReducedReport : Type 0 where
  pub ballot : Ballot
  pub marks : List (TxId × Mark)

abbrev pub report : List ReducedFact → Place → Ballot → ReducedReport
report fs i m = record { ballot = voted_below fs i m; marks = shown fs i (voted_below fs i m) }

abbrev pub body_of : Update → Option Item
body_of (Write b s) = Some b
body_of (Add m) = None

-- the item that is held: that of the first fact that gave the version held
abbrev pub written : List Choice → Key → Option Item
written [] key = None
written (c ∷ cs) key = cond (key_eq c.key key) (body_of c.update) (written cs key)

abbrev pub base_by : ReducedFact → Key → Option Item
base_by (Heard t (Commit cs)) key = written cs key
base_by (Heard t Abort) key = None
base_by (Adopted k version b ds) key = Some b
base_by (Booted e) key = None
base_by (Floor origin era upto) key = None
base_by (Promised k low high l) key = None
base_by (Voted j l marks) key = None

abbrev pub base : List ReducedFact → Key → Option Item
base [] key = None
base (f ∷ fs) key = cond (nat_lt (current fs key) (current_by f key)) (base_by f key) (base fs key)

-- what is limited: how much an update takes of it, and how much of it an item has
pub record Quantity : Type 0 where
  pub amount : Update → ℕ
  pub room : Option Item → ℕ
