-- The reduced ledger, the newest entry first, and which ones are allowed: just what the laws need of the definitions. AllowedReduced leads from those to this.
use Rattle.std.specs.Prelude.{◌≡◌, ℕ, suc, ◌+◌, ◌-◌, ◌*◌, ◌-ℤ◌, ℤ, pos, length, get_or, ◌<◌, ◌≤◌, ◌==◌, ◌&&◌, Bool, true, false, cond, ◌⊎◌, List, [], ◌∷◌, Option, Some, None}
use Rattle.mdcc_base.specs.Ballot.{ballot_eq}
use Rattle.mdcc_base.specs.declared.identifiers.Ballot.{Ballot}
use Rattle.mdcc_base.specs.declared.identifiers.TxId.{TxId}
use Rattle.mdcc_base.specs.declared.key.Key.{Key}
use Rattle.mdcc_option.specs.OneCopy.{amount_at}
use Rattle.mdcc_option.specs.declared.choices.Choice.{Choice}
use Rattle.mdcc_option.specs.declared.choices.Mark.{Mark}
use Rattle.mdcc_option.specs.declared.choices.Mark.TheVariants.{Accept, Reject}
use Rattle.mdcc_option.specs.declared.choices.Outcome.{Outcome}
use Rattle.mdcc_option.specs.declared.choices.Outcome.TheVariants.{Commit, Abort}
use Rattle.mdcc_option.specs.declared.items.Item.{Item}
use Rattle.mdcc_option.specs.declared.items.Update.{Update}
use Rattle.mdcc_option.specs.declared.items.Update.TheVariants.{Write, Add}
use Rattle.mdcc_option.specs.declared.schema.Schema.{Schema}
use Rattle.mdcc_def_protocol.specs.Fit.{above_zero, decrease, increase, amounts_in}
use Rattle.mdcc_def_protocol.specs.Marks.{Amounts}
use Rattle.mdcc_theorem_agreement.proofs.Ballots.{fast, Below}
use Rattle.mdcc_theorem_agreement.proofs.Setups.{Setup, centres_to, count}
use Rattle.mdcc_theorem_agreement.proofs.ReducedFacts.{ReducedFact, Booted, Floor, Promised, Voted, Heard, Adopted, promise, votes, shown, report, ReducedReport, HasPromised, HasHeard, finished, base, Quantity, executed, current, IsAcceptedVote}
use Rattle.mdcc_theorem_agreement.proofs.ReducedForced.{IsForced}
use Rattle.mdcc_theorem_agreement.proofs.ReducedOptions.{Place, spot, Apart, place_eq, mark_of, gives, In, Distinct, is_add, allows, allows_delta}
use Rattle.mdcc_theorem_agreement.proofs.Totals.{total}

pub data Entry : Type 0 where
  Happened : (centre : ℕ) (fact : ReducedFact) → Entry
  Begun : (centre : ℕ) (tx : TxId) (choices : List Choice) → Entry
  Valued : (centre : ℕ) (place : Place) (ballot : Ballot) (marks : List (TxId × Mark)) → Entry

-- the facts of a centre
abbrev pub facts_of : ℕ → List Entry → List ReducedFact
facts_of a [] = []
facts_of a (Happened b f ∷ es) = cond (b == a) (f ∷ facts_of a es) (facts_of a es)
facts_of a (Begun b t cs ∷ es) = facts_of a es
facts_of a (Valued b i m marks ∷ es) = facts_of a es

-- a structure that was sent
abbrev pub WasSent : List Entry → Place → Ballot → List (TxId × Mark) → Type 0
WasSent [] i m marks = ⊥
WasSent (Valued b j l sent ∷ es) i m marks = ((j ≡ i) × (l ≡ m) × (sent ≡ marks)) ⊎ WasSent es i m marks
WasSent (Happened b f ∷ es) i m marks = WasSent es i m marks
WasSent (Begun b t cs ∷ es) i m marks = WasSent es i m marks

-- the size of a quorum at a ballot
abbrev pub size_at : Setup → Ballot → ℕ
size_at s k = cond (ballot_eq k fast) s.fast s.classic

-- mark x of t is chosen at a ballot
abbrev pub IsChosen : Setup → List Entry → Place → Ballot → TxId → Mark → Type 0
IsChosen s es i k t x = size_at s k ≤ count (λ a. gives (votes (facts_of a es) i k) t x) (centres_to s.centres)

-- the members of a set, and their reports, each of a moment of its own
abbrev pub reports_of : (ℕ → List Entry) → Place → Ballot → List ℕ → List ReducedReport
reports_of at_time i m [] = []
reports_of at_time i m (a ∷ as') = report (facts_of a (at_time a)) i m ∷ reports_of at_time i m as'

-- all centres have heard a transaction
abbrev pub AllHeard : Setup → List Entry → TxId → Type 0
AllHeard s es t = (a : ℕ) → In a (centres_to s.centres) → HasHeard (facts_of a es) t

-- the older ledger is what stood when the newer one had come so far
abbrev pub IsTail : List Entry → List Entry → Type 0
IsTail old [] = old ≡ []
IsTail old (e ∷ es) = (old ≡ e ∷ es) ⊎ IsTail old es

abbrev pub members : (ℕ → Bool) → List ℕ → List ℕ
members q [] = []
members q (a ∷ as') = cond (q a) (a ∷ members q as') (members q as')

-- a transaction that was begun, with its choices
abbrev pub WasBegun : List Entry → TxId → List Choice → Type 0
WasBegun [] t cs = ⊥
WasBegun (Begun b u ds ∷ es) t cs = ((u ≡ t) × (ds ≡ cs)) ⊎ WasBegun es t cs
WasBegun (Happened b f ∷ es) t cs = WasBegun es t cs
WasBegun (Valued b j l sent ∷ es) t cs = WasBegun es t cs

-- a choice of a transaction that was begun
abbrev pub IsChoice : List Entry → Choice → Type 0
IsChoice es c = (cs : List Choice) × WasBegun es c.tx cs × In c cs

-- outcomes
abbrev pub IsAborted : Setup → List Entry → TxId → Type 0
IsAborted s es t = (c : Choice) × (k : Ballot) × IsChoice es c × (c.tx ≡ t) × IsChosen s es (spot c) k t Reject

abbrev pub IsCommitted : Setup → List Entry → TxId → List Choice → Type 0
IsCommitted s es t cs = WasBegun es t cs × ((c : Choice) → In c cs → (k : Ballot) × IsChosen s es (spot c) k t (Accept c))

-- the number of Adds; and what an update takes from an attribute, or adds to it
abbrev pub one_add : Update → ℕ
one_add (Write b s) = 0
one_add (Add m) = 1

abbrev pub taken : ℕ → Update → ℕ
taken n u = decrease (amount_at n (amounts_in u))

abbrev pub given : ℕ → Update → ℕ
given n u = increase (amount_at n (amounts_in u))

abbrev pub value_at : Item → ℕ → ℤ
value_at item n = get_or item.values (n - 1) (pos 0)

abbrev pub bounds_at : Schema → ℕ → ℤ × ℤ
bounds_at schema n = get_or schema (n - 1) (pos 0, pos 0)

abbrev pub room_below : Schema → ℕ → Option Item → ℕ
room_below schema n None = 0
room_below schema n (Some item) = above_zero (value_at item n -ℤ (bounds_at schema n).0)

abbrev pub room_above : Schema → ℕ → Option Item → ℕ
room_above schema n None = 0
room_above schema n (Some item) = above_zero ((bounds_at schema n).1 -ℤ value_at item n)

-- what is limited: the number of Adds, and for each attribute the decreases and the increases
abbrev pub IsQuantity : Setup → Quantity → Type 0
IsQuantity s q =
    (q ≡ record { amount = one_add; room = λ b. 64 })
    ⊎ ((n : ℕ) × (0 < n) × (n ≤ length s.schema)
    × ((q ≡ record { amount = taken n; room = room_below s.schema n }) ⊎ (q ≡ record { amount = given n; room = room_above s.schema n })))

-- a choice of the instance that may still count: its transaction is not aborted
abbrev pub MayCount : Setup → List Entry → Place → Choice → Type 0
MayCount s es i d = (spot d ≡ i) × ((cs : List Choice) → WasBegun es d.tx cs → In d cs) × (IsAborted s es d.tx → ⊥)

-- an Add that a centre has executed there
abbrev pub Executes : List ReducedFact → Place → Choice → Type 0
Executes fs i d = (m : Amounts) × (d.update ≡ Add m) × In (d.tx, m) (executed fs i)

-- a new choice is not in conflict with those accepted and with what is executed
pub record IsClear (s : Setup) (es : List Entry) (fs : List ReducedFact) (accepted : Choice → Type 0) (i : Place) (c : Choice) : Type 0 where
  pub chosen : (d : Choice) → accepted d → MayCount s es i d → allows c.update d.tx d.update
  pub deltas : (d : Choice) → Executes fs i d → MayCount s es i d → allows_delta c.update d.tx

-- a choice may be marked accepted, beside those that are
-- (weight and share give the part of the room that may be taken by what is counted)
pub record IsFit (s : Setup) (weight share : ℕ) (es : List Entry) (fs : List ReducedFact) (accepted counted : Choice → Type 0) (i : Place) (t : TxId) (c : Choice) : Type 0 where
  pub own : c.tx ≡ t
  pub here : (spot c) ≡ i
  pub begun : IsChoice es c
  pub held : current fs i.key ≡ i.version
  pub clear : IsClear s es fs accepted i c
  pub within : (q : Quantity) → IsQuantity s q → 0 < q.amount c.update → (ds : List Choice) → Apart ds →
      ((d : Choice) → In d ds → counted d × MayCount s es i d) →
      weight * (total (λ d. q.amount d.update) ds + q.amount c.update) ≤ share * q.room (base fs i.key)

-- how many marks of a kind may stand before one more is added
pub record Kind : Type 0 where
  pub test : Mark → Bool
  pub limit : ℕ

abbrev pub is_accepted : Mark → Bool
is_accepted (Accept c) = true
is_accepted Reject = false

abbrev pub is_rejected : Mark → Bool
is_rejected (Accept c) = false
is_rejected Reject = true

abbrev pub kinds : List Kind
kinds = record { test = is_accepted; limit = 512 } ∷ (record { test = is_rejected; limit = 16384 } ∷ [])

-- transactions, each once, with marks of a kind
abbrev pub ApartTx : List TxId → Type 0
ApartTx [] = Unit {0}
ApartTx (t ∷ ts) = ((u : TxId) → In u ts → u ≡ t → ⊥) × ApartTx ts

abbrev pub OfKind : (Mark → Bool) → List (TxId × Mark) → TxId → Type 0
OfKind test ps t = (x : Mark) × (test x ≡ true) × (mark_of t ps ≡ Some x)

abbrev pub HasPlace : List (TxId × Mark) → Mark → Type 0
HasPlace before x =
    (k : Kind) → In k kinds → k.test x ≡ true → (ts : List TxId) → ApartTx ts → ((t : TxId) → In t ts → OfKind k.test before t) → length ts < k.limit

-- the last structure that was sent
abbrev pub last_sent : List Entry → Place → Ballot → Option (List (TxId × Mark))
last_sent [] i m = None
last_sent (Valued b j l sent ∷ es) i m = cond (place_eq j i && ballot_eq l m) (Some sent) (last_sent es i m)
last_sent (Happened b f ∷ es) i m = last_sent es i m
last_sent (Begun b t cs ∷ es) i m = last_sent es i m

abbrev pub IsAcceptedIn : List (TxId × Mark) → Choice → Type 0
IsAcceptedIn marks d = mark_of d.tx marks ≡ Some (Accept d)

-- what a leader counts: what its structure accepts, and executed deltas without an accepted mark there
abbrev pub IsLive : List ReducedFact → Place → List (TxId × Mark) → Choice → Type 0
IsLive fs i marks d = IsAcceptedIn marks d ⊎ (Executes fs i d × ((x : Choice) → mark_of d.tx marks ≡ Some (Accept x) → ⊥))

-- a leader may add a mark to a structure
pub record MayAdd (s : Setup) (es : List Entry) (a : ℕ) (i : Place) (before : List (TxId × Mark)) (t : TxId) (x : Mark) : Type 0 where
  pub new : mark_of t before ≡ None
  pub centre : In a (centres_to s.centres)
  pub unheard : HasHeard (facts_of a es) t → ⊥
  pub has_place : HasPlace before x
  pub fits : (c : Choice) → x ≡ Accept c → IsFit s 1 1 es (facts_of a es) (IsAcceptedIn before) (IsLive (facts_of a es) i before) i t c

-- one more mark, anywhere in the list
pub record IsMore (before : List (TxId × Mark)) (t : TxId) (x : Mark) (after : List (TxId × Mark)) : Type 0 where
  pub apart : Distinct after
  pub same : (u : TxId) → mark_of u after ≡ mark_of u ((t, x) ∷ before)

-- what a structure was before a mark was added
pub record Step : Type 0 where
  pub before : List (TxId × Mark)
  pub tx : TxId
  pub mark : Mark

-- a structure grown from another mark by mark, the newest step first
abbrev pub Grown : Setup → List Entry → ℕ → Place → List (TxId × Mark) → List Step → List (TxId × Mark) → Type 0
Grown s es a i less [] more = less ≡ more
Grown s es a i less (p ∷ ps) more = Grown s es a i less ps p.before × MayAdd s es a i p.before p.tx p.mark × IsMore p.before p.tx p.mark more

-- marks that must be kept have no accepted Add, or fit together at a leader that holds the version, beside what it has executed
pub record FitsTogether (s : Setup) (es : List Entry) (a : ℕ) (i : Place) (kept : List (TxId × Mark)) : Type 0 where
  pub held : current (facts_of a es) i.key ≡ i.version
  pub within : (q : Quantity) → IsQuantity s q → (ds : List Choice) → Apart ds → ((d : Choice) → In d ds → IsLive (facts_of a es) i kept d × MayCount s es i d) →
      total (λ d. q.amount d.update) ds ≤ q.room (base (facts_of a es) i.key)

abbrev pub AreTogether : Setup → List Entry → ℕ → Place → List (TxId × Mark) → Type 0
AreTogether s es a i kept = ((c : Choice) → IsAcceptedIn kept c → is_add c.update ≡ false) ⊎ FitsTogether s es a i kept

pub record IsFirst (s : Setup) (es : List Entry) (a : ℕ) (i : Place) (m : Ballot) (marks : List (TxId × Mark)) : Type 0 where
  pub none : last_sent es i m ≡ None
  pub centre : In a (centres_to s.centres)
  pub quorum : ℕ → Bool
  pub enough : s.classic ≤ count quorum (centres_to s.centres)
  pub at_time : ℕ → List Entry
  pub before : (b : ℕ) → quorum b ≡ true → IsTail (at_time b) es
  pub promised : (b : ℕ) → quorum b ≡ true → HasPromised (facts_of b (at_time b)) i m
  pub base : List (TxId × Mark)
  pub apart : Distinct base
  pub forced : (t : TxId) (x : Mark) → IsForced s (reports_of at_time i m (members quorum (centres_to s.centres))) t x → mark_of t base ≡ Some x
  pub forced_only : (t : TxId) (x : Mark) → mark_of t base ≡ Some x → IsForced s (reports_of at_time i m (members quorum (centres_to s.centres))) t x
  pub together : (s.parts ≤ count quorum (centres_to s.centres)) ⊎ AreTogether s es a i base
  pub steps : List Step
  pub grown : Grown s es a i base steps marks

pub record IsNext (s : Setup) (es : List Entry) (a : ℕ) (i : Place) (m : Ballot) (marks : List (TxId × Mark)) : Type 0 where
  pub last : List (TxId × Mark)
  pub is_last : last_sent es i m ≡ Some last
  pub steps : List Step
  pub grown : Grown s es a i last steps marks

-- the votes of a centre are a structure that was sent, from which only finished transactions may be missing
pub record IsBacked (es : List Entry) (fs : List ReducedFact) (i : Place) (k : Ballot) : Type 0 where
  pub marks : List (TxId × Mark)
  pub sent : WasSent es i k marks
  pub within : (t : TxId) (x : Mark) → mark_of t (votes fs i k) ≡ Some x → mark_of t marks ≡ Some x
  pub whole : (t : TxId) (x : Mark) → finished fs t ≡ false → mark_of t marks ≡ Some x → mark_of t (votes fs i k) ≡ Some x

-- a vote at the fast ballot
pub record IsFastVote (s : Setup) (es : List Entry) (fs : List ReducedFact) (i : Place) (marks : List (TxId × Mark)) : Type 0 where
  pub tx : TxId
  pub mark : Mark
  pub single : marks ≡ (tx, mark) ∷ []
  pub new : (k : Ballot) → mark_of tx (votes fs i k) ≡ None
  pub has_place : HasPlace (shown fs i fast) mark
  pub fits : (c : Choice) → mark ≡ Accept c → IsFit s s.parts (s.fast + s.parts - s.centres) es fs (IsAcceptedVote fs i) (IsAcceptedVote fs i) i tx c

pub record MayVote (s : Setup) (es : List Entry) (a : ℕ) (i : Place) (k : Ballot) (marks : List (TxId × Mark)) : Type 0 where
  pub promise_held : Below k (promise (facts_of a es) i) → ⊥
  pub fast_vote : k ≡ fast → IsFastVote s es (facts_of a es) i marks
  pub each_new : (p : TxId × Mark) → In p marks → (mark_of p.0 (votes (facts_of a es) i k) ≡ None) × (mark_of p.0 marks ≡ Some p.1)
  pub backed : Below fast k → IsBacked es (Voted i k marks ∷ facts_of a es) i k

-- what is adopted was held by some centre before
pub record MayAdopt (es : List Entry) (key : Key) (version : ℕ) (item : Item) (deltas : List (TxId × Amounts)) : Type 0 where
  pub giver : ℕ
  pub old : List Entry
  pub before : IsTail old es
  pub held : current (facts_of giver old) key ≡ version
  pub base_there : base (facts_of giver old) key ≡ Some item
  pub executed_there : (p : TxId × Amounts) → In p deltas → In p (executed (facts_of giver old) (record { key = key; version = version }))

abbrev pub MayHear : Setup → List Entry → TxId → Outcome → Type 0
MayHear s es t (Commit cs) = IsCommitted s es t cs
MayHear s es t Abort = IsAborted s es t

abbrev pub MayHappen : Setup → List Entry → ℕ → ReducedFact → Type 0
MayHappen s es a (Booted e) = Unit {0}
MayHappen s es a (Floor origin era upto) = (t : TxId) → t.centre ≡ origin → t.epoch ≡ era → 0 < t.seq → t.seq ≤ upto → AllHeard s es t
MayHappen s es a (Promised key low high m) = Below fast m
MayHappen s es a (Voted i k marks) = MayVote s es a i k marks
MayHappen s es a (Heard t o) = MayHear s es t o
MayHappen s es a (Adopted key version item deltas) = MayAdopt es key version item deltas

-- a transaction may begin
pub record MayBegin (es : List Entry) (a : ℕ) (t : TxId) (cs : List Choice) : Type 0 where
  pub new : (ds : List Choice) → WasBegun es t ds → ⊥
  pub own : (c : Choice) → In c cs → c.tx ≡ t
  pub apart : (c d : Choice) → In c cs → In d cs → c.key ≡ d.key → c ≡ d
  pub held : (c : Choice) → In c cs → current (facts_of a es) c.key ≡ c.version
  pub above : (c : Choice) → In c cs → is_add c.update ≡ true → 0 < c.version
  pub seen : (c : Choice) (s : List TxId) (b : Item) → In c cs → c.update ≡ Write b s → (u : TxId) → In u s → (m : Amounts) × In (u, m) (executed (facts_of a es) (spot c))

abbrev pub Meets : Setup → List Entry → Entry → Type 0
Meets s es (Happened a f) = MayHappen s es a f
Meets s es (Begun a t cs) = MayBegin es a t cs
Meets s es (Valued a i m marks) = Below fast m × (IsFirst s es a i m marks ⊎ IsNext s es a i m marks)

abbrev pub Allowed : Setup → List Entry → Type 0
Allowed s [] = Unit {0}
Allowed s (e ∷ es) = Allowed s es × Meets s es e

-- a Write on the key, among these
abbrev pub WritesOn : List Choice → Key → ℕ → Option Item → Type 0
WritesOn cs key v item =
    (c : Choice) × (seen : List TxId) × (body : Item) × In c cs × (c.key ≡ key) × (suc c.version ≡ v) × (c.update ≡ Write body seen) × (item ≡ Some body)

-- the version and the item that a committed Write gave
abbrev pub Gave : Setup → List Entry → Key → ℕ → Option Item → Type 0
Gave s es key v item = (cs : List Choice) × (t : TxId) × IsCommitted s es t cs × WritesOn cs key v item

-- the first state, or that of a committed Write
abbrev pub Holds : Setup → List Entry → Key → ℕ → Option Item → Type 0
Holds s es key v item = ((v ≡ 0) × (item ≡ None)) ⊎ Gave s es key v item
