-- Structures are ordered by inclusion.
use Rattle.std.specs.Prelude.{◌≡◌, IsTrue, IsOk, Ok}
use Rattle.mdcc_struct.specs.Maps.{are_ascending}
use Rattle.mdcc_struct.specs.Options.{Marks, meet_of, join_of, extends}

abbrev pub IsAscending : Marks → Type 0
IsAscending marks = IsTrue (are_ascending marks)

-- the first has each entry of the second
abbrev pub Extends : Marks → Marks → Type 0
Extends a b = IsTrue (extends a b)

-- ---- an order

abbrev pub ExtendsItself : Type 0
ExtendsItself = (a : Marks) → IsAscending a → Extends a a

abbrev pub ExtendsOnward : Type 0
ExtendsOnward = (a b c : Marks) → IsAscending c → Extends a b → Extends b c → Extends a c

abbrev pub ExtendsBothWays : Type 0
ExtendsBothWays = (a b : Marks) → IsAscending a → IsAscending b → Extends a b → Extends b a → a ≡ b

-- ---- the meet is the greatest that both extend

abbrev pub MeetIsExtended : Type 0
MeetIsExtended = (a b : Marks) → IsAscending a → Extends a (meet_of a b) × Extends b (meet_of a b)

abbrev pub MeetIsGreatest : Type 0
MeetIsGreatest = (a b c : Marks) → IsAscending c → Extends a c → Extends b c → Extends (meet_of a b) c

-- ---- the join is the least that extends both

abbrev pub JoinExtends : Type 0
JoinExtends = (a b joined : Marks) → IsAscending a → IsAscending b → join_of a b ≡ Ok joined → Extends joined a × Extends joined b

abbrev pub JoinIsLeast : Type 0
JoinIsLeast = (a b joined c : Marks) → IsAscending a → join_of a b ≡ Ok joined → Extends c a → Extends c b → Extends c joined

-- there is one where anything extends both
abbrev pub JoinIsThere : Type 0
JoinIsThere = (a b c : Marks) → Extends c a → Extends c b → IsOk (join_of a b)
