-- A subject of which nothing was said goes behind the others.
use Rattle.std.proofs.Common.{◌≡◌, ℕ, Bool, List, [], true, false, ◌∷◌, ◌++◌, None, Some, cond, inl, inr, refl, ap}
use Rattle.std.proofs.lemmas.Bool.{cases_Bool}
use Rattle.std.specs.Map.{lookup, set_value}
use Rattle.std.specs.Prelude.{Option}
use Rattle.indexmap.specs.IndexMap.{insert_entry}
use Rattle.mdcc_audit.specs.Firsts.{Pair, Said, Table, first_at, say}
use Rattle.mdcc_audit.specs.Subjects.{subject_eq}
use Rattle.mdcc_audit.specs.Values.{value_eq}
use Rattle.mdcc_audit.specs.Votes.{SubjectTallies, SubjectTally, tallied, with_given}
use Rattle.mdcc_audit.specs.declared.firsts.First.{First}
use Rattle.mdcc_audit.specs.declared.subjects.Subject.{Subject}
use Rattle.mdcc_audit.specs.declared.votes.Given.{Given}

none-rest : {X : Type 0} {test : Bool} {rest : Option X} (x : X) → test ≡ false → None ≡ cond test (Some x) rest → None ≡ rest
none-rest x other none = cc

pub insert-new : {X : Type 0} (table : List (Subject × X)) (subject : Subject) (x : X) → None ≡ lookup (subject_eq subject) table
    → insert_entry subject_eq table subject x ≡ table ++ (subject, x) ∷ []
insert-new [] subject x none = refl
insert-new (e ∷ es) subject x none =
    let ih = insert-new es subject x in
    elim (cases_Bool (subject_eq subject e.0)) [
      | inl same ↦ cc
      | inr other ↦ rw other (ap (λ rest. e ∷ rest) (ih (none-rest e.1 other none)))
    ]

abbrev said : Table → Option Pair → Said
said table found = record { table = table; found = found }

pub said-new : (old new : Table) (found : Option Pair) (subject : Subject) (first : First) → None ≡ first_at old subject
    → new ≡ insert_entry subject_eq old subject first
    → said new found ≡ say (said old found) subject first
said-new old new found subject first none is = rw (is, insert-new old subject first none, ← none) refl

-- what is the same as what was said first changes nothing
pub said-again : (table : Table) (found : Option Pair) (subject : Subject) (first later : First) → Some first ≡ first_at table subject
    → value_eq first.value later.value ≡ true
    → say (said table found) subject later ≡ said table found
said-again table found subject first later some same = rw (← some, same) refl

-- ---- tallies

some-rest : {X : Type 0} {test : Bool} {rest : Option X} (v x : X) → test ≡ false → Some v ≡ cond test (Some x) rest → Some v ≡ rest
some-rest v x other some = cc

pub set-insert : {X : Type 0} (table : List (Subject × X)) (subject : Subject) (v w : X) → Some v ≡ lookup (subject_eq subject) table
    → set_value (subject_eq subject) table w ≡ insert_entry subject_eq table subject w
set-insert [] subject v w some = cc
set-insert (e ∷ es) subject v w some =
    let ih = set-insert es subject v w in
    elim (cases_Bool (subject_eq subject e.0)) [
      | inl same ↦ rw same refl
      | inr other ↦ rw other (ap (λ rest. e ∷ rest) (ih (some-rest v e.1 other some)))
    ]

pub tallied-more : (old new : SubjectTallies) (subject : Subject) (a : ℕ) (given : Given) (was now : SubjectTally) → Some was ≡ lookup (subject_eq subject) old
    → new ≡ set_value (subject_eq subject) old now → now ≡ with_given was a given → new ≡ tallied old subject a given
tallied-more old new subject a given was now there is made = rw (is, set-insert old subject was now there, made, ← there) refl

pub tallied-new : (old lent new : SubjectTallies) (subject : Subject) (a : ℕ) (given : Given) (tally : SubjectTally) → None ≡ lookup (subject_eq subject) old → lent ≡ old
    → new ≡ insert_entry subject_eq lent subject tally → tally ≡ (a, given) ∷ [] → new ≡ tallied old subject a given
tallied-new old lent new subject a given tally none same is made = rw (is, same, made, ← none) refl
