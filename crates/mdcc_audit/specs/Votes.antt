-- The votes of all centres on each option, and what they choose.
use Rattle.std.specs.List.{list_any}
use Rattle.std.specs.Map.{lookup}
use Rattle.std.specs.Prelude.{Bool, List, None, Option, Some, [], false, filter_map, fold, if◌then◌else◌, is_some, nat_le, true, unwrap_or, ℕ, ◌&&◌, ◌++◌, ◌==◌, ◌∷◌}
use Rattle.indexmap.specs.IndexMap.{insert_entry}
use Rattle.indexmap.specs.IndexSet.{insert_key}
use Rattle.mdcc_base.specs.Counts.{number_of}
use Rattle.mdcc_base.specs.Key.{key_eq}
use Rattle.mdcc_base.specs.Quorums.{all_centres, quorum_size}
use Rattle.mdcc_base.specs.Sizes.{Sizes}
use Rattle.mdcc_base.specs.TxId.{tx_eq}
use Rattle.mdcc_base.specs.declared.identifiers.Ballot.{Ballot}
use Rattle.mdcc_base.specs.declared.identifiers.TxId.{TxId}
use Rattle.mdcc_base.specs.declared.key.Key.{Key}
use Rattle.mdcc_option.specs.declared.choices.Choice.{Choice}
use Rattle.mdcc_option.specs.declared.choices.Mark.{Mark}
use Rattle.mdcc_struct.specs.declared.options.Options.{Options}
use Rattle.mdcc_audit.specs.Subjects.{at_instance, in_vote, of_tx, subject_eq}
use Rattle.mdcc_audit.specs.declared.subjects.Subject.{Subject}
use Rattle.mdcc_audit.specs.declared.votes.Given.{Given}

-- ---- one vote

-- a choice is its transaction's own in an instance
abbrev pub is_own : TxId → Key → ℕ → Choice → Bool
is_own tx key version choice = tx_eq choice.tx tx && (key_eq choice.key key && choice.version == version)

-- what a mark gives a transaction in an instance: a choice of another one there gives it nothing
abbrev pub given_of : TxId → Key → ℕ → Mark → Given
given_of tx key version (Mark.Accept choice) = if is_own tx key version choice then Given.Acceptance else Given.Nothing
given_of tx key version Mark.Reject = Given.Rejection

abbrev pub given_eq : Given → Given → Bool
given_eq Given.Acceptance Given.Acceptance = true
given_eq Given.Rejection Given.Rejection = true
given_eq Given.Nothing Given.Nothing = true
given_eq _ _ = false

-- ---- the votes on an option at a ballot

-- what each centre gave it first
abbrev pub SubjectTally : Type 0
SubjectTally = List (ℕ × Given)

abbrev pub given_by : SubjectTally → ℕ → Option Given
given_by [] a = None
given_by (g ∷ gs) a = if g.0 == a then Some g.1 else given_by gs a

-- the first vote of a centre counts
abbrev pub with_given : SubjectTally → ℕ → Given → SubjectTally
with_given tally a given = if is_some (given_by tally a) then tally else tally ++ (a, given) ∷ []

-- how many centres of the cluster gave just this
abbrev pub number_given : Sizes → SubjectTally → Given → ℕ
number_given quorums tally given = number_of (given_eq given) (filter_map (given_by tally) (all_centres quorums))

-- a quorum of the ballot gave it
abbrev pub is_chosen : Sizes → Subject → SubjectTally → Given → Bool
is_chosen quorums subject tally given = nat_le (quorum_size quorums subject.ballot) (number_given quorums tally given)

-- ---- all votes

abbrev pub SubjectTallies : Type 0
SubjectTallies = List (Subject × SubjectTally)

abbrev pub tally_at : SubjectTallies → Subject → SubjectTally
tally_at tallies subject = unwrap_or (lookup (subject_eq subject) tallies) []

abbrev pub tallied : SubjectTallies → Subject → ℕ → Given → SubjectTallies
tallied tallies subject a given = insert_entry subject_eq tallies subject (with_given (tally_at tallies subject) a given)

-- the votes, the options that a quorum accepted in their instance, and those that one rejected there, with their transactions
pub record CountedVotes : Type 0 where
  pub tallies : SubjectTallies
  pub accepted : List Subject
  pub rejected : List Subject

abbrev pub nothing_counted : CountedVotes
nothing_counted = record { tallies = []; accepted = []; rejected = [] }

abbrev pub instance_subject : Subject → Subject
instance_subject subject = at_instance subject.tx subject.key subject.version

abbrev pub is_among : List Subject → Subject → Bool
is_among subjects subject = list_any (subject_eq subject) subjects

abbrev pub with_subject : List Subject → Subject → List Subject
with_subject subjects subject = insert_key subject_eq subjects subject

-- what a quorum gave an option is noted
abbrev pub chosen_with : CountedVotes → Subject → Given → CountedVotes
chosen_with counted subject Given.Acceptance = record counted { accepted = with_subject counted.accepted (instance_subject subject) }
chosen_with counted subject Given.Rejection =
    record counted { rejected = with_subject (with_subject counted.rejected (instance_subject subject)) (of_tx subject.tx) }
chosen_with counted subject Given.Nothing = counted

abbrev pub noted_if : Bool → CountedVotes → Subject → Given → CountedVotes
noted_if false counted subject given = counted
noted_if true counted subject given = chosen_with counted subject given

-- a centre votes on an option at a ballot
abbrev pub vote : Sizes → CountedVotes → ℕ → Subject → Given → CountedVotes
vote quorums counted a subject given =
    let tallies = tallied counted.tallies subject a given in
    noted_if (is_chosen quorums subject (tally_at tallies subject) given) (record counted { tallies = tallies }) subject given

abbrev pub vote_mark : Sizes → ℕ → Key → ℕ → Ballot → CountedVotes → TxId × Mark → CountedVotes
vote_mark quorums a key version ballot counted e = vote quorums counted a (in_vote e.0 key version ballot) (given_of e.0 key version e.1)

-- a centre votes the marks of an instance at a ballot
abbrev pub vote_all : Sizes → CountedVotes → ℕ → Key → ℕ → Ballot → Options → CountedVotes
vote_all quorums counted a key version ballot options = fold (vote_mark quorums a key version ballot) counted options
