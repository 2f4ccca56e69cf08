-- What the objects of the code are as lists.
use Rattle.mdcc_audit.specs.Auditing.{State}
use Rattle.mdcc_audit.specs.Firsts.{Said}
use Rattle.mdcc_audit.specs.Votes.{CountedVotes}
use Rattle.mdcc_audit.specs.declared.taken.Audit.{Audit}
use Rattle.mdcc_audit.specs.declared.firsts.Firsts.{Firsts}
use Rattle.mdcc_audit.specs.declared.votes.Votes.{Votes}

abbrev pub said_in : Firsts → Said
said_in firsts = record { table = firsts.table.entries; found = firsts.found }

abbrev pub counted_in : Votes → CountedVotes
counted_in votes = record { tallies = votes.tallies.entries; accepted = votes.accepted.keys; rejected = votes.rejected.keys }

abbrev pub state_of : Audit → State
state_of audit = record {
  outcomes = said_in audit.outcomes;
  marks = said_in audit.marks;
  choices = said_in audit.choices;
  counted = counted_in audit.votes;
  named = audit.named.keys;
}
