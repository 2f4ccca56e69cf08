-- Just where an acceptor gives its vote to accept a choice.
use Rattle.std.specs.Prelude.{List, None, true, ◌<◌, ◌≡◌, false}
use Rattle.mdcc_base.specs.Ballot.{is_fast}
use Rattle.mdcc_option.specs.declared.choices.Choice.{Choice}
use Rattle.mdcc_option.specs.declared.cluster.Cluster.{Cluster}
use Rattle.mdcc_def_messages.specs.declared.facts.Fact.{Fact}
use Rattle.mdcc_def_protocol.specs.Acceptor.{fit_of}
use Rattle.mdcc_def_protocol.specs.Facts.{current_of, entries_of, heard_of, promise_of, vote_of, is_finished}
use Rattle.mdcc_def_protocol.specs.Structures.{accept_room}
use Rattle.mdcc_def_protocol.specs.declared.fit.Fit.{Fit}
use Rattle.mdcc_theorem_round_trip.specs.Accepting.{IsAccepted}

-- it holds the choice's version and promised no classic ballot there; the transaction is not finished there, and it has neither heard its
-- outcome nor voted on it there; and the choice fits within its share, and has room among the accepted marks of the instance
pub record MayAccept (cluster : Cluster) (facts : List Fact) (choice : Choice) : Type 0 where
  pub held : current_of facts choice.key ≡ choice.version
  pub unpromised : is_fast (promise_of facts choice.key choice.version) ≡ true
  pub unfinished : is_finished facts choice.tx ≡ false
  pub unheard : heard_of facts choice.tx ≡ None
  pub unvoted : vote_of facts choice.key choice.version choice.tx ≡ None
  pub fits : fit_of cluster facts choice ≡ Fit.Fits
  pub room : (entries_of facts choice.key choice.version).0 < accept_room choice.update

abbrev pub TheyAccept : Type 0
TheyAccept = (cluster : Cluster) (facts : List Fact) (choice : Choice) → MayAccept cluster facts choice → IsAccepted cluster facts choice

abbrev pub TheyMay : Type 0
TheyMay = (cluster : Cluster) (facts : List Fact) (choice : Choice) → IsAccepted cluster facts choice → MayAccept cluster facts choice
