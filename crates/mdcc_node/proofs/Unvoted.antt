-- A vote is given where none was given before.
use Rattle.std.proofs.Common.{◌≡◌, ℕ, Bool, true, false, List, [], ◌∷◌, Option, Some, None, refl, arith, inl, inr, ◌&&◌, if◌then◌else◌, nat_lt}
use Rattle.std.specs.Option.{option_map}
use Rattle.std.proofs.lemmas.Bool.{cases_Bool}
use Rattle.mdcc_base.specs.Ballot.{ballot_lt, fast_ballot}
use Rattle.mdcc_base.specs.declared.identifiers.Ballot.{Ballot}
use Rattle.mdcc_base.specs.declared.identifiers.TxId.{TxId}
use Rattle.mdcc_base.specs.declared.key.Key.{Key}
use Rattle.mdcc_facts.specs.Adding.{offers_unmarked}
use Rattle.mdcc_node.specs.StepPlans.{IsNews}
use Rattle.mdcc_node.specs.StepParts.{vote_fact}
use Rattle.mdcc_option.specs.declared.choices.Choice.{Choice}
use Rattle.mdcc_option.specs.declared.choices.Mark.{Mark}
use Rattle.mdcc_option.specs.declared.choices.Outcome.{Outcome}
use Rattle.mdcc_option.specs.declared.cluster.Cluster.{Cluster}
use Rattle.mdcc_def_protocol.specs.Acceptor.{answer_after, answer_by_vote, on_propose}
use Rattle.mdcc_def_protocol.specs.Facts.{current_of, is_finished, last_vote, later_vote, mark_voted, marks_voted, outcome_kept, vote_of, votes_of}
use Rattle.mdcc_def_protocol.specs.declared.acceptor.ProposeAnswer.{ProposeAnswer}
use Rattle.mdcc_def_messages.specs.declared.facts.Fact.{Fact}
use Rattle.mdcc_struct.specs.Maps.{value_of}
use Rattle.mdcc_struct.specs.declared.options.Options.{Options}
use Rattle.mdcc_struct.proofs.Order.{tx_eq-refl}
use Rattle.mdcc_struct.proofs.Values.{value_of-union}

-- ---- what was not voted has no mark

later-none : (a b : Option (Ballot × Mark)) → later_vote a b ≡ None → (a ≡ None) × (b ≡ None)
later-none None b e = (refl, e)
later-none (Some a) None e = absurd (cc)
later-none (Some a) (Some b) e =
    elim (cases_Bool (ballot_lt a.0 b.0)) [
      | inl lt ↦ absurd (let bad : Some b ≡ None = rw lt at e in cc)
      | inr ge ↦ absurd (let bad : Some a ≡ None = rw ge at e in cc)
    ]

map-none : {X Y : Type 0} (f : X → Y) (o : Option X) → option_map f o ≡ None → o ≡ None
map-none f None e = refl
map-none f (Some x) e = absurd (cc)

marks-none : (here same : Bool) (ballot : Ballot) (options : Options) (tx : TxId)
    → (if here then option_map {U = Ballot × Mark} (λ mark. (ballot, mark)) (value_of options tx) else None) ≡ None
    → value_of (if here && same then options else []) tx ≡ None
marks-none false same ballot options tx e = refl
marks-none true false ballot options tx e = refl
marks-none true true ballot options tx e = map-none {Y = Ballot × Mark} (λ mark. (ballot, mark)) (value_of options tx) e

unmarked : (fact : Fact) (key : Key) (version : ℕ) (tx : TxId) (ballot : Ballot) → mark_voted key version tx fact ≡ None
    → value_of (marks_voted key version ballot fact) tx ≡ None
unmarked (Fact.Booted epoch) key version tx ballot e = refl
unmarked (Fact.Floor origin era upto) key version tx ballot e = refl
unmarked (Fact.Promised key' low high ballot') key version tx ballot e = refl
unmarked (Fact.Voted key' version' ballot' options offered) key version tx ballot e = grind (arith, marks-none, map-none)
unmarked (Fact.Heard tx' outcome) key version tx ballot e = refl
unmarked (Fact.Adopted key' version' item adds) key version tx ballot e = refl

pub unvoted : (facts : List Fact) (key : Key) (version : ℕ) (tx : TxId) (ballot : Ballot) → last_vote facts key version tx ≡ None
    → value_of (votes_of facts key version ballot) tx ≡ None
unvoted [] key version tx ballot e = refl
unvoted (fact ∷ facts) key version tx ballot e =
    let both = later-none (last_vote facts key version tx) (mark_voted key version tx fact) e in
    rw (value_of-union (votes_of facts key version ballot) (marks_voted key version ballot fact) tx, unvoted facts key version tx ballot both.0)
    (unmarked fact key version tx ballot both.1)

-- ---- an acceptor's vote

-- what it offers is of its own mark
own-offer : (choice : Choice) (mark : Mark) → offers_unmarked (vote_fact choice mark) ≡ false
own-offer choice (Mark.Accept own) = refl
own-offer choice Mark.Reject = rw (tx_eq-refl choice.tx) refl

shown : {X : Type 0} (finished below : Bool) (last : Option X) → finished ≡ false → (if finished && below then None else last) ≡ None → last ≡ None
shown true below last f e = absurd (cc)
shown false below last f e = e

module _ (cluster : Cluster) (facts : List Fact) (choice : Choice) (mark : Mark) where
  vote-by : (finished : Bool) (vote : Option (Ballot × Mark)) → is_finished facts choice.tx ≡ finished → vote_of facts choice.key choice.version choice.tx ≡ vote
      → (if finished then ProposeAnswer.Finished else answer_by_vote cluster facts choice vote) ≡ ProposeAnswer.Vote mark
      → (last_vote facts choice.key choice.version choice.tx ≡ None) × (is_finished facts choice.tx ≡ false)
  vote-by true vote f v e = absurd (cc)
  vote-by false (Some vote) f v e = absurd (cc)
  vote-by false None f v e =
      (shown (is_finished facts choice.tx) (nat_lt choice.version (current_of facts choice.key)) (last_vote facts choice.key choice.version choice.tx) f v, f)

  vote-after : (kept : Option Outcome) → answer_after cluster facts choice kept ≡ ProposeAnswer.Vote mark
      → (last_vote facts choice.key choice.version choice.tx ≡ None) × (is_finished facts choice.tx ≡ false)
  vote-after (Some outcome) e = absurd (cc)
  vote-after None e = vote-by (is_finished facts choice.tx) (vote_of facts choice.key choice.version choice.tx) refl refl e

  pub new_vote : on_propose cluster facts choice ≡ ProposeAnswer.Vote mark → IsNews facts (vote_fact choice mark)
  new_vote e =
      let new = vote-after (outcome_kept facts choice.tx) e in
      let none : value_of (votes_of facts choice.key choice.version fast_ballot) choice.tx ≡ None = unvoted facts choice.key choice.version choice.tx fast_ballot new.0 in
      record { promised = refl; voted = rw none refl; heard = refl; unfinished = rw new.1 refl; marked = own-offer choice mark; no_floor = refl }
