-- The votes of an instance are no more than the bytes of the facts, which the cells and the log allow.
use Rattle.std.proofs.Common.{ℕ, ◌+◌, ◌*◌, ◌^◌, ◌&&◌, ◌==◌, ◌<◌, ◌≤◌, List, [], ◌∷◌, length, arith}
use Rattle.std.specs.Int.{div_ceil}
use Rattle.std.proofs.lemmas.Bool.{cond_both}
use Rattle.mdcc_base.specs.Ballot.{ballot_eq}
use Rattle.mdcc_base.specs.Counts.{sum_over}
use Rattle.mdcc_base.specs.Key.{key_eq}
use Rattle.mdcc_base.specs.declared.identifiers.Ballot.{Ballot}
use Rattle.mdcc_base.specs.declared.key.Key.{Key}
use Rattle.mdcc_option.specs.declared.choices.Mark.{Mark}
use Rattle.mdcc_struct.specs.declared.options.Options.{Options}
use Rattle.mdcc_def_protocol.specs.Facts.{marks_voted, votes_of}
use Rattle.mdcc_def_messages.specs.Lengths.{cells_used, entry_length, fact_length, frame_length, log_length}
use Rattle.mdcc_def_messages.specs.declared.facts.Fact.{Fact}
use Rattle.mdcc_theorem_node_steps.proofs.Held.{length-union}

entry-long : (mark : Mark) → 1 ≤ entry_length mark
entry-long Mark.Reject = omega arith
entry-long (Mark.Accept choice) = omega arith

options-long : (options : Options) → length options ≤ sum_over (λ e. entry_length e.1) options
options-long [] = omega arith
options-long (e ∷ es) = let ih = options-long es in let here = entry-long e.1 in omega arith

-- a number in cells of 60
in-cells : (n : ℕ) → n ≤ 60 * div_ceil n 60
in-cells n = omega arith

marks-few : (key : Key) (version : ℕ) (ballot : Ballot) (fact : Fact) → length (marks_voted key version ballot fact) ≤ fact_length fact
marks-few key version ballot (Fact.Voted key' version' ballot' options offered) =
    cond_both (version' == version && ballot_eq ballot' ballot && key_eq key' key) options [] (λ (m : Options). length m ≤ fact_length (Fact.Voted key' version' ballot' options offered))
    (λ e. let long = options-long options in omega arith) (λ e. omega arith)
marks-few key version ballot (Fact.Booted epoch) = omega arith
marks-few key version ballot (Fact.Floor origin era upto) = omega arith
marks-few key version ballot (Fact.Promised key' low high ballot') = omega arith
marks-few key version ballot (Fact.Heard tx outcome) = omega arith
marks-few key version ballot (Fact.Adopted key' version' item adds) = omega arith

votes-in_bytes : (facts : List Fact) (key : Key) (version : ℕ) (ballot : Ballot) → length (votes_of facts key version ballot) ≤ sum_over fact_length facts
votes-in_bytes [] key version ballot = omega arith
votes-in_bytes (fact ∷ facts) key version ballot =
    let ih = votes-in_bytes facts key version ballot in
    let here = marks-few key version ballot fact in
    let both = length-union (votes_of facts key version ballot) (marks_voted key version ballot fact) in
    more (length (votes_of (fact ∷ facts) key version ballot)) (length (votes_of facts key version ballot)) (length (marks_voted key version ballot fact)) (fact_length fact) (sum_over fact_length facts) both ih here
  where
    more : (all old new bytes used : ℕ) → all ≤ old + new → old ≤ used → new ≤ bytes → all ≤ bytes + used
    more all old new bytes used a b c = omega arith

-- so they are fewer than 2^32, where the facts have fewer bytes
pub votes-few : (facts : List Fact) (key : Key) (version : ℕ) (ballot : Ballot) → sum_over fact_length facts < 2 ^ 32 → length (votes_of facts key version ballot) < 2 ^ 32
votes-few facts key version ballot room = let few = votes-in_bytes facts key version ballot in omega arith

-- as they have within a log of 2^30 bytes
sum-logged : (facts : List Fact) → sum_over fact_length facts ≤ sum_over frame_length facts
sum-logged [] = omega arith
sum-logged (fact ∷ facts) = let ih = sum-logged facts in omega arith

pub few-logged : (facts : List Fact) → log_length facts ≤ 2 ^ 30 → sum_over fact_length facts < 2 ^ 32
few-logged facts h = let sum = sum-logged facts in omega arith

-- and within the cells that a node may have
sum-celled : (facts : List Fact) → sum_over fact_length facts ≤ 60 * cells_used facts
sum-celled [] = omega arith
sum-celled (fact ∷ facts) = let ih = sum-celled facts in let here = in-cells (fact_length fact) in omega arith

pub few-celled : (facts : List Fact) → cells_used facts ≤ 4194304 → sum_over fact_length facts < 2 ^ 32
few-celled facts h = let sum = sum-celled facts in omega arith
