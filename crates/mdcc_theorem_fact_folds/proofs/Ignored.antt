-- Facts that do not concern a question say nothing to it.
use Rattle.std.proofs.Common.{◌≡◌, ℕ, Bool, true, false, [], None, refl, sym, ◌∙◌, arith, inl, inr}
use Rattle.std.proofs.lemmas.Bool.{cases_Bool}
use Rattle.mdcc_base.specs.Ballot.{fast_ballot}
use Rattle.mdcc_base.specs.declared.identifiers.Ballot.{Ballot}
use Rattle.mdcc_base.specs.declared.identifiers.TxId.{TxId}
use Rattle.mdcc_base.specs.declared.key.Key.{Key}
use Rattle.mdcc_def_protocol.specs.Facts.{ballot_promised, ballot_voted, choice_voted, mark_voted, marks_voted, outcome_in, range_promised}
use Rattle.mdcc_def_messages.specs.declared.facts.Fact.{Fact}
use Rattle.mdcc_theorem_fact_folds.specs.Chains.{Covers, is_heard_of, is_promise_of, is_vote_in}

-- what a chain leaves out does not concern it
pub left_out : (keep concerns : Fact → Bool) → Covers keep concerns → (fact : Fact) → keep fact ≡ false → concerns fact ≡ false
left_out keep concerns covers fact left =
    elim (cases_Bool (concerns fact)) [
      | inl does ↦ absurd (let bad : true ≡ false = sym (covers fact does) ∙ left in cc)
      | inr does_not ↦ does_not
    ]

pub no_outcome : (tx : TxId) (fact : Fact) → is_heard_of tx fact ≡ false → outcome_in tx fact ≡ None
no_outcome tx (Fact.Booted epoch) h = refl
no_outcome tx (Fact.Floor origin era upto) h = refl
no_outcome tx (Fact.Promised k low high b) h = refl
no_outcome tx (Fact.Voted k v b options offered) h = refl
no_outcome tx (Fact.Heard t outcome) h = rw h refl
no_outcome tx (Fact.Adopted k v item adds) h = refl

pub no_range : (key : Key) (version : ℕ) (ballot : Ballot) (fact : Fact) → is_promise_of key fact ≡ false → range_promised key version ballot fact ≡ None
no_range key version ballot (Fact.Booted epoch) h = refl
no_range key version ballot (Fact.Floor origin era upto) h = refl
no_range key version ballot (Fact.Promised k low high b) h = grind (arith, h)
no_range key version ballot (Fact.Voted k v b options offered) h = refl
no_range key version ballot (Fact.Heard t outcome) h = refl
no_range key version ballot (Fact.Adopted k v item adds) h = refl

pub no_promise : (key : Key) (version : ℕ) (fact : Fact) → is_promise_of key fact ≡ false → is_vote_in key version fact ≡ false
    → ballot_promised key version fact ≡ fast_ballot
no_promise key version (Fact.Booted epoch) h k = refl
no_promise key version (Fact.Floor origin era upto) h k = refl
no_promise key version (Fact.Promised k low high b) h k' = grind (arith, h)
no_promise key version (Fact.Voted k v b options offered) h k' = rw k' refl
no_promise key version (Fact.Heard t outcome) h k = refl
no_promise key version (Fact.Adopted k v item adds) h k' = refl

pub no_ballot : (key : Key) (version : ℕ) (below : Ballot) (fact : Fact) → is_vote_in key version fact ≡ false → ballot_voted key version below fact ≡ fast_ballot
no_ballot key version below (Fact.Booted epoch) h = refl
no_ballot key version below (Fact.Floor origin era upto) h = refl
no_ballot key version below (Fact.Promised k low high b) h = refl
no_ballot key version below (Fact.Voted k v b options offered) h = grind (arith, h)
no_ballot key version below (Fact.Heard t outcome) h = refl
no_ballot key version below (Fact.Adopted k v item adds) h = refl

pub no_mark : (key : Key) (version : ℕ) (tx : TxId) (fact : Fact) → is_vote_in key version fact ≡ false → mark_voted key version tx fact ≡ None
no_mark key version tx (Fact.Booted epoch) h = refl
no_mark key version tx (Fact.Floor origin era upto) h = refl
no_mark key version tx (Fact.Promised k low high b) h = refl
no_mark key version tx (Fact.Voted k v b options offered) h = rw h refl
no_mark key version tx (Fact.Heard t outcome) h = refl
no_mark key version tx (Fact.Adopted k v item adds) h = refl

pub no_marks : (key : Key) (version : ℕ) (ballot : Ballot) (fact : Fact) → is_vote_in key version fact ≡ false → marks_voted key version ballot fact ≡ []
no_marks key version ballot (Fact.Booted epoch) h = refl
no_marks key version ballot (Fact.Floor origin era upto) h = refl
no_marks key version ballot (Fact.Promised k low high b) h = refl
no_marks key version ballot (Fact.Voted k v b options offered) h = grind (arith, h)
no_marks key version ballot (Fact.Heard t outcome) h = refl
no_marks key version ballot (Fact.Adopted k v item adds) h = refl

pub no_choice : (key : Key) (version : ℕ) (tx : TxId) (fact : Fact) → is_vote_in key version fact ≡ false → choice_voted key version tx fact ≡ None
no_choice key version tx (Fact.Booted epoch) h = refl
no_choice key version tx (Fact.Floor origin era upto) h = refl
no_choice key version tx (Fact.Promised k low high b) h = refl
no_choice key version tx (Fact.Voted k v b options offered) h = rw h refl
no_choice key version tx (Fact.Heard t outcome) h = refl
no_choice key version tx (Fact.Adopted k v item adds) h = refl
