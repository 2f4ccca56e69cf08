-- What the marks of a fact amount to, as they are read in its bytes.
use Rattle.std.proofs.Common.{◌≡◌, ℕ, ◌+◌, Bool, true, false, List, [], ◌∷◌, Option, Some, None, length, drop, map, refl, ap, ◌∙◌}
use Rattle.std.specs.Prelude.{if◌then◌else◌, is_some, ◌&&◌, ◌==◌, ◌||◌}
use Rattle.mdcc_base.specs.Ballot.{ballot_eq}
use Rattle.mdcc_base.specs.Counts.{number_of}
use Rattle.mdcc_base.specs.Key.{key_eq}
use Rattle.mdcc_base.specs.TxId.{tx_eq}
use Rattle.mdcc_base.specs.declared.identifiers.Ballot.{Ballot}
use Rattle.mdcc_base.specs.declared.identifiers.TxId.{TxId}
use Rattle.mdcc_struct.specs.Maps.{are_ascending, value_of}
use Rattle.mdcc_struct.specs.Options.{Marks}
use Rattle.mdcc_def_messages.specs.Spelling.{fact_bytes}
use Rattle.mdcc_def_messages.specs.WellFormed.{IsWellFormedFact}
use Rattle.mdcc_def_messages.specs.declared.facts.Fact.{Fact}
use Rattle.mdcc_def_protocol.specs.Facts.{marks_voted}
use Rattle.mdcc_facts.specs.Walks.{least_from, lower_passing}
use Rattle.mdcc_facts.proofs.Counting.{count-either}
use Rattle.mdcc_cells_vote_walk.specs.Marks.{tags_in}
use Rattle.mdcc_cells_vote_walk.specs.Tags.{tags_at, tags_by}
use Rattle.mdcc_cells_vote_walk.proofs.Headed.{head-again, head_from}
use Rattle.mdcc_cells_vote_walk.proofs.Marked.{encoding, head_itself, tag_of, tags-of}

-- ---- the tags of a fact

tags-by : (key : List ℕ) (version : ℕ) (ballot : Ballot) (fact : Fact) → IsWellFormedFact fact
    → tags_by ballot (fact_bytes fact) (head_from key version fact) ≡ map tag_of (marks_voted key version ballot fact)
tags-by key version ballot (Fact.Booted epoch) w = refl
tags-by key version ballot (Fact.Floor origin era upto) w = refl
tags-by key version ballot (Fact.Promised k low high b) w = refl
tags-by key version ballot (Fact.Heard t outcome) w = refl
tags-by key version ballot (Fact.Adopted k v item adds) w = refl
tags-by key version ballot (Fact.Voted k v b options offered) w = by (v == version) (ballot_eq b ballot) (key_eq k key) refl
  where
    by : (same_version same_ballot same_key : Bool) → ballot_eq b ballot ≡ same_ballot
        → tags_by ballot (encoding k v b options offered w) (if same_version && same_key then Some (head_itself k v b options offered w) else None)
        ≡ map tag_of (if same_version && same_ballot && same_key then options else [])
    by true true true is = ap (λ test. if test then tags_in (length options) (drop (23 + length k) (encoding k v b options offered w)) else []) is ∙ tags-of k v b options offered w
    by true false true is = ap (λ test. if test then tags_in (length options) (drop (23 + length k) (encoding k v b options offered w)) else []) is
    by true true false is = refl
    by true false false is = refl
    by false same_ballot same_key is = refl

pub tags-at-again : (key : List ℕ) (version : ℕ) (ballot : Ballot) (fact : Fact) → IsWellFormedFact fact
    → tags_at key version ballot (fact_bytes fact) ≡ map tag_of (marks_voted key version ballot fact)
tags-at-again key version ballot fact w = ap (tags_by ballot (fact_bytes fact)) (head-again key version fact w) ∙ tags-by key version ballot fact w

-- ---- what tags say of marks

pub least-of-tags : (test : TxId → Bool) (found : Option TxId) (marks : Marks) → least_from test found (map tag_of marks) ≡ least_from test found marks
least-of-tags test found [] = refl
least-of-tags test found (e ∷ es) = least-of-tags test (lower_passing test found e.0) es

number-of-tags : (p : TxId → Bool) (marks : Marks) → number_of (λ tag. p tag.0) (map tag_of marks) ≡ number_of (λ e. p e.0) marks
number-of-tags p [] = refl
number-of-tags p (e ∷ es) = ap (λ n. (if p e.0 then 1 else 0) + n) (number-of-tags p es)

pub number-common : (options marks : Marks) → are_ascending options ≡ true → are_ascending marks ≡ true
    → number_of (λ tag. is_some (value_of options tag.0)) (map tag_of marks) ≡ number_of (λ e. is_some (value_of marks e.0)) options
number-common options marks up up' = number-of-tags (λ tx. is_some (value_of options tx)) marks ∙ count-either options marks up up'

pub marks-ascend : (key : List ℕ) (version : ℕ) (ballot : Ballot) (fact : Fact) → IsWellFormedFact fact → are_ascending (marks_voted key version ballot fact) ≡ true
marks-ascend key version ballot (Fact.Booted epoch) w = refl
marks-ascend key version ballot (Fact.Floor origin era upto) w = refl
marks-ascend key version ballot (Fact.Promised k low high b) w = refl
marks-ascend key version ballot (Fact.Heard t outcome) w = refl
marks-ascend key version ballot (Fact.Adopted k v item adds) w = refl
marks-ascend key version ballot (Fact.Voted k v b options offered) w = by (v == version && ballot_eq b ballot && key_eq k key)
  where
    by : (test : Bool) → are_ascending (if test then options else []) ≡ true
    by true = w.options_itself.ascending
    by false = refl
