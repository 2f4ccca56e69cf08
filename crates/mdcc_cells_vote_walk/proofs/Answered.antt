-- What a fact says of one transaction, as it is read in its bytes.
use Rattle.std.proofs.Common.{◌≡◌, ℕ, Bool, true, false, List, [], Option, Some, None, refl, ap, ◌∙◌}
use Rattle.std.specs.Option.{option_and_then, option_map, option_or}
use Rattle.std.specs.Prelude.{if◌then◌else◌, ◌&&◌, ◌==◌}
use Rattle.mdcc_base.specs.Ballot.{ballot_eq, ballot_lt}
use Rattle.mdcc_base.specs.Key.{key_eq}
use Rattle.mdcc_base.specs.declared.identifiers.Ballot.{Ballot}
use Rattle.mdcc_base.specs.declared.identifiers.TxId.{TxId}
use Rattle.mdcc_option.specs.declared.choices.Mark.{Mark}
use Rattle.mdcc_struct.specs.Maps.{value_of}
use Rattle.mdcc_def_messages.specs.Spelling.{fact_bytes}
use Rattle.mdcc_def_messages.specs.WellFormed.{IsWellFormedFact}
use Rattle.mdcc_def_messages.specs.declared.facts.Fact.{Fact}
use Rattle.mdcc_def_protocol.specs.Facts.{choice_of_tx, choice_voted, later_vote, mark_voted, marks_voted}
use Rattle.mdcc_def_protocol.specs.Marks.{choice_in}
use Rattle.mdcc_cells_vote_walk.specs.Marks.{mark_of}
use Rattle.mdcc_cells_vote_walk.specs.Older.{choice_by_head, choice_in_bytes, is_below_found, mark_by, mark_in, vote_by, vote_in}
use Rattle.mdcc_cells_vote_walk.proofs.Headed.{head-again, head_from}
use Rattle.mdcc_cells_vote_walk.proofs.Marked.{choice-of, encoding, head_itself, mark-of}

-- ---- the mark at one ballot

mark-by : (key : List ℕ) (version : ℕ) (ballot : Ballot) (tx : TxId) (fact : Fact) → IsWellFormedFact fact
    → mark_by ballot tx (fact_bytes fact) (head_from key version fact) ≡ value_of (marks_voted key version ballot fact) tx
mark-by key version ballot tx (Fact.Booted epoch) w = refl
mark-by key version ballot tx (Fact.Floor origin era upto) w = refl
mark-by key version ballot tx (Fact.Promised k low high b) w = refl
mark-by key version ballot tx (Fact.Heard t outcome) w = refl
mark-by key version ballot tx (Fact.Adopted k v item adds) w = refl
mark-by key version ballot tx (Fact.Voted k v b options offered) w = by (v == version) (ballot_eq b ballot) (key_eq k key) refl
  where
    by : (same_version same_ballot same_key : Bool) → ballot_eq b ballot ≡ same_ballot
        → mark_by ballot tx (encoding k v b options offered w) (if same_version && same_key then Some (head_itself k v b options offered w) else None)
        ≡ value_of (if same_version && same_ballot && same_key then options else []) tx
    by true true true is = ap (λ test. if test then mark_of tx (head_itself k v b options offered w) (encoding k v b options offered w) else None) is ∙ mark-of k v b options offered w tx
    by true false true is = ap (λ test. if test then mark_of tx (head_itself k v b options offered w) (encoding k v b options offered w) else None) is
    by true true false is = refl
    by true false false is = refl
    by false same_ballot same_key is = refl

pub mark-in-again : (key : List ℕ) (version : ℕ) (ballot : Ballot) (tx : TxId) (fact : Fact) → IsWellFormedFact fact
    → mark_in key version ballot tx (fact_bytes fact) ≡ value_of (marks_voted key version ballot fact) tx
mark-in-again key version ballot tx fact w = ap (mark_by ballot tx (fact_bytes fact)) (head-again key version fact w) ∙ mark-by key version ballot tx fact w

-- ---- the mark at the greatest ballot

newer : (later : Option (Ballot × Mark)) (ballot : Ballot) (mark : Option Mark)
    → option_or (if is_below_found later ballot then None else option_map (λ m. (ballot, m)) mark) later ≡ later_vote (option_map (λ m. (ballot, m)) mark) later
newer None ballot None = refl
newer None ballot (Some mark) = refl
newer (Some vote) ballot None = by (ballot_lt ballot vote.0)
  where
    by : (below : Bool) → option_or (if below then None else None) (Some vote) ≡ Some vote
    by true = refl
    by false = refl
newer (Some vote) ballot (Some mark) = by (ballot_lt ballot vote.0)
  where
    by : (below : Bool) → option_or (if below then None else Some (ballot, mark)) (Some vote) ≡ (if below then Some vote else Some (ballot, mark))
    by true = refl
    by false = refl

vote-by : (key : List ℕ) (version : ℕ) (tx : TxId) (later : Option (Ballot × Mark)) (fact : Fact) → IsWellFormedFact fact
    → option_or (vote_by tx later (fact_bytes fact) (head_from key version fact)) later ≡ later_vote (mark_voted key version tx fact) later
vote-by key version tx later (Fact.Booted epoch) w = refl
vote-by key version tx later (Fact.Floor origin era upto) w = refl
vote-by key version tx later (Fact.Promised k low high b) w = refl
vote-by key version tx later (Fact.Heard t outcome) w = refl
vote-by key version tx later (Fact.Adopted k v item adds) w = refl
vote-by key version tx later (Fact.Voted k v b options offered) w = by (v == version && key_eq k key)
  where
    by : (same : Bool)
        → option_or (vote_by tx later (encoding k v b options offered w) (if same then Some (head_itself k v b options offered w) else None)) later
        ≡ later_vote (if same then option_map (λ mark. (b, mark)) (value_of options tx) else None) later
    by true =
        ap (λ mark. option_or (if is_below_found later b then None else option_map (λ m. (b, m)) mark) later) (mark-of k v b options offered w tx)
        ∙ newer later b (value_of options tx)
    by false = refl

pub vote-in-again : (key : List ℕ) (version : ℕ) (tx : TxId) (later : Option (Ballot × Mark)) (fact : Fact) → IsWellFormedFact fact
    → option_or (vote_in key version tx later (fact_bytes fact)) later ≡ later_vote (mark_voted key version tx fact) later
vote-in-again key version tx later fact w =
    ap (λ head. option_or (vote_by tx later (fact_bytes fact) head) later) (head-again key version fact w) ∙ vote-by key version tx later fact w

-- ---- the choice

choice-by : (key : List ℕ) (version : ℕ) (tx : TxId) (fact : Fact) → IsWellFormedFact fact
    → choice_by_head tx (fact_bytes fact) (head_from key version fact) ≡ choice_voted key version tx fact
choice-by key version tx (Fact.Booted epoch) w = refl
choice-by key version tx (Fact.Floor origin era upto) w = refl
choice-by key version tx (Fact.Promised k low high b) w = refl
choice-by key version tx (Fact.Heard t outcome) w = refl
choice-by key version tx (Fact.Adopted k v item adds) w = refl
choice-by key version tx (Fact.Voted k v b options offered) w = by (v == version && key_eq k key)
  where
    by : (same : Bool)
        → choice_by_head tx (encoding k v b options offered w) (if same then Some (head_itself k v b options offered w) else None)
        ≡ (if same then option_or (option_and_then choice_in (value_of options tx)) (option_and_then (choice_of_tx tx) offered) else None)
    by true = choice-of k v b options offered w tx
    by false = refl

pub choice-in-again : (key : List ℕ) (version : ℕ) (tx : TxId) (fact : Fact) → IsWellFormedFact fact
    → choice_in_bytes key version tx (fact_bytes fact) ≡ choice_voted key version tx fact
choice-in-again key version tx fact w = ap (choice_by_head tx (fact_bytes fact)) (head-again key version fact w) ∙ choice-by key version tx fact w
