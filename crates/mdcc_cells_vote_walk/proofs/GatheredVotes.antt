-- What is gathered in a walk from the newest fact to the oldest and joined then are the votes.
use Rattle.std.proofs.Common.{◌≡◌, ℕ, true, false, List, [], ◌∷◌, ◌++◌, Option, Some, None, refl, sym, ap, ◌∙◌, inl, inr, ◌⊎◌}
use Rattle.std.specs.List.{fold, list_all}
use Rattle.std.specs.Option.{option_or}
use Rattle.std.specs.Prelude.{if◌then◌else◌, reverse}
use Rattle.std.proofs.lemmas.Bool.{and_parts, cases_Bool}
use Rattle.std.proofs.lemmas.List.{reverse-append}
use Rattle.mdcc_base.specs.TxId.{tx_eq}
use Rattle.mdcc_base.specs.declared.identifiers.Ballot.{Ballot}
use Rattle.mdcc_base.specs.declared.identifiers.TxId.{TxId}
use Rattle.mdcc_base.specs.declared.key.Key.{Key}
use Rattle.mdcc_option.specs.declared.choices.Mark.{Mark}
use Rattle.mdcc_struct.specs.Maps.{are_ascending, union, value_of}
use Rattle.mdcc_struct.specs.Options.{Marks}
use Rattle.mdcc_struct.proofs.Inclusion.{same_found}
use Rattle.mdcc_struct.proofs.Order.{tx_eq-same}
use Rattle.mdcc_struct.proofs.Ordered.{ascending-below, ascending-tail, value_of-below}
use Rattle.mdcc_struct.proofs.Values.{value_of-union}
use Rattle.mdcc_struct.proofs.Walks.{ascending-union}
use Rattle.mdcc_def_messages.specs.declared.facts.Fact.{Fact}
use Rattle.mdcc_def_protocol.specs.Facts.{marks_voted}
use Rattle.mdcc_theorem_fact_folds.specs.Live.{is_ordered}
use Rattle.mdcc_theorem_fact_folds.proofs.Joined.{joined, joined-ascends, joined-folded}
use Rattle.mdcc_theorem_fact_folds.proofs.Sorted.{marks-ascend}
use Rattle.mdcc_cells_vote_walk.specs.Gathered.{GatheredAreVotes, with_gathered}
use Rattle.mdcc_cells_vote_walk.proofs.OldestFirst.{value-append, value-last}

or-assoc : {X : Type 0} (a b c : Option X) → option_or a (option_or b c) ≡ option_or (option_or a b) c
or-assoc None b c = refl
or-assoc (Some x) b c = refl

-- of marks in order the first of a transaction is the last
value-reversed : (marks : Marks) (tx : TxId) → are_ascending marks ≡ true → value_of (reverse marks) tx ≡ value_of marks tx
value-reversed [] tx up = refl
value-reversed (e ∷ es) tx up =
    value-last e es tx
    ∙ ap (λ v. option_or v (if tx_eq e.0 tx then Some e.1 else None)) (value-reversed es tx (ascending-tail e es up))
    ∙ by (cases_Bool (tx_eq e.0 tx))
  where
    or_none : (v : Option Mark) → option_or v None ≡ v
    or_none None = refl
    or_none (Some x) = refl

    by : (tx_eq e.0 tx ≡ true) ⊎ (tx_eq e.0 tx ≡ false) → option_or (value_of es tx) (if tx_eq e.0 tx then Some e.1 else None) ≡ (if tx_eq e.0 tx then Some e.1 else value_of es tx)
    by (inl same) =
        let none : value_of es tx ≡ None = rw (← tx_eq-same e.0 tx same) (value_of-below e.0 es (ascending-below e es up)) in
        rw (none, same) refl
    by (inr other) = rw other (or_none (value_of es tx))

module _ (key : Key) (version : ℕ) (ballot : Ballot) (tx : TxId) where
  abbrev brings : Fact → Marks
  brings fact = marks_voted key version ballot fact

  gathered-value : (gathered : Marks) (facts : List Fact) → list_all is_ordered facts ≡ true
      → value_of (reverse (fold (with_gathered key version ballot) gathered facts)) tx ≡ option_or (value_of (joined brings facts) tx) (value_of (reverse gathered) tx)
  gathered-value gathered [] ordered = refl
  gathered-value gathered (fact ∷ facts) ordered =
      let parts = and_parts (is_ordered fact) (list_all is_ordered facts) ordered in
      let last : value_of (reverse (gathered ++ brings fact)) tx ≡ option_or (value_of (brings fact) tx) (value_of (reverse gathered) tx) =
      ap (λ m. value_of m tx) (reverse-append gathered (brings fact))
      ∙ value-append (reverse (brings fact)) (reverse gathered) tx
      ∙ ap (λ v. option_or v (value_of (reverse gathered) tx)) (value-reversed (brings fact) tx (marks-ascend key version ballot fact parts.0)) in
      gathered-value (gathered ++ brings fact) facts parts.1
      ∙ ap (option_or (value_of (joined brings facts) tx)) last
      ∙ or-assoc (value_of (joined brings facts) tx) (value_of (brings fact) tx) (value_of (reverse gathered) tx)
      ∙ ap (λ v. option_or v (value_of (reverse gathered) tx)) (sym (value_of-union (joined brings facts) (brings fact) tx))

or-nothing : {X : Type 0} (a : Option X) → option_or a None ≡ a
or-nothing None = refl
or-nothing (Some x) = refl

pub gathered-votes : GatheredAreVotes
gathered-votes key version ballot facts ordered =
    let gathered = fold (with_gathered key version ballot) [] facts in
    same_found (union [] (reverse gathered)) (joined (marks_voted key version ballot) facts) (ascending-union [] (reverse gathered) refl) (joined-ascends (marks_voted key version ballot) facts)
    (λ tx. value_of-union [] (reverse gathered) tx ∙ gathered-value key version ballot tx [] facts ordered ∙ or-nothing (value_of (joined (marks_voted key version ballot) facts) tx))
    ∙ joined-folded (marks_voted key version ballot) facts
