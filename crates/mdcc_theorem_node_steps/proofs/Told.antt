-- What well-formed facts tell is well-formed.
use Rattle.std.proofs.Common.{◌≡◌, ℕ, ◌^◌, ◌==◌, ◌&&◌, ◌<◌, ◌≤◌, true, false, List, [], ◌∷◌, refl, inl, subst, Option, Some, None, fold, filter_map, map, max, not, nat_le, arith}
use Rattle.std.specs.List.{AllByRecursion}
use Rattle.std.specs.Option.{option_or}
use Rattle.std.specs.Prelude.{option_map}
use Rattle.std.proofs.lemmas.Bool.{and_parts, cond_both, eqb-false, eqb-true}
use Rattle.mdcc_base.specs.Ballot.{ballot_eq, ballot_lt, ballot_max, fast_ballot}
use Rattle.mdcc_base.specs.Key.{key_eq}
use Rattle.mdcc_base.specs.TxId.{tx_eq}
use Rattle.mdcc_base.specs.declared.identifiers.Ballot.{Ballot}
use Rattle.mdcc_base.specs.declared.identifiers.TxId.{TxId}
use Rattle.mdcc_base.specs.declared.key.Key.{Key}
use Rattle.mdcc_option.proofs.Equal.{Decides-key, Decides-tx}
use Rattle.mdcc_option.specs.OneCopy.{next_version}
use Rattle.mdcc_option.specs.declared.choices.Choice.{Choice}
use Rattle.mdcc_option.specs.declared.choices.Mark.{Mark}
use Rattle.mdcc_option.specs.declared.choices.Outcome.{Outcome}
use Rattle.mdcc_option.specs.declared.items.Delta.{Delta}
use Rattle.mdcc_option.specs.declared.items.Item.{Item}
use Rattle.mdcc_option.specs.declared.items.Update.{Update}
use Rattle.mdcc_struct.specs.Maps.{TxMap, are_ascending, value_of}
use Rattle.mdcc_struct.specs.declared.options.Options.{Options}
use Rattle.mdcc_struct.proofs.Walks.{ascending-union}
use Rattle.mdcc_def_protocol.specs.Facts.{amounts_added, ballot_promised, base_at, base_from, base_given, base_of, current_of, delta_given, deltas_at, deltas_from, heard_of, item_written, later_vote, mark_voted, marks_voted, outcome_in, promise_of, unresolved_of, version_from, version_given, vote_of, votes_of, write_set_of_mark, write_sets_from, write_sets_of, is_forgotten, is_idle, is_settled, last_vote, outcome_kept}
use Rattle.mdcc_def_protocol.specs.Marks.{Amounts, is_write}
use Rattle.mdcc_def_messages.specs.WellFormed.{IsWellFormedFact}
use Rattle.mdcc_def_messages.specs.WellFormedParts.{IsWellFormedAmounts, IsWellFormedBallot, IsWellFormedDelta, IsWellFormedEntry, IsWellFormedHeard, IsWellFormedItem, IsWellFormedOf, IsWellFormedTx, IsWellFormedUpdate, IsWellFormedWriteSet}
use Rattle.mdcc_def_messages.specs.declared.facts.Fact.{Fact}
use Rattle.mdcc_theorem_node_steps.proofs.Each.{each-append, each-kept, each-map, each-weaker}
use Rattle.mdcc_theorem_node_steps.proofs.Held.{HoldsIn, each-filter_map, each-union, holds-or, value-in}

-- ---- outcomes

heard-here : (tx : TxId) (fact : Fact) → IsWellFormedFact fact → HoldsIn (IsWellFormedHeard tx) (outcome_in tx fact)
heard-here tx (Fact.Heard other outcome) w =
    cond_both (tx_eq other tx) (Some outcome) None (HoldsIn (IsWellFormedHeard tx)) (λ e. subst (λ t. IsWellFormedHeard t outcome) ((Decides-tx other tx).0 e) w) (λ e. tt)
heard-here tx (Fact.Booted epoch) w = tt
heard-here tx (Fact.Floor origin era upto) w = tt
heard-here tx (Fact.Promised key low high ballot) w = tt
heard-here tx (Fact.Voted key version ballot options offered) w = tt
heard-here tx (Fact.Adopted key version item adds) w = tt

pub heard-told : (facts : List Fact) (tx : TxId) → AllByRecursion IsWellFormedFact facts → HoldsIn (IsWellFormedHeard tx) (heard_of facts tx)
heard-told [] tx w = tt
heard-told (fact ∷ facts) tx w = holds-or (IsWellFormedHeard tx) (heard_of facts tx) (outcome_in tx fact) (heard-told facts tx w.1) (heard-here tx fact w.0)

pub kept-told : (facts : List Fact) (tx : TxId) → AllByRecursion IsWellFormedFact facts → HoldsIn (IsWellFormedHeard tx) (outcome_kept facts tx)
kept-told facts tx w = cond_both (is_idle facts tx) None (heard_of facts tx) (HoldsIn (IsWellFormedHeard tx)) (λ e. tt) (λ e. heard-told facts tx w)

-- ---- votes

-- a mark with its ballot
abbrev pub IsWellFormedVoteAt : Key → ℕ → TxId → Ballot × Mark → Type 0
IsWellFormedVoteAt key version tx vote = IsWellFormedBallot vote.0 × IsWellFormedEntry key version tx vote.1

holds-later : (P : Ballot × Mark → Type 0) (a b : Option (Ballot × Mark)) → HoldsIn P a → HoldsIn P b → HoldsIn P (later_vote a b)
holds-later P None b h k = k
holds-later P (Some a) None h k = h
holds-later P (Some a) (Some b) h k = cond_both (ballot_lt a.0 b.0) (Some b) (Some a) (HoldsIn P) (λ e. k) (λ e. h)

-- the entries of an instance under its other names
pub entries-of : (key other : Key) (version version' : ℕ) (options : Options) → (version' == version && key_eq other key) ≡ true
    → AllByRecursion (λ e. IsWellFormedEntry other version' e.0 e.1) options → AllByRecursion (λ e. IsWellFormedEntry key version e.0 e.1) options
entries-of key other version version' options e h =
    let parts = and_parts (version' == version) (key_eq other key) e in
    subst (λ k. AllByRecursion (λ (e : TxId × Mark). IsWellFormedEntry k version e.0 e.1) options) ((Decides-key other key).0 parts.1)
    (subst (λ v. AllByRecursion (λ (e : TxId × Mark). IsWellFormedEntry other v e.0 e.1) options) (eqb-true version' version parts.0) h)

vote-here : (key : Key) (version : ℕ) (tx : TxId) (fact : Fact) → IsWellFormedFact fact → HoldsIn (IsWellFormedVoteAt key version tx) (mark_voted key version tx fact)
vote-here key version tx (Fact.Voted key' version' ballot options offered) w =
    cond_both (version' == version && key_eq key' key) (option_map (λ mark. (ballot, mark)) (value_of options tx)) None (HoldsIn (IsWellFormedVoteAt key version tx))
    (λ e. holds-vote (value_of options tx) (value-in (IsWellFormedEntry key version) options tx (entries-of key key' version version' options e w.options_itself.each))) (λ e. tt)
  where
    holds-vote : (o : Option Mark) → HoldsIn (IsWellFormedEntry key version tx) o → HoldsIn (IsWellFormedVoteAt key version tx) (option_map (λ (mark : Mark). (ballot, mark)) o)
    holds-vote None h = tt
    holds-vote (Some mark) h = (w.ballot_itself, h)
vote-here key version tx (Fact.Booted epoch) w = tt
vote-here key version tx (Fact.Floor origin era upto) w = tt
vote-here key version tx (Fact.Promised key' low high ballot) w = tt
vote-here key version tx (Fact.Heard other outcome) w = tt
vote-here key version tx (Fact.Adopted key' version' item adds) w = tt

last-told : (facts : List Fact) (key : Key) (version : ℕ) (tx : TxId) → AllByRecursion IsWellFormedFact facts → HoldsIn (IsWellFormedVoteAt key version tx) (last_vote facts key version tx)
last-told [] key version tx w = tt
last-told (fact ∷ facts) key version tx w =
    holds-later (IsWellFormedVoteAt key version tx) (last_vote facts key version tx) (mark_voted key version tx fact) (last-told facts key version tx w.1) (vote-here key version tx fact w.0)

pub vote-told : (facts : List Fact) (key : Key) (version : ℕ) (tx : TxId) → AllByRecursion IsWellFormedFact facts → HoldsIn (IsWellFormedVoteAt key version tx) (vote_of facts key version tx)
vote-told facts key version tx w =
    cond_both (is_forgotten facts key version tx) None (last_vote facts key version tx) (HoldsIn (IsWellFormedVoteAt key version tx)) (λ e. tt) (λ e. last-told facts key version tx w)

-- ---- promises

pub greater-ballot : (a b : Ballot) → IsWellFormedBallot a → IsWellFormedBallot b → IsWellFormedBallot (ballot_max a b)
greater-ballot a b h k = cond_both (ballot_lt a b) b a IsWellFormedBallot (λ e. k) (λ e. h)

promise-here : (key : Key) (version : ℕ) (fact : Fact) → IsWellFormedFact fact → IsWellFormedBallot (ballot_promised key version fact)
promise-here key version (Fact.Promised key' low high ballot) w =
    cond_both (nat_le low version && nat_le version high && key_eq key' key) ballot fast_ballot IsWellFormedBallot (λ e. w.ballot_itself) (λ e. inl refl)
promise-here key version (Fact.Voted key' version' ballot options offered) w =
    cond_both (version' == version && key_eq key' key) ballot fast_ballot IsWellFormedBallot (λ e. w.ballot_itself) (λ e. inl refl)
promise-here key version (Fact.Booted epoch) w = inl refl
promise-here key version (Fact.Floor origin era upto) w = inl refl
promise-here key version (Fact.Heard tx outcome) w = inl refl
promise-here key version (Fact.Adopted key' version' item adds) w = inl refl

pub promise-told : (facts : List Fact) (key : Key) (version : ℕ) → AllByRecursion IsWellFormedFact facts → IsWellFormedBallot (promise_of facts key version)
promise-told [] key version w = inl refl
promise-told (fact ∷ facts) key version w = greater-ballot (promise_of facts key version) (ballot_promised key version fact) (promise-told facts key version w.1) (promise-here key version fact w.0)

-- ---- versions

next-fits : (version : ℕ) → next_version version < 2 ^ 64
next-fits version = omega arith

given-fits : (key : Key) (choice : Choice) → version_given key choice < 2 ^ 64
given-fits key choice = cond_both (is_write choice.update && key_eq choice.key key) (next_version choice.version) 0 (λ v. v < 2 ^ 64) (λ e. next-fits choice.version) (λ e. omega arith)

versions-fit : (key : Key) (choices : List Choice) (version : ℕ) → version < 2 ^ 64 → fold (λ version choice. max version (version_given key choice)) version choices < 2 ^ 64
versions-fit key [] version h = h
versions-fit key (choice ∷ choices) version h = versions-fit key choices (max version (version_given key choice)) (let k = given-fits key choice in omega arith)

version-here : (key : Key) (fact : Fact) → IsWellFormedFact fact → version_from key fact < 2 ^ 64
version-here key (Fact.Heard tx (Outcome.Commit choices)) w = versions-fit key choices 0 (omega arith)
version-here key (Fact.Heard tx Outcome.Abort) w = omega arith
version-here key (Fact.Adopted key' version item adds) w = cond_both (key_eq key' key) version 0 (λ v. v < 2 ^ 64) (λ e. w.instance.version_fits) (λ e. omega arith)
version-here key (Fact.Booted epoch) w = omega arith
version-here key (Fact.Floor origin era upto) w = omega arith
version-here key (Fact.Promised key' low high ballot) w = omega arith
version-here key (Fact.Voted key' version ballot options offered) w = omega arith

pub current-fits : (facts : List Fact) (key : Key) → AllByRecursion IsWellFormedFact facts → current_of facts key < 2 ^ 64
current-fits [] key w = omega arith
current-fits (fact ∷ facts) key w = let older = current-fits facts key w.1 in let here = version-here key fact w.0 in omega arith

-- ---- bases

base-given : (key : Key) (version : ℕ) (tx : TxId) (choice : Choice) → IsWellFormedOf tx choice → HoldsIn IsWellFormedItem (base_given key version choice)
base-given key version tx choice w =
    cond_both (next_version choice.version == version && key_eq choice.key key) (item_written choice.update) None (HoldsIn IsWellFormedItem)
    (λ e. written choice.update w.choice_itself.update) (λ e. tt)
  where
    written : (update : Update) → IsWellFormedUpdate update → HoldsIn IsWellFormedItem (item_written update)
    written (Update.Write item seen) h = h.0
    written (Update.Add amounts) h = tt

bases-given : (key : Key) (version : ℕ) (tx : TxId) (choices : List Choice) (base : Option Item) → AllByRecursion (IsWellFormedOf tx) choices → HoldsIn IsWellFormedItem base
    → HoldsIn IsWellFormedItem (fold (λ base choice. option_or base (base_given key version choice)) base choices)
bases-given key version tx [] base w h = h
bases-given key version tx (choice ∷ choices) base w h =
    bases-given key version tx choices (option_or base (base_given key version choice)) w.1 (holds-or IsWellFormedItem base (base_given key version choice) h (base-given key version tx choice w.0))

base-here : (key : Key) (version : ℕ) (fact : Fact) → IsWellFormedFact fact → HoldsIn IsWellFormedItem (base_from key version fact)
base-here key version (Fact.Heard tx (Outcome.Commit choices)) w = bases-given key version tx choices None w.outcome_itself.each tt
base-here key version (Fact.Heard tx Outcome.Abort) w = tt
base-here key version (Fact.Adopted key' version' item adds) w =
    cond_both (version' == version && key_eq key' key) (Some item) None (HoldsIn IsWellFormedItem) (λ e. w.base) (λ e. tt)
base-here key version (Fact.Booted epoch) w = tt
base-here key version (Fact.Floor origin era upto) w = tt
base-here key version (Fact.Promised key' low high ballot) w = tt
base-here key version (Fact.Voted key' version' ballot options offered) w = tt

base-at : (facts : List Fact) (key : Key) (version : ℕ) → AllByRecursion IsWellFormedFact facts → HoldsIn IsWellFormedItem (base_at facts key version)
base-at [] key version w = tt
base-at (fact ∷ facts) key version w = holds-or IsWellFormedItem (base_at facts key version) (base_from key version fact) (base-at facts key version w.1) (base-here key version fact w.0)

-- where there is a base, there is a version
pub base-told : (facts : List Fact) (key : Key) → AllByRecursion IsWellFormedFact facts → HoldsIn (λ item. IsWellFormedItem item × (1 ≤ current_of facts key)) (base_of facts key)
base-told facts key w =
    cond_both (current_of facts key == 0) None (base_at facts key (current_of facts key)) (HoldsIn (λ item. IsWellFormedItem item × (1 ≤ current_of facts key))) (λ e. tt)
    (λ e. with_version (base_at facts key (current_of facts key)) (base-at facts key (current_of facts key) w) (some_version (current_of facts key) e))
  where
    some_version : (n : ℕ) → (n == 0) ≡ false → 1 ≤ n
    some_version n e = let apart = eqb-false n 0 e in omega arith

    with_version : (o : Option Item) → HoldsIn IsWellFormedItem o → 1 ≤ current_of facts key → HoldsIn (λ item. IsWellFormedItem item × (1 ≤ current_of facts key)) o
    with_version None h k = tt
    with_version (Some item) h k = (h, k)

-- ---- deltas

abbrev pub IsWellFormedDeltaAt : TxId × Amounts → Type 0
IsWellFormedDeltaAt e = IsWellFormedTx e.0 × IsWellFormedAmounts e.1

delta-given : (key : Key) (version : ℕ) (tx : TxId) (choice : Choice) → IsWellFormedOf tx choice → HoldsIn IsWellFormedDeltaAt (delta_given key version choice)
delta-given key version tx choice w =
    cond_both (choice.version == version && key_eq choice.key key) (option_map (λ amounts. (choice.tx, amounts)) (amounts_added choice.update)) None (HoldsIn IsWellFormedDeltaAt)
    (λ e. added choice.update w.choice_itself.update) (λ e. tt)
  where
    added : (update : Update) → IsWellFormedUpdate update → HoldsIn IsWellFormedDeltaAt (option_map (λ (amounts : Amounts). (choice.tx, amounts)) (amounts_added update))
    added (Update.Write item seen) h = tt
    added (Update.Add amounts) h = (w.choice_itself.tx, h)

deltas-here : (key : Key) (version : ℕ) (fact : Fact) → IsWellFormedFact fact → AllByRecursion IsWellFormedDeltaAt (deltas_from key version fact)
deltas-here key version (Fact.Heard tx (Outcome.Commit choices)) w =
    each-filter_map (IsWellFormedOf tx) IsWellFormedDeltaAt (delta_given key version) choices (delta-given key version tx) w.outcome_itself.each
deltas-here key version (Fact.Heard tx Outcome.Abort) w = tt
deltas-here key version (Fact.Adopted key' version' item adds) w =
    cond_both (version' == version && key_eq key' key) (map (λ delta. (delta.tx, delta.amounts)) adds) [] (λ (m : TxMap Amounts). AllByRecursion IsWellFormedDeltaAt m)
    (λ e. each-map IsWellFormedDeltaAt (λ (delta : Delta). (delta.tx, delta.amounts)) adds (each-weaker IsWellFormedDelta (λ delta. IsWellFormedTx delta.tx × IsWellFormedAmounts delta.amounts) adds (λ delta h. (h.tx, h.amounts)) w.each))
    (λ e. tt)
deltas-here key version (Fact.Booted epoch) w = tt
deltas-here key version (Fact.Floor origin era upto) w = tt
deltas-here key version (Fact.Promised key' low high ballot) w = tt
deltas-here key version (Fact.Voted key' version' ballot options offered) w = tt

pub deltas-told : (facts : List Fact) (key : Key) (version : ℕ) → AllByRecursion IsWellFormedFact facts → AllByRecursion IsWellFormedDeltaAt (deltas_at facts key version)
deltas-told [] key version w = tt
deltas-told (fact ∷ facts) key version w =
    each-union IsWellFormedDeltaAt (deltas_at facts key version) (deltas_from key version fact) (deltas-told facts key version w.1) (deltas-here key version fact w.0)

pub deltas-ascending : (facts : List Fact) (key : Key) (version : ℕ) → are_ascending (deltas_at facts key version) ≡ true
deltas-ascending [] key version = refl
deltas-ascending (fact ∷ facts) key version = ascending-union (deltas_at facts key version) (deltas_from key version fact) (deltas-ascending facts key version)

-- ---- write sets

abbrev pub IsWellFormedSetAt : TxId × List (Key × ℕ) → Type 0
IsWellFormedSetAt e = IsWellFormedTx e.0 × IsWellFormedWriteSet e.1

set-in : (key : Key) (version : ℕ) (e : TxId × Mark) → IsWellFormedEntry key version e.0 e.1 → HoldsIn IsWellFormedSetAt (write_set_of_mark e)
set-in key version (tx, Mark.Reject) h = tt
set-in key version (tx, Mark.Accept choice) h = (subst IsWellFormedTx h.same_tx h.choice_itself.tx, h.choice_itself.write_set)

sets-here : (fact : Fact) → IsWellFormedFact fact → AllByRecursion IsWellFormedSetAt (write_sets_from fact)
sets-here (Fact.Voted key version ballot options None) w =
    each-filter_map (λ e. IsWellFormedEntry key version e.0 e.1) IsWellFormedSetAt write_set_of_mark options (set-in key version) w.options_itself.each
sets-here (Fact.Voted key version ballot options (Some choice)) w =
    each-append IsWellFormedSetAt (filter_map write_set_of_mark options) ((choice.tx, choice.write_set) ∷ [])
    (each-filter_map (λ e. IsWellFormedEntry key version e.0 e.1) IsWellFormedSetAt write_set_of_mark options (set-in key version) w.options_itself.each)
    ((w.offered_itself.choice_itself.tx, w.offered_itself.choice_itself.write_set), tt)
sets-here (Fact.Booted epoch) w = tt
sets-here (Fact.Floor origin era upto) w = tt
sets-here (Fact.Promised key low high ballot) w = tt
sets-here (Fact.Heard tx outcome) w = tt
sets-here (Fact.Adopted key version item adds) w = tt

sets-told : (facts : List Fact) → AllByRecursion IsWellFormedFact facts → AllByRecursion IsWellFormedSetAt (write_sets_of facts)
sets-told [] w = tt
sets-told (fact ∷ facts) w = each-union IsWellFormedSetAt (write_sets_of facts) (write_sets_from fact) (sets-told facts w.1) (sets-here fact w.0)

pub unresolved-told : (facts : List Fact) → AllByRecursion IsWellFormedFact facts → AllByRecursion IsWellFormedSetAt (unresolved_of facts)
unresolved-told facts w = each-kept IsWellFormedSetAt (λ e. not (is_settled facts e.0)) (write_sets_of facts) (sets-told facts w)

-- ---- marks at one ballot

marks-here : (key : Key) (version : ℕ) (ballot : Ballot) (fact : Fact) → IsWellFormedFact fact → AllByRecursion (λ e. IsWellFormedEntry key version e.0 e.1) (marks_voted key version ballot fact)
marks-here key version ballot (Fact.Voted key' version' ballot' options offered) w =
    cond_both (version' == version && ballot_eq ballot' ballot && key_eq key' key) options [] (λ (m : Options). AllByRecursion (λ e. IsWellFormedEntry key version e.0 e.1) m)
    (λ e. same key' version' w.options_itself.each e) (λ e. tt)
  where
    same : (key' : Key) (version' : ℕ) → AllByRecursion (λ (e : TxId × Mark). IsWellFormedEntry key' version' e.0 e.1) options
        → (version' == version && ballot_eq ballot' ballot && key_eq key' key) ≡ true → AllByRecursion (λ (e : TxId × Mark). IsWellFormedEntry key version e.0 e.1) options
    same key' version' h e =
        let parts = and_parts (version' == version && ballot_eq ballot' ballot) (key_eq key' key) e in
        let first = and_parts (version' == version) (ballot_eq ballot' ballot) parts.0 in
        subst (λ k. AllByRecursion (λ (e : TxId × Mark). IsWellFormedEntry k version e.0 e.1) options) ((Decides-key key' key).0 parts.1)
        (subst (λ v. AllByRecursion (λ (e : TxId × Mark). IsWellFormedEntry key' v e.0 e.1) options) (eqb-true version' version first.0) h)
marks-here key version ballot (Fact.Booted epoch) w = tt
marks-here key version ballot (Fact.Floor origin era upto) w = tt
marks-here key version ballot (Fact.Promised key' low high ballot') w = tt
marks-here key version ballot (Fact.Heard tx outcome) w = tt
marks-here key version ballot (Fact.Adopted key' version' item adds) w = tt

pub marks-told : (facts : List Fact) (key : Key) (version : ℕ) (ballot : Ballot) → AllByRecursion IsWellFormedFact facts
    → AllByRecursion (λ e. IsWellFormedEntry key version e.0 e.1) (votes_of facts key version ballot)
marks-told [] key version ballot w = tt
marks-told (fact ∷ facts) key version ballot w =
    each-union (λ e. IsWellFormedEntry key version e.0 e.1) (votes_of facts key version ballot) (marks_voted key version ballot fact) (marks-told facts key version ballot w.1) (marks-here key version ballot fact w.0)

pub marks-ascending : (facts : List Fact) (key : Key) (version : ℕ) (ballot : Ballot) → are_ascending (votes_of facts key version ballot) ≡ true
marks-ascending [] key version ballot = refl
marks-ascending (fact ∷ facts) key version ballot = ascending-union (votes_of facts key version ballot) (marks_voted key version ballot fact) (marks-ascending facts key version ballot)
