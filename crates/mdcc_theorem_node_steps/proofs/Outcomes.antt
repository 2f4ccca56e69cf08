-- What well-formed votes decide is well-formed.
use Rattle.std.proofs.Common.{◌≡◌, ℕ, ◌&&◌, true, List, [], ◌∷◌, length, map, refl, ap, sym, ◌∙◌, subst, None}
use Rattle.std.specs.Int.{IsInRange}
use Rattle.std.specs.List.{AllByRecursion}
use Rattle.std.specs.Prelude.{option_map}
use Rattle.std.proofs.lemmas.Bool.{and_parts, cond_both}
use Rattle.mdcc_base.specs.Key.{key_eq, key_lt}
use Rattle.mdcc_base.specs.Sizes.{Sizes}
use Rattle.mdcc_base.specs.TxId.{tx_eq}
use Rattle.mdcc_base.specs.declared.identifiers.TxId.{TxId}
use Rattle.mdcc_base.specs.declared.key.Key.{Key}
use Rattle.mdcc_option.proofs.Equal.{Decides-key, Decides-tx}
use Rattle.mdcc_option.specs.declared.choices.Choice.{Choice}
use Rattle.mdcc_option.specs.declared.choices.Mark.{Mark}
use Rattle.mdcc_option.specs.declared.choices.Outcome.{Outcome}
use Rattle.mdcc_struct.specs.Maps.{value_of}
use Rattle.mdcc_def_protocol.specs.Facts.{unresolved_of}
use Rattle.mdcc_def_protocol.specs.Manager.{keys_of_choices}
use Rattle.mdcc_def_protocol.specs.Recover.{keys_watched}
use Rattle.mdcc_def_protocol.specs.Volatile.{Managing, Recovering, Undecided, is_watched, opened_of}
use Rattle.mdcc_def_messages.specs.WellFormed.{IsWellFormedFact}
use Rattle.mdcc_def_messages.specs.WellFormedParts.{IsWellFormedEntry, IsWellFormedHeard, IsWellFormedOf, IsWellFormedTx, IsWellFormedWriteSet, choice_lt, is_ascending_by, written_lt}
use Rattle.mdcc_def_messages.specs.declared.facts.Fact.{Fact}
use Rattle.mdcc_theorem_node_steps.specs.WellFormedVolatile.{IsWellFormedOpen, IsWellFormedVoteKept}
use Rattle.mdcc_theorem_node_steps.proofs.Decided.{AreMatched, IsCounted, decided-choices, matched-each}
use Rattle.mdcc_theorem_node_steps.proofs.Deciding.{IsDecidedBy, IsOpenDecided, IsWatchedDecided}
use Rattle.mdcc_theorem_node_steps.proofs.Held.{HoldsIn, holds-at, holds-map, holds-weaker, value-in}
use Rattle.mdcc_theorem_node_steps.proofs.Opened.{length-map}
use Rattle.mdcc_theorem_node_steps.proofs.Proposed.{holds-find}
use Rattle.mdcc_theorem_node_steps.proofs.Told.{unresolved-told}

pub entry-tx : (key : Key) (version : ℕ) (tx : TxId) (mark : Mark) → IsWellFormedEntry key version tx mark → IsWellFormedTx tx
entry-tx key version tx Mark.Reject h = h
entry-tx key version tx (Mark.Accept choice) h = subst IsWellFormedTx h.same_tx h.choice_itself.tx

-- ---- keys in order

-- 1 to 8 keys, ascending
abbrev pub AreKeys : List Key → Type 0
AreKeys keys = IsInRange 1 8 (length keys) × (is_ascending_by key_lt keys ≡ true)

choices-by_key : (choices : List Choice) → is_ascending_by choice_lt choices ≡ is_ascending_by key_lt (keys_of_choices choices)
choices-by_key [] = refl
choices-by_key (c ∷ []) = refl
choices-by_key (c ∷ d ∷ cs) = ap (λ b. key_lt c.key d.key && b) (choices-by_key (d ∷ cs))

written-by_key : (set : List (Key × ℕ)) → is_ascending_by written_lt set ≡ is_ascending_by key_lt (map (λ e. e.0) set)
written-by_key [] = refl
written-by_key (c ∷ []) = refl
written-by_key (c ∷ d ∷ cs) = ap (λ b. key_lt c.0 d.0 && b) (written-by_key (d ∷ cs))

open-keys : (t : Undecided) → IsWellFormedOpen t → AreKeys (keys_of_choices t.choices)
open-keys t w = (
  subst (λ n. IsInRange 1 8 n) (sym (length-map (λ (choice : Choice). choice.key) t.choices)) w.count,
  sym (choices-by_key t.choices) ∙ w.ascending,
)

set-keys : (set : List (Key × ℕ)) → IsWellFormedWriteSet set → AreKeys (map (λ (e : Key × ℕ). e.0) set)
set-keys set w = (
  subst (λ n. IsInRange 1 8 n) (sym (length-map (λ (e : Key × ℕ). e.0) set)) w.count,
  sym (written-by_key set) ∙ w.ascending,
)

watched-keys : (facts : List Fact) (recovery : Recovering) (tx : TxId) → AllByRecursion IsWellFormedFact facts → HoldsIn AreKeys (keys_watched facts recovery tx)
watched-keys facts recovery tx known =
    cond_both (is_watched recovery tx) (option_map (λ write_set. map (λ e. e.0) write_set) (value_of (unresolved_of facts) tx)) None (HoldsIn AreKeys)
    (λ e. holds-map AreKeys (λ (set : List (Key × ℕ)). map (λ (e : Key × ℕ). e.0) set) (value_of (unresolved_of facts) tx)
    (holds-weaker (λ (set : List (Key × ℕ)). IsWellFormedTx tx × IsWellFormedWriteSet set) (λ (set : List (Key × ℕ)). AreKeys (map (λ (e : Key × ℕ). e.0) set)) (value_of (unresolved_of facts) tx) (λ set h. set-keys set h.1)
    (value-in (λ (t : TxId) (set : List (Key × ℕ)). IsWellFormedTx t × IsWellFormedWriteSet set) (unresolved_of facts) tx (unresolved-told facts known)))) (λ e. tt)

-- ---- outcomes

abbrev IsOwnChoice : TxId → Key → Choice → Type 0
IsOwnChoice tx key choice = IsWellFormedOf tx choice × (choice.key ≡ key)

counted-choice : (tx : TxId) (key : Key) (choice : Choice) → IsCounted IsWellFormedVoteKept tx key (Mark.Accept choice) → IsOwnChoice tx key choice
counted-choice tx key choice h =
    let vote = h.vote in
    let entry : IsWellFormedEntry vote.key vote.version vote.tx (Mark.Accept choice) = subst (λ m. IsWellFormedEntry vote.key vote.version vote.tx m) h.is h.holds.entry in
    let both = and_parts (tx_eq vote.tx tx) (key_eq vote.key key) h.on in
    (record { choice_itself = entry.choice_itself; same_tx = entry.same_tx ∙ (Decides-tx vote.tx tx).0 both.0 }, entry.same_key ∙ (Decides-key vote.key key).0 both.1)

matched-keys : (tx : TxId) (keys : List Key) (choices : List Choice) → AreMatched (IsOwnChoice tx) keys choices → keys_of_choices choices ≡ keys
matched-keys tx [] [] h = refl
matched-keys tx [] (c ∷ cs) h = absurd h
matched-keys tx (k ∷ ks) [] h = absurd h
matched-keys tx (k ∷ ks) (c ∷ cs) h = rw (h.0.1, matched-keys tx ks cs h.1) refl

pub formed-decided : (quorums : Sizes) (tx : TxId) (keys : List Key) (outcome : Outcome) → IsWellFormedTx tx → AreKeys keys → IsDecidedBy IsWellFormedVoteKept quorums tx keys outcome
    → IsWellFormedHeard tx outcome
formed-decided quorums tx keys Outcome.Abort w k d = record { tx_itself = w; outcome_itself = tt }
formed-decided quorums tx keys (Outcome.Commit choices) w k d =
    let matched = decided-choices IsWellFormedVoteKept (IsOwnChoice tx) quorums d.votes tx keys choices (counted-choice tx) d.each d.decided in
    let same = matched-keys tx keys choices matched in
    record {
      tx_itself = w;
      outcome_itself = record {
        count = subst (λ n. IsInRange 1 8 n) (sym (ap length same) ∙ length-map (λ (choice : Choice). choice.key) choices) k.0;
        each = matched-each (IsOwnChoice tx) (IsWellFormedOf tx) keys choices (λ key choice h. h.0) matched;
        ascending = choices-by_key choices ∙ (ap (is_ascending_by key_lt) same ∙ k.1);
      };
    }

pub formed-open : (quorums : Sizes) (manager : Managing) (tx : TxId) (outcome : Outcome) → IsWellFormedTx tx → AllByRecursion IsWellFormedOpen manager.opened
    → IsOpenDecided IsWellFormedVoteKept quorums manager tx outcome → IsWellFormedHeard tx outcome
formed-open quorums manager tx outcome w kept d =
    let t = d.opened in
    let open_one = holds-at IsWellFormedOpen (opened_of manager tx) t (holds-find IsWellFormedOpen (λ t. tx_eq t.tx tx) manager.opened kept) d.is in
    formed-decided quorums tx (keys_of_choices t.choices) outcome w (open-keys t open_one) d.by

pub formed-watched : (quorums : Sizes) (facts : List Fact) (recovery : Recovering) (tx : TxId) (decided : TxId × Outcome) → IsWellFormedTx tx → AllByRecursion IsWellFormedFact facts
    → IsWatchedDecided IsWellFormedVoteKept quorums facts recovery tx decided → IsWellFormedHeard decided.0 decided.1
formed-watched quorums facts recovery tx decided w known d =
    let keys = holds-at AreKeys (keys_watched facts recovery tx) d.keys (watched-keys facts recovery tx known) d.is in
    subst (λ t. IsWellFormedHeard t decided.1) (sym d.same) (formed-decided quorums tx d.keys decided.1 w keys d.by)
