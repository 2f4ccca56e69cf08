-- The counted votes stand for the ledger with one more entry.
use Rattle.std.proofs.Common.{◌≡◌, ℕ, Bool, true, false, cond, List, [], ◌∷◌, ◌++◌, refl, sym, inl, inr, reverse, map, Option, Some, ◌&&◌, ◌==◌, ◌||◌}
use Rattle.std.proofs.lemmas.Bool.{cases_Bool}
use Rattle.std.proofs.lemmas.List.{reverse-append}
use Rattle.std.specs.List.{list_any}
use Rattle.mdcc_base.specs.Ballot.{ballot_eq}
use Rattle.mdcc_base.specs.declared.identifiers.Ballot.{Ballot}
use Rattle.indexmap.specs.IndexMap.{get}
use Rattle.mdcc_base.specs.Key.{key_eq}
use Rattle.mdcc_base.specs.TxId.{tx_eq}
use Rattle.mdcc_base.specs.declared.identifiers.TxId.{TxId}
use Rattle.mdcc_base.specs.declared.key.Key.{Key}
use Rattle.mdcc_option.specs.declared.choices.Choice.{Choice}
use Rattle.mdcc_def_ledger.specs.Ledger.{Added, Begun, Entry, ballots_voted, choices_begun, with_ballot}
use Rattle.mdcc_def_messages.specs.declared.facts.Fact.{Fact}
use Rattle.mdcc_struct.specs.declared.options.Options.{Options}
use Rattle.mdcc_world_decisions.specs.Ballots.{BallotsByKey, ballots_at, pushed_new, voted_with}
use Rattle.mdcc_world_decisions.specs.Decided.{Instances, InstancesByTx, instance_of_choice, instances_at}

any-append : {X : Type 0} (test : X → Bool) (xs ys : List X) → list_any test (xs ++ ys) ≡ (list_any test xs || list_any test ys)
any-append test [] ys = refl
any-append test (x ∷ xs) ys = elim (cases_Bool (test x)) [
  | inl e ↦ rw e refl
  | inr e ↦ rw e (any-append test xs ys)
]

any-reverse : {X : Type 0} (test : X → Bool) (xs : List X) → list_any test (reverse xs) ≡ list_any test xs
any-reverse test [] = refl
any-reverse test (x ∷ xs) =
    rw (reverse-append (x ∷ []) xs, any-append test (reverse xs) (x ∷ []), any-reverse test xs)
    (elim (cases_Bool (test x)) [
      | inl e ↦ rw e (or_true (list_any test xs))
      | inr e ↦ rw e (or_false (list_any test xs))
    ])
  where
    or_true : (b : Bool) → (b || true) ≡ true
    or_true true = refl
    or_true false = refl

    or_false : (b : Bool) → (b || false) ≡ b
    or_false true = refl
    or_false false = refl

-- a ballot that is voted stands first in the ledger's list and last in the one that is kept
pub pushed_new-reverse : (ballots : List Ballot) (ballot : Ballot) → pushed_new (reverse ballots) ballot ≡ reverse (with_ballot ballots ballot)
pushed_new-reverse ballots ballot =
    rw (any-reverse (ballot_eq ballot) ballots)
    (elim (cases_Bool (list_any (ballot_eq ballot) ballots)) [
      | inl e ↦ rw e refl
      | inr e ↦ rw e (sym (reverse-append (ballot ∷ []) ballots))
    ])

-- one more vote of a centre
pub ballots-voted : (before after : BallotsByKey) (entries : List Entry) (centre : ℕ) (key : Key) (version : ℕ) (ballot : Ballot) (options : Options) (offered : Option Choice)
    → ((other : Key) (at : ℕ) → ballots_at before other at ≡ reverse (ballots_voted entries other at))
    → ((other : Key) (at : ℕ) → ballots_at after other at ≡ voted_with key version ballot other at (ballots_at before other at))
    → (other : Key) (at : ℕ) → ballots_at after other at ≡ reverse (ballots_voted (Added centre (Fact.Voted key version ballot options offered) ∷ entries) other at)
ballots-voted before after entries centre key version ballot options offered stands put other at =
    rw (put other at, stands other at)
    (by (version == at && key_eq key other))
  where
    by : (b : Bool) → cond b (pushed_new (reverse (ballots_voted entries other at)) ballot) (reverse (ballots_voted entries other at))
        ≡ reverse (cond b (with_ballot (ballots_voted entries other at) ballot) (ballots_voted entries other at))
    by true = pushed_new-reverse (ballots_voted entries other at) ballot
    by false = refl

-- the instances of a transaction that is begun
pub begun-put : (before after : InstancesByTx) (entries : List Entry) (centre : ℕ) (k tx : TxId) (choices : List Choice) (instances : Instances)
    → instances ≡ map instance_of_choice choices
    → get tx_eq after tx ≡ cond (tx_eq k tx) (Some instances) (get tx_eq before tx)
    → instances_at before tx ≡ map instance_of_choice (choices_begun entries tx)
    → instances_at after tx ≡ map instance_of_choice (choices_begun (Begun centre k choices ∷ entries) tx)
begun-put before after entries centre k tx choices instances made at stands =
    elim (cases_Bool (tx_eq k tx)) [
      | inl e ↦ rw (at, e) made
      | inr e ↦ rw (at, e) stands
    ]
