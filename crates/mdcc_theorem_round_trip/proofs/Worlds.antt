-- In a world that has its invariant an open transaction has choices of different keys, and no stop is armed.
use Rattle.std.proofs.Common.{◌≡◌, ℕ, true, false, List, [], ◌∷◌, refl, sym, ◌∙◌, subst, inl, inr, arith}
use Rattle.std.specs.List.{AllByRecursion}
use Rattle.std.proofs.lemmas.Bool.{and_parts, cases_Bool, true≢false}
use Rattle.std.proofs.lemmas.Bool.Decides.{nat_tests}
use Rattle.mdcc_base.specs.Key.{key_eq, key_lt}
use Rattle.mdcc_base.specs.TxId.{tx_eq}
use Rattle.mdcc_base.specs.declared.identifiers.TxId.{TxId}
use Rattle.mdcc_option.specs.declared.choices.Choice.{Choice}
use Rattle.mdcc_def_messages.specs.WellFormedParts.{IsWellFormedCommit, IsWellFormedOf, choice_lt, is_ascending_by}
use Rattle.mdcc_def_protocol.specs.Volatile.{Undecided}
use Rattle.mdcc_def_simulation.specs.State.{World, centre_at}
use Rattle.mdcc_theorem_node_steps.proofs.Each.{each-found}
use Rattle.mdcc_theorem_node_steps.specs.WellFormedVolatile.{IsWellFormedOpen}
use Rattle.mdcc_theorem_worlds.specs.WorldInvariant.{IsWorld}
use Rattle.mdcc_theorem_round_trip.specs.Deciding.{AreAllDifferent, AreChoicesOf, IsFastQuorum, have_one_key}
use Rattle.mdcc_theorem_round_trip.specs.RoundTrips.{AcceptsEach, IsReady}
use Rattle.mdcc_theorem_round_trip.specs.Worlds.{MayCommit}
use Rattle.mdcc_theorem_round_trip.proofs.Apart.{key-true}
use Rattle.mdcc_theorem_round_trip.proofs.Lists.{each-weaker}

key_lt-trans : (a b c : List ℕ) → key_lt a b ≡ true → key_lt b c ≡ true → key_lt a c ≡ true
key_lt-trans [] [] c h k = absurd cc
key_lt-trans [] (b ∷ bs) [] h k = absurd cc
key_lt-trans [] (b ∷ bs) (c ∷ cs) h k = refl
key_lt-trans (a ∷ as') [] c h k = absurd cc
key_lt-trans (a ∷ as') (b ∷ bs) [] h k = absurd cc
key_lt-trans (a ∷ as') (b ∷ bs) (c ∷ cs) h k = grind (arith, nat_tests, h, k, key_lt-trans as' bs cs)

key_lt-not_self : (a : List ℕ) → key_lt a a ≡ false
key_lt-not_self [] = refl
key_lt-not_self (a ∷ as') = grind (arith, nat_tests, key_lt-not_self as')

lt-differ : (a b : List ℕ) → key_lt a b ≡ true → key_eq a b ≡ false
lt-differ a b h = elim (cases_Bool (key_eq a b)) [
  | inl e ↦ absurd (true≢false (sym (subst (λ k. key_lt a k ≡ true) (sym (key-true a b e)) h) ∙ key_lt-not_self a))
  | inr e ↦ e
]

below-all : (choice : Choice) (choices : List Choice) → is_ascending_by choice_lt (choice ∷ choices) ≡ true → AllByRecursion (λ (other : Choice). key_lt choice.key other.key ≡ true) choices
below-all choice [] h = tt
below-all choice (next ∷ choices) h =
    let parts = and_parts (choice_lt choice next) (is_ascending_by choice_lt (next ∷ choices)) h in (
      parts.0,
      each-weaker (λ (other : Choice). key_lt next.key other.key ≡ true) (λ (other : Choice). key_lt choice.key other.key ≡ true) choices
          (λ other k. key_lt-trans choice.key next.key other.key parts.0 k) (below-all next choices parts.1),
    )

rest-ascending : (choice : Choice) (choices : List Choice) → is_ascending_by choice_lt (choice ∷ choices) ≡ true → is_ascending_by choice_lt choices ≡ true
rest-ascending choice [] h = refl
rest-ascending choice (next ∷ choices) h = (and_parts (choice_lt choice next) (is_ascending_by choice_lt (next ∷ choices)) h).1

ascending-apart : (choices : List Choice) → is_ascending_by choice_lt choices ≡ true → AreAllDifferent have_one_key choices
ascending-apart [] h = tt
ascending-apart (choice ∷ choices) h = (
  each-weaker (λ (other : Choice). key_lt choice.key other.key ≡ true) (λ (other : Choice). have_one_key choice other ≡ false) choices (λ other k. lt-differ choice.key other.key k) (below-all choice choices h),
  ascending-apart choices (rest-ascending choice choices h),
)

choices-of : (tx : TxId) (choices : List Choice) → IsWellFormedCommit tx choices → AreChoicesOf tx choices
choices-of tx choices h = record {
  some = h.count.0;
  own = each-weaker (IsWellFormedOf tx) (λ (choice : Choice). choice.tx ≡ tx) choices (λ choice k. k.same_tx) h.each;
  apart = ascending-apart choices h.ascending;
}

pub worlds-ready : (w : World) (a : ℕ) (t : Undecided) (members : List ℕ) → IsWorld w
    → MayCommit w a t → IsFastQuorum w.cluster.quorums members → AllByRecursion (AcceptsEach w t.choices) members
    → IsReady w a t members
worlds-ready w a t members world may quorum accept =
    let node = world.nodes a may.centre in
    let found = each-found IsWellFormedOpen (λ (u : Undecided). tx_eq u.tx t.tx) (centre_at w a).volatile.manager.opened t node.volatile_itself.opened may.uncounted.opened in
    record {
      quorums = world.cluster_itself.quorums;
      sites = world.sites;
      undecided = record { centre = may.centre; unstopped = may.unstopped; uncounted = may.uncounted; unheard = may.unheard; unfinished = may.unfinished; uncrowded = may.uncrowded };
      choices = choices-of t.tx t.choices found.0;
      belong = may.belong;
      quorum = quorum;
      accept = accept;
    }
