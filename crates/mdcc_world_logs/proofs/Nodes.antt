-- One node more that is booted for the first time.
use Rattle.std.proofs.Common.{◌≡◌, ◌+◌, ◌⊎◌, ◌∷◌, ◌++◌, [], List, Some, ap, arith, inl, inr, length, refl, suc, zero, ℕ, ◌∙◌}
use Rattle.std.specs.Prelude.{slice_get}
use Rattle.mdcc_world_logs.specs.Nodes.{AreStarted}
use Rattle.mdcc_node_log.specs.Nodes.{CentreStore, IsNodeOf}
use Rattle.mdcc_node.specs.declared.node.Node.{Node}
use Rattle.mdcc_option.specs.declared.cluster.Cluster.{Cluster}
use Rattle.mdcc_def_protocol.specs.Volatile.{initial_volatile}
use Rattle.mdcc_def_messages.specs.declared.facts.Fact.{Fact}

pushed-get : {X : Type 0} (xs : List X) (v x : X) (i : ℕ) → slice_get (xs ++ v ∷ []) i ≡ Some x → (slice_get xs i ≡ Some x) ⊎ ((i ≡ length xs) × (v ≡ x))
pushed-get [] v x zero at = let same : v ≡ x = cc in inr (refl, same)
pushed-get [] v x (suc i) at = absurd (cc)
pushed-get (y ∷ ys) v x zero at = inl at
pushed-get (y ∷ ys) v x (suc i) at = elim (pushed-get ys v x i at) [
  | inl there ↦ inl there
  | inr here ↦ inr (ap (λ (n : ℕ). suc n) here.0, here.1)
]

pub length-more : {X : Type 0} (xs : List X) (v : X) → length (xs ++ v ∷ []) ≡ length xs + 1
length-more [] v = refl
length-more (y ∷ ys) v = let ih = length-more ys v in omega (ih, arith)

pub one-started : (nodes : List (Node CentreStore)) (cluster : Cluster) (count number : ℕ) (node : Node CentreStore)
    → AreStarted nodes cluster count → number ≡ count + 1 → IsNodeOf node cluster number (Fact.Booted 1 ∷ []) initial_volatile
    → AreStarted (nodes ++ node ∷ []) cluster number
one-started nodes cluster count number node are next more = record {
  as_many = length-more nodes node ∙ omega (are.as_many, next, arith);
  each = λ place other at. elim (pushed-get nodes node other place at) [
    | inl there ↦ are.each place other there
    | inr here ↦ let same : number ≡ place + 1 = omega (here.0, are.as_many, next, arith) in rw (← same, ← here.1) more
  ];
}
