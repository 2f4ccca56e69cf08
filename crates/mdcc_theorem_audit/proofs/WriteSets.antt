-- The choices of a transaction that was begun have one write set: the instances of all of them.
use Rattle.std.proofs.Common.{◌≡◌, ℕ, List, [], ◌∷◌, inl, inr, map, refl, sym, ap, ◌∙◌, subst}
use Rattle.mdcc_base.specs.declared.identifiers.TxId.{TxId}
use Rattle.mdcc_base.specs.declared.key.Key.{Key}
use Rattle.mdcc_option.specs.Transaction.{choice_of_part, write_set_of_parts}
use Rattle.mdcc_option.specs.declared.choices.Choice.{Choice}
use Rattle.mdcc_option.specs.declared.cluster.Cluster.{Cluster}
use Rattle.mdcc_option.specs.declared.items.Part.{Part}
use Rattle.mdcc_def_ledger.specs.AllowedLedgers.{IsAllowed, IsAllowedBegun, part_in}
use Rattle.mdcc_def_ledger.specs.Ledger.{Added, Begun, Entry, Valued}
use Rattle.mdcc_theorem_agreement.proofs.ReducedLedger.{WasBegun}
use Rattle.mdcc_theorem_agreement.proofs.ReducedOptions.{In}
use Rattle.mdcc_theorem_agreement.proofs.Reduction.{reduced}

-- the instances of choices
abbrev pub instances : List Choice → List (Key × ℕ)
instances choices = map (λ choice. (choice.key, choice.version)) choices

instances-parts : (choices : List Choice) → write_set_of_parts (map part_in choices) ≡ instances choices
instances-parts [] = refl
instances-parts (c ∷ cs) = ap (λ (zs : List (Key × ℕ)). (c.key, c.version) ∷ zs) (instances-parts cs)

made-with : (tx : TxId) (ws : List (Key × ℕ)) (parts : List Part) (c : Choice) → In c (map (choice_of_part tx ws) parts) → c.write_set ≡ ws
made-with tx ws [] c h = elim h [ ]
made-with tx ws (p ∷ ps) c (inl here) = ap (λ (z : Choice). z.write_set) (sym here)
made-with tx ws (p ∷ ps) c (inr there) = made-with tx ws ps c there

begun-with : (cluster : Cluster) (before : List Entry) (a : ℕ) (tx : TxId) (choices : List Choice) → IsAllowedBegun cluster before a tx choices
    → (c : Choice) → In c choices → c.write_set ≡ instances choices
begun-with cluster before a tx choices h c there =
    made-with tx (write_set_of_parts (map part_in choices)) (map part_in choices) c (subst (In c) h.made there) ∙ instances-parts choices

pub one-write_set : (cluster : Cluster) (es : List Entry) → IsAllowed cluster es → (t : TxId) (cs : List Choice) → WasBegun (reduced es) t cs
    → (c : Choice) → In c cs → c.write_set ≡ instances cs
one-write_set cluster [] ok t cs begun c there = elim begun [ ]
one-write_set cluster (Added a fact ∷ es) ok t cs begun c there = one-write_set cluster es ok.0 t cs begun c there
one-write_set cluster (Valued a k v b os ∷ es) ok t cs begun c there = one-write_set cluster es ok.0 t cs begun c there
one-write_set cluster (Begun a u ds ∷ es) ok t cs (inl here) c there =
    begun-with cluster es a u ds ok.1.1 c (subst (In c) (sym here.1) there) ∙ ap instances here.1
one-write_set cluster (Begun a u ds ∷ es) ok t cs (inr before) c there = one-write_set cluster es ok.0 t cs before c there
