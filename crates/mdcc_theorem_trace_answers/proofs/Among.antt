-- What stands in a list, by its place and by recursion.
use Rattle.std.proofs.Common.{Contains, List, [], arith, inl, inr, suc, sym, zero, ◌∷◌}
use Rattle.mdcc_theorem_trace_states.specs.Words.{In}

pub Contains-In : {X : Type 0} (xs : List X) (x : X) → In x xs → Contains xs x
Contains-In [] x h = absurd h
Contains-In (y ∷ ys) x h =
    elim h [
      | inl here ↦ (0, omega arith, sym here)
      | inr there ↦ let rest : Contains ys x = Contains-In ys x there in (suc rest.0, omega arith, rest.2)
    ]

pub In-Contains : {X : Type 0} (xs : List X) (x : X) → Contains xs x → In x xs
In-Contains [] x (k, below, is) = absurd (omega arith)
In-Contains (y ∷ ys) x (zero, below, is) = inl (sym is)
In-Contains (y ∷ ys) x (suc k, below, is) = inr (In-Contains ys x (k, omega arith, is))
