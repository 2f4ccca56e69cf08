-- A trace does acts of several centres in their order.
use Rattle.std.proofs.Common.{List, Some, [], ap, false, inl, inr, refl, ℕ, ◌++◌, ◌==◌, ◌∙◌, ◌∷◌, ◌≡◌}
use Rattle.std.proofs.lemmas.Bool.{cases_Bool, eq-eqb, eqb-true}
use Rattle.mdcc_config.specs.declared.config.Config.{Config}
use Rattle.mdcc_def_server_runs.specs.Acts.{Act, appended_by}
use Rattle.mdcc_theorem_commit_groups.specs.Groups.{facts_onto}
use Rattle.mdcc_theorem_clusters.specs.Several.{acts_by, does_these, done_onto}
use Rattle.mdcc_theorem_clusters.specs.Traces.{LifeEvent, Traced, after_next_at, traced_after_event, traced_after_events, with_left}

abbrev Have : Traced → List (ℕ × Act) → (ℕ → List Act) → Type 0
Have trace acts more = (c : ℕ) (act : Act) (rest : List Act) → acts_by c acts ≡ act ∷ rest → trace.left c ≡ Some (acts_by c acts ++ more c)

by-first : (a : ℕ) (act : Act) (acts : List (ℕ × Act)) → acts_by a ((a, act) ∷ acts) ≡ act ∷ acts_by a acts
by-first a act acts = rw (eq-eqb a a refl) refl

by-other : (a c : ℕ) (act : Act) (acts : List (ℕ × Act)) → (a == c) ≡ false → acts_by c ((a, act) ∷ acts) ≡ acts_by c acts
by-other a c act acts o = rw o refl

pub these-done : (config : Config) (trace : Traced) (acts : List (ℕ × Act)) (more : ℕ → List Act) → Have trace acts more → (traced_after_events config trace (does_these acts)).done ≡ done_onto acts trace.done
these-done config trace [] more have = refl
these-done config trace ((a, act) ∷ acts) more have =
    let mine : List Act = acts_by a acts ++ more a in
    let next : Traced = with_left (record { done = (a, act) ∷ trace.done; durable = facts_onto a (appended_by a act) trace.durable; left = trace.left }) a (Some mine) in
    let left : trace.left a ≡ Some (act ∷ mine) = have a act (acts_by a acts) (by-first a act acts) ∙ ap (λ (xs : List Act). Some (xs ++ more a)) (by-first a act acts) in
    let moved : traced_after_event config trace (LifeEvent.Does a) ≡ next = ap (after_next_at trace a) left in
    ap (λ (t : Traced). (traced_after_events config t (does_these acts)).done) moved
    ∙ these-done config next acts more (later trace a act acts more have)
  where
    later : (trace : Traced) (a : ℕ) (act : Act) (acts : List (ℕ × Act)) (more : ℕ → List Act) → Have trace ((a, act) ∷ acts) more
        → Have (with_left (record { done = (a, act) ∷ trace.done; durable = facts_onto a (appended_by a act) trace.durable; left = trace.left }) a (Some (acts_by a acts ++ more a))) acts more
    later trace a act acts more have c first rest e =
        elim (cases_Bool (a == c)) [
          | inl s ↦ rw s (ap (λ (z : ℕ). Some (acts_by z acts ++ more z)) (eqb-true a c s))
          | inr s ↦
              let same = by-other a c act acts s in
              rw s (have c first rest (same ∙ e) ∙ ap (λ (xs : List Act). Some (xs ++ more c)) same)
        ]
