-- What was received stays received, also what a centre is about to do.
use Rattle.std.proofs.Common.{List, Some, [], arith, inl, inr, refl, ℕ, ◌+◌, ◌++◌, ◌∷◌, ◌≡◌, ◌≤◌}
use Rattle.std.specs.List.{AllByRecursion}
use Rattle.mdcc_config.specs.declared.config.Config.{Config}
use Rattle.mdcc_base.specs.declared.identifiers.TxId.{TxId}
use Rattle.mdcc_option.specs.declared.choices.Choice.{Choice}
use Rattle.mdcc_def_server_runs.specs.Acts.{Act, steps_in}
use Rattle.mdcc_theorem_trace_states.specs.Words.{In}
use Rattle.mdcc_theorem_clusters.proofs.Counting.{count_in, steps-more, steps-own, steps_at}
use Rattle.mdcc_theorem_clusters.proofs.Answered.{under-more}
use Rattle.mdcc_theorem_clusters.specs.Limits.{steps_done}
use Rattle.mdcc_theorem_clusters.specs.Asked.{IsAskedFor, WasReceived}

-- all that is done once a centre does these acts
abbrev pub acts_onto : ℕ → List Act → List (ℕ × Act) → List (ℕ × Act)
acts_onto a [] done = done
acts_onto a (act ∷ acts) done = acts_onto a acts ((a, act) ∷ done)

-- what was received is so later too, and no step is undone
pub record IsLater (old new : List (ℕ × Act)) : Type 0 where
  pub received : (b : ℕ) (bytes : List ℕ) → WasReceived old b bytes → WasReceived new b bytes
  pub steps : (b : ℕ) → count_in b (steps_at old) ≤ count_in b (steps_at new)
  pub total : steps_done old ≤ steps_done new

-- once it has done these acts
abbrev pub ReceivedBy : ℕ → List Act → List (ℕ × Act) → ℕ → List ℕ → Type 0
ReceivedBy a acts done = WasReceived (acts_onto a acts done)

pub all-like : {X : Type 0} (P Q : X → Type 0) (xs : List X) → ((x : X) → P x → Q x) → AllByRecursion P xs → AllByRecursion Q xs
all-like P Q [] f h = tt
all-like P Q (x ∷ xs) f h = (f x h.0, all-like P Q xs f h.1)

-- ---- later

pub one-later : (a : ℕ) (act : Act) (done : List (ℕ × Act)) → IsLater done ((a, act) ∷ done)
one-later a act done = record {
  received = λ b bytes h. inr h;
  steps = λ b. let e = steps-more b (a, act) done in omega (arith, e);
  total = omega arith;
}

pub same-later : (done : List (ℕ × Act)) → IsLater done done
same-later done = record { received = λ b bytes h. h; steps = λ b. omega arith; total = omega arith }

pub then-later : (old mid new : List (ℕ × Act)) → IsLater old mid → IsLater mid new → IsLater old new
then-later old mid new h k = record {
  received = λ b bytes r. k.received b bytes (h.received b bytes r);
  steps = λ b. let x = h.steps b in let y = k.steps b in omega (arith, x, y);
  total = let x = h.total in let y = k.total in omega (arith, x, y);
}

both-later : (a : ℕ) (act : Act) (old new : List (ℕ × Act)) → IsLater old new → IsLater ((a, act) ∷ old) ((a, act) ∷ new)
both-later a act old new h = record {
  received = λ b bytes i. elim i [ inl e ↦ inl e | inr r ↦ inr (h.received b bytes r) ];
  steps = λ b. let x = steps-more b (a, act) old in let y = steps-more b (a, act) new in let z = h.steps b in omega (arith, x, y, z);
  total = let z = h.total in omega (arith, z);
}

-- the same acts after both
pub onto-later : (a : ℕ) (acts : List Act) (old new : List (ℕ × Act)) → IsLater old new → IsLater (acts_onto a acts old) (acts_onto a acts new)
onto-later a [] old new h = h
onto-later a (act ∷ acts) old new h = onto-later a acts ((a, act) ∷ old) ((a, act) ∷ new) (both-later a act old new h)

-- what is done stays so
pub onto-done : (a : ℕ) (acts : List Act) (done : List (ℕ × Act)) → IsLater done (acts_onto a acts done)
onto-done a [] done = same-later done
onto-done a (act ∷ acts) done = then-later done ((a, act) ∷ done) (acts_onto a acts ((a, act) ∷ done)) (one-later a act done) (onto-done a acts ((a, act) ∷ done))

pub onto-first : (a : ℕ) (first more : List Act) (done : List (ℕ × Act)) → IsLater (acts_onto a first done) (acts_onto a (first ++ more) done)
onto-first a [] more done = onto-done a more done
onto-first a (act ∷ first) more done = onto-first a first more ((a, act) ∷ done)

-- and so is each of the acts then
pub onto-one : (a : ℕ) (acts : List Act) (done : List (ℕ × Act)) (bytes : List ℕ) → In (Act.Receive (a + 16) (Some bytes)) acts → WasReceived (acts_onto a acts done) a bytes
onto-one a [] done bytes i = absurd i
onto-one a (act ∷ acts) done bytes i =
    elim i [
      | inl e ↦ (onto-done a acts ((a, act) ∷ done)).received a bytes (inl (rw e refl))
      | inr r ↦ onto-one a acts ((a, act) ∷ done) bytes r
    ]

-- its steps are counted
pub onto-steps : (a : ℕ) (acts : List Act) (done : List (ℕ × Act)) → count_in a (steps_at (acts_onto a acts done)) ≡ steps_in acts + count_in a (steps_at done)
onto-steps a [] done = omega arith
onto-steps a (act ∷ acts) done =
    let rest = onto-steps a acts ((a, act) ∷ done) in
    let one = steps-own a act done in
    omega (arith, rest, one)

-- ---- what was asked for

In-after : {A : Type 0} (x : A) (xs ys : List A) → In x ys → In x (xs ++ ys)
In-after x [] ys h = h
In-after x (z ∷ xs) ys h = inr (In-after x xs ys h)

pub asked-for : (config : Config) (old new : List (ℕ × Act)) → IsLater old new → (fresh named : List (TxId × ℕ)) (a : ℕ) (tx : TxId) (choices : List Choice) → IsAskedFor config (WasReceived old) named a tx choices
    → IsAskedFor config (WasReceived new) (fresh ++ named) a tx choices
asked-for config old new later fresh named a tx choices h = record {
  serial = h.serial;
  name = In-after (tx, h.serial) fresh named h.name;
  parts = h.parts;
  asked = under-more config (WasReceived old) (WasReceived new) a (λ bytes r. later.received a bytes r) h.serial h.parts h.asked;
  are = h.are;
}
