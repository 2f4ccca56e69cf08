-- What is seen of acts one after another.
use Rattle.std.proofs.Common.{◌≡◌, ◌≢◌, ℕ, ◌+◌, ◌==◌, Bool, true, false, List, [], ◌∷◌, ◌++◌, Option, refl, sym, ◌∙◌, ap, ap₂, inl, inr, arith, append-nil, map}
use Rattle.std.proofs.lemmas.Bool.{cases_Bool, eqb-true}
use Rattle.std.proofs.lemmas.Bool.Decides.{nat_tests}
use Rattle.std.proofs.lemmas.Grind.{flat_map-append}
use Rattle.mdcc_base.specs.declared.identifiers.TxId.{TxId}
use Rattle.mdcc_def_messages.specs.declared.facts.Fact.{Fact}
use Rattle.mdcc_theorem_server_runs.specs.Told.{Shows, line_by, send_by, sends_in, server_heard_line, server_lines_in}
use Rattle.mdcc_def_server_runs.specs.Acts.{Act, appended_by, facts_appended, steps_in}
use Rattle.mdcc_def_server_runs.specs.Sending.{facts_logged, heard_printed}
use Rattle.mdcc_def_server_runs.specs.declared.lines.ServerLine.{ServerLine}

-- ---- one after another

pub steps_append : (xs ys : List Act) → steps_in (xs ++ ys) ≡ steps_in xs + steps_in ys
steps_append [] ys = omega arith
steps_append (x ∷ xs) ys = let ih = steps_append xs ys in omega (arith, ih)

pub shows_then : {a : ℕ} {xs ys : List Act} {f g : List Fact} {l m : List ServerLine} {s t : List Act} {n k : ℕ}
    → Shows a xs f l s n → Shows a ys g m t k → Shows a (xs ++ ys) (f ++ g) (l ++ m) (s ++ t) (n + k)
shows_then {a = a} {xs = xs} {ys = ys} one two = record {
  facts_are = flat_map-append (appended_by a) xs ys ∙ ap₂ (λ (x y : List Fact). x ++ y) one.facts_are two.facts_are;
  others = λ b other. flat_map-append (appended_by b) xs ys ∙ ap₂ (λ (x y : List Fact). x ++ y) (one.others b other) (two.others b other);
  lines_are = flat_map-append line_by xs ys ∙ ap₂ (λ (x y : List ServerLine). x ++ y) one.lines_are two.lines_are;
  sends_are = flat_map-append send_by xs ys ∙ ap₂ (λ (x y : List Act). x ++ y) one.sends_are two.sends_are;
  steps_are = steps_append xs ys ∙ ap₂ (λ (x y : ℕ). x + y) one.steps_are two.steps_are;
}

pub shows_as : {a : ℕ} {xs : List Act} {f g : List Fact} {l m : List ServerLine} {s t : List Act} {n k : ℕ}
    → Shows a xs f l s n → f ≡ g → l ≡ m → s ≡ t → n ≡ k → Shows a xs g m t k
shows_as shows facts lines sends steps = record {
  facts_are = shows.facts_are ∙ facts;
  others = shows.others;
  lines_are = shows.lines_are ∙ lines;
  sends_are = shows.sends_are ∙ sends;
  steps_are = shows.steps_are ∙ steps;
}

-- What is seen of acts at every log.
pub record Sees (acts : List Act) (facts : ℕ → List Fact) (lines : List ServerLine) (sends : List Act) (steps : ℕ) : Type 0 where
  pub facts_are : (centre : ℕ) → facts_appended centre acts ≡ facts centre
  pub lines_are : server_lines_in acts ≡ lines
  pub sends_are : sends_in acts ≡ sends
  pub steps_are : steps_in acts ≡ steps

-- nothing is seen of them but steps
abbrev pub IsInward : List Act → ℕ → Type 0
IsInward acts steps = Sees acts (λ centre. []) [] [] steps

pub sees_then : {xs ys : List Act} {f g : ℕ → List Fact} {l m : List ServerLine} {s t : List Act} {n k : ℕ}
    → Sees xs f l s n → Sees ys g m t k → Sees (xs ++ ys) (λ c. f c ++ g c) (l ++ m) (s ++ t) (n + k)
sees_then {xs = xs} {ys = ys} one two = record {
  facts_are = λ c. flat_map-append (appended_by c) xs ys ∙ ap₂ (λ (x y : List Fact). x ++ y) (one.facts_are c) (two.facts_are c);
  lines_are = flat_map-append line_by xs ys ∙ ap₂ (λ (x y : List ServerLine). x ++ y) one.lines_are two.lines_are;
  sends_are = flat_map-append send_by xs ys ∙ ap₂ (λ (x y : List Act). x ++ y) one.sends_are two.sends_are;
  steps_are = steps_append xs ys ∙ ap₂ (λ (x y : ℕ). x + y) one.steps_are two.steps_are;
}

pub inward_none : IsInward [] 0
inward_none = record { facts_are = λ c. refl; lines_are = refl; sends_are = refl; steps_are = refl }

pub inward_stepped : IsInward (Act.Stepped ∷ []) 1
inward_stepped = record { facts_are = λ c. refl; lines_are = refl; sends_are = refl; steps_are = refl }

pub inward_dropped : IsInward (Act.Dropped ∷ []) 0
inward_dropped = record { facts_are = λ c. refl; lines_are = refl; sends_are = refl; steps_are = refl }

pub inward_received : (at : ℕ) (gave : Option (List ℕ)) → IsInward (Act.Receive at gave ∷ []) 0
inward_received at gave = record { facts_are = λ c. refl; lines_are = refl; sends_are = refl; steps_are = refl }

pub inward_shows : (a : ℕ) {acts : List Act} {n : ℕ} → IsInward acts n → Shows a acts [] [] [] n
inward_shows a is = record {
  facts_are = is.facts_are a;
  others = λ b other. is.facts_are b;
  lines_are = is.lines_are;
  sends_are = is.sends_are;
  steps_are = is.steps_are;
}

-- ---- single acts

pub shows_none : (a : ℕ) → Shows a [] [] [] [] 0
shows_none a = record { facts_are = refl; others = λ b other. refl; lines_are = refl; sends_are = refl; steps_are = refl }

pub shows_logged : (a : ℕ) (facts : List Fact) → Shows a (facts_logged a facts) facts [] [] 0
shows_logged a [] = shows_none a
shows_logged a (fact ∷ facts) = record {
  facts_are = rw here (append-nil (fact ∷ facts));
  others = λ b other. rw (there b other) refl;
  lines_are = refl;
  sends_are = refl;
  steps_are = refl;
}
  where
    here : (a == a) ≡ true
    here = grind (arith, nat_tests)

    there : (b : ℕ) → b ≢ a → (a == b) ≡ false
    there b other = elim (cases_Bool (a == b)) [
      | inl e ↦ absurd (other (sym (eqb-true a b e)))
      | inr e ↦ e
    ]

pub shows_heard : (a : ℕ) (heard : List (TxId × Bool)) → Shows a (heard_printed a heard) [] (map (server_heard_line a) heard) [] 0
shows_heard a [] = shows_none a
shows_heard a (one ∷ heard) =
    let ih = shows_heard a heard in
    record {
      facts_are = ih.facts_are;
      others = ih.others;
      lines_are = ap (λ (xs : List ServerLine). server_heard_line a one ∷ xs) ih.lines_are;
      sends_are = ih.sends_are;
      steps_are = (let e = ih.steps_are in omega (e, arith));
    }
