-- Calls that a link records, one after another.
use Rattle.std.proofs.Common.{◌≡◌, ℕ, ◌+◌, List, [], ◌∷◌, ◌++◌, Option, Some, None, Result, Ok, Err, refl, sym, ◌∙◌, ap, inl, inr, arith}
use Rattle.std.proofs.lemmas.Grind.{flat_map-append}
use Rattle.std.proofs.lemmas.List.{append-nil, append_assoc, map-append}
use Rattle.std.specs.Option.{option_map}
use Rattle.mdcc_base.specs.Counts.{sum_over}
use Rattle.mdcc_base.specs.declared.faults.Failed.{Failed}
use Rattle.mdcc_link.specs.Link.{AddsLinkCall, LinkCall}
use Rattle.mdcc_serve_outbox.specs.Shows.{Records, call_of, calls_of, failed_in, sends_failed_by}
use Rattle.mdcc_def_server_runs.specs.Acts.{Act, but_answer, but_answers, lost_by, lost_in}

pub sum_append : {X : Type 0} (w : X → ℕ) (xs ys : List X) → sum_over w (xs ++ ys) ≡ sum_over w xs + sum_over w ys
sum_append w [] ys = omega arith
sum_append w (x ∷ xs) ys = let ih = sum_append w xs ys in omega (arith, ih)

pub calls_append : (xs ys : List Act) → calls_of (xs ++ ys) ≡ calls_of xs ++ calls_of ys
calls_append xs ys = flat_map-append call_of xs ys

pub answers_append : (xs ys : List Act) → but_answers (xs ++ ys) ≡ but_answers xs ++ but_answers ys
answers_append xs ys = map-append but_answer xs ys

pub lost_append : (xs ys : List Act) → lost_in (xs ++ ys) ≡ lost_in xs + lost_in ys
lost_append xs ys = sum_append lost_by xs ys

pub failed_append : (xs ys : List Act) → failed_in (xs ++ ys) ≡ failed_in xs + failed_in ys
failed_append xs ys = sum_append sends_failed_by xs ys

-- ---- calls

pub none_recorded : (o : Option (List LinkCall)) → Records [] o o
none_recorded None = inl refl
none_recorded (Some before) = inr (ap (λ (calls : List LinkCall). Some calls) (sym (append-nil before)))

both : (first second : List LinkCall) (o : Option (List LinkCall))
    → option_map (λ before. before ++ second) (option_map (λ before. before ++ first) o) ≡ option_map (λ before. before ++ (first ++ second)) o
both first second None = refl
both first second (Some before) = ap (λ (calls : List LinkCall). Some calls) (append_assoc before first second)

pub recorded_joined : (first second : List LinkCall) (old mid new : Option (List LinkCall))
    → Records first old mid → Records second mid new → Records (first ++ second) old new
recorded_joined first second old mid new one (inl gone) = inl gone
recorded_joined first second old mid new (inl gone) (inr two) = inl (two ∙ ap (λ (o : Option (List LinkCall)). option_map (λ before. before ++ second) o) gone)
recorded_joined first second old mid new (inr one) (inr two) =
    inr (two ∙ (ap (λ (o : Option (List LinkCall)). option_map (λ before. before ++ second) o) one ∙ both first second old))

pub call_recorded : {T : Type 0} (call : LinkCall) (old new : Option (List LinkCall)) (result : Result T Failed)
    → AddsLinkCall call old new result → Records (call ∷ []) old new
call_recorded call old new (Ok x) adds = inr adds.ok
call_recorded call old new (Err fault) adds = adds.err
