-- The entries of each centre beside its facts are paid by steps that it did.
use Rattle.std.proofs.Common.{List, Result, [], ap, arith, false, inl, inr, length, refl, subst, suc, sym, zero, ℕ, ◌*◌, ◌+◌, ◌++◌, ◌==◌, ◌∙◌, ◌∷◌, ◌≡◌, ◌≤◌}
use Rattle.std.proofs.lemmas.Bool.{cases_Bool, eq-eqb, eqb-true}
use Rattle.std.proofs.lemmas.Nat.{mul-le}
use Rattle.mdcc_theorem_agreement.specs.Laws.{begins_in}
use Rattle.mdcc_def_ledger.specs.Ledger.{Entry}
use Rattle.mdcc_def_messages.specs.declared.facts.Fact.{Fact}
use Rattle.mdcc_def_protocol.specs.Volatile.{Volatile}
use Rattle.mdcc_def_rules.specs.Steps.{NodeStep}
use Rattle.mdcc_def_rules.specs.declared.node.StepFault.{StepFault}
use Rattle.mdcc_theorem_server_runs.specs.Told.{steps_made}
use Rattle.mdcc_def_server_runs.specs.Acts.{Act}
use Rattle.mdcc_theorem_trace_states.specs.Invariant.{IsOf}
use Rattle.mdcc_theorem_trace_states.specs.Words.{Each}
use Rattle.mdcc_theorem_clusters.proofs.Counting.{begun-counted, begun-others, begun-own, begun_by, count-both, count-no, count-yes, count_in, fewer, ledger-long, plain-others, plain-own, plain_by, steps-long, steps_at, times, times-count, times-long}
use Rattle.mdcc_theorem_clusters.proofs.Weights.{IsFew}
use Rattle.mdcc_theorem_commit_groups.specs.Groups.{entries_made, facts_added_in}
use Rattle.mdcc_theorem_clusters.specs.Limits.{most_beside, most_of_step, steps_done}

-- by so many steps, with so many to come, all of which are among these
pub record IsPaid (es : List Entry) (a : ℕ) (done ahead : List (ℕ × Act)) (coming : ℕ) : Type 0 where
  pub spent : ℕ
  pub begun : count_in a (begun_by es) ≤ spent
  pub plain : count_in a (plain_by es) ≤ spent * most_of_step (steps_done done)
  pub room : spent + coming ≤ count_in a (steps_at ahead)

pub record IsPaidFor (es : List Entry) (a : ℕ) (done : List (ℕ × Act)) : Type 0 where
  pub begun : count_in a (begun_by es) ≤ count_in a (steps_at done)
  pub plain : count_in a (plain_by es) ≤ count_in a (steps_at done) * most_of_step (steps_done done)

-- ---- later

chain : (x y z : ℕ) → x ≤ y → y ≤ z → x ≤ z
chain x y z h k = omega (arith, h, k)

weighs : (x s t m n : ℕ) → s ≤ t → m ≤ n → x ≤ s * most_of_step m → x ≤ t * most_of_step n
weighs x s t m n h k l = chain x (s * most_of_step m) (t * most_of_step n) l (mul-le s (most_of_step m) t (most_of_step n) h (omega (arith, k)))

pub paid-later : (es : List Entry) (a : ℕ) (done new ahead later : List (ℕ × Act)) (coming : ℕ) → steps_done done ≤ steps_done new → count_in a (steps_at ahead) ≤ count_in a (steps_at later)
    → IsPaid es a done ahead coming → IsPaid es a new later coming
paid-later es a done new ahead later coming h k p =
    let begun = p.begun in
    let room = p.room in
    record {
      spent = p.spent;
      begun = begun;
      plain = weighs (count_in a (plain_by es)) p.spent p.spent (steps_done done) (steps_done new) (omega arith) h p.plain;
      room = omega (arith, room, k);
    }

pub paid-for-later : (es : List Entry) (a : ℕ) (done new : List (ℕ × Act)) → steps_done done ≤ steps_done new → count_in a (steps_at done) ≤ count_in a (steps_at new) → IsPaidFor es a done → IsPaidFor es a new
paid-for-later es a done new h k p =
    let begun = p.begun in
    record {
      begun = omega (arith, begun, k);
      plain = weighs (count_in a (plain_by es)) (count_in a (steps_at done)) (count_in a (steps_at new)) (steps_done done) (steps_done new) k h p.plain;
    }

-- more steps are to come, and are ahead
pub paid-more : (es : List Entry) (a : ℕ) (done ahead : List (ℕ × Act)) (coming more : ℕ) → more + count_in a (steps_at done) ≤ count_in a (steps_at ahead) → IsPaid es a done done coming → IsPaid es a done ahead (coming + more)
paid-more es a done ahead coming more h p =
    let room = p.room in
    record { spent = p.spent; begun = p.begun; plain = p.plain; room = omega (arith, room, h) }

pub paid-first : (es : List Entry) (a : ℕ) (done ahead : List (ℕ × Act)) → count_in a (steps_at done) ≤ count_in a (steps_at ahead) → IsPaidFor es a done → IsPaid es a done ahead 0
paid-first es a done ahead h p = record { spent = count_in a (steps_at done); begun = p.begun; plain = p.plain; room = omega (arith, h) }

pub paid-for : (es : List Entry) (a : ℕ) (done : List (ℕ × Act)) (coming : ℕ) → IsPaid es a done done coming → IsPaidFor es a done
paid-for es a done coming p =
    let begun = p.begun in
    let room = p.room in
    record {
      begun = omega (arith, begun, room);
      plain = weighs (count_in a (plain_by es)) p.spent (count_in a (steps_at done)) (steps_done done) (steps_done done) (omega (arith, room)) (omega arith) p.plain;
    }

-- ---- entries of others

pub paid-others : (new es : List Entry) (a b : ℕ) (done ahead : List (ℕ × Act)) (coming : ℕ) → (a == b) ≡ false → Each (IsOf a) new → IsPaid es b done ahead coming → IsPaid (new ++ es) b done ahead coming
paid-others new es a b done ahead coming other own p = record {
  spent = p.spent;
  begun = subst (λ (n : ℕ). n ≤ p.spent) (sym (begun-others a b new es other own)) p.begun;
  plain = subst (λ (n : ℕ). n ≤ p.spent * most_of_step (steps_done done)) (sym (plain-others a b new es other own)) p.plain;
  room = p.room;
}

pub paid-for-others : (new es : List Entry) (a b : ℕ) (done : List (ℕ × Act)) → (a == b) ≡ false → Each (IsOf a) new → IsPaidFor es b done → IsPaidFor (new ++ es) b done
paid-for-others new es a b done other own p = record {
  begun = subst (λ (n : ℕ). n ≤ count_in b (steps_at done)) (sym (begun-others a b new es other own)) p.begun;
  plain = subst (λ (n : ℕ). n ≤ count_in b (steps_at done) * most_of_step (steps_done done)) (sym (plain-others a b new es other own)) p.plain;
}

-- ---- a group

abbrev copies : ℕ → ℕ → List ℕ
copies zero a = []
copies (suc n) a = a ∷ copies n a

copies-own : (n a : ℕ) → count_in a (copies n a) ≡ n
copies-own zero a = refl
copies-own (suc n) a = count-yes a a (copies n a) (eq-eqb a a refl) ∙ ap suc (copies-own n a)

copies-others : (n a b : ℕ) → (a == b) ≡ false → count_in b (copies n a) ≡ 0
copies-others zero a b o = refl
copies-others (suc n) a b o = count-no b a (copies n a) o ∙ copies-others n a b o

copies-long : (n a : ℕ) (ks : List ℕ) → length (copies n a ++ ks) ≡ n + length ks
copies-long zero a ks = omega arith
copies-long (suc n) a ks = let h = copies-long n a ks in omega (arith, h)

module _ (es : List Entry) (a : ℕ) (old done : List (ℕ × Act)) (all : (b : ℕ) → IsPaidFor es b old) (total : steps_done old ≤ steps_done done) (each : (b : ℕ) → count_in b (steps_at old) ≤ count_in b (steps_at done)) (n : ℕ) (p : IsPaid es a old done n) where
  -- all begun transactions with the steps of the group are no more than the steps that were done
  begun-few : length (begun_by es) + n ≤ steps_done done
  begun-few =
      let most = fewer (copies n a ++ begun_by es) (steps_at done) of_each in
      let long = copies-long n a (begun_by es) in
      let steps = steps-long done in
      omega (arith, most, long, steps)
    where
      of_each : (b : ℕ) → count_in b (copies n a ++ begun_by es) ≤ count_in b (steps_at done)
      of_each b =
          let both = count-both b (copies n a) (begun_by es) in
          elim (cases_Bool (a == b)) [
            | inl e ↦ subst (λ (z : ℕ). count_in z (copies n a ++ begun_by es) ≤ count_in z (steps_at done)) (eqb-true a b e)
                (let mine = count-both a (copies n a) (begun_by es) in
                let own = copies-own n a in
                let begun = p.begun in
                let room = p.room in
                omega (arith, mine, own, begun, room))
            | inr e ↦
                let none = copies-others n a b e in
                let begun = (all b).begun in
                let more = each b in
                omega (arith, both, none, begun, more)
          ]

  module _ (made : List (Result NodeStep StepFault)) (volatile : Volatile) (few : IsFew es a made volatile) (steps : length (steps_made made) ≡ n) (own : Each (IsOf a) (entries_made a made)) where
    pub paid-group : IsPaid (entries_made a made ++ es) a done done 0
    paid-group =
        let new = begun-own a (entries_made a made) es own in
        let fresh = plain-own a (entries_made a made) es own in
        let some = few.begun in
        let begun = p.begun in
        let room = p.room in
        record {
          spent = p.spent + n;
          begun = omega (arith, new, some, begun, steps);
          plain = sum (length (plain_by (entries_made a made))) (count_in a (plain_by es)) (count_in a (plain_by (entries_made a made ++ es))) fresh
              (weighs (length (plain_by (entries_made a made))) (length (steps_made made)) n (length (begun_by es) + length (steps_made made)) (steps_done done) (omega (arith, steps))
              (let most = begun-few in omega (arith, most, steps)) few.plain)
              (weighs (count_in a (plain_by es)) p.spent p.spent (steps_done old) (steps_done done) (omega arith) total p.plain);
          room = omega (arith, room);
        }
      where
        plus : (x y z a b c : ℕ) → z ≡ x + y → x ≤ a → y ≤ b → c ≡ b + a → z ≤ c
        plus x y z a b c e h k t = omega (arith, e, h, k, t)

        both-times : (s m w : ℕ) → (s + m) * w ≡ s * w + m * w
        both-times s m w = grind arith

        sum : (x y z : ℕ) → z ≡ x + y → x ≤ n * most_of_step (steps_done done) → y ≤ p.spent * most_of_step (steps_done done) → z ≤ (p.spent + n) * most_of_step (steps_done done)
        sum x y z e h k = plus x y z (n * most_of_step (steps_done done)) (p.spent * most_of_step (steps_done done)) ((p.spent + n) * most_of_step (steps_done done)) e h k (both-times p.spent n (most_of_step (steps_done done)))

-- ---- all together

pub begun-within-steps : (es : List Entry) (done : List (ℕ × Act)) → ((a : ℕ) → IsPaidFor es a done) → begins_in es ≤ steps_done done
begun-within-steps es done all =
    let most = fewer (begun_by es) (steps_at done) (λ a. (all a).begun) in
    let number = begun-counted es in
    let steps = steps-long done in
    omega (arith, most, number, steps)

pub ledger-few : (es : List Entry) (durable : List (ℕ × Fact)) (done : List (ℕ × Act)) → facts_added_in es ≡ durable → ((a : ℕ) → IsPaidFor es a done) → length es ≤ length durable + most_beside (steps_done done)
ledger-few es durable done e all =
    let w : ℕ = most_of_step (steps_done done) in
    let most = fewer (plain_by es) (times w (steps_at done)) (of_each w refl) in
    let long = times-long w (steps_at done) in
    let steps = steps-long done in
    let parts = ledger-long es in
    let facts : length (facts_added_in es) ≡ length durable = ap (λ (xs : List (ℕ × Fact)). length xs) e in
    let turned : w * length (steps_at done) ≡ most_beside (steps_done done) = other-way w (length (steps_at done)) (steps_done done) steps in
    all_in (length es) (length durable) (length (plain_by es)) (length (times w (steps_at done))) (w * length (steps_at done)) (most_beside (steps_done done)) (length (facts_added_in es)) parts facts most long turned
  where
    all_in : (l d p t v b f : ℕ) → l ≡ f + p → f ≡ d → p ≤ t → t ≡ v → v ≡ b → l ≤ d + b
    all_in l d p t v b f h i j k m = omega (arith, h, i, j, k, m)

    same : (x v b m : ℕ) → x ≤ b → m ≡ v → v ≡ b → x ≤ m
    same x v b m h k l = omega (arith, h, k, l)

    turned-round : (m n : ℕ) → m * n ≡ n * m
    turned-round m n = grind arith

    commuted : (w c m : ℕ) → w ≡ m → w * c ≡ c * m
    commuted w c m h = ap (λ (z : ℕ). z * c) h ∙ turned-round m c

    other-way : (w l s : ℕ) → l ≡ s → w * l ≡ s * w
    other-way w l s h = ap (λ (z : ℕ). w * z) h ∙ turned-round w s

    of_each : (w : ℕ) → w ≡ most_of_step (steps_done done) → (a : ℕ) → count_in a (plain_by es) ≤ count_in a (times w (steps_at done))
    of_each w is a =
        let plain = (all a).plain in
        let many = times-count a w (steps_at done) in
        let turned : w * count_in a (steps_at done) ≡ count_in a (steps_at done) * most_of_step (steps_done done) = commuted w (count_in a (steps_at done)) (most_of_step (steps_done done)) is in
        same (count_in a (plain_by es)) (w * count_in a (steps_at done)) (count_in a (steps_at done) * most_of_step (steps_done done)) (count_in a (times w (steps_at done))) plain many turned
