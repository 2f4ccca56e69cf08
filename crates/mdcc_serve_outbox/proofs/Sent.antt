-- What is sent of some acts, and what is left of them.
use Rattle.std.proofs.Common.{◌≡◌, ℕ, ◌+◌, List, [], ◌∷◌, ◌++◌, Option, Result, Ok, Err, refl, sym, ◌∙◌, ap, arith, inl, inr, subst}
use Rattle.std.specs.Prelude.{OnErr}
use Rattle.std.proofs.lemmas.List.{append-nil, append_assoc}
use Rattle.mdcc_link.specs.Link.{LinkCall}
use Rattle.mdcc_serve_outbox.proofs.Handed.{either_some, rose_before, rose_later}
use Rattle.mdcc_serve_outbox.proofs.Recorded.{answers_append, calls_append, failed_append, lost_append, none_recorded, recorded_joined}
use Rattle.mdcc_serve_outbox.specs.Sends.{Hands, Sends}
use Rattle.mdcc_serve_outbox.specs.Shows.{Records, calls_of, count_limited, failed_in}
use Rattle.mdcc_def_server_runs.specs.Acts.{Act, but_answers, lost_in}

pub counted_twice : (a b c : ℕ) → count_limited (count_limited (a + b) + c) ≡ count_limited (a + (b + c))
counted_twice a b c = omega arith

module _ {L : Type 0} (calls : L → Option (List LinkCall)) (lost faults : L → ℕ) where
  -- nothing was sent yet
  pub none_sent : (expected : List Act) (link : L) (count : ℕ) → count ≡ count_limited count → Sends calls lost faults expected expected link link count count
  none_sent expected link count is = record {
    acts = [];
    are = refl;
    recorded = none_recorded (calls link);
    told = is ∙ ap count_limited (let e : count ≡ count + 0 = omega arith in e);
    later = omega arith;
    rose = λ some. absurd (omega (some, arith));
    receives = refl;
  }

  pub handed_sent : (expected : List Act) (old new : L) (failed lost_old lost_new : ℕ) → Hands calls lost faults expected old new failed
      → lost_new ≡ count_limited (lost_old + failed) → Sends calls lost faults expected [] old new lost_old lost_new
  handed_sent expected old new failed lost_old lost_new hands is = record {
    acts = hands.acts;
    are = append-nil (but_answers hands.acts) ∙ hands.are;
    recorded = hands.recorded;
    told = is ∙ ap (λ (n : ℕ). count_limited (lost_old + n)) hands.counted_there;
    later = hands.later;
    rose = λ some. hands.rose (omega (some, hands.all_failed, arith));
    receives = hands.receives;
  }

  -- a message that cannot be sent counts
  pub one_unsent : (link : L) (lost_old lost_new : ℕ) → lost_new ≡ count_limited (lost_old + 1)
      → Sends calls lost faults (Act.Unsent ∷ []) [] link link lost_old lost_new
  one_unsent link lost_old lost_new is = record {
    acts = Act.Unsent ∷ [];
    are = refl;
    recorded = none_recorded (calls link);
    told = is;
    later = omega arith;
    rose = λ some. absurd (omega (some, arith));
    receives = refl;
  }

  pub sent_joined : (first second rest : List Act) (old mid new : L) (a b c : ℕ)
      → Sends calls lost faults first [] old mid a b → Sends calls lost faults second rest mid new b c
      → Sends calls lost faults (first ++ second) rest old new a c
  sent_joined first second rest old mid new a b c one two = record {
    acts = one.acts ++ two.acts;
    are =
        let e1 : but_answers one.acts ≡ first = sym (append-nil (but_answers one.acts)) ∙ one.are in
        ap (λ (xs : List Act). xs ++ rest) (answers_append one.acts two.acts)
        ∙ (append_assoc (but_answers one.acts) (but_answers two.acts) rest
        ∙ (ap (λ (xs : List Act). xs ++ (but_answers two.acts ++ rest)) e1 ∙ ap (λ (ys : List Act). first ++ ys) two.are));
    recorded = subst (λ (cs : List LinkCall). Records cs (calls old) (calls new)) (sym (calls_append one.acts two.acts))
        (recorded_joined (calls_of one.acts) (calls_of two.acts) (calls old) (calls mid) (calls new) one.recorded two.recorded);
    told = two.told
        ∙ (ap (λ (n : ℕ). count_limited (n + lost_in two.acts)) one.told
        ∙ (counted_twice a (lost_in one.acts) (lost_in two.acts) ∙ ap (λ (n : ℕ). count_limited (a + n)) (sym (lost_append one.acts two.acts))));
    later = omega (one.later, two.later, arith);
    rose = λ some.
        let e = failed_append one.acts two.acts in
        elim (either_some (failed_in one.acts) (failed_in two.acts) (omega (some, e, arith))) [
          | inl here ↦ rose_later (lost old) (lost mid) (lost new) (one.rose here) two.later
          | inr there ↦ rose_before (lost old) (lost mid) (lost new) one.later (two.rose there)
        ];
    receives = two.receives ∙ one.receives;
  }

  -- more is left behind the rest
  pub more_left : (expected rest more : List Act) (old new : L) (a b : ℕ)
      → Sends calls lost faults expected rest old new a b → Sends calls lost faults (expected ++ more) (rest ++ more) old new a b
  more_left expected rest more old new a b sends = record {
    acts = sends.acts;
    are = sym (append_assoc (but_answers sends.acts) rest more) ∙ ap (λ (xs : List Act). xs ++ more) sends.are;
    recorded = sends.recorded;
    told = sends.told;
    later = sends.later;
    rose = sends.rose;
    receives = sends.receives;
  }

-- what holds at once holds at an error
pub on_err : {T E P : Type 0} (r : Result T E) → P → OnErr r P
on_err (Ok x) p = tt
on_err (Err e) p = p
