-- Datagrams that are handed to a link, one after another.
use Rattle.std.proofs.Common.{◌≡◌, ℕ, zero, suc, ◌+◌, ◌≤◌, List, [], ◌∷◌, ◌++◌, Option, Result, Ok, Err, refl, sym, ◌∙◌, ap, arith, inl, inr, ◌⊎◌, subst, length, take}
use Rattle.std.proofs.lemmas.List.FromFn.{map-range_with_len_more}
use Rattle.std.proofs.Math.Seq.{take-append_seam}
use Rattle.mdcc_base.specs.Causes.{HasCause, Rose}
use Rattle.mdcc_base.specs.declared.faults.Failed.{Failed}
use Rattle.mdcc_base.specs.declared.outside.Address.{Address}
use Rattle.mdcc_frag.specs.Datagrams.{datagram}
use Rattle.mdcc_frag.specs.declared.datagrams.FragHead.{FragHead}
use Rattle.mdcc_link.specs.Link.{AddsLinkCall, LinkCall}
use Rattle.mdcc_serve_outbox.proofs.Recorded.{answers_append, call_recorded, calls_append, failed_append, lost_append, none_recorded, recorded_joined}
use Rattle.mdcc_serve_outbox.specs.Sends.{Hands, first_datagrams}
use Rattle.mdcc_serve_outbox.specs.Shows.{Records, calls_of}
use Rattle.mdcc_def_server_runs.specs.Acts.{Act, but_answers, lost_in}

pub rose_later : (before mid after : ℕ) → Rose before mid → mid ≤ after → Rose before after
rose_later before mid after rose later = omega (rose, later, arith)

pub rose_before : (before mid after : ℕ) → before ≤ mid → Rose mid after → Rose before after
rose_before before mid after earlier rose = omega (earlier, rose, arith)

-- one of two numbers is some
pub either_some : (a b : ℕ) → 1 ≤ a + b → (1 ≤ a) ⊎ (1 ≤ b)
either_some zero b some = inr (omega (some, arith))
either_some (suc a) b some = inl (omega arith)

module _ {L : Type 0} (calls : L → Option (List LinkCall)) (lost faults : L → ℕ) where
  pub no_hands : (link : L) → Hands calls lost faults [] link link 0
  no_hands link = record {
    acts = [];
    are = refl;
    recorded = none_recorded (calls link);
    counted_there = refl;
    all_failed = refl;
    later = omega arith;
    rose = λ some. absurd (omega (some, arith));
    receives = refl;
  }

  pub one_handed : (from : ℕ) (to : Address) (bytes : List ℕ) (old new : L) (result : Result (Unit {0}) Failed)
      → AddsLinkCall (LinkCall.Send from to bytes result) (calls old) (calls new) result → HasCause (lost old) (lost new) result
      → faults new ≡ faults old
      → Hands calls lost faults (Act.Send from to bytes (Ok tt) ∷ []) old new (lost_in (Act.Send from to bytes result ∷ []))
  one_handed from to bytes old new (Ok x) adds cause same = record {
    acts = Act.Send from to bytes (Ok x) ∷ [];
    are = refl;
    recorded = call_recorded _ _ _ (Ok x) adds;
    counted_there = refl;
    all_failed = refl;
    later = cause.later;
    rose = λ some. absurd (omega (some, arith));
    receives = same;
  }
  one_handed from to bytes old new (Err fault) adds cause same = record {
    acts = Act.Send from to bytes (Err fault) ∷ [];
    are = refl;
    recorded = call_recorded _ _ _ (Err fault) adds;
    counted_there = refl;
    all_failed = refl;
    later = cause.later;
    rose = λ some. cause.failed;
    receives = same;
  }

  pub hands_joined : (first second : List Act) (old mid new : L) (m n : ℕ)
      → Hands calls lost faults first old mid m → Hands calls lost faults second mid new n → Hands calls lost faults (first ++ second) old new (m + n)
  hands_joined first second old mid new m n one two = record {
    acts = one.acts ++ two.acts;
    are = answers_append one.acts two.acts ∙ (ap (λ (xs : List Act). xs ++ but_answers two.acts) one.are ∙ ap (λ (ys : List Act). first ++ ys) two.are);
    recorded = subst (λ (cs : List LinkCall). Records cs (calls old) (calls new)) (sym (calls_append one.acts two.acts))
        (recorded_joined (calls_of one.acts) (calls_of two.acts) (calls old) (calls mid) (calls new) one.recorded two.recorded);
    counted_there = let e = lost_append one.acts two.acts in omega (e, one.counted_there, two.counted_there, arith);
    all_failed = let e = failed_append one.acts two.acts in omega (e, one.all_failed, two.all_failed, arith);
    later = omega (one.later, two.later, arith);
    rose = λ some. elim (either_some m n some) [
      | inl here ↦ rose_later (lost old) (lost mid) (lost new) (one.rose here) two.later
      | inr there ↦ rose_before (lost old) (lost mid) (lost new) one.later (two.rose there)
    ];
    receives = two.receives ∙ one.receives;
  }

-- ---- the datagrams of a message

pub front_taken : (front rest all : List ℕ) (n : ℕ) → all ≡ front ++ rest → n ≡ length front → take n all ≡ front
front_taken front rest all n is many = rw (is, many) (take-append_seam front rest)

pub next_datagram : (head : FragHead) (to : Address) (bytes : List ℕ) (n : ℕ)
    → first_datagrams head to bytes (n + 1) ≡ first_datagrams head to bytes n ++ Act.Send head.sender to (datagram head n bytes) (Ok tt) ∷ []
next_datagram head to bytes n =
    map-range_with_len_more (λ (index : ℕ). Act.Send head.sender to (datagram head index bytes) (Ok tt)) 0 n n (omega arith)
