-- Endpoints that are bound, and lines that are printed, one after another.
use Rattle.std.proofs.Common.{◌≡◌, ℕ, zero, suc, ◌≤◌, ◌<◌, List, [], ◌∷◌, ◌++◌, Option, refl, sym, ◌∙◌, ap, subst, inl, inr, arith, append-nil, append_assoc, get_or, length, take}
use Rattle.std.specs.Io.KnownBytes.{Appends}
use Rattle.std.specs.List.{AllByRecursion}
use Rattle.std.specs.Prelude.{flat_map}
use Rattle.mdcc_link.specs.Link.{LinkCall}
use Rattle.mdcc_serve_outbox.proofs.Handed.{rose_before}
use Rattle.mdcc_serve_outbox.proofs.Recorded.{calls_append, none_recorded, recorded_joined}
use Rattle.mdcc_serve_outbox.specs.Shows.{Records, calls_of}
use Rattle.mdcc_def_server_runs.specs.Acts.{Act, printed}
use Rattle.mdcc_serve.specs.Openings.{BindsAll, BindsSome, LinesSome}
use Rattle.mdcc_serve_site.proofs.Joined.{comes_more, failed_more, none_written, printed_append, text_more, written_joined}
use Rattle.mdcc_serve_site.specs.Causes.{failed_next, text_begun}
use Rattle.mdcc_serve_site.specs.Moments.{MayComeAt}
use Rattle.mdcc_serve_site.specs.SiteState.{PrintsAll, PrintsSome}
use Rattle.mdcc_serve_site.specs.declared.fault.ServeFault.{ServeFault}

-- ---- the acts of items one after another

pub acts_more : {A : Type 0} (f : A → List Act) (xs : List A) (i : ℕ) (x : A) → i < length xs → x ≡ get_or xs i x → flat_map f (take (suc i) xs) ≡ flat_map f (take i xs) ++ f x
acts_more f [] i x within is = absurd (omega (within, arith))
acts_more f (y ∷ ys) zero x within is = append-nil (f y) ∙ ap f (sym is)
acts_more f (y ∷ ys) (suc i) x within is = ap (λ (acts : List Act). f y ++ acts) (acts_more f ys i x (omega (within, arith)) is) ∙ sym (append_assoc (f y) (flat_map f (take i ys)) (f x))

pub acts_split : {A : Type 0} (f : A → List Act) (xs : List A) (i : ℕ) (x : A) → i < length xs → x ≡ get_or xs i x → (rest : List Act) × (flat_map f xs ≡ flat_map f (take i xs) ++ (f x ++ rest))
acts_split f [] i x within is = absurd (omega (within, arith))
acts_split f (y ∷ ys) zero x within is = (flat_map f ys, ap (λ z. f z ++ flat_map f ys) (sym is))
acts_split f (y ∷ ys) (suc i) x within is =
    let more = acts_split f ys i x (omega (within, arith)) is in
    (more.0, ap (λ (acts : List Act). f y ++ acts) more.1 ∙ sym (append_assoc (f y) (flat_map f (take i ys)) (f x ++ more.0)))

pub acts_all : {A : Type 0} (f : A → List Act) (xs : List A) (n : ℕ) → length xs ≤ n → flat_map f (take n xs) ≡ flat_map f xs
acts_all f [] zero long = refl
acts_all f [] (suc n) long = refl
acts_all f (x ∷ xs) zero long = absurd (omega (long, arith))
acts_all f (x ∷ xs) (suc n) long = ap (λ (acts : List Act). f x ++ acts) (acts_all f xs n (omega (long, arith)))

pub each_at : {A : Type 0} (P : A → Type 0) (xs : List A) (i : ℕ) (x : A) → i < length xs → x ≡ get_or xs i x → AllByRecursion P xs → P x
each_at P [] i x within is each = absurd (omega (within, arith))
each_at P (y ∷ ys) zero x within is each = subst P (sym is) each.0
each_at P (y ∷ ys) (suc i) x within is each = each_at P ys i x (omega (within, arith)) is each.1

-- ---- at the link

module _ {L : Type 0} (calls : L → Option (List LinkCall)) (lost faults : L → ℕ) where
  pub binds_none : (link : L) → BindsAll calls lost faults [] link link
  binds_none link = record { recorded = none_recorded (calls link); sends = refl; later = omega arith }

  pub binds_then : (xs ys : List Act) (old mid new : L) → BindsAll calls lost faults xs old mid → BindsAll calls lost faults ys mid new → BindsAll calls lost faults (xs ++ ys) old new
  binds_then xs ys old mid new a b = record {
    recorded = subst (λ (cs : List LinkCall). Records cs (calls old) (calls new)) (sym (calls_append xs ys)) (recorded_joined (calls_of xs) (calls_of ys) (calls old) (calls mid) (calls new) a.recorded b.recorded);
    sends = b.sends ∙ a.sends;
    later = (let one = a.later in let two = b.later in omega (one, two, arith));
  }

  pub binds_stop : (xs ys zs : List Act) (fault : ServeFault) (old mid new : L) → BindsAll calls lost faults xs old mid → BindsSome calls lost faults ys fault mid new → BindsSome calls lost faults (xs ++ (ys ++ zs)) fault old new
  binds_stop xs ys zs fault old mid new a b = record {
    is = b.is;
    done = xs ++ b.done;
    rest = b.rest ++ zs;
    are =
        ap (λ (acts : List Act). xs ++ (acts ++ zs)) b.are
        ∙ (ap (λ (acts : List Act). xs ++ acts) (append_assoc b.done b.rest zs) ∙ sym (append_assoc xs b.done (b.rest ++ zs)));
    next = comes_more (Unit {0}) ServeFault.Link b.rest zs b.next;
    recorded = subst (λ (cs : List LinkCall). Records cs (calls old) (calls new)) joined
        (recorded_joined (calls_of xs) (calls_of b.done ++ failed_next b.rest) (calls old) (calls mid) (calls new) a.recorded b.recorded);
    sends = b.sends ∙ a.sends;
    later = (let one = a.later in let two = b.later in omega (one, two, arith));
    rose = rose_before (faults old) (faults mid) (faults new) a.later b.rose;
  }
    where
      joined : calls_of xs ++ (calls_of b.done ++ failed_next b.rest) ≡ calls_of (xs ++ b.done) ++ failed_next (b.rest ++ zs)
      joined =
          sym (append_assoc (calls_of xs) (calls_of b.done) (failed_next b.rest))
          ∙ (ap (λ (cs : List LinkCall). cs ++ failed_next b.rest) (sym (calls_append xs b.done))
          ∙ ap (λ (cs : List LinkCall). calls_of (xs ++ b.done) ++ cs) (sym (failed_more (Unit {0}) ServeFault.Link b.rest zs b.next)))

-- ---- at the output

module _ {O : Type 0} (held : O → Option (List ℕ)) (faults : O → ℕ) where
  pub lines_none : (out : O) → PrintsAll held faults [] out out
  lines_none out = record { printed_all = none_written (held out); later = omega arith }

  pub lines_then : (xs ys : List Act) (old mid new : O) → PrintsAll held faults xs old mid → PrintsAll held faults ys mid new → PrintsAll held faults (xs ++ ys) old new
  lines_then xs ys old mid new a b = record {
    printed_all = subst (λ (text : List ℕ). Appends (held old) (held new) text) (sym (printed_append xs ys)) (written_joined (printed xs) (printed ys) (held old) (held mid) (held new) a.printed_all b.printed_all);
    later = (let one = a.later in let two = b.later in omega (one, two, arith));
  }

  pub lines_stop : (xs ys zs : List Act) (fault : ServeFault) (old mid new : O) → PrintsAll held faults xs old mid → PrintsSome held faults ys fault mid new → LinesSome held faults (xs ++ (ys ++ zs)) fault old new
  lines_stop xs ys zs fault old mid new a b = elim b.comes [
    | inl none ↦ record {
      done = xs;
      rest = ys ++ zs;
      are = refl;
      comes = inl none.0;
      more = b.more;
      printed_some = text (subst (λ (f : ServeFault). MayComeAt (Unit {0}) f ys) (sym none.0) tt);
      later = later;
    }
    | inr failed ↦ record {
      done = xs;
      rest = ys ++ zs;
      are = refl;
      comes = inr (failed.0, comes_more (Unit {0}) ServeFault.Output ys zs failed.1, rose_before (faults old) (faults mid) (faults new) a.later failed.2);
      more = b.more;
      printed_some = text (subst (λ (f : ServeFault). MayComeAt (Unit {0}) f ys) (sym failed.0) failed.1);
      later = later;
    }
  ]
    where
      later : faults old ≤ faults new
      later = let one = a.later in let two = b.later in omega (one, two, arith)

      text : MayComeAt (Unit {0}) fault ys → Appends (held old) (held new) (printed xs ++ take b.more (text_begun fault (ys ++ zs)))
      text comes =
          subst (λ (t : List ℕ). Appends (held old) (held new) (printed xs ++ take b.more t)) (sym (text_more (Unit {0}) fault ys zs comes))
          (written_joined (printed xs) (take b.more (text_begun fault ys)) (held old) (held mid) (held new) a.printed_all b.front)
