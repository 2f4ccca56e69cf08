-- Acts one after another, and what they leave.
use Rattle.std.proofs.Common.{◌≡◌, ℕ, ◌+◌, List, [], ◌∷◌, ◌++◌, Option, Some, None, refl, sym, ◌∙◌, ap, subst, inl, inr, arith, append-nil, append_assoc}
use Rattle.std.specs.Io.KnownBytes.{Appends}
use Rattle.std.proofs.lemmas.Grind.{flat_map-append}
use Rattle.mdcc_log_file.specs.declared.fault.LogFault.{LogFault}
use Rattle.mdcc_disks.specs.Disks.{Disk}
use Rattle.mdcc_link.specs.Link.{LinkCall}
use Rattle.mdcc_def_messages.specs.declared.facts.Fact.{Fact}
use Rattle.mdcc_serve_outbox.proofs.Handed.{either_some, rose_before, rose_later}
use Rattle.mdcc_serve_outbox.proofs.Recorded.{answers_append, calls_append, failed_append, lost_append, none_recorded, recorded_joined, sum_append}
use Rattle.mdcc_serve_outbox.specs.Sends.{IsSending}
use Rattle.mdcc_serve_outbox.specs.Shows.{Records, calls_of, count_limited, failed_in}
use Rattle.mdcc_def_server_runs.specs.Acts.{Act, appended_by, but_answer, but_answers, dropped_by, dropped_in, facts_appended, lost_in, printed, printed_by, steps_by, steps_in}
use Rattle.mdcc_serve_site.specs.Causes.{IsAtLink, IsLogging, IsPrinting, failed_by, failed_next, in_flight, next_facts, next_line_text, text_begun}
use Rattle.mdcc_serve_site.specs.Logs.{facts_after, with_facts}
use Rattle.mdcc_serve_site.specs.Moments.{Adds, Broke, Caused, Did, KeepsOthers, Leaves, MayComeAt, Moment, Outside, Passes}
use Rattle.mdcc_serve_site.specs.Room.{LacksRoom, OnFull}
use Rattle.mdcc_serve_site.specs.declared.fault.ServeFault.{ServeFault}

-- ---- lists of acts

pub appended_append : (a : ℕ) (xs ys : List Act) → facts_appended a (xs ++ ys) ≡ facts_appended a xs ++ facts_appended a ys
appended_append a xs ys = flat_map-append (appended_by a) xs ys

pub printed_append : (xs ys : List Act) → printed (xs ++ ys) ≡ printed xs ++ printed ys
printed_append xs ys = flat_map-append printed_by xs ys

pub steps_append : (xs ys : List Act) → steps_in (xs ++ ys) ≡ steps_in xs + steps_in ys
steps_append xs ys = sum_append steps_by xs ys

pub dropped_append : (xs ys : List Act) → dropped_in (xs ++ ys) ≡ dropped_in xs + dropped_in ys
dropped_append xs ys = sum_append dropped_by xs ys

one_answer : (a : ℕ) (x : Act) → appended_by a (but_answer x) ≡ appended_by a x
one_answer a (Act.Bind at address) = refl
one_answer a (Act.Receive at gave) = refl
one_answer a (Act.Append centre facts) = refl
one_answer a (Act.Send from to bytes answer) = refl
one_answer a (Act.Print line) = refl
one_answer a Act.Stepped = refl
one_answer a Act.Dropped = refl
one_answer a Act.Unsent = refl

-- what the link answers changes no log
pub appended_answers : (a : ℕ) (xs : List Act) → facts_appended a (but_answers xs) ≡ facts_appended a xs
appended_answers a [] = refl
appended_answers a (x ∷ xs) =
    ap (λ (fs : List Fact). fs ++ facts_appended a (but_answers xs)) (one_answer a x) ∙ ap (λ (fs : List Fact). appended_by a x ++ fs) (appended_answers a xs)

pub facts_joined : (facts more most : List Fact) → with_facts facts (more ++ most) ≡ with_facts (with_facts facts more) most
facts_joined facts [] most = refl
facts_joined facts (x ∷ more) most = facts_joined (x ∷ facts) more most

pub facts_then : (a : ℕ) (facts : List Fact) (xs ys : List Act) → facts_after a facts (xs ++ ys) ≡ facts_after a (facts_after a facts xs) ys
facts_then a facts xs ys = ap (with_facts facts) (appended_append a xs ys) ∙ facts_joined facts (facts_appended a xs) (facts_appended a ys)

-- by what is expected of the acts
pub facts_expected : (a : ℕ) (facts : List Fact) (acts expected : List Act) → but_answers acts ≡ expected → facts_after a facts acts ≡ facts_after a facts expected
facts_expected a facts acts expected are = ap (with_facts facts) (sym (appended_answers a acts) ∙ ap (facts_appended a) are)

-- ---- where a fault comes, with more behind

at_link_more : (rest more : List Act) → IsAtLink rest → IsAtLink (rest ++ more)
at_link_more (Act.Bind at address ∷ rest) more comes = comes
at_link_more (Act.Receive at gave ∷ rest) more comes = comes
at_link_more [] more comes = absurd comes
at_link_more (Act.Append centre facts ∷ rest) more comes = absurd comes
at_link_more (Act.Send from to bytes answer ∷ rest) more comes = absurd comes
at_link_more (Act.Print line ∷ rest) more comes = absurd comes
at_link_more (Act.Stepped ∷ rest) more comes = absurd comes
at_link_more (Act.Dropped ∷ rest) more comes = absurd comes
at_link_more (Act.Unsent ∷ rest) more comes = absurd comes

logging_more : (a : ℕ) (rest more : List Act) → IsLogging a rest → IsLogging a (rest ++ more)
logging_more a (Act.Append centre facts ∷ rest) more comes = comes
logging_more a [] more comes = absurd comes
logging_more a (Act.Bind at address ∷ rest) more comes = absurd comes
logging_more a (Act.Receive at gave ∷ rest) more comes = absurd comes
logging_more a (Act.Send from to bytes answer ∷ rest) more comes = absurd comes
logging_more a (Act.Print line ∷ rest) more comes = absurd comes
logging_more a (Act.Stepped ∷ rest) more comes = absurd comes
logging_more a (Act.Dropped ∷ rest) more comes = absurd comes
logging_more a (Act.Unsent ∷ rest) more comes = absurd comes

printing_more : (rest more : List Act) → IsPrinting rest → IsPrinting (rest ++ more)
printing_more (Act.Print line ∷ rest) more comes = comes
printing_more [] more comes = absurd comes
printing_more (Act.Bind at address ∷ rest) more comes = absurd comes
printing_more (Act.Receive at gave ∷ rest) more comes = absurd comes
printing_more (Act.Append centre facts ∷ rest) more comes = absurd comes
printing_more (Act.Send from to bytes answer ∷ rest) more comes = absurd comes
printing_more (Act.Stepped ∷ rest) more comes = absurd comes
printing_more (Act.Dropped ∷ rest) more comes = absurd comes
printing_more (Act.Unsent ∷ rest) more comes = absurd comes

sending_more : (rest more : List Act) → IsSending rest → IsSending (rest ++ more)
sending_more (Act.Send from to bytes answer ∷ rest) more comes = comes
sending_more [] more comes = absurd comes
sending_more (Act.Bind at address ∷ rest) more comes = absurd comes
sending_more (Act.Receive at gave ∷ rest) more comes = absurd comes
sending_more (Act.Append centre facts ∷ rest) more comes = absurd comes
sending_more (Act.Print line ∷ rest) more comes = absurd comes
sending_more (Act.Stepped ∷ rest) more comes = absurd comes
sending_more (Act.Dropped ∷ rest) more comes = absurd comes
sending_more (Act.Unsent ∷ rest) more comes = absurd comes

pub comes_more : (Told : Type 0) (fault : ServeFault) (rest more : List Act) → MayComeAt Told fault rest → MayComeAt Told fault (rest ++ more)
comes_more Told (ServeFault.Disk a) rest more comes = logging_more a rest more comes
comes_more Told (ServeFault.Log a (LogFault.NotALog offset)) rest more comes = comes
comes_more Told (ServeFault.Log a LogFault.LogFull) rest more comes = logging_more a rest more comes
comes_more Told (ServeFault.Log a LogFault.DiskFault) rest more comes = comes
comes_more Told (ServeFault.Log a LogFault.Memory) rest more comes = comes
comes_more Told (ServeFault.Boot a fault) rest more comes = logging_more a rest more comes
comes_more Told ServeFault.Link rest more comes = at_link_more rest more comes
comes_more Told ServeFault.Output rest more comes = printing_more rest more comes
comes_more Told ServeFault.Serial rest more comes = sending_more rest more comes
comes_more Told ServeFault.Memory rest more comes = tt

next_failed : (rest more : List Act) → IsAtLink rest → failed_next (rest ++ more) ≡ failed_next rest
next_failed (Act.Bind at address ∷ rest) more comes = refl
next_failed (Act.Receive at gave ∷ rest) more comes = refl
next_failed [] more comes = absurd comes
next_failed (Act.Append centre facts ∷ rest) more comes = absurd comes
next_failed (Act.Send from to bytes answer ∷ rest) more comes = absurd comes
next_failed (Act.Print line ∷ rest) more comes = absurd comes
next_failed (Act.Stepped ∷ rest) more comes = absurd comes
next_failed (Act.Dropped ∷ rest) more comes = absurd comes
next_failed (Act.Unsent ∷ rest) more comes = absurd comes

pub failed_more : (Told : Type 0) (fault : ServeFault) (rest more : List Act) → MayComeAt Told fault rest → failed_by fault (rest ++ more) ≡ failed_by fault rest
failed_more Told (ServeFault.Disk a) rest more comes = refl
failed_more Told (ServeFault.Log a fault) rest more comes = refl
failed_more Told (ServeFault.Boot a fault) rest more comes = refl
failed_more Told ServeFault.Link rest more comes = next_failed rest more comes
failed_more Told ServeFault.Output rest more comes = refl
failed_more Told ServeFault.Serial rest more comes = refl
failed_more Told ServeFault.Memory rest more comes = refl

next_printed : (rest more : List Act) → IsPrinting rest → next_line_text (rest ++ more) ≡ next_line_text rest
next_printed (Act.Print line ∷ rest) more comes = refl
next_printed [] more comes = absurd comes
next_printed (Act.Bind at address ∷ rest) more comes = absurd comes
next_printed (Act.Receive at gave ∷ rest) more comes = absurd comes
next_printed (Act.Append centre facts ∷ rest) more comes = absurd comes
next_printed (Act.Send from to bytes answer ∷ rest) more comes = absurd comes
next_printed (Act.Stepped ∷ rest) more comes = absurd comes
next_printed (Act.Dropped ∷ rest) more comes = absurd comes
next_printed (Act.Unsent ∷ rest) more comes = absurd comes

pub text_more : (Told : Type 0) (fault : ServeFault) (rest more : List Act) → MayComeAt Told fault rest → text_begun fault (rest ++ more) ≡ text_begun fault rest
text_more Told (ServeFault.Disk a) rest more comes = refl
text_more Told (ServeFault.Log a fault) rest more comes = refl
text_more Told (ServeFault.Boot a fault) rest more comes = refl
text_more Told ServeFault.Link rest more comes = refl
text_more Told ServeFault.Output rest more comes = next_printed rest more comes
text_more Told ServeFault.Serial rest more comes = refl
text_more Told ServeFault.Memory rest more comes = refl

next_logged : (a b : ℕ) (rest more : List Act) → IsLogging a rest → next_facts b (rest ++ more) ≡ next_facts b rest
next_logged a b (Act.Append centre facts ∷ rest) more comes = refl
next_logged a b [] more comes = absurd comes
next_logged a b (Act.Bind at address ∷ rest) more comes = absurd comes
next_logged a b (Act.Receive at gave ∷ rest) more comes = absurd comes
next_logged a b (Act.Send from to bytes answer ∷ rest) more comes = absurd comes
next_logged a b (Act.Print line ∷ rest) more comes = absurd comes
next_logged a b (Act.Stepped ∷ rest) more comes = absurd comes
next_logged a b (Act.Dropped ∷ rest) more comes = absurd comes
next_logged a b (Act.Unsent ∷ rest) more comes = absurd comes

pub flight_more : (Told : Type 0) (fault : ServeFault) (b : ℕ) (rest more : List Act) → MayComeAt Told fault rest → in_flight fault b (rest ++ more) ≡ in_flight fault b rest
flight_more Told (ServeFault.Disk a) b rest more comes = next_logged a b rest more comes
flight_more Told (ServeFault.Log a fault) b rest more comes = refl
flight_more Told (ServeFault.Boot a fault) b rest more comes = refl
flight_more Told ServeFault.Link b rest more comes = refl
flight_more Told ServeFault.Output b rest more comes = refl
flight_more Told ServeFault.Serial b rest more comes = refl
flight_more Told ServeFault.Memory b rest more comes = refl

finds_more : {D : Type 0} (disk : D → ℕ → Disk) (may_leave : D → ℕ → List ℕ → Type 0) (every : ℕ) (disks : D) (a : ℕ) (rest more : List Act) → IsLogging a rest → LacksRoom disk may_leave every disks rest → LacksRoom disk may_leave every disks (rest ++ more)
finds_more disk may_leave every disks a (Act.Append centre facts ∷ rest) more comes lacks = lacks
finds_more disk may_leave every disks a [] more comes lacks = absurd comes
finds_more disk may_leave every disks a (Act.Bind at address ∷ rest) more comes lacks = absurd comes
finds_more disk may_leave every disks a (Act.Receive at gave ∷ rest) more comes lacks = absurd comes
finds_more disk may_leave every disks a (Act.Send from to bytes answer ∷ rest) more comes lacks = absurd comes
finds_more disk may_leave every disks a (Act.Print line ∷ rest) more comes lacks = absurd comes
finds_more disk may_leave every disks a (Act.Stepped ∷ rest) more comes lacks = absurd comes
finds_more disk may_leave every disks a (Act.Dropped ∷ rest) more comes lacks = absurd comes
finds_more disk may_leave every disks a (Act.Unsent ∷ rest) more comes lacks = absurd comes

pub full_more : {D : Type 0} (disk : D → ℕ → Disk) (may_leave : D → ℕ → List ℕ → Type 0) (every : ℕ) (disks : D) (Told : Type 0) (fault : ServeFault) (rest more : List Act) → MayComeAt Told fault rest
    → OnFull disk may_leave every disks fault rest → OnFull disk may_leave every disks fault (rest ++ more)
full_more disk may_leave every disks Told (ServeFault.Disk a) rest more comes full = tt
full_more disk may_leave every disks Told (ServeFault.Log a LogFault.LogFull) rest more comes full = finds_more disk may_leave every disks a rest more comes full
full_more disk may_leave every disks Told (ServeFault.Log a LogFault.DiskFault) rest more comes full = tt
full_more disk may_leave every disks Told (ServeFault.Log a (LogFault.NotALog offset)) rest more comes full = tt
full_more disk may_leave every disks Told (ServeFault.Log a LogFault.Memory) rest more comes full = tt
full_more disk may_leave every disks Told (ServeFault.Boot a fault) rest more comes full = tt
full_more disk may_leave every disks Told ServeFault.Link rest more comes full = tt
full_more disk may_leave every disks Told ServeFault.Output rest more comes full = tt
full_more disk may_leave every disks Told ServeFault.Serial rest more comes full = tt
full_more disk may_leave every disks Told ServeFault.Memory rest more comes full = tt

-- ---- bytes and counts

pub none_written : (o : Option (List ℕ)) → Appends o o []
none_written None = tt
none_written (Some xs) = sym (append-nil xs)

pub written_joined : (first second : List ℕ) (old mid new : Option (List ℕ)) → Appends old mid first → Appends mid new second → Appends old new (first ++ second)
written_joined first second None mid new one two = tt
written_joined first second (Some xs) None new one two = absurd one
written_joined first second (Some xs) (Some ys) None one two = absurd two
written_joined first second (Some xs) (Some ys) (Some zs) one two = two ∙ (ap (λ (bytes : List ℕ). bytes ++ second) one ∙ append_assoc xs first second)

pub none_added : (n : ℕ) → Adds 0 n n
none_added n = let e : n ≡ n + 0 = omega arith in ap count_limited e

pub adds_then : (m n old mid new : ℕ) → Adds m old mid → Adds n mid new → Adds (m + n) old new
adds_then m n old mid new one two = omega (one, two, arith)

-- ---- all of it

module _ {D L O : Type 0} (w : Outside D L O) where
  pub passes_none : (at : Moment D L O) → Passes w at at
  passes_none at = record { told = λ p. refl; faults = λ p. omega arith; sends = omega arith; receives = omega arith; writes = omega arith }

  pub passes_then : {old mid new : Moment D L O} → Passes w old mid → Passes w mid new → Passes w old new
  passes_then one two = record {
    told = λ p. two.told p ∙ one.told p;
    faults = λ p. (let a = one.faults p in let b = two.faults p in omega (a, b, arith));
    sends = (let a = one.sends in let b = two.sends in omega (a, b, arith));
    receives = (let a = one.receives in let b = two.receives in omega (a, b, arith));
    writes = (let a = one.writes in let b = two.writes in omega (a, b, arith));
  }

  pub others_none : (centre : ℕ) (disks : D) → KeepsOthers w.disk w.may_leave centre disks disks
  others_none centre disks = record { others = λ p one two. refl; crash = λ p one two c left. left }

  pub others_then : {centre : ℕ} {old mid new : D} → KeepsOthers w.disk w.may_leave centre old mid → KeepsOthers w.disk w.may_leave centre mid new → KeepsOthers w.disk w.may_leave centre old new
  others_then a b = record {
    others = λ p one two. b.others p one two ∙ a.others p one two;
    crash = λ p one two c left. a.crash p one two c (b.crash p one two c left);
  }

  pub leaves_none : (at : Moment D L O) → Leaves w [] [] [] at at
  leaves_none at = record {
    link = none_recorded (w.calls at.link);
    output = none_written (w.held at.out);
    failed_sends = λ some. absurd (omega (some, arith));
    steps = none_added at.steps;
    dropped = none_added at.dropped;
    lost_told = none_added at.lost;
  }

  pub leaves_then : {first second : List Act} {failed : List LinkCall} {text : List ℕ} {old mid new : Moment D L O}
      → Leaves w first [] [] old mid → Passes w old mid → Leaves w second failed text mid new → Passes w mid new → Leaves w (first ++ second) failed text old new
  leaves_then {first = first} {second = second} {failed = failed} {text = text} {old = old} {mid = mid} {new = new} one past two later = record {
    link = subst (λ (cs : List LinkCall). Records cs (w.calls old.link) (w.calls new.link)) calls
        (recorded_joined (calls_of first ++ []) (calls_of second ++ failed) (w.calls old.link) (w.calls mid.link) (w.calls new.link) one.link two.link);
    output = subst (λ (bytes : List ℕ). Appends (w.held old.out) (w.held new.out) bytes) texts
        (written_joined (printed first ++ []) (printed second ++ text) (w.held old.out) (w.held mid.out) (w.held new.out) one.output two.output);
    failed_sends = λ some.
        let e = failed_append first second in
        elim (either_some (failed_in first) (failed_in second) (omega (some, e, arith))) [
          | inl here ↦ rose_later (w.lost old.link) (w.lost mid.link) (w.lost new.link) (one.failed_sends here) later.sends
          | inr there ↦ rose_before (w.lost old.link) (w.lost mid.link) (w.lost new.link) past.sends (two.failed_sends there)
        ];
    steps = rw (steps_append first second) (adds_then (steps_in first) (steps_in second) old.steps mid.steps new.steps one.steps two.steps);
    dropped = rw (dropped_append first second) (adds_then (dropped_in first) (dropped_in second) old.dropped mid.dropped new.dropped one.dropped two.dropped);
    lost_told = rw (lost_append first second) (adds_then (lost_in first) (lost_in second) old.lost mid.lost new.lost one.lost_told two.lost_told);
  }
    where
      calls : (calls_of first ++ []) ++ (calls_of second ++ failed) ≡ calls_of (first ++ second) ++ failed
      calls = ap (λ (cs : List LinkCall). cs ++ (calls_of second ++ failed)) (append-nil (calls_of first))
          ∙ (sym (append_assoc (calls_of first) (calls_of second) failed) ∙ ap (λ (cs : List LinkCall). cs ++ failed) (sym (calls_append first second)))

      texts : (printed first ++ []) ++ (printed second ++ text) ≡ printed (first ++ second) ++ text
      texts = ap (λ (cs : List ℕ). cs ++ (printed second ++ text)) (append-nil (printed first))
          ∙ (sym (append_assoc (printed first) (printed second) text) ∙ ap (λ (cs : List ℕ). cs ++ text) (sym (printed_append first second)))

  -- ---- acts that were done

  pub did_nothing : (at : Moment D L O) → Did w [] at at
  did_nothing at = record { acts = []; are = refl; left = leaves_none at; passes = passes_none at }

  pub did_then : {first second : List Act} {old mid new : Moment D L O} → Did w first old mid → Did w second mid new → Did w (first ++ second) old new
  did_then {first = first} {second = second} one two = record {
    acts = one.acts ++ two.acts;
    are = answers_append one.acts two.acts ∙ (ap (λ (xs : List Act). xs ++ but_answers two.acts) one.are ∙ ap (λ (ys : List Act). first ++ ys) two.are);
    left = leaves_then one.left one.passes two.left two.passes;
    passes = passes_then one.passes two.passes;
  }

  -- ---- acts of which a front was done

  pub caused_later : (fault : ServeFault) (old mid new : Moment D L O) → Passes w old mid → Caused w fault mid new → Caused w fault old new
  caused_later (ServeFault.Disk a) old mid new past (inl here) = inl (rose_before (w.disk old.disks a).faults (w.disk mid.disks a).faults (w.disk new.disks a).faults (past.faults a) here)
  caused_later (ServeFault.Disk a) old mid new past (inr there) =
      inr (rose_before (w.disk old.disks (a + 16)).faults (w.disk mid.disks (a + 16)).faults (w.disk new.disks (a + 16)).faults (past.faults (a + 16)) there)
  caused_later ServeFault.Link old mid new past cause = rose_before (w.faults old.link) (w.faults mid.link) (w.faults new.link) past.receives cause
  caused_later ServeFault.Output old mid new past cause = rose_before (w.out_faults old.out) (w.out_faults mid.out) (w.out_faults new.out) past.writes cause
  caused_later (ServeFault.Log a fault) old mid new past cause = tt
  caused_later (ServeFault.Boot a fault) old mid new past cause = tt
  caused_later ServeFault.Serial old mid new past cause = tt
  caused_later ServeFault.Memory old mid new past cause = tt

  -- what was done before it
  pub did_broke : {Here There : Type 0} {P Q : List Act → List Act → Type 0} {first second : List Act} {fault : ServeFault} {old mid new : Moment D L O}
      → ((rest : List Act) → MayComeAt There fault rest → MayComeAt Here fault rest)
      → ((before acts rest : List Act) → but_answers before ≡ first → Q acts rest → P (before ++ acts) rest)
      → Did w first old mid → Broke w There Q second fault mid new → Broke w Here P (first ++ second) fault old new
  did_broke {first = first} {second = second} {fault = fault} {old = old} {mid = mid} {new = new} here logs one two = record {
    acts = one.acts ++ two.acts;
    rest = two.rest;
    are = ap (λ (xs : List Act). xs ++ two.rest) (answers_append one.acts two.acts)
        ∙ (append_assoc (but_answers one.acts) (but_answers two.acts) two.rest
        ∙ (ap (λ (xs : List Act). xs ++ (but_answers two.acts ++ two.rest)) one.are ∙ ap (λ (ys : List Act). first ++ ys) two.are));
    comes = here two.rest two.comes;
    printed_more = two.printed_more;
    left = leaves_then one.left one.passes two.left two.passes;
    passes = passes_then one.passes two.passes;
    cause = caused_later fault old mid new one.passes two.cause;
    full = two.full;
    logs = logs one.acts two.acts two.rest one.are two.logs;
  }

  -- what was to come behind it
  pub broke_more : {Told : Type 0} {P : List Act → List Act → Type 0} {first : List Act} {fault : ServeFault} {old new : Moment D L O} (more : List Act)
      → ((acts rest : List Act) → MayComeAt Told fault rest → P acts rest → P acts (rest ++ more))
      → Broke w Told P first fault old new → Broke w Told P (first ++ more) fault old new
  broke_more {Told = Told} {P = P} {first = first} {fault = fault} {old = old} {new = new} more logs one = record {
    acts = one.acts;
    rest = one.rest ++ more;
    are = sym (append_assoc (but_answers one.acts) one.rest more) ∙ ap (λ (xs : List Act). xs ++ more) one.are;
    comes = comes_more Told fault one.rest more one.comes;
    printed_more = one.printed_more;
    left = rw (failed_more Told fault one.rest more one.comes, text_more Told fault one.rest more one.comes) one.left;
    passes = one.passes;
    cause = one.cause;
    full = full_more w.disk w.may_leave w.every new.disks Told fault one.rest more one.comes one.full;
    logs = logs one.acts one.rest one.comes one.logs;
  }
