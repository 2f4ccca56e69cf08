-- What happened, and then more.
use Rattle.std.proofs.Common.{◌≡◌, ℕ, ◌+◌, length, ◌++◌, [], Bool, true, false, List, Option, Some, None, Result, Ok, Err, arith, refl, sym, ap, ◌∙◌, subst, append_assoc}
use Rattle.std.specs.Bool.{OnFalse}
use Rattle.std.specs.Prelude.{IfErr, IsErrAnd, OnOk}
use Rattle.mdcc_def_simulation.specs.State.{Happened, World, after_lines, counted_event, next_message}
use Rattle.mdcc_def_messages.specs.Mailbox.{Sent}
use Rattle.mdcc_def_simulation.specs.Limits.{unless_limit, with_lines, is_out_of_memory}
use Rattle.mdcc_def_language.specs.declared.lines.Line.{Line}
use Rattle.mdcc_def_language.specs.declared.world.EventFault.{EventFault}
use Rattle.mdcc_world.specs.Faults.{OnRefusal, is_free}
use Rattle.mdcc_world.specs.Represents.{HasHappened, Happens, IsLike}
use Rattle.mdcc_world.specs.declared.world.World.{World as TheWorld}
use Rattle.mdcc_theorem_worlds.proofs.Stays.{counted-stays}
use Rattle.mdcc_theorem_worlds.specs.EventEffects.{if_open}

pub happened-then : (first second : TheWorld) (before mid after : List Line) (h k : Happened)
    → HasHappened first before mid h → HasHappened second mid after k → HasHappened second before after (after_lines h.lines k)
happened-then first second before mid after h k one two = record {
  like = two.like;
  lines = two.lines ∙ ap (λ (lines : List Line). lines ++ k.lines) one.lines ∙ append_assoc before h.lines k.lines;
}

-- ---- refusals

pub any-fault : (b : Bool) {P : Type 0} → P → OnFalse b P
any-fault true p = tt
any-fault false p = p

pub fault-then : (b : Bool) {P Q : Type 0} → (P → Q) → OnFalse b P → OnFalse b Q
fault-then true f p = tt
fault-then false f p = f p

-- a fault that is passed on
pub residual : {T : Type 0} (r : Result T EventFault) (fault : EventFault) → IsErrAnd r (λ e. e ≡ fault) → r ≡ Err fault
residual (Ok x) fault h = absurd h
residual (Err e) fault h = ap (λ (f : EventFault). Err f) h

-- no memory may always be
pub memory-happens : {T : Type 0} (r : Result T EventFault) (world : TheWorld) (before after : List Line) (expected : Result Happened EventFault)
    → Happens world before after r (Err EventFault.Memory) → Happens world before after r expected
memory-happens (Ok x) world before after expected h = absurd h
memory-happens (Err (EventFault.NoMessage n)) world before after expected h = absurd (cc)
memory-happens (Err (EventFault.Down a)) world before after expected h = absurd (cc)
memory-happens (Err (EventFault.Up a)) world before after expected h = absurd (cc)
memory-happens (Err (EventFault.NoRead n)) world before after expected h = absurd (cc)
memory-happens (Err (EventFault.Begin fault)) world before after expected h = absurd (cc)
memory-happens (Err (EventFault.Limit name n)) world before after expected h = absurd (cc)
memory-happens (Err EventFault.Memory) world before after expected h = tt

-- a fault that is want of memory says nothing
pub memory-free : (fault : EventFault) (expected : Result Happened EventFault) → fault ≡ EventFault.Memory → OnFalse (is_out_of_memory fault) (expected ≡ Err fault)
memory-free fault expected e = rw e tt

-- what comes about has happened
pub record HasCome (world : TheWorld) (before after : List Line) (expected : Result Happened EventFault) : Type 0 where
  pub h : Happened
  pub is : expected ≡ Ok h
  pub happened : HasHappened world before after h

pub has-come : {T : Type 0} (x : T) (world : TheWorld) (before after : List Line) (expected : Result Happened EventFault)
    → Happens world before after (Ok x) expected → HasCome world before after expected
has-come x world before after (Ok h) happens = record { h = h; is = refl; happened = happens }
has-come x world before after (Err fault) happens = absurd happens

-- ---- what is open and what is not

-- what is open happens
pub opened : {T : Type 0} (result : Result T EventFault) (world : TheWorld) (before after : List Line) (expected : Result Happened EventFault)
    (may : Result (Unit {0}) EventFault) (r : Result Happened EventFault)
    → expected ≡ if_open may r → Ok tt ≡ may → Happens world before after result r → Happens world before after result expected
opened result world before after expected may r is none happens =
    let same : expected ≡ r = is ∙ ap (λ (o : Result (Unit {0}) EventFault). if_open o r) (sym none) in
    subst (λ (e : Result Happened EventFault). Happens world before after result e) (sym same) happens

-- and what is not is refused
pub refused-is : (expected : Result Happened EventFault) (may : Result (Unit {0}) EventFault) (r : Result Happened EventFault) (fault : EventFault)
    → expected ≡ if_open may r → Err fault ≡ may → OnFalse (is_out_of_memory fault) (expected ≡ Err fault)
refused-is expected may r fault is none =
    any-fault (is_out_of_memory fault) (is ∙ ap (λ (o : Result (Unit {0}) EventFault). if_open o r) (sym none))

-- ---- limits

-- nothing happens where a limit would be passed
abbrev pub may_be : Option EventFault → Result (Unit {0}) EventFault
may_be o = unless_limit o tt

abbrev pub clear : Result (Unit {0}) EventFault
clear = Ok tt

pub unlimited : (o : Option EventFault) → clear ≡ may_be o → o ≡ None
unlimited None e = refl
unlimited (Some fault) e = absurd (cc)

pub limited : (o : Option EventFault) (fault : EventFault) → Err fault ≡ may_be o → o ≡ Some fault
limited None fault e = absurd (cc)
limited (Some other) fault e = let same : fault ≡ other = cc in rw same refl

-- ---- lines before what happened

pub reported-happens : (world : TheWorld) (before after reported first : List Line) (line : World → List Line) (expected : Result Happened EventFault)
    → Happens {T = Unit {0}} world [] reported (Ok tt) expected → ((w : World) → IsLike world w → first ≡ line w) → after ≡ before ++ (first ++ reported)
    → Happens {T = Unit {0}} world before after (Ok tt) (with_lines line expected)
reported-happens world before after reported first line (Ok h) one is put = record {
  like = one.like;
  lines = put ∙ ap (λ (xs : List Line). before ++ (xs ++ reported)) (is h.world one.like) ∙ ap (λ (xs : List Line). before ++ (line h.world ++ xs)) one.lines;
}
reported-happens world before after reported first line (Err fault) one is put = absurd one

pub reported-refused : (fault : EventFault) (line : World → List Line) (expected : Result Happened EventFault)
    → OnFalse (is_out_of_memory fault) (expected ≡ Err fault) → OnFalse (is_out_of_memory fault) (with_lines line expected ≡ Err fault)
reported-refused fault line expected refused = fault-then (is_out_of_memory fault) (λ (e : expected ≡ Err fault). ap (with_lines line) e) refused

-- the number of the next message
pub next-is : (world : TheWorld) (w : World) (next : ℕ) → IsLike world w → next ≡ length world.network + 1 → next ≡ next_message w
next-is world w next like number = number ∙ ap (λ (sent : List Sent). length sent + 1) like.records.network

-- ---- what stays like a world

pub like-counted : (world : TheWorld) (w : World) → IsLike world w → IsLike (record world { events = world.events + 1 }) (counted_event w)
like-counted world w like = record {
  records = record {
    itself = counted-stays w like.records.itself;
    cluster = like.records.cluster;
    network = like.records.network;
    bytes = like.records.bytes;
    reads = like.records.reads;
    few_reads = (let few = like.records.few_reads in omega (few, arith));
    events = ap (λ (n : ℕ). n + 1) like.records.events;
    ups = like.records.ups;
    stops = like.records.stops;
  };
  decisions = like.decisions;
  nodes = record { as_many = like.nodes.as_many; each = like.nodes.each };
  logs = like.logs;
  tails = like.tails;
}

pub like-network : (world : TheWorld) (network : List Sent) (w : World) → network ≡ world.network → IsLike world w → IsLike (record world { network = network }) w
like-network world network w kept like = record {
  records = record {
    itself = like.records.itself;
    cluster = like.records.cluster;
    network = kept ∙ like.records.network;
    bytes = like.records.bytes;
    reads = like.records.reads;
    few_reads = like.records.few_reads;
    events = like.records.events;
    ups = like.records.ups;
    stops = like.records.stops;
  };
  decisions = like.decisions;
  nodes = like.nodes;
  logs = like.logs;
  tails = like.tails;
}

-- ---- calls that pass on what was made

pub on-ok : {T : Type 0} (r : Result T EventFault) {P : Type 0} → P → OnOk r P
on-ok (Ok x) p = p
on-ok (Err fault) p = tt

-- such a fault may come in the middle of a line
pub free-refusal : {T : Type 0} (r : Result T EventFault) (P : Type 0) → IfErr r (λ fault. is_free fault ≡ true) → OnRefusal r P
free-refusal (Ok x) P h = tt
free-refusal (Err fault) P h = rw h tt

pub memory-is-free : {T : Type 0} (r : Result T EventFault) → IfErr r (λ fault. fault ≡ EventFault.Memory) → IfErr r (λ fault. is_free fault ≡ true)
memory-is-free (Ok x) h = tt
memory-is-free (Err fault) h = rw h refl

-- what is told, unless there was no memory
pub reported-result : (r : Result (Unit {0}) EventFault) (world : TheWorld) (before after : List Line) (expected : Result Happened EventFault) {P : Type 0}
    → OnOk r P → IfErr r (λ fault. fault ≡ EventFault.Memory) → (P → Happens {T = Unit {0}} world before after (Ok tt) expected)
    → Happens {T = Unit {0}} world before after r expected
reported-result (Ok x) world before after expected p memory f = f p
reported-result (Err fault) world before after expected p memory f = memory-free fault expected memory
