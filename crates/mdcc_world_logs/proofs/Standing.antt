-- Logs that stand after calls of the disks.
use Rattle.std.proofs.Common.{◌≡◌, ◌≢◌, ◌⊎◌, inl, inr, ◌+◌, ◌-◌, ◌≤◌, ◌<◌, ◌==◌, ◌&&◌, ◌∷◌, Bool, List, ap, arith, cond, get_or, length, nat_le, refl, set, subst, sym, true, ℕ, ◌∙◌}
use Rattle.std.proofs.lemmas.Bool.Decides.{eqb_tells}
use Rattle.std.proofs.lemmas.List.{get_or-set_other, get_or-set_same, get_or_read, length-set}
use Rattle.mdcc_log_file.specs.Area.{AreaLog, read_areas, spare_of}
use Rattle.mdcc_log.specs.AtRest.{IsAtRest}
use Rattle.mdcc_log_file.specs.Both.{KeepsBut}
use Rattle.mdcc_log.specs.Crash.{IsDead, IsOlder}
use Rattle.mdcc_log.specs.Frames.{IsInUse, IsSpare, OpenAreas, other_of, place_of}
use Rattle.mdcc_log.specs.Room.{IsRoomy}
use Rattle.mdcc_disks.specs.Contents.{Contents, IsImage}
use Rattle.mdcc_disks.specs.Disks.{Only, Within}
use Rattle.mdcc_disks.specs.Memory.{AllMemory, at_place, disk_of, is_there, left_since_of, may_leave_of, moment_of, standing}
use Rattle.mdcc_node_log.proofs.Places.{at_both, from_both}
use Rattle.mdcc_node_log.proofs.Roomy.{roomy_read}
use Rattle.mdcc_node_log.proofs.Struck.{rest_areas}
use Rattle.mdcc_world_logs.specs.Represents.{HoldSame, IsLogOf, LogsRepresent, log_at, no_log, with_fact_at}
use Rattle.mdcc_world_logs.specs.declared.logs.Logs.{Logs}
use Rattle.mdcc_def_messages.specs.declared.facts.Fact.{Fact}
use Rattle.mdcc_def_messages.specs.Spelling.{encodings_of}
use Rattle.mdcc_def_simulation.specs.Checkpoints.{checkpoint_every}

-- ---- a disk that gives the same

-- the disk at a place gives the same bytes, and a crash leaves no more than before
pub record IsSame (old new : AllMemory) (p : ℕ) : Type 0 where
  pub there : is_there new p ≡ is_there old p
  pub bytes : (disk_of new p).bytes ≡ (disk_of old p).bytes
  pub leaves : Within (may_leave_of old p) (may_leave_of new p)

pub same-disk : (disks : AllMemory) (p : ℕ) → IsSame disks disks p
same-disk disks p = record { there = refl; bytes = refl; leaves = λ c left. left }

pub both-same : (old mid new : AllMemory) (p : ℕ) → IsSame old mid p → IsSame mid new p → IsSame old new p
both-same old mid new p one two = record {
  there = two.there ∙ one.there;
  bytes = two.bytes ∙ one.bytes;
  leaves = λ c left. one.leaves c (two.leaves c left);
}

-- another place than those of calls
pub elsewhere : (old new : AllMemory) (one two p : ℕ) → KeepsBut disk_of may_leave_of moment_of left_since_of old new one two → p ≢ one → p ≢ two → IsSame old new p
elsewhere old new one two p keeps first second = record {
  there = ap (λ disk. disk.told) (keeps.others p first second);
  bytes = ap (λ disk. disk.bytes) (keeps.others p first second);
  leaves = keeps.crash p first second;
}

pub there-same : (old new : AllMemory) (p : ℕ) → new.count ≡ old.count → is_there new p ≡ is_there old p
there-same old new p counted = ap (λ (count : ℕ). nat_le 1 p && nat_le p count) counted

pub standing-same : (old new : AllMemory) (p : ℕ) → new.count ≡ old.count → standing (at_place new p) ≡ standing (at_place old p) → IsSame old new p
standing-same old new p counted same = record {
  there = there-same old new p counted;
  bytes = ap (λ (contents : Contents). contents.kept) same;
  leaves = λ c left. subst (λ (contents : Contents). IsImage contents c) same left;
}

-- room was made
pub held-same : (old new : AllMemory) → HoldSame old new → (p : ℕ) → IsSame old new p
held-same old new held p = standing-same old new p held.counted (held.contents p)

-- ---- the areas of a centre

pub record AreSame (old new : AllMemory) (a : ℕ) : Type 0 where
  pub first : IsSame old new a
  pub second : IsSame old new (a + 16)

pub same-areas : (old new : AllMemory) → ((p : ℕ) → IsSame old new p) → (a : ℕ) → AreSame old new a
same-areas old new same a = record { first = same a; second = same (a + 16) }

pub both-areas : (old mid new : AllMemory) (a : ℕ) → AreSame old mid a → AreSame mid new a → AreSame old new a
both-areas old mid new a one two = record { first = both-same old mid new a one.first two.first; second = both-same old mid new (a + 16) one.second two.second }

-- the places of another centre are other ones
pub apart : (P : ℕ → Type 0) (a b : ℕ) → a ≤ 9 → b ≤ 9 → b ≢ a → ((p : ℕ) → p ≢ a → p ≢ a + 16 → P p) → P b × P (b + 16)
apart P a b low high other each = (each b other (λ e. absurd (omega (e, high, arith))), each (b + 16) (λ e. absurd (omega (e, low, arith))) (λ e. other (omega (e, arith))))

pub others-same : (old new : AllMemory) (a : ℕ) → a ≤ 9 → ((p : ℕ) → p ≢ a → p ≢ a + 16 → IsSame old new p) → (b : ℕ) → b ≤ 9 → b ≢ a → AreSame old new b
others-same old new a low each b high other = let two = apart (IsSame old new) a b low high other each in record { first = two.0; second = two.1 }

-- ---- logs

used-stays : (old new : AllMemory) (p : ℕ) (frames : OpenAreas) (log : AreaLog) → IsSame old new p → IsInUse frames log (disk_of old p).bytes (may_leave_of old p) → IsInUse frames log (disk_of new p).bytes (may_leave_of new p)
used-stays old new p frames log same used = record {
  valid = used.valid;
  file = same.bytes ∙ used.file;
  generation = used.generation;
  count = used.count;
  start = used.start;
  tail = used.tail;
  body = used.body;
  size = used.size ∙ ap length (sym same.bytes);
  durable = λ c left. used.durable c (same.leaves c left) ∙ sym same.bytes;
}

spare-stays : (old new : AllMemory) (p : ℕ) (frames : OpenAreas) → IsSame old new p → IsSpare frames (disk_of old p).bytes (may_leave_of old p) → IsSpare frames (disk_of new p).bytes (may_leave_of new p)
spare-stays old new p frames same spare = record {
  idle = subst (λ (bytes : List ℕ). IsDead bytes ⊎ IsOlder frames.generation bytes) (sym same.bytes) spare.idle;
  spare = spare.spare ∙ ap spare_of (sym same.bytes);
  durable = λ c left. spare.durable c (same.leaves c left) ∙ sym same.bytes;
}

pub rests : (old new : AllMemory) (a : ℕ) (frames : OpenAreas) (all : List (List ℕ)) → frames.centre ≡ a → AreSame old new a → IsAtRest disk_of may_leave_of old frames all → IsAtRest disk_of may_leave_of new frames all
rests old new a frames all is same rest =
    let two = at_both (IsSame old new) a frames.centre frames.area is same.first same.second rest.range in
    record {
      log = rest.log;
      range = rest.range;
      payloads_are = rest.payloads_are;
      in_use = used-stays old new (place_of frames.centre frames.area) frames rest.log two.0 rest.in_use;
      spare = spare-stays old new (place_of frames.centre (other_of frames.area)) frames two.1 rest.spare;
    }

pub log-stays : (old new : Logs) (a : ℕ) (is_up : Bool) (facts : List Fact) → log_at new a ≡ log_at old a → AreSame old.disks new.disks a → IsLogOf old a is_up facts → IsLogOf new a is_up facts
log-stays old new a is_up facts log same stands = record {
  range = stands.range;
  there = same.first.there ∙ stands.there;
  there_other = same.second.there ∙ stands.there_other;
  log = stands.log;
  read = ap (λ (bytes : List ℕ). read_areas bytes (disk_of new.disks (a + 16)).bytes) same.first.bytes ∙ ap (λ (bytes : List ℕ). read_areas (disk_of old.disks a).bytes bytes) same.second.bytes ∙ stands.read;
  payloads_are = stands.payloads_are;
  roomy = stands.roomy;
  durable = λ c left. stands.durable c (same.first.leaves c left) ∙ sym same.first.bytes;
  durable_other = λ c left. stands.durable_other c (same.second.leaves c left) ∙ sym same.second.bytes;
  few = stands.few;
  «open» = λ yes. let was = stands.open yes in record {
    centre = ap (λ (l : OpenAreas). l.centre) log ∙ was.centre;
    every = ap (λ (l : OpenAreas). l.every) log ∙ was.every;
    at_rest = subst (λ (l : OpenAreas). IsAtRest disk_of may_leave_of new.disks l (encodings_of facts)) (sym log) (rests old.disks new.disks a (log_at old a) (encodings_of facts) was.centre same was.at_rest);
  };
}

-- a crash leaves what is there
abbrev pub IsDurableAt : AllMemory → ℕ → Type 0
IsDurableAt disks p = Only (disk_of disks p).bytes (may_leave_of disks p)

-- an open log whose bytes are all durable
pub log-at-rest : (logs : Logs) (a : ℕ) (frames : OpenAreas) (is_up : Bool) (facts : List Fact) → a ≤ 9 → is_there logs.disks a ≡ true → is_there logs.disks (a + 16) ≡ true
    → log_at logs a ≡ frames → frames.centre ≡ a → frames.every ≡ checkpoint_every → frames.tail < checkpoint_every → IsRoomy frames.generation frames.tail frames.count
    → IsAtRest disk_of may_leave_of logs.disks frames (encodings_of facts) → IsLogOf logs a is_up facts
log-at-rest logs a frames is_up facts range there there_other is centre every few roomy rest =
    let durable = from_both (IsDurableAt logs.disks) a frames.centre frames.area centre rest.range rest.in_use.durable rest.spare.durable in
    record {
      range = range;
      there = there;
      there_other = there_other;
      log = rest.log;
      read = (rest_areas disk_of may_leave_of logs.disks frames a (encodings_of facts) centre rest).log_is;
      payloads_are = sym rest.payloads_are;
      roomy = roomy_read frames rest.log (disk_of logs.disks (place_of frames.centre frames.area)).bytes (may_leave_of logs.disks (place_of frames.centre frames.area)) rest.in_use roomy;
      durable = durable.0;
      durable_other = durable.1;
      few = λ yes. subst (λ (n : ℕ). n < checkpoint_every) rest.in_use.tail few;
      «open» = λ yes. record {
        centre = ap (λ (l : OpenAreas). l.centre) is ∙ centre;
        every = ap (λ (l : OpenAreas). l.every) is ∙ every;
        at_rest = subst (λ (l : OpenAreas). IsAtRest disk_of may_leave_of logs.disks l (encodings_of facts)) (sym is) rest;
      };
    }

-- all logs stand, where that of one centre does, and the others are as they were
pub logs-with : (old new : Logs) (a centres : ℕ) (up now : ℕ → Bool) (facts more : ℕ → List Fact) → LogsRepresent old centres up facts
    → length new.open.items ≡ length old.open.items
    → ((b : ℕ) → 1 ≤ b → b ≢ a → log_at new b ≡ log_at old b)
    → ((b : ℕ) → b ≤ 9 → b ≢ a → AreSame old.disks new.disks b)
    → ((b : ℕ) → b ≢ a → now b ≡ up b)
    → ((b : ℕ) → b ≢ a → more b ≡ facts b)
    → IsLogOf new a (now a) (more a) → LogsRepresent new centres now more
logs-with old new a centres up now facts more stand as_many logs disks ups others here = record {
  as_many = as_many ∙ stand.as_many;
  each = λ b one most. elim (eqb_tells b a) [
    | inl is ↦ subst (λ (n : ℕ). IsLogOf new n (now n) (more n)) (sym is.1) here
    | inr other ↦
        let was = stand.each b one most in
        let there = log-stays old new b (up b) (facts b) (logs b one other.1) (disks b was.range other.1) was in
        subst (λ (fs : List Fact). IsLogOf new b (now b) fs) (sym (others b other.1)) (subst (λ (u : Bool). IsLogOf new b u (facts b)) (sym (ups b other.1)) there)
  ];
}

-- the open log that was read
pub log-is : (logs : Logs) (place a : ℕ) (log : OpenAreas) → place ≡ a → 1 ≤ a → a ≤ length logs.open.items → log ≡ get_or logs.open.items (place - 1) log → log ≡ log_at logs a
log-is logs place a log there some few is =
    let within : place - 1 < length logs.open.items = omega (there, some, few, arith) in
    get_or_read logs.open.items (place - 1) log within is no_log ∙ ap (λ (n : ℕ). get_or logs.open.items (n - 1) no_log) there

-- the open log of a centre is another one
pub log-here : (old new : Logs) (a : ℕ) (log : OpenAreas) → 1 ≤ a → a ≤ length old.open.items → new.open.items ≡ set old.open.items (a - 1) log → log_at new a ≡ log
log-here old new a log some few items =
    ap (λ (logs : List OpenAreas). get_or logs (a - 1) no_log) items ∙ get_or-set_same old.open.items (a - 1) log no_log (omega (some, few, arith))

pub log-there : (old new : Logs) (a : ℕ) (log : OpenAreas) → 1 ≤ a → new.open.items ≡ set old.open.items (a - 1) log → (b : ℕ) → 1 ≤ b → b ≢ a → log_at new b ≡ log_at old b
log-there old new a log some items b one other =
    let apart : (b - 1) ≢ (a - 1) = λ e. other (omega (e, some, one, arith)) in
    ap (λ (logs : List OpenAreas). get_or logs (b - 1) no_log) items ∙ get_or-set_other old.open.items (a - 1) (b - 1) log no_log apart

pub log-same : (old new : Logs) → new.open.items ≡ old.open.items → (b : ℕ) → log_at new b ≡ log_at old b
log-same old new items b = ap (λ (logs : List OpenAreas). get_or logs (b - 1) no_log) items

-- ---- one fact more, and which centres are up

pub cond-here : {X : Type 0} (a : ℕ) (x y : X) → cond (a == a) x y ≡ x
cond-here a x y = elim (eqb_tells a a) [
  | inl same ↦ ap (λ (b : Bool). cond b x y) same.0
  | inr other ↦ absurd (other.1 refl)
]

pub cond-there : {X : Type 0} (a b : ℕ) (x y : X) → b ≢ a → cond (a == b) x y ≡ y
cond-there a b x y other = elim (eqb_tells a b) [
  | inl same ↦ absurd (other (sym same.1))
  | inr apart ↦ ap (λ (t : Bool). cond t x y) apart.0
]

-- What an append or a start leaves open: a log of these facts, with its checkpoints made.
pub record IsKept (disks : AllMemory) (a : ℕ) (frames : OpenAreas) (facts : List Fact) : Type 0 where
  pub centre : frames.centre ≡ a
  pub every : frames.every ≡ checkpoint_every
  pub few : frames.tail < checkpoint_every
  pub roomy : IsRoomy frames.generation frames.tail frames.count
  pub at_rest : IsAtRest disk_of may_leave_of disks frames (encodings_of facts)

-- the log of a centre is another one, with one fact more
pub put : (old new : Logs) (a : ℕ) (log : OpenAreas) (fact : Fact) (centres : ℕ) (up now : ℕ → Bool) (facts : ℕ → List Fact) → LogsRepresent old centres up facts
    → 1 ≤ a → a ≤ length old.open.items → new.open.items ≡ set old.open.items (a - 1) log → ((b : ℕ) → b ≤ 9 → b ≢ a → AreSame old.disks new.disks b)
    → ((b : ℕ) → b ≢ a → now b ≡ up b)
    → is_there new.disks a ≡ true → is_there new.disks (a + 16) ≡ true → IsKept new.disks a log (fact ∷ facts a)
    → LogsRepresent new centres now (with_fact_at facts a fact)
put old new a log fact centres up now facts stand some few items same ups there there_other kept =
    let was = stand.each a some (omega (few, stand.as_many, arith)) in
    logs-with old new a centres up now facts (with_fact_at facts a fact) stand
    (ap length items ∙ length-set old.open.items (a - 1) log)
    (log-there old new a log some items) same ups (λ b other. cond-there a b (fact ∷ facts b) (facts b) other)
    (subst (λ (fs : List Fact). IsLogOf new a (now a) fs) (sym (cond-here a (fact ∷ facts a) (facts a)))
    (log-at-rest new a log (now a) (fact ∷ facts a) was.range there there_other (log-here old new a log some few items) kept.centre kept.every kept.few kept.roomy kept.at_rest))
