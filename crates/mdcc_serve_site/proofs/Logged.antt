-- What logging facts does to the log of a centre.
use Rattle.std.proofs.Common.{◌≡◌, ℕ, ◌+◌, ◌≤◌, ◌<◌, ◌⊎◌, inl, inr, List, [], ◌∷◌, ◌++◌, length, map, Result, Ok, refl, sym, ◌∙◌, ap, subst, arith, true, IsTrue, ◌==◌}
use Rattle.std.proofs.lemmas.List.{length-map}
use Rattle.std.proofs.lemmas.Bool.{cases_eq}
use Rattle.std.proofs.lemmas.Bool.Decides.{nat_tests}
use Rattle.std.specs.List.{AllByRecursion}
use Rattle.mdcc_log_file.specs.Area.{AreaLog, generation_of, payloads}
use Rattle.mdcc_log.specs.AtRest.{IsAtRest}
use Rattle.mdcc_log_file.specs.Both.{KeepsBut, RoseAtOne}
use Rattle.mdcc_log.specs.Crash.{CurrentIsRead, IsCurrent, IsDead, IsIdle, IsOlder, payloads_by}
use Rattle.mdcc_log.specs.Frames.{IsSettled, IsSpare, OpenAreas, other_of, place_of}
use Rattle.mdcc_log.specs.Groups.{AreFull, ReadsAsAllOrNone}
use Rattle.mdcc_log_file.specs.declared.fault.LogFault.{LogFault}
use Rattle.mdcc_disks.specs.Disks.{Disk}
use Rattle.mdcc_def_messages.specs.Spelling.{fact_bytes, encodings_of}
use Rattle.mdcc_def_messages.specs.declared.facts.Fact.{Fact}
use Rattle.mdcc_def_server_runs.specs.Sending.{facts_logged}
use Rattle.mdcc_serve_site.specs.AnyMoment.{LeavesEither}
use Rattle.mdcc_node_log.proofs.Starts.{group-encoded}
use Rattle.mdcc_serve_site.specs.Causes.{IsLogging, next_facts}
use Rattle.mdcc_serve_site.specs.LogEffects.{AreShortFacts, FailsToLog, HasLogged, log_fault_of}
use Rattle.mdcc_serve_site.specs.Logs.{MayHaveFacts, with_facts}
use Rattle.mdcc_serve_site.specs.Moments.{DiskPasses, KeepsOthers}
use Rattle.mdcc_serve_site.specs.Room.{HasNoRoom, LacksRoom}
use Rattle.mdcc_serve_site.specs.SiteState.{IsShortFact, OpenLog}
use Rattle.mdcc_serve_site.specs.declared.fault.ServeFault.{ServeFault}
use Rattle.mdcc_theorem_encoding.proofs.Lengths.{length-fact}

pub same_is : (n : ℕ) → (n == n) ≡ true
same_is n = grind (arith, nat_tests)

-- ---- facts and their bytes

payloads_more : (facts more : List Fact) → ◌≡◌ {A = Result (List (List ℕ)) ℕ} (Ok (encodings_of facts ++ map fact_bytes more)) (Ok (encodings_of (with_facts facts more)))
payloads_more facts more = ap (λ (ps : List (List ℕ)). let ok : Result (List (List ℕ)) ℕ = Ok ps in ok) (group-encoded facts more)

-- they come next
pub logging_some : (centre : ℕ) (more : List Fact) → 1 ≤ length more → IsLogging centre (facts_logged centre more)
logging_some centre [] some = absurd (omega (some, arith))
logging_some centre (fact ∷ more) some = refl

pub next_are : (centre : ℕ) (more : List Fact) → next_facts centre (facts_logged centre more) ≡ more
next_are centre [] = refl
next_are centre (fact ∷ more) = rw (same_is centre) refl

lacks_some : {D : Type 0} (disk : D → ℕ → Disk) (may_leave : D → ℕ → List ℕ → Type 0) (every : ℕ) (disks : D) (centre : ℕ) (more : List Fact)
    → (IsTrue (disk disks centre).told → HasNoRoom disk may_leave every disks centre more) → LacksRoom disk may_leave every disks (facts_logged centre more)
lacks_some disk may_leave every disks centre [] lacks = tt
lacks_some disk may_leave every disks centre (fact ∷ more) lacks = lacks

-- ---- where the areas lie

pub record Lies (log : OpenAreas) (area here there : ℕ) : Type 0 where
  pub area_is : log.area ≡ area
  pub here_is : place_of log.centre log.area ≡ here
  pub there_is : place_of log.centre (other_of log.area) ≡ there

pub at_places : (log : OpenAreas) (centre : ℕ) → log.area ≤ 1 → log.centre ≡ centre → Lies log 0 centre (centre + 16) ⊎ Lies log 1 (centre + 16) centre
at_places log centre range of = elim (cases_eq log.area 0) [
  | inl is ↦
      let other : other_of log.area ≡ 1 = ap other_of is in
      inl (record { area_is = is; here_is = omega (is, of, arith); there_is = omega (other, of, arith) })
  | inr isnt ↦
      let one : log.area ≡ 1 = only_one log.area range isnt in
      let other : other_of log.area ≡ 0 = ap other_of one in
      inr (record { area_is = one; here_is = omega (one, of, arith); there_is = omega (other, of, arith) })
]
  where
    only_one : (n : ℕ) → n ≤ 1 → (n ≡ 0 → ⊥) → n ≡ 1
    only_one n few isnt = elim (cases_eq n 1) [
      | inl e ↦ e
      | inr other ↦ absurd (isnt (omega (few, other, arith)))
    ]

module _ {D : Type 0} (disk : D → ℕ → Disk) (may_leave : D → ℕ → List ℕ → Type 0) where
  -- ---- disks that nothing was done to

  pub disks_same : (disks : D) → DiskPasses disk may_leave disks disks
  disks_same disks = record { told = λ p. refl; faults = λ p. omega arith }

  pub others_same : (centre : ℕ) (disks : D) → KeepsOthers disk may_leave centre disks disks
  others_same centre disks = record { others = λ p one two. refl; crash = λ p one two c left. left }

  -- what is read of them is in the open log
  read_there : {every : ℕ} (disks : D) (log : OpenAreas) (centre : ℕ) (facts : List Fact) → ((p : ℕ) → IsTrue (disk disks p).told → may_leave disks p (disk disks p).bytes) → OpenLog disk may_leave every disks log centre facts
      → IsTrue (disk disks centre).told → payloads (disk disks centre).bytes (disk disks (centre + 16)).bytes ≡ Ok (encodings_of facts)
  read_there disks log centre facts as_read stands told =
      elim (stands.left told (disk disks centre).bytes (disk disks (centre + 16)).bytes (as_read centre told) (as_read (centre + 16) (subst IsTrue (sym stands.alike) told))) [
        | inl read ↦ read
        | inr read ↦ read
      ]

  module _ (moment : D → ℕ) (left_since : D → ℕ → ℕ → List ℕ → Type 0) where
    -- a log that is open there has the same facts, whatever is said of them
    pub either_from : {every also : ℕ} (disks new : D) (log other : OpenAreas) (centre : ℕ) (facts before after : List Fact) → ((p : ℕ) → IsTrue (disk disks p).told → may_leave disks p (disk disks p).bytes)
        → OpenLog disk may_leave every disks log centre facts → OpenLog disk may_leave also disks other centre before
        → LeavesEither disk moment left_since centre before after disks new → LeavesEither disk moment left_since centre facts after disks new
    either_from disks new log other centre facts before after as_read stands taken either first second told left left_second =
        elim (either first second told left left_second) [
          | inl read ↦ inl (read ∙ (sym (read_there disks other centre before as_read taken told) ∙ read_there disks log centre facts as_read stands told))
          | inr read ↦ inr read
        ]

  -- at any moment of a call that does nothing to them
  module _ (moment : D → ℕ) (left_since : D → ℕ → ℕ → List ℕ → Type 0) (only_now : (disks : D) (p : ℕ) (c : List ℕ) → left_since disks p (moment disks) c → may_leave disks p c) where
    pub either_same : {every : ℕ} (disks : D) (log : OpenAreas) (centre : ℕ) (facts after : List Fact) → OpenLog disk may_leave every disks log centre facts → LeavesEither disk moment left_since centre facts after disks disks
    either_same disks log centre facts after stands first second told left left_second =
        elim (stands.left told first second (only_now disks centre first left) (only_now disks (centre + 16) second left_second)) [
          | inl read ↦ inl read
          | inr read ↦ inl read
        ]

  -- ---- a log that is full, or for which there is no memory

  pub unlogged : (every : ℕ) (disks : D) (log : OpenAreas) (centre : ℕ) (facts more : List Fact) (fault : ServeFault) → 1 ≤ length more → OpenLog disk may_leave every disks log centre facts
      → (fault ≡ ServeFault.Memory) ⊎ ((fault ≡ ServeFault.Log centre LogFault.LogFull) × AreFull log (map fact_bytes more))
      → FailsToLog disk may_leave every centre facts more fault disks disks
  unlogged every disks log centre facts more fault some stands (inl is) = rw is (record {
    comes = tt;
    no_boot = tt;
    cause = tt;
    full = tt;
    log = stands.left;
    passes = disks_same disks;
    others = others_same centre disks;
  })
  unlogged every disks log centre facts more fault some stands (inr is) = rw is.0 (record {
    comes = logging_some centre more some;
    no_boot = tt;
    cause = tt;
    full = lacks_some disk may_leave every disks centre more
        (λ told. record { facts = facts; log = log; of = stands.of; often = stands.often; at_rest = stands.at_rest told; full = is.1 });
    log = stands.left;
    passes = disks_same disks;
    others = others_same centre disks;
  })

module _ {D : Type 0} (disk : D → ℕ → Disk) (may_leave : D → ℕ → List ℕ → Type 0) (current_is_read : CurrentIsRead) where
  -- ---- what a crash leaves of a log at rest

  idle_is : (log : OpenAreas) (bytes other : List ℕ) (area : AreaLog) → log.generation ≡ generation_of area.head → IsDead bytes ⊎ IsOlder log.generation bytes → other ≡ bytes → IsIdle area other
  idle_is log bytes other area is (inl dead) same = inl (subst IsDead (sym same) dead)
  idle_is log bytes other area is (inr older) same = inr (inl (subst (λ (n : ℕ). IsOlder n other) is (subst (IsOlder log.generation) (sym same) older)))

  rested_by : (disks : D) (log : OpenAreas) (all : List (List ℕ)) → (rest : IsAtRest disk may_leave disks log all) → (current other : List ℕ)
      → may_leave disks (place_of log.centre log.area) current → may_leave disks (place_of log.centre (other_of log.area)) other → payloads_by log.area current other ≡ Ok all
  rested_by disks log all rest current other left left_other =
      let same = rest.in_use.durable current left ∙ rest.in_use.file in
      let idle = idle_is log (disk disks (place_of log.centre (other_of log.area))).bytes other rest.log rest.in_use.generation rest.spare.idle (rest.spare.durable other left_other) in
      let is : IsCurrent log.area rest.log current = record { valid = rest.in_use.valid; file = inr ([], same) } in
      current_is_read log.area rest.log current other is idle ∙ ap (λ (ps : List (List ℕ)). let ok : Result (List (List ℕ)) ℕ = Ok ps in ok) (sym rest.payloads_are)

  pub rested : (disks : D) (log : OpenAreas) (centre : ℕ) (all : List (List ℕ)) → log.area ≤ 1 → log.centre ≡ centre → IsAtRest disk may_leave disks log all
      → (first second : List ℕ) → may_leave disks centre first → may_leave disks (centre + 16) second → payloads first second ≡ Ok all
  rested disks log centre all range of rest first second left left_second = elim (at_places log centre range of) [
    | inl lies ↦
        sym (ap (λ (n : ℕ). payloads_by n first second) lies.area_is)
        ∙ rested_by disks log all rest first second (subst (λ (p : ℕ). may_leave disks p first) (sym lies.here_is) left) (subst (λ (p : ℕ). may_leave disks p second) (sym lies.there_is) left_second)
    | inr lies ↦
        sym (ap (λ (n : ℕ). payloads_by n second first) lies.area_is)
        ∙ rested_by disks log all rest second first (subst (λ (p : ℕ). may_leave disks p second) (sym lies.here_is) left_second) (subst (λ (p : ℕ). may_leave disks p first) (sym lies.there_is) left)
  ]

  -- the areas of a log tell their bytes where its centre does
  pub told_both : {every : ℕ} (disks : D) (log : OpenAreas) (centre : ℕ) (facts : List Fact) → OpenLog disk may_leave every disks log centre facts → log.area ≤ 1
      → IsTrue (disk disks centre).told → IsTrue (disk disks (place_of log.centre log.area)).told × IsTrue (disk disks (place_of log.centre (other_of log.area))).told
  told_both disks log centre facts stands range told =
      let other : IsTrue (disk disks (centre + 16)).told = subst IsTrue (sym stands.alike) told in
      elim (at_places log centre range stands.of) [
        | inl lies ↦ (subst (λ (p : ℕ). IsTrue (disk disks p).told) (sym lies.here_is) told, subst (λ (p : ℕ). IsTrue (disk disks p).told) (sym lies.there_is) other)
        | inr lies ↦ (subst (λ (p : ℕ). IsTrue (disk disks p).told) (sym lies.here_is) other, subst (λ (p : ℕ). IsTrue (disk disks p).told) (sym lies.there_is) told)
      ]

  told_of : {every : ℕ} (disks : D) (log : OpenAreas) (centre : ℕ) (facts : List Fact) → OpenLog disk may_leave every disks log centre facts → log.area ≤ 1
      → (IsTrue (disk disks (place_of log.centre log.area)).told → IsTrue (disk disks centre).told) × (IsTrue (disk disks (place_of log.centre (other_of log.area))).told → IsTrue (disk disks centre).told)
  told_of disks log centre facts stands range = elim (at_places log centre range stands.of) [
    | inl lies ↦ (λ told. subst (λ (p : ℕ). IsTrue (disk disks p).told) lies.here_is told, λ told. subst IsTrue stands.alike (subst (λ (p : ℕ). IsTrue (disk disks p).told) lies.there_is told))
    | inr lies ↦ (λ told. subst IsTrue stands.alike (subst (λ (p : ℕ). IsTrue (disk disks p).told) lies.here_is told), λ told. subst (λ (p : ℕ). IsTrue (disk disks p).told) lies.there_is told)
  ]

  -- what an append asks of the areas
  pub settled_there : {every : ℕ} (disks : D) (log : OpenAreas) (centre : ℕ) (facts : List Fact) → OpenLog disk may_leave every disks log centre facts → log.area ≤ 1
      → IsTrue (disk disks (place_of log.centre log.area)).told
      → IsSettled log (disk disks (place_of log.centre log.area)).bytes (may_leave disks (place_of log.centre log.area))
  settled_there disks log centre facts stands range told =
      let rest = stands.at_rest ((told_of disks log centre facts stands range).0 told) in (rest.log, rest.in_use)

  pub spare_there : {every : ℕ} (disks : D) (log : OpenAreas) (centre : ℕ) (facts : List Fact) → OpenLog disk may_leave every disks log centre facts → log.area ≤ 1
      → IsTrue (disk disks (place_of log.centre (other_of log.area))).told
      → IsSpare log (disk disks (place_of log.centre (other_of log.area))).bytes (may_leave disks (place_of log.centre (other_of log.area)))
  spare_there disks log centre facts stands range told =
      (stands.at_rest ((told_of disks log centre facts stands range).1 told)).spare

  -- ---- an append

  module _ (moment : D → ℕ) (left_since : D → ℕ → ℕ → List ℕ → Type 0) (old new : D) where
    told_at : (one two : ℕ) → KeepsBut disk may_leave moment left_since old new one two → (p : ℕ) → (disk new p).told ≡ (disk old p).told
    told_at one two keeps p = elim (cases_eq p one) [
      | inl is ↦ rw is keeps.told_one
      | inr isnt ↦ elim (cases_eq p two) [
        | inl is ↦ rw is keeps.told_two
        | inr isnt_two ↦ ap (λ (d : Disk). d.told) (keeps.others p isnt isnt_two)
      ]
    ]

    faults_at : (one two : ℕ) → KeepsBut disk may_leave moment left_since old new one two → (p : ℕ) → (disk old p).faults ≤ (disk new p).faults
    faults_at one two keeps p = elim (cases_eq p one) [
      | inl is ↦ rw is keeps.faults_one
      | inr isnt ↦ elim (cases_eq p two) [
        | inl is ↦ rw is keeps.faults_two
        | inr isnt_two ↦ (let same = ap (λ (d : Disk). d.faults) (keeps.others p isnt isnt_two) in omega (same, arith))
      ]
    ]

    pub disks_pass : (one two : ℕ) → KeepsBut disk may_leave moment left_since old new one two → DiskPasses disk may_leave old new
    disks_pass one two keeps = record { told = told_at one two keeps; faults = faults_at one two keeps }

    module _ (log : OpenAreas) (centre : ℕ) (range : log.area ≤ 1) (of : log.centre ≡ centre)
        (keeps : KeepsBut disk may_leave moment left_since old new (place_of log.centre log.area) (place_of log.centre (other_of log.area)))
      where
        pub others_keep : KeepsOthers disk may_leave centre old new
        others_keep = elim (at_places log centre range of) [
          | inl lies ↦ record {
            others = λ p one two. keeps.others p (λ is. one (is ∙ lies.here_is)) (λ is. two (is ∙ lies.there_is));
            crash = λ p one two. keeps.crash p (λ is. one (is ∙ lies.here_is)) (λ is. two (is ∙ lies.there_is));
          }
          | inr lies ↦ record {
            others = λ p one two. keeps.others p (λ is. two (is ∙ lies.here_is)) (λ is. one (is ∙ lies.there_is));
            crash = λ p one two. keeps.crash p (λ is. two (is ∙ lies.here_is)) (λ is. one (is ∙ lies.there_is));
          }
        ]

        -- where a call of the disk failed
        pub rose_there : RoseAtOne (disk old (place_of log.centre log.area)) (disk new (place_of log.centre log.area)) (disk old (place_of log.centre (other_of log.area))) (disk new (place_of log.centre (other_of log.area)))
            → RoseAtOne (disk old centre) (disk new centre) (disk old (centre + 16)) (disk new (centre + 16))
        rose_there rose = elim (at_places log centre range of) [
          | inl lies ↦ rw (lies.here_is, lies.there_is) at rose
          | inr lies ↦ turned (rw (lies.here_is, lies.there_is) at rose)
        ]
          where
            turned : RoseAtOne (disk old (centre + 16)) (disk new (centre + 16)) (disk old centre) (disk new centre) → RoseAtOne (disk old centre) (disk new centre) (disk old (centre + 16)) (disk new (centre + 16))
            turned (inl here) = inr here
            turned (inr there) = inl there

        -- the log has the new facts
        pub appended_stands : (every : ℕ) (new_log : OpenAreas) (facts more : List Fact) → OpenLog disk may_leave every old log centre facts
            → ((all : List (List ℕ)) → IsTrue (disk old (place_of log.centre log.area)).told → IsTrue (disk old (place_of log.centre (other_of log.area))).told
            → IsAtRest disk may_leave old log all → IsAtRest disk may_leave new new_log (all ++ map fact_bytes more))
            → new_log.tail < new_log.every → (new_log.centre ≡ log.centre) × (new_log.every ≡ log.every)
            → HasLogged disk may_leave every centre facts more old new new_log
        appended_stands every new_log facts more stands acknowledged few same = record {
          stands = record {
            open_log = record {
              of = same.0 ∙ of;
              often = same.1 ∙ stands.often;
              alike = told_at _ _ keeps (centre + 16) ∙ (stands.alike ∙ sym (told_at _ _ keeps centre));
              at_rest = λ told.
                  let before = subst IsTrue (told_at _ _ keeps centre) told in
                  let both = told_both old log centre facts stands range before in
                  subst (λ (all : List (List ℕ)). IsAtRest disk may_leave new new_log all) (group-encoded facts more) (acknowledged (encodings_of facts) both.0 both.1 (stands.at_rest before));
              left = λ told first second here there.
                  let before = subst IsTrue (told_at _ _ keeps centre) told in
                  let both = told_both old log centre facts stands range before in
                  let rest = acknowledged (encodings_of facts) both.0 both.1 (stands.at_rest before) in
                  inl (rested new new_log centre (encodings_of facts ++ map fact_bytes more) rest.range (same.0 ∙ of) rest first second here there ∙ payloads_more facts more);
            };
            few = subst (λ (n : ℕ). new_log.tail < n) (same.1 ∙ stands.often) few;
          };
          passes = disks_pass _ _ keeps;
          others = others_keep;
        }

        -- whatever a crash at any moment of it left, the log has its facts, or those and all the new ones
        pub either_left : {every : ℕ} (facts more : List Fact) → OpenLog disk may_leave every old log centre facts
            → ((all : List (List ℕ)) (current spare : List ℕ) → IsTrue (disk old (place_of log.centre log.area)).told → IsTrue (disk old (place_of log.centre (other_of log.area))).told
            → IsAtRest disk may_leave old log all
            → left_since new (place_of log.centre log.area) (moment old) current → left_since new (place_of log.centre (other_of log.area)) (moment old) spare
            → ReadsAsAllOrNone all (map fact_bytes more) (payloads_by log.area current spare))
            → LeavesEither disk moment left_since centre facts (with_facts facts more) old new
        either_left facts more stands reads first second told left left_second =
            let both = told_both old log centre facts stands range told in
            let since : (p q : ℕ) (c : List ℕ) → p ≡ q → left_since new q (moment old) c → left_since new p (moment old) c = λ p q c is has. subst (λ (n : ℕ). left_since new n (moment old) c) (sym is) has in
            elim (at_places log centre range of) [
              | inl lies ↦ either first second (subst (λ (n : ℕ). ReadsAsAllOrNone (encodings_of facts) (map fact_bytes more) (payloads_by n first second)) lies.area_is
                  (reads (encodings_of facts) first second both.0 both.1 (stands.at_rest told) (since _ _ first lies.here_is left) (since _ _ second lies.there_is left_second)))
              | inr lies ↦ either first second (subst (λ (n : ℕ). ReadsAsAllOrNone (encodings_of facts) (map fact_bytes more) (payloads_by n second first)) lies.area_is
                  (reads (encodings_of facts) second first both.0 both.1 (stands.at_rest told) (since _ _ second lies.here_is left_second) (since _ _ first lies.there_is left)))
            ]
          where
            either : (one two : List ℕ) → ReadsAsAllOrNone (encodings_of facts) (map fact_bytes more) (payloads one two)
                → (payloads one two ≡ Ok (encodings_of facts)) ⊎ (payloads one two ≡ Ok (encodings_of (with_facts facts more)))
            either one two (inl read) = inl read
            either one two (inr read) = inr (read ∙ payloads_more facts more)

        -- so it is of what a crash leaves then
        may_have : {every : ℕ} (facts more : List Fact) → OpenLog disk may_leave every old log centre facts
            → ((disks : D) (p t : ℕ) (c : List ℕ) → t ≤ moment disks → may_leave disks p c → left_since disks p t c)
            → ((all : List (List ℕ)) (current spare : List ℕ) → IsTrue (disk old (place_of log.centre log.area)).told → IsTrue (disk old (place_of log.centre (other_of log.area))).told
            → IsAtRest disk may_leave old log all
            → left_since new (place_of log.centre log.area) (moment old) current → left_since new (place_of log.centre (other_of log.area)) (moment old) spare
            → ReadsAsAllOrNone all (map fact_bytes more) (payloads_by log.area current spare))
            → IsTrue (disk old centre).told → MayHaveFacts disk may_leave new centre facts more
        may_have facts more stands counts_now reads told first second left left_second =
            either_left facts more stands reads first second told
            (counts_now new centre (moment old) first keeps.later left) (counts_now new (centre + 16) (moment old) second keeps.later left_second)

        pub append_fails : (every : ℕ) (fault : LogFault) (facts more : List Fact) → 1 ≤ length more → OpenLog disk may_leave every old log centre facts
            → ((disks : D) (p t : ℕ) (c : List ℕ) → t ≤ moment disks → may_leave disks p c → left_since disks p t c)
            → ((all : List (List ℕ)) (current spare : List ℕ) → IsTrue (disk old (place_of log.centre log.area)).told → IsTrue (disk old (place_of log.centre (other_of log.area))).told
            → IsAtRest disk may_leave old log all
            → left_since new (place_of log.centre log.area) (moment old) current → left_since new (place_of log.centre (other_of log.area)) (moment old) spare
            → ReadsAsAllOrNone all (map fact_bytes more) (payloads_by log.area current spare))
            → (fault ≡ LogFault.DiskFault → RoseAtOne (disk old (place_of log.centre log.area)) (disk new (place_of log.centre log.area)) (disk old (place_of log.centre (other_of log.area))) (disk new (place_of log.centre (other_of log.area))))
            → (fault ≡ LogFault.LogFull → new ≡ old) → ((n : ℕ) → fault ≡ LogFault.NotALog n → IsTrue (disk old (place_of log.centre log.area)).told → ⊥) → (fault ≡ LogFault.Memory → new ≡ old)
            → (fault ≡ LogFault.LogFull → AreFull log (map fact_bytes more))
            → FailsToLog disk may_leave every centre facts more (log_fault_of centre fault) old new
        append_fails every LogFault.DiskFault facts more some stands counts_now reads rose full a_log memory lacks = record {
          comes = logging_some centre more some;
          no_boot = tt;
          cause = rose_there (rose refl);
          full = tt;
          log = λ told. subst (λ (fs : List Fact). MayHaveFacts disk may_leave new centre facts fs) (sym (next_are centre more)) (may_have facts more stands counts_now reads told);
          passes = disks_pass _ _ keeps;
          others = others_keep;
        }
        append_fails every LogFault.LogFull facts more some stands counts_now reads rose full a_log memory lacks =
            subst (λ (d : D). FailsToLog disk may_leave every centre facts more (ServeFault.Log centre LogFault.LogFull) old d) (sym (full refl)) (unlogged disk may_leave every old log centre facts more _ some stands (inr (refl, lacks refl)))
        append_fails every LogFault.Memory facts more some stands counts_now reads rose full a_log memory lacks =
            subst (λ (d : D). FailsToLog disk may_leave every centre facts more ServeFault.Memory old d) (sym (memory refl)) (unlogged disk may_leave every old log centre facts more _ some stands (inl refl))
        append_fails every (LogFault.NotALog n) facts more some stands counts_now reads rose full a_log memory lacks = record {
          comes = λ told. a_log n refl (told_both old log centre facts stands range told).0;
          no_boot = tt;
          cause = tt;
          full = tt;
          log = λ told. absurd (a_log n refl (told_both old log centre facts stands range told).0);
          passes = disks_pass _ _ keeps;
          others = others_keep;
        }

pub same_fault : {D : Type 0} (disk : D → ℕ → Disk) (may_leave : D → ℕ → List ℕ → Type 0) (every centre : ℕ) (facts more : List Fact) (result fault : ServeFault) (old new : D) → result ≡ fault
    → FailsToLog disk may_leave every centre facts more fault old new → FailsToLog disk may_leave every centre facts more result old new
same_fault disk may_leave every centre facts more result fault old new is fails = rw is fails

-- ---- what an append asks of the payloads

abbrev pub AreShort : List (List ℕ) → Type 0
AreShort payloads = AllByRecursion (λ payload. length payload ≤ 2097152) payloads

all_short : (facts : List Fact) → AllByRecursion IsShortFact facts → AreShort (map fact_bytes facts)
all_short [] short = tt
all_short (fact ∷ facts) short = (let e = length-fact fact in let few = short.0.1 in omega (e, few, arith), all_short facts short.1)

pub payloads_short : (payloads : List (List ℕ)) → AreShortFacts payloads → AreShort payloads
payloads_short payloads (facts, are, short) = subst AreShort (sym are) (all_short facts short)

-- as many as the facts
pub some_facts : (payloads : List (List ℕ)) (facts : List Fact) → payloads ≡ map fact_bytes facts → 1 ≤ length payloads → 1 ≤ length facts
some_facts payloads facts are some = subst (λ (n : ℕ). 1 ≤ n) (ap length are ∙ length-map facts fact_bytes) some
