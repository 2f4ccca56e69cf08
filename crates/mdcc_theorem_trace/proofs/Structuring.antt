-- The rules of a leader are good.
use Rattle.std.proofs.Common.{Bool, Err, List, None, Ok, Option, Result, Some, [], ap, arith, cond, false, inl, inr, length, not, refl, subst, sym, true, ℕ, ◌&&◌, ◌++◌, ◌+◌, ◌<◌, ◌==◌, ◌∙◌, ◌∷◌, ◌≡◌, ◌≤◌}
use Rattle.std.specs.Prelude.{is_some, map, nat_le, ⊤}
use Rattle.std.specs.List.{list_any}
use Rattle.std.proofs.lemmas.Bool.{and_from, and_parts, cases_Bool, eq-eqb, eqb-true, le-leb, leb-true, not-true, not_from_false, or_from, or_left, or_parts, true≢false}
use Rattle.mdcc_base.specs.declared.identifiers.Ballot.{Ballot}
use Rattle.mdcc_base.specs.declared.key.Key.{Key}
use Rattle.mdcc_base.specs.Quorums.{all_centres}
use Rattle.mdcc_base.specs.Ballot.{ballot_eq, fast_ballot, is_fast}
use Rattle.mdcc_base.specs.Key.{key_eq}
use Rattle.mdcc_option.specs.declared.cluster.Cluster.{Cluster}
use Rattle.mdcc_struct.specs.declared.options.Options.{Options}
use Rattle.mdcc_def_protocol.specs.Marks.{options_eq}
use Rattle.mdcc_def_protocol.specs.Facts.{current_of}
use Rattle.mdcc_def_protocol.specs.Fit.{parts_of}
use Rattle.mdcc_def_protocol.specs.Structures.{first_structure, is_crowded, is_enough}
use Rattle.mdcc_def_rules.specs.LeaderRules.{promised_by_answer}
use Rattle.mdcc_def_protocol.specs.Leader.{counted_promise, has_proposed, is_promise_counted, on_promise, promise_taken, reports_of, structure_made, with_promise}
use Rattle.mdcc_def_protocol.specs.Volatile.{CountedPromise, Lead, Leading, Volatile, lead_of, structure_found, with_lead, with_leader, with_structure}
use Rattle.mdcc_def_ledger.specs.Ledger.{Entry, Valued, facts_of, structure_valued}
use Rattle.mdcc_def_ledger.specs.AllowedLedgers.{IsAllowed, is_valued}
use Rattle.mdcc_def_ledger.specs.AllowedStructures.{IsAmongCentres, IsMade, are_distinct_centres, promisers_of}
use Rattle.mdcc_def_messages.specs.declared.messages.Message.{Message}
use Rattle.mdcc_theorem_trace_states.specs.Words.{Each, In, count_where}
use Rattle.mdcc_theorem_trace_states.specs.Invariant.{IsGoodStep}
use Rattle.mdcc_theorem_trace_states.specs.VolatileInvariant.{IsLead, IsPromise, Keeps, Leads}
use Rattle.mdcc_theorem_trace_states.specs.Sound.{IsSound}
use Rattle.mdcc_theorem_trace_states.proofs.Tests.{Decides-ballot, Decides-key, Decides-options}
use Rattle.mdcc_theorem_trace_states.proofs.Lists.{Each-append, Each-at, Each-like}
use Rattle.mdcc_theorem_trace_states.proofs.Kept.{AreVotes-more, Manages-more, told-more}
use Rattle.mdcc_theorem_trace_states.proofs.Led.{IsPlaced-more}
use Rattle.mdcc_theorem_trace_rules.proofs.Begins.{nothing-good, stands-each}
use Rattle.mdcc_theorem_trace_rules.proofs.Chains.{HasOnce, once-first}
use Rattle.mdcc_def_protocol.proofs.EnoughPromises.{enough-classic, parts-classic, waiting-few}
use Rattle.mdcc_theorem_trace.proofs.Claims.{found-with}
use Rattle.mdcc_theorem_trace.proofs.Leading.{among, lead-in, lead-kept, promisers-enough, valued-kept}
use Rattle.mdcc_theorem_trace.proofs.Making.{AllSound, centres-told, first-sound, reports-good, reports-told, sound-begun}
use Rattle.mdcc_def_protocol.specs.declared.leader.LeadFault.{LeadFault}
use Rattle.mdcc_def_protocol.specs.declared.leader.Promise.{Promise}
use Rattle.mdcc_def_protocol.specs.declared.leader.PromiseAnswer.{PromiseAnswer}
use Rattle.mdcc_def_rules.specs.Messages.{to_all}
use Rattle.mdcc_def_rules.specs.Steps.{StepPart}
use Rattle.mdcc_theorem_trace_rules.specs.Closed.{IsClosed}
use Rattle.mdcc_theorem_trace_states.specs.Steps.{IsUp}

-- what the ledgers of a trace with classic ballots have besides
pub record IsWell (also : List Entry → Type 0) : Type 0 where
  pub shut : IsClosed also
  pub sound : (es : List Entry) → also es → IsSound es
  pub valued : (cluster : Cluster) (es : List Entry) (c : ℕ) (k : Key) (v : ℕ) (b : Ballot) (os : Options) → IsAllowed cluster (Valued c k v b os ∷ es) → AllSound es k v os → also es → also (Valued c k v b os ∷ es)

-- a promise as it is counted
abbrev pub counted_of : ℕ → Promise → CountedPromise
counted_of from promise = record { from = from; through = promise.through; reported = promise.reported; votes = promise.votes }

distinct-push : (ps : List CountedPromise) (p : CountedPromise) → list_any (λ (q : CountedPromise). q.from == p.from) ps ≡ false → are_distinct_centres (map (λ (q : CountedPromise). q.from) ps) ≡ true → are_distinct_centres (map (λ (q : CountedPromise). q.from) (ps ++ p ∷ [])) ≡ true
distinct-push [] p h g = refl
distinct-push (q ∷ qs) p h g =
    let a = and_parts (not (list_any (λ b. q.from == b) (map (λ (q : CountedPromise). q.from) qs))) (are_distinct_centres (map (λ (q : CountedPromise). q.from) qs)) g in
    let c = or_parts (q.from == p.from) (list_any (λ (q : CountedPromise). q.from == p.from) qs) h in
    and_from _ _ (not_from_false _ (none qs (not-true _ a.0) c.0)) (distinct-push qs p c.1 a.1)
  where
    none : (rs : List CountedPromise) → list_any (λ b. q.from == b) (map (λ (q : CountedPromise). q.from) rs) ≡ false → (q.from == p.from) ≡ false → list_any (λ b. q.from == b) (map (λ (q : CountedPromise). q.from) (rs ++ p ∷ [])) ≡ false
    none [] x y = or_from (q.from == p.from) false y refl
    none (r ∷ rs) x y =
        let z = or_parts (q.from == r.from) (list_any (λ b. q.from == b) (map (λ (q : CountedPromise). q.from) rs)) x in
        or_from (q.from == r.from) _ z.0 (none rs z.1 y)

length-push : (ps : List CountedPromise) (p : CountedPromise) → length (ps ++ p ∷ []) ≡ length ps + 1
length-push [] p = refl
length-push (q ∷ qs) p = omega (arith, length-push qs p)

all-counted : (ps : List CountedPromise) → count_where (λ (p : CountedPromise). true) ps ≡ length ps
all-counted [] = refl
all-counted (p ∷ ps) = omega (arith, all-counted ps)

module _ (also : List Entry → Type 0) (well : IsWell also) (cluster : Cluster) (es : List Entry) (a : ℕ) (volatile : Volatile) (up : IsUp also cluster es a volatile) where
  abbrev pub GoodLed : Result StepPart LeadFault → Type 0
  GoodLed (Ok part) = IsGoodStep cluster also es a part.entries part.sends part.after × (facts_of (part.entries ++ es) a ≡ facts_of es a)
  GoodLed (Err LeadFault.Crowded) = (key : Key) × (version : ℕ) × (ballot : Ballot) × (options : Options) × IsAllowed cluster (Valued a key version ballot options ∷ es) × (is_crowded options ≡ true)
  GoodLed (Err LeadFault.Exhausted) = ⊤
  GoodLed (Err LeadFault.Memory) = ⊤

  keeps-leader : (l : Leading) → Leads cluster es a l → Keeps cluster es a (with_leader volatile l)
  keeps-leader l h = record { manager = up.keeps.manager; recovery = up.keeps.recovery; leader = h; told = up.keeps.told }

  pub only-good : (l : Leading) → Leads cluster es a l → GoodLed (Ok (record { after = with_leader volatile l; entries = []; sends = [] }))
  only-good l h = (nothing-good also cluster es a volatile (with_leader volatile l) up (keeps-leader l h), refl)

  classic-some : 0 < cluster.quorums.classic
  classic-some = omega (arith, up.sizes.classic_meet)

  pub round-classic : (b : Ballot) → 0 < b.round → is_fast b ≡ false
  round-classic b h = elim (cases_Bool (is_fast b)) [ inl e ↦ let s : b.round ≡ 0 = ap (λ (z : Ballot). z.round) ((Decides-ballot b fast_ballot).0 e) in absurd (omega (arith, s, h)) | inr e ↦ e ]

  -- ---- a new structure

  -- what has to be shown of a structure
  pub record IsRight (x : Lead) (w : ℕ) (os : Options) : Type 0 where
    pub held : w ≤ current_of (facts_of es a) x.key
    pub promised : cluster.quorums.classic ≤ length (promisers_of cluster.quorums es x.key w x.ballot)
    pub made : IsMade cluster es a x.key w x.ballot os
    pub once : HasOnce os
    pub sound : AllSound es x.key w os

  pub valued-legal : (x : Lead) (w : ℕ) (os : Options) → IsLead cluster es a volatile.leader.last_rounds x → IsRight x w os → IsAllowed cluster (Valued a x.key w x.ballot os ∷ es)
  valued-legal x w os g r = (
    up.legal,
    (
      up.centre,
      record {
        classic = not_from_false (is_fast x.ballot) (round-classic x.ballot g.above);
        centre = g.centre;
        booted = up.booted;
        epoch = g.epoch;
        held = r.held;
        promised = r.promised;
        begun = sound-begun cluster es x.key w os up.legal r.once r.sound;
        made = r.made;
      },
    ),
  )

  here-valued : (x : Lead) (w : ℕ) (os : Options) → is_valued (Valued a x.key w x.ballot os ∷ es) x.key w x.ballot os ≡ true
  here-valued x w os =
      or_left _ (is_valued es x.key w x.ballot os)
      (and_from (w == w && ballot_eq x.ballot x.ballot && key_eq x.key x.key) (options_eq os os) (and_from _ _ (and_from _ _ (eq-eqb w w refl) ((Decides-ballot x.ballot x.ballot).1 refl)) ((Decides-key x.key x.key).1 refl)) ((Decides-options os os).1 refl))

  pub valued-good : (x y : Lead) (w : ℕ) (os : Options) → IsLead cluster es a volatile.leader.last_rounds x → IsRight x w os → y.key ≡ x.key → IsLead cluster (Valued a x.key w x.ballot os ∷ es) a volatile.leader.last_rounds y →
      GoodLed (Ok (record { after = with_leader volatile (with_lead volatile.leader y); entries = Valued a x.key w x.ballot os ∷ []; sends = to_all cluster.quorums a (Message.Accept x.key w x.ballot os) }))
  valued-good x y w os g r key k =
      let legal = valued-legal x w os g r in (
        record {
          own = (refl, tt);
          legal = legal;
          placed = λ j u b t c m h. IsPlaced-more cluster (Valued a x.key w x.ballot os) es j u t legal (up.placed j u b t c m h);
          more = well.valued cluster es a x.key w x.ballot os legal r.sound up.more;
          stand = stands-each cluster (Valued a x.key w x.ballot os ∷ es) a (Message.Accept x.key w x.ballot os) (all_centres cluster.quorums) up.centre (round-classic x.ballot g.above, here-valued x w os);
          keeps = record {
            manager = Manages-more cluster (Valued a x.key w x.ballot os) es a volatile.manager legal refl up.keeps.manager;
            recovery = AreVotes-more cluster (Valued a x.key w x.ballot os) es volatile.recovery.votes up.keeps.recovery;
            told = told-more cluster (Valued a x.key w x.ballot os) es volatile.told up.keeps.told;
            leader = valued-kept cluster es a volatile.leader x y w os legal up.keeps.leader g key k;
          };
        },
        refl,
      )

  -- ---- promises

  -- what the leader answers to a promise is good
  abbrev pub GoodPromise : Key → Result (PromiseAnswer × Leading) LeadFault → Type 0
  GoodPromise k r = GoodLed (promised_by_answer cluster.quorums a volatile k r)

  -- the answer by a test
  pick-promise : (k : Key) (b : Bool) (r s : Result (PromiseAnswer × Leading) LeadFault) → (b ≡ true → GoodPromise k r) → (b ≡ false → GoodPromise k s) → GoodPromise k (cond b r s)
  pick-promise k true r s f h = f refl
  pick-promise k false r s f h = h refl

  ignored : (k : Key) → GoodPromise k (Ok (PromiseAnswer.Ignored, volatile.leader))
  ignored k = only-good volatile.leader up.keeps.leader

  some-not : {X : Type 0} (o : Option X) → is_some o ≡ false → o ≡ None
  some-not None h = refl
  some-not (Some x) h = absurd (true≢false h)

  -- the structures with a new one are those that were sent last
  pub found-new : (x : Lead) (w : ℕ) (os : Options) → IsLead cluster es a volatile.leader.last_rounds x → (v : ℕ) →
      structure_valued (Valued a x.key w x.ballot os ∷ es) x.key v x.ballot ≡ structure_found (with_structure x.structures w os) v
  found-new x w os g v =
      let b : ballot_eq x.ballot x.ballot ≡ true = (Decides-ballot x.ballot x.ballot).1 refl in
      let k : key_eq x.key x.key ≡ true = (Decides-key x.key x.key).1 refl in
      (elim (cases_Bool (w == v)) [
        | inl s ↦ rw s (rw b (rw k refl))
        | inr s ↦ rw s (g.found v)
      ]) ∙ sym (found-with x.structures w os v)

  length-reports : (qs : List CountedPromise) → length (reports_of qs) ≡ length qs
  length-reports [] = refl
  length-reports (p ∷ qs) = omega (arith, length-reports qs)

  made-good : (x : Lead) (ps : List CountedPromise) → IsLead cluster es a volatile.leader.last_rounds x → has_proposed x ≡ false → is_enough cluster (facts_of es a) x.key x.version (reports_of ps) ≡ true → Each (IsPromise cluster es x.key x.version x.ballot) ps →
      are_distinct_centres (map (λ (p : CountedPromise). p.from) ps) ≡ true → GoodPromise x.key (structure_made cluster (facts_of es a) volatile.leader (record x { promises = ps }))
  made-good x ps g new enough promises apart =
      elim (cases_Bool (is_crowded (first_structure cluster (facts_of es a) x.key x.version x.claims (reports_of ps)))) [
        | inl e ↦ rw e (x.key, x.version, x.ballot, os, valued-legal x x.version os g right, e)
        | inr e ↦ rw e (valued-good x (record x { promises = ps; claims = []; structures = with_structure x.structures x.version (first_structure cluster (facts_of es a) x.key x.version x.claims (reports_of ps)) }) x.version
            (first_structure cluster (facts_of es a) x.key x.version x.claims (reports_of ps)) g right refl (lead right))
      ]
    where
      os : Options
      os = first_structure cluster (facts_of es a) x.key x.version x.claims (reports_of ps)

      none : structure_valued es x.key x.version x.ballot ≡ None
      none = g.found x.version ∙ some-not (structure_found x.structures x.version) new

      full : cluster.quorums.classic ≤ length ps
      full =
          let parts = parts-classic cluster.limit cluster.quorums up.sizes in
          let many : cluster.quorums.classic ≤ length (reports_of ps) = enough-classic cluster (facts_of es a) x.key x.version (reports_of ps) parts enough in
          omega (arith, many, length-reports ps)

      reaches : (qs : List CountedPromise) → Each (IsPromise cluster es x.key x.version x.ballot) qs → Each (λ (p : CountedPromise). x.version ≤ p.through) qs
      reaches qs h = Each-like (IsPromise cluster es x.key x.version x.ballot) (λ (p : CountedPromise). x.version ≤ p.through) qs (λ p i. i.reach) h

      ranges : Each (λ (p : CountedPromise). (x.version ≤ x.version) × (x.version ≤ p.through)) ps
      ranges = Each-like (λ (p : CountedPromise). x.version ≤ p.through) (λ (p : CountedPromise). (x.version ≤ x.version) × (x.version ≤ p.through)) ps (λ p h. (omega arith, h)) (reaches ps promises)

      at-through : (qs : List CountedPromise) → Each (λ (p : CountedPromise). x.version ≤ p.through) qs → count_where (λ (p : CountedPromise). nat_le x.version p.through) qs ≡ length qs
      at-through [] h = refl
      at-through (p ∷ qs) h = let e : nat_le x.version p.through ≡ true = le-leb _ _ h.0 in rw e (omega (arith, at-through qs h.1))

      right : IsRight x x.version os
      right = record {
        held = g.held;
        promised = omega (arith, at-through ps (reaches ps promises), full, promisers-enough cluster es x.key x.version x.version x.ballot (λ (p : CountedPromise). nat_le x.version p.through) ps promises apart (λ p e. (omega arith, leb-true _ _ e)));
        made = inl (
          reports_of ps,
          x.claims,
          record {
            none_before = none;
            promised = subst (λ z. IsAmongCentres z (promisers_of cluster.quorums es x.key x.version x.ballot)) (centres-told ps) (among cluster es x.key x.version x.version x.ballot ps promises apart ranges);
            reported = reports-told cluster es x.key x.version x.ballot ps promises;
            enough = enough;
            made = refl;
          },
        );
        once = once-first cluster (facts_of es a) x.key x.version x.claims (reports_of ps);
        sound = first-sound cluster (facts_of es a) es x.key x.version x.claims (reports_of ps) g.claims (reports-good cluster es x.key x.version x.ballot ps (round-classic x.ballot g.above) (well.sound es up.more) promises);
      }

      made : is_some (structure_found (with_structure x.structures x.version os) x.version) ≡ true
      made = let e : (x.version == x.version) ≡ true = eq-eqb x.version x.version refl in rw (found-with x.structures x.version os x.version, e) refl

      lead : IsRight x x.version os → IsLead cluster (Valued a x.key x.version x.ballot os ∷ es) a volatile.leader.last_rounds (record x { promises = ps; claims = []; structures = with_structure x.structures x.version os })
      lead r = record {
        centre = g.centre;
        epoch = g.epoch;
        above = g.above;
        within = g.within;
        held = g.held;
        range = g.range;
        claims = tt;
        promises = Each-like (IsPromise cluster es x.key x.version x.ballot) (IsPromise cluster (Valued a x.key x.version x.ballot os ∷ es) x.key x.version x.ballot) ps
            (λ p h. record { centre = h.centre; old = h.old; tail = inr h.tail; promised = h.promised; reach = h.reach; report = h.report }) promises;
        apart = apart;
        waits = λ h. absurd (true≢false (sym made ∙ h));
        found = found-new x x.version os g;
      }

  pub promise-good : (from : ℕ) (promise : Promise) → IsPromise cluster es promise.key promise.version promise.ballot (counted_of from promise) →
      GoodPromise promise.key (on_promise cluster (facts_of es a) volatile.leader from promise)
  promise-good from promise said = by_case (lead_of volatile.leader promise.key) refl
    where
      counted : (x : Lead) → lead_of volatile.leader promise.key ≡ Some x → is_promise_counted x from promise ≡ true → GoodPromise promise.key (counted_promise cluster (facts_of es a) volatile.leader (with_promise x from promise))
      counted x e c =
          pick-promise promise.key (has_proposed x) (Ok (PromiseAnswer.Counted, with_lead volatile.leader (with_promise x from promise)))
          (cond (is_enough cluster (facts_of es a) x.key x.version (reports_of (x.promises ++ counted_of from promise ∷ []))) (structure_made cluster (facts_of es a) volatile.leader (with_promise x from promise))
          (Ok (PromiseAnswer.Waiting (length (x.promises ++ counted_of from promise ∷ [])), with_lead volatile.leader (with_promise x from promise))))
          (λ proposed. kept (λ h. absurd (true≢false (sym proposed ∙ h))))
          (λ new. pick-promise promise.key (is_enough cluster (facts_of es a) x.key x.version (reports_of (x.promises ++ counted_of from promise ∷ []))) (structure_made cluster (facts_of es a) volatile.leader (with_promise x from promise))
          (Ok (PromiseAnswer.Waiting (length (x.promises ++ counted_of from promise ∷ [])), with_lead volatile.leader (with_promise x from promise)))
          (λ enough. subst (λ z. GoodPromise z (structure_made cluster (facts_of es a) volatile.leader (with_promise x from promise))) i.1
          (made-good x (x.promises ++ counted_of from promise ∷ []) g new enough promises apart))
          (λ less. kept (λ h. few less)))
        where
          i : In x volatile.leader.leads × (x.key ≡ promise.key)
          i = lead-in volatile.leader promise.key x e

          g : IsLead cluster es a volatile.leader.last_rounds x
          g = Each-at (IsLead cluster es a volatile.leader.last_rounds) volatile.leader.leads x up.keeps.leader.leads i.0

          c1 : ((x.version == promise.version && ballot_eq x.ballot promise.ballot && not x.is_refused && not (list_any (λ (promise : CountedPromise). promise.from == from) x.promises)) ≡ true)
          c1 = (and_parts _ _ c).0

          c2 : (x.version == promise.version && ballot_eq x.ballot promise.ballot && not x.is_refused) ≡ true
          c2 = (and_parts (x.version == promise.version && ballot_eq x.ballot promise.ballot && not x.is_refused) (not (list_any (λ (promise : CountedPromise). promise.from == from) x.promises)) c1).0

          c3 : (x.version == promise.version && ballot_eq x.ballot promise.ballot) ≡ true
          c3 = (and_parts (x.version == promise.version && ballot_eq x.ballot promise.ballot) (not x.is_refused) c2).0

          c4 : ((x.version == promise.version) ≡ true) × (ballot_eq x.ballot promise.ballot ≡ true)
          c4 = and_parts (x.version == promise.version) (ballot_eq x.ballot promise.ballot) c3

          one : IsPromise cluster es x.key x.version x.ballot (counted_of from promise)
          one =
              subst (λ z. IsPromise cluster es z x.version x.ballot (counted_of from promise)) (sym i.1)
              (subst (λ z. IsPromise cluster es promise.key z x.ballot (counted_of from promise)) (sym (eqb-true x.version promise.version c4.0)) (subst (λ z. IsPromise cluster es promise.key promise.version z (counted_of from promise)) (sym ((Decides-ballot x.ballot promise.ballot).0 c4.1)) said))

          promises : Each (IsPromise cluster es x.key x.version x.ballot) (x.promises ++ counted_of from promise ∷ [])
          promises = Each-append (IsPromise cluster es x.key x.version x.ballot) x.promises (counted_of from promise ∷ []) g.promises (one, tt)

          apart : are_distinct_centres (map (λ (q : CountedPromise). q.from) (x.promises ++ counted_of from promise ∷ [])) ≡ true
          apart = distinct-push x.promises (counted_of from promise) (not-true _ (and_parts (x.version == promise.version && ballot_eq x.ballot promise.ballot && not x.is_refused) (not (list_any (λ (promise : CountedPromise). promise.from == from) x.promises)) c1).1) g.apart

          few : is_enough cluster (facts_of es a) x.key x.version (reports_of (x.promises ++ counted_of from promise ∷ [])) ≡ false → length (x.promises ++ counted_of from promise ∷ []) < parts_of cluster.limit cluster.quorums
          few less =
              let h : length (reports_of (x.promises ++ counted_of from promise ∷ [])) < parts_of cluster.limit cluster.quorums =
              waiting-few cluster (facts_of es a) x.key x.version (reports_of (x.promises ++ counted_of from promise ∷ [])) less in
              omega (arith, h, length-reports (x.promises ++ counted_of from promise ∷ []))

          kept : (has_proposed x ≡ false → length (x.promises ++ counted_of from promise ∷ []) < parts_of cluster.limit cluster.quorums) → GoodLed (Ok (record { after = with_leader volatile (with_lead volatile.leader (with_promise x from promise)); entries = []; sends = [] }))
          kept waits = only-good (with_lead volatile.leader (with_promise x from promise)) (lead-kept cluster es a volatile.leader (with_promise x from promise) up.keeps.leader (record {
            centre = g.centre;
            epoch = g.epoch;
            above = g.above;
            within = g.within;
            held = g.held;
            range = g.range;
            claims = g.claims;
            promises = promises;
            apart = apart;
            waits = waits;
            found = g.found;
          }))

      by_case : (o : Option Lead) → lead_of volatile.leader promise.key ≡ o → GoodPromise promise.key (promise_taken cluster (facts_of es a) volatile.leader from promise o)
      by_case None e = ignored promise.key
      by_case (Some x) e =
          pick-promise promise.key (is_promise_counted x from promise) (counted_promise cluster (facts_of es a) volatile.leader (with_promise x from promise)) (Ok (PromiseAnswer.Ignored, volatile.leader))
          (λ c. counted x e c) (λ c. ignored promise.key)
