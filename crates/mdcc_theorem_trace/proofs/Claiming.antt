-- Leading a claim, and a Refused: good steps.
use Rattle.std.proofs.Common.{Bool, List, None, Ok, Option, Result, Some, [], ap, arith, cond, false, inl, inr, length, max, min, not, refl, subst, sym, true, ℕ, ◌&&◌, ◌+◌, ◌-◌, ◌<◌, ◌==◌, ◌^◌, ◌||◌, ◌∙◌, ◌∷◌, ◌≡◌, ◌≤◌}
use Rattle.std.specs.Prelude.{filter, is_some, map, nat_le, nat_lt, unwrap_or}
use Rattle.std.specs.List.{list_any}
use Rattle.std.proofs.lemmas.Bool.{and_from, and_parts, cases_Bool, eqb-true, false≢true, leb-true, ltb-false, ltb-true, not-true, not_from_false, or_cases, or_from, or_parts}
use Rattle.std.proofs.lemmas.List.{length-map}
use Rattle.mdcc_base.specs.declared.identifiers.Ballot.{Ballot}
use Rattle.mdcc_base.specs.declared.key.Key.{Key}
use Rattle.mdcc_base.specs.Quorums.{all_centres}
use Rattle.mdcc_base.specs.Ballot.{ballot_eq}
use Rattle.mdcc_base.specs.Counts.{number_of}
use Rattle.mdcc_option.specs.declared.choices.Claim.{Claim}
use Rattle.mdcc_option.specs.declared.cluster.Cluster.{Cluster}
use Rattle.mdcc_struct.specs.declared.options.Options.{Options}
use Rattle.mdcc_struct.specs.Maps.{value_of}
use Rattle.mdcc_struct.specs.declared.report.Report.{Report}
use Rattle.mdcc_def_protocol.specs.Facts.{current_of, epoch_of, promise_of}
use Rattle.mdcc_def_protocol.specs.Structures.{with_choice, with_claim}
use Rattle.mdcc_def_rules.specs.LeaderRules.{led_by_answer, led_of}
use Rattle.mdcc_def_protocol.specs.Leader.{has_proposed, is_covered, is_marked, is_marked_by, is_waiting, lead_begun, led_again, led_anew, led_by, led_on, next_round, refused_by, with_refused}
use Rattle.mdcc_def_protocol.specs.Volatile.{CountedPromise, Lead, Leading, Volatile, lead_of, number_kept_at, structure_at, structure_found, with_lead, with_leader, with_number, with_structure}
use Rattle.mdcc_def_ledger.specs.Ledger.{Entry, Valued, facts_of}
use Rattle.mdcc_def_ledger.specs.AllowedLedgers.{is_valued}
use Rattle.mdcc_def_ledger.specs.AllowedStructures.{IsAmongCentres, are_distinct_centres, promisers_of}
use Rattle.mdcc_def_messages.specs.declared.messages.Message.{Message}
use Rattle.mdcc_def_rules.specs.Messages.{to_all, to_each, to_others}
use Rattle.mdcc_def_rules.specs.Steps.{StepPart}
use Rattle.mdcc_theorem_trace_states.specs.Words.{Each, In, count_where}
use Rattle.mdcc_theorem_trace_states.specs.VolatileInvariant.{IsClaim, IsLead, IsPromise, Leads}
use Rattle.mdcc_theorem_trace_states.specs.MessageMeaning.{Says}
use Rattle.mdcc_theorem_trace_states.proofs.Lists.{Each-at, Each-filter, Each-from, Each-like, In-filter}
use Rattle.mdcc_theorem_trace_states.proofs.Led.{IsClaim-more, IsPromise-more}
use Rattle.mdcc_def_protocol.proofs.EnoughPromises.{parts-classic}
use Rattle.mdcc_theorem_trace_rules.proofs.Begins.{sends-good, stands-each}
use Rattle.mdcc_theorem_trace_rules.proofs.Chains.{last-valued, once-claim, structure-once}
use Rattle.mdcc_theorem_trace.proofs.Claims.{IsEmptyReport, are-reports, centres-then, empty-enough, empty-first, found-with, length-then, one-more, reports-empty, reports-then}
use Rattle.mdcc_theorem_trace.proofs.Leading.{among, lead-in, lead-kept, new-kept, number-new, promisers-enough}
use Rattle.mdcc_theorem_trace.proofs.Making.{none-sound, one-choice, sound-claim}
use Rattle.mdcc_theorem_trace_rules.proofs.Promises.{current-within}
use Rattle.mdcc_theorem_trace.proofs.Structuring.{GoodLed, IsRight, IsWell, found-new, only-good, round-classic, valued-good, valued-legal}
use Rattle.mdcc_def_protocol.specs.declared.leader.LeadFault.{LeadFault}
use Rattle.mdcc_def_protocol.specs.declared.leader.LeadAnswer.{LeadAnswer}
use Rattle.mdcc_theorem_trace_states.specs.Steps.{IsUp}
use Rattle.mdcc_def_rules.specs.Here.{here}

distinct-filter : (t : CountedPromise → Bool) (ps : List CountedPromise) → are_distinct_centres (map (λ (p : CountedPromise). p.from) ps) ≡ true → are_distinct_centres (map (λ (p : CountedPromise). p.from) (filter t ps)) ≡ true
distinct-filter t [] h = refl
distinct-filter t (p ∷ ps) h =
    let a = and_parts (not (list_any (λ b. p.from == b) (map (λ (q : CountedPromise). q.from) ps))) (are_distinct_centres (map (λ (q : CountedPromise). q.from) ps)) h in
    elim (cases_Bool (t p)) [
      | inl e ↦ rw e (and_from _ _ (not_from_false _ (none ps (not-true _ a.0))) (distinct-filter t ps a.1))
      | inr e ↦ rw e (distinct-filter t ps a.1)
    ]
  where
    none : (qs : List CountedPromise) → list_any (λ b. p.from == b) (map (λ (q : CountedPromise). q.from) qs) ≡ false → list_any (λ b. p.from == b) (map (λ (q : CountedPromise). q.from) (filter t qs)) ≡ false
    none [] g = refl
    none (q ∷ qs) g =
        let r = or_parts (p.from == q.from) (list_any (λ b. p.from == b) (map (λ (q : CountedPromise). q.from) qs)) g in
        elim (cases_Bool (t q)) [ inl e ↦ rw e (or_from (p.from == q.from) _ r.0 (none qs r.1)) | inr e ↦ rw e (none qs r.1) ]

count-filter : (t : CountedPromise → Bool) (ps : List CountedPromise) → count_where t ps ≡ length (map (λ (p : CountedPromise). p.from) (filter t ps))
count-filter t [] = refl
count-filter t (p ∷ ps) = elim (cases_Bool (t p)) [ inl e ↦ rw e (omega (arith, count-filter t ps)) | inr e ↦ rw e (omega (arith, count-filter t ps)) ]

count-most : (t : CountedPromise → Bool) (ps : List CountedPromise) → count_where t ps ≤ length ps
count-most t [] = omega arith
count-most t (p ∷ ps) = elim (cases_Bool (t p)) [ inl e ↦ rw e (omega (arith, count-most t ps)) | inr e ↦ rw e (omega (arith, count-most t ps)) ]

module _ (also : List Entry → Type 0) (well : IsWell also) (cluster : Cluster) (es : List Entry) (a : ℕ) (volatile : Volatile) (up : IsUp also cluster es a volatile) (claim : Claim) (said : IsClaim es claim.key claim.version (claim.tx, claim.choice)) where
  abbrev pub FineLed : Result StepPart LeadFault → Type 0
  FineLed r = GoodLed also well cluster es a volatile up r

  -- what the leader answers to the claim is good
  abbrev pub Fine : Result (LeadAnswer × Leading) LeadFault → Type 0
  Fine r = FineLed (led_by_answer cluster.quorums a volatile claim r)

  -- the answer by a test
  pick-good : (b : Bool) (l m : LeadAnswer × Leading) → (b ≡ true → Fine (Ok l)) → (b ≡ false → Fine (Ok m)) → Fine (Ok (cond b l m))
  pick-good true l m f h = f refl
  pick-good false l m f h = h refl

  -- messages and the leader's own state
  sent : (l : Leading) (message : Message) (cs : List ℕ) → Leads cluster es a l → Says cluster es a message → FineLed (Ok (record { after = with_leader volatile l; entries = []; sends = to_each cs a message }))
  sent l message cs h says =
      (sends-good also cluster es a volatile (with_leader volatile l) (to_each cs a message) up (record { manager = up.keeps.manager; recovery = up.keeps.recovery; leader = h; told = up.keeps.told }) (stands-each cluster es a message cs up.centre says), refl)

  -- ---- a new lead

  abbrev pub round : ℕ
  round = next_round (facts_of es a) volatile.leader claim.key claim.version

  last-less : (p f n : ℕ) → n ≤ 1 + max p (max f n)
  last-less p f n = omega arith

  new-lead : claim.version ≤ current_of (facts_of es a) claim.key → IsLead cluster es a (with_number volatile.leader.last_rounds claim.key round) (lead_begun cluster a (epoch_of (facts_of es a)) claim round)
  new-lead held = record {
    centre = refl;
    epoch = refl;
    above = omega arith;
    within = number-new volatile.leader.last_rounds claim.key round;
    held = held;
    range = ranged;
    claims = (said, tt);
    promises = tt;
    apart = refl;
    waits = λ h. omega (arith, up.sizes.some_classic, parts-classic cluster.limit cluster.quorums up.sizes);
    found = λ v. up.keeps.leader.fresh claim.key v round (above (promise_of (facts_of es a) claim.key claim.version).round (number_kept_at volatile.leader.refused_rounds claim.key) (number_kept_at volatile.leader.last_rounds claim.key));
  }
    where
      above : (p f n : ℕ) → n < 1 + max p (max f n)
      above p f n = omega arith

      ranged : claim.version ≤ min (claim.version + cluster.gamma) (2 ^ 64 - 1)
      ranged = least (claim.version + cluster.gamma) (2 ^ 64 - 1) (omega arith) (most held (current-within cluster es a claim.key up.legal))
        where
          least : (x y : ℕ) → claim.version ≤ x → claim.version ≤ y → claim.version ≤ min x y
          least x y g h = omega (arith, g, h)

          most : {x y : ℕ} → claim.version ≤ x → x ≤ y → claim.version ≤ y
          most g h = omega (arith, g, h)

  anew-good : claim.version ≤ current_of (facts_of es a) claim.key → Fine (led_anew cluster a (epoch_of (facts_of es a)) (facts_of es a) volatile.leader claim)
  anew-good held =
      elim (cases_Bool (nat_le (2 ^ 32) (next_round (facts_of es a) volatile.leader claim.key claim.version))) [
        | inl e ↦ rw e tt
        | inr e ↦ rw e (sent (record (with_lead volatile.leader (lead_begun cluster a (epoch_of (facts_of es a)) claim round)) { last_rounds = with_number volatile.leader.last_rounds claim.key round })
            (Message.Prepare claim.key claim.version (lead_begun cluster a (epoch_of (facts_of es a)) claim round).through (lead_begun cluster a (epoch_of (facts_of es a)) claim round).ballot) (all_centres cluster.quorums)
            (new-kept cluster es a volatile.leader (lead_begun cluster a (epoch_of (facts_of es a)) claim round) round up.keeps.leader (last-less _ _ _) (new-lead held))
            (round-classic also well cluster es a volatile up (lead_begun cluster a (epoch_of (facts_of es a)) claim round).ballot (omega arith), (new-lead held).range, refl))
      ]

  module _ (x : Lead) (there : lead_of volatile.leader claim.key ≡ Some x) (held : claim.version ≤ current_of (facts_of es a) claim.key) where
    at : In x volatile.leader.leads × (x.key ≡ claim.key)
    at = lead-in volatile.leader claim.key x there

    g : IsLead cluster es a volatile.leader.last_rounds x
    g = Each-at (IsLead cluster es a volatile.leader.last_rounds) volatile.leader.leads x up.keeps.leader.leads at.0

    claimed : IsClaim es x.key claim.version (claim.tx, claim.choice)
    claimed = subst (λ z. IsClaim es z claim.version (claim.tx, claim.choice)) (sym at.1) said

    held-here : claim.version ≤ current_of (facts_of es a) x.key
    held-here = subst (λ z. claim.version ≤ current_of (facts_of es a) z) (sym at.1) held

    again-good : is_waiting x claim.version ≡ true → Fine (Ok (led_again volatile.leader x claim))
    again-good e =
        let s : x.version ≡ claim.version = eqb-true _ _ (and_parts (x.version == claim.version) (not (has_proposed x)) e).0 in
        let c : IsClaim es x.key x.version (claim.tx, claim.choice) = subst (λ z. IsClaim es x.key z (claim.tx, claim.choice)) (sym s) claimed in
        sent (with_lead volatile.leader (record x { claims = with_choice x.claims (claim.tx, claim.choice) })) (Message.Prepare claim.key x.version x.through x.ballot) (all_centres cluster.quorums)
        (lead-kept cluster es a volatile.leader (record x { claims = with_choice x.claims (claim.tx, claim.choice) }) up.keeps.leader (record {
          centre = g.centre;
          epoch = g.epoch;
          above = g.above;
          within = g.within;
          held = g.held;
          range = g.range;
          claims = one-choice es x.key x.version x.claims (claim.tx, claim.choice) g.claims c;
          promises = g.promises;
          apart = g.apart;
          waits = g.waits;
          found = g.found;
        }))
        (round-classic also well cluster es a volatile up x.ballot g.above, g.range, g.centre)

    -- ---- a structure that may be extended

    abbrev pub last : Options
    last = structure_at x.structures claim.version

    abbrev pub more : Options
    more = with_claim cluster (facts_of es a) x.key claim.version (structure_at x.structures claim.version) (claim.tx, claim.choice)

    is-last : (os : Options) → structure_found x.structures claim.version ≡ Some os → is_valued es x.key claim.version x.ballot os ≡ true
    is-last os h = last-valued es x.key claim.version x.ballot os (g.found claim.version ∙ h)

    resent : (o : Option Options) → structure_found x.structures claim.version ≡ o → is_some (value_of (unwrap_or o []) claim.tx) ≡ true → FineLed (Ok (record { after = with_leader volatile volatile.leader; entries = []; sends = to_all cluster.quorums a (Message.Accept x.key claim.version x.ballot (unwrap_or o [])) }))
    resent None e h = absurd (cc)
    resent (Some os) e h = sent volatile.leader (Message.Accept x.key claim.version x.ballot os) (all_centres cluster.quorums) up.keeps.leader (round-classic also well cluster es a volatile up x.ballot g.above, is-last os e)

    marked : is_marked volatile.leader claim ≡ is_some (value_of (structure_at x.structures claim.version) claim.tx)
    marked = ap (λ (o : Option Lead). is_marked_by o claim) there

    -- the structure is sent under the key of the lead, which is that of the claim
    told : (b : Bool) → is_marked volatile.leader claim ≡ b → (os : Options) (l : Leading) →
        FineLed (Ok (record { after = with_leader volatile l; entries = cond b [] (Valued a x.key claim.version x.ballot os ∷ []); sends = to_all cluster.quorums a (Message.Accept x.key claim.version x.ballot os) })) →
        Fine (Ok (LeadAnswer.Accept claim.version x.ballot os, l))
    told b e os l h =
        subst (λ (z : Bool). FineLed (Ok (record { after = with_leader volatile l; entries = cond z [] (Valued a claim.key claim.version x.ballot os ∷ []); sends = to_all cluster.quorums a (Message.Accept claim.key claim.version x.ballot os) }))) (sym e)
        (subst (λ z. FineLed (Ok (record { after = with_leader volatile l; entries = cond b [] (Valued a z claim.version x.ballot os ∷ []); sends = to_all cluster.quorums a (Message.Accept z claim.version x.ballot os) }))) at.1 h)

    reached : is_covered cluster.quorums x claim.version ≡ true →
        ((nat_le x.version claim.version && nat_le cluster.quorums.classic (number_of (λ (p : CountedPromise). nat_le claim.version p.through) x.promises)) ≡ true)
        × ((nat_lt x.version claim.version || has_proposed x) ≡ true)
    reached e =
        and_parts (nat_le x.version claim.version && nat_le cluster.quorums.classic (number_of (λ (p : CountedPromise). nat_le claim.version p.through) x.promises))
        (nat_lt x.version claim.version || has_proposed x) e

    covered : is_covered cluster.quorums x claim.version ≡ true → (x.version ≤ claim.version) × (cluster.quorums.classic ≤ count_where (λ (p : CountedPromise). nat_le claim.version p.through) x.promises)
    covered e =
        let p = and_parts (nat_le x.version claim.version) (nat_le cluster.quorums.classic (number_of (λ (p : CountedPromise). nat_le claim.version p.through) x.promises)) (reached e).0 in
        (leb-true _ _ p.0, leb-true _ _ p.1)

    right : is_covered cluster.quorums x claim.version ≡ true → (o : Option Options) → structure_found x.structures claim.version ≡ o → is_some (value_of (unwrap_or o []) claim.tx) ≡ false →
        is_some (value_of (with_claim cluster (facts_of es a) x.key claim.version (unwrap_or o []) (claim.tx, claim.choice)) claim.tx) ≡ true →
        IsRight also well cluster es a volatile up x claim.version (with_claim cluster (facts_of es a) x.key claim.version (unwrap_or o []) (claim.tx, claim.choice))
    right e (Some os) f new some = record {
      held = held-here;
      promised = promised;
      made = inr (os, (claim.tx, claim.choice), record { last_before = g.found claim.version ∙ f; is_more = one-more cluster (facts_of es a) x.key claim.version os (claim.tx, claim.choice) new some; made = refl });
      once = once-claim cluster (facts_of es a) x.key claim.version os (claim.tx, claim.choice) (structure-once cluster es x.key claim.version x.ballot os up.legal (is-last os f));
      sound = sound-claim cluster (facts_of es a) es x.key claim.version os (claim.tx, claim.choice) ((well.sound es up.more).structures x.key claim.version x.ballot os (is-last os f)) claimed;
    }
      where
        promised : cluster.quorums.classic ≤ length (promisers_of cluster.quorums es x.key claim.version x.ballot)
        promised =
            let c = covered e in
            omega (arith, c.1, promisers-enough cluster es x.key x.version claim.version x.ballot (λ (p : CountedPromise). nat_le claim.version p.through) x.promises g.promises g.apart (λ p h. (c.0, leb-true _ _ h)))
    right e None f new some = record {
      held = held-here;
      promised = promised;
      made = inl (
        reports,
        (claim.tx, claim.choice) ∷ [],
        record {
          none_before = g.found claim.version ∙ f;
          promised = subst (λ z. IsAmongCentres z (promisers_of cluster.quorums es x.key claim.version x.ballot)) (centres-then cluster es x.key x.version claim.version x.ballot reach promises)
              (among cluster es x.key x.version claim.version x.ballot reach promises apart ranges);
          reported = are-reports cluster es x.key x.version claim.version x.ballot reach promises ranges;
          enough = empty-enough cluster (facts_of es a) x.key claim.version reports
              (omega (
                arith,
                (covered e).1,
                count-filter (λ (p : CountedPromise). nat_le claim.version p.through) x.promises,
                length-then cluster es x.key x.version claim.version x.ballot reach promises,
                length-map reach (λ (p : CountedPromise). p.from),
              ))
              empty;
          made = empty-first cluster (facts_of es a) x.key claim.version (claim.tx, claim.choice) reports empty;
        },
      );
      once = once-claim cluster (facts_of es a) x.key claim.version [] (claim.tx, claim.choice) tt;
      sound = sound-claim cluster (facts_of es a) es x.key claim.version [] (claim.tx, claim.choice) (none-sound es x.key claim.version) claimed;
    }
      where
        reach : List CountedPromise
        reach = filter (λ (p : CountedPromise). nat_le claim.version p.through) x.promises

        promised : cluster.quorums.classic ≤ length (promisers_of cluster.quorums es x.key claim.version x.ballot)
        promised =
            let c = covered e in
            omega (arith, c.1, promisers-enough cluster es x.key x.version claim.version x.ballot (λ (p : CountedPromise). nat_le claim.version p.through) x.promises g.promises g.apart (λ p h. (c.0, leb-true _ _ h)))

        promises : Each (IsPromise cluster es x.key x.version x.ballot) reach
        promises = Each-filter (IsPromise cluster es x.key x.version x.ballot) (λ (p : CountedPromise). nat_le claim.version p.through) x.promises g.promises

        apart : are_distinct_centres (map (λ (p : CountedPromise). p.from) reach) ≡ true
        apart = distinct-filter (λ (p : CountedPromise). nat_le claim.version p.through) x.promises g.apart

        ranges : Each (λ (p : CountedPromise). (x.version ≤ claim.version) × (claim.version ≤ p.through)) reach
        ranges = Each-from (λ (p : CountedPromise). (x.version ≤ claim.version) × (claim.version ≤ p.through)) reach (λ p i. ((covered e).0, leb-true _ _ (In-filter (λ (p : CountedPromise). nat_le claim.version p.through) x.promises p i).1))

        -- at the lead's own version there is a structure
        later : x.version < claim.version
        later =
            elim (or_cases (nat_lt x.version claim.version) (has_proposed x) (reached e).1) [
              | inl less ↦ ltb-true _ _ less
              | inr proposed ↦ elim (cases_Bool (nat_lt x.version claim.version)) [
                | inl less ↦ ltb-true _ _ less
                | inr more ↦
                    let same : claim.version ≡ x.version = omega (arith, (covered e).0, ltb-false _ _ more) in
                    let bad : is_some (structure_found x.structures x.version) ≡ false = subst (λ z. is_some (structure_found x.structures z) ≡ false) same (ap (λ (o : Option Options). is_some o) f) in
                    absurd (false≢true (sym bad ∙ proposed))
              ]
            ]

        reports : List Report
        reports = reports-then cluster es x.key x.version claim.version x.ballot reach promises

        empty : Each IsEmptyReport (reports-then cluster es x.key x.version claim.version x.ballot reach promises)
        empty = reports-empty cluster es x.key x.version claim.version x.ballot reach up.legal later promises ranges

    on-good : is_covered cluster.quorums x claim.version ≡ true → Fine (Ok (led_on cluster (facts_of es a) volatile.leader x claim))
    on-good e =
        pick-good (is_some (value_of last claim.tx)) (LeadAnswer.Accept claim.version x.ballot last, volatile.leader)
        (cond (is_some (value_of more claim.tx)) (LeadAnswer.Accept claim.version x.ballot more, with_lead volatile.leader (record x { structures = with_structure x.structures claim.version more })) (LeadAnswer.Left, volatile.leader))
        (λ h. told true (marked ∙ h) last volatile.leader (resent (structure_found x.structures claim.version) refl h))
        (λ h. pick-good (is_some (value_of more claim.tx)) (LeadAnswer.Accept claim.version x.ballot more, with_lead volatile.leader (record x { structures = with_structure x.structures claim.version more })) (LeadAnswer.Left, volatile.leader)
        (λ k. told false (marked ∙ h) more (with_lead volatile.leader (record x { structures = with_structure x.structures claim.version more }))
        (valued-good also well cluster es a volatile up x (record x { structures = with_structure x.structures claim.version more }) claim.version more g
        (right e (structure_found x.structures claim.version) refl h k) refl (lead (right e (structure_found x.structures claim.version) refl h k))))
        (λ k. only-good also well cluster es a volatile up volatile.leader up.keeps.leader))
      where
        lead : IsRight also well cluster es a volatile up x claim.version more → IsLead cluster (Valued a x.key claim.version x.ballot more ∷ es) a volatile.leader.last_rounds (record x { structures = with_structure x.structures claim.version more })
        lead r =
            let legal = valued-legal also well cluster es a volatile up x claim.version more g r in
            record {
              centre = g.centre;
              epoch = g.epoch;
              above = g.above;
              within = g.within;
              held = g.held;
              range = g.range;
              claims = Each-like (IsClaim es x.key x.version) (IsClaim (Valued a x.key claim.version x.ballot more ∷ es) x.key x.version) x.claims (λ y i. IsClaim-more cluster (Valued a x.key claim.version x.ballot more) es x.key x.version y legal i) g.claims;
              promises = Each-like (IsPromise cluster es x.key x.version x.ballot) (IsPromise cluster (Valued a x.key claim.version x.ballot more ∷ es) x.key x.version x.ballot) x.promises (λ p i. IsPromise-more cluster (Valued a x.key claim.version x.ballot more) es x.key x.version x.ballot p i) g.promises;
              apart = g.apart;
              waits = λ h. g.waits (not-before (claim.version == x.version) refl h);
              found = found-new also well cluster es a volatile up x claim.version more g;
            }
          where
            not-before : (b : Bool) → (claim.version == x.version) ≡ b → is_some (structure_found (with_structure x.structures claim.version more) x.version) ≡ false → is_some (structure_found x.structures x.version) ≡ false
            not-before true s h = let bad : true ≡ false = rw (found-with x.structures claim.version more x.version, s) at h in absurd (false≢true (sym bad))
            not-before false s h = rw (found-with x.structures claim.version more x.version, s) at h

  cond-good : (b : Bool) (r s : Result (LeadAnswer × Leading) LeadFault) → (b ≡ true → Fine r) → (b ≡ false → Fine s) → Fine (cond b r s)
  cond-good true r s f h = f refl
  cond-good false r s f h = h refl

  pub led-good : FineLed (led_of (here cluster a (facts_of es a)) volatile claim)
  led-good =
      elim (cases_Bool (nat_lt (current_of (facts_of es a) claim.key) claim.version)) [
        | inl e ↦ rw e (sends-good also cluster es a volatile volatile (to_others cluster.quorums a (Message.SyncAsk claim.key)) up up.keeps (stands-each cluster es a (Message.SyncAsk claim.key) _ up.centre tt), refl)
        | inr e ↦ rw e (by_case (ltb-false _ _ e) (lead_of volatile.leader claim.key) refl)
      ]
    where
      by_case : claim.version ≤ current_of (facts_of es a) claim.key → (o : Option Lead) → lead_of volatile.leader claim.key ≡ o → Fine (led_by cluster a (epoch_of (facts_of es a)) (facts_of es a) volatile.leader claim o)
      by_case held None e = anew-good held
      by_case held (Some x) e =
          cond-good x.is_refused (led_anew cluster a (epoch_of (facts_of es a)) (facts_of es a) volatile.leader claim)
          (cond (is_covered cluster.quorums x claim.version) (Ok (led_on cluster (facts_of es a) volatile.leader x claim))
          (cond (is_waiting x claim.version) (Ok (led_again volatile.leader x claim)) (led_anew cluster a (epoch_of (facts_of es a)) (facts_of es a) volatile.leader claim)))
          (λ r. anew-good held)
          (λ r. cond-good (is_covered cluster.quorums x claim.version) (Ok (led_on cluster (facts_of es a) volatile.leader x claim))
          (cond (is_waiting x claim.version) (Ok (led_again volatile.leader x claim)) (led_anew cluster a (epoch_of (facts_of es a)) (facts_of es a) volatile.leader claim))
          (λ c. on-good x e held c)
          (λ c. cond-good (is_waiting x claim.version) (Ok (led_again volatile.leader x claim)) (led_anew cluster a (epoch_of (facts_of es a)) (facts_of es a) volatile.leader claim)
          (λ w. again-good x e held w) (λ w. anew-good held)))

-- ---- refusals

pub refused-good : (also : List Entry → Type 0) (cluster : Cluster) (es : List Entry) (a : ℕ) (volatile : Volatile) → IsUp also cluster es a volatile → (k : Key) (b p : Ballot) →
    Leads cluster es a (refused_by volatile.leader k b p (lead_of volatile.leader k))
refused-good also cluster es a volatile up k b p = by_case (lead_of volatile.leader k) refl
  where
    same : (x : Lead) → IsLead cluster es a volatile.leader.last_rounds x → IsLead cluster es a volatile.leader.last_rounds (with_refused x b)
    same x g =
        elim (cases_Bool (ballot_eq x.ballot b)) [
          | inl e ↦ rw e (record { centre = g.centre; epoch = g.epoch; above = g.above; within = g.within; held = g.held; range = g.range; claims = g.claims; promises = g.promises; apart = g.apart; waits = g.waits; found = g.found })
          | inr e ↦ rw e g
        ]

    by_case : (o : Option Lead) → lead_of volatile.leader k ≡ o → Leads cluster es a (refused_by volatile.leader k b p o)
    by_case None e = up.keeps.leader
    by_case (Some x) e =
        let i = lead-in volatile.leader k x e in
        let h = lead-kept cluster es a volatile.leader (with_refused x b) up.keeps.leader (same x (Each-at (IsLead cluster es a volatile.leader.last_rounds) volatile.leader.leads x up.keeps.leader.leads i.0)) in
        record { fresh = h.fresh; leads = h.leads }
