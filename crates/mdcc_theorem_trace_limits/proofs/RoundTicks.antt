-- How far a tick raises the rounds of a key: by the claims on it, of which each transaction has one.
use Rattle.std.proofs.Common.{Bool, Err, List, Ok, Result, [], ap, arith, cond, false, inl, inr, length, map, not, refl, subst, true, ℕ, ◌&&◌, ◌++◌, ◌+◌, ◌==◌, ◌∙◌, ◌∷◌, ◌≡◌, ◌≤◌}
use Rattle.std.specs.Prelude.{filter, flat_map, fold, nat_le, ◌%◌}
use Rattle.std.proofs.lemmas.Bool.{cases_Bool}
use Rattle.mdcc_base.specs.Counts.{number_of}
use Rattle.mdcc_base.specs.Key.{key_eq, key_lt}
use Rattle.mdcc_base.specs.Quorums.{all_centres}
use Rattle.mdcc_base.specs.Sizes.{Sizes}
use Rattle.mdcc_base.specs.declared.identifiers.TxId.{TxId}
use Rattle.mdcc_base.specs.declared.key.Key.{Key}
use Rattle.mdcc_option.specs.Parts.{are_parts_ascending}
use Rattle.mdcc_option.specs.declared.choices.Choice.{Choice}
use Rattle.mdcc_option.specs.declared.choices.Claim.{Claim}
use Rattle.mdcc_option.specs.declared.cluster.Cluster.{Cluster}
use Rattle.mdcc_def_ledger.specs.AllowedLedgers.{IsAllowed, part_in}
use Rattle.mdcc_def_protocol.specs.Leader.{claim_of_choice}
use Rattle.mdcc_def_rules.specs.LeaderRules.{led_of}
use Rattle.mdcc_def_protocol.specs.Learner.{is_learned}
use Rattle.mdcc_def_ledger.specs.Ledger.{Entry, choices_begun, facts_of}
use Rattle.mdcc_def_protocol.specs.Manager
use Rattle.mdcc_def_protocol.specs.Manager.{act_at, acts_at, choices_unlearned, is_odd, keys_of_choices}
use Rattle.mdcc_def_protocol.specs.Recover.{acts_on, ask_of, claim_of_key, counted_tick, dangling, keys_led}
use Rattle.mdcc_def_rules.specs.TickRules.{claim_led, led_or_left, manager_act, manager_ticked, recovery_act, recovery_ticked, tick_parts}
use Rattle.mdcc_def_rules.specs.Steps.{StepPart, only_sending, part_and_then}
use Rattle.mdcc_def_protocol.specs.Volatile.{Recovering, Undecided, Volatile, counter_of, next_count, txs_opened, with_manager, with_recovery}
use Rattle.mdcc_def_simulation.specs.State.{World, centre_at}
use Rattle.mdcc_def_messages.specs.declared.facts.Fact.{Fact}
use Rattle.mdcc_def_protocol.specs.declared.leader.LeadFault.{LeadFault}
use Rattle.mdcc_def_protocol.specs.declared.manager.ManagerAct.{ManagerAct}
use Rattle.mdcc_def_messages.specs.declared.messages.Envelope.{Envelope}
use Rattle.mdcc_def_messages.specs.declared.messages.Message.{Message}
use Rattle.mdcc_def_protocol.specs.declared.recover.RecoverAct.{RecoverAct}
use Rattle.mdcc_def_protocol.specs.declared.votes.Vote.{Vote}
use Rattle.mdcc_theorem_trace_states.specs.VolatileInvariant.{IsOpened}
use Rattle.mdcc_theorem_trace_states.specs.Sound.{IsSound}
use Rattle.mdcc_theorem_trace_states.specs.Steps.{IsUp}
use Rattle.mdcc_theorem_trace_states.specs.Words.{Each, In}
use Rattle.mdcc_theorem_trace_states.proofs.Keys.{asc-head, asc-tail, begun-ascending, key_lt-irrefl}
use Rattle.mdcc_theorem_trace_states.proofs.Lists.{Each-append, Each-from, Each-like}
use Rattle.mdcc_theorem_trace_states.proofs.Tests.{Decides-key}
use Rattle.mdcc_theorem_trace_rules.specs.Closed.{HasSet}
use Rattle.mdcc_theorem_trace_rules.proofs.Deciding.{set-keys}
use Rattle.mdcc_theorem_trace_limits.proofs.Begun.{dangling-few, dangling-set}
use Rattle.mdcc_theorem_trace_limits.proofs.RoundMessages.{led-of-plain}
use Rattle.mdcc_theorem_trace_limits.proofs.RoundSteps.{AreRoundFacts, AreRoundSends, IsRoundLeader, IsRoundLed, each-round, leader-more, led-round, raised, sends-more}
use Rattle.mdcc_theorem_trace_limits.proofs.Small.{is_begin, number-append, opened_in}
use Rattle.mdcc_def_rules.specs.Here.{here}

-- ---- claims on a key

none-count : (key : Key) (cs : List Choice) → ((d : Choice) → In d cs → key_eq d.key key ≡ false) → number_of (λ (c : Choice). key_eq c.key key) cs ≡ 0
none-count key [] h = refl
none-count key (c ∷ cs) h = let e = h c (inl refl) in rw e (omega (arith, none-count key cs (λ d i. h d (inr i))))

-- of choices in key order one at most is on a key
asc-few : (key : Key) (cs : List Choice) → are_parts_ascending (map part_in cs) ≡ true → number_of (λ (c : Choice). key_eq c.key key) cs ≤ 1
asc-few key [] h = omega arith
asc-few key (c ∷ cs) h =
    elim (cases_Bool (key_eq c.key key)) [
      | inr e ↦ rw e (omega (arith, asc-few key cs (asc-tail c cs h)))
      | inl e ↦ rw e (let n = none-count key cs (λ d i. other ((Decides-key c.key key).0 e) d (asc-head c cs d h i)) in omega (arith, n))
    ]
  where
    other : c.key ≡ key → (d : Choice) → key_lt c.key d.key ≡ true → key_eq d.key key ≡ false
    other s d l =
        elim (cases_Bool (key_eq d.key key)) [
          | inl t ↦ absurd (key_lt-irrefl key (subst (λ z. key_lt key z ≡ true) ((Decides-key d.key key).0 t) (subst (λ z. key_lt z d.key ≡ true) s l)))
          | inr t ↦ t
        ]

begun-key : (cluster : Cluster) (es : List Entry) (t : TxId) (key : Key) → IsAllowed cluster es → number_of (λ (c : Choice). key_eq c.key key) (choices_begun es t) ≤ 1
begun-key cluster es t key legal = asc-few key (choices_begun es t) (begun-ascending cluster es t legal)

number-filter : {A : Type 0} (p q : A → Bool) (xs : List A) → number_of p (filter q xs) ≤ number_of p xs
number-filter p q [] = omega arith
number-filter p q (x ∷ xs) = elim (cases_Bool (q x)) [ inl e ↦ rw e (omega (arith, number-filter p q xs)) | inr e ↦ rw e (omega (arith, number-filter p q xs)) ]

number-map : {A B : Type 0} (p : B → Bool) (q : A → Bool) (f : A → B) (xs : List A) → ((x : A) → p (f x) ≡ q x) → number_of p (map f xs) ≡ number_of q xs
number-map p q f [] h = refl
number-map p q f (x ∷ xs) h = rw (h x) (omega (arith, number-map p q f xs h))

number-none : {A B : Type 0} (p : B → Bool) (f : A → B) (xs : List A) → ((x : A) → p (f x) ≡ false) → number_of p (map f xs) ≡ 0
number-none p f [] h = refl
number-none p f (x ∷ xs) h = rw (h x) (omega (arith, number-none p f xs h))

number-flat : {A B : Type 0} (p : B → Bool) (f : A → List B) (xs : List A) → Each (λ (x : A). number_of p (f x) ≤ 1) xs → number_of p (flat_map f xs) ≤ length xs
number-flat p f [] h = omega arith
number-flat p f (x ∷ xs) h = let e = number-append p (f x) (flat_map f xs) in omega (arith, e, h.0, number-flat p f xs h.1)

-- an act that leads a claim on the key
abbrev pub manages_key : Key → ManagerAct → Bool
manages_key key (ManagerAct.LeadHere choice) = key_eq choice.key key
manages_key key _ = false

abbrev pub recovers_key : Key → RecoverAct → Bool
recovers_key key (RecoverAct.LeadHere claim) = key_eq claim.key key
recovers_key key _ = false

acts-key : (key : Key) (quorums : Sizes) (votes : List Vote) (t : Undecided) → number_of (λ (c : Choice). key_eq c.key key) t.choices ≤ 1 → number_of (manages_key key) (acts_at quorums votes t) ≤ 1
acts-key key quorums votes t h =
    elim (cases_Bool (is_odd (next_count t.ticks))) [
      | inl e ↦ let n = number-none (manages_key key) (act_at (next_count t.ticks)) (choices_unlearned quorums votes t) (λ c. rw e refl) in omega (arith, n)
      | inr e ↦
          let n = number-map (manages_key key) (λ (c : Choice). key_eq c.key key) (act_at (next_count t.ticks)) (choices_unlearned quorums votes t) (λ c. rw e refl) in
          let m = number-filter (λ (c : Choice). key_eq c.key key) (λ (choice : Choice). not (is_learned quorums votes t.tx choice.key)) t.choices in
          omega (arith, n, m, h)
    ]

recover-key : (key : Key) (quorums : Sizes) (facts : List Fact) (recovery : Recovering) (e : TxId × List (Key × ℕ)) → number_of (λ (x : Key × ℕ). key_eq x.0 key) e.1 ≤ 1 → number_of (recovers_key key) (acts_on quorums facts recovery e) ≤ 1
recover-key key quorums facts recovery (t, ws) h = pick (next_count (counter_of recovery t) == 2) (nat_le 4 (next_count (counter_of recovery t)) && next_count (counter_of recovery t) % 2 == 0)
  where
    led : number_of (recovers_key key) (keys_led quorums facts recovery t ws) ≤ 1
    led =
        let n = number-map (recovers_key key) (λ (x : Key × ℕ). key_eq x.0 key) (λ (x : Key × ℕ). RecoverAct.LeadHere (claim_of_key facts recovery t x)) (filter (λ (x : Key × ℕ). not (is_learned quorums recovery.votes t x.0)) ws) (λ x. refl) in
        let m = number-filter (λ (x : Key × ℕ). key_eq x.0 key) (λ (x : Key × ℕ). not (is_learned quorums recovery.votes t x.0)) ws in
        omega (arith, n, m, h)

    pick : (x y : Bool) → number_of (recovers_key key) (cond x (map (ask_of t) ws) (cond y (keys_led quorums facts recovery t ws) [])) ≤ 1
    pick true y = let n = number-none (recovers_key key) (ask_of t) ws (λ x. refl) in omega (arith, n)
    pick false true = led
    pick false false = omega arith

set-key : (cluster : Cluster) (es : List Entry) (e : TxId × List (Key × ℕ)) (key : Key) → IsAllowed cluster es → HasSet es e.0 e.1 → number_of (λ (x : Key × ℕ). key_eq x.0 key) e.1 ≤ 1
set-key cluster es e key legal s =
    let same : map (λ (x : Key × ℕ). x.0) e.1 ≡ keys_of_choices (choices_begun es e.0) = set-keys cluster es e.0 e.1 legal s in
    let n : number_of (λ (k : Key). key_eq k key) (map (λ (x : Key × ℕ). x.0) e.1) ≡ number_of (λ (k : Key). key_eq k key) (keys_of_choices (choices_begun es e.0)) = ap (λ z. number_of (λ (k : Key). key_eq k key) z) same in
    let l = number-map (λ (k : Key). key_eq k key) (λ (x : Key × ℕ). key_eq x.0 key) (λ (x : Key × ℕ). x.0) e.1 (λ x. refl) in
    let m = number-map (λ (k : Key). key_eq k key) (λ (c : Choice). key_eq c.key key) (λ (c : Choice). c.key) (choices_begun es e.0) (λ c. refl) in
    omega (arith, n, l, m, begun-key cluster es e.0 key legal)

-- ---- the acts of a tick

pub record IsRoundTick (key : Key) (r : ℕ) (p : StepPart) : Type 0 where
  pub leader : IsRoundLeader key r p.after.leader
  pub sends : AreRoundSends key r p.sends
  pub plain : (es : List Entry) (a : ℕ) → facts_of (p.entries ++ es) a ≡ facts_of es a

-- an act on the key raises the rounds by one
abbrev pub risen : Bool → ℕ → ℕ
risen b r = cond b (r + 1) r

facts-more : (key : Key) (r s : ℕ) (facts : List Fact) → r ≤ s → AreRoundFacts key r facts → AreRoundFacts key s facts
facts-more key r s facts h f = λ v. let x = f v in omega (arith, h, x)

append-plain : (xs ys : List Entry) (es : List Entry) (a : ℕ) → ((es : List Entry) (a : ℕ) → facts_of (xs ++ es) a ≡ facts_of es a) → ((es : List Entry) (a : ℕ) → facts_of (ys ++ es) a ≡ facts_of es a) → facts_of ((xs ++ ys) ++ es) a ≡ facts_of es a
append-plain xs ys es a h g = ap (λ z. facts_of z a) (joined xs ys es) ∙ (h (ys ++ es) a ∙ g es a)
  where
    joined : (xs ys es : List Entry) → (xs ++ ys) ++ es ≡ xs ++ (ys ++ es)
    joined [] ys es = refl
    joined (x ∷ xs) ys es = ap (λ z. x ∷ z) (joined xs ys es)

fold-round : {X : Type 0} (key : Key) (facts : List Fact) (act : Volatile → X → StepPart) (on : X → Bool) (xs : List X) (r : ℕ) (before : StepPart) →
    ((volatile : Volatile) (x : X) (s : ℕ) → AreRoundFacts key s facts → IsRoundLeader key s volatile.leader → IsRoundTick key (risen (on x) s) (act volatile x)) → AreRoundFacts key r facts → IsRoundTick key r before →
    IsRoundTick key (r + number_of on xs) (fold (part_and_then act) before xs)
fold-round key facts act on [] r before f g h = record { leader = leader-more key r (r + 0) before.after.leader (omega arith) h.leader; sends = sends-more key r (r + 0) before.sends (omega arith) h.sends; plain = h.plain }
fold-round {X = X} key facts act on (x ∷ xs) r before f g h = raise (fold-round key facts act on xs (risen (on x) r) (part_and_then act before x) f (facts-more key r (risen (on x) r) facts up g) next)
  where
    up : r ≤ risen (on x) r
    up = elim (cases_Bool (on x)) [ inl e ↦ rw e (omega arith) | inr e ↦ rw e (omega arith) ]

    one : IsRoundTick key (risen (on x) r) (act before.after x)
    one = f before.after x r g h.leader

    next : IsRoundTick key (risen (on x) r) (part_and_then act before x)
    next = record {
      leader = one.leader;
      sends = Each-append _ before.sends (act before.after x).sends (sends-more key r (risen (on x) r) before.sends up h.sends) one.sends;
      plain = λ es a. append-plain (act before.after x).entries before.entries es a one.plain h.plain;
    }

    sum : risen (on x) r + number_of on xs ≤ r + number_of on (x ∷ xs)
    sum = elim (cases_Bool (on x)) [ inl e ↦ rw e (omega arith) | inr e ↦ rw e (omega arith) ]

    raise : {p : StepPart} → IsRoundTick key (risen (on x) r + number_of on xs) p → IsRoundTick key (r + number_of on (x ∷ xs)) p
    raise {p = p} k = record { leader = leader-more key _ _ p.after.leader sum k.leader; sends = sends-more key _ _ p.sends sum k.sends; plain = k.plain }

ticked-round : (key : Key) (r : ℕ) (volatile : Volatile) (sends : List Envelope) → IsRoundLeader key r volatile.leader → AreRoundSends key r sends → IsRoundTick key r (only_sending volatile sends)
ticked-round key r volatile sends l s = record { leader = l; sends = s; plain = λ es a. refl }

claim-round : (key : Key) (r : ℕ) (cluster : Cluster) (me : ℕ) (facts : List Fact) (volatile : Volatile) (claim : Claim) → AreRoundFacts key r facts → IsRoundLeader key r volatile.leader → IsRoundTick key (raised key claim.key r) (claim_led (here cluster me facts) volatile claim)
claim-round key r cluster me facts volatile claim f l = by_case (led_of (here cluster me facts) volatile claim) refl (led-round key r cluster me facts volatile claim f l)
  where
    least : r ≤ raised key claim.key r
    least = elim (cases_Bool (key_eq claim.key key)) [ inl e ↦ rw e (omega arith) | inr e ↦ rw e (omega arith) ]

    left : IsRoundTick key (raised key claim.key r) (only_sending volatile [])
    left = ticked-round key (raised key claim.key r) volatile [] (leader-more key r (raised key claim.key r) volatile.leader least l) tt

    by_case : (x : Result StepPart LeadFault) → led_of (here cluster me facts) volatile claim ≡ x → IsRoundLed key (raised key claim.key r) x → IsRoundTick key (raised key claim.key r) (led_or_left volatile x)
    by_case (Ok led) e h = record { leader = h.0; sends = h.1; plain = λ es a. led-of-plain cluster me facts volatile claim es a led e }
    by_case (Err fault) e h = left

manager-act-round : (key : Key) (cluster : Cluster) (me : ℕ) (facts : List Fact) (volatile : Volatile) (act : ManagerAct) (r : ℕ) → AreRoundFacts key r facts → IsRoundLeader key r volatile.leader →
    IsRoundTick key (risen (manages_key key act) r) (manager_act (here cluster me facts) volatile act)
manager-act-round key cluster me facts volatile (ManagerAct.Propose choice) r f l = ticked-round key r volatile _ l (each-round key r me (Message.Propose choice) (all_centres cluster.quorums) tt)
manager-act-round key cluster me facts volatile (ManagerAct.LeadHere choice) r f l = claim-round key r cluster me facts volatile (claim_of_choice choice) f l
manager-act-round key cluster me facts volatile (ManagerAct.Lead leader choice) r f l = ticked-round key r volatile [] l tt
manager-act-round key cluster me facts volatile (ManagerAct.Give centre k) r f l = ticked-round key r volatile [] l tt
manager-act-round key cluster me facts volatile (ManagerAct.Decide tx outcome) r f l = ticked-round key r volatile [] l tt

recovery-act-round : (key : Key) (cluster : Cluster) (me : ℕ) (facts : List Fact) (volatile : Volatile) (act : RecoverAct) (r : ℕ) → AreRoundFacts key r facts → IsRoundLeader key r volatile.leader →
    IsRoundTick key (risen (recovers_key key act) r) (recovery_act (here cluster me facts) volatile act)
recovery-act-round key cluster me facts volatile (RecoverAct.Ask t k v) r f l = ticked-round key r volatile _ l (each-round key r me (Message.Ask t k v) (all_centres cluster.quorums) tt)
recovery-act-round key cluster me facts volatile (RecoverAct.LeadHere claim) r f l = claim-round key r cluster me facts volatile claim f l

-- ---- the tick

pub tick-round : (key : Key) (r : ℕ) (w : World) (a : ℕ) → IsUp IsSound w.cluster w.ledger a (centre_at w a).volatile → AreRoundFacts key r (facts_of w.ledger a) → IsRoundLeader key r (centre_at w a).volatile.leader →
    IsRoundTick key (r + (opened_in (centre_at w a).volatile + number_of is_begin w.ledger)) (tick_parts (here w.cluster a (facts_of w.ledger a)) (centre_at w a).volatile)
tick-round key r w a up f l =
    raise ((r + opened_in v) + number_of is_begin w.ledger) (r + (opened_in v + number_of is_begin w.ledger)) (tick_parts (here cluster a facts) v) (omega arith)
    (second (r + opened_in v) (manager_ticked (here cluster a facts) v) (omega arith) first)
  where
    v : Volatile
    v = (centre_at w a).volatile

    cluster : Cluster
    cluster = w.cluster

    facts : List Fact
    facts = facts_of w.ledger a

    raise : (s n : ℕ) (p : StepPart) → s ≤ n → IsRoundTick key s p → IsRoundTick key n p
    raise s n p h k = record { leader = leader-more key s n p.after.leader h k.leader; sends = sends-more key s n p.sends h k.sends; plain = k.plain }

    acts : List ManagerAct
    acts = flat_map (acts_at cluster.quorums v.manager.votes) v.manager.opened

    acts-few : number_of (manages_key key) (flat_map (acts_at cluster.quorums v.manager.votes) v.manager.opened) ≤ opened_in v
    acts-few =
        number-flat (manages_key key) (acts_at cluster.quorums v.manager.votes) v.manager.opened
        (Each-like (IsOpened w.ledger) (λ (t : Undecided). number_of (manages_key key) (acts_at cluster.quorums v.manager.votes t) ≤ 1) v.manager.opened
        (λ t o. acts-key key cluster.quorums v.manager.votes t (subst (λ z. number_of (λ (c : Choice). key_eq c.key key) z ≤ 1) o.choices (begun-key cluster w.ledger t.tx key up.legal))) up.keeps.manager.opened)

    first : IsRoundTick key (r + opened_in v) (manager_ticked (here cluster a facts) v)
    first =
        raise (r + number_of (manages_key key) acts) (r + opened_in v) (manager_ticked (here cluster a facts) v) (few (number_of (manages_key key) acts) acts-few)
        (fold-round key facts (manager_act (here cluster a facts)) (manages_key key) acts r (only_sending (with_manager v (Manager.tick cluster.quorums v.manager).1) [])
        (λ u x s g k. manager-act-round key cluster a facts u x s g k) f (ticked-round key r (with_manager v (Manager.tick cluster.quorums v.manager).1) [] l tt))
      where
        few : (n : ℕ) → n ≤ opened_in v → r + n ≤ r + opened_in v
        few n h = omega (arith, h)

    second : (s : ℕ) (p : StepPart) → r ≤ s → IsRoundTick key s p → IsRoundTick key (s + number_of is_begin w.ledger) (recovery_ticked (here cluster a facts) p)
    second s p h k =
        raise (s + number_of (recovers_key key) after) (s + number_of is_begin w.ledger) (recovery_ticked (here cluster a facts) p) (few (number_of (recovers_key key) after) after-few)
        (fold-round key facts (recovery_act (here cluster a facts)) (recovers_key key) after s (record p { after = with_recovery p.after (record recovery { counters = fold counted_tick recovery.counters (dangling facts (txs_opened p.after.manager)) }) })
        (λ u x n g j. recovery-act-round key cluster a facts u x n g j) (facts-more key r s facts h f) (record { leader = k.leader; sends = k.sends; plain = k.plain }))
      where
        recovery : Recovering
        recovery = p.after.recovery

        after : List RecoverAct
        after = flat_map (acts_on cluster.quorums facts recovery) (dangling facts (txs_opened p.after.manager))

        after-few : number_of (recovers_key key) (flat_map (acts_on cluster.quorums facts recovery) (dangling facts (txs_opened p.after.manager))) ≤ number_of is_begin w.ledger
        after-few =
            let n = number-flat (recovers_key key) (acts_on cluster.quorums facts recovery) (dangling facts (txs_opened p.after.manager))
            (Each-from (λ (e : TxId × List (Key × ℕ)). number_of (recovers_key key) (acts_on cluster.quorums facts recovery e) ≤ 1) (dangling facts (txs_opened p.after.manager))
            (λ e i. recover-key key cluster.quorums facts recovery e (set-key cluster w.ledger e key up.legal (dangling-set cluster w.ledger a (txs_opened p.after.manager) e up.legal up.more i)))) in
            omega (arith, n, dangling-few cluster w.ledger a (txs_opened p.after.manager) up.legal up.more)

        few : (n : ℕ) → n ≤ number_of is_begin w.ledger → s + n ≤ s + number_of is_begin w.ledger
        few n h = omega (arith, h)
