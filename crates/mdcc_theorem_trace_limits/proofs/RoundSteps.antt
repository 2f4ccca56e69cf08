-- How far a step raises the rounds of the ballots of a key.
use Rattle.std.proofs.Common.{Bool, Err, List, None, Ok, Option, Result, Some, [], arith, cond, false, inl, inr, length, max, not, refl, subst, sym, true, ℕ, ◌&&◌, ◌+◌, ◌==◌, ◌∙◌, ◌∷◌, ◌≡◌, ◌≤◌}
use Rattle.std.specs.Prelude.{is_some, nat_le, nat_lt, ⊤, ◌^◌}
use Rattle.std.proofs.lemmas.Bool.{and_parts, cases_Bool}
use Rattle.mdcc_base.specs.Ballot.{ballot_eq, ballot_lt, ballot_max}
use Rattle.mdcc_base.specs.Key.{key_eq}
use Rattle.mdcc_base.specs.Quorums.{all_centres}
use Rattle.mdcc_base.specs.Sizes.{Sizes}
use Rattle.mdcc_base.specs.declared.identifiers.Ballot.{Ballot}
use Rattle.mdcc_base.specs.declared.key.Key.{Key}
use Rattle.mdcc_option.specs.declared.choices.Choice.{Choice}
use Rattle.mdcc_option.specs.declared.choices.Claim.{Claim}
use Rattle.mdcc_option.specs.declared.cluster.Cluster.{Cluster}
use Rattle.mdcc_struct.specs.Maps.{value_of}
use Rattle.mdcc_struct.specs.declared.options.Options.{Options}
use Rattle.mdcc_def_protocol.specs.Facts.{ballot_promised, current_of, epoch_of, promise_of}
use Rattle.mdcc_def_protocol.specs.Leader.{counted_promise, has_proposed, is_covered, is_promise_counted, is_waiting, lead, lead_begun, led_again, led_anew, led_by, led_on, next_round, on_promise, promise_taken, refused_by, structure_made, with_promise, with_refused}
use Rattle.mdcc_def_rules.specs.LeaderRules.{lead_sent, led_by_answer, led_of, promised_by_answer}
use Rattle.mdcc_def_rules.specs.Messages.{to_all, to_each, to_others}
use Rattle.mdcc_def_rules.specs.Steps.{StepPart}
use Rattle.mdcc_def_protocol.specs.Structures.{first_structure, is_crowded, is_enough, with_choice, with_claim}
use Rattle.mdcc_def_protocol.specs.Leader.{reports_of}
use Rattle.mdcc_def_protocol.specs.Volatile.{Lead, Leading, Volatile, lead_of, number_kept_at, structure_at, with_lead, with_number, with_structure}
use Rattle.mdcc_def_messages.specs.declared.facts.Fact.{Fact}
use Rattle.mdcc_def_protocol.specs.declared.leader.LeadAnswer.{LeadAnswer}
use Rattle.mdcc_def_protocol.specs.declared.leader.LeadFault.{LeadFault}
use Rattle.mdcc_def_protocol.specs.declared.leader.Promise.{Promise}
use Rattle.mdcc_def_protocol.specs.declared.leader.PromiseAnswer.{PromiseAnswer}
use Rattle.mdcc_def_messages.specs.declared.messages.Envelope.{Envelope}
use Rattle.mdcc_def_messages.specs.declared.messages.Message.{Message}
use Rattle.mdcc_theorem_trace_states.specs.Words.{Each, In}
use Rattle.mdcc_theorem_trace_states.proofs.Lists.{Each-at, Each-filter, Each-like}
use Rattle.mdcc_theorem_trace_states.proofs.Tests.{Decides-key}
use Rattle.mdcc_theorem_trace.proofs.Leading.{lead-in, number-grows, number-other, number-same}
use Rattle.mdcc_def_rules.specs.Here.{here}

-- ---- messages and facts

-- a message names no ballot of the key above the round, where a node might take its round over
abbrev pub IsRound : Key → ℕ → Message → Type 0
IsRound key r (Message.Prepare k v w b) = k ≡ key → b.round ≤ r
IsRound key r (Message.Accept k v b os) = k ≡ key → b.round ≤ r
IsRound key r (Message.Refused k v b p) = k ≡ key → p.round ≤ r
IsRound key r _ = ⊤

pub round-more : (key : Key) (r s : ℕ) (m : Message) → r ≤ s → IsRound key r m → IsRound key s m
round-more key r s (Message.Prepare k v w b) h g = λ e. let x = g e in omega (arith, h, x)
round-more key r s (Message.Accept k v b os) h g = λ e. let x = g e in omega (arith, h, x)
round-more key r s (Message.Refused k v b p) h g = λ e. let x = g e in omega (arith, h, x)
round-more key r s (Message.Propose c) h g = tt
round-more key r s (Message.Lead c) h g = tt
round-more key r s (Message.Voted k v b t m) h g = tt
round-more key r s (Message.Escalate k v t cause) h g = tt
round-more key r s (Message.Promise k v w b q os) h g = tt
round-more key r s (Message.Outcome t o) h g = tt
round-more key r s (Message.Ask t k v) h g = tt
round-more key r s (Message.SyncAsk k) h g = tt
round-more key r s (Message.SyncGive k v item adds) h g = tt
round-more key r s (Message.Mark centre era upto) h g = tt
round-more key r s (Message.Finished t) h g = tt
round-more key r s (Message.ClientRead n k) h g = tt
round-more key r s (Message.ClientBegin n ps) h g = tt
round-more key r s (Message.ClientAnswer n x) h g = tt

abbrev pub AreRoundSends : Key → ℕ → List Envelope → Type 0
AreRoundSends key r sends = Each (λ (env : Envelope). IsRound key r env.message) sends

pub sends-more : (key : Key) (r s : ℕ) (sends : List Envelope) → r ≤ s → AreRoundSends key r sends → AreRoundSends key s sends
sends-more key r s sends h g = Each-like (λ (env : Envelope). IsRound key r env.message) (λ (env : Envelope). IsRound key s env.message) sends (λ env i. round-more key r s env.message h i) g

pub each-round : (key : Key) (r a : ℕ) (m : Message) (cs : List ℕ) → IsRound key r m → AreRoundSends key r (to_each cs a m)
each-round key r a m [] h = tt
each-round key r a m (c ∷ cs) h = (h, each-round key r a m cs h)

-- no fact of a list promises or votes an instance of the key above the round
abbrev pub AreRoundFacts : Key → ℕ → List Fact → Type 0
AreRoundFacts key r facts = (v : ℕ) → (promise_of facts key v).round ≤ r

abbrev pub IsRoundFact : Key → ℕ → Fact → Type 0
IsRoundFact key r fact = (v : ℕ) → (ballot_promised key v fact).round ≤ r

max-round : (a b : Ballot) (r : ℕ) → a.round ≤ r → b.round ≤ r → (ballot_max a b).round ≤ r
max-round a b r h g = elim (cases_Bool (ballot_lt a b)) [ inl e ↦ rw e g | inr e ↦ rw e h ]

pub facts-round : (key : Key) (r : ℕ) (f : Fact) (fs : List Fact) → AreRoundFacts key r fs → IsRoundFact key r f → AreRoundFacts key r (f ∷ fs)
facts-round key r f fs h g = λ v. max-round (promise_of fs key v) (ballot_promised key v f) r (h v) (g v)

pub promised-round : (key : Key) (r : ℕ) (k : Key) (low high : ℕ) (b : Ballot) → (k ≡ key → b.round ≤ r) → IsRoundFact key r (Fact.Promised k low high b)
promised-round key r k low high b h = λ v. elim (cases_Bool (nat_le low v && nat_le v high && key_eq k key)) [
  | inl e ↦ rw e (h ((Decides-key k key).0 (and_parts (nat_le low v && nat_le v high) (key_eq k key) e).1))
  | inr e ↦ rw e (omega arith)
]

pub voted-round : (key : Key) (r : ℕ) (k : Key) (w : ℕ) (b : Ballot) (os : Options) (off : Option Choice) → (k ≡ key → b.round ≤ r) → IsRoundFact key r (Fact.Voted k w b os off)
voted-round key r k w b os off h = λ v. elim (cases_Bool (w == v && key_eq k key)) [
  | inl e ↦ rw e (h ((Decides-key k key).0 (and_parts (w == v) (key_eq k key) e).1))
  | inr e ↦ rw e (omega arith)
]

-- ---- the leader

-- the leader knows no round of the key above this one, and leads at none above its last
pub record IsRoundLeader (key : Key) (r : ℕ) (leader : Leading) : Type 0 where
  pub refused : number_kept_at leader.refused_rounds key ≤ r
  pub last : number_kept_at leader.last_rounds key ≤ r
  pub leads : Each (λ (x : Lead). x.ballot.round ≤ number_kept_at leader.last_rounds x.key) leader.leads

pub leader-more : (key : Key) (r s : ℕ) (leader : Leading) → r ≤ s → IsRoundLeader key r leader → IsRoundLeader key s leader
leader-more key r s leader h g = record { refused = omega (arith, h, g.refused); last = omega (arith, h, g.last); leads = g.leads }

-- a lead takes the place of one of its key, with the rounds as they are
pub put-round : (key : Key) (r : ℕ) (leader : Leading) (x : Lead) → x.ballot.round ≤ number_kept_at leader.last_rounds x.key → IsRoundLeader key r leader → IsRoundLeader key r (with_lead leader x)
put-round key r leader x h g = record {
  refused = g.refused;
  last = g.last;
  leads = (h, Each-filter (λ (y : Lead). y.ballot.round ≤ number_kept_at leader.last_rounds y.key) (λ (y : Lead). not (key_eq y.key x.key)) leader.leads g.leads);
}

-- the round that a claim may raise its key to
abbrev pub raised : Key → Key → ℕ → ℕ
raised key k r = cond (key_eq k key) (r + 1) r

raised-least : (key k : Key) (r : ℕ) → r ≤ raised key k r
raised-least key k r = elim (cases_Bool (key_eq k key)) [ inl e ↦ rw e (omega arith) | inr e ↦ rw e (omega arith) ]

raised-at : (key k : Key) (r n : ℕ) → k ≡ key → n ≤ r + 1 → n ≤ raised key k r
raised-at key k r n e h = let t : key_eq k key ≡ true = (Decides-key k key).1 e in rw t h

abbrev pub IsRoundLed : Key → ℕ → Result StepPart LeadFault → Type 0
IsRoundLed key r (Ok part) = IsRoundLeader key r part.after.leader × AreRoundSends key r part.sends
IsRoundLed key r (Err fault) = ⊤

abbrev pub IsRoundAnswer : Key → ℕ → Sizes → ℕ → Claim → Result (LeadAnswer × Leading) LeadFault → Type 0
IsRoundAnswer key r quorums me claim (Ok answer) = IsRoundLeader key r answer.1 × AreRoundSends key r (lead_sent quorums me claim answer.0)
IsRoundAnswer key r quorums me claim (Err fault) = ⊤

answer-led : (key : Key) (r : ℕ) (quorums : Sizes) (me : ℕ) (volatile : Volatile) (claim : Claim) (a : Result (LeadAnswer × Leading) LeadFault) → IsRoundAnswer key r quorums me claim a → IsRoundLed key r (led_by_answer quorums me volatile claim a)
answer-led key r quorums me volatile claim (Ok (answer, after)) h = h
answer-led key r quorums me volatile claim (Err fault) h = tt

module _ (key : Key) (r : ℕ) (cluster : Cluster) (me epoch : ℕ) (facts : List Fact) (leader : Leading) (claim : Claim) (of-facts : AreRoundFacts key r facts) (of-leader : IsRoundLeader key r leader) where
  abbrev Fine : Result (LeadAnswer × Leading) LeadFault → Type 0
  Fine a = IsRoundAnswer key (raised key claim.key r) cluster.quorums me claim a

  within : r ≤ raised key claim.key r
  within = raised-least key claim.key r

  pick : (b : Bool) (x y : Result (LeadAnswer × Leading) LeadFault) → Fine x → Fine y → Fine (cond b x y)
  pick true x y h g = h
  pick false x y h g = g

  anew-round : Fine (led_anew cluster me epoch facts leader claim)
  anew-round = pick (nat_le (2 ^ 32) round) (Err LeadFault.Exhausted) (Ok (LeadAnswer.Prepare claim.version new.through new.ballot, record (with_lead leader new) { last_rounds = with_number leader.last_rounds claim.key round })) tt (after, each-round key (raised key claim.key r) me (Message.Prepare claim.key claim.version new.through new.ballot) (all_centres cluster.quorums) (λ e. raised-at key claim.key r round e (next e)))
    where
      round : ℕ
      round = next_round facts leader claim.key claim.version

      new : Lead
      new = lead_begun cluster me epoch claim round

      next : claim.key ≡ key → round ≤ r + 1
      next e =
          let p : (promise_of facts claim.key claim.version).round ≤ r = subst (λ z. (promise_of facts z claim.version).round ≤ r) (sym e) (of-facts claim.version) in
          let f : number_kept_at leader.refused_rounds claim.key ≤ r = subst (λ z. number_kept_at leader.refused_rounds z ≤ r) (sym e) of-leader.refused in
          let n : number_kept_at leader.last_rounds claim.key ≤ r = subst (λ z. number_kept_at leader.last_rounds z ≤ r) (sym e) of-leader.last in
          sum (promise_of facts claim.key claim.version).round (number_kept_at leader.refused_rounds claim.key) (number_kept_at leader.last_rounds claim.key) p f n
        where
          sum : (x y z : ℕ) → x ≤ r → y ≤ r → z ≤ r → 1 + max x (max y z) ≤ r + 1
          sum x y z h g k = omega (arith, h, g, k)

      last-less : number_kept_at leader.last_rounds claim.key ≤ round
      last-less = least (promise_of facts claim.key claim.version).round (number_kept_at leader.refused_rounds claim.key) (number_kept_at leader.last_rounds claim.key)
        where
          least : (x y z : ℕ) → z ≤ 1 + max x (max y z)
          least x y z = omega arith

      last : number_kept_at (with_number leader.last_rounds claim.key round) key ≤ raised key claim.key r
      last =
          elim (cases_Bool (key_eq claim.key key)) [
            | inl e ↦
                let s : claim.key ≡ key = (Decides-key claim.key key).0 e in
                let n : number_kept_at (with_number leader.last_rounds claim.key round) key ≡ round = subst (λ z. number_kept_at (with_number leader.last_rounds claim.key round) z ≡ round) s (number-same leader.last_rounds claim.key round) in
                let m = next s in
                rw e (omega (arith, n, m))
            | inr e ↦ let n = number-other leader.last_rounds claim.key key round e in let m = of-leader.last in rw e (omega (arith, n, m))
          ]

      after : IsRoundLeader key (raised key claim.key r) (record (with_lead leader new) { last_rounds = with_number leader.last_rounds claim.key round })
      after = record {
        refused = let g = of-leader.refused in omega (arith, g, within);
        last = last;
        leads = (
          let e = number-same leader.last_rounds claim.key round in omega (arith, e),
          Each-filter (λ (y : Lead). y.ballot.round ≤ number_kept_at (with_number leader.last_rounds claim.key round) y.key) (λ (y : Lead). not (key_eq y.key claim.key)) leader.leads
              (Each-like (λ (y : Lead). y.ballot.round ≤ number_kept_at leader.last_rounds y.key) (λ (y : Lead). y.ballot.round ≤ number_kept_at (with_number leader.last_rounds claim.key round) y.key) leader.leads
              (λ y g. let m = number-grows leader.last_rounds claim.key y.key round last-less in omega (arith, g, m)) of-leader.leads),
        );
      }

  module _ (x : Lead) (there : lead_of leader claim.key ≡ Some x) where
    at : In x leader.leads × (x.key ≡ claim.key)
    at = lead-in leader claim.key x there

    below : x.ballot.round ≤ number_kept_at leader.last_rounds x.key
    below = Each-at (λ (y : Lead). y.ballot.round ≤ number_kept_at leader.last_rounds y.key) leader.leads x of-leader.leads at.0

    ballot : claim.key ≡ key → x.ballot.round ≤ raised key claim.key r
    ballot e =
        let n : number_kept_at leader.last_rounds x.key ≤ r = subst (λ z. number_kept_at leader.last_rounds z ≤ r) (sym (at.1 ∙ e)) of-leader.last in
        omega (arith, below, n, within)

    more : (y : Lead) → y.key ≡ x.key → y.ballot ≡ x.ballot → IsRoundLeader key (raised key claim.key r) (with_lead leader y)
    more y k b =
        put-round key (raised key claim.key r) leader y (subst (λ z. y.ballot.round ≤ number_kept_at leader.last_rounds z) (sym k) (subst (λ (z : Ballot). z.round ≤ number_kept_at leader.last_rounds x.key) (sym b) below))
        (leader-more key r (raised key claim.key r) leader within of-leader)

    kept : IsRoundLeader key (raised key claim.key r) leader
    kept = leader-more key r (raised key claim.key r) leader within of-leader

    again-round : Fine (Ok (led_again leader x claim))
    again-round = (more (record x { claims = with_choice x.claims (claim.tx, claim.choice) }) refl refl, each-round key (raised key claim.key r) me (Message.Prepare claim.key x.version x.through x.ballot) (all_centres cluster.quorums) ballot)

    pick-on : (b : Bool) (l m : LeadAnswer × Leading) → Fine (Ok l) → Fine (Ok m) → Fine (Ok (cond b l m))
    pick-on true l m h g = h
    pick-on false l m h g = g

    sent-round : (os : Options) → AreRoundSends key (raised key claim.key r) (to_all cluster.quorums me (Message.Accept claim.key claim.version x.ballot os))
    sent-round os = each-round key (raised key claim.key r) me (Message.Accept claim.key claim.version x.ballot os) (all_centres cluster.quorums) ballot

    on-round : Fine (Ok (led_on cluster facts leader x claim))
    on-round =
        pick-on (is_some (value_of last claim.tx)) (LeadAnswer.Accept claim.version x.ballot last, leader) (cond (is_some (value_of options claim.tx)) (LeadAnswer.Accept claim.version x.ballot options, with_lead leader y) (LeadAnswer.Left, leader)) (kept, sent-round last)
        (pick-on (is_some (value_of options claim.tx)) (LeadAnswer.Accept claim.version x.ballot options, with_lead leader y) (LeadAnswer.Left, leader) (more y refl refl, sent-round options) (kept, tt))
      where
        last : Options
        last = structure_at x.structures claim.version

        options : Options
        options = with_claim cluster facts x.key claim.version last (claim.tx, claim.choice)

        y : Lead
        y = record x { structures = with_structure x.structures claim.version options }

    found-round : Fine (led_by cluster me epoch facts leader claim (Some x))
    found-round =
        pick x.is_refused _ _ anew-round
        (pick (is_covered cluster.quorums x claim.version) _ _ on-round
        (pick (is_waiting x claim.version) _ _ again-round anew-round))

  lead-round : Fine (lead cluster me epoch facts leader claim)
  lead-round = pick (nat_lt (current_of facts claim.key) claim.version) (Ok (LeadAnswer.Behind, leader)) (led_by cluster me epoch facts leader claim (lead_of leader claim.key)) (leader-more key r (raised key claim.key r) leader within of-leader, behind) (by_lead (lead_of leader claim.key) refl)
    where
      behind : AreRoundSends key (raised key claim.key r) (to_others cluster.quorums me (Message.SyncAsk claim.key))
      behind = each-round key (raised key claim.key r) me (Message.SyncAsk claim.key) _ tt

      by_lead : (o : Option Lead) → lead_of leader claim.key ≡ o → Fine (led_by cluster me epoch facts leader claim o)
      by_lead None e = anew-round
      by_lead (Some x) e = found-round x e

-- a claim that is led raises the rounds of its own key by one at most, and of no other key
pub led-round : (key : Key) (r : ℕ) (cluster : Cluster) (me : ℕ) (facts : List Fact) (volatile : Volatile) (claim : Claim) → AreRoundFacts key r facts → IsRoundLeader key r volatile.leader → IsRoundLed key (raised key claim.key r) (led_of (here cluster me facts) volatile claim)
led-round key r cluster me facts volatile claim f l =
    answer-led key (raised key claim.key r) cluster.quorums me volatile claim (lead cluster me (epoch_of facts) facts volatile.leader claim) (lead-round key r cluster me (epoch_of facts) facts volatile.leader claim f l)

-- ---- promises and refusals

pub promise-round : (key : Key) (r : ℕ) (cluster : Cluster) (me : ℕ) (facts : List Fact) (volatile : Volatile) (leader : Leading) (from : ℕ) (promise : Promise) → IsRoundLeader key r leader →
    IsRoundLed key r (promised_by_answer cluster.quorums me volatile promise.key (on_promise cluster facts leader from promise))
promise-round key r cluster me facts volatile leader from promise l = by_lead (lead_of leader promise.key) refl
  where
    ignored : IsRoundLed key r (promised_by_answer cluster.quorums me volatile promise.key (Ok (PromiseAnswer.Ignored, leader)))
    ignored = (l, tt)

    module_lead : (x : Lead) → lead_of leader promise.key ≡ Some x → (In x leader.leads) × (x.key ≡ promise.key) × (x.ballot.round ≤ number_kept_at leader.last_rounds x.key)
    module_lead x e = let i = lead-in leader promise.key x e in (i.0, i.1, Each-at (λ (y : Lead). y.ballot.round ≤ number_kept_at leader.last_rounds y.key) leader.leads x l.leads i.0)

    made : (x y : Lead) (os : Options) (b : Bool) → x.key ≡ promise.key → x.ballot.round ≤ number_kept_at leader.last_rounds x.key → y.ballot.round ≤ number_kept_at leader.last_rounds y.key →
        IsRoundLed key r (promised_by_answer cluster.quorums me volatile promise.key (cond b (Err LeadFault.Crowded) (Ok (PromiseAnswer.Accept x.version x.ballot os, with_lead leader y))))
    made x y os true k h g = tt
    made x y os false k h g = (
      put-round key r leader y g l,
      each-round key r me (Message.Accept promise.key x.version x.ballot os) (all_centres cluster.quorums)
          (λ e. let n : number_kept_at leader.last_rounds x.key ≤ r = subst (λ z. number_kept_at leader.last_rounds z ≤ r) (sym (k ∙ e)) l.last in omega (arith, h, n)),
    )

    counted : (b c : Bool) (x : Lead) → x.key ≡ promise.key → x.ballot.round ≤ number_kept_at leader.last_rounds x.key →
        IsRoundLed key r (promised_by_answer cluster.quorums me volatile promise.key (cond b (Ok (PromiseAnswer.Counted, with_lead leader x)) (cond c (structure_made cluster facts leader x) (Ok (PromiseAnswer.Waiting (length x.promises), with_lead leader x)))))
    counted true c x k h = (put-round key r leader x h l, tt)
    counted false true x k h = made x (record x { claims = []; structures = with_structure x.structures x.version (first_structure cluster facts x.key x.version x.claims (reports_of x.promises)) }) (first_structure cluster facts x.key x.version x.claims (reports_of x.promises)) (is_crowded (first_structure cluster facts x.key x.version x.claims (reports_of x.promises))) k h h
    counted false false x k h = (put-round key r leader x h l, tt)

    taken : (b : Bool) (x : Lead) → x.key ≡ promise.key → x.ballot.round ≤ number_kept_at leader.last_rounds x.key →
        IsRoundLed key r (promised_by_answer cluster.quorums me volatile promise.key (cond b (counted_promise cluster facts leader (with_promise x from promise)) (Ok (PromiseAnswer.Ignored, leader))))
    taken true x k h = counted (has_proposed (with_promise x from promise)) (is_enough cluster facts x.key x.version (reports_of (with_promise x from promise).promises)) (with_promise x from promise) k h
    taken false x k h = ignored

    by_lead : (o : Option Lead) → lead_of leader promise.key ≡ o → IsRoundLed key r (promised_by_answer cluster.quorums me volatile promise.key (promise_taken cluster facts leader from promise o))
    by_lead None e = ignored
    by_lead (Some x) e = let i = module_lead x e in taken (is_promise_counted x from promise) x i.1 i.2

pub refused-round : (key : Key) (r : ℕ) (leader : Leading) (k : Key) (b p : Ballot) (o : Option Lead) → lead_of leader k ≡ o → (k ≡ key → p.round ≤ r) → IsRoundLeader key r leader → IsRoundLeader key r (refused_by leader k b p o)
refused-round key r leader k b p None e h l = l
refused-round key r leader k b p (Some x) e h l = record { refused = refused; last = put.last; leads = put.leads }
  where
    at : In x leader.leads × (x.key ≡ k)
    at = lead-in leader k x e

    below : x.ballot.round ≤ number_kept_at leader.last_rounds x.key
    below = Each-at (λ (y : Lead). y.ballot.round ≤ number_kept_at leader.last_rounds y.key) leader.leads x l.leads at.0

    put : IsRoundLeader key r (with_lead leader (with_refused x b))
    put = by_test (ballot_eq x.ballot b)
      where
        by_test : (t : Bool) → IsRoundLeader key r (with_lead leader (cond t (record x { is_refused = true }) x))
        by_test true = put-round key r leader (record x { is_refused = true }) below l
        by_test false = put-round key r leader x below l

    refused : number_kept_at (with_number leader.refused_rounds k (max (number_kept_at leader.refused_rounds k) p.round)) key ≤ r
    refused =
        elim (cases_Bool (key_eq k key)) [
          | inl t ↦
              let s : k ≡ key = (Decides-key k key).0 t in
              let n : number_kept_at (with_number leader.refused_rounds k (max (number_kept_at leader.refused_rounds k) p.round)) key ≡ max (number_kept_at leader.refused_rounds k) p.round =
              subst (λ z. number_kept_at (with_number leader.refused_rounds k (max (number_kept_at leader.refused_rounds k) p.round)) z ≡ max (number_kept_at leader.refused_rounds k) p.round) s (number-same leader.refused_rounds k (max (number_kept_at leader.refused_rounds k) p.round)) in
              let m : number_kept_at leader.refused_rounds k ≤ r = subst (λ z. number_kept_at leader.refused_rounds z ≤ r) (sym s) l.refused in
              most (number_kept_at leader.refused_rounds k) p.round _ n m (h s)
          | inr t ↦ let n = number-other leader.refused_rounds k key (max (number_kept_at leader.refused_rounds k) p.round) t in let m = l.refused in omega (arith, n, m)
        ]
      where
        most : (x y n : ℕ) → n ≡ max x y → x ≤ r → y ≤ r → n ≤ r
        most x y n e h g = omega (arith, e, h, g)
