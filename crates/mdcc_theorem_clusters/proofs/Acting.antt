-- What a centre's next act, its end and its start leave.
use Rattle.std.proofs.Common.{Bool, Err, List, None, Ok, Option, Result, Some, [], ap, append-nil, arith, false, inl, inr, length, refl, subst, sym, true, ℕ, ◌+◌, ◌++◌, ◌-◌, ◌<◌, ◌==◌, ◌^◌, ◌∙◌, ◌∷◌, ◌≡◌, ◌≤◌}
use Rattle.std.specs.Prelude.{nat_le}
use Rattle.std.proofs.lemmas.Bool.{cases_Bool, eq-eqb, leb-false}
use Rattle.lru.proofs.Splits.{Contains-nil}
use Rattle.mdcc_config.specs.declared.config.Config.{Config}
use Rattle.mdcc_def_ledger.specs.Ledger.{Added, Entry, facts_of}
use Rattle.mdcc_def_messages.specs.declared.facts.Fact.{Fact}
use Rattle.mdcc_def_protocol.specs.Belongs.{is_centre}
use Rattle.mdcc_def_protocol.specs.Facts.{epoch_of}
use Rattle.mdcc_def_protocol.specs.IsCluster.{IsCluster}
use Rattle.mdcc_def_rules.specs.Boot.{booted_by, next_boot}
use Rattle.mdcc_def_rules.specs.declared.node.BootFault.{BootFault}
use Rattle.mdcc_def_server_runs.specs.Acts.{Act, appended_by}
use Rattle.mdcc_def_server_runs.specs.Sending.{facts_logged}
use Rattle.mdcc_def_server_runs.specs.Servers.{Log, boot_line, endpoints_of, opened, site_of}
use Rattle.mdcc_theorem_trace_states.specs.Words.{Each}
use Rattle.mdcc_theorem_clusters.specs.Asked.{WasReceived}
use Rattle.mdcc_theorem_trace_states.proofs.Lists.{Each-at, Each-like}
use Rattle.mdcc_theorem_clusters.proofs.Counting.{count_in, steps-more, steps_at}
use Rattle.mdcc_theorem_clusters.proofs.Names.{AreKnown, IsOldName, no-names}
use Rattle.mdcc_theorem_clusters.proofs.Paid.{IsPaid, paid-later}
use Rattle.mdcc_theorem_clusters.proofs.Receiving.{IsLater, ReceivedBy, acts_onto, one-later, same-later}
use Rattle.mdcc_theorem_clusters.proofs.Moves.{Goes, boot-did, dropped, group-did, moved, quiet-did, some-same}
use Rattle.mdcc_theorem_clusters.proofs.Standing.{HasCome, IsBefore, IsBooting, IsClosing, IsLive, IsOpen, IsProcess, IsQuiet, IsRight, IsServed, Stands, log-facts, log_with, done-later, out_of, quiet-later, served-later, steps_of}
use Rattle.mdcc_theorem_clusters.specs.Clusters.{Deployment, Process, after_process_act, after_do_at, facts_in_flight, after_stop_at, log_of, after_start_at, process_started, with_process}
use Rattle.mdcc_theorem_clusters.specs.Executions.{AreWithinLimits, Laws}
use Rattle.mdcc_theorem_commit_groups.specs.Groups.{facts_onto}
use Rattle.mdcc_theorem_clusters.specs.Limits.{steps_done}
use Rattle.mdcc_theorem_clusters.specs.Mail.{Mail}

module _ (laws : Laws) (config : Config) (cluster : IsCluster config.cluster) (state : Deployment) (a : ℕ) (within : AreWithinLimits state) (es : List Entry) (mail : List Mail) (h : Stands config es mail state) where
  -- ---- the next act

  module _ (p : Process) (is : state.process a ≡ Some p) (act : Act) (rest : List Act) (e : p.left ≡ act ∷ rest) where
    -- the same acts are left once it is done
    live-then : IsLive config (ReceivedBy a p.left state.done) mail a p.site_then → IsLive config (ReceivedBy a rest ((a, act) ∷ state.done)) mail a p.site_then
    live-then live = subst (λ (acts : List Act). IsLive config (ReceivedBy a acts state.done) mail a p.site_then) e live

    -- what is paid before it is done is so after it
    paid-then : (first : List Act) {n : ℕ} → IsPaid es a state.done (acts_onto a first ((a, act) ∷ state.done)) n → IsPaid es a ((a, act) ∷ state.done) (acts_onto a first ((a, act) ∷ state.done)) n
    paid-then first {n = n} paid =
        let ahead : List (ℕ × Act) = acts_onto a first ((a, act) ∷ state.done) in
        paid-later es a state.done ((a, act) ∷ state.done) ahead ahead n (one-later a act state.done).total (omega arith) paid

    module _ (live : IsLive config (ReceivedBy a p.left state.done) mail a p.site_then) (c : IsClosing config state.done es mail a p) where
      -- other acts are left before the group is durable
      inward-do : (first : List Act) → rest ≡ first ++ (facts_logged a c.before.pending.facts ++ out_of config c.before) → 0 < length first + length c.before.pending.facts
          → IsServed config (ReceivedBy a first ((a, act) ∷ state.done)) es a c.volatile c.inputs c.before → IsQuiet config (WasReceived state.done) es mail a act → Each (IsQuiet config (WasReceived state.done) es mail a) first
          → IsPaid es a state.done (acts_onto a first ((a, act) ∷ state.done)) (steps_of config.cluster es a c.volatile c.inputs) → Goes config (after_process_act state a p (act ∷ rest))
      inward-do first later some served quiet inward paid =
          let stage : IsClosing config ((a, act) ∷ state.done) es mail a (record { left = rest; site_then = p.site_then }) = record {
            volatile = c.volatile;
            inputs = c.inputs;
            before = c.before;
            first = first;
            served = served;
            paid = paid-then first paid;
            acts_are = later;
            some = some;
            inward = quiet-later config state.done ((a, act) ∷ state.done) (one-later a act state.done) [] es [] mail a first inward;
            site_is = c.site_is;
            posted_in = c.posted_in;
          } in
          record { es = es; mail = mail; stands = quiet-did config es mail state a p.site_then act rest h (h.known a p is) quiet (record { live = live-then live; stage = inr (inr stage) }) }

      -- it is the last before what is let out
      last-do : rest ≡ out_of config c.before → IsServed config (WasReceived ((a, act) ∷ state.done)) es a c.volatile c.inputs c.before → appended_by a act ≡ c.before.pending.facts
          → IsRight config (WasReceived state.done) es mail a act → IsPaid es a state.done ((a, act) ∷ state.done) (steps_of config.cluster es a c.volatile c.inputs) → Goes config (after_process_act state a p (act ∷ rest))
      last-do later served facts right paid =
          subst (λ (acts : List Act). Goes config (after_process_act state a p (act ∷ acts))) (sym later)
          (group-did config laws es mail state a p.site_then c.before act h (h.known a p is)
          (subst (λ (acts : List Act). IsLive config (ReceivedBy a acts ((a, act) ∷ state.done)) mail a p.site_then) later (live-then live))
          (within a p is).room c.volatile c.inputs served c.site_is c.posted_in facts right paid)

      one-more : (bytes : List ℕ) → WasReceived state.done a bytes → WasReceived ((a, act) ∷ state.done) a bytes
      one-more bytes r = inr r

      closing-by : (first : List Act) (facts : List Fact) → c.before.pending.facts ≡ facts → act ∷ rest ≡ first ++ (facts_logged a facts ++ out_of config c.before) → 0 < length first + length facts
          → IsServed config (ReceivedBy a first state.done) es a c.volatile c.inputs c.before → Each (IsQuiet config (WasReceived state.done) es mail a) first
          → IsPaid es a state.done (acts_onto a first state.done) (steps_of config.cluster es a c.volatile c.inputs) → Goes config (after_process_act state a p (act ∷ rest))
      closing-by [] [] f all some served inward paid = absurd (omega (arith, some))
      closing-by [] (fact ∷ facts) f all some served inward paid =
          let both : act ∷ rest ≡ Act.Append a (fact ∷ facts) ∷ out_of config c.before = all in
          let same : act ≡ Act.Append a (fact ∷ facts) = cc in
          let later : rest ≡ out_of config c.before = cc in
          let mine : appended_by a (Act.Append a (fact ∷ facts)) ≡ fact ∷ facts = rw (eq-eqb a a refl) refl in
          last-do later (served-later config (WasReceived state.done) (WasReceived ((a, act) ∷ state.done)) es a c.volatile c.inputs c.before one-more served)
          (ap (appended_by a) same ∙ (mine ∙ sym f)) (subst (IsRight config (WasReceived state.done) es mail a) (sym same) tt)
          (paid-later es a state.done state.done state.done ((a, act) ∷ state.done) (steps_of config.cluster es a c.volatile c.inputs) (omega arith) ((one-later a act state.done).steps a) paid)
      closing-by (x ∷ []) [] f all some served inward paid =
          let both : act ∷ rest ≡ x ∷ out_of config c.before = all in
          let same : act ≡ x = cc in
          let later : rest ≡ out_of config c.before = cc in
          last-do later (subst (λ (z : Act). IsServed config (WasReceived ((a, z) ∷ state.done)) es a c.volatile c.inputs c.before) (sym same) served)
          (ap (appended_by a) same ∙ (inward.0.none ∙ sym f)) (subst (IsRight config (WasReceived state.done) es mail a) (sym same) inward.0.right)
          (subst (λ (z : Act). IsPaid es a state.done (acts_onto a [] ((a, z) ∷ state.done)) (steps_of config.cluster es a c.volatile c.inputs)) (sym same) paid)
      closing-by (x ∷ []) (fact ∷ facts) f all some served inward paid =
          let both : act ∷ rest ≡ x ∷ (facts_logged a (fact ∷ facts) ++ out_of config c.before) = all in
          let same : act ≡ x = cc in
          let later : rest ≡ facts_logged a (fact ∷ facts) ++ out_of config c.before = cc in
          inward-do [] (later ∙ ap (λ (fs : List Fact). facts_logged a fs ++ out_of config c.before) (sym f)) (subst (λ (fs : List Fact). 0 < 0 + length fs) (sym f) (omega arith))
          (subst (λ (z : Act). IsServed config (WasReceived ((a, z) ∷ state.done)) es a c.volatile c.inputs c.before) (sym same) served) (subst (IsQuiet config (WasReceived state.done) es mail a) (sym same) inward.0) tt
          (subst (λ (z : Act). IsPaid es a state.done (acts_onto a [] ((a, z) ∷ state.done)) (steps_of config.cluster es a c.volatile c.inputs)) (sym same) paid)
      closing-by (x ∷ (y ∷ first)) facts f all some served inward paid =
          let both : act ∷ rest ≡ x ∷ (y ∷ (first ++ (facts_logged a facts ++ out_of config c.before))) = all in
          let same : act ≡ x = cc in
          let later : rest ≡ y ∷ (first ++ (facts_logged a facts ++ out_of config c.before)) = cc in
          inward-do (y ∷ first) (later ∙ ap (λ (fs : List Fact). (y ∷ first) ++ (facts_logged a fs ++ out_of config c.before)) (sym f)) (omega arith)
          (subst (λ (z : Act). IsServed config (ReceivedBy a (y ∷ first) ((a, z) ∷ state.done)) es a c.volatile c.inputs c.before) (sym same) served) (subst (IsQuiet config (WasReceived state.done) es mail a) (sym same) inward.0) inward.1
          (subst (λ (z : Act). IsPaid es a state.done (acts_onto a (y ∷ first) ((a, z) ∷ state.done)) (steps_of config.cluster es a c.volatile c.inputs)) (sym same) paid)

    open-do : IsLive config (ReceivedBy a p.left state.done) mail a p.site_then → IsOpen config state.done es mail a p → Goes config (after_process_act state a p (act ∷ rest))
    open-do live o =
        let q = subst (Each (IsQuiet config (WasReceived state.done) es mail a)) e o.quiet in
        let stage : IsOpen config ((a, act) ∷ state.done) es mail a (record { left = rest; site_then = p.site_then }) = record {
          volatile = o.volatile;
          inputs = o.inputs;
          served = subst (λ (acts : List Act). IsServed config (ReceivedBy a acts state.done) es a o.volatile o.inputs p.site_then) e o.served;
          paid = paid-then rest (subst (λ (acts : List Act). IsPaid es a state.done (acts_onto a acts state.done) (steps_of config.cluster es a o.volatile o.inputs)) e o.paid);
          quiet = quiet-later config state.done ((a, act) ∷ state.done) (one-later a act state.done) [] es [] mail a rest q.1;
        } in
        record { es = es; mail = mail; stands = quiet-did config es mail state a p.site_then act rest h (h.known a p is) q.0 (record { live = live-then live; stage = inr (inl stage) }) }

    boot-do : IsLive config (ReceivedBy a p.left state.done) mail a p.site_then → IsBooting config a p (facts_of es a) → Goes config (after_process_act state a p (act ∷ rest))
    boot-do live b =
        subst (λ (acts : List Act). Goes config (after_process_act state a p acts)) (sym b.acts_are ∙ e)
        (record {
          es = Added a (next_boot (facts_of es a)) ∷ es;
          mail = mail;
          stands = boot-did config laws cluster es mail state a p.site_then h (h.known a p is) (subst (λ (acts : List Act). IsLive config (ReceivedBy a acts state.done) mail a p.site_then) b.acts_are live) b.site_is b.below;
        })

    pub act-done : Goes config (after_process_act state a p (act ∷ rest))
    act-done =
        let there = h.processes a p is in
        elim there.stage [
          | inl b ↦ boot-do there.live b
          | inr later ↦ elim later [
            | inl o ↦ open-do there.live o
            | inr c ↦ closing-by there.live c c.first c.before.pending.facts refl (sym e ∙ c.acts_are) c.some c.served c.inward c.paid
          ]
        ]

  as-it-is : Goes config state
  as-it-is = record { es = es; mail = mail; stands = h }

  did-goes : (p : Process) → state.process a ≡ Some p → (acts : List Act) → p.left ≡ acts → Goes config (after_process_act state a p acts)
  did-goes p is [] e = as-it-is
  did-goes p is (act ∷ rest) e = act-done p is act rest e

  pub do-goes : (o : Option Process) → state.process a ≡ o → Goes config (after_do_at state a o)
  do-goes None is = as-it-is
  do-goes (Some p) is = did-goes p is p.left refl

  -- ---- its end

  stop-lost : Goes config (with_process (record { done = state.done; durable = state.durable; process = state.process }) a None)
  stop-lost = record {
    es = es;
    mail = mail;
    stands = dropped config es mail state (with_process (record { done = state.done; durable = state.durable; process = state.process }) a None) h (same-later state.done) refl h.done
        (λ b q is. elim (cases_Bool (a == b)) [ inl e ↦ let bad : None ≡ Some q = rw e at is in absurd (cc) | inr e ↦ let it : state.process b ≡ Some q = rw e at is in it ]);
  }

  -- nothing is received by an append, and it is no step
  append-earlier : (centre : ℕ) (facts : List Fact) → IsLater ((a, Act.Append centre facts) ∷ state.done) state.done
  append-earlier centre facts = record {
    received = λ b bytes i. elim i [
      | inl e ↦ let act : Act.Receive (b + 16) (Some bytes) ≡ Act.Append centre facts = ap (λ (z : ℕ × Act). z.1) e in absurd (cc)
      | inr r ↦ r
    ];
    steps = λ b. let e : count_in b (steps_at ((a, Act.Append centre facts) ∷ state.done)) ≡ 0 + count_in b (steps_at state.done) = steps-more b (a, Act.Append centre facts) state.done in omega (arith, e);
    total = let e : steps_done ((a, Act.Append centre facts) ∷ state.done) ≡ 0 + steps_done state.done = refl in omega (arith, e);
  }

  stop-logged : (p : Process) → state.process a ≡ Some p → (acts : List Act) → p.left ≡ acts
      → Goes config (with_process (record { done = state.done; durable = facts_onto a (facts_in_flight a acts) state.durable; process = state.process }) a None)
  stop-logged p is [] e = stop-lost
  stop-logged p is (Act.Append centre facts ∷ rest) e =
      let act : Act = Act.Append centre facts in
      let g = act-done p is act rest e in
      record {
        es = g.es;
        mail = g.mail;
        stands = dropped config g.es g.mail (after_process_act state a p (act ∷ rest))
            (with_process (record { done = state.done; durable = facts_onto a (appended_by a act) state.durable; process = state.process }) a None) g.stands (append-earlier centre facts) refl (done-later config (after_process_act state a p (act ∷ rest)).done state.done (append-earlier centre facts) [] g.es [] g.mail state.done g.stands.done.1)
            (λ b q it. elim (cases_Bool (a == b)) [ inl f ↦ let bad : None ≡ Some q = rw f at it in absurd (cc) | inr f ↦ let same : state.process b ≡ Some q = rw f at it in rw f same ]);
      }
  stop-logged p is (Act.Bind at address ∷ rest) e = stop-lost
  stop-logged p is (Act.Receive at gave ∷ rest) e = stop-lost
  stop-logged p is (Act.Send from to bytes answer ∷ rest) e = stop-lost
  stop-logged p is (Act.Print line ∷ rest) e = stop-lost
  stop-logged p is (Act.Stepped ∷ rest) e = stop-lost
  stop-logged p is (Act.Dropped ∷ rest) e = stop-lost
  stop-logged p is (Act.Unsent ∷ rest) e = stop-lost

  pub stop-goes : (logged : Bool) (o : Option Process) → state.process a ≡ o → Goes config (after_stop_at state a logged o)
  stop-goes logged None is = as-it-is
  stop-goes true (Some p) is = stop-logged p is p.left refl
  stop-goes false (Some p) is = stop-lost

  -- ---- its start

  opened-acts : (log : Log) → (opened config (log ∷ [])).acts ≡ Act.Append log.centre (next_boot log.facts ∷ []) ∷ (endpoints_of config (site_of log) ++ boot_line (site_of log))
  opened-acts log =
      let first : Act = Act.Append log.centre (next_boot log.facts ∷ []) in
      ap (λ (acts : List Act). first ∷ (acts ++ (boot_line (site_of log) ++ []))) (append-nil (endpoints_of config (site_of log)))
      ∙ ap (λ (acts : List Act). first ∷ (endpoints_of config (site_of log) ++ acts)) (append-nil (boot_line (site_of log)))

  boot-below : (facts result : List Fact) → booted_by config.cluster (Ok facts) ≡ Ok result → epoch_of facts < 2 ^ 32 - 1
  boot-below facts result e =
      elim (cases_Bool (nat_le (2 ^ 32 - 1) (epoch_of facts))) [
        | inl f ↦ let bad : Err BootFault.Epochs ≡ Ok result = rw f at e in absurd (cc)
        | inr f ↦ leb-false (2 ^ 32 - 1) (epoch_of facts) f
      ]

  later-epoch : (epoch n serial : ℕ) → epoch ≤ n → epoch ≡ n + 1 → serial ≤ 0
  later-epoch epoch n serial c e = absurd (omega (arith, c, e))

  later-than : (epoch n : ℕ) → epoch ≤ n → epoch ≡ n + 1 → ⊥
  later-than epoch n c e = omega (arith, c, e)

  started-by : is_centre config.cluster a ≡ true → (r : Result (List Fact) BootFault) → booted_by config.cluster (Ok (facts_of es a)) ≡ r
      → Goes config (with_process state a (process_started config a (facts_of es a) r))
  started-by here (Err fault) is = record {
    es = es;
    mail = mail;
    stands = moved config es mail state a [] [] state.done state.durable None h (same-later state.done) tt
        (no-names config [] es state.done a h.begun.named None (λ b t c i. absurd i) h.begun.once (λ p e. absurd (cc))) h.sound h.durable h.done h.mail_stands tt (h.logs a) (h.paid a) (λ p e. absurd (cc));
  }
  started-by here (Ok facts) is =
      let log : Log = log_with a (facts_of es a) in
      let p : Process = record { left = (opened config (log ∷ [])).acts; site_then = site_of log } in
      let none-known : AreKnown h.begun.named a (site_of log) = λ tx serial i centre epoch.
      let o = Each-at (IsOldName es) h.begun.named (tx, serial) h.old i in
      let low = subst (λ (z : ℕ). tx.epoch ≤ epoch_of (facts_of es z)) centre o in
      absurd (later-than tx.epoch (epoch_of (facts_of es a)) low epoch) in
      let boot : IsBooting config a p (facts_of es a) = record { acts_are = opened-acts log; site_is = refl; below = boot-below (facts_of es a) facts is } in
      let live : IsLive config (ReceivedBy a p.left state.done) mail a (site_of log) = record {
        centre = here;
        came = [];
        own_is = refl;
        pieces = tt;
        held = λ entry c. absurd (Contains-nil entry c);
        asked = λ entry c. absurd (Contains-nil entry c);
        came_asked = [];
        asked_is = refl;
        asked_given = tt;
        serials = Each-like (HasCome es) (IsBefore a (epoch_of (facts_of es a) + 1) 0) mail
            (λ one c. λ s e. later-epoch one.0.epoch (epoch_of (facts_of es a)) one.0.serial (subst (λ (n : ℕ). one.0.epoch ≤ epoch_of (facts_of es n)) s c) e) h.mail_stands.come;
      } in
      record {
        es = es;
        mail = mail;
        stands = moved config es mail state a [] [] state.done state.durable (Some p) h (same-later state.done) tt
            (no-names config [] es state.done a h.begun.named (Some p) (λ b t c i. absurd i) h.begun.once (some-same (λ (q : Process). AreKnown h.begun.named a q.site_then) p none-known)) h.sound h.durable h.done h.mail_stands tt (h.logs a) (h.paid a)
            (some-same (λ (q : Process). IsProcess config state.done es mail a q) p (record { live = live; stage = inl boot }));
      }

  log-is : facts_of es a ≡ log_of state.durable a
  log-is = sym (log-facts es a) ∙ ap (λ (xs : List (ℕ × Fact)). log_of xs a) h.durable

  pub start-goes : (o : Option Process) → Goes config (after_start_at config state a o)
  start-goes (Some p) = as-it-is
  start-goes None =
      elim (cases_Bool (is_centre config.cluster a)) [
        | inl e ↦ rw e (subst (λ (facts : List Fact). Goes config (with_process state a (process_started config a facts (booted_by config.cluster (Ok facts))))) log-is
            (started-by e (booted_by config.cluster (Ok (facts_of es a))) refl))
        | inr e ↦ rw e as-it-is
      ]
