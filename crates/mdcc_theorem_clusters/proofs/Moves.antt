-- Every move keeps what holds of every state of an execution.
use Rattle.std.proofs.Common.{List, None, Option, Some, [], ap, arith, inl, inr, refl, subst, sym, true, ℕ, ◌+◌, ◌++◌, ◌-◌, ◌<◌, ◌==◌, ◌^◌, ◌∙◌, ◌∷◌, ◌≡◌, ◌≤◌}
use Rattle.std.specs.Prelude.{nat_lt}
use Rattle.std.proofs.lemmas.Bool.{and_from, cases_Bool, eq-eqb, eqb-false, eqb-true, lt-ltb}
use Rattle.mdcc_theorem_clusters.specs.Asked.{WasReceived}
use Rattle.mdcc_option.specs.declared.choices.Choice.{Choice}
use Rattle.mdcc_base.specs.declared.identifiers.TxId.{TxId}
use Rattle.mdcc_base.specs.declared.outside.Address.{Address}
use Rattle.mdcc_config.specs.IsConfig.{address_above}
use Rattle.mdcc_config.specs.declared.config.Config.{Config}
use Rattle.mdcc_def_ledger.specs.AllowedLedgers.{IsAllowed}
use Rattle.mdcc_def_ledger.specs.BootTest.{are_allowed_facts, is_allowed_fact}
use Rattle.mdcc_def_ledger.specs.Ledger.{Added, Entry, facts_of}
use Rattle.mdcc_def_messages.specs.declared.facts.Fact.{Fact}
use Rattle.mdcc_option.specs.declared.cluster.Cluster.{Cluster}
use Rattle.mdcc_def_protocol.specs.Facts.{epoch_of}
use Rattle.mdcc_def_protocol.specs.IsCluster.{IsCluster}
use Rattle.mdcc_def_protocol.specs.Volatile.{Volatile, initial_volatile}
use Rattle.mdcc_def_rules.specs.Boot.{next_boot}
use Rattle.mdcc_def_rules.specs.declared.node.Input.{Input}
use Rattle.mdcc_theorem_server_runs.proofs.Outgoing.{out_site}
use Rattle.mdcc_def_server_runs.specs.Acts.{Act, appended_by}
use Rattle.mdcc_def_server_runs.specs.Sending.{persist_then_send, persisted}
use Rattle.mdcc_def_server_runs.specs.Servers.{bound_at, boot_line, endpoints_of, site_of}
use Rattle.mdcc_def_server_runs.specs.Sites.{Site}
use Rattle.mdcc_theorem_node_steps.specs.NodeInvariant.{HasRoom, IsNode}
use Rattle.mdcc_theorem_trace_states.specs.Invariant.{IsOf}
use Rattle.mdcc_theorem_trace_states.specs.Sound.{IsSound}
use Rattle.mdcc_theorem_trace_states.specs.Words.{Each, In}
use Rattle.mdcc_theorem_trace_states.proofs.Ledgers.{facts-own}
use Rattle.mdcc_theorem_trace_states.proofs.Lists.{Each-append, Each-like, In-append}
use Rattle.mdcc_theorem_trace_states.proofs.Tests.{add-test}
use Rattle.mdcc_theorem_commit_groups.proofs.Booting.{boots, epoch-grows}
use Rattle.mdcc_theorem_clusters.proofs.Names.{AreKnown, IsNaming, IsOldName, IsSameLife, group-names, known-before, no-names}
use Rattle.mdcc_theorem_clusters.proofs.Paid.{IsPaid, IsPaidFor, paid-first, paid-for, paid-for-later, paid-for-others, paid-later}
use Rattle.mdcc_theorem_clusters.proofs.Receiving.{IsLater, ReceivedBy, acts_onto, asked-for, one-later, onto-done}
use Rattle.mdcc_theorem_clusters.proofs.Releases.{released, same-life}
use Rattle.mdcc_theorem_clusters.proofs.Standing.{HasCome, IsLive, IsLogged, IsOpen, IsProcess, IsQuiet, IsRight, IsRightDone, IsServed, MailStands, Stands, done-later, facts-others, log_with, out_of, process-later, process-others, right-later, served-later, steps_of}
use Rattle.mdcc_theorem_clusters.specs.Clusters.{Deployment, Process, with_process}
use Rattle.mdcc_theorem_clusters.specs.Executions.{Laws}
use Rattle.mdcc_theorem_commit_groups.specs.Groups.{IsSoundLedger, facts_added_in, facts_onto}
use Rattle.mdcc_theorem_clusters.specs.Mail.{Mail}
use Rattle.mdcc_theorem_clusters.specs.Posted.{posted}

-- some ledger and some messages under heads stand with the state
pub record Goes (config : Config) (state : Deployment) : Type 0 where
  pub es : List Entry
  pub mail : List Mail
  pub stands : Stands config es mail state

pub some-same : {A : Type 0} (P : A → Type 0) (x : A) → P x → (y : A) → Some x ≡ Some y → P y
some-same P x h y e = let s : x ≡ y = cc in subst P s h

pub In-before : {A : Type 0} (x : A) (xs ys : List A) → In x xs → In x (xs ++ ys)
In-before x [] ys h = absurd h
In-before x (z ∷ xs) ys h = elim h [ inl e ↦ inl e | inr r ↦ inr (In-before x xs ys r) ]

-- ---- messages under heads stay

epoch-grows-all : (cluster : Cluster) (new es : List Entry) (a : ℕ) → IsAllowed cluster (new ++ es) → epoch_of (facts_of es a) ≤ epoch_of (facts_of (new ++ es) a)
epoch-grows-all cluster [] es a legal = omega arith
epoch-grows-all cluster (e ∷ new) es a legal =
    let first = epoch-grows-all cluster new es a legal.0 in
    let last = epoch-grows cluster e (new ++ es) a legal in
    omega (arith, first, last)

pub mail-later : (cluster : Cluster) (new es : List Entry) (mail : List Mail) → IsAllowed cluster (new ++ es) → MailStands es mail → MailStands (new ++ es) mail
mail-later cluster new es mail legal h = record {
  are = h.are;
  come = Each-like (HasCome es) (HasCome (new ++ es)) mail (λ one c. let g = epoch-grows-all cluster new es one.0.sender legal in omega (arith, c, g)) h.come;
}

-- a boot begins no transaction
boot-none : (a : ℕ) (boot : Fact) (b : ℕ) (tx : TxId) (choices : List Choice) → In (Entry.Begun b tx choices) (Added a boot ∷ []) → ⊥
boot-none a boot b tx choices i = elim i [ inl e ↦ absurd (cc) | inr r ↦ absurd r ]

module _ (config : Config) where
  -- ---- one centre moves

  pub moved : (es : List Entry) (mail : List Mail) (state : Deployment) (a : ℕ) (new : List Entry) (more : List Mail) (done : List (ℕ × Act)) (durable : List (ℕ × Fact)) (process : Option Process)
      → (h : Stands config es mail state) → IsLater state.done done → Each (IsOf a) new
      → IsNaming config new es done a h.begun.named process → IsSoundLedger IsSound config.cluster (new ++ es) → facts_added_in (new ++ es) ≡ durable
      → Each (IsRightDone config (WasReceived done) (new ++ es) (more ++ mail)) done → MailStands (new ++ es) (more ++ mail) → Each (λ (one : Mail). one.0.sender ≡ a) more
      → IsLogged config.cluster (facts_of (new ++ es) a) → IsPaidFor (new ++ es) a done → ((p : Process) → process ≡ Some p → IsProcess config done (new ++ es) (more ++ mail) a p)
      → Stands config (new ++ es) (more ++ mail) (with_process (record { done = done; durable = durable; process = state.process }) a process)
  moved es mail state a new more done durable process h later own asked sound added right stands senders logged paid mine = record {
    begun = record {
      named = asked.fresh ++ h.begun.named;
      each = λ b tx choices i. elim (In-append (Entry.Begun b tx choices) new es i) [
        | inl now ↦ asked.asked b tx choices now
        | inr old ↦ asked-for config state.done done later asked.fresh h.begun.named b tx choices (h.begun.each b tx choices old)
      ];
      once = asked.once;
    };
    known = all_known;
    old = Each-append (IsOldName (new ++ es)) asked.fresh h.begun.named asked.old
        (Each-like (IsOldName es) (IsOldName (new ++ es)) h.begun.named (λ name o. let g = epoch-grows-all config.cluster new es name.0.centre sound.legal in omega (arith, o, g)) h.old);
    sound = sound;
    durable = added;
    done = right;
    mail_stands = stands;
    logs = logs;
    paid = all_paid;
    processes = processes;
  }
    where
      all_known : (b : ℕ) (p : Process) → (with_process (record { done = done; durable = durable; process = state.process }) a process).process b ≡ Some p → AreKnown (asked.fresh ++ h.begun.named) b p.site_then
      all_known b p is =
          elim (cases_Bool (a == b)) [
            | inl e ↦ let it : process ≡ Some p = rw e at is in subst (λ (z : ℕ). AreKnown (asked.fresh ++ h.begun.named) z p.site_then) (eqb-true a b e) (asked.known p it)
            | inr e ↦ let it : state.process b ≡ Some p = rw e at is in
                λ tx serial i centre epoch. elim (In-append (tx, serial) asked.fresh h.begun.named i) [
                  | inl k ↦ absurd (eqb-false a b e (sym (asked.own (tx, serial) k) ∙ centre))
                  | inr k ↦ h.known b p it tx serial k centre epoch
                ]
          ]

      all_paid : (b : ℕ) → IsPaidFor (new ++ es) b done
      all_paid b =
          elim (cases_Bool (a == b)) [
            | inl e ↦ subst (λ (z : ℕ). IsPaidFor (new ++ es) z done) (eqb-true a b e) paid
            | inr e ↦ paid-for-others new es a b done e own (paid-for-later es b state.done done later.total (later.steps b) (h.paid b))
          ]

      logs : (b : ℕ) → IsLogged config.cluster (facts_of (new ++ es) b)
      logs b =
          elim (cases_Bool (a == b)) [
            | inl e ↦ subst (λ (z : ℕ). IsLogged config.cluster (facts_of (new ++ es) z)) (eqb-true a b e) logged
            | inr e ↦ subst (IsLogged config.cluster) (sym (facts-others new es a b e own)) (h.logs b)
          ]

      processes : (b : ℕ) (p : Process) → (with_process (record { done = done; durable = durable; process = state.process }) a process).process b ≡ Some p → IsProcess config done (new ++ es) (more ++ mail) b p
      processes b p is =
          elim (cases_Bool (a == b)) [
            | inl e ↦ let it : process ≡ Some p = rw e at is in
                subst (λ (z : ℕ). IsProcess config done (new ++ es) (more ++ mail) z p) (eqb-true a b e) (mine p it)
            | inr e ↦ let it : state.process b ≡ Some p = rw e at is in
                process-others config state.done done later new es more mail a b e own sound senders p (h.processes b p it)
          ]

  -- some processes end, and some acts are forgotten by which nothing was received
  pub dropped : (es : List Entry) (mail : List Mail) (state next : Deployment) → Stands config es mail state → IsLater state.done next.done → next.durable ≡ state.durable
      → Each (IsRightDone config (WasReceived next.done) es mail) next.done → ((b : ℕ) (p : Process) → next.process b ≡ Some p → state.process b ≡ Some p) → Stands config es mail next
  dropped es mail state next h later durable done process = record {
    sound = h.sound;
    durable = h.durable ∙ sym durable;
    done = done;
    mail_stands = h.mail_stands;
    begun = record { named = h.begun.named; each = λ b tx choices i. asked-for config state.done next.done later [] h.begun.named b tx choices (h.begun.each b tx choices i); once = h.begun.once };
    known = λ b p is. h.known b p (process b p is);
    old = h.old;
    logs = h.logs;
    paid = λ b. paid-for-later es b state.done next.done later.total (later.steps b) (h.paid b);
    processes = λ b p is. process-later config state.done next.done later es mail b p (h.processes b p (process b p is));
  }

  -- ---- one act that appends nothing

  pub quiet-did : (es : List Entry) (mail : List Mail) (state : Deployment) (a : ℕ) (site : Site) (act : Act) (rest : List Act) → (h : Stands config es mail state) → AreKnown h.begun.named a site → IsQuiet config (WasReceived state.done) es mail a act
      → IsProcess config ((a, act) ∷ state.done) es mail a (record { left = rest; site_then = site })
      → Stands config es mail (with_process (record { done = (a, act) ∷ state.done; durable = facts_onto a (appended_by a act) state.durable; process = state.process }) a (Some (record { left = rest; site_then = site })))
  quiet-did es mail state a site act rest h known q mine =
      moved es mail state a [] [] ((a, act) ∷ state.done) (facts_onto a (appended_by a act) state.durable) (Some (record { left = rest; site_then = site })) h (one-later a act state.done) tt
      (no-names config [] es ((a, act) ∷ state.done) a h.begun.named (Some (record { left = rest; site_then = site })) (λ b t c i. absurd i) h.begun.once
      (some-same (λ (p : Process). AreKnown h.begun.named a p.site_then) (record { left = rest; site_then = site }) known)) h.sound
      (h.durable ∙ sym (ap (λ (fs : List Fact). facts_onto a fs state.durable) q.none)) (let later = one-later a act state.done in (right-later config state.done ((a, act) ∷ state.done) later [] es [] mail a act q.right, done-later config state.done ((a, act) ∷ state.done) later [] es [] mail state.done h.done)) h.mail_stands tt (h.logs a)
      (let later = one-later a act state.done in paid-for-later es a state.done ((a, act) ∷ state.done) later.total (later.steps a) (h.paid a))
      (some-same (λ (p : Process). IsProcess config ((a, act) ∷ state.done) es mail a p) (record { left = rest; site_then = site }) mine)

  -- ---- boots

  bound-quiet : (G : ℕ → List ℕ → Type 0) (es : List Entry) (mail : List Mail) (a at : ℕ) (o : Option Address) → Each (IsQuiet config G es mail a) (bound_at at o)
  bound-quiet G es mail a at None = tt
  bound-quiet G es mail a at (Some address) = (record { right = tt; none = refl }, tt)

  boot-quiet : (G : ℕ → List ℕ → Type 0) (es : List Entry) (mail : List Mail) (a : ℕ) (site : Site) → Each (IsQuiet config G es mail a) (endpoints_of config site ++ boot_line site)
  boot-quiet G es mail a site =
      Each-append (IsQuiet config G es mail a) (endpoints_of config site) (boot_line site)
      (Each-append (IsQuiet config G es mail a) (bound_at site.centre (address_above config 0 site.centre)) (bound_at (site.centre + 16) (address_above config 16 site.centre))
      (bound-quiet G es mail a site.centre (address_above config 0 site.centre)) (bound-quiet G es mail a (site.centre + 16) (address_above config 16 site.centre)))
      (record { right = tt; none = refl }, tt)

  booted-logged : (es : List Entry) (a : ℕ) → IsAllowed config.cluster (Added a (next_boot (facts_of es a)) ∷ es) → epoch_of (facts_of es a) < 2 ^ 32 - 1 → IsLogged config.cluster (facts_of es a)
      → IsLogged config.cluster (next_boot (facts_of es a) ∷ facts_of es a)
  booted-logged es a legal below h = record {
    allowed = and_from (are_allowed_facts config.cluster (facts_of es a)) (is_allowed_fact config.cluster (facts_of es a) (next_boot (facts_of es a))) h.allowed
        (add-test config.cluster (facts_of es a) (next_boot (facts_of es a)) legal.1.1);
    formed = ((omega arith, omega (arith, below)), h.formed);
  }

  pub boot-did : Laws → IsCluster config.cluster → (es : List Entry) (mail : List Mail) (state : Deployment) (a : ℕ) (site : Site) → (h : Stands config es mail state) → AreKnown h.begun.named a site
      → (let act = Act.Append a (next_boot (facts_of es a) ∷ []) in let rest = endpoints_of config (site_of (log_with a (facts_of es a))) ++ boot_line (site_of (log_with a (facts_of es a))) in
      IsLive config (ReceivedBy a rest ((a, act) ∷ state.done)) mail a site)
      → site ≡ site_of (log_with a (facts_of es a)) → epoch_of (facts_of es a) < 2 ^ 32 - 1
      → (let act = Act.Append a (next_boot (facts_of es a) ∷ []) in let rest = endpoints_of config (site_of (log_with a (facts_of es a))) ++ boot_line (site_of (log_with a (facts_of es a))) in
      Stands config (Added a (next_boot (facts_of es a)) ∷ es) mail (with_process (record { done = (a, act) ∷ state.done; durable = facts_onto a (appended_by a act) state.durable; process = state.process }) a (Some (record { left = rest; site_then = site }))))
  boot-did laws cluster es mail state a site h known live is below =
      let boot : Fact = next_boot (facts_of es a) in
      let act = Act.Append a (boot ∷ []) in
      let rest = endpoints_of config (site_of (log_with a (facts_of es a))) ++ boot_line (site_of (log_with a (facts_of es a))) in
      let now : List Entry = Added a boot ∷ es in
      let group = boots IsSound laws.good config.cluster es a live.centre h.sound in
      let up = group.up in
      let facts : facts_of now a ≡ boot ∷ facts_of es a = facts-own a boot es in
      let logged = booted-logged es a up.legal below (h.logs a) in
      let node : IsNode config.cluster a (boot ∷ facts_of es a) initial_volatile = record {
        cluster_itself = cluster;
        centre = live.centre;
        facts_themselves = record { booted = booted-test (epoch_of (facts_of es a)); allowed = logged.allowed; well_formed = logged.formed };
        votes = record { manager = tt; recovery = tt };
        volatile_itself = record { opened = tt; votes = tt; watched = tt; leads = tt };
      } in
      let G : ℕ → List ℕ → Type 0 = ReceivedBy a rest ((a, act) ∷ state.done) in
      let served : IsServed config G now a initial_volatile [] (site_of (log_with a (facts_of es a))) = record {
        group = group;
        pends = record {
          centre_is = refl;
          node_is = ap (λ (fs : List Fact). record { facts = fs; volatile = initial_volatile }) (sym facts);
          facts_are = refl;
          heard_are = refl;
          owed = tt;
        };
        answers = record {
          centre_is = refl;
          node_is = ap (λ (fs : List Fact). record { facts = fs; volatile = initial_volatile }) (sym facts);
          node_formed = node;
          mail = tt;
          begun = λ serial tx f. absurd (cc);
          made_for = λ b tx choices i. absurd i;
          noted = λ tx one k. absurd (cc);
          ended = λ tx one commits k f. absurd (cc);
        };
        node = subst (λ (fs : List Fact). IsNode config.cluster a fs initial_volatile) (sym facts) node;
        formed = tt;
        opened = omega arith;
      } in
      let one = one-later a act state.done in
      let old_paid = paid-for-later es a state.done ((a, act) ∷ state.done) one.total (one.steps a) (h.paid a) in
      let mine_paid : IsPaidFor now a ((a, act) ∷ state.done) = record { begun = old_paid.begun; plain = old_paid.plain } in
      let stage : IsOpen config ((a, act) ∷ state.done) now mail a (record { left = rest; site_then = site }) = record {
        volatile = initial_volatile;
        inputs = [];
        served = subst (IsServed config G now a initial_volatile []) (sym is) served;
        paid = paid-first now a ((a, act) ∷ state.done) (acts_onto a rest ((a, act) ∷ state.done)) ((onto-done a rest ((a, act) ∷ state.done)).steps a) mine_paid;
        quiet = boot-quiet (WasReceived ((a, act) ∷ state.done)) now mail a (site_of (log_with a (facts_of es a)));
      } in
      moved es mail state a (Added a boot ∷ []) [] ((a, act) ∷ state.done) (facts_onto a (appended_by a act) state.durable) (Some (record { left = rest; site_then = site })) h (one-later a act state.done) (refl, tt)
      (no-names config (Added a boot ∷ []) es ((a, act) ∷ state.done) a h.begun.named (Some (record { left = rest; site_then = site })) (λ b t c i. boot-none a boot b t c i) h.begun.once
      (some-same (λ (p : Process). AreKnown h.begun.named a p.site_then) (record { left = rest; site_then = site }) known))
      (record { sizes = up.sizes; legal = up.legal; placed = up.placed; more = up.more })
      (ap (λ (xs : List (ℕ × Fact)). (a, boot) ∷ xs) h.durable ∙ rw (eq-eqb a a refl) refl)
      (tt, done-later config state.done ((a, act) ∷ state.done) one (Added a boot ∷ []) es [] mail state.done h.done) (mail-later config.cluster (Added a boot ∷ []) es mail up.legal h.mail_stands) tt
      (subst (IsLogged config.cluster) (sym facts) logged) mine_paid
      (some-same (λ (p : Process). IsProcess config ((a, act) ∷ state.done) now mail a p) (record { left = rest; site_then = site })
      (record { live = live; stage = inr (inl stage) }))
    where
      booted-test : (n : ℕ) → nat_lt 0 (n + 1) ≡ true
      booted-test n = lt-ltb 0 (n + 1) (omega arith)

  -- ---- groups

  pub room-before : (before site : Site) → site ≡ (persist_then_send config before).site → HasRoom site.node.facts → HasRoom before.node.facts
  room-before before site is room = subst (λ (s : Site). HasRoom s.node.facts) (is ∙ out_site config before) room

  -- its group is in the ledger once this act is done: its facts are durable, or it has none
  pub group-did : Laws → (es : List Entry) (mail : List Mail) (state : Deployment) (a : ℕ) (site before : Site) → (act : Act) → (h : Stands config es mail state) → AreKnown h.begun.named a site → IsLive config (ReceivedBy a (out_of config before) ((a, act) ∷ state.done)) mail a site
      → HasRoom site.node.facts → (volatile : Volatile) (inputs : List Input) → IsServed config (WasReceived ((a, act) ∷ state.done)) es a volatile inputs before → site ≡ (persist_then_send config before).site
      → ((one : Mail) → In one (posted config (persisted before) before.pending.envelopes) → In one mail) → appended_by a act ≡ before.pending.facts
      → IsRight config (WasReceived state.done) es mail a act → IsPaid es a state.done ((a, act) ∷ state.done) (steps_of config.cluster es a volatile inputs)
      → Goes config (with_process (record { done = (a, act) ∷ state.done; durable = facts_onto a (appended_by a act) state.durable; process = state.process }) a (Some (record { left = out_of config before; site_then = site })))
  group-did laws es mail state a site before act h known live room volatile inputs served is into facts right paid =
      let done : List (ℕ × Act) = (a, act) ∷ state.done in
      let G : ℕ → List ℕ → Type 0 = WasReceived done in
      let out : List Act = out_of config before in
      let H : ℕ → List ℕ → Type 0 = ReceivedBy a out done in
      let later = onto-done a out done in
      let r = released laws config G es a volatile inputs before served (room-before before site is room) in
      let now : List Entry = r.new ++ es in
      let life : IsSameLife before site = subst (IsSameLife before) (sym is) (same-life laws config G es a volatile inputs before served (room-before before site is room)) in
      let spent = r.paid state.done done h.paid (one-later a act state.done) paid in
      let stage : IsOpen config done now mail a (record { left = out; site_then = site }) = record {
        volatile = r.after;
        inputs = [];
        served = subst (IsServed config H now a r.after []) (sym is) (served-later config G H now a r.after [] (persist_then_send config before).site (λ bytes k. later.received a bytes k) r.served);
        paid = paid-later now a done done done (acts_onto a out done) 0 (omega arith) (later.steps a) spent;
        quiet = r.quiet mail into;
      } in
      record {
        es = now;
        mail = mail;
        stands = moved es mail state a r.new [] done (facts_onto a (appended_by a act) state.durable) (Some (record { left = out; site_then = site })) h (one-later a act state.done) r.own
            (group-names config r.new es done a before site r.names h.begun.named (record { left = out; site_then = site }) r.found r.old r.asked h.begun.once
            (known-before h.begun.named a before site life known) life refl) r.sound
            (r.added ∙ (ap (facts_onto a before.pending.facts) h.durable ∙ ap (λ (fs : List Fact). facts_onto a fs state.durable) (sym facts)))
            (right-later config state.done done (one-later a act state.done) r.new es [] mail a act right, done-later config state.done done (one-later a act state.done) r.new es [] mail state.done h.done) (mail-later config.cluster r.new es mail r.sound.legal h.mail_stands) tt r.logged (paid-for now a done 0 spent)
            (some-same (λ (p : Process). IsProcess config done now mail a p) (record { left = out; site_then = site })
            (record { live = live; stage = inr (inl stage) }));
      }
