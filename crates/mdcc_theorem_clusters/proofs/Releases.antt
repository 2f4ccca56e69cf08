-- What goes out of a centre once its group is in the ledger, and under which heads.
use Rattle.std.proofs.Common.{Bool, List, [], ap, arith, inl, inr, refl, subst, sym, true, ℕ, ◌&&◌, ◌++◌, ◌<◌, ◌^◌, ◌∙◌, ◌∷◌, ◌≡◌, ◌≤◌}
use Rattle.std.specs.List.{AllByRecursion}
use Rattle.std.specs.Prelude.{nat_eq, nat_le}
use Rattle.std.proofs.lemmas.Bool.{and_parts, eqb-true, le-leb}
use Rattle.mdcc_base.specs.AreQuorums.{AreQuorums}
use Rattle.mdcc_base.specs.declared.identifiers.TxId.{TxId}
use Rattle.mdcc_config.specs.declared.config.Config.{Config}
use Rattle.mdcc_frag.specs.Joining.{same_head}
use Rattle.mdcc_frag.specs.Reading.{is_endpoint}
use Rattle.mdcc_frag.specs.declared.datagrams.FragHead.{FragHead}
use Rattle.mdcc_def_ledger.specs.Ledger.{Entry, facts_of}
use Rattle.mdcc_def_messages.specs.WellFormed.{IsWellFormedEnvelope, IsWellFormedFact}
use Rattle.mdcc_def_messages.specs.declared.facts.Fact.{Fact}
use Rattle.mdcc_def_messages.specs.declared.messages.Envelope.{Envelope}
use Rattle.mdcc_option.specs.declared.choices.Choice.{Choice}
use Rattle.mdcc_def_protocol.specs.Belongs.{is_centre}
use Rattle.mdcc_def_protocol.specs.Facts.{epoch_of}
use Rattle.mdcc_def_protocol.specs.Volatile.{Volatile}
use Rattle.mdcc_def_rules.specs.declared.node.Input.{Input}
use Rattle.mdcc_theorem_server_runs.proofs.Epoch.{run_keeps}
use Rattle.mdcc_theorem_server_runs.proofs.Joined.{node_after_run}
use Rattle.mdcc_theorem_server_runs.proofs.Outgoing.{out_site}
use Rattle.mdcc_theorem_server_runs.specs.Brought.{HoldsBytes}
use Rattle.mdcc_theorem_server_runs.specs.Told.{IsEnvelopeOf}
use Rattle.mdcc_def_server_runs.specs.Acts.{Act}
use Rattle.mdcc_def_server_runs.specs.Clients.{begun_for}
use Rattle.mdcc_def_server_runs.specs.Runs.{NodeState, after_run, messages_sent, run_of_inputs}
use Rattle.mdcc_def_server_runs.specs.Sending
use Rattle.mdcc_def_server_runs.specs.Sending.{heard_printed, persist_then_send, persisted}
use Rattle.mdcc_def_server_runs.specs.Sites.{Site}
use Rattle.mdcc_theorem_encoding.proofs.Lengths.{length-message}
use Rattle.mdcc_theorem_node_steps.proofs.Sending.{centre-range}
use Rattle.mdcc_theorem_node_steps.specs.NodeInvariant.{HasRoom, IsNode}
use Rattle.mdcc_theorem_trace_states.specs.Invariant.{IsOf}
use Rattle.mdcc_theorem_trace_states.specs.Sound.{IsSound}
use Rattle.mdcc_theorem_trace_states.specs.Words.{Each, In}
use Rattle.mdcc_theorem_trace_states.proofs.Lists.{Each-append, Each-at, Each-like, In-append}
use Rattle.mdcc_theorem_trace_states.proofs.Walk.{bounds}
use Rattle.mdcc_theorem_commit_groups.proofs.Durable.{durable}
use Rattle.mdcc_theorem_clusters.proofs.Formed.{formed-run}
use Rattle.mdcc_theorem_clusters.proofs.Pending.{goes-out}
use Rattle.mdcc_theorem_clusters.proofs.Names.{IsFound, IsOldName, IsSameLife, names-made}
use Rattle.mdcc_theorem_clusters.proofs.Paid.{IsPaid, IsPaidFor, paid-group}
use Rattle.mdcc_theorem_clusters.proofs.Posted.{posts}
use Rattle.mdcc_theorem_clusters.proofs.Receiving.{IsLater, all-like}
use Rattle.mdcc_theorem_clusters.proofs.Standing.{HasCome, IsBefore, IsLive, IsLogged, IsQuiet, IsServed, MailStands, out_of, piece-later, steps_of}
use Rattle.mdcc_theorem_clusters.proofs.Weights.{group-few}
use Rattle.mdcc_theorem_clusters.specs.Answers.{IsOwedOnceDurable}
use Rattle.mdcc_theorem_clusters.specs.Asked.{IsAskedFor}
use Rattle.mdcc_theorem_clusters.specs.Executions.{Laws}
use Rattle.mdcc_theorem_commit_groups.specs.Groups.{IsHeardIn, IsSoundLedger, entries_made, facts_added_in, facts_onto, node_at}
use Rattle.mdcc_theorem_clusters.specs.Mail.{IsMail, IsPieceIn, Mail}
use Rattle.mdcc_theorem_clusters.specs.Pending.{IsToldTrue}
use Rattle.mdcc_theorem_clusters.specs.Posted.{IsPieceAct, IsPostedIn, posted}

all-at : {X : Type 0} (P : X → Type 0) (xs : List X) (x : X) → AllByRecursion P xs → In x xs → P x
all-at P [] x h i = absurd i
all-at P (y ∷ ys) x h i = elim i [ inl e ↦ subst P (sym e) h.0 | inr r ↦ all-at P ys x h.1 r ]

-- ---- what goes out is true

module _ (config : Config) (G : ℕ → List ℕ → Type 0) (now : List Entry) (mail : List Mail) (a : ℕ) where
  heards-quiet : (centre : ℕ) (heard : List (TxId × Bool)) → centre ≡ a → Each (IsHeardIn now a) heard → Each (IsQuiet config G now mail a) (heard_printed centre heard)
  heards-quiet centre [] s h = tt
  heards-quiet centre (x ∷ heard) s h = (record { right = (s, h.0); none = refl }, heards-quiet centre heard s h.1)

  act-quiet : (centre epoch low high : ℕ) (envelopes : List Envelope) (first : List Mail) → centre ≡ a → Each (IsPostedIn centre epoch low high envelopes) first → ((one : Mail) → In one first → In one mail)
      → AllByRecursion (IsToldTrue config G now a epoch) envelopes → (act : Act) → IsPieceAct first act → IsQuiet config G now mail a act
  act-quiet centre epoch low high envelopes first s heads into told (Act.Send from to bytes answer) p =
      let head = Each-at (IsPostedIn centre epoch low high envelopes) first p.one heads p.one_of in
      record {
        right = record {
          piece = record { one = p.one; one_of = into p.one p.one_of; index = p.index; within = p.within; is = p.is };
          sender = head.sender ∙ s;
          told = subst (λ (n : ℕ). IsToldTrue config G now a n p.one.1) (sym head.epoch_is) (all-at (IsToldTrue config G now a epoch) envelopes p.one.1 told head.one_of);
        };
        none = refl;
      }
  act-quiet centre epoch low high envelopes first s heads into told (Act.Bind at address) p = absurd p
  act-quiet centre epoch low high envelopes first s heads into told (Act.Receive at gave) p = absurd p
  act-quiet centre epoch low high envelopes first s heads into told (Act.Append other facts) p = absurd p
  act-quiet centre epoch low high envelopes first s heads into told (Act.Print line) p = absurd p
  act-quiet centre epoch low high envelopes first s heads into told Act.Stepped p = absurd p
  act-quiet centre epoch low high envelopes first s heads into told Act.Dropped p = absurd p
  act-quiet centre epoch low high envelopes first s heads into told Act.Unsent p = record { right = tt; none = refl }

  out-quiet : (before : Site) → before.centre ≡ a → ((one : Mail) → In one (posted config (persisted before) before.pending.envelopes) → In one mail)
      → AllByRecursion (IsToldTrue config G now a (epoch_of before.node.facts)) before.pending.envelopes → Each (IsHeardIn now a) before.pending.heard → Each (IsQuiet config G now mail a) (out_of config before)
  out-quiet before s into told heard =
      let p = posts config (persisted before) before.pending.envelopes in
      let acts = (Sending.envelopes_sent config (persisted before) before.pending.envelopes).acts in
      let first = posted config (persisted before) before.pending.envelopes in
      Each-append (IsQuiet config G now mail a) acts (heard_printed before.centre before.pending.heard)
      (Each-like (IsPieceAct first) (IsQuiet config G now mail a) acts (λ act q. act-quiet before.centre (epoch_of before.node.facts) _ _ before.pending.envelopes first s p.heads into told act q) p.acts)
      (heards-quiet before.centre before.pending.heard s heard)

-- ---- a group becomes durable

-- what the ledger is then, and the centre with nothing pending
pub record Released (config : Config) (G : ℕ → List ℕ → Type 0) (es : List Entry) (a : ℕ) (before : Site) (count : ℕ) : Type 0 where
  pub new : List Entry
  pub own : Each (IsOf a) new
  pub sound : IsSoundLedger IsSound config.cluster (new ++ es)
  pub names : List (TxId × ℕ)
  pub found : Each (IsFound a before) names
  pub old : Each (IsOldName (new ++ es)) names
  pub asked : (b : ℕ) (tx : TxId) (choices : List Choice) → In (Entry.Begun b tx choices) new → IsAskedFor config G names b tx choices
  pub added : facts_added_in (new ++ es) ≡ facts_onto a before.pending.facts (facts_added_in es)
  pub logged : IsLogged config.cluster (facts_of (new ++ es) a)
  pub after : Volatile
  pub paid : (old done : List (ℕ × Act)) → ((b : ℕ) → IsPaidFor es b old) → IsLater old done → IsPaid es a old done count → IsPaid (new ++ es) a done done 0
  pub served : IsServed config G (new ++ es) a after [] (persist_then_send config before).site
  pub quiet : (mail : List Mail) → ((one : Mail) → In one (posted config (persisted before) before.pending.envelopes) → In one mail) → Each (IsQuiet config G (new ++ es) mail a) (out_of config before)

old-at : (es : List Entry) (a : ℕ) (site : Site) (name : TxId × ℕ) → IsFound a site name → epoch_of (facts_of es a) ≡ epoch_of site.node.facts → IsOldName es name
old-at es a site name f life =
    let same : name.0.epoch ≡ epoch_of (facts_of es a) = f.epoch ∙ sym life in
    subst (λ (z : ℕ). name.0.epoch ≤ epoch_of (facts_of es z)) (sym f.centre) (omega (arith, same))

module _ (laws : Laws) (config : Config) (G : ℕ → List ℕ → Type 0) (es : List Entry) (a : ℕ) (volatile : Volatile) (inputs : List Input) (before : Site) (served : IsServed config G es a volatile inputs before) (room : HasRoom before.node.facts) where
  abbrev node : NodeState
  node = node_at es a volatile

  abbrev end : NodeState
  end = after_run config.cluster a node inputs

  pub released : Released config G es a before (steps_of config.cluster es a volatile inputs)
  released =
      let made = run_of_inputs config.cluster a node inputs in
      let d = durable IsSound laws.good config.cluster es a volatile inputs served.group in
      let g = goes-out IsSound laws.good config G es a volatile inputs before served.group served.pends served.answers in
      let f = formed-run laws.steps config.cluster a node inputs served.node served.formed (subst (λ (n : NodeState). HasRoom n.facts) served.pends.node_is room) in
      let named = names-made config G a before (entries_made a made) served.answers.made_for in
      let few = group-few laws.good config.cluster es a volatile inputs served.group served.opened in
      let now : List Entry = entries_made a made ++ es in
      let facts : facts_of now a ≡ end.facts = d.facts in
      let life : epoch_of (facts_of now a) ≡ epoch_of before.node.facts = ap epoch_of (facts ∙ sym (ap (λ (n : NodeState). n.facts) served.pends.node_is)) in
      record {
        new = entries_made a made;
        own = d.own;
        sound = record { sizes = d.up.sizes; legal = d.up.legal; placed = d.up.placed; more = d.up.more };
        names = named.names;
        found = named.found;
        old = Each-like (IsFound a before) (IsOldName now) named.names (λ name f. old-at now a before name f life) named.found;
        asked = named.each;
        added = d.added ∙ ap (λ (fs : List Fact). facts_onto a fs (facts_added_in es)) (sym served.pends.facts_are);
        logged = subst (IsLogged config.cluster) (sym facts) (record { allowed = f.stays.facts_themselves.allowed; formed = f.stays.facts_themselves.well_formed });
        after = end.volatile;
        paid = λ old done all later p. paid-group es a old done all later.total later.steps (steps_of config.cluster es a volatile inputs) p made end.volatile few refl d.own;
        served = record {
          group = record { up = d.up; fair = tt };
          pends = g.next;
          answers = g.answers;
          node = subst (λ (fs : List Fact). IsNode config.cluster a fs end.volatile) (sym facts) f.stays;
          formed = tt;
          opened = few.opened;
        };
        quiet = λ mail into. out-quiet config G now mail a before served.pends.centre_is into
            (subst (λ (n : ℕ). AllByRecursion (IsToldTrue config G now a n) before.pending.envelopes) life g.mail) g.heard;
      }

  -- the same clients and epoch after what is pending went out
  pub same-life : IsSameLife before (persist_then_send config before).site
  same-life =
      let out = out_site config before in
      record { clients = λ serial. ap (λ (s : Site). begun_for s.clients serial) out; epoch = ap (λ (s : Site). epoch_of s.node.facts) out }

  -- ---- heads

  heads-same : (one other : FragHead) → same_head one other ≡ true → (one.sender ≡ other.sender) × (one.epoch ≡ other.epoch) × (one.serial ≡ other.serial)
  heads-same one other same =
      let first = and_parts (nat_eq one.sender other.sender) (nat_eq one.epoch other.epoch && nat_eq one.serial other.serial) same in
      let rest = and_parts (nat_eq one.epoch other.epoch) (nat_eq one.serial other.serial) first.1 in
      (eqb-true one.sender other.sender first.0, eqb-true one.epoch other.epoch rest.0, eqb-true one.serial other.serial rest.1)

  epoch-small : (facts : List Fact) → AllByRecursion IsWellFormedFact facts → epoch_of facts < 2 ^ 32
  epoch-small [] h = omega arith
  epoch-small (Fact.Booted n ∷ facts) h = let w = h.0 in omega (arith, w.0, w.1)
  epoch-small (Fact.Promised k lo hi m ∷ facts) h = epoch-small facts h.1
  epoch-small (Fact.Voted k v m os off ∷ facts) h = epoch-small facts h.1
  epoch-small (Fact.Heard t o ∷ facts) h = epoch-small facts h.1
  epoch-small (Fact.Adopted k v it ds ∷ facts) h = epoch-small facts h.1
  epoch-small (Fact.Floor origin era upto ∷ facts) h = epoch-small facts h.1

  endpoint : AreQuorums config.cluster.quorums → is_centre config.cluster a ≡ true → is_endpoint a ≡ true
  endpoint sizes here =
      let b = bounds config.cluster a here in
      let most = sizes.nine_centres in
      let low : nat_le 1 a ≡ true = le-leb 1 a b.0 in
      let high : nat_le a 9 ≡ true = le-leb a 9 (omega (arith, b.1, most)) in
      rw low (rw high refl)

  abbrev more : List Mail
  more = posted config (persisted before) before.pending.envelopes

  abbrev last : ℕ
  last = (persist_then_send config before).site.sent

  -- the pending ones that are no answers are well-formed
  formed-owed : (sends : List Envelope) (m : Envelope) → Each IsWellFormedEnvelope sends → IsEnvelopeOf sends m → IsWellFormedEnvelope m
  formed-owed [] m h is = absurd is
  formed-owed (x ∷ sends) m h is = elim is [ inl e ↦ subst IsWellFormedEnvelope (sym e) h.0 | inr r ↦ formed-owed sends m h.1 r ]

  formed-told : AreQuorums config.cluster.quorums → is_centre config.cluster a ≡ true → (m : Envelope) → IsOwedOnceDurable config G es a (run_of_inputs config.cluster a node inputs) before.node.facts m → IsWellFormedEnvelope m
  formed-told sizes here m owed =
      let f = formed-run laws.steps config.cluster a node inputs served.node served.formed (subst (λ (n : NodeState). HasRoom n.facts) served.pends.node_is room) in
      let range = centre-range config.cluster a sizes here in
      let low = range.0 in
      let high = range.1 in
      elim owed [
        | inl is ↦ formed-owed (messages_sent (run_of_inputs config.cluster a node inputs)) m f.sends is
        | inr answer ↦ subst IsWellFormedEnvelope (sym answer.is) (record { from = inl range; to = inr (omega (arith, low), omega (arith, high)); message = answer.formed })
      ]

  epoch-durable : epoch_of before.node.facts ≡ epoch_of (facts_of es a)
  epoch-durable =
      ap (λ (n : NodeState). epoch_of n.facts) (served.pends.node_is ∙ sym (node_after_run config.cluster a node inputs)) ∙ run_keeps config.cluster a node inputs

  facts-formed : AllByRecursion IsWellFormedFact before.node.facts
  facts-formed =
      let f = formed-run laws.steps config.cluster a node inputs served.node served.formed (subst (λ (n : NodeState). HasRoom n.facts) served.pends.node_is room) in
      subst (λ (n : NodeState). AllByRecursion IsWellFormedFact n.facts) (sym served.pends.node_is) f.stays.facts_themselves.well_formed

  is-mail : AreQuorums config.cluster.quorums → is_centre config.cluster a ≡ true → last < 2 ^ 32 → (one : Mail) → IsPostedIn before.centre (epoch_of before.node.facts) before.sent last before.pending.envelopes one → IsMail one
  is-mail sizes here small one h =
      let sender : one.0.sender ≡ a = h.sender ∙ served.pends.centre_is in
      let within = h.within in
      let epoch = epoch-small before.node.facts facts-formed in
      let e = h.epoch_is in
      let long = length-message one.1 in
      let short = h.short in
      record {
        head = record {
          sender = subst (λ (n : ℕ). is_endpoint n ≡ true) (sym sender) (endpoint sizes here);
          epoch = omega (arith, epoch, e);
          serial = omega (arith, within, small);
        };
        short = omega (arith, long, short);
        formed = formed-told sizes here one.1
            (all-at (IsOwedOnceDurable config G es a (run_of_inputs config.cluster a node inputs) before.node.facts) before.pending.envelopes one.1 served.answers.mail h.one_of);
      }

  apart : (mail : List Mail) (one other : Mail) → Each (IsBefore a (epoch_of before.node.facts) before.sent) mail → In other mail
      → IsPostedIn before.centre (epoch_of before.node.facts) before.sent last before.pending.envelopes one → (one.0.sender ≡ other.0.sender) × (one.0.epoch ≡ other.0.epoch) × (one.0.serial ≡ other.0.serial) → ⊥
  apart mail one other serials i h s =
      let low = Each-at (IsBefore a (epoch_of before.node.facts) before.sent) mail other serials i (sym s.0 ∙ (h.sender ∙ served.pends.centre_is)) (sym s.1 ∙ h.epoch_is) in
      let high = h.above in
      let same = s.2 in
      omega (arith, low, high, same)

  posted-heads : Each (IsPostedIn before.centre (epoch_of before.node.facts) before.sent last before.pending.envelopes) more
  posted-heads = (posts config (persisted before) before.pending.envelopes).heads

  pub mail-posted : (mail : List Mail) → AreQuorums config.cluster.quorums → IsLive config G mail a before → MailStands es mail → last < 2 ^ 32 → MailStands es (more ++ mail)
  mail-posted mail sizes live stands small = record {
    are = record {
      each = Each-append IsMail more mail (Each-like (IsPostedIn before.centre (epoch_of before.node.facts) before.sent last before.pending.envelopes) IsMail more (λ one h. is-mail sizes live.centre small one h) posted-heads) stands.are.each;
      once = λ one other i j same.
          let heads = heads-same one.0 other.0 same in
          elim (In-append one more mail i) [
            | inl k ↦ elim (In-append other more mail j) [
              | inl l ↦ (posts config (persisted before) before.pending.envelopes).once one other k l same
              | inr l ↦ absurd (apart mail one other live.serials l (Each-at _ more one posted-heads k) heads)
            ]
            | inr k ↦ elim (In-append other more mail j) [
              | inl l ↦ absurd (apart mail other one live.serials k (Each-at _ more other posted-heads l) (sym heads.0, sym heads.1, sym heads.2))
              | inr l ↦ stands.are.once one other k l same
            ]
          ];
    };
    come = Each-append (HasCome es) more mail
        (Each-like (IsPostedIn before.centre (epoch_of before.node.facts) before.sent last before.pending.envelopes) (HasCome es) more
        (λ one h. let e : one.0.epoch ≡ epoch_of (facts_of es a) = h.epoch_is ∙ epoch-durable in
        subst (λ (n : ℕ). one.0.epoch ≤ epoch_of (facts_of es n)) (sym (h.sender ∙ served.pends.centre_is)) (omega (arith, e))) posted-heads) stands.come;
  }

  pub senders-posted : Each (λ (one : Mail). one.0.sender ≡ a) more
  senders-posted = Each-like (IsPostedIn before.centre (epoch_of before.node.facts) before.sent last before.pending.envelopes) (λ (one : Mail). one.0.sender ≡ a) more (λ one h. h.sender ∙ served.pends.centre_is) posted-heads

  pub live-posted : (mail : List Mail) → IsLive config G mail a before → IsLive config G (more ++ mail) a (persist_then_send config before).site
  live-posted mail live =
      let out = out_site config before in
      let counts = (posts config (persisted before) before.pending.envelopes).counts in
      let epoch : epoch_of (persist_then_send config before).site.node.facts ≡ epoch_of before.node.facts = ap (λ (s : Site). epoch_of s.node.facts) out in
      record {
        centre = live.centre;
        came = live.came;
        own_is = ap (λ (s : Site). s.own) out ∙ live.own_is;
        pieces = all-like (IsPieceIn mail) (IsPieceIn (more ++ mail)) live.came (λ bytes p. piece-later more mail bytes p) live.pieces;
        held = subst (λ (s : Site). HoldsBytes s.own) (sym out) live.held;
        asked = subst (λ (s : Site). HoldsBytes s.asked) (sym out) live.asked;
        came_asked = live.came_asked;
        asked_is = ap (λ (s : Site). s.asked) out ∙ live.asked_is;
        asked_given = live.asked_given;
        serials = Each-append (IsBefore a (epoch_of (persist_then_send config before).site.node.facts) last) more mail
            (Each-like (IsPostedIn before.centre (epoch_of before.node.facts) before.sent last before.pending.envelopes) (IsBefore a (epoch_of (persist_then_send config before).site.node.facts) last) more (λ one h. λ s e. h.within) posted-heads)
            (Each-like (IsBefore a (epoch_of before.node.facts) before.sent) (IsBefore a (epoch_of (persist_then_send config before).site.node.facts) last) mail
            (λ one h. λ s e. let low = h s (e ∙ epoch) in omega (arith, low, counts)) live.serials);
      }
