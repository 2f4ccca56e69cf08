-- What a turn of a centre leaves.
use Rattle.std.proofs.Common.{Bool, Err, List, None, Ok, Option, Result, Some, [], ap, append-nil, arith, cond, false, inl, inr, length, refl, subst, sym, true, ℕ, ◌+◌, ◌++◌, ◌<◌, ◌==◌, ◌∙◌, ◌∷◌, ◌≡◌}
use Rattle.std.specs.Prelude.{flat_map, suc, take, zero}
use Rattle.std.proofs.lemmas.Bool.{cases_Bool, eq-eqb, eqb-true}
use Rattle.std.specs.List.{AllByRecursion}
use Rattle.mdcc_theorem_clusters.specs.Asked.{WasReceived}
use Rattle.mdcc_config.specs.declared.config.Config.{Config}
use Rattle.mdcc_frag.specs.Joining
use Rattle.mdcc_theorem_datagrams.specs.Laws.{table_after}
use Rattle.mdcc_def_ledger.specs.Ledger.{Entry, facts_of}
use Rattle.mdcc_def_messages.specs.declared.facts.Fact.{Fact}
use Rattle.mdcc_def_messages.specs.declared.messages.Envelope.{Envelope}
use Rattle.mdcc_def_protocol.specs.Facts.{epoch_of}
use Rattle.mdcc_def_protocol.specs.Volatile.{Volatile}
use Rattle.mdcc_def_rules.specs.Boot.{next_boot}
use Rattle.mdcc_def_rules.specs.declared.node.Input.{Input}
use Rattle.mdcc_theorem_server_runs.proofs.Came.{all_joined, table_bytes}
use Rattle.mdcc_theorem_server_runs.proofs.Epoch.{run_keeps}
use Rattle.mdcc_theorem_server_runs.proofs.Outgoing.{out_site}
use Rattle.mdcc_theorem_server_runs.proofs.Tables.{turn_holds}
use Rattle.mdcc_theorem_server_runs.proofs.Turned.{inputs_run}
use Rattle.mdcc_theorem_server_runs.specs.Brought.{HoldsBytes}
use Rattle.mdcc_theorem_server_runs.specs.Inputs.{turn_inputs}
use Rattle.mdcc_theorem_server_runs.specs.Told.{line_by, send_by, steps_made}
use Rattle.mdcc_def_rules.specs.Steps.{NodeStep}
use Rattle.mdcc_def_rules.specs.declared.node.StepFault.{StepFault}
use Rattle.mdcc_theorem_server_runs.proofs.Joined.{node_after_run, run_joined}
use Rattle.mdcc_def_server_runs.specs.Acts.{Act, appended_by, steps_in}
use Rattle.mdcc_def_server_runs.specs.Runs.{NodeState, listed, run_of_inputs}
use Rattle.mdcc_def_server_runs.specs.Sending.{facts_logged, persist_then_send, persisted}
use Rattle.mdcc_def_server_runs.specs.Servers.{boot_line, endpoints_of, site_of}
use Rattle.mdcc_def_server_runs.specs.Sites.{Site, after_acts, idle_site}
use Rattle.mdcc_def_server_runs.specs.Turns.{Given, asked_received, is_held, own_received, ticked, turn_inputs_taken, turn_of}
use Rattle.mdcc_theorem_node_steps.specs.Inputs.{IsWellFormedInput}
use Rattle.mdcc_theorem_trace_states.specs.Steps.{IsFair}
use Rattle.mdcc_theorem_trace_states.specs.Words.{Each, In}
use Rattle.mdcc_theorem_trace_states.proofs.Lists.{Each-append, Each-like}
use Rattle.mdcc_theorem_clusters.proofs.Answering.{turn-answers}
use Rattle.mdcc_theorem_clusters.proofs.Inputs.{IsFine, pieces-came, requests-come, turn-fine}
use Rattle.mdcc_theorem_clusters.proofs.Moves.{Goes, In-before, dropped, mail-later, moved, room-before, some-same}
use Rattle.mdcc_theorem_clusters.proofs.Pending.{turn-pends}
use Rattle.mdcc_theorem_clusters.proofs.Clients.{turn-kept}
use Rattle.mdcc_theorem_clusters.proofs.Names.{AreKnown, group-names, known-after, no-names}
use Rattle.mdcc_theorem_clusters.proofs.Paid.{IsPaid, paid-for, paid-later, paid-more}
use Rattle.mdcc_theorem_clusters.proofs.Receiving.{ReceivedBy, acts_onto, onto-done, onto-first, onto-one, onto-steps, same-later}
use Rattle.mdcc_theorem_clusters.proofs.Releases.{live-posted, mail-posted, released, same-life, senders-posted}
use Rattle.mdcc_theorem_clusters.proofs.Standing.{IsBefore, IsClosing, IsLive, IsOpen, IsProcess, IsQuiet, IsServed, Stands, In-after, done-later, live-later, log_with, out_of, quiet-later, served-later, steps_of}
use Rattle.mdcc_theorem_clusters.specs.Clusters.{Deployment, Process, process_of, after_turn_at, cut_turn, process_turned, with_few, with_process}
use Rattle.mdcc_theorem_clusters.specs.Executions.{AreWithinLimits, MayDeliver, IsWithinLimits, Laws}
use Rattle.mdcc_theorem_commit_groups.specs.Groups.{facts_added_in, facts_onto, node_at}
use Rattle.mdcc_theorem_clusters.specs.Mail.{IsPieceIn, Mail}
use Rattle.mdcc_theorem_clusters.specs.Posted.{posted}

-- ---- acts that are seen by nobody

nil-parts : {X : Type 0} (xs ys : List X) → xs ++ ys ≡ [] → (xs ≡ []) × (ys ≡ [])
nil-parts [] ys e = (refl, e)
nil-parts (x ∷ xs) ys e = absurd (cc)

module _ (config : Config) (G : ℕ → List ℕ → Type 0) (es : List Entry) (mail : List Mail) (a : ℕ) where
  inward-one : (act : Act) → appended_by a act ≡ [] → line_by act ≡ [] → send_by act ≡ [] → IsQuiet config G es mail a act
  inward-one (Act.Send from to bytes answer) f l s = absurd (cc)
  inward-one (Act.Print line) f l s = absurd (cc)
  inward-one (Act.Bind at address) f l s = record { right = tt; none = f }
  inward-one (Act.Receive at gave) f l s = record { right = tt; none = f }
  inward-one (Act.Append centre facts) f l s = record { right = tt; none = f }
  inward-one Act.Stepped f l s = record { right = tt; none = f }
  inward-one Act.Dropped f l s = record { right = tt; none = f }
  inward-one Act.Unsent f l s = absurd (cc)

  inward-quiet : (acts : List Act) → flat_map (appended_by a) acts ≡ [] → flat_map line_by acts ≡ [] → flat_map send_by acts ≡ [] → Each (IsQuiet config G es mail a) acts
  inward-quiet [] f l s = tt
  inward-quiet (act ∷ acts) f l s =
      let fs = nil-parts (appended_by a act) (flat_map (appended_by a) acts) f in
      let ls = nil-parts (line_by act) (flat_map line_by acts) l in
      let ss = nil-parts (send_by act) (flat_map send_by acts) s in
      (inward-one act fs.0 ls.0 ss.0, inward-quiet acts fs.1 ls.1 ss.1)

table-more : (xs ys : List (List ℕ)) (table : List Joining.JoinEntry) → table_after (xs ++ ys) table ≡ table_after ys (table_after xs table)
table-more [] ys table = refl
table-more (x ∷ xs) ys table = table-more xs ys (Joining.join x table).entries

made-long : (xs ys : List (Result NodeStep StepFault)) → length (steps_made (xs ++ ys)) ≡ length (steps_made xs) + length (steps_made ys)
made-long [] ys = omega arith
made-long (Ok step ∷ xs) ys = let h = made-long xs ys in omega (arith, h)
made-long (Err fault ∷ xs) ys = made-long xs ys

-- ---- what a turn receives

own-centre : (config : Config) (site : Site) (gave : Option (List ℕ)) → (own_received config site gave).site.centre ≡ site.centre
own-centre config site None = refl
own-centre config site (Some bytes) = (inputs_run config site (record { own = Some bytes; asked = None; waits = false })).centre_is

-- it is one of its acts
asked-act : (config : Config) (site : Site) (given : Given) → In (Act.Receive (site.centre + 16) given.asked) (turn_inputs_taken config site given).acts
asked-act config site given =
    let own = own_received config site given.own in
    let asked = asked_received config own.site given.asked in
    let one : Act = Act.Receive (site.centre + 16) given.asked in
    let same : one ≡ Act.Receive (own.site.centre + 16) given.asked = ap (λ (z : ℕ). Act.Receive (z + 16) given.asked) (sym (own-centre config site given.own)) in
    In-before one (own.acts ++ asked.acts) (ticked config given asked.site).acts (In-after one own.acts asked.acts (inl same))

module _ (config : Config) (a : ℕ) (done : List (ℕ × Act)) (site : Site) (given : Given) (left : List Act) (are : (act : Act) → In act (turn_inputs_taken config site given).acts → In act left) (here : site.centre ≡ a) where
  gave-known : (gave : Option (List ℕ)) → given.asked ≡ gave → AllByRecursion (ReceivedBy a left done a) (listed gave)
  gave-known None e = tt
  gave-known (Some bytes) e =
      let act : Act.Receive (site.centre + 16) given.asked ≡ Act.Receive (a + 16) (Some bytes) =
      ap (λ (z : ℕ). Act.Receive (z + 16) given.asked) here ∙ ap (λ (g : Option (List ℕ)). Act.Receive (a + 16) g) e in
      (onto-one a left done bytes (are (Act.Receive (a + 16) (Some bytes)) (subst (λ (z : Act). In z (turn_inputs_taken config site given).acts) act (asked-act config site given))), tt)

  pub asked-known : AllByRecursion (ReceivedBy a left done a) (listed given.asked)
  asked-known = gave-known given.asked refl

-- ---- what is pending goes out

module _ (laws : Laws) (config : Config) (state : Deployment) (a : ℕ) (es : List Entry) (mail : List Mail) (h : Stands config es mail state) where
  module _ (volatile : Volatile) (inputs : List Input) (before : Site) where
    abbrev after : Site
    after = (persist_then_send config before).site

    abbrev more : List Mail
    more = posted config (persisted before) before.pending.envelopes

    -- at once, where it has no facts and nothing is to be done before it
    closes-now : AreKnown h.begun.named a before → IsServed config (WasReceived state.done) es a volatile inputs before → IsPaid es a state.done state.done (steps_of config.cluster es a volatile inputs) → IsLive config (WasReceived state.done) mail a before → IsWithinLimits (record { left = []; site_then = after })
        → before.pending.facts ≡ [] → Goes config (with_process state a (Some (record { left = out_of config before; site_then = after })))
    closes-now knows served paid live within e =
        let G : ℕ → List ℕ → Type 0 = WasReceived state.done in
        let out : List Act = out_of config before in
        let H : ℕ → List ℕ → Type 0 = ReceivedBy a out state.done in
        let later = onto-done a out state.done in
        let room = room-before config before after refl within.room in
        let r = released laws config G es a volatile inputs before served room in
        let now : List Entry = r.new ++ es in
        let spent = r.paid state.done state.done h.paid (same-later state.done) paid in
        let p : Process = record { left = out; site_then = after } in
        let stage : IsOpen config state.done now (more ++ mail) a p = record {
          volatile = r.after;
          inputs = [];
          served = served-later config G H now a r.after [] after (λ bytes k. later.received a bytes k) r.served;
          paid = paid-later now a state.done state.done state.done (acts_onto a out state.done) 0 (omega arith) (later.steps a) spent;
          quiet = r.quiet (more ++ mail) (λ one i. In-before one more mail i);
        } in
        record {
          es = now;
          mail = more ++ mail;
          stands = moved config es mail state a r.new more state.done state.durable (Some p) h (same-later state.done) r.own
              (group-names config r.new es state.done a before after r.names h.begun.named p r.found r.old r.asked h.begun.once knows (same-life laws config G es a volatile inputs before served room) refl) r.sound
              (r.added ∙ (ap (λ (fs : List Fact). facts_onto a fs (facts_added_in es)) e ∙ h.durable)) (done-later config state.done state.done (same-later state.done) r.new es more mail state.done h.done)
              (mail-later config.cluster r.new es (more ++ mail) r.sound.legal (mail-posted laws config G es a volatile inputs before served room mail h.sound.sizes live h.mail_stands within.serials))
              (senders-posted laws config G es a volatile inputs before served room) r.logged (paid-for now a state.done 0 spent)
              (some-same (λ (q : Process). IsProcess config state.done now (more ++ mail) a q) p (record {
                live = live-later config G H (more ++ mail) a after (λ bytes k. later.received a bytes k) (live-posted laws config G es a volatile inputs before served room mail live);
                stage = inr (inl stage);
              }));
        }

    -- once these acts are done and its facts are durable
    closes-later : (first : List Act) → AreKnown h.begun.named a before → IsServed config (ReceivedBy a first state.done) es a volatile inputs before → IsPaid es a state.done (acts_onto a first state.done) (steps_of config.cluster es a volatile inputs) → IsLive config (ReceivedBy a first state.done) mail a before
        → IsWithinLimits (record { left = []; site_then = after }) → Each (IsQuiet config (WasReceived state.done) es mail a) first → 0 < length first + length before.pending.facts
        → Goes config (with_process state a (Some (record { left = first ++ (facts_logged before.centre before.pending.facts ++ out_of config before); site_then = after })))
    closes-later first knows served paid live within quiet some =
        let G : ℕ → List ℕ → Type 0 = ReceivedBy a first state.done in
        let tail : List Act = facts_logged before.centre before.pending.facts ++ out_of config before in
        let H : ℕ → List ℕ → Type 0 = ReceivedBy a (first ++ tail) state.done in
        let later = onto-first a first tail state.done in
        let room = room-before config before after refl within.room in
        let p : Process = record { left = first ++ tail; site_then = after } in
        let stage : IsClosing config state.done es (more ++ mail) a p = record {
          volatile = volatile;
          inputs = inputs;
          before = before;
          first = first;
          served = served;
          paid = paid;
          acts_are = ap (λ (c : ℕ). first ++ (facts_logged c before.pending.facts ++ out_of config before)) served.pends.centre_is;
          some = some;
          inward = quiet-later config state.done state.done (same-later state.done) [] es more mail a first quiet;
          site_is = refl;
          posted_in = λ one i. In-before one more mail i;
        } in
        record {
          es = es;
          mail = more ++ mail;
          stands = moved config es mail state a [] more state.done state.durable (Some p) h (same-later state.done) tt
              (no-names config [] es state.done a h.begun.named (Some p) (λ b t c i. absurd i) h.begun.once
              (some-same (λ (q : Process). AreKnown h.begun.named a q.site_then) p (known-after h.begun.named a before after (same-life laws config G es a volatile inputs before served room) knows))) h.sound h.durable (done-later config state.done state.done (same-later state.done) [] es more mail state.done h.done)
              (mail-posted laws config G es a volatile inputs before served room mail h.sound.sizes live h.mail_stands within.serials)
              (senders-posted laws config G es a volatile inputs before served room) (h.logs a) (h.paid a)
              (some-same (λ (q : Process). IsProcess config state.done es (more ++ mail) a q) p (record {
                live = live-later config G H (more ++ mail) a after (λ bytes k. later.received a bytes k) (live-posted laws config G es a volatile inputs before served room mail live);
                stage = inr (inr stage);
              }));
        }

    closes-by : (first : List Act) (facts : List Fact) → before.pending.facts ≡ facts → AreKnown h.begun.named a before → IsServed config (ReceivedBy a first state.done) es a volatile inputs before → IsPaid es a state.done (acts_onto a first state.done) (steps_of config.cluster es a volatile inputs)
        → IsLive config (ReceivedBy a first state.done) mail a before → IsWithinLimits (record { left = []; site_then = after }) → Each (IsQuiet config (WasReceived state.done) es mail a) first
        → Goes config (with_process state a (Some (record { left = first ++ (facts_logged before.centre before.pending.facts ++ out_of config before); site_then = after })))
    closes-by [] [] f knows served paid live within quiet =
        subst (λ (fs : List Fact). Goes config (with_process state a (Some (record { left = facts_logged before.centre fs ++ out_of config before; site_then = after })))) (sym f) (closes-now knows served paid live within f)
    closes-by [] (fact ∷ facts) f knows served paid live within quiet = closes-later [] knows served paid live within quiet (subst (λ (fs : List Fact). 0 < 0 + length fs) (sym f) (omega arith))
    closes-by (x ∷ first) facts f knows served paid live within quiet = closes-later (x ∷ first) knows served paid live within quiet (omega arith)

    closes : (first : List Act) → AreKnown h.begun.named a before → IsServed config (ReceivedBy a first state.done) es a volatile inputs before → IsPaid es a state.done (acts_onto a first state.done) (steps_of config.cluster es a volatile inputs) → IsLive config (ReceivedBy a first state.done) mail a before
        → IsWithinLimits (record { left = first ++ (persist_then_send config before).acts; site_then = after }) → Each (IsQuiet config (WasReceived state.done) es mail a) first
        → Goes config (with_process state a (Some (record { left = first ++ (persist_then_send config before).acts; site_then = after })))
    closes first knows served paid live within quiet = closes-by first before.pending.facts refl knows served paid live (record { serials = within.serials; room = within.room }) quiet

  -- ---- a turn

  same-own : (site : Site) (held : Bool) → (cond held (idle_site site) (persist_then_send config site)).site.own ≡ site.own
  same-own site true = refl
  same-own site false = ap (λ (s : Site). s.own) (out_site config site)

  same-asked : (site : Site) (held : Bool) → (cond held (idle_site site) (persist_then_send config site)).site.asked ≡ site.asked
  same-asked site true = refl
  same-asked site false = ap (λ (s : Site). s.asked) (out_site config site)

  live-taken : (G : ℕ → List ℕ → Type 0) (site : Site) (given : Given) → IsLive config G mail a site → MayDeliver state.done given → AllByRecursion (G a) (listed given.asked) → IsLive config G mail a (turn_inputs_taken config site given).site
  live-taken G site given live came known =
      let next : Site = (turn_inputs_taken config site given).site in
      let tables = turn_holds config site given in
      let leaves = inputs_run config site given in
      let held : Bool = is_held given (turn_inputs_taken config site given) in
      let own : next.own ≡ table_after (listed given.own) site.own = sym (same-own next held) ∙ tables.own_is in
      let asked : next.asked ≡ table_after (listed given.asked) site.asked = sym (same-asked next held) ∙ tables.asked_is in
      let sent : next.sent ≡ site.sent = leaves.sent_is in
      let epoch : epoch_of next.node.facts ≡ epoch_of site.node.facts =
      ap (λ (n : NodeState). epoch_of n.facts) leaves.node_is ∙ run_keeps config.cluster site.centre site.node (turn_inputs config site given) in
      record {
        centre = live.centre;
        came = live.came ++ listed given.own;
        own_is = sym (same-own next held) ∙ (tables.own_is ∙ (ap (table_after (listed given.own)) live.own_is ∙ sym (table-more live.came (listed given.own) [])));
        pieces = all_joined (IsPieceIn mail) live.came (listed given.own) live.pieces (pieces-came config G es mail state.done given.own h.done came.own);
        held = subst HoldsBytes (sym own) (table_bytes site.own given.own came.own_bytes live.held);
        asked = subst HoldsBytes (sym asked) (table_bytes site.asked given.asked came.asked_bytes live.asked);
        came_asked = live.came_asked ++ listed given.asked;
        asked_is = asked ∙ (ap (table_after (listed given.asked)) live.asked_is ∙ sym (table-more live.came_asked (listed given.asked) []));
        asked_given = all_joined (G a) live.came_asked (listed given.asked) live.asked_given known;
        serials = Each-like (IsBefore a (epoch_of site.node.facts) site.sent) (IsBefore a (epoch_of next.node.facts) next.sent) mail
            (λ one b. λ s e. let low = b s (e ∙ epoch) in omega (arith, low, sent)) live.serials;
      }

  served-taken : (G : ℕ → List ℕ → Type 0) (volatile : Volatile) (inputs : List Input) (site : Site) (given : Given) → IsServed config G es a volatile inputs site → IsLive config G mail a site → MayDeliver state.done given → AllByRecursion (G a) (listed given.asked)
      → IsServed config G es a volatile (inputs ++ turn_inputs config site given) (turn_inputs_taken config site given).site
  served-taken G volatile inputs site given served live came known =
      let more : List Input = turn_inputs config site given in
      let fine = turn-fine laws config G es mail state.done a site given live h.mail_stands h.done came in
      record {
        group = record {
          up = served.group.up;
          fair = Each-append (IsFair config.cluster es) inputs more served.group.fair (Each-like (IsFine config.cluster es) (IsFair config.cluster es) more (λ input f. f.fair) fine);
        };
        pends = turn-pends config es a volatile inputs site given served.pends;
        answers = turn-answers laws.steps laws.others config G es a (node_at es a volatile) inputs site given (requests-come config G mail a site given live came.asked_bytes known)
            (Each-like (IsFine config.cluster es) IsWellFormedInput more (λ input f. f.formed) fine) served.answers;
        node = served.node;
        opened = served.opened;
        formed = Each-append IsWellFormedInput inputs more served.formed (Each-like (IsFine config.cluster es) IsWellFormedInput more (λ input f. f.formed) fine);
      }

  taken-quiet : (site : Site) (given : Given) → Each (IsQuiet config (WasReceived state.done) es mail a) (turn_inputs_taken config site given).acts
  taken-quiet site given =
      let inward = (inputs_run config site given).inward in
      inward-quiet config (WasReceived state.done) es mail a (turn_inputs_taken config site given).acts (inward.facts_are a) inward.lines_are inward.sends_are

  -- the steps of its inputs are among the acts of a turn
  turn-steps : (volatile : Volatile) (inputs : List Input) (site : Site) (given : Given) → IsServed config (WasReceived state.done) es a volatile inputs site
      → steps_of config.cluster es a volatile (inputs ++ turn_inputs config site given) ≡ steps_of config.cluster es a volatile inputs + steps_in (turn_inputs_taken config site given).acts
  turn-steps volatile inputs site given served =
      let node : NodeState = node_at es a volatile in
      let first = run_of_inputs config.cluster a node inputs in
      let more : List Input = turn_inputs config site given in
      let joined : run_of_inputs config.cluster a node (inputs ++ more) ≡ first ++ run_of_inputs config.cluster a site.node more =
      run_joined config.cluster a node inputs more ∙ ap (λ (n : NodeState). first ++ run_of_inputs config.cluster a n more) (node_after_run config.cluster a node inputs ∙ sym served.pends.node_is) in
      let steps = (inputs_run config site given).inward.steps_are in
      let here : run_of_inputs config.cluster site.centre site.node more ≡ run_of_inputs config.cluster a site.node more = ap (λ (c : ℕ). run_of_inputs config.cluster c site.node more) served.pends.centre_is in
      ap (λ (made : List (Result NodeStep StepFault)). length (steps_made made)) joined
      ∙ (made-long first (run_of_inputs config.cluster a site.node more)
      ∙ ap (λ (n : ℕ). length (steps_made first) + n) (sym (steps ∙ ap (λ (made : List (Result NodeStep StepFault)). length (steps_made made)) here)))

  module _ (volatile : Volatile) (inputs : List Input) (site : Site) (given : Given) (knows : AreKnown h.begun.named a site) (served : IsServed config (WasReceived state.done) es a volatile inputs site) (paid : IsPaid es a state.done state.done (steps_of config.cluster es a volatile inputs)) (live : IsLive config (WasReceived state.done) mail a site) (came : MayDeliver state.done given) where
    -- once it has done these acts, of which those of its receives are some
    module _ (left : List Act) (are : (act : Act) → In act (turn_inputs_taken config site given).acts → In act left) where
      abbrev Got : ℕ → List ℕ → Type 0
      Got = ReceivedBy a left state.done

      into : (bytes : List ℕ) → WasReceived state.done a bytes → Got a bytes
      into bytes k = (onto-done a left state.done).received a bytes k

      known : AllByRecursion (Got a) (listed given.asked)
      known = asked-known config a state.done site given left are served.pends.centre_is

      live-now : IsLive config Got mail a (turn_inputs_taken config site given).site
      live-now = live-taken Got site given (live-later config (WasReceived state.done) Got mail a site into live) came known

      served-now : IsServed config Got es a volatile (inputs ++ turn_inputs config site given) (turn_inputs_taken config site given).site
      served-now = served-taken Got volatile inputs site given (served-later config (WasReceived state.done) Got es a volatile inputs site into served) (live-later config (WasReceived state.done) Got mail a site into live) came known

      paid-now : steps_in left ≡ steps_in (turn_inputs_taken config site given).acts → IsPaid es a state.done (acts_onto a left state.done) (steps_of config.cluster es a volatile (inputs ++ turn_inputs config site given))
      paid-now same =
          let steps = onto-steps a left state.done in
          subst (IsPaid es a state.done (acts_onto a left state.done)) (sym (turn-steps volatile inputs site given served))
          (paid-more es a state.done (acts_onto a left state.done) (steps_of config.cluster es a volatile inputs) (steps_in (turn_inputs_taken config site given).acts) (omega (arith, steps, same)) paid)

    knows-then : AreKnown h.begun.named a (turn_inputs_taken config site given).site
    knows-then tx serial i centre epoch =
        let next : Site = (turn_inputs_taken config site given).site in
        let same : epoch_of next.node.facts ≡ epoch_of site.node.facts =
        ap (λ (n : NodeState). epoch_of n.facts) (inputs_run config site given).node_is ∙ run_keeps config.cluster site.centre site.node (turn_inputs config site given) in
        turn-kept config site given serial tx (knows tx serial i centre (epoch ∙ same))

    turn-by-held : (held : Bool)
        → IsWithinLimits (process_of (after_acts (turn_inputs_taken config site given).acts (cond held (idle_site (turn_inputs_taken config site given).site) (persist_then_send config (turn_inputs_taken config site given).site))))
        → Goes config (with_process state a (Some (process_of (after_acts (turn_inputs_taken config site given).acts (cond held (idle_site (turn_inputs_taken config site given).site) (persist_then_send config (turn_inputs_taken config site given).site))))))
    turn-by-held true within =
        let next : Site = (turn_inputs_taken config site given).site in
        let acts : List Act = (turn_inputs_taken config site given).acts in
        let p : Process = record { left = acts ++ []; site_then = next } in
        let stage : IsOpen config state.done es mail a p = record {
          volatile = volatile;
          inputs = inputs ++ turn_inputs config site given;
          served = served-now (acts ++ []) (λ act i. In-before act acts [] i);
          paid = paid-now (acts ++ []) (λ act i. In-before act acts [] i) (ap steps_in (append-nil acts));
          quiet = Each-append (IsQuiet config (WasReceived state.done) es mail a) acts [] (taken-quiet site given) tt;
        } in
        record {
          es = es;
          mail = mail;
          stands = moved config es mail state a [] [] state.done state.durable (Some p) h (same-later state.done) tt
              (no-names config [] es state.done a h.begun.named (Some p) (λ b t c i. absurd i) h.begun.once (some-same (λ (q : Process). AreKnown h.begun.named a q.site_then) p knows-then)) h.sound h.durable h.done h.mail_stands tt (h.logs a) (h.paid a)
              (some-same (λ (q : Process). IsProcess config state.done es mail a q) p (record { live = live-now (acts ++ []) (λ act i. In-before act acts [] i); stage = inr (inl stage) }));
        }
    turn-by-held false within =
        let acts : List Act = (turn_inputs_taken config site given).acts in
        closes volatile (inputs ++ turn_inputs config site given) (turn_inputs_taken config site given).site acts knows-then (served-now acts (λ act i. i)) (paid-now acts (λ act i. i) refl) (live-now acts (λ act i. i)) within (taken-quiet site given)

  turn-site : (site : Site) (given : Given) → AreKnown h.begun.named a site → IsOpen config state.done es mail a (record { left = []; site_then = site }) → IsLive config (WasReceived state.done) mail a site → MayDeliver state.done given → IsWithinLimits (process_of (turn_of config site given))
      → Goes config (with_process state a (Some (process_of (turn_of config site given))))
  turn-site site given knows here live came within =
      turn-by-held here.volatile here.inputs site given knows here.served here.paid live came (is_held given (turn_inputs_taken config site given)) within

  last-site : (site : Site) → AreKnown h.begun.named a site → IsOpen config state.done es mail a (record { left = []; site_then = site }) → IsLive config (WasReceived state.done) mail a site → IsWithinLimits (process_of (persist_then_send config site))
      → Goes config (with_process state a (Some (process_of (persist_then_send config site))))
  last-site site knows here live within = closes here.volatile here.inputs site [] knows here.served here.paid live within tt

  -- ---- only the first few of its messages

  all-few : (P : Envelope → Type 0) (few : ℕ) (xs : List Envelope) → AllByRecursion P xs → AllByRecursion P (take few xs)
  all-few P zero xs h = tt
  all-few P (suc few) [] h = tt
  all-few P (suc few) (x ∷ xs) h = (h.0, all-few P few xs h.1)

  served-few : (G : ℕ → List ℕ → Type 0) (volatile : Volatile) (inputs : List Input) (few : ℕ) (site : Site) → IsServed config G es a volatile inputs site → IsServed config G es a volatile inputs (with_few few site)
  served-few G volatile inputs few site served =
      let p = served.pends in
      let w = served.answers in
      record {
        group = served.group;
        pends = record { centre_is = p.centre_is; node_is = p.node_is; facts_are = p.facts_are; heard_are = p.heard_are; owed = all-few _ few site.pending.envelopes p.owed };
        answers = record {
          centre_is = w.centre_is;
          node_is = w.node_is;
          node_formed = w.node_formed;
          mail = all-few _ few site.pending.envelopes w.mail;
          begun = w.begun;
          made_for = λ b tx choices i.
              let made = w.made_for b tx choices i in
              let m = made.1 in
              (made.0, record { serial = m.serial; parts = m.parts; asked = m.asked; are = m.are; found = m.found; centre = m.centre; epoch = m.epoch });
          noted = w.noted;
          ended = w.ended;
        };
        node = served.node;
        formed = served.formed;
        opened = served.opened;
      }

  live-few : (G : ℕ → List ℕ → Type 0) (few : ℕ) (site : Site) → IsLive config G mail a site → IsLive config G mail a (with_few few site)
  live-few G few site live = record {
    centre = live.centre;
    came = live.came;
    own_is = live.own_is;
    pieces = live.pieces;
    held = live.held;
    asked = live.asked;
    came_asked = live.came_asked;
    asked_is = live.asked_is;
    asked_given = live.asked_given;
    serials = live.serials;
  }

  cut-site : (few : ℕ) (site : Site) (given : Option Given) → AreKnown h.begun.named a site → IsOpen config state.done es mail a (record { left = []; site_then = site }) → IsLive config (WasReceived state.done) mail a site
      → AllByRecursion (MayDeliver state.done) (listed given) → IsWithinLimits (process_of (cut_turn config few given site)) → Goes config (with_process state a (Some (process_of (cut_turn config few given site))))
  cut-site few site None knows here live came within =
      closes here.volatile here.inputs (with_few few site) [] knows (served-few (WasReceived state.done) here.volatile here.inputs few site here.served) here.paid (live-few (WasReceived state.done) few site live) within tt
  cut-site few site (Some given) knows here live came within =
      let acts : List Act = (turn_inputs_taken config site given).acts in
      let next : Site = (turn_inputs_taken config site given).site in
      let inputs : List Input = here.inputs ++ turn_inputs config site given in
      closes here.volatile inputs (with_few few next) acts (knows-then here.volatile here.inputs site given knows here.served here.paid live came.0)
      (served-few (ReceivedBy a acts state.done) here.volatile inputs few next (served-now here.volatile here.inputs site given knows here.served here.paid live came.0 acts (λ act i. i)))
      (paid-now here.volatile here.inputs site given knows here.served here.paid live came.0 acts (λ act i. i) refl)
      (live-few (ReceivedBy a acts state.done) few next (live-now here.volatile here.inputs site given knows here.served here.paid live came.0 acts (λ act i. i))) within (taken-quiet site given)

  -- ---- where its turn is over

  not-nil : (first : List Act) (act : Act) (rest : List Act) → [] ≡ first ++ (act ∷ rest) → ⊥
  not-nil [] act rest e = absurd (cc)
  not-nil (x ∷ first) act rest e = absurd (cc)

  none-left : (first : List Act) (facts : List Fact) (out : List Act) → 0 < length first + length facts → [] ≡ first ++ (facts_logged a facts ++ out) → ⊥
  none-left [] [] out some e = absurd (omega (arith, some))
  none-left [] (fact ∷ facts) out some e = absurd (cc)
  none-left (x ∷ first) facts out some e = absurd (cc)

  unturned : (p : Process) → state.process a ≡ Some p → Goes config (with_process state a (Some p))
  unturned p is = record {
    es = es;
    mail = mail;
    stands = dropped config es mail state (with_process state a (Some p)) h (same-later state.done) refl h.done
        (λ b q it. elim (cases_Bool (a == b)) [
          | inl e ↦ let same : Some p ≡ Some q = rw e at it in subst (λ (z : ℕ). state.process z ≡ Some q) (eqb-true a b e) (is ∙ same)
          | inr e ↦ let same : state.process b ≡ Some q = rw e at it in same
        ]);
  }

  over : (p : Process) → state.process a ≡ Some p → p.left ≡ [] → IsOpen config state.done es mail a (record { left = []; site_then = p.site_then })
  over p is e =
      elim (h.processes a p is).stage [
        | inl b ↦ absurd (not-nil [] (Act.Append a (next_boot (facts_of es a) ∷ [])) (endpoints_of config (site_of (log_with a (facts_of es a))) ++ boot_line (site_of (log_with a (facts_of es a)))) (sym e ∙ b.acts_are))
        | inr later ↦ elim later [
          | inl o ↦ record {
            volatile = o.volatile;
            inputs = o.inputs;
            served = subst (λ (acts : List Act). IsServed config (ReceivedBy a acts state.done) es a o.volatile o.inputs p.site_then) e o.served;
            paid = subst (λ (acts : List Act). IsPaid es a state.done (acts_onto a acts state.done) (steps_of config.cluster es a o.volatile o.inputs)) e o.paid;
            quiet = tt;
          }
          | inr c ↦ absurd (none-left c.first c.before.pending.facts (out_of config c.before) c.some (sym e ∙ c.acts_are))
        ]
      ]

  live-over : (p : Process) → state.process a ≡ Some p → p.left ≡ [] → IsLive config (WasReceived state.done) mail a p.site_then
  live-over p is e = subst (λ (acts : List Act). IsLive config (ReceivedBy a acts state.done) mail a p.site_then) e (h.processes a p is).live

  now-within : (p : Process) → AreWithinLimits (with_process state a (Some p)) → IsWithinLimits p
  now-within p within = within a p (rw (eq-eqb a a refl) refl)

  turned-goes : (given : Given) → MayDeliver state.done given → (p : Process) → state.process a ≡ Some p → (acts : List Act) → p.left ≡ acts
      → AreWithinLimits (with_process state a (Some (process_turned (λ site. turn_of config site given) p acts))) → Goes config (with_process state a (Some (process_turned (λ site. turn_of config site given) p acts)))
  turned-goes given came p is [] e within = turn-site p.site_then given (h.known a p is) (over p is e) (live-over p is e) came (now-within (process_of (turn_of config p.site_then given)) within)
  turned-goes given came p is (act ∷ acts) e within = unturned p is

  pub turn-goes : (given : Given) → MayDeliver state.done given → (o : Option Process) → state.process a ≡ o
      → AreWithinLimits (after_turn_at (λ site. turn_of config site given) state a o) → Goes config (after_turn_at (λ site. turn_of config site given) state a o)
  turn-goes given came None is within = record { es = es; mail = mail; stands = h }
  turn-goes given came (Some p) is within = turned-goes given came p is p.left refl within

  ended-goes : (p : Process) → state.process a ≡ Some p → (acts : List Act) → p.left ≡ acts
      → AreWithinLimits (with_process state a (Some (process_turned (persist_then_send config) p acts))) → Goes config (with_process state a (Some (process_turned (persist_then_send config) p acts)))
  ended-goes p is [] e within = last-site p.site_then (h.known a p is) (over p is e) (live-over p is e) (now-within (process_of (persist_then_send config p.site_then)) within)
  ended-goes p is (act ∷ acts) e within = unturned p is

  pub last-goes : (o : Option Process) → state.process a ≡ o → AreWithinLimits (after_turn_at (persist_then_send config) state a o) → Goes config (after_turn_at (persist_then_send config) state a o)
  last-goes None is within = record { es = es; mail = mail; stands = h }
  last-goes (Some p) is within = ended-goes p is p.left refl within

  cutting-goes : (few : ℕ) (given : Option Given) → AllByRecursion (MayDeliver state.done) (listed given) → (p : Process) → state.process a ≡ Some p → (acts : List Act) → p.left ≡ acts
      → AreWithinLimits (with_process state a (Some (process_turned (cut_turn config few given) p acts))) → Goes config (with_process state a (Some (process_turned (cut_turn config few given) p acts)))
  cutting-goes few given came p is [] e within =
      cut-site few p.site_then given (h.known a p is) (over p is e) (live-over p is e) came (now-within (process_of (cut_turn config few given p.site_then)) within)
  cutting-goes few given came p is (act ∷ acts) e within = unturned p is

  pub cut-goes : (few : ℕ) (given : Option Given) → AllByRecursion (MayDeliver state.done) (listed given) → (o : Option Process) → state.process a ≡ o
      → AreWithinLimits (after_turn_at (cut_turn config few given) state a o) → Goes config (after_turn_at (cut_turn config few given) state a o)
  cut-goes few given came None is within = record { es = es; mail = mail; stands = h }
  cut-goes few given came (Some p) is within = cutting-goes few given came p is p.left refl within
