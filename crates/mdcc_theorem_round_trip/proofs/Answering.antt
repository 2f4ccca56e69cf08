-- The votes are delivered one after the other: the centre hears the commit at the last of them.
use Rattle.std.proofs.Common.{◌≡◌, ℕ, ◌+◌, ◌-◌, ◌≤◌, ◌<◌, ◌==◌, ◌&&◌, Bool, true, false, List, [], ◌∷◌, ◌++◌, refl, sym, ap, ◌∙◌, subst, inl, inr, arith, map, length, nat_le, append_assoc, append-nil, IsPermutation, Option, Some, None, Ok, Err, is_some, ◌||◌}
use Rattle.std.specs.Prelude.{if◌then◌else◌}
use Rattle.std.specs.List.{AllByRecursion, list_any}
use Rattle.std.proofs.lemmas.Bool.{and_left, and_parts, and_right, cases_Bool, leb-true, true≢false}
use Rattle.std.proofs.lemmas.List.{get_or-set_same, length-set, map-append}
use Rattle.mdcc_base.specs.AreQuorums.{AreQuorums}
use Rattle.mdcc_base.specs.Counts.{number_of}
use Rattle.mdcc_base.specs.Key.{key_eq}
use Rattle.mdcc_base.specs.Sizes.{Sizes}
use Rattle.mdcc_base.specs.TxId.{tx_eq}
use Rattle.mdcc_base.specs.declared.identifiers.TxId.{TxId}
use Rattle.mdcc_base.specs.declared.key.Key.{Key}
use Rattle.mdcc_option.specs.declared.choices.Choice.{Choice}
use Rattle.mdcc_option.specs.declared.choices.Outcome.{Outcome}
use Rattle.mdcc_option.specs.declared.cluster.Cluster.{Cluster}
use Rattle.mdcc_def_ledger.specs.Ledger.{Entry, facts_of}
use Rattle.mdcc_def_language.specs.declared.lines.Line.{Line}
use Rattle.mdcc_def_messages.specs.Lengths.{cells_needed}
use Rattle.mdcc_def_messages.specs.declared.facts.Fact.{Fact}
use Rattle.mdcc_def_protocol.specs.Belongs.{choice_belongs, is_centre, tx_belongs, update_belongs}
use Rattle.mdcc_def_protocol.specs.Facts.{heard_of, is_finished, is_settled}
use Rattle.mdcc_def_protocol.specs.Learner.{collided, is_barred_by, with_counted_vote}
use Rattle.mdcc_def_protocol.specs.Manager.{act_on_vote, acted, decision, vote_taken, would_decide}
use Rattle.mdcc_def_protocol.specs.News.{is_crowding}
use Rattle.mdcc_def_protocol.specs.Recover
use Rattle.mdcc_def_protocol.specs.Volatile.{Managing, Undecided, Volatile, is_opened, opened_of, with_manager}
use Rattle.mdcc_def_protocol.specs.declared.votes.Vote.{Vote}
use Rattle.mdcc_def_rules.specs.ManagerRules.{acted_step, decided_step, opened_step, undecided_step, voted_step, watched_step}
use Rattle.mdcc_def_rules.specs.Node.{cells_spare, checked_for_room, is_without_room, step_of}
use Rattle.mdcc_def_rules.specs.Steps.{NodeStep, nothing_done}
use Rattle.mdcc_def_rules.specs.declared.node.Input.{Input}
use Rattle.mdcc_def_rules.specs.declared.node.StepFault.{StepFault}
use Rattle.mdcc_def_simulation.specs.Deliveries.{after_delivery}
use Rattle.mdcc_def_simulation.specs.State.{Happened, SimulatedSite, World, booted, centre_at, next_message}
use Rattle.mdcc_def_simulation.specs.AppliedSteps.{fact_happened, fact_applied, input_happened, step_at, step_applied}
use Rattle.mdcc_def_simulation.specs.Checkpoints.{striking}
use Rattle.mdcc_theorem_round_trip.specs.Deciding.{AreChoicesOf, IsFastQuorum, counting}
use Rattle.mdcc_theorem_round_trip.specs.Messages.{each_with, vote_counted, vote_of_member}
use Rattle.mdcc_theorem_round_trip.specs.RoundTrips.{IsUndecidedAt, is_dropped, is_hearing, message_at, messages_of}
use Rattle.mdcc_theorem_round_trip.proofs.Apart.{key-same, of_both, of_key}
use Rattle.mdcc_theorem_round_trip.proofs.Deciding.{IsIn, committed-with, each-in, of-each, uncollided-before, undecided-before}
use Rattle.mdcc_theorem_round_trip.proofs.Delivering.{Delivers, Name, counted, delivery-told, delivery_told, messages-after, name-more}
use Rattle.mdcc_theorem_round_trip.proofs.Proposing.{NoneDropped, NoneHears, number-same, room-fits}
use Rattle.mdcc_theorem_round_trip.proofs.Lists.{each-append, each-back, each-both, each-front, each-map, each-weaker, none-numbered, number-append}
use Rattle.mdcc_def_rules.specs.Here.{here}
use Rattle.mdcc_def_protocol.specs.Cells.{cells_held}

-- ---- a vote that is counted

any-none : {X : Type 0} (test : X → Bool) (xs : List X) → AllByRecursion (λ x. test x ≡ false) xs → list_any test xs ≡ false
any-none test [] h = refl
any-none test (x ∷ xs) h = rw (h.0, any-none test xs h.1) refl

other-unbarred : (pair : Choice × ℕ) (vote : Vote) → tx_eq vote.tx pair.0.tx ≡ false → is_barred_by (vote_counted pair) vote ≡ false
other-unbarred pair vote h = rw h refl

pair-unbarred : (pair q : Choice × ℕ) → (key_eq q.0.key pair.0.key ≡ true → q.0 ≡ pair.0) → of_both pair.0.key pair.1 q ≡ false → is_barred_by (vote_counted pair) (vote_counted q) ≡ false
pair-unbarred pair q only differ = elim (cases_Bool (key_eq q.0.key pair.0.key)) [
  | inl e ↦
      let version : q.0.version ≡ pair.0.version = ap (λ (c : Choice). c.version) (only e) in
      let member : (q.1 == pair.1) ≡ false = rw e at differ in
      and_right (tx_eq q.0.tx pair.0.tx && key_eq q.0.key pair.0.key) _ (rw (version, number-same pair.0.version, member) refl)
  | inr e ↦ and_left (tx_eq q.0.tx pair.0.tx && key_eq q.0.key pair.0.key) _ (and_right (tx_eq q.0.tx pair.0.tx) (key_eq q.0.key pair.0.key) e)
]

-- the vote of another member, or on another choice, is counted
counted-next : (quorums : Sizes) (manager : Managing) (pair : Choice × ℕ) (before : List (Choice × ℕ))
    → nat_le pair.1 quorums.centres ≡ true
    → AllByRecursion (λ (vote : Vote). tx_eq vote.tx pair.0.tx ≡ false) manager.votes
    → AllByRecursion (λ (q : Choice × ℕ). key_eq q.0.key pair.0.key ≡ true → q.0 ≡ pair.0) before
    → AllByRecursion (λ (q : Choice × ℕ). of_both pair.0.key pair.1 q ≡ false) before
    → with_counted_vote quorums (counting manager before).votes (vote_counted pair) ≡ (counting manager (before ++ pair ∷ [])).votes
counted-next quorums manager pair before within others only differ =
    let unbarred = any-none (is_barred_by (vote_counted pair)) (manager.votes ++ map vote_counted before)
    (each-append (λ vote. is_barred_by (vote_counted pair) vote ≡ false) manager.votes (map vote_counted before)
    (each-weaker (λ (vote : Vote). tx_eq vote.tx pair.0.tx ≡ false) (λ vote. is_barred_by (vote_counted pair) vote ≡ false) manager.votes (λ vote h. other-unbarred pair vote h) others)
    (each-map (λ vote. is_barred_by (vote_counted pair) vote ≡ false) vote_counted before
    (each-weaker (λ (q : Choice × ℕ). (key_eq q.0.key pair.0.key ≡ true → q.0 ≡ pair.0) × (of_both pair.0.key pair.1 q ≡ false)) (λ q. is_barred_by (vote_counted pair) (vote_counted q) ≡ false) before
    (λ q h. pair-unbarred pair q h.0 h.1) (each-both (λ (q : Choice × ℕ). key_eq q.0.key pair.0.key ≡ true → q.0 ≡ pair.0) (λ (q : Choice × ℕ). of_both pair.0.key pair.1 q ≡ false) before only differ)))) in
    rw (within, unbarred)
    (append_assoc manager.votes (map vote_counted before) (vote_counted pair ∷ []) ∙ ap (λ vs. manager.votes ++ vs) (sym (map-append vote_counted before (pair ∷ []))))

-- ---- the manager's step

opened-first : (manager : Managing) (t : Undecided) (tx : TxId) → opened_of manager tx ≡ Some t → is_opened manager tx ≡ true
opened-first manager t tx h = rw h refl

module _ (cluster : Cluster) (a : ℕ) (facts : List Fact) (volatile : Volatile) (t : Undecided) (pair : Choice × ℕ)
    (centre : is_centre cluster pair.1 ≡ true) (belongs : choice_belongs cluster pair.0 ≡ true)
    (unheard : heard_of facts pair.0.tx ≡ None) (unfinished : is_finished facts pair.0.tx ≡ false) (open' : opened_of volatile.manager pair.0.tx ≡ Some t) where
  belonging : (tx_belongs cluster pair.0.tx ≡ true) × (update_belongs cluster pair.0.update ≡ true)
  belonging = and_parts (tx_belongs cluster pair.0.tx) (update_belongs cluster pair.0.update) belongs

  -- the vote's transaction is open, and was not heard
  voted-open : voted_step (here cluster a facts) volatile (vote_counted pair) ≡ opened_step (here cluster a facts) volatile (vote_counted pair) (would_decide cluster.quorums volatile.manager (vote_counted pair))
  voted-open = by (is_settled facts pair.0.tx) unsettled
    where
      unsettled : is_settled facts pair.0.tx ≡ false
      unsettled = ap (λ (heard : Option Outcome). is_some heard || is_finished facts pair.0.tx) unheard ∙ unfinished

      by : (b : Bool) → b ≡ false → (if b then nothing_done volatile else (if is_opened volatile.manager pair.0.tx
          then opened_step (here cluster a facts) volatile (vote_counted pair) (would_decide cluster.quorums volatile.manager (vote_counted pair))
          else watched_step (here cluster a facts) volatile (vote_counted pair) (Recover.would_decide cluster.quorums facts volatile.recovery (vote_counted pair))))
          ≡ opened_step (here cluster a facts) volatile (vote_counted pair) (would_decide cluster.quorums volatile.manager (vote_counted pair))
      by b e = rw e (rw (opened-first volatile.manager t pair.0.tx open') refl)

  pub vote-step : step_of (here cluster a facts) volatile (Input.Message (vote_of_member a pair))
      ≡ checked_for_room cluster facts (Ok (opened_step (here cluster a facts) volatile (vote_counted pair) (would_decide cluster.quorums volatile.manager (vote_counted pair))))
  vote-step = rw (number-same a, centre, belonging.0, belonging.1) (ap (λ (step : NodeStep). checked_for_room cluster facts (Ok step)) voted-open)

-- where it decides nothing and nothing has collided, it is taken and nothing is sent
undecided-taken : (cluster : Cluster) (a : ℕ) (facts : List Fact) (volatile : Volatile) (pair : Choice × ℕ)
    → decision cluster.quorums (vote_taken cluster.quorums volatile.manager (vote_counted pair)) pair.0.tx ≡ None
    → collided cluster.quorums (vote_taken cluster.quorums volatile.manager (vote_counted pair)).votes pair.0.tx pair.0.key ≡ false
    → undecided_step (here cluster a facts) volatile (vote_counted pair) ≡ nothing_done (with_manager volatile (vote_taken cluster.quorums volatile.manager (vote_counted pair)))
undecided-taken cluster a facts volatile pair none apart =
    ap (λ act. acted_step a facts volatile (acted (vote_taken cluster.quorums volatile.manager (vote_counted pair)) act)) acting
  where
    taken : Managing
    taken = vote_taken cluster.quorums volatile.manager (vote_counted pair)

    acting : act_on_vote cluster.quorums (vote_taken cluster.quorums volatile.manager (vote_counted pair)) (vote_counted pair) (decision cluster.quorums (vote_taken cluster.quorums volatile.manager (vote_counted pair)) pair.0.tx) ≡ None
    acting = ap (act_on_vote cluster.quorums (vote_taken cluster.quorums volatile.manager (vote_counted pair)) (vote_counted pair)) none ∙ rw apart refl

-- ---- the whole line

-- a pair that is voted: a choice of the transaction, and a centre of the cluster
pub record IsVoted (cluster : Cluster) (t : Undecided) (pair : Choice × ℕ) : Type 0 where
  pub own : pair.0.tx ≡ t.tx
  pub among : IsIn pair.0 t.choices
  pub belongs : choice_belongs cluster pair.0 ≡ true
  pub centre : is_centre cluster pair.1 ≡ true

module _ (w : World) (a : ℕ) (t : Undecided) (members : List ℕ) (order : List (Choice × ℕ))
    (are : AreQuorums w.cluster.quorums) (sites : length w.centres ≡ w.cluster.quorums.centres) (undecided : IsUndecidedAt w a t) (choices : AreChoicesOf t.tx t.choices)
    (quorum : IsFastQuorum w.cluster.quorums members) (moved : IsPermutation (each_with t.choices members) order)
    (voted : AllByRecursion (IsVoted w.cluster t) order) (once : (key : Key) (member : ℕ) → number_of (of_both key member) order ≤ 1) where
  abbrev manager : Managing
  manager = (centre_at w a).volatile.manager

  -- what has come of the world with the first votes
  pub record Counted (before : List (Choice × ℕ)) (u : World) : Type 0 where
    pub cluster : u.cluster ≡ w.cluster
    pub ledger : u.ledger ≡ w.ledger
    pub size : length u.centres ≡ length w.centres
    pub unstopped : (centre_at u a).stop ≡ None
    pub votes : (centre_at u a).volatile.manager ≡ counting (centre_at w a).volatile.manager before

  at-split : (before : List (Choice × ℕ)) (pair : Choice × ℕ) (after : List (Choice × ℕ)) → order ≡ before ++ pair ∷ after → IsVoted w.cluster t pair
  at-split before pair after is = (each-back (IsVoted w.cluster t) before (pair ∷ after) (subst (λ ps. AllByRecursion (IsVoted w.cluster t) ps) is voted)).0

  -- the first votes are of other members or on other keys
  apart-before : (before : List (Choice × ℕ)) (pair : Choice × ℕ) (after : List (Choice × ℕ)) → order ≡ before ++ pair ∷ after → AllByRecursion (λ q. of_both pair.0.key pair.1 q ≡ false) before
  apart-before before pair after is =
      let all = once pair.0.key pair.1 in
      let split : number_of (of_both pair.0.key pair.1) order ≡ number_of (of_both pair.0.key pair.1) before + number_of (of_both pair.0.key pair.1) (pair ∷ after) =
      ap (number_of (of_both pair.0.key pair.1)) is ∙ number-append (of_both pair.0.key pair.1) before (pair ∷ after) in
      let head : number_of (of_both pair.0.key pair.1) (pair ∷ after) ≡ 1 + number_of (of_both pair.0.key pair.1) after = rw (key-same pair.0.key, number-same pair.1) refl in
      none-numbered (of_both pair.0.key pair.1) before (omega (arith, all, split, head))

  only-before : (before : List (Choice × ℕ)) (pair : Choice × ℕ) (after : List (Choice × ℕ)) → order ≡ before ++ pair ∷ after
      → AllByRecursion (λ (q : Choice × ℕ). key_eq q.0.key pair.0.key ≡ true → q.0 ≡ pair.0) before
  only-before before pair after is =
      let one = each-in (λ (choice : Choice). AllByRecursion (λ (q : Choice × ℕ). of_key choice.key q ≡ true → q.0 ≡ choice) order) t.choices pair.0
      (of-each w.cluster.quorums (centre_at w a).volatile.manager t members order are undecided.uncounted choices quorum moved) (at-split before pair after is).among in
      each-front (λ (q : Choice × ℕ). key_eq q.0.key pair.0.key ≡ true → q.0 ≡ pair.0) before (pair ∷ after)
      (subst (λ ps. AllByRecursion (λ (q : Choice × ℕ). of_key pair.0.key q ≡ true → q.0 ≡ pair.0) ps) is one)

  -- the manager after one vote more
  taken-next : (before : List (Choice × ℕ)) (pair : Choice × ℕ) (after : List (Choice × ℕ)) → order ≡ before ++ pair ∷ after
      → vote_taken w.cluster.quorums (counting (centre_at w a).volatile.manager before) (vote_counted pair) ≡ counting (centre_at w a).volatile.manager (before ++ pair ∷ [])
  taken-next before pair after is =
      let v = at-split before pair after is in
      let open' : opened_of (centre_at w a).volatile.manager pair.0.tx ≡ Some t = subst (λ tx. opened_of (centre_at w a).volatile.manager tx ≡ Some t) (sym v.own) undecided.uncounted.opened in
      let within = (and_parts (nat_le 1 pair.1) (nat_le pair.1 w.cluster.quorums.centres) v.centre).1 in
      let others = subst (λ tx. AllByRecursion (λ (vote : Vote). tx_eq vote.tx tx ≡ false) (centre_at w a).volatile.manager.votes) (sym v.own) undecided.uncounted.none in
      rw open' (ap (λ vs. record (centre_at w a).volatile.manager { votes = vs })
      (counted-next w.cluster.quorums (centre_at w a).volatile.manager pair before within others (only-before before pair after is) (apart-before before pair after is)))

  -- a vote at a world that has counted those before it
  module _ (before : List (Choice × ℕ)) (pair : Choice × ℕ) (after : List (Choice × ℕ)) (is : order ≡ before ++ pair ∷ after) (u : World) (c : Counted before u)
      (number : ℕ) (next : Happened) (named : message_at u number ≡ Some (vote_of_member a pair)) (answer : after_delivery u number ≡ Ok next) where
    pair-is : IsVoted w.cluster t pair
    pair-is = at-split before pair after is

    unheard-here : heard_of (facts_of u.ledger a) pair.0.tx ≡ None
    unheard-here = ap (λ (es : List Entry). heard_of (facts_of es a) pair.0.tx) c.ledger ∙ ap (heard_of (facts_of w.ledger a)) pair-is.own ∙ undecided.unheard

    unfinished-here : is_finished (facts_of u.ledger a) pair.0.tx ≡ false
    unfinished-here = ap (λ (es : List Entry). is_finished (facts_of es a) pair.0.tx) c.ledger ∙ ap (is_finished (facts_of w.ledger a)) pair-is.own ∙ undecided.unfinished

    open-here : opened_of (centre_at u a).volatile.manager pair.0.tx ≡ Some t
    open-here = ap (λ m. opened_of m pair.0.tx) c.votes ∙ ap (opened_of (centre_at w a).volatile.manager) pair-is.own ∙ undecided.uncounted.opened

    -- the manager with this vote
    taken-here : vote_taken u.cluster.quorums (centre_at u a).volatile.manager (vote_counted pair) ≡ counting (centre_at w a).volatile.manager (before ++ pair ∷ [])
    taken-here =
        ap (λ (k : Cluster). vote_taken k.quorums (centre_at u a).volatile.manager (vote_counted pair)) c.cluster
        ∙ ap (λ m. vote_taken w.cluster.quorums m (vote_counted pair)) c.votes ∙ taken-next before pair after is

    decides-here : would_decide u.cluster.quorums (centre_at u a).volatile.manager (vote_counted pair) ≡ decision w.cluster.quorums (counting (centre_at w a).volatile.manager (before ++ pair ∷ [])) t.tx
    decides-here =
        ap (λ m. decision u.cluster.quorums m pair.0.tx) taken-here
        ∙ ap (λ (k : Cluster). decision k.quorums (counting (centre_at w a).volatile.manager (before ++ pair ∷ [])) pair.0.tx) c.cluster
        ∙ ap (decision w.cluster.quorums (counting (centre_at w a).volatile.manager (before ++ pair ∷ []))) pair-is.own

    step-here : step_at (counted u number) a (Input.Message (vote_of_member a pair))
        ≡ checked_for_room u.cluster (facts_of u.ledger a) (Ok (opened_step (here u.cluster a (facts_of u.ledger a)) (centre_at u a).volatile (vote_counted pair) (would_decide u.cluster.quorums (centre_at u a).volatile.manager (vote_counted pair))))
    step-here =
        vote-step u.cluster a (facts_of u.ledger a) (centre_at u a).volatile t pair
        (subst (λ (k : Cluster). is_centre k pair.1 ≡ true) (sym c.cluster) pair-is.centre) (subst (λ (k : Cluster). choice_belongs k pair.0 ≡ true) (sym c.cluster) pair-is.belongs)
        unheard-here unfinished-here open-here

    told-by : (o : Option Outcome) → would_decide u.cluster.quorums (centre_at u a).volatile.manager (vote_counted pair) ≡ o
        → next ≡ delivery_told number (input_happened (counted u number) a (checked_for_room u.cluster (facts_of u.ledger a) (Ok (opened_step (here u.cluster a (facts_of u.ledger a)) (centre_at u a).volatile (vote_counted pair) o))))
    told-by o e =
        delivery-told u number (vote_of_member a pair) next named answer
        ∙ ap (λ r. delivery_told number (input_happened (counted u number) a r)) step-here
        ∙ ap (λ d. delivery_told number (input_happened (counted u number) a (checked_for_room u.cluster (facts_of u.ledger a) (Ok (opened_step (here u.cluster a (facts_of u.ledger a)) (centre_at u a).volatile (vote_counted pair) d))))) e

    -- ---- one that decides nothing

    abbrev site_after : SimulatedSite
    site_after = record (centre_at u a) { volatile = with_manager (centre_at u a).volatile (vote_taken u.cluster.quorums (centre_at u a).volatile.manager (vote_counted pair)) }

    abbrev quiet_after : Happened
    quiet_after = record {
      world = step_applied (counted u number) a (centre_at u a).tail (nothing_done (with_manager (centre_at u a).volatile (vote_taken u.cluster.quorums (centre_at u a).volatile.manager (vote_counted pair))));
      lines = [];
    }

    module _ (none : decision w.cluster.quorums (counting (centre_at w a).volatile.manager (before ++ pair ∷ [])) t.tx ≡ None)
        (apart : collided w.cluster.quorums (counting (centre_at w a).volatile.manager (before ++ pair ∷ [])).votes t.tx pair.0.key ≡ false) where
      collided-here : collided u.cluster.quorums (vote_taken u.cluster.quorums (centre_at u a).volatile.manager (vote_counted pair)).votes pair.0.tx pair.0.key ≡ false
      collided-here =
          ap (λ (m : Managing). collided u.cluster.quorums m.votes pair.0.tx pair.0.key) taken-here
          ∙ ap (λ (k : Cluster). collided k.quorums (counting (centre_at w a).volatile.manager (before ++ pair ∷ [])).votes pair.0.tx pair.0.key) c.cluster
          ∙ ap (λ tx. collided w.cluster.quorums (counting (centre_at w a).volatile.manager (before ++ pair ∷ [])).votes tx pair.0.key) pair-is.own ∙ apart

      quiet-told : next ≡ delivery_told number quiet_after
      quiet-told =
          told-by None (decides-here ∙ none)
          ∙ ap (λ s. delivery_told number (input_happened (counted u number) a (checked_for_room u.cluster (facts_of u.ledger a) (Ok s))))
          (undecided-taken u.cluster a (facts_of u.ledger a) (centre_at u a).volatile pair (decides-here ∙ none) collided-here)

      site-there : centre_at next.world a ≡ site_after
      site-there =
          ap (λ (x : Happened). centre_at x.world a) quiet-told
          ∙ get_or-set_same u.centres (a - 1) site_after booted (below c.size)
        where
          below : length u.centres ≡ length w.centres → a - 1 < length u.centres
          below size =
              let ends = and_parts (nat_le 1 a) (nat_le a w.cluster.quorums.centres) undecided.centre in
              let low = leb-true 1 a ends.0 in
              let high = leb-true a w.cluster.quorums.centres ends.1 in
              omega (arith, size, sites, low, high)

      counted-there : Counted (before ++ pair ∷ []) next.world
      counted-there = record {
        cluster = ap (λ (x : Happened). x.world.cluster) quiet-told ∙ c.cluster;
        ledger = ap (λ (x : Happened). x.world.ledger) quiet-told ∙ c.ledger;
        size = ap (λ (x : Happened). length x.world.centres) quiet-told ∙ length-set u.centres (a - 1) site_after ∙ c.size;
        unstopped = ap (λ (s : SimulatedSite). s.stop) site-there ∙ c.unstopped;
        votes = ap (λ (s : SimulatedSite). s.volatile.manager) site-there ∙ taken-here;
      }

      messages-there : messages_of next.world ≡ messages_of u ++ []
      messages-there = ap (λ (x : Happened). messages_of x.world) quiet-told ∙ messages-after u.sent (number - 1) []

      quiet-there : NoneHears a t.tx next.lines
      quiet-there = subst (λ (x : Happened). NoneHears a t.tx x.lines) (sym quiet-told) (refl, tt)

      undropped-there : NoneDropped next.lines
      undropped-there = subst (λ (x : Happened). NoneDropped x.lines) (sym quiet-told) (refl, tt)

    -- ---- the one that decides

    module _ (all : decision w.cluster.quorums (counting (centre_at w a).volatile.manager (before ++ pair ∷ [])) t.tx ≡ Some (Outcome.Commit t.choices)) where
      abbrev fact : Fact
      fact = Fact.Heard pair.0.tx (Outcome.Commit t.choices)

      abbrev last_step : NodeStep
      last_step = decided_step u.cluster a (centre_at u a).volatile pair.0.tx (Outcome.Commit t.choices)

      uncrowded-here : is_crowding (facts_of u.ledger a) (Fact.Heard pair.0.tx (Outcome.Commit t.choices)) ≡ false
      uncrowded-here =
          ap (λ (es : List Entry). is_crowding (facts_of es a) (Fact.Heard pair.0.tx (Outcome.Commit t.choices))) c.ledger
          ∙ ap (λ tx. is_crowding (facts_of w.ledger a) (Fact.Heard tx (Outcome.Commit t.choices))) pair-is.own ∙ undecided.uncrowded

      whole : next ≡ delivery_told number (input_happened (counted u number) a (checked_for_room u.cluster (facts_of u.ledger a) (Ok (decided_step u.cluster a (centre_at u a).volatile pair.0.tx (Outcome.Commit t.choices)))))
      whole = told-by (Some (Outcome.Commit t.choices)) (decides-here ∙ all)

      -- it has room where it is not dropped
      roomy-commit : NoneDropped next.lines → is_without_room u.cluster (facts_of u.ledger a) (Fact.Heard pair.0.tx (Outcome.Commit t.choices)) ≡ false
      roomy-commit roomy = by (is_without_room u.cluster (facts_of u.ledger a) (Fact.Heard pair.0.tx (Outcome.Commit t.choices))) refl
        where
          by : (b : Bool) → is_without_room u.cluster (facts_of u.ledger a) (Fact.Heard pair.0.tx (Outcome.Commit t.choices)) ≡ b → b ≡ false
          by true e =
              let dropped : next.lines ≡ (delivery_told number (input_happened (counted u number) a (Err (StepFault.NoRoom (cells_needed (Fact.Heard pair.0.tx (Outcome.Commit t.choices))) (cells_spare u.cluster (facts_of u.ledger a)))))).lines =
              ap (λ (x : Happened). x.lines) whole ∙ rw e refl in
              let kept = subst NoneDropped dropped roomy in absurd (true≢false kept.1.0)
          by false e = refl

      last-lines : is_without_room u.cluster (facts_of u.ledger a) (Fact.Heard pair.0.tx (Outcome.Commit t.choices)) ≡ false
          → next.lines ≡ Line.Deliver number (next_message (fact_applied (counted u number) a last_step fact).world) ∷ Line.Heard a pair.0.tx true ∷ []
      last-lines e =
          ap (λ (x : Happened). x.lines) whole
          ∙ rw (e, uncrowded-here) (ap (λ stop. (delivery_told number (fact_happened (counted u number) a last_step fact stop)).lines) (ap (striking (centre_at u a).tail) c.unstopped))

  -- the last line of all is the commit that the centre hears
  pub all-voted : (numbers : List ℕ) (before after : List (Choice × ℕ)) (u v : World) (lines : List Line) → order ≡ before ++ after → 1 ≤ length after → Counted before u
      → Name (vote_of_member a) u numbers after → Delivers u numbers v lines → NoneDropped lines
      → (earlier : List Line) × (lines ≡ earlier ++ Line.Heard a t.tx true ∷ []) × NoneHears a t.tx earlier
  all-voted numbers before [] u v lines is some c name d roomy = absurd (omega (arith, some))
  all-voted [] before (pair ∷ after) u v lines is some c name d roomy = absurd name
  all-voted (number ∷ []) before (pair ∷ []) u v lines is some c name d roomy =
      let next = d.0 in
      let both = subst NoneDropped d.2.1 roomy in
      let first = each-front (λ line. is_dropped line ≡ false) next.lines d.2.0 both in
      let all : decision w.cluster.quorums (counting (centre_at w a).volatile.manager (before ++ pair ∷ [])) t.tx ≡ Some (Outcome.Commit t.choices) =
      subst (λ ps. decision w.cluster.quorums (counting (centre_at w a).volatile.manager ps) t.tx ≡ Some (Outcome.Commit t.choices)) is
      (committed-with w.cluster.quorums (centre_at w a).volatile.manager t members order are undecided.uncounted choices quorum moved) in
      let told = last-lines before pair [] is u c number next name.0 d.1 all (roomy-commit before pair [] is u c number next name.0 d.1 all first) in
      let own = (at-split before pair [] is).own in (
        Line.Deliver number (next_message (fact_applied (counted u number) a (decided_step u.cluster a (centre_at u a).volatile pair.0.tx (Outcome.Commit t.choices)) (Fact.Heard pair.0.tx (Outcome.Commit t.choices))).world) ∷ [],
        d.2.1 ∙ ap (λ rest. next.lines ++ rest) d.2.2.1 ∙ append-nil next.lines ∙ told
            ∙ ap (λ tx. Line.Deliver number (next_message (fact_applied (counted u number) a (decided_step u.cluster a (centre_at u a).volatile pair.0.tx (Outcome.Commit t.choices)) (Fact.Heard pair.0.tx (Outcome.Commit t.choices))).world) ∷ Line.Heard a tx true ∷ []) own,
        (refl, tt),
      )
  all-voted (number ∷ m ∷ numbers) before (pair ∷ []) u v lines is some c name d roomy = absurd name.1
  all-voted (number ∷ numbers) before (pair ∷ q ∷ after) u v lines is some c name d roomy =
      let next = d.0 in
      let rest = d.2.0 in
      let both = subst NoneDropped d.2.1 roomy in
      let is' : order ≡ (before ++ pair ∷ []) ++ q ∷ after = is ∙ sym (append_assoc before (pair ∷ []) (q ∷ after)) in
      let none = undecided-before w.cluster.quorums (centre_at w a).volatile.manager t members order are undecided.uncounted choices quorum moved (before ++ pair ∷ []) q after is' in
      let apart = uncollided-before w.cluster.quorums (centre_at w a).volatile.manager t members order are undecided.uncounted choices quorum moved (before ++ pair ∷ []) (q ∷ after) is' pair.0.key in
      let there = counted-there before pair (q ∷ after) is u c number next name.0 d.1 none apart in
      let messages = messages-there before pair (q ∷ after) is u c number next name.0 d.1 none apart in
      let quiet = quiet-there before pair (q ∷ after) is u c number next name.0 d.1 none apart in
      let ih = all-voted numbers (before ++ pair ∷ []) (q ∷ after) next.world v rest is' (omega arith) there
      (name-more (vote_of_member a) u next.world [] numbers (q ∷ after) messages name.1) d.2.2 (each-back (λ line. is_dropped line ≡ false) next.lines rest both) in (
        next.lines ++ ih.0,
        d.2.1 ∙ ap (λ ls. next.lines ++ ls) ih.1 ∙ sym (append_assoc next.lines ih.0 (Line.Heard a t.tx true ∷ [])),
        each-append (λ line. is_hearing a t.tx line ≡ false) next.lines ih.0 quiet ih.2,
      )

  -- where the centre has cells for the commit, none of the deliveries is dropped
  pub all-kept : (numbers : List ℕ) (before after : List (Choice × ℕ)) (u v : World) (lines : List Line) → order ≡ before ++ after → Counted before u
      → Name (vote_of_member a) u numbers after → Delivers u numbers v lines
      → cells_held (facts_of w.ledger a) + cells_needed (Fact.Heard t.tx (Outcome.Commit t.choices)) ≤ w.cluster.cells → NoneDropped lines
  all-kept [] before [] u v lines is c name d room = subst NoneDropped (sym d.1) tt
  all-kept (number ∷ numbers) before [] u v lines is c name d room = absurd name
  all-kept [] before (pair ∷ after) u v lines is c name d room = absurd name
  all-kept (number ∷ []) before (pair ∷ []) u v lines is c name d room =
      let next = d.0 in
      let all : decision w.cluster.quorums (counting (centre_at w a).volatile.manager (before ++ pair ∷ [])) t.tx ≡ Some (Outcome.Commit t.choices) =
      subst (λ ps. decision w.cluster.quorums (counting (centre_at w a).volatile.manager ps) t.tx ≡ Some (Outcome.Commit t.choices)) is
      (committed-with w.cluster.quorums (centre_at w a).volatile.manager t members order are undecided.uncounted choices quorum moved) in
      let own = (at-split before pair [] is).own in
      let fits : is_without_room u.cluster (facts_of u.ledger a) (Fact.Heard pair.0.tx (Outcome.Commit t.choices)) ≡ false =
      ap (λ (es : List Entry). is_without_room u.cluster (facts_of es a) (Fact.Heard pair.0.tx (Outcome.Commit t.choices))) c.ledger
      ∙ ap (λ (k : Cluster). is_without_room k (facts_of w.ledger a) (Fact.Heard pair.0.tx (Outcome.Commit t.choices))) c.cluster
      ∙ ap (λ tx. is_without_room w.cluster (facts_of w.ledger a) (Fact.Heard tx (Outcome.Commit t.choices))) own
      ∙ room-fits w.cluster (facts_of w.ledger a) (Fact.Heard t.tx (Outcome.Commit t.choices)) room in
      let told = last-lines before pair [] is u c number next name.0 d.1 all fits in
      subst NoneDropped (sym (d.2.1 ∙ ap (λ rest. next.lines ++ rest) d.2.2.1 ∙ append-nil next.lines ∙ told)) (refl, (refl, tt))
  all-kept (number ∷ m ∷ numbers) before (pair ∷ []) u v lines is c name d room = absurd name.1
  all-kept (number ∷ numbers) before (pair ∷ q ∷ after) u v lines is c name d room =
      let next = d.0 in
      let is' : order ≡ (before ++ pair ∷ []) ++ q ∷ after = is ∙ sym (append_assoc before (pair ∷ []) (q ∷ after)) in
      let none = undecided-before w.cluster.quorums (centre_at w a).volatile.manager t members order are undecided.uncounted choices quorum moved (before ++ pair ∷ []) q after is' in
      let apart = uncollided-before w.cluster.quorums (centre_at w a).volatile.manager t members order are undecided.uncounted choices quorum moved (before ++ pair ∷ []) (q ∷ after) is' pair.0.key in
      let there = counted-there before pair (q ∷ after) is u c number next name.0 d.1 none apart in
      let messages = messages-there before pair (q ∷ after) is u c number next name.0 d.1 none apart in
      let kept = undropped-there before pair (q ∷ after) is u c number next name.0 d.1 none apart in
      let ih = all-kept numbers (before ++ pair ∷ []) (q ∷ after) next.world v d.2.0 is' there
      (name-more (vote_of_member a) u next.world [] numbers (q ∷ after) messages name.1) d.2.2 room in
      subst NoneDropped (sym d.2.1) (each-append (λ line. is_dropped line ≡ false) next.lines d.2.0 kept ih)

  pub nothing-counted : Counted [] w
  nothing-counted = record { cluster = refl; ledger = refl; size = refl; unstopped = undecided.unstopped; votes = rw (append-nil (centre_at w a).volatile.manager.votes) refl }
