-- The proposals are delivered one after the other: each gives a vote, whatever their order.
use Rattle.std.proofs.Common.{◌≡◌, ℕ, ◌+◌, ◌-◌, ◌≤◌, ◌&&◌, ◌==◌, Bool, true, false, cond, List, [], ◌∷◌, ◌++◌, refl, sym, ap, ◌∙◌, subst, inl, inr, arith, map, length, max, nat_lt, append_assoc, append-nil, Option, Some, None, Ok, Err}
use Rattle.std.specs.List.{AllByRecursion}
use Rattle.std.proofs.Math.Nat.{max-zero}
use Rattle.std.proofs.lemmas.Bool.{cases_Bool, eq-eqb, eqb-true, le-ltb, true≢false}
use Rattle.std.proofs.Math.Seq.{map-set_same}
use Rattle.mdcc_base.specs.Counts.{number_of}
use Rattle.mdcc_base.specs.Key.{key_eq}
use Rattle.mdcc_base.specs.declared.identifiers.TxId.{TxId}
use Rattle.mdcc_base.specs.declared.key.Key.{Key}
use Rattle.mdcc_base.specs.declared.outside.Image.{Image}
use Rattle.mdcc_option.specs.declared.choices.Choice.{Choice}
use Rattle.mdcc_option.specs.declared.choices.Mark.{Mark}
use Rattle.mdcc_option.specs.declared.cluster.Cluster.{Cluster}
use Rattle.mdcc_def_ledger.specs.Ledger.{Added, Entry, facts_of}
use Rattle.mdcc_def_language.specs.declared.lines.Line.{Line}
use Rattle.mdcc_def_messages.specs.declared.facts.Fact.{Fact}
use Rattle.mdcc_def_messages.specs.declared.messages.Envelope.{Envelope}
use Rattle.mdcc_def_protocol.specs.Belongs.{choice_belongs, is_centre}
use Rattle.mdcc_def_protocol.specs.Facts.{current_of, deltas_at, executed_of, heard_of, version_from, floor_of, is_finished}
use Rattle.mdcc_def_protocol.specs.News.{is_crowding, keys_in}
use Rattle.mdcc_def_protocol.specs.Volatile.{Volatile}
use Rattle.mdcc_def_messages.specs.Lengths.{cells_needed}
use Rattle.mdcc_def_rules.specs.Node.{cells_spare, checked_for_room, is_without_room, step_of}
use Rattle.mdcc_def_rules.specs.declared.node.Input.{Input}
use Rattle.mdcc_def_rules.specs.declared.node.StepFault.{StepFault}
use Rattle.mdcc_def_simulation.specs.Deliveries.{after_delivery}
use Rattle.mdcc_def_simulation.specs.State.{Happened, World, booted, centre_at}
use Rattle.mdcc_def_simulation.specs.Checkpoints.{striking, tail_after_append}
use Rattle.mdcc_def_simulation.specs.AppliedSteps.{chosen_lines, fact_happened, fact_applied, input_happened}
use Rattle.mdcc_theorem_round_trip.specs.Accepting.{IsAccepted, accepting_step, vote_if_roomy}
use Rattle.mdcc_theorem_round_trip.specs.Messages.{accepting_fact, proposal_of, vote_of_member}
use Rattle.mdcc_theorem_round_trip.specs.RoundTrips.{is_dropped, is_hearing, message_at, messages_of}
use Rattle.mdcc_theorem_round_trip.proofs.Alike.{alike-at, bare}
use Rattle.mdcc_theorem_round_trip.proofs.Apart.{key-same, key-true, of_both}
use Rattle.mdcc_theorem_round_trip.proofs.Delivering.{Delivers, Name, counted, delivery-told, delivery_told, messages-after, name-more}
use Rattle.mdcc_theorem_round_trip.proofs.Elsewhere.{answers-alike, or-none, voted-alike, accepted-unfinished, any-alike, one-unfinished}
use Rattle.mdcc_theorem_round_trip.proofs.Lists.{each-any, each-append, each-back, each-both, each-front, each-map, each-weaker, none-numbered}
use Rattle.mdcc_def_rules.specs.Here.{here}
use Rattle.mdcc_def_rules.specs.AcceptorRules.{proposed_step}
use Rattle.mdcc_def_protocol.specs.declared.acceptor.ProposeAnswer.{ProposeAnswer}
use Rattle.mdcc_def_protocol.specs.Cells.{cells_held}
use Rattle.std.specs.Prelude.{nat_le, nat_lt}

-- ---- one step

pub number-same : (n : ℕ) → (n == n) ≡ true
number-same n = eq-eqb n n refl

proposal-step : (cluster : Cluster) (a : ℕ) (facts : List Fact) (volatile : Volatile) (pair : Choice × ℕ)
    → is_centre cluster a ≡ true → choice_belongs cluster pair.0 ≡ true → IsAccepted cluster facts pair.0
    → step_of (here cluster pair.1 facts) volatile (Input.Message (proposal_of a pair)) ≡ vote_if_roomy cluster facts volatile a pair
proposal-step cluster a facts volatile pair centre belongs accepted =
    rw (number-same pair.1, centre, belongs) (ap (λ (answer : ProposeAnswer). checked_for_room cluster facts (Ok (proposed_step pair.1 volatile a pair.0 answer))) accepted)

-- a vote changes nothing that a fact would crowd
voted-crowding : (facts : List Fact) (choice : Choice) (fact : Fact) → is_crowding (accepting_fact choice ∷ facts) fact ≡ is_crowding facts fact
voted-crowding facts choice fact =
    any-alike (λ key. nat_lt 64 (length (executed_of (fact ∷ accepting_fact choice ∷ facts) key))) (λ key. nat_lt 64 (length (executed_of (fact ∷ facts) key))) (keys_in fact)
    (λ key. ap (λ n. nat_lt 64 (length (deltas_at (fact ∷ facts) key (max n (version_from key fact))))) (max-zero (current_of facts key)))

-- a fact that lies in the cells with the others has room
pub room-fits : (cluster : Cluster) (facts : List Fact) (fact : Fact) → cells_held facts + cells_needed fact ≤ cluster.cells → is_without_room cluster facts fact ≡ false
room-fits cluster facts fact h =
    le-ltb (cells_spare cluster facts) (cells_needed fact) (spare (cells_held facts) (cells_needed fact) cluster.cells h)
  where
    spare : (used needed all : ℕ) → used + needed ≤ all → needed ≤ all - used
    spare used needed all h = omega (arith, h)

-- ---- the world after some proposals

pub record After (w v : World) (sends : List Envelope) : Type 0 where
  pub cluster : v.cluster ≡ w.cluster
  pub centres : map bare v.centres ≡ map bare w.centres
  pub messages : messages_of v ≡ messages_of w ++ sends
  pub heard : (b : ℕ) (tx : TxId) → heard_of (facts_of v.ledger b) tx ≡ heard_of (facts_of w.ledger b) tx
  pub finished : (b : ℕ) (tx : TxId) → is_finished (facts_of v.ledger b) tx ≡ is_finished (facts_of w.ledger b) tx
  pub crowding : (b : ℕ) (fact : Fact) → is_crowding (facts_of v.ledger b) fact ≡ is_crowding (facts_of w.ledger b) fact

-- the member would accept the choice, and has no armed stop
pub record Accepts (w : World) (pair : Choice × ℕ) : Type 0 where
  pub belongs : choice_belongs w.cluster pair.0 ≡ true
  pub unstopped : (centre_at w pair.1).stop ≡ None
  pub accepted : IsAccepted w.cluster (facts_of w.ledger pair.1) pair.0

abbrev pub NoneDropped : List Line → Type 0
NoneDropped lines = AllByRecursion (λ line. is_dropped line ≡ false) lines

abbrev pub NoneHears : ℕ → TxId → List Line → Type 0
NoneHears a tx lines = AllByRecursion (λ line. is_hearing a tx line ≡ false) lines

module _ (a : ℕ) (tx : TxId) where
  -- one proposal that was delivered
  pub record Proposed (w : World) (pair : Choice × ℕ) (next : Happened) : Type 0 where
    pub cluster : next.world.cluster ≡ w.cluster
    pub centres : map bare next.world.centres ≡ map bare w.centres
    pub messages : messages_of next.world ≡ messages_of w ++ vote_of_member a pair ∷ []
    pub ledger : next.world.ledger ≡ Added pair.1 (accepting_fact pair.0) ∷ w.ledger
    pub quiet : NoneHears a tx next.lines
    pub undropped : NoneDropped next.lines

  -- the member has cells for the vote
  abbrev pub HasRoom : World → Choice × ℕ → Type 0
  HasRoom w pair = is_without_room w.cluster (facts_of w.ledger pair.1) (accepting_fact pair.0) ≡ false

  module _ (w : World) (number : ℕ) (pair : Choice × ℕ) (next : Happened) (centre : is_centre w.cluster a ≡ true) (h : Accepts w pair)
      (named : message_at w number ≡ Some (proposal_of a pair)) (answer : after_delivery w number ≡ Ok next) where
    told : next ≡ delivery_told number (input_happened (counted w number) pair.1 (vote_if_roomy w.cluster (facts_of w.ledger pair.1) (centre_at w pair.1).volatile a pair))
    told =
        delivery-told w number (proposal_of a pair) next named answer
        ∙ ap (λ r. delivery_told number (input_happened (counted w number) pair.1 r)) (proposal-step w.cluster a (facts_of w.ledger pair.1) (centre_at w pair.1).volatile pair centre h.belongs h.accepted)

    -- so it is where nothing is dropped
    pub roomy-undropped : NoneDropped next.lines → HasRoom w pair
    roomy-undropped roomy = by (is_without_room w.cluster (facts_of w.ledger pair.1) (accepting_fact pair.0)) refl
      where
        by : (b : Bool) → is_without_room w.cluster (facts_of w.ledger pair.1) (accepting_fact pair.0) ≡ b → b ≡ false
        by true e =
            let is : next.lines ≡ (delivery_told number (input_happened (counted w number) pair.1 (Err (StepFault.NoRoom (cells_needed (accepting_fact pair.0)) (cells_spare w.cluster (facts_of w.ledger pair.1)))))).lines = ap (λ (x : Happened). x.lines) told ∙ rw e refl in
            let kept = subst NoneDropped is roomy in absurd (true≢false kept.1.0)
        by false e = refl

    pub proposed : HasRoom w pair → Proposed w pair next
    proposed e =
        let step = accepting_step (centre_at w pair.1).volatile a pair in
        let fact = accepting_fact pair.0 in
        let is : next ≡ delivery_told number (fact_applied (counted w number) pair.1 step fact) =
        told ∙ rw e (ap (λ stop. delivery_told number (fact_happened (counted w number) pair.1 step fact stop)) (ap (striking (centre_at w pair.1).tail) h.unstopped)) in
        record {
          cluster = ap (λ (x : Happened). x.world.cluster) is;
          centres =
              ap (λ (x : Happened). map bare x.world.centres) is
              ∙ map-set_same bare w.centres (pair.1 - 1) (record (centre_at w pair.1) { tail = tail_after_append (centre_at w pair.1).tail }) booted refl;
          messages = ap (λ (x : Happened). messages_of x.world) is ∙ messages-after w.sent (number - 1) (vote_of_member a pair ∷ []);
          ledger = ap (λ (x : Happened). x.world.ledger) is;
          quiet = subst (λ (x : Happened). NoneHears a tx x.lines) (sym is) (
            refl,
            each-append (λ line. is_hearing a tx line ≡ false) (chosen_lines w.cluster.quorums (Added pair.1 fact) w.ledger) []
                (each-map (λ line. is_hearing a tx line ≡ false) _ _ (each-any _ _ (λ e. refl))) tt,
          );
          undropped = subst (λ (x : Happened). NoneDropped x.lines) (sym is) (
            refl,
            each-append (λ line. is_dropped line ≡ false) (chosen_lines w.cluster.quorums (Added pair.1 fact) w.ledger) []
                (each-map (λ line. is_dropped line ≡ false) _ _ (each-any _ _ (λ e. refl))) tt,
          );
        }

  -- what another member, or this one about another key, would accept it still would
  pub still : (w : World) (pair : Choice × ℕ) (next : Happened) → Proposed w pair next → Accepts w pair → (other : Choice × ℕ) → Accepts w other → of_both pair.0.key pair.1 other ≡ false → Accepts next.world other
  still w pair next d own other h differ = record {
    belongs = subst (λ (c : Cluster). choice_belongs c other.0 ≡ true) (sym d.cluster) h.belongs;
    unstopped = ap (λ (p : Bool × (Option (ℕ × Image) × Volatile)). p.1.0) (alike-at next.world w d.centres other.1) ∙ h.unstopped;
    accepted =
        subst (λ (c : Cluster). IsAccepted c (facts_of next.world.ledger other.1) other.0) (sym d.cluster)
        (subst (λ (es : List Entry). IsAccepted w.cluster (facts_of es other.1) other.0) (sym d.ledger) (by (pair.1 == other.1) refl));
  }
    where
      differs : (pair.1 == other.1) ≡ true → key_eq pair.0.key other.0.key ≡ false
      differs e = elim (cases_Bool (key_eq pair.0.key other.0.key)) [
        | inl k ↦
            let same : pair.0.key ≡ other.0.key = key-true pair.0.key other.0.key k in
            let member : pair.1 ≡ other.1 = eqb-true pair.1 other.1 e in
            let both : of_both pair.0.key pair.1 other ≡ true = rw (same, member, key-same other.0.key, number-same other.1) refl in
            absurd (true≢false (sym both ∙ differ))
        | inr k ↦ k
      ]

      by : (b : Bool) → (pair.1 == other.1) ≡ b → IsAccepted w.cluster (cond (pair.1 == other.1) (accepting_fact pair.0 ∷ facts_of w.ledger other.1) (facts_of w.ledger other.1)) other.0
      by true e = rw e
          (answers-alike w.cluster (accepting_fact pair.0 ∷ facts_of w.ledger other.1) (facts_of w.ledger other.1) other.0
          (voted-alike (facts_of w.ledger other.1) other.0.key pair.0.key pair.0.version ((pair.0.tx, Mark.Accept pair.0) ∷ []) None (differs e)
          (one-unfinished (facts_of w.ledger other.1) pair.0.tx (Mark.Accept pair.0) (subst (λ m. is_finished (facts_of w.ledger m) pair.0.tx ≡ false) (eqb-true pair.1 other.1 e) (accepted-unfinished w.cluster (facts_of w.ledger pair.1) pair.0 (Mark.Accept pair.0) own.accepted)))) ∙ h.accepted)
      by false e = rw e h.accepted

  -- what is heard of, and what would be crowded, is as before
  heard-same : (w : World) (pair : Choice × ℕ) (next : Happened) → Proposed w pair next → (b : ℕ) (tx' : TxId) → heard_of (facts_of next.world.ledger b) tx' ≡ heard_of (facts_of w.ledger b) tx'
  heard-same w pair next d b tx' = ap (λ (es : List Entry). heard_of (facts_of es b) tx') d.ledger ∙ by (pair.1 == b)
    where
      by : (c : Bool) → heard_of (cond c (accepting_fact pair.0 ∷ facts_of w.ledger b) (facts_of w.ledger b)) tx' ≡ heard_of (facts_of w.ledger b) tx'
      by true = or-none (heard_of (facts_of w.ledger b) tx')
      by false = refl

  finished-as_before : (w : World) (pair : Choice × ℕ) (next : Happened) → Proposed w pair next → (b : ℕ) (tx' : TxId) → is_finished (facts_of next.world.ledger b) tx' ≡ is_finished (facts_of w.ledger b) tx'
  finished-as_before w pair next d b tx' = ap (λ (es : List Entry). is_finished (facts_of es b) tx') d.ledger ∙ by (pair.1 == b)
    where
      by : (c : Bool) → is_finished (cond c (accepting_fact pair.0 ∷ facts_of w.ledger b) (facts_of w.ledger b)) tx' ≡ is_finished (facts_of w.ledger b) tx'
      by true = ap (λ n. nat_lt 0 tx'.seq && nat_le tx'.seq n) (max-zero (floor_of (facts_of w.ledger b) tx'.centre tx'.epoch))
      by false = refl

  crowding-same : (w : World) (pair : Choice × ℕ) (next : Happened) → Proposed w pair next → (b : ℕ) (fact : Fact) → is_crowding (facts_of next.world.ledger b) fact ≡ is_crowding (facts_of w.ledger b) fact
  crowding-same w pair next d b fact = ap (λ (es : List Entry). is_crowding (facts_of es b) fact) d.ledger ∙ by (pair.1 == b)
    where
      by : (c : Bool) → is_crowding (cond c (accepting_fact pair.0 ∷ facts_of w.ledger b) (facts_of w.ledger b)) fact ≡ is_crowding (facts_of w.ledger b) fact
      by true = voted-crowding (facts_of w.ledger b) pair.0 fact
      by false = refl

  -- ---- all of them

  abbrev pub AreOnce : List (Choice × ℕ) → Type 0
  AreOnce order = (key : Key) (member : ℕ) → number_of (of_both key member) order ≤ 1

  pub first-apart : (pair : Choice × ℕ) (order : List (Choice × ℕ)) → AreOnce (pair ∷ order) → AllByRecursion (λ other. of_both pair.0.key pair.1 other ≡ false) order
  first-apart pair order once =
      let all = once pair.0.key pair.1 in
      let head : number_of (of_both pair.0.key pair.1) (pair ∷ order) ≡ 1 + number_of (of_both pair.0.key pair.1) order = rw (key-same pair.0.key, number-same pair.1) refl in
      none-numbered (of_both pair.0.key pair.1) order (omega (arith, all, head))

  pub rest-once : (pair : Choice × ℕ) (order : List (Choice × ℕ)) → AreOnce (pair ∷ order) → AreOnce order
  rest-once pair order once key member = let all = once key member in omega (arith, all)

  pub all-proposed : (numbers : List ℕ) (order : List (Choice × ℕ)) (w v : World) (lines : List Line) → is_centre w.cluster a ≡ true → Name (proposal_of a) w numbers order
      → AllByRecursion (Accepts w) order → AreOnce order → Delivers w numbers v lines → NoneDropped lines
      → After w v (map (vote_of_member a) order) × NoneHears a tx lines
  all-proposed [] [] w v lines centre name accept once d roomy = (
    record {
      cluster = ap (λ (x : World). x.cluster) (sym d.0);
      centres = ap (λ (x : World). map bare x.centres) (sym d.0);
      messages = ap messages_of (sym d.0) ∙ sym (append-nil (messages_of w));
      heard = λ b tx'. ap (λ (x : World). heard_of (facts_of x.ledger b) tx') (sym d.0);
      finished = λ b tx'. ap (λ (x : World). is_finished (facts_of x.ledger b) tx') (sym d.0);
      crowding = λ b fact. ap (λ (x : World). is_crowding (facts_of x.ledger b) fact) (sym d.0);
    },
    subst (NoneHears a tx) (sym d.1) tt,
  )
  all-proposed [] (pair ∷ order) w v lines centre name accept once d roomy = absurd name
  all-proposed (number ∷ numbers) [] w v lines centre name accept once d roomy = absurd name
  all-proposed (number ∷ numbers) (pair ∷ order) w v lines centre name accept once d roomy =
      let next = d.0 in
      let rest = d.2.0 in
      let both = subst NoneDropped d.2.1 roomy in
      let room = roomy-undropped w number pair next centre accept.0 name.0 d.1 (each-front (λ line. is_dropped line ≡ false) next.lines rest both) in
      let one = proposed w number pair next centre accept.0 name.0 d.1 room in
      let ih = all-proposed numbers order next.world v rest (subst (λ (c : Cluster). is_centre c a ≡ true) (sym one.cluster) centre)
      (name-more (proposal_of a) w next.world (vote_of_member a pair ∷ []) numbers order one.messages name.1)
      (each-weaker (λ other. Accepts w other × (of_both pair.0.key pair.1 other ≡ false)) (Accepts next.world) order (λ other h. still w pair next one accept.0 other h.0 h.1)
      (each-both (Accepts w) (λ other. of_both pair.0.key pair.1 other ≡ false) order accept.1 (first-apart pair order once)))
      (rest-once pair order once) d.2.2 (each-back (λ line. is_dropped line ≡ false) next.lines rest both) in
      let after = ih.0 in (
        record {
          cluster = after.cluster ∙ one.cluster;
          centres = after.centres ∙ one.centres;
          messages = after.messages ∙ ap (λ ms. ms ++ map (vote_of_member a) order) one.messages ∙ append_assoc (messages_of w) (vote_of_member a pair ∷ []) (map (vote_of_member a) order);
          heard = λ b tx'. after.heard b tx' ∙ heard-same w pair next one b tx';
          finished = λ b tx'. after.finished b tx' ∙ finished-as_before w pair next one b tx';
          crowding = λ b fact. after.crowding b fact ∙ crowding-same w pair next one b fact;
        },
        subst (NoneHears a tx) (sym d.2.1) (each-append (λ line. is_hearing a tx line ≡ false) next.lines rest one.quiet ih.1),
      )
