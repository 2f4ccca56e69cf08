-- The fast path of every trace: what a round trip needs is known of each of its states.
use Rattle.std.proofs.Common.{◌==◌, Bool, List, None, Option, ◌&&◌, Some, [], ap, arith, false, inl, inr, map, refl, subst, sym, true, ℕ, ◌++◌, ◌-◌, ◌<◌, ◌∙◌, ◌∷◌, ◌≡◌, ◌≤◌, ◌^◌}
use Rattle.std.specs.List.{AllByRecursion}
use Rattle.std.specs.List.Sorted.{IsPermutation}
use Rattle.std.specs.Prelude.{length, option_map, slice_get, suc, zero, is_some}
use Rattle.std.proofs.lemmas.Bool.{cases_Bool, true≢false}
use Rattle.std.proofs.lemmas.List.Sorted.{IsPermutation-sym}
use Rattle.mdcc_base.specs.Key.{key_eq, key_lt}
use Rattle.mdcc_base.specs.declared.outside.Image.{Image}
use Rattle.mdcc_base.specs.TxId.{tx_eq}
use Rattle.mdcc_option.specs.Parts.{are_parts_ascending}
use Rattle.mdcc_option.specs.declared.choices.Choice.{Choice}
use Rattle.mdcc_option.specs.declared.choices.Outcome.{Outcome}
use Rattle.mdcc_option.specs.declared.cluster.Cluster.{Cluster}
use Rattle.mdcc_theorem_agreement.specs.Laws.{IsLedger}
use Rattle.mdcc_def_language.specs.declared.events.Event.{Event}
use Rattle.mdcc_def_language.specs.declared.lines.Line.{Line}
use Rattle.mdcc_def_ledger.specs.AllowedLedgers.{IsAllowed, part_in}
use Rattle.mdcc_def_ledger.specs.Ledger.{choices_begun, facts_of, outcome_of}
use Rattle.mdcc_def_messages.specs.Mailbox.{Sent}
use Rattle.mdcc_def_messages.specs.declared.facts.Fact.{Fact}
use Rattle.mdcc_def_messages.specs.declared.messages.Envelope.{Envelope}
use Rattle.mdcc_def_protocol.specs.Belongs.{choice_belongs, is_centre}
use Rattle.mdcc_def_protocol.specs.Facts.{heard_of, is_finished}
use Rattle.mdcc_def_protocol.specs.IsCluster.{IsCluster}
use Rattle.mdcc_def_protocol.specs.News.{is_crowding}
use Rattle.mdcc_def_protocol.specs.Volatile.{Undecided, Volatile, opened_of}
use Rattle.mdcc_def_simulation.specs.State.{Happened, World, centre_at, is_up_at}
use Rattle.mdcc_theorem_trace_states.specs.VolatileInvariant.{IsOpened}
use Rattle.mdcc_theorem_trace_states.specs.Sound.{IsSound}
use Rattle.mdcc_theorem_trace_states.specs.MessageMeaning.{IsBackedMessage}
use Rattle.mdcc_theorem_trace_states.specs.Steps.{IsUp}
use Rattle.mdcc_theorem_trace_states.specs.Words.{Each, In}
use Rattle.mdcc_theorem_trace_states.proofs.Belonging.{begun-belong}
use Rattle.mdcc_theorem_trace_states.proofs.Events.{is-up}
use Rattle.mdcc_theorem_trace_states.proofs.Keys.{asc-head, asc-tail, begun-ascending, key_lt-irrefl}
use Rattle.mdcc_theorem_trace_states.proofs.Lists.{Each-at, find_some}
use Rattle.mdcc_theorem_trace_states.proofs.Tests.{Decides-key}
use Rattle.mdcc_theorem_trace_states.proofs.Walk.{bounds}
use Rattle.mdcc_theorem_trace_rules.proofs.Deciding.{begun-tx}
use Rattle.mdcc_theorem_trace.proofs.Laws.{all_sent, allowed, holds, law}
use Rattle.mdcc_theorem_trace_limits.proofs.Short.{ledger-short}
use Rattle.mdcc_theorem_trace_limits.proofs.Walks.{envelopes}
use Rattle.mdcc_theorem_trace_answers.proofs.Crowding.{not-crowding}
use Rattle.mdcc_theorem_round_trip.specs.Accepting.{IsAccepted}
use Rattle.mdcc_theorem_round_trip.specs.Cells.{HaveCells}
use Rattle.mdcc_theorem_round_trip.specs.Deciding.{AreAllDifferent, AreChoicesOf, IsFastQuorum, have_one_key}
use Rattle.mdcc_theorem_round_trip.specs.Messages.{each_with, proposal_of, vote_of_member}
use Rattle.mdcc_theorem_round_trip.specs.RoundTrips.{AcceptsEach, AreDelivered, AreNumbersOf, EndsWithCommit, IsReady, IsRoundTrip, is_dropped, message_at, messages_of}
use Rattle.mdcc_theorem_round_trip.proofs.Alike.{alike-at}
use Rattle.mdcc_theorem_round_trip.proofs.Apart.{apart-once, each-pair, one_member, ordered-once}
use Rattle.mdcc_theorem_round_trip.proofs.Delivering.{Delivers, named, unrolled}
use Rattle.mdcc_theorem_round_trip.proofs.Lists.{each-front, each-permuted, each-weaker}
use Rattle.mdcc_theorem_round_trip.proofs.Proposing.{Accepts, After, NoneDropped, NoneHears, all-proposed}
use Rattle.mdcc_theorem_round_trip.proofs.Roomy.{all-roomy, fitting}
use Rattle.mdcc_theorem_round_trip.proofs.Trips.{cells-suffice, ends-with-commit}
use Rattle.mdcc_theorem_fast_path.specs.FastPaths.{AcceptsAll, IsAsked, IsUntaken}
use Rattle.mdcc_theorem_fast_path.specs.Opened.{IsOpen, IsProposal}
use Rattle.mdcc_theorem_fast_path.specs.States.{state_after}
use Rattle.mdcc_theorem_fast_path.proofs.Chosen.{Gives, outcome-commits}
use Rattle.mdcc_theorem_fast_path.proofs.Lists.{at, from, of-pairs, recursive}
use Rattle.mdcc_theorem_fast_path.proofs.OpenWorlds.{IsWell, in-back, open-well}
use Rattle.mdcc_theorem_fast_path.proofs.States.{next-state}
use Rattle.mdcc_theorem_trace.proofs.Finished.{centre-in, finished-all}
use Rattle.mdcc_theorem_agreement.proofs.VersionsLow.{few-begun}

-- ---- an open transaction

open-in : (w : World) (a : ℕ) (t : Undecided) → opened_of (centre_at w a).volatile.manager t.tx ≡ Some t → In t (centre_at w a).volatile.manager.opened
open-in w a t h = (find_some (λ (u : Undecided). tx_eq u.tx t.tx) (centre_at w a).volatile.manager.opened t h).0

module _ (cluster : Cluster) (is : IsCluster cluster) (events : List Event) (a : ℕ) (t : Undecided) where
  well : IsOpen (state_after cluster events) a t → IsWell (state_after cluster events).cluster (state_after cluster events).ledger (envelopes (state_after cluster events).sent) a t
  well h =
      let w : World = state_after cluster events in
      Each-at (IsWell w.cluster w.ledger (envelopes w.sent) a) (centre_at w a).volatile.manager.opened t (open-well cluster is events a h.centre) (open-in w a t h.opened)

  pub unheard : IsOpen (state_after cluster events) a t → heard_of (facts_of (state_after cluster events).ledger a) t.tx ≡ None
  unheard h = (well h).unheard

-- ---- its proposals have numbers

-- a message that was sent has a number
message-there : (sent : List Sent) (env : Envelope) → In env (envelopes sent) → (n : ℕ) × (option_map (λ (s : Sent). s.envelope) (slice_get sent n) ≡ Some env)
message-there [] env i = absurd i
message-there (s ∷ ss) env i =
    elim i [
      | inl e ↦ (zero, ap Some (sym e))
      | inr r ↦ let k = message-there ss env r in (suc k.0, k.1)
    ]

number-of-message : (w : World) (env : Envelope) → In env (envelopes w.sent) → (number : ℕ) × (message_at w number ≡ Some env)
number-of-message w env i = let k = message-there w.sent env i in (suc k.0, k.1)

numbers-of : (w : World) (message : Choice × ℕ → Envelope) (order : List (Choice × ℕ)) → AllByRecursion (λ pair. In (message pair) (envelopes w.sent)) order → (numbers : List ℕ) × AreNumbersOf w numbers (map message order)
numbers-of w message [] h = ([], refl)
numbers-of w message (pair ∷ order) h =
    let first = number-of-message w (message pair) h.0 in
    let rest = numbers-of w message order h.1 in
    (first.0 ∷ rest.0, cc (first.1, rest.1))

pub were-proposed : (cluster : Cluster) → IsCluster cluster → (events : List Event) (a : ℕ) (t : Undecided) (order : List (Choice × ℕ))
    → IsOpen (state_after cluster events) a t → AllByRecursion (IsProposal cluster t) order
    → (numbers : List ℕ) × AreNumbersOf (state_after cluster events) numbers (map (proposal_of a) order)
were-proposed cluster is events a t order h each =
    let w : World = state_after cluster events in
    let same : cluster ≡ w.cluster = sym (holds cluster is events).same in
    numbers-of w (proposal_of a) order
    (each-weaker (IsProposal cluster t) (λ pair. In (proposal_of a pair) (envelopes w.sent)) order
    (λ pair k. (well cluster is events a t h).proposed pair.0 pair.1 k.own (subst (λ (c : Cluster). is_centre c pair.1 ≡ true) same k.centre)) each)

-- ---- choices of different keys

ascending-apart : (choices : List Choice) → are_parts_ascending (map part_in choices) ≡ true → AreAllDifferent have_one_key choices
ascending-apart [] h = tt
ascending-apart (c ∷ cs) h = (from (λ (d : Choice). have_one_key c d ≡ false) cs (λ d i. differ c d (asc-head c cs d h i)), ascending-apart cs (asc-tail c cs h))
  where
    differ : (c d : Choice) → key_lt c.key d.key ≡ true → have_one_key c d ≡ false
    differ c d l = elim (cases_Bool (key_eq c.key d.key)) [
      | inl e ↦ absurd (key_lt-irrefl d.key (subst (λ k. key_lt k d.key ≡ true) ((Decides-key c.key d.key).0 e) l))
      | inr e ↦ e
    ]

-- ---- ready

module _ (cluster : Cluster) (is : IsCluster cluster) (events : List Event)
    (a : ℕ) (t : Undecided) (members : List ℕ) (first : Happened) (untaken : IsUntaken (state_after cluster events) a t) (quorum : IsFastQuorum cluster.quorums members)
    (accept : AllByRecursion (AcceptsAll (state_after cluster events) t) members) where
  abbrev w : World
  w = state_after cluster events

  abbrev commit : Fact
  commit = Fact.Heard t.tx (Outcome.Commit t.choices)

  up : IsUp IsSound w.cluster w.ledger a (centre_at w a).volatile
  up = is-up IsSound cluster w a (holds cluster is events) untaken.up

  opened : IsOpened w.ledger t
  opened = Each-at (IsOpened w.ledger) (centre_at w a).volatile.manager.opened t up.keeps.manager.opened (open-in w a t untaken.uncounted.opened)

  choices : AreChoicesOf t.tx t.choices
  choices = record {
    some = some (length t.choices) opened.some_choice;
    own = from (λ (choice : Choice). choice.tx ≡ t.tx) t.choices (λ c i. begun-tx w.cluster w.ledger t.tx c up.legal (subst (λ cs. In c cs) (sym opened.choices) i));
    apart = ascending-apart t.choices (subst (λ cs. are_parts_ascending (map part_in cs) ≡ true) opened.choices (begun-ascending w.cluster w.ledger t.tx up.legal));
  }
    where
      some : (n : ℕ) → 0 < n → 1 ≤ n
      some n h = omega (arith, h)

  belong : AllByRecursion (λ (choice : Choice). choice_belongs w.cluster choice ≡ true) t.choices
  belong = recursive (λ (choice : Choice). choice_belongs w.cluster choice ≡ true) t.choices (subst (λ cs. Each (λ (choice : Choice). choice_belongs w.cluster choice ≡ true) cs) opened.choices (begun-belong w.cluster w.ledger t.tx up.legal))

  same : w.cluster ≡ cluster
  same = (holds cluster is events).same

  quorum-here : IsFastQuorum w.cluster.quorums members
  quorum-here = subst (λ (c : Cluster). IsFastQuorum c.quorums members) (sym same) quorum

  member-centre : (member : ℕ) → AcceptsAll w t member → is_centre w.cluster member ≡ true
  member-centre member h = (is-up IsSound cluster w member (holds cluster is events) h.up).centre

  low : AllByRecursion (λ member. 1 ≤ member) members
  low = each-weaker (AcceptsAll w t) (λ member. 1 ≤ member) members (λ member h. (bounds w.cluster member (member-centre member h)).0) accept

  -- ---- the proposals are delivered

  accepting : (asked : List (Choice × ℕ)) → IsPermutation (each_with t.choices members) asked → AllByRecursion (Accepts w) asked
  accepting asked moved =
      each-permuted (Accepts w) (each_with t.choices members) asked moved
      (each-pair (Accepts w) t.choices members
      (from (λ (c : Choice). AllByRecursion (λ (m : ℕ). Accepts w (c, m)) members) t.choices
      (λ c i. each-weaker (AcceptsAll w t) (λ (m : ℕ). Accepts w (c, m)) members
      (λ m h. record { belongs = at (λ (choice : Choice). choice_belongs w.cluster choice ≡ true) t.choices c belong i; unstopped = h.unstopped; accepted = at (IsAccepted w.cluster (facts_of w.ledger m)) t.choices c h.accepts i }) accept)))

  -- none of them is dropped where the members have cells
  pub asked-kept : (second : Happened) → HaveCells w a t members → (trip : AreDelivered w a t members first second) → NoneDropped first.lines
  asked-kept second have trip =
      let asking = unrolled trip.proposals (record { world = w; lines = [] }) first trip.proposed in
      let kept = all-roomy a t.tx trip.proposals trip.asked w first.world asking.0 up.centre
      (named (proposal_of a) w trip.proposals trip.asked trip.proposals_are) (accepting trip.asked trip.asks_each)
      (ordered-once t.choices members trip.asked trip.asks_each choices.apart quorum-here.apart)
      (fitting w t.choices members trip.asked trip.asks_each (λ m. apart-once (λ (x y : ℕ). x == y) (λ x. x == m) members (one_member m) quorum-here.apart) have.votes) asking.2 in
      subst NoneDropped (sym asking.1) kept.0

  module _ (ask : IsAsked (state_after cluster events) a t members first) where
    asking : (lines : List Line) × (first.lines ≡ lines) × Delivers w ask.proposals first.world lines
    asking = unrolled ask.proposals (record { world = w; lines = [] }) first ask.proposed

    after-asking : After w first.world (map (vote_of_member a) ask.asked) × NoneHears a t.tx asking.0
    after-asking =
        all-proposed a t.tx ask.proposals ask.asked w first.world asking.0 up.centre
        (named (proposal_of a) w ask.proposals ask.asked ask.proposals_are) (accepting ask.asked ask.asks_each)
        (ordered-once t.choices members ask.asked ask.asks_each choices.apart quorum-here.apart) asking.2
        (subst NoneDropped asking.1 ask.undropped)

    -- ---- then the votes have numbers, and the transaction is committed

    in-map : (pair : Choice × ℕ) (pairs : List (Choice × ℕ)) → In pair pairs → In (vote_of_member a pair) (map (vote_of_member a) pairs)
    in-map pair [] i = absurd i
    in-map pair (p ∷ ps) i = elim i [ inl e ↦ inl (ap (vote_of_member a) e) | inr r ↦ inr (in-map pair ps r) ]

    listed : (P : Envelope → Type 0) (ss : List Sent) (env : Envelope) → Each (λ (s : Sent). P s.envelope) ss → In env (envelopes ss) → P env
    listed P [] env h i = absurd i
    listed P (s ∷ ss) env h i = elim i [ inl e ↦ subst P (sym e) h.0 | inr r ↦ listed P ss env h.1 r ]

    pub votes-given : (order : List (Choice × ℕ)) → IsPermutation (each_with t.choices members) order → (votes : List ℕ) × AreNumbersOf first.world votes (map (vote_of_member a) order)
    votes-given order moved =
        numbers-of first.world (vote_of_member a) order
        (each-permuted (λ pair. In (vote_of_member a pair) (envelopes first.world.sent)) (each_with t.choices members) order moved
        (each-permuted (λ pair. In (vote_of_member a pair) (envelopes first.world.sent)) ask.asked (each_with t.choices members) (IsPermutation-sym (each_with t.choices members) ask.asked ask.asks_each)
        (from (λ pair. In (vote_of_member a pair) (envelopes first.world.sent)) ask.asked
        (λ pair i. subst (λ ms. In (vote_of_member a pair) ms) (sym after-asking.0.messages) (in-back (vote_of_member a pair) (messages_of w) (map (vote_of_member a) ask.asked) (in-map pair ask.asked i))))))

    module _ (v : World) (more : List Event) (reached : state_after cluster more ≡ v) (messages : messages_of v ≡ messages_of w ++ map (vote_of_member a) ask.asked)
        (begun : choices_begun v.ledger t.tx ≡ t.choices) where
      backed : Each (λ (s : Sent). IsBackedMessage cluster v.ledger s.envelope) v.sent
      backed = subst (λ (z : World). Each (λ (s : Sent). IsBackedMessage cluster z.ledger s.envelope) z.sent) reached (all_sent cluster is more)

      given : AllByRecursion (λ (pair : Choice × ℕ). Gives v.ledger t.tx pair.0 pair.1) (each_with t.choices members)
      given =
          each-permuted (λ (pair : Choice × ℕ). Gives v.ledger t.tx pair.0 pair.1) ask.asked (each_with t.choices members) (IsPermutation-sym (each_with t.choices members) ask.asked ask.asks_each)
          (from (λ (pair : Choice × ℕ). Gives v.ledger t.tx pair.0 pair.1) ask.asked
          (λ pair i. gives pair (own pair i) (listed (IsBackedMessage cluster v.ledger) v.sent (vote_of_member a pair) backed
          (subst (λ ms. In (vote_of_member a pair) ms) (sym messages) (in-back (vote_of_member a pair) (messages_of w) (map (vote_of_member a) ask.asked) (in-map pair ask.asked i))))))
        where
          gives : (pair : Choice × ℕ) → pair.0.tx ≡ t.tx → IsBackedMessage cluster v.ledger (vote_of_member a pair) → Gives v.ledger t.tx pair.0 pair.1
          gives pair e h = subst (λ z. Gives v.ledger z pair.0 pair.1) e (h.still tt)

          all-own : AllByRecursion (λ (pair : Choice × ℕ). pair.0.tx ≡ t.tx) ask.asked
          all-own =
              each-permuted (λ (pair : Choice × ℕ). pair.0.tx ≡ t.tx) (each_with t.choices members) ask.asked ask.asks_each
              (each-pair (λ (pair : Choice × ℕ). pair.0.tx ≡ t.tx) t.choices members
              (each-weaker (λ (c : Choice). c.tx ≡ t.tx) (λ (c : Choice). AllByRecursion (λ (m : ℕ). c.tx ≡ t.tx) members) t.choices (λ c e. from (λ (m : ℕ). c.tx ≡ t.tx) members (λ m j. e)) choices.own))

          own : (pair : Choice × ℕ) → In pair ask.asked → pair.0.tx ≡ t.tx
          own pair i = at (λ (pair : Choice × ℕ). pair.0.tx ≡ t.tx) ask.asked pair all-own i

      ledger-there : IsLedger cluster v.ledger
      ledger-there =
          record {
            of_cluster = is;
            allowed = subst (λ (z : World). IsAllowed cluster z.ledger) reached (allowed cluster is more);
            few = few-begun v.ledger (subst (λ (z : World). length z.ledger ≤ 2 ^ 64 - 1) reached (ledger-short cluster is more));
          }

      committed : outcome_of cluster.quorums v.ledger t.tx ≡ Some (Outcome.Commit t.choices)
      committed =
          let sound = subst (λ (z : World). IsSound z.ledger) reached (holds cluster is more).more in
          outcome-commits cluster.quorums v.ledger t.tx members is.quorums (law cluster v.ledger is.quorums ledger-there.allowed sound) quorum low t.choices begun opened.some_choice
          (of-pairs (λ (pair : Choice × ℕ). Gives v.ledger t.tx pair.0 pair.1) t.choices members given)

      uncrowded-there : is_crowding (facts_of v.ledger a) commit ≡ false
      uncrowded-there = not-crowding cluster v.ledger a commit ledger-there committed

    -- ---- all that a round trip needs

    up-there : is_up_at first.world a ≡ true
    up-there =
        let after = after-asking.0 in
        subst (λ (c : Cluster). (is_centre c a && (centre_at first.world a).is_up) ≡ true) (sym after.cluster)
        (subst (λ (p : Bool × (Option (ℕ × Image) × Volatile)). (is_centre w.cluster a && p.0) ≡ true) (sym (alike-at first.world w after.centres a)) untaken.up)

    uncrowded : is_crowding (facts_of w.ledger a) commit ≡ false
    uncrowded =
        let after = after-asking.0 in
        let there = next-state cluster events (Event.Deliver ask.proposals) first ask.proposed in
        let up-then = subst (λ (z : World). is_up_at z a ≡ true → IsUp IsSound z.cluster z.ledger a (centre_at z a).volatile) there.1 (is-up IsSound cluster (state_after cluster there.0) a (holds cluster is there.0)) up-there in
        let among : In t (centre_at first.world a).volatile.manager.opened =
        subst (λ (p : Bool × (Option (ℕ × Image) × Volatile)). In t p.1.1.manager.opened) (sym (alike-at first.world w after.centres a)) (open-in w a t untaken.uncounted.opened) in
        let still = Each-at (IsOpened first.world.ledger) (centre_at first.world a).volatile.manager.opened t up-then.keeps.manager.opened among in
        sym (after.crowding a commit) ∙ uncrowded-there first.world there.0 there.1 after.messages still.choices

    -- what is finished at a centre was heard there
    unfinished : is_finished (facts_of w.ledger a) t.tx ≡ false
    unfinished =
        elim (cases_Bool (is_finished (facts_of w.ledger a) t.tx)) [
          | inl e ↦
              absurd (true≢false (sym (subst (λ o. is_some o ≡ true) (unheard cluster is events a t (record { centre = up.centre; opened = untaken.uncounted.opened }))
              (finished-all w.cluster w.ledger a a t.tx up.legal (centre-in w.cluster a up.centre) e))))
          | inr e ↦ e
        ]

    ready : IsReady w a t members
    ready = record {
      quorums = up.sizes;
      sites = (holds cluster is events).size;
      undecided = record {
        centre = up.centre;
        unstopped = untaken.unstopped;
        uncounted = untaken.uncounted;
        unheard = unheard cluster is events a t (record { centre = up.centre; opened = untaken.uncounted.opened });
        unfinished = unfinished;
        uncrowded = uncrowded;
      };
      choices = choices;
      belong = belong;
      quorum = quorum-here;
      accept = each-weaker (AcceptsAll w t) (AcceptsEach w t.choices) members (λ member h. record { centre = member-centre member h; unstopped = h.unstopped; accepts = h.accepts }) accept;
    }

pub commits : (cluster : Cluster) → IsCluster cluster
    → (events : List Event) (a : ℕ) (t : Undecided) (members : List ℕ) (first second : Happened) → IsUntaken (state_after cluster events) a t → IsFastQuorum cluster.quorums members
    → AllByRecursion (AcceptsAll (state_after cluster events) t) members → IsRoundTrip (state_after cluster events) a t members first second → EndsWithCommit a t.tx first.lines second.lines
commits cluster is events a t members first second untaken quorum accept trip =
    ends-with-commit (state_after cluster events) a t members first second (ready cluster is events a t members first untaken quorum accept ask) trip
  where
    ask : IsAsked (state_after cluster events) a t members first
    ask = record {
      asked = trip.deliveries.asked;
      proposals = trip.deliveries.proposals;
      asks_each = trip.deliveries.asks_each;
      proposals_are = trip.deliveries.proposals_are;
      proposed = trip.deliveries.proposed;
      undropped = each-front (λ line. is_dropped line ≡ false) first.lines second.lines trip.undropped;
    }

-- the same where the centres have cells
pub roomy-commits : (cluster : Cluster) → IsCluster cluster
    → (events : List Event) (a : ℕ) (t : Undecided) (members : List ℕ) (first second : Happened) → IsUntaken (state_after cluster events) a t → IsFastQuorum cluster.quorums members
    → AllByRecursion (AcceptsAll (state_after cluster events) t) members → HaveCells (state_after cluster events) a t members
    → AreDelivered (state_after cluster events) a t members first second → EndsWithCommit a t.tx first.lines second.lines
roomy-commits cluster is events a t members first second untaken quorum accept have trip =
    commits cluster is events a t members first second untaken quorum accept
    (record {
      deliveries = trip;
      undropped = cells-suffice (state_after cluster events) a t members first second
          (ready cluster is events a t members first untaken quorum accept ask) have trip;
    })
  where
    ask : IsAsked (state_after cluster events) a t members first
    ask = record {
      asked = trip.asked;
      proposals = trip.proposals;
      asks_each = trip.asks_each;
      proposals_are = trip.proposals_are;
      proposed = trip.proposed;
      undropped = asked-kept cluster is events a t members first untaken quorum accept second have trip;
    }
