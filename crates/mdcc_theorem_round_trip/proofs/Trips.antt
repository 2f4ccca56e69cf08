-- One round trip, put together.
use Rattle.std.proofs.Common.{◌≡◌, ℕ, ◌+◌, ◌≤◌, ◌==◌, Bool, true, false, List, [], ◌∷◌, ◌++◌, Option, refl, sym, ap, ◌∙◌, subst, arith, map, length}
use Rattle.std.specs.List.{AllByRecursion}
use Rattle.std.proofs.lemmas.List.Sorted.{length_permutation}
use Rattle.mdcc_base.specs.AreQuorums.{AreQuorums}
use Rattle.mdcc_base.specs.Counts.{number_of}
use Rattle.mdcc_base.specs.declared.outside.Image.{Image}
use Rattle.mdcc_def_messages.specs.Lengths.{cells_needed}
use Rattle.mdcc_option.specs.declared.choices.Choice.{Choice}
use Rattle.mdcc_option.specs.declared.cluster.Cluster.{Cluster}
use Rattle.mdcc_option.specs.declared.choices.Outcome.{Outcome}
use Rattle.mdcc_def_ledger.specs.Ledger.{facts_of}
use Rattle.mdcc_def_language.specs.declared.lines.Line.{Line}
use Rattle.mdcc_def_messages.specs.declared.facts.Fact.{Fact}
use Rattle.mdcc_def_protocol.specs.Belongs.{choice_belongs, is_centre}
use Rattle.mdcc_def_protocol.specs.Volatile.{Undecided, Volatile}
use Rattle.mdcc_def_simulation.specs.State.{Happened, World}
use Rattle.mdcc_theorem_round_trip.specs.Accepting.{IsAccepted}
use Rattle.mdcc_theorem_round_trip.specs.Cells.{HaveCells, cells_of_votes}
use Rattle.mdcc_theorem_round_trip.specs.Deciding.{IsFastQuorum, IsUncounted}
use Rattle.mdcc_theorem_round_trip.specs.Messages.{each_with, proposal_of, vote_of_member}
use Rattle.mdcc_theorem_round_trip.specs.RoundTrips.{AcceptsEach, AreDelivered, EndsWithCommit, IsReady, IsRoundTrip, IsUndecidedAt, is_dropped, is_hearing, messages_of}
use Rattle.mdcc_theorem_round_trip.proofs.Alike.{alike-at, as-many}
use Rattle.mdcc_theorem_round_trip.proofs.Answering.{IsVoted, all-kept, all-voted, nothing-counted}
use Rattle.mdcc_theorem_round_trip.proofs.Apart.{apart-once, each-pair, one_member, ordered-once}
use Rattle.mdcc_theorem_round_trip.proofs.Deciding.{IsIn, in-each}
use Rattle.mdcc_theorem_round_trip.proofs.Delivering.{Delivers, named, unrolled}
use Rattle.mdcc_theorem_round_trip.proofs.Lists.{each-append, each-back, each-both, each-front, each-permuted, each-weaker}
use Rattle.mdcc_theorem_round_trip.proofs.Proposing.{Accepts, After, NoneDropped, NoneHears, all-proposed}
use Rattle.mdcc_theorem_round_trip.proofs.Roomy.{all-roomy, fitting, shares-moved, votes_at}
use Rattle.mdcc_def_protocol.specs.Cells.{cells_held}

-- what holds for each member of each choice holds for each choice of each member
turned : (Q : Choice → ℕ → Type 0) (choices : List Choice) (members : List ℕ) → AllByRecursion (λ (m : ℕ). AllByRecursion (λ (c : Choice). Q c m) choices) members
    → AllByRecursion (λ (c : Choice). AllByRecursion (λ (m : ℕ). Q c m) members) choices
turned Q [] members h = tt
turned Q (choice ∷ choices) members h = (
  each-weaker (λ (m : ℕ). Q choice m × AllByRecursion (λ (c : Choice). Q c m) choices) (λ (m : ℕ). Q choice m) members (λ m k. k.0) h,
  turned Q choices members (each-weaker (λ (m : ℕ). Q choice m × AllByRecursion (λ (c : Choice). Q c m) choices) (λ (m : ℕ). AllByRecursion (λ (c : Choice). Q c m) choices) members (λ m k. k.1) h),
)

some-pair : (choices : List Choice) (members : List ℕ) → 1 ≤ length choices → 1 ≤ length members → 1 ≤ length (each_with choices members)
some-pair [] members some any = absurd (omega (arith, some))
some-pair (c ∷ cs) [] some any = absurd (omega (arith, any))
some-pair (c ∷ cs) (m ∷ ms) some any = omega arith

module _ (w : World) (a : ℕ) (t : Undecided) (members : List ℕ) (first second : Happened) (ready : IsReady w a t members) (trip : AreDelivered w a t members first second) where
  accepting : AllByRecursion (Accepts w) trip.asked
  accepting =
      each-permuted (Accepts w) (each_with t.choices members) trip.asked trip.asks_each
      (each-pair (Accepts w) t.choices members
      (turned (λ (c : Choice) (m : ℕ). Accepts w (c, m)) t.choices members
      (each-weaker (AcceptsEach w t.choices) (λ (m : ℕ). AllByRecursion (λ (c : Choice). Accepts w (c, m)) t.choices) members
      (λ m h. each-weaker (λ (c : Choice). (choice_belongs w.cluster c ≡ true) × IsAccepted w.cluster (facts_of w.ledger m) c) (λ (c : Choice). Accepts w (c, m)) t.choices
      (λ c k. record { belongs = k.0; unstopped = h.unstopped; accepted = k.1 })
      (each-both (λ (c : Choice). choice_belongs w.cluster c ≡ true) (λ (c : Choice). IsAccepted w.cluster (facts_of w.ledger m) c) t.choices ready.belong h.accepts)) ready.accept)))

  voting : AllByRecursion (IsVoted w.cluster t) trip.answered
  voting =
      each-permuted (IsVoted w.cluster t) (each_with t.choices members) trip.answered trip.answers_each
      (each-pair (IsVoted w.cluster t) t.choices members
      (turned (λ (c : Choice) (m : ℕ). IsVoted w.cluster t (c, m)) t.choices members
      (each-weaker (AcceptsEach w t.choices) (λ (m : ℕ). AllByRecursion (λ (c : Choice). IsVoted w.cluster t (c, m)) t.choices) members
      (λ m h. each-weaker (λ (c : Choice). ((c.tx ≡ t.tx) × IsIn c t.choices) × (choice_belongs w.cluster c ≡ true)) (λ (c : Choice). IsVoted w.cluster t (c, m)) t.choices
      (λ c k. record { own = k.0.0; among = k.0.1; belongs = k.1; centre = h.centre })
      (each-both (λ (c : Choice). (c.tx ≡ t.tx) × IsIn c t.choices) (λ (c : Choice). choice_belongs w.cluster c ≡ true) t.choices
      (each-both (λ (c : Choice). c.tx ≡ t.tx) (λ c. IsIn c t.choices) t.choices ready.choices.own (in-each t.choices)) ready.belong)) ready.accept)))

  asking : (lines : List Line) × (first.lines ≡ lines) × Delivers w trip.proposals first.world lines
  asking = unrolled trip.proposals (record { world = w; lines = [] }) first trip.proposed

  answering : (lines : List Line) × (second.lines ≡ lines) × Delivers first.world trip.votes second.world lines
  answering = unrolled trip.votes (record { world = first.world; lines = [] }) second trip.voted

  -- ---- where no proposal is dropped

  module _ (kept : NoneDropped asking.0) where
    after-asking : After w first.world (map (vote_of_member a) trip.asked) × NoneHears a t.tx asking.0
    after-asking =
        all-proposed a t.tx trip.proposals trip.asked w first.world asking.0 ready.undecided.centre
        (named (proposal_of a) w trip.proposals trip.asked trip.proposals_are) accepting
        (ordered-once t.choices members trip.asked trip.asks_each ready.choices.apart ready.quorum.apart) asking.2
        kept

    sent : messages_of first.world ≡ messages_of w ++ map (vote_of_member a) trip.asked
    sent = after-asking.0.messages

    undecided-then : IsUndecidedAt first.world a t
    undecided-then =
        let after = after-asking.0 in
        let h = ready.undecided in
        record {
          centre = subst (λ (c : Cluster). is_centre c a ≡ true) (sym after.cluster) h.centre;
          unstopped = ap (λ (p : Bool × (Option (ℕ × Image) × Volatile)). p.1.0) (alike-at first.world w after.centres a) ∙ h.unstopped;
          uncounted = subst (λ (p : Bool × (Option (ℕ × Image) × Volatile)). IsUncounted p.1.1.manager t) (sym (alike-at first.world w after.centres a)) h.uncounted;
          unheard = after.heard a t.tx ∙ h.unheard;
          unfinished = after.finished a t.tx ∙ h.unfinished;
          uncrowded = after.crowding a (Fact.Heard t.tx (Outcome.Commit t.choices)) ∙ h.uncrowded;
        }

    some-answered : 1 ≤ length trip.answered
    some-answered =
        let are = ready.quorums in
        let low = are.some_classic in
        let within = are.classic_within in
        let size = ready.quorum.size in
        let any : 1 ≤ length members = omega (arith, low, within, size) in
        let pairs = some-pair t.choices members ready.choices.some any in
        let same = length_permutation (each_with t.choices members) trip.answered trip.answers_each in
        omega (arith, pairs, same)

    -- ---- and no vote

    module _ (kept-answers : NoneDropped answering.0) where
      committing : (earlier : List Line) × (answering.0 ≡ earlier ++ Line.Heard a t.tx true ∷ []) × NoneHears a t.tx earlier
      committing =
          let after = after-asking.0 in
          let are = subst (λ (c : Cluster). AreQuorums c.quorums) (sym after.cluster) ready.quorums in
          let sites = as-many first.world w after.centres ∙ ready.sites ∙ ap (λ (c : Cluster). c.quorums.centres) (sym after.cluster) in
          let quorum = subst (λ (c : Cluster). IsFastQuorum c.quorums members) (sym after.cluster) ready.quorum in
          let voted = subst (λ (c : Cluster). AllByRecursion (IsVoted c t) trip.answered) (sym after.cluster) voting in
          let once = ordered-once t.choices members trip.answered trip.answers_each ready.choices.apart ready.quorum.apart in
          all-voted first.world a t members trip.answered are sites undecided-then ready.choices quorum trip.answers_each voted once
          trip.votes [] trip.answered first.world second.world answering.0 refl some-answered
          (nothing-counted first.world a t members trip.answered are sites undecided-then ready.choices quorum trip.answers_each voted once)
          (named (vote_of_member a) first.world trip.votes trip.answered trip.votes_are) answering.2
          kept-answers

      ends : EndsWithCommit a t.tx first.lines second.lines
      ends = record {
        earlier = committing.0;
        last = answering.1 ∙ committing.1;
        unheard =
            each-append (λ line. is_hearing a t.tx line ≡ false) first.lines committing.0
            (subst (NoneHears a t.tx) (sym asking.1) after-asking.1) committing.2;
      }

    -- none is, where the centre has cells for the commit
    answers-kept : cells_held (facts_of first.world.ledger a) + cells_needed (Fact.Heard t.tx (Outcome.Commit t.choices)) ≤ w.cluster.cells → NoneDropped answering.0
    answers-kept room =
        let after = after-asking.0 in
        let are = subst (λ (c : Cluster). AreQuorums c.quorums) (sym after.cluster) ready.quorums in
        let sites = as-many first.world w after.centres ∙ ready.sites ∙ ap (λ (c : Cluster). c.quorums.centres) (sym after.cluster) in
        let quorum = subst (λ (c : Cluster). IsFastQuorum c.quorums members) (sym after.cluster) ready.quorum in
        let voted = subst (λ (c : Cluster). AllByRecursion (IsVoted c t) trip.answered) (sym after.cluster) voting in
        let once = ordered-once t.choices members trip.answered trip.answers_each ready.choices.apart ready.quorum.apart in
        let here = subst (λ (c : Cluster). cells_held (facts_of first.world.ledger a) + cells_needed (Fact.Heard t.tx (Outcome.Commit t.choices)) ≤ c.cells) (sym after.cluster) room in
        all-kept first.world a t members trip.answered are sites undecided-then ready.choices quorum trip.answers_each voted once
        trip.votes [] trip.answered first.world second.world answering.0 refl
        (nothing-counted first.world a t members trip.answered are sites undecided-then ready.choices quorum trip.answers_each voted once)
        (named (vote_of_member a) first.world trip.votes trip.answered trip.votes_are) answering.2 here

  -- ---- where there are cells

  module _ (have : HaveCells w a t members) where
    member-once : (m : ℕ) → number_of (λ (member : ℕ). member == m) members ≤ 1
    member-once m = apart-once (λ (x y : ℕ). x == y) (λ x. x == m) members (one_member m) ready.quorum.apart

    roomy : NoneDropped asking.0 × ((m : ℕ) → cells_held (facts_of first.world.ledger m) ≤ cells_held (facts_of w.ledger m) + votes_at m trip.asked)
    roomy =
        all-roomy a t.tx trip.proposals trip.asked w first.world asking.0 ready.undecided.centre
        (named (proposal_of a) w trip.proposals trip.asked trip.proposals_are) accepting
        (ordered-once t.choices members trip.asked trip.asks_each ready.choices.apart ready.quorum.apart)
        (fitting w t.choices members trip.asked trip.asks_each member-once have.votes) asking.2

    commit-fits : cells_held (facts_of first.world.ledger a) + cells_needed (Fact.Heard t.tx (Outcome.Commit t.choices)) ≤ w.cluster.cells
    commit-fits =
        within (cells_held (facts_of first.world.ledger a)) (cells_held (facts_of w.ledger a)) (votes_at a trip.asked) (cells_of_votes t.choices)
        (cells_needed (Fact.Heard t.tx (Outcome.Commit t.choices))) w.cluster.cells
        (roomy.1 a) (shares-moved t.choices members trip.asked a trip.asks_each (member-once a)) have.commit
      where
        within : (now used own votes needed all : ℕ) → now ≤ used + own → own ≤ votes → used + votes + needed ≤ all → now + needed ≤ all
        within now used own votes needed all e h k = omega (arith, e, h, k)

    pub none-dropped : NoneDropped (first.lines ++ second.lines)
    none-dropped =
        each-append (λ line. is_dropped line ≡ false) first.lines second.lines
        (subst NoneDropped (sym asking.1) roomy.0) (subst NoneDropped (sym answering.1) (answers-kept roomy.0 commit-fits))

-- ---- as the laws say it

module _ (w : World) (a : ℕ) (t : Undecided) (members : List ℕ) (first second : Happened) (ready : IsReady w a t members) where
  asking-kept : (trip : IsRoundTrip w a t members first second) → NoneDropped (asking w a t members first second ready trip.deliveries).0
  asking-kept trip = subst NoneDropped (asking w a t members first second ready trip.deliveries).1 (each-front (λ line. is_dropped line ≡ false) first.lines second.lines trip.undropped)

  answering-kept : (trip : IsRoundTrip w a t members first second) → NoneDropped (answering w a t members first second ready trip.deliveries).0
  answering-kept trip = subst NoneDropped (answering w a t members first second ready trip.deliveries).1 (each-back (λ line. is_dropped line ≡ false) first.lines second.lines trip.undropped)

  pub votes-sent : (trip : IsRoundTrip w a t members first second) → messages_of first.world ≡ messages_of w ++ map (vote_of_member a) trip.deliveries.asked
  votes-sent trip = sent w a t members first second ready trip.deliveries (asking-kept trip)

  pub ends-with-commit : IsRoundTrip w a t members first second → EndsWithCommit a t.tx first.lines second.lines
  ends-with-commit trip = ends w a t members first second ready trip.deliveries (asking-kept trip) (answering-kept trip)

  pub cells-suffice : HaveCells w a t members → AreDelivered w a t members first second → NoneDropped (first.lines ++ second.lines)
  cells-suffice have trip = none-dropped w a t members first second ready trip have

  pub roomy-commits : HaveCells w a t members → AreDelivered w a t members first second → EndsWithCommit a t.tx first.lines second.lines
  roomy-commits have trip = ends-with-commit (record { deliveries = trip; undropped = cells-suffice have trip })
