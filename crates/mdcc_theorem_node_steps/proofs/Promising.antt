-- Promises, and votes for a leader, are well-formed.
use Rattle.std.proofs.Common.{◌≡◌, ℕ, ◌^◌, ◌&&◌, ◌||◌, ◌==◌, ◌<◌, ◌≤◌, Bool, true, cond, List, [], ◌∷◌, length, refl, inl, inr, Option, Some, None, is_some, filter, not, nat_le, nat_lt, arith}
use Rattle.std.specs.Int.{IsInRange}
use Rattle.std.specs.List.{AllByRecursion}
use Rattle.std.proofs.lemmas.Bool.{and_parts, cond_both, eqb-true, leb-true, or_cases}
use Rattle.mdcc_base.specs.Ballot.{ballot_eq, ballot_lt, fast_ballot}
use Rattle.mdcc_base.specs.Key.{key_eq}
use Rattle.mdcc_base.specs.declared.identifiers.Ballot.{Ballot}
use Rattle.mdcc_base.specs.declared.identifiers.TxId.{TxId}
use Rattle.mdcc_base.specs.declared.key.Key.{Key}
use Rattle.mdcc_option.specs.declared.choices.Mark.{Mark}
use Rattle.mdcc_option.specs.declared.cluster.Cluster.{Cluster}
use Rattle.mdcc_struct.specs.Maps.{value_of}
use Rattle.mdcc_struct.specs.declared.options.Options.{Options}
use Rattle.mdcc_struct.proofs.Walks.{ascending-filter}
use Rattle.mdcc_def_protocol.specs.Acceptor.{answer_to_marks, new_marks, promise_answer, range_end}
use Rattle.mdcc_def_rules.specs.AcceptorRules.{accept_step, accepted_step, all_votes_sent, prepare_step, prepared_step, promise_message, votes_sent}
use Rattle.mdcc_def_ledger.specs.BootTest.{are_allowed_facts, is_allowed_fact, is_allowed_kind}
use Rattle.mdcc_def_protocol.specs.Facts.{ballot_voted, current_of, last_ballot, promise_of, promised_through, range_promised, votes_of, is_finished, is_forgotten, is_settled, shown_of}
use Rattle.mdcc_base.specs.Counts.{sum_over}
use Rattle.mdcc_def_messages.specs.Lengths.{fact_length}
use Rattle.mdcc_def_protocol.specs.Volatile.{Volatile}
use Rattle.mdcc_def_messages.specs.WellFormed.{IsWellFormedFact, IsWellFormedMessage}
use Rattle.mdcc_def_messages.specs.WellFormedParts.{IsWellFormedBallot, IsWellFormedClassic, IsWellFormedEntry, IsWellFormedInstance, IsWellFormedOptions, IsWellFormedTx}
use Rattle.mdcc_def_protocol.specs.declared.acceptor.AcceptAnswer.{AcceptAnswer}
use Rattle.mdcc_def_protocol.specs.declared.acceptor.PrepareAnswer.{PrepareAnswer}
use Rattle.mdcc_def_messages.specs.declared.facts.Fact.{Fact}
use Rattle.mdcc_def_messages.specs.declared.messages.Message.{Message}
use Rattle.mdcc_theorem_node_steps.specs.WellFormedVolatile.{AreNodeFacts, IsWellFormedVolatile}
use Rattle.mdcc_theorem_node_steps.proofs.Adding.{classic-not_fast}
use Rattle.mdcc_theorem_node_steps.proofs.Cells.{votes-few}
use Rattle.mdcc_theorem_node_steps.proofs.Each.{each-kept}
use Rattle.mdcc_theorem_node_steps.proofs.Formed.{IsFormed, IsFormedKept}
use Rattle.mdcc_theorem_node_steps.proofs.Held.{HoldsIn, holds-or}
use Rattle.mdcc_theorem_node_steps.proofs.Outcomes.{entry-tx}
use Rattle.mdcc_theorem_node_steps.proofs.Sending.{IsGoodSent, each-flat_map, each-to, sent-one}
use Rattle.mdcc_theorem_node_steps.proofs.Told.{greater-ballot, marks-ascending, marks-told, promise-told}

-- ---- the ballot that is reported

reported-here : (key : Key) (version : ℕ) (below : Ballot) (fact : Fact) → IsWellFormedFact fact → IsWellFormedBallot (ballot_voted key version below fact)
reported-here key version below (Fact.Voted key' version' ballot options offered) w =
    cond_both (version' == version && ballot_lt ballot below && key_eq key' key) ballot fast_ballot IsWellFormedBallot (λ e. w.ballot_itself) (λ e. inl refl)
reported-here key version below (Fact.Booted epoch) w = inl refl
reported-here key version below (Fact.Floor origin era upto) w = inl refl
reported-here key version below (Fact.Promised key' low high ballot) w = inl refl
reported-here key version below (Fact.Heard tx outcome) w = inl refl
reported-here key version below (Fact.Adopted key' version' item adds) w = inl refl

reported-told : (facts : List Fact) (key : Key) (version : ℕ) (below : Ballot) → AllByRecursion IsWellFormedFact facts → IsWellFormedBallot (last_ballot facts key version below)
reported-told [] key version below w = inl refl
reported-told (fact ∷ facts) key version below w =
    greater-ballot (last_ballot facts key version below) (ballot_voted key version below fact) (reported-told facts key version below w.1) (reported-here key version below fact w.0)

-- ---- the range that was promised

abbrev pub IsRangeFrom : ℕ → ℕ → Type 0
IsRangeFrom version high = (version ≤ high) × (high < 2 ^ 64)

range-up : (high low : ℕ) (b : Bool) → (high == low || (nat_le low high && b)) ≡ true → low ≤ high
range-up high low b h =
    elim (or_cases (high == low) (nat_le low high && b) h) [
      | inl e ↦ let same : high ≡ low = eqb-true high low e in omega arith
      | inr e ↦ leb-true low high (and_parts (nat_le low high) b e).0
    ]

range-here : (cluster : Cluster) (facts : List Fact) (key : Key) (version : ℕ) (ballot : Ballot) (fact : Fact) → IsWellFormedFact fact → is_allowed_kind cluster facts fact ≡ true
    → HoldsIn (IsRangeFrom version) (range_promised key version ballot fact)
range-here cluster facts key version ballot (Fact.Promised key' low high ballot') w h =
    cond_both (low == version && ballot_eq ballot' ballot && key_eq key' key) (Some high) None (HoldsIn (IsRangeFrom version))
    (λ e.
    let same : low ≡ version = eqb-true low version (and_parts (low == version) (ballot_eq ballot' ballot) (and_parts (low == version && ballot_eq ballot' ballot) (key_eq key' key) e).0).0 in
    let up : low ≤ high = range-up high low (nat_le (current_of facts key') low) (and_parts _ (high == low || (nat_le low high && nat_le (current_of facts key') low)) h).1 in
    (omega arith, w.high_fits))
    (λ e. tt)
range-here cluster facts key version ballot (Fact.Booted epoch) w h = tt
range-here cluster facts key version ballot (Fact.Floor origin era upto) w h = tt
range-here cluster facts key version ballot (Fact.Voted key' version' ballot' options offered) w h = tt
range-here cluster facts key version ballot (Fact.Heard tx outcome) w h = tt
range-here cluster facts key version ballot (Fact.Adopted key' version' item adds) w h = tt

range-told : (cluster : Cluster) (facts : List Fact) (key : Key) (version : ℕ) (ballot : Ballot) → AllByRecursion IsWellFormedFact facts → are_allowed_facts cluster facts ≡ true
    → HoldsIn (IsRangeFrom version) (promised_through facts key version ballot)
range-told cluster [] key version ballot w h = tt
range-told cluster (fact ∷ facts) key version ballot w h =
    let both = and_parts (are_allowed_facts cluster facts) (is_allowed_fact cluster facts fact) h in
    holds-or (IsRangeFrom version) (promised_through facts key version ballot) (range_promised key version ballot fact) (range-told cluster facts key version ballot w.1 both.0)
    (range-here cluster facts key version ballot fact w.0 (and_parts _ (is_allowed_kind cluster facts fact) both.1).1)

range-new : (facts : List Fact) (key : Key) (version through : ℕ) → IsRangeFrom version through → version < 2 ^ 64 → IsRangeFrom version (range_end facts key version through)
range-new facts key version through h k =
    cond_both (nat_le (current_of facts key) version) through version (IsRangeFrom version) (λ e. h) (λ e. (omega arith, k))

filter-few : {X : Type 0} (test : X → Bool) (xs : List X) → length (filter test xs) ≤ length xs
filter-few test [] = omega arith
filter-few {X = X} test (x ∷ xs) =
    cond_both (test x) (x ∷ filter test xs) (filter test xs) (λ (ys : List X). length ys ≤ length (x ∷ xs)) (λ e. omega (arith, filter-few test xs)) (λ e. omega (arith, filter-few test xs))

-- ---- promises

module _ (cluster : Cluster) (me : ℕ) (facts : List Fact) (volatile : Volatile) (of_me : IsInRange 1 9 me) (known : AreNodeFacts cluster facts) (room : sum_over fact_length facts < 2 ^ 32)
    (kept : IsWellFormedVolatile volatile) where
  report-formed : (key : Key) (version : ℕ) (ballot : Ballot) → IsWellFormedOptions key version (shown_of facts key version ballot)
  report-formed key version ballot =
      let shown : TxId × Mark → Bool = λ e. not (is_forgotten facts key version e.0) in
      record {
        count = omega (arith, votes-few facts key version ballot room, filter-few shown (votes_of facts key version ballot));
        each = each-kept (λ (e : TxId × Mark). IsWellFormedEntry key version e.0 e.1) shown (votes_of facts key version ballot) (marks-told facts key version ballot known.well_formed);
        ascending = ascending-filter shown (votes_of facts key version ballot) (marks-ascending facts key version ballot);
      }

  promise-formed : (key : Key) (version high : ℕ) (ballot : Ballot) → IsWellFormedInstance key version → IsRangeFrom version high → IsWellFormedClassic ballot
      → IsWellFormedMessage (promise_message facts key version high ballot)
  promise-formed key version high ballot w h c = record {
    prepare = record { instance = w; not_below = h.0; through_fits = h.1; classic = c };
    reported_itself = reported-told facts key version ballot known.well_formed;
    votes_itself = rw (classic-not_fast ballot c) (report-formed key version (last_ballot facts key version ballot));
  }

  pub prepare-formed : (l : ℕ) (key : Key) (version through : ℕ) (ballot : Ballot) → IsInRange 1 9 l → IsWellFormedInstance key version → IsRangeFrom version through → IsWellFormedClassic ballot
      → IsFormed (prepare_step me facts volatile l key version through ballot)
  prepare-formed l key version through ballot of_l w h c =
      cond_both (ballot_lt ballot (promise_of facts key version)) (PrepareAnswer.Refused (promise_of facts key version))
      (promise_answer (promised_through facts key version ballot) (range_end facts key version through))
      (λ (answer : PrepareAnswer). IsFormed (prepared_step me facts volatile l key version ballot answer))
      (λ e. (
        tt,
        sent-one me l (Message.Refused key version ballot (promise_of facts key version)) tt of_me of_l
            (record { instance = w; classic = c; promised_itself = promise-told facts key version known.well_formed }),
        kept.opened,
        kept.leads,
      ))
      (λ e. by_promise (promised_through facts key version ballot) (range-told cluster facts key version ballot known.well_formed known.allowed))
    where
      by_promise : (o : Option ℕ) → HoldsIn (IsRangeFrom version) o → IsFormed (prepared_step me facts volatile l key version ballot (promise_answer o (range_end facts key version through)))
      by_promise (Some high) k = (tt, sent-one me l (promise_message facts key version high ballot) tt of_me of_l (promise-formed key version high ballot w k c), kept.opened, kept.leads)
      by_promise None k =
          let r = range-new facts key version through h w.version_fits in (
            record { instance = w; high_fits = r.1; ballot_itself = inr c },
            sent-one me l (promise_message facts key version (range_end facts key version through) ballot) tt of_me of_l (promise-formed key version (range_end facts key version through) ballot w r c),
            kept.opened,
            kept.leads,
          )

module _ (cluster : Cluster) (me : ℕ) (facts : List Fact) (volatile : Volatile) (of_me : IsInRange 1 9 me) (known : AreNodeFacts cluster facts) (kept : IsWellFormedVolatile volatile) where
  -- what a prepare leaves and adds, whatever the room
  pub prepare-kept : (l : ℕ) (key : Key) (version through : ℕ) (ballot : Ballot) → IsWellFormedInstance key version → IsRangeFrom version through → IsWellFormedClassic ballot
      → IsFormedKept (prepare_step me facts volatile l key version through ballot)
  prepare-kept l key version through ballot w h c =
      cond_both (ballot_lt ballot (promise_of facts key version)) (PrepareAnswer.Refused (promise_of facts key version))
      (promise_answer (promised_through facts key version ballot) (range_end facts key version through))
      (λ (answer : PrepareAnswer). IsFormedKept (prepared_step me facts volatile l key version ballot answer))
      (λ e. (tt, kept.opened, kept.leads)) (λ e. by_promise (promised_through facts key version ballot))
    where
      by_promise : (o : Option ℕ) → IsFormedKept (prepared_step me facts volatile l key version ballot (promise_answer o (range_end facts key version through)))
      by_promise (Some high) = (tt, kept.opened, kept.leads)
      by_promise None =
          let r = range-new facts key version through h w.version_fits in
          (record { instance = w; high_fits = r.1; ballot_itself = inr c }, kept.opened, kept.leads)

  -- ---- votes

  sent-mark : (key : Key) (version : ℕ) (ballot : Ballot) (e : TxId × Mark) → IsWellFormedInstance key version → IsWellFormedClassic ballot → IsWellFormedEntry key version e.0 e.1
      → AllByRecursion IsGoodSent (votes_sent me key version ballot e)
  sent-mark key version ballot (tx, mark) w c h =
      let of_tx : IsWellFormedTx tx = entry-tx key version tx mark h in
      each-to (cond (tx.centre == ballot.centre) (tx.centre ∷ []) (tx.centre ∷ ballot.centre ∷ [])) me (Message.Voted key version ballot tx mark) tt
      (cond_both (tx.centre == ballot.centre) (tx.centre ∷ []) (tx.centre ∷ ballot.centre ∷ []) (λ (centres : List ℕ). AllByRecursion (IsInRange 1 9) centres)
      (λ e. (of_tx.centre, tt)) (λ e. (of_tx.centre, (c.centre, tt))))
      of_me (record { instance = w; ballot_itself = inr c; entry = h })

  sent-marks : (key : Key) (version : ℕ) (ballot : Ballot) (options : Options) → IsWellFormedInstance key version → IsWellFormedClassic ballot
      → AllByRecursion (λ e. IsWellFormedEntry key version e.0 e.1) options → AllByRecursion IsGoodSent (all_votes_sent me facts key version ballot options)
  sent-marks key version ballot options w c h =
      each-flat_map (λ (e : TxId × Mark). IsWellFormedEntry key version e.0 e.1) IsGoodSent (votes_sent me key version ballot) (filter (λ e. not (is_settled facts e.0)) options)
      (λ e k. sent-mark key version ballot e w c k) (each-kept (λ (e : TxId × Mark). IsWellFormedEntry key version e.0 e.1) (λ e. not (is_settled facts e.0)) options h)

  abbrev is_new : Key → ℕ → Ballot → TxId × Mark → Bool
  is_new key version ballot e = not (is_some (value_of (votes_of facts key version ballot) e.0) || is_finished facts e.0)

  new-formed : (key : Key) (version : ℕ) (ballot : Ballot) (options : Options) → IsWellFormedOptions key version options → IsWellFormedOptions key version (new_marks facts key version ballot options)
  new-formed key version ballot options h = record {
    count = omega (arith, h.count, filter-few (is_new key version ballot) options);
    each = each-kept (λ (e : TxId × Mark). IsWellFormedEntry key version e.0 e.1) (is_new key version ballot) options h.each;
    ascending = ascending-filter (is_new key version ballot) options h.ascending;
  }

  pub accept-formed : (l : ℕ) (key : Key) (version : ℕ) (ballot : Ballot) (options : Options) → IsInRange 1 9 l → IsWellFormedInstance key version → IsWellFormedClassic ballot
      → IsWellFormedOptions key version options → IsFormed (accept_step me facts volatile l key version ballot options)
  accept-formed l key version ballot options of_l w c h =
      cond_both (ballot_lt ballot (promise_of facts key version)) (AcceptAnswer.Refused (promise_of facts key version)) _
      (λ (answer : AcceptAnswer). IsFormed (accepted_step me facts volatile l key version ballot options answer))
      (λ e. (
        tt,
        sent-one me l (Message.Refused key version ballot (promise_of facts key version)) tt of_me of_l
            (record { instance = w; classic = c; promised_itself = promise-told facts key version known.well_formed }),
        kept.opened,
        kept.leads,
      ))
      (λ e. cond_both (nat_lt (current_of facts key) version) (AcceptAnswer.Behind (current_of facts key)) (answer_to_marks (new_marks facts key version ballot options))
      (λ (answer : AcceptAnswer). IsFormed (accepted_step me facts volatile l key version ballot options answer))
      (λ f. (tt, sent-one me l (Message.SyncAsk key) tt of_me of_l w.key_itself, kept.opened, kept.leads))
      (λ f. by_marks (new_marks facts key version ballot options)))
    where
      by_marks : (marks : Options) → IsFormed (accepted_step me facts volatile l key version ballot options (answer_to_marks marks))
      by_marks [] = (tt, sent-marks key version ballot options w c h.each, kept.opened, kept.leads)
      by_marks (e ∷ es) =
          let marks = new-formed key version ballot options h in (
            record { instance = w; ballot_itself = inr c; options_itself = marks; offered_itself = tt },
            sent-marks key version ballot (new_marks facts key version ballot options) w c marks.each,
            kept.opened,
            kept.leads,
          )
