-- The test of a fact decides whether it may be added.
use Rattle.std.proofs.Common.{◌≡◌, ℕ, true, not, ◌&&◌, ◌||◌, nat_lt, List, [], ◌∷◌, ◌++◌, length, refl, sym, ap, Option, Some, None, is_some, Decides, ◌+◌}
use Rattle.std.proofs.lemmas.Bool.{and_parts, and_from}
use Rattle.std.proofs.lemmas.Bool.Decides.{Decides-eqb, Decides-ltb, Decides-and, Decides-or, Decides-like}
use Rattle.mdcc_base.specs.declared.identifiers.Ballot.{Ballot}
use Rattle.mdcc_base.specs.declared.identifiers.TxId.{TxId}
use Rattle.mdcc_base.specs.declared.key.Key.{Key}
use Rattle.mdcc_base.specs.Ballot.{ballot_lt, is_fast}
use Rattle.mdcc_base.specs.Counts.{number_of}
use Rattle.mdcc_option.specs.declared.choices.Choice.{Choice}
use Rattle.mdcc_option.specs.declared.choices.Mark.{Mark}
use Rattle.mdcc_option.specs.declared.choices.Outcome.{Outcome}
use Rattle.mdcc_option.specs.declared.cluster.Cluster.{Cluster}
use Rattle.mdcc_option.specs.declared.items.Delta.{Delta}
use Rattle.mdcc_option.specs.declared.items.Item.{Item}
use Rattle.mdcc_option.proofs.Equal.{Decides-tx, Decides-key, Decides-mark}
use Rattle.mdcc_struct.specs.Maps.{value_of}
use Rattle.mdcc_struct.specs.declared.options.Options.{Options}
use Rattle.mdcc_def_protocol.specs.Acceptor.{vote_on}
use Rattle.mdcc_def_ledger.specs.AllowedFacts.{MayPromise, MayVoteFast, IsFastVote, are_apart, MayVoteClassic, MayHear, MayAdopt, MaySetFloor, is_booted, MayAddKind, MayAdd}
use Rattle.mdcc_def_ledger.specs.BootTest.{is_allowed_promise, is_answer, is_allowed_mark, is_allowed_fast_vote, is_allowed_classic_vote, is_allowed_kind, is_allowed_fact, are_allowed_facts}
use Rattle.mdcc_def_protocol.specs.Belongs.{fact_belongs}
use Rattle.mdcc_def_protocol.specs.Facts.{are_heard, current_of, epoch_of, floor_of, heard_of, is_finished, promise_of, promised_through, vote_of, votes_of}
use Rattle.mdcc_def_protocol.specs.News.{is_crowding, is_news}
use Rattle.mdcc_def_protocol.specs.declared.acceptor.ProposeAnswer.{ProposeAnswer}
use Rattle.mdcc_def_messages.specs.declared.facts.Fact.{Fact}
use Rattle.mdcc_theorem_ledger.proofs.TestsDecide.{Decides-true, Decides-false, Decides-none, Decides-leb, Decides-if, Decides-fast, Decides-kept_all}

-- ---- promises

pub Decides-promise : (facts : List Fact) (key : Key) (low high : ℕ) (ballot : Ballot) → Decides (is_allowed_promise facts key low high ballot) (MayPromise facts key low high ballot)
Decides-promise facts key low high ballot =
    Decides-like (is_allowed_promise facts key low high ballot)
    (λ h. record { classic = h.0.0.0; not_below = h.0.0.1; is_new = h.0.1; range = h.1 })
    (λ m. (((m.classic, m.not_below), m.is_new), m.range))
    (Decides-and _ _ (Decides-and _ _ (Decides-and _ _
    (Decides-false (is_fast ballot))
    (Decides-false (ballot_lt ballot (promise_of facts key low))))
    (Decides-none (promised_through facts key low ballot)))
    (Decides-or _ _ (Decides-eqb high low) (Decides-and _ _ (Decides-leb low high) (Decides-leb (current_of facts key) low))))

-- ---- votes at the fast ballot

Decides-answer : (mark : Mark) (answer : ProposeAnswer) → Decides (is_answer mark answer) (answer ≡ ProposeAnswer.Vote mark)
Decides-answer mark (ProposeAnswer.Vote other) =
    (λ e. ap ProposeAnswer.Vote (sym ((Decides-mark mark other).0 e)), λ e. (Decides-mark mark other).1 cc)
Decides-answer mark _ = (λ e. cc, λ e. cc)

Decides-voted : (cluster : Cluster) (facts : List Fact) (key : Key) (version : ℕ) (tx : TxId) (mark : Mark) (choice : Choice)
    → Decides (is_allowed_mark cluster facts key version tx mark choice) (MayVoteFast cluster facts key version tx mark choice)
Decides-voted cluster facts key version tx mark choice =
    Decides-like (is_allowed_mark cluster facts key version tx mark choice)
    (λ h. record {
      of_tx = h.0.0.0.0.0.0.0.0;
      of_version = h.0.0.0.0.0.0.0.1;
      of_key = h.0.0.0.0.0.0.1;
      held = h.0.0.0.0.0.1;
      unpromised = h.0.0.0.0.1;
      unvoted = h.0.0.0.1;
      unheard = h.0.0.1;
      unfinished = h.0.1;
      answer = h.1;
    })
    (λ m. ((((((((m.of_tx, m.of_version), m.of_key), m.held), m.unpromised), m.unvoted), m.unheard), m.unfinished), m.answer))
    (Decides-and _ _ (Decides-and _ _ (Decides-and _ _ (Decides-and _ _ (Decides-and _ _ (Decides-and _ _ (Decides-and _ _ (Decides-and _ _
    (Decides-tx choice.tx tx)
    (Decides-eqb choice.version version))
    (Decides-key choice.key key))
    (Decides-leb version (current_of facts key)))
    (Decides-fast (promise_of facts key version)))
    (Decides-none (vote_of facts key version tx)))
    (Decides-none (heard_of facts tx)))
    (Decides-false (is_finished facts tx)))
    (Decides-answer mark (vote_on cluster facts choice)))

Decides-fast_vote : (cluster : Cluster) (facts : List Fact) (key : Key) (version : ℕ) (options : Options) (offered : Option Choice)
    → Decides (is_allowed_fast_vote cluster facts key version options offered) (IsFastVote cluster facts key version options offered)
Decides-fast_vote cluster facts key version ((tx, Mark.Accept choice) ∷ []) None = Decides-voted cluster facts key version tx (Mark.Accept choice) choice
Decides-fast_vote cluster facts key version ((tx, Mark.Reject) ∷ []) (Some choice) = Decides-voted cluster facts key version tx Mark.Reject choice
Decides-fast_vote cluster facts key version _ _ = (λ e. absurd cc, λ h. absurd h)

-- ---- votes at a classic ballot

Decides-classic_vote : (facts : List Fact) (key : Key) (version : ℕ) (ballot : Ballot) (options : Options) (offered : Option Choice)
    → Decides (is_allowed_classic_vote facts key version ballot options offered) (MayVoteClassic facts key version ballot options offered)
Decides-classic_vote facts key version ballot options offered =
    Decides-like (is_allowed_classic_vote facts key version ballot options offered)
    (λ h. record { not_below = h.0.0.0.0.0; held = h.0.0.0.0.1; some_mark = h.0.0.0.1; apart = h.0.0.1; each_new = h.0.1; no_offer = h.1 })
    (λ m. (((((m.not_below, m.held), m.some_mark), m.apart), m.each_new), m.no_offer))
    (Decides-and _ _ (Decides-and _ _ (Decides-and _ _ (Decides-and _ _ (Decides-and _ _
    (Decides-false (ballot_lt ballot (promise_of facts key version)))
    (Decides-leb version (current_of facts key)))
    (Decides-ltb 0 (length options)))
    (Decides-true (are_apart options)))
    (Decides-kept_all (λ e. not (is_some (value_of (votes_of facts key version ballot) e.0) || is_finished facts e.0)) options))
    (Decides-none offered))

-- ---- what is heard or adopted

Decides-heard : (facts : List Fact) (tx : TxId) (outcome : Outcome)
    → Decides (not (is_some (heard_of facts tx)) && not (is_finished facts tx) && not (is_crowding facts (Fact.Heard tx outcome))) (MayHear facts tx outcome)
Decides-heard facts tx outcome =
    Decides-like (not (is_some (heard_of facts tx)) && not (is_finished facts tx) && not (is_crowding facts (Fact.Heard tx outcome)))
    (λ h. record { unheard = h.0.0; unfinished = h.0.1; room = h.1 }) (λ m. ((m.unheard, m.unfinished), m.room))
    (Decides-and _ _ (Decides-and _ _
    (Decides-none (heard_of facts tx)) (Decides-false (is_finished facts tx))) (Decides-false (is_crowding facts (Fact.Heard tx outcome))))

Decides-adopted : (facts : List Fact) (key : Key) (version : ℕ) (item : Item) (adds : List Delta)
    → Decides (is_news facts key version adds && not (is_crowding facts (Fact.Adopted key version item adds))) (MayAdopt facts key version item adds)
Decides-adopted facts key version item adds =
    Decides-like (is_news facts key version adds && not (is_crowding facts (Fact.Adopted key version item adds)))
    (λ h. record { news = h.0; room = h.1 }) (λ m. (m.news, m.room))
    (Decides-and _ _ (Decides-true (is_news facts key version adds)) (Decides-false (is_crowding facts (Fact.Adopted key version item adds))))

-- ---- floors

Decides-floor : (facts : List Fact) (centre epoch seq : ℕ)
    → Decides (nat_lt (floor_of facts centre epoch) seq && are_heard facts centre epoch seq) (MaySetFloor facts centre epoch seq)
Decides-floor facts centre epoch seq =
    Decides-like (nat_lt (floor_of facts centre epoch) seq && are_heard facts centre epoch seq)
    (λ h. record { above = h.0; heard = h.1 }) (λ m. (m.above, m.heard))
    (Decides-and _ _ (Decides-ltb (floor_of facts centre epoch) seq) (Decides-true (are_heard facts centre epoch seq)))

-- ---- facts

Decides-kind : (cluster : Cluster) (facts : List Fact) (fact : Fact) → Decides (is_allowed_kind cluster facts fact) (MayAddKind cluster facts fact)
Decides-kind cluster facts (Fact.Booted epoch) = Decides-eqb epoch (number_of is_booted facts + 1)
Decides-kind cluster facts (Fact.Promised key low high ballot) = Decides-promise facts key low high ballot
Decides-kind cluster facts (Fact.Voted key version ballot options offered) =
    Decides-if (is_fast ballot) _ _ (Decides-fast_vote cluster facts key version options offered)
    (Decides-classic_vote facts key version ballot options offered)
Decides-kind cluster facts (Fact.Heard tx outcome) = Decides-heard facts tx outcome
Decides-kind cluster facts (Fact.Adopted key version item adds) = Decides-adopted facts key version item adds
Decides-kind cluster facts (Fact.Floor centre epoch seq) = Decides-floor facts centre epoch seq

pub Decides-fact : (cluster : Cluster) (facts : List Fact) (fact : Fact) → Decides (is_allowed_fact cluster facts fact) (MayAdd cluster facts fact)
Decides-fact cluster facts fact =
    Decides-like (is_allowed_fact cluster facts fact)
    (λ h. record { belongs = h.0.0; booted_first = h.0.1; kind = h.1 }) (λ m. ((m.belongs, m.booted_first), m.kind))
    (Decides-and _ _ (Decides-and _ _
    (Decides-true (fact_belongs cluster fact))
    (Decides-true (is_booted fact || nat_lt 0 (epoch_of facts))))
    (Decides-kind cluster facts fact))

-- ---- all facts of a centre

-- where all pass, each might be added after those before it
each_earlier : (cluster : Cluster) (facts : List Fact) → are_allowed_facts cluster facts ≡ true
    → (later earlier : List Fact) (fact : Fact) → facts ≡ later ++ fact ∷ earlier → MayAdd cluster earlier fact
each_earlier cluster [] h [] earlier fact e = absurd cc
each_earlier cluster [] h (l ∷ later) earlier fact e = absurd cc
each_earlier cluster (f ∷ fs) h [] earlier fact e =
    let parts : (are_allowed_facts cluster fs ≡ true) × (is_allowed_fact cluster fs f ≡ true) = and_parts _ _ h in
    let first : f ≡ fact = cc in
    let rest : fs ≡ earlier = cc in
    rw (← first, ← rest) ((Decides-fact cluster fs f).0 parts.1)
each_earlier cluster (f ∷ fs) h (l ∷ later) earlier fact e =
    let parts : (are_allowed_facts cluster fs ≡ true) × (is_allowed_fact cluster fs f ≡ true) = and_parts _ _ h in
    let rest : fs ≡ later ++ fact ∷ earlier = cc in
    each_earlier cluster fs parts.0 later earlier fact rest

-- where each might be, all pass
from_each : (cluster : Cluster) (facts : List Fact)
    → ((later earlier : List Fact) (fact : Fact) → facts ≡ later ++ fact ∷ earlier → MayAdd cluster earlier fact)
    → are_allowed_facts cluster facts ≡ true
from_each cluster [] each = refl
from_each cluster (f ∷ fs) each =
    and_from _ _ (from_each cluster fs (λ later earlier fact e. each (f ∷ later) earlier fact (ap (λ (gs : List Fact). f ∷ gs) e)))
    ((Decides-fact cluster fs f).1 (each [] fs f refl))

pub Decides-facts : (cluster : Cluster) (facts : List Fact)
    → Decides (are_allowed_facts cluster facts) ((later earlier : List Fact) (fact : Fact) → facts ≡ later ++ fact ∷ earlier → MayAdd cluster earlier fact)
Decides-facts cluster facts = (each_earlier cluster facts, from_each cluster facts)
