-- Floors say nothing of promises, votes, outcomes and versions: these questions of facts are the same of the facts without them.
use Rattle.std.proofs.Common.{◌≡◌, ◌∷◌, [], ℕ, Bool, false, List, Option, None, Some, is_some, length, max, option_map, refl, sym, ap, ◌∙◌, arith}
use Rattle.std.specs.List.{filter, list_any}
use Rattle.std.specs.Option.{option_or}
use Rattle.std.specs.Prelude.{if◌then◌else◌, nat_lt, not, ◌==◌, ◌||◌}
use Rattle.mdcc_base.specs.Ballot.{ballot_max}
use Rattle.mdcc_base.specs.declared.identifiers.Ballot.{Ballot}
use Rattle.mdcc_base.specs.declared.identifiers.TxId.{TxId}
use Rattle.mdcc_base.specs.declared.key.Key.{Key}
use Rattle.mdcc_option.specs.declared.choices.Mark.{Mark}
use Rattle.mdcc_struct.specs.Maps.{union, value_of}
use Rattle.mdcc_def_messages.specs.declared.facts.Fact.{Fact}
use Rattle.mdcc_def_protocol.specs.Facts.{ballot_promised, ballot_voted, base_at, base_from, base_of, choice_voted, current_of, deltas_at, deltas_from, epoch_of, executed_of, first_choice_voted, heard_of, is_floor, is_heard, last_ballot, last_vote, later_vote, mark_voted, marks_voted, outcome_in, promise_of, promised_through, range_promised, version_from, votes_of, write_sets_from, write_sets_of}
use Rattle.mdcc_def_protocol.specs.News.{is_crowding, keys_in}
use Rattle.mdcc_def_protocol.specs.Plain.{plain_live_and_void, plain_live_from, plain_unresolved_of}
use Rattle.mdcc_def_protocol.specs.Stores.{delta_of}
use Rattle.mdcc_theorem_fact_folds.proofs.Chosen.{max_right, or_right}
use Rattle.mdcc_theorem_fact_folds.specs.Promises.{next_epoch}
use Rattle.mdcc_theorem_fact_folds.proofs.Walked.{epoch-updates}
use Rattle.mdcc_given_back.specs.Counted.{without_floors}

stepped : {A : Type 0} (asked : List Fact → A) (step : A → Fact → A) → ((fact : Fact) (facts : List Fact) → asked (fact ∷ facts) ≡ step (asked facts) fact)
    → (fact : Fact) (facts : List Fact) → asked (without_floors facts) ≡ asked facts → asked (fact ∷ without_floors facts) ≡ asked (fact ∷ facts)
stepped asked step steps fact facts same = steps fact (without_floors facts) ∙ ap (λ a. step a fact) same ∙ sym (steps fact facts)

-- a question that is answered fact by fact, the older ones first, and in which a floor changes nothing
ignores : {A : Type 0} (asked : List Fact → A) (step : A → Fact → A) → ((fact : Fact) (facts : List Fact) → asked (fact ∷ facts) ≡ step (asked facts) fact)
    → ((centre epoch seq : ℕ) (a : A) → step a (Fact.Floor centre epoch seq) ≡ a) → (facts : List Fact) → asked (without_floors facts) ≡ asked facts
ignores asked step steps same [] = refl
ignores asked step steps same (Fact.Floor centre epoch seq ∷ facts) =
    ignores asked step steps same facts ∙ sym (steps (Fact.Floor centre epoch seq) facts ∙ same centre epoch seq (asked facts))
ignores asked step steps same (Fact.Booted e ∷ facts) = stepped asked step steps (Fact.Booted e) facts (ignores asked step steps same facts)
ignores asked step steps same (Fact.Promised key low high ballot ∷ facts) = stepped asked step steps (Fact.Promised key low high ballot) facts (ignores asked step steps same facts)
ignores asked step steps same (Fact.Voted key version ballot options offered ∷ facts) =
    stepped asked step steps (Fact.Voted key version ballot options offered) facts (ignores asked step steps same facts)
ignores asked step steps same (Fact.Heard tx outcome ∷ facts) = stepped asked step steps (Fact.Heard tx outcome) facts (ignores asked step steps same facts)
ignores asked step steps same (Fact.Adopted key version item adds ∷ facts) = stepped asked step steps (Fact.Adopted key version item adds) facts (ignores asked step steps same facts)

pub promise-same : (facts : List Fact) (key : Key) (version : ℕ) → promise_of (without_floors facts) key version ≡ promise_of facts key version
promise-same facts key version =
    ignores (λ fs. promise_of fs key version) (λ p fact. ballot_max p (ballot_promised key version fact)) (λ fact fs. refl) (λ c e s p. max_right p) facts

pub range-same : (facts : List Fact) (key : Key) (version : ℕ) (ballot : Ballot) → promised_through (without_floors facts) key version ballot ≡ promised_through facts key version ballot
range-same facts key version ballot =
    ignores (λ fs. promised_through fs key version ballot) (λ o fact. option_or o (range_promised key version ballot fact)) (λ fact fs. refl) (λ c e s o. or_right o) facts

pub ballot-same : (facts : List Fact) (key : Key) (version : ℕ) (below : Ballot) → last_ballot (without_floors facts) key version below ≡ last_ballot facts key version below
ballot-same facts key version below =
    ignores (λ fs. last_ballot fs key version below) (λ b fact. ballot_max b (ballot_voted key version below fact)) (λ fact fs. refl) (λ c e s b. max_right b) facts

pub epoch-same : (facts : List Fact) → epoch_of (without_floors facts) ≡ epoch_of facts
epoch-same facts = ignores epoch_of (λ e fact. next_epoch fact e) (λ fact fs. epoch-updates fs fact) (λ c e s last. refl) facts

pub heard-same : (facts : List Fact) (tx : TxId) → heard_of (without_floors facts) tx ≡ heard_of facts tx
heard-same facts tx = ignores (λ fs. heard_of fs tx) (λ o fact. option_or o (outcome_in tx fact)) (λ fact fs. refl) (λ c e s o. or_right o) facts

pub current-same : (facts : List Fact) (key : Key) → current_of (without_floors facts) key ≡ current_of facts key
current-same facts key = ignores (λ fs. current_of fs key) (λ v fact. max v (version_from key fact)) (λ fact fs. refl) (λ c e s v. omega arith) facts

pub base-same : (facts : List Fact) (key : Key) (version : ℕ) → base_at (without_floors facts) key version ≡ base_at facts key version
base-same facts key version = ignores (λ fs. base_at fs key version) (λ o fact. option_or o (base_from key version fact)) (λ fact fs. refl) (λ c e s o. or_right o) facts

pub deltas-same : (facts : List Fact) (key : Key) (version : ℕ) → deltas_at (without_floors facts) key version ≡ deltas_at facts key version
deltas-same facts key version = ignores (λ fs. deltas_at fs key version) (λ m fact. union m (deltas_from key version fact)) (λ fact fs. refl) (λ c e s m. refl) facts

pub votes-same : (facts : List Fact) (key : Key) (version : ℕ) (ballot : Ballot) → votes_of (without_floors facts) key version ballot ≡ votes_of facts key version ballot
votes-same facts key version ballot = ignores (λ fs. votes_of fs key version ballot) (λ m fact. union m (marks_voted key version ballot fact)) (λ fact fs. refl) (λ c e s m. refl) facts

later-none : (o : Option (Ballot × Mark)) → later_vote o None ≡ o
later-none None = refl
later-none (Some vote) = refl

pub vote-same : (facts : List Fact) (key : Key) (version : ℕ) (tx : TxId) → last_vote (without_floors facts) key version tx ≡ last_vote facts key version tx
vote-same facts key version tx = ignores (λ fs. last_vote fs key version tx) (λ o fact. later_vote o (mark_voted key version tx fact)) (λ fact fs. refl) (λ c e s o. later-none o) facts

pub choice-same : (facts : List Fact) (key : Key) (version : ℕ) (tx : TxId) → first_choice_voted (without_floors facts) key version tx ≡ first_choice_voted facts key version tx
choice-same facts key version tx = ignores (λ fs. first_choice_voted fs key version tx) (λ o fact. option_or o (choice_voted key version tx fact)) (λ fact fs. refl) (λ c e s o. or_right o) facts

pub write_sets-same : (facts : List Fact) → write_sets_of (without_floors facts) ≡ write_sets_of facts
write_sets-same facts = ignores write_sets_of (λ m fact. union m (write_sets_from fact)) (λ fact fs. refl) (λ c e s m. refl) facts

pub live-same : (facts : List Fact) (key : Key) (version : ℕ) → plain_live_and_void (without_floors facts) key version ≡ plain_live_and_void facts key version
live-same facts key version = ignores (λ fs. plain_live_and_void fs key version) (λ m fact. union m (plain_live_from key version fact)) (λ fact fs. refl) (λ c e s m. refl) facts

-- ---- what is answered with these

pub held-same : (facts : List Fact) (key : Key) → base_of (without_floors facts) key ≡ base_of facts key
held-same facts key =
    ap (λ version. if version == 0 then None else base_at (without_floors facts) key version) (current-same facts key)
    ∙ ap (λ base. if current_of facts key == 0 then None else base) (base-same facts key (current_of facts key))

pub executed-same : (facts : List Fact) (key : Key) → executed_of (without_floors facts) key ≡ executed_of facts key
executed-same facts key = ap (deltas_at (without_floors facts) key) (current-same facts key) ∙ deltas-same facts key (current_of facts key)

pub delta-same : (facts : List Fact) (key : Key) (tx : TxId) → delta_of (without_floors facts) key tx ≡ delta_of facts key tx
delta-same facts key tx = ap (λ deltas. option_map (λ amounts. record { tx = tx; amounts = amounts }) (value_of deltas tx)) (executed-same facts key)

crowd-same : (facts : List Fact) (fact : Fact) → is_floor fact ≡ false → is_crowding (without_floors facts) fact ≡ is_crowding facts fact
crowd-same facts fact other =
    let joined : without_floors (fact ∷ facts) ≡ fact ∷ without_floors facts = rw other refl in
    let each : (key : Key) → nat_lt 64 (length (executed_of (fact ∷ without_floors facts) key)) ≡ nat_lt 64 (length (executed_of (fact ∷ facts) key))
    = λ key. ap (λ fs. nat_lt 64 (length (executed_of fs key))) (sym joined) ∙ ap (λ deltas. nat_lt 64 (length deltas)) (executed-same (fact ∷ facts) key) in
    any-alike (keys_in fact) (λ key. nat_lt 64 (length (executed_of (fact ∷ without_floors facts) key))) (λ key. nat_lt 64 (length (executed_of (fact ∷ facts) key))) each
  where
    any-alike : (keys : List Key) (f g : Key → Bool) → ((key : Key) → f key ≡ g key) → list_any f keys ≡ list_any g keys
    any-alike [] f g alike = refl
    any-alike (key ∷ keys) f g alike = let first = alike key in let rest = any-alike keys f g alike in λ i. first i || rest i

pub crowding-same : (facts : List Fact) (fact : Fact) → is_crowding (without_floors facts) fact ≡ is_crowding facts fact
crowding-same facts (Fact.Floor centre epoch seq) = refl
crowding-same facts (Fact.Booted epoch) = crowd-same facts (Fact.Booted epoch) refl
crowding-same facts (Fact.Promised key low high ballot) = crowd-same facts (Fact.Promised key low high ballot) refl
crowding-same facts (Fact.Voted key version ballot options offered) = crowd-same facts (Fact.Voted key version ballot options offered) refl
crowding-same facts (Fact.Heard tx outcome) = crowd-same facts (Fact.Heard tx outcome) refl
crowding-same facts (Fact.Adopted key version item adds) = crowd-same facts (Fact.Adopted key version item adds) refl

pub unheard-same : (facts : List Fact) → plain_unresolved_of (without_floors facts) ≡ plain_unresolved_of facts
unheard-same facts =
    let void : (λ (e : TxId × List (Key × ℕ)). not (is_heard (without_floors facts) e.0)) ≡ (λ e. not (is_heard facts e.0)) = λ i e. not (is_some (heard-same facts e.0 i)) in
    let sets = write_sets-same facts in
    λ i. filter (void i) (sets i)

pub any-without : (test : Fact → Bool) → ((centre epoch seq : ℕ) → test (Fact.Floor centre epoch seq) ≡ false)
    → (facts : List Fact) → list_any test (without_floors facts) ≡ list_any test facts
any-without test none [] = refl
any-without test none (Fact.Floor centre epoch seq ∷ facts) = rw (none centre epoch seq) (any-without test none facts)
any-without test none (Fact.Booted e ∷ facts) = ap (λ b. test (Fact.Booted e) || b) (any-without test none facts)
any-without test none (Fact.Promised key low high ballot ∷ facts) = ap (λ b. test (Fact.Promised key low high ballot) || b) (any-without test none facts)
any-without test none (Fact.Voted key version ballot options offered ∷ facts) =
    ap (λ b. test (Fact.Voted key version ballot options offered) || b) (any-without test none facts)
any-without test none (Fact.Heard tx outcome ∷ facts) = ap (λ b. test (Fact.Heard tx outcome) || b) (any-without test none facts)
any-without test none (Fact.Adopted key version item adds ∷ facts) = ap (λ b. test (Fact.Adopted key version item adds) || b) (any-without test none facts)
