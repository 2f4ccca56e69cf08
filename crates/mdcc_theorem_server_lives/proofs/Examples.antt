-- The example is a history.
use Rattle.std.proofs.Common.{Bool, Err, List, None, Ok, Option, Some, [], ap, false, flat_map, inl, refl, suc, sym, true, zero, ℕ, ◌++◌, ◌<◌, ◌==◌, ◌^◌, ◌∙◌, ◌∷◌, ◌≡◌}
use Rattle.std.specs.List.{AllByRecursion}
use Rattle.std.specs.Prelude.{nat_lt, not, ◌&&◌, ◌||◌}
use Rattle.std.proofs.lemmas.Bool.{and_parts, eq-eqb, ltb-true}
use Rattle.mdcc_def_rules.specs.Boot.{next_boot}
use Rattle.mdcc_def_server_runs.specs.Acts.{Act, but_answer, but_answers}
use Rattle.mdcc_def_server_runs.specs.Servers.{Log, boot_line, endpoints_of, site_of}
use Rattle.mdcc_theorem_clusters.proofs.Tracing.{acts-are, rest}
use Rattle.mdcc_theorem_clusters.proofs.Executed.{asked-bytes, was-sent}
use Rattle.mdcc_theorem_clusters.specs.Example.{asked, config, proposal_datagram, vote_datagram}
use Rattle.mdcc_theorem_clusters.specs.ExecutionTest.{was_sent}
use Rattle.mdcc_theorem_clusters.specs.Traces.{Ending, GivesBytes, MayDoNext, MayReceive, acts_of}
use Rattle.mdcc_theorem_server_lives.specs.Example.{does, first_life, given, second_life, steps}
use Rattle.mdcc_theorem_server_lives.specs.Histories.{IsHistory, Present, Step, after_life_step, after_life_steps, at_first, life_left_of}
use Rattle.mdcc_theorem_server_lives.specs.Lives.{Serves, log_before, messages_sent_by}

-- ---- acts

abbrev may_receive : List (ℕ × Act) → Act → Bool
may_receive done (Act.Receive at (Some bytes)) = not (at == 1) || was_sent done bytes
may_receive done act = true

abbrev may_next : List (ℕ × Act) → Option (List Act) → Bool
may_next done (Some (act ∷ acts)) = may_receive done act
may_next done left = true

-- so many acts may be done
abbrev may_all : Present → ℕ → Bool
may_all present zero = true
may_all present (suc n) = may_next present.done (life_left_of (present.now 1)) && may_all (after_life_step present (Step.Does 1)) n

own-or : (at : ℕ) (sent : Bool) → (not (at == 1) || sent) ≡ true → at ≡ 1 → sent ≡ true
own-or at sent h e = let own : (at == 1) ≡ true = eq-eqb at 1 e in rw own at h

receives : (done : List (ℕ × Act)) (act : Act) → may_receive done act ≡ true → MayReceive done 1 act
receives done (Act.Receive at (Some bytes)) h = λ e. was-sent done bytes (own-or at (was_sent done bytes) h e)
receives done (Act.Receive at None) h = tt
receives done (Act.Bind at address) h = tt
receives done (Act.Append centre facts) h = tt
receives done (Act.Send from to bytes answer) h = tt
receives done (Act.Print line) h = tt
receives done Act.Stepped h = tt
receives done Act.Dropped h = tt
receives done Act.Unsent h = tt

nexts : (done : List (ℕ × Act)) (left : Option (List Act)) → may_next done left ≡ true → MayDoNext done 1 left
nexts done None h = tt
nexts done (Some []) h = tt
nexts done (Some (act ∷ acts)) h = receives done act h

history-does : (present : Present) (n : ℕ) (more : List Step) → may_all present n ≡ true → IsHistory config (after_life_steps present (does n)) more → IsHistory config present (does n ++ more)
history-does present zero more h k = k
history-does present (suc n) more h k =
    let both = and_parts (may_next present.done (life_left_of (present.now 1))) (may_all (after_life_step present (Step.Does 1)) n) h in
    (nexts present.done (life_left_of (present.now 1)) both.0, history-does (after_life_step present (Step.Does 1)) n more both.1 k)

-- ---- lives

few-sent : (n : ℕ) → nat_lt n (2 ^ 32) ≡ true → n < 2 ^ 32
few-sent n h = ltb-true n (2 ^ 32) h

all-given : AllByRecursion GivesBytes given
all-given = (
  record { own = tt; asked = asked-bytes (Some asked) refl },
  (record { own = asked-bytes (Some proposal_datagram) refl; asked = tt }, (record { own = asked-bytes (Some vote_datagram) refl; asked = tt }, tt)),
)

-- the link answered well to each send
abbrev is_plain : Act → Bool
is_plain (Act.Send from to bytes (Err failed)) = false
is_plain act = true

abbrev are_plain : List Act → Bool
are_plain [] = true
are_plain (act ∷ acts) = is_plain act && are_plain acts

plain-same : (act : Act) → is_plain act ≡ true → but_answer act ≡ act
plain-same (Act.Send from to bytes (Ok done)) h = refl
plain-same (Act.Send from to bytes (Err failed)) h = absurd (cc)
plain-same (Act.Bind at address) h = refl
plain-same (Act.Receive at gave) h = refl
plain-same (Act.Append centre facts) h = refl
plain-same (Act.Print line) h = refl
plain-same Act.Stepped h = refl
plain-same Act.Dropped h = refl
plain-same Act.Unsent h = refl

all-same : (acts : List Act) → are_plain acts ≡ true → but_answers acts ++ [] ≡ acts
all-same [] h = refl
all-same (act ∷ acts) h =
    let both = and_parts (is_plain act) (are_plain acts) h in
    ap (λ (z : Act). z ∷ (but_answers acts ++ [])) (plain-same act both.0) ∙ ap (λ (xs : List Act). act ∷ xs) (all-same acts both.1)

-- a boot comes first
abbrev after_boot : Log → List Act
after_boot log = (flat_map (endpoints_of config) (site_of log ∷ []) ++ flat_map boot_line (site_of log ∷ [])) ++ rest config (site_of log) []

boot-first : (log : Log) → Act.Append log.centre (next_boot log.facts ∷ []) ∷ after_boot log ≡ acts_of config log []
boot-first log = sym (acts-are config log [])

first-serves : Serves config first_life
first-serves = record {
  given = given;
  ending = Ending.Whole;
  rest = [];
  acts = all-same first_life.acts refl;
  kept = inl refl;
  boots = refl;
  bytes = all-given;
  last_bytes = tt;
  serials = few-sent (messages_sent_by config (log_before first_life) given Ending.Whole) refl;
}

second-serves : Serves config second_life
second-serves = record {
  given = [];
  ending = Ending.Whole;
  rest = after_boot (log_before second_life);
  acts = boot-first (log_before second_life);
  kept = inl refl;
  boots = refl;
  bytes = tt;
  last_bytes = tt;
  serials = few-sent (messages_sent_by config (log_before second_life) [] Ending.Whole) refl;
}

pub example-history : IsHistory config at_first steps
example-history = (
  record { alone = refl; log = refl; is = record { centre = refl; lived = inl first-serves } },
  history-does (after_life_step at_first (Step.Begins first_life)) 20 (Step.Ends 1 ∷ Step.Begins second_life ∷ (does 1 ++ Step.Ends 1 ∷ [])) refl
      (refl, (record { alone = refl; log = refl; is = record { centre = refl; lived = inl second-serves } }, (tt, (refl, tt)))),
)
