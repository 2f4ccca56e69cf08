-- What the votes of a fast quorum on each choice decide: nothing before the last of them, and then the commit.
use Rattle.std.proofs.Common.{◌≡◌, ℕ, ◌+◌, ◌≤◌, ◌<◌, Bool, true, false, cond, ◌⊎◌, List, [], ◌∷◌, ◌++◌, refl, sym, ap, ◌∙◌, subst, inl, inr, arith, filter_map, map, IsPermutation, Option, Some, None, is_some, nat_le}
use Rattle.std.specs.List.{AllByRecursion, list_all, list_any}
use Rattle.std.specs.Prelude.{option_and_then}
use Rattle.std.proofs.lemmas.Bool.{and_right, cases_Bool, true≢false}
use Rattle.mdcc_base.specs.AreQuorums.{AreQuorums}
use Rattle.mdcc_base.specs.Counts.{number_of}
use Rattle.mdcc_base.specs.Key.{key_eq}
use Rattle.mdcc_base.specs.Sizes.{Sizes}
use Rattle.mdcc_base.specs.declared.key.Key.{Key}
use Rattle.mdcc_option.specs.declared.choices.Choice.{Choice}
use Rattle.mdcc_option.specs.declared.choices.Mark.{Mark}
use Rattle.mdcc_option.specs.declared.choices.Outcome.{Outcome}
use Rattle.mdcc_def_protocol.specs.Learner.{collided, decision_of, learned}
use Rattle.mdcc_def_protocol.specs.Manager.{decision, keys_of_choices}
use Rattle.mdcc_def_protocol.specs.Marks.{choice_in, is_reject_found, outcome_of_marks}
use Rattle.mdcc_def_protocol.specs.Volatile.{Managing, Undecided}
use Rattle.mdcc_theorem_round_trip.specs.Deciding.{AreAllDifferent, AreChoicesOf, CommitsAtLast, IsFastQuorum, IsUncounted, counting, have_one_key}
use Rattle.mdcc_theorem_round_trip.specs.Messages.{each_with}
use Rattle.mdcc_theorem_round_trip.proofs.Apart.{choice_of_key, each-pair, key-same, key-true, of_key, ordered-each}
use Rattle.mdcc_theorem_round_trip.proofs.Counting.{learned-counted, uncollided}
use Rattle.mdcc_theorem_round_trip.proofs.Lists.{each-any, each-back, each-both, each-front, each-permuted, each-weaker, number-append, number-none}

-- ---- choices in a list whose keys are apart

-- the choices of a list that have this one's key are this one
abbrev pub IsOnlyOne : List Choice → Choice → Type 0
IsOnlyOne choices choice = AllByRecursion (λ (other : Choice). key_eq other.key choice.key ≡ true → other ≡ choice) choices

no-other : (choice : Choice) (choices : List Choice) → AllByRecursion (λ (other : Choice). have_one_key choice other ≡ false) choices → IsOnlyOne choices choice
no-other choice choices h = each-weaker (λ (other : Choice). have_one_key choice other ≡ false) (λ (other : Choice). key_eq other.key choice.key ≡ true → other ≡ choice) choices
    (λ other differ e. let same : other.key ≡ choice.key = key-true other.key choice.key e in
    let equal : key_eq choice.key other.key ≡ true = subst (λ k. key_eq choice.key k ≡ true) (sym same) (key-same choice.key) in absurd (true≢false (sym equal ∙ differ))) h

only-ones : (choices : List Choice) → AreAllDifferent have_one_key choices → AllByRecursion (IsOnlyOne choices) choices
only-ones [] h = tt
only-ones (choice ∷ choices) h = (
  ((λ e. refl), no-other choice choices h.0),
  each-weaker (λ (d : Choice). (have_one_key choice d ≡ false) × IsOnlyOne choices d) (IsOnlyOne (choice ∷ choices)) choices
      (λ d k. ((λ e. absurd (true≢false (sym e ∙ k.0))), k.1)) (each-both (λ (d : Choice). have_one_key choice d ≡ false) (IsOnlyOne choices) choices h.0 (only-ones choices h.1)),
)

-- each key is that of one choice
once-each : (choices : List Choice) → AreAllDifferent have_one_key choices → AllByRecursion (λ (d : Choice). number_of (choice_of_key d.key) choices ≡ 1) choices
once-each [] h = tt
once-each (choice ∷ choices) h = (
  first,
  each-weaker (λ (d : Choice). (have_one_key choice d ≡ false) × (number_of (choice_of_key d.key) choices ≡ 1)) (λ (d : Choice). number_of (choice_of_key d.key) (choice ∷ choices) ≡ 1) choices
      (λ d k. let one = k.1 in rw k.0 (omega (arith, one))) (each-both (λ (d : Choice). have_one_key choice d ≡ false) (λ (d : Choice). number_of (choice_of_key d.key) choices ≡ 1) choices h.0 (once-each choices h.1)),
)
  where
    first : number_of (choice_of_key choice.key) (choice ∷ choices) ≡ 1
    first =
        let none = number-none (choice_of_key choice.key) choices (each-weaker (λ (other : Choice). have_one_key choice other ≡ false) (λ other. choice_of_key choice.key other ≡ false) choices (λ other k. turned choice other k) h.0) in
        rw (key-same choice.key) (omega (arith, none))
      where
        turned : (c d : Choice) → have_one_key c d ≡ false → choice_of_key c.key d ≡ false
        turned c d k = elim (cases_Bool (key_eq d.key c.key)) [
          | inl e ↦ absurd (true≢false (sym (subst (λ z. key_eq c.key z ≡ true) (sym (key-true d.key c.key e)) (key-same c.key)) ∙ k))
          | inr e ↦ e
        ]

-- ---- what marks decide

abbrev pub IsIn : Choice → List Choice → Type 0
IsIn choice [] = ⊥
IsIn choice (c ∷ cs) = (choice ≡ c) ⊎ IsIn choice cs

pub each-in : (P : Choice → Type 0) (choices : List Choice) (choice : Choice) → AllByRecursion P choices → IsIn choice choices → P choice
each-in P [] choice h i = absurd i
each-in P (c ∷ cs) choice h i = elim i [ inl e ↦ subst P (sym e) h.0 | inr j ↦ each-in P cs choice h.1 j ]

pub in-each : (choices : List Choice) → AllByRecursion (λ choice. IsIn choice choices) choices
in-each [] = tt
in-each (c ∷ cs) = (inl refl, each-weaker (λ choice. IsIn choice cs) (λ choice. IsIn choice (c ∷ cs)) cs (λ choice i. inr i) (in-each cs))

-- an accepting mark where there are enough votes
abbrev pub mark_if : (Choice → Bool) → Choice → Option Mark
mark_if enough choice = cond (enough choice) (Some (Mark.Accept choice)) None

marks-are : (f : Key → Option Mark) (enough : Choice → Bool) (choices : List Choice) → AllByRecursion (λ (choice : Choice). f choice.key ≡ mark_if enough choice) choices
    → map f (keys_of_choices choices) ≡ map (mark_if enough) choices
marks-are f enough [] h = refl
marks-are f enough (c ∷ cs) h = rw (h.0) (ap (λ ms. mark_if enough c ∷ ms) (marks-are f enough cs h.1))

none-rejected : (enough : Choice → Bool) (choices : List Choice) → list_any is_reject_found (map (mark_if enough) choices) ≡ false
none-rejected enough [] = refl
none-rejected enough (c ∷ cs) = elim (cases_Bool (enough c)) [ inl e ↦ rw e (none-rejected enough cs) | inr e ↦ rw e (none-rejected enough cs) ]

all-marked : (enough : Choice → Bool) (choices : List Choice) → AllByRecursion (λ choice. enough choice ≡ true) choices → list_all is_some (map (mark_if enough) choices) ≡ true
all-marked enough [] h = refl
all-marked enough (c ∷ cs) h = rw h.0 (all-marked enough cs h.1)

all-accepted : (enough : Choice → Bool) (choices : List Choice) → AllByRecursion (λ choice. enough choice ≡ true) choices
    → filter_map (λ mark. option_and_then choice_in mark) (map (mark_if enough) choices) ≡ choices
all-accepted enough [] h = refl
all-accepted enough (c ∷ cs) h = rw h.0 (ap (λ ds. c ∷ ds) (all-accepted enough cs h.1))

some-unmarked : (enough : Choice → Bool) (choices : List Choice) (choice : Choice) → IsIn choice choices → enough choice ≡ false → list_all is_some (map (mark_if enough) choices) ≡ false
some-unmarked enough [] choice i e = absurd i
some-unmarked enough (c ∷ cs) choice i e = elim i [
  | inl is ↦ let g : enough c ≡ false = subst (λ d. enough d ≡ false) is e in rw g refl
  | inr j ↦ and_right (is_some (mark_if enough c)) (list_all is_some (map (mark_if enough) cs)) (some-unmarked enough cs choice j e)
]

commits-with-all : (enough : Choice → Bool) (choices : List Choice) → AllByRecursion (λ choice. enough choice ≡ true) choices
    → outcome_of_marks (map (mark_if enough) choices) ≡ Some (Outcome.Commit choices)
commits-with-all enough choices h =
    rw (none-rejected enough choices, all-marked enough choices h) (ap (λ cs. Some (Outcome.Commit cs)) (all-accepted enough choices h))

open-with-some : (enough : Choice → Bool) (choices : List Choice) (choice : Choice) → IsIn choice choices → enough choice ≡ false
    → outcome_of_marks (map (mark_if enough) choices) ≡ None
open-with-some enough choices choice i e = rw (none-rejected enough choices, some-unmarked enough choices choice i e) refl

-- ---- the manager

module _ (quorums : Sizes) (manager : Managing) (t : Undecided) (members : List ℕ) (order : List (Choice × ℕ))
    (are : AreQuorums quorums) (fresh : IsUncounted manager t) (choices : AreChoicesOf t.tx t.choices) (quorum : IsFastQuorum quorums members)
    (moved : IsPermutation (each_with t.choices members) order) where
  some_fast : 1 ≤ quorums.fast
  some_fast = let some = are.some_classic in let within = are.classic_within in omega (arith, some, within)

  pub own-order : AllByRecursion (λ (pair : Choice × ℕ). pair.0.tx ≡ t.tx) order
  own-order =
      each-permuted (λ (pair : Choice × ℕ). pair.0.tx ≡ t.tx) (each_with t.choices members) order moved
      (each-pair (λ pair. pair.0.tx ≡ t.tx) t.choices members
      (each-weaker (λ (choice : Choice). choice.tx ≡ t.tx) (λ choice. AllByRecursion (λ (member : ℕ). choice.tx ≡ t.tx) members) t.choices (λ choice e. each-any (λ (member : ℕ). choice.tx ≡ t.tx) members (λ member. e)) choices.own))

  pub in-order : AllByRecursion (λ (pair : Choice × ℕ). IsIn pair.0 t.choices) order
  in-order =
      each-permuted (λ (pair : Choice × ℕ). IsIn pair.0 t.choices) (each_with t.choices members) order moved
      (each-pair (λ pair. IsIn pair.0 t.choices) t.choices members
      (each-weaker (λ choice. IsIn choice t.choices) (λ choice. AllByRecursion (λ (member : ℕ). IsIn choice t.choices) members) t.choices (λ choice e. each-any (λ (member : ℕ). IsIn choice t.choices) members (λ member. e)) (in-each t.choices)))

  abbrev pub IsOfEach : List (Choice × ℕ) → Type 0
  IsOfEach pairs = AllByRecursion (λ (choice : Choice). AllByRecursion (λ (pair : Choice × ℕ). of_key choice.key pair ≡ true → pair.0 ≡ choice) pairs) t.choices

  pub of-each : IsOfEach order
  of-each =
      each-weaker (IsOnlyOne t.choices) (λ choice. AllByRecursion (λ (pair : Choice × ℕ). of_key choice.key pair ≡ true → pair.0 ≡ choice) order) t.choices
      (λ choice only. each-permuted (λ (pair : Choice × ℕ). of_key choice.key pair ≡ true → pair.0 ≡ choice) (each_with t.choices members) order moved
      (each-pair (λ pair. of_key choice.key pair ≡ true → pair.0 ≡ choice) t.choices members
      (each-weaker (λ (other : Choice). key_eq other.key choice.key ≡ true → other ≡ choice) (λ other. AllByRecursion (λ (member : ℕ). key_eq other.key choice.key ≡ true → other ≡ choice) members) t.choices
      (λ other k. each-any (λ (member : ℕ). key_eq other.key choice.key ≡ true → other ≡ choice) members (λ member. k)) only)))
      (only-ones t.choices choices.apart)

  number-each : (choice : Choice) → IsIn choice t.choices → number_of (of_key choice.key) order ≡ quorums.fast
  number-each choice i =
      ordered-each t.choices members order moved choice.key (each-in (λ (d : Choice). number_of (choice_of_key d.key) t.choices ≡ 1) t.choices choice (once-each t.choices choices.apart) i)
      ∙ quorum.size

  -- what the first votes decide
  decided : (pairs : List (Choice × ℕ)) → AllByRecursion (λ (pair : Choice × ℕ). pair.0.tx ≡ t.tx) pairs → IsOfEach pairs
      → decision quorums (counting manager pairs) t.tx ≡ outcome_of_marks (map (mark_if (λ choice. nat_le quorums.fast (number_of (of_key choice.key) pairs))) t.choices)
  decided pairs own of =
      ap (option_and_then (λ (u : Undecided). decision_of quorums (counting manager pairs).votes t.tx (keys_of_choices u.choices))) fresh.opened
      ∙ ap outcome_of_marks (marks-are (learned quorums (counting manager pairs).votes t.tx) (λ choice. nat_le quorums.fast (number_of (of_key choice.key) pairs)) t.choices
      (each-weaker (λ (choice : Choice). AllByRecursion (λ (pair : Choice × ℕ). of_key choice.key pair ≡ true → pair.0 ≡ choice) pairs)
      (λ (choice : Choice). learned quorums (counting manager pairs).votes t.tx choice.key ≡ mark_if (λ d. nat_le quorums.fast (number_of (of_key d.key) pairs)) choice) t.choices
      (λ choice k. learned-counted manager.votes t.tx fresh.none quorums some_fast pairs own choice k) of))

  front-own : (before after : List (Choice × ℕ)) → order ≡ before ++ after → AllByRecursion (λ (pair : Choice × ℕ). pair.0.tx ≡ t.tx) before
  front-own before after is = each-front (λ (pair : Choice × ℕ). pair.0.tx ≡ t.tx) before after (subst (λ ps. AllByRecursion (λ (pair : Choice × ℕ). pair.0.tx ≡ t.tx) ps) is own-order)

  front-of : (before after : List (Choice × ℕ)) → order ≡ before ++ after → IsOfEach before
  front-of before after is =
      each-weaker (λ (choice : Choice). AllByRecursion (λ (pair : Choice × ℕ). of_key choice.key pair ≡ true → pair.0 ≡ choice) (before ++ after))
      (λ (choice : Choice). AllByRecursion (λ (pair : Choice × ℕ). of_key choice.key pair ≡ true → pair.0 ≡ choice) before) t.choices
      (λ choice k. each-front (λ (pair : Choice × ℕ). of_key choice.key pair ≡ true → pair.0 ≡ choice) before after k) (subst IsOfEach is of-each)

  pub undecided-before : (before : List (Choice × ℕ)) (next : Choice × ℕ) (after : List (Choice × ℕ)) → order ≡ before ++ next ∷ after → decision quorums (counting manager before) t.tx ≡ None
  undecided-before before next after is =
      decided before (front-own before (next ∷ after) is) (front-of before (next ∷ after) is)
      ∙ open-with-some (λ choice. nat_le quorums.fast (number_of (of_key choice.key) before)) t.choices next.0 among lacking
    where
      among : IsIn next.0 t.choices
      among = (each-back (λ (pair : Choice × ℕ). IsIn pair.0 t.choices) before (next ∷ after) (subst (λ ps. AllByRecursion (λ (pair : Choice × ℕ). IsIn pair.0 t.choices) ps) is in-order)).0

      lacking : nat_le quorums.fast (number_of (of_key next.0.key) before) ≡ false
      lacking =
          let all = number-each next.0 among in
          let split : number_of (of_key next.0.key) order ≡ number_of (of_key next.0.key) before + number_of (of_key next.0.key) (next ∷ after) = ap (number_of (of_key next.0.key)) is ∙ number-append (of_key next.0.key) before (next ∷ after) in
          let head : number_of (of_key next.0.key) (next ∷ after) ≡ 1 + number_of (of_key next.0.key) after = rw (key-same next.0.key) refl in
          less quorums.fast (number_of (of_key next.0.key) before) (omega (arith, all, split, head))
        where
          less : (n m : ℕ) → m < n → nat_le n m ≡ false
          less n m h = grind (arith, h)

  pub committed-with : decision quorums (counting manager order) t.tx ≡ Some (Outcome.Commit t.choices)
  committed-with =
      decided order own-order of-each
      ∙ commits-with-all (λ choice. nat_le quorums.fast (number_of (of_key choice.key) order)) t.choices
      (each-weaker (λ choice. IsIn choice t.choices) (λ choice. nat_le quorums.fast (number_of (of_key choice.key) order) ≡ true) t.choices
      (λ choice i. enough quorums.fast (number_of (of_key choice.key) order) (number-each choice i)) (in-each t.choices))
    where
      enough : (n m : ℕ) → m ≡ n → nat_le n m ≡ true
      enough n m h = grind (arith, h)

  pub uncollided-before : (before after : List (Choice × ℕ)) → order ≡ before ++ after → (key : Key) → collided quorums (counting manager before).votes t.tx key ≡ false
  uncollided-before before after is key = uncollided manager.votes t.tx fresh.none quorums some_fast before (front-own before after is) are.fast_within key

  pub commits-at-last : CommitsAtLast quorums manager t order
  commits-at-last = record {
    undecided = undecided-before;
    uncollided = λ before after is. each-any (λ (choice : Choice). collided quorums (counting manager before).votes t.tx choice.key ≡ false) t.choices (λ choice. uncollided-before before after is choice.key);
    committed = committed-with;
  }
