-- Where the members have cells for their votes, none of the proposals is dropped.
use Rattle.std.proofs.Common.{◌≡◌, ℕ, ◌+◌, ◌*◌, ◌≤◌, ◌==◌, Bool, true, false, cond, List, [], ◌∷◌, ◌++◌, refl, sym, ap, ◌∙◌, subst, arith, map, sum_by, IsPermutation, None}
use Rattle.std.specs.List.{AllByRecursion}
use Rattle.std.proofs.lemmas.List.Sorted.{sum_by-IsPermutation}
use Rattle.std.proofs.lemmas.List.Sums.{sum_by-cons}
use Rattle.mdcc_base.specs.Counts.{number_of, sum_over}
use Rattle.mdcc_def_ledger.specs.Ledger.{Entry, facts_of}
use Rattle.mdcc_def_language.specs.declared.lines.Line.{Line}
use Rattle.mdcc_def_messages.specs.Lengths.{cells_needed}
use Rattle.mdcc_option.specs.declared.choices.Choice.{Choice}
use Rattle.mdcc_option.specs.declared.cluster.Cluster.{Cluster}
use Rattle.mdcc_base.specs.declared.identifiers.TxId.{TxId}
use Rattle.mdcc_def_protocol.specs.Belongs.{is_centre}
use Rattle.mdcc_def_simulation.specs.State.{Happened, World}
use Rattle.mdcc_theorem_round_trip.specs.Cells.{cells_of_votes}
use Rattle.mdcc_theorem_round_trip.specs.Messages.{accepting_fact, each_with, proposal_of, vote_of_member}
use Rattle.mdcc_theorem_round_trip.specs.RoundTrips.{is_dropped}
use Rattle.mdcc_theorem_round_trip.proofs.Apart.{each-pair, of_both}
use Rattle.mdcc_theorem_round_trip.proofs.Delivering.{Delivers, Name, name-more}
use Rattle.mdcc_theorem_round_trip.proofs.Lists.{each-any, each-append, each-both, each-permuted, each-weaker}
use Rattle.mdcc_theorem_round_trip.proofs.Proposing.{Accepts, AreOnce, NoneDropped, Proposed, first-apart, number-same, proposed, rest-once, room-fits, still}
use Rattle.mdcc_def_protocol.specs.Cells.{cells_held}
use Rattle.mdcc_def_protocol.specs.Facts.{is_finished}
use Rattle.mdcc_theorem_round_trip.proofs.Elsewhere.{accepted-unfinished, one-unfinished, voted-cells}
use Rattle.mdcc_option.specs.declared.choices.Mark.{Mark}
use Rattle.std.proofs.lemmas.Bool.{eqb-true}

-- ---- the cells of the votes

-- those of a member for one vote
abbrev cells_at : ℕ → Choice × ℕ → ℕ
cells_at m pair = cond (pair.1 == m) (cells_needed (accepting_fact pair.0)) 0

abbrev pub votes_at : ℕ → List (Choice × ℕ) → ℕ
votes_at m order = sum_over (cells_at m) order

-- its facts and its votes lie in the cells
abbrev pub Fits : World → List (Choice × ℕ) → Choice × ℕ → Type 0
Fits w order pair = cells_held (facts_of w.ledger pair.1) + votes_at pair.1 order ≤ w.cluster.cells

module _ (a : ℕ) (tx : TxId) where
  -- what is held and what is still needed grows no more
  total-less : (w : World) (pair : Choice × ℕ) (next : Happened) (order : List (Choice × ℕ)) → Proposed a tx w pair next → Accepts w pair → (m : ℕ)
      → cells_held (facts_of next.world.ledger m) + votes_at m order ≤ cells_held (facts_of w.ledger m) + votes_at m (pair ∷ order)
  total-less w pair next order d own m = subst (λ (es : List Entry). cells_held (facts_of es m) + votes_at m order ≤ cells_held (facts_of w.ledger m) + votes_at m (pair ∷ order)) (sym d.ledger) (by (pair.1 == m) refl)
    where
      none : (used rest : ℕ) → used + rest ≤ used + (0 + rest)
      none used rest = omega arith

      moved : (all needed used rest : ℕ) → all ≤ needed + used → all + rest ≤ used + (needed + rest)
      moved all needed used rest h = omega (arith, h)

      open-there : (pair.1 == m) ≡ true → is_finished (facts_of w.ledger m) pair.0.tx ≡ false
      open-there e = subst (λ n. is_finished (facts_of w.ledger n) pair.0.tx ≡ false) (eqb-true pair.1 m e) (accepted-unfinished w.cluster (facts_of w.ledger pair.1) pair.0 (Mark.Accept pair.0) own.accepted)

      by : (c : Bool) → (pair.1 == m) ≡ c → cells_held (cond (pair.1 == m) (accepting_fact pair.0 ∷ facts_of w.ledger m) (facts_of w.ledger m)) + votes_at m order
          ≤ cells_held (facts_of w.ledger m) + (cond (pair.1 == m) (cells_needed (accepting_fact pair.0)) 0 + votes_at m order)
      by true e = rw e
          (moved (cells_held (accepting_fact pair.0 ∷ facts_of w.ledger m)) (cells_needed (accepting_fact pair.0)) (cells_held (facts_of w.ledger m)) (votes_at m order)
          (voted-cells (facts_of w.ledger m) pair.0.key pair.0.version ((pair.0.tx, Mark.Accept pair.0) ∷ []) None (one-unfinished (facts_of w.ledger m) pair.0.tx (Mark.Accept pair.0) (open-there e))))
      by false e = rw e (none (cells_held (facts_of w.ledger m)) (votes_at m order))

  pub all-roomy : (numbers : List ℕ) (order : List (Choice × ℕ)) (w v : World) (lines : List Line) → is_centre w.cluster a ≡ true → Name (proposal_of a) w numbers order
      → AllByRecursion (Accepts w) order → AreOnce a tx order → AllByRecursion (Fits w order) order → Delivers w numbers v lines
      → NoneDropped lines × ((m : ℕ) → cells_held (facts_of v.ledger m) ≤ cells_held (facts_of w.ledger m) + votes_at m order)
  all-roomy [] [] w v lines centre name accept once fits d = (
    subst NoneDropped (sym d.1) tt,
    λ m. subst (λ (x : World). cells_held (facts_of x.ledger m) ≤ cells_held (facts_of w.ledger m) + 0) d.0 (none (cells_held (facts_of w.ledger m))),
  )
    where
      none : (used : ℕ) → used ≤ used + 0
      none used = omega arith
  all-roomy [] (pair ∷ order) w v lines centre name accept once fits d = absurd name
  all-roomy (number ∷ numbers) [] w v lines centre name accept once fits d = absurd name
  all-roomy (number ∷ numbers) (pair ∷ order) w v lines centre name accept once fits d =
      let next = d.0 in
      let own : votes_at pair.1 (pair ∷ order) ≡ cells_needed (accepting_fact pair.0) + votes_at pair.1 order =
      ap (λ c. cond c (cells_needed (accepting_fact pair.0)) 0 + votes_at pair.1 order) (number-same pair.1) in
      let room = room-fits w.cluster (facts_of w.ledger pair.1) (accepting_fact pair.0)
      (first (cells_held (facts_of w.ledger pair.1)) (cells_needed (accepting_fact pair.0)) (votes_at pair.1 order) (votes_at pair.1 (pair ∷ order)) w.cluster.cells own fits.0) in
      let one = proposed a tx w number pair next centre accept.0 name.0 d.1 room in
      let ih = all-roomy numbers order next.world v d.2.0 (subst (λ (c : Cluster). is_centre c a ≡ true) (sym one.cluster) centre)
      (name-more (proposal_of a) w next.world (vote_of_member a pair ∷ []) numbers order one.messages name.1)
      (each-weaker (λ other. Accepts w other × (of_both pair.0.key pair.1 other ≡ false)) (Accepts next.world) order (λ other h. still a tx w pair next one accept.0 other h.0 h.1)
      (each-both (Accepts w) (λ other. of_both pair.0.key pair.1 other ≡ false) order accept.1 (first-apart a tx pair order once)))
      (rest-once a tx pair order once)
      (each-weaker (Fits w (pair ∷ order)) (Fits next.world order) order (λ other h. fits-next one accept.0 other h) fits.1) d.2.2 in (
        subst NoneDropped (sym d.2.1) (each-append (λ line. is_dropped line ≡ false) next.lines d.2.0 one.undropped ih.0),
        λ m. through (cells_held (facts_of v.ledger m)) (cells_held (facts_of next.world.ledger m) + votes_at m order) (cells_held (facts_of w.ledger m) + votes_at m (pair ∷ order)) (ih.1 m) (total-less w pair next order one accept.0 m),
      )
    where
      first : (used needed rest all cells : ℕ) → all ≡ needed + rest → used + all ≤ cells → used + needed ≤ cells
      first used needed rest all cells e h = omega (arith, e, h)

      through : (x y z : ℕ) → x ≤ y → y ≤ z → x ≤ z
      through x y z h k = omega (arith, h, k)

      fits-next : Proposed a tx w pair d.0 → Accepts w pair → (other : Choice × ℕ) → Fits w (pair ∷ order) other → Fits d.0.world order other
      fits-next one own other h =
          subst (λ (c : Cluster). cells_held (facts_of d.0.world.ledger other.1) + votes_at other.1 order ≤ c.cells) (sym one.cluster)
          (through (cells_held (facts_of d.0.world.ledger other.1) + votes_at other.1 order) (cells_held (facts_of w.ledger other.1) + votes_at other.1 (pair ∷ order)) w.cluster.cells (total-less w pair d.0 order one own other.1) h)

-- ---- each member votes once on each choice

sum-append : {X : Type 0} (f : X → ℕ) (xs ys : List X) → sum_over f (xs ++ ys) ≡ sum_over f xs + sum_over f ys
sum-append f [] ys = omega arith
sum-append f (x ∷ xs) ys = let ih = sum-append f xs ys in omega (arith, ih)

summed : {X : Type 0} (f : X → ℕ) (xs : List X) → sum_over f xs ≡ sum_by f xs
summed f [] = refl
summed f (x ∷ xs) = ap (λ n. f x + n) (summed f xs) ∙ sym (sum_by-cons f x xs)

sum-permuted : {X : Type 0} (f : X → ℕ) (xs ys : List X) → IsPermutation xs ys → sum_over f ys ≡ sum_over f xs
sum-permuted f xs ys moved = summed f ys ∙ sum_by-IsPermutation f xs ys moved ∙ sym (summed f xs)

-- a member's share of the votes of all members on one choice
share : (m : ℕ) (choice : Choice) (members : List ℕ)
    → votes_at m (map (λ member. (choice, member)) members) ≡ number_of (λ (member : ℕ). member == m) members * cells_needed (accepting_fact choice)
share m choice [] = omega arith
share m choice (member ∷ members) = by (member == m) (share m choice members)
  where
    by : (c : Bool) → votes_at m (map (λ other. (choice, other)) members) ≡ number_of (λ (other : ℕ). other == m) members * cells_needed (accepting_fact choice)
        → cond c (cells_needed (accepting_fact choice)) 0 + votes_at m (map (λ other. (choice, other)) members)
        ≡ (cond c 1 0 + number_of (λ (other : ℕ). other == m) members) * cells_needed (accepting_fact choice)
    by true e = more (cells_needed (accepting_fact choice)) (number_of (λ (other : ℕ). other == m) members) (votes_at m (map (λ other. (choice, other)) members)) e
      where
        more : (k n v : ℕ) → v ≡ n * k → k + v ≡ (1 + n) * k
        more k n v e = grind (arith, e)
    by false e = same (cells_needed (accepting_fact choice)) (number_of (λ (other : ℕ). other == m) members) (votes_at m (map (λ other. (choice, other)) members)) e
      where
        same : (k n v : ℕ) → v ≡ n * k → 0 + v ≡ (0 + n) * k
        same k n v e = grind (arith, e)

share-once : (count needed : ℕ) → count ≤ 1 → count * needed ≤ needed
share-once count needed h = by count h
  where
    by : (n : ℕ) → n ≤ 1 → n * needed ≤ needed
    by n h = grind (arith, h)

pub shares : (choices : List Choice) (members : List ℕ) (m : ℕ) → number_of (λ (member : ℕ). member == m) members ≤ 1 → votes_at m (each_with choices members) ≤ cells_of_votes choices
shares [] members m once = omega arith
shares (choice ∷ choices) members m once =
    let ih = shares choices members m once in
    let all = sum-append (cells_at m) (map (λ member. (choice, member)) members) (each_with choices members) in
    let here = share m choice members in
    let least = share-once (number_of (λ (member : ℕ). member == m) members) (cells_needed (accepting_fact choice)) once in
    joined (votes_at m (each_with (choice ∷ choices) members)) (votes_at m (map (λ member. (choice, member)) members)) (votes_at m (each_with choices members))
    (number_of (λ (member : ℕ). member == m) members * cells_needed (accepting_fact choice)) (cells_needed (accepting_fact choice)) (cells_of_votes choices) all here least ih
  where
    joined : (all first rest share needed votes : ℕ) → all ≡ first + rest → first ≡ share → share ≤ needed → rest ≤ votes → all ≤ needed + votes
    joined all first rest share needed votes e f g h = omega (arith, e, f, g, h)

-- in any order
pub shares-moved : (choices : List Choice) (members : List ℕ) (order : List (Choice × ℕ)) (m : ℕ) → IsPermutation (each_with choices members) order
    → number_of (λ (member : ℕ). member == m) members ≤ 1 → votes_at m order ≤ cells_of_votes choices
shares-moved choices members order m moved once =
    let same = sum-permuted (cells_at m) (each_with choices members) order moved in
    subst (λ n. n ≤ cells_of_votes choices) (sym same) (shares choices members m once)

-- where each member has cells for its votes on all choices, they fit in any order
pub fitting : (w : World) (choices : List Choice) (members : List ℕ) (order : List (Choice × ℕ)) → IsPermutation (each_with choices members) order
    → ((m : ℕ) → number_of (λ (member : ℕ). member == m) members ≤ 1)
    → AllByRecursion (λ (member : ℕ). cells_held (facts_of w.ledger member) + cells_of_votes choices ≤ w.cluster.cells) members → AllByRecursion (Fits w order) order
fitting w choices members order moved once have =
    each-permuted (Fits w order) (each_with choices members) order moved
    (each-pair (Fits w order) choices members
    (each-any (λ (c : Choice). AllByRecursion (λ (m : ℕ). Fits w order (c, m)) members) choices (λ c.
    each-weaker (λ (m : ℕ). cells_held (facts_of w.ledger m) + cells_of_votes choices ≤ w.cluster.cells) (λ (m : ℕ). Fits w order (c, m)) members
    (λ m h. within (cells_held (facts_of w.ledger m)) (votes_at m order) (cells_of_votes choices) w.cluster.cells (shares-moved choices members order m moved (once m)) h)
    have)))
  where
    within : (used own votes all : ℕ) → own ≤ votes → used + votes ≤ all → used + own ≤ all
    within used own votes all h k = omega (arith, h, k)
