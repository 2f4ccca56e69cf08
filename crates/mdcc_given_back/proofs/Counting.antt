-- How the cells that a centre holds change with a further fact.
use Rattle.std.proofs.Common.{◌≡◌, ◌==◌, ◌&&◌, ◌||◌, ◌+◌, ◌≤◌, if◌then◌else◌, ℕ, Bool, true, false, not, List, [], ◌∷◌, Option, Some, None, refl, sym, ap, ◌∙◌, arith}
use Rattle.std.specs.List.{list_any}
use Rattle.std.specs.Prelude.{is_some, nat_le, nat_lt}
use Rattle.std.proofs.Math.Nat.{max-zero}
use Rattle.std.proofs.lemmas.Bool.{or_parts}
use Rattle.mdcc_base.specs.Ballot.{is_fast}
use Rattle.mdcc_base.specs.Counts.{sum_over}
use Rattle.mdcc_base.specs.declared.identifiers.Ballot.{Ballot}
use Rattle.mdcc_base.specs.declared.identifiers.TxId.{TxId}
use Rattle.mdcc_base.specs.declared.key.Key.{Key}
use Rattle.mdcc_option.specs.OneCopy.{next_version}
use Rattle.mdcc_option.specs.declared.choices.Choice.{Choice}
use Rattle.mdcc_option.specs.declared.choices.Outcome.{Outcome}
use Rattle.mdcc_struct.specs.Maps.{value_of}
use Rattle.mdcc_struct.specs.declared.options.Options.{Options}
use Rattle.mdcc_def_messages.specs.Lengths.{cells_needed}
use Rattle.mdcc_def_messages.specs.declared.facts.Fact.{Fact}
use Rattle.mdcc_def_protocol.specs.Cells.{cells_held, cells_kept, cells_left}
use Rattle.mdcc_def_protocol.specs.Facts.{current_of, floor_of, has_floor, heard_of, is_finished, is_floor, is_forgotten, is_idle, is_needed, is_past, shows_mark}
use Rattle.mdcc_def_protocol.specs.Marks.{is_write}
use Rattle.mdcc_theorem_fact_folds.proofs.Chosen.{or_right}
use Rattle.mdcc_given_back.specs.Counted.{HeldByNeeded, HeldWithinNeeded, LeftFalls}
use Rattle.mdcc_given_back.specs.Growth.{tells_of_finished}
use Rattle.mdcc_given_back.specs.Rest.{is_bared, is_dropped, is_vote_past}
use Rattle.mdcc_given_back.proofs.Compacting.{bared-cell, left-within}
use Rattle.mdcc_given_back.proofs.Growing.{bared_stays, dropped_stays, new-unshown}
use Rattle.mdcc_given_back.proofs.Left.{cells-left}

-- ---- of no fact more is left

no-more : (dropped bared later later-bared : Bool) (n : ℕ) → (dropped ≡ true → later ≡ true) → (bared ≡ true → later-bared ≡ true) → (later-bared ≡ true → 1 ≤ n)
    → (if later then 0 else (if later-bared then 1 else n)) ≤ (if dropped then 0 else (if bared then 1 else n))
no-more dropped bared true later-bared n d b some = omega arith
no-more true bared false later-bared n d b some = absurd (let bad = d refl in cc)
no-more false true false true n d b some = omega arith
no-more false true false false n d b some = absurd (let bad = b refl in cc)
no-more false false false true n d b some = some refl
no-more false false false false n d b some = omega arith

pub left_falls : LeftFalls
left_falls new all fact tells =
    rw (cells-left (new ∷ all) fact, cells-left all fact)
    (no-more (is_dropped all fact) (is_bared all fact) (is_dropped (new ∷ all) fact) (is_bared (new ∷ all) fact) (cells_needed fact)
    (dropped_stays new all fact tells) (bared_stays new all fact) (bared-cell (new ∷ all) fact))

-- ---- a further fact takes at most what it needs

kept-falls-by : (before : Bool) (left needed more : ℕ) → more ≤ left → more ≤ needed → more ≤ (if before then left else needed)
kept-falls-by true left needed more h k = h
kept-falls-by false left needed more h k = k

kept-falls-from : (before : Bool) (left needed more : ℕ) → more ≤ left → more ≤ needed
    → (if before then more else needed) ≤ (if before then left else needed)
kept-falls-from true left needed more h k = h
kept-falls-from false left needed more h k = omega arith

module _ (new : Fact) (all : List Fact) (tells : tells_of_finished all new ≡ false) where
  kept-falls-if : (floor : Bool) (fact : Fact) → (if floor || has_floor all then cells_left (new ∷ all) fact else cells_needed fact) ≤ cells_kept all fact
  kept-falls-if true fact =
      kept-falls-by (has_floor all) (cells_left all fact) (cells_needed fact) (cells_left (new ∷ all) fact) (left_falls new all fact tells) (left-within (new ∷ all) fact)
  kept-falls-if false fact =
      kept-falls-from (has_floor all) (cells_left all fact) (cells_needed fact) (cells_left (new ∷ all) fact) (left_falls new all fact tells) (left-within (new ∷ all) fact)

  kept-falls : (fact : Fact) → cells_kept (new ∷ all) fact ≤ cells_kept all fact
  kept-falls fact = kept-falls-if (is_floor new) fact

  kept-within : (floor : Bool) (left needed : ℕ) → left ≤ needed → (if floor then left else needed) ≤ needed
  kept-within true left needed h = h
  kept-within false left needed h = omega arith

  own-within : cells_kept (new ∷ all) new ≤ cells_needed new
  own-within = kept-within (has_floor (new ∷ all)) (cells_left (new ∷ all) new) (cells_needed new) (left-within (new ∷ all) new)

  add-within : (a b c d : ℕ) → a ≤ c → b ≤ d → a + b ≤ c + d
  add-within a b c d h k = omega (arith, h, k)

  sum-falls : (facts : List Fact) → sum_over (cells_kept (new ∷ all)) facts ≤ sum_over (cells_kept all) facts
  sum-falls [] = omega arith
  sum-falls (fact ∷ facts) =
      add-within (cells_kept (new ∷ all) fact) (sum_over (cells_kept (new ∷ all)) facts) (cells_kept all fact) (sum_over (cells_kept all) facts)
      (kept-falls fact) (sum-falls facts)

  swap-within : (a b c d : ℕ) → a ≤ c → b ≤ d → a + b ≤ d + c
  swap-within a b c d h k = omega (arith, h, k)

  within-needed : cells_held (new ∷ all) ≤ cells_held all + cells_needed new
  within-needed =
      swap-within (cells_kept (new ∷ all) new) (sum_over (cells_kept (new ∷ all)) all) (cells_needed new) (cells_held all) own-within (sum-falls all)

pub held_within_needed : HeldWithinNeeded
held_within_needed new facts tells = within-needed new facts tells

-- ---- what frees nothing takes exactly what it needs

idle-plain : (finished finished' past past' new shown shown' : Bool) → finished' ≡ finished → past' ≡ past → shown' ≡ shown → (finished ≡ true → new ≡ false)
    → (finished' && past' && not (new || shown')) ≡ (finished && past && not shown)
idle-plain finished finished' past past' new shown shown' f p s none = rw (f, p, s) (by finished none)
  where
    by : (finished : Bool) → (finished ≡ true → new ≡ false) → (finished && past && not (new || shown)) ≡ (finished && past && not shown)
    by true none = rw (none refl) refl
    by false none = refl

cells-by : (dropped dropped' bared bared' : Bool) (n : ℕ) → dropped' ≡ dropped → bared' ≡ bared
    → (if dropped' then 0 else (if bared' then 1 else n)) ≡ (if dropped then 0 else (if bared then 1 else n))
cells-by dropped dropped' bared bared' n d b = rw (d, b) refl

kept-by : (floor floor' : Bool) (left left' n : ℕ) → floor' ≡ floor → left' ≡ left → (if floor' then left' else n) ≡ (if floor then left else n)
kept-by floor floor' left left' n f l = rw (f, l) refl

own-by : (floor : Bool) (left n : ℕ) → left ≡ n → (if floor then left else n) ≡ n
own-by true left n same = same
own-by false left n same = refl

swap-same : (a b c d : ℕ) → a ≡ c → b ≡ d → a + b ≡ d + c
swap-same a b c d h k = omega (arith, h, k)

module _ (new : Fact) (all : List Fact) (tells : tells_of_finished all new ≡ false)
    (floors : (centre epoch : ℕ) → floor_of (new ∷ all) centre epoch ≡ floor_of all centre epoch)
    (versions : (key : Key) → current_of (new ∷ all) key ≡ current_of all key)
    (heard : (tx : TxId) → heard_of (new ∷ all) tx ≡ heard_of all tx)
    (floor : has_floor (new ∷ all) ≡ has_floor all) where
  finished-same : (tx : TxId) → is_finished (new ∷ all) tx ≡ is_finished all tx
  finished-same tx = ap (λ n. nat_lt 0 tx.seq && nat_le tx.seq n) (floors tx.centre tx.epoch)

  forgotten-same : (key : Key) (version : ℕ) (tx : TxId) → is_forgotten (new ∷ all) key version tx ≡ is_forgotten all key version tx
  forgotten-same key version tx =
      ap (λ b. b && nat_lt version (current_of (new ∷ all) key)) (finished-same tx) ∙ ap (λ n. is_finished all tx && nat_lt version n) (versions key)

  vote-same : (key : Key) (version : ℕ) (options : Options) → is_vote_past (new ∷ all) key version options ≡ is_vote_past all key version options
  vote-same key version [] = refl
  vote-same key version (e ∷ es) =
      ap (λ b. b && is_vote_past (new ∷ all) key version es) (forgotten-same key version e.0)
      ∙ ap (λ b. is_forgotten all key version e.0 && b) (vote-same key version es)

  needed-same : (choice : Choice) → is_needed (new ∷ all) choice ≡ is_needed all choice
  needed-same choice =
      ap (λ n. if is_write choice.update then next_version choice.version == n else nat_le n choice.version) (versions choice.key)

  any-needed : (choices : List Choice) → list_any (is_needed (new ∷ all)) choices ≡ list_any (is_needed all) choices
  any-needed [] = refl
  any-needed (c ∷ cs) =
      ap (λ b. b || list_any (is_needed (new ∷ all)) cs) (needed-same c) ∙ ap (λ b. is_needed all c || b) (any-needed cs)

  past-same : (outcome : Option Outcome) → is_past (new ∷ all) outcome ≡ is_past all outcome
  past-same None = refl
  past-same (Some Outcome.Abort) = refl
  past-same (Some (Outcome.Commit choices)) = ap not (any-needed choices)

  shows-same : (tx : TxId) (fact : Fact) → shows_mark (new ∷ all) tx fact ≡ shows_mark all tx fact
  shows-same tx (Fact.Voted key version ballot options offered) =
      ap (λ b. is_some (value_of options tx) && not b) (forgotten-same key version tx)
  shows-same tx (Fact.Booted epoch) = refl
  shows-same tx (Fact.Promised k low high b) = refl
  shows-same tx (Fact.Heard t outcome) = refl
  shows-same tx (Fact.Adopted k v item adds) = refl
  shows-same tx (Fact.Floor c e n) = refl

  any-shows : (tx : TxId) (facts : List Fact) → list_any (shows_mark (new ∷ all) tx) facts ≡ list_any (shows_mark all tx) facts
  any-shows tx [] = refl
  any-shows tx (fact ∷ facts) =
      ap (λ b. b || list_any (shows_mark (new ∷ all) tx) facts) (shows-same tx fact) ∙ ap (λ b. shows_mark all tx fact || b) (any-shows tx facts)

  idle-same : (tx : TxId) → is_idle (new ∷ all) tx ≡ is_idle all tx
  idle-same tx =
      idle-plain (is_finished all tx) (is_finished (new ∷ all) tx) (is_past all (heard_of all tx)) (is_past (new ∷ all) (heard_of (new ∷ all) tx))
      (shows_mark (new ∷ all) tx new) (list_any (shows_mark all tx) all) (list_any (shows_mark (new ∷ all) tx) all)
      (finished-same tx) (ap (is_past (new ∷ all)) (heard tx) ∙ past-same (heard_of all tx)) (any-shows tx all)
      (λ finished. new-unshown (new ∷ all) all tx new finished tells)

  dropped-same : (fact : Fact) → is_dropped (new ∷ all) fact ≡ is_dropped all fact
  dropped-same (Fact.Voted key version ballot options offered) = ap (λ b. b && is_fast ballot) (vote-same key version options)
  dropped-same (Fact.Heard tx outcome) = idle-same tx
  dropped-same (Fact.Adopted key version item adds) = ap (nat_lt version) (versions key)
  dropped-same (Fact.Floor centre epoch seq) = ap (nat_lt seq) (floors centre epoch)
  dropped-same (Fact.Booted epoch) = refl
  dropped-same (Fact.Promised k low high b) = refl

  bared-same : (fact : Fact) → is_bared (new ∷ all) fact ≡ is_bared all fact
  bared-same (Fact.Voted key version ballot options offered) = ap (λ b. b && not (is_fast ballot)) (vote-same key version options)
  bared-same (Fact.Booted epoch) = refl
  bared-same (Fact.Promised k low high b) = refl
  bared-same (Fact.Heard t outcome) = refl
  bared-same (Fact.Adopted k v item adds) = refl
  bared-same (Fact.Floor c e n) = refl

  left-same : (fact : Fact) → cells_left (new ∷ all) fact ≡ cells_left all fact
  left-same fact =
      (cells-left (new ∷ all) fact
      ∙ cells-by (is_dropped all fact) (is_dropped (new ∷ all) fact) (is_bared all fact) (is_bared (new ∷ all) fact) (cells_needed fact)
      (dropped-same fact) (bared-same fact))
      ∙ sym (cells-left all fact)

  kept-same : (fact : Fact) → cells_kept (new ∷ all) fact ≡ cells_kept all fact
  kept-same fact = kept-by (has_floor all) (has_floor (new ∷ all)) (cells_left all fact) (cells_left (new ∷ all) fact) (cells_needed fact) floor (left-same fact)

  sum-same : (facts : List Fact) → sum_over (cells_kept (new ∷ all)) facts ≡ sum_over (cells_kept all) facts
  sum-same [] = refl
  sum-same (fact ∷ facts) =
      ap (λ n. n + sum_over (cells_kept (new ∷ all)) facts) (kept-same fact) ∙ ap (λ n. cells_kept all fact + n) (sum-same facts)

  pub held-same : cells_left (new ∷ all) new ≡ cells_needed new → cells_held (new ∷ all) ≡ cells_held all + cells_needed new
  held-same own =
      swap-same (cells_kept (new ∷ all) new) (sum_over (cells_kept (new ∷ all)) all) (cells_needed new) (cells_held all)
      (own-by (has_floor (new ∷ all)) (cells_left (new ∷ all) new) (cells_needed new) own) (sum-same all)

-- a vote that shows a mark needs all its cells
left-shown : (all : List Fact) (key : Key) (version : ℕ) (ballot : Ballot) (options : Options) (offered : Option Choice)
    → is_vote_past all key version options ≡ false
    → cells_left all (Fact.Voted key version ballot options offered) ≡ cells_needed (Fact.Voted key version ballot options offered)
left-shown all key version ballot options offered shown = rw shown refl

and-false : (a b : Bool) → a ≡ false → (a && b) ≡ false
and-false a b none = rw none refl

pub held_by_needed : HeldByNeeded
held_by_needed (Fact.Booted epoch) facts tells frees =
    held-same (Fact.Booted epoch) facts tells
    (λ c e. max-zero (floor_of facts c e)) (λ key. max-zero (current_of facts key)) (λ tx. or_right (heard_of facts tx)) refl refl
held_by_needed (Fact.Promised key low high ballot) facts tells frees =
    held-same (Fact.Promised key low high ballot) facts tells
    (λ c e. max-zero (floor_of facts c e)) (λ key. max-zero (current_of facts key)) (λ tx. or_right (heard_of facts tx)) refl refl
held_by_needed (Fact.Voted key version ballot [] offered) facts tells frees = absurd (cc)
held_by_needed (Fact.Voted key version ballot (e ∷ es) offered) facts tells frees =
    let new : Fact = Fact.Voted key version ballot (e ∷ es) offered in
    let floors : (c e : ℕ) → floor_of (new ∷ facts) c e ≡ floor_of facts c e = λ c e. max-zero (floor_of facts c e) in
    let versions : (key : Key) → current_of (new ∷ facts) key ≡ current_of facts key = λ key. max-zero (current_of facts key) in
    let heard : (tx : TxId) → heard_of (new ∷ facts) tx ≡ heard_of facts tx = λ tx. or_right (heard_of facts tx) in
    let unfinished : is_finished (new ∷ facts) e.0 ≡ false =
    finished-same new facts tells floors versions heard refl e.0 ∙ (or_parts (is_finished facts e.0) (list_any (λ e. is_finished facts e.0) es) tells).0 in
    let shown : is_vote_past (new ∷ facts) key version (e ∷ es) ≡ false =
    and-false (is_forgotten (new ∷ facts) key version e.0) (is_vote_past (new ∷ facts) key version es)
    (and-false (is_finished (new ∷ facts) e.0) (nat_lt version (current_of (new ∷ facts) key)) unfinished) in
    held-same new facts tells floors versions heard refl (left-shown (new ∷ facts) key version ballot (e ∷ es) offered shown)
held_by_needed (Fact.Heard tx outcome) facts tells frees = absurd (cc)
held_by_needed (Fact.Adopted k v item adds) facts tells frees = absurd (cc)
held_by_needed (Fact.Floor c e n) facts tells frees = absurd (cc)
