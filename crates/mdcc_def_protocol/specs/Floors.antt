-- How far all centres have heard: what a sweep tells, and when a centre sets a floor. (Our own rules.)
use Rattle.std.specs.Prelude.{Bool, List, None, Option, Some, [], filter_map, fold, if◌then◌else◌, map, max, min, nat_lt, ℕ, ◌&&◌, ◌==◌, ◌||◌, ◌∷◌}
use Rattle.mdcc_base.specs.Quorums.{all_centres}
use Rattle.mdcc_base.specs.Sizes.{Sizes}
use Rattle.mdcc_def_protocol.specs.Facts.{floor_of, heard_through_of}
use Rattle.mdcc_def_protocol.specs.Volatile.{Marked}
use Rattle.mdcc_def_messages.specs.declared.facts.Fact.{Fact}

-- ---- what was heard of each epoch

-- the epoch of a centre of which a fact tells that something was heard
abbrev pub origin_in : Fact → Option (ℕ × ℕ)
origin_in (Fact.Heard tx outcome) = Some (tx.centre, tx.epoch)
origin_in (Fact.Floor centre epoch seq) = Some (centre, epoch)
origin_in _ = None

abbrev pub is_before : ℕ × ℕ → ℕ × ℕ → Bool
is_before a b = nat_lt a.0 b.0 || (a.0 == b.0 && nat_lt a.1 b.1)

-- the list with one more, in its place
abbrev pub with_origin : List (ℕ × ℕ) → ℕ × ℕ → List (ℕ × ℕ)
with_origin [] origin = origin ∷ []
with_origin (x ∷ xs) origin =
    if is_before x origin then x ∷ with_origin xs origin else (if is_before origin x then origin ∷ x ∷ xs else x ∷ xs)

-- the centres and epochs of the transactions that were heard or are finished, ascending
abbrev pub origins_of : List Fact → List (ℕ × ℕ)
origins_of facts = fold with_origin [] (filter_map origin_in facts)

-- what a sweep tells all centres: for each of them through which number all was heard here, where that is above the floor
abbrev pub sweep : List Fact → List (ℕ × ℕ × ℕ)
sweep facts =
    filter_map
    (λ origin. let seq = heard_through_of facts origin.0 origin.1 in if nat_lt (floor_of facts origin.0 origin.1) seq then Some (origin.0, origin.1, seq) else None)
    (origins_of facts)

-- ---- what others told

abbrev pub is_of : ℕ → ℕ → ℕ → Marked → Bool
is_of from centre epoch mark = mark.from == from && mark.centre == centre && mark.epoch == epoch

-- the mark that is remembered, 0 where none is
abbrev pub mark_told : List Marked → ℕ → ℕ → ℕ → ℕ
mark_told [] from centre epoch = 0
mark_told (mark ∷ marks) from centre epoch = if is_of from centre epoch mark then mark.seq else mark_told marks from centre epoch

abbrev pub with_floor_mark : List Marked → ℕ → ℕ → ℕ → ℕ → List Marked
with_floor_mark [] from centre epoch seq = record { from = from; centre = centre; epoch = epoch; seq = seq } ∷ []
with_floor_mark (mark ∷ marks) from centre epoch seq =
    if is_of from centre epoch mark then record mark { seq = max mark.seq seq } ∷ marks else mark ∷ with_floor_mark marks from centre epoch seq

-- the least of what all centres told and of what was heard here
abbrev pub least_told : Sizes → List Fact → List Marked → ℕ → ℕ → ℕ
least_told quorums facts marks centre epoch =
    fold (λ least from. min least (mark_told marks from centre epoch)) (heard_through_of facts centre epoch) (all_centres quorums)

-- the floor rises to it
abbrev pub floor_raised : List Fact → ℕ → ℕ → ℕ → Option Fact
floor_raised facts centre epoch least = if nat_lt (floor_of facts centre epoch) least then Some (Fact.Floor centre epoch least) else None

-- what a centre does at a mark, and what it remembers
abbrev pub on_mark : Sizes → List Fact → List Marked → ℕ → ℕ → ℕ → ℕ → Option Fact × List Marked
on_mark quorums facts marks from centre epoch seq =
    let told = with_floor_mark marks from centre epoch seq in
    (floor_raised facts centre epoch (least_told quorums facts told centre epoch), told)
