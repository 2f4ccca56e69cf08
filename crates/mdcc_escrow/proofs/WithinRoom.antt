-- Whether live adds alone are within the room, by parts, and by capped loads.
use Rattle.std.proofs.Common.{◌≡◌, ℕ, suc, ◌+◌, ◌-◌, ◌^◌, ◌<◌, min, Bool, true, false, List, [], ◌∷◌, map, ℤ, pos, ◌+ℤ◌, ◌-ℤ◌, get_or, int_lt, length, Option, Some, None, refl, ap, arith}
use Rattle.std.specs.Prelude.{All, not, ◌&&◌}
use Rattle.std.proofs.lemmas.Bool.Decides.{nat_tests}
use Rattle.std.proofs.lemmas.Int.{ints}
use Rattle.std.proofs.lemmas.List.Folds.{list_all-append}
use Rattle.std.specs.List.{list_all, range_with_len}
use Rattle.mdcc_option.specs.Bounds.{is_bound}
use Rattle.mdcc_option.specs.declared.cluster.Cluster.{Cluster}
use Rattle.mdcc_option.specs.declared.items.Item.{Item}
use Rattle.mdcc_def_protocol.specs.Fit.{Quantity, are_within_room, capped, decreases_at, increases_at, is_past_room, quantities_taken}
use Rattle.mdcc_def_protocol.specs.declared.fit.Load.{Load}
use Rattle.mdcc_escrow.specs.Capped.{AreDeclared, IsShort}
use Rattle.mdcc_escrow.proofs.Capped.{bound_at, room-capped, short_at, short_room, sum-capped}

-- ---- a walk over attributes

pub rest_passes : (p : Quantity → Bool) (f : ℕ → Quantity) (i n : ℕ) → i < n → p (f (i + 1)) ≡ true
    → list_all p (map f (range_with_len (i + 1) (n - i))) ≡ list_all p (map f (range_with_len (i + 1 + 1) (n - (i + 1))))
rest_passes p f i n h passes = let more : n - i ≡ suc (n - (i + 1)) = omega arith in rw (more, passes) refl

pub rest_fails : (p : Quantity → Bool) (f : ℕ → Quantity) (i n : ℕ) → i < n → p (f (i + 1)) ≡ false → list_all p (map f (range_with_len (i + 1) (n - i))) ≡ false
rest_fails p f i n h fails = let more : n - i ≡ suc (n - (i + 1)) = omega arith in rw (more, fails) refl

-- ---- capped loads

taken-capped : (count : ℕ) → int_lt (pos 64) (pos (min count (2 ^ 32 - 1)) +ℤ pos 0) ≡ int_lt (pos 64) (pos count +ℤ pos 0)
taken-capped count = grind (arith, nat_tests)

same_all : (f g : ℕ → Quantity) → ((x : ℕ) → is_past_room (f x) ≡ is_past_room (g x)) → (xs : List ℕ)
    → list_all (λ q. not (is_past_room q)) (map f xs) ≡ list_all (λ q. not (is_past_room q)) (map g xs)
same_all f g h [] = refl
same_all f g h (x ∷ xs) = rw (h x, same_all f g h xs) refl

module _ (schema : List (ℤ × ℤ)) (base : Item) (load : Load) (bounds : list_all is_bound schema ≡ true) (values : All IsShort base.values) where
  decreases-capped : (attribute : ℕ) → is_past_room (decreases_at schema base (capped load) attribute) ≡ is_past_room (decreases_at schema base load attribute)
  decreases-capped attribute =
      let value = get_or base.values (attribute - 1) (pos 0) in
      let pair = get_or schema (attribute - 1) (pos 0, pos 0) in
      rw (sum-capped load.down (attribute - 1))
      (room-capped (value -ℤ pair.0) (get_or load.down (attribute - 1) (pos 0)) (pos 0)
      (short_room pair value (bound_at schema (attribute - 1) bounds) (short_at base.values (attribute - 1) values)).1 (omega (arith, ints)))

  increases-capped : (attribute : ℕ) → is_past_room (increases_at schema base (capped load) attribute) ≡ is_past_room (increases_at schema base load attribute)
  increases-capped attribute =
      let value = get_or base.values (attribute - 1) (pos 0) in
      let pair = get_or schema (attribute - 1) (pos 0, pos 0) in
      rw (sum-capped load.up (attribute - 1))
      (room-capped (pair.1 -ℤ value) (get_or load.up (attribute - 1) (pos 0)) (pos 0)
      (short_room pair value (bound_at schema (attribute - 1) bounds) (short_at base.values (attribute - 1) values)).0 (omega (arith, ints)))

  taken_parts : (l : Load) → list_all (λ q. not (is_past_room q)) (quantities_taken schema base l)
      ≡ (not (int_lt (pos 64) (pos l.count +ℤ pos 0))
      && (list_all (λ q. not (is_past_room q)) (map (decreases_at schema base l) (range_with_len 1 (length schema)))
      && list_all (λ q. not (is_past_room q)) (map (increases_at schema base l) (range_with_len 1 (length schema)))))
  taken_parts l =
      ap (λ b. not (int_lt (pos 64) (pos l.count +ℤ pos 0)) && b)
      (list_all-append (λ (q : Quantity). not (is_past_room q)) (map (decreases_at schema base l) (range_with_len 1 (length schema))) (map (increases_at schema base l) (range_with_len 1 (length schema))))

  taken_all-capped : list_all (λ q. not (is_past_room q)) (quantities_taken schema base (capped load)) ≡ list_all (λ q. not (is_past_room q)) (quantities_taken schema base load)
  taken_all-capped =
      rw (
        taken_parts (capped load),
        taken_parts load,
        taken-capped load.count,
        same_all (decreases_at schema base (capped load)) (decreases_at schema base load) decreases-capped (range_with_len 1 (length schema)),
        same_all (increases_at schema base (capped load)) (increases_at schema base load) increases-capped (range_with_len 1 (length schema)),
      ) refl

pub within_room-capped : (cluster : Cluster) (base : Option Item) (load : Load) → AreDeclared cluster base
    → are_within_room cluster base (capped load) ≡ are_within_room cluster base load
within_room-capped cluster None load h = refl
within_room-capped cluster (Some base) load h = taken_all-capped cluster.schema base load h.schema.each h.values

pub ruleset capped_rooms = (within_room-capped)
