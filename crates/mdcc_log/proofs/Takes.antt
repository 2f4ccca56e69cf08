-- What the area that is not taken is.
use Rattle.std.proofs.Common.{◌≡◌, ◌≢◌, ◌⊎◌, inl, inr, ℕ, ◌<◌, ◌≤◌, ◌==◌, ◌&&◌, nat_le, nat_lt, Bool, cond, true, false, List, length, Ok, Err, Result, sym, ◌∙◌, ap, refl, subst, arith}
use Rattle.std.proofs.lemmas.Bool.{cases_lt, and_parts, and_right}
use Rattle.std.proofs.lemmas.Bool.Decides.{nat_tests}
use Rattle.mdcc_log_file.specs.Area.{area_gate, copy_generation, generation_in, is_copy, is_first, is_log, is_second, is_torn, newer, only, taken, with_gate}
use Rattle.mdcc_log.specs.Crash.{IsDead, IsOlder}
use Rattle.mdcc_log.specs.Repair.{with_closed_gate}
use Rattle.mdcc_log.proofs.AreaRead.{longer_test, first_not_second}
use Rattle.mdcc_log.proofs.Around.{gate_shut}
use Rattle.mdcc_log.proofs.Choice.{choice, decided, either}
use Rattle.mdcc_log.proofs.Idles.{torn_is_long}
use Rattle.mdcc_log.proofs.Keeps.{not_torn}
use Rattle.mdcc_log.proofs.Stands.{copy_parts}

pub unclosed : (bytes : List ℕ) → is_torn bytes ≡ false → with_closed_gate bytes ≡ bytes
unclosed bytes whole = ap (λ (b : Bool). cond b (with_gate 0 bytes) bytes) whole

closed : (bytes : List ℕ) → is_torn bytes ≡ true → with_closed_gate bytes ≡ with_gate 0 bytes
closed bytes torn = ap (λ (b : Bool). cond b (with_gate 0 bytes) bytes) torn

gate_zero : (n : ℕ) → (n == 1) ≡ false → nat_lt 1 n ≡ false → n ≡ 0
gate_zero n other small = grind (arith, nat_tests)

marked_dead : (bytes : List ℕ) → nat_lt 9 (length bytes) ≡ true → is_second bytes ≡ true → is_copy bytes ≡ false → is_torn bytes ≡ false → area_gate bytes ≡ 0
marked_dead bytes long marked other whole =
    let copy : (area_gate bytes == 1) ≡ false = sym (ap (λ (b : Bool). b && (is_second bytes && area_gate bytes == 1)) long ∙ ap (λ (b : Bool). b && area_gate bytes == 1) marked) ∙ other in
    let torn : nat_lt 1 (area_gate bytes) ≡ false = sym (ap (λ (b : Bool). b && (is_second bytes && nat_lt 1 (area_gate bytes))) long ∙ ap (λ (b : Bool). b && nat_lt 1 (area_gate bytes)) marked) ∙ whole in
    gate_zero (area_gate bytes) copy torn

whole_dead : (bytes : List ℕ) → is_copy bytes ≡ false → is_torn bytes ≡ false → IsDead bytes
whole_dead bytes other whole = elim (cases_lt 9 (length bytes)) [
  | inr short ↦ inl short
  | inl long ↦ elim (either (is_second bytes)) [
    | inr unmarked ↦ inr (inl unmarked)
    | inl marked ↦ inr (inr (marked_dead bytes (longer_test bytes long) marked other whole))
  ]
]

not_copy_dead : (bytes : List ℕ) → is_copy bytes ≡ false → IsDead (with_closed_gate bytes)
not_copy_dead bytes other = elim (either (is_torn bytes)) [
  | inl torn ↦ subst IsDead (sym (closed bytes torn)) (inr (inr (gate_shut bytes (omega (arith, torn_is_long bytes torn)))))
  | inr whole ↦ subst IsDead (sym (unclosed bytes whole)) (whole_dead bytes other whole)
]

-- ---- a copy of a smaller generation

abbrev ok : ℕ → Result ℕ ℕ
ok n = Ok n

abbrev err : ℕ → Result ℕ ℕ
err n = Err n

pub ok_is : (x y : ℕ) → ok x ≡ ok y → x ≡ y
ok_is x y e = cc

pub refused : (n m : ℕ) → err n ≡ ok m → ⊥
refused n m e = cc

pub differs : (n m : ℕ) → n ≢ m → ok n ≡ ok m → ⊥
differs n m apart e = apart (ok_is n m e)

cond_ok : (b : Bool) (n h : ℕ) (r : Result ℕ ℕ) → cond b (Err n) r ≡ Ok h → (b ≡ false) × (r ≡ Ok h)
cond_ok true n h r is = absurd (refused n h is)
cond_ok false n h r is = (refl, is)

number_ok : (n h : ℕ) → cond (n == 0) (err 9) (ok n) ≡ ok h → (n ≡ h) × (0 < h)
number_ok n h is =
    let parts = cond_ok (n == 0) 9 h (Ok n) is in
    let same : n ≡ h = ok_is n h parts.1 in
    (same, positive same parts.0)
  where
    positive : n ≡ h → (n == 0) ≡ false → 0 < h
    positive e test = grind (arith, nat_tests)

long_enough : (bytes : List ℕ) → nat_lt (length bytes) 25 ≡ false → 25 ≤ length bytes
long_enough bytes test = grind (arith, nat_tests)

pub numbers_of : (bytes : List ℕ) (h : ℕ) → copy_generation bytes ≡ Ok h → (25 ≤ length bytes) × ((generation_in bytes ≡ h) × (0 < h))
numbers_of bytes h is =
    let one = cond_ok (nat_lt (length bytes) 17) 9 h _ is in
    let two = cond_ok (nat_lt (length bytes) 25) 17 h _ one.1 in
    (long_enough bytes two.0, number_ok (generation_in bytes) h two.1)

copy_whole : (bytes : List ℕ) → is_copy bytes ≡ true → is_torn bytes ≡ false
copy_whole bytes copy = and_right (nat_lt 9 (length bytes)) _ (and_right (is_second bytes) _ (ap (λ (n : ℕ). nat_lt 1 n) (copy_parts bytes copy).1.1))

copy_older : (bytes : List ℕ) (g h : ℕ) → is_copy bytes ≡ true → copy_generation bytes ≡ Ok h → h < g → IsOlder g (with_closed_gate bytes)
copy_older bytes g h copy generation less =
    let numbers = numbers_of bytes h generation in
    subst (IsOlder g) (sym (unclosed bytes (copy_whole bytes copy)))
    (record { marked = (copy_parts bytes copy).1.0; long = numbers.0; some = omega (arith, numbers.1.0, numbers.1.1); older = omega (arith, numbers.1.0, less) })

-- ---- what a choice says

abbrev pub Order : ℕ → ℕ → ℕ → Type 0
Order which g h = ((which ≡ 0) × (h < g)) ⊎ ((which ≡ 1) × (g < h))

pub record Newer (r s : Result ℕ ℕ) (which : ℕ) : Type 0 where
  pub g : ℕ
  pub h : ℕ
  pub first : r ≡ Ok g
  pub second : s ≡ Ok h
  pub order : Order which g h

newer_by : (g h which : ℕ) → newer (ok g) (ok h) ≡ ok which → Order which g h
newer_by g h which is =
    let apart = cond_ok (g == h) 9 which _ is in
    elim (cases_lt g h) [
      | inl less ↦ inr (sym (ok_is 1 which (sym (ap (λ (b : Bool). cond b (ok 1) (ok 0)) (yes less)) ∙ apart.1)), less)
      | inr more ↦ inl (sym (ok_is 0 which (sym (ap (λ (b : Bool). cond b (ok 1) (ok 0)) (not_less more)) ∙ apart.1)), strict apart.0 more)
    ]
  where
    yes : g < h → nat_lt g h ≡ true
    yes less = grind (arith, nat_tests)

    not_less : h ≤ g → nat_lt g h ≡ false
    not_less more = grind (arith, nat_tests)

    strict : (g == h) ≡ false → h ≤ g → h < g
    strict test more = grind (arith, nat_tests)

pub newer_is : (r s : Result ℕ ℕ) (which : ℕ) → newer r s ≡ Ok which → Newer r s which
newer_is (Err n) s which is = absurd (refused n which is)
newer_is (Ok g) (Err n) which is = absurd (refused n which is)
newer_is (Ok g) (Ok h) which is = record { g = g; h = h; first = refl; second = refl; order = newer_by g h which is }

only_is : (area which : ℕ) (r : Result ℕ ℕ) → only area r ≡ Ok which → area ≢ which → ⊥
only_is area which (Err n) is apart = refused n which is
only_is area which (Ok g) is apart = differs area which apart is

-- ---- the other area

pub second_idle : (first second : List ℕ) (g : ℕ) → taken first second ≡ Ok 0 → (is_copy first ≡ true → copy_generation first ≡ Ok g) → IsDead (with_closed_gate second) ⊎ IsOlder g (with_closed_gate second)
second_idle first second g is numbered = elim (either (is_copy second)) [
  | inr other ↦ inl (not_copy_dead second other)
  | inl copy ↦ elim (either (is_log first)) [
    | inl log ↦
        let one = newer_is (Ok 0) (copy_generation second) 0 (sym (decided first second true true _ _ _ _ copy log refl refl refl refl) ∙ is) in
        absurd (none_below one)
    | inr no_log ↦ elim (either (is_copy first)) [
      | inr none ↦ absurd (only_is 1 0 (copy_generation second) (sym (decided first second true false false _ _ _ copy no_log none refl refl refl) ∙ is) (λ same. omega (arith, same)))
      | inl both ↦
          let one = newer_is (copy_generation first) (copy_generation second) 0 (sym (decided first second true false true _ _ _ copy no_log both refl refl refl) ∙ is) in
          inr (copy_older second g one.h copy one.second (less_of one.g one.h one.order (ok_is g one.g (sym (numbered both) ∙ one.first))))
    ]
  ]
]
  where
    none_below : Newer (Ok 0) (copy_generation second) 0 → ⊥
    none_below one = elim one.order [
      | inl below ↦ let same : 0 ≡ one.g = ok_is 0 one.g one.first in omega (arith, below.1, same)
      | inr above ↦ omega (arith, above.0)
    ]

    less_of : (a b : ℕ) → Order 0 a b → g ≡ a → b < g
    less_of a b (inl below) same = omega (arith, below.1, same)
    less_of a b (inr above) same = absurd (omega (arith, above.0))

pub second_is_copy : (first second : List ℕ) → taken first second ≡ Ok 1 → is_copy second ≡ true
second_is_copy first second is = elim (either (is_copy second)) [
  | inl copy ↦ copy
  | inr other ↦ absurd (none (is_log first) (is_copy first) (nat_le (length first) 9) (copy_generation first) (sym (decided first second false _ _ _ _ _ other refl refl refl refl refl) ∙ is))
]
  where
    none : (log1 copy1 short1 : Bool) (gen1 : Result ℕ ℕ) → choice false log1 copy1 short1 gen1 (copy_generation second) ≡ Ok 1 → ⊥
    none true copy1 short1 gen1 e = differs 0 1 (λ same. omega (arith, same)) e
    none false true short1 gen1 e = only_is 0 1 gen1 e (λ same. omega (arith, same))
    none false false true gen1 e = differs 0 1 (λ same. omega (arith, same)) e
    none false false false gen1 e = refused 0 1 e

pub first_idle : (first second : List ℕ) (g : ℕ) → taken first second ≡ Ok 1 → (is_copy second ≡ true → copy_generation second ≡ Ok g) → IsDead (with_closed_gate first) ⊎ IsOlder g (with_closed_gate first)
first_idle first second g is numbered =
    let copy = second_is_copy first second is in
    elim (either (is_log first)) [
      | inl log ↦ inl (log_dead log)
      | inr no_log ↦ elim (either (is_copy first)) [
        | inr none ↦ inl (not_copy_dead first none)
        | inl both ↦
            let one = newer_is (copy_generation first) (copy_generation second) 1 (sym (decided first second true false true _ _ _ copy no_log both refl refl refl) ∙ is) in
            inr (copy_older first g one.g both one.first (less_of one.g one.h one.order (ok_is g one.h (sym (numbered copy) ∙ one.second))))
      ]
    ]
  where
    log_dead : is_log first ≡ true → IsDead (with_closed_gate first)
    log_dead log =
        let unmarked = first_not_second first (and_parts (nat_lt 9 (length first)) (is_first first) log).1 in
        subst IsDead (sym (unclosed first (not_torn first unmarked))) (inr (inl unmarked))

    less_of : (a b : ℕ) → Order 1 a b → g ≡ b → a < g
    less_of a b (inl below) same = absurd (omega (arith, below.0))
    less_of a b (inr above) same = omega (arith, above.1, same)
