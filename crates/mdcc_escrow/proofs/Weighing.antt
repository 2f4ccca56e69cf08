-- Sums that are capped entry by entry are the capped sums.
use Rattle.std.proofs.Common.{◌≡◌, ℕ, pos, ◌+◌, ◌-◌, ◌^◌, min, Bool, List, [], ◌∷◌, ◌++◌, refl, sym, ap, ◌∙◌, arith, fold, add-zero, add_assoc, zero-add}
use Rattle.std.specs.Prelude.{if◌then◌else◌, not}
use Rattle.std.proofs.lemmas.Bool.Decides.{nat_tests}
use Rattle.std.proofs.lemmas.List.Sums.{fold-append}
use Rattle.mdcc_base.specs.Counts.{number_of, sum_over}
use Rattle.mdcc_base.specs.declared.identifiers.TxId.{TxId}
use Rattle.mdcc_option.specs.OneCopy.{amount_at}
use Rattle.mdcc_option.specs.declared.items.Update.{Update}
use Rattle.mdcc_struct.specs.Maps.{TxMap}
use Rattle.mdcc_def_protocol.specs.Fit.{amounts_in, capped, capped_sum, decrease, has_tx, increase, load_of}
use Rattle.mdcc_def_protocol.specs.Marks.{is_write}
use Rattle.mdcc_def_protocol.specs.declared.fit.Load.{Load}
use Rattle.mdcc_escrow.specs.Weights.{with_amount, counted, no_load, with_live}

-- ---- one sum

capped-twice : (a b cap : ℕ) → min (min a cap + b) cap ≡ min (a + b) cap
capped-twice a b cap = omega arith

capped-further : (a b c cap : ℕ) → min (a + b + c) cap ≡ min (a + (b + c)) cap
capped-further a b c cap = omega arith

abbrev pub bit : Bool → ℕ
bit test = if test then 1 else 0

pub counted-capped : (test : Bool) (a : ℕ) → counted test (min a (2 ^ 32 - 1)) ≡ min (a + bit test) (2 ^ 32 - 1)
counted-capped test a = capped-twice a (bit test) (2 ^ 32 - 1)

capped_sum-pos : (n : ℕ) → capped_sum (pos n) ≡ pos (min n (2 ^ 96))
capped_sum-pos n = grind (arith, nat_tests)

added-capped : (size a : ℕ) → with_amount size (pos (min a (2 ^ 96))) ≡ pos (min (a + size) (2 ^ 96))
added-capped size a = capped_sum-pos (min a (2 ^ 96) + size) ∙ ap pos (capped-twice a size (2 ^ 96))

-- ---- loads

abbrev pub capped_load : (writes unseen count d1 d2 d3 d4 u1 u2 u3 u4 : ℕ) → Load
capped_load writes unseen count d1 d2 d3 d4 u1 u2 u3 u4 = record {
  writes = min writes (2 ^ 32 - 1);
  unseen = min unseen (2 ^ 32 - 1);
  count = min count (2 ^ 32 - 1);
  down = pos (min d1 (2 ^ 96)) ∷ pos (min d2 (2 ^ 96)) ∷ pos (min d3 (2 ^ 96)) ∷ pos (min d4 (2 ^ 96)) ∷ [];
  up = pos (min u1 (2 ^ 96)) ∷ pos (min u2 (2 ^ 96)) ∷ pos (min u3 (2 ^ 96)) ∷ pos (min u4 (2 ^ 96)) ∷ [];
}

abbrev pub taken : ℕ → TxId × Update → ℕ
taken attribute e = decrease (amount_at attribute (amounts_in e.1))

abbrev pub given : ℕ → TxId × Update → ℕ
given attribute e = increase (amount_at attribute (amounts_in e.1))

module _ (seen : List TxId) where
  abbrev pub is_unseen : TxId × Update → Bool
  is_unseen e = not (has_tx seen e.0)

  with_live-capped : (e : TxId × Update) (w n c d1 d2 d3 d4 u1 u2 u3 u4 : ℕ)
      → with_live seen (capped_load w n c d1 d2 d3 d4 u1 u2 u3 u4) e
      ≡ capped_load (w + bit (is_write e.1)) (n + bit (is_unseen e)) (c + bit (not (is_write e.1)))
      (d1 + taken 1 e) (d2 + taken 2 e) (d3 + taken 3 e) (d4 + taken 4 e) (u1 + given 1 e) (u2 + given 2 e) (u3 + given 3 e) (u4 + given 4 e)
  with_live-capped e w n c d1 d2 d3 d4 u1 u2 u3 u4 =
      rw (
        counted-capped (is_write e.1) w,
        counted-capped (is_unseen e) n,
        counted-capped (not (is_write e.1)) c,
        added-capped (taken 1 e) d1,
        added-capped (taken 2 e) d2,
        added-capped (taken 3 e) d3,
        added-capped (taken 4 e) d4,
        added-capped (given 1 e) u1,
        added-capped (given 2 e) u2,
        added-capped (given 3 e) u3,
        added-capped (given 4 e) u4,
      ) refl

  load_from : (m : TxMap Update) (w n c d1 d2 d3 d4 u1 u2 u3 u4 : ℕ)
      → fold (with_live seen) (capped_load w n c d1 d2 d3 d4 u1 u2 u3 u4) m
      ≡ capped_load (w + number_of (λ e. is_write e.1) m) (n + number_of is_unseen m) (c + number_of (λ e. not (is_write e.1)) m)
      (d1 + sum_over (taken 1) m) (d2 + sum_over (taken 2) m) (d3 + sum_over (taken 3) m) (d4 + sum_over (taken 4) m)
      (u1 + sum_over (given 1) m) (u2 + sum_over (given 2) m) (u3 + sum_over (given 3) m) (u4 + sum_over (given 4) m)
  load_from [] w n c d1 d2 d3 d4 u1 u2 u3 u4 =
      rw (add-zero w, add-zero n, add-zero c, add-zero d1, add-zero d2, add-zero d3, add-zero d4, add-zero u1, add-zero u2, add-zero u3, add-zero u4) refl
  load_from (e ∷ es) w n c d1 d2 d3 d4 u1 u2 u3 u4 =
      ap (λ load. fold (with_live seen) load es) (with_live-capped e w n c d1 d2 d3 d4 u1 u2 u3 u4)
      ∙ load_from es (w + bit (is_write e.1)) (n + bit (is_unseen e)) (c + bit (not (is_write e.1)))
      (d1 + taken 1 e) (d2 + taken 2 e) (d3 + taken 3 e) (d4 + taken 4 e) (u1 + given 1 e) (u2 + given 2 e) (u3 + given 3 e) (u4 + given 4 e)
      ∙ rw (add_assoc w, add_assoc n, add_assoc c, add_assoc d1, add_assoc d2, add_assoc d3, add_assoc d4, add_assoc u1, add_assoc u2, add_assoc u3, add_assoc u4) refl

  pub load_summed : (m : TxMap Update) → fold (with_live seen) no_load m ≡ capped (load_of m seen)
  load_summed m =
      load_from m 0 0 0 0 0 0 0 0 0 0 0
      ∙ rw (
        zero-add (number_of (λ e. is_write e.1) m),
        zero-add (number_of is_unseen m),
        zero-add (number_of (λ e. not (is_write e.1)) m),
        zero-add (sum_over (taken 1) m),
        zero-add (sum_over (taken 2) m),
        zero-add (sum_over (taken 3) m),
        zero-add (sum_over (taken 4) m),
        zero-add (sum_over (given 1) m),
        zero-add (sum_over (given 2) m),
        zero-add (sum_over (given 3) m),
        zero-add (sum_over (given 4) m),
        capped_sum-pos (sum_over (taken 1) m),
        capped_sum-pos (sum_over (taken 2) m),
        capped_sum-pos (sum_over (taken 3) m),
        capped_sum-pos (sum_over (taken 4) m),
        capped_sum-pos (sum_over (given 1) m),
        capped_sum-pos (sum_over (given 2) m),
        capped_sum-pos (sum_over (given 3) m),
        capped_sum-pos (sum_over (given 4) m),
      ) refl

pub load_more : (seen : List TxId) (live : TxMap Update) (e : TxId × Update) → with_live seen (capped (load_of live seen)) e ≡ capped (load_of (live ++ e ∷ []) seen)
load_more seen live e =
    ap (λ load. with_live seen load e) (sym (load_summed seen live)) ∙ sym (fold-append (with_live seen) no_load live (e ∷ [])) ∙ load_summed seen (live ++ e ∷ [])
