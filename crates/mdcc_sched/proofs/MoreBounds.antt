-- Lines of bounds, one after another, and the schema that they are.
use Rattle.std.proofs.Common.{ℕ, ℤ, zero, suc, ◌+◌, ◌-◌, ◌≤◌, ◌<◌, ◌&&◌, Bool, true, false, not, cond, List, [], ◌∷◌, ◌++◌, length, nat_le, codes, ◌≡◌, refl, sym, ap, ◌∙◌, arith, Some, None, Result, Ok, Err, length-append, append_assoc, append-nil}
use Rattle.std.specs.List.{list_all}
use Rattle.std.proofs.lemmas.Bool.{and_parts, and_from, le-leb}
use Rattle.mdcc_option.specs.Bounds.{IsSchema, is_bound}
use Rattle.mdcc_option.specs.Schema.{bad_bound_from, schema_by, schema_of}
use Rattle.mdcc_option.specs.declared.schema.SchemaFault.TheVariants.{Count}
use Rattle.mdcc_def_language.specs.declared.schedule.HeaderFault.{HeaderFault}
use Rattle.mdcc_def_language.specs.Header.{UnreadLines, Bounds, begins_next, bound_line, more_bounds, bounds_lines}
use Rattle.mdcc_def_language.specs.Words.{◌>>=◌}

-- ---- schemas

none_by : (n : ℕ) (b : ℤ × ℤ) (bs : List (ℤ × ℤ)) (t : Bool) → (t && list_all is_bound bs) ≡ true → (list_all is_bound bs ≡ true → bad_bound_from (n + 1) bs ≡ None)
    → cond t (bad_bound_from (n + 1) bs) (Some n) ≡ None
none_by n b bs true e h = h e
none_by n b bs false e h = absurd (cc)

none_bad : (n : ℕ) (bs : List (ℤ × ℤ)) → list_all is_bound bs ≡ true → bad_bound_from n bs ≡ None
none_bad n [] e = refl
none_bad n (b ∷ bs) e = none_by n b bs (is_bound b) e (none_bad (n + 1) bs)

pub schema_given : (bounds : List (ℤ × ℤ)) → IsSchema bounds → schema_of bounds ≡ Ok bounds
schema_given bounds h =
    let few : (nat_le 1 (length bounds) && nat_le (length bounds) 4) ≡ true = and_from _ _ (le-leb 1 (length bounds) h.some) (le-leb (length bounds) 4 h.few) in
    ap (λ t. cond (not t) (Err Count) (schema_by (bad_bound_from 1 bounds) bounds)) few ∙ ap (λ bad. schema_by bad bounds) (none_bad 1 bounds h.each)

pub all_more : (bounds : List (ℤ × ℤ)) (one : ℤ × ℤ) → list_all is_bound bounds ≡ true → is_bound one ≡ true → list_all is_bound (bounds ++ one ∷ []) ≡ true
all_more [] one e f = and_from (is_bound one) true f refl
all_more (b ∷ bounds) one e f =
    let parts = and_parts (is_bound b) (list_all is_bound bounds) e in
    and_from (is_bound b) (list_all is_bound (bounds ++ one ∷ [])) parts.0 (all_more bounds one parts.1 f)

pub length_more : (bounds : List (ℤ × ℤ)) (one : ℤ × ℤ) → length (bounds ++ one ∷ []) ≡ length bounds + 1
length_more bounds one = length-append bounds (one ∷ [])

-- ---- lines

-- bounds that were read, before what the rest gives
abbrev pub onto_bounds : Bounds → Result (Bounds × UnreadLines) HeaderFault → Result (Bounds × UnreadLines) HeaderFault
onto_bounds bounds (Ok rest) = Ok (bounds ++ rest.0, rest.1)
onto_bounds bounds (Err fault) = Err fault

onto_more_bounds : (bounds : Bounds) (one : ℤ × ℤ) (rest : Result (Bounds × UnreadLines) HeaderFault)
    → onto_bounds (bounds ++ one ∷ []) rest ≡ onto_bounds bounds (rest >>= λ rest. Ok (one ∷ rest.0, rest.1))
onto_more_bounds bounds one (Ok rest) = ap (λ all. let found : Result (Bounds × UnreadLines) HeaderFault = Ok (all, rest.1) in found) (append_assoc bounds (one ∷ []) rest.0)
onto_more_bounds bounds one (Err fault) = refl

first_by : (one : ℤ × ℤ) (rest : Result (Bounds × UnreadLines) HeaderFault) → onto_bounds (one ∷ []) rest ≡ (rest >>= λ rest. Ok (one ∷ rest.0, rest.1))
first_by one (Ok rest) = refl
first_by one (Err fault) = refl

pub first_bound : (left : UnreadLines) (one : (ℤ × ℤ) × UnreadLines) → bound_line 1 left ≡ Ok one → onto_bounds (one.0 ∷ []) (more_bounds 3 2 one.1) ≡ bounds_lines left
first_bound left one e = first_by one.0 (more_bounds 3 2 one.1) ∙ sym (ap (λ r. r >>= λ one. more_bounds 3 2 one.1 >>= λ rest. Ok (one.0 ∷ rest.0, rest.1)) e)

other_by : (more n : ℕ) (left : UnreadLines) → begins_next (codes "bound") left ≡ false → more_bounds more n left ≡ Ok ([], left)
other_by zero n left other = refl
other_by (suc more) n left other = ap (λ t. cond t (bound_line n left >>= λ one. more_bounds more (n + 1) one.1 >>= λ rest. Ok (one.0 ∷ rest.0, rest.1)) (Ok ([], left))) other

module _ (whole : Result (Bounds × UnreadLines) HeaderFault) (bounds : Bounds) (left : UnreadLines)
    (same : onto_bounds bounds (more_bounds (4 - length bounds) (length bounds + 1) left) ≡ whole) where
  pub bound_read : (one : (ℤ × ℤ) × UnreadLines) → length bounds < 4 → begins_next (codes "bound") left ≡ true → bound_line (length bounds + 1) left ≡ Ok one
      → onto_bounds (bounds ++ one.0 ∷ []) (more_bounds (4 - length (bounds ++ one.0 ∷ [])) (length (bounds ++ one.0 ∷ []) + 1) one.1) ≡ whole
  bound_read one few next e =
      let n : ℕ = length bounds + 1 in
      let len : length (bounds ++ one.0 ∷ []) ≡ n = length-append bounds (one.0 ∷ []) in
      let left_over : 4 - length bounds ≡ suc (4 - n) = omega arith in
      rw len (onto_more_bounds bounds one.0 (more_bounds (4 - n) (n + 1) one.1)
      ∙ sym (ap (λ r. onto_bounds bounds (r >>= λ one. more_bounds (4 - n) (n + 1) one.1 >>= λ rest. Ok (one.0 ∷ rest.0, rest.1))) e)
      ∙ sym (ap (λ t. onto_bounds bounds (cond t (bound_line n left >>= λ one. more_bounds (4 - n) (n + 1) one.1 >>= λ rest. Ok (one.0 ∷ rest.0, rest.1)) (Ok ([], left)))) next)
      ∙ sym (ap (λ more. onto_bounds bounds (more_bounds more n left)) left_over)
      ∙ same)

  pub bound_refused : (fault : HeaderFault) → length bounds < 4 → begins_next (codes "bound") left ≡ true → bound_line (length bounds + 1) left ≡ Err fault → Err fault ≡ whole
  bound_refused fault few next e =
      let n : ℕ = length bounds + 1 in
      let left_over : 4 - length bounds ≡ suc (4 - n) = omega arith in
      sym (ap (λ r. onto_bounds bounds (r >>= λ one. more_bounds (4 - n) (n + 1) one.1 >>= λ rest. Ok (one.0 ∷ rest.0, rest.1))) e)
      ∙ sym (ap (λ t. onto_bounds bounds (cond t (bound_line n left >>= λ one. more_bounds (4 - n) (n + 1) one.1 >>= λ rest. Ok (one.0 ∷ rest.0, rest.1)) (Ok ([], left)))) next)
      ∙ sym (ap (λ more. onto_bounds bounds (more_bounds more n left)) left_over)
      ∙ same

  all_read : (more : Result (Bounds × UnreadLines) HeaderFault) → more ≡ Ok ([], left) → onto_bounds bounds more ≡ whole → Ok (bounds, left) ≡ whole
  all_read more e same =
      sym (ap (λ all. let found : Result (Bounds × UnreadLines) HeaderFault = Ok (all, left) in found) (append-nil bounds)) ∙ sym (ap (onto_bounds bounds) e) ∙ same

  pub bounds_full : 4 ≤ length bounds → Ok (bounds, left) ≡ whole
  bounds_full full =
      let none : 4 - length bounds ≡ 0 = omega arith in
      all_read (more_bounds (4 - length bounds) (length bounds + 1) left) (ap (λ more. more_bounds more (length bounds + 1) left) none) same

  pub bounds_ended : begins_next (codes "bound") left ≡ false → Ok (bounds, left) ≡ whole
  bounds_ended other = all_read (more_bounds (4 - length bounds) (length bounds + 1) left) (other_by (4 - length bounds) (length bounds + 1) left other) same
