-- What closing the last gate and cutting the end leave.
use Rattle.std.proofs.Common.{◌≡◌, ◌≢◌, ◌⊎◌, inl, inr, ⊎_elim, ℕ, ◌+◌, ◌-◌, ◌<◌, List, [], ◌∷◌, ◌++◌, length, get_or, take, drop, sym, ◌∙◌, ap, refl, subst, arith, append_assoc, length-append}
use Rattle.std.proofs.lemmas.List.{take_at, length-take-le, drop_more, take-append-drop}
use Rattle.std.proofs.lemmas.Bool.{cases_eq}
use Rattle.mdcc_disks.specs.Disks.{IsTorn, IsCut}
use Rattle.mdcc_log_file.specs.Crash.{MayRepair}
use Rattle.mdcc_log_file.proofs.Bytes.{one_torn, front_kept}

module _ (tears : ℕ → Type 0) where
  -- the gate's byte is the old one, the new one or a torn one
  gate_from : (gate : ℕ) (bytes c : List ℕ) → gate < length bytes → IsTorn tears gate (0 ∷ []) bytes c → (get_or c gate 0 ≡ get_or bytes gate 0) ⊎ ((get_or c gate 0 ≡ 0) ⊎ tears (get_or c gate 0))
  gate_from gate bytes c within torn =
      let here : gate - gate ≡ 0 = omega arith in
      ⊎_elim (λ stood. inl (sym stood.1)) (λ wrote. inr (⊎_elim (λ same. inl (sym same.1.1 ∙ ap (λ (k : ℕ). get_or (0 ∷ []) k 0) here)) (λ is. inr is) wrote))
      (torn.each gate (get_or c gate 0) (omega (arith, within, torn.no_shorter), refl))

  pub close_leaves : (gate : ℕ) (bytes c : List ℕ) → gate < length bytes → get_or bytes gate 0 ≢ 0 → IsTorn tears gate (0 ∷ []) bytes c → MayRepair tears gate bytes c
  close_leaves gate bytes c within was torn = inr (inl (record { was = was; becomes = get_or c gate 0; from = gate_from gate bytes c within torn; is = one_torn 0 bytes c gate within torn }))

front_size : (gate : ℕ) (bytes : List ℕ) → gate < length bytes → length (take gate bytes ++ 0 ∷ []) ≡ gate + 1
front_size gate bytes within = omega (arith, length-append (take gate bytes) (0 ∷ []), length-take-le gate bytes (omega (arith, within)))

pub cut_leaves : (tears : ℕ → Type 0) (gate : ℕ) (bytes rest c : List ℕ) → gate < length bytes → gate + 1 < length bytes → IsCut (gate + 1) (take gate bytes ++ 0 ∷ rest) c → MayRepair tears gate bytes c
cut_leaves tears gate bytes rest c within longer cut =
    let front = take gate bytes ++ 0 ∷ [] in
    let there : IsCut (length front) (front ++ rest) c =
    subst (λ (l : List ℕ). IsCut (length front) l c) (sym (append_assoc (take gate bytes) (0 ∷ []) rest)) (subst (λ (n : ℕ). IsCut n (take gate bytes ++ 0 ∷ rest) c) (sym (front_size gate bytes within)) cut) in
    inr (inr (record { longer = longer; rest = drop (length front) c; is = front_kept front rest c there ∙ append_assoc (take gate bytes) (0 ∷ []) (drop (length front) c) }))

pub cut_makes : (gate : ℕ) (bytes rest : List ℕ) → gate < length bytes → take (gate + 1) (take gate bytes ++ 0 ∷ rest) ≡ take gate bytes ++ 0 ∷ []
cut_makes gate bytes rest within =
    ap (λ (l : List ℕ). take (gate + 1) l) (sym (append_assoc (take gate bytes) (0 ∷ []) rest))
    ∙ take_at (take gate bytes ++ 0 ∷ []) rest (gate + 1) (front_size gate bytes within)

-- closing the gate is one of those
pub closed_leaves : (tears : ℕ → Type 0) (gate : ℕ) (bytes c : List ℕ) → gate < length bytes → c ≡ take gate bytes ++ 0 ∷ drop (gate + 1) bytes → MayRepair tears gate bytes c
closed_leaves tears gate bytes c within is = elim (cases_eq (get_or bytes gate 0) 0) [
  | inl closed ↦ inl (is ∙ ap (λ (g : ℕ). take gate bytes ++ g ∷ drop (gate + 1) bytes) (sym closed) ∙ ap (λ (l : List ℕ). take gate bytes ++ l) (sym (drop_more bytes gate 0 within)) ∙ take-append-drop gate bytes)
  | inr was ↦ inr (inl (record { was = was; becomes = 0; from = inr (inl refl); is = is }))
]
