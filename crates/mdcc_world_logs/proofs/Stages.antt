-- What the device calls of an append leave of an area, one after another.
use Rattle.std.proofs.Common.{◌≡◌, ◌≢◌, ◌+◌, ◌-◌, ◌≤◌, ◌<◌, ◌∷◌, ◌++◌, ◌⊎◌, [], Bool, List, ap, arith, cond, drop, false, inl, inr, length, refl, replicate, subst, suc, sym, true, zero, ℕ, ◌∙◌, append_assoc, length-append}
use Rattle.std.proofs.lemmas.List.{drop_at, take_at}
use Rattle.mdcc_base.specs.declared.outside.Image.{Image}
use Rattle.mdcc_base.specs.declared.outside.Image.TheVariants.{Kept, Lost, Torn}
use Rattle.mdcc_disks.specs.Contents.{Contents, IsImage, done, durable, image_of, overwritten}
use Rattle.mdcc_disks.specs.Disks.DiskCall.{Sync, Write}
use Rattle.mdcc_disks.specs.Disks.{Within}
use Rattle.mdcc_log_file.proofs.Bytes.{end_written, one_written}
use Rattle.mdcc_log.proofs.Choice.{appended_front}
use Rattle.mdcc_log_file.specs.Append.{MayAppend}
use Rattle.mdcc_log_file.specs.Area.{AreaLog, front_of}
use Rattle.mdcc_log.specs.Frames.{appended}
use Rattle.mdcc_log_file.specs.Calls.{append_calls}
use Rattle.mdcc_log_file.specs.Log.{frame_body}
use Rattle.mdcc_world_logs.specs.Stopping.{stopped_at}
use Rattle.mdcc_def_simulation.specs.Checkpoints.{is_frame_kept}

end-over : (old bytes : List ℕ) → overwritten (length old) bytes old ≡ old ++ bytes
end-over old bytes = end_written old bytes (overwritten (length old) bytes old) refl

one-over : (front rest : List ℕ) (was byte : ℕ) → overwritten (length front) (byte ∷ []) (front ++ was ∷ rest) ≡ front ++ byte ∷ rest
one-over front rest was byte =
    one_written (front ++ was ∷ rest) (overwritten (length front) (byte ∷ []) (front ++ was ∷ rest)) (length front) byte refl
    ∙ ap (λ (l : List ℕ). l ++ byte ∷ drop (length front + 1) (front ++ was ∷ rest)) (take_at front (was ∷ rest) (length front) refl)
    ∙ ap (λ (l : List ℕ). front ++ byte ∷ l) past
  where
    past : drop (length front + 1) (front ++ was ∷ rest) ≡ rest
    past = ap (λ (k : List ℕ). drop (length front + 1) k) (sym (append_assoc front (was ∷ []) rest)) ∙ drop_at (front ++ was ∷ []) rest (length front + 1) (length-append front (was ∷ []))

early-lost : (image : Image) → is_frame_kept 1 image ≡ false
early-lost Lost = refl
early-lost Kept = refl
early-lost Torn = refl

-- ---- which calls were made

pub stopped-early : (call size : ℕ) (payload : List ℕ) (was : Contents) → 1 ≤ call → call < 3
    → stopped_at call (append_calls size payload) was ≡ done (Write size (frame_body payload ++ 0 ∷ [])) false was
stopped-early zero size payload was first early = absurd (omega (first, arith))
stopped-early (suc zero) size payload was first early = refl
stopped-early (suc (suc zero)) size payload was first early = refl
stopped-early (suc (suc (suc n))) size payload was first early = absurd (omega (early, arith))

pub stopped-late : (call size : ℕ) (payload : List ℕ) (was : Contents) → 3 ≤ call → call ≤ 4
    → stopped_at call (append_calls size payload) was ≡ done (Write (size - 1) (1 ∷ [])) false (done Sync false (done (Write size (frame_body payload ++ 0 ∷ [])) false was))
stopped-late zero size payload was late last = absurd (omega (late, arith))
stopped-late (suc zero) size payload was late last = absurd (omega (late, arith))
stopped-late (suc (suc zero)) size payload was late last = absurd (omega (late, arith))
stopped-late (suc (suc (suc zero))) size payload was late last = refl
stopped-late (suc (suc (suc (suc zero)))) size payload was late last = refl
stopped-late (suc (suc (suc (suc (suc n))))) size payload was late last = absurd (omega (last, arith))

-- ---- what stands then

-- behind this front stand a closed gate and nothing else
abbrev pub shut_end : List ℕ → List ℕ
shut_end front = front ++ 0 ∷ []

module _ (front payload : List ℕ) where
  abbrev pub body : List ℕ
  body = frame_body payload ++ 0 ∷ []

  -- with something behind its closed gate
  behind : (rest : List ℕ) → shut_end front ++ rest ≡ front ++ 0 ∷ rest
  behind rest = append_assoc front (0 ∷ []) rest

  -- the frame is written behind the closed gate
  abbrev pub framed : Contents
  framed = record { kept = front ++ 0 ∷ body; lost = shut_end front; torn = front ++ 0 ∷ replicate (length body) 165 }

  -- the gate is written
  abbrev pub gated : Contents
  gated = record { kept = front ++ 1 ∷ body; lost = front ++ 0 ∷ body; torn = front ++ 165 ∷ body }

  pub framing : (size : ℕ) (failed : Bool) → size ≡ length (shut_end front) → done (Write size body) failed (durable (shut_end front)) ≡ framed
  framing size failed is =
      ap (λ (n : ℕ). done (Write n body) failed (durable (shut_end front))) is
      ∙ ap (λ (l : List ℕ). record { kept = l; lost = shut_end front; torn = overwritten (length (shut_end front)) (replicate (length body) 165) (shut_end front) }) (end-over (shut_end front) body ∙ behind body)
      ∙ ap (λ (l : List ℕ). record { kept = front ++ 0 ∷ body; lost = shut_end front; torn = l }) (end-over (shut_end front) (replicate (length body) 165) ∙ behind (replicate (length body) 165))

  pub gating : (size : ℕ) (failed : Bool) → size ≡ length (shut_end front) → done (Write (size - 1) (1 ∷ [])) failed (done Sync false framed) ≡ gated
  gating size failed is =
      let there : size - 1 ≡ length front = omega (is, length-append front (0 ∷ []), arith) in
      ap (λ (n : ℕ). done (Write n (1 ∷ [])) failed (durable (front ++ 0 ∷ body))) there
      ∙ ap (λ (l : List ℕ). record { kept = l; lost = front ++ 0 ∷ body; torn = overwritten (length front) (165 ∷ []) (front ++ 0 ∷ body) }) (one-over front body 0 1)
      ∙ ap (λ (l : List ℕ). record { kept = front ++ 1 ∷ body; lost = front ++ 0 ∷ body; torn = l }) (one-over front body 0 165)

  -- ---- what a crash may leave

  shut : (rest c : List ℕ) → c ≡ front ++ 0 ∷ rest → MayAppend front payload c
  shut rest c is = inl (rest, is)

  undecided : (gate : ℕ) (c : List ℕ) → c ≡ front ++ gate ∷ body → MayAppend front payload c
  undecided gate c is = inr (gate, is)

  pub rest-between : Within (MayAppend front payload) (IsImage (durable (shut_end front)))
  rest-between c (inl is) = shut [] c is
  rest-between c (inr (inl is)) = shut [] c is
  rest-between c (inr (inr is)) = shut [] c is

  pub framed-between : Within (MayAppend front payload) (IsImage framed)
  framed-between c (inl is) = shut body c is
  framed-between c (inr (inl is)) = shut [] c is
  framed-between c (inr (inr is)) = shut (replicate (length body) 165) c is

  pub synced-between : Within (MayAppend front payload) (IsImage (done Sync false framed))
  synced-between c (inl is) = shut body c is
  synced-between c (inr (inl is)) = shut body c is
  synced-between c (inr (inr is)) = shut body c is

  pub gated-between : Within (MayAppend front payload) (IsImage gated)
  gated-between c (inl is) = undecided 1 c is
  gated-between c (inr (inl is)) = shut body c is
  gated-between c (inr (inr is)) = undecided 165 c is

  -- ---- where the calls are made in a disk that holds the area

  holds-between : (contents other : Contents) → contents ≡ other → Within (MayAppend front payload) (IsImage other) → Within (MayAppend front payload) (IsImage contents)
  holds-between contents other is within = subst (λ (c : Contents). Within (MayAppend front payload) (IsImage c)) (sym is) within

  pub writing : (size : ℕ) (frame : List ℕ) (failed : Bool) (old new : Contents) → size ≡ length (shut_end front) → frame ≡ frame_body payload ++ 0 ∷ [] → old ≡ durable (shut_end front)
      → new ≡ done (Write size frame) failed old → new ≡ framed
  writing size frame failed old new is bytes was wrote =
      wrote ∙ ap (λ (l : List ℕ). done (Write size l) failed old) bytes ∙ ap (λ (c : Contents). done (Write size body) failed c) was ∙ framing size failed is

  -- the frame was perhaps not written
  pub write-between : (size : ℕ) (frame : List ℕ) (old new : Contents) → size ≡ length (shut_end front) → frame ≡ frame_body payload ++ 0 ∷ [] → old ≡ durable (shut_end front)
      → (new ≡ done (Write size frame) true old) ⊎ (new ≡ old) → Within (MayAppend front payload) (IsImage new)
  write-between size frame old new is bytes was either = elim either [
    | inl wrote ↦ holds-between new framed (writing size frame true old new is bytes was wrote) framed-between
    | inr same ↦ holds-between new (durable (shut_end front)) (same ∙ was) rest-between
  ]

  -- the gate was perhaps not written
  pub gate-between : (size : ℕ) (old new : Contents) → size ≡ length (shut_end front) → old ≡ framed
      → (new ≡ old) ⊎ ((new ≡ done Sync false old) ⊎ (new ≡ done (Write (size - 1) (1 ∷ [])) false (done Sync false old))) → Within (MayAppend front payload) (IsImage new)
  gate-between size old new is was which = elim which [
    | inl same ↦ holds-between new framed (same ∙ was) framed-between
    | inr more ↦ elim more [
      | inl synced ↦ holds-between new (done Sync false framed) (synced ∙ ap (λ (c : Contents). done Sync false c) was) synced-between
      | inr wrote ↦ holds-between new gated (wrote ∙ ap (λ (c : Contents). done (Write (size - 1) (1 ∷ [])) false (done Sync false c)) was ∙ gating size false is) gated-between
    ]
  ]

-- ---- what a stop leaves

-- This log stands in an area: behind its front stands a gate that is not open.
pub record EndsShut (log : AreaLog) (bytes : List ℕ) : Type 0 where
  pub gate : ℕ
  pub rest : List ℕ
  pub shut : gate ≢ 1
  pub file : bytes ≡ front_of log ++ gate ∷ rest

module _ (log : AreaLog) (payload : List ℕ) where
  ends : (gate : ℕ) (rest bytes : List ℕ) → gate ≢ 1 → bytes ≡ front_of log ++ gate ∷ rest → EndsShut log bytes
  ends gate rest bytes shut is = record { gate = gate; rest = rest; shut = shut; file = is }

  framed-ends : (image : Image) → EndsShut log (image_of image (framed (front_of log) payload))
  framed-ends Lost = ends 0 [] _ (omega arith) refl
  framed-ends Kept = ends 0 (body (front_of log) payload) _ (omega arith) refl
  framed-ends Torn = ends 0 (replicate (length (body (front_of log) payload)) 165) _ (omega arith) refl

  gated-ends : (image : Image) → EndsShut (cond (is_frame_kept 3 image) (appended log payload) log) (image_of image (gated (front_of log) payload))
  gated-ends Lost = ends 0 (body (front_of log) payload) _ (omega arith) refl
  gated-ends Kept = record { gate = 0; rest = []; shut = omega arith; file = sym (appended_front log payload (0 ∷ [])) }
  gated-ends Torn = ends 165 (body (front_of log) payload) _ (omega arith) refl

  early-ends : (image : Image) (call : ℕ) (bytes : List ℕ) → is_frame_kept call image ≡ false → EndsShut log bytes → EndsShut (cond (is_frame_kept call image) (appended log payload) log) bytes
  early-ends image call bytes lost is = subst (λ (b : Bool). EndsShut (cond b (appended log payload) log) bytes) (sym lost) is

  second-lost : (image : Image) → is_frame_kept 2 image ≡ false
  second-lost Lost = refl
  second-lost Kept = refl
  second-lost Torn = refl

  fourth-kept : (image : Image) → is_frame_kept 4 image ≡ is_frame_kept 3 image
  fourth-kept Lost = refl
  fourth-kept Kept = refl
  fourth-kept Torn = refl

  -- after a stop
  pub stop-ends : (size call : ℕ) (image : Image) → size ≡ length (shut_end (front_of log)) → 1 ≤ call → call ≤ 4
      → EndsShut (cond (is_frame_kept call image) (appended log payload) log) (image_of image (stopped_at call (append_calls size payload) (durable (shut_end (front_of log)))))
  stop-ends size zero image is first last = absurd (omega (first, arith))
  stop-ends size (suc zero) image is first last =
      early-ends image 1 _ (early-lost image) (subst (λ (c : Contents). EndsShut log (image_of image c)) (sym (framing (front_of log) payload size true is)) (framed-ends image))
  stop-ends size (suc (suc zero)) image is first last =
      early-ends image 2 _ (second-lost image) (subst (λ (c : Contents). EndsShut log (image_of image c)) (sym (framing (front_of log) payload size false is)) (framed-ends image))
  stop-ends size (suc (suc (suc zero))) image is first last =
      subst (λ (c : Contents). EndsShut (cond (is_frame_kept 3 image) (appended log payload) log) (image_of image (done (Write (size - 1) (1 ∷ [])) true (done Sync false c)))) (sym (framing (front_of log) payload size false is))
      (subst (λ (c : Contents). EndsShut (cond (is_frame_kept 3 image) (appended log payload) log) (image_of image c)) (sym (gating (front_of log) payload size true is)) (gated-ends image))
  stop-ends size (suc (suc (suc (suc zero)))) image is first last =
      subst (λ (b : Bool). EndsShut (cond b (appended log payload) log) (image_of image (stopped_at 4 (append_calls size payload) (durable (shut_end (front_of log)))))) (sym (fourth-kept image))
      (subst (λ (c : Contents). EndsShut (cond (is_frame_kept 3 image) (appended log payload) log) (image_of image (done (Write (size - 1) (1 ∷ [])) false (done Sync false c)))) (sym (framing (front_of log) payload size false is))
      (subst (λ (c : Contents). EndsShut (cond (is_frame_kept 3 image) (appended log payload) log) (image_of image c)) (sym (gating (front_of log) payload size false is)) (gated-ends image)))
  stop-ends size (suc (suc (suc (suc (suc n))))) image is first last = absurd (omega (last, arith))
