-- What the two steps of an append leave.
use Rattle.std.proofs.Common.{◌≡◌, inl, inr, ℕ, ◌+◌, ◌-◌, ◌<◌, List, [], ◌∷◌, ◌++◌, length, get_or, take, drop, sym, ◌∙◌, ap, subst, arith, append_assoc, length-append}
use Rattle.std.proofs.lemmas.List.{take_at, drop_at}
use Rattle.mdcc_disks.specs.Disks.{IsOverwritten, IsTorn, Only}
use Rattle.mdcc_log_file.proofs.Bytes.{one_torn, one_written, end_torn, end_written}
use Rattle.mdcc_log_file.specs.Append.{IsAtEnd, MayStandBehind}

-- a closed gate behind the front
abbrev shut_end : List ℕ → List ℕ
shut_end front = front ++ 0 ∷ []

-- with the bytes behind the closed gate
abbrev pub staged : List ℕ → List ℕ → List ℕ
staged front inner = front ++ 0 ∷ (inner ++ 0 ∷ [])

-- the closed gate stands in each outcome of the first step
pub stage_leaves : {tears : ℕ → Type 0} (front inner : List ℕ) (size : ℕ) (written bytes : List ℕ) (may_leave : List ℕ → Type 0) (c : List ℕ) → IsAtEnd front size bytes may_leave → IsTorn tears size written bytes c → MayStandBehind front inner c
stage_leaves {tears} front inner size written bytes may_leave c rest torn =
    let here : size ≡ length (shut_end front) = rest.counted ∙ ap (λ (l : List ℕ). length l) rest.file in
    let there : IsTorn tears size written (shut_end front) c = subst (λ (l : List ℕ). IsTorn tears size written l c) rest.file torn in
    let end : IsTorn tears (length (shut_end front)) written (shut_end front) c = subst (λ (k : ℕ). IsTorn tears k written (shut_end front) c) here there in
    inl (drop (length (shut_end front)) c, end_torn (shut_end front) c written end ∙ append_assoc front (0 ∷ []) (drop (length (shut_end front)) c))

pub stage_makes : (front inner : List ℕ) (size : ℕ) (bytes : List ℕ) (may_leave : List ℕ → Type 0) (mid : List ℕ) → IsAtEnd front size bytes may_leave → IsOverwritten bytes size (inner ++ 0 ∷ []) mid → mid ≡ staged front inner
stage_makes front inner size bytes may_leave mid rest holds =
    let here : size ≡ length (shut_end front) = rest.counted ∙ ap (λ (l : List ℕ). length l) rest.file in
    let there : IsOverwritten (shut_end front) size (inner ++ 0 ∷ []) mid = subst (λ (l : List ℕ). IsOverwritten l size (inner ++ 0 ∷ []) mid) rest.file holds in
    end_written (shut_end front) (inner ++ 0 ∷ []) mid (subst (λ (k : ℕ). IsOverwritten (shut_end front) k (inner ++ 0 ∷ []) mid) here there)
    ∙ append_assoc front (0 ∷ []) (inner ++ 0 ∷ [])

-- where the gate stands
gate_is : (front : List ℕ) (size : ℕ) → size ≡ length (shut_end front) → length front ≡ size - 1
gate_is front size is = omega (arith, is, length-append front (0 ∷ []))

front_is : (front inner : List ℕ) (size : ℕ) → size ≡ length (shut_end front) → take (size - 1) (staged front inner) ≡ front
front_is front inner size is = take_at front (0 ∷ (inner ++ 0 ∷ [])) (size - 1) (gate_is front size is)

back_is : (front inner : List ℕ) (size : ℕ) → size ≡ length (shut_end front) → drop (size - 1 + 1) (staged front inner) ≡ inner ++ 0 ∷ []
back_is front inner size is =
    ap (λ (l : List ℕ). drop (size - 1 + 1) l) (sym (append_assoc front (0 ∷ []) (inner ++ 0 ∷ [])))
    ∙ drop_at (shut_end front) (inner ++ 0 ∷ []) (size - 1 + 1) (omega (arith, is, gate_is front size is, length-append front (0 ∷ [])))

gate_within : (front inner : List ℕ) (size : ℕ) → size ≡ length (shut_end front) → size - 1 < length (staged front inner)
gate_within front inner size is = omega (arith, gate_is front size is, length-append front (0 ∷ (inner ++ 0 ∷ [])))

-- the bytes stand whole in each outcome of the second
pub gate_leaves : {tears : ℕ → Type 0} (front inner : List ℕ) (size : ℕ) (bytes mid : List ℕ) (may_leave : List ℕ → Type 0) (c : List ℕ) → IsAtEnd front size bytes may_leave → mid ≡ staged front inner → IsTorn tears (size - 1) (1 ∷ []) mid c → MayStandBehind front inner c
gate_leaves {tears} front inner size bytes mid may_leave c rest is torn =
    let here : size ≡ length (shut_end front) = rest.counted ∙ ap (λ (l : List ℕ). length l) rest.file in
    let there : IsTorn tears (size - 1) (1 ∷ []) (staged front inner) c = subst (λ (l : List ℕ). IsTorn tears (size - 1) (1 ∷ []) l c) is torn in
    inr (
      get_or c (size - 1) 0,
      one_torn 1 (staged front inner) c (size - 1) (gate_within front inner size here) there
          ∙ ap (λ (l : List ℕ). l ++ get_or c (size - 1) 0 ∷ drop (size - 1 + 1) (staged front inner)) (front_is front inner size here)
          ∙ ap (λ (l : List ℕ). front ++ get_or c (size - 1) 0 ∷ l) (back_is front inner size here),
    )

gate_written : (front inner : List ℕ) (size : ℕ) (new : List ℕ) → size ≡ length (shut_end front) → IsOverwritten (staged front inner) (size - 1) (1 ∷ []) new → new ≡ (front ++ 1 ∷ inner) ++ 0 ∷ []
gate_written front inner size new is holds =
    one_written (staged front inner) new (size - 1) 1 holds
    ∙ ap (λ (l : List ℕ). l ++ 1 ∷ drop (size - 1 + 1) (staged front inner)) (front_is front inner size is)
    ∙ ap (λ (l : List ℕ). front ++ 1 ∷ l) (back_is front inner size is)
    ∙ sym (append_assoc front (1 ∷ inner) (0 ∷ []))

-- and then the front has them behind an open gate
pub gate_makes : (front inner written : List ℕ) (size : ℕ) (bytes mid new : List ℕ) (may_leave may_leave_new : List ℕ → Type 0) → written ≡ inner ++ 0 ∷ [] → IsAtEnd front size bytes may_leave → mid ≡ staged front inner → IsOverwritten mid (size - 1) (1 ∷ []) new → Only new may_leave_new → IsAtEnd (front ++ 1 ∷ inner) (size + length written) new may_leave_new
gate_makes front inner written size bytes mid new may_leave may_leave_new ends rest is holds only =
    let here : size ≡ length (shut_end front) = rest.counted ∙ ap (λ (l : List ℕ). length l) rest.file in
    let file : new ≡ (front ++ 1 ∷ inner) ++ 0 ∷ [] = gate_written front inner size new here (subst (λ (l : List ℕ). IsOverwritten l (size - 1) (1 ∷ []) new) is holds) in
    record {
      file = file;
      counted = omega (arith, here, ap (λ (l : List ℕ). length l) file, ap (λ (l : List ℕ). length l) ends, length-append inner (0 ∷ []), length-append (front ++ 1 ∷ inner) (0 ∷ []), length-append front (1 ∷ inner), length-append front (0 ∷ []));
      durable = only;
    }
