-- Pieces of bytes, where more bytes are added behind.
use Rattle.std.proofs.Common.{◌≡◌, inl, inr, ℕ, ◌≤◌, Bool, List, [], ◌∷◌, ◌++◌, length, map, take, drop, find, Some, if◌then◌else◌, sym, ◌∙◌, ap, refl, subst, arith, length-append, length-drop}
use Rattle.std.proofs.lemmas.Grind.{common_steps}
use Rattle.std.proofs.lemmas.Bool.{cases_Bool}
use Rattle.std.proofs.lemmas.List.{take-append-le, drop-append-le, drop_all, take_all, map-append}
use Rattle.mdcc_link.specs.Memory.{without_first}
use Rattle.mdcc_link.specs.declared.stored.Piece.{Piece}
use Rattle.mdcc_link.specs.Stored.{bytes_of, IsPieceWithin, ArePiecesWithin}

pub bytes_stay : (piece : Piece) (pool more : List ℕ) → IsPieceWithin (length pool) piece → bytes_of piece (pool ++ more) ≡ bytes_of piece pool
bytes_stay piece pool more within =
    ap (λ (l : List ℕ). take piece.count l) (drop-append-le piece.start pool more (omega (arith, within)))
    ∙ take-append-le piece.count (drop piece.start pool) more (omega (arith, within, length-drop piece.start pool))

-- what is made of each piece is as before
pub made_stays : {E A : Type 0} (piece : E → Piece) (make : E → List ℕ → A) (es : List E) (pool more : List ℕ) → ArePiecesWithin piece (length pool) es
    → map (λ e. make e (bytes_of (piece e) (pool ++ more))) es ≡ map (λ e. make e (bytes_of (piece e) pool)) es
made_stays piece make [] pool more within = refl
made_stays {E} {A} piece make (e ∷ es) pool more within =
    ap (λ (l : List A). make e (bytes_of (piece e) (pool ++ more)) ∷ l) (made_stays piece make es pool more within.1)
    ∙ ap (λ (b : List ℕ). make e b ∷ map (λ f. make f (bytes_of (piece f) pool)) es) (bytes_stay (piece e) pool more within.0)

pub within_more : {E : Type 0} (piece : E → Piece) (size larger : ℕ) (es : List E) → size ≤ larger → ArePiecesWithin piece size es → ArePiecesWithin piece larger es
within_more piece size larger [] le within = tt
within_more piece size larger (e ∷ es) le within = (omega (arith, le, within.0), within_more piece size larger es le within.1)

pub within_push : {E : Type 0} (piece : E → Piece) (size : ℕ) (es : List E) (e : E) → ArePiecesWithin piece size es → IsPieceWithin size (piece e) → ArePiecesWithin piece size (es ++ e ∷ [])
within_push piece size [] e within last = (last, tt)
within_push piece size (first ∷ es) e within last = (within.0, within_push piece size es e within.1 last)

pub new_bytes : (piece : Piece) (pool grown bytes : List ℕ) → piece ≡ record { start = length pool; count = length bytes } → grown ≡ pool ++ bytes → bytes_of piece grown ≡ bytes
new_bytes piece pool grown bytes at is =
    ap (λ (p : Piece). bytes_of p grown) at
    ∙ ap (λ (l : List ℕ). take (length bytes) (drop (length pool) l)) is
    ∙ ap (λ (l : List ℕ). take (length bytes) l) (drop-append-le (length pool) pool bytes (omega arith) ∙ ap (λ (l : List ℕ). l ++ bytes) (drop_all (length pool) pool (omega arith)))
    ∙ take_all (length bytes) bytes (omega arith)

pub new_within : (piece : Piece) (pool grown bytes : List ℕ) → piece ≡ record { start = length pool; count = length bytes } → grown ≡ pool ++ bytes → IsPieceWithin (length grown) piece
new_within piece pool grown bytes at is =
    omega (arith, ap (λ (p : Piece). p.start) at, ap (λ (p : Piece). p.count) at, ap (λ (l : List ℕ). length l) is, length-append pool bytes)

pub grown_within : {E : Type 0} (piece : E → Piece) (pool grown more : List ℕ) (es : List E) → grown ≡ pool ++ more → ArePiecesWithin piece (length pool) es → ArePiecesWithin piece (length grown) es
grown_within piece pool grown more es is within =
    within_more piece (length pool) (length grown) es (omega (arith, ap (λ (l : List ℕ). length l) is, length-append pool more)) within

pub made_grown : {E A : Type 0} (piece : E → Piece) (make : E → List ℕ → A) (es : List E) (pool grown more : List ℕ) → ArePiecesWithin piece (length pool) es → grown ≡ pool ++ more
    → map (λ f. make f (bytes_of (piece f) grown)) es ≡ map (λ f. make f (bytes_of (piece f) pool)) es
made_grown piece make es pool grown more within grows =
    ap (λ (l : List ℕ). map (λ f. make f (bytes_of (piece f) l)) es) grows ∙ made_stays piece make es pool more within

-- one more, where more bytes are added behind
pub made_push : {E A : Type 0} (piece : E → Piece) (make : E → List ℕ → A) (es pushed : List E) (e : E) (pool grown more : List ℕ) (a : A) → ArePiecesWithin piece (length pool) es
    → grown ≡ pool ++ more → pushed ≡ es ++ e ∷ [] → make e (bytes_of (piece e) grown) ≡ a
    → map (λ f. make f (bytes_of (piece f) grown)) pushed ≡ map (λ f. make f (bytes_of (piece f) pool)) es ++ a ∷ []
made_push {E} {A} piece make es pushed e pool grown more a within grows is made =
    ap (λ (l : List E). map (λ f. make f (bytes_of (piece f) grown)) l) is
    ∙ map-append (λ f. make f (bytes_of (piece f) grown)) es (e ∷ [])
    ∙ ap (λ (l : List A). l ++ make e (bytes_of (piece e) grown) ∷ []) (made_grown piece make es pool grown more within grows)
    ∙ ap (λ (b : A). map (λ f. make f (bytes_of (piece f) pool)) es ++ b ∷ []) made

-- and where none are
pub made_last : {E A : Type 0} (piece : E → Piece) (make : E → List ℕ → A) (es pushed : List E) (e : E) (pool : List ℕ) (a : A) → pushed ≡ es ++ e ∷ [] → make e (bytes_of (piece e) pool) ≡ a
    → map (λ f. make f (bytes_of (piece f) pool)) pushed ≡ map (λ f. make f (bytes_of (piece f) pool)) es ++ a ∷ []
made_last {E} {A} piece make es pushed e pool a is made =
    ap (λ (l : List E). map (λ f. make f (bytes_of (piece f) pool)) l) is
    ∙ map-append (λ f. make f (bytes_of (piece f) pool)) es (e ∷ [])
    ∙ ap (λ (b : A). map (λ f. make f (bytes_of (piece f) pool)) es ++ b ∷ []) made

pub within_found : {E : Type 0} (piece : E → Piece) (size : ℕ) (test : E → Bool) (es : List E) (e : E) → ArePiecesWithin piece size es → find test es ≡ Some e → IsPieceWithin size (piece e)
within_found piece size test [] e within found = absurd (cc)
within_found piece size test (first ∷ es) e within found = elim (cases_Bool (test first)) [
  | inl passes ↦
      let same : first ≡ e = grind (arith, common_steps, passes, found) in
      omega (arith, within.0, ap (λ f. (piece f).start) same, ap (λ f. (piece f).count) same)
  | inr fails ↦
      let rest : find test es ≡ Some e = grind (arith, common_steps, fails, found) in
      within_found piece size test es e within.1 rest
]

pub within_without : {E : Type 0} (piece : E → Piece) (size : ℕ) (test : E → Bool) (es : List E) → ArePiecesWithin piece size es → ArePiecesWithin piece size (without_first test es)
within_without piece size test [] within = tt
within_without {E} piece size test (first ∷ es) within = elim (cases_Bool (test first)) [
  | inl passes ↦ subst (λ (l : List E). ArePiecesWithin piece size l) (ap (λ (b : Bool). if b then es else first ∷ without_first test es) (sym passes)) within.1
  | inr fails ↦ subst (λ (l : List E). ArePiecesWithin piece size l) (ap (λ (b : Bool). if b then es else first ∷ without_first test es) (sym fails)) (within.0, within_without piece size test es within.1)
]

pub pushed_within : {E : Type 0} (piece : E → Piece) (size : ℕ) (es pushed : List E) (e : E) → pushed ≡ es ++ e ∷ [] → ArePiecesWithin piece size es → IsPieceWithin size (piece e) → ArePiecesWithin piece size pushed
pushed_within {E} piece size es pushed e is within last = subst (λ (l : List E). ArePiecesWithin piece size l) (sym is) (within_push piece size es e within last)
