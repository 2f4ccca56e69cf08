-- A header and a piece at the front of a buffer.
use Rattle.std.proofs.Common.{◌≡◌, ℕ, ◌+◌, List, ◌++◌, length, drop, sym, append_assoc, drop-drop, length-append}

pub laid_out : (header piece out : List ℕ) → length header ≡ 17 →
    header ++ (piece ++ drop (length piece) (drop 17 out)) ≡ header ++ piece ++ drop (length (header ++ piece)) out
laid_out header piece out size = let parts = length-append header piece in
    rw parts (rw size (rw (drop-drop (length piece) 17 out) (sym (append_assoc header piece (drop (17 + length piece) out)))))

-- the same of equal ones
pub as_laid_out : (header header' piece piece' out new : List ℕ) → header ≡ header' → piece ≡ piece' →
    new ≡ header ++ piece ++ drop (length (header ++ piece)) out → new ≡ header' ++ piece' ++ drop (length (header' ++ piece')) out
as_laid_out header header' piece piece' out new h p e = cc
