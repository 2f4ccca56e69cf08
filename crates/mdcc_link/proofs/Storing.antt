-- The contents of a store, part by part.
use Rattle.std.proofs.Common.{◌≡◌, ℕ, ◌≤◌, min, false, List, [], ◌∷◌, ◌++◌, length, map, take, drop, Option, Some, Ok, sym, ◌∙◌, ap, arith}
use Rattle.std.proofs.lemmas.List.{take-take, length-take, length-take-le}
use Rattle.mdcc_link.specs.declared.link.Received.TheVariants.{Got}
use Rattle.mdcc_link.specs.declared.stored.Bound.{Bound}
use Rattle.mdcc_link.specs.declared.stored.Piece.{Piece}
use Rattle.mdcc_link.specs.declared.stored.Note.{Note}
use Rattle.mdcc_link.specs.declared.stored.Dispatch.{Dispatch}
use Rattle.mdcc_link.specs.Link.{LinkCall}
use Rattle.mdcc_link.specs.Memory.{SentDatagram, Waiting, Brings, found_of, part_received}
use Rattle.mdcc_link.specs.Stored.{link_store_of, bytes_of, link_call_of, note_in, sent_in, ArePiecesWithin}
use Rattle.mdcc_link.proofs.Pieces.{made_push, made_grown, made_last}

pub store_is : (c d : List LinkCall) (b e : List Bound) (s t : List SentDatagram) (w x : List Waiting) (m n : ℕ) → c ≡ d → b ≡ e → s ≡ t → w ≡ x → link_store_of c b s w m n ≡ link_store_of d e t x m n
store_is c d b e s t w x m n cd be st wx =
    ap (λ (l : List LinkCall). link_store_of l b s w m n) cd
    ∙ ap (λ (l : List Bound). link_store_of d l s w m n) be
    ∙ ap (λ (l : List SentDatagram). link_store_of d e l w m n) st
    ∙ ap (λ (l : List Waiting). link_store_of d e t l m n) wx

-- one more call, with more bytes
pub calls_push : (notes noted : List Note) (note : Note) (pool grown more : List ℕ) (calls : List LinkCall) (call : LinkCall) → ArePiecesWithin (λ (n : Note). n.piece) (length pool) notes
    → map (note_in pool) notes ≡ calls → grown ≡ pool ++ more → noted ≡ notes ++ note ∷ [] → note_in grown note ≡ call → map (note_in grown) noted ≡ calls ++ call ∷ []
calls_push notes noted note pool grown more calls call within shown grows is made =
    made_push (λ (n : Note). n.piece) (λ n b. link_call_of n.call b) notes noted note pool grown more call within grows is made ∙ ap (λ (l : List LinkCall). l ++ call ∷ []) shown

-- and one with none
pub calls_last : (notes noted : List Note) (note : Note) (pool : List ℕ) (calls : List LinkCall) (call : LinkCall) → map (note_in pool) notes ≡ calls → noted ≡ notes ++ note ∷ []
    → note_in pool note ≡ call → map (note_in pool) noted ≡ calls ++ call ∷ []
calls_last notes noted note pool calls call shown is made =
    made_last (λ (n : Note). n.piece) (λ n b. link_call_of n.call b) notes noted note pool call is made ∙ ap (λ (l : List LinkCall). l ++ call ∷ []) shown

pub calls_stay : (notes : List Note) (pool grown more : List ℕ) (calls : List LinkCall) → ArePiecesWithin (λ (n : Note). n.piece) (length pool) notes → map (note_in pool) notes ≡ calls → grown ≡ pool ++ more
    → map (note_in grown) notes ≡ calls
calls_stay notes pool grown more calls within shown grows = made_grown (λ (n : Note). n.piece) (λ n b. link_call_of n.call b) notes pool grown more within grows ∙ shown

pub sent_push : (sends pushed : List Dispatch) (last : Dispatch) (pool grown more : List ℕ) (sent : List SentDatagram) (datagram : SentDatagram) → ArePiecesWithin (λ (s : Dispatch). s.piece) (length pool) sends
    → map (sent_in pool) sends ≡ sent → grown ≡ pool ++ more → pushed ≡ sends ++ last ∷ [] → sent_in grown last ≡ datagram → map (sent_in grown) pushed ≡ sent ++ datagram ∷ []
sent_push sends pushed last pool grown more sent datagram within shown grows is made =
    made_push (λ (s : Dispatch). s.piece) (λ s b. record { from = s.from; to = s.to; bytes = b }) sends pushed last pool grown more datagram within grows is made
    ∙ ap (λ (l : List SentDatagram). l ++ datagram ∷ []) shown

pub sent_stay : (sends : List Dispatch) (pool grown more : List ℕ) (sent : List SentDatagram) → ArePiecesWithin (λ (s : Dispatch). s.piece) (length pool) sends → map (sent_in pool) sends ≡ sent → grown ≡ pool ++ more
    → map (sent_in grown) sends ≡ sent
sent_stay sends pool grown more sent within shown grows =
    made_grown (λ (s : Dispatch). s.piece) (λ s b. record { from = s.from; to = s.to; bytes = b }) sends pool grown more within grows ∙ shown

-- ---- a receive that finds a datagram

pub found_some : (size count : ℕ) (first : Option (List ℕ)) (bytes : List ℕ) → first ≡ Some bytes → count ≡ min size (length bytes) → Ok (Got count) ≡ found_of false size first
found_some size count first bytes is counts = ap (λ (n : ℕ). Ok (Got n)) counts ∙ ap (λ (o : Option (List ℕ)). found_of false size o) (sym is)

pub part_some : (size count : ℕ) (first : Option (List ℕ)) (bytes : List ℕ) → first ≡ Some bytes → count ≡ min size (length bytes) → take count bytes ≡ part_received false size first
part_some size count first bytes is counts = ap (λ (n : ℕ). take n bytes) counts ∙ ap (λ (o : Option (List ℕ)). part_received false size o) (sym is)

pub brings_some : (size count : ℕ) (first : Option (List ℕ)) (bytes old new : List ℕ) → first ≡ Some bytes → count ≡ min size (length bytes) → new ≡ take count bytes ++ drop count old
    → Brings (part_received false size first) old new
brings_some size count first bytes old new is counts buffer =
    let long : length (take count bytes) ≡ count = length-take-le count bytes (omega (arith, counts)) in
    buffer
    ∙ ap (λ (n : ℕ). take count bytes ++ drop n old) (sym long)
    ∙ ap (λ (l : List ℕ). l ++ drop (length l) old) (part_some size count first bytes is counts)

-- the first bytes of a piece
pub piece_part : (piece : Piece) (pool : List ℕ) (count : ℕ) → count ≤ length (bytes_of piece pool) → bytes_of (record { start = piece.start; count = count }) pool ≡ take count (bytes_of piece pool)
piece_part piece pool count le = sym (take-take count piece.count (drop piece.start pool) (omega (arith, le, length-take piece.count (drop piece.start pool))))
