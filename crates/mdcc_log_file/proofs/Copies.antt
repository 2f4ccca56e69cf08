-- How records are copied one after another.
use Rattle.std.proofs.Common.{◌≡◌, ℕ, ◌+◌, ◌-◌, ◌<◌, ◌≤◌, min, Bool, List, [], ◌∷◌, ◌++◌, Option, Result, length, take, drop, replicate, IsTrue, sym, ◌∙◌, ap, refl, subst, arith, append_assoc, length-append}
use Rattle.std.proofs.lemmas.List.{append-nil, drop-drop, drop_at, length-drop, length-replicate, take_at}
use Rattle.std.proofs.lemmas.Grind.{flat_map-append}
use Rattle.std.specs.Int.{w32, from_le_bytes}
use Rattle.std.specs.List.{flat_map}
use Rattle.mdcc_base.specs.declared.faults.Failed.{Failed}
use Rattle.mdcc_disks.specs.Disks.{DiskCall, AddsCall}
use Rattle.mdcc_disks.specs.Disks.DiskCall.{Write}
use Rattle.mdcc_log_file.specs.Log.{frame_body}
use Rattle.mdcc_log_file.specs.Calls.{with_calls, MadeSome}
use Rattle.mdcc_log_file.specs.Area.{records_bytes}
use Rattle.mdcc_log_file.specs.Copying.{IsRecordAt, IsSource, spaced, record_calls}
use Rattle.mdcc_log_file.proofs.Calls.{added_twice, added_none, made_both, made_first}
use Rattle.mdcc_log_file.proofs.ReadCalls.{made_all, made_one}
use Rattle.mdcc_log_file.proofs.Records.{length_of_record, size_more}

-- ---- one record

pub body_size : (p : List ℕ) → length (frame_body p) ≡ 4 + length p
body_size p = omega arith

pub record_within : (from most : ℕ) (p bytes : List ℕ) → IsRecordAt from most p bytes → from + (4 + length p) ≤ length bytes
record_within from most p bytes at =
    let size : length (drop from bytes) ≡ length (frame_body p) + length at.rest = ap (λ (l : List ℕ). length l) at.stands ∙ length-append (frame_body p) at.rest in
    omega (arith, size, body_size p, length-drop from bytes)

pub length_read : (from most : ℕ) (p bytes front : List ℕ) → IsRecordAt from most p bytes → front ≡ take 4 (drop from bytes) → from_le_bytes w32 front ≡ length p
length_read from most p bytes front at is =
    ap (λ (l : List ℕ). from_le_bytes w32 l) (is ∙ ap (λ (l : List ℕ). take 4 l) at.stands) ∙ length_of_record p at.rest at.short

pub record_read : (from most size : ℕ) (p bytes into : List ℕ) → IsRecordAt from most p bytes → size ≡ 4 + length p → into ≡ take size (drop from bytes) → into ≡ frame_body p
record_read from most size p bytes into at is filled =
    filled ∙ ap (λ (l : List ℕ). take size l) at.stands ∙ take_at (frame_body p) at.rest size (body_size p ∙ sym is)

-- ---- the next of several

pub record NextRecord (gap from end room count : ℕ) (ps : List (List ℕ)) (bytes : List ℕ) : Type 0 where
  pub payload : List ℕ
  pub others : List (List ℕ)
  pub split : ps ≡ payload ∷ others
  pub stands : IsRecordAt (from + gap) (min (end - (from + gap)) room) payload bytes
  pub next : IsSource gap (from + gap + length (frame_body payload)) end (room - length (frame_body payload)) (count - 1) others bytes

pub next_record_stands : (gap from end room count : ℕ) (ps : List (List ℕ)) (bytes : List ℕ) → 0 < count → IsSource gap from end room count ps bytes → NextRecord gap from end room count ps bytes
next_record_stands gap from end room count [] bytes some source = absurd (omega (arith, source.counted, some))
next_record_stands gap from end room count (p ∷ ps) bytes some source =
    let others = flat_map (spaced gap) ps in
    let behind = others ++ source.rest in
    let ones : length (replicate gap 1) ≡ gap = length-replicate gap 1 in
    let all : drop from bytes ≡ replicate gap 1 ++ (frame_body p ++ behind) =
    source.stand ∙ append_assoc (spaced gap p) others source.rest ∙ append_assoc (replicate gap 1) (frame_body p) behind in
    let here : drop (from + gap) bytes ≡ frame_body p ++ behind =
    sym (drop-drop gap from bytes) ∙ ap (λ (l : List ℕ). drop gap l) all ∙ drop_at (replicate gap 1) (frame_body p ++ behind) gap ones in
    let there : drop (from + gap + length (frame_body p)) bytes ≡ behind =
    sym (drop-drop (length (frame_body p)) (from + gap) bytes) ∙ ap (λ (l : List ℕ). drop (length (frame_body p)) l) here ∙ drop_at (frame_body p) behind (length (frame_body p)) refl in
    let spaces : length (spaced gap p) ≡ gap + length (frame_body p) = length-append (replicate gap 1) (frame_body p) ∙ ap (λ (n : ℕ). n + length (frame_body p)) ones in
    let sizes : length (flat_map (spaced gap) (p ∷ ps)) ≡ gap + length (frame_body p) + length others = length-append (spaced gap p) others ∙ ap (λ (n : ℕ). n + length others) spaces in
    let bodies : length (records_bytes (p ∷ ps)) ≡ length (frame_body p) + length (records_bytes ps) = length-append (frame_body p) (records_bytes ps) in
    let at_end : from + (gap + length (frame_body p) + length others) ≤ end = subst (λ (n : ℕ). from + n ≤ end) sizes source.ends in
    let in_room : length (frame_body p) + length (records_bytes ps) ≤ room = subst (λ (n : ℕ). n ≤ room) bodies source.fits in
    record {
      payload = p;
      others = ps;
      split = refl;
      stands = record { rest = behind; stands = here; short = source.short.0; fits = fits_in (length (frame_body p)) (length others) (length (records_bytes ps)) at_end in_room };
      next = record {
        rest = source.rest;
        stand = there;
        counted = omega (arith, source.counted);
        short = source.short.1;
        ends = ends_in (length (frame_body p)) (length others) at_end;
        fits = omega (arith, in_room);
      };
    }
  where
    fits_in : (n m k : ℕ) → from + (gap + n + m) ≤ end → n + k ≤ room → n ≤ min (end - (from + gap)) room
    fits_in n m k at_end in_room = omega arith

    ends_in : (n m : ℕ) → from + (gap + n + m) ≤ end → from + gap + n + m ≤ end
    ends_in n m at_end = omega arith

-- ---- those that were copied

pub record Copied (gap from end room count to here turn : ℕ) (ps : List (List ℕ)) (source old new : List ℕ) (there : Bool) (old_calls new_calls : Option (List DiskCall)) : Type 0 where
  pub done : List (List ℕ)
  pub left : List (List ℕ)
  pub split : ps ≡ done ++ left
  pub counted : turn ≡ length done
  pub rest : IsSource gap from end (room - (here - to)) (count - turn) left source
  pub here_is : here ≡ to + length (records_bytes done)
  pub bytes : IsTrue there → new ≡ old ++ records_bytes done
  pub calls : new_calls ≡ with_calls (record_calls to done) old_calls

pub none_copied : (gap from end room count to : ℕ) (ps : List (List ℕ)) (source old : List ℕ) (there : Bool) (calls : Option (List DiskCall)) → IsSource gap from end room count ps source → Copied gap from end room count to to 0 ps source old old there calls calls
none_copied gap from end room count to ps source old there calls is = record {
  done = [];
  left = ps;
  split = refl;
  counted = refl;
  rest = record { rest = is.rest; stand = is.stand; counted = omega (arith, is.counted); short = is.short; ends = is.ends; fits = omega (arith, is.fits) };
  here_is = omega arith;
  bytes = λ told. sym (append-nil old);
  calls = added_none calls;
}

calls_more : (to : ℕ) (done : List (List ℕ)) (p : List ℕ) → record_calls to (done ++ p ∷ []) ≡ record_calls to done ++ Write (to + length (records_bytes done)) (frame_body p) ∷ []
calls_more to [] p = let at : to ≡ to + 0 = omega arith in ap (λ (n : ℕ). Write n (frame_body p) ∷ []) at
calls_more to (q ∷ done) p =
    let at : to + length (frame_body q) + length (records_bytes done) ≡ to + length (frame_body q ++ records_bytes done) = omega (arith, length-append q (records_bytes done)) in
    ap (λ (l : List DiskCall). Write to (frame_body q) ∷ l) (calls_more (to + length (frame_body q)) done p ∙ ap (λ (n : ℕ). record_calls (to + length (frame_body q)) done ++ Write n (frame_body p) ∷ []) at)

bytes_more : (done : List (List ℕ)) (p old : List ℕ) → (old ++ records_bytes done) ++ frame_body p ≡ old ++ records_bytes (done ++ p ∷ [])
bytes_more done p old =
    append_assoc old (records_bytes done) (frame_body p)
    ∙ ap (λ (l : List ℕ). old ++ l) (ap (λ (l : List ℕ). records_bytes done ++ l) (sym (append-nil (frame_body p))) ∙ sym (flat_map-append frame_body done (p ∷ [])))

-- one more
pub one_copied : (gap from end room count to here turn size : ℕ) (ps : List (List ℕ)) (source old mid new written : List ℕ) (there : Bool) (old_calls mid_calls new_calls : Option (List DiskCall)) (so_far : Copied gap from end room count to here turn ps source old mid there old_calls mid_calls)
    → (next : NextRecord gap from end (room - (here - to)) (count - turn) so_far.left source) → to ≤ here → turn < count → written ≡ frame_body next.payload → size ≡ length written → (IsTrue there → new ≡ mid ++ written) → new_calls ≡ with_calls (Write here written ∷ []) mid_calls
    → Copied gap (from + gap + size) end room count to (here + size) (turn + 1) ps source old new there old_calls new_calls
one_copied gap from end room count to here turn size ps source old mid new written there old_calls mid_calls new_calls so_far next le below is sized grown call =
    let p = next.payload in
    let done = so_far.done in
    let size_is : size ≡ length (frame_body p) = sized ∙ ap (λ (l : List ℕ). length l) is in
    record {
      done = done ++ p ∷ [];
      left = next.others;
      split = so_far.split ∙ ap (λ (l : List (List ℕ)). done ++ l) next.split ∙ sym (append_assoc done (p ∷ []) next.others);
      counted = omega (arith, so_far.counted, length-append done (p ∷ []));
      rest = record {
        rest = next.next.rest;
        stand = ap (λ (n : ℕ). drop (from + gap + n) source) size_is ∙ next.next.stand;
        counted = omega (arith, next.next.counted);
        short = next.next.short;
        ends = subst (λ (n : ℕ). from + gap + n + length (flat_map (spaced gap) next.others) ≤ end) (sym size_is) next.next.ends;
        fits = fits_in (length (records_bytes next.others)) (length (frame_body p)) size_is next.next.fits;
      };
      here_is = here_more (length (records_bytes done)) (length (records_bytes (done ++ p ∷ []))) so_far.here_is (size_more done (done ++ p ∷ []) p refl) (size_is ∙ body_size p);
      bytes = λ told. grown told ∙ ap (λ (l : List ℕ). l ++ written) (so_far.bytes told) ∙ ap (λ (l : List ℕ). (old ++ records_bytes done) ++ l) is ∙ bytes_more done p old;
      calls =
          call
          ∙ ap (λ (l : List ℕ). with_calls (Write here l ∷ []) mid_calls) is
          ∙ ap (λ (n : ℕ). with_calls (Write n (frame_body p) ∷ []) mid_calls) so_far.here_is
          ∙ ap (λ (o : Option (List DiskCall)). with_calls (Write (to + length (records_bytes done)) (frame_body p) ∷ []) o) so_far.calls
          ∙ added_twice (record_calls to done) (Write (to + length (records_bytes done)) (frame_body p) ∷ []) old_calls
          ∙ ap (λ (l : List DiskCall). with_calls l old_calls) (sym (calls_more to done p));
    }
  where
    fits_in : (k n : ℕ) → size ≡ n → k ≤ room - (here - to) - n → k ≤ room - (here + size - to)
    fits_in k n is' fits = omega arith

    here_more : (n m : ℕ) → here ≡ to + n → m ≡ n + (4 + length next.payload) → size ≡ 4 + length next.payload → here + size ≡ to + m
    here_more n m a b c = omega arith

-- ---- what is told of those that were copied

pub calls_split : (to : ℕ) (done left : List (List ℕ)) → record_calls to (done ++ left) ≡ record_calls to done ++ record_calls (to + length (records_bytes done)) left
calls_split to [] left = let at : to ≡ to + 0 = omega arith in ap (λ (n : ℕ). record_calls n left) at
calls_split to (q ∷ done) left =
    let at : to + length (frame_body q) + length (records_bytes done) ≡ to + length (frame_body q ++ records_bytes done) = omega (arith, length-append (frame_body q) (records_bytes done)) in
    ap (λ (l : List DiskCall). Write to (frame_body q) ∷ l) (calls_split (to + length (frame_body q)) done left ∙ ap (λ (n : ℕ). record_calls (to + length (frame_body q)) done ++ record_calls n left) at)

module _ {gap from end room count to here turn : ℕ} {ps : List (List ℕ)} {source old mid : List ℕ} {there : Bool} {old_calls mid_calls : Option (List DiskCall)} (so_far : Copied gap from end room count to here turn ps source old mid there old_calls mid_calls) where
  all_calls : record_calls to ps ≡ record_calls to so_far.done ++ record_calls here so_far.left
  all_calls =
      ap (λ (l : List (List ℕ)). record_calls to l) so_far.split ∙ calls_split to so_far.done so_far.left
      ∙ ap (λ (n : ℕ). record_calls to so_far.done ++ record_calls n so_far.left) (sym so_far.here_is)

  -- a front of the calls
  pub some_told : MadeSome (record_calls to ps) old_calls mid_calls
  some_told =
      subst (λ (l : List DiskCall). MadeSome l old_calls mid_calls) (sym all_calls)
      (made_first (record_calls to so_far.done) (record_calls here so_far.left) old_calls mid_calls (made_all (record_calls to so_far.done) old_calls mid_calls so_far.calls))

  -- one that may have failed
  pub one_told : {T : Type 0} (written : List ℕ) (new_calls : Option (List DiskCall)) (result : Result T Failed) (next : NextRecord gap from end (room - (here - to)) (count - turn) so_far.left source) → written ≡ frame_body next.payload → AddsCall (Write here written) mid_calls new_calls result → MadeSome (record_calls to ps) old_calls new_calls
  one_told written new_calls result next is adds =
      let rest = record_calls (here + length (frame_body next.payload)) next.others in
      let left_is : record_calls here so_far.left ≡ Write here written ∷ rest = ap (λ (l : List (List ℕ)). record_calls here l) next.split ∙ ap (λ (l : List ℕ). Write here l ∷ rest) (sym is) in
      subst (λ (l : List DiskCall). MadeSome l old_calls new_calls) (sym (all_calls ∙ ap (λ (l : List DiskCall). record_calls to so_far.done ++ l) left_is))
      (made_both (record_calls to so_far.done) (Write here written ∷ rest) old_calls mid_calls new_calls so_far.calls (made_first (Write here written ∷ []) rest mid_calls new_calls (made_one (Write here written) mid_calls new_calls result adds)))

  -- all of them
  pub all_done : turn ≡ count → ps ≡ so_far.done
  all_done ended = so_far.split ∙ ap (λ (l : List (List ℕ)). so_far.done ++ l) (none so_far.left (omega (arith, so_far.rest.counted, ended))) ∙ append-nil so_far.done
    where
      none : (l : List (List ℕ)) → length l ≡ 0 → l ≡ []
      none [] is = refl
      none (x ∷ xs) is = absurd (omega arith)

-- the next record, as it stands after the reads so far
pub next_at : (gap from end room count most sat to here limit : ℕ) (ps : List (List ℕ)) (bytes now : List ℕ) (next : NextRecord gap from end room count ps bytes) → now ≡ bytes → room ≡ limit - to - (here - to) → most ≡ min sat (limit - here) → sat ≡ end - (from + gap) → to ≤ here → here ≤ limit
    → IsRecordAt (from + gap) most next.payload now
next_at gap from end room count most sat to here limit ps bytes now next same is most_is sat_is low high = record {
  rest = next.stands.rest;
  stands = ap (λ (l : List ℕ). drop (from + gap) l) same ∙ next.stands.stands;
  short = next.stands.short;
  fits = within (length (frame_body next.payload)) (end - (from + gap)) sat_is next.stands.fits;
}
  where
    within : (n m : ℕ) → sat ≡ m → n ≤ min m room → n ≤ most
    within n m is' le = omega arith

pub from_within : (at end size most sat left : ℕ) → most ≡ min sat left → sat ≡ end - at → 4 ≤ size → size ≤ most → at + size ≤ end
from_within at end size most sat left is sat_is some le = omega arith

pub end_within : (here limit size most sat : ℕ) → most ≡ min sat (limit - here) → here ≤ limit → size ≤ most → here + size ≤ limit
end_within here limit size most sat is high le = omega arith
