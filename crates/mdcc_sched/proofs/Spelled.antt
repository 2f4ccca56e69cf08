-- What is read is spelled so.
use Rattle.std.proofs.Common.{◌≡◌, ℕ, suc, ◌+◌, ◌^◌, ◌<◌, ◌==◌, Bool, true, false, not, cond, nat_le, List, [], ◌∷◌, ◌++◌, length, take, drop, map, Option, Some, None, Result, Ok, Err, refl, sym, ap, ◌∙◌, arith, codes, append-nil, decimal, lit<, drop-drop, length-take-le}
use Rattle.std.specs.Cmp.Lexicographic.{same_text}
use Rattle.std.specs.List.{join_with_byte, position_or_len}
use Rattle.std.proofs.lemmas.Bool.{eqb-true, eqb-false}
use Rattle.std.proofs.lemmas.List.Splits.{join_with_byte-slice_split, length-slice_split}
use Rattle.mdcc_base.specs.AreQuorums.{AreQuorums}
use Rattle.mdcc_base.specs.declared.outside.Image.{Image}
use Rattle.mdcc_base.specs.declared.outside.Image.TheVariants.{Lost, Kept, Torn}
use Rattle.mdcc_option.specs.declared.cluster.Cluster.{Cluster}
use Rattle.mdcc_def_language.specs.declared.events.Event.{Event}
use Rattle.mdcc_def_language.specs.declared.events.Event.TheVariants.{Read, Begin, Deliver, Settle, Tick, Crash, Restart, Stop}
use Rattle.mdcc_def_language.specs.declared.events.UpdateWord.{UpdateWord}
use Rattle.mdcc_def_language.specs.declared.schedule.SchedFault.{SchedFault}
use Rattle.mdcc_def_language.specs.declared.schedule.SchedCause.TheVariants.{Word, Range}
use Rattle.mdcc_def_language.specs.Lines.{bounded, bytes_of_line, most_line_bytes, of_long, line_end_by, line_end_of}
use Rattle.mdcc_def_language.specs.Report.{image_text}
use Rattle.mdcc_def_language.specs.Schedule.{parse_centre, parse_image, parse_stop, above, numbers_from, updates_from, centres_from, last_centre, parse_tick, parse_crash, parse_restart, parse_read, parse_begin, parse_deliver, parse_settle, begins_with, parse_event, event_or_none, event_in, line_of}
use Rattle.mdcc_def_language.specs.Updates.{update_of}
use Rattle.mdcc_def_language.specs.Words.{◌>>=◌, refused, part_at, parts_from, start_after, end_at, word_at, word_end, not_empty, word_after, count_of, key_of, natural_of, text_eq}
use Rattle.mdcc_sched_words.specs.Spelled.{update_text}
use Rattle.mdcc_sched_words.proofs.Parts.{part_len_is, place_within}
use Rattle.mdcc_sched_words.proofs.Seams.{bind_ok, part_seam, front_seam, behind_ok, end_ok, drop_all}
use Rattle.mdcc_sched_words.proofs.Spelled.{natural_spelled, count_spelled, key_spelled, update_spelled}
use Rattle.mdcc_sched.specs.Spelled.{numbers_text, event_text}

-- ---- words

begun : (name line : List ℕ) → begins_with name line ≡ true → line ≡ name ++ drop (length name) line
begun name line e =
    let same : word_at 0 line ≡ name = same_text (word_at 0 line) name (sym e) in
    front_seam 32 line ∙ ap (λ word. word ++ drop (length word) line) same

spaced : (at : ℕ) (line : List ℕ) (start : ℕ) → word_after at line ≡ Ok start → drop at line ≡ 32 ∷ drop start line
spaced at line start e =
    let place = bind_ok (start_after 32 at line 1) _ start e in
    let some = bind_ok (not_empty (word_at place.0 line) (place.0 + 1)) _ start place.2 in
    let same : place.0 ≡ start = cc (some.2) in
    behind_ok 32 at line 1 place.0 place.1 ∙ ap (λ n. 32 ∷ drop n line) same

centre_spelled : (cluster : Cluster) (word : List ℕ) (column centre : ℕ) → AreQuorums cluster.quorums → parse_centre cluster word column ≡ Ok centre → word ≡ decimal centre
centre_spelled cluster word column centre h e =
    let nine : 9 < 2 ^ 64 = lit< tt in
    let few : cluster.quorums.centres < 2 ^ 64 = omega (arith, h.nine_centres, nine) in
    natural_spelled word column 1 cluster.quorums.centres centre few e

last_spelled : (cluster : Cluster) (at : ℕ) (line : List ℕ) (centre : ℕ) → AreQuorums cluster.quorums → last_centre cluster at line ≡ Ok centre → drop at line ≡ 32 ∷ decimal centre
last_spelled cluster at line centre h e =
    let start = bind_ok (word_after at line) _ centre e in
    let found = bind_ok (parse_centre cluster (word_at start.0 line) (start.0 + 1)) _ centre start.2 in
    let end = bind_ok (end_at (word_end start.0 line) line 1) _ centre found.2 in
    let same : found.0 ≡ centre = cc (end.2) in
    spaced at line start.0 start.1
    ∙ ap (λ rest. 32 ∷ rest) (part_seam 32 start.0 line
    ∙ (λ i. centre_spelled cluster (word_at start.0 line) (start.0 + 1) found.0 h found.1 i ++ end_ok (word_end start.0 line) line 1 end.0 end.1 i)
    ∙ append-nil (decimal found.0)
    ∙ ap decimal same)

-- ---- lists

joined : (at : ℕ) (line : List ℕ) (words : List (List ℕ)) → parts_from 32 at line ≡ words → drop at line ≡ join_with_byte 32 words
joined at line words e = sym (join_with_byte-slice_split 32 (drop at line)) ∙ ap (join_with_byte 32) e

each_number : (column : ℕ) (words : List (List ℕ)) (numbers : List ℕ) → numbers_from column words ≡ Ok numbers → words ≡ map decimal numbers
each_number column [] [] e = refl
each_number column [] (number ∷ numbers) e = absurd (cc)
each_number column (word ∷ words) numbers e =
    let some = bind_ok (not_empty word column) _ numbers e in
    let one = bind_ok (count_of word column) _ numbers some.2 in
    let rest = bind_ok (numbers_from (column + length word + 1) words) _ numbers one.2 in
    let all : one.0 ∷ rest.0 ≡ numbers = cc (rest.2) in
    (λ i. count_spelled word column one.0 one.1 i ∷ each_number (column + length word + 1) words rest.0 rest.1 i) ∙ ap (map decimal) all

each_update : (column : ℕ) (words : List (List ℕ)) (updates : List UpdateWord) → updates_from column words ≡ Ok updates → words ≡ map update_text updates
each_update column [] [] e = refl
each_update column [] (update ∷ updates) e = absurd (cc)
each_update column (word ∷ words) updates e =
    let one = bind_ok (update_of word column) _ updates e in
    let rest = bind_ok (updates_from (column + length word + 1) words) _ updates one.2 in
    let all : one.0 ∷ rest.0 ≡ updates = cc (rest.2) in
    (λ i. update_spelled word column one.0 one.1 i ∷ each_update (column + length word + 1) words rest.0 rest.1 i) ∙ ap (map update_text) all

each_centre : (cluster : Cluster) (last column : ℕ) (words : List (List ℕ)) (centres : List ℕ) → AreQuorums cluster.quorums → centres_from cluster last column words ≡ Ok centres → words ≡ map decimal centres
each_centre cluster last column [] [] h e = refl
each_centre cluster last column [] (centre ∷ centres) h e = absurd (cc)
each_centre cluster last column (word ∷ words) centres h e =
    let some = bind_ok (not_empty word column) _ centres e in
    let one = bind_ok (parse_centre cluster word column) _ centres some.2 in
    let order = bind_ok (above last one.0 column) _ centres one.2 in
    let rest = bind_ok (centres_from cluster one.0 (column + length word + 1) words) _ centres order.2 in
    let all : one.0 ∷ rest.0 ≡ centres = cc (rest.2) in
    (λ i. centre_spelled cluster word column one.0 h one.1 i ∷ each_centre cluster one.0 (column + length word + 1) words rest.0 h rest.1 i) ∙ ap (map decimal) all

-- ---- events

tick_spelled : (cluster : Cluster) (line : List ℕ) (event : Event) → AreQuorums cluster.quorums → begins_with (codes "tick") line ≡ true → parse_tick cluster line ≡ Ok event → line ≡ event_text event
tick_spelled cluster line event h b e =
    let centre = bind_ok (last_centre cluster 4 line) _ event e in
    let same : Tick centre.0 ≡ event = cc (centre.2) in
    begun (codes "tick") line b ∙ ap (λ rest. codes "tick" ++ rest) (last_spelled cluster 4 line centre.0 h centre.1) ∙ ap event_text same

crash_spelled : (cluster : Cluster) (line : List ℕ) (event : Event) → AreQuorums cluster.quorums → begins_with (codes "crash") line ≡ true → parse_crash cluster line ≡ Ok event → line ≡ event_text event
crash_spelled cluster line event h b e =
    let centre = bind_ok (last_centre cluster 5 line) _ event e in
    let same : Crash centre.0 ≡ event = cc (centre.2) in
    begun (codes "crash") line b ∙ ap (λ rest. codes "crash" ++ rest) (last_spelled cluster 5 line centre.0 h centre.1) ∙ ap event_text same

restart_spelled : (cluster : Cluster) (line : List ℕ) (event : Event) → AreQuorums cluster.quorums → begins_with (codes "restart") line ≡ true → parse_restart cluster line ≡ Ok event → line ≡ event_text event
restart_spelled cluster line event h b e =
    let centre = bind_ok (last_centre cluster 7 line) _ event e in
    let same : Restart centre.0 ≡ event = cc (centre.2) in
    begun (codes "restart") line b ∙ ap (λ rest. codes "restart" ++ rest) (last_spelled cluster 7 line centre.0 h centre.1) ∙ ap event_text same

read_spelled : (cluster : Cluster) (line : List ℕ) (event : Event) → AreQuorums cluster.quorums → begins_with (codes "read") line ≡ true → parse_read cluster line ≡ Ok event → line ≡ event_text event
read_spelled cluster line event h b e =
    let start = bind_ok (word_after 4 line) _ event e in
    let centre = bind_ok (parse_centre cluster (word_at start.0 line) (start.0 + 1)) _ event start.2 in
    let next = bind_ok (word_after (word_end start.0 line) line) _ event centre.2 in
    let key = bind_ok (key_of (word_at next.0 line) (next.0 + 1)) _ event next.2 in
    let end = bind_ok (end_at (word_end next.0 line) line 1) _ event key.2 in
    let same : Read centre.0 key.0 ≡ event = cc (end.2) in
    let last : drop next.0 line ≡ key.0 =
    part_seam 32 next.0 line ∙ (λ i. key_spelled (word_at next.0 line) (next.0 + 1) key.0 key.1 i ++ end_ok (word_end next.0 line) line 1 end.0 end.1 i) ∙ append-nil key.0 in
    begun (codes "read") line b
    ∙ ap (λ rest. codes "read" ++ rest) (spaced 4 line start.0 start.1)
    ∙ ap (λ rest. codes "read " ++ rest) (part_seam 32 start.0 line
    ∙ (λ i. centre_spelled cluster (word_at start.0 line) (start.0 + 1) centre.0 h centre.1 i ++ spaced (word_end start.0 line) line next.0 next.1 i)
    ∙ ap (λ rest. decimal centre.0 ++ (32 ∷ rest)) last)
    ∙ ap event_text same

begin_spelled : (cluster : Cluster) (line : List ℕ) (event : Event) → AreQuorums cluster.quorums → begins_with (codes "begin") line ≡ true → parse_begin cluster line ≡ Ok event → line ≡ event_text event
begin_spelled cluster line event h b e =
    let start = bind_ok (word_after 5 line) _ event e in
    let centre = bind_ok (parse_centre cluster (word_at start.0 line) (start.0 + 1)) _ event start.2 in
    let next = bind_ok (word_after (word_end start.0 line) line) _ event centre.2 in
    let updates = bind_ok (updates_from (next.0 + 1) (parts_from 32 next.0 line)) _ event next.2 in
    let same : Begin centre.0 updates.0 ≡ event = cc (updates.2) in
    let last = joined next.0 line (map update_text updates.0) (each_update (next.0 + 1) (parts_from 32 next.0 line) updates.0 updates.1) in
    begun (codes "begin") line b
    ∙ ap (λ rest. codes "begin" ++ rest) (spaced 5 line start.0 start.1)
    ∙ ap (λ rest. codes "begin " ++ rest) (part_seam 32 start.0 line
    ∙ (λ i. centre_spelled cluster (word_at start.0 line) (start.0 + 1) centre.0 h centre.1 i ++ spaced (word_end start.0 line) line next.0 next.1 i)
    ∙ ap (λ rest. decimal centre.0 ++ (32 ∷ rest)) last)
    ∙ ap event_text same

deliver_spelled : (line : List ℕ) (event : Event) → begins_with (codes "deliver") line ≡ true → parse_deliver line ≡ Ok event → line ≡ event_text event
deliver_spelled line event b e =
    let start = bind_ok (word_after 7 line) _ event e in
    let numbers = bind_ok (numbers_from (start.0 + 1) (parts_from 32 start.0 line)) _ event start.2 in
    let same : Deliver numbers.0 ≡ event = cc (numbers.2) in
    begun (codes "deliver") line b
    ∙ ap (λ rest. codes "deliver" ++ rest) (spaced 7 line start.0 start.1)
    ∙ ap (λ rest. codes "deliver " ++ rest) (joined start.0 line (map decimal numbers.0) (each_number (start.0 + 1) (parts_from 32 start.0 line) numbers.0 numbers.1))
    ∙ ap event_text same

-- what stands behind a part is its separator
passed_by : (p : ℕ → Bool) (x : ℕ) (xs : List ℕ) (b : ℕ) (rest : List ℕ) (t : Bool) → p x ≡ t
    → (drop (position_or_len p xs) xs ≡ b ∷ rest → p b ≡ true) → drop (cond (not t) (1 + position_or_len p xs) 0) (x ∷ xs) ≡ b ∷ rest → p b ≡ true
passed_by p x xs b rest true h below e = let same : x ≡ b = cc in ap p (sym same) ∙ h
passed_by p x xs b rest false h below e =
    let one : 1 + position_or_len p xs ≡ suc (position_or_len p xs) = omega arith in
    below (ap (λ n. drop n (x ∷ xs)) (sym one) ∙ e)

passed : (p : ℕ → Bool) (xs : List ℕ) (b : ℕ) (rest : List ℕ) → drop (position_or_len p xs) xs ≡ b ∷ rest → p b ≡ true
passed p [] b rest e = absurd (cc)
passed p (x ∷ xs) b rest e = passed_by p x xs b rest (p x) refl (passed p xs b rest) e

part_length : (separator : ℕ) (text : List ℕ) → length (part_at separator 0 text) ≡ position_or_len (λ b. b == separator) text
part_length separator text =
    ap (λ n. length (take n text)) (part_len_is separator text) ∙ length-take-le (position_or_len (λ b. b == separator) text) text (place_within (λ b. b == separator) text)

-- a byte that stands behind the first part
behind_first : (separator : ℕ) (text : List ℕ) (b : ℕ) (rest : List ℕ) → drop (length (part_at separator 0 text)) text ≡ b ∷ rest → b ≡ separator
behind_first separator text b rest e =
    eqb-true b separator (passed (λ c. c == separator) text b rest (ap (λ n. drop n text) (sym (part_length separator text)) ∙ e))

not_none : (at : ℕ) (line : List ℕ) → parts_from 32 at line ≡ [] → ⊥
not_none at line e =
    let none : length (parts_from 32 at line) ≡ 0 = ap length e in
    omega (arith, none, length-slice_split (λ b. b == 32) (drop at line))

settle_text : (centres : List ℕ) → (centres ≡ [] → ⊥) → codes "settle " ++ numbers_text centres ≡ event_text (Settle centres)
settle_text [] some = absurd (some refl)
settle_text (centre ∷ centres) some = refl

some_centres : (line : List ℕ) (centres : List ℕ) → parts_from 32 7 line ≡ map decimal centres → centres ≡ [] → ⊥
some_centres line centres e none = not_none 7 line (e ∙ ap (map decimal) none)

settle_on : (cluster : Cluster) (line : List ℕ) (event : Event) → AreQuorums cluster.quorums → begins_with (codes "settle") line ≡ true → (length line == 6) ≡ false
    → (rest : List ℕ) → drop 6 line ≡ rest → (centres_from cluster 0 8 (parts_from 32 7 line) >>= λ centres. Ok (Settle centres)) ≡ Ok event → line ≡ event_text event
settle_on cluster line event h b more [] none e =
    let whole : line ≡ codes "settle" = begun (codes "settle") line b ∙ ap (λ rest. codes "settle" ++ rest) none in
    let six : length line ≡ 6 = ap length whole in
    absurd (eqb-false (length line) 6 more six)
settle_on cluster line event h b more (c ∷ rest) some e =
    let centres = bind_ok (centres_from cluster 0 8 (parts_from 32 7 line)) _ event e in
    let same : Settle centres.0 ≡ event = cc (centres.2) in
    let words = each_centre cluster 0 8 (parts_from 32 7 line) centres.0 h centres.1 in
    let word : word_at 0 line ≡ codes "settle" = same_text (word_at 0 line) (codes "settle") (sym b) in
    let space : c ≡ 32 = behind_first 32 line c rest (ap (λ part. drop (length part) line) word ∙ some) in
    let seven : drop 7 line ≡ rest = sym (drop-drop 1 6 line) ∙ ap (drop 1) some in
    begun (codes "settle") line b
    ∙ ap (λ rest. codes "settle" ++ rest) (some ∙ (λ i. space i ∷ sym seven i))
    ∙ ap (λ rest. codes "settle " ++ rest) (joined 7 line (map decimal centres.0) words)
    ∙ settle_text centres.0 (some_centres line centres.0 words)
    ∙ ap event_text same

settle_spelled : (cluster : Cluster) (line : List ℕ) (event : Event) → AreQuorums cluster.quorums → begins_with (codes "settle") line ≡ true → parse_settle cluster line ≡ Ok event → line ≡ event_text event
settle_spelled cluster line event h b e = by (length line == 6) refl e
  where
    by : (bare : Bool) → (length line == 6) ≡ bare → cond bare (Ok (Settle [])) (centres_from cluster 0 8 (parts_from 32 7 line) >>= λ centres. Ok (Settle centres)) ≡ Ok event → line ≡ event_text event
    by true six e =
        let same : Settle [] ≡ event = cc (e) in
        let len : length line ≡ 6 = eqb-true (length line) 6 six in
        begun (codes "settle") line b ∙ ap (λ n. codes "settle" ++ drop n line) (sym len) ∙ ap (λ rest. codes "settle" ++ rest) (drop_all line) ∙ ap event_text same
    by false more e = settle_on cluster line event h b more (drop 6 line) refl e

image_spelled : (word : List ℕ) (column : ℕ) (image : Image) → parse_image word column ≡ Ok image → word ≡ image_text image
image_spelled word column image e = by (text_eq word (codes "lost")) refl (text_eq word (codes "kept")) refl (text_eq word (codes "torn")) refl e
  where
    by : (l : Bool) → text_eq word (codes "lost") ≡ l → (k : Bool) → text_eq word (codes "kept") ≡ k → (t : Bool) → text_eq word (codes "torn") ≡ t
        → cond l (Ok Lost) (cond k (Ok Kept) (cond t (Ok Torn) (refused column Word))) ≡ Ok image → word ≡ image_text image
    by true i k j t m e = let same : Lost ≡ image = cc (e) in same_text word (codes "lost") (sym i) ∙ ap image_text same
    by false i true j t m e = let same : Kept ≡ image = cc (e) in same_text word (codes "kept") (sym j) ∙ ap image_text same
    by false i false j true m e = let same : Torn ≡ image = cc (e) in same_text word (codes "torn") (sym m) ∙ ap image_text same
    by false i false j false m e = absurd (cc)

read_event : (one other : Event) → ◌≡◌ {A = Result Event SchedFault} (Ok one) (Ok other) → one ≡ other
read_event one other e = cc

stop_spelled : (cluster : Cluster) (line : List ℕ) (event : Event) → AreQuorums cluster.quorums → begins_with (codes "stop") line ≡ true → parse_stop cluster line ≡ Ok event → line ≡ event_text event
stop_spelled cluster line event h b e =
    let start = bind_ok (word_after 4 line) _ event e in
    let centre = bind_ok (parse_centre cluster (word_at start.0 line) (start.0 + 1)) _ event start.2 in
    let next = bind_ok (word_after (word_end start.0 line) line) _ event centre.2 in
    let call = bind_ok (natural_of (word_at next.0 line) (next.0 + 1) 1 11) _ event next.2 in
    let place = bind_ok (word_after (word_end next.0 line) line) _ event call.2 in
    let image = bind_ok (parse_image (word_at place.0 line) (place.0 + 1)) _ event place.2 in
    let end = bind_ok (end_at (word_end place.0 line) line 1) _ event image.2 in
    let same = read_event (Stop centre.0 call.0 image.0) event end.2 in
    let few : 11 < 2 ^ 64 = lit< tt in
    let last : drop place.0 line ≡ image_text image.0 =
    part_seam 32 place.0 line ∙ (λ i. image_spelled (word_at place.0 line) (place.0 + 1) image.0 image.1 i ++ end_ok (word_end place.0 line) line 1 end.0 end.1 i) ∙ append-nil (image_text image.0) in
    let middle : drop next.0 line ≡ decimal call.0 ++ (32 ∷ image_text image.0) =
    part_seam 32 next.0 line
    ∙ (λ i. natural_spelled (word_at next.0 line) (next.0 + 1) 1 11 call.0 few call.1 i ++ spaced (word_end next.0 line) line place.0 place.1 i)
    ∙ ap (λ rest. decimal call.0 ++ (32 ∷ rest)) last in
    begun (codes "stop") line b
    ∙ ap (λ rest. codes "stop" ++ rest) (spaced 4 line start.0 start.1)
    ∙ ap (λ rest. codes "stop " ++ rest) (part_seam 32 start.0 line
    ∙ (λ i. centre_spelled cluster (word_at start.0 line) (start.0 + 1) centre.0 h centre.1 i ++ spaced (word_end start.0 line) line next.0 next.1 i)
    ∙ ap (λ rest. decimal centre.0 ++ (32 ∷ rest)) middle)
    ∙ ap event_text same

-- a line of `tick`, `crash`, `restart` or `stop`
last_words_spelled : (cluster : Cluster) (line : List ℕ) (event : Event) → AreQuorums cluster.quorums → (t : Bool) → begins_with (codes "tick") line ≡ t
    → (c : Bool) → begins_with (codes "crash") line ≡ c → (r : Bool) → begins_with (codes "restart") line ≡ r → (s : Bool) → begins_with (codes "stop") line ≡ s
    → cond t (parse_tick cluster line) (cond c (parse_crash cluster line) (cond r (parse_restart cluster line) (cond s (parse_stop cluster line) (refused 1 Word)))) ≡ Ok event → line ≡ event_text event
last_words_spelled cluster line event h true i c j r k s l e = tick_spelled cluster line event h i e
last_words_spelled cluster line event h false i true j r k s l e = crash_spelled cluster line event h j e
last_words_spelled cluster line event h false i false j true k s l e = restart_spelled cluster line event h k e
last_words_spelled cluster line event h false i false j false k true l e = stop_spelled cluster line event h l e
last_words_spelled cluster line event h false i false j false k false l e = absurd (cc)

event_spelled : (cluster : Cluster) (line : List ℕ) (event : Event) → AreQuorums cluster.quorums → parse_event cluster line ≡ Ok event → line ≡ event_text event
event_spelled cluster line event h e =
    by (begins_with (codes "read") line) refl (begins_with (codes "begin") line) refl (begins_with (codes "deliver") line) refl (begins_with (codes "settle") line) refl e
  where
    last : Result Event SchedFault
    last = cond (begins_with (codes "tick") line) (parse_tick cluster line) (cond (begins_with (codes "crash") line) (parse_crash cluster line) (cond (begins_with (codes "restart") line) (parse_restart cluster line) (cond (begins_with (codes "stop") line) (parse_stop cluster line) (refused 1 Word))))

    by : (r : Bool) → begins_with (codes "read") line ≡ r → (b : Bool) → begins_with (codes "begin") line ≡ b → (d : Bool) → begins_with (codes "deliver") line ≡ d
        → (s : Bool) → begins_with (codes "settle") line ≡ s
        → cond r (parse_read cluster line) (cond b (parse_begin cluster line) (cond d (parse_deliver line) (cond s (parse_settle cluster line) last))) ≡ Ok event
        → line ≡ event_text event
    by true i b j d k s l e = read_spelled cluster line event h i e
    by false i true j d k s l e = begin_spelled cluster line event h j e
    by false i false j true k s l e = deliver_spelled line event k e
    by false i false j false k true l e = settle_spelled cluster line event h l e
    by false i false j false k false l e = last_words_spelled cluster line event h (begins_with (codes "tick") line) refl (begins_with (codes "crash") line) refl (begins_with (codes "restart") line) refl (begins_with (codes "stop") line) refl e

-- ---- lines

some_event : (cluster : Cluster) (text : List ℕ) (event : Event) → event_or_none cluster text ≡ Ok (Some event) → parse_event cluster text ≡ Ok event
some_event cluster [] event e = absurd (cc)
some_event cluster (b ∷ bs) event e = by (b == 35) e
  where
    by : (comment : Bool) → cond comment (Ok None) (parse_event cluster (b ∷ bs) >>= λ event. Ok (Some event)) ≡ Ok (Some event) → parse_event cluster (b ∷ bs) ≡ Ok event
    by true e = absurd (cc)
    by false e =
        let found = bind_ok (parse_event cluster (b ∷ bs)) _ (Some event) e in
        let same : found.0 ≡ event = cc (found.2) in
        found.1 ∙ ap (λ x. let r : Result Event SchedFault = Ok x in r) same

ended : (line : List ℕ) (y : Unit {0}) (rest : List ℕ) → drop (length (bytes_of_line line)) line ≡ rest → line_end_by (length (bytes_of_line line) + 1) rest ≡ Ok y → rest ≡ 10 ∷ []
ended line y [] at e = absurd (cc)
ended line y (b ∷ []) at e = ap (λ c. c ∷ []) (behind_first 10 line b [] at)
ended line y (b ∷ c ∷ bs) at e = absurd (cc)

-- what is read of a line that isn't too long is what it spells
read_short : {A : Type 0} (text : List ℕ) (read : Result A SchedFault) (x : A) → bounded text read ≡ Ok x → read ≡ Ok x
read_short text read x e = by (nat_le (length text) most_line_bytes) read e
  where
    by : (few : Bool) (read : Result _ SchedFault) → cond few read (of_long read) ≡ Ok x → read ≡ Ok x
    by true read e = e
    by false (Ok y) e = absurd (cc)
    by false (Err fault) e = long (nat_le fault.column most_line_bytes) e
      where
        long : (early : Bool) → cond early (Err fault) (refused (most_line_bytes + 1) Range) ≡ Ok x → Err fault ≡ Ok x
        long true e = e
        long false e = absurd (cc)

pub line_spelled : (cluster : Cluster) (line : List ℕ) (event : Event) → AreQuorums cluster.quorums → line_of cluster line ≡ Ok (Some event) → line ≡ event_text event ++ codes "\n"
line_spelled cluster line event h e =
    let bytes : List ℕ = bytes_of_line line in
    let found = bind_ok (event_or_none cluster bytes) _ (Some event) (read_short bytes (event_in cluster line) (Some event) e) in
    let end = bind_ok (line_end_of bytes line) _ (Some event) found.2 in
    let same : found.0 ≡ Some event = cc (end.2) in
    let some = some_event cluster bytes event (found.1 ∙ ap (λ x. let r : Result (Option Event) SchedFault = Ok x in r) same) in
    let last = ended line end.0 (drop (length bytes) line) refl end.1 in
    front_seam 10 line
    ∙ ap (λ rest. bytes ++ rest) last
    ∙ ap (λ bs. bs ++ codes "\n") (event_spelled cluster bytes event h some)
