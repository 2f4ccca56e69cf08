-- The entries of a well-formed fact, as they are read in its encoding.
use Rattle.std.proofs.Common.{◌≡◌, ◌+◌, ◌≤◌, ◌++◌, ◌∷◌, ℕ, Bool, true, false, List, [], Option, cond, length, drop, ap, sym, ◌∙◌, arith, refl, append_assoc, append-nil, length-append, subst}
use Rattle.std.specs.List.{flat_map}
use Rattle.std.specs.Prelude.{◌&&◌, ◌==◌, filter_map, map}
use Rattle.mdcc_base.specs.Key.{key_eq}
use Rattle.mdcc_base.specs.declared.identifiers.Ballot.{Ballot}
use Rattle.mdcc_base.specs.declared.identifiers.TxId.{TxId}
use Rattle.mdcc_base.specs.declared.key.Key.{Key}
use Rattle.mdcc_option.specs.declared.choices.Choice.{Choice}
use Rattle.mdcc_option.specs.declared.choices.Outcome.{Outcome}
use Rattle.mdcc_option.specs.declared.items.Delta.{Delta}
use Rattle.mdcc_option.specs.declared.items.Item.{Item}
use Rattle.mdcc_option.specs.declared.items.Update.{Update}
use Rattle.mdcc_struct.specs.Options.{Marks}
use Rattle.mdcc_def_messages.specs.Bytes.{counted_bytes, u32_bytes, u64_bytes, u8_bytes}
use Rattle.mdcc_def_messages.specs.Spelling.{fact_bytes, offered_bytes}
use Rattle.mdcc_def_messages.specs.SpelledParts.{ballot_bytes, choice_bytes, delta_bytes, entry_bytes, item_bytes, key_bytes, options_bytes}
use Rattle.mdcc_def_messages.specs.WellFormed.{IsWellFormedFact}
use Rattle.mdcc_def_messages.specs.declared.facts.Fact.{Fact}
use Rattle.mdcc_def_protocol.specs.Facts.{deltas_from, live_mark}
use Rattle.mdcc_def_protocol.specs.Plain.{plain_live_from}
use Rattle.mdcc_def_protocol.specs.Marks.{Amounts}
use Rattle.mdcc_theorem_encoding.proofs.Places.{IsAt, apart-2, apart-5, together}
use Rattle.mdcc_theorem_encoding.proofs.Whole.{at_front}
use Rattle.mdcc_cells_delta_walk.specs.Passing.{after_counted_item, byte_at, entry_head}
use Rattle.mdcc_cells_delta_walk.specs.Entries.{DeltaEntry, choices_opened, delta_entries_in, deltas_opened, deltas_read, is_instance_in, left_in, live_read, marks_opened, no_entries, number_in}
use Rattle.mdcc_cells_delta_walk.specs.declared.entries.Kind.{Kind}
use Rattle.mdcc_cells_delta_walk.proofs.Passed.{item-passed, passed}
use Rattle.mdcc_cells_delta_walk.proofs.PartsThere.{instance-there, key-length, number-there}
use Rattle.mdcc_cells_delta_walk.proofs.ChoicesEntered.{choices-read, delta_entry}
use Rattle.mdcc_cells_delta_walk.proofs.MarksEntered.{delta_pair, deltas-read, marks-read, weighed}

-- ---- votes

abbrev pub vote_text : List ℕ → ℕ → Ballot → Marks → Option Choice → List ℕ
vote_text key version ballot options offered = fact_bytes (Fact.Voted key version ballot options offered)

-- what stands before the marks of a vote
abbrev pub vote_front : List ℕ → ℕ → Ballot → Marks → List ℕ
vote_front key version ballot options = ((u8_bytes 3 ++ key_bytes key) ++ u64_bytes version) ++ ballot_bytes ballot ++ u32_bytes (length options)

abbrev pub marks_text : Marks → List ℕ
marks_text options = flat_map (λ e. entry_bytes e.0 e.1) options

vote-parts : (key : List ℕ) (version : ℕ) (ballot : Ballot) (options : Marks) (offered : Option Choice)
    → vote_text key version ballot options offered ≡ vote_front key version ballot options ++ (marks_text options ++ offered_bytes offered)
vote-parts key version ballot options offered =
    append_assoc (((u8_bytes 3 ++ key_bytes key) ++ u64_bytes version) ++ ballot_bytes ballot) (options_bytes options) (offered_bytes offered)
    ∙ ap (λ t. (((u8_bytes 3 ++ key_bytes key) ++ u64_bytes version) ++ ballot_bytes ballot) ++ t) (append_assoc (u32_bytes (length options)) (marks_text options) (offered_bytes offered))
    ∙ sym (append_assoc (((u8_bytes 3 ++ key_bytes key) ++ u64_bytes version) ++ ballot_bytes ballot) (u32_bytes (length options)) (marks_text options ++ offered_bytes offered))

front-long : (key : List ℕ) (version : ℕ) (ballot : Ballot) (options : Marks) → length (vote_front key version ballot options) ≡ 23 + length key
front-long key version ballot options =
    omega (
      arith,
      length-append (((u8_bytes 3 ++ key_bytes key) ++ u64_bytes version) ++ ballot_bytes ballot) (u32_bytes (length options)),
      length-append ((u8_bytes 3 ++ key_bytes key) ++ u64_bytes version) (ballot_bytes ballot),
      length-append (u8_bytes 3 ++ key_bytes key) (u64_bytes version),
      length-append (u8_bytes 3) (key_bytes key),
      length-append (u8_bytes (length key)) key,
    )

-- where the parts of a vote stand
record IsVoteThere (bytes : List ℕ) (of_key : List ℕ) (version : ℕ) (options : Marks) : Type 0 where
  key : IsAt bytes 1 (key_bytes of_key)
  instance : IsAt bytes 1 (key_bytes of_key ++ u64_bytes version)
  count : IsAt bytes (19 + length of_key) (u32_bytes (length options))

vote-there : (key : List ℕ) (version : ℕ) (ballot : Ballot) (options : Marks) (offered : Option Choice) → IsVoteThere (vote_text key version ballot options offered) key version options
vote-there key version ballot options offered =
    let bytes : List ℕ = vote_text key version ballot options offered in
    let p = apart-5 bytes 0 (u8_bytes 3) (key_bytes key) (u64_bytes version) (ballot_bytes ballot) (options_bytes options)
    (at_front ((((u8_bytes 3 ++ key_bytes key) ++ u64_bytes version) ++ ballot_bytes ballot) ++ options_bytes options) (offered_bytes offered)) in
    let q = apart-2 bytes (1 + length (key_bytes key) + 8 + 9) (u32_bytes (length options)) (marks_text options) p.4 in
    let place : 1 + length (key_bytes key) + 8 + 9 ≡ 19 + length key = omega (arith, length-append (u8_bytes (length key)) key) in
    record {
      key = p.1;
      instance = together bytes 1 (1 + length (key_bytes key)) (key_bytes key) (u64_bytes version) p.1 refl p.2;
      count = subst (λ n. IsAt bytes n (u32_bytes (length options))) place q.0;
    }

-- a reader of the marks of a vote, by what is read at the head
opened-marks : (same : Bool) (at_key : Key) (at_version : ℕ) (bytes cursor : List ℕ) (left : ℕ) (marks : List DeltaEntry)
    → delta_entries_in Kind.Marks at_key at_version left cursor ≡ marks
    → left_in (cond same (record { cursor = cursor; left = left; kind = Kind.Marks; key = at_key; version = at_version }) (no_entries at_key at_version bytes)) ≡ cond same marks []
opened-marks true at_key at_version bytes cursor left marks is = is
opened-marks false at_key at_version bytes cursor left marks is = refl

map-chosen : {X Y : Type 0} (f : X → Y) (test : Bool) (xs : List X) → cond test (map f xs) [] ≡ map f (cond test xs [])
map-chosen f true xs = refl
map-chosen f false xs = refl

vote-read : (at_key : Key) (at_version : ℕ) (key : List ℕ) (version : ℕ) (ballot : Ballot) (options : Marks) (offered : Option Choice) → IsWellFormedFact (Fact.Voted key version ballot options offered)
    → left_in (marks_opened at_key at_version (vote_text key version ballot options offered)) ≡ map weighed (plain_live_from at_key at_version (Fact.Voted key version ballot options offered))
vote-read at_key at_version key version ballot options offered fits =
    let bytes : List ℕ = vote_text key version ballot options offered in
    let there : IsVoteThere (vote_text key version ballot options offered) key version options = vote-there key version ballot options offered in
    let few : length key ≤ 32 = fits.instance.key_itself.fits in
    let long : byte_at 1 (entry_head bytes) ≡ length key = key-length bytes 1 key there.key few (omega arith) in
    let same : is_instance_in at_key at_version (entry_head bytes) 1 ≡ (version == at_version && key_eq key at_key) = instance-there bytes 1 at_key at_version key version fits.instance there.instance (omega arith) in
    let count : number_in (entry_head bytes) (19 + byte_at 1 (entry_head bytes)) ≡ length options =
    ap (λ n. number_in (entry_head bytes) (19 + n)) long ∙ number-there bytes (19 + length key) (length options) fits.options_itself.count there.count (omega (arith, few)) in
    let after : drop (23 + byte_at 1 (entry_head bytes)) bytes ≡ marks_text options ++ offered_bytes offered =
    ap (λ n. drop (23 + n) bytes) long ∙ ap (drop (23 + length key)) (vote-parts key version ballot options offered)
    ∙ passed (23 + length key) (vote_front key version ballot options) (marks_text options ++ offered_bytes offered) (front-long key version ballot options) in
    let marks : delta_entries_in Kind.Marks at_key at_version (number_in (entry_head bytes) (19 + byte_at 1 (entry_head bytes))) (drop (23 + byte_at 1 (entry_head bytes)) bytes) ≡ map weighed (filter_map live_mark options) =
    ap (λ n. delta_entries_in Kind.Marks at_key at_version n (drop (23 + byte_at 1 (entry_head bytes)) bytes)) count
    ∙ ap (delta_entries_in Kind.Marks at_key at_version (length options)) after
    ∙ marks-read at_key at_version key version options (offered_bytes offered) fits.options_itself.each in
    opened-marks (is_instance_in at_key at_version (entry_head bytes) 1) at_key at_version bytes (drop (23 + byte_at 1 (entry_head bytes)) bytes)
    (number_in (entry_head bytes) (19 + byte_at 1 (entry_head bytes))) (map weighed (filter_map live_mark options)) marks
    ∙ ap (λ b. cond b (map weighed (filter_map live_mark options)) []) same
    ∙ map-chosen weighed (version == at_version && key_eq key at_key) (filter_map live_mark options)

-- ---- commits

-- deltas as live updates
pub added-weighed : (ds : List (TxId × Amounts)) → map delta_entry ds ≡ map weighed (map (λ e. (e.0, Update.Add e.1)) ds)
added-weighed [] = refl
added-weighed (d ∷ ds) = ap (λ es. delta_entry d ∷ es) (added-weighed ds)

heard-read : (at_key : Key) (at_version : ℕ) (tx : TxId) (outcome : Outcome) → IsWellFormedFact (Fact.Heard tx outcome)
    → left_in (choices_opened at_key at_version (fact_bytes (Fact.Heard tx outcome))) ≡ map delta_entry (deltas_from at_key at_version (Fact.Heard tx outcome))
heard-read at_key at_version tx Outcome.Abort fits = refl
heard-read at_key at_version tx (Outcome.Commit choices) fits =
    ap (delta_entries_in Kind.Choices at_key at_version (length choices)) (sym (append-nil (flat_map choice_bytes choices)))
    ∙ choices-read at_key at_version tx choices [] fits.outcome_itself.each

-- ---- adoptions

abbrev pub adopted_text : List ℕ → ℕ → Item → List Delta → List ℕ
adopted_text key version item adds = fact_bytes (Fact.Adopted key version item adds)

pub adopted-parts : (key : List ℕ) (version : ℕ) (item : Item) (adds : List Delta)
    → adopted_text key version item adds ≡ (u8_bytes 5 ++ (key_bytes key ++ u64_bytes version)) ++ (item_bytes item ++ counted_bytes delta_bytes adds)
adopted-parts key version item adds = ap (λ t. u8_bytes 5 ++ t) (append_assoc (key_bytes key ++ u64_bytes version) (item_bytes item) (counted_bytes delta_bytes adds))

pub adopted-instance : (key : List ℕ) (version : ℕ) (item : Item) (adds : List Delta) → IsAt (adopted_text key version item adds) 1 (key_bytes key ++ u64_bytes version)
adopted-instance key version item adds =
    let whole : IsAt (adopted_text key version item adds) 0 (u8_bytes 5 ++ (key_bytes key ++ u64_bytes version)) =
    subst (λ b. IsAt b 0 (u8_bytes 5 ++ (key_bytes key ++ u64_bytes version))) (sym (adopted-parts key version item adds))
    (at_front (u8_bytes 5 ++ (key_bytes key ++ u64_bytes version)) (item_bytes item ++ counted_bytes delta_bytes adds)) in
    (apart-2 (adopted_text key version item adds) 0 (u8_bytes 5) (key_bytes key ++ u64_bytes version) whole).1

opened-deltas : (same : Bool) (at_key : Key) (at_version : ℕ) (bytes cursor : List ℕ) (left : ℕ) (deltas : List DeltaEntry)
    → delta_entries_in Kind.Deltas at_key at_version left cursor ≡ deltas
    → left_in (cond same (record { cursor = cursor; left = left; kind = Kind.Deltas; key = at_key; version = at_version }) (no_entries at_key at_version bytes)) ≡ cond same deltas []
opened-deltas true at_key at_version bytes cursor left deltas is = is
opened-deltas false at_key at_version bytes cursor left deltas is = refl

adopted-read : (at_key : Key) (at_version : ℕ) (key : List ℕ) (version : ℕ) (item : Item) (adds : List Delta) → IsWellFormedFact (Fact.Adopted key version item adds)
    → left_in (deltas_opened at_key at_version (adopted_text key version item adds)) ≡ map delta_entry (deltas_from at_key at_version (Fact.Adopted key version item adds))
adopted-read at_key at_version key version item adds fits =
    let bytes : List ℕ = adopted_text key version item adds in
    let there : IsAt (adopted_text key version item adds) 1 (key_bytes key ++ u64_bytes version) = adopted-instance key version item adds in
    let few : length key ≤ 32 = fits.instance.key_itself.fits in
    let long : byte_at 1 (entry_head bytes) ≡ length key = key-length bytes 1 key (apart-2 bytes 1 (key_bytes key) (u64_bytes version) there).0 few (omega arith) in
    let same : is_instance_in at_key at_version (entry_head bytes) 1 ≡ (version == at_version && key_eq key at_key) = instance-there bytes 1 at_key at_version key version fits.instance there (omega arith) in
    let front : length (u8_bytes 5 ++ (key_bytes key ++ u64_bytes version)) ≡ 10 + length key =
    omega (arith, length-append (u8_bytes 5) (key_bytes key ++ u64_bytes version), length-append (key_bytes key) (u64_bytes version), length-append (u8_bytes (length key)) key) in
    let after : after_counted_item (drop (10 + byte_at 1 (entry_head bytes)) bytes) ≡ counted_bytes delta_bytes adds =
    ap (λ n. after_counted_item (drop (10 + n) bytes)) long ∙ ap (λ b. after_counted_item (drop (10 + length key) b)) (adopted-parts key version item adds)
    ∙ ap after_counted_item (passed (10 + length key) (u8_bytes 5 ++ (key_bytes key ++ u64_bytes version)) (item_bytes item ++ counted_bytes delta_bytes adds) front)
    ∙ item-passed item (counted_bytes delta_bytes adds) in
    let deltas : delta_entries_in Kind.Deltas at_key at_version (byte_at 0 (after_counted_item (drop (10 + byte_at 1 (entry_head bytes)) bytes))) (drop 1 (after_counted_item (drop (10 + byte_at 1 (entry_head bytes)) bytes))) ≡ map delta_entry (map delta_pair adds) =
    ap (λ b. delta_entries_in Kind.Deltas at_key at_version (byte_at 0 b) (drop 1 b)) after
    ∙ ap (delta_entries_in Kind.Deltas at_key at_version (length adds)) (sym (append-nil (flat_map delta_bytes adds)))
    ∙ deltas-read at_key at_version adds [] fits.each in
    opened-deltas (is_instance_in at_key at_version (entry_head bytes) 1) at_key at_version bytes (drop 1 (after_counted_item (drop (10 + byte_at 1 (entry_head bytes)) bytes)))
    (byte_at 0 (after_counted_item (drop (10 + byte_at 1 (entry_head bytes)) bytes))) (map delta_entry (map delta_pair adds)) deltas
    ∙ ap (λ b. cond b (map delta_entry (map delta_pair adds)) []) same
    ∙ map-chosen delta_entry (version == at_version && key_eq key at_key) (map delta_pair adds)

-- ---- facts

-- the deltas of a fact are read
pub deltas-are-read : (key : Key) (version : ℕ) (fact : Fact) → IsWellFormedFact fact → deltas_read key version (fact_bytes fact) ≡ map delta_entry (deltas_from key version fact)
deltas-are-read key version (Fact.Booted epoch) fits = refl
deltas-are-read key version (Fact.Floor origin era upto) fits = refl
deltas-are-read key version (Fact.Promised other low high ballot) fits = refl
deltas-are-read key version (Fact.Voted other at ballot options offered) fits = refl
deltas-are-read key version (Fact.Heard tx outcome) fits = heard-read key version tx outcome fits
deltas-are-read key version (Fact.Adopted other at item adds) fits = adopted-read key version other at item adds fits

-- so are its live updates
pub live-is-read : (key : Key) (version : ℕ) (fact : Fact) → IsWellFormedFact fact → live_read key version (fact_bytes fact) ≡ map weighed (plain_live_from key version fact)
live-is-read key version (Fact.Booted epoch) fits = refl
live-is-read key version (Fact.Floor origin era upto) fits = refl
live-is-read key version (Fact.Promised other low high ballot) fits = refl
live-is-read key version (Fact.Voted other at ballot options offered) fits = vote-read key version other at ballot options offered fits
live-is-read key version (Fact.Heard tx outcome) fits = heard-read key version tx outcome fits ∙ added-weighed (deltas_from key version (Fact.Heard tx outcome))
live-is-read key version (Fact.Adopted other at item adds) fits = adopted-read key version other at item adds fits ∙ added-weighed (deltas_from key version (Fact.Adopted other at item adds))
