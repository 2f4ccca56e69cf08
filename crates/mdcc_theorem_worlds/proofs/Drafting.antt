-- The parts of a transaction that words stand for are well-formed.
use Rattle.std.proofs.Common.{◌≡◌, ℕ, zero, suc, ◌^◌, ◌<◌, ◌≤◌, ◌==◌, Bool, true, false, List, [], ◌∷◌, length, map, ℤ, nat_lt, refl, subst, inl, inr, Option, Some, None, Result, Ok, Err, arith, fold}
use Rattle.std.specs.List.{AllByRecursion}
use Rattle.std.specs.Prelude.{IsTrue, ok_or, option_and_then, slice_get}
use Rattle.std.proofs.lemmas.Bool.{cases_Bool, ltb-false}
use Rattle.std.proofs.lemmas.List.Sorted.{length_permutation}
use Rattle.mdcc_base.specs.Key.{IsKey, key_lt}
use Rattle.mdcc_option.specs.Bounds.{IsSchema}
use Rattle.mdcc_option.specs.Parts.{are_parts_ascending, is_key_repeated, sorted_parts, with_part}
use Rattle.mdcc_option.specs.Transaction.{checked_by, fault_or, parts_fault, transaction_of, update_fault}
use Rattle.mdcc_option.specs.declared.faults.DraftFault.{DraftFault}
use Rattle.mdcc_option.specs.declared.faults.DraftFault.TheVariants.{Empty, RepeatedKey, TooMany}
use Rattle.mdcc_option.specs.declared.items.Item.{Item}
use Rattle.mdcc_option.specs.declared.items.Known.{Known}
use Rattle.mdcc_option.specs.declared.items.Part.{Part}
use Rattle.mdcc_option.specs.declared.items.Update.{Update}
use Rattle.mdcc_option.proofs.Ordered.{IsPermutation-sorted_parts, ascending-sorted_parts}
use Rattle.mdcc_def_language.specs.Resolve.{first_missing, item_in, part_of, part_on, parts_of, read_at, resolve, resolve_by, written_on}
use Rattle.mdcc_def_language.specs.Words.{◌>>=◌}
use Rattle.mdcc_def_messages.specs.WellFormed.{IsWellFormedShown}
use Rattle.mdcc_def_messages.specs.WellFormedParts.{IsWellFormedPart, IsWellFormedSeen, IsWellFormedUpdate}
use Rattle.mdcc_def_language.specs.declared.events.UpdateWord.{UpdateWord}
use Rattle.mdcc_def_language.specs.declared.schedule.ResolveFault.{ResolveFault}
use Rattle.mdcc_theorem_node_steps.specs.Inputs.{AreWellFormedParts}
use Rattle.mdcc_theorem_worlds.proofs.Fitting.{added-fits, written-fits}
use Rattle.mdcc_theorem_worlds.specs.WorldInvariant.{IsWellFormedKnown}
use Rattle.mdcc_theorem_worlds.specs.Words.{HasBody, IsGivenWord}

-- what holds of an update before a schema is asked
abbrev IsGivenUpdate : Update → Type 0
IsGivenUpdate (Update.Write item seen) = HasBody item × IsWellFormedSeen seen
IsGivenUpdate (Update.Add amounts) = Unit {0}

record IsGivenPart (part : Part) : Type 0 where
  key : IsKey part.key
  version : part.version < 2 ^ 64
  update : IsGivenUpdate part.update

abbrev OnGiven : {X E : Type 0} → (X → Type 0) → Result X E → Type 0
OnGiven P (Ok x) = P x
OnGiven P (Err fault) = Unit {0}

on-given : {X E : Type 0} (P : X → Type 0) (r : Result X E) (x : X) → OnGiven P r → r ≡ Ok x → P x
on-given P (Ok y) x h e = let same : y ≡ x = cc in subst P same h
on-given P (Err fault) x h e = absurd (cc)

-- ---- reads

got-read : (reads : List Known) (place : ℕ) (known : Known) → AllByRecursion IsWellFormedKnown reads → option_and_then (λ read. read) (slice_get (map Some reads) place) ≡ Some known → IsWellFormedKnown known
got-read [] place known h e = absurd (cc)
got-read (r ∷ rs) zero known h e = let same : r ≡ known = cc in subst IsWellFormedKnown same h.0
got-read (r ∷ rs) (suc place) known h e = got-read rs place known h.1 e

read-there : (reads : List Known) (number : ℕ) (known : Known) → AllByRecursion IsWellFormedKnown reads → read_at (map Some reads) number ≡ Some known → IsWellFormedKnown known
read-there reads zero known h e = absurd (cc)
read-there reads (suc place) known h e = got-read reads place known h e

-- ---- words

none-seen : IsWellFormedSeen []
none-seen = record { few = omega arith; each = tt; ascending = refl }

written-given : (known : Known) (item : Item) → IsWellFormedKnown known → HasBody item → IsGivenPart (written_on known item)
written-given known item h body = record { key = h.key_itself; version = h.token_itself.version; update = (body, h.token_itself.seen) }

on-read : (o : Option Known) (number : ℕ) (next : Known → Result Part ResolveFault) → ((known : Known) → o ≡ Some known → OnGiven IsGivenPart (next known))
    → OnGiven IsGivenPart (ok_or o (ResolveFault.NoRead number) >>= next)
on-read None number next h = tt
on-read (Some known) number next h = h known refl

on-item : (o : Option Item) (known : Known) (next : Item → Result Part ResolveFault) → ((item : Item) → o ≡ Some item → OnGiven IsGivenPart (next item))
    → OnGiven IsGivenPart (ok_or o (ResolveFault.NoItem known.key) >>= next)
on-item None known next h = tt
on-item (Some item) known next h = h item refl

shown-body : (known : Known) (item : Item) → IsWellFormedKnown known → known.item ≡ Some item → HasBody item
shown-body known item h e = by_item known.item h.item_itself e
  where
    by_item : (o : Option Item) → IsWellFormedShown o → o ≡ Some item → HasBody item
    by_item None w f = absurd (cc)
    by_item (Some other) w f = let same : other ≡ item = cc in subst HasBody same (record { fits = w.body_fits; bytes = w.bytes })

part-given : (reads : List Known) (word : UpdateWord) → AllByRecursion IsWellFormedKnown reads → IsGivenWord word → OnGiven IsGivenPart (part_of (map Some reads) word)
part-given reads (UpdateWord.New key item) h w = record { key = w.0; version = omega arith; update = (w.1, none-seen) }
part-given reads (UpdateWord.Set number item) h w =
    on-read (read_at (map Some reads) number) number (λ read. Ok (written_on read item)) (λ known e. written-given known item (read-there reads number known h e) w)
part-given reads (UpdateWord.Add number amounts) h w =
    on-read (read_at (map Some reads) number) number (λ read. item_in read >>= λ _. Ok (part_on read (Update.Add amounts)))
    (λ known e.
    let is = read-there reads number known h e in
    on-item known.item known (λ _. Ok (part_on known (Update.Add amounts))) (λ item f. record { key = is.key_itself; version = is.token_itself.version; update = tt }))
part-given reads (UpdateWord.Keep number) h w =
    on-read (read_at (map Some reads) number) number (λ read. item_in read >>= λ item. Ok (written_on read item))
    (λ known e.
    let is = read-there reads number known h e in
    on-item known.item known (λ item. Ok (written_on known item)) (λ item f. written-given known item is (shown-body known item is f)))

both-given : (r : Result Part ResolveFault) (q : Result (List Part) ResolveFault) → OnGiven IsGivenPart r → OnGiven (AllByRecursion IsGivenPart) q
    → OnGiven (AllByRecursion IsGivenPart) (r >>= λ part. q >>= λ parts. Ok (part ∷ parts))
both-given (Err fault) q h k = tt
both-given (Ok part) (Err fault) h k = tt
both-given (Ok part) (Ok parts) h k = (h, k)

parts-given : (reads : List Known) (words : List UpdateWord) → AllByRecursion IsWellFormedKnown reads → AllByRecursion IsGivenWord words
    → OnGiven (AllByRecursion IsGivenPart) (parts_of (map Some reads) words)
parts-given reads [] h w = tt
parts-given reads (word ∷ words) h w =
    both-given (part_of (map Some reads) word) (parts_of (map Some reads) words) (part-given reads word h w.0) (parts-given reads words h w.1)

resolved-given : (reads : List Known) (words : List UpdateWord) (parts : List Part) → AllByRecursion IsWellFormedKnown reads → AllByRecursion IsGivenWord words
    → resolve words (map Some reads) ≡ Ok parts → AllByRecursion IsGivenPart parts
resolved-given reads words parts h w e = by_missing (first_missing (map Some reads) words) e
  where
    by_missing : (o : Option ℕ) → resolve_by o (parts_of (map Some reads) words) ≡ Ok parts → AllByRecursion IsGivenPart parts
    by_missing (Some number) f = absurd (cc)
    by_missing None f = on-given (AllByRecursion IsGivenPart) (parts_of (map Some reads) words) parts (parts-given reads words h w) f

-- ---- in key order

each-with : (P : Part → Type 0) (parts : List Part) (part : Part) → AllByRecursion P parts → P part → AllByRecursion P (with_part parts part)
each-with P [] part h k = (k, tt)
each-with P (p ∷ ps) part h k = elim (cases_Bool (key_lt part.key p.key)) [
  | inl e ↦ rw e (k, (h.0, h.1))
  | inr e ↦ rw e (h.0, each-with P ps part h.1 k)
]

each-onto : (P : Part → Type 0) (some parts : List Part) → AllByRecursion P some → AllByRecursion P parts → AllByRecursion P (fold with_part some parts)
each-onto P some [] h k = h
each-onto P some (p ∷ ps) h k = each-onto P (with_part some p) ps (each-with P some p h k.0) k.1

-- ---- under a schema

formed-update : (schema : List (ℤ × ℤ)) (update : Update) → IsSchema schema → IsGivenUpdate update → update_fault schema update ≡ None → IsWellFormedUpdate update
formed-update schema (Update.Write item seen) is h clear = (written-fits schema item is h.0 clear, h.1)
formed-update schema (Update.Add amounts) is h clear = added-fits schema amounts is clear

no-fault : (a b : Option DraftFault) → fault_or a b ≡ None → (a ≡ None) × (b ≡ None)
no-fault None b h = (refl, h)
no-fault (Some fault) b h = absurd (cc)

formed-parts : (schema : List (ℤ × ℤ)) (parts : List Part) → IsSchema schema → AllByRecursion IsGivenPart parts → parts_fault schema parts ≡ None → AllByRecursion IsWellFormedPart parts
formed-parts schema [] is h clear = tt
formed-parts schema (p ∷ ps) is h clear =
    let both = no-fault (update_fault schema p.update) (parts_fault schema ps) clear in
    (record { key = h.0.key; version = h.0.version; update = formed-update schema p.update is h.0.update both.0 }, formed-parts schema ps is h.1 both.1)

checked-ok : (o : Option DraftFault) (ps qs : List Part) → checked_by o ps ≡ Ok qs → (o ≡ None) × (ps ≡ qs)
checked-ok None ps qs h = (refl, cc)
checked-ok (Some fault) ps qs h = absurd (cc)

some-part : (ps : List Part) → (length ps == 0) ≡ false → 1 ≤ length ps
some-part [] h = absurd (cc)
some-part (p ∷ ps) h = omega arith

sorted-formed : (schema : List (ℤ × ℤ)) (parts : List Part) → IsSchema schema → AllByRecursion IsGivenPart parts → (length parts == 0) ≡ false → nat_lt 8 (length parts) ≡ false
    → is_key_repeated parts ≡ false → parts_fault schema (sorted_parts parts) ≡ None → AreWellFormedParts (sorted_parts parts)
sorted-formed schema parts is h some few apart clear =
    let long : length (sorted_parts parts) ≡ length parts = length_permutation parts (sorted_parts parts) (IsPermutation-sorted_parts parts) in
    let low = some-part parts some in
    let high = ltb-false 8 (length parts) few in
    record {
      count = (omega (long, low, arith), omega (long, high, arith));
      each = formed-parts schema (sorted_parts parts) is (each-onto IsGivenPart [] parts tt h) clear;
      ascending = is-true (are_parts_ascending (sorted_parts parts)) (ascending-sorted_parts parts apart);
    }
  where
    is-true : (b : Bool) → b ≡ true → IsTrue b
    is-true b e = rw e refl

drafted-formed : (schema : List (ℤ × ℤ)) (resolved parts : List Part) → IsSchema schema → AllByRecursion IsGivenPart resolved → transaction_of schema resolved ≡ Ok parts → AreWellFormedParts parts
drafted-formed schema resolved parts is h made = elim (cases_Bool (length resolved == 0)) [
  | inl e ↦ let bad : Err Empty ≡ Ok parts = rw e at made in absurd (cc)
  | inr e ↦ elim (cases_Bool (nat_lt 8 (length resolved))) [
    | inl f ↦ let bad : Err TooMany ≡ Ok parts = rw (e, f) at made in absurd (cc)
    | inr f ↦ elim (cases_Bool (is_key_repeated resolved)) [
      | inl g ↦ let bad : Err RepeatedKey ≡ Ok parts = rw (e, f, g) at made in absurd (cc)
      | inr g ↦
          let both = checked-ok (parts_fault schema (sorted_parts resolved)) (sorted_parts resolved) parts (rw (e, f, g) at made) in
          subst AreWellFormedParts both.1 (sorted-formed schema resolved is h e f g both.0)
    ]
  ]
]

pub parts-formed : (schema : List (ℤ × ℤ)) (reads : List Known) (words : List UpdateWord) (resolved parts : List Part)
    → IsSchema schema → AllByRecursion IsWellFormedKnown reads → AllByRecursion IsGivenWord words
    → resolve words (map Some reads) ≡ Ok resolved → transaction_of schema resolved ≡ Ok parts
    → AreWellFormedParts parts
parts-formed schema reads words resolved parts is h w found made = drafted-formed schema resolved parts is (resolved-given reads words resolved h w found) made
