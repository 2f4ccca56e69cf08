-- What is printed of a log, payload by payload.
use Rattle.std.proofs.Common.{◌≡◌, ◌+◌, ◌++◌, ◌∷◌, ◌∙◌, [], List, Option, Some, ap, append-nil, append_assoc, arith, drop, length, refl, subst, sym, zero, suc, ℕ, ◌≤◌}
use Rattle.std.specs.Io.KnownBytes.{Appends}
use Rattle.std.specs.List.{flat_map}
use Rattle.std.specs.Prelude.{codes, decimal, slice_get}
use Rattle.std.proofs.KnownBytes.{Appends-nil, Appends-trans}
use Rattle.mdcc_base.specs.Ballot.{ballot_text}
use Rattle.mdcc_base.specs.TxId.{tx_text}
use Rattle.mdcc_base.specs.declared.identifiers.Ballot.{Ballot}
use Rattle.mdcc_base.specs.declared.identifiers.TxId.{TxId}
use Rattle.mdcc_command_dump.specs.Dumps.{dump_text, payload_lines, payloads_lines}
use Rattle.mdcc_command_dump.specs.Texts.{mark_line, mark_text}
use Rattle.mdcc_option.specs.declared.choices.Mark.{Mark}
use Rattle.mdcc_command_replay.specs.Writing.{Front}

-- so many payloads are printed
pub record Printed (before after : Option (List ℕ)) (payloads : List (List ℕ)) (index : ℕ) : Type 0 where
  pub part : List ℕ
  pub wrote : Appends before after part
  pub whole : dump_text payloads ≡ part ++ payloads_lines (index + 1) (drop index payloads)

pub none_printed : (held : Option (List ℕ)) (payloads : List (List ℕ)) → Printed held held payloads 0
none_printed held payloads = record { part = []; wrote = Appends-nil held; whole = refl }

-- the lines from an index on, the first of which are those of the payload there
lines_at : (payloads : List (List ℕ)) (number index : ℕ) (payload : List ℕ) → slice_get payloads index ≡ Some payload
    → payloads_lines number (drop index payloads) ≡ payload_lines number payload ++ payloads_lines (number + 1) (drop (suc index) payloads)
lines_at [] number zero payload e = absurd (cc)
lines_at [] number (suc n) payload e = absurd (cc)
lines_at (first ∷ rest) number zero payload e = let same : first ≡ payload = cc in ap (λ (p : List ℕ). payload_lines number p ++ payloads_lines (number + 1) rest) same
lines_at (first ∷ rest) number (suc n) payload e = lines_at rest number n payload e

step_lines : (payloads : List (List ℕ)) (index : ℕ) (payload : List ℕ) → slice_get payloads index ≡ Some payload
    → payloads_lines (index + 1) (drop index payloads) ≡ payload_lines (index + 1) payload ++ payloads_lines ((index + 1) + 1) (drop (index + 1) payloads)
step_lines payloads index payload e =
    lines_at payloads (index + 1) index payload e
    ∙ ap (λ (n : ℕ). payload_lines (index + 1) payload ++ payloads_lines ((index + 1) + 1) (drop n payloads)) (let one : suc index ≡ index + 1 = omega arith in one)

pub one_more : (a b c : Option (List ℕ)) (payloads : List (List ℕ)) (index : ℕ) (payload : List ℕ) → slice_get payloads index ≡ Some payload
    → Printed a b payloads index → Appends b c (payload_lines (index + 1) payload) → Printed a c payloads (index + 1)
one_more a b c payloads index payload e p h = record {
  part = p.part ++ payload_lines (index + 1) payload;
  wrote = Appends-trans a b c p.part (payload_lines (index + 1) payload) p.wrote h;
  whole = p.whole ∙ ap (λ (text : List ℕ). p.part ++ text) (step_lines payloads index payload e) ∙ sym (append_assoc p.part (payload_lines (index + 1) payload) _);
}

pub some_more : (a b c : Option (List ℕ)) (payloads : List (List ℕ)) (index : ℕ) (payload : List ℕ) → slice_get payloads index ≡ Some payload
    → Printed a b payloads index → Front b c (payload_lines (index + 1) payload) → Front a c (dump_text payloads)
some_more a b c payloads index payload e p h = record {
  part = p.part ++ h.part;
  behind = h.behind ++ payloads_lines ((index + 1) + 1) (drop (index + 1) payloads);
  wrote = Appends-trans a b c p.part h.part p.wrote h.wrote;
  whole =
      let rest = payloads_lines ((index + 1) + 1) (drop (index + 1) payloads) in
      p.whole ∙ ap (λ (text : List ℕ). p.part ++ text) (step_lines payloads index payload e)
      ∙ ap (λ (text : List ℕ). p.part ++ (text ++ rest)) h.whole
      ∙ ap (λ (text : List ℕ). p.part ++ text) (append_assoc h.part h.behind rest)
      ∙ sym (append_assoc p.part h.part (h.behind ++ rest));
}

past_all : {A : Type 0} (xs : List A) (index : ℕ) → length xs ≤ index → drop index xs ≡ []
past_all [] zero h = refl
past_all [] (suc n) h = refl
past_all (x ∷ xs) zero h = absurd (omega arith)
past_all (x ∷ xs) (suc n) h = past_all xs n (omega arith)

pub all_printed : (a b : Option (List ℕ)) (payloads : List (List ℕ)) (index : ℕ) → length payloads ≤ index → Printed a b payloads index → Appends a b (dump_text payloads)
all_printed a b payloads index h p =
    let none = ap (λ (rest : List (List ℕ)). p.part ++ payloads_lines (index + 1) rest) (past_all payloads index h) in
    let whole : dump_text payloads ≡ p.part = p.whole ∙ none ∙ append-nil p.part in
    subst (λ (text : List ℕ). Appends a b text) (sym whole) p.wrote

-- the texts of the entries from an index on, the first of which is that of the entry there
flat_at : {A : Type 0} (f : A → List ℕ) (xs : List A) (i : ℕ) (x : A) → slice_get xs i ≡ Some x → flat_map f (drop i xs) ≡ f x ++ flat_map f (drop (suc i) xs)
flat_at f [] zero x e = absurd (cc)
flat_at f [] (suc n) x e = absurd (cc)
flat_at f (y ∷ ys) zero x e = let same : y ≡ x = cc in ap (λ z. f z ++ flat_map f ys) same
flat_at f (y ∷ ys) (suc n) x e = flat_at f ys n x e

flat_next : {A : Type 0} (f : A → List ℕ) (xs : List A) (i : ℕ) (x : A) → slice_get xs i ≡ Some x → flat_map f (drop i xs) ≡ f x ++ flat_map f (drop (i + 1) xs)
flat_next f xs i x e = flat_at f xs i x e ∙ ap (λ (n : ℕ). f x ++ flat_map f (drop n xs)) (let one : suc i ≡ i + 1 = omega arith in one)

-- the text of one more entry
pub flat_more : {A : Type 0} (f : A → List ℕ) (xs : List A) (i : ℕ) (x : A) (text more all : List ℕ) → slice_get xs i ≡ Some x
    → text ++ flat_map f (drop i xs) ≡ all → more ≡ text ++ f x → more ++ flat_map f (drop (i + 1) xs) ≡ all
flat_more f xs i x text more all e was wrote =
    let rest = flat_map f (drop (i + 1) xs) in
    ap (λ (front : List ℕ). front ++ rest) wrote ∙ append_assoc text (f x) rest ∙ ap (λ (back : List ℕ). text ++ back) (sym (flat_next f xs i x e)) ∙ was

-- that of all
pub flat_all : {A : Type 0} (f : A → List ℕ) (xs : List A) (i : ℕ) (text all : List ℕ) → length xs ≤ i → text ++ flat_map f (drop i xs) ≡ all → text ≡ all
flat_all f xs i text all past was = sym (append-nil text) ∙ ap (λ (back : List ℕ). text ++ back) (sym (ap (flat_map f) (past_all xs i past))) ∙ was

-- ---- the line of a mark, in two parts

grouped_six : (a b c d e f : List ℕ) → a ++ b ++ c ++ d ++ e ++ f ≡ a ++ (b ++ (c ++ (d ++ (e ++ f))))
grouped_six a b c d e f = append_assoc (a ++ b ++ c ++ d) e f ∙ append_assoc (a ++ b ++ c) d (e ++ f) ∙ append_assoc (a ++ b) c (d ++ (e ++ f)) ∙ append_assoc a b (c ++ (d ++ (e ++ f)))

grouped_seven : (a b c d e f g : List ℕ) → a ++ b ++ c ++ d ++ e ++ f ++ g ≡ a ++ (b ++ (c ++ (d ++ (e ++ (f ++ g)))))
grouped_seven a b c d e f g = append_assoc (a ++ b ++ c ++ d ++ e) f g ∙ grouped_six a b c d e (f ++ g)

pub mark_written : (number version : ℕ) (key : List ℕ) (ballot : Ballot) (tx : TxId) (mark : Mark) (word old mid new : List ℕ) → word ≡ mark_text mark
    → mid ≡ old ++ (decimal number ++ (codes " voted " ++ (key ++ (codes " " ++ (decimal version ++ codes " ")))))
    → new ≡ mid ++ (ballot_text ballot ++ (codes " " ++ (tx_text tx ++ (codes " " ++ (word ++ codes "\n")))))
    → new ≡ old ++ mark_line number key version ballot (tx, mark)
mark_written number version key ballot tx mark word old mid new is first second =
    let front = decimal number ++ codes " voted " ++ key ++ codes " " ++ decimal version ++ codes " " in
    let rest = ballot_text ballot ++ (codes " " ++ (tx_text tx ++ (codes " " ++ (mark_text mark ++ codes "\n")))) in
    second ∙ ap (λ (w : List ℕ). mid ++ (ballot_text ballot ++ (codes " " ++ (tx_text tx ++ (codes " " ++ (w ++ codes "\n")))))) is
    ∙ ap (λ (l : List ℕ). l ++ rest) (first ∙ ap (λ (l : List ℕ). old ++ l) (sym (grouped_six (decimal number) (codes " voted ") key (codes " ") (decimal version) (codes " "))))
    ∙ append_assoc old front rest
    ∙ ap (λ (l : List ℕ). old ++ l) (sym (grouped_seven front (ballot_text ballot) (codes " ") (tx_text tx) (codes " ") (mark_text mark) (codes "\n")))
