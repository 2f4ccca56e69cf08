-- The parser of words finds no fault in those of a question.
use Rattle.std.proofs.Common.{◌≡◌, ◌≤◌, ◌++◌, ◌||◌, ℕ, Bool, true, false, List, [], ◌∷◌, Some, None, codes, length, refl, sym, ap, ap₂, ◌∙◌, arith, append_assoc, append-nil, is_some}
use Rattle.std.specs.List.{fold, list_any}
use Rattle.std.specs.Prelude.{slice_get, unwrap_or}
use Rattle.std.proofs.lemmas.Bool.Decides.{nat_tests}
use Rattle.clap.specs.Faults.{check_fault, defaults_fault, entered_fault, level_fault, settle_fault, turn_fault, walk_fault}
use Rattle.clap.specs.Kinds.{Kinds, or_else, range_kinds, values_kinds}
use Rattle.clap.specs.Simple.{Shape, built, entered, names_of}
use Rattle.clap.specs.Walk.{Held, Row, Walk, finished, idle, nothing_held, positional, settled, walk, walk_from, walked}
use Rattle.clap.specs.Words.{Text, fault_of, reading_of}
use Rattle.clap.specs.declared.builder.value_parser.ValueParser.TheVariants as vp
use Rattle.clap.specs.declared.parser.matches.ValueSource.TheVariants.{CommandLine}
use Rattle.clap.proofs.OnLiterals.{clap_on_literals}
use Rattle.clap.proofs.FaultLemmas.{stopped_fault}
use Rattle.clap.proofs.WalkLemmas.{walk_stopped}
use Rattle.mdcc_command_words.specs.Commands.{is_hyphened}
use Rattle.mdcc_command_words.specs.Grammar.{ask, grammar}

or_false : (a b : Bool) → (a || b) ≡ false → (a ≡ false) × (b ≡ false)
or_false true b h = absurd (cc)
or_false false b h = (refl, h)

-- the command as it is parsed
abbrev asking : Shape
asking = unwrap_or (slice_get (built grammar).subs 4) ask.top

abbrev given : Text → Text → Row
given id word = record { id = id; values = word ∷ []; count = None; source = Some CommandLine; reading = reading_of vp.String }

-- ---- where the parser stands after each word

abbrev at_start : Walk
at_start = walk_from nothing_held

abbrev after_one : Text → Walk
after_one x = record { held = record { rows = []; pending = Some (codes "centre", x ∷ []); skip = 0 }; waiting = idle; position = 2; is_trailing = false; stopped = None }

abbrev after_two : Text → Text → Walk
after_two x y = record { held = record { rows = given (codes "centre") x ∷ []; pending = Some (codes "turns", y ∷ []); skip = 0 }; waiting = idle; position = 3; is_trailing = false; stopped = None }

abbrev after_three : Text → Text → Text → Walk
after_three x y z = record {
  held = record { rows = given (codes "centre") x ∷ given (codes "turns") y ∷ []; pending = Some (codes "serial", z ∷ []); skip = 0 };
  waiting = idle;
  position = 4;
  is_trailing = false;
  stopped = None;
}

abbrev after_all : Text → Text → Text → List Text → Walk
after_all x y z words = record {
  held = record { rows = given (codes "centre") x ∷ given (codes "turns") y ∷ given (codes "serial") z ∷ []; pending = Some (codes "words", words); skip = 0 };
  waiting = positional;
  position = 4;
  is_trailing = false;
  stopped = None;
}

walks_one : (word : Text) → is_hyphened word ≡ false → walked asking.rules [] at_start word ≡ after_one word
unfolding clap_on_literals
walks_one [] h = refl
walks_one (x ∷ xs) h = simp h refl

walks_two : (a word : Text) → is_hyphened word ≡ false → walked asking.rules [] (after_one a) word ≡ after_two a word
unfolding clap_on_literals
walks_two a [] h = refl
walks_two a (x ∷ xs) h = simp h refl

walks_three : (a b word : Text) → is_hyphened word ≡ false → walked asking.rules [] (after_two a b) word ≡ after_three a b word
unfolding clap_on_literals
walks_three a b [] h = refl
walks_three a b (x ∷ xs) h = simp h refl

walks_four : (a b c word : Text) → is_hyphened word ≡ false → walked asking.rules [] (after_three a b c) word ≡ after_all a b c (word ∷ [])
unfolding clap_on_literals
walks_four a b c [] h = refl
walks_four a b c (x ∷ xs) h = simp h refl

walks_more : (a b c : Text) (words : List Text) (word : Text) → is_hyphened word ≡ false
    → walked asking.rules [] (after_all a b c words) word ≡ after_all a b c (words ++ word ∷ [])
unfolding clap_on_literals
walks_more a b c words [] h = refl
walks_more a b c words (x ∷ xs) h = simp h refl

-- ---- no word is refused

takes_one : (word : Text) → is_hyphened word ≡ false → turn_fault asking [] at_start word ≡ []
unfolding clap_on_literals
takes_one [] h = refl
takes_one (x ∷ xs) h = simp h refl

takes_two : (a word : Text) → is_hyphened word ≡ false → turn_fault asking [] (after_one a) word ≡ []
unfolding clap_on_literals
takes_two a [] h = refl
takes_two a (x ∷ xs) h = simp h refl

takes_three : (a b word : Text) → is_hyphened word ≡ false → turn_fault asking [] (after_two a b) word ≡ []
unfolding clap_on_literals
takes_three a b [] h = refl
takes_three a b (x ∷ xs) h = simp h refl

takes_four : (a b c word : Text) → is_hyphened word ≡ false → turn_fault asking [] (after_three a b c) word ≡ []
unfolding clap_on_literals
takes_four a b c [] h = refl
takes_four a b c (x ∷ xs) h = simp h refl

takes_more : (a b c : Text) (words : List Text) (word : Text) → is_hyphened word ≡ false → turn_fault asking [] (after_all a b c words) word ≡ []
unfolding clap_on_literals
takes_more a b c words [] h = refl
takes_more a b c words (x ∷ xs) h = simp h refl

-- ---- all words

walks_on : (a b c : Text) (words more : List Text) → list_any is_hyphened more ≡ false
    → fold (walked asking.rules []) (after_all a b c words) more ≡ after_all a b c (words ++ more)
walks_on a b c words [] h = ap (after_all a b c) (sym (append-nil words))
walks_on a b c words (word ∷ more) h =
    let plain = or_false (is_hyphened word) _ h in
    ap (λ w. fold (walked asking.rules []) w more) (walks_more a b c words word plain.0)
    ∙ walks_on a b c (words ++ word ∷ []) more plain.1
    ∙ ap (after_all a b c) (append_assoc words (word ∷ []) more)

walks_all : (a b c d : Text) (words : List Text) → list_any is_hyphened (a ∷ b ∷ c ∷ d ∷ words) ≡ false
    → walk asking.rules [] nothing_held (a ∷ b ∷ c ∷ d ∷ words) ≡ after_all a b c (d ∷ words)
walks_all a b c d words h =
    let pa = or_false (is_hyphened a) _ h in let pb = or_false (is_hyphened b) _ pa.1 in let pc = or_false (is_hyphened c) _ pb.1 in let pd = or_false (is_hyphened d) _ pc.1 in
    ap (λ w. fold (walked asking.rules []) w (b ∷ c ∷ d ∷ words)) (walks_one a pa.0)
    ∙ ap (λ w. fold (walked asking.rules []) w (c ∷ d ∷ words)) (walks_two a b pb.0)
    ∙ ap (λ w. fold (walked asking.rules []) w (d ∷ words)) (walks_three a b c pc.0)
    ∙ ap (λ w. fold (walked asking.rules []) w words) (walks_four a b c d pd.0)
    ∙ walks_on a b c (d ∷ []) words pd.1

-- one word and those after it
one_taken : (w next : Walk) (word : Text) (words : List Text) → turn_fault asking [] w word ≡ [] → walked asking.rules [] w word ≡ next
    → walk_fault asking [] next words ≡ [] → walk_fault asking [] w (word ∷ words) ≡ []
unfolding walk_fault
one_taken w next word words f e more =
    ap (λ (first : Kinds). or_else first (walk_fault asking [] (walked asking.rules [] w word) words)) f
    ∙ ap (λ (v : Walk). walk_fault asking [] v words) e ∙ more

takes_on : (a b c : Text) (words more : List Text) → list_any is_hyphened more ≡ false → walk_fault asking [] (after_all a b c words) more ≡ []
unfolding walk_fault
takes_on a b c words [] h = refl
takes_on a b c words (word ∷ more) h =
    let plain = or_false (is_hyphened word) _ h in
    one_taken (after_all a b c words) (after_all a b c (words ++ word ∷ [])) word more (takes_more a b c words word plain.0) (walks_more a b c words word plain.0)
    (takes_on a b c (words ++ word ∷ []) more plain.1)

takes_all : (a b c d : Text) (words : List Text) → list_any is_hyphened (a ∷ b ∷ c ∷ d ∷ words) ≡ false
    → walk_fault asking [] at_start (a ∷ b ∷ c ∷ d ∷ words) ≡ []
takes_all a b c d words h =
    let pa = or_false (is_hyphened a) _ h in let pb = or_false (is_hyphened b) _ pa.1 in let pc = or_false (is_hyphened c) _ pb.1 in let pd = or_false (is_hyphened d) _ pc.1 in
    one_taken at_start (after_one a) a (b ∷ c ∷ d ∷ words) (takes_one a pa.0) (walks_one a pa.0)
    (one_taken (after_one a) (after_two a b) b (c ∷ d ∷ words) (takes_two a b pb.0) (walks_two a b pb.0)
    (one_taken (after_two a b) (after_three a b c) c (d ∷ words) (takes_three a b c pc.0) (walks_three a b c pc.0)
    (one_taken (after_three a b c) (after_all a b c (d ∷ [])) d words (takes_four a b c d pd.0) (walks_four a b c d pd.0)
    (takes_on a b c (d ∷ []) words pd.1))))

-- ---- after the words

-- each text is a value
texts_pass : (words : List Text) → values_kinds false vp.String words ≡ []
texts_pass [] = refl
texts_pass (word ∷ words) = texts_pass words

-- one to sixteen
few_pass : (n : ℕ) → 1 ≤ n → n ≤ 16 → range_kinds 1 16 n ≡ []
few_pass n h k = grind (arith, nat_tests)

-- what is left of a level, by where the walk ended
abbrev ends_with : Shape → List Text → Bool → Kinds → Held → Kinds
ends_with s words has_subcommand below end =
    or_else below (or_else (settle_fault s.rules s.args_override_self end)
    (or_else (defaults_fault (settled s.rules end).rows s.rules) (check_fault s (finished s.rules end) has_subcommand)))

ends_asked : (a b c d : Text) (words : List Text) → length (d ∷ words) ≤ 16 → ends_with asking (a ∷ b ∷ c ∷ d ∷ words) false [] (after_all a b c (d ∷ words)).held ≡ []
unfolding clap_on_literals
ends_asked a b c d words few = rw (few_pass (length (d ∷ words)) (omega arith) few, texts_pass words) refl

asked_level : (a b c d : Text) (words : List Text) → list_any is_hyphened (a ∷ b ∷ c ∷ d ∷ words) ≡ false → length (d ∷ words) ≤ 16
    → level_fault asking [] nothing_held (a ∷ b ∷ c ∷ d ∷ words) false [] ≡ []
asked_level a b c d words h few =
    let all = a ∷ b ∷ c ∷ d ∷ words in
    ap (λ (w : Walk). or_else (walk_fault asking [] at_start all) (ends_with asking all false [] w.held)) (walks_all a b c d words h)
    ∙ ap₂ or_else (takes_all a b c d words h) (ends_asked a b c d words few)

-- ---- the command itself

abbrev stopped_at : List Text → Walk
stopped_at words = record at_start { stopped = Some (codes "ask", words) }

top_walks : (words : List Text) → walk (built grammar).top.rules (names_of (built grammar)) nothing_held (codes "ask" ∷ words) ≡ stopped_at words
unfolding clap_on_literals
top_walks words = sym (walk_stopped (built grammar).top.rules (names_of (built grammar)) at_start (codes "ask") [] words)

top_takes : (words : List Text) → walk_fault (built grammar).top (names_of (built grammar)) at_start (codes "ask" ∷ words) ≡ []
unfolding clap_on_literals
top_takes words = stopped_fault (built grammar).top (names_of (built grammar)) at_start (codes "ask", []) words

abbrev by_walk : List Text → Walk → Kinds
by_walk words w =
    or_else (walk_fault (built grammar).top (names_of (built grammar)) at_start words)
    (ends_with (built grammar).top words (is_some (entered (built grammar) w.stopped)) (entered_fault (built grammar) w.stopped) w.held)

pub ask_is_taken : (a b c d : Text) (words : List Text) → list_any is_hyphened (a ∷ b ∷ c ∷ d ∷ words) ≡ false → length (d ∷ words) ≤ 16
    → fault_of grammar (codes "ask" ∷ a ∷ b ∷ c ∷ d ∷ words) ≡ []
unfolding clap_on_literals
ask_is_taken a b c d words h few =
    let rest = a ∷ b ∷ c ∷ d ∷ words in
    ap (by_walk (codes "ask" ∷ rest)) (top_walks rest)
    ∙ ap₂ (λ (x y : Kinds). or_else x (or_else y [])) (top_takes rest) (asked_level a b c d words h few)
