-- The parser of words takes those of each command.
use Rattle.std.proofs.Common.{◌-◌, ◌^◌, ◌≡◌, ◌&&◌, ◌||◌, ◌∙◌, ap, arith, Bool, cond, List, None, Option, Some, [], ◌∷◌, codes, false, is_some, length, nat_le, option_map, refl, subst, sym, true, ℕ}
use Rattle.std.proofs.lemmas.Bool.Decides.{nat_tests}
use Rattle.std.specs.Option.{option_or}
use Rattle.std.specs.Cmp.Lexicographic.{same_text}
use Rattle.std.specs.List.{list_any}
use Rattle.clap.specs.Words.{Text, fault_of}
use Rattle.mdcc_def_language.specs.Words.{text_eq}
use Rattle.mdcc_command_words.specs.Commands.{ask_by, ask_in, audit_in, check_in, cluster_by, cluster_in, dump_in, is_hyphened, is_refused, judging_in, node_by, node_in, number_in, one_in, read_words, replay_in, sample_by, sample_in, short_number_in, turns_in, two_in}
use Rattle.mdcc_command_words.specs.Grammar.{grammar}
use Rattle.mdcc_command_words.specs.declared.words.Command.{Command}
use Rattle.mdcc_command_words.specs.declared.words.Command.TheVariants.{Audit, Check, Dump, Replay}
use Rattle.mdcc_command_words.proofs.Asked.{ask_is_taken}
use Rattle.mdcc_command_words.proofs.Shapes.{audit_is_taken, check_is_taken, cluster_is_taken, dump_is_taken, node_is_taken, replay_is_taken, sample_is_taken}

-- an empty word is no number
no_number : (most : ℕ) → number_in [] most ≡ None
no_number most = refl

impossible : (P : Type 0) → false ≡ true → P
impossible P h = absurd (cc)

or_false : (a b : Bool) → (a || b) ≡ false → (a ≡ false) × (b ≡ false)
or_false true b h = absurd (cc)
or_false false b h = (refl, h)

not_some : {P : Type 0} (command : Option Command) → command ≡ None → is_some command ≡ true → P
not_some command e h = impossible _ (sym (ap (λ (c : Option Command). is_some c) e) ∙ h)

-- ---- the words of each command

-- where the first word is that of a command, and what comes of the numbers is one
named : (w name : Text) (command : Option Command) → is_some (cond (text_eq w name) command None) ≡ true → (w ≡ name) × (is_some command ≡ true)
named w name command h = by (text_eq w name) refl h
  where
    by : (t : Bool) → text_eq w name ≡ t → is_some (cond t command None) ≡ true → (w ≡ name) × (is_some command ≡ true)
    by true e k = (same_text w name (sym e), k)
    by false e k = absurd (cc)

-- of one word
word_taken : (w name : Text) (command : Command) → fault_of grammar (name ∷ []) ≡ [] → is_some (cond (text_eq w name) (Some command) None) ≡ true → fault_of grammar (w ∷ []) ≡ []
word_taken w name command taken h = subst (λ (v : Text). fault_of grammar (v ∷ []) ≡ []) (sym (named w name (Some command) h).0) taken

judging_taken : (w : Text) → is_some (judging_in w) ≡ true → fault_of grammar (w ∷ []) ≡ []
judging_taken w h = by (check_in w) refl h
  where
    by : (o : Option Command) → check_in w ≡ o → is_some (option_or o (audit_in w)) ≡ true → fault_of grammar (w ∷ []) ≡ []
    by None e k = word_taken w (codes "audit") Audit audit_is_taken k
    by (Some command) e k = word_taken w (codes "check") Check check_is_taken (ap (λ (o : Option Command). is_some o) e)

one_taken : (w : Text) → is_some (one_in w) ≡ true → fault_of grammar (w ∷ []) ≡ []
one_taken w h = by (replay_in w) refl h
  where
    by : (o : Option Command) → replay_in w ≡ o → is_some (option_or o (judging_in w)) ≡ true → fault_of grammar (w ∷ []) ≡ []
    by None e k = judging_taken w k
    by (Some command) e k = word_taken w (codes "replay") Replay replay_is_taken (ap (λ (o : Option Command). is_some o) e)

cluster_taken : (w x : Text) → is_hyphened x ≡ false → is_some (cluster_in w x) ≡ true → fault_of grammar (w ∷ x ∷ []) ≡ []
cluster_taken w [] hx h = let n = named w (codes "cluster") (cluster_by (short_number_in [])) h in absurd (cc (n.1))
cluster_taken w (x ∷ xs) hx h =
    let n = named w (codes "cluster") (cluster_by (short_number_in (x ∷ xs))) h in
    subst (λ (v : Text). fault_of grammar (v ∷ (x ∷ xs) ∷ []) ≡ []) (sym n.0) (cluster_is_taken x xs hx)

dump_taken : (w x : Text) → is_hyphened x ≡ false → is_some (dump_in w x) ≡ true → fault_of grammar (w ∷ x ∷ []) ≡ []
dump_taken w [] hx h = let n = named w (codes "dump") (option_map (λ k. Dump k) (short_number_in [])) h in absurd (cc (n.1))
dump_taken w (x ∷ xs) hx h =
    let n = named w (codes "dump") (option_map (λ k. Dump k) (short_number_in (x ∷ xs))) h in
    subst (λ (v : Text). fault_of grammar (v ∷ (x ∷ xs) ∷ []) ≡ []) (sym n.0) (dump_is_taken x xs hx)

two_taken : (w x : Text) → is_hyphened x ≡ false → is_some (two_in w x) ≡ true → fault_of grammar (w ∷ x ∷ []) ≡ []
two_taken w x hx h = by (cluster_in w x) refl h
  where
    by : (o : Option Command) → cluster_in w x ≡ o → is_some (option_or o (dump_in w x)) ≡ true → fault_of grammar (w ∷ x ∷ []) ≡ []
    by None e k = dump_taken w x hx k
    by (Some command) e k = cluster_taken w x hx (ap (λ (o : Option Command). is_some o) e)

ask_taken : (w a b c d : Text) (words : List Text) → list_any is_hyphened (a ∷ b ∷ c ∷ d ∷ words) ≡ false → is_some (ask_in w a b c (d ∷ words)) ≡ true
    → fault_of grammar (w ∷ a ∷ b ∷ c ∷ d ∷ words) ≡ []
ask_taken w a b c d words h k = by (text_eq w (codes "ask")) (nat_le (length (d ∷ words)) 16) refl refl k
  where
    by : (s t : Bool) → text_eq w (codes "ask") ≡ s → nat_le (length (d ∷ words)) 16 ≡ t
        → is_some (cond (s && t) (ask_by (short_number_in a) (turns_in b) (short_number_in c) (d ∷ words)) None) ≡ true
        → fault_of grammar (w ∷ a ∷ b ∷ c ∷ d ∷ words) ≡ []
    by true true e f k =
        subst (λ (v : Text). fault_of grammar (v ∷ a ∷ b ∷ c ∷ d ∷ words) ≡ []) (sym (same_text w (codes "ask") (sym e)))
        (ask_is_taken a b c d words h (grind (arith, nat_tests, f)))
    by true false e f k = absurd (cc)
    by false t e f k = absurd (cc)

no_first : (turns : Option ℕ) → node_by None turns ≡ None
no_first turns = refl

no_second : (centre : Option ℕ) → node_by centre None ≡ None
no_second None = refl
no_second (Some centre) = refl

node_taken : (w x y : Text) → is_hyphened x ≡ false → is_hyphened y ≡ false → is_some (node_in w x y) ≡ true → fault_of grammar (w ∷ x ∷ y ∷ []) ≡ []
node_taken w [] y hx hy h = let n = named w (codes "node") (node_by (short_number_in []) (short_number_in y)) h in absurd (cc (n.1))
node_taken w (x ∷ xs) [] hx hy h =
    let n = named w (codes "node") (node_by (short_number_in (x ∷ xs)) (short_number_in [])) h in
    let none : is_some (node_by (short_number_in (x ∷ xs)) None) ≡ true = n.1 in
    let same = no_second (short_number_in (x ∷ xs)) in
    not_some _ same none
node_taken w (x ∷ xs) (y ∷ ys) hx hy h =
    let n = named w (codes "node") (node_by (short_number_in (x ∷ xs)) (short_number_in (y ∷ ys))) h in
    subst (λ (v : Text). fault_of grammar (v ∷ (x ∷ xs) ∷ (y ∷ ys) ∷ []) ≡ []) (sym n.0) (node_is_taken x y xs ys hx hy)

no_items : (seed orders : Option ℕ) → sample_by seed None orders ≡ None
no_items None orders = refl
no_items (Some seed) orders = refl

no_orders : (seed items : Option ℕ) → sample_by seed items None ≡ None
no_orders None items = refl
no_orders (Some seed) None = refl
no_orders (Some seed) (Some items) = refl

sample_taken : (w x y z : Text) → is_hyphened x ≡ false → is_hyphened y ≡ false → is_hyphened z ≡ false → is_some (sample_in w x y z) ≡ true
    → fault_of grammar (w ∷ x ∷ y ∷ z ∷ []) ≡ []
sample_taken w [] y z hx hy hz h =
    let n = named w (codes "sample") (sample_by (number_in [] (2 ^ 64 - 1)) (short_number_in y) (short_number_in z)) h in
    impossible _ n.1
sample_taken w (x ∷ xs) [] z hx hy hz h =
    let n = named w (codes "sample") (sample_by (number_in (x ∷ xs) (2 ^ 64 - 1)) (short_number_in []) (short_number_in z)) h in
    let none : is_some (sample_by (number_in (x ∷ xs) (2 ^ 64 - 1)) None (short_number_in z)) ≡ true = n.1 in
    let same = no_items (number_in (x ∷ xs) (2 ^ 64 - 1)) (short_number_in z) in
    not_some _ same none
sample_taken w (x ∷ xs) (y ∷ ys) [] hx hy hz h =
    let n = named w (codes "sample") (sample_by (number_in (x ∷ xs) (2 ^ 64 - 1)) (short_number_in (y ∷ ys)) (short_number_in [])) h in
    let none : is_some (sample_by (number_in (x ∷ xs) (2 ^ 64 - 1)) (short_number_in (y ∷ ys)) None) ≡ true = n.1 in
    let same = no_orders (number_in (x ∷ xs) (2 ^ 64 - 1)) (short_number_in (y ∷ ys)) in
    not_some _ same none
sample_taken w (x ∷ xs) (y ∷ ys) (z ∷ zs) hx hy hz h =
    let n = named w (codes "sample") (sample_by (number_in (x ∷ xs) (2 ^ 64 - 1)) (short_number_in (y ∷ ys)) (short_number_in (z ∷ zs))) h in
    subst (λ (v : Text). fault_of grammar (v ∷ (x ∷ xs) ∷ (y ∷ ys) ∷ (z ∷ zs) ∷ []) ≡ []) (sym n.0) (sample_is_taken x y z xs ys zs hx hy hz)

-- ---- all words

taken_by : (words : List Text) → list_any is_hyphened words ≡ false → is_some (read_words words) ≡ true → fault_of grammar words ≡ []
taken_by [] h k = absurd (cc)
taken_by (w ∷ []) h k = one_taken w k
taken_by (w ∷ x ∷ []) h k =
    let a = or_false (is_hyphened w) _ h in let b = or_false (is_hyphened x) _ a.1 in two_taken w x b.0 k
taken_by (w ∷ x ∷ y ∷ []) h k =
    let a = or_false (is_hyphened w) _ h in let b = or_false (is_hyphened x) _ a.1 in let c = or_false (is_hyphened y) _ b.1 in node_taken w x y b.0 c.0 k
taken_by (w ∷ x ∷ y ∷ z ∷ []) h k =
    let a = or_false (is_hyphened w) _ h in let b = or_false (is_hyphened x) _ a.1 in let c = or_false (is_hyphened y) _ b.1 in let d = or_false (is_hyphened z) _ c.1 in
    sample_taken w x y z b.0 c.0 d.0 k
taken_by (v ∷ w ∷ x ∷ y ∷ z ∷ zs) h k = ask_taken v w x y z zs (or_false (is_hyphened v) _ h).1 k

pub commands_are_taken : (words : List Text) → is_refused words ≡ false → is_some (read_words words) ≡ true → fault_of grammar words ≡ []
commands_are_taken words h k = taken_by words (or_false _ (list_any is_hyphened words) h).1 k
