-- What a tick does with the transactions that are kept is what it does with those that they stand for.
use Rattle.std.proofs.Common.{◌≡◌, Bool, true, false, List, [], ◌∷◌, ◌++◌, refl, arith, inl, inr, map, not, ◌||◌, ◌&&◌, if◌then◌else◌, ap, ◌∙◌, subst, sym}
use Rattle.std.specs.List.{filter, list_any}
use Rattle.std.specs.Prelude.{flat_map}
use Rattle.std.proofs.lemmas.Bool.{cases_Bool}
use Rattle.mdcc_base.specs.Key.{key_eq}
use Rattle.mdcc_base.specs.Sizes.{Sizes}
use Rattle.mdcc_base.specs.declared.key.Key.{Key}
use Rattle.mdcc_manager.proofs.Kept.{key_eq-same}
use Rattle.mdcc_manager.specs.Opened.{kept_choice, kept_of}
use Rattle.mdcc_manager.specs.Ticks.{acts_in, led_unlearned, ticked_in}
use Rattle.mdcc_manager.specs.declared.opened.OpenChoice.{OpenChoice}
use Rattle.mdcc_manager.specs.declared.opened.OpenTransaction.{OpenTransaction}
use Rattle.mdcc_option.proofs.Equal.{Decides-key}
use Rattle.mdcc_option.specs.declared.choices.Choice.{Choice}
use Rattle.mdcc_def_protocol.specs.Learner.{is_learned}
use Rattle.mdcc_def_protocol.specs.Manager.{acts_at, choices_unlearned, is_odd, led_with, ticked_transaction}
use Rattle.mdcc_def_protocol.specs.Volatile.{Undecided, has_key, next_count}
use Rattle.mdcc_def_protocol.specs.declared.votes.Vote.{Vote}

pub choices-kept : (led : List Key) (choices : List Choice) → map (λ entry. entry.choice) (map (kept_choice led) choices) ≡ choices
choices-kept led [] = refl
choices-kept led (c ∷ cs) = let ih = choices-kept led cs in grind (arith, ih)

pub acts-kept : (quorums : Sizes) (votes : List Vote) (opened : List Undecided)
    → flat_map (acts_in quorums votes) (map kept_of opened) ≡ flat_map (acts_at quorums votes) opened
acts-kept quorums votes [] = refl
acts-kept quorums votes (t ∷ ts) = let ih = acts-kept quorums votes ts in rw (choices-kept t.led t.choices, ih) refl

-- a key is among those of some choices
abbrev is_among : Key → List Choice → Bool
is_among key choices = list_any (λ choice. key_eq key choice.key) choices

or-turned : (a b c : Bool) → ((a || b) || c) ≡ (b || (a || c))
or-turned true true c = refl
or-turned true false c = refl
or-turned false b c = refl

has_key-led_with : (key : Key) (led : List Key) (choices : List Choice) → has_key (led_with led choices) key ≡ (has_key led key || is_among key choices)
has_key-led_with key led [] = grind arith
has_key-led_with key led (c ∷ cs) =
    has_key-led_with key (c.key ∷ led) cs ∙ or-turned (key_eq key c.key) (has_key led key) (is_among key cs)

-- among those that pass a test of their key
among-filter : (test : Key → Bool) (key : Key) (choices : List Choice)
    → is_among key (filter (λ choice. test choice.key) choices) ≡ (test key && is_among key choices)
among-filter test key [] = grind arith
among-filter test key (c ∷ cs) =
    let ih = among-filter test key cs in
    elim (cases_Bool (key_eq key c.key)) [
      | inl e ↦ let same = key_eq-same key c.key e in let there = ap test same in grind (arith, ih, e, there)
      | inr e ↦ grind (arith, ih, e)
    ]

key_eq-itself : (key : Key) → key_eq key key ≡ true
key_eq-itself key = (Decides-key key key).1 refl

among-append : (key : Key) (front : List Choice) (c : Choice) (rest : List Choice) → key_eq key c.key ≡ true → is_among key (front ++ c ∷ rest) ≡ true
among-append key [] c rest e = grind (arith, e)
among-append key (f ∷ fs) c rest e = let ih = among-append key fs c rest e in grind (arith, ih)

and-true : (b : Bool) → (b && true) ≡ b
and-true true = refl
and-true false = refl

append-behind : (front : List Choice) (c : Choice) (rest : List Choice) → (front ++ c ∷ []) ++ rest ≡ front ++ c ∷ rest
append-behind [] c rest = refl
append-behind (f ∷ fs) c rest = let ih = append-behind fs c rest in grind (arith, ih)

cons-both : {X : Type 0} (a b : X) (as' bs : List X) → a ≡ b → as' ≡ bs → a ∷ as' ≡ b ∷ bs
cons-both a b as' bs e es = cc

-- a choice is marked led, where its key passes a test
abbrev led_by : (Key → Bool) → OpenChoice → OpenChoice
led_by test entry = record entry { led = entry.led || test entry.choice.key }

led_by-kept : (test : Key → Bool) (led marked : List Key) (c : Choice) → has_key marked c.key ≡ (has_key led c.key || test c.key)
    → led_by test (kept_choice led c) ≡ kept_choice marked c
led_by-kept test led marked c e =
    let make : Bool → OpenChoice = λ b. record { choice = c; led = b } in
    ap make (sym e)

-- the marks after the choices whose keys pass a test were led
leds : (test : Key → Bool) (led : List Key) (front rest : List Choice)
    → map (led_by test) (map (kept_choice led) rest)
    ≡ map (kept_choice (led_with led (filter (λ choice. test choice.key) (front ++ rest)))) rest
leds test led front [] = refl
leds test led front (c ∷ cs) =
    let all = front ++ c ∷ cs in
    let passing = filter (λ choice. test choice.key) all in
    let either : Bool → Bool = λ b. has_key led c.key || b in
    let both : Bool → Bool = λ b. test c.key && b in
    let passed = among-filter test c.key all ∙ ap both (among-append c.key front c cs (key_eq-itself c.key)) ∙ and-true (test c.key) in
    let head = led_by-kept test led (led_with led passing) c (has_key-led_with c.key led passing ∙ ap either passed) in
    let Tail : List Choice → Type 0 = λ choices.
    map (led_by test) (map (kept_choice led) cs) ≡ map (kept_choice (led_with led (filter (λ choice. test choice.key) choices))) cs in
    cons-both _ _ _ _ head (subst Tail (append-behind front c cs) (leds test led (front ++ c ∷ []) cs))

-- a transaction with these choices after a tick
abbrev ticked_to : Undecided → List OpenChoice → OpenTransaction
ticked_to t choices = record { tx = t.tx; choices = choices; ticks = next_count t.ticks }

ticked-by : (quorums : Sizes) (votes : List Vote) (t : Undecided) (odd : Bool)
    → ticked_to t (if odd then map (kept_choice t.led) t.choices else map (led_unlearned quorums votes t.tx) (map (kept_choice t.led) t.choices))
    ≡ ticked_to t (map (kept_choice (if odd then t.led else led_with t.led (choices_unlearned quorums votes t))) t.choices)
ticked-by quorums votes t true = refl
ticked-by quorums votes t false =
    ap (ticked_to t) (leds (λ key. not (is_learned quorums votes t.tx key)) t.led [] t.choices)

pub ticked-kept : (quorums : Sizes) (votes : List Vote) (t : Undecided)
    → ticked_in quorums votes (kept_of t) ≡ kept_of (ticked_transaction quorums votes t)
ticked-kept quorums votes t = ticked-by quorums votes t (is_odd (next_count t.ticks))

pub all-ticked : (quorums : Sizes) (votes : List Vote) (opened : List Undecided)
    → map (ticked_in quorums votes) (map kept_of opened) ≡ map kept_of (map (ticked_transaction quorums votes) opened)
all-ticked quorums votes [] = refl
all-ticked quorums votes (t ∷ ts) = cons-both _ _ _ _ (ticked-kept quorums votes t) (all-ticked quorums votes ts)

pub txs-ticked : (quorums : Sizes) (votes : List Vote) (opened : List Undecided)
    → map (λ t. t.tx) (map (ticked_transaction quorums votes) opened) ≡ map (λ t. t.tx) opened
txs-ticked quorums votes [] = refl
txs-ticked quorums votes (t ∷ ts) = let ih = txs-ticked quorums votes ts in rw ih refl
