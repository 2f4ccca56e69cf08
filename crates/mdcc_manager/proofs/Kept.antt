-- What the open transactions that a manager keeps say of those that it stands for.
use Rattle.std.proofs.Common.{◌≡◌, Bool, true, false, List, [], ◌∷◌, Option, Some, None, refl, arith, inl, inr, map, not, ◌↔◌, ◌∙◌, ap, sym, if◌then◌else◌, Decides}
use Rattle.std.specs.List.{filter, find}
use Rattle.std.specs.Prelude.{is_some, option_and_then, option_map}
use Rattle.std.proofs.lemmas.Bool.{cases_Bool}
use Rattle.mdcc_base.specs.Key.{key_eq}
use Rattle.mdcc_base.specs.Sizes.{Sizes}
use Rattle.mdcc_base.specs.TxId.{tx_eq}
use Rattle.mdcc_base.specs.declared.identifiers.TxId.{TxId}
use Rattle.mdcc_base.specs.declared.key.Key.{Key}
use Rattle.mdcc_manager.specs.Opened.{kept_choice, kept_of, led_at, led_in, unled_at}
use Rattle.mdcc_manager.specs.declared.opened.OpenTransaction.{OpenTransaction}
use Rattle.mdcc_option.proofs.Equal.{Decides-key}
use Rattle.mdcc_option.specs.declared.choices.Choice.{Choice}
use Rattle.mdcc_def_protocol.specs.Learner.{decision_of, learned, learned_with, with_counted_vote}
use Rattle.mdcc_def_protocol.specs.Manager.{choice_on_key, decision, keys_of_choices, vote_taken, would_decide}
use Rattle.mdcc_def_protocol.specs.Marks.{outcome_of_marks}
use Rattle.mdcc_def_protocol.specs.Volatile.{Managing, Undecided, has_key, is_opened, opened_of}
use Rattle.mdcc_def_protocol.specs.declared.votes.Vote.{Vote}

pub key_eq-same : (a b : Key) → key_eq a b ≡ true → a ≡ b
key_eq-same a b e = (Decides-key a b).0 e

-- two tests of one thing answer alike
pub same_answer : {P : Type 0} (a b : Bool) → (a ≡ true) ↔ P → Decides b P → a ≡ b
same_answer true true x y = refl
same_answer true false x y = absurd (let e = y.1 (x.0 refl) in cc)
same_answer false true x y = absurd (let e = x.1 (y.0 refl) in cc)
same_answer false false x y = refl

pub unled_at-kept : (led : List Key) (choices : List Choice) (key : Key)
    → unled_at (map (kept_choice led) choices) key ≡ (if has_key led key then None else choice_on_key choices key)
unled_at-kept led [] key = grind arith
unled_at-kept led (c ∷ cs) key =
    let ih = unled_at-kept led cs key in
    elim (cases_Bool (key_eq c.key key)) [
      | inl e ↦ let same = key_eq-same c.key key e in rw (e, same) refl
      | inr e ↦ rw e ih
    ]

pub find-kept : (opened : List Undecided) (tx : TxId)
    → find (λ t. tx_eq t.tx tx) (map kept_of opened) ≡ option_map kept_of (find (λ t. tx_eq t.tx tx) opened)
find-kept [] tx = refl
find-kept (t ∷ ts) tx = let ih = find-kept ts tx in grind (arith, ih)

pub filter-kept : (opened : List Undecided) (tx : TxId)
    → filter (λ t. not (tx_eq t.tx tx)) (map kept_of opened) ≡ map kept_of (filter (λ t. not (tx_eq t.tx tx)) opened)
filter-kept [] tx = refl
filter-kept (t ∷ ts) tx = let ih = filter-kept ts tx in grind (arith, ih)

pub filter-txs : (opened : List Undecided) (tx : TxId)
    → filter (λ t. not (tx_eq t tx)) (map (λ t. t.tx) opened) ≡ map (λ t. t.tx) (filter (λ t. not (tx_eq t.tx tx)) opened)
filter-txs [] tx = refl
filter-txs (t ∷ ts) tx = let ih = filter-txs ts tx in grind (arith, ih)

pub led_at-kept : (key : Key) (led : List Key) (choices : List Choice)
    → map (led_at key) (map (kept_choice led) choices) ≡ map (kept_choice (key ∷ led)) choices
led_at-kept key led [] = refl
led_at-kept key led (c ∷ cs) = let ih = led_at-kept key led cs in grind (arith, ih)

-- the change that marks a choice of a transaction as led
abbrev pub undecided_led : TxId → Key → Undecided → Undecided
undecided_led tx key t = if tx_eq t.tx tx then record t { led = key ∷ t.led } else t

pub led_in-kept : (tx : TxId) (key : Key) (opened : List Undecided)
    → map (led_in tx key) (map kept_of opened) ≡ map kept_of (map (undecided_led tx key) opened)
led_in-kept tx key [] = refl
led_in-kept tx key (t ∷ ts) =
    let ih = led_in-kept tx key ts in
    let choices = led_at-kept key t.led t.choices in
    elim (cases_Bool (tx_eq t.tx tx)) [
      | inl e ↦ rw (e, choices, ih) refl
      | inr e ↦ rw (e, ih) refl
    ]

pub txs-led : (tx : TxId) (key : Key) (opened : List Undecided)
    → map (λ t. t.tx) (map (undecided_led tx key) opened) ≡ map (λ t. t.tx) opened
txs-led tx key [] = refl
txs-led tx key (t ∷ ts) = let ih = txs-led tx key ts in grind (arith, ih)

pub marks-kept : {X : Type 0} (f : Key → X) (led : List Key) (choices : List Choice)
    → map (λ entry. f entry.choice.key) (map (kept_choice led) choices) ≡ map f (keys_of_choices choices)
marks-kept f led [] = refl
marks-kept f led (c ∷ cs) = let ih = marks-kept f led cs in grind (arith, ih)

-- what a transaction that was found says of the one that it stands for
pub decision-found : (quorums : Sizes) (votes : List Vote) (tx : TxId) (t : Option Undecided) (found : OpenTransaction)
    → Some found ≡ option_map kept_of t
    → outcome_of_marks (map (λ entry. learned quorums votes tx entry.choice.key) found.choices)
    ≡ option_and_then (λ t. decision_of quorums votes tx (keys_of_choices t.choices)) t
decision-found quorums votes tx None found e = absurd (cc)
decision-found quorums votes tx (Some t) found e =
    let same : found ≡ kept_of t = cc in
    rw (same, marks-kept (learned quorums votes tx) t.led t.choices) refl

pub unled-found : (t : Option Undecided) (found : OpenTransaction) (key : Key) → Some found ≡ option_map kept_of t
    → unled_at found.choices key ≡ option_and_then (λ t. if has_key t.led key then None else choice_on_key t.choices key) t
unled-found None found key e = absurd (cc)
unled-found (Some t) found key e =
    let same : found ≡ kept_of t = cc in
    rw same (unled_at-kept t.led t.choices key)

pub none-found : {X : Type 0} (f : Undecided → Option X) (t : Option Undecided) → None ≡ option_map kept_of t → None ≡ option_and_then f t
none-found f None e = refl
none-found f (Some t) e = absurd (cc)

pub some-found : (t : Option Undecided) (found : Option OpenTransaction) → found ≡ option_map kept_of t → is_some found ≡ is_some t
some-found None found e = rw e refl
some-found (Some t) found e = rw e refl

-- the transaction that is found among those that are kept
pub found-kept : (kept : List OpenTransaction) (managing : Managing) (tx : TxId) (found : Option OpenTransaction)
    → found ≡ find (λ t. tx_eq t.tx tx) kept → kept ≡ map kept_of managing.opened → found ≡ option_map kept_of (opened_of managing tx)
found-kept kept managing tx found e keeps = e ∙ (rw keeps (find-kept managing.opened tx))

-- what a vote changes is known by whether its transaction is open
pub vote_taken-open : (quorums : Sizes) (managing : Managing) (vote : Vote) → is_opened managing vote.tx ≡ true
    → vote_taken quorums managing vote ≡ record managing { votes = with_counted_vote quorums managing.votes vote }
vote_taken-open quorums managing vote e = rw e refl

pub vote_taken-closed : (quorums : Sizes) (managing : Managing) (vote : Vote) → is_opened managing vote.tx ≡ false
    → vote_taken quorums managing vote ≡ managing
vote_taken-closed quorums managing vote e = rw e refl

pub would_decide-found : (quorums : Sizes) (managing : Managing) (vote : Vote) (found : OpenTransaction)
    → Some found ≡ option_map kept_of (opened_of managing vote.tx)
    → outcome_of_marks (map (λ entry. learned_with quorums managing.votes vote vote.tx entry.choice.key) found.choices)
    ≡ would_decide quorums managing vote
would_decide-found quorums managing vote found e =
    let opened = sym (some-found (opened_of managing vote.tx) (Some found) e) in
    decision-found quorums (with_counted_vote quorums managing.votes vote) vote.tx (opened_of managing vote.tx) found e
    ∙ sym (ap (λ m. decision quorums m vote.tx) (vote_taken-open quorums managing vote opened))

pub would_decide-none : (quorums : Sizes) (managing : Managing) (vote : Vote) → None ≡ option_map kept_of (opened_of managing vote.tx)
    → None ≡ would_decide quorums managing vote
would_decide-none quorums managing vote e =
    let closed = sym (some-found (opened_of managing vote.tx) None e) in
    none-found (λ t. decision_of quorums managing.votes vote.tx (keys_of_choices t.choices)) (opened_of managing vote.tx) e
    ∙ sym (ap (λ m. decision quorums m vote.tx) (vote_taken-closed quorums managing vote closed))
