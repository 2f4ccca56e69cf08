-- Messages that are sent one after another.
use Rattle.std.proofs.Common.{◌≡◌, ℕ, zero, suc, ◌+◌, ◌≤◌, ◌<◌, ◌^◌, Bool, true, false, cond, nat_lt, List, [], ◌∷◌, ◌++◌, Option, Some, None, Ok, Err, refl, sym, ◌∙◌, ap, arith, inl, inr, length, take, drop, get_or, subst}
use Rattle.std.proofs.lemmas.Bool.{cases_Bool, ltb-false}
use Rattle.std.proofs.lemmas.List.{append-nil, append_assoc}
use Rattle.mdcc_base.specs.declared.outside.Address.{Address}
use Rattle.mdcc_config.specs.declared.config.Config.{Config}
use Rattle.mdcc_def_messages.specs.declared.messages.Envelope.{Envelope}
use Rattle.mdcc_def_server_runs.specs.Acts.{Act}
use Rattle.mdcc_frag.specs.Datagrams.{message_limit}
use Rattle.mdcc_def_messages.specs.Lengths.{message_length}
use Rattle.mdcc_def_messages.specs.Spelling.{message_bytes}
use Rattle.mdcc_def_server_runs.specs.Sending.{address_to, datagrams_sent, envelopes_sent, message_sent, message_sent_to, next_head}
use Rattle.mdcc_theorem_encoding.proofs.Lengths.{length-message}
use Rattle.mdcc_wire.specs.Encoding.{encoded, is_too_long}
use Rattle.mdcc_wire.specs.declared.encoding.EncodeFault.{EncodeFault}
use Rattle.mdcc_serve_outbox.specs.Outgoing.{all_sent, bytes_sent, outgoing_sent, sent_to}
use Rattle.mdcc_serve_outbox.specs.Sends.{IsPast, IsSending}
use Rattle.mdcc_serve_outbox.specs.declared.outgoing.Outgoing.{Outgoing}
use Rattle.mdcc_def_server_runs.specs.Sites.{Doing, Site, after_acts, and_then, doing}

assoc : (acts : List Act) (middle : Doing) (end : Site → Doing)
    → and_then (after_acts acts middle) end ≡ after_acts acts (and_then middle end)
assoc acts middle end = ap (λ (xs : List Act). doing xs (end middle.site).site) (append_assoc acts middle.acts (end middle.site).acts)

pub all_split : (config : Config) (site : Site) (xs ys : List Outgoing)
    → all_sent config site (xs ++ ys) ≡ and_then (all_sent config site xs) (λ next. all_sent config next ys)
all_split config site [] ys = refl
all_split config site (x ∷ xs) ys =
    ap (λ (d : Doing). after_acts (outgoing_sent config site x).acts d) (all_split config (outgoing_sent config site x).site xs ys)
    ∙ sym (assoc (outgoing_sent config site x).acts (all_sent config (outgoing_sent config site x).site xs) (λ next. all_sent config next ys))

sent_alone : (config : Config) (site : Site) (x : Outgoing) → all_sent config site (x ∷ []) ≡ outgoing_sent config site x
sent_alone config site x = ap (λ (xs : List Act). doing xs (outgoing_sent config site x).site) (append-nil (outgoing_sent config site x).acts)

-- one more message
pub all_next : (config : Config) (site : Site) (xs : List Outgoing) (x : Outgoing)
    → all_sent config site (xs ++ x ∷ []) ≡ and_then (all_sent config site xs) (λ next. outgoing_sent config next x)
all_next config site xs x =
    all_split config site xs (x ∷ [])
    ∙ ap (λ (d : Doing). after_acts (all_sent config site xs).acts d) (sent_alone config (all_sent config site xs).site x)

-- the acts of a front, of one message, and of those behind it
pub all_around : (config : Config) (site : Site) (xs : List Outgoing) (x : Outgoing) (ys : List Outgoing)
    → (all_sent config site (xs ++ x ∷ ys)).acts
    ≡ (all_sent config site xs).acts ++ ((outgoing_sent config (all_sent config site xs).site x).acts
    ++ (all_sent config (outgoing_sent config (all_sent config site xs).site x).site ys).acts)
all_around config site xs x ys = ap (λ (d : Doing). d.acts) (all_split config site xs (x ∷ ys))

-- ---- an item of a list

next_of : {X : Type 0} (xs : List X) (i : ℕ) (x : X) → i < length xs → x ≡ get_or xs i x → take (suc i) xs ≡ take i xs ++ x ∷ []
next_of [] i x within is = absurd (omega (within, arith))
next_of (y ∷ ys) zero x within is = ap (λ z. z ∷ []) (sym is)
next_of (y ∷ ys) (suc i) x within is = ap (λ zs. y ∷ zs) (next_of ys i x (omega (within, arith)) is)

pub next_taken : {X : Type 0} (xs : List X) (i : ℕ) (x : X) → i < length xs → x ≡ get_or xs i x → take (i + 1) xs ≡ take i xs ++ x ∷ []
next_taken xs i x within is = let on : i + 1 ≡ suc i = omega arith in ap (λ (n : ℕ). take n xs) on ∙ next_of xs i x within is

pub split_at_item : {X : Type 0} (xs : List X) (i : ℕ) (x : X) → i < length xs → x ≡ get_or xs i x → take i xs ++ x ∷ drop (suc i) xs ≡ xs
split_at_item [] i x within is = absurd (omega (within, arith))
split_at_item (y ∷ ys) zero x within is = ap (λ z. z ∷ ys) is
split_at_item (y ∷ ys) (suc i) x within is = ap (λ zs. y ∷ zs) (split_at_item ys i x (omega (within, arith)) is)

-- ---- one message

pub without_address : (config : Config) (site : Site) (x : Outgoing) → address_to config x.to ≡ None
    → outgoing_sent config site x ≡ doing (Act.Unsent ∷ []) site
without_address config site x none = ap (sent_to site x) none

pub without_bytes : (config : Config) (site : Site) (x : Outgoing) (to : Address) → address_to config x.to ≡ Some to → x.bytes ≡ None
    → outgoing_sent config site x ≡ doing (Act.Unsent ∷ []) site
without_bytes config site x to there none = ap (sent_to site x) there ∙ ap (λ (bytes : Option (List ℕ)). bytes_sent site bytes to) none

pub not_long : (x : Envelope) (u : Unit {0}) → Ok u ≡ encoded x → is_too_long x ≡ false
not_long x u is = elim (cases_Bool (is_too_long x)) [
  | inl e ↦ let bad : Ok u ≡ Err EncodeFault.TooLong = rw e at is in absurd (cc)
  | inr e ↦ e
]

pub short_bytes : (x : Envelope) → is_too_long x ≡ false → length (message_bytes x) ≤ message_limit
short_bytes x short = omega (ltb-false 2097152 (message_length x) short, length-message x, arith)

-- ---- serials

sent_later : (site : Site) (x : Envelope) (to : Option Address) → site.sent ≤ (message_sent_to site x to).site.sent
sent_later site x None = omega arith
sent_later site x (Some to) = by_length (nat_lt message_limit (message_length x))
  where
    by_length : (long : Bool) → site.sent ≤ (cond long (doing (Act.Unsent ∷ []) site) (doing (datagrams_sent (next_head site) to (message_bytes x)) (record site { sent = site.sent + 1 }))).site.sent
    by_length true = omega arith
    by_length false = omega arith

pub messages_later : (config : Config) (site : Site) (xs : List Envelope) → site.sent ≤ (envelopes_sent config site xs).site.sent
messages_later config site [] = omega arith
messages_later config site (x ∷ xs) =
    let here = sent_later site x (address_to config x.to) in
    let rest = messages_later config (message_sent config site x).site xs in
    omega (here, rest, arith)

bytes_later : (site : Site) (bytes : Option (List ℕ)) (to : Address) → site.sent ≤ (bytes_sent site bytes to).site.sent
bytes_later site None to = omega arith
bytes_later site (Some bytes) to = omega arith

to_later : (site : Site) (x : Outgoing) (to : Option Address) → site.sent ≤ (sent_to site x to).site.sent
to_later site x None = omega arith
to_later site x (Some to) = bytes_later site x.bytes to

all_later : (config : Config) (site : Site) (xs : List Outgoing) → site.sent ≤ (all_sent config site xs).site.sent
all_later config site [] = omega arith
all_later config site (x ∷ xs) =
    let here = to_later site x (address_to config x.to) in
    let rest = all_later config (outgoing_sent config site x).site xs in
    omega (here, rest, arith)

pub sending_behind : (acts more : List Act) → IsSending acts → IsSending (acts ++ more)
sending_behind (Act.Send from to bytes answer ∷ acts) more first = first
sending_behind [] more first = absurd first
sending_behind (Act.Bind at address ∷ acts) more first = absurd first
sending_behind (Act.Receive at gave ∷ acts) more first = absurd first
sending_behind (Act.Append centre fact ∷ acts) more first = absurd first
sending_behind (Act.Print line ∷ acts) more first = absurd first
sending_behind (Act.Stepped ∷ acts) more first = absurd first
sending_behind (Act.Dropped ∷ acts) more first = absurd first
sending_behind (Act.Unsent ∷ acts) more first = absurd first

-- what is past at a message is so behind all
pub past_behind : (config : Config) (site : Site) (xs : List Outgoing) (x : Outgoing) (ys : List Outgoing)
    → IsPast (outgoing_sent config (all_sent config site xs).site x).site → IsPast (all_sent config site (xs ++ x ∷ ys)).site
past_behind config site xs x ys past =
    let later = all_later config (outgoing_sent config (all_sent config site xs).site x).site ys in
    subst (λ (d : Doing). IsPast d.site) (sym (all_split config site xs (x ∷ ys))) (let all : 2 ^ 32 ≤ (all_sent config (outgoing_sent config (all_sent config site xs).site x).site ys).site.sent = omega (past, later, arith) in all)
