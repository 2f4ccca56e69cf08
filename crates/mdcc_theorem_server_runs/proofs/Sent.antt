-- What is sent of messages depends on the centre, its epoch and how many it has sent alone.
use Rattle.std.proofs.Common.{◌≡◌, ℕ, ◌+◌, Bool, true, false, cond, nat_lt, length, List, [], ◌∷◌, ◌++◌, Option, Some, None, Ok, refl, sym, ◌∙◌, ap, ap₂, arith, append_assoc, map}
use Rattle.std.specs.List.{range_with_len}
use Rattle.mdcc_base.specs.declared.outside.Address.{Address}
use Rattle.mdcc_config.specs.declared.config.Config.{Config}
use Rattle.mdcc_frag.specs.Datagrams.{count, datagram, message_limit}
use Rattle.mdcc_frag.specs.declared.datagrams.FragHead.{FragHead}
use Rattle.mdcc_def_messages.specs.Lengths.{message_length}
use Rattle.mdcc_def_messages.specs.Spelling.{message_bytes}
use Rattle.mdcc_def_messages.specs.declared.messages.Envelope.{Envelope}
use Rattle.mdcc_def_protocol.specs.Facts.{epoch_of}
use Rattle.mdcc_theorem_server_runs.proofs.Seen.{shows_none, shows_then}
use Rattle.mdcc_theorem_server_runs.specs.Told.{Shows}
use Rattle.mdcc_def_server_runs.specs.Acts.{Act}
use Rattle.mdcc_def_server_runs.specs.Sending.{address_to, datagrams_sent, envelopes_sent, message_sent, message_sent_to, next_head}
use Rattle.mdcc_def_server_runs.specs.Sites.{Doing, Site, after_acts, doing}

-- ---- acts one after another

pub acts_then : (xs ys : List Act) (next : Doing) → after_acts xs (after_acts ys next) ≡ after_acts (xs ++ ys) next
acts_then xs ys next = ap (λ (acts : List Act). doing acts next.site) (sym (append_assoc xs ys next.acts))

-- ---- what is seen

datagrams_show : (a : ℕ) (head : FragHead) (to : Address) (bytes : List ℕ) (indices : List ℕ)
    → (let acts = map (λ index. Act.Send head.sender to (datagram head index bytes) (Ok tt)) indices in Shows a acts [] [] acts 0)
datagrams_show a head to bytes [] = shows_none a
datagrams_show a head to bytes (index ∷ indices) =
    let ih = datagrams_show a head to bytes indices in
    record {
      facts_are = ih.facts_are;
      others = ih.others;
      lines_are = ih.lines_are;
      sends_are = ap (λ (xs : List Act). Act.Send head.sender to (datagram head index bytes) (Ok tt) ∷ xs) ih.sends_are;
      steps_are = (let e = ih.steps_are in omega (e, arith));
    }

unsent_shows : (a : ℕ) → Shows a (Act.Unsent ∷ []) [] [] (Act.Unsent ∷ []) 0
unsent_shows a = record { facts_are = refl; others = λ b other. refl; lines_are = refl; sends_are = refl; steps_are = refl }

-- A message is seen as its sends alone, and changes of the centre how many it has sent alone.
pub record Sends (a : ℕ) (site : Site) (did : Doing) : Type 0 where
  pub shows : Shows a did.acts [] [] did.acts 0
  pub site_is : did.site ≡ record site { sent = did.site.sent }

sends_to : (a : ℕ) (site : Site) (x : Envelope) (to : Option Address) → Sends a site (message_sent_to site x to)
sends_to a site x None = record { shows = unsent_shows a; site_is = refl }
sends_to a site x (Some to) = by_length (nat_lt message_limit (message_length x))
  where
    by_length : (long : Bool) → Sends a site
        (cond long (doing (Act.Unsent ∷ []) site) (doing (datagrams_sent (next_head site) to (message_bytes x)) (record site { sent = site.sent + 1 })))
    by_length true = record { shows = unsent_shows a; site_is = refl }
    by_length false = record {
      shows = datagrams_show a (next_head site) to (message_bytes x) (range_with_len 0 (count (length (message_bytes x))));
      site_is = refl;
    }

abbrev pub with_sent : Site → ℕ → Site
with_sent site n = record site { sent = n }

pub sends_all : (a : ℕ) (config : Config) (site : Site) (envelopes : List Envelope) → Sends a site (envelopes_sent config site envelopes)
sends_all a config site [] = record { shows = shows_none a; site_is = refl }
sends_all a config site (x ∷ envelopes) =
    let one = sends_to a site x (address_to config x.to) in
    let next = (message_sent config site x).site in
    let rest = sends_all a config next envelopes in
    record {
      shows = shows_then one.shows rest.shows;
      site_is = rest.site_is ∙ ap (λ (s : Site). with_sent s (envelopes_sent config next envelopes).site.sent) one.site_is;
    }

-- ---- of centres that send alike

pub record SendAlike (one other : Site) : Type 0 where
  pub centre : one.centre ≡ other.centre
  pub epoch : epoch_of one.node.facts ≡ epoch_of other.node.facts
  pub sent : one.sent ≡ other.sent

pub record SentAlike (one other : Doing) : Type 0 where
  pub acts : one.acts ≡ other.acts
  pub sites : SendAlike one.site other.site

heads_are : (a b e f n m : ℕ) → a ≡ b → e ≡ f → n ≡ m
    → (let head : FragHead = record { sender = a; epoch = e; serial = n + 1 } in head) ≡ record { sender = b; epoch = f; serial = m + 1 }
heads_are a b e f n m p q r = cc

sent_to_alike : (one other : Site) (x : Envelope) (to : Option Address) → SendAlike one other → SentAlike (message_sent_to one x to) (message_sent_to other x to)
sent_to_alike one other x None alike = record { acts = refl; sites = alike }
sent_to_alike one other x (Some to) alike = by_length (nat_lt message_limit (message_length x))
  where
    by_length : (long : Bool) → SentAlike
        (cond long (doing (Act.Unsent ∷ []) one) (doing (datagrams_sent (next_head one) to (message_bytes x)) (record one { sent = one.sent + 1 })))
        (cond long (doing (Act.Unsent ∷ []) other) (doing (datagrams_sent (next_head other) to (message_bytes x)) (record other { sent = other.sent + 1 })))
    by_length true = record { acts = refl; sites = alike }
    by_length false = record {
      acts = ap (λ (head : FragHead). datagrams_sent head to (message_bytes x))
          (heads_are one.centre other.centre (epoch_of one.node.facts) (epoch_of other.node.facts) one.sent other.sent alike.centre alike.epoch alike.sent);
      sites = record { centre = alike.centre; epoch = alike.epoch; sent = ap (λ (n : ℕ). n + 1) alike.sent };
    }

pub sent_alike : (config : Config) (one other : Site) (envelopes : List Envelope) → SendAlike one other
    → SentAlike (envelopes_sent config one envelopes) (envelopes_sent config other envelopes)
sent_alike config one other [] alike = record { acts = refl; sites = alike }
sent_alike config one other (x ∷ envelopes) alike =
    let first = sent_to_alike one other x (address_to config x.to) alike in
    let rest = sent_alike config (message_sent config one x).site (message_sent config other x).site envelopes first.sites in
    record { acts = ap₂ (λ (xs ys : List Act). xs ++ ys) first.acts rest.acts; sites = rest.sites }

-- ---- messages after others

pub sent_joined : (config : Config) (site : Site) (xs ys : List Envelope)
    → envelopes_sent config site (xs ++ ys) ≡ after_acts (envelopes_sent config site xs).acts (envelopes_sent config (envelopes_sent config site xs).site ys)
sent_joined config site [] ys = refl
sent_joined config site (x ∷ xs) ys =
    let one = message_sent config site x in
    let some = envelopes_sent config one.site xs in
    ap (after_acts one.acts) (sent_joined config one.site xs ys) ∙ acts_then one.acts some.acts (envelopes_sent config some.site ys)
