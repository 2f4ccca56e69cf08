-- What goes out when messages are sent.
use Rattle.std.proofs.Common.{List, None, Ok, Option, Some, [], ap, arith, inl, inr, length, map, refl, suc, sym, true, zero, ℕ, ◌&&◌, ◌+◌, ◌++◌, ◌<◌, ◌∙◌, ◌∷◌, ◌≡◌, ◌≤◌}
use Rattle.std.specs.List.{range_with_len}
use Rattle.std.specs.Prelude.{nat_eq, nat_lt}
use Rattle.std.proofs.lemmas.Bool.{and_parts, cases_Bool, eqb-true, ltb-false}
use Rattle.mdcc_base.specs.declared.outside.Address.{Address}
use Rattle.mdcc_config.specs.declared.config.Config.{Config}
use Rattle.mdcc_frag.specs.Datagrams.{count, datagram, message_limit}
use Rattle.mdcc_frag.specs.Joining.{same_head}
use Rattle.mdcc_frag.specs.declared.datagrams.FragHead.{FragHead}
use Rattle.mdcc_def_messages.specs.Lengths.{message_length}
use Rattle.mdcc_def_messages.specs.Spelling.{message_bytes}
use Rattle.mdcc_def_messages.specs.declared.messages.Envelope.{Envelope}
use Rattle.mdcc_def_protocol.specs.Facts.{epoch_of}
use Rattle.mdcc_def_server_runs.specs.Acts.{Act}
use Rattle.mdcc_def_server_runs.specs.Sending.{address_to, envelopes_sent, message_sent, message_sent_to, next_head}
use Rattle.mdcc_def_server_runs.specs.Sites.{Site}
use Rattle.mdcc_theorem_trace_states.specs.Words.{Each, In}
use Rattle.mdcc_theorem_trace_states.proofs.Lists.{Each-append, Each-at, Each-like, In-append}
use Rattle.mdcc_theorem_clusters.specs.Mail.{Mail}
use Rattle.mdcc_theorem_clusters.specs.Posted.{IsPieceAct, IsPostedIn, Posts, posted, posted_to}

-- ---- lists

In-before : {A : Type 0} (x : A) (xs ys : List A) → In x xs → In x (xs ++ ys)
In-before x [] ys h = absurd h
In-before x (z ∷ xs) ys h = elim h [ inl e ↦ inl e | inr r ↦ inr (In-before x xs ys r) ]

In-after : {A : Type 0} (x : A) (xs ys : List A) → In x ys → In x (xs ++ ys)
In-after x [] ys h = h
In-after x (z ∷ xs) ys h = inr (In-after x xs ys h)

piece-more : (first more : List Mail) (act : Act) → ((one : Mail) → In one first → In one more) → IsPieceAct first act → IsPieceAct more act
piece-more first more (Act.Send from to bytes answer) f p = record { one = p.one; one_of = f p.one p.one_of; index = p.index; within = p.within; is = p.is }
piece-more first more (Act.Bind at address) f p = absurd p
piece-more first more (Act.Receive at gave) f p = absurd p
piece-more first more (Act.Append centre facts) f p = absurd p
piece-more first more (Act.Print line) f p = absurd p
piece-more first more Act.Stepped f p = absurd p
piece-more first more Act.Dropped f p = absurd p
piece-more first more Act.Unsent f p = tt

-- ---- one message

-- the datagrams of the indices from one on
pieces : (head : FragHead) (to : Address) (envelope : Envelope) (mail : List Mail) → In (head, envelope) mail → (from many : ℕ) → from + many ≤ count (length (message_bytes envelope))
    → Each (IsPieceAct mail) (map (λ index. Act.Send head.sender to (datagram head index (message_bytes envelope)) (Ok tt)) (range_with_len from many))
pieces head to envelope mail there from zero h = tt
pieces head to envelope mail there from (suc many) h = (
  record { one = (head, envelope); one_of = there; index = from; within = omega (arith, h); is = refl },
  pieces head to envelope mail there (from + 1) many (omega (arith, h)),
)

-- what goes out of one message
record PostsOne (site : Site) (envelope : Envelope) (to : Option Address) : Type 0 where
  acts : Each (IsPieceAct (posted_to site envelope to)) (message_sent_to site envelope to).acts
  heads : Each (IsPostedIn site.centre (epoch_of site.node.facts) site.sent (message_sent_to site envelope to).site.sent (envelope ∷ [])) (posted_to site envelope to)
  once : (one other : Mail) → In one (posted_to site envelope to) → In other (posted_to site envelope to) → one.1 ≡ other.1
  counts : site.sent ≤ (message_sent_to site envelope to).site.sent
  site_is : (message_sent_to site envelope to).site ≡ record site { sent = (message_sent_to site envelope to).site.sent }

posts-one : (site : Site) (envelope : Envelope) (to : Option Address) → PostsOne site envelope to
posts-one site envelope None = record { acts = (tt, tt); heads = tt; once = λ one other i j. absurd i; counts = omega arith; site_is = refl }
posts-one site envelope (Some to) =
    elim (cases_Bool (nat_lt message_limit (message_length envelope))) [
      | inl e ↦ record {
        acts = rw e (tt, tt);
        heads = rw e tt;
        once = λ one other i j. let k : In one [] = rw e at i in absurd k;
        counts = rw e (omega arith);
        site_is = rw e refl;
      }
      | inr e ↦ record {
        acts = rw e (pieces (next_head site) to envelope ((next_head site, envelope) ∷ []) (inl refl) 0 (count (length (message_bytes envelope))) (omega arith));
        heads = rw e (record { sender = refl; epoch_is = refl; above = omega arith; within = omega arith; one_of = inl refl; short = ltb-false _ _ e }, tt);
        once = λ one other i j.
            let k : In one ((next_head site, envelope) ∷ []) = rw e at i in
            let l : In other ((next_head site, envelope) ∷ []) = rw e at j in
            only one k ∙ sym (only other l);
        counts = rw e (omega arith);
        site_is = rw e refl;
      }
    ]
  where
    only : (one : Mail) → In one ((next_head site, envelope) ∷ []) → one.1 ≡ envelope
    only one i = elim i [ inl s ↦ ap (λ (z : Mail). z.1) s | inr r ↦ absurd r ]

-- ---- all of them

serials : (one other : FragHead) → same_head one other ≡ true → one.serial ≡ other.serial
serials one other same =
    let back = (and_parts (nat_eq one.sender other.sender) (nat_eq one.epoch other.epoch && nat_eq one.serial other.serial) same).1 in
    eqb-true one.serial other.serial (and_parts (nat_eq one.epoch other.epoch) (nat_eq one.serial other.serial) back).1

module _ (config : Config) (site : Site) (envelope : Envelope) (envelopes : List Envelope) where
  abbrev next : Site
  next = (message_sent config site envelope).site

  abbrev ones : List Mail
  ones = posted_to site envelope (address_to config envelope.to)

  abbrev others : List Mail
  others = posted config next envelopes

  abbrev all : List Mail
  all = ones ++ others

  abbrev end : ℕ
  end = (envelopes_sent config next envelopes).site.sent

  only : (one : Mail) → In one.1 (envelope ∷ []) → In one.1 (envelope ∷ envelopes)
  only one i = elim i [ inl s ↦ inl s | inr r ↦ absurd r ]

  apart : (middle : ℕ) (one other : FragHead) → one.serial ≤ middle → middle < other.serial → same_head one other ≡ true → ⊥
  apart middle one other h k same = let s = serials one other same in omega (arith, h, k, s)

  apart-back : (middle : ℕ) (one other : FragHead) → other.serial ≤ middle → middle < one.serial → same_head one other ≡ true → ⊥
  apart-back middle one other h k same = let s = serials one other same in omega (arith, h, k, s)

  -- one message, and then the others
  posts-more : PostsOne site envelope (address_to config envelope.to) → Posts config next envelopes → Posts config site (envelope ∷ envelopes)
  posts-more first rest = record {
    acts = Each-append (IsPieceAct all) (message_sent config site envelope).acts (envelopes_sent config next envelopes).acts
        (Each-like (IsPieceAct ones) (IsPieceAct all) (message_sent config site envelope).acts (λ act p. piece-more ones all act (λ one i. In-before one ones others i) p) first.acts)
        (Each-like (IsPieceAct others) (IsPieceAct all) (envelopes_sent config next envelopes).acts (λ act p. piece-more others all act (λ one i. In-after one ones others i) p) rest.acts);
    heads = Each-append (IsPostedIn site.centre (epoch_of site.node.facts) site.sent end (envelope ∷ envelopes)) ones others
        (Each-like (IsPostedIn site.centre (epoch_of site.node.facts) site.sent next.sent (envelope ∷ [])) (IsPostedIn site.centre (epoch_of site.node.facts) site.sent end (envelope ∷ envelopes)) ones
        (λ one h. let w = h.within in let c = rest.counts in record { sender = h.sender; epoch_is = h.epoch_is; above = h.above; within = omega (arith, w, c); one_of = only one h.one_of; short = h.short }) first.heads)
        (Each-like (IsPostedIn next.centre (epoch_of next.node.facts) next.sent end envelopes) (IsPostedIn site.centre (epoch_of site.node.facts) site.sent end (envelope ∷ envelopes)) others
        (λ one h. let a = h.above in let c = first.counts in record { sender = h.sender ∙ ap (λ (z : Site). z.centre) first.site_is; epoch_is = h.epoch_is ∙ ap (λ (z : Site). epoch_of z.node.facts) first.site_is; above = omega (arith, a, c); within = h.within; one_of = inr h.one_of; short = h.short }) rest.heads);
    once = λ one other i j same.
        elim (In-append one ones others i) [
          | inl a ↦ elim (In-append other ones others j) [
            | inl b ↦ first.once one other a b
            | inr b ↦ absurd (apart next.sent one.0 other.0 (Each-at _ ones one first.heads a).within (Each-at _ others other rest.heads b).above same)
          ]
          | inr a ↦ elim (In-append other ones others j) [
            | inl b ↦ absurd (apart-back next.sent one.0 other.0 (Each-at _ ones other first.heads b).within (Each-at _ others one rest.heads a).above same)
            | inr b ↦ rest.once one other a b same
          ]
        ];
    counts = let c = first.counts in let d = rest.counts in omega (arith, c, d);
    site_is = rest.site_is ∙ ap (λ (z : Site). record z { sent = end }) first.site_is;
  }

pub posts : (config : Config) (site : Site) (envelopes : List Envelope) → Posts config site envelopes
posts config site [] = record { acts = tt; heads = tt; once = λ one other i j s. absurd i; counts = omega arith; site_is = refl }
posts config site (envelope ∷ envelopes) =
    posts-more config site envelope envelopes (posts-one site envelope (address_to config envelope.to)) (posts config (message_sent config site envelope).site envelopes)
