-- What a centre sends, prints and logs, as parts of what it does.
use Rattle.std.proofs.Common.{◌≡◌, ℕ, ◌+◌, List, [], ◌∷◌, ◌++◌, Option, Some, None, Ok, refl, sym, ◌∙◌, ap, subst, arith, append-nil, map, length, nat_lt, cond, Bool, true, false, IsTrue}
use Rattle.std.specs.List.{AllByRecursion, range_with_len}
use Rattle.mdcc_base.specs.declared.outside.Address.{Address}
use Rattle.mdcc_config.specs.declared.config.Config.{Config}
use Rattle.mdcc_frag.specs.Datagrams.{count, datagram, message_limit}
use Rattle.mdcc_frag.specs.declared.datagrams.FragHead.{FragHead}
use Rattle.mdcc_link.specs.Link.{LinkCall}
use Rattle.mdcc_def_messages.specs.Lengths.{message_length}
use Rattle.mdcc_def_messages.specs.Spelling.{message_bytes}
use Rattle.mdcc_def_messages.specs.declared.facts.Fact.{Fact}
use Rattle.mdcc_def_messages.specs.declared.messages.Envelope.{Envelope}
use Rattle.mdcc_option.specs.declared.cluster.Cluster.{Cluster}
use Rattle.mdcc_serve_outbox.specs.Sends.{IsSenderOf, Sends}
use Rattle.mdcc_serve_outbox.specs.Shows.{Records, calls_of, count_limited}
use Rattle.mdcc_serve_outbox.specs.declared.sending.Sender.{Sender}
use Rattle.mdcc_def_server_runs.specs.Acts.{Act, but_answer, but_answers, dropped_by, dropped_in, facts_appended, lost_in, printed, printed_by, steps_by, steps_in}
use Rattle.mdcc_def_server_runs.specs.Runs.{NodeState}
use Rattle.mdcc_def_server_runs.specs.Sending.{address_to, datagrams_sent, envelopes_sent, message_sent, message_sent_to, next_head}
use Rattle.mdcc_def_server_runs.specs.Sites.{Pending, Site, doing}
use Rattle.mdcc_serve_site.proofs.Joined.{appended_answers, appended_append, dropped_append, none_added, none_written, others_none, printed_append, steps_append}
use Rattle.mdcc_serve_site.specs.Logs.{MayHaveFacts, with_facts}
use Rattle.mdcc_serve_site.specs.Moments.{Leaves, Outside, Passes}
use Rattle.mdcc_serve_site.specs.PendingBytes.{pending_bytes}
use Rattle.mdcc_serve_site.specs.SiteState.{CanBeSent, Finishes, IsShortFact, IsSite, SiteOutside, SendsAll, SendsSome, HoldsSite, Stops, place, seen}
use Rattle.mdcc_serve_site.specs.declared.fault.ServeFault.{ServeFault}
use Rattle.mdcc_serve_site.specs.declared.site.Site.{Site as TheSite}

-- ---- sending changes the serials alone

pub record OnlySent (site after : Site) : Type 0 where
  pub centre : after.centre ≡ site.centre
  pub node : after.node ≡ site.node
  pub logged : after.logged ≡ site.logged
  pub clients : after.clients ≡ site.clients
  pub own : after.own ≡ site.own
  pub asked : after.asked ≡ site.asked
  pub pending : after.pending ≡ site.pending

same_site : (site : Site) → OnlySent site site
same_site site = record { centre = refl; node = refl; logged = refl; clients = refl; own = refl; asked = refl; pending = refl }

sent_to : (site : Site) (x : Envelope) (to : Option Address) → OnlySent site (message_sent_to site x to).site
sent_to site x None = same_site site
sent_to site x (Some to) = by_length (nat_lt message_limit (message_length x))
  where
    by_length : (long : Bool) → OnlySent site (cond long (doing (Act.Unsent ∷ []) site) (doing (datagrams_sent (next_head site) to (message_bytes x)) (record site { sent = site.sent + 1 }))).site
    by_length true = same_site site
    by_length false = record { centre = refl; node = refl; logged = refl; clients = refl; own = refl; asked = refl; pending = refl }

pub messages_only : (config : Config) (site : Site) (xs : List Envelope) → OnlySent site (envelopes_sent config site xs).site
messages_only config site [] = same_site site
messages_only config site (x ∷ xs) =
    let one = sent_to site x (address_to config x.to) in
    let rest = messages_only config (message_sent config site x).site xs in
    record {
      centre = rest.centre ∙ one.centre;
      node = rest.node ∙ one.node;
      logged = rest.logged ∙ one.logged;
      clients = rest.clients ∙ one.clients;
      own = rest.own ∙ one.own;
      asked = rest.asked ∙ one.asked;
      pending = rest.pending ∙ one.pending;
    }

pub site_sent : (cluster : Cluster) (held : TheSite) (site after : Site) (sender : Sender) → OnlySent site after → IsSite cluster held site → IsSenderOf sender after → IsSite cluster (record held { sender = sender }) after
site_sent cluster held site after sender only is sends = record {
  node = rw (only.centre, only.node) is.node;
  kept = rw (only.centre, only.node) is.kept;
  centre = is.centre ∙ sym only.centre;
  sender = sends;
  clients = is.clients ∙ sym only.clients;
  own = is.own ∙ sym only.own;
  asked = is.asked ∙ sym only.asked;
  waits = record {
    pending = is.waits.pending ∙ ap pending_bytes (sym only.pending);
    all = ap (λ (n : NodeState). n.facts) only.node
        ∙ (is.waits.all ∙ (ap (λ (fs : List Fact). with_facts fs site.pending.facts) (sym only.logged) ∙ ap (λ (p : Pending). with_facts after.logged p.facts) (sym only.pending)));
    facts = subst (λ (p : Pending). AllByRecursion IsShortFact p.facts) (sym only.pending) is.waits.facts;
    envelopes = subst (λ (p : Pending). AllByRecursion CanBeSent p.envelopes) (sym only.pending) is.waits.envelopes;
  };
}

-- ---- acts that are datagrams, or messages that are not sent

pub record Wordless (acts : List Act) : Type 0 where
  pub steps : steps_in acts ≡ 0
  pub dropped : dropped_in acts ≡ 0
  pub prints : printed acts ≡ []
  pub appends : (b : ℕ) → facts_appended b acts ≡ []

none_said : Wordless []
none_said = record { steps = refl; dropped = refl; prints = refl; appends = λ b. refl }

said_more : (xs ys : List Act) → Wordless xs → Wordless ys → Wordless (xs ++ ys)
said_more xs ys one two = record {
  steps = (let e = steps_append xs ys in let a = one.steps in let b = two.steps in omega (e, a, b, arith));
  dropped = (let e = dropped_append xs ys in let a = one.dropped in let b = two.dropped in omega (e, a, b, arith));
  prints = printed_append xs ys ∙ (ap (λ (bytes : List ℕ). bytes ++ printed ys) one.prints ∙ two.prints);
  appends = λ b. appended_append b xs ys ∙ (ap (λ (fs : List Fact). fs ++ facts_appended b ys) (one.appends b) ∙ two.appends b);
}

datagrams_said : (head : FragHead) (to : Address) (bytes : List ℕ) (indices : List ℕ) → Wordless (map (λ index. Act.Send head.sender to (datagram head index bytes) (Ok tt)) indices)
datagrams_said head to bytes [] = none_said
datagrams_said head to bytes (index ∷ indices) =
    let ih = datagrams_said head to bytes indices in
    record { steps = (let e = ih.steps in omega (e, arith)); dropped = (let e = ih.dropped in omega (e, arith)); prints = ih.prints; appends = ih.appends }

unsent_said : Wordless (Act.Unsent ∷ [])
unsent_said = record { steps = refl; dropped = refl; prints = refl; appends = λ b. refl }

said_to : (site : Site) (x : Envelope) (to : Option Address) → Wordless (message_sent_to site x to).acts
said_to site x None = unsent_said
said_to site x (Some to) = by_length (nat_lt message_limit (message_length x))
  where
    by_length : (long : Bool) → Wordless (cond long (doing (Act.Unsent ∷ []) site) (doing (datagrams_sent (next_head site) to (message_bytes x)) (record site { sent = site.sent + 1 }))).acts
    by_length true = unsent_said
    by_length false = datagrams_said (next_head site) to (message_bytes x) (range_with_len 0 (count (length (message_bytes x))))

pub messages_said : (config : Config) (site : Site) (xs : List Envelope) → Wordless (envelopes_sent config site xs).acts
messages_said config site [] = none_said
messages_said config site (x ∷ xs) =
    said_more (message_sent config site x).acts (envelopes_sent config (message_sent config site x).site xs).acts (said_to site x (address_to config x.to)) (messages_said config (message_sent config site x).site xs)

one_answer : (x : Act) → (steps_by (but_answer x) ≡ steps_by x) × (dropped_by (but_answer x) ≡ dropped_by x) × (printed_by (but_answer x) ≡ printed_by x)
one_answer (Act.Bind at address) = (refl, refl, refl)
one_answer (Act.Receive at gave) = (refl, refl, refl)
one_answer (Act.Append centre facts) = (refl, refl, refl)
one_answer (Act.Send from to bytes answer) = (refl, refl, refl)
one_answer (Act.Print line) = (refl, refl, refl)
one_answer Act.Stepped = (refl, refl, refl)
one_answer Act.Dropped = (refl, refl, refl)
one_answer Act.Unsent = (refl, refl, refl)

pub steps_answers : (xs : List Act) → steps_in (but_answers xs) ≡ steps_in xs
steps_answers [] = refl
steps_answers (x ∷ xs) = let one = (one_answer x).0 in let ih = steps_answers xs in omega (one, ih, arith)

pub dropped_answers : (xs : List Act) → dropped_in (but_answers xs) ≡ dropped_in xs
dropped_answers [] = refl
dropped_answers (x ∷ xs) = let one = (one_answer x).1 in let ih = dropped_answers xs in omega (one, ih, arith)

pub printed_answers : (xs : List Act) → printed (but_answers xs) ≡ printed xs
printed_answers [] = refl
printed_answers (x ∷ xs) = ap (λ (bytes : List ℕ). bytes ++ printed (but_answers xs)) (one_answer x).2 ∙ ap (λ (bytes : List ℕ). printed_by x ++ bytes) (printed_answers xs)

front_none : {A : Type 0} (xs ys : List A) → xs ++ ys ≡ [] → xs ≡ []
front_none [] ys e = refl
front_none (x ∷ xs) ys e = absurd (cc)

-- what was done of them
said_done : (acts rest expected : List Act) → but_answers acts ++ rest ≡ expected → Wordless expected → Wordless acts
said_done acts rest expected are said = record {
  steps = (let e = steps_append (but_answers acts) rest in let a = ap steps_in are in let b = said.steps in let c = steps_answers acts in omega (e, a, b, c, arith));
  dropped = (let e = dropped_append (but_answers acts) rest in let a = ap dropped_in are in let b = said.dropped in let c = dropped_answers acts in omega (e, a, b, c, arith));
  prints = sym (printed_answers acts) ∙ front_none (printed (but_answers acts)) (printed rest) (sym (printed_append (but_answers acts) rest) ∙ (ap printed are ∙ said.prints));
  appends = λ b. sym (appended_answers b acts) ∙ front_none (facts_appended b (but_answers acts)) (facts_appended b rest) (sym (appended_append b (but_answers acts) rest) ∙ (ap (facts_appended b) are ∙ said.appends b));
}

counted_told : (n m : ℕ) → n ≡ count_limited m → count_limited n ≡ count_limited m
counted_told n m e = omega (e, arith)

-- ---- parts of what a centre does

module _ {D L O : Type 0} (w : Outside D L O) where
  module _ (cluster : Cluster) (config : Config) (disks : D) (held : TheSite) (site : Site) (link new_link : L) (out : O) (sender : Sender) (xs : List Envelope) where
    abbrev before : SiteOutside D L O
    before = place disks held link out

    abbrev after : SiteOutside D L O
    after = place disks (record held { sender = sender }) new_link out

    passes_sent : (rest : List Act) → Sends w.calls w.lost w.faults (envelopes_sent config site xs).acts rest link new_link held.sender.lost sender.lost → Passes w (seen before) (seen after)
    passes_sent rest sent = record {
      told = λ p. refl;
      faults = λ p. omega arith;
      sends = sent.later;
      receives = (let e = sent.receives in omega (e, arith));
      writes = omega arith;
    }

    leaves_sent : (rest : List Act) (sent : Sends w.calls w.lost w.faults (envelopes_sent config site xs).acts rest link new_link held.sender.lost sender.lost) → Leaves w sent.acts [] [] (seen before) (seen after)
    leaves_sent rest sent =
        let said = said_done sent.acts rest (envelopes_sent config site xs).acts sent.are (messages_said config site xs) in
        record {
          link = subst (λ (cs : List LinkCall). Records cs (w.calls link) (w.calls new_link)) (sym (append-nil (calls_of sent.acts))) sent.recorded;
          output = rw said.prints (none_written (w.held out));
          failed_sends = sent.rose;
          steps = rw said.steps (none_added held.steps);
          dropped = rw said.dropped (none_added held.dropped);
          lost_told = counted_told sender.lost (held.sender.lost + lost_in sent.acts) sent.told;
        }

    pub sent_goes : HoldsSite w cluster disks held site → SendsAll w.calls w.lost w.faults config site xs link new_link held.sender sender
        → Finishes w cluster site (envelopes_sent config site xs) before after
    sent_goes stands all = record {
      did = record {
        acts = all.sent.acts;
        are = sym (append-nil (but_answers all.sent.acts)) ∙ all.sent.are;
        left = leaves_sent [] all.sent;
        passes = passes_sent [] all.sent;
      };
      others = others_none w site.centre disks;
      stands = record {
        itself = site_sent cluster held site (envelopes_sent config site xs).site sender (messages_only config site xs) stands.itself all.next;
        log = rw ((messages_only config site xs).centre, (messages_only config site xs).logged) stands.log;
      };
    }

    pub sent_stops : (fault : ServeFault) → (told : IsTrue (w.disk disks site.centre).told → MayHaveFacts w.disk w.may_leave disks site.centre site.logged [])
        → SendsSome w.calls w.lost w.faults config site xs fault link new_link held.sender sender
        → Stops w site (envelopes_sent config site xs) fault before after
    sent_stops fault left some = subst (λ (f : ServeFault). Stops w site (envelopes_sent config site xs) f before after) (sym some.serial) (record {
      broke = record {
        acts = some.sent.acts;
        rest = some.rest;
        are = some.sent.are;
        comes = some.comes;
        printed_more = 0;
        left = leaves_sent some.rest some.sent;
        passes = passes_sent some.rest some.sent;
        cause = tt;
        full = tt;
        logs = λ told.
            let none = (said_done some.sent.acts some.rest (envelopes_sent config site xs).acts some.sent.are (messages_said config site xs)).appends site.centre in
            rw none (left told);
      };
      others = others_none w site.centre disks;
      serials = some.past;
      no_boot = tt;
    })
