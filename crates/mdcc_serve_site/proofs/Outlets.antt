-- Why a centre does not send or print, and what it prints in order.
use Rattle.std.proofs.Common.{◌≡◌, ◌⊎◌, ℕ, ◌≤◌, List, [], ◌∷◌, ◌++◌, Bool, Option, Err, refl, sym, ◌∙◌, ap, map, subst, inl, inr, append-nil, take, length, arith}
use Rattle.std.proofs.lemmas.List.{map-append}
use Rattle.std.specs.Io.KnownBytes.{Appends}
use Rattle.std.specs.Prelude.{IsErrOf}
use Rattle.mdcc_base.specs.Causes.{Rose}
use Rattle.mdcc_base.specs.declared.identifiers.TxId.{TxId}
use Rattle.mdcc_config.specs.declared.config.Config.{Config}
use Rattle.mdcc_link.specs.Link.{LinkCall}
use Rattle.mdcc_def_messages.specs.declared.messages.Envelope.{Envelope}
use Rattle.mdcc_serve_outbox.proofs.Bytes.{all_same}
use Rattle.mdcc_serve_outbox.proofs.Handed.{rose_before}
use Rattle.mdcc_serve_outbox.specs.Outgoing.{all_sent, outgoing}
use Rattle.mdcc_serve_outbox.specs.Sends.{IsPast, IsSenderOf, IsSending, Sends}
use Rattle.mdcc_serve_outbox.specs.declared.fault.PrintFault.{PrintFault}
use Rattle.mdcc_serve_outbox.specs.declared.outgoing.Outgoing.{Outgoing}
use Rattle.mdcc_serve_outbox.specs.declared.sending.Sender.{Sender}
use Rattle.mdcc_def_server_runs.specs.Acts.{Act, printed}
use Rattle.mdcc_def_server_runs.specs.Lines.{server_line_text}
use Rattle.mdcc_def_server_runs.specs.Sending.{envelopes_sent, heard_printed}
use Rattle.mdcc_def_server_runs.specs.Sites.{Doing, Site}
use Rattle.mdcc_def_server_runs.specs.declared.lines.ServerLine.{ServerLine}
use Rattle.mdcc_serve_site.proofs.Joined.{none_written, printed_append, written_joined}
use Rattle.mdcc_serve_site.specs.Causes.{IsPrinting, of_print, text_begun}
use Rattle.mdcc_serve_site.specs.Printing.{PrintsFront}
use Rattle.mdcc_serve_site.specs.SiteState.{PrintsAll, PrintsSome, SendsAll, SendsSome}
use Rattle.mdcc_serve_site.specs.declared.fault.ServeFault.{ServeFault}

module _ {L : Type 0} (calls : L → Option (List LinkCall)) (lost faults : L → ℕ) (config : Config) (site : Site) (messages : List Outgoing) (xs : List Envelope) (are : messages ≡ map outgoing xs) where
  same_sent : all_sent config site messages ≡ envelopes_sent config site xs
  same_sent = ap (all_sent config site) are ∙ all_same config site xs

  -- sending the bytes of messages sends the messages
  pub sends_all : (old new : L) (before after : Sender) → Sends calls lost faults (all_sent config site messages).acts [] old new before.lost after.lost → IsSenderOf after (all_sent config site messages).site
      → SendsAll calls lost faults config site xs old new before after
  sends_all old new before after sent next = record {
    sent = subst (λ (d : Doing). Sends calls lost faults d.acts [] old new before.lost after.lost) same_sent sent;
    next = subst (λ (d : Doing). IsSenderOf after d.site) same_sent next;
  }

  pub sends_some : (fault : ServeFault) (old new : L) (before after : Sender) → fault ≡ ServeFault.Serial
      → (rest : List Act) × IsSending rest × Sends calls lost faults (all_sent config site messages).acts rest old new before.lost after.lost → IsPast (all_sent config site messages).site
      → SendsSome calls lost faults config site xs fault old new before after
  sends_some fault old new before after is some past = record {
    rest = some.0;
    sent = subst (λ (d : Doing). Sends calls lost faults d.acts some.0 old new before.lost after.lost) same_sent some.2;
    serial = is;
    comes = some.1;
    past = subst (λ (d : Doing). IsPast d.site) same_sent past;
  }

-- the text of a line, whatever comes behind it
text_there : (fault : ServeFault) (line : ServerLine) (rest : List Act) → text_begun fault (Act.Print line ∷ []) ≡ text_begun fault (Act.Print line ∷ rest)
text_there (ServeFault.Disk a) line rest = refl
text_there (ServeFault.Log a fault) line rest = refl
text_there (ServeFault.Boot a fault) line rest = refl
text_there ServeFault.Link line rest = refl
text_there ServeFault.Output line rest = refl
text_there ServeFault.Serial line rest = refl
text_there ServeFault.Memory line rest = refl

module _ {O : Type 0} (held : O → Option (List ℕ)) (faults : O → ℕ) where
  pub prints_all : (line : ServerLine) (old new : O) → Appends (held old) (held new) (server_line_text line) → faults old ≤ faults new → PrintsAll held faults (Act.Print line ∷ []) old new
  prints_all line old new prints later = record { printed_all = rw (append-nil (server_line_text line)) prints; later = later }

  by_fault : (line : ServerLine) (fault : PrintFault) (old new : O)
      → (IsErrOf {T = Unit {0}} (Err fault) PrintFault.Output → (n : ℕ) × (n ≤ length (server_line_text line)) × Appends (held old) (held new) (take n (server_line_text line)))
      → (IsErrOf {T = Unit {0}} (Err fault) PrintFault.Output → Rose (faults old) (faults new)) → (IsErrOf {T = Unit {0}} (Err fault) PrintFault.Memory → new ≡ old) → faults old ≤ faults new
      → PrintsSome held faults (Act.Print line ∷ []) (of_print fault) old new
  by_fault line PrintFault.Output old new front cause memory later =
      let it = front refl in record { comes = inr (refl, tt, cause refl); more = it.0; front = it.2; later = later }
  by_fault line PrintFault.Memory old new front cause memory later =
      record { comes = inl (refl, memory refl); more = 0; front = rw (memory refl) (none_written (held old)); later = later }

  pub prints_some : (line : ServerLine) (fault : PrintFault) (result : ServeFault) (old new : O) → result ≡ of_print fault
      → (IsErrOf {T = Unit {0}} (Err fault) PrintFault.Output → (n : ℕ) × (n ≤ length (server_line_text line)) × Appends (held old) (held new) (take n (server_line_text line)))
      → (IsErrOf {T = Unit {0}} (Err fault) PrintFault.Output → Rose (faults old) (faults new)) → (IsErrOf {T = Unit {0}} (Err fault) PrintFault.Memory → new ≡ old) → faults old ≤ faults new
      → PrintsSome held faults (Act.Print line ∷ []) result old new
  prints_some line fault result old new is front cause memory later =
      subst (λ (f : ServeFault). PrintsSome held faults (Act.Print line ∷ []) f old new) (sym is) (by_fault line fault old new front cause memory later)

  -- ---- lines one after another

  pub prints_then : (first second : List Act) (old mid new : O) → PrintsAll held faults first old mid → PrintsAll held faults second mid new → PrintsAll held faults (first ++ second) old new
  prints_then first second old mid new one two = record {
    printed_all = rw (printed_append first second) (written_joined (printed first) (printed second) (held old) (held mid) (held new) one.printed_all two.printed_all);
    later = (let a = one.later in let b = two.later in omega (a, b, arith));
  }

  pub prints_front : (done rest all : List Act) (line : ServerLine) (fault : ServeFault) (old mid new : O) → done ++ Act.Print line ∷ rest ≡ all
      → PrintsAll held faults done old mid → PrintsSome held faults (Act.Print line ∷ []) fault mid new → PrintsFront held faults all fault old new
  prints_front done rest all line fault old mid new are one two = record {
    done = done;
    rest = Act.Print line ∷ rest;
    are = are;
    comes = by_cause two.comes;
    more = two.more;
    front = written_joined (printed done) (take two.more (text_begun fault (Act.Print line ∷ rest))) (held old) (held mid) (held new) one.printed_all
        (subst (λ (text : List ℕ). Appends (held mid) (held new) (take two.more text)) (text_there fault line rest) two.front);
    later = (let a = one.later in let b = two.later in omega (a, b, arith));
  }
    where
      by_cause : ((fault ≡ ServeFault.Memory) × (new ≡ mid)) ⊎ ((fault ≡ ServeFault.Output) × IsPrinting (Act.Print line ∷ []) × Rose (faults mid) (faults new))
          → (fault ≡ ServeFault.Memory) ⊎ ((fault ≡ ServeFault.Output) × IsPrinting (Act.Print line ∷ rest) × Rose (faults old) (faults new))
      by_cause (inl is) = inl is.0
      by_cause (inr is) = inr (is.0, tt, rose_before (faults old) (faults mid) (faults new) one.later is.2)

-- ---- the lines of outcomes

pub heard_append : (centre : ℕ) (xs ys : List (TxId × Bool)) → heard_printed centre (xs ++ ys) ≡ heard_printed centre xs ++ heard_printed centre ys
heard_append centre xs ys = map-append (λ (h : TxId × Bool). Act.Print (ServerLine.Heard centre h.0 h.1)) xs ys
