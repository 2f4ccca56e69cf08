-- What a centre notes beside what it does.
use Rattle.std.proofs.Common.{◌≡◌, ℕ, ◌++◌, Option, Some, None, Bool, refl, sym, ◌∙◌, ap, subst}
use Rattle.std.specs.Prelude.{IfSome}
use Rattle.mdcc_base.specs.declared.identifiers.TxId.{TxId}
use Rattle.mdcc_base.specs.declared.key.Key.{Key}
use Rattle.mdcc_def_messages.specs.declared.messages.ClientAnswer.{ClientAnswer}
use Rattle.mdcc_def_messages.specs.declared.messages.Envelope.{Envelope}
use Rattle.mdcc_option.specs.declared.cluster.Cluster.{Cluster}
use Rattle.mdcc_option.specs.declared.faults.BeginFault.{BeginFault}
use Rattle.mdcc_def_rules.specs.Steps.{NodeStep}
use Rattle.mdcc_def_rules.specs.declared.node.Answer.{Answer}
use Rattle.mdcc_def_server_runs.specs.Clients.{Clients, known_of}
use Rattle.mdcc_def_server_runs.specs.Runs.{listed}
use Rattle.mdcc_def_server_runs.specs.Sending.{answer_to}
use Rattle.mdcc_def_server_runs.specs.Sites.{Site}
use Rattle.mdcc_def_server_runs.specs.Steps.{begin_noted, begin_told, end_told, ends_told, reading_told}
use Rattle.mdcc_def_server_runs.specs.declared.clients.Begun.{Begun}
use Rattle.mdcc_serve_site.proofs.Becoming.{each_append, each_listed}
use Rattle.mdcc_serve_site.specs.PendingBytes.{pending_bytes}
use Rattle.mdcc_serve_site.specs.SiteState.{CanBeSent, HasStepped, begun_in, refused_fault, refused_key}
use Rattle.mdcc_serve_site.specs.declared.site.Site.{Site as TheSite}

-- the sites differ in their clients alone
pub record OnlyClients (site noted : Site) : Type 0 where
  pub centre : noted.centre ≡ site.centre
  pub node : noted.node ≡ site.node
  pub sent : noted.sent ≡ site.sent
  pub own : noted.own ≡ site.own
  pub asked : noted.asked ≡ site.asked
  pub logged : noted.logged ≡ site.logged
  pub pending : noted.pending ≡ site.pending

pub noted_only : (site : Site) (serial : ℕ) (answer : Option Answer) → OnlyClients site (begin_noted site serial answer)
noted_only site serial None = record { centre = refl; node = refl; sent = refl; own = refl; asked = refl; logged = refl; pending = refl }
noted_only site serial (Some (Answer.Begun tx)) = record { centre = refl; node = refl; sent = refl; own = refl; asked = refl; logged = refl; pending = refl }
noted_only site serial (Some (Answer.Refused key fault)) = record { centre = refl; node = refl; sent = refl; own = refl; asked = refl; logged = refl; pending = refl }
noted_only site serial (Some (Answer.Read reading)) = record { centre = refl; node = refl; sent = refl; own = refl; asked = refl; logged = refl; pending = refl }

-- it makes the same step there
pub stepped_noted : (cluster : Cluster) (held new : TheSite) (site noted : Site) (made : NodeStep) → OnlyClients site noted → new ≡ record held { clients = new.clients } → new.clients ≡ noted.clients
    → HasStepped cluster held site made → HasStepped cluster new noted made
stepped_noted cluster held new site noted made only same clients st = subst (λ (h : TheSite). HasStepped cluster h noted made) (sym same) (record {
  node = rw (only.centre, only.node) st.node;
  kept = rw (only.centre, only.node) st.kept;
  centre = st.centre ∙ sym only.centre;
  sender = record {
    centre = st.sender.centre ∙ sym only.centre;
    epoch = rw only.node st.sender.epoch;
    sent = st.sender.sent ∙ sym only.sent;
  };
  clients = clients;
  own = st.own ∙ sym only.own;
  asked = st.asked ∙ sym only.asked;
  waits = record {
    pending = st.waits.pending ∙ ap pending_bytes (sym only.pending);
    all = rw (only.node, only.logged, only.pending) st.waits.all;
    facts = rw only.pending st.waits.facts;
    envelopes = rw only.pending st.waits.envelopes;
  };
  fact = st.fact;
  sends = st.sends;
})

-- and so it does where the client is told something beside
pub stepped_told : (cluster : Cluster) (held new : TheSite) (site : Site) (made : NodeStep) (clients : Clients) (told : Option Envelope)
    → new ≡ record held { clients = new.clients; pending = new.pending } → new.clients ≡ clients → new.pending ≡ pending_bytes (record site.pending { envelopes = site.pending.envelopes ++ listed told }) → IfSome told CanBeSent
    → HasStepped cluster held site made → HasStepped cluster new (record site { clients = clients; pending = record site.pending { envelopes = site.pending.envelopes ++ listed told } }) made
stepped_told cluster held new site made clients told same noted waits can st =
    subst (λ (h : TheSite). HasStepped cluster h (record site { clients = clients; pending = record site.pending { envelopes = site.pending.envelopes ++ listed told } }) made) (sym same) (record {
      node = st.node;
      kept = st.kept;
      centre = st.centre;
      sender = record { centre = st.sender.centre; epoch = st.sender.epoch; sent = st.sender.sent };
      clients = noted;
      own = st.own;
      asked = st.asked;
      waits = record {
        pending = waits;
        all = st.waits.all;
        facts = st.waits.facts;
        envelopes = each_append CanBeSent site.pending.envelopes (listed told) st.waits.envelopes (each_listed CanBeSent told can);
      };
      fact = st.fact;
      sends = st.sends;
    })

-- the client is told how a transaction ended that was begun for it
pub told_end : (site : Site) (heard : Option (TxId × Bool)) (tx : TxId) (is_commit : Bool) (begun : Begun) → heard ≡ Some (tx, is_commit) → known_of site.clients tx ≡ Some begun
    → ends_told site heard ≡ Some (answer_to site.centre begun.serial (ClientAnswer.Heard tx is_commit))
told_end site heard tx is_commit begun is known = ap (ends_told site) is ∙ ap (end_told site.centre tx is_commit) known

-- ---- what the client is told can be sent

end_can : (centre : ℕ) (tx : TxId) (is_commit : Bool) (known : Option Begun) → IfSome (end_told centre tx is_commit known) CanBeSent
end_can centre tx is_commit None = tt
end_can centre tx is_commit (Some begun) = tt

pub ends_can : (site : Site) (heard : Option (TxId × Bool)) → IfSome (ends_told site heard) CanBeSent
ends_can site None = tt
ends_can site (Some (tx, is_commit)) = end_can site.centre tx is_commit (known_of site.clients tx)

pub reading_can : (centre serial : ℕ) (key : Key) (answer : Option Answer) → IfSome (reading_told centre serial key answer) CanBeSent
reading_can centre serial key None = tt
reading_can centre serial key (Some (Answer.Read reading)) = tt
reading_can centre serial key (Some (Answer.Begun tx)) = tt
reading_can centre serial key (Some (Answer.Refused other fault)) = tt

pub begin_can : (centre serial : ℕ) (answer : Option Answer) → IfSome (begin_told centre serial answer) CanBeSent
begin_can centre serial None = tt
begin_can centre serial (Some (Answer.Read reading)) = tt
begin_can centre serial (Some (Answer.Begun tx)) = tt
begin_can centre serial (Some (Answer.Refused key fault)) = tt

-- ---- what the client is told of a begin

pub told_begun : (centre serial : ℕ) (o : Option Answer) (tx : TxId) → begun_in o ≡ Some tx → begin_told centre serial o ≡ Some (answer_to centre serial (ClientAnswer.Begun tx))
told_begun centre serial None tx e = absurd (cc)
told_begun centre serial (Some (Answer.Begun other)) tx e = let same : other ≡ tx = cc in ap (λ (t : TxId). Some (answer_to centre serial (ClientAnswer.Begun t))) same
told_begun centre serial (Some (Answer.Refused key fault)) tx e = absurd (cc)
told_begun centre serial (Some (Answer.Read reading)) tx e = absurd (cc)

pub told_refused : (centre serial : ℕ) (o : Option Answer) (key : Key) (fault : BeginFault) → refused_key o ≡ Some key → refused_fault o ≡ Some fault → begin_told centre serial o ≡ Some (answer_to centre serial (ClientAnswer.Refused key fault))
told_refused centre serial None key fault e f = absurd (cc)
told_refused centre serial (Some (Answer.Begun tx)) key fault e f = absurd (cc)
told_refused centre serial (Some (Answer.Refused other why)) key fault e f =
    let same : other ≡ key = cc in
    let also : why ≡ fault = cc in
    ap (λ (k : Key). Some (answer_to centre serial (ClientAnswer.Refused k why))) same ∙ ap (λ (w : BeginFault). Some (answer_to centre serial (ClientAnswer.Refused key w))) also
told_refused centre serial (Some (Answer.Read reading)) key fault e f = absurd (cc)

pub told_keyless : (centre serial : ℕ) (o : Option Answer) → begun_in o ≡ None → refused_key o ≡ None → begin_told centre serial o ≡ None
told_keyless centre serial None e f = refl
told_keyless centre serial (Some (Answer.Begun tx)) e f = absurd (cc)
told_keyless centre serial (Some (Answer.Refused key fault)) e f = absurd (cc)
told_keyless centre serial (Some (Answer.Read reading)) e f = refl

pub told_faultless : (centre serial : ℕ) (o : Option Answer) → begun_in o ≡ None → refused_fault o ≡ None → begin_told centre serial o ≡ None
told_faultless centre serial None e f = refl
told_faultless centre serial (Some (Answer.Begun tx)) e f = absurd (cc)
told_faultless centre serial (Some (Answer.Refused key fault)) e f = absurd (cc)
told_faultless centre serial (Some (Answer.Read reading)) e f = refl
