-- What holds of every state of an execution, and that it lasts where other centres go on.
use Rattle.std.proofs.Common.{List, Some, length, [], ap, false, inl, inr, refl, subst, sym, true, ℕ, ◌+◌, ◌++◌, ◌-◌, ◌<◌, ◌==◌, ◌^◌, ◌∙◌, ◌∷◌, ◌≡◌, ◌≤◌, ◌⊎◌}
use Rattle.std.specs.List.{AllByRecursion}
use Rattle.std.specs.Prelude.{⊤}
use Rattle.std.proofs.lemmas.Bool.{cases_Bool, eqb-false}
use Rattle.mdcc_config.specs.declared.config.Config.{Config}
use Rattle.mdcc_theorem_datagrams.specs.Laws.{table_after}
use Rattle.mdcc_def_ledger.specs.BootTest.{are_allowed_facts}
use Rattle.mdcc_def_ledger.specs.Ledger.{Added, Entry, Valued, facts_of}
use Rattle.mdcc_def_messages.specs.WellFormed.{IsWellFormedFact}
use Rattle.mdcc_def_messages.specs.declared.facts.Fact.{Fact}
use Rattle.mdcc_def_messages.specs.declared.messages.Envelope.{Envelope}
use Rattle.mdcc_option.specs.declared.cluster.Cluster.{Cluster}
use Rattle.mdcc_def_protocol.specs.Belongs.{is_centre}
use Rattle.mdcc_def_protocol.specs.Facts.{epoch_of}
use Rattle.mdcc_def_protocol.specs.Volatile.{Volatile}
use Rattle.mdcc_def_rules.specs.Boot.{next_boot}
use Rattle.mdcc_def_rules.specs.declared.node.Input.{Input}
use Rattle.mdcc_theorem_server_runs.specs.Brought.{HoldsBytes}
use Rattle.mdcc_theorem_server_runs.specs.Told.{steps_made}
use Rattle.mdcc_def_server_runs.specs.Runs.{run_of_inputs}
use Rattle.mdcc_theorem_trace_limits.proofs.Small.{opened_in}
use Rattle.mdcc_def_server_runs.specs.Acts.{Act, appended_by}
use Rattle.mdcc_def_server_runs.specs.Sending.{envelopes_sent, facts_logged, heard_printed, persist_then_send, persisted}
use Rattle.mdcc_def_server_runs.specs.Servers.{Log, boot_line, endpoints_of, site_of}
use Rattle.mdcc_def_server_runs.specs.Sites.{Site}
use Rattle.mdcc_def_server_runs.specs.declared.lines.ServerLine.{ServerLine}
use Rattle.mdcc_theorem_node_steps.specs.Inputs.{IsWellFormedInput}
use Rattle.mdcc_theorem_node_steps.specs.NodeInvariant.{IsNode}
use Rattle.mdcc_theorem_trace_states.specs.Invariant.{IsOf}
use Rattle.mdcc_theorem_trace_states.specs.Sound.{IsSound}
use Rattle.mdcc_theorem_trace_states.specs.Words.{Each, In}
use Rattle.mdcc_theorem_trace_states.proofs.Kept.{true-more}
use Rattle.mdcc_theorem_trace_states.proofs.Lists.{Each-append, Each-like}
use Rattle.mdcc_theorem_clusters.proofs.Answered.{answered-later, answers-later}
use Rattle.mdcc_theorem_commit_groups.proofs.Durable.{heard-more}
use Rattle.mdcc_theorem_commit_groups.proofs.Lasts.{last}
use Rattle.mdcc_theorem_clusters.proofs.Names.{AreKnown, IsOldName}
use Rattle.mdcc_theorem_clusters.proofs.Paid.{IsPaid, IsPaidFor, paid-later, paid-others}
use Rattle.mdcc_theorem_clusters.proofs.Receiving.{IsLater, ReceivedBy, acts_onto, all-like, onto-later, same-later}
use Rattle.mdcc_theorem_clusters.specs.Answers.{AnswersAt}
use Rattle.mdcc_theorem_clusters.specs.Asked.{AreAskedFor, WasReceived}
use Rattle.mdcc_theorem_clusters.specs.Clusters.{Deployment, Process, log_of}
use Rattle.mdcc_theorem_commit_groups.specs.Groups.{IsGroup, IsHeardIn, IsSoundLedger, facts_added_in, node_at}
use Rattle.mdcc_theorem_clusters.specs.Mail.{AreMail, IsPieceIn, Mail}
use Rattle.mdcc_theorem_clusters.specs.Pending.{IsToldTrue, PendsAt}
use Rattle.mdcc_theorem_clusters.specs.Posted.{posted}

-- ---- acts

-- a piece of a message of this centre that is told
pub record RightPiece (config : Config) (G : ℕ → List ℕ → Type 0) (es : List Entry) (mail : List Mail) (a : ℕ) (bytes : List ℕ) : Type 0 where
  pub piece : IsPieceIn mail bytes
  pub sender : piece.one.0.sender ≡ a
  pub told : IsToldTrue config G es a piece.one.0.epoch piece.one.1

abbrev pub IsRight : Config → (ℕ → List ℕ → Type 0) → List Entry → List Mail → ℕ → Act → Type 0
IsRight config G es mail a (Act.Send from to bytes answer) = RightPiece config G es mail a bytes
IsRight config G es mail a (Act.Print (ServerLine.Heard centre tx is_commit)) = (centre ≡ a) × IsHeardIn es a (tx, is_commit)
IsRight config G es mail a act = ⊤

abbrev pub IsRightDone : Config → (ℕ → List ℕ → Type 0) → List Entry → List Mail → ℕ × Act → Type 0
IsRightDone config G es mail one = IsRight config G es mail one.0 one.1

-- an act that appends nothing
pub record IsQuiet (config : Config) (G : ℕ → List ℕ → Type 0) (es : List Entry) (mail : List Mail) (a : ℕ) (act : Act) : Type 0 where
  pub right : IsRight config G es mail a act
  pub none : appended_by a act ≡ []

-- ---- messages under heads

-- of this epoch of this centre only serials up to this one
abbrev pub IsBefore : ℕ → ℕ → ℕ → Mail → Type 0
IsBefore a epoch sent one = one.0.sender ≡ a → one.0.epoch ≡ epoch → one.0.serial ≤ sent

abbrev pub HasCome : List Entry → Mail → Type 0
HasCome es one = one.0.epoch ≤ epoch_of (facts_of es one.0.sender)

pub record MailStands (es : List Entry) (mail : List Mail) : Type 0 where
  pub are : AreMail mail
  pub come : Each (HasCome es) mail

-- ---- processes

pub record IsLogged (cluster : Cluster) (facts : List Fact) : Type 0 where
  pub allowed : are_allowed_facts cluster facts ≡ true
  pub formed : AllByRecursion IsWellFormedFact facts

-- a centre between its turns' inputs: a group, what is pending of it, and that all is well-formed
pub record IsServed (config : Config) (G : ℕ → List ℕ → Type 0) (es : List Entry) (a : ℕ) (volatile : Volatile) (inputs : List Input) (site : Site) : Type 0 where
  pub group : IsGroup IsSound config.cluster es a volatile inputs
  pub pends : PendsAt config.cluster a (node_at es a volatile) inputs site
  pub answers : AnswersAt config G es a (node_at es a volatile) inputs site
  pub node : IsNode config.cluster a (facts_of es a) volatile
  pub formed : Each IsWellFormedInput inputs
  pub opened : opened_in volatile ≤ 256

-- how many steps the group is
abbrev pub steps_of : Cluster → List Entry → ℕ → Volatile → List Input → ℕ
steps_of cluster es a volatile inputs = length (steps_made (run_of_inputs cluster a (node_at es a volatile) inputs))

-- nothing is left to append in its turn, and what it took is shown
pub record IsOpen (config : Config) (done : List (ℕ × Act)) (es : List Entry) (mail : List Mail) (a : ℕ) (p : Process) : Type 0 where
  pub volatile : Volatile
  pub inputs : List Input
  pub served : IsServed config (ReceivedBy a p.left done) es a volatile inputs p.site_then
  pub paid : IsPaid es a done (acts_onto a p.left done) (steps_of config.cluster es a volatile inputs)
  pub quiet : Each (IsQuiet config (WasReceived done) es mail a) p.left

-- what goes out after the facts
abbrev pub out_of : Config → Site → List Act
out_of config site = (envelopes_sent config (persisted site) site.pending.envelopes).acts ++ heard_printed site.centre site.pending.heard

-- These acts are left before its group is durable, or let out where it has no facts.
pub record IsClosing (config : Config) (done : List (ℕ × Act)) (es : List Entry) (mail : List Mail) (a : ℕ) (p : Process) : Type 0 where
  pub volatile : Volatile
  pub inputs : List Input
  pub before : Site
  pub first : List Act
  pub served : IsServed config (ReceivedBy a first done) es a volatile inputs before
  pub paid : IsPaid es a done (acts_onto a first done) (steps_of config.cluster es a volatile inputs)
  pub acts_are : p.left ≡ first ++ (facts_logged a before.pending.facts ++ out_of config before)
  pub some : 0 < length first + length before.pending.facts
  pub inward : Each (IsQuiet config (WasReceived done) es mail a) first
  pub site_is : p.site_then ≡ (persist_then_send config before).site
  pub posted_in : (one : Mail) → In one (posted config (persisted before) before.pending.envelopes) → In one mail

-- its boot over these facts is to be appended yet
abbrev pub log_with : ℕ → List Fact → Log
log_with a facts = record { centre = a; facts = facts }

pub record IsBooting (config : Config) (a : ℕ) (p : Process) (facts : List Fact) : Type 0 where
  pub acts_are : p.left ≡ Act.Append a (next_boot facts ∷ []) ∷ (endpoints_of config (site_of (log_with a facts)) ++ boot_line (site_of (log_with a facts)))
  pub site_is : p.site_then ≡ site_of (log_with a facts)
  pub below : epoch_of facts < 2 ^ 32 - 1

-- what came at its endpoints in this life, and under which serials it has sent
pub record IsLive (config : Config) (G : ℕ → List ℕ → Type 0) (mail : List Mail) (a : ℕ) (site : Site) : Type 0 where
  pub centre : is_centre config.cluster a ≡ true
  pub came : List (List ℕ)
  pub own_is : site.own ≡ table_after came []
  pub pieces : AllByRecursion (IsPieceIn mail) came
  pub held : HoldsBytes site.own
  pub asked : HoldsBytes site.asked
  pub came_asked : List (List ℕ)
  pub asked_is : site.asked ≡ table_after came_asked []
  pub asked_given : AllByRecursion (G a) came_asked
  pub serials : Each (IsBefore a (epoch_of site.node.facts) site.sent) mail

pub record IsProcess (config : Config) (done : List (ℕ × Act)) (es : List Entry) (mail : List Mail) (a : ℕ) (p : Process) : Type 0 where
  pub live : IsLive config (ReceivedBy a p.left done) mail a p.site_then
  pub stage : IsBooting config a p (facts_of es a) ⊎ (IsOpen config done es mail a p ⊎ IsClosing config done es mail a p)

-- ---- states

pub record Stands (config : Config) (es : List Entry) (mail : List Mail) (state : Deployment) : Type 0 where
  pub sound : IsSoundLedger IsSound config.cluster es
  pub durable : facts_added_in es ≡ state.durable
  pub done : Each (IsRightDone config (WasReceived state.done) es mail) state.done
  pub mail_stands : MailStands es mail
  pub begun : AreAskedFor config state.done es
  pub known : (a : ℕ) (p : Process) → state.process a ≡ Some p → AreKnown begun.named a p.site_then
  pub old : Each (IsOldName es) begun.named
  pub paid : (a : ℕ) → IsPaidFor es a state.done
  pub logs : (a : ℕ) → IsLogged config.cluster (facts_of es a)
  pub processes : (a : ℕ) (p : Process) → state.process a ≡ Some p → IsProcess config state.done es mail a p

-- ---- what lasts

pub In-after : {A : Type 0} (x : A) (xs ys : List A) → In x ys → In x (xs ++ ys)
In-after x [] ys h = h
In-after x (z ∷ xs) ys h = inr (In-after x xs ys h)

pub piece-later : (more mail : List Mail) (bytes : List ℕ) → IsPieceIn mail bytes → IsPieceIn (more ++ mail) bytes
piece-later more mail bytes p = record { one = p.one; one_of = In-after p.one more mail p.one_of; index = p.index; within = p.within; is = p.is }

module _ (config : Config) (old done : List (ℕ × Act)) (later : IsLater old done) (new es : List Entry) (more mail : List Mail) where
  told-later : (a epoch : ℕ) (m : Envelope) → IsToldTrue config (WasReceived old) es a epoch m → IsToldTrue config (WasReceived done) (new ++ es) a epoch m
  told-later a epoch m h =
      elim h [
        | inl t ↦ inl (true-more config.cluster new es m t)
        | inr answer ↦ inr (answered-later config (WasReceived old) (WasReceived done) a (λ bytes r. later.received a bytes r) new es epoch m answer)
      ]

  line-later : (a : ℕ) (line : ServerLine) → IsRight config (WasReceived old) es mail a (Act.Print line) → IsRight config (WasReceived done) (new ++ es) (more ++ mail) a (Act.Print line)
  line-later a (ServerLine.Heard centre tx is_commit) h = (h.0, heard-more new es a (tx, is_commit) h.1)
  line-later a (ServerLine.Booted centre epoch) h = tt
  line-later a (ServerLine.Done turns steps dropped lost) h = tt

  pub right-later : (a : ℕ) (act : Act) → IsRight config (WasReceived old) es mail a act → IsRight config (WasReceived done) (new ++ es) (more ++ mail) a act
  right-later a (Act.Send from to bytes answer) h = record {
    piece = record { one = h.piece.one; one_of = In-after h.piece.one more mail h.piece.one_of; index = h.piece.index; within = h.piece.within; is = h.piece.is };
    sender = h.sender;
    told = told-later a h.piece.one.0.epoch h.piece.one.1 h.told;
  }
  right-later a (Act.Print line) h = line-later a line h
  right-later a (Act.Bind at address) h = tt
  right-later a (Act.Receive at gave) h = tt
  right-later a (Act.Append centre facts) h = tt
  right-later a Act.Stepped h = tt
  right-later a Act.Dropped h = tt
  right-later a Act.Unsent h = tt

  pub quiet-later : (a : ℕ) (acts : List Act) → Each (IsQuiet config (WasReceived old) es mail a) acts → Each (IsQuiet config (WasReceived done) (new ++ es) (more ++ mail) a) acts
  quiet-later a acts h =
      Each-like (IsQuiet config (WasReceived old) es mail a) (IsQuiet config (WasReceived done) (new ++ es) (more ++ mail) a) acts (λ act q. record { right = right-later a act q.right; none = q.none }) h

  pub done-later : (all : List (ℕ × Act)) → Each (IsRightDone config (WasReceived old) es mail) all → Each (IsRightDone config (WasReceived done) (new ++ es) (more ++ mail)) all
  done-later all h =
      Each-like (IsRightDone config (WasReceived old) es mail) (IsRightDone config (WasReceived done) (new ++ es) (more ++ mail)) all (λ one r. right-later one.0 one.1 r) h

-- ---- what was received

pub served-later : (config : Config) (G H : ℕ → List ℕ → Type 0) (es : List Entry) (a : ℕ) (volatile : Volatile) (inputs : List Input) (site : Site) → ((bytes : List ℕ) → G a bytes → H a bytes)
    → IsServed config G es a volatile inputs site → IsServed config H es a volatile inputs site
served-later config G H es a volatile inputs site f h = record {
  group = h.group;
  pends = h.pends;
  answers = answers-later config G H a f [] es (node_at es a volatile) inputs site h.answers;
  node = h.node;
  formed = h.formed;
  opened = h.opened;
}

pub live-later : (config : Config) (G H : ℕ → List ℕ → Type 0) (mail : List Mail) (a : ℕ) (site : Site) → ((bytes : List ℕ) → G a bytes → H a bytes) → IsLive config G mail a site → IsLive config H mail a site
live-later config G H mail a site f h = record {
  centre = h.centre;
  came = h.came;
  own_is = h.own_is;
  pieces = h.pieces;
  held = h.held;
  asked = h.asked;
  came_asked = h.came_asked;
  asked_is = h.asked_is;
  asked_given = all-like (G a) (H a) h.came_asked f h.asked_given;
  serials = h.serials;
}

module _ (config : Config) (old done : List (ℕ × Act)) (later : IsLater old done) (es : List Entry) (mail : List Mail) (b : ℕ) where
  seen : (acts : List Act) (bytes : List ℕ) → ReceivedBy b acts old b bytes → ReceivedBy b acts done b bytes
  seen acts bytes h = (onto-later b acts old done later).received b bytes h

  paid-then : (acts : List Act) (n : ℕ) → IsPaid es b old (acts_onto b acts old) n → IsPaid es b done (acts_onto b acts done) n
  paid-then acts n h = paid-later es b old done (acts_onto b acts old) (acts_onto b acts done) n later.total ((onto-later b acts old done later).steps b) h

  open-later : (p : Process) → IsOpen config old es mail b p → IsOpen config done es mail b p
  open-later p h = record {
    volatile = h.volatile;
    inputs = h.inputs;
    served = served-later config (ReceivedBy b p.left old) (ReceivedBy b p.left done) es b h.volatile h.inputs p.site_then (seen p.left) h.served;
    paid = paid-then p.left (steps_of config.cluster es b h.volatile h.inputs) h.paid;
    quiet = quiet-later config old done later [] es [] mail b p.left h.quiet;
  }

  closing-later : (p : Process) → IsClosing config old es mail b p → IsClosing config done es mail b p
  closing-later p h = record {
    volatile = h.volatile;
    inputs = h.inputs;
    before = h.before;
    first = h.first;
    served = served-later config (ReceivedBy b h.first old) (ReceivedBy b h.first done) es b h.volatile h.inputs h.before (seen h.first) h.served;
    paid = paid-then h.first (steps_of config.cluster es b h.volatile h.inputs) h.paid;
    acts_are = h.acts_are;
    some = h.some;
    inward = quiet-later config old done later [] es [] mail b h.first h.inward;
    site_is = h.site_is;
    posted_in = h.posted_in;
  }

  pub process-later : (p : Process) → IsProcess config old es mail b p → IsProcess config done es mail b p
  process-later p h = record {
    live = live-later config (ReceivedBy b p.left old) (ReceivedBy b p.left done) mail b p.site_then (seen p.left) h.live;
    stage = elim h.stage [
      | inl boot ↦ inl boot
      | inr more ↦ inr (elim more [ inl here ↦ inl (open-later p here) | inr here ↦ inr (closing-later p here) ])
    ];
  }

-- ---- other centres

pub facts-others : (new es : List Entry) (a b : ℕ) → (a == b) ≡ false → Each (IsOf a) new → facts_of (new ++ es) b ≡ facts_of es b
facts-others [] es a b h own = refl
facts-others (Added c f ∷ new) es a b h own =
    let n : (c == b) ≡ false = rw own.0 h in rw n (facts-others new es a b h own.1)
facts-others (Entry.Begun c t cs ∷ new) es a b h own = facts-others new es a b h own.1
facts-others (Valued c k v m os ∷ new) es a b h own = facts-others new es a b h own.1

pub log-facts : (es : List Entry) (a : ℕ) → log_of (facts_added_in es) a ≡ facts_of es a
log-facts [] a = refl
log-facts (Added c f ∷ es) a = elim (cases_Bool (c == a)) [ inl e ↦ rw e (ap (λ (fs : List Fact). f ∷ fs) (log-facts es a)) | inr e ↦ rw e (log-facts es a) ]
log-facts (Entry.Begun c t cs ∷ es) a = log-facts es a
log-facts (Valued c k v m os ∷ es) a = log-facts es a

module _ (config : Config) (old done : List (ℕ × Act)) (later : IsLater old done) (new es : List Entry) (more mail : List Mail) (a b : ℕ) (other : (a == b) ≡ false) (own : Each (IsOf a) new) (sound : IsSoundLedger IsSound config.cluster (new ++ es)) (senders : Each (λ (one : Mail). one.0.sender ≡ a) more) where
  same : facts_of es b ≡ facts_of (new ++ es) b
  same = sym (facts-others new es a b other own)

  served-others : (G : ℕ → List ℕ → Type 0) (volatile : Volatile) (inputs : List Input) (site : Site) → IsServed config G es b volatile inputs site → IsServed config G (new ++ es) b volatile inputs site
  served-others G volatile inputs site h = record {
    group = last IsSound config.cluster new es b a volatile inputs other own sound h.group;
    pends = subst (λ (fs : List Fact). PendsAt config.cluster b (record { facts = fs; volatile = volatile }) inputs site) same h.pends;
    answers = subst (λ (fs : List Fact). AnswersAt config G (new ++ es) b (record { facts = fs; volatile = volatile }) inputs site) same
        (answers-later config G G b (λ bytes r. r) new es (node_at es b volatile) inputs site h.answers);
    node = subst (λ (fs : List Fact). IsNode config.cluster b fs volatile) same h.node;
    formed = h.formed;
    opened = h.opened;
  }

  live-others : (G : ℕ → List ℕ → Type 0) (site : Site) → IsLive config G mail b site → IsLive config G (more ++ mail) b site
  live-others G site h = record {
    centre = h.centre;
    came = h.came;
    own_is = h.own_is;
    pieces = all-like (IsPieceIn mail) (IsPieceIn (more ++ mail)) h.came (λ bytes p. piece-later more mail bytes p) h.pieces;
    held = h.held;
    asked = h.asked;
    came_asked = h.came_asked;
    asked_is = h.asked_is;
    asked_given = h.asked_given;
    serials = Each-append (IsBefore b (epoch_of site.node.facts) site.sent) more mail
        (Each-like (λ (one : Mail). one.0.sender ≡ a) (IsBefore b (epoch_of site.node.facts) site.sent) more (λ one s. λ t e. absurd (eqb-false a b other (sym s ∙ t))) senders) h.serials;
  }

  paid-here : (acts : List Act) (volatile : Volatile) (inputs : List Input) → IsPaid es b old (acts_onto b acts old) (steps_of config.cluster es b volatile inputs)
      → IsPaid (new ++ es) b old (acts_onto b acts old) (steps_of config.cluster (new ++ es) b volatile inputs)
  paid-here acts volatile inputs h =
      subst (λ (fs : List Fact). IsPaid (new ++ es) b old (acts_onto b acts old) (length (steps_made (run_of_inputs config.cluster b (record { facts = fs; volatile = volatile }) inputs)))) same
      (paid-others new es a b old (acts_onto b acts old) (steps_of config.cluster es b volatile inputs) other own h)

  open-others : (p : Process) → IsOpen config old es mail b p → IsOpen config old (new ++ es) (more ++ mail) b p
  open-others p h = record {
    volatile = h.volatile;
    inputs = h.inputs;
    served = served-others (ReceivedBy b p.left old) h.volatile h.inputs p.site_then h.served;
    paid = paid-here p.left h.volatile h.inputs h.paid;
    quiet = quiet-later config old old (same-later old) new es more mail b p.left h.quiet;
  }

  closing-others : (p : Process) → IsClosing config old es mail b p → IsClosing config old (new ++ es) (more ++ mail) b p
  closing-others p h = record {
    volatile = h.volatile;
    inputs = h.inputs;
    before = h.before;
    first = h.first;
    served = served-others (ReceivedBy b h.first old) h.volatile h.inputs h.before h.served;
    paid = paid-here h.first h.volatile h.inputs h.paid;
    acts_are = h.acts_are;
    some = h.some;
    inward = quiet-later config old old (same-later old) new es more mail b h.first h.inward;
    site_is = h.site_is;
    posted_in = λ one i. In-after one more mail (h.posted_in one i);
  }

  process-here : (p : Process) → IsProcess config old es mail b p → IsProcess config old (new ++ es) (more ++ mail) b p
  process-here p h = record {
    live = live-others (ReceivedBy b p.left old) p.site_then h.live;
    stage = elim h.stage [
      | inl boot ↦ inl (subst (IsBooting config b p) same boot)
      | inr later ↦ inr (elim later [ inl here ↦ inl (open-others p here) | inr here ↦ inr (closing-others p here) ])
    ];
  }

  pub process-others : (p : Process) → IsProcess config old es mail b p → IsProcess config done (new ++ es) (more ++ mail) b p
  process-others p h = process-later config old done later (new ++ es) (more ++ mail) b p (process-here p h)
