-- A begin is good.
use Rattle.std.proofs.Common.{List, None, Ok, Option, Some, [], ap, inl, inr, refl, subst, sym, true, ℕ, ◌&&◌, ◌++◌, ◌+◌, ◌==◌, ◌∙◌, ◌∷◌, ◌≡◌}
use Rattle.std.specs.Prelude.{flat_map, map}
use Rattle.std.specs.Option.{option_or}
use Rattle.std.proofs.lemmas.Bool.{eq-eqb}
use Rattle.mdcc_base.specs.declared.key.Key.{Key}
use Rattle.mdcc_base.specs.declared.identifiers.TxId.{TxId}
use Rattle.mdcc_base.specs.Quorums.{all_centres}
use Rattle.mdcc_option.specs.declared.faults.BeginFault.{BeginFault}
use Rattle.mdcc_option.specs.declared.choices.Choice.{Choice}
use Rattle.mdcc_option.specs.declared.cluster.Cluster.{Cluster}
use Rattle.mdcc_option.specs.declared.items.Part.{Part}
use Rattle.mdcc_option.specs.Parts.{are_parts_ascending}
use Rattle.mdcc_option.specs.Transaction.{choices_of, transaction_of}
use Rattle.mdcc_def_protocol.specs.Facts.{epoch_of}
use Rattle.mdcc_def_ledger.specs.Ledger.{Entry, choices_begun, facts_of}
use Rattle.mdcc_def_protocol.specs.Belongs.{is_centre}
use Rattle.mdcc_def_ledger.specs.AllowedLedgers.{IsAllowed, IsAllowedBegun, part_in, seqs_begun}
use Rattle.mdcc_def_ledger.specs.AllowedStructures.{is_begun}
use Rattle.mdcc_def_messages.specs.declared.messages.Envelope.{Envelope}
use Rattle.mdcc_def_messages.specs.declared.messages.Message.{Message}
use Rattle.mdcc_def_rules.specs.Messages.{to_all, to_each}
use Rattle.mdcc_def_protocol.specs.Manager
use Rattle.mdcc_def_protocol.specs.Manager.{begin_with, begin_fault, parts_begin_fault}
use Rattle.mdcc_def_rules.specs.ManagerRules.{begin_step, begin_step_by, begun_step}
use Rattle.mdcc_def_protocol.specs.Volatile.{Volatile}
use Rattle.mdcc_theorem_trace_states.specs.Words.{Each, In}
use Rattle.mdcc_theorem_trace_states.specs.Invariant.{IsGood, IsGoodStep}
use Rattle.mdcc_theorem_trace_states.specs.VolatileInvariant.{IsOpened, Keeps, Manages}
use Rattle.mdcc_theorem_trace_states.specs.MessageMeaning.{Says, TrueWhenSent}
use Rattle.mdcc_theorem_trace_states.proofs.Lists.{Each-append, Each-like, IsTail-same}
use Rattle.mdcc_theorem_trace_states.proofs.Maps.{tx-refl}
use Rattle.mdcc_theorem_trace_states.proofs.Ledgers.{In-any}
use Rattle.mdcc_theorem_trace_states.proofs.Kept.{ArePlaced-begun, AreVotes-more, IsOpened-more, told-more}
use Rattle.mdcc_theorem_trace_states.proofs.Led.{Leads-more}
use Rattle.mdcc_theorem_trace_states.proofs.Sorting.{choices_of-some, choices_of-tx, part_in-choices}
use Rattle.mdcc_theorem_trace_rules.specs.Closed.{IsClosed}
use Rattle.mdcc_theorem_trace_states.specs.Steps.{IsTransaction, IsUp}
use Rattle.mdcc_def_rules.specs.Here.{here}

pub stands-each : (cluster : Cluster) (es : List Entry) (a : ℕ) (message : Message) (centres : List ℕ) → is_centre cluster a ≡ true → Says cluster es a message → Each (TrueWhenSent cluster es) (to_each centres a message)
stands-each cluster es a message [] here h = tt
stands-each cluster es a message (b ∷ bs) here h = (record { from = here; old = es; tail = IsTail-same es; says = h }, stands-each cluster es a message bs here h)

pub Each-flat_map : {A B : Type 0} (P : B → Type 0) (f : A → List B) (xs : List A) → ((x : A) → In x xs → Each P (f x)) → Each P (flat_map f xs)
Each-flat_map P f [] h = tt
Each-flat_map P f (x ∷ xs) h = Each-append P (f x) (flat_map f xs) (h x (inl refl)) (Each-flat_map P f xs (λ y i. h y (inr i)))

-- nothing but the volatile state changes
pub nothing-good : (also : List Entry → Type 0) (cluster : Cluster) (es : List Entry) (a : ℕ) (volatile after : Volatile) → IsUp also cluster es a volatile → Keeps cluster es a after → IsGoodStep cluster also es a [] [] after
nothing-good also cluster es a volatile after up keeps = record { own = tt; legal = up.legal; placed = up.placed; more = up.more; stand = tt; keeps = keeps }

-- messages are sent
pub sends-good : (also : List Entry → Type 0) (cluster : Cluster) (es : List Entry) (a : ℕ) (volatile after : Volatile) (sends : List Envelope) → IsUp also cluster es a volatile → Keeps cluster es a after →
    Each (TrueWhenSent cluster es) sends → IsGoodStep cluster also es a [] sends after
sends-good also cluster es a volatile after sends up keeps stand = record { own = tt; legal = up.legal; placed = up.placed; more = up.more; stand = stand; keeps = keeps }

no-fault : {A : Type 0} (x y : Option A) → option_or x y ≡ None → x ≡ None
no-fault None y h = refl
no-fault (Some z) y h = absurd (cc)

pub begun-good : (also : List Entry → Type 0) → IsClosed also → (cluster : Cluster) (es : List Entry) (a : ℕ) (volatile : Volatile) (ps : List Part) → IsUp also cluster es a volatile →
    IsTransaction cluster.schema ps → parts_begin_fault (facts_of es a) ps ≡ None →
    IsGoodStep cluster also es a (begun_step cluster a volatile ps (Manager.begun_transaction a (epoch_of (facts_of es a)) volatile.manager ps)).entries (begun_step cluster a volatile ps (Manager.begun_transaction a (epoch_of (facts_of es a)) volatile.manager ps)).sends (begun_step cluster a volatile ps (Manager.begun_transaction a (epoch_of (facts_of es a)) volatile.manager ps)).after
begun-good also closed cluster es a volatile ps up draft held = record {
  own = (refl, tt);
  legal = legal;
  placed = ArePlaced-begun cluster a tx choices es legal up.placed;
  more = closed.more cluster (Entry.Begun a tx choices) es legal tt up.more;
  stand = Each-flat_map (TrueWhenSent cluster new) (λ choice. to_all cluster.quorums a (Message.Propose choice)) choices (λ c i. stands-each cluster new a (Message.Propose c) (all_centres cluster.quorums) up.centre (said c i));
  keeps = record {
    manager = manager;
    recovery = AreVotes-more cluster (Entry.Begun a tx choices) es volatile.recovery.votes up.keeps.recovery;
    leader = Leads-more cluster (Entry.Begun a tx choices) es a volatile.leader legal (record { epoch = refl; valued = λ k v m g. refl }) up.keeps.leader;
    told = told-more cluster (Entry.Begun a tx choices) es volatile.told up.keeps.told;
  };
}
  where
    tx : TxId
    tx = record { centre = a; epoch = epoch_of (facts_of es a); seq = volatile.manager.seq + 1 }

    choices : List Choice
    choices = choices_of tx ps

    new : List Entry
    new = Entry.Begun a tx choices ∷ es

    again : map part_in choices ≡ ps
    again = part_in-choices tx ps

    begun-legal : IsAllowedBegun cluster es a tx choices
    begun-legal = record {
      centre = refl;
      booted = up.booted;
      epoch = refl;
      seq = ap (λ n. n + 1) up.keeps.manager.seq;
      made = ap (choices_of tx) (sym again);
      ascending = subst (λ z. are_parts_ascending z ≡ true) (sym again) draft.ascending;
      draft = subst (λ z. transaction_of cluster.schema z ≡ Ok z) (sym again) draft.again;
      held = subst (λ z. parts_begin_fault (facts_of es a) z ≡ None) (sym again) held;
    }

    legal : IsAllowed cluster new
    legal = (up.legal, (up.centre, begun-legal))

    here : choices_begun new tx ≡ choices
    here = rw (tx-refl tx) refl

    said : (c : Choice) → In c choices → is_begun new c ≡ true
    said c i =
        let t : c.tx ≡ tx = choices_of-tx tx ps c i in
        let e : choices_begun new c.tx ≡ choices = ap (choices_begun new) t ∙ here in rw e (In-any c choices i)

    counted : seqs_begun new a (epoch_of (facts_of es a)) ≡ seqs_begun es a (epoch_of (facts_of es a)) + 1
    counted = let s : (a == a && epoch_of (facts_of es a) == epoch_of (facts_of es a)) ≡ true = rw (eq-eqb a a refl) (eq-eqb (epoch_of (facts_of es a)) _ refl) in rw s refl

    opened : Each (IsOpened new) (volatile.manager.opened ++ record { tx = tx; choices = choices; led = []; ticks = 0 } ∷ [])
    opened = Each-append (IsOpened new) volatile.manager.opened _
        (Each-like (IsOpened es) (IsOpened new) volatile.manager.opened (λ t g. IsOpened-more cluster (Entry.Begun a tx choices) es t legal g) up.keeps.manager.opened)
        (record { choices = here; some_choice = choices_of-some tx ps draft.some_part }, tt)

    manager : Manages cluster new a (Manager.begun_transaction a (epoch_of (facts_of es a)) volatile.manager ps).1
    manager = record { seq = ap (λ n. n + 1) up.keeps.manager.seq ∙ sym counted; opened = opened; votes = AreVotes-more cluster (Entry.Begun a tx choices) es volatile.manager.votes up.keeps.manager.votes }

pub begin-good : (also : List Entry → Type 0) → IsClosed also → (cluster : Cluster) (es : List Entry) (a : ℕ) (volatile : Volatile) (ps : List Part) → IsUp also cluster es a volatile →
    IsTransaction cluster.schema ps → IsGood cluster also es a (Ok (begin_step (here cluster a (facts_of es a)) volatile ps))
begin-good also closed cluster es a volatile ps up draft = by_case (begin_fault (facts_of es a) volatile.manager ps) refl
  where
    by_case : (o : Option (Key × BeginFault)) → begin_fault (facts_of es a) volatile.manager ps ≡ o →
        IsGood cluster also es a (Ok (begin_step_by (here cluster a (facts_of es a)) volatile ps (begin_with a (epoch_of (facts_of es a)) volatile.manager ps o)))
    by_case (Some fault) e = nothing-good also cluster es a volatile volatile up up.keeps
    by_case None e = begun-good also closed cluster es a volatile ps up draft (no-fault (parts_begin_fault (facts_of es a) ps) _ e)
