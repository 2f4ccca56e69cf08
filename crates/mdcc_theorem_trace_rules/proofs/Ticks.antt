-- The parts of a tick, one after another.
use Rattle.std.proofs.Common.{List, [], ap, append_assoc, inl, inr, refl, subst, sym, ℕ, ◌++◌, ◌∙◌, ◌∷◌, ◌≡◌}
use Rattle.std.specs.Prelude.{fold}
use Rattle.mdcc_option.specs.declared.cluster.Cluster.{Cluster}
use Rattle.mdcc_def_ledger.specs.Ledger.{Entry, facts_of}
use Rattle.mdcc_def_ledger.specs.AllowedLedgers.{IsAllowed}
use Rattle.mdcc_def_messages.specs.declared.messages.Envelope.{Envelope}
use Rattle.mdcc_def_protocol.specs.Volatile.{Volatile}
use Rattle.mdcc_theorem_trace_states.specs.Words.{Each, In, IsTail}
use Rattle.mdcc_theorem_trace_states.specs.VolatileInvariant.{ArePlaced, Keeps}
use Rattle.mdcc_theorem_trace_states.specs.Invariant.{IsGoodStep, IsOf}
use Rattle.mdcc_theorem_trace_states.specs.MessageMeaning.{TrueWhenSent}
use Rattle.mdcc_theorem_trace_states.proofs.Lists.{Each-append, Each-like, IsTail-more}
use Rattle.mdcc_theorem_trace_states.proofs.Kept.{true-more, epoch-aboves}
use Rattle.mdcc_theorem_trace_rules.proofs.Begins.{sends-good}
use Rattle.mdcc_theorem_trace_states.specs.Steps.{IsUp}
use Rattle.mdcc_def_rules.specs.Steps.{StepPart, only_sending, part_and_then}

-- a part of a tick is good, and adds no fact
pub record IsGoodPart (also : List Entry → Type 0) (cluster : Cluster) (es : List Entry) (a : ℕ) (part : StepPart) : Type 0 where
  pub good : IsGoodStep cluster also es a part.entries part.sends part.after
  pub still : facts_of (part.entries ++ es) a ≡ facts_of es a

pub after-part : (also : List Entry → Type 0) (cluster : Cluster) (es : List Entry) (a : ℕ) (v : Volatile) (part : StepPart) → IsUp also cluster es a v → IsGoodPart also cluster es a part → IsUp also cluster (part.entries ++ es) a part.after
after-part also cluster es a v part up h = record {
  sizes = up.sizes;
  legal = h.good.legal;
  placed = h.good.placed;
  more = h.good.more;
  centre = up.centre;
  booted = epoch-aboves cluster part.entries es a h.good.legal up.booted;
  keeps = h.good.keeps;
}

pub then-good : (also : List Entry → Type 0) (cluster : Cluster) (es : List Entry) (a : ℕ) {X : Type 0} (act : Volatile → X → StepPart) (before : StepPart) (x : X) →
    IsGoodPart also cluster es a before → IsGoodPart also cluster (before.entries ++ es) a (act before.after x) → IsGoodPart also cluster es a (part_and_then act before x)
then-good also cluster es a act before x h g = record {
  good = record {
    own = Each-append (IsOf a) (act before.after x).entries before.entries g.good.own h.good.own;
    legal = at (IsAllowed cluster) g.good.legal;
    placed = at ArePlaced g.good.placed;
    more = at also g.good.more;
    stand = at (λ z. Each (TrueWhenSent cluster z) (before.sends ++ (act before.after x).sends))
        (Each-append (TrueWhenSent cluster ((act before.after x).entries ++ (before.entries ++ es))) before.sends (act before.after x).sends
        (Each-like (TrueWhenSent cluster (before.entries ++ es)) (TrueWhenSent cluster ((act before.after x).entries ++ (before.entries ++ es))) before.sends (λ env k. true-more cluster (act before.after x).entries (before.entries ++ es) env k) h.good.stand)
        g.good.stand);
    keeps = at (λ z. Keeps cluster z a (act before.after x).after) g.good.keeps;
  };
  still = at (λ z. facts_of z a ≡ facts_of es a) (g.still ∙ h.still);
}
  where
    at : (P : List Entry → Type 0) → P ((act before.after x).entries ++ (before.entries ++ es)) → P (((act before.after x).entries ++ before.entries) ++ es)
    at P k = subst P (sym (assoc (act before.after x).entries)) k
      where
        assoc : (xs : List Entry) → (xs ++ before.entries) ++ es ≡ xs ++ (before.entries ++ es)
        assoc [] = refl
        assoc (e ∷ xs) = ap (λ z. e ∷ z) (assoc xs)

-- each act is good on a ledger that has the base as its tail
pub fold-good : (also : List Entry → Type 0) (cluster : Cluster) (base es : List Entry) (a : ℕ) {X : Type 0} (act : Volatile → X → StepPart) (xs : List X) (before : StepPart) (v : Volatile) → IsUp also cluster es a v → IsGoodPart also cluster es a before →
    IsTail base (before.entries ++ es) →
    ((x : X) → In x xs → (new : List Entry) (w : Volatile) → IsUp also cluster (new ++ es) a w → facts_of (new ++ es) a ≡ facts_of es a → IsTail base (new ++ es) → IsGoodPart also cluster (new ++ es) a (act w x)) →
    IsGoodPart also cluster es a (fold (part_and_then act) before xs)
fold-good also cluster base es a act [] before v up h tail f = h
fold-good also cluster base es a act (x ∷ xs) before v up h tail f =
    let next = f x (inl refl) before.entries before.after (after-part also cluster es a v before up h) h.still tail in
    let more : IsTail base (((act before.after x).entries ++ before.entries) ++ es) =
    subst (IsTail base) (sym (append_assoc (act before.after x).entries before.entries es)) (IsTail-more (act before.after x).entries base (before.entries ++ es) tail) in
    fold-good also cluster base es a act xs (part_and_then act before x) v up (then-good also cluster es a act before x h next) more (λ y i. f y (inr i))

pub sent-part : (also : List Entry → Type 0) (cluster : Cluster) (es : List Entry) (a : ℕ) (v w : Volatile) (sends : List Envelope) → IsUp also cluster es a v → Keeps cluster es a w → Each (TrueWhenSent cluster es) sends →
    IsGoodPart also cluster es a (only_sending w sends)
sent-part also cluster es a v w sends up keeps stand = record { good = sends-good also cluster es a v w sends up keeps stand; still = refl }
