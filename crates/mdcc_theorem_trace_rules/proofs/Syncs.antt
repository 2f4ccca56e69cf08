-- Catching up and asking: good steps.
use Rattle.std.proofs.Common.{Bool, List, None, Option, Some, [], ap, cond, false, inl, inr, refl, subst, sym, true, ℕ, ◌++◌, ◌∷◌, ◌≡◌}
use Rattle.std.specs.Prelude.{map}
use Rattle.std.proofs.lemmas.Bool.{and_from, cases_Bool, lt-ltb, not_from_false}
use Rattle.mdcc_base.specs.declared.identifiers.Ballot.{Ballot}
use Rattle.mdcc_base.specs.declared.key.Key.{Key}
use Rattle.mdcc_base.specs.declared.identifiers.TxId.{TxId}
use Rattle.mdcc_option.specs.declared.cluster.Cluster.{Cluster}
use Rattle.mdcc_option.specs.declared.items.Delta.{Delta}
use Rattle.mdcc_option.specs.declared.items.Item.{Item}
use Rattle.mdcc_option.specs.declared.choices.Mark.{Mark}
use Rattle.mdcc_option.specs.declared.choices.Outcome.{Outcome}
use Rattle.mdcc_def_messages.specs.declared.facts.Fact.{Fact}
use Rattle.mdcc_def_protocol.specs.Facts.{base_of, current_of, executed_of, is_finished, outcome_kept, vote_of}
use Rattle.mdcc_def_ledger.specs.Ledger.{Added, Entry, facts_of}
use Rattle.mdcc_def_ledger.specs.AllowedLedgers.{IsAllowed, IsBacked}
use Rattle.mdcc_def_protocol.specs.Belongs.{adds_belong, item_belongs}
use Rattle.mdcc_def_protocol.specs.News.{is_crowding, is_news}
use Rattle.mdcc_def_rules.specs.AcceptorRules.{ask_step, ask_step_after, ask_step_by}
use Rattle.mdcc_def_rules.specs.SyncRules.{give_sent, sync_ask_step, sync_give_step}
use Rattle.mdcc_def_rules.specs.Steps.{NodeStep}
use Rattle.mdcc_def_protocol.specs.Volatile.{Volatile}
use Rattle.mdcc_theorem_trace_states.specs.Words.{IsTail}
use Rattle.mdcc_theorem_trace_states.specs.Invariant.{IsGoodBy, IsGoodStep}
use Rattle.mdcc_theorem_trace_states.proofs.Lists.{IsTail-same}
use Rattle.mdcc_theorem_trace_states.proofs.Kept.{ArePlaced-fact, Keeps-more, quiet-fact}
use Rattle.mdcc_theorem_trace_rules.proofs.Begins.{nothing-good, sends-good}
use Rattle.mdcc_theorem_trace_rules.proofs.Rules.{give-stands}
use Rattle.mdcc_theorem_trace_rules.proofs.Votings.{kept-heard, vote-given, was-outcome}
use Rattle.mdcc_theorem_trace_states.proofs.Tests.{may-add}
use Rattle.mdcc_theorem_trace_rules.specs.Closed.{IsClosed}
use Rattle.mdcc_theorem_trace_states.specs.Steps.{IsUp}

-- what stands above a tail
pub later : (old es : List Entry) → IsTail old es → (new : List Entry) × (es ≡ new ++ old)
later old [] h = ([], sym h)
later old (e ∷ es) h =
    elim h [
      | inl s ↦ ([], sym s)
      | inr r ↦ let p = later old es r in (e ∷ p.0, ap (λ z. e ∷ z) p.1)
    ]

module _ (also : List Entry → Type 0) (shut : IsClosed also) (cluster : Cluster) (es : List Entry) (a : ℕ) (volatile : Volatile) (up : IsUp also cluster es a volatile) where
  abbrev pub Well : NodeStep → Type 0
  Well step = IsGoodBy cluster also es a step step.fact

  pub sync-ask-good : (s : ℕ) (k : Key) → Well (sync_ask_step a (facts_of es a) volatile s k)
  sync-ask-good s k = sends-good also cluster es a volatile volatile (give_sent a (facts_of es a) s k) up up.keeps (give-stands cluster es a s k up.centre)

  pub ask-good : (s : ℕ) (t : TxId) (k : Key) (v : ℕ) → Well (ask_step a (facts_of es a) volatile s t k v)
  ask-good s t k v = by_case (outcome_kept (facts_of es a) t) refl
    where
      by_vote : (x : Option (Ballot × Mark)) → vote_of (facts_of es a) k v t ≡ x → Well (ask_step_after a volatile s t k v x)
      by_vote (Some x) f = sends-good also cluster es a volatile volatile _ up up.keeps (record { from = up.centre; old = es; tail = IsTail-same es; says = vote-given cluster es a k v t x up.legal f }, tt)
      by_vote None f = nothing-good also cluster es a volatile volatile up up.keeps

      by_case : (o : Option Outcome) → outcome_kept (facts_of es a) t ≡ o → Well (ask_step_by a (facts_of es a) volatile s t k v o)
      by_case (Some o) e = let w = was-outcome cluster es a t o up.legal (kept-heard (facts_of es a) t o e) in sends-good also cluster es a volatile volatile _ up up.keeps (record { from = up.centre; old = w.old; tail = w.tail; says = w.outcome }, tt)
      by_case None e =
          elim (cases_Bool (is_finished (facts_of es a) t)) [
            | inl u ↦ rw u (sends-good also cluster es a volatile volatile _ up up.keeps (record { from = up.centre; old = es; tail = IsTail-same es; says = u }, tt))
            | inr u ↦ subst Well (sym (left_open u)) (by_vote (vote_of (facts_of es a) k v t) refl)
          ]
        where
          left_open : is_finished (facts_of es a) t ≡ false → ask_step_by a (facts_of es a) volatile s t k v None ≡ ask_step_after a volatile s t k v (vote_of (facts_of es a) k v t)
          left_open u = if-not (is_finished (facts_of es a) t) u _ _
            where
              if-not : (x : Bool) → x ≡ false → (p q : NodeStep) → cond x p q ≡ q
              if-not true h p q = absurd (cc)
              if-not false h p q = refl

  adopted : Key → ℕ → Item → List Delta → Fact
  adopted k v item adds = Fact.Adopted k v item adds

  -- what b held at an earlier time is adopted
  pub sync-give-good : (old : List Entry) (b : ℕ) (k : Key) (v : ℕ) (item : Item) (adds : List Delta) → IsTail old es → current_of (facts_of old b) k ≡ v → base_of (facts_of old b) k ≡ Some item →
      executed_of (facts_of old b) k ≡ map (λ (delta : Delta). (delta.tx, delta.amounts)) adds → item_belongs cluster item ≡ true → adds_belong cluster adds ≡ true →
      ((fact : Fact) → (sync_give_step (facts_of es a) volatile (record { key = k; version = v; item = item; adds = adds })).fact ≡ Some fact → IsBacked cluster es a fact → is_crowding (facts_of es a) fact ≡ false) → Well (sync_give_step (facts_of es a) volatile (record { key = k; version = v; item = item; adds = adds }))
  sync-give-good old b k v item adds tail current base executed item-in adds-in room =
      elim (cases_Bool (is_news (facts_of es a) k v adds)) [
        | inl e ↦ rw e (refl, good e (room (Fact.Adopted k v item adds) (rw e refl) held))
        | inr e ↦ rw e (nothing-good also cluster es a volatile volatile up up.keeps)
      ]
    where
      held : IsBacked cluster es a (Fact.Adopted k v item adds)
      held = let p = later old es tail in (b, p.0, old, record { parts = p.1; current = current; base = base; executed = executed })

      legal : is_news (facts_of es a) k v adds ≡ true → is_crowding (facts_of es a) (Fact.Adopted k v item adds) ≡ false → IsAllowed cluster (Added a (Fact.Adopted k v item adds) ∷ es)
      legal news crowding =
          (up.legal, (up.centre, may-add cluster (facts_of es a) (Fact.Adopted k v item adds) (and_from _ _ (and_from _ _ (and_from _ _ item-in adds-in) (lt-ltb 0 _ up.booted)) (and_from _ _ news (not_from_false (is_crowding (facts_of es a) (Fact.Adopted k v item adds)) crowding))), held))

      good : is_news (facts_of es a) k v adds ≡ true → is_crowding (facts_of es a) (Fact.Adopted k v item adds) ≡ false → IsGoodStep cluster also es a (Added a (Fact.Adopted k v item adds) ∷ []) [] volatile
      good news crowding = record {
        own = (refl, tt);
        legal = legal news crowding;
        placed = ArePlaced-fact cluster a (Fact.Adopted k v item adds) es (legal news crowding) up.placed (λ j w m u x g. absurd (cc));
        more = shut.more cluster (Added a (Fact.Adopted k v item adds)) es (legal news crowding) tt up.more;
        stand = tt;
        keeps = Keeps-more cluster (Added a (Fact.Adopted k v item adds)) es a volatile (legal news crowding) (quiet-fact a a (Fact.Adopted k v item adds) es refl) up.keeps;
      }
