-- What is known of each version of a key was committed.
use Rattle.std.proofs.Common.{Bool, Contains, List, None, Option, Some, [], arith, cond, false, inl, inr, refl, subst, sym, true, ℕ, ◌++◌, ◌+◌, ◌==◌, ◌∷◌, ◌≡◌}
use Rattle.std.proofs.lemmas.Bool.Decides.{Decides-eqb}
use Rattle.std.proofs.lemmas.List.Elements.{Contains-append_left, Contains-append_right, Contains-push, Contains-push_cases}
use Rattle.std.proofs.lemmas.List.Sums.{fold-append}
use Rattle.std.specs.Prelude.{fold, option_map, ⊤}
use Rattle.mdcc_base.specs.Key.{key_eq}
use Rattle.mdcc_base.specs.declared.identifiers.TxId.{TxId}
use Rattle.mdcc_base.specs.declared.key.Key.{Key}
use Rattle.mdcc_option.proofs.Equal.{Decides-key}
use Rattle.mdcc_option.specs.Held.{Held}
use Rattle.mdcc_option.specs.declared.choices.Choice.{Choice}
use Rattle.mdcc_option.specs.declared.items.Delta.{Delta}
use Rattle.mdcc_option.specs.declared.items.Item.{Item}
use Rattle.mdcc_option.specs.declared.items.Update.{Update}
use Rattle.mdcc_def_right_reads.specs.RightReads.{IsAdded, IsWritten}
use Rattle.mdcc_check.specs.Versions.{held_in, new_version, version_held_with, version_with, with_added_delta}

pub record IsKnown (committed : List (List Choice)) (key : Key) (version : ℕ) (held : Held) : Type 0 where
  pub same : held.version ≡ version
  pub written : IsWritten committed key version held.base
  pub added : (delta : Delta) → Contains held.deltas delta → IsAdded committed key version delta

abbrev pub Known : List (List Choice) → Key → ℕ → Option Held → Type 0
Known committed key version None = ⊤
Known committed key version (Some held) = IsKnown committed key version held

abbrev pub KnowsAll : List (List Choice) → List Choice → Type 0
KnowsAll committed choices = (key : Key) (version : ℕ) → Known committed key version (held_in choices key version)

written-later : (before later : List (List Choice)) (key : Key) (version : ℕ) (item : Item) → IsWritten before key version item → IsWritten (before ++ later) key version item
written-later before later key version item w = record {
  choices = w.choices;
  listed = Contains-append_left before later w.choices w.listed;
  choice = w.choice;
  one_of = w.one_of;
  of_key = w.of_key;
  of_version = w.of_version;
  seen = w.seen;
  writes = w.writes;
}

added-later : (before later : List (List Choice)) (key : Key) (version : ℕ) (delta : Delta) → IsAdded before key version delta → IsAdded (before ++ later) key version delta
added-later before later key version delta a = record {
  choices = a.choices;
  listed = Contains-append_left before later a.choices a.listed;
  choice = a.choice;
  one_of = a.one_of;
  of_tx = a.of_tx;
  of_key = a.of_key;
  of_version = a.of_version;
  adds = a.adds;
}

known-later : (before later : List (List Choice)) (key : Key) (version : ℕ) (held : Option Held) → Known before key version held → Known (before ++ later) key version held
known-later before later key version None k = k
known-later before later key version (Some held) k = record {
  same = k.same;
  written = written-later before later key version held.base k.written;
  added = λ delta i. added-later before later key version delta (k.added delta i);
}

none-listed : (delta : Delta) → Contains [] delta → ⊥
none-listed delta i = omega (arith, i.1)

-- one choice of a committed transaction
module _ (committed : List (List Choice)) (txn : List Choice) (listed : Contains committed txn) (c : Choice) (one_of : Contains txn c) (key : Key) (of_key : c.key ≡ key) (version : ℕ) where
  known-write : (item : Item) (seen : List TxId) → c.update ≡ Update.Write item seen → (b : Bool) → (c.version + 1 == version) ≡ b
      → (held : Option Held) → Known committed key version held → Known committed key version (cond b (Some (new_version version item)) held)
  known-write item seen writes true e held k = record {
    same = refl;
    written = record {
      choices = txn;
      listed = listed;
      choice = c;
      one_of = one_of;
      of_key = of_key;
      of_version = (Decides-eqb _ _).0 e;
      seen = seen;
      writes = writes;
    };
    added = λ delta i. absurd (none-listed delta i);
  }
  known-write item seen writes false e held k = k

  known-one : (delta : Delta) → c.tx ≡ delta.tx → c.update ≡ Update.Add delta.amounts → c.version ≡ version → IsAdded committed key version delta
  known-one delta of_tx adds of_version = record {
    choices = txn;
    listed = listed;
    choice = c;
    one_of = one_of;
    of_tx = of_tx;
    of_key = of_key;
    of_version = of_version;
    adds = adds;
  }

  known-delta : (delta : Delta) → IsAdded committed key version delta → (held : Option Held) → Known committed key version held
      → Known committed key version (option_map (with_added_delta delta) held)
  known-delta delta a None k = k
  known-delta delta a (Some held) k = record {
    same = k.same;
    written = k.written;
    added = λ other i. elim (Contains-push_cases held.deltas delta other i) [
      | inl before ↦ k.added other before
      | inr e ↦ subst (λ d. IsAdded committed key version d) e a
    ];
  }

  known-add : (delta : Delta) → c.tx ≡ delta.tx → c.update ≡ Update.Add delta.amounts → (b : Bool) → (c.version == version) ≡ b
      → (held : Option Held) → Known committed key version held → Known committed key version (cond b (option_map (with_added_delta delta) held) held)
  known-add delta of_tx adds true e held k = known-delta delta (known-one delta of_tx adds ((Decides-eqb _ _).0 e)) held k
  known-add delta of_tx adds false e held k = k

  known-update : (update : Update) → c.update ≡ update → (held : Option Held) → Known committed key version held
      → Known committed key version (version_with version held c.tx c.version update)
  known-update (Update.Write item seen) e held k = known-write item seen e (c.version + 1 == version) refl held k
  known-update (Update.Add amounts) e held k = known-add (record { tx = c.tx; amounts = amounts }) refl e (c.version == version) refl held k

module _ (committed : List (List Choice)) (txn : List Choice) (listed : Contains committed txn) (key : Key) (version : ℕ) where
  known-by : (c : Choice) → Contains txn c → (b : Bool) → key_eq c.key key ≡ b → (held : Option Held) → Known committed key version held
      → Known committed key version (cond b (version_with version held c.tx c.version c.update) held)
  known-by c one_of true e held k = known-update committed txn listed c one_of key ((Decides-key _ _).0 e) version c.update refl held k
  known-by c one_of false e held k = k

  known-fold : (cs : List Choice) → ((c : Choice) → Contains cs c → Contains txn c) → (held : Option Held) → Known committed key version held
      → Known committed key version (fold (version_held_with key version) held cs)
  known-fold [] sub held k = k
  known-fold (c ∷ cs) sub held k =
      known-fold cs (λ d i. sub d (Contains-append_right (c ∷ []) cs d i)) (version_held_with key version held c)
      (known-by c (sub c (Contains-append_left (c ∷ []) cs c (Contains-push [] c))) (key_eq c.key key) refl held k)

-- one more transaction commits
pub knows-more : (before : List (List Choice)) (txn choices : List Choice) → KnowsAll before choices → KnowsAll (before ++ txn ∷ []) (choices ++ txn)
knows-more before txn choices k key version =
    subst (Known (before ++ txn ∷ []) key version) (sym (fold-append (version_held_with key version) None choices txn))
    (known-fold (before ++ txn ∷ []) txn (Contains-push before txn) key version txn (λ c i. i) (held_in choices key version)
    (known-later before (txn ∷ []) key version (held_in choices key version) (k key version)))

pub knows-none : KnowsAll [] []
knows-none key version = tt
