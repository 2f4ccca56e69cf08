-- The transactions that are not resolved with one more fact, in a table that has a number of each.
use Rattle.std.proofs.Common.{◌≡◌, ℕ, ◌+◌, ◌<◌, ◌≤◌, ◌∷◌, Bool, true, false, List, [], Option, Some, None, is_some, length, refl, sym, ap, ◌∙◌, arith, inl, inr, fold}
use Rattle.std.specs.List.{list_any}
use Rattle.std.specs.Option.{option_and_then, option_map, option_or}
use Rattle.std.specs.Prelude.{IfSome, filter, if◌then◌else◌, map, not}
use Rattle.std.proofs.lemmas.Bool.{cases_Bool}
use Rattle.mdcc_base.specs.TxId.{tx_eq, tx_lt}
use Rattle.mdcc_base.specs.declared.identifiers.TxId.{TxId}
use Rattle.mdcc_base.specs.declared.key.Key.{Key}
use Rattle.mdcc_struct.specs.Maps.{TxMap, are_ascending, inserted, txs_of, value_of, with_entry}
use Rattle.mdcc_struct.proofs.Inclusion.{same_found}
use Rattle.mdcc_def_protocol.specs.Facts.{is_heard, write_sets_from}
use Rattle.mdcc_def_protocol.specs.Plain.{plain_unresolved_of}
use Rattle.mdcc_def_messages.specs.declared.facts.Fact.{Fact}
use Rattle.mdcc_cells_chains.specs.Unresolved.{without}
use Rattle.mdcc_theorem_fact_folds.specs.Unresolved.{listed_by, with_unheard as with_unheard_of}
use Rattle.mdcc_theorem_fact_folds.proofs.Unheard.{folded-ascends, folded-value, kept_value, unresolved-ascends, unresolved-updates, value-kept}
use Rattle.mdcc_cells_tables.specs.UnresolvedNumbers.{AreBelowNumber, ListsUnresolved, TellsHeard, next_numbers, with_all_unheard, with_unheard_number, write_set_numbered}
use Rattle.mdcc_cells_tables.proofs.HeldMore.{numbered-newest, numbered-older}

-- ---- maps with the same transactions

pub value-listed : {X Y : Type 0} (f : X → Y) (m : TxMap X) (tx : TxId) → value_of (listed_by f m) tx ≡ option_map f (value_of m tx)
value-listed f [] tx = refl
value-listed f (e ∷ es) tx =
    let ih = value-listed f es tx in
    elim (cases_Bool (tx_eq e.0 tx)) [
      | inl same ↦ rw same refl
      | inr other ↦ rw other ih
    ]

ascending-listed : {X Y : Type 0} (f : X → Y) (m : TxMap X) → are_ascending (listed_by f m) ≡ are_ascending m
ascending-listed f [] = refl
ascending-listed f (e ∷ []) = refl
ascending-listed f (e ∷ g ∷ es) = rw (ascending-listed f (g ∷ es)) refl

txs-listed : {X Y : Type 0} (f : X → Y) (m : TxMap X) → txs_of (listed_by f m) ≡ txs_of m
txs-listed f [] = refl
txs-listed f (e ∷ es) = ap (λ ts. e.0 ∷ ts) (txs-listed f es)

-- the transactions alone
abbrev only : {X : Type 0} → TxMap X → TxMap (Unit {0})
only m = listed_by (λ x. tt) m

only-txs : {X : Type 0} (m : TxMap X) → only m ≡ map (λ tx. (tx, tt)) (txs_of m)
only-txs [] = refl
only-txs (e ∷ es) = ap (λ ts. (e.0, tt) ∷ ts) (only-txs es)

pub ascending-alike : {X Y : Type 0} (a : TxMap X) (b : TxMap Y) → txs_of a ≡ txs_of b → are_ascending b ≡ true → are_ascending a ≡ true
ascending-alike a b same up =
    sym (ascending-listed (λ x. tt) a) ∙ ap are_ascending (only-txs a ∙ ap (λ ts. map (λ tx. (tx, tt)) ts) same ∙ sym (only-txs b)) ∙ ascending-listed (λ x. tt) b ∙ up

some-any : {X : Type 0} (m : TxMap X) (tx : TxId) → is_some (value_of m tx) ≡ list_any (λ t. tx_eq t tx) (txs_of m)
some-any [] tx = refl
some-any (e ∷ es) tx =
    let ih = some-any es tx in
    elim (cases_Bool (tx_eq e.0 tx)) [
      | inl same ↦ rw same refl
      | inr other ↦ rw other ih
    ]

pub some-alike : {X Y : Type 0} (a : TxMap X) (b : TxMap Y) (tx : TxId) → txs_of a ≡ txs_of b → is_some (value_of a tx) ≡ is_some (value_of b tx)
some-alike a b tx same = some-any a tx ∙ ap (list_any (λ t. tx_eq t tx)) same ∙ sym (some-any b tx)

units-alike : {X Y : Type 0} (a : Option X) (b : Option Y) → is_some a ≡ is_some b → option_map (λ x. tt {0}) a ≡ option_map (λ y. tt) b
units-alike None None same = refl
units-alike None (Some y) same = absurd (cc)
units-alike (Some x) None same = absurd (cc)
units-alike (Some x) (Some y) same = refl

txs-alike : {X Y : Type 0} (a : TxMap X) (b : TxMap Y) → are_ascending a ≡ true → are_ascending b ≡ true → ((tx : TxId) → is_some (value_of a tx) ≡ is_some (value_of b tx)) → txs_of a ≡ txs_of b
txs-alike a b up_a up_b some =
    sym (txs-listed (λ x. tt) a)
    ∙ ap txs_of (same_found (only a) (only b) (ascending-listed (λ x. tt) a ∙ up_a) (ascending-listed (λ x. tt) b ∙ up_b)
    (λ tx. value-listed (λ x. tt) a tx ∙ units-alike (value_of a tx) (value_of b tx) (some tx) ∙ sym (value-listed (λ x. tt) b tx)))
    ∙ txs-listed (λ x. tt) b

-- ---- numbers below a bound

pub value-below : (number : ℕ) (m : TxMap ℕ) (tx : TxId) → AreBelowNumber number m → IfSome (value_of m tx) (λ n. n < number)
value-below number [] tx below = tt
value-below number (e ∷ es) tx below =
    let ih = value-below number es tx below.1 in
    elim (cases_Bool (tx_eq e.0 tx)) [
      | inl same ↦ rw same below.0
      | inr other ↦ rw other ih
    ]

below-more : (number more : ℕ) (m : TxMap ℕ) → number ≤ more → AreBelowNumber number m → AreBelowNumber more m
below-more number more [] le below = tt
below-more number more (e ∷ es) le below = let first = below.0 in (omega arith, below-more number more es le below.1)

below-inserted : (number : ℕ) (m : TxMap ℕ) (e : TxId × ℕ) → e.1 < number → AreBelowNumber number m → AreBelowNumber number (inserted m e)
below-inserted number [] e within below = (within, tt)
below-inserted number (x ∷ xs) e within below =
    elim (cases_Bool (tx_lt x.0 e.0)) [
      | inl less ↦ rw less (below.0, below-inserted number xs e within below.1)
      | inr over ↦ rw over (within, below)
    ]

below-with_unheard : (heard : TxId → Bool) (number bound : ℕ) (m : TxMap ℕ) (tx : TxId) → number < bound → AreBelowNumber bound m → AreBelowNumber bound (with_unheard_number heard number m tx)
below-with_unheard heard number bound m tx within below =
    elim (cases_Bool (heard tx)) [
      | inl was ↦ rw was below
      | inr unheard ↦ elim (cases_Bool (is_some (value_of m tx))) [
        | inl there ↦ rw (unheard, there) below
        | inr none ↦ rw (unheard, none) (below-inserted bound m (tx, number) within below)
      ]
    ]

below-with_all : (heard : TxId → Bool) (number bound : ℕ) (m : TxMap ℕ) (txs : List TxId) → number < bound → AreBelowNumber bound m → AreBelowNumber bound (with_all_unheard heard number m txs)
below-with_all heard number bound m [] within below = below
below-with_all heard number bound m (tx ∷ txs) within below = below-with_all heard number bound (with_unheard_number heard number m tx) txs within (below-with_unheard heard number bound m tx within below)

below-without : (number : ℕ) (m : TxMap ℕ) (tx : TxId) → AreBelowNumber number m → AreBelowNumber number (without m tx)
below-without number [] tx below = tt
below-without number (e ∷ es) tx below =
    let ih = below-without number es tx below.1 in
    elim (cases_Bool (tx_eq e.0 tx)) [
      | inl same ↦ rw same ih
      | inr other ↦ rw other (below.0, ih)
    ]

pub below-next : (heard : TxId → Bool) (number : ℕ) (m : TxMap ℕ) (fact : Fact) → AreBelowNumber number m → AreBelowNumber (number + 1) (next_numbers heard number m fact)
below-next heard number m fact below = by fact
  where
    wider : AreBelowNumber (number + 1) m
    wider = below-more number (number + 1) m (omega arith) below

    all : (fact : Fact) → AreBelowNumber (number + 1) (with_all_unheard heard number m (txs_of (write_sets_from fact)))
    all fact = below-with_all heard number (number + 1) m (txs_of (write_sets_from fact)) (omega arith) wider

    by : (fact : Fact) → AreBelowNumber (number + 1) (next_numbers heard number m fact)
    by (Fact.Booted epoch) = all (Fact.Booted epoch)
    by (Fact.Floor origin era upto) = all (Fact.Floor origin era upto)
    by (Fact.Promised k low high b) = all (Fact.Promised k low high b)
    by (Fact.Voted k v b options offered) = all (Fact.Voted k v b options offered)
    by (Fact.Heard t outcome) = below-without (number + 1) m t wider
    by (Fact.Adopted k v item adds) = all (Fact.Adopted k v item adds)

-- ---- how many there are

length-inserted : (m : TxMap ℕ) (e : TxId × ℕ) → length (inserted m e) ≡ length m + 1
length-inserted [] e = refl
length-inserted (x ∷ xs) e =
    let ih = length-inserted xs e in
    elim (cases_Bool (tx_lt x.0 e.0)) [
      | inl less ↦ rw less (omega (arith, ih))
      | inr over ↦ rw over (omega arith)
    ]

pub length-with_unheard : (heard : TxId → Bool) (number : ℕ) (m : TxMap ℕ) (tx : TxId) → length (with_unheard_number heard number m tx) ≤ length m + 1
length-with_unheard heard number m tx =
    elim (cases_Bool (heard tx)) [
      | inl was ↦ rw was (omega arith)
      | inr unheard ↦ elim (cases_Bool (is_some (value_of m tx))) [
        | inl there ↦ rw (unheard, there) (omega arith)
        | inr none ↦ rw (unheard, none) (omega (arith, length-inserted m (tx, number)))
      ]
    ]

pub length-with_all : {X : Type 0} (heard : TxId → Bool) (number : ℕ) (m : TxMap ℕ) (es : TxMap X) → length (with_all_unheard heard number m (txs_of es)) ≤ length m + length es
length-with_all heard number m [] = omega arith
length-with_all heard number m (e ∷ es) =
    let one = length-with_unheard heard number m e.0 in
    let rest = length-with_all heard number (with_unheard_number heard number m e.0) es in
    omega arith

length-without : (m : TxMap ℕ) (tx : TxId) → length (without m tx) ≤ length m
length-without [] tx = omega arith
length-without (e ∷ es) tx =
    let ih = length-without es tx in
    elim (cases_Bool (tx_eq e.0 tx)) [
      | inl same ↦ rw same (omega (arith, ih))
      | inr other ↦ rw other (omega (arith, ih))
    ]

pub length-next : (heard : TxId → Bool) (number : ℕ) (m : TxMap ℕ) (fact : Fact) → length (next_numbers heard number m fact) ≤ length m + length (write_sets_from fact)
length-next heard number m (Fact.Booted epoch) = length-with_all heard number m (write_sets_from (Fact.Booted epoch))
length-next heard number m (Fact.Floor origin era upto) = length-with_all heard number m (write_sets_from (Fact.Floor origin era upto))
length-next heard number m (Fact.Promised k low high b) = length-with_all heard number m (write_sets_from (Fact.Promised k low high b))
length-next heard number m (Fact.Voted k v b options offered) = length-with_all heard number m (write_sets_from (Fact.Voted k v b options offered))
length-next heard number m (Fact.Heard t outcome) = let few = length-without m t in omega (arith, few)
length-next heard number m (Fact.Adopted k v item adds) = length-with_all heard number m (write_sets_from (Fact.Adopted k v item adds))

-- ---- one more fact

same-fold : {X : Type 0} (heard : TxId → Bool) (facts : List Fact) → TellsHeard heard facts → (number : ℕ) (m : TxMap ℕ) (es : TxMap X)
    → with_all_unheard heard number m (txs_of es) ≡ fold (with_unheard_of facts) m (listed_by (λ x. number) es)
same-fold heard facts tells number m [] = refl
same-fold heard facts tells number m (e ∷ es) =
    ap (λ b. with_all_unheard heard number (if b then m else with_entry m (e.0, number)) (txs_of es)) (tells e.0)
    ∙ same-fold heard facts tells number (with_unheard_of facts m (e.0, number)) es

older-read : (facts : List Fact) (fact : Fact) (tx : TxId) (number : Option ℕ) → IfSome number (λ n. n < length facts)
    → option_and_then (λ n. write_set_numbered facts n tx) number ≡ option_and_then (λ n. write_set_numbered (fact ∷ facts) n tx) number
older-read facts fact tx None within = refl
older-read facts fact tx (Some n) within = rw (numbered-older fact facts n within) refl

abbrev unless : {X : Type 0} → Bool → Option X → Option X
unless heard o = if heard then None else o

or-some : {X : Type 0} (a b : Option X) → is_some a ≡ true → option_or a b ≡ a
or-some None b h = absurd (cc)
or-some (Some a) b h = refl

some-vote : {X Y : Type 0} (a : Option X) (b : Option Y) (heard : Bool) (o : Option X) (y : Y) → is_some b ≡ is_some a
    → is_some (option_or b (unless heard (option_map (λ x. y) o))) ≡ is_some (option_or a (unless heard o))
some-vote None None true o y same = refl
some-vote None None false None y same = refl
some-vote None None false (Some x) y same = refl
some-vote None (Some y') heard o y same = absurd (cc)
some-vote (Some x) None heard o y same = absurd (cc)
some-vote (Some x) (Some y') heard o y same = refl

vote-read : {X : Type 0} (older newer : ℕ → Option X) (a : Option X) (b : Option ℕ) (heard : Bool) (o : Option X) (number : ℕ)
    → a ≡ option_and_then older b → is_some b ≡ is_some a → option_and_then older b ≡ option_and_then newer b → newer number ≡ o
    → option_or a (unless heard o) ≡ option_and_then newer (option_or b (unless heard (option_map (λ x. number) o)))
vote-read older newer a None true o number is some more newest = rw is refl
vote-read older newer a None false None number is some more newest = rw is refl
vote-read older newer a None false (Some x) number is some more newest = rw is (sym newest)
vote-read older newer a (Some n) heard o number is some more newest = or-some a (unless heard o) (sym some) ∙ is ∙ more

kept-read : {X : Type 0} (older newer : ℕ → Option X) (a : Option X) (b : Option ℕ) (keep : Bool)
    → a ≡ option_and_then older b → option_and_then older b ≡ option_and_then newer b → kept_value keep a ≡ option_and_then newer (kept_value keep b)
kept-read older newer a b true is more = is ∙ more
kept-read older newer a b false is more = refl

txs-kept : {X : Type 0} (keep : TxId → Bool) (m : TxMap X) → txs_of (filter (λ e. keep e.0) m) ≡ filter keep (txs_of m)
txs-kept keep [] = refl
txs-kept keep (e ∷ es) =
    let ih = txs-kept keep es in
    elim (cases_Bool (keep e.0)) [
      | inl kept ↦ rw kept (ap (λ ts. e.0 ∷ ts) ih)
      | inr left ↦ rw left ih
    ]

module _ (entries : TxMap ℕ) (facts : List Fact) (lists : ListsUnresolved entries facts) where
  abbrev u : TxMap (List (Key × ℕ))
  u = plain_unresolved_of facts

  older-here : (fact : Fact) (tx : TxId) → option_and_then (λ n. write_set_numbered facts n tx) (value_of entries tx) ≡ option_and_then (λ n. write_set_numbered (fact ∷ facts) n tx) (value_of entries tx)
  older-here fact tx = older-read facts fact tx (value_of entries tx) (value-below (length facts) entries tx lists.numbers)

  lists-heard : (t : TxId) (fact : Fact) → plain_unresolved_of (fact ∷ facts) ≡ filter (λ e. not (tx_eq e.0 t)) u → AreBelowNumber (length facts + 1) (without entries t)
      → ListsUnresolved (without entries t) (fact ∷ facts)
  lists-heard t fact is below = record {
    txs = txs-kept (λ s. not (tx_eq s t)) entries ∙ ap (filter (λ s. not (tx_eq s t))) lists.txs ∙ sym (txs-kept (λ s. not (tx_eq s t)) u) ∙ ap txs_of (sym is);
    write_sets = λ tx.
        ap (λ m. value_of m tx) is ∙ value-kept (λ s. not (tx_eq s t)) u tx
        ∙ kept-read (λ n. write_set_numbered facts n tx) (λ n. write_set_numbered (fact ∷ facts) n tx) (value_of u tx) (value_of entries tx) (not (tx_eq tx t)) (lists.write_sets tx) (older-here fact tx)
        ∙ ap (option_and_then (λ n. write_set_numbered (fact ∷ facts) n tx)) (sym (value-kept (λ s. not (tx_eq s t)) entries tx));
    numbers = below-more (length facts + 1) (length (fact ∷ facts)) (without entries t) (omega arith) below;
  }

  module _ (heard : TxId → Bool) (tells : TellsHeard heard facts) (number : ℕ) (newest : number ≡ length facts) (fact : Fact) where
    abbrev es : TxMap (List (Key × ℕ))
    es = write_sets_from fact

    abbrev next : TxMap ℕ
    next = with_all_unheard heard number entries (txs_of es)

    next-value : (tx : TxId) → value_of next tx ≡ option_or (value_of entries tx) (unless (is_heard facts tx) (option_map (λ x. number) (value_of es tx)))
    next-value tx =
        ap (λ m. value_of m tx) (same-fold heard facts tells number entries es) ∙ folded-value facts entries (listed_by (λ x. number) es) tx
        ∙ ap (λ o. option_or (value_of entries tx) (unless (is_heard facts tx) o)) (value-listed (λ x. number) es tx)

    next-ascends : are_ascending next ≡ true
    next-ascends =
        ap are_ascending (same-fold heard facts tells number entries es)
        ∙ folded-ascends facts entries (listed_by (λ x. number) es) (ascending-alike entries u lists.txs (unresolved-ascends facts))

    read-newest : (tx : TxId) → write_set_numbered (fact ∷ facts) number tx ≡ value_of es tx
    read-newest tx = rw (newest, numbered-newest fact facts) refl

    lists-vote : plain_unresolved_of (fact ∷ facts) ≡ fold (with_unheard_of facts) u es → AreBelowNumber (number + 1) next → ListsUnresolved next (fact ∷ facts)
    lists-vote is below = record {
      txs = txs-alike next (plain_unresolved_of (fact ∷ facts)) next-ascends (unresolved-ascends (fact ∷ facts))
          (λ tx. ap is_some (next-value tx)
          ∙ some-vote (value_of u tx) (value_of entries tx) (is_heard facts tx) (value_of es tx) number (some-alike entries u tx lists.txs)
          ∙ ap is_some (sym (folded-value facts u es tx)) ∙ ap (λ m. is_some (value_of m tx)) (sym is));
      write_sets = λ tx.
          ap (λ m. value_of m tx) is ∙ folded-value facts u es tx
          ∙ vote-read (λ n. write_set_numbered facts n tx) (λ n. write_set_numbered (fact ∷ facts) n tx) (value_of u tx) (value_of entries tx) (is_heard facts tx) (value_of es tx) number
          (lists.write_sets tx) (some-alike entries u tx lists.txs) (older-here fact tx) (read-newest tx)
          ∙ ap (option_and_then (λ n. write_set_numbered (fact ∷ facts) n tx)) (sym (next-value tx));
      numbers = below-more (number + 1) (length (fact ∷ facts)) next (omega arith) below;
    }

pub lists-more : (heard : TxId → Bool) (entries : TxMap ℕ) (facts : List Fact) (fact : Fact) (number : ℕ) → ListsUnresolved entries facts → TellsHeard heard facts → number ≡ length facts
    → ListsUnresolved (next_numbers heard number entries fact) (fact ∷ facts)
lists-more heard entries facts fact number lists tells newest = by fact
  where
    below : (fact : Fact) → AreBelowNumber (number + 1) (next_numbers heard number entries fact)
    below fact = below-next heard number entries fact (below-more (length facts) number entries (omega arith) lists.numbers)

    vote : (fact : Fact) → plain_unresolved_of (fact ∷ facts) ≡ fold (with_unheard_of facts) (plain_unresolved_of facts) (write_sets_from fact)
        → AreBelowNumber (number + 1) (with_all_unheard heard number entries (txs_of (write_sets_from fact))) → ListsUnresolved (with_all_unheard heard number entries (txs_of (write_sets_from fact))) (fact ∷ facts)
    vote fact = lists-vote entries facts lists heard tells number newest fact

    by : (fact : Fact) → ListsUnresolved (next_numbers heard number entries fact) (fact ∷ facts)
    by (Fact.Booted epoch) = vote (Fact.Booted epoch) (unresolved-updates facts (Fact.Booted epoch)) (below (Fact.Booted epoch))
    by (Fact.Floor origin era upto) = vote (Fact.Floor origin era upto) (unresolved-updates facts (Fact.Floor origin era upto)) (below (Fact.Floor origin era upto))
    by (Fact.Promised k low high b) = vote (Fact.Promised k low high b) (unresolved-updates facts (Fact.Promised k low high b)) (below (Fact.Promised k low high b))
    by (Fact.Voted k v b options offered) = vote (Fact.Voted k v b options offered) (unresolved-updates facts (Fact.Voted k v b options offered)) (below (Fact.Voted k v b options offered))
    by (Fact.Heard t outcome) =
        lists-heard entries facts lists t (Fact.Heard t outcome) (unresolved-updates facts (Fact.Heard t outcome))
        (below-more (number + 1) (length facts + 1) (without entries t) (omega arith) (below (Fact.Heard t outcome)))
    by (Fact.Adopted k v item adds) = vote (Fact.Adopted k v item adds) (unresolved-updates facts (Fact.Adopted k v item adds)) (below (Fact.Adopted k v item adds))

pub lists-none : ListsUnresolved [] []
lists-none = record { txs = refl; write_sets = λ tx. refl; numbers = tt }
