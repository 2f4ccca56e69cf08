-- Well-formed messages to centres of the cluster, among them what is held of a key.
use Rattle.std.proofs.Common.{◌≡◌, ℕ, zero, suc, ◌+◌, ◌==◌, ◌≤◌, false, true, List, [], ◌∷◌, map, refl, sym, inl, subst, Option, Some, None, not, filter, nat_le, arith}
use Rattle.std.specs.Int.{IsInRange}
use Rattle.std.specs.List.{AllByRecursion, flat_map, range_with_len}
use Rattle.std.specs.Prelude.{option_map, ⊤}
use Rattle.std.proofs.lemmas.Bool.{and_from, and_parts, leb-true}
use Rattle.mdcc_base.specs.AreQuorums.{AreQuorums}
use Rattle.mdcc_base.specs.Key.{IsKey}
use Rattle.mdcc_base.specs.Quorums.{all_centres, home_of}
use Rattle.mdcc_base.specs.Sizes.{Sizes}
use Rattle.mdcc_base.specs.TxId.{tx_lt}
use Rattle.mdcc_base.specs.declared.identifiers.TxId.{TxId}
use Rattle.mdcc_base.specs.declared.key.Key.{Key}
use Rattle.mdcc_option.specs.declared.cluster.Cluster.{Cluster}
use Rattle.mdcc_option.specs.declared.items.Item.{Item}
use Rattle.mdcc_struct.specs.Maps.{TxMap, are_ascending}
use Rattle.mdcc_def_protocol.specs.Belongs.{is_centre}
use Rattle.mdcc_def_protocol.specs.Facts.{base_of, current_of, executed_of}
use Rattle.mdcc_def_protocol.specs.Marks.{Amounts}
use Rattle.mdcc_def_protocol.specs.Structures.{is_crowded}
use Rattle.mdcc_def_rules.specs.Messages.{to_all, to_each, to_one, to_others}
use Rattle.mdcc_def_rules.specs.SyncRules.{give_sent, give_sent_by}
use Rattle.mdcc_def_messages.specs.WellFormed.{IsWellFormedEnvelope, IsWellFormedMessage}
use Rattle.mdcc_def_messages.specs.WellFormedParts.{IsWellFormedDelta, IsWellFormedGiven, IsWellFormedItem, delta_lt, is_ascending_by}
use Rattle.mdcc_def_messages.specs.declared.facts.Fact.{Fact}
use Rattle.mdcc_def_messages.specs.declared.messages.Envelope.{Envelope}
use Rattle.mdcc_def_messages.specs.declared.messages.Message.{Message}
use Rattle.mdcc_theorem_node_steps.specs.WellFormedVolatile.{AreNodeFacts}
use Rattle.mdcc_theorem_node_steps.proofs.Each.{each-append, each-kept, each-map, each-weaker}
use Rattle.mdcc_theorem_node_steps.proofs.Executed.{executed-few}
use Rattle.mdcc_theorem_node_steps.proofs.Held.{HoldsIn}
use Rattle.mdcc_theorem_node_steps.proofs.Opened.{length-map}
use Rattle.mdcc_theorem_node_steps.proofs.Told.{IsWellFormedDeltaAt, base-told, current-fits, deltas-ascending, deltas-told}

-- ---- centres

pub centre-range : (cluster : Cluster) (a : ℕ) → AreQuorums cluster.quorums → is_centre cluster a ≡ true → IsInRange 1 9 a
centre-range cluster a sizes h =
    let both = and_parts (nat_le 1 a) (nat_le a cluster.quorums.centres) h in
    (leb-true 1 a both.0, omega (arith, leb-true a cluster.quorums.centres both.1, sizes.nine_centres))

pub home-range : (quorums : Sizes) (key : Key) → AreQuorums quorums → IsInRange 1 9 (home_of quorums key)
home-range quorums key sizes = (omega arith, omega (arith, sizes.some_centre, sizes.nine_centres))

range-within : (a n : ℕ) → 1 ≤ a → a + n ≤ 10 → AllByRecursion (IsInRange 1 9) (range_with_len a n)
range-within a zero h k = tt
range-within a (suc n) h k = ((h, omega arith), range-within (a + 1) n (omega arith) (omega arith))

pub centres-range : (quorums : Sizes) → AreQuorums quorums → AllByRecursion (IsInRange 1 9) (all_centres quorums)
centres-range quorums sizes = range-within 1 quorums.centres (omega arith) (omega (arith, sizes.nine_centres))

-- ---- one message to centres

-- a structure in a message has at most 1,024 accepted and 32,768 rejected marks
abbrev pub HasRoomIn : Message → Type 0
HasRoomIn (Message.Accept key version ballot options) = is_crowded options ≡ false
HasRoomIn _ = ⊤

-- a message that may be sent
abbrev pub IsGoodSent : Envelope → Type 0
IsGoodSent e = IsWellFormedEnvelope e × HasRoomIn e.message

pub each-to : (centres : List ℕ) (me : ℕ) (message : Message) → HasRoomIn message → AllByRecursion (IsInRange 1 9) centres → IsInRange 1 9 me → IsWellFormedMessage message
    → AllByRecursion IsGoodSent (to_each centres me message)
each-to [] me message r h k w = tt
each-to (a ∷ as') me message r h k w = ((record { from = inl k; to = inl h.0; message = w }, r), each-to as' me message r h.1 k w)

pub sent-one : (me a : ℕ) (message : Message) → HasRoomIn message → IsInRange 1 9 me → IsInRange 1 9 a → IsWellFormedMessage message → AllByRecursion IsGoodSent (to_one me a message)
sent-one me a message r h k w = ((record { from = inl h; to = inl k; message = w }, r), tt)

pub sent-all : (quorums : Sizes) (me : ℕ) (message : Message) → HasRoomIn message → AreQuorums quorums → IsInRange 1 9 me → IsWellFormedMessage message
    → AllByRecursion IsGoodSent (to_all quorums me message)
sent-all quorums me message r sizes h w = each-to (all_centres quorums) me message r (centres-range quorums sizes) h w

pub sent-others : (quorums : Sizes) (me : ℕ) (message : Message) → HasRoomIn message → AreQuorums quorums → IsInRange 1 9 me → IsWellFormedMessage message
    → AllByRecursion IsGoodSent (to_others quorums me message)
sent-others quorums me message r sizes h w =
    each-to (filter (λ to. not (to == me)) (all_centres quorums)) me message r (each-kept (IsInRange 1 9) (λ to. not (to == me)) (all_centres quorums) (centres-range quorums sizes)) h w

pub each-flat_map : {X Y : Type 0} (P : X → Type 0) (Q : Y → Type 0) (f : X → List Y) (xs : List X) → ((x : X) → P x → AllByRecursion Q (f x)) → AllByRecursion P xs
    → AllByRecursion Q (flat_map f xs)
each-flat_map P Q f [] k h = tt
each-flat_map P Q f (x ∷ xs) k h = each-append Q (f x) (flat_map f xs) (k x h.0) (each-flat_map P Q f xs k h.1)

-- ---- what is held of a key

adds-ascending : (m : TxMap Amounts) → are_ascending m ≡ true → is_ascending_by delta_lt (map (λ e. record { tx = e.0; amounts = e.1 }) m) ≡ true
adds-ascending [] h = refl
adds-ascending (e ∷ []) h = refl
adds-ascending (e ∷ f ∷ es) h = let both = and_parts (tx_lt e.0 f.0) (are_ascending (f ∷ es)) h in and_from _ _ both.0 (adds-ascending (f ∷ es) both.1)

pub given-formed : (cluster : Cluster) (facts : List Fact) (key : Key) (item : Item) → AreNodeFacts cluster facts → IsKey key
    → IsWellFormedItem item → 1 ≤ current_of facts key
    → IsWellFormedGiven key (current_of facts key) item (map (λ (e : TxId × Amounts). record { tx = e.0; amounts = e.1 }) (executed_of facts key))
given-formed cluster facts key item known of_key of_item some = record {
  instance = record { key_itself = of_key; version_fits = current-fits facts key known.well_formed };
  some_version = some;
  base = of_item;
  few = subst (λ n. n ≤ 64) (sym (length-map (λ (e : TxId × Amounts). record { tx = e.0; amounts = e.1 }) (executed_of facts key))) (executed-few cluster facts key known.allowed);
  each = each-map IsWellFormedDelta (λ (e : TxId × Amounts). record { tx = e.0; amounts = e.1 }) (executed_of facts key)
      (each-weaker IsWellFormedDeltaAt (λ (e : TxId × Amounts). IsWellFormedDelta (record { tx = e.0; amounts = e.1 })) (executed_of facts key) (λ e h. record { tx = h.0; amounts = h.1 })
      (deltas-told facts key (current_of facts key) known.well_formed));
  ascending = adds-ascending (executed_of facts key) (deltas-ascending facts key (current_of facts key));
}

pub sent-give : (cluster : Cluster) (me : ℕ) (facts : List Fact) (s : ℕ) (key : Key) → AreNodeFacts cluster facts → IsInRange 1 9 me → IsInRange 1 9 s → IsKey key
    → AllByRecursion IsGoodSent (give_sent me facts s key)
sent-give cluster me facts s key known of_me of_s of_key = by_base (base_of facts key) (base-told facts key known.well_formed)
  where
    by_base : (o : Option Item) → HoldsIn (λ item. IsWellFormedItem item × (1 ≤ current_of facts key)) o
        → AllByRecursion IsGoodSent (give_sent_by me s (option_map (λ (item : Item). record {
          key = key;
          version = current_of facts key;
          item = item;
          adds = map (λ (e : TxId × Amounts). record { tx = e.0; amounts = e.1 }) (executed_of facts key);
        }) o))
    by_base None h = tt
    by_base (Some item) h = sent-one me s (Message.SyncGive key (current_of facts key) item (map (λ (e : TxId × Amounts). record { tx = e.0; amounts = e.1 }) (executed_of facts key))) tt of_me of_s
        (given-formed cluster facts key item known of_key h.0 h.1)
