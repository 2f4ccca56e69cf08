-- What a node answers its client is well-formed.
use Rattle.std.proofs.Common.{◌≡◌, ℕ, ℤ, ◌+◌, ◌-◌, ◌^◌, ◌&&◌, ◌==◌, ◌<◌, ◌≤◌, Bool, true, false, cond, List, [], ◌∷◌, length, map, refl, sym, subst, Option, Some, None, Ok, Err, fold, nat_le, arith}
use Rattle.std.specs.Int.{IsInRange, w64}
use Rattle.std.specs.List.{AllByRecursion, enumerate_from}
use Rattle.std.specs.Prelude.{FitsSigned, int_lt, negsuc, option_map, pos, unwrap_or, ◌+ℤ◌}
use Rattle.std.proofs.lemmas.Bool.{and_from, and_parts, cond_both, ltb-false}
use Rattle.mdcc_base.specs.Key.{IsKey}
use Rattle.mdcc_base.specs.TxId.{tx_lt}
use Rattle.mdcc_base.specs.declared.identifiers.TxId.{TxId}
use Rattle.mdcc_base.specs.declared.key.Key.{Key}
use Rattle.mdcc_option.specs.Equality.{txs_eq}
use Rattle.mdcc_option.specs.OneCopy.{amount_at, read_value}
use Rattle.mdcc_option.specs.declared.cluster.Cluster.{Cluster}
use Rattle.mdcc_option.specs.declared.faults.BeginFault.{BeginFault}
use Rattle.mdcc_option.specs.declared.items.Item.{Item}
use Rattle.mdcc_option.specs.declared.items.Part.{Part}
use Rattle.mdcc_option.specs.declared.items.Token.{Token}
use Rattle.mdcc_option.specs.declared.items.Update.{Update}
use Rattle.mdcc_struct.specs.Maps.{TxMap, are_ascending, txs_of}
use Rattle.mdcc_def_protocol.specs.Facts.{base_of, current_of, epoch_of, executed_of, token_of}
use Rattle.mdcc_def_protocol.specs.Manager.{add_fault, begin_with, begin_fault, first_key, part_begin_fault, parts_begin_fault, update_begin_fault}
use Rattle.mdcc_def_rules.specs.ManagerRules.{begin_step_by}
use Rattle.mdcc_def_protocol.specs.Marks.{Amounts}
use Rattle.mdcc_def_rules.specs.Node.{checked_for_room, is_own_message, message_step, step_of}
use Rattle.mdcc_def_rules.specs.Steps.{NodeStep}
use Rattle.mdcc_def_protocol.specs.Visible.{item_read, value_read}
use Rattle.mdcc_def_protocol.specs.Volatile.{Managing, Volatile}
use Rattle.mdcc_def_messages.specs.WellFormed.{IsWellFormedRefusal, IsWellFormedShown, IsWellFormedToken}
use Rattle.mdcc_def_messages.specs.WellFormedParts.{IsWellFormedItem, IsWellFormedPart, IsWellFormedTx, is_ascending_by}
use Rattle.mdcc_def_messages.specs.declared.facts.Fact.{Fact}
use Rattle.mdcc_def_rules.specs.declared.node.Answer.{Answer}
use Rattle.mdcc_def_rules.specs.declared.node.Input.{Input}
use Rattle.mdcc_def_rules.specs.declared.node.StepFault.{StepFault}
use Rattle.mdcc_theorem_node_steps.specs.StepAnswers.{IsWellFormedGivenAnswer}
use Rattle.mdcc_theorem_node_steps.specs.NodeInvariant.{IsNode}
use Rattle.mdcc_theorem_node_steps.specs.Inputs.{AreWellFormedParts, IsWellFormedInput}
use Rattle.mdcc_theorem_node_steps.specs.WellFormedVolatile.{AreNodeFacts}
use Rattle.mdcc_theorem_node_steps.proofs.Allowing.{OnStep, on_checked}
use Rattle.mdcc_theorem_node_steps.proofs.Each.{each-map, each-weaker}
use Rattle.mdcc_theorem_node_steps.proofs.Executed.{executed-few}
use Rattle.mdcc_theorem_node_steps.proofs.Formed.{begun-tx}
use Rattle.mdcc_theorem_node_steps.proofs.Held.{HoldsIn, holds-or}
use Rattle.mdcc_theorem_node_steps.proofs.Opened.{length-map}
use Rattle.mdcc_theorem_node_steps.proofs.Quiet.{IsQuiet, quiet-message}
use Rattle.mdcc_theorem_node_steps.proofs.Sending.{centre-range}
use Rattle.mdcc_theorem_node_steps.proofs.Stepping.{on_made}
use Rattle.mdcc_theorem_node_steps.proofs.Told.{IsWellFormedDeltaAt, base-told, current-fits, deltas-ascending, deltas-told}
use Rattle.mdcc_def_rules.specs.Here.{here}

-- ---- reads

txs-ascending : (m : TxMap Amounts) → are_ascending m ≡ true → is_ascending_by tx_lt (txs_of m) ≡ true
txs-ascending [] h = refl
txs-ascending (e ∷ []) h = refl
txs-ascending (e ∷ f ∷ es) h = let both = and_parts (tx_lt e.0 f.0) (are_ascending (f ∷ es)) h in and_from _ _ both.0 (txs-ascending (f ∷ es) both.1)

token-formed : (cluster : Cluster) (facts : List Fact) (key : Key) → AreNodeFacts cluster facts → IsWellFormedToken (token_of facts key)
token-formed cluster facts key known = record {
  version = current-fits facts key known.well_formed;
  seen = record {
    few = subst (λ n. n ≤ 64) (sym (length-map (λ (e : TxId × Amounts). e.0) (executed_of facts key))) (executed-few cluster facts key known.allowed);
    each = each-map IsWellFormedTx (λ (e : TxId × Amounts). e.0) (executed_of facts key)
        (each-weaker IsWellFormedDeltaAt (λ (e : TxId × Amounts). IsWellFormedTx e.0) (executed_of facts key) (λ e h. h.0) (deltas-told facts key (current_of facts key) known.well_formed));
    ascending = txs-ascending (executed_of facts key) (deltas-ascending facts key (current_of facts key));
  };
}

read-fits : (z : ℤ) → FitsSigned w64 (read_value z)
read-fits (pos n) =
    cond_both (int_lt (pos (2 ^ 63 - 1)) (pos n)) (pos (2 ^ 63 - 1)) (pos n) (FitsSigned w64) (λ e. record { sfits = omega arith }) (λ e. record { sfits = let k = ltb-false (2 ^ 63 - 1) n e in omega arith })
read-fits (negsuc n) =
    cond_both (int_lt (negsuc n) (negsuc (2 ^ 63 - 1))) (negsuc (2 ^ 63 - 1)) (negsuc n) (FitsSigned w64) (λ e. record { sfits = omega arith }) (λ e. record { sfits = let k = ltb-false (2 ^ 63 - 1) n e in omega arith })

values-fit : (deltas : TxMap Amounts) (at : ℕ) (values : List ℤ) → AllByRecursion (FitsSigned w64) (map (value_read deltas) (enumerate_from at values))
values-fit deltas at [] = tt
values-fit deltas at (v ∷ vs) = (read-fits (fold (λ value e. value +ℤ amount_at (at + 1) e.1) v deltas), values-fit deltas (at + 1) vs)

length-values : (deltas : TxMap Amounts) (at : ℕ) (values : List ℤ) → length (map (value_read deltas) (enumerate_from at values)) ≡ length values
length-values deltas at [] = refl
length-values deltas at (v ∷ vs) = let ih = length-values deltas (at + 1) vs in omega arith

shown-formed : (deltas : TxMap Amounts) (o : Option Item) → HoldsIn IsWellFormedItem o → IsWellFormedShown (option_map (item_read deltas) o)
shown-formed deltas None h = tt
shown-formed deltas (Some item) h = record {
  body_fits = h.body_fits;
  bytes = h.bytes;
  count = subst (λ n. IsInRange 1 4 n) (sym (length-values deltas 0 item.values)) h.count;
  values = values-fit deltas 0 item.values;
}

-- ---- refusals

write-refusal : (b : Bool) (token : Token) → IsWellFormedToken token → HoldsIn IsWellFormedRefusal (cond b None (Some (BeginFault.Stale token)))
write-refusal true token w = tt
write-refusal false token w = w

add-refusal : (current version : ℕ) → current < 2 ^ 64 → HoldsIn IsWellFormedRefusal (add_fault current version)
add-refusal current version w =
    cond_both (current == version) (cond (current == 0) (Some BeginFault.NoItem) None) (Some (BeginFault.Unseen current)) (HoldsIn IsWellFormedRefusal)
    (λ e. cond_both (current == 0) (Some BeginFault.NoItem) None (HoldsIn IsWellFormedRefusal) (λ f. tt) (λ f. tt)) (λ e. w)

-- a fault with its key
abbrev IsRefusal : Key × BeginFault → Type 0
IsRefusal f = IsKey f.0 × IsWellFormedRefusal f.1

part-refusal : (cluster : Cluster) (facts : List Fact) (key : Key) (version : ℕ) (update : Update) → AreNodeFacts cluster facts → HoldsIn IsWellFormedRefusal (update_begin_fault facts key version update)
part-refusal cluster facts key version (Update.Write item seen) known =
    let token = token_of facts key in write-refusal (token.version == version && txs_eq token.seen seen) token (token-formed cluster facts key known)
part-refusal cluster facts key version (Update.Add amounts) known = add-refusal (current_of facts key) version (current-fits facts key known.well_formed)

keyed : (key : Key) (o : Option BeginFault) → IsKey key → HoldsIn IsWellFormedRefusal o → HoldsIn IsRefusal (option_map (λ (fault : BeginFault). (key, fault)) o)
keyed key None w h = tt
keyed key (Some fault) w h = (w, h)

parts-refusal : (cluster : Cluster) (facts : List Fact) (parts : List Part) → AreNodeFacts cluster facts → AllByRecursion IsWellFormedPart parts → HoldsIn IsRefusal (parts_begin_fault facts parts)
parts-refusal cluster facts [] known w = tt
parts-refusal cluster facts (part ∷ parts) known w =
    holds-or IsRefusal (option_map (λ fault. (part.key, fault)) (part_begin_fault facts part)) (parts_begin_fault facts parts)
    (keyed part.key (part_begin_fault facts part) w.0.key (part-refusal cluster facts part.key part.version part.update known)) (parts-refusal cluster facts parts known w.1)

first-key : (parts : List Part) → 1 ≤ length parts → AllByRecursion IsWellFormedPart parts → IsKey (first_key parts)
first-key [] h w = absurd (omega arith)
first-key (part ∷ parts) h w = w.0.key

key-refused : (o : Option (Key × BeginFault)) (key : Key) → IsKey key → HoldsIn IsRefusal o → IsKey (unwrap_or (option_map (λ (fault : Key × BeginFault). fault.0) o) key)
key-refused None key w h = w
key-refused (Some fault) key w h = h.0

begin-refusal : (cluster : Cluster) (facts : List Fact) (manager : Managing) (parts : List Part) → AreNodeFacts cluster facts → AreWellFormedParts parts → HoldsIn IsRefusal (begin_fault facts manager parts)
begin-refusal cluster facts manager parts known w =
    let key = first-key parts w.count.0 w.each in
    holds-or IsRefusal (parts_begin_fault facts parts) (cond (nat_le (2 ^ 32 - 1) manager.seq) (Some (first_key parts, BeginFault.Sequence)) (cond (nat_le 256 (length manager.opened)) (Some (first_key parts, BeginFault.Busy)) None))
    (parts-refusal cluster facts parts known w.each)
    (cond_both (nat_le (2 ^ 32 - 1) manager.seq) (Some (first_key parts, BeginFault.Sequence)) (cond (nat_le 256 (length manager.opened)) (Some (first_key parts, BeginFault.Busy)) None) (HoldsIn IsRefusal) (λ e. (key, tt))
    (λ e. cond_both (nat_le 256 (length manager.opened)) (Some (first_key parts, BeginFault.Busy)) None (HoldsIn IsRefusal) (λ f. (key, tt)) (λ f. tt)))

-- ---- a step's answer

abbrev IsAnswered : NodeStep → Type 0
IsAnswered step = HoldsIn IsWellFormedGivenAnswer step.answer

quiet-answered : (o : Option Answer) → o ≡ None → HoldsIn IsWellFormedGivenAnswer o
quiet-answered o e = rw e tt

begin-answered : (cluster : Cluster) (me : ℕ) (facts : List Fact) (volatile : Volatile) (parts : List Part) (fault : Option (Key × BeginFault)) → IsInRange 1 9 me → AreNodeFacts cluster facts → AreWellFormedParts parts
    → begin_fault facts volatile.manager parts ≡ fault → HoldsIn IsRefusal fault → IsAnswered (begin_step_by (here cluster me facts) volatile parts (begin_with me (epoch_of facts) volatile.manager parts fault))
begin-answered cluster me facts volatile parts (Some fault) of_me known w e h =
    (key-refused (parts_begin_fault facts parts) (first_key parts) (first-key parts w.count.0 w.each) (parts-refusal cluster facts parts known w.each), h.1)
begin-answered cluster me facts volatile parts None of_me known w e h = begun-tx cluster me facts volatile of_me known parts e

answered-step : (cluster : Cluster) (me : ℕ) (facts : List Fact) (volatile : Volatile) (input : Input) → IsInRange 1 9 me → AreNodeFacts cluster facts → IsWellFormedInput input
    → OnStep IsAnswered (step_of (here cluster me facts) volatile input)
answered-step cluster me facts volatile (Input.Message envelope) of_me known w =
    cond_both (is_own_message cluster me envelope) (checked_for_room cluster facts (message_step (here cluster me facts) volatile envelope.from envelope.message)) (Err StepFault.Foreign) (OnStep IsAnswered)
    (λ e. on_checked IsQuiet IsAnswered cluster facts (message_step (here cluster me facts) volatile envelope.from envelope.message) (λ step h room. quiet-answered step.answer h)
    (quiet-message cluster me facts volatile envelope.from envelope.message)) (λ e. tt)
answered-step cluster me facts volatile Input.Tick of_me known w = tt
answered-step cluster me facts volatile Input.Sweep of_me known w = tt
answered-step cluster me facts volatile (Input.Read key) of_me known w =
    (token-formed cluster facts key known, shown-formed (executed_of facts key) (base_of facts key) (base-formed (base_of facts key) (base-told facts key known.well_formed)))
  where
    base-formed : (o : Option Item) → HoldsIn (λ item. IsWellFormedItem item × (1 ≤ current_of facts key)) o → HoldsIn IsWellFormedItem o
    base-formed None h = tt
    base-formed (Some item) h = h.0
answered-step cluster me facts volatile (Input.Begin parts) of_me known w =
    begin-answered cluster me facts volatile parts (begin_fault facts volatile.manager parts) of_me known w refl (begin-refusal cluster facts volatile.manager parts known w)

answer-at : (o : Option Answer) (answer : Answer) → HoldsIn IsWellFormedGivenAnswer o → o ≡ Some answer → IsWellFormedGivenAnswer answer
answer-at o answer h e = rw e at h

pub answer-formed : (cluster : Cluster) (me : ℕ) (facts : List Fact) (volatile : Volatile) (input : Input) (step : NodeStep) (answer : Answer)
    → IsNode cluster me facts volatile → IsWellFormedInput input → step_of (here cluster me facts) volatile input ≡ Ok step → step.answer ≡ Some answer → IsWellFormedGivenAnswer answer
answer-formed cluster me facts volatile input step answer node w made is =
    answer-at step.answer answer
    (on_made IsAnswered _ step (answered-step cluster me facts volatile input (centre-range cluster me node.cluster_itself.quorums node.centre) node.facts_themselves w) made) is
