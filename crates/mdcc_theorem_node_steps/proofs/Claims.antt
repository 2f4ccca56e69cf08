-- The claims of dangling transactions are well-formed.
use Rattle.std.proofs.Common.{◌≡◌, ℕ, ◌&&◌, ◌==◌, true, List, [], ◌∷◌, refl, ◌∙◌, Option, Some, None, filter_map}
use Rattle.std.specs.List.{AllByRecursion, reduce}
use Rattle.std.specs.Option.{option_or}
use Rattle.std.specs.Prelude.{option_and_then}
use Rattle.std.proofs.lemmas.Bool.{and_parts, cond_both, eqb-true}
use Rattle.mdcc_base.specs.Key.{key_eq}
use Rattle.mdcc_base.specs.TxId.{tx_eq}
use Rattle.mdcc_base.specs.declared.identifiers.TxId.{TxId}
use Rattle.mdcc_base.specs.declared.key.Key.{Key}
use Rattle.mdcc_option.proofs.Equal.{Decides-key, Decides-tx}
use Rattle.mdcc_option.specs.declared.choices.Choice.{Choice}
use Rattle.mdcc_option.specs.declared.choices.Claim.{Claim}
use Rattle.mdcc_option.specs.declared.choices.Mark.{Mark}
use Rattle.mdcc_struct.specs.Maps.{value_of}
use Rattle.mdcc_def_protocol.specs.Facts.{choice_known, choice_of_tx, choice_voted, first_choice_voted, is_forgotten}
use Rattle.mdcc_def_protocol.specs.Leader.{claim_of_choice}
use Rattle.mdcc_def_protocol.specs.Learner.{votes_on}
use Rattle.mdcc_def_protocol.specs.Marks.{choice_in}
use Rattle.mdcc_def_protocol.specs.Recover.{choice_accepted, choice_received, claim_of_key}
use Rattle.mdcc_def_protocol.specs.Volatile.{Recovering}
use Rattle.mdcc_def_messages.specs.WellFormed.{IsWellFormedFact, IsWellFormedOffered}
use Rattle.mdcc_def_messages.specs.WellFormedParts.{IsWellFormedChoice, IsWellFormedEntry, IsWellFormedInstance, IsWellFormedTx, IsWellFormedWithin, IsWellFormedWritten}
use Rattle.mdcc_def_messages.specs.declared.facts.Fact.{Fact}
use Rattle.mdcc_def_protocol.specs.declared.votes.Vote.{Vote}
use Rattle.mdcc_theorem_node_steps.specs.WellFormedVolatile.{IsWellFormedClaim, IsWellFormedVoteKept}
use Rattle.mdcc_theorem_node_steps.proofs.Each.{each-filter, folded}
use Rattle.mdcc_theorem_node_steps.proofs.Held.{HoldsIn, each-filter_map, holds-or, holds-then, value-in}
use Rattle.mdcc_theorem_node_steps.proofs.Told.{entries-of}

-- a claim for an instance
abbrev pub IsFormedClaim : Claim → Type 0
IsFormedClaim claim = IsWellFormedInstance claim.key claim.version × IsWellFormedClaim claim.key claim.version claim.tx claim.choice

pub formed-choice : (choice : Choice) → IsWellFormedChoice choice → IsFormedClaim (claim_of_choice choice)
formed-choice choice w =
    (record { key_itself = w.key; version_fits = w.version }, record { choice_itself = w; same_tx = refl; same_key = refl; same_version = refl })

-- the choice of a mark
pub in-entry : (k key : Key) (v version : ℕ) (t tx : TxId) (mark : Mark) → k ≡ key → v ≡ version → t ≡ tx → IsWellFormedEntry k v t mark
    → HoldsIn (IsWellFormedWithin key version tx) (choice_in mark)
in-entry k key v version t tx Mark.Reject a b c h = tt
in-entry k key v version t tx (Mark.Accept choice) a b c h =
    record { choice_itself = h.choice_itself; same_tx = h.same_tx ∙ c; same_key = h.same_key ∙ a; same_version = h.same_version ∙ b }

-- ---- choices that votes here have

offered-choice : (key key' : Key) (version version' : ℕ) (tx : TxId) (offered : Option Choice) → key' ≡ key → version' ≡ version → IsWellFormedOffered key' version' offered
    → HoldsIn (IsWellFormedWithin key version tx) (option_and_then (choice_of_tx tx) offered)
offered-choice key key' version version' tx None a b w = tt
offered-choice key key' version version' tx (Some choice) a b w =
    cond_both (tx_eq choice.tx tx) (Some choice) None (HoldsIn (IsWellFormedWithin key version tx))
    (λ e. record { choice_itself = w.choice_itself; same_tx = (Decides-tx choice.tx tx).0 e; same_key = w.same_key ∙ a; same_version = w.same_version ∙ b }) (λ e. tt)

choice-here : (key : Key) (version : ℕ) (tx : TxId) (fact : Fact) → IsWellFormedFact fact → HoldsIn (IsWellFormedWithin key version tx) (choice_voted key version tx fact)
choice-here key version tx (Fact.Voted key' version' ballot options offered) w =
    cond_both (version' == version && key_eq key' key) (option_or (option_and_then choice_in (value_of options tx)) (option_and_then (choice_of_tx tx) offered)) None (HoldsIn (IsWellFormedWithin key version tx))
    (λ e.
    let parts = and_parts (version' == version) (key_eq key' key) e in
    holds-or (IsWellFormedWithin key version tx) (option_and_then choice_in (value_of options tx)) (option_and_then (choice_of_tx tx) offered)
    (holds-then (IsWellFormedEntry key version tx) (IsWellFormedWithin key version tx) choice_in (value_of options tx) (λ mark h. in-entry key key version version tx tx mark refl refl refl h)
    (value-in (IsWellFormedEntry key version) options tx (entries-of key key' version version' options e w.options_itself.each)))
    (offered-choice key key' version version' tx offered ((Decides-key key' key).0 parts.1) (eqb-true version' version parts.0) w.offered_itself)) (λ e. tt)
choice-here key version tx (Fact.Booted epoch) w = tt
choice-here key version tx (Fact.Floor origin era upto) w = tt
choice-here key version tx (Fact.Promised key' low high ballot) w = tt
choice-here key version tx (Fact.Heard other outcome) w = tt
choice-here key version tx (Fact.Adopted key' version' item adds) w = tt

first-known : (facts : List Fact) (key : Key) (version : ℕ) (tx : TxId) → AllByRecursion IsWellFormedFact facts → HoldsIn (IsWellFormedWithin key version tx) (first_choice_voted facts key version tx)
first-known [] key version tx w = tt
first-known (fact ∷ facts) key version tx w =
    holds-or (IsWellFormedWithin key version tx) (first_choice_voted facts key version tx) (choice_voted key version tx fact) (first-known facts key version tx w.1) (choice-here key version tx fact w.0)

known-choice : (facts : List Fact) (key : Key) (version : ℕ) (tx : TxId) → AllByRecursion IsWellFormedFact facts → HoldsIn (IsWellFormedWithin key version tx) (choice_known facts key version tx)
known-choice facts key version tx w =
    cond_both (is_forgotten facts key version tx) None (first_choice_voted facts key version tx) (HoldsIn (IsWellFormedWithin key version tx)) (λ e. tt) (λ e. first-known facts key version tx w)

-- ---- choices that counted votes have

holds-first : {X : Type 0} (P : X → Type 0) (xs : List X) → AllByRecursion P xs → HoldsIn P (reduce (λ a b. a) xs)
holds-first P [] h = tt
holds-first P (x ∷ xs) h = folded P (λ a b. a) x xs (λ a b h k. h) h.0 h.1

received-choice : (votes : List Vote) (tx : TxId) (key : Key) (version : ℕ) → AllByRecursion IsWellFormedVoteKept votes
    → HoldsIn (IsWellFormedWithin key version tx) (choice_received votes tx key version)
received-choice votes tx key version w =
    holds-first (IsWellFormedWithin key version tx) (filter_map (choice_accepted version) (votes_on votes tx key))
    (each-filter_map (λ vote. IsWellFormedVoteKept vote × ((tx_eq vote.tx tx && key_eq vote.key key) ≡ true)) (IsWellFormedWithin key version tx) (choice_accepted version) (votes_on votes tx key) accepted
    (each-filter IsWellFormedVoteKept (λ vote. tx_eq vote.tx tx && key_eq vote.key key) votes w))
  where
    accepted : (vote : Vote) → IsWellFormedVoteKept vote × ((tx_eq vote.tx tx && key_eq vote.key key) ≡ true) → HoldsIn (IsWellFormedWithin key version tx) (choice_accepted version vote)
    accepted vote h =
        let both = and_parts (tx_eq vote.tx tx) (key_eq vote.key key) h.1 in
        cond_both (vote.version == version) (choice_in vote.mark) None (HoldsIn (IsWellFormedWithin key version tx))
        (λ e. in-entry vote.key key vote.version version vote.tx tx vote.mark ((Decides-key vote.key key).0 both.1) (eqb-true vote.version version e) ((Decides-tx vote.tx tx).0 both.0) h.0.entry) (λ e. tt)

claim-with : (key : Key) (version : ℕ) (tx : TxId) (o : Option Choice) → IsWellFormedTx tx → HoldsIn (IsWellFormedWithin key version tx) o → IsWellFormedClaim key version tx o
claim-with key version tx None w h = w
claim-with key version tx (Some choice) w h = h

pub formed-key : (facts : List Fact) (recovery : Recovering) (tx : TxId) (e : Key × ℕ) → AllByRecursion IsWellFormedFact facts → AllByRecursion IsWellFormedVoteKept recovery.votes
    → IsWellFormedTx tx → IsWellFormedWritten e → IsFormedClaim (claim_of_key facts recovery tx e)
formed-key facts recovery tx (key, version) known votes of_tx w = (
  record { key_itself = w.key; version_fits = w.version },
  claim-with key version tx (option_or (choice_received recovery.votes tx key version) (choice_known facts key version tx)) of_tx
      (holds-or (IsWellFormedWithin key version tx) (choice_received recovery.votes tx key version) (choice_known facts key version tx)
      (received-choice recovery.votes tx key version votes) (known-choice facts key version tx known)),
)
