-- What the votes that were cast choose is what the ledger says.
use Rattle.std.proofs.Common.{◌≡◌, ℕ, Bool, true, false, cond, List, [], ◌∷◌, ◌++◌, Option, None, Some, inl, inr, refl, sym, ap, ◌∙◌, arith, fold, map, ◌&&◌, ◌==◌}
use Rattle.std.proofs.lemmas.Bool.{cases_Bool}
use Rattle.std.proofs.lemmas.List.{length-map, reverse-append}
use Rattle.std.proofs.lemmas.List.Sums.{fold-append}
use Rattle.std.specs.List.{list_all, list_any}
use Rattle.std.specs.Option.{option_or}
use Rattle.std.specs.Prelude.{filter_map, is_some, length, nat_lt, option_map, reverse}
use Rattle.mdcc_base.specs.Ballot.{ballot_eq}
use Rattle.mdcc_base.specs.Key.{key_eq}
use Rattle.mdcc_base.specs.Quorums.{all_centres}
use Rattle.mdcc_base.specs.Sizes.{Sizes}
use Rattle.mdcc_base.specs.TxId.{tx_eq}
use Rattle.mdcc_base.specs.declared.identifiers.Ballot.{Ballot}
use Rattle.mdcc_base.specs.declared.identifiers.TxId.{TxId}
use Rattle.mdcc_base.specs.declared.key.Key.{Key}
use Rattle.mdcc_option.specs.declared.choices.Choice.{Choice}
use Rattle.mdcc_option.specs.declared.choices.Mark.{Mark}
use Rattle.mdcc_def_protocol.specs.Facts.{votes_of}
use Rattle.mdcc_def_ledger.specs.Ledger.{Added, Begun, Entry, Valued, chosen_at, chosen_of, ballots_voted, choices_begun, facts_of, mark_given}
use Rattle.mdcc_def_protocol.specs.Marks.{is_commit, is_reject_found, outcome_of_marks}
use Rattle.mdcc_def_messages.specs.declared.facts.Fact.{Fact}
use Rattle.mdcc_struct.proofs.Values.{value_of-union}
use Rattle.mdcc_struct.specs.Maps.{union, value_of}
use Rattle.mdcc_struct.specs.declared.options.Options.{Options}
use Rattle.mdcc_world_decisions.specs.Ballots.{BallotsByKey, ballots_at}
use Rattle.mdcc_world_decisions.specs.Casts.{casts_among, casts_from, casts_of, chosen_by, chosen_cast, chosen_cast_at, mark_cast}
use Rattle.mdcc_world_decisions.specs.Decided.{chosen_in, decided_by, decided_cast, decided_of, instance_of_choice}
use Rattle.mdcc_world_decisions.specs.declared.casts.Cast.{Cast}

-- ---- one centre's mark

-- the first of two lists of votes counts first
pub mark_cast-append : (cs ds : List Cast) (key : Key) (version : ℕ) (ballot : Ballot) (a : ℕ)
    → mark_cast (cs ++ ds) key version ballot a ≡ option_or (mark_cast cs key version ballot a) (mark_cast ds key version ballot a)
mark_cast-append [] ds key version ballot a = refl
mark_cast-append (c ∷ cs) ds key version ballot a =
    let ih = mark_cast-append cs ds key version ballot a in
    elim (cases_Bool (c.centre == a && (c.version == version && ballot_eq c.ballot ballot && key_eq c.key key))) [
      | inl e ↦ rw e refl
      | inr e ↦ rw e ih
    ]

-- whether a vote is of this centre, in this instance and at this ballot
abbrev is_there : ℕ → Key → ℕ → Ballot → Key → ℕ → Ballot → ℕ → Bool
is_there centre key' version' ballot' key version ballot a =
    centre == a && (version' == version && ballot_eq ballot' ballot && key_eq key' key)

-- a vote on some marks has the mark that they have
pub mark_cast-among : (centre : ℕ) (key' : Key) (version' : ℕ) (ballot' : Ballot) (options : Options) (tx : TxId) (key : Key) (version : ℕ) (ballot : Ballot) (a : ℕ)
    → mark_cast (casts_among centre key' version' ballot' options tx) key version ballot a
    ≡ cond (is_there centre key' version' ballot' key version ballot a) (value_of options tx) None
mark_cast-among centre key' version' ballot' [] tx key version ballot a =
    elim (cases_Bool (is_there centre key' version' ballot' key version ballot a)) [
      | inl e ↦ rw e refl
      | inr e ↦ rw e refl
    ]
mark_cast-among centre key' version' ballot' (e ∷ es) tx key version ballot a =
    let ih = mark_cast-among centre key' version' ballot' es tx key version ballot a in
    elim (cases_Bool (tx_eq e.0 tx)) [
      | inl same ↦ rw same (elim (cases_Bool (is_there centre key' version' ballot' key version ballot a)) [
        | inl there ↦ rw there refl
        | inr other ↦ rw other (ih ∙ ap (λ b. cond b (value_of es tx) None) other)
      ])
      | inr other ↦ rw other ih
    ]

-- the mark that a fact of another kind gives is none, so only votes count
abbrev given_by : Key → ℕ → Ballot → TxId → Fact → Option Mark
given_by key version ballot tx (Fact.Voted key' version' ballot' options offered) =
    cond (version' == version && ballot_eq ballot' ballot && key_eq key' key) (value_of options tx) None
given_by key version ballot tx fact = None

votes_given : (votes options : Options) (tx : TxId) (b : Bool)
    → value_of (union votes (cond b options [])) tx ≡ option_or (value_of votes tx) (cond b (value_of options tx) None)
votes_given votes options tx true = value_of-union votes options tx
votes_given votes options tx false = value_of-union votes [] tx

votes_of-next : (fact : Fact) (facts : List Fact) (key : Key) (version : ℕ) (ballot : Ballot) (tx : TxId)
    → value_of (votes_of (fact ∷ facts) key version ballot) tx ≡ option_or (value_of (votes_of facts key version ballot) tx) (given_by key version ballot tx fact)
votes_of-next (Fact.Voted key' version' ballot' options offered) facts key version ballot tx =
    votes_given (votes_of facts key version ballot) options tx (version' == version && ballot_eq ballot' ballot && key_eq key' key)
votes_of-next (Fact.Booted epoch) facts key version ballot tx = value_of-union (votes_of facts key version ballot) [] tx
votes_of-next (Fact.Floor origin era upto) facts key version ballot tx = value_of-union (votes_of facts key version ballot) [] tx
votes_of-next (Fact.Promised key' low high ballot') facts key version ballot tx = value_of-union (votes_of facts key version ballot) [] tx
votes_of-next (Fact.Heard tx' outcome) facts key version ballot tx = value_of-union (votes_of facts key version ballot) [] tx
votes_of-next (Fact.Adopted key' version' item adds) facts key version ballot tx = value_of-union (votes_of facts key version ballot) [] tx

-- the mark that an entry gives a transaction, of one centre
cast-next : (centre : ℕ) (fact : Fact) (key : Key) (version : ℕ) (ballot : Ballot) (tx : TxId) (a : ℕ)
    → mark_cast (casts_from tx (Added centre fact)) key version ballot a ≡ cond (centre == a) (given_by key version ballot tx fact) None
cast-next centre (Fact.Voted key' version' ballot' options offered) key version ballot tx a =
    mark_cast-among centre key' version' ballot' options tx key version ballot a
    ∙ both (centre == a) (version' == version && ballot_eq ballot' ballot && key_eq key' key) (value_of options tx)
  where
    both : (a b : Bool) (o : Option Mark) → cond (a && b) o None ≡ cond a (cond b o None) None
    both true b o = refl
    both false b o = refl
cast-next centre (Fact.Booted epoch) key version ballot tx a = grind arith
cast-next centre (Fact.Floor origin era upto) key version ballot tx a = grind arith
cast-next centre (Fact.Promised key' low high ballot') key version ballot tx a = grind arith
cast-next centre (Fact.Heard tx' outcome) key version ballot tx a = grind arith
cast-next centre (Fact.Adopted key' version' item adds) key version ballot tx a = grind arith

option_or-none : {X : Type 0} (o : Option X) → option_or o None ≡ o
option_or-none None = refl
option_or-none (Some x) = refl

-- the votes that were cast on a transaction give each centre's mark
pub mark_cast-casts_of : (entries : List Entry) (key : Key) (version : ℕ) (ballot : Ballot) (tx : TxId) (a : ℕ)
    → mark_cast (casts_of entries tx) key version ballot a ≡ mark_given entries key version ballot tx a
mark_cast-casts_of [] key version ballot tx a = refl
mark_cast-casts_of (Added centre fact ∷ entries) key version ballot tx a =
    rw (
      mark_cast-append (casts_of entries tx) (casts_from tx (Added centre fact)) key version ballot a,
      cast-next centre fact key version ballot tx a,
      mark_cast-casts_of entries key version ballot tx a,
    )
    (at_centre (centre == a))
  where
    at_centre : (b : Bool) → option_or (value_of (votes_of (facts_of entries a) key version ballot) tx) (cond b (given_by key version ballot tx fact) None)
        ≡ value_of (votes_of (cond b (fact ∷ facts_of entries a) (facts_of entries a)) key version ballot) tx
    at_centre true = sym (votes_of-next fact (facts_of entries a) key version ballot tx)
    at_centre false = option_or-none _
mark_cast-casts_of (Begun centre tx' choices ∷ entries) key version ballot tx a =
    rw (mark_cast-append (casts_of entries tx) [] key version ballot a, option_or-none, mark_cast-casts_of entries key version ballot tx a) refl
mark_cast-casts_of (Valued centre key' version' ballot' options ∷ entries) key version ballot tx a =
    rw (mark_cast-append (casts_of entries tx) [] key version ballot a, option_or-none, mark_cast-casts_of entries key version ballot tx a) refl

-- ---- what is chosen

filter_map-alike : {X Y : Type 0} (f g : X → Option Y) (xs : List X) → ((x : X) → f x ≡ g x) → filter_map f xs ≡ filter_map g xs
filter_map-alike f g [] alike = refl
filter_map-alike f g (x ∷ xs) alike = let ih = filter_map-alike f g xs alike in rw (alike x, ih) refl

chosen_by-alike : (quorums : Sizes) (ballot : Ballot) (f g : ℕ → Option Mark) → ((a : ℕ) → f a ≡ g a) → chosen_by quorums ballot f ≡ chosen_by quorums ballot g
chosen_by-alike quorums ballot f g alike = rw (filter_map-alike f g (all_centres quorums) alike) refl

pub chosen_cast_at-ledger : (quorums : Sizes) (entries : List Entry) (key : Key) (version : ℕ) (tx : TxId) (ballot : Ballot)
    → chosen_cast_at quorums (casts_of entries tx) key version ballot ≡ chosen_at quorums entries key version tx ballot
chosen_cast_at-ledger quorums entries key version tx ballot =
    chosen_by-alike quorums ballot _ _ (mark_cast-casts_of entries key version ballot tx)

-- of several answers the first, from the back or from the front
fold-first : {X Y : Type 0} (f : X → Option Y) (o : Option Y) (xs : List X)
    → fold (λ found x. option_or found (f x)) o xs ≡ option_or o (fold (λ found x. option_or found (f x)) None xs)
fold-first f None xs = refl
fold-first f (Some y) [] = refl
fold-first f (Some y) (x ∷ xs) = fold-first f (Some y) xs

fold-last : {X Y : Type 0} (f g : X → Option Y) (xs : List X) → ((x : X) → f x ≡ g x)
    → fold (λ found x. option_or (f x) found) None (reverse xs) ≡ fold (λ found x. option_or found (g x)) None xs
fold-last f g [] alike = refl
fold-last f g (x ∷ xs) alike =
    let ih = fold-last f g xs alike in
    rw (reverse-append (x ∷ []) xs, fold-append (λ found x. option_or (f x) found) None (reverse xs) (x ∷ []), fold-first g (g x) xs, ih, alike x) refl

-- the votes that were cast on a transaction choose as the ledger says
pub chosen_cast-ledger : (quorums : Sizes) (entries : List Entry) (key : Key) (version : ℕ) (tx : TxId)
    → chosen_cast quorums (casts_of entries tx) key version (reverse (ballots_voted entries key version)) ≡ chosen_of quorums entries key version tx
chosen_cast-ledger quorums entries key version tx =
    fold-last (chosen_cast_at quorums (casts_of entries tx) key version) (chosen_at quorums entries key version tx) (ballots_voted entries key version)
    (chosen_cast_at-ledger quorums entries key version tx)

-- ---- endings

ending_by-outcome : (marks : List (Option Mark)) → decided_by marks ≡ option_map is_commit (outcome_of_marks marks)
ending_by-outcome marks =
    elim (cases_Bool (list_any is_reject_found marks)) [
      | inl e ↦ rw e refl
      | inr e ↦ rw e (elim (cases_Bool (list_all is_some marks)) [
        | inl f ↦ rw f refl
        | inr f ↦ rw f refl
      ])
    ]

-- the marks of a transaction's instances
chosen_in-ledger : (quorums : Sizes) (entries : List Entry) (tx : TxId) (ballots : BallotsByKey) (choices : List Choice)
    → ((key : Key) (version : ℕ) → ballots_at ballots key version ≡ reverse (ballots_voted entries key version))
    → map (chosen_in quorums ballots (casts_of entries tx)) (map instance_of_choice choices) ≡ map (λ choice. chosen_of quorums entries choice.key choice.version tx) choices
chosen_in-ledger quorums entries tx ballots [] kept = refl
chosen_in-ledger quorums entries tx ballots (choice ∷ choices) kept =
    let ih = chosen_in-ledger quorums entries tx ballots choices kept in
    rw (kept choice.key choice.version, chosen_cast-ledger quorums entries choice.key choice.version tx, ih) refl

-- how the votes end a transaction is how the ledger does
pub decided_cast-ledger : (quorums : Sizes) (entries : List Entry) (tx : TxId) (ballots : BallotsByKey)
    → ((key : Key) (version : ℕ) → ballots_at ballots key version ≡ reverse (ballots_voted entries key version))
    → decided_cast quorums ballots (casts_of entries tx) (map instance_of_choice (choices_begun entries tx)) ≡ decided_of quorums entries tx
decided_cast-ledger quorums entries tx ballots kept =
    rw (chosen_in-ledger quorums entries tx ballots (choices_begun entries tx) kept, length-map, ending_by-outcome)
    (elim (cases_Bool (nat_lt 0 (length (choices_begun entries tx)))) [
      | inl e ↦ rw e refl
      | inr e ↦ rw e refl
    ])
