-- A structure that passes the test is allowed.
use Rattle.std.proofs.Common.{◌≡◌, ℕ, ◌+◌, Bool, true, not, ◌==◌, List, [], ◌∷◌, length, refl, sym, ap, ◌∙◌, subst, inl, inr, Option, Some, None, Decides}
use Rattle.std.proofs.lemmas.Bool.{and_parts, cases_Bool, eqb-true, or_cases}
use Rattle.std.specs.List.{AllByRecursion, list_all, list_any}
use Rattle.std.specs.Prelude.{filter, ◌||◌}
use Rattle.mdcc_base.specs.Quorums.{all_centres}
use Rattle.std.proofs.lemmas.Bool.Decides.{Decides-eqb, Decides-ltb, Decides-and, Decides-like}
use Rattle.mdcc_base.specs.Ballot.{is_fast}
use Rattle.mdcc_base.specs.declared.identifiers.Ballot.{Ballot}
use Rattle.mdcc_base.specs.declared.identifiers.TxId.{TxId}
use Rattle.mdcc_base.specs.declared.key.Key.{Key}
use Rattle.mdcc_option.specs.declared.choices.Choice.{Choice}
use Rattle.mdcc_option.specs.declared.choices.Mark.{Mark}
use Rattle.mdcc_option.specs.declared.cluster.Cluster.{Cluster}
use Rattle.mdcc_option.proofs.Equal.{Decides-mark, Decides-tx}
use Rattle.mdcc_struct.specs.declared.options.Options.{Options}
use Rattle.mdcc_def_ledger.specs.AllowedLedgers.{IsAllowedValued}
use Rattle.mdcc_def_ledger.specs.AllowedStructures.{IsAmongCentres, IsFirstStructure, IsMade, IsNextStructure, IsReport, are_begun, centres_of, has_promised, promisers_of}
use Rattle.mdcc_theorem_ledger.specs.LedgerTest.{claims_of_marks, is_made, is_made_by, is_made_from, is_next_structure, is_valued_allowed, reports_now, subsets}
use Rattle.mdcc_def_protocol.specs.Facts.{current_of, epoch_of}
use Rattle.mdcc_def_ledger.specs.Ledger.{Entry, facts_of, structure_valued}
use Rattle.mdcc_def_protocol.specs.Marks.{choice_in, options_eq}
use Rattle.mdcc_def_protocol.specs.Structures.{first_structure, is_enough, with_claim}
use Rattle.mdcc_theorem_ledger.proofs.Found.{found, found_with}
use Rattle.mdcc_theorem_ledger.proofs.SubsetsAmong.{distinct-filtered, subsets-among}
use Rattle.mdcc_theorem_ledger.proofs.TestsDecide.{Decides-true, Decides-leb}

pub Decides-options : (as' bs : Options) → Decides (options_eq as' bs) (as' ≡ bs)
Decides-options [] [] = (λ e. refl, λ e. refl)
Decides-options [] (b ∷ bs) = (λ e. cc, λ e. cc)
Decides-options (a ∷ as') [] = (λ e. cc, λ e. cc)
Decides-options (a ∷ as') (b ∷ bs) =
    Decides-like (options_eq (a ∷ as') (b ∷ bs)) (λ h i. (h.0 i, h.1.0 i) ∷ h.1.1 i) (λ e. let first : a ≡ b = cc in (cc, (cc, cc)))
    (Decides-and _ _ (Decides-tx a.0 b.0) (Decides-and _ _ (Decides-mark a.1 b.1) (Decides-options as' bs)))

-- ---- what centres report now

centres_now : (before : List Entry) (key : Key) (version : ℕ) (ballot : Ballot) (centres : List ℕ) → centres_of (reports_now before key version ballot centres) ≡ centres
centres_now before key version ballot [] = refl
centres_now before key version ballot (a ∷ as') = ap (λ (bs : List ℕ). a ∷ bs) (centres_now before key version ballot as')

among_filtered : (test : ℕ → Bool) (a : ℕ) (xs : List ℕ) → list_any (λ b. a == b) (filter test xs) ≡ true → test a ≡ true
among_filtered test a [] h = absurd cc
among_filtered test a (x ∷ xs) h =
    elim (cases_Bool (test x)) [
      | inl e ↦
          let more : (a == x || list_any (λ b. a == b) (filter test xs)) ≡ true = rw e at h in
          elim (or_cases (a == x) (list_any (λ b. a == b) (filter test xs)) more) [
            | inl here ↦ ap test (eqb-true a x here) ∙ e
            | inr there ↦ among_filtered test a xs there
          ]
      | inr e ↦ among_filtered test a xs (rw e at h)
    ]

promised_each : (cluster : Cluster) (before : List Entry) (key : Key) (version : ℕ) (ballot : Ballot) (centres : List ℕ)
    → list_all (λ a. list_any (λ b. a == b) (promisers_of cluster.quorums before key version ballot)) centres ≡ true
    → AllByRecursion (λ a. has_promised before key version ballot a ≡ true) centres
promised_each cluster before key version ballot [] h = tt
promised_each cluster before key version ballot (a ∷ as') h =
    let parts = and_parts (list_any (λ b. a == b) (promisers_of cluster.quorums before key version ballot)) _ h in
    (among_filtered (has_promised before key version ballot) a (all_centres cluster.quorums) parts.0, promised_each cluster before key version ballot as' parts.1)

reported_now : (cluster : Cluster) (before : List Entry) (key : Key) (version : ℕ) (ballot : Ballot) (centres : List ℕ)
    → AllByRecursion (λ a. has_promised before key version ballot a ≡ true) centres
    → AllByRecursion (IsReport before key version ballot) (reports_now before key version ballot centres)
reported_now cluster before key version ballot [] h = tt
reported_now cluster before key version ballot (a ∷ as') h =
    (([], before, record { parts = refl; promised = h.0; same = refl }), reported_now cluster before key version ballot as' h.1)

-- ---- how it is made

first_shown : (cluster : Cluster) (before : List Entry) (a : ℕ) (key : Key) (version : ℕ) (ballot : Ballot) (options : Options) (centres : List ℕ)
    → structure_valued before key version ballot ≡ None → IsAmongCentres centres (promisers_of cluster.quorums before key version ballot)
    → is_made_from cluster before a key version ballot options centres ≡ true
    → IsFirstStructure cluster before a key version ballot options (reports_now before key version ballot centres) (claims_of_marks options)
first_shown cluster before a key version ballot options centres none among h =
    let parts : (is_enough cluster (facts_of before a) key version (reports_now before key version ballot centres) ≡ true)
    × (options_eq options (first_structure cluster (facts_of before a) key version (claims_of_marks options) (reports_now before key version ballot centres)) ≡ true) =
    and_parts _ _ h in
    record {
      none_before = none;
      promised = subst (λ named. IsAmongCentres named (promisers_of cluster.quorums before key version ballot)) (sym (centres_now before key version ballot centres)) among;
      reported = reported_now cluster before key version ballot centres (promised_each cluster before key version ballot centres among.0);
      enough = parts.0;
      made = (Decides-options options _).0 parts.1;
    }

next_shown : (cluster : Cluster) (before : List Entry) (a : ℕ) (key : Key) (version : ℕ) (ballot : Ballot) (options last : Options)
    → structure_valued before key version ballot ≡ Some last → is_next_structure cluster before a key version options last ≡ true
    → (claim : TxId × Option Choice) × IsNextStructure cluster before a key version ballot options last claim
next_shown cluster before a key version ballot options last there h =
    let test : TxId × Mark → Bool = λ e. options_eq options (with_claim cluster (facts_of before a) key version last (e.0, choice_in e.1)) in
    let parts = and_parts (length options == length last + 1) _ h in
    let marked : (e : TxId × Mark) × (test e ≡ true) = found test options parts.1 in (
      (marked.0.0, choice_in marked.0.1),
      record {
        last_before = there;
        is_more = eqb-true (length options) (length last + 1) parts.0;
        made = (Decides-options options _).0 marked.1;
      },
    )

made_shown : (cluster : Cluster) (before : List Entry) (a : ℕ) (key : Key) (version : ℕ) (ballot : Ballot) (options : Options) (last : Option Options)
    → structure_valued before key version ballot ≡ last → is_made_by cluster before a key version ballot options last ≡ true
    → IsMade cluster before a key version ballot options
made_shown cluster before a key version ballot options None none h =
    let centres = promisers_of cluster.quorums before key version ballot in
    let made = found_with (λ among. IsAmongCentres among centres) (is_made_from cluster before a key version ballot options) (subsets centres)
    (subsets-among centres (distinct-filtered (has_promised before key version ballot) 1 cluster.quorums.centres)) h in
    inl (reports_now before key version ballot made.0, claims_of_marks options, first_shown cluster before a key version ballot options made.0 none made.1 made.2)
made_shown cluster before a key version ballot options (Some last) there h =
    let next = next_shown cluster before a key version ballot options last there h in
    inr (last, next.0, next.1)

-- ---- that it is allowed

pub valued_shown : (cluster : Cluster) (before : List Entry) (a : ℕ) (key : Key) (version : ℕ) (ballot : Ballot) (options : Options)
    → is_valued_allowed cluster before a key version ballot options ≡ true → IsAllowedValued cluster before a key version ballot options
valued_shown cluster before a key version ballot options h =
    let parts = (Decides-and _ _ (Decides-and _ _ (Decides-and _ _ (Decides-and _ _ (Decides-and _ _ (Decides-and _ _ (Decides-and _ _
    (Decides-true (not (is_fast ballot)))
    (Decides-eqb ballot.centre a))
    (Decides-ltb 0 (epoch_of (facts_of before a))))
    (Decides-eqb ballot.epoch (epoch_of (facts_of before a))))
    (Decides-leb version (current_of (facts_of before a) key)))
    (Decides-leb cluster.quorums.classic (length (promisers_of cluster.quorums before key version ballot))))
    (Decides-true (are_begun before key version options)))
    (Decides-true (is_made cluster before a key version ballot options))).0 h in
    record {
      classic = parts.0.0.0.0.0.0.0;
      centre = parts.0.0.0.0.0.0.1;
      booted = parts.0.0.0.0.0.1;
      epoch = parts.0.0.0.0.1;
      held = parts.0.0.0.1;
      promised = parts.0.0.1;
      begun = parts.0.1;
      made = made_shown cluster before a key version ballot options (structure_valued before key version ballot) refl parts.1;
    }
