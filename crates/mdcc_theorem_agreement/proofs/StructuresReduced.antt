-- A structure that is allowed may be sent in the reduced ledger.
use Rattle.std.proofs.Common.{◌≡◌, ℕ, ◌<◌, ◌≤◌, ◌==◌, Bool, true, false, ◌&&◌, List, [], ◌∷◌, length, refl, sym, ap, ◌∙◌, subst, arith, inl, inr, ◌⊎◌, Option, Some, None, cond, map, ◌++◌, ◌||◌}
use Rattle.std.proofs.lemmas.Bool.{cases_Bool, and_parts, ltb-true, leb-false, eqb-true, eq-eqb, not-true, false≢true}
use Rattle.std.proofs.lemmas.List.{length-map}
use Rattle.std.specs.List.{list_all, filter, fold, AllByRecursion, list_any}
use Rattle.std.specs.Option.{option_or}
use Rattle.std.specs.Prelude.{is_some, not}
use Rattle.mdcc_base.specs.Ballot.{ballot_eq, is_fast}
use Rattle.mdcc_base.specs.Key.{key_eq}
use Rattle.mdcc_base.specs.Quorums.{all_centres}
use Rattle.mdcc_base.specs.TxId.{tx_eq}
use Rattle.mdcc_base.specs.declared.identifiers.Ballot.{Ballot}
use Rattle.mdcc_base.specs.declared.identifiers.TxId.{TxId}
use Rattle.mdcc_option.specs.declared.choices.Choice.{Choice}
use Rattle.mdcc_option.specs.declared.choices.Mark.{Mark}
use Rattle.mdcc_option.specs.declared.choices.Mark.TheVariants.{Accept, Reject}
use Rattle.mdcc_option.specs.declared.cluster.Cluster.{Cluster}
use Rattle.mdcc_option.specs.declared.items.Update.{Update}
use Rattle.mdcc_struct.specs.Forced.{forced_of}
use Rattle.mdcc_struct.specs.Maps.{TxMap, value_of, with_entry}
use Rattle.mdcc_struct.specs.declared.options.Options.{Options}
use Rattle.mdcc_struct.specs.declared.report.Report.{Report}
use Rattle.mdcc_def_ledger.specs.AllowedStructures.{are_begun, is_own_mark, has_promised, promisers_of, IsFirstStructure, IsNextStructure, IsReport, are_distinct_centres, centres_of, has_promised_in}
use Rattle.mdcc_def_protocol.specs.Facts as full
use Rattle.mdcc_def_ledger.specs.Ledger as ledger
use Rattle.mdcc_def_protocol.specs.Marks.{accepts_in, rejects_in}
use Rattle.mdcc_def_protocol.specs.Structures as structures
use Rattle.mdcc_def_messages.specs.declared.facts.Fact.{Fact}
use Rattle.mdcc_def_protocol.proofs.EnoughPromises.{enough-cases, enough-classic}
use Rattle.mdcc_struct.proofs.Values.{entry_value, value_of-with_entry}
use Rattle.mdcc_theorem_agreement.proofs.BallotOrder.{Below-cases, Below-fast}
use Rattle.mdcc_theorem_agreement.proofs.Ballots.{fast, Below}
use Rattle.mdcc_theorem_agreement.proofs.Reduction.{setup_of, reduced, facts_same, tail_after}
use Rattle.mdcc_theorem_agreement.proofs.FitsBound.{FitsExactly}
use Rattle.mdcc_theorem_agreement.proofs.ForcedReduced.{forced_there, there_forced}
use Rattle.mdcc_theorem_agreement.proofs.HeldReduced.{AllFine}
use Rattle.mdcc_theorem_agreement.proofs.LiveAtLeader.{leader_fit, together_reduced, value_In}
use Rattle.mdcc_theorem_agreement.proofs.MapValues.{mark_value, tx_true, tx_sym, or_none, Once, Once-Distinct, Once-with_entry}
use Rattle.mdcc_theorem_agreement.proofs.VotesReduced.{begun_choice, place_for}
use Rattle.mdcc_theorem_agreement.proofs.CentresCounted.{is_one_of, one_of-In, length-members}
use Rattle.mdcc_theorem_agreement.proofs.ForcedCounted.{Once-forced}
use Rattle.mdcc_theorem_agreement.proofs.Setups.{IsSetup, centres_to}
use Rattle.mdcc_theorem_agreement.proofs.ReducedFacts.{HasPromised, HasHeard}
use Rattle.mdcc_theorem_agreement.proofs.ReducedLedger.{last_sent, IsChoice, Step, Grown, MayAdd, IsMore, IsFirst, IsNext, Allowed, IsTail}
use Rattle.mdcc_theorem_agreement.proofs.ReducedOptions.{In, Place, spot, mark_of}
use Rattle.mdcc_theorem_agreement.proofs.TestsDecide.{same_place, Decides-tx, Decides-key, Decides-ballot}
use Rattle.mdcc_theorem_agreement.proofs.ViewsReduced.{promised_reduced}
use Rattle.mdcc_base.specs.declared.key.Key.{Key}
use Rattle.mdcc_theorem_agreement.proofs.FloorsReduced.{has_heard}

-- the last structure
pub last_same : (es : List ledger.Entry) (i : Place) (m : Ballot) → last_sent (reduced es) i m ≡ ledger.structure_valued es i.key i.version m
last_same [] i m = refl
last_same (ledger.Added b f ∷ es) i m = last_same es i m
last_same (ledger.Begun b t cs ∷ es) i m = last_same es i m
last_same (ledger.Valued b key v l os ∷ es) i m =
    elim (cases_Bool (((v == i.version) && ballot_eq l m) && key_eq key i.key)) [
      | inl e ↦
          let p2 : (((v == i.version) && ballot_eq l m) ≡ true) × (key_eq key i.key ≡ true) = and_parts _ _ e in
          let p1 : ((v == i.version) ≡ true) × (ballot_eq l m ≡ true) = and_parts _ _ p2.0 in
          rw (p2.1, p1.0, p1.1) refl
      | inr e ↦ rw e (elim (cases_Bool ((key_eq key i.key && (v == i.version)) && ballot_eq l m)) [
        | inr g ↦ rw g (last_same es i m)
        | inl g ↦
            let p2 : ((key_eq key i.key && (v == i.version)) ≡ true) × (ballot_eq l m ≡ true) = and_parts _ _ g in
            let p1 : (key_eq key i.key ≡ true) × ((v == i.version) ≡ true) = and_parts _ _ p2.0 in
            absurd (let bad : true ≡ false = rw (p1.0, p1.1, p2.1) at e in false≢true (sym bad))
      ])
    ]

-- each mark passes a test
all_In : {X : Type 0} (p : X → Bool) (xs : List X) → list_all p xs ≡ true → (x : X) → In x xs → p x ≡ true
all_In p [] h x g = absurd g
all_In p (y ∷ ys) h x g =
    let parts : (p y ≡ true) × (list_all p ys ≡ true) = and_parts _ _ h in
    elim g [ inl here ↦ ap p (sym here) ∙ parts.0 | inr there ↦ all_In p ys parts.1 x there ]

abbrev pub Own : List ledger.Entry → Place → Options → Type 0
Own es i os = (t : TxId) (c : Choice) → value_of os t ≡ Some (Accept c) → (c.tx ≡ t) × (spot c ≡ i) × IsChoice (reduced es) c

pub own_marks : (es : List ledger.Entry) (i : Place) (os : Options) → are_begun es i.key i.version os ≡ true → Own es i os
own_marks es i os h t c g =
    let test : is_own_mark es i.key i.version (t, Accept c) ≡ true = all_In (is_own_mark es i.key i.version) os h (t, Accept c) (value_In os t (Accept c) g) in
    let p3 = and_parts _ _ test in
    let p2 = and_parts _ _ p3.0 in
    let p1 : (tx_eq c.tx t ≡ true) × ((c.version == i.version) ≡ true) = and_parts _ _ p2.0 in
    ((Decides-tx c.tx t).0 p1.0, same_place (spot c) i ((Decides-key c.key i.key).0 p2.1, eqb-true c.version i.version p1.1), begun_choice es c p3.1)

-- an entry more
more_same : (m : Options) (t : TxId) (x : Mark) → value_of m t ≡ None → (u : TxId) → mark_of u (with_entry m (t, x)) ≡ mark_of u ((t, x) ∷ m)
more_same m t x none u =
    mark_value u (with_entry m (t, x)) ∙ value_of-with_entry m (t, x) u
    ∙ elim (cases_Bool (tx_eq u t)) [
      | inl e ↦
          let back : tx_eq t u ≡ true = tx_sym t u ∙ e in
          let gone : value_of m u ≡ None = ap (value_of m) ((Decides-tx u t).0 e) ∙ none in
          rw (e, back, gone) refl
      | inr e ↦
          let back : tx_eq t u ≡ false = tx_sym t u ∙ e in
          rw (e, back) (or_none (value_of m u) ∙ sym (mark_value u m))
    ]

first_false : (p q : Bool) → (p || q) ≡ false → p ≡ false
first_false true q h = h
first_false false q h = refl

some_not : {X : Type 0} (o : Option X) → is_some o ≡ false → o ≡ None
some_not None h = refl
some_not (Some x) h = absurd (false≢true (sym h))

module _ (cluster : Cluster) (four : length cluster.schema ≤ 4) (es : List ledger.Entry) (allowed : Allowed (setup_of cluster) (reduced es)) (a : ℕ) (centre : In a (centres_to cluster.quorums.centres))
    (fine : AllFine (ledger.facts_of es a)) (i : Place) where
  abbrev own_facts : List Fact
  own_facts = ledger.facts_of es a

  abbrev claimed : Options → TxId × Option Choice → Options
  claimed options claim = structures.with_claim cluster own_facts i.key i.version options claim

  -- what a claim does
  abbrev Adds : Options → TxId × Option Choice → Type 0
  Adds options claim =
      ((value_of options claim.0 ≡ None) × (full.is_settled own_facts claim.0 ≡ false))
      × (structures.is_left_out options (structures.mark_of_choice cluster own_facts i.key i.version options claim.1) ≡ false)
      × (claimed options claim ≡ with_entry options (claim.0, structures.mark_of_choice cluster own_facts i.key i.version options claim.1))

  claim_cases : (options : Options) (claim : TxId × Option Choice) → (claimed options claim ≡ options) ⊎ Adds options claim
  claim_cases options (t, o) =
      elim (cases_Bool (is_some (value_of options t))) [
        | inl e ↦ inl (rw e refl)
        | inr e ↦ elim (cases_Bool (full.is_settled own_facts t)) [
          | inl known ↦ inl (rw (e, known) refl)
          | inr fresh ↦ elim (cases_Bool (structures.is_left_out options (structures.mark_of_choice cluster own_facts i.key i.version options o))) [
            | inl f ↦ inl (rw (e, fresh, f) refl)
            | inr f ↦ inr ((some_not (value_of options t) e, fresh), f, rw (e, fresh, f) refl)
          ]
        ]
      ]

  accepted_choice : (options : Options) (o : Option Choice) (c : Choice) → structures.mark_of_choice cluster own_facts i.key i.version options o ≡ Accept c →
      structures.is_accepted cluster own_facts i.key i.version options c ≡ true
  accepted_choice options None c h = absurd (cc)
  accepted_choice options (Some d) c h =
      elim (cases_Bool (structures.is_accepted cluster own_facts i.key i.version options d)) [
        | inl e ↦ (let is : Accept d ≡ Accept c = rw e at h in let same : d ≡ c = cc in ap (structures.is_accepted cluster own_facts i.key i.version options) (sym same) ∙ e)
        | inr e ↦ (let bad : Reject ≡ Accept c = rw e at h in absurd (cc))
      ]

  room_for : (u : Update) → structures.accept_room u ≤ 512
  room_for (Update.Write item seen) = omega arith
  room_for (Update.Add m) = omega arith

  accepted_parts : (options : Options) (c : Choice) → structures.is_accepted cluster own_facts i.key i.version options c ≡ true →
      (full.current_of own_facts i.key ≡ i.version) × (length (accepts_in options) < structures.accept_room c.update)
      × FitsExactly cluster (full.base_of own_facts i.key) (structures.live_at_leader own_facts i.key i.version options) c.update
  accepted_parts options c h =
      let p2 = and_parts _ _ h in
      let p1 = and_parts _ _ p2.0 in
      (eqb-true _ _ p1.0, ltb-true _ _ p1.1, p2.1)

  may_add : (options : Options) → Once options → (t : TxId) (o : Option Choice) (x : Mark) → full.is_settled own_facts t ≡ false → structures.mark_of_choice cluster own_facts i.key i.version options o ≡ x → value_of options t ≡ None →
      structures.is_left_out options x ≡ false → ((c : Choice) → x ≡ Accept c → (c.tx ≡ t) × (spot c ≡ i) × IsChoice (reduced es) c) →
      MayAdd (setup_of cluster) (reduced es) a i options t x
  may_add options once t o x fresh made none left own = record {
    new = mark_value t options ∙ none;
    centre = centre;
    unheard = λ heard. has_heard own_facts t (first_false (full.is_heard own_facts t) (full.is_finished own_facts t) fresh) (subst (λ fs. HasHeard fs t) (facts_same a es) heard);
    has_place = place_for options options x (λ u. refl)
        (λ c is.
        let few : length (accepts_in options) < structures.accept_room c.update = (accepted_parts options c (accepted_choice options o c (made ∙ is))).1 in
        omega (arith, room_for c.update))
        (λ is. leb-false 16384 (length (rejects_in options)) (ap (structures.is_left_out options) (sym is) ∙ left));
    fits = λ c is.
        let parts = accepted_parts options c (accepted_choice options o c (made ∙ is)) in
        let mine : (c.tx ≡ t) × (spot c ≡ i) × IsChoice (reduced es) c = own c is in
        leader_fit cluster four es allowed a fine i options once t c mine.0 mine.1 mine.2 parts.0 parts.2;
  }

  -- what stands in a structure stays in it
  claimed_kept : (options : Options) (claim : TxId × Option Choice) (t : TxId) (x : Mark) → value_of options t ≡ Some x → value_of (claimed options claim) t ≡ Some x
  claimed_kept options claim t x h =
      elim (claim_cases options claim) [
        | inl same ↦ ap (λ os. value_of os t) same ∙ h
        | inr adds ↦ ap (λ os. value_of os t) adds.2
            ∙ value_of-with_entry options (claim.0, structures.mark_of_choice cluster own_facts i.key i.version options claim.1) t
            ∙ ap (λ o. option_or o (entry_value (claim.0, structures.mark_of_choice cluster own_facts i.key i.version options claim.1) t)) h
      ]

  folded_kept : (claims : List (TxId × Option Choice)) (options : Options) (t : TxId) (x : Mark) → value_of options t ≡ Some x → value_of (fold claimed options claims) t ≡ Some x
  folded_kept [] options t x h = h
  folded_kept (claim ∷ claims) options t x h = folded_kept claims (claimed options claim) t x (claimed_kept options claim t x h)

  abbrev GrownTo : Options → Options → Type 0
  GrownTo less more = (steps : List Step) × Grown (setup_of cluster) (reduced es) a i less steps more

  -- one claim
  pub one_claim : (base options : Options) (claim : TxId × Option Choice) → Once options → Own es i (claimed options claim) → GrownTo base options → GrownTo base (claimed options claim) × Once (claimed options claim)
  one_claim base options claim once own grown =
      elim (claim_cases options claim) [
        | inl same ↦ subst (λ os. GrownTo base os × Once os) (sym same) (grown, once)
        | inr adds ↦
            let x : Mark = structures.mark_of_choice cluster own_facts i.key i.version options claim.1 in
            let after : Options = with_entry options (claim.0, structures.mark_of_choice cluster own_facts i.key i.version options claim.1) in
            let found : value_of (claimed options claim) claim.0 ≡ Some x =
            ap (λ os. value_of os claim.0) adds.2 ∙ value_of-with_entry options (claim.0, structures.mark_of_choice cluster own_facts i.key i.version options claim.1) claim.0
            ∙ ap (λ o. option_or o (entry_value (claim.0, structures.mark_of_choice cluster own_facts i.key i.version options claim.1) claim.0)) adds.0.0
            ∙ (let test : tx_eq claim.0 claim.0 ≡ true = tx_true claim.0 claim.0 refl in rw test refl) in
            let may : MayAdd (setup_of cluster) (reduced es) a i options claim.0 x =
            may_add options once claim.0 claim.1 x adds.0.1 refl adds.0.0 adds.1 (λ c is. own claim.0 c (found ∙ ap Some is)) in
            let more : IsMore options claim.0 x after = record {
              apart = Once-Distinct after (Once-with_entry options (claim.0, structures.mark_of_choice cluster own_facts i.key i.version options claim.1) once);
              same = more_same options claim.0 (structures.mark_of_choice cluster own_facts i.key i.version options claim.1) adds.0.0;
            } in
            subst (λ os. GrownTo base os × Once os) (sym adds.2) (
              (record { before = options; tx = claim.0; mark = structures.mark_of_choice cluster own_facts i.key i.version options claim.1 } ∷ grown.0, (grown.1, may, more)),
              Once-with_entry options (claim.0, structures.mark_of_choice cluster own_facts i.key i.version options claim.1) once,
            )
      ]

  pub all_claimed : (claims : List (TxId × Option Choice)) (base options : Options) → Once options → Own es i (fold claimed options claims) → GrownTo base options → GrownTo base (fold claimed options claims)
  all_claimed [] base options once own grown = grown
  all_claimed (claim ∷ claims) base options once own grown =
      let next : GrownTo base (claimed options claim) × Once (claimed options claim) =
      one_claim base options claim once (λ t c h. own t c (folded_kept claims (claimed options claim) t (Accept c) h)) grown in
      all_claimed claims base (claimed options claim) next.1 own next.0

-- ---- the structure of an entry

In-filtered : (p : ℕ → Bool) (a : ℕ) (xs : List ℕ) → In a (filter p xs) → In a xs × (p a ≡ true)
In-filtered p a [] h = absurd h
In-filtered p a (x ∷ xs) h =
    elim (cases_Bool (p x)) [
      | inl e ↦ (let listed : (x ≡ a) ⊎ In a (filter p xs) = rw e at h in
          elim listed [ inl here ↦ (inl here, ap p (sym here) ∙ e) | inr there ↦ (inr (In-filtered p a xs there).0, (In-filtered p a xs there).1) ])
      | inr e ↦ (inr (In-filtered p a xs (rw e at h)).0, (In-filtered p a xs (rw e at h)).1)
    ]

pub classic_ballot : (m : Ballot) → not (is_fast m) ≡ true → Below fast m
classic_ballot m h =
    elim (Below-cases fast m) [
      | inl below ↦ below
      | inr rest ↦ elim rest [
        | inl same ↦ absurd (let test : is_fast m ≡ true = (Decides-ballot m fast).1 (sym same) in let bad : not true ≡ true = rw test at h in false≢true bad)
        | inr under ↦ absurd (Below-fast m under)
      ]
    ]

-- ---- the moments of the reports

-- when a centre of these reports reported
abbrev moment : (before : List ledger.Entry) (key : Key) (version : ℕ) (ballot : Ballot) (reports : List Report) → AllByRecursion (IsReport before key version ballot) reports → ℕ → List ledger.Entry
moment before key version ballot [] h a = before
moment before key version ballot (r ∷ rs) h a = cond (r.centre == a) h.0.1 (moment before key version ballot rs h.1 a)

moment_tail : (before : List ledger.Entry) (key : Key) (version : ℕ) (ballot : Ballot) (reports : List Report) (h : AllByRecursion (IsReport before key version ballot) reports) (a : ℕ) →
    (later : List ledger.Entry) × (before ≡ later ++ moment before key version ballot reports h a)
moment_tail before key version ballot [] h a = ([], refl)
moment_tail before key version ballot (r ∷ rs) h a =
    elim (cases_Bool (r.centre == a)) [
      | inl e ↦ (h.0.0, h.0.2.parts ∙ rw e refl)
      | inr e ↦ (let rest : (later : List ledger.Entry) × (before ≡ later ++ moment before key version ballot rs h.1 a) = moment_tail before key version ballot rs h.1 a in (rest.0, rest.1 ∙ rw e refl))
    ]

moment_promised : (before : List ledger.Entry) (key : Key) (version : ℕ) (ballot : Ballot) (reports : List Report) (h : AllByRecursion (IsReport before key version ballot) reports) (a : ℕ) → In a (centres_of reports) →
    list_any (has_promised_in key version ballot) (ledger.facts_of (moment before key version ballot reports h a) a) ≡ true
moment_promised before key version ballot [] h a g = absurd g
moment_promised before key version ballot (r ∷ rs) h a g =
    elim (cases_Bool (r.centre == a)) [
      | inl e ↦ rw e (subst (λ b. list_any (has_promised_in key version ballot) (ledger.facts_of h.0.1 b) ≡ true) (eqb-true r.centre a e) h.0.2.promised)
      | inr e ↦ elim g [
        | inl here ↦ absurd (false≢true (sym e ∙ eq-eqb r.centre a here))
        | inr there ↦ rw e (moment_promised before key version ballot rs h.1 a there)
      ]
    ]

-- reports of different centres are what their centres told at these moments
told_same : (before : List ledger.Entry) (key : Key) (version : ℕ) (ballot : Ballot) (reports : List Report) (h : AllByRecursion (IsReport before key version ballot) reports) →
    are_distinct_centres (centres_of reports) ≡ true → (at : ℕ → List ledger.Entry) → ((a : ℕ) → In a (centres_of reports) → at a ≡ moment before key version ballot reports h a) →
    map (λ a. full.report_of a (ledger.facts_of (at a) a) key version ballot) (centres_of reports) ≡ reports
told_same before key version ballot [] h distinct at same = refl
told_same before key version ballot (r ∷ rs) h distinct at same =
    let parts : (not (list_any (λ b. r.centre == b) (centres_of rs)) ≡ true) × (are_distinct_centres (centres_of rs) ≡ true) = and_parts _ _ distinct in
    let here : (r.centre == r.centre) ≡ true = eq-eqb r.centre r.centre refl in
    let first : at r.centre ≡ h.0.1 = same r.centre (inl refl) ∙ rw here refl in
    let told : full.report_of r.centre (ledger.facts_of (at r.centre) r.centre) key version ballot ≡ r =
    ap (λ es. full.report_of r.centre (ledger.facts_of es r.centre) key version ballot) first ∙ sym h.0.2.same in
    let rest : map (λ a. full.report_of a (ledger.facts_of (at a) a) key version ballot) (centres_of rs) ≡ rs =
    told_same before key version ballot rs h.1 parts.1 at (λ a g. same a (inr g) ∙
    (let other : (r.centre == a) ≡ false = elim (cases_Bool (r.centre == a)) [
      | inl e ↦ absurd (false≢true (sym (not-true (list_any (λ b. r.centre == b) (centres_of rs)) parts.0) ∙ any_In (λ b. r.centre == b) (centres_of rs) a g e))
      | inr e ↦ e
    ] in rw other refl)) in
    both_same told rest
  where
    both_same : {x y : Report} {xs ys : List Report} → x ≡ y → xs ≡ ys → x ∷ xs ≡ y ∷ ys
    both_same h g i = h i ∷ g i

    any_In : (p : ℕ → Bool) (xs : List ℕ) (a : ℕ) → In a xs → p a ≡ true → list_any p xs ≡ true
    any_In p [] a k e = absurd k
    any_In p (x ∷ xs) a k e =
        elim (cases_Bool (p x)) [
          | inl f ↦ rw f refl
          | inr f ↦ rw f (elim k [ inl same ↦ absurd (false≢true (sym f ∙ ap p same ∙ e)) | inr there ↦ any_In p xs a there e ])
        ]

module _ (cluster : Cluster) (sizes : IsSetup (setup_of cluster)) (four : length cluster.schema ≤ 4) (es : List ledger.Entry) (allowed : Allowed (setup_of cluster) (reduced es))
    (a : ℕ) (centre : In a (centres_to cluster.quorums.centres)) (fine : AllFine (ledger.facts_of es a))
    (all_fine : (later earlier : List ledger.Entry) → es ≡ later ++ earlier → (b : ℕ) → AllFine (ledger.facts_of earlier b))
    (i : Place) (m : Ballot) (options : Options) (own : Own es i options) where
  pub first_sent : is_fast m ≡ false → (reports : List Report) (claims : TxMap (Option Choice)) → IsFirstStructure cluster es a i.key i.version m options reports claims → IsFirst (setup_of cluster) (reduced es) a i m options
  first_sent classic reports claims h =
      let centres : List ℕ = centres_of reports in
      let among : (b : ℕ) → In b (centres_of reports) → In b (centres_to cluster.quorums.centres) × (has_promised es i.key i.version m b ≡ true) = λ b g.
      In-filtered (has_promised es i.key i.version m) b (all_centres cluster.quorums)
      (one_of-In b (promisers_of cluster.quorums es i.key i.version m)
      (all_In (λ c. is_one_of (promisers_of cluster.quorums es i.key i.version m) c) (centres_of reports) h.promised.0 b g)) in
      let within : (b : ℕ) → In b (centres_of reports) → In b (centres_to cluster.quorums.centres) = λ b g. (among b g).0 in
      let earlier : ℕ → List ledger.Entry = moment es i.key i.version m reports h.reported in
      let from : (b : ℕ) → IsTail (reduced (moment es i.key i.version m reports h.reported b)) (reduced es) = λ b.
      let t : (later : List ledger.Entry) × (es ≡ later ++ moment es i.key i.version m reports h.reported b) = moment_tail es i.key i.version m reports h.reported b in
      subst (λ z. IsTail (reduced (moment es i.key i.version m reports h.reported b)) (reduced z)) (sym t.1) (tail_after t.0 (moment es i.key i.version m reports h.reported b)) in
      let fine_at : (b : ℕ) → AllFine (ledger.facts_of (moment es i.key i.version m reports h.reported b) b) = λ b.
      let t : (later : List ledger.Entry) × (es ≡ later ++ moment es i.key i.version m reports h.reported b) = moment_tail es i.key i.version m reports h.reported b in
      all_fine t.0 (moment es i.key i.version m reports h.reported b) t.1 b in
      let same : map (λ b. full.report_of b (ledger.facts_of (moment es i.key i.version m reports h.reported b) b) i.key i.version m) (centres_of reports) ≡ reports =
      told_same es i.key i.version m reports h.reported h.promised.1 (moment es i.key i.version m reports h.reported) (λ b g. refl) in
      let base : Options = forced_of cluster.quorums reports in
      let once : Once (forced_of cluster.quorums reports) = Once-forced cluster.quorums reports in
      let grown : GrownTo cluster four es allowed a centre fine i base options =
      subst (GrownTo cluster four es allowed a centre fine i base) (sym h.made)
      (all_claimed cluster four es allowed a centre fine i (structures.all_claims claims reports) base base once (subst (Own es i) h.made own) ([], refl)) in
      let length_same : length reports ≡ length (centres_of reports) = sym (length-map reports (λ r. r.centre)) in
      let promises : cluster.quorums.classic ≤ length (centres_of reports) =
      subst (λ n. cluster.quorums.classic ≤ n) length_same (enough-classic cluster (ledger.facts_of es a) i.key i.version reports sizes.classic_parts h.enough) in
      record {
        none = last_same es i m ∙ h.none_before;
        centre = centre;
        quorum = is_one_of (centres_of reports);
        enough = omega (arith, promises, length-members cluster.quorums.centres (centres_of reports) h.promised.1 within);
        at_time = λ b. reduced (moment es i.key i.version m reports h.reported b);
        before = λ b g. from b;
        promised = λ b g. subst (λ fs. HasPromised fs i m) (sym (facts_same b (moment es i.key i.version m reports h.reported b)))
            (promised_reduced (ledger.facts_of (moment es i.key i.version m reports h.reported b) b) i m (moment_promised es i.key i.version m reports h.reported b (one_of-In b (centres_of reports) g)));
        base = base;
        apart = Once-Distinct base once;
        forced = λ t x g. mark_value t base ∙ subst (λ rs. value_of (forced_of cluster.quorums rs) t ≡ Some x) same
            (forced_there cluster es allowed sizes i m classic (centres_of reports) h.promised.1 within promises (moment es i.key i.version m reports h.reported) from fine_at t x g);
        forced_only = λ t x g. there_forced cluster es allowed sizes i m classic (centres_of reports) h.promised.1 within promises (moment es i.key i.version m reports h.reported) from fine_at t x
            (subst (λ rs. value_of (forced_of cluster.quorums rs) t ≡ Some x) (sym same) (sym (mark_value t base) ∙ g));
        together = elim (enough-cases cluster (ledger.facts_of es a) i.key i.version reports h.enough) [
          | inl many ↦ inl (omega (arith, many, length_same, length-members cluster.quorums.centres (centres_of reports) h.promised.1 within))
          | inr both ↦ inr (together_reduced cluster four es allowed a fine i base once both.1)
        ];
        steps = grown.0;
        grown = grown.1;
      }

  pub next_sent : (last : Options) (claim : TxId × Option Choice) → Once last → IsNextStructure cluster es a i.key i.version m options last claim → IsNext (setup_of cluster) (reduced es) a i m options
  next_sent last claim once h =
      let grown : GrownTo cluster four es allowed a centre fine i last options =
      subst (GrownTo cluster four es allowed a centre fine i last) (sym h.made)
      (one_claim cluster four es allowed a centre fine i last last claim once (subst (Own es i) h.made own) ([], refl)).0 in
      record {
        last = last;
        is_last = last_same es i m ∙ h.last_before;
        steps = grown.0;
        grown = grown.1;
      }
