-- The laws, told of ledgers as they are defined.
use Rattle.std.proofs.Common.{◌≡◌, ℕ, Bool, true, false, ◌||◌, List, [], ◌∷◌, ◌++◌, refl, sym, ap, ◌∙◌, arith, inl, inr, Some}
use Rattle.std.specs.List.{list_all, list_any}
use Rattle.std.proofs.lemmas.Bool.{and_from, and_parts, cases_Bool}
use Rattle.std.proofs.Common.{subst}
use Rattle.mdcc_base.specs.Quorums.{all_centres}
use Rattle.mdcc_base.specs.Ballot.{ballot_lt, fast_ballot}
use Rattle.mdcc_base.specs.TxId.{tx_eq}
use Rattle.mdcc_base.specs.declared.identifiers.Ballot.{Ballot}
use Rattle.mdcc_base.specs.declared.identifiers.TxId.{TxId}
use Rattle.mdcc_base.specs.declared.key.Key.{Key}
use Rattle.mdcc_option.specs.declared.choices.Choice.{Choice}
use Rattle.mdcc_option.specs.declared.choices.Mark.{Mark}
use Rattle.mdcc_option.specs.declared.choices.Mark.TheVariants.{Accept}
use Rattle.mdcc_option.specs.declared.choices.Outcome.{Outcome}
use Rattle.mdcc_option.specs.declared.choices.Outcome.TheVariants.{Commit}
use Rattle.mdcc_option.specs.declared.cluster.Cluster.{Cluster}
use Rattle.mdcc_option.specs.declared.items.Update.{Update}
use Rattle.mdcc_option.specs.declared.items.Update.TheVariants.{Write, Add}
use Rattle.mdcc_struct.specs.Maps.{value_of}
use Rattle.mdcc_struct.specs.declared.options.Options.{Options}
use Rattle.mdcc_def_ledger.specs.AllowedLedgers.{IsAllowed}
use Rattle.mdcc_def_protocol.specs.Facts as full
use Rattle.mdcc_def_protocol.specs.Fit.{has_tx}
use Rattle.mdcc_def_ledger.specs.Ledger as ledger
use Rattle.mdcc_theorem_agreement.specs.Laws as law
use Rattle.mdcc_theorem_agreement.specs.Laws.{IsLedger, IsChosenAt, IsAbort, IsCommit, IsAcceptedBy, Agree, do_agree}
use Rattle.mdcc_theorem_agreement.proofs.AcceptedAgree as agreement
use Rattle.mdcc_theorem_agreement.proofs.Ballots.{fast}
use Rattle.mdcc_theorem_agreement.proofs.OutcomeToReduced.{decided}
use Rattle.mdcc_theorem_agreement.proofs.HeldReduced.{AllFine}
use Rattle.mdcc_theorem_agreement.proofs.LedgersGrow.{IsTail-same, finished_heard}
use Rattle.mdcc_theorem_agreement.proofs.VersionsLow.{all_fine, begun-after}
use Rattle.mdcc_theorem_agreement.proofs.MapValues.{mark_value}
use Rattle.mdcc_theorem_agreement.proofs.VotesReduced.{sent_valued}
use Rattle.mdcc_theorem_agreement.proofs.OneMark as marks
use Rattle.mdcc_theorem_agreement.proofs.ChosenFound.{chosen_found}
use Rattle.mdcc_theorem_agreement.proofs.Reduction.{setup_of, IsSetup-of, reduced, facts_same, tail_after}
use Rattle.mdcc_theorem_agreement.proofs.FloorsReduced.{has_heard, finished_same, value_left}
use Rattle.mdcc_theorem_agreement.proofs.OutcomeFromReduced.{begun_is, outcome_aborted, outcome_stays}
use Rattle.mdcc_theorem_agreement.proofs.Setups.{IsSetup}
use Rattle.mdcc_theorem_agreement.proofs.AllowedReduced.{allowed_reduced}
use Rattle.mdcc_theorem_agreement.proofs.ReducedFacts.{HasHeard, finished, votes}
use Rattle.mdcc_theorem_agreement.proofs.ReducedLedger.{facts_of, AllHeard, IsTail, IsAborted, IsAcceptedIn, IsChosen, WasSent, Allowed}
use Rattle.mdcc_theorem_agreement.proofs.ReducedOptions.{In, Place, mark_of, Agrees, agree}
use Rattle.mdcc_theorem_agreement.proofs.TestsDecide.{Decides-tx, Decides-ballot_lt}
use Rattle.mdcc_theorem_agreement.proofs.ViewsReduced.{votes_same, chosen_reduced}

-- what agrees
seen_told : (t : TxId) (seen : List TxId) → In t seen → has_tx seen t ≡ true
seen_told t [] h = absurd h
seen_told t (u ∷ us) h =
    elim h [
      | inl here ↦ let test : tx_eq t u ≡ true = (Decides-tx t u).1 (sym here) in rw test refl
      | inr there ↦ or_right (tx_eq t u) (list_any (tx_eq t) us) (seen_told t us there)
    ]
  where
    or_right : (p q : Bool) → q ≡ true → (p || q) ≡ true
    or_right true q k = refl
    or_right false q k = k

agree_told : (t : TxId) (x : Update) (u : TxId) (y : Update) → agree t x u y → do_agree t x u y ≡ true
agree_told t (Write item seen) u (Write item' seen') h = absurd h
agree_told t (Write item seen) u (Add m) h = seen_told u seen h
agree_told t (Add m) u (Write item seen) h = seen_told t seen h
agree_told t (Add m) u (Add m') h = refl

agrees_told : (c d : Choice) → Agrees c d → Agree c d
agrees_told c d h = agree_told c.tx c.update d.tx d.update h

-- where all have a fact, all are found to have heard
all_told : (cluster : Cluster) (es : List ledger.Entry) (t : TxId) → AllHeard (setup_of cluster) (reduced es) t → law.DidAllHear cluster es t
all_told cluster es t every = each (all_centres cluster.quorums) every
  where
    each : (xs : List ℕ) → ((a : ℕ) → In a xs → HasHeard (facts_of a (reduced es)) t) → list_all (λ b. full.is_heard (ledger.facts_of es b) t) xs ≡ true
    each [] k = refl
    each (x ∷ xs) k =
        and_from (full.is_heard (ledger.facts_of es x) t) (list_all (λ b. full.is_heard (ledger.facts_of es b) t) xs)
        (elim (cases_Bool (full.is_heard (ledger.facts_of es x) t)) [
          | inl e ↦ e
          | inr e ↦ absurd (has_heard (ledger.facts_of es x) t e (subst (λ fs. HasHeard fs t) (facts_same x es) (k x (inl refl))))
        ])
        (each xs (λ a g. k a (inr g)))

module _ (cluster : Cluster) (es : List ledger.Entry) (h : IsLedger cluster es) where
  pub setup_fine : IsSetup (setup_of cluster)
  setup_fine = IsSetup-of cluster h.of_cluster.quorums

  pub allowed : Allowed (setup_of cluster) (reduced es)
  allowed = allowed_reduced cluster h.of_cluster es h.allowed h.few

  pub fine : (a : ℕ) → AllFine (ledger.facts_of es a)
  fine a = all_fine (setup_of cluster) es allowed h.few a

  abbrev pub at_place : Key → ℕ → Place
  at_place key version = record { key = key; version = version }

  pub chosen_here : (key : Key) (version : ℕ) (k : Ballot) (t : TxId) (x : Mark) → IsChosenAt cluster es key version k t x → IsChosen (setup_of cluster) (reduced es) (at_place key version) k t x
  chosen_here key version k t x g = chosen_reduced cluster es (at_place key version) k t x g

  pub sent_here : (key : Key) (version : ℕ) (m : Ballot) (options : Options) → law.WasValued es key version m options → WasSent (reduced es) (at_place key version) m options
  sent_here key version m options g = sent_valued cluster setup_fine h.of_cluster.schema.few es allowed 0 (fine 0) es (at_place key version) m options g

  pub not_aborted : (t : TxId) → (IsAbort cluster es t → ⊥) → IsAborted (setup_of cluster) (reduced es) t → ⊥
  not_aborted t g aborted = g (outcome_aborted cluster setup_fine es allowed t aborted)

  pub accepted_here : (options : Options) (c : Choice) → IsAcceptedBy options c → IsAcceptedIn options c
  accepted_here options c g = mark_value c.tx options ∙ g

  -- ---- one mark

  pub one_mark : (key : Key) (version : ℕ) (k l : Ballot) (t : TxId) (x y : Mark) → IsChosenAt cluster es key version k t x → IsChosenAt cluster es key version l t y → x ≡ y
  one_mark key version k l t x y g f =
      marks.one_mark (setup_of cluster) setup_fine (reduced es) allowed (at_place key version) k l t x y (chosen_here key version k t x g) (chosen_here key version l t y f)

  pub mark_kept : (key : Key) (version : ℕ) (k m : Ballot) (t : TxId) (x : Mark) (later earlier : List ledger.Entry) (options : Options) → es ≡ later ++ earlier → IsChosenAt cluster es key version k t x → ballot_lt k m ≡ true →
      law.WasValued earlier key version m options → (law.DidAllHear cluster earlier t → ⊥) → value_of options t ≡ Some x
  mark_kept key version k m t x later earlier options parts g below sent unheard =
      let tail : IsTail (reduced earlier) (reduced es) = subst (λ z. IsTail (reduced earlier) (reduced z)) (sym parts) (tail_after later earlier) in
      sym (mark_value t options)
      ∙ (marks.in_structures (setup_of cluster) setup_fine (reduced es) allowed (at_place key version) k m t x (reduced earlier) options (chosen_here key version k t x g)
      ((Decides-ballot_lt k m).0 below) tail (sent_valued cluster setup_fine h.of_cluster.schema.few es allowed 0 (fine 0) earlier (at_place key version) m options sent)).0 (λ every. unheard (all_told cluster earlier t every))

  pub mark_only : (key : Key) (version : ℕ) (k m : Ballot) (t : TxId) (x y : Mark) (options : Options) → IsChosenAt cluster es key version k t x → ballot_lt k m ≡ true →
      law.WasValued es key version m options → value_of options t ≡ Some y → y ≡ x
  mark_only key version k m t x y options g below sent has =
      (marks.in_structures (setup_of cluster) setup_fine (reduced es) allowed (at_place key version) k m t x (reduced es) options (chosen_here key version k t x g)
      ((Decides-ballot_lt k m).0 below) (IsTail-same (reduced es)) (sent_here key version m options sent)).1 y (mark_value t options ∙ has)

  pub mark_found : (key : Key) (version : ℕ) (k : Ballot) (t : TxId) (x : Mark) → IsChosenAt cluster es key version k t x → ledger.chosen_of cluster.quorums es key version t ≡ Some x
  mark_found key version k t x g = chosen_found cluster setup_fine es allowed (at_place key version) k t x (chosen_here key version k t x g)

  -- ---- accepted choices agree

  pub consistent_chosen : (key : Key) (version : ℕ) (k l : Ballot) (c d : Choice) → IsChosenAt cluster es key version k c.tx (Accept c) → IsChosenAt cluster es key version l d.tx (Accept d) →
      (c.tx ≡ d.tx → ⊥) → (IsAbort cluster es c.tx → ⊥) → (IsAbort cluster es d.tx → ⊥) → Agree c d
  consistent_chosen key version k l c d g f other free_c free_d =
      agrees_told c d (agreement.consistent (setup_of cluster) (reduced es) allowed (at_place key version) setup_fine k l c d (chosen_here key version k c.tx (Accept c) g) (chosen_here key version l d.tx (Accept d) f)
      other (not_aborted c.tx free_c) (not_aborted d.tx free_d))

  pub consistent_sent : (key : Key) (version : ℕ) (m : Ballot) (options : Options) (c d : Choice) → law.WasValued es key version m options → IsAcceptedBy options c → IsAcceptedBy options d →
      (c.tx ≡ d.tx → ⊥) → (IsAbort cluster es c.tx → ⊥) → (IsAbort cluster es d.tx → ⊥) → Agree c d
  consistent_sent key version m options c d sent g f other free_c free_d =
      agrees_told c d ((agreement.Sound-structures (setup_of cluster) (reduced es) allowed (at_place key version) setup_fine m options (sent_here key version m options sent)).agreed c d
      (accepted_here options c g) (accepted_here options d f) other (not_aborted c.tx free_c) (not_aborted d.tx free_d))

  pub consistent_voted : (key : Key) (version a : ℕ) (c d : Choice) → IsAcceptedBy (full.votes_of (ledger.facts_of es a) key version fast_ballot) c →
      IsAcceptedBy (full.votes_of (ledger.facts_of es a) key version fast_ballot) d →
      (c.tx ≡ d.tx → ⊥) → (IsAbort cluster es c.tx → ⊥) → (IsAbort cluster es d.tx → ⊥) → Agree c d
  consistent_voted key version a c d g f other free_c free_d =
      let same : (t : TxId) → mark_of t (votes (facts_of a (reduced es)) (at_place key version) fast) ≡ value_of (full.votes_of (ledger.facts_of es a) key version fast_ballot) t =
      λ t. ap (λ fs. mark_of t (votes fs (at_place key version) fast)) (facts_same a es) ∙ votes_same (ledger.facts_of es a) (at_place key version) fast t in
      agrees_told c d ((agreement.Sound-votes (setup_of cluster) (reduced es) allowed (at_place key version) a (reduced es) (IsTail-same (reduced es))).agreed c d
      (same c.tx ∙ g) (same d.tx ∙ f) other (not_aborted c.tx free_c) (not_aborted d.tx free_d))

-- ---- an outcome stays

allowed_before : (cluster : Cluster) (later es : List ledger.Entry) → IsAllowed cluster (later ++ es) → IsAllowed cluster es
allowed_before cluster [] es h = h
allowed_before cluster (e ∷ later) es h = allowed_before cluster later es h.0

pub outcome_kept : (cluster : Cluster) (later es : List ledger.Entry) → IsLedger cluster (later ++ es) → (t : TxId) (o : Outcome) →
    ledger.outcome_of cluster.quorums es t ≡ Some o → ledger.outcome_of cluster.quorums (later ++ es) t ≡ Some o
outcome_kept cluster later es h t o g =
    let before : IsLedger cluster es = record {
      of_cluster = h.of_cluster;
      allowed = allowed_before cluster later es h.allowed;
      few = omega (arith, h.few, begun-after later es);
    } in
    outcome_stays cluster (setup_fine cluster es before) later es (allowed cluster es before) (allowed cluster (later ++ es) h) before.allowed t o g

pub commit_begun : (cluster : Cluster) (es : List ledger.Entry) → IsLedger cluster es → (t : TxId) (cs : List Choice) → IsCommit cluster es t cs → ledger.choices_begun es t ≡ cs
commit_begun cluster es h t cs g =
    begun_is cluster (setup_fine cluster es h) es (allowed cluster es h) t cs (decided cluster (setup_fine cluster es h) es (allowed cluster es h) t (Commit cs) g).0

-- ---- forgotten marks

pub forgotten_told : (cluster : Cluster) (es : List ledger.Entry) → IsLedger cluster es → (a : ℕ) (key : Key) (version : ℕ) (t : TxId) →
    full.is_forgotten (ledger.facts_of es a) key version t ≡ true → law.DidAllHear cluster es t
forgotten_told cluster es h a key version t g =
    let finished_here : finished (facts_of a (reduced es)) t ≡ true =
    ap (λ fs. finished fs t) (facts_same a es) ∙ finished_same (ledger.facts_of es a) t ∙ (and_parts _ _ g).0 in
    all_told cluster es t (finished_heard (setup_of cluster) a t (reduced es) (allowed cluster es h) finished_here)

pub shown_others : (cluster : Cluster) (es : List ledger.Entry) → IsLedger cluster es → (a : ℕ) (key : Key) (version : ℕ) (k : Ballot) (t : TxId) →
    (law.DidAllHear cluster es t → ⊥) → value_of (full.shown_of (ledger.facts_of es a) key version k) t ≡ value_of (full.votes_of (ledger.facts_of es a) key version k) t
shown_others cluster es h a key version k t unheard =
    elim (cases_Bool (full.is_forgotten (ledger.facts_of es a) key version t)) [
      | inl e ↦ absurd (unheard (forgotten_told cluster es h a key version t e))
      | inr e ↦ value_left (full.is_forgotten (ledger.facts_of es a) key version) (full.votes_of (ledger.facts_of es a) key version k) t e
    ]
