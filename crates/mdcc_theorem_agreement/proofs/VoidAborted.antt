-- A choice at the version that is held, which may still count, is not void: what was heard of its transaction is no abort, and is needed.
use Rattle.std.proofs.Common.{◌≡◌, ℕ, Bool, true, false, ◌&&◌, ◌||◌, List, [], ◌∷◌, refl, sym, ap, ◌∙◌, subst, arith, inl, inr, Option, Some, None}
use Rattle.std.proofs.lemmas.Bool.{false≢true, cases_Bool, le-leb}
use Rattle.std.specs.List.{list_any}
use Rattle.mdcc_option.specs.declared.choices.Choice.{Choice}
use Rattle.mdcc_option.specs.declared.choices.Outcome.{Outcome}
use Rattle.mdcc_option.specs.declared.choices.Outcome.TheVariants.{Commit, Abort}
use Rattle.mdcc_option.specs.declared.cluster.Cluster.{Cluster}
use Rattle.mdcc_def_protocol.specs.Facts as full
use Rattle.mdcc_def_protocol.specs.Marks.{is_abort}
use Rattle.mdcc_def_ledger.specs.Ledger as ledger
use Rattle.mdcc_def_messages.specs.declared.facts.Fact.{Fact}
use Rattle.mdcc_theorem_agreement.proofs.FloorsReduced.{heard_listed}
use Rattle.mdcc_theorem_agreement.proofs.HeldReduced.{AllFine, current_same}
use Rattle.mdcc_theorem_agreement.proofs.HeardHere.{IsAborted-tail, IsCommitted-tail, fact_met, heard_done}
use Rattle.mdcc_theorem_agreement.proofs.Reduction.{setup_of, reduced, facts_same}
use Rattle.mdcc_theorem_agreement.proofs.ReducedFacts.{Heard, current}
use Rattle.mdcc_theorem_agreement.proofs.ReducedLedger.{Entry, Executes, IsAborted, IsCommitted, IsTail, MayCount, facts_of, Allowed}
use Rattle.mdcc_theorem_agreement.proofs.ReducedOptions.{In, Place, spot}

and_none : (a b : Bool) → b ≡ false → (a && b) ≡ false
and_none true b h = h
and_none false b h = refl

any_listed : (p : Choice → Bool) (cs : List Choice) (d : Choice) → In d cs → p d ≡ true → list_any p cs ≡ true
any_listed p [] d h e = absurd h
any_listed p (c ∷ cs) d h e =
    elim (cases_Bool (p c)) [
      | inl f ↦ rw f refl
      | inr f ↦ rw f (elim h [ inl here ↦ absurd (false≢true (sym f ∙ ap p here ∙ e)) | inr there ↦ any_listed p cs d there e ])
    ]

-- where nothing that was heard is past, nothing is idle
not_past : (facts : List Fact) (d : Choice) → full.is_past facts (full.heard_of facts d.tx) ≡ false → full.is_idle facts d.tx ≡ false
not_past facts d h = and_first (full.is_finished facts d.tx && full.is_past facts (full.heard_of facts d.tx)) _ (and_none (full.is_finished facts d.tx) (full.is_past facts (full.heard_of facts d.tx)) h)
  where
    and_first : (a b : Bool) → a ≡ false → (a && b) ≡ false
    and_first true b e = absurd (false≢true (sym e))
    and_first false b e = refl

or_none : (a b : Bool) → a ≡ false → b ≡ false → (a || b) ≡ false
or_none true b h g = h
or_none false b h g = g

module _ (cluster : Cluster) (es : List ledger.Entry) (allowed : Allowed (setup_of cluster) (reduced es)) (a : ℕ) (i : Place) (d : Choice)
    (fine : AllFine (ledger.facts_of es a)) (counts : MayCount (setup_of cluster) (reduced es) i d) (held : current (facts_of a (reduced es)) i.key ≡ i.version) where
  abbrev own_facts : List Fact
  own_facts = ledger.facts_of es a

  listed : (o : Outcome) → full.heard_of own_facts d.tx ≡ Some o → In (Heard d.tx o) (facts_of a (reduced es))
  listed o h = subst (In (Heard d.tx o)) (sym (facts_same a es)) (heard_listed own_facts d.tx o h)

  by_outcome : (o : Option Outcome) → full.heard_of own_facts d.tx ≡ o → full.is_void own_facts d.tx ≡ false
  by_outcome None h =
      or_none (is_abort (full.heard_of own_facts d.tx)) (full.is_idle own_facts d.tx) (rw h refl) (not_past own_facts d (rw h refl))
  by_outcome (Some Abort) h =
      let met : (old : List Entry) × IsTail old (reduced es) × IsAborted (setup_of cluster) old d.tx = fact_met (setup_of cluster) a (Heard d.tx Abort) (reduced es) allowed (listed Abort h) in
      absurd (counts.2 (IsAborted-tail (setup_of cluster) d.tx met.0 (reduced es) met.1 met.2))
  by_outcome (Some (Commit cs)) h =
      let there : In (Heard d.tx (Commit cs)) (facts_of a (reduced es)) = listed (Commit cs) h in
      let met : (old : List Entry) × IsTail old (reduced es) × IsCommitted (setup_of cluster) old d.tx cs = fact_met (setup_of cluster) a (Heard d.tx (Commit cs)) (reduced es) allowed there in
      let committed : IsCommitted (setup_of cluster) (reduced es) d.tx cs = IsCommitted-tail (setup_of cluster) d.tx cs met.0 (reduced es) met.1 met.2 in
      let one_of : In d cs = counts.1 cs committed.0 in
      let at_version : current (facts_of a (reduced es)) d.key ≡ d.version = subst (λ (z : Place). current (facts_of a (reduced es)) z.key ≡ z.version) (sym counts.0) held in
      let done : Executes (facts_of a (reduced es)) (spot d) d = heard_done (setup_of cluster) (reduced es) allowed a d cs committed there one_of at_version in
      let now : full.current_of own_facts d.key ≡ d.version = sym (ap (λ fs. current fs d.key) (facts_same a es) ∙ current_same own_facts d.key fine) ∙ at_version in
      let needed : full.is_needed own_facts d ≡ true = rw done.1 (le-leb (full.current_of own_facts d.key) d.version (omega arith)) in
      let some : list_any (full.is_needed own_facts) cs ≡ true = any_listed (full.is_needed own_facts) cs d one_of needed in
      or_none (is_abort (full.heard_of own_facts d.tx)) (full.is_idle own_facts d.tx) (rw h refl) (not_past own_facts d (rw (h, some) refl))

  pub not_void : full.is_void own_facts d.tx ≡ false
  not_void = by_outcome (full.heard_of own_facts d.tx) refl
