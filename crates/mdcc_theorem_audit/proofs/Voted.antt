-- Marks that were voted at a classic ballot are those of the structures of that ballot.
use Rattle.std.proofs.Common.{◌≡◌, ℕ, Bool, List, [], ◌∷◌, ◌==◌, ◌||◌, ◌&&◌, ◌≤◌, arith, suc, None, Option, Some, cond, false, true, inl, inr, refl, sym, ap, ◌∙◌, map, subst}
use Rattle.std.proofs.lemmas.Bool.{cases_Bool}
use Rattle.std.specs.Option.{option_or}
use Rattle.std.specs.Prelude.{MatchBool, flat_map, if◌then◌else◌, filter, length, not, is_some, reverse}
use Rattle.mdcc_base.specs.Ballot.{is_fast}
use Rattle.mdcc_base.specs.TxId.{tx_eq}
use Rattle.mdcc_base.specs.Quorums.{all_centres}
use Rattle.mdcc_base.specs.declared.identifiers.Ballot.{Ballot}
use Rattle.mdcc_base.specs.declared.identifiers.TxId.{TxId}
use Rattle.mdcc_base.specs.declared.key.Key.{Key}
use Rattle.mdcc_option.specs.declared.choices.Choice.{Choice}
use Rattle.mdcc_option.specs.declared.choices.Mark.{Mark}
use Rattle.mdcc_option.specs.declared.cluster.Cluster.{Cluster}
use Rattle.mdcc_option.proofs.Equal.{Decides-tx}
use Rattle.mdcc_struct.proofs.Values.{value_of-union}
use Rattle.mdcc_struct.specs.Maps.{union, value_of}
use Rattle.mdcc_struct.specs.declared.options.Options.{Options}
use Rattle.mdcc_def_protocol.specs.Facts.{is_finished, votes_of}
use Rattle.mdcc_def_messages.specs.declared.facts.Fact.{Fact}
use Rattle.mdcc_def_ledger.specs.AllowedFacts.{MayVoteClassic, are_apart}
use Rattle.mdcc_def_ledger.specs.AllowedLedgers.{IsAllowed, IsAllowedEntry, IsSent, is_valued, is_valued_as}
use Rattle.mdcc_def_ledger.specs.Ledger.{Added, Entry, facts_of}
use Rattle.mdcc_theorem_agreement.proofs.LawsTold.{allowed, at_place, sent_here}
use Rattle.mdcc_theorem_agreement.proofs.MapValues.{mark_value as mark-value}
use Rattle.mdcc_theorem_agreement.proofs.ReducedLedger.{last_sent}
use Rattle.mdcc_theorem_agreement.proofs.ReducedOptions.{In, mark_of}
use Rattle.mdcc_theorem_agreement.proofs.Reduction.{reduced, setup_of}
use Rattle.mdcc_theorem_agreement.proofs.StructuresExtend.{chain, sent-last}
use Rattle.mdcc_theorem_agreement.specs.Laws.{IsLedger}
use Rattle.mdcc_audit.proofs.InOrder.{from-each}
use Rattle.mdcc_audit.proofs.Tests.{Decides-subject}
use Rattle.mdcc_audit.specs.Auditing.{Placed}
use Rattle.mdcc_audit.specs.Contradictions.{AreAlike, IsOneOf, Saying, mark_saying, mark_sayings}
use Rattle.mdcc_audit.specs.Logs.{placed_of}
use Rattle.mdcc_audit.specs.Sayings.{mark_value}
use Rattle.mdcc_audit.specs.declared.audited.Place.{Place}
use Rattle.mdcc_audit.specs.declared.subjects.Subject.{Subject}
use Rattle.mdcc_theorem_audit.proofs.Heard.{from-mapped, from-reversed, in-logs}
use Rattle.mdcc_theorem_audit.specs.Ledgers.{logs_of}

else-of : (P : Type 0) {Q : Type 0} (b : Bool) → b ≡ false → MatchBool b P Q → Q
else-of P false e h = h
else-of P true e h = cc

or-right : (a b : Bool) → b ≡ true → (a || b) ≡ true
or-right true b e = refl
or-right false b e = e

-- ---- marks of options

absurd : {X : Type 0} → ⊥ → X
absurd e = elim e [ ]

false≢true : false ≡ true → ⊥
false≢true e = cc

and_parts : (a b : Bool) → (a && b) ≡ true → (a ≡ true) × (b ≡ true)
and_parts true b e = (refl, e)
and_parts false b e = cc

none_if_not : {X : Type 0} (o : Option X) → not (is_some o) ≡ true → o ≡ None
none_if_not None h = refl
none_if_not (Some x) h = absurd (false≢true h)

none_if_new : {X : Type 0} (o : Option X) (b : Bool) → not (is_some o || b) ≡ true → o ≡ None
none_if_new None b h = refl
none_if_new (Some x) b h = absurd (false≢true h)

all_pass : (p : TxId × Mark → Bool) (xs : Options) → length (filter p xs) ≡ length xs → (x : TxId × Mark) → In x xs → p x ≡ true
all_pass p [] h x g = absurd g
all_pass p (y ∷ ys) h x g =
    elim (cases_Bool (p y)) [
      | inl e ↦
          let more : length (filter p (y ∷ ys)) ≡ suc (length (filter p ys)) = rw e refl in
          elim g [ inl here ↦ ap p (sym here) ∙ e | inr there ↦ all_pass p ys (omega arith) x there ]
      | inr e ↦ absurd (let less : length (filter p (y ∷ ys)) ≡ length (filter p ys) = rw e refl in omega (arith, filter_less p ys))
    ]
  where
    filter_less : (p : TxId × Mark → Bool) (xs : Options) → length (filter p xs) ≤ length xs
    filter_less p [] = omega arith
    filter_less p (x ∷ xs) = elim (cases_Bool (p x)) [ inl e ↦ rw e (omega (arith, filter_less p xs)) | inr e ↦ rw e (omega (arith, filter_less p xs)) ]

apart_value : (os : Options) → are_apart os ≡ true → (p : TxId × Mark) → In p os → value_of os p.0 ≡ Some p.1
apart_value [] h p g = absurd g
apart_value (e ∷ es') h p g =
    let parts : (not (is_some (value_of es' e.0)) ≡ true) × (are_apart es' ≡ true) = and_parts _ _ h in
    elim g [
      | inl here ↦ subst (λ (z : TxId × Mark). value_of (e ∷ es') z.0 ≡ Some z.1) here (rw ((Decides-tx e.0 e.0).1 refl) refl)
      | inr there ↦
          let rest : value_of es' p.0 ≡ Some p.1 = apart_value es' parts.1 p there in
          elim (cases_Bool (tx_eq e.0 p.0)) [
            | inl same ↦ absurd (let none : value_of es' p.0 ≡ None = ap (value_of es') (sym ((Decides-tx e.0 p.0).0 same)) ∙ none_if_not (value_of es' e.0) parts.0 in
                let bad : None ≡ Some p.1 = sym none ∙ rest in cc)
            | inr other ↦ rw other rest
          ]
    ]

-- ---- a vote in a ledger

module _ (cluster : Cluster) (a : ℕ) (key : Key) (version : ℕ) (ballot : Ballot) (options : Options) (offered : Option Choice) (classic : is_fast ballot ≡ false)
    (t : TxId) (x : Mark) (there : In (t, x) options) where
  abbrev pub vote : Fact
  vote = Fact.Voted key version ballot options offered

  abbrev pub WasMade : List Entry → Type 0
  WasMade entries = (structure : Options) × (is_valued entries key version ballot structure ≡ true) × (value_of structure t ≡ Some x)

  still-made : (e : Entry) (before : List Entry) → WasMade before → WasMade (e ∷ before)
  still-made e before made = (made.0, or-right (is_valued_as key version ballot made.0 e) (is_valued before key version ballot made.0) made.1, made.2)

  made-here : (before : List Entry) (c : ℕ) → IsAllowedEntry cluster before (Added c vote) → WasMade before
  made-here before c entry =
      let may : MayVoteClassic (facts_of before c) key version ballot options offered = else-of _ (is_fast ballot) classic entry.1.kind in
      let votes = votes_of (facts_of before c) key version ballot in
      let sent : IsSent before (facts_of before c) key version ballot (union votes options) = else-of _ (is_fast ballot) classic entry.2 in
      let new : value_of votes t ≡ None =
      none_if_new (value_of votes t) (is_finished (facts_of before c) t)
      (all_pass (λ e. not (is_some (value_of votes e.0) || is_finished (facts_of before c) e.0)) options (ap length may.each_new) (t, x) there) in
      let mark : value_of (union votes options) t ≡ Some x =
      value_of-union votes options t ∙ ap (λ o. option_or o (value_of options t)) new ∙ apart_value options may.apart (t, x) there in (
        sent.structure,
        sent.was,
        elim (sent.same t) [
          | inl same ↦ sym same ∙ mark
          | inr missing ↦ absurd (let bad : None ≡ Some x = sym missing.0 ∙ mark in cc)
        ],
      )

  pub made : (before : List Entry) → IsAllowed cluster before → IsOneOf vote (facts_of before a) → WasMade before
  made [] ok is = elim is [ ]
  made (Added c fact ∷ before) ok is =
      still-made (Added c fact) before (by_centre (λ more. made before ok.0 more) (c == a) refl)
    where
      by_fact : (IsOneOf vote (facts_of before a) → WasMade before) → IsOneOf vote (fact ∷ facts_of before a) → WasMade before
      by_fact next (inl same) = made-here before c (subst (λ g. IsAllowedEntry cluster before (Added c g)) (sym same) ok.1)
      by_fact next (inr more) = next more

      by_centre : (IsOneOf vote (facts_of before a) → WasMade before) → (here : Bool) → (c == a) ≡ here → WasMade before
      by_centre next true here = by_fact next (subst (λ b. IsOneOf vote (cond b (fact ∷ facts_of before a) (facts_of before a))) here is)
      by_centre next false here = next (subst (λ b. IsOneOf vote (cond b (fact ∷ facts_of before a) (facts_of before a))) here is)
  made (Entry.Begun c tx choices ∷ before) ok is = still-made (Entry.Begun c tx choices) before (made before ok.0 is)
  made (Entry.Valued c k v m sent ∷ before) ok is = still-made (Entry.Valued c k v m sent) before (made before ok.0 is)

-- ---- what is said of marks

-- a saying is that of the last structure of its ballot
module _ (cluster : Cluster) (ledger : List Entry) (h : IsLedger cluster ledger) where
  abbrev last-of : Subject → Option (List (TxId × Mark))
  last-of s = last_sent (reduced ledger) (at_place cluster ledger h s.key s.version) s.ballot

  abbrev Tells : Saying → Type 0
  Tells e = (last : List (TxId × Mark)) × (x : Mark) × (last-of e.0 ≡ Some last) × (mark_of e.0.tx last ≡ Some x) × (e.1.value ≡ mark_value x)

  by_last : (e : Saying) (structure : Options) (x : Mark) → is_valued ledger e.0.key e.0.version e.0.ballot structure ≡ true → value_of structure e.0.tx ≡ Some x
      → e.1.value ≡ mark_value x → (last : Option (List (TxId × Mark))) → last-of e.0 ≡ last → Tells e
  by_last e structure x valued given value None none =
      elim (sent-last (reduced ledger) (at_place cluster ledger h e.0.key e.0.version) e.0.ballot structure (sent_here cluster ledger h e.0.key e.0.version e.0.ballot structure valued) none) [ ]
  by_last e structure x valued given value (Some last) is = (
    last,
    x,
    is,
    chain (setup_of cluster) (reduced ledger) (at_place cluster ledger h e.0.key e.0.version) e.0.ballot last structure (allowed cluster ledger h) is
        (sent_here cluster ledger h e.0.key e.0.version e.0.ballot structure valued) e.0.tx x (mark-value e.0.tx structure ∙ given),
    value,
  )

  one-of : (place : Place) (key : Key) (version : ℕ) (ballot : Ballot) (options : Options) (e : Saying) → IsOneOf e (map (mark_saying place key version ballot) options)
      → (p : TxId × Mark) × In p options × (e ≡ mark_saying place key version ballot p)
  one-of place key version ballot [] e is = elim is [ ]
  one-of place key version ballot (p ∷ ps) e (inl same) = (p, inl refl, same)
  one-of place key version ballot (p ∷ ps) e (inr more) = let g = one-of place key version ballot ps e more in (g.0, inr g.1, g.2)

  tells : (e : Saying) → IsOneOf e (flat_map mark_sayings (placed_of (logs_of cluster ledger))) → Tells e
  tells e is =
      let from = from-each mark_sayings e (placed_of (logs_of cluster ledger)) is in
      let log = in-logs 1 (logs_of cluster ledger) from.0 from.1 in
      let centre = from-mapped (λ a. reverse (facts_of ledger a)) log.0 (all_centres cluster.quorums) log.1 in
      let there = from-reversed from.0.1 (facts_of ledger centre.0) (subst (λ facts. IsOneOf from.0.1 facts) centre.1 log.2) in
      of-fact from.0 centre.0 there from.2
    where
      of-vote : (place : Place) (key : Key) (version : ℕ) (ballot : Ballot) (options : Options) (offered : Option Choice) (a : ℕ)
          → IsOneOf (Fact.Voted key version ballot options offered) (facts_of ledger a)
          → (fast : Bool) → is_fast ballot ≡ fast → IsOneOf e (if fast then [] else map (mark_saying place key version ballot) options) → Tells e
      of-vote place key version ballot options offered a there true fast none = elim none [ ]
      of-vote place key version ballot options offered a there false classic more =
          let g = one-of place key version ballot options e more in
          let w = made cluster a key version ballot options offered classic g.0.0 g.0.1 g.1 ledger h.allowed there in
          subst Tells (sym g.2) (by_last (mark_saying place key version ballot g.0) w.0 g.0.1 w.1 w.2 refl (last-of (mark_saying place key version ballot g.0).0) refl)

      of-fact : (one : Placed) (a : ℕ) → IsOneOf one.1 (facts_of ledger a) → IsOneOf e (mark_sayings one) → Tells e
      of-fact (place, Fact.Voted key version ballot options offered) a there more = of-vote place key version ballot options offered a there (is_fast ballot) refl more
      of-fact (place, Fact.Heard tx outcome) a there none = elim none [ ]
      of-fact (place, Fact.Booted epoch) a there none = elim none [ ]
      of-fact (place, Fact.Floor centre era seq) a there none = elim none [ ]
      of-fact (place, Fact.Promised key low high ballot) a there none = elim none [ ]
      of-fact (place, Fact.Adopted key version item adds) a there none = elim none [ ]

  same-some : {X : Type 0} (o p : X) → Some o ≡ Some p → o ≡ p
  same-some o p e = cc

  pub marks-alike : AreAlike (flat_map mark_sayings (placed_of (logs_of cluster ledger)))
  marks-alike a b x y same =
      let p = tells a x in
      let q = tells b y in
      let subjects : a.0 ≡ b.0 = (Decides-subject a.0 b.0).0 same in
      let last : p.0 ≡ q.0 = same-some p.0 q.0 (sym p.2 ∙ ap last-of subjects ∙ q.2) in
      let marks : p.1 ≡ q.1 =
      same-some p.1 q.1 (sym p.3 ∙ ap (λ (s : Subject). mark_of s.tx p.0) subjects ∙ ap (λ marks. mark_of b.0.tx marks) last ∙ q.3) in
      p.4 ∙ ap mark_value marks ∙ sym q.4
