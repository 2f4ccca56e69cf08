-- What a centre gives an option first in its log is what its votes give it.
use Rattle.std.proofs.Common.{◌≡◌, ℕ, ◌+◌, ◌≤◌, ◌<◌, zero, suc, Bool, List, [], ◌∷◌, ◌++◌, ◌==◌, ◌&&◌, None, Option, Some, append_assoc, arith, cond, false, true, inl, inr, refl, sym, ap, ◌∙◌, ◌⊎◌, map, subst}
use Rattle.std.proofs.lemmas.Bool.{and_from, and_parts, cases_Bool, eqb-true, eq-eqb, false≢true, ne_eqb, cases_eq}
use Rattle.std.proofs.lemmas.List.{reverse-append}
use Rattle.std.specs.List.{range_with_len}
use Rattle.std.specs.Option.{option_map, option_or}
use Rattle.std.specs.Prelude.{flat_map, reverse}
use Rattle.mdcc_base.specs.Ballot.{ballot_eq}
use Rattle.mdcc_base.specs.Key.{key_eq}
use Rattle.mdcc_base.specs.TxId.{tx_eq}
use Rattle.mdcc_base.specs.declared.identifiers.Ballot.{Ballot}
use Rattle.mdcc_base.specs.declared.identifiers.TxId.{TxId}
use Rattle.mdcc_base.specs.declared.key.Key.{Key}
use Rattle.mdcc_option.specs.declared.choices.Mark.{Mark}
use Rattle.mdcc_option.specs.declared.cluster.Cluster.{Cluster}
use Rattle.mdcc_struct.proofs.Values.{value_of-union}
use Rattle.mdcc_struct.specs.Maps.{value_of}
use Rattle.mdcc_struct.specs.declared.options.Options.{Options}
use Rattle.mdcc_def_protocol.specs.Facts.{marks_voted, votes_of}
use Rattle.mdcc_def_messages.specs.declared.facts.Fact.{Fact}
use Rattle.mdcc_def_ledger.specs.Ledger.{Entry, facts_of, mark_given}
use Rattle.mdcc_theorem_agreement.proofs.TestsDecide.{Decides-ballot, Decides-key, Decides-tx}
use Rattle.mdcc_audit.proofs.Tests.{Decides-subject}
use Rattle.mdcc_audit.specs.Auditing.{Placed}
use Rattle.mdcc_audit.specs.Logs.{placed_from, placed_log, placed_of}
use Rattle.mdcc_audit.specs.Subjects.{in_vote, subject_eq}
use Rattle.mdcc_audit.specs.Votes.{given_of}
use Rattle.mdcc_audit.specs.declared.audited.Place.{Place}
use Rattle.mdcc_audit.specs.declared.subjects.Subject.{Subject}
use Rattle.mdcc_audit.specs.declared.votes.Given.{Given}
use Rattle.mdcc_theorem_audit.proofs.Casts.{Cast, cast_in, casts_in, first_cast, is_cast_of}
use Rattle.mdcc_theorem_audit.specs.Ledgers.{logs_of}

-- ---- lists

pub flat-append : {X Y : Type 0} (f : X → List Y) (xs ys : List X) → flat_map f (xs ++ ys) ≡ flat_map f xs ++ flat_map f ys
flat-append f [] ys = refl
flat-append f (x ∷ xs) ys = ap (λ zs. f x ++ zs) (flat-append f xs ys) ∙ sym (append_assoc (f x) (flat_map f xs) (flat_map f ys))

or-none : {X : Type 0} (o : Option X) → option_or o None ≡ o
or-none None = refl
or-none (Some x) = refl

map-or : {X Y : Type 0} (f : X → Y) (o p : Option X) → option_map f (option_or o p) ≡ option_or (option_map f o) (option_map f p)
map-or f None p = refl
map-or f (Some x) p = refl

pub first-append : (xs ys : List Cast) (a : ℕ) (s : Subject) → first_cast (xs ++ ys) a s ≡ option_or (first_cast xs a s) (first_cast ys a s)
first-append [] ys a s = refl
first-append (c ∷ cs) ys a s = elim (cases_Bool (is_cast_of a s c)) [ inl e ↦ rw e refl | inr e ↦ rw e (first-append cs ys a s) ]

-- ---- a fact

other-subject : (s t : Subject) → (s ≡ t → ⊥) → subject_eq s t ≡ false
other-subject s t apart = elim (cases_Bool (subject_eq s t)) [ inl e ↦ elim (apart ((Decides-subject s t).0 e)) [ ] | inr e ↦ e ]

-- no vote of another subject
first-apart : (a b : ℕ) (s : Subject) (key : Key) (version : ℕ) (ballot : Ballot) (options : Options)
    → ((tx : TxId) → s ≡ in_vote tx key version ballot → ⊥) → first_cast (map (cast_in b key version ballot) options) a s ≡ None
first-apart a b s key version ballot [] apart = refl
first-apart a b s key version ballot (e ∷ es) apart =
    let other : is_cast_of a s (cast_in b key version ballot e) ≡ false = and-false (b == a) (subject_eq s (in_vote e.0 key version ballot)) (other-subject s (in_vote e.0 key version ballot) (apart e.0)) in
    rw other (first-apart a b s key version ballot es apart)
  where
    and-false : (p q : Bool) → q ≡ false → (p && q) ≡ false
    and-false true q e = e
    and-false false q e = refl

-- nor of another centre
first-elsewhere : (a b : ℕ) (s : Subject) (key : Key) (version : ℕ) (ballot : Ballot) (options : Options) → (b ≡ a → ⊥)
    → first_cast (map (cast_in b key version ballot) options) a s ≡ None
first-elsewhere a b s key version ballot [] apart = refl
first-elsewhere a b s key version ballot (e ∷ es) apart = rw (ne_eqb b a apart) (first-elsewhere a b s key version ballot es apart)

fact-elsewhere : (a : ℕ) (s : Subject) (place : Place) (fact : Fact) → (place.centre ≡ a → ⊥) → first_cast (casts_in (place, fact)) a s ≡ None
fact-elsewhere a s place (Fact.Voted key version ballot options offered) apart = first-elsewhere a place.centre s key version ballot options apart
fact-elsewhere a s place (Fact.Heard tx outcome) apart = refl
fact-elsewhere a s place (Fact.Booted epoch) apart = refl
fact-elsewhere a s place (Fact.Floor origin era upto) apart = refl
fact-elsewhere a s place (Fact.Promised key low high ballot) apart = refl
fact-elsewhere a s place (Fact.Adopted key version item adds) apart = refl

-- no vote is of a whole transaction
pub no-whole : (a : ℕ) (s : Subject) (facts : List Placed) → s.whole ≡ true → first_cast (flat_map casts_in facts) a s ≡ None
no-whole a s [] whole = refl
no-whole a s ((place, fact) ∷ facts) whole =
    first-append (casts_in (place, fact)) (flat_map casts_in facts) a s
    ∙ ap (λ o. option_or o (first_cast (flat_map casts_in facts) a s)) (one fact) ∙ no-whole a s facts whole
  where
    never : (tx : TxId) (key : Key) (version : ℕ) (ballot : Ballot) → s ≡ in_vote tx key version ballot → ⊥
    never tx key version ballot e = false≢true (sym (ap (λ (z : Subject). z.whole) e) ∙ whole)

    one : (fact : Fact) → first_cast (casts_in (place, fact)) a s ≡ None
    one (Fact.Voted key version ballot options offered) = first-apart a place.centre s key version ballot options (λ tx. never tx key version ballot)
    one (Fact.Heard tx outcome) = refl
    one (Fact.Booted epoch) = refl
    one (Fact.Floor origin era upto) = refl
    one (Fact.Promised key low high ballot) = refl
    one (Fact.Adopted key version item adds) = refl

module _ (t : TxId) (key : Key) (version : ℕ) (ballot : Ballot) where
  abbrev the : Subject
  the = in_vote t key version ballot

  -- what a mark gives the transaction
  abbrev gives : Option Mark → Option Given
  gives mark = option_map (given_of t key version) mark

  abbrev Counts : ℕ → Key → ℕ → Ballot → Options → Options → Type 0
  Counts a k v b options voted = first_cast (map (cast_in a k v b) options) a the ≡ gives (value_of voted t)

  first-same : (a : ℕ) (options : Options) → Counts a key version ballot options options
  first-same a [] = refl
  first-same a (e ∷ es) =
      elim (cases_Bool (tx_eq e.0 t)) [
        | inl same ↦
            let is : e.0 ≡ t = (Decides-tx e.0 t).0 same in
            let at : is_cast_of a the (cast_in a key version ballot e) ≡ true =
            and_from (a == a) (subject_eq the (in_vote e.0 key version ballot)) (eq-eqb a a refl)
            ((Decides-subject the (in_vote e.0 key version ballot)).1 (ap (λ (z : TxId). in_vote z key version ballot) (sym is))) in
            rw (at, same) (ap (λ (z : TxId). Some (given_of z key version e.1)) is)
        | inr other ↦
            let off : subject_eq the (in_vote e.0 key version ballot) ≡ false =
            other-subject the (in_vote e.0 key version ballot) (λ z. false≢true (sym other ∙ (Decides-tx e.0 t).1 (sym (ap (λ (y : Subject). y.tx) z)))) in
            let away : is_cast_of a the (cast_in a key version ballot e) ≡ false = and-off (a == a) (subject_eq the (in_vote e.0 key version ballot)) off in
            rw (away, other) (first-same a es)
      ]
    where
      and-off : (p q : Bool) → q ≡ false → (p && q) ≡ false
      and-off true q e = e
      and-off false q e = refl

  -- a vote in the instance at the ballot has its own marks
  abbrev is_there : Key → ℕ → Ballot → Bool
  is_there k v b = (v == version) && ballot_eq b ballot && key_eq k key

  there-parts : (k : Key) (v : ℕ) (b : Ballot) → is_there k v b ≡ true → (k ≡ key) × (v ≡ version) × (b ≡ ballot)
  there-parts k v b e =
      let one : (((v == version) && ballot_eq b ballot) ≡ true) × (key_eq k key ≡ true) = and_parts ((v == version) && ballot_eq b ballot) (key_eq k key) e in
      let two : ((v == version) ≡ true) × (ballot_eq b ballot ≡ true) = and_parts (v == version) (ballot_eq b ballot) one.0 in
      ((Decides-key k key).0 one.1, eqb-true v version two.0, (Decides-ballot b ballot).0 two.1)

  there-from : (k : Key) (v : ℕ) (b : Ballot) → (k ≡ key) → (v ≡ version) → (b ≡ ballot) → is_there k v b ≡ true
  there-from k v b same_key same_version same_ballot =
      and_from ((v == version) && ballot_eq b ballot) (key_eq k key)
      (and_from (v == version) (ballot_eq b ballot) (eq-eqb v version same_version) ((Decides-ballot b ballot).1 same_ballot)) ((Decides-key k key).1 same_key)

  by_test : (a : ℕ) (k : Key) (v : ℕ) (b : Ballot) (options : Options) (test : Bool) → is_there k v b ≡ test → Counts a k v b options (cond test options [])
  by_test a k v b options true here =
      let parts = there-parts k v b here in
      subst (λ (z : Key). Counts a z v b options options) (sym parts.0)
      (subst (λ (z : ℕ). Counts a key z b options options) (sym parts.1)
      (subst (λ (z : Ballot). Counts a key version z options options) (sym parts.2) (first-same a options)))
  by_test a k v b options false away =
      first-apart a a the k v b options
      (λ tx e. false≢true (sym away ∙ there-from k v b (sym (ap (λ (z : Subject). z.key) e)) (sym (ap (λ (z : Subject). z.version) e)) (sym (ap (λ (z : Subject). z.ballot) e))))

  fact-here : (a number : ℕ) (fact : Fact) → first_cast (casts_in (record { centre = a; number = number }, fact)) a the ≡ gives (value_of (marks_voted key version ballot fact) t)
  fact-here a number (Fact.Voted k v b options offered) = by_test a k v b options (is_there k v b) refl
  fact-here a number (Fact.Heard tx outcome) = refl
  fact-here a number (Fact.Booted epoch) = refl
  fact-here a number (Fact.Floor origin era upto) = refl
  fact-here a number (Fact.Promised k low high b) = refl
  fact-here a number (Fact.Adopted k v item adds) = refl

  -- ---- a log

  abbrev first_in : List Fact → Option Given
  first_in [] = None
  first_in (fact ∷ facts) = option_or (gives (value_of (marks_voted key version ballot fact) t)) (first_in facts)

  or-assoc : (o p q : Option Given) → option_or o (option_or p q) ≡ option_or (option_or o p) q
  or-assoc None p q = refl
  or-assoc (Some x) p q = refl

  first-in-append : (xs ys : List Fact) → first_in (xs ++ ys) ≡ option_or (first_in xs) (first_in ys)
  first-in-append [] ys = refl
  first-in-append (x ∷ xs) ys =
      ap (option_or (gives (value_of (marks_voted key version ballot x) t))) (first-in-append xs ys)
      ∙ or-assoc (gives (value_of (marks_voted key version ballot x) t)) (first_in xs) (first_in ys)

  -- of a log with the oldest fact first it is what its votes give
  first-votes : (facts : List Fact) → first_in (reverse facts) ≡ gives (value_of (votes_of facts key version ballot) t)
  first-votes [] = refl
  first-votes (fact ∷ facts) =
      ap first_in (reverse-append (fact ∷ []) facts) ∙ first-in-append (reverse facts) (fact ∷ [])
      ∙ ap (option_or (first_in (reverse facts))) (or-none (gives (value_of (marks_voted key version ballot fact) t)))
      ∙ ap (λ o. option_or o (gives (value_of (marks_voted key version ballot fact) t))) (first-votes facts)
      ∙ sym (map-or (given_of t key version) (value_of (votes_of facts key version ballot) t) (value_of (marks_voted key version ballot fact) t))
      ∙ sym (ap gives (value_of-union (votes_of facts key version ballot) (marks_voted key version ballot fact) t))

  log-here : (a number : ℕ) (facts : List Fact) → first_cast (flat_map casts_in (placed_log a number facts)) a the ≡ first_in facts
  log-here a number [] = refl
  log-here a number (fact ∷ facts) =
      first-append (casts_in (record { centre = a; number = number }, fact)) (flat_map casts_in (placed_log a (number + 1) facts)) a the
      ∙ ap (λ o. option_or o (first_cast (flat_map casts_in (placed_log a (number + 1) facts)) a the)) (fact-here a number fact)
      ∙ ap (option_or (gives (value_of (marks_voted key version ballot fact) t))) (log-here a (number + 1) facts)

  log-elsewhere : (a b number : ℕ) (facts : List Fact) → (b ≡ a → ⊥) → first_cast (flat_map casts_in (placed_log b number facts)) a the ≡ None
  log-elsewhere a b number [] apart = refl
  log-elsewhere a b number (fact ∷ facts) apart =
      first-append (casts_in (record { centre = b; number = number }, fact)) (flat_map casts_in (placed_log b (number + 1) facts)) a the
      ∙ ap (λ o. option_or o (first_cast (flat_map casts_in (placed_log b (number + 1) facts)) a the)) (fact-elsewhere a the (record { centre = b; number = number }) fact apart)
      ∙ log-elsewhere a b (number + 1) facts apart

  -- ---- all logs

  split-first : (a c : ℕ) (log : List Fact) (logs : List (List Fact))
      → first_cast (flat_map casts_in (placed_from c (log ∷ logs))) a the
      ≡ option_or (first_cast (flat_map casts_in (placed_log c 1 log)) a the) (first_cast (flat_map casts_in (placed_from (c + 1) logs)) a the)
  split-first a c log logs =
      ap (λ cs. first_cast cs a the) (flat-append casts_in (placed_log c 1 log) (placed_from (c + 1) logs))
      ∙ first-append (flat_map casts_in (placed_log c 1 log)) (flat_map casts_in (placed_from (c + 1) logs)) a the

  logs-above : (a c : ℕ) (logs : List (List Fact)) → a < c → first_cast (flat_map casts_in (placed_from c logs)) a the ≡ None
  logs-above a c [] above = refl
  logs-above a c (log ∷ logs) above =
      split-first a c log logs
      ∙ ap (λ o. option_or o (first_cast (flat_map casts_in (placed_from (c + 1) logs)) a the)) (log-elsewhere a c 1 log (λ e. omega arith))
      ∙ logs-above a (c + 1) logs (omega arith)

  logs-first : (log_of : ℕ → List Fact) (a c n : ℕ) → c ≤ a → a < c + n
      → first_cast (flat_map casts_in (placed_from c (map log_of (range_with_len c n)))) a the ≡ first_in (log_of a)
  logs-first log_of a c zero low high = elim (none low high) [ ]
    where
      none : c ≤ a → a < c + 0 → ⊥
      none low high = omega arith
  logs-first log_of a c (suc n) low high =
      split-first a c (log_of c) (map log_of (range_with_len (c + 1) n)) ∙ by_centre (λ apart. logs-first log_of a (c + 1) n (omega arith) (omega arith)) (cases_eq c a)
    where
      by_centre : ((c ≡ a → ⊥) → first_cast (flat_map casts_in (placed_from (c + 1) (map log_of (range_with_len (c + 1) n)))) a the ≡ first_in (log_of a)) → (c ≡ a) ⊎ (c ≡ a → ⊥)
          → option_or (first_cast (flat_map casts_in (placed_log c 1 (log_of c))) a the) (first_cast (flat_map casts_in (placed_from (c + 1) (map log_of (range_with_len (c + 1) n)))) a the)
          ≡ first_in (log_of a)
      by_centre next (inl here) =
          ap (option_or (first_cast (flat_map casts_in (placed_log c 1 (log_of c))) a the))
          (logs-above a (c + 1) (map log_of (range_with_len (c + 1) n)) (omega arith))
          ∙ or-none (first_cast (flat_map casts_in (placed_log c 1 (log_of c))) a the)
          ∙ subst (λ (z : ℕ). first_cast (flat_map casts_in (placed_log z 1 (log_of z))) a the ≡ first_in (log_of a)) (sym here) (log-here a 1 (log_of a))
      by_centre next (inr apart) =
          ap (λ o. option_or o (first_cast (flat_map casts_in (placed_from (c + 1) (map log_of (range_with_len (c + 1) n)))) a the)) (log-elsewhere a c 1 (log_of c) apart)
          ∙ next apart

  -- what each centre gives first is what its votes give
  pub first-given : (cluster : Cluster) (ledger : List Entry) (a : ℕ) → 1 ≤ a → a < 1 + cluster.quorums.centres
      → first_cast (flat_map casts_in (placed_of (logs_of cluster ledger))) a (in_vote t key version ballot)
      ≡ option_map (given_of t key version) (mark_given ledger key version ballot t a)
  first-given cluster ledger a low high =
      logs-first (λ b. reverse (facts_of ledger b)) a 1 cluster.quorums.centres low high ∙ first-votes (facts_of ledger a)
