-- The logs that are read from the disks of a world are those of its ledger.
use Rattle.std.proofs.Common.{◌≡◌, ◌≤◌, ℕ, zero, suc, ◌+◌, arith, List, None, Option, Some, [], ◌∷◌, ◌++◌, true, refl, sym, ap, ◌∙◌, map, subst}
use Rattle.std.specs.List.{AllByRecursion, range_with_len}
use Rattle.std.specs.Prelude.{reverse}
use Rattle.std.proofs.lemmas.Bool.{and_from, le-leb}
use Rattle.std.proofs.lemmas.List.{reverse-append}
use Rattle.mdcc_def_messages.specs.Spelling.{encodings_of, fact_bytes}
use Rattle.mdcc_def_messages.specs.WellFormed.{IsWellFormedFact}
use Rattle.mdcc_def_messages.specs.declared.facts.Fact.{Fact}
use Rattle.mdcc_def_protocol.specs.Belongs.{is_centre}
use Rattle.mdcc_def_ledger.specs.Ledger.{facts_of}
use Rattle.mdcc_theorem_agreement.specs.Laws.{IsLedger}
use Rattle.mdcc_def_simulation.specs.State.{World}
use Rattle.mdcc_disks.specs.Memory.{AllMemory}
use Rattle.mdcc_theorem_encoding.proofs.Whole.{fact_again}
use Rattle.mdcc_theorem_worlds.specs.WorldInvariant.{IsWorld}
use Rattle.mdcc_node_boot.specs.Loading.{fact_in, fact_read}
use Rattle.mdcc_theorem_audit_traces.specs.Disks.{AreAudited, HaveLogs, facts_read, log_in_memory, log_read, logs_in_memory, with_one}
use Rattle.mdcc_theorem_audit.proofs.Whole.{audited}
use Rattle.mdcc_theorem_audit.specs.Ledgers.{logs_of}

-- ---- a log

-- the facts of payloads, and then of one more
read-last : (payloads : List (List ℕ)) (facts : List Fact) (payload : List ℕ) (fact : Fact) → facts_read payloads ≡ Some facts → fact_read payload ≡ Some fact
    → facts_read (payloads ++ payload ∷ []) ≡ Some (facts ++ fact ∷ [])
read-last [] facts payload fact all one =
    let none : [] ≡ facts = some-is [] facts all in
    subst (λ (z : List Fact). with_one (fact_read payload) (Some []) ≡ Some (z ++ fact ∷ [])) none (ap (λ o. with_one o (Some [])) one)
  where
    some-is : (xs ys : List Fact) → Some xs ≡ Some ys → xs ≡ ys
    some-is xs ys e = cc
read-last (p ∷ ps) facts payload fact all one = by_first (λ xs f. read-last ps xs payload fact f one) (fact_read p) (facts_read ps) refl refl
  where
    some-is : (xs ys : List Fact) → Some xs ≡ Some ys → xs ≡ ys
    some-is xs ys e = cc

    by_first : ((xs : List Fact) → facts_read ps ≡ Some xs → facts_read (ps ++ payload ∷ []) ≡ Some (xs ++ fact ∷ []))
        → (o : Option Fact) (rest : Option (List Fact)) → fact_read p ≡ o → facts_read ps ≡ rest
        → with_one (fact_read p) (facts_read (ps ++ payload ∷ [])) ≡ Some (facts ++ fact ∷ [])
    by_first next None rest e f =
        let bad : None ≡ Some facts = sym (ap (λ (o : Option Fact). with_one o (facts_read ps)) e) ∙ all in
        cc
    by_first next (Some x) None e f =
        let bad : None ≡ Some facts = sym (ap (λ (o : Option Fact). with_one o (facts_read ps)) e ∙ ap (with_one (Some x)) f) ∙ all in
        cc
    by_first next (Some x) (Some xs) e f =
        let whole : Some (x ∷ xs) ≡ Some facts = sym (ap (λ (o : Option Fact). with_one o (facts_read ps)) e ∙ ap (with_one (Some x)) f) ∙ all in
        ap (λ (o : Option Fact). with_one o (facts_read (ps ++ payload ∷ []))) e
        ∙ ap (with_one (Some x)) (next xs f)
        ∙ ap (λ (zs : List Fact). Some (zs ++ fact ∷ [])) (some-is (x ∷ xs) facts whole)

-- what is written of well-formed facts is read back, the oldest first
facts-back : (facts : List Fact) → AllByRecursion IsWellFormedFact facts → facts_read (encodings_of facts) ≡ Some (reverse facts)
facts-back [] formed = refl
facts-back (fact ∷ older) formed =
    read-last (encodings_of older) (reverse older) (fact_bytes fact) fact (facts-back older formed.1) (ap fact_in (fact_again fact formed.0))
    ∙ ap Some (sym (reverse-append (fact ∷ []) older))

-- ---- the logs of a world

module _ (w : World) (disks : AllMemory) (is : IsWorld w) (show : HaveLogs disks w) where
  log-is : (a : ℕ) → is_centre w.cluster a ≡ true → log_in_memory disks a ≡ Some (reverse (facts_of w.ledger a))
  log-is a centre = ap log_read (show a centre) ∙ facts-back (facts_of w.ledger a) (is.nodes a centre).facts_themselves.well_formed

  logs-are : (c n : ℕ) → 1 ≤ c → c + n ≤ w.cluster.quorums.centres + 1
      → logs_in_memory disks (range_with_len c n) ≡ Some (map (λ a. reverse (facts_of w.ledger a)) (range_with_len c n))
  logs-are c zero low high = refl
  logs-are c (suc n) low high =
      let centre : is_centre w.cluster c ≡ true = and_from _ _ (le-leb 1 c low) (le-leb c w.cluster.quorums.centres (omega arith)) in
      ap (λ (o : Option (List Fact)). with_one o (logs_in_memory disks (range_with_len (c + 1) n))) (log-is c centre)
      ∙ ap (with_one (Some (reverse (facts_of w.ledger c)))) (logs-are (c + 1) n (omega arith) (omega arith))

  pub disks-audited : IsLedger w.cluster w.ledger → AreAudited w.cluster w.ledger disks
  disks-audited h = record {
    logs = logs_of w.cluster w.ledger;
    read = logs-are 1 w.cluster.quorums.centres (omega arith) (omega arith);
    answer = audited w.cluster w.ledger h;
  }
