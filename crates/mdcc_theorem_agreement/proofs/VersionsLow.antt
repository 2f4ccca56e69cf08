-- Versions are at most the number of begun transactions, so that of a ledger with not too many each version can be followed.
use Rattle.std.proofs.Common.{◌≡◌, ℕ, suc, ◌≤◌, ◌-◌, ◌^◌, ◌==◌, List, [], ◌∷◌, ◌++◌, length, refl, sym, subst, arith, inl, inr}
use Rattle.std.proofs.lemmas.Bool.{cases_Bool}
use Rattle.mdcc_base.specs.Key.{key_eq}
use Rattle.mdcc_base.specs.declared.identifiers.TxId.{TxId}
use Rattle.mdcc_base.specs.declared.key.Key.{Key}
use Rattle.mdcc_option.specs.declared.choices.Choice.{Choice}
use Rattle.mdcc_option.specs.declared.choices.Outcome.TheVariants.{Commit, Abort}
use Rattle.mdcc_def_ledger.specs.Ledger as ledger
use Rattle.mdcc_def_messages.specs.declared.facts.Fact.{Fact}
use Rattle.mdcc_theorem_agreement.specs.Laws.{begins_in}
use Rattle.mdcc_theorem_agreement.proofs.BegunOnce.{begun_apart}
use Rattle.mdcc_theorem_agreement.proofs.Reduction.{reduced_fact, reduced}
use Rattle.mdcc_theorem_agreement.proofs.ChoicesGive.{Update-is, last_version}
use Rattle.mdcc_theorem_agreement.proofs.HeldReduced.{FineFact, AllFine}
use Rattle.mdcc_theorem_agreement.proofs.LedgersGrow.{IsTail-same}
use Rattle.mdcc_theorem_agreement.proofs.Setups.{Setup}
use Rattle.mdcc_theorem_agreement.proofs.ReducedFacts.{ReducedFact, Booted, Floor, Promised, Voted, Heard, Adopted, raised, current_by, current}
use Rattle.mdcc_theorem_agreement.proofs.ReducedLedger.{Entry, Happened, Begun, Valued, facts_of, WasBegun, IsTail, MayHappen, Meets, Allowed}
use Rattle.mdcc_theorem_agreement.proofs.ReducedOptions.{In}

raised_low : (key : Key) (n : ℕ) (cs : List Choice) → ((c : Choice) → In c cs → suc c.version ≤ n) → raised cs key ≤ n
raised_low key n [] h = omega arith
raised_low key n (c ∷ cs) h =
    elim (cases_Bool (key_eq c.key key)) [
      | inl e ↦ elim (Update-is c.update) [
        | inl w ↦ (let value : raised (c ∷ cs) key ≡ suc c.version = rw (e, w.2) refl in omega (arith, h c (inl refl)))
        | inr a ↦ (let value : raised (c ∷ cs) key ≡ 0 = rw (e, a.1) refl in omega arith)
      ]
      | inr e ↦ rw e (raised_low key n cs (λ d g. h d (inr g)))
    ]

abbrev pub CurrentLow : List Entry → ℕ → Type 0
CurrentLow es n = (old : List Entry) → IsTail old es → (a : ℕ) (key : Key) → current (facts_of a old) key ≤ n

abbrev pub ChoicesLow : List Entry → ℕ → Type 0
ChoicesLow es n = (t : TxId) (cs : List Choice) (c : Choice) → WasBegun es t cs → In c cs → suc c.version ≤ n

fact_low : (s : Setup) (es : List Entry) (n : ℕ) → CurrentLow es n → ChoicesLow es n → (a : ℕ) (f : ReducedFact) → MayHappen s es a f → (key : Key) → current_by f key ≤ n
fact_low s es n low begun a (Booted e) may key = omega arith
fact_low s es n low begun a (Floor origin era upto) may key = omega arith
fact_low s es n low begun a (Promised k l h m) may key = omega arith
fact_low s es n low begun a (Voted j k marks) may key = omega arith
fact_low s es n low begun a (Heard t Abort) may key = omega arith
fact_low s es n low begun a (Heard t (Commit cs)) may key = raised_low key n cs (λ c g. begun t cs c may.0 g)
fact_low s es n low begun a (Adopted k version item ds) may key =
    elim (cases_Bool (key_eq k key)) [
      | inl e ↦ (let value : current_by (Adopted k version item ds) key ≡ version = rw e refl in omega (arith, may.held, low may.old may.before may.giver k))
      | inr e ↦ (let value : current_by (Adopted k version item ds) key ≡ 0 = rw e refl in omega arith)
    ]

entry_low : (s : Setup) (e : Entry) (es : List Entry) (n : ℕ) → CurrentLow es n → ChoicesLow es n → Meets s es e → (a : ℕ) (key : Key) → current (facts_of a (e ∷ es)) key ≤ n
entry_low s (Begun b t cs) es n low begun meets a key = low es (IsTail-same es) a key
entry_low s (Valued b j l sent) es n low begun meets a key = low es (IsTail-same es) a key
entry_low s (Happened b f) es n low begun meets a key =
    elim (cases_Bool (b == a)) [
      | inl e ↦ rw e (omega (arith, fact_low s es n low begun b f meets key, low es (IsTail-same es) a key))
      | inr e ↦ rw e (low es (IsTail-same es) a key)
    ]

choices_more : (s : Setup) (e : Entry) (es : List Entry) (n : ℕ) → CurrentLow es n → ChoicesLow es n → Meets s es e → ChoicesLow (e ∷ es) (suc n)
choices_more s (Happened b f) es n low begun meets t cs c g h = omega (arith, begun t cs c g h)
choices_more s (Valued b j l sent) es n low begun meets t cs c g h = omega (arith, begun t cs c g h)
choices_more s (Begun b u ds) es n low begun meets t cs c g h =
    elim g [
      | inl here ↦ omega (arith, meets.held c (rw here.1 h), low es (IsTail-same es) b c.key)
      | inr there ↦ omega (arith, begun t cs c there h)
    ]

-- how many transactions were begun
abbrev pub begun : List Entry → ℕ
begun [] = 0
begun (Begun b t cs ∷ es) = suc (begun es)
begun (Valued b j l sent ∷ es) = begun es
begun (Happened b f ∷ es) = begun es

choices_after : (s : Setup) (e : Entry) (es : List Entry) → CurrentLow es (begun es) → ChoicesLow es (begun es) → Meets s es e → ChoicesLow (e ∷ es) (begun (e ∷ es))
choices_after s (Happened b f) es low choices meets = choices
choices_after s (Valued b j l sent) es low choices meets = choices
choices_after s (Begun b u ds) es low choices meets = choices_more s (Begun b u ds) es (begun es) low choices meets

begun_more : (e : Entry) (es : List Entry) → begun es ≤ begun (e ∷ es)
begun_more (Happened b f) es = omega arith
begun_more (Valued b j l sent) es = omega arith
begun_more (Begun b u ds) es = omega arith

pub low_all : (s : Setup) (es : List Entry) → Allowed s es → CurrentLow es (begun es) × ChoicesLow es (begun es)
low_all s [] allowed = ((λ old tail a key. subst (λ y. current (facts_of a y) key ≤ 0) (sym tail) (omega arith)), (λ t cs c g h. absurd g))
low_all s (e ∷ es) allowed =
    let before : CurrentLow es (begun es) × ChoicesLow es (begun es) = low_all s es allowed.0 in (
      (λ old tail a key. elim tail [
        | inl same ↦ subst (λ y. current (facts_of a y) key ≤ begun (e ∷ es)) (sym same) (omega (arith, begun_more e es, entry_low s e es (begun es) before.0 before.1 allowed.1 a key))
        | inr rest ↦ omega (arith, begun_more e es, before.0 old rest a key)
      ]),
      choices_after s e es before.0 before.1 allowed.1,
    )

-- a longer ledger has no fewer, and none has more than entries
pub begun-after : (later earlier : List ledger.Entry) → begins_in earlier ≤ begins_in (later ++ earlier)
begun-after [] earlier = omega arith
begun-after (e ∷ later) earlier = omega (arith, begun-after later earlier)

begun-within : (es : List ledger.Entry) → begins_in es ≤ length es
begun-within [] = omega arith
begun-within (ledger.Added b f ∷ es) = omega (arith, begun-within es)
begun-within (ledger.Valued b key version ballot options ∷ es) = omega (arith, begun-within es)
begun-within (ledger.Begun b tx choices ∷ es) = omega (arith, begun-within es)

pub few-begun : (es : List ledger.Entry) → length es ≤ 2 ^ 64 - 1 → begins_in es ≤ 2 ^ 64 - 1
few-begun es short = omega (arith, short, begun-within es)

pub begun-reduced : (es : List ledger.Entry) → begun (reduced es) ≡ begins_in es
begun-reduced [] = refl
begun-reduced (ledger.Added b f ∷ es) = omega (arith, begun-reduced es)
begun-reduced (ledger.Valued b key version ballot options ∷ es) = omega (arith, begun-reduced es)
begun-reduced (ledger.Begun b tx choices ∷ es) = omega (arith, begun-reduced es)

fine_fact : (s : Setup) (es : List Entry) → Allowed s es → begun es ≤ last_version → (a : ℕ) (f : Fact) → MayHappen s es a (reduced_fact f) → FineFact f
fine_fact s es allowed few a (Fact.Heard tx (Commit cs)) may = record {
  apart = λ c d g h same. begun_apart s es tx cs allowed may.0 c d g h same;
  low = λ c g. (let n : suc c.version ≤ begun es = (low_all s es allowed).1 tx cs c may.0 g in omega arith);
}
fine_fact s es allowed few a (Fact.Heard tx Abort) may = tt
fine_fact s es allowed few a (Fact.Booted epoch) may = tt
fine_fact s es allowed few a (Fact.Floor centre epoch seq) may = tt
fine_fact s es allowed few a (Fact.Promised k low high ballot) may = tt
fine_fact s es allowed few a (Fact.Voted k version ballot options offered) may = tt
fine_fact s es allowed few a (Fact.Adopted k version item adds) may = tt

pub all_fine : (s : Setup) (es : List ledger.Entry) → Allowed s (reduced es) → begins_in es ≤ last_version → (a : ℕ) → AllFine (ledger.facts_of es a)
all_fine s [] allowed few a = tt
all_fine s (ledger.Begun b tx choices ∷ es) allowed few a = all_fine s es allowed.0 (omega arith) a
all_fine s (ledger.Valued b key version ballot options ∷ es) allowed few a = all_fine s es allowed.0 (omega arith) a
all_fine s (ledger.Added b f ∷ es) allowed few a =
    elim (cases_Bool (b == a)) [
      | inl e ↦ rw e (fine_fact s (reduced es) allowed.0 (omega (arith, begun-reduced es)) b f allowed.1, all_fine s es allowed.0 (omega arith) a)
      | inr e ↦ rw e (all_fine s es allowed.0 (omega arith) a)
    ]
