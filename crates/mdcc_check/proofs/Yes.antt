-- No line of a right history fails.
use Rattle.std.proofs.Common.{Bool, Contains, List, None, Option, Some, [], ap, arith, cond, false, inl, inr, refl, subst, sym, true, ℕ, ℤ, ◌&&◌, ◌++◌, ◌+◌, ◌-◌, ◌<◌, ◌==◌, ◌∙◌, ◌∷◌, ◌≡◌, ◌^◌}
use Rattle.std.proofs.lemmas.Bool.{and_parts, or_left, or_right}
use Rattle.std.proofs.lemmas.Bool.Decides.{Decides-eqb}
use Rattle.std.proofs.lemmas.List.Elements.{Contains-append_cases, Contains-append_left, Contains-append_right, Contains-push_cases}
use Rattle.std.specs.List.{list_all, list_any}
use Rattle.std.specs.Prelude.{find, is_some, length, not, unwrap_or}
use Rattle.mdcc_base.specs.Counts.{number_of}
use Rattle.mdcc_base.specs.TxId.{tx_eq}
use Rattle.mdcc_base.specs.declared.identifiers.TxId.{TxId}
use Rattle.mdcc_option.proofs.Equal.{Decides-item, Decides-tx}
use Rattle.mdcc_option.specs.Held.{Held}
use Rattle.mdcc_option.specs.OneCopy.{OneCopyStore, applied_answer, may_apply, seen_of, shown, store_run, stored}
use Rattle.mdcc_option.specs.Transaction.{choices_of}
use Rattle.mdcc_option.specs.declared.choices.Choice.{Choice}
use Rattle.mdcc_option.specs.declared.items.Delta.{Delta}
use Rattle.mdcc_option.specs.declared.items.Item.{Item}
use Rattle.mdcc_option.specs.declared.items.Known.{Known}
use Rattle.mdcc_check.proofs.Apart.{choices-apart, choices-own}
use Rattle.mdcc_check.proofs.Fits.{all-applied, made, went-on}
use Rattle.mdcc_check.proofs.Once.{HasBase, HasDelta, KnowsOnce, once-applied, once-none}
use Rattle.mdcc_check.proofs.Right.{are_others, ascending-alike, first-listed}
use Rattle.mdcc_check.specs.Histories.{AreLines, AreRightReads, IsRightHistory, are_distinct, commits_of, txs_committed}
use Rattle.mdcc_def_right_reads.specs.RightReads.{IsAdded, IsItemVersion, IsReadOf, IsWritten, are_txs_ascending}
use Rattle.mdcc_check.specs.Verdicts.{Progress, after_line, apply_cause, deltas_of, deltas_seen, first_fault, first_progress, history_verdict_by, is_commit, onto_deltas, onto_fault, seen_cause, value_cause, verdict_of, version_cause}
use Rattle.mdcc_check.specs.Versions.{held_in}
use Rattle.mdcc_check.specs.declared.history.HistoryCause.{HistoryCause}
use Rattle.mdcc_check.specs.declared.history.HistoryLine.{HistoryLine}
use Rattle.mdcc_check.specs.declared.history.Verdict.{Verdict}

-- ---- reads

-- deltas of which each is found by its transaction
all-found : (all ds : List Delta) → ((d : Delta) → Contains ds d → find (λ (e : Delta). tx_eq e.tx d.tx) all ≡ Some d) → deltas_of all (seen_of ds) ≡ Some ds
all-found all [] h = refl
all-found all (d ∷ ds) h =
    ap (λ o. onto_deltas o (deltas_of all (seen_of ds))) (h d (first-listed d ds))
    ∙ ap (onto_deltas (Some d)) (all-found all ds (λ e i. h e (Contains-append_right (d ∷ []) ds e i)))

-- a version with this base and these deltas shows this
version-right : (at : Option Held) (held : Held) (txs : List TxId) (item : Item) → HasBase at held.base → ((d : Delta) → Contains held.deltas d → HasDelta at d)
    → are_txs_ascending txs ≡ true → txs ≡ seen_of held.deltas → item ≡ (shown held).0 → version_cause at txs (Some item) ≡ None
version-right None held txs item base deltas up are is = absurd base
version-right (Some h) held txs item base deltas up are is = ap (λ o. seen_cause h o (Some item)) found ∙ value
  where
    found : deltas_seen h.deltas txs ≡ Some held.deltas
    found = ap (λ b. cond b (deltas_of h.deltas txs) None) (ascending-alike txs ∙ up) ∙ ap (deltas_of h.deltas) are ∙ all-found h.deltas held.deltas deltas

    value : value_cause (record h { deltas = held.deltas }) (Some item) ≡ None
    value =
        ap (λ b. cond b None (Some HistoryCause.Value))
        ((Decides-item (shown (record h { deltas = held.deltas })).0 item).1 (ap (λ (b : Item). (shown (record { version = h.version; base = b; deltas = held.deltas })).0) base ∙ sym is))

-- each choice of these transactions is one of those
abbrev Listed : List (List Choice) → List Choice → Type 0
Listed before choices = (txn : List Choice) → Contains before txn → (c : Choice) → Contains txn c → Contains choices c

module _ (before : List (List Choice)) (choices : List Choice) (store : OneCopyStore) (k : KnowsOnce choices store) (listed : Listed before choices) (known : Known) (l : known.token.version < 2 ^ 64) where
  has-base : (version : ℕ) (item : Item) → known.token.version ≡ version → IsWritten before known.key version item → HasBase (held_in choices known.key known.token.version) item
  has-base version item same w =
      (k known.key known.token.version l).writes w.choice (listed w.choices w.listed w.choice w.one_of) w.of_key (w.of_version ∙ sym same) item w.seen w.writes

  has-delta : (version : ℕ) (delta : Delta) → known.token.version ≡ version → IsAdded before known.key version delta → HasDelta (held_in choices known.key known.token.version) delta
  has-delta version delta same a =
      subst (λ t. HasDelta (held_in choices known.key known.token.version) (record { tx = t; amounts = delta.amounts })) a.of_tx
      ((k known.key known.token.version l).adds a.choice (listed a.choices a.listed a.choice a.one_of) a.of_key (a.of_version ∙ sym same) delta.amounts a.adds)

  item-right : (item : Item) (held : Held) → IsItemVersion before known item held → version_cause (held_in choices known.key known.token.version) known.token.seen (Some item) ≡ None
  item-right item held v =
      let same : known.token.version ≡ held.version = ap (λ p. p.1.version) v.shows in
      let are : known.token.seen ≡ seen_of held.deltas = ap (λ p. p.1.seen) v.shows in
      version-right (held_in choices known.key known.token.version) held known.token.seen item (has-base held.version held.base same v.written)
      (λ d i. has-delta held.version d same (v.added d i)) (ap are_txs_ascending are ∙ v.once) are (ap (λ p. p.0) v.shows)

  read-right : (item : Option Item) → IsReadOf before known item
      → cond (not (is_some item) && known.token.version == 0) None (version_cause (held_in choices known.key known.token.version) known.token.seen item) ≡ None
  read-right None e = ap (λ b. cond b None (version_cause (held_in choices known.key known.token.version) known.token.seen None)) ((Decides-eqb known.token.version 0).1 e)
  read-right (Some item) r = item-right item r.0 r.1

-- ---- lines

listed-more : (before : List (List Choice)) (choices txn : List Choice) → Listed before choices → Listed (before ++ txn ∷ []) (choices ++ txn)
listed-more before choices txn listed other i c j =
    elim (Contains-push_cases before txn other i) [
      | inl b ↦ Contains-append_left choices txn c (listed other b c j)
      | inr e ↦ Contains-append_right choices txn c (subst (λ x. Contains x c) (sym e) j)
    ]

-- the transaction of each choice is one of these
abbrev Among : List Choice → List TxId → Type 0
Among choices txs = (c : Choice) → Contains choices c → list_any (tx_eq c.tx) txs ≡ true

among-more : (choices txn : List Choice) (tx : TxId) (txs : List TxId) → ((c : Choice) → Contains txn c → c.tx ≡ tx) → Among choices txs → Among (choices ++ txn) (tx ∷ txs)
among-more choices txn tx txs own among c i =
    elim (Contains-append_cases choices txn c i) [
      | inl b ↦ or_right (tx_eq c.tx tx) (list_any (tx_eq c.tx) txs) (among c b)
      | inr n ↦ or_left (tx_eq c.tx tx) (list_any (tx_eq c.tx) txs) ((Decides-tx c.tx tx).1 (own c n))
    ]

-- none of the later ones is this one, and none is among the earlier ones
together : (tx : TxId) (txs others : List TxId) → not (list_any (λ other. tx_eq other tx) others) ≡ true → are_others txs others ≡ true → are_others (tx ∷ txs) others ≡ true
together tx txs [] n e = refl
together tx txs (o ∷ os) n e = let ih = together tx txs os in grind arith

others-none : (txs : List TxId) → are_others [] txs ≡ true
others-none [] = refl
others-none (tx ∷ txs) = others-none txs

not-true : (b : Bool) → not b ≡ true → b ≡ false
not-true true e = cc
not-true false e = refl

rightly : (schema : List (ℤ × ℤ)) (place : ℕ) (p : Progress) (before : List (List Choice)) (lines : List HistoryLine)
    → AreLines lines → KnowsOnce p.choices p.store → Listed before p.choices → Among p.choices p.txs
    → is_some (store_run schema p.store (commits_of lines)) ≡ true → are_distinct (txs_committed lines) ≡ true → are_others p.txs (txs_committed lines) ≡ true
    → AreRightReads before lines → first_fault schema place p lines ≡ None
rightly schema place p before [] are k listed among run distinct others reads = refl
rightly schema place p before (HistoryLine.Read known ∷ lines) are k listed among run distinct others reads =
    ap (λ cause. onto_fault place cause (first_fault schema (place + 1) p lines)) (read-right before p.choices p.store k listed known are.0 known.item reads.0)
    ∙ rightly schema (place + 1) p before lines are.1 k listed among run distinct others reads.1
rightly schema place p before (HistoryLine.Commit tx txn ∷ lines) are k listed among run distinct others reads =
    let choices = choices_of tx txn in
    let after = after_line schema p (HistoryLine.Commit tx txn) in
    let next = stored schema p.store p.store choices in
    let goes = λ (s : OneCopyStore). store_run schema s (commits_of lines) in
    let may : list_all (may_apply schema p.store) choices ≡ true = made _ next goes run in
    let other = and_parts (not (list_any (tx_eq tx) p.txs)) (are_others p.txs (txs_committed lines)) others in
    let once = and_parts (not (list_any (λ other. tx_eq other tx) (txs_committed lines))) (are_distinct (txs_committed lines)) distinct in
    let new : list_any (tx_eq tx) p.txs ≡ false = not-true _ other.0 in
    let fresh : (c : Choice) → Contains choices c → (d : Choice) → Contains p.choices d → d.key ≡ c.key → d.tx ≡ c.tx → ⊥ =
    λ c i d j of_key of_tx. unlike (list_any (tx_eq tx) p.txs) (subst (λ t. list_any (tx_eq t) p.txs ≡ true) (of_tx ∙ choices-own tx txn c i) (among d j)) new in
    let knows : KnowsOnce (p.choices ++ choices) next = once-applied schema p.store p.choices choices k (choices-apart tx txn are.0.ascending) may fresh in
    ap (λ b. onto_fault place (cond b (Some HistoryCause.Repeated) (apply_cause (applied_answer schema p.store choices))) (first_fault schema (place + 1) after lines)) new
    ∙ ap (λ cause. onto_fault place cause (first_fault schema (place + 1) after lines)) (all-applied schema p.store choices may)
    ∙ rightly schema (place + 1) after (before ++ choices ∷ []) lines are.1
    (subst (λ b. KnowsOnce (p.choices ++ choices) (unwrap_or (cond b (Some next) None) p.store)) (sym may) knows)
    (listed-more before p.choices choices listed) (among-more p.choices choices tx p.txs (choices-own tx txn) among)
    (went-on _ next p.store goes run) once.1 (together tx p.txs (txs_committed lines) once.0 other.1) reads
  where
    unlike : (b : Bool) → b ≡ true → b ≡ false → ⊥
    unlike true e f = cc
    unlike false e f = cc

-- the verdict on a right history is yes
pub right-yes : (schema : List (ℤ × ℤ)) (lines : List HistoryLine) → AreLines lines → IsRightHistory schema lines
    → verdict_of schema lines ≡ Verdict.Yes (number_of is_commit lines) (length lines - number_of is_commit lines)
right-yes schema lines are r =
    ap (history_verdict_by lines)
    (rightly schema 0 first_progress [] lines are once-none (λ txn i. absurd (omega (arith, i.1))) (λ c i. absurd (omega (arith, i.1)))
    r.run r.distinct (others-none (txs_committed lines)) r.reads)
