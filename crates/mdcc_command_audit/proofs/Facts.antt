-- What an audit has taken, payload by payload and log by log.
use Rattle.std.proofs.Common.{◌≡◌, ◌∙◌, ◌+◌, ◌∷◌, ◌<◌, ◌≤◌, [], IsTrue, List, Option, Some, None, Result, Ok, ap, arith, drop, fold, is_some, length, map, refl, suc, sym, zero, ℕ}
use Rattle.std.proofs.lemmas.List.Sums.{fold-append}
use Rattle.std.specs.List.{range_with_len}
use Rattle.std.specs.Prelude.{filter_map, slice_get}
use Rattle.mdcc_node_boot.specs.Loading.{fact_in, fact_read}
use Rattle.mdcc_audit.specs.Auditing.{State, after_fact, fact_taken, nothing_taken}
use Rattle.mdcc_audit.specs.Logs.{placed_from, placed_log}
use Rattle.mdcc_command_audit.specs.Audits.{facts_from, facts_in, log_on}
use Rattle.mdcc_base.specs.Sizes.{Sizes}
use Rattle.mdcc_node_log.specs.Opening.{AreFacts}
use Rattle.mdcc_disks.specs.Disks.{Disk}
use Rattle.mdcc_command_dump.proofs.Facts.{fact_at}
use Rattle.mdcc_log_file.specs.Area.{payloads}
use Rattle.mdcc_def_messages.specs.Reading.{fact_of}
use Rattle.mdcc_def_messages.specs.declared.facts.Fact.{Fact}
use Rattle.mdcc_def_messages.specs.declared.wire.WireFault.{WireFault}
use Rattle.mdcc_struct.proofs.Walks.{filter_map-keeps}

-- ---- one payload

pub fact_is : (payload : List ℕ) (fact : Fact) → fact_of payload ≡ Ok fact → facts_in (payload ∷ []) ≡ fact ∷ []
fact_is payload fact e = by (fact_read payload) (ap (λ (r : Result Fact WireFault). fact_in r) e)
  where
    by : (o : Option Fact) → o ≡ Some fact → filter_map fact_read (payload ∷ []) ≡ fact ∷ []
    by o is = search (e)

-- ---- the payloads of a log

taken_more : (quorums : Sizes) (state : State) (centre n : ℕ) (payload : List ℕ) (fact : Fact) → fact_read payload ≡ Some fact
    → fold (fact_taken quorums) state (placed_log centre n (facts_in (payload ∷ []))) ≡ after_fact quorums state (record { centre = centre; number = n }) fact
taken_more quorums state centre n payload fact e = rw e refl

-- those from an index on are left
pub payload_next : (quorums : Sizes) (before after : State) (centre i : ℕ) (all : List (List ℕ)) (payload : List ℕ) → AreFacts all → slice_get all i ≡ Some payload
    → after ≡ fold (fact_taken quorums) before (placed_log centre (i + 1) (facts_in (payload ∷ [])))
    → fold (fact_taken quorums) before (placed_log centre (i + 1) (facts_in (drop i all))) ≡ fold (fact_taken quorums) after (placed_log centre ((i + 1) + 1) (facts_in (drop (i + 1) all)))
payload_next quorums before after centre i all payload are at is = by (fact_read payload) refl (fact_at all i payload at are)
  where
    by : (o : Option Fact) → fact_read payload ≡ o → IsTrue (is_some o)
        → fold (fact_taken quorums) before (placed_log centre (i + 1) (facts_in (drop i all))) ≡ fold (fact_taken quorums) after (placed_log centre ((i + 1) + 1) (facts_in (drop (i + 1) all)))
    by None e some = absurd (cc)
    by (Some fact) e some =
        ap (λ (facts : List Fact). fold (fact_taken quorums) before (placed_log centre (i + 1) facts)) (filter_map-keeps fact_read all i payload fact at e)
        ∙ ap (λ (state : State). fold (fact_taken quorums) state (placed_log centre ((i + 1) + 1) (facts_in (drop (i + 1) all)))) (sym (is ∙ taken_more quorums before centre (i + 1) payload fact e))

past_all : {A : Type 0} (xs : List A) (i : ℕ) → length xs ≤ i → drop i xs ≡ []
past_all [] zero h = refl
past_all [] (suc n) h = refl
past_all (x ∷ xs) zero h = absurd (omega arith)
past_all (x ∷ xs) (suc n) h = past_all xs n (omega arith)

pub payloads_end : (quorums : Sizes) (state whole : State) (centre i : ℕ) (all : List (List ℕ)) → length all ≤ i
    → fold (fact_taken quorums) state (placed_log centre (i + 1) (facts_in (drop i all))) ≡ whole → state ≡ whole
payloads_end quorums state whole centre i all past is =
    sym (ap (λ (rest : List (List ℕ)). fold (fact_taken quorums) state (placed_log centre (i + 1) (facts_in rest))) (past_all all i past)) ∙ is

-- ---- the logs of centres

module _ {D : Type 0} (disk : D → ℕ → Disk) (quorums : Sizes) (disks : D) where
  -- what is made of this state by the logs of so many centres from this one on
  abbrev pub by_logs : State → ℕ → ℕ → State
  by_logs state n left = fold (fact_taken quorums) state (placed_from n (map (log_on disk disks) (range_with_len n left)))

  pub log_next : (before after : State) (n left : ℕ) → after ≡ fold (fact_taken quorums) before (placed_log n 1 (log_on disk disks n)) → by_logs before n (suc left) ≡ by_logs after (n + 1) left
  log_next before after n left is =
      let rest = placed_from (n + 1) (map (log_on disk disks) (range_with_len (n + 1) left)) in
      fold-append (fact_taken quorums) before (placed_log n 1 (log_on disk disks n)) rest
      ∙ ap (λ (state : State). fold (fact_taken quorums) state rest) (sym is)

  -- so many are left
  pub record Left (state : State) (n last : ℕ) : Type 0 where
    pub left : ℕ
    pub many : n + left ≡ last + 1
    pub whole : by_logs state n left ≡ by_logs nothing_taken 1 last

  pub all_left : (last : ℕ) (state : State) → state ≡ nothing_taken → Left state 1 last
  all_left last state is = record { left = last; many = omega arith; whole = ap (λ (s : State). by_logs s 1 last) is }

  pub one_taken : (before after : State) (n last : ℕ) → n ≤ last → after ≡ fold (fact_taken quorums) before (placed_log n 1 (log_on disk disks n)) → Left before n last → Left after (n + 1) last
  one_taken before after n last among is was = by was.left was.many was.whole
    where
      by : (left : ℕ) → n + left ≡ last + 1 → by_logs before n left ≡ by_logs nothing_taken 1 last → Left after (n + 1) last
      by zero many whole = absurd (omega (many, among, arith))
      by (suc left) many whole = record { left = left; many = omega (many, arith); whole = sym (log_next before after n left is) ∙ whole }

  pub all_taken : (state : State) (n last : ℕ) → last < n → Left state n last → state ≡ by_logs nothing_taken 1 last
  all_taken state n last past was = by was.left was.many was.whole
    where
      by : (left : ℕ) → n + left ≡ last + 1 → by_logs state n left ≡ by_logs nothing_taken 1 last → state ≡ by_logs nothing_taken 1 last
      by zero many whole = whole
      by (suc left) many whole = absurd (omega (many, past, arith))

-- the log that was read
pub log_is : {D : Type 0} (disk : D → ℕ → Disk) (disks : D) (a : ℕ) (all : List (List ℕ)) → payloads (disk disks a).bytes (disk disks (a + 16)).bytes ≡ Ok all → log_on disk disks a ≡ facts_in all
log_is disk disks a all is = ap facts_from is
