-- Transactions in their order.
use Rattle.std.proofs.Common.{◌≡◌, ◌<◌, ◌*◌, ◌+◌, ◌∷◌, ◌∙◌, ℕ, Bool, true, List, [], Option, Some, None, sym, ap, arith, inl, inr}
use Rattle.std.specs.Option.{option_map}
use Rattle.std.specs.Prelude.{find, suc, ◌-◌, ◌^◌}
use Rattle.std.proofs.lemmas.Bool.{cases_Bool}
use Rattle.std.proofs.lemmas.Bool.Decides.{nat_tests}
use Rattle.mdcc_base.specs.TxId.{tx_lt}
use Rattle.mdcc_base.specs.declared.identifiers.Ballot.{Ballot}
use Rattle.mdcc_base.specs.declared.identifiers.TxId.{TxId}
use Rattle.mdcc_option.specs.declared.choices.Mark.{Mark}
use Rattle.mdcc_struct.specs.declared.options.Options.{Options}
use Rattle.mdcc_def_protocol.specs.Stores.{is_above}
use Rattle.mdcc_facts.proofs.Walking.{beside-some}
use Rattle.mdcc_facts_kept.specs.Next.{IsRanked, places_from, rank_of}

ranks : (c d e f s t : ℕ) → e < 2 ^ 32 → s < 2 ^ 32 → tx_lt (record { centre = c; epoch = e; seq = s }) (record { centre = d; epoch = f; seq = t }) ≡ true
    → c * 2 ^ 64 + (e * 2 ^ 32 + s) < d * 2 ^ 64 + (f * 2 ^ 32 + t)
ranks c d e f s t he hs h = grind (arith, nat_tests, he, hs, h)

pub rank-less : (a b : TxId) → IsRanked a → tx_lt a b ≡ true → rank_of a < rank_of b
rank-less a b is less = ranks a.centre b.centre a.epoch b.epoch a.seq b.seq is.epoch is.seq less

pub rank-small : (a : TxId) → IsRanked a → rank_of a < 2 ^ 72
rank-small a is = small a.centre a.epoch a.seq is.centre is.epoch is.seq
  where
    small : (c e s : ℕ) → c < 256 → e < 2 ^ 32 → s < 2 ^ 32 → c * 2 ^ 64 + (e * 2 ^ 32 + s) < 2 ^ 72
    small c e s hc he hs = omega (arith, hc, he, hs)

-- what is found passes the test
pub found-passes : {X : Type 0} (test : X → Bool) (xs : List X) (x : X) → find test xs ≡ Some x → test x ≡ true
found-passes test [] x is = absurd (cc)
found-passes test (y ∷ ys) x is = elim (cases_Bool (test y)) [
  | inl passes ↦
      let one : Some y ≡ Some x = rw passes at is in
      let same : y ≡ x = cc in
      ap test (sym same) ∙ passes
  | inr fails ↦ found-passes test ys x (rw fails at is)
]

fewer : (a b : ℕ) → a < b → a < 2 ^ 72 → suc (2 ^ 72 - b) < suc (2 ^ 72 - a)
fewer a b less small = omega (arith, less, small)

-- above a mark there are fewer
pub places-fall : (m : Options) (ballot : Ballot) (mark : Ballot × TxId × Mark) (next : Option (Ballot × TxId × Mark)) → IsRanked mark.1
    → next ≡ option_map (λ e. (ballot, e.0, e.1)) (find (λ e. is_above (Some mark.1) e.0) m)
    → places_from next < places_from (Some mark)
places-fall m ballot mark None ranked is = omega arith
places-fall m ballot mark (Some found) ranked is =
    let at : find (λ (e : TxId × Mark). is_above (Some mark.1) e.0) m ≡ Some (found.1, found.2) = beside-some ballot (find (λ e. is_above (Some mark.1) e.0) m) found (sym is) in
    fewer (rank_of mark.1) (rank_of found.1) (rank-less mark.1 found.1 ranked (found-passes (λ (e : TxId × Mark). is_above (Some mark.1) e.0) m (found.1, found.2) at)) (rank-small mark.1 ranked)
