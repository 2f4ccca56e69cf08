-- What reports force has no transaction twice, and what they have together is what one of them has.
use Rattle.std.proofs.Common.{◌≡◌, ◌+◌, ◌-◌, cond, List, [], ◌∷◌, length, refl, sym, ap, ◌∙◌, inl, inr, Option, Some, None}
use Rattle.std.proofs.lemmas.Bool.{cases_Bool}
use Rattle.std.specs.List.{filter, filter_map, fold}
use Rattle.std.specs.Prelude.{is_some}
use Rattle.mdcc_base.specs.Ballot.{ballot_eq}
use Rattle.mdcc_base.specs.Sizes.{Sizes}
use Rattle.mdcc_base.specs.declared.identifiers.TxId.{TxId}
use Rattle.mdcc_option.specs.declared.choices.Mark.{Mark}
use Rattle.mdcc_struct.specs.Forced.{marks_reported, ballot_reported, mark_with, forced_of}
use Rattle.mdcc_struct.specs.Maps.{value_of, union}
use Rattle.mdcc_struct.proofs.Reports.{cases_Option, first_mark, picked_value}
use Rattle.mdcc_struct.proofs.Walks.{picked_entry}
use Rattle.mdcc_struct.specs.declared.options.Options.{Options}
use Rattle.mdcc_struct.specs.declared.report.Report.{Report}
use Rattle.mdcc_theorem_agreement.proofs.Ballots.{fast}
use Rattle.mdcc_theorem_agreement.proofs.MapValues.{Once, Once-union}
use Rattle.mdcc_theorem_agreement.proofs.ReducedOptions.{In}

once_from : (acc : Options) (rs : List Report) → Once acc → Once (fold (λ marks report. union marks report.votes) acc rs)
once_from acc [] h = h
once_from acc (r ∷ rs) h = once_from (union acc r.votes) rs (Once-union acc r.votes h)

pub Once-reported : (rs : List Report) → Once (marks_reported rs)
Once-reported rs = once_from [] rs tt

-- a report of the list has it
pub first_mark-shows : (rs : List Report) (t : TxId) (x : Mark) → first_mark rs t ≡ Some x → (r : Report) × In r rs × (value_of r.votes t ≡ Some x)
first_mark-shows [] t x h = absurd (cc)
first_mark-shows (r ∷ rs) t x h =
    elim (cases_Option (value_of r.votes t)) [
      | inl e ↦ (
          let more : first_mark rs t ≡ Some x = rw e at h in
          let k : (s : Report) × In s rs × (value_of s.votes t ≡ Some x) = first_mark-shows rs t x more in
          (k.0, inr k.1, k.2))
      | inr some ↦ (let is : Some some.0 ≡ Some x = rw some.1 at h in (r, inl refl, some.1 ∙ is))
    ]

pub first_mark-there : (rs : List Report) (t : TxId) (r : Report) (x : Mark) → In r rs → value_of r.votes t ≡ Some x → (y : Mark) × (first_mark rs t ≡ Some y)
first_mark-there [] t r x h e = absurd h
first_mark-there (s ∷ rs) t r x h e =
    elim (cases_Option (value_of s.votes t)) [
      | inr some ↦ (some.0, rw some.1 refl)
      | inl is ↦ elim h [
        | inl here ↦ absurd (let bad : None ≡ Some x = sym is ∙ ap (λ z. value_of z.votes t) here ∙ e in cc)
        | inr there ↦ let k : (y : Mark) × (first_mark rs t ≡ Some y) = first_mark-there rs t r x there e in (k.0, rw is k.1)
      ]
    ]

-- what is picked of a map
Once-picked : (f : TxId → Option Mark) (m : Options) → Once m → Once (filter_map (picked_entry f) m)
Once-picked f [] h = tt
Once-picked f (e ∷ es) h =
    elim (cases_Option (f e.0)) [
      | inl is ↦ rw is (Once-picked f es h.1)
      | inr some ↦ rw some.1 (picked_value f es e.0 ∙ ap (λ o. cond (is_some o) (f e.0) None) h.0, Once-picked f es h.1)
    ]

pub Once-forced : (quorums : Sizes) (rs : List Report) → Once (forced_of quorums rs)
Once-forced quorums rs =
    elim (cases_Bool (ballot_eq (ballot_reported rs) fast)) [
      | inl e ↦ rw e (Once-picked (mark_with rs (quorums.fast + length rs - quorums.centres)) (marks_reported rs) (Once-reported rs))
      | inr e ↦ rw e (Once-reported (filter (λ report. ballot_eq report.ballot (ballot_reported rs)) rs))
    ]
