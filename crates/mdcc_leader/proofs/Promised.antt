-- Promises that lie in two lists.
use Rattle.std.proofs.Math.Seq.{take-append_seam}
use Rattle.std.proofs.Common.{length-append, take, ◌-◌, ◌≡◌, ℕ, zero, suc, ◌+◌, ◌&&◌, ◌==◌, Bool, true, false, List, [], ◌∷◌, ◌++◌, length, map, nat_le, refl, sym, ap, ◌∙◌, subst, inl, inr, arith}
use Rattle.std.proofs.lemmas.Bool.{cases_Bool}
use Rattle.std.specs.List.{list_any}
use Rattle.mdcc_base.specs.Ballot.{ballot_eq}
use Rattle.mdcc_base.specs.Counts.{number_of}
use Rattle.mdcc_base.specs.declared.identifiers.Ballot.{Ballot}
use Rattle.mdcc_leader.specs.Promises.{counted_of}
use Rattle.mdcc_def_protocol.specs.Leader.{is_differing, reports_of}
use Rattle.mdcc_def_protocol.specs.Volatile.{CountedPromise}
use Rattle.mdcc_struct.specs.declared.options.Options.{Options}
use Rattle.mdcc_struct.specs.declared.report.Report.{Report}

pub reports-counted : (reports : List Report) (throughs : List ℕ) → length reports ≡ length throughs → reports_of (counted_of reports throughs) ≡ reports
reports-counted [] throughs h = refl
reports-counted (r ∷ rs) [] h = absurd (omega arith)
reports-counted (r ∷ rs) (t ∷ ts) h = ap (λ xs. r ∷ xs) (reports-counted rs ts (omega arith))

pub length-counted : (reports : List Report) (throughs : List ℕ) → length reports ≡ length throughs → length (counted_of reports throughs) ≡ length reports
length-counted [] throughs h = refl
length-counted (r ∷ rs) [] h = absurd (omega arith)
length-counted (r ∷ rs) (t ∷ ts) h = let ih = length-counted rs ts (omega arith) in omega (arith, ih)

pub through-counted : (reports : List Report) (throughs : List ℕ) (version : ℕ) → length reports ≡ length throughs
    → number_of (λ promise. nat_le version promise.through) (counted_of reports throughs) ≡ number_of (λ through. nat_le version through) throughs
through-counted [] [] version h = refl
through-counted [] (t ∷ ts) version h = absurd (omega arith)
through-counted (r ∷ rs) [] version h = absurd (omega arith)
through-counted (r ∷ rs) (t ∷ ts) version h = rw (through-counted rs ts version (omega arith)) refl

pub from-counted : (reports : List Report) (throughs : List ℕ) (from : ℕ) → length reports ≡ length throughs
    → list_any (λ other. other.from == from) (counted_of reports throughs) ≡ list_any (λ report. report.centre == from) reports
from-counted [] throughs from h = refl
from-counted (r ∷ rs) [] from h = absurd (omega arith)
from-counted (r ∷ rs) (t ∷ ts) from h = rw (from-counted rs ts from (omega arith)) refl

pub differing-counted : (reports : List Report) (throughs : List ℕ) (reported : Ballot) (votes : Options) → length reports ≡ length throughs
    → list_any (λ promise. ballot_eq promise.reported reported && is_differing votes promise.votes) (counted_of reports throughs)
    ≡ list_any (λ report. ballot_eq report.ballot reported && is_differing votes report.votes) reports
differing-counted [] throughs reported votes h = refl
differing-counted (r ∷ rs) [] reported votes h = absurd (omega arith)
differing-counted (r ∷ rs) (t ∷ ts) reported votes h = rw (differing-counted rs ts reported votes (omega arith)) refl

pub counted-more : (reports : List Report) (throughs : List ℕ) (report : Report) (through : ℕ) → length reports ≡ length throughs
    → counted_of (reports ++ report ∷ []) (throughs ++ through ∷ [])
    ≡ counted_of reports throughs ++ record { from = report.centre; through = through; reported = report.ballot; votes = report.votes } ∷ []
counted-more [] [] report through h = refl
counted-more [] (t ∷ ts) report through h = absurd (omega arith)
counted-more (r ∷ rs) [] report through h = absurd (omega arith)
counted-more (r ∷ rs) (t ∷ ts) report through h = rw (counted-more rs ts report through (omega arith)) refl

pub counted-take : (n : ℕ) (reports : List Report) (throughs : List ℕ) → counted_of (take n reports) (take n throughs) ≡ take n (counted_of reports throughs)
counted-take zero reports throughs = refl
counted-take (suc n) [] throughs = refl
counted-take (suc n) (r ∷ rs) [] = refl
counted-take (suc n) (r ∷ rs) (t ∷ ts) = rw (counted-take n rs ts) refl

-- without the last promise it is as before
pub take_last : {X : Type 0} (xs : List X) (x : X) → take (length (xs ++ x ∷ []) - 1) (xs ++ x ∷ []) ≡ xs
take_last xs x =
    let count : length (xs ++ x ∷ []) - 1 ≡ length xs = omega (arith, length-append xs (x ∷ [])) in
    rw count (take-append_seam xs (x ∷ []))

pub ruleset counted_promises = (reports-counted, length-counted, through-counted, from-counted, differing-counted, counted-more, counted-take, take_last)
