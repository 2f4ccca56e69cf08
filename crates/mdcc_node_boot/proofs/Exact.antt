-- Admitted facts and allowed ones.
use Rattle.std.proofs.Common.{◌≡◌, ℕ, ◌+◌, Bool, true, false, not, nat_lt, ◌&&◌, ◌||◌, List, [], ◌∷◌, refl, sym, ◌∙◌, arith}
use Rattle.std.proofs.lemmas.Bool.{and_parts, eqb-true}
use Rattle.mdcc_node_boot.specs.Admission.{is_admitted, is_admitted_kind}
use Rattle.mdcc_node_boot.specs.Laws.{AdmissionIsExact, AllowedEpochsAreCounted, AreCounted, EpochsStayCounted}
use Rattle.mdcc_base.specs.Counts.{number_of}
use Rattle.mdcc_option.specs.declared.cluster.Cluster.{Cluster}
use Rattle.mdcc_def_ledger.specs.BootTest.{are_allowed_facts, is_allowed_fact}
use Rattle.mdcc_def_ledger.specs.AllowedFacts.{is_booted}
use Rattle.mdcc_def_protocol.specs.Belongs.{fact_belongs}
use Rattle.mdcc_def_protocol.specs.Facts.{epoch_of, is_finished, is_heard}
use Rattle.mdcc_def_protocol.specs.News.{is_crowding, is_news}
use Rattle.mdcc_def_messages.specs.declared.facts.Fact.{Fact}

and-true : (b : Bool) → b ≡ (b && true)
and-true true = refl
and-true false = refl

and-assoc : (a b c : Bool) → (a && (b && c)) ≡ ((a && b) && c)
and-assoc true b c = refl
and-assoc false b c = refl

unsettled : (a heard finished d : Bool) → (a && (not heard && not finished && d)) ≡ (a && not (heard || finished) && d)
unsettled true true finished d = refl
unsettled true false finished d = refl
unsettled false heard finished d = refl

pub admission_exact : AdmissionIsExact
admission_exact cluster facts (Fact.Booted epoch) counted = rw (← counted) (and-true (is_admitted cluster facts (Fact.Booted epoch)))
admission_exact cluster facts (Fact.Promised key low high ballot) counted = and-true (is_admitted cluster facts (Fact.Promised key low high ballot))
admission_exact cluster facts (Fact.Voted key version ballot options offered) counted = and-true (is_admitted cluster facts (Fact.Voted key version ballot options offered))
admission_exact cluster facts (Fact.Heard tx outcome) counted =
    unsettled (fact_belongs cluster (Fact.Heard tx outcome) && (false || nat_lt 0 (epoch_of facts))) (is_heard facts tx) (is_finished facts tx)
    (not (is_crowding facts (Fact.Heard tx outcome)))
admission_exact cluster facts (Fact.Adopted key version item adds) counted =
    and-assoc (fact_belongs cluster (Fact.Adopted key version item adds) && (false || nat_lt 0 (epoch_of facts))) (is_news facts key version adds)
    (not (is_crowding facts (Fact.Adopted key version item adds)))
admission_exact cluster facts (Fact.Floor centre epoch seq) counted = refl

-- ---- epochs

one_more : (epoch last count : ℕ) → epoch ≡ last + 1 → last ≡ count → epoch ≡ 1 + count
one_more epoch last count e f = omega arith

no_more : (last count : ℕ) → last ≡ count → last ≡ 0 + count
no_more last count e = omega arith

counted-by : (cluster : Cluster) (facts : List Fact) (fact : Fact) → AreCounted facts → is_admitted_kind cluster facts fact ≡ true → AreCounted (fact ∷ facts)
counted-by cluster facts (Fact.Booted epoch) counted h =
    one_more epoch (epoch_of facts) (number_of is_booted facts) (eqb-true epoch (epoch_of facts + 1) h) counted
counted-by cluster facts (Fact.Promised key low high ballot) counted h = no_more (epoch_of facts) (number_of is_booted facts) counted
counted-by cluster facts (Fact.Voted key version ballot options offered) counted h = no_more (epoch_of facts) (number_of is_booted facts) counted
counted-by cluster facts (Fact.Heard tx outcome) counted h = no_more (epoch_of facts) (number_of is_booted facts) counted
counted-by cluster facts (Fact.Adopted key version item adds) counted h = no_more (epoch_of facts) (number_of is_booted facts) counted
counted-by cluster facts (Fact.Floor centre epoch seq) counted h = absurd (cc)

pub stay_counted : EpochsStayCounted
stay_counted cluster facts fact counted h =
    counted-by cluster facts fact counted
    (and_parts (fact_belongs cluster fact && (is_booted fact || nat_lt 0 (epoch_of facts))) (is_admitted_kind cluster facts fact) h).1

pub allowed_counted : AllowedEpochsAreCounted
allowed_counted cluster [] h = refl
allowed_counted cluster (fact ∷ facts) h =
    let parts = and_parts (are_allowed_facts cluster facts) (is_allowed_fact cluster facts fact) h in
    let counted = allowed_counted cluster facts parts.0 in
    let both : (is_admitted cluster facts fact && not (is_crowding facts fact)) ≡ true = sym (admission_exact cluster facts fact counted) ∙ parts.1 in
    stay_counted cluster facts fact counted (and_parts (is_admitted cluster facts fact) (not (is_crowding facts fact)) both).0
