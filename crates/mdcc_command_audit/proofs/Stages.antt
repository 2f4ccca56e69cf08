-- How far the logs of the centres are opened.
use Rattle.std.proofs.Common.{◌≡◌, ◌≢◌, ◌∙◌, ◌+◌, ◌<◌, ◌≤◌, ◌⊎◌, Bool, Err, List, Ok, OnOk, Result, ap, arith, false, fold, inl, inr, nat_lt, refl, subst, sym, true, ℕ}
use Rattle.std.proofs.lemmas.Bool.{ltb-false, ltb-true}
use Rattle.mdcc_audit.specs.Auditing.{State, fact_taken}
use Rattle.mdcc_audit.specs.Logs.{placed_log}
use Rattle.mdcc_command_audit.proofs.Facts.{Left, one_taken}
use Rattle.mdcc_command_audit.proofs.Places.{elsewhere_fewer, elsewhere_last, elsewhere_one, elsewhere_two, keeps_but, keeps_fewer, keeps_joined, keeps_none, opens_after, opens_before, opens_never}
use Rattle.mdcc_command_audit.proofs.Refusals.{boots_still, read_still, told_still}
use Rattle.mdcc_command_audit.specs.Audits.{BootsAt, IsCentreUpTo, IsElsewhere, KeepsDisks, UnlessDisk, facts_from, log_on}
use Rattle.mdcc_node_log.proofs.Opens.{opens_broke, opens_whole}
use Rattle.mdcc_node_log.specs.Opening.{OnlyOpens}
use Rattle.mdcc_disks.specs.Disks.{Disk}
use Rattle.mdcc_command_endings.specs.Logs.{AreAreasTold}
use Rattle.mdcc_command_endings.specs.declared.fault.Failure.{Failure}
use Rattle.mdcc_log_file.specs.Area.{payloads}
use Rattle.mdcc_log_file.specs.Both.{KeepsBut, RoseAtOne}
use Rattle.mdcc_log_file.specs.declared.fault.LogFault.{LogFault}
use Rattle.mdcc_def_messages.specs.declared.facts.Fact.{Fact}
use Rattle.mdcc_option.specs.declared.cluster.Cluster.{Cluster}

-- nothing went wrong
abbrev pub Done : Type 0
Done = Result (Unit {0}) Failure

abbrev pub done : Done
done = Ok tt

pub on_any : {T E P : Type 0} (result : Result T E) → P → OnOk result P
on_any (Ok x) p = p
on_any (Err e) p = tt

-- ---- numbers of centres

-- one of the first, or the next one
one_more : (last a : ℕ) → IsCentreUpTo (last + 1) a → IsCentreUpTo last a ⊎ (a ≡ last + 1)
one_more last a is = by (nat_lt last a) refl
  where
    by : (b : Bool) → nat_lt last a ≡ b → IsCentreUpTo last a ⊎ (a ≡ last + 1)
    by true e = inr (let past = ltb-true last a e in omega (past, is.1, arith))
    by false e = inl (is.0, ltb-false last a e)

-- the disks of one are not those of another
apart_one : (a b : ℕ) → a < b → b ≤ 9 → (a ≢ b) × (a ≢ b + 16)
apart_one a b low high = ((λ same. absurd (omega (same, low, arith))), (λ same. absurd (omega (same, low, arith))))

apart_two : (a b : ℕ) → 1 ≤ a → a < b → b ≤ 9 → (a + 16 ≢ b) × (a + 16 ≢ b + 16)
apart_two a b some low high = ((λ same. absurd (omega (same, some, high, arith))), (λ same. absurd (omega (same, low, arith))))

-- what stands whatever failed
pub unless_so : {T : Type 0} (result : Result T Failure) (P : Type 0) → P → UnlessDisk result P
unless_so (Ok x) P p = p
unless_so (Err (Failure.Log a LogFault.DiskFault)) P p = tt
unless_so (Err (Failure.Log a (LogFault.NotALog n))) P p = p
unless_so (Err (Failure.Log a LogFault.LogFull)) P p = p
unless_so (Err (Failure.Log a LogFault.Memory)) P p = p
unless_so (Err (Failure.Boot a why)) P p = p
unless_so (Err (Failure.Input fault)) P p = p
unless_so (Err (Failure.Config fault)) P p = p
unless_so (Err Failure.Centre) P p = p
unless_so (Err Failure.Link) P p = p
unless_so (Err Failure.Serial) P p = p
unless_so (Err Failure.Output) P p = p
unless_so (Err Failure.Memory) P p = p

module _ {D : Type 0} (disk : D → ℕ → Disk) (may_leave : D → ℕ → List ℕ → Type 0) (moment : D → ℕ) (left_since : D → ℕ → ℕ → List ℕ → Type 0) (tears : ℕ → Type 0) (cluster : Cluster) (old : D) where
  -- The logs of the centres up to this one were opened, nodes boot from them, and nothing else was done.
  pub record Opened (last : ℕ) (new : D) : Type 0 where
    pub keeps : KeepsDisks disk may_leave moment left_since (IsElsewhere last) old new
    pub opens : (a : ℕ) → IsCentreUpTo last a → OnlyOpens disk may_leave moment left_since tears old new a done
    pub same : (a : ℕ) (all : List (List ℕ)) → IsCentreUpTo last a → AreAreasTold disk old a → payloads (disk old a).bytes (disk old (a + 16)).bytes ≡ Ok all
        → payloads (disk new a).bytes (disk new (a + 16)).bytes ≡ Ok all
    pub boots : (a : ℕ) → IsCentreUpTo last a → BootsAt disk cluster old a

  pub none_opened : Opened 0 old
  none_opened = record {
    keeps = keeps_none disk may_leave moment left_since (IsElsewhere 0) old;
    opens = λ a is. absurd (omega (is.0, is.1, arith));
    same = λ a all is. absurd (omega (is.0, is.1, arith));
    boots = λ a is. absurd (omega (is.0, is.1, arith));
  }

module _ {D : Type 0} (disk : D → ℕ → Disk) (may_leave : D → ℕ → List ℕ → Type 0) (moment : D → ℕ) (left_since : D → ℕ → ℕ → List ℕ → Type 0) (tears : ℕ → Type 0) (counts_now : (disks : D) (p t : ℕ) (c : List ℕ) → t ≤ moment disks → may_leave disks p c → left_since disks p t c) (only_now : (disks : D) (p : ℕ) (c : List ℕ) → left_since disks p (moment disks) c → may_leave disks p c) (cluster : Cluster) (old : D) where
  module _ (last n : ℕ) (next : n ≡ last + 1) (nine : n ≤ 9) (mid new : D) (before : Opened disk may_leave moment left_since tears cluster old last mid) where
    past : last < n
    past = omega (next, arith)

    here : disk mid n ≡ disk old n
    here = before.keeps.disks n (elsewhere_one last n past nine)

    there : disk mid (n + 16) ≡ disk old (n + 16)
    there = before.keeps.disks (n + 16) (elsewhere_two last n past nine)

    pub its_disks : (disk mid n ≡ disk old n) × (disk mid (n + 16) ≡ disk old (n + 16))
    its_disks = (here, there)

    -- its own opening, from the start
    pub its_opening : {T E : Type 0} (result : Result T E) → OnlyOpens disk may_leave moment left_since tears mid new n result → OnlyOpens disk may_leave moment left_since tears old new n result
    its_opening result opens =
        opens_before disk may_leave moment left_since tears counts_now only_now result n (IsElsewhere last) (elsewhere_one last n past nine) (elsewhere_two last n past nine) old mid new before.keeps opens

    module _ (but : KeepsBut disk may_leave moment left_since mid new n (n + 16)) where
      abbrev Apart : ℕ → Type 0
      Apart p = (p ≢ n) × (p ≢ n + 16)

      beside : KeepsDisks disk may_leave moment left_since Apart mid new
      beside = keeps_but disk may_leave moment left_since Apart n mid new (λ p is. is) but

      -- the openings before it
      earlier : (a : ℕ) → IsCentreUpTo last a → OnlyOpens disk may_leave moment left_since tears old new a done
      earlier a is =
          opens_after disk may_leave moment left_since tears counts_now only_now done a Apart (apart_one a n (omega (is.1, past, arith)) nine) (apart_two a n is.0 (omega (is.1, past, arith)) nine) old mid new beside (before.opens a is)

      same_earlier : (a : ℕ) (all : List (List ℕ)) → IsCentreUpTo last a → AreAreasTold disk old a → payloads (disk old a).bytes (disk old (a + 16)).bytes ≡ Ok all
          → payloads (disk new a).bytes (disk new (a + 16)).bytes ≡ Ok all
      same_earlier a all is told read =
          read_still disk cluster mid new a (beside.disks a (apart_one a n (omega (is.1, past, arith)) nine)) (beside.disks (a + 16) (apart_two a n is.0 (omega (is.1, past, arith)) nine))
          ∙ before.same a all is told read

      elsewhere : KeepsDisks disk may_leave moment left_since (IsElsewhere n) old new
      elsewhere =
          keeps_joined disk may_leave moment left_since (IsElsewhere n) old mid new
          (keeps_fewer disk may_leave moment left_since (IsElsewhere last) (IsElsewhere n) old mid (λ p is. elsewhere_fewer last n p (omega (past, arith)) is) before.keeps)
          (keeps_but disk may_leave moment left_since (IsElsewhere n) n mid new (λ p is. elsewhere_last n p (omega (next, arith)) is) but)

      -- ---- it was opened too

      pub opened_next : {T E : Type 0} (result : Result T E) (log : T) → result ≡ Ok log → OnlyOpens disk may_leave moment left_since tears mid new n result
          → ((all : List (List ℕ)) → AreAreasTold disk mid n → payloads (disk mid n).bytes (disk mid (n + 16)).bytes ≡ Ok all → payloads (disk new n).bytes (disk new (n + 16)).bytes ≡ Ok all)
          → BootsAt disk cluster mid n → Opened disk may_leave moment left_since tears cluster old n new
      opened_next result log is opens keeps boots = record {
        keeps = elsewhere;
        opens = λ a among. elim (one_more last a (subst (λ (k : ℕ). IsCentreUpTo k a) next among)) [
          | inl one ↦ earlier a one
          | inr e ↦ subst (λ (k : ℕ). OnlyOpens disk may_leave moment left_since tears old new k done) (sym (e ∙ sym next)) (opens_whole disk may_leave moment left_since tears old new result done n log is (its_opening result opens))
        ];
        same = λ a all among told read. elim (one_more last a (subst (λ (k : ℕ). IsCentreUpTo k a) next among)) [
          | inl one ↦ same_earlier a all one told read
          | inr e ↦ its a all (e ∙ sym next) told read
        ];
        boots = λ a among. elim (one_more last a (subst (λ (k : ℕ). IsCentreUpTo k a) next among)) [
          | inl one ↦ before.boots a one
          | inr e ↦ subst (λ (k : ℕ). BootsAt disk cluster old k) (sym (e ∙ sym next)) (boots_still disk cluster old mid n here there boots)
        ];
      }
        where
          at_n : (all : List (List ℕ)) → AreAreasTold disk old n → payloads (disk old n).bytes (disk old (n + 16)).bytes ≡ Ok all → payloads (disk new n).bytes (disk new (n + 16)).bytes ≡ Ok all
          at_n all told read = keeps all (told_still disk cluster old mid n here there told) (read_still disk cluster old mid n here there ∙ read)

          its : (a : ℕ) (all : List (List ℕ)) → a ≡ n → AreAreasTold disk old a → payloads (disk old a).bytes (disk old (a + 16)).bytes ≡ Ok all → payloads (disk new a).bytes (disk new (a + 16)).bytes ≡ Ok all
          its a all e = subst (λ (k : ℕ). AreAreasTold disk old k → payloads (disk old k).bytes (disk old (k + 16)).bytes ≡ Ok all → payloads (disk new k).bytes (disk new (k + 16)).bytes ≡ Ok all) (sym e) (at_n all)

      -- ---- there it ended

      module _ {T : Type 0} (result : Result T Failure) (failure : Failure) (failed : result ≡ Err failure) (all_last : ℕ) (few : all_last ≤ 9) (among : n ≤ all_last) where
        pub stopped_opens : {U E : Type 0} (own : Result U E) → OnlyOpens disk may_leave moment left_since tears mid new n own → (a : ℕ) → IsCentreUpTo all_last a → OnlyOpens disk may_leave moment left_since tears old new a result
        stopped_opens own opens a is = by (nat_lt a n) refl (nat_lt n a) refl
          where
            by : (less : Bool) → nat_lt a n ≡ less → (more : Bool) → nat_lt n a ≡ more → OnlyOpens disk may_leave moment left_since tears old new a result
            by true low more e = opens_broke disk may_leave moment left_since tears old new done result a failure failed (earlier a (is.0, (let below = ltb-true a n low in omega (below, next, arith))))
            by false low true e =
                opens_never disk may_leave moment left_since tears counts_now only_now result a (IsElsewhere n) (elsewhere_one n a (ltb-true n a e) (omega (is.1, few, arith))) (elsewhere_two n a (ltb-true n a e) (omega (is.1, few, arith))) old new failure failed elsewhere
            by false low false e =
                let same : n ≡ a = (let one = ltb-false a n low in let two = ltb-false n a e in omega (one, two, arith)) in
                subst (λ (k : ℕ). OnlyOpens disk may_leave moment left_since tears old new k result) same (opens_broke disk may_leave moment left_since tears old new own result n failure failed (its_opening own opens))

        pub stopped_same : ((all : List (List ℕ)) → AreAreasTold disk mid n → payloads (disk mid n).bytes (disk mid (n + 16)).bytes ≡ Ok all → UnlessDisk result (payloads (disk new n).bytes (disk new (n + 16)).bytes ≡ Ok all))
            → (a : ℕ) (all : List (List ℕ)) → IsCentreUpTo all_last a → AreAreasTold disk old a → payloads (disk old a).bytes (disk old (a + 16)).bytes ≡ Ok all
            → UnlessDisk result (payloads (disk new a).bytes (disk new (a + 16)).bytes ≡ Ok all)
        stopped_same keeps a all is told read = by (nat_lt a n) refl (nat_lt n a) refl
          where
            at_n : AreAreasTold disk old n → payloads (disk old n).bytes (disk old (n + 16)).bytes ≡ Ok all → UnlessDisk result (payloads (disk new n).bytes (disk new (n + 16)).bytes ≡ Ok all)
            at_n told read = keeps all (told_still disk cluster old mid n here there told) (read_still disk cluster old mid n here there ∙ read)

            by : (less : Bool) → nat_lt a n ≡ less → (more : Bool) → nat_lt n a ≡ more → UnlessDisk result (payloads (disk new a).bytes (disk new (a + 16)).bytes ≡ Ok all)
            by true low more e = unless_so result _ (same_earlier a all (is.0, (let below = ltb-true a n low in omega (below, next, arith))) told read)
            by false low true e =
                unless_so result _
                (read_still disk cluster old new a (elsewhere.disks a (elsewhere_one n a (ltb-true n a e) (omega (is.1, few, arith)))) (elsewhere.disks (a + 16) (elsewhere_two n a (ltb-true n a e) (omega (is.1, few, arith)))) ∙ read)
            by false low false e =
                let same : n ≡ a = (let one = ltb-false a n low in let two = ltb-false n a e in omega (one, two, arith)) in
                subst (λ (k : ℕ). AreAreasTold disk old k → payloads (disk old k).bytes (disk old (k + 16)).bytes ≡ Ok all → UnlessDisk result (payloads (disk new k).bytes (disk new (k + 16)).bytes ≡ Ok all)) same at_n told read

        pub stopped_keeps : KeepsDisks disk may_leave moment left_since (IsElsewhere all_last) old new
        stopped_keeps = keeps_fewer disk may_leave moment left_since (IsElsewhere n) (IsElsewhere all_last) old new (λ p is. elsewhere_fewer n all_last p among is) elsewhere

-- ---- what was taken

-- of a log that was read as it was at first
pub state_next : {D : Type 0} (disk : D → ℕ → Disk) (cluster : Cluster) (old mid : D) (before after : State) (a n last : ℕ) → a ≡ n → a ≤ last → disk mid a ≡ disk old a → disk mid (a + 16) ≡ disk old (a + 16)
    → after ≡ fold (fact_taken cluster.quorums) before (placed_log a 1 (log_on disk mid a)) → Left disk cluster.quorums old before n last → Left disk cluster.quorums old after (n + 1) last
state_next {D} disk cluster old mid before after a n last e among one two is left =
    let same : log_on disk mid a ≡ log_on disk old a = ap facts_from (read_still disk cluster old mid a one two) in
    let taken_old : after ≡ fold (fact_taken cluster.quorums) before (placed_log a 1 (log_on disk old a)) = is ∙ ap (λ (facts : List Fact). fold (fact_taken cluster.quorums) before (placed_log a 1 facts)) same in
    subst (λ (k : ℕ). Left disk cluster.quorums old after (k + 1) last) e
    (one_taken disk cluster.quorums old before after a last among taken_old (subst (λ (k : ℕ). Left disk cluster.quorums old before k last) (sym e) left))

pub rose_still : {D : Type 0} (disk : D → ℕ → Disk) (old mid new : D) (a n : ℕ) → a ≡ n → disk mid n ≡ disk old n → disk mid (n + 16) ≡ disk old (n + 16)
    → RoseAtOne (disk mid a) (disk new a) (disk mid (a + 16)) (disk new (a + 16)) → RoseAtOne (disk old a) (disk new a) (disk old (a + 16)) (disk new (a + 16))
rose_still disk old mid new a n e one two rose =
    subst (λ (d : Disk). RoseAtOne (disk old a) (disk new a) d (disk new (a + 16))) (subst (λ (k : ℕ). disk mid (k + 16) ≡ disk old (k + 16)) (sym e) two)
    (subst (λ (d : Disk). RoseAtOne d (disk new a) (disk mid (a + 16)) (disk new (a + 16))) (subst (λ (k : ℕ). disk mid k ≡ disk old k) (sym e) one) rose)
