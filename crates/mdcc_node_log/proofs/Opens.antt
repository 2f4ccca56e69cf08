-- The calls of an opening, whatever comes of them.
use Rattle.std.proofs.Common.{◌≡◌, ◌+◌, Err, List, Ok, OnOk, Result, subst, sym, ℕ}
use Rattle.mdcc_log.specs.Opening.{OpensOne}
use Rattle.mdcc_disks.specs.Disks.{Disk}
use Rattle.mdcc_node_log.specs.Opening.{OnlyOpens}

on_any : {U F P : Type 0} (result : Result U F) → P → OnOk result P
on_any (Ok x) p = p
on_any (Err e) p = tt

at_err : {U F : Type 0} (P : Type 0) (result : Result U F) (fault : F) → result ≡ Err fault → OnOk result P
at_err {U} {F} P result fault is = subst (λ (r : Result U F). OnOk r P) (sym is) tt

at_ok : {T E U F : Type 0} (P : Type 0) (opened : Result T E) (result : Result U F) (log : T) → opened ≡ Ok log → OnOk opened P → OnOk result P
at_ok {T} {E} {U} {F} P opened result log is all = on_any result (subst (λ (r : Result T E). OnOk r P) is all)

module _ {D : Type 0} (disk : D → ℕ → Disk) (may_leave : D → ℕ → List ℕ → Type 0) (moment : D → ℕ) (left_since : D → ℕ → ℕ → List ℕ → Type 0) (tears : ℕ → Type 0) (old new : D) where
  module _ {T E U F : Type 0} (opened : Result T E) (result : Result U F) where
    -- the log was not opened, or it was given up
    broke_one : (fault : F) (place which : ℕ) (first second : List ℕ) → result ≡ Err fault
        → OpensOne disk may_leave moment left_since tears old new place which first second opened → OpensOne disk may_leave moment left_since tears old new place which first second result
    broke_one fault place which first second is one = record { any_moment = one.any_moment; some_calls = one.some_calls; all_calls = at_err _ result fault is }

    pub opens_broke : (a : ℕ) (fault : F) → result ≡ Err fault → OnlyOpens disk may_leave moment left_since tears old new a opened → OnlyOpens disk may_leave moment left_since tears old new a result
    opens_broke a fault is opens told told_other =
        let both = opens told told_other in (
          broke_one fault a 0 (disk old a).bytes (disk old (a + 16)).bytes is both.0,
          broke_one fault (a + 16) 1 (disk old a).bytes (disk old (a + 16)).bytes is both.1,
        )

    -- it was opened
    whole_one : (log : T) (place which : ℕ) (first second : List ℕ) → opened ≡ Ok log
        → OpensOne disk may_leave moment left_since tears old new place which first second opened → OpensOne disk may_leave moment left_since tears old new place which first second result
    whole_one log place which first second is one =
        record { any_moment = one.any_moment; some_calls = one.some_calls; all_calls = at_ok _ opened result log is one.all_calls }

    pub opens_whole : (a : ℕ) (log : T) → opened ≡ Ok log → OnlyOpens disk may_leave moment left_since tears old new a opened → OnlyOpens disk may_leave moment left_since tears old new a result
    opens_whole a log is opens told told_other =
        let both = opens told told_other in (
          whole_one log a 0 (disk old a).bytes (disk old (a + 16)).bytes is both.0,
          whole_one log (a + 16) 1 (disk old a).bytes (disk old (a + 16)).bytes is both.1,
        )
