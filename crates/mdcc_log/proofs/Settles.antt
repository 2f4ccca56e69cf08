-- What settling an area comes to, by the log that was read there.
use Rattle.std.proofs.Common.{◌≡◌, ◌≢◌, inl, inr, ℕ, ◌<◌, ◌≤◌, nat_le, Option, IsTrue, OnOk, Bool, cond, List, [], ◌∷◌, ◌++◌, length, take, drop, Ok, Err, Result, sym, ◌∙◌, ap, refl, subst, arith}
use Rattle.std.proofs.lemmas.List.{take_at}
use Rattle.mdcc_disks.specs.Disks.{Disk, DiskCall, Only, Within, KeepsOthers, LeavesOnly}
use Rattle.mdcc_log_file.specs.Log.{log_bytes}
use Rattle.mdcc_log_file.specs.Calls.{MadeSome, with_calls, begin_calls, close_calls, cut_calls}
use Rattle.mdcc_log_file.proofs.Moments.{started, both, weakened}
use Rattle.mdcc_log_file.specs.Area.{AreaLog, front_of, area_bytes, read_area}
use Rattle.mdcc_log.specs.Reading.{AreaIs, IsReadAs, EndsAtGate}
use Rattle.mdcc_log.specs.Repair.{settled, settle_at, MaySettle}
use Rattle.mdcc_log.specs.Opening.{MaySettleAs, taken_bytes}
use Rattle.mdcc_log.specs.Frames.{repair_calls, settle_calls}
use Rattle.mdcc_log.specs.Settling.{SettlesOne}
use Rattle.mdcc_log.proofs.AreaRead.{long_test, shorter_test}
use Rattle.mdcc_log_file.proofs.Calls.{made_none}
use Rattle.mdcc_log_file.proofs.ReadCalls.{made_all}
use Rattle.mdcc_log_file.proofs.Joined.{moment_beside}

module _ {g : ℕ} {all : List (List ℕ)} {start tail gate : ℕ} {bytes : List ℕ} (is : AreaIs g all start tail gate bytes) where
  pub settled_is : settled gate bytes ≡ area_bytes is.log
  settled_is = elim is.stands [
    | inl short ↦ ap (λ (b : Bool). cond b (log_bytes []) (take gate bytes ++ 0 ∷ [])) (shorter_test bytes short.0) ∙ ap area_bytes (sym short.1)
    | inr long ↦
        ap (λ (b : Bool). cond b (log_bytes []) (take gate bytes ++ 0 ∷ [])) (long_test bytes long.0)
        ∙ ap (λ (l : List ℕ). l ++ 0 ∷ []) (ap (λ (l : List ℕ). take gate l) long.1.front ∙ take_at (front_of is.log) (drop gate bytes) gate (sym is.gate_is))
  ]

  pub taken_is : settled gate bytes ≡ taken_bytes (read_area bytes)
  taken_is = settled_is ∙ ap taken_bytes (sym is.read)

  pub settle_calls_are : settle_at gate bytes ≡ settle_calls bytes
  settle_calls_are =
      ap (λ (n : ℕ). cond (nat_le (length bytes) 9) begin_calls (close_calls n bytes ++ cut_calls n bytes)) is.gate_is
      ∙ ap (λ (r : Result AreaLog ℕ). cond (nat_le (length bytes) 9) begin_calls (repair_calls bytes r)) (sym is.read)

  read_as : IsReadAs is.log bytes
  read_as = record {
    read = is.read;
    valid = is.valid;
    numbered = λ copy. is.numbered copy ∙ ap (λ (n : ℕ). let ok : Result ℕ ℕ = Ok n in ok) is.generation_is;
    stands = elim is.stands [
      | inl short ↦ inl short
      | inr long ↦ inr (long.0, subst (λ (n : ℕ). EndsAtGate is.log n bytes) is.gate_is long.1)
    ];
  }

  pub may_settle : {tears : ℕ → Type 0} (c : List ℕ) → MaySettle tears gate bytes c → MaySettleAs tears bytes c
  may_settle {tears} c may = inr (is.log, (read_as, subst (λ (n : ℕ). MaySettle tears n bytes c) is.gate_is may))

  pub gate_within : 9 < length bytes → gate < length bytes
  gate_within long = elim is.stands [
    | inl short ↦ absurd (omega (arith, long, short.0))
    | inr more ↦ more.1.within
  ]

-- ---- at one of two places

module _ {D : Type 0} (disk : D → ℕ → Disk) (may_leave : D → ℕ → List ℕ → Type 0) (moment : D → ℕ) (left_since : D → ℕ → ℕ → List ℕ → Type 0) (only_now : (disks : D) (p : ℕ) (c : List ℕ) → left_since disks p (moment disks) c → may_leave disks p c) where
  -- nothing was done there, and then a call elsewhere failed
  pub settles_not : {T E : Type 0} (old new : D) (place other : ℕ) (bytes : List ℕ) (P : List ℕ → Type 0) (calls : List DiskCall) (result : Result T E) (e : E) → result ≡ Err e → place ≢ other → KeepsOthers disk may_leave moment left_since old new other → (IsTrue (disk old place).told → Within P (may_leave old place))
      → SettlesOne disk may_leave moment left_since old new place bytes P calls result
  settles_not {T} {E} old new place other bytes P calls result e failed apart keeps within =
      subst (λ (r : Result T E). SettlesOne disk may_leave moment left_since old new place bytes P calls r) (sym failed)
      (record {
        told = ap (λ (d : Disk). d.told) (keeps.others place apart);
        settled = λ told. tt;
        durable = λ told. tt;
        any_moment = λ told. moment_beside disk may_leave moment left_since only_now old new place other P apart keeps (within told);
        some_calls = subst (λ (o : Option (List DiskCall)). MadeSome calls (disk old place).calls o) (sym (ap (λ (d : Disk). d.calls) (keeps.others place apart))) (made_none calls (disk old place).calls);
        all_calls = tt;
      })

  -- and nothing at all
  pub settles_none : {T E : Type 0} (old : D) (place : ℕ) (bytes : List ℕ) (P : List ℕ → Type 0) (calls : List DiskCall) (result : Result T E) (e : E) → result ≡ Err e → (IsTrue (disk old place).told → Within P (may_leave old place))
      → SettlesOne disk may_leave moment left_since old old place bytes P calls result
  settles_none {T} {E} old place bytes P calls result e failed within =
      subst (λ (r : Result T E). SettlesOne disk may_leave moment left_since old old place bytes P calls r) (sym failed)
      (record {
        told = refl;
        settled = λ told. tt;
        durable = λ told. tt;
        any_moment = λ told. started moment left_since old place P (λ c left. within told c (only_now old place c left));
        some_calls = made_none calls (disk old place).calls;
        all_calls = tt;
      })

  -- first there, and then elsewhere
  pub settles_first : {X Y : Type 0} (counts_now : (disks : D) (p t : ℕ) (c : List ℕ) → t ≤ moment disks → may_leave disks p c → left_since disks p t c) (old mid new : D) (place other : ℕ) (bytes : List ℕ) (P : List ℕ → Type 0) (calls : List DiskCall) (result : Result X Y) → place ≢ other → KeepsOthers disk may_leave moment left_since mid new other
      → ((disk mid place).told ≡ (disk old place).told) → (IsTrue (disk old place).told → (disk mid place).bytes ≡ bytes) → (IsTrue (disk old place).told → Only (disk mid place).bytes (may_leave mid place)) → (IsTrue (disk old place).told → LeavesOnly moment left_since old mid place P) → ((disk mid place).calls ≡ with_calls calls (disk old place).calls)
      → SettlesOne disk may_leave moment left_since old new place bytes P calls result
  settles_first counts_now old mid new place other bytes P calls result apart keeps told_is made durable moments told_calls = record {
    told = ap (λ (d : Disk). d.told) (keeps.others place apart) ∙ told_is;
    settled = λ told. always result (ap (λ (d : Disk). d.bytes) (keeps.others place apart) ∙ made told);
    durable = λ told. always result (λ c now. durable told c (keeps.crash place apart c now) ∙ sym (ap (λ (d : Disk). d.bytes) (keeps.others place apart)));
    any_moment = λ told. both (moments told) (moment_beside disk may_leave moment left_since only_now mid new place other P apart keeps (λ c now. (moments told).each c (counts_now mid place (moment old) c (moments told).later now)));
    some_calls = made_all calls (disk old place).calls (disk new place).calls (ap (λ (d : Disk). d.calls) (keeps.others place apart) ∙ told_calls);
    all_calls = always result (ap (λ (d : Disk). d.calls) (keeps.others place apart) ∙ told_calls);
  }
    where
      always : {A B Q : Type 0} (r : Result A B) → Q → OnOk r Q
      always (Ok x) has = has
      always (Err e) has = tt

  module _ {T E : Type 0} (old mid new : D) (place other : ℕ) (bytes : List ℕ) (P : List ℕ → Type 0) (calls : List DiskCall) (result : Result T E) (apart : place ≢ other) (keeps : KeepsOthers disk may_leave moment left_since old mid other) (within : IsTrue (disk old place).told → Within P (may_leave old place)) where
    told_same : (disk mid place).told ≡ (disk old place).told
    told_same = ap (λ (d : Disk). d.told) (keeps.others place apart)

    calls_same : (disk mid place).calls ≡ (disk old place).calls
    calls_same = ap (λ (d : Disk). d.calls) (keeps.others place apart)

    -- first elsewhere, and then there
    pub settles_second : (here : T) → result ≡ Ok here → ((disk new place).told ≡ (disk mid place).told) → (IsTrue (disk mid place).told → (disk new place).bytes ≡ bytes) → (IsTrue (disk mid place).told → Only (disk new place).bytes (may_leave new place)) → (IsTrue (disk mid place).told → LeavesOnly moment left_since mid new place P)
        → (disk new place).calls ≡ with_calls calls (disk mid place).calls → SettlesOne disk may_leave moment left_since old new place bytes P calls result
    settles_second here ok told_is made durable moments all =
        subst (λ (r : Result T E). SettlesOne disk may_leave moment left_since old new place bytes P calls r) (sym ok)
        (record {
          told = told_is ∙ told_same;
          settled = λ told. made (told_same ∙ told);
          durable = λ told. durable (told_same ∙ told);
          any_moment = λ told. both (moment_beside disk may_leave moment left_since only_now old mid place other P apart keeps (within told)) (moments (told_same ∙ told));
          some_calls = subst (λ (o : Option (List DiskCall)). MadeSome calls o (disk new place).calls) calls_same (made_all calls (disk mid place).calls (disk new place).calls all);
          all_calls = all ∙ ap (λ (o : Option (List DiskCall)). with_calls calls o) calls_same;
        })

    -- where it failed
    pub settles_failed : (e : E) → result ≡ Err e → ((disk new place).told ≡ (disk mid place).told) → (IsTrue (disk mid place).told → LeavesOnly moment left_since mid new place P) → MadeSome calls (disk mid place).calls (disk new place).calls → SettlesOne disk may_leave moment left_since old new place bytes P calls result
    settles_failed e failed told_is moments some =
        subst (λ (r : Result T E). SettlesOne disk may_leave moment left_since old new place bytes P calls r) (sym failed)
        (record {
          told = told_is ∙ told_same;
          settled = λ told. tt;
          durable = λ told. tt;
          any_moment = λ told. both (moment_beside disk may_leave moment left_since only_now old mid place other P apart keeps (within told)) (moments (told_same ∙ told));
          some_calls = subst (λ (o : Option (List DiskCall)). MadeSome calls o (disk new place).calls) calls_same some;
          all_calls = tt;
        })

module _ {D : Type 0} {disk : D → ℕ → Disk} {may_leave : D → ℕ → List ℕ → Type 0} {moment : D → ℕ} {left_since : D → ℕ → ℕ → List ℕ → Type 0} {old new : D} {place : ℕ} {bytes : List ℕ} {P : List ℕ → Type 0} {calls : List DiskCall} (bytes_too : List ℕ) (Q : List ℕ → Type 0) (calls_too : List DiskCall) (from : (c : List ℕ) → P c → Q c) (told_too : calls ≡ calls_too) where
  -- the same said otherwise, where it failed
  pub failed_as : {X Y T E : Type 0} (one : Result X Y) (result : Result T E) (e : E) → result ≡ Err e → SettlesOne disk may_leave moment left_since old new place bytes P calls one → SettlesOne disk may_leave moment left_since old new place bytes_too Q calls_too result
  failed_as {X} {Y} {T} {E} one result e failed part =
      subst (λ (r : Result T E). SettlesOne disk may_leave moment left_since old new place bytes_too Q calls_too r) (sym failed)
      (record {
        told = part.told;
        settled = λ told. tt;
        durable = λ told. tt;
        any_moment = λ told. weakened Q (part.any_moment told) from;
        some_calls = subst (λ (l : List DiskCall). MadeSome l (disk old place).calls (disk new place).calls) told_too part.some_calls;
        all_calls = tt;
      })

  -- and where it was done
  pub done_as : {X Y T E : Type 0} (x : X) (result : Result T E) (y : T) → result ≡ Ok y → bytes ≡ bytes_too → SettlesOne disk may_leave moment left_since {T = X} {E = Y} old new place bytes P calls (Ok x) → SettlesOne disk may_leave moment left_since old new place bytes_too Q calls_too result
  done_as {X} {Y} {T} {E} x result y ok same part =
      subst (λ (r : Result T E). SettlesOne disk may_leave moment left_since old new place bytes_too Q calls_too r) (sym ok)
      (record {
        told = part.told;
        settled = λ told. part.settled told ∙ same;
        durable = part.durable;
        any_moment = λ told. weakened Q (part.any_moment told) from;
        some_calls = subst (λ (l : List DiskCall). MadeSome l (disk old place).calls (disk new place).calls) told_too part.some_calls;
        all_calls = part.all_calls ∙ ap (λ (l : List DiskCall). with_calls l (disk old place).calls) told_too;
      })
