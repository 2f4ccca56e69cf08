-- Facts: what is read is what is spelled.
use Rattle.std.proofs.Common.{◌≡◌, ℕ, ◌+◌, ◌-◌, ◌^◌, Bool, true, false, cond, List, ◌++◌, length, Ok, Option, Some, None, refl, ap, subst, arith}
use Rattle.std.specs.Prelude.{◌==◌, nat_eq}
use Rattle.std.specs.Int.{IsInRange}
use Rattle.std.proofs.lemmas.Bool.{eqb-true, eqb-false}
use Rattle.std.proofs.lemmas.Bool.Decides.{Decides-eqb}
use Rattle.mdcc_base.specs.declared.identifiers.Ballot.{Ballot}
use Rattle.mdcc_base.specs.declared.identifiers.TxId.{TxId}
use Rattle.mdcc_base.specs.Key.{key_eq}
use Rattle.mdcc_option.proofs.Equal.{Decides-key}
use Rattle.mdcc_option.specs.declared.items.Item.{Item}
use Rattle.mdcc_option.specs.declared.items.Delta.{Delta}
use Rattle.mdcc_option.specs.declared.choices.Choice.{Choice}
use Rattle.mdcc_option.specs.declared.choices.Outcome.{Outcome}
use Rattle.mdcc_struct.specs.Options.{Marks}
use Rattle.mdcc_def_messages.specs.declared.facts.Fact.{Fact}
use Rattle.mdcc_def_messages.specs.declared.facts.Fact.TheVariants as facts
use Rattle.mdcc_def_messages.specs.Bytes.{u8_bytes, u32_bytes, u64_bytes}
use Rattle.mdcc_def_messages.specs.SpelledParts.{key_bytes, ballot_bytes, choice_bytes, options_bytes, heard_bytes, given_bytes}
use Rattle.mdcc_def_messages.specs.Spelling.{offered_bytes, fact_bytes}
use Rattle.mdcc_def_messages.specs.ReadingSteps.{◌>>=◌, u64_at, free, same, u8_within, u32_within}
use Rattle.mdcc_def_messages.specs.ReadingParts.{ballot_at, choice_checked, options_at}
use Rattle.mdcc_def_messages.specs.Reading.{instance_at, heard_at, sync_given_at, booted_at, promised_at, some_offered_at, offered_at, vote_at, heard_fact_at, adopted_at, floor_at, numbers_at}
use Rattle.mdcc_def_messages.specs.WellFormed.{IsWellFormedOffered, IsWellFormedFact}
use Rattle.mdcc_theorem_encoding.proofs.Places.{IsAt, IsBytes, apart-2, apart-3, apart-4, end-2, end-3, end-4}
use Rattle.mdcc_theorem_encoding.proofs.Steps.{done, ok_is, bind_ok}
use Rattle.mdcc_theorem_encoding.proofs.Numbers.{Reads, IsFound, u64_again, u64_takes, u8_within_again, u8_within_takes, u32_within_again, u32_within_takes}
use Rattle.mdcc_theorem_encoding.proofs.Lists.{Reads-then}
use Rattle.mdcc_theorem_encoding.proofs.Identifiers.{ballot_again, ballot_takes}
use Rattle.mdcc_theorem_encoding.proofs.Choices.{checked_choice_again, checked_choice_takes, same_passes, same_true, options_again, options_take}
use Rattle.mdcc_theorem_encoding.proofs.Common.{instance_spelled, instance_again, instance_takes, heard_spelled, heard_again, heard_takes, given_spelled, given_again, given_takes, numbers_again, numbers_spelled, numbers_take}

-- ---- a choice that was rejected

offered_again : (bytes : List ℕ) (at : ℕ) (key : List ℕ) (version : ℕ) (offered : Option Choice) → IsWellFormedOffered key version offered
    → IsAt bytes at (offered_bytes offered) → offered_at bytes at key version ≡ Ok (offered, at + length (offered_bytes offered))
offered_again bytes at key version None w h = rw (u8_within_again at 0 1 bytes at 0 (omega arith) (omega arith, omega arith) h) refl
offered_again bytes at key version (Some choice) w h =
    let p = apart-2 bytes at (u8_bytes 1) (choice_bytes choice) h in
    let tag = u8_within_again at 0 1 bytes at 1 (omega arith) (omega arith, omega arith) p.0 in
    let e = checked_choice_again free (same key_eq (at + 1) key) (same nat_eq (at + 1) version) bytes (at + 1) choice w.choice_itself (record {
      tx = refl;
      key = same_passes key_eq (at + 1) key choice.key ((Decides-key choice.key key).1 w.same_key);
      version = same_passes nat_eq (at + 1) version choice.version ((Decides-eqb choice.version version).1 w.same_version);
    }) p.1 in
    rw (tag, e) (ap (λ n. done (Some choice, n)) (end-2 at (u8_bytes 1) (choice_bytes choice)))

offered_takes : (bytes : List ℕ) (at : ℕ) (key : List ℕ) (version : ℕ) (x : Option Choice × ℕ) → IsBytes bytes → offered_at bytes at key version ≡ Ok x
    → IsFound bytes offered_bytes (IsWellFormedOffered key version) at x
offered_takes bytes at key version x h e =
    let a = bind_ok (u8_within at 0 1 bytes at) (λ tag. cond (tag.0 == 0) (done (None, tag.1)) (some_offered_at bytes tag.1 key version)) x e in
    let tag = u8_within_takes at 0 1 bytes at a.0 h a.1 in
    by_tag (a.0.0 == 0) a.0.0 a.0.1 refl tag.0 tag.2 a.2
  where
    by_tag : (b : Bool) (n middle : ℕ) → (n == 0) ≡ b → Reads bytes at (u8_bytes n) middle → IsInRange 0 1 n
        → cond b (done (None, middle)) (some_offered_at bytes middle key version) ≡ Ok x → IsFound bytes offered_bytes (IsWellFormedOffered key version) at x
    by_tag true n middle is first range e =
        subst (IsFound bytes offered_bytes (IsWellFormedOffered key version) at) (ok_is {X = Option Choice × ℕ} (None, middle) x e) (record {
          reads = subst (λ k. Reads bytes at (u8_bytes k) middle) (eqb-true n 0 is) first;
          fits = tt;
        })
    by_tag false n middle is first range e =
        let other = eqb-false n 0 is in
        let one : n ≡ 1 = omega (arith, other, range.1) in
        let b = bind_ok (choice_checked free (same key_eq middle key) (same nat_eq middle version) bytes middle) (λ choice. done (Some choice.0, choice.1)) x e in
        let c = checked_choice_takes free (same key_eq middle key) (same nat_eq middle version) bytes middle h b.0 b.1 in
        let tag : Reads bytes at (u8_bytes 1) middle = subst (λ k. Reads bytes at (u8_bytes k) middle) one first in
        subst (IsFound bytes offered_bytes (IsWellFormedOffered key version) at) (ok_is {X = Option Choice × ℕ} (Some b.0.0, b.0.1) x b.2) (record {
          reads = Reads-then bytes at (u8_bytes 1) middle (choice_bytes b.0.0) b.0.1 tag c.reads;
          fits = record {
            choice_itself = c.fits;
            same_key = (Decides-key b.0.0.key key).0 (same_true key_eq middle key b.0.0.key c.passes.key);
            same_version = (Decides-eqb b.0.0.version version).0 (same_true nat_eq middle version b.0.0.version c.passes.version);
          };
        })

-- ---- facts

pub booted_again : (bytes : List ℕ) (at : ℕ) (epoch : ℕ) → IsWellFormedFact (facts.Booted epoch) → IsAt bytes at (u32_bytes epoch)
    → booted_at bytes at ≡ Ok (facts.Booted epoch, at + length (u32_bytes epoch))
booted_again bytes at epoch w h =
    let e0 = u32_within_again at 1 (2 ^ 32 - 1) bytes at epoch (omega (arith, w.1)) w h in
    rw (e0) refl

pub booted_takes : (bytes : List ℕ) (start at : ℕ) → IsBytes bytes → (x : Fact × ℕ) → Reads bytes start (u8_bytes 1) at → booted_at bytes at ≡ Ok x
    → IsFound bytes fact_bytes IsWellFormedFact start x
booted_takes bytes start at h x tag e =
    let a0 = bind_ok (u32_within at 1 (2 ^ 32 - 1) bytes at) (λ epoch. done (facts.Booted epoch.0, epoch.1)) x e in
    let t0 = u32_within_takes at 1 (2 ^ 32 - 1) bytes at a0.0 h a0.1 in
    subst (IsFound bytes fact_bytes IsWellFormedFact start) (ok_is {X = Fact × ℕ} (facts.Booted a0.0.0, a0.0.1) x a0.2) (record {
      reads = Reads-then bytes start (u8_bytes 1) at (u32_bytes a0.0.0) a0.0.1 tag t0.0;
      fits = t0.2;
    })

pub promised_again : (bytes : List ℕ) (at : ℕ) (key : List ℕ) (low high : ℕ) (ballot : Ballot) → IsWellFormedFact (facts.Promised key low high ballot) → IsAt bytes at (key_bytes key ++ u64_bytes low ++ u64_bytes high ++ ballot_bytes ballot)
    → promised_at bytes at ≡ Ok (facts.Promised key low high ballot, at + length (key_bytes key ++ u64_bytes low ++ u64_bytes high ++ ballot_bytes ballot))
promised_again bytes at key low high ballot w h =
    let p = apart-3 bytes at (instance_spelled ((key, low))) (u64_bytes high) (ballot_bytes ballot) h in
    let e0 = instance_again bytes at key low w.instance p.0 in
    let e1 = u64_again bytes (at + length (instance_spelled ((key, low)))) high w.high_fits p.1 in
    let e2 = ballot_again bytes (at + length (instance_spelled ((key, low))) + length (u64_bytes high)) ballot w.ballot_itself p.2 in
    rw (e0, e1, e2) (ap (λ n. done (facts.Promised key low high ballot, n)) (end-3 at (instance_spelled ((key, low))) (u64_bytes high) (ballot_bytes ballot)))

pub promised_takes : (bytes : List ℕ) (start at : ℕ) → IsBytes bytes → (x : Fact × ℕ) → Reads bytes start (u8_bytes 2) at → promised_at bytes at ≡ Ok x
    → IsFound bytes fact_bytes IsWellFormedFact start x
promised_takes bytes start at h x tag e =
    let a0 = bind_ok (instance_at bytes at) (λ place. u64_at bytes place.1 >>= λ high. ballot_at bytes high.1 >>= λ ballot. done (facts.Promised place.0.0 place.0.1 high.0 ballot.0, ballot.1)) x e in
    let a1 = bind_ok (u64_at bytes a0.0.1) (λ high. ballot_at bytes high.1 >>= λ ballot. done (facts.Promised a0.0.0.0 a0.0.0.1 high.0 ballot.0, ballot.1)) x a0.2 in
    let a2 = bind_ok (ballot_at bytes a1.0.1) (λ ballot. done (facts.Promised a0.0.0.0 a0.0.0.1 a1.0.0 ballot.0, ballot.1)) x a1.2 in
    let t0 = instance_takes bytes at a0.0 h a0.1 in
    let t1 = u64_takes bytes a0.0.1 a1.0 h a1.1 in
    let t2 = ballot_takes bytes a1.0.1 a2.0 h a2.1 in
    subst (IsFound bytes fact_bytes IsWellFormedFact start) (ok_is {X = Fact × ℕ} (facts.Promised a0.0.0.0 a0.0.0.1 a1.0.0 a2.0.0, a2.0.1) x a2.2) (record {
      reads = Reads-then bytes start (u8_bytes 2 ++ instance_spelled a0.0.0 ++ u64_bytes a1.0.0) a1.0.1 (ballot_bytes a2.0.0) a2.0.1 (Reads-then bytes start (u8_bytes 2 ++ instance_spelled a0.0.0) a0.0.1 (u64_bytes a1.0.0) a1.0.1 (Reads-then bytes start (u8_bytes 2) at (instance_spelled a0.0.0) a0.0.1 tag t0.reads) t1.0) t2.reads;
      fits = record { instance = t0.fits; high_fits = t1.1; ballot_itself = t2.fits };
    })

pub vote_again : (bytes : List ℕ) (at : ℕ) (key : List ℕ) (version : ℕ) (ballot : Ballot) (options : Marks) (offered : Option Choice) → IsWellFormedFact (facts.Voted key version ballot options offered) → IsAt bytes at (key_bytes key ++ u64_bytes version ++ ballot_bytes ballot ++ options_bytes options ++ offered_bytes offered)
    → vote_at bytes at ≡ Ok (facts.Voted key version ballot options offered, at + length (key_bytes key ++ u64_bytes version ++ ballot_bytes ballot ++ options_bytes options ++ offered_bytes offered))
vote_again bytes at key version ballot options offered w h =
    let p = apart-4 bytes at (instance_spelled ((key, version))) (ballot_bytes ballot) (options_bytes options) (offered_bytes offered) h in
    let e0 = instance_again bytes at key version w.instance p.0 in
    let e1 = ballot_again bytes (at + length (instance_spelled ((key, version)))) ballot w.ballot_itself p.1 in
    let e2 = options_again bytes (at + length (instance_spelled ((key, version))) + length (ballot_bytes ballot)) key version options w.options_itself p.2 in
    let e3 = offered_again bytes (at + length (instance_spelled ((key, version))) + length (ballot_bytes ballot) + length (options_bytes options)) key version offered w.offered_itself p.3 in
    rw (e0, e1, e2, e3) (ap (λ n. done (facts.Voted key version ballot options offered, n)) (end-4 at (instance_spelled ((key, version))) (ballot_bytes ballot) (options_bytes options) (offered_bytes offered)))

pub vote_takes : (bytes : List ℕ) (start at : ℕ) → IsBytes bytes → (x : Fact × ℕ) → Reads bytes start (u8_bytes 3) at → vote_at bytes at ≡ Ok x
    → IsFound bytes fact_bytes IsWellFormedFact start x
vote_takes bytes start at h x tag e =
    let a0 = bind_ok (instance_at bytes at) (λ place. ballot_at bytes place.1 >>= λ ballot. options_at bytes ballot.1 place.0.0 place.0.1 >>= λ options. offered_at bytes options.1 place.0.0 place.0.1 >>= λ offered. done (facts.Voted place.0.0 place.0.1 ballot.0 options.0 offered.0, offered.1)) x e in
    let a1 = bind_ok (ballot_at bytes a0.0.1) (λ ballot. options_at bytes ballot.1 a0.0.0.0 a0.0.0.1 >>= λ options. offered_at bytes options.1 a0.0.0.0 a0.0.0.1 >>= λ offered. done (facts.Voted a0.0.0.0 a0.0.0.1 ballot.0 options.0 offered.0, offered.1)) x a0.2 in
    let a2 = bind_ok (options_at bytes a1.0.1 a0.0.0.0 a0.0.0.1) (λ options. offered_at bytes options.1 a0.0.0.0 a0.0.0.1 >>= λ offered. done (facts.Voted a0.0.0.0 a0.0.0.1 a1.0.0 options.0 offered.0, offered.1)) x a1.2 in
    let a3 = bind_ok (offered_at bytes a2.0.1 a0.0.0.0 a0.0.0.1) (λ offered. done (facts.Voted a0.0.0.0 a0.0.0.1 a1.0.0 a2.0.0 offered.0, offered.1)) x a2.2 in
    let t0 = instance_takes bytes at a0.0 h a0.1 in
    let t1 = ballot_takes bytes a0.0.1 a1.0 h a1.1 in
    let t2 = options_take bytes a1.0.1 a0.0.0.0 a0.0.0.1 a2.0 h a2.1 in
    let t3 = offered_takes bytes a2.0.1 a0.0.0.0 a0.0.0.1 a3.0 h a3.1 in
    subst (IsFound bytes fact_bytes IsWellFormedFact start) (ok_is {X = Fact × ℕ} (facts.Voted a0.0.0.0 a0.0.0.1 a1.0.0 a2.0.0 a3.0.0, a3.0.1) x a3.2) (record {
      reads = Reads-then bytes start (u8_bytes 3 ++ instance_spelled a0.0.0 ++ ballot_bytes a1.0.0 ++ options_bytes a2.0.0) a2.0.1 (offered_bytes a3.0.0) a3.0.1 (Reads-then bytes start (u8_bytes 3 ++ instance_spelled a0.0.0 ++ ballot_bytes a1.0.0) a1.0.1 (options_bytes a2.0.0) a2.0.1 (Reads-then bytes start (u8_bytes 3 ++ instance_spelled a0.0.0) a0.0.1 (ballot_bytes a1.0.0) a1.0.1 (Reads-then bytes start (u8_bytes 3) at (instance_spelled a0.0.0) a0.0.1 tag t0.reads) t1.reads) t2.reads) t3.reads;
      fits = record { instance = t0.fits; ballot_itself = t1.fits; options_itself = t2.fits; offered_itself = t3.fits };
    })

pub heard_fact_again : (bytes : List ℕ) (at : ℕ) (tx : TxId) (outcome : Outcome) → IsWellFormedFact (facts.Heard tx outcome) → IsAt bytes at (heard_bytes tx outcome)
    → heard_fact_at bytes at ≡ Ok (facts.Heard tx outcome, at + length (heard_bytes tx outcome))
heard_fact_again bytes at tx outcome w h =
    let e0 = heard_again bytes at tx outcome w h in
    rw (e0) refl

pub heard_fact_takes : (bytes : List ℕ) (start at : ℕ) → IsBytes bytes → (x : Fact × ℕ) → Reads bytes start (u8_bytes 4) at → heard_fact_at bytes at ≡ Ok x
    → IsFound bytes fact_bytes IsWellFormedFact start x
heard_fact_takes bytes start at h x tag e =
    let a0 = bind_ok (heard_at bytes at) (λ heard. done (facts.Heard heard.0.0 heard.0.1, heard.1)) x e in
    let t0 = heard_takes bytes at a0.0 h a0.1 in
    subst (IsFound bytes fact_bytes IsWellFormedFact start) (ok_is {X = Fact × ℕ} (facts.Heard a0.0.0.0 a0.0.0.1, a0.0.1) x a0.2) (record {
      reads = Reads-then bytes start (u8_bytes 4) at (heard_spelled a0.0.0) a0.0.1 tag t0.reads;
      fits = t0.fits;
    })

pub adopted_again : (bytes : List ℕ) (at : ℕ) (key : List ℕ) (version : ℕ) (item : Item) (adds : List Delta) → IsWellFormedFact (facts.Adopted key version item adds) → IsAt bytes at (given_bytes key version item adds)
    → adopted_at bytes at ≡ Ok (facts.Adopted key version item adds, at + length (given_bytes key version item adds))
adopted_again bytes at key version item adds w h =
    let e0 = given_again bytes at key version item adds w h in
    rw (e0) refl

pub adopted_takes : (bytes : List ℕ) (start at : ℕ) → IsBytes bytes → (x : Fact × ℕ) → Reads bytes start (u8_bytes 5) at → adopted_at bytes at ≡ Ok x
    → IsFound bytes fact_bytes IsWellFormedFact start x
adopted_takes bytes start at h x tag e =
    let a0 = bind_ok (sync_given_at bytes at) (λ given. done (facts.Adopted given.0.0 given.0.1 given.0.2 given.0.3, given.1)) x e in
    let t0 = given_takes bytes at a0.0 h a0.1 in
    subst (IsFound bytes fact_bytes IsWellFormedFact start) (ok_is {X = Fact × ℕ} (facts.Adopted a0.0.0.0 a0.0.0.1 a0.0.0.2 a0.0.0.3, a0.0.1) x a0.2) (record {
      reads = Reads-then bytes start (u8_bytes 5) at (given_spelled a0.0.0) a0.0.1 tag t0.reads;
      fits = t0.fits;
    })

pub floor_again : (bytes : List ℕ) (at centre epoch seq : ℕ) → IsWellFormedFact (facts.Floor centre epoch seq) → IsAt bytes at (u8_bytes centre ++ u32_bytes epoch ++ u32_bytes seq)
    → floor_at bytes at ≡ Ok (facts.Floor centre epoch seq, at + length (u8_bytes centre ++ u32_bytes epoch ++ u32_bytes seq))
floor_again bytes at centre epoch seq w h =
    let e0 = numbers_again bytes at centre epoch seq w h in
    rw (e0) refl

pub floor_takes : (bytes : List ℕ) (start at : ℕ) → IsBytes bytes → (x : Fact × ℕ) → Reads bytes start (u8_bytes 6) at → floor_at bytes at ≡ Ok x
    → IsFound bytes fact_bytes IsWellFormedFact start x
floor_takes bytes start at h x tag e =
    let a0 = bind_ok (numbers_at bytes at) (λ numbers. done (facts.Floor numbers.0.0 numbers.0.1 numbers.0.2, numbers.1)) x e in
    let t0 = numbers_take bytes at a0.0 h a0.1 in
    subst (IsFound bytes fact_bytes IsWellFormedFact start) (ok_is {X = Fact × ℕ} (facts.Floor a0.0.0.0 a0.0.0.1 a0.0.0.2, a0.0.1) x a0.2) (record {
      reads = Reads-then bytes start (u8_bytes 6) at (numbers_spelled a0.0.0) a0.0.1 tag t0.reads;
      fits = t0.fits;
    })
