-- Choices, marks and outcomes: what is read is what is spelled.
use Rattle.std.proofs.Common.{◌≡◌, ℕ, ◌+◌, Bool, true, false, cond, List, [], ◌∷◌, ◌++◌, length, Result, Ok, Option, None, refl, sym, ap, subst, arith}
use Rattle.std.specs.Prelude.{◌==◌, nat_eq}
use Rattle.std.specs.Int.{IsInRange}
use Rattle.std.specs.List.{flat_map}
use Rattle.std.proofs.lemmas.Bool.{eqb-true, eqb-false, and_parts}
use Rattle.std.proofs.lemmas.Bool.Decides.{Decides-eqb}
use Rattle.mdcc_option.proofs.Equal.{Decides-key, Decides-tx}
use Rattle.mdcc_struct.specs.Maps.{are_ascending}
use Rattle.mdcc_struct.specs.Options.{Marks}
use Rattle.mdcc_base.specs.declared.identifiers.TxId.{TxId}
use Rattle.mdcc_base.specs.Key.{key_eq, key_lt}
use Rattle.mdcc_base.specs.TxId.{tx_eq, tx_lt}
use Rattle.mdcc_option.specs.declared.choices.Choice.{Choice}
use Rattle.mdcc_option.specs.declared.choices.Mark.{Mark}
use Rattle.mdcc_option.specs.declared.choices.Mark.TheVariants.{Accept, Reject}
use Rattle.mdcc_option.specs.declared.choices.Outcome.{Outcome}
use Rattle.mdcc_option.specs.declared.choices.Outcome.TheVariants.{Commit, Abort}
use Rattle.mdcc_def_messages.specs.declared.wire.WireFault.{WireFault}
use Rattle.mdcc_def_messages.specs.declared.wire.WireFault.TheVariants.{NotCanonical}
use Rattle.mdcc_def_messages.specs.Bytes.{u8_bytes, u32_bytes, u64_bytes, counted_bytes}
use Rattle.mdcc_def_messages.specs.SpelledParts.{key_bytes, tx_bytes, update_bytes, write_set_bytes, choice_bytes, entry_bytes, options_bytes, outcome_bytes}
use Rattle.mdcc_def_messages.specs.ReadingSteps.{◌>>=◌, u32_at, u64_at, checked, free, same, is_after, fault_unless_after, u8_within, elements_at, list_at}
use Rattle.mdcc_def_messages.specs.ReadingParts.{key_at, tx_at, tx_behind, update_at, write_set_at, has_own, choice_checked, choice_at, reject_behind, accept_behind, entry_behind, options_at, choice_behind, commit_at, outcome_at}
use Rattle.mdcc_def_messages.specs.WellFormedParts.{is_ascending_by, is_written, IsWellFormedChoice, IsWellFormedWithin, IsWellFormedEntry, IsWellFormedOptions, IsWellFormedOf, IsWellFormedOutcome}
use Rattle.mdcc_theorem_encoding.proofs.Places.{IsAt, IsBytes, apart, apart-5, end-2, end-5}
use Rattle.mdcc_theorem_encoding.proofs.Steps.{done, ok_is, bind_ok, none_found, checked_ok}
use Rattle.mdcc_theorem_encoding.proofs.Numbers.{Reads, IsFound, u8_within_again, u8_within_takes, u32_again, u32_takes, u64_again, u64_takes}
use Rattle.mdcc_theorem_encoding.proofs.Lists.{ReadsAgain, Takes, Reads-then, elements_again, elements_take, list_again, list_takes, follows, ascends, behind_passes, behind_true}
use Rattle.mdcc_theorem_encoding.proofs.Identifiers.{key_again, key_takes, tx_again, tx_takes}
use Rattle.mdcc_theorem_encoding.proofs.Items.{tx_behind_again, tx_behind_takes, update_again, update_takes, write_set_again, write_set_takes}

module _ (check_tx : TxId → Option WireFault) (check_key : List ℕ → Option WireFault) (check_version : ℕ → Option WireFault) (bytes : List ℕ) (at : ℕ) where
  -- a choice that passes the checks
  pub record Passes (choice : Choice) : Type 0 where
    pub tx : check_tx choice.tx ≡ None
    pub key : check_key choice.key ≡ None
    pub version : check_version choice.version ≡ None

  pub checked_choice_again : (c : Choice) → IsWellFormedChoice c → Passes c → IsAt bytes at (choice_bytes c)
      → choice_checked check_tx check_key check_version bytes at ≡ Ok (c, at + length (choice_bytes c))
  checked_choice_again c w passes h =
      let p = apart-5 bytes at (tx_bytes c.tx) (key_bytes c.key) (u64_bytes c.version) (update_bytes c.update) (write_set_bytes c.write_set) h in
      let tx = tx_again bytes at c.tx w.tx p.0 in
      let key = key_again bytes (at + length (tx_bytes c.tx)) c.key w.key p.1 in
      let version = u64_again bytes (at + length (tx_bytes c.tx) + length (key_bytes c.key)) c.version w.version p.2 in
      let update = update_again bytes (at + length (tx_bytes c.tx) + length (key_bytes c.key) + 8) c.update w.update p.3 in
      let write_set = write_set_again bytes (at + length (tx_bytes c.tx) + length (key_bytes c.key) + 8 + length (update_bytes c.update)) c.write_set w.write_set p.4 in
      rw (tx, passes.tx, key, passes.key, version, passes.version, update, write_set, w.own)
      (ap (λ n. done (c, n)) (end-5 at (tx_bytes c.tx) (key_bytes c.key) (u64_bytes c.version) (update_bytes c.update) (write_set_bytes c.write_set)))

  -- the choice that was read
  pub record IsChoiceAt (x : Choice × ℕ) : Type 0 where
    pub reads : Reads bytes at (choice_bytes x.0) x.1
    pub fits : IsWellFormedChoice x.0
    pub passes : Passes x.0

  pub checked_choice_takes : IsBytes bytes → (x : Choice × ℕ) → choice_checked check_tx check_key check_version bytes at ≡ Ok x → IsChoiceAt x
  checked_choice_takes h x e =
      let a = bind_ok (checked check_tx (tx_at bytes at)) (λ tx. checked check_key (key_at bytes tx.1) >>= λ key. checked check_version (u64_at bytes key.1) >>= λ version. update_at bytes version.1 >>= λ update. checked (has_own update.1 key.0 version.0) (write_set_at bytes update.1) >>= λ write_set. done (record { tx = tx.0; key = key.0; version = version.0; update = update.0; write_set = write_set.0 }, write_set.1)) x e in
      let b = bind_ok (checked check_key (key_at bytes a.0.1)) (λ key. checked check_version (u64_at bytes key.1) >>= λ version. update_at bytes version.1 >>= λ update. checked (has_own update.1 key.0 version.0) (write_set_at bytes update.1) >>= λ write_set. done (record { tx = a.0.0; key = key.0; version = version.0; update = update.0; write_set = write_set.0 }, write_set.1)) x a.2 in
      let c = bind_ok (checked check_version (u64_at bytes b.0.1)) (λ version. update_at bytes version.1 >>= λ update. checked (has_own update.1 b.0.0 version.0) (write_set_at bytes update.1) >>= λ write_set. done (record { tx = a.0.0; key = b.0.0; version = version.0; update = update.0; write_set = write_set.0 }, write_set.1)) x b.2 in
      let d = bind_ok (update_at bytes c.0.1) (λ update. checked (has_own update.1 b.0.0 c.0.0) (write_set_at bytes update.1) >>= λ write_set. done (record { tx = a.0.0; key = b.0.0; version = c.0.0; update = update.0; write_set = write_set.0 }, write_set.1)) x c.2 in
      let f = bind_ok (checked (has_own d.0.1 b.0.0 c.0.0) (write_set_at bytes d.0.1)) (λ write_set. done (record { tx = a.0.0; key = b.0.0; version = c.0.0; update = d.0.0; write_set = write_set.0 }, write_set.1)) x d.2 in
      let a' = checked_ok check_tx (tx_at bytes at) a.0 a.1 in
      let b' = checked_ok check_key (key_at bytes a.0.1) b.0 b.1 in
      let c' = checked_ok check_version (u64_at bytes b.0.1) c.0 c.1 in
      let f' = checked_ok (has_own d.0.1 b.0.0 c.0.0) (write_set_at bytes d.0.1) f.0 f.1 in
      let tx = tx_takes bytes at a.0 h a'.1 in
      let key = key_takes bytes a.0.1 b.0 h b'.1 in
      let version = u64_takes bytes b.0.1 c.0 h c'.1 in
      let update = update_takes bytes c.0.1 d.0 h d.1 in
      let write_set = write_set_takes bytes d.0.1 f.0 h f'.1 in
      let made : Choice × ℕ = (record { tx = a.0.0; key = b.0.0; version = c.0.0; update = d.0.0; write_set = f.0.0 }, f.0.1) in
      subst IsChoiceAt (ok_is made x f.2) (record {
        reads = Reads-then bytes at (tx_bytes a.0.0 ++ key_bytes b.0.0 ++ u64_bytes c.0.0 ++ update_bytes d.0.0) d.0.1 (write_set_bytes f.0.0) f.0.1
            (Reads-then bytes at (tx_bytes a.0.0 ++ key_bytes b.0.0 ++ u64_bytes c.0.0) c.0.1 (update_bytes d.0.0) d.0.1
            (Reads-then bytes at (tx_bytes a.0.0 ++ key_bytes b.0.0) b.0.1 (u64_bytes c.0.0) c.0.1
            (Reads-then bytes at (tx_bytes a.0.0) a.0.1 (key_bytes b.0.0) b.0.1 tx.reads key.reads) version.0) update.reads) write_set.reads;
        fits = record {
          tx = tx.fits;
          key = key.fits;
          version = version.1;
          update = update.fits;
          write_set = write_set.fits;
          own = none_found (is_written f.0.0 b.0.0 c.0.0) (NotCanonical d.0.1) f'.0;
        };
        passes = record { tx = a'.0; key = b'.0; version = c'.0 };
      })

pub choice_again : (bytes : List ℕ) (at : ℕ) (c : Choice) → IsWellFormedChoice c → IsAt bytes at (choice_bytes c)
    → choice_at bytes at ≡ Ok (c, at + length (choice_bytes c))
choice_again bytes at c w h = checked_choice_again free free free bytes at c w (record { tx = refl; key = refl; version = refl }) h

pub choice_takes : (bytes : List ℕ) (at : ℕ) (x : Choice × ℕ) → IsBytes bytes → choice_at bytes at ≡ Ok x → IsFound bytes choice_bytes IsWellFormedChoice at x
choice_takes bytes at x h e =
    let c = checked_choice_takes free free free bytes at h x e in
    record { reads = c.reads; fits = c.fits }

-- ---- equal to the part round it

pub same_passes : {X : Type 0} (eq : X → X → Bool) (part : ℕ) (expected x : X) → eq x expected ≡ true → same eq part expected x ≡ None
same_passes eq part expected x h = rw h refl

pub same_true : {X : Type 0} (eq : X → X → Bool) (part : ℕ) (expected x : X) → same eq part expected x ≡ None → eq x expected ≡ true
same_true eq part expected x h = none_found (eq x expected) (NotCanonical part) h

-- ---- marks

abbrev pub entry_spelled : TxId × Mark → List ℕ
entry_spelled e = entry_bytes e.0 e.1

abbrev pub EntryFits : List ℕ → ℕ → TxId × Mark → Type 0
EntryFits key version e = IsWellFormedEntry key version e.0 e.1

module _ (part : ℕ) (key : List ℕ) (version : ℕ) (bytes : List ℕ) where
  abbrev checks_choice : Option TxId → ℕ → Result (Choice × ℕ) WireFault
  checks_choice last at = choice_checked (fault_unless_after tx_lt part last) (same key_eq at key) (same nat_eq at version) bytes at

  accept_again : (last : Option TxId) (at : ℕ) (tx : TxId) (choice : Choice) → IsWellFormedWithin key version tx choice → is_after tx_lt last tx ≡ true
      → IsAt bytes at (choice_bytes choice) → accept_behind part key version bytes last at ≡ Ok ((tx, Accept choice), at + length (choice_bytes choice))
  accept_again last at tx choice w after h =
      let behind_it : is_after tx_lt last choice.tx ≡ true = subst (λ t. is_after tx_lt last t ≡ true) (sym w.same_tx) after in
      let read = checked_choice_again (fault_unless_after tx_lt part last) (same key_eq at key) (same nat_eq at version) bytes at choice w.choice_itself (record {
        tx = behind_passes tx_lt part last choice.tx behind_it;
        key = same_passes key_eq at key choice.key ((Decides-key choice.key key).1 w.same_key);
        version = same_passes nat_eq at version choice.version ((Decides-eqb choice.version version).1 w.same_version);
      }) h in
      rw read (ap (λ t. done ((t, Accept choice), at + length (choice_bytes choice))) w.same_tx)

  pub entry_behind_again : ReadsAgain bytes tx_lt (entry_behind part key version bytes) (λ e. e.0) entry_spelled (EntryFits key version)
  entry_behind_again last at (tx, Reject) w after h =
      let p = apart bytes at (u8_bytes 0) (tx_bytes tx) h in
      let tag = u8_within_again at 0 1 bytes at 0 (omega arith) (omega arith, omega arith) p.first in
      let read = tx_behind_again part bytes last (at + 1) tx w after p.second in
      rw (tag, read) (ap (λ n. done ((tx, Reject), n)) (end-2 at (u8_bytes 0) (tx_bytes tx)))
  entry_behind_again last at (tx, Accept choice) w after h =
      let p = apart bytes at (u8_bytes 1) (choice_bytes choice) h in
      let tag = u8_within_again at 0 1 bytes at 1 (omega arith) (omega arith, omega arith) p.first in
      let read = accept_again last (at + 1) tx choice w after p.second in
      rw (tag, read) (ap (λ n. done ((tx, Accept choice), n)) (end-2 at (u8_bytes 1) (choice_bytes choice)))

  -- the mark that was read
  abbrev pub EntryTaken : Option TxId → ℕ → (TxId × Mark) × ℕ → Type 0
  EntryTaken last at y = Reads bytes at (entry_spelled y.0) y.1 × EntryFits key version y.0 × (is_after tx_lt last y.0.0 ≡ true)

  reject_takes : IsBytes bytes → (last : Option TxId) (at middle : ℕ) (x : (TxId × Mark) × ℕ) → Reads bytes at (u8_bytes 0) middle
      → reject_behind part bytes last middle ≡ Ok x → EntryTaken last at x
  reject_takes h last at middle x tag e =
      let a = bind_ok (tx_behind part bytes last middle) (λ tx. done ((tx.0, Reject), tx.1)) x e in
      let tx = tx_behind_takes part bytes h last middle a.0 a.1 in
      subst (EntryTaken last at) (ok_is ((a.0.0, Reject), a.0.1) x a.2) (Reads-then bytes at (u8_bytes 0) middle (tx_bytes a.0.0) a.0.1 tag tx.0, tx.1, tx.2)

  accept_takes : IsBytes bytes → (last : Option TxId) (at middle : ℕ) (x : (TxId × Mark) × ℕ) → Reads bytes at (u8_bytes 1) middle
      → accept_behind part key version bytes last middle ≡ Ok x → EntryTaken last at x
  accept_takes h last at middle x tag e =
      let a = bind_ok (checks_choice last middle) (λ choice. done ((choice.0.tx, Accept choice.0), choice.1)) x e in
      let c = checked_choice_takes (fault_unless_after tx_lt part last) (same key_eq middle key) (same nat_eq middle version) bytes middle h a.0 a.1 in
      subst (EntryTaken last at) (ok_is ((a.0.0.tx, Accept a.0.0), a.0.1) x a.2) (
        Reads-then bytes at (u8_bytes 1) middle (choice_bytes a.0.0) a.0.1 tag c.reads,
        record {
          choice_itself = c.fits;
          same_tx = refl;
          same_key = (Decides-key a.0.0.key key).0 (same_true key_eq middle key a.0.0.key c.passes.key);
          same_version = (Decides-eqb a.0.0.version version).0 (same_true nat_eq middle version a.0.0.version c.passes.version);
        },
        behind_true tx_lt part last a.0.0.tx c.passes.tx,
      )

  pub entry_behind_takes : IsBytes bytes → Takes bytes tx_lt (entry_behind part key version bytes) (λ e. e.0) entry_spelled (EntryFits key version)
  entry_behind_takes h last at x e =
      let a = bind_ok (u8_within at 0 1 bytes at) (λ tag. cond (tag.0 == 0) (reject_behind part bytes last tag.1) (accept_behind part key version bytes last tag.1)) x e in
      let tag = u8_within_takes at 0 1 bytes at a.0 h a.1 in
      by_tag (a.0.0 == 0) a.0.0 a.0.1 refl tag.0 tag.2 a.2
    where
      by_tag : (b : Bool) (n middle : ℕ) → (n == 0) ≡ b → Reads bytes at (u8_bytes n) middle → IsInRange 0 1 n
          → cond b (reject_behind part bytes last middle) (accept_behind part key version bytes last middle) ≡ Ok x → EntryTaken last at x
      by_tag true n middle is first range e = reject_takes h last at middle x (subst (λ k. Reads bytes at (u8_bytes k) middle) (eqb-true n 0 is) first) e
      by_tag false n middle is first range e =
          let other = eqb-false n 0 is in
          let one : n ≡ 1 = omega (arith, other, range.1) in
          accept_takes h last at middle x (subst (λ k. Reads bytes at (u8_bytes k) middle) one first) e

-- ---- structures

marks_ascending : (marks : Marks) → are_ascending marks ≡ true → is_ascending_by (λ a b. tx_lt a.0 b.0) marks ≡ true
marks_ascending [] h = refl
marks_ascending (e ∷ []) h = refl
marks_ascending (e ∷ f ∷ es) h =
    let p = and_parts (tx_lt e.0 f.0) (are_ascending (f ∷ es)) h in
    rw (p.0, marks_ascending (f ∷ es) p.1) refl

ascending_marks : (marks : Marks) → is_ascending_by (λ a b. tx_lt a.0 b.0) marks ≡ true → are_ascending marks ≡ true
ascending_marks [] h = refl
ascending_marks (e ∷ []) h = refl
ascending_marks (e ∷ f ∷ es) h =
    let p = and_parts (tx_lt e.0 f.0) (is_ascending_by (λ a b. tx_lt a.0 b.0) (f ∷ es)) h in
    rw (p.0, ascending_marks (f ∷ es) p.1) refl

pub options_again : (bytes : List ℕ) (at : ℕ) (key : List ℕ) (version : ℕ) (options : Marks) → IsWellFormedOptions key version options
    → IsAt bytes at (options_bytes options) → options_at bytes at key version ≡ Ok (options, at + length (options_bytes options))
options_again bytes at key version options w h =
    let p = apart bytes at (u32_bytes (length options)) (flat_map entry_spelled options) h in
    let count = u32_again bytes at (length options) w.count p.first in
    let marks = elements_again bytes tx_lt (entry_behind at key version bytes) (λ e. e.0) entry_spelled (EntryFits key version) (entry_behind_again at key version bytes) None (at + 4)
    options w.each (follows tx_lt (λ e. e.0) options (marks_ascending options w.ascending)) p.second in
    rw (count, marks) (ap (λ n. done (options, n)) (end-2 at (u32_bytes (length options)) (flat_map entry_spelled options)))

pub options_take : (bytes : List ℕ) (at : ℕ) (key : List ℕ) (version : ℕ) (x : Marks × ℕ) → IsBytes bytes → options_at bytes at key version ≡ Ok x
    → IsFound bytes options_bytes (IsWellFormedOptions key version) at x
options_take bytes at key version x h e =
    let a = bind_ok (u32_at bytes at) (λ count. elements_at (entry_behind at key version bytes) (λ e. e.0) count.0 None count.1) x e in
    let count = u32_takes bytes at a.0 h a.1 in
    let marks = elements_take bytes tx_lt (entry_behind at key version bytes) (λ e. e.0) entry_spelled (EntryFits key version) (entry_behind_takes at key version bytes h) a.0.0 None a.0.1 x a.2 in
    let first : Reads bytes at (u32_bytes (length x.0)) a.0.1 = subst (λ n. Reads bytes at (u32_bytes n) a.0.1) (sym marks.many) count.0 in
    record {
      reads = Reads-then bytes at (u32_bytes (length x.0)) a.0.1 (flat_map entry_spelled x.0) x.1 first marks.reads;
      fits = record {
        count = omega (arith, marks.many, count.1);
        each = marks.fits;
        ascending = ascending_marks x.0 (ascends tx_lt (λ e. e.0) None x.0 marks.follows);
      };
    }

-- ---- outcomes

choice_behind_again : (part : ℕ) (tx : TxId) (bytes : List ℕ) → ReadsAgain bytes key_lt (choice_behind part tx bytes) (λ choice. choice.key) choice_bytes (IsWellFormedOf tx)
choice_behind_again part tx bytes last at choice w after h =
    checked_choice_again (same tx_eq at tx) (fault_unless_after key_lt part last) free bytes at choice w.choice_itself (record {
      tx = same_passes tx_eq at tx choice.tx ((Decides-tx choice.tx tx).1 w.same_tx);
      key = behind_passes key_lt part last choice.key after;
      version = refl;
    }) h

choice_behind_takes : (part : ℕ) (tx : TxId) (bytes : List ℕ) → IsBytes bytes → Takes bytes key_lt (choice_behind part tx bytes) (λ choice. choice.key) choice_bytes (IsWellFormedOf tx)
choice_behind_takes part tx bytes h last at x e =
    let c = checked_choice_takes (same tx_eq at tx) (fault_unless_after key_lt part last) free bytes at h x e in (
      c.reads,
      record { choice_itself = c.fits; same_tx = (Decides-tx x.0.tx tx).0 (same_true tx_eq at tx x.0.tx c.passes.tx) },
      behind_true key_lt part last x.0.key c.passes.key,
    )

pub outcome_again : (bytes : List ℕ) (at : ℕ) (tx : TxId) (outcome : Outcome) → IsWellFormedOutcome tx outcome → IsAt bytes at (outcome_bytes outcome)
    → outcome_at bytes at tx ≡ Ok (outcome, at + length (outcome_bytes outcome))
outcome_again bytes at tx Abort w h =
    let tag = u8_within_again at 0 1 bytes at 0 (omega arith) (omega arith, omega arith) h in
    rw tag refl
outcome_again bytes at tx (Commit choices) w h =
    let p = apart bytes at (u8_bytes 1) (counted_bytes choice_bytes choices) h in
    let tag = u8_within_again at 0 1 bytes at 1 (omega arith) (omega arith, omega arith) p.first in
    let list = list_again bytes key_lt (choice_behind (at + 1) tx bytes) (λ choice. choice.key) choice_bytes (IsWellFormedOf tx) (choice_behind_again (at + 1) tx bytes) (at + 1) 1 8 (omega arith)
    (at + 1) choices w.count w.each (follows key_lt (λ choice. choice.key) choices w.ascending) p.second in
    rw (tag, list) (ap (λ n. done (Commit choices, n)) (end-2 at (u8_bytes 1) (counted_bytes choice_bytes choices)))

commit_takes : (bytes : List ℕ) (at middle : ℕ) (tx : TxId) (x : Outcome × ℕ) → IsBytes bytes → Reads bytes at (u8_bytes 1) middle → commit_at bytes middle tx ≡ Ok x
    → IsFound bytes outcome_bytes (IsWellFormedOutcome tx) at x
commit_takes bytes at middle tx x h tag e =
    let a = bind_ok (list_at middle 1 8 (choice_behind middle tx bytes) (λ choice. choice.key) bytes middle) (λ choices. done (Commit choices.0, choices.1)) x e in
    let l = list_takes bytes key_lt (choice_behind middle tx bytes) (λ choice. choice.key) choice_bytes (IsWellFormedOf tx) h (choice_behind_takes middle tx bytes h) middle 1 8 middle a.0 a.1 in
    subst (IsFound bytes outcome_bytes (IsWellFormedOutcome tx) at) (ok_is (Commit a.0.0, a.0.1) x a.2) (record {
      reads = Reads-then bytes at (u8_bytes 1) middle (counted_bytes choice_bytes a.0.0) a.0.1 tag l.reads;
      fits = record { count = l.count; each = l.fits; ascending = ascends key_lt (λ choice. choice.key) None a.0.0 l.follows };
    })

pub outcome_takes : (bytes : List ℕ) (at : ℕ) (tx : TxId) (x : Outcome × ℕ) → IsBytes bytes → outcome_at bytes at tx ≡ Ok x
    → IsFound bytes outcome_bytes (IsWellFormedOutcome tx) at x
outcome_takes bytes at tx x h e =
    let a = bind_ok (u8_within at 0 1 bytes at) (λ tag. cond (tag.0 == 0) (done (Abort, tag.1)) (commit_at bytes tag.1 tx)) x e in
    let tag = u8_within_takes at 0 1 bytes at a.0 h a.1 in
    by_tag (a.0.0 == 0) a.0.0 a.0.1 refl tag.0 tag.2 a.2
  where
    by_tag : (b : Bool) (n middle : ℕ) → (n == 0) ≡ b → Reads bytes at (u8_bytes n) middle → IsInRange 0 1 n
        → cond b (done (Abort, middle)) (commit_at bytes middle tx) ≡ Ok x → IsFound bytes outcome_bytes (IsWellFormedOutcome tx) at x
    by_tag true n middle is first range e =
        subst (IsFound bytes outcome_bytes (IsWellFormedOutcome tx) at) (ok_is (Abort, middle) x e) (record {
          reads = subst (λ k. Reads bytes at (u8_bytes k) middle) (eqb-true n 0 is) first;
          fits = tt;
        })
    by_tag false n middle is first range e =
        let other = eqb-false n 0 is in
        let one : n ≡ 1 = omega (arith, other, range.1) in
        commit_takes bytes at middle tx x h (subst (λ k. Reads bytes at (u8_bytes k) middle) one first) e
