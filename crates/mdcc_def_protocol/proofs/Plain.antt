-- Where a centre has set no floor nothing is finished, forgotten or idle: each question has its plain answer.
use Rattle.std.proofs.Common.{◌≡◌, ◌∙◌, ℕ, suc, zero, Bool, false, true, List, [], ◌∷◌, filter, not, refl, sym, ap, ◌||◌, ◌&&◌}
use Rattle.std.proofs.Math.Path.{fun_ext}
use Rattle.std.proofs.Math.Bool.{or-false}
use Rattle.std.proofs.Math.Dec.{leb-suc-zero}
use Rattle.std.specs.Prelude.{cond, find, length, max, min, nat_le, nat_lt, option_map, slice_get, Option, ◌-◌, ◌^◌}
use Rattle.mdcc_base.specs.Ballot.{fast_ballot, is_fast}
use Rattle.mdcc_base.specs.declared.identifiers.Ballot.{Ballot}
use Rattle.mdcc_base.specs.declared.identifiers.TxId.{TxId}
use Rattle.mdcc_base.specs.declared.key.Key.{Key}
use Rattle.mdcc_option.specs.declared.choices.Choice.{Choice}
use Rattle.mdcc_option.specs.declared.choices.Mark.{Mark}
use Rattle.mdcc_option.specs.declared.choices.Outcome.{Outcome}
use Rattle.mdcc_option.specs.declared.items.Update.{Update}
use Rattle.mdcc_struct.specs.Maps.{TxMap, union}
use Rattle.mdcc_struct.specs.declared.options.Options.{Options}
use Rattle.mdcc_struct.specs.declared.report.Report.{Report}
use Rattle.mdcc_base.specs.Counts.{sum_over}
use Rattle.mdcc_def_messages.specs.Lengths.{cells_needed, cells_used}
use Rattle.mdcc_def_messages.specs.declared.facts.Fact.{Fact}
use Rattle.mdcc_def_protocol.specs.Cells.{cells_held}
use Rattle.mdcc_def_protocol.specs.Fit.{capped, load_of}
use Rattle.mdcc_def_protocol.specs.Facts.{choice_known, entries_of, first_choice_voted, floor_of, has_floor, heard_of, is_finished, is_floor, is_forgotten, is_heard, is_idle, is_past, is_settled, is_void, last_ballot, last_vote, live_and_void, live_from, live_of, outcome_kept, report_of, shown_of, shows_mark, unresolved_of, vote_of, votes_of, write_sets_of}
use Rattle.mdcc_def_protocol.specs.Plain.{plain_ended_of, plain_entries_at, plain_entries_of, plain_is_void, plain_live_and_void, plain_live_from, plain_live_of, plain_load_at, plain_mark_after, plain_mark_below, plain_report_of, plain_unresolved_at, plain_unresolved_of}
use Rattle.mdcc_def_protocol.specs.Stores.{ended_of, entries_at, is_above, load_at, mark_after, mark_below, unresolved_at}

filter_all : {X : Type 0} (xs : List X) → filter (λ x. true) xs ≡ xs
filter_all [] = refl
filter_all (x ∷ xs) = ap (λ z. x ∷ z) (filter_all xs)

-- one fact more that is none
pub no_floor_more : (fact : Fact) (facts : List Fact) → is_floor fact ≡ false → has_floor facts ≡ false → has_floor (fact ∷ facts) ≡ false
no_floor_more fact facts f h = rw f h

floor_none : (facts : List Fact) (centre epoch : ℕ) → has_floor facts ≡ false → floor_of facts centre epoch ≡ 0
floor_none [] centre epoch h = refl
floor_none (Fact.Floor c e n ∷ facts) centre epoch h = absurd (cc)
floor_none (Fact.Booted n ∷ facts) centre epoch h = rw (floor_none facts centre epoch h) refl
floor_none (Fact.Promised k l g b ∷ facts) centre epoch h = rw (floor_none facts centre epoch h) refl
floor_none (Fact.Voted k v b os off ∷ facts) centre epoch h = rw (floor_none facts centre epoch h) refl
floor_none (Fact.Heard tx outcome ∷ facts) centre epoch h = rw (floor_none facts centre epoch h) refl
floor_none (Fact.Adopted k v item adds ∷ facts) centre epoch h = rw (floor_none facts centre epoch h) refl

and_never : (a : Bool) → (a && false) ≡ false
and_never true = refl
and_never false = refl

through_none : (n : ℕ) → (nat_lt 0 n && nat_le n 0) ≡ false
through_none zero = refl
through_none (suc n) = ap (λ b. nat_lt 0 (suc n) && b) (leb-suc-zero n) ∙ and_never (nat_lt 0 (suc n))

module _ (facts : List Fact) (h : has_floor facts ≡ false) where
  pub finished_none : (tx : TxId) → is_finished facts tx ≡ false
  finished_none tx = rw (floor_none facts tx.centre tx.epoch h) (through_none tx.seq)

  pub settled_plain : (tx : TxId) → is_settled facts tx ≡ is_heard facts tx
  settled_plain tx = ap (λ b. is_heard facts tx || b) (finished_none tx) ∙ or-false (is_heard facts tx)

  pub forgotten_none : (key : Key) (version : ℕ) (tx : TxId) → is_forgotten facts key version tx ≡ false
  forgotten_none key version tx = rw (finished_none tx) refl

  gone_none : (key : Key) (version : ℕ) → is_forgotten facts key version ≡ (λ tx. false)
  gone_none key version = fun_ext (forgotten_none key version)

  pub shown_plain : (key : Key) (version : ℕ) (ballot : Ballot) → shown_of facts key version ballot ≡ votes_of facts key version ballot
  shown_plain key version ballot =
      ap (λ (gone : TxId → Bool). filter (λ e. not (gone e.0)) (votes_of facts key version ballot)) (gone_none key version)
      ∙ filter_all (votes_of facts key version ballot)

  pub report_plain : (centre : ℕ) (key : Key) (version : ℕ) (below : Ballot) → report_of centre facts key version below ≡ plain_report_of centre facts key version below
  report_plain centre key version below =
      ap (λ (votes : Options). record { centre = centre; ballot = last_ballot facts key version below; votes = cond (is_fast below) [] votes })
      (shown_plain key version (last_ballot facts key version below))

  pub vote_plain : (key : Key) (version : ℕ) (tx : TxId) → vote_of facts key version tx ≡ last_vote facts key version tx
  vote_plain key version tx = rw (forgotten_none key version tx) refl

  pub choice_plain : (key : Key) (version : ℕ) (tx : TxId) → choice_known facts key version tx ≡ first_choice_voted facts key version tx
  choice_plain key version tx = rw (forgotten_none key version tx) refl

  pub idle_none : (tx : TxId) → is_idle facts tx ≡ false
  idle_none tx = rw (finished_none tx) refl

  pub kept_plain : (tx : TxId) → outcome_kept facts tx ≡ heard_of facts tx
  kept_plain tx = rw (idle_none tx) refl

  pub void_plain : (tx : TxId) → is_void facts tx ≡ plain_is_void facts tx
  void_plain tx = ap (λ b. plain_is_void facts tx || b) (idle_none tx) ∙ or-false (plain_is_void facts tx)

  pub ended_plain : (tx : TxId) → ended_of facts tx ≡ plain_ended_of facts tx
  ended_plain tx = rw (kept_plain tx) refl

  pub live_plain : (key : Key) (version : ℕ) → live_of facts key version ≡ plain_live_of facts key version
  live_plain key version =
      ap (λ (gone : TxId → Bool). filter (λ e. not (is_void facts e.0)) (live_and_void gone facts key version)) (gone_none key version)
      ∙ (ap (λ (void : TxId → Bool). filter (λ e. not (void e.0)) (live_and_void (λ tx. false) facts key version)) (fun_ext void_plain)
      ∙ ap (filter (λ e. not (plain_is_void facts e.0))) (all facts))
    where
      each : (fact : Fact) → live_from (λ tx. false) key version fact ≡ plain_live_from key version fact
      each (Fact.Voted k v b os off) = rw (filter_all os) refl
      each (Fact.Booted n) = refl
      each (Fact.Promised k l g b) = refl
      each (Fact.Heard tx outcome) = refl
      each (Fact.Adopted k v item adds) = refl
      each (Fact.Floor c e n) = refl

      all : (facts : List Fact) → live_and_void (λ tx. false) facts key version ≡ plain_live_and_void facts key version
      all [] = refl
      all (fact ∷ facts) = ap (λ z. union z (live_from (λ tx. false) key version fact)) (all facts) ∙ ap (union (plain_live_and_void facts key version)) (each fact)

  pub load_plain : (key : Key) (version : ℕ) (seen : List TxId) → load_at facts key version seen ≡ plain_load_at facts key version seen
  load_plain key version seen = ap (λ (live : TxMap Update). capped (load_of live seen)) (live_plain key version)

  pub entries_plain : (key : Key) (version : ℕ) → entries_of facts key version ≡ plain_entries_of facts key version
  entries_plain key version = rw (shown_plain key version fast_ballot) refl

  pub entries_at_plain : (key : Key) (version : ℕ) → entries_at facts key version ≡ plain_entries_at facts key version
  entries_at_plain key version = ap (λ (e : ℕ × ℕ). (min e.0 (2 ^ 32 - 1), min e.1 (2 ^ 32 - 1))) (entries_plain key version)

  pub mark_plain : (key : Key) (version : ℕ) (below : Ballot) (place : ℕ) → mark_below facts key version below place ≡ plain_mark_below facts key version below place
  mark_plain key version below place = ap (λ (r : Report). option_map (λ e. (r.ballot, e.0, e.1)) (slice_get r.votes place)) (report_plain 0 key version below)

  pub next_mark_plain : (key : Key) (version : ℕ) (below : Ballot) (last : Option TxId) → mark_after facts key version below last ≡ plain_mark_after facts key version below last
  next_mark_plain key version below last = ap (λ (r : Report). option_map (λ e. (r.ballot, e.0, e.1)) (find (λ e. is_above last e.0) r.votes)) (report_plain 0 key version below)

  pub unresolved_plain : unresolved_of facts ≡ plain_unresolved_of facts
  unresolved_plain = ap (λ (test : TxId → Bool). filter (λ e. not (test e.0)) (write_sets_of facts)) (fun_ext settled_plain)

  pub unresolved_at_plain : (place : ℕ) → unresolved_at facts place ≡ plain_unresolved_at facts place
  unresolved_at_plain place = ap (λ (all : TxMap (List (Key × ℕ))). slice_get all place) unresolved_plain

  -- each fact holds the cells that it needs
  pub cells_plain : cells_held facts ≡ cells_used facts
  cells_plain = ap (λ (kept : Fact → ℕ). sum_over kept facts) (fun_ext (λ fact. rw h refl))
