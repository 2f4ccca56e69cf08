-- What facts say by transaction stands in ascending order.
use Rattle.std.proofs.Common.{◌≡◌, ℕ, ◌+◌, ◌<◌, Bool, true, List, [], ◌∷◌, ◌++◌, Option, None, length, take, reverse, get_or, refl, sym, ap, ◌∙◌, arith, inl, inr}
use Rattle.std.specs.Option.{option_or}
use Rattle.std.proofs.lemmas.Bool.{cases_Bool}
use Rattle.std.proofs.lemmas.Grind.{common_steps}
use Rattle.std.proofs.lemmas.List.{reverse-append}
use Rattle.mdcc_base.specs.Ballot.{is_fast}
use Rattle.mdcc_base.specs.declared.identifiers.Ballot.{Ballot}
use Rattle.mdcc_base.specs.declared.identifiers.TxId.{TxId}
use Rattle.mdcc_base.specs.declared.key.Key.{Key}
use Rattle.mdcc_option.specs.declared.choices.Mark.{Mark}
use Rattle.mdcc_option.specs.declared.items.Update.{Update}
use Rattle.mdcc_struct.specs.Maps.{TxMap, are_ascending, union, value_of}
use Rattle.mdcc_struct.proofs.Walks.{ascending-union, union-none}
use Rattle.mdcc_def_protocol.specs.Facts.{last_ballot, marks_voted, votes_of, write_sets_from, write_sets_of}
use Rattle.mdcc_def_protocol.specs.Plain.{plain_live_and_void, plain_live_from, plain_report_of}
use Rattle.mdcc_def_messages.specs.declared.facts.Fact.{Fact}
use Rattle.mdcc_facts.specs.Walks.{is_next_tx, least_from, next_tx}
use Rattle.mdcc_facts.proofs.Walking.{least_union, value_union}

pub ascending-votes : (facts : List Fact) (key : Key) (version : ℕ) (ballot : Ballot) → are_ascending (votes_of facts key version ballot) ≡ true
ascending-votes [] key version ballot = refl
ascending-votes (f ∷ fs) key version ballot = ascending-union (votes_of fs key version ballot) (marks_voted key version ballot f) (ascending-votes fs key version ballot)

pub ascending-report : (facts : List Fact) (key : Key) (version : ℕ) (below : Ballot) → are_ascending (plain_report_of 0 facts key version below).votes ≡ true
ascending-report facts key version below =
    elim (cases_Bool (is_fast below)) [
      | inl fast ↦ rw fast refl
      | inr classic ↦ rw classic (ascending-votes facts key version (last_ballot facts key version below))
    ]

pub ascending-live : (facts : List Fact) (key : Key) (version : ℕ) → are_ascending (plain_live_and_void facts key version) ≡ true
ascending-live [] key version = refl
ascending-live (f ∷ fs) key version = ascending-union (plain_live_and_void fs key version) (plain_live_from key version f) (ascending-live fs key version)

pub ascending-write_sets : (facts : List Fact) → are_ascending (write_sets_of facts) ≡ true
ascending-write_sets [] = refl
ascending-write_sets (f ∷ fs) = ascending-union (write_sets_of fs) (write_sets_from f) (ascending-write_sets fs)

-- a union of no entries with others is these
pub first_union : {X : Type 0} (m n copy : TxMap X) → m ≡ [] → copy ≡ n → are_ascending n ≡ true → copy ≡ union m n
first_union m n copy none same up = rw none (same ∙ sym (union-none n up))

-- ---- one more fact

pub reverse-next : (facts : List Fact) (i : ℕ) (fact : Fact) → i < length facts → fact ≡ get_or facts i fact → reverse (take (i + 1) facts) ≡ fact ∷ reverse (take i facts)
reverse-next facts i fact within is =
    let more : take (i + 1) facts ≡ take i facts ++ fact ∷ [] = grind (arith, common_steps) in
    ap reverse more ∙ reverse-append (take i facts) (fact ∷ [])

module _ (facts : List Fact) (i : ℕ) (fact : Fact) (within : i < length facts) (is : fact ≡ get_or facts i fact) where
  abbrev older : List Fact
  older = reverse (take i facts)

  next_is : reverse (take (i + 1) facts) ≡ fact ∷ older
  next_is = reverse-next facts i fact within is

  pub votes-next : (keep : TxId → Bool) (last : Option TxId) (key : Key) (version : ℕ) (ballot : Ballot) (least : Option TxId)
      → least ≡ next_tx keep last (votes_of (reverse (take i facts)) key version ballot)
      → least_from (is_next_tx keep last) least (marks_voted key version ballot fact) ≡ next_tx keep last (votes_of (reverse (take (i + 1) facts)) key version ballot)
  votes-next keep last key version ballot least h =
      rw (next_is, h) (least_union (is_next_tx keep last) None (votes_of older key version ballot) (marks_voted key version ballot fact))

  pub live-next : (keep : TxId → Bool) (last : Option TxId) (key : Key) (version : ℕ) (least : Option TxId)
      → least ≡ next_tx keep last (plain_live_and_void (reverse (take i facts)) key version)
      → least_from (is_next_tx keep last) least (plain_live_from key version fact) ≡ next_tx keep last (plain_live_and_void (reverse (take (i + 1) facts)) key version)
  live-next keep last key version least h =
      rw (next_is, h) (least_union (is_next_tx keep last) None (plain_live_and_void older key version) (plain_live_from key version fact))

  pub write_sets-next : (keep : TxId → Bool) (last : Option TxId) (least : Option TxId)
      → least ≡ next_tx keep last (write_sets_of (reverse (take i facts)))
      → least_from (is_next_tx keep last) least (write_sets_from fact) ≡ next_tx keep last (write_sets_of (reverse (take (i + 1) facts)))
  write_sets-next keep last least h =
      rw (next_is, h) (least_union (is_next_tx keep last) None (write_sets_of older) (write_sets_from fact))

  pub write_sets-more : union (write_sets_of (reverse (take i facts))) (write_sets_from fact) ≡ write_sets_of (reverse (take (i + 1) facts))
  write_sets-more = ap write_sets_of (sym next_is)

  pub vote-next : (key : Key) (version : ℕ) (ballot : Ballot) (tx : TxId) (mark : Option Mark)
      → mark ≡ value_of (votes_of (reverse (take i facts)) key version ballot) tx
      → option_or mark (value_of (marks_voted key version ballot fact) tx) ≡ value_of (votes_of (reverse (take (i + 1) facts)) key version ballot) tx
  vote-next key version ballot tx mark h =
      rw (next_is, h) (sym (value_union (votes_of older key version ballot) (marks_voted key version ballot fact) tx))

  pub update-next : (key : Key) (version : ℕ) (tx : TxId) (update : Option Update)
      → update ≡ value_of (plain_live_and_void (reverse (take i facts)) key version) tx
      → option_or update (value_of (plain_live_from key version fact) tx) ≡ value_of (plain_live_and_void (reverse (take (i + 1) facts)) key version) tx
  update-next key version tx update h =
      rw (next_is, h) (sym (value_union (plain_live_and_void older key version) (plain_live_from key version fact) tx))

  pub write_set-next : (tx : TxId) (write_set : Option (List (Key × ℕ)))
      → write_set ≡ value_of (write_sets_of (reverse (take i facts))) tx
      → option_or write_set (value_of (write_sets_from fact) tx) ≡ value_of (write_sets_of (reverse (take (i + 1) facts))) tx
  write_set-next tx write_set h =
      rw (next_is, h) (sym (value_union (write_sets_of older) (write_sets_from fact) tx))
