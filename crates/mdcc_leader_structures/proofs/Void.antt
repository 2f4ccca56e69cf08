-- Which transactions are void, by what a store answers: how one ended whose outcome is kept, and else whether it is finished.
use Rattle.std.proofs.Common.{◌≡◌, Bool, true, false, List, Option, Some, None, not, refl, ◌&&◌, ◌||◌, if◌then◌else◌, is_some, option_map}
use Rattle.std.specs.List.{list_any}
use Rattle.mdcc_base.specs.declared.identifiers.TxId.{TxId}
use Rattle.mdcc_option.specs.declared.choices.Outcome.{Outcome}
use Rattle.mdcc_def_messages.specs.declared.facts.Fact.{Fact}
use Rattle.mdcc_def_protocol.specs.Facts.{heard_of, is_finished, is_heard, is_idle, is_past, is_void, shows_mark}
use Rattle.mdcc_def_protocol.specs.Marks.{is_abort, is_commit}
use Rattle.mdcc_def_protocol.specs.Stores.{ended_of}

kept : (idle : Bool) (heard : Option Outcome) (commits : Bool) → Some commits ≡ option_map is_commit (if idle then None else heard)
    → not commits ≡ (is_abort heard || idle)
kept true heard commits h = absurd (cc)
kept false None commits h = absurd (cc)
kept false (Some Outcome.Abort) commits h = let is : commits ≡ false = cc in rw is refl
kept false (Some (Outcome.Commit choices)) commits h = let is : commits ≡ true = cc in rw is refl

unkept : (finished idle : Bool) (heard : Option Outcome) → (idle ≡ true → finished ≡ true) → (finished ≡ true → is_some heard ≡ true)
    → None ≡ option_map is_commit (if idle then None else heard) → finished ≡ (is_abort heard || idle)
unkept true true None f k h = refl
unkept true true (Some Outcome.Abort) f k h = refl
unkept true true (Some (Outcome.Commit choices)) f k h = refl
unkept false true heard f k h = absurd (let bad : false ≡ true = f refl in cc)
unkept true false None f k h = absurd (let bad : false ≡ true = k refl in cc)
unkept false false None f k h = refl
unkept finished false (Some outcome) f k h = absurd (cc)

and_first : (a b : Bool) → (a && b) ≡ true → a ≡ true
and_first true b h = refl
and_first false b h = h

module _ (facts : List Fact) (tx : TxId) where
  finished_idle : is_idle facts tx ≡ true → is_finished facts tx ≡ true
  finished_idle idle =
      and_first (is_finished facts tx) (is_past facts (heard_of facts tx)) (and_first (is_finished facts tx && is_past facts (heard_of facts tx)) (not (list_any (shows_mark facts tx) facts)) idle)

  pub void_ended : (commits : Bool) → Some commits ≡ ended_of facts tx → not commits ≡ is_void facts tx
  void_ended commits ended = kept (is_idle facts tx) (heard_of facts tx) commits ended

  pub void_finished : None ≡ ended_of facts tx → (is_finished facts tx ≡ true → is_heard facts tx ≡ true) → is_finished facts tx ≡ is_void facts tx
  void_finished ended heard = unkept (is_finished facts tx) (is_idle facts tx) (heard_of facts tx) finished_idle heard ended
