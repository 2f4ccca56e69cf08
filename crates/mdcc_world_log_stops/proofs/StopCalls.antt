-- The calls of a checkpoint that stops.
use Rattle.std.proofs.Common.{◌≡◌, ℕ, ◌<◌, ◌≤◌, nat_lt, Bool, cond, true, false, List, [], ◌∷◌, ◌++◌, ◌∙◌, ap, arith}
use Rattle.std.proofs.lemmas.Bool.Decides.{nat_tests}
use Rattle.mdcc_disks.specs.Disks.{DiskCall}
use Rattle.mdcc_disks.specs.Disks.DiskCall.{Write, Cut, Sync}
use Rattle.mdcc_log_file.specs.declared.area.Spare.{Spare}
use Rattle.mdcc_log.specs.Frames.{laid_calls}
use Rattle.mdcc_log_file.specs.Copying.{shut_calls}
use Rattle.mdcc_world_log_stops.specs.Stops.{stopped_calls}

abbrev by_tests : Spare → ℕ → List (List ℕ) → Bool → Bool → Bool → List DiskCall
by_tests spare generation records three four six =
    cond three (shut_calls spare) (cond four (shut_calls spare ++ Sync ∷ Cut 9 ∷ []) (cond six (laid_calls spare generation records) (laid_calls spare generation records ++ Sync ∷ Write 8 (1 ∷ []) ∷ [])))

module _ (call : ℕ) (spare : Spare) (generation : ℕ) (records : List (List ℕ)) where
  pub calls_shut : call < 3 → stopped_calls call spare generation records ≡ shut_calls spare
  calls_shut few =
      let three : nat_lt call 3 ≡ true = grind (arith, nat_tests) in
      ap (λ (b : Bool). by_tests spare generation records b (nat_lt call 4) (nat_lt call 6)) three

  pub calls_cut : 3 ≤ call → call < 4 → stopped_calls call spare generation records ≡ shut_calls spare ++ Sync ∷ Cut 9 ∷ []
  calls_cut some few =
      let three : nat_lt call 3 ≡ false = grind (arith, nat_tests) in
      let four : nat_lt call 4 ≡ true = grind (arith, nat_tests) in
      ap (λ (b : Bool). by_tests spare generation records b (nat_lt call 4) (nat_lt call 6)) three
      ∙ ap (λ (b : Bool). by_tests spare generation records false b (nat_lt call 6)) four

  pub calls_laid : 4 ≤ call → call < 6 → stopped_calls call spare generation records ≡ laid_calls spare generation records
  calls_laid some few =
      let three : nat_lt call 3 ≡ false = grind (arith, nat_tests) in
      let four : nat_lt call 4 ≡ false = grind (arith, nat_tests) in
      let six : nat_lt call 6 ≡ true = grind (arith, nat_tests) in
      ap (λ (b : Bool). by_tests spare generation records b (nat_lt call 4) (nat_lt call 6)) three
      ∙ ap (λ (b : Bool). by_tests spare generation records false b (nat_lt call 6)) four
      ∙ ap (λ (b : Bool). by_tests spare generation records false false b) six

  pub calls_opened : 6 ≤ call → stopped_calls call spare generation records ≡ laid_calls spare generation records ++ Sync ∷ Write 8 (1 ∷ []) ∷ []
  calls_opened some =
      let three : nat_lt call 3 ≡ false = grind (arith, nat_tests) in
      let four : nat_lt call 4 ≡ false = grind (arith, nat_tests) in
      let six : nat_lt call 6 ≡ false = grind (arith, nat_tests) in
      ap (λ (b : Bool). by_tests spare generation records b (nat_lt call 4) (nat_lt call 6)) three
      ∙ ap (λ (b : Bool). by_tests spare generation records false b (nat_lt call 6)) four
      ∙ ap (λ (b : Bool). by_tests spare generation records false false b) six
