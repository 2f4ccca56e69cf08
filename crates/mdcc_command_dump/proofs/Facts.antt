-- A log from which a node boots has facts alone.
use Rattle.std.proofs.Common.{◌≡◌, ◌∷◌, ◌∙◌, [], IsTrue, List, Some, ap, is_some, sym, ℕ, zero, suc}
use Rattle.std.specs.Prelude.{slice_get}
use Rattle.mdcc_node_boot.specs.Loading.{fact_read}
use Rattle.mdcc_node_log.specs.Opening.{AreFacts}

-- the fact at an index
pub fact_at : (payloads : List (List ℕ)) (index : ℕ) (payload : List ℕ) → slice_get payloads index ≡ Some payload → AreFacts payloads → IsTrue (is_some (fact_read payload))
fact_at [] zero payload e h = absurd (cc)
fact_at [] (suc n) payload e h = absurd (cc)
fact_at (first ∷ rest) zero payload e h = let same : first ≡ payload = cc in ap (λ (p : List ℕ). is_some (fact_read p)) (sym same) ∙ h.0
fact_at (first ∷ rest) (suc n) payload e h = fact_at rest n payload e h.1
