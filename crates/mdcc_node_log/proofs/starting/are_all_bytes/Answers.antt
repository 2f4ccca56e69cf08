use Rattle.std.proofs.Common.{◌≡◌, ℕ, zero, suc, ◌+◌, ◌≤◌, ◌<◌, List, [], ◌∷◌, arith, get_or, length, subst, take}
use Rattle.std.specs.List.{AllByRecursion}
use Rattle.mdcc_theorem_encoding.specs.Laws.{AreBytes}
use Rattle.mdcc_node_log.proofs.starting.are_all_bytes.Goals as goal

each-more : {X : Type 0} (P : X → Type 0) (xs : List X) (i : ℕ) (x : X) → i < length xs → x ≡ get_or xs i x → AllByRecursion P (take i xs) → P x → AllByRecursion P (take (suc i) xs)
each-more P [] i x within is so here = absurd (omega (within, arith))
each-more P (y ∷ ys) zero x within is so here = (subst P is here, tt)
each-more P (y ∷ ys) (suc i) x within is so here = (so.0, each-more P ys i x (omega (within, arith)) is so.1 here)

each-all : {X : Type 0} (P : X → Type 0) (xs : List X) (n : ℕ) → length xs ≤ n → AllByRecursion P (take n xs) → AllByRecursion P xs
each-all P [] n long so = tt
each-all P (x ∷ xs) zero long so = absurd (omega (long, arith))
each-all P (x ∷ xs) (suc n) long so = (so.0, each-all P xs n (omega (long, arith)) so.1)

pub loop-payload-preserved : goal.loop-payload-preserved
loop-payload-preserved c =
    let next : suc c.loop-payload.payload-index ≡ c.loop-payload.payload-index + 1 = omega arith in
    subst (λ (n : ℕ). AllByRecursion AreBytes (take n c.args.payloads.now)) next
    (each-more AreBytes c.args.payloads.now c.loop-payload.payload-index c.payload-item.result (omega arith) c.payload-item.is c.loop-payload.invariant (subst AreBytes c.as_slice.ensures c.are_bytes.ensures))

pub returns : goal.returns
returns c = each-all AreBytes c.args.payloads.now c.loop-payload.payload-index (omega arith) c.loop-payload.invariant
