use Rattle.std.proofs.Common.{◌≡◌, ◌<◌, ◌≤◌, ◌∷◌, ◌+◌, ◌∙◌, List, [], ℕ, ap, arith, drop, length, refl, sym}
use Rattle.std.proofs.Math.Nat.{min-eq_left, min-eq_right}
use Rattle.std.proofs.lemmas.Bool.{le-ltb, lt-ltb}
use Rattle.std.proofs.lemmas.List.{drop_all, drop_more}
use Rattle.std.specs.Prelude.{min}
use Rattle.mdcc_world_mail.proofs.Firsts.{among_none, first_within, min_among}
use Rattle.mdcc_world_mail.specs.Waiting.{before_first, waits_among}
use Rattle.mdcc_world_mail.proofs.network.Network.first_waiting.Goals as goal

pub loop-centre-init : goal.loop-centre-init
loop-centre-init c = record {
  kept = refl;
  value = rw c.len-least.ensures.value (min-eq_right (first_within (waits_among c.args.centres.now) c.args.self.now));
}

pub loop-centre-preserved : goal.loop-centre-preserved
loop-centre-preserved c =
    let centres = c.args.centres.now in
    let i = c.loop-centre.centre-index in
    let x = c.centre-item.result in
    let sent = c.loop-centre.self in
    let within : i < length centres = omega (arith, c.loop-centre-test.true, c.loop-centre.auto.centre-index-end) in
    let here : drop i centres ≡ x ∷ drop (i + 1) centres = drop_more centres i x within ∙ ap (λ (y : ℕ). y ∷ drop (i + 1) centres) (sym c.centre-item.is) in
    record {
      kept = c.advance.ensures.kept ∙ c.loop-centre.invariant.kept;
      value = rw (c.advance.ensures.kept, c.min-least.ensures, c.advance.ensures.value)
          (min_among c.loop-centre.least x (drop (i + 1) centres) sent
          ∙ ap (λ (left : List ℕ). min c.loop-centre.least (before_first (waits_among left) sent)) (sym here)
          ∙ c.loop-centre.invariant.value);
    }

pub returns-then-least-len-clause-number : goal.returns-then-least-len-clause-number
returns-then-least-len-clause-number c =
    let centres = c.args.centres.now in
    let i = c.loop-centre.centre-index in
    let least = c.loop-centre.least in
    let sent = c.loop-centre.self in
    let none : drop i centres ≡ [] = drop_all i centres (omega (arith, c.loop-centre-test.false, c.loop-centre.auto.centre-index-end)) in
    let whole : min least (length sent) ≡ before_first (waits_among centres) sent =
    ap (λ (n : ℕ). min least n) (sym (among_none sent))
    ∙ ap (λ (left : List ℕ). min least (before_first (waits_among left) sent)) (sym none) ∙ c.loop-centre.invariant.value in
    let within : least < length sent = omega (arith, c.if-least-len.true, c.len.ensures.value) in
    let is : before_first (waits_among centres) sent ≡ least = sym whole ∙ min-eq_left (omega (within, arith)) in
    rw (← c.loop-centre.invariant.kept, is, lt-ltb least (length sent) within) refl

pub returns-else-least-len-clause-number : goal.returns-else-least-len-clause-number
returns-else-least-len-clause-number c =
    let centres = c.args.centres.now in
    let i = c.loop-centre.centre-index in
    let least = c.loop-centre.least in
    let sent = c.loop-centre.self in
    let none : drop i centres ≡ [] = drop_all i centres (omega (arith, c.loop-centre-test.false, c.loop-centre.auto.centre-index-end)) in
    let whole : min least (length sent) ≡ before_first (waits_among centres) sent =
    ap (λ (n : ℕ). min least n) (sym (among_none sent))
    ∙ ap (λ (left : List ℕ). min least (before_first (waits_among left) sent)) (sym none) ∙ c.loop-centre.invariant.value in
    let past : length sent ≤ least = omega (arith, c.if-least-len.false, c.len.ensures.value) in
    let is : before_first (waits_among centres) sent ≡ length sent = sym whole ∙ min-eq_right past in
    rw (← c.loop-centre.invariant.kept, is, le-ltb (length sent) (length sent) (omega arith)) refl
