use Rattle.std.proofs.Common.{◌≡◌, [], Option, Some, None, Ok, false, true, is_some, refl, sym, ap, ◌∙◌}
use Rattle.mdcc_leader.proofs.Structured.{IfOk-map, OnOk-map, judged-some, led_on-put, none-from}
use Rattle.mdcc_leader.proofs.lead.Lead.extend.Goals as goal
use Rattle.mdcc_leader.specs.Extending.{judged}
use Rattle.mdcc_def_protocol.specs.Structures.{mark_of_choice}
use Rattle.mdcc_def_protocol.specs.Volatile.{Lead, structure_at}
use Rattle.mdcc_struct.specs.Maps.{value_of}

pub send_with-requires : goal.send_with-requires
send_with-requires g c =
    rw (← c.structure_or-last.ensures) (none-from (value_of c.structure_or-last.result.now c.args.claim.now.tx) (sym c.has_mark.ensures ∙ c.if-has_mark.false))

pub returns-in-Some-clause-answer : goal.returns-in-Some-clause-answer
returns-in-Some-clause-answer g c facts leader holds =
    let new : is_some (value_of (structure_at c.args.self.now.structures c.args.claim.now.version) c.args.claim.now.tx) ≡ false =
    rw (← c.structure_or-last.ensures) (sym c.has_mark.ensures ∙ c.if-has_mark.false) in
    let key : c.self.inside.key ≡ c.args.self.now.key = ap (λ (l : Lead). l.key) c.self.view_is in
    let mark = mark_of_choice c.args.cluster.now facts c.args.self.now.key c.args.claim.now.version c.structure_or-last.result.now c.args.claim.now.choice in
    let given : Some c.in-Some.mark ≡ judged facts c.args.claim.now.tx c.structure_or-last.result.now mark = rw (← key) (sym c.in-Some.is ∙ c.judge.ensures facts holds) in
    let picked = judged-some facts c.args.claim.now.tx c.structure_or-last.result.now mark c.in-Some.mark given in
    let put = led_on-put c.args.cluster.now facts leader c.args.self.now c.args.claim.now c.in-Some.mark new (rw (← c.structure_or-last.ensures) picked.0) (rw (← c.structure_or-last.ensures) picked.1) in
    IfOk-map _ _ c.send_with.result (λ answer is. is ∙ sym put.0) c.send_with.ensures.answer

pub returns-in-Some-clause-ok : goal.returns-in-Some-clause-ok
returns-in-Some-clause-ok g c facts holds =
    let new : is_some (value_of (structure_at c.args.self.now.structures c.args.claim.now.version) c.args.claim.now.tx) ≡ false =
    rw (← c.structure_or-last.ensures) (sym c.has_mark.ensures ∙ c.if-has_mark.false) in
    let key : c.self.inside.key ≡ c.args.self.now.key = ap (λ (l : Lead). l.key) c.self.view_is in
    let mark = mark_of_choice c.args.cluster.now facts c.args.self.now.key c.args.claim.now.version c.structure_or-last.result.now c.args.claim.now.choice in
    let given : Some c.in-Some.mark ≡ judged facts c.args.claim.now.tx c.structure_or-last.result.now mark = rw (← key) (sym c.in-Some.is ∙ c.judge.ensures facts holds) in
    let picked = judged-some facts c.args.claim.now.tx c.structure_or-last.result.now mark c.in-Some.mark given in
    let put = led_on-put c.args.cluster.now facts (record { leads = []; refused_rounds = []; last_rounds = [] }) c.args.self.now c.args.claim.now c.in-Some.mark new (rw (← c.structure_or-last.ensures) picked.0) (rw (← c.structure_or-last.ensures) picked.1) in
    OnOk-map c.send_with.result (λ is. is ∙ sym put.1) c.send_with.ensures.ok
