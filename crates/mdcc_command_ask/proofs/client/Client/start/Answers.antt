use Rattle.std.proofs.Common.{◌≡◌, ◌≤◌, ◌+◌, ◌∙◌, [], Err, List, Option, Result, ap, arith, length, subst, sym}
use Rattle.std.proofs.lemmas.Result.{err_from_is_err_and}
use Rattle.mdcc_command_ask.proofs.Caused.{causes_later, causes_link, causes_memory}
use Rattle.mdcc_command_ask.proofs.Few.{same_on}
use Rattle.mdcc_command_ask.proofs.ActLists.{binds_receive, none_at_all, sends_receive}
use Rattle.mdcc_command_ask.proofs.Seen.{bound_did, broke_first, broke_later, failed_acts, not_begun, then_does}
use Rattle.mdcc_command_ask.proofs.Turns.{on_ok}
use Rattle.mdcc_command_ask.specs.Acts.{at_link, received}
use Rattle.mdcc_command_ask.specs.Answers.{goes_on}
use Rattle.mdcc_command_ask.specs.Asking.{acts_only, begins_asking, bound_for, client_starts, new_client, reaction_made}
use Rattle.mdcc_command_ask.specs.Effects.{Does, HasCauses}
use Rattle.mdcc_command_ask.specs.Requests.{Reaction}
use Rattle.mdcc_command_ask.specs.declared.client.Client.{Client}
use Rattle.mdcc_command_ask.specs.declared.fault.AskFault.{AskFault}
use Rattle.mdcc_command_ask.specs.declared.order.Order.{Order}
use Rattle.mdcc_config.specs.IsConfig.{address_above}
use Rattle.mdcc_config.specs.declared.config.Config.{Config}
use Rattle.mdcc_option.specs.declared.items.Known.{Known}
use Rattle.mdcc_command_ask.proofs.client.Client.start.Goals as goal

-- the first request is no receive
begins_receive : (config : Config) (order : Order) → received (begins_asking config order new_client).acts ≡ []
begins_receive config order = let reaction = goes_on config.cluster.schema order new_client in sends_receive config order reaction.sends reaction.client

-- ---- the bind failed

pub returns-in_err-bind-clause-does : goal.returns-in_err-bind-clause-does
returns-in_err-bind-clause-does g c =
    let p = err_from_is_err_and c.from_residual.result c.from_residual.ensures.1 in
    let e : c.from_residual.result ≡ Err AskFault.Link = cc (p.1, p.2, c.in_err-bind.ensures.fault) in
    let acts = at_link (bound_for c.args.config.now c.args.order.now) in
    subst (λ (r : Result (Unit {0}) AskFault). Does g.L.Link.calls g.O.Sink.held (client_starts c.args.config.now c.args.order.now) r c.args.link.now c.bind.new.link c.args.out.now c.args.out.now c.args.self.now) (sym e)
    (broke_first g.L.Link.calls g.O.Sink.held (acts_only acts new_client) (begins_asking c.args.config.now c.args.order.now new_client) AskFault.Link c.args.link.now c.bind.new.link c.args.out.now c.args.out.now
    (begins_receive c.args.config.now c.args.order.now)
    (failed_acts g.L.Link.calls g.O.Sink.held acts new_client c.args.link.now c.bind.new.link c.args.out.now c.in_err-bind.ensures.comes (none_at_all acts (binds_receive c.args.config.now c.args.order.now)) c.in_err-bind.ensures.failed))

pub returns-in_err-bind-clause-causes : goal.returns-in_err-bind-clause-causes
returns-in_err-bind-clause-causes g c =
    let p = err_from_is_err_and c.from_residual.result c.from_residual.ensures.1 in
    let e : c.from_residual.result ≡ Err AskFault.Link = cc (p.1, p.2, c.in_err-bind.ensures.fault) in
    subst (λ (r : Result (Unit {0}) AskFault). HasCauses g.L.Link.faults g.O.Sink.faults r c.args.link.now c.bind.new.link c.args.out.now c.args.out.now) (sym e)
    (causes_link g.L.Link.faults g.O.Sink.faults c.args.link.now c.bind.new.link c.args.out.now c.args.out.now c.in_err-bind.ensures.cause.later c.in_err-bind.ensures.cause.failed (omega arith))

-- ---- memory lacked

pub returns-in_err-reply-clause-does : goal.returns-in_err-reply-clause-does
returns-in_err-reply-clause-does g c =
    let p = err_from_is_err_and c.from_residual-in_err-reply.result c.from_residual-in_err-reply.ensures.1 in
    let acts = at_link (bound_for c.args.config.now c.args.order.now) in
    let bound = bound_did g.L.Link.calls g.O.Sink.held (c.args.order.now.centre + 16) (address_above c.args.config.now 32 c.args.order.now.centre) new_client c.args.link.now c.bind.new.link c.args.out.now c.in_ok-bind.ensures.bound in
    rw (p.1, p.2)
    (broke_later g.L.Link.calls g.O.Sink.held (acts_only acts new_client) (begins_asking c.args.config.now c.args.order.now new_client) AskFault.Memory c.args.link.now c.bind.new.link c.bind.new.link c.args.out.now c.args.out.now c.args.out.now new_client bound
    (not_begun g.L.Link.calls g.O.Sink.held (begins_asking c.args.config.now c.args.order.now new_client) c.bind.new.link c.args.out.now (begins_receive c.args.config.now c.args.order.now)))

pub returns-in_err-reply-clause-causes : goal.returns-in_err-reply-clause-causes
returns-in_err-reply-clause-causes g c =
    let p = err_from_is_err_and c.from_residual-in_err-reply.result c.from_residual-in_err-reply.ensures.1 in
    rw (p.1, p.2) (causes_memory g.L.Link.faults g.O.Sink.faults c.args.link.now c.bind.new.link c.args.out.now c.args.out.now c.bind.ensures.cause.later (omega arith))

-- ---- the first request

pub make-requires-clause-few : goal.make-requires-clause-few
make-requires-clause-few g c =
    let same = ap (λ (r : Reaction). r.client.known) c.in_ok-reply.ensures ∙ same_on c.args.config.now.cluster.schema c.args.order.now c.args.self.now ∙ ap (λ (client : Client). client.known) c.requires.new in
    subst (λ (known : List (Option Known)). length known ≤ 16) (sym same) (omega arith)

pub returns-clause-does : goal.returns-clause-does
returns-clause-does g c =
    let acts = at_link (bound_for c.args.config.now c.args.order.now) in
    let bound = bound_did g.L.Link.calls g.O.Sink.held (c.args.order.now.centre + 16) (address_above c.args.config.now 32 c.args.order.now.centre) new_client c.args.link.now c.bind.new.link c.args.out.now c.in_ok-bind.ensures.bound in
    let reply = c.in_ok-reply.ensures ∙ ap (λ (client : Client). goes_on c.args.config.now.cluster.schema c.args.order.now client) c.requires.new in
    then_does g.L.Link.calls g.O.Sink.held (acts_only acts new_client) (begins_asking c.args.config.now c.args.order.now) c.make.result c.args.link.now c.bind.new.link c.make.new.link c.args.out.now c.args.out.now c.make.new.out new_client c.go_on.new.self bound
    (subst (λ (r : Reaction). Does g.L.Link.calls g.O.Sink.held (reaction_made c.args.config.now c.args.order.now r) c.make.result c.bind.new.link c.make.new.link c.args.out.now c.make.new.out c.go_on.new.self) reply c.make.ensures.does)

pub returns-clause-causes : goal.returns-clause-causes
returns-clause-causes g c =
    causes_later g.L.Link.faults g.O.Sink.faults c.make.result c.args.link.now c.bind.new.link c.make.new.link c.args.out.now c.args.out.now c.make.new.out c.bind.ensures.cause.later (omega arith) c.make.ensures.causes

pub returns-clause-none : goal.returns-clause-none
returns-clause-none g c =
    let same = ap (λ (r : Reaction). r.client.known) c.in_ok-reply.ensures ∙ same_on c.args.config.now.cluster.schema c.args.order.now c.args.self.now ∙ ap (λ (client : Client). client.known) c.requires.new in
    on_ok c.make.result (c.go_on.new.self.known ≡ []) same
