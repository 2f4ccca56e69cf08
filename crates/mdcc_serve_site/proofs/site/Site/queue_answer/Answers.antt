use Rattle.std.proofs.Common.{refl}
use Rattle.mdcc_serve_site.proofs.Becoming.{answer_becomes}
use Rattle.mdcc_serve_site.proofs.site.Site.queue_answer.Goals as goal

pub returns : goal.returns
returns c cluster site stands =
    let held = c.args.self.now in
    answer_becomes cluster site held (record held { pending = c.push_message.new.self }) c.args.serial c.args.answer c.answer_to-envelope.result c.answer_to-envelope.ensures refl
    c.in_ok-push_message.ensures stands
