use Rattle.std.proofs.Common.{◌≡◌, ◌∙◌, ap, sym}
use Rattle.mdcc_frag.specs.Joining.{join}
use Rattle.mdcc_serve_inbox.specs.Finds.{arrival_of_found}
use Rattle.mdcc_serve_inbox.specs.declared.arrivals.Found.{Found}
use Rattle.mdcc_def_server_runs.specs.Arrivals.{arrival_of}
use Rattle.mdcc_serve_site.proofs.Received.{asked_is, asked_lacks, asked_piece, asked_refused, asked_whole}
use Rattle.mdcc_serve_site.proofs.site.Site.take_asked.Goals as goal

pub asked_message-requires-clause-served : goal.asked_message-requires-clause-served
asked_message-requires-clause-served c =
    let site = c.requires.served.0 in
    let stands = c.requires.served.1 in
    let is : c.take_datagram.new.joiner ≡ (join c.args.bytes.now site.asked).entries = c.in-Ok.ensures.joined ∙ ap (λ es. (join c.args.bytes.now es).entries) stands.asked in
    (record site { asked = (join c.args.bytes.now site.asked).entries }, asked_is c.args.config.now.cluster site c.args.self.now stands c.args.bytes.now c.take_datagram.new.joiner is)

pub returns-in_default : goal.returns-in_default
returns-in_default c site stands =
    let config = c.args.config.now in
    asked_lacks config.cluster config site c.args.self.now stands c.args.bytes.now c.take_datagram.new.joiner

pub returns-in-Piece : goal.returns-in-Piece
returns-in-Piece c site stands =
    let config = c.args.config.now in
    let is : c.take_datagram.new.joiner ≡ (join c.args.bytes.now site.asked).entries = c.in-Ok.ensures.joined ∙ ap (λ es. (join c.args.bytes.now es).entries) stands.asked in
    let came = ap (λ (f : Found). arrival_of_found f c.take_datagram.new.into) (sym c.in-Piece.is) ∙ (c.in-Ok.ensures.found ∙ ap (λ es. arrival_of (join c.args.bytes.now es).answer) stands.asked) in
    asked_piece config.cluster config site c.args.self.now stands c.args.bytes.now c.take_datagram.new.joiner is came

pub returns-in-Refused : goal.returns-in-Refused
returns-in-Refused c site stands =
    let config = c.args.config.now in
    let is : c.take_datagram.new.joiner ≡ (join c.args.bytes.now site.asked).entries = c.in-Ok.ensures.joined ∙ ap (λ es. (join c.args.bytes.now es).entries) stands.asked in
    let came = ap (λ (f : Found). arrival_of_found f c.take_datagram.new.into) (sym c.in-Refused.is) ∙ (c.in-Ok.ensures.found ∙ ap (λ es. arrival_of (join c.args.bytes.now es).answer) stands.asked) in
    asked_refused config.cluster config site c.args.self.now stands c.args.bytes.now c.take_datagram.new.joiner c.drop_one.new.self c.drop_one.ensures is came

pub returns : goal.returns
returns c site stands =
    let config = c.args.config.now in
    let is : c.take_datagram.new.joiner ≡ (join c.args.bytes.now site.asked).entries = c.in-Ok.ensures.joined ∙ ap (λ es. (join c.args.bytes.now es).entries) stands.asked in
    let came = ap (λ (f : Found). arrival_of_found f c.take_datagram.new.into) (sym c.in-Message.is) ∙ (c.in-Ok.ensures.found ∙ ap (λ es. arrival_of (join c.args.bytes.now es).answer) stands.asked) in
    asked_whole config.cluster config site c.args.self.now stands c.args.bytes.now c.take_datagram.new.joiner c.asked_message.result c.asked_message.new.self c.take_datagram.new.into came
    (c.asked_message.ensures (record site { asked = (join c.args.bytes.now site.asked).entries }) (asked_is config.cluster site c.args.self.now stands c.args.bytes.now c.take_datagram.new.joiner is))
