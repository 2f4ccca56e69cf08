use Rattle.std.proofs.Common.{◌≡◌, ◌∙◌, ap, subst, sym}
use Rattle.mdcc_frag.specs.Joining.{join}
use Rattle.mdcc_serve_inbox.specs.Finds.{IsSoundFound, arrival_of_found}
use Rattle.mdcc_serve_inbox.specs.declared.arrivals.Found.{Found}
use Rattle.mdcc_def_server_runs.specs.Arrivals.{arrival_of}
use Rattle.mdcc_serve_site.proofs.Received.{own_is, own_lacks, own_piece, own_refused, own_whole, message_given}
use Rattle.mdcc_serve_site.proofs.site.Site.take_own.Goals as goal

pub own_message-requires-clause-served : goal.own_message-requires-clause-served
own_message-requires-clause-served c =
    let site = c.requires.served.1 in
    let stands = c.requires.served.2 in
    let is : c.take_datagram.new.joiner ≡ (join c.args.bytes.now site.own).entries = c.in-Ok.ensures.joined ∙ ap (λ es. (join c.args.bytes.now es).entries) stands.own in
    (c.requires.served.0, record site { own = (join c.args.bytes.now site.own).entries }, own_is c.requires.served.0 site c.args.self.now stands c.args.bytes.now c.take_datagram.new.joiner is)

pub own_message-requires-clause-input : goal.own_message-requires-clause-input
own_message-requires-clause-input c =
    let sound = subst (λ (f : Found). IsSoundFound f c.take_datagram.new.into) c.in-Message.is c.in-Ok.ensures.sound in
    message_given c.take_datagram.new.into sound.0 sound.1

pub returns-in_default : goal.returns-in_default
returns-in_default c config site stands =
    own_lacks config.cluster config site c.args.self.now stands c.args.bytes.now c.take_datagram.new.joiner

pub returns-in-Piece : goal.returns-in-Piece
returns-in-Piece c config site stands =
    let is : c.take_datagram.new.joiner ≡ (join c.args.bytes.now site.own).entries = c.in-Ok.ensures.joined ∙ ap (λ es. (join c.args.bytes.now es).entries) stands.own in
    let came = ap (λ (f : Found). arrival_of_found f c.take_datagram.new.into) (sym c.in-Piece.is) ∙ (c.in-Ok.ensures.found ∙ ap (λ es. arrival_of (join c.args.bytes.now es).answer) stands.own) in
    own_piece config.cluster config site c.args.self.now stands c.args.bytes.now c.take_datagram.new.joiner is came

pub returns-in-Refused : goal.returns-in-Refused
returns-in-Refused c config site stands =
    let is : c.take_datagram.new.joiner ≡ (join c.args.bytes.now site.own).entries = c.in-Ok.ensures.joined ∙ ap (λ es. (join c.args.bytes.now es).entries) stands.own in
    let came = ap (λ (f : Found). arrival_of_found f c.take_datagram.new.into) (sym c.in-Refused.is) ∙ (c.in-Ok.ensures.found ∙ ap (λ es. arrival_of (join c.args.bytes.now es).answer) stands.own) in
    own_refused config.cluster config site c.args.self.now stands c.args.bytes.now c.take_datagram.new.joiner c.drop_one.new.self c.drop_one.ensures is came

pub returns : goal.returns
returns c config site stands =
    let is : c.take_datagram.new.joiner ≡ (join c.args.bytes.now site.own).entries = c.in-Ok.ensures.joined ∙ ap (λ es. (join c.args.bytes.now es).entries) stands.own in
    let came = ap (λ (f : Found). arrival_of_found f c.take_datagram.new.into) (sym c.in-Message.is) ∙ (c.in-Ok.ensures.found ∙ ap (λ es. arrival_of (join c.args.bytes.now es).answer) stands.own) in
    own_whole config.cluster config site c.args.self.now stands c.args.bytes.now c.take_datagram.new.joiner c.own_message.result c.own_message.new.self c.take_datagram.new.into came
    (c.own_message.ensures config (record site { own = (join c.args.bytes.now site.own).entries }) (own_is config.cluster site c.args.self.now stands c.args.bytes.now c.take_datagram.new.joiner is))
