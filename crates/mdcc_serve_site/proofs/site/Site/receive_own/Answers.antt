use Rattle.std.proofs.Common.{◌≡◌, ◌∙◌, ℕ, Bool, None, Some, Result, Err, inl, inr, refl, subst, sym, take}
use Rattle.std.proofs.lemmas.Result.{err_from_is_err_and}
use Rattle.mdcc_serve_outbox.specs.Shows.{Records, call_of, failed_call}
use Rattle.mdcc_def_server_runs.specs.Acts.{Act}
use Rattle.mdcc_def_server_runs.specs.Turns.{own_taken}
use Rattle.mdcc_serve_site.proofs.Becoming.{idle_becomes, same_itself}
use Rattle.mdcc_serve_site.specs.SiteState.{Takes}
use Rattle.mdcc_serve_site.specs.declared.fault.ServeFault.{ServeFault}
use Rattle.mdcc_serve_site.proofs.site.Site.receive_own.Goals as goal

pub returns-in-Err : goal.returns-in-Err
returns-in-Err g c config site stands =
    let at : c.number.result ≡ site.centre = c.number.ensures.value ∙ stands.centre in
    record {
      later = c.receive.ensures.cause.later;
      sends = c.receive.ensures.sends;
      does = inr (record {
        fault = refl;
        recorded = subst (λ (n : ℕ). Records (failed_call (Act.Receive n None)) (g.L.Link.calls c.args.link.now) (g.L.Link.calls c.receive.new.link)) at c.in-Err.ensures.failed;
        cause = c.in-Err.ensures.cause.failed;
        same = refl;
      });
    }

pub returns-in-Ok-None : goal.returns-in-Ok-None
returns-in-Ok-None g c config site stands =
    let at : c.number.result ≡ site.centre = c.number.ensures.value ∙ stands.centre in
    record {
      later = c.receive.ensures.cause.later;
      sends = c.receive.ensures.sends;
      does = inl (record {
        gave = None;
        recorded = subst (λ (n : ℕ). Records (call_of (Act.Receive n None)) (g.L.Link.calls c.args.link.now) (g.L.Link.calls c.receive.new.link)) at (rw c.in-Ok-None.field-0-is at c.in-Ok-None.ensures.received);
        came = refl;
        becomes = idle_becomes config.cluster site site c.args.self.now c.args.self.now refl refl (same_itself c.args.self.now) stands;
      });
    }

pub returns-in_err-take_own-in-Ok-Some : goal.returns-in_err-take_own-in-Ok-Some
returns-in_err-take_own-in-Ok-Some g c config site stands =
    let at : c.number.result ≡ site.centre = c.number.ensures.value ∙ stands.centre in
    let bytes = take c.in-Ok-Some.count c.receive.new.datagram in
    let p = err_from_is_err_and c.from_residual.result c.from_residual.ensures.1 in
    let e : c.from_residual.result ≡ Err c.in_err-take_own-in-Ok-Some.field-0.0 = cc (p.1, p.2) in
    record {
      later = c.receive.ensures.cause.later;
      sends = c.receive.ensures.sends;
      does = inl (subst (λ (r : Result Bool ServeFault). Takes g.L.Link.calls g.L.Link.lost g.L.Link.faults config.cluster site site.centre (own_taken config site) r c.args.link.now c.receive.new.link c.args.self.now c.take_own.new.self) (sym e) (record {
        gave = Some bytes;
        recorded = subst (λ (n : ℕ). Records (call_of (Act.Receive n (Some bytes))) (g.L.Link.calls c.args.link.now) (g.L.Link.calls c.receive.new.link)) at (rw c.in-Ok-Some.field-0-is at c.in-Ok-Some.ensures.received);
        came = tt;
        becomes = c.in_err-take_own-in-Ok-Some.ensures config site stands;
      }));
    }

pub returns-in_ok-take_own-in-Ok-Some : goal.returns-in_ok-take_own-in-Ok-Some
returns-in_ok-take_own-in-Ok-Some g c config site stands =
    let at : c.number.result ≡ site.centre = c.number.ensures.value ∙ stands.centre in
    let bytes = take c.in-Ok-Some.count c.receive.new.datagram in
    record {
      later = c.receive.ensures.cause.later;
      sends = c.receive.ensures.sends;
      does = inl (record {
        gave = Some bytes;
        recorded = subst (λ (n : ℕ). Records (call_of (Act.Receive n (Some bytes))) (g.L.Link.calls c.args.link.now) (g.L.Link.calls c.receive.new.link)) at (rw c.in-Ok-Some.field-0-is at c.in-Ok-Some.ensures.received);
        came = refl;
        becomes = c.in_ok-take_own-in-Ok-Some.ensures config site stands;
      });
    }
