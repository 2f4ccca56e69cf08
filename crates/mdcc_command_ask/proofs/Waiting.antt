-- What a client does over a link that was told how long to wait it does over the link as it was before.
use Rattle.std.proofs.Common.{◌≡◌, ◌++◌, Err, List, Ok, Option, Result, subst, ℕ}
use Rattle.mdcc_command_ask.specs.Acts.{calls_in}
use Rattle.mdcc_command_ask.specs.Asking.{ClientDoing}
use Rattle.mdcc_command_ask.specs.Effects.{Asks, Does, failed_with}
use Rattle.mdcc_command_ask.specs.declared.client.Client.{Client}
use Rattle.mdcc_command_ask.specs.declared.fault.AskFault.{AskFault}
use Rattle.mdcc_link.specs.Link.{LinkCall}
use Rattle.mdcc_serve_outbox.specs.Shows.{Records}

module _ {L O : Type 0} (calls : L → Option (List LinkCall)) (held : O → Option (List ℕ)) (link_old waiting link_new : L) (out_old out_new : O) (same : calls waiting ≡ calls link_old) where
  does_there : (doing : ClientDoing) (result : Result (Unit {0}) AskFault) (client : Client)
      → Does calls held doing result waiting link_new out_old out_new client → Does calls held doing result link_old link_new out_old out_new client
  does_there doing (Ok done) client it = record {
    acts = it.acts;
    are = it.are;
    recorded = subst (λ c. Records (calls_in it.acts) c (calls link_new)) same it.recorded;
    output = it.output;
    client_is = it.client_is;
  }
  does_there doing (Err fault) client it = record {
    acts = it.acts;
    rest = it.rest;
    are = it.are;
    comes = it.comes;
    none_later = it.none_later;
    recorded = subst (λ c. Records (calls_in it.acts ++ failed_with fault it.rest) c (calls link_new)) same it.recorded;
    printed_more = it.printed_more;
    output = it.output;
  }

  pub asks_there : (doing_for : List (Option (List ℕ)) → ClientDoing) (turns : ℕ) (result : Result (Unit {0}) AskFault)
      → Asks calls held doing_for turns result waiting link_new out_old out_new → Asks calls held doing_for turns result link_old link_new out_old out_new
  asks_there doing_for turns result it = record {
    client = it.client;
    turned = record {
      given = it.turned.given;
      within = it.turned.within;
      whole = it.turned.whole;
      receives = it.turned.receives;
      does = does_there (doing_for it.turned.given) result it.client it.turned.does;
    };
  }
