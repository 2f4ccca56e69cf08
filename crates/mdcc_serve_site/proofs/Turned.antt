-- What a centre receives, and its turn.
use Rattle.std.proofs.Common.{◌≡◌, ◌≢◌, ℕ, ◌≤◌, Bool, true, false, List, [], ◌∷◌, Option, Some, None, Result, Ok, Err, refl, sym, ◌∙◌, ap, subst, arith, append-nil, not, IsTrue}
use Rattle.std.specs.Prelude.{is_none, is_some, nat_le, suc, zero, ◌&&◌, ◌+◌}
use Rattle.std.proofs.lemmas.Bool.{le-leb}
use Rattle.mdcc_base.specs.Causes.{Rose}
use Rattle.mdcc_config.specs.declared.config.Config.{Config}
use Rattle.mdcc_link.specs.Link.{LinkCall}
use Rattle.mdcc_option.specs.declared.cluster.Cluster.{Cluster}
use Rattle.mdcc_serve_outbox.specs.Shows.{Records, call_of, calls_of, count_limited, failed_call}
use Rattle.mdcc_def_server_runs.specs.Acts.{Act, but_answer, but_answers, steps_by, steps_in}
use Rattle.mdcc_def_server_runs.specs.Sites.{Doing, Site, after_acts, idle_site}
use Rattle.mdcc_def_server_runs.specs.Turns.{Given, asked_received, is_full, is_held, is_silent, own_received, released, ticked, turn_inputs_taken, turn_of}
use Rattle.mdcc_serve_site.proofs.Going.{acts_then, goes_then, stops_then}
use Rattle.mdcc_serve_site.proofs.Joined.{did_nothing, none_added, none_written, others_none}
use Rattle.mdcc_serve_site.proofs.Owns.{IsWhole, asked_owns, inputs_own, own_owns, owns_then, released_owns, ticked_owns}
use Rattle.mdcc_serve_site.specs.Logs.{MayHaveFacts}
use Rattle.mdcc_serve_site.specs.Moments.{Adds, Did, Outside, Passes}
use Rattle.mdcc_serve_site.specs.Silence.{ticked_if}
use Rattle.mdcc_serve_site.specs.Waiting.{MayWait}
use Rattle.mdcc_serve_site.specs.SiteState.{Finishes, Goes, SiteOutside, HoldsSite, Stops, place, seen}
use Rattle.mdcc_serve_site.specs.declared.fault.ServeFault.{ServeFault}
use Rattle.mdcc_serve_site.specs.declared.site.Site.{Site as TheSite}

module _ {D L O : Type 0} (w : Outside D L O) where
  -- ---- a receive

  module _ (disks : D) (held : TheSite) (link new_link : L) (out : O) (later : w.faults link ≤ w.faults new_link) (sends : w.lost new_link ≡ w.lost link) where
    passes_received : Passes w (seen (place disks held link out)) (seen (place disks held new_link out))
    passes_received = record { told = λ p. refl; faults = λ p. omega arith; sends = omega (sends, arith); receives = later; writes = omega arith }

    received_did : (at : ℕ) (gave : Option (List ℕ)) → Records (call_of (Act.Receive at gave)) (w.calls link) (w.calls new_link)
        → Did w (Act.Receive at gave ∷ []) (seen (place disks held link out)) (seen (place disks held new_link out))
    received_did at gave recorded = record {
      acts = Act.Receive at gave ∷ [];
      are = refl;
      left = record {
        link = subst (λ (cs : List LinkCall). Records cs (w.calls link) (w.calls new_link)) (sym (append-nil (calls_of (Act.Receive at gave ∷ [])) ∙ append-nil (call_of (Act.Receive at gave)))) recorded;
        output = none_written (w.held out);
        failed_sends = λ some. absurd (omega (some, arith));
        steps = none_added held.steps;
        dropped = none_added held.dropped;
        lost_told = none_added held.sender.lost;
      };
      passes = passes_received;
    }

    -- what a receive gave is taken
    pub received_goes : {T : Type 0} (cluster : Cluster) (site : Site) (second : Doing) (c : SiteOutside D L O) (r : Result T ServeFault) (at : ℕ) (gave : Option (List ℕ))
        → Records (call_of (Act.Receive at gave)) (w.calls link) (w.calls new_link)
        → Goes w cluster site second r (place disks held new_link out) c → Goes w cluster site (after_acts (Act.Receive at gave ∷ []) second) r (place disks held link out) c
    received_goes cluster site second c r at gave recorded goes =
        acts_then w cluster site site (Act.Receive at gave ∷ []) second (place disks held link out) (place disks held new_link out) c r refl refl (received_did at gave recorded) (others_none w site.centre disks) goes

    -- it failed
    pub receive_fails : (site : Site) (at : ℕ) → (IsTrue (w.disk disks site.centre).told → MayHaveFacts w.disk w.may_leave disks site.centre site.logged [])
        → Records (failed_call (Act.Receive at None)) (w.calls link) (w.calls new_link) → Rose (w.faults link) (w.faults new_link)
        → Stops w site (after_acts (Act.Receive at None ∷ []) (idle_site site)) ServeFault.Link (place disks held link out) (place disks held new_link out)
    receive_fails site at left recorded rose = record {
      broke = record {
        acts = [];
        rest = Act.Receive at None ∷ [];
        are = refl;
        comes = tt;
        printed_more = 0;
        left = record {
          link = recorded;
          output = none_written (w.held out);
          failed_sends = λ some. absurd (omega (some, arith));
          steps = none_added held.steps;
          dropped = none_added held.dropped;
          lost_told = none_added held.sender.lost;
        };
        passes = passes_received;
        cause = rose;
        full = tt;
        logs = left;
      };
      others = others_none w site.centre disks;
      serials = tt;
      no_boot = tt;
    }

  -- nothing is done
  pub idle_goes : (cluster : Cluster) (site : Site) (disks : D) (held : TheSite) (link : L) (out : O) → HoldsSite w cluster disks held site
      → Finishes w cluster site (idle_site site) (place disks held link out) (place disks held link out)
  idle_goes cluster site disks held link out stands = record { did = did_nothing w (seen (place disks held link out)); others = others_none w site.centre disks; stands = stands }

  -- ---- a turn

  module _ (cluster : Cluster) (config : Config) (site : Site) (whole : IsWhole site) (given : Given) where
    abbrev pub own : Doing
    own = own_received config site given.own

    abbrev pub asked : Doing
    asked = asked_received config own.site given.asked

    abbrev pub ticks : Doing
    ticks = ticked config given asked.site

    abbrev pub inputs : Doing
    inputs = turn_inputs_taken config site given

    abbrev pub releases : Doing
    releases = released config (is_held given inputs) inputs.site

    released_later : inputs.site.sent ≤ releases.site.sent
    released_later = (released_owns config (is_held given inputs) inputs.site).sent

    ticked_later : asked.site.sent ≤ ticks.site.sent
    ticked_later = (ticked_owns config given asked.site).sent

    pub turn_unreceived : {fault : ServeFault} {a b : SiteOutside D L O} → Stops w site own fault a b → Stops w site (turn_of config site given) fault a b
    turn_unreceived one = stops_then w releases released_later (stops_then w ticks ticked_later (stops_then w asked (asked_owns config own.site given.asked).sent one))

    pub turn_unasked : {fault : ServeFault} {a b c : SiteOutside D L O} → Finishes w cluster site own a b → Stops w own.site asked fault b c → Stops w site (turn_of config site given) fault a c
    turn_unasked {fault = fault} one two =
        stops_then w releases released_later (stops_then w ticks ticked_later (goes_then w {T = Unit {0}} _ _ (Err fault) whole (own_owns config site given.own) one two))

    pub inputs_go : {T : Type 0} {a b c : SiteOutside D L O} (d : SiteOutside D L O) (r : Result T ServeFault) → Finishes w cluster site own a b → Finishes w cluster own.site asked b c → Goes w cluster asked.site ticks r c d
        → Goes w cluster site inputs r a d
    inputs_go d r one two three = goes_then w _ _ r whole (owns_then (own_owns config site given.own) (asked_owns config own.site given.asked))
        (goes_then w {T = Unit {0}} _ _ (Ok tt) whole (own_owns config site given.own) one two) three

    pub turn_unticked : {fault : ServeFault} {a b : SiteOutside D L O} → Stops w site inputs fault a b → Stops w site (turn_of config site given) fault a b
    turn_unticked one = stops_then w releases released_later one

    pub turn_goes : {T : Type 0} {a b : SiteOutside D L O} (c : SiteOutside D L O) (r : Result T ServeFault) → Finishes w cluster site inputs a b → Goes w cluster inputs.site releases r b c
        → Goes w cluster site (turn_of config site given) r a c
    turn_goes c r one two = goes_then w _ _ r whole (inputs_own config site given) one two

-- ---- whether time passes

none_came : (here there : Option (List ℕ)) → (not (is_some here) && not (is_some there)) ≡ (is_none here && is_none there)
none_came None None = refl
none_came None (Some x) = refl
none_came (Some x) None = refl
none_came (Some x) (Some y) = refl

pub ticked_by : (config : Config) (given : Given) (site : Site) (came_here came_there silent : Bool) → came_here ≡ is_some given.own → came_there ≡ is_some given.asked → silent ≡ (not came_here && not came_there)
    → ticked_if config silent site ≡ ticked config given site
ticked_by config given site came_here came_there silent is_here is_there is =
    ap (λ (b : Bool). ticked_if config b site) (is ∙ (ap (λ (b : Bool). not b && not came_there) is_here ∙ (ap (λ (b : Bool). not (is_some given.own) && not b) is_there ∙ none_came given.own given.asked)))

-- ---- whether what is pending is held back

same_steps : (acts : List Act) → steps_in (but_answers acts) ≡ steps_in acts
same_steps [] = refl
same_steps (act ∷ acts) = (let one = same_step act in let rest = same_steps acts in omega (one, rest, arith))
  where
    same_step : (x : Act) → steps_by (but_answer x) ≡ steps_by x
    same_step (Act.Bind at address) = refl
    same_step (Act.Receive at gave) = refl
    same_step (Act.Append centre facts) = refl
    same_step (Act.Send from to bytes answer) = refl
    same_step (Act.Print line) = refl
    same_step Act.Stepped = refl
    same_step Act.Dropped = refl
    same_step Act.Unsent = refl

-- where a count rose, there was a step
some_step : (n old new : ℕ) → Adds n old new → count_limited new ≢ count_limited old → 1 ≤ n
some_step zero old new adds rose = absurd (rose (adds ∙ ap count_limited (let e : old + 0 ≡ old = omega arith in e)))
some_step (suc n) old new adds rose = omega arith

held_only : (waits silent : Bool) (steps : ℕ) (full : Bool) → (waits ≡ true → silent ≡ false) → (waits ≡ true → 1 ≤ steps) → (waits ≡ true → full ≡ false)
    → (waits && (not silent && nat_le 1 steps) && not full) ≡ waits
held_only false silent steps full came stepped room = refl
held_only true silent steps full came stepped room = rw (came refl, room refl, le-leb 1 steps (stepped refl)) refl

-- where it is held back, something came, made a step, and left not much pending
pub held_is : {D L O : Type 0} (w : Outside D L O) (cluster : Cluster) (site : Site) (given : Given) (inputs : Doing) (came_here came_there silent made : Bool) (a b : SiteOutside D L O)
    → came_here ≡ is_some given.own → came_there ≡ is_some given.asked → silent ≡ (not came_here && not came_there)
    → (made ≡ true → (silent ≡ false) × (count_limited b.held.steps ≢ count_limited a.held.steps)) → Finishes w cluster site inputs a b
    → (given.waits ≡ true → made ≡ true) → (given.waits ≡ true → is_full inputs.site.pending ≡ false)
    → is_held given inputs ≡ given.waits
held_is w cluster site given inputs came_here came_there silent made a b here there is made_step goes stepped room =
    held_only given.waits (is_silent given) (steps_in inputs.acts) (is_full inputs.site.pending)
    (λ waits. sym silence ∙ (made_step (stepped waits)).0)
    (λ waits. some_step (steps_in inputs.acts) a.held.steps b.held.steps adds (made_step (stepped waits)).1)
    room
  where
    silence : silent ≡ is_silent given
    silence = is ∙ (ap (λ (b : Bool). not b && not came_there) here ∙ (ap (λ (b : Bool). not (is_some given.own) && not b) there ∙ none_came given.own given.asked))

    adds : Adds (steps_in inputs.acts) a.held.steps b.held.steps
    adds = subst (λ (n : ℕ). Adds n a.held.steps b.held.steps) (sym (same_steps goes.did.acts) ∙ ap steps_in goes.did.are) goes.did.left.steps

-- ---- what is known of the link

pub none_waits : (waiting : ℕ → Option Bool) (centre : ℕ) → MayWait waiting centre false
none_waits waiting centre is = absurd (cc)
