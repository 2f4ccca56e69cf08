-- A centre crashes, or starts again.
use Rattle.std.proofs.Common.{◌≡◌, ℕ, ◌+◌, ◌-◌, ◌≢◌, ◌≤◌, ◌<◌, ◌^◌, ◌==◌, ◌&&◌, Bool, true, false, List, [], ◌∷◌, ◌++◌, refl, sym, ap, ◌∙◌, subst, inl, inr, None, Option, Some, Ok, Err, arith, length, get_or, nat_lt}
use Rattle.std.specs.Prelude.{set}
use Rattle.std.proofs.lemmas.Bool.{cases_Bool, eqb-true, eq-eqb, le-ltb, lt-ltb}
use Rattle.std.proofs.lemmas.List.{get_or-set_other, get_or-set_same, length-set}
use Rattle.mdcc_base.specs.declared.outside.Image.{Image}
use Rattle.mdcc_node_log.specs.Nodes.{CentreStore, IsNodeOf}
use Rattle.mdcc_world_logs.proofs.Refusals.{log-payloads}
use Rattle.mdcc_world_logs.specs.Represents.{LogsRepresent, with_fact_at, with_up}
use Rattle.mdcc_world_logs.specs.Starting.{cells_with_boot}
use Rattle.mdcc_world_logs.specs.Tails.{HasTail, tail_at}
use Rattle.mdcc_world_logs.specs.declared.logs.Logs.{Logs}
use Rattle.mdcc_node.specs.declared.node.Node.{Node}
use Rattle.mdcc_def_protocol.specs.Belongs.{is_centre}
use Rattle.mdcc_def_protocol.specs.Facts.{epoch_of}
use Rattle.mdcc_def_ledger.specs.Ledger.{Added, facts_of}
use Rattle.mdcc_def_messages.specs.Lengths.{log_length}
use Rattle.mdcc_def_protocol.specs.Volatile.{Volatile, initial_volatile}
use Rattle.mdcc_def_simulation.specs.State.{SimulatedSite, World, booted, centre_at, counted_event, down, is_up_at}
use Rattle.mdcc_def_simulation.specs.Checkpoints.{tail_after_append}
use Rattle.mdcc_def_simulation.specs.Centres.{crash_happened, restart_happened, stop_happened}
use Rattle.mdcc_def_simulation.specs.Limits.{most_log}
use Rattle.mdcc_def_messages.specs.declared.facts.Fact.{Fact}
use Rattle.mdcc_def_language.specs.declared.lines.Line.{Line}
use Rattle.mdcc_def_language.specs.declared.world.EventFault.{EventFault}
use Rattle.mdcc_def_language.specs.declared.world.LimitName.{LimitName}
use Rattle.mdcc_node_log.specs.Logged.{AreLogged}
use Rattle.mdcc_world.proofs.Counted.{up-centre}
use Rattle.mdcc_world.proofs.NodesStay.{set-get}
use Rattle.mdcc_world.proofs.Took.{booted-counted, logs-same}
use Rattle.mdcc_world.specs.Disks.{DisksShow}
use Rattle.mdcc_world.specs.Nodes.{NodesRepresent, StopsRepresent, TailsRepresent, UpsRepresent}
use Rattle.mdcc_world.specs.Represents.{HasHappened, Happens, IsLike}
use Rattle.mdcc_world.specs.declared.world.World.{World as TheWorld}
use Rattle.mdcc_theorem_worlds.proofs.Staying.{restarted-stays}
use Rattle.mdcc_theorem_worlds.proofs.Stays.{counted-stays, crash-stays, each-put, site-other, site-same, some-centre, stop-stays}
use Rattle.mdcc_theorem_worlds.specs.EventEffects.{restart_epoch, restarted}
use Rattle.mdcc_theorem_worlds.specs.WorldInvariant.{IsWorld}

-- ---- sites

module _ (w : World) (a : ℕ) (site : SimulatedSite) (world : IsWorld w) (centre : is_centre w.cluster a ≡ true) where
  sites : List SimulatedSite
  sites = set w.centres (a - 1) site

  some : 1 ≤ a
  some = (some-centre w.cluster a centre).0

  pub site-at : get_or (set w.centres (a - 1) site) (a - 1) booted ≡ site
  site-at = site-same w.centres a site some (rw world.sites (some-centre w.cluster a centre).1)

  pub site-elsewhere : (b : ℕ) → 1 ≤ b → (a == b) ≡ false → get_or (set w.centres (a - 1) site) (b - 1) booted ≡ centre_at w b
  site-elsewhere b positive other = site-other w.centres a b site some positive other

  -- which centres are up
  pub ups-set : (ups : List Bool) (up : Bool) → length ups ≡ 9 → a ≤ 9 → site.is_up ≡ up → UpsRepresent ups w
      → (b : ℕ) → 1 ≤ b → b ≤ 9 → get_or (set ups (a - 1) up) (b - 1) false ≡ (is_centre w.cluster b && (get_or (set w.centres (a - 1) site) (b - 1) booted).is_up)
  ups-set ups up many nine is stand b positive few = elim (cases_Bool (a == b)) [
    | inl e ↦
        let same : a ≡ b = eqb-true a b e in
        let here : get_or (set ups (a - 1) up) (a - 1) false ≡ up = get_or-set_same ups (a - 1) up false (omega (some, many, nine, arith)) in
        subst (λ (n : ℕ). get_or (set ups (a - 1) up) (n - 1) false ≡ (is_centre w.cluster n && (get_or (set w.centres (a - 1) site) (n - 1) booted).is_up)) same
        (here ∙ rw (site-at, centre) (sym is))
    | inr e ↦
        let there : get_or (set ups (a - 1) up) (b - 1) false ≡ get_or ups (b - 1) false = get_or-set_other ups (a - 1) (b - 1) up false (λ f.
        let same : a ≡ b = omega (f, some, positive, arith) in
        let clash : true ≡ false = sym (eq-eqb a b same) ∙ e in
        absurd (cc)) in
        there ∙ stand b positive few ∙ ap (λ (s : SimulatedSite). is_centre w.cluster b && s.is_up) (sym (site-elsewhere b positive e))
  ]

  -- where a stop is armed
  pub stops-set : (stops : List (Option (ℕ × Image))) (stop : Option (ℕ × Image)) → a ≤ length stops → site.stop ≡ stop → StopsRepresent stops w
      → (b : ℕ) → is_centre w.cluster b ≡ true → get_or (set stops (a - 1) stop) (b - 1) None ≡ (get_or (set w.centres (a - 1) site) (b - 1) booted).stop
  stops-set stops stop many is stand b here = elim (cases_Bool (a == b)) [
    | inl e ↦
        let same : a ≡ b = eqb-true a b e in
        let at : get_or (set stops (a - 1) stop) (a - 1) None ≡ stop = get_or-set_same stops (a - 1) stop None (omega (some, many, arith)) in
        subst (λ (n : ℕ). get_or (set stops (a - 1) stop) (n - 1) None ≡ (get_or (set w.centres (a - 1) site) (n - 1) booted).stop) same
        (at ∙ sym is ∙ ap (λ (s : SimulatedSite). s.stop) (sym site-at))
    | inr e ↦
        let positive = (some-centre w.cluster b here).0 in
        let there : get_or (set stops (a - 1) stop) (b - 1) None ≡ get_or stops (b - 1) None = get_or-set_other stops (a - 1) (b - 1) stop None (λ f.
        let same : a ≡ b = omega (f, some, positive, arith) in
        let clash : true ≡ false = sym (eq-eqb a b same) ∙ e in
        absurd (cc)) in
        there ∙ stand b here ∙ ap (λ (s : SimulatedSite). s.stop) (sym (site-elsewhere b positive e))
  ]

  -- how long the tails are
  pub tails-set : (old new : Logs) (tail : ℕ) → HasTail old new a tail → tail ≡ site.tail → TailsRepresent old w
      → (b : ℕ) → is_centre w.cluster b ≡ true → tail_at new b ≡ (get_or (set w.centres (a - 1) site) (b - 1) booted).tail
  tails-set old new tail has is stand b here = elim (cases_Bool (a == b)) [
    | inl e ↦
        let same : a ≡ b = eqb-true a b e in
        subst (λ (n : ℕ). tail_at new n ≡ (get_or (set w.centres (a - 1) site) (n - 1) booted).tail) same (has.here ∙ is ∙ ap (λ (s : SimulatedSite). s.tail) (sym site-at))
    | inr e ↦
        let both = some-centre w.cluster b here in
        let nine = world.cluster_itself.quorums.nine_centres in
        let low : b ≤ 9 = omega (both.1, nine, arith) in
        let apart : b ≢ a = λ f. (let clash : true ≡ false = sym (eq-eqb a b (sym f)) ∙ e in absurd (cc)) in
        has.others b low apart ∙ stand b here ∙ ap (λ (s : SimulatedSite). s.tail) (sym (site-elsewhere b both.0 e))
  ]

  -- which logs are open
  pub open-set : (up : Bool) → site.is_up ≡ up → (b : ℕ) → 1 ≤ b
      → with_up (is_up_at w) a up b ≡ (is_centre w.cluster b && (get_or (set w.centres (a - 1) site) (b - 1) booted).is_up)
  open-set up is b positive = elim (cases_Bool (a == b)) [
    | inl e ↦
        let same : a ≡ b = eqb-true a b e in
        rw e (subst (λ (n : ℕ). up ≡ (is_centre w.cluster n && (get_or (set w.centres (a - 1) site) (n - 1) booted).is_up)) same (rw (site-at, centre) (sym is)))
    | inr e ↦ rw e (ap (λ (s : SimulatedSite). is_centre w.cluster b && s.is_up) (sym (site-elsewhere b positive e)))
  ]

-- the logs are the same
tails-kept : (logs : Logs) (a : ℕ) → HasTail logs logs a (tail_at logs a)
tails-kept logs a = record { here = refl; others = λ b low other. refl }

other-place : (a j : ℕ) → 1 ≤ a → ((a - 1) == j) ≡ false → (a == (j + 1)) ≡ false
other-place a j some other = elim (cases_Bool (a == (j + 1))) [
  | inl e ↦
      let same = eqb-true a (j + 1) e in
      let place : a - 1 ≡ j = omega (same, some, arith) in
      let clash : true ≡ false = sym (eq-eqb (a - 1) j place) ∙ other in
      absurd (cc)
  | inr e ↦ e
]

-- ---- a crash

crashed-nodes : (nodes : List (Node CentreStore)) (w : World) (a : ℕ) → IsWorld w → is_centre w.cluster a ≡ true → NodesRepresent nodes w
    → NodesRepresent nodes (crash_happened w a).world
crashed-nodes nodes w a world centre stand = record {
  as_many = stand.as_many;
  each = λ j node at up. elim (cases_Bool (a == (j + 1))) [
    | inl e ↦
        let same : a ≡ j + 1 = eqb-true a (j + 1) e in
        let here : get_or (set w.centres (a - 1) site) (j + 1 - 1) booted ≡ site = subst (λ (n : ℕ). get_or (set w.centres (a - 1) site) (n - 1) booted ≡ site) same (site-at w a site world centre) in
        let bad : false ≡ true = ap (λ (s : SimulatedSite). s.is_up) (sym here) ∙ up in
        absurd (cc)
    | inr e ↦
        let there = site-elsewhere w a site world centre (j + 1) (omega arith) e in
        rw there (stand.each j node at (ap (λ (s : SimulatedSite). s.is_up) (sym there) ∙ up))
  ];
}
  where
    site : SimulatedSite
    site = down (centre_at w a).tail

pub has-crashed : (world new : TheWorld) (w : World) (a : ℕ) (before lines : List Line) → IsLike world w → is_up_at w a ≡ true
    → length world.up ≡ 9 → a ≤ 9
    → new ≡ record world { up = set world.up (a - 1) false; stops = set world.stops (a - 1) None; logs = new.logs; events = world.events + 1 }
    → length world.stops ≡ 9
    → LogsRepresent new.logs w.cluster.quorums.centres (with_up (is_up_at w) a false) (facts_of w.ledger)
    → HasTail world.logs new.logs a (tail_at world.logs a)
    → lines ≡ before ++ Line.Crash a ∷ []
    → HasHappened new before lines (crash_happened (counted_event w) a)
has-crashed world new w a before lines like up many nine rest armed logs tail reported =
    let centre = up-centre w a up in
    let site = down (centre_at w a).tail in
    let counted = counted-stays w like.records.itself in
    let few = like.records.few_reads in
    let nodes : NodesRepresent world.nodes.items (counted_event w) = record { as_many = like.nodes.as_many; each = like.nodes.each } in
    record {
      like = record {
        records = record {
          itself = crash-stays (counted_event w) a counted centre;
          cluster = ap (λ (x : TheWorld). x.cluster) rest ∙ like.records.cluster;
          network = ap (λ (x : TheWorld). x.network) rest ∙ like.records.network;
          bytes = ap (λ (x : TheWorld). x.bytes) rest ∙ like.records.bytes;
          reads = ap (λ (x : TheWorld). x.reads) rest ∙ like.records.reads;
          few_reads = omega (few, arith);
          events = ap (λ (x : TheWorld). x.events) rest ∙ ap (λ (n : ℕ). n + 1) like.records.events;
          ups = rw rest (ups-set (counted_event w) a site counted centre world.up false many nine refl like.records.ups);
          stops = rw rest (stops-set (counted_event w) a site counted centre world.stops None (omega (armed, nine, arith)) refl like.records.stops);
        };
        decisions = rw rest like.decisions;
        nodes = rw rest (crashed-nodes world.nodes.items (counted_event w) a counted centre nodes);
        logs = logs-same new.logs w.cluster.quorums.centres (with_up (is_up_at w) a false) (is_up_at (crash_happened (counted_event w) a).world) (facts_of w.ledger) (facts_of w.ledger)
            (λ b some few. open-set (counted_event w) a site counted centre false refl b some) (λ b some few. refl) logs;
        tails = tails-set (counted_event w) a site counted centre world.logs new.logs (tail_at world.logs a) tail (like.tails a centre) like.tails;
      };
      lines = reported;
    }

-- ---- a stop is armed

armed-nodes : (nodes : List (Node CentreStore)) (w : World) (a call : ℕ) (image : Image) → IsWorld w → is_centre w.cluster a ≡ true → NodesRepresent nodes w
    → NodesRepresent nodes (stop_happened w a call image).world
armed-nodes nodes w a call image world centre stand = record {
  as_many = stand.as_many;
  each = λ j node at up.
      let same = each-put w a (record (centre_at w a) { stop = Some (call, image) }) None
      (λ n facts s. (s.is_up ≡ (centre_at w n).is_up) × (s.volatile ≡ (centre_at w n).volatile)) world centre (λ n. (refl, refl)) (refl, refl) (j + 1) (omega arith) in
      subst (λ (volatile : Volatile). IsNodeOf node w.cluster (j + 1) (facts_of w.ledger (j + 1)) volatile) (sym same.1) (stand.each j node at (sym same.0 ∙ up));
}

armed-up : (w : World) (a call : ℕ) (image : Image) → IsWorld w → is_centre w.cluster a ≡ true → (b : ℕ) → 1 ≤ b → is_up_at w b ≡ is_up_at (stop_happened w a call image).world b
armed-up w a call image world centre b some =
    let same = each-put w a (record (centre_at w a) { stop = Some (call, image) }) None (λ n facts s. s.is_up ≡ (centre_at w n).is_up) world centre (λ n. refl) refl b some in
    ap (λ (up : Bool). is_centre w.cluster b && up) (sym same)

pub has-armed : (world new : TheWorld) (w : World) (a call : ℕ) (image : Image) (before lines : List Line) → IsLike world w → is_up_at w a ≡ true
    → length world.stops ≡ 9 → a ≤ 9
    → new ≡ record world { stops = set world.stops (a - 1) (Some (call, image)); events = world.events + 1 }
    → lines ≡ before ++ Line.Stop a call image ∷ []
    → HasHappened new before lines (stop_happened (counted_event w) a call image)
has-armed world new w a call image before lines like up many nine rest reported =
    let centre = up-centre w a up in
    let counted = counted-stays w like.records.itself in
    let few = like.records.few_reads in
    let nodes : NodesRepresent world.nodes.items (counted_event w) = record { as_many = like.nodes.as_many; each = like.nodes.each } in
    record {
      like = record {
        records = record {
          itself = stop-stays (counted_event w) a call image counted centre;
          cluster = ap (λ (x : TheWorld). x.cluster) rest ∙ like.records.cluster;
          network = ap (λ (x : TheWorld). x.network) rest ∙ like.records.network;
          bytes = ap (λ (x : TheWorld). x.bytes) rest ∙ like.records.bytes;
          reads = ap (λ (x : TheWorld). x.reads) rest ∙ like.records.reads;
          few_reads = omega (few, arith);
          events = ap (λ (x : TheWorld). x.events) rest ∙ ap (λ (n : ℕ). n + 1) like.records.events;
          ups = λ b some within. ap (λ (x : TheWorld). get_or x.up (b - 1) false) rest ∙ like.records.ups b some within ∙ armed-up (counted_event w) a call image counted centre b some;
          stops = rw (ap (λ (x : TheWorld). x.stops) rest)
              (stops-set (counted_event w) a (record (centre_at w a) { stop = Some (call, image) }) counted centre world.stops (Some (call, image)) (omega (many, nine, arith)) refl like.records.stops);
        };
        decisions = rw rest like.decisions;
        nodes = rw rest (armed-nodes world.nodes.items (counted_event w) a call image counted centre nodes);
        logs = rw rest (logs-same world.logs w.cluster.quorums.centres (is_up_at w) (is_up_at (stop_happened (counted_event w) a call image).world) (facts_of w.ledger) (facts_of w.ledger)
            (λ b some within. armed-up (counted_event w) a call image counted centre b some) (λ b some within. refl) like.logs);
        tails = rw rest (tails-set (counted_event w) a (record (centre_at w a) { stop = Some (call, image) }) counted centre world.logs world.logs (tail_at world.logs a)
            (tails-kept world.logs a) (like.tails a centre) like.tails);
      };
      lines = reported;
    }

-- ---- a restart

restarted-nodes : (nodes : List (Node CentreStore)) (node : Node CentreStore) (w : World) (a epoch : ℕ) → IsWorld w → is_centre w.cluster a ≡ true → NodesRepresent nodes w
    → IsNodeOf node w.cluster a (Fact.Booted epoch ∷ facts_of w.ledger a) initial_volatile
    → NodesRepresent (set nodes (a - 1) node) (restart_happened w a epoch).world
restarted-nodes nodes node w a epoch world centre stand is = record {
  as_many = length-set nodes (a - 1) node ∙ stand.as_many;
  each = λ j x at up. elim (set-get nodes (a - 1) j node x at) [
    | inl here ↦
        let some = (some-centre w.cluster a centre).0 in
        let place : j + 1 ≡ a = (let e = here.0 in omega (e, some, arith)) in
        let same : (a == a) ≡ true = eq-eqb a a refl in
        rw (place, ← here.1, same, site-at w a site world centre) is
    | inr there ↦
        let some = (some-centre w.cluster a centre).0 in
        let other = other-place a j some there.0 in
        let elsewhere = site-elsewhere w a site world centre (j + 1) (omega arith) other in
        rw (other, elsewhere) (stand.each j x there.1 (ap (λ (s : SimulatedSite). s.is_up) (sym elsewhere) ∙ up))
  ];
}
  where
    site : SimulatedSite
    site = record booted { tail = tail_after_append (centre_at w a).tail }

module _ (w : World) (a : ℕ) where
  roomy : cells_with_boot (facts_of w.ledger a) ≤ w.cluster.cells → nat_lt w.cluster.cells (cells_with_boot (facts_of w.ledger a)) ≡ false
  roomy fits = le-ltb w.cluster.cells (cells_with_boot (facts_of w.ledger a)) fits

  -- the limit of its log, where its cells suffice
  pub restart-limit : cells_with_boot (facts_of w.ledger a) ≤ w.cluster.cells → nat_lt most_log (log_length (Fact.Booted (restart_epoch w a) ∷ facts_of w.ledger a)) ≡ true
      → restarted w a ≡ Err (EventFault.Limit LimitName.Log most_log)
  restart-limit fits full = rw (roomy fits, full) refl

  -- the limit of its cells, with the number that is needed
  pub restart-cells : (needed : ℕ) → w.cluster.cells < cells_with_boot (facts_of w.ledger a) → needed ≡ cells_with_boot (facts_of w.ledger a)
      → restarted w a ≡ Err (EventFault.Limit LimitName.Cells needed)
  restart-cells needed lacks is =
      let past : nat_lt w.cluster.cells (cells_with_boot (facts_of w.ledger a)) ≡ true = lt-ltb w.cluster.cells (cells_with_boot (facts_of w.ledger a)) lacks in
      rw (past, is) refl

  pub restart-within : cells_with_boot (facts_of w.ledger a) ≤ w.cluster.cells → nat_lt most_log (log_length (Fact.Booted (restart_epoch w a) ∷ facts_of w.ledger a)) ≡ false
      → restarted w a ≡ Ok (restart_happened (counted_event w) a (restart_epoch w a))
  restart-within fits room = rw (roomy fits, room) refl

facts-restarted : (w : World) (a epoch b : ℕ) → with_fact_at (facts_of w.ledger) a (Fact.Booted epoch) b ≡ facts_of (Added a (Fact.Booted epoch) ∷ w.ledger) b
facts-restarted w a epoch b = refl

pub has-restarted : (world new : TheWorld) (kept : Logs) (w : World) (a epoch : ℕ) (node : Node CentreStore) (before lines : List Line) → IsLike world w → is_centre w.cluster a ≡ true
    → w.events < 100000 → length world.up ≡ 9 → a ≤ 9
    → new ≡ record world { nodes = new.nodes; up = set world.up (a - 1) true; stops = set world.stops (a - 1) None; logs = kept; events = world.events + 1 }
    → length world.stops ≡ 9
    → new.nodes.items ≡ set world.nodes.items (a - 1) node
    → epoch ≡ restart_epoch w a
    → IsNodeOf node w.cluster a (Fact.Booted epoch ∷ facts_of w.ledger a) initial_volatile
    → LogsRepresent kept w.cluster.quorums.centres (with_up (is_up_at w) a true) (with_fact_at (facts_of w.ledger) a (Fact.Booted epoch))
    → nat_lt most_log (log_length (Fact.Booted epoch ∷ facts_of w.ledger a)) ≡ false
    → HasTail world.logs kept a (tail_after_append (tail_at world.logs a))
    → lines ≡ before ++ Line.Restart a epoch ∷ []
    → Happens {T = Unit {0}} new before lines (Ok tt) (restarted w a)
has-restarted world new kept w a epoch node before lines like centre early many nine rest armed nodes same is logs room tail reported =
    let site = record booted { tail = tail_after_append (centre_at w a).tail } in
    let counted = counted-stays w like.records.itself in
    let few = like.records.few_reads in
    let standing : NodesRepresent world.nodes.items (counted_event w) = record { as_many = like.nodes.as_many; each = like.nodes.each } in
    let within : restarted w a ≡ Ok (restart_happened (counted_event w) a epoch) =
    restart-within w a is.fits.1 (subst (λ (n : ℕ). nat_lt most_log (log_length (Fact.Booted n ∷ facts_of w.ledger a)) ≡ false) same room)
    ∙ ap (λ (n : ℕ). Ok (restart_happened (counted_event w) a n)) (sym same) in
    let itself : IsWorld (restart_happened (counted_event w) a epoch).world =
    restarted-stays w a (restart_happened (counted_event w) a epoch) like.records.itself centre early within in
    let ups : UpsRepresent (set world.up (a - 1) true) (restart_happened (counted_event w) a epoch).world = ups-set (counted_event w) a site counted centre world.up true many nine refl like.records.ups in
    let stops : StopsRepresent (set world.stops (a - 1) None) (restart_happened (counted_event w) a epoch).world =
    stops-set (counted_event w) a site counted centre world.stops None (omega (armed, nine, arith)) refl like.records.stops in
    let standing-logs : LogsRepresent kept w.cluster.quorums.centres (is_up_at (restart_happened (counted_event w) a epoch).world) (facts_of (Added a (Fact.Booted epoch) ∷ w.ledger)) =
    logs-same kept w.cluster.quorums.centres (with_up (is_up_at w) a true) (is_up_at (restart_happened (counted_event w) a epoch).world)
    (with_fact_at (facts_of w.ledger) a (Fact.Booted epoch)) (facts_of (Added a (Fact.Booted epoch) ∷ w.ledger))
    (λ b some within. open-set (counted_event w) a site counted centre true refl b some) (λ b some within. facts-restarted w a epoch b) logs in
    rw within (record {
      like = record {
        records = record {
          itself = itself;
          cluster = ap (λ (x : TheWorld). x.cluster) rest ∙ like.records.cluster;
          network = ap (λ (x : TheWorld). x.network) rest ∙ like.records.network;
          bytes = ap (λ (x : TheWorld). x.bytes) rest ∙ like.records.bytes;
          reads = ap (λ (x : TheWorld). x.reads) rest ∙ like.records.reads;
          few_reads = omega (few, arith);
          events = ap (λ (x : TheWorld). x.events) rest ∙ ap (λ (n : ℕ). n + 1) like.records.events;
          ups = rw (ap (λ (x : TheWorld). x.up) rest) ups;
          stops = rw (ap (λ (x : TheWorld). x.stops) rest) stops;
        };
        decisions = rw (ap (λ (x : TheWorld). x.decisions) rest) (booted-counted world.decisions w.cluster.quorums w.ledger a epoch like.decisions);
        nodes = rw nodes (restarted-nodes world.nodes.items node (counted_event w) a epoch counted centre standing is);
        logs = rw (ap (λ (x : TheWorld). x.logs) rest) standing-logs;
        tails = rw (ap (λ (x : TheWorld). x.logs) rest)
            (tails-set (counted_event w) a site counted centre world.logs kept (tail_after_append (tail_at world.logs a)) tail (ap tail_after_append (like.tails a centre)) like.tails);
      };
      lines = reported;
    })

-- ---- what the disks show

pub disks-show : (world : TheWorld) (w : World) → IsLike world w → DisksShow world.logs.disks w
disks-show world w like a centre =
    let both = some-centre w.cluster a centre in
    let its = like.logs.each a both.0 both.1 in
    record {
      has = log-payloads world.logs a (is_up_at w a) (facts_of w.ledger a) its;
      tail = λ up. (its.log, (its.read, its.few up));
    }

-- ---- what a restart asks for

-- what a centre added is in its log
pub may-restart : (w : World) (a : ℕ) → IsWorld w → is_centre w.cluster a ≡ true → AreLogged w.cluster (facts_of w.ledger a)
may-restart w a world centre =
    let facts = (world.nodes a centre).facts_themselves in
    record { allowed = facts.allowed; well_formed = facts.well_formed }

-- and its epochs are not used up
pub more-epochs : (w : World) (a : ℕ) → IsWorld w → is_centre w.cluster a ≡ true → w.events < 100000 → epoch_of (facts_of w.ledger a) < 2 ^ 32 - 1
more-epochs w a world centre few =
    let epochs = world.epochs a centre in
    below (epoch_of (facts_of w.ledger a)) (omega (epochs, few, arith))
  where
    below : (n : ℕ) → n < 200000 → n < 2 ^ 32 - 1
    below n few = omega (few, arith)
