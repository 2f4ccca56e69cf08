-- The example is of calls.
use Rattle.std.proofs.Common.{Bool, Err, List, None, Ok, Option, Some, [], ap, arith, false, inl, inr, map, refl, suc, true, zero, ℕ, ◌+◌, ◌++◌, ◌<◌, ◌==◌, ◌^◌, ◌∙◌, ◌∷◌, ◌≡◌, ◌≤◌}
use Rattle.std.specs.List.{AllByRecursion}
use Rattle.std.specs.Prelude.{drop, length, nat_lt, not, take, ⊤, ◌&&◌, ◌||◌}
use Rattle.std.proofs.lemmas.Bool.{and_parts, eq-eqb, ltb-true}
use Rattle.mdcc_base.specs.Causes.{Rose}
use Rattle.mdcc_node_boot.specs.Loading.{fact_read}
use Rattle.mdcc_def_messages.specs.Spelling.{encodings_of}
use Rattle.mdcc_def_messages.specs.declared.facts.Fact.{Fact}
use Rattle.mdcc_def_server_runs.specs.Acts.{Act, but_answer, but_answers, dropped_in, lost_in, steps_in}
use Rattle.mdcc_def_server_runs.specs.Servers.{site_of}
use Rattle.mdcc_def_server_runs.specs.Turns.{Given, turn_of}
use Rattle.mdcc_killed_process.specs.Killed.{calls_of_killed, disk_of_killed, held_of_killed, lost_of_killed, may_leave_of_killed}
use Rattle.mdcc_killed_process.specs.declared.disks.KilledDisks.{KilledDisks}
use Rattle.mdcc_killed_process.specs.declared.link.KilledLink.{KilledLink}
use Rattle.mdcc_killed_process.specs.declared.output.KilledOutput.{KilledOutput}
use Rattle.mdcc_log_file.specs.Area.{payloads}
use Rattle.mdcc_log_file.specs.Area.Head.{Version1}
use Rattle.mdcc_serve.specs.Stages.{done_line}
use Rattle.mdcc_serve.specs.declared.served.Served.{Served}
use Rattle.mdcc_serve_outbox.specs.Shows.{count_limited, failed_in}
use Rattle.mdcc_serve_site.specs.declared.fault.ServeFault.{ServeFault}
use Rattle.mdcc_theorem_clusters.proofs.Executed.{asked-bytes, was-sent}
use Rattle.mdcc_theorem_clusters.specs.Crash.{proposal_to, three_centres}
use Rattle.mdcc_theorem_clusters.specs.ExecutionTest.{may_receive_asked, was_sent}
use Rattle.mdcc_theorem_clusters.specs.Traces.{GivesBytes, MayDoNext, MayReceive}
use Rattle.mdcc_theorem_node_steps.specs.NodeInvariant.{fact_payloads}
use Rattle.mdcc_theorem_cluster_nodes.proofs.KnownLogs.{DidOver, called-by}
use Rattle.mdcc_theorem_cluster_nodes.specs.Areas.{Areas}
use Rattle.mdcc_theorem_cluster_nodes.specs.Calls.{Setting}
use Rattle.mdcc_theorem_cluster_nodes.specs.Clusters.{AreCalls, Cluster, ClusterStep, IsCalled, IsKilled, acts_left_of, after_cluster_step, after_cluster_steps}
use Rattle.mdcc_theorem_cluster_nodes.specs.Example.{acts_done_by, acts_until_killed, again_steps, areas_with, asked_first, at_first_empty, begins_whole, disk_of_areas, gave_own, given_first, given_proposal, heard_and_voted, just_these, kill_steps, killed_steps, last_steps, log_with, no_byte, none_lost, none_recorded_of, third_steps, voted_once, voted_twice, whole_acts}

-- ---- acts

abbrev may_receive : List (ℕ × Act) → ℕ → Act → Bool
may_receive done a (Act.Receive at (Some bytes)) = not (at == a) || was_sent done bytes
may_receive done a act = true

abbrev may_next : List (ℕ × Act) → ℕ → Option (List Act) → Bool
may_next done a (Some (act ∷ acts)) = may_receive done a act
may_next done a left = true

-- so many acts may be done
abbrev may_all : Cluster → ℕ → ℕ → Bool
may_all cluster a zero = true
may_all cluster a (suc n) = may_next cluster.done a (acts_left_of (cluster.now a)) && may_all (after_cluster_step cluster (ClusterStep.Acts a)) a n

own-or : (at a : ℕ) (sent : Bool) → (not (at == a) || sent) ≡ true → at ≡ a → sent ≡ true
own-or at a sent h e = let own : (at == a) ≡ true = eq-eqb at a e in rw own at h

receives : (done : List (ℕ × Act)) (a : ℕ) (act : Act) → may_receive done a act ≡ true → MayReceive done a act
receives done a (Act.Receive at (Some bytes)) h = λ e. was-sent done bytes (own-or at a (was_sent done bytes) h e)
receives done a (Act.Receive at None) h = tt
receives done a (Act.Bind at address) h = tt
receives done a (Act.Append centre facts) h = tt
receives done a (Act.Send from to bytes answer) h = tt
receives done a (Act.Print line) h = tt
receives done a Act.Stepped h = tt
receives done a Act.Dropped h = tt
receives done a Act.Unsent h = tt

nexts : (done : List (ℕ × Act)) (a : ℕ) (left : Option (List Act)) → may_next done a left ≡ true → MayDoNext done a left
nexts done a None h = tt
nexts done a (Some []) h = tt
nexts done a (Some (act ∷ acts)) h = receives done a act h

abbrev Are : Cluster → List ClusterStep → Type 0
Are cluster more = AreCalls {L = ⊤} {O = ⊤} disk_of_areas just_these no_byte none_recorded_of none_lost none_recorded_of three_centres cluster more

calls-do : (cluster : Cluster) (a n : ℕ) (more : List ClusterStep) → may_all cluster a n ≡ true → Are (after_cluster_steps cluster (acts_done_by a n)) more → Are cluster (acts_done_by a n ++ more)
calls-do cluster a zero more h k = k
calls-do cluster a (suc n) more h k =
    let both = and_parts (may_next cluster.done a (acts_left_of (cluster.now a))) (may_all (after_cluster_step cluster (ClusterStep.Acts a)) a n) h in
    (nexts cluster.done a (acts_left_of (cluster.now a)) both.0, calls-do (after_cluster_step cluster (ClusterStep.Acts a)) a n more both.1 k)

-- ---- calls

-- the link answered well to each send
abbrev is_plain : Act → Bool
is_plain (Act.Send from to bytes (Err failed)) = false
is_plain act = true

abbrev are_plain : List Act → Bool
are_plain [] = true
are_plain (act ∷ acts) = is_plain act && are_plain acts

plain-same : (act : Act) → is_plain act ≡ true → but_answer act ≡ act
plain-same (Act.Send from to bytes (Ok done)) h = refl
plain-same (Act.Send from to bytes (Err failed)) h = absurd (cc)
plain-same (Act.Bind at address) h = refl
plain-same (Act.Receive at gave) h = refl
plain-same (Act.Append centre facts) h = refl
plain-same (Act.Print line) h = refl
plain-same Act.Stepped h = refl
plain-same Act.Dropped h = refl
plain-same Act.Unsent h = refl

all-plain : (acts : List Act) → are_plain acts ≡ true → but_answers acts ≡ acts
all-plain [] h = refl
all-plain (act ∷ acts) h =
    let both = and_parts (is_plain act) (are_plain acts) h in
    ap (λ (z : Act). z ∷ but_answers acts) (plain-same act both.0) ∙ ap (λ (xs : List Act). act ∷ xs) (all-plain acts both.1)

few : (n most : ℕ) → nat_lt n most ≡ true → n < most
few n most h = ltb-true n most h

none-failed : (acts : List Act) → failed_in acts ≡ 0 → 1 ≤ failed_in acts → Rose 0 0
none-failed acts none some = absurd (omega (some, none, arith))

abbrev alone : List Given → List (List Given)
alone given = map (λ (turn : Given). turn ∷ []) given

abbrev are_bytes_given : List Given → Bool
are_bytes_given [] = true
are_bytes_given (one ∷ given) = (may_receive_asked one.own && may_receive_asked one.asked) && are_bytes_given given

all-bytes : (given : List Given) → are_bytes_given given ≡ true → AllByRecursion GivesBytes given
all-bytes [] h = tt
all-bytes (one ∷ given) h =
    let both = and_parts (may_receive_asked one.own && may_receive_asked one.asked) (are_bytes_given given) h in
    let two = and_parts (may_receive_asked one.own) (may_receive_asked one.asked) both.0 in
    (record { own = asked-bytes one.own two.0; asked = asked-bytes one.asked two.1 }, all-bytes given both.1)

-- one that comes to its end
abbrev setting : List Given → Areas → Areas → Setting {L = ⊤} {O = ⊤} disk_of_areas just_these no_byte none_recorded_of none_lost none_recorded_of
setting given found left =
    record { turns = length given; disks_before = found; disks_after = left; link_before = tt; link_after = tt; out_before = tt; out_after = tt }

abbrev counted : ℕ → List Act → Served
counted turns acts = record { turns = turns; steps = count_limited (steps_in acts); dropped = count_limited (dropped_in acts); lost = count_limited (lost_in acts) }

abbrev told_line : List Given → List Act → List Act
told_line given acts = Act.Print (done_line (length given) acts) ∷ []

abbrev Whole : ℕ → List Fact → List Given → Areas → List Fact → Type 0
Whole a facts given found kept =
    DidOver {L = ⊤} {O = ⊤} disk_of_areas just_these no_byte none_recorded_of none_lost none_recorded_of three_centres (setting given found (areas_with kept))
    (Ok (counted (length given) (whole_acts a facts given ++ told_line given (whole_acts a facts given)))) (whole_acts a facts given) (log_with a facts)

abbrev no_areas : Areas
no_areas = record { first = []; second = [] }

first-whole : Whole 1 [] given_first no_areas heard_and_voted
first-whole = record {
  serves = record {
    acts = whole_acts 1 [] given_first ++ told_line given_first (whole_acts 1 [] given_first);
    run = record { given = alone given_first; turns_made = refl; each = (refl, (refl, (refl, (refl, (refl, (refl, tt)))))); ran = whole_acts 1 [] given_first; runs = all-plain (whole_acts 1 [] given_first) refl; whole = refl };
    left = record { link = inl refl; output = tt; failed_sends = none-failed (whole_acts 1 [] given_first ++ told_line given_first (whole_acts 1 [] given_first)) refl };
    kept = (record { log = record { head = Version1; tail = encodings_of heard_and_voted }; read = refl; facts_themselves = refl; short = few 3 1024 refl; durable = λ c e. e; durable_other = λ c e. e }, tt);
    serials = (few _ (2 ^ 32) refl, tt);
    turns_told = refl;
    steps_told = refl;
    dropped_told = refl;
    lost_told = refl;
  };
  granted = record { centre = refl; boots = refl; fits = all-bytes given_first refl; kept = tt };
  acts_are = refl;
}

second-whole : Whole 2 voted_once (given_proposal 2) (areas_with voted_once) voted_twice
second-whole = record {
  serves = record {
    acts = whole_acts 2 voted_once (given_proposal 2) ++ told_line (given_proposal 2) (whole_acts 2 voted_once (given_proposal 2));
    run = record { given = alone (given_proposal 2); turns_made = refl; each = (refl, tt); ran = whole_acts 2 voted_once (given_proposal 2); runs = all-plain (whole_acts 2 voted_once (given_proposal 2)) refl; whole = refl };
    left = record { link = inl refl; output = tt; failed_sends = none-failed (whole_acts 2 voted_once (given_proposal 2) ++ told_line (given_proposal 2) (whole_acts 2 voted_once (given_proposal 2))) refl };
    kept = (record { log = record { head = Version1; tail = encodings_of voted_twice }; read = refl; facts_themselves = refl; short = few 3 1024 refl; durable = λ c e. e; durable_other = λ c e. e }, tt);
    serials = (few _ (2 ^ 32) refl, tt);
    turns_told = refl;
    steps_told = refl;
    dropped_told = refl;
    lost_told = refl;
  };
  granted = record { centre = refl; boots = refl; fits = all-bytes (given_proposal 2) refl; kept = tt };
  acts_are = refl;
}

third-whole : Whole 3 [] (given_proposal 3) no_areas voted_once
third-whole = record {
  serves = record {
    acts = whole_acts 3 [] (given_proposal 3) ++ told_line (given_proposal 3) (whole_acts 3 [] (given_proposal 3));
    run = record { given = alone (given_proposal 3); turns_made = refl; each = (refl, tt); ran = whole_acts 3 [] (given_proposal 3); runs = all-plain (whole_acts 3 [] (given_proposal 3)) refl; whole = refl };
    left = record { link = inl refl; output = tt; failed_sends = none-failed (whole_acts 3 [] (given_proposal 3) ++ told_line (given_proposal 3) (whole_acts 3 [] (given_proposal 3))) refl };
    kept = (record { log = record { head = Version1; tail = encodings_of voted_once }; read = refl; facts_themselves = refl; short = few 2 1024 refl; durable = λ c e. e; durable_other = λ c e. e }, tt);
    serials = (few _ (2 ^ 32) refl, tt);
    turns_told = refl;
    steps_told = refl;
    dropped_told = refl;
    lost_told = refl;
  };
  granted = record { centre = refl; boots = refl; fits = all-bytes (given_proposal 3) refl; kept = tt };
  acts_are = refl;
}

-- what it does over these areas
whole-called : (a : ℕ) (facts : List Fact) (given : List Given) (found : Areas) (kept : List Fact) → payloads found.first found.second ≡ Ok (encodings_of facts) → map fact_read (encodings_of facts) ≡ fact_payloads facts
    → (disk_of_areas found a).bytes ≡ found.first → (disk_of_areas found (a + 16)).bytes ≡ found.second → just_these (areas_with kept) a (areas_with kept).first → just_these (areas_with kept) (a + 16) (areas_with kept).second
    → Whole a facts given found kept → IsCalled {L = ⊤} {O = ⊤} disk_of_areas just_these no_byte none_recorded_of none_lost none_recorded_of three_centres a found (whole_acts a facts given) (areas_with kept)
whole-called a facts given found kept read back first second left left_second did =
    called-by disk_of_areas just_these no_byte none_recorded_of none_lost none_recorded_of three_centres (setting given found (areas_with kept)) _ (whole_acts a facts given) a found (areas_with kept) facts read back did
    (record { first = refl; second = refl }) first second left left_second

-- ---- the one that is killed

abbrev killed_disks : Areas → KilledDisks Areas
killed_disks areas = record { disks = areas; left = 0; missed = [] }

abbrev killed_link : KilledLink ⊤
killed_link = record { link = tt; left = 0; unsent = 0; missed = 0 }

abbrev killed_output : KilledOutput ⊤
killed_output = record { output = tt; left = 0; missed = 0 }

abbrev killed_setting : Setting (disk_of_killed disk_of_areas) (may_leave_of_killed just_these) no_byte (calls_of_killed {L = ⊤} none_recorded_of) (lost_of_killed {L = ⊤} none_lost) (held_of_killed {O = ⊤} none_recorded_of)
killed_setting = record {
  turns = 1;
  disks_before = killed_disks no_areas;
  disks_after = killed_disks (areas_with voted_once);
  link_before = killed_link;
  link_after = killed_link;
  out_before = killed_output;
  out_after = killed_output;
}

-- its turn
abbrev turn_acts : List Act
turn_acts = (turn_of three_centres (site_of (log_with 2 [])) (gave_own (proposal_to 2))).acts

killed-did : DidOver (disk_of_killed disk_of_areas) (may_leave_of_killed just_these) no_byte (calls_of_killed {L = ⊤} none_recorded_of) (lost_of_killed {L = ⊤} none_lost) (held_of_killed {O = ⊤} none_recorded_of) three_centres killed_setting (Err (ServeFault.Disk 2)) acts_until_killed (log_with 2 [])
killed-did = record {
  serves = record {
    acts = acts_until_killed;
    rest = drop 3 turn_acts;
    stops = inr (inl (record {
      given = [];
      fewer = omega arith;
      each = tt;
      at = record { front = []; site = site_of (log_with 2 []); back = []; are = refl; earlier = []; as_many = refl; given = gave_own (proposal_to 2) };
      runs = record { some = take 3 turn_acts; done = refl; are = refl };
      serials = tt;
    }));
    comes = refl;
    boots = tt;
    full = tt;
    printed_more = 0;
    left = record { link = inl refl; output = tt; failed_sends = none-failed acts_until_killed refl };
    kept = λ asked. ((λ first second one two. inr (ap (λ (bytes : List ℕ). payloads bytes second) one ∙ ap (payloads (areas_with voted_once).first) two)), tt);
  };
  granted = record { centre = refl; boots = refl; fits = inl (record { bytes = all-bytes (given_proposal 2) refl; serials = few _ (2 ^ 32) refl }); kept = tt };
  acts_are = refl;
}

killed : IsKilled {L = ⊤} {O = ⊤} disk_of_areas just_these no_byte none_recorded_of none_lost none_recorded_of three_centres 2 no_areas acts_until_killed (areas_with voted_once)
killed =
    called-by (disk_of_killed disk_of_areas) (may_leave_of_killed just_these) no_byte (calls_of_killed {L = ⊤} none_recorded_of) (lost_of_killed {L = ⊤} none_lost) (held_of_killed {O = ⊤} none_recorded_of) three_centres killed_setting
    (Err (ServeFault.Disk 2)) acts_until_killed 2 no_areas (areas_with voted_once) [] refl refl killed-did (record { first = refl; second = refl }) refl refl refl refl

-- ---- all of them

abbrev asked_now : Cluster
asked_now = after_cluster_step at_first_empty (begins_whole 1 [] given_first heard_and_voted)

abbrev killed_now : Cluster
killed_now = after_cluster_step (after_cluster_steps asked_now (acts_done_by 1 (length (whole_acts 1 [] asked_first)))) (ClusterStep.Calls 2 acts_until_killed (areas_with voted_once))

abbrev again_now : Cluster
again_now = after_cluster_step (after_cluster_step (after_cluster_steps killed_now (acts_done_by 2 7)) (ClusterStep.Returns 2)) (begins_whole 2 voted_once (given_proposal 2) voted_twice)

abbrev third_now : Cluster
third_now =
    after_cluster_step (after_cluster_step (after_cluster_steps again_now (acts_done_by 2 (length (whole_acts 2 voted_once (given_proposal 2))))) (ClusterStep.Returns 2))
    (begins_whole 3 [] (given_proposal 3) voted_once)

abbrev last_now : Cluster
last_now = after_cluster_step (after_cluster_steps third_now (acts_done_by 3 (length (whole_acts 3 [] (given_proposal 3))))) (ClusterStep.Returns 3)

last-calls : Are last_now (acts_done_by 1 (length (whole_acts 1 [] given_first)) ++ ClusterStep.Returns 1 ∷ [])
last-calls = calls-do last_now 1 (length (whole_acts 1 [] given_first)) (ClusterStep.Returns 1 ∷ []) refl (refl, tt)

third-calls : Are third_now (acts_done_by 3 (length (whole_acts 3 [] (given_proposal 3))) ++ last_steps)
third-calls = calls-do third_now 3 (length (whole_acts 3 [] (given_proposal 3))) last_steps refl (refl, last-calls)

again-calls : Are again_now (acts_done_by 2 (length (whole_acts 2 voted_once (given_proposal 2))) ++ third_steps)
again-calls =
    calls-do again_now 2 (length (whole_acts 2 voted_once (given_proposal 2))) third_steps refl (
      refl,
      (record { alone = refl; called = inl (whole-called 3 [] (given_proposal 3) no_areas voted_once refl refl refl refl refl refl third-whole) }, third-calls),
    )

killed-calls : Are killed_now (acts_done_by 2 7 ++ again_steps)
killed-calls =
    calls-do killed_now 2 7 again_steps refl (
      refl,
      (
        record { alone = refl; called = inl (whole-called 2 voted_once (given_proposal 2) (areas_with voted_once) voted_twice refl refl refl refl refl refl second-whole) },
        again-calls,
      ),
    )

asked-calls : Are asked_now (acts_done_by 1 (length (whole_acts 1 [] asked_first)) ++ killed_steps)
asked-calls = calls-do asked_now 1 (length (whole_acts 1 [] asked_first)) killed_steps refl (record { alone = refl; called = inr (inl killed) }, killed-calls)

pub example-calls : Are at_first_empty kill_steps
example-calls =
    (record { alone = refl; called = inl (whole-called 1 [] given_first no_areas heard_and_voted refl refl refl refl refl refl first-whole) }, asked-calls)
