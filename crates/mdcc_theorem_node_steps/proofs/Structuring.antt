-- The structures that a leader makes are well-formed.
use Rattle.std.proofs.Common.{◌≡◌, ℕ, ◌+◌, ◌^◌, ◌&&◌, ◌==◌, ◌<◌, ◌≤◌, Bool, true, false, cond, List, [], ◌∷◌, length, refl, sym, inl, inr, subst, Option, Some, None, is_some, filter, filter_map, fold, not, nat_le, nat_lt, arith, ◌||◌}
use Rattle.std.specs.List.{AllByRecursion}
use Rattle.std.specs.Option.{option_or}
use Rattle.std.specs.Prelude.{option_map}
use Rattle.std.proofs.lemmas.Bool.{and_parts, cases_Bool, cond_both, le-ltb, leb-false, ltb-false, ltb-true, or_from, or_parts}
use Rattle.mdcc_base.specs.Ballot.{ballot_eq, is_fast}
use Rattle.mdcc_base.specs.Quorums.{threshold}
use Rattle.mdcc_base.specs.Sizes.{Sizes}
use Rattle.mdcc_base.specs.TxId.{tx_eq, tx_lt}
use Rattle.mdcc_base.specs.declared.identifiers.TxId.{TxId}
use Rattle.mdcc_base.specs.declared.key.Key.{Key}
use Rattle.mdcc_option.proofs.Equal.{Decides-tx}
use Rattle.mdcc_option.specs.declared.choices.Choice.{Choice}
use Rattle.mdcc_option.specs.declared.choices.Mark.{Mark}
use Rattle.mdcc_option.specs.declared.cluster.Cluster.{Cluster}
use Rattle.mdcc_option.specs.declared.items.Update.{Update}
use Rattle.mdcc_struct.specs.Forced.{ballot_reported, forced_of, mark_with, marks_reported, marks_reported_at, marks_with, reports_with}
use Rattle.mdcc_struct.specs.Maps.{TxMap, are_ascending, inserted, union, value_of, with_entry}
use Rattle.mdcc_struct.specs.declared.options.Options.{Options}
use Rattle.mdcc_struct.specs.declared.report.Report.{Report}
use Rattle.mdcc_struct.proofs.Walks.{ascending-picked, ascending-union, ascending-with_entry}
use Rattle.mdcc_def_protocol.specs.Facts.{current_of, is_settled}
use Rattle.mdcc_def_protocol.specs.Fit.{is_fitting}
use Rattle.mdcc_def_protocol.specs.Marks.{accepts_in, choice_in, is_accept, rejects_in}
use Rattle.mdcc_def_protocol.specs.Structures.{accept_room, all_claims, choices_reported, claims_reported, first_structure, fit_at_leader, is_accepted, is_crowded, is_left_out, mark_of_choice, reject_room, with_choice, with_claim}
use Rattle.mdcc_def_messages.specs.WellFormedParts.{IsWellFormedEntry, IsWellFormedTx}
use Rattle.mdcc_def_messages.specs.declared.facts.Fact.{Fact}
use Rattle.mdcc_theorem_node_steps.specs.WellFormedVolatile.{IsWellFormedClaim, IsWellFormedMade}
use Rattle.mdcc_theorem_node_steps.proofs.Each.{each-kept}
use Rattle.mdcc_theorem_node_steps.proofs.Held.{HoldsIn, each-filter_map, each-union, each-with_entry, value-in}
use Rattle.mdcc_theorem_node_steps.proofs.Proposed.{holds-find}

-- ---- a claim that is marked

-- each mark is of the instance, and they ascend
abbrev pub AreMarks : Key → ℕ → Options → Type 0
AreMarks key version options = AllByRecursion (λ e. IsWellFormedEntry key version e.0 e.1) options × (are_ascending options ≡ true)

claim-tx : (key : Key) (version : ℕ) (tx : TxId) (o : Option Choice) → IsWellFormedClaim key version tx o → IsWellFormedTx tx
claim-tx key version tx None w = w
claim-tx key version tx (Some choice) w = subst IsWellFormedTx w.same_tx w.choice_itself.tx

mark-formed : (cluster : Cluster) (facts : List Fact) (key : Key) (version : ℕ) (options : Options) (tx : TxId) (o : Option Choice) → IsWellFormedClaim key version tx o
    → IsWellFormedEntry key version tx (mark_of_choice cluster facts key version options o)
mark-formed cluster facts key version options tx None w = w
mark-formed cluster facts key version options tx (Some choice) w =
    cond_both (is_accepted cluster facts key version options choice) (Mark.Accept choice) Mark.Reject (IsWellFormedEntry key version tx) (λ e. w) (λ e. claim-tx key version tx (Some choice) w)

pub claimed-marks : (cluster : Cluster) (facts : List Fact) (key : Key) (version : ℕ) (options : Options) (e : TxId × Option Choice) → AreMarks key version options
    → IsWellFormedClaim key version e.0 e.1 → AreMarks key version (with_claim cluster facts key version options e)
claimed-marks cluster facts key version options (tx, o) h w =
    let mark = mark_of_choice cluster facts key version options o in
    cond_both (is_some (value_of options tx) || is_settled facts tx) options (cond (is_left_out options mark) options (with_entry options (tx, mark))) (AreMarks key version) (λ e. h)
    (λ e. cond_both (is_left_out options mark) options (with_entry options (tx, mark)) (AreMarks key version) (λ f. h)
    (λ f. (
      each-with_entry (λ (e : TxId × Mark). IsWellFormedEntry key version e.0 e.1) options (tx, mark) h.0 (mark-formed cluster facts key version options tx o w),
      ascending-with_entry options (tx, mark) h.1,
    )))

-- ---- room

count-inserted : (test : TxId × Mark → Bool) (m : Options) (e : TxId × Mark) → length (filter test (inserted m e)) ≤ length (filter test m) + cond (test e) 1 0
count-inserted test [] e = cond_both (test e) (e ∷ []) [] (λ (m : Options). length m ≤ 0 + cond (test e) 1 0) (λ t. rw t (omega arith)) (λ t. omega arith)
count-inserted test (x ∷ xs) e =
    cond_both (tx_lt x.0 e.0) (x ∷ inserted xs e) (e ∷ x ∷ xs) (λ (m : Options). length (filter test m) ≤ length (filter test (x ∷ xs)) + cond (test e) 1 0)
    (λ less. elim (cases_Bool (test x)) [
      | inl t ↦ rw t (omega (arith, count-inserted test xs e))
      | inr t ↦ rw t (count-inserted test xs e)
    ])
    (λ over. elim (cases_Bool (test e)) [
      | inl t ↦ rw t (omega arith)
      | inr t ↦ rw t (omega arith)
    ])

pub count-with_entry : (test : TxId × Mark → Bool) (m : Options) (e : TxId × Mark) → length (filter test (with_entry m e)) ≤ length (filter test m) + cond (test e) 1 0
count-with_entry test m e =
    cond_both (is_some (value_of m e.0)) m (inserted m e) (λ (k : Options). length (filter test k) ≤ length (filter test m) + cond (test e) 1 0) (λ there. omega arith) (λ new. count-inserted test m e)

both-counts : (m : Options) → length (accepts_in m) + length (rejects_in m) ≡ length m
both-counts [] = refl
both-counts (e ∷ es) =
    elim (cases_Bool (is_accept e.1)) [
      | inl t ↦ rw t (omega (arith, both-counts es))
      | inr t ↦ rw t (omega (arith, both-counts es))
    ]

-- a structure that is not crowded has a count that fits
pub count-fits : (options : Options) → is_crowded options ≡ false → length options < 2 ^ 32
count-fits options h =
    let parts = or_parts (nat_lt 1024 (length (accepts_in options))) (nat_lt 32768 (length (rejects_in options))) h in
    omega (arith, both-counts options, ltb-false 1024 (length (accepts_in options)) parts.0, ltb-false 32768 (length (rejects_in options)) parts.1)

-- and so many marks of each kind
pub crowded-few : (options : Options) → is_crowded options ≡ false → (length (accepts_in options) ≤ 1024) × (length (rejects_in options) ≤ 32768)
crowded-few options h =
    let parts = or_parts (nat_lt 1024 (length (accepts_in options))) (nat_lt 32768 (length (rejects_in options))) h in
    (ltb-false 1024 (length (accepts_in options)) parts.0, ltb-false 32768 (length (rejects_in options)) parts.1)

uncrowded : (options : Options) → length (accepts_in options) ≤ 1024 → length (rejects_in options) ≤ 32768 → is_crowded options ≡ false
uncrowded options h k = or_from _ _ (le-ltb 1024 (length (accepts_in options)) h) (le-ltb 32768 (length (rejects_in options)) k)

pub room-small : (update : Update) → accept_room update ≤ 512
room-small (Update.Write item seen) = omega arith
room-small (Update.Add amounts) = omega arith

-- one more mark where there is room for it
more-accepted : (options : Options) (tx : TxId) (choice : Choice) → is_crowded options ≡ false → length (accepts_in options) < 512 → is_crowded (with_entry options (tx, Mark.Accept choice)) ≡ false
more-accepted options tx choice h room =
    let parts = or_parts (nat_lt 1024 (length (accepts_in options))) (nat_lt 32768 (length (rejects_in options))) h in
    let few = ltb-false 32768 (length (rejects_in options)) parts.1 in
    let a = count-with_entry (λ e. is_accept e.1) options (tx, Mark.Accept choice) in
    let b = count-with_entry (λ e. not (is_accept e.1)) options (tx, Mark.Accept choice) in
    uncrowded (with_entry options (tx, Mark.Accept choice)) (omega arith) (omega arith)

more-rejected : (options : Options) (tx : TxId) → is_crowded options ≡ false → nat_le reject_room (length (rejects_in options)) ≡ false → is_crowded (with_entry options (tx, Mark.Reject)) ≡ false
more-rejected options tx h room =
    let parts = or_parts (nat_lt 1024 (length (accepts_in options))) (nat_lt 32768 (length (rejects_in options))) h in
    let few = ltb-false 1024 (length (accepts_in options)) parts.0 in
    let small : length (rejects_in options) < 16384 = leb-false 16384 (length (rejects_in options)) room in
    let a = count-with_entry (λ e. is_accept e.1) options (tx, Mark.Reject) in
    let b = count-with_entry (λ e. not (is_accept e.1)) options (tx, Mark.Reject) in
    uncrowded (with_entry options (tx, Mark.Reject)) (omega arith) (omega arith)

marked-room : (options : Options) (tx : TxId) (mark : Mark) → is_crowded options ≡ false → ((choice : Choice) → mark ≡ Mark.Accept choice → length (accepts_in options) < 512)
    → is_left_out options mark ≡ false → is_crowded (with_entry options (tx, mark)) ≡ false
marked-room options tx (Mark.Accept choice) h room e = more-accepted options tx choice h (room choice refl)
marked-room options tx Mark.Reject h room e = more-rejected options tx h e

accepted-room : (cluster : Cluster) (facts : List Fact) (key : Key) (version : ℕ) (options : Options) (o : Option Choice) (choice : Choice)
    → mark_of_choice cluster facts key version options o ≡ Mark.Accept choice → length (accepts_in options) < 512
accepted-room cluster facts key version options None choice e = absurd (cc)
accepted-room cluster facts key version options (Some other) choice e =
    elim (cases_Bool (is_accepted cluster facts key version options other)) [
      | inl t ↦
          let both = and_parts (current_of facts key == version && nat_lt (length (accepts_in options)) (accept_room other.update)) (is_fitting (fit_at_leader cluster facts key version options other)) t in
          let below = ltb-true (length (accepts_in options)) (accept_room other.update) (and_parts (current_of facts key == version) (nat_lt (length (accepts_in options)) (accept_room other.update)) both.0).1 in
          omega (arith, below, room-small other.update)
      | inr t ↦ let bad : Mark.Reject ≡ Mark.Accept choice = rw t at e in absurd (cc)
    ]

claimed-room : (cluster : Cluster) (facts : List Fact) (key : Key) (version : ℕ) (options : Options) (e : TxId × Option Choice) → is_crowded options ≡ false
    → is_crowded (with_claim cluster facts key version options e) ≡ false
claimed-room cluster facts key version options (tx, o) h =
    let mark = mark_of_choice cluster facts key version options o in
    cond_both (is_some (value_of options tx) || is_settled facts tx) options (cond (is_left_out options mark) options (with_entry options (tx, mark))) (λ (m : Options). is_crowded m ≡ false) (λ e. h)
    (λ e. cond_both (is_left_out options mark) options (with_entry options (tx, mark)) (λ (m : Options). is_crowded m ≡ false) (λ f. h)
    (λ f. marked-room options tx mark h (accepted-room cluster facts key version options o) f))

-- a structure with one more claim
pub made-more : (cluster : Cluster) (facts : List Fact) (key : Key) (version : ℕ) (options : Options) (e : TxId × Option Choice) → IsWellFormedMade key version options
    → IsWellFormedClaim key version e.0 e.1 → IsWellFormedMade key version (with_claim cluster facts key version options e)
made-more cluster facts key version options e h w =
    let marks = claimed-marks cluster facts key version options e (h.options_itself.each, h.options_itself.ascending) w in
    let room = claimed-room cluster facts key version options e h.room in
    record {
      version_fits = h.version_fits;
      options_itself = record { count = count-fits (with_claim cluster facts key version options e) room; each = marks.0; ascending = marks.1 };
      room = room;
    }

-- ---- forced marks

reported-union : (key : Key) (version : ℕ) (reports : List Report) (marks : Options) → AllByRecursion (λ report. AreMarks key version report.votes) reports → AreMarks key version marks
    → AreMarks key version (fold (λ marks report. union marks report.votes) marks reports)
reported-union key version [] marks w h = h
reported-union key version (report ∷ reports) marks w h =
    reported-union key version reports (union marks report.votes) w.1
    (each-union (λ (e : TxId × Mark). IsWellFormedEntry key version e.0 e.1) marks report.votes h.0 w.0.0, ascending-union marks report.votes h.1)

reported-with : (key : Key) (version : ℕ) (reports : List Report) (least : ℕ) (tx : TxId) → AllByRecursion (λ report. AreMarks key version report.votes) reports
    → HoldsIn (IsWellFormedEntry key version tx) (mark_with reports least tx)
reported-with key version reports least tx w =
    holds-find (IsWellFormedEntry key version tx) (λ mark. nat_le least (reports_with reports tx mark)) (filter_map (λ report. value_of report.votes tx) reports)
    (each-filter_map (λ (report : Report). AreMarks key version report.votes) (IsWellFormedEntry key version tx) (λ report. value_of report.votes tx) reports
    (λ report h. value-in (IsWellFormedEntry key version) report.votes tx h.0) w)

holds-pair : (key : Key) (version : ℕ) (tx : TxId) (o : Option Mark) → HoldsIn (IsWellFormedEntry key version tx) o → HoldsIn (λ (e : TxId × Mark). IsWellFormedEntry key version e.0 e.1) (option_map (λ (mark : Mark). (tx, mark)) o)
holds-pair key version tx None h = tt
holds-pair key version tx (Some mark) h = h

pub forced-marks : (sizes : Sizes) (key : Key) (version : ℕ) (reports : List Report) → AllByRecursion (λ report. AreMarks key version report.votes) reports → AreMarks key version (forced_of sizes reports)
forced-marks sizes key version reports w =
    let ballot = ballot_reported reports in
    let least = threshold sizes (length reports) in
    let all = reported-union key version reports [] w (tt, refl) in
    cond_both (is_fast ballot) (marks_with reports least) (marks_reported_at reports ballot) (AreMarks key version)
    (λ e. (
      each-filter_map (λ (e : TxId × Mark). IsWellFormedEntry key version e.0 e.1) (λ (e : TxId × Mark). IsWellFormedEntry key version e.0 e.1)
          (λ (e : TxId × Mark). option_map (λ (mark : Mark). (e.0, mark)) (mark_with reports least e.0)) (marks_reported reports)
          (λ e h. holds-pair key version e.0 (mark_with reports least e.0) (reported-with key version reports least e.0 w)) all.0,
      ascending-picked (mark_with reports least) (marks_reported reports) all.1,
    ))
    (λ e. reported-union key version (filter (λ report. ballot_eq report.ballot ballot) reports) []
    (each-kept (λ (report : Report). AreMarks key version report.votes) (λ report. ballot_eq report.ballot ballot) reports w) (tt, refl))

-- ---- claims

claim-or : (key : Key) (version : ℕ) (tx : TxId) (a b : Option Choice) → IsWellFormedClaim key version tx a → IsWellFormedClaim key version tx b → IsWellFormedClaim key version tx (option_or a b)
claim-or key version tx None b h k = k
claim-or key version tx (Some a) b h k = h

pub claims-with : (key : Key) (version : ℕ) (claims : TxMap (Option Choice)) (e : TxId × Option Choice) → AllByRecursion (λ e. IsWellFormedClaim key version e.0 e.1) claims
    → IsWellFormedClaim key version e.0 e.1 → AllByRecursion (λ e. IsWellFormedClaim key version e.0 e.1) (with_choice claims e)
claims-with key version [] e h w = (w, tt)
claims-with key version (x ∷ xs) e h w =
    cond_both (tx_lt x.0 e.0) (x ∷ with_choice xs e) (cond (tx_eq x.0 e.0) ((x.0, option_or x.1 e.1) ∷ xs) (e ∷ x ∷ xs)) (λ (m : TxMap (Option Choice)). AllByRecursion (λ e. IsWellFormedClaim key version e.0 e.1) m)
    (λ less. (h.0, claims-with key version xs e h.1 w))
    (λ over. cond_both (tx_eq x.0 e.0) ((x.0, option_or x.1 e.1) ∷ xs) (e ∷ x ∷ xs) (λ (m : TxMap (Option Choice)). AllByRecursion (λ e. IsWellFormedClaim key version e.0 e.1) m)
    (λ same. (claim-or key version x.0 x.1 e.1 h.0 (subst (λ t. IsWellFormedClaim key version t e.1) (sym ((Decides-tx x.0 e.0).0 same)) w), h.1)) (λ other. (w, h)))

claims-fold : (key : Key) (version : ℕ) (more claims : TxMap (Option Choice)) → AllByRecursion (λ e. IsWellFormedClaim key version e.0 e.1) claims
    → AllByRecursion (λ e. IsWellFormedClaim key version e.0 e.1) more → AllByRecursion (λ e. IsWellFormedClaim key version e.0 e.1) (fold with_choice claims more)
claims-fold key version [] claims h w = h
claims-fold key version (e ∷ es) claims h w = claims-fold key version es (with_choice claims e) (claims-with key version claims e h w.0) w.1

claim-reported : (key : Key) (version : ℕ) (e : TxId × Mark) → IsWellFormedEntry key version e.0 e.1
    → HoldsIn (λ (c : TxId × Option Choice). IsWellFormedClaim key version c.0 c.1) (option_map (λ (choice : Choice). (e.0, Some choice)) (choice_in e.1))
claim-reported key version (tx, Mark.Reject) h = tt
claim-reported key version (tx, Mark.Accept choice) h = h

claims-reported : (key : Key) (version : ℕ) (reports : List Report) (claims : TxMap (Option Choice)) → AllByRecursion (λ report. AreMarks key version report.votes) reports
    → AllByRecursion (λ e. IsWellFormedClaim key version e.0 e.1) claims
    → AllByRecursion (λ e. IsWellFormedClaim key version e.0 e.1) (fold (λ claims report. union claims (claims_reported report)) claims reports)
claims-reported key version [] claims w h = h
claims-reported key version (report ∷ reports) claims w h =
    claims-reported key version reports (union claims (claims_reported report)) w.1
    (each-union (λ (e : TxId × Option Choice). IsWellFormedClaim key version e.0 e.1) claims (claims_reported report) h
    (each-filter_map (λ (e : TxId × Mark). IsWellFormedEntry key version e.0 e.1) (λ (e : TxId × Option Choice). IsWellFormedClaim key version e.0 e.1)
    (λ (e : TxId × Mark). option_map (λ (choice : Choice). (e.0, Some choice)) (choice_in e.1)) report.votes (claim-reported key version) w.0.0))

claims-marked : (cluster : Cluster) (facts : List Fact) (key : Key) (version : ℕ) (claims : TxMap (Option Choice)) (options : Options) → AreMarks key version options
    → AllByRecursion (λ e. IsWellFormedClaim key version e.0 e.1) claims → AreMarks key version (fold (with_claim cluster facts key version) options claims)
claims-marked cluster facts key version [] options h w = h
claims-marked cluster facts key version (e ∷ es) options h w =
    claims-marked cluster facts key version es (with_claim cluster facts key version options e) (claimed-marks cluster facts key version options e h w.0) w.1

-- the first structure of a ballot, where it is not crowded
pub first-made : (cluster : Cluster) (facts : List Fact) (key : Key) (version : ℕ) (pending : TxMap (Option Choice)) (reports : List Report) → version < 2 ^ 64
    → AllByRecursion (λ e. IsWellFormedClaim key version e.0 e.1) pending → AllByRecursion (λ report. AreMarks key version report.votes) reports
    → is_crowded (first_structure cluster facts key version pending reports) ≡ false
    → IsWellFormedMade key version (first_structure cluster facts key version pending reports)
first-made cluster facts key version pending reports fits h w room =
    let claims = claims-fold key version (choices_reported reports) (fold with_choice [] pending) (claims-fold key version pending [] tt h) (claims-reported key version reports [] w tt) in
    let marks = claims-marked cluster facts key version (all_claims pending reports) (forced_of cluster.quorums reports) (forced-marks cluster.quorums key version reports w) claims in
    record {
      version_fits = fits;
      options_itself = record { count = count-fits (first_structure cluster facts key version pending reports) room; each = marks.0; ascending = marks.1 };
      room = room;
    }
