-- Several centres, each with what it does: its turn, or what is pending at the end.
use Rattle.std.proofs.Common.{◌≡◌, ◌≢◌, ℕ, ◌+◌, ◌≤◌, ◌<◌, List, [], ◌∷◌, ◌++◌, Result, Ok, Err, length, refl, sym, ◌∙◌, ap, subst, arith, IsTrue, append-nil, append_assoc, get_or, length-append, set}
use Rattle.std.proofs.Math.Seq.{get_or-append_seam, set-append_seam}
use Rattle.std.specs.List.{AllByRecursion}
use Rattle.mdcc_base.specs.Counts.{sum_over}
use Rattle.mdcc_def_messages.specs.declared.facts.Fact.{Fact}
use Rattle.mdcc_option.specs.declared.cluster.Cluster.{Cluster}
use Rattle.mdcc_serve_outbox.proofs.Recorded.{answers_append, sum_append}
use Rattle.mdcc_link.specs.Link.{LinkCall}
use Rattle.mdcc_def_server_runs.specs.Acts.{Act, but_answers, dropped_in, facts_appended, lost_in, steps_in}
use Rattle.mdcc_def_server_runs.specs.Servers.{Server}
use Rattle.mdcc_def_server_runs.specs.Sites.{Doing, Site}
use Rattle.mdcc_serve.proofs.Doings.{AllOwn, AllWhole, each_back, each_both, each_by, each_does, each_front, each_join, each_joined, each_long, front_none}
use Rattle.mdcc_serve.proofs.Others.{elsewhere_in, keeps_none, keeps_one, keeps_then}
use Rattle.mdcc_serve.proofs.Kept.{apart, facts_kept, facts_or_more, site_kept}
use Rattle.mdcc_serve.specs.Centres.{AllFinish, AllLogs, AllStop, AllTold, Ascend, HoldSites, IsServedAt, Places, all_seen, places}
use Rattle.mdcc_serve.specs.Others.{IsNoDiskOfSites, KeepsElsewhere}
use Rattle.mdcc_serve.specs.Stages.{InPart}
use Rattle.mdcc_serve_site.proofs.Going.{comes_under}
use Rattle.mdcc_serve_site.proofs.Joined.{appended_append, appended_answers, did_broke, did_nothing, did_then, facts_expected, facts_then}
use Rattle.mdcc_serve_site.specs.Causes.{in_flight}
use Rattle.mdcc_serve_site.specs.Logs.{MayHaveFacts, facts_after, with_facts}
use Rattle.mdcc_serve_site.specs.Moments.{Adds, Broke, Caused, Did, DiskPasses, KeepsOthers, Leaves, MayComeAt, Moment, Outside, Passes}
use Rattle.mdcc_serve_site.specs.SiteState.{Finishes, Goes, HoldsSite, SiteLog, Stops, place, seen}
use Rattle.mdcc_serve_site.specs.declared.fault.ServeFault.{ServeFault}
use Rattle.mdcc_serve_site.specs.declared.site.Site.{Site as TheSite}

-- ---- in the part of one

-- what was done before it, and a prefix of it
pub in_part : (first part before acts rest : List Act) → but_answers before ≡ first → but_answers acts ++ rest ≡ part → InPart first part (before ++ acts) rest
in_part first part before acts rest done are =
    record { some = but_answers acts; done = answers_append before acts ∙ ap (λ (xs : List Act). xs ++ but_answers acts) done; are = are }

-- after what was done before that
pub part_then : (first earlier part before acts rest : List Act) → but_answers before ≡ first → InPart earlier part acts rest → InPart (first ++ earlier) part (before ++ acts) rest
part_then first earlier part before acts rest done is = record {
  some = is.some;
  done =
      answers_append before acts
      ∙ (ap (λ (xs : List Act). xs ++ but_answers acts) done ∙ (ap (λ (xs : List Act). first ++ xs) is.done ∙ sym (append_assoc first earlier is.some)));
  are = is.are;
}

-- ---- counts

counts_one : (f : TheSite → ℕ) (n : ℕ) (xs ys : List TheSite) (old new : TheSite) → Adds n (f old) (f new) → Adds n (sum_over f (xs ++ old ∷ ys)) (sum_over f (xs ++ new ∷ ys))
counts_one f n xs ys old new adds =
    let a = sum_append f xs (old ∷ ys) in
    let b = sum_append f xs (new ∷ ys) in
    omega (a, b, adds, arith)

module _ {D L O : Type 0} (w : Outside D L O) where
  -- what one centre did, seen of all
  module _ (xs ys : List TheSite) (disks new_disks : D) (held new : TheSite) (link new_link : L) (out new_out : O) where
    abbrev here : Places D L O
    here = places disks (xs ++ held ∷ ys) link out

    abbrev there : Places D L O
    there = places new_disks (xs ++ new ∷ ys) new_link new_out

    passes_all : Passes w (seen (place disks held link out)) (seen (place new_disks new new_link new_out)) → Passes w (all_seen here) (all_seen there)
    passes_all passes = record { told = passes.told; faults = passes.faults; sends = passes.sends; receives = passes.receives; writes = passes.writes }

    leaves_all : {acts : List Act} {failed : List LinkCall} {text : List ℕ} → Leaves w acts failed text (seen (place disks held link out)) (seen (place new_disks new new_link new_out))
        → Leaves w acts failed text (all_seen here) (all_seen there)
    leaves_all {acts = acts} left = record {
      link = left.link;
      output = left.output;
      failed_sends = left.failed_sends;
      steps = counts_one (λ h. h.steps) (steps_in acts) xs ys held new left.steps;
      dropped = counts_one (λ h. h.dropped) (dropped_in acts) xs ys held new left.dropped;
      lost_told = counts_one (λ h. h.sender.lost) (lost_in acts) xs ys held new left.lost_told;
    }

    did_all : {expected : List Act} → Did w expected (seen (place disks held link out)) (seen (place new_disks new new_link new_out)) → Did w expected (all_seen here) (all_seen there)
    did_all did = record { acts = did.acts; are = did.are; left = leaves_all did.left; passes = passes_all did.passes }

    caused_all : (fault : ServeFault) → Caused w fault (seen (place disks held link out)) (seen (place new_disks new new_link new_out)) → Caused w fault (all_seen here) (all_seen there)
    caused_all (ServeFault.Disk a) cause = cause
    caused_all (ServeFault.Log a fault) cause = tt
    caused_all (ServeFault.Boot a fault) cause = tt
    caused_all ServeFault.Link cause = cause
    caused_all ServeFault.Output cause = cause
    caused_all ServeFault.Serial cause = tt
    caused_all ServeFault.Memory cause = tt

    -- with what was to be done
    broke_all : {Told : Type 0} {P : List Act → List Act → Type 0} {expected : List Act} {fault : ServeFault}
        → Broke w Told P expected fault (seen (place disks held link out)) (seen (place new_disks new new_link new_out))
        → Broke w Told (λ acts rest. P acts rest × (but_answers acts ++ rest ≡ expected) × MayComeAt Told fault rest) expected fault (all_seen here) (all_seen there)
    broke_all {fault = fault} broke = record {
      acts = broke.acts;
      rest = broke.rest;
      are = broke.are;
      comes = broke.comes;
      printed_more = broke.printed_more;
      left = leaves_all broke.left;
      passes = passes_all broke.passes;
      cause = caused_all fault broke.cause;
      full = broke.full;
      logs = (broke.logs, broke.are, broke.comes);
    }

  -- ---- the others

  -- these are other centres
  abbrev pub Elsewhere : ℕ → List Site → Type 0
  Elsewhere b sites = AllByRecursion (λ site. (site.centre ≤ 9) × (site.centre ≢ b)) sites

  pub hold_kept : (cluster : Cluster) (old new : D) (b : ℕ) (held : List TheSite) (sites : List Site) → b ≤ 9 → Elsewhere b sites → KeepsOthers w.disk w.may_leave b old new → DiskPasses w.disk w.may_leave old new
      → HoldSites w cluster old held sites → HoldSites w cluster new held sites
  hold_kept cluster old new b [] [] most other keeps passes hold = tt
  hold_kept cluster old new b (h ∷ held) (site ∷ sites) most other keeps passes hold =
      (site_kept w cluster old new h site b (apart site.centre b other.0.0 most other.0.1) keeps passes hold.0, hold_kept cluster old new b held sites most other.1 keeps passes hold.1)
  hold_kept cluster old new b [] (site ∷ sites) most other keeps passes hold = absurd hold
  hold_kept cluster old new b (h ∷ held) [] most other keeps passes hold = absurd hold

  -- one of them
  pub record OneOf (cluster : Cluster) (disks : D) (held : List TheSite) (front : List Site) (site : Site) (back : List Site) : Type 0 where
    pub before : List TheSite
    pub one : TheSite
    pub after : List TheSite
    pub are : held ≡ before ++ one ∷ after
    pub many : length before ≡ length front
    pub hold_front : HoldSites w cluster disks before front
    pub holds : HoldsSite w cluster disks one site
    pub hold_back : HoldSites w cluster disks after back

  pub hold_split : (cluster : Cluster) (disks : D) (held : List TheSite) (front : List Site) (site : Site) (back : List Site) → HoldSites w cluster disks held (front ++ site ∷ back) → OneOf cluster disks held front site back
  hold_split cluster disks (h ∷ held) [] site back hold = record { before = []; one = h; after = held; are = refl; many = refl; hold_front = tt; holds = hold.0; hold_back = hold.1 }
  hold_split cluster disks [] [] site back hold = absurd hold
  hold_split cluster disks (h ∷ held) (first ∷ front) site back hold =
      let rest = hold_split cluster disks held front site back hold.1 in
      record {
        before = h ∷ rest.before;
        one = rest.one;
        after = rest.after;
        are = ap (λ (hs : List TheSite). h ∷ hs) rest.are;
        many = (let e = rest.many in omega (e, arith));
        hold_front = (hold.0, rest.hold_front);
        holds = rest.holds;
        hold_back = rest.hold_back;
      }
  hold_split cluster disks [] (first ∷ front) site back hold = absurd hold

  pub hold_join : (cluster : Cluster) (disks : D) (before : List TheSite) (one : TheSite) (after : List TheSite) (front : List Site) (site : Site) (back : List Site)
      → HoldSites w cluster disks before front → HoldsSite w cluster disks one site → HoldSites w cluster disks after back → HoldSites w cluster disks (before ++ one ∷ after) (front ++ site ∷ back)
  hold_join cluster disks [] one after [] site back first holds last = (holds, last)
  hold_join cluster disks (h ∷ before) one after (s ∷ front) site back first holds last = (first.0, hold_join cluster disks before one after front site back first.1 holds last)
  hold_join cluster disks [] one after (s ∷ front) site back first holds last = absurd first
  hold_join cluster disks (h ∷ before) one after [] site back first holds last = absurd first

  -- ---- those that did their part

  each_elsewhere : {G : Type 0} (does : Site → G → Doing) → AllOwn does → (b : ℕ) (front : List Site) (given : List G) → length front ≡ length given → Elsewhere b front → Elsewhere b (each_does does front given).sites
  each_elsewhere does own b [] given same other = tt
  each_elsewhere does own b (site ∷ front) (g ∷ given) same other =
      let e = (own site g).centre in
      (subst (λ (n : ℕ). (n ≤ 9) × (n ≢ b)) (sym e) other.0, each_elsewhere does own b front given (omega (same, arith)) other.1)
  each_elsewhere does own b (site ∷ front) [] same other = absurd (omega (same, arith))

  pub ascend_later : (n m : ℕ) (sites : List Site) → m ≤ n → Ascend n sites → Elsewhere m sites
  ascend_later n m [] later ascend = tt
  ascend_later n m (site ∷ sites) later ascend =
      let low = ascend.0 in
      ((ascend.1, λ same. absurd (omega (low, later, same, arith))), ascend_later site.centre m sites (omega (low, later, arith)) ascend.2)

  ascend_front : (n : ℕ) (front : List Site) (site : Site) (back : List Site) → Ascend n (front ++ site ∷ back) → (n < site.centre) × Elsewhere site.centre front
  ascend_front n [] site back ascend = (ascend.0, tt)
  ascend_front n (first ∷ front) site back ascend =
      let rest = ascend_front first.centre front site back ascend.2 in
      let low = ascend.0 in
      let high = rest.0 in
      (omega (low, high, arith), ((ascend.1, λ same. absurd (omega (high, same, arith))), rest.1))

  ascend_back : (n : ℕ) (front : List Site) (site : Site) (back : List Site) → Ascend n (front ++ site ∷ back) → (site.centre ≤ 9) × Elsewhere site.centre back
  ascend_back n [] site back ascend = (ascend.1, ascend_later site.centre site.centre back (omega arith) ascend.2)
  ascend_back n (first ∷ front) site back ascend = ascend_back first.centre front site back ascend.2

  -- another centre's log is not written to
  pub each_quiet : {G : Type 0} (does : Site → G → Doing) → AllOwn does → (b : ℕ) (front : List Site) (given : List G) → length front ≡ length given → Elsewhere b front → facts_appended b (each_does does front given).acts ≡ []
  each_quiet does own b [] given same other = refl
  each_quiet does own b (site ∷ front) (g ∷ given) same other =
      appended_append b (does site g).acts (each_does does front given).acts
      ∙ (ap (λ (fs : List Fact). fs ++ facts_appended b (each_does does front given).acts) ((own site g).others b (λ is. other.0.1 (sym is)))
      ∙ each_quiet does own b front given (omega (same, arith)) other.1)
  each_quiet does own b (site ∷ front) [] same other = absurd (omega (same, arith))

  -- whatever a crash leaves, the log of a centre has its facts and those that were appended
  abbrev pub HasLog : D → D → List Act → Site → Type 0
  HasLog old new acts site = IsTrue (w.disk old site.centre).told → MayHaveFacts w.disk w.may_leave new site.centre (facts_after site.centre site.logged acts) []

  hold_logs : (cluster : Cluster) (disks : D) (held : List TheSite) (sites : List Site) → HoldSites w cluster disks held sites → AllByRecursion (HasLog disks disks []) sites
  hold_logs cluster disks [] [] hold = tt
  hold_logs cluster disks (h ∷ held) (site ∷ sites) hold = (hold.0.log.open_log.left, hold_logs cluster disks held sites hold.1)
  hold_logs cluster disks [] (site ∷ sites) hold = absurd hold
  hold_logs cluster disks (h ∷ held) [] hold = absurd hold

  -- where others append
  log_elsewhere : (old mid new : D) (b : ℕ) (first acts : List Act) (next : List Fact) (site : Site) → b ≤ 9 → (site.centre ≤ 9) × (site.centre ≢ b) → KeepsOthers w.disk w.may_leave b mid new → facts_appended site.centre acts ≡ []
      → HasLog old mid first site → IsTrue (w.disk old site.centre).told → MayHaveFacts w.disk w.may_leave new site.centre (facts_after site.centre site.logged (first ++ acts)) next
  log_elsewhere old mid new b first acts next site most other keeps quiet has told =
      facts_or_more w.disk w.may_leave new site.centre (facts_after site.centre site.logged (first ++ acts)) next
      (subst (λ (fs : List Fact). MayHaveFacts w.disk w.may_leave new site.centre fs [])
      (sym (facts_then site.centre site.logged first acts ∙ ap (with_facts (facts_after site.centre site.logged first)) quiet))
      (facts_kept w.disk w.may_leave mid new site.centre b (facts_after site.centre site.logged first) [] (apart site.centre b other.0 most other.1) keeps (has told)))

  -- after the parts of the first ones
  pub record HaveGone {G : Type 0} (does : Site → G → Doing) (cluster : Cluster) (start now : Places D L O) (served : List Site) (index : ℕ) : Type 0 where
    pub front : List Site
    pub back : List Site
    pub given : List G
    pub are : served ≡ front ++ back
    pub many : length front ≡ index
    pub as_many : length given ≡ index
    pub did : Did w (each_does does front given).acts (all_seen start) (all_seen now)
    pub hold : HoldSites w cluster now.disks now.held ((each_does does front given).sites ++ back)
    pub logs : AllByRecursion (HasLog start.disks now.disks (each_does does front given).acts) served
    pub others : KeepsElsewhere w.disk w.may_leave served start.disks now.disks

  -- what is held has its pending facts
  pub hold_whole : (cluster : Cluster) (disks : D) (held : List TheSite) (sites : List Site) → HoldSites w cluster disks held sites → AllWhole sites
  hold_whole cluster disks [] [] hold = tt
  hold_whole cluster disks (h ∷ held) (site ∷ sites) hold = (hold.0.itself.waits.all, hold_whole cluster disks held sites hold.1)
  hold_whole cluster disks [] (site ∷ sites) hold = absurd hold
  hold_whole cluster disks (h ∷ held) [] hold = absurd hold

  hold_long : (cluster : Cluster) (disks : D) (held : List TheSite) (sites : List Site) → HoldSites w cluster disks held sites → length held ≡ length sites
  hold_long cluster disks [] [] hold = refl
  hold_long cluster disks (h ∷ held) (site ∷ sites) hold = let e = hold_long cluster disks held sites hold.1 in omega (e, arith)
  hold_long cluster disks [] (site ∷ sites) hold = absurd hold
  hold_long cluster disks (h ∷ held) [] hold = absurd hold

  -- where one is left
  pub some_back : {G : Type 0} (does : Site → G → Doing) (cluster : Cluster) (start now : Places D L O) (served : List Site) (index : ℕ) → (gone : HaveGone does cluster start now served index) → index < length now.held
      → (site : Site) × (back : List Site) × (gone.back ≡ site ∷ back)
  some_back does cluster start now served index gone within = by_back gone.back refl
    where
      by_back : (back : List Site) → gone.back ≡ back → (site : Site) × (rest : List Site) × (gone.back ≡ site ∷ rest)
      by_back (site ∷ rest) is = (site, rest, is)
      by_back [] is =
          let a = hold_long cluster now.disks now.held ((each_does does gone.front gone.given).sites ++ gone.back) gone.hold in
          let b = length-append (each_does does gone.front gone.given).sites gone.back in
          let c = each_long does gone.front gone.given in
          let d = gone.many in
          let e : length gone.back ≡ 0 = ap (λ (sites : List Site). length sites) is in
          absurd (omega (a, b, c, d, e, within, arith))

  -- none is left
  pub all_gone : {G : Type 0} (does : Site → G → Doing) (cluster : Cluster) (start now : Places D L O) (served : List Site) (index : ℕ) → (gone : HaveGone does cluster start now served index) → length now.held ≤ index
      → (length gone.given ≡ length served) × AllFinish w cluster served (each_does does served gone.given) start now
  all_gone does cluster start now served index gone over = (
    (let e = gone.many in let f = gone.as_many in let g : length served ≡ length gone.front = ap (λ (sites : List Site). length sites) front_is in omega (e, f, g, arith)),
    subst (λ (sites : List Site). AllFinish w cluster served (each_does does sites gone.given) start now) (sym front_is)
        (record { did = gone.did; stand = subst (λ (sites : List Site). HoldSites w cluster now.disks now.held sites) whole gone.hold; others = gone.others }),
  )
    where
      by_back : (back : List Site) → gone.back ≡ back → gone.back ≡ []
      by_back [] is = is
      by_back (site ∷ rest) is =
          let a = hold_long cluster now.disks now.held ((each_does does gone.front gone.given).sites ++ gone.back) gone.hold in
          let b = length-append (each_does does gone.front gone.given).sites gone.back in
          let c = each_long does gone.front gone.given in
          let d = gone.many in
          let e : length gone.back ≡ length (site ∷ rest) = ap (λ (sites : List Site). length sites) is in
          absurd (omega (a, b, c, d, e, over, arith))

      none : gone.back ≡ []
      none = by_back gone.back refl

      front_is : served ≡ gone.front
      front_is = gone.are ∙ (ap (λ (sites : List Site). gone.front ++ sites) none ∙ append-nil gone.front)

      whole : (each_does does gone.front gone.given).sites ++ gone.back ≡ (each_does does gone.front gone.given).sites
      whole = ap (λ (sites : List Site). (each_does does gone.front gone.given).sites ++ sites) none ∙ append-nil (each_does does gone.front gone.given).sites

  disks_pass : (old new : Moment D L O) → Passes w old new → DiskPasses w.disk w.may_leave old.disks new.disks
  disks_pass old new passes = record { told = passes.told; faults = passes.faults }

  pub none_gone : {G : Type 0} (does : Site → G → Doing) (cluster : Cluster) (start : Places D L O) (served : List Site) → HoldSites w cluster start.disks start.held served → HaveGone does cluster start start served 0
  none_gone does cluster start served hold = record {
    front = [];
    back = served;
    given = [];
    are = refl;
    many = refl;
    as_many = refl;
    did = did_nothing w (all_seen start);
    hold = hold;
    logs = hold_logs cluster start.disks start.held served hold;
    others = keeps_none w.disk w.may_leave (IsNoDiskOfSites served) start.disks;
  }

  -- one more
  module _ {G : Type 0} (does : Site → G → Doing) (own : AllOwn does) (cluster : Cluster) (start : Places D L O) (served : List Site) (ascend : Ascend 0 served) (index : ℕ) (disks : D) (held : List TheSite) (link : L) (out : O)
      (gone : HaveGone does cluster start (places disks held link out) served index)
      (site : Site) (back : List Site) (are : gone.back ≡ site ∷ back)
    where
      whole : served ≡ gone.front ++ site ∷ back
      whole = gone.are ∙ ap (λ (sites : List Site). gone.front ++ sites) are

      same_length : length gone.front ≡ length gone.given
      same_length = gone.many ∙ sym gone.as_many

      pub ours : OneOf cluster disks held (each_does does gone.front gone.given).sites site back
      ours = hold_split cluster disks held (each_does does gone.front gone.given).sites site back
          (subst (λ (sites : List Site). HoldSites w cluster disks held ((each_does does gone.front gone.given).sites ++ sites)) are gone.hold)

      index_is : index ≡ length ours.before
      index_is = let a = ours.many in let b = each_long does gone.front gone.given in let c = gone.many in omega (a, b, c, arith)

      -- it is where the index says
      pub one_at : (d : TheSite) → get_or held index d ≡ ours.one
      one_at d =
          ap (λ (hs : List TheSite). get_or hs index d) ours.are
          ∙ (ap (λ (n : ℕ). get_or (ours.before ++ ours.one ∷ ours.after) n d) index_is ∙ get_or-append_seam ours.before ours.one ours.after d)

      pub set_at : (new : TheSite) → set held index new ≡ ours.before ++ new ∷ ours.after
      set_at new =
          ap (λ (hs : List TheSite). set hs index new) ours.are
          ∙ (ap (λ (n : ℕ). set (ours.before ++ ours.one ∷ ours.after) n new) index_is ∙ set-append_seam ours.before ours.one ours.after new)

      abbrev first_acts : List Act
      first_acts = (each_does does gone.front gone.given).acts

      low : site.centre ≤ 9
      low = (ascend_back 0 gone.front site back (subst (Ascend 0) whole ascend)).0

      -- the disks of none of them stay
      others_then : (new_disks : D) → KeepsOthers w.disk w.may_leave site.centre disks new_disks → KeepsElsewhere w.disk w.may_leave served start.disks new_disks
      others_then new_disks keeps =
          keeps_then w.disk w.may_leave (IsNoDiskOfSites served) start.disks disks new_disks gone.others
          (keeps_one w.disk w.may_leave (IsNoDiskOfSites served) site.centre disks new_disks (λ p is. elsewhere_in served gone.front site back p whole is) keeps)

      pub one_gone : (given : G) (new_disks : D) (new : TheSite) (new_link : L) (new_out : O)
          → Finishes w cluster site (does site given) (place disks ours.one link out) (place new_disks new new_link new_out)
          → HaveGone does cluster start (places new_disks (ours.before ++ new ∷ ours.after) new_link new_out) served (index + 1)
      one_gone given new_disks new new_link new_out one = record {
        front = gone.front ++ site ∷ [];
        back = back;
        given = gone.given ++ given ∷ [];
        are = whole ∙ sym (append_assoc gone.front (site ∷ []) back);
        many = (let e = length-append gone.front (site ∷ []) in let f = gone.many in omega (e, f, arith));
        as_many = (let e = length-append gone.given (given ∷ []) in let f = gone.as_many in omega (e, f, arith));
        did = subst (λ (acts : List Act). Did w acts (all_seen start) (all_seen (places new_disks (ours.before ++ new ∷ ours.after) new_link new_out))) (sym acts_are)
            (did_then w gone.did (subst (λ (hs : List TheSite). Did w (does site given).acts (all_seen (places disks hs link out)) (all_seen (places new_disks (ours.before ++ new ∷ ours.after) new_link new_out))) (sym ours.are)
            (did_all ours.before ours.after disks new_disks ours.one new link new_link out new_out one.did)));
        hold = subst (λ (sites : List Site). HoldSites w cluster new_disks (ours.before ++ new ∷ ours.after) sites) (sym sites_are)
            (hold_join cluster new_disks ours.before new ours.after (each_does does gone.front gone.given).sites (does site given).site back
            (hold_kept cluster disks new_disks site.centre ours.before (each_does does gone.front gone.given).sites low front_other one.others passes ours.hold_front) one.stands
            (hold_kept cluster disks new_disks site.centre ours.after back low back_other one.others passes ours.hold_back));
        logs = logs;
        others = others_then new_disks one.others;
      }
        where
          passes : DiskPasses w.disk w.may_leave disks new_disks
          passes = record { told = one.did.passes.told; faults = one.did.passes.faults }

          front_other : Elsewhere site.centre (each_does does gone.front gone.given).sites
          front_other = each_elsewhere does own site.centre gone.front gone.given same_length (ascend_front 0 gone.front site back (subst (Ascend 0) whole ascend)).1

          back_other : Elsewhere site.centre back
          back_other = (ascend_back 0 gone.front site back (subst (Ascend 0) whole ascend)).1

          joined : each_does does (gone.front ++ site ∷ []) (gone.given ++ given ∷ [])
              ≡ record { acts = (each_does does gone.front gone.given).acts ++ ((does site given).acts ++ []); sites = (each_does does gone.front gone.given).sites ++ (does site given).site ∷ [] }
          joined = each_joined does gone.front (site ∷ []) gone.given (given ∷ []) same_length

          acts_are : (each_does does (gone.front ++ site ∷ []) (gone.given ++ given ∷ [])).acts ≡ (each_does does gone.front gone.given).acts ++ (does site given).acts
          acts_are = ap (λ (s : Server). s.acts) joined ∙ ap (λ (acts : List Act). (each_does does gone.front gone.given).acts ++ acts) (append-nil (does site given).acts)

          sites_are : (each_does does (gone.front ++ site ∷ []) (gone.given ++ given ∷ [])).sites ++ back ≡ (each_does does gone.front gone.given).sites ++ (does site given).site ∷ back
          sites_are = ap (λ (s : Server). s.sites ++ back) joined ∙ append_assoc (each_does does gone.front gone.given).sites ((does site given).site ∷ []) back

          elsewhere : (s : Site) → (HasLog start.disks disks first_acts s) × ((s.centre ≤ 9) × (s.centre ≢ site.centre)) → HasLog start.disks new_disks (first_acts ++ (does site given).acts) s
          elsewhere s h told = log_elsewhere start.disks disks new_disks site.centre first_acts (does site given).acts [] s low h.1 one.others ((own site given).others s.centre h.1.1) h.0 told

          itself : HasLog start.disks new_disks (first_acts ++ (does site given).acts) site
          itself told =
              let owns = own site given in
              let now : IsTrue (w.disk new_disks site.centre).told = subst IsTrue (sym (passes.told site.centre ∙ gone.did.passes.told site.centre)) told in
              let has = one.stands.log.open_log.left (subst (λ (n : ℕ). IsTrue (w.disk new_disks n).told) (sym owns.centre) now) in
              let quiet = each_quiet does own site.centre gone.front gone.given same_length (ascend_front 0 gone.front site back (subst (Ascend 0) whole ascend)).1 in
              subst (λ (fs : List Fact). MayHaveFacts w.disk w.may_leave new_disks site.centre fs [])
              (owns.logged ours.holds.itself.waits.all ∙ sym (facts_then site.centre site.logged first_acts (does site given).acts ∙ ap (λ (fs : List Fact). facts_after site.centre (with_facts site.logged fs) (does site given).acts) quiet))
              (subst (λ (n : ℕ). MayHaveFacts w.disk w.may_leave new_disks n (does site given).site.logged []) owns.centre has)

          before : AllByRecursion (HasLog start.disks disks first_acts) (gone.front ++ site ∷ back)
          before = subst (λ (sites : List Site). AllByRecursion (HasLog start.disks disks first_acts) sites) whole gone.logs

          logs : AllByRecursion (HasLog start.disks new_disks (each_does does (gone.front ++ site ∷ []) (gone.given ++ given ∷ [])).acts) served
          logs =
              subst (λ (acts : List Act). AllByRecursion (HasLog start.disks new_disks acts) served) (sym acts_are)
              (subst (λ (sites : List Site). AllByRecursion (HasLog start.disks new_disks (first_acts ++ (does site given).acts)) sites) (sym whole)
              (each_join _ gone.front (site ∷ back)
              (each_by gone.front (each_both _ _ gone.front (each_front _ gone.front (site ∷ back) before) (ascend_front 0 gone.front site back (subst (Ascend 0) whole ascend)).1) elsewhere)
              (itself, each_by back (each_both _ _ back (each_back _ gone.front (site ∷ back) before).1 back_other) elsewhere)))

      -- what its log has then, of what it was to do
      abbrev pub SiteDoes : G → ServeFault → D → List Act → List Act → Type 0
      SiteDoes given fault new_disks acts rest = SiteLog w site fault disks new_disks acts rest × (but_answers acts ++ rest ≡ (does site given).acts) × MayComeAt (IsTrue (w.disk disks site.centre).told) fault rest

      -- it ended in its own part
      pub one_stopped : (given : G) (fault : ServeFault) (new_disks : D) (new : TheSite) (new_link : L) (new_out : O)
          → Stops w site (does site given) fault (place disks ours.one link out) (place new_disks new new_link new_out)
          → AllStop w served first_acts (does site given) fault start (places new_disks (ours.before ++ new ∷ ours.after) new_link new_out)
      one_stopped given fault new_disks new new_link new_out one = record {
        broke = did_broke w here parts gone.did
            (subst (λ (hs : List TheSite). Broke w (IsTrue (w.disk disks site.centre).told) (SiteDoes given fault new_disks) (does site given).acts fault (all_seen (places disks hs link out)) (all_seen (places new_disks (ours.before ++ new ∷ ours.after) new_link new_out))) (sym ours.are)
            (broke_all ours.before ours.after disks new_disks ours.one new link new_link out new_out one.broke));
        serials = one.serials;
        no_boot = one.no_boot;
        others = others_then new_disks one.others;
      }
        where
          here : (rest : List Act) → MayComeAt (IsTrue (w.disk disks site.centre).told) fault rest → MayComeAt (AllTold w start.disks served) fault rest
          here rest comes = comes_under fault rest (λ (all : AllTold w start.disks served). subst IsTrue (sym (gone.did.passes.told site.centre)) (each_back _ gone.front (site ∷ back) (subst (λ (sites : List Site). AllTold w start.disks sites) whole all)).0) comes

          other_sites : Elsewhere site.centre gone.front × Elsewhere site.centre back
          other_sites = ((ascend_front 0 gone.front site back (subst (Ascend 0) whole ascend)).1, (ascend_back 0 gone.front site back (subst (Ascend 0) whole ascend)).1)

          logs : (before acts rest : List Act) → but_answers before ≡ first_acts → SiteDoes given fault new_disks acts rest → AllLogs w served fault start.disks new_disks (before ++ acts) rest
          logs before acts rest are q =
              subst (λ (sites : List Site). AllLogs w sites fault start.disks new_disks (before ++ acts) rest) (sym whole)
              (each_join _ gone.front (site ∷ back)
              (each_by gone.front (each_both _ _ gone.front (each_front _ gone.front (site ∷ back) had) other_sites.0) elsewhere)
              (itself, each_by back (each_both _ _ back (each_back _ gone.front (site ∷ back) had).1 other_sites.1) elsewhere))
            where
              had : AllByRecursion (HasLog start.disks disks first_acts) (gone.front ++ site ∷ back)
              had = subst (λ (sites : List Site). AllByRecursion (HasLog start.disks disks first_acts) sites) whole gone.logs

              same_facts : (c : ℕ) (facts : List Fact) → facts_after c facts (first_acts ++ acts) ≡ facts_after c facts (before ++ acts)
              same_facts c facts =
                  facts_then c facts first_acts acts
                  ∙ (ap (λ (fs : List Fact). facts_after c fs acts) (sym (facts_expected c facts before first_acts are)) ∙ sym (facts_then c facts before acts))

              silent : (c : ℕ) → c ≢ site.centre → facts_appended c acts ≡ []
              silent c other =
                  sym (appended_answers c acts)
                  ∙ front_none (facts_appended c (but_answers acts)) (facts_appended c rest) (sym (appended_append c (but_answers acts) rest) ∙ (ap (facts_appended c) q.1 ∙ (own site given).others c other))

              elsewhere : (s : Site) → (HasLog start.disks disks first_acts s) × ((s.centre ≤ 9) × (s.centre ≢ site.centre))
                  → IsTrue (w.disk start.disks s.centre).told → MayHaveFacts w.disk w.may_leave new_disks s.centre (facts_after s.centre s.logged (before ++ acts)) (in_flight fault s.centre rest)
              elsewhere s h told =
                  subst (λ (fs : List Fact). MayHaveFacts w.disk w.may_leave new_disks s.centre fs (in_flight fault s.centre rest)) (same_facts s.centre s.logged)
                  (log_elsewhere start.disks disks new_disks site.centre first_acts acts (in_flight fault s.centre rest) s low h.1 one.others (silent s.centre h.1.1) h.0 told)

              itself : IsTrue (w.disk start.disks site.centre).told → MayHaveFacts w.disk w.may_leave new_disks site.centre (facts_after site.centre site.logged (before ++ acts)) (in_flight fault site.centre rest)
              itself told =
                  let quiet = each_quiet does own site.centre gone.front gone.given same_length other_sites.0 in
                  subst (λ (fs : List Fact). MayHaveFacts w.disk w.may_leave new_disks site.centre fs (in_flight fault site.centre rest))
                  (sym (facts_then site.centre site.logged first_acts acts ∙ ap (λ (fs : List Fact). facts_after site.centre (with_facts site.logged fs) acts) quiet) ∙ same_facts site.centre site.logged)
                  (q.0 (subst IsTrue (sym (gone.did.passes.told site.centre)) told))

          parts : (before acts rest : List Act) → but_answers before ≡ first_acts → SiteDoes given fault new_disks acts rest
              → AllLogs w served fault start.disks new_disks (before ++ acts) rest × InPart first_acts (does site given).acts (before ++ acts) rest
          parts before acts rest are q = (logs before acts rest are q, in_part first_acts (does site given).acts before acts rest are q.1)

  -- ---- the next one, where it is held

  -- it did its part, and is held there afterwards
  pub record GoesAt {G : Type 0} (does : Site → G → Doing) (cluster : Cluster) (one : TheSite) (site : Site) (index : ℕ) (result : Result (Unit {0}) ServeFault) (old new : Places D L O) : Type 0 where
    pub given : G
    pub next : TheSite
    pub held : new.held ≡ set old.held index next
    pub goes : Goes w cluster site (does site given) result (place old.disks one old.link old.out) (place new.disks next new.link new.out)

  -- The first ones did their parts, and one ended in its own.
  pub record MidRound {G : Type 0} (does : Site → G → Doing) (served : List Site) (fault : ServeFault) (start new : Places D L O) : Type 0 where
    pub front : List Site
    pub site : Site
    pub back : List Site
    pub are : served ≡ front ++ site ∷ back
    pub earlier : List G
    pub as_many : length earlier ≡ length front
    pub given : G
    pub stop : AllStop w served (each_does does front earlier).acts (does site given) fault start new

  module _ {G : Type 0} (does : Site → G → Doing) (own : AllOwn does) (cluster : Cluster) (start now new : Places D L O) (served : List Site) (index : ℕ) (ascend : Ascend 0 served) (gone : HaveGone does cluster start now served index) (within : index < length now.held) where
    next_site : (site : Site) × (back : List Site) × (gone.back ≡ site ∷ back)
    next_site = some_back does cluster start now served index gone within

    abbrev next_one : OneOf cluster now.disks now.held (each_does does gone.front gone.given).sites next_site.0 next_site.1
    next_one = ours does own cluster start served ascend index now.disks now.held now.link now.out gone next_site.0 next_site.1 next_site.2

    next_at : (d : TheSite) → get_or now.held index d ≡ next_one.one
    next_at d = one_at does own cluster start served ascend index now.disks now.held now.link now.out gone next_site.0 next_site.1 next_site.2 d

    pub next_served : IsServedAt w cluster now.disks now.held index
    next_served = record { one = next_one.one; is = next_at; served = record { site = next_site.0; stands = next_one.holds } }

    -- what is held then
    held_then : (next : TheSite) → new.held ≡ set now.held index next → new.held ≡ next_one.before ++ next ∷ next_one.after
    held_then next is =
        is ∙ set_at does own cluster start served ascend index now.disks now.held now.link now.out gone next_site.0 next_site.1 next_site.2 next

    pub next_gone : (done : Unit {0}) → ((one : TheSite) (site : Site) → ((d : TheSite) → get_or now.held index d ≡ one) → HoldsSite w cluster now.disks one site → GoesAt does cluster one site index (Ok done) now new)
        → HaveGone does cluster start new served (index + 1)
    next_gone done each =
        let went : GoesAt does cluster next_one.one next_site.0 index (Ok done) now new = each next_one.one next_site.0 next_at next_one.holds in
        subst (λ (hs : List TheSite). HaveGone does cluster start (places new.disks hs new.link new.out) served (index + 1)) (sym (held_then went.next went.held))
        (one_gone does own cluster start served ascend index now.disks now.held now.link now.out gone next_site.0 next_site.1 next_site.2 went.given new.disks went.next new.link new.out went.goes)

    -- it ended in its own part
    pub next_stopped : (fault : ServeFault)
        → ((one : TheSite) (site : Site) → ((d : TheSite) → get_or now.held index d ≡ one) → HoldsSite w cluster now.disks one site → GoesAt does cluster one site index (Err fault) now new)
        → MidRound does served fault start new
    next_stopped fault each =
        let went : GoesAt does cluster next_one.one next_site.0 index (Err fault) now new = each next_one.one next_site.0 next_at next_one.holds in
        record {
          front = gone.front;
          site = next_site.0;
          back = next_site.1;
          are = gone.are ∙ ap (λ (sites : List Site). gone.front ++ sites) next_site.2;
          earlier = gone.given;
          as_many = gone.as_many ∙ sym gone.many;
          given = went.given;
          stop = subst (λ (hs : List TheSite). AllStop w served (each_does does gone.front gone.given).acts (does next_site.0 went.given) fault start (places new.disks hs new.link new.out)) (sym (held_then went.next went.held))
              (one_stopped does own cluster start served ascend index now.disks now.held now.link now.out gone next_site.0 next_site.1 next_site.2 went.given fault new.disks went.next new.link new.out went.goes);
        }
