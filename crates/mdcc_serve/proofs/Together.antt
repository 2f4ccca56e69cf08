-- Centres that start one after another.
use Rattle.std.proofs.Common.{◌≡◌, ◌≢◌, ℕ, ◌+◌, ◌≤◌, ◌<◌, ◌==◌, false, List, [], ◌∷◌, ◌++◌, length, refl, sym, ◌∙◌, ap, subst, inl, inr, arith, IsTrue, append-nil, append_assoc, length-append}
use Rattle.std.proofs.lemmas.Bool.{cases_Bool, cases_eq, eqb-true}
use Rattle.std.specs.List.{AllByRecursion}
use Rattle.mdcc_log_file.specs.Area.{payloads}
use Rattle.mdcc_log_file.specs.declared.fault.LogFault.{LogFault}
use Rattle.mdcc_disks.specs.Disks.{Disk}
use Rattle.mdcc_def_messages.specs.declared.facts.Fact.{Fact}
use Rattle.mdcc_option.specs.declared.cluster.Cluster.{Cluster}
use Rattle.mdcc_def_rules.specs.Boot.{next_boot}
use Rattle.mdcc_def_rules.specs.declared.node.BootFault.{BootFault}
use Rattle.mdcc_def_server_runs.specs.Acts.{Act, facts_appended}
use Rattle.mdcc_def_server_runs.specs.Servers.{Log, site_of, starts}
use Rattle.mdcc_def_server_runs.specs.Sites.{Site}
use Rattle.mdcc_serve.proofs.Kept.{apart, facts_kept, facts_or_more, log_kept}
use Rattle.mdcc_serve.proofs.Doings.{each_front as each_front_site}
use Rattle.mdcc_serve.proofs.Opened.{durable_has}
use Rattle.mdcc_serve.proofs.Others.{elsewhere_in, keeps_fewer, keeps_none, keeps_one, keeps_then, unserved_logs}
use Rattle.mdcc_serve.proofs.Started.{caused_on, passes_on}
use Rattle.mdcc_serve.specs.Others.{IsNoDiskOf, IsNoDiskOfSites, IsUnserved, KeepsElsewhere, KeepsUnserved}
use Rattle.mdcc_serve.specs.Serving.{AreLogsOf, IsDurable, IsServedLog}
use Rattle.mdcc_serve.specs.Starts.{AreHeld, FailToStart, FailsToStart, Follow, HasStarted, HaveStarted, IsUntouched, IsOfStart, StopOver, StopsOver, starting}
use Rattle.mdcc_serve_site.proofs.Joined.{appended_append}
use Rattle.mdcc_serve_site.proofs.Logged.{disks_same, same_is}
use Rattle.mdcc_serve_site.specs.Causes.{BootsRefused, ComesAt, IsBootRefused, IsSafeAt, in_flight}
use Rattle.mdcc_serve_site.specs.Logs.{MayHaveFacts, facts_after, with_facts}
use Rattle.mdcc_serve_site.specs.Moments.{DiskPasses, KeepsOthers}
use Rattle.mdcc_serve_site.specs.Room.{OnFull}
use Rattle.mdcc_serve_site.specs.SiteState.{HoldsLog}
use Rattle.mdcc_serve_site.specs.declared.fault.ServeFault.{ServeFault}
use Rattle.mdcc_serve_site.specs.declared.site.Site.{Site as TheSite}
use Rattle.mdcc_theorem_node_steps.proofs.Each.{each-append}

-- ---- numbers that follow one another

follow_split : (n : ℕ) (xs : List Log) (l : Log) (ys : List Log) → Follow n (xs ++ l ∷ ys) → l.centre ≡ n + length xs
follow_split n [] l ys f = let e = f.0 in omega (e, arith)
follow_split n (x ∷ xs) l ys f = let ih = follow_split (n + 1) xs l ys f.1 in omega (ih, arith)

follow_more : (n : ℕ) (xs : List Log) (l : Log) → Follow n xs → l.centre ≡ n + length xs → Follow n (xs ++ l ∷ [])
follow_more n [] l f is = (omega (is, arith), tt)
follow_more n (x ∷ xs) l f is = (f.0, follow_more (n + 1) xs l f.1 (omega (is, arith)))

pub follow_front : (n : ℕ) (xs ys : List Log) → Follow n (xs ++ ys) → AllByRecursion (λ log. log.centre < n + length xs) xs
follow_front n [] ys f = tt
follow_front n (x ∷ xs) ys f =
    let e = f.0 in
    let same : n + 1 + length xs ≡ n + length (x ∷ xs) = omega arith in
    (omega (e, arith), subst (λ (m : ℕ). AllByRecursion (λ log. log.centre < m) xs) same (follow_front (n + 1) xs ys f.1))

pub follow_back : (n m : ℕ) (xs : List Log) → m < n → Follow n xs → AllByRecursion (λ log. m < log.centre) xs
follow_back n m [] later f = tt
follow_back n m (x ∷ xs) later f = let e = f.0 in (omega (e, later, arith), follow_back (n + 1) m xs (omega (later, arith)) f.1)

follow_rest : (n : ℕ) (xs ys : List Log) → Follow n (xs ++ ys) → Follow (n + length xs) ys
follow_rest n [] ys f = let same : n ≡ n + 0 = omega arith in subst (λ (m : ℕ). Follow m ys) same f
follow_rest n (x ∷ xs) ys f = let same : n + 1 + length xs ≡ n + length (x ∷ xs) = omega arith in subst (λ (m : ℕ). Follow m ys) same (follow_rest (n + 1) xs ys f.1)

-- ---- the boots that they append

pub boots_append : (xs ys : List Log) → (starts (xs ++ ys)).acts ≡ (starts xs).acts ++ (starts ys).acts
boots_append [] ys = refl
boots_append (x ∷ xs) ys = ap (λ (acts : List Act). Act.Append x.centre (next_boot x.facts ∷ []) ∷ acts) (boots_append xs ys)

pub not_is : (a b : ℕ) → a ≢ b → (a == b) ≡ false
not_is a b other = elim (cases_Bool (a == b)) [
  | inl e ↦ absurd (other (eqb-true a b e))
  | inr e ↦ e
]

sites_append : (xs ys : List Log) → (starts (xs ++ ys)).sites ≡ (starts xs).sites ++ (starts ys).sites
sites_append [] ys = refl
sites_append (x ∷ xs) ys = ap (λ (sites : List Site). site_of x ∷ sites) (sites_append xs ys)

quiet_at : (n c : ℕ) (xs : List Log) → Follow n xs → n + length xs ≤ c → facts_appended c (starts xs).acts ≡ []
quiet_at n c [] f later = refl
quiet_at n c (x ∷ xs) f later = let e = f.0 in rw (not_is x.centre c (λ is. absurd (omega (e, is, later, arith)))) (quiet_at (n + 1) c xs f.1 (omega (later, arith)))

-- the last of them
boots_after : (n : ℕ) (xs : List Log) (l : Log) → Follow n xs → l.centre ≡ n + length xs → facts_after l.centre l.facts (starts (xs ++ l ∷ [])).acts ≡ next_boot l.facts ∷ l.facts
boots_after n xs l f is =
    ap (λ (acts : List Act). facts_after l.centre l.facts acts) (boots_append xs (l ∷ []))
    ∙ ap (with_facts l.facts) (appended_append l.centre (starts xs).acts (starts (l ∷ [])).acts ∙ ap (λ (fs : List Fact). fs ++ facts_appended l.centre (starts (l ∷ [])).acts) (quiet_at n l.centre xs f (omega (is, arith))))
    ∙ rw (same_is l.centre) refl

-- another centre's are not its own
boots_elsewhere : (xs : List Log) (l : Log) (c : ℕ) (facts : List Fact) → l.centre ≢ c → facts_after c facts (starts (xs ++ l ∷ [])).acts ≡ facts_after c facts (starts xs).acts
boots_elsewhere xs l c facts other =
    let none : facts_appended c (starts xs).acts ++ facts_appended c (starts (l ∷ [])).acts ≡ facts_appended c (starts xs).acts = rw (not_is l.centre c other) (append-nil (facts_appended c (starts xs).acts)) in
    ap (λ (acts : List Act). facts_after c facts acts) (boots_append xs (l ∷ [])) ∙ ap (with_facts facts) (appended_append c (starts xs).acts (starts (l ∷ [])).acts ∙ none)

-- it has none of them yet
boots_before : (n : ℕ) (xs : List Log) (l : Log) → Follow n xs → l.centre ≡ n + length xs → facts_after l.centre l.facts (starts xs).acts ≡ l.facts
boots_before n xs l f is = ap (with_facts l.facts) (quiet_at n l.centre xs f (omega (is, arith)))

-- ---- what comes first is the same with more after it

comes_first : (fault : ServeFault) (l : Log) (more : List Log) → ComesAt fault (starting l) → ComesAt fault (starts (l ∷ more)).acts
comes_first (ServeFault.Disk a) l more comes = comes
comes_first (ServeFault.Log a LogFault.LogFull) l more comes = comes
comes_first (ServeFault.Log a LogFault.DiskFault) l more comes = absurd comes
comes_first (ServeFault.Log a LogFault.Memory) l more comes = absurd comes
comes_first (ServeFault.Log a (LogFault.NotALog offset)) l more comes = absurd comes
comes_first (ServeFault.Boot a fault) l more comes = comes
comes_first ServeFault.Link l more comes = absurd comes
comes_first ServeFault.Output l more comes = absurd comes
comes_first ServeFault.Serial l more comes = absurd comes
comes_first ServeFault.Memory l more comes = tt

full_first : {D : Type 0} (disk : D → ℕ → Disk) (may_leave : D → ℕ → List ℕ → Type 0) (every : ℕ) (disks : D) (fault : ServeFault) (l : Log) (more : List Log) → OnFull disk may_leave every disks fault (starting l) → OnFull disk may_leave every disks fault (starts (l ∷ more)).acts
full_first disk may_leave every disks (ServeFault.Disk a) l more full = tt
full_first disk may_leave every disks (ServeFault.Log a LogFault.LogFull) l more full = full
full_first disk may_leave every disks (ServeFault.Log a LogFault.DiskFault) l more full = tt
full_first disk may_leave every disks (ServeFault.Log a LogFault.Memory) l more full = tt
full_first disk may_leave every disks (ServeFault.Log a (LogFault.NotALog offset)) l more full = tt
full_first disk may_leave every disks (ServeFault.Boot a fault) l more full = tt
full_first disk may_leave every disks ServeFault.Link l more full = tt
full_first disk may_leave every disks ServeFault.Output l more full = tt
full_first disk may_leave every disks ServeFault.Serial l more full = tt
full_first disk may_leave every disks ServeFault.Memory l more full = tt

safe_first : (tears : ℕ → Type 0) (fault : ServeFault) (l : Log) (more : List Log) → IsSafeAt tears fault (starts (l ∷ more)).acts → IsSafeAt tears fault (starting l)
safe_first tears (ServeFault.Disk a) l more safe = safe
safe_first tears (ServeFault.Log a fault) l more safe = tt
safe_first tears (ServeFault.Boot a fault) l more safe = tt
safe_first tears ServeFault.Link l more safe = tt
safe_first tears ServeFault.Output l more safe = tt
safe_first tears ServeFault.Serial l more safe = tt
safe_first tears ServeFault.Memory l more safe = safe

flight_first : (fault : ServeFault) (c : ℕ) (l : Log) (more : List Log) → in_flight fault c (starting l) ≡ in_flight fault c (starts (l ∷ more)).acts
flight_first (ServeFault.Disk a) c l more = refl
flight_first (ServeFault.Log a fault) c l more = refl
flight_first (ServeFault.Boot a fault) c l more = refl
flight_first ServeFault.Link c l more = refl
flight_first ServeFault.Output c l more = refl
flight_first ServeFault.Serial c l more = refl
flight_first ServeFault.Memory c l more = refl

-- what holds of each
pub each_by : (P Q : Log → Type 0) (xs : List Log) → AllByRecursion P xs → ((x : Log) → P x → Q x) → AllByRecursion Q xs
each_by P Q [] h f = tt
each_by P Q (x ∷ xs) h f = (f x h.0, each_by P Q xs h.1 f)

pub each_both : (P Q : Log → Type 0) (xs : List Log) → AllByRecursion P xs → AllByRecursion Q xs → AllByRecursion (λ x. P x × Q x) xs
each_both P Q [] h k = tt
each_both P Q (x ∷ xs) h k = ((h.0, k.0), each_both P Q xs h.1 k.1)

each_front : (P : Log → Type 0) (xs ys : List Log) → AllByRecursion P (xs ++ ys) → AllByRecursion P xs
each_front P [] ys h = tt
each_front P (x ∷ xs) ys h = (h.0, each_front P xs ys h.1)

each_back : (P : Log → Type 0) (xs ys : List Log) → AllByRecursion P (xs ++ ys) → AllByRecursion P ys
each_back P [] ys h = h
each_back P (x ∷ xs) ys h = each_back P xs ys h.1

module _ {D : Type 0} (disk : D → ℕ → Disk) (may_leave : D → ℕ → List ℕ → Type 0) (every : ℕ) where
  -- ---- a log to which nothing was done

  pub untouched_log : (cluster : Cluster) (old mid : D) (log : Log) (a : ℕ) → log.centre ≡ a → IsUntouched disk may_leave old mid a → IsServedLog disk cluster old log → IsServedLog disk cluster mid log
  untouched_log cluster old mid log a of un is =
      let here = subst (λ (n : ℕ). IsUntouched disk may_leave old mid n) (sym of) un in
      record {
        told = subst (λ (d : Disk). IsTrue d.told) (sym here.first) is.told;
        told_other = subst (λ (d : Disk). IsTrue d.told) (sym here.second) is.told_other;
        has = ap (λ (d : Disk). payloads d.bytes (disk mid (log.centre + 16)).bytes) here.first ∙ (ap (λ (d : Disk). payloads (disk old log.centre).bytes d.bytes) here.second ∙ is.has);
        allowed = is.allowed;
      }

  untouched_durable : (old mid : D) (log : Log) (a : ℕ) → log.centre ≡ a → IsUntouched disk may_leave old mid a → IsDurable disk may_leave old log → IsDurable disk may_leave mid log
  untouched_durable old mid log a of un durable =
      let here = subst (λ (n : ℕ). IsUntouched disk may_leave old mid n) (sym of) un in
      record {
        first = λ c left. durable.first c (here.crash_first c left) ∙ ap (λ (d : Disk). d.bytes) (sym here.first);
        second = λ c left. durable.second c (here.crash_second c left) ∙ ap (λ (d : Disk). d.bytes) (sym here.second);
      }

  untouched_on : (old mid new : D) (a b : ℕ) → a ≤ 9 → b ≤ 9 → a ≢ b → KeepsOthers disk may_leave b mid new → IsUntouched disk may_leave old mid a → IsUntouched disk may_leave old new a
  untouched_on old mid new a b few most other keeps un =
      let far = apart a b few most other in
      record {
        first = keeps.others a far.here_here far.here_there ∙ un.first;
        second = keeps.others (a + 16) far.there_here far.there_there ∙ un.second;
        crash_first = λ c left. un.crash_first c (keeps.crash a far.here_here far.here_there c left);
        crash_second = λ c left. un.crash_second c (keeps.crash (a + 16) far.there_here far.there_there c left);
      }

  -- ---- those that run already

  held_kept : (cluster : Cluster) (old new : D) (b n : ℕ) (held : List TheSite) (logs : List Log) → b ≤ 9 → KeepsOthers disk may_leave b old new → DiskPasses disk may_leave old new
      → AllByRecursion (λ log. log.centre < b) logs → AreHeld disk may_leave every cluster old held logs → AreHeld disk may_leave every cluster new held logs
  held_kept cluster old new b n [] [] most keeps passes below are = tt
  held_kept cluster old new b n (h ∷ held) (log ∷ logs) most keeps passes below are =
      let far = apart log.centre b (let e = below.0 in omega (e, most, arith)) most (λ same. (let e = below.0 in absurd (omega (e, same, arith)))) in
      ((are.0.0, log_kept disk may_leave every old new h.log log.centre b (next_boot log.facts ∷ log.facts) far keeps passes are.0.1, are.0.2), held_kept cluster old new b n held logs most keeps passes below.1 are.1)
  held_kept cluster old new b n [] (log ∷ logs) most keeps passes below are = absurd are
  held_kept cluster old new b n (h ∷ held) [] most keeps passes below are = absurd are

  held_more : (cluster : Cluster) (disks : D) (held : List TheSite) (next : TheSite) (logs : List Log) (log : Log) → AreHeld disk may_leave every cluster disks held logs → AreHeld disk may_leave every cluster disks (next ∷ []) (log ∷ [])
      → AreHeld disk may_leave every cluster disks (held ++ next ∷ []) (logs ++ log ∷ [])
  held_more cluster disks [] next [] log are last = last
  held_more cluster disks (h ∷ held) next (l ∷ logs) log are last = (are.0, held_more cluster disks held next logs log are.1 last)
  held_more cluster disks [] next (l ∷ logs) log are last = absurd are
  held_more cluster disks (h ∷ held) next [] log are last = absurd are

  -- ---- none yet

  -- what is kept by those that run
  unserved_kept : (first end : ℕ) (old new : D) (logs : List Log) → Follow first logs → first + length logs ≤ end → KeepsElsewhere disk may_leave (starts logs).sites old new → KeepsUnserved disk may_leave first end old new
  unserved_kept first end old new logs follow few keeps =
      keeps_fewer disk may_leave (IsNoDiskOfSites (starts logs).sites) (IsUnserved first end) old new (λ p is. unserved_logs first end p logs follow few is) keeps

  pub none_started : (cluster : Cluster) (first : ℕ) (disks : D) → HaveStarted disk may_leave every cluster first [] disks disks
  none_started cluster first disks = record {
    logs = [];
    follow = tt;
    as_many = refl;
    each = tt;
    passes = disks_same disk may_leave disks;
    later = λ a after few. record { first = refl; second = refl; crash_first = λ c left. left; crash_second = λ c left. left };
    others = keeps_none disk may_leave (IsNoDiskOfSites []) disks;
    kept = λ log few is durable. durable_has disk may_leave disks log [] durable is.has;
    over = λ before follow are few. (before, refl);
  }

  -- ---- one more

  module _ (cluster : Cluster) (first a : ℕ) (held : List TheSite) (old mid new : D) (some : 1 ≤ first) (here : a ≡ first + length held) (few : a ≤ 9)
      (started : HaveStarted disk may_leave every cluster first held old mid)
    where
      many : a ≡ first + length started.logs
      many = (let e = started.as_many in omega (here, e, arith))

      unfinished : IsUntouched disk may_leave old mid a
      unfinished = started.later a (omega (here, arith)) few

      -- the next log of these
      next_of : (logs more : List Log) (l : Log) → Follow first logs → logs ≡ started.logs ++ l ∷ more → l.centre ≡ a
      next_of logs more l follow are =
          let e = follow_split first started.logs l more (subst (λ (xs : List Log). Follow first xs) are follow) in
          let same = many in
          omega (e, same, arith)

      -- one is left of more than were held
      some_left : (count : ℕ) (logs : List Log) → Follow first logs → AreLogsOf disk cluster old logs → length logs ≡ count → length held < count → (l : Log) × (rest : List Log) × (logs ≡ started.logs ++ l ∷ rest)
      some_left count logs follow are long fewer = let front = started.over logs follow are (omega (long, fewer, arith)) in by_rest front.0 front.1
        where
          by_rest : (more : List Log) → logs ≡ started.logs ++ more → (l : Log) × (rest : List Log) × (logs ≡ started.logs ++ l ∷ rest)
          by_rest [] is =
              let e = ap (λ (xs : List Log). length xs) is in
              let f = length-append started.logs [] in
              let g = started.as_many in
              absurd (omega (e, f, g, long, fewer, arith))
          by_rest (l ∷ rest) is = (l, rest, is)

      pub one_started : (tears : ℕ → Type 0) (next : TheSite) → HasStarted disk may_leave every tears cluster a next mid new → HaveStarted disk may_leave every cluster first (held ++ next ∷ []) old new
      one_started tears next has = record {
        logs = started.logs ++ has.log ∷ [];
        follow = follow_more first started.logs has.log started.follow (has.of ∙ many);
        as_many = (let e = length-append started.logs (has.log ∷ []) in let f = length-append held (next ∷ []) in let g = started.as_many in omega (e, f, g, arith));
        each = held_more cluster new held next started.logs has.log
            (held_kept cluster mid new a first held started.logs few has.others has.passes below started.each)
            ((has.itself, subst (λ (n : ℕ). HoldsLog disk may_leave every new next.log n (next_boot has.log.facts ∷ has.log.facts)) (sym has.of) has.holds, has.fresh), tt);
        passes = passes_on disk may_leave started.passes has.passes;
        later = λ b after most.
            let e = length-append held (next ∷ []) in
            untouched_on old mid new b a most few (λ same. absurd (omega (e, after, same, here, arith))) has.others (started.later b (omega (e, after, arith)) most);
        others = others;
        kept = kept;
        over = over;
      }
        where
          below : AllByRecursion (λ log. log.centre < a) started.logs
          below = subst (λ (m : ℕ). AllByRecursion (λ log. log.centre < m) started.logs) (sym many) (follow_front first started.logs [] (subst (λ (xs : List Log). Follow first xs) (sym (append-nil started.logs)) started.follow))

          others : KeepsElsewhere disk may_leave (starts (started.logs ++ has.log ∷ [])).sites old new
          others =
              subst (λ (sites : List Site). KeepsElsewhere disk may_leave sites old new) (sym (sites_append started.logs (has.log ∷ [])))
              (keeps_then disk may_leave (IsNoDiskOfSites ((starts started.logs).sites ++ site_of has.log ∷ [])) old mid new
              (keeps_fewer disk may_leave (IsNoDiskOfSites (starts started.logs).sites) (IsNoDiskOfSites ((starts started.logs).sites ++ site_of has.log ∷ [])) old mid
              (λ p is. each_front_site (λ (s : Site). IsNoDiskOf p s.centre) (starts started.logs).sites (site_of has.log ∷ []) is) started.others)
              (keeps_one disk may_leave (IsNoDiskOfSites ((starts started.logs).sites ++ site_of has.log ∷ [])) a mid new
              (λ p is. subst (λ (n : ℕ). IsNoDiskOf p n) has.of (elsewhere_in ((starts started.logs).sites ++ site_of has.log ∷ []) (starts started.logs).sites (site_of has.log) [] p refl is)) has.others))

          kept : (log : Log) → log.centre ≤ 9 → IsServedLog disk cluster old log → IsDurable disk may_leave old log
              → MayHaveFacts disk may_leave new log.centre (facts_after log.centre log.facts (starts (started.logs ++ has.log ∷ [])).acts) []
          kept log high is durable = elim (cases_eq log.centre a) [
            | inl of ↦
                let same : has.log ≡ log = has.over log of (untouched_log cluster old mid log a of unfinished is) in
                let told : IsTrue (disk new a).told = subst IsTrue (sym (has.passes.told a ∙ started.passes.told a)) (subst (λ (n : ℕ). IsTrue (disk old n).told) of is.told) in
                subst (λ (l : Log). MayHaveFacts disk may_leave new l.centre (facts_after l.centre l.facts (starts (started.logs ++ has.log ∷ [])).acts) []) same
                (subst (λ (fs : List Fact). MayHaveFacts disk may_leave new has.log.centre fs []) (sym (boots_after first started.logs has.log started.follow (has.of ∙ many)))
                (subst (λ (n : ℕ). MayHaveFacts disk may_leave new n (next_boot has.log.facts ∷ has.log.facts) []) (sym has.of) (has.holds.open_log.left told)))
            | inr other ↦
                subst (λ (fs : List Fact). MayHaveFacts disk may_leave new log.centre fs []) (sym (boots_elsewhere started.logs has.log log.centre log.facts (λ same. other (sym same ∙ has.of))))
                (facts_kept disk may_leave mid new log.centre a (facts_after log.centre log.facts (starts started.logs).acts) [] (apart log.centre a high few other) has.others (started.kept log high is durable))
          ]

          over_next : (before rest : List Log) (l : Log) → before ≡ started.logs ++ l ∷ rest → l.centre ≡ a → AreLogsOf disk cluster old (started.logs ++ l ∷ rest) → (more : List Log) × (before ≡ (started.logs ++ has.log ∷ []) ++ more)
          over_next before rest l split of are =
              let same : has.log ≡ l = has.over l of (untouched_log cluster old mid l a of unfinished (each_back (IsServedLog disk cluster old) started.logs (l ∷ rest) are).0) in
              (rest, split ∙ (ap (λ (log : Log). started.logs ++ log ∷ rest) (sym same) ∙ sym (append_assoc started.logs (has.log ∷ []) rest)))

          over : (before : List Log) → Follow first before → AreLogsOf disk cluster old before → length (held ++ next ∷ []) ≤ length before → (more : List Log) × (before ≡ (started.logs ++ has.log ∷ []) ++ more)
          over before follow are enough =
              let e = length-append held (next ∷ []) in
              let left = some_left (length before) before follow are refl (omega (e, enough, arith)) in
              over_next before left.1 left.0 left.2 (next_of before left.1 left.0 follow left.2) (subst (λ (logs : List Log). AreLogsOf disk cluster old logs) left.2 are)

      -- the next one ends before it runs
      pub start_stops : (tears : ℕ → Type 0) (count : ℕ) (fault : ServeFault) → length held < count → first + count ≤ 10 → FailsToStart disk may_leave every tears cluster a fault mid new
          → FailToStart disk may_leave every tears cluster first count fault old new
      start_stops tears count fault fewer most fails = record {
        at = a;
        of = fails.of;
        cause = caused_on disk may_leave fault old mid new started.passes fails.cause;
        passes = passes_on disk may_leave started.passes fails.passes;
        others = keeps_then disk may_leave (IsUnserved first (first + count)) old mid new
            (unserved_kept first (first + count) old mid started.logs started.follow (let e = started.as_many in omega (e, fewer, arith)) started.others)
            (keeps_one disk may_leave (IsUnserved first (first + count)) a mid new (λ p is. is a (omega (here, arith)) (omega (here, fewer, arith))) fails.others);
        over = λ logs follow long are.
            let next = some_left count logs follow are long fewer in
            stops logs next.1 next.0 next.2 (next_of logs next.1 next.0 follow next.2) follow long are;
      }
        where
          by_centre : (b : ℕ) (why : BootFault) → fault ≡ ServeFault.Boot b why → (l : Log) → IsServedLog disk cluster old l → l.centre ≡ b → IsBootRefused cluster l.facts why
          by_centre b why is l log same =
              let at_fault : b ≡ a = subst (λ (f : ServeFault). IsOfStart a f) is fails.of in
              let of : l.centre ≡ a = same ∙ at_fault in
              let own = fails.over l of (untouched_log cluster old mid l a of unfinished log) in
              (subst (λ (f : ServeFault). BootsRefused cluster (l ∷ []) f) is own.boots).0 same

          refused_at : (b : ℕ) (why : BootFault) → fault ≡ ServeFault.Boot b why → (logs : List Log) → AreLogsOf disk cluster old logs → AllByRecursion (λ log. log.centre ≡ b → IsBootRefused cluster log.facts why) logs
          refused_at b why is [] are = tt
          refused_at b why is (l ∷ logs) are = (λ same. by_centre b why is l are.0 same, refused_at b why is logs are.1)

          boots : (logs : List Log) → AreLogsOf disk cluster old logs → (f : ServeFault) → fault ≡ f → BootsRefused cluster logs f
          boots logs are (ServeFault.Disk b) is = tt
          boots logs are (ServeFault.Log b why) is = tt
          boots logs are (ServeFault.Boot b why) is = refused_at b why is logs are
          boots logs are ServeFault.Link is = tt
          boots logs are ServeFault.Output is = tt
          boots logs are ServeFault.Serial is = tt
          boots logs are ServeFault.Memory is = tt

          -- the log of another centre
          elsewhere : (next : List Fact) (log : Log) → log.centre ≤ 9 → log.centre ≢ a → IsServedLog disk cluster old log → IsDurable disk may_leave old log
              → MayHaveFacts disk may_leave new log.centre (facts_after log.centre log.facts (starts started.logs).acts) next
          elsewhere next log high other is durable =
              facts_or_more disk may_leave new log.centre (facts_after log.centre log.facts (starts started.logs).acts) next
              (facts_kept disk may_leave mid new log.centre a (facts_after log.centre log.facts (starts started.logs).acts) [] (apart log.centre a high few other) fails.others (started.kept log high is durable))

          kept : (l : Log) (more : List Log) → l.centre ≡ a → Follow first (started.logs ++ l ∷ more) → length (started.logs ++ l ∷ more) ≡ count → StopsOver disk may_leave every tears cluster l fault mid new
              → AreLogsOf disk cluster old (started.logs ++ l ∷ more) → AllByRecursion (IsDurable disk may_leave old) (started.logs ++ l ∷ more) → IsSafeAt tears fault (starts (l ∷ more)).acts
              → AllByRecursion (λ log. MayHaveFacts disk may_leave new log.centre (facts_after log.centre log.facts (starts started.logs).acts) (in_flight fault log.centre (starts (l ∷ more)).acts)) (started.logs ++ l ∷ more)
          kept l more of follow long own each durable safe =
              each-append (λ (log : Log). MayHaveFacts disk may_leave new log.centre (facts_after log.centre log.facts (starts started.logs).acts) (in_flight fault log.centre (starts (l ∷ more)).acts)) started.logs (l ∷ more)
              (each_by _ _ started.logs (each_both _ _ started.logs (each_both _ _ started.logs (each_front _ started.logs (l ∷ more) each) (each_front _ started.logs (l ∷ more) durable)) below)
              (λ log h. elsewhere (in_flight fault log.centre (starts (l ∷ more)).acts) log (let low = h.1 in omega (low, few, arith)) (λ same. (let low = h.1 in absurd (omega (low, same, arith)))) h.0.0 h.0.1)) (
                subst (λ (fs : List Fact). MayHaveFacts disk may_leave new l.centre fs (in_flight fault l.centre (starts (l ∷ more)).acts)) (sym (boots_before first started.logs l started.follow (of ∙ many)))
                    (subst (λ (next : List Fact). MayHaveFacts disk may_leave new l.centre l.facts next) (flight_first fault l.centre l more)
                    (own.kept (untouched_durable old mid l a of unfinished (each_back _ started.logs (l ∷ more) durable).0) (safe_first tears fault l more safe))),
                each_by _ _ more (each_both _ _ more (each_both _ _ more (each_back _ started.logs (l ∷ more) each).1 (each_back _ started.logs (l ∷ more) durable).1) (each_both _ _ more above under))
                    (λ log h. elsewhere (in_flight fault log.centre (starts (l ∷ more)).acts) log (let high = h.1.1 in let e = long in omega (high, e, most, arith)) (λ same. (let low = h.1.0 in absurd (omega (low, same, arith)))) h.0.0 h.0.1),
              )
            where
              below : AllByRecursion (λ log. log.centre < a) started.logs
              below = subst (λ (m : ℕ). AllByRecursion (λ log. log.centre < m) started.logs) (sym many) (follow_front first started.logs (l ∷ more) follow)

              rest : Follow (first + length started.logs) (l ∷ more)
              rest = follow_rest first started.logs (l ∷ more) follow

              above : AllByRecursion (λ log. a < log.centre) more
              above = follow_back (first + length started.logs + 1) a more (let e = many in omega (e, arith)) rest.1

              under : AllByRecursion (λ log. log.centre < first + length (started.logs ++ l ∷ more)) more
              under = (each_back _ started.logs (l ∷ more) (follow_front first (started.logs ++ l ∷ more) [] (subst (λ (xs : List Log). Follow first xs) (sym (append-nil (started.logs ++ l ∷ more))) follow))).1

          stops : (logs rest : List Log) (l : Log) → logs ≡ started.logs ++ l ∷ rest → l.centre ≡ a → Follow first logs → length logs ≡ count → AreLogsOf disk cluster old logs → StopOver disk may_leave every tears cluster logs fault old new
          stops logs rest l split of follow long are =
              let each = subst (λ (xs : List Log). AreLogsOf disk cluster old xs) split are in
              let own = fails.over l of (untouched_log cluster old mid l a of unfinished (each_back (IsServedLog disk cluster old) started.logs (l ∷ rest) each).0) in
              record {
                done = started.logs;
                left = l ∷ rest;
                are = split;
                comes = comes_first fault l rest own.comes;
                boots = boots logs are fault refl;
                full = full_first disk may_leave every new fault l rest own.full;
                kept = λ durable safe.
                    subst (λ (xs : List Log). AllByRecursion (λ log. MayHaveFacts disk may_leave new log.centre (facts_after log.centre log.facts (starts started.logs).acts) (in_flight fault log.centre (starts (l ∷ rest)).acts)) xs) (sym split)
                    (kept l rest of (subst (λ (xs : List Log). Follow first xs) split follow) (ap (λ (xs : List Log). length xs) (sym split) ∙ long) own each (subst (λ (xs : List Log). AllByRecursion (IsDurable disk may_leave old) xs) split durable) safe);
              }

  -- ---- there is no memory to keep the one that runs

  pub keep_stops : (cluster : Cluster) (first count : ℕ) (held : List TheSite) (old new : D) (tears : ℕ → Type 0) → (started : HaveStarted disk may_leave every cluster first held old new) → length held ≤ count → first + count ≤ 10
      → FailToStart disk may_leave every tears cluster first count ServeFault.Memory old new
  keep_stops cluster first count held old new tears started enough most = record {
    at = 0;
    of = tt;
    cause = tt;
    passes = started.passes;
    others = unserved_kept first (first + count) old new started.logs started.follow (let e = started.as_many in omega (e, enough, arith)) started.others;
    over = λ logs follow long are.
        let front = started.over logs follow are (omega (long, enough, arith)) in
        record {
          done = started.logs;
          left = front.0;
          are = front.1;
          comes = tt;
          boots = tt;
          full = tt;
          kept = λ durable safe.
              each_by _ _ logs (each_both _ _ logs (each_both _ _ logs are durable) (follow_front first logs [] (subst (λ (xs : List Log). Follow first xs) (sym (append-nil logs)) follow)))
              (λ log h. facts_or_more disk may_leave new log.centre (facts_after log.centre log.facts (starts started.logs).acts) [] (started.kept log (let high = h.1 in omega (high, long, most, arith)) h.0.0 h.0.1));
        };
  }
