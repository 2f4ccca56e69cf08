-- The acts of a start: none is answered by the link, and none is counted.
use Rattle.std.proofs.Common.{◌≡◌, ℕ, ◌+◌, ◌<◌, List, [], ◌∷◌, ◌++◌, Option, Some, None, refl, ◌∙◌, ap, arith}
use Rattle.std.specs.List.{AllByRecursion}
use Rattle.std.specs.Prelude.{flat_map, ⊤}
use Rattle.mdcc_base.specs.declared.outside.Address.{Address}
use Rattle.mdcc_config.specs.IsConfig.{address_above}
use Rattle.mdcc_config.specs.declared.config.Config.{Config}
use Rattle.mdcc_def_messages.specs.declared.facts.Fact.{Fact}
use Rattle.mdcc_serve_outbox.proofs.Recorded.{answers_append, failed_append, lost_append}
use Rattle.mdcc_serve_outbox.specs.Shows.{calls_of, failed_in}
use Rattle.mdcc_def_rules.specs.Boot.{next_boot}
use Rattle.mdcc_def_server_runs.specs.Acts.{Act, but_answers, dropped_in, facts_appended, lost_in, printed, steps_in}
use Rattle.mdcc_def_server_runs.specs.Servers.{Log, boot_line, bound_at, endpoints_of, opened, starts}
use Rattle.mdcc_def_server_runs.specs.Sites.{Site}
use Rattle.mdcc_def_server_runs.specs.declared.lines.ServerLine.{ServerLine}
use Rattle.mdcc_serve.proofs.Together.{each_both, each_by, follow_back, not_is}
use Rattle.mdcc_serve.specs.Openings.{binds_of, binds_of_all, boots_told}
use Rattle.mdcc_serve.specs.Starts.{Follow}
use Rattle.mdcc_serve_site.proofs.Joined.{appended_append, dropped_append, steps_append}
use Rattle.mdcc_serve_site.proofs.Logged.{same_is}
use Rattle.mdcc_serve_site.specs.Logs.{facts_after, with_facts}
use Rattle.mdcc_serve_site.specs.declared.site.Site.{Site as TheSite}
use Rattle.mdcc_theorem_node_steps.proofs.Each.{each-append}

-- ---- acts that the link does not answer, and that are not counted

pub record IsPlain (acts : List Act) : Type 0 where
  pub answers : but_answers acts ≡ acts
  pub failed : failed_in acts ≡ 0
  pub steps : steps_in acts ≡ 0
  pub dropped : dropped_in acts ≡ 0
  pub lost : lost_in acts ≡ 0

plain_then : (xs ys : List Act) → IsPlain xs → IsPlain ys → IsPlain (xs ++ ys)
plain_then xs ys one two = record {
  answers = answers_append xs ys ∙ (ap (λ (zs : List Act). zs ++ but_answers ys) one.answers ∙ ap (λ (zs : List Act). xs ++ zs) two.answers);
  failed = (let e = failed_append xs ys in let a = one.failed in let b = two.failed in omega (e, a, b, arith));
  steps = (let e = steps_append xs ys in let a = one.steps in let b = two.steps in omega (e, a, b, arith));
  dropped = (let e = dropped_append xs ys in let a = one.dropped in let b = two.dropped in omega (e, a, b, arith));
  lost = (let e = lost_append xs ys in let a = one.lost in let b = two.lost in omega (e, a, b, arith));
}

plain_none : IsPlain []
plain_none = record { answers = refl; failed = refl; steps = refl; dropped = refl; lost = refl }

plain_bind : (at : ℕ) (address : Address) → IsPlain (Act.Bind at address ∷ [])
plain_bind at address = record { answers = refl; failed = refl; steps = refl; dropped = refl; lost = refl }

plain_print : (line : ServerLine) → IsPlain (Act.Print line ∷ [])
plain_print line = record { answers = refl; failed = refl; steps = refl; dropped = refl; lost = refl }

plain_append : (centre : ℕ) (facts : List Fact) → IsPlain (Act.Append centre facts ∷ [])
plain_append centre facts = record { answers = refl; failed = refl; steps = refl; dropped = refl; lost = refl }

-- what holds of each act holds of those of a prefix
pub acts_front : (P : Act → Type 0) (xs ys : List Act) → AllByRecursion P (xs ++ ys) → AllByRecursion P xs
acts_front P [] ys h = tt
acts_front P (x ∷ xs) ys h = (h.0, acts_front P xs ys h.1)

-- ---- endpoints that are bound

abbrev pub IsBind : Act → Type 0
IsBind (Act.Bind at address) = ⊤
IsBind _ = ⊥

-- nothing is printed or appended
pub record AreBinds (acts : List Act) : Type 0 where
  pub plain : IsPlain acts
  pub prints : printed acts ≡ []
  pub appends : (c : ℕ) → facts_appended c acts ≡ []

pub are_binds : (acts : List Act) → AllByRecursion IsBind acts → AreBinds acts
are_binds [] each = record { plain = plain_none; prints = refl; appends = λ c. refl }
are_binds (Act.Bind at address ∷ acts) each =
    let rest = are_binds acts each.1 in
    record { plain = plain_then (Act.Bind at address ∷ []) acts (plain_bind at address) rest.plain; prints = rest.prints; appends = rest.appends }
are_binds (Act.Receive at gave ∷ acts) each = absurd each.0
are_binds (Act.Append centre facts ∷ acts) each = absurd each.0
are_binds (Act.Send from to bytes answer ∷ acts) each = absurd each.0
are_binds (Act.Print line ∷ acts) each = absurd each.0
are_binds (Act.Stepped ∷ acts) each = absurd each.0
are_binds (Act.Dropped ∷ acts) each = absurd each.0
are_binds (Act.Unsent ∷ acts) each = absurd each.0

bound_is : (at : ℕ) (address : Option Address) → AllByRecursion IsBind (bound_at at address)
bound_is at None = tt
bound_is at (Some address) = (tt, tt)

endpoints_bind : (at : ℕ) (one two : Option Address) → AllByRecursion IsBind (bound_at at one ++ bound_at (at + 16) two)
endpoints_bind at one two = each-append IsBind (bound_at at one) (bound_at (at + 16) two) (bound_is at one) (bound_is (at + 16) two)

sites_bind : (config : Config) (sites : List Site) → AllByRecursion IsBind (flat_map (endpoints_of config) sites)
sites_bind config [] = tt
sites_bind config (site ∷ sites) =
    each-append IsBind (endpoints_of config site) (flat_map (endpoints_of config) sites) (endpoints_bind site.centre (address_above config 0 site.centre) (address_above config 16 site.centre)) (sites_bind config sites)

pub all_bind : (config : Config) (held : List TheSite) → AllByRecursion IsBind (binds_of_all config held)
all_bind config [] = tt
all_bind config (h ∷ held) =
    each-append IsBind (binds_of config h.centre) (binds_of_all config held) (endpoints_bind h.centre (address_above config 0 h.centre) (address_above config 16 h.centre)) (all_bind config held)

-- ---- lines

abbrev pub IsPrint : Act → Type 0
IsPrint (Act.Print line) = ⊤
IsPrint _ = ⊥

-- the link is not called, and nothing is appended
pub record AreLines (acts : List Act) : Type 0 where
  pub plain : IsPlain acts
  pub calls : calls_of acts ≡ []
  pub appends : (c : ℕ) → facts_appended c acts ≡ []

pub are_lines : (acts : List Act) → AllByRecursion IsPrint acts → AreLines acts
are_lines [] each = record { plain = plain_none; calls = refl; appends = λ c. refl }
are_lines (Act.Print line ∷ acts) each =
    let rest = are_lines acts each.1 in
    record { plain = plain_then (Act.Print line ∷ []) acts (plain_print line) rest.plain; calls = rest.calls; appends = rest.appends }
are_lines (Act.Bind at address ∷ acts) each = absurd each.0
are_lines (Act.Receive at gave ∷ acts) each = absurd each.0
are_lines (Act.Append centre facts ∷ acts) each = absurd each.0
are_lines (Act.Send from to bytes answer ∷ acts) each = absurd each.0
are_lines (Act.Stepped ∷ acts) each = absurd each.0
are_lines (Act.Dropped ∷ acts) each = absurd each.0
are_lines (Act.Unsent ∷ acts) each = absurd each.0

sites_print : (sites : List Site) → AllByRecursion IsPrint (flat_map boot_line sites)
sites_print [] = tt
sites_print (site ∷ sites) = (tt, sites_print sites)

pub all_print : (held : List TheSite) → AllByRecursion IsPrint (boots_told held)
all_print [] = tt
all_print (h ∷ held) = (tt, all_print held)

-- ---- boots that are appended

-- the link is not called, and nothing is printed
pub record AreBoots (acts : List Act) : Type 0 where
  pub plain : IsPlain acts
  pub calls : calls_of acts ≡ []
  pub prints : printed acts ≡ []

pub are_boots : (logs : List Log) → AreBoots (starts logs).acts
are_boots [] = record { plain = plain_none; calls = refl; prints = refl }
are_boots (log ∷ logs) =
    let rest = are_boots logs in
    record { plain = plain_then (Act.Append log.centre (next_boot log.facts ∷ []) ∷ []) (starts logs).acts (plain_append log.centre (next_boot log.facts ∷ [])) rest.plain; calls = rest.calls; prints = rest.prints }

quiet_below : (n c : ℕ) (logs : List Log) → Follow n logs → c < n → facts_appended c (starts logs).acts ≡ []
quiet_below n c [] f low = refl
quiet_below n c (x ∷ xs) f low = let e = f.0 in rw (not_is x.centre c (λ is. absurd (omega (e, is, low, arith)))) (quiet_below (n + 1) c xs f.1 (omega (low, arith)))

-- each log gets its own boot
each_boot : (n : ℕ) (logs : List Log) → Follow n logs → AllByRecursion (λ log. facts_appended log.centre (starts logs).acts ≡ next_boot log.facts ∷ []) logs
each_boot n [] f = tt
each_boot n (x ∷ xs) f = (
  rw (same_is x.centre) (ap (λ (fs : List Fact). next_boot x.facts ∷ fs) (quiet_below (n + 1) x.centre xs f.1 (let e = f.0 in omega (e, arith)))),
  each_by _ _ xs (each_both _ _ xs (each_boot (n + 1) xs f.1) (follow_back (n + 1) n xs (omega arith) f.1))
      (λ log h. (let e = f.0 in let high = h.1 in rw (not_is x.centre log.centre (λ is. absurd (omega (e, is, high, arith)))) h.0)),
)

-- the facts of each log, once all is open
pub opened_facts : (config : Config) (first : ℕ) (logs : List Log) → Follow first logs → AllByRecursion (λ log. facts_after log.centre log.facts (opened config logs).acts ≡ next_boot log.facts ∷ log.facts) logs
opened_facts config first logs follow = each_by _ _ logs (each_boot first logs follow) (λ log h. ap (with_facts log.facts) (all log.centre (next_boot log.facts) h))
  where
    all : (c : ℕ) (boot : Fact) → facts_appended c (starts logs).acts ≡ boot ∷ [] → facts_appended c (opened config logs).acts ≡ boot ∷ []
    all c boot is =
        let more : List Act = flat_map (endpoints_of config) (starts logs).sites ++ flat_map boot_line (starts logs).sites in
        appended_append c (starts logs).acts more
        ∙ (ap (λ (fs : List Fact). fs ++ facts_appended c more) is
        ∙ ap (λ (fs : List Fact). boot ∷ fs) (appended_append c (flat_map (endpoints_of config) (starts logs).sites) (flat_map boot_line (starts logs).sites)
        ∙ (ap (λ (fs : List Fact). fs ++ facts_appended c (flat_map boot_line (starts logs).sites)) ((are_binds (flat_map (endpoints_of config) (starts logs).sites) (sites_bind config (starts logs).sites)).appends c)
        ∙ (are_lines (flat_map boot_line (starts logs).sites) (sites_print (starts logs).sites)).appends c)))
