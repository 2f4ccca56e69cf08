-- What several centres do, one after another.
use Rattle.std.proofs.Common.{◌≡◌, ℕ, ◌≤◌, ◌<◌, List, [], ◌∷◌, ◌++◌, length, refl, sym, ◌∙◌, ap, subst, arith, append_assoc}
use Rattle.std.specs.List.{AllByRecursion}
use Rattle.mdcc_config.specs.declared.config.Config.{Config}
use Rattle.mdcc_def_server_runs.specs.Acts.{Act}
use Rattle.mdcc_def_server_runs.specs.Sending.{persist_then_send}
use Rattle.mdcc_def_server_runs.specs.Servers.{Server, persist_all_then_send, turns_of}
use Rattle.mdcc_def_server_runs.specs.Sites.{Doing, Site}
use Rattle.mdcc_def_server_runs.specs.Turns.{Given, turn_of}
use Rattle.mdcc_serve.specs.Centres.{Ascend}
use Rattle.mdcc_serve_site.proofs.Owns.{IsWhole, Owns, persist_owns, turn_owns}

-- ---- what each does

abbrev pub each_does : {G : Type 0} → (Site → G → Doing) → List Site → List G → Server
each_does does (site ∷ sites) (g ∷ given) =
    let first = does site g in let rest = each_does does sites given in
    record { acts = first.acts ++ rest.acts; sites = first.site ∷ rest.sites }
each_does does sites _ = record { acts = []; sites = sites }

-- one more before the others
abbrev pub with_first : Doing → Server → Server
with_first first rest = record { acts = first.acts ++ rest.acts; sites = first.site ∷ rest.sites }

-- each has its turn
pub turns_are : (config : Config) (sites : List Site) (given : List Given) → turns_of config sites given ≡ each_does (turn_of config) sites given
turns_are config [] [] = refl
turns_are config [] (g ∷ given) = refl
turns_are config (site ∷ sites) [] = refl
turns_are config (site ∷ sites) (g ∷ given) = ap (with_first (turn_of config site g)) (turns_are config sites given)

-- at each what is pending goes out
abbrev pub end_of : Config → Site → Unit {0} → Doing
end_of config site given = persist_then_send config site

pub ends_are : (config : Config) (sites : List Site) (given : List (Unit {0})) → length given ≡ length sites → persist_all_then_send config sites ≡ each_does (end_of config) sites given
ends_are config [] given same = refl
ends_are config (site ∷ sites) [] same = absurd (omega (same, arith))
ends_are config (site ∷ sites) (g ∷ given) same = ap (with_first (persist_then_send config site)) (ends_are config sites given (omega (same, arith)))

-- what each does is its own
abbrev pub AllOwn : {G : Type 0} → (Site → G → Doing) → Type 0
AllOwn {G = G} does = (site : Site) (given : G) → Owns site (does site given)

pub turns_own : (config : Config) → AllOwn (turn_of config)
turns_own config site given = turn_owns config site given

pub ends_own : (config : Config) → AllOwn (end_of config)
ends_own config site given = persist_owns config site

-- ---- some of them first

-- the first do their part, and then the others
pub each_joined : {G : Type 0} (does : Site → G → Doing) (front back : List Site) (given more : List G) → length front ≡ length given
    → each_does does (front ++ back) (given ++ more)
    ≡ record { acts = (each_does does front given).acts ++ (each_does does back more).acts; sites = (each_does does front given).sites ++ (each_does does back more).sites }
each_joined does [] back [] more same = refl
each_joined does (site ∷ front) back (g ∷ given) more same =
    let ih = each_joined does front back given more (omega (same, arith)) in
    let first = does site g in
    ap (with_first first) ih
    ∙ ap (λ (acts : List Act). let server : Server = record { acts = acts; sites = first.site ∷ ((each_does does front given).sites ++ (each_does does back more).sites) } in server)
    (sym (append_assoc first.acts (each_does does front given).acts (each_does does back more).acts))
each_joined does [] back (g ∷ given) more same = absurd (omega (same, arith))
each_joined does (site ∷ front) back [] more same = absurd (omega (same, arith))

-- ---- lists

pub each_by : {P Q : Site → Type 0} (xs : List Site) → AllByRecursion P xs → ((x : Site) → P x → Q x) → AllByRecursion Q xs
each_by [] h f = tt
each_by (x ∷ xs) h f = (f x h.0, each_by xs h.1 f)

pub each_both : (P Q : Site → Type 0) (xs : List Site) → AllByRecursion P xs → AllByRecursion Q xs → AllByRecursion (λ x. P x × Q x) xs
each_both P Q [] h k = tt
each_both P Q (x ∷ xs) h k = ((h.0, k.0), each_both P Q xs h.1 k.1)

pub each_front : (P : Site → Type 0) (xs ys : List Site) → AllByRecursion P (xs ++ ys) → AllByRecursion P xs
each_front P [] ys h = tt
each_front P (x ∷ xs) ys h = (h.0, each_front P xs ys h.1)

pub each_back : (P : Site → Type 0) (xs ys : List Site) → AllByRecursion P (xs ++ ys) → AllByRecursion P ys
each_back P [] ys h = h
each_back P (x ∷ xs) ys h = each_back P xs ys h.1

pub each_join : (P : Site → Type 0) (xs ys : List Site) → AllByRecursion P xs → AllByRecursion P ys → AllByRecursion P (xs ++ ys)
each_join P [] ys h k = k
each_join P (x ∷ xs) ys h k = (h.0, each_join P xs ys h.1 k)

pub front_none : {A : Type 0} (xs ys : List A) → xs ++ ys ≡ [] → xs ≡ []
front_none [] ys e = refl
front_none (x ∷ xs) ys e = absurd (cc)

-- how many they are stays, and their numbers
pub each_long : {G : Type 0} (does : Site → G → Doing) (sites : List Site) (given : List G) → length (each_does does sites given).sites ≡ length sites
each_long does [] [] = refl
each_long does [] (g ∷ given) = refl
each_long does (site ∷ sites) [] = refl
each_long does (site ∷ sites) (g ∷ given) = let e = each_long does sites given in omega (e, arith)

pub each_ascend : {G : Type 0} (does : Site → G → Doing) → AllOwn does → (n : ℕ) (sites : List Site) (given : List G) → Ascend n sites → Ascend n (each_does does sites given).sites
each_ascend does own n [] [] ascend = tt
each_ascend does own n [] (g ∷ given) ascend = tt
each_ascend does own n (site ∷ sites) [] ascend = ascend
each_ascend does own n (site ∷ sites) (g ∷ given) ascend =
    let e = (own site g).centre in (
      subst (λ (m : ℕ). n < m) (sym e) ascend.0,
      subst (λ (m : ℕ). m ≤ 9) (sym e) ascend.1,
      subst (λ (m : ℕ). Ascend m (each_does does sites given).sites) (sym e) (each_ascend does own site.centre sites given ascend.2),
    )

-- ---- what is pending at each

abbrev pub AllWhole : List Site → Type 0
AllWhole sites = AllByRecursion IsWhole sites

pub each_whole : {G : Type 0} (does : Site → G → Doing) → AllOwn does → (sites : List Site) (given : List G) → AllWhole sites → AllWhole (each_does does sites given).sites
each_whole does own [] [] whole = tt
each_whole does own [] (g ∷ given) whole = tt
each_whole does own (site ∷ sites) [] whole = whole
each_whole does own (site ∷ sites) (g ∷ given) whole = ((own site g).whole whole.0, each_whole does own sites given whole.1)
