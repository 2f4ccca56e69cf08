-- For which serials transactions were begun: in a life each serial has one.
use Rattle.std.proofs.Common.{List, Option, Some, [], ap, inl, inr, refl, subst, sym, ℕ, ◌++◌, ◌∙◌, ◌∷◌, ◌≡◌, ◌≤◌}
use Rattle.mdcc_base.specs.declared.identifiers.TxId.{TxId}
use Rattle.mdcc_config.specs.declared.config.Config.{Config}
use Rattle.mdcc_def_ledger.specs.Ledger.{Added, Entry, Valued, facts_of}
use Rattle.mdcc_option.specs.declared.choices.Choice.{Choice}
use Rattle.mdcc_def_protocol.specs.Facts.{epoch_of}
use Rattle.mdcc_def_server_runs.specs.Acts.{Act}
use Rattle.mdcc_def_server_runs.specs.Clients.{begun_for}
use Rattle.mdcc_def_server_runs.specs.Sites.{Site}
use Rattle.mdcc_theorem_trace_states.specs.Words.{Each, In}
use Rattle.mdcc_theorem_trace_states.proofs.Lists.{In-append}
use Rattle.mdcc_theorem_clusters.specs.Answers.{IsMadeFor}
use Rattle.mdcc_theorem_clusters.specs.Asked.{IsAskedFor, IsOnce, WasReceived}
use Rattle.mdcc_theorem_clusters.specs.Clusters.{Process}

-- those of this life are found for their serials
abbrev pub AreKnown : List (TxId × ℕ) → ℕ → Site → Type 0
AreKnown named a site = (tx : TxId) (serial : ℕ) → In (tx, serial) named → tx.centre ≡ a → tx.epoch ≡ epoch_of site.node.facts → begun_for site.clients serial ≡ Some tx

-- it is of an epoch that came
abbrev pub IsOldName : List Entry → TxId × ℕ → Type 0
IsOldName es name = name.0.epoch ≤ epoch_of (facts_of es name.0.centre)

-- a name of this life that is found
pub record IsFound (a : ℕ) (site : Site) (name : TxId × ℕ) : Type 0 where
  pub found : begun_for site.clients name.1 ≡ Some name.0
  pub centre : name.0.centre ≡ a
  pub epoch : name.0.epoch ≡ epoch_of site.node.facts

found-at : (a : ℕ) (site : Site) (names : List (TxId × ℕ)) (name : TxId × ℕ) → Each (IsFound a site) names → In name names → IsFound a site name
found-at a site [] name h i = absurd i
found-at a site (x ∷ names) name h i = elim i [ inl e ↦ subst (IsFound a site) (sym e) h.0 | inr r ↦ found-at a site names name h.1 r ]

-- they are one for each serial, beside the others
pub once-more : (a : ℕ) (site : Site) (names named : List (TxId × ℕ)) → Each (IsFound a site) names → AreKnown named a site → IsOnce named → IsOnce (names ++ named)
once-more a site names named found known once tx other serial i j centres epochs =
    elim (In-append (tx, serial) names named i) [
      | inl k ↦
          let one = found-at a site names (tx, serial) found k in
          elim (In-append (other, serial) names named j) [
            | inl l ↦ same tx other (sym one.found ∙ (found-at a site names (other, serial) found l).found)
            | inr l ↦ same tx other (sym one.found ∙ known other serial l (sym centres ∙ one.centre) (sym epochs ∙ one.epoch))
          ]
      | inr k ↦ elim (In-append (other, serial) names named j) [
        | inl l ↦
            let one = found-at a site names (other, serial) found l in
            same tx other (sym (known tx serial k (centres ∙ one.centre) (epochs ∙ one.epoch)) ∙ one.found)
        | inr l ↦ once tx other serial k l centres epochs
      ]
    ]
  where
    same : (x y : TxId) → Some x ≡ Some y → x ≡ y
    same x y e = cc

pub known-more : (a : ℕ) (site : Site) (names named : List (TxId × ℕ)) → Each (IsFound a site) names → AreKnown named a site → AreKnown (names ++ named) a site
known-more a site names named found known tx serial i centre epoch =
    elim (In-append (tx, serial) names named i) [
      | inl k ↦ (found-at a site names (tx, serial) found k).found
      | inr k ↦ known tx serial k centre epoch
    ]

-- ---- the names of what was made

In-after : {A : Type 0} (x : A) (xs ys : List A) → In x ys → In x (xs ++ ys)
In-after x [] ys h = h
In-after x (z ∷ xs) ys h = inr (In-after x xs ys h)

module _ (config : Config) (G : ℕ → List ℕ → Type 0) (a : ℕ) (site : Site) where
  abbrev AllMade : List Entry → Type 0
  AllMade es = (b : ℕ) (tx : TxId) (choices : List Choice) → In (Entry.Begun b tx choices) es → (b ≡ a) × IsMadeFor config G a site tx choices

  pub record HasNames (es : List Entry) : Type 0 where
    pub names : List (TxId × ℕ)
    pub found : Each (IsFound a site) names
    pub each : (b : ℕ) (tx : TxId) (choices : List Choice) → In (Entry.Begun b tx choices) es → IsAskedFor config G names b tx choices

  skip : (e : Entry) (es : List Entry) → ((b : ℕ) (tx : TxId) (choices : List Choice) → Entry.Begun b tx choices ≡ e → ⊥) → HasNames es → HasNames (e ∷ es)
  skip e es other h = record { names = h.names; found = h.found; each = λ b tx choices i. elim i [ inl s ↦ absurd (other b tx choices s) | inr r ↦ h.each b tx choices r ] }

  pub names-made : (es : List Entry) → AllMade es → HasNames es
  names-made [] made = record { names = []; found = tt; each = λ b tx choices i. absurd i }
  names-made (Added c f ∷ es) made = skip (Added c f) es (λ b tx choices e. absurd (cc)) (names-made es (λ b tx choices i. made b tx choices (inr i)))
  names-made (Valued c k v m os ∷ es) made = skip (Valued c k v m os) es (λ b tx choices e. absurd (cc)) (names-made es (λ b tx choices i. made b tx choices (inr i)))
  names-made (Entry.Begun c t cs ∷ es) made =
      let rest = names-made es (λ b tx choices i. made b tx choices (inr i)) in
      let one = made c t cs (inl refl) in
      let m = one.1 in
      record {
        names = (t, m.serial) ∷ rest.names;
        found = (record { found = m.found; centre = m.centre; epoch = m.epoch }, rest.found);
        each = λ b tx choices i. elim i [
          | inl e ↦
              let place : b ≡ c = cc in
              let name : tx ≡ t = cc in
              let same : choices ≡ cs = cc in
              subst (λ (z : ℕ). IsAskedFor config G ((t, m.serial) ∷ rest.names) z tx choices) (sym place)
              (subst (λ (z : TxId). IsAskedFor config G ((t, m.serial) ∷ rest.names) c z choices) (sym name)
              (subst (λ (z : List Choice). IsAskedFor config G ((t, m.serial) ∷ rest.names) c t z) (sym same)
              (subst (λ (z : ℕ). IsAskedFor config G ((t, m.serial) ∷ rest.names) z t cs) (sym one.0)
              (record { serial = m.serial; name = inl refl; parts = m.parts; asked = m.asked; are = m.are }))))
          | inr r ↦
              let h = rest.each b tx choices r in
              record { serial = h.serial; name = inr h.name; parts = h.parts; asked = h.asked; are = h.are }
        ];
      }

-- ---- when entries come

In-before : {A : Type 0} (x : A) (xs ys : List A) → In x xs → In x (xs ++ ys)
In-before x [] ys h = absurd h
In-before x (z ∷ xs) ys h = elim h [ inl e ↦ inl e | inr r ↦ inr (In-before x xs ys r) ]

pub names-more : (config : Config) (G : ℕ → List ℕ → Type 0) (names named : List (TxId × ℕ)) (b : ℕ) (tx : TxId) (choices : List Choice) → IsAskedFor config G names b tx choices → IsAskedFor config G (names ++ named) b tx choices
names-more config G names named b tx choices h = record { serial = h.serial; name = In-before (tx, h.serial) names named h.name; parts = h.parts; asked = h.asked; are = h.are }

-- New entries of a centre have new names, by which each serial of its life still has one transaction.
pub record IsNaming (config : Config) (new es : List Entry) (done : List (ℕ × Act)) (a : ℕ) (named : List (TxId × ℕ)) (process : Option Process) : Type 0 where
  pub fresh : List (TxId × ℕ)
  pub asked : (b : ℕ) (tx : TxId) (choices : List Choice) → In (Entry.Begun b tx choices) new → IsAskedFor config (WasReceived done) (fresh ++ named) b tx choices
  pub own : (name : TxId × ℕ) → In name fresh → name.0.centre ≡ a
  pub old : Each (IsOldName (new ++ es)) fresh
  pub once : IsOnce (fresh ++ named)
  pub known : (p : Process) → process ≡ Some p → AreKnown (fresh ++ named) a p.site_then

-- where nothing is begun
pub no-names : (config : Config) (new es : List Entry) (done : List (ℕ × Act)) (a : ℕ) (named : List (TxId × ℕ)) (process : Option Process)
    → ((b : ℕ) (tx : TxId) (choices : List Choice) → In (Entry.Begun b tx choices) new → ⊥) → IsOnce named → ((p : Process) → process ≡ Some p → AreKnown named a p.site_then) → IsNaming config new es done a named process
no-names config new es done a named process none once known = record {
  fresh = [];
  asked = λ b tx choices i. absurd (none b tx choices i);
  own = λ name i. absurd i;
  old = tt;
  once = once;
  known = known;
}

-- the same clients in the same epoch
pub record IsSameLife (site next : Site) : Type 0 where
  pub clients : (serial : ℕ) → begun_for next.clients serial ≡ begun_for site.clients serial
  pub epoch : epoch_of next.node.facts ≡ epoch_of site.node.facts

pub known-after : (named : List (TxId × ℕ)) (a : ℕ) (site next : Site) → IsSameLife site next → AreKnown named a site → AreKnown named a next
known-after named a site next same known tx serial i centre epoch = same.clients serial ∙ known tx serial i centre (epoch ∙ same.epoch)

pub known-before : (named : List (TxId × ℕ)) (a : ℕ) (site next : Site) → IsSameLife site next → AreKnown named a next → AreKnown named a site
known-before named a site next same known tx serial i centre epoch = sym (same.clients serial) ∙ known tx serial i centre (epoch ∙ sym same.epoch)

found-own : (a : ℕ) (site : Site) (names : List (TxId × ℕ)) → Each (IsFound a site) names → (name : TxId × ℕ) → In name names → name.0.centre ≡ a
found-own a site names found name i = (found-at a site names name found i).centre

-- where a group comes
pub group-names : (config : Config) (new es : List Entry) (done : List (ℕ × Act)) (a : ℕ) (before site : Site) (names named : List (TxId × ℕ)) (p : Process) → Each (IsFound a before) names → Each (IsOldName (new ++ es)) names
    → ((b : ℕ) (tx : TxId) (choices : List Choice) → In (Entry.Begun b tx choices) new → IsAskedFor config (WasReceived done) names b tx choices)
    → IsOnce named → AreKnown named a before → IsSameLife before site → p.site_then ≡ site → IsNaming config new es done a named (Some p)
group-names config new es done a before site names named p found old asked once known same is = record {
  fresh = names;
  asked = λ b tx choices i. names-more config (WasReceived done) names named b tx choices (asked b tx choices i);
  own = λ name i. found-own a before names found name i;
  old = old;
  once = once-more a before names named found known once;
  known = λ q e. subst (AreKnown (names ++ named) a) (sym is ∙ (let here : p ≡ q = cc in ap (λ (z : Process). z.site_then) here))
      (known-after (names ++ named) a before site same (known-more a before names named found known));
}
