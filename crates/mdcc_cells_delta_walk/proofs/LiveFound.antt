-- The live entries of an instance are found fact by fact.
use Rattle.std.proofs.Common.{◌≡◌, ◌++◌, ◌∷◌, true, false, List, [], Option, Some, None, ap, sym, ◌∙◌, refl, subst}
use Rattle.std.specs.Prelude.{is_none}
use Rattle.mdcc_base.specs.declared.identifiers.TxId.{TxId}
use Rattle.mdcc_cells_delta_walk.specs.Entries.{DeltaEntry, IsAtFirst, added_by}
use Rattle.mdcc_cells_delta_walk.specs.LiveWalks.{IsAtLive, IsFinding, live_in, rest_live}
use Rattle.mdcc_cells_delta_walk.specs.declared.live_walk.LiveWalk.{LiveWalk}

pub finds : (es : List DeltaEntry) (found : Option TxId) (w : LiveWalk) → IsAtFirst es found w.entries → IsFinding (es ++ live_in w.key w.version w.walk) found w
finds [] None w is = refl
finds [] (Some tx) w is = absurd (cc)
finds (first ∷ others) None w is = let none : None ≡ Some first.0 = is.tx in absurd (cc)
finds (first ∷ others) (Some tx) w is = record { tx = is.tx; added = is.added; rest = ap (λ es. es ++ live_in w.key w.version w.walk) is.rest }

pub found-some : (es : List DeltaEntry) (found : Option TxId) (w : LiveWalk) → IsFinding es found w → is_none found ≡ false → IsAtLive es found w
found-some es None w is some = absurd (cc)
found-some es (Some tx) w is some = is

pub found-none : (es : List DeltaEntry) (found : Option TxId) (w : LiveWalk) → IsFinding es found w → is_none found ≡ true → live_in w.key w.version w.walk ≡ es
found-none es None w is none = is
found-none es (Some tx) w is none = absurd (cc)

pub none-live : (es : List DeltaEntry) (w : LiveWalk) → es ≡ [] → IsAtLive es None w
none-live es w is = subst (λ l. IsAtLive l None w) (sym is) refl

-- an entry that was found is the first
pub at-live : (es : List DeltaEntry) (tx : TxId) (w : LiveWalk) → IsAtLive es (Some tx) w → es ≡ (tx, added_by w.entries) ∷ rest_live w
at-live [] tx w is = absurd (cc)
at-live (first ∷ others) tx w is =
    let some : Some tx ≡ Some first.0 = is.tx in
    let same : first.0 ≡ tx = cc in
    ap (λ t. (t, first.1) ∷ others) same ∙ ap (λ a. (tx, a) ∷ others) (sym is.added) ∙ ap (λ es. (tx, added_by w.entries) ∷ es) (sym is.rest)

pub no-live : (es : List DeltaEntry) (w : LiveWalk) → IsAtLive es None w → es ≡ []
no-live [] w is = refl
no-live (first ∷ others) w is = let none : None ≡ Some first.0 = is.tx in absurd (cc)
