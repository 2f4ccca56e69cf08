use Rattle.std.proofs.Common.{◌≡◌, ◌∙◌, Option, ap, arith, length, sym}
use Rattle.std.specs.Prelude.{is_some}
use Rattle.std.specs.Option.{option_copied}
use Rattle.std.proofs.lemmas.List.{length-map}
use Rattle.mdcc_option.specs.declared.choices.Choice.{Choice}
use Rattle.mdcc_struct.specs.Maps.{TxMap, value_of}
use Rattle.mdcc_struct.specs.Places.{place_of}
use Rattle.mdcc_def_protocol.specs.Structures.{with_choice}
use Rattle.mdcc_leader_structures.proofs.Filled.{AreEntries-there, claims_in-there, found_within}
use Rattle.mdcc_leader_structures.proofs.claims.Claims.fill_at.Goals as goal

pub index-requires : goal.index-requires
index-requires c =
    let claims : length c.args.self.now ≡ length c.self.inside.entries.items = rw (← c.self.view_is) (length-map c.self.inside.entries.items _) in
    let up = rw c.self.view_is at c.self.invariant.ascending in
    omega (arith, found_within c.args.self.now c.args.tx c.args.at up c.requires.place c.requires.there, claims, c.self.inside.entries.ok.0)

pub index_mut-requires : goal.index_mut-requires
index_mut-requires c =
    let claims : length c.args.self.now ≡ length c.self.inside.entries.items = rw (← c.self.view_is) (length-map c.self.inside.entries.items _) in
    let up = rw c.self.view_is at c.self.invariant.ascending in
    omega (arith, found_within c.args.self.now c.args.tx c.args.at up c.requires.place c.requires.there, claims, c.self.inside.entries.ok.0)

pub invariant_of-self-2 : goal.invariant_of-self-2
invariant_of-self-2 c =
    let choices = c.self.inside.choices.items in
    let entries = c.self.inside.entries.items in
    let place = c.requires.place ∙ ap (λ (m : TxMap (Option Choice)). place_of m c.args.tx) (sym c.self.view_is) in
    let there = ap (λ (m : TxMap (Option Choice)). is_some (value_of m c.args.tx)) c.self.view_is ∙ c.requires.there in
    rw (c.in_ok-place.ensures.ok, c.in_ok-place.ensures.place)
    (AreEntries-there choices entries c.args.tx (option_copied c.args.choice) c.args.at c.index.result.now c.self.invariant place there c.index.ensures)

pub returns-clause-ok : goal.returns-clause-ok
returns-clause-ok c =
    let choices = c.self.inside.choices.items in
    let entries = c.self.inside.entries.items in
    let place = c.requires.place ∙ ap (λ (m : TxMap (Option Choice)). place_of m c.args.tx) (sym c.self.view_is) in
    let there = ap (λ (m : TxMap (Option Choice)). is_some (value_of m c.args.tx)) c.self.view_is ∙ c.requires.there in
    let claims = claims_in-there choices entries c.args.tx (option_copied c.args.choice) c.args.at c.index.result.now c.self.invariant place there c.index.ensures in
    rw (c.in_ok-place.ensures.ok, c.in_ok-place.ensures.place) (claims ∙ ap (λ (m : TxMap (Option Choice)). with_choice m (c.args.tx, option_copied c.args.choice)) c.self.view_is)
