-- The marks that are new beside the votes that are shown are new beside all votes.
use Rattle.std.proofs.Common.{◌≡◌, ℕ, Bool, true, false, List, [], ◌∷◌, filter, is_some, not, ◌||◌, ap, refl, ◌∙◌, inl, inr, Result, Ok, Err, IfOk}
use Rattle.std.proofs.Math.Path.{fun_ext}
use Rattle.std.proofs.lemmas.Bool.{cases_Bool}
use Rattle.mdcc_base.specs.TxId.{tx_eq}
use Rattle.mdcc_base.specs.declared.faults.Memory.{Memory}
use Rattle.mdcc_base.specs.declared.identifiers.Ballot.{Ballot}
use Rattle.mdcc_base.specs.declared.identifiers.TxId.{TxId}
use Rattle.mdcc_base.specs.declared.key.Key.{Key}
use Rattle.mdcc_def_messages.specs.declared.facts.Fact.{Fact}
use Rattle.mdcc_node.specs.StepParts.{is_new}
use Rattle.mdcc_option.specs.declared.choices.Mark.{Mark}
use Rattle.mdcc_def_protocol.specs.Acceptor.{new_marks}
use Rattle.mdcc_def_protocol.specs.Facts.{is_finished, is_forgotten, shown_of, votes_of}
use Rattle.mdcc_struct.specs.Maps.{TxMap, value_of}
use Rattle.mdcc_struct.specs.declared.options.Options.{Options}
use Rattle.mdcc_struct.proofs.Order.{tx_eq-same}

-- an entry that stays is found
value-kept : {X : Type 0} (gone : TxId → Bool) (m : TxMap X) (tx : TxId) → gone tx ≡ false → value_of (filter (λ e. not (gone e.0)) m) tx ≡ value_of m tx
value-kept gone [] tx h = refl
value-kept gone (e ∷ es) tx h =
    let rest = value-kept gone es tx h in
    elim (cases_Bool (tx_eq e.0 tx)) [
      | inl same ↦
          let stays : gone e.0 ≡ false = ap gone (tx_eq-same e.0 tx same) ∙ h in
          rw (stays, same) refl
      | inr other ↦ elim (cases_Bool (gone e.0)) [
        | inl goes ↦ rw (goes, other) rest
        | inr stays ↦ rw (stays, other) rest
      ]
    ]

either : (a b finished : Bool) → (finished ≡ false → a ≡ b) → not (a || finished) ≡ not (b || finished)
either true true finished h = refl
either false false finished h = refl
either true false true h = refl
either false true true h = refl
either true false false h = absurd (let bad : true ≡ false = h refl in cc)
either false true false h = absurd (let bad : false ≡ true = h refl in cc)

module _ (facts : List Fact) (key : Key) (version : ℕ) (ballot : Ballot) where
  kept : (tx : TxId) → is_finished facts tx ≡ false
      → is_some (value_of (shown_of facts key version ballot) tx) ≡ is_some (value_of (votes_of facts key version ballot) tx)
  kept tx open_yet =
      let stays : is_forgotten facts key version tx ≡ false = rw open_yet refl in
      ap is_some (value-kept (is_forgotten facts key version) (votes_of facts key version ballot) tx stays)

  each : (tx : TxId) → is_new facts (shown_of facts key version ballot) tx ≡ is_new facts (votes_of facts key version ballot) tx
  each tx =
      either (is_some (value_of (shown_of facts key version ballot) tx)) (is_some (value_of (votes_of facts key version ballot) tx)) (is_finished facts tx) (kept tx)

  pub new_shown : (options : Options) → filter (λ e. is_new facts (shown_of facts key version ballot) e.0) options ≡ new_marks facts key version ballot options
  new_shown options = ap (λ (test : TxId × Mark → Bool). filter test options) (fun_ext (λ e. each e.0))

  -- as what is given
  pub new_given : (options votes : Options) (result : Result Options Memory) → votes ≡ shown_of facts key version ballot
      → IfOk result (λ marks. marks ≡ filter (λ e. is_new facts votes e.0) options) → IfOk result (λ marks. marks ≡ new_marks facts key version ballot options)
  new_given options votes (Ok marks) same is =
      is ∙ ap (λ (v : Options). filter (λ e. is_new facts v e.0) options) same ∙ new_shown options
  new_given options votes (Err fault) same is = tt
