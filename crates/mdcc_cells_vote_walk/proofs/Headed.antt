-- The heads of facts, as they are read in their bytes.
use Rattle.std.proofs.Common.{◌≡◌, ℕ, ◌+◌, ◌<◌, ◌≤◌, ◌^◌, false, List, [], ◌∷◌, ◌++◌, Option, Some, None, Ok, Err, length, take, drop, refl, sym, ap, ◌∙◌, append_assoc, append-nil, arith, length-append}
use Rattle.std.specs.Prelude.{if◌then◌else◌, nat_le, Result, ◌&&◌, ◌==◌}
use Rattle.std.proofs.lemmas.List.{drop_at}
use Rattle.std.specs.Int.{is_in_range}
use Rattle.std.specs.List.{flat_map}
use Rattle.mdcc_base.specs.Ballot.{fast_ballot}
use Rattle.mdcc_base.specs.Key.{key_eq}
use Rattle.mdcc_base.specs.declared.identifiers.Ballot.{Ballot}
use Rattle.mdcc_option.specs.declared.choices.Choice.{Choice}
use Rattle.mdcc_struct.specs.Options.{Marks}
use Rattle.mdcc_def_messages.specs.Bytes.{u8_bytes, u32_bytes, u64_bytes}
use Rattle.mdcc_def_messages.specs.Reading.{instance_at}
use Rattle.mdcc_def_messages.specs.ReadingParts.{ballot_at}
use Rattle.mdcc_def_messages.specs.ReadingSteps.{◌>>=◌, u32_at, u64_at, u8_within}
use Rattle.mdcc_def_messages.specs.Spelling.{fact_bytes, offered_bytes}
use Rattle.mdcc_def_messages.specs.SpelledParts.{ballot_bytes, key_bytes}
use Rattle.mdcc_def_messages.specs.WellFormed.{IsWellFormedFact}
use Rattle.mdcc_def_messages.specs.declared.facts.Fact.{Fact}
use Rattle.mdcc_def_messages.specs.declared.facts.Fact.TheVariants as facts
use Rattle.mdcc_def_messages.specs.declared.wire.WireFault.{WireFault}
use Rattle.mdcc_def_messages.specs.declared.wire.WireFault.TheVariants.{Range}
use Rattle.mdcc_theorem_encoding.proofs.Choices.{entry_spelled}
use Rattle.mdcc_theorem_encoding.proofs.Identifiers.{ballot_again, key_again}
use Rattle.mdcc_theorem_encoding.proofs.Numbers.{u32_again, u64_again, u8_again, u8_within_again}
use Rattle.mdcc_theorem_encoding.proofs.Places.{IsAt, apart-5}
use Rattle.mdcc_theorem_encoding.proofs.Steps.{done}
use Rattle.mdcc_cells_vote_walk.specs.Heads.{any_head, head_any, head_in, head_of, vote_at}
use Rattle.mdcc_cells_vote_walk.specs.declared.heads.Head.{Head}
use Rattle.mdcc_cells_vote_walk.proofs.Fronts.{front-at}

-- another tag than the one that is asked for
tag-other : (low high n : ℕ) (rest : List ℕ) → n < 2 ^ 8 → is_in_range low high n ≡ false → u8_within 0 low high (take 64 (n ∷ rest)) 0 ≡ Err (Range 0)
tag-other low high n rest small other =
    let at : IsAt (take 64 (n ∷ rest)) 0 (u8_bytes n) = record { is = refl } in
    rw (u8_again (take 64 (n ∷ rest)) 0 n small at, other) refl

-- ---- votes

abbrev head_bytes : List ℕ → ℕ → Ballot → ℕ → List ℕ
head_bytes key version ballot count = u8_bytes 3 ++ key_bytes key ++ u64_bytes version ++ ballot_bytes ballot ++ u32_bytes count

-- the marks, and the choice that was offered
abbrev pub marks_bytes : Marks → Option Choice → List ℕ
marks_bytes options offered = flat_map entry_spelled options ++ offered_bytes offered

module _ (key : List ℕ) (version : ℕ) (ballot : Ballot) (options : Marks) (offered : Option Choice) where
  abbrev voted : Fact
  voted = facts.Voted key version ballot options offered

  vote-parts : fact_bytes voted ≡ head_bytes key version ballot (length options) ++ marks_bytes options offered
  vote-parts =
      let front = u8_bytes 3 ++ key_bytes key ++ u64_bytes version ++ ballot_bytes ballot in
      ap (λ bytes. bytes ++ offered_bytes offered) (sym (append_assoc front (u32_bytes (length options)) (flat_map entry_spelled options)))
      ∙ append_assoc (front ++ u32_bytes (length options)) (flat_map entry_spelled options) (offered_bytes offered)

  head-length : length (head_bytes key version ballot (length options)) ≡ 23 + length key
  head-length =
      omega (
        arith,
        length-append (key ++ u64_bytes version ++ ballot_bytes ballot) (u32_bytes (length options)),
        length-append (key ++ u64_bytes version) (ballot_bytes ballot),
        length-append key (u64_bytes version),
      )

  vote-again : IsWellFormedFact voted → vote_at (take 64 (fact_bytes voted)) ≡ Ok ((key, version, ballot, length options), 23 + length key)
  vote-again w =
      let bytes = take 64 (fact_bytes voted) in
      let head = head_bytes key version ballot (length options) in
      let short : length head ≤ 64 = omega (arith, head-length, w.instance.key_itself.fits) in
      let p = apart-5 bytes 0 (u8_bytes 3) (key_bytes key) (u64_bytes version) (ballot_bytes ballot) (u32_bytes (length options)) (front-at (fact_bytes voted) head (marks_bytes options offered) 64 vote-parts short) in
      let tag = u8_within_again 0 3 3 bytes 0 3 (omega arith) (omega arith, omega arith) p.0 in
      let e0 = key_again bytes 1 key w.instance.key_itself p.1 in
      let e1 = u64_again bytes (1 + length (key_bytes key)) version w.instance.version_fits p.2 in
      let e2 = ballot_again bytes (1 + length (key_bytes key) + 8) ballot w.ballot_itself p.3 in
      let e3 = u32_again bytes (1 + length (key_bytes key) + 8 + 9) (length options) w.options_itself.count p.4 in
      rw (tag, e0, e1, e2, e3) (ap (λ n. done ((key, version, ballot, length options), n)) (omega arith))

  -- the marks begin after the head
  pub marks-begin : drop (23 + length key) (fact_bytes voted) ≡ marks_bytes options offered
  marks-begin = ap (drop (23 + length key)) vote-parts ∙ drop_at (head_bytes key version ballot (length options)) (marks_bytes options offered) (23 + length key) head-length

-- what is said of the head of a fact
abbrev pub head_from : List ℕ → ℕ → Fact → Option Head
head_from key version (facts.Voted k v ballot options offered) =
    if v == version && key_eq k key then Some (record { ballot = ballot; count = length options; begin = 23 + length k }) else None
head_from key version _ = None

abbrev vote_after : List ℕ → ℕ × ℕ → Result ((List ℕ × ℕ × Ballot × ℕ) × ℕ) WireFault
vote_after bytes tag =
    instance_at bytes tag.1 >>= λ instance. ballot_at bytes instance.1 >>= λ ballot. u32_at bytes ballot.1 >>= λ count. Ok ((instance.0.0, instance.0.1, ballot.0, count.0), count.1)

no-vote : (key : List ℕ) (version n : ℕ) (rest : List ℕ) → n < 2 ^ 8 → is_in_range 3 3 n ≡ false → head_in key version (n ∷ rest) ≡ None
no-vote key version n rest small other = ap (λ tag. head_of key version (tag >>= vote_after (take 64 (n ∷ rest)))) (tag-other 3 3 n rest small other)

pub head-again : (key : List ℕ) (version : ℕ) (fact : Fact) → IsWellFormedFact fact → head_in key version (fact_bytes fact) ≡ head_from key version fact
head-again key version (facts.Voted k v ballot options offered) w = ap (head_of key version) (vote-again k v ballot options offered w)
head-again key version (facts.Booted epoch) w = no-vote key version 1 (drop 1 (fact_bytes (facts.Booted epoch))) (omega arith) refl
head-again key version (facts.Floor origin era upto) w = no-vote key version 6 (drop 1 (fact_bytes (facts.Floor origin era upto))) (omega arith) refl
head-again key version (facts.Promised k low high ballot) w = no-vote key version 2 (drop 1 (fact_bytes (facts.Promised k low high ballot))) (omega arith) refl
head-again key version (facts.Heard tx outcome) w = no-vote key version 4 (drop 1 (fact_bytes (facts.Heard tx outcome))) (omega arith) refl
head-again key version (facts.Adopted k v item adds) w = no-vote key version 5 (drop 1 (fact_bytes (facts.Adopted k v item adds))) (omega arith) refl

-- ---- votes in any instance

abbrev pub any_head_from : Fact → Option Head
any_head_from (facts.Voted k v ballot options offered) = Some (record { ballot = ballot; count = length options; begin = 23 + length k })
any_head_from _ = None

no-head : (n : ℕ) (rest : List ℕ) → n < 2 ^ 8 → is_in_range 3 3 n ≡ false → head_any (n ∷ rest) ≡ None
no-head n rest small other = ap (λ tag. any_head (tag >>= vote_after (take 64 (n ∷ rest)))) (tag-other 3 3 n rest small other)

pub any-head-again : (fact : Fact) → IsWellFormedFact fact → head_any (fact_bytes fact) ≡ any_head_from fact
any-head-again (facts.Voted k v ballot options offered) w = ap any_head (vote-again k v ballot options offered w)
any-head-again (facts.Booted epoch) w = no-head 1 (drop 1 (fact_bytes (facts.Booted epoch))) (omega arith) refl
any-head-again (facts.Floor origin era upto) w = no-head 6 (drop 1 (fact_bytes (facts.Floor origin era upto))) (omega arith) refl
any-head-again (facts.Promised k low high ballot) w = no-head 2 (drop 1 (fact_bytes (facts.Promised k low high ballot))) (omega arith) refl
any-head-again (facts.Heard tx outcome) w = no-head 4 (drop 1 (fact_bytes (facts.Heard tx outcome))) (omega arith) refl
any-head-again (facts.Adopted k v item adds) w = no-head 5 (drop 1 (fact_bytes (facts.Adopted k v item adds))) (omega arith) refl
