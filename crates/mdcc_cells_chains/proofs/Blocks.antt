-- Heads of chains in blocks.
use Rattle.std.proofs.Common.{◌≡◌, inl, inr, ℕ, zero, suc, ◌+◌, ◌*◌, ◌/◌, ◌%◌, ◌<◌, ◌≤◌, ◌^◌, ◌++◌, ◌∷◌, [], List, Option, Some, None, length, get_or, set, replicate, refl, sym, ◌∙◌, ap, subst, arith}
use Rattle.std.specs.Prelude.{IfSome}
use Rattle.std.proofs.lemmas.Bool.{cases_eq}
use Rattle.std.proofs.lemmas.List.{get_or-set_same, get_or-set_other, get_or_append_left, get_or_default, get_or-append-add, get_or-replicate, length-append, length-replicate, length-set}
use Rattle.mdcc_cells_chains.specs.Heads.{AreBlocks, chain_head_in, head_at, heads_of, listed_from, used}

abbrev pub no_index : Option ℕ
no_index = None

-- ---- lists of values

pub listed-length : (f : ℕ → Option ℕ) (at n : ℕ) → length (listed_from f at n) ≡ n
listed-length f at zero = refl
listed-length f at (suc n) = ap suc (listed-length f (at + 1) n)

pub listed-get : (f : ℕ → Option ℕ) (at n i : ℕ) → i < n → get_or (listed_from f at n) i None ≡ f (at + i)
listed-get f at zero i within = absurd (omega arith)
listed-get f at (suc n) zero within = let none : at ≡ at + 0 = omega arith in ap f none
listed-get f at (suc n) (suc i) within = let more : at + 1 + i ≡ at + suc i = omega arith in listed-get f (at + 1) n i (omega arith) ∙ ap f more

pub listed-same : (f g : ℕ → Option ℕ) (at n : ℕ) → ((i : ℕ) → g i ≡ f i) → listed_from g at n ≡ listed_from f at n
listed-same f g at zero same = refl
listed-same f g at (suc n) same = ap (λ x. x ∷ listed_from g (at + 1) n) (same at) ∙ ap (λ xs. f at ∷ xs) (listed-same f g (at + 1) n same)

-- those from an index on, where they are the same there
listed-rest : (f g : ℕ → Option ℕ) (at n : ℕ) → ((i : ℕ) → at ≤ i → g i ≡ f i) → listed_from g at n ≡ listed_from f at n
listed-rest f g at zero same = refl
listed-rest f g at (suc n) same = ap (λ x. x ∷ listed_from g (at + 1) n) (same at (omega arith)) ∙ ap (λ xs. f at ∷ xs) (listed-rest f g (at + 1) n (λ i h. same i (omega arith)))

pub listed-set : (f g : ℕ → Option ℕ) (at n i : ℕ) (x : Option ℕ) → i < n → g (at + i) ≡ x → ((j : ℕ) → (j ≡ at + i → ⊥) → g j ≡ f j) → listed_from g at n ≡ set (listed_from f at n) i x
listed-set f g at zero i x within here others = absurd (omega arith)
listed-set f g at (suc n) zero x within here others =
    let none : at ≡ at + 0 = omega arith in
    ap (λ y. y ∷ listed_from g (at + 1) n) (ap g none ∙ here)
    ∙ ap (λ xs. x ∷ xs) (listed-rest f g (at + 1) n (λ j h. others j (λ e. absurd (omega arith))))
listed-set f g at (suc n) (suc i) x within here others =
    let more : at + 1 + i ≡ at + suc i = omega arith in
    ap (λ y. y ∷ listed_from g (at + 1) n) (others at (λ e. absurd (omega arith)))
    ∙ ap (λ xs. f at ∷ xs) (listed-set f g (at + 1) n i x (omega arith) (ap g more ∙ here) (λ j apart. others j (λ e. apart (omega arith))))

listed-none : (f : ℕ → Option ℕ) (at n : ℕ) → ((i : ℕ) → f i ≡ None) → listed_from f at n ≡ replicate n None
listed-none f at zero none = refl
listed-none f at (suc n) none = ap (λ x. x ∷ listed_from f (at + 1) n) (none at) ∙ ap (λ xs. None ∷ xs) (listed-none f (at + 1) n none)

-- ---- blocks

none-at : (n i : ℕ) → get_or (replicate n no_index) i None ≡ None
none-at zero i = refl
none-at (suc n) zero = refl
none-at (suc n) (suc i) = none-at n i

pub none-used : (n : ℕ) → used (replicate n None) ≡ 0
none-used zero = refl
none-used (suc n) = none-used n

used-most : (blocks : List (Option ℕ)) → used blocks ≤ length blocks
used-most [] = omega arith
used-most (None ∷ blocks) = omega (arith, used-most blocks)
used-most (Some block ∷ blocks) = omega (arith, used-most blocks)

pub used-below : (blocks : List (Option ℕ)) (at : ℕ) → at < length blocks → get_or blocks at None ≡ None → used blocks < length blocks
used-below [] at within free = absurd (omega arith)
used-below (None ∷ blocks) zero within free = omega (arith, used-most blocks)
used-below (None ∷ blocks) (suc at) within free = omega (arith, used-below blocks at (omega arith) free)
used-below (Some block ∷ blocks) zero within free = absurd (cc)
used-below (Some block ∷ blocks) (suc at) within free = omega (arith, used-below blocks at (omega arith) free)

used-set : (blocks : List (Option ℕ)) (at block : ℕ) → at < length blocks → get_or blocks at None ≡ None → used (set blocks at (Some block)) ≡ suc (used blocks)
used-set [] at block within free = absurd (omega arith)
used-set (None ∷ blocks) zero block within free = refl
used-set (None ∷ blocks) (suc at) block within free = used-set blocks at block (omega arith) free
used-set (Some other ∷ blocks) zero block within free = absurd (cc)
used-set (Some other ∷ blocks) (suc at) block within free = ap suc (used-set blocks at block (omega arith) free)

pub blocks-none : (n capacity : ℕ) → n < 2 ^ 32 → n * 64 ≤ capacity → AreBlocks (replicate n None) [] capacity
blocks-none n capacity small reserved = record {
  small = omega (arith, length-replicate n no_index);
  long = ap (λ u. u * 64) (sym (none-used n));
  reserved = omega (arith, length-replicate n no_index);
  within = λ at. subst (λ found. IfSome found (λ block. block < used (replicate n None))) (sym (none-at n at)) tt;
  apart = λ a b block first second. let gone : None ≡ Some block = sym (none-at n a) ∙ first in absurd (cc);
}

pub heads-none : (n count : ℕ) → heads_of (replicate n None) [] count ≡ replicate count None
heads-none n count = listed-none (head_at (replicate n None) []) 0 count (λ i. ap (λ block. chain_head_in [] block i) (none-at n (i / 64)))

-- the number of a block that was written
within-is : (blocks : List (Option ℕ)) (at block : ℕ) → ((i : ℕ) → IfSome (get_or blocks i None) (λ block. block < used blocks)) → get_or blocks at None ≡ Some block → block < used blocks
within-is blocks at block within is = subst (λ found. IfSome found (λ block. block < used blocks)) is (within at)

pub block-below : (blocks heads : List (Option ℕ)) (capacity chain block : ℕ) → AreBlocks blocks heads capacity → get_or blocks (chain / 64) None ≡ Some block → block * 64 + chain % 64 < length heads
block-below blocks heads capacity chain block are is = omega (arith, within-is blocks (chain / 64) block are.within is, are.long)

-- ---- one more block

abbrev more_blocks : List (Option ℕ) → ℕ → List (Option ℕ)
more_blocks blocks at = set blocks at (Some (used blocks))

abbrev more_heads : List (Option ℕ) → List (Option ℕ)
more_heads heads = heads ++ replicate 64 None

abbrev IsWithin : List (Option ℕ) → Option ℕ → Type 0
IsWithin blocks found = IfSome found (λ block. block < used blocks)

wider : (found : Option ℕ) (few many : ℕ) → few ≤ many → IfSome found (λ block. block < few) → IfSome found (λ block. block < many)
wider None few many more within = tt
wider (Some block) few many more within = omega (arith, more, within)

pub blocks-more : (blocks heads : List (Option ℕ)) (capacity more at : ℕ) → AreBlocks blocks heads capacity → at < length blocks → get_or blocks at None ≡ None → capacity ≤ more → AreBlocks (more_blocks blocks at) (more_heads heads) more
blocks-more blocks heads capacity more at are within free room =
    let one : used (more_blocks blocks at) ≡ suc (used blocks) = used-set blocks at (used blocks) within free in
    let long : length (more_blocks blocks at) ≡ length blocks = length-set blocks at (Some (used blocks)) in
    let here : get_or (more_blocks blocks at) at None ≡ Some (used blocks) = get_or-set_same blocks at (Some (used blocks)) None within in
    let fresh = λ (i : ℕ) (is : get_or blocks i None ≡ Some (used blocks)). within-is blocks i (used blocks) are.within is in
    record {
      small = omega (arith, long, are.small);
      long = omega (arith, length-append heads (replicate 64 no_index), length-replicate 64 no_index, are.long, one);
      reserved = omega (arith, long, are.reserved, room);
      within = λ i. elim (cases_eq i at) [
        | inl same ↦ subst (λ k. IfSome (get_or (more_blocks blocks at) k None) (λ block. block < used (more_blocks blocks at))) (sym same)
            (subst (λ found. IfSome found (λ block. block < used (more_blocks blocks at))) (sym here) (omega (arith, one)))
        | inr other ↦ subst (λ found. IfSome found (λ block. block < used (more_blocks blocks at))) (sym (get_or-set_other blocks at i (Some (used blocks)) None other))
            (wider (get_or blocks i None) (used blocks) (used (more_blocks blocks at)) (omega (arith, one)) (are.within i))
      ];
      apart = λ a b block first second. elim (cases_eq a at) [
        | inl a-is ↦ elim (cases_eq b at) [
          | inl b-is ↦ a-is ∙ sym b-is
          | inr b-not ↦
              let is : Some (used blocks) ≡ Some block = sym here ∙ ap (λ k. get_or (more_blocks blocks at) k None) (sym a-is) ∙ first in
              let old : get_or blocks b None ≡ Some (used blocks) = sym (get_or-set_other blocks at b (Some (used blocks)) None b-not) ∙ second ∙ sym is in
              absurd (omega (arith, fresh b old))
        ]
        | inr a-not ↦ elim (cases_eq b at) [
          | inl b-is ↦
              let is : Some (used blocks) ≡ Some block = sym here ∙ ap (λ k. get_or (more_blocks blocks at) k None) (sym b-is) ∙ second in
              let old : get_or blocks a None ≡ Some (used blocks) = sym (get_or-set_other blocks at a (Some (used blocks)) None a-not) ∙ first ∙ sym is in
              absurd (omega (arith, fresh a old))
          | inr b-not ↦ are.apart a b block (sym (get_or-set_other blocks at a (Some (used blocks)) None a-not) ∙ first) (sym (get_or-set_other blocks at b (Some (used blocks)) None b-not) ∙ second)
        ]
      ];
    }

-- what is read in a block that was written stays
head-stays : (heads : List (Option ℕ)) (found : Option ℕ) (chain count : ℕ) → length heads ≡ count * 64 → IfSome found (λ block. block < count) → chain_head_in (more_heads heads) found chain ≡ chain_head_in heads found chain
head-stays heads None chain count long within = refl
head-stays heads (Some block) chain count long within = get_or_append_left heads (replicate 64 None) None (block * 64 + chain % 64) (omega (arith, long, within))

pub heads-more : (blocks heads : List (Option ℕ)) (capacity at chain : ℕ) → AreBlocks blocks heads capacity → at < length blocks → get_or blocks at None ≡ None → head_at (more_blocks blocks at) (more_heads heads) chain ≡ head_at blocks heads chain
heads-more blocks heads capacity at chain are within free = elim (cases_eq (chain / 64) at) [
  | inl same ↦
      let new : get_or (more_blocks blocks at) (chain / 64) None ≡ Some (used blocks) =
      ap (λ k. get_or (more_blocks blocks at) k None) same ∙ get_or-set_same blocks at (Some (used blocks)) None within in
      let old : get_or blocks (chain / 64) None ≡ None = ap (λ k. get_or blocks k None) same ∙ free in
      let from : used blocks * 64 + chain % 64 ≡ length heads + chain % 64 = omega (arith, are.long) in
      ap (λ found. chain_head_in (more_heads heads) found chain) new
      ∙ ap (λ k. get_or (more_heads heads) k None) from
      ∙ get_or-append-add heads (replicate 64 None) (chain % 64) None
      ∙ none-at 64 (chain % 64)
      ∙ ap (λ found. chain_head_in heads found chain) (sym old)
  | inr other ↦
      ap (λ found. chain_head_in (more_heads heads) found chain) (get_or-set_other blocks at (chain / 64) (Some (used blocks)) None other)
      ∙ head-stays heads (get_or blocks (chain / 64) None) chain (used blocks) are.long (are.within (chain / 64))
]

-- ---- one head

pub blocks-set : (blocks heads : List (Option ℕ)) (capacity more at : ℕ) (x : Option ℕ) → AreBlocks blocks heads capacity → capacity ≤ more → AreBlocks blocks (set heads at x) more
blocks-set blocks heads capacity more at x are room = record {
  small = are.small;
  long = length-set heads at x ∙ are.long;
  reserved = omega (arith, are.reserved, room);
  within = are.within;
  apart = are.apart;
}

-- another head stays, by the numbers of both blocks
head-other : (blocks heads : List (Option ℕ)) (capacity chain block other : ℕ) (found x : Option ℕ) → AreBlocks blocks heads capacity → get_or blocks (chain / 64) None ≡ Some block → get_or blocks (other / 64) None ≡ found → (other ≡ chain → ⊥)
    → chain_head_in (set heads (block * 64 + chain % 64) x) found other ≡ chain_head_in heads found other
head-other blocks heads capacity chain block other None x are is found-is apart = refl
head-other blocks heads capacity chain block other (Some second) x are is found-is apart =
    get_or-set_other heads (block * 64 + chain % 64) (second * 64 + other % 64) x None (λ e.
    let same : second ≡ block = omega arith in
    let blocks-same : other / 64 ≡ chain / 64 = are.apart (other / 64) (chain / 64) block (found-is ∙ ap (λ k. Some k) same) is in
    let rest : other % 64 ≡ chain % 64 = omega arith in
    apart (omega arith))

pub heads-set : (blocks heads : List (Option ℕ)) (capacity count chain block : ℕ) (x : Option ℕ) → AreBlocks blocks heads capacity → chain < count → get_or blocks (chain / 64) None ≡ Some block
    → heads_of blocks (set heads (block * 64 + chain % 64) x) count ≡ set (heads_of blocks heads count) chain x
heads-set blocks heads capacity count chain block x are within is =
    let here : head_at blocks (set heads (block * 64 + chain % 64) x) (0 + chain) ≡ x =
    let none : 0 + chain ≡ chain = omega arith in
    ap (λ k. head_at blocks (set heads (block * 64 + chain % 64) x) k) none
    ∙ ap (λ found. chain_head_in (set heads (block * 64 + chain % 64) x) found chain) is
    ∙ get_or-set_same heads (block * 64 + chain % 64) x None (block-below blocks heads capacity chain block are is) in
    listed-set (head_at blocks heads) (head_at blocks (set heads (block * 64 + chain % 64) x)) 0 count chain x within here
    (λ j apart. head-other blocks heads capacity chain block j (get_or blocks (j / 64) None) x are is refl (λ e. apart (omega arith)))

-- ---- what is read

pub heads-length : (blocks heads : List (Option ℕ)) (count : ℕ) → length (heads_of blocks heads count) ≡ count
heads-length blocks heads count = listed-length (head_at blocks heads) 0 count

pub block-within : (blocks heads now : List (Option ℕ)) (count chain : ℕ) → heads_of blocks heads count ≡ now → chain < length now → count ≤ length blocks * 64 → chain / 64 < length blocks
block-within blocks heads now count chain is within few = omega (arith, within, ap length is, heads-length blocks heads count, few)

pub chain-below : (blocks heads now : List (Option ℕ)) (count chain : ℕ) → heads_of blocks heads count ≡ now → chain < length now → chain < count
chain-below blocks heads now count chain is within = omega (arith, within, ap length is, heads-length blocks heads count)

pub read-is : (entries : List (Option ℕ)) (i : ℕ) (found : Option ℕ) → i < length entries → found ≡ get_or entries i found → get_or entries i None ≡ found
read-is entries i found within is = sym (is ∙ get_or_default entries i found None within)

pub head-read : (blocks heads now : List (Option ℕ)) (count chain : ℕ) → heads_of blocks heads count ≡ now → chain < length now → get_or now chain None ≡ head_at blocks heads chain
head-read blocks heads now count chain is within =
    let none : 0 + chain ≡ chain = omega arith in
    ap (λ xs. get_or xs chain None) (sym is) ∙ listed-get (head_at blocks heads) 0 count chain (chain-below blocks heads now count chain is within) ∙ ap (head_at blocks heads) none

pub heads-same : (blocks heads others more : List (Option ℕ)) (count : ℕ) → ((chain : ℕ) → head_at others more chain ≡ head_at blocks heads chain) → heads_of others more count ≡ heads_of blocks heads count
heads-same blocks heads others more count same = listed-same (head_at blocks heads) (head_at others more) 0 count same
