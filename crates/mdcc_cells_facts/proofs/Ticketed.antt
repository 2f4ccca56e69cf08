-- What is stored stays under its number when one more is stored.
use Rattle.std.proofs.Common.{◌≡◌, ◌≢◌, inl, inr, is_some, ℕ, zero, suc, ◌+◌, ◌<◌, ◌≤◌, true, List, [], ◌∷◌, ◌++◌, Option, Some, None, length, get_or, set, replicate, refl, sym, ap, ◌∙◌, arith, subst, length-append}
use Rattle.std.specs.Prelude.{IsSome}
use Rattle.std.proofs.lemmas.Bool.{cases_lt}
use Rattle.std.proofs.lemmas.List.{get_or-set_same, get_or-set_other, get_or_append_left, get_or_at, length-map, length-replicate, length-set}
use Rattle.mdcc_def_messages.specs.Lengths.{cells_needed, fact_length}
use Rattle.mdcc_def_messages.specs.Spelling.{fact_bytes}
use Rattle.mdcc_def_messages.specs.declared.facts.Fact.{Fact}
use Rattle.mdcc_def_messages.specs.declared.facts.Fact.TheVariants as facts
use Rattle.mdcc_theorem_encoding.proofs.Lengths.{length-fact}
use Rattle.mdcc_pool.specs.Held.{HeldCells, bytes_held_at}
use Rattle.mdcc_pool.specs.Sizes.{cells_for}
use Rattle.mdcc_pool.specs.declared.pool.Ticket.{Ticket}
use Rattle.mdcc_cells_facts.specs.Stored.{bytes_or_none, bytes_under, cells_taken, encodings_in, no_ticket, AreTicketed}

abbrev pub nothing : Option (List ℕ)
nothing = None

-- bytes are not held where nothing is
pub some-apart : (held : List (Option (List ℕ))) (first other : ℕ) → get_or held first None ≡ None → IsSome (get_or held other None) → other ≢ first
some-apart held first other unused some e =
    let no : is_some nothing ≡ true = subst IsSome (ap (λ i. get_or held i None) e ∙ unused) some in
    absurd (cc)

pub held-stays : (held : List (Option (List ℕ))) (first other : ℕ) (bytes : List ℕ) → get_or held first None ≡ None → IsSome (get_or held other None)
    → get_or (set held first (Some bytes)) other None ≡ get_or held other None
held-stays held first other bytes unused some = get_or-set_other held first other (Some bytes) None (some-apart held first other unused some)

pub encodings-stay : (held : List (Option (List ℕ))) (first : ℕ) (bytes : List ℕ) (tickets : List Ticket) → get_or held first None ≡ None
    → ((number : ℕ) → number < length tickets → IsSome (get_or held (get_or tickets number no_ticket).first None))
    → encodings_in (set held first (Some bytes)) tickets ≡ encodings_in held tickets
encodings-stay held first bytes [] unused all = refl
encodings-stay held first bytes (ticket ∷ tickets) unused all =
    ap (λ b. bytes_or_none b ∷ encodings_in (set held first (Some bytes)) tickets) (held-stays held first ticket.first bytes unused (all zero (omega arith)))
    ∙ ap (λ bs. bytes_under held ticket ∷ bs) (encodings-stay held first bytes tickets unused (λ number l. all (suc number) (omega arith)))

encodings-more : (held : List (Option (List ℕ))) (tickets : List Ticket) (ticket : Ticket) → encodings_in held (tickets ++ ticket ∷ []) ≡ encodings_in held tickets ++ bytes_under held ticket ∷ []
encodings-more held [] ticket = refl
encodings-more held (t ∷ tickets) ticket = ap (λ bs. bytes_under held t ∷ bs) (encodings-more held tickets ticket)

pub stored-more : (old new : HeldCells) (tickets : List Ticket) (ticket : Ticket) (bytes : List ℕ)
    → ((number : ℕ) → number < length tickets → IsSome (bytes_held_at old (get_or tickets number no_ticket).first))
    → bytes_held_at old ticket.first ≡ None → ticket.first < length old.held → new.held ≡ set old.held ticket.first (Some bytes)
    → encodings_in new.held (tickets ++ ticket ∷ []) ≡ encodings_in old.held tickets ++ bytes ∷ []
stored-more old new tickets ticket bytes held unused within put =
    ap (λ h. encodings_in h (tickets ++ ticket ∷ [])) put
    ∙ encodings-more (set old.held ticket.first (Some bytes)) tickets ticket
    ∙ ap (λ bs. bs ++ bytes_under (set old.held ticket.first (Some bytes)) ticket ∷ []) (encodings-stay old.held ticket.first bytes tickets unused held)
    ∙ ap (λ b. encodings_in old.held tickets ++ bytes_or_none b ∷ []) (get_or-set_same old.held ticket.first (Some bytes) None within)

pub taken-more : (encodings : List (List ℕ)) (bytes : List ℕ) → cells_taken (encodings ++ bytes ∷ []) ≡ cells_for (length bytes) + cells_taken encodings
taken-more [] bytes = refl
taken-more (e ∷ encodings) bytes = omega (arith, taken-more encodings bytes)

module _ (old new : HeldCells) (tickets : List Ticket) (ticket : Ticket) (bytes : List ℕ) (capacity larger cells : ℕ) (kept : AreTicketed old tickets capacity)
    (unused : bytes_held_at old ticket.first ≡ None) (within : ticket.first < length old.held) (put : new.held ≡ set old.held ticket.first (Some bytes))
    (used : new.spare + cells ≡ old.spare) (some : 1 ≤ cells) (needed : cells ≡ cells_for (length bytes)) where
  held-more : (number : ℕ) → number < length (tickets ++ ticket ∷ []) → IsSome (bytes_held_at new (get_or (tickets ++ ticket ∷ []) number no_ticket).first)
  held-more number below =
      elim (cases_lt number (length tickets)) [
        | inl older ↦
            let at : get_or (tickets ++ ticket ∷ []) number no_ticket ≡ get_or tickets number no_ticket = get_or_append_left tickets (ticket ∷ []) no_ticket number older in
            let was : IsSome (get_or old.held (get_or tickets number no_ticket).first None) = kept.held number older in
            let stays : bytes_held_at new (get_or (tickets ++ ticket ∷ []) number no_ticket).first ≡ get_or old.held (get_or tickets number no_ticket).first None =
            ap (λ t. bytes_held_at new t.first) at ∙ ap (λ h. get_or h (get_or tickets number no_ticket).first None) put
            ∙ held-stays old.held ticket.first (get_or tickets number no_ticket).first bytes unused was in
            subst IsSome (sym stays) was
        | inr newest ↦
            let same : length tickets ≡ number = omega (arith, length-append tickets (ticket ∷ [])) in
            let found : bytes_held_at new (get_or (tickets ++ ticket ∷ []) number no_ticket).first ≡ Some bytes =
            ap (λ t. bytes_held_at new t.first) (get_or_at tickets ticket [] no_ticket number same) ∙ ap (λ h. get_or h ticket.first None) put
            ∙ get_or-set_same old.held ticket.first (Some bytes) None within in
            ap is_some found
      ]

  pub ticketed-more : capacity ≤ larger → AreTicketed new (tickets ++ ticket ∷ []) larger
  ticketed-more more = record {
    held = held-more;
    used = omega (arith, kept.used, length-append tickets (ticket ∷ []), ap length put, length-set old.held ticket.first (Some bytes));
    counted = omega (
      arith,
      kept.counted,
      used,
      needed,
      ap cells_taken (stored-more old new tickets ticket bytes kept.held unused within put),
      taken-more (encodings_in old.held tickets) bytes,
      ap length put,
      length-set old.held ticket.first (Some bytes),
    );
    room = omega (arith, kept.room, ap length put, length-set old.held ticket.first (Some bytes));
    small = omega (arith, kept.small, ap length put, length-set old.held ticket.first (Some bytes));
  }

pub ticketed-none : (pool : HeldCells) (cells capacity : ℕ) → pool ≡ record { spare = cells; held = replicate cells None } → cells ≤ capacity → cells < 4294967296 → AreTicketed pool [] capacity
ticketed-none pool cells capacity is room small =
    let long : length pool.held ≡ cells = ap (λ p. length p.held) is ∙ length-replicate cells nothing in
    record {
      held = λ number below. absurd (omega arith);
      used = omega (arith, long, ap (λ p. p.spare) is);
      counted = omega (arith, long, ap (λ p. p.spare) is);
      room = omega (arith, long);
      small = omega (arith, long);
    }

pub stored-length : (held : List (Option (List ℕ))) (tickets : List Ticket) → length (encodings_in held tickets) ≡ length tickets
stored-length held tickets = length-map tickets (bytes_under held)

pub stored-at : (held : List (Option (List ℕ))) (tickets : List Ticket) (number : ℕ) (bytes : List ℕ) → number < length tickets
    → get_or held (get_or tickets number no_ticket).first None ≡ Some bytes → get_or (encodings_in held tickets) number [] ≡ bytes
stored-at held [] number bytes below is = absurd (omega arith)
stored-at held (ticket ∷ tickets) zero bytes below is = ap bytes_or_none is
stored-at held (ticket ∷ tickets) (suc number) bytes below is = stored-at held tickets number bytes (omega arith) is

-- ---- how many cells a fact takes

some-length : (fact : Fact) → 1 ≤ fact_length fact
some-length (facts.Booted epoch) = omega arith
some-length (facts.Floor origin era upto) = omega arith
some-length (facts.Promised key low high ballot) = omega arith
some-length (facts.Voted key version ballot options offered) = omega arith
some-length (facts.Heard tx outcome) = omega arith
some-length (facts.Adopted key version item adds) = omega arith

pub some-cells : (fact : Fact) → 1 ≤ cells_needed fact
some-cells fact = omega (arith, some-length fact)

pub cells-alike : (fact : Fact) → cells_for (length (fact_bytes fact)) ≡ cells_needed fact
cells-alike fact = omega (arith, length-fact fact, some-length fact)

-- what was encoded into an empty buffer is the encoding
pub encoded : (fact : Fact) (bytes text empty : List ℕ) → bytes ≡ text → text ≡ empty ++ fact_bytes fact → empty ≡ [] → bytes ≡ fact_bytes fact
encoded fact bytes text empty bytes-are text-is empty-is = bytes-are ∙ text-is ∙ ap (λ b. b ++ fact_bytes fact) empty-is

pub encoded-cells : (fact : Fact) (bytes text empty : List ℕ) → bytes ≡ text → text ≡ empty ++ fact_bytes fact → empty ≡ [] → cells_for (length bytes) ≡ cells_needed fact
encoded-cells fact bytes text empty bytes-are text-is empty-is =
    ap (λ b. cells_for (length b)) (encoded fact bytes text empty bytes-are text-is empty-is) ∙ cells-alike fact
