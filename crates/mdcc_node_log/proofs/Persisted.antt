-- Facts that are made durable together.
use Rattle.std.proofs.Common.{◌≡◌, ◌==◌, ◌++◌, ◌≤◌, ℕ, Bool, true, false, List, [], Result, Ok, Err, OnOk, length, map, sym, ◌∙◌, ap, arith, append-nil}
use Rattle.std.proofs.lemmas.Bool.Decides.{nat_tests}
use Rattle.mdcc_node_log.proofs.Starts.{group-encoded}
use Rattle.mdcc_node_log.specs.Logged.{with_facts}
use Rattle.mdcc_log.proofs.Groups.{none_left}
use Rattle.mdcc_def_messages.specs.Spelling.{encodings_of, fact_bytes}
use Rattle.mdcc_def_messages.specs.declared.facts.Fact.{Fact}

-- by what is said of their number
none-long : (n : ℕ) (told : Bool) → told ≡ (n == 0) → told ≡ true → n ≡ 0
none-long n told is holds = grind (arith, nat_tests)

pub none-are : (ps : List (List ℕ)) (told : Bool) → told ≡ (length ps == 0) → told ≡ true → ps ≡ []
none-are ps told is holds = none_left ps (none-long (length ps) told is holds)

pub some-are : (n : ℕ) (told : Bool) → told ≡ (n == 0) → told ≡ false → 1 ≤ n
some-are n told is fails = grind (arith, nat_tests)

-- the payloads of these facts stand behind those of others
pub spelled-more : (facts more : List Fact) (ps : List (List ℕ)) → ps ≡ map fact_bytes more → encodings_of facts ++ ps ≡ encodings_of (with_facts facts more)
spelled-more facts more ps are = ap (λ (qs : List (List ℕ)). encodings_of facts ++ qs) are ∙ group-encoded facts more

pub spelled-none : (facts more : List Fact) (ps : List (List ℕ)) → ps ≡ [] → ps ≡ map fact_bytes more → encodings_of facts ≡ encodings_of (with_facts facts more)
spelled-none facts more ps none are = sym (append-nil (encodings_of facts)) ∙ ap (λ (qs : List (List ℕ)). encodings_of facts ++ qs) (sym none) ∙ spelled-more facts more ps are

-- what holds of an answer, weakened
pub on-ok : {T E : Type 0} (P Q : Type 0) (result : Result T E) → (P → Q) → OnOk result P → OnOk result Q
on-ok P Q (Ok x) from has = from has
on-ok P Q (Err e) from has = tt
