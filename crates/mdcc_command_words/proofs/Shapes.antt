-- The parser of words finds no fault in those of the commands with a fixed number of words.
use Rattle.std.proofs.Common.{◌≡◌, ◌==◌, ℕ, true, false, [], ◌∷◌, codes, refl}
use Rattle.clap.specs.Words.{Text, fault_of, is_simple_and_free}
use Rattle.clap.proofs.OnLiterals.{clap_on_literals}
use Rattle.mdcc_command_words.specs.Grammar.{grammar}

pub grammar_is_simple : is_simple_and_free grammar ≡ true
grammar_is_simple = refl

pub replay_is_taken : fault_of grammar (codes "replay" ∷ []) ≡ []
unfolding clap_on_literals
replay_is_taken = refl

pub check_is_taken : fault_of grammar (codes "check" ∷ []) ≡ []
unfolding clap_on_literals
check_is_taken = refl

pub audit_is_taken : fault_of grammar (codes "audit" ∷ []) ≡ []
unfolding clap_on_literals
audit_is_taken = refl

pub cluster_is_taken : (x : ℕ) (xs : Text) → (x == 45) ≡ false → fault_of grammar (codes "cluster" ∷ (x ∷ xs) ∷ []) ≡ []
unfolding clap_on_literals
cluster_is_taken x xs hx = simp hx refl

pub dump_is_taken : (x : ℕ) (xs : Text) → (x == 45) ≡ false → fault_of grammar (codes "dump" ∷ (x ∷ xs) ∷ []) ≡ []
unfolding clap_on_literals
dump_is_taken x xs hx = simp hx refl

pub node_is_taken : (x y : ℕ) (xs ys : Text) → (x == 45) ≡ false → (y == 45) ≡ false
    → fault_of grammar (codes "node" ∷ (x ∷ xs) ∷ (y ∷ ys) ∷ []) ≡ []
unfolding clap_on_literals
node_is_taken x y xs ys hx hy = simp (hx, hy) refl

pub sample_is_taken : (x y z : ℕ) (xs ys zs : Text) → (x == 45) ≡ false → (y == 45) ≡ false → (z == 45) ≡ false
    → fault_of grammar (codes "sample" ∷ (x ∷ xs) ∷ (y ∷ ys) ∷ (z ∷ zs) ∷ []) ≡ []
unfolding clap_on_literals
sample_is_taken x y z xs ys zs hx hy hz = simp (hx, hy, hz) refl
