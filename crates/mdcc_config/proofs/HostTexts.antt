-- The host that a text writes in dotted decimal, and that there is none.
use Rattle.std.proofs.Common.{◌≡◌, ℕ, List, [], ◌∷◌, length, Some, None, refl, sym, ap, ◌∙◌, subst, unwrap_or, append-nil, ne_eqb, arith, lit≤}
use Rattle.std.proofs.lemmas.Option.{none-some}
use Rattle.std.specs.declared.net.ipv4_addr.Ipv4Addr.{Ipv4Addr}
use Rattle.std.specs.Net.Grammar.{IsDotted, IsIpv4Text}
use Rattle.std.specs.Net.Reader.{Read, read_ipv4, whole_value}
use Rattle.std.proofs.NetLemmas.Ipv4.{read_ipv4_complete, read_ipv4_sound}
use Rattle.mdcc_config.specs.Readings.{host_of}

-- dotted decimal is read
pub host_read : (text octets : List ℕ) → IsDotted text octets → Some octets ≡ host_of text
host_read text octets dotted =
    subst (λ t. Some octets ≡ whole_value (read_ipv4 t)) (append-nil text) (sym (ap whole_value (read_ipv4_complete text octets [] dotted (lit≤ tt))))

none_left : (text octets rest : List ℕ) → read_ipv4 text ≡ Some (octets, rest) → ((a : Ipv4Addr) → ¬ (IsIpv4Text text a)) → None ≡ whole_value (Some (octets, rest))
none_left text octets [] is other =
    let (front, split, dotted) = read_ipv4_sound text octets [] is in
    absurd (other (record { octets = octets }) (subst (λ t. IsDotted t octets) (sym (split ∙ append-nil front)) dotted))
none_left text octets (c ∷ rest) is other = rw (ne_eqb (length (c ∷ rest)) 0 (omega arith))

none_by : (text : List ℕ) (r : Read (List ℕ)) → read_ipv4 text ≡ r → ((a : Ipv4Addr) → ¬ (IsIpv4Text text a)) → None ≡ whole_value r
none_by text None is other = refl
none_by text (Some r) is other = none_left text r.0 r.1 is other

-- what writes no address is not read
pub no_host : (text : List ℕ) → ((a : Ipv4Addr) → ¬ (IsIpv4Text text a)) → None ≡ host_of text
no_host text other = none_by text _ refl other

dotted_left : (text octets rest host : List ℕ) → read_ipv4 text ≡ Some (octets, rest) → whole_value (Some (octets, rest)) ≡ Some host → IsDotted text host
dotted_left text octets [] host is whole =
    let (front, split, dotted) = read_ipv4_sound text octets [] is in
    subst (IsDotted text) (ap (λ o. unwrap_or o []) whole) (subst (λ t. IsDotted t octets) (sym (split ∙ append-nil front)) dotted)
dotted_left text octets (c ∷ rest) host is whole =
    let none : whole_value (Some (octets, c ∷ rest)) ≡ None = rw (ne_eqb (length (c ∷ rest)) 0 (omega arith)) in
    absurd (none-some host (sym none ∙ whole))

dotted_by : (text host : List ℕ) (r : Read (List ℕ)) → read_ipv4 text ≡ r → whole_value r ≡ Some host → IsDotted text host
dotted_by text host None is whole = absurd (none-some host whole)
dotted_by text host (Some r) is whole = dotted_left text r.0 r.1 host is whole

-- what is read is dotted decimal
pub host_dotted : (text host : List ℕ) → host_of text ≡ Some host → IsDotted text host
host_dotted text host whole = dotted_by text host _ refl whole
