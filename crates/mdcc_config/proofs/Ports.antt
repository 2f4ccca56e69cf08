-- The ports of centres, one by one.
use Rattle.std.proofs.Common.{◌≡◌, ◌+◌, ◌++◌, ℕ, suc, List, [], ◌∷◌, length, refl, sym, ap, ◌∙◌, arith, length-append}
use Rattle.std.proofs.lemmas.List.FromFn.{map-range_with_len_more, length-map-range_with_len}
use Rattle.mdcc_base.specs.declared.outside.Address.{Address}
use Rattle.mdcc_config.specs.IsConfig.{ports_of, centre_ports}

ports_of-append : (found more : List Address) → ports_of (found ++ more) ≡ ports_of found ++ ports_of more
ports_of-append [] more = refl
ports_of-append (one ∷ found) more = ap (λ ports. one.port ∷ ports) (ports_of-append found more)

-- the next address behind those of the centres so far
pub port_behind : (found : List Address) (one : Address) (port : ℕ) → ports_of found ≡ centre_ports port (length found) → one.port ≡ port + (length found + 1)
    → ports_of (found ++ one ∷ []) ≡ centre_ports port (length (found ++ one ∷ []))
port_behind found one port so_far is =
    rw (ports_of-append, so_far, is, length-append)
    (sym (map-range_with_len_more (λ centre. port + centre) 1 (length found) (length found + 1) (omega arith)))

length-ports_of : (addresses : List Address) → length (ports_of addresses) ≡ length addresses
length-ports_of [] = refl
length-ports_of (one ∷ more) = ap suc (length-ports_of more)

-- there is an address for each centre
pub address_for_each : (addresses : List Address) (port n : ℕ) → ports_of addresses ≡ centre_ports port n → length addresses ≡ n
address_for_each addresses port n are = sym (length-ports_of addresses) ∙ (ap length are ∙ length-map-range_with_len (λ centre. port + centre) 1 n)
