-- Sockets: their addresses, which errors are no fault, and which receive does not wait.
use Rattle.std.specs.Prelude.{◌≡◌, ℕ, ℤ, pos, ◌+◌, Bool, true, false, ◌==◌, ◌||◌, if◌then◌else◌, Option, Some, None, Result, Ok, Err}
use Rattle.std.specs.Ordering.{int_eq}
use Rattle.std.specs.declared.net.socket_addr.SocketAddr.{SocketAddr}
use Rattle.std.specs.declared.net.ip_addr.IpAddr.TheVariants as ip
use Rattle.std.specs.declared.net.ipv4_addr.Ipv4Addr.{Ipv4Addr}
use Rattle.std.specs.Net.Addr.{ipv4_octets}
use Rattle.std.specs.Net.Socket.{socket_ip, socket_port}
use Rattle.std.specs.IoError.{error_kind, raw_os_error}
use Rattle.std.specs.declared.io.Error.{Error}
use Rattle.std.specs.declared.io.ErrorKind.{ErrorKind}
use Rattle.std.specs.declared.io.ErrorKind.TheVariants as kind
use Rattle.mdcc_base.specs.declared.faults.Failed.{Failed}
use Rattle.mdcc_base.specs.declared.outside.Address.{Address}
use Rattle.mdcc_link.specs.declared.link.Received.{Received}
use Rattle.mdcc_link.specs.declared.link.Received.TheVariants.{Got, Nothing}

-- the socket's address has this host and this port
pub record IsSocketAddress (address : Address) (socket : SocketAddr) : Type 0 where
  pub host : Ipv4Addr
  pub ip : socket_ip socket ≡ ip.V4 host
  pub octets : ipv4_octets host ≡ address.host
  pub port : socket_port socket ≡ address.port

-- Whether a receive that ended so brought nothing, and is no fault: nothing came, a signal came, an earlier datagram found no
-- receiver, or the system had no memory for it.
abbrev pub is_quiet_kind : ErrorKind → Bool
is_quiet_kind kind.WouldBlock = true
is_quiet_kind kind.TimedOut = true
is_quiet_kind kind.Interrupted = true
is_quiet_kind kind.ConnectionRefused = true
is_quiet_kind kind.OutOfMemory = true
is_quiet_kind _ = false

-- Linux's number of the error that the system has no buffers left, which has no kind of its own
abbrev pub has_no_buffers : Option ℤ → Bool
has_no_buffers (Some code) = int_eq code (pos 105)
has_no_buffers None = false

abbrev pub is_quiet : Error → Bool
is_quiet error = is_quiet_kind (error_kind error) || has_no_buffers (raw_os_error error)

-- what was found by a receive that ended so, if it did not fail
abbrev pub received_found : Result (ℕ × SocketAddr) Error → Option Received
received_found (Ok came) = Some (Got came.0)
received_found (Err error) = if is_quiet error then Some Nothing else None

-- the endpoint at which a receive brought a datagram
abbrev pub served_by : ℕ → Result Received Failed → Option ℕ
served_by at (Ok (Got _)) = Some at
served_by at (Ok Nothing) = None
served_by at (Err _) = None

-- whether this is a client's endpoint, and the receive just before was at the centre's own
abbrev pub is_second : Option ℕ → ℕ → Bool
is_second None at = false
is_second (Some own) at = at == own + 16
