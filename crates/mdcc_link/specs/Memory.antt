-- A link in memory, and what its calls do.
use Rattle.std.specs.Prelude.{◌≡◌, ◌⊎◌, ℕ, ◌+◌, ◌≤◌, min, Bool, true, false, ◌==◌, ◌&&◌, List, [], ◌∷◌, ◌++◌, length, take, drop, find, if◌then◌else◌, is_some, Option, Some, None, Result, Ok, Err, OnOk, OnErr}
use Rattle.std.specs.Cmp.Lexicographic.{pointwise}
use Rattle.std.specs.Option.{option_map}
use Rattle.mdcc_base.specs.declared.faults.Failed.{Failed}
use Rattle.mdcc_base.specs.declared.outside.Address.{Address}
use Rattle.mdcc_base.specs.Scripts.{one_more, is_listed}
use Rattle.mdcc_link.specs.declared.link.Received.{Received}
use Rattle.mdcc_link.specs.declared.link.Received.TheVariants.{Got, Nothing}
use Rattle.mdcc_link.specs.declared.stored.Bound.{Bound}
use Rattle.mdcc_link.specs.Link.{LinkCall}
use Rattle.mdcc_link.specs.Link.LinkCall.{Bind, Send, Receive}

-- a datagram that was sent, and one that waits at an endpoint
pub record SentDatagram : Type 0 where
  pub from : ℕ
  pub to : Address
  pub bytes : List ℕ

pub record Waiting : Type 0 where
  pub at : ℕ
  pub bytes : List ℕ

-- The calls that found memory, in order; the addresses that were bound; the datagrams that were sent; those that wait, the first
-- ones first; whether all calls found memory; the numbers of the calls that fail; how many calls there were; how many sends
-- and how many other calls failed; and for how many further calls, with how many sent bytes, memory is surely there.
pub record LinkMemory : Type 0 where
  pub calls : List LinkCall
  pub bound : List Bound
  pub sent : List SentDatagram
  pub waiting : List Waiting
  pub whole : Bool
  pub script : List ℕ
  pub count : ℕ
  pub lost : ℕ
  pub faults : ℕ
  pub call_room : ℕ
  pub byte_room : ℕ

-- the link is this one, but for the memory that is there
abbrev pub IsLinkBut : LinkMemory → LinkMemory → Type 0
IsLinkBut expected link = link ≡ record expected { call_room = link.call_room; byte_room = link.byte_room }

-- nothing was bound, sent or put, and no call was made
abbrev pub new_link : List ℕ → LinkMemory
new_link script = record {
  calls = [];
  bound = [];
  sent = [];
  waiting = [];
  whole = true;
  script = script;
  count = 0;
  lost = 0;
  faults = 0;
  call_room = 0;
  byte_room = 0;
}

abbrev pub address_eq : Address → Address → Bool
address_eq a b = pointwise (λ m n. m == n) a.host b.host && a.port == b.port

-- the endpoint that bound the address first
abbrev pub endpoint_of : List Bound → Address → Option ℕ
endpoint_of bound address = option_map (λ b. b.at) (find (λ b. address_eq b.address address) bound)

-- the first datagram that waits at the endpoint
abbrev pub first_waiting_at : ℕ → List Waiting → Option (List ℕ)
first_waiting_at at waiting = option_map (λ w. w.bytes) (find (λ w. w.at == at) waiting)

-- without the first one that passes
abbrev pub without_first : {X : Type 0} → (X → Bool) → List X → List X
without_first test [] = []
without_first test (x ∷ xs) = if test x then xs else x ∷ without_first test xs

-- those that wait after it was taken
abbrev pub without_at : ℕ → List Waiting → List Waiting
without_at at waiting = without_first (λ w. w.at == at) waiting

-- a datagram waits at the endpoint, behind all others; with no endpoint it waits nowhere
abbrev pub arrived : Option ℕ → List ℕ → List Waiting → List Waiting
arrived None bytes waiting = waiting
arrived (Some at) bytes waiting = waiting ++ record { at = at; bytes = bytes } ∷ []

-- with one more datagram that waits
abbrev pub after_put : ℕ → List ℕ → LinkMemory → LinkMemory
after_put at bytes link = record link { waiting = arrived (Some at) bytes link.waiting }

-- ---- what a call changes

abbrev pub bound_after : LinkCall → List Bound → List Bound
bound_after (Bind at address (Ok _)) bound = bound ++ record { at = at; address = address } ∷ []
bound_after _ bound = bound

abbrev pub sent_after : LinkCall → List SentDatagram → List SentDatagram
sent_after (Send from to bytes (Ok _)) sent = sent ++ record { from = from; to = to; bytes = bytes } ∷ []
sent_after _ sent = sent

abbrev pub waiting_after : LinkCall → List Bound → List Waiting → List Waiting
waiting_after (Send from to bytes (Ok _)) bound waiting = arrived (endpoint_of bound to) bytes waiting
waiting_after (Receive at size (Ok (Got _)) bytes) bound waiting = without_at at waiting
waiting_after _ bound waiting = waiting

abbrev pub lost_after : LinkCall → ℕ → ℕ
lost_after (Send from to bytes (Err _)) lost = one_more lost
lost_after _ lost = lost

abbrev pub faults_after : LinkCall → ℕ → ℕ
faults_after (Bind at address (Err _)) faults = one_more faults
faults_after (Receive at size (Err _) bytes) faults = one_more faults
faults_after _ faults = faults

-- after a call that found memory
abbrev pub link_called : LinkCall → LinkMemory → LinkMemory
link_called call link = record link {
  calls = link.calls ++ call ∷ [];
  bound = bound_after call link.bound;
  sent = sent_after call link.sent;
  waiting = waiting_after call link.bound link.waiting;
  count = one_more link.count;
  lost = lost_after call link.lost;
  faults = faults_after call link.faults;
}

-- after one that found none: it is not recorded, and neither is any after it
abbrev pub missed_send : LinkMemory → LinkMemory
missed_send link = record link { whole = false; count = one_more link.count; lost = one_more link.lost }

abbrev pub link_missed : LinkMemory → LinkMemory
link_missed link = record link { whole = false; count = one_more link.count; faults = one_more link.faults }

-- ---- answers

-- whether the next call fails by the script
abbrev pub is_next_listed : LinkMemory → Bool
is_next_listed link = is_listed link.script (one_more link.count)

-- a bind and a send fail by the script alone
abbrev pub answer_of : Bool → Result (Unit {0}) Failed
answer_of listed = if listed then Err (record {}) else Ok tt

-- and so does a receive. Else it gives the first datagram that waits, as far as it fits, or answers that nothing does
abbrev pub found_of : Bool → ℕ → Option (List ℕ) → Result Received Failed
found_of true size first = Err (record {})
found_of false size None = Ok Nothing
found_of false size (Some bytes) = Ok (Got (min size (length bytes)))

-- the bytes of it that come
abbrev pub part_received : Bool → ℕ → Option (List ℕ) → List ℕ
part_received true size first = []
part_received false size None = []
part_received false size (Some bytes) = take (min size (length bytes)) bytes

-- they stand in front of the buffer, and the rest of it stays
abbrev pub Brings : List ℕ → List ℕ → List ℕ → Type 0
Brings bytes old new = new ≡ bytes ++ drop (length bytes) old

abbrev pub bind_call : LinkMemory → ℕ → Address → LinkCall
bind_call link at address = Bind at address (answer_of (is_next_listed link))

abbrev pub send_call : LinkMemory → ℕ → Address → List ℕ → LinkCall
send_call link from to bytes = Send from to bytes (answer_of (is_next_listed link))

abbrev pub receive_answer : LinkMemory → ℕ → ℕ → Result Received Failed
receive_answer link at size = found_of (is_next_listed link) size (first_waiting_at at link.waiting)

abbrev pub receive_part : LinkMemory → ℕ → ℕ → List ℕ
receive_part link at size = part_received (is_next_listed link) size (first_waiting_at at link.waiting)

abbrev pub receive_call : LinkMemory → ℕ → ℕ → LinkCall
receive_call link at size = Receive at size (receive_answer link at size) (receive_part link at size)

-- What a call does: it is made, or it finds no memory. Where room was made sure of it is made, and it uses no more than its own.
pub record MakesLinkCall {T : Type 0} (answer : Result T Failed) (call : LinkCall) (bytes : ℕ) (unmade old new : LinkMemory) (result : Result T Failed) : Type 0 where
  pub ok : OnOk result ((result ≡ answer) × IsLinkBut (link_called call old) new)
  pub err : OnErr result (((result ≡ answer) × IsLinkBut (link_called call old) new) ⊎ IsLinkBut unmade new)
  pub finds : 1 ≤ old.call_room → bytes ≤ old.byte_room → (result ≡ answer) × IsLinkBut (link_called call old) new
  pub call_room : old.call_room ≤ new.call_room + 1
  pub byte_room : old.byte_room ≤ new.byte_room + bytes

-- what the trait shows of it
abbrev pub told_link_calls : LinkMemory → Option (List LinkCall)
told_link_calls link = if link.whole then Some link.calls else None

-- and whether a datagram waits at an endpoint is always known
abbrev pub known_waiting : LinkMemory → ℕ → Option Bool
known_waiting link at = Some (is_some (first_waiting_at at link.waiting))
