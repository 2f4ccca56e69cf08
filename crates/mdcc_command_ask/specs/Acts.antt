-- What a client does, one act after another.
use Rattle.std.specs.Prelude.{List, Option, [], flat_map, map, ℕ, ◌∷◌}
use Rattle.mdcc_link.specs.Link.{LinkCall}
use Rattle.mdcc_serve_outbox.specs.Shows.{call_of}
use Rattle.mdcc_def_server_runs.specs.Acts.{Act, but_answer}

pub data ClientAct : Type 0 where
  -- an act at the link: a bind, a receive or a send
  AtLink : (act : Act) → ClientAct
  -- a text is printed
  Print : (text : List ℕ) → ClientAct

-- acts at the link alone
abbrev pub at_link : List Act → List ClientAct
at_link acts = map (λ act. ClientAct.AtLink act) acts

-- ---- what is seen of it

-- the bytes that are printed
abbrev pub client_printed_by : ClientAct → List ℕ
client_printed_by (ClientAct.Print text) = text
client_printed_by (ClientAct.AtLink act) = []

abbrev pub client_printed : List ClientAct → List ℕ
client_printed acts = flat_map client_printed_by acts

-- the calls of the link
abbrev pub call_by : ClientAct → List LinkCall
call_by (ClientAct.AtLink act) = call_of act
call_by (ClientAct.Print text) = []

abbrev pub calls_in : List ClientAct → List LinkCall
calls_in acts = flat_map call_by acts

-- what the receives gave
abbrev pub given_to : Act → List (Option (List ℕ))
given_to (Act.Receive at gave) = gave ∷ []
given_to _ = []

abbrev pub received_by : ClientAct → List (Option (List ℕ))
received_by (ClientAct.AtLink act) = given_to act
received_by (ClientAct.Print text) = []

abbrev pub received : List ClientAct → List (Option (List ℕ))
received acts = flat_map received_by acts

-- ---- what the link answers

-- the act, but for what the link answers to a send
abbrev pub without_answer : ClientAct → ClientAct
without_answer (ClientAct.AtLink act) = ClientAct.AtLink (but_answer act)
without_answer (ClientAct.Print text) = ClientAct.Print text

abbrev pub without_answers : List ClientAct → List ClientAct
without_answers acts = map without_answer acts
