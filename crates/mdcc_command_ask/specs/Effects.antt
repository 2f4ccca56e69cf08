-- What is seen of what a client does, and where it ends before its last turn.
use Rattle.std.specs.Io.KnownBytes.{Appends}
use Rattle.std.specs.Prelude.{Err, IfErr, IsErrOf, IsTrue, List, Ok, OnErr, OnOk, Option, Result, [], length, take, ⊤, ℕ, ◌++◌, ◌∷◌, ◌≡◌, ◌≤◌, ◌⊎◌}
use Rattle.mdcc_command_ask.specs.Acts.{ClientAct, calls_in, client_printed, received, without_answers}
use Rattle.mdcc_command_ask.specs.Asking.{ClientDoing, is_answered}
use Rattle.mdcc_command_ask.specs.declared.client.Client.{Client}
use Rattle.mdcc_command_ask.specs.declared.fault.AskFault.{AskFault}
use Rattle.mdcc_base.specs.Causes.{HasCause, Rose}
use Rattle.mdcc_link.specs.Link.{LinkCall}
use Rattle.mdcc_serve_outbox.specs.Shows.{Records, failed_call}
use Rattle.mdcc_def_server_runs.specs.Acts.{Act}

-- ---- which act comes next

abbrev pub IsClientAtLink : List ClientAct → Type 0
IsClientAtLink (ClientAct.AtLink (Act.Bind at address) ∷ acts) = ⊤
IsClientAtLink (ClientAct.AtLink (Act.Receive at gave) ∷ acts) = ⊤
IsClientAtLink rest = ⊥

abbrev pub IsClientPrinting : List ClientAct → Type 0
IsClientPrinting (ClientAct.Print text ∷ acts) = ⊤
IsClientPrinting rest = ⊥

-- A link fails at a bind or a receive, and the output at a text; there may be no memory at any act.
abbrev pub AskFaultComesAt : AskFault → List ClientAct → Type 0
AskFaultComesAt AskFault.Link rest = IsClientAtLink rest
AskFaultComesAt AskFault.Output rest = IsClientPrinting rest
AskFaultComesAt AskFault.Memory rest = ⊤

-- there is no receive in it, but perhaps the first act
abbrev pub NoneLater : List ClientAct → Type 0
NoneLater (act ∷ acts) = received acts ≡ []
NoneLater [] = ⊤

-- ---- what the next act left

abbrev pub client_failed_next : List ClientAct → List LinkCall
client_failed_next (ClientAct.AtLink act ∷ acts) = failed_call act
client_failed_next rest = []

-- where a call of the link failed, it is recorded
abbrev pub failed_with : AskFault → List ClientAct → List LinkCall
failed_with AskFault.Link rest = client_failed_next rest
failed_with fault rest = []

abbrev pub text_next : List ClientAct → List ℕ
text_next (ClientAct.Print text ∷ acts) = text
text_next rest = []

-- where a write failed, the first bytes of this text may be printed
abbrev pub client_text_begun : AskFault → List ClientAct → List ℕ
client_text_begun AskFault.Output rest = text_next rest
client_text_begun fault rest = []

-- ---- what is seen

module _ {L O : Type 0} (calls : L → Option (List LinkCall)) (held : O → Option (List ℕ)) where
  -- All was done, whatever the link answered to sends.
  pub record Did (doing : ClientDoing) (link_old link_new : L) (out_old out_new : O) (client : Client) : Type 0 where
    pub acts : List ClientAct
    pub are : without_answers acts ≡ doing.acts
    pub recorded : Records (calls_in acts) (calls link_old) (calls link_new)
    pub output : Appends (held out_old) (held out_new) (client_printed acts)
    pub client_is : client ≡ doing.client

  -- Some of its acts were done, and at the next one came the fault: what is printed is the text of those that were done, and of the
  -- next one so many bytes where it could not be written. Each receive was made, but perhaps that which is next.
  pub record BrokeOff (doing : ClientDoing) (fault : AskFault) (link_old link_new : L) (out_old out_new : O) : Type 0 where
    pub acts : List ClientAct
    pub rest : List ClientAct
    pub are : without_answers acts ++ rest ≡ doing.acts
    pub comes : AskFaultComesAt fault rest
    pub none_later : NoneLater rest
    pub recorded : Records (calls_in acts ++ failed_with fault rest) (calls link_old) (calls link_new)
    pub printed_more : ℕ
    pub output : Appends (held out_old) (held out_new) (client_printed acts ++ take printed_more (client_text_begun fault rest))

  abbrev pub Does : ClientDoing → Result (Unit {0}) AskFault → L → L → O → O → Client → Type 0
  Does doing (Ok done) link_old link_new out_old out_new client = Did doing link_old link_new out_old out_new client
  Does doing (Err fault) link_old link_new out_old out_new client = BrokeOff doing fault link_old link_new out_old out_new

  -- At most so many receives gave this, and no other is made: at the end it is answered, or there were so many.
  pub record Turned (doing_for : List (Option (List ℕ)) → ClientDoing) (turns : ℕ) (result : Result (Unit {0}) AskFault) (link_old link_new : L) (out_old out_new : O) (client : Client) : Type 0 where
    pub given : List (Option (List ℕ))
    pub within : length given ≤ turns
    pub whole : OnOk result (IsTrue (is_answered client.phase) ⊎ (length given ≡ turns))
    pub receives : received (doing_for given).acts ≡ given
    pub does : Does (doing_for given) result link_old link_new out_old out_new client

  -- The same of a client that is dropped then.
  pub record Asks (doing_for : List (Option (List ℕ)) → ClientDoing) (turns : ℕ) (result : Result (Unit {0}) AskFault) (link_old link_new : L) (out_old out_new : O) : Type 0 where
    pub client : Client
    pub turned : Turned doing_for turns result link_old link_new out_old out_new client

-- a text was printed, or some first bytes of it where a write failed
pub record Prints {O : Type 0} (held : O → Option (List ℕ)) (faults : O → ℕ) (text : List ℕ) (result : Result (Unit {0}) AskFault) (out_old out_new : O) : Type 0 where
  pub all : OnOk result (Appends (held out_old) (held out_new) text)
  pub begun : OnErr result ((n : ℕ) × Appends (held out_old) (held out_new) (take n text))
  pub fault : IfErr result (λ fault. fault ≡ AskFault.Output)
  pub cause : HasCause (faults out_old) (faults out_new) result

-- ---- why it ended

-- the link and the output failed only where their counts rose
pub record HasCauses {L O : Type 0} (link_faults : L → ℕ) (out_faults : O → ℕ) (result : Result (Unit {0}) AskFault) (link_old link_new : L) (out_old out_new : O) : Type 0 where
  pub link : IsErrOf result AskFault.Link → Rose (link_faults link_old) (link_faults link_new)
  pub output : IsErrOf result AskFault.Output → Rose (out_faults out_old) (out_faults out_new)
  pub link_later : link_faults link_old ≤ link_faults link_new
  pub output_later : out_faults out_old ≤ out_faults out_new
