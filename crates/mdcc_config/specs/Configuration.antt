-- What a configuration says, or why it is refused: the first of the refusals in the order of ConfigFault, and within one
-- of them the first in the order of the members.
use Rattle.std.specs.Prelude.{ℕ, ◌+◌, ◌&&◌, nat_lt, nat_le, if◌then◌else◌, Bool, true, false, List, [], ◌∷◌, ◌++◌, length, Option, Some, None, option_and_then, ok_or, Result, Ok, Err}
use Rattle.std.specs.Str.{is_utf8}
use Rattle.serde_json.specs.Data.{Data, Items, no_items, item, Members}
use Rattle.serde_json.specs.Find.{get, as_array, as_object}
use Rattle.serde_json.specs.Read.{read}
use Rattle.mdcc_base.specs.declared.outside.Address.{Address}
use Rattle.mdcc_base.specs.declared.quorums.QuorumFault.{QuorumFault}
use Rattle.mdcc_base.specs.Quorums.{quorums_of}
use Rattle.mdcc_option.specs.declared.cluster.Cluster.{Cluster}
use Rattle.mdcc_option.specs.declared.cluster.FastLimit.{FastLimit}
use Rattle.mdcc_option.specs.declared.schema.SchemaFault.{SchemaFault}
use Rattle.mdcc_option.specs.Schema.{schema_of}
use Rattle.mdcc_config.specs.declared.faults.ConfigFault.{ConfigFault}
use Rattle.mdcc_config.specs.declared.faults.ConfigFault.TheVariants as Fault
use Rattle.mdcc_config.specs.declared.faults.MemberName.{MemberName}
use Rattle.mdcc_config.specs.declared.faults.MemberName.TheVariants as Member
use Rattle.mdcc_config.specs.declared.fields.Fields.{Fields}
use Rattle.mdcc_config.specs.declared.settings.Settings.{Settings}
use Rattle.mdcc_config.specs.declared.config.Config.{Config}
use Rattle.mdcc_config.specs.Names.{name_text, wrong_name}
use Rattle.mdcc_config.specs.Readings.{natural, pair, host, limit, BoundPair}

abbrev pub Read : Type 0 → Type 0
Read A = Result A ConfigFault

infixl 10 ◌>>=◌
abbrev pub ◌>>=◌ : {A B : Type 0} → Read A → (A → Read B) → Read B
(Ok x) >>= next = next x
(Err fault) >>= next = Err fault

-- the fault that may come at any time
abbrev pub is_config_memory : ConfigFault → Bool
is_config_memory Fault.Memory = true
is_config_memory _ = false

-- ---- 1. the text is a JSON object, and 2. it has the right members

abbrev pub object_of : List ℕ → Read Data
object_of text = if is_utf8 text then ok_or (read text) Fault.Json else Err Fault.Json

abbrev pub members_of : Data → Read Members
members_of d = ok_or (as_object d) Fault.Json

abbrev pub refused_name : Option (List ℕ) → Read (Unit {0})
refused_name None = Ok tt
refused_name (Some name) = Err (Fault.Member name)

-- ---- 3. each member is of its kind

-- what a member's value is read as
abbrev pub member_as : {A : Type 0} → (Data → Option A) → MemberName → Data → Read A
member_as read name d = ok_or (option_and_then read (get (name_text name) d)) (Fault.Kind name)

-- the same where there is one, and else this
abbrev pub given_or : {A : Type 0} → A → (Data → Option A) → MemberName → Option Data → Read A
given_or absent read name None = Ok absent
given_or absent read name (Some d) = ok_or (read d) (Fault.Kind name)

-- each entry of a list, behind those found
abbrev pub each_item : {A : Type 0} → (Data → Option A) → MemberName → List A → Items → Read (List A)
each_item read name found no_items = Ok found
each_item read name found (item d ds) = ok_or (read d) (Fault.Kind name) >>= λ one. each_item read name (found ++ one ∷ []) ds

abbrev pub list_as : {A : Type 0} → (Data → Option A) → MemberName → Data → Read (List A)
list_as read name d = member_as as_array name d >>= λ items. each_item read name [] items

-- the cells of a node where no member says them
abbrev pub cells_by_default : ℕ
cells_by_default = 1048576

-- and how many milliseconds a receive waits at most
abbrev pub default_wait : ℕ
default_wait = 20

-- and after how many frames a checkpoint of a log is due
abbrev pub default_checkpoint : ℕ
default_checkpoint = 1024

abbrev pub fields_of : Data → Read Fields
fields_of d = (do
  centres ← member_as natural Member.Centres d
  classic ← member_as natural Member.Classic d
  fast ← member_as natural Member.Fast d
  gamma ← member_as natural Member.Gamma d
  bounds ← list_as pair Member.Bounds d
  hosts ← list_as host Member.Hosts d
  port ← member_as natural Member.Port d
  cells ← given_or (Some cells_by_default) natural Member.Cells (get (name_text Member.Cells) d)
  limit ← given_or (Some FastLimit.Safe) limit Member.Limit (get (name_text Member.Limit) d)
  wait ← given_or (Some default_wait) natural Member.Wait (get (name_text Member.Wait) d)
  checkpoint ← given_or (Some default_checkpoint) natural Member.Checkpoint (get (name_text Member.Checkpoint) d)
  Ok (record {
    centres = centres;
    classic = classic;
    fast = fast;
    gamma = gamma;
    bounds = bounds;
    hosts = hosts;
    port = port;
    cells = cells;
    limit = limit;
    wait = wait;
    checkpoint = checkpoint;
  }))

-- ---- 4. each member is in its range

abbrev pub number_in : ℕ → ℕ → MemberName → Option ℕ → Read ℕ
number_in low high name None = Err (Fault.Range name)
number_in low high name (Some n) = if nat_le low n && nat_le n high then Ok n else Err (Fault.Range name)

-- each pair of a list, behind those found
abbrev pub each_pair : List BoundPair → List (Option BoundPair) → Read (List BoundPair)
each_pair found [] = Ok found
each_pair found (one ∷ more) = ok_or one (Fault.Range Member.Bounds) >>= λ bounds. each_pair (found ++ bounds ∷ []) more

abbrev pub settings_of : Fields → Read Settings
settings_of fields = (do
  centres ← number_in 0 255 Member.Centres fields.centres
  classic ← number_in 0 255 Member.Classic fields.classic
  fast ← number_in 0 255 Member.Fast fields.fast
  gamma ← number_in 0 1000 Member.Gamma fields.gamma
  bounds ← each_pair [] fields.bounds
  port ← number_in 1 65000 Member.Port fields.port
  cells ← number_in 1 4194304 Member.Cells fields.cells
  limit ← ok_or fields.limit (Fault.Range Member.Limit)
  wait ← number_in 1 60000 Member.Wait fields.wait
  checkpoint ← number_in 1 4294967295 Member.Checkpoint fields.checkpoint
  Ok (record {
    centres = centres;
    classic = classic;
    fast = fast;
    gamma = gamma;
    bounds = bounds;
    hosts = fields.hosts;
    port = port;
    cells = cells;
    limit = limit;
    wait = wait;
    checkpoint = checkpoint;
  }))

-- ---- 5. the quorums, and 6. the schema

abbrev pub by_quorums : {A : Type 0} → Result A QuorumFault → Read A
by_quorums (Ok x) = Ok x
by_quorums (Err fault) = Err (Fault.Quorums fault)

abbrev pub by_schema : {A : Type 0} → Result A SchemaFault → Read A
by_schema (Ok x) = Ok x
by_schema (Err fault) = Err (Fault.Schema fault)

abbrev pub cluster_of : Settings → Read Cluster
cluster_of settings = (do
  quorums ← by_quorums (quorums_of settings.centres settings.classic settings.fast)
  schema ← by_schema (schema_of settings.bounds)
  Ok (record { quorums = quorums; schema = schema; gamma = settings.gamma; cells = settings.cells; limit = settings.limit }))

-- ---- 7. the addresses

-- the address of the centre of this number, where there is such a centre
abbrev pub address_of : ℕ → ℕ → ℕ → Option (List ℕ) → Read Address
address_of centres port number None = Err (Fault.Address number)
address_of centres port number (Some host) =
    if nat_le number centres then Ok (record { host = host; port = port + number }) else Err (Fault.Address number)

-- those of the centres in order, behind those found
abbrev pub each_address : ℕ → ℕ → List Address → List (Option (List ℕ)) → Read (List Address)
each_address centres port found [] =
    if nat_lt (length found) centres then Err (Fault.Address (length found + 1)) else Ok found
each_address centres port found (one ∷ more) =
    address_of centres port (length found + 1) one >>= λ address. each_address centres port (found ++ address ∷ []) more

-- ---- all of it

abbrev pub config_with : Settings → Read Config
config_with settings = (do
  cluster ← cluster_of settings
  addresses ← each_address settings.centres settings.port [] settings.hosts
  Ok (record { cluster = cluster; addresses = addresses; port = settings.port; wait = settings.wait; checkpoint = settings.checkpoint }))

-- the configuration that a JSON value is
abbrev pub config_in : Data → Read Config
config_in d = (do
  members ← members_of d
  _ ← refused_name (wrong_name members)
  fields ← fields_of d
  settings ← settings_of fields
  config_with settings)

-- the configuration that a text is
abbrev pub config_of : List ℕ → Read Config
config_of text = object_of text >>= config_in
