-- Texts that are no JSON.
use Rattle.std.proofs.Common.{◌≡◌, ℕ, List, Bool, true, false, Some, None, Ok, Err, refl, IsUtf8}
use Rattle.std.specs.Str.{is_utf8}
use Rattle.std.proofs.lemmas.Str.{IsUtf8-from_is_utf8, is_utf8-from_IsUtf8}
use Rattle.serde_json.specs.Data.{Data}
use Rattle.serde_json.specs.Read.{read}
use Rattle.mdcc_config.specs.declared.faults.ConfigFault.TheVariants.{Json}
use Rattle.mdcc_config.specs.Configuration.{object_of}

-- what UTF-8 that is read gives
pub text_read : (text : List ℕ) (d : Data) → IsUtf8 text → read text ≡ Some d → object_of text ≡ Ok d
text_read text d utf8 is = rw (is_utf8-from_IsUtf8 text utf8, is)

refused_by : (text : List ℕ) (b : Bool) → is_utf8 text ≡ b → (IsUtf8 text → read text ≡ None) → object_of text ≡ Err Json
refused_by text true is none = rw (is, none (IsUtf8-from_is_utf8 text is))
refused_by text false is none = rw is

-- a text that is not UTF-8 or is not read
pub text_refused : (text : List ℕ) → (IsUtf8 text → read text ≡ None) → object_of text ≡ Err Json
text_refused text none = refused_by text _ refl none
