-- Which bytes are a JSON text of a call, and of a reply: those whose value is that of the call, whatever the blanks and the
-- order of the keys.
use Rattle.std.specs.Prelude.{◌≡◌, ◌⊎◌, ℕ, List, [], codes, Some}
use Rattle.std.specs.Str.{IsUtf8}
use Rattle.desk_values.specs.declared.call.Call.{Call}
use Rattle.desk_values.specs.declared.call.Call.TheVariants.{Sql}
use Rattle.desk_values.specs.declared.call.Reply.{Reply}
use Rattle.desk_values.specs.Good.{IsCall, IsGoodReply}
use Rattle.serde_json.specs.Data.{Data, string}
use Rattle.serde_json.specs.Read.{read}
use Rattle.call_json.specs.Forms.{call_data, object_of_one, reply_data}

-- a JSON text, in UTF-8, of this value
pub record IsJson (bytes : List ℕ) (d : Data) : Type 0 where
  pub utf8 : IsUtf8 bytes
  pub value : read bytes ≡ Some d

-- a statement without binds, with no key for them
abbrev pub IsBare : Call → Data → Type 0
IsBare (Sql text []) d = d ≡ object_of_one (codes "sql") (string text)
IsBare other d = ⊥

-- the value is that of the call, in which no binds may be left out
abbrev pub IsDataOf : Call → Data → Type 0
IsDataOf call d = (d ≡ call_data call) ⊎ IsBare call d

-- a JSON text of the call, which is within its limits
pub record IsCallJson (bytes : List ℕ) (call : Call) : Type 0 where
  pub limits : IsCall call
  pub value : (d : Data) × IsJson bytes d × IsDataOf call d

-- a JSON text of the reply, which is a good one
pub record IsReplyJson (bytes : List ℕ) (reply : Reply) : Type 0 where
  pub limits : IsGoodReply reply
  pub value : IsJson bytes (reply_data reply)
