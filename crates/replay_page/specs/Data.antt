-- The data of a page as a JSON value, and the page's bytes. The keys of an object ascend.
use Rattle.std.specs.Prelude.{ℕ, List, ◌++◌, codes}
use Rattle.std.specs.List.{AllByRecursion, fold}
use Rattle.desk_values.specs.Text.{txt_text}
use Rattle.serde_json.specs.Data.{Data, Members, member, no_members, object, put, string}
use Rattle.serde_json.specs.Written.{compact_text}
use Rattle.replay_page.specs.declared.page.NamedText.{NamedText}
use Rattle.replay_page.specs.declared.page.Page.{Page}
use Rattle.replay_page.specs.Quiet.{AreQuiet}
use Rattle.replay_page.specs.Viewer.{end, front}

-- with a file: its name, and its bytes as a text
abbrev pub with_file : Members → NamedText → Members
with_file members file = put file.name (string file.bytes) members

-- {"NAME":"BYTES",..}
abbrev pub files_data : List NamedText → Data
files_data files = object (fold with_file no_members files)

-- {"capture":FOLDER,"captured":{..},"out":FOLDER,"replayed":{..}}, the folders spelled as the texts of the formats
abbrev pub page_members : Page → Members
page_members page = member (codes "capture") (string (txt_text page.capture))
    (member (codes "captured") (files_data page.captured)
    (member (codes "out") (string (txt_text page.out))
    (member (codes "replayed") (files_data page.replayed) no_members)))

abbrev pub page_data : Page → Data
page_data page = object (page_members page)

-- its text with no blanks
abbrev pub data_text : Page → List ℕ
data_text page = compact_text (page_data page)

abbrev pub page_text : Page → List ℕ
page_text page = front ++ (data_text page ++ end)

-- ---- what may be a page

pub record IsQuietFile (file : NamedText) : Type 0 where
  pub name : AreQuiet file.name
  pub bytes : AreQuiet file.bytes

-- the files have no `<`; the folders may have it, since they are spelled
pub record IsQuietPage (page : Page) : Type 0 where
  pub captured : AllByRecursion IsQuietFile page.captured
  pub replayed : AllByRecursion IsQuietFile page.replayed
