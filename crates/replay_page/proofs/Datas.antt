-- The data of a page: no float stands in them, they nest little, no `<` stands in their text, and they are read back.
use Rattle.std.proofs.Common.{◌≡◌, ◌≢◌, ℕ, ◌≤◌, Bool, true, false, eqb, ◌||◌, List, [], ◌∷◌, ◌++◌, Some, refl, sym, ap, subst, ◌∙◌, arith, ne_eqb, Less, Equal, Greater}
use Rattle.std.specs.Prelude.{codes, not}
use Rattle.std.specs.List.{AllByRecursion, fold, list_all}
use Rattle.std.specs.Ordering.{match_ordering, nat_cmp}
use Rattle.std.specs.Cmp.Lexicographic.{slice_cmp}
use Rattle.std.proofs.lemmas.Bool.{agree_below_at, and_parts, eqb-false, not-true}
use Rattle.desk_values.specs.Fields.{Lacks}
use Rattle.desk_values.specs.Good.{IsTxt}
use Rattle.desk_values.specs.Text.{txt_text}
use Rattle.capture_format.proofs.Cuts.{all_append}
use Rattle.json.specs.Print.{escape, escape_byte, quoted}
use Rattle.serde_json.specs.Data.{Data, Members, depth, member, members_depth, no_members, put, string}
use Rattle.serde_json.specs.Read.{max_depth, read}
use Rattle.serde_json.specs.Written.{comma_if, compact_text, has_float, members_have_float, members_text}
use Rattle.replay_page.specs.declared.page.NamedText.{NamedText}
use Rattle.replay_page.specs.declared.page.Page.{Page}
use Rattle.replay_page.specs.Data.{IsQuietFile, IsQuietPage, data_text, files_data, page_data, page_members, with_file}
use Rattle.replay_page.specs.Quiet.{AreQuiet, IsQuiet}
use Rattle.replay_page.proofs.Quiets.{quiet_txt, quiet_word}

-- ---- what holds of each member

abbrev AllOf : (List ℕ → Type 0) → (Data → Type 0) → Members → Type 0
AllOf Q R no_members = Unit {0}
AllOf Q R (member k d ms) = Q k × R d × AllOf Q R ms

all_put : (Q : List ℕ → Type 0) (R : Data → Type 0) (k : List ℕ) (d : Data) (ms : Members) → Q k → R d → AllOf Q R ms → AllOf Q R (put k d ms)
all_put Q R k d no_members q r all = (q, r, tt)
all_put Q R k d (member l e ms) q r all =
    let rest = all_put Q R k d ms q r all.2 in
    elim (slice_cmp nat_cmp k l) as (λ o. AllOf Q R (match_ordering o (member k d (member l e ms)) (member l d ms) (member l e (put k d ms)))) [
      | Less ↦ (q, r, all)
      | Equal ↦ (all.0, r, all.2)
      | Greater ↦ (all.0, all.1, rest)
    ]

all_files : (Q : List ℕ → Type 0) (R : Data → Type 0) (ms : Members) (files : List NamedText) → AllByRecursion (λ (f : NamedText). Q f.name × R (string f.bytes)) files → AllOf Q R ms → AllOf Q R (fold with_file ms files)
all_files Q R ms [] each all = all
all_files Q R ms (f ∷ files) each all = all_files Q R (with_file ms f) files each.1 (all_put Q R f.name (string f.bytes) ms each.0.0 each.0.1 all)

always : (P : NamedText → Type 0) → ((f : NamedText) → P f) → (files : List NamedText) → AllByRecursion P files
always P holds [] = tt
always P holds (f ∷ files) = (holds f, always P holds files)

-- ---- no float

abbrev Any : List ℕ → Type 0
Any k = Unit {0}

abbrev IsWhole : Data → Type 0
IsWhole d = has_float d ≡ false

whole_members : (ms : Members) → AllOf Any IsWhole ms → members_have_float ms ≡ false
whole_members no_members all = refl
whole_members (member k d ms) all = rw all.1 (whole_members ms all.2)

whole_files : (files : List NamedText) → members_have_float (fold with_file no_members files) ≡ false
whole_files files = whole_members _ (all_files Any IsWhole no_members files (always _ (λ f. (tt, refl)) files) tt)

pub page_whole : (page : Page) → has_float (page_data page) ≡ false
page_whole page = rw (whole_files page.captured, whole_files page.replayed) refl

-- ---- not deep

abbrev IsFlat : Data → Type 0
IsFlat d = depth d ≤ 0

flat_members : (ms : Members) → AllOf Any IsFlat ms → members_depth ms ≤ 0
flat_members no_members all = omega arith
flat_members (member k d ms) all = omega (arith, all.1, flat_members ms all.2)

flat_files : (files : List NamedText) → members_depth (fold with_file no_members files) ≤ 0
flat_files files = flat_members _ (all_files Any IsFlat no_members files (always _ (λ f. (tt, omega arith)) files) tt)

pub page_shallow : (page : Page) → depth (page_data page) ≤ 127
page_shallow page = omega (arith, flat_files page.captured, flat_files page.replayed)

-- ---- no `<`

lacks_then : (xs ys : List ℕ) → Lacks 60 xs → Lacks 60 ys → Lacks 60 (xs ++ ys)
lacks_then xs ys first second = all_append (λ byte. byte ≢ 60) xs ys first second

lacks_all : (bytes : List ℕ) → list_all (λ byte. not (eqb byte 60)) bytes ≡ true → Lacks 60 bytes
lacks_all [] test = tt
lacks_all (byte ∷ bytes) test =
    let parts = and_parts (not (eqb byte 60)) (list_all (λ other. not (eqb other 60)) bytes) test in
    (eqb-false byte 60 (not-true (eqb byte 60) parts.0), lacks_all bytes parts.1)

-- what stands for a byte in a string of JSON has no `<`, or the byte is one
stands_well : ℕ → Bool
unfolding escape_byte
stands_well byte = eqb byte 60 || list_all (λ other. not (eqb other 60)) (escape_byte byte)

escape_unmarked : (byte : ℕ) → IsQuiet byte → Lacks 60 (escape_byte byte)
unfolding stands_well escape_byte
escape_unmarked byte is =
    let well : (eqb byte 60 || list_all (λ other. not (eqb other 60)) (escape_byte byte)) ≡ true = agree_below_at stands_well (λ (other : ℕ). true) 128 byte refl is.ascii in
    lacks_all (escape_byte byte) (rw (ne_eqb byte 60 is.unmarked) at well)

escaped_unmarked : (bytes : List ℕ) → AreQuiet bytes → Lacks 60 (escape bytes)
escaped_unmarked [] are = tt
escaped_unmarked (byte ∷ bytes) are = lacks_then (escape_byte byte) (escape bytes) (escape_unmarked byte are.0) (escaped_unmarked bytes are.1)

quoted_unmarked : (bytes : List ℕ) → AreQuiet bytes → Lacks 60 (quoted bytes)
quoted_unmarked bytes are = (omega arith, lacks_then (escape bytes) (34 ∷ []) (escaped_unmarked bytes are) (omega arith, tt))

abbrev IsUnmarked : Data → Type 0
IsUnmarked d = Lacks 60 (compact_text d)

comma_unmarked : (later : Bool) → Lacks 60 (comma_if later)
comma_unmarked true = (omega arith, tt)
comma_unmarked false = tt

members_unmarked : (later : Bool) (ms : Members) → AllOf AreQuiet IsUnmarked ms → Lacks 60 (members_text later ms)
members_unmarked later no_members all = (omega arith, tt)
members_unmarked later (member k d ms) all =
    let value = lacks_then (compact_text d) (members_text true ms) all.1 (members_unmarked true ms all.2) in
    lacks_then (comma_if later) (quoted k ++ 58 ∷ (compact_text d ++ members_text true ms)) (comma_unmarked later)
    (lacks_then (quoted k) (58 ∷ (compact_text d ++ members_text true ms)) (quoted_unmarked k all.0) (omega arith, value))

unmarked_each : (files : List NamedText) → AllByRecursion IsQuietFile files → AllByRecursion (λ (f : NamedText). AreQuiet f.name × IsUnmarked (string f.bytes)) files
unmarked_each [] quiet = tt
unmarked_each (f ∷ files) quiet = ((quiet.0.name, quoted_unmarked f.bytes quiet.0.bytes), unmarked_each files quiet.1)

files_unmarked : (files : List NamedText) → AllByRecursion IsQuietFile files → IsUnmarked (files_data files)
files_unmarked files quiet = (omega arith, members_unmarked false (fold with_file no_members files) (all_files AreQuiet IsUnmarked no_members files (unmarked_each files quiet) tt))

-- the four members, one behind the other
four_unmarked : (a b c d : Data) → IsUnmarked a → IsUnmarked b → IsUnmarked c → IsUnmarked d
    → Lacks 60 (members_text false (member (codes "capture") a (member (codes "captured") b (member (codes "out") c (member (codes "replayed") d no_members)))))
four_unmarked a b c d first second third fourth =
    members_unmarked false (member (codes "capture") a (member (codes "captured") b (member (codes "out") c (member (codes "replayed") d no_members)))) (
      quiet_word (codes "capture") refl,
      first,
      (quiet_word (codes "captured") refl, second, (quiet_word (codes "out") refl, third, (quiet_word (codes "replayed") refl, fourth, tt))),
    )

pub page_unmarked : (page : Page) → IsQuietPage page → IsTxt page.capture → IsTxt page.out → Lacks 60 (data_text page)
page_unmarked page quiet capture out = (
  omega arith,
  four_unmarked (string (txt_text page.capture)) (files_data page.captured) (string (txt_text page.out)) (files_data page.replayed)
      (quoted_unmarked (txt_text page.capture) (quiet_txt page.capture capture)) (files_unmarked page.captured quiet.captured)
      (quoted_unmarked (txt_text page.out) (quiet_txt page.out out)) (files_unmarked page.replayed quiet.replayed),
)

-- ---- they are read back

pub read_again : (items : List ℕ) (d : Data) (page : Page) → d ≡ page_data page → (has_float d ≡ false → items ≡ compact_text d) → (depth d ≤ max_depth → read items ≡ Some d) → read (data_text page) ≡ Some (page_data page)
read_again items d page is text again =
    let whole : has_float d ≡ false = subst (λ (e : Data). has_float e ≡ false) (sym is) (page_whole page) in
    let shallow : depth d ≤ max_depth = subst (λ (e : Data). depth e ≤ max_depth) (sym is) (page_shallow page) in
    let same : items ≡ data_text page = text whole ∙ ap compact_text is in
    ap read (sym same) ∙ again shallow ∙ ap Some is

-- ---- members that are added one after the other

pub one_more_file : (files : List NamedText) (file : NamedText) (ms : Members) → fold with_file ms (files ++ file ∷ []) ≡ with_file (fold with_file ms files) file
one_more_file [] file ms = refl
one_more_file (first ∷ files) file ms = one_more_file files file (with_file ms first)

-- four members, put one behind the other
pub four_members : (page : Page) (m0 m1 m2 m3 m4 : Members) (a b c d : Data) → m0 ≡ no_members
    → m1 ≡ put (codes "capture") a m0 → m2 ≡ put (codes "captured") b m1 → m3 ≡ put (codes "out") c m2 → m4 ≡ put (codes "replayed") d m3
    → a ≡ string (txt_text page.capture) → b ≡ files_data page.captured → c ≡ string (txt_text page.out) → d ≡ files_data page.replayed
    → m4 ≡ page_members page
four_members page m0 m1 m2 m3 m4 a b c d none first second third fourth is_a is_b is_c is_d = rw (fourth, third, second, first, none, is_a, is_b, is_c, is_d) refl
