-- What is read as a call is a JSON value of it, and that is read as it.
use Rattle.std.proofs.Common.{◌≡◌, ℕ, ◌≤◌, true, cond, List, [], ◌∷◌, length, Option, Some, None, Ok, Err, IsUtf8, refl, sym, ap, subst, ◌∙◌, inl, inr}
use Rattle.std.specs.Prelude.{codes, nat_le, IsErrOf, option_map}
use Rattle.std.specs.Str.{bytes_eq}
use Rattle.std.proofs.lemmas.Bool.{le-leb}
use Rattle.std.proofs.lemmas.Option.{cond_some, none-some, same_Some}
use Rattle.desk_values.specs.Good.{IsCall, IsValues}
use Rattle.desk_values.specs.Limits.{bind_limit}
use Rattle.desk_values.specs.declared.value.Value.{Value}
use Rattle.desk_values.specs.declared.call.Call.{Call}
use Rattle.desk_values.specs.declared.call.Call.TheVariants.{Connect, Sql, Disconnect}
use Rattle.desk_values.proofs.Options.{bind_some, chosen, map_some}
use Rattle.serde_json.specs.Data.{Data, null, boolean, number, string, array, object, Members, depth}
use Rattle.serde_json.specs.Find.{as_object}
use Rattle.serde_json.specs.Read.{max_depth, read}
use Rattle.call_json.specs.declared.json_err.JsonErr.{JsonErr}
use Rattle.call_json.specs.declared.json_err.JsonErr.TheVariants.{NotOne, Memory}
use Rattle.call_json.specs.Forms.{call_data, object_of_one, object_of_two, values_data}
use Rattle.call_json.specs.Spellings.{IsBare, IsCallJson, IsDataOf}
use Rattle.call_json.specs.Inside.Members.{both, sole}
use Rattle.call_json.specs.Inside.Reading.{Reads, is_yes, text_in, values_in}
use Rattle.call_json.specs.Inside.CallReading.{binds_in, bound_call, bound_in, by_sole, call_in, few, keyed_call, members_in}
use Rattle.call_json.proofs.Depths.{call_shallow}
use Rattle.call_json.proofs.Keys.{both_members, is_key, sole_member}
use Rattle.call_json.proofs.ValuesRead.{are_values, is_object, is_text, short_again, values_again}

-- ---- what is read

pub yes_is : (d : Data) → is_yes d ≡ true → d ≡ boolean true
yes_is null e = absurd cc
yes_is (boolean b) e = ap boolean e
yes_is (number n) e = absurd cc
yes_is (string s) e = absurd cc
yes_is (array ds) e = absurd cc
yes_is (object ms) e = absurd cc

are_binds : (d : Data) (vs : List Value) → binds_in d ≡ Some vs → d ≡ values_data vs
are_binds d vs e =
    let all = bind_some (values_in d) few vs e in
    are_values d all.0 all.1 ∙ ap values_data (cond_some (nat_le (length all.0) bind_limit) all.0 vs all.2).1

is_bound : (p : Data × Data) (c : Call) → bound_call p ≡ Some c → object_of_two (codes "binds") p.0 (codes "sql") p.1 ≡ call_data c
is_bound p c e =
    let text = bind_some (text_in p.1) _ c e in
    let binds = bind_some (binds_in p.0) _ c text.2 in
    ap (λ (d : Data). object_of_two (codes "binds") d (codes "sql") p.1) (are_binds p.0 binds.0 binds.1)
    ∙ ap (λ (d : Data). object_of_two (codes "binds") (values_data binds.0) (codes "sql") d) (is_text p.1 text.0 text.1)
    ∙ ap call_data (same_Some (Sql text.0 binds.0) c binds.2)

abbrev IsKeyed : List ℕ → Data → Call → Type 0
IsKeyed key d c = IsDataOf c (object_of_one key d)

is_connect : (key : List ℕ) (d : Data) (c : Call) → key ≡ codes "connect" → option_map (λ t. Connect t) (text_in d) ≡ Some c → IsKeyed key d c
is_connect key d c k e =
    let t = map_some (λ t. Connect t) (text_in d) c e in
    inl (ap (λ (j : List ℕ). object_of_one j d) k ∙ ap (object_of_one (codes "connect")) (is_text d t.0 t.1) ∙ ap call_data t.2)

is_bare : (key : List ℕ) (d : Data) (c : Call) → key ≡ codes "sql" → option_map (λ t. Sql t []) (text_in d) ≡ Some c → IsKeyed key d c
is_bare key d c k e =
    let t = map_some (λ t. Sql t []) (text_in d) c e in
    subst (λ (b : Call). IsKeyed key d b) t.2 (inr (ap (λ (j : List ℕ). object_of_one j d) k ∙ ap (object_of_one (codes "sql")) (is_text d t.0 t.1)))

is_disconnect : (key : List ℕ) (d : Data) (c : Call) → key ≡ codes "disconnect" → cond (is_yes d) (Some Disconnect) None ≡ Some c → IsKeyed key d c
is_disconnect key d c k e =
    let test = cond_some (is_yes d) Disconnect c e in
    inl (ap (λ (j : List ℕ). object_of_one j d) k ∙ ap (object_of_one (codes "disconnect")) (yes_is d test.0) ∙ ap call_data test.1)

is_keyed : (key : List ℕ) (d : Data) (c : Call) → keyed_call key d ≡ Some c → IsKeyed key d c
is_keyed key d c e =
    elim (chosen (bytes_eq key (codes "connect")) _ _ (Some c) e) [
      | inl hit ↦ is_connect key d c (is_key key (codes "connect") hit.0) hit.1
      | inr miss ↦ elim (chosen (bytes_eq key (codes "sql")) _ _ (Some c) miss.1) [
        | inl hit ↦ is_bare key d c (is_key key (codes "sql") hit.0) hit.1
        | inr miss ↦ elim (chosen (bytes_eq key (codes "disconnect")) _ _ (Some c) miss.1) [
          | inl hit ↦ is_disconnect key d c (is_key key (codes "disconnect") hit.0) hit.1
          | inr miss ↦ absurd (none-some c miss.1)
        ]
      ]
    ]

is_of_members : (ms : Members) (c : Call) → members_in ms ≡ Some c → IsDataOf c (object ms)
is_of_members ms c e = by_found (sole ms) refl e where
  by_found : (o : Option (List ℕ × Data)) → sole ms ≡ o → by_sole o (bound_in ms) ≡ Some c → IsDataOf c (object ms)
  by_found None is e =
      let p = bind_some (both (codes "binds") (codes "sql") ms) bound_call c e in
      inl (ap object (both_members (codes "binds") (codes "sql") ms p.0 p.1) ∙ is_bound p.0 c p.2)
  by_found (Some m) is e = subst (λ (ls : Members). IsDataOf c (object ls)) (sym (sole_member ms m is)) (is_keyed m.0 m.1 c e)

pub is_call : (d : Data) (c : Call) → call_in d ≡ Some c → IsDataOf c d
is_call d c e =
    let ms = bind_some (as_object d) members_in c e in
    subst (λ (b : Data). IsDataOf c b) (sym (is_object d ms.0 ms.1)) (is_of_members ms.0 c ms.2)

-- ---- what is read again

binds_again : (vs : List Value) → length vs ≤ bind_limit → IsValues vs → binds_in (values_data vs) ≡ Some vs
binds_again vs few fits = rw (values_again vs fits, le-leb (length vs) bind_limit few) refl

own_again : (c : Call) → IsCall c → call_in (call_data c) ≡ Some c
own_again (Connect s) fits = rw (short_again s fits.limit) refl
own_again (Sql t vs) fits = rw (short_again t fits.0.limit, binds_again vs fits.1 fits.2) refl
own_again Disconnect fits = refl

bare_again : (c : Call) (d : Data) → IsCall c → IsBare c d → call_in d ≡ Some c
bare_again (Connect s) d fits is = absurd is
bare_again (Sql t []) d fits is = ap call_in is ∙ rw (short_again t fits.0.limit) refl
bare_again (Sql t (v ∷ vs)) d fits is = absurd is
bare_again Disconnect d fits is = absurd is

pub call_again : (c : Call) (d : Data) → IsCall c → IsDataOf c d → call_in d ≡ Some c
call_again c d fits (inl is) = ap call_in is ∙ own_again c fits
call_again c d fits (inr is) = bare_again c d fits is

-- ---- of bytes

pub json_call : (bytes : List ℕ) (d : Data) (c : Call) → IsUtf8 bytes → read bytes ≡ Some d → IsCall c → Reads (Ok c) (call_in d) → IsCallJson bytes c
json_call bytes d c utf8 is fits e = record { limits = fits; value = (d, record { utf8 = utf8; value = is }, is_call d c e) }

pub same_data : (bytes : List ℕ) (d e : Data) → read bytes ≡ Some d → read bytes ≡ Some e → d ≡ e
same_data bytes d e is other = same_Some d e (sym is ∙ other)

pub call_found : (bytes : List ℕ) (d : Data) (c : Call) → read bytes ≡ Some d → IsCallJson bytes c → call_in d ≡ Some c
call_found bytes d c is of =
    ap call_in (same_data bytes d of.value.0 is of.value.1.value) ∙ call_again c of.value.0 of.limits of.value.2

pub one_call : (bytes : List ℕ) (a b : Call) → IsCallJson bytes a → IsCallJson bytes b → a ≡ b
one_call bytes a b of other =
    same_Some a b (sym (call_found bytes of.value.0 a of.value.1.value of) ∙ call_found bytes of.value.0 b of.value.1.value other)

pub no_call : (bytes : List ℕ) (d : Data) → read bytes ≡ Some d → call_in d ≡ None → (c : Call) → ¬ IsCallJson bytes c
no_call bytes d is none c = λ of. none-some c (sym none ∙ call_found bytes d c is of)

-- a value that was not read, for want of memory or as it is none
pub not_one_call : (bytes : List ℕ) (d : Data) (error : JsonErr) → read bytes ≡ Some d → Reads {T = Call} (Err error) (call_in d) → IsErrOf {T = Call} (Err error) NotOne → (c : Call) → ¬ IsCallJson bytes c
not_one_call bytes d NotOne is none e = no_call bytes d is none
not_one_call bytes d Memory is any e = absurd cc

-- what is written is read back
pub written_call : (bytes items : List ℕ) (d : Data) (c : Call) → bytes ≡ items → IsUtf8 items → d ≡ call_data c → (depth d ≤ max_depth → read items ≡ Some d) → IsCall c → IsCallJson bytes c
written_call bytes items d c same utf8 is again fits =
    let shallow : depth d ≤ max_depth = subst (λ (e : Data). depth e ≤ max_depth) (sym is) (call_shallow c) in
    subst (λ (bs : List ℕ). IsCallJson bs c) (sym same) (record { limits = fits; value = (d, record { utf8 = utf8; value = again shallow }, inl is) })
