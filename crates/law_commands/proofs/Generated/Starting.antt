-- The start of the generated capture, line by line.
use Rattle.std.proofs.Common.{◌≡◌, ◌∙◌, ◌<◌, ◌≤◌, ℕ, zero, suc, ◌+◌, pos, List, [], ◌∷◌, ◌++◌, refl, sym, ap, subst, append_assoc, arith, map, length, length-append, true, false, codes}
use Rattle.std.specs.List.{AllByRecursion, Contains}
use Rattle.std.specs.Ordering.{is_eq}
use Rattle.std.specs.Cmp.{int_cmp_is}
use Rattle.std.specs.declared.cmp.Ordering.TheVariants.{Less}
use Rattle.std.proofs.Math.Dec.{lt→ltb, le→leb}
use Rattle.std.proofs.lemmas.List.Elements.{filter_map-append}
use Rattle.std.proofs.lemmas.List.{append-nil}
use Rattle.desk_schema.proofs.Distinct.{all-push}
use Rattle.desk_values.specs.Comparison.{same_key}
use Rattle.desk_values.specs.Keyword.{is_keyword}
use Rattle.desk_values.specs.Word.{member_with_word}
use Rattle.desk_values.specs.declared.value.Value.{Value}
use Rattle.desk_values.specs.declared.value.Value.TheVariants.{Int}
use Rattle.desk_values.specs.declared.value.Image.{Image}
use Rattle.desk_schema.specs.declared.line.StartLine.TheVariants.{Column as ColumnLine, NextRow}
use Rattle.desk_schema.specs.declared.line.ColumnKind.TheVariants.{Int as ColumnInt}
use Rattle.desk_schema.specs.File.{IsStart}
use Rattle.desk_schema.specs.Name.{is_name}
use Rattle.desk_schema.specs.Rules.{AreBelow, AreLinesFrom, IsNewKey, IsWithin, MayFollow, ServiceMayFollow, TableMayFollow, key_in, keys_of}
use Rattle.desk_schema.specs.Start.{row_line}
use Rattle.desk_schema.specs.State.{State, state_after}
use Rattle.capture_recorder.specs.Generated.{account, accounts, generated_start, id_column}

-- ---- its accounts

-- these rows are declared
abbrev seeded : ℕ → List Image → State
seeded last rows = record { last = last; start = record generated_start { rows = rows; next_row = 0 }; sessions = 0 }

-- the rows have the accounts below this one
record HasAccountsBelow (rows : List Image) (k : ℕ) : Type 0 where
  count : length rows + 1 ≡ k
  below : AreBelow k rows
  keys : (j : ℕ) → k ≤ j → IsNewKey 1 (keys_of 0 rows) (Int (pos j))

all-map : {X : Type 0} (P Q : X → Type 0) (xs : List X) → ((x : X) → P x → Q x) → AllByRecursion P xs → AllByRecursion Q xs
all-map P Q [] to all = tt
all-map P Q (x ∷ xs) to all = (to x all.0, all-map P Q xs to all.1)

other_key : (k j : ℕ) → k < j → same_key 1 (Int (pos k)) (Int (pos j)) ≡ false
other_key k j less = sym (ap is_eq (int_cmp_is (pos k) (pos j) Less (omega (arith, lt→ltb, less))))

one_more : (rows : List Image) (k : ℕ) → HasAccountsBelow rows k → HasAccountsBelow (rows ++ account k ∷ []) (k + 1)
one_more rows k has = record {
  count = omega (arith, has.count, length-append rows (account k ∷ []));
  below = all-push (λ row. row.row < k + 1) rows (account k) (all-map (λ row. row.row < k) (λ row. row.row < k + 1) rows (λ row less. omega (arith, less)) has.below) (omega arith);
  keys = λ j from. let P : List Value → Type 0 = λ keys. IsNewKey 1 keys (Int (pos j)) in
      subst P (sym (filter_map-append (key_in 0) rows (account k ∷ []))) (all-push (λ other. same_key 1 other (Int (pos j)) ≡ false) (keys_of 0 rows) (Int (pos k)) (has.keys j (omega (arith, from))) (other_key k j (omega (arith, from))));
}

row_follows : (last k : ℕ) (rows : List Image) → IsWithin 6 7 last → HasAccountsBelow rows k → 1 ≤ k → k < 101 → MayFollow (seeded last rows) (row_line (account k))
row_follows last k rows order has least most = record {
  fits = record {
    order = order;
    count = omega (arith, has.count, most);
    least = least;
    most = omega (arith, most);
    rising = has.below;
    is_table = omega arith;
    allowed = ((omega (arith, le→leb, least), omega (arith, le→leb, most)), ((omega arith, omega arith), tt));
  };
  key = has.keys k (omega arith);
}

accounts_follow : (n k last : ℕ) (rows : List Image) → IsWithin 6 7 last → HasAccountsBelow rows k → 1 ≤ k → k + n ≡ 101 → AreLinesFrom (seeded last rows) (map row_line (accounts k n) ++ NextRow 101 ∷ [])
unfolding accounts
accounts_follow zero k last rows order has least to = (
  record {
    order = record { from = omega (arith, order.from); to = order.to };
    whole = λ is. absurd (omega (arith, is, order.from));
    least = omega arith;
    most = omega arith;
    above = (let P : ℕ → Type 0 = λ m. AreBelow m rows in subst P (omega (arith, to)) has.below);
  },
  tt,
)
accounts_follow (suc n) k last rows order has least to =
    (row_follows last k rows order has least (omega (arith, to)), accounts_follow n (k + 1) 7 (rows ++ account k ∷ []) (record { from = omega arith; to = omega arith }) (one_more rows k has) (omega arith) (omega (arith, to)))

accounts_declare : (n k last : ℕ) (rows : List Image) → (state_after (seeded last rows) (map row_line (accounts k n) ++ NextRow 101 ∷ [])).start ≡ record generated_start { rows = rows ++ accounts k n }
unfolding accounts
accounts_declare zero k last rows = ap (λ (images : List Image). record generated_start { rows = images }) (sym (append-nil rows))
accounts_declare (suc n) k last rows = accounts_declare n (k + 1) 7 (rows ++ account k ∷ []) ∙ ap (λ (images : List Image). record generated_start { rows = images }) (append_assoc rows (account k ∷ []) (accounts (k + 1) n))

-- ---- its first lines

no_other : (xs : List ℕ) (name : List ℕ) → (length xs ≡ length name → ⊥) → ¬ Contains (xs ∷ []) name
no_other xs name apart (zero, less, is) = apart (ap length is)
no_other xs name apart (suc k, less, is) = absurd (omega (arith, less))

service_follows : ServiceMayFollow 2 [] (codes "main")
unfolding is_name is_keyword member_with_word
service_follows = record { order = record { from = omega arith; to = omega arith }; count = omega arith; is_name = refl; distinct = λ c. absurd (omega (arith, c.1)) }

table_follows : TableMayFollow 4 [] (codes "acct")
unfolding is_name is_keyword member_with_word
table_follows = record { order = record { from = omega arith; to = omega arith }; whole = λ is. absurd (omega (arith, is)); count = omega arith; is_name = refl; distinct = λ c. absurd (omega (arith, c.1)) }

id_follows : MayFollow (record { last = 5; start = record generated_start { schema = record generated_start.schema { tables = record { name = codes "acct"; columns = [] } ∷ [] }; rows = []; next_row = 0 }; sessions = 0 }) (ColumnLine (codes "id") (ColumnInt (pos 1) (pos 100)) true)
unfolding is_name is_keyword member_with_word
id_follows = record { order = record { from = omega arith; to = omega arith }; count = omega arith; is_name = refl; distinct = λ c. absurd (omega (arith, c.1)); is_kind = record { low_fits = omega arith; high_fits = omega arith; order = omega arith }; key = λ none. refl }

balance_follows : MayFollow (record { last = 6; start = record generated_start { schema = record generated_start.schema { tables = record { name = codes "acct"; columns = id_column ∷ [] } ∷ [] }; rows = []; next_row = 0 }; sessions = 0 }) (ColumnLine (codes "bal") (ColumnInt (pos 0) (pos 1000000)) false)
unfolding is_name is_keyword member_with_word
balance_follows = record { order = record { from = omega arith; to = omega arith }; count = omega arith; is_name = refl; distinct = no_other (codes "id") (codes "bal") (λ same. absurd (omega (arith, same))); is_kind = record { low_fits = omega arith; high_fits = omega arith; order = omega arith }; key = λ none. absurd (omega (arith, none)) }

no_accounts : HasAccountsBelow [] 1
no_accounts = record { count = refl; below = tt; keys = λ j from. tt }

pub keeps : IsStart generated_start
keeps = record { lines = ((refl, record { least = omega arith; most = omega arith }), ((refl, (omega arith, omega arith)), (service_follows, (table_follows, (id_follows, (balance_follows, accounts_follow 100 1 6 [] (record { from = omega arith; to = omega arith }) no_accounts (omega arith) (omega arith))))))); declared = accounts_declare 100 1 6 [] }
