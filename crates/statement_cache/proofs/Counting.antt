-- What is counted of texts, as one is put.
use Rattle.std.proofs.Common.{◌≡◌, ℕ, ◌+◌, ◌≤◌, List, [], ap, arith}
use Rattle.std.specs.Prelude.{nat_eq, Option}
use Rattle.std.specs.HashMap.{HashMap, PutsEntry, get}
use Rattle.std.specs.List.{sum_by}
use Rattle.std.specs.Map.{values_of}
use Rattle.std.proofs.lemmas.Map.Entries.{sum_by_puts_entry}
use Rattle.statement_cache.specs.declared.statements.Known.{Known}
use Rattle.statement_cache.specs.Count.{bytes_of, counted}

pub none_counted : {S : Type 0} (texts : HashMap ℕ Known S) → texts.entries ≡ [] → counted texts.entries ≡ 0
none_counted texts none = ap (λ (entries : List (ℕ × Known)). sum_by (λ (known : Known). bytes_of known.text) (values_of entries)) none

pub same_counted : {S : Type 0} (before after : HashMap ℕ Known S) → after.entries ≡ before.entries → counted after.entries ≡ counted before.entries
same_counted before after same = ap (λ (entries : List (ℕ × Known)). sum_by (λ (known : Known). bytes_of known.text) (values_of entries)) same

pub put_counted : {S : Type 0} (before after : HashMap ℕ Known S) (print : ℕ) (known : Known) (old : Option Known) → old ≡ get nat_eq before print → PutsEntry nat_eq before after print known old → counted after.entries ≤ counted before.entries + bytes_of known.text
put_counted before after print known old was put = omega (arith, sum_by_puts_entry (λ (one : Known). bytes_of one.text) nat_eq before after print known old was put)
