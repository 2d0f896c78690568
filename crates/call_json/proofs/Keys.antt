-- Which objects have just one key, just two, just three.
use Rattle.std.proofs.Common.{◌≡◌, ℕ, true, List, Some, ap, ◌∙◌}
use Rattle.std.specs.Prelude.{◌&&◌}
use Rattle.std.specs.Str.{bytes_eq}
use Rattle.std.proofs.lemmas.Bool.{and_parts}
use Rattle.std.proofs.lemmas.Option.{cond_some, same_Some}
use Rattle.std.proofs.lemmas.Slice.Eq.{bytes_eq-Decides}
use Rattle.desk_values.proofs.Options.{bind_some}
use Rattle.serde_json.specs.Data.{Data, Members, no_members, member}
use Rattle.call_json.specs.Inside.Members.{all_three, both, keyed, only, sole}

pub is_key : (found key : List ℕ) → bytes_eq found key ≡ true → found ≡ key
is_key found key e = (bytes_eq-Decides found key).0 e

pub sole_member : (ms : Members) (m : List ℕ × Data) → sole ms ≡ Some m → ms ≡ member m.0 m.1 no_members
sole_member no_members m e = absurd cc
sole_member (member k d no_members) m e = ap (λ (n : List ℕ × Data). member n.0 n.1 no_members) (same_Some (k, d) m e)
sole_member (member k d (member l c ms)) m e = absurd cc

pub only_member : (key : List ℕ) (ms : Members) (d : Data) → only key ms ≡ Some d → ms ≡ member key d no_members
only_member key ms d e =
    let m = bind_some (sole ms) (keyed key) d e in
    let test = cond_some (bytes_eq m.0.0 key) m.0.1 d m.2 in
    let k : m.0.0 ≡ key = is_key m.0.0 key test.0 in
    sole_member ms m.0 m.1 ∙ ap (λ (j : List ℕ). member j m.0.1 no_members) k ∙ ap (λ (c : Data). member key c no_members) test.1

pub both_members : (first second : List ℕ) (ms : Members) (p : Data × Data) → both first second ms ≡ Some p → ms ≡ member first p.0 (member second p.1 no_members)
both_members first second no_members p e = absurd cc
both_members first second (member k d no_members) p e = absurd cc
both_members first second (member k d (member l c no_members)) p e =
    let test = cond_some (bytes_eq k first && bytes_eq l second) (d, c) p e in
    let keys = and_parts (bytes_eq k first) (bytes_eq l second) test.0 in
    ap (λ (j : List ℕ). member j d (member l c no_members)) (is_key k first keys.0)
    ∙ ap (λ (j : List ℕ). member first d (member j c no_members)) (is_key l second keys.1)
    ∙ ap (λ (q : Data × Data). member first q.0 (member second q.1 no_members)) test.1
both_members first second (member k d (member l c (member m b ms))) p e = absurd cc

pub three_members : (first second third : List ℕ) (ms : Members) (p : Data × Data × Data) → all_three first second third ms ≡ Some p
    → ms ≡ member first p.0 (member second p.1 (member third p.2 no_members))
three_members first second third no_members p e = absurd cc
three_members first second third (member k d no_members) p e = absurd cc
three_members first second third (member k d (member l c no_members)) p e = absurd cc
three_members first second third (member k d (member l c (member m b no_members))) p e =
    let test = cond_some (bytes_eq k first && bytes_eq l second && bytes_eq m third) (d, c, b) p e in
    let keys = and_parts (bytes_eq k first && bytes_eq l second) (bytes_eq m third) test.0 in
    let front = and_parts (bytes_eq k first) (bytes_eq l second) keys.0 in
    ap (λ (j : List ℕ). member j d (member l c (member m b no_members))) (is_key k first front.0)
    ∙ ap (λ (j : List ℕ). member first d (member j c (member m b no_members))) (is_key l second front.1)
    ∙ ap (λ (j : List ℕ). member first d (member second c (member j b no_members))) (is_key m third keys.1)
    ∙ ap (λ (q : Data × Data × Data). member first q.0 (member second q.1 (member third q.2 no_members))) test.1
three_members first second third (member k d (member l c (member m b (member n a ms)))) p e = absurd cc
