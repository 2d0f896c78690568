-- The names of the files of sessions are short.
use Rattle.std.proofs.Common.{◌≡◌, ℕ, ◌+◌, ◌<◌, ◌≤◌, ◌/◌, ◌%◌, ◌^◌, ◌++◌, lit<, length, length-append, refl, arith}
use Rattle.std.specs.Prelude.{codes}
use Rattle.std.specs.Fmt.{decimal}
use Rattle.std.proofs.lemmas.Fmt.{length-decimal-le}
use Rattle.replay_page.specs.Captured.{in_three_digits, session_name}

short : (k : ℕ) → k < 1000 → length (decimal k) ≤ 20
short k small = let fits : k < 2 ^ 64 = omega (arith, small) in length-decimal-le 20 k (lit< tt) (omega (arith, fits)) fits

pub short_name : (n : ℕ) → n < 1000 → length (session_name n) ≤ 1000
short_name n small =
    let hundreds = short (n / 100) (omega (arith, small)) in
    let tens = short (n / 10 % 10) (omega (arith, small)) in
    let ones = short (n % 10) (omega (arith, small)) in
    let a = length-append (decimal (n % 10)) (codes ".cap") in
    let b = length-append (decimal (n / 10 % 10)) (decimal (n % 10) ++ codes ".cap") in
    let d = length-append (decimal (n / 100)) (decimal (n / 10 % 10) ++ (decimal (n % 10) ++ codes ".cap")) in
    let whole : length (session_name n) ≡ 8 + length (in_three_digits n (codes ".cap")) = length-append (codes "session-") (in_three_digits n (codes ".cap")) in
    let last : length (codes ".cap") ≡ 4 = refl in
    omega (arith, hundreds, tens, ones, a, b, d, whole, last)
