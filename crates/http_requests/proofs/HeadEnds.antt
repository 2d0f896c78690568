-- The first place where a head ends.
use Rattle.std.proofs.Common.{◌≡◌, ℕ, ◌+◌, ◌<◌, ◌≤◌, List, length, take, sym, ap, ◌∙◌, arith, min, true, false}
use Rattle.std.proofs.lemmas.List.{length-take-le, take-take, take_min}
use Rattle.http_requests.specs.Heads.{HasNoEnd, IsHeadText, ends_head}

-- no front below this place ends a head
abbrev pub NoneBelow : List ℕ → ℕ → Type 0
NoneBelow bytes end = (n : ℕ) → n < end → ends_head (take n bytes) ≡ false

pub none_so_far : (bytes : List ℕ) (searched : ℕ) → HasNoEnd (take searched bytes) → NoneBelow bytes (searched + 1)
none_so_far bytes searched none n below = ap ends_head (sym (take-take n searched bytes (omega (arith, below)))) ∙ none n

pub head_at_end : (bytes : List ℕ) (end : ℕ) → end ≤ length bytes → length bytes ≤ 8192 → ends_head (take end bytes) ≡ true → NoneBelow bytes end → IsHeadText (take end bytes)
head_at_end bytes end within limit ends none =
    let long : length (take end bytes) ≡ end = length-take-le end bytes within in
    record {
      ends = ends;
      first = λ n below. ap ends_head (take-take n end bytes (omega (arith, below, long))) ∙ none n (omega (arith, below, long));
      limit = omega (arith, long, within, limit);
    }

pub no_end : (bytes : List ℕ) (end : ℕ) → length bytes < end → NoneBelow bytes end → HasNoEnd bytes
no_end bytes end past none n = ap ends_head (sym (take_min n bytes)) ∙ none (min n (length bytes)) (omega (arith, past))
