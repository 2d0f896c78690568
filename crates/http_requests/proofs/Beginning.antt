-- A request at the front of bytes.
use Rattle.std.proofs.Common.{◌≡◌, ℕ, ◌+◌, ◌<◌, ◌≤◌, ◌-◌, false, List, ◌++◌, length, take, drop, slice_range, IsTrue, sym, ap, ◌∙◌, arith, inl, inr, refl}
use Rattle.std.proofs.Math.Seq.{take-add}
use Rattle.std.proofs.lemmas.Bool.Decides.{nat_tests}
use Rattle.std.proofs.lemmas.List.{length-take, length-take-le, length-drop, take_all, take-append-drop, take-take}
use Rattle.std.specs.Prelude.{nat_le, min, Option}
use Rattle.http_requests.specs.declared.decision.Decision.{Decision}
use Rattle.http_requests.specs.declared.request.Request.{Request}
use Rattle.http_requests.specs.Decisions.{decision_of, refusal}
use Rattle.http_requests.specs.Heads.{Head, HasNoEnd, IsHeadText, Reads}
use Rattle.http_requests.specs.Requests.{Begins, IsUnfinished, IsWholeAt}

-- ---- its head

pub known_front : (bytes : List ℕ) (searched m : ℕ) → searched ≤ m → HasNoEnd (take searched bytes) → HasNoEnd (take searched (take m bytes))
known_front bytes searched m below none = rw (take-take searched m bytes below) none

pub judged-at : (bytes : List ℕ) (end m : ℕ) (read : Option Head) → end ≤ length (take m bytes) → IsHeadText (take end (take m bytes)) → Reads (take end bytes) read → Begins bytes (record { head = end; decision = decision_of read })
judged-at bytes end m read within head reads = record {
  within = omega (arith, within, length-take m bytes);
  decides = inr (record {
    head = rw (take-take end m bytes (omega (arith, within, length-take m bytes))) at head;
    read = read;
    reads = reads;
    judged = refl;
  });
}

pub endless-at : (bytes : List ℕ) → 8192 ≤ length bytes → HasNoEnd (take 8192 bytes) → Begins bytes (record { head = 8192; decision = refusal 431 })
endless-at bytes many none = record {
  within = many;
  decides = inl (record { limit = length-take-le 8192 bytes many; endless = none; refused = refl });
}

-- ---- its body

pub whole-at : (bytes : List ℕ) (r : Request) → Begins bytes r → IsTrue (nat_le r.decision.body (length bytes - r.head)) → IsWholeAt bytes r
whole-at bytes r begins fits =
    let enough : r.decision.body ≤ length bytes - r.head = grind (arith, nat_tests) in
    record {
      within = omega (arith, begins.within, enough);
      is = record {
        text = take r.head bytes;
        decides = begins.decides;
        parts = take-add r.head r.decision.body bytes ∙ ap (λ (n : ℕ). take r.head bytes ++ take n (drop r.head bytes)) (omega arith);
        whole = omega (arith, begins.within, enough, length-take (r.head + r.decision.body - r.head) (drop r.head bytes), length-drop r.head bytes);
      };
    }

pub short-at : (bytes : List ℕ) (r : Request) → Begins bytes r → nat_le r.decision.body (length bytes - r.head) ≡ false → IsUnfinished bytes
short-at bytes r begins over =
    let short : length bytes - r.head < r.decision.body = grind (arith, nat_tests) in
    inr (record {
      text = take r.head bytes;
      body = drop r.head bytes;
      decision = r.decision;
      decides = begins.decides;
      parts = sym (take-append-drop r.head bytes);
      short = omega (arith, short, length-drop r.head bytes);
    })
