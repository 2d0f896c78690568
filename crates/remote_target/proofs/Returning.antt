-- Lines that are given back, one after the other.
use Rattle.std.proofs.Common.{◌≡◌, ◌∙◌, ℕ, ◌<◌, ◌≤◌, ◌&&◌, ◌⊎◌, zero, suc, inl, inr, Bool, true, false, List, [], ◌∷◌, ◌++◌, length, length-append, get_or, is_ok, Option, None, Some, Result, Ok, Err, refl, sym, ap, subst, append_assoc, append-nil, arith}
use Rattle.std.specs.List.{AllByRecursion, Any}
use Rattle.std.proofs.lemmas.Bool.{cases_eq}
use Rattle.desk_values.specs.declared.memory.Memory.{Memory as NoMemory}
use Rattle.desk_files.specs.Outside.{HasRisen, last_count}
use Rattle.remote_link.specs.declared.heard.Heard.{Heard}
use Rattle.remote_link.specs.declared.link_err.LinkErr.{LinkErr}
use Rattle.remote_link.specs.declared.link_err.LinkErr.TheVariants as refusal
use Rattle.remote_link.specs.Dials.{CountsBack, GivesBack}
use Rattle.remote_target.specs.Inside.{AreToldOf, CountsLines, GivesLines, IsToldOf, SaidView}
use Rattle.remote_target.specs.Ends.{AddsUnbroken}
use Rattle.remote_target.specs.Spoken.{IsSpoken, IsUnbroken}
use Rattle.remote_target.proofs.Giving.{as_many}
use Rattle.remote_target.proofs.Unbroken.{unbroken_of}

abbrev pub outcome : Bool → Result (Unit {0}) NoMemory
outcome true = Ok tt
outcome false = Err (record {})

-- what was said on these lines was given, or as much of it as there was memory for
abbrev pub GaveSo : List SaidView → Bool → Option (List (List Heard)) → Option (List (List Heard)) → Type 0
GaveSo saids whole before after = GivesLines saids (outcome whole) before after

pub none_given : (before : Option (List (List Heard))) → GaveSo [] true before before
none_given None = tt
none_given (Some told) = ([], tt, ap (λ (lists : List (List Heard)). Some lists) (sym (append-nil told)))

told_more : (saids : List SaidView) (lists : List (List Heard)) (said : SaidView) (list : List Heard) → AreToldOf saids lists → IsToldOf said list → AreToldOf (saids ++ said ∷ []) (lists ++ list ∷ [])
told_more [] [] said list are is = (is, tt)
told_more [] (other ∷ lists) said list are is = absurd are
told_more (one ∷ saids) [] said list are is = absurd are
told_more (one ∷ saids) (other ∷ lists) said list are is = (are.0, told_more saids lists said list are.1 is)

module _ (saids : List SaidView) (said : SaidView) (faults : ℕ) (told : List (List Heard)) where
  abbrev more : List SaidView
  more = saids ++ said ∷ []

  -- in the place of one list more, what stands for the result
  given_line : (line : Option (List Heard)) (result : Result (Unit {0}) NoMemory) (whole : Bool) (after : Option (List (List Heard))) (lists : List (List Heard))
      → IsSpoken line faults said.heard said.refusal → GivesBack line result (Some (told ++ lists)) after
      → (whole ≡ true → AreToldOf saids lists) → length lists ≤ length saids → GaveSo more (whole && is_ok result) (Some told) after
  given_line None (Ok done) whole after lists spoken gives are few = absurd gives
  given_line (Some list) (Ok done) true after lists spoken gives are few =
      (lists ++ list ∷ [], told_more saids lists said list (are refl) (record { own = spoken.own; fair = spoken.fair; unbroken = unbroken_of said.heard list said.refusal spoken.replies spoken.own }), gives ∙ ap (λ (all : List (List Heard)). Some all) (append_assoc told lists (list ∷ [])))
  given_line (Some list) (Ok done) false after lists spoken gives are few =
      (lists ++ list ∷ [], omega (arith, few, length-append lists (list ∷ []), length-append saids (said ∷ [])), gives ∙ ap (λ (all : List (List Heard)). Some all) (append_assoc told lists (list ∷ [])))
  given_line line (Err memory) true after lists spoken gives are few = (lists, omega (arith, few, length-append saids (said ∷ [])), gives)
  given_line line (Err memory) false after lists spoken gives are few = (lists, omega (arith, few, length-append saids (said ∷ [])), gives)

  pub one_given : (line : Option (List Heard)) (result : Result (Unit {0}) NoMemory) (whole : Bool) (middle after : Option (List (List Heard)))
      → IsSpoken line faults said.heard said.refusal → GaveSo saids whole (Some told) middle → GivesBack line result middle after → GaveSo more (whole && is_ok result) (Some told) after
  one_given line result true middle after spoken gave gives = given_line line result true after gave.0 spoken (rw gave.2 at gives) (λ same. gave.1) (let many = as_many saids gave.0 gave.1 in omega (arith, many))
  one_given line result false middle after spoken gave gives = given_line line result false after gave.0 spoken (rw gave.2 at gives) (λ same. absurd cc) gave.1

pub given_more : (saids : List SaidView) (said : SaidView) (faults : ℕ) (line : Option (List Heard)) (result : Result (Unit {0}) NoMemory) (whole : Bool) (before middle after : Option (List (List Heard)))
    → IsSpoken line faults said.heard said.refusal → GaveSo saids whole before middle → GivesBack line result middle after → GaveSo (saids ++ said ∷ []) (whole && is_ok result) before after
given_more saids said faults line (Ok done) true None middle after spoken gave gives = tt
given_more saids said faults line (Ok done) false None middle after spoken gave gives = tt
given_more saids said faults line (Err memory) true None middle after spoken gave gives = tt
given_more saids said faults line (Err memory) false None middle after spoken gave gives = tt
given_more saids said faults line result whole (Some told) middle after spoken gave gives = one_given saids said faults told line result whole middle after spoken gave gives

-- ---- lists without a break

pub none_unbroken : (before : Option (List (List Heard))) → AddsUnbroken before before
none_unbroken None = tt
none_unbroken (Some told) = ([], tt, ap (λ (lists : List (List Heard)). Some lists) (sym (append-nil told)))

all_and : (lists : List (List Heard)) (list : List Heard) → AllByRecursion IsUnbroken lists → IsUnbroken list → AllByRecursion IsUnbroken (lists ++ list ∷ [])
all_and [] list all is = (is, tt)
all_and (one ∷ lists) list all is = (all.0, all_and lists list all.1 is)

unbroken_line : (told lists : List (List Heard)) (line : Option (List Heard)) (faults : ℕ) (heard : List Heard) (r : Option LinkErr) (result : Result (Unit {0}) NoMemory) (after : Option (List (List Heard)))
    → IsSpoken line faults heard r → AllByRecursion IsUnbroken lists → GivesBack line result (Some (told ++ lists)) after → AddsUnbroken (Some told) after
unbroken_line told lists None faults heard r (Ok done) after spoken all gives = absurd gives
unbroken_line told lists (Some list) faults heard r (Ok done) after spoken all gives =
    (lists ++ list ∷ [], all_and lists list all (unbroken_of heard list r spoken.replies spoken.own), gives ∙ ap (λ (each : List (List Heard)). Some each) (append_assoc told lists (list ∷ [])))
unbroken_line told lists line faults heard r (Err memory) after spoken all gives = (lists, all, gives)

pub unbroken_more : (line : Option (List Heard)) (faults : ℕ) (heard : List Heard) (r : Option LinkErr) (result : Result (Unit {0}) NoMemory) (before middle after : Option (List (List Heard)))
    → IsSpoken line faults heard r → AddsUnbroken before middle → GivesBack line result middle after → AddsUnbroken before after
unbroken_more line faults heard r result None middle after spoken adds gives = tt
unbroken_more line faults heard r result (Some told) middle after spoken adds gives = unbroken_line told adds.0 line faults heard r result after spoken adds.1 (rw adds.2 at gives)

-- ---- the count

pub none_counted : (n : ℕ) → CountsLines [] n n
none_counted n = record { rises = λ some. absurd (let within = some.2 in omega (arith, within)); stays = λ all. refl; never_falls = omega arith }

-- a count that rose and did not fall, or did not fall and rose, rose
pub rises_on : (a b c : ℕ) → HasRisen a b → a ≤ b → b ≤ c → HasRisen a c
rises_on a b c risen grows on past = elim (cases_eq b last_count) [
  | inl stands ↦ elim (cases_eq b c) [ inl same ↦ absurd (past (sym same ∙ stands)) | inr apart ↦ omega (arith, grows, on, apart) ]
  | inr more ↦ let less = risen more in omega (arith, less, on)
]

rises_then : (a b c : ℕ) → a ≤ b → HasRisen b c → HasRisen a c
rises_then a b c grows risen past = let less = risen past in omega (arith, grows, less)

-- one of more is one of those before, or the last
any_in : (P : Option LinkErr → Type 0) (refusals : List (Option LinkErr)) (r : Option LinkErr) (k : ℕ) (x : Option LinkErr) → k < length (refusals ++ r ∷ []) → get_or (refusals ++ r ∷ []) k x ≡ x → P x → Any P refusals ⊎ P r
any_in P [] r zero x within at is = inr (subst P (sym at) is)
any_in P [] r (suc k) x within at is = absurd (omega (arith, within))
any_in P (one ∷ refusals) r zero x within at is = inl (zero, x, omega arith, at, is)
any_in P (one ∷ refusals) r (suc k) x within at is = elim (any_in P refusals r k x (omega (arith, within)) at is) [
  | inl there ↦ inl (suc there.0, there.1, (let less = there.2 in omega (arith, less)), there.3, there.4)
  | inr last ↦ inr last
]

-- what holds of more holds of those before, and of the last
all_in : (P : Option LinkErr → Type 0) (refusals : List (Option LinkErr)) (r : Option LinkErr) → AllByRecursion P (refusals ++ r ∷ []) → AllByRecursion P refusals × P r
all_in P [] r all = (tt, all.0)
all_in P (one ∷ refusals) r all = let rest = all_in P refusals r all.1 in ((all.0, rest.0), rest.1)

pub counted_more : (refusals : List (Option LinkErr)) (line : Option (List Heard)) (faults : ℕ) (list : List Heard) (r : Option LinkErr) (before middle after : ℕ)
    → IsSpoken line faults list r → CountsLines refusals before middle → CountsBack faults middle after → CountsLines (refusals ++ r ∷ []) before after
counted_more refusals line faults list r before middle after spoken counts back = record {
  rises = λ some. elim (any_in (λ (x : Option LinkErr). x ≡ Some refusal.Failed) refusals r some.0 some.1 some.2 some.3 some.4) [
    | inl there ↦ rises_on before middle after (counts.rises there) counts.never_falls back.never_falls
    | inr last ↦ rises_then before middle after counts.never_falls (back.rises (spoken.failed last))
  ];
  stays = λ all. let both = all_in (λ (x : Option LinkErr). x ≡ None) refusals r all in back.stays (spoken.faultless both.1) ∙ counts.stays both.0;
  never_falls = (let first = counts.never_falls in let next = back.never_falls in omega (arith, first, next));
}
