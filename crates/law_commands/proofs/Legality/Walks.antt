-- A test that goes over calls, place by place.
use Rattle.std.proofs.Common.{◌≡◌, ℕ, suc, ◌<◌, List, [], ◌∷◌, ◌++◌, take, refl, sym, ap, subst, ◌∙◌, append_assoc, arith, append-nil}
use Rattle.std.specs.Prelude.{Option, None, Some, slice_get}
use Rattle.std.specs.Option.{option_or}
use Rattle.desk_values.specs.declared.capture.Captured.{Captured}
use Rattle.captured_calls.specs.declared.refusal.Refusal.{Refusal}
use Rattle.captured_calls.specs.Tests.{first_refused}
use Rattle.law_commands.specs.Legality.First.{IsFirstRefused, IsNeverRefused, PassBefore}
use Rattle.captured_calls.specs.Scan.{Test}
use Rattle.captured_calls.proofs.Members.{some_is}

-- each call passes, behind the calls before
pub none_refused : (test : Test Refusal) (before calls : List Captured) → IsNeverRefused test before calls → first_refused test before calls ≡ None
none_refused test before [] each = refl
none_refused test before (c ∷ cs) each =
    let head : test before c ≡ None = subst (λ (b : List Captured). test b c ≡ None) (append-nil before) (each 0 c refl) in
    ap (λ (o : Option Refusal). option_or o (first_refused test (before ++ c ∷ []) cs)) head
    ∙ none_refused test (before ++ c ∷ []) cs (λ k call there. subst (λ (b : List Captured). test b call ≡ None) (sym (append_assoc before (c ∷ []) (take k cs))) (each (suc k) call there))

pub first_there : (test : Test Refusal) (before calls : List Captured) (refusal : Refusal) → first_refused test before calls ≡ Some refusal → IsFirstRefused test before calls refusal
first_there test before [] refusal is = cc
first_there test before (c ∷ cs) refusal is = at (test before c) refl (first_there test (before ++ c ∷ []) cs refusal)
  where
    rest : Option Refusal
    rest = first_refused test (before ++ c ∷ []) cs

    at : (o : Option Refusal) → test before c ≡ o → (rest ≡ Some refusal → IsFirstRefused test (before ++ c ∷ []) cs refusal) → IsFirstRefused test before (c ∷ cs) refusal
    at (Some r) fails later = record {
      place = 0;
      call = c;
      there = refl;
      refuses = subst (λ (b : List Captured). test b c ≡ Some refusal) (sym (append-nil before)) (fails ∙ sym (ap (λ (o : Option Refusal). option_or o rest) fails) ∙ is);
      earlier = λ j other lt there. absurd (omega (arith, lt));
    }
    at None passes later =
        let r = later (sym (ap (λ (o : Option Refusal). option_or o rest) passes) ∙ is) in
        record {
          place = suc r.place;
          call = r.call;
          there = r.there;
          refuses = subst (λ (b : List Captured). test b r.call ≡ Some refusal) (append_assoc before (c ∷ []) (take r.place cs)) r.refuses;
          earlier = before_it r;
        }
      where
        before_it : (r : IsFirstRefused test (before ++ c ∷ []) cs refusal) (j : ℕ) (other : Captured) → j < suc r.place → slice_get (c ∷ cs) j ≡ Some other → test (before ++ take j (c ∷ cs)) other ≡ None
        before_it r Prim.Native.Nat.zero other lt there = subst (λ (x : Captured). test (before ++ []) x ≡ None) (some_is there) (subst (λ (b : List Captured). test b c ≡ None) (sym (append-nil before)) passes)
        before_it r (suc j) other lt there = subst (λ (b : List Captured). test b other ≡ None) (append_assoc before (c ∷ []) (take j cs)) (r.earlier j other (omega (arith, lt)) there)

first_is : (test : Test Refusal) (before calls : List Captured) (refusal : Refusal) (k : ℕ) (call : Captured) → slice_get calls k ≡ Some call → test (before ++ take k calls) call ≡ Some refusal
    → PassBefore test before calls k → first_refused test before calls ≡ Some refusal
first_is test before [] refusal k call there refuses earlier = cc
first_is test before (c ∷ cs) refusal Prim.Native.Nat.zero call there refuses earlier =
    let own : test before c ≡ Some refusal = subst (λ (b : List Captured). test b c ≡ Some refusal) (append-nil before) (subst (λ (x : Captured). test (before ++ []) x ≡ Some refusal) (sym (some_is there)) refuses) in
    ap (λ (o : Option Refusal). option_or o (first_refused test (before ++ c ∷ []) cs)) own
first_is test before (c ∷ cs) refusal (suc k) call there refuses earlier =
    let head : test before c ≡ None = subst (λ (b : List Captured). test b c ≡ None) (append-nil before) (earlier 0 c (omega arith) refl) in
    ap (λ (o : Option Refusal). option_or o (first_refused test (before ++ c ∷ []) cs)) head
    ∙ first_is test (before ++ c ∷ []) cs refusal k call there (subst (λ (b : List Captured). test b call ≡ Some refusal) (sym (append_assoc before (c ∷ []) (take k cs))) refuses)
    (λ j other lt at. subst (λ (b : List Captured). test b other ≡ None) (sym (append_assoc before (c ∷ []) (take j cs))) (earlier (suc j) other (omega (arith, lt)) at))

pub refused_is : (test : Test Refusal) (before calls : List Captured) (refusal : Refusal) → IsFirstRefused test before calls refusal → first_refused test before calls ≡ Some refusal
refused_is test before calls refusal r = first_is test before calls refusal r.place r.call r.there r.refuses r.earlier
