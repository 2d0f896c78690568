-- No byte is lost between the input and what is held, and what is held is never more than a request.
use Rattle.std.proofs.Common.{◌≡◌, ℕ, ◌<◌, ◌≤◌, Bool, true, false, List, [], ◌∷◌, ◌++◌, length, take, Option, None, Some, Result, Ok, Err, IfOk, if◌then◌else◌, refl, sym, subst, ◌∙◌, arith, inl, inr}
use Rattle.std.specs.Prelude.{nat_lt, bytes_eq, codes}
use Rattle.std.specs.Str.Parse.{digits_value}
use Rattle.std.specs.List.{list_any}
use Rattle.std.proofs.Math.Seq.{take-append_seam}
use Rattle.std.proofs.lemmas.Bool.Decides.{nat_tests}
use Rattle.std.proofs.lemmas.List.{length-append, take-append-le}
use Rattle.desk_files.specs.Outside.{Told as Where}
use Rattle.desk_files.specs.Sources.{Reads}
use Rattle.http_requests.specs.declared.decision.Decision.{Decision}
use Rattle.http_requests.specs.declared.request.Request.{Request}
use Rattle.http_requests.specs.Decisions.{body_length, by_length, decision_of, has_name, is_length, length_by, told_length, values_of}
use Rattle.http_requests.specs.Heads.{Head, HasNoEnd}
use Rattle.http_requests.specs.Requests.{Begins, Decides, IsUnfinished}
use Rattle.capture_http.specs.declared.conn_end.ConnEnd.{ConnEnd}
use Rattle.capture_http.specs.declared.conn_end.ConnEnd.TheVariants as ends
use Rattle.capture_http.specs.Inside.{LosesNothing, Stops}

-- ---- what is held and what is left

pub loses_refl : (held : List ℕ) (input : Option (List ℕ)) → LosesNothing held input held input
loses_refl held None = tt
loses_refl held (Some left) = refl

pub loses_trans : (a b c : List ℕ) (x y z : Option (List ℕ)) → LosesNothing a x b y → LosesNothing b y c z → LosesNothing a x c z
loses_trans a b c None y z first next = tt
loses_trans a b c (Some x) None z first next = absurd first
loses_trans a b c (Some x) (Some y) None first next = absurd next
loses_trans a b c (Some x) (Some y) (Some z) first next = first ∙ next

pub none_later : (a b : List ℕ) (x y z : Option (List ℕ)) → LosesNothing a x b y → Where y (λ all. z ≡ Some []) → Where x (λ all. z ≡ Some [])
none_later a b None y z first none = tt
none_later a b (Some x) None z first none = absurd first
none_later a b (Some x) (Some y) z first none = none

pub at_end : (n : ℕ) (buffer : List ℕ) (x y : Option (List ℕ)) → n ≡ 0 → 0 < length buffer → Reads (Ok n) buffer x y → Where x (λ all. y ≡ Some [])
at_end n buffer None y zero some reads = tt
at_end n buffer (Some x) y zero some reads = rw (reads.ends zero some, zero) at reads.left

pub stops_later : (end : ConnEnd) (a b c : List ℕ) (x y z : Option (List ℕ)) (f g h : ℕ) → LosesNothing a x b y → g ≡ f → Stops end c y z g h → Stops end c x z f h
stops_later ends.Ended a b c x y z f g h kept same stops = (stops.0, none_later a b x y z kept stops.1, stops.2 ∙ same)
stops_later ends.SourceFault a b c x y z f g h kept same stops = rw same at stops
stops_later ends.Memory a b c x y z f g h kept same stops = stops ∙ same
stops_later ends.Spent a b c x y z f g h kept same stops = absurd stops
stops_later ends.SinkFault a b c x y z f g h kept same stops = absurd stops

-- ---- more bytes behind those that are held

pub begins_later : (a b more : List ℕ) (r : Request) → b ≡ a ++ more → Begins a r → Begins b r
begins_later a b more r is begins = subst (λ l. Begins l r) (sym is) (record {
  within = omega (arith, begins.within, length-append a more);
  decides = rw (take-append-le r.head a more begins.within) begins.decides;
})

pub searched_later : (a b more : List ℕ) → b ≡ a ++ more → HasNoEnd a → HasNoEnd (take (length a) b)
searched_later a b more is none = subst (λ l. HasNoEnd (take (length a) l)) (sym is) (rw (take-append_seam a more) none)

-- ---- what is less than a request

told_by : (c d : Bool) (v : ℕ) → (d ≡ false → v ≤ 65536) → IfOk {E = ℕ} (if c then (if d then Err 413 else Ok v) else Err 400) (λ (body : ℕ). body ≤ 65536)
told_by true true v small = tt
told_by true false v small = small refl
told_by false d v small = tt

told_small : (digits : List ℕ) → IfOk (told_length digits) (λ body. body ≤ 65536)
told_small digits = told_by (is_length digits) (nat_lt 65536 (digits_value 10 digits)) (digits_value 10 digits) (λ e. grind (arith, nat_tests))

length_small : (posts : Bool) (values : List (List ℕ)) → IfOk (length_by posts values) (λ body. body ≤ 65536)
length_small true [] = tt
length_small false [] = omega arith
length_small posts (digits ∷ []) = told_small digits
length_small posts (first ∷ second ∷ others) = tt

body_by : (c : Bool) (r : Result ℕ ℕ) → IfOk r (λ body. body ≤ 65536) → IfOk {E = ℕ} (if c then Err 411 else r) (λ body. body ≤ 65536)
body_by true r small = tt
body_by false r small = small

by_length_small : (head : Head) (r : Result ℕ ℕ) → IfOk r (λ body. body ≤ 65536) → (by_length head r).body ≤ 65536
by_length_small head (Ok body) small = small
by_length_small head (Err status) small = omega arith

decision_small : (read : Option Head) → (decision_of read).body ≤ 65536
decision_small None = omega arith
decision_small (Some head) =
    by_length_small head (body_length head)
    (body_by (list_any (has_name (codes "transfer-encoding")) head.fields) (length_by (bytes_eq head.method (codes "POST")) (values_of (codes "content-length") head.fields))
    (length_small (bytes_eq head.method (codes "POST")) (values_of (codes "content-length") head.fields)))

decides_small : (text : List ℕ) (decision : Decision) → Decides text decision → (length text ≤ 8192) × (decision.body ≤ 65536)
decides_small text decision (inl long) = (omega (arith, long.limit), rw long.refused (omega arith))
decides_small text decision (inr judged) = (judged.head.limit, rw judged.judged (decision_small judged.read))

pub unfinished_small : (bytes : List ℕ) → IsUnfinished bytes → length bytes < 73728
unfinished_small bytes (inl head) = omega (arith, head.short)
unfinished_small bytes (inr body) =
    let small = decides_small body.text body.decision body.decides in
    rw body.parts (omega (arith, body.short, small.0, small.1, length-append body.text body.body))
