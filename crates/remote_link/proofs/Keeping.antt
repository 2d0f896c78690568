-- No byte is lost between the input and what is held, and why no answer came.
use Rattle.std.proofs.Common.{◌≡◌, ℕ, ◌+◌, ◌<◌, ◌≤◌, List, [], ◌∷◌, ◌++◌, length, take, drop, Option, None, Some, Err, Ok, inl, inr, refl, sym, ap, subst, ◌∙◌, arith, append_assoc, append-nil}
use Rattle.std.proofs.Math.Seq.{drop-nil}
use Rattle.std.proofs.lemmas.List.{length-append, length-take, take-append-drop, take-append-le}
use Rattle.desk_files.specs.Outside.{HasRisen, Told}
use Rattle.desk_files.specs.Sources.{Reads}
use Rattle.http_answers.specs.declared.answer.Answer.{Answer}
use Rattle.http_answers.specs.Answers.{Begins, IsUnfinished}
use Rattle.remote_link.specs.declared.link_err.LinkErr.{LinkErr}
use Rattle.remote_link.specs.declared.link_err.LinkErr.TheVariants.{Failed, Memory}
use Rattle.remote_link.specs.Inside.{Came, HasEnded, IsHopeless, LosesNothing, Stops}

pub loses_refl : (held : List ℕ) (input : Option (List ℕ)) → LosesNothing held input held input
loses_refl held None = tt
loses_refl held (Some left) = refl

pub loses_trans : (a b c : List ℕ) (x y z : Option (List ℕ)) → LosesNothing a x b y → LosesNothing b y c z → LosesNothing a x c z
loses_trans a b c None y z first next = tt
loses_trans a b c (Some x) None z first next = absurd first
loses_trans a b c (Some x) (Some y) None first next = absurd next
loses_trans a b c (Some x) (Some y) (Some z) first next = first ∙ next

-- what a read took into the buffer came behind what was held
pub read_keeps : (n : ℕ) (buffer held : List ℕ) (x y : Option (List ℕ)) → Reads (Ok n) buffer x y → LosesNothing held x (held ++ take n buffer) y
read_keeps n buffer held None y reads = tt
read_keeps n buffer held (Some told) y reads =
    subst (λ (left : Option (List ℕ)). LosesNothing held (Some told) (held ++ take n buffer) left) (sym reads.left)
    (sym (append_assoc held (take n buffer) (drop n told) ∙ ap (λ (l : List ℕ). held ++ (l ++ drop n told)) reads.bytes ∙ ap (λ (l : List ℕ). held ++ l) (take-append-drop n told)))

-- nothing came, so nothing is left
pub at_end : (n : ℕ) (buffer : List ℕ) (x y : Option (List ℕ)) → n ≡ 0 → 0 < length buffer → Reads (Ok n) buffer x y → HasEnded x y
at_end n buffer None y zero some reads = tt
at_end n buffer (Some told) None zero some reads = tt
at_end n buffer (Some told) (Some rest) zero some reads =
    let none = reads.ends zero some in
    let left : rest ≡ drop n told = (let is = reads.left in cc) in
    left ∙ ap (λ (l : List ℕ). drop n l) none ∙ drop-nil n

-- what was read came
pub came_so : (n : ℕ) (buffer held held' : List ℕ) (x y : Option (List ℕ)) (f g : ℕ) → held' ≡ held ++ take n buffer → n ≤ length buffer → 0 < length buffer → Reads (Ok n) buffer x y → Came (Ok n) held held' x y f g
came_so n buffer held held' x y f g is fits some reads = (take n buffer, omega (arith, fits, length-take n buffer), is, λ zero. at_end n buffer x y zero some reads)

-- an input that told its bytes before has told them all along
pub ended_since : (start held : List ℕ) (x y z : Option (List ℕ)) → LosesNothing start x held y → HasEnded y z → HasEnded x z
ended_since start held None y z keeps ended = tt
ended_since start held (Some told) None z keeps ended = absurd keeps
ended_since start held (Some told) (Some left) z keeps ended = ended

hopeless_since : (start held held' : List ℕ) (x y z : Option (List ℕ)) → LosesNothing start x held y → IsHopeless held' y z → IsHopeless held' x z
hopeless_since start held held' x y z keeps (inl never) = inl never
hopeless_since start held held' x y z keeps (inr ended) = inr (ended.0, ended_since start held x y z keeps ended.1)

-- a stop stays one, seen from where the count stood and the input was before
pub stops_later : (error : LinkErr) (start held held' : List ℕ) (x y z : Option (List ℕ)) (f g h : ℕ) → LosesNothing start x held y → g ≡ f → Stops error held' y z g h → Stops error held' x z f h
stops_later Failed start held held' x y z f g h keeps same (inl risen) = inl (subst (λ (n : ℕ). HasRisen n h) same risen)
stops_later Failed start held held' x y z f g h keeps same (inr hopeless) = inr (hopeless_since start held held' x y z keeps hopeless)
stops_later Memory start held held' x y z f g h keeps same stops = tt

-- more bytes behind the head of an answer
pub begins_later : (a b more : List ℕ) (answer : Answer) → b ≡ a ++ more → Begins a answer → Begins b answer
begins_later a b more answer is begins = subst (λ (l : List ℕ). Begins l answer) (sym is) (record {
  within = omega (arith, begins.within, length-append a more);
  limits = begins.limits;
  head = begins.head;
  is_head = rw (take-append-le answer.head a more begins.within) begins.is_head;
  status_is = begins.status_is;
  body_is = begins.body_is;
})

-- ---- what came, and what did not

none_long : (list : List ℕ) → length list ≡ 0 → list ≡ []
none_long [] long = refl
none_long (x ∷ list) long = absurd (omega (arith, long))

-- why nothing came
pub came_stops : (error : LinkErr) (held held' : List ℕ) (x y z : Option (List ℕ)) (f g h : ℕ) → g ≡ f → Came (Err error) held held' y z g h → Stops error held' x z f h
came_stops Failed held held' x y z f g h same came = inl (subst (λ (n : ℕ). HasRisen n h) same came)
came_stops Memory held held' x y z f g h same came = tt

-- the input has ended before all of an answer came
pub ended_hopeless : (n : ℕ) (start held held' : List ℕ) (x y z : Option (List ℕ)) (f g : ℕ) → IsUnfinished held → n ≡ 0 → LosesNothing start x held y → Came (Ok n) held held' y z f g → IsHopeless held' x z
ended_hopeless n start held held' x y z f g unfinished zero keeps came =
    let none = none_long came.0 (came.1 ∙ zero) in
    let same : held' ≡ held = came.2 ∙ ap (λ (l : List ℕ). held ++ l) none ∙ append-nil held in
    inr (subst IsUnfinished (sym same) unfinished, ended_since start held x y z keeps (came.3 zero))
