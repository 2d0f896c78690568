-- Connections as they come, one after the other.
use Rattle.std.proofs.Common.{◌≡◌, ◌∙◌, ℕ, ◌+◌, ◌≤◌, List, [], ◌∷◌, ◌++◌, length, map, min, Option, Some, None, IsSomeAnd, Result, Ok, Err, refl, sym, ap, subst, arith, append_assoc}
use Rattle.std.proofs.Math.Nat.{min-eq_left, min-eq_right}
use Rattle.std.proofs.lemmas.List.{append-nil, length-append, map-append}
use Rattle.desk_files.specs.Outside.{Account, Told, raised}
use Rattle.desk_files.specs.Hosts.{Accepts, Connections, Handed, Takes, after_accept}
use Rattle.desk_files.proofs.DeviceLaws.{risen_more}
use Rattle.desk_files.specs.declared.fault.Failed.{Failed}
use Rattle.capture_http.specs.Ends.{ends_of}
use Rattle.capture_serve.specs.Connections.{comes}
use Rattle.capture_serve.specs.declared.halt.Halt.{Halt}
use Rattle.capture_serve.specs.Inside.Passing.{Came, Moment, Took, arrivals_from}
use Rattle.capture_serve.specs.Inside.Handing.{HasTaken}

-- ---- what came so far

-- the first so many of those waiting came so
pub record CameSo (arrivals : List Moment) (n : ℕ) (before after : Connections) : Type 0 where
  pub sent : List (List ℕ)
  pub took : Took arrivals sent before after
  pub count : length sent ≡ n

abbrev pub SoFar : List Moment → ℕ → Option Connections → Option Connections → Type 0
SoFar arrivals n before after = Told before (λ c. IsSomeAnd after (CameSo arrivals n c))

pub none_came : (before : Option Connections) → SoFar [] 0 before before
none_came None = tt
none_came (Some c) = record { sent = []; took = record { taken = refl; returned = refl; arrive = refl }; count = refl }

arrivals-snoc : (n : ℕ) (sents : List (List ℕ)) (sent : List ℕ) → arrivals_from n (sents ++ sent ∷ []) ≡ arrivals_from n sents ++ record { session = n + length sents; ends = comes sent } ∷ []
arrivals-snoc n [] sent = ap (λ (k : ℕ). record { session = k; ends = comes sent } ∷ []) (omega arith)
arrivals-snoc n (first ∷ sents) sent =
    ap (λ (l : List Moment). record { session = n; ends = comes first } ∷ l) (arrivals-snoc (n + 1) sents sent
    ∙ ap (λ (k : ℕ). arrivals_from (n + 1) sents ++ record { session = k; ends = comes sent } ∷ []) (omega arith))

-- one more of them
came_one : (arrivals : List Moment) (n : ℕ) (m : Moment) (before now : Connections) (after : Option Connections) (input output : Option (List ℕ)) → CameSo arrivals n before now → Takes input output now after
    → ((first : List ℕ) → input ≡ Some first → output ≡ Some [] → m ≡ record { session = n; ends = comes first }) → IsSomeAnd after (CameSo (arrivals ++ m ∷ []) (n + 1) before)
came_one arrivals n m before now after input output so takes is = rw takes.left (record {
  sent = so.sent ++ takes.first ∷ [];
  took = record {
    taken = so.took.taken ∙ ap (λ (l : List (List ℕ)). so.sent ++ l) takes.waited ∙ sym (append_assoc so.sent (takes.first ∷ []) takes.others);
    returned = so.took.returned;
    arrive =
        ap (λ (l : List Moment). l ++ m ∷ []) so.took.arrive ∙ ap (λ (x : Moment). arrivals_from 0 so.sent ++ x ∷ []) (is takes.first takes.input_is takes.output_is ∙ ap (λ (k : ℕ). record { session = k; ends = comes takes.first }) (sym so.count ∙ from_0 (length so.sent)))
        ∙ sym (arrivals-snoc 0 so.sent takes.first);
  };
  count = length-append so.sent (takes.first ∷ []) ∙ ap (λ (k : ℕ). k + 1) so.count;
}) where
  from_0 : (k : ℕ) → k ≡ 0 + k
  from_0 k = omega arith

one_came : (arrivals : List Moment) (n : ℕ) (m : Moment) (before now after : Option Connections) (input output : Option (List ℕ)) → SoFar arrivals n before now → Told now (λ c. Takes input output c after)
    → ((first : List ℕ) → input ≡ Some first → output ≡ Some [] → m ≡ record { session = n; ends = comes first }) → SoFar (arrivals ++ m ∷ []) (n + 1) before after
one_came arrivals n m None now after input output so takes is = tt
one_came arrivals n m (Some c) None after input output so takes is = absurd so
one_came arrivals n m (Some c) (Some now) after input output so takes is = came_one arrivals n m c now after input output so takes is

pub arrives : (session : ℕ) (input output : Option (List ℕ)) (f g : ℕ) (first : List ℕ) → f ≡ 0 → g ≡ 0 → input ≡ Some first → output ≡ Some [] → ◌≡◌ {A = Moment} (record { session = session; ends = ends_of input f output g [] [] }) (record { session = session; ends = comes first })
arrives session input output f g first none nothing input_is output_is = rw (none, nothing, input_is, output_is) refl

came_more : {S : Type 0} (arrival_of : S → Moment) (done : List S) (seat : S) (n : ℕ) (before now after : Option Connections) (input output : Option (List ℕ)) → SoFar (map arrival_of done) n before now → Told now (λ c. Takes input output c after)
    → ((first : List ℕ) → input ≡ Some first → output ≡ Some [] → arrival_of seat ≡ record { session = n; ends = comes first }) → SoFar (map arrival_of (done ++ seat ∷ [])) (n + 1) before after
came_more arrival_of done seat n before now after input output so takes is = subst (λ (l : List Moment). SoFar l (n + 1) before after) (sym (map-append arrival_of done (seat ∷ []))) (one_came (map arrival_of done) n (arrival_of seat) before now after input output so takes is)

-- ---- how it ended

-- all that were to come did
pub all_came : (arrivals : List Moment) (n : ℕ) (before after : Option Connections) → SoFar arrivals n before after → Came (Ok tt) n arrivals before after
all_came arrivals n None after so = tt
all_came arrivals n (Some c) None so = absurd so
all_came arrivals n (Some c) (Some c') so = (so.sent, so.took, count) where
  count : length so.sent ≡ min n (length c.waiting)
  count = let taken = ap (λ (l : List (List ℕ)). length l) so.took.taken ∙ length-append so.sent c'.waiting in so.count ∙ sym (min-eq_left (omega (arith, taken, so.count)))

-- no more were left
none_left : (arrivals : List Moment) (n most : ℕ) (before after : Option Connections) → n ≤ most → SoFar arrivals n before after → Told after (λ c. c.waiting ≡ []) → Came (Ok tt) most arrivals before after
none_left arrivals n most None after few so none = tt
none_left arrivals n most (Some c) None few so none = absurd so
none_left arrivals n most (Some c) (Some c') few so none = (so.sent, so.took, count) where
  all : length c.waiting ≡ n
  all = ap (λ (l : List (List ℕ)). length l) (so.took.taken ∙ ap (λ (l : List (List ℕ)). so.sent ++ l) none ∙ append-nil so.sent) ∙ so.count

  count : length so.sent ≡ min most (length c.waiting)
  count = so.count ∙ sym all ∙ sym (min-eq_right (omega (arith, few, all)))

-- it halted
pub halted : (halt : Halt) (arrivals : List Moment) (n most : ℕ) (before after : Option Connections) → SoFar arrivals n before after → Came (Err halt) most arrivals before after
halted halt arrivals n most None after so = tt
halted halt arrivals n most (Some c) None so = absurd so
halted halt arrivals n most (Some c) (Some c') so = (so.sent, so.took, tt)

-- there was no memory for any
pub none_at_all : (halt : Halt) (most : ℕ) (before : Option Connections) → Came (Err halt) most [] before before
none_at_all halt most before = halted halt [] 0 most before before (none_came before)

-- ---- how many were taken

module _ {T : Type 0} (result : Result (Option T) Failed) (n : ℕ) (old now new : Handed) (moves : new ≡ after_accept result now) (taken : HasTaken n old now) where
  pub one_taken : (pair : T) → result ≡ Ok (Some pair) → HasTaken (n + 1) old new
  one_taken pair is =
      subst (λ (r : Result (Option T) Failed). new ≡ after_accept r now) is moves ∙ ap (λ (h : Handed). record h { taken = raised h.taken }) taken ∙ ap (λ (k : ℕ). record old { taken = k }) (sym (risen_more n old.taken))

  pub none_taken : result ≡ Ok None → HasTaken n old new
  none_taken is = subst (λ (r : Result (Option T) Failed). new ≡ after_accept r now) is moves ∙ taken

-- ---- answers of `accept`

module _ {In Out : Type 0} (before now after : Option Connections) (input : In → Account (List ℕ)) (output : Out → Account (List ℕ)) (result : Result (Option (In × Out)) Failed) (takes : Accepts input output result now after) where
  pub one_more_came : {S : Type 0} (arrival_of : S → Moment) (done : List S) (seat : S) (n : ℕ) (pair : In × Out) → result ≡ Ok (Some pair) → SoFar (map arrival_of done) n before now
      → ((first : List ℕ) → (input pair.0).content ≡ Some first → (output pair.1).content ≡ Some [] → arrival_of seat ≡ record { session = n; ends = comes first }) → SoFar (map arrival_of (done ++ seat ∷ [])) (n + 1) before after
  one_more_came arrival_of done seat n pair is so arrive = came_more arrival_of done seat n before now after (input pair.0).content (output pair.1).content so (subst (λ (r : Result (Option (In × Out)) Failed). Accepts input output r now after) is takes) arrive

  pub no_more_came : (arrivals : List Moment) (n most : ℕ) → result ≡ Ok None → n ≤ most → SoFar arrivals n before now → Came (Ok tt) most arrivals before after
  no_more_came arrivals n most is few so =
      let none = subst (λ (r : Result (Option (In × Out)) Failed). Accepts input output r now after) is takes in
      none_left arrivals n most before after few (subst (λ (o : Option Connections). SoFar arrivals n before o) (sym none.0) so) (subst (λ (o : Option Connections). Told o (λ c. c.waiting ≡ [])) (sym none.0) none.1)
