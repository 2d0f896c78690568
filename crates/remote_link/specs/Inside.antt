-- Words of private clauses. They need not be believed.
use Rattle.std.specs.Prelude.{◌≡◌, ◌⊎◌, ℕ, List, [], ◌++◌, length, Option, IsSomeAnd, Result, Ok, Err, ⊤}
use Rattle.desk_values.specs.declared.call.Reply.{Reply}
use Rattle.desk_files.specs.Outside.{HasRisen, Told}
use Rattle.http_answers.specs.declared.answer.Answer.{Answer}
use Rattle.http_answers.specs.Answers.{Begins, IsUnfinished, IsWholeAt, NeverAnswers}
use Rattle.remote_link.specs.declared.link_err.LinkErr.{LinkErr}
use Rattle.remote_link.specs.declared.link_err.LinkErr.TheVariants.{Failed, Memory}
use Rattle.remote_link.specs.Talk.{Gives}

-- no byte was lost: what was held, and then what was left, is what is held, and then what is left
abbrev pub LosesNothing : List ℕ → Option (List ℕ) → List ℕ → Option (List ℕ) → Type 0
LosesNothing held before held' after = Told before (λ left. IsSomeAnd after (λ left'. held ++ left ≡ held' ++ left'))

-- the input has ended: where it told the bytes left before, none are left after
abbrev pub HasEnded : Option (List ℕ) → Option (List ℕ) → Type 0
HasEnded before left = Told before (λ told. Told left (λ rest. rest ≡ []))

-- what is held can't become an answer: no bytes are left, or none that may follow make it one
abbrev pub IsHopeless : List ℕ → Option (List ℕ) → Option (List ℕ) → Type 0
IsHopeless held before left = NeverAnswers held ⊎ (IsUnfinished held × HasEnded before left)

-- why no whole answer came
abbrev pub Stops : LinkErr → List ℕ → Option (List ℕ) → Option (List ℕ) → ℕ → ℕ → Type 0
Stops Failed held before left faults faults' = HasRisen faults faults' ⊎ IsHopeless held before left
Stops Memory held before left faults faults' = ⊤

-- the bytes that were read came behind those that were held
abbrev pub Came : Result ℕ LinkErr → List ℕ → List ℕ → Option (List ℕ) → Option (List ℕ) → ℕ → ℕ → Type 0
Came (Ok n) held held' before left faults faults' = (more : List ℕ) × (length more ≡ n) × (held' ≡ held ++ more) × (n ≡ 0 → HasEnded before left)
Came (Err Failed) held held' before left faults faults' = HasRisen faults faults'
Came (Err Memory) held held' before left faults faults' = ⊤

-- the head of an answer is held
abbrev pub HeadCame : Result Answer LinkErr → List ℕ → Option (List ℕ) → Option (List ℕ) → ℕ → ℕ → Type 0
HeadCame (Ok answer) held before left faults faults' = Begins held answer
HeadCame (Err error) held before left faults faults' = Stops error held before left faults faults'

-- all of that answer is held
abbrev pub BodyCame : Result (Unit {0}) LinkErr → Answer → List ℕ → Option (List ℕ) → Option (List ℕ) → ℕ → ℕ → Type 0
BodyCame (Ok done) answer held before left faults faults' = IsWholeAt held answer
BodyCame (Err error) answer held before left faults faults' = Stops error held before left faults faults'

abbrev pub AnswerCame : Result Answer LinkErr → List ℕ → Option (List ℕ) → Option (List ℕ) → ℕ → ℕ → Type 0
AnswerCame (Ok answer) held before left faults faults' = IsWholeAt held answer
AnswerCame (Err error) held before left faults faults' = Stops error held before left faults faults'

-- the reply that an answer gives
abbrev pub Reads : ℕ → List ℕ → Result Reply LinkErr → Type 0
Reads status body (Ok reply) = Gives status body reply
Reads status body (Err Failed) = (reply : Reply) → Gives status body reply → ⊥
Reads status body (Err Memory) = ⊤
