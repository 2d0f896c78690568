-- What the bytes that were left give, by what is held of them.
use Rattle.std.proofs.Common.{◌≡◌, ℕ, ◌+◌, List, [], ◌++◌, take, drop, slice_range, Option, None, Some, Result, Ok, Err, IfOk, rules, ◌⊎◌, refl, sym, ap, ◌∙◌, inl, inr, append_assoc, append-nil}
use Rattle.std.proofs.lemmas.List.{take-append-drop}
use Rattle.std.specs.Prelude.{IsErrOf}
use Rattle.desk_values.specs.declared.call.Call.{Call}
use Rattle.desk_values.specs.declared.call.Reply.{Reply}
use Rattle.desk_files.specs.Outside.{Appends, AppendsPart, HasRisen, Told}
use Rattle.http_answers.specs.declared.answer.Answer.{Answer}
use Rattle.http_answers.specs.Answers.{IsAnswer, IsUnfinished, IsWholeAt, NeverAnswers}
use Rattle.http_answers.proofs.Answering.{agree}
use Rattle.remote_link.specs.declared.link_err.LinkErr.{LinkErr}
use Rattle.remote_link.specs.declared.link_err.LinkErr.TheVariants.{Failed, Memory}
use Rattle.remote_link.specs.Inside.{IsHopeless, LosesNothing, Reads, Stops}
use Rattle.remote_link.specs.Talk.{Converses, Gives, GivesNone, Takes, left_of, request_text}

-- bytes that begin with no answer begin with none that gives a reply
none_never : (held more bytes : List ℕ) → bytes ≡ held ++ more → NeverAnswers held → GivesNone bytes
none_never held more bytes is never own rest reply replied same = never more own rest replied.status replied.body replied.answer (sym is ∙ same)

none_unfinished : (held more bytes : List ℕ) → bytes ≡ held ++ more → more ≡ [] → IsUnfinished held → GivesNone bytes
none_unfinished held more bytes is none unfinished own rest reply replied same =
    unfinished own rest replied.status replied.body replied.answer (sym (append-nil held) ∙ ap (λ (l : List ℕ). held ++ l) (sym none) ∙ sym is ∙ same)

pub hopeless_gives_none : (before held : List ℕ) (x y : Option (List ℕ)) → LosesNothing before x held y → IsHopeless held x y → Told (left_of before x) GivesNone
hopeless_gives_none before held None y keeps hopeless = tt
hopeless_gives_none before held (Some x) None keeps hopeless = absurd keeps
hopeless_gives_none before held (Some x) (Some y) keeps (inl never) = none_never held y (before ++ x) keeps never
hopeless_gives_none before held (Some x) (Some y) keeps (inr ended) = none_unfinished held y (before ++ x) keeps ended.1 ended.0

-- an answer at the front that gives no reply
pub mute_gives_none : (own rest : List ℕ) (status : ℕ) (body : List ℕ) (bytes : List ℕ) → bytes ≡ own ++ rest → IsAnswer own status body → ((reply : Reply) → Gives status body reply → ⊥) → GivesNone bytes
mute_gives_none own rest status body bytes is answer mute other more reply replied same =
    let one = agree own other status replied.status body replied.body rest more answer replied.answer (sym is ∙ same) in
    mute reply (rw (one.1, one.2) replied.gives)

-- one that gives a reply was taken
pub taken : (held left : List ℕ) (n : ℕ) (status : ℕ) (body : List ℕ) (reply : Reply) (bytes : List ℕ) → bytes ≡ held ++ left → IsAnswer (take n held) status body → Gives status body reply → Takes reply bytes (Some (drop n held ++ left))
taken held left n status body reply bytes is answer gives = (
  take n held,
  drop n held ++ left,
  record { status = status; body = body; answer = answer; gives = gives },
  is ∙ ap (λ (l : List ℕ). l ++ left) (sym (take-append-drop n held)) ∙ append_assoc (take n held) (drop n held) left,
  refl,
)

-- ---- the answer that is held whole

pub takes_on : (before held : List ℕ) (x y : Option (List ℕ)) (answer : Answer) (reply : Reply) → LosesNothing before x held y → IsWholeAt held answer → Gives answer.status (slice_range held answer.head (answer.head + answer.body)) reply
    → Told (left_of before x) (λ bytes. Takes reply bytes (left_of (drop (answer.head + answer.body) held) y))
takes_on before held None y answer reply keeps whole gives = tt
takes_on before held (Some x) None answer reply keeps whole gives = absurd keeps
takes_on before held (Some x) (Some y) answer reply keeps whole gives =
    taken held y (answer.head + answer.body) answer.status (slice_range held answer.head (answer.head + answer.body)) reply (before ++ x) keeps whole.is gives

pub mute_on : (before held : List ℕ) (x y : Option (List ℕ)) (answer : Answer) → LosesNothing before x held y → IsWholeAt held answer → ((reply : Reply) → Gives answer.status (slice_range held answer.head (answer.head + answer.body)) reply → ⊥)
    → Told (left_of before x) GivesNone
mute_on before held None y answer keeps whole mute = tt
mute_on before held (Some x) None answer keeps whole mute = absurd keeps
mute_on before held (Some x) (Some y) answer keeps whole mute =
    let n = answer.head + answer.body in
    let parts : before ++ x ≡ take n held ++ (drop n held ++ y) = keeps ∙ ap (λ (l : List ℕ). l ++ y) (sym (take-append-drop n held)) ∙ append_assoc (take n held) (drop n held) y in
    mute_gives_none (take n held) (drop n held ++ y) answer.status (slice_range held answer.head n) (before ++ x) parts whole.is mute

-- ---- what was sent

-- where nothing was written
pub nothing_sent : (bytes : List ℕ) (written : Option (List ℕ)) → AppendsPart bytes written written
nothing_sent bytes None = tt
nothing_sent bytes (Some told) = (0, search rules)

-- ---- how a call ends

-- no answer came
pub stops_so : (error : LinkErr) (before held : List ℕ) (x y : Option (List ℕ)) (f g h k : ℕ) → LosesNothing before x held y → Stops error held x y f g → error ≡ Failed → HasRisen f g ⊎ (HasRisen h k ⊎ Told (left_of before x) GivesNone)
stops_so Failed before held x y f g h k keeps (inl risen) is = inl risen
stops_so Failed before held x y f g h k keeps (inr hopeless) is = inr (inr (hopeless_gives_none before held x y keeps hopeless))
stops_so Memory before held x y f g h k keeps stops is = absurd cc

module _ (call : Call) (before held : List ℕ) (x y written written' : Option (List ℕ)) (answer : Answer) (keeps : LosesNothing before x held y) (whole : IsWholeAt held answer) where
  abbrev body : List ℕ
  body = slice_range held answer.head (answer.head + answer.body)

  -- one came that gives a reply
  pub converses_so : (result : Result Reply LinkErr) → Reads answer.status body result → Appends (request_text call) written written' → IfOk result (λ reply. Converses call reply (left_of before x) (left_of (drop (answer.head + answer.body) held) y) written written')
  converses_so (Ok reply) reads sent = record { sent = sent; taken = takes_on before held x y answer reply keeps whole reads }
  converses_so (Err error) reads sent = tt

  -- or one that gives none
  pub mute_so : (result : Result Reply LinkErr) → Reads answer.status body result → IsErrOf result Failed → Told (left_of before x) GivesNone
  mute_so (Ok reply) reads is = absurd cc
  mute_so (Err Failed) reads is = mute_on before held x y answer keeps whole reads
  mute_so (Err Memory) reads is = absurd cc
