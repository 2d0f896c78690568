-- The status and the line of each way in which a command ends.
use Rattle.std.specs.Prelude.{ℕ, nat_eq, if◌then◌else◌, Option, None, Some, Bool, true, false, List, [], ◌∷◌, ◌++◌, codes}
use Rattle.std.specs.Fmt.{decimal}
use Rattle.desk_values.specs.Text.{reply_text}
use Rattle.capture_format.specs.SessionFile.{number_text}
use Rattle.captured_calls.specs.declared.refusal.Refusal.{Refusal as Illegal}
use Rattle.captured_calls.specs.declared.refusal.Refusal.TheVariants.{TooMany, Stamp, Number, Seen, Times, Stranger, Reply as WrongReply, Memory}
use Rattle.replay_cli.specs.declared.failure.Refusal.{Refusal}
use Rattle.replay_cli.specs.declared.failure.Refusal.TheVariants.{Missing, TooLong, BadLine, BadReport, BadRemap, BadChange, NotLegal, Unshown}
use Rattle.capture_recorder.specs.declared.door.Said.{Said}
use Rattle.capture_serve.specs.declared.failing.Finding.{Finding}
use Rattle.capture_serve.specs.declared.failing.Finding.TheVariants as found
use Rattle.replay_cli.specs.declared.failure.Failure.{Failure}
use Rattle.replay_cli.specs.declared.failure.Failure.TheVariants.{BadCommand, Refused, Differs, NotDone, NotSent, DeviceFault, OutOfMemory}
use Rattle.register_work.specs.Lines.{bad_report_line, unkept_line, unkept_status}
use Rattle.run_files.specs.Lines.{misfit_text}
use Rattle.replay_cli.specs.declared.unshown.Unshown.{Unshown as NotShown}
use Rattle.replay_cli.specs.declared.unshown.Unshown.TheVariants as unshown
use Rattle.desk_values.specs.declared.call.Reply.{Reply}
use Rattle.remote_link.specs.declared.heard.Heard.{Heard}
use Rattle.replay_cli.specs.declared.unsent.Unsent.{Unsent}
use Rattle.replay_cli.specs.declared.unsent.Unsent.TheVariants as unsent

abbrev pub unshown_status : NotShown → ℕ
unshown_status (unshown.BadJournal name line) = 16
unshown_status (unshown.BadReads name line) = 16
unshown_status (unshown.Unfit found) = 17
unshown_status (unshown.NoCall stamp) = 14

abbrev pub refusal_status : Refusal → ℕ
refusal_status (Missing name) = 4
refusal_status (TooLong name) = 8
refusal_status (BadLine name line) = 3
refusal_status (BadReport name line) = 13
refusal_status (BadRemap n) = 7
refusal_status (BadChange n) = 7
refusal_status (NotLegal cause) = 3
refusal_status (Unshown cause) = unshown_status cause

abbrev pub unsent_status : Unsent → ℕ
unsent_status unsent.Link = 10
unsent_status unsent.Job = 9
unsent_status (unsent.Mismatch session place kept answered) = 9

abbrev pub failure_status : Failure → ℕ
failure_status BadCommand = 2
failure_status (Refused refusal) = refusal_status refusal
failure_status (Differs finding) = 9
failure_status (NotDone cause) = unkept_status cause
failure_status (NotSent cause) = unsent_status cause
failure_status DeviceFault = 5
failure_status OutOfMemory = 6

-- what is wrong with a capture that is not legal
abbrev pub cause_text : Illegal → List ℕ
cause_text (TooMany calls) = decimal calls ++ codes " calls"
cause_text (Stamp k) = codes "stamp " ++ decimal k
cause_text (Number k written right) = codes "stamp " ++ (decimal k ++ (codes " has number " ++ (number_text written ++ (codes ", not " ++ number_text right))))
cause_text (Seen k written right) = codes "stamp " ++ (decimal k ++ (codes " saw " ++ (decimal written ++ (codes ", not " ++ decimal right))))
cause_text (Times k) = codes "times at stamp " ++ decimal k
cause_text (Stranger k) = codes "unknown id at stamp " ++ decimal k
cause_text (WrongReply k written right) = codes "stamp " ++ (decimal k ++ (codes " replied " ++ (reply_text written ++ (codes ", not " ++ reply_text right))))
-- want of memory is a failure of its own, and no cause
cause_text Memory = []

-- why what was to be shown is not
abbrev pub unshown_line : NotShown → List ℕ
unshown_line (unshown.BadJournal name line) = codes "bad journal: " ++ (name ++ (codes " line " ++ (decimal line ++ 10 ∷ [])))
unshown_line (unshown.BadReads name line) = codes "bad plain reads: " ++ (name ++ (codes " line " ++ (decimal line ++ 10 ∷ [])))
unshown_line (unshown.Unfit found) = codes "other replay: " ++ (misfit_text found ++ 10 ∷ [])
unshown_line (unshown.NoCall stamp) = codes "no such call: stamp " ++ (decimal stamp ++ 10 ∷ [])

abbrev pub refusal_line : Refusal → List ℕ
refusal_line (Missing name) = codes "missing: " ++ (name ++ 10 ∷ [])
refusal_line (TooLong name) = codes "too long: " ++ (name ++ 10 ∷ [])
refusal_line (BadLine name line) = codes "bad capture: " ++ (name ++ (codes " line " ++ (decimal line ++ 10 ∷ [])))
refusal_line (BadReport name line) = bad_report_line name line
refusal_line (BadRemap n) = codes "bad remap: row " ++ (decimal n ++ 10 ∷ [])
refusal_line (BadChange n) = codes "bad change: row " ++ (decimal n ++ 10 ∷ [])
refusal_line (NotLegal cause) = codes "bad capture: " ++ (cause_text cause ++ 10 ∷ [])
refusal_line (Unshown cause) = unshown_line cause

-- the reply of a call, and a dash where there is no call
abbrev pub said_text : Option Said → List ℕ
said_text None = codes "-"
said_text (Some said) = reply_text said.reply

-- a place of a session, and what stands there on both sides
abbrev pub mismatch_line : ℕ → ℕ → List ℕ → List ℕ → List ℕ
mismatch_line session place kept answered =
    codes "mismatch: session " ++ (decimal session ++ (codes " place " ++ (decimal place ++ (codes ": " ++ (kept ++ (codes " / " ++ (answered ++ 10 ∷ [])))))))

-- the reply of a call, and a dash where there is no call or no reply to it
abbrev pub reply_or_dash : Option Reply → List ℕ
reply_or_dash None = codes "-"
reply_or_dash (Some reply) = reply_text reply

abbrev pub heard_text : Option Heard → List ℕ
heard_text None = codes "-"
heard_text (Some heard) = reply_or_dash heard.reply

-- why a replay against another server came to no end
abbrev pub unsent_line : Unsent → List ℕ
unsent_line unsent.Link = codes "link fault\n"
unsent_line unsent.Job = codes "mismatch: job\n"
unsent_line (unsent.Mismatch session place kept answered) = mismatch_line session place (heard_text kept) (heard_text answered)

-- what was found to differ
abbrev pub finding_line : Finding → List ℕ
finding_line found.Start = codes "mismatch: start\n"
finding_line (found.Mismatch session place kept answered) = mismatch_line session place (said_text kept) (said_text answered)
finding_line (found.Refusal session n) = codes "mismatch: session " ++ (decimal session ++ (codes " refusal " ++ (decimal n ++ 10 ∷ [])))

abbrev pub failure_line : Failure → List ℕ
failure_line BadCommand = codes "bad command" ++ 10 ∷ []
failure_line (Refused refusal) = refusal_line refusal
failure_line (Differs finding) = finding_line finding
failure_line (NotDone cause) = unkept_line cause
failure_line (NotSent cause) = unsent_line cause
failure_line DeviceFault = codes "device fault" ++ 10 ∷ []
failure_line OutOfMemory = codes "out of memory" ++ 10 ∷ []

-- ---- what is printed of a command that was done

-- 1 where calls differ, or a comparison found something new or changed
abbrev pub done_status : Bool → ℕ
done_status true = 1
done_status false = 0

-- how many, and of what
abbrev pub counted : ℕ → List ℕ → List ℕ
counted n words = decimal n ++ words

-- a word, how many calls, and what is said of them
abbrev pub counted_line : List ℕ → ℕ → List ℕ → List ℕ
counted_line word calls rest = word ++ counted calls rest

-- how many calls were replayed, and how many of them differ
abbrev pub replayed_line : ℕ → ℕ → List ℕ
replayed_line calls divergent = codes "replayed " ++ (counted calls (codes " calls, ") ++ counted divergent (codes " divergent\n"))

abbrev pub prepared_line : ℕ → List ℕ
prepared_line calls = counted_line (codes "prepared ") calls (codes " calls\n")

-- of how many calls a page is, and how many of them differ
abbrev pub paged_line : ℕ → ℕ → List ℕ
paged_line calls divergent = codes "paged " ++ (counted calls (codes " calls, ") ++ counted divergent (codes " divergent\n"))

abbrev pub generated_line : ℕ → List ℕ
generated_line calls = counted_line (codes "generated ") calls (codes " calls\n")

abbrev pub trial_line : ℕ → ℕ → ℕ → List ℕ
trial_line n calls commits = codes "trial " ++ (counted n (codes ": ") ++ (counted calls (codes " calls, 0 divergent, ") ++ counted commits (codes " commits\n")))

-- how many connections were short of memory, where some were
abbrev pub short_text : ℕ → List ℕ
short_text n = if nat_eq n 0 then codes "\n" else (codes ", " ++ counted n (codes " short of memory\n"))

-- how many connections were served, and how many calls were captured
abbrev pub served_line : ℕ → ℕ → ℕ → List ℕ
served_line connections calls short = codes "served " ++ (counted connections (codes " connections, ") ++ counted calls (codes " calls" ++ short_text short))
