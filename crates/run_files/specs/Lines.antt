-- What is told of a misfit.
use Rattle.std.specs.Prelude.{ℕ, List, ◌++◌, codes}
use Rattle.std.specs.Fmt.{decimal}
use Rattle.run_files.specs.declared.misfit.Kind.{Kind}
use Rattle.run_files.specs.declared.misfit.Kind.TheVariants as kind
use Rattle.run_files.specs.declared.misfit.Misfit.{Misfit}
use Rattle.run_files.specs.declared.misfit.Misfit.TheVariants as misfit

abbrev pub kind_word : Kind → List ℕ
kind_word kind.Start = codes "starts"
kind_word kind.Answer = codes "answers"

-- a file, how many things it has, and how many it should
abbrev pub counts_text : List ℕ → ℕ → List ℕ → ℕ → List ℕ
counts_text file found things right = file ++ (codes " has " ++ (decimal found ++ (codes " " ++ (things ++ (codes ", not " ++ decimal right)))))

-- a file, and what does not stand there just once, or elsewhere
abbrev pub at_text : List ℕ → List ℕ → ℕ → List ℕ
at_text file things stamp = file ++ (codes " " ++ (things ++ (codes " at stamp " ++ decimal stamp)))

abbrev pub misfit_text : Misfit → List ℕ
misfit_text (misfit.Events which events calls) = counts_text (codes "journal.txt") events (kind_word which) calls
misfit_text (misfit.Event which stamp) = at_text (codes "journal.txt") (kind_word which) stamp
misfit_text (misfit.Calls reported calls) = counts_text (codes "report.txt") reported (codes "calls") calls
misfit_text (misfit.Place stamp) = at_text (codes "report.txt") (codes "calls") stamp
misfit_text misfit.Causes = codes "causes.csv"
misfit_text misfit.Reads = codes "fence.txt"
misfit_text (misfit.Read stamp) = at_text (codes "fence.txt") (codes "reads") stamp
