-- The three truth values of SQL and their connectives (ISO/IEC 9075-2, boolean value expression).
use Rattle.std.specs.Prelude.{Bool, true, false, Option, None, Some}
use Rattle.sql_eval.specs.declared.logic.Truth.{Truth}
use Rattle.sql_eval.specs.declared.logic.Truth.TheVariants.{True, False, Unknown}

-- unknown stays unknown
abbrev pub negation : Truth → Truth
negation True = False
negation False = True
negation Unknown = Unknown

-- AND: a false side decides, then an unknown one
abbrev pub conjunction : Truth → Truth → Truth
conjunction False other = False
conjunction Unknown False = False
conjunction Unknown other = Unknown
conjunction True other = other

-- OR: a true side decides, then an unknown one
abbrev pub disjunction : Truth → Truth → Truth
disjunction True other = True
disjunction Unknown True = True
disjunction Unknown other = Unknown
disjunction False other = other

-- the truth of a test, unknown where there was nothing to test
abbrev pub truth_of_test : Option Bool → Truth
truth_of_test None = Unknown
truth_of_test (Some true) = True
truth_of_test (Some false) = False
